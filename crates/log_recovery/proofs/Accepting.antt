-- Which log the mode is asked about: the one in which reading ended.
use Rattle.std.proofs.Common.{◌≡◌, ℕ, ◌+◌, ◌<◌, List, [], ◌∷◌, ◌++◌, length, refl, ap, subst, arith}
use Rattle.model_base.specs.declared.log.EndReason.{EndReason}
use Rattle.model_base.specs.Log.{plain_log}
use Rattle.log_recovery.specs.declared.modes.Mode.{Mode}
use Rattle.log_recovery.specs.Modes.{Accepts}
use Rattle.log_recovery.specs.RecoveringLogs.{AcceptFrom}

module _ (mode : Mode) (file : List ℕ) (files : List (List ℕ)) (first : ℕ) (why : EndReason) where
  -- the first one
  pub accepts_first : (at : ℕ) → Accepts plain_log mode file at why → AcceptFrom first mode (file ∷ files) first at why
  accepts_first at accepts = record { before = []; file = file; after = files; cut = refl; log_is = omega arith; accepts = accepts }

  pub refuses_first : (at : ℕ) → (Accepts plain_log mode file at why → ⊥) → AcceptFrom first mode (file ∷ files) first at why → ⊥
  refuses_first at refuses a = by_before a.before a.cut a.log_is
    where
      by_before : (before : List (List ℕ)) → file ∷ files ≡ before ++ a.file ∷ a.after → first ≡ first + length before → ⊥
      by_before [] cut place = let same : a.file ≡ file = cc in refuses (subst (λ (l : List ℕ). Accepts plain_log mode l at why) same a.accepts)
      by_before (f ∷ before) cut place = omega (arith, place)

  -- a later one
  pub accepts_later : (log at : ℕ) → AcceptFrom (first + 1) mode files log at why → AcceptFrom first mode (file ∷ files) log at why
  accepts_later log at a = record {
    before = file ∷ a.before;
    file = a.file;
    after = a.after;
    cut = ap (λ (l : List (List ℕ)). file ∷ l) a.cut;
    log_is = omega (arith, a.log_is);
    accepts = a.accepts;
  }

  pub accepted_later : (log at : ℕ) → first < log → AcceptFrom first mode (file ∷ files) log at why → AcceptFrom (first + 1) mode files log at why
  accepted_later log at later a = by_before a.before a.cut a.log_is
    where
      by_before : (before : List (List ℕ)) → file ∷ files ≡ before ++ a.file ∷ a.after → log ≡ first + length before → AcceptFrom (first + 1) mode files log at why
      by_before [] cut place = absurd (omega (arith, later, place))
      by_before (f ∷ before) cut place =
          let tail : files ≡ before ++ a.file ∷ a.after = cc in
          record { before = before; file = a.file; after = a.after; cut = tail; log_is = omega (arith, place); accepts = a.accepts }
