-- Calls one after another, each with a crash after it: what the last of them leaves.
use Rattle.std.proofs.Common.{◌≡◌, ◌⊎◌, inl, inr, ℕ, ◌+◌, ◌≤◌, List, [], ◌∷◌, ◌++◌, length, take, map, refl, ap, sym, ◌∙◌, subst, arith, append-nil, length-take}
use Rattle.std.proofs.lemmas.List.{take_all}
use Rattle.base_devices.specs.declared.disk.Disk.{Ghosts}
use Rattle.model_base.specs.Log.{SpellsWhole}
use Rattle.model_base.specs.Recovery.{Logged, logged_bytes}
use Rattle.run_outcome.specs.Running.{Before, RecoversTo}
use Rattle.crash_laws.specs.Restarts.{Call, execution_of, number_of, kept_in, AreFirstAdded, of_groups, AreFirst, of_kept, and_added, WereSafe, CrashLeaves, in_call, in_opening, after_end, Crashed, AreInTurn, WereLeftSafe, AreOneHistory, AllStays}
use Rattle.crash_laws.proofs.Promised.{goes_after}
use Rattle.crash_laws.proofs.Front.{spelled, found_by_none, found_in_opening}
use Rattle.crash_laws.proofs.Certain.{safe_found, kept_at_end}

module _ {D : Type 0} {disk : Ghosts D} where
  -- all that a call kept was safe
  kept_safe : (call : Call disk) → length call.ran.before.kept ≤ call.found.synced → WereSafe call (length (kept_in call))
  kept_safe call safe =
      let bytes : List ℕ = call.ran.before.kept in
      record {
        some = omega arith;
        bytes = length bytes;
        kept = omega arith;
        safe = safe;
        spelled = subst (λ (l : List ℕ). SpellsWhole (number_of call) l (map logged_bytes (take (length (kept_in call)) (kept_in call)))) (sym (take_all (length bytes) bytes (omega arith)))
            (subst (λ (bs : List Logged). SpellsWhole (number_of call) bytes (map logged_bytes bs)) (sym (take_all (length (kept_in call)) (kept_in call) (omega arith))) (spelled call));
      }

  -- it had kept nothing, or all of it was safe
  abbrev IsSettled : Call disk → Type 0
  IsSettled call = (kept_in call ≡ []) ⊎ (length call.ran.before.kept ≤ call.found.synced)

  module _ (call : Call disk) (image : List ℕ) (next : Before) (to : RecoversTo (number_of call) image next) where
    finds : CrashLeaves call image → AreFirst call next.batches
    finds (in_call left none) = found_by_none call image next to none
    finds (in_opening opening) = found_in_opening call image next to opening
    finds (after_end left none) = found_by_none call image next to none

    in_the_call : IsSettled call → (execution_of call).images image → take (length (kept_in call)) next.batches ≡ kept_in call
    in_the_call (inl none) left = subst (λ (l : List Logged). take (length l) next.batches ≡ l) (sym none) refl
    in_the_call (inr safe) left = safe_found call image next to (length (kept_in call)) left (kept_safe call safe) ∙ take_all (length (kept_in call)) (kept_in call) (omega arith)

    -- so all of it is found
    kept_stays : IsSettled call → CrashLeaves call image → take (length (kept_in call)) next.batches ≡ kept_in call
    kept_stays settled (in_call left none) = in_the_call settled left
    kept_stays settled (in_opening opening) = in_the_call settled opening.left
    kept_stays settled (after_end left none) =
        let few : length (kept_in call) ≡ length (kept_in call) + 0 = omega arith in
        ap (λ (n : ℕ). take n next.batches) few ∙ kept_at_end call image next to left none ∙ append-nil (kept_in call)

  pub one_history : (calls : List (Crashed disk)) (c : Crashed disk) (next : Before) → AreInTurn (c ∷ calls) → RecoversTo (number_of c.call) c.image next → AreOneHistory (c ∷ calls) next.batches
  one_history [] c next turn to = (finds c.call c.image next to c.left, turn)
  one_history (earlier ∷ calls) c next turn to = (finds c.call c.image next to c.left, one_history calls earlier c.call.ran.before turn.1 (goes_after earlier.call earlier.image c.call turn.0))

  -- All stays

  abbrev IsLeft : Crashed disk → List Logged → Type 0
  IsLeft c batches = (added : List Logged) × AreFirstAdded c.call added × (batches ≡ kept_in c.call ++ added)

  left_of : (c : Crashed disk) (next : Before) → RecoversTo (number_of c.call) c.image next → IsSettled c.call → IsLeft c next.batches
  left_of c next to settled = by_first (finds c.call c.image next to c.left)
    where
      most : take (length (kept_in c.call)) next.batches ≡ kept_in c.call
      most = kept_stays c.call c.image next to settled c.left

      by_first : AreFirst c.call next.batches → IsLeft c next.batches
      by_first (of_kept n same) =
          let long : length (kept_in c.call) ≤ length next.batches = omega (arith, ap length most, length-take (length (kept_in c.call)) next.batches) in
          let whole : take n (kept_in c.call) ≡ kept_in c.call = take_all n (kept_in c.call) (omega (arith, long, ap length same, length-take n (kept_in c.call))) in
          ([], of_groups 0 refl, same ∙ whole ∙ sym (append-nil (kept_in c.call)))
      by_first (and_added added first same) = (added, first, same)

  pub all_stays : (calls : List (Crashed disk)) (c : Crashed disk) (next : Before) → AreInTurn (c ∷ calls) → WereLeftSafe (c ∷ calls) → RecoversTo (number_of c.call) c.image next → AllStays (c ∷ calls) next.batches
  all_stays [] c next turn safe to = let left = left_of c next to (inl turn) in (left.0, left.1, left.2, turn)
  all_stays (earlier ∷ calls) c next turn safe to =
      let found = goes_after earlier.call earlier.image c.call turn.0 in
      let enough : length earlier.image ≤ c.call.found.synced = safe.0 in
      let left = left_of c next to (inr (omega (arith, enough, ap length found.kept, length-take (found.recovered).kept earlier.image))) in
      (left.0, left.1, left.2, all_stays calls earlier c.call.ran.before turn.1 safe.1 found)
