-- Bytes, with the places where batches end in them, are those of at most one list of batches.
use Rattle.std.specs.Prelude.{◌≡◌, ℕ, ◌+◌, List, [], ◌∷◌, ◌++◌, length, take, drop, get_or}
use Rattle.std.specs.List.{AllByRecursion, AllByRecursion-prop}
use Rattle.std.specs.Coded.{Coded-set, coded_ℕ, coded_list}
use Rattle.std.proofs.Common.{refl, sym, ap, ◌∙◌, subst, arith}
use Rattle.std.proofs.Math.Seq.{take-append_seam, drop-append_seam}
use mathlib.Core.HLevel.{is_prop→PathP}
use Rattle.model_base.specs.declared.history.Flag.{Flag}
use Rattle.model_base.specs.declared.history.Flag.TheVariants.{Log, NoLog, Sync}
use Rattle.log_batch.specs.Contents.{Contents}
use Rattle.run_batches.specs.declared.accepted.AcceptedBatch.{AcceptedBatch}
use Rattle.run_batches.specs.OneBatch.{batch_bytes, IsBatchOf, IsBatchOf-prop, one_batch}
use Rattle.run_batches.specs.Layout.{byte_of, flag_of, bytes_of, body, ends_from}

-- a batch that its bytes determine
abbrev pub Fits : AcceptedBatch Contents → Type 0
Fits kept = IsBatchOf (batch_bytes kept.batch) kept.batch

-- The bytes are those of batches, and each ends where `ends` says. No other batches have these bytes and ends.
pub record AreBatches (bytes ends : List ℕ) : Type 0 where
  pub batches : List (AcceptedBatch Contents)
  pub fit : AllByRecursion Fits batches
  pub spelled : bytes ≡ body batches
  pub ends_are : ends ≡ ends_from 0 batches

pub flag_back : (flag : Flag) → flag_of (byte_of flag) ≡ flag
flag_back Log = refl
flag_back NoLog = refl
flag_back Sync = refl

one_kept : (a b : AcceptedBatch Contents) → Fits a → Fits b → bytes_of a ≡ bytes_of b → a ≡ b
one_kept a b fit_a fit_b same =
    let flags : a.flag ≡ b.flag =
    sym (flag_back a.flag) ∙ ap (λ (l : List ℕ). flag_of (get_or l 0 0)) same ∙ flag_back b.flag in
    let bytes : batch_bytes a.batch ≡ batch_bytes b.batch = ap (drop 1) same in
    let batches : a.batch ≡ b.batch = one_batch (batch_bytes a.batch) a.batch b.batch fit_a
    (subst (λ (l : List ℕ). IsBatchOf l b.batch) (sym bytes) fit_b) in
    λ i. record { flag = flags i; batch = batches i }

-- two beginnings of the same bytes that have the same length are equal, and so is what follows them
same_fronts : (a b x y : List ℕ) → length a ≡ length b → a ++ x ≡ b ++ y → (a ≡ b) × (x ≡ y)
same_fronts a b x y long same = (
  sym (take-append_seam a x) ∙ ap (λ (l : List ℕ). take (length a) l) same
      ∙ ap (λ (n : ℕ). take n (b ++ y)) long ∙ take-append_seam b y,
  sym (drop-append_seam a x) ∙ ap (λ (l : List ℕ). drop (length a) l) same
      ∙ ap (λ (n : ℕ). drop n (b ++ y)) long ∙ drop-append_seam b y,
)

one_list : (begin : ℕ) (a b : List (AcceptedBatch Contents)) → AllByRecursion Fits a → AllByRecursion Fits b
    → body a ≡ body b → ends_from begin a ≡ ends_from begin b → a ≡ b
one_list begin [] [] fit_a fit_b same ends = refl
one_list begin [] (l ∷ b) fit_a fit_b same ends = absurd (omega (arith, ap length ends))
one_list begin (k ∷ a) [] fit_a fit_b same ends = absurd (omega (arith, ap length ends))
one_list begin (k ∷ a) (l ∷ b) fit_a fit_b same ends =
    let end : begin + length (bytes_of k) ≡ begin + length (bytes_of l) = ap (λ (e : List ℕ). get_or e 0 0) ends in
    let parts = same_fronts (bytes_of k) (bytes_of l) (body a) (body b) (omega (arith, end)) same in
    let rest = one_list (begin + length (bytes_of k)) a b fit_a.1 fit_b.1 parts.1
    (ap (λ (e : List ℕ). drop 1 e) ends ∙ ap (λ (n : ℕ). ends_from n b) (sym end)) in
    ap (λ (v : AcceptedBatch Contents). v ∷ a) (one_kept k l fit_a.0 fit_b.0 parts.0)
    ∙ ap (λ (r : List (AcceptedBatch Contents)). l ∷ r) rest

Fits-prop : (k : AcceptedBatch Contents) → IsProp (Fits k)
Fits-prop k = IsBatchOf-prop (batch_bytes k.batch) k.batch

pub same_batches : (bytes ends : List ℕ) (x y : AreBatches bytes ends) → x.batches ≡ y.batches
same_batches bytes ends x y =
    one_list 0 x.batches y.batches x.fit y.fit (sym x.spelled ∙ y.spelled) (sym x.ends_are ∙ y.ends_are)

pub AreBatches-prop : (bytes ends : List ℕ) → IsProp (AreBatches bytes ends)
AreBatches-prop bytes ends x y = λ i. record {
  batches = same_batches bytes ends x y i;
  fit = is_prop→PathP (λ j. AllByRecursion Fits (same_batches bytes ends x y j))
      (λ j. AllByRecursion-prop Fits Fits-prop (same_batches bytes ends x y j)) x.fit y.fit i;
  spelled = is_prop→PathP (λ j. bytes ≡ body (same_batches bytes ends x y j))
      (λ j. Coded-set (coded_list coded_ℕ) bytes (body (same_batches bytes ends x y j))) x.spelled y.spelled i;
  ends_are = is_prop→PathP (λ j. ends ≡ ends_from 0 (same_batches bytes ends x y j))
      (λ j. Coded-set (coded_list coded_ℕ) ends (ends_from 0 (same_batches bytes ends x y j)))
      x.ends_are y.ends_are i;
}
