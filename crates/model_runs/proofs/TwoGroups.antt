-- Images of the log of two groups.
use Rattle.std.proofs.Common.{◌≡◌, ℕ, zero, suc, List, [], ◌∷◌, ◌++◌, length, take, Some, slice_get, refl, ap, sym, subst, arith}
use Rattle.std.proofs.Math.Dec.{lit≤}
use Rattle.std.proofs.Math.Seq.{take-append_seam}
use Rattle.model_base.specs.declared.history.Flag.TheVariants.{Log}
use Rattle.model_base.specs.Varint.{varint_within}
use Rattle.model_base.specs.History.{Entry}
use Rattle.model_base.specs.Attempts.{Attempt}
use Rattle.model_base.specs.Calls.{Outcome}
use Rattle.model_base.specs.Log.{new_log}
use Rattle.model_runs.specs.Crashes.{HasSync, HoldsUpTo, HoldsSynced, KeepsSynced, IsCrashSafe, text_through}
use Rattle.model_runs.specs.Examples.{put_b, entry_of, two_groups, text_of_both, text_of_first, zeros, in_two_records, over_old_bytes, nothing_written}

first_len : length text_of_first ≡ 24
unfolding varint_within
first_len = refl

-- only the first group was to be synced
by_first : (reached : ℕ) (image : List ℕ) → HoldsUpTo reached text_of_first image → HoldsSynced new_log two_groups reached image
by_first reached image first zero group there some = first
by_first reached image first (suc zero) group there some =
    let second : List Entry = entry_of 2 Log put_b ∷ [] in
    let is : second ≡ group = cc there in
    let none : HasSync second = subst HasSync (sym is) some in
    absurd (cc none)
by_first reached image first (suc (suc k)) group there some = absurd (cc there)

pub torn_before : HoldsSynced new_log two_groups 0 (zeros 24)
torn_before = by_first 0 (zeros 24) (λ long far. let l = first_len in absurd (omega (arith, long, l)))

pub torn_after : HoldsSynced new_log two_groups 0 (text_of_first ++ zeros 9)
torn_after = by_first 0 (text_of_first ++ zeros 9) (λ long far. take-append_seam text_of_first (zeros 9))

pub reached_before : HoldsSynced new_log two_groups 25 (zeros 25)
reached_before = by_first 25 (zeros 25) (λ long far. absurd (omega (arith, far)))

-- the image and the text differ in the byte of the length
pub nothing_before : HoldsSynced new_log two_groups 0 (zeros 25) → ⊥
unfolding varint_within
nothing_before holds =
    let found : take 24 (zeros 25) ≡ text_of_first = holds 0 _ refl refl (lit≤ tt) (lit≤ tt) in
    let byte : Some 0 ≡ Some 17 = ap (λ (l : List ℕ). slice_get l 4) found in
    absurd (cc byte)

pub synced_at_the_end : (group_bytes : ℕ) (attempts : List (List Attempt)) (o : Outcome) (place : ℕ)
    → IsCrashSafe group_bytes attempts o new_log two_groups [] text_of_both place in_two_records [] 0 (λ image. image ≡ zeros 25) (λ before after image. ⊥) (λ image. image ≡ text_of_both) → ⊥
synced_at_the_end group_bytes attempts o place safe = nothing_before (safe.held (zeros 25) refl)

-- the same with a header of eleven bytes
pub synced_late_over_old_bytes : KeepsSynced over_old_bytes two_groups in_two_records nothing_written → ⊥
unfolding varint_within
synced_late_over_old_bytes keeps =
    let found : take 28 (zeros 56) ≡ text_through over_old_bytes two_groups 0 = (keeps 0 1 _ refl refl (lit≤ tt) (zeros 56) refl).1 in
    let byte : Some 0 ≡ Some 17 = ap (λ (l : List ℕ). slice_get l 4) found in
    absurd (cc byte)
