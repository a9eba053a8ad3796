-- Next calls that aren't right after a crash.
use Rattle.std.proofs.Common.{◌≡◌, ◌≢◌, ℕ, zero, suc, ◌+◌, ◌<◌, List, [], ◌∷◌, ◌++◌, length, take, map, None, Some, slice_get, refl, ap, sym, ◌∙◌, subst, arith, length-append, length-take}
use Rattle.base_devices.specs.declared.disk.Disk.{Ghosts}
use Rattle.model_base.specs.History.{Entry}
use Rattle.model_base.specs.Recovery.{Logged, logged_bytes}
use Rattle.model_runs.specs.Crashes.{HasSync}
use Rattle.run_outcome.specs.Running.{Before, RecoversTo, batch_of_group, nothing}
use Rattle.crash_laws.specs.Restarts.{Call, number_of, kept_in, groups_in, AreFirstAdded, of_groups, and_failed, AreFirst, of_kept, and_added, NoneByChance, IsLeftAfter, Crashed, AreOneHistory}
use Rattle.log_laws.proofs.Placed.{length_map}
use Rattle.crash_laws.proofs.Promised.{none_failed}
use Rattle.crash_laws.proofs.Lists.{take_none}
use Rattle.crash_laws.proofs.Front.{found_by_none}
use Rattle.crash_laws.proofs.Certain.{synced_found}

module _ {D : Type 0} {disk : Ghosts D} (call : Call disk) (image : List ℕ) where
  pub not_all_lost : (group : List Entry) (groups : List (List Entry)) → groups_in call ≡ group ∷ groups → HasSync group → IsLeftAfter call 1 image → RecoversTo (number_of call) image nothing → ⊥
  not_all_lost group groups are has left to =
      let at : slice_get (groups_in call) 0 ≡ Some group = ap (λ (gs : List (List Entry)). slice_get gs 0) are in
      let have = synced_found call image nothing to 1 0 left (omega arith) (group, at, has) in
      let found : List Logged = nothing.batches in
      let none : take (length (kept_in call) + (0 + 1)) found ≡ [] = take_none (length (kept_in call) + (0 + 1)) found refl in
      let len = ap length (sym none ∙ have) in
      omega (arith, len, length-append (kept_in call) (map batch_of_group (take 1 (groups_in call))), length_map batch_of_group (take 1 (groups_in call)), length-take 1 (groups_in call), ap length are)

  module _ (next : Before) (none : NoneByChance call image) (to : RecoversTo (number_of call) image next) (kept : kept_in call ≡ []) where
    -- what is found is the first of what was to be added
    only_added : AreFirst call next.batches → 0 < length next.batches → AreFirstAdded call next.batches
    only_added (of_kept n same) some = absurd (omega (arith, some, ap length (same ∙ ap (take n) kept ∙ take_none n [] refl)))
    only_added (and_added added first same) some = subst (AreFirstAdded call) (sym (same ∙ ap (λ (l : List Logged). l ++ added) kept)) first

    -- the batch of the first group comes first
    begins : (first : List Entry) (groups : List (List Entry)) → groups_in call ≡ first ∷ groups → (added : List Logged) → AreFirstAdded call added → 0 < length added → (more : List Logged) × (added ≡ batch_of_group first ∷ more)
    begins first groups are added (of_groups n same) some = by_number n (same ∙ ap (λ (gs : List (List Entry)). map batch_of_group (take n gs)) are)
      where
        by_number : (n : ℕ) → added ≡ map batch_of_group (take n (first ∷ groups)) → (more : List Logged) × (added ≡ batch_of_group first ∷ more)
        by_number zero none = absurd (omega (arith, some, ap length none))
        by_number (suc m) is = (map batch_of_group (take m groups), is)
    begins first groups are added (and_failed b failed same) some = (map batch_of_group groups ++ b ∷ [], same ∙ ap (λ (gs : List (List Entry)). map batch_of_group gs ++ b ∷ []) are)

    pub no_gap : (first second : List Entry) (groups : List (List Entry)) → groups_in call ≡ first ∷ second ∷ groups → batch_of_group first ≢ batch_of_group second → next.batches ≡ batch_of_group second ∷ [] → ⊥
    no_gap first second groups are differ found =
        let some : 0 < length next.batches = omega (arith, ap length found) in
        let starts = begins first (second ∷ groups) are next.batches (only_added (found_by_none call image next to none) some) some in
        let same : batch_of_group first ∷ starts.0 ≡ batch_of_group second ∷ [] = sym starts.1 ∙ found in
        let one : batch_of_group first ≡ batch_of_group second = cc same in
        differ one

    pub not_twice : (group : List Entry) → groups_in call ≡ group ∷ [] → call.outcome.fault ≡ None → next.batches ≡ batch_of_group group ∷ batch_of_group group ∷ [] → ⊥
    not_twice group are fault found = by_added (only_added (found_by_none call image next to none) (omega (arith, ap length found)))
      where
        by_added : AreFirstAdded call next.batches → ⊥
        by_added (of_groups n same) = omega (arith, ap length found, ap length same, length_map batch_of_group (take n (groups_in call)), length-take n (groups_in call), ap length are)
        by_added (and_failed b failed same) = none_failed call fault (logged_bytes b) failed

-- no batch is left out in the middle
pub no_hole : {D : Type 0} {disk : Ghosts D} (last : Crashed disk) (earlier : List (Crashed disk)) (a b c : Logged) → kept_in last.call ≡ a ∷ b ∷ [] → b ≢ c → AreOneHistory (last ∷ earlier) (a ∷ c ∷ []) → ⊥
no_hole last earlier a b c kept differ one = by_first one.0
  where
    by_number : (n : ℕ) → a ∷ c ∷ [] ≡ take n (a ∷ b ∷ []) → ⊥
    by_number zero is = omega (arith, ap length is)
    by_number (suc zero) is = omega (arith, ap length is)
    by_number (suc (suc n)) is = let longer : c ∷ [] ≡ b ∷ take n [] = cc is in differ (cc longer)

    by_first : AreFirst last.call (a ∷ c ∷ []) → ⊥
    by_first (of_kept n same) = by_number n (same ∙ ap (take n) kept)
    by_first (and_added added first same) = let is : a ∷ c ∷ [] ≡ a ∷ b ∷ added = same ∙ ap (λ (l : List Logged). l ++ added) kept in let later : c ∷ [] ≡ b ∷ added = cc is in differ (cc later)
