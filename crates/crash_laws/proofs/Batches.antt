-- The batches that some bytes are, and the batches of groups.
use Rattle.std.proofs.Common.{◌≡◌, ℕ, zero, suc, ◌<◌, List, [], ◌∷◌, ◌++◌, length, take, map, flat_map, fold, refl, ap, sym, ◌∙◌, arith}
use Rattle.std.proofs.lemmas.List.{take-map}
use Rattle.std.proofs.lemmas.List.Sums.{fold-append}
use Rattle.std.specs.List.{AllByRecursion}
use Rattle.model_base.specs.Batch.{Record}
use Rattle.model_base.specs.Map.{Pairs, after_record, after_records}
use Rattle.model_base.specs.History.{Entry, map_over}
use Rattle.model_base.specs.LogContents.{record_of_entries, records_of}
use Rattle.model_base.specs.Recovery.{Logged, logged_bytes, last_after, AreInOrder}
use Rattle.log_recovery_laws.proofs.Kept.{AreBatches, same_logged}
use Rattle.run_outcome.specs.Running.{batch_of_group}
use Rattle.crash_laws.specs.Restarts.{map_of_batches}
use Rattle.crash_laws.proofs.Lists.{all_take}

pub own_take : (n : ℕ) (batches : List Logged) → AreBatches batches → AreBatches (take n batches)
own_take n batches own = all_take _ n batches own

pub order_take : (last n : ℕ) (batches : List Logged) → AreInOrder last batches → AreInOrder last (take n batches)
order_take last zero batches ordered = tt
order_take last (suc n) [] ordered = tt
order_take last (suc n) (b ∷ batches) ordered = (ordered.0, order_take (last_after last b) n batches ordered.1)

-- batches with the bytes of the first of some others are these
pub first_batches : (found all : List Logged) (n : ℕ) → AreBatches found → AreBatches all → map logged_bytes found ≡ take n (map logged_bytes all) → found ≡ take n all
first_batches found all n own each same = same_logged found (take n all) own (own_take n all each) (same ∙ take-map logged_bytes n all)

-- these batches are all of some others, and one more, which has these bytes
pub record IsOneMore (found all : List Logged) (x : List ℕ) : Type 0 where
  pub more : Logged
  pub are : found ≡ all ++ more ∷ []
  pub bytes : logged_bytes more ≡ x

same_lists : {A : Type 0} (x y : A) (xs ys : List A) → x ≡ y → xs ≡ ys → x ∷ xs ≡ y ∷ ys
same_lists x y xs ys one rest = ap (λ z. z ∷ xs) one ∙ ap (λ l. y ∷ l) rest

pub one_more : (found all : List Logged) (x : List ℕ) → AreBatches found → AreBatches all → map logged_bytes found ≡ map logged_bytes all ++ x ∷ [] → IsOneMore found all x
one_more [] [] x own each same = absurd (omega (arith, ap length same))
one_more [] (c ∷ all) x own each same = absurd (omega (arith, ap length same))
one_more (b ∷ []) [] x own each same = record { more = b; are = refl; bytes = cc same }
one_more (b ∷ d ∷ found) [] x own each same = absurd (omega (arith, ap length same))
one_more (b ∷ found) (c ∷ all) x own each same =
    let head : logged_bytes b ≡ logged_bytes c = cc same in
    let tail : map logged_bytes found ≡ map logged_bytes all ++ x ∷ [] = cc same in
    let first : b ∷ [] ≡ c ∷ [] = same_logged (b ∷ []) (c ∷ []) (own.0, tt) (each.0, tt) (ap (λ (l : List ℕ). l ∷ []) head) in
    let is : b ≡ c = cc first in
    let later = one_more found all x own.1 each.1 tail in
    record { more = later.more; are = same_lists b c found (all ++ later.more ∷ []) is later.are; bytes = later.bytes }

-- Groups

abbrev pub HaveEntries : List (List Entry) → Type 0
HaveEntries groups = AllByRecursion (λ (g : List Entry). 0 < length g) groups

pub bytes_of_groups : (groups : List (List Entry)) → HaveEntries groups → map logged_bytes (map batch_of_group groups) ≡ records_of groups
bytes_of_groups [] some = refl
bytes_of_groups ([] ∷ groups) some = absurd (omega (arith, some.0))
bytes_of_groups ((e ∷ entries) ∷ groups) some = ap (λ l. record_of_entries (e ∷ entries) ∷ l) (bytes_of_groups groups some.1)

-- a group's one batch makes the map that its entries make
map_of_joined : (m : Pairs) (entries : List Entry) → after_records m (flat_map (λ (records : List Record). records) (map (λ (e : Entry). e.records) entries)) ≡ map_over m entries
map_of_joined m [] = refl
map_of_joined m (e ∷ entries) =
    fold-append after_record m e.records (flat_map (λ (records : List Record). records) (map (λ (x : Entry). x.records) entries)) ∙ map_of_joined (after_records m e.records) entries

map_of_group : (m : Pairs) (g : List Entry) → after_records m (batch_of_group g).records ≡ map_over m g
map_of_group m [] = refl
map_of_group m (e ∷ entries) = map_of_joined m (e ∷ entries)

abbrev after_batch : Pairs → Logged → Pairs
after_batch m b = after_records m b.records

pub map_of_groups : (m : Pairs) (groups : List (List Entry)) → fold after_batch m (map batch_of_group groups) ≡ map_over m (flat_map (λ (g : List Entry). g) groups)
map_of_groups m [] = refl
map_of_groups m (g ∷ groups) =
    ap (λ (p : Pairs). fold after_batch p (map batch_of_group groups)) (map_of_group m g) ∙ map_of_groups (map_over m g) groups
    ∙ sym (fold-append (λ (p : Pairs) (e : Entry). after_records p e.records) m g (flat_map (λ (x : List Entry). x) groups))

pub map_of_log : (kept : List Logged) (groups : List (List Entry)) → map_of_batches (kept ++ map batch_of_group groups) ≡ map_over (map_of_batches kept) (flat_map (λ (g : List Entry). g) groups)
map_of_log kept groups = fold-append after_batch [] kept (map batch_of_group groups) ∙ map_of_groups (map_of_batches kept) groups
