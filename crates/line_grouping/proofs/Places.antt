-- The length of a group by the places of the queue.
use Rattle.std.proofs.Common.{◌≡◌, ℕ, ◌+◌, ◌-◌, ◌/◌, ◌<◌, ◌≤◌, Bool, true, false, not, ◌&&◌, ◌||◌, nat_le, if◌then◌else◌, List, [], ◌∷◌, length, take, get_or, slice_get, Some, refl, sym, ap, ◌∙◌, arith}
use Rattle.std.specs.List.{range_with_len, prefix_len}
use Rattle.std.specs.Option.{option_map_or}
use Rattle.std.proofs.lemmas.List.FromFn.{length-range_with_len, get_or-range_with_len}
use Rattle.std.proofs.lemmas.List.Sums.{prefix_len_is, prefix_len_passes, prefix_len_stops, prefix_len-le-length, sum_by_more}
use Rattle.std.proofs.lemmas.List.Folds.{length-prefix_len}
use Rattle.std.proofs.lemmas.Option.{slice_get-get_or}
use Rattle.std.proofs.lemmas.Bool.Decides.{nat_tests}
use Rattle.model_base.specs.declared.group.Item.{Item}
use Rattle.model_base.specs.Grouping.{cap, size_of, fits, fits_at, group_len, same_bool}

-- the places after the leader's
abbrev pub places : List Item → List ℕ
places queue = range_with_len 1 (length queue - 1)

pub place_at : (queue : List Item) (k : ℕ) → k < length queue - 1 → get_or (places queue) k 0 ≡ 1 + k
place_at queue k h = get_or-range_with_len 1 (length queue - 1) k 0 h

pub length-places : (queue : List Item) → length (places queue) ≡ length queue - 1
length-places queue = length-range_with_len 1 (length queue - 1)

pub group_len-by_front : (max : ℕ) (queue : List Item) → group_len max queue ≡ 1 + prefix_len (fits_at max queue) (places queue)
group_len-by_front max queue = ap (λ n. 1 + n) (length-prefix_len (fits_at max queue) (places queue))

-- the writers at 1 to n - 1 fit, and the one at n doesn't
pub group_len_is : (max : ℕ) (queue : List Item) (n : ℕ) → 1 ≤ n → n ≤ length queue
    → ((k : ℕ) → 1 ≤ k → k < n → fits_at max queue k ≡ true) → (n < length queue → fits_at max queue n ≡ false) → group_len max queue ≡ n
group_len_is max queue n some within joined refused =
    let front : prefix_len (fits_at max queue) (places queue) ≡ n - 1 =
    prefix_len_is (fits_at max queue) (places queue) (n - 1) 0 (omega (arith, length-places queue))
    (λ k h. let e : get_or (places queue) k 0 ≡ 1 + k = place_at queue k (omega arith) in rw e (joined (1 + k) (omega arith) (omega arith)))
    (λ h. let lt : n - 1 < length queue - 1 = omega (arith, length-places queue) in
    let e : get_or (places queue) (n - 1) 0 ≡ n = omega (arith, place_at queue (n - 1) lt) in rw e (refused (omega arith)))
    in omega (arith, group_len-by_front max queue)

pub group_len-within : (max : ℕ) (queue : List Item) → 1 ≤ length queue → group_len max queue ≤ length queue
group_len-within max queue some = omega (arith, group_len-by_front max queue, prefix_len-le-length (fits_at max queue) (places queue), length-places queue)

pub joined_fit : (max : ℕ) (queue : List Item) (place : ℕ) → 1 ≤ place → place < group_len max queue → fits_at max queue place ≡ true
joined_fit max queue place some below =
    let front : place - 1 < prefix_len (fits_at max queue) (places queue) = omega (arith, group_len-by_front max queue) in
    let lt : place - 1 < length queue - 1 = omega (arith, front, prefix_len-le-length (fits_at max queue) (places queue), length-places queue) in
    let e : get_or (places queue) (place - 1) 0 ≡ place = omega (arith, place_at queue (place - 1) lt) in
    rw e at (prefix_len_passes (fits_at max queue) (places queue) (place - 1) 0 front)

pub next_unfit : (max : ℕ) (queue : List Item) → group_len max queue < length queue → fits_at max queue (group_len max queue) ≡ false
next_unfit max queue below =
    let n : ℕ = prefix_len (fits_at max queue) (places queue) in
    let lt : n < length queue - 1 = omega (arith, group_len-by_front max queue) in
    let e : get_or (places queue) n 0 ≡ group_len max queue = omega (arith, place_at queue n lt, group_len-by_front max queue) in
    rw e at (prefix_len_stops (fits_at max queue) (places queue) 0 (omega (arith, lt, length-places queue)))

-- whether the writer at a place fits, by the sum of the sizes before it
pub fits_at-by_sum : (max : ℕ) (queue : List Item) (place sum : ℕ) (d : Item) → place < length queue → sum ≡ size_of (take place queue)
    → fits_at max queue place ≡ fits max (get_or queue 0 d) (sum + (get_or queue place d).size) (get_or queue place d)
fits_at-by_sum max [] place sum d lt is = absurd (omega arith)
fits_at-by_sum max (leader ∷ items) place sum d lt is =
    let writer : Item = get_or (leader ∷ items) place d in
    let so_far : ℕ = size_of (take place (leader ∷ items)) in
    let there : slice_get (leader ∷ items) place ≡ Some writer = slice_get-get_or (leader ∷ items) place d lt in
    let total : size_of (take (place + 1) (leader ∷ items)) ≡ so_far + writer.size = sum_by_more (λ (i : Item). i.size) (leader ∷ items) place d lt in
    ap (λ o. option_map_or (fits max leader (size_of (take (place + 1) (leader ∷ items)))) o false) there
    ∙ ap (λ n. fits max leader n writer) total
    ∙ ap (λ n. fits max leader (n + writer.size) writer) (sym is)

cap_small : (max : ℕ) (leader : Item) → cap max leader ≤ max
cap_small max leader = by_size (nat_le leader.size (max / 8)) (λ h. let test : nat_le leader.size (max / 8) ≡ true = h in grind (arith, nat_tests))
  where
    by_size : (b : Bool) → (b ≡ true → leader.size ≤ max / 8) → (if b then leader.size + max / 8 else max) ≤ max
    by_size true small = let h = small refl in omega arith
    by_size false small = omega arith

last_true : (a b : Bool) → (a && b) ≡ true → b ≡ true
last_true true b is = is
last_true false b is = absurd (cc)

-- a writer that fits keeps the sum below the bound
pub fits_below : (max : ℕ) (leader : Item) (total : ℕ) (i : Item) → fits max leader total i ≡ true → total ≤ max
fits_below max leader total i is =
    let test : nat_le total (cap max leader) ≡ true = last_true (not leader.alone && not i.alone && (not i.options.sync || leader.options.sync) && same_bool i.options.no_slowdown leader.options.no_slowdown && same_bool i.options.no_log leader.options.no_log) (nat_le total (cap max leader)) is in
    let within : total ≤ cap max leader = grind (arith, nat_tests) in let k = cap_small max leader in omega arith
