-- The grouping rule by recursion over the codes of the queue, as a leader takes its group.
use native.Mathlib.Decide.{ℕ_discrete}
use mathlib.Core.Logic.{dite}
use Rattle.std.proofs.Common.{◌≡◌, ℕ, zero, suc, ◌+◌, ◌-◌, ◌/◌, ◌<◌, ◌≤◌, Bool, true, false, cond, List, [], ◌∷◌, ◌++◌, length, reverse, map, take, slice_get, Some, sym, refl, ap, ◌∙◌, arith, append_assoc, length-append}
use Rattle.std.specs.Option.{option_map_or}
use Rattle.std.proofs.lemmas.List.{reverse-append, map-append, length-map, length-reverse}
use Rattle.std.proofs.Math.Seq.{take-append-add}
use Rattle.std.proofs.lemmas.List.Sums.{sum_by_push}
use Rattle.model_base.specs.declared.group.Item.{Item}
use Rattle.model_base.specs.Grouping.{size_of, fits, fits_at, group_len}
use Rattle.line_rule.specs.declared.view.QueuedWriter.{QueuedWriter}
use Rattle.line_rule.specs.Grouping.{item_of, codes, items, IsGroup}
use Rattle.line_grouping.proofs.Places.{group_len_is}

-- whether a writer fits, where the sizes before it add up to sum
abbrev pub fits_next : ℕ → ℕ → ℕ → ℕ → Bool
fits_next max leader sum code = fits max (item_of leader) (sum + code / 16) (item_of code)

-- how many of the writers after the leader fit, up to the first that doesn't
abbrev pub fitting : ℕ → ℕ → ℕ → List ℕ → ℕ
fitting max leader sum [] = 0
fitting max leader sum (x ∷ xs) = cond (fits_next max leader sum x) (fitting max leader (sum + x / 16) xs + 1) 0

pub fitting_small : (max leader sum : ℕ) (xs : List ℕ) → fitting max leader sum xs ≤ length xs
fitting_small max leader sum [] = omega arith
fitting_small max leader sum (x ∷ xs) = by_cases (fits_next max leader sum x) (fitting_small max leader (sum + x / 16) xs)
  where
    by_cases : (b : Bool) {k l : ℕ} → k ≤ l → cond b (k + 1) 0 ≤ suc l
    by_cases true h = omega arith
    by_cases false h = omega arith

-- the queue of a leader and those after it, in link order
abbrev queue : ℕ → List ℕ → List Item
queue leader xs = map item_of (leader ∷ xs)

abbrev total : ℕ → List ℕ → ℕ
total leader front = size_of (queue leader front)

slice_seam : {A : Type 0} (xs : List A) (y : A) (ys : List A) → slice_get (xs ++ y ∷ ys) (length xs) ≡ Some y
slice_seam [] y ys = refl
slice_seam (x ∷ xs) y ys = slice_seam xs y ys

module _ (max leader : ℕ) where
  more : (front : List ℕ) (x sum : ℕ) → total leader front ≡ sum → size_of (queue leader front ++ item_of x ∷ []) ≡ sum + x / 16
  more front x sum is = sum_by_push (λ (i : Item). i.size) (queue leader front) (item_of x) ∙ ap (λ k. k + x / 16) is

  more_in : (front : List ℕ) (x sum : ℕ) → total leader front ≡ sum → total leader (front ++ x ∷ []) ≡ sum + x / 16
  more_in front x sum is = ap size_of (map-append item_of (leader ∷ front) (x ∷ [])) ∙ more front x sum is

  -- whether the writer after these others fits, by the sum of their sizes
  at_seam : (front : List ℕ) (x : ℕ) (back : List ℕ) (sum : ℕ) → total leader front ≡ sum → fits_at max (queue leader (front ++ x ∷ back)) (1 + length front) ≡ fits_next max leader sum x
  at_seam front x back sum is =
      let whole : queue leader (front ++ x ∷ back) ≡ queue leader front ++ item_of x ∷ map item_of back = map-append item_of (leader ∷ front) (x ∷ back) in
      let mapped = length-map (leader ∷ front) item_of in let len : length (queue leader front) ≡ 1 + length front = omega (arith, mapped) in
      let there : slice_get (queue leader (front ++ x ∷ back)) (1 + length front) ≡ Some (item_of x) =
      ap (λ l. slice_get l (1 + length front)) whole ∙ (ap (slice_get (queue leader front ++ item_of x ∷ map item_of back)) (sym len) ∙ slice_seam (queue leader front) (item_of x) (map item_of back)) in
      let cut : take (1 + length front + 1) (queue leader (front ++ x ∷ back)) ≡ queue leader front ++ item_of x ∷ [] =
      ap (take (1 + length front + 1)) whole ∙ (ap (λ k. take (k + 1) (queue leader front ++ item_of x ∷ map item_of back)) (sym len) ∙ take-append-add (queue leader front) (item_of x ∷ map item_of back) 1) in
      let sizes : size_of (take (1 + length front + 1) (queue leader (front ++ x ∷ back))) ≡ sum + x / 16 =
      ap size_of cut ∙ more front x sum is in
      ap (λ o. option_map_or (fits max (item_of leader) (size_of (take (1 + length front + 1) (queue leader (front ++ x ∷ back))))) o false) there
      ∙ ap (λ k. fits max (item_of leader) k (item_of x)) sizes

  yes : (b : Bool) (k j : ℕ) → j < cond b (k + 1) 0 → b ≡ true
  yes true k j lt = refl
  yes false k j lt = absurd (omega arith)

  below : (b : Bool) (k j : ℕ) → suc j < cond b (k + 1) 0 → j < k
  below true k j lt = omega arith
  below false k j lt = absurd (omega arith)

  moved_on : (front : List ℕ) (x : ℕ) (back : List ℕ) (k : ℕ) → fits_at max (queue leader ((front ++ x ∷ []) ++ back)) (1 + length (front ++ x ∷ []) + k) ≡ fits_at max (queue leader (front ++ x ∷ back)) (1 + length front + suc k)
  moved_on front x back k =
      let len = length-append front (x ∷ []) in let place : 1 + length (front ++ x ∷ []) + k ≡ 1 + length front + suc k = omega arith in
      ap (λ l. fits_at max (queue leader l) (1 + length (front ++ x ∷ []) + k)) (append_assoc front (x ∷ []) back) ∙ ap (fits_at max (queue leader (front ++ x ∷ back))) place

  joined : (front back : List ℕ) (sum k : ℕ) → total leader front ≡ sum → k < fitting max leader sum back → fits_at max (queue leader (front ++ back)) (1 + length front + k) ≡ true
  joined front [] sum k is lt = absurd (omega arith)
  joined front (x ∷ back) sum zero is lt =
      let place : 1 + length front + 0 ≡ 1 + length front = omega arith in
      ap (fits_at max (queue leader (front ++ x ∷ back))) place ∙ (at_seam front x back sum is ∙ yes (fits_next max leader sum x) (fitting max leader (sum + x / 16) back) 0 lt)
  joined front (x ∷ back) sum (suc k) is lt =
      sym (moved_on front x back k) ∙ joined (front ++ x ∷ []) back (sum + x / 16) k (more_in front x sum is) (below (fits_next max leader sum x) (fitting max leader (sum + x / 16) back) k lt)

  -- whether the first writer after these fits or not
  by_fit : (front : List ℕ) (x : ℕ) (back : List ℕ) (sum : ℕ) → total leader front ≡ sum → fitting max leader sum (x ∷ back) < suc (length back)
      → (fitting max leader (sum + x / 16) back < length back → fits_at max (queue leader ((front ++ x ∷ []) ++ back)) (1 + length (front ++ x ∷ []) + fitting max leader (sum + x / 16) back) ≡ false)
      → (b : Bool) → fits_next max leader sum x ≡ b → fits_at max (queue leader (front ++ x ∷ back)) (1 + length front + fitting max leader sum (x ∷ back)) ≡ false
  by_fit front x back sum is lt others true fit =
      let n : fitting max leader sum (x ∷ back) ≡ suc (fitting max leader (sum + x / 16) back) = ap (λ b. cond b (fitting max leader (sum + x / 16) back + 1) 0) fit ∙ omega arith in
      let lt' : fitting max leader (sum + x / 16) back < length back = omega (arith, n) in
      ap (λ k. fits_at max (queue leader (front ++ x ∷ back)) (1 + length front + k)) n ∙ (sym (moved_on front x back (fitting max leader (sum + x / 16) back)) ∙ others lt')
  by_fit front x back sum is lt others false fit =
      let n : fitting max leader sum (x ∷ back) ≡ 0 = ap (λ b. cond b (fitting max leader (sum + x / 16) back + 1) 0) fit in
      let place : 1 + length front + fitting max leader sum (x ∷ back) ≡ 1 + length front = omega (arith, n) in
      ap (fits_at max (queue leader (front ++ x ∷ back))) place ∙ (at_seam front x back sum is ∙ fit)

  refused : (front back : List ℕ) (sum : ℕ) → total leader front ≡ sum → fitting max leader sum back < length back → fits_at max (queue leader (front ++ back)) (1 + length front + fitting max leader sum back) ≡ false
  refused front [] sum is lt = absurd (omega arith)
  refused front (x ∷ back) sum is lt =
      let more_back = λ (lt' : fitting max leader (sum + x / 16) back < length back). refused (front ++ x ∷ []) back (sum + x / 16) (more_in front x sum is) lt' in
      by_fit front x back sum is lt more_back (fits_next max leader sum x) refl

  pub group_len_by : (back : List ℕ) → group_len max (queue leader back) ≡ 1 + fitting max leader (leader / 16) back
  group_len_by back =
      let alone : total leader [] ≡ leader / 16 = omega arith in
      let mapped = length-map (leader ∷ back) item_of in let len : length (queue leader back) ≡ 1 + length back = omega (arith, mapped) in
      let small = fitting_small max leader (leader / 16) back in
      group_len_is max (queue leader back) (1 + fitting max leader (leader / 16) back) (omega arith) (omega arith)
      (λ k lo hi. let place : 1 + (k - 1) ≡ k = omega arith in ap (fits_at max (queue leader back)) (sym place) ∙ joined [] back (leader / 16) (k - 1) alone (omega arith))
      (λ lt. refused [] back (leader / 16) alone (omega arith))

codes-append : {Request : Type 0} (a b : List (QueuedWriter Request)) → codes (a ++ b) ≡ codes a ++ codes b
codes-append [] b = refl
codes-append (e ∷ es) b = ap (λ l. e.code ∷ l) (codes-append es b)

pub codes_back : {Request : Type 0} (pre : List (QueuedWriter Request)) (x : QueuedWriter Request) → reverse (codes (pre ++ x ∷ [])) ≡ x.code ∷ reverse (codes pre)
codes_back pre x = ap reverse (codes-append pre (x ∷ [])) ∙ reverse-append (codes pre) (x.code ∷ [])

pub length-codes : {Request : Type 0} (l : List (QueuedWriter Request)) → length (codes l) ≡ length l
length-codes [] = refl
length-codes (e ∷ es) = ap suc (length-codes es)

module _ {Request : Type 0} (max : ℕ) (own : QueuedWriter Request) (group left : List (QueuedWriter Request)) where
  rule_by : group_len max (items (left ++ (group ++ own ∷ []))) ≡ 1 + fitting max own.code (own.code / 16) (reverse (codes (left ++ group)))
  rule_by =
      let parts : reverse (codes (left ++ (group ++ own ∷ []))) ≡ own.code ∷ reverse (codes (left ++ group)) = ap (λ l. reverse (codes l)) (sym (append_assoc left group (own ∷ []))) ∙ codes_back (left ++ group) own in
      ap (λ l. group_len max (map item_of l)) parts ∙ group_len_by max own.code (reverse (codes (left ++ group)))

  -- the group is the rule's if it has as many writers as fit
  pub is_group : length group ≡ fitting max own.code (own.code / 16) (reverse (codes (left ++ group))) → IsGroup max own group left
  is_group is = let len = length-append group (own ∷ []) in let by = rule_by in omega arith

  pub of_group : IsGroup max own group left → length group ≡ fitting max own.code (own.code / 16) (reverse (codes (left ++ group)))
  of_group is = let len = length-append group (own ∷ []) in let by = rule_by in omega arith

-- a list cut at its older end
pub cut_at : {A : Type 0} (l : List A) (k : ℕ) → k ≤ length l → (left : List A) × (group : List A) × (l ≡ left ++ group) × (length group ≡ k)
cut_at [] k small = ([], [], refl, omega arith)
cut_at (x ∷ xs) k small = dite (ℕ_discrete k (suc (length xs)))
    (λ e. ([], x ∷ xs, refl, sym e))
    (λ ne. let t = cut_at xs k (omega arith) in (x ∷ t.0, t.1, ap (λ l. x ∷ l) t.2, t.3))

-- the group that a leader takes of the queue
pub split_group : {Request : Type 0} (max : ℕ) (own : QueuedWriter Request) (queue : List (QueuedWriter Request)) → (left : List (QueuedWriter Request)) × (group : List (QueuedWriter Request)) × (queue ≡ left ++ group) × IsGroup max own group left
split_group max own queue =
    let k : ℕ = fitting max own.code (own.code / 16) (reverse (codes queue)) in
    let small : k ≤ length queue = let f = fitting_small max own.code (own.code / 16) (reverse (codes queue)) in let a = length-reverse (codes queue) in let b = length-codes queue in omega arith in
    let t = cut_at queue k small in (t.0, t.1, t.2, is_group max own t.1 t.0 (t.3 ∙ ap (λ l. fitting max own.code (own.code / 16) (reverse (codes l))) t.2))
