-- Slots that are moved to the end, one by one.
use Rattle.std.proofs.Common.{◌≡◌, ℕ, ◌+◌, ◌<◌, List, [], ◌∷◌, ◌++◌, length, refl, sym, ap, ◌∙◌, arith, append_assoc, append-nil, length-append}
use Rattle.atomic_table.specs.Table.{turned}

abbrev rest_of : {A : Type 0} → List A → List A
rest_of [] = []
rest_of (x ∷ xs) = xs

abbrev head_or : {A : Type 0} → A → List A → A
head_or d [] = d
head_or d (x ∷ xs) = x

module _ {S : Type 0} where
  -- of the slots to be moved, those in done are already at the end
  pub record Turned (was now : List (ℕ × S)) (count all : ℕ) : Type 0 where
    pub done : List (ℕ × S)
    pub left : List (ℕ × S)
    pub others : List (ℕ × S)
    pub began : was ≡ done ++ (left ++ others)
    pub stands : now ≡ left ++ (others ++ done)
    pub counted : length done ≡ count
    pub whole : length done + length left ≡ all

  pub turned_first : (a b : List (ℕ × S)) (was : List (ℕ × S)) (all : ℕ) → was ≡ a ++ b → length a ≡ all → Turned was was 0 all
  turned_first a b was all is long = record { done = []; left = a; others = b; began = is; stands = is ∙ ap (λ l. a ++ l) (sym (append-nil b)); counted = refl; whole = omega (arith, long) }

  one_left : (left : List (ℕ × S)) → 0 < length left → (x : ℕ × S) × (xs : List (ℕ × S)) × (left ≡ x ∷ xs)
  one_left [] lo = absurd (omega arith)
  one_left (x ∷ xs) lo = (x, xs, refl)

  pub turned_more : (was now now' : List (ℕ × S)) (count all : ℕ) → Turned was now count all → count < all → now' ≡ turned now → Turned was now' (count + 1) all
  turned_more was now now' count all v more is =
      let w = v.whole in let k = v.counted in let f = one_left v.left (omega arith) in
      record {
        done = v.done ++ f.0 ∷ [];
        left = f.1;
        others = v.others;
        began = v.began ∙ (ap (λ l. v.done ++ (l ++ v.others)) f.2 ∙ sym (append_assoc v.done (f.0 ∷ []) (f.1 ++ v.others)));
        stands = is ∙ (ap turned (v.stands ∙ ap (λ l. l ++ (v.others ++ v.done)) f.2) ∙ (append_assoc f.1 (v.others ++ v.done) (f.0 ∷ []) ∙ ap (λ l. f.1 ++ l) (append_assoc v.others v.done (f.0 ∷ []))));
        counted = (omega (arith, length-append v.done (f.0 ∷ [])));
        whole = (omega (arith, length-append v.done (f.0 ∷ []), ap length f.2));
      }

  pub split_same : (a b c d : List (ℕ × S)) → length a ≡ length c → a ++ b ≡ c ++ d → (a ≡ c) × (b ≡ d)
  split_same [] b [] d long e = (refl, e)
  split_same [] b (y ∷ ys) d long e = absurd (omega arith)
  split_same (x ∷ xs) b [] d long e = absurd (omega arith)
  split_same (x ∷ xs) b (y ∷ ys) d long e = let r = split_same xs b ys d (omega arith) (ap rest_of e) in ((λ i. ap (head_or x) e i ∷ r.0 i), r.1)

  nil_left : (left : List (ℕ × S)) → length left ≡ 0 → left ≡ []
  nil_left [] z = refl
  nil_left (x ∷ xs) z = absurd (omega arith)

  pub turned_all : (was now : List (ℕ × S)) (all : ℕ) → Turned was now all all → (a b : List (ℕ × S)) → was ≡ a ++ b → length a ≡ all → now ≡ b ++ a
  turned_all was now all v a b is long =
      let w = v.whole in let k = v.counted in let nil = nil_left v.left (omega arith) in
      let s = split_same v.done v.others a b (omega arith) (ap (λ l. v.done ++ (l ++ v.others)) (sym nil) ∙ (sym v.began ∙ is)) in
      v.stands ∙ (ap (λ l. l ++ (v.others ++ v.done)) nil ∙ (λ i. s.1 i ++ s.0 i))
