-- What a stable sort by a number keeps: the elements with each number, in their order.
use Rattle.std.proofs.Common.{◌≡◌, ℕ, ◌<◌, ◌==◌, ◌&&◌, not, cond, Bool, true, false, List, [], ◌∷◌, filter, refl, ap, sym, ◌∙◌, arith, inl, inr, ◌⊎◌, nat_lt, nat_cmp, is_lt, eqb-true}
use Rattle.std.specs.List.Sorted.{ties}
use Rattle.std.proofs.lemmas.Bool.Decides.{nat_tests}
use borrow.Author.Tests.{ltb-true}

-- filters by tests that agree
filter_same : {X : Type 0} (p q : X → Bool) → ((x : X) → p x ≡ q x) → (xs : List X) → filter p xs ≡ filter q xs
filter_same p q same [] = refl
filter_same p q same (x ∷ xs) = let rest = filter_same p q same xs in ap (λ b. cond b (x ∷ filter p xs) (filter p xs)) (same x) ∙ ap (λ ys. cond (q x) (x ∷ ys) ys) rest

apart : (a b : ℕ) → (a < b) ⊎ (b < a) → (a == b) ≡ false
apart a b (inl h) = grind (arith, nat_tests)
apart a b (inr h) = grind (arith, nat_tests)

same : (a b : ℕ) → a ≡ b → (a == b) ≡ true
same a b h = grind (arith, nat_tests)

-- two numbers tie where they are equal
tie_is : (a b : ℕ) (c d e : Bool) → nat_lt a b ≡ c → nat_lt b a ≡ d → (b == a) ≡ e → not (is_lt (nat_cmp a b)) && not (is_lt (nat_cmp b a)) ≡ (b == a)
tie_is a b true d e h k l = rw h (sym (apart b a (inr (ltb-true a b h))))
tie_is a b false true e h k l = rw (h, k) (let no = apart b a (inl (ltb-true b a k)) in let no' = apart a b (inr (ltb-true b a k)) in rw (no, no') refl)
tie_is a b false false true h k l = let eq = eqb-true b a l in let yes = same b a eq in let yes' = same a b (sym eq) in rw (h, k, yes, yes') refl
tie_is a b false false false h k l = absurd (grind (arith, nat_tests))

-- the elements with a number, where an element has it
pub of_number : {X : Type 0} (key : X → ℕ) (one : X) (k : ℕ) → key one ≡ k → (xs ys : List X)
    → filter (ties (λ (x y : X). is_lt (nat_cmp (key x) (key y))) one) xs ≡ filter (ties (λ (x y : X). is_lt (nat_cmp (key x) (key y))) one) ys
    → filter (λ x. key x == k) xs ≡ filter (λ x. key x == k) ys
of_number {X} key one k is xs ys h =
    let test : (y : X) → ties (λ (x y : X). is_lt (nat_cmp (key x) (key y))) one y ≡ (key y == k) = λ y. tie_is (key one) (key y) _ _ _ refl refl refl ∙ ap (λ n. key y == n) is in
    sym (filter_same _ _ test xs) ∙ (h ∙ filter_same _ _ test ys)
