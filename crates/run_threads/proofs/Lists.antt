-- Lists that grow by an element, and the element that a loop over a list has reached.
use Rattle.std.specs.List.{AllZip, AllByRecursion}
use Rattle.std.proofs.Common.{◌≡◌, ℕ, zero, suc, ◌+◌, ◌<◌, List, [], ◌∷◌, ◌++◌, length, map, take, drop, get_or, refl, ap, sym, ◌∙◌, arith}
use Rattle.std.proofs.lemmas.List.{take_more, take-append-drop, map-append}
use Rattle.std.proofs.Math.Seq.{drop-cons}

pub zip_more : {A B : Type 0} (R : A → B → Type 0) (xs : List A) (ys : List B) (x : A) (y : B) → AllZip R xs ys → R x y → AllZip R (xs ++ x ∷ []) (ys ++ y ∷ [])
zip_more R [] [] x y all here = (here, tt)
zip_more R [] (v ∷ ys) x y all here = absurd all
zip_more R (u ∷ xs) [] x y all here = absurd all
zip_more R (u ∷ xs) (v ∷ ys) x y all here = (all.0, zip_more R xs ys x y all.1 here)

pub zip_length : {A B : Type 0} (R : A → B → Type 0) (xs : List A) (ys : List B) → AllZip R xs ys → length xs ≡ length ys
zip_length R [] [] all = refl
zip_length R [] (v ∷ ys) all = absurd all
zip_length R (u ∷ xs) [] all = absurd all
zip_length R (u ∷ xs) (v ∷ ys) all = ap suc (zip_length R xs ys all.1)

pub all_more : {A : Type 0} (P : A → Type 0) (xs : List A) (x : A) → AllByRecursion P xs → P x → AllByRecursion P (xs ++ x ∷ [])
all_more P [] x all here = (here, tt)
all_more P (y ∷ xs) x all here = (all.0, all_more P xs x all.1 here)

-- what holds of each element holds of the one at a place
pub all_at : {A : Type 0} (P : A → Type 0) (xs : List A) (i : ℕ) (d : A) → AllByRecursion P xs → i < length xs → P (get_or xs i d)
all_at P [] i d all here = absurd (omega (arith, here))
all_at P (y ∷ xs) zero d all here = all.0
all_at P (y ∷ xs) (suc i) d all here = all_at P xs i d all.1 (omega (arith, here))

-- where a function is applied to each element
module _ {A B : Type 0} (f : A → B) (xs : List A) (i : ℕ) (x : A) (here : i < length xs) (is : x ≡ get_or xs i x) where
  behind : drop i xs ≡ x ∷ drop (i + 1) xs
  behind = let next : suc i ≡ i + 1 = omega arith in drop-cons xs i x here ∙ (ap (λ (n : ℕ). get_or xs i x ∷ drop n xs) next ∙ ap (λ y. y ∷ drop (i + 1) xs) (sym is))

  pub mapped_more : map f (take (i + 1) xs) ≡ map f (take i xs) ++ f x ∷ []
  mapped_more = ap (map f) (take_more xs i x here ∙ ap (λ y. take i xs ++ y ∷ []) (sym is)) ∙ map-append f (take i xs) (x ∷ [])

  -- the element reached is the first of those that are left
  pub mapped_first : map f (drop i xs) ≡ f x ∷ map f (drop (i + 1) xs)
  mapped_first = ap (map f) behind

  -- the element reached is between those before it and those after it
  pub mapped_splits : map f (take i xs) ++ f x ∷ map f (drop (i + 1) xs) ≡ map f xs
  mapped_splits = sym (map-append f (take i xs) (x ∷ drop (i + 1) xs)) ∙ ap (map f) (ap (λ (l : List A). take i xs ++ l) (sym behind) ∙ take-append-drop i xs)
