-- What holds of each element of a list, what a search finds, and tests.
use Rattle.std.proofs.Common.{◌≡◌, ◌&&◌, ◌||◌, Bool, true, false, List, [], ◌∷◌, ◌++◌, Option, Some, None, cond, not, refl, subst}
use Rattle.std.specs.Prelude.{find, is_some, slice_get}
use Rattle.std.specs.List.{list_all, list_any}
use Rattle.std.specs.Option.{option_or}
use Rattle.clap.specs.Kinds.{Kinds, or_else}
use Rattle.clap.proofs.WalkLemmas.{both}

-- ---- options and tests

pub or_none : {X : Type 0} (o : Option X) → option_or o None ≡ o
or_none None = refl
or_none (Some x) = refl

pub some_or : {X : Type 0} (o p : Option X) → is_some o ≡ true → option_or o p ≡ o
some_or None p e = cc
some_or (Some x) p e = refl

pub none_told : {X : Type 0} (o : Option X) → is_some o ≡ false → o ≡ None
none_told None e = refl
none_told (Some x) e = cc

pub not_told : (b : Bool) → not b ≡ true → b ≡ false
not_told true e = cc
not_told false e = refl

pub and_true : (x y : Bool) → x ≡ true → y ≡ true → (x && y) ≡ true
and_true true y p q = q
and_true false y p q = cc

pub neither : (x y : Bool) → (x || y) ≡ false → (x ≡ false) × (y ≡ false)
neither true y e = cc
neither false y e = (refl, e)

-- the cases of a choice
pub cond_cases : {X R : Type 0} (b : Bool) (x y z : X) → cond b x y ≡ z → (b ≡ true → x ≡ z → R) → (b ≡ false → y ≡ z → R) → R
cond_cases true x y z e first second = first refl e
cond_cases false x y z e first second = second refl e

-- where one of two steps fails, or both, there is a kind of error
pub first_empty : (x y : Kinds) → or_else x y ≡ [] → (x ≡ []) × (y ≡ [])
first_empty [] y e = (refl, e)
first_empty (k ∷ x) y e = cc

-- ---- lists

abbrev pub is_filled : {X : Type 0} → List X → Bool
is_filled [] = false
is_filled (x ∷ xs) = true

pub filled_more : {X : Type 0} (xs ys : List X) → is_filled xs ≡ true → is_filled (xs ++ ys) ≡ true
filled_more [] ys e = cc
filled_more (x ∷ xs) ys e = refl

abbrev pub Each : {X : Type 0} → (X → Type 0) → List X → Type 0
Each P [] = Unit {0}
Each P (x ∷ xs) = P x × Each P xs

pub each_append : {X : Type 0} (P : X → Type 0) (xs ys : List X) → Each P xs → Each P ys → Each P (xs ++ ys)
each_append P [] ys first second = second
each_append P (x ∷ xs) ys first second = (first.0, each_append P xs ys first.1 second)

pub each_weaker : {X : Type 0} (P Q : X → Type 0) → ((x : X) → P x → Q x) → (xs : List X) → Each P xs → Each Q xs
each_weaker P Q weaker [] all = tt
each_weaker P Q weaker (x ∷ xs) all = (weaker x all.0, each_weaker P Q weaker xs all.1)

pub each_passes : {X : Type 0} (p : X → Bool) (xs : List X) → list_all p xs ≡ true → Each (λ x. p x ≡ true) xs
each_passes p [] e = tt
each_passes p (x ∷ xs) e = let parts = both _ _ e in (parts.0, each_passes p xs parts.1)

pub none_passes : {X : Type 0} (p : X → Bool) (xs : List X) → list_any p xs ≡ false → Each (λ x. p x ≡ false) xs
none_passes p [] e = tt
none_passes p (x ∷ xs) e = let parts = neither (p x) (list_any p xs) e in (parts.0, none_passes p xs parts.1)

-- what is found has what each has, and passes the test
pub find_holds : {X : Type 0} (P : X → Type 0) (p : X → Bool) (xs : List X) → Each P xs → (x : X) → find p xs ≡ Some x → P x
find_holds P p [] all x e = cc
find_holds P p (y ∷ xs) all x e =
    cond_cases (p y) (Some y) (find p xs) (Some x) e (λ here is. let same : y ≡ x = cc in subst P same all.0) (λ other rest. find_holds P p xs all.1 x rest)

pub find_passes : {X : Type 0} (p : X → Bool) (xs : List X) (x : X) → find p xs ≡ Some x → p x ≡ true
find_passes p [] x e = cc
find_passes p (y ∷ xs) x e =
    cond_cases (p y) (Some y) (find p xs) (Some x) e (λ here is. let same : y ≡ x = cc in subst (λ z. p z ≡ true) same here) (λ other rest. find_passes p xs x rest)

-- something passes the test where something is found
pub any_found : {X : Type 0} (p : X → Bool) (xs : List X) → list_any p xs ≡ is_some (find p xs)
any_found p [] = refl
any_found p (x ∷ xs) = elim (p x) as (λ b. (b || list_any p xs) ≡ is_some (cond b (Some x) (find p xs))) [ true ↦ refl | false ↦ any_found p xs ]

-- the first element of a list of which all pass
pub first_passes : {X : Type 0} (p : X → Bool) (xs : List X) → is_filled xs ≡ true → list_all p xs ≡ true → (x : X) × (slice_get xs 0 ≡ Some x) × (p x ≡ true)
first_passes p [] filled all = cc
first_passes p (x ∷ xs) filled all = (x, refl, (both _ _ all).0)
