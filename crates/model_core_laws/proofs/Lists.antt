-- Laws of lists that several events need.
use Rattle.std.proofs.Common.{◌≡◌, ◌+◌, List, [], ◌∷◌, ◌++◌, Bool, true, false, filter, refl, ap, ◌∙◌, subst, inl, inr, arith, if◌then◌else◌, ◌&&◌}
use Rattle.std.specs.List.{AllByRecursion, AllZip, count_by}
use Rattle.std.proofs.lemmas.List.Sums.{sum_by-append}
use Rattle.std.proofs.Common.{◌≡◌, zero, suc, ◌+◌, Bool, true, false, cond, List, [], ◌∷◌, ◌++◌, length, filter, count_by, Contains, if◌then◌else◌, ◌⊎◌, inl, inr, refl, ap, ◌∙◌, subst, arith}
use Rattle.std.specs.List.{AllByRecursion, AllZip}
use Rattle.std.proofs.lemmas.List.Elements.{All-from_recursion, recursion_from_All, All-contains, All-contains_itself, Contains-append_right}
use Rattle.std.proofs.lemmas.List.Sums.{sum_by-append}

pub and_parts : (a b : Bool) → (a && b) ≡ true → (a ≡ true) × (b ≡ true)
and_parts true b e = (refl, e)
and_parts false b e = absurd (cc)

-- What holds of each element

pub all_append : {X : Type 0} (P : X → Type 0) (xs ys : List X) → AllByRecursion P xs → AllByRecursion P ys → AllByRecursion P (xs ++ ys)
all_append P [] ys a b = b
all_append P (x ∷ xs) ys a b = (a.0, all_append P xs ys a.1 b)

pub all_front : {X : Type 0} (P : X → Type 0) (xs ys : List X) → AllByRecursion P (xs ++ ys) → AllByRecursion P xs
all_front P [] ys a = tt
all_front P (x ∷ xs) ys a = (a.0, all_front P xs ys a.1)

pub all_back : {X : Type 0} (P : X → Type 0) (xs ys : List X) → AllByRecursion P (xs ++ ys) → AllByRecursion P ys
all_back P [] ys a = a
all_back P (x ∷ xs) ys a = all_back P xs ys a.1

pub all_weaker : {X : Type 0} (P Q : X → Type 0) → ((x : X) → P x → Q x) → (xs : List X) → AllByRecursion P xs → AllByRecursion Q xs
all_weaker P Q f [] a = tt
all_weaker P Q f (x ∷ xs) a = (f x a.0, all_weaker P Q f xs a.1)

pub contains_cases : {A : Type 0} (y : A) (xs : List A) (x : A) → Contains (y ∷ xs) x → (y ≡ x) ⊎ Contains xs x
contains_cases y xs x (zero, l, e) = inl e
contains_cases y xs x (suc k, l, e) = inr (k, omega arith, e)

pub contains_head : {A : Type 0} (x : A) (xs : List A) → Contains (x ∷ xs) x
contains_head x xs = (0, omega arith, refl)

pub contains_tail : {A : Type 0} (y : A) (xs : List A) (x : A) → Contains xs x → Contains (y ∷ xs) x
contains_tail y xs x is = Contains-append_right (y ∷ []) xs x is

pub all_weaker_at : {A : Type 0} (P Q : A → Type 0) (xs : List A) → ((x : A) → Contains xs x → P x → Q x) → AllByRecursion P xs → AllByRecursion Q xs
all_weaker_at P Q [] f h = tt
all_weaker_at P Q (x ∷ xs) f h = (f x (contains_head x xs) h.0, all_weaker_at P Q xs (λ y is. f y (contains_tail x xs y is)) h.1)

pub all_of : {X : Type 0} (P : X → Type 0) → ((x : X) → P x) → (xs : List X) → AllByRecursion P xs
all_of P f [] = tt
all_of P f (x ∷ xs) = (f x, all_of P f xs)

pub all_at : {A : Type 0} (P : A → Type 0) (xs : List A) (x : A) → AllByRecursion P xs → Contains xs x → P x
all_at P xs x h is = All-contains P xs x (All-from_recursion P xs h) is

pub all_contained : {A : Type 0} (xs : List A) → AllByRecursion (λ x. Contains xs x) xs
all_contained xs = recursion_from_All (λ x. Contains xs x) xs (All-contains_itself xs)

-- Filters

pub all_filtered : {A : Type 0} (P : A → Type 0) (p : A → Bool) (xs : List A) → AllByRecursion (λ x. p x ≡ true → P x) xs → AllByRecursion P (filter p xs)
all_filtered P p [] h = tt
all_filtered P p (x ∷ xs) h = by (p x) h.0 (all_filtered P p xs h.1)
  where
    by : (b : Bool) → (b ≡ true → P x) → AllByRecursion P (filter p xs) → AllByRecursion P (cond b (x ∷ filter p xs) (filter p xs))
    by true here later = (here refl, later)
    by false here later = later

pub contains_filtered : {A : Type 0} (p : A → Bool) (xs : List A) (x : A) → Contains xs x → p x ≡ true → Contains (filter p xs) x
contains_filtered p [] x (k, l, e) passes = absurd (omega arith)
contains_filtered {A = A} p (y ∷ xs) x is passes = by (p y) refl (contains_cases y xs x is) (λ later. contains_filtered p xs x later passes)
  where
    by : (b : Bool) → p y ≡ b → (y ≡ x) ⊎ Contains xs x → (Contains xs x → Contains (filter p xs) x) → Contains (cond b (y ∷ filter p xs) (filter p xs)) x
    by true so (inl here) go = subst (λ v. Contains (y ∷ filter p xs) v) here (contains_head y (filter p xs))
    by true so (inr later) go = contains_tail y (filter p xs) x (go later)
    by false so (inl here) go = absurd (let e : p y ≡ true = ap p here ∙ passes in cc)
    by false so (inr later) go = go later

-- Lists that agree place by place

pub zip_append : {A B : Type 0} (R : A → B → Type 0) (xs : List A) (cs : List B) (ys : List A) (ds : List B) → AllZip R xs cs → AllZip R ys ds → AllZip R (xs ++ ys) (cs ++ ds)
zip_append R [] [] ys ds a b = b
zip_append R [] (c ∷ cs) ys ds a b = absurd a
zip_append R (x ∷ xs) [] ys ds a b = absurd a
zip_append R (x ∷ xs) (c ∷ cs) ys ds a b = (a.0, zip_append R xs cs ys ds a.1 b)

pub zip_weaker : {A B : Type 0} (P : A → Type 0) (R S : A → B → Type 0) → ((x : A) (y : B) → P x → R x y → S x y) → (xs : List A) (ys : List B) → AllByRecursion P xs → AllZip R xs ys → AllZip S xs ys
zip_weaker P R S f [] [] p z = tt
zip_weaker P R S f [] (y ∷ ys) p z = absurd z
zip_weaker P R S f (x ∷ xs) [] p z = absurd z
zip_weaker P R S f (x ∷ xs) (y ∷ ys) p z = (f x y p.0 z.0, zip_weaker P R S f xs ys p.1 z.1)

pub record Parted {A B : Type 0} (R : A → B → Type 0) (xs ys : List A) (zs : List B) : Type 0 where
  pub front : List B
  pub back : List B
  pub whole : zs ≡ front ++ back
  pub at_front : AllZip R xs front
  pub at_back : AllZip R ys back

pub parted : {A B : Type 0} (R : A → B → Type 0) (xs ys : List A) (zs : List B) → AllZip R (xs ++ ys) zs → Parted R xs ys zs
parted R [] ys zs h = record { front = []; back = zs; whole = refl; at_front = tt; at_back = h }
parted R (x ∷ xs) ys [] h = absurd h
parted R (x ∷ xs) ys (z ∷ zs) h = let p = parted R xs ys zs h.1 in record { front = z ∷ p.front; back = p.back; whole = ap (λ us. z ∷ us) p.whole; at_front = (h.0, p.at_front); at_back = p.at_back }

pub zip_right : {A B : Type 0} (R : A → B → Type 0) (xs : List A) (ys : List B) (x : A) → AllZip R xs ys → Contains xs x → (y : B) × R x y × Contains ys y
zip_right R [] ys x h (k, l, e) = absurd (omega arith)
zip_right R (w ∷ xs) [] x h is = absurd h
zip_right {B = B} R (w ∷ xs) (y ∷ ys) x h is = elim (contains_cases w xs x is) as (λ _. (v : B) × R x v × Contains (y ∷ ys) v) [
  | inl here ↦ (y, subst (λ v. R v y) here h.0, contains_head y ys)
  | inr later ↦ (let p = zip_right R xs ys x h.1 later in (p.0, p.1, contains_tail y ys p.0 p.2))
]

pub zip_left : {A B : Type 0} (R : A → B → Type 0) (xs : List A) (ys : List B) (y : B) → AllZip R xs ys → Contains ys y → (x : A) × R x y × Contains xs x
zip_left R xs [] y h (k, l, e) = absurd (omega arith)
zip_left R [] (v ∷ ys) y h is = absurd h
zip_left {A = A} R (x ∷ xs) (v ∷ ys) y h is = elim (contains_cases v ys y is) as (λ _. (w : A) × R w y × Contains (x ∷ xs) w) [
  | inl here ↦ (x, subst (λ v. R x v) here h.0, contains_head x xs)
  | inr later ↦ (let p = zip_left R xs ys y h.1 later in (p.0, p.1, contains_tail x xs p.0 p.2))
]

-- Counts

-- lists that are joined alike, where the first ones have the same length
pub append_parts : {A : Type 0} (xs us ys vs : List A) → length xs ≡ length us → xs ++ ys ≡ us ++ vs → (xs ≡ us) × (ys ≡ vs)
append_parts [] [] ys vs n e = (refl, e)
append_parts [] (u ∷ us) ys vs n e = absurd (omega arith)
append_parts (x ∷ xs) [] ys vs n e = absurd (omega arith)
append_parts (x ∷ xs) (u ∷ us) ys vs n e =
    let first : x ≡ u = cc in
    let more : xs ++ ys ≡ us ++ vs = cc in
    let rest = append_parts xs us ys vs (omega arith) more in
    (cc (first, rest.0), rest.1)

pub zip_length : {A B : Type 0} (R : A → B → Type 0) (xs : List A) (ys : List B) → AllZip R xs ys → length xs ≡ length ys
zip_length R [] [] a = refl
zip_length R [] (y ∷ ys) a = absurd a
zip_length R (x ∷ xs) [] a = absurd a
zip_length R (x ∷ xs) (y ∷ ys) a = let more = zip_length R xs ys a.1 in omega arith

pub count_append : {X : Type 0} (p : X → Bool) (xs ys : List X) → count_by p (xs ++ ys) ≡ count_by p xs + count_by p ys
count_append p xs ys = sum_by-append (λ x. if p x then 1 else 0) xs ys
