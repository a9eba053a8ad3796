-- The pages below a page: that they are as high, and at least half full.
use Rattle.std.proofs.Common.{◌≡◌, ℕ, zero, suc, ◌<◌, ◌≤◌, List, [], ◌∷◌, length, take, drop, get_or, set, refl, sym, ap, ◌∙◌, subst, arith}
use Rattle.std.specs.List.{AllByRecursion}
use Rattle.table_tree.specs.Pages.{Branch, height_of, IsDense, IsSide, AreBelow}
use Rattle.table_tree.proofs.Density.{height_level}

module _ {X : Type 0} (P : X → Type 0) where
  pub all_taken : (n : ℕ) (xs : List X) → AllByRecursion P xs → AllByRecursion P (take n xs)
  all_taken zero xs a = tt
  all_taken (suc n) [] a = tt
  all_taken (suc n) (x ∷ xs) a = (a.0, all_taken n xs a.1)

  pub all_dropped : (n : ℕ) (xs : List X) → AllByRecursion P xs → AllByRecursion P (drop n xs)
  all_dropped zero xs a = a
  all_dropped (suc n) [] a = tt
  all_dropped (suc n) (x ∷ xs) a = all_dropped n xs a.1

  pub all_set : (xs : List X) (i : ℕ) (y : X) → P y → AllByRecursion P xs → AllByRecursion P (set xs i y)
  all_set [] i y p a = tt
  all_set (x ∷ xs) zero y p a = (p, a.1)
  all_set (x ∷ xs) (suc i) y p a = (a.0, all_set xs i y p a.1)

  pub all_get : (xs : List X) (i : ℕ) (d : X) → i < length xs → AllByRecursion P xs → P (get_or xs i d)
  all_get [] i d less a = absurd (omega (arith, less))
  all_get (x ∷ xs) zero d less a = a.0
  all_get (x ∷ xs) (suc i) d less a = all_get xs i d (omega (arith, less)) a.1

-- pages of one height
pub levels_of : (h n : ℕ) (bs : List Branch) → AllByRecursion (IsSide h) bs → length bs ≡ suc n → AreBelow n bs
levels_of h n [] a same = tt
levels_of h n (b ∷ bs) a same = (omega (arith, same), subst (λ k. AllByRecursion (IsSide k) (b ∷ bs)) (sym a.0.height) a)

pub height_of_level : (h : ℕ) (bs : List Branch) → AllByRecursion (IsSide h) bs → 0 < length bs → height_of bs ≡ suc h
height_of_level h [] a some = absurd (omega (arith, some))
height_of_level h (b ∷ bs) a some = height_level h b bs a

-- the height of the pages below, where there are some
pub record HasLevel (n : ℕ) (bs : List Branch) (h : ℕ) : Type 0 where
  pub all : AllByRecursion (IsSide h) bs
  pub count : length bs ≡ suc n
  pub height : height_of bs ≡ suc h

pub level_of : (n : ℕ) (bs : List Branch) → AreBelow n bs → 0 < length bs → (h : ℕ) × HasLevel n bs h
level_of n [] a some = absurd (omega (arith, some))
level_of n (b ∷ bs) a some = (b.height, record { all = a.1; count = ap suc a.0; height = height_level b.height b bs a.1 })

-- a page in place of another that was no higher and no fuller
pub levels_set : (n i : ℕ) (bs : List Branch) (d new : Branch) → AreBelow n bs → i < length bs → new.height ≡ (get_or bs i d).height → (get_or bs i d).own ≤ new.own → IsDense new
    → AreBelow n (set bs i new) × (height_of (set bs i new) ≡ height_of bs)
levels_set n i bs d new a less same grown dense =
    let some : 0 < length bs = omega (arith, less) in
    let level = level_of n bs a some in
    let old = all_get (IsSide level.0) bs i d less level.1.all in
    let side : IsSide level.0 new = record { height = same ∙ old.height; own = let o = old.own in omega (arith, grown, o); dense = dense } in
    let all = all_set (IsSide level.0) bs i new side level.1.all in
    let len : length (set bs i new) ≡ length bs = same_length bs i in
    (levels_of level.0 n (set bs i new) all (len ∙ level.1.count), height_of_level level.0 (set bs i new) all (omega (arith, some, len)) ∙ sym level.1.height)
  where
    same_length : (xs : List Branch) (k : ℕ) → length (set xs k new) ≡ length xs
    same_length [] k = refl
    same_length (x ∷ xs) zero = refl
    same_length (x ∷ xs) (suc k) = ap suc (same_length xs k)
