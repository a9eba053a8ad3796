-- Lists of disks that are parted and come together again.
use Rattle.std.proofs.Common.{◌≡◌, ℕ, suc, ◌<◌, List, [], ◌∷◌, ◌++◌, length, take, drop, get_or, remove, refl, ap, sym, ◌∙◌, subst, arith}
use Rattle.std.proofs.lemmas.List.{take_at, drop_at}
use Rattle.std.specs.List.{AllZip}
use Rattle.program_call.specs.SeveralDisks.{OverFirst, OverFront}

-- the first element, and what is left without it
pub first_and_rest : {D : Type 0} (disks : List D) (first : D) → 0 < length disks → first ≡ get_or disks 0 first → disks ≡ first ∷ remove disks 0
first_and_rest [] first some is = absurd (omega (arith, some))
first_and_rest (d ∷ disks) first some is = ap (λ x. x ∷ disks) (sym is)

-- the last element, put in front of the others
pub last_in_front : {D : Type 0} (others : List D) (last : D) (place : ℕ) → length others ≡ place → drop place (others ++ last ∷ []) ++ take place (others ++ last ∷ []) ≡ last ∷ others
last_in_front others last place is = ap (λ xs. xs ++ take place (others ++ last ∷ [])) (drop_at others (last ∷ []) place is) ∙ ap (λ xs. last ∷ xs) (take_at others (last ∷ []) place is)

pub same_length : {A B : Type 0} (R : A → B → Type 0) (xs : List A) (ys : List B) → AllZip R xs ys → length ys ≡ length xs
same_length R [] [] zip = refl
same_length R [] (y ∷ ys) zip = absurd zip
same_length R (x ∷ xs) [] zip = absurd zip
same_length R (x ∷ xs) (y ∷ ys) zip = ap suc (same_length R xs ys zip.1)

-- what holds of the first disks, once the others were put behind them again, as they were
pub over_front : {D : Type 0} (used : ℕ) (olds ran news : List D) (P : List D → List D → Type 0) → length ran ≡ used → news ≡ ran ++ drop used olds → P (take used olds) ran → OverFront used olds news P
over_front used olds ran news P few is so =
    let front : take used news ≡ ran = ap (take used) is ∙ take_at ran (drop used olds) used few in
    (subst (P (take used olds)) (sym front) so, ap (drop used) is ∙ drop_at ran (drop used olds) used few)

pub over_first : {D : Type 0} (olds news : List D) (old new : D) (others : List D) (P : D → D → Type 0) → olds ≡ old ∷ others → news ≡ new ∷ others → P old new → OverFirst olds news P
over_first olds news old new others P was is so =
    subst (λ ns. OverFirst olds ns P) (sym is) (subst (λ os. OverFirst os (new ∷ others) P) (sym was) (so, refl))
