-- Eras are set out, that is get the place 0, one after another; and the bytes after a place are kept.
use Rattle.std.proofs.Common.{◌≡◌, refl, ℕ, zero, suc, ◌+◌, ◌-◌, ◌<◌, ◌≤◌, List, [], ◌∷◌, ◌++◌, length, take, drop, map, set, get_or, sym, ◌∙◌, ap, subst, arith, length-append, length-take, length-drop}
use Rattle.std.proofs.Math.Seq.{take-length, drop-length, drop-append_seam}
use Rattle.std.proofs.lemmas.List.{length-map, get_or_default, append-nil, drop-drop}
use Rattle.std.proofs.lemmas.List.Edits.{map_over_more}
use Rattle.std.proofs.lemmas.List.Elements.{All-map, All-from_recursion, recursion_from_All}
use Rattle.std.specs.List.{All, AllByRecursion}
use Rattle.base_devices.specs.declared.mem_disk.Era.{Era}
use Rattle.base_devices.specs.Disk.{put_at}
use Rattle.base_devices.specs.Eras.{set_out_era}

-- with one more era set out, the eras so far are set out and the others are as they were
pub set_out_more : (xs now : List Era) (i : ℕ) (d : Era) → i < length xs → now ≡ map set_out_era (take i xs) ++ drop i xs
    → set now i (set_out_era (get_or now i d)) ≡ map set_out_era (take (i + 1) xs) ++ drop (i + 1) xs
set_out_more xs now i d lt h =
    let len : length now ≡ length xs =
    omega (arith, ap length h, length-append (map set_out_era (take i xs)) (drop i xs), length-map (take i xs) set_out_era, length-take i xs, length-drop i xs) in
    map_over_more set_out_era xs now i (get_or now i d) lt h (get_or_default now i d (get_or now i d) (omega (arith, lt, len)))

-- after the last one, all eras are set out
pub all_set_out : (xs now : List Era) (i : ℕ) → i ≡ length xs → now ≡ map set_out_era (take i xs) ++ drop i xs → now ≡ map set_out_era xs
all_set_out xs now i all h =
    h ∙ ap (λ n. map set_out_era (take n xs) ++ drop n xs) all
    ∙ ap (λ (l : List Era). map set_out_era l ++ drop (length xs) xs) (take-length xs)
    ∙ ap (λ (l : List Era). map set_out_era xs ++ l) (drop-length xs)
    ∙ append-nil (map set_out_era xs)

take_none : (k : ℕ) → ◌≡◌ {A = List ℕ} (take k []) []
take_none zero = refl
take_none (suc k) = refl

-- a prefix without its first n elements is a prefix of the rest
drop_of_take : (n m : ℕ) (xs : List ℕ) → drop n (take m xs) ≡ take (m - n) (drop n xs)
drop_of_take zero m xs =
    let e : m ≡ m - 0 = omega arith in
    ap (λ k. take k xs) e
drop_of_take (suc n) zero xs =
    let e : 0 ≡ 0 - suc n = omega arith in
    ap (λ k. take k (drop (suc n) xs)) e
drop_of_take (suc n) (suc m) [] = sym (take_none (suc m - suc n))
drop_of_take (suc n) (suc m) (x ∷ xs) =
    let e : m - n ≡ suc m - suc n = omega arith in
    drop_of_take n m xs ∙ ap (λ k. take k (drop n xs)) e

-- the bytes after a piece that is put at a place are still those of `before`
pub behind_put : (content new before piece : List ℕ) (place : ℕ) → new ≡ put_at place piece content → place ≤ length content → drop place content ≡ take (length content - place) (drop place before)
    → drop (place + length piece) new ≡ take (length new - (place + length piece)) (drop (place + length piece) before)
behind_put content new before piece place is within behind =
    let n : ℕ = length piece in
    let front : List ℕ = take place content ++ piece in
    let rest : List ℕ = drop (place + n) content in
    let len : length front ≡ place + n = omega (arith, length-append (take place content) piece, length-take place content, within) in
    let parts : new ≡ front ++ rest = is in
    let left : drop (place + n) new ≡ rest = ap (λ (l : List ℕ). drop (place + n) l) parts ∙ ap (λ k. drop k (front ++ rest)) (sym len) ∙ drop-append_seam front rest in
    let len_rest : length new - (place + n) ≡ length content - place - n = omega (arith, ap length parts, length-append front rest, len, length-drop (place + n) content) in
    left ∙ sym (drop-drop n place content) ∙ ap (λ (l : List ℕ). drop n l) behind ∙ drop_of_take n (length content - place) (drop place before)
    ∙ ap (λ (l : List ℕ). take (length content - place - n) l) (drop-drop n place before) ∙ ap (λ k. take k (drop (place + n) before)) (sym len_rest)

none_ahead : (eras : List Era) → AllByRecursion (λ (era : Era). (set_out_era era).place ≤ 0) eras
none_ahead [] = tt
none_ahead (era ∷ eras) = (omega arith, none_ahead eras)

-- eras that are set out have the place 0
pub placed_out : (eras news : List Era) → news ≡ map set_out_era eras → All (λ (era : Era). era.place ≤ 0) news
placed_out eras news out =
    subst (λ (l : List Era). All (λ (era : Era). era.place ≤ 0) l) (sym out) (All-map (λ (era : Era). era.place ≤ 0) set_out_era eras (All-from_recursion (λ (era : Era). (set_out_era era).place ≤ 0) eras (none_ahead eras)))

farther : (a b : ℕ) (eras : List Era) → a ≤ b → AllByRecursion (λ (era : Era). era.place ≤ a) eras → AllByRecursion (λ (era : Era). era.place ≤ b) eras
farther a b [] le h = tt
farther a b (era ∷ eras) le h = (omega (arith, le, h.0), farther a b eras le h.1)

-- places that are at most a are at most b, if a is at most b
pub placed_farther : (a b : ℕ) (eras : List Era) → a ≤ b → All (λ (era : Era). era.place ≤ a) eras → All (λ (era : Era). era.place ≤ b) eras
placed_farther a b eras le h = All-from_recursion (λ (era : Era). era.place ≤ b) eras (farther a b eras le (recursion_from_All (λ (era : Era). era.place ≤ a) eras h))
