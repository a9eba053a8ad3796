-- A fragment that a reader sees next is in the file there.
use Rattle.std.proofs.Common.{◌≡◌, ℕ, ◌+◌, ◌-◌, ◌<◌, ◌≤◌, Bool, true, false, ◌&&◌, List, [], ◌∷◌, ◌++◌, length, take, drop, replicate, Option, Some, None, refl, sym, ◌∙◌, ap, subst, arith, cond, nat_lt, ◌==◌, length-take, length-drop, append_assoc, append-nil, add-zero}
use Rattle.std.proofs.lemmas.List.{take-append-drop, drop-drop}
use Rattle.std.proofs.lemmas.Bool.{ltb-true, ltb-false, lt-ltb, le-ltb, eqb-true}
use Rattle.model_base.specs.Log.{header_len, Fragment, fragment_bytes, room, trailer, next_place}
use Rattle.model_base.specs.declared.log.Damage.TheVariants.{BadTrailer}
use Rattle.model_base.specs.Reading.{Seen, Next, fragment, nothing, damage, seen_within, seen_at, are_zeros, length_field, part_field, next_seen, behind_zeros, HasFragments}
use Rattle.log_laws.proofs.Next.{cases_bool}
use Rattle.log_laws.proofs.Placed.{behind}
use Rattle.log_recovery_laws.specs.Reads.{AreBytes}
use Rattle.log_recovery_laws.proofs.Bytes.{bytes_take, bytes_drop}
use Rattle.log_recovery_laws.proofs.SeenFragment.{one_is, fragment_is, fragment_bytes_are}

-- where the block has room for a header no zeros are due, and the next fragment begins at once; else it begins with
-- the next block
none_due : (number : Option ℕ) (offset : ℕ) → header_len number ≤ room offset → trailer number offset ≡ 0
none_due number offset many = ap (λ (b : Bool). cond b (room offset) 0) (le-ltb (room offset) (header_len number) many)

some_due : (number : Option ℕ) (offset : ℕ) → room offset < header_len number → trailer number offset ≡ room offset
some_due number offset few = ap (λ (b : Bool). cond b (room offset) 0) (lt-ltb (room offset) (header_len number) few)

-- so no zeros are due where a fragment is seen
none_there : (number : Option ℕ) (file : List ℕ) (offset : ℕ) (f : Fragment) → seen_at number file offset ≡ fragment f → trailer number offset ≡ 0
none_there number file offset f seen = none_due number offset (fragment_is number (room offset) (take (room offset) (drop offset file)) f seen).room

-- The fragment that the reader sees next begins at the next place.
pub next_begins : (number : Option ℕ) (file : List ℕ) (offset place : ℕ) (f : Fragment) → record { at = place; seen = fragment f } ≡ next_seen number file offset → place ≡ next_place number offset
next_begins number file offset place f e = by_seen (seen_at number file offset) refl e
  where
    by_seen : (s : Seen) → seen_at number file offset ≡ s → record { at = place; seen = fragment f } ≡ behind_zeros number file offset s → place ≡ next_place number offset
    by_seen nothing seen h = ap (λ (n : Next). n.at) h
    by_seen (damage d) seen h = let wrong : fragment f ≡ damage d = ap (λ (n : Next). n.seen) h in absurd (cc)
    by_seen (fragment g) seen h = ap (λ (n : Next). n.at) h ∙ sym (ap (λ (n : ℕ). offset + n) (none_there number file offset g seen) ∙ add-zero offset)

-- Where nothing is seen, zeros end the block, or the block has room for a header (and no bytes are left, which isn't
-- needed here).
data IsNothing (number : Option ℕ) (space : ℕ) (bytes : List ℕ) : Type 0 where
  zeros_left : space < header_len number → are_zeros bytes ≡ true → IsNothing number space bytes
  none_left : header_len number ≤ space → IsNothing number space bytes

nothing_is : (number : Option ℕ) (space : ℕ) (bytes : List ℕ) → seen_within number space bytes ≡ nothing → IsNothing number space bytes
unfolding seen_within
nothing_is None space bytes e = cases_bool (nat_lt space 7)
    (λ few. zeros_left (ltb-true space 7 few) (one_is (are_zeros bytes) nothing (damage BadTrailer) nothing (in_trailer (nat_lt space 7) few _ e) (λ h. cc)).0)
    (λ many. none_left (ltb-false space 7 many))
  where
    in_trailer : (b : Bool) → b ≡ true → (later : Seen) → cond b (cond (are_zeros bytes) nothing (damage BadTrailer)) later ≡ nothing → cond (are_zeros bytes) nothing (damage BadTrailer) ≡ nothing
    in_trailer true few later h = h
    in_trailer false few later h = absurd (cc)
nothing_is (Some n) space bytes e = cases_bool (nat_lt space 11)
    (λ few. zeros_left (ltb-true space 11 few) (one_is (are_zeros bytes) nothing (damage BadTrailer) nothing (in_trailer (nat_lt space 11) few _ e) (λ h. cc)).0)
    (λ many. none_left (ltb-false space 11 many))
  where
    in_trailer : (b : Bool) → b ≡ true → (later : Seen) → cond b (cond (are_zeros bytes) nothing (damage BadTrailer)) later ≡ nothing → cond (are_zeros bytes) nothing (damage BadTrailer) ≡ nothing
    in_trailer true few later h = h
    in_trailer false few later h = absurd (cc)

zeros_replicate : (bytes : List ℕ) → are_zeros bytes ≡ true → bytes ≡ replicate (length bytes) 0
zeros_replicate [] e = refl
zeros_replicate (b ∷ bytes) e =
    let both = and_both (b == 0) (are_zeros bytes) e in
    ap (λ (n : ℕ). n ∷ bytes) (eqb-true b 0 both.0) ∙ ap (λ (l : List ℕ). 0 ∷ l) (zeros_replicate bytes both.1)
  where
    and_both : (s t : Bool) → (s && t) ≡ true → (s ≡ true) × (t ≡ true)
    and_both true t h = (refl, h)
    and_both false t h = absurd (cc)

-- this fragment is in the file at this place, within its block
record StandsAt (number : Option ℕ) (file : List ℕ) (place : ℕ) (f : Fragment) : Type 0 where
  fits : header_len number + length f.part ≤ room place
  rest : List ℕ
  there : drop place file ≡ fragment_bytes number f ++ rest
  within : place + header_len number + length f.part ≤ length file

seen_stands : (number : Option ℕ) (file : List ℕ) (place : ℕ) (f : Fragment) → AreBytes file → seen_at number file place ≡ fragment f → StandsAt number file place f
seen_stands number file place f are e =
    let bytes = take (room place) (drop place file) in
    let is = fragment_is number (room place) bytes f e in
    let there = is.there in
    let len : length f.part ≡ length (part_field number bytes) = ap length is.part_is in
    let part_len : length (part_field number bytes) ≡ length_field bytes = omega (arith, there, length-take (length_field bytes) (drop (header_len number) bytes), length-drop (header_len number) bytes) in
    let bytes_len : length bytes ≤ room place = omega (arith, length-take (room place) (drop place file)) in
    let file_len : length bytes ≤ length file - place = omega (arith, length-take (room place) (drop place file), length-drop place file) in
    let front = fragment_bytes_are number (room place) bytes f (bytes_take (room place) (drop place file) (bytes_drop place file are)) e in
    let some : 0 < header_len number = omega (arith, some_header number) in
    record {
      fits = omega (arith, there, part_len, len, bytes_len);
      rest = drop (header_len number + length f.part) bytes ++ drop (room place) (drop place file);
      there = sym (take-append-drop (room place) (drop place file))
          ∙ (ap (λ (l : List ℕ). l ++ drop (room place) (drop place file)) front ∙ append_assoc (fragment_bytes number f) (drop (header_len number + length f.part) bytes) (drop (room place) (drop place file)));
      within = omega (arith, there, part_len, len, file_len, some);
    }
  where
    some_header : (number : Option ℕ) → 0 < header_len number
    some_header None = omega arith
    some_header (Some n) = omega arith

-- this fragment is in the file after the zeros that are due at the offset
pub record ComesNext (number : Option ℕ) (file : List ℕ) (offset : ℕ) (f : Fragment) : Type 0 where
  pub stand : HasFragments number file offset (f ∷ [])
  pub within : behind number offset f ≤ length file

by_stand : (number : Option ℕ) (file : List ℕ) (offset : ℕ) (f : Fragment) → (s : StandsAt number file (next_place number offset) f) → drop offset file ≡ replicate (trailer number offset) 0 ++ (fragment_bytes number f ++ s.rest) → ComesNext number file offset f
by_stand number file offset f s e = record {
  stand = record {
    rest = s.rest;
    there = e ∙ (sym (append_assoc (replicate (trailer number offset) 0) (fragment_bytes number f) s.rest) ∙ ap (λ (l : List ℕ). l ++ s.rest) (sym (append-nil (replicate (trailer number offset) 0 ++ fragment_bytes number f))));
    fit = (s.fits, tt);
  };
  within = s.within;
}

pub next_stands : (number : Option ℕ) (file : List ℕ) (offset : ℕ) (f : Fragment) → AreBytes file → (next_seen number file offset).seen ≡ fragment f → ComesNext number file offset f
next_stands number file offset f are e = by_seen (seen_at number file offset) refl e
  where
    at_once : seen_at number file offset ≡ fragment f → ComesNext number file offset f
    at_once seen =
        let none : trailer number offset ≡ 0 = none_there number file offset f seen in
        let here : offset ≡ next_place number offset = sym (ap (λ (n : ℕ). offset + n) none ∙ add-zero offset) in
        let stands = seen_stands number file (next_place number offset) f are (subst (λ n. seen_at number file n ≡ fragment f) here seen) in
        by_stand number file offset f stands (ap (λ (n : ℕ). drop n file) here ∙ (stands.there ∙ ap (λ (n : ℕ). replicate n 0 ++ (fragment_bytes number f ++ stands.rest)) (sym none)))

    by_nothing : IsNothing number (room offset) (take (room offset) (drop offset file)) → seen_at number file offset ≡ nothing → seen_at number file (next_place number offset) ≡ fragment f → ComesNext number file offset f
    by_nothing (none_left many) none seen =
        let here : next_place number offset ≡ offset = ap (λ (n : ℕ). offset + n) (none_due number offset many) ∙ add-zero offset in
        let wrong : nothing ≡ fragment f = sym none ∙ (ap (seen_at number file) (sym here) ∙ seen) in
        absurd (cc)
    by_nothing (zeros_left few zeros) none seen =
        let due : trailer number offset ≡ room offset = some_due number offset few in
        let stands = seen_stands number file (next_place number offset) f are seen in
        let within = stands.within in
        let bytes : List ℕ = take (room offset) (drop offset file) in
        let long : length bytes ≡ trailer number offset = omega (arith, length-take (room offset) (drop offset file), length-drop offset file, within, due) in
        let front : bytes ≡ replicate (trailer number offset) 0 = zeros_replicate bytes zeros ∙ ap (λ (n : ℕ). replicate n 0) long in
        let back : drop (room offset) (drop offset file) ≡ drop (next_place number offset) file = drop-drop (room offset) offset file ∙ ap (λ (n : ℕ). drop (offset + n) file) (sym due) in
        by_stand number file offset f stands
        (sym (take-append-drop (room offset) (drop offset file))
        ∙ (ap (λ (l : List ℕ). l ++ drop (room offset) (drop offset file)) front ∙ ap (λ (l : List ℕ). replicate (trailer number offset) 0 ++ l) (back ∙ stands.there)))

    by_seen : (s : Seen) → seen_at number file offset ≡ s → (behind_zeros number file offset s).seen ≡ fragment f → ComesNext number file offset f
    by_seen (damage d) seen h = absurd (cc)
    by_seen (fragment g) seen h = at_once (seen ∙ h)
    by_seen nothing seen h = by_nothing (nothing_is number (room offset) (take (room offset) (drop offset file)) seen) seen h
