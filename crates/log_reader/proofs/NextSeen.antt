-- What the reader sees next, at an offset of a log.
use Rattle.std.proofs.Common.{◌≡◌, ℕ, suc, ◌+◌, ◌-◌, ◌<◌, ◌≤◌, Bool, true, false, not, ◌&&◌, List, [], ◌∷◌, ◌++◌, length, take, drop, get_or, replicate, bytes_eq, Option, Some, None, refl, sym, ◌∙◌, ap, subst, arith, cond, nat_lt, ◌==◌, length-take, length-drop, append_assoc, append-nil, add-zero, lit<}
use Rattle.std.proofs.lemmas.List.{take-append-drop, drop-drop}
use Rattle.std.specs.Int.{w32, to_le_bytes}
use Rattle.std.proofs.lemmas.Bool.{ltb-true, ltb-false, lt-ltb, le-ltb, eqb-true}
use Rattle.model_base.specs.Log.{Kind, Fragment, header_len, fragment_bytes, room, trailer, next_place}
use Rattle.model_base.specs.declared.log.Damage.{Damage}
use Rattle.model_base.specs.declared.log.Damage.TheVariants.{BadTrailer}
use Rattle.model_base.specs.Reading.{Seen, Next, fragment, nothing, damage, seen_within, seen_at, are_zeros, seen_of_kind, seen_of_kind_numbered, kind_of_code, type_field, length_field, part_field, next_seen, behind_zeros, HasFragments}
use Rattle.log_laws.proofs.Next.{cases_bool}
use Rattle.log_laws.proofs.Placed.{behind}
use Rattle.log_recovery_laws.specs.Reads.{AreBytes}
use Rattle.log_recovery_laws.proofs.SeenFragment.{other, one_is, fragment_is, fragment_bytes_are}

-- a header has at least one byte
pub header_some : (number : Option ℕ) → 0 < header_len number
header_some None = lit< tt
header_some (Some n) = lit< tt

-- where the block has room for a header, no zeros are due and the next fragment begins at once
pub none_due : (number : Option ℕ) (offset : ℕ) → header_len number ≤ room offset → next_place number offset ≡ offset
none_due number offset many = ap (λ (b : Bool). offset + cond b (room offset) 0) (le-ltb (room offset) (header_len number) many) ∙ add-zero offset

-- else it begins with the next block
pub some_due : (number : Option ℕ) (offset : ℕ) → room offset < header_len number → next_place number offset ≡ offset + room offset
some_due number offset few = ap (λ (b : Bool). offset + cond b (room offset) 0) (lt-ltb (room offset) (header_len number) few)

-- where there are no bytes, nothing is seen
pub seen_none : (number : Option ℕ) (space : ℕ) → seen_within number space [] ≡ nothing
unfolding seen_within
seen_none None space = elim (nat_lt space 7) as (λ b. cond b nothing nothing ≡ nothing) [ true ↦ refl | false ↦ refl ]
seen_none (Some n) space = elim (nat_lt space 11) as (λ b. cond b nothing nothing ≡ nothing) [ true ↦ refl | false ↦ refl ]

-- where a header's kind is looked at, a fragment or damage is seen, and never nothing
by_sum : (b : Bool) (f : Fragment) (d : Damage) → cond b (fragment f) (damage d) ≡ nothing → ⊥
by_sum true f d e = cc
by_sum false f d e = cc

some_kind : (bytes : List ℕ) (o : Option Kind) → seen_of_kind bytes o ≡ nothing → ⊥
some_kind bytes None e = cc
some_kind bytes (Some k) e = by_sum _ _ _ e

some_numbered : (n : ℕ) (bytes : List ℕ) (o : Option Kind) → seen_of_kind_numbered n bytes o ≡ nothing → ⊥
some_numbered n bytes None e = cc
some_numbered n bytes (Some k) e =
    let s1 = other (not (bytes_eq (take 4 (drop 7 bytes)) (to_le_bytes w32 n))) _ _ nothing e (λ h. cc) in
    let s2 = other (nat_lt (length bytes) (11 + length_field bytes)) _ _ nothing s1.1 (λ h. cc) in
    by_sum _ _ _ s2.1

-- Where nothing is seen, zeros end the block, or there are no more bytes.
pub data IsNothing (number : Option ℕ) (space : ℕ) (bytes : List ℕ) : Type 0 where
  zeros_left : space < header_len number → are_zeros bytes ≡ true → IsNothing number space bytes
  none_left : header_len number ≤ space → length bytes ≡ 0 → IsNothing number space bytes

-- this holds where what is seen of a whole header is never nothing
by_room : (number : Option ℕ) (space : ℕ) (bytes : List ℕ) (later : Seen)
    → cond (nat_lt space (header_len number)) (cond (are_zeros bytes) nothing (damage BadTrailer)) (cond (length bytes == 0) nothing later) ≡ nothing → (later ≡ nothing → ⊥) → IsNothing number space bytes
by_room number space bytes later e some = cases_bool (nat_lt space (header_len number))
    (λ few. zeros_left (ltb-true space (header_len number) few) (one_is (are_zeros bytes) nothing (damage BadTrailer) nothing (at_true _ _ _ few e) (λ h. cc)).0)
    (λ many. none_left (ltb-false space (header_len number) many) (eqb-true (length bytes) 0 (one_is (length bytes == 0) nothing later nothing (at_false _ _ _ many e) some).0))
  where
    at_true : (b : Bool) (x y : Seen) → b ≡ true → cond b x y ≡ nothing → x ≡ nothing
    at_true true x y t h = h
    at_true false x y t h = absurd (cc)

    at_false : (b : Bool) (x y : Seen) → b ≡ false → cond b x y ≡ nothing → y ≡ nothing
    at_false true x y t h = absurd (cc)
    at_false false x y t h = h

pub nothing_is : (number : Option ℕ) (space : ℕ) (bytes : List ℕ) → seen_within number space bytes ≡ nothing → IsNothing number space bytes
unfolding seen_within
nothing_is None space bytes e = by_room None space bytes _ e (λ h.
    let s1 = other (nat_lt (length bytes) 7) _ _ nothing h (λ x. cc) in
    let s2 = other (are_zeros (take 7 bytes)) _ _ nothing s1.1 (λ x. cc) in
    let s3 = other (nat_lt (length bytes) (7 + length_field bytes)) _ _ nothing s2.1 (λ x. cc) in
    some_kind bytes (kind_of_code None (type_field bytes)) s3.1)
nothing_is (Some n) space bytes e = by_room (Some n) space bytes _ e (λ h.
    let s1 = other (nat_lt (length bytes) 11) _ _ nothing h (λ x. cc) in
    let s2 = other (are_zeros (take 11 bytes)) _ _ nothing s1.1 (λ x. cc) in
    some_numbered n bytes (kind_of_code (Some n) (type_field bytes)) s2.1)

zeros_replicate : (bytes : List ℕ) → are_zeros bytes ≡ true → bytes ≡ replicate (length bytes) 0
zeros_replicate [] e = refl
zeros_replicate (b ∷ bytes) e =
    let both = and_both (b == 0) (are_zeros bytes) e in
    ap (λ (n : ℕ). n ∷ bytes) (eqb-true b 0 both.0) ∙ ap (λ (l : List ℕ). 0 ∷ l) (zeros_replicate bytes both.1)
  where
    and_both : (s t : Bool) → (s && t) ≡ true → (s ≡ true) × (t ≡ true)
    and_both true t h = (refl, h)
    and_both false t h = absurd (cc)

-- a list is one of bytes where the element at each place is a byte
pub are_bytes : (bytes : List ℕ) → ((k : ℕ) → get_or bytes k 0 < 256) → AreBytes bytes
are_bytes [] small = tt
are_bytes (b ∷ bytes) small = (small 0, are_bytes bytes (λ k. small (suc k)))

-- this fragment is in the file at this place, within its block
record StandsAt (number : Option ℕ) (file : List ℕ) (place : ℕ) (f : Fragment) : Type 0 where
  room_for_header : header_len number ≤ room place
  fits : header_len number + length f.part ≤ room place
  rest : List ℕ
  there : drop place file ≡ fragment_bytes number f ++ rest
  within : place + header_len number + length f.part ≤ length file

seen_stands : (number : Option ℕ) (file : List ℕ) (place : ℕ) (f : Fragment) → AreBytes (take (room place) (drop place file)) → seen_at number file place ≡ fragment f → StandsAt number file place f
seen_stands number file place f are e =
    let bytes = take (room place) (drop place file) in
    let is = fragment_is number (room place) bytes f e in
    let there = is.there in
    let len : length f.part ≡ length (part_field number bytes) = ap length is.part_is in
    let part_len : length (part_field number bytes) ≡ length_field bytes = omega (arith, there, length-take (length_field bytes) (drop (header_len number) bytes), length-drop (header_len number) bytes) in
    let bytes_len : length bytes ≤ room place = omega (arith, length-take (room place) (drop place file)) in
    let file_len : length bytes ≤ length file - place = omega (arith, length-take (room place) (drop place file), length-drop place file) in
    let front = fragment_bytes_are number (room place) bytes f are e in
    record {
      room_for_header = is.room;
      fits = omega (arith, there, part_len, len, bytes_len);
      rest = drop (header_len number + length f.part) bytes ++ drop (room place) (drop place file);
      there = sym (take-append-drop (room place) (drop place file))
          ∙ (ap (λ (l : List ℕ). l ++ drop (room place) (drop place file)) front ∙ append_assoc (fragment_bytes number f) (drop (header_len number + length f.part) bytes) (drop (room place) (drop place file)));
      within = omega (arith, there, part_len, len, file_len, header_some number);
    }

-- the fragment that the reader sees next is in the file after the zeros that are due
pub record ComesNext (number : Option ℕ) (file : List ℕ) (offset place : ℕ) (f : Fragment) : Type 0 where
  pub place_is : place ≡ next_place number offset
  pub stand : HasFragments number file offset (f ∷ [])
  pub within : behind number offset f ≤ length file

by_stand : (number : Option ℕ) (file : List ℕ) (offset place : ℕ) (f : Fragment) → place ≡ next_place number offset → (s : StandsAt number file place f)
    → drop offset file ≡ replicate (trailer number offset) 0 ++ (fragment_bytes number f ++ s.rest) → ComesNext number file offset place f
by_stand number file offset place f place_is s e = record {
  place_is = place_is;
  stand = record {
    rest = s.rest;
    there = e ∙ (sym (append_assoc (replicate (trailer number offset) 0) (fragment_bytes number f) s.rest) ∙ ap (λ (l : List ℕ). l ++ s.rest) (sym (append-nil (replicate (trailer number offset) 0 ++ fragment_bytes number f))));
    fit = (subst (λ n. header_len number + length f.part ≤ room n) place_is s.fits, tt);
  };
  within = subst (λ n. n + header_len number + length f.part ≤ length file) place_is s.within;
}

pub next_stands : (number : Option ℕ) (file : List ℕ) (offset place : ℕ) (f : Fragment) → AreBytes (take (room place) (drop place file))
    → next_seen number file offset ≡ record { at = place; seen = fragment f } → ComesNext number file offset place f
next_stands number file offset place f are e = by_seen (seen_at number file offset) refl e
  where
    by_nothing : IsNothing number (room offset) (take (room offset) (drop offset file)) → seen_at number file offset ≡ nothing → next_place number offset ≡ place → StandsAt number file place f
        → seen_at number file (next_place number offset) ≡ fragment f → ComesNext number file offset place f
    by_nothing (none_left many none) seen here stands seen_next =
        let wrong : nothing ≡ fragment f = sym seen ∙ (ap (seen_at number file) (sym (none_due number offset many)) ∙ seen_next) in
        absurd (cc)
    by_nothing (zeros_left few are) seen here stands seen_next =
        let due : next_place number offset ≡ offset + room offset = some_due number offset few in
        let zeros : trailer number offset ≡ room offset = ap (λ (b : Bool). cond b (room offset) 0) (lt-ltb (room offset) (header_len number) few) in
        let within = stands.within in
        let long : length (take (room offset) (drop offset file)) ≡ room offset = omega (arith, length-take (room offset) (drop offset file), length-drop offset file, within, here, due) in
        let front : take (room offset) (drop offset file) ≡ replicate (room offset) 0 = zeros_replicate (take (room offset) (drop offset file)) are ∙ ap (λ (n : ℕ). replicate n 0) long in
        let back : drop (room offset) (drop offset file) ≡ drop place file = drop-drop (room offset) offset file ∙ ap (λ (n : ℕ). drop n file) (sym due ∙ here) in
        by_stand number file offset place f (sym here) stands
        (sym (take-append-drop (room offset) (drop offset file))
        ∙ (ap (λ (l : List ℕ). l ++ drop (room offset) (drop offset file)) front
        ∙ (ap (λ (l : List ℕ). replicate (room offset) 0 ++ l) (back ∙ stands.there) ∙ ap (λ (n : ℕ). replicate n 0 ++ (fragment_bytes number f ++ stands.rest)) (sym zeros))))

    by_seen : (s : Seen) → seen_at number file offset ≡ s → behind_zeros number file offset s ≡ record { at = place; seen = fragment f } → ComesNext number file offset place f
    by_seen (damage d) seen h = let wrong : damage d ≡ fragment f = ap (λ (n : Next). n.seen) h in absurd (cc)
    by_seen (fragment g) seen h =
        let here : offset ≡ place = ap (λ (n : Next). n.at) h in
        let same : fragment g ≡ fragment f = ap (λ (n : Next). n.seen) h in
        let stands = seen_stands number file place f are (subst (λ n. seen_at number file n ≡ fragment f) here (seen ∙ same)) in
        let many : header_len number ≤ room offset = subst (λ n. header_len number ≤ room n) (sym here) stands.room_for_header in
        let zeros : trailer number offset ≡ 0 = ap (λ (b : Bool). cond b (room offset) 0) (le-ltb (room offset) (header_len number) many) in
        by_stand number file offset place f (sym here ∙ sym (none_due number offset many)) stands
        (ap (λ (n : ℕ). drop n file) here ∙ (stands.there ∙ ap (λ (n : ℕ). replicate n 0 ++ (fragment_bytes number f ++ stands.rest)) (sym zeros)))
    by_seen nothing seen h =
        let here : next_place number offset ≡ place = ap (λ (n : Next). n.at) h in
        let seen_next : seen_at number file (next_place number offset) ≡ fragment f = ap (λ (n : Next). n.seen) h in
        let stands = seen_stands number file place f are (subst (λ n. seen_at number file n ≡ fragment f) here seen_next) in
        by_nothing (nothing_is number (room offset) (take (room offset) (drop offset file)) seen) seen here stands seen_next
