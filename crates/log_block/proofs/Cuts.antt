-- The pieces are the fragments that the definition of a record's text has.
use Rattle.std.proofs.Common.{◌≡◌, ℕ, zero, suc, ◌+◌, ◌-◌, ◌%◌, ◌<◌, ◌≤◌, min, true, false, List, [], ◌∷◌, length, take, drop, slice_range, Option, cond, nat_lt, nat_le, ◌==◌, refl, sym, ◌∙◌, ap, subst, arith, length-take, length-drop, eq-eqb}
use Rattle.std.proofs.lemmas.List.{take_min, drop-drop}
use Rattle.std.proofs.Math.Seq.{take-length}
use Rattle.std.proofs.lemmas.Bool.{ne_eqb, ltb-true, ltb-false, leb-true, leb-false}
use Rattle.std.specs.Simd.{first_chunks}
use Rattle.std.specs.Int.{div_ceil}
use Rattle.model_base.specs.Log.{Kind, full, first, middle, last, kind_code, header_len, part_len, room, trailer, next_place, parts_of, later_fragments, as_fragments}
use Rattle.log_block.specs.declared.pieces.Piece.{Piece}
use Rattle.log_block.specs.Pieces.{IsPiece, ArePieces}
use Rattle.log_block.specs.Cutting.{first_piece, later_piece, later_pieces}
use Rattle.log_block.proofs.Formats.{with_header, header_small, starts_block}
use Rattle.log_block.proofs.Counting.{IsCount, is_count, count_behind, one_fewer, none_behind, all_pieces}

pub slice_is_take : (bytes : List ℕ) (start n : ℕ) → slice_range bytes start (start + min n (length bytes - start)) ≡ take n (drop start bytes)
slice_is_take bytes start n =
    let len : start + min n (length bytes - start) - start ≡ min n (length (drop start bytes)) = omega (arith, length-drop start bytes) in
    ap (λ (k : ℕ). take k (drop start bytes)) len ∙ take_min n (drop start bytes)

-- the offset at which the fragment after one with this part is looked for
abbrev behind : Option ℕ → ℕ → List ℕ → ℕ
behind number offset part = next_place number offset + header_len number + length part

-- a piece after the first is a fragment of the definition
later_is : (number : Option ℕ) (bytes : List ℕ) (start offset : ℕ) (kind : Kind) → start ≤ length bytes → offset % 32768 ≡ 0 → (later_piece number start (length bytes)).kind ≡ kind_code number kind
    → IsPiece number bytes offset start (later_piece number start (length bytes)) (record { kind = kind; part = take (part_len number) (drop start bytes) })
later_is number bytes start offset kind within e kind_is = record {
  zeros = sym (starts_block number offset e);
  kind = kind_is;
  begins = refl;
  ends = omega (arith, length-take (part_len number) (drop start bytes), length-drop start bytes);
  in_record = omega arith;
  part = slice_is_take bytes start (part_len number);
}

last_kind : (number : Option ℕ) (start len : ℕ) → start ≤ len → len - start ≤ part_len number → (later_piece number start len).kind ≡ kind_code number last
last_kind number start len within few =
    let e : (start + min (part_len number) (len - start) == len) ≡ true = eq-eqb (start + min (part_len number) (len - start)) len (omega arith) in
    ap (λ b. kind_code number (cond b last middle)) e

middle_kind : (number : Option ℕ) (start len : ℕ) → part_len number < len - start → (later_piece number start len).kind ≡ kind_code number middle
middle_kind number start len many =
    let e : (start + min (part_len number) (len - start) == len) ≡ false = ne_eqb (start + min (part_len number) (len - start)) len (λ same. omega arith) in
    ap (λ b. kind_code number (cond b last middle)) e

pub later_are : (number : Option ℕ) (bytes : List ℕ) (n start offset : ℕ) → start ≤ length bytes → offset % 32768 ≡ 0 → IsCount number (length bytes - start) n
    → ArePieces number bytes offset start (later_pieces number n start (length bytes)) (later_fragments (first_chunks (part_len number) n (drop start bytes)))
unfolding later_pieces
later_are number bytes zero start offset within e is = tt
later_are number bytes (suc zero) start offset within e is = (later_is number bytes start offset last within e (last_kind number start (length bytes) within (omega (arith, is.enough))), tt)
later_are number bytes (suc (suc n)) start offset within e is =
    let w : ℕ = part_len number in
    let end : ℕ = (later_piece number start (length bytes)).end in
    let many : w < length bytes - start = omega (arith, is.needed) in
    let full_part : length (take w (drop start bytes)) ≡ w = omega (arith, length-take w (drop start bytes), length-drop start bytes, many) in
    let end_is : end ≡ start + w = omega (arith, many) in
    let rest : drop end bytes ≡ drop w (drop start bytes) = ap (λ (k : ℕ). drop k bytes) end_is ∙ sym (drop-drop w start bytes) in
    let next_offset : ℕ = behind number offset (take w (drop start bytes)) in
    let starts : next_offset % 32768 ≡ 0 = omega (arith, full_part, starts_block number offset e, e, with_header number) in (
      later_is number bytes start offset middle within e (middle_kind number start (length bytes) many),
      subst (λ (d : List ℕ). ArePieces number bytes next_offset end (later_pieces number (suc n) end (length bytes)) (later_fragments (first_chunks w (suc n) d))) rest
          (later_are number bytes (suc n) end next_offset (omega arith) starts (count_behind number start (length bytes) (suc n) within is)),
    )

-- what the first piece is made from: the zeros, and the room after them
pub record IsRoom (number : Option ℕ) (offset at space : ℕ) : Type 0 where
  pub zeros : cond (nat_lt (32768 - at) (header_len number)) (32768 - at) 0 ≡ trailer number offset
  pub same : space ≡ room (next_place number offset) - header_len number
  pub fills : (next_place number offset + header_len number + space) % 32768 ≡ 0

-- how long the first part may be
abbrev pub space_of : Option ℕ → ℕ → ℕ
space_of number at = cond (nat_lt (32768 - at) (header_len number)) (part_len number) (32768 - at - header_len number)

pub is_room : (number : Option ℕ) (offset at : ℕ) → offset % 32768 ≡ at → IsRoom number offset at (space_of number at)
is_room number offset at e =
    let h : ℕ = header_len number in
    let zeros : cond (nat_lt (32768 - at) h) (32768 - at) 0 ≡ trailer number offset = ap (λ (r : ℕ). cond (nat_lt (32768 - r) h) (32768 - r) 0) (sym e) in
    elim (nat_lt (32768 - at) h) as (λ b. nat_lt (32768 - at) h ≡ b → cond b (32768 - at) 0 ≡ trailer number offset → cond (nat_lt (32768 - at) h) (32768 - at) 0 ≡ trailer number offset
    → IsRoom number offset at (cond b (part_len number) (32768 - at - h))) [
      | true ↦ λ is due zeros. let few = ltb-true (32768 - at) h is in
          record { zeros = zeros; same = omega (arith, due, e, few, with_header number, header_small number); fills = omega (arith, due, e, few, with_header number, header_small number) }
      | false ↦ λ is none zeros. let many = ltb-false (32768 - at) h is in
          record { zeros = zeros; same = omega (arith, none, e, many); fills = omega (arith, none, e, many) }
    ] refl zeros zeros

first_is : (number : Option ℕ) (bytes : List ℕ) (offset at n : ℕ) (kind : Kind) (part : List ℕ) → offset % 32768 ≡ at → (first_piece number at (length bytes)).kind ≡ kind_code number kind → (first_piece number at (length bytes)).end ≡ n
    → length part ≡ n → take n bytes ≡ part → IsPiece number bytes offset 0 (first_piece number at (length bytes)) (record { kind = kind; part = part })
first_is number bytes offset at n kind part e kind_is end_is len part_is = let none : (first_piece number at (length bytes)).end - 0 ≡ n = omega (arith, end_is) in record {
  zeros = (is_room number offset at e).zeros;
  kind = kind_is;
  begins = refl;
  ends = omega (arith, end_is, len);
  in_record = omega arith;
  part = ap (λ (k : ℕ). take k bytes) none ∙ part_is;
}

-- a record that fits into what is left of the block is one piece
one_piece : (number : Option ℕ) (bytes : List ℕ) (offset at : ℕ) → offset % 32768 ≡ at → length bytes ≤ space_of number at
    → ArePieces number bytes offset 0 (all_pieces number at (length bytes)) (as_fragments (bytes ∷ []))
one_piece number bytes offset at e fits =
    let p : Piece = first_piece number at (length bytes) in
    let end_is : min (length bytes) (space_of number at) ≡ length bytes = omega (arith, fits) in
    let whole : (min (length bytes) (space_of number at) == length bytes) ≡ true = eq-eqb (min (length bytes) (space_of number at)) (length bytes) end_is in
    let kind_is : p.kind ≡ kind_code number full = ap (λ b. kind_code number (cond b full first)) whole in
    subst (λ (ps : List Piece). ArePieces number bytes offset 0 (p ∷ ps) (record { kind = full; part = bytes } ∷ [])) (sym (none_behind number p.end (length bytes) (omega (arith, end_is))))
    (first_is number bytes offset at (length bytes) full bytes e kind_is end_is refl (take-length bytes), tt)

-- a record that doesn't fit there is several pieces
several_pieces : (number : Option ℕ) (bytes : List ℕ) (offset at m : ℕ) → offset % 32768 ≡ at → space_of number at < length bytes → IsCount number (length bytes - space_of number at) (suc m)
    → ArePieces number bytes offset 0 (first_piece number at (length bytes) ∷ later_pieces number (suc m) (space_of number at) (length bytes)) (as_fragments (take (space_of number at) bytes ∷ first_chunks (part_len number) (suc m) (drop (space_of number at) bytes)))
several_pieces number bytes offset at m e more is =
    let space : ℕ = space_of number at in
    let p : Piece = first_piece number at (length bytes) in
    let end_is : p.end ≡ space = omega (arith, more) in
    let cut : (p.end == length bytes) ≡ false = ne_eqb p.end (length bytes) (λ same. omega (arith, more, end_is)) in
    let kind_is : p.kind ≡ kind_code number first = ap (λ b. kind_code number (cond b full first)) cut in
    let len_is : length (take space bytes) ≡ space = omega (arith, length-take space bytes, more) in
    let next_offset : ℕ = behind number offset (take space bytes) in
    let starts : next_offset % 32768 ≡ 0 = ap (λ (n : ℕ). (next_place number offset + header_len number + n) % 32768) len_is ∙ (is_room number offset at e).fills in (
      first_is number bytes offset at space first (take space bytes) e kind_is end_is len_is refl,
      subst (λ (n : ℕ). ArePieces number bytes next_offset n (later_pieces number (suc m) space (length bytes)) (later_fragments (first_chunks (part_len number) (suc m) (drop space bytes)))) (sym end_is)
          (later_are number bytes (suc m) space next_offset (omega (arith, more)) starts is),
    )

pub whole_are : (number : Option ℕ) (bytes : List ℕ) (offset at : ℕ) → offset % 32768 ≡ at
    → ArePieces number bytes offset 0 (all_pieces number at (length bytes)) (as_fragments (parts_of number offset bytes))
whole_are number bytes offset at e = subst (λ (space : ℕ). ArePieces number bytes offset 0 pieces (as_fragments (parts space))) (is_room number offset at e).same
    (elim (nat_le (length bytes) (space_of number at)) as (λ b. nat_le (length bytes) (space_of number at) ≡ b → ArePieces number bytes offset 0 pieces (as_fragments (cond b (bytes ∷ []) (cut (space_of number at))))) [
      | true ↦ λ fits. one_piece number bytes offset at e (leb-true (length bytes) (space_of number at) fits)
      | false ↦ λ more. at_more (leb-false (length bytes) (space_of number at) more)
    ] refl)
  where
    pieces : List Piece
    pieces = all_pieces number at (length bytes)

    w : ℕ
    w = part_len number

    cut : ℕ → List (List ℕ)
    cut space = take space bytes ∷ first_chunks w (div_ceil (length (drop space bytes)) w) (drop space bytes)

    parts : ℕ → List (List ℕ)
    parts space = cond (nat_le (length bytes) space) (bytes ∷ []) (cut space)

    at_more : space_of number at < length bytes → ArePieces number bytes offset 0 pieces (as_fragments (cut (space_of number at)))
    at_more more =
        let space : ℕ = space_of number at in
        let p : Piece = first_piece number at (length bytes) in
        let end_is : space ≡ p.end = omega (arith, more) in
        let n : ℕ = div_ceil (length bytes - space) w in
        let is = is_count number (length bytes - space) in
        let fewer = one_fewer number (length bytes - space) n (omega (arith, more)) is in
        let rest_len : length bytes - space ≡ length (drop space bytes) = omega (arith, length-drop space bytes) in
        let here : ArePieces number bytes offset 0 (p ∷ later_pieces number n space (length bytes)) (as_fragments (take space bytes ∷ first_chunks w n (drop space bytes))) =
        subst (λ (k : ℕ). ArePieces number bytes offset 0 (p ∷ later_pieces number k space (length bytes)) (as_fragments (take space bytes ∷ first_chunks w k (drop space bytes)))) (sym fewer.1)
        (several_pieces number bytes offset at fewer.0 e more (subst (IsCount number (length bytes - space)) fewer.1 is)) in
        subst (λ (k : ℕ). ArePieces number bytes offset 0 (p ∷ later_pieces number (div_ceil (length bytes - k) w) k (length bytes)) (as_fragments (cut space))) end_is
        (subst (λ (k : ℕ). ArePieces number bytes offset 0 (p ∷ later_pieces number n space (length bytes)) (as_fragments (take space bytes ∷ first_chunks w (div_ceil k w) (drop space bytes)))) rest_len here)
