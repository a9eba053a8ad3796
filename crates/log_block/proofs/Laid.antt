-- Where the pieces are, in the record and in blocks.
use Rattle.std.proofs.Common.{◌≡◌, ℕ, zero, suc, ◌+◌, ◌-◌, ◌%◌, ◌<◌, ◌≤◌, true, false, List, [], ◌∷◌, Option, cond, nat_lt, refl, sym, subst, ⊎_elim, arith}
use Rattle.std.proofs.lemmas.Bool.{ltb-true, ltb-false, cases_lt}
use Rattle.std.specs.Int.{div_ceil}
use Rattle.model_base.specs.Log.{header_len, part_len}
use Rattle.log_block.specs.declared.pieces.Piece.{Piece}
use Rattle.log_block.specs.Pieces.{CoverRecord, LiesInBlock, LieInBlocks, end_in_block}
use Rattle.log_block.specs.Cutting.{first_piece, later_piece, later_pieces}
use Rattle.log_block.proofs.Formats.{with_header, starts_block}
use Rattle.log_block.proofs.Counting.{IsCount, is_count, count_behind, none_behind, all_pieces}
use Rattle.log_block.proofs.Cuts.{is_room, space_of}

later_cover : (number : Option ℕ) (n start len : ℕ) → start ≤ len → IsCount number (len - start) n → CoverRecord len start (later_pieces number n start len)
unfolding later_pieces
later_cover number zero start len within is = omega (arith, is.enough, within)
later_cover number (suc n) start len within is =
    (refl, omega arith, omega (arith, within), later_cover number n (later_piece number start len).end len (omega (arith, within)) (count_behind number start len n within is))

pub whole_cover : (number : Option ℕ) (at len : ℕ) → CoverRecord len 0 (all_pieces number at len)
whole_cover number at len =
    let end : ℕ = (first_piece number at len).end in
    (refl, omega arith, omega arith, later_cover number (div_ceil (len - end) (part_len number)) end len (omega arith) (is_count number (len - end)))

-- a piece after the first lies in its block
later_stands : (number : Option ℕ) (start len : ℕ) → LiesInBlock number 0 (later_piece number start len)
later_stands number start len = record { zeros = sym (starts_block number 0 refl); ordered = omega arith; in_block = omega (arith, with_header number) }

later_stand : (number : Option ℕ) (n start len : ℕ) → start ≤ len → IsCount number (len - start) n → LieInBlocks number 0 (later_pieces number n start len)
unfolding later_pieces
later_stand number zero start len within is = tt
later_stand number (suc zero) start len within is = (later_stands number start len, (λ more. absurd (more refl)), tt)
later_stand number (suc (suc n)) start len within is =
    let p : Piece = later_piece number start len in
    let fills : end_in_block number 0 p ≡ 32768 = omega (arith, is.needed, with_header number) in
    let next_starts : 0 ≡ end_in_block number 0 p % 32768 = omega (arith, fills) in (
      later_stands number start len,
      (λ more. fills),
      subst (λ (at : ℕ). LieInBlocks number at (later_pieces number (suc n) p.end len)) next_starts
          (later_stand number (suc n) p.end len (omega (arith, within)) (count_behind number start len (suc n) within is)),
    )

-- a first part of this length fills the block
fills_block : (number : Option ℕ) (at : ℕ) → at < 32768 → (at + cond (nat_lt (32768 - at) (header_len number)) (32768 - at) 0) % 32768 + header_len number + space_of number at ≡ 32768
fills_block number at in_block =
    let h : ℕ = header_len number in
    elim (nat_lt (32768 - at) h) as (λ b. nat_lt (32768 - at) h ≡ b → (at + cond b (32768 - at) 0) % 32768 + h + cond b (part_len number) (32768 - at - h) ≡ 32768) [
      | true ↦ λ is. omega (arith, in_block, ltb-true (32768 - at) h is, with_header number)
      | false ↦ λ is. omega (arith, in_block, ltb-false (32768 - at) h is)
    ] refl

pub whole_stand : (number : Option ℕ) (at len : ℕ) → at < 32768 → LieInBlocks number at (all_pieces number at len)
whole_stand number at len in_block = ⊎_elim at_more at_most (cases_lt (space_of number at) len)
  where
    p : Piece
    p = first_piece number at len

    later : List Piece
    later = later_pieces number (div_ceil (len - p.end) (part_len number)) p.end len

    stands : LiesInBlock number at p
    stands =
        let fills = fills_block number at in_block in
        record { zeros = (is_room number at at (omega (arith, in_block))).zeros; ordered = omega arith; in_block = omega (arith, fills) }

    at_more : space_of number at < len → LieInBlocks number at (p ∷ later)
    at_more more =
        let end_is : p.end ≡ space_of number at = omega (arith, more) in
        let fills : end_in_block number at p ≡ 32768 = omega (arith, fills_block number at in_block, end_is) in (
          stands,
          (λ goes_on. fills),
          subst (λ (place : ℕ). LieInBlocks number place later) (omega (arith, fills)) (later_stand number (div_ceil (len - p.end) (part_len number)) p.end len (omega (arith, more)) (is_count number (len - p.end))),
        )

    at_most : len ≤ space_of number at → LieInBlocks number at (p ∷ later)
    at_most fits =
        let none : [] ≡ later = sym (none_behind number p.end len (omega (arith, fits))) in
        subst (λ (ps : List Piece). LieInBlocks number at (p ∷ ps)) none (stands, (λ more. absurd (more refl)), tt)
