-- How many bytes a record's text has.
use Rattle.std.proofs.Common.{◌≡◌, ℕ, zero, suc, ◌+◌, ◌-◌, ◌*◌, ◌%◌, ◌≤◌, Option, Some, None, List, ◌++◌, length, drop, slice_range, replicate, refl, sym, ap, arith, length-append, length-take, length-drop}
use Rattle.std.proofs.Math.ListN.{length-replicate}
use Rattle.std.specs.Int.{div_ceil}
use Rattle.model_base.specs.Log as log
use Rattle.log_block.specs.declared.pieces.Piece.{Piece}
use Rattle.log_block.specs.Pieces.{piece_text, pieces_text}
use Rattle.log_block.specs.Cutting.{first_piece, later_piece, later_pieces}
use Rattle.log_block.proofs.Formats.{with_header}
use Rattle.log_block.proofs.Counting.{IsCount, is_count, count_behind, all_pieces}
use Rattle.log_block.proofs.Cuts.{space_of, is_room, whole_are}
use Rattle.log_block.proofs.Texts.{text_is}

-- a header has the length that the format gives it
header_len_is : (number : Option ℕ) (code : ℕ) (part : List ℕ) → length (log.header number code part) ≡ log.header_len number
header_len_is None code part = omega arith
header_len_is (Some n) code part = omega arith

pub piece_len : (number : Option ℕ) (bytes : List ℕ) (p : Piece) → p.start ≤ p.end → p.end ≤ length bytes → length (piece_text number bytes p) ≡ p.zeros + (log.header_len number + (p.end - p.start))
piece_len number bytes p ordered within =
    let part : List ℕ = slice_range bytes p.start p.end in
    omega (
      arith,
      length-append (replicate p.zeros 0) (log.header number p.kind part ++ part),
      length-append (log.header number p.kind part) part,
      header_len_is number p.kind part,
      length-replicate {A = ℕ} p.zeros 0,
      length-take (p.end - p.start) (drop p.start bytes),
      length-drop p.start bytes,
      ordered,
      within,
    )

-- the text length of the n pieces after the first
later_len : (number : Option ℕ) (bytes : List ℕ) (n start : ℕ) → start ≤ length bytes → IsCount number (length bytes - start) n
    → length (pieces_text number bytes (later_pieces number n start (length bytes))) ≡ (length bytes - start) + n * log.header_len number
unfolding later_pieces
later_len number bytes zero start within is = omega (arith, is.enough)
later_len number bytes (suc n) start within is =
    let p : Piece = later_piece number start (length bytes) in
    let behind = later_len number bytes n p.end (omega (arith, within)) (count_behind number start (length bytes) n within is) in
    omega (arith, within, behind, piece_len number bytes p (omega arith) (omega (arith, within)), length-append (piece_text number bytes p) (pieces_text number bytes (later_pieces number n p.end (length bytes))))

-- how much of the record its first fragment has room for, if it is looked for from this place of a block on
abbrev pub first_room : Option ℕ → ℕ → ℕ
first_room number at = log.part_len number - (at + log.trailer number at) % 32768

-- what a record's text has in addition to the record: zeros, and a header for each fragment
abbrev pub added_len : Option ℕ → ℕ → ℕ → ℕ
added_len number at len = log.trailer number at + (1 + div_ceil (len - first_room number at) (log.part_len number)) * log.header_len number

pub text_length : (number : Option ℕ) (bytes : List ℕ) (offset : ℕ) → length (log.record_text number offset bytes) ≡ length bytes + added_len number (offset % 32768) (length bytes)
text_length number bytes offset =
    let at : ℕ = offset % 32768 in
    let len : ℕ = length bytes in
    let p : Piece = first_piece number at len in
    let n : ℕ = div_ceil (len - p.end) (log.part_len number) in
    let room = is_room number at at (omega arith) in
    let room_is : first_room number at ≡ space_of number at = omega (arith, room.same, with_header number) in
    let left_is : len - p.end ≡ len - first_room number at = omega (arith, room_is) in
    let count_is : n ≡ div_ceil (len - first_room number at) (log.part_len number) = ap (λ (k : ℕ). div_ceil k (log.part_len number)) left_is in
    let headers_are : n * log.header_len number ≡ div_ceil (len - first_room number at) (log.part_len number) * log.header_len number = ap (λ (k : ℕ). k * log.header_len number) count_is in
    let pieces_are : pieces_text number bytes (all_pieces number at len) ≡ log.record_text number offset bytes = text_is number bytes offset 0 (all_pieces number at len) (log.as_fragments (log.parts_of number offset bytes)) (whole_are number bytes offset at refl) in
    omega (
      arith,
      sym (ap length pieces_are),
      length-append (piece_text number bytes p) (pieces_text number bytes (later_pieces number n p.end len)),
      piece_len number bytes p (omega arith) (omega arith),
      later_len number bytes n p.end (omega arith) (is_count number (len - p.end)),
      room.zeros,
      headers_are,
    )
