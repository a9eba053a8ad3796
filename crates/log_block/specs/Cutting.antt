-- The pieces that a `Fragmenter` still gives, by its fields. `Pieces` says what these pieces are.
use Rattle.std.specs.Prelude.{ℕ, zero, suc, ◌+◌, ◌-◌, min, nat_lt, ◌==◌, List, [], ◌∷◌, Option, Some, None, if◌then◌else◌}
use Rattle.std.specs.Int.{div_ceil}
use Rattle.model_base.specs.Log.{first, full, middle, last, kind_code, header_len, part_len}
use Rattle.log_block.specs.declared.pieces.Piece.{Piece}

-- the first piece of a record of this length, which is written at this place of a block
abbrev pub first_piece : Option ℕ → ℕ → ℕ → Piece
first_piece number at len =
    let left = 32768 - at in
    let zeros = if nat_lt left (header_len number) then left else 0 in
    let end = min len (if nat_lt left (header_len number) then part_len number else left - header_len number) in
    record { zeros = zeros; kind = kind_code number (if end == len then full else first); start = 0; end = end }

-- the piece that begins at this place of the record, and at the start of a block
abbrev pub later_piece : Option ℕ → ℕ → ℕ → Piece
later_piece number start len = let end = start + min (part_len number) (len - start) in record {
  zeros = 0;
  kind = kind_code number (if end == len then last else middle);
  start = start;
  end = end;
}

-- n such pieces, one after another
unfoldable pub later_pieces : Option ℕ → ℕ → ℕ → ℕ → List Piece
later_pieces number zero start len = []
later_pieces number (suc n) start len =
    later_piece number start len ∷ later_pieces number n (later_piece number start len).end len

-- the next piece and those after it
abbrev pub still_to_come : Option ℕ → Option Piece → ℕ → List Piece
still_to_come number None len = []
still_to_come number (Some p) len =
    p ∷ later_pieces number (div_ceil (len - p.end) (part_len number)) p.end len
