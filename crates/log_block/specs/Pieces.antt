-- The pieces into which a record is cut, compared with the definition of its text. `number` says the format of the
-- log.
use Rattle.std.specs.Prelude.{◌≡◌, ℕ, ◌+◌, ◌-◌, ◌%◌, ◌≤◌, ◌≢◌, List, [], ◌∷◌, ◌++◌, length, replicate, flat_map, slice_range, Option, ⊤}
use Rattle.model_base.specs.Log.{Fragment, kind_code, header, header_len, trailer, next_place}
use Rattle.log_block.specs.declared.pieces.Piece.{Piece}

-- A piece of the record is this fragment. It is written, its zeros first, at this offset of the log, and begins at this
-- place of the record.
pub record IsPiece (number : Option ℕ) (bytes : List ℕ) (offset start : ℕ) (piece : Piece) (f : Fragment) : Type 0 where
  pub zeros : piece.zeros ≡ trailer number offset
  pub kind : piece.kind ≡ kind_code number f.kind
  pub begins : piece.start ≡ start
  pub ends : piece.end ≡ start + length f.part
  pub in_record : piece.end ≤ length bytes
  pub part : slice_range bytes piece.start piece.end ≡ f.part

-- the pieces are these fragments one by one, each right after the one before it, in the log and in the record
abbrev pub ArePieces : Option ℕ → List ℕ → ℕ → ℕ → List Piece → List Fragment → Type 0
ArePieces number bytes offset start [] [] = ⊤
ArePieces number bytes offset start [] (f ∷ fs) = ⊥
ArePieces number bytes offset start (p ∷ ps) [] = ⊥
ArePieces number bytes offset start (p ∷ ps) (f ∷ fs) = IsPiece number bytes offset start p f
    × ArePieces number bytes (next_place number offset + header_len number + length f.part) p.end ps fs

-- what is written for a piece: its zeros, its header and its part
abbrev pub piece_text : Option ℕ → List ℕ → Piece → List ℕ
piece_text number bytes piece = let part =
    slice_range bytes piece.start piece.end in replicate piece.zeros 0 ++ (header number piece.kind part ++ part)

abbrev pub pieces_text : Option ℕ → List ℕ → List Piece → List ℕ
pieces_text number bytes pieces = flat_map (λ p. piece_text number bytes p) pieces

-- the pieces cover a record of this length from this place on, one right after the other
abbrev pub CoverRecord : ℕ → ℕ → List Piece → Type 0
CoverRecord len start [] = start ≡ len
CoverRecord len start (p ∷ ps) = (p.start ≡ start) × (p.start ≤ p.end) × (p.end ≤ len) × CoverRecord len p.end ps

-- where a piece ends in its block, if its zeros begin at this place of a block
abbrev pub end_in_block : Option ℕ → ℕ → Piece → ℕ
end_in_block number at piece = (at + piece.zeros) % 32768 + header_len number + (piece.end - piece.start)

-- a piece lies in one block, after zeros that end the block before if this has no room for a header
pub record LiesInBlock (number : Option ℕ) (at : ℕ) (piece : Piece) : Type 0 where
  pub zeros : piece.zeros ≡ trailer number at
  pub ordered : piece.start ≤ piece.end
  pub in_block : end_in_block number at piece ≤ 32768

-- so does each of these pieces, and each but the last fills its block, so that the next one begins at a block's start
abbrev pub LieInBlocks : Option ℕ → ℕ → List Piece → Type 0
LieInBlocks number at [] = ⊤
LieInBlocks number at (p ∷ ps) = LiesInBlock number at p × (ps ≢ [] → end_in_block number at p ≡ 32768)
    × LieInBlocks number (end_in_block number at p % 32768) ps
