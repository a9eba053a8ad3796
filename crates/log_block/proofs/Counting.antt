-- How many pieces come after a place of a record.
use Rattle.std.proofs.Common.{◌≡◌, ℕ, zero, suc, ◌+◌, ◌-◌, ◌*◌, ◌<◌, ◌≤◌, List, [], ◌∷◌, length, Option, Some, None, refl, ◌∙◌, ap, subst, arith}
use Rattle.std.proofs.lemmas.Grind.{div_ceil_times}
use Rattle.std.specs.Int.{div_ceil}
use Rattle.model_base.specs.Log.{part_len}
use Rattle.log_block.specs.declared.pieces.Piece.{Piece}
use Rattle.log_block.specs.Cutting.{first_piece, later_piece, later_pieces, still_to_come}
use Rattle.log_block.proofs.Formats.{some_part}

-- all pieces of a record of this length, which is written at this place of a block
abbrev pub all_pieces : Option ℕ → ℕ → ℕ → List Piece
all_pieces number at len = still_to_come number (Some (first_piece number at len)) len

-- n is the number of pieces that are needed for the bytes that are left
pub record IsCount (number : Option ℕ) (left n : ℕ) : Type 0 where
  pub enough : left ≤ n * part_len number
  pub needed : n * part_len number < left + part_len number

pub is_count : (number : Option ℕ) (left : ℕ) → IsCount number left (div_ceil left (part_len number))
is_count number left = let bounds = div_ceil_times left (part_len number) (some_part number) in record { enough = bounds.0; needed = bounds.1 }

pub one_count : (number : Option ℕ) (left m n : ℕ) → IsCount number left m → IsCount number left n → m ≡ n
one_count None left m n some other = omega (arith, some.enough, some.needed, other.enough, other.needed)
one_count (Some k) left m n some other = omega (arith, some.enough, some.needed, other.enough, other.needed)

-- each piece but the last has two bytes or more
pub few_pieces : (number : Option ℕ) (left n : ℕ) → IsCount number left n → n + n ≤ left + 1
few_pieces None left n is = omega (arith, is.needed)
few_pieces (Some k) left n is = omega (arith, is.needed)

-- if bytes are left, so is a piece
pub one_fewer : (number : Option ℕ) (left n : ℕ) → 0 < left → IsCount number left n → (m : ℕ) × (n ≡ suc m)
one_fewer number left zero some is = absurd (omega (arith, some, is.enough))
one_fewer number left (suc m) some is = (m, refl)

-- after the next piece one piece fewer is left
pub count_behind : (number : Option ℕ) (start len n : ℕ) → start ≤ len → IsCount number (len - start) (suc n) → IsCount number (len - (later_piece number start len).end) n
count_behind number start len n within is = record { enough = omega (arith, is.enough, is.needed); needed = omega (arith, is.enough, is.needed, some_part number) }

pub pieces_behind : (number : Option ℕ) (start len : ℕ) → start < len
    → later_pieces number (div_ceil (len - start) (part_len number)) start len ≡ still_to_come number (Some (later_piece number start len)) len
unfolding later_pieces
pieces_behind number start len more =
    let is = is_count number (len - start) in
    let fewer = one_fewer number (len - start) (div_ceil (len - start) (part_len number)) (omega arith) is in
    let end : ℕ = (later_piece number start len).end in
    let behind = count_behind number start len fewer.0 (omega arith) (subst (IsCount number (len - start)) fewer.1 is) in
    ap (λ (k : ℕ). later_pieces number k start len) fewer.1
    ∙ ap (λ (k : ℕ). later_piece number start len ∷ later_pieces number k end len) (one_count number _ _ _ behind (is_count number (len - end)))

pub none_behind : (number : Option ℕ) (start len : ℕ) → len ≤ start → later_pieces number (div_ceil (len - start) (part_len number)) start len ≡ []
unfolding later_pieces
none_behind number start len past =
    let none : IsCount number (len - start) 0 = record { enough = omega arith; needed = omega (arith, some_part number) } in
    ap (λ (k : ℕ). later_pieces number k start len) (one_count number _ _ _ (is_count number (len - start)) none)

pub length-later_pieces : (number : Option ℕ) (n start len : ℕ) → length (later_pieces number n start len) ≡ n
unfolding later_pieces
length-later_pieces number zero start len = refl
length-later_pieces number (suc n) start len = ap (λ (k : ℕ). suc k) (length-later_pieces number n (later_piece number start len).end len)
