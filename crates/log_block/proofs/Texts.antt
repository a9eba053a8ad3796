-- What is written for pieces is what is written for their fragments.
use Rattle.std.proofs.Common.{◌≡◌, ℕ, ◌+◌, List, [], ◌∷◌, ◌++◌, length, slice_range, replicate, Option, refl, ◌∙◌, ap}
use Rattle.model_base.specs.Log.{Fragment, kind_code, header, header_len, fragment_bytes, trailer, next_place, fragments_text}
use Rattle.log_block.specs.declared.pieces.Piece.{Piece}
use Rattle.log_block.specs.Pieces.{IsPiece, ArePieces, piece_text, pieces_text}

one_text : (number : Option ℕ) (bytes : List ℕ) (offset start : ℕ) (p : Piece) (f : Fragment) → IsPiece number bytes offset start p f → piece_text number bytes p ≡ replicate (trailer number offset) 0 ++ fragment_bytes number f
one_text number bytes offset start p f is =
    ap (λ (z : ℕ). with_zeros z p.kind (slice_range bytes p.start p.end)) is.zeros
    ∙ (ap (λ (k : ℕ). with_zeros (trailer number offset) k (slice_range bytes p.start p.end)) is.kind ∙ ap (with_zeros (trailer number offset) (kind_code number f.kind)) is.part)
  where
    with_zeros : ℕ → ℕ → List ℕ → List ℕ
    with_zeros zeros code part = replicate zeros 0 ++ (header number code part ++ part)

pub text_is : (number : Option ℕ) (bytes : List ℕ) (offset start : ℕ) (ps : List Piece) (fs : List Fragment) → ArePieces number bytes offset start ps fs → pieces_text number bytes ps ≡ fragments_text number offset fs
text_is number bytes offset start [] [] are = refl
text_is number bytes offset start [] (f ∷ fs) are = absurd are
text_is number bytes offset start (p ∷ ps) [] are = absurd are
text_is number bytes offset start (p ∷ ps) (f ∷ fs) are =
    let behind : ℕ = next_place number offset + header_len number + length f.part in
    ap (λ (l : List ℕ). l ++ pieces_text number bytes ps) (one_text number bytes offset start p f are.0)
    ∙ ap (λ (l : List ℕ). (replicate (trailer number offset) 0 ++ fragment_bytes number f) ++ l) (text_is number bytes behind p.end ps fs are.1)
