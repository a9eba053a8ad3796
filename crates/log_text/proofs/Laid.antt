-- Pieces of a record are laid one after another.
use Rattle.std.proofs.Common.{◌≡◌, ℕ, ◌+◌, ◌%◌, ◌≤◌, Option, List, [], ◌∷◌, ◌++◌, length, take, drop, refl, ◌∙◌, ap, subst, arith, append_assoc, length-append, length-take, length-drop}
use Rattle.std.proofs.Math.Seq.{take-append_seam, drop-append-add}
use Rattle.std.proofs.lemmas.List.{drop-drop}
use Rattle.model_base.specs.Log as log
use Rattle.log_block.specs.declared.pieces.Piece.{Piece}
use Rattle.log_block.specs.Pieces.{piece_text, pieces_text, CoverRecord, LieInBlocks, end_in_block}
use Rattle.log_text.specs.Laying.{laid_at}

-- bytes laid at the start, and the rest of the buffer after them
laid_first : (xs buffer : List ℕ) → laid_at 0 xs buffer ≡ xs ++ drop (length xs) buffer
laid_first xs buffer = ap (λ (n : ℕ). xs ++ drop n buffer) (omega arith)

-- laying bytes right after others is laying both at once
pub laid_more : (place : ℕ) (xs ys buffer : List ℕ) → place ≤ length buffer → laid_at (place + length xs) ys (laid_at place xs buffer) ≡ laid_at place (xs ++ ys) buffer
laid_more place xs ys buffer within =
    let front : List ℕ = take place buffer in
    let rest : List ℕ = drop (place + length xs) buffer in
    let later : List ℕ = drop (place + length (xs ++ ys)) buffer in
    let len : place + length xs ≡ length (front ++ xs) = omega (arith, length-append front xs, length-take place buffer, within) in
    let far : place + length xs + length ys ≡ length (front ++ xs) + length ys = omega (arith, len) in
    let before : take (place + length xs) (laid_at place xs buffer) ≡ front ++ xs = ap (λ (n : ℕ). take n ((front ++ xs) ++ rest)) len ∙ take-append_seam (front ++ xs) rest in
    let behind : drop (place + length xs + length ys) (laid_at place xs buffer) ≡ later =
    ap (λ (n : ℕ). drop n ((front ++ xs) ++ rest)) far
    ∙ (drop-append-add (front ++ xs) rest (length ys) ∙ (drop-drop (length ys) (place + length xs) buffer ∙ ap (λ (n : ℕ). drop n buffer) (omega (arith, length-append xs ys)))) in
    ap (λ (l : List ℕ). (l ++ ys) ++ drop (place + length xs + length ys) (laid_at place xs buffer)) before ∙ (ap (λ (l : List ℕ). ((front ++ xs) ++ ys) ++ l) behind ∙ ap (λ (l : List ℕ). l ++ later) (append_assoc front xs ys))

-- laying zeros, a header and a part one after another is laying all three at once
pub laid_three : (place header_at part_at : ℕ) (zeros header part old one two new : List ℕ) → place ≤ length old → one ≡ laid_at place zeros old → header_at ≡ place + length zeros → header_at ≤ length one → two ≡ laid_at header_at header one
    → part_at ≡ header_at + length header → new ≡ laid_at part_at part two → new ≡ laid_at place (zeros ++ (header ++ part)) old
laid_three place header_at part_at zeros header part old one two new within one_is header_is inside two_is part_is new_is =
    new_is
    ∙ (ap (λ (n : ℕ). laid_at n part two) part_is ∙ (ap (laid_at (header_at + length header) part) two_is ∙ (laid_more header_at header part one inside
    ∙ (ap (λ (n : ℕ). laid_at n (header ++ part) one) header_is ∙ (ap (laid_at (place + length zeros) (header ++ part)) one_is ∙ laid_more place zeros (header ++ part) old within)))))

-- Some pieces are laid, and these are still to come.
pub record IsSoFar (number : Option ℕ) (bytes : List ℕ) (offset : ℕ) (old now : List ℕ) (pieces : List Piece) (end : ℕ) : Type 0 where
  pub done : List ℕ
  pub text : done ++ pieces_text number bytes pieces ≡ log.record_text number offset bytes
  pub laid : now ≡ laid_at 0 done old
  pub end_is : end ≡ length done
  pub from : ℕ
  pub cut : CoverRecord (length bytes) from pieces
  pub at : ℕ
  pub stand : LieInBlocks number at pieces

-- No piece is laid yet.
pub starts_so : (number : Option ℕ) (bytes : List ℕ) (offset at : ℕ) (old : List ℕ) (pieces : List Piece) → pieces_text number bytes pieces ≡ log.record_text number offset bytes → CoverRecord (length bytes) 0 pieces → LieInBlocks number at pieces
    → IsSoFar number bytes offset old old pieces 0
starts_so number bytes offset at old pieces text cut stand = record { done = []; text = text; laid = refl; end_is = refl; from = 0; cut = cut; at = at; stand = stand }

module _ (number : Option ℕ) (bytes : List ℕ) (offset : ℕ) (old now : List ℕ) (p : Piece) (ps pieces : List Piece) (end : ℕ) (first : pieces ≡ p ∷ ps) (some : IsSoFar number bytes offset old now pieces end) where
  abbrev so_far : IsSoFar number bytes offset old now (p ∷ ps) end
  so_far = subst (λ (l : List Piece). IsSoFar number bytes offset old now l end) first some

  text_more : (so_far.done ++ piece_text number bytes p) ++ pieces_text number bytes ps ≡ log.record_text number offset bytes
  text_more = append_assoc so_far.done (piece_text number bytes p) (pieces_text number bytes ps) ∙ so_far.text

  -- the next piece fits into the buffer, if the whole text does
  pub room : length (log.record_text number offset bytes) ≤ length old → end + length (piece_text number bytes p) ≤ length now
  room fits =
      let done : List ℕ = so_far.done in
      omega (arith, ap length text_more, length-append (done ++ piece_text number bytes p) (pieces_text number bytes ps), length-append done (piece_text number bytes p), so_far.end_is, ap length (so_far.laid ∙ laid_first done old), length-append done (drop (length done) old), length-drop (length done) old, fits)

  -- one more piece is laid
  pub goes_on : (new : List ℕ) (end' : ℕ) → new ≡ laid_at end (piece_text number bytes p) now → end' ≡ end + length (piece_text number bytes p) → IsSoFar number bytes offset old new ps end'
  goes_on new end' new_is end_is = let end_at : end ≡ 0 + length so_far.done = omega (arith, so_far.end_is) in record {
    done = so_far.done ++ piece_text number bytes p;
    text = text_more;
    laid = new_is ∙ (ap (λ (n : ℕ). laid_at n (piece_text number bytes p) now) end_at ∙ (ap (laid_at (0 + length so_far.done) (piece_text number bytes p)) so_far.laid ∙ laid_more 0 so_far.done (piece_text number bytes p) old (omega arith)));
    end_is = omega (arith, end_is, so_far.end_is, length-append so_far.done (piece_text number bytes p));
    from = p.end;
    cut = (so_far.cut).3;
    at = end_in_block number so_far.at p % 32768;
    stand = (so_far.stand).2;
  }
