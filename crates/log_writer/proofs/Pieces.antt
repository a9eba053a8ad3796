-- A record, written piece by piece.
use Rattle.std.proofs.Common.{◌≡◌, ℕ, ◌+◌, ◌-◌, ◌%◌, ◌<◌, ◌≤◌, Bool, true, false, Option, Some, None, List, [], ◌∷◌, ◌++◌, length, take, drop, replicate, Result, Ok, Err, IfSome, nat_lt, cond, refl, sym, ◌∙◌, ap, subst, arith, append_assoc, length-append, length-take, length-drop}
use Rattle.std.proofs.Math.ListN.{length-replicate}
use Rattle.std.proofs.lemmas.Bool.{ltb-true}
use Rattle.std.proofs.lemmas.List.{append-nil, drop-drop}
use Rattle.std.specs.Result.{IsErr}
use Rattle.base_devices.specs.Disk.{IsDisk, IsImage}
use Rattle.base_devices.specs.declared.disk.Disk.{Ghosts}
use Rattle.base_devices.specs.declared.failed.Failed.{Failed}
use Rattle.model_base.specs.Log as log
use Rattle.log_laws.proofs.Seen.{header_small}
use Rattle.log_block.specs.declared.pieces.Piece.{Piece}
use Rattle.log_block.specs.Pieces.{piece_text, pieces_text, CoverRecord, LiesInBlock, LieInBlocks, end_in_block}
use Rattle.log_writer.specs.Puts.{Puts}
use Rattle.log_writer.proofs.Putting.{puts_none, puts_more, puts_cut}

-- what is put for a piece, whose part is the first bytes of what is left of the record
abbrev pub put_of : Option ℕ → List ℕ → Piece → List ℕ
put_of number rest p = let part = take (p.end - p.start) rest in replicate p.zeros 0 ++ (log.header number p.kind part ++ part)

-- Some of the record is put, and these pieces are still to come.
pub record IsSoFar {D : Type 0} (ghosts : Ghosts D) (number : Option ℕ) (bytes : List ℕ) (offset : ℕ) (start now : D) (rest : List ℕ) (pieces : List Piece) (end : ℕ) : Type 0 where
  pub done : List ℕ
  pub text : done ++ pieces_text number bytes pieces ≡ log.record_text number offset bytes
  pub put : Puts {T = Unit {0}} {E = Failed} ghosts start now done false (Ok tt)
  pub end_is : end ≡ offset + length done
  pub from : ℕ
  pub rest_is : rest ≡ drop from bytes
  pub cut : CoverRecord (length bytes) from pieces
  pub at : ℕ
  pub laid : LieInBlocks number at pieces

-- Nothing of it is put yet.
pub starts_so : {D : Type 0} (ghosts : Ghosts D) (number : Option ℕ) (bytes : List ℕ) (offset at : ℕ) (start : D) (pieces : List Piece)
    → ((image : List ℕ) → ghosts.from start ≤ ghosts.moment start → ghosts.since start (ghosts.moment start) image → IfSome (ghosts.told start) (λ d. IsImage d image))
    → pieces_text number bytes pieces ≡ log.record_text number offset bytes → CoverRecord (length bytes) 0 pieces → LieInBlocks number at pieces → IsSoFar ghosts number bytes offset start start bytes pieces offset
starts_so ghosts number bytes offset at start pieces only text cut laid = record {
  done = [];
  text = text;
  put = puts_none ghosts start only;
  end_is = omega arith;
  from = 0;
  rest_is = refl;
  cut = cut;
  at = at;
  laid = laid;
}

-- what must hold of a piece that is put
pub record MayBePut (number : Option ℕ) (rest : List ℕ) (p : Piece) : Type 0 where
  pub zeros : p.zeros ≤ 10
  pub ordered : p.start ≤ p.end
  pub fits : log.header_len number + (p.end - p.start) ≤ 32768
  pub there : p.end - p.start ≤ length rest

few_zeros : (number : Option ℕ) (at : ℕ) → log.trailer number at ≤ 10
few_zeros number at = by_room (nat_lt (log.room at) (log.header_len number)) refl
  where
    by_room : (b : Bool) → nat_lt (log.room at) (log.header_len number) ≡ b → cond b (log.room at) 0 ≤ 10
    by_room true e = let less : log.room at < log.header_len number = ltb-true (log.room at) (log.header_len number) e in omega (arith, less, header_small number)
    by_room false e = omega arith

-- a header has as many bytes as `header_len` says
pub header_len_is : (number : Option ℕ) (code : ℕ) (part : List ℕ) → length (log.header number code part) ≡ log.header_len number
header_len_is None code part = omega arith
header_len_is (Some n) code part = omega arith

module _ {D : Type 0} (ghosts : Ghosts D) (number : Option ℕ) (bytes : List ℕ) (offset : ℕ) (start now : D) (rest : List ℕ) (p : Piece) (ps : List Piece) (end : ℕ) (so_far : IsSoFar ghosts number bytes offset start now rest (p ∷ ps) end) where
  from_is : p.start ≡ so_far.from
  from_is = (so_far.cut).0

  pub may_be_put : MayBePut number rest p
  may_be_put =
      let stands : LiesInBlock number so_far.at p = (so_far.laid).0 in
      record {
        zeros = omega (arith, stands.zeros, few_zeros number so_far.at);
        ordered = stands.ordered;
        fits = omega (arith, stands.in_block);
        there = omega (arith, ap length so_far.rest_is, length-drop so_far.from bytes, from_is, (so_far.cut).2);
      }

  -- what is put for the next piece is what the record has there
  same_text : put_of number rest p ≡ piece_text number bytes p
  same_text = ap (λ (l : List ℕ). put_of number l p) (so_far.rest_is ∙ ap (λ (n : ℕ). drop n bytes) (sym from_is))

  pub put_len : length (put_of number rest p) ≡ p.zeros + (log.header_len number + (p.end - p.start))
  put_len =
      let part : List ℕ = take (p.end - p.start) rest in
      let may = may_be_put in
      omega (arith, length-append (replicate p.zeros 0) (log.header number p.kind part ++ part), length-append (log.header number p.kind part) part, header_len_is number p.kind part, length-replicate {A = ℕ} p.zeros 0, length-take (p.end - p.start) rest, may.there)

  text_more : (so_far.done ++ put_of number rest p) ++ pieces_text number bytes ps ≡ log.record_text number offset bytes
  text_more = append_assoc so_far.done (put_of number rest p) (pieces_text number bytes ps) ∙ (ap (λ (l : List ℕ). so_far.done ++ (l ++ pieces_text number bytes ps)) same_text ∙ so_far.text)

  pub puts_next : {T : Type 0} (then : D) (t : T) → IfSome (ghosts.told start) IsDisk → Puts {E = Failed} ghosts now then (put_of number rest p) false (Ok t) → Puts {T = Unit {0}} {E = Failed} ghosts start then (so_far.done ++ put_of number rest p) false (Ok tt)
  puts_next then t is more = puts_same (puts_more ghosts start now then so_far.done (put_of number rest p) false tt (Ok t) is so_far.put more)
    where
      puts_same : {T : Type 0} {t : T} → Puts {E = Failed} ghosts start then (so_far.done ++ put_of number rest p) false (Ok t) → Puts {T = Unit {0}} {E = Failed} ghosts start then (so_far.done ++ put_of number rest p) false (Ok tt)
      puts_same q = record { are_put = q.are_put; counted = q.counted; cause = record { later = (q.cause).later; once = (q.cause).once; failed = tt; worked = (q.cause).worked }; reached = q.reached; crash = q.crash }

  -- one more piece is put
  pub goes_on : {T : Type 0} (then : D) (rest' : List ℕ) (end' : ℕ) (t : T) → IfSome (ghosts.told start) IsDisk → Puts {E = Failed} ghosts now then (put_of number rest p) false (Ok t)
      → rest' ≡ drop (p.end - p.start) rest → end' ≡ end + (p.zeros + (log.header_len number + (p.end - p.start))) → IsSoFar ghosts number bytes offset start then rest' ps end'
  goes_on then rest' end' t is more rest_is end_is = record {
    done = so_far.done ++ put_of number rest p;
    text = text_more;
    put = puts_next then t is more;
    end_is = omega (arith, end_is, so_far.end_is, length-append so_far.done (put_of number rest p), put_len);
    from = p.end;
    rest_is = rest_is ∙ (ap (drop (p.end - p.start)) so_far.rest_is ∙ (drop-drop (p.end - p.start) so_far.from bytes ∙ ap (λ (n : ℕ). drop n bytes) (omega (arith, from_is, (so_far.cut).1))));
    cut = (so_far.cut).3;
    at = end_in_block number so_far.at p % 32768;
    laid = (so_far.laid).2;
  }

  -- or that fails, and then putting the whole record has failed
  pub breaks_off : {T U : Type 0} (then : D) (e : Failed) (r : Result U Failed) → IfSome (ghosts.told start) IsDisk → IsErr r → Puts {T = T} ghosts now then (put_of number rest p) false (Err e)
      → Puts ghosts start then (log.record_text number offset bytes) false r
  breaks_off {T = T} then e r is failed more =
      subst (λ (l : List ℕ). Puts ghosts start then l false r) text_more
      (puts_cut ghosts start then (so_far.done ++ put_of number rest p) (pieces_text number bytes ps) false e r failed (puts_more {T = T} ghosts start now then so_far.done (put_of number rest p) false tt (Err e) is so_far.put more))

-- so the first of the pieces to come may be put
pub may_put_next : {D : Type 0} (ghosts : Ghosts D) (number : Option ℕ) (bytes : List ℕ) (offset : ℕ) (start now : D) (rest : List ℕ) (end : ℕ) (pieces : List Piece) (p : Piece) (ps : List Piece)
    → pieces ≡ p ∷ ps → IsSoFar ghosts number bytes offset start now rest pieces end → MayBePut number rest p
may_put_next ghosts number bytes offset start now rest end pieces p ps first so_far =
    may_be_put ghosts number bytes offset start now rest p ps end (subst (λ (l : List Piece). IsSoFar ghosts number bytes offset start now rest l end) first so_far)

-- all pieces are put
pub puts_whole : {D U : Type 0} (ghosts : Ghosts D) (number : Option ℕ) (bytes : List ℕ) (offset : ℕ) (start now : D) (rest : List ℕ) (end : ℕ) (u : U) → IsSoFar ghosts number bytes offset start now rest [] end → Puts {E = Failed} ghosts start now (log.record_text number offset bytes) false (Ok u)
puts_whole ghosts number bytes offset start now rest end u so_far =
    let whole : so_far.done ≡ log.record_text number offset bytes = sym (append-nil so_far.done) ∙ so_far.text in
    let q = so_far.put in
    subst (λ (l : List ℕ). Puts {E = Failed} ghosts start now l false (Ok u)) whole (record { are_put = q.are_put; counted = q.counted; cause = record { later = (q.cause).later; once = (q.cause).once; failed = tt; worked = (q.cause).worked }; reached = q.reached; crash = q.crash })

pub ends_at : {D : Type 0} (ghosts : Ghosts D) (number : Option ℕ) (bytes : List ℕ) (offset : ℕ) (start now : D) (rest : List ℕ) (end : ℕ) → IsSoFar ghosts number bytes offset start now rest [] end → end ≡ offset + length (log.record_text number offset bytes)
ends_at ghosts number bytes offset start now rest end so_far =
    let whole : so_far.done ≡ log.record_text number offset bytes = sym (append-nil so_far.done) ∙ so_far.text in
    omega (arith, so_far.end_is, ap length whole)
