-- Calls that wrote a set, and then others: which calls of them all wrote which log.
use Rattle.std.proofs.Common.{◌≡◌, ℕ, List, [], ◌∷◌, ◌++◌, map, Option, None, Some, refl, sym, ◌∙◌, ap, subst, append_assoc, append-nil}
use Rattle.std.proofs.lemmas.Grind.{flat_map-append}
use Rattle.std.proofs.lemmas.List.{map-append}
use Rattle.std.specs.List.{AllZip}
use Rattle.base_devices.specs.declared.disk.Disk.{Ghosts}
use Rattle.log_writer.specs.declared.writer.LogWriter.{LogWriter}
use Rattle.log_writer.specs.declared.set.LogSet.{LogSet}
use Rattle.log_writer.specs.Adding.{GroupCall}
use Rattle.log_writer.specs.Reads.{WasRead}
use Rattle.log_writer.specs.ReadLaws.{were_read_on}
use Rattle.log_writer.specs.Written.{Wrote, if_worked, first_fault, written_by, begun_by}
use Rattle.log_writer.specs.Sets.{full_of, current_of, later_of, fault_in}
use Rattle.log_writer.specs.SetSplits.{IsSameCall, until_fault, IsFilled, AreFilled, IsSplit}
use Rattle.log_writer.proofs.Reading.{AreCut, zip_cut, all_filled_then_read}
use Rattle.log_writer.proofs.Surviving.{Laws}
use Rattle.log_writer.proofs.SetRecords.{joined}
use Rattle.log_writer.proofs.SetStates.{wrote_append, logs_of_parts, logs_from}

zip_append : {A B : Type 0} (R : A → B → Type 0) (xs more : List A) (ys others : List B) → AllZip R xs ys → AllZip R more others → AllZip R (xs ++ more) (ys ++ others)
zip_append R [] more [] others first second = second
zip_append R [] more (y ∷ ys) others first second = absurd first
zip_append R (x ∷ xs) more [] others first second = absurd first
zip_append R (x ∷ xs) more (y ∷ ys) others first second = (first.0, zip_append R xs more ys others first.1 second)

-- where no call of the first ones failed, the others count too
until_append : (calls more : List GroupCall) → first_fault calls ≡ None → until_fault (calls ++ more) ≡ until_fault calls ++ until_fault more
until_append [] more none = refl
until_append (d ∷ calls) more none = with_failed d.failed none (until_append calls more)
  where
    with_failed : (f : Option ℕ) → if_worked f (first_fault calls) f ≡ None → (first_fault calls ≡ None → until_fault (calls ++ more) ≡ until_fault calls ++ until_fault more)
        → d ∷ if_worked f (until_fault (calls ++ more)) [] ≡ (d ∷ if_worked f (until_fault calls) []) ++ until_fault more
    with_failed None none later = ap (λ (l : List GroupCall). d ∷ l) (later none)
    with_failed (Some n) none later = absurd (cc)

first_of_more : (calls more : List GroupCall) → first_fault calls ≡ None → first_fault (calls ++ more) ≡ first_fault more
first_of_more [] more none = refl
first_of_more (d ∷ calls) more none = with_failed d.failed none (first_of_more calls more)
  where
    with_failed : (f : Option ℕ) → if_worked f (first_fault calls) f ≡ None → (first_fault calls ≡ None → first_fault (calls ++ more) ≡ first_fault more) → if_worked f (first_fault (calls ++ more)) f ≡ first_fault more
    with_failed None none later = later none
    with_failed (Some n) none later = absurd (cc)

-- calls in another grouping
regroup : (a b c d e : List GroupCall) → (a ++ b) ++ ((c ++ d) ++ e) ≡ (a ++ ((b ++ c) ++ d)) ++ e
regroup a b c d e = simp append_assoc

module _ {D : Type 0} {ghosts : Ghosts D} where
  filled_append : (olds : List (LogWriter D ghosts)) (parts : List (List GroupCall)) (news more_olds : List (LogWriter D ghosts)) (more_parts : List (List GroupCall)) (more_news : List (LogWriter D ghosts)) → AreFilled olds parts news → AreFilled more_olds more_parts more_news
      → AreFilled (olds ++ more_olds) (parts ++ more_parts) (news ++ more_news)
  filled_append [] [] [] more_olds more_parts more_news first second = second
  filled_append [] [] (n ∷ news) more_olds more_parts more_news first second = absurd first
  filled_append [] (p ∷ parts) news more_olds more_parts more_news first second = absurd first
  filled_append (o ∷ olds) [] news more_olds more_parts more_news first second = absurd first
  filled_append (o ∷ olds) (p ∷ parts) [] more_olds more_parts more_news first second = absurd first
  filled_append (o ∷ olds) (p ∷ parts) (n ∷ news) more_olds more_parts more_news first second = (first.0, filled_append olds parts news more_olds more_parts more_news first.1 second)

module _ {D : Type 0} {ghosts : Ghosts D} (laws : Laws ghosts) where
  parts_are : (parts : List (List GroupCall)) (own : List GroupCall) (later : List (LogWriter D ghosts)) → logs_of_parts laws parts own later ≡ map written_by parts ++ begun_by own ∷ map (λ (log : LogWriter D ghosts). []) later
  unfolding logs_of_parts
  parts_are [] own later = refl
  parts_are (p ∷ parts) own later = ap (λ (l : List (List (List ℕ))). written_by p ∷ l) (parts_are parts own later)

  -- which calls wrote which log, and what is in the logs then
  pub record IsJoined (old between new : LogSet D ghosts) (before after : List GroupCall) (first : IsSplit old before between) (second : IsSplit between after new) : Type 0 where
    pub split : IsSplit old (before ++ after) new
    pub logs : map written_by first.parts ++ logs_from laws first.own second.parts second.own (later_of new) ≡ map written_by split.parts ++ begun_by split.own ∷ map (λ (log : LogWriter D ghosts). []) (later_of new)

  module _ (old between new : LogSet D ghosts) (before after : List GroupCall) (first : IsSplit old before between) (alive : fault_in between ≡ None) where
    none : first_fault before ≡ None
    none = sym first.fault ∙ alive

    both_until : until_fault (before ++ after) ≡ until_fault before ++ until_fault after
    both_until = until_append before after none

    -- the logs that were full in between: those that were full before, and those that the earlier calls filled
    in_two : (kept : List (LogWriter D ghosts)) → AllZip WasRead (full_of between) kept → AreCut WasRead first.kept first.filled kept
    in_two kept were_read = zip_cut WasRead first.kept first.filled kept (subst (λ (l : List (LogWriter D ghosts)). AllZip WasRead l kept) first.full were_read)

    -- by what the logs are that the later calls filled
    join_parts : (started : List (LogWriter D ghosts)) (last : LogWriter D ghosts) (begun : current_of between ∷ later_of between ≡ started ++ last ∷ later_of new) (kept : List (LogWriter D ghosts)) (were_read : AllZip WasRead (full_of between) kept) (filled : List (LogWriter D ghosts)) (full : full_of new ≡ kept ++ filled) (parts : List (List GroupCall))
        (are : AreFilled started parts filled) (own : List GroupCall) (wrote : Wrote last own (current_of new)) (same : AllZip IsSameCall (until_fault after) (joined parts ++ own)) (fault : fault_in new ≡ first_fault after)
        → IsJoined old between new before after first (record { started = started; last = last; begun = begun; kept = kept; were_read = were_read; filled = filled; full = full; parts = parts; are_filled = are; own = own; wrote = wrote; same = same; fault = fault })
    unfolding logs_from
    join_parts [] last begun kept were_read [] full [] are own wrote same fault =
        let head : last ≡ current_of between = cc in
        let tail : later_of between ≡ later_of new = cc in
        let all : List GroupCall = joined first.parts in
        let c = in_two kept were_read in
        record {
          split = record {
            started = first.started;
            last = first.last;
            begun = first.begun ∙ ap (λ (l : List (LogWriter D ghosts)). first.started ++ first.last ∷ l) tail;
            kept = c.first;
            were_read = were_read_on (full_of old) first.kept c.first first.were_read c.of_front;
            filled = c.others;
            full = full ∙ (append-nil kept ∙ c.cut);
            parts = first.parts;
            are_filled = all_filled_then_read first.started first.parts first.filled c.others first.are_filled c.of_back;
            own = first.own ++ own;
            wrote = wrote_append laws first.last (current_of between) (current_of new) first.own own first.wrote (subst (λ (l : LogWriter D ghosts). Wrote l own (current_of new)) head wrote);
            same = subst (λ (z : List GroupCall × List GroupCall). AllZip IsSameCall z.0 z.1) (λ i. (sym both_until i, append_assoc all first.own own i))
                (zip_append IsSameCall (until_fault before) (until_fault after) (all ++ first.own) own first.same same);
            fault = fault ∙ sym (first_of_more before after none);
          };
          logs = refl;
        }
    join_parts [] last begun kept were_read (n ∷ filled) full [] are own wrote same fault = absurd are
    join_parts [] last begun kept were_read filled full (p ∷ parts) are own wrote same fault = absurd are
    join_parts (s ∷ started) last begun kept were_read filled full [] are own wrote same fault = absurd are
    join_parts (s ∷ started) last begun kept were_read [] full (p ∷ parts) are own wrote same fault = absurd are
    join_parts (s ∷ started) last begun kept were_read (n ∷ filled) full (p ∷ parts) are own wrote same fault =
        let head : s ≡ current_of between = cc in
        let tail : later_of between ≡ started ++ last ∷ later_of new = cc in
        let all : List GroupCall = joined first.parts in
        let one : IsFilled first.last (first.own ++ p) n = record {
          written = are.0.written;
          wrote = wrote_append laws first.last (current_of between) are.0.written first.own p first.wrote (subst (λ (l : LogWriter D ghosts). Wrote l p are.0.written) head are.0.wrote);
          alive = are.0.alive;
          synced = are.0.synced;
          syncs = are.0.syncs;
          was_read = are.0.was_read;
        } in
        let c = in_two kept were_read in
        let filled_before = all_filled_then_read first.started first.parts first.filled c.others first.are_filled c.of_back in
        let flat : joined (first.parts ++ (first.own ++ p) ∷ parts) ≡ all ++ ((first.own ++ p) ++ joined parts) = flat_map-append (λ (part : List GroupCall). part) first.parts ((first.own ++ p) ∷ parts) in
        record {
          split = record {
            started = first.started ++ first.last ∷ started;
            last = last;
            begun = first.begun ∙ (ap (λ (l : List (LogWriter D ghosts)). first.started ++ first.last ∷ l) tail ∙ sym (append_assoc first.started (first.last ∷ started) (last ∷ later_of new)));
            kept = c.first;
            were_read = were_read_on (full_of old) first.kept c.first first.were_read c.of_front;
            filled = c.others ++ n ∷ filled;
            full = full ∙ (ap (λ (l : List (LogWriter D ghosts)). l ++ n ∷ filled) c.cut ∙ append_assoc c.first c.others (n ∷ filled));
            parts = first.parts ++ (first.own ++ p) ∷ parts;
            are_filled = filled_append first.started first.parts c.others (first.last ∷ started) ((first.own ++ p) ∷ parts) (n ∷ filled) filled_before (one, are.1);
            own = own;
            wrote = wrote;
            same = subst (λ (z : List GroupCall × List GroupCall). AllZip IsSameCall z.0 z.1) (λ i. (sym both_until i, (regroup all first.own p (joined parts) own ∙ ap (λ (l : List GroupCall). l ++ own) (sym flat)) i))
                (zip_append IsSameCall (until_fault before) (until_fault after) (all ++ first.own) ((p ++ joined parts) ++ own) first.same same);
            fault = fault ∙ sym (first_of_more before after none);
          };
          logs = let others : List (List (List ℕ)) = begun_by own ∷ map (λ (log : LogWriter D ghosts). []) (later_of new) in
              ap (λ (l : List (List (List ℕ))). map written_by first.parts ++ written_by (first.own ++ p) ∷ l) (parts_are parts own (later_of new))
              ∙ (sym (append_assoc (map written_by first.parts) (written_by (first.own ++ p) ∷ map written_by parts) others) ∙ ap (λ (l : List (List (List ℕ))). l ++ others) (sym (map-append written_by first.parts ((first.own ++ p) ∷ parts))));
        }

  pub join : (old between new : LogSet D ghosts) (before after : List GroupCall) (first : IsSplit old before between) → fault_in between ≡ None → (second : IsSplit between after new) → IsJoined old between new before after first second
  join old between new before after first alive second =
      join_parts old between new before after first alive second.started second.last second.begun second.kept second.were_read second.filled second.full second.parts second.are_filled second.own second.wrote second.same second.fault
