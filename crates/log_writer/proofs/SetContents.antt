-- What the disks of a set hold, once calls have written it.
use Rattle.std.proofs.Common.{◌≡◌, ℕ, List, [], ◌∷◌, ◌++◌, length, map, Option, None, Some, IfSome, sym, ◌∙◌, ap, subst}
use Rattle.std.specs.List.{AllByRecursion, AllZip}
use Rattle.base_devices.specs.Disk.{Disk}
use Rattle.base_devices.specs.declared.disk.Disk.{Ghosts}
use Rattle.model_base.specs.Log.{new_log}
use Rattle.log_laws.specs.Fronts.{plain_text}
use Rattle.log_writer.specs.declared.writer.LogWriter.{LogWriter}
use Rattle.log_writer.specs.declared.set.LogSet.{LogSet}
use Rattle.log_writer.specs.Words.{disk_of, len_of}
use Rattle.log_writer.specs.Opening.{HasOpened}
use Rattle.log_writer.specs.Adding.{GroupCall}
use Rattle.log_writer.specs.Written.{first_fault, written_by, begun_by, HoldsCalls}
use Rattle.log_writer.specs.Sets.{full_of, current_of, later_of}
use Rattle.log_writer.specs.SetSplits.{AreFilled, IsSplit, until_fault}
use Rattle.log_writer.specs.SetCrashes.{HasOpenedSet}
use Rattle.log_writer.specs.SetContents.{HoldsBegun, HoldLogs}
use Rattle.log_writer.specs.Reads.{WasRead}
use Rattle.log_writer.proofs.Cutting.{one_cut}
use Rattle.log_writer.proofs.Reading.{zip_none}
use Rattle.log_writer.proofs.Surviving.{Laws}
use Rattle.log_writer.proofs.SetStates.{written_append, IsOn, on_opened, on_more, on_stands, on_content, filled_content, filled_len}
use Rattle.log_writer.proofs.SetRecords.{alive_calls, filled_alive, joined, joined_alive, written_joined, begun_append, until_written, until_begun, same_written, same_begun}
use Rattle.log_writer.proofs.SetCrashes.{all_back, all_front, all_later}

module _ {D : Type 0} {ghosts : Ghosts D} (laws : Laws ghosts) where
  abbrev HoldsNothing : LogWriter D ghosts → Type 0
  HoldsNothing log = IfSome (ghosts.told (disk_of log)) (λ d. d.content ≡ [])

  abbrev HoldsText : LogWriter D ghosts → List (List ℕ) → Type 0
  HoldsText log records = IfSome (ghosts.told (disk_of log)) (λ d. d.content ≡ plain_text records)

  abbrev text_len : List (List ℕ) → ℕ
  text_len records = length (plain_text records)

  pub opened_nothing : (disks : List D) (logs : List (LogWriter D ghosts)) → AllZip HasOpened disks logs → AllByRecursion HoldsNothing logs
  opened_nothing [] [] opened = tt
  opened_nothing [] (log ∷ logs) opened = absurd opened
  opened_nothing (disk ∷ disks) [] opened = absurd opened
  opened_nothing (disk ∷ disks) (log ∷ logs) opened = (subst (λ (t : Option Disk). IfSome t (λ x. x.content ≡ [])) (sym (opened.0.looked_at).same) opened.0.empty, opened_nothing disks logs opened.1)

  pub filled_hold : (started : List (LogWriter D ghosts)) (parts : List (List GroupCall)) (news : List (LogWriter D ghosts)) → AreFilled started parts news → AllByRecursion (IsOn laws []) started → AllZip HoldsText news (map written_by parts)
  filled_hold [] [] [] are on = tt
  filled_hold [] [] (n ∷ news) are on = absurd are
  filled_hold [] (p ∷ parts) news are on = absurd are
  filled_hold (s ∷ started) [] news are on = absurd are
  filled_hold (s ∷ started) (p ∷ parts) [] are on = absurd are
  filled_hold (s ∷ started) (p ∷ parts) (n ∷ news) are on = (filled_content laws s on.0 p n are.0, filled_hold started parts news are.1 on.1)

  pub filled_lens : (started : List (LogWriter D ghosts)) (parts : List (List GroupCall)) (news : List (LogWriter D ghosts)) (log : LogWriter D ghosts) (own : List GroupCall) → AreFilled started parts news → AllByRecursion (IsOn laws []) started
      → len_of log ≡ text_len (written_by own) → map len_of (news ++ log ∷ []) ≡ map text_len (map written_by parts ++ written_by own ∷ [])
  filled_lens [] [] [] log own are on len = λ i. len i ∷ []
  filled_lens [] [] (n ∷ news) log own are on len = absurd are
  filled_lens [] (p ∷ parts) news log own are on len = absurd are
  filled_lens (s ∷ started) [] news log own are on len = absurd are
  filled_lens (s ∷ started) (p ∷ parts) [] log own are on len = absurd are
  filled_lens (s ∷ started) (p ∷ parts) (n ∷ news) log own are on len =
      let first : len_of n ≡ text_len (written_by p) = filled_len laws s on.0 p n are.0 in
      let rest = filled_lens started parts news log own are.1 on.1 len in
      λ i. first i ∷ rest i

  all_on : (disks : List D) (logs : List (LogWriter D ghosts)) → AllZip HasOpened disks logs → AllByRecursion (IsOn laws []) logs
  all_on [] [] opened = tt
  all_on [] (log ∷ logs) opened = absurd opened
  all_on (disk ∷ disks) [] opened = absurd opened
  all_on (disk ∷ disks) (log ∷ logs) opened = (on_opened laws disk log opened.0, all_on disks logs opened.1)

  begun_holds : (told : Option Disk) (own : List GroupCall) (failed : Option ℕ) → IfSome told (λ d. (safe : ℕ) × HoldsCalls new_log d own safe) → (failed ≡ None → IfSome told (λ d. d.content ≡ plain_text (written_by own)))
      → IfSome told (HoldsBegun (written_by own) (begun_by own) failed)
  begun_holds None own failed holds whole = tt
  begun_holds (Some d) own failed holds whole = record { whole = whole; behind = holds.1.behind; front = holds.1.front }

  module _ (disks : List D) (opened last : LogSet D ghosts) (calls : List GroupCall) (has : HasOpenedSet disks opened) (s : IsSplit opened calls last) where
    pub logs_opened : AllZip HasOpened disks (current_of opened ∷ later_of opened)
    logs_opened = subst (λ (l : List (LogWriter D ghosts)). AllZip HasOpened disks (l ++ current_of opened ∷ later_of opened)) has.none_full has.opened

    on_all : AllByRecursion (IsOn laws []) (s.started ++ s.last ∷ later_of last)
    on_all = subst (AllByRecursion (IsOn laws [])) s.begun (all_on disks (current_of opened ∷ later_of opened) logs_opened)

    pub on_started : AllByRecursion (IsOn laws []) s.started
    on_started = all_front (IsOn laws []) s.started (s.last ∷ later_of last) on_all

    pub on_current : IsOn laws s.own (current_of last)
    on_current = on_more laws [] s.own s.last (current_of last) (all_back (IsOn laws []) s.started (s.last ∷ later_of last) on_all).0 s.wrote

    pub full_is : full_of last ≡ s.filled
    full_is = s.full ∙ ap (λ (l : List (LogWriter D ghosts)). l ++ s.filled) (zip_none WasRead (full_of opened) s.kept s.were_read has.none_full)

    pub parts_alive : AllByRecursion (λ (part : List GroupCall). first_fault part ≡ None) s.parts
    parts_alive = filled_alive s.started s.parts s.filled s.are_filled

    own_alive : first_fault calls ≡ None → first_fault s.own ≡ None
    own_alive none = alive_calls s.last s.own (current_of last) s.wrote (last.alive (s.fault ∙ none))

    pub current_holds : IfSome (ghosts.told (disk_of (current_of last))) (HoldsBegun (written_by s.own) (begun_by s.own) (first_fault calls))
    current_holds =
        begun_holds (ghosts.told (disk_of (current_of last))) s.own (first_fault calls) (on_stands laws s.own (current_of last) on_current).told (λ none. on_content laws s.own (current_of last) on_current (own_alive none))

    unfoldable pub hold_logs : HoldLogs last calls
    hold_logs =
        let parts = s.parts in
        let none = joined_alive parts parts_alive in
        let full : List (List (List ℕ)) = map written_by parts in
        record {
          full = full;
          written = written_by s.own;
          begun = begun_by s.own;
          all_written = ap (λ (l : List (List ℕ)). l ++ written_by s.own) (written_joined parts parts_alive) ∙ (sym (written_append (joined parts) s.own none) ∙ (same_written (until_fault calls) (joined parts ++ s.own) s.same ∙ until_written calls));
          all_begun = ap (λ (l : List (List ℕ)). l ++ begun_by s.own) (written_joined parts parts_alive) ∙ (sym (begun_append (joined parts) s.own none) ∙ (same_begun (until_fault calls) (joined parts ++ s.own) s.same ∙ until_begun calls));
          lens = ap (λ (l : List (LogWriter D ghosts)). map len_of (l ++ current_of last ∷ [])) full_is ∙ filled_lens s.started parts s.filled (current_of last) s.own s.are_filled on_started (on_stands laws s.own (current_of last) on_current).len;
          full_hold = subst (λ (l : List (LogWriter D ghosts)). AllZip HoldsText l full) (sym full_is) (filled_hold s.started parts s.filled s.are_filled on_started);
          current_holds = current_holds;
          later_hold = all_later HoldsNothing (current_of opened) (later_of opened) s.started s.last (later_of last) s.begun (opened_nothing disks (current_of opened ∷ later_of opened) logs_opened).1;
        }

    -- however else the records are cut
    pub split_cut : (hold : HoldLogs last calls) → hold.full ++ hold.written ∷ [] ≡ map written_by s.parts ++ written_by s.own ∷ []
    unfolding hold_logs
    split_cut hold = one_cut last calls hold hold_logs
