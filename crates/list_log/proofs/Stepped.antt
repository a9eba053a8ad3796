-- What one step of a listing found, and its text.
use Rattle.std.proofs.Common.{◌≡◌, ℕ, List, [], ◌∷◌, ◌++◌, Option, Some, None, IfSome, refl, sym, ◌∙◌, ap, subst, append-nil, inl, inr}
use Rattle.std.specs.Io.KnownBytes.{Appends}
use Rattle.model_base.specs.declared.log.EndReason.{EndReason}
use Rattle.batch_operations.specs.Shown.{ShownRecord, Shows}
use Rattle.log_reader.proofs.FromDisk.{if_one, if_both}
use Rattle.log_scan.specs.Scanner.{FindsRecord, IsAt, IsGoing, ScannerState, unread_before}
use Rattle.log_scan.specs.Scanning.{Ends, Finds, found_none, found_more, whole, items_with}
use Rattle.log_scan.specs.declared.scanner.Lost.{Lost}
use Rattle.log_scan.specs.declared.scanner.Unread.{Unread}
use Rattle.list_text.specs.Lines.{end_line}
use Rattle.list_log.specs.Steps.{AnswersStep, HasLines, IsStep, ShowsBetween, State, Writes, WritesIfRoom, WritesRecord, stretch_lines}
use Rattle.list_log.specs.Texts as texts
use Rattle.list_log.specs.Texts.{IsText, last_after, place_of, record_lines}
use Rattle.list_log.specs.declared.listing.Listed.{Listed}
use Rattle.list_log.specs.declared.listing.Listed.TheVariants as listed
use Rattle.list_log.specs.declared.settings.Settings.{Settings}

-- the items that a record makes have its lines, after that of the stretch before it
items_text : (settings : Settings) (last : Option ℕ) (lost : Option Lost) (from start end : ℕ) (bytes : List ℕ) (shown : ShownRecord) → Shows bytes shown
    → IsText settings last (items_with lost from start end bytes)
    (stretch_lines settings.form (unread_before lost from start) ++ record_lines settings last (place_of start end bytes) shown) (last_after last shown.head)
items_text settings last None from start end bytes shown shows =
    subst (λ (t : List ℕ). IsText settings last (whole start end bytes ∷ []) t (last_after last shown.head)) (append-nil _) (texts.with_record shows texts.no_items)
items_text settings last (Some lost) from start end bytes shown shows =
    texts.with_stretch (subst (λ (t : List ℕ). IsText settings last (whole start end bytes ∷ []) t (last_after last shown.head)) (append-nil _) (texts.with_record shows texts.no_items))

-- they are those of one step
one_step : (lost : Option Lost) (from start end : ℕ) (bytes : List ℕ) → IsStep (items_with lost from start end bytes)
one_step None from start end bytes = tt
one_step (Some lost) from start end bytes = tt

-- one more record is found, from the scanner's place to its end
pub finds_one : (file : List ℕ) (old new : ScannerState) (stretch : Option Unread) (start end : ℕ) → IsAt file old → (found : FindsRecord file old new stretch start end)
    → Finds old.number old.goes_on file old.place (items_with old.lost old.place start end new.reader.in_hand) new.place
finds_one file old new stretch start end at found =
    subst (λ (p : ℕ). Finds old.number old.goes_on file old.place (items_with old.lost old.place start end new.reader.in_hand) p) (sym found.place)
    (found_more found_none at.skips found.is)

-- the lines of a record, after that of the stretch before it
abbrev lines_of : ℕ → ℕ → List ℕ → ShownRecord → Settings → Option ℕ → Option Unread → List ℕ
lines_of start end bytes shown settings last stretch = stretch_lines settings.form stretch ++ record_lines settings last (place_of start end bytes) shown

-- so a step that found a record, and made its lines, shows what is between the two places; `mid` is the state with the
-- record in hand
shows_record : (file : List ℕ) (old mid new : State) (stretch : Option Unread) (start end : ℕ) → mid.settings ≡ old.settings → mid.last ≡ old.last → new.scanner ≡ mid.scanner
    → IsAt file old.scanner → FindsRecord file old.scanner mid.scanner stretch start end → IsAt file mid.scanner → HasLines mid stretch start end new.last new.text → ShowsBetween file old new new.text
shows_record file old mid new stretch start end settings last scanner at found stays lines =
    let bytes = mid.scanner.reader.in_hand in
    let items = items_with old.scanner.lost old.scanner.place start end bytes in
    let lines_are : Settings → Option ℕ → Option Unread → List ℕ = lines_of start end bytes lines.shown in
    let text : new.text ≡ lines_are old.settings old.last (unread_before old.scanner.lost old.scanner.place start) =
    lines.text_is ∙ (ap (λ (s : Settings). lines_are s mid.last stretch) settings ∙ (ap (λ (l : Option ℕ). lines_are old.settings l stretch) last ∙ ap (lines_are old.settings old.last) found.stretch)) in
    let after : new.last ≡ last_after old.last lines.shown.head = lines.last_is ∙ ap (λ (l : Option ℕ). last_after l lines.shown.head) last in
    let is : IsText old.settings old.last items (lines_are old.settings old.last (unread_before old.scanner.lost old.scanner.place start)) (last_after old.last lines.shown.head) =
    items_text old.settings old.last old.scanner.lost old.scanner.place start end bytes lines.shown lines.shows in
    record {
      items = items;
      few = one_step old.scanner.lost old.scanner.place start end bytes;
      finds = subst (λ (s : ScannerState). Finds old.scanner.number old.scanner.goes_on file old.scanner.place items s.place) (sym scanner) (finds_one file old.scanner mid.scanner stretch start end at found);
      text_is = subst (λ (l : Option ℕ). IsText old.settings old.last items new.text l) (sym after) (subst (λ (t : List ℕ). IsText old.settings old.last items t (last_after old.last lines.shown.head)) (sym text) is);
      stays = subst (IsAt file) (sym scanner) stays;
    }

-- a step that passed over something shows nothing
shows_nothing : (file : List ℕ) (old new : State) → new.scanner.place ≡ old.scanner.place → new.last ≡ old.last → IsAt file new.scanner → ShowsBetween file old new []
shows_nothing file old new place last stays = record {
  items = [];
  few = tt;
  finds = subst (λ (p : ℕ). Finds old.scanner.number old.scanner.goes_on file old.scanner.place [] p) (sym place) found_none;
  text_is = subst (λ (l : Option ℕ). IsText old.settings old.last [] [] l) (sym last) texts.no_items;
  stays = stays;
}

-- ---- what a step wrote, by how its writing ended

-- the lines of what was found were written, or a part of them
wrote_more : (file : List ℕ) (old new : State) (text : List ℕ) (before after : Option (List ℕ)) (failed fails : ℕ) (result : Listed) → ShowsBetween file old new text
    → Writes text listed.More before after failed fails result → AnswersStep file old new before after result
wrote_more file old new text before after failed fails result shows (inl done) = subst (AnswersStep file old new before after) (sym done.0) (text, shows, done.1)
wrote_more file old new text before after failed fails result shows (inr broke) =
    subst (AnswersStep file old new before after) (sym broke.0) (broke.2.0, text, broke.2.1, inl (new, shows), broke.2.2)

wrote_record : (file : List ℕ) (old mid new : State) (stretch : Option Unread) (start end : ℕ) (before after : Option (List ℕ)) (failed fails : ℕ) (result : Listed) → mid.settings ≡ old.settings → mid.last ≡ old.last
    → new.scanner ≡ mid.scanner → IsAt file old.scanner → FindsRecord file old.scanner mid.scanner stretch start end → IsAt file mid.scanner
    → WritesRecord mid new stretch start end before after failed fails result → AnswersStep file old new before after result
wrote_record file old mid new stretch start end before after failed fails result settings last scanner at found stays (inl wrote) =
    wrote_more file old new new.text before after failed fails result (shows_record file old mid new stretch start end settings last scanner at found stays wrote.0) wrote.1
wrote_record file old mid new stretch start end before after failed fails result settings last scanner at found stays (inr none) =
    subst (AnswersStep file old new before after) (sym none.0) none.1

-- the end was written, or a part of it, or there was no memory for it
wrote_end : (file : List ℕ) (old new : State) (at : ℕ) (why : EndReason) (before after : Option (List ℕ)) (failed fails : ℕ) (result : Listed)
    → Ends old.scanner.number old.scanner.goes_on file old.scanner.place at why → WritesIfRoom (end_line old.settings.form at why) (listed.End at why) before after failed fails result
    → AnswersStep file old new before after result
wrote_end file old new at why before after failed fails result ends (inl (inl done)) = subst (AnswersStep file old new before after) (sym done.0) (ends, done.1)
wrote_end file old new at why before after failed fails result ends (inl (inr broke)) =
    subst (AnswersStep file old new before after) (sym broke.0) (broke.2.0, end_line old.settings.form at why, broke.2.1, inr (at, why, ends, refl), broke.2.2)
wrote_end file old new at why before after failed fails result ends (inr none) = subst (AnswersStep file old new before after) (sym none.0) none.1

-- ---- of a disk, whether it tells its bytes or not

abbrev pub state_with : Settings → ScannerState → Option ℕ → List ℕ → State
state_with settings scanner last text = record { settings = settings; scanner = scanner; last = last; text = text }

-- what the scanner says of a file
abbrev Finding : ScannerState → (List ℕ → Type 0) → List ℕ → Type 0
Finding scanner P file = IsAt file scanner → IsGoing scanner → P file

-- what a step says of it
abbrev Answering : State → State → Option (List ℕ) → Option (List ℕ) → Listed → List ℕ → Type 0
Answering old new before after result file = IsGoing old.scanner → IsAt file old.scanner → AnswersStep file old new before after result

-- a record was found, and written
pub next_record : (told : Option (List ℕ)) (old new : State) (settings : Settings) (scanner found : ScannerState) (last : Option ℕ) (text : List ℕ) (stretch : Option Unread) (start end : ℕ) (before after : Option (List ℕ)) (failed fails : ℕ)
    (result : Listed) → state_with settings scanner last text ≡ old → IfSome told (Finding scanner (λ file. FindsRecord file scanner found stretch start end)) → IfSome told (Finding scanner (λ file. IsAt file found))
    → new.scanner ≡ found → WritesRecord (state_with settings found last text) new stretch start end before after failed fails result → IfSome told (Answering old new before after result)
next_record told old new settings scanner found last text stretch start end before after failed fails result was finds stays now wrote =
    let mid = state_with settings found last text in
    subst (λ (o : State). IfSome told (Answering o new before after result)) was
    (if_both told (Finding scanner (λ file. FindsRecord file scanner found stretch start end)) (Finding scanner (λ file. IsAt file found)) (Answering (state_with settings scanner last text) new before after result) finds stays
    (λ file is stay going at. wrote_record file (state_with settings scanner last text) mid new stretch start end before after failed fails result refl refl now at (is at going) (stay at going) wrote))

no_bytes : (taken : Option (List ℕ)) → Appends taken taken []
no_bytes None = tt
no_bytes (Some bytes) = sym (append-nil bytes)

-- something was passed over
pub next_passed : (told : Option (List ℕ)) (old : State) (settings : Settings) (scanner found : ScannerState) (last : Option ℕ) (text : List ℕ) (taken : Option (List ℕ)) → state_with settings scanner last text ≡ old
    → IfSome told (Finding scanner (λ file. found.place ≡ scanner.place)) → IfSome told (Finding scanner (λ file. IsAt file found)) → IfSome told (Answering old (state_with settings found last text) taken taken listed.More)
next_passed told old settings scanner found last text taken was same stays =
    let new = state_with settings found last text in
    subst (λ (o : State). IfSome told (Answering o new taken taken listed.More)) was
    (if_both told (Finding scanner (λ file. found.place ≡ scanner.place)) (Finding scanner (λ file. IsAt file found)) (Answering (state_with settings scanner last text) new taken taken listed.More) same stays
    (λ file is stay going at. ([], shows_nothing file (state_with settings scanner last text) new (is at going) refl (stay at going), no_bytes taken)))

-- the end was found, and written
pub next_end : (told : Option (List ℕ)) (old new : State) (settings : Settings) (scanner : ScannerState) (last : Option ℕ) (text : List ℕ) (at : ℕ) (why : EndReason) (before after : Option (List ℕ)) (failed fails : ℕ) (result : Listed)
    → state_with settings scanner last text ≡ old → IfSome told (Finding scanner (λ file. Ends scanner.number scanner.goes_on file scanner.place at why))
    → WritesIfRoom (end_line settings.form at why) (listed.End at why) before after failed fails result → IfSome told (Answering old new before after result)
next_end told old new settings scanner last text at why before after failed fails result was ends wrote =
    subst (λ (o : State). IfSome told (Answering o new before after result)) was
    (if_one told (Finding scanner (λ file. Ends scanner.number scanner.goes_on file scanner.place at why)) (Answering (state_with settings scanner last text) new before after result) ends
    (λ file is going there. wrote_end file (state_with settings scanner last text) new at why before after failed fails result (is there going) wrote))
