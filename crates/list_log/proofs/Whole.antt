-- What steps show one after another.
use Rattle.std.proofs.Common.{◌≡◌, ℕ, ◌+◌, Bool, List, [], ◌++◌, length, take, Option, Some, None, IfSome, unwrap_or, refl, sym, ◌∙◌, ap, subst, append_assoc, append-nil, inl, inr}
use Rattle.std.specs.Io.KnownBytes.{Appends}
use Rattle.std.proofs.KnownBytes.{Appends-trans}
use Rattle.std.proofs.Math.Seq.{take-append-add}
use Rattle.model_base.specs.declared.log.EndReason.{EndReason}
use Rattle.log_scan.specs.Scanner.{IsAt, IsGoing}
use Rattle.log_scan.specs.Scanning.{Item, Finds, Ends, found_none}
use Rattle.list_text.specs.Lines.{end_line}
use Rattle.list_log.specs.Showing.{AnswersShowing, ended}
use Rattle.list_log.specs.Steps.{AnswersStep, HasCauses, ShowsBetween, State, StepText, WhereItGoesOn, WritesIfRoom}
use Rattle.list_log.specs.Texts.{IsListing, IsListingFront, IsText, front_of, no_items}
use Rattle.list_log.specs.declared.listing.Listed.{Listed}
use Rattle.list_log.specs.declared.listing.Listed.TheVariants as listed
use Rattle.list_log.specs.declared.settings.Settings.{Settings}
use Rattle.list_log.specs.declared.showing.Shown.{Shown}
use Rattle.list_log.specs.declared.showing.Shown.TheVariants as shown
use Rattle.list_log.proofs.Joined.{text_joins, finds_join}

-- what is shown from the start up to a state
pub record ShowsTo (settings : Settings) (number : Option ℕ) (file : List ℕ) (state : State) (text : List ℕ) : Type 0 where
  pub items : List Item
  pub lines : List ℕ
  pub finds : Finds number settings.scan file 0 items state.scanner.place
  pub of_items : IsText settings None items lines state.last
  pub text_is : text ≡ front_of settings ++ lines

-- at the start it is the first line
pub starts : (settings : Settings) (number : Option ℕ) (file : List ℕ) (state : State) → state.scanner.place ≡ 0 → state.last ≡ None → ShowsTo settings number file state (front_of settings)
starts settings number file state place last = record {
  items = [];
  lines = [];
  finds = subst (λ (p : ℕ). Finds number settings.scan file 0 [] p) (sym place) found_none;
  of_items = subst (λ (l : Option ℕ). IsText settings None [] [] l) (sym last) no_items;
  text_is = sym (append-nil (front_of settings));
}

-- one more step
pub shows_on : (settings : Settings) (number : Option ℕ) (file : List ℕ) (old new : State) (before text : List ℕ) → old.settings ≡ settings → old.scanner.number ≡ number → old.scanner.goes_on ≡ settings.scan
    → ShowsTo settings number file old before → ShowsBetween file old new text → ShowsTo settings number file new (before ++ text)
shows_on settings number file old new before text settings_are number_is goes_on so_far step =
    let finds = subst (λ (n : Option ℕ). Finds n settings.scan file old.scanner.place step.items new.scanner.place) number_is
    (subst (λ (g : Bool). Finds old.scanner.number g file old.scanner.place step.items new.scanner.place) goes_on step.finds) in
    let of_items = subst (λ (s : Settings). IsText s old.last step.items text new.last) settings_are step.text_is in
    record {
      items = so_far.items ++ step.items;
      lines = so_far.lines ++ text;
      finds = finds_join number settings.scan file 0 old.scanner.place new.scanner.place so_far.items step.items so_far.finds finds;
      of_items = text_joins settings None old.last new.last so_far.items step.items so_far.lines text so_far.of_items of_items;
      text_is = ap (λ (t : List ℕ). t ++ text) so_far.text_is ∙ append_assoc (front_of settings) so_far.lines text;
    }

-- whole lines of the first items
is_front : (settings : Settings) (number : Option ℕ) (file : List ℕ) (state : State) (text : List ℕ) → ShowsTo settings number file state text → IsListingFront settings number file text
is_front settings number file state text so_far =
    record { place = state.scanner.place; items = so_far.items; finds = so_far.finds; last = state.last; lines = so_far.lines; of_items = so_far.of_items; text_is = so_far.text_is }

-- and with the end it is the whole text
abbrev is_whole : (settings : Settings) (number : Option ℕ) (file : List ℕ) (state : State) (text : List ℕ) (at : ℕ) (why : EndReason) → ShowsTo settings number file state text
    → Ends number settings.scan file state.scanner.place at why → IsListing settings number file (text ++ end_line settings.form at why)
is_whole settings number file state text at why so_far ends = record {
  scan = record { items = so_far.items; at = at; why = why };
  is = record { place = state.scanner.place; finds = so_far.finds; ends = ends };
  last = state.last;
  lines = so_far.lines;
  of_items = so_far.of_items;
  text_is = ap (λ (t : List ℕ). t ++ end_line settings.form at why) so_far.text_is;
}

-- a state of this call: what is shown, the log's number, and whether it is a scan
pub record IsOf (settings : Settings) (number : Option ℕ) (state : State) : Type 0 where
  pub settings_are : state.settings ≡ settings
  pub number_is : state.scanner.number ≡ number
  pub goes_on : state.scanner.goes_on ≡ settings.scan

same_ends : (settings : Settings) (number : Option ℕ) (file : List ℕ) (state : State) (at : ℕ) (why : EndReason) → IsOf settings number state
    → Ends state.scanner.number state.scanner.goes_on file state.scanner.place at why → Ends number settings.scan file state.scanner.place at why
same_ends settings number file state at why of ends =
    subst (λ (n : Option ℕ). Ends n settings.scan file state.scanner.place at why) of.number_is (subst (λ (g : Bool). Ends state.scanner.number g file state.scanner.place at why) of.goes_on ends)

-- a prefix of what a step would write, after what was written before
part : (before mid after : Option (List ℕ)) (so_far text : List ℕ) (n : ℕ) → Appends before mid so_far → Appends mid after (take n text) → Appends before after (take (length so_far + n) (so_far ++ text))
part before mid after so_far text n first second = subst (Appends before after) (sym (take-append-add so_far text n)) (Appends-trans before mid after so_far (take n text) first second)

broken : (settings : Settings) (number : Option ℕ) (file : List ℕ) (state : State) (before mid after : Option (List ℕ)) (so_far : List ℕ) → IsOf settings number state → ShowsTo settings number file state so_far → Appends before mid so_far
    → (n : ℕ) (text : List ℕ) → StepText file state text → Appends mid after (take n text) → AnswersShowing settings number file before after shown.SinkFailed
broken settings number file state before mid after so_far of shows wrote n text (inl step) part_of = (
  so_far ++ text,
  length so_far + n,
  inr (is_front settings number file step.0 (so_far ++ text) (shows_on settings number file state step.0 so_far text of.settings_are of.number_is of.goes_on shows step.1)),
  part before mid after so_far text n wrote part_of,
)
broken settings number file state before mid after so_far of shows wrote n text (inr end) part_of =
    let form : text ≡ end_line settings.form end.0 end.1 = end.3 ∙ ap (λ (s : Settings). end_line s.form end.0 end.1) of.settings_are in
    let whole = is_whole settings number file state so_far end.0 end.1 shows (same_ends settings number file state end.0 end.1 of end.2) in
    (so_far ++ text, length so_far + n, inl (subst (λ (t : List ℕ). IsListing settings number file (so_far ++ t)) (sym form) whole), part before mid after so_far text n wrote part_of)

kept_text : (before mid after : Option (List ℕ)) (so_far : List ℕ) → Appends before mid so_far → after ≡ mid → Appends before after so_far
kept_text before mid after so_far wrote same = subst (λ (t : Option (List ℕ)). Appends before t so_far) (sym same) wrote

became : (x y : Shown) → Some x ≡ Some y → x ≡ y
became x y same = ap (λ (o : Option Shown). unwrap_or o x) same

-- a step that ended the listing
pub shown_at_end : (settings : Settings) (number : Option ℕ) (file : List ℕ) (state new : State) (before mid after : Option (List ℕ)) (so_far : List ℕ) (step : Listed) (result : Shown) → IsOf settings number state
    → ShowsTo settings number file state so_far → Appends before mid so_far → ended step ≡ Some result → AnswersStep file state new mid after step → AnswersShowing settings number file before after result
shown_at_end settings number file state new before mid after so_far listed.More result of shows wrote is step = absurd (cc is)
shown_at_end settings number file state new before mid after so_far (listed.End at why) result of shows wrote is step =
    let line : end_line state.settings.form at why ≡ end_line settings.form at why = ap (λ (s : Settings). end_line s.form at why) of.settings_are in
    let whole = is_whole settings number file state so_far at why shows (same_ends settings number file state at why of step.0) in
    subst (AnswersShowing settings number file before after) (became (shown.All at why) result is)
    (so_far ++ end_line settings.form at why, whole, refl, refl, Appends-trans before mid after so_far (end_line settings.form at why) wrote (subst (Appends mid after) line step.1))
shown_at_end settings number file state new before mid after so_far (listed.Fault count) result of shows wrote is step =
    subst (AnswersShowing settings number file before after) (became (shown.Fault count) result is)
    (so_far, is_front settings number file state so_far shows, kept_text before mid after so_far wrote step)
shown_at_end settings number file state new before mid after so_far listed.SinkFailed result of shows wrote is step =
    subst (AnswersShowing settings number file before after) (became shown.SinkFailed result is)
    (broken settings number file state before mid after so_far of shows wrote step.0 step.1 step.3 step.4)
shown_at_end settings number file state new before mid after so_far listed.NoMemory result of shows wrote is step =
    subst (AnswersShowing settings number file before after) (became shown.NoMemory result is)
    (inr (so_far, is_front settings number file state so_far shows, kept_text before mid after so_far wrote step))

-- one that didn't
pub shown_on : (settings : Settings) (number : Option ℕ) (file : List ℕ) (state new : State) (before mid after : Option (List ℕ)) (so_far : List ℕ) (step : Listed) → IsOf settings number state
    → ShowsTo settings number file state so_far → Appends before mid so_far → ended step ≡ None → AnswersStep file state new mid after step
    → (text : List ℕ) × ShowsTo settings number file new text × Appends before after text
shown_on settings number file state new before mid after so_far listed.More of shows wrote is step =
    (so_far ++ step.0, shows_on settings number file state new so_far step.0 of.settings_are of.number_is of.goes_on shows step.1, Appends-trans before mid after so_far step.0 wrote step.2)
shown_on settings number file state new before mid after so_far (listed.End at why) of shows wrote is step = absurd (cc is)
shown_on settings number file state new before mid after so_far (listed.Fault count) of shows wrote is step = absurd (cc is)
shown_on settings number file state new before mid after so_far listed.SinkFailed of shows wrote is step = absurd (cc is)
shown_on settings number file state new before mid after so_far listed.NoMemory of shows wrote is step = absurd (cc is)

-- what holds where a listing goes on
pub goes : (step : Listed) (P : Type 0) → ended step ≡ None → WhereItGoesOn step P → P
goes listed.More P is p = p
goes (listed.End at why) P is p = absurd (cc is)
goes (listed.Fault count) P is p = absurd (cc is)
goes listed.SinkFailed P is p = absurd (cc is)
goes listed.NoMemory P is p = absurd (cc is)

pub uncaused : (step : Listed) (disk now sink fails : ℕ) → ended step ≡ None → HasCauses disk now sink fails step → (now ≡ disk) × (fails ≡ sink)
uncaused listed.More disk now sink fails is causes = causes
uncaused (listed.End at why) disk now sink fails is causes = absurd (cc is)
uncaused (listed.Fault count) disk now sink fails is causes = absurd (cc is)
uncaused listed.SinkFailed disk now sink fails is causes = absurd (cc is)
uncaused listed.NoMemory disk now sink fails is causes = absurd (cc is)

-- ---- the first line

pub front_goes : (text : List ℕ) (before after : Option (List ℕ)) (failed fails : ℕ) (step : Listed) → ended step ≡ None → WritesIfRoom text listed.More before after failed fails step
    → Appends before after text × (fails ≡ failed)
front_goes text before after failed fails step is (inl (inl done)) = (done.1, done.2)
front_goes text before after failed fails step is (inl (inr broke)) = absurd (cc (subst (λ (s : Listed). ended s ≡ None) broke.0 is))
front_goes text before after failed fails step is (inr none) = absurd (cc (subst (λ (s : Listed). ended s ≡ None) none.0 is))

pub front_ends : (settings : Settings) (number : Option ℕ) (file : List ℕ) (state : State) (before after : Option (List ℕ)) (failed fails : ℕ) (step : Listed) (result : Shown) → ShowsTo settings number file state (front_of settings)
    → ended step ≡ Some result → WritesIfRoom (front_of settings) listed.More before after failed fails step → AnswersShowing settings number file before after result
front_ends settings number file state before after failed fails step result shows is (inl (inl done)) = absurd (cc (subst (λ (s : Listed). ended s ≡ Some result) done.0 is))
front_ends settings number file state before after failed fails step result shows is (inl (inr broke)) =
    subst (AnswersShowing settings number file before after) (became shown.SinkFailed result (subst (λ (s : Listed). ended s ≡ Some result) broke.0 is))
    (front_of settings, broke.2.0, inr (is_front settings number file state (front_of settings) shows), broke.2.2)
front_ends settings number file state before after failed fails step result shows is (inr none) =
    subst (AnswersShowing settings number file before after) (became shown.NoMemory result (subst (λ (s : Listed). ended s ≡ Some result) none.0 is)) (inl none.1)

-- ---- of a disk, whether it tells its bytes or not

pub if_all : (told : Option (List ℕ)) (P : List ℕ → Type 0) → ((file : List ℕ) → P file) → IfSome told P
if_all None P all = tt
if_all (Some file) P all = all file

-- what is shown up to a state was written
abbrev pub WrittenTo : Settings → Option ℕ → List ℕ → State → Option (List ℕ) → Option (List ℕ) → Type 0
WrittenTo settings number file state first now = (text : List ℕ) × ShowsTo settings number file state text × Appends first now text

-- what a step says of a file
abbrev Says : State → State → Option (List ℕ) → Option (List ℕ) → Listed → List ℕ → Type 0
Says state new mid after step file = IsGoing state.scanner → IsAt file state.scanner → AnswersStep file state new mid after step

abbrev Stays : State → State → Listed → List ℕ → Type 0
Stays state new step file = IsGoing state.scanner → IsAt file state.scanner → WhereItGoesOn step (IsAt file new.scanner)

pub on_told : (told before : Option (List ℕ)) (settings : Settings) (number : Option ℕ) (state new : State) (first mid after : Option (List ℕ)) (step : Listed) → before ≡ told → IsOf settings number state → IsGoing state.scanner
    → ended step ≡ None → IfSome told (λ file. IsAt file state.scanner) → IfSome told (λ file. WrittenTo settings number file state first mid) → IfSome before (Says state new mid after step)
    → IfSome told (λ file. WrittenTo settings number file new first after)
on_told None before settings number state new first mid after step same of going on at so_far says = tt
on_told (Some file) before settings number state new first mid after step same of going on at so_far says =
    let answers = subst (λ (t : Option (List ℕ)). IfSome t (Says state new mid after step)) same says in
    shown_on settings number file state new first mid after so_far.0 step of so_far.1 so_far.2 on (answers going at)

pub at_told : (told before : Option (List ℕ)) (state new : State) (step : Listed) → before ≡ told → IsGoing state.scanner → ended step ≡ None → IfSome told (λ file. IsAt file state.scanner) → IfSome before (Stays state new step)
    → IfSome told (λ file. IsAt file new.scanner)
at_told None before state new step same going on at stays = tt
at_told (Some file) before state new step same going on at stays =
    goes step (IsAt file new.scanner) on (subst (λ (t : Option (List ℕ)). IfSome t (Stays state new step)) same stays going at)

pub end_told : (told before : Option (List ℕ)) (settings : Settings) (number : Option ℕ) (state new : State) (first mid after : Option (List ℕ)) (step : Listed) (result : Shown) → before ≡ told → IsOf settings number state
    → IsGoing state.scanner → ended step ≡ Some result → IfSome told (λ file. IsAt file state.scanner) → IfSome told (λ file. WrittenTo settings number file state first mid) → IfSome before (Says state new mid after step)
    → IfSome told (λ file. AnswersShowing settings number file first after result)
end_told None before settings number state new first mid after step result same of going is at so_far says = tt
end_told (Some file) before settings number state new first mid after step result same of going is at so_far says =
    let answers = subst (λ (t : Option (List ℕ)). IfSome t (Says state new mid after step)) same says in
    shown_at_end settings number file state new first mid after so_far.0 step result of so_far.1 so_far.2 is (answers going at)

-- the first line was written
pub front_told : (told : Option (List ℕ)) (settings : Settings) (number : Option ℕ) (state : State) (first after : Option (List ℕ)) (failed fails : ℕ) (step : Listed) → state.scanner.place ≡ 0 → state.last ≡ None → ended step ≡ None
    → WritesIfRoom (front_of settings) listed.More first after failed fails step → IfSome told (λ file. WrittenTo settings number file state first after)
front_told None settings number state first after failed fails step place last on wrote = tt
front_told (Some file) settings number state first after failed fails step place last on wrote =
    (front_of settings, starts settings number file state place last, (front_goes (front_of settings) first after failed fails step on wrote).0)

-- or it wasn't
pub no_front_told : (told : Option (List ℕ)) (settings : Settings) (number : Option ℕ) (state : State) (first after : Option (List ℕ)) (failed fails : ℕ) (step : Listed) (result : Shown) → state.scanner.place ≡ 0 → state.last ≡ None
    → ended step ≡ Some result → WritesIfRoom (front_of settings) listed.More first after failed fails step → IfSome told (λ file. AnswersShowing settings number file first after result)
no_front_told None settings number state first after failed fails step result place last is wrote = tt
no_front_told (Some file) settings number state first after failed fails step result place last is wrote =
    front_ends settings number file state first after failed fails step result (starts settings number file state place last) is wrote
