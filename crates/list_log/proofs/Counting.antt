-- What is counted of a file, step by step.
use Rattle.std.proofs.Common.{◌≡◌, ℕ, Bool, List, [], ◌++◌, Option, Some, None, Result, Ok, Err, IfOk, IfErr, OnOk, IfSome, unwrap_or, refl, sym, ◌∙◌, ap, subst, inl, inr}
use Rattle.batch_operations.specs.Shown.{ShownRecord, Shows}
use Rattle.log_scan.specs.Scanner.{AnswersScan, HasFault, FindsRecord, IsAt, IsGoing, ScannerState, WhereItGoesOn, unread_before}
use Rattle.log_scan.specs.Scanning.{Item, Ends, Finds, found_none, items_with}
use Rattle.log_scan.specs.declared.scanner.Found.{Found}
use Rattle.log_scan.specs.declared.scanner.Found.TheVariants as found
use Rattle.log_scan.specs.declared.scanner.Lost.{Lost}
use Rattle.log_scan.specs.declared.scanner.Unread.{Unread}
use Rattle.list_log.specs.Totals as totals
use Rattle.list_log.specs.Totals.{AnswersSummary, AreTotals, CountsAll, CountsFound, IsCountError, WritesTotals, counted_end, nothing, totals_text, with_record, with_stretch, with_unread}
use Rattle.list_log.specs.declared.settings.Settings.{Settings}
use Rattle.list_log.specs.declared.showing.Shown.{Shown}
use Rattle.list_log.specs.declared.summary.CountError.{CountError}
use Rattle.list_log.specs.declared.summary.CountError.TheVariants as failed
use Rattle.list_log.specs.declared.totals.Totals.{Totals}
use Rattle.list_log.proofs.Joined.{finds_join}
use Rattle.list_log.proofs.Stepped.{finds_one}

totals_join : (settings : Settings) (t mid after : Totals) (a b : List Item) → AreTotals settings t a mid → AreTotals settings mid b after → AreTotals settings t (a ++ b) after
totals_join settings t mid after a b totals.no_totals second = second
totals_join settings t mid after a b (totals.with_one {items = items} {shown = shown} shows rest) second = totals.with_one shows (totals_join settings (with_record settings shown t) mid after items b rest second)
totals_join settings t mid after a b (totals.with_skipped {u = u} {items = items} rest) second = totals.with_skipped (totals_join settings (with_stretch u t) mid after items b rest second)

items_totals : (settings : Settings) (t : Totals) (lost : Option Lost) (from start end : ℕ) (bytes : List ℕ) (shown : ShownRecord) → Shows bytes shown
    → AreTotals settings t (items_with lost from start end bytes) (with_record settings shown (with_unread (unread_before lost from start) t))
items_totals settings t None from start end bytes shown shows = totals.with_one shows totals.no_totals
items_totals settings t (Some lost) from start end bytes shown shows = totals.with_skipped (totals.with_one shows totals.no_totals)

-- what was counted up to a place
abbrev pub CountsTo : Settings → Option ℕ → List ℕ → Totals → ℕ → Totals → Type 0
CountsTo settings number file first place t = (items : List Item) × Finds number settings.scan file 0 items place × AreTotals settings first items t

counts_start : (settings : Settings) (number : Option ℕ) (file : List ℕ) (first : Totals) (place : ℕ) → place ≡ 0 → CountsTo settings number file first place first
counts_start settings number file first place start = ([], subst (λ (p : ℕ). Finds number settings.scan file 0 [] p) (sym start) found_none, totals.no_totals)

one_record : (settings : Settings) (number : Option ℕ) (file : List ℕ) (old new : ScannerState) (first t after : Totals) (unread : Option Unread) (start end : ℕ) → old.number ≡ number → old.goes_on ≡ settings.scan
    → IsAt file old → FindsRecord file old new unread start end → CountsFound settings (found.Record unread start end) new.reader.in_hand t after → CountsTo settings number file first old.place t
    → CountsTo settings number file first new.place after
one_record settings number file old new first t after unread start end number_is goes_on at found counts so_far =
    let items = items_with old.lost old.place start end new.reader.in_hand in
    let finds = subst (λ (n : Option ℕ). Finds n settings.scan file old.place items new.place) number_is
    (subst (λ (g : Bool). Finds old.number g file old.place items new.place) goes_on (finds_one file old new unread start end at found)) in
    let after_is : after ≡ with_record settings counts.0 (with_unread (unread_before old.lost old.place start) t) = counts.2 ∙ ap (λ (u : Option Unread). with_record settings counts.0 (with_unread u t)) found.stretch in (
      so_far.0 ++ items,
      finds_join number settings.scan file 0 old.place new.place so_far.0 items so_far.1 finds,
      totals_join settings first t after so_far.0 items so_far.2
          (subst (AreTotals settings t items) (sym after_is) (items_totals settings t old.lost old.place start end new.reader.in_hand counts.0 counts.1)),
    )

-- one more step
counts_on : (settings : Settings) (number : Option ℕ) (file : List ℕ) (old new : ScannerState) (first t after : Totals) (step : Found) → old.number ≡ number → old.goes_on ≡ settings.scan → IsAt file old
    → counted_end step ≡ None → AnswersScan file old new step → CountsFound settings step new.reader.in_hand t after → CountsTo settings number file first old.place t → CountsTo settings number file first new.place after
counts_on settings number file old new first t after (found.Record unread start end) number_is goes_on at on answers counts so_far =
    one_record settings number file old new first t after unread start end number_is goes_on at answers counts so_far
counts_on settings number file old new first t after found.Passed number_is goes_on at on answers counts so_far =
    subst (λ (p : ℕ). CountsTo settings number file first p after) (sym answers) (subst (CountsTo settings number file first old.place) (sym counts) so_far)
counts_on settings number file old new first t after (found.End a why) number_is goes_on at on answers counts so_far = absurd (cc on)
counts_on settings number file old new first t after (found.Fault count) number_is goes_on at on answers counts so_far = absurd (cc on)
counts_on settings number file old new first t after found.NoMemory number_is goes_on at on answers counts so_far = absurd (cc on)

became : (x y : Result Lost CountError) → Some x ≡ Some y → x ≡ y
became x y same = ap (λ (o : Option (Result Lost CountError)). unwrap_or o x) same

-- the last one
counts_at_end : (settings : Settings) (number : Option ℕ) (file : List ℕ) (old new : ScannerState) (first t : Totals) (step : Found) (end : Result Lost CountError) → old.number ≡ number → old.goes_on ≡ settings.scan
    → counted_end step ≡ Some end → AnswersScan file old new step → CountsTo settings number file first old.place t → IfOk end (CountsAll settings number file first t)
counts_at_end settings number file old new first t (found.Record stretch start last) end number_is goes_on is answers so_far = absurd (cc is)
counts_at_end settings number file old new first t found.Passed end number_is goes_on is answers so_far = absurd (cc is)
counts_at_end settings number file old new first t (found.End at why) end number_is goes_on is answers so_far =
    let ends = subst (λ (n : Option ℕ). Ends n settings.scan file old.place at why) number_is (subst (λ (g : Bool). Ends old.number g file old.place at why) goes_on answers) in
    subst (λ (e : Result Lost CountError). IfOk e (CountsAll settings number file first t)) (became (Ok (record { at = at; why = why })) end is)
    (record { items = so_far.0; is = record { place = old.place; finds = so_far.1; ends = ends }; are = so_far.2 })
counts_at_end settings number file old new first t (found.Fault count) end number_is goes_on is answers so_far =
    subst (λ (e : Result Lost CountError). IfOk e (CountsAll settings number file first t)) (became (Err (failed.Fault count)) end is) tt
counts_at_end settings number file old new first t found.NoMemory end number_is goes_on is answers so_far =
    subst (λ (e : Result Lost CountError). IfOk e (CountsAll settings number file first t)) (became (Err failed.NoMemory) end is) tt

-- what holds where counting goes on
pub goes : (step : Found) (P : Type 0) → counted_end step ≡ None → WhereItGoesOn step P → P
goes (found.Record unread start end) P is p = p
goes found.Passed P is p = p
goes (found.End at why) P is p = absurd (cc is)
goes (found.Fault count) P is p = absurd (cc is)
goes found.NoMemory P is p = absurd (cc is)

pub unfailed : (step : Found) (before now : ℕ) → counted_end step ≡ None → HasFault before now step → now ≡ before
unfailed (found.Record unread start end) before now is same = same
unfailed found.Passed before now is same = same
unfailed (found.End at why) before now is same = absurd (cc is)
unfailed (found.Fault count) before now is same = absurd (cc is)
unfailed found.NoMemory before now is same = absurd (cc is)

abbrev Caused : ℕ → ℕ → Result Lost CountError → Type 0
Caused before now end = OnOk end (now ≡ before) × IfErr end (IsCountError before now)

pub failed_at_end : (step : Found) (end : Result Lost CountError) (before now : ℕ) → counted_end step ≡ Some end → HasFault before now step → Caused before now end
failed_at_end (found.Record unread start last) end before now is fault = absurd (cc is)
failed_at_end found.Passed end before now is fault = absurd (cc is)
failed_at_end (found.End at why) end before now is fault = subst (Caused before now) (became (Ok (record { at = at; why = why })) end is) (fault, tt)
failed_at_end (found.Fault count) end before now is fault = subst (Caused before now) (became (Err (failed.Fault count)) end is) (tt, fault)
failed_at_end found.NoMemory end before now is fault = subst (Caused before now) (became (Err failed.NoMemory) end is) (tt, fault)

-- ---- of a file that is known

pub at_start : (told : Option (List ℕ)) (s : ScannerState) → ((file : List ℕ) → IsAt file s) → IfSome told (λ file. IsAt file s)
at_start None s at = tt
at_start (Some file) s at = at file

pub counted_start : (told : Option (List ℕ)) (settings : Settings) (number : Option ℕ) (first : Totals) (place : ℕ) → place ≡ 0 → IfSome told (λ file. CountsTo settings number file first place first)
counted_start None settings number first place start = tt
counted_start (Some file) settings number first place start = counts_start settings number file first place start

-- what a step answers of the file
abbrev Answered : ScannerState → ScannerState → Found → Option (List ℕ) → Type 0
Answered old new step before = IfSome before (λ file. IsAt file old → IsGoing old → AnswersScan file old new step)

abbrev StaysAt : ScannerState → ScannerState → Found → Option (List ℕ) → Type 0
StaysAt old new step before = IfSome before (λ file. IsAt file old → IsGoing old → WhereItGoesOn step (IsAt file new))

pub at_next : (told before : Option (List ℕ)) (old new : ScannerState) (step : Found) → before ≡ told → IsGoing old → counted_end step ≡ None → StaysAt old new step before → IfSome told (λ file. IsAt file old)
    → IfSome told (λ file. IsAt file new)
at_next None before old new step same going on stays at = tt
at_next (Some file) before old new step same going on stays at = goes step (IsAt file new) on (subst (StaysAt old new step) same stays at going)

pub counted_next : (told before : Option (List ℕ)) (settings : Settings) (number : Option ℕ) (old new : ScannerState) (first t after : Totals) (step : Found) (bytes : List ℕ) → before ≡ told → old.number ≡ number → old.goes_on ≡ settings.scan
    → IsGoing old → counted_end step ≡ None → Answered old new step before → bytes ≡ new.reader.in_hand → CountsFound settings step bytes t after → IfSome told (λ file. IsAt file old)
    → IfSome told (λ file. CountsTo settings number file first old.place t) → IfSome told (λ file. CountsTo settings number file first new.place after)
counted_next None before settings number old new first t after step bytes same number_is goes_on going on answers in_hand counts at so_far = tt
counted_next (Some file) before settings number old new first t after step bytes same number_is goes_on going on answers in_hand counts at so_far =
    counts_on settings number file old new first t after step number_is goes_on at on (subst (Answered old new step) same answers at going) (subst (λ (b : List ℕ). CountsFound settings step b t after) in_hand counts) so_far

pub counted_last : (told before : Option (List ℕ)) (settings : Settings) (number : Option ℕ) (old new : ScannerState) (first t : Totals) (step : Found) (end : Result Lost CountError) → before ≡ told → old.number ≡ number → old.goes_on ≡ settings.scan
    → IsGoing old → counted_end step ≡ Some end → Answered old new step before → IfSome told (λ file. IsAt file old) → IfSome told (λ file. CountsTo settings number file first old.place t)
    → IfSome told (λ file. IfOk end (CountsAll settings number file first t))
counted_last None before settings number old new first t step end same number_is goes_on going is answers at so_far = tt
counted_last (Some file) before settings number old new first t step end same number_is goes_on going is answers at so_far =
    counts_at_end settings number file old new first t step end number_is goes_on is (subst (Answered old new step) same answers at going) so_far

-- ---- what is written of it

summarizes : (settings : Settings) (number : Option ℕ) (file : List ℕ) (t : Totals) (end : Lost) (before after : Option (List ℕ)) (sink fails : ℕ) (result : Shown) → CountsAll settings number file nothing t end
    → WritesTotals (totals_text settings t end.at end.why) end.at end.why before after sink fails result → AnswersSummary settings number file before after result
summarizes settings number file t end before after sink fails result counts (inl done) =
    subst (AnswersSummary settings number file before after) (sym done.0)
    (totals_text settings t end.at end.why, record { scan = record { items = counts.items; at = end.at; why = end.why }; is = counts.is; totals = t; are = counts.are; text_is = refl }, refl, refl, done.1)
summarizes settings number file t end before after sink fails result counts (inr (inl broke)) =
    subst (AnswersSummary settings number file before after) (sym broke.0)
    (totals_text settings t end.at end.why, broke.2.0, record { scan = record { items = counts.items; at = end.at; why = end.why }; is = counts.is; totals = t; are = counts.are; text_is = refl }, broke.2.1)
summarizes settings number file t end before after sink fails result counts (inr (inr none)) = subst (AnswersSummary settings number file before after) (sym none.0) none.1

pub summarized : (told : Option (List ℕ)) (settings : Settings) (number : Option ℕ) (old t : Totals) (end : Lost) (before after : Option (List ℕ)) (sink fails : ℕ) (result : Shown) → old ≡ nothing
    → IfSome told (λ file. CountsAll settings number file old t end) → WritesTotals (totals_text settings t end.at end.why) end.at end.why before after sink fails result
    → IfSome told (λ file. AnswersSummary settings number file before after result)
summarized None settings number old t end before after sink fails result none counts writes = tt
summarized (Some file) settings number old t end before after sink fails result none counts writes =
    summarizes settings number file t end before after sink fails result (subst (λ (o : Totals). CountsAll settings number file o t end) none counts) writes
