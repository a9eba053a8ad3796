-- Line after line of a script and its schedule.
use Rattle.std.proofs.Common.{◌≡◌, ℕ, ◌+◌, eqb, cond, List, ◌∷◌, [], ◌++◌, length, fold, Result, Ok, Err, Option, Some, None, is_some, option_copied, Bor, true, false, refl, ap, sym, ◌∙◌, arith}
use Rattle.std.specs.List.{enumerate_from, slice_split}
use Rattle.std.proofs.lemmas.Bool.{ne_eqb}
use Rattle.model_core.specs.declared.event.Event.{Event}
use Rattle.model_core.specs.Schedule as model
use Rattle.model_core.specs.Schedule.{Draft, client_alone, after_line}
use Rattle.model_base.specs.Script.{Fault, Read, ◌>>=◌, Grammar, at_line, without_empty_end, is_passed_over}
use Rattle.run_scripts.specs.declared.lines.LineError.{LineError}
use Rattle.run_scripts.specs.declared.lines.LineError.TheVariants as error
use Rattle.run_scripts.specs.ScriptWords.{parts_of}
use Rattle.run_scripts.specs.ScriptLines.{Reads, error_at}
use Rattle.run_scripts.specs.Schedules.{line_added, event_added, IsScheduleFaultOf}
use Rattle.run_scripts.proofs.ScriptParts.{slice_split-cons}
use Rattle.run_scripts.specs.ReplayLanguage.{replay_grammar, event_words}

-- a word with more after it names no client
pub client_alone-more : (clients : ℕ) (rest : List ℕ) (word : List ℕ) (behind : Option (Bor (List ℕ))) → is_some behind ≡ true → slice_split (λ b. eqb b 32) rest ≡ word ∷ parts_of 32 (option_copied behind) → None ≡ client_alone clients (slice_split (λ b. eqb b 32) rest)
client_alone-more clients rest word None some parts = cc
client_alone-more clients rest word (Some text) some parts =
    let more = slice_split-cons (λ b. eqb b 32) text.now in
    rw (parts, more.2) refl

-- a line with more than one word
pub more_words : (line : List ℕ) (word : List ℕ) (behind : Option (Bor (List ℕ))) → is_some behind ≡ true → slice_split (λ b. eqb b 32) line ≡ word ∷ parts_of 32 (option_copied behind) → eqb (length (slice_split (λ b. eqb b 32) line)) 1 ≡ false
more_words line word None some parts = cc
more_words line word (Some text) some parts =
    let more = slice_split-cons (λ b. eqb b 32) text.now in
    rw (parts, more.2) (ne_eqb _ 1 (omega arith))

-- one more event is one more line
pub with_event_added : (d : Draft) (n : ℕ) (events now : List Event) (l : List ℕ) (r : Result (Unit {0}) LineError) → is_passed_over l ≡ false → d.events ≡ Some events → n ≡ length d.script → Reads {A = Unit {0}} {B = List Event} (λ _. now) (event_added n events l) r
    → Reads {A = Unit {0}} {B = Draft} (λ _. record { script = d.script; events = Some now }) (line_added d l) r
with_event_added d n events now l r said in_schedule clients reads =
    rw (said, in_schedule, ← clients) (of_event (model.event_of n event_words l) r reads)
  where
    of_event : (event : Read Event) (r : Result (Unit {0}) LineError) → Reads {A = Unit {0}} {B = List Event} (λ _. now) (event >>= λ e. Ok (events ++ e ∷ [])) r
        → Reads {A = Unit {0}} {B = Draft} (λ _. record { script = d.script; events = Some now }) (event >>= λ e. Ok (model.with_event d.script events e)) r
    of_event (Ok e) (Ok x) is = ap (λ (es : Read (List Event)). es >>= λ s. Ok (record { script = d.script; events = Some s })) is
    of_event (Ok e) (Err (error.Fault kind)) is = absurd (cc)
    of_event (Err k) (Ok x) is = absurd (cc)
    of_event (Err k) (Err (error.Fault kind)) is = ap (λ (es : Read (List Event)). es >>= λ s. Ok (record { script = d.script; events = Some s })) is
    of_event event (Err error.NoMemory) is = tt

-- a line after others
pub after_line-is : (d : Draft) (n : ℕ) (l : List ℕ) → after_line replay_grammar event_words (Ok d) (n, l) ≡ at_line n (line_added d l)
after_line-is d n l =
    elim (is_passed_over l) as (λ v. cond v (Ok d) (at_line n (model.line_added replay_grammar event_words d.script d.events l)) ≡ at_line n (cond v (Ok d) (model.line_added replay_grammar event_words d.script d.events l))) [ true ↦ refl | false ↦ refl ]

-- after a fault nothing is read
pub fold_after_line-err : (g : Grammar) (words : List model.EventWord) (fault : Fault) (ls : List (ℕ × List ℕ)) → fold (after_line g words) (Err fault) ls ≡ Err fault
fold_after_line-err g words fault [] = refl
fold_after_line-err g words fault (l ∷ ls) = fold_after_line-err g words fault ls

-- an empty line changes nothing
after_line-empty : (g : Grammar) (words : List model.EventWord) (r : Result Draft Fault) (n : ℕ) → r ≡ after_line g words r (n, [])
after_line-empty g words (Ok d) n = refl
after_line-empty g words (Err fault) n = refl

-- what comes after the last line feed is passed over if it is empty
pub fold_after_line-without_empty_end : (g : Grammar) (words : List model.EventWord) (r : Result Draft Fault) (n : ℕ) (ls : List (List ℕ)) → fold (after_line g words) r (enumerate_from n (without_empty_end ls)) ≡ fold (after_line g words) r (enumerate_from n ls)
fold_after_line-without_empty_end g words r n [] = refl
fold_after_line-without_empty_end g words r n ([] ∷ []) = after_line-empty g words r n
fold_after_line-without_empty_end g words r n ((b ∷ bs) ∷ []) = refl
fold_after_line-without_empty_end g words r n (l ∷ m ∷ ls) = fold_after_line-without_empty_end g words (after_line g words r (n, l)) (n + 1) (m ∷ ls)

-- the first fault is that of the first line with one
pub first_fault : (d : Draft) (n : ℕ) (l : List ℕ) (ls : List (List ℕ)) (given : Result Draft Fault) (e : LineError) → Reads {A = Draft} {B = Draft} (λ s. s) (line_added d l) (Err e) → fold (after_line replay_grammar event_words) (Ok d) (enumerate_from n (l ∷ ls)) ≡ given → IsScheduleFaultOf given (error_at n e)
first_fault d n l ls given (error.Fault kind) reads is =
    let faulty : after_line replay_grammar event_words (Ok d) (n, l) ≡ Err (record { line = n; kind = kind }) = after_line-is d n l ∙ ap (at_line n) reads in
    sym is ∙ (ap (λ r. fold (after_line replay_grammar event_words) r (enumerate_from (n + 1) ls)) faulty ∙ fold_after_line-err replay_grammar event_words (record { line = n; kind = kind }) (enumerate_from (n + 1) ls))
first_fault d n l ls given error.NoMemory reads is = tt
