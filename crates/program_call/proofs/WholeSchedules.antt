-- A text that is a script with a schedule was read to its end.
use Rattle.std.proofs.Common.{◌≡◌, ℕ, ◌≤◌, Bool, true, false, cond, nat_lt, List, [], ◌++◌, length, Option, Some, None, Ok, Err, IfSome, refl, ap, ◌∙◌, arith, append-nil}
use Rattle.std.proofs.lemmas.Bool.{ltb-false}
use Rattle.model_base.specs.declared.limits.TheConstants.{MAX_CLIENTS, TEXT_LIMIT}
use Rattle.model_base.specs.declared.script.ScriptFault.TheVariants.{Long}
use Rattle.model_core.specs.Schedule as model
use Rattle.model_core.specs.Schedule.{schedule_of, lines_read, schedule_of_draft}
use Rattle.run_scripts.specs.declared.schedule.Schedule.{Schedule}
use Rattle.run_scripts.specs.Schedules as parsed
use Rattle.run_scripts.specs.Scripts.{FitsBatches, HasClientsCommands}
use Rattle.program_call.specs.Reading.{HasRead, HasSchedule}
use Rattle.run_scripts.specs.ReplayLanguage.{replay_grammar, event_words}

-- a longer text has a fault
said_len : (text : List ℕ) (s : model.Schedule) → schedule_of replay_grammar event_words text ≡ Ok s → length text ≤ TEXT_LIMIT
said_len text s e = by_test (nat_lt TEXT_LIMIT (length text)) refl e
  where
    by_test : (b : Bool) → nat_lt TEXT_LIMIT (length text) ≡ b → cond b (Err (record { line = 0; kind = Long })) (schedule_of_draft (lines_read replay_grammar event_words text)) ≡ Ok s → length text ≤ TEXT_LIMIT
    by_test true is e = absurd (cc e)
    by_test false is e = let a = ltb-false TEXT_LIMIT (length text) is in omega (arith, a)

whole : (old new : Option (List ℕ)) (text : List ℕ) (s : model.Schedule) → HasRead old new text → length text ≤ TEXT_LIMIT → schedule_of replay_grammar event_words text ≡ Ok s
    → IfSome old (λ t. schedule_of replay_grammar event_words t ≡ Ok s)
whole None new text s has short e = tt
whole (Some xs) None text s has short e = absurd has.consumed
whole (Some xs) (Some ys) text s has short e =
    let none : ys ≡ [] = has.whole short in
    let same : xs ≡ text = has.consumed ∙ ap (λ r. text ++ r) none ∙ append-nil text in
    ap (schedule_of replay_grammar event_words) same ∙ e

pub has_schedule : (old new : Option (List ℕ)) (text : List ℕ) (s : Schedule) → HasRead old new text → schedule_of replay_grammar event_words text ≡ Ok (parsed.schedule_of s)
    → (1 ≤ length s.script.clients.items) × (length s.script.clients.items ≤ MAX_CLIENTS) → FitsBatches s.script → HasClientsCommands s.script → HasSchedule old new s
has_schedule old new text s has e clients fits commands =
    let short = said_len text (parsed.schedule_of s) e in
    record {
      said = whole old new text (parsed.schedule_of s) has short e;
      ended = has.whole short;
      clients = clients;
      fits = fits;
      commands = commands;
    }
