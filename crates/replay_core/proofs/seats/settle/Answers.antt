use Rattle.std.proofs.Common.{◌≡◌, ℕ, List, [], Option, Some, None, refl, sym, subst}
use Rattle.model_core.specs.Core as core
use Rattle.model_core.specs.Step as event
use Rattle.model_base.specs.declared.write.Refusal.{Refusal}
use Rattle.model_base.specs.Batch.{Record}
use Rattle.model_base.specs.Calls.{Reply, accepted, refused, updates_found}
use Rattle.replay_core.specs.declared.writer.Answer.{Answer}
use Rattle.replay_core.specs.Shown.{shown_reply}
use Rattle.replay_core.specs.Mirrors.{IsClient}
use Rattle.replay_core.proofs.seats.settle.Goals as goal

-- only the answer of a read of the log is told with its records
told_accepted : (s : core.State) (since : Option ℕ) (first last : ℕ) (records : List Record) → accepted first last records ≡ core.reply_told s since (accepted first last records)
told_accepted s None first last records = refl
told_accepted s (Some n) first last records = refl

told_refused : (s : core.State) (since : Option ℕ) (why : Refusal) → refused why ≡ core.reply_told s since (refused why)
told_refused s None why = refl
told_refused s (Some n) why = refl

told_read : (s : core.State) (since : Option ℕ) (at : ℕ) → (records : List (List ℕ)) × (updates_found at records ≡ core.reply_told s since (core.read_at at))
told_read s None at = ([], refl)
told_read s (Some n) at = (_, refl)

pub returns-in-Accepted : goal.returns-in-Accepted
returns-in-Accepted c = λ s plan client w records is busy.
    let run' = c.in-Accepted.run' in
    let empty : core.Client = record client { added = [] } in
    let is_empty : IsClient plan c.empty_batch.new.seat empty = c.empty_batch.ensures plan client is in
    let P : Answer → Type 0 = λ a. IsClient plan c.told.new.seat (event.after_completion client w (core.reply_told s w.since (shown_reply records a))) in
    let Q : Reply → Type 0 = λ reply. IsClient plan c.told.new.seat (event.after_completion client w reply) in
    subst P (sym c.in-Accepted.is) (subst Q (told_accepted s w.since run'.first run'.last records) (c.told.ensures plan empty (core.command_of w) (accepted run'.first run'.last records) is_empty busy (refl, refl) refl))

pub returns-in-Refused : goal.returns-in-Refused
returns-in-Refused c = λ s plan client w records is busy.
    let P : Answer → Type 0 = λ a. IsClient plan c.told-in-Refused.new.seat (event.after_completion client w (core.reply_told s w.since (shown_reply records a))) in
    let Q : Reply → Type 0 = λ reply. IsClient plan c.told-in-Refused.new.seat (event.after_completion client w reply) in
    subst P (sym c.in-Refused.is) (subst Q (told_refused s w.since c.in-Refused.why) (c.told-in-Refused.ensures plan client (core.command_of w) (refused c.in-Refused.why) is busy refl refl))

pub returns-in-ReadAt : goal.returns-in-ReadAt
returns-in-ReadAt c = λ s plan client w records is busy.
    let at = c.in-ReadAt.at in
    let P : Answer → Type 0 = λ a. IsClient plan c.told-in-ReadAt.new.seat (event.after_completion client w (core.reply_told s w.since (shown_reply records a))) in
    let Q : Reply → Type 0 = λ reply. IsClient plan c.told-in-ReadAt.new.seat (event.after_completion client w reply) in
    let given = told_read s w.since at in
    subst P (sym c.in-ReadAt.is) (subst Q given.1 (c.told-in-ReadAt.ensures plan client (core.command_of w) (updates_found at given.0) is busy refl refl))
