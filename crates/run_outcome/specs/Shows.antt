-- The replies, the entries and the outcome of the model that the code's values show. The records of an accepted batch
-- are in no value of a reply.
use Rattle.std.specs.Prelude.{◌≡◌, ℕ, Bool, true, false, not, List, [], ◌∷◌, ◌++◌, Option, Some, None, filter}
use Rattle.std.specs.List.{AllZip, list_any}
use Rattle.model_base.specs.Batch.{Record}
use Rattle.model_base.specs.Map.{Pairs}
use Rattle.model_base.specs.History as history
use Rattle.model_base.specs.Calls as calls
use Rattle.log_batch.specs.Contents.{Contents}
use Rattle.run_outcome.specs.declared.reply.Reply.{Reply}
use Rattle.run_outcome.specs.declared.reply.Reply.TheVariants.{Accepted, Refused, Found, Nothing, FoundEach, Rows, Updates, ReadFault, Done, Held, NotHeld, NoMemory}
use Rattle.run_outcome.specs.declared.history_entry.HistoryEntry.{HistoryEntry}
use Rattle.run_outcome.specs.declared.outcome.Outcome.{Outcome}

abbrev pub lacks_memory : Reply → Bool
lacks_memory NoMemory = true
lacks_memory (Accepted run) = false
lacks_memory (Refused why) = false
lacks_memory (Found at value) = false
lacks_memory (Nothing at) = false
lacks_memory (FoundEach at values) = false
lacks_memory (Rows at rows) = false
lacks_memory (Updates at records) = false
lacks_memory (ReadFault count) = false
lacks_memory Done = false
lacks_memory Held = false
lacks_memory NotHeld = false

-- the reply to a read of a key at a sequence
abbrev pub found_reply : ℕ → Option (List ℕ) → Reply
found_reply at None = Nothing at
found_reply at (Some value) = Found at value

-- the value shows the call's reply, whatever its command; a command that adds to a batch or empties it has none
abbrev pub ShowsReply : Reply → calls.Call → Type 0
ShowsReply (Accepted run) c = (records : List Record) × (c.reply ≡ calls.accepted run.first run.last records)
ShowsReply (Refused why) c = c.reply ≡ calls.refused why
ShowsReply (Found at value) c = c.reply ≡ calls.found at (Some value)
ShowsReply (Nothing at) c = c.reply ≡ calls.found at None
ShowsReply (FoundEach at values) c = c.reply ≡ calls.found_each at values
ShowsReply (Rows at rows) c = c.reply ≡ calls.rows at rows
ShowsReply (Updates at records) c = c.reply ≡ calls.updates_found at records
ShowsReply (ReadFault count) c = c.reply ≡ calls.read_failed count
ShowsReply Done c = c.reply ≡ calls.done
ShowsReply Held c = c.reply ≡ calls.held
ShowsReply NotHeld c = c.reply ≡ calls.not_held
ShowsReply NoMemory c = c.reply ≡ calls.no_memory

abbrev pub is_quiet : calls.Reply → Bool
is_quiet calls.quiet = true
is_quiet other = false

-- those of a client's calls that have a reply
abbrev pub with_replies : List calls.Call → List calls.Call
with_replies cs = filter (λ (c : calls.Call). not (is_quiet c.reply)) cs

abbrev pub ShowsReplies : List Reply → List calls.Call → Type 0
ShowsReplies replies cs = AllZip ShowsReply replies (with_replies cs)

pub record ShowsEntry (shown : HistoryEntry Contents) (e : history.Entry) : Type 0 where
  pub client : e.client ≡ shown.client
  pub ordinal : e.ordinal ≡ shown.ordinal
  pub first : e.first ≡ shown.run.first
  pub last : history.last_of e ≡ shown.run.last
  pub flag : e.flag ≡ shown.flag
  pub batch : shown.batch ≡ record { sequence = e.first; records = e.records }

pub record ShowsOutcome (shown : Outcome Pairs) (o : calls.Outcome) : Type 0 where
  pub transcripts : AllZip (λ v. ShowsReplies v.items) shown.transcripts.items o.transcripts
  pub history : AllZip ShowsEntry shown.history o.history
  pub last : o.last ≡ shown.last
  pub state : o.state ≡ shown.state
  pub log_lens : o.log_lens ≡ shown.full_lens.items ++ shown.log_len ∷ []
  pub fault : o.fault ≡ shown.fault

-- a client ran out of memory
abbrev pub ran_short : {M : Type 0} → Outcome M → Bool
ran_short shown = list_any (λ v. list_any lacks_memory v.items) shown.transcripts.items

-- a client's read of the log failed
abbrev pub is_read_fault : Reply → Bool
is_read_fault (ReadFault count) = true
is_read_fault (Accepted run) = false
is_read_fault (Refused why) = false
is_read_fault (Found at value) = false
is_read_fault (Nothing at) = false
is_read_fault (FoundEach at values) = false
is_read_fault (Rows at rows) = false
is_read_fault (Updates at records) = false
is_read_fault Done = false
is_read_fault Held = false
is_read_fault NotHeld = false
is_read_fault NoMemory = false

abbrev pub has_read_fault : {M : Type 0} → Outcome M → Bool
has_read_fault shown = list_any (λ v. list_any is_read_fault v.items) shown.transcripts.items
