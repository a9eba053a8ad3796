-- The text of what a run's values show, part by part.
use Rattle.std.specs.Prelude.{ℕ, List, [], ◌∷◌, ◌++◌, ◌==◌, if◌then◌else◌, length, flat_map, codes, decimal, Vec, Some, None}
use Rattle.std.specs.List.{enumerate_from}
use Rattle.std.specs.declared.alloc.Global.{Global}
use Rattle.model_base.specs.Batch.{batch}
use Rattle.model_base.specs.Calls as calls
use Rattle.model_base.specs.declared.log.EndReason.{EndReason}
use Rattle.model_base.specs.Text.{line, hex, reply_text, flag_word, key_words, state_text, log_text, hex_word, end_words}
use Rattle.run_outcome.specs.declared.reply.Reply.{Reply}
use Rattle.run_outcome.specs.declared.reply.Reply.TheVariants.{Accepted, Refused, Found, Nothing, FoundEach, Rows, Updates, ReadFault, Done, Held, NotHeld, NoMemory}
use Rattle.run_outcome.specs.declared.history_entry.HistoryEntry.{HistoryEntry}
use Rattle.run_outcome.specs.declared.outcome.Outcome.{Outcome}
use Rattle.log_recovery.specs.declared.kept.GroupNote.{GroupNote}
use Rattle.log_recovery.specs.declared.recovery.Recovered.{Recovered}
use Rattle.log_recovery.specs.declared.many.RecoveredMany.{RecoveredMany}
use Rattle.replay_core.specs.declared.step.Counts.{Counts}
use Rattle.replay_schedules.specs.declared.replaying.Replayed.{Replayed}
use Rattle.model_base.specs.declared.key.Key.{Key}
use Rattle.model_base.specs.Map.{Pairs}
use Rattle.log_batch.specs.Contents.{Contents}

-- a key or a value as it is
abbrev pub plain : List ℕ → List ℕ
plain w = w

-- a line with a key of the default family and its value, each printed as `word` says
abbrev pub row_line : (List ℕ → List ℕ) → List ℕ × List ℕ → List ℕ
row_line word r = line (word r.0 ∷ word r.1 ∷ [])

-- what comes before a key: its family's number and a space, unless it is of the default family
abbrev pub family_front : ℕ → List ℕ
family_front family = if family == 0 then [] else decimal family ++ codes " "

-- a line with a key of any family and its value
abbrev pub pair_line : (List ℕ → List ℕ) → Key × List ℕ → List ℕ
pair_line word p = line (key_words word p.0 ++ word p.1 ∷ [])

abbrev pub pair_words : List ℕ × List ℕ → List (List ℕ)
pair_words p = p.0 ∷ p.1 ∷ []

-- a reply as it is shown; its text doesn't have the records
abbrev pub shown_reply : Reply → calls.Reply
shown_reply (Accepted run) = calls.accepted run.first run.last []
shown_reply (Refused why) = calls.refused why
shown_reply (Found at value) = calls.found at (Some value)
shown_reply (Nothing at) = calls.found at None
shown_reply (FoundEach at values) = calls.found_each at values
shown_reply (Rows at rows) = calls.rows at rows
shown_reply (Updates at records) = calls.updates_found at records
shown_reply (ReadFault count) = calls.read_failed count
shown_reply Done = calls.done
shown_reply Held = calls.held
shown_reply NotHeld = calls.not_held
shown_reply NoMemory = calls.no_memory

abbrev pub reply_line : Reply → List ℕ
reply_line r = reply_text (shown_reply r)

-- a client's section, from the client's number and replies
abbrev pub client_lines : ℕ × Vec Reply Global → List ℕ
client_lines p = line (codes "client" ∷ decimal p.0 ∷ []) ++ flat_map reply_line p.1.items

abbrev pub clients_lines : List (Vec Reply Global) → List ℕ
clients_lines transcripts = flat_map client_lines (enumerate_from 1 transcripts)

-- the line of a batch with these bytes
abbrev pub line_of : {B : Type 0} → HistoryEntry B → List ℕ → List ℕ
line_of e bytes =
    line (decimal e.run.first ∷ decimal e.run.last ∷ decimal e.client ∷ decimal e.ordinal ∷ flag_word e.flag
    ∷ hex bytes ∷ [])

abbrev pub entry_line : HistoryEntry Contents → List ℕ
entry_line e = line_of e (batch e.batch.sequence e.batch.records)

abbrev pub history_lines : List (HistoryEntry Contents) → List ℕ
history_lines entries = line (codes "history" ∷ decimal (length entries) ∷ []) ++ flat_map entry_line entries

abbrev pub shown_text : Outcome Pairs → List ℕ
shown_text v = clients_lines v.transcripts.items ++ history_lines v.history
    ++ state_text plain v.last v.state ++ log_text (v.full_lens.items ++ v.log_len ∷ []) v.fault

abbrev pub group_line : GroupNote → List ℕ
group_line g = line (decimal g.first ∷ decimal g.count ∷ decimal g.size ∷ [])

abbrev pub groups_lines : List GroupNote → List ℕ
groups_lines groups = line (codes "groups" ∷ decimal (length groups) ∷ []) ++ flat_map group_line groups

-- where recovery ended, and why
abbrev pub end_line : ℕ → EndReason → List ℕ
end_line at why = line (codes "end" ∷ decimal at ∷ end_words why)

abbrev pub shown_recovered_text : Recovered → List ℕ
shown_recovered_text v = groups_lines v.groups.items ++ state_text hex_word v.last v.map
    ++ end_line v.end.at v.end.why

-- the same of several logs, with the number of the log in which recovery ended
abbrev pub shown_recovered_logs_text : RecoveredMany → List ℕ
shown_recovered_logs_text v = groups_lines v.groups.items ++ state_text hex_word v.last v.map
    ++ line (codes "end" ∷ decimal v.log ∷ decimal v.end.at ∷ end_words v.end.why)

-- how many events were taken, and how many were skipped
abbrev pub counts_line : Counts → List ℕ
counts_line counts = line (codes "events" ∷ decimal counts.taken ∷ codes "skipped" ∷ decimal counts.skipped ∷ [])

abbrev pub shown_replayed_text : Replayed → List ℕ
shown_replayed_text v = counts_line v.counts ++ clients_lines v.transcripts.items ++ history_lines v.history.items
    ++ state_text plain v.last v.map ++ line (codes "groups" ∷ decimal v.groups ∷ [])
