-- The replies that a schedule's clients got, and the history of their batches, from what the core shows.
use Rattle.std.specs.Prelude.{◌≡◌, ℕ, suc, List, [], ◌∷◌, ◌++◌, length, map, drop, Option, Some, None, slice_get, MatchOption, Vec}
use Rattle.std.specs.Option.{option_map_or}
use Rattle.std.specs.declared.alloc.Global.{Global}
use Rattle.model_base.specs.Map.{rows_within, value_at}
use Rattle.model_base.specs.Since.{records_in, since}
use Rattle.model_base.specs.History as history
use Rattle.model_core.specs.Core as machine
use Rattle.model_core.specs.Core.{client_at}
use Rattle.model_core.specs.CoreLaw.{IsCore}
use Rattle.model_base.specs.Calls.{Command, commit, get, many, scan, updates}
use Rattle.run_outcome.specs.declared.reply.Reply.{Reply}
use Rattle.run_outcome.specs.declared.reply.Reply.TheVariants as reply
use Rattle.run_outcome.specs.Shows.{found_reply}
use Rattle.run_outcome.specs.declared.history_entry.HistoryEntry.{HistoryEntry}
use Rattle.log_batch.specs.Contents.{Contents}
use Rattle.replay_plans.specs.declared.plan.ClientPlan.{ClientPlan}
use Rattle.replay_core.specs.declared.state.State.{State}
use Rattle.replay_core.specs.declared.writer.CoreReply.{CoreReply}
use Rattle.replay_core.specs.declared.writer.CoreReply.TheVariants.{Accepted, Refused, ReadAt}
use Rattle.replay_plans.specs.Answers.{answers_of}
use Rattle.replay_core.specs.Replies.{AreReplies}
use Rattle.replay_plans.specs.Plans.{records_of}
use Rattle.replay_core.specs.Shown.{CoreEntry}
use Rattle.replay_core.specs.Shows.{Shows}
use Rattle.replay_schedules.specs.Maps.{map_up_to}

-- `is` holds in each state of the machine of events that the core shows
abbrev pub InEachShown : State → (machine.State → Type 0) → Type 0
InEachShown core is = (o : machine.Options) (s : machine.State) → IsCore o s → Shows core o s → is s

-- Replies

-- a read is answered from the map at its sequence, also a read of several keys, and a read of the log from the records
-- of its groups; no other command reads
abbrev pub read_by : machine.State → ℕ → Command → Option Reply
read_by s at (get key) = Some (found_reply at (value_at (map_up_to at s.entries) key))
read_by s at (many keys) = Some (reply.FoundEach at (map (value_at (map_up_to at s.entries)) keys))
read_by s at (scan family lo hi) = Some (reply.Rows at (rows_within family lo hi (map_up_to at s.entries)))
read_by s at (updates n) = Some (reply.Updates at (since n at (records_in [] (machine.log_groups s))))
read_by s at other = None

abbrev pub reply_by : machine.State → Command → CoreReply → Option Reply
reply_by s command (Accepted run) = Some (reply.Accepted run)
reply_by s command (Refused why) = Some (reply.Refused why)
reply_by s command (ReadAt at) = read_by s at command

abbrev pub first_reply : machine.State → Command → List CoreReply → List Reply
first_reply s command [] = []
first_reply s command (r ∷ rs) = option_map_or (λ (said : Reply). said ∷ []) (reply_by s command r) []

-- the reply to the next command, if the command has one by now: only commits and reads have one, the first of the
-- replies that are left
abbrev pub next_reply : machine.State → List CoreReply → Command → List Reply
next_reply s told (commit options) = first_reply s (commit options) told
next_reply s told (get key) = first_reply s (get key) told
next_reply s told (many keys) = first_reply s (many keys) told
next_reply s told (scan family lo hi) = first_reply s (scan family lo hi) told
next_reply s told (updates n) = first_reply s (updates n) told
next_reply s told other = []

-- the replies to these commands: the commits and reads among them have those of `told`, in order
abbrev pub replies_by : machine.State → List Command → List CoreReply → List Reply
replies_by s [] told = []
replies_by s (c ∷ cs) told = next_reply s told c
    ++ replies_by s cs (drop (length (next_reply s told c)) told)

-- the replies that a client got to its commands, by its number
pub record IsTranscript (s : machine.State) (client : ℕ) (commands : List Command) (replies : List Reply) : Type 0 where
  pub told : List CoreReply
  pub is_told : MatchOption (client_at s client) (told ≡ []) (λ c. AreReplies told (answers_of c.calls))
  pub replies_are : replies ≡ replies_by s commands told

-- the replies that the first `count` clients got
pub record AreTranscripts (s : machine.State) (plans : List ClientPlan) (count : ℕ)
    (transcripts : List (Vec Reply Global)) : Type 0 where
  pub each : length transcripts ≡ count
  pub right : (i : ℕ) (plan : ClientPlan) (replies : Vec Reply Global) → slice_get plans i ≡ Some plan
      → slice_get transcripts i ≡ Some replies
      → IsTranscript s (suc i) plan replies.items

-- The history

-- an entry of the core, with its batch
abbrev pub entry_by : List ClientPlan → CoreEntry → HistoryEntry Contents
entry_by plans e = record {
  client = e.client;
  ordinal = e.ordinal;
  run = e.run;
  flag = e.flag;
  batch = record { sequence = e.run.first; records = records_of plans e.client e.batch };
}
