-- The outcome of a run is legal: its replies are those of a plain map, at points of one history.
use Rattle.std.specs.Prelude.{◌≡◌, ℕ, ◌+◌, ◌≤◌, IsTrue, List, ◌++◌, length, filter, flat_map, [], ◌∷◌, ◌≢◌, ◌<◌, ◌-◌, ◌^◌, ⊤, Option, Some, None, slice_get, ◌==◌, IfSome}
use Rattle.std.specs.List.{AllByRecursion}
use Rattle.model_base.specs.History.{Entry, IsHistory, last_sequence, map_over}
use Rattle.model_base.specs.Counts.{Rose}
use Rattle.model_base.specs.Controller.{ControllerCall}
use Rattle.model_base.specs.Controller.{IsLegal as IsControllerHistory}
use Rattle.model_base.specs.Tokens.{is_token, tokens_of, given_back, AreHeard}
use Rattle.model_base.specs.Trace.{Trace, Settings}
use Rattle.model_base.specs.Attempts.{Attempt}
use Rattle.model_base.specs.Groups.{Group, AreGroups, AreStatuses}
use Rattle.model_base.specs.Progress.{Progress}
use Rattle.model_base.specs.Replies.{IsGivenBack}
use Rattle.model_base.specs.Runs.{IsTranscript}
use Rattle.model_base.specs.Calls.{Command, Reply, read_failed, Call, Outcome}
use Rattle.model_base.specs.LogContents.{AreGroupsOf}

-- the entries of a client
abbrev pub entries_of_client : ℕ → List Entry → List Entry
entries_of_client client entries = filter (λ (e : Entry). e.client == client) entries

abbrev pub IsClient : Settings → ℕ → Type 0
IsClient settings client = (1 ≤ client) × (client ≤ settings.clients)

-- the counts of faults with which reads of the log were answered
abbrev pub read_fault_of : Reply → List ℕ
read_fault_of (read_failed count) = count ∷ []
read_fault_of other = []

abbrev pub read_faults_of : List Call → List ℕ
read_faults_of calls = flat_map (λ (c : Call). read_fault_of c.reply) calls

abbrev pub read_faults_in : List (List Call) → List ℕ
read_faults_in transcripts = flat_map read_faults_of transcripts

-- The disk had reached each of these counts, and none of them is the log's fault or comes twice. That they differ isn't
-- said of the greatest u64, at which the count stays.
abbrev pub AreOwnFaults : ℕ → Option ℕ → List ℕ → Type 0
AreOwnFaults ended fault [] = ⊤
AreOwnFaults ended fault (count ∷ counts) = (count ≤ ended)
    × (count < 2 ^ 64 - 1 → (fault ≢ Some count) × AllByRecursion (λ other. other ≢ count) counts)
    × AreOwnFaults ended fault counts

-- One history of whole batches and one of the controller. Each batch is of a client of the run, and so is each call
-- that takes or gives back a token.
pub record IsTrace (settings : Settings) (trace : Trace) : Type 0 where
  pub start : trace.start ≡ settings.start
  pub opening : trace.opening ≡ settings.opening
  pub kept : trace.kept ≡ settings.kept
  pub entries : IsHistory trace.start trace.entries
  pub logged : AreGroupsOf trace.entries trace.logged
  pub controller_calls : IsControllerHistory trace.controller_calls
  pub heard : AreHeard trace.controller_calls
  pub clients : AllByRecursion (λ (e : Entry). IsClient settings e.client) trace.entries
  pub tokens : AllByRecursion
      (λ (t : ControllerCall). IsTrue (is_token t.action) → IsClient settings t.client) trace.controller_calls

-- A client's calls are right in the trace. Its accepted batches are just its entries there. Its token calls are just
-- those there, with the tokens that it gave back at its end. The number of these calls, too, is no less than what it
-- had been shown, and calls up to them say all of that. Its commits have statuses that agree with the trace.
pub record IsLegalTranscript (settings : Settings) (trace : Trace) (fault : Option ℕ) (client : ℕ)
    (commands : List Command) (calls : List Call) (attempts : List Attempt) : Type 0 where
  pub end : Progress
  pub is_transcript : IsTranscript settings trace client commands calls end
  pub accepted : entries_of_client client trace.entries ≡ end.mine
  pub shown : ℕ
  pub had : end.seen_up_to ≤ shown
  pub said : AllByRecursion (IsGivenBack trace.controller_calls client end.known end.seen_up_to)
      (given_back end.asked shown)
  pub tokens : tokens_of client trace.controller_calls ≡ end.asked ++ given_back end.asked shown
  pub commits : attempts ≡ end.attempts
  pub statuses : AreStatuses trace fault attempts

-- The outcome is legal in this trace, with these commits of each client that leaders took into groups. No reply shows
-- these commits, the controller's history, or the groups that asked it for a delay.
pub record IsLegalIn (settings : Settings) (ended : ℕ) (script : List (List Command)) (trace : Trace)
    (attempts : List (List Attempt)) (o : Outcome) : Type 0 where
  pub is_trace : IsTrace settings trace
  pub history : o.history ≡ trace.entries
  pub clients : settings.clients ≡ length script
  pub count : length o.transcripts ≡ length script
  pub count_attempts : length attempts ≡ length script
  pub groups : List Group
  pub are_groups : AreGroups settings.group_bytes trace.controller_calls groups attempts
  pub each : (i : ℕ) (commands : List Command) (calls : List Call) → slice_get script i ≡ Some commands
      → slice_get o.transcripts i ≡ Some calls
      → (h : List Attempt) × (slice_get attempts i ≡ Some h)
      × IsLegalTranscript settings trace o.fault (i + 1) commands calls h
  pub last : o.last ≡ last_sequence trace.start trace.entries
  pub state : o.state ≡ map_over trace.opening trace.entries
  pub fault : IfSome o.fault (λ count. Rose settings.opened count × (count ≤ ended))
  pub read_faults : AreOwnFaults ended o.fault (read_faults_in o.transcripts)
  -- where neither the log nor a read of it has a fault, the disk has counted none in the run
  pub counted : o.fault ≡ None → read_faults_in o.transcripts ≡ [] → ended ≡ settings.opened

-- the outcome of a trace, with the clients' calls, the last sequence, the lengths of the logs and their fault
abbrev pub outcome_of : Trace → List (List Call) → ℕ → List ℕ → Option ℕ → Outcome
outcome_of trace transcripts last log_lens fault =
    record {
      transcripts = transcripts;
      history = trace.entries;
      last = last;
      state = map_over trace.opening trace.entries;
      log_lens = log_lens;
      fault = fault;
    }

pub record IsLegal (settings : Settings) (ended : ℕ) (script : List (List Command)) (o : Outcome) : Type 0 where
  pub trace : Trace
  pub attempts : List (List Attempt)
  pub legal : IsLegalIn settings ended script trace attempts o
