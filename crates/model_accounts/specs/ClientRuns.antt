-- How a client goes on, call by call, with any write path.
use Rattle.std.specs.Prelude.{◌≡◌, ℕ, ◌+◌, ◌≤◌, List, [], ◌∷◌, ◌++◌, length, Some, slice_get}
use Rattle.std.specs.List.{AllByRecursion}
use Rattle.model_base.specs.Batch.{Record}
use Rattle.model_base.specs.Tokens.{given_back}
use Rattle.model_base.specs.Trace.{Settings}
use Rattle.model_base.specs.Progress.{Progress, fresh}
use Rattle.model_base.specs.Replies.{IsGivenBack, MayFindNoMemory}
use Rattle.model_base.specs.Runs.{Step, Run, IsTranscript}
use Rattle.model_base.specs.Calls.{Command, Reply, Call}
use Rattle.model_base.specs.Outcomes.{read_fault_of, read_faults_of}
use Rattle.model_accounts.specs.Sights.{last_seen, Sees, InEachTrace}
use Rattle.model_accounts.specs.Accounts.{Account, KnowsOwnTokens, Keeps, progress_at}

-- The client gets this reply to this command, and goes from v to w. This is a step in each trace of which it may have
-- seen what it has now seen, whatever it was shown before.
pub record Goes (settings : Settings) (v : Account) (before : List Record) (command : Command) (reply : Reply)
    (w : Account) (after : List Record) : Type 0 where
  pub number : w.number ≡ v.number
  pub read_faults : w.read_faults ≡ v.read_faults ++ read_fault_of reply
  pub seen : Sees v.seen w.seen
  pub tokens : KnowsOwnTokens w
  pub step : (shown : ℕ) → shown ≤ last_seen v.seen → (seen_up_to : ℕ) × (seen_up_to ≤ last_seen w.seen)
      × InEachTrace w.seen (λ trace. Step settings trace v.number (progress_at v before shown) command reply
      (progress_at w after seen_up_to))

-- the client's call found no memory, if it is one that may, and changed nothing
pub record Lacks (settings : Settings) (v : Account) (before : List Record) (command : Command)
    (w : Account) : Type 0 where
  pub keeps : Keeps v w
  pub may : (shown : ℕ) → MayFindNoMemory settings (progress_at v before shown) command

-- the calls, and one more with its reply
abbrev pub with_call : List Call → Command → Reply → List Call
with_call calls command reply = calls ++ record { command = command; reply = reply } ∷ []

-- the client's calls so far brought it to this account and this unfinished batch
pub record Went (settings : Settings) (calls : List Call) (a : Account) (pending : List Record) : Type 0 where
  pub seen_up_to : ℕ
  pub shown : seen_up_to ≤ last_seen a.seen
  pub read_faults : a.read_faults ≡ read_faults_of calls
  pub tokens : KnowsOwnTokens a
  pub run : InEachTrace a.seen (λ trace. Run settings trace a.number fresh calls (progress_at a pending seen_up_to))

-- All calls of a client, as far as it alone can tell: they are a transcript in each trace of which it may have seen
-- what it has seen, and at its end the client has done what its account says. As it gave its tokens back, it had been
-- shown no more than these calls' number, and no more than calls up to them say.
pub record HasRun (settings : Settings) (client : ℕ) (commands : List Command) (calls : List Call)
    (a : Account) : Type 0 where
  pub end : Progress
  pub is_transcript : InEachTrace a.seen (λ trace. IsTranscript settings trace client commands calls end)
  pub number : a.number ≡ client
  pub mine : a.mine ≡ end.mine
  pub shown : ℕ
  pub had : end.seen_up_to ≤ shown
  pub said : InEachTrace a.seen (λ trace. AllByRecursion
      (IsGivenBack trace.controller_calls client end.known end.seen_up_to) (given_back end.asked shown))
  pub asked : a.asked ≡ end.asked ++ given_back end.asked shown
  pub attempts : a.attempts ≡ end.attempts
  pub read_faults : a.read_faults ≡ read_faults_of calls

-- each client has run its part of the script
pub record HaveRun (settings : Settings) (script : List (List Command)) (transcripts : List (List Call))
    (accounts : List Account) : Type 0 where
  pub clients : length accounts ≡ length script
  pub transcripts_of : length transcripts ≡ length script
  pub each : (i : ℕ) (commands : List Command) (calls : List Call) (a : Account)
      → slice_get script i ≡ Some commands → slice_get transcripts i ≡ Some calls → slice_get accounts i ≡ Some a
      → HasRun settings (i + 1) commands calls a
