-- A client's calls, one after another.
use Rattle.std.specs.Prelude.{◌≡◌, ◌≢◌, ℕ, ◌≤◌, List, [], ◌∷◌, ◌++◌, length, map, take}
use Rattle.std.specs.List.{AllByRecursion}
use Rattle.model_base.specs.Tokens.{tokens_of}
use Rattle.model_base.specs.Trace.{Trace, Settings}
use Rattle.model_base.specs.Progress.{Progress, fresh}
use Rattle.model_base.specs.Replies.{Replies, MayFindNoMemory}
use Rattle.model_base.specs.Calls.{Command, Reply, no_memory, Call}

-- One call of a client takes it from p to q. What it knows of the controller's history, and of the log's calls, never
-- gets less, and is never more than there is. Of the controller's calls that it then knows of, its own token calls are
-- just those that were answered `done`.
pub record Step (settings : Settings) (trace : Trace) (client : ℕ) (p : Progress) (command : Command) (reply : Reply)
    (q : Progress) : Type 0 where
  pub replies : Replies settings trace client p command reply q
  pub rises : p.known ≤ q.known
  pub within : q.known ≤ length trace.controller_calls
  pub tokens : tokens_of client (take q.known trace.controller_calls) ≡ q.asked
  pub logs_rise : p.logged ≤ q.logged
  pub logs_within : q.logged ≤ length trace.log_calls

-- these calls, one after another, take the client from p to q
abbrev pub Run : Settings → Trace → ℕ → Progress → List Call → Progress → Type 0
Run settings trace client p [] q = q ≡ p
Run settings trace client p (c ∷ calls) q = (m : Progress) × Step settings trace client p c.command c.reply m
    × Run settings trace client m calls q

abbrev pub commands_of : List Call → List Command
commands_of calls = map (λ c. c.command) calls

-- none of these calls was answered `no memory`
abbrev pub NoneWithoutMemory : List Call → Type 0
NoneWithoutMemory calls = AllByRecursion (λ c. c.reply ≢ no_memory) calls

-- The client's calls are its commands with their replies: either all of them, or up to one that was answered `no
-- memory`. `end` is the client's progress after the calls that weren't answered so.
pub data IsTranscript (settings : Settings) (trace : Trace) (client : ℕ) (commands : List Command) (calls : List Call)
    (end : Progress) : Type 0 where
  whole : commands ≡ commands_of calls → Run settings trace client fresh calls end
      → IsTranscript settings trace client commands calls end
  cut_off : (front : List Call) (last : Command) (rest : List Command)
      → calls ≡ front ++ record { command = last; reply = no_memory } ∷ [] → commands ≡ commands_of calls ++ rest
      → Run settings trace client fresh front end → MayFindNoMemory settings end last
      → IsTranscript settings trace client commands calls end
