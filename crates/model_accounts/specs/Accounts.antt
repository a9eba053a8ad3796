-- What the calls of a write path say about one client.
use Rattle.std.specs.Prelude.{◌≡◌, ◌⊎◌, ℕ, ◌+◌, ◌<◌, ◌≤◌, Bool, false, List, [], ◌∷◌, ◌++◌, length, take, Option, None, IfSome, MatchOption}
use Rattle.std.specs.List.{AllByRecursion}
use Rattle.model_base.specs.declared.write.WriteOptions.{WriteOptions}
use Rattle.model_base.specs.declared.write.Refusal.{Refusal}
use Rattle.model_base.specs.declared.write.Refusal.TheVariants.{NoMemory}
use Rattle.model_base.specs.Batch.{Record, count_of}
use Rattle.model_base.specs.History.{Entry}
use Rattle.model_base.specs.Map.{Pairs}
use Rattle.model_base.specs.Controller.{Action, hear}
use Rattle.model_base.specs.Tokens.{tokens_of, holds_stop, given_back, shown_by_token, shown_by_tokens, said_in}
use Rattle.model_base.specs.Counts.{Rose}
use Rattle.model_base.specs.Trace.{Settings}
use Rattle.model_base.specs.Attempts.{Attempt, succeeded, Fate, fate_at, with_attempt, knows_log_failed}
use Rattle.model_base.specs.Progress.{Progress, next_entry, early_refusal}
use Rattle.model_base.specs.Replies.{IsLater, IsWithinCall, WentToGroup, AreFullBelow, MayRefuse, IsKeptOut, IsGivenBack}
use Rattle.model_accounts.specs.Sights.{Sight, unseen, last_seen, map_seen, Sees}

-- One client: its accepted batches, for each of them the last sequence of its group, its calls of the controller that
-- were answered `done`, its commits that leaders took into their groups, the counts of faults with which its reads of
-- the log failed, and what it has seen of the run
pub record Account : Type 0 where
  pub number : ℕ
  pub mine : List Entry
  pub ends : List ℕ
  pub asked : List Action
  pub attempts : List Attempt
  pub read_faults : List ℕ
  pub seen : Sight

abbrev pub newcomer : ℕ → Pairs → ℕ → Account
newcomer start opening number = record {
  number = number;
  mine = [];
  ends = [];
  asked = [];
  attempts = [];
  read_faults = [];
  seen = unseen start opening;
}

-- the progress of a client that has this account, has `pending` as its unfinished batch, and was shown what is
-- published up to `seen_up_to`
abbrev pub progress_at : Account → List Record → ℕ → Progress
progress_at a pending seen_up_to = record {
  pending = pending;
  mine = a.mine;
  asked = a.asked;
  attempts = a.attempts;
  seen_up_to = seen_up_to;
  known = length a.seen.controller_calls;
  logged = a.seen.logged;
}

-- of the controller's calls that the client knows of, its own token calls are just those that were answered `done`
abbrev pub KnowsOwnTokens : Account → Type 0
KnowsOwnTokens a = tokens_of a.number a.seen.controller_calls ≡ a.asked

-- from v to w the client has done nothing more, and has seen no less
pub record Keeps (v w : Account) : Type 0 where
  pub number : w.number ≡ v.number
  pub mine : w.mine ≡ v.mine
  pub ends : w.ends ≡ v.ends
  pub asked : w.asked ≡ v.asked
  pub attempts : w.attempts ≡ v.attempts
  pub read_faults : w.read_faults ≡ v.read_faults
  pub seen : Sees v.seen w.seen
  pub tokens : KnowsOwnTokens w

-- One more of the client's batches went into the log. Which call of the log writer wrote it shows at the closing, as
-- with all that a client has seen.
abbrev pub IsLogged : Account → Account → List Record → Bool → ℕ → Type 0
IsLogged v w records sync first = w.seen.batches ≡ v.seen.batches
    ++ record {
      knew = v.seen.logged;
      knows = w.seen.logged;
      first = first;
      records = records;
      sync = sync;
    } ∷ []

-- A batch was accepted: one entry more. It had passed the early checks, and the client held no stop token and didn't
-- know of a fault of the log. Its run is above all that the client had seen published, and above each sequence after
-- which there was no room for an earlier batch of this client. The delay of its group is within the call, and so is all
-- by which its leader decided that the group goes on. Nobody who took a token or gave one back before the leader
-- decided had been shown the batch. By the delay, calls of the controller had said all that the client had seen
-- published before. A batch that goes into the log was written by a call of the log writer that has returned. The
-- client has now seen the batch's group published, up to the group's end.
pub record Wrote (settings : Settings) (v : Account) (records : List Record) (how : WriteOptions) (first group_last : ℕ)
    (w : Account) : Type 0 where
  pub number : w.number ≡ v.number
  pub mine : w.mine ≡ v.mine ++ next_entry v.number v.mine how first records ∷ []
  pub ends : w.ends ≡ v.ends ++ group_last ∷ []
  pub asked : w.asked ≡ v.asked
  pub place : ℕ
  pub decided : ℕ
  pub attempts : w.attempts ≡ with_attempt v.attempts records how (fate_at place decided succeeded)
  pub within_call : IsWithinCall (length v.seen.controller_calls) (length w.seen.controller_calls) place decided
  pub unseen : shown_by_tokens (take decided w.seen.controller_calls) < first
  pub said : last_seen v.seen ≤ said_in (take (place + 1) w.seen.controller_calls)
  pub logged : how.no_log ≡ false → IsLogged v w records how.sync first
  pub read_faults : w.read_faults ≡ v.read_faults
  pub seen : Sees v.seen w.seen
  pub tokens : KnowsOwnTokens w
  pub some : 1 ≤ count_of records
  pub passed : early_refusal settings.families settings.batch_bytes (holds_stop v.asked) records how ≡ None
  pub free : holds_stop v.asked ≡ false
  pub above : last_seen v.seen < first
  pub behind : AreFullBelow first v.attempts
  pub alive : knows_log_failed v.attempts ≡ false
  pub within : first + count_of records ≤ group_last + 1
  pub reached : group_last ≤ last_seen w.seen

-- A commit that passed the early checks was refused, and its batch has no run. Where the client held a stop token it
-- was in no group. Any other commit was in no group only if it met a stall. If it was in a group, the delay of that
-- group is within the call, and so is all by which its leader decided; and by the delay, calls of the controller had
-- said all that the client had seen published before.
pub record IsRefused (v : Account) (records : List Record) (how : WriteOptions) (why : Refusal)
    (w : Account) : Type 0 where
  pub fate : Option Fate
  pub may : MayRefuse w.seen.controller_calls v.number (progress_at v records (last_seen v.seen))
      (length w.seen.controller_calls)
      how why fate
  pub kept_out : IsKeptOut v.asked fate
  pub in_group : IfSome fate (WentToGroup w.seen.controller_calls (length v.seen.controller_calls)
      (length w.seen.controller_calls) (last_seen v.seen))
  pub number : w.number ≡ v.number
  pub mine : w.mine ≡ v.mine
  pub ends : w.ends ≡ v.ends
  pub asked : w.asked ≡ v.asked
  pub attempts : w.attempts ≡ with_attempt v.attempts records how fate
  pub read_faults : w.read_faults ≡ v.read_faults
  pub seen : Sees v.seen w.seen
  pub tokens : KnowsOwnTokens w

-- after the early checks a commit may also find no memory, and then the client has done nothing more
abbrev pub IsRefusedLate : Account → List Record → WriteOptions → Refusal → Account → Type 0
IsRefusedLate v records how why w = ((why ≡ NoMemory) × Keeps v w) ⊎ IsRefused v records how why w

abbrev pub Refuses : Settings → Account → List Record → WriteOptions → Refusal → Account → Type 0
Refuses settings v records how why w =
    MatchOption (early_refusal settings.families settings.batch_bytes (holds_stop v.asked) records how)
    (IsRefusedLate v records how why w) (λ (early : Refusal). (why ≡ early) × Keeps v w)

-- a read is at the last sequence that the client has now seen published, and its answer is that of the map there
pub record Reads (at : ℕ) (answers : Pairs → Type 0) (w : Account) : Type 0 where
  pub at_is : at ≡ last_seen w.seen
  pub answer : answers (map_seen w.seen)

-- A read of the log from the sequence s on: it is at the last sequence that the client has now seen published, and
-- these are its records. Whether they are right shows at the closing, as with all that a client has seen.
pub record ReadsLog (v : Account) (s at : ℕ) (records : List (List ℕ)) (w : Account) : Type 0 where
  pub number : w.number ≡ v.number
  pub mine : w.mine ≡ v.mine
  pub ends : w.ends ≡ v.ends
  pub asked : w.asked ≡ v.asked
  pub attempts : w.attempts ≡ v.attempts
  pub read_faults : w.read_faults ≡ v.read_faults
  pub seen : Sees v.seen w.seen
  pub tokens : KnowsOwnTokens w
  pub at_is : at ≡ last_seen w.seen
  pub read : w.seen.log_reads ≡ v.seen.log_reads ++ record { since = s; at = at; records = records } ∷ []

-- A read of the log failed: the disk's count of faults rose, to this one.
pub record FailsToRead (settings : Settings) (v : Account) (count : ℕ) (w : Account) : Type 0 where
  pub number : w.number ≡ v.number
  pub mine : w.mine ≡ v.mine
  pub ends : w.ends ≡ v.ends
  pub asked : w.asked ≡ v.asked
  pub attempts : w.attempts ≡ v.attempts
  pub read_faults : w.read_faults ≡ v.read_faults ++ count ∷ []
  pub seen : Sees v.seen w.seen
  pub tokens : KnowsOwnTokens w
  pub rose : Rose settings.opened count

-- The client made this call of the controller, after all that it had seen. The call's number is no less than the last
-- sequence that it had seen published (`had`), and no more than the last one that it has seen now (`has`). Calls up to
-- this one say what it had seen. Then the client heard a sequence, up to which it has now seen what is published.
pub record Asks (v : Account) (action : Action) (w : Account) : Type 0 where
  pub number : w.number ≡ v.number
  pub mine : w.mine ≡ v.mine
  pub ends : w.ends ≡ v.ends
  pub asked : w.asked ≡ v.asked ++ action ∷ []
  pub attempts : w.attempts ≡ v.attempts
  pub read_faults : w.read_faults ≡ v.read_faults
  pub seen : Sees v.seen w.seen
  pub tokens : KnowsOwnTokens w
  pub place : ℕ
  pub is_later : IsLater w.seen.controller_calls (length v.seen.controller_calls) place
      (record { client = v.number; action = action; told = None })
  pub had : last_seen v.seen ≤ shown_by_token action
  pub has : shown_by_token action ≤ last_seen w.seen
  pub said : last_seen v.seen ≤ said_in (take (place + 1) w.seen.controller_calls)
  pub heard_at : ℕ
  pub most : ℕ
  pub hears : IsLater w.seen.controller_calls (place + 1) heard_at
      (record { client = v.number; action = hear most; told = None })
  pub reached : most ≤ last_seen w.seen

-- The client gave back the tokens that it held. The number of these calls is no less than the last sequence that it had
-- seen published, and no more than the last one that it has seen now. Calls up to each of them say what it had seen.
pub record GivesBack (v w : Account) : Type 0 where
  pub number : w.number ≡ v.number
  pub mine : w.mine ≡ v.mine
  pub ends : w.ends ≡ v.ends
  pub shown : ℕ
  pub had : last_seen v.seen ≤ shown
  pub has : shown ≤ last_seen w.seen
  pub said : AllByRecursion
      (IsGivenBack w.seen.controller_calls v.number (length v.seen.controller_calls) (last_seen v.seen))
      (given_back v.asked shown)
  pub asked : w.asked ≡ v.asked ++ given_back v.asked shown
  pub attempts : w.attempts ≡ v.attempts
  pub read_faults : w.read_faults ≡ v.read_faults
  pub seen : Sees v.seen w.seen
  pub tokens : KnowsOwnTokens w
