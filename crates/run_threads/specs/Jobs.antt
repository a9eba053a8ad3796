-- What holds of all clients' jobs before they run, and after.
use Rattle.std.specs.Prelude.{◌≡◌, ℕ, ◌+◌, ◌^◌, ◌<◌, ◌≤◌, List, [], length, Some, slice_get, slice_index_or, Vec, vec_len, vec_capacity}
use Rattle.std.specs.List.{AllByRecursion, AllZip}
use Rattle.std.specs.declared.alloc.Global.{Global}
use Rattle.model_base.specs.declared.limits.TheConstants.{MAX_SIZE}
use Rattle.model_base.specs.Batch.{size_of_batch}
use Rattle.model_base.specs.Map.{Pairs}
use Rattle.model_base.specs.Trace.{Settings}
use Rattle.model_base.specs.Calls.{Command, Call}
use Rattle.run_outcome.specs.declared.reply.Reply.{Reply}
use Rattle.run_outcome.specs.Shows.{ShowsReplies}
use Rattle.run_scripts.specs.Scripts.{additions_of}
use Rattle.model_accounts.specs.Accounts.{Account, newcomer}
use Rattle.model_accounts.specs.ClientRuns.{HaveRun}
use Rattle.run_threads.specs.declared.batches.ClientBatches.{ClientBatches}
use Rattle.run_threads.specs.declared.jobs.Job.{Job}
use Rattle.run_threads.specs.Answers.{records_in, accepted_in, ShowsAccepted}
use Rattle.run_threads.specs.Transcripts.{HasReplied}

-- all that a client adds fits into one batch of 16 MiB, even if no commit is accepted
abbrev pub FitBatches : List (List Command) → Type 0
FitBatches script = AllByRecursion (λ cs. size_of_batch (additions_of cs) ≤ MAX_SIZE) script

-- no client has called anything
pub record AreNew {C : Type 0} (account : C → Account) (start : ℕ) (opening : Pairs) (clients : List C)
    : Type 0 where
  pub each : (i : ℕ) (c : C) → slice_get clients i ≡ Some c → account c ≡ newcomer start opening (i + 1)

-- the clients have run their parts of the script, and their replies show how
pub record HaveReplied (settings : Settings) (script : List (List Command)) (replies : List (Vec Reply Global))
    (accounts : List Account) : Type 0 where
  pub transcripts : List (List Call)
  pub show : AllZip (λ v. ShowsReplies v.items) replies transcripts
  pub run : HaveRun settings script transcripts accounts

-- the accepted batches are the clients' entries
abbrev pub HaveEntries : List ClientBatches → List Account → Type 0
HaveEntries batches accounts = AllZip (λ b a. ShowsAccepted a.number (accepted_in b) a.mine) batches accounts

-- no batch was accepted, and none is in the making
abbrev pub AreNone : ClientBatches → Type 0
AreNone batches = (accepted_in batches ≡ []) × (records_in batches.current ≡ [])

-- a list with room for each client's replies, and nothing in it
pub record IsRoom (script : List (List Command)) (room : List (Vec Reply Global)) : Type 0 where
  pub count : length room ≡ length script
  pub each : (i : ℕ) (d : Vec Reply Global) → i < length script
      → ((slice_index_or room i d).items ≡ []) × (vec_len (slice_index_or room i d) ≡ 0)
  pub fits : (i : ℕ) (d : Vec Reply Global) (cs : List Command) → i < length script
      → length (slice_index_or script i cs) ≤ vec_capacity (slice_index_or room i d)

module _ {C : Type 0} (belongs : C → Type 0) (account : C → Account) (settings : Settings)
    (script : List (List Command)) where
  -- the job of client i + 1, which has called nothing
  pub record IsReady (i : ℕ) (job : Job C) : Type 0 where
    pub within : i < length script
    pub few : i + 1 < 2 ^ 32
    pub ours : belongs job.client
    pub new : account job.client ≡ newcomer settings.start settings.opening (i + 1)
    pub none : job.replies.items ≡ []
    pub empty : vec_len job.replies ≡ 0
    pub no_batches : AreNone job.batches
    pub fits : (d : List Command) → size_of_batch (additions_of (slice_index_or script i d)) ≤ MAX_SIZE
    pub room : (d : List Command) → length (slice_index_or script i d) ≤ vec_capacity job.replies

  -- the job of client i + 1, which has run
  pub record IsDone (i : ℕ) (job : Job C) : Type 0 where
    pub ours : belongs job.client
    pub number : (account job.client).number ≡ i + 1
    pub told : (d : List Command) → HasReplied settings (i + 1) (slice_index_or script i d) job.replies.items
        (account job.client)
    pub accepted : ShowsAccepted (i + 1) (accepted_in job.batches) (account job.client).mine

  pub record AreReady (jobs : List (Job C)) : Type 0 where
    pub each : (i : ℕ) (d : Job C) → i < length jobs → IsReady i (slice_index_or jobs i d)

  pub record AreDone (jobs : List (Job C)) : Type 0 where
    pub each : (i : ℕ) (d : Job C) → i < length jobs → IsDone i (slice_index_or jobs i d)
