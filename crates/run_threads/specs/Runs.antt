-- What a run of all clients over a write path results in: nothing, or a legal outcome whose values may be at hand.
use Rattle.std.specs.Prelude.{◌≡◌, ℕ, List, [], ◌∷◌, ◌++◌, Option, Vec}
use Rattle.std.specs.declared.alloc.Global.{Global}
use Rattle.model_base.specs.Trace.{Trace, Settings}
use Rattle.model_base.specs.Attempts.{Attempt}
use Rattle.model_base.specs.Groups.{Group}
use Rattle.model_base.specs.LogContents.{GroupCall}
use Rattle.model_base.specs.Calls.{Command, Call}
use Rattle.model_base.specs.Outcomes.{IsLegalIn, outcome_of}
use Rattle.model_base.specs.Map.{Pairs}
use Rattle.log_batch.specs.Contents.{Contents}
use Rattle.run_outcome.specs.declared.history_entry.HistoryEntry.{HistoryEntry}
use Rattle.run_outcome.specs.declared.reply.Reply.{Reply}
use Rattle.run_outcome.specs.declared.outcome.Outcome.{Outcome}
use Rattle.run_outcome.specs.Shows.{ShowsOutcome}
use Rattle.model_runs.specs.Written.{WritesLog}
use Rattle.run_threads.specs.declared.run.ClientsEnd.{ClientsEnd}
use Rattle.run_threads.specs.declared.run.ClientsEnd.TheVariants.{NotRun, Untold, Told}

-- the outcome of these values, with the lengths of the full logs and of the last one, and the fault
abbrev pub outcome_with : Vec (Vec Reply Global) Global → List (HistoryEntry Contents) → ℕ → Pairs → Vec ℕ Global → ℕ
    → Option ℕ → Outcome Pairs
outcome_with transcripts history last state full_lens log_len fault = record {
  transcripts = transcripts;
  history = history;
  last = last;
  state = state;
  full_lens = full_lens;
  log_len = log_len;
  fault = fault;
}

-- the log that a run leaves
abbrev pub log_of : {L : Type 0} → ClientsEnd L → L
log_of (NotRun log) = log
log_of (Untold log last) = log
log_of (Told log last transcripts history state) = log

-- `wrote` says that a log was written by some calls of the log writer, and `fault` and `faults` give a log's fault and
-- its disk's count of faults.
module _ {L : Type 0} (settings : Settings) (script : List (List Command)) (wrote : List GroupCall → L → Type 0)
    (fault : L → Option ℕ) (faults : L → ℕ) where
  -- All clients have run: there is one trace with one list of groups, their replies are a legal outcome of these,
  -- whatever the logs' lengths, and the log was written by the calls for these groups.
  pub record HaveRun (log : L) (last : ℕ) : Type 0 where
    pub trace : Trace
    pub attempts : List (List Attempt)
    pub groups : List Group
    pub transcripts : List (List Call)
    pub writes : WritesLog settings.group_bytes (λ calls. wrote calls log) trace attempts groups (fault log)
    pub legal : (log_lens : List ℕ)
        → IsLegalIn settings (faults log) script trace attempts (outcome_of trace transcripts last log_lens (fault log))
    pub of_groups : (log_lens : List ℕ) → (legal log_lens).groups ≡ groups

  -- Where there was no memory for the run itself, the log was written by no call, and its disk has counted no fault.
  -- Else all clients have run, and the values, where they are at hand, show the outcome.
  abbrev pub ComesTo : ClientsEnd L → Type 0
  ComesTo (NotRun log) = wrote [] log × (faults log ≡ settings.opened)
  ComesTo (Untold log last) = HaveRun log last
  ComesTo (Told log last transcripts history state) = (run : HaveRun log last)
      × ((full_lens : Vec ℕ Global) (log_len : ℕ)
      → ShowsOutcome (outcome_with transcripts history last state full_lens log_len (fault log))
      (outcome_of run.trace run.transcripts last (full_lens.items ++ log_len ∷ []) (fault log)))
