-- What a write path says at its closing, and each client's own run, make a legal outcome.
use Rattle.std.proofs.Common.{◌≡◌, inl, inr, ℕ, ◌+◌, ◌≤◌, Option, Some, None, List, [], ◌∷◌, ◌++◌, suc, length, slice_get, refl, ap, sym, ◌∙◌, subst, arith}
use Rattle.std.proofs.lemmas.Option.{slice_get-map, slice_get_cases}
use Rattle.std.proofs.lemmas.List.{length-map}
use Rattle.std.specs.Option.{option_map}
use Rattle.model_base.specs.History.{Entry, IsHistory}
use Rattle.model_base.specs.Tokens.{tokens_of}
use Rattle.model_base.specs.Recovery.{Logged}
use Rattle.model_base.specs.Settings.{with_kept}
use Rattle.model_base.specs.Trace.{Trace, Settings}
use Rattle.model_base.proofs.Kept.{transcript_with}
use Rattle.model_base.specs.Groups.{Group}
use Rattle.model_base.specs.Calls.{Command, Call}
use Rattle.model_base.specs.Outcomes.{entries_of_client, outcome_of, IsLegalTranscript, IsLegalIn, AreOwnFaults, read_faults_of, read_faults_in}
use Rattle.model_accounts.specs.Accounts.{Account}
use Rattle.model_accounts.specs.Closing.{all_attempts, all_read_faults, IsAccountOf, IsClosing}
use Rattle.model_accounts.specs.ClientRuns.{HasRun, HaveRun}

-- one client's run is legal in the trace of which its account is a part
transcript_closes : (settings : Settings) (kept : Option (List Logged)) (trace : Trace) (parts : List (List Entry)) (fault : Option ℕ) (client : ℕ) (commands : List Command) (calls : List Call) (a : Account)
    → IsHistory trace.start trace.entries → IsAccountOf trace parts fault a → HasRun settings client commands calls a
    → IsLegalTranscript (with_kept kept settings) trace fault client commands calls a.attempts
transcript_closes settings kept trace parts fault client commands calls a is_history part run = record {
  end = run.end;
  is_transcript = transcript_with kept settings trace client commands calls run.end (run.is_transcript trace is_history part.seen);
  accepted = ap (λ n. entries_of_client n trace.entries) (sym run.number) ∙ (part.accepted ∙ run.mine);
  shown = run.shown;
  had = run.had;
  said = run.said trace is_history part.seen;
  tokens = ap (λ n. tokens_of n trace.controller_calls) (sym run.number) ∙ (part.tokens ∙ run.asked);
  commits = run.attempts;
  statuses = part.statuses;
}

-- the faults of all clients' reads are those of their transcripts
faults_shown : (accounts : List Account) (transcripts : List (List Call)) → length accounts ≡ length transcripts
    → ((i : ℕ) (a : Account) (calls : List Call) → slice_get accounts i ≡ Some a → slice_get transcripts i ≡ Some calls → a.read_faults ≡ read_faults_of calls)
    → all_read_faults accounts ≡ read_faults_in transcripts
faults_shown [] [] same each = refl
faults_shown [] (calls ∷ transcripts) same each = absurd (cc same)
faults_shown (a ∷ accounts) [] same each = absurd (cc same)
faults_shown (a ∷ accounts) (calls ∷ transcripts) same each =
    ap (λ ns. ns ++ all_read_faults accounts) (each 0 a calls refl refl)
    ∙ ap (λ ns. read_faults_of calls ++ ns) (faults_shown accounts transcripts (omega (arith, same)) (λ i b cs at there. each (suc i) b cs at there))

pub closing : (settings : Settings) (kept : Option (List Logged)) (ended : ℕ) (script : List (List Command)) (transcripts : List (List Call)) (accounts : List Account) (trace : Trace) (groups : List Group) (last : ℕ) (log_lens : List ℕ)
    (fault : Option ℕ) → settings.clients ≡ length script → HaveRun settings script transcripts accounts → IsClosing (with_kept kept settings) ended trace groups accounts last fault
    → (is : IsLegalIn (with_kept kept settings) ended script trace (all_attempts accounts) (outcome_of trace transcripts last log_lens fault)) × (is.groups ≡ groups)
closing settings kept ended script transcripts accounts trace groups last log_lens fault clients runs close = (
  record {
    is_trace = close.is_trace;
    history = refl;
    clients = clients;
    count = runs.transcripts_of;
    count_attempts = length-map accounts (λ (a : Account). a.attempts) ∙ runs.clients;
    groups = groups;
    are_groups = close.are_groups;
    each = λ i commands calls in_script in_transcripts. elim (slice_get_cases accounts i).1 [
      | inl at ↦ (
          let a = at.0 in (
            a.attempts,
            slice_get-map (λ (x : Account). x.attempts) accounts i ∙ ap (option_map (λ (x : Account). x.attempts)) at.2,
            transcript_closes settings kept trace close.parts fault (i + 1) commands calls a close.is_trace.entries (close.each i a at.2) (runs.each i commands calls a in_script in_transcripts at.2),
          ))
      | inr none ↦ absurd (none_left i commands in_script none)
    ];
    last = close.last_is;
    state = refl;
    fault = close.fault_is;
    read_faults = subst (AreOwnFaults ended fault) shown close.read_faults;
    counted = λ no_fault none. close.counted no_fault (shown ∙ none);
  },
  refl,
)
  where
    none_there : (i : ℕ) → length script ≤ i → slice_get accounts i ≡ None
    none_there i past = elim (slice_get_cases accounts i).1 [
      | inl there ↦ (let n = there.1 in let e = runs.clients in absurd (omega (arith, n, e, past)))
      | inr gone ↦ gone.1
    ]

    shown : all_read_faults accounts ≡ read_faults_in transcripts
    shown = faults_shown accounts transcripts (runs.clients ∙ sym runs.transcripts_of) (λ i a calls at there. elim (slice_get_cases script i).1 [
      | inl in_script ↦ (runs.each i in_script.0 calls a in_script.2 there at).read_faults
      | inr gone ↦ absurd (cc (at, none_there i gone.0))
    ])

    none_left : (i : ℕ) (commands : List Command) → slice_get script i ≡ Some commands → (length accounts ≤ i) × (slice_get accounts i ≡ None) → ⊥
    none_left i commands in_script none = elim (slice_get_cases script i).1 [
      | inl there ↦ (let n = there.1 in let m = none.0 in let e = runs.clients in omega arith)
      | inr gone ↦ absurd (cc (in_script, gone.1))
    ]
