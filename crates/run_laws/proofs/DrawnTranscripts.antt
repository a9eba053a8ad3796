-- A legal outcome of a generated script, client by client.
use Rattle.std.proofs.Common.{◌≡◌, ℕ, ◌+◌, ◌-◌, ◌<◌, ◌≤◌, List, length, Some, slice_get, sym, ap, subst, ◌∙◌, arith}
use Rattle.std.specs.List.{AllByRecursion}
use Rattle.model_base.specs.Batch.{Record}
use Rattle.model_base.specs.Calls.{Command, Call, Outcome}
use Rattle.model_base.specs.Trace.{Trace, Settings}
use Rattle.model_base.specs.Attempts.{Attempt}
use Rattle.model_base.specs.Outcomes.{entries_of_client, IsLegalTranscript, IsLegal}
use Rattle.model_base.specs.Generator.{first_state, batches_drawn, script_of_seed}
use Rattle.run_laws.proofs.Lists.{there_is, made_at, length_made, all_mapped}
use Rattle.run_laws.proofs.Progresses.{HasOnly, kept_by_transcript}
use Rattle.run_laws.proofs.Entries.{AreOfClients, all_of_clients}
use Rattle.run_laws.proofs.Drawn.{HoldsOfDrawn, of_batches}

-- the commands that a client is given
abbrev pub commands_drawn : ℕ → ℕ → ℕ → List Command
commands_drawn seed batches client = batches_drawn batches client (first_state seed client)

-- the client's transcript, and that it is right
pub record HasTranscript (settings : Settings) (trace : Trace) (o : Outcome) (i : ℕ) (commands : List Command) : Type 0 where
  pub calls : List Call
  pub there : slice_get o.transcripts i ≡ Some calls
  pub attempts : List Attempt
  pub right : IsLegalTranscript settings trace o.fault (i + 1) commands calls attempts

module _ (seed clients batches ended : ℕ) (settings : Settings) (o : Outcome) (legal : IsLegal settings ended (script_of_seed seed clients batches) o) where
  pub length_generated : length (script_of_seed seed clients batches) ≡ clients
  length_generated = length_made (commands_drawn seed batches) 1 clients

  pub transcript_of : (i : ℕ) → i < clients → HasTranscript settings legal.trace o i (commands_drawn seed batches (i + 1))
  transcript_of i within =
      let l = legal.legal in let length_is = length_generated in let count = l.count in
      let commands = there_is (script_of_seed seed clients batches) i (omega arith) in
      let calls = there_is o.transcripts i (omega arith) in
      let made : commands.0 ≡ commands_drawn seed batches (1 + i) = (made_at (commands_drawn seed batches) 1 clients i commands.0 commands.1).1 in
      let number : 1 + i ≡ i + 1 = omega arith in
      let right = l.each i commands.0 calls.0 commands.1 calls.1 in
      record {
        calls = calls.0;
        there = calls.1;
        attempts = right.0;
        right = subst (λ cs. IsLegalTranscript settings legal.trace o.fault (i + 1) cs calls.0 right.0) (made ∙ ap (commands_drawn seed batches) number) right.2;
      }

  -- each entry is of one of the clients
  pub of_clients : AreOfClients clients legal.trace.entries
  of_clients =
      let l = legal.legal in let length_is = length_generated in let count : settings.clients ≡ clients = l.clients ∙ length_is in
      all_mapped _ _ (λ e is. (is.0, omega (arith, is.1, count))) legal.trace.entries l.is_trace.clients

  -- what holds of each record that a client may draw holds of each record of its entries
  pub all_drawn : (P : ℕ → Record → Type 0) → ((client : ℕ) → 1 ≤ client → client ≤ clients → HoldsOfDrawn P client) → AllByRecursion (HasOnly P) legal.trace.entries
  all_drawn P drawn = all_of_clients (HasOnly P) clients legal.trace.entries of_clients (λ client some most.
      let i : ℕ = client - 1 in let number : i + 1 ≡ client = omega arith in
      subst (λ k. AllByRecursion (HasOnly P) (entries_of_client k legal.trace.entries)) number (of_one i (omega arith)))
    where
      of_one : (i : ℕ) → i < clients → AllByRecursion (HasOnly P) (entries_of_client (i + 1) legal.trace.entries)
      of_one i within =
          let t = transcript_of i within in let right = t.right in
          let only = of_batches P (i + 1) (drawn (i + 1) (omega arith) (omega arith)) batches (first_state seed (i + 1)) in
          subst (AllByRecursion (HasOnly P)) (sym right.accepted)
          (kept_by_transcript P settings legal.trace (i + 1) (commands_drawn seed batches (i + 1)) t.calls right.end only right.is_transcript)
