-- A legal outcome: how far its history goes, and when its controller's history has no tokens.
use Rattle.std.proofs.Common.{◌≡◌, ℕ, ◌+◌, ◌-◌, ◌<◌, ◌≤◌, List, [], length, Some, slice_get, ap, subst, arith}
use Rattle.std.specs.List.{AllByRecursion}
use Rattle.model_base.specs.Calls.{Command, Call, Outcome}
use Rattle.model_base.specs.History.{Entry, IsBoundary, max_sequence}
use Rattle.model_base.specs.Script.{Script}
use Rattle.model_base.specs.Tokens.{tokens_of}
use Rattle.model_base.specs.Trace.{Trace, Settings}
use Rattle.model_base.specs.Outcomes.{entries_of_client, IsLegalTranscript, IsLegal}
use Rattle.model_base.specs.Attempts.{Attempt}
use Rattle.run_laws.proofs.Lists.{there_is, all_at, all_mapped}
use Rattle.run_laws.proofs.DrawnTranscripts.{HasTranscript}
use Rattle.run_laws.proofs.Counts.{sequences_of, boundary_within}
use Rattle.run_laws.proofs.Interleaved.{AreBelow, all_from_one}
use Rattle.run_laws.specs.Accepting.{count_of_commits, HasRoom, HoldsNothingUp}
use Rattle.run_laws.proofs.Splits.{place_within}
use Rattle.run_laws.proofs.Room.{takes, TakeWithin, all_take_less}
use Rattle.run_laws.proofs.Calm.{AsksNothing, HasNoTokens, no_tokens_of, no_tokens}

-- the commands that a client's transcript answers, and that it is right
pub record HasCommands (settings : Settings) (trace : Trace) (o : Outcome) (i : ℕ) (calls : List Call) : Type 0 where
  pub commands : List Command
  pub attempts : List Attempt
  pub right : IsLegalTranscript settings trace o.fault (i + 1) commands calls attempts

module _ (settings : Settings) (ended : ℕ) (script : Script) (o : Outcome) (legal : IsLegal settings ended script o) where
  abbrev pub trace : Trace
  trace = legal.trace

  pub transcript_of : (i : ℕ) (commands : List Command) → slice_get script i ≡ Some commands → HasTranscript settings trace o i commands
  transcript_of i commands there =
      let l = legal.legal in let count = l.count in let within = place_within script i commands there in
      let calls = there_is o.transcripts i (omega arith) in let right = l.each i commands calls.0 there calls.1 in
      record { calls = calls.0; there = calls.1; attempts = right.0; right = right.2 }

  -- the commands that a transcript answers
  pub right_of : (i : ℕ) (calls : List Call) → slice_get o.transcripts i ≡ Some calls → HasCommands settings trace o i calls
  right_of i calls there =
      let l = legal.legal in let count = l.count in let within = place_within o.transcripts i calls there in
      let commands = there_is script i (omega arith) in let right = l.each i commands.0 calls commands.1 there in
      record { commands = commands.0; attempts = right.0; right = right.2 }

  -- how far its history goes

  abbrev pub end_of_history : ℕ
  end_of_history = settings.start + sequences_of trace.entries

  pub last_within : (last : ℕ) → IsBoundary trace.start trace.entries last → last ≤ end_of_history
  last_within last b = let l = legal.legal in let start = l.is_trace.start in omega (arith, start, boundary_within trace.start trace.entries last l.is_trace.entries b)

  take_within : TakeWithin 1 o.transcripts trace.entries
  take_within i calls there =
      let t = right_of i calls there in let right = t.right in
      let number : i + 1 ≡ 1 + i = omega arith in
      let all = ap sequences_of right.accepted in
      let one : sequences_of (entries_of_client (i + 1) trace.entries) ≤ count_of_commits [] calls = omega (arith, all, takes settings trace (i + 1) t.commands calls right.end right.is_transcript) in
      subst (λ k. sequences_of (entries_of_client k trace.entries) ≤ count_of_commits [] calls) number one

  below : AreBelow (1 + length o.transcripts) trace.entries
  below = let l = legal.legal in let clients = l.clients in let count = l.count in all_mapped _ _ (λ e is. omega (arith, is.1, clients, count)) trace.entries l.is_trace.clients

  named : AllByRecursion (λ (e : Entry). 1 ≤ e.client) trace.entries
  named = all_mapped _ _ (λ e is. is.0) trace.entries legal.legal.is_trace.clients

  -- if a client takes fewer sequences than its calls commit records, there is room for the difference
  pub has_room : (client : ℕ) (calls : List Call) (less : ℕ) → slice_get o.transcripts client ≡ Some calls → sequences_of (entries_of_client (client + 1) trace.entries) + less ≤ count_of_commits [] calls
      → HasRoom settings o → end_of_history + less ≤ max_sequence
  has_room client calls less there one room =
      let number : client + 1 ≡ 1 + client = omega arith in
      let here = subst (λ k. sequences_of (entries_of_client k trace.entries) + less ≤ count_of_commits [] calls) number one in
      let whole = ap sequences_of (all_from_one trace.entries named) in
      omega (arith, room, whole, all_take_less 1 o.transcripts trace.entries client calls less below take_within there here)

  -- if no client asks for a stop or a slowdown, there are no tokens

  none_of : HoldsNothingUp script → (i : ℕ) → i < length script → tokens_of (i + 1) trace.controller_calls ≡ []
  none_of quiet i within =
      let commands = there_is script i within in let t = transcript_of i commands.0 commands.1 in let right = t.right in
      no_tokens_of settings trace (i + 1) commands.0 t.calls right.end right.shown (all_at AsksNothing script i commands.0 quiet commands.1) right.is_transcript right.tokens

  pub calm : HoldsNothingUp script → HasNoTokens trace.controller_calls
  calm quiet =
      let l = legal.legal in let count = l.clients in
      no_tokens settings trace.controller_calls l.is_trace.tokens (λ client is.
      let i : ℕ = client - 1 in let some = is.0 in let most = is.1 in let number : i + 1 ≡ client = omega arith in
      subst (λ k. tokens_of k trace.controller_calls ≡ []) number (none_of quiet i (omega arith)))
