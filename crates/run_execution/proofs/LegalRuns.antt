-- What a legal outcome says of each batch and of each refusal.
use Rattle.std.proofs.Common.{◌≡◌, ℕ, zero, suc, ◌+◌, ◌-◌, ◌^◌, ◌<◌, ◌≤◌, ◌==◌, Bool, true, false, cond, Option, Some, None, List, [], ◌∷◌, length, slice_get, refl, sym, subst, inl, inr, arith}
use Rattle.std.specs.List.{AllByRecursion}
use Rattle.std.proofs.lemmas.Bool.{eq-eqb}
use Rattle.std.proofs.lemmas.Option.{slice_get_cases, slice_get_within}
use Rattle.model_base.specs.declared.limits.TheConstants.{MAX_SIZE}
use Rattle.model_base.specs.Progress.{families_in}
use Rattle.model_base.specs.History.{Entry}
use Rattle.model_base.specs.Trace.{Trace, Settings}
use Rattle.model_base.specs.Attempts.{Attempt}
use Rattle.model_base.specs.Groups.{AreStatuses}
use Rattle.model_base.specs.Calls.{Command, Call, Outcome}
use Rattle.model_base.specs.Outcomes.{IsClient, IsLegalIn, IsLegalTranscript, entries_of_client}
use Rattle.model_runs.specs.Refusals.{AreRefusedForThemselves}
use Rattle.run_execution.proofs.LoggedGroups.{IsBounded}
use Rattle.run_execution.proofs.LegalSteps.{IsAllowed, AreSmall, NoneFaulted, none_faulted, transcribed}

-- Each element of a list

all_weaker : {X : Type 0} (P Q : X → Type 0) → ((x : X) → P x → Q x) → (xs : List X) → AllByRecursion P xs → AllByRecursion Q xs
all_weaker P Q f [] a = tt
all_weaker P Q f (x ∷ xs) a = (f x a.0, all_weaker P Q f xs a.1)

all_by_places : {X : Type 0} (P : X → Type 0) (xs : List X) → ((i : ℕ) (x : X) → slice_get xs i ≡ Some x → P x) → AllByRecursion P xs
all_by_places P [] f = tt
all_by_places P (x ∷ xs) f = (f zero x refl, all_by_places P xs (λ i y at. f (suc i) y at))

-- what is at a place within the list
record At {X : Type 0} (xs : List X) (i : ℕ) : Type 0 where
  it : X
  there : slice_get xs i ≡ Some it

at_place : {X : Type 0} (xs : List X) (i : ℕ) → i + 1 ≤ length xs → At xs i
at_place xs i within = elim (slice_get_cases xs i).1 [
  | inl w ↦ record { it = w.0; there = w.2 }
  | inr w ↦ (let past = w.0 in absurd (omega (arith, past, within)))
]

-- what holds of each client's entries holds of all
module _ (P : Entry → Type 0) where
  kept : (b : Bool) (x : Entry) (xs : List Entry) → AllByRecursion P (cond b (x ∷ xs) xs) → AllByRecursion P xs × (b ≡ true → P x)
  kept true x xs h = (h.1, λ e. h.0)
  kept false x xs h = (h, λ e. absurd (cc e))

  all_of_clients : (Q : ℕ → Type 0) (entries : List Entry) → AllByRecursion (λ (e : Entry). Q e.client) entries → ((c : ℕ) → Q c → AllByRecursion P (entries_of_client c entries)) → AllByRecursion P entries
  all_of_clients Q [] are each = tt
  all_of_clients Q (x ∷ xs) are each = (
    (kept (x.client == x.client) x (entries_of_client x.client xs) (each x.client are.0)).1 (eq-eqb x.client x.client refl),
    all_of_clients Q xs are.1 (λ c q. (kept (x.client == c) x (entries_of_client c xs) (each c q)).0),
  )

-- Outcomes

-- a client's part of a legal outcome
record HasPart (settings : Settings) (script : List (List Command)) (trace : Trace) (o : Outcome) (i : ℕ) (calls : List Call) : Type 0 where
  commands : List Command
  attempts : List Attempt
  part : IsLegalTranscript settings trace o.fault (i + 1) commands calls attempts

part_at : (settings : Settings) (ended : ℕ) (script : List (List Command)) (trace : Trace) (attempts : List (List Attempt)) (o : Outcome) (legal : IsLegalIn settings ended script trace attempts o)
    → (i : ℕ) (calls : List Call) → slice_get o.transcripts i ≡ Some calls → HasPart settings script trace o i calls
part_at settings ended script trace attempts o legal i calls at =
    let within = slice_get_within o.transcripts i calls at in let count = legal.count in
    let mine = at_place script i (omega (arith, within, count)) in
    let part = legal.each i mine.it calls mine.there at in
    record { commands = mine.it; attempts = part.0; part = part.2 }

client_small : (settings : Settings) (ended : ℕ) (script : List (List Command)) (trace : Trace) (attempts : List (List Attempt)) (o : Outcome) → IsLegalIn settings ended script trace attempts o
    → (c : ℕ) → IsClient settings c → AreSmall settings.families settings.batch_bytes (entries_of_client c trace.entries)
client_small settings ended script trace attempts o legal c is =
    let some = is.0 in let most = is.1 in let clients = legal.clients in let count = legal.count in
    let at = at_place o.transcripts (c - 1) (omega (arith, some, most, clients, count)) in
    let has = part_at settings ended script trace attempts o legal (c - 1) at.it at.there in
    let small = (transcribed settings trace (c - 1 + 1) has.commands at.it has.part.end has.part.is_transcript).small tt in
    let number : c - 1 + 1 ≡ c = omega (arith, some) in
    subst (λ (n : ℕ). AreSmall settings.families settings.batch_bytes (entries_of_client n trace.entries)) number (subst (AreSmall settings.families settings.batch_bytes) (sym has.part.accepted) small)

-- no accepted batch is larger than the settings allow, and its families are among those that there are
pub small_entries : (settings : Settings) (ended : ℕ) (script : List (List Command)) (trace : Trace) (attempts : List (List Attempt)) (o : Outcome)
    → IsLegalIn settings ended script trace attempts o → settings.batch_bytes ≤ MAX_SIZE → settings.families < 2 ^ 32
    → AllByRecursion IsBounded trace.entries
small_entries settings ended script trace attempts o legal limit few =
    all_weaker (λ (e : Entry). IsAllowed settings.families settings.batch_bytes e.records) IsBounded
    (λ e allowed. (
      (let small = allowed.0 in omega (arith, small, limit)),
      all_weaker (λ (f : ℕ). f < settings.families) (λ (f : ℕ). f < 2 ^ 32) (λ f below. omega (arith, below, few)) (families_in e.records) allowed.1,
    )) trace.entries
    (all_of_clients (λ (e : Entry). IsAllowed settings.families settings.batch_bytes e.records) (IsClient settings) trace.entries legal.is_trace.clients (client_small settings ended script trace attempts o legal))

-- where the log has no fault, commits were refused only for causes of their own
pub refused_for_themselves : (settings : Settings) (ended : ℕ) (script : List (List Command)) (trace : Trace) (attempts : List (List Attempt)) (o : Outcome)
    → IsLegalIn settings ended script trace attempts o → o.fault ≡ None
    → AllByRecursion AreRefusedForThemselves o.transcripts
refused_for_themselves settings ended script trace attempts o legal fault = all_by_places AreRefusedForThemselves o.transcripts (λ i calls at. (
    let has = part_at settings ended script trace attempts o legal i calls at in
    let statuses = subst (λ (f : Option ℕ). AreStatuses trace f has.attempts) fault has.part.statuses in
    let none = subst NoneFaulted has.part.commits (none_faulted trace has.attempts statuses) in
    ((transcribed settings trace (i + 1) has.commands calls has.part.end has.part.is_transcript).told none).1))
