-- A client's calls, one after another, and how they end.
use Rattle.std.proofs.Common.{◌≡◌, inl, inr, ℕ, ◌≤◌, ◌<◌, List, [], ◌∷◌, ◌++◌, length, refl, ap, sym, ◌∙◌, subst, arith, append_assoc, append-nil}
use Rattle.std.specs.List.{AllByRecursion}
use Rattle.std.proofs.lemmas.Option.{slice_get_cases}
use mathlib.Core.List.{IsPrefix}
use Rattle.model_base.specs.Batch.{Record}
use Rattle.model_base.specs.Map.{Pairs}
use Rattle.model_base.specs.Controller.{ControllerCall, Action}
use Rattle.model_base.specs.Tokens.{given_back}
use Rattle.model_base.specs.Replies.{IsGivenBack}
use Rattle.model_base.specs.Trace.{Settings}
use Rattle.model_base.specs.Progress.{fresh}
use Rattle.model_base.specs.Runs.{Run, whole, cut_off, commands_of}
use Rattle.model_base.specs.Calls.{Command, Reply, Call, no_memory}
use Rattle.model_base.specs.Outcomes.{read_fault_of, read_faults_of}
use Rattle.model_base.proofs.Prefixes.{prefix_length}
use Rattle.model_base.proofs.Runs.{later_in, run_more, said_same}
use Rattle.model_accounts.specs.Accounts.{Account, newcomer, progress_at, GivesBack}
use Rattle.model_accounts.specs.Sights.{last_seen}
use Rattle.model_accounts.specs.ClientRuns.{Goes, Lacks, Went, HasRun}
use Rattle.model_accounts.proofs.Seeing.{saw_earlier, sees_on, last_rises}

pub went_none : (settings : Settings) (start : ℕ) (opening : Pairs) (number : ℕ) → Went settings [] (newcomer start opening number) []
went_none settings start opening number = record { seen_up_to = 0; shown = omega arith; read_faults = refl; tokens = refl; run = λ trace is_history saw. refl }

-- the counts of faults of these calls and of one more
one_more : (calls : List Call) (c : Call) → read_faults_of (calls ++ c ∷ []) ≡ read_faults_of calls ++ read_fault_of c.reply
one_more [] c = append-nil (read_fault_of c.reply)
one_more (d ∷ calls) c = ap (λ ns. read_fault_of d.reply ++ ns) (one_more calls c) ∙ sym (append_assoc (read_fault_of d.reply) (read_faults_of calls) (read_fault_of c.reply))

pub went_more : (settings : Settings) (calls : List Call) (v : Account) (before : List Record) (c : Command) (r : Reply) (w : Account) (after : List Record)
    → Went settings calls v before → Goes settings v before c r w after → Went settings (calls ++ record { command = c; reply = r } ∷ []) w after
went_more settings calls v before c r w after so_far goes =
    let next = goes.step so_far.seen_up_to so_far.shown in
    let last : Call = record { command = c; reply = r } in
    record {
      seen_up_to = next.0;
      shown = next.1;
      tokens = goes.tokens;
      read_faults = goes.read_faults ∙ (ap (λ ns. ns ++ read_fault_of r) so_far.read_faults ∙ sym (one_more calls last));
      run = λ trace is_history saw. subst (λ (n : ℕ). Run settings trace n fresh (calls ++ last ∷ []) (progress_at w after next.0)) (sym goes.number) (
          run_more settings trace v.number fresh calls (progress_at v before so_far.seen_up_to) last (progress_at w after next.0)
          (so_far.run trace is_history (saw_earlier v.seen w.seen goes.seen trace saw)) (next.2 trace is_history saw));
    }

-- Tokens that were given back are so in a longer history too, after fewer calls, and by a client that was shown less.
given_back_in : (xs ys : List ControllerCall) → IsPrefix xs ys → (client fewer known less shown : ℕ) → fewer ≤ known → less ≤ shown → (actions : List Action)
    → AllByRecursion (IsGivenBack xs client known shown) actions → AllByRecursion (IsGivenBack ys client fewer less) actions
given_back_in xs ys p client fewer known less shown few low [] all = tt
given_back_in xs ys p client fewer known less shown few low (a ∷ actions) all =
    let s = all.0 in
    let within : s.place < length xs = elim (slice_get_cases xs s.place).1 [
      | inl there ↦ there.1
      | inr gone ↦ absurd (cc (s.is_later.there, gone.1))
    ] in
    let later = s.is_later.later in
    let said = said_same xs ys p s.place shown within s.said in (
      record {
        place = s.place;
        is_later = record { later = omega (arith, few, later); there = (later_in xs ys p known s.place _ s.is_later).there };
        said = omega (arith, low, said);
      },
      given_back_in xs ys p client fewer known less shown few low actions all.1,
    )

-- all commands were answered, and the client gave back the tokens that it held
pub has_run : (settings : Settings) (calls : List Call) (v : Account) (pending : List Record) (w : Account)
    → Went settings calls v pending → GivesBack v w → HasRun settings v.number (commands_of calls) calls w
has_run settings calls v pending w went back = record {
  end = progress_at v pending went.seen_up_to;
  is_transcript = λ trace is_history saw. whole refl (went.run trace is_history (saw_earlier v.seen w.seen back.seen trace saw));
  number = back.number;
  mine = back.mine;
  shown = back.shown;
  had = (let low = went.shown in let had = back.had in omega (arith, low, had));
  said = λ trace is_history saw. given_back_in w.seen.controller_calls trace.controller_calls saw.controller_calls v.number (length v.seen.controller_calls) (length v.seen.controller_calls) went.seen_up_to (last_seen v.seen) (omega arith) went.shown (given_back v.asked back.shown) back.said;
  asked = back.asked;
  attempts = back.attempts;
  read_faults = back.read_faults ∙ went.read_faults;
}

-- the last call found no memory
pub has_run_short : (settings : Settings) (calls : List Call) (v : Account) (pending : List Record) (last : Command) (rest : List Command) (u w : Account) → Went settings calls v pending
    → Lacks settings v pending last u → GivesBack u w
    → HasRun settings v.number (commands_of (calls ++ record { command = last; reply = no_memory } ∷ []) ++ rest) (calls ++ record { command = last; reply = no_memory } ∷ []) w
has_run_short settings calls v pending last rest u w went lacks back = record {
  end = progress_at v pending went.seen_up_to;
  is_transcript = λ trace is_history saw. cut_off calls last rest refl refl
      (went.run trace is_history (saw_earlier v.seen w.seen (sees_on v.seen u.seen w.seen lacks.keeps.seen back.seen) trace saw)) (lacks.may went.seen_up_to);
  number = back.number ∙ lacks.keeps.number;
  mine = back.mine ∙ lacks.keeps.mine;
  shown = back.shown;
  had = (let low = went.shown in let rises = last_rises v.seen u.seen lacks.keeps.seen in let had = back.had in omega (arith, low, rises, had));
  said = λ trace is_history saw.
      let few = prefix_length v.seen.controller_calls u.seen.controller_calls lacks.keeps.seen.controller_calls in
      let low : went.seen_up_to ≤ last_seen u.seen = (let shown = went.shown in let rises = last_rises v.seen u.seen lacks.keeps.seen in omega (arith, shown, rises)) in
      let said : AllByRecursion (IsGivenBack w.seen.controller_calls v.number (length u.seen.controller_calls) (last_seen u.seen)) (given_back v.asked back.shown) = subst (λ n. AllByRecursion (IsGivenBack w.seen.controller_calls n (length u.seen.controller_calls) (last_seen u.seen)) (given_back v.asked back.shown)) lacks.keeps.number
      (subst (λ asked. AllByRecursion (IsGivenBack w.seen.controller_calls u.number (length u.seen.controller_calls) (last_seen u.seen)) (given_back asked back.shown)) lacks.keeps.asked back.said) in
      given_back_in w.seen.controller_calls trace.controller_calls saw.controller_calls v.number (length v.seen.controller_calls) (length u.seen.controller_calls) went.seen_up_to (last_seen u.seen) few low (given_back v.asked back.shown) said;
  asked = rw (← lacks.keeps.asked) back.asked;
  attempts = back.attempts ∙ lacks.keeps.attempts;
  read_faults = back.read_faults ∙ (lacks.keeps.read_faults ∙ (went.read_faults ∙ (sym (append-nil (read_faults_of calls)) ∙ sym (one_more calls (record { command = last; reply = no_memory })))));
}
