-- A client that found no sequences left was told of a stop, whose holder hadn't been shown that client's batch.
use Rattle.std.proofs.Common.{◌≡◌, ℕ, ◌+◌, ◌<◌, max, nat_lt, false, Some, None, List, [], ◌∷◌, ◌++◌, take, refl, ap, ◌∙◌, subst, arith, IfSome, append_assoc}
use Rattle.std.specs.Prelude.{codes}
use Rattle.model_base.specs.Varint.{varint_within}
use Rattle.model_base.specs.declared.write.Refusal.TheVariants as no
use Rattle.model_base.specs.Calls.{found, refused}
use Rattle.model_base.specs.Controller as controller
use Rattle.model_base.specs.Controller.{ControllerCall}
use Rattle.model_base.specs.Tokens.{given_back, holds_stop, said_in}
use Rattle.model_base.specs.Trace.{Trace}
use Rattle.model_base.specs.Attempts.{Attempt, full, with_attempt}
use Rattle.model_base.specs.Progress.{Progress, fresh, early_refusal}
use Rattle.model_base.specs.Replies.{Gets, WentToGroup}
use Rattle.model_base.specs.Runs.{Run}
use Rattle.model_base.specs.Outcomes.{IsLegal}
use Rattle.model_base.proofs.Fates.{fate_with}
use Rattle.model_rows.specs.Examples.{put_a1, put_b2, plain, noslow, key_a}
use Rattle.model_rows.specs.Ignored.{one_left, full_script, full_then_stopped_calls, blind_then_seeing_calls, blind_once_full}
use Rattle.model_rows.proofs.OthersStop.{stops_among, stops_in, of_client, IsToldIn, WasLetOn, told_in_call, let_on, wider}
use Rattle.model_rows.proofs.Steps.{run_of, is_accepted, is_answered, is_attempted}
use Rattle.model_rows.proofs.ThroughStop.{stopped_by, blind_order, with_more}

passes : early_refusal 1 16777216 false (put_b2 ∷ []) plain ≡ None
unfolding varint_within
passes = refl

passes_at_once : early_refusal 1 16777216 false (put_b2 ∷ []) noslow ≡ None
unfolding varint_within
passes_at_once = refl

-- Client 1's second commit found no sequences left, in a group whose delay comes after calls that say what the client
-- had been shown. Then the client learned of a stop.
record FoundFull (calls : List ControllerCall) (end : Progress) : Type 0 where
  no_room : WasLetOn end
  said : 72057594037927934 < said_in (take (no_room.own.place + 1) calls)
  knows : ℕ
  told : IsToldIn calls no_room.own.decided knows (record { stops = 1; delays = 0; wait = 0 })
  asked : end.asked ≡ []

found_full : (trace : Trace) (end : Progress) → Run one_left trace 1 fresh full_then_stopped_calls end → FoundFull trace.controller_calls end
found_full trace end run =
    let begun = run.0 in let first = run.2.0 in let next = run.2.2.0 in let second = run.2.2.2.0 in let last = run.2.2.2.2.0 in
    let a = is_accepted one_left trace 1 begun plain 72057594037927935 72057594037927935 (put_a1 ∷ []) first run.2.1.replies in
    let adding = run.2.2.1.replies in
    let shown : first.seen_up_to ≡ max begun.seen_up_to 72057594037927935 = ap (λ (x : Progress). x.seen_up_to) a.after in
    let still : next.seen_up_to ≡ first.seen_up_to = ap (λ (x : Progress). x.seen_up_to) adding in
    let pending : next.pending ≡ put_b2 ∷ [] = ap (λ (x : Progress). x.pending) adding ∙ ap (λ (x : Progress). x.pending ++ put_b2 ∷ []) a.after in
    let asked : next.asked ≡ [] = ap (λ (x : Progress). x.asked) adding ∙ ap (λ (x : Progress). x.asked) a.after ∙ ap (λ (x : Progress). x.asked) run.1.replies in
    let b = is_attempted one_left trace 1 next plain (refused (no.SequenceFull 72057594037927935)) second (rw (pending, asked) passes) run.2.2.2.1.replies in
    let f = fate_with b.0 (full 72057594037927935) b.1.0 in
    let own : Attempt = record { records = next.pending; options = plain; status = full 72057594037927935; place = f.0; decided = f.1 } in
    let went : WentToGroup trace.controller_calls next.known second.known next.seen_up_to (record { status = full 72057594037927935; place = f.0; decided = f.1 }) =
    subst (λ fate. IfSome fate (WentToGroup trace.controller_calls next.known second.known next.seen_up_to)) f.2 b.4 in
    let said = went.said in let known = went.asked.2 in
    let pending_again : second.pending ≡ put_b2 ∷ [] = ap (λ (x : Progress). x.pending) b.2 ∙ pending in
    let asked_again : second.asked ≡ [] = ap (λ (x : Progress). x.asked) b.2 ∙ asked in
    let third = is_attempted one_left trace 1 second noslow (refused (no.Incomplete 1 0 0)) last (rw (pending_again, asked_again) passes_at_once) run.2.2.2.2.1.replies in
    let m = with_more second.attempts second.pending noslow third.0 in
    let told = told_in_call trace.controller_calls (holds_stop second.asked) 1 second.known last.known _ third.0 third.1.1 in
    let was : second.attempts ≡ next.attempts ++ own ∷ [] = ap (λ (x : Progress). x.attempts) b.2 ∙ ap (with_attempt next.attempts next.pending plain) f.2 in
    record {
      no_room = record {
        before = next.attempts;
        own = own;
        more = m.0;
        attempts = ap (λ (x : Progress). x.attempts) run.2.2.2.2.2 ∙ ap (λ (x : Progress). x.attempts) third.2 ∙ m.1 ∙ ap (λ hs. hs ++ m.0) was ∙ append_assoc next.attempts (own ∷ []) m.0;
        waits = refl;
        went_on = refl;
        later = went.asked.1;
      };
      said = omega (arith, shown, still, said);
      knows = last.known;
      told = wider trace.controller_calls second.known last.known f.1 last.known _ (omega (arith, known)) (omega arith) told;
      asked = ap (λ (x : Progress). x.asked) run.2.2.2.2.2 ∙ ap (λ (x : Progress). x.asked) third.2 ∙ asked_again;
    }

-- The call that let the second commit's group go on reported no stop, so the only stop comes after that call. Who took it
-- was shown the first batch.
pub not_blind_when_full : (ended : ℕ) → IsLegal one_left ended full_script blind_once_full → ⊥
not_blind_when_full ended legal =
    let l = legal.legal in let trace = legal.trace in let calls = trace.controller_calls in
    let one = l.each 0 _ _ refl refl in let two = l.each 1 _ _ refl refl in let mine = one.2 in let other = two.2 in
    let s = found_full trace mine.end (run_of one_left trace 1 _ full_then_stopped_calls mine.end (λ e. cc) mine.is_transcript) in
    let free = let_on calls l.groups legal.attempts l.are_groups mine.end (one.1 ∙ ap (λ h. Some h) mine.commits) s.no_room in
    let run = run_of one_left trace 2 _ blind_then_seeing_calls other.end (λ e. cc) other.is_transcript in
    let nothing = found 72057594037927934 None in let its_batch = found 72057594037927935 (Some (codes "1")) in
    let read = is_answered one_left (key_a.family ∷ []) run.0 nothing run.2.0 (Gets trace run.0 key_a nothing run.2.0) refl run.2.1.replies in
    let later = is_answered one_left (key_a.family ∷ []) run.2.0 its_batch run.2.2.0 (Gets trace run.2.0 key_a its_batch run.2.2.0) refl run.2.2.1.replies in
    let token = run.1.replies in
    let stopped = stopped_by trace l.is_trace.heard run.0 token 72057594037927934 read.not_below in
    let asked : other.end.asked ≡ controller.stop token.1 ∷ [] =
    ap (λ (x : Progress). x.asked) run.2.2.2 ∙ ap (λ (x : Progress). x.asked) later.after ∙ ap (λ (x : Progress). x.asked) read.after ∙ ap (λ (x : Progress). x.asked) token.2.after in
    let of_one : stops_in (of_client 1 calls) ≡ 0 = ap stops_among (mine.tokens ∙ ap (λ asked. asked ++ given_back asked mine.shown) s.asked) in
    let of_two : stops_in (of_client 2 calls) ≡ 1 = ap stops_among (other.tokens ∙ ap (λ asked. asked ++ given_back asked other.shown) asked) in
    blind_order calls l.is_trace.controller_calls l.is_trace.tokens of_one of_two s.no_room.own.place s.no_room.own.decided s.knows free s.told 72057594037927934 s.said stopped (nat_lt stopped.at free.at) refl
