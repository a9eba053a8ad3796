use Rattle.std.proofs.Common.{◌≡◌, ℕ, [], length, true, refl, sym, ◌∙◌, subst, inl, inr}
use Rattle.line_rule.specs.declared.view.QueuedWriter.{QueuedWriter}
use Rattle.line_writers.specs.Seats.{answers_told, bound_of, clients_of}
use Rattle.model_base.specs.Replies.{WasHeldUp}
use Rattle.engine_controller.specs.Passes.{client_of, seen_by}
use Rattle.engine_parts.specs.declared.requests.Request.{Request}
use Rattle.engine_parts.specs.Asking.{OnlyLooks}
use Rattle.engine_parts.specs.Handled.{IsDropped, IsNoted, SawNoTokens}
use Rattle.engine_parts.proofs.Views.{only_none}
use Rattle.engine_parts.proofs.Whole.{item_in}
use Rattle.engine_groups.specs.Law.{wanted_in}
use Rattle.engine_groups.proofs.Stalls.{hasty_of, held_longer, holds_again, holds_told, looks_on, none_to_go, one_let_go, saw_none_since, stalled_again, stalled_told}
use Rattle.engine_groups.proofs.engine.GroupEngine.let_queued_go.Goals as goal

pub loop-init : goal.loop-init
loop-init g c = record {
  next = tt;
  finite = tt;
  pass = c.requires.pass.0;
  client = refl;
  looks = only_none (client_of c.args.pass.now) (seen_by c.args.pass.now);
  same = (c.requires.stalls.0, refl, refl);
  stalls = λ own group left rest seen h. (rest, h, λ gone. gone);
}

pub next_queued-requires : goal.next_queued-requires
next_queued-requires g c =
    let r = c.requires.stalls.1 in let v = c.loop.invariant in let k = v.stalls r.0 r.1 r.2 r.3 r.4 r.5 in
    record { stalled = (v.same.0, (r.0, r.1, r.2, k.0, r.4, k.1)) }

-- nobody is left who may not wait

pub returns-in_default-clause-writer : goal.returns-in_default-clause-writer
returns-in_default-clause-writer g c =
    let r = c.requires.stalls.1 in let v = c.loop.invariant in let k = v.stalls r.0 r.1 r.2 r.3 r.4 r.5 in let list = c.args.self.now.list in let N = c.next_queued in
    let none = N.ensures.none c.in_default.is r.0 r.1 r.2 k.0 r.4 k.1 in
    (N.ensures.belongs, N.ensures.client ∙ v.same.1, stalled_told (wanted_in list) (clients_of list) (bound_of list) r.0 r.1 r.2 r.4 (answers_told c.loop.writer) [] N.new.room N.new.writer none.1 ∙ v.same.2)

pub returns-in_default-clause-stalls : goal.returns-in_default-clause-stalls
returns-in_default-clause-stalls g c own group left rest seen h =
    let k = c.loop.invariant.stalls own group left rest seen h in let list = c.args.self.now.list in let N = c.next_queued in
    let none = N.ensures.none c.in_default.is own group left k.0 seen k.1 in
    ([], stalled_again (wanted_in list) (clients_of list) (bound_of list) own group left seen (answers_told c.loop.writer) [] N.new.room N.new.writer none.1)

pub returns-in_default-clause-let_go : goal.returns-in_default-clause-let_go
returns-in_default-clause-let_go g c own group left rest seen h =
    let k = c.loop.invariant.stalls own group left rest seen h in
    let none = c.next_queued.ensures.none c.in_default.is own group left k.0 seen k.1 in
    inr (k.2 (none_to_go c.args.self.now.controller k.0 none.0))

-- the leader has a request

pub drop_if_stalled-requires-clause-stalls : goal.drop_if_stalled-requires-clause-stalls
drop_if_stalled-requires-clause-stalls g c =
    let v = c.loop.invariant in let was = c.args.pass.now in
    subst (λ k. WasHeldUp (seen_by c.loop.pass) k (length (seen_by c.loop.pass))) (sym v.client) (held_longer (client_of was) (seen_by was) (seen_by c.loop.pass) v.looks.begins c.requires.pass.1)

pub drop_if_stalled-requires-clause-request : goal.drop_if_stalled-requires-clause-request
drop_if_stalled-requires-clause-request g c =
    let r = c.requires.stalls.1 in let k = c.loop.invariant.stalls r.0 r.1 r.2 r.3 r.4 r.5 in let q : Request = c.in-Some-next_queued.request in
    let t = c.in-Some-next_queued.ensures.some r.0 r.1 r.2 k.0 r.4 k.1 in let x : QueuedWriter Request = t.1 in let held = t.6 in
    let hasty : x.asked.options.no_slowdown ≡ true = sym (hasty_of c.codes_stand_for_items.ensures item_in x.asked x.code held.4.0) ∙ held.3 in (
      subst (λ controller. IsNoted controller q) c.requires.engine c.in-Some-next_queued.ensures.lawful,
      subst (λ (z : Request). z.options.no_slowdown ≡ true) t.5 hasty,
    )

-- its writer is let go

pub drop_queued-requires : goal.drop_queued-requires
drop_queued-requires g c =
    let r = c.requires.stalls.1 in let k = c.loop.invariant.stalls r.0 r.1 r.2 r.3 r.4 r.5 in let list = c.args.self.now.list in let N = c.next_queued in
    let t = c.in-Some-next_queued.ensures.some r.0 r.1 r.2 k.0 r.4 k.1 in let x : QueuedWriter Request = t.1 in
    let dropped = subst (λ (z : Request). IsDropped c.args.self.now.controller z c.in-Ok.answer) (sym t.5) c.in-Ok.ensures.dropped in
    record {
      holds = (
        N.ensures.belongs,
        (
          r.0,
          r.1,
          r.2,
          t.2,
          r.4,
          x,
          holds_again (wanted_in list) (clients_of list) (bound_of list) r.0 r.1 r.2 r.4 (answers_told c.loop.writer) x t.2 N.new.room N.new.writer t.6,
          subst (λ controller. IsDropped controller x.asked c.in-Ok.answer) (sym c.requires.engine) dropped,
        ),
      );
    }

pub loop-preserved : goal.loop-preserved
loop-preserved g c =
    let r = c.requires.stalls.1 in let v = c.loop.invariant in let list = c.args.self.now.list in let n : ℕ = clients_of list in let max : ℕ = bound_of list in let mine = answers_told c.loop.writer in
    let was = c.args.pass.now in let N = c.next_queued in let D = c.drop_if_stalled in let Q = c.drop_queued in
    let k0 = v.stalls r.0 r.1 r.2 r.3 r.4 r.5 in let t0 = c.in-Some-next_queued.ensures.some r.0 r.1 r.2 k0.0 r.4 k0.1 in
    let held0 = holds_again (wanted_in list) n max r.0 r.1 r.2 r.4 mine t0.1 t0.2 N.new.room N.new.writer t0.6 in
    let told0 = holds_told (wanted_in list) n max r.0 r.1 r.2 r.4 mine t0.1 t0.2 N.new.room N.new.writer t0.6 in
    let told = stalled_told (wanted_in list) n max r.0 r.1 r.2 r.4 (answers_told N.new.writer) t0.2 Q.new.room Q.new.writer (Q.ensures.stalled.1 r.0 r.1 r.2 t0.2 r.4 t0.1 held0) in
    record {
      next = tt;
      finite = tt;
      pass = D.ensures.pass.0;
      client = D.ensures.pass.1 ∙ v.client;
      looks = looks_on (client_of was) (seen_by was) (seen_by c.loop.pass) (seen_by D.new.pass) v.looks (subst (λ k. OnlyLooks k (seen_by c.loop.pass) (seen_by D.new.pass)) v.client D.ensures.looks);
      same = (Q.ensures.stalled.0, Q.ensures.client ∙ (N.ensures.client ∙ v.same.1), told ∙ (told0 ∙ v.same.2));
      stalls = λ own group left rest seen h.
          let k = v.stalls own group left rest seen h in let t = c.in-Some-next_queued.ensures.some own group left k.0 seen k.1 in
          let held = holds_again (wanted_in list) n max own group left seen mine t.1 t.2 N.new.room N.new.writer t.6 in
          let dropped = subst (λ (z : Request). IsDropped c.args.self.now.controller z c.in-Ok.answer) (sym t.5) c.in-Ok.ensures.dropped in (
            t.2,
            stalled_again (wanted_in list) n max own group left seen (answers_told N.new.writer) t.2 Q.new.room Q.new.writer (Q.ensures.stalled.1 own group left t.2 seen t.1 held),
            λ gone. k.2 (one_let_go c.args.self.now.controller k.0 t.0 t.2 t.1 c.in-Ok.answer t.3 t.4 dropped gone),
          );
    }

-- its writer stays

pub keep_queued-requires : goal.keep_queued-requires
keep_queued-requires g c =
    let r = c.requires.stalls.1 in let k = c.loop.invariant.stalls r.0 r.1 r.2 r.3 r.4 r.5 in let list = c.args.self.now.list in let N = c.next_queued in
    let t = c.in-Some-next_queued.ensures.some r.0 r.1 r.2 k.0 r.4 k.1 in
    let held = holds_again (wanted_in list) (clients_of list) (bound_of list) r.0 r.1 r.2 r.4 (answers_told c.loop.writer) t.1 t.2 N.new.room N.new.writer t.6 in
    record { holds = (N.ensures.belongs, (r.0, r.1, r.2, t.2, r.4, t.1, held, t.5 ∙ sym c.in-Err.ensures.back)) }

pub returns-in-Err-clause-writer : goal.returns-in-Err-clause-writer
returns-in-Err-clause-writer g c =
    let r = c.requires.stalls.1 in let v = c.loop.invariant in let list = c.args.self.now.list in let n : ℕ = clients_of list in let max : ℕ = bound_of list in let mine = answers_told c.loop.writer in
    let N = c.next_queued in let Q = c.keep_queued in
    let k = v.stalls r.0 r.1 r.2 r.3 r.4 r.5 in let t = c.in-Some-next_queued.ensures.some r.0 r.1 r.2 k.0 r.4 k.1 in
    let held = holds_again (wanted_in list) n max r.0 r.1 r.2 r.4 mine t.1 t.2 N.new.room N.new.writer t.6 in
    let told0 = holds_told (wanted_in list) n max r.0 r.1 r.2 r.4 mine t.1 t.2 N.new.room N.new.writer t.6 in
    let told = stalled_told (wanted_in list) n max r.0 r.1 r.2 r.4 (answers_told N.new.writer) [] Q.new.room Q.new.writer (Q.ensures.stalled.1 r.0 r.1 r.2 t.2 r.4 t.1 held) in
    (Q.ensures.stalled.0, Q.ensures.client ∙ (N.ensures.client ∙ v.same.1), told ∙ (told0 ∙ v.same.2))

pub returns-in-Err-clause-stalls : goal.returns-in-Err-clause-stalls
returns-in-Err-clause-stalls g c own group left rest seen h =
    let list = c.args.self.now.list in let n : ℕ = clients_of list in let max : ℕ = bound_of list in let mine = answers_told c.loop.writer in let N = c.next_queued in let Q = c.keep_queued in
    let k = c.loop.invariant.stalls own group left rest seen h in let t = c.in-Some-next_queued.ensures.some own group left k.0 seen k.1 in
    let held = holds_again (wanted_in list) n max own group left seen mine t.1 t.2 N.new.room N.new.writer t.6 in
    ([], stalled_again (wanted_in list) n max own group left seen (answers_told N.new.writer) [] Q.new.room Q.new.writer (Q.ensures.stalled.1 own group left t.2 seen t.1 held))

pub returns-in-Err-clause-let_go : goal.returns-in-Err-clause-let_go
returns-in-Err-clause-let_go g c own group left rest seen h =
    let v = c.loop.invariant in let was = c.args.pass.now in let D = c.drop_if_stalled in
    inl (saw_none_since (client_of was) (seen_by was) (seen_by c.loop.pass) (seen_by D.new.pass) v.looks.begins (subst (λ k. SawNoTokens k (seen_by c.loop.pass) (seen_by D.new.pass)) v.client c.in-Err.ensures.none))
