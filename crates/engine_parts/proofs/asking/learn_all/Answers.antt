use Rattle.std.proofs.Common.{◌≡◌, ◌<◌, ◌+◌, ◌∙◌, ℕ, List, Option, take, get_or, set, ◌≤◌, sym, ap, subst, refl, arith, length}
use Rattle.std.proofs.lemmas.List.{take_more}
use Rattle.std.proofs.lemmas.List.Edits.{map_over_more}
use mathlib.Core.List.{IsPrefix}
use Rattle.engine_controller.specs.Passes.{client_of, seen_by, GoesOn, IsPassOf}
use Rattle.engine_controller.specs.Noted.{Noted}
use Rattle.engine_parts.specs.declared.requests.Request.{Request}
use Rattle.engine_parts.specs.Handled.{noted_in}
use Rattle.engine_parts.specs.Asking.{HasLearned}
use Rattle.engine_parts.proofs.Views.{half_at, learned_none, learned_more, learned_nothing, legal_seen, unnoted}
use Rattle.engine_parts.proofs.asking.learn_all.Goals as goal
use Rattle.engine_parts.proofs.asking.learn_all.Goals.{in-Some, in_default}

pub loop-i-init : goal.loop-i-init
loop-i-init g c = record {
  in_range = omega arith;
  pass = c.requires.pass;
  client = refl;
  learned = learned_none (client_of c.args.pass.now) (seen_by c.args.pass.now) (legal_seen c.args.pass.now);
  requests = refl;
}

pub loop-i-preserved : goal.loop-i-preserved
loop-i-preserved g c =
    let v = c.loop-i.invariant in let xs : List (ℕ × Request) = c.args.requests.now in let i : ℕ = c.loop-i.i in
    let was = c.args.pass.now in let k : ℕ = client_of was in
    let h : i < length xs = c.loop-i-test.true in
    let x0 : ℕ × Request = c.index-requests-i.result in
    let x : ℕ × Request = get_or xs i x0 in
    let at : get_or c.loop-i.requests i x0 ≡ x = ap (λ l. get_or l i x0) v.requests ∙ half_at unnoted xs i x0 h in
    let more = sym (take_more xs i x0 h) in
    let ys : List (ℕ × Request) = c.loop-i.requests in
    let z : ℕ × Request = get_or ys i x0 in
    let all = map_over_more unnoted xs ys i z h v.requests (ap (λ (d : ℕ × Request). get_or ys i d) c.index-requests-i.is) in
    let step = elim c.match-take_note.branch as (λ _. IsPassOf c.args.controller.now c.match-take_note.pass × (client_of c.match-take_note.pass ≡ k) × HasLearned k (seen_by was) (take (i + 1) xs) (seen_by c.match-take_note.pass)) [
      | in-Some w ↦ subst (λ p. IsPassOf c.args.controller.now p × (client_of p ≡ k) × HasLearned k (seen_by was) (take (i + 1) xs) (seen_by p)) (sym w.pass-is) (
        w.learn.ensures.own.0,
        w.learn.ensures.own.1 ∙ v.client,
        subst (λ l. HasLearned k (seen_by was) l (seen_by w.learn.new.pass)) more
            (learned_more k (seen_by was) (seen_by c.loop-i.pass) (seen_by w.learn.new.pass) (take i xs) x v.learned
            (subst (λ j. GoesOn j (seen_by c.loop-i.pass) (seen_by w.learn.new.pass)) v.client w.learn.ensures.seen)
            (subst (λ (o : Option Noted). IsPrefix (noted_in o) (seen_by w.learn.new.pass)) (sym w.in-Some.is ∙ (c.take_note.ensures.value ∙ ap (λ (y : ℕ × Request). y.1.note) at)) w.learn.ensures.noted)),
      )
      | in_default w ↦ subst (λ p. IsPassOf c.args.controller.now p × (client_of p ≡ k) × HasLearned k (seen_by was) (take (i + 1) xs) (seen_by p)) (sym w.pass-is) (
        v.pass,
        v.client,
        subst (λ l. HasLearned k (seen_by was) l (seen_by c.loop-i.pass)) more
            (learned_nothing k (seen_by was) (seen_by c.loop-i.pass) (take i xs) x v.learned (sym (ap (λ (y : ℕ × Request). y.1.note) at) ∙ (sym c.take_note.ensures.value ∙ w.in_default.is))),
      )
    ] in
    record {
      in_range = (let n : i + 1 ≤ length xs = omega (arith, h) in n);
      pass = step.0;
      client = step.1;
      learned = step.2;
      requests = ap (λ (q : Request). set ys i (z.0, q)) c.take_note.ensures.after ∙ all;
    }
