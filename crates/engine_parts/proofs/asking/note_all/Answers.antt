use Rattle.std.proofs.Common.{◌≡◌, ◌≤◌, ◌<◌, ◌+◌, ◌++◌, ◌∙◌, ℕ, suc, Some, List, [], length, get_or, ap, sym, subst, refl, arith, append-nil}
use Rattle.std.specs.List.{AllZip}
use Rattle.std.proofs.lemmas.List.{drop_all, take_all}
use Rattle.engine_controller.specs.Passes.{seen_by}
use Rattle.engine_parts.specs.declared.requests.Answer.{Answer}
use Rattle.engine_parts.specs.Handled.{IsNotedAs}
use Rattle.engine_parts.proofs.Noting.{half_done, one_done}
use Rattle.engine_parts.proofs.asking.note_all.Goals as goal

pub loop-i-init : goal.loop-i-init
loop-i-init g c = record {
  in_range = omega arith;
  pass = c.requires.pass;
  client = refl;
  seen = refl;
  replies = ([], refl, tt);
}

pub loop-i-preserved : goal.loop-i-preserved
loop-i-preserved g c =
    let v = c.loop-i.invariant in let xs : List (ℕ × Answer) = c.args.replies.now in let i : ℕ = c.loop-i.i in
    let n = c.note.ensures in
    let h : i < length xs = c.loop-i-test.true in
    let noted_as = IsNotedAs c.args.controller.now (seen_by c.args.pass.now) in
    let ys : List (ℕ × Answer) = c.loop-i.replies in
    let y0 : ℕ × Answer = c.index-replies-i.result in
    let at : get_or ys i y0 ≡ get_or xs i y0 = half_done noted_as xs i ys v.replies.0 y0 h v.replies.1 v.replies.2 in
    let z : ℕ × Answer = get_or ys i y0 in
    record {
      in_range = (let more : i + 1 ≤ length xs = omega (arith, h) in more);
      pass = n.own.0;
      client = n.own.1 ∙ v.client;
      seen = n.seen ∙ v.seen;
      replies = one_done noted_as xs i (i + 1) ys v.replies.0 (z.0, c.put_note.new.self) y0 (let next : i + 1 ≡ suc i = omega arith in next) h v.replies.1 v.replies.2
          (ap (λ (y : ℕ × Answer). y.0) at, c.note.result, c.put_note.ensures ∙ ap (λ (y : ℕ × Answer). record y.1 { note = Some c.note.result }) at, n.note.0, n.note.1 ∙ v.seen);
    }

pub returns-clause-replies : goal.returns-clause-replies
returns-clause-replies g c =
    let v = c.loop-i.invariant in let xs : List (ℕ × Answer) = c.args.replies.now in
    let past = c.loop-i-test.false in
    let end : length xs ≤ c.loop-i.i = omega (arith, past) in
    let all = v.replies.1 ∙ (ap (λ (l : List (ℕ × Answer)). v.replies.0 ++ l) (drop_all c.loop-i.i xs end) ∙ append-nil v.replies.0) in
    subst (λ (z : List (ℕ × Answer) × List (ℕ × Answer)). AllZip (IsNotedAs c.args.controller.now (seen_by c.args.pass.now)) z.0 z.1) (λ j. (take_all c.loop-i.i xs end j, sym all j)) v.replies.2
