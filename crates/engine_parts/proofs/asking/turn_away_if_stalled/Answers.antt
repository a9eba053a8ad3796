use Rattle.std.proofs.Common.{◌≢◌, ◌∙◌, ap, arith, inl, inr, subst, sym, ℕ, Err, Some}
use Rattle.model_base.specs.Controller.{look, ShowTokens}
use Rattle.model_base.proofs.Prefixes.{prefix_self}
use Rattle.engine_controller.specs.Looks.{look_of}
use Rattle.engine_controller.specs.Passes.{seen_by, EndsWith}
use Rattle.engine_controller.proofs.Account.{ends_last}
use Rattle.engine_parts.specs.declared.requests.Answer.{Answer}
use Rattle.engine_parts.specs.Handled.{held_up_with}
use Rattle.engine_parts.proofs.Stalls.{met_stall, saw_none}
use Rattle.engine_parts.proofs.Views.{only_more, only_none}
use Rattle.engine_parts.proofs.asking.turn_away_if_stalled.Goals as goal
use Rattle.engine_parts.proofs.asking.turn_away_if_stalled.Goals.{then-not-shows_tokens-via-then-not-shows_tokens, then-not-shows_tokens-via-else-not-shows_tokens+then-leader-eq0, then-not-shows_tokens-via-else-not-shows_tokens+else-leader-eq0+then-leader-client}

pub returns-then-not-shows_tokens-clause-looks : goal.returns-then-not-shows_tokens-clause-looks
returns-then-not-shows_tokens-clause-looks g c =
    let seen = seen_by c.args.pass.now in let now = seen_by c.look_at_stall-leader.new.pass in let numbers = look_of c.look_at_stall-leader.result.0 in
    only_more c.args.client seen seen now (Some numbers) (only_none c.args.client seen) (subst (λ j. EndsWith j seen look (Some numbers) now) c.requires.pass.1 c.look_at_stall-leader.ensures.asked)

pub returns-then-not-shows_tokens-clause-again : goal.returns-then-not-shows_tokens-clause-again
returns-then-not-shows_tokens-clause-again g c =
    let k : ℕ = c.args.client in
    let seen = seen_by c.args.pass.now in let now = seen_by c.look_at_stall-leader.new.pass in let numbers = look_of c.look_at_stall-leader.result.0 in
    let asked : EndsWith k seen look (Some numbers) now = subst (λ j. EndsWith j seen look (Some numbers) now) c.requires.pass.1 c.look_at_stall-leader.ensures.asked in
    elim c.then-not-shows_tokens.branch [
      | then-not-shows_tokens-via-then-not-shows_tokens w ↦
          inl (saw_none k seen seen now numbers (prefix_self seen) asked (λ (shown : ShowTokens numbers). let is = c.shows_tokens.ensures.none shown in let hidden = w.if-not-shows_tokens.true in absurd (cc)))
      | then-not-shows_tokens-via-else-not-shows_tokens+then-leader-eq0 w ↦ inr (inl (sym c.look_at_stall-leader.ensures.last ∙ w.if-leader-eq0.true))
      | then-not-shows_tokens-via-else-not-shows_tokens+else-leader-eq0+then-leader-client w ↦ inr (inr (sym c.look_at_stall-leader.ensures.last ∙ w.if-leader-client.true))
    ]

pub returns-clause-looks : goal.returns-clause-looks
returns-clause-looks g c =
    let seen = seen_by c.args.pass.now in let now = seen_by c.look_at_stall-leader.new.pass in let numbers = look_of c.look_at_stall-leader.result.0 in
    only_more c.args.client seen seen now (Some numbers) (only_none c.args.client seen) (subst (λ j. EndsWith j seen look (Some numbers) now) c.requires.pass.1 c.look_at_stall-leader.ensures.asked)

pub returns-clause-away : goal.returns-clause-away
returns-clause-away g c =
    let k : ℕ = c.args.client in let leader : ℕ = c.look_at_stall-leader.result.1 in
    let seen = seen_by c.args.pass.now in let now = seen_by c.look_at_stall-leader.new.pass in let numbers = look_of c.look_at_stall-leader.result.0 in
    let told = c.tell.ensures in
    let asked : EndsWith k seen look (Some numbers) now = subst (λ j. EndsWith j seen look (Some numbers) now) c.requires.pass.1 c.look_at_stall-leader.ensures.asked in
    let some : leader ≢ 0 = omega arith in
    let other : leader ≢ k = omega arith in
    let last = ends_last k seen look (Some numbers) now asked in
    record {
      may_not_wait = c.requires.may;
      numbers = numbers;
      answer = ap (λ (a : Answer). a.answer) told ∙ ap Err (c.refused_by.ensures ∙ ap (held_up_with numbers) c.batch_of-batch.ensures);
      no_note = ap (λ (a : Answer). a.note) told;
      place = last.place;
      is_later = last.is_later;
      met = met_stall k leader seen now numbers asked other (c.look_at_stall-leader.ensures.stalled some) (c.shows_tokens.ensures.shown (cc));
    }
