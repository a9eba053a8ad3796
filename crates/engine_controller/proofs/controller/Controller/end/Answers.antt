use Rattle.std.proofs.Common.{ap, ◌∙◌}
use Rattle.model_base.specs.Tokens.{tokens_of}
use Rattle.engine_controller.specs.Passes.{client_of, seen_by}
use Rattle.engine_controller.proofs.Account.{gives_stop, gives_slow, gave_both}
use Rattle.engine_controller.proofs.controller.Controller.end.Goals as goal

pub returns-clause-tokens : goal.returns-clause-tokens
returns-clause-tokens g c =
    let seen = seen_by c.args.pass.now in
    let middle = seen_by c.unstop.new.pass in
    let after = seen_by c.unslow.new.pass in
    let s = c.unstop.ensures in
    let w = c.unslow.ensures in
    ap (λ n. tokens_of n after) (w.own.1 ∙ s.own.1)
    ∙ gave_both (client_of c.args.pass.now) c.args.shown seen middle after
    (gives_stop c.unstop.result c.unslow.result _ _ c.args.shown seen middle after s.own.1 s.done s.not_held w.done w.not_held)
    (gives_slow c.unstop.result c.unslow.result _ _ c.args.shown seen middle after s.own.1 s.done s.not_held w.done w.not_held)

pub returns-clause-calls : goal.returns-clause-calls
returns-clause-calls g c =
    let seen = seen_by c.args.pass.now in
    let middle = seen_by c.unstop.new.pass in
    let after = seen_by c.unslow.new.pass in
    let s = c.unstop.ensures in
    let w = c.unslow.ensures in (
      middle,
      gives_stop c.unstop.result c.unslow.result _ _ c.args.shown seen middle after s.own.1 s.done s.not_held w.done w.not_held,
      gives_slow c.unstop.result c.unslow.result _ _ c.args.shown seen middle after s.own.1 s.done s.not_held w.done w.not_held,
    )
