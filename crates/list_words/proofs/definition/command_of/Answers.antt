use Rattle.std.proofs.Common.{◌≡◌, ◌<◌, ◌∙◌, ℕ, fold, length, sym, ap, take, arith}
use Rattle.std.proofs.Math.Seq.{take-length}
use Rattle.std.proofs.lemmas.List.Sums.{fold_more}
use Rattle.clap.specs.Words.{App, app_of, with_rule}
use Rattle.list_words.specs.Definition.{listed_rule}
use Rattle.list_words.specs.declared.definition.Argument.{Argument}
use Rattle.list_words.proofs.Additions.{with_argument}
use Rattle.list_words.proofs.definition.command_of.Goals as goal

pub loop-argument-preserved : goal.loop-argument-preserved
loop-argument-preserved c =
    let at = c.loop-argument in
    let lt : at.argument-index < length c.args.arguments.now = omega arith in
    let more = fold_more (λ (a : App) (x : Argument). with_rule a (listed_rule x)) (app_of c.shown-command.result) c.args.arguments.now at.argument-index _ lt in
    let added = with_argument _ _ _ _ _ c.in_ok-command.ensures c.arg_of.ensures.local c.arg_of.ensures.rule (record { app = at.invariant.0; local = at.invariant.1 }) in
    (added.app ∙ sym more, added.local)

pub returns : goal.returns
returns c =
    let step = λ (a : App) (x : Argument). with_rule a (listed_rule x) in
    let at = c.loop-argument in
    let end : at.argument-index ≡ length c.args.arguments.now = omega arith in
    let all = ap (λ (n : ℕ). take n c.args.arguments.now) end ∙ take-length c.args.arguments.now in
    record {
      app = at.invariant.0 ∙ ap (fold step (app_of c.shown-command.result)) all ∙ ap (λ (a : App). fold step a c.args.arguments.now) c.shown-command.ensures.app;
      local = at.invariant.1;
    }
