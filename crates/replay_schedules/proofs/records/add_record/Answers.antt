use Rattle.std.proofs.Common.{◌≡◌, ◌++◌, List, ℕ, ap, ◌∙◌, sym, append-nil}
use Rattle.std.proofs.lemmas.Result.{on_ok_weaker}
use Rattle.replay_core.specs.Shown.{plans_in}
use Rattle.replay_schedules.proofs.RecordLemmas.{none_given, group_before, group_past, group_given}
use Rattle.replay_schedules.proofs.records.add_record.Goals as goal

pub returns-in_default : goal.returns-in_default
returns-in_default c = λ within follow.
    sym (ap (λ (rs : List (List ℕ)). c.args.records.now ++ rs) (none_given (plans_in c.args.core.now) c.args.since c.args.at c.args.group.now (sym c.run_of.ensures ∙ c.in_default.is)) ∙ append-nil c.args.records.now)

pub returns-then-run-since : goal.returns-then-run-since
returns-then-run-since c = λ within follow.
    sym (ap (λ (rs : List (List ℕ)). c.args.records.now ++ rs) (group_before (plans_in c.args.core.now) c.args.since c.args.at c.args.group.now c.in-Some.run' within follow (sym c.run_of.ensures ∙ c.in-Some.is) c.if-run-since.true) ∙ append-nil c.args.records.now)

pub returns-then-at-run : goal.returns-then-at-run
returns-then-at-run c = λ within follow.
    sym (ap (λ (rs : List (List ℕ)). c.args.records.now ++ rs) (group_past (plans_in c.args.core.now) c.args.since c.args.at c.args.group.now c.in-Some.run' within follow (sym c.run_of.ensures ∙ c.in-Some.is) c.if-at-run.true) ∙ append-nil c.args.records.now)

pub returns : goal.returns
returns c = λ within follow.
    let given = group_given (plans_in c.args.core.now) c.args.since c.args.at c.args.group.now c.in-Some.run' c.in_ok-bytes.bytes within follow (sym c.run_of.ensures ∙ c.in-Some.is) c.if-run-since.false c.if-at-run.false c.in_ok-bytes.ensures in
    on_ok_weaker c.push.result (λ e. e ∙ ap (λ (rs : List (List ℕ)). c.args.records.now ++ rs) given) c.push.ensures.ok
