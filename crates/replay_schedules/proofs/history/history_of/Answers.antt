use Rattle.std.proofs.Common.{◌≡◌, length, map, take, ap, ◌∙◌, subst, sym, arith}
use Rattle.std.specs.List.{AllZip}
use Rattle.std.proofs.Math.Seq.{take-length}
use Rattle.run_outcome.specs.Shows.{ShowsEntry}
use Rattle.replay_core.specs.Shown.{plans_in}
use Rattle.replay_schedules.specs.Replaying.{entry_by}
use Rattle.replay_schedules.proofs.ReplayedHistory.{history_shown}
use Rattle.replay_schedules.proofs.history.history_of.Goals as goal

pub returns : goal.returns
returns c = λ o s is_core shows.
    let plans = plans_in c.args.core.now in
    let es = c.entries-entries.result.now in
    let end : c.loop-entry.entry-index ≡ length es = omega arith in
    let all : c.loop-entry.history.items ≡ map (entry_by plans) es =
    c.loop-entry.invariant ∙ ap (λ n. map (entry_by plans) (take n es)) end ∙ ap (map (entry_by plans)) (take-length es) in
    subst (λ h. AllZip ShowsEntry h s.entries) (sym all)
    (history_shown plans es s.entries (c.entries-entries.ensures.within o s is_core shows) (c.entries-entries.ensures.shown o s shows))
