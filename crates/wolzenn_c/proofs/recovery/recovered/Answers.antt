use Rattle.std.proofs.Common.{List, ℕ, ◌∙◌, subst}
use Rattle.log_recovery.specs.Recovering.{HasRecovered}
use Rattle.wolzenn_c.proofs.LogsInTurn.{first_log}
use Rattle.wolzenn_c.proofs.recovery.recovered.Goals as goal

-- It is the first of several logs.
pub returns-clause-logs : goal.returns-clause-logs
returns-clause-logs c =
    let shown = c.in_ok-recovered.recovered in let held = c.in_ok-pairs.ensures in
    first_log c.args.number c.args.log.now shown c.in_ok-pairs.pairs (subst (λ (l : List ℕ). HasRecovered c.args.number l shown) c.new-disk.ensures c.in_ok-recovered.ensures.recovered)
    held.pairs held.last (held.goes_on ∙ c.is_whole-whole.ensures)
