use Rattle.std.proofs.Common.{sym, subst, ◌<◌}
use Rattle.log_batch.proofs.Greatest.{none_missing}
use Rattle.log_batch.proofs.checks.missing_in.Goals as goal

pub returns-then-greatest_family-families : goal.returns-then-greatest_family-families
returns-then-greatest_family-families c =
    sym (none_missing c.args.families c.args.batch.now.records (subst (λ n. n < c.args.families) c.greatest_family.ensures c.if-greatest_family-families.true))
