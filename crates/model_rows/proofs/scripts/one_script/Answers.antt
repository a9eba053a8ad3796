use Rattle.std.proofs.Common.{refl}
use Rattle.std.specs.Fmt.{digits}
use Rattle.model_rows.proofs.scripts.one_script.Goals as goal

pub returns-clause-whole : goal.returns-clause-whole
unfolding digits
returns-clause-whole c = refl

pub returns-clause-without_last_line_feed : goal.returns-clause-without_last_line_feed
unfolding digits
returns-clause-without_last_line_feed c = refl
