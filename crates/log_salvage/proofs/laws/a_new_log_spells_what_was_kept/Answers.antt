use Rattle.log_salvage.proofs.Held.{holds_none, holds_on}
use Rattle.log_salvage.proofs.laws.a_new_log_spells_what_was_kept.Goals as goal

pub returns : goal.returns
returns c = record { begins = holds_none; goes_on = holds_on }
