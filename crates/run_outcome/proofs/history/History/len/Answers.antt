use Rattle.std.proofs.Common.{length, ap, sym, ◌∙◌}
use Rattle.run_outcome.specs.Views.{entries_in}
use Rattle.run_outcome.proofs.Entries.{length-entries_of}
use Rattle.run_outcome.proofs.history.History.len.Goals as goal

pub returns-in-OfOne : goal.returns-in-OfOne
returns-in-OfOne c =
    c.len.ensures ∙ (sym (length-entries_of 1 c.in-OfOne.list) ∙ (ap (λ b. length (entries_in b)) (sym c.in-OfOne.is) ∙ ap length c.self.view_is))
