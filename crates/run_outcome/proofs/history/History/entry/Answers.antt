use Rattle.std.proofs.Common.{◌<◌, length, ap, sym, ◌∙◌, subst}
use Rattle.run_outcome.specs.Views.{entries_in}
use Rattle.run_outcome.proofs.Entries.{length-entries_of}
use Rattle.run_outcome.proofs.history.History.entry.Goals as goal

pub entry_of-requires : goal.entry_of-requires
entry_of-requires c =
    subst (λ n. c.args.at < n) (ap length (sym c.self.view_is) ∙ (ap (λ b. length (entries_in b)) c.in-OfOne.is ∙ length-entries_of 1 c.in-OfOne.list)) c.requires
