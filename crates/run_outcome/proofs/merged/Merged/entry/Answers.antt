use Rattle.std.proofs.Common.{◌<◌, length, ap, sym, ◌∙◌, subst}
use Rattle.std.specs.Prelude.{slice_get}
use Rattle.run_outcome.proofs.Merging.{merged_at}
use Rattle.run_outcome.proofs.merged.Merged.entry.Goals as goal

pub returns : goal.returns
returns c =
    let m = c.self.inside in
    let less = subst (λ n. c.args.at < n) (ap length (sym c.self.view_is)) c.requires in
    ap (λ es. slice_get es c.args.at) (sym c.self.view_is)
    ∙ merged_at m.lists.items m.order.items c.self.invariant c.args.at c.index-place.result.now c.index-list.result.now c.entry_of.result less c.index-place.ensures c.index-list.ensures c.entry_of.ensures
