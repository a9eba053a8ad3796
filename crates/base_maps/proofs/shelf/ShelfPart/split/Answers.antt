use Rattle.std.proofs.Common.{◌<◌, length, sym, ◌∙◌, arith}
use Rattle.base_maps.proofs.ShelfSteps.{low_pages, pages_split}
use Rattle.base_maps.proofs.shelf.ShelfPart.split.Goals as goal
use Rattle.base_maps.proofs.shelf.ShelfPart.split.Goals.{then-is_last, else-is_last}

pub invariant_of-self-2 : goal.invariant_of-self-2
invariant_of-self-2 c =
    let pages = c.self.inside.pages.items in let keep = c.if-is_last.keep in
    let some : 0 < keep = elim c.if-is_last.branch [ then-is_last w ↦ omega (arith, w.keep-is) | else-is_last w ↦ omega (arith, w.keep-is) ] in
    let fewer : keep < length pages = elim c.if-is_last.branch [ then-is_last w ↦ omega (arith, w.keep-is) | else-is_last w ↦ omega (arith, w.keep-is) ] in
    low_pages pages keep c.self.invariant.0 some fewer c.self.inside.front c.self.invariant.1 c.split_off.new.self.items c.in-Ok.ensures.items

pub returns : goal.returns
returns c =
    let pages = c.self.inside.pages.items in let keep = c.if-is_last.keep in
    let some : 0 < keep = elim c.if-is_last.branch [ then-is_last w ↦ omega (arith, w.keep-is) | else-is_last w ↦ omega (arith, w.keep-is) ] in
    let fewer : keep < length pages = elim c.if-is_last.branch [ then-is_last w ↦ omega (arith, w.keep-is) | else-is_last w ↦ omega (arith, w.keep-is) ] in
    let split = pages_split pages keep c.self.invariant.0 some fewer c.split_off.new.self.items c.in-Ok.pages.items c.in-Ok.ensures.items c.in-Ok.ensures.tail in
    (sym c.self.view_is ∙ split.0, split.1)
