use Rattle.std.proofs.Common.{◌≡◌, ◌∙◌}
use Rattle.base_maps.specs.Pages.{IsPage}
use Rattle.base_maps.proofs.PageSteps.{page_rows}
use Rattle.base_maps.proofs.page.Page.pairs.Goals as goal

pub returns : goal.returns
returns c =
    let old = c.self.inside in
    let are : (h : IsPage c.deref.result.now) → h.rows ≡ old.holds.rows =
    λ h. page_rows c.deref.result.now h old.holds.rows old.holds.short (c.deref.ensures.value ∙ old.holds.spelled) in
    rw are c.self.view_is
