use Rattle.std.proofs.Common.{◌≡◌, [], refl}
use Rattle.base_maps.specs.Pages.{IsPage}
use Rattle.base_maps.proofs.PageSteps.{page_rows}
use Rattle.base_maps.proofs.page.Page.new.Goals as goal

pub returns : goal.returns
returns c =
    let are : (h : IsPage c.new.result.items) → h.rows ≡ [] = λ h. page_rows c.new.result.items h [] tt c.new.ensures.items in
    rw are refl
