use Rattle.std.proofs.Common.{◌≡◌, [], refl}
use Rattle.base_maps.specs.Pages.{IsPage}
use Rattle.base_maps.proofs.PageSteps.{page_rows}
use Rattle.base_maps.proofs.page.PagePairs.none.Goals as goal

pub returns : goal.returns
returns c =
    let are : (h : IsPage []) → h.rows ≡ [] = λ h. page_rows [] h [] tt refl in
    rw are refl
