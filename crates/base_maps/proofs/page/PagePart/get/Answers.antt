use Rattle.std.specs.Option.{option_copied}
use Rattle.base_maps.proofs.PageSteps.{place_found}
use Rattle.base_maps.proofs.page.PagePart.get.Goals as goal

pub returns : goal.returns
returns c =
    let place = c.place_of.result in
    place_found c.args.key.now c.args.self.now place.before.now (option_copied place.value) place.after.now c.place_of.ensures
