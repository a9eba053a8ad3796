use Rattle.std.proofs.Common.{◌∙◌, ap, length}
use Rattle.std.specs.Option.{option_copied}
use Rattle.base_maps.proofs.PageSteps.{put_page, put_made, put_rows, put_count, none_copied}
use Rattle.base_maps.proofs.page.Page.put.Goals as goal

pub of_bytes-requires : goal.of_bytes-requires
of_bytes-requires c =
    let place = c.place_of-place.result in
    put_page c.args.key.now c.args.value.now c.args.self.now place.before.now (option_copied place.value) place.after.now c.place_of-place.ensures
    c.in_ok-bytes.ensures.short c.in_ok-bytes.bytes.items c.in_ok-bytes.ensures.bytes

pub returns-clause-ok : goal.returns-clause-ok
returns-clause-ok c =
    let place = c.place_of-place.result in let key = c.args.key.now in let value = c.args.value.now in let own = option_copied place.value in
    put_made key value c.args.self.now place.before.now own place.after.now c.place_of-place.ensures
    c.in_ok-bytes.ensures.short c.in_ok-bytes.bytes.items c.in_ok-bytes.ensures.bytes c.of_bytes.result c.of_bytes.ensures.short c.of_bytes.ensures.spelled
    ∙ put_rows key value c.args.self.now place.before.now own place.after.now c.place_of-place.ensures

pub returns-clause-added : goal.returns-clause-added
returns-clause-added c =
    let place = c.place_of-place.result in let key = c.args.key.now in let value = c.args.value.now in let own = option_copied place.value in
    ap length (
    put_made key value c.args.self.now place.before.now own place.after.now c.place_of-place.ensures
    c.in_ok-bytes.ensures.short c.in_ok-bytes.bytes.items c.in_ok-bytes.ensures.bytes c.of_bytes.result c.of_bytes.ensures.short c.of_bytes.ensures.spelled
    )
    ∙ put_count key value c.args.self.now place.before.now own place.after.now c.place_of-place.ensures c.is_none-added.result
    (none_copied place.value c.is_none-added.result c.is_none-added.ensures)
