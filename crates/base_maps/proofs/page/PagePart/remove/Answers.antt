use Rattle.std.proofs.Common.{◌≡◌, ◌++◌, refl, sym, ◌∙◌, ap}
use Rattle.std.specs.Option.{option_copied}
use Rattle.base_maps.specs.Words.{bytes_of_pairs}
use Rattle.base_maps.specs.Pages.{IsPage}
use Rattle.base_maps.proofs.PageSteps.{page_rows, none_copied, cut_none, cut_rows, cut_count, cut_short, cut_spelled, cut_page}
use Rattle.base_maps.proofs.page.PagePart.remove.Goals as goal

pub returns-then-is_none-clause-rows : goal.returns-then-is_none-clause-rows
returns-then-is_none-clause-rows c =
    let place = c.place_of-place.result in
    cut_none c.args.key.now c.args.self.now place.before.now (option_copied place.value) place.after.now c.place_of-place.ensures
    (sym (none_copied place.value c.is_none.result c.is_none.ensures) ∙ c.if-is_none.true)

pub invariant_of-self-inside : goal.invariant_of-self-inside
invariant_of-self-inside c =
    let place = c.place_of-place.result in let key = c.args.key.now in let own = option_copied place.value in let h = c.place_of-place.ensures in
    let old = c.self.inside in
    let spelled = cut_spelled key c.args.self.now place.before.now own place.after.now h old.bytes.items c.keep_ends.new.bytes.items _ _
    (old.holds.spelled ∙ ap bytes_of_pairs c.self.view_is) refl refl c.keep_ends.ensures in
    (cut_page key c.args.self.now place.before.now own place.after.now h c.keep_ends.new.bytes.items spelled, tt)

pub returns-clause-rows : goal.returns-clause-rows
returns-clause-rows c =
    let place = c.place_of-place.result in let key = c.args.key.now in let own = option_copied place.value in let h = c.place_of-place.ensures in
    let old = c.self.inside in let now = c.keep_ends.new.bytes.items in
    let spelled = cut_spelled key c.args.self.now place.before.now own place.after.now h old.bytes.items now _ _
    (old.holds.spelled ∙ ap bytes_of_pairs c.self.view_is) refl refl c.keep_ends.ensures in
    let are : (k : IsPage now) → k.rows ≡ h.before ++ h.after =
    λ k. page_rows now k (h.before ++ h.after) (cut_short key c.args.self.now place.before.now own place.after.now h) spelled in
    rw are (cut_rows key c.args.self.now place.before.now own place.after.now h)

pub returns-clause-removed : goal.returns-clause-removed
returns-clause-removed c =
    let place = c.place_of-place.result in let key = c.args.key.now in let own = option_copied place.value in let h = c.place_of-place.ensures in
    let old = c.self.inside in let now = c.keep_ends.new.bytes.items in
    let spelled = cut_spelled key c.args.self.now place.before.now own place.after.now h old.bytes.items now _ _
    (old.holds.spelled ∙ ap bytes_of_pairs c.self.view_is) refl refl c.keep_ends.ensures in
    let are : (k : IsPage now) → k.rows ≡ h.before ++ h.after =
    λ k. page_rows now k (h.before ++ h.after) (cut_short key c.args.self.now place.before.now own place.after.now h) spelled in
    rw are (cut_count key c.args.self.now place.before.now own place.after.now h (sym (none_copied place.value c.is_none.result c.is_none.ensures) ∙ c.if-is_none.false))
