use Rattle.std.proofs.Common.{◌≡◌, refl, ◌∙◌, ap, subst}
use Rattle.std.specs.List.{AllByRecursion}
use Rattle.base_maps.specs.Words.{bytes_of_pairs, IsShort}
use Rattle.base_maps.specs.Pages.{IsPage}
use Rattle.base_maps.specs.Parts.{IsFrontOf}
use Rattle.base_maps.proofs.PageSteps.{front_of_part, split_fits, low_page, low_rows, high_page, high_rows, has_split}
use Rattle.base_maps.proofs.page.PagePart.split.Goals as goal

pub split_at-requires : goal.split_at-requires
split_at-requires c =
    let is = c.deref.ensures.value ∙ c.self.inside.holds.spelled ∙ ap bytes_of_pairs c.self.view_is in
    split_fits c.args.self.now c.in_ok-at.at c.in_ok-at.ensures c.deref.result.now is

pub invariant_of-self-inside : goal.invariant_of-self-inside
invariant_of-self-inside c =
    let short = subst (AllByRecursion IsShort) c.self.view_is c.self.inside.holds.short in
    let is = c.self.inside.holds.spelled ∙ ap bytes_of_pairs c.self.view_is in
    let low_is = c.shrink_to_fit.ensures.items ∙ c.truncate.ensures.items in
    (low_page c.args.self.now c.in_ok-at.at c.in_ok-at.ensures c.self.inside.bytes.items c.shrink_to_fit.new.self.items short is low_is, tt)

pub of_bytes-requires : goal.of_bytes-requires
of_bytes-requires c =
    let short = subst (AllByRecursion IsShort) c.self.view_is c.self.inside.holds.short in
    let is = c.deref.ensures.value ∙ c.self.inside.holds.spelled ∙ ap bytes_of_pairs c.self.view_is in
    let high_is = c.in-Ok.ensures.items ∙ c.split_at.ensures.back in
    high_page c.args.self.now c.in_ok-at.at c.in_ok-at.ensures c.deref.result.now c.in-Ok.upper.items short is high_is

pub invariant_of-self : goal.invariant_of-self
invariant_of-self c =
    let front = c.self.inside.front in let h = c.in_ok-at.ensures in
    let short = subst (AllByRecursion IsShort) c.self.view_is c.self.inside.holds.short in
    let is = c.self.inside.holds.spelled ∙ ap bytes_of_pairs c.self.view_is in
    let low_is = c.shrink_to_fit.ensures.items ∙ c.truncate.ensures.items in
    let are : (k : IsPage c.shrink_to_fit.new.self.items) → k.rows ≡ h.before =
    low_rows c.args.self.now c.in_ok-at.at h c.self.inside.bytes.items c.shrink_to_fit.new.self.items short is low_is in
    rw are (front_of_part h.before h.after front (subst (IsFrontOf front) (c.self.view_is ∙ h.parts) c.self.invariant) h.some)

pub returns : goal.returns
returns c =
    let h = c.in_ok-at.ensures in
    let short = subst (AllByRecursion IsShort) c.self.view_is c.self.inside.holds.short in
    let is = c.self.inside.holds.spelled ∙ ap bytes_of_pairs c.self.view_is in
    let low_is = c.shrink_to_fit.ensures.items ∙ c.truncate.ensures.items in
    let high_is = c.in-Ok.ensures.items ∙ c.split_at.ensures.back in
    let are : (k : IsPage c.shrink_to_fit.new.self.items) → k.rows ≡ h.before =
    low_rows c.args.self.now c.in_ok-at.at h c.self.inside.bytes.items c.shrink_to_fit.new.self.items short is low_is in
    let high : c.of_bytes.result ≡ h.after =
    high_rows c.args.self.now c.in_ok-at.at h c.deref.result.now c.in-Ok.upper.items short (c.deref.ensures.value ∙ is)
    high_is c.of_bytes.result c.of_bytes.ensures.short c.of_bytes.ensures.spelled in
    rw are (has_split c.args.self.now c.in_ok-at.at h h.before c.of_bytes.result refl high)
