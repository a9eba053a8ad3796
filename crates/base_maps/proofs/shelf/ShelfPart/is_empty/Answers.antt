use Rattle.std.proofs.Common.{◌≡◌, ◌==◌, ℕ, length, ◌∙◌, ap, arith}
use Rattle.std.specs.Vec.{vec_len}
use Rattle.model_base.specs.Map.{Rows}
use Rattle.base_maps.proofs.ShelfSteps.{no_pages}
use Rattle.base_maps.proofs.shelf.ShelfPart.is_empty.Goals as goal

pub returns : goal.returns
returns c =
    let pages = c.self.inside.pages in
    let len : vec_len pages ≡ length pages.items = omega (arith, pages.ok.0) in
    c.is_empty.ensures ∙ ap (λ (n : ℕ). n == 0) len ∙ no_pages pages.items c.self.invariant.0 ∙ ap (λ (l : Rows). length l == 0) c.self.view_is
