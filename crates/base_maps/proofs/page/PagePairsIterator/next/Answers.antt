use Rattle.std.proofs.Common.{◌≡◌, ◌∷◌, sym, ◌∙◌, arith, rules}
use Rattle.base_maps.specs.Pages.{IsPage, same_rows}
use Rattle.base_maps.proofs.PageSteps.{none_left, rest_page}
use Rattle.base_maps.proofs.page.PagePairsIterator.next.Goals as goal

pub returns-in_err-key-clause-steps : goal.returns-in_err-key-clause-steps
returns-in_err-key-clause-steps c =
    let old = c.self.inside in
    let none = sym c.self.view_is ∙ none_left old.bytes.now old.holds (search rules) in
    rw c.from_residual.ensures (none, none)

pub invariant_of-self-inside : goal.invariant_of-self-inside
invariant_of-self-inside c =
    let old = c.self.inside in
    ((rest_page old.bytes.now old.holds (c.in_ok-key.key.now, c.in_ok-key.value.now) c.in_ok-key.rest.now c.in_ok-key.ensures).0, tt)

pub returns-clause-steps : goal.returns-clause-steps
returns-clause-steps c =
    let old = c.self.inside in
    let rest = rest_page old.bytes.now old.holds (c.in_ok-key.key.now, c.in_ok-key.value.now) c.in_ok-key.rest.now c.in_ok-key.ensures in
    let are : (h : IsPage c.in_ok-key.rest.now) → h.rows ≡ rest.0.rows = λ h. same_rows c.in_ok-key.rest.now h rest.0 in
    rw are (sym c.self.view_is ∙ rest.1)

pub returns-clause-goes : goal.returns-clause-goes
returns-clause-goes c =
    let old = c.self.inside in
    let rest = rest_page old.bytes.now old.holds (c.in_ok-key.key.now, c.in_ok-key.value.now) c.in_ok-key.rest.now c.in_ok-key.ensures in
    let are : (h : IsPage c.in_ok-key.rest.now) → h.rows ≡ rest.0.rows = λ h. same_rows c.in_ok-key.rest.now h rest.0 in
    let first : c.args.self.now ≡ (c.in_ok-key.key.now, c.in_ok-key.value.now) ∷ rest.0.rows = sym c.self.view_is ∙ rest.1 in
    rw (are, first) (record { on = λ _. (tt, tt, omega arith); keeps = tt; rests = λ _. tt })
