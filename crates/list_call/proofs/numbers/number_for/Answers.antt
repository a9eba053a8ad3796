use Rattle.std.proofs.Common.{◌≡◌, ◌∙◌, ℕ, Option, IfSome, sym, subst}
use Rattle.list_call.specs.Calls.{number_for}
use Rattle.list_call.proofs.Showing.{own_as_number, said_number}
use Rattle.list_call.proofs.numbers.number_for.Goals as goal

pub returns-then-is_some-clause-number : goal.returns-then-is_some-clause-number
returns-then-is_some-clause-number g c = said_number c.args.said (g.R.ReadAt.held c.args.file.now) (sym c.is_some.ensures ∙ c.if-is_some.true)

pub returns-in-Some-clause-number : goal.returns-in-Some-clause-number
returns-in-Some-clause-number g c =
    let told = g.R.ReadAt.held c.args.file.now in
    subst (λ (n : Option ℕ). IfSome told (λ file. n ≡ number_for c.args.said file)) c.in-Some.is
    (own_as_number c.args.said told c.in_ok-number.number (sym c.is_some.ensures ∙ c.if-is_some.false) c.in_ok-number.ensures.number)

pub returns-in_default-clause-number : goal.returns-in_default-clause-number
returns-in_default-clause-number g c = own_as_number c.args.said (g.R.ReadAt.held c.args.file.now) c.in_ok-number.number (sym c.is_some.ensures ∙ c.if-is_some.false) c.in_ok-number.ensures.number
