use Rattle.std.proofs.Common.{◌≡◌, ℕ, List, [], ◌++◌, length, sym, subst}
use Rattle.std.specs.Prelude.{Option, Some, None, IfSome, slice_get}
use Rattle.std.specs.Option.{option_to_list}
use Rattle.engine_controller.specs.declared.pass.Pass.{Pass}
use Rattle.engine_controller.specs.Passes.{IsPassOf}
use Rattle.engine_controller.proofs.Totals.{get_behind}
use Rattle.tests_engine.proofs.controller.last_of.Goals as goal

last_is : (P : Pass → Type 0) (r : Option Pass) (all front : List Pass) → all ≡ front ++ option_to_list r → ((i : ℕ) (p : Pass) → slice_get all i ≡ Some p → P p) → IfSome r P
last_is P None all front e each = tt
last_is P (Some p) all front e each = each (length front) p (subst (λ l. slice_get l (length front) ≡ Some p) (sym e) (get_behind front [] p))

pub returns : goal.returns
returns g = record { own = last_is (λ p. IsPassOf g.args.controller.now p) g.pop.result g.args.passes.clients.items g.pop.new.self.items g.pop.ensures.items (λ i p e. (g.requires.new.each i p e).0) }
