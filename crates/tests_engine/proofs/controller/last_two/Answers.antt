use Rattle.std.proofs.Common.{◌≡◌, ℕ, List, [], ◌∷◌, ◌++◌, length, sym, subst}
use Rattle.std.specs.Prelude.{Some, slice_get}
use Rattle.engine_controller.specs.declared.pass.Pass.{Pass}
use Rattle.engine_controller.specs.Passes.{IsPassOf}
use Rattle.engine_controller.proofs.Totals.{get_behind, get_front}
use Rattle.tests_engine.proofs.controller.last_two.Goals as goal

last_two_are : (P : Pass → Type 0) (all middle front : List Pass) (p q : Pass) → all ≡ middle ++ p ∷ [] → middle ≡ front ++ q ∷ [] → ((i : ℕ) (x : Pass) → slice_get all i ≡ Some x → P x) → P p × P q
last_two_are P all middle front p q e f each =
    let behind = subst (λ l. slice_get l (length front) ≡ Some q) (sym f) (get_behind front [] q) in (
      each (length middle) p (subst (λ l. slice_get l (length middle) ≡ Some p) (sym e) (get_behind middle [] p)),
      each (length front) q (subst (λ l. slice_get l (length front) ≡ Some q) (sym e) (get_front middle (p ∷ []) q (length front) behind)),
    )

pub returns : goal.returns
returns c = record { own = last_two_are (λ p. IsPassOf c.args.controller.now p) c.args.passes.clients.items c.pop.new.self.items c.pop-2.new.self.items c.in_ok-last.last c.in_ok-other.other c.in_ok-last.ensures.items c.in_ok-other.ensures.items (λ i p e. (c.requires.new.each i p e).0) }
