-- What the first client's pass does for all: it gives the first leader's note, and learns the last leader's.
use Rattle.std.proofs.Common.{◌≡◌, ℕ, zero, suc, ◌+◌, ◌<◌, slice_get, get_or, set, List, [], ◌∷◌, ◌++◌, Some, length, refl, ap, sym, ◌∙◌, subst, arith, append_assoc}
use mathlib.Core.List.{IsPrefix}
use Rattle.model_base.specs.Controller.{ControllerCall}
use Rattle.engine_controller.specs.declared.controller.Controller.{Controller}
use Rattle.engine_controller.specs.declared.pass.Pass.{Pass}
use Rattle.engine_controller.specs.Passes.{client_of, seen_by, AreOfOthers, GoesOn, IsHistoryOf, IsPassOf}
use Rattle.engine_groups.specs.AtStart.{ArePassesAtStart, IsPassAtStart}

module _ {C : Type 0} (controller : Controller C) where
  pub first_pass : (number : ℕ) (xs : List Pass) (p : Pass) → 0 < length xs → p ≡ get_or xs 0 p → ArePassesAtStart controller number xs → IsPassAtStart controller number p
  first_pass number [] p some at h = absurd (omega arith)
  first_pass number (x ∷ xs) p some at h = subst (IsPassAtStart controller number) (sym at) h.0

  -- after it gives a note, it has still seen nothing
  pub noted_first : (number : ℕ) (xs : List Pass) (p q : Pass) → 0 < length xs → p ≡ get_or xs 0 p → IsPassOf controller q → client_of q ≡ client_of p → seen_by q ≡ seen_by p
      → ArePassesAtStart controller number xs → ArePassesAtStart controller number (set xs 0 q)
  noted_first number [] p q some at own client seen h = absurd (omega arith)
  noted_first number (x ∷ xs) p q some at own client seen h = (record { own = own; client = client ∙ (ap client_of at ∙ h.0.client); unseen = seen ∙ (ap seen_by at ∙ h.0.unseen) }, h.1)

pub first_at : {A : Type 0} (xs : List A) (p : A) → 0 < length xs → p ≡ get_or xs 0 p → slice_get xs 0 ≡ Some p
first_at [] p some at = absurd (omega arith)
first_at (x ∷ xs) p some at = ap Some (sym at)

-- what holds at each place still holds after the first item was replaced by one for which it holds
pub each_after : {A : Type 0} (P : ℕ → A → Type 0) (xs : List A) (q : A) → P 0 q → ((i : ℕ) (x : A) → slice_get xs i ≡ Some x → P i x)
    → (i : ℕ) (x : A) → slice_get (set xs 0 q) i ≡ Some x → P i x
each_after P [] q own h i x at = absurd (cc)
each_after P (y ∷ ys) q own h zero x at = let is : q ≡ x = cc in subst (P 0) is own
each_after P (y ∷ ys) q own h (suc i) x at = h (suc i) x at

-- How the controller's history goes on

others_append : (client : ℕ) (a b : List ControllerCall) → AreOfOthers client a → AreOfOthers client b → AreOfOthers client (a ++ b)
others_append client [] b h k = k
others_append client (t ∷ a) b h k = (h.0, others_append client a b h.1 k)

pub goes_further : (client : ℕ) (a b c : List ControllerCall) → GoesOn client a b → GoesOn client b c → GoesOn client a c
goes_further client a b c g h = record {
  between = g.between ++ h.between;
  is = h.is ∙ (ap (λ l. l ++ h.between) g.is ∙ append_assoc a g.between h.between);
  others = others_append client g.between h.between g.others h.others;
  legal = h.legal;
}

pub begins_further : (client : ℕ) (a b c : List ControllerCall) → IsPrefix a b → GoesOn client b c → IsPrefix a c
begins_further client a b c p g = (p.0 ++ g.between, sym (append_assoc a p.0 g.between) ∙ (ap (λ l. l ++ g.between) p.1 ∙ sym g.is))

-- a history of the passes is also one of the passes as they were before the first one learned something
pub history_before : (xs : List Pass) (p q : Pass) (calls : List ControllerCall) → 0 < length xs → p ≡ get_or xs 0 p → GoesOn 1 (seen_by p) (seen_by q)
    → IsHistoryOf (set xs 0 q) calls → IsHistoryOf xs calls
history_before [] p q calls some at g w = absurd (omega arith)
history_before (y ∷ ys) p q calls some at g w = record { legal = w.legal; heard = w.heard; clients = w.clients; each = each }
  where
    each : (i : ℕ) (x : Pass) → slice_get (y ∷ ys) i ≡ Some x → GoesOn (i + 1) (seen_by x) calls
    each zero x is = let same : p ≡ x = cc in subst (λ (z : Pass). GoesOn 1 (seen_by z) calls) same (goes_further 1 (seen_by p) (seen_by q) calls g (w.each 0 q refl))
    each (suc i) x is = w.each (suc i) x is

pub last_seen : (xs : List Pass) (q : Pass) (seen_by_note calls : List ControllerCall) → 0 < length xs → IsPrefix seen_by_note (seen_by q) → IsHistoryOf (set xs 0 q) calls → IsPrefix seen_by_note calls
last_seen [] q seen_by_note calls some p w = absurd (omega arith)
last_seen (y ∷ ys) q seen_by_note calls some p w = begins_further 1 seen_by_note (seen_by q) calls p (w.each 0 q refl)
