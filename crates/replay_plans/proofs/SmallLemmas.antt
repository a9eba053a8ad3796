-- Small plans, line by line.
use Rattle.std.proofs.Common.{◌≡◌, ℕ, ◌-◌, ◌^◌, ◌↔◌, ◌+◌, min, drop, ◌≤◌, true, List, [], ◌∷◌, ◌++◌, length, Some, None, refl, sym, subst, arith}
use Rattle.std.specs.Prelude.{⊤, slice_get}
use Rattle.std.proofs.lemmas.Bool.{leb-true, le-leb}
use Rattle.std.proofs.lemmas.List.{drop_all}
use Rattle.model_base.specs.declared.limits.TheConstants.{MAX_SIZE}
use Rattle.model_base.specs.Batch.{Record, size_of_batch}
use Rattle.model_base.specs.Calls.{Command, add, clear, commit}
use Rattle.replay_plans.specs.Small.{AreSmall, fits, size_with, size_after}
use Rattle.replay_plans.proofs.LineLemmas.{front_line}
use Rattle.replay_plans.proofs.SizeLemmas.{size_is, size_push}

abbrev pub SmallFrom : ℕ → List Command → Type 0
SmallFrom size [] = ⊤
SmallFrom size (x ∷ left) = (fits x size ≡ true) × SmallFrom (size_after x size) left

-- `size` is the size of a batch of these records, at most the largest 64-bit number
abbrev Sized : ℕ → List Record → Type 0
Sized size added = size ≡ min (size_of_batch added) (2 ^ 64 - 1)

sized_more : (size : ℕ) (added : List Record) (r : Record) → Sized size added → Sized (size_with (Some r) size) (added ++ r ∷ [])
sized_more size added r h = omega (arith, h, size_push added r)

sized_same : (size : ℕ) (added : List Record) → Sized size added → Sized (size_with None size) added
sized_same size added h = omega (arith, h)

sized_empty : Sized 12 []
sized_empty = omega (arith, size_is [])

small_to : (size : ℕ) (added : List Record) (left : List Command) → Sized size added → SmallFrom size left → AreSmall added left
small_to size added [] h s = tt
small_to size added (add r ∷ left) h s = small_to _ (added ++ r ∷ []) left (sized_more size added r h) s.1
small_to size added (clear ∷ left) h s = small_to 12 [] left sized_empty s.1
small_to size added (commit how ∷ left) h s = (omega (arith, h, leb-true size MAX_SIZE s.0), small_to _ added left (sized_same size added h) s.1)
small_to size added (other ∷ left) h s = small_to _ added left (sized_same size added h) s.1

small_of : (size : ℕ) (added : List Record) (left : List Command) → Sized size added → AreSmall added left → SmallFrom size left
small_of size added [] h s = tt
small_of size added (add r ∷ left) h s = (refl, small_of _ (added ++ r ∷ []) left (sized_more size added r h) s)
small_of size added (clear ∷ left) h s = (refl, small_of 12 [] left sized_empty s)
small_of size added (commit how ∷ left) h s = (le-leb size MAX_SIZE (omega (arith, h, s.0)), small_of _ added left (sized_same size added h) s.1)
small_of size added (other ∷ left) h s = (refl, small_of _ added left (sized_same size added h) s)

pub small_lines : (plan : List Command) → SmallFrom 12 plan ↔ AreSmall [] plan
small_lines plan = (small_to 12 [] plan sized_empty, small_of 12 [] plan sized_empty)

-- the lines from a place on are small just where the line there may come and those after it are small
pub small_next : (plan : List Command) (i size : ℕ) (x : Command) → slice_get plan i ≡ Some x → SmallFrom size (drop i plan) ↔ ((fits x size ≡ true) × SmallFrom (size_after x size) (drop (i + 1) plan))
small_next plan i size x here = (λ s. subst (SmallFrom size) (front_line plan i x here) s, λ s. subst (SmallFrom size) (sym (front_line plan i x here)) s)

pub small_end : (plan : List Command) (i size : ℕ) → length plan ≤ i → SmallFrom size (drop i plan)
small_end plan i size h = subst (SmallFrom size) (sym (drop_all i plan h)) tt
