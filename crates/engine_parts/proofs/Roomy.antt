-- One more layout with room for all clients.
use Rattle.std.proofs.Common.{ℕ, List, [], ◌∷◌, ◌++◌}
use Rattle.engine_parts.specs.declared.layout.Layout.{Layout}
use Rattle.engine_parts.specs.Layout.{IsRoomy, AreRoomy}

pub roomy_more : (n : ℕ) (xs : List Layout) (x : Layout) → AreRoomy n xs → IsRoomy n x → AreRoomy n (xs ++ x ∷ [])
roomy_more n [] x h one = (one, tt)
roomy_more n (y ∷ ys) x h one = (h.0, roomy_more n ys x h.1 one)
