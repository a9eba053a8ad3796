-- The lists of all clients.
use Rattle.std.proofs.Common.{ℕ, List, [], ◌∷◌, ◌++◌}
use Rattle.line_writers.specs.declared.room.Lists.{Lists}
use Rattle.line_writers.specs.Rooms.{AreReady, AllReady}

pub ready_snoc : {Request Reply : Type 0} (n : ℕ) (xs : List (Lists Request Reply)) (x : Lists Request Reply) → AllReady n xs → AreReady n x → AllReady n (xs ++ x ∷ [])
ready_snoc n [] x all ready = (ready, tt)
ready_snoc n (y ∷ ys) x all ready = (all.0, ready_snoc n ys x all.1 ready)
