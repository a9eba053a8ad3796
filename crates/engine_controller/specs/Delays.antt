-- Where a client's delays are in the controller's history.
use Rattle.std.specs.Prelude.{ℕ, ◌+◌, Bool, List, [], ◌∷◌, ◌++◌, ◌==◌, ◌&&◌, if◌then◌else◌}
use Rattle.model_base.specs.Controller.{ControllerCall}
use Rattle.model_base.specs.Groups.{is_delay}

abbrev pub place_if : Bool → ℕ → List ℕ
place_if b place = if b then place ∷ [] else []

-- the places of a client's delays, where the first of these calls is at this place
abbrev pub delays_from : ℕ → ℕ → List ControllerCall → List ℕ
delays_from client place [] = []
delays_from client place (t ∷ calls) =
    place_if ((t.client == client) && is_delay t.action) place ++ delays_from client (place + 1) calls

abbrev pub delays_of : ℕ → List ControllerCall → List ℕ
delays_of client calls = delays_from client 0 calls
