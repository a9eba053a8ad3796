-- Which fragments recovery of an image meets, compared with recovery of the file.
use Rattle.std.specs.Prelude.{ℕ, List, Option}
use Rattle.model_base.specs.Log.{Fragment}
use Rattle.model_base.specs.Recovery.{Meets}

-- Where recovery of the image meets a fragment whose checksum is right, recovery of the file meets the same fragment
-- at the same place.
abbrev pub MeetsNoOther : Option ℕ → List ℕ → List ℕ → Type 0
MeetsNoOther number image file = (place : ℕ) (f : Fragment) → Meets number image place f → Meets number file place f
