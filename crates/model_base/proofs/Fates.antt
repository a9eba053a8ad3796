-- The fate of a commit, by its status.
use Rattle.std.proofs.Common.{◌≡◌, ℕ, Option, Some, None, ap}
use Rattle.model_base.specs.Attempts.{WriteStatus, Fate, fate_at, status_in}

same_status : {a b : WriteStatus} → Some a ≡ Some b → a ≡ b
same_status e = cc

-- a commit with a status has a fate with that status
pub fate_with : (fate : Option Fate) (status : WriteStatus) → status_in fate ≡ Some status → (place : ℕ) × (decided : ℕ) × (fate ≡ fate_at place decided status)
fate_with None status is = absurd (cc is)
fate_with (Some f) status is = (f.place, f.decided, ap (fate_at f.place f.decided) (same_status is))
