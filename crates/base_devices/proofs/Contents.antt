-- What is said of the content of a disk that tells it is said of the disk, and the other way round.
use Rattle.std.proofs.Common.{List, ℕ, Option, Some, None, IfSome}
use Rattle.base_devices.specs.Disk.{Disk}
use Rattle.base_devices.specs.OnlyReads.{content_of}

pub of_content : (told : Option Disk) (P : List ℕ → Type 0) → IfSome (content_of told) P → IfSome told (λ d. P d.content)
of_content None P says = tt
of_content (Some d) P says = says

pub to_content : (told : Option Disk) (P : List ℕ → Type 0) → IfSome told (λ d. P d.content) → IfSome (content_of told) P
to_content None P says = tt
to_content (Some d) P says = says
