-- Bytes that are drawn from a seed. On a disk they take the place of the bytes of a torn write.
use Rattle.std.specs.Prelude.{ℕ, ◌%◌, ◌^◌, List, map}
use Rattle.model_base.specs.Generator.{numbers_from}

-- n bytes of a seed: its first n numbers, each modulo 256
abbrev pub bytes_drawn : ℕ → ℕ → List ℕ
bytes_drawn n seed = map (λ number. number % 256) (numbers_from n (seed % 2 ^ 31))
