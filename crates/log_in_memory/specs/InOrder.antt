-- Places among pairs in the order of their keys.
use Rattle.std.specs.Prelude.{ℕ, length, filter}
use Rattle.std.specs.Ordering.{is_lt}
use Rattle.model_base.specs.declared.key.Key.{Key}
use Rattle.model_base.specs.Map.{Pairs, key_order}

-- how many pairs have a key before this one
abbrev pub keys_before : Pairs → Key → ℕ
keys_before pairs key = length (filter (λ p. is_lt (key_order p.0 key)) pairs)
