-- What the functions for a recovery's pairs give to C.
use Rattle.std.specs.Prelude.{◌≡◌, ◌⊎◌, ℕ, ◌<◌, ◌≤◌, List, length, is_some, if◌then◌else◌}
use Rattle.model_base.specs.declared.key.Key.{Key}
use Rattle.model_base.specs.Map.{Pairs, value_at}
use Rattle.wolzenn_c.specs.declared.codes.TheConstants.{DONE, SMALL, END}
use Rattle.wolzenn_c.specs.Buffers.{begun_with}
use Rattle.log_in_memory.specs.InOrder.{keys_before}
use Rattle.wolzenn_c.specs.declared.pairs.WzPairLens.{WzPairLens}

-- the family of a pair's key, and how many bytes its key and its value have
abbrev pub lens_of : Key × List ℕ → WzPairLens
lens_of p = record { family = p.0.family; key_len = length p.0.bytes; value_len = length p.1 }

-- key and value are copied to the starts of two buffers, if both buffers have room
pub record CopiesPair (pair old : List ℕ × List ℕ) (code : ℕ) (new : List ℕ × List ℕ) : Type 0 where
  pub fits : length pair.0 ≤ length old.0 → length pair.1 ≤ length old.1
      → (code ≡ DONE) × (new ≡ (begun_with pair.0 old.0, begun_with pair.1 old.1))
  pub small : (length old.0 < length pair.0) ⊎ (length old.1 < length pair.1) → (code ≡ SMALL) × (new ≡ old)

-- where a key is found or would be, and whether it is there
abbrev pub Finds : Pairs → Key → ℕ → ℕ → Type 0
Finds pairs key code index =
    (code ≡ (if is_some (value_at pairs key) then DONE else END)) × (index ≡ keys_before pairs key)
