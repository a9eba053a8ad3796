-- The rule of grouping in plain words: a group is the longest front of the queue in which all writers after the leader
-- may join it.
use Rattle.std.specs.Prelude.{◌≡◌, ℕ, ◌+◌, ◌<◌, ◌≤◌, true, false, List, ◌∷◌, length, take, slice_get, Some}
use Rattle.model_base.specs.declared.group.Item.{Item}
use Rattle.model_base.specs.Grouping.{cap, size_of}

-- a writer may join a leader's group, where the sizes, up to its own, add up to `total`
pub record MayJoin (max : ℕ) (leader : Item) (total : ℕ) (i : Item) : Type 0 where
  pub leader_takes : leader.alone ≡ false
  pub not_alone : i.alone ≡ false
  pub sync : i.options.sync ≡ true → leader.options.sync ≡ true
  pub no_slowdown : i.options.no_slowdown ≡ leader.options.no_slowdown
  pub no_log : i.options.no_log ≡ leader.options.no_log
  pub within : total ≤ cap max leader

-- the writer at a place of the queue may join, by the sum of its own size and of those before it
abbrev pub MayJoinAt : ℕ → Item → List Item → ℕ → Item → Type 0
MayJoinAt max leader behind place i = MayJoin max leader (size_of (take (place + 1) (leader ∷ behind))) i

-- the group of a leader and of those after it in the queue has n writers, and is the longest that the rule allows
pub record IsLongestGroup (max : ℕ) (leader : Item) (behind : List Item) (n : ℕ) : Type 0 where
  pub leader_in : 1 ≤ n
  pub within : n ≤ length (leader ∷ behind)
  pub joined : (place : ℕ) (i : Item) → 1 ≤ place → place < n → slice_get (leader ∷ behind) place ≡ Some i
      → MayJoinAt max leader behind place i
  pub refused : (i : Item) → slice_get (leader ∷ behind) n ≡ Some i → MayJoinAt max leader behind n i → ⊥
