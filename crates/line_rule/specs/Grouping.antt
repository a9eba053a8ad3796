-- Which writers of the queue a leader takes: those of the grouping rule, where each word holds the code of a writer's
-- item.
use Rattle.std.specs.Prelude.{◌≡◌, ℕ, ◌+◌, ◌*◌, ◌/◌, ◌%◌, ◌==◌, List, [], ◌∷◌, ◌++◌, length, reverse, map}
use Rattle.model_base.specs.declared.group.Item.{Item}
use Rattle.model_base.specs.OptionBits.{bit_of, option_bits, options_of_bits}
use Rattle.model_base.specs.Grouping.{group_len}
use Rattle.line_rule.specs.declared.view.QueuedWriter.{QueuedWriter}
use Rattle.line_rule.specs.Chain.{Distinct, AllCoded}

-- an item as a number: the options' bits, 8 for an item that goes alone, and sixteen times the size
abbrev pub code_of : Item → ℕ
code_of i = option_bits i.options + 8 * bit_of i.alone + 16 * i.size

-- the item that a number represents
abbrev pub item_of : ℕ → Item
item_of code = record { size = code / 16; options = options_of_bits code; alone = code / 8 % 2 == 1 }

-- the code of a request
abbrev pub code_by : {Request : Type 0} → (Request → Item) → Request → ℕ
code_by item q = code_of (item q)

module _ {Request : Type 0} where
  abbrev pub codes : List (QueuedWriter Request) → List ℕ
  codes [] = []
  codes (e ∷ es) = e.code ∷ codes es

  -- the items of a queue in link order; a queue is kept newest first
  abbrev pub items : List (QueuedWriter Request) → List Item
  items queue = map item_of (reverse (codes queue))

  -- from the queue, whose oldest writer is own, the leader takes the group of the grouping rule, and `left` is left
  abbrev pub IsGroup : ℕ → QueuedWriter Request → List (QueuedWriter Request) → List (QueuedWriter Request) → Type 0
  IsGroup max own group left = length (group ++ own ∷ []) ≡ group_len max (items (left ++ (group ++ own ∷ [])))

  -- the same; the group's writers, with own, are of different clients, and their requests and codes are as the list's
  -- law asks
  abbrev pub IsWhole : (Request → ℕ → Type 0) → ℕ → QueuedWriter Request → List (QueuedWriter Request)
      → List (QueuedWriter Request) → Type 0
  IsWhole asks max own group left = IsGroup max own group left × Distinct (group ++ own ∷ [])
      × AllCoded asks (group ++ own ∷ [])
