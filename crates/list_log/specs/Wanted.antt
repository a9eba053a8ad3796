-- Which records and operations are shown.
use Rattle.std.specs.Prelude.{ℕ, ◌+◌, ◌-◌, ◌&&◌, ◌||◌, ◌==◌, Bool, true, false, List, [], ◌∷◌, filter, bytes_eq, nat_le, Option, Some, None, option_map, if◌then◌else◌}
use Rattle.std.specs.List.{list_any}
use Rattle.std.specs.Option.{option_map_or}
use Rattle.model_base.specs.Map.{is_between}
use Rattle.batch_operations.specs.Operations.{Operation, layout_of}
use Rattle.batch_operations.specs.Shown.{ShownRecord}
use Rattle.batch_operations.specs.declared.head.Head.{Head}
use Rattle.batch_operations.specs.declared.layout.Layout.{Layout}
use Rattle.list_log.specs.declared.settings.Settings.{Settings}

-- the key whose operations are shown, if it isn't all of them
abbrev pub key_in : Settings → Option (List ℕ)
key_in settings = option_map (λ k. k.now) settings.key

-- the last sequence of a record; if none of its operations count, the one that its head says
abbrev pub last_of : Head → ℕ
last_of head = head.sequence + (head.count - 1)

-- one of its sequences is from the first to the second; of a record without a head that isn't asked
abbrev pub is_in_range : ℕ → ℕ → Option Head → Bool
is_in_range from to None = true
is_in_range from to (Some head) = nat_le head.sequence to && nat_le from (last_of head)

abbrev pub is_counted : ℕ → Bool
is_counted tag = option_map_or (λ (l : Layout). l.counts) (layout_of tag) false

-- a range deletion, in a family that it names or without one
abbrev is_range : ℕ → Bool
is_range tag = tag == 14 || tag == 15

-- the key is the first string, or in the range of the two
abbrev has_first : List ℕ → List (List ℕ) → Bool
has_first key [] = false
has_first key (first ∷ others) = bytes_eq first key

abbrev has_in_range : List ℕ → List (List ℕ) → Bool
has_in_range key (first ∷ end ∷ []) = is_between first end key
has_in_range key strings = has_first key strings

-- The operation is about this key. Notes and marks, which take no sequence, are about none.
abbrev pub is_about : List ℕ → Operation → Bool
is_about key o = is_counted o.tag
    && (if is_range o.tag then has_in_range key o.strings else has_first key o.strings)

abbrev pub is_wanted : Option (List ℕ) → Operation → Bool
is_wanted None o = true
is_wanted (Some key) o = is_about key o

-- what is shown of a record
abbrev pub chosen : Option (List ℕ) → ShownRecord → ShownRecord
chosen key shown = record shown { operations = filter (is_wanted key) shown.operations }

-- The record is shown: it is in the range, and one of its operations is shown if a key is asked for.
abbrev pub is_shown : Settings → ShownRecord → Bool
is_shown settings shown = is_in_range settings.from settings.to shown.head
    && option_map_or (λ key. list_any (is_about key) shown.operations) (key_in settings) true
