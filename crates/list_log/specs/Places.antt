-- Where the count of each kind is.
use Rattle.std.specs.Prelude.{◌≡◌, ℕ, List}
use Rattle.std.specs.BTreeMap.{BTreeMap, get}
use Rattle.std.specs.List.{position}
use Rattle.std.specs.Option.{option_cmp}
use Rattle.std.specs.Ordering.{nat_cmp, on, then_cmp}
use Rattle.std.specs.declared.cmp.Ordering.{Ordering}
use Rattle.list_log.specs.Totals.{is_of}
use Rattle.list_log.specs.declared.tallies.Kind.{Kind}
use Rattle.list_log.specs.declared.tallies.Tally.{Tally}

-- by tag, and then by family
abbrev pub kind_order : Kind → Kind → Ordering
kind_order = then_cmp (on (λ k. k.tag) nat_cmp) (on (λ k. k.family) (option_cmp nat_cmp))

-- a kind has the place of its count, and none if it hasn't come yet
abbrev pub KnowsPlaces : BTreeMap Kind ℕ → List Tally → Type 0
KnowsPlaces places tallies = (k : Kind) → get kind_order places k ≡ position (is_of k.tag k.family) tallies
