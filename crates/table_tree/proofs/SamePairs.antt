-- Two maps with the same value at each key are equal.
use Rattle.std.proofs.Common.{◌≡◌, None}
use Rattle.std.specs.List.{AllByRecursion}
use Rattle.std.specs.Map.{keys_of}
use Rattle.std.specs.declared.cmp.Ordering.TheVariants.{Less}
use Rattle.model_base.specs.declared.key.Key.{Key}
use Rattle.model_base.specs.Map.{Pairs, key_order, value_at}
use Rattle.table_rule.proofs.Keys.{key_total, equal_keys}
use Rattle.table_tree.proofs.Maps.{AreAscending}
use Rattle.table_tree.proofs.SameEntries as entries

pub none_above : (q : Key) (m : Pairs) → AllByRecursion (λ y. key_order q y ≡ Less) (keys_of m) → value_at m q ≡ None
none_above q m a = entries.none_above key_order key_total equal_keys q m a

pub same_pairs : (m n : Pairs) → AreAscending m → AreAscending n → ((q : Key) → value_at m q ≡ value_at n q) → m ≡ n
same_pairs m n s t h = entries.same_entries key_order key_total equal_keys m n s t h
