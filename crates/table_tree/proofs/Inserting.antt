-- Versions that are new.
use Rattle.std.proofs.Common.{◌≡◌, ◌≢◌, ◌+◌, ◌<◌, List, [], ◌∷◌, sym, arith}
use Rattle.std.specs.declared.cmp.Ordering.{Ordering}
use Rattle.std.specs.declared.cmp.Ordering.TheVariants.{Less, Equal, Greater}
use Rattle.std.specs.Ordering.{nat_cmp, ordering_then}
use Rattle.std.proofs.lemmas.Cmp.{ranked}
use Rattle.model_base.specs.Map.{key_order}
use Rattle.table_rule.specs.declared.content.Version.{Version}
use Rattle.table_tree.specs.Versions.{version_order, IsNew, AreBelow, insert_version}
use Rattle.table_tree.proofs.Order.{all_mapped, all_inserted}

pub both_equal : (c d : Ordering) → ordering_then c d ≡ Equal → d ≡ Equal
both_equal Less d e = absurd (cc)
both_equal Equal d e = e
both_equal Greater d e = absurd (cc)

-- a version whose sequence is above all others is new
pub new_above : (v : Version) (l : List Version) → AreBelow v.sequence l → IsNew v l
new_above v [] below = tt
new_above v (w ∷ l) below = (apart, new_above v l below.1)
  where
    apart : version_order v w ≢ Equal
    apart e =
        let parts = both_equal (key_order v.key w.key) (nat_cmp w.sequence v.sequence) e in
        let same = ranked w.sequence v.sequence Equal (sym parts) in
        let less = below.0 in
        omega arith

-- and with it inserted, all are below the next sequence
pub below_next : (v : Version) (l : List Version) → AreBelow v.sequence l → AreBelow (v.sequence + 1) (insert_version l v)
below_next v l below =
    all_inserted version_order (λ (w : Version). w.sequence < v.sequence + 1) v l (omega arith)
    (all_mapped (λ (w : Version). w.sequence < v.sequence) (λ (w : Version). w.sequence < v.sequence + 1) (λ w less. omega arith) l below)
