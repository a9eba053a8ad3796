-- A version that waited goes into the tree, or goes on waiting: all versions stay.
use Rattle.std.proofs.Common.{◌≡◌, ◌+◌, ◌*◌, ◌^◌, ◌≤◌, List, [], ◌∷◌, ◌++◌, length, Option, Some, None, sym, ap, ◌∙◌, subst, arith}
use Rattle.std.proofs.lemmas.Nat.{mul-le}
use Rattle.table_rule.specs.declared.content.Version.{Version}
use Rattle.table_nodes.specs.Chains.{versions_of, AreKeyed, insert_in_chains}
use Rattle.table_tree.specs.Versions.{AreOrdered, IsNew, insert_version}
use Rattle.table_tree.specs.Pages.{Branch}
use Rattle.table_tree.specs.Shapes.{with_versions, AreNew, chains_below, height_below, HasDense, IsKept}
use Rattle.table_tree.proofs.Order.{sorted_inserted}
use Rattle.table_tree.proofs.VersionOrder.{version_total}
use Rattle.table_tree.specs.Versions.{version_order}
use Rattle.table_tree.proofs.Keyed.{inserted_versions, keyed_inserted}
use Rattle.table_tree.proofs.Waiting.{one_more_new}

-- a root with many keys for its height is low
pub low_of : (root : Option Branch) → HasDense root → 16 ^ height_below root ≤ length (chains_below root) + 1
low_of None d = omega arith
low_of (Some b) d =
    let wide : 16 ^ b.height * 1 ≤ 16 ^ b.height * (b.own + 1) = mul-le (16 ^ b.height) 1 (16 ^ b.height) (b.own + 1) (omega arith) (omega arith) in
    omega (arith, wide, d)

module _ (root new : Option Branch) (v : Version) (rest : List Version) (kept : IsKept root (v ∷ rest)) (dense : HasDense new) where
  abbrev before : List Version
  before = versions_of (chains_below root)

  -- it goes in
  module _ (inserted : chains_below new ≡ insert_in_chains (chains_below root) v) where
    now : versions_of (chains_below new) ≡ insert_version before v
    now = ap versions_of inserted ∙ inserted_versions v (chains_below root) kept.keyed kept.apart.0

    pub settled : IsKept new rest
    settled = record {
      ordered = subst AreOrdered (sym now) (sorted_inserted version_order version_total v before kept.ordered);
      keyed = subst AreKeyed (sym inserted) (keyed_inserted v (chains_below root) kept.keyed);
      apart = subst (λ (l : List Version). AreNew l rest) (sym now) kept.apart.1;
      dense = dense;
    }

    pub settled_versions : with_versions (versions_of (chains_below new)) rest ≡ with_versions before (v ∷ rest)
    settled_versions = ap (λ (l : List Version). with_versions l rest) now

  -- it goes on waiting
  module _ (same : chains_below new ≡ chains_below root) where
    now_too : versions_of (chains_below new) ≡ before
    now_too = ap versions_of same

    pub unsettled : IsKept new (v ∷ rest)
    unsettled = record {
      ordered = subst AreOrdered (sym now_too) kept.ordered;
      keyed = subst AreKeyed (sym same) kept.keyed;
      apart = subst (λ (l : List Version). AreNew l (v ∷ rest)) (sym now_too) kept.apart;
      dense = dense;
    }

-- one more version waits
pub waits : (root : Option Branch) (late more : List Version) (v : Version) → IsKept root late → IsNew v (with_versions (versions_of (chains_below root)) late)
    → more ≡ late ++ v ∷ [] → IsKept root more
waits root late more v kept new is = record {
  ordered = kept.ordered;
  keyed = kept.keyed;
  apart = subst (AreNew (versions_of (chains_below root))) (sym is) (one_more_new (versions_of (chains_below root)) late v kept.apart new);
  dense = kept.dense;
}
