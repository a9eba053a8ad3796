-- The order of versions.
use Rattle.std.proofs.Common.{◌≡◌, ◌⊎◌, ℕ, ◌<◌, false, leb, sym, refl, inl, inr, arith}
use Rattle.std.proofs.lemmas.Bool.Decides.{nat_tests}
use Rattle.std.specs.declared.cmp.Ordering.{Ordering}
use Rattle.std.specs.declared.cmp.Ordering.TheVariants.{Less, Equal, Greater}
use Rattle.std.specs.Ordering.{ordering_then, nat_cmp}
use Rattle.std.specs.Cmp.{IsTotalOrder, on_total, then_total, back_total, nat_cmp_total}
use Rattle.table_rule.proofs.Keys.{key_total}
use Rattle.std.proofs.lemmas.Cmp.{ranked}
use Rattle.model_base.specs.Map.{key_order}
use Rattle.table_rule.specs.declared.content.Version.{Version}
use Rattle.table_tree.specs.Versions.{version_order}

pub version_total : IsTotalOrder version_order
version_total = then_total (on_total (λ (v : Version). v.key) key_total) (on_total (λ (v : Version). v.sequence) (back_total nat_cmp_total))

either : (c d : Ordering) → ordering_then c d ≡ Less → (c ≡ Less) ⊎ ((c ≡ Equal) × (d ≡ Less))
either Less d p = inl refl
either Equal d p = inr (refl, p)
either Greater d p = absurd (cc)

-- a version before another has a smaller key, or the same one and a newer sequence
pub before_cases : (v w : Version) → version_order v w ≡ Less → (key_order v.key w.key ≡ Less) ⊎ ((key_order v.key w.key ≡ Equal) × (w.sequence < v.sequence))
before_cases v w p =
    elim (either (key_order v.key w.key) (nat_cmp w.sequence v.sequence) p) [
      | inl less ↦ inl less
      | inr same ↦ inr (same.0, ranked w.sequence v.sequence Less (sym same.1))
    ]

pub leb_above : (a b : ℕ) → b < a → leb a b ≡ false
leb_above a b p = grind (arith, nat_tests)
