-- The order of keys.
use Rattle.std.proofs.Common.{◌≡◌, ℕ, ◌<◌, List, [], ◌∷◌, sym, refl}
use Rattle.std.specs.declared.cmp.Ordering.{Ordering}
use Rattle.std.specs.declared.cmp.Ordering.TheVariants.{Less, Equal, Greater}
use Rattle.std.specs.Ordering.{ordering_then, nat_cmp}
use Rattle.std.specs.Cmp.{IsTotalOrder, on_total, then_total, nat_cmp_total}
use Rattle.std.specs.Cmp.Lexicographic.{nat_list_cmp_total}
use Rattle.std.proofs.lemmas.Cmp.{ranked}
use Rattle.model_base.specs.declared.key.Key.{Key}
use Rattle.model_base.specs.Map.{byte_order, key_order}

pub key_total : IsTotalOrder key_order
key_total = then_total (on_total (λ (k : Key). k.family) nat_cmp_total) (on_total (λ (k : Key). k.bytes) nat_list_cmp_total)

equal_bytes : (a b : List ℕ) → byte_order a b ≡ Equal → a ≡ b
equal_bytes [] [] e = refl
equal_bytes [] (y ∷ b) e = absurd (cc)
equal_bytes (x ∷ a) [] e = absurd (cc)
equal_bytes (x ∷ a) (y ∷ b) e = go (nat_cmp x y) refl e (equal_bytes a b)
  where
    go : (o : Ordering) → nat_cmp x y ≡ o → ordering_then o (byte_order a b) ≡ Equal → (byte_order a b ≡ Equal → a ≡ b) → x ∷ a ≡ y ∷ b
    go Less p e rest = absurd (cc)
    go Equal p e rest = let same = ranked x y Equal (sym p) in let others = rest e in cc
    go Greater p e rest = absurd (cc)

-- Keys that compare as equal are the same.
pub equal_keys : (k l : Key) → key_order k l ≡ Equal → k ≡ l
equal_keys k l e = go (nat_cmp k.family l.family) refl e
  where
    go : (o : Ordering) → nat_cmp k.family l.family ≡ o → ordering_then o (byte_order k.bytes l.bytes) ≡ Equal → k ≡ l
    go Less p e = absurd (cc)
    go Equal p e =
        let family : k.family ≡ l.family = ranked k.family l.family Equal (sym p) in
        let bytes : k.bytes ≡ l.bytes = equal_bytes k.bytes l.bytes e in
        λ i. record { family = family i; bytes = bytes i }
    go Greater p e = absurd (cc)
