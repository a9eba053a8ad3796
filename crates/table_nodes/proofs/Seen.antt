-- Whether a version is looked at: whether it is of the key, and not above the sequence.
use Rattle.std.proofs.Common.{◌≡◌, ◌≢◌, ℕ, ◌<◌, ◌≤◌, Bool, true, false, not, nat_eq, List, Option, refl, ap, subst}
use Rattle.std.proofs.lemmas.Bool.{and_left, and_right, and_from, le-leb, lt-leb}
use Rattle.std.proofs.lemmas.Cmp.{tied_itself}
use Rattle.std.specs.Cmp.Lexicographic.{pointwise, same_text, other_text}
use Rattle.std.specs.Ordering.{is_eq}
use Rattle.std.specs.declared.cmp.Ordering.{Ordering}
use Rattle.std.specs.declared.cmp.Ordering.TheVariants.{Less, Equal, Greater}
use Rattle.model_base.specs.declared.key.Key.{Key}
use Rattle.model_base.specs.Map.{key_order}
use Rattle.table_rule.proofs.Keys.{key_total, equal_keys}
use Rattle.table_rule.specs.declared.content.Version.{Version}
use Rattle.table_nodes.specs.Newest.{is_seen, newer_of, newest_with}

module _ (key : Key) (at : ℕ) (v : Version) where
  unseen_key : key ≢ v.key → is_seen key at v ≡ false
  unseen_key other = go (key_order key v.key) refl
    where
      go : (o : Ordering) → key_order key v.key ≡ o → is_seen key at v ≡ false
      go Less e = and_left _ _ (ap is_eq e)
      go Equal e = absurd (other (equal_keys key v.key e))
      go Greater e = and_left _ _ (ap is_eq e)

  seen : key ≡ v.key → v.sequence ≤ at → is_seen key at v ≡ true
  seen same low = and_from _ _ (ap is_eq (subst (λ k. key_order key k ≡ Equal) same (tied_itself key_total key))) (le-leb v.sequence at low)

  module _ (found : Option Version) where
    passed : is_seen key at v ≡ false → newest_with key at found v ≡ found
    passed e = rw e refl

    -- one above the sequence, or of another key, is passed
    pub passed_later : at < v.sequence → newest_with key at found v ≡ found
    passed_later late = passed (and_right _ _ (lt-leb v.sequence at late))

    pub passed_key : key ≢ v.key → newest_with key at found v ≡ found
    passed_key other = passed (unseen_key other)

    -- another one is compared with what was found
    pub compared : key ≡ v.key → v.sequence ≤ at → newest_with key at found v ≡ newer_of found v
    compared same low = rw (seen same low) refl

-- two lists that a test tells apart, and two that it doesn't
pub apart_from_test : (xs ys : List ℕ) → true ≡ not (pointwise nat_eq xs ys) → xs ≢ ys
apart_from_test xs ys e = other_text xs ys (go (pointwise nat_eq xs ys) e)
  where
    go : (b : Bool) → true ≡ not b → false ≡ b
    go true e = absurd (cc)
    go false e = refl

pub same_from_test : (xs ys : List ℕ) → false ≡ not (pointwise nat_eq xs ys) → xs ≡ ys
same_from_test xs ys e = same_text xs ys (go (pointwise nat_eq xs ys) e)
  where
    go : (b : Bool) → false ≡ not b → true ≡ b
    go true e = refl
    go false e = absurd (cc)
