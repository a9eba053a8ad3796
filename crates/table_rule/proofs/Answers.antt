-- A locked tree answers by the map of what its seat has seen.
use Rattle.std.proofs.Common.{◌≡◌, ℕ, suc, ◌≤◌, eqb, cond, Bool, true, false, List, [], ◌∷◌, ◌++◌, filter, refl, sym, ap, ◌∙◌, inl, inr, ⊎_elim, arith, eq-eqb, eqb-true}
use Rattle.std.proofs.Math.Nat.{mod-one}
use Rattle.model_base.specs.Checksum.{crc32c}
use Rattle.table_rule.specs.declared.content.Version.{Version}
use Rattle.table_rule.specs.declared.content.MemberVersions.{MemberVersions}
use Rattle.table_rule.specs.Histories.{In, versions_of, standing, Runs, last_of, shard_bytes, shard_of, of_shard, AreRising, IsOrderUpTo}
use Rattle.table_rule.specs.Steps.{Shows}
use Rattle.table_rule.specs.declared.view.Opening.{Opening}
use Rattle.table_rule.proofs.Histories.{in_run, in_split, standing_below}

module _ {A : Type 0} (p : A → Bool) where
  -- the test's answer for the first element decides
  kept_at : (x : A) (xs : List A) (F : List A → Type 0) → (p x ≡ true → F (x ∷ filter p xs)) → (p x ≡ false → F (filter p xs)) → F (filter p (x ∷ xs))
  kept_at x xs F passes fails = go (p x) refl
    where
      go : (b : Bool) → p x ≡ b → F (cond b (x ∷ filter p xs) (filter p xs))
      go true e = passes e
      go false e = fails e

  in_kept : (a : A) (xs : List A) → In a (filter p xs) → In a xs × (p a ≡ true)
  in_kept a [] h = absurd h
  in_kept a (x ∷ xs) it = kept_at x xs (λ l. In a l → In a (x ∷ xs) × (p a ≡ true))
      (λ passes h. ⊎_elim (λ (e : x ≡ a). (inl e, ap p (sym e) ∙ passes)) (λ (t : In a (filter p xs)). let k = in_kept a xs t in (inr k.0, k.1)) h)
      (λ fails h. let k = in_kept a xs h in (inr k.0, k.1)) it

  kept_in : (a : A) (xs : List A) → In a xs → p a ≡ true → In a (filter p xs)
  kept_in a [] h passes = absurd h
  kept_in a (x ∷ xs) h passes = kept_at x xs (λ l. In a l)
      (λ _. ⊎_elim (λ (e : x ≡ a). inl e) (λ (t : In a xs). inr (kept_in a xs t passes)) h)
      (λ fails. ⊎_elim (λ (e : x ≡ a). absurd (cc (sym fails ∙ ap p e ∙ passes))) (λ (t : In a xs). kept_in a xs t passes) h)

  all_kept : (xs : List A) → ((x : A) → p x ≡ true) → filter p xs ≡ xs
  all_kept [] passes = refl
  all_kept (x ∷ xs) passes = kept_at x xs (λ l. l ≡ x ∷ xs) (λ _. ap (λ l. x ∷ l) (all_kept xs passes)) (λ fails. absurd (cc (sym fails ∙ passes x)))

rising_kept : (p : Version → Bool) (vs : List Version) → AreRising vs → AreRising (filter p vs)
rising_kept p [] r = tt
rising_kept p (v ∷ vs) r = kept_at p v vs AreRising (λ _. (λ w h. r.0 w (in_kept p w vs h).0, rising_kept p vs r.1)) (λ _. rising_kept p vs r.1)

rising_run : (last : ℕ) (vs : List Version) → Runs last vs → AreRising vs
rising_run last [] r = tt
rising_run last (v ∷ vs) r = ((λ w h. let k = (in_run (suc last) vs w r.1 h).0 in let e = r.0 in omega arith), rising_run (suc last) vs r.1)

-- two rising lists, one after the other, are one rising list, if no sequence of the first is above one of the second
pub rising_both : (xs ys : List Version) → AreRising xs → AreRising ys → ((x y : Version) → In x xs → In y ys → x.sequence ≤ y.sequence) → AreRising (xs ++ ys)
rising_both [] ys a b below = b
rising_both (x ∷ xs) ys a b below = (
  (λ w h. ⊎_elim (λ (t : In w xs). a.0 w t) (λ (t : In w ys). below x w (inl refl) t) (in_split w xs ys h)),
  rising_both xs ys a.1 b (λ v w i j. below v w (inr i) j),
)

-- What was seen of the shard is an order of the tree's versions up to the end of what was seen, whatever else the tree
-- has past it.
pub seen_order : (z : Opening) (j : ℕ) (seen : List (List MemberVersions)) (vs : List Version) → Runs z.start (versions_of seen) → Shows z j seen vs → IsOrderUpTo (last_of z.start seen) vs (of_shard z.shards j (standing z.base seen))
seen_order z j seen vs runs shows =
    let p : Version → Bool = λ v. eqb (shard_of z.shards v) j in let all : List Version = standing z.base seen in record {
      same = λ v. (
        (λ h. let k = in_kept p v all h in (shows.1 v k.0 (eqb-true (shard_of z.shards v) j k.1), standing_below z.base z.start seen v shows.3 runs k.0)),
        (λ h. kept_in p v all (shows.2 v h.0 h.1) (eq-eqb (shard_of z.shards v) j (shows.0 v h.0))),
      );
      rising = rising_kept p all (rising_both z.base (versions_of seen) shows.3.rising (rising_run z.start (versions_of seen) runs)
          (λ x y i j. let low = shows.3.below x i in let high = (in_run z.start (versions_of seen) y runs j).0 in omega arith));
    }

-- with one shard, those are all versions
pub one_shard : (vs : List Version) → of_shard 1 0 vs ≡ vs
one_shard vs = all_kept (λ v. eqb (shard_of 1 v) 0) vs (λ v. eq-eqb (shard_of 1 v) 0 (mod-one (crc32c (shard_bytes v.key))))
