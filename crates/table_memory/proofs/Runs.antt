-- Nodes that are moved from one list to another, and what a client has then done.
use Rattle.std.proofs.Common.{◌≡◌, ℕ, ◌<◌, true, false, eqb, List, [], ◌∷◌, ◌++◌, length, reverse, Option, Some, None, sym, ap, ◌∙◌, subst, ⊎_elim, eqb-true, eq-eqb, append_assoc, length-append, arith}
use Rattle.std.specs.Option.{MatchOption, option_eq}
use Rattle.std.proofs.lemmas.Bool.{false≢true}
use Rattle.std.proofs.lemmas.List.{reverse-append, length-reverse}
use Rattle.table_rule.specs.declared.content.Version.{Version}
use Rattle.table_rule.specs.declared.view.Stage.{Stage}
use Rattle.table_rule.specs.Histories.{In, shard_of}
use Rattle.table_rule.specs.Steps.{AreOfShard}
use Rattle.table_rule.proofs.Histories.{in_split}
use Rattle.table_calls.specs.Account.{Account, Steps}

module _ {A : Type 0} where
  -- the next node goes to the front of those that are taken, which have the last one first
  pub turned_more : (x : A) (turned after : List A) → after ≡ x ∷ turned → reverse after ≡ reverse turned ++ x ∷ []
  turned_more x turned after is = ap (λ (l : List A). reverse l) is ∙ reverse-append (x ∷ []) turned

  pub moved_more : (x : A) (all turned after left rest : List A) → all ≡ reverse turned ++ left → left ≡ x ∷ rest → after ≡ x ∷ turned → all ≡ reverse after ++ rest
  moved_more x all turned after left rest are cut is =
      are ∙ ap (λ (l : List A). reverse turned ++ l) cut ∙ sym (append_assoc (reverse turned) (x ∷ []) rest) ∙ ap (λ (l : List A). l ++ rest) (sym (turned_more x turned after is))

same_head : (v w : Version) (vs ws : List Version) → v ∷ vs ≡ w ∷ ws → v ≡ w
same_head v w vs ws e = cc

module _ (k shard : ℕ) where
  -- the first version of a list is of the shard that was found for it
  pub first_of : (found : Option ℕ) (left rest : List Version) (w : Version)
      → MatchOption found (left ≡ []) (λ s. (s < k) × ((v : Version) × (more : List Version) × (left ≡ v ∷ more) × (shard_of k v ≡ s)))
      → true ≡ option_eq eqb found (Some shard) → left ≡ w ∷ rest → shard_of k w ≡ shard
  first_of None left rest w f t is = absurd (false≢true (sym t))
  first_of (Some s) left rest w f t is =
      let first = f.1 in
      let same : first.0 ≡ w = same_head first.0 w first.1 rest (sym first.2 ∙ is) in
      ap (shard_of k) (sym same) ∙ first.3 ∙ eqb-true s shard (sym t)

  -- where the first version of all is of the shard, and the first of those that are left is of no or another one, one
  -- was taken at least
  pub some_taken : (found : Option ℕ) (all turned left : List Version)
      → MatchOption found (left ≡ []) (λ s. (s < k) × ((v : Version) × (more : List Version) × (left ≡ v ∷ more) × (shard_of k v ≡ s)))
      → false ≡ option_eq eqb found (Some shard) → (v : Version) × (more : List Version) × (all ≡ v ∷ more) × (shard_of k v ≡ shard)
      → all ≡ reverse turned ++ left → length left < length all
  some_taken None all [] left none f first are = let e = sym first.2 ∙ are ∙ none in absurd (cc)
  some_taken (Some s) all [] left found f first are =
      let next = found.1 in
      let same : first.0 ≡ next.0 = same_head first.0 next.0 first.1 next.1 (sym first.2 ∙ are ∙ next.2) in
      let it : s ≡ shard = sym next.3 ∙ ap (shard_of k) (sym same) ∙ first.3 in
      absurd (false≢true (f ∙ eq-eqb s shard it))
  some_taken found all (x ∷ turned) left _ _ _ are =
      omega (arith, ap length are, length-append (reverse (x ∷ turned)) left, length-reverse (x ∷ turned))

  pub run_more : (w : Version) (turned after : List Version) → after ≡ w ∷ turned → shard_of k w ≡ shard → AreOfShard k shard (reverse turned) → AreOfShard k shard (reverse after)
  run_more w turned after is of are v i =
      ⊎_elim (λ (h : In v (reverse turned)). are v h) (λ (h : In v (w ∷ [])). ⊎_elim (λ (e : w ≡ v). ap (shard_of k) (sym e) ∙ of) (λ (none : ⊥). absurd none) h)
      (in_split v (reverse turned) (w ∷ []) (subst (In v) (turned_more w turned after is) i))

-- two steps one after the other
pub steps_on : (before middle after : Account) (first second : Stage) → Steps before first middle → Steps middle second after → Steps before second after
steps_on before middle after first second s t = record { number = t.number ∙ s.number; seen = t.seen ∙ s.seen; stage_is = t.stage_is; launched = t.launched ∙ s.launched }
