-- A tree into which a version is inserted has it, and those that it had before.
use Rattle.std.proofs.Common.{◌≡◌, ◌≢◌, List, [], ◌∷◌, refl, sym, inl, inr}
use Rattle.std.specs.Ordering.{nat_cmp, match_ordering, ordering_then}
use Rattle.std.specs.declared.cmp.Ordering.{Ordering}
use Rattle.std.specs.declared.cmp.Ordering.TheVariants.{Less, Equal, Greater}
use Rattle.std.proofs.lemmas.Cmp.{ranked}
use Rattle.model_base.specs.Map.{key_order}
use Rattle.table_rule.specs.declared.content.Version.{Version}
use Rattle.table_rule.specs.Histories.{In}
use Rattle.table_rule.specs.Steps.{Adds}
use Rattle.table_tree.specs.Versions.{version_order, IsNew, insert_version}
use Rattle.table_tree.proofs.Inserting.{both_equal}
use Rattle.table_rule.proofs.Keys.{equal_keys}

-- a version whose sequence no other of its key has is new
pub apart_new : (v : Version) (l : List Version) → ((x : Version) → In x l → x.key ≡ v.key → x.sequence ≢ v.sequence) → IsNew v l
apart_new v [] apart = tt
apart_new v (w ∷ l) apart = (
  λ e. apart w (inl refl) (sym (equal_keys v.key w.key (first_equal (key_order v.key w.key) (nat_cmp w.sequence v.sequence) e)))
      (ranked w.sequence v.sequence Equal (sym (both_equal (key_order v.key w.key) (nat_cmp w.sequence v.sequence) e))),
  apart_new v l (λ x i. apart x (inr i)),
)
  where
    first_equal : (c d : Ordering) → ordering_then c d ≡ Equal → c ≡ Equal
    first_equal Less d e = absurd (cc)
    first_equal Equal d e = refl
    first_equal Greater d e = absurd (cc)

pub insert_adds : (v : Version) (l : List Version) → IsNew v l → Adds l v (insert_version l v)
insert_adds v [] new = (inl refl, λ x i. absurd i, λ x i. elim i [ inl e ↦ inl (sym e) | inr j ↦ absurd j ])
insert_adds v (w ∷ l) new = go (insert_adds v l new.1) (version_order v w) refl
  where
    go : Adds l v (insert_version l v) → (o : Ordering) → version_order v w ≡ o → Adds (w ∷ l) v (match_ordering o (v ∷ w ∷ l) (w ∷ l) (w ∷ insert_version l v))
    go rest Less e = (inl refl, λ x i. inr i, λ x i. elim i [ inl p ↦ inl (sym p) | inr j ↦ inr j ])
    go rest Equal e = absurd (new.0 e)
    go rest Greater e = (
      inr rest.0,
      λ x i. elim i [ inl p ↦ inl p | inr j ↦ inr (rest.1 x j) ],
      λ x i. elim i [
        | inl p ↦ inr (inl p)
        | inr j ↦ elim (rest.2 x j) [ inl p ↦ inl p | inr k ↦ inr (inr k) ]
      ],
    )
