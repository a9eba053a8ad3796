-- Facts about the published history as a list of what was handled, cut into groups.
use Rattle.std.proofs.Common.{◌≡◌, List, [], ◌∷◌, ◌++◌, refl, sym, ap, ◌∙◌, subst, append_assoc, append-nil}
use Rattle.table_rule.specs.declared.content.Version.{Version}
use Rattle.table_rule.specs.declared.content.MemberVersions.{MemberVersions}
use Rattle.table_rule.specs.Histories.{versions_in, versions_of, Begins, made_by, Images}

module _ {H : Type 0} (made : H → List Version) where
  made_append : (hs ks : List H) → made_by made (hs ++ ks) ≡ made_by made hs ++ made_by made ks
  made_append [] ks = refl
  made_append (h ∷ hs) ks = ap (λ l. made h ++ l) (made_append hs ks) ∙ sym (append_assoc (made h) (made_by made hs) (made_by made ks))

  -- one more group was handled and published
  pub images_more : (hs new : List H) (gs : List (List MemberVersions)) (g : List MemberVersions) → Images made hs gs → made_by made new ≡ versions_in g → Images made (hs ++ new) (gs ++ g ∷ [])
  images_more hs new [] g ok e = (hs ++ new, [], sym (append-nil (hs ++ new)), made_append hs new ∙ (ap (λ l. l ++ made_by made new) ok ∙ e), refl)
  images_more hs new (x ∷ gs) g ok e = (ok.0, ok.1 ++ new, ap (λ l. l ++ new) ok.2 ∙ append_assoc ok.0 ok.1 new, ok.3, images_more ok.1 new gs g ok.4 e)

  -- a group was handled in which no member got a run
  pub images_none : (hs new : List H) (gs : List (List MemberVersions)) → Images made hs gs → made_by made new ≡ [] → Images made (hs ++ new) gs
  images_none hs new [] ok e = made_append hs new ∙ ((λ i. ok i ++ e i))
  images_none hs new (x ∷ gs) ok e = (ok.0, ok.1 ++ new, ap (λ l. l ++ new) ok.2 ∙ append_assoc ok.0 ok.1 new, ok.3, images_none ok.1 new gs ok.4 e)

  -- both have the same versions
  pub images_versions : (hs : List H) (gs : List (List MemberVersions)) → Images made hs gs → made_by made hs ≡ versions_of gs
  images_versions hs [] ok = ok
  images_versions hs (g ∷ gs) ok = ap (made_by made) ok.2 ∙ (made_append ok.0 ok.1 ∙ (λ i. ok.3 i ++ images_versions ok.1 gs ok.4 i))

  -- what a seat has seen was made by some beginning of what was handled
  pub images_begin : (hs : List H) (seen gs : List (List MemberVersions)) → Images made hs gs → Begins seen gs → (front : List H) × Begins front hs × (made_by made front ≡ versions_of seen)
  images_begin hs [] gs ok b = ([], (hs, refl), refl)
  images_begin hs (g ∷ seen) gs ok b =
      let o : Images made hs (g ∷ (seen ++ b.0)) = subst (Images made hs) b.1 ok in
      let t = images_begin o.1 seen (seen ++ b.0) o.4 (b.0, refl) in (
        o.0 ++ t.0,
        (t.1.0, o.2 ∙ (ap (λ l. o.0 ++ l) t.1.1 ∙ sym (append_assoc o.0 t.0 t.1.0))),
        made_append o.0 t.0 ∙ (λ i. o.3 i ++ t.2 i),
      )
