-- Facts on the chain of writers, and on what is handled.
use Rattle.std.proofs.Common.{◌≡◌, ◌≢◌, ℕ, ◌<◌, List, [], ◌∷◌, ◌++◌, get_or, refl, sym, ap, ◌∙◌, subst, arith, append_assoc}
use native.Mathlib.Decide.{ℕ_discrete}
use Rattle.atomic_table.specs.Table.{rest}
use Rattle.line_rule.specs.declared.view.QueuedWriter.{QueuedWriter}
use Rattle.line_rule.specs.Chain.{older_at, newest_from, LinksFrom, Absent, Within, Oldest, EndsWith}
use Rattle.line_rule.specs.Standing.{Phase, linked, taken}
use Rattle.line_rule.specs.Rule.{InChain, Stand, AllLinked, AllTaken, AllOwed}

abbrev pick : {A D : Type 0} → Dec D → A → A → A
pick (yes _) a b = a
pick (no _) a b = b

-- the function f, but x at i
pub put : {A : Type 0} → (ℕ → A) → ℕ → A → ℕ → A
put f i x j = pick (ℕ_discrete j i) x (f j)

module _ {A : Type 0} (f : ℕ → A) (i : ℕ) (x : A) where
  pub put_at : (F : ℕ → A → Type 0) (j : ℕ) → (j ≡ i → F j x) → (j ≢ i → F j (f j)) → F j (put f i x j)
  unfolding put
  put_at F j here other = go (ℕ_discrete j i)
    where
      go : (d : Dec (j ≡ i)) → F j (pick d x (f j))
      go (yes e) = here e
      go (no ne) = other ne

  pub put_here : put f i x i ≡ x
  put_here = put_at (λ j y. j ≡ i → y ≡ x) i (λ _ _. refl) (λ ne _. absurd (ne refl)) refl

  pub put_else : (j : ℕ) → j ≢ i → put f i x j ≡ f j
  put_else j ne = put_at (λ j y. j ≢ i → y ≡ f j) j (λ e ne. absurd (ne e)) (λ _ _. refl) ne

module _ {Request : Type 0} where
  pub links_stay : (b : ℕ) (words ws : List ℕ) (m : ℕ) (chain : List (QueuedWriter Request)) → ((k : ℕ) → k ≢ m → get_or ws (older_at k) 0 ≡ get_or words (older_at k) 0) → Absent m chain → LinksFrom b words chain → LinksFrom b ws chain
  links_stay b words ws m [] same out ok = tt
  links_stay b words ws m (e ∷ es) same out ok = (same e.by out.0 ∙ ok.0, links_stay b words ws m es same out.1 ok.1)

  pub links_same : (b : ℕ) (words ws : List ℕ) (chain : List (QueuedWriter Request)) → ((k : ℕ) → get_or ws (older_at k) 0 ≡ get_or words (older_at k) 0) → LinksFrom b words chain → LinksFrom b ws chain
  links_same b words ws [] same ok = tt
  links_same b words ws (e ∷ es) same ok = (same e.by ∙ ok.0, links_same b words ws es same ok.1)

  pub ends_trans : (a b c : List (QueuedWriter Request)) → EndsWith a b → EndsWith b c → EndsWith a c
  ends_trans a b c x y = (x.0 ++ y.0, x.1 ∙ (ap (λ l. x.0 ++ l) y.1 ∙ sym (append_assoc x.0 y.0 c)))

  pub ends_same : (a : List (QueuedWriter Request)) → EndsWith a a
  ends_same a = ([], refl)

  pub oldest_some : (chain : List (QueuedWriter Request)) (e : QueuedWriter Request) → chain ≡ [] → Oldest chain e → ⊥
  oldest_some chain e none ([], is) = absurd (cc)
  oldest_some chain e none (x ∷ xs, is) = absurd (cc)

  pub nobody : (n b : ℕ) (chain : List (QueuedWriter Request)) → Within n chain → newest_from b chain ≡ 0 → (chain ≡ []) × (b ≡ 0)
  nobody n b [] ok is = (refl, is)
  nobody n b (e ∷ es) ok is = let a = ok.0 in absurd (omega arith)

  pub newest_small : (n b : ℕ) (chain : List (QueuedWriter Request)) → n < 256 → b < 256 → Within n chain → newest_from b chain < 256
  newest_small n b [] few small ok = small
  newest_small n b (e ∷ es) few small ok = let a = ok.1 in omega arith

module _ {Request Reply : Type 0} where
  pub stand_absent : (phase : ℕ → Phase Request Reply) (m : ℕ) (chain : List (QueuedWriter Request)) → ((e : QueuedWriter Request) → InChain e (phase m) → ⊥) → Stand phase chain → Absent m chain
  stand_absent phase m [] out ok = tt
  stand_absent phase m (e ∷ es) out ok = ((λ is. out e (subst (λ (k : ℕ). InChain e (phase k)) is ok.0)), stand_absent phase m es out ok.1)

  pub stand_change : (phase : ℕ → Phase Request Reply) (m : ℕ) (ph : Phase Request Reply) (chain : List (QueuedWriter Request)) → ((e : QueuedWriter Request) → InChain e (phase m) → InChain e ph) → Stand phase chain → Stand (put phase m ph) chain
  stand_change phase m ph [] to ok = tt
  stand_change phase m ph (e ∷ es) to ok = (
    put_at phase m ph (λ k f. InChain e (phase k) → InChain e f) e.by (λ is here. to e (subst (λ (k : ℕ). InChain e (phase k)) is here)) (λ _ here. here) ok.0,
    stand_change phase m ph es to ok.1,
  )

  pub linked_change : (phase : ℕ → Phase Request Reply) (m : ℕ) (ph : Phase Request Reply) (es : List (QueuedWriter Request)) → ((e : QueuedWriter Request) → phase m ≡ linked e → ph ≡ linked e) → AllLinked phase es → AllLinked (put phase m ph) es
  linked_change phase m ph [] to ok = tt
  linked_change phase m ph (e ∷ es) to ok = (
    put_at phase m ph (λ k f. phase k ≡ linked e → f ≡ linked e) e.by (λ is here. to e (ap phase (sym is) ∙ here)) (λ _ here. here) ok.0,
    linked_change phase m ph es to ok.1,
  )

  pub taken_change : (phase : ℕ → Phase Request Reply) (due due' : ℕ → List (Request × Reply)) (m : ℕ) (ph : Phase Request Reply) (c : ℕ) (es : List (QueuedWriter Request)) → ((e : QueuedWriter Request) → phase m ≡ taken c e → (ph ≡ taken c e) × (due' m ≡ due m)) → ((j : ℕ) → j ≢ m → due' j ≡ due j)
      → AllTaken phase due c es → AllTaken (put phase m ph) due' c es
  taken_change phase due due' m ph c [] to due_else ok = tt
  taken_change phase due due' m ph c (e ∷ es) to due_else ok =
      let t = put_at phase m ph (λ k f. phase k ≡ taken c e → (f ≡ taken c e) × (due' k ≡ due k)) e.by (λ is here. subst (λ (k : ℕ). (ph ≡ taken c e) × (due' k ≡ due k)) (sym is) (to e (ap phase (sym is) ∙ here))) (λ ne here. (here, due_else e.by ne)) ok.0 in
      (t.0, t.1 ∙ ok.1, taken_change phase due due' m ph c es to due_else ok.2)

  pub taken_apart : (phase : ℕ → Phase Request Reply) (due due' : ℕ → List (Request × Reply)) (m : ℕ) (ph : Phase Request Reply) (c : ℕ) (es : List (QueuedWriter Request)) → Absent m es → ((j : ℕ) → j ≢ m → due' j ≡ due j) → AllTaken phase due c es → AllTaken (put phase m ph) due' c es
  taken_apart phase due due' m ph c [] out due_else ok = tt
  taken_apart phase due due' m ph c (e ∷ es) out due_else ok = (put_else phase m ph e.by out.0 ∙ ok.0, due_else e.by out.0 ∙ ok.1, taken_apart phase due due' m ph c es out.1 due_else ok.2)

  pub owed_change : (phase phase' : ℕ → Phase Request Reply) (due due' : ℕ → List (Request × Reply)) (c : ℕ) (gs : List (QueuedWriter Request × Reply)) → ((e : QueuedWriter Request) (x : Request × Reply) → phase e.by ≡ taken c e → due e.by ≡ x ∷ [] → (phase' e.by ≡ taken c e) × (due' e.by ≡ x ∷ []))
      → AllOwed phase due c gs → AllOwed phase' due' c gs
  owed_change phase phase' due due' c [] to ok = tt
  owed_change phase phase' due due' c (g ∷ gs) to ok = let t = to g.0 (g.0.asked, g.1) ok.0 ok.1 in (t.0, t.1, owed_change phase phase' due due' c gs to ok.2)

-- the slot that was taken last
pub fronted : {S : Type 0} (v : List (ℕ × S)) (k : ℕ) (x : S) (r : List (ℕ × S)) → v ≡ (k, x) ∷ r → v ≡ (k, x) ∷ rest v
fronted v k x r e = e ∙ ap (λ l. (k, x) ∷ rest l) (sym e)
