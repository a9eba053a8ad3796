-- A team's events in the core, one after another.
use Rattle.std.proofs.Common.{◌≡◌, ◌≢◌, ℕ, Bool, true, false, not, ◌&&◌, List, [], ◌∷◌, ◌++◌, ◌==◌, ◌||◌, map, Some, refl, sym, ap, ◌∙◌, append_assoc, append-nil}
use Rattle.std.proofs.lemmas.Bool.{ne_eqb}
use Rattle.model_core.specs.declared.event.Event.TheVariants as core
use Rattle.model_core.specs.Core.{Options, launched, State, table_group, among, runners}
use Rattle.model_core.specs.Step.{step, when, insert, finish, entry_ahead}
use Rattle.table_rule.specs.CoreEvents.{Come}
use Rattle.table_rule.proofs.Teams.{Once, among_head, among_tail, among_others, once_head, once_tail}

-- where one thing holds and another doesn't, an event comes
comes : (a b : Bool) (s : State) → a ≡ true → b ≡ false → when (a && not b) s ≡ Some s
comes a b s is not_so = (λ i. when (is i && not (not_so i)) s)

-- after c was added to `ins`, the others of the list still aren't in it
still_none : (c d : ℕ) (cs ins : List ℕ) → Once (c ∷ cs) → ((d : ℕ) → among d (c ∷ cs) ≡ true → among d ins ≡ false) → among d cs ≡ true → among d (ins ++ c ∷ []) ≡ false
still_none c d cs ins once none is =
    let apart : c ≢ d = λ e. let bad : false ≡ true = sym (once_head c cs once) ∙ (ap (λ n. among n cs) e ∙ is) in absurd (cc) in
    among_others d ins (c ∷ []) (one (ne_eqb c d apart)) ∙ none d (among_tail d c cs is)
  where
    one : (c == d) ≡ false → among d (c ∷ []) ≡ false
    one e = ap (λ b. b || false) e

module _ (o : Options) where
  -- the group and the published sequence stay as they are
  abbrev pub Stands : State → State → Type 0
  Stands s t = (t.last ≡ s.last) × (table_group o t ≡ table_group o s)

  pub team_inserts : (s : State) (cs ins fin : List ℕ) → s.table ≡ launched ins fin → ((c : ℕ) → among c cs ≡ true → among c (runners (table_group o s)) ≡ true)
      → ((c : ℕ) → among c cs ≡ true → among c ins ≡ false) → Once cs → (t : State) × Come o (map core.Insert cs) s t × (t.table ≡ launched (ins ++ cs) fin) × Stands s t
  team_inserts s [] ins fin is run none once = (s, refl, is ∙ ap (λ l. launched l fin) (sym (append-nil ins)), (refl, refl))
  team_inserts s (c ∷ cs) ins fin is run none once =
      let u : State = record s { table = launched (ins ++ c ∷ []) fin; inserted = s.inserted ++ entry_ahead s c } in
      let here : step o s (core.Insert c) ≡ Some u = ap (insert o s c) is ∙ comes (among c (runners (table_group o s))) (among c ins) u (run c (among_head c cs)) (none c (among_head c cs)) in
      let more = team_inserts u cs (ins ++ c ∷ []) fin refl (λ d among. run d (among_tail d c cs among)) (λ d is. still_none c d cs ins once none is) (once_tail c cs once) in
      (more.0, (u, here, more.1), more.2 ∙ ap (λ l. launched l fin) (append_assoc ins (c ∷ []) cs), more.3)

  pub team_finishes : (s : State) (cs ins fin : List ℕ) → s.table ≡ launched ins fin → ((c : ℕ) → among c cs ≡ true → among c ins ≡ true)
      → ((c : ℕ) → among c cs ≡ true → among c fin ≡ false) → Once cs → (t : State) × Come o (map core.Finish cs) s t × (t.table ≡ launched ins (fin ++ cs)) × Stands s t
  team_finishes s [] ins fin is there none once = (s, refl, is ∙ ap (launched ins) (sym (append-nil fin)), (refl, refl))
  team_finishes s (c ∷ cs) ins fin is there none once =
      let u : State = record s { table = launched ins (fin ++ c ∷ []) } in
      let here : step o s (core.Finish c) ≡ Some u = ap (finish s c) is ∙ comes (among c ins) (among c fin) u (there c (among_head c cs)) (none c (among_head c cs)) in
      let more = team_finishes u cs ins (fin ++ c ∷ []) refl (λ d among. there d (among_tail d c cs among)) (λ d is. still_none c d cs fin once none is) (once_tail c cs once) in
      (more.0, (u, here, more.1), more.2 ∙ ap (launched ins) (append_assoc fin (c ∷ []) cs), more.3)
