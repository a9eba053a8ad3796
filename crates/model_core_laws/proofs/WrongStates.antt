-- States that break the core's law, each in one part.
use Rattle.std.proofs.Common.{◌≡◌, ℕ, true, false, ◌==◌, ◌<◌, ◌⊎◌, inl, inr, List, [], ◌∷◌, ◌++◌, length, map, flat_map, refl, ap, sym, ◌∙◌, subst, append-nil, arith}
use Rattle.std.specs.List.{AllByRecursion, Contains}
use Rattle.std.proofs.lemmas.Bool.{eq-eqb, or_left}
use Rattle.std.proofs.lemmas.List.Folds.{list_any-append}
use Rattle.model_base.specs.declared.history.Flag.TheVariants.{Log, NoLog}
use Rattle.model_base.specs.History.{Entry, RunsFollow, last_sequence, logged_entries}
use Rattle.model_core.specs.Core.{Options, Writer, still, State, among}
use Rattle.model_core.specs.declared.event.Event.{Event}
use Rattle.model_core.specs.declared.event.Event.TheVariants as e
use Rattle.model_core.specs.CoreLaw.{IsCore, IsInsertedAhead, IsSubsequence, KeepsOrder, Keeps, in_order, waiting_clients}
use Rattle.model_core_laws.specs.Examples.{single_stage, entry_at}
use Rattle.model_core_laws.proofs.Lists.{contains_cases}
use Rattle.model_core_laws.proofs.Tables.{times, there, waiting_parts, waits_once}
use Rattle.model_core_laws.proofs.WrongReplies.{one_entry}

nothing_contained : {A : Type 0} (x : A) → Contains [] x → ⊥
nothing_contained x (k, l, e) = omega arith

two_entries : (x y : Entry) (front rest : List Entry) → x ∷ y ∷ [] ≡ front ++ rest → (front ≡ []) ⊎ (front ≡ x ∷ []) ⊎ (front ≡ x ∷ y ∷ [])
two_entries x y [] rest e = inl refl
two_entries x y (z ∷ front) rest e =
    let f : x ≡ z = cc in let g : y ∷ [] ≡ front ++ rest = cc in
    elim (one_entry y front rest g) as (λ _. (z ∷ front ≡ []) ⊎ (z ∷ front ≡ x ∷ []) ⊎ (z ∷ front ≡ x ∷ y ∷ [])) [
      | inl h ↦ (let i : z ∷ front ≡ x ∷ [] = cc in inr (inl i))
      | inr h ↦ (let i : z ∷ front ≡ x ∷ y ∷ [] = cc in inr (inr i))
    ]

number_apart : (m n : ℕ) → m < n → m ≡ n → ⊥
number_apart m n less e = omega arith

pub published_too_early : (s : State) → s.entries ≡ entry_at 1 1 Log ∷ entry_at 2 2 Log ∷ [] → s.inserted ≡ entry_at 1 1 Log ∷ [] → s.last ≡ 2 → IsCore single_stage s → ⊥
published_too_early s entries inserted last core = by (two_entries (entry_at 1 1 Log) (entry_at 2 2 Log) core.front core.is_boundary.rest (sym entries ∙ core.is_boundary.split))
  where
    ends : (front : List Entry) → core.front ≡ front → last_sequence 0 front ≡ 2
    ends front e = ap (last_sequence 0) (sym e) ∙ (sym core.is_boundary.ends ∙ last)

    by : (core.front ≡ []) ⊎ (core.front ≡ entry_at 1 1 Log ∷ []) ⊎ (core.front ≡ entry_at 1 1 Log ∷ entry_at 2 2 Log ∷ []) → ⊥
    by (inl e) = number_apart 0 2 (omega arith) (ends [] e)
    by (inr (inl e)) = number_apart 1 2 (omega arith) (ends (entry_at 1 1 Log ∷ []) e)
    by (inr (inr e)) =
        let both : AllByRecursion (λ x. Contains (entry_at 1 1 Log ∷ []) x) (entry_at 1 1 Log ∷ entry_at 2 2 Log ∷ []) =
        subst (λ front. AllByRecursion (λ x. Contains (entry_at 1 1 Log ∷ []) x) front) e (subst (λ xs. AllByRecursion (λ x. Contains xs x) core.front) inserted core.in_table) in
        elim (contains_cases (entry_at 1 1 Log) [] (entry_at 2 2 Log) both.1.0) as (λ _. ⊥) [
          | inl same ↦ number_apart 1 2 (omega arith) (ap (λ (x : Entry). x.first) same)
          | inr none ↦ nothing_contained (entry_at 2 2 Log) none
        ]

pub inserted_too_early : (s : State) → s.table ≡ still → s.entries ≡ entry_at 1 1 Log ∷ [] → s.inserted ≡ entry_at 1 1 Log ∷ [] → s.last ≡ 0 → IsCore single_stage s → ⊥
inserted_too_early s table entries inserted last core = by (one_entry (entry_at 1 1 Log) core.front core.is_boundary.rest (sym entries ∙ core.is_boundary.split))
  where
    by : (core.front ≡ []) ⊎ (core.front ≡ entry_at 1 1 Log ∷ []) → ⊥
    by (inl e) =
        let all : AllByRecursion (λ x. Contains s.entries x × (Contains core.front x ⊎ IsInsertedAhead s.table x)) (entry_at 1 1 Log ∷ []) =
        subst (λ xs. AllByRecursion (λ x. Contains s.entries x × (Contains core.front x ⊎ IsInsertedAhead s.table x)) xs) inserted core.from_entries in
        elim all.0.1 as (λ _. ⊥) [
          | inl there ↦ nothing_contained (entry_at 1 1 Log) (subst (λ front. Contains front (entry_at 1 1 Log)) e there)
          | inr ahead ↦ subst (λ phase. IsInsertedAhead phase (entry_at 1 1 Log)) table ahead
        ]
    by (inr e) = number_apart 0 1 (omega arith) (sym last ∙ (core.is_boundary.ends ∙ ap (last_sequence 0) e))

pub twice : (o : Options) (s : State) (v w : Writer) → s.queue ≡ v ∷ w ∷ [] → v.client ≡ w.client → IsCore o s → ⊥
twice o s v w queue same core =
    let a = waiting_parts w.client s in let b = waits_once o s w.client core in
    let e = ap (there w.client) queue in let f = two w.client v.client w.client same refl in omega arith
  where
    two : (c d e : ℕ) → d ≡ c → e ≡ c → times c (d ∷ e ∷ []) ≡ 2
    two c d e p q = rw (eq-eqb d c p, eq-eqb e c q) refl

pub with_a_gap : (s : State) → s.entries ≡ entry_at 1 1 Log ∷ entry_at 2 2 NoLog ∷ entry_at 3 3 Log ∷ [] → s.groups ≡ 2 ∷ [] → IsCore single_stage s → ⊥
with_a_gap s entries groups core = by core.parts (sym groups ∙ core.groups) (ap logged_entries (sym entries) ∙ core.cut) core.runs
  where
    by : (parts : List (List Entry)) → 2 ∷ [] ≡ map length parts → entry_at 1 1 Log ∷ entry_at 3 3 Log ∷ [] ≡ flat_map (λ p. p) parts → AllByRecursion RunsFollow parts → ⊥
    by [] e cut runs = cc
    by (p ∷ []) e cut runs =
        let follow : RunsFollow (entry_at 1 1 Log ∷ entry_at 3 3 Log ∷ []) = subst RunsFollow (sym (cut ∙ append-nil p)) runs.0 in
        number_apart 2 3 (omega arith) (sym follow.0.first)
    by (p ∷ q ∷ parts) e cut runs = cc

-- the client that waits first stays first
not_turned : IsSubsequence (2 ∷ 1 ∷ []) (1 ∷ 2 ∷ []) → ⊥
not_turned (inl h) = number_apart 1 2 (omega arith) (sym h.0)
not_turned (inr (inl h)) = h.1
not_turned (inr (inr h)) = h

module _ (s t : State) (before : in_order s ≡ 1 ∷ 2 ∷ []) (after : in_order t ≡ 2 ∷ 1 ∷ []) where
  out_of_order : IsSubsequence (in_order t) (in_order s) → ⊥
  out_of_order order = not_turned (rw (before, after) at order)

  not_by : (event : Event) → KeepsOrder event s t → ⊥
  not_by (e.Link c) (inl same) = absurd (let turned : 2 ∷ 1 ∷ [] ≡ 1 ∷ 2 ∷ [] = sym after ∙ (same ∙ before) in cc)
  not_by (e.Link c) (inr more) =
      let longer = ap length (sym after ∙ (more.0 ∙ ap (λ line. line ++ c ∷ []) before)) in
      number_apart 2 3 (omega arith) longer
  not_by (e.Elect c) order = out_of_order order
  not_by (e.Build c) order = out_of_order order
  not_by (e.Log c) order = out_of_order order
  not_by (e.Fault c) order = out_of_order order
  not_by (e.Refuse c stops delays wait) order = out_of_order order
  not_by (e.Stall c) order = out_of_order order
  not_by (e.Leave m stops delays) order = out_of_order order
  not_by (e.Unstall c) order = out_of_order order
  not_by (e.Boundary c) order = out_of_order order
  not_by (e.Second c) order = out_of_order order
  not_by (e.Next c) order = out_of_order order
  not_by (e.Launch c) order = out_of_order order
  not_by (e.Insert m) order = out_of_order order
  not_by (e.Finish m) order = out_of_order order
  not_by (e.Publish m) order = out_of_order order
  not_by (e.Since c) order = out_of_order order
  not_by (e.Exit c) order = out_of_order order
  not_by (e.Complete m) order = out_of_order order
  not_by (e.Read c) order = out_of_order order

pub sent_to_the_back : (event : Event) (s t : State) → in_order s ≡ 1 ∷ 2 ∷ [] → in_order t ≡ 2 ∷ 1 ∷ [] → Keeps event s t → ⊥
sent_to_the_back event s t before after keeps = not_by s t before after event keeps.order

pub linked_twice : (s t : State) → in_order s ≡ 1 ∷ [] → in_order t ≡ 1 ∷ 1 ∷ [] → Keeps (e.Link 1) s t → ⊥
linked_twice s t before after keeps = by keeps.order
  where
    by : KeepsOrder (e.Link 1) s t → ⊥
    by (inl same) = number_apart 1 2 (omega arith) (ap length (sym before ∙ (sym same ∙ after)))
    by (inr more) =
        let here : among 1 (in_order s) ≡ true = ap (among 1) before in
        let there : among 1 (waiting_clients s) ≡ true = list_any-append (λ n. n == 1) (in_order s) _ ∙ or_left (among 1 (in_order s)) _ here in
        absurd (let both : true ≡ false = sym there ∙ more.1 in cc)

pub added_unlinked : (s t : State) → in_order s ≡ [] → in_order t ≡ 1 ∷ [] → Keeps (e.Elect 1) s t → ⊥
added_unlinked s t before after keeps = let none : IsSubsequence (1 ∷ []) [] = rw (before, after) at keeps.order in none
