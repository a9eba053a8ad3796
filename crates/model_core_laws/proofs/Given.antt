-- Which entries a group that gets runs adds for each of its members, and for nobody else.
use Rattle.std.proofs.Common.{◌≡◌, ℕ, ◌+◌, ◌<◌, ◌≤◌, ◌==◌, cond, true, ◌⊎◌, inl, inr, List, [], ◌∷◌, map, refl, ap, sym, ◌∙◌, arith}
use Rattle.std.specs.List.{AllByRecursion, AllZip}
use Rattle.std.proofs.lemmas.Bool.{ne_eqb, eq-eqb, cond-true}
use Rattle.model_base.specs.Batch.{count_of}
use Rattle.model_base.specs.History.{Entry, max_sequence, last_sequence, last_of, IsBoundary}
use Rattle.model_base.specs.Outcomes.{entries_of_client}
use Rattle.model_core.specs.Core.{Writer, State, with_runs, entry_of, entries_of}
use Rattle.model_core_laws.proofs.Runs.{taken, passed_over, by_members}
use Rattle.model_core_laws.proofs.Tables.{times_cons, there}
use Rattle.model_core_laws.proofs.Lists.{zip_weaker}

-- none of these writers is the client's
abbrev pub IsAbsent : ℕ → List Writer → Type 0
IsAbsent c ws = AllByRecursion (λ (v : Writer). c ≡ v.client → ⊥) ws

-- no two of these writers are of one client
abbrev pub AreOthers : List Writer → Type 0
AreOthers [] = Unit {0}
AreOthers (w ∷ ws) = IsAbsent w.client ws × AreOthers ws

pub absent : (c : ℕ) (ws : List Writer) → there c ws ≡ 0 → IsAbsent c ws
absent c [] none = tt
absent c (w ∷ ws) none =
    let e = times_cons c w.client (map (λ (w : Writer). w.client) ws) in (
      (λ same. let here : (w.client == c) ≡ true = eq-eqb w.client c (sym same) in let one : cond {A = ℕ} (w.client == c) 1 0 ≡ 1 = cond-true {A = ℕ} (w.client == c) 1 0 here in omega arith),
      absent c ws (omega arith),
    )

pub others : (ws : List Writer) → ((c : ℕ) → there c ws ≤ 1) → AreOthers ws
others [] once = tt
others (w ∷ ws) once = (
  absent w.client ws (let e = times_cons w.client w.client (map (λ (w : Writer). w.client) ws) in let once_w = once w.client in
      let here : cond {A = ℕ} (w.client == w.client) 1 0 ≡ 1 = cond-true {A = ℕ} (w.client == w.client) 1 0 (eq-eqb w.client w.client refl) in omega arith),
  others ws (λ c. let e = times_cons c w.client (map (λ (w : Writer). w.client) ws) in let once_c = once c in omega arith),
)

own_cons : (c : ℕ) (x : Entry) (xs : List Entry) → x.client ≡ c → entries_of_client c (x ∷ xs) ≡ x ∷ entries_of_client c xs
own_cons c x xs e = rw (eq-eqb x.client c e) refl

own_skip : (c : ℕ) (x : Entry) (xs : List Entry) → (c ≡ x.client → ⊥) → entries_of_client c (x ∷ xs) ≡ entries_of_client c xs
own_skip c x xs other = rw (ne_eqb x.client c (λ e. other (sym e))) refl

-- a client that isn't in the group gets no entry by it
pub own_absent : (s : State) (c last : ℕ) (ws : List Writer) → IsAbsent c ws → entries_of_client c (entries_of s (with_runs last ws)) ≡ []
own_absent s c = by_members (λ last ws vs. IsAbsent c ws → entries_of_client c (entries_of s vs) ≡ []) (λ last a. refl)
    (λ last w ws vs fits more a. own_skip c (entry_of s w (last + 1)) (entries_of s vs) a.0 ∙ more a.1)
    (λ last w ws vs full more a. more a.1)

-- the member's run begins after a boundary, and its entry is its client's only one; or no run fits there, and it has none
pub record IsGiven (s : State) (start : ℕ) (xs : List Entry) (w v : Writer) : Type 0 where
  pub last : ℕ
  pub boundary : IsBoundary start xs last
  pub as_given : ((v ≡ taken last w) × (entries_of_client w.client xs ≡ entry_of s w (last + 1) ∷ [])) ⊎ ((v ≡ passed_over last w) × (max_sequence < last + count_of w.records) × (entries_of_client w.client xs ≡ []))

-- this still holds after another member's entry
given_behind : (s : State) (start : ℕ) (xs : List Entry) (first : Entry) (next : ℕ) (w v : Writer) → next ≡ last_of first → (first.client ≡ w.client → ⊥) → IsGiven s next xs w v → IsGiven s start (first ∷ xs) w v
given_behind s start xs first next w v ends other given = record {
  last = given.last;
  boundary = (
    first ∷ given.boundary.0,
    record {
      rest = given.boundary.1.rest;
      split = ap (λ es. first ∷ es) given.boundary.1.split;
      ends = given.boundary.1.ends ∙ ap (λ n. last_sequence n given.boundary.0) ends;
    },
  );
  as_given = elim given.as_given as (λ _. ((v ≡ taken given.last w) × (entries_of_client w.client (first ∷ xs) ≡ entry_of s w (given.last + 1) ∷ [])) ⊎ ((v ≡ passed_over given.last w) × (max_sequence < given.last + count_of w.records) × (entries_of_client w.client (first ∷ xs) ≡ []))) [
    | inl g ↦ inl (g.0, own_skip w.client first xs (λ e. other (sym e)) ∙ g.1)
    | inr g ↦ inr (g.0, g.1, own_skip w.client first xs (λ e. other (sym e)) ∙ g.2)
  ];
}

pub all_given : (s : State) (last : ℕ) (ws : List Writer) → AreOthers ws → AllZip (IsGiven s last (entries_of s (with_runs last ws))) ws (with_runs last ws)
all_given s last ws = (by_members (λ last ws vs. (AreOthers ws → AllZip (IsGiven s last (entries_of s vs)) ws vs) × ((c : ℕ) → IsAbsent c ws → entries_of_client c (entries_of s vs) ≡ []))
    (λ last. ((λ a. tt), (λ c a. refl)))
    (λ last w ws vs fits more.
    let x : Entry = entry_of s w (last + 1) in (
      (λ a. (
        record {
          last = last;
          boundary = ([], record { rest = x ∷ entries_of s vs; split = refl; ends = refl });
          as_given = inl (refl, own_cons w.client x (entries_of s vs) refl ∙ ap (λ xs. x ∷ xs) (more.1 w.client a.0));
        },
        zip_weaker (λ (v : Writer). w.client ≡ v.client → ⊥) (IsGiven s (last + count_of w.records) (entries_of s vs)) (IsGiven s last (x ∷ entries_of s vs))
            (λ u v other given. given_behind s last (entries_of s vs) x (last + count_of w.records) u v (omega arith) other given) ws vs a.0 (more.0 a.1),
      )),
      (λ c a. own_skip c x (entries_of s vs) a.0 ∙ more.1 c a.1),
    ))
    (λ last w ws vs full more. (
      (λ a. (
        record {
          last = last;
          boundary = ([], record { rest = entries_of s vs; split = refl; ends = refl });
          as_given = inr (refl, full, more.1 w.client a.0);
        },
        more.0 a.1,
      )),
      (λ c a. more.1 c a.1),
    ))
    last ws).0
