-- Which commits each group has, and which entries it made, from what the holder of the log knows.
use Rattle.std.proofs.Common.{◌≡◌, inl, inr, ℕ, zero, suc, ◌+◌, ◌-◌, ◌≤◌, Bool, false, Some, List, [], ◌∷◌, ◌++◌, length, map, filter, flat_map, take, get_or, slice_get, refl, ap, sym, ◌∙◌, arith, append_assoc}
use Rattle.std.specs.List.{AllByRecursion, AllZip, cons_option, filter_map}
use Rattle.std.proofs.lemmas.Option.{slice_get_cases}
use Rattle.std.proofs.lemmas.List.{length-map, map-append}
use Rattle.std.proofs.Math.Seq.{take-append_seam, get_or-append_seam}
use Rattle.model_base.specs.History.{Entry}
use Rattle.model_base.specs.Attempts.{Attempt, item_of}
use Rattle.model_base.specs.Groups.{Group}
use Rattle.model_accounts.specs.Led.{Taken, Led, all_taken, is_of, count_of_client, attempts_of, members_after, groups_after}
use Rattle.model_runs.specs.Groups.{commit_of, commits_in}
use Rattle.model_runs.specs.Parts.{is_success, successes, name_behind, name_made, names_made, name_of}
use Rattle.model_accounts.proofs.Leading.{all_left, all_right, attempt_at, attempts_append, own_is}

-- the names of the entries that these commits made, after the commits `before`
abbrev pub names_after : List Taken → List Taken → List (ℕ × ℕ)
names_after before [] = []
names_after before (t ∷ ts) = name_behind t.client (successes (attempts_of t.client before)) (is_success t.attempt.status)
    ++ names_after (before ++ t ∷ []) ts

-- each part has just the names of its group's entries
abbrev pub AreNamed : List Taken → List Led → List (List Entry) → Type 0
AreNamed before [] [] = Unit {0}
AreNamed before [] (part ∷ parts) = ⊥
AreNamed before (g ∷ led) [] = ⊥
AreNamed before (g ∷ led) (part ∷ parts) = (map name_of part ≡ names_after before g.commits) × AreNamed (before ++ g.commits) led parts

got : {A : Type 0} (xs : List A) (i : ℕ) (d x : A) → slice_get xs i ≡ Some x → get_or xs i d ≡ x
got [] i d x e = absurd (cc e)
got (y ∷ xs) zero d x e = cc e
got (y ∷ xs) (suc i) d x e = got xs i d x e

-- whether each of a client's commits succeeded, with one commit in the middle
successes_at : (before : List Taken) (t : Taken) (after : List Taken)
    → successes (attempts_of t.client (before ++ t ∷ after)) ≡ successes (attempts_of t.client before) ++ is_success t.attempt.status ∷ successes (attempts_of t.client after)
successes_at before t after =
    let here : attempts_of t.client (t ∷ after) ≡ t.attempt ∷ attempts_of t.client after = rw (own_is t) refl in
    ap successes (attempts_append t.client before (t ∷ after) ∙ ap (λ own. attempts_of t.client before ++ own) here)
    ∙ map-append (λ (h : Attempt). is_success h.status) (attempts_of t.client before) (t.attempt ∷ attempts_of t.client after)

place_is : (client : ℕ) (before : List Taken) → length (successes (attempts_of client before)) ≡ count_of_client client before
place_is client before =
    length-map (attempts_of client before) (λ (h : Attempt). is_success h.status) ∙ length-map (filter (is_of client) before) (λ (t : Taken). t.attempt)

-- the name of the entry that the commit in the middle made
name_at : (client : ℕ) (before after : List Bool) (success : Bool) → name_behind client (take (length before) (before ++ success ∷ after)) (get_or (before ++ success ∷ after) (length before) false) ≡ name_behind client before success
name_at client before after success = λ i. name_behind client (take-append_seam before (success ∷ after) i) (get_or-append_seam before success after false i)

module _ (attempts : List (List Attempt)) (all : List Taken) (of_client : (i : ℕ) (own : List Attempt) → slice_get attempts i ≡ Some own → own ≡ attempts_of (i + 1) all) where
  abbrev AreOfClients : List Taken → Type 0
  AreOfClients ts = AllByRecursion (λ (t : Taken). (1 ≤ t.client) × (t.client ≤ length attempts)) ts

  own_are : (client : ℕ) → 1 ≤ client → client ≤ length attempts → get_or attempts (client - 1) [] ≡ attempts_of client all
  own_are client low high = elim (slice_get_cases attempts (client - 1)).1 [
    | inl there ↦ (
        let number : client - 1 + 1 ≡ client = omega arith in
        got attempts (client - 1) [] there.0 there.2 ∙ (of_client (client - 1) there.0 there.2 ∙ ap (λ n. attempts_of n all) number))
    | inr gone ↦ (let none = gone.0 in absurd (omega arith))
  ]

  name_is : (before : List Taken) (t : Taken) (after : List Taken) → before ++ t ∷ after ≡ all → 1 ≤ t.client → t.client ≤ length attempts
      → name_made attempts (record { client = t.client; call = count_of_client t.client before; item = item_of t.attempt }) ≡ name_behind t.client (successes (attempts_of t.client before)) (is_success t.attempt.status)
  name_is before t after split low high =
      let own : successes (get_or attempts (t.client - 1) []) ≡ successes (attempts_of t.client before) ++ is_success t.attempt.status ∷ successes (attempts_of t.client after) =
      ap successes (own_are t.client low high ∙ ap (attempts_of t.client) (sym split)) ∙ successes_at before t after in
      (λ i. name_behind t.client (take (sym (place_is t.client before) i) (own i)) (get_or (own i) (sym (place_is t.client before) i) false))
      ∙ name_at t.client (successes (attempts_of t.client before)) (successes (attempts_of t.client after)) (is_success t.attempt.status)

  names_are : (before ts after : List Taken) → before ++ (ts ++ after) ≡ all → AreOfClients ts → flat_map (name_made attempts) (members_after before ts) ≡ names_after before ts
  names_are before [] after split h = refl
  names_are before (t ∷ ts) after split h = λ i. name_is before t (ts ++ after) split h.0.0 h.0.1 i ++ names_are (before ++ t ∷ []) ts after (append_assoc before (t ∷ []) (ts ++ after) ∙ split) h.1 i

  pub parts_made : (before : List Taken) (led : List Led) (parts : List (List Entry)) → before ++ all_taken led ≡ all → AreOfClients (all_taken led) → AreNamed before led parts
      → AllZip (λ (g : Group) (part : List Entry). map name_of part ≡ names_made attempts g) (groups_after before led) parts
  parts_made before [] [] split h named = tt
  parts_made before [] (part ∷ parts) split h named = absurd named
  parts_made before (g ∷ led) [] split h named = absurd named
  parts_made before (g ∷ led) (part ∷ parts) split h named = (
    named.0 ∙ sym (names_are before g.commits (all_taken led) split (all_left _ g.commits (all_taken led) h)),
    parts_made (before ++ g.commits) led parts (append_assoc before g.commits (all_taken led) ∙ split) (all_right _ g.commits (all_taken led) h) named.1,
  )

  -- the commits of each group's members are those that its leader took
  commit_is : (before : List Taken) (t : Taken) (after : List Taken) → before ++ t ∷ after ≡ all → 1 ≤ t.client → t.client ≤ length attempts
      → commit_of attempts (record { client = t.client; call = count_of_client t.client before; item = item_of t.attempt }) ≡ Some t.attempt
  commit_is before t after split low high =
      ap (λ own. slice_get own (count_of_client t.client before)) (own_are t.client low high ∙ ap (attempts_of t.client) (sym split)) ∙ attempt_at before t after

  commits_are : (before ts after : List Taken) → before ++ (ts ++ after) ≡ all → AreOfClients ts → filter_map (commit_of attempts) (members_after before ts) ≡ map (λ (t : Taken). t.attempt) ts
  commits_are before [] after split h = refl
  commits_are before (t ∷ ts) after split h =
      λ i. cons_option (commit_is before t (ts ++ after) split h.0.0 h.0.1 i) (commits_are (before ++ t ∷ []) ts after (append_assoc before (t ∷ []) (ts ++ after) ∙ split) h.1 i)

  pub commits_led : (before : List Taken) (led : List Led) → before ++ all_taken led ≡ all → AreOfClients (all_taken led) → map (commits_in attempts) (groups_after before led) ≡ map (λ (g : Led). map (λ (t : Taken). t.attempt) g.commits) led
  commits_led before [] split h = refl
  commits_led before (g ∷ led) split h =
      λ i. commits_are before g.commits (all_taken led) split (all_left _ g.commits (all_taken led) h) i
      ∷ commits_led (before ++ g.commits) led (append_assoc before g.commits (all_taken led) ∙ split) (all_right _ g.commits (all_taken led) h) i
