-- Commits with right answers, one after another, and the history that they make.
use Rattle.std.proofs.Common.{◌≡◌, ℕ, ◌+◌, ◌-◌, ◌≤◌, ◌==◌, List, [], ◌∷◌, ◌++◌, Option, refl, ap, sym, ◌∙◌, subst, arith, append_assoc, append-nil}
use Rattle.std.specs.List.{AllByRecursion}
use Rattle.std.proofs.lemmas.Bool.{ne_eqb, eq-eqb}
use Rattle.std.proofs.lemmas.List.Elements.{filter-append}
use Rattle.model_base.specs.Batch.{count_of}
use mathlib.Core.Logic.{dite}
use native.Mathlib.Decide.{ℕ_discrete}
use Rattle.model_base.specs.History.{Entry, IsHistory, last_sequence, max_sequence}
use Rattle.table_rule.specs.declared.content.MemberVersions.{MemberVersions}
use Rattle.table_rule.specs.Histories.{made_by, Images}
use Rattle.model_base.specs.Outcomes.{entries_of_client}
use Rattle.model_accounts.specs.Versions.{versions_of_entry, versions_of_entries}
use Rattle.engine_rule.specs.Commits.{Answer, AreAnswered, AreOfClients, Commit, IsAnswer, accepted, held_up, commits_of, failed, fault_after, fault_after_all, last_after, last_after_all, no_room}
use Rattle.engine_rule.specs.Entries.{entries_after, entries_of, entry_after, entry_with, mine_after, versions_made, versions_with}

pub end_append : (last : ℕ) (xs ys : List Commit) → last_after_all last (xs ++ ys) ≡ last_after_all (last_after_all last xs) ys
end_append last [] ys = refl
end_append last (x ∷ xs) ys = end_append (last_after last (count_of x.records) x.answer) xs ys

pub dead_append : (dead : Option ℕ) (xs ys : List Commit) → fault_after_all dead (xs ++ ys) ≡ fault_after_all (fault_after_all dead xs) ys
dead_append dead [] ys = refl
dead_append dead (x ∷ xs) ys = dead_append (fault_after dead x.answer) xs ys

pub answered_append : (last : ℕ) (dead : Option ℕ) (xs ys : List Commit) → AreAnswered last dead xs → AreAnswered (last_after_all last xs) (fault_after_all dead xs) ys → AreAnswered last dead (xs ++ ys)
answered_append last dead [] ys a b = b
answered_append last dead (x ∷ xs) ys a b = (a.0, answered_append (last_after last (count_of x.records) x.answer) (fault_after dead x.answer) xs ys a.1 b)

pub entries_append : (before : List Entry) (xs ys : List Commit) → entries_after before (xs ++ ys) ≡ entries_after before xs ++ entries_after (before ++ entries_after before xs) ys
entries_append before [] ys = ap (λ b. entries_after b ys) (sym (append-nil before))
entries_append before (x ∷ xs) ys =
    let e = entry_after before x in
    ap (λ es. e ++ es) (entries_append (before ++ e) xs ys ∙ ap (λ b. entries_after (before ++ e) xs ++ entries_after b ys) (append_assoc before e (entries_after (before ++ e) xs)))
    ∙ sym (append_assoc e (entries_after (before ++ e) xs) (entries_after (before ++ (e ++ entries_after (before ++ e) xs)) ys))

pub entries_more : (xs ys : List Commit) → entries_of (xs ++ ys) ≡ entries_of xs ++ entries_after (entries_of xs) ys
entries_more xs ys = entries_append [] xs ys

-- the entries of such commits are a history, which ends with the last sequence given
history_step : (last : ℕ) (dead : Option ℕ) (mine : List Entry) (c : Commit) (rest : List Entry) (end : ℕ) (v : Answer) → IsAnswer last dead (count_of c.records) v
    → IsHistory (last_after last (count_of c.records) v) rest × (last_sequence (last_after last (count_of c.records) v) rest ≡ end)
    → IsHistory last (entry_with c.client mine c v ++ rest) × (last_sequence last (entry_with c.client mine c v ++ rest) ≡ end)
history_step last dead mine c rest end (accepted first g) ok more =
    let ends : last + count_of c.records ≡ first + count_of c.records - 1 = (let a = ok.2 in let b = ok.1 in omega (arith, a, b)) in (
      (record { counted = refl; some = ok.1; first = ok.2; fits = subst (λ n. n ≤ max_sequence) ends ok.3 }, subst (λ n. IsHistory n rest) ends more.0),
      ap (λ n. last_sequence n rest) (sym ends) ∙ more.1,
    )
history_step last dead mine c rest end (held_up numbers) ok more = more
history_step last dead mine c rest end (failed n) ok more = more
history_step last dead mine c rest end (no_room l) ok more = more

pub entries_history : (last : ℕ) (dead : Option ℕ) (before : List Entry) (cs : List Commit) → AreAnswered last dead cs → IsHistory last (entries_after before cs) × (last_sequence last (entries_after before cs) ≡ last_after_all last cs)
entries_history last dead before [] h = (tt, refl)
entries_history last dead before (c ∷ cs) h =
    history_step last dead (entries_of_client c.client before) c (entries_after (before ++ entry_after before c) cs) (last_after_all (last_after last (count_of c.records) c.answer) cs) c.answer h.0
    (entries_history (last_after last (count_of c.records) c.answer) (fault_after dead c.answer) (before ++ entry_after before c) cs h.1)

-- each client's own entries among them
own_with : (k : ℕ) (mine : List Entry) (c : Commit) (v : Answer) → c.client ≡ k → entries_of_client k (entry_with c.client mine c v) ≡ entry_with c.client mine c v
own_with k mine c (accepted first end) e = rw (eq-eqb c.client k e) refl
own_with k mine c (held_up numbers) e = refl
own_with k mine c (failed n) e = refl
own_with k mine c (no_room l) e = refl

own_none : (k : ℕ) (mine : List Entry) (c : Commit) (v : Answer) → (c.client ≡ k → ⊥) → entries_of_client k (entry_with c.client mine c v) ≡ []
own_none k mine c (accepted first end) other = rw (ne_eqb c.client k other) refl
own_none k mine c (held_up numbers) other = refl
own_none k mine c (failed n) other = refl
own_none k mine c (no_room l) other = refl

own_append : (k : ℕ) (xs ys : List Entry) → entries_of_client k (xs ++ ys) ≡ entries_of_client k xs ++ entries_of_client k ys
own_append k xs ys = filter-append (λ (e : Entry). e.client == k) xs ys

pub entries_own : (k : ℕ) (before mine : List Entry) (cs : List Commit) → entries_of_client k before ≡ mine → entries_of_client k (entries_after before cs) ≡ mine_after k mine (commits_of k cs)
entries_own k before mine [] is = refl
entries_own k before mine (c ∷ cs) is = dite (ℕ_discrete c.client k)
    (λ same.
    let now : entries_of_client c.client before ≡ mine = ap (λ j. entries_of_client j before) same ∙ is in
    let entry_is : entry_after before c ≡ entry_with k mine c c.answer = λ i. entry_with (same i) (now i) c c.answer in
    let mine_is : entries_of_client k (entry_after before c) ≡ entry_with k mine c c.answer = own_with k (entries_of_client c.client before) c c.answer same ∙ entry_is in
    let later : entries_of_client k (before ++ entry_after before c) ≡ mine ++ entry_with k mine c c.answer = own_append k before (entry_after before c) ∙ (λ i. is i ++ mine_is i) in
    own_append k (entry_after before c) (entries_after (before ++ entry_after before c) cs)
    ∙ ((λ i. mine_is i ++ entries_own k (before ++ entry_after before c) (mine ++ entry_with k mine c c.answer) cs later i)
    ∙ rw (eq-eqb c.client k same) refl))
    (λ other.
    let none : entries_of_client k (entry_after before c) ≡ [] = own_none k (entries_of_client c.client before) c c.answer other in
    let later : entries_of_client k (before ++ entry_after before c) ≡ mine = own_append k before (entry_after before c) ∙ ((λ i. is i ++ none i) ∙ append-nil mine) in
    own_append k (entry_after before c) (entries_after (before ++ entry_after before c) cs)
    ∙ ((λ i. none i ++ entries_own k (before ++ entry_after before c) mine cs later i)
    ∙ rw (ne_eqb c.client k other) refl))

-- each entry of the history is of one of the clients
named_with : (n : ℕ) (mine : List Entry) (c : Commit) (rest : List Entry) (v : Answer) → (1 ≤ c.client) × (c.client ≤ n) → AllByRecursion (λ (e : Entry). (1 ≤ e.client) × (e.client ≤ n)) rest
    → AllByRecursion (λ (e : Entry). (1 ≤ e.client) × (e.client ≤ n)) (entry_with c.client mine c v ++ rest)
named_with n mine c rest (accepted first end) h more = (h, more)
named_with n mine c rest (held_up numbers) h more = more
named_with n mine c rest (failed k) h more = more
named_with n mine c rest (no_room l) h more = more

pub entries_clients : (n : ℕ) (before : List Entry) (cs : List Commit) → AreOfClients n cs → AllByRecursion (λ (e : Entry). (1 ≤ e.client) × (e.client ≤ n)) (entries_after before cs)
entries_clients n before [] h = tt
entries_clients n before (c ∷ cs) h = named_with n (entries_of_client c.client before) c (entries_after (before ++ entry_after before c) cs) c.answer h.0 (entries_clients n (before ++ entry_after before c) cs h.1)

-- the versions of the history are those that the commits made
versions_one : (mine : List Entry) (c : Commit) (rest : List Entry) (v : Answer) → versions_of_entries (entry_with c.client mine c v ++ rest) ≡ versions_with c v ++ versions_of_entries rest
versions_one mine c rest (accepted first end) = refl
versions_one mine c rest (held_up numbers) = refl
versions_one mine c rest (failed k) = refl
versions_one mine c rest (no_room l) = refl

entries_versions : (before : List Entry) (cs : List Commit) → versions_of_entries (entries_after before cs) ≡ made_by versions_made cs
entries_versions before [] = refl
entries_versions before (c ∷ cs) =
    versions_one (entries_of_client c.client before) c (entries_after (before ++ entry_after before c) cs) c.answer
    ∙ ap (λ vs. versions_with c c.answer ++ vs) (entries_versions (before ++ entry_after before c) cs)

-- so what is published, as the commits made it, was also made by the entries
pub images_entries : (before : List Entry) (cs : List Commit) (published : List (List MemberVersions)) → Images versions_made cs published → Images versions_of_entry (entries_after before cs) published
images_entries before cs [] is = entries_versions before cs ∙ is
images_entries before cs (g ∷ published) is = (
  entries_after before is.0,
  entries_after (before ++ entries_after before is.0) is.1,
  ap (entries_after before) is.2 ∙ entries_append before is.0 is.1,
  entries_versions before is.0 ∙ is.3,
  images_entries (before ++ entries_after before is.0) is.1 published is.4,
)
