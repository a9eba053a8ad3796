-- Which entries each group of commits made, and that its members' answers name the group's end.
use Rattle.std.proofs.Common.{◌≡◌, ℕ, suc, ◌+◌, Bool, true, false, cond, ◌==◌, filter, flat_map, map, List, [], ◌∷◌, ◌++◌, Option, length, refl, ap, sym, ◌∙◌, subst, append-nil}
use Rattle.std.proofs.lemmas.Grind.{flat_map-append}
use Rattle.std.proofs.lemmas.List.{map-append}
use Rattle.std.proofs.lemmas.List.Elements.{filter-append}
use Rattle.model_base.specs.Batch.{count_of}
use Rattle.model_base.specs.History.{Entry, last_sequence}
use Rattle.model_base.specs.Outcomes.{entries_of_client}
use Rattle.model_accounts.specs.Led.{attempts_of}
use Rattle.model_runs.specs.Parts.{is_success, name_behind, name_of, successes}
use Rattle.model_accounts.specs.Parts.{ends_in}
use Rattle.model_accounts.proofs.Parts.{AreNamed, names_after}
use Rattle.engine_rule.specs.Commits.{Answer, AreAnswered, Commit, NamesEnd, accepted, held_up, commits_of, failed, fault_after, fault_after_all, last_after, last_after_all, no_room}
use Rattle.engine_rule.specs.Asked.{LedGroup, NameEnds, commits_in, place_of}
use Rattle.engine_rule.specs.Entries.{attempt_of, end_with, ends_of, entries_after, entries_of, entry_after, entry_with, mine_after, status_of}
use Rattle.engine_rule.specs.LogCalls.{led_of, parts_after, taken_of}
use Rattle.engine_rule.proofs.Chains.{entries_append, entries_history, entries_more, entries_own}
use Rattle.engine_rule.proofs.Leaders.{attempts_taken}
use Rattle.engine_rule.proofs.OneGroup.{NameEnd}

pub parts_cut : (before : List Commit) (groups : List LedGroup) → flat_map (λ part. part) (parts_after before groups) ≡ entries_after (entries_of before) (commits_in groups)
parts_cut before [] = refl
parts_cut before (g ∷ groups) =
    ap (λ es. entries_after (entries_of before) g.commits ++ es) (parts_cut (before ++ g.commits) groups ∙ ap (λ b. entries_after b (commits_in groups)) (entries_more before g.commits))
    ∙ sym (entries_append (entries_of before) g.commits (commits_in groups))

-- The names of the entries

ordinal_by : (k place : ℕ) (mine : List Entry) (c : Commit) (rest : List Entry) (bs : List Bool) (v : Answer) → length rest ≡ length (filter (λ (b : Bool). b) bs)
    → length (entry_with k mine c v ++ rest) ≡ length (filter (λ (b : Bool). b) (is_success (status_of v) ∷ bs))
ordinal_by k place mine c rest bs (accepted first end) h = ap suc h
ordinal_by k place mine c rest bs (held_up numbers) h = h
ordinal_by k place mine c rest bs (failed n) h = h
ordinal_by k place mine c rest bs (no_room l) h = h

ordinals : (k : ℕ) (mine : List Entry) (cs : List Commit) → length (mine_after k mine cs) ≡ length (filter (λ (b : Bool). b) (successes (map attempt_of cs)))
ordinals k mine [] = refl
ordinals k mine (c ∷ cs) = ordinal_by k (place_of c) mine c (mine_after k (mine ++ entry_with k mine c c.answer) cs) (successes (map attempt_of cs)) c.answer (ordinals k (mine ++ entry_with k mine c c.answer) cs)

as_many : (k : ℕ) (cs : List Commit) → length (entries_of_client k (entries_of cs)) ≡ length (filter (λ (b : Bool). b) (successes (attempts_of k (map taken_of cs))))
as_many k cs = ap length (entries_own k [] [] cs refl) ∙ (ordinals k [] (commits_of k cs) ∙ ap (λ own. length (filter (λ (b : Bool). b) (successes own))) (sym (attempts_taken k cs)))

name_by : (k place : ℕ) (mine : List Entry) (c : Commit) (before : List Bool) (v : Answer) → length mine ≡ length (filter (λ (b : Bool). b) before)
    → map name_of (entry_with k mine c v) ≡ name_behind k before (is_success (status_of v))
name_by k place mine c before (accepted first end) h = ap (λ n. (k, 1 + n) ∷ []) h
name_by k place mine c before (held_up numbers) h = refl
name_by k place mine c before (failed n) h = refl
name_by k place mine c before (no_room l) h = refl

one_more : (before : List Commit) (c : Commit) → entries_of before ++ entry_after (entries_of before) c ≡ entries_of (before ++ c ∷ [])
one_more before c = ap (λ es. entries_of before ++ es) (sym (append-nil (entry_after (entries_of before) c))) ∙ sym (entries_more before (c ∷ []))

named : (before cs : List Commit) → map name_of (entries_after (entries_of before) cs) ≡ names_after (map taken_of before) (map taken_of cs)
named before [] = refl
named before (c ∷ cs) =
    map-append name_of (entry_after (entries_of before) c) (entries_after (entries_of before ++ entry_after (entries_of before) c) cs)
    ∙ (λ i. name_by c.client (place_of c) (entries_of_client c.client (entries_of before)) c (successes (attempts_of c.client (map taken_of before))) c.answer (as_many c.client before) i
    ++ (ap (λ es. map name_of (entries_after es cs)) (one_more before c) ∙ (named (before ++ c ∷ []) cs ∙ ap (λ ts. names_after ts (map taken_of cs)) (map-append taken_of before (c ∷ [])))) i)

pub parts_named : (before : List Commit) (groups : List LedGroup) → AreNamed (map taken_of before) (map led_of groups) (parts_after before groups)
parts_named before [] = tt
parts_named before (g ∷ groups) = (
  named before g.commits,
  subst (λ ts. AreNamed ts (map led_of groups) (parts_after (before ++ g.commits) groups)) (map-append taken_of before g.commits) (parts_named (before ++ g.commits) groups),
)

-- Where the groups' parts end

-- the ends that the answers to a client's commits name: this end, once for each of its entries
module _ (k end : ℕ) where
  abbrev told : List Entry → List ℕ
  told es = map (λ (e : Entry). end) (entries_of_client k es)

  told_own : (mine : List Entry) (c : Commit) (rest : List Entry) (own : List Commit) (v : Answer) → (c.client == k) ≡ true → NamesEnd end v → told rest ≡ ends_of own
      → told (entry_with c.client mine c v ++ rest) ≡ end_with v ++ ends_of own
  told_own mine c rest own (accepted first group_last) e is more = rw e (λ i. sym is i ∷ more i)
  told_own mine c rest own (held_up numbers) e is more = more
  told_own mine c rest own (failed n) e is more = more
  told_own mine c rest own (no_room l) e is more = more

  told_other : (mine : List Entry) (c : Commit) (rest : List Entry) (v : Answer) → (c.client == k) ≡ false → told (entry_with c.client mine c v ++ rest) ≡ told rest
  told_other mine c rest (accepted first group_last) e = rw e refl
  told_other mine c rest (held_up numbers) e = refl
  told_other mine c rest (failed n) e = refl
  told_other mine c rest (no_room l) e = refl

  told_all : (before : List Entry) (cs : List Commit) → NameEnd end cs → told (entries_after before cs) ≡ ends_of (commits_of k cs)
  told_all before [] h = refl
  told_all before (c ∷ cs) h = by (c.client == k) refl (told_all (before ++ entry_after before c) cs h.1)
    where
      by : (b : Bool) → (c.client == k) ≡ b → told (entries_after (before ++ entry_after before c) cs) ≡ ends_of (commits_of k cs)
          → told (entry_after before c ++ entries_after (before ++ entry_after before c) cs) ≡ ends_of (cond b (c ∷ commits_of k cs) (commits_of k cs))
      by true e more = told_own (entries_of_client c.client before) c (entries_after (before ++ entry_after before c) cs) (commits_of k cs) c.answer e h.0 more
      by false e more = told_other (entries_of_client c.client before) c (entries_after (before ++ entry_after before c) cs) c.answer e ∙ more

-- the last sequence of a part that has an entry doesn't depend on the sequence before it
from_any : (k last : ℕ) (part : List Entry) → map (λ (e : Entry). last_sequence 0 part) (entries_of_client k part) ≡ map (λ (e : Entry). last_sequence last part) (entries_of_client k part)
from_any k last [] = refl
from_any k last (e ∷ es) = refl

pub answered_cut : (last : ℕ) (dead : Option ℕ) (xs ys : List Commit) → AreAnswered last dead (xs ++ ys) → AreAnswered last dead xs × AreAnswered (last_after_all last xs) (fault_after_all dead xs) ys
answered_cut last dead [] ys h = (tt, h)
answered_cut last dead (x ∷ xs) ys h = let t = answered_cut (last_after last (count_of x.records) x.answer) (fault_after dead x.answer) xs ys h.1 in ((h.0, t.0), t.1)

pub ends_are : (k last : ℕ) (dead : Option ℕ) (before : List Commit) (groups : List LedGroup) → AreAnswered last dead (commits_in groups) → NameEnds last groups → ends_in k (parts_after before groups) ≡ ends_of (commits_of k (commits_in groups))
ends_are k last dead before [] right names = refl
ends_are k last dead before (g ∷ groups) right names =
    let both = answered_cut last dead g.commits (commits_in groups) right in
    let part : List Entry = entries_after (entries_of before) g.commits in
    let ends : last_sequence last part ≡ last_after_all last g.commits = (entries_history last dead (entries_of before) g.commits both.0).1 in
    let here : map (λ (e : Entry). last_sequence 0 part) (entries_of_client k part) ≡ ends_of (commits_of k g.commits) =
    from_any k last part ∙ (ap (λ n. map (λ (e : Entry). n) (entries_of_client k part)) ends ∙ told_all k (last_after_all last g.commits) (entries_of before) g.commits names.0) in
    (λ i. here i ++ ends_are k (last_after_all last g.commits) (fault_after_all dead g.commits) (before ++ g.commits) groups both.1 names.1 i)
    ∙ (sym (flat_map-append (λ (c : Commit). end_with c.answer) (commits_of k g.commits) (commits_of k (commits_in groups)))
    ∙ ap ends_of (sym (filter-append (λ (c : Commit). c.client == k) g.commits (commits_in groups))))
