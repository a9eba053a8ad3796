-- Which of the core's clients the parts of a group cover.
use Rattle.std.proofs.Common.{◌≡◌, ◌≢◌, ◌⊎◌, inl, inr, ⊎_elim, ℕ, ◌+◌, ◌≤◌, Bool, true, false, ◌||◌, cond, List, [], ◌∷◌, ◌++◌, ◌==◌, map, filter, count_by, refl, sym, ap, ◌∙◌, arith}
use Rattle.std.specs.List.{list_all}
use Rattle.std.proofs.Math.Bool.{or-true}
use Rattle.std.proofs.lemmas.Bool.{and_from, eq-eqb}
use Rattle.std.proofs.lemmas.List.{map-append}
use Rattle.std.proofs.lemmas.List.Elements.{filter-append}
use Rattle.std.proofs.lemmas.List.Folds.{list_any-append}
use Rattle.std.proofs.lemmas.List.Sums.{sum_by-append, sum_by-cons}
use Rattle.model_core.specs.Core.{Writer, has_run, among, runners}
use Rattle.model_core.specs.Step.{is_last}
use Rattle.table_rule.specs.declared.content.MemberVersions.{MemberVersions}
use Rattle.table_rule.specs.Histories.{In}
use Rattle.table_rule.specs.CoreEvents.{StandFor}

-- Clients in a list

or_cases : (a b : Bool) → (a || b) ≡ true → (a ≡ true) ⊎ (b ≡ true)
or_cases true b e = inl refl
or_cases false b e = inr e

or_left : (a b : Bool) → a ≡ true → (a || b) ≡ true
or_left a b e = ap (λ x. x || b) e

or_right : (a b : Bool) → b ≡ true → (a || b) ≡ true
or_right a b e = ap (λ x. a || x) e ∙ or-true a

not_true : (b : Bool) → (b ≡ true → ⊥) → b ≡ false
not_true true never = absurd (never refl)
not_true false never = refl

pub among_left : (c : ℕ) (xs ys : List ℕ) → among c xs ≡ true → among c (xs ++ ys) ≡ true
among_left c xs ys is = list_any-append (λ n. n == c) xs ys ∙ or_left (among c xs) (among c ys) is

pub among_right : (c : ℕ) (xs ys : List ℕ) → among c ys ≡ true → among c (xs ++ ys) ≡ true
among_right c xs ys is = list_any-append (λ n. n == c) xs ys ∙ or_right (among c xs) (among c ys) is

-- a client that isn't in the second of two lists is in both together just where it is in the first
pub among_others : (c : ℕ) (xs ys : List ℕ) → among c ys ≡ false → among c (xs ++ ys) ≡ among c xs
among_others c xs ys not = list_any-append (λ n. n == c) xs ys ∙ (ap (λ b. among c xs || b) not ∙ or_false (among c xs))
  where
    or_false : (b : Bool) → (b || false) ≡ b
    or_false true = refl
    or_false false = refl

among_split : (c : ℕ) (xs ys : List ℕ) → among c (xs ++ ys) ≡ true → (among c xs ≡ true) ⊎ (among c ys ≡ true)
among_split c xs ys is = or_cases (among c xs) (among c ys) (sym (list_any-append (λ n. n == c) xs ys) ∙ is)

pub among_head : (c : ℕ) (cs : List ℕ) → among c (c ∷ cs) ≡ true
among_head c cs = or_left (c == c) (among c cs) (eq-eqb c c refl)

pub among_tail : (c d : ℕ) (cs : List ℕ) → among c cs ≡ true → among c (d ∷ cs) ≡ true
among_tail c d cs is = or_right (d == c) (among c cs) is

pub all_among : (cs ds : List ℕ) → ((c : ℕ) → among c cs ≡ true → among c ds ≡ true) → list_all (λ c. among c ds) cs ≡ true
all_among [] ds all = refl
all_among (c ∷ cs) ds all = and_from (among c ds) (list_all (λ c. among c ds) cs) (all c (among_head c cs)) (all_among cs ds (λ d is. all d (among_tail d c cs is)))

pub last_behind : (c : ℕ) (xs ys : List ℕ) → is_last c ys ≡ true → is_last c (xs ++ ys) ≡ true
last_behind c [] ys is = is
last_behind c (x ∷ []) [] is = absurd (cc)
last_behind c (x ∷ []) (y ∷ ys) is = is
last_behind c (x ∷ x' ∷ xs) ys is = last_behind c (x' ∷ xs) ys is

-- Lists that have each client once at most

abbrev pub Once : List ℕ → Type 0
Once cs = (c : ℕ) → count_by (λ n. n == c) cs ≤ 1

count_cons : (c x : ℕ) (xs : List ℕ) → count_by (λ n. n == c) (x ∷ xs) ≡ cond (x == c) 1 0 + count_by (λ n. n == c) xs
count_cons c x xs = sum_by-cons (λ n. cond (n == c) 1 0) x xs

count_append : (c : ℕ) (xs ys : List ℕ) → count_by (λ n. n == c) (xs ++ ys) ≡ count_by (λ n. n == c) xs + count_by (λ n. n == c) ys
count_append c xs ys = sum_by-append (λ n. cond (n == c) 1 0) xs ys

among_counts : (c : ℕ) (xs : List ℕ) → among c xs ≡ true → 1 ≤ count_by (λ n. n == c) xs
among_counts c [] is = absurd (cc)
among_counts c (x ∷ xs) is = let e = count_cons c x xs in ⊎_elim
    (λ (t : (x == c) ≡ true). let one = ap {B = ℕ} (λ b. cond b 1 0) t in omega (arith, e, one))
    (λ (t : among c xs ≡ true). let more = among_counts c xs t in omega (arith, e, more))
    (or_cases (x == c) (among c xs) is)

-- a client in the one part isn't in the other
once_apart : (c : ℕ) (xs ys : List ℕ) → count_by (λ n. n == c) xs + count_by (λ n. n == c) ys ≤ 1 → among c xs ≡ true → among c ys ≡ false
once_apart c xs ys once is = not_true (among c ys) (λ too. absurd (let a = among_counts c xs is in let b = among_counts c ys too in omega (arith, a, b, once)))

pub once_head : (c : ℕ) (cs : List ℕ) → Once (c ∷ cs) → among c cs ≡ false
once_head c cs once = once_apart c (c ∷ []) cs (let e = count_append c (c ∷ []) cs in let o = once c in omega (arith, e, o)) (among_head c [])

pub once_tail : (c : ℕ) (cs : List ℕ) → Once (c ∷ cs) → Once cs
once_tail c cs once d = let e = count_append d (c ∷ []) cs in let o = once d in omega (arith, e, o)

-- Teams

runners_append : (xs ys : List Writer) → runners (xs ++ ys) ≡ runners xs ++ runners ys
runners_append xs ys = ap (λ ws. map (λ (w : Writer). w.client) ws) (filter-append has_run xs ys) ∙ map-append (λ (w : Writer). w.client) (filter has_run xs) (filter has_run ys)

module _ (team : ℕ → List ℕ) where
  -- the first part's team, and the others'
  cut : (p : MemberVersions) (ps : List MemberVersions) (ws : List Writer) → (f : StandFor team (p ∷ ps) ws) → runners ws ≡ team p.member ++ runners f.1
  cut p ps ws (own, others, is, versions, mine, more) = ap runners is ∙ (runners_append own others ∙ ap (λ l. l ++ runners others) (sym mine))

  pub team_count : (g : List MemberVersions) (ws : List Writer) (p : MemberVersions) → StandFor team g ws → In p g → (c : ℕ) → count_by (λ n. n == c) (team p.member) ≤ count_by (λ n. n == c) (runners ws)
  team_count [] ws p f here c = absurd here
  team_count (q ∷ qs) ws p f here c =
      let e = ap (count_by (λ n. n == c)) (cut q qs ws f) ∙ count_append c (team q.member) (runners f.1) in ⊎_elim
      (λ (t : q ≡ p). let same = ap (λ (x : MemberVersions). count_by (λ n. n == c) (team x.member)) t in omega (arith, e, same))
      (λ (t : In p qs). let more = team_count qs f.1 p f.5 t c in omega (arith, e, more))
      here

  -- a client of a team runs in the group
  pub team_runs : (g : List MemberVersions) (ws : List Writer) (p : MemberVersions) → StandFor team g ws → In p g → (c : ℕ) → among c (team p.member) ≡ true → among c (runners ws) ≡ true
  team_runs [] ws p f here c is = absurd here
  team_runs (q ∷ qs) ws p f here c is = ap (among c) (cut q qs ws f) ∙ ⊎_elim
      (λ (t : q ≡ p). among_left c (team q.member) (runners f.1) (ap (λ (x : MemberVersions). among c (team x.member)) t ∙ is))
      (λ (t : In p qs). among_right c (team q.member) (runners f.1) (team_runs qs f.1 p f.5 t c is))
      here

  -- a client that runs in the group is of a team
  pub team_of : (g : List MemberVersions) (ws : List Writer) → StandFor team g ws → (c : ℕ) → among c (runners ws) ≡ true → (p : MemberVersions) × In p g × (among c (team p.member) ≡ true)
  team_of [] ws f c is = absurd (let bad : false ≡ true = sym (ap (λ l. among c (runners l)) f) ∙ is in cc)
  team_of (q ∷ qs) ws f c is = ⊎_elim
      (λ (t : among c (team q.member) ≡ true). (q, inl refl, t))
      (λ (t : among c (runners f.1) ≡ true). let more = team_of qs f.1 f.5 c t in (more.0, inr more.1, more.2))
      (among_split c (team q.member) (runners f.1) (sym (ap (among c) (cut q qs ws f)) ∙ is))

  -- nobody is of two teams
  pub teams_apart : (g : List MemberVersions) (ws : List Writer) (p q : MemberVersions) → StandFor team g ws → Once (runners ws) → In p g → In q g → q.member ≢ p.member → (c : ℕ) → among c (team q.member) ≡ true → among c (team p.member) ≡ false
  teams_apart [] ws p q f once here there ne c is = absurd here
  teams_apart (r ∷ rs) ws p q f once here there ne c is =
      let e = ap (count_by (λ n. n == c)) (cut r rs ws f) ∙ count_append c (team r.member) (runners f.1) in
      let o = once c in
      by (λ a b. teams_apart rs f.1 p q f.5 (λ d. let e = ap (count_by (λ n. n == d)) (cut r rs ws f) ∙ count_append d (team r.member) (runners f.1) in let o = once d in omega (arith, e, o)) a b ne c is) here there e o
    where
      few : (x : MemberVersions) → In x rs → count_by (λ n. n == c) (team x.member) ≤ count_by (λ n. n == c) (runners f.1)
      few x t = team_count rs f.1 x f.5 t c

      by : (In p rs → In q rs → among c (team p.member) ≡ false) → (r ≡ p) ⊎ In p rs → (r ≡ q) ⊎ In q rs → count_by (λ n. n == c) (runners ws) ≡ count_by (λ n. n == c) (team r.member) + count_by (λ n. n == c) (runners f.1) → count_by (λ n. n == c) (runners ws) ≤ 1 → among c (team p.member) ≡ false
      by more (inl a) (inl b) e o = absurd (ne (ap (λ (x : MemberVersions). x.member) (sym b ∙ a)))
      by more (inl a) (inr b) e o = let s = ap (λ (x : MemberVersions). count_by (λ n. n == c) (team x.member)) a in let l = few q b in once_apart c (team q.member) (team p.member) (omega (arith, e, o, s, l)) is
      by more (inr a) (inl b) e o = let s = ap (λ (x : MemberVersions). count_by (λ n. n == c) (team x.member)) b in let l = few p a in once_apart c (team q.member) (team p.member) (omega (arith, e, o, s, l)) is
      by more (inr a) (inr b) e o = more a b
