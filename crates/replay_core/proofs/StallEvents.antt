-- A writer that leaves the queue, as the code finds it.
use Rattle.std.proofs.Common.{◌≡◌, ℕ, zero, suc, ◌+◌, ◌-◌, ◌<◌, ◌≤◌, Bool, true, false, not, ◌==◌, cond, List, [], ◌∷◌, ◌++◌, length, take, drop, map, filter, find, get_or, Some, None, refl, sym, ap, ◌∙◌, arith}
use Rattle.std.specs.Prelude.{if◌then◌else◌}
use Rattle.std.proofs.lemmas.Bool.{cond-true, cond-false}
use Rattle.std.proofs.lemmas.List.{length-drop, length-take-le, drop-drop, drop-append-le, take-append-le, take-take}
use Rattle.std.proofs.Math.Seq.{drop-cons, take-length}
use Rattle.model_core.specs.Core as core
use Rattle.model_core_laws.proofs.Tables.{there, times_cons}
use Rattle.replay_plans.specs.declared.plan.ClientPlan.{ClientPlan}
use Rattle.replay_core.specs.declared.writer.Writer.{Writer}
use Rattle.replay_core.specs.Leads.{writers_before}
use Rattle.replay_core.specs.Shown.{shown_writer}
use Rattle.replay_core.proofs.Removing.{without, drop_of_take}

-- the number of the writers before the first one of a client, from a place on
pub before_next : (c : ℕ) (ws : List Writer) (i : ℕ) (d : Writer) → i < length ws → writers_before c (drop i ws) ≡ (if (get_or ws i d).client == c then 0 else suc (writers_before c (drop (suc i) ws)))
before_next c [] i d h = absurd (omega arith)
before_next c (w ∷ ws) zero d h = refl
before_next c (w ∷ ws) (suc i) d h = before_next c ws i d (omega arith)

pub before_few : (c : ℕ) (ws : List Writer) → writers_before c ws ≤ length ws
before_few c [] = omega arith
before_few c (w ∷ ws) = by (w.client == c) (before_few c ws)
  where
    by : (b : Bool) → writers_before c ws ≤ length ws → (if b then 0 else suc (writers_before c ws)) ≤ length (w ∷ ws)
    by true few = omega arith
    by false few = omega arith

module _ (plans : List ClientPlan) (m : ℕ) where
  abbrev shown : List Writer → List core.Writer
  shown ws = map (shown_writer plans) ws

  abbrev theirs : core.Writer → Bool
  theirs w = w.client == m

  abbrev others : core.Writer → Bool
  others w = not (w.client == m)

  -- the client's writer is found there, or isn't found
  pub found_there : (ws : List Writer) (d : Writer) → writers_before m ws < length ws → find theirs (shown ws) ≡ Some (shown_writer plans (get_or ws (writers_before m ws) d))
  found_there [] d h = absurd (omega arith)
  found_there (w ∷ ws) d h = by (w.client == m) h (found_there ws d)
    where
      by : (b : Bool) → (if b then 0 else suc (writers_before m ws)) < length (w ∷ ws) → (writers_before m ws < length ws → find theirs (shown ws) ≡ Some (shown_writer plans (get_or ws (writers_before m ws) d)))
          → cond b (Some (shown_writer plans w)) (find theirs (shown ws)) ≡ Some (shown_writer plans (get_or (w ∷ ws) (if b then 0 else suc (writers_before m ws)) d))
      by true lt later = refl
      by false lt later = later (omega arith)

  pub found_nowhere : (ws : List Writer) → length ws ≤ writers_before m ws → find theirs (shown ws) ≡ None
  found_nowhere [] h = refl
  found_nowhere (w ∷ ws) h = by (w.client == m) h (found_nowhere ws)
    where
      by : (b : Bool) → length (w ∷ ws) ≤ (if b then 0 else suc (writers_before m ws)) → (length ws ≤ writers_before m ws → find theirs (shown ws) ≡ None) → cond b (Some (shown_writer plans w)) (find theirs (shown ws)) ≡ None
      by true le later = absurd (omega arith)
      by false le later = later (omega arith)

  none_left_out : (ws : List core.Writer) → there m ws ≡ 0 → filter others ws ≡ ws
  none_left_out [] e = refl
  none_left_out (w ∷ ws) e = by (w.client == m) refl (none_left_out ws)
    where
      by : (b : Bool) → (w.client == m) ≡ b → (there m ws ≡ 0 → filter others ws ≡ ws) → cond (not b) (w ∷ filter others ws) (filter others ws) ≡ w ∷ ws
      by true here later =
          let f = times_cons m w.client (map (λ (w : core.Writer). w.client) ws) in
          let g : cond {A = ℕ} (w.client == m) 1 0 ≡ 1 = cond-true {A = ℕ} (w.client == m) 1 0 here in
          absurd (omega (arith, e, f, g))
      by false here later =
          let f = times_cons m w.client (map (λ (w : core.Writer). w.client) ws) in
          let g : cond {A = ℕ} (w.client == m) 1 0 ≡ 0 = cond-false {A = ℕ} (w.client == m) 1 0 here in
          ap (λ l. w ∷ l) (later (omega (arith, e, f, g)))

  -- without the client's writers the queue is without that place, where the client waits once
  pub one_left_out : (ws : List Writer) → there m (shown ws) ≤ 1 → writers_before m ws < length ws → filter others (shown ws) ≡ without (writers_before m ws) (suc (writers_before m ws)) (shown ws)
  one_left_out [] once h = absurd (omega arith)
  one_left_out (w ∷ ws) once h = by (w.client == m) refl h (one_left_out ws)
    where
      by : (b : Bool) → (w.client == m) ≡ b → (if b then 0 else suc (writers_before m ws)) < length (w ∷ ws) → (there m (shown ws) ≤ 1 → writers_before m ws < length ws → filter others (shown ws) ≡ without (writers_before m ws) (suc (writers_before m ws)) (shown ws))
          → cond (not b) (shown_writer plans w ∷ filter others (shown ws)) (filter others (shown ws)) ≡ without (if b then 0 else suc (writers_before m ws)) (suc (if b then 0 else suc (writers_before m ws))) (shown (w ∷ ws))
      by true here lt later =
          let f = times_cons m w.client (map (λ (w : core.Writer). w.client) (shown ws)) in
          let g : cond {A = ℕ} (w.client == m) 1 0 ≡ 1 = cond-true {A = ℕ} (w.client == m) 1 0 here in
          none_left_out (shown ws) (omega (arith, once, f, g))
      by false here lt later =
          let f = times_cons m w.client (map (λ (w : core.Writer). w.client) (shown ws)) in
          ap (λ l. shown_writer plans w ∷ l) (later (omega (arith, once, f)) (omega arith))

-- the front of a list, before what is taken out
pub front_same : {A : Type 0} (start len place : ℕ) (xs back : List A) → start + len ≤ place → place ≤ length xs → take len (drop start (take place xs ++ back)) ≡ take len (drop start xs)
front_same start len place xs back few h =
    let long : length (take place xs) ≡ place = length-take-le place xs h in
    let off : length (drop start (take place xs)) ≡ length (take place xs) - start = length-drop start (take place xs) in
    ap (take len) (drop-append-le start (take place xs) back (omega (arith, few, long)))
    ∙ (take-append-le len (drop start (take place xs)) back (omega (arith, few, long, off))
    ∙ (ap (take len) (drop_of_take start place xs (omega (arith, few))) ∙ take-take len (place - start) (drop start xs) (omega (arith, few))))

pub back_without : {A : Type 0} (start k : ℕ) (xs : List A) → start + k ≤ length xs → drop start (without (start + k) (start + k + 1) xs) ≡ without k (suc k) (drop start xs)
back_without start k xs h =
    let long : length (take (start + k) xs) ≡ start + k = length-take-le (start + k) xs h in
    let back : drop (suc k) (drop start xs) ≡ drop (start + k + 1) xs = drop-drop (suc k) start xs ∙ ap (λ n. drop n xs) (omega arith) in
    let n : (start + k) - start ≡ k = omega arith in
    drop-append-le start (take (start + k) xs) (drop (start + k + 1) xs) (omega (arith, long))
    ∙ (ap (λ l. l ++ drop (start + k + 1) xs) (drop_of_take start (start + k) xs (omega arith) ∙ ap (λ j. take j (drop start xs)) n)
    ∙ ap (λ l. take k (drop start xs) ++ l) (sym back))

-- the part with one writer
pub one_part : (plans : List ClientPlan) (ws : List Writer) (place : ℕ) (d : Writer) → place < length ws → map (shown_writer plans) (take ((place + 1) - place) (drop place ws)) ≡ shown_writer plans (get_or ws place d) ∷ []
one_part plans ws place d h =
    let n : (place + 1) - place ≡ suc zero = omega arith in
    ap (λ k. map (shown_writer plans) (take k (drop place ws))) n ∙ ap (λ l. map (shown_writer plans) (take (suc zero) l)) (drop-cons ws place d h)

-- a list from a place on
pub rest_whole : {A : Type 0} (n : ℕ) (xs : List A) → take (length xs - n) (drop n xs) ≡ drop n xs
rest_whole n xs = ap (λ k. take k (drop n xs)) (sym (length-drop n xs)) ∙ take-length (drop n xs)
