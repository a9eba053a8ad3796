-- Each step keeps the rule of the board.
use Rattle.std.proofs.Common.{◌≡◌, ◌≢◌, ◌⊎◌, ℕ, zero, suc, ◌<◌, ◌≤◌, max, List, [], ◌∷◌, ◌++◌, set, refl, sym, ap, subst, inl, inr, ⊎_elim, arith}
use Rattle.std.specs.Prelude.{slice_index}
use mathlib.Core.Option.{Option, none, some, some-injective, some-ne-none}
use lib.ListN.{get_elem?}
use Rattle.atomic_table.proofs.Lists.{at_set, at_snoc}
use Rattle.atomic_table.specs.Table.{State, keeps, step, opening, Allows, Splits, Joins}
use Rattle.engine_board.specs.declared.rule.Announced.{Announced}
use Rattle.engine_board.specs.declared.rule.Gathered.{Gathered}
use Rattle.engine_board.specs.declared.rule.BoardView.{BoardView}
use Rattle.engine_board.specs.Board.{In, newcomer, both, IsUpTo, AreMet, Kept, Seated, HasRaised, HasAnnounced, HasMarked, HasGathered}

module _ {A : Type 0} where
  in_split : (a : A) (xs ys : List A) → In a (xs ++ ys) → In a xs ⊎ In a ys
  in_split a [] ys h = inr h
  in_split a (x ∷ xs) ys h = ⊎_elim (λ (e : x ≡ a). inl (inl e)) (λ (t : In a (xs ++ ys)). ⊎_elim (λ u. inl (inr u)) (λ u. inr u) (in_split a xs ys t)) h

  in_snoc : (P : A → Type 0) (a x : A) (xs : List A) → In a (xs ++ x ∷ []) → (In a xs → P a) → P x → P a
  in_snoc P a x xs h old new = ⊎_elim old (λ (t : In a (x ∷ [])). ⊎_elim (λ (e : x ≡ a). subst P e new) (λ (none : ⊥). absurd none) t) (in_split a xs (x ∷ []) h)

-- what isn't above lower words isn't above higher ones
up_to_more : (mark said mark' said' : ℕ) → mark ≤ mark' → said ≤ said' → (v : BoardView) → IsUpTo mark said v → IsUpTo mark' said' v
up_to_more mark said mark' said' marks says v u = record {
  raised = omega (arith, u.raised, says);
  marked = omega (arith, u.marked, marks);
  announced = λ a h. let p = u.announced a h in (omega (arith, p.0, marks), omega (arith, p.1, says));
  gathered = λ g h. omega (arith, u.gathered g h, marks);
}

-- One view changes, and the words rise
module _ (s : State (Unit {0}) BoardView) (r : Kept s) (id : ℕ) (v : BoardView) (at : get_elem? s.views id ≡ some v) where
  changed : (words : List ℕ) (mark said : ℕ) → words ≡ mark ∷ said ∷ [] → r.mark ≤ mark → r.said ≤ said → (w : BoardView) → IsUpTo mark said w → AreMet w.announced w.gathered
      → ((j : ℕ) (u : BoardView) → get_elem? s.views j ≡ some u → AreMet w.announced u.gathered × AreMet u.announced w.gathered)
      → (homes : List (Option (Unit {0}))) → Kept (record { words = words; homes = homes; views = set s.views id w })
  changed words mark said is more_mark more_said w up own others homes = record {
    mark = mark;
    said = said;
    words = is;
    each = λ i u e. ⊎_elim (λ (t : (i ≡ id) × (w ≡ u)). subst (IsUpTo mark said) t.1 up) (λ (t : (i ≢ id) × (get_elem? s.views i ≡ some u)). up_to_more r.mark r.said mark said more_mark more_said u (r.each i u t.1)) (at_set s.views id i w u e);
    met = λ i j u x e f. ⊎_elim
        (λ (t : (i ≡ id) × (w ≡ u)). subst (λ (z : BoardView). AreMet z.announced x.gathered) t.1 (⊎_elim
        (λ (q : (j ≡ id) × (w ≡ x)). subst (λ (z : BoardView). AreMet w.announced z.gathered) q.1 own)
        (λ (q : (j ≢ id) × (get_elem? s.views j ≡ some x)). (others j x q.1).0)
        (at_set s.views id j w x f)))
        (λ (t : (i ≢ id) × (get_elem? s.views i ≡ some u)). ⊎_elim
        (λ (q : (j ≡ id) × (w ≡ x)). subst (λ (z : BoardView). AreMet u.announced z.gathered) q.1 (others i u t.1).1)
        (λ (q : (j ≢ id) × (get_elem? s.views j ≡ some x)). r.met i j u x t.1 q.1)
        (at_set s.views id j w x f))
        (at_set s.views id i w u e);
  }

  -- the words that the steps find
  mark_is : slice_index s.words 0 ≡ r.mark
  mark_is = ap (λ l. slice_index l 0) r.words

  said_is : slice_index s.words 1 ≡ r.said
  said_is = ap (λ l. slice_index l 1) r.words

  -- the words after a step that puts n into one of them
  marked_as : (n : ℕ) → set s.words 0 n ≡ n ∷ r.said ∷ []
  marked_as n = ap (λ l. set l 0 n) r.words

  said_as : (n : ℕ) → set s.words 1 n ≡ r.mark ∷ n ∷ []
  said_as n = ap (λ l. set l 1 n) r.words

  -- `said` is raised
  raised : (k : ℕ) (homes : List (Option (Unit {0}))) → Kept (record { words = set s.words 1 (max (slice_index s.words 1) k); homes = homes; views = set s.views id (record v { raised = max v.raised k }) })
  raised k homes =
      let n : ℕ = max (slice_index s.words 1) k in
      let more : r.said ≤ n = omega (arith, said_is) in
      let was = r.each id v at in
      let u = up_to_more r.mark r.said r.mark n (omega arith) more v was in
      changed (set s.words 1 n) r.mark n (said_as n) (omega arith) more (record v { raised = max v.raised k })
      (record { raised = omega (arith, was.raised, said_is); marked = u.marked; announced = u.announced; gathered = u.gathered })
      (r.met id id v v at at) (λ j x e. (r.met id j v x at e, r.met j id x v e at)) homes

  -- a look at `mark`
  announced : (homes : List (Option (Unit {0})))
      → Kept (record { words = set s.words 0 (slice_index s.words 0); homes = homes; views = set s.views id (record v { announced = v.announced ++ record { mark = slice_index s.words 0; said = v.raised } ∷ [] }) })
  announced homes =
      let n : ℕ = slice_index s.words 0 in
      let a : Announced = record { mark = n; said = v.raised } in
      let u = r.each id v at in
      let u' = up_to_more r.mark r.said n r.said (omega (arith, mark_is)) (omega arith) v u in
      let all : (j : ℕ) (x : BoardView) → get_elem? s.views j ≡ some x → AreMet (v.announced ++ a ∷ []) x.gathered = λ j x e b g h k.
      let low = (r.each j x e).gathered g k in
      in_snoc (λ (b : Announced). b.mark < g.mark → b.said ≤ g.found) b a v.announced h (λ i. r.met id j v x at e b g i k) (λ less. absurd (omega (arith, less, low, mark_is))) in
      changed (set s.words 0 n) n r.said (marked_as n) (omega (arith, mark_is)) (omega arith) (record v { announced = v.announced ++ a ∷ [] })
      (record {
        raised = u'.raised;
        marked = u'.marked;
        announced = λ b h. in_snoc (λ (b : Announced). (b.mark ≤ n) × (b.said ≤ r.said)) b a v.announced h (u'.announced b) (omega arith, u.raised);
        gathered = u'.gathered;
      })
      (all id v at) (λ j x e. (all j x e, r.met j id x v e at)) homes

  -- `mark` is raised
  marked : (k : ℕ) (homes : List (Option (Unit {0}))) → Kept (record { words = set s.words 0 (max (slice_index s.words 0) k); homes = homes; views = set s.views id (record v { marked = max v.marked k }) })
  marked k homes =
      let n : ℕ = max (slice_index s.words 0) k in
      let more : r.mark ≤ n = omega (arith, mark_is) in
      let was = r.each id v at in
      let u = up_to_more r.mark r.said n r.said more (omega arith) v was in
      changed (set s.words 0 n) n r.said (marked_as n) more (omega arith) (record v { marked = max v.marked k })
      (record { raised = u.raised; marked = omega (arith, was.marked, mark_is); announced = u.announced; gathered = u.gathered })
      (r.met id id v v at at) (λ j x e. (r.met id j v x at e, r.met j id x v e at)) homes

  -- a look at `said`
  gathered : (homes : List (Option (Unit {0})))
      → Kept (record { words = set s.words 1 (slice_index s.words 1); homes = homes; views = set s.views id (record v { gathered = v.gathered ++ record { mark = v.marked; found = slice_index s.words 1 } ∷ [] }) })
  gathered homes =
      let n : ℕ = slice_index s.words 1 in
      let g : Gathered = record { mark = v.marked; found = n } in
      let u = r.each id v at in
      let u' = up_to_more r.mark r.said r.mark n (omega arith) (omega (arith, said_is)) v u in
      let all : (j : ℕ) (x : BoardView) → get_elem? s.views j ≡ some x → AreMet x.announced (v.gathered ++ g ∷ []) = λ j x e a b h k.
      let low = ((r.each j x e).announced a h).1 in
      in_snoc (λ (b : Gathered). a.mark < b.mark → a.said ≤ b.found) b g v.gathered k (r.met j id x v e at a b h) (λ less. omega (arith, low, said_is)) in
      changed (set s.words 1 n) r.mark n (said_as n) (omega arith) (omega (arith, said_is)) (record v { gathered = v.gathered ++ g ∷ [] })
      (record {
        raised = u'.raised;
        marked = u'.marked;
        announced = u'.announced;
        gathered = λ b h. in_snoc (λ (b : Gathered). b.mark ≤ r.mark) b g v.gathered h (u'.gathered b) u.marked;
      })
      (all id v at) (λ j x e. (r.met id j v x at e, all j x e)) homes

-- What the table's methods require

module _ (slots id : ℕ) (me : Seated) where
  pub raises : (k : ℕ) → Allows Kept slots id me 1 (λ n. max n k) (HasRaised (step slots 1 k 0 none) me)
  raises k s r homes at fits = (record me.0 { raised = max me.0.raised k }, keeps, tt, raised s r id me.0 at k s.homes, refl)

  pub announces : Allows Kept slots id me 0 (λ n. n) (HasAnnounced (step slots 0 0 0 none) me)
  announces s r homes at fits = (
    record me.0 { announced = me.0.announced ++ record { mark = slice_index s.words 0; said = me.0.raised } ∷ [] },
    keeps,
    tt,
    announced s r id me.0 at s.homes,
    refl,
  )

  pub marks : (k : ℕ) → Allows Kept slots id me 0 (λ n. max n k) (HasMarked (step slots 0 k 0 none) me)
  marks k s r homes at fits = (record me.0 { marked = max me.0.marked k }, keeps, tt, marked s r id me.0 at k s.homes, refl)

  pub gathers : Allows Kept slots id me 1 (λ n. n) (HasGathered (step slots 1 0 0 none) me)
  gathers s r homes at fits = (
    record me.0 { gathered = me.0.gathered ++ record { mark = me.0.marked; found = slice_index s.words 1 } ∷ [] },
    keeps,
    tt,
    gathered s r id me.0 at s.homes,
    refl,
  )

-- Clients come and go

-- all that this view knows, views of the list know
record IsFrom (mark said : ℕ) (views : List BoardView) (u : BoardView) : Type 0 where
  up : IsUpTo mark said u
  announced : (a : Announced) → In a u.announced → (i : ℕ) × (v : BoardView) × (get_elem? views i ≡ some v) × In a v.announced
  gathered : (g : Gathered) → In g u.gathered → (i : ℕ) × (v : BoardView) × (get_elem? views i ≡ some v) × In g v.gathered

newcomer_from : (mark said : ℕ) (views : List BoardView) → IsFrom mark said views newcomer
newcomer_from mark said views = record {
  up = record { raised = omega arith; marked = omega arith; announced = λ a h. absurd h; gathered = λ g h. absurd h };
  announced = λ a h. absurd h;
  gathered = λ g h. absurd h;
}

module _ (s : State (Unit {0}) BoardView) (r : Kept s) where
  abbrev From : BoardView → Type 0
  From = IsFrom r.mark r.said s.views

  itself : (i : ℕ) (v : BoardView) → get_elem? s.views i ≡ some v → From v
  itself i v at = record { up = r.each i v at; announced = λ a h. (i, v, at, h); gathered = λ g h. (i, v, at, h) }

  regrouped : (homes : List (Option (Unit {0}))) (views : List BoardView) → ((j : ℕ) (u : BoardView) → get_elem? views j ≡ some u → From u) → Kept (record { words = s.words; homes = homes; views = views })
  regrouped homes views from = record {
    mark = r.mark;
    said = r.said;
    words = r.words;
    each = λ j u e. (from j u e).up;
    met = λ i j u x e f a g h k less.
        let p = (from i u e).announced a h in
        let q = (from j x f).gathered g k in
        r.met p.0 q.0 p.1 q.1 p.2 q.2 a g p.3 q.3 less;
  }

  both_from : (i j : ℕ) (v w : BoardView) → get_elem? s.views i ≡ some v → get_elem? s.views j ≡ some w → From (both v w)
  both_from i j v w at there =
      let mine = r.each i v at in
      let other = r.each j w there in record {
        up = record {
          raised = omega (arith, mine.raised, other.raised);
          marked = omega (arith, mine.marked, other.marked);
          announced = λ a h. ⊎_elim (mine.announced a) (other.announced a) (in_split a v.announced w.announced h);
          gathered = λ g h. ⊎_elim (mine.gathered g) (other.gathered g) (in_split g v.gathered w.gathered h);
        };
        announced = λ a h. ⊎_elim (λ (t : In a v.announced). (i, v, at, t)) (λ (t : In a w.announced). (j, w, there, t)) (in_split a v.announced w.announced h);
        gathered = λ g h. ⊎_elim (λ (t : In g v.gathered). (i, v, at, t)) (λ (t : In g w.gathered). (j, w, there, t)) (in_split g v.gathered w.gathered h);
      }

pub splits : (id : ℕ) (v : BoardView) → Splits Kept id v v newcomer
splits id v s r at = regrouped s r s.homes (set s.views id v ++ newcomer ∷ []) (λ j u e. ⊎_elim
    (λ (was : get_elem? (set s.views id v) j ≡ some u).
    ⊎_elim (λ (t : (j ≡ id) × (v ≡ u)). subst (From s r) t.1 (itself s r id v at)) (λ (t : (j ≢ id) × (get_elem? s.views j ≡ some u)). itself s r j u t.1) (at_set s.views id j v u was))
    (λ (is : newcomer ≡ u). subst (From s r) is (newcomer_from r.mark r.said s.views))
    (at_snoc (set s.views id v) newcomer u j e))

pub joins : (id other : ℕ) (v w : BoardView) → Joins Kept id v other w (both v w) newcomer
joins id other v w s r at apart there =
    let was : get_elem? s.views other ≡ some w = ⊎_elim (λ (t : (other ≡ id) × (both v w ≡ w)). absurd (apart t.0)) (λ (t : (other ≢ id) × (get_elem? s.views other ≡ some w)). t.1) (at_set s.views id other (both v w) w there) in
    regrouped s r s.homes (set (set s.views id (both v w)) other newcomer) (λ j u e. ⊎_elim
    (λ (t : (j ≡ other) × (newcomer ≡ u)). subst (From s r) t.1 (newcomer_from r.mark r.said s.views))
    (λ (t : (j ≢ other) × (get_elem? (set s.views id (both v w)) j ≡ some u)).
    ⊎_elim (λ (q : (j ≡ id) × (both v w ≡ u)). subst (From s r) q.1 (both_from s r id other v w at was)) (λ (q : (j ≢ id) × (get_elem? s.views j ≡ some u)). itself s r j u q.1) (at_set s.views id j (both v w) u t.1))
    (at_set (set s.views id (both v w)) other j newcomer u e))

pub opens : (words : List ℕ) (mark said : ℕ) → words ≡ mark ∷ said ∷ [] → Kept (opening words [] newcomer)
opens words mark said is = record {
  mark = mark;
  said = said;
  words = is;
  each = each;
  met = λ i j v w e f a g h k less. absurd (nothing i v e a h);
}
  where
    each : (i : ℕ) (v : BoardView) → get_elem? (newcomer ∷ []) i ≡ some v → IsUpTo mark said v
    each zero v e = subst (IsUpTo mark said) (some-injective newcomer v e) (newcomer_from mark said []).up
    each (suc i) v e = absurd (some-ne-none v (sym e))

    nothing : (i : ℕ) (v : BoardView) → get_elem? (newcomer ∷ []) i ≡ some v → (a : Announced) → In a v.announced → ⊥
    nothing zero v e a h = subst (λ (u : BoardView). In a u.announced) (sym (some-injective newcomer v e)) h
    nothing (suc i) v e a h = absurd (some-ne-none v (sym e))
