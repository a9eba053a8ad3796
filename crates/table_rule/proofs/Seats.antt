-- The table at the start, the seats that are made of the first one, and what is known at the end.
use Rattle.std.proofs.Common.{◌≡◌, ◌≢◌, ℕ, zero, suc, ◌+◌, ◌<◌, ◌≤◌, ◌⊎◌, List, [], ◌∷◌, ◌++◌, length, get_or, set, refl, sym, ap, ◌∙◌, subst, inl, inr, ⊎_elim, arith, map, append-nil}
use mathlib.Core.Option.{none, some, some-injective, some-ne-none}
use native.Mathlib.Decide.{ℕ_discrete}
use lib.ListN.{get_elem?}
use Rattle.atomic_table.specs.Table.{step, keeps, Allows, opening, Splits, Joins}
use Rattle.atomic_table.proofs.Lists.{at_set, set_else}
use Rattle.table_rule.specs.declared.content.Version.{Version}
use Rattle.table_rule.specs.declared.content.MemberVersions.{MemberVersions}
use Rattle.table_rule.specs.declared.view.Opening.{Opening}
use Rattle.table_rule.specs.declared.view.SeatState.{SeatState}
use Rattle.table_rule.specs.declared.content.Content.{Content}
use Rattle.table_rule.specs.declared.content.Content.TheVariants.{Blank, Tree}
use Rattle.table_rule.specs.declared.view.Lock.TheVariants.{Free}
use Rattle.table_rule.specs.declared.view.Stage.{Stage}
use Rattle.table_rule.specs.declared.view.Stage.TheVariants.{Idle, Resting}
use Rattle.table_rule.specs.Histories.{In, last_of, shard_of, Begins, IsBase}
use Rattle.table_rule.specs.Rule.{out, ShardState, opened, still, Fits, AllFit, seat_state}
use Rattle.table_rule.specs.Steps.{SeatNow}
use Rattle.table_rule.proofs.Puts.{put, put_here, put_else}
use Rattle.table_rule.proofs.Histories.{in_left}
use Rattle.table_rule.proofs.Moves.{TableState, unmoved, allows}
use Rattle.table_rule.specs.Events.{Stays, StepIs}
use Rattle.table_rule.proofs.Locks.{Rule}
use Rattle.table_rule.specs.Rule.{newcomers}
use Rattle.table_rule.specs.Histories.{IsHistory}
use Rattle.model_base.specs.Halves.{all_but_first, first_only}
use Rattle.table_rule.specs.Seats.{Closes, after_close}

module _ {A : Type 0} where
  pub at_end : (l : List A) (a b : A) (j : ℕ) → get_elem? (l ++ a ∷ []) j ≡ some b → (get_elem? l j ≡ some b) ⊎ ((j ≡ length l) × (a ≡ b))
  at_end [] a b zero e = inr (refl, some-injective a b e)
  at_end [] a b (suc j) e = absurd (some-ne-none b (sym e))
  at_end (x ∷ xs) a b zero e = inl e
  at_end (x ∷ xs) a b (suc j) e = ⊎_elim (λ t. inl t) (λ t. inr (ap suc t.0, t.1)) (at_end xs a b j e)

abbrev pick_seat : {A D : Type 0} → Dec D → A → A → A
pick_seat (yes _) a b = a
pick_seat (no _) a b = b

-- a client that sat at a sits at b from now on
reseat : (ℕ → ℕ) → ℕ → ℕ → ℕ → ℕ
reseat f a b c = pick_seat (ℕ_discrete (f c) a) b (f c)

reseat_at : (f : ℕ → ℕ) (a b c : ℕ) (F : ℕ → Type 0) → (f c ≡ a → F b) → (f c ≢ a → F (f c)) → F (reseat f a b c)
unfolding reseat
reseat_at f a b c F here other = go (ℕ_discrete (f c) a)
  where
    go : (d : Dec (f c ≡ a)) → F (pick_seat d b (f c))
    go (yes e) = here e
    go (no ne) = other ne

module _ {ShardTree NodeList : Type 0} (held_by : ShardTree → List Version) (nodes_of : NodeList → List Version) (z : Opening) where
  module _ (s : TableState held_by nodes_of) (r : Rule held_by nodes_of z s) (f : ℕ → ℕ) where
    abbrev AllSit : ℕ → List SeatState → Type 0
    AllSit = AllFit z r.published r.mode r.place r.lock f

    fit_at : (j j' : ℕ) (v : List SeatState) → ((c : ℕ) → r.seat c ≡ j → f c ≡ j') → AllFit z r.published r.mode r.place r.lock r.seat j v → AllSit j' v
    fit_at j j' [] to ok = tt
    fit_at j j' (h ∷ hs) to ok = ((to h.client ok.0.0, ok.0.1, ok.0.2, ok.0.3, ok.0.4, ok.0.5), fit_at j j' hs to ok.1)

    fit_both : (j : ℕ) (v w : List SeatState) → AllSit j v → AllSit j w → AllSit j (v ++ w)
    fit_both j [] w a b = b
    fit_both j (h ∷ hs) w a b = (a.0, fit_both j hs w a.1 b)

    -- only the seats change
    reseated : (vs : List (List SeatState)) → ((j : ℕ) (v : List SeatState) → get_elem? vs j ≡ some v → AllSit j v) → Rule held_by nodes_of z (record { words = s.words; homes = s.homes; views = vs })
    reseated vs all = record {
      published = r.published;
      mode = r.mode;
      place = r.place;
      lock = r.lock;
      seat = f;
      wide = r.wide;
      many = r.many;
      some_shard = r.some_shard;
      last_is = r.last_is;
      runs = r.runs;
      some_each = r.some_each;
      base_is = r.base_is;
      shards_are = r.shards_are;
      rows = r.rows;
      mode_is = r.mode_is;
      sound = r.sound;
      complete = r.complete;
      stored = r.stored;
      seats = all;
    }

  pub joins : (id other : ℕ) (v w : List SeatState) → Joins (Rule held_by nodes_of z) id v other w (v ++ w) []
  joins id other v w s r at apart at_other =
      let f : ℕ → ℕ = reseat r.seat other id in
      let was_other : get_elem? s.views other ≡ some w = sym (set_else s.views id other (v ++ w) apart) ∙ at_other in
      reseated s r f (set (set s.views id (v ++ w)) other []) (λ j x e. ⊎_elim
      (λ (t : (j ≡ other) × ([] ≡ x)). subst (AllSit s r f j) t.1 tt)
      (λ (t : (j ≢ other) × (get_elem? (set s.views id (v ++ w)) j ≡ some x)). ⊎_elim
      (λ (u : (j ≡ id) × (v ++ w ≡ x)). subst (λ (z : ℕ × List SeatState). AllSit s r f z.0 z.1) (λ i. (sym u.0 i, u.1 i))
      (fit_both s r f id v w (fit_at s r f id id v (λ c e. reseat_at r.seat other id c (λ z. z ≡ id) (λ _. refl) (λ _. e)) (r.seats id v at))
      (fit_at s r f other id w (λ c e. reseat_at r.seat other id c (λ z. z ≡ id) (λ _. refl) (λ ne. absurd (ne e))) (r.seats other w was_other))))
      (λ (u : (j ≢ id) × (get_elem? s.views j ≡ some x)). fit_at s r f j j x (λ c e. reseat_at r.seat other id c (λ z. z ≡ j) (λ here. absurd (t.0 (sym e ∙ here))) (λ _. e)) (r.seats j x u.1))
      (at_set s.views id j (v ++ w) x t.1))
      (at_set (set s.views id (v ++ w)) other j [] x e))

  module _ (s : TableState held_by nodes_of) (r : Rule held_by nodes_of z s) (c k : ℕ) where
    seats_stay : (j : ℕ) (v : List SeatState) → ((h : SeatState) → r.seat h.client ≡ j → h.client ≢ c) → AllFit z r.published r.mode r.place r.lock r.seat j v → AllSit s r (put r.seat c k) j v
    seats_stay j [] away ok = tt
    seats_stay j (h ∷ hs) away ok = ((put_else r.seat c k h.client (away h ok.0.0) ∙ ok.0.0, ok.0.1, ok.0.2, ok.0.3, ok.0.4, ok.0.5), seats_stay j hs away ok.1)

    later_stay : (j d m : ℕ) → 0 < c → c < d → AllFit z r.published r.mode r.place r.lock r.seat j (newcomers z d m) → AllSit s r (put r.seat c k) j (newcomers z d m)
    later_stay j d zero lo h ok = ((put_else r.seat c k 0 (λ e. omega arith) ∙ ok.0.0, ok.0.1, ok.0.2, ok.0.3, ok.0.4, ok.0.5), tt)
    later_stay j d (suc m) lo h ok = ((put_else r.seat c k d (λ e. omega arith) ∙ ok.0.0, ok.0.1, ok.0.2, ok.0.3, ok.0.4, ok.0.5), later_stay j (suc d) m lo (omega arith) ok.1)

  pub splits : (id c m : ℕ) → 0 < c → Splits (Rule held_by nodes_of z) id (newcomers z c (suc m)) (newcomers z (suc c) m) (seat_state c z [] Free Idle ∷ [])
  splits id c m lo s r at =
      let k : ℕ = length (set s.views id (newcomers z (suc c) m)) in
      let ok = r.seats id (newcomers z c (suc m)) at in
      let f : ℕ → ℕ = put r.seat c k in
      reseated s r f (set s.views id (newcomers z (suc c) m) ++ (seat_state c z [] Free Idle ∷ []) ∷ []) (λ j v e. ⊎_elim
      (λ (t : get_elem? (set s.views id (newcomers z (suc c) m)) j ≡ some v). ⊎_elim
      (λ (u : (j ≡ id) × (newcomers z (suc c) m ≡ v)). subst (λ (x : ℕ × List SeatState). AllSit s r f x.0 x.1) (λ i. (sym u.0 i, u.1 i)) (later_stay s r c k id (suc c) m lo (omega arith) ok.1))
      (λ (u : (j ≢ id) × (get_elem? s.views j ≡ some v)). seats_stay s r c k j v (λ h there e. u.0 (sym there ∙ (ap r.seat e ∙ ok.0.0))) (r.seats j v u.1))
      (at_set s.views id j (newcomers z (suc c) m) v t))
      (λ (t : (j ≡ k) × (seat_state c z [] Free Idle ∷ [] ≡ v)). subst (λ (x : ℕ × List SeatState). AllSit s r f x.0 x.1) (λ i. (sym t.0 i, t.1 i)) ((put_here r.seat c k, ok.0.1, ok.0.2, ok.0.3, ok.0.4, ok.0.5), tt))
      (at_end (set s.views id (newcomers z (suc c) m)) (seat_state c z [] Free Idle ∷ []) v j e))

  -- the second of two states gets a seat of its own
  pub splits_second : (id : ℕ) (h t : SeatState) → h.client ≢ t.client → Splits (Rule held_by nodes_of z) id (h ∷ t ∷ []) (h ∷ []) (t ∷ [])
  splits_second id h t apart s r at =
      let k : ℕ = length (set s.views id (h ∷ [])) in
      let ok = r.seats id (h ∷ t ∷ []) at in
      let f : ℕ → ℕ = put r.seat t.client k in
      let o = ok.0 in
      let p = ok.1.0 in
      reseated s r f (set s.views id (h ∷ []) ++ (t ∷ []) ∷ []) (λ j v e. ⊎_elim
      (λ (a : get_elem? (set s.views id (h ∷ [])) j ≡ some v). ⊎_elim
      (λ (u : (j ≡ id) × (h ∷ [] ≡ v)). subst (λ (x : ℕ × List SeatState). AllSit s r f x.0 x.1) (λ i. (sym u.0 i, u.1 i)) ((put_else r.seat t.client k h.client apart ∙ o.0, o.1, o.2, o.3, o.4, o.5), tt))
      (λ (u : (j ≢ id) × (get_elem? s.views j ≡ some v)). seats_stay s r t.client k j v (λ x there e. u.0 (sym there ∙ (ap r.seat e ∙ p.0))) (r.seats j v u.1))
      (at_set s.views id j (h ∷ []) v a))
      (λ (a : (j ≡ k) × (t ∷ [] ≡ v)). subst (λ (x : ℕ × List SeatState). AllSit s r f x.0 x.1) (λ i. (sym a.0 i, a.1 i)) ((put_here r.seat t.client k, p.1, p.2, p.3, p.4, p.5), tt))
      (at_end (set s.views id (h ∷ [])) (t ∷ []) v j e))

  -- the turn is split off a client's seat
  pub splits_turn : (id c : ℕ) (own seen : List (List MemberVersions)) (stage turn : Stage) (v : List SeatState) → 0 < c → v ≡ seat_state c z own Free stage ∷ seat_state 0 z seen Free turn ∷ []
      → Splits (Rule held_by nodes_of z) id v (first_only v) (all_but_first v)
  splits_turn id c own seen stage turn v lo e = subst (λ w. Splits (Rule held_by nodes_of z) id w (first_only w) (all_but_first w)) (sym e)
      (splits_second id (seat_state c z own Free stage) (seat_state 0 z seen Free turn) (λ e. omega arith))

  pub left_is : (c m : ℕ) (v : List SeatState) → v ≡ newcomers z c (suc m) → (all_but_first v ≡ newcomers z (suc c) m) × (first_only v ≡ seat_state c z [] Free Idle ∷ [])
  left_is c m v e = (ap all_but_first e, ap first_only e)

  pub splits_first : (id c m : ℕ) (v : List SeatState) → 0 < c → v ≡ newcomers z c (suc m) → Splits (Rule held_by nodes_of z) id v (all_but_first v) (first_only v)
  splits_first id c m v lo e = subst (λ w. Splits (Rule held_by nodes_of z) id w (all_but_first w) (first_only w)) (sym e) (splits id c m lo)

  new_fit : (lock : ℕ → ShardState) (c m : ℕ) → c + m ≤ suc z.clients → AllFit z [] still (λ _. out) lock (λ _. 0) 0 (newcomers z c m)
  new_fit lock c zero h = ((refl, omega arith, refl, ([], refl), tt, (refl, refl, refl)), tt)
  new_fit lock c (suc m) h = ((refl, omega arith, refl, ([], refl), tt, tt), new_fit lock (suc c) m (omega arith))

  -- shard j has the versions `vs j`: those versions of the base that are of shard j
  abbrev pub Bears : (ℕ → List Version) → Type 0
  Bears vs = ((j : ℕ) (v : Version) → j < z.shards → In v (vs j) → (shard_of z.shards v ≡ j) × In v z.base)
      × ((v : Version) → In v z.base → In v (vs (shard_of z.shards v)))

  pub opens : (words : List ℕ) (slots : List (Content ShardTree NodeList)) (vs : ℕ → List Version) → IsBase z.start z.base → Bears vs → 0 < z.shards → length words ≡ z.shards + 2 + z.clients → length slots ≡ z.shards + 1 + z.clients → get_or words z.shards 0 ≡ z.start → ((i : ℕ) → i ≢ z.shards → get_or words i 0 ≡ 0)
      → ((j : ℕ) → j < z.shards → (t : ShardTree) × (get_elem? (map some slots) j ≡ some (some (Tree t))) × (held_by t ≡ vs j)) → ((i : ℕ) → 0 < i → i ≤ z.clients → get_elem? (map some slots) (z.shards + i) ≡ some (some Blank))
      → Rule held_by nodes_of z (opening words slots (newcomers z 1 z.clients))
  opens words slots vs base bears lo wide many at_last zeros trees blanks = record {
    published = [];
    mode = still;
    place = λ _. out;
    lock = λ j. opened (vs j);
    seat = λ _. 0;
    wide = wide;
    many = length_some slots ∙ many;
    some_shard = lo;
    last_is = at_last ∙ (omega arith);
    runs = tt;
    some_each = tt;
    base_is = base;
    shards_are = λ j lt. (zeros j (λ e. omega arith), trees j lt);
    rows = λ i low hi. (zeros (z.shards + 1 + i) (λ e. omega arith), blanks i low hi);
    mode_is = (zeros (z.shards + 1) (λ e. omega arith), λ _. refl);
    sound = λ j v lt h. let o = bears.0 j v lt h in (o.0, inl (in_left v z.base [] o.1));
    complete = λ v h. bears.1 v (subst (In v) (append-nil z.base) h);
    stored = λ i v h. absurd h;
    seats = first;
  }
    where
      length_some : (l : List (Content ShardTree NodeList)) → length (map some l) ≡ length l
      length_some [] = refl
      length_some (x ∷ xs) = ap suc (length_some xs)

      first : (j : ℕ) (v : List SeatState) → get_elem? (newcomers z 1 z.clients ∷ []) j ≡ some v → AllFit z [] still (λ _. out) (λ j. opened (vs j)) (λ _. 0) j v
      first zero v e = subst (AllFit z [] still (λ _. out) (λ j. opened (vs j)) (λ _. 0) 0) (some-injective (newcomers z 1 z.clients) v e) (new_fit (λ j. opened (vs j)) 1 z.clients (omega arith))
      first (suc j) v e = absurd (some-ne-none v (sym e))

  fit_in : (s : TableState held_by nodes_of) (r : Rule held_by nodes_of z s) (id : ℕ) (h : SeatState) (v : List SeatState) → In h v → AllFit z r.published r.mode r.place r.lock r.seat id v → Fits z r.published r.mode r.place r.lock r.seat id h
  fit_in s r id h [] has ok = absurd has
  fit_in s r id h (x ∷ xs) has ok = ⊎_elim (λ (e : x ≡ h). subst (Fits z r.published r.mode r.place r.lock r.seat id) e ok.0) (λ (t : In h xs). fit_in s r id h xs t ok.1) has

  -- with the turn's seat among those joined, its history is the table's, and what each has seen is a beginning of it
  pub closes : (s : TableState held_by nodes_of) (id : ℕ) (v : List SeatState) (seen : List (List MemberVersions)) → Rule held_by nodes_of z s → get_elem? s.views id ≡ some v → In (seat_state 0 z seen Free Resting) v → Closes z v seen × (get_or s.words z.shards 0 ≡ last_of z.start seen)
  closes s id v seen r at has =
      let ok = r.seats id v at in
      let same : r.published ≡ seen = (fit_in s r id (seat_state 0 z seen Free Resting) v has ok).5.2 in (
        ((subst (IsHistory z.start) same (r.runs, r.some_each)), λ h i. subst (Begins h.seen) same (fit_in s r id h v i ok).3),
        r.last_is ∙ ap (last_of z.start) same,
      )

  -- the last load
  pub closes_is : (slots id : ℕ) (me : SeatNow ShardTree NodeList) (k : ℕ) → k ≡ z.shards → StepIs held_by nodes_of (λ _. Stays) z slots id me k (λ y. y) (after_close (step slots k 0 0 none) me)
  closes_is slots id me k is s r long at fits = (
    me.0,
    keeps,
    tt,
    unmoved held_by nodes_of z s k id me.0 at r,
    λ z' history has.
        let same : z' ≡ z = (fit_in s r id (seat_state 0 z' history Free Resting) me.0 has (r.seats id me.0 at)).2 in
        subst (λ (y : Opening). In (seat_state 0 y history Free Resting) me.0 → Closes y me.0 history × (get_or s.words k 0 ≡ last_of y.start history)) (sym same)
        (λ here. let o = closes s id me.0 history r at here in (o.0, ap (λ (i : ℕ). get_or s.words i 0) is ∙ o.1)) has,
  )

  pub closes_load : (slots id : ℕ) (me : SeatNow ShardTree NodeList) (k : ℕ) → k ≡ z.shards → Allows (Rule held_by nodes_of z) slots id me k (λ y. y) (after_close (step slots k 0 0 none) me)
  closes_load slots id me k is = allows held_by nodes_of (λ _. Stays) z slots id me k (λ y. y) (after_close (step slots k 0 0 none) me) (closes_is slots id me k is)
