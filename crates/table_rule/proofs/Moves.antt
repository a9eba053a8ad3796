-- What of the rule stays true when one seat moves.
use Rattle.std.proofs.Common.{◌≡◌, ◌≢◌, ℕ, ◌+◌, ◌<◌, ◌≤◌, ◌⊎◌, List, [], ◌∷◌, length, get_or, set, refl, sym, ap, ◌∙◌, subst, ⊎_elim}
use mathlib.Core.Option.{Option, some}
use lib.ListN.{get_elem?}
use lib.Seq.{set-get_or}
use Rattle.atomic_table.specs.Table.{State, Act, Valid, Allows, carried_after, stepped}
use Rattle.atomic_table.proofs.Lists.{at_set, set_again}
use Rattle.table_rule.specs.declared.content.Version.{Version}
use Rattle.table_rule.specs.declared.content.MemberVersions.{MemberVersions}
use Rattle.table_rule.specs.declared.view.Opening.{Opening}
use Rattle.table_rule.specs.declared.view.SeatState.{SeatState}
use Rattle.table_rule.specs.declared.content.Content.{Content}
use Rattle.table_rule.specs.declared.view.Lock.{Lock}
use Rattle.table_rule.specs.declared.view.Stage.{Stage}
use Rattle.table_rule.specs.Histories.{In, versions_of, standing, Runs, last_of, shard_of, Begins, AreSome}
use Rattle.table_rule.specs.Rule.{Place, out, coming, filling, handed, busy, inserted, finished, ShardState, opened, held, Mode, contents, stored_in, InMode, KnowsLock, Knows, AllFit, InShard, InPlace, IsConsistent}
use Rattle.table_rule.specs.Steps.{SeatNow}
use Rattle.table_rule.specs.Events.{TableNow, table_now, progress_of, Stays, OnlyMember, now_of, IsNow, Comes, StepIs}
use Rattle.table_rule.proofs.Puts.{put, put_at, put_here, put_else}
use Rattle.table_rule.proofs.Histories.{begins_trans}

module _ {ShardTree NodeList : Type 0} (held_by : ShardTree → List Version) (nodes_of : NodeList → List Version) where
  abbrev pub TableState : Type 0
  TableState = State (Content ShardTree NodeList) (List SeatState)

  abbrev pub Homes : Type 0
  Homes = List (Option (Content ShardTree NodeList))

  pub shard_stays : (words ws : List ℕ) (homes hs : Homes) (k j : ℕ) → get_or ws j 0 ≡ get_or words j 0 → get_elem? hs j ≡ get_elem? homes j → (d : ShardState) → InShard held_by nodes_of k words homes j d → InShard held_by nodes_of k ws hs j d
  shard_stays words ws homes hs k j a b (opened vs) ok = (a ∙ ok.0, (ok.1.0, b ∙ ok.1.1, ok.1.2))
  shard_stays words ws homes hs k j a b (held c vs) ok = (a ∙ ok.0, b ∙ ok.1)

  pub place_stays : (words ws : List ℕ) (homes hs : Homes) (k i : ℕ) → get_or ws (k + 1 + i) 0 ≡ get_or words (k + 1 + i) 0 → get_elem? hs (k + i) ≡ get_elem? homes (k + i) → (p : Place) → InPlace held_by nodes_of k words homes i p → InPlace held_by nodes_of k ws hs i p
  place_stays words ws homes hs k i a b out ok = (a ∙ ok.0, b ∙ ok.1)
  place_stays words ws homes hs k i a b (coming l vs) ok = (a ∙ ok.0, b ∙ ok.1)
  place_stays words ws homes hs k i a b (filling l vs) ok = a ∙ ok
  place_stays words ws homes hs k i a b (handed l vs) ok = (a ∙ ok.0, (ok.1.0, b ∙ ok.1.1, ok.1.2))
  place_stays words ws homes hs k i a b (busy l d m) ok = a ∙ ok
  place_stays words ws homes hs k i a b (inserted l vs) ok = (a ∙ ok.0, b ∙ ok.1)
  place_stays words ws homes hs k i a b (finished l vs) ok = (a ∙ ok.0, b ∙ ok.1)

  -- the seat id goes from the view v to the view v'
  pub record MoveAll (z : Opening) (s : TableState) (r : IsConsistent held_by nodes_of z s) (id : ℕ) (ws : List ℕ) (hs : Homes) (v v' : List SeatState) (published : List (List MemberVersions)) (mode : Mode) (place : ℕ → Place) (lock : ℕ → ShardState) : Type 0 where
    pub sits : get_elem? s.views id ≡ some v
    pub wide : length ws ≡ length s.words
    pub many : length hs ≡ length s.homes
    pub last_is : get_or ws z.shards 0 ≡ last_of z.start published
    pub runs : Runs z.start (versions_of published)
    pub some_each : AreSome published
    pub shards_are : (j : ℕ) → j < z.shards → InShard held_by nodes_of z.shards s.words s.homes j (r.lock j) → InShard held_by nodes_of z.shards ws hs j (lock j)
    pub rows : (i : ℕ) → 0 < i → i ≤ z.clients → InPlace held_by nodes_of z.shards s.words s.homes i (r.place i) → InPlace held_by nodes_of z.shards ws hs i (place i)
    pub mode_is : InMode z.clients (get_or ws (z.shards + 1) 0) place (last_of z.start published) mode
    pub sound : (j : ℕ) (v : Version) → j < z.shards → In v (contents (lock j)) → (shard_of z.shards v ≡ j) × (In v (standing z.base published) ⊎ ((i : ℕ) × In v (stored_in (place i))))
    pub complete : (v : Version) → In v (standing z.base published) → In v (contents (lock (shard_of z.shards v)))
    pub stored : (i : ℕ) (v : Version) → In v (stored_in (place i)) → In v (contents (lock (shard_of z.shards v)))
    pub grows : Begins r.published published
    pub fit : AllFit z published mode place lock r.seat id v'
    pub others_lock : (k : ℕ) → r.seat k ≢ id → (x : Lock) → KnowsLock z.shards z.start r.published r.mode r.place r.lock k x → KnowsLock z.shards z.start published mode place lock k x
    pub others : (k : ℕ) → r.seat k ≢ id → (seen : List (List MemberVersions)) (st : Stage) → Knows z.shards z.start r.published r.mode r.place r.lock k seen st → Knows z.shards z.start published mode place lock k seen st

  module _ (z : Opening) (s : TableState) (r : IsConsistent held_by nodes_of z s) (id : ℕ) (ws : List ℕ) (hs : Homes) (v v' : List SeatState) (published : List (List MemberVersions)) (mode : Mode) (place : ℕ → Place) (lock : ℕ → ShardState) where
    fit_stays : (m : MoveAll z s r id ws hs v v' published mode place lock) (j : ℕ) → j ≢ id → (xs : List SeatState) → AllFit z r.published r.mode r.place r.lock r.seat j xs → AllFit z published mode place lock r.seat j xs
    fit_stays m j other [] ok = tt
    fit_stays m j other (x ∷ xs) ok =
        let ne : r.seat x.client ≢ id = λ e. other (sym ok.0.0 ∙ e) in (
          (ok.0.0, ok.0.1, ok.0.2, begins_trans x.seen r.published published ok.0.3 m.grows, m.others_lock x.client ne x.lock ok.0.4, m.others x.client ne x.seen x.stage ok.0.5),
          fit_stays m j other xs ok.1,
        )

    pub all_moved : MoveAll z s r id ws hs v v' published mode place lock → IsNow held_by nodes_of z (table_now published mode place) (record { words = ws; homes = hs; views = set s.views id v' })
    all_moved m = (
      record {
        published = published;
        mode = mode;
        place = place;
        lock = lock;
        seat = r.seat;
        wide = m.wide ∙ r.wide;
        many = m.many ∙ r.many;
        some_shard = r.some_shard;
        last_is = m.last_is;
        runs = m.runs;
        some_each = m.some_each;
        base_is = r.base_is;
        shards_are = λ j lt. m.shards_are j lt (r.shards_are j lt);
        rows = λ i lo hi. m.rows i lo hi (r.rows i lo hi);
        mode_is = m.mode_is;
        sound = m.sound;
        complete = m.complete;
        stored = m.stored;
        seats = λ j x e. ⊎_elim
            (λ (t : (j ≡ id) × (v' ≡ x)). subst (λ (y : ℕ × List SeatState). AllFit z published mode place lock r.seat y.0 y.1) (λ i. (sym t.0 i, t.1 i)) m.fit)
            (λ (t : (j ≢ id) × (get_elem? s.views j ≡ some x)). fit_stays m j t.0 x (r.seats j x t.1))
            (at_set s.views id j v' x e);
      },
      refl,
    )

  -- the seat id goes from h to h'
  pub record Move (z : Opening) (s : TableState) (r : IsConsistent held_by nodes_of z s) (id : ℕ) (ws : List ℕ) (hs : Homes) (h h' : SeatState) (published : List (List MemberVersions)) (mode : Mode) (place : ℕ → Place) (lock : ℕ → ShardState) : Type 0 where
    pub sits : get_elem? s.views id ≡ some (h ∷ [])
    pub same_client : h'.client ≡ h.client
    pub same_opening : h'.opening ≡ h.opening
    pub wide : length ws ≡ length s.words
    pub many : length hs ≡ length s.homes
    pub last_is : get_or ws z.shards 0 ≡ last_of z.start published
    pub runs : Runs z.start (versions_of published)
    pub some_each : AreSome published
    pub shards_are : (j : ℕ) → j < z.shards → InShard held_by nodes_of z.shards s.words s.homes j (r.lock j) → InShard held_by nodes_of z.shards ws hs j (lock j)
    pub rows : (i : ℕ) → 0 < i → i ≤ z.clients → InPlace held_by nodes_of z.shards s.words s.homes i (r.place i) → InPlace held_by nodes_of z.shards ws hs i (place i)
    pub mode_is : InMode z.clients (get_or ws (z.shards + 1) 0) place (last_of z.start published) mode
    pub sound : (j : ℕ) (v : Version) → j < z.shards → In v (contents (lock j)) → (shard_of z.shards v ≡ j) × (In v (standing z.base published) ⊎ ((i : ℕ) × In v (stored_in (place i))))
    pub complete : (v : Version) → In v (standing z.base published) → In v (contents (lock (shard_of z.shards v)))
    pub stored : (i : ℕ) (v : Version) → In v (stored_in (place i)) → In v (contents (lock (shard_of z.shards v)))
    pub seen : Begins h'.seen published
    pub grows : Begins r.published published
    pub knows_lock : KnowsLock z.shards z.start published mode place lock h.client h'.lock
    pub knows : Knows z.shards z.start published mode place lock h.client h'.seen h'.stage
    pub others_lock : (k : ℕ) → k ≢ h.client → (x : Lock) → KnowsLock z.shards z.start r.published r.mode r.place r.lock k x → KnowsLock z.shards z.start published mode place lock k x
    pub others : (k : ℕ) → k ≢ h.client → (seen : List (List MemberVersions)) (st : Stage) → Knows z.shards z.start r.published r.mode r.place r.lock k seen st → Knows z.shards z.start published mode place lock k seen st

  module _ (z : Opening) (s : TableState) (r : IsConsistent held_by nodes_of z s) (id : ℕ) (ws : List ℕ) (hs : Homes) (h h' : SeatState) (published : List (List MemberVersions)) (mode : Mode) (place : ℕ → Place) (lock : ℕ → ShardState) where
    pub moved : Move z s r id ws hs h h' published mode place lock → IsNow held_by nodes_of z (table_now published mode place) (record { words = ws; homes = hs; views = set s.views id (h' ∷ []) })
    moved v =
        let mine = (r.seats id (h ∷ []) v.sits).0 in
        let c = sym v.same_client in
        all_moved z s r id ws hs (h ∷ []) (h' ∷ []) published mode place lock record {
          sits = v.sits;
          wide = v.wide;
          many = v.many;
          last_is = v.last_is;
          runs = v.runs;
          some_each = v.some_each;
          shards_are = v.shards_are;
          rows = v.rows;
          mode_is = v.mode_is;
          sound = v.sound;
          complete = v.complete;
          stored = v.stored;
          grows = v.grows;
          fit = (
            (
              ap r.seat v.same_client ∙ mine.0,
              subst (λ (k : ℕ). k ≤ z.clients) c mine.1,
              v.same_opening ∙ mine.2,
              v.seen,
              subst (λ (k : ℕ). KnowsLock z.shards z.start published mode place lock k h'.lock) c v.knows_lock,
              subst (λ (k : ℕ). Knows z.shards z.start published mode place lock k h'.seen h'.stage) c v.knows,
            ),
            tt,
          );
          others_lock = λ k ne. v.others_lock k (λ e. ne (ap r.seat e ∙ mine.0));
          others = λ k ne. v.others k (λ e. ne (ap r.seat e ∙ mine.0));
        }

  abbrev pub Goes : (ℕ → TableNow → TableNow → Type 0) → Opening → (s : TableState) → TableNow → ℕ → ℕ → SeatNow ShardTree NodeList → (ℕ → SeatNow ShardTree NodeList → Type 0) → ℕ → Type 0
  Goes event z s before k id me then x = (w : List SeatState) × (a : Act (Content ShardTree NodeList)) × Valid s.homes me.1 a × Comes held_by nodes_of (event (get_or s.words k 0)) z before (stepped s k x id me.1 w a) × then (get_or s.words k 0) (w, carried_after me.1 a)

  pub same_now : (before : TableNow) → Stays before before
  same_now before = (refl, refl, λ _. refl)

  -- nothing changes
  pub unmoved : (z : Opening) (s : TableState) (k id : ℕ) (w : List SeatState) → get_elem? s.views id ≡ some w → (r : IsConsistent held_by nodes_of z s) → Comes held_by nodes_of Stays z (now_of held_by nodes_of z s r) (record { words = set s.words k (get_or s.words k 0); homes = s.homes; views = set s.views id w })
  unmoved z s k id w at r = (
    now_of held_by nodes_of z s r,
    same_now (now_of held_by nodes_of z s r),
    subst (λ (t : List ℕ × List (List SeatState)). IsNow held_by nodes_of z (now_of held_by nodes_of z s r) (record { words = t.0; homes = s.homes; views = t.1 })) (λ i. (sym (set-get_or s.words k 0) i, sym (set_again s.views id w at) i)) (r, refl),
  )

  -- what a step allows, whatever event it is
  pub allows : (event : ℕ → TableNow → TableNow → Type 0) (z : Opening) (slots id : ℕ) (me : SeatNow ShardTree NodeList) (k : ℕ) (f : ℕ → ℕ) (then : ℕ → SeatNow ShardTree NodeList → Type 0) → StepIs held_by nodes_of event z slots id me k f then → Allows (IsConsistent held_by nodes_of z) slots id me k f then
  allows event z slots id me k f then all s r long at fits = let t = all s r long at fits in (t.0, t.1, t.2, t.3.2.0, t.4)

-- the progress of all stays, where one place changes to another of the same progress
pub progress_stays : (place : ℕ → Place) (m : ℕ) (new : Place) → progress_of new ≡ progress_of (place m) → (i : ℕ) → progress_of (put place m new i) ≡ progress_of (place i)
progress_stays place m new e i = put_at place m new (λ i p. progress_of p ≡ progress_of (place i)) i (λ is. e ∙ ap (λ j. progress_of (place j)) (sym is)) (λ _. refl)

pub progress_moves : (published : List (List MemberVersions)) (mode mode' : Mode) (place : ℕ → Place) (m : ℕ) (old new : Place) → place m ≡ old → OnlyMember m (progress_of old) (progress_of new) (table_now published mode place) (table_now published mode' (put place m new))
progress_moves published mode mode' place m old new now = (refl, ap progress_of now, ap progress_of (put_here place m new), λ i ne. ap progress_of (put_else place m new i ne))
