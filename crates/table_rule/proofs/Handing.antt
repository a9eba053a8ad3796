-- The steps of a launch: RUNNING, the RUN words, and the count of those that are left.
use Rattle.std.proofs.Common.{◌≡◌, ◌≢◌, ℕ, ◌+◌, ◌<◌, ◌≤◌, List, [], ◌∷◌, length, get_or, set, refl, sym, ap, ◌∙◌, subst, inl, inr, ⊎_elim, arith, append-nil, length-set, get_or-set_other, get_or-set_same}
use mathlib.Core.Path.{Path}
use mathlib.Core.Option.{Option, none, some}
use lib.ListN.{get_elem?}
use lib.Seq.{set-get_or}
use Rattle.atomic_table.specs.Table.{step, keeps, takes, gives, stepped, Allows}
use Rattle.atomic_table.proofs.Lists.{set_here, set_else}
use Rattle.table_rule.specs.declared.content.Version.{Version}
use Rattle.table_rule.specs.declared.content.MemberVersions.{MemberVersions}
use Rattle.table_rule.specs.declared.view.Opening.{Opening}
use Rattle.table_rule.specs.declared.view.SeatState.{SeatState}
use Rattle.table_rule.specs.declared.view.Launched.{Launched}
use Rattle.table_rule.specs.declared.content.Content.{Content}
use Rattle.table_rule.specs.declared.content.Content.TheVariants.{Blank, Nodes}
use Rattle.table_rule.specs.declared.view.Lock.{Lock}
use Rattle.table_rule.specs.declared.view.Lock.TheVariants.{Free, Held}
use Rattle.table_rule.specs.declared.view.Stage.{Stage}
use Rattle.table_rule.specs.declared.view.Stage.TheVariants.{Idle, Waiting, Holding, Stored, Publishing, Resting, Handing, Filling}
use Rattle.table_rule.specs.Histories.{In, standing, last_of, Apart, Begins, IsHistory}
use Rattle.table_rule.specs.Rule.{Place, out, coming, filling, handed, busy, inserted, finished, ShardState, Mode, running, stored_in, InPart, NotTaken, IsComing, AllComing, end_of, IsRunning, InMode, KnowsLock, Knows, seat_state, InPlace}
use Rattle.table_rule.specs.Steps.{SeatNow, work, launched_behind, part_of, IsAt, IsNext, IsPartOf, IsAwaited, MayTake}
use Rattle.table_rule.proofs.Puts.{put, put_at, put_here}
use Rattle.table_rule.proofs.Histories.{begins_same, member_or}
use Rattle.table_rule.proofs.Parts.{IsOpen, part_at, open_mode, mode_put, coming_put}
use Rattle.table_rule.proofs.Moves.{TableState, Homes, shard_stays, place_stays, moved, Goes, unmoved, allows, progress_stays, progress_moves}
use Rattle.table_rule.specs.Events.{table_now, progress_of, IsMember, Stays, IsInsert, now_of, IsNow, StepIs}
use Rattle.table_rule.specs.Steps.{after_empty, after_give, after_take, after_settle}
use Rattle.table_rule.proofs.Locks.{one, own, launched_in, IsWithMember, Rule, knows_member}
use Rattle.table_rule.proofs.Parts.{coming_apart}

pub coming_not : (p : Place) → IsComing p → NotTaken p
coming_not out ok = absurd ok
coming_not (coming l vs) ok = tt
coming_not (filling l vs) ok = tt
coming_not (handed l vs) ok = tt
coming_not (busy l d m) ok = absurd ok
coming_not (inserted l vs) ok = absurd ok
coming_not (finished l vs) ok = absurd ok

module _ {ShardTree NodeList : Type 0} (held_by : ShardTree → List Version) (nodes_of : NodeList → List Version) (z : Opening) where
  -- what clients know stays true when the turn moves one part
  pub knows_turn : (published : List (List MemberVersions)) (mode : Mode) (place : ℕ → Place) (lock : ℕ → ShardState) (m : ℕ) (new : Place) (k : ℕ) → k ≢ 0 → IsComing (place m) → IsComing new
      → (seen : List (List MemberVersions)) (st : Stage) → Knows z.shards z.start published mode place lock k seen st → Knows z.shards z.start published mode (put place m new) lock k seen st
  knows_turn published mode place lock m new k ne was is seen Idle ok = put_at place m new (λ i p. NotTaken (place i) → NotTaken p) k (λ _ _. coming_not new is) (λ _ o. o) ok
  knows_turn published mode place lock m new k ne was is seen (Waiting u) ok = (put_at place m new (λ i p. IsComing (place i) → IsComing p) k (λ _ _. is) (λ _ o. o) ok.0, ok.1)
  knows_turn published mode place lock m new k ne was is seen (Holding w) ok = (put_at place m new (λ i p. place i ≡ busy w.launched.last w.done w.rest → p ≡ busy w.launched.last w.done w.rest) k (λ e o. absurd (subst IsComing (ap place (sym e) ∙ o) was)) (λ _ o. o) ok.0, ok.1)
  knows_turn published mode place lock m new k ne was is seen (Stored u) ok = ((ok.0.0, put_at place m new (λ i p. place i ≡ inserted u.last ok.0.0 → p ≡ inserted u.last ok.0.0) k (λ e o. absurd (subst IsComing (ap place (sym e) ∙ o) was)) (λ _ o. o) ok.0.1), ok.1)
  knows_turn published mode place lock m new k ne was is seen (Publishing u) ok = (put_at place m new (λ i p. NotTaken (place i) → NotTaken p) k (λ _ _. coming_not new is) (λ _ o. o) ok.0, ok.1, ok.2)
  knows_turn published mode place lock m new k ne was is seen Resting ok = absurd (ne ok.0)
  knows_turn published mode place lock m new k ne was is seen (Handing g []) ok = absurd (ne ok.0)
  knows_turn published mode place lock m new k ne was is seen (Handing g (p ∷ ps)) ok = absurd (ne ok.0)
  knows_turn published mode place lock m new k ne was is seen (Filling g p ps) ok = absurd (ne ok.0)

  -- what a seat knows of its lock stays true, whatever else changes
  pub keys_stay : (published published' : List (List MemberVersions)) (mode mode' : Mode) (place place' : ℕ → Place) (lock : ℕ → ShardState) (k : ℕ) (x : Lock) → KnowsLock z.shards z.start published mode place lock k x → KnowsLock z.shards z.start published' mode' place' lock k x
  keys_stay published published' mode mode' place place' lock k Free ok = ok
  keys_stay published published' mode mode' place place' lock k (Held j vs) ok = ok

  with_stage : Stage → SeatState → SeatState
  with_stage st x = seat_state x.client x.opening x.seen x.lock st

  -- the place of one part changes, from one where the part is under way to another such place
  module _ (s : TableState held_by nodes_of) (r : Rule held_by nodes_of z s) (m : ℕ) (old new : Place) (now : r.place m ≡ old) (was_open : IsOpen old) (is_open : IsOpen new) (to : (end : ℕ) (vs : List Version) → InPart end vs old → InPart end vs new)
      (from_old : (v : Version) → In v (stored_in old) → In v (stored_in new)) (to_old : (v : Version) → In v (stored_in new) → In v (stored_in old)) where
    pub row_moves : (id : ℕ) (k x : ℕ) (hs : Homes held_by nodes_of) (h h' : SeatState) → get_elem? s.views id ≡ some (h ∷ []) → h'.client ≡ h.client → h'.opening ≡ h.opening → h.lock ≡ Free → h'.lock ≡ Free → h'.seen ≡ h.seen
        → k ≡ z.shards + 1 + m → 0 < m → m ≤ z.clients → length hs ≡ length s.homes → ((i : ℕ) → i ≢ z.shards + m → get_elem? hs i ≡ get_elem? s.homes i)
        → InPlace held_by nodes_of z.shards (set s.words k x) hs m new
        → Knows z.shards z.start r.published r.mode (put r.place m new) r.lock h.client h'.seen h'.stage
        → ((j : ℕ) → j ≢ h.client → (seen : List (List MemberVersions)) (st : Stage) → Knows z.shards z.start r.published r.mode r.place r.lock j seen st → Knows z.shards z.start r.published r.mode (put r.place m new) r.lock j seen st)
        → IsNow held_by nodes_of z (table_now r.published r.mode (put r.place m new)) (record { words = set s.words k x; homes = hs; views = set s.views id (h' ∷ []) })
    row_moves id k x hs h h' at' same_c same_s free free' same_seen is lo hi many same_h row knows others =
        let fit = (r.seats id (h ∷ []) at').0 in
        let ws : List ℕ = set s.words k x in
        let place = put r.place m new in
        let w : (i : ℕ) → i ≢ k → get_or ws i 0 ≡ get_or s.words i 0 = λ i ne. get_or-set_other s.words k i x 0 (λ e. ne (omega arith)) in
        let kept : (i : ℕ) (v : Version) → In v (stored_in (r.place i)) → In v (stored_in (place i)) = λ i v h. put_at r.place m new (λ i p. In v (stored_in (r.place i)) → In v (stored_in p)) i (λ e o. from_old v (subst (λ (p : Place). In v (stored_in p)) (ap r.place e ∙ now) o)) (λ _ o. o) h in
        let back : (i : ℕ) (v : Version) → In v (stored_in (place i)) → In v (stored_in (r.place i)) = λ i v h. put_at r.place m new (λ i p. In v (stored_in p) → In v (stored_in (r.place i))) i (λ e o. subst (λ (p : Place). In v (stored_in p)) (sym (ap r.place e ∙ now)) (to_old v o)) (λ _ o. o) h in
        moved held_by nodes_of z s r id ws hs h h' r.published r.mode place r.lock record {
          sits = at';
          same_client = same_c;
          same_opening = same_s;
          wide = length-set s.words k x;
          many = many;
          last_is = w z.shards (λ e. omega arith) ∙ r.last_is;
          runs = r.runs;
          some_each = r.some_each;
          shards_are = λ i lt ok. shard_stays held_by nodes_of s.words ws s.homes hs z.shards i (w i (λ e. omega arith)) (same_h i (λ e. omega arith)) (r.lock i) ok;
          rows = λ i lo _ ok. put_at r.place m new (λ i p. InPlace held_by nodes_of z.shards s.words s.homes i (r.place i) → InPlace held_by nodes_of z.shards ws hs i p) i
              (λ e _. subst (λ (j : ℕ). InPlace held_by nodes_of z.shards ws hs j new) (sym e) row)
              (λ ne o. place_stays held_by nodes_of s.words ws s.homes hs z.shards i (w (z.shards + 1 + i) (λ e. ne (omega arith))) (same_h (z.shards + i) (λ e. ne (omega arith))) (r.place i) o) ok;
          mode_is = subst (λ (y : ℕ). InMode z.clients y place (last_of z.start r.published) r.mode) (sym (w (z.shards + 1) (λ e. omega arith)))
              (mode_put r.place m new z.clients (get_or s.words (z.shards + 1) 0) (last_of z.start r.published) r.mode (subst IsOpen (sym now) was_open) is_open (λ end vs o. to end vs (subst (InPart end vs) now o)) r.mode_is);
          sound = λ j v lt h. let o = r.sound j v lt h in (o.0, ⊎_elim (λ (a : In v (standing z.base r.published)). inl a) (λ (b : (i : ℕ) × In v (stored_in (r.place i))). inr (b.0, kept b.0 v b.1)) o.1);
          complete = r.complete;
          stored = λ i v h. r.stored i v (back i v h);
          seen = subst (λ (y : List (List MemberVersions)). Begins y r.published) (sym same_seen) fit.3;
          grows = begins_same r.published;
          knows_lock = subst (KnowsLock z.shards z.start r.published r.mode place r.lock h.client) (sym free') tt;
          knows = knows;
          others_lock = λ j _ y. keys_stay r.published r.published r.mode r.mode r.place place r.lock j y;
          others = others;
        }

  -- the turn's load of RUN_m takes the empty slot
  pub empties_is : (slots id : ℕ) (me : SeatNow ShardTree NodeList) (k : ℕ) (seen : List (List MemberVersions)) (g : List MemberVersions) (p : MemberVersions) (ps : List MemberVersions) → k ≡ z.shards + 1 + p.member → 0 < p.member → p.member ≤ z.clients → IsAt 0 z seen Free (Handing g (p ∷ ps)) me → StepIs held_by nodes_of (λ _. Stays) z slots id me k (λ y. y) (after_empty (step slots k 0 0 none) me)
  empties_is slots id me k seen g p ps is lo hi mid s r long at fits =
      let h : SeatState = seat_state 0 z seen Free (Handing g (p ∷ ps)) in
      let at' : get_elem? s.views id ≡ some (h ∷ []) = at ∙ ap some mid in
      let fit = (r.seats id (h ∷ []) at').0 in
      let end : ℕ = end_of (last_of z.start r.published) g in
      let m : ℕ = p.member in
      let old : Place = coming end p.versions in
      let new : Place = filling end p.versions in
      let now : r.place m ≡ old = fit.5.3.0 in
      let row = subst (InPlace held_by nodes_of z.shards s.words s.homes m) now (r.rows m lo hi) in
      let h' : SeatState = seat_state 0 z seen Free (Filling g p ps) in
      let hs = set s.homes (z.shards + m) none in
      let x : ℕ = get_or s.words k 0 in
      let zero_now : x ≡ 0 = ap (λ (i : ℕ). get_or s.words i 0) is ∙ row.0 in
      let same_word : get_or (set s.words k x) (z.shards + 1 + m) 0 ≡ 0 = ap (λ (l : List ℕ). get_or l (z.shards + 1 + m) 0) (set-get_or s.words k 0) ∙ row.0 in (
        h' ∷ [],
        takes (z.shards + m) Blank,
        row.1,
        (
          table_now r.published r.mode (put r.place m new),
          (refl, refl, progress_stays r.place m new (ap progress_of (sym now))),
          row_moves s r m old new now tt tt (λ _ _ o. o) (λ _ o. o) (λ _ o. o) id k x hs h h' at' refl refl refl refl refl is lo hi (length-set s.homes (z.shards + m) none) (λ i ne. set_else s.homes (z.shards + m) i none ne) same_word
              (refl, fit.5.1, fit.5.2, put_here r.place m new, coming_apart r.place m new end ps fit.5.3.1 fit.5.3.2)
              (λ j ne. knows_turn r.published r.mode r.place r.lock m new j ne (subst IsComing (sym now) tt) tt),
        ),
        λ z' seen' g' p' ps' mid' is'.
            let e = sym mid ∙ mid' in
            let z_is : z ≡ z' = ap (λ l. (own l).opening) e in
            let p_is : p ≡ p' = ap (λ l. next_part p (own l).stage) e in
            let same : Path (List (ℕ × Content ShardTree NodeList)) ((z.shards + m, Blank) ∷ me.1) ((z'.shards + p'.member, Blank) ∷ me.1) = λ i. ((z_is i).shards + (p_is i).member, Blank) ∷ me.1 in
            (ap (one (λ y. seat_state y.client y.opening y.seen y.lock (filled y.stage))) e, zero_now, same),
      )
    where
      next_part : MemberVersions → Stage → MemberVersions
      next_part d Idle = d
      next_part d (Waiting u) = d
      next_part d (Holding w) = d
      next_part d (Stored l) = d
      next_part d (Publishing l) = d
      next_part d Resting = d
      next_part d (Handing g []) = d
      next_part d (Handing g (p ∷ ps)) = p
      next_part d (Filling g p ps) = d

      filled : Stage → Stage
      filled Idle = Idle
      filled (Waiting u) = Idle
      filled (Holding w) = Idle
      filled (Stored l) = Idle
      filled (Publishing l) = Idle
      filled Resting = Idle
      filled (Handing g []) = Idle
      filled (Handing g (p ∷ ps)) = Filling g p ps
      filled (Filling g p ps) = Idle

  pub empties : (slots id : ℕ) (me : SeatNow ShardTree NodeList) (k : ℕ) (seen : List (List MemberVersions)) (g : List MemberVersions) (p : MemberVersions) (ps : List MemberVersions) → k ≡ z.shards + 1 + p.member → 0 < p.member → p.member ≤ z.clients → IsAt 0 z seen Free (Handing g (p ∷ ps)) me → Allows (Rule held_by nodes_of z) slots id me k (λ y. y) (after_empty (step slots k 0 0 none) me)
  empties slots id me k seen g p ps is lo hi mid = allows held_by nodes_of (λ _. Stays) z slots id me k (λ y. y) (after_empty (step slots k 0 0 none) me) (empties_is slots id me k seen g p ps is lo hi mid)

  -- the turn's store of RUN_m gives the nodes
  pub gives_nodes_is : (slots id : ℕ) (me : SeatNow ShardTree NodeList) (k : ℕ) (seen : List (List MemberVersions)) (g : List MemberVersions) (p : MemberVersions) (ps : List MemberVersions) (x : NodeList) (l : ℕ) (more : List (ℕ × Content ShardTree NodeList)) → k ≡ z.shards + 1 + p.member → 0 < p.member → p.member ≤ z.clients → IsAt 0 z seen Free (Filling g p ps) me
      → me.1 ≡ (z.shards + p.member, Nodes x l) ∷ more → nodes_of x ≡ p.versions → l ≡ end_of (last_of z.start seen) g → StepIs held_by nodes_of (λ _. Stays) z slots id me k (λ _. 1) (λ _. after_give (step slots k 1 0 none) me 1)
  gives_nodes_is slots id me k seen g p ps x l more is lo hi mid slot nodes last s r long at fits =
      let h : SeatState = seat_state 0 z seen Free (Filling g p ps) in
      let at' : get_elem? s.views id ≡ some (h ∷ []) = at ∙ ap some mid in
      let fit = (r.seats id (h ∷ []) at').0 in
      let end : ℕ = end_of (last_of z.start r.published) g in
      let m : ℕ = p.member in
      let old : Place = filling end p.versions in
      let new : Place = handed end p.versions in
      let now : r.place m ≡ old = fit.5.3 in
      let h' : SeatState = seat_state 0 z seen Free (Handing g ps) in
      let y : Option (Content ShardTree NodeList) = some (Nodes x l) in
      let hs = set s.homes (z.shards + m) y in
      let wide : length s.words ≡ z.shards + 2 + z.clients = r.wide in
      let many : length s.homes ≡ z.shards + 1 + z.clients = r.many in
      let l_is : l ≡ end = last ∙ ap (λ (w : List (List MemberVersions)). end_of (last_of z.start w) g) (sym fit.5.2) in (
        h' ∷ [],
        gives,
        tt,
        (
          table_now r.published r.mode (put r.place m new),
          (refl, refl, progress_stays r.place m new (ap progress_of (sym now))),
          subst (λ (c : List (ℕ × Content ShardTree NodeList)). IsNow held_by nodes_of z (table_now r.published r.mode (put r.place m new)) (stepped s k 1 id c (h' ∷ []) gives)) (sym slot)
              (row_moves s r m old new now tt tt (λ _ _ o. o) (λ _ o. o) (λ _ o. o) id k 1 hs h h' at' refl refl refl refl refl is lo hi (length-set s.homes (z.shards + m) y) (λ i ne. set_else s.homes (z.shards + m) i y ne)
              (ap (λ (j : ℕ). get_or (set s.words k 1) j 0) (sym is) ∙ get_or-set_same s.words k 1 0 (omega arith), (x, set_here s.homes (z.shards + m) y (omega arith) ∙ (λ i. some (some (Nodes x (l_is i)))), nodes))
              (on ps (put r.place m new) fit.5.1 fit.5.2 (coming_apart_of r.place m new end ps fit.5.4 now))
              (λ j ne. knows_turn r.published r.mode r.place r.lock m new j ne (subst IsComing (sym now) tt) tt)),
        ),
        λ z' seen' g' p' ps' mid'. (ap (one (λ w. seat_state w.client w.opening w.seen w.lock (handed_on w.stage))) (sym mid ∙ mid'), refl),
      )
    where
      handed_on : Stage → Stage
      handed_on Idle = Idle
      handed_on (Waiting u) = Idle
      handed_on (Holding w) = Idle
      handed_on (Stored l) = Idle
      handed_on (Publishing l) = Idle
      handed_on Resting = Idle
      handed_on (Handing g ps) = Idle
      handed_on (Filling g p ps) = Handing g ps

      -- the member whose slot is filled is not among those that still come
      coming_apart_of : (place : ℕ → Place) (m : ℕ) (new : Place) (end : ℕ) (qs : List MemberVersions) → AllComing place end qs → place m ≡ filling end p.versions → AllComing (put place m new) end qs
      coming_apart_of place m new end qs ok now = coming_put place m new end qs (λ l vs bad. let e : filling end p.versions ≡ coming l vs = sym now ∙ bad in absurd (cc)) ok

      on : (qs : List MemberVersions) (place : ℕ → Place) → r.mode ≡ running g → r.published ≡ seen → AllComing place (end_of (last_of z.start r.published) g) qs → Knows z.shards z.start r.published r.mode place r.lock 0 seen (Handing g qs)
      on [] place mode_is same ok = (refl, inl (mode_is, same))
      on (q ∷ qs) place mode_is same ok = (refl, mode_is, same, ok)

  pub gives_nodes : (slots id : ℕ) (me : SeatNow ShardTree NodeList) (k : ℕ) (seen : List (List MemberVersions)) (g : List MemberVersions) (p : MemberVersions) (ps : List MemberVersions) (x : NodeList) (l : ℕ) (more : List (ℕ × Content ShardTree NodeList)) → k ≡ z.shards + 1 + p.member → 0 < p.member → p.member ≤ z.clients → IsAt 0 z seen Free (Filling g p ps) me
      → me.1 ≡ (z.shards + p.member, Nodes x l) ∷ more → nodes_of x ≡ p.versions → l ≡ end_of (last_of z.start seen) g → Allows (Rule held_by nodes_of z) slots id me k (λ _. 1) (λ _. after_give (step slots k 1 0 none) me 1)
  gives_nodes slots id me k seen g p ps x l more is lo hi mid slot nodes last = allows held_by nodes_of (λ _. Stays) z slots id me k (λ _. 1) (λ _. after_give (step slots k 1 0 none) me 1) (gives_nodes_is slots id me k seen g p ps x l more is lo hi mid slot nodes last)

  -- a client whose part is under way is a member of the launched group
  pub open_member : (s : TableState held_by nodes_of) (r : Rule held_by nodes_of z s) (c : ℕ) (u : Launched) → IsRunning z.shards z.start r.published r.mode r.place r.lock c u → IsOpen (r.place c) → IsMember c u.group
  open_member s r c u runs is =
      let last : ℕ = last_of z.start r.published in
      let ok = subst (InMode z.clients (get_or s.words (z.shards + 1) 0) r.place last) runs.0 r.mode_is in
      ⊎_elim (λ (t : (p : MemberVersions) × In p u.group × (p.member ≡ c)). t) (λ (t : Apart c u.group). absurd (subst IsOpen (ok.3.3 c t) is)) (member_or c u.group)

  -- what a client knows of the group whose part is in its slot
  module _ (s : TableState held_by nodes_of) (r : Rule held_by nodes_of z s) (c : ℕ) (seen : List (List MemberVersions)) where
    own_group : (stage : Stage) → MayTake stage → IsOpen (r.place c) → Knows z.shards z.start r.published r.mode r.place r.lock c seen stage → (u : Launched) × IsRunning z.shards z.start r.published r.mode r.place r.lock c u × IsAwaited stage u
    own_group Idle may is ok =
        let gm = open_mode z.clients (get_or s.words (z.shards + 1) 0) r.place (last_of z.start r.published) c r.mode r.mode_is is in
        (launched_behind z.start r.published gm.0, (gm.1, (refl, refl)), tt)
    own_group (Waiting u) may is ok = (u, ok.1, refl)
    own_group (Holding w) may is ok = absurd may
    own_group (Stored u) may is ok = absurd may
    own_group (Publishing u) may is ok = absurd may
    own_group Resting may is ok = absurd may
    own_group (Handing g ps) may is ok = absurd may
    own_group (Filling g p ps) may is ok = absurd may

    -- the part in the slot is of that group
    own_part : (u : Launched) (l : ℕ) (vs : List Version) → IsRunning z.shards z.start r.published r.mode r.place r.lock c u → r.place c ≡ handed l vs → Begins seen r.published → IsPartOf z c seen u vs × (l ≡ u.last)
    own_part u l vs runs now begins =
        let last : ℕ = last_of z.start r.published in
        let g : List MemberVersions = u.group in
        let end : ℕ = end_of last g in
        let before_is : r.published ≡ u.before = runs.1.0 in
        let ok = subst (InMode z.clients (get_or s.words (z.shards + 1) 0) r.place last) runs.0 r.mode_is in
        let p = ⊎_elim (λ (t : (p : MemberVersions) × In p g × (p.member ≡ c)). t) (λ (t : Apart c g). absurd (subst IsOpen (sym now ∙ ok.3.3 c t) tt)) (member_or c g) in
        let part : InPart end p.0.versions (handed l vs) = subst (InPart end p.0.versions) (ap r.place p.2 ∙ now) (part_at r.place end g p.0 ok.2 p.1) in
        let is : p.0 ≡ part_of c vs = λ i. part_of (p.2 i) (sym part.1 i) in (
          record {
            part = subst (λ (q : MemberVersions). In q g) is p.1;
            next = subst (λ (b : List (List MemberVersions)). IsNext z b g) before_is (ok.3.0, ok.3.1, ok.3.2);
            last_is = runs.1.1 ∙ ap (λ (b : List (List MemberVersions)). end_of (last_of z.start b) g) before_is;
            seen_before = subst (Begins seen) before_is begins;
            is_history = subst (IsHistory z.start) before_is (r.runs, r.some_each);
          },
          part.0 ∙ sym runs.1.1,
        )

  -- a client's load of its RUN takes the nodes if they are there
  module _ (slots id : ℕ) (me : SeatNow ShardTree NodeList) (c k : ℕ) (seen : List (List MemberVersions)) (stage : Stage) (is : k ≡ z.shards + 1 + c) (lo : 0 < c) (may : MayTake stage) (mid : IsAt c z seen Free stage me)
      (s : TableState held_by nodes_of) (r : Rule held_by nodes_of z s) (at : get_elem? s.views id ≡ some me.0) where
    abbrev tells : ℕ → SeatNow ShardTree NodeList → Type 0
    tells = after_take nodes_of (step slots k 0 0 none) me

    abbrev x : ℕ
    x = get_or s.words k 0

    takes_not : x ≢ 1 → Goes held_by nodes_of (λ _. Stays) z s (now_of held_by nodes_of z s r) k id me tells x
    takes_not ne = (me.0, keeps, tt, unmoved held_by nodes_of z s k id me.0 at r, λ _ _ _ _ _ _. ((λ hit. absurd (ne hit)), λ _. refl))

    takes_now : (l : ℕ) (vs : List Version) → r.place c ≡ handed l vs → c ≤ z.clients → InPlace held_by nodes_of z.shards s.words s.homes c (handed l vs) → Goes held_by nodes_of (λ _. Stays) z s (now_of held_by nodes_of z s r) k id me tells x
    takes_now l vs now hi row =
        let h : SeatState = seat_state c z seen Free stage in
        let at' : get_elem? s.views id ≡ some (h ∷ []) = at ∙ ap some mid in
        let fit = (r.seats id (h ∷ []) at').0 in
        let grp = own_group s r c seen stage may (subst IsOpen (sym now) tt) fit.5 in
        let u : Launched = grp.0 in
        let y : NodeList = row.1.0 in
        let us : List Version = nodes_of y in
        let same_vs : us ≡ vs = row.1.2 in
        let part = own_part s r c seen u l us grp.1 (now ∙ ap (handed l) (sym same_vs)) fit.3 in
        let old : Place = handed l vs in
        let new : Place = busy u.last [] us in
        let st : Stage = Holding (work u [] us) in
        let h' : SeatState = seat_state c z seen Free st in
        let hs = set s.homes (z.shards + c) none in
        let one_now : x ≡ 1 = ap (λ (i : ℕ). get_or s.words i 0) is ∙ row.0 in
        let same_word : get_or (set s.words k x) (z.shards + 1 + c) 0 ≡ 1 = ap (λ (w : List ℕ). get_or w (z.shards + 1 + c) 0) (set-get_or s.words k 0) ∙ row.0 in (
          h' ∷ [],
          takes (z.shards + c) (Nodes y l),
          row.1.1,
          (
            table_now r.published r.mode (put r.place c new),
            (refl, refl, progress_stays r.place c new (ap progress_of (sym now))),
            row_moves s r c old new now tt tt (λ _ us' o. (sym part.1 ∙ o.0, same_vs ∙ o.1)) (λ _ o. o) (λ _ o. o) id k x hs h h' at' refl refl refl refl refl is lo hi (length-set s.homes (z.shards + c) none) (λ i ne. set_else s.homes (z.shards + c) i none ne) same_word
                (put_here r.place c new, grp.1)
                (λ j ne. knows_member held_by nodes_of z r.published r.mode r.place r.lock r.lock c new j ne (λ l' us' bad. absurd (subst IsWithMember (sym now ∙ bad) tt)) (λ l' us' bad. absurd (subst IsWithMember (sym now ∙ bad) tt))),
          ),
          λ c' z' seen' stage' mid' may'.
              let e = sym mid ∙ mid' in
              let z_is : z ≡ z' = ap (λ w. (own w).opening) e in
              let c_is : c ≡ c' = ap (λ w. (own w).client) e in
              let same : Path (List (ℕ × Content ShardTree NodeList)) ((z.shards + c, Nodes y l) ∷ me.1) ((z'.shards + c', Nodes y u.last) ∷ me.1) = λ i. ((z_is i).shards + c_is i, Nodes y (part.1 i)) ∷ me.1 in (
                (λ _. (
                  y,
                  u,
                  ap (one (λ w. seat_state w.client w.opening w.seen w.lock st)) e,
                  same,
                  subst (λ (w : SeatState). IsPartOf w.opening w.client w.seen u us) (ap own e) part.0,
                  subst (λ (w : SeatState). IsAwaited w.stage u) (ap own e) grp.2,
                )),
                λ ne. absurd (ne one_now),
              ),
        )

    takes_at : (p : Place) → r.place c ≡ p → c ≤ z.clients → NotTaken p → InPlace held_by nodes_of z.shards s.words s.homes c p → Goes held_by nodes_of (λ _. Stays) z s (now_of held_by nodes_of z s r) k id me tells x
    takes_at out now hi free ok = let e : x ≡ 0 = ap (λ (i : ℕ). get_or s.words i 0) is ∙ ok.0 in takes_not (λ b. omega arith)
    takes_at (coming l vs) now hi free ok = let e : x ≡ 0 = ap (λ (i : ℕ). get_or s.words i 0) is ∙ ok.0 in takes_not (λ b. omega arith)
    takes_at (filling l vs) now hi free ok = let e : x ≡ 0 = ap (λ (i : ℕ). get_or s.words i 0) is ∙ ok in takes_not (λ b. omega arith)
    takes_at (handed l vs) now hi free ok = takes_now l vs now hi ok
    takes_at (busy l d m) now hi free ok = absurd free
    takes_at (inserted l vs) now hi free ok = absurd free
    takes_at (finished l vs) now hi free ok = let e : x ≡ 0 = ap (λ (i : ℕ). get_or s.words i 0) is ∙ ok.0 in takes_not (λ b. omega arith)

    not_taken : (st : Stage) → MayTake st → Knows z.shards z.start r.published r.mode r.place r.lock c seen st → NotTaken (r.place c)
    not_taken Idle may ok = ok
    not_taken (Waiting u) may ok = coming_not (r.place c) ok.0
    not_taken (Holding w) may ok = absurd may
    not_taken (Stored u) may ok = absurd may
    not_taken (Publishing u) may ok = absurd may
    not_taken Resting may ok = absurd may
    not_taken (Handing g ps) may ok = absurd may
    not_taken (Filling g p ps) may ok = absurd may

    takes_all : Goes held_by nodes_of (λ _. Stays) z s (now_of held_by nodes_of z s r) k id me tells x
    takes_all = let fit = (r.seats id (seat_state c z seen Free stage ∷ []) (at ∙ ap some mid)).0 in takes_at (r.place c) refl fit.1 (not_taken stage may fit.5) (r.rows c lo fit.1)

  pub takes_nodes_is : (slots id : ℕ) (me : SeatNow ShardTree NodeList) (c k : ℕ) (seen : List (List MemberVersions)) (stage : Stage) → k ≡ z.shards + 1 + c → 0 < c → MayTake stage → IsAt c z seen Free stage me → StepIs held_by nodes_of (λ _. Stays) z slots id me k (λ y. y) (after_take nodes_of (step slots k 0 0 none) me)
  takes_nodes_is slots id me c k seen stage is lo may mid s r long at fits = takes_all slots id me c k seen stage is lo may mid s r at

  pub takes_nodes : (slots id : ℕ) (me : SeatNow ShardTree NodeList) (c k : ℕ) (seen : List (List MemberVersions)) (stage : Stage) → k ≡ z.shards + 1 + c → 0 < c → MayTake stage → IsAt c z seen Free stage me → Allows (Rule held_by nodes_of z) slots id me k (λ y. y) (after_take nodes_of (step slots k 0 0 none) me)
  takes_nodes slots id me c k seen stage is lo may mid = allows held_by nodes_of (λ _. Stays) z slots id me k (λ y. y) (after_take nodes_of (step slots k 0 0 none) me) (takes_nodes_is slots id me c k seen stage is lo may mid)

  -- a client's store of its RUN gives the empty slot back
  pub settles_is : (slots id : ℕ) (me : SeatNow ShardTree NodeList) (c k : ℕ) (seen : List (List MemberVersions)) (u : Launched) (done : List Version) (more : List (ℕ × Content ShardTree NodeList)) → k ≡ z.shards + 1 + c → 0 < c → IsAt c z seen Free (Holding (work u done [])) me
      → me.1 ≡ (z.shards + c, Blank) ∷ more → StepIs held_by nodes_of (λ _. IsInsert c) z slots id me k (λ _. 0) (λ _. after_settle (step slots k 0 0 none) me 0)
  settles_is slots id me c k seen u done more is lo mid slot s r long at fits =
      let h : SeatState = seat_state c z seen Free (Holding (work u done [])) in
      let at' : get_elem? s.views id ≡ some (h ∷ []) = at ∙ ap some mid in
      let fit = (r.seats id (h ∷ []) at').0 in
      let old : Place = busy u.last done [] in
      let new : Place = inserted u.last done in
      let now : r.place c ≡ old = fit.5.0 in
      let hi : c ≤ z.clients = fit.1 in
      let h' : SeatState = seat_state c z seen Free (Stored u) in
      let y : Option (Content ShardTree NodeList) = some Blank in
      let hs = set s.homes (z.shards + c) y in
      let wide : length s.words ≡ z.shards + 2 + z.clients = r.wide in
      let many : length s.homes ≡ z.shards + 1 + z.clients = r.many in (
        h' ∷ [],
        gives,
        tt,
        (
          table_now r.published r.mode (put r.place c new),
          (u.group, fit.5.1.0, open_member s r c u fit.5.1 (subst IsOpen (sym now) tt), refl, progress_moves r.published r.mode r.mode r.place c old new now),
          subst (λ (x : List (ℕ × Content ShardTree NodeList)). IsNow held_by nodes_of z (table_now r.published r.mode (put r.place c new)) (stepped s k 0 id x (h' ∷ []) gives)) (sym slot)
              (row_moves s r c old new now tt tt (λ _ us o. (o.0, sym (append-nil done) ∙ o.1)) (λ _ o. o) (λ _ o. o) id k 0 hs h h' at' refl refl refl refl refl is lo hi (length-set s.homes (z.shards + c) y) (λ i ne. set_else s.homes (z.shards + c) i y ne)
              (ap (λ (j : ℕ). get_or (set s.words k 0) j 0) (sym is) ∙ get_or-set_same s.words k 0 0 (omega arith), set_here s.homes (z.shards + c) y (omega arith))
              ((done, put_here r.place c new), fit.5.1)
              (λ j ne. knows_member held_by nodes_of z r.published r.mode r.place r.lock r.lock c new j ne (λ l' us' bad. absurd (subst IsWithMember (sym now ∙ bad) tt)) (λ l' us' bad. absurd (subst IsWithMember (sym now ∙ bad) tt)))),
        ),
        λ c' z' seen' u' done' mid'. let e = sym mid ∙ mid' in let u_is : u ≡ u' = ap (λ w. launched_in u (own w).stage) e in
            ((λ i. seat_state (own (e i)).client (own (e i)).opening (own (e i)).seen (own (e i)).lock (Stored (u_is i)) ∷ []), refl),
      )

  pub settles : (slots id : ℕ) (me : SeatNow ShardTree NodeList) (c k : ℕ) (seen : List (List MemberVersions)) (u : Launched) (done : List Version) (more : List (ℕ × Content ShardTree NodeList)) → k ≡ z.shards + 1 + c → 0 < c → IsAt c z seen Free (Holding (work u done [])) me
      → me.1 ≡ (z.shards + c, Blank) ∷ more → Allows (Rule held_by nodes_of z) slots id me k (λ _. 0) (λ _. after_settle (step slots k 0 0 none) me 0)
  settles slots id me c k seen u done more is lo mid slot = allows held_by nodes_of (λ _. IsInsert c) z slots id me k (λ _. 0) (λ _. after_settle (step slots k 0 0 none) me 0) (settles_is slots id me c k seen u done more is lo mid slot)
