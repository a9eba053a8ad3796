-- The steps of a member that finishes: it counts RUNNING down, and may publish the group.
use Rattle.std.proofs.Common.{◌≡◌, ◌≢◌, ℕ, zero, suc, ◌+◌, ◌-◌, ◌^◌, ◌%◌, ◌<◌, ◌≤◌, ◌⊎◌, List, [], ◌∷◌, ◌++◌, length, get_or, set, refl, sym, ap, ◌∙◌, subst, inl, inr, ⊎_elim, cond, arith, length-set, get_or-set_other, get_or-set_same, append_assoc}
use mathlib.Core.Logic.{dite}
use mathlib.Core.Option.{none, some}
use native.Mathlib.Decide.{ℕ_discrete}
use lib.ListN.{get_elem?}
use Rattle.std.proofs.lemmas.List.Sums.{sum_by-cons}
use Rattle.atomic_table.specs.Table.{step, keeps, Allows}
use Rattle.table_rule.specs.declared.content.Version.{Version}
use Rattle.table_rule.specs.declared.content.MemberVersions.{MemberVersions}
use Rattle.table_rule.specs.declared.view.Opening.{Opening}
use Rattle.table_rule.specs.declared.view.SeatState.{SeatState}
use Rattle.table_rule.specs.declared.view.Launched.{Launched}
use Rattle.table_rule.specs.declared.view.Lock.TheVariants.{Free}
use Rattle.table_rule.specs.declared.view.Stage.{Stage}
use Rattle.table_rule.specs.declared.view.Stage.TheVariants.{Idle, Waiting, Holding, Stored, Publishing, Resting, Handing, Filling}
use Rattle.table_rule.specs.Histories.{In, versions_in, versions_of, standing, Runs, last_of, Begins, Apart, AreSome, IsHistory}
use Rattle.table_rule.specs.Rule.{Place, out, coming, filling, handed, busy, inserted, finished, ShardState, Mode, still, running, ended, stored_in, InPart, NotTaken, IsComing, open_part, unfinished, AllParts, AllFinished, end_of, IsLaunched, InMode, KnowsLock, Knows, seat_state, InPlace}
use Rattle.table_rule.specs.Steps.{SeatNow, IsAt}
use Rattle.table_rule.proofs.Puts.{put, put_at, put_here}
use Rattle.table_rule.proofs.Histories.{in_left, in_right, in_split, begins_same, versions_snoc, last_snoc}
use Rattle.table_rule.proofs.Parts.{IsOpen}
use Rattle.table_rule.proofs.Moves.{TableState, Homes, shard_stays, place_stays, moved, allows, progress_moves}
use Rattle.table_rule.specs.Events.{table_now, progress_of, is_running, count_running, to_finish, is_finished, OnlyMember, IsFinish, IsPublish, now_of, IsNow, Comes, StepIs}
use Rattle.table_rule.specs.Steps.{after_count, stage_after_finish, after_publish}
use Rattle.table_rule.proofs.Locks.{own, launched_in, IsWithMember, Rule, knows_member}
use Rattle.table_rule.proofs.Parts.{all_done, one_less, none_open, in_group, parts_put, fit_put, finished_at, finished_parts, stored_group}
use Rattle.table_rule.proofs.Histories.{some_snoc, runs_append, member_or}
use Rattle.table_rule.proofs.Handing.{keys_stay}

running_one : (g h : List MemberVersions) → running g ≡ running h → g ≡ h
running_one g h e = cc

ended_one : (c d : ℕ) (g h : List MemberVersions) → ended c g ≡ ended d h → (c ≡ d) × (g ≡ h)
ended_one c d g h e = (cc, cc)

less : (x : ℕ) → 0 < x → x < 18446744073709551616 → (x + (2 ^ 64 - 1)) % 2 ^ 64 ≡ x - 1
less x lo hi = omega arith

abbrev IsGone : Place → Type 0
IsGone p = (p ≡ out) ⊎ ((l : ℕ) × (vs : List Version) × (p ≡ finished l vs))

gone_open : (p : Place) → IsGone p → IsOpen p → ⊥
gone_open p gone is = ⊎_elim (λ (t : p ≡ out). absurd (subst IsOpen t is)) (λ (t : (l : ℕ) × (vs : List Version) × (p ≡ finished l vs)). absurd (subst IsOpen t.2 is)) gone

gone_coming : (p : Place) → IsGone p → IsComing p → ⊥
gone_coming p gone is = ⊎_elim (λ (t : p ≡ out). absurd (subst IsComing t is)) (λ (t : (l : ℕ) × (vs : List Version) × (p ≡ finished l vs)). absurd (subst IsComing t.2 is)) gone

module _ {ShardTree NodeList : Type 0} (held_by : ShardTree → List Version) (nodes_of : NodeList → List Version) (z : Opening) where
  -- what the seats know stays true when the last part is finished
  knows_ended : (published : List (List MemberVersions)) (mode : Mode) (place : ℕ → Place) (lock : ℕ → ShardState) (g : List MemberVersions) (c k : ℕ) → mode ≡ running g → ((i : ℕ) → IsGone (place i)) → (seen : List (List MemberVersions)) (st : Stage)
      → Knows z.shards z.start published mode place lock k seen st → Knows z.shards z.start published (ended c g) place lock k seen st
  knows_ended published mode place lock g c k is gone seen Idle ok = ok
  knows_ended published mode place lock g c k is gone seen (Waiting u) ok = absurd (gone_coming (place k) (gone k) ok.0)
  knows_ended published mode place lock g c k is gone seen (Holding w) ok = absurd (gone_open (place k) (gone k) (subst IsOpen (sym ok.0) tt))
  knows_ended published mode place lock g c k is gone seen (Stored u) ok = absurd (gone_open (place k) (gone k) (subst IsOpen (sym ok.0.1) tt))
  knows_ended published mode place lock g c k is gone seen (Publishing u) ok = let bad : running g ≡ ended k u.group = sym is ∙ ok.1 in absurd (cc)
  knows_ended published mode place lock g c k is gone seen Resting ok = let bad : running g ≡ still = sym is ∙ ok.1 in absurd (cc)
  knows_ended published mode place lock g c k is gone seen (Handing h []) ok = (
    ok.0,
    ⊎_elim
        (λ (t : (mode ≡ running h) × (published ≡ seen)). inr (inl (c, ap (ended c) (running_one g h (sym is ∙ t.0)), t.1)))
        (λ (t : ((m : ℕ) × (mode ≡ ended m h) × (published ≡ seen)) ⊎ ((mode ≡ still) × (published ≡ seen ++ h ∷ []))). ⊎_elim
        (λ (u : (m : ℕ) × (mode ≡ ended m h) × (published ≡ seen)). let bad : running g ≡ ended u.0 h = sym is ∙ u.1 in absurd (cc))
        (λ (u : (mode ≡ still) × (published ≡ seen ++ h ∷ [])). let bad : running g ≡ still = sym is ∙ u.0 in absurd (cc)) t)
        ok.1,
  )
  knows_ended published mode place lock g c k is gone seen (Handing h (p ∷ ps)) ok = absurd (gone_open (place p.member) (gone p.member) (subst IsOpen (sym ok.3.0) tt))
  knows_ended published mode place lock g c k is gone seen (Filling h p ps) ok = absurd (gone_open (place p.member) (gone p.member) (subst IsOpen (sym ok.3) tt))

  module _ (s : TableState held_by nodes_of) (r : Rule held_by nodes_of z s) (c l : ℕ) (vs : List Version) (now : r.place c ≡ inserted l vs) (g : List MemberVersions) (is : r.mode ≡ running g) (x y : ℕ) where
    fin : Place
    fin = finished l vs

    abbrev after : ℕ → Place
    after = put r.place c (finished l vs)

    -- the group is still running, or c may publish it
    counts_to : (id : ℕ) (h h' : SeatState) (mode : Mode) → get_elem? s.views id ≡ some (h ∷ []) → h.client ≡ c → h'.client ≡ h.client → h'.opening ≡ h.opening → h'.lock ≡ Free → h'.seen ≡ h.seen → InMode z.clients y after (last_of z.start r.published) mode
        → Knows z.shards z.start r.published mode after r.lock h.client h'.seen h'.stage
        → ((k : ℕ) → k ≢ c → (seen : List (List MemberVersions)) (st : Stage) → Knows z.shards z.start r.published r.mode after r.lock k seen st → Knows z.shards z.start r.published mode after r.lock k seen st)
        → IsNow held_by nodes_of z (table_now r.published mode after) (record { words = set s.words (z.shards + 1) y; homes = s.homes; views = set s.views id (h' ∷ []) })
    counts_to id h h' mode at' c_is same_c same_s free same_seen mode_is knows others =
        let fit = (r.seats id (h ∷ []) at').0 in
        let k : ℕ = z.shards + 1 in
        let ws : List ℕ = set s.words k y in
        let wide : length s.words ≡ z.shards + 2 + z.clients = r.wide in
        let w : (i : ℕ) → i ≢ k → get_or ws i 0 ≡ get_or s.words i 0 = λ i ne. get_or-set_other s.words k i y 0 (λ e. ne (omega arith)) in
        moved held_by nodes_of z s r id ws s.homes h h' r.published mode after r.lock record {
          sits = at';
          same_client = same_c;
          same_opening = same_s;
          wide = length-set s.words k y;
          many = refl;
          last_is = w z.shards (λ e. omega arith) ∙ r.last_is;
          runs = r.runs;
          some_each = r.some_each;
          shards_are = λ i lt ok. shard_stays held_by nodes_of s.words ws s.homes s.homes z.shards i (w i (λ e. omega arith)) refl (r.lock i) ok;
          rows = λ i lo _ ok.
              let same = place_stays held_by nodes_of s.words ws s.homes s.homes z.shards i (w (z.shards + 1 + i) (λ e. omega arith)) refl (r.place i) ok in
              put_at r.place c (finished l vs) (λ i p. InPlace held_by nodes_of z.shards ws s.homes i (r.place i) → InPlace held_by nodes_of z.shards ws s.homes i p) i (λ e o. subst (λ (p : Place). InPlace held_by nodes_of z.shards ws s.homes i p) (ap r.place e ∙ now) o) (λ _ o. o) same;
          mode_is = subst (λ (i : ℕ). InMode z.clients i after (last_of z.start r.published) mode) (sym (get_or-set_same s.words k y 0 (omega arith))) mode_is;
          sound = λ j v lt h. let o = r.sound j v lt h in (
            o.0,
            ⊎_elim (λ (a : In v (standing z.base r.published)). inl a)
                (λ (b : (i : ℕ) × In v (stored_in (r.place i))). inr (b.0, put_at r.place c (finished l vs) (λ i p. In v (stored_in (r.place i)) → In v (stored_in p)) b.0 (λ e o. subst (λ (p : Place). In v (stored_in p)) (ap r.place e ∙ now) o) (λ _ o. o) b.1)) o.1,
          );
          complete = r.complete;
          stored = λ i v h. r.stored i v (put_at r.place c (finished l vs) (λ i p. In v (stored_in p) → In v (stored_in (r.place i))) i (λ e o. subst (λ (p : Place). In v (stored_in p)) (sym (ap r.place e ∙ now)) o) (λ _ o. o) h);
          seen = subst (λ (y : List (List MemberVersions)). Begins y r.published) (sym same_seen) fit.3;
          grows = begins_same r.published;
          knows_lock = subst (KnowsLock z.shards z.start r.published mode after r.lock h.client) (sym free) tt;
          knows = knows;
          others_lock = λ j _ x. keys_stay held_by nodes_of z r.published r.published r.mode mode r.place after r.lock j x;
          others = λ j ne seen st ok. others j (λ e. ne (e ∙ sym c_is)) seen st (knows_member held_by nodes_of z r.published r.mode r.place r.lock r.lock c (finished l vs) j (λ e. ne (e ∙ sym c_is)) (λ l' us' bad. absurd (subst IsWithMember (sym now ∙ bad) tt)) (λ l' us' bad. absurd (subst IsWithMember (sym now ∙ bad) tt)) seen st ok);
        }

  pub others_end : (u : Launched) (x : ℕ) → x ≢ 1 → stage_after_finish u x ≡ Idle
  others_end u zero ne = refl
  others_end u (suc zero) ne = absurd (ne refl)
  others_end u (suc (suc x)) ne = refl

  few_open : (place : ℕ → Place) (g : List MemberVersions) → unfinished place g ≤ length g
  few_open place [] = omega arith
  few_open place (p ∷ ps) = let a = at_most (place p.member) in let b = few_open place ps in omega arith
    where
      at_most : (p : Place) → open_part p ≤ 1
      at_most out = omega arith
      at_most (coming l vs) = omega arith
      at_most (filling l vs) = omega arith
      at_most (handed l vs) = omega arith
      at_most (busy l d m) = omega arith
      at_most (inserted l vs) = omega arith
      at_most (finished l vs) = omega arith

  open_running : (place : ℕ → Place) (g : List MemberVersions) → unfinished place g ≡ count_running (λ i. progress_of (place i)) g
  open_running place [] = refl
  open_running place (p ∷ ps) = let a = as_open (place p.member) in let b = open_running place ps in
      let c = sum_by-cons (λ (q : MemberVersions). cond (is_running (progress_of (place q.member))) 1 0) p ps in omega arith
    where
      as_open : (x : Place) → open_part x ≡ cond (is_running (progress_of x)) 1 0
      as_open out = refl
      as_open (coming l vs) = refl
      as_open (filling l vs) = refl
      as_open (handed l vs) = refl
      as_open (busy l d m) = refl
      as_open (inserted l vs) = refl
      as_open (finished l vs) = refl

  -- the fetch-sub of RUNNING
  pub counts_is : (slots id : ℕ) (me : SeatNow ShardTree NodeList) (c k : ℕ) (seen : List (List MemberVersions)) (u : Launched) → k ≡ z.shards + 1 → IsAt c z seen Free (Stored u) me → StepIs held_by nodes_of (IsFinish c) z slots id me k (λ n. (n + (2 ^ 64 - 1)) % 2 ^ 64) (after_count (step slots k 1 0 none) me)
  counts_is slots id me c k seen u is mid s r long at fits =
      let h : SeatState = seat_state c z seen Free (Stored u) in
      let at' : get_elem? s.views id ≡ some (h ∷ []) = at ∙ ap some mid in
      let fit = (r.seats id (h ∷ []) at').0 in
      let l : ℕ = u.last in
      let vs : List Version = fit.5.0.0 in
      let now : r.place c ≡ inserted l vs = fit.5.0.1 in
      let x : ℕ = get_or s.words k 0 in
      let last : ℕ = last_of z.start r.published in
      let x_is : x ≡ get_or s.words (z.shards + 1) 0 = ap (λ (i : ℕ). get_or s.words i 0) is in
      let g : List MemberVersions = u.group in
      let running_now : r.mode ≡ running g = fit.5.1.0 in
      let ok = subst (InMode z.clients (get_or s.words (z.shards + 1) 0) r.place last) running_now r.mode_is in
      let p = in_it s r c l vs now last g ok.3 in
      let place = put r.place c (finished l vs) in
      let y : ℕ = (x + (2 ^ 64 - 1)) % 2 ^ 64 in
      let fewer : suc (unfinished place g) ≡ unfinished r.place g = one_less r.place c l vs z.clients g p.0 p.1 p.2 (subst IsOpen (sym now) tt) ok.3.2 in
      let x_open : x ≡ unfinished r.place g = x_is ∙ ok.0 in
      let low : 0 < x = subst (λ (i : ℕ). 0 < i) (sym x_is) ok.1 in
      let y_less : y ≡ x - 1 = less x low fits in
      let y_is : y ≡ unfinished place g = omega arith in
      let parts : AllParts place (end_of last g) g = parts_put r.place c (finished l vs) (end_of last g) g (λ us o. subst (InPart (end_of last g) us) now o) ok.2 in
      let fit' : IsLaunched z.clients y place last g = fit_put r.place c (finished l vs) z.clients (get_or s.words (z.shards + 1) 0) y last g (λ e. subst IsOpen (sym now ∙ e) tt) ok.3 in
      let h' : SeatState = seat_state c z seen Free (stage_after_finish u x) in
      let was : OnlyMember c to_finish is_finished (now_of held_by nodes_of z s r) (table_now r.published r.mode place) = progress_moves r.published r.mode r.mode r.place c (inserted l vs) (finished l vs) now in
      let rule : Comes held_by nodes_of (IsFinish c x) z (now_of held_by nodes_of z s r) (record { words = set s.words (z.shards + 1) y; homes = s.homes; views = set s.views id (h' ∷ []) }) = dite (ℕ_discrete x 1)
      (λ (e : x ≡ 1).
      let none_left : unfinished place g ≡ 0 = omega arith in
      let all = none_open place (end_of last g) g none_left parts in (
        table_now r.published (ended c g) place,
        (g, running_now, p, x_open ∙ open_running r.place g, (was.0, was.1, was.2, was.3), (λ _. (refl, λ q h. ap progress_of (finished_at place (end_of last g) g q all h))), (λ ne. absurd (ne e))),
        counts_to s r c l vs now g running_now x y id h h' (ended c g) at' refl refl refl refl refl (y_is ∙ none_left, all, fit')
            (subst (λ (i : ℕ). Knows z.shards z.start r.published (ended c g) place r.lock c seen (stage_after_finish u i)) (sym e) (subst NotTaken (sym (put_here r.place c (finished l vs))) tt, refl, fit.5.1.1))
            (λ j ne. knows_ended r.published r.mode place r.lock g c j running_now (all_gone z.clients y place last g all fit')),
      ))
      (λ (ne : x ≢ 1). (
        table_now r.published r.mode place,
        (g, running_now, p, x_open ∙ open_running r.place g, (was.0, was.1, was.2, was.3), (λ e. absurd (ne e)), (λ _. refl)),
        counts_to s r c l vs now g running_now x y id h h' r.mode at' refl refl refl refl refl (subst (InMode z.clients y place last) (sym running_now) (y_is, (omega arith), parts, fit'))
            (subst (Knows z.shards z.start r.published r.mode place r.lock c seen) (sym (others_end u x ne)) (subst NotTaken (sym (put_here r.place c (finished l vs))) tt))
            (λ j ne seen st ok. ok),
      )) in (
        h' ∷ [],
        keeps,
        tt,
        subst (λ (i : ℕ). Comes held_by nodes_of (IsFinish c x) z (now_of held_by nodes_of z s r) (record { words = set s.words i y; homes = s.homes; views = set s.views id (h' ∷ []) })) (sym is) rule,
        λ c' z' seen' u' mid'. let e = sym mid ∙ mid' in let u_is : u ≡ u' = ap (λ w. launched_in u (own w).stage) e in (
          (λ i. seat_state (own (e i)).client (own (e i)).opening (own (e i)).seen (own (e i)).lock (stage_after_finish (u_is i) x) ∷ []),
          refl,
          low,
          let few = few_open r.place g in subst (λ (v : Launched). x ≤ length v.group) u_is (omega arith),
        ),
      )
    where
      in_it : (s : TableState held_by nodes_of) (r : Rule held_by nodes_of z s) (c l : ℕ) (vs : List Version) → r.place c ≡ inserted l vs → (last : ℕ) (g : List MemberVersions) → IsLaunched z.clients (get_or s.words (z.shards + 1) 0) r.place last g → (p : MemberVersions) × In p g × (p.member ≡ c)
      in_it s r c l vs now last g fit = ⊎_elim (λ (t : (p : MemberVersions) × In p g × (p.member ≡ c)). t) (λ (t : Apart c g). absurd (subst IsOpen (sym now ∙ fit.3 c t) tt)) (member_or c g)

      all_gone : (n word : ℕ) (place : ℕ → Place) (last : ℕ) (g : List MemberVersions) → AllFinished place (end_of last g) g → IsLaunched n word place last g → (i : ℕ) → IsGone (place i)
      all_gone n word place last g all fit i = all_done n word place last g all fit i

  pub counts : (slots id : ℕ) (me : SeatNow ShardTree NodeList) (c k : ℕ) (seen : List (List MemberVersions)) (u : Launched) → k ≡ z.shards + 1 → IsAt c z seen Free (Stored u) me → Allows (Rule held_by nodes_of z) slots id me k (λ n. (n + (2 ^ 64 - 1)) % 2 ^ 64) (after_count (step slots k 1 0 none) me)
  counts slots id me c k seen u is mid = allows held_by nodes_of (IsFinish c) z slots id me k (λ n. (n + (2 ^ 64 - 1)) % 2 ^ 64) (after_count (step slots k 1 0 none) me) (counts_is slots id me c k seen u is mid)

  -- a place at which nothing is under way is as one that is `out`
  row_out : (words : List ℕ) (homes : Homes held_by nodes_of) (i : ℕ) (p : Place) → IsGone p → InPlace held_by nodes_of z.shards words homes i p → InPlace held_by nodes_of z.shards words homes i out
  row_out words homes i p gone ok = ⊎_elim
      (λ (t : p ≡ out). subst (InPlace held_by nodes_of z.shards words homes i) t ok)
      (λ (t : (l : ℕ) × (vs : List Version) × (p ≡ finished l vs)). let o = subst (InPlace held_by nodes_of z.shards words homes i) t.2 ok in (o.0, o.1))
      gone

  knows_published : (published : List (List MemberVersions)) (mode : Mode) (place : ℕ → Place) (lock : ℕ → ShardState) (g : List MemberVersions) (c k : ℕ) → k ≢ c → mode ≡ ended c g → ((i : ℕ) → IsGone (place i)) → (seen : List (List MemberVersions)) (st : Stage)
      → Knows z.shards z.start published mode place lock k seen st → Knows z.shards z.start (published ++ g ∷ []) still (λ _. out) lock k seen st
  knows_published published mode place lock g c k ne is gone seen Idle ok = tt
  knows_published published mode place lock g c k ne is gone seen (Waiting u) ok = absurd (gone_coming (place k) (gone k) ok.0)
  knows_published published mode place lock g c k ne is gone seen (Holding w) ok = absurd (gone_open (place k) (gone k) (subst IsOpen (sym ok.0) tt))
  knows_published published mode place lock g c k ne is gone seen (Stored u) ok = absurd (gone_open (place k) (gone k) (subst IsOpen (sym ok.0.1) tt))
  knows_published published mode place lock g c k ne is gone seen (Publishing u) ok = absurd (ne (sym (ended_one c k g u.group (sym is ∙ ok.1)).0))
  knows_published published mode place lock g c k ne is gone seen Resting ok = let bad : ended c g ≡ still = sym is ∙ ok.1 in absurd (cc)
  knows_published published mode place lock g c k ne is gone seen (Handing h []) ok = (
    ok.0,
    ⊎_elim
        (λ (t : (mode ≡ running h) × (published ≡ seen)). let bad : ended c g ≡ running h = sym is ∙ t.0 in absurd (cc))
        (λ (t : ((m : ℕ) × (mode ≡ ended m h) × (published ≡ seen)) ⊎ ((mode ≡ still) × (published ≡ seen ++ h ∷ []))). ⊎_elim
        (λ (u : (m : ℕ) × (mode ≡ ended m h) × (published ≡ seen)). let e = (ended_one c u.0 g h (sym is ∙ u.1)).1 in inr (inr (refl, λ i. u.2 i ++ e i ∷ [])))
        (λ (u : (mode ≡ still) × (published ≡ seen ++ h ∷ [])). let bad : ended c g ≡ still = sym is ∙ u.0 in absurd (cc)) t)
        ok.1,
  )
  knows_published published mode place lock g c k ne is gone seen (Handing h (p ∷ ps)) ok = absurd (gone_open (place p.member) (gone p.member) (subst IsOpen (sym ok.3.0) tt))
  knows_published published mode place lock g c k ne is gone seen (Filling h p ps) ok = absurd (gone_open (place p.member) (gone p.member) (subst IsOpen (sym ok.3) tt))

  -- the store of LAST
  pub publishes_is : (slots id : ℕ) (me : SeatNow ShardTree NodeList) (c k : ℕ) (seen : List (List MemberVersions)) (u : Launched) (l : ℕ) → l ≡ u.last → k ≡ z.shards → IsAt c z seen Free (Publishing u) me → StepIs held_by nodes_of (λ _. IsPublish c) z slots id me k (λ _. l) (λ _. after_publish (step slots k l 0 none) me l)
  publishes_is slots id me c k seen u l l_is is mid s r long at fits =
      let h : SeatState = seat_state c z seen Free (Publishing u) in
      let at' : get_elem? s.views id ≡ some (h ∷ []) = at ∙ ap some mid in
      let fit = (r.seats id (h ∷ []) at').0 in
      let g : List MemberVersions = u.group in
      let mode_was : r.mode ≡ ended c g = fit.5.1 in
      let before_is : r.published ≡ u.before = fit.5.2.0 in
      let last : ℕ = last_of z.start r.published in
      let ok = subst (InMode z.clients (get_or s.words (z.shards + 1) 0) r.place last) mode_was r.mode_is in
      let all : (i : ℕ) → IsGone (r.place i) = all_done z.clients (get_or s.words (z.shards + 1) 0) r.place last g ok.1 ok.2 in
      let now : List (List MemberVersions) = r.published ++ g ∷ [] in
      let h' : SeatState = seat_state c z (u.before ++ g ∷ []) Free Idle in
      let now_is : now ≡ u.before ++ g ∷ [] = ap (λ (b : List (List MemberVersions)). b ++ g ∷ []) before_is in
      let ws : List ℕ = set s.words z.shards l in
      let w : (i : ℕ) → i ≢ z.shards → get_or ws i 0 ≡ get_or s.words i 0 = λ i ne. get_or-set_other s.words z.shards i l 0 (λ e. ne (omega arith)) in
      let wide : length s.words ≡ z.shards + 2 + z.clients = r.wide in
      let parts = versions_snoc r.published g in
      let grown : standing z.base now ≡ standing z.base r.published ++ versions_in g = ap (λ l. z.base ++ l) parts ∙ sym (append_assoc z.base (versions_of r.published) (versions_in g)) in
      let runs_now : Runs z.start (versions_of now) = subst (Runs z.start) (sym parts) (runs_append z.start (versions_of r.published) (versions_in g) r.runs ok.2.0) in
      let some_now : AreSome now = some_snoc r.published g r.some_each ok.2.1 in
      let rule : IsNow held_by nodes_of z (table_now now still (λ _. out)) (record { words = ws; homes = s.homes; views = set s.views id (h' ∷ []) }) = moved held_by nodes_of z s r id ws s.homes h h' now still (λ _. out) r.lock record {
        sits = at';
        same_client = refl;
        same_opening = refl;
        wide = length-set s.words z.shards l;
        many = refl;
        last_is = get_or-set_same s.words z.shards l 0 (omega arith) ∙ (l_is ∙ fit.5.2.1 ∙ sym (last_snoc z.start r.published g));
        runs = runs_now;
        some_each = some_now;
        shards_are = λ i lt o. shard_stays held_by nodes_of s.words ws s.homes s.homes z.shards i (w i (λ e. omega arith)) refl (r.lock i) o;
        rows = λ i lo _ o. row_out ws s.homes i (r.place i) (all i) (place_stays held_by nodes_of s.words ws s.homes s.homes z.shards i (w (z.shards + 1 + i) (λ e. omega arith)) refl (r.place i) o);
        mode_is = (w (z.shards + 1) (λ e. omega arith) ∙ ok.0, λ _. refl);
        sound = λ j v lt h. let o = r.sound j v lt h in (
          o.0,
          inl (subst (In v) (sym grown) (⊎_elim
              (λ (a : In v (standing z.base r.published)). in_left v (standing z.base r.published) (versions_in g) a)
              (λ (b : (i : ℕ) × In v (stored_in (r.place i))). in_right v (standing z.base r.published) (versions_in g) (stored_group z.clients (get_or s.words (z.shards + 1) 0) r.place last g (finished_parts r.place (end_of last g) g ok.1) ok.2 b.0 v b.1))
              o.1)),
        );
        complete = λ v h. ⊎_elim
            (λ (a : In v (standing z.base r.published)). r.complete v a)
            (λ (b : In v (versions_in g)). let p = in_group g v b in r.stored p.0.member v (subst (λ (x : Place). In v (stored_in x)) (sym (finished_at r.place (end_of last g) g p.0 ok.1 p.1)) p.2))
            (in_split v (standing z.base r.published) (versions_in g) (subst (In v) grown h));
        stored = λ i v h. absurd h;
        seen = subst (λ (b : List (List MemberVersions)). Begins b now) now_is (begins_same now);
        grows = (g ∷ [], refl);
        knows_lock = tt;
        knows = tt;
        others_lock = λ j _ x. keys_stay held_by nodes_of z r.published now r.mode still r.place (λ _. out) r.lock j x;
        others = λ j ne. knows_published r.published r.mode r.place r.lock g c j ne mode_was all;
      } in (
        h' ∷ [],
        keeps,
        tt,
        (table_now now still (λ _. out), (g, mode_was, refl, refl, λ _. refl), subst (λ (i : ℕ). IsNow held_by nodes_of z (table_now now still (λ _. out)) (record { words = set s.words i l; homes = s.homes; views = set s.views id (h' ∷ []) })) (sym is) rule),
        λ c' z' seen' u' mid'.
            let e = sym mid ∙ mid' in
            let u_is : u ≡ u' = ap (λ w. launched_in u (own w).stage) e in
            let seen_is : seen ≡ seen' = ap (λ w. (own w).seen) e in
            let z_is : z ≡ z' = ap (λ w. (own w).opening) e in
            let history : IsHistory z.start (u.before ++ g ∷ []) = subst (IsHistory z.start) now_is (runs_now, some_now) in (
              (λ i. seat_state (own (e i)).client (own (e i)).opening ((u_is i).before ++ (u_is i).group ∷ []) (own (e i)).lock Idle ∷ []),
              subst (λ (y : List (List MemberVersions) × List (List MemberVersions)). Begins y.0 y.1) (λ i. (seen_is i, (u_is i).before)) (subst (Begins seen) before_is fit.3),
              subst (λ (y : ℕ × List (List MemberVersions)). IsHistory y.0 y.1) (λ i. ((z_is i).start, (u_is i).before ++ (u_is i).group ∷ [])) history,
              refl,
            ),
      )

  pub publishes_all : (slots id : ℕ) (me : SeatNow ShardTree NodeList) (c k : ℕ) (seen : List (List MemberVersions)) (u : Launched) (l : ℕ) → l ≡ u.last → k ≡ z.shards → IsAt c z seen Free (Publishing u) me → Allows (Rule held_by nodes_of z) slots id me k (λ _. l) (λ _. after_publish (step slots k l 0 none) me l)
  publishes_all slots id me c k seen u l l_is is mid = allows held_by nodes_of (λ _. IsPublish c) z slots id me k (λ _. l) (λ _. after_publish (step slots k l 0 none) me l) (publishes_is slots id me c k seen u l l_is is mid)
