-- The steps of a client that launches a group, and waits for it.
use Rattle.std.proofs.Common.{◌≡◌, ◌≢◌, ℕ, ◌+◌, ◌<◌, ◌⊎◌, List, [], ◌∷◌, ◌++◌, length, get_or, set, refl, sym, ap, ◌∙◌, subst, inl, ⊎_elim, Bool, true, false, ◌||◌, ◌==◌, if◌then◌else◌, arith, append-nil, length-set, get_or-set_other, get_or-set_same}
use mathlib.Core.Option.{none, some}
use lib.ListN.{get_elem?}
use Rattle.atomic_table.specs.Table.{step, keeps, Allows}
use Rattle.table_rule.specs.declared.content.Version.{Version}
use Rattle.table_rule.specs.declared.content.MemberVersions.{MemberVersions}
use Rattle.table_rule.specs.declared.view.Opening.{Opening}
use Rattle.table_rule.specs.declared.view.SeatState.{SeatState}
use Rattle.table_rule.specs.declared.view.Launched.{Launched}
use Rattle.table_rule.specs.declared.view.Lock.TheVariants.{Free}
use Rattle.table_rule.specs.declared.view.Stage.{Stage}
use Rattle.table_rule.specs.declared.view.Stage.TheVariants.{Idle, Waiting, Holding, Stored, Publishing, Resting, Handing, Filling}
use Rattle.table_rule.specs.Histories.{In, versions_in, standing, Runs, last_of, Apart, Members}
use Rattle.table_rule.specs.Rule.{Place, out, coming, ShardState, Mode, still, running, ended, stored_in, NotTaken, IsComing, AllComing, end_of, IsRunning, InMode, Knows, seat_state, InPlace}
use Rattle.table_rule.specs.Steps.{SeatNow, IsAt, IsWithTurn, launched_behind}
use Rattle.table_rule.proofs.Histories.{begins_same, last_snoc}
use Rattle.table_rule.proofs.Parts.{IsOpen}
use Rattle.table_rule.proofs.Moves.{TableState, Homes, shard_stays, place_stays, moved, all_moved, Goes, unmoved, same_now, allows}
use Rattle.table_rule.specs.Events.{table_now, progress_of, to_insert, IsMember, Stays, IsLaunch, now_of, IsNow, StepIs}
use Rattle.table_rule.specs.Steps.{after_launch, after_await, has_part, stage_after_launch}
use Rattle.std.proofs.lemmas.Bool.{eq-eqb, ne_eqb}
use Rattle.table_rule.proofs.Locks.{one, own, loaded, Rule}
use Rattle.table_rule.proofs.Parts.{placed, placed_out, placed_is, placed_coming, coming_at, coming_parts, coming_open}
use Rattle.table_rule.proofs.Histories.{member_or}
use Rattle.table_rule.proofs.Handing.{keys_stay}

-- `has_part` answers whether the client is a member of the group
has_member : (c : ℕ) (g : List MemberVersions) → IsMember c g → has_part c g ≡ true
has_member c [] is = absurd is.1
has_member c (q ∷ qs) is = ⊎_elim
    (λ (t : q ≡ is.0). ap (λ b. b || has_part c qs) (eq-eqb q.member c (ap (λ (x : MemberVersions). x.member) t ∙ is.2)))
    (λ (t : In is.0 qs). ap (λ b. (q.member == c) || b) (has_member c qs (is.0, t, is.2)) ∙ or_true (q.member == c))
    is.1
  where
    or_true : (b : Bool) → (b || true) ≡ true
    or_true true = refl
    or_true false = refl

has_none : (c : ℕ) (g : List MemberVersions) → Apart c g → has_part c g ≡ false
has_none c [] a = refl
has_none c (q ∷ qs) a = ap (λ b. b || has_part c qs) (ne_eqb q.member c a.0) ∙ has_none c qs a.1

pub launched_own : (c : ℕ) (u : Launched) → IsMember c u.group → stage_after_launch c u ≡ Waiting u
launched_own c u is = ap (λ b. if b then Waiting u else Idle) (has_member c u.group is)

pub launched_other : (c : ℕ) (u : Launched) → Apart c u.group → stage_after_launch c u ≡ Idle
launched_other c u a = ap (λ b. if b then Waiting u else Idle) (has_none c u.group a)

module _ {ShardTree NodeList : Type 0} (held_by : ShardTree → List Version) (nodes_of : NodeList → List Version) (z : Opening) where
  -- the view of a client and of the turn, when the group g is launched
  begun : List MemberVersions → List SeatState → List SeatState
  begun g [] = []
  begun g (h ∷ []) = []
  begun g (h ∷ t ∷ ts) = seat_state h.client h.opening h.seen h.lock (stage_after_launch h.client (launched_behind t.opening.start t.seen g)) ∷ seat_state t.client t.opening t.seen t.lock (Handing g g) ∷ []

  -- with no group launched before: what the clients know stays true when the turn launches one
  knows_launched : (published : List (List MemberVersions)) (place place' : ℕ → Place) (lock : ℕ → ShardState) (g : List MemberVersions) (mode : Mode) (k : ℕ) → k ≢ 0 → mode ≡ still → ((i : ℕ) → place i ≡ out) → ((i : ℕ) → NotTaken (place' i)) → (seen : List (List MemberVersions)) (st : Stage)
      → Knows z.shards z.start published mode place lock k seen st → Knows z.shards z.start published (running g) place' lock k seen st
  knows_launched published place place' lock g mode k ne is nobody free seen Idle ok = free k
  knows_launched published place place' lock g mode k ne is nobody free seen (Waiting u) ok = absurd (subst IsComing (nobody k) ok.0)
  knows_launched published place place' lock g mode k ne is nobody free seen (Holding w) ok = absurd (subst IsOpen (sym ok.0 ∙ nobody k) tt)
  knows_launched published place place' lock g mode k ne is nobody free seen (Stored u) ok = absurd (subst IsOpen (sym ok.0.1 ∙ nobody k) tt)
  knows_launched published place place' lock g mode k ne is nobody free seen (Publishing u) ok = let bad : still ≡ ended k u.group = sym is ∙ ok.1 in absurd (cc)
  knows_launched published place place' lock g mode k ne is nobody free seen Resting ok = absurd (ne ok.0)
  knows_launched published place place' lock g mode k ne is nobody free seen (Handing h []) ok = absurd (ne ok.0)
  knows_launched published place place' lock g mode k ne is nobody free seen (Handing h (p ∷ ps)) ok = absurd (ne ok.0)
  knows_launched published place place' lock g mode k ne is nobody free seen (Filling h p ps) ok = absurd (ne ok.0)

  -- what the launching client knows, with a part of its own or without
  knows_own : (published : List (List MemberVersions)) (place : ℕ → Place) (lock : ℕ → ShardState) (g : List MemberVersions) (seen : List (List MemberVersions)) (c : ℕ) (u : Launched) → ((p : MemberVersions) → In p g → p.member ≡ c → IsComing (place c)) → NotTaken (place c)
      → u.group ≡ g → IsRunning z.shards z.start published (running g) place lock c u → Knows z.shards z.start published (running g) place lock c seen (stage_after_launch c u)
  knows_own published place lock g seen c u mine free same runs = ⊎_elim
      (λ (t : IsMember c u.group). subst (Knows z.shards z.start published (running g) place lock c seen) (sym (launched_own c u t)) (mine t.0 (subst (In t.0) same t.1) t.2, runs))
      (λ (t : Apart c u.group). subst (Knows z.shards z.start published (running g) place lock c seen) (sym (launched_other c u t)) free)
      (member_or c u.group)

  -- the store of RUNNING, by a client that has the turn
  pub launches_is : (slots id : ℕ) (me : SeatNow ShardTree NodeList) (c k x : ℕ) (own_seen seen : List (List MemberVersions)) (g : List MemberVersions) → k ≡ z.shards + 1 → x ≡ length g → 0 < c → IsWithTurn c z own_seen Idle seen Resting me
      → Runs (last_of z.start seen) (versions_in g) → 0 < length (versions_in g) → Members z.clients g → StepIs held_by nodes_of (λ _. IsLaunch g) z slots id me k (λ _. x) (λ _. after_launch g (step slots k x 0 none) me x)
  unfolding begun
  launches_is slots id me c k x own_seen seen g is count low mid run nonempty members s r long at fits =
      let h : SeatState = seat_state c z own_seen Free Idle in
      let t : SeatState = seat_state 0 z seen Free Resting in
      let at' : get_elem? s.views id ≡ some (h ∷ t ∷ []) = at ∙ ap some mid in
      let fits = r.seats id (h ∷ t ∷ []) at' in
      let own_fit = fits.0 in
      let fit = fits.1.0 in
      let last : ℕ = last_of z.start r.published in
      let end : ℕ = end_of last g in
      let ok = subst (InMode z.clients (get_or s.words (z.shards + 1) 0) r.place last) fit.5.1 r.mode_is in
      let place : ℕ → Place = placed end g in
      let come : AllComing place end g = placed_coming z.clients end g members in
      let u : Launched = launched_behind z.start seen g in
      let h' : SeatState = seat_state c z own_seen Free (stage_after_launch c u) in
      let t' : SeatState = seat_state 0 z seen Free (Handing g g) in
      let ws : List ℕ = set s.words (z.shards + 1) x in
      let w : (i : ℕ) → i ≢ z.shards + 1 → get_or ws i 0 ≡ get_or s.words i 0 = λ i ne. get_or-set_other s.words (z.shards + 1) i x 0 (λ e. ne (omega arith)) in
      let wide : length s.words ≡ z.shards + 2 + z.clients = r.wide in
      let run' : Runs last (versions_in g) = subst (λ (l : List (List MemberVersions)). Runs (last_of z.start l) (versions_in g)) (sym fit.5.2) run in
      let nothing : (i : ℕ) (v : Version) → In v (stored_in (r.place i)) → ⊥ = λ i v h. subst (λ (p : Place). In v (stored_in p)) (ok.1 i) h in
      let waits : Knows z.shards z.start r.published (running g) place r.lock c own_seen (stage_after_launch c u) = knows_own r.published place r.lock g own_seen c u
      (λ p there is. subst (λ (i : ℕ). IsComing (place i)) is (subst IsComing (sym (coming_at place end g p come there)) tt))
      (free_in end (place c) (placed_is end g c)) refl (refl, (fit.5.2, ap (λ (b : List (List MemberVersions)). end_of (last_of z.start b) g) (sym fit.5.2))) in
      let rule : IsNow held_by nodes_of z (table_now r.published (running g) place) (record { words = ws; homes = s.homes; views = set s.views id (h' ∷ t' ∷ []) }) = all_moved held_by nodes_of z s r id ws s.homes (h ∷ t ∷ []) (h' ∷ t' ∷ []) r.published (running g) place r.lock record {
        sits = at';
        wide = length-set s.words (z.shards + 1) x;
        many = refl;
        last_is = w z.shards (λ e. omega arith) ∙ r.last_is;
        runs = r.runs;
        some_each = r.some_each;
        shards_are = λ i lt o. shard_stays held_by nodes_of s.words ws s.homes s.homes z.shards i (w i (λ e. omega arith)) refl (r.lock i) o;
        rows = λ i lo _ o. row_in ws s.homes i end (place i) (placed_is end g i) (subst (InPlace held_by nodes_of z.shards ws s.homes i) (ok.1 i) (place_stays held_by nodes_of s.words ws s.homes s.homes z.shards i (w (z.shards + 1 + i) (λ e. omega arith)) refl (r.place i) o));
        mode_is = (get_or-set_same s.words (z.shards + 1) x 0 (omega arith) ∙ (count ∙ sym (coming_open place end g come)), subst (λ (i : ℕ). 0 < i) (sym (get_or-set_same s.words (z.shards + 1) x 0 (omega arith) ∙ count)) (some_part g nonempty), coming_parts place end g come, (run', nonempty, members, placed_out end g));
        sound = λ j v lt h. let o = r.sound j v lt h in (o.0, ⊎_elim (λ (a : In v (standing z.base r.published)). inl a) (λ (b : (i : ℕ) × In v (stored_in (r.place i))). absurd (nothing b.0 v b.1)) o.1);
        complete = r.complete;
        stored = λ i v h. absurd (none_in end (place i) (placed_is end g i) v h);
        grows = begins_same r.published;
        fit = (
          (own_fit.0, own_fit.1, own_fit.2, own_fit.3, tt, waits),
          ((fit.0, fit.1, fit.2, fit.3, tt, starts g g come refl fit.5.2), tt),
        );
        others_lock = λ j _ x. keys_stay held_by nodes_of z r.published r.published r.mode (running g) r.place place r.lock j x;
        others = λ j ne. knows_launched r.published r.place place r.lock g r.mode j (λ e. ne (ap r.seat e ∙ fit.0)) fit.5.1 ok.1 (λ i. free_in end (place i) (placed_is end g i));
      } in (
        h' ∷ t' ∷ [],
        keeps,
        tt,
        (table_now r.published (running g) place, (fit.5.1, refl, refl, λ i. ahead_in end (place i) (placed_is end g i)), subst (λ (i : ℕ). IsNow held_by nodes_of z (table_now r.published (running g) place) (record { words = set s.words i x; homes = s.homes; views = set s.views id (h' ∷ t' ∷ []) })) (sym is) rule),
        λ c' z' own' seen' mid'. (ap (begun g) (sym mid ∙ mid'), refl),
      )
    where
      some_part : (g : List MemberVersions) → 0 < length (versions_in g) → 0 < length g
      some_part [] lo = absurd (omega arith)
      some_part (p ∷ ps) lo = omega arith

      starts : (h ps : List MemberVersions) → AllComing (placed (end_of (last_of z.start r.published) g) g) (end_of (last_of z.start r.published) h) ps → h ≡ g → r.published ≡ seen → Knows z.shards z.start r.published (running g) (placed (end_of (last_of z.start r.published) g) g) r.lock 0 seen (Handing h ps)
      starts h [] come e same = (refl, inl (ap running (sym e), same))
      starts h (p ∷ ps) come e same = (refl, ap running (sym e), same, come)

      row_in : (words : List ℕ) (homes : Homes held_by nodes_of) (i end : ℕ) (p : Place) → (p ≡ out) ⊎ ((vs : List Version) × (p ≡ coming end vs)) → InPlace held_by nodes_of z.shards words homes i out → InPlace held_by nodes_of z.shards words homes i p
      row_in words homes i end p way ok = ⊎_elim
          (λ (t : p ≡ out). subst (InPlace held_by nodes_of z.shards words homes i) (sym t) ok)
          (λ (t : (vs : List Version) × (p ≡ coming end vs)). subst (InPlace held_by nodes_of z.shards words homes i) (sym t.1) (ok.0, ok.1))
          way

      none_in : (end : ℕ) (p : Place) → (p ≡ out) ⊎ ((vs : List Version) × (p ≡ coming end vs)) → (v : Version) → In v (stored_in p) → ⊥
      none_in end p way v h = ⊎_elim
          (λ (t : p ≡ out). absurd (subst (λ (x : Place). In v (stored_in x)) t h))
          (λ (t : (vs : List Version) × (p ≡ coming end vs)). absurd (subst (λ (x : Place). In v (stored_in x)) t.1 h))
          way

      ahead_in : (end : ℕ) (p : Place) → (p ≡ out) ⊎ ((vs : List Version) × (p ≡ coming end vs)) → progress_of p ≡ to_insert
      ahead_in end p way = ⊎_elim (λ (t : p ≡ out). ap progress_of t) (λ (t : (vs : List Version) × (p ≡ coming end vs)). ap progress_of t.1) way

      free_in : (end : ℕ) (p : Place) → (p ≡ out) ⊎ ((vs : List Version) × (p ≡ coming end vs)) → NotTaken p
      free_in end p way = ⊎_elim
          (λ (t : p ≡ out). subst NotTaken (sym t) tt)
          (λ (t : (vs : List Version) × (p ≡ coming end vs)). subst NotTaken (sym t.1) tt)
          way

  pub launches : (slots id : ℕ) (me : SeatNow ShardTree NodeList) (c k x : ℕ) (own_seen seen : List (List MemberVersions)) (g : List MemberVersions) → k ≡ z.shards + 1 → x ≡ length g → 0 < c → IsWithTurn c z own_seen Idle seen Resting me
      → Runs (last_of z.start seen) (versions_in g) → 0 < length (versions_in g) → Members z.clients g → Allows (Rule held_by nodes_of z) slots id me k (λ _. x) (λ _. after_launch g (step slots k x 0 none) me x)
  launches slots id me c k x own_seen seen g is count low mid run nonempty members = allows held_by nodes_of (λ _. IsLaunch g) z slots id me k (λ _. x) (λ _. after_launch g (step slots k x 0 none) me x) (launches_is slots id me c k x own_seen seen g is count low mid run nonempty members)

  -- the turn's load of LAST
  module _ (slots id : ℕ) (me : SeatNow ShardTree NodeList) (k : ℕ) (seen : List (List MemberVersions)) (g : List MemberVersions) (is : k ≡ z.shards) (mid : IsAt 0 z seen Free (Handing g []) me)
      (s : TableState held_by nodes_of) (r : Rule held_by nodes_of z s) (at : get_elem? s.views id ≡ some me.0) where
    abbrev found : ℕ
    found = get_or s.words k 0

    found_is : found ≡ last_of z.start r.published
    found_is = ap (λ (i : ℕ). get_or s.words i 0) is ∙ r.last_is

    same_goal : (z' : Opening) (seen' : List (List MemberVersions)) (g' : List MemberVersions) → IsAt 0 z' seen' Free (Handing g' []) me → end_of (last_of z.start seen) g ≡ end_of (last_of z'.start seen') g'
    same_goal z' seen' g' mid' =
        let e = sym mid ∙ mid' in
        (λ i. end_of (last_of ((own (e i)).opening).start ((own (e i)).seen)) (group_in (own (e i)).stage))
      where
        group_in : Stage → List MemberVersions
        group_in Idle = []
        group_in (Waiting u) = []
        group_in (Holding w) = []
        group_in (Stored l) = []
        group_in (Publishing l) = []
        group_in Resting = []
        group_in (Handing g ps) = g
        group_in (Filling g p ps) = g

    waits : r.published ≡ seen → 0 < length (versions_in g) → Goes held_by nodes_of (λ _. Stays) z s (now_of held_by nodes_of z s r) k id me (after_await (step slots k 0 0 none) me) found
    waits same nonempty =
        let low : found ≡ last_of z.start seen = found_is ∙ ap (last_of z.start) same in
        let ne : found ≢ end_of (last_of z.start seen) g = λ e. omega arith in (
          me.0,
          keeps,
          tt,
          unmoved held_by nodes_of z s k id me.0 at r,
          λ z' seen' g' mid'. ((λ hit. absurd (ne (hit ∙ sym (same_goal z' seen' g' mid')))), λ _. refl),
        )

    rests_on : SeatState → SeatState
    rests_on x = seat_state x.client x.opening (x.seen ++ group x.stage ∷ []) x.lock Resting
      where
        group : Stage → List MemberVersions
        group Idle = []
        group (Waiting u) = []
        group (Holding w) = []
        group (Stored l) = []
        group (Publishing l) = []
        group Resting = []
        group (Handing g ps) = g
        group (Filling g p ps) = g

    rests : r.mode ≡ still → r.published ≡ seen ++ g ∷ [] → Goes held_by nodes_of (λ _. Stays) z s (now_of held_by nodes_of z s r) k id me (after_await (step slots k 0 0 none) me) found
    unfolding rests_on
    rests mode_was same =
        let h : SeatState = seat_state 0 z seen Free (Handing g []) in
        let at' : get_elem? s.views id ≡ some (h ∷ []) = at ∙ ap some mid in
        let h' : SeatState = seat_state 0 z (seen ++ g ∷ []) Free Resting in
        let done : found ≡ end_of (last_of z.start seen) g = found_is ∙ (ap (last_of z.start) same ∙ last_snoc z.start seen g) in (
          h' ∷ [],
          keeps,
          tt,
          (
            now_of held_by nodes_of z s r,
            same_now held_by nodes_of (now_of held_by nodes_of z s r),
            loaded held_by nodes_of z (now_of held_by nodes_of z s r) s k s.homes (set s.views id (h' ∷ [])) (moved held_by nodes_of z s r id s.words s.homes h h' r.published r.mode r.place r.lock record {
              sits = at';
              same_client = refl;
              same_opening = refl;
              wide = refl;
              many = refl;
              last_is = r.last_is;
              runs = r.runs;
              some_each = r.some_each;
              shards_are = λ j _ ok. ok;
              rows = λ i _ _ ok. ok;
              mode_is = r.mode_is;
              sound = r.sound;
              complete = r.complete;
              stored = r.stored;
              seen = ([], same ∙ sym (append-nil (seen ++ g ∷ [])));
              grows = begins_same r.published;
              knows_lock = tt;
              knows = (refl, mode_was, same);
              others_lock = λ _ _ _ ok. ok;
              others = λ _ _ _ _ ok. ok;
            }),
          ),
          λ z' seen' g' mid'. ((λ _. (ap (one rests_on) (sym mid ∙ mid'), refl)), λ ne. absurd (ne (done ∙ same_goal z' seen' g' mid'))),
        )

    awaits_all : Goes held_by nodes_of (λ _. Stays) z s (now_of held_by nodes_of z s r) k id me (after_await (step slots k 0 0 none) me) found
    awaits_all =
        let fit = (r.seats id (seat_state 0 z seen Free (Handing g []) ∷ []) (at ∙ ap some mid)).0 in
        ⊎_elim
        (λ (t : (r.mode ≡ running g) × (r.published ≡ seen)). waits t.1 (subst (InMode z.clients (get_or s.words (z.shards + 1) 0) r.place (last_of z.start r.published)) t.0 r.mode_is).3.1)
        (λ (t : ((m : ℕ) × (r.mode ≡ ended m g) × (r.published ≡ seen)) ⊎ ((r.mode ≡ still) × (r.published ≡ seen ++ g ∷ []))). ⊎_elim
        (λ (u : (m : ℕ) × (r.mode ≡ ended m g) × (r.published ≡ seen)). waits u.2 (subst (InMode z.clients (get_or s.words (z.shards + 1) 0) r.place (last_of z.start r.published)) u.1 r.mode_is).2.1)
        (λ (u : (r.mode ≡ still) × (r.published ≡ seen ++ g ∷ [])). rests u.0 u.1) t)
        fit.5.1

  pub awaits_is : (slots id : ℕ) (me : SeatNow ShardTree NodeList) (k : ℕ) (seen : List (List MemberVersions)) (g : List MemberVersions) → k ≡ z.shards → IsAt 0 z seen Free (Handing g []) me → StepIs held_by nodes_of (λ _. Stays) z slots id me k (λ y. y) (after_await (step slots k 0 0 none) me)
  awaits_is slots id me k seen g is mid s r long at fits = awaits_all slots id me k seen g is mid s r at

  pub awaits : (slots id : ℕ) (me : SeatNow ShardTree NodeList) (k : ℕ) (seen : List (List MemberVersions)) (g : List MemberVersions) → k ≡ z.shards → IsAt 0 z seen Free (Handing g []) me → Allows (Rule held_by nodes_of z) slots id me k (λ y. y) (after_await (step slots k 0 0 none) me)
  awaits slots id me k seen g is mid = allows held_by nodes_of (λ _. Stays) z slots id me k (λ y. y) (after_await (step slots k 0 0 none) me) (awaits_is slots id me k seen g is mid)
