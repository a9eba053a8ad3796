-- The load of LAST, the lock and the unlocking stores keep the rule.
use Rattle.std.proofs.Common.{◌≡◌, ◌≢◌, ℕ, ◌+◌, ◌<◌, ◌⊎◌, eqb, List, [], ◌∷◌, ◌++◌, length, get_or, set, refl, sym, ap, ◌∙◌, subst, inl, inr, ⊎_elim, arith, append_assoc, drop, length-set, get_or-set_other, get_or-set_same}
use Rattle.std.proofs.Math.Seq.{drop-append_seam}
use mathlib.Core.Option.{none, some}
use lib.ListN.{get_elem?}
use lib.Seq.{set-get_or}
use prog.Atomic.{either}
use Rattle.atomic_table.specs.Table.{step, keeps, takes, gives, stepped, Allows, put_back}
use Rattle.atomic_table.proofs.Lists.{set_here, set_else, exchanged}
use Rattle.table_rule.specs.declared.content.Version.{Version}
use Rattle.table_rule.specs.declared.content.MemberVersions.{MemberVersions}
use Rattle.table_rule.specs.declared.view.Opening.{Opening}
use Rattle.table_rule.specs.declared.view.SeatState.{SeatState}
use Rattle.table_rule.specs.declared.view.Launched.{Launched}
use Rattle.table_rule.specs.declared.content.Content.{Content}
use Rattle.table_rule.specs.declared.content.Content.TheVariants.{Tree}
use Rattle.table_rule.specs.declared.view.Lock.{Lock}
use Rattle.table_rule.specs.declared.view.Lock.TheVariants.{Free, Held}
use Rattle.table_rule.specs.declared.view.Stage.{Stage}
use Rattle.table_rule.specs.declared.view.Stage.TheVariants.{Idle, Waiting, Holding, Stored, Publishing, Resting, Handing, Filling}
use Rattle.table_rule.specs.Histories.{In, standing, last_of, shard_of, Begins, IsHistory}
use Rattle.table_rule.specs.Rule.{Place, out, coming, filling, handed, busy, inserted, finished, ShardState, opened, held, Mode, contents, stored_in, InPart, NotTaken, IsComing, end_of, InMode, KnowsLock, Knows, seat_state, InShard, InPlace, IsConsistent}
use Rattle.table_rule.specs.Steps.{SeatNow, work, Shows, AddsAll, AreOfShard, IsAt, IsFresh, after_learn, after_lock, after_unlock, after_add}
use Rattle.table_rule.specs.Steps.{IsClient}
use Rattle.table_rule.specs.Events.{TableNow, table_now, progress_of, Stays, IsRead, now_of, IsNow, StepIs}
use Rattle.table_rule.proofs.Puts.{put, put_at, put_here, put_else}
use Rattle.table_rule.proofs.Histories.{in_left, in_right, in_split, begins_same, standing_more, standing_up_to, standing_below, longer}
use Rattle.table_rule.proofs.Fresh.{fresh, rest_runs}
use Rattle.table_rule.proofs.Parts.{later, IsOpen, mode_put, coming_put}
use Rattle.table_rule.proofs.Moves.{TableState, Homes, shard_stays, place_stays, moved, Goes, unmoved, same_now, allows, progress_stays}

-- the view of one state, changed
abbrev pub one : (SeatState → SeatState) → List SeatState → List SeatState
one f [] = []
one f (h ∷ hs) = f h ∷ []

abbrev pub own : List SeatState → SeatState
own [] = seat_state 0 (record { clients = 0; shards = 0; start = 0; base = [] }) [] Free Idle
own (h ∷ hs) = h

-- the group that a client has a part of, or u
abbrev pub launched_in : Launched → Stage → Launched
launched_in u Idle = u
launched_in u (Waiting v) = v
launched_in u (Holding w) = w.launched
launched_in u (Stored v) = v
launched_in u (Publishing v) = v
launched_in u Resting = u
launched_in u (Handing g ps) = u
launched_in u (Filling g p ps) = u

pub client_knows : (k start : ℕ) (published : List (List MemberVersions)) (mode : Mode) (place : ℕ → Place) (lock : ℕ → ShardState) (c : ℕ) (seen now : List (List MemberVersions)) (st : Stage) → IsClient st → Knows k start published mode place lock c seen st → Knows k start published mode place lock c now st
client_knows k start published mode place lock c seen now Idle is ok = ok
client_knows k start published mode place lock c seen now (Waiting u) is ok = ok
client_knows k start published mode place lock c seen now (Holding w) is ok = ok
client_knows k start published mode place lock c seen now (Stored l) is ok = ok
client_knows k start published mode place lock c seen now (Publishing l) is ok = ok
client_knows k start published mode place lock c seen now Resting is ok = absurd is
client_knows k start published mode place lock c seen now (Handing g ps) is ok = absurd is
client_knows k start published mode place lock c seen now (Filling g p ps) is ok = absurd is

held_one : (c c' : ℕ) (vs ws : List Version) → held c vs ≡ held c' ws → c ≡ c'
held_one c c' vs ws e = cc

-- true except where the turn has the part's nodes
abbrev pub IsWithMember : Place → Type 0
IsWithMember out = Unit {0}
IsWithMember (coming l vs) = ⊥
IsWithMember (filling l vs) = ⊥
IsWithMember (handed l vs) = Unit {0}
IsWithMember (busy l d m) = Unit {0}
IsWithMember (inserted l vs) = Unit {0}
IsWithMember (finished l vs) = Unit {0}

module _ {ShardTree NodeList : Type 0} (held_by : ShardTree → List Version) (nodes_of : NodeList → List Version) (z : Opening) where
  abbrev pub Rule : TableState held_by nodes_of → Type 0
  Rule = IsConsistent held_by nodes_of z

  pub loaded : (now : TableNow) (s : TableState held_by nodes_of) (k : ℕ) (hs : Homes held_by nodes_of) (vs : List (List SeatState)) → IsNow held_by nodes_of z now (record { words = s.words; homes = hs; views = vs }) → IsNow held_by nodes_of z now (record { words = set s.words k (get_or s.words k 0); homes = hs; views = vs })
  loaded now s k hs vs r = subst (λ (w : List ℕ). IsNow held_by nodes_of z now (record { words = w; homes = hs; views = vs })) (sym (set-get_or s.words k 0)) r

  pub learns_is : (slots id : ℕ) (me : SeatNow ShardTree NodeList) (c k : ℕ) (seen : List (List MemberVersions)) (stage : Stage) → k ≡ z.shards → IsClient stage → IsAt c z seen Free stage me → StepIs held_by nodes_of (IsRead z.start) z slots id me k (λ y. y) (after_learn (step slots k 0 0 none) me)
  learns_is slots id me c k seen stage is client mid s r long at fits =
      let h : SeatState = seat_state c z seen Free stage in
      let at' : get_elem? s.views id ≡ some (h ∷ []) = at ∙ ap some mid in
      let fit = (r.seats id (h ∷ []) at').0 in
      let h' : SeatState = seat_state c z r.published Free stage in
      let found : get_or s.words k 0 ≡ last_of z.start r.published = ap (λ (i : ℕ). get_or s.words i 0) is ∙ r.last_is in (
        h' ∷ [],
        keeps,
        tt,
        (
          now_of held_by nodes_of z s r,
          (same_now held_by nodes_of (now_of held_by nodes_of z s r), found),
          loaded (now_of held_by nodes_of z s r) s k s.homes (set s.views id (h' ∷ [])) (moved held_by nodes_of z s r id s.words s.homes h h' r.published r.mode r.place r.lock record {
            sits = at';
            same_client = refl;
            same_opening = refl;
            wide = refl;
            many = refl;
            last_is = r.last_is;
            runs = r.runs;
            some_each = r.some_each;
            shards_are = λ j _ ok. ok;
            rows = λ i _ _ ok. ok;
            mode_is = r.mode_is;
            sound = r.sound;
            complete = r.complete;
            stored = r.stored;
            seen = begins_same r.published;
            grows = begins_same r.published;
            knows_lock = tt;
            knows = client_knows z.shards z.start r.published r.mode r.place r.lock c seen r.published stage client fit.5;
            others_lock = λ _ _ _ ok. ok;
            others = λ _ _ _ _ ok. ok;
          }),
        ),
        λ c' z' seen' stage' mid'.
            let e = sym mid ∙ mid' in
            let z_is : z ≡ z' = ap (λ l. (own l).opening) e in (
              r.published,
              ap (one (λ x. seat_state x.client x.opening r.published x.lock x.stage)) e,
              ((r.seats id _ (at ∙ ap some mid')).0).3,
              subst (λ (y : Opening). IsHistory y.start r.published) z_is (r.runs, r.some_each),
              found ∙ ap (λ (y : Opening). last_of y.start r.published) z_is,
              refl,
            ),
      )

  pub learns : (slots id : ℕ) (me : SeatNow ShardTree NodeList) (c k : ℕ) (seen : List (List MemberVersions)) (stage : Stage) → k ≡ z.shards → IsClient stage → IsAt c z seen Free stage me → Allows Rule slots id me k (λ y. y) (after_learn (step slots k 0 0 none) me)
  learns slots id me c k seen stage is client mid = allows held_by nodes_of (IsRead z.start) z slots id me k (λ y. y) (after_learn (step slots k 0 0 none) me) (learns_is slots id me c k seen stage is client mid)

  -- a shard's tree shows what a seat has seen
  pub shows : (s : TableState held_by nodes_of) (r : Rule s) (j : ℕ) (seen : List (List MemberVersions)) (vs : List Version) → j < z.shards → Begins seen r.published → contents (r.lock j) ≡ vs → Shows z j seen vs
  shows s r j seen vs lt begins is = (
    (λ v h. (r.sound j v lt (subst (In v) (sym is) h)).0),
    (λ v h e. subst (In v) is (subst (λ (i : ℕ). In v (contents (r.lock i))) e (r.complete v (standing_more z.base seen r.published v begins h)))),
    (λ v h low. ⊎_elim
        (λ (t : In v (standing z.base r.published)). standing_up_to z.base z.start seen r.published v r.runs begins t low)
        (λ (t : (i : ℕ) × In v (stored_in (r.place i))).
        let a = later z.clients (get_or s.words (z.shards + 1) 0) r.place (last_of z.start r.published) r.mode r.mode_is t.0 v t.1 in
        let b = longer seen r.published begins in
        absurd (omega arith))
        (r.sound j v lt (subst (In v) (sym is) h)).1),
    r.base_is,
  )

  door_open : (words : List ℕ) (homes : Homes held_by nodes_of) (j : ℕ) (d : ShardState) → InShard held_by nodes_of z.shards words homes j d → get_or words j 0 ≡ 0 → (t : ShardTree) × (d ≡ opened (held_by t)) × (get_elem? homes j ≡ some (some (Tree t)))
  door_open words homes j (opened vs) ok e = (ok.1.0, ap opened (sym ok.1.2), ok.1.1)
  door_open words homes j (held c vs) ok e = let one_now = ok.0 in absurd (omega arith)

  same_contents : (lock : ℕ → ShardState) (j : ℕ) (d : ShardState) → contents d ≡ contents (lock j) → (i : ℕ) → contents (put lock j d i) ≡ contents (lock i)
  same_contents lock j d e i = put_at lock j d (λ i x. contents x ≡ contents (lock i)) i (λ is. e ∙ ap (λ k. contents (lock k)) (sym is)) (λ _. refl)

  module _ (slots id : ℕ) (me : SeatNow ShardTree NodeList) (c j : ℕ) (seen : List (List MemberVersions)) (stage : Stage) (lt : j < z.shards) (mid : IsAt c z seen Free stage me)
      (s : TableState held_by nodes_of) (r : Rule s) (at : get_elem? s.views id ≡ some me.0) where
    locks_hit : get_or s.words j 0 ≡ 0 → Goes held_by nodes_of (λ _. Stays) z s (now_of held_by nodes_of z s r) j id me (after_lock held_by (step slots j 0 1 none) me) 1
    locks_hit zero_now =
        let h : SeatState = seat_state c z seen Free stage in
        let at' : get_elem? s.views id ≡ some (h ∷ []) = at ∙ ap some mid in
        let fit = (r.seats id (h ∷ []) at').0 in
        let d = door_open s.words s.homes j (r.lock j) (r.shards_are j lt) zero_now in
        let vs : List Version = held_by d.0 in
        let h' : SeatState = seat_state c z seen (Held j vs) stage in
        let state : ShardState = held c vs in
        let ws : List ℕ = set s.words j 1 in
        let hs = set s.homes j none in
        let lock = put r.lock j state in
        let w : (i : ℕ) → i ≢ j → get_or ws i 0 ≡ get_or s.words i 0 = λ i ne. get_or-set_other s.words j i 1 0 (λ e. ne (omega arith)) in
        let wide : length s.words ≡ z.shards + 2 + z.clients = r.wide in
        let many : length s.homes ≡ z.shards + 1 + z.clients = r.many in
        let contained : (i : ℕ) → contents (lock i) ≡ contents (r.lock i) = same_contents r.lock j state (ap contents (sym d.1)) in (
          h' ∷ [],
          takes j (Tree d.0),
          d.2,
          (
            now_of held_by nodes_of z s r,
            same_now held_by nodes_of (now_of held_by nodes_of z s r),
            moved held_by nodes_of z s r id ws hs h h' r.published r.mode r.place lock record {
              sits = at';
              same_client = refl;
              same_opening = refl;
              wide = length-set s.words j 1;
              many = length-set s.homes j none;
              last_is = w z.shards (λ e. omega arith) ∙ r.last_is;
              runs = r.runs;
              some_each = r.some_each;
              shards_are = λ i _ ok. put_at r.lock j state (λ i x. InShard held_by nodes_of z.shards s.words s.homes i (r.lock i) → InShard held_by nodes_of z.shards ws hs i x) i
                  (λ is _. (ap (λ (k : ℕ). get_or ws k 0) is ∙ get_or-set_same s.words j 1 0 (omega arith), ap (λ (k : ℕ). get_elem? hs k) is ∙ set_here s.homes j none (omega arith)))
                  (λ ne was. shard_stays held_by nodes_of s.words ws s.homes hs z.shards i (w i ne) (set_else s.homes j i none ne) (r.lock i) was) ok;
              rows = λ i lo _ ok. place_stays held_by nodes_of s.words ws s.homes hs z.shards i (w (z.shards + 1 + i) (λ e. omega arith)) (set_else s.homes j (z.shards + i) none (λ e. omega arith)) (r.place i) ok;
              mode_is = subst (λ (x : ℕ). InMode z.clients x r.place (last_of z.start r.published) r.mode) (sym (w (z.shards + 1) (λ e. omega arith))) r.mode_is;
              sound = λ i v lt' h. r.sound i v lt' (subst (In v) (contained i) h);
              complete = λ v h. subst (In v) (sym (contained (shard_of z.shards v))) (r.complete v h);
              stored = λ i v h. subst (In v) (sym (contained (shard_of z.shards v))) (r.stored i v h);
              seen = fit.3;
              grows = begins_same r.published;
              knows_lock = (lt, put_here r.lock j state);
              knows = fit.5;
              others_lock = λ k ne x. still_locked k ne d x;
              others = λ _ _ _ _ ok. ok;
            },
          ),
          λ c' z' seen' stage' mid'.
              let e = sym mid ∙ mid' in
              let z_is : z ≡ z' = ap (λ l. (own l).opening) e in (
                (λ _. (d.0, ap (one (λ x. seat_state x.client x.opening x.seen (Held j vs) x.stage)) e, refl, subst (λ (y : Opening). Shows y j seen' vs) z_is (shows s r j seen' vs lt ((r.seats id _ (at ∙ ap some mid')).0).3 (ap contents d.1)), new_ones c' seen' stage' vs ((r.seats id _ (at ∙ ap some mid')).0).5 lt (ap contents d.1))),
                λ ne. absurd (ne zero_now),
              ),
        )
      where
        new_ones : (k : ℕ) (now : List (List MemberVersions)) (st : Stage) (vs : List Version) → Knows z.shards z.start r.published r.mode r.place r.lock k now st → j < z.shards → contents (r.lock j) ≡ vs → IsFresh st vs
        new_ones k now Idle vs ok lt is = tt
        new_ones k now (Waiting u) vs ok lt is = tt
        new_ones k now (Holding w) vs ok lt is = (
          (λ v x hv hx e.
              let f = fresh z.clients (get_or s.words (z.shards + 1) 0) r.place (last_of z.start r.published) k w.launched.last w.done w.rest ok.0 r.mode r.mode_is v hv in
              ⊎_elim (λ (t : In x (standing z.base r.published)). let a = standing_below z.base z.start r.published x r.base_is r.runs t in let b = f.0 in absurd (omega arith))
              (λ (t : (i : ℕ) × In x (stored_in (r.place i))). f.1 t.0 x t.1 e)
              (r.sound j x lt (subst (In x) (sym is) hx)).1),
          rest_runs z.clients (get_or s.words (z.shards + 1) 0) r.place (last_of z.start r.published) k w.launched.last w.done w.rest ok.0 r.mode r.mode_is,
        )
        new_ones k now (Stored l) vs ok lt is = tt
        new_ones k now (Publishing l) vs ok lt is = tt
        new_ones k now Resting vs ok lt is = tt
        new_ones k now (Handing g ps) vs ok lt is = tt
        new_ones k now (Filling g p ps) vs ok lt is = tt

        still_locked : (k : ℕ) → k ≢ c → (d : (t : ShardTree) × (r.lock j ≡ opened (held_by t)) × (get_elem? s.homes j ≡ some (some (Tree t)))) → (x : Lock) → KnowsLock z.shards z.start r.published r.mode r.place r.lock k x → KnowsLock z.shards z.start r.published r.mode r.place (put r.lock j (held c (held_by d.0))) k x
        still_locked k ne d Free ok = ok
        still_locked k ne d (Held i vs) ok = (ok.0, put_at r.lock j (held c (held_by d.0)) (λ i x. r.lock i ≡ held k vs → x ≡ held k vs) i (λ is was. let bad : opened (held_by d.0) ≡ held k vs = sym d.1 ∙ (ap r.lock (sym is) ∙ was) in absurd (cc)) (λ _ was. was) ok.1)

  pub locks_is : (slots id : ℕ) (me : SeatNow ShardTree NodeList) (c j : ℕ) (seen : List (List MemberVersions)) (stage : Stage) → j < z.shards → IsAt c z seen Free stage me → StepIs held_by nodes_of (λ _. Stays) z slots id me j (λ y. either (eqb y 0) 1 y) (after_lock held_by (step slots j 0 1 none) me)
  locks_is slots id me c j seen stage lt mid s r long at fits = exchanged (get_or s.words j 0) 0 1 (Goes held_by nodes_of (λ _. Stays) z s (now_of held_by nodes_of z s r) j id me (after_lock held_by (step slots j 0 1 none) me))
      (locks_hit slots id me c j seen stage lt mid s r at)
      (λ miss. (me.0, keeps, tt, unmoved held_by nodes_of z s j id me.0 at r, λ _ _ _ _ _. ((λ hit. absurd (miss hit)), λ _. refl)))

  pub locks : (slots id : ℕ) (me : SeatNow ShardTree NodeList) (c j : ℕ) (seen : List (List MemberVersions)) (stage : Stage) → j < z.shards → IsAt c z seen Free stage me → Allows Rule slots id me j (λ y. either (eqb y 0) 1 y) (after_lock held_by (step slots j 0 1 none) me)
  locks slots id me c j seen stage lt mid = allows held_by nodes_of (λ _. Stays) z slots id me j (λ y. either (eqb y 0) 1 y) (after_lock held_by (step slots j 0 1 none) me) (locks_is slots id me c j seen stage lt mid)

  pub carried_put : (hs : Homes held_by nodes_of) (c : List (ℕ × Content ShardTree NodeList)) (i : ℕ) (y : Content ShardTree NodeList) (more : List (ℕ × Content ShardTree NodeList)) → c ≡ (i, y) ∷ more → put_back hs c ≡ set hs i (some y)
  carried_put hs c i y more e = ap (put_back hs) e

  -- the lock of shard j, which c holds, is opened
  module _ (s : TableState held_by nodes_of) (r : Rule s) (c j : ℕ) (vs ws : List Version) where
    opens_lock : r.lock j ≡ held c vs → (k : ℕ) → k ≢ c → (place : ℕ → Place) (x : Lock) → KnowsLock z.shards z.start r.published r.mode r.place r.lock k x → KnowsLock z.shards z.start r.published r.mode place (put r.lock j (opened ws)) k x
    opens_lock is k ne place Free ok = ok
    opens_lock is k ne place (Held i us) ok = (ok.0, put_at r.lock j (opened ws) (λ i x. r.lock i ≡ held k us → x ≡ held k us) i (λ here was. absurd (ne (held_one k c us vs (sym was ∙ (ap r.lock here ∙ is))))) (λ _ was. was) ok.1)

  pub unlocks_is : (slots id : ℕ) (me : SeatNow ShardTree NodeList) (c j : ℕ) (seen : List (List MemberVersions)) (stage : Stage) (vs : List Version) (t : ShardTree) (more : List (ℕ × Content ShardTree NodeList)) → IsAt c z seen (Held j vs) stage me → me.1 ≡ (j, Tree t) ∷ more → held_by t ≡ vs
      → StepIs held_by nodes_of (λ _. Stays) z slots id me j (λ _. 0) (λ _. after_unlock (step slots j 0 0 none) me 0)
  unlocks_is slots id me c j seen stage vs t more mid slot same s r long at fits =
      let h : SeatState = seat_state c z seen (Held j vs) stage in
      let at' : get_elem? s.views id ≡ some (h ∷ []) = at ∙ ap some mid in
      let fit = (r.seats id (h ∷ []) at').0 in
      let lt : j < z.shards = fit.4.0 in
      let is : r.lock j ≡ held c vs = fit.4.1 in
      let h' : SeatState = seat_state c z seen Free stage in
      let state : ShardState = opened vs in
      let ws : List ℕ = set s.words j 0 in
      let hs = set s.homes j (some (Tree t)) in
      let lock = put r.lock j state in
      let w : (i : ℕ) → i ≢ j → get_or ws i 0 ≡ get_or s.words i 0 = λ i ne. get_or-set_other s.words j i 0 0 (λ e. ne (omega arith)) in
      let wide : length s.words ≡ z.shards + 2 + z.clients = r.wide in
      let many : length s.homes ≡ z.shards + 1 + z.clients = r.many in
      let contained : (i : ℕ) → contents (lock i) ≡ contents (r.lock i) = same_contents r.lock j state (ap contents (sym is)) in (
        h' ∷ [],
        gives,
        tt,
        (
          now_of held_by nodes_of z s r,
          same_now held_by nodes_of (now_of held_by nodes_of z s r),
          subst (λ (l : List (ℕ × Content ShardTree NodeList)). IsNow held_by nodes_of z (now_of held_by nodes_of z s r) (stepped s j 0 id l (h' ∷ []) gives)) (sym slot) (moved held_by nodes_of z s r id ws hs h h' r.published r.mode r.place lock record {
            sits = at';
            same_client = refl;
            same_opening = refl;
            wide = length-set s.words j 0;
            many = length-set s.homes j (some (Tree t));
            last_is = w z.shards (λ e. omega arith) ∙ r.last_is;
            runs = r.runs;
            some_each = r.some_each;
            shards_are = λ i _ ok. put_at r.lock j state (λ i x. InShard held_by nodes_of z.shards s.words s.homes i (r.lock i) → InShard held_by nodes_of z.shards ws hs i x) i
                (λ e _. subst (λ (k : ℕ). InShard held_by nodes_of z.shards ws hs k state) (sym e) (get_or-set_same s.words j 0 0 (omega arith), (t, set_here s.homes j (some (Tree t)) (omega arith), same)))
                (λ ne was. shard_stays held_by nodes_of s.words ws s.homes hs z.shards i (w i ne) (set_else s.homes j i (some (Tree t)) ne) (r.lock i) was) ok;
            rows = λ i lo _ ok. place_stays held_by nodes_of s.words ws s.homes hs z.shards i (w (z.shards + 1 + i) (λ e. omega arith)) (set_else s.homes j (z.shards + i) (some (Tree t)) (λ e. omega arith)) (r.place i) ok;
            mode_is = subst (λ (x : ℕ). InMode z.clients x r.place (last_of z.start r.published) r.mode) (sym (w (z.shards + 1) (λ e. omega arith))) r.mode_is;
            sound = λ i v lt' h. r.sound i v lt' (subst (In v) (contained i) h);
            complete = λ v h. subst (In v) (sym (contained (shard_of z.shards v))) (r.complete v h);
            stored = λ i v h. subst (In v) (sym (contained (shard_of z.shards v))) (r.stored i v h);
            seen = fit.3;
            grows = begins_same r.published;
            knows_lock = tt;
            knows = fit.5;
            others_lock = λ k ne x. opens_lock s r c j vs vs is k ne r.place x;
            others = λ _ _ _ _ ok. ok;
          }),
        ),
        λ c' z' seen' stage' vs' mid'. (ap (one (λ x. seat_state x.client x.opening x.seen Free x.stage)) (sym mid ∙ mid'), refl),
      )

  pub unlocks : (slots id : ℕ) (me : SeatNow ShardTree NodeList) (c j : ℕ) (seen : List (List MemberVersions)) (stage : Stage) (vs : List Version) (t : ShardTree) (more : List (ℕ × Content ShardTree NodeList)) → IsAt c z seen (Held j vs) stage me → me.1 ≡ (j, Tree t) ∷ more → held_by t ≡ vs
      → Allows Rule slots id me j (λ _. 0) (λ _. after_unlock (step slots j 0 0 none) me 0)
  unlocks slots id me c j seen stage vs t more mid slot same = allows held_by nodes_of (λ _. Stays) z slots id me j (λ _. 0) (λ _. after_unlock (step slots j 0 0 none) me 0) (unlocks_is slots id me c j seen stage vs t more mid slot same)

  -- what others know stays true when a member's part moves on
  pub knows_member : (published : List (List MemberVersions)) (mode : Mode) (place : ℕ → Place) (lock lock' : ℕ → ShardState) (m : ℕ) (new : Place) (k : ℕ) → k ≢ m → ((l : ℕ) (vs : List Version) → place m ≡ coming l vs → ⊥) → ((l : ℕ) (vs : List Version) → place m ≡ filling l vs → ⊥)
      → (seen : List (List MemberVersions)) (st : Stage) → Knows z.shards z.start published mode place lock k seen st → Knows z.shards z.start published mode (put place m new) lock' k seen st
  knows_member published mode place lock lock' m new k ne not_c not_f seen Idle ok = subst NotTaken (sym (put_else place m new k ne)) ok
  knows_member published mode place lock lock' m new k ne not_c not_f seen (Waiting u) ok = (subst IsComing (sym (put_else place m new k ne)) ok.0, ok.1)
  knows_member published mode place lock lock' m new k ne not_c not_f seen (Holding w) ok = (put_else place m new k ne ∙ ok.0, ok.1)
  knows_member published mode place lock lock' m new k ne not_c not_f seen (Stored u) ok = ((ok.0.0, put_else place m new k ne ∙ ok.0.1), ok.1)
  knows_member published mode place lock lock' m new k ne not_c not_f seen (Publishing u) ok = (subst NotTaken (sym (put_else place m new k ne)) ok.0, ok.1, ok.2)
  knows_member published mode place lock lock' m new k ne not_c not_f seen Resting ok = ok
  knows_member published mode place lock lock' m new k ne not_c not_f seen (Handing g []) ok = ok
  knows_member published mode place lock lock' m new k ne not_c not_f seen (Handing g (p ∷ ps)) ok = (ok.0, ok.1, ok.2, coming_put place m new (end_of (last_of z.start published) g) (p ∷ ps) not_c ok.3)
  knows_member published mode place lock lock' m new k ne not_c not_f seen (Filling g p ps) ok = (
    ok.0,
    ok.1,
    ok.2,
    put_at place m new (λ i x. place i ≡ filling (end_of (last_of z.start published) g) p.versions → x ≡ filling (end_of (last_of z.start published) g) p.versions) p.member (λ is was. absurd (not_f _ _ (ap place (sym is) ∙ was))) (λ _ was. was) ok.3,
    coming_put place m new (end_of (last_of z.start published) g) ps not_c ok.4,
  )

  add_stage : List Version → SeatState → SeatState
  add_stage new x = seat_state x.client x.opening x.seen Free (after x.stage)
    where
      after : Stage → Stage
      after Idle = Idle
      after (Waiting u) = Idle
      after (Holding w) = Holding (work w.launched (w.done ++ new) (drop (length new) w.rest))
      after (Stored l) = Idle
      after (Publishing l) = Idle
      after Resting = Idle
      after (Handing g ps) = Idle
      after (Filling g p ps) = Idle

  pub adds_is : (slots id : ℕ) (me : SeatNow ShardTree NodeList) (c j : ℕ) (seen : List (List MemberVersions)) (u : Launched) (done gained rest' vs : List Version) (t : ShardTree) (more : List (ℕ × Content ShardTree NodeList)) → IsAt c z seen (Held j vs) (Holding (work u done (gained ++ rest'))) me → me.1 ≡ (j, Tree t) ∷ more
      → AddsAll vs gained (held_by t) → AreOfShard z.shards j gained → StepIs held_by nodes_of (λ _. Stays) z slots id me j (λ _. 0) (λ _. after_add gained (step slots j 0 0 none) me 0)
  unfolding add_stage
  adds_is slots id me c j seen u done gained rest' vs t more mid slot has_gained here s r long at fits =
      let h : SeatState = seat_state c z seen (Held j vs) (Holding (work u done (gained ++ rest'))) in
      let at' : get_elem? s.views id ≡ some (h ∷ []) = at ∙ ap some mid in
      let fit = (r.seats id (h ∷ []) at').0 in
      let lt : j < z.shards = fit.4.0 in
      let is : r.lock j ≡ held c vs = fit.4.1 in
      let now : r.place c ≡ busy u.last done (gained ++ rest') = fit.5.0 in
      let h' : SeatState = seat_state c z seen Free (Holding (work u (done ++ gained) rest')) in
      let state : ShardState = opened (held_by t) in
      let new : Place = busy u.last (done ++ gained) rest' in
      let ws : List ℕ = set s.words j 0 in
      let hs = set s.homes j (some (Tree t)) in
      let lock = put r.lock j state in
      let place = put r.place c new in
      let w : (i : ℕ) → i ≢ j → get_or ws i 0 ≡ get_or s.words i 0 = λ i ne. get_or-set_other s.words j i 0 0 (λ e. ne (omega arith)) in
      let wide : length s.words ≡ z.shards + 2 + z.clients = r.wide in
      let many : length s.homes ≡ z.shards + 1 + z.clients = r.many in
      -- what was in the trees stays
      let stays : (i : ℕ) (x : Version) → In x (contents (r.lock i)) → In x (contents (lock i)) = λ i x h. put_at r.lock j state (λ i d. In x (contents (r.lock i)) → In x (contents d)) i (λ e was. has_gained.1 x (subst (λ (d : ShardState). In x (contents d)) (ap r.lock e ∙ is) was)) (λ _ was. was) h in
      let kept : (i : ℕ) (x : Version) → In x (stored_in (r.place i)) → In x (stored_in (place i)) = λ i x h. put_at r.place c new (λ i p. In x (stored_in (r.place i)) → In x (stored_in p)) i (λ e was. in_left x done gained (subst (λ (p : Place). In x (stored_in p)) (ap r.place e ∙ now) was)) (λ _ was. was) h in
      let comes : (x : Version) → In x gained → In x (stored_in (place c)) = λ x h. subst (λ (p : Place). In x (stored_in p)) (sym (put_here r.place c new)) (in_right x done gained h) in
      let in_new : (x : Version) → In x gained → In x (contents (lock (shard_of z.shards x))) = λ x h. subst (λ (i : ℕ). In x (contents (lock i))) (sym (here x h)) (subst (λ (d : ShardState). In x (contents d)) (sym (put_here r.lock j state)) (has_gained.0 x h)) in
      let is_open : IsOpen (r.place c) = subst IsOpen (sym now) tt in (
        h' ∷ [],
        gives,
        tt,
        (
          table_now r.published r.mode place,
          (refl, refl, progress_stays r.place c new (ap progress_of (sym now))),
          subst (λ (x : List (ℕ × Content ShardTree NodeList)). IsNow held_by nodes_of z (table_now r.published r.mode place) (stepped s j 0 id x (h' ∷ []) gives)) (sym slot) (moved held_by nodes_of z s r id ws hs h h' r.published r.mode place lock record {
            sits = at';
            same_client = refl;
            same_opening = refl;
            wide = length-set s.words j 0;
            many = length-set s.homes j (some (Tree t));
            last_is = w z.shards (λ e. omega arith) ∙ r.last_is;
            runs = r.runs;
            some_each = r.some_each;
            shards_are = λ i _ ok. put_at r.lock j state (λ i x. InShard held_by nodes_of z.shards s.words s.homes i (r.lock i) → InShard held_by nodes_of z.shards ws hs i x) i
                (λ e _. subst (λ (k : ℕ). InShard held_by nodes_of z.shards ws hs k state) (sym e) (get_or-set_same s.words j 0 0 (omega arith), (t, set_here s.homes j (some (Tree t)) (omega arith), refl)))
                (λ ne was. shard_stays held_by nodes_of s.words ws s.homes hs z.shards i (w i ne) (set_else s.homes j i (some (Tree t)) ne) (r.lock i) was) ok;
            rows = λ i lo _ ok.
                let same = place_stays held_by nodes_of s.words ws s.homes hs z.shards i (w (z.shards + 1 + i) (λ e. omega arith)) (set_else s.homes j (z.shards + i) (some (Tree t)) (λ e. omega arith)) (r.place i) ok in
                put_at r.place c new (λ i p. InPlace held_by nodes_of z.shards ws hs i (r.place i) → InPlace held_by nodes_of z.shards ws hs i p) i (λ e was. subst (λ (p : Place). InPlace held_by nodes_of z.shards ws hs i p) (ap r.place e ∙ now) was) (λ _ was. was) same;
            mode_is = subst (λ (x : ℕ). InMode z.clients x place (last_of z.start r.published) r.mode) (sym (w (z.shards + 1) (λ e. omega arith)))
                (mode_put r.place c new z.clients (get_or s.words (z.shards + 1) 0) (last_of z.start r.published) r.mode is_open tt
                (λ end us ok. let o = subst (InPart end us) now ok in (o.0, append_assoc done gained rest' ∙ o.1)) r.mode_is);
            sound = λ i x lt' h. put_at r.lock j state (λ i d. ((In x (contents (r.lock i))) → (shard_of z.shards x ≡ i) × (In x (standing z.base r.published) ⊎ ((k : ℕ) × In x (stored_in (place k))))) → In x (contents d) → (shard_of z.shards x ≡ i) × (In x (standing z.base r.published) ⊎ ((k : ℕ) × In x (stored_in (place k))))) i
                (λ e was in_t. ⊎_elim
                (λ (f : In x gained). (here x f ∙ sym e, inr (c, comes x f)))
                (λ (f : In x vs). was (subst (λ (d : ShardState). In x (contents d)) (sym (ap r.lock e ∙ is)) f))
                (has_gained.2 x in_t))
                (λ _ was. was)
                (λ in_old. let o = r.sound i x lt' in_old in (o.0, ⊎_elim (λ (a : In x (standing z.base r.published)). inl a) (λ (b : (k : ℕ) × In x (stored_in (r.place k))). inr (b.0, kept b.0 x b.1)) o.1)) h;
            complete = λ x h. stays (shard_of z.shards x) x (r.complete x h);
            stored = λ i x h. put_at r.place c new (λ i p. ((In x (stored_in (r.place i))) → In x (contents (lock (shard_of z.shards x)))) → In x (stored_in p) → In x (contents (lock (shard_of z.shards x)))) i
                (λ e was in_p. ⊎_elim
                (λ (a : In x done). was (subst (λ (p : Place). In x (stored_in p)) (sym (ap r.place e ∙ now)) a))
                (λ (b : In x gained). in_new x b)
                (in_split x done gained in_p))
                (λ _ was. was)
                (λ in_old. stays (shard_of z.shards x) x (r.stored i x in_old)) h;
            seen = fit.3;
            grows = begins_same r.published;
            knows_lock = tt;
            knows = (put_here r.place c new, fit.5.1);
            others_lock = λ k ne x. opens_lock s r c j vs (held_by t) is k ne place x;
            others = λ k ne seen st. knows_member r.published r.mode r.place r.lock lock c new k ne (λ l us bad. absurd (subst IsWithMember (sym now ∙ bad) tt)) (λ l us bad. absurd (subst IsWithMember (sym now ∙ bad) tt)) seen st;
          }),
        ),
        λ c' z' seen' u' done' more' vs' mid'. (
          (λ i. seat_state c z seen Free (Holding (work u (done ++ gained) (sym (drop-append_seam gained rest') i))) ∷ [])
              ∙ (ap (one (add_stage gained)) (sym mid ∙ mid')
              ∙ (λ i. seat_state c' z' seen' Free (Holding (work u' (done' ++ gained) (drop-append_seam gained more' i))) ∷ [])),
          refl,
        ),
      )

  pub adds : (slots id : ℕ) (me : SeatNow ShardTree NodeList) (c j : ℕ) (seen : List (List MemberVersions)) (u : Launched) (done gained rest' vs : List Version) (t : ShardTree) (more : List (ℕ × Content ShardTree NodeList)) → IsAt c z seen (Held j vs) (Holding (work u done (gained ++ rest'))) me → me.1 ≡ (j, Tree t) ∷ more
      → AddsAll vs gained (held_by t) → AreOfShard z.shards j gained → Allows Rule slots id me j (λ _. 0) (λ _. after_add gained (step slots j 0 0 none) me 0)
  adds slots id me c j seen u done gained rest' vs t more mid slot has_gained here = allows held_by nodes_of (λ _. Stays) z slots id me j (λ _. 0) (λ _. after_add gained (step slots j 0 0 none) me 0) (adds_is slots id me c j seen u done gained rest' vs t more mid slot has_gained here)
