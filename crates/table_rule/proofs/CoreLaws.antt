-- The events of the table are events of the core.
use Rattle.std.proofs.Common.{◌≡◌, ◌≢◌, ◌⊎◌, inl, inr, ⊎_elim, ◌<◌, length, ℕ, Bool, true, false, List, [], ◌∷◌, ◌++◌, ◌==◌, map, drop, if◌then◌else◌, Some, refl, sym, ap, subst, count_by, None, arith, ◌∙◌}
use Rattle.std.specs.List.{list_all}
use Rattle.std.proofs.lemmas.Bool.{and_from}
use Rattle.std.proofs.lemmas.Bool.Decides.{eqb_tells}
use Rattle.model_core.specs.declared.event.Event.{Event as CoreEvent}
use Rattle.model_core.specs.declared.event.Event.TheVariants as core
use Rattle.model_core.specs.Halves.{moves_table, table_half_of}
use Rattle.model_core.specs.Core.{Options, free, still as at_rest, launched, published as is_published, State, leads, table_group, among, runners, with_client, next_call, after_reply}
use Rattle.model_core.specs.Step.{step, when, launch, publish, exit, leave, without_table_group, read, read_call, read_with, is_last, group_last, exit_reader}
use Rattle.table_rule.specs.declared.content.MemberVersions.{MemberVersions}
use Rattle.table_rule.specs.Histories.{In, last_of}
use Rattle.table_rule.specs.Rule.{Mode, still, running, ended}
use Rattle.table_rule.specs.Events.{Progress, to_insert, to_finish, is_finished, TableNow, IsMember, Stays, OnlyMember, IsRead, IsLaunch, IsInsert, IsFinish, IsPublish}
use Rattle.table_rule.specs.CoreEvents.{StandFor, IsCoreGroup, IsAsFar, AreAsFar, HaveFinished, IsPhase, IsCoreOf, AreTaken, IsReading}
use Rattle.table_rule.proofs.Teams.{Once, among_right, among_others, all_among, last_behind, team_count, team_runs, team_of, teams_apart}
use Rattle.table_rule.proofs.CoreComes.{Stands, team_inserts, team_finishes}
use Rattle.table_rule.proofs.CoreOthers.{Leaves, others_leave, reader_leaves}

-- a client that isn't of the team is as far as before, after the team has inserted and after it has finished
others_inserted : (inserted finished cs : List ℕ) (c : ℕ) (p : Progress) → among c cs ≡ false → IsAsFar inserted finished c p → IsAsFar (inserted ++ cs) finished c p
others_inserted inserted finished cs c to_insert other far = (among_others c inserted cs other ∙ far.0, far.1)
others_inserted inserted finished cs c to_finish other far = (among_others c inserted cs other ∙ far.0, far.1)
others_inserted inserted finished cs c is_finished other far = (among_others c inserted cs other ∙ far.0, far.1)

others_finished : (inserted finished cs : List ℕ) (c : ℕ) (p : Progress) → among c cs ≡ false → IsAsFar inserted finished c p → IsAsFar inserted (finished ++ cs) c p
others_finished inserted finished cs c to_insert other far = (far.0, among_others c finished cs other ∙ far.1)
others_finished inserted finished cs c to_finish other far = (far.0, among_others c finished cs other ∙ far.1)
others_finished inserted finished cs c is_finished other far = (far.0, among_others c finished cs other ∙ far.1)

abbrev group_ended : Mode → List MemberVersions
group_ended still = []
group_ended (running g) = []
group_ended (ended m g) = g

abbrev member_ended : Mode → ℕ
member_ended still = 0
member_ended (running g) = 0
member_ended (ended m g) = m

module _ (start : ℕ) (o : Options) (team : ℕ → List ℕ) where
  -- a group is the core's as long as the published sequence and the core's group stay as they are
  group_stays : (s t : State) (was now : List (List MemberVersions)) (g : List MemberVersions) → Stands o s t → now ≡ was → IsCoreGroup start o team s was g → IsCoreGroup start o team t now g
  group_stays s t was now g stands same group = record {
    some = subst (λ ws. 0 < length ws) (sym stands.1) group.some;
    parts = subst (StandFor team g) (sym stands.1) group.parts;
    once = subst (λ ws. Once (runners ws)) (sym stands.1) group.once;
    ends = (λ i. group_last (stands.0 i) (stands.1 i)) ∙ (group.ends ∙ ap (λ p. last_of start (p ++ g ∷ [])) (sym same));
  }

  -- a step that moves nothing leaves the core where it is
  same_phase : (s : State) (a b : TableNow) (mode : Mode) → b.published ≡ a.published → ((i : ℕ) → b.progress i ≡ a.progress i) → IsPhase start o team a s mode → IsPhase start o team b s mode
  same_phase s a b still same far is = is
  same_phase s a b (running g) same far (group, (inserted, finished, is, was)) =
      (group_stays s s a.published b.published g (refl, refl) same group, (inserted, finished, is, λ p c there team. subst (IsAsFar inserted finished c) (sym (far p.member)) (was p c there team)))
  same_phase s a b (ended m g) same far (group, (inserted, finished, is, all)) = (group_stays s s a.published b.published g (refl, refl) same group, (inserted, finished, is, all))

  pub stays_core : (s : State) (a b : TableNow) → IsCoreOf start o team a s → Stays a b → IsCoreOf start o team b s
  stays_core s a b is stays = (
    is.0 ∙ ap (last_of start) (sym stays.0),
    subst (IsPhase start o team b s) (sym stays.1) (same_phase s a b a.mode stays.0 stays.2 is.1),
  )

  pub launches_core : (s : State) (a b : TableNow) (g : List MemberVersions) (c : ℕ) → IsCoreOf start o team a s → s.table ≡ at_rest → leads c (table_group o s) ≡ true → IsCoreGroup start o team s a.published g → IsLaunch g a b
      → AreTaken start o team (core.Launch c ∷ []) s b
  launches_core s a b g c is rest leader group begins =
      let t : State = record s { table = launched [] [] } in (
        t,
        (t, ap (launch o s c) rest ∙ ap (λ b. when b t) leader, refl),
        (
          is.0 ∙ ap (last_of start) (sym begins.2),
          subst (IsPhase start o team b t) (sym begins.1) (
            group_stays s t a.published b.published g (refl, refl) begins.2 group,
            ([], [], refl, λ p c there team. subst (IsAsFar [] [] c) (sym (begins.3 p.member)) (refl, refl)),
          ),
        ),
      )

  module _ (s : State) (a b : TableNow) (m : ℕ) (g : List MemberVersions) (member : IsMember m g) (group : IsCoreGroup start o team s a.published g) (inserted finished : List ℕ) (is : s.table ≡ launched inserted finished) (far : AreAsFar team inserted finished g a) where
    -- each client of m's team runs in the core's group, once, and is as far as the part was
    of_team : (c : ℕ) → among c (team m) ≡ true → among c (team member.0.member) ≡ true
    of_team c is = ap (λ i. among c (team i)) member.2 ∙ is

    runs : (c : ℕ) → among c (team m) ≡ true → among c (runners (table_group o s)) ≡ true
    runs c is = team_runs team g (table_group o s) member.0 group.parts member.1 c (of_team c is)

    as_far : (was : Progress) → a.progress m ≡ was → (c : ℕ) → among c (team m) ≡ true → IsAsFar inserted finished c was
    as_far was at c is = subst (IsAsFar inserted finished c) (ap a.progress member.2 ∙ at) (far member.0 c member.1 (of_team c is))

    once : Once (team m)
    once c = let few = team_count team g (table_group o s) member.0 group.parts member.1 c in let one = group.once c in let same = ap (λ i. count_by (λ n. n == c) (team i)) member.2 in omega (arith, few, one, same)

    others : (q : MemberVersions) → In q g → q.member ≢ m → (c : ℕ) → among c (team q.member) ≡ true → among c (team m) ≡ false
    others q there ne c is = ap (λ i. among c (team i)) (sym member.2) ∙ teams_apart team g (table_group o s) member.0 q group.parts group.once member.1 there (λ e. ne (e ∙ member.2)) c is

    insert_far : OnlyMember m to_insert to_finish a b → AreAsFar team (inserted ++ team m) finished g b
    insert_far only q c there is = by (eqb_tells q.member m)
      where
        by : (((q.member == m) ≡ true) × (q.member ≡ m)) ⊎ (((q.member == m) ≡ false) × (q.member ≢ m)) → IsAsFar (inserted ++ team m) finished c (b.progress q.member)
        by (inl same) =
            let mine : among c (team m) ≡ true = ap (λ i. among c (team i)) (sym same.1) ∙ is in
            subst (IsAsFar (inserted ++ team m) finished c) (sym (ap b.progress same.1 ∙ only.2)) (among_right c inserted (team m) mine, (as_far to_insert only.1 c mine).1)
        by (inr other) = subst (IsAsFar (inserted ++ team m) finished c) (sym (only.3 q.member other.1)) (others_inserted inserted finished (team m) c (a.progress q.member) (others q there other.1 c is) (far q c there is))

    pub insert_taken : s.last ≡ last_of start a.published → b.mode ≡ running g → OnlyMember m to_insert to_finish a b → AreTaken start o team (map core.Insert (team m)) s b
    insert_taken last mode only =
        let t = team_inserts o s (team m) inserted finished is runs (λ c mine. (as_far to_insert only.1 c mine).0) once in (
          t.0,
          t.1,
          (
            t.3.0 ∙ (last ∙ ap (last_of start) (sym only.0)),
            subst (IsPhase start o team b t.0) (sym mode) (group_stays s t.0 a.published b.published g t.3 only.0 group, (inserted ++ team m, finished, t.2, insert_far only)),
          ),
        )

    finish_far : OnlyMember m to_finish is_finished a b → AreAsFar team inserted (finished ++ team m) g b
    finish_far only q c there is = by (eqb_tells q.member m)
      where
        by : (((q.member == m) ≡ true) × (q.member ≡ m)) ⊎ (((q.member == m) ≡ false) × (q.member ≢ m)) → IsAsFar inserted (finished ++ team m) c (b.progress q.member)
        by (inl same) =
            let mine : among c (team m) ≡ true = ap (λ i. among c (team i)) (sym same.1) ∙ is in
            subst (IsAsFar inserted (finished ++ team m) c) (sym (ap b.progress same.1 ∙ only.2)) ((as_far to_finish only.1 c mine).0, among_right c finished (team m) mine)
        by (inr other) = subst (IsAsFar inserted (finished ++ team m) c) (sym (only.3 q.member other.1)) (others_finished inserted finished (team m) c (a.progress q.member) (others q there other.1 c is) (far q c there is))

    -- where all parts are finished, so are all members of the core's group
    all_finished : OnlyMember m to_finish is_finished a b → ((p : MemberVersions) → In p g → b.progress p.member ≡ is_finished) → HaveFinished (team m) (table_group o s) (finished ++ team m)
    all_finished only all = (
      all_among (runners (table_group o s)) (finished ++ team m) (λ c is.
          let p = team_of team g (table_group o s) group.parts c is in
          (subst (IsAsFar inserted (finished ++ team m) c) (all p.0 p.1) (finish_far only p.0 c p.1 p.2)).1),
      λ c is. last_behind c finished (team m) is,
    )

    -- the member that finishes last ends the group, and any other one leaves it running
    pub finish_taken : (found : ℕ) → s.last ≡ last_of start a.published → OnlyMember m to_finish is_finished a b
        → (found ≡ 1 → (b.mode ≡ ended m g) × ((p : MemberVersions) → In p g → b.progress p.member ≡ is_finished)) → (found ≢ 1 → b.mode ≡ running g)
        → AreTaken start o team (map core.Finish (team m)) s b
    finish_taken found last only one more =
        let t = team_finishes o s (team m) inserted finished is (λ c mine. (as_far to_finish only.1 c mine).0) (λ c mine. (as_far to_finish only.1 c mine).1) once in
        let there : IsCoreGroup start o team t.0 b.published g = group_stays s t.0 a.published b.published g t.3 only.0 group in
        (t.0, t.1, (t.3.0 ∙ (last ∙ ap (last_of start) (sym only.0)), by t.0 t.2 t.3.1 there (eqb_tells found 1)))
      where
        by : (t : State) → t.table ≡ launched inserted (finished ++ team m) → table_group o t ≡ table_group o s → IsCoreGroup start o team t b.published g
            → (((found == 1) ≡ true) × (found ≡ 1)) ⊎ (((found == 1) ≡ false) × (found ≢ 1)) → IsPhase start o team b t b.mode
        by t now same there (inl last_one) = subst (IsPhase start o team b t) (sym (one last_one.1).0)
            (there, (inserted, finished ++ team m, now, subst (λ ws. HaveFinished (team m) ws (finished ++ team m)) (sym same) (all_finished only (one last_one.1).1)))
        by t now same there (inr other) = subst (IsPhase start o team b t) (sym (more other.1)) (there, (inserted, finished ++ team m, now, finish_far only))

  pub inserts_core : (s : State) (a b : TableNow) (m : ℕ) → IsCoreOf start o team a s → IsInsert m a b → AreTaken start o team (map core.Insert (team m)) s b
  inserts_core s a b m is (g, mode, member, same, only) =
      let phase = subst (IsPhase start o team a s) mode is.1 in
      insert_taken s a b m g member phase.0 phase.1.0 phase.1.1 phase.1.2 phase.1.3 is.0 (same ∙ mode) only

  pub finishes_core : (s : State) (a b : TableNow) (m found : ℕ) → IsCoreOf start o team a s → IsFinish m found a b → AreTaken start o team (map core.Finish (team m)) s b
  finishes_core s a b m found is (g, mode, member, counted, only, one, more) =
      let phase = subst (IsPhase start o team a s) mode is.1 in
      finish_taken s a b m g member phase.0 phase.1.0 phase.1.1 phase.1.2 phase.1.3 found is.0 only one (λ other. more other ∙ mode)

  pub publishes_core : (s : State) (a b : TableNow) (m c : ℕ) → IsCoreOf start o team a s → IsPublish m a b → is_last c (team m) ≡ true → AreTaken start o team (core.Publish c ∷ []) s b
  publishes_core s a b m c is (g, mode, after, published, progress) last =
      let phase = subst (IsPhase start o team a s) mode is.1 in
      let t : State = record s { table = is_published; last = group_last s.last (table_group o s) } in (
        t,
        (t, ap (publish o s c) phase.1.2 ∙ ap (λ b. when b t) (and_from (is_last c phase.1.1) (list_all (λ c. among c phase.1.1) (runners (table_group o s))) (phase.1.3.1 c last) phase.1.3.0), refl),
        (phase.0.ends ∙ ap (last_of start) (sym published), subst (IsPhase start o team b t) (sym after) (inr refl)),
      )

  pub exits_core : (s : State) (a : TableNow) (c : ℕ) → IsCoreOf start o team a s → a.mode ≡ still → s.table ≡ is_published → leads c (table_group o s) ≡ true → AreTaken start o team (core.Exit c ∷ []) s a
  exits_core s a c is mode published leader =
      let t : State = record (leave (without_table_group o s) (table_group o s)) { table = at_rest } in (
        t,
        (t, ap (exit o s c) published ∙ ap (λ b. if b then Some t else exit_reader s c s.log) leader, refl),
        (same_last o.pipelined ∙ is.0, subst (IsPhase start o team a t) (sym mode) (inl refl)),
      )
    where
      same_last : (b : Bool) → (if b then record s { second = drop 1 s.second } else record s { log = free }).last ≡ s.last
      same_last true = refl
      same_last false = refl

  pub reads_core : (s : State) (a b : TableNow) (found c : ℕ) → IsCoreOf start o team a s → IsRead start found a b → IsReading o s c → (found ≡ s.last) × AreTaken start o team (core.Read c ∷ []) s b
  reads_core s a b found c is finds (client, command, reply, here, idle, next, answer) =
      let t : State = with_client s c (after_reply (next_call client).client command reply) in
      let may : step o s (core.Read c) ≡ Some t = ap (read o s c) here ∙ (ap (λ b. if b then read_call o s c (next_call client).client (next_call client).call else None) idle
      ∙ (ap (read_call o s c (next_call client).client) next ∙ ap (read_with s c (next_call client).client command) answer)) in
      let now = stays_core s a b is finds.0 in
      (finds.1 ∙ sym is.0, (t, (t, may, refl), (now.0, moved b.mode now.1)))
    where
      moved : (mode : Mode) → IsPhase start o team b s mode → IsPhase start o team b (with_client s c (after_reply (next_call client).client command reply)) mode
      moved still phase = phase
      moved (running g) (group, more) = (group_stays s _ b.published b.published g (refl, refl) refl group, more)
      moved (ended m g) (group, more) = (group_stays s _ b.published b.published g (refl, refl) refl group, more)

  -- the core's other events leave the table alone, and also a group that the core has for it
  left_core : (s t : State) (a : TableNow) → IsCoreOf start o team a s → Leaves o s t → IsCoreOf start o team a t
  left_core s t a is left = (left.1 ∙ is.0, by left a.mode is.1)
    where
      by : Leaves o s t → (mode : Mode) → IsPhase start o team a s mode → IsPhase start o team a t mode
      by left still phase = ⊎_elim (λ e. inl (left.0 ∙ e)) (λ e. inr (left.0 ∙ e)) phase
      by left (running g) (group, (inserted, finished, was, far)) = (group_stays s t a.published a.published g (left.1, left.2 group.some) refl group, (inserted, finished, left.0 ∙ was, far))
      by left (ended m g) (group, (inserted, finished, was, all)) =
          let same = left.2 group.some in
          (group_stays s t a.published a.published g (left.1, same) refl group, (inserted, finished, left.0 ∙ was, subst (λ ws. HaveFinished (team m) ws finished) (sym same) all))

  pub others_core : (s t : State) (a : TableNow) (event : CoreEvent) → IsCoreOf start o team a s → moves_table event ≡ false → step o s event ≡ Some t → IsCoreOf start o team a t
  others_core s t a event is none came = left_core s t a is (others_leave o s t event none came)

  pub exit_of_read_core : (s t : State) (a : TableNow) (c : ℕ) → IsCoreOf start o team a s → step o s (core.Exit c) ≡ Some t → table_half_of t ≡ table_half_of s → IsCoreOf start o team a t
  exit_of_read_core s t a c is came same = left_core s t a is (reader_leaves o s t c came same)
