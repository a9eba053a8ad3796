-- The events of the lists are events of the core.
use Rattle.std.proofs.Common.{◌≡◌, ℕ, eqb, eq-eqb, Bool, true, false, not, ◌&&◌, List, [], ◌∷◌, ◌++◌, map, drop, if◌then◌else◌, Option as Answer, Some, refl, sym, ap, ◌∙◌, subst, append-nil, append_assoc, eqb-true, cond, filter, reverse, take, None, length, inl, inr, arith}
use Rattle.std.specs.Prelude.{is_some}
use Rattle.std.proofs.lemmas.List.{map-append, reverse-append, length-map, length-reverse, length_push, nil_from_length}
use mathlib.Core.Option.{Option, none, some}
use Rattle.model_base.specs.Calls.{Reply as CoreReply, refused}
use Rattle.model_core.specs.declared.event.Event.TheVariants as core
use Rattle.model_core.specs.Core.{Options, Writer, LogPhase, free as nobody, led, built as in_hand, stalled, in_log, marked, handed, TablePhase, still, launched, published, State, leads, table_group, first_group, in_hand as logged, Client, with_runs, has_run, all_answered, entries_of, client_at, with_client, next_call, refusal_in, may_link, plain_options, read_at, reply_told, is_alone}
use Rattle.model_core.specs.CoreLaw.{writers_in}
use Rattle.model_core.specs.Halves.{list_half_of, left_with}
use Rattle.model_core.specs.Step.{step, when, leave, boundary, to_second, next, exit, link, link_call, link_or_refuse, link_with, complete, complete_with, after_completion, elect, build, log_group, logged_group, with_group, fault, refuse, is_no_slowdown, group_size, link_read, read_log, answer_read, exit_reader, without_table_group}
use Rattle.line_rule.specs.declared.view.Back.{Back}
use Rattle.line_rule.specs.declared.view.Back.TheVariants.{Away, Parting, Joining, Holding, Queued, Serving, Passing}
use Rattle.line_rule.specs.declared.view.QueuedWriter.{QueuedWriter}
use Rattle.line_rule.specs.declared.view.Handling.{Handling}
use Rattle.line_rule.specs.declared.view.Squad.{Squad}
use Rattle.line_rule.specs.Chain.{all_answers, Absent, handling}
use Rattle.line_rule.specs.CoreEvents.{IsSame, core_queue, core_log, answer_of, answer_in, HasReplies, HasItems, AllHave, IsCoreOf, IsRearranged, group_handed_on, IsGroupOf, HasGroups, IsUnlogged, IsLogOf, IsTaken, without_answer, IsSettled, IsCommit, IsUpdates, HasLeft}
use Rattle.line_rule.specs.Events.{Core, LogHolder, free, elected, grouped, halted, IsRunning, comes, elects, builds, IsNotWith, was_for, without}
use Rattle.line_rule.specs.Handing.{IsJoined}
use Rattle.line_rule.specs.Plays.{squad_with_end}
use Rattle.line_rule.specs.SecondList.{SecondList, IsPut, IsAhead, after_handing_on as handed_over}
use Rattle.line_rule.specs.Standing.{Lead2, level, ahead, line_of, flat}
use Rattle.line_rule.specs.Steps.{Lists, IsBoundary, IsSecond, IsNext, IsServedOut, HappensAlone, IsExit, IsComplete}
use Rattle.line_rule.proofs.CoreGroups.{group_leads, joined_more, groups_more, groups_first, only_put, none_now, rearranged_as, rearranged_more, first_leads, runs_kept, rearranged_within, rearranged_filter, rearranged_one, Out, stays, out_stays, belongs, out_own, found_first, own_answer, own_replies, group_out, groups_out}
use Rattle.std.specs.List.{list_any}
use Rattle.std.proofs.lemmas.List.Elements.{filter-append}
use Rattle.model_base.specs.declared.write.WriteOptions.{WriteOptions}
use Rattle.model_base.specs.declared.write.Refusal.TheVariants as no
use Rattle.line_rule.proofs.CoreExits.{group_given}
use Rattle.line_rule.proofs.CoreLaws.{builds_core}
use Rattle.line_rule.proofs.Groups.{absent_append}

abbrev line_held : {Request : Type 0} → LogHolder Request → List (QueuedWriter Request)
line_held free = []
line_held (elected c) = []
line_held (grouped own group) = group ++ own ∷ []
line_held (halted own group) = group ++ own ∷ []

abbrev squad_in : {Request Reply : Type 0} → Squad Request Reply → Option (Squad Request Reply) → Squad Request Reply
squad_in g none = g
squad_in g (some f) = f

abbrev pub first_or : {A : Type 0} → A → List A → A
first_or d [] = d
first_or d (x ∷ xs) = x

pub one_built : (vs ws : List Writer) → Path LogPhase (in_hand vs) (in_hand ws) → vs ≡ ws
one_built vs ws is = cc

none_before : {A : Type 0} (xs : List A) (x y : A) → xs ++ x ∷ [] ≡ y ∷ [] → xs ≡ []
none_before xs x y is = nil_from_length xs (let m = length_push xs x in let n = ap length is in omega (arith, m, n))

-- a queue of one writer
none_else : {Request : Type 0} (writer_of : QueuedWriter Request → Writer) (w : Writer) (own : QueuedWriter Request) (group : List (QueuedWriter Request)) → w ∷ [] ≡ core_queue writer_of (group ++ own ∷ []) → group ≡ []
none_else writer_of w own group is =
    let es = group ++ own ∷ [] in
    nil_from_length group (let m = length_push group own in let n = ap length is ∙ (length-map (reverse es) writer_of ∙ length-reverse es) in omega (arith, m, n))

one_ahead : (c d : ℕ) → Path Lead2 (ahead c) (ahead d) → c ≡ d
one_ahead c d is = cc

module _ {Request Reply : Type 0} (writer_of : QueuedWriter Request → Writer) where
  pub same_log : (h h' : LogHolder Request) (l l' : Lead2) (f f' : ℕ → Option (Squad Request Reply)) (ws : List Writer) (phase : LogPhase) → h' ≡ h → l' ≡ l → f' ≡ f → IsLogOf writer_of h l f ws phase → IsLogOf writer_of h' l' f' ws phase
  same_log h h' l l' f f' ws phase eh el ef is = subst (λ x. IsLogOf writer_of x l' f' ws phase) (sym eh) (subst (λ x. IsLogOf writer_of h x f' ws phase) (sym el) (subst (λ x. IsLogOf writer_of h l x ws phase) (sym ef) is))

  pub unlogged : (h : LogHolder Request) (l : Lead2) (f : ℕ → Option (Squad Request Reply)) (ws : List Writer) (phase : LogPhase) → ((own : QueuedWriter Request) (group : List (QueuedWriter Request)) → h ≡ grouped own group → ⊥) → IsLogOf writer_of h l f ws phase → IsUnlogged writer_of h l f ws phase
  unlogged h l f ws nobody not is = is
  unlogged h l f ws (led c) not is = is
  unlogged h l f ws (in_hand vs) not (inl is) = is
  unlogged h l f ws (in_hand vs) not (inr read) = absurd (not read.0 [] read.2)
  unlogged h l f ws (stalled vs) not is = is
  unlogged h l f ws (in_log vs) not is = absurd (not is.1.0 is.1.1 is.1.2)
  unlogged h l f ws (marked vs) not is = absurd (not is.2.0.own is.2.0.rest is.2.1)
  unlogged h l f ws (handed c) not is = absurd (not is.2.0 is.2.1 is.2.2)

module _ {Request : Type 0} (writer_of : QueuedWriter Request → Writer) where
  not_stalled : (h : LogHolder Request) → IsRunning h → (vs : List Writer) → Path LogPhase (stalled vs) (core_log writer_of h) → ⊥
  not_stalled free run vs e = absurd (cc)
  not_stalled (elected c) run vs e = absurd (cc)
  not_stalled (grouped own group) run vs e = absurd (cc)
  not_stalled (halted own group) run vs e = run

module _ {Request Reply : Type 0} (writer_of : QueuedWriter Request → Writer) where
  -- where nobody stalls writes, a commit that passed the checks is linked
  unstalled : (h : LogHolder Request) (l : Lead2) (f : ℕ → Option (Squad Request Reply)) (ws : List Writer) (how : WriteOptions) (phase : LogPhase) → IsLogOf writer_of h l f ws phase → IsRunning h → (refusal_in phase how None ≡ None) × (may_link phase None ≡ true)
  unstalled h l f ws how nobody is run = (refl, refl)
  unstalled h l f ws how (led c) is run = (refl, refl)
  unstalled h l f ws how (in_hand vs) is run = (refl, refl)
  unstalled h l f ws how (stalled vs) is run = absurd (not_stalled writer_of h run vs is.0)
  unstalled h l f ws how (in_log vs) is run = (refl, refl)
  unstalled h l f ws how (marked vs) is run = (refl, refl)
  unstalled h l f ws how (handed c) is run = (refl, refl)

module _ {Request Reply : Type 0} where
  joined_ahead : (back : Back Request Reply) (g : Squad Request Reply) (c : ℕ) (lead : Lead2) → IsJoined g back → IsAhead back c lead → lead ≡ ahead c
  joined_ahead Away g c lead there is = absurd there
  joined_ahead (Parting f b) g c lead there is = absurd there
  joined_ahead (Joining f) g c lead there is = is
  joined_ahead (Holding f) g c lead there is = is
  joined_ahead (Queued f) g c lead there is = absurd there
  joined_ahead (Serving f w) g c lead there is = absurd there
  joined_ahead (Passing f x) g c lead there is = absurd there

  joined_over : (back : Back Request Reply) (g : Squad Request Reply) (p : SecondList Request Reply) → IsJoined g back → Path (SecondList Request Reply) (handed_over back p) (p.0, level, p.2)
  joined_over Away g p there = absurd there
  joined_over (Parting f b) g p there = absurd there
  joined_over (Joining f) g p there = refl
  joined_over (Holding f) g p there = refl
  joined_over (Queued f) g p there = absurd there
  joined_over (Serving f w) g p there = absurd there
  joined_over (Passing f x) g p there = absurd there

module _ {Request Reply : Type 0} (writer_of : QueuedWriter Request → Writer) (reply_of : Reply → CoreReply) (o : Options) (s : State) (a b : Lists Request Reply) (ws : List Writer) where
  abbrev answered : List Writer → List (ℕ × Answer CoreReply)
  answered vs = map answer_of vs

  abbrev handled : List (Handling Request Reply) → List (ℕ × Answer CoreReply)
  handled hs = map (answer_in reply_of) hs

  abbrev Stands : Type 0
  Stands = IsCoreOf writer_of reply_of ws a (list_half_of s)

  abbrev was_owed : List (ℕ × Answer CoreReply)
  was_owed = handled a.0.3 ++ answered (group_handed_on s.log ws)

  abbrev waits : List (ℕ × Answer CoreReply)
  waits = answered (s.leaving ++ writers_in s.second)

  -- a logged group is cut off from the first list
  pub boundary_core : (c : ℕ) (g : Squad Request Reply) → o.pipelined ≡ true → IsSame writer_of → Stands → s.log ≡ in_log ws → IsBoundary c g a b → IsTaken writer_of reply_of o (core.Boundary c) s ws b
  boundary_core c g two same r is ev =
      let log : IsLogOf writer_of a.0.1 a.1.1 a.1.2 ws (in_log ws) = subst (IsLogOf writer_of a.0.1 a.1.1 a.1.2 ws) is r.log in
      let theirs : IsGroupOf writer_of (line_of g) ws = subst (λ es. IsGroupOf writer_of es ws) (ap line_held (sym log.1.2 ∙ ev.1)) log.1.3 in
      let first : leads c ws ≡ true = subst (λ d. leads d ws ≡ true) ev.0 (group_leads writer_of same g.own g.rest ws theirs) in
      let new : State = record s { log = marked ws } in (
        new,
        (λ i. boundary o s c (is i)) ∙ (λ i. when (two i && first i) new),
        record {
          queue = r.queue ∙ ap (λ (k : Core Request Reply). core_queue writer_of k.0) (sym ev.3);
          log = (refl, ev.5 ∙ log.2.0, (g, ap (λ (k : Core Request Reply). k.1) ev.3 ∙ ev.1, theirs, subst (λ d. IsPut d (some g) (λ _. none) b.1.2) (sym ev.0) (ev.6.0, λ k ne. ev.6.1 k ne ∙ log.2.1 k)));
          second = subst (λ gs. HasGroups writer_of gs s.second) (sym ev.4) r.second;
          owed = rearranged_as was_owed waits (handled b.0.3 ++ []) waits (λ i. handled ((ev.3 i).3) ++ answered (group_handed_on (sym is i) ws)) refl r.owed;
        },
      )

  -- that group goes to the end of the second queue
  pub second_core : (c : ℕ) (g : Squad Request Reply) (to : List (Handling Request Reply)) → IsSame writer_of → Stands → IsSecond c g to a b → IsTaken writer_of reply_of o (core.Second c) s ws b
  second_core c g to same r ev = by_phase s.log refl r.log
    where
      by_phase : (phase : LogPhase) → s.log ≡ phase → IsLogOf writer_of a.0.1 a.1.1 a.1.2 ws phase → (new : State) × (to_second s c phase ≡ Some new) × IsCoreOf writer_of reply_of ws b (list_half_of new)
      by_phase (marked vs) is log =
          let f : Squad Request Reply = log.2.0 in
          let mine : c ≡ f.own.by = only_put c f.own.by g f a.1.2 log.2.3 ev.0 in
          let one : g ≡ f = ap (squad_in g) (sym ev.0 ∙ (ap a.1.2 mine ∙ log.2.3.0)) in
          let own_by : g.own.by ≡ c = ap (λ (x : Squad Request Reply). x.own.by) one ∙ sym mine in
          let theirs : IsGroupOf writer_of (line_of g) vs = subst (λ x. IsGroupOf writer_of (line_of x) vs) (sym one) (subst (IsGroupOf writer_of (line_of f)) (sym log.0) log.2.2) in
          let first : leads c vs ≡ true = subst (λ d. leads d vs ≡ true) own_by (group_leads writer_of same g.own g.rest vs theirs) in
          let new : State = record s { log = handed c; second = s.second ++ vs ∷ [] } in
          let was : IsRearranged (handled a.0.3) waits = rearranged_as was_owed waits (handled a.0.3) waits (sym (append-nil (handled a.0.3)) ∙ (λ i. handled a.0.3 ++ answered (group_handed_on (sym is i) ws))) refl r.owed in (
            new,
            (λ i. when (first i) new),
            record {
              queue = r.queue ∙ ap (λ (k : Core Request Reply). core_queue writer_of k.0) (sym ev.2);
              log = (ev.4, none_now c f.own.by f a.1.2 b.1.2 log.2.3 mine ev.5, (g.own, g.rest, ap (λ (k : Core Request Reply). k.1) ev.2 ∙ (log.2.1 ∙ ap (λ (x : Squad Request Reply). grouped x.own x.rest) (sym one)), own_by, subst (IsGroupOf writer_of (line_of g)) log.0 theirs));
              second = subst (λ gs. HasGroups writer_of gs (s.second ++ vs ∷ [])) (sym ev.3) (groups_more writer_of (squad_with_end g to) a.1.0 s.second vs r.second theirs);
              owed = rearranged_as (handled a.0.3 ++ answered vs) (waits ++ answered vs) (handled b.0.3 ++ answered ws) (answered (s.leaving ++ writers_in (s.second ++ vs ∷ []))) (λ i. handled ((ev.2 i).3) ++ answered (sym log.0 i))
                  (ap (λ l. answered (s.leaving ++ l)) (joined_more s.second vs) ∙ (ap answered (sym (append_assoc s.leaving (writers_in s.second) vs)) ∙ map-append answer_of (s.leaving ++ writers_in s.second) vs))
                  (rearranged_more (handled a.0.3) waits (answered vs) was);
            },
          )
      by_phase nobody is log = let bad : none ≡ some g = sym (log.2.1 c) ∙ ev.0 in absurd (cc)
      by_phase (led d) is log = let bad : none ≡ some g = sym (log.2.1 c) ∙ ev.0 in absurd (cc)
      by_phase (in_hand vs) is (inl log) = let bad : none ≡ some g = sym (log.2.1 c) ∙ ev.0 in absurd (cc)
      by_phase (in_hand vs) is (inr read) = let bad : none ≡ some g = sym (read.5.1 c) ∙ ev.0 in absurd (cc)
      by_phase (stalled vs) is log = let bad : none ≡ some g = sym (log.2.1 c) ∙ ev.0 in absurd (cc)
      by_phase (in_log vs) is log = let bad : none ≡ some g = sym (log.2.1 c) ∙ ev.0 in absurd (cc)
      by_phase (handed d) is log = let bad : none ≡ some g = sym (log.1 c) ∙ ev.0 in absurd (cc)

  -- its leader gives the log on
  pub next_core : (back : Back Request Reply) (g : Squad Request Reply) (own : QueuedWriter Request) (p : Reply) (gs : List (QueuedWriter Request × Reply)) → Stands → IsNext back own p gs a b → IsJoined g back → HasReplies reply_of (all_answers own p gs) ws → IsTaken writer_of reply_of o (core.Next own.by) s [] b
  next_core back g own p gs r ev there has = by_phase s.log refl r.log
    where
      here : a.1.1 ≡ ahead own.by
      here = joined_ahead back g own.by a.1.1 there ev.2

      over : Path (SecondList Request Reply) b.1 (a.1.0, level, a.1.2)
      over = ev.1 ∙ joined_over back g a.1 there

      by_phase : (phase : LogPhase) → s.log ≡ phase → IsLogOf writer_of a.0.1 a.1.1 a.1.2 ws phase → (new : State) × (next s own.by phase ≡ Some new) × IsCoreOf writer_of reply_of [] b (list_half_of new)
      by_phase (handed d) is log =
          let mine : own.by ≡ d = one_ahead own.by d (sym here ∙ log.0) in
          let new : State = record s { log = nobody } in
          let replies : List (Handling Request Reply) = all_answers own p gs in (
            new,
            (λ i. when (eq-eqb own.by d mine i) new),
            record {
              queue = r.queue ∙ ap (λ (k : Core Request Reply). core_queue writer_of k.0) (sym ev.0.1);
              log = (ap (λ (k : Core Request Reply). core_log writer_of k.1) (sym ev.0.1), refl, (ap (λ (x : SecondList Request Reply). x.1) over, λ k. ap (λ (x : SecondList Request Reply). x.2 k) over ∙ log.1 k));
              second = subst (λ gs. HasGroups writer_of gs s.second) (ap (λ (x : SecondList Request Reply). x.0) (sym over)) r.second;
              owed = rearranged_as was_owed waits (handled b.0.3 ++ []) waits (append-nil (handled b.0.3) ∙ (ap (λ (k : Core Request Reply). handled k.3) ev.0.1 ∙ (map-append (answer_in reply_of) a.0.3 replies ∙ (λ i. handled a.0.3 ++ sym has i) ∙ (λ i. handled a.0.3 ++ answered (group_handed_on (sym is i) ws))))) refl r.owed;
            },
          )
      by_phase nobody is log = let bad : level ≡ ahead own.by = sym log.2.0 ∙ here in absurd (cc)
      by_phase (led d) is log = let bad : level ≡ ahead own.by = sym log.2.0 ∙ here in absurd (cc)
      by_phase (in_hand vs) is (inl log) = let bad : level ≡ ahead own.by = sym log.2.0 ∙ here in absurd (cc)
      by_phase (in_hand vs) is (inr read) = let bad : level ≡ ahead own.by = sym read.5.0 ∙ here in absurd (cc)
      by_phase (stalled vs) is log = let bad : level ≡ ahead own.by = sym log.2.0 ∙ here in absurd (cc)
      by_phase (in_log vs) is log = let bad : level ≡ ahead own.by = sym log.2.0 ∙ here in absurd (cc)
      by_phase (marked vs) is log = let bad : level ≡ ahead own.by = sym log.1 ∙ here in absurd (cc)

  -- `next` comes only for the client that is ahead
  pub next_there : (c : ℕ) (new : State) → Stands → step o s (core.Next c) ≡ Some new → a.1.1 ≡ ahead c
  next_there c new r came = by_phase s.log r.log came
    where
      same_one : (d : ℕ) (is : Bool) (t : State) → eqb c d ≡ is → when is t ≡ Some new → c ≡ d
      same_one d true t e came = eqb-true c d e
      same_one d false t e came = absurd (cc)

      by_phase : (phase : LogPhase) → IsLogOf writer_of a.0.1 a.1.1 a.1.2 ws phase → next s c phase ≡ Some new → a.1.1 ≡ ahead c
      by_phase (handed d) log came = log.0 ∙ ap ahead (sym (same_one d (eqb c d) (record s { log = nobody }) refl came))
      by_phase nobody log came = absurd (cc)
      by_phase (led d) log came = absurd (cc)
      by_phase (in_hand vs) log came = absurd (cc)
      by_phase (stalled vs) log came = absurd (cc)
      by_phase (in_log vs) log came = absurd (cc)
      by_phase (marked vs) log came = absurd (cc)

  -- the oldest group leaves the second list
  pub serves_core : (c : ℕ) (g : Squad Request Reply) → o.pipelined ≡ true → IsSame writer_of → Stands → s.table ≡ published → IsServedOut c g a b → IsGroupOf writer_of (line_of g) (first_group s.second) × IsTaken writer_of reply_of o (core.Exit c) s ws b
  serves_core c g two same r is ev =
      let first = groups_first writer_of g b.1.0 s.second (subst (λ gs. HasGroups writer_of gs s.second) ev.1 r.second) in
      let vs : List Writer = first_group s.second in
      let led_by : Bool → Bool = λ x. leads c (if x then vs else logged s.log) in
      let left_by : Bool → State = λ x. record (leave (if x then record s { second = drop 1 s.second } else record s { log = nobody }) (if x then vs else logged s.log)) { table = still } in
      let leads_g : leads c vs ≡ true = subst (λ d. leads d vs ≡ true) ev.0 (group_leads writer_of same g.own g.rest vs first.0) in (
        first.0,
        (
          left_by true,
          (λ i. exit o s c (is i)) ∙ ((λ i. if led_by (two i) then Some (left_by (two i)) else exit_reader s c s.log) ∙ (λ i. if leads_g i then Some (left_by true) else exit_reader s c s.log)),
          record {
            queue = r.queue ∙ ap (λ (k : Core Request Reply). core_queue writer_of k.0) (sym ev.2);
            log = same_log writer_of a.0.1 b.0.1 a.1.1 b.1.1 a.1.2 b.1.2 ws s.log (ap (λ (k : Core Request Reply). k.1) ev.2) ev.3 ev.4 r.log;
            second = first.1;
            owed = rearranged_as was_owed waits (handled b.0.3 ++ answered (group_handed_on s.log ws)) (answered ((s.leaving ++ vs) ++ writers_in (drop 1 s.second))) (λ i. handled ((ev.2 i).3) ++ answered (group_handed_on s.log ws))
                (ap answered (append_assoc s.leaving vs (writers_in (drop 1 s.second))) ∙ ap (λ l. answered (s.leaving ++ l)) (sym first.2)) r.owed;
          },
        ),
      )

  -- a writer comes
  pub comes_core : (e : QueuedWriter Request) → Stands → HappensAlone (comes e) a b → IsCommit o s e.by (writer_of e) → IsTaken writer_of reply_of o (core.Link e.by) s ws b
  comes_core e r ev commits =
      let more : core_queue writer_of (e ∷ a.0.0) ≡ core_queue writer_of a.0.0 ++ writer_of e ∷ [] = ap (map writer_of) (reverse-append (e ∷ []) a.0.0) ∙ map-append writer_of (reverse a.0.0) (e ∷ []) in
      let c : ℕ = e.by in
      let client : Client = commits.0 in
      let how : WriteOptions = commits.1 in
      let ready = next_call client in
      let w : Writer = record { client = c; options = how; records = ready.client.added; since = None; answer = None } in
      let lets_in = unstalled writer_of a.0.1 a.1.1 a.1.2 ws how s.log r.log ev.0.0.1 in
      let new : State = record (with_client s c (record ready.client { idle = false })) { queue = s.queue ++ w ∷ [] } in (
        new,
        (λ i. link o s c (commits.2 i)) ∙ ((λ i. if commits.3 i then link_call o s c ready.client (commits.4 i) else None) ∙ ((λ i. link_or_refuse o s c ready.client how (refusal_in s.log how (commits.5 i))) ∙ ((λ i. link_or_refuse o s c ready.client how (lets_in.0 i)) ∙ (λ i. when (lets_in.1 i) (link_with o s c ready.client how None))))),
        record {
          queue = (λ i. r.queue i ++ sym commits.6 i ∷ []) ∙ (sym more ∙ ap (λ (k : Core Request Reply). core_queue writer_of k.0) (sym ev.0.1));
          log = same_log writer_of a.0.1 b.0.1 a.1.1 b.1.1 a.1.2 b.1.2 ws s.log (ap (λ (k : Core Request Reply). k.1) ev.0.1) (ap (λ (x : SecondList Request Reply). x.1) ev.1) (ap (λ (x : SecondList Request Reply). x.2) ev.1) r.log;
          second = subst (λ gs. HasGroups writer_of gs s.second) (ap (λ (x : SecondList Request Reply). x.0) (sym ev.1)) r.second;
          owed = rearranged_as was_owed waits (handled b.0.3 ++ answered (group_handed_on s.log ws)) waits (λ i. handled ((ev.0.1 i).3) ++ answered (group_handed_on s.log ws)) refl r.owed;
        },
      )

  -- so does one that is to read the log
  pub reader_comes : (e : QueuedWriter Request) → Stands → HappensAlone (comes e) a b → IsUpdates s e.by (writer_of e) → IsTaken writer_of reply_of o (core.Link e.by) s ws b
  reader_comes e r ev asks =
      let more : core_queue writer_of (e ∷ a.0.0) ≡ core_queue writer_of a.0.0 ++ writer_of e ∷ [] = ap (map writer_of) (reverse-append (e ∷ []) a.0.0) ∙ map-append writer_of (reverse a.0.0) (e ∷ []) in
      let c : ℕ = e.by in
      let client : Client = asks.0 in
      let n : ℕ = asks.1 in
      let ready = next_call client in
      let lets_in = unstalled writer_of a.0.1 a.1.1 a.1.2 ws plain_options s.log r.log ev.0.0.1 in
      let new : State = link_read s c ready.client n in (
        new,
        (λ i. link o s c (asks.2 i)) ∙ ((λ i. if asks.3 i then link_call o s c ready.client (asks.4 i) else None) ∙ (λ i. when (lets_in.1 i) new)),
        record {
          queue = (λ i. r.queue i ++ sym asks.5 i ∷ []) ∙ (sym more ∙ ap (λ (k : Core Request Reply). core_queue writer_of k.0) (sym ev.0.1));
          log = same_log writer_of a.0.1 b.0.1 a.1.1 b.1.1 a.1.2 b.1.2 ws s.log (ap (λ (k : Core Request Reply). k.1) ev.0.1) (ap (λ (x : SecondList Request Reply). x.1) ev.1) (ap (λ (x : SecondList Request Reply). x.2) ev.1) r.log;
          second = subst (λ gs. HasGroups writer_of gs s.second) (ap (λ (x : SecondList Request Reply). x.0) (sym ev.1)) r.second;
          owed = rearranged_as was_owed waits (handled b.0.3 ++ answered (group_handed_on s.log ws)) waits (λ i. handled ((ev.0.1 i).3) ++ answered (group_handed_on s.log ws)) refl r.owed;
        },
      )

  -- a leader that is alone has read the log
  pub reads_core : (own : QueuedWriter Request) (n : ℕ) → IsSame writer_of → Stands → a.0.1 ≡ grouped own [] → (writer_of own).since ≡ Some n → (writer_of own).answer ≡ None → s.log ≡ in_hand (writer_of own ∷ []) → IsTaken writer_of reply_of o (core.Since own.by) s ws a
  reads_core own n same r held reads unanswered is =
      let w : Writer = writer_of own in
      let new : State = record s { log = in_hand (record w { answer = Some (read_at s.last) } ∷ []) } in (
        new,
        (λ i. read_log s own.by (is i)) ∙ ((λ i. if eq-eqb w.client own.by (same own) i then answer_read s w w.since w.answer else None) ∙ (λ i. answer_read s w (reads i) (unanswered i))),
        record {
          queue = r.queue;
          log = inr (own, read_at s.last, held, ap is_some reads, refl, still_there (subst (IsLogOf writer_of a.0.1 a.1.1 a.1.2 ws) is r.log));
          second = r.second;
          owed = rearranged_as was_owed waits (handled a.0.3 ++ []) waits (λ i. handled a.0.3 ++ answered (group_handed_on (sym is i) ws)) refl r.owed;
        },
      )
    where
      still_there : IsLogOf writer_of a.0.1 a.1.1 a.1.2 ws (in_hand (writer_of own ∷ [])) → IsSettled a.1.1 a.1.2
      still_there (inl log) = log.2
      still_there (inr read) = read.5

  pub settled : (l l' : Lead2) (f f' : ℕ → Option (Squad Request Reply)) → l' ≡ l → f' ≡ f → IsSettled l f → IsSettled l' f'
  settled l l' f f' el ef is = (el ∙ is.0, λ k. ap (λ x. x k) ef ∙ is.1 k)

  -- what is owed, where no group is handed on
  pub owed_plain : Stands → group_handed_on s.log ws ≡ [] → IsRearranged (handled a.0.3) waits
  owed_plain r none_on = rearranged_as was_owed waits (handled a.0.3) waits (sym (append-nil (handled a.0.3)) ∙ (λ i. handled a.0.3 ++ answered (sym none_on i))) refl r.owed

  -- where nothing is logged, no group is handed on
  pub none_handed : (held : LogHolder Request) → s.log ≡ core_log writer_of held → group_handed_on s.log ws ≡ []
  none_handed held is = ap (λ l. group_handed_on l ws) is ∙ plain held
    where
      plain : (h : LogHolder Request) → group_handed_on (core_log writer_of h) ws ≡ []
      plain free = refl
      plain (elected c) = refl
      plain (grouped own group) = refl
      plain (halted own group) = refl

  -- the oldest one leads
  pub leads_core : (e : QueuedWriter Request) → IsSame writer_of → Stands → HappensAlone (elects e) a b → IsTaken writer_of reply_of o (core.Elect e.by) s [] b
  leads_core e same r ev =
      let u = unlogged writer_of a.0.1 a.1.1 a.1.2 ws s.log (λ own group is. let bad : Path (LogHolder Request) free (grouped own group) = sym ev.0.0.0 ∙ is in absurd (cc)) r.log in
      let is : s.log ≡ nobody = u.0 ∙ ap (core_log writer_of) ev.0.0.0 in
      let first : leads e.by s.queue ≡ true = ap (leads e.by) (r.queue ∙ ap (core_queue writer_of) ev.0.0.1.1) ∙ first_leads writer_of same e ev.0.0.1.0 in
      let new : State = record s { log = led e.by } in (
        new,
        (λ i. elect s e.by (is i)) ∙ (λ i. when (first i) new),
        record {
          queue = r.queue ∙ ap (λ (k : Core Request Reply). core_queue writer_of k.0) (sym ev.0.1);
          log = (ap (λ (k : Core Request Reply). core_log writer_of k.1) (sym ev.0.1), refl, settled a.1.1 b.1.1 a.1.2 b.1.2 (ap (λ (x : SecondList Request Reply). x.1) ev.1) (ap (λ (x : SecondList Request Reply). x.2) ev.1) u.2);
          second = subst (λ gs. HasGroups writer_of gs s.second) (ap (λ (x : SecondList Request Reply). x.0) (sym ev.1)) r.second;
          owed = rearranged_as (handled a.0.3) waits (handled b.0.3 ++ []) waits (append-nil (handled b.0.3) ∙ (λ i. handled ((ev.0.1 i).3))) refl (owed_plain r (none_handed a.0.1 u.0));
        },
      )

  -- the leader builds its group
  pub groups_core : (own : QueuedWriter Request) (group left : List (QueuedWriter Request)) → IsSame writer_of → HasItems writer_of a.0.0 → Stands → HappensAlone (builds o.group_bytes own group left) a b → IsTaken writer_of reply_of o (core.Build own.by) s [] b
  groups_core own group left same has r ev =
      let u = unlogged writer_of a.0.1 a.1.1 a.1.2 ws s.log (λ own' group' is. let bad : Path (LogHolder Request) (elected own.by) (grouped own' group') = sym ev.0.0.0 ∙ is in absurd (cc)) r.log in
      let is : s.log ≡ led own.by = u.0 ∙ ap (core_log writer_of) ev.0.0.0 in
      let new : State = record s { log = in_hand (take (group_size o s) s.queue); queue = drop (group_size o s) s.queue } in
      let half = builds_core writer_of o s a.0 own group left r.queue has ev.0.0 in (
        new,
        (λ i. build o s own.by (is i)) ∙ (λ i. when (eq-eqb own.by own.by refl i) new),
        record {
          queue = half.1 ∙ ap (λ (k : Core Request Reply). core_queue writer_of k.0) (sym ev.0.1);
          log = inl ((ap in_hand half.0 ∙ ap (λ (k : Core Request Reply). core_log writer_of k.1) (sym ev.0.1), refl, settled a.1.1 b.1.1 a.1.2 b.1.2 (ap (λ (x : SecondList Request Reply). x.1) ev.1) (ap (λ (x : SecondList Request Reply). x.2) ev.1) u.2));
          second = subst (λ gs. HasGroups writer_of gs s.second) (ap (λ (x : SecondList Request Reply). x.0) (sym ev.1)) r.second;
          owed = rearranged_as (handled a.0.3) waits (handled b.0.3 ++ []) waits (append-nil (handled b.0.3) ∙ (λ i. handled ((ev.0.1 i).3))) refl (owed_plain r (none_handed a.0.1 u.0));
        },
      )

  -- the group in hand has its writers
  pub in_hand_is : (vs : List Writer) → Stands → s.log ≡ in_hand vs → is_alone vs ≡ false → IsUnlogged writer_of a.0.1 a.1.1 a.1.2 ws (in_hand vs)
  in_hand_is vs r is writes = by (subst (IsLogOf writer_of a.0.1 a.1.1 a.1.2 ws) is r.log)
    where
      by : IsLogOf writer_of a.0.1 a.1.1 a.1.2 ws (in_hand vs) → IsUnlogged writer_of a.0.1 a.1.1 a.1.2 ws (in_hand vs)
      by (inl log) = log
      by (inr read) = absurd (let bad : true ≡ false = sym (ap is_alone read.4 ∙ read.3) ∙ writes in cc)

  pub writers_are : (vs : List Writer) (own : QueuedWriter Request) (group : List (QueuedWriter Request)) → Stands → s.log ≡ in_hand vs → is_alone vs ≡ false → a.0.1 ≡ grouped own group → vs ≡ core_queue writer_of (group ++ own ∷ [])
  writers_are vs own group r is writes held = one_built vs (core_queue writer_of (group ++ own ∷ [])) ((in_hand_is vs r is writes).0 ∙ ap (core_log writer_of) held)

  -- the core logs the group in hand
  pub logs_there : (now vs : List Writer) (own : QueuedWriter Request) (group : List (QueuedWriter Request)) → IsSame writer_of → Stands → a.0.1 ≡ grouped own group → s.log ≡ in_hand vs → s.log_failed ≡ false → is_alone vs ≡ false → now ≡ with_runs s.assigned vs → list_any has_run now ≡ true → IsTaken writer_of reply_of o (core.Log own.by) s now a
  logs_there now vs own group same r held is alive writes runs one =
      let u = in_hand_is vs r is writes in
      let theirs : vs ≡ core_queue writer_of (group ++ own ∷ []) = writers_are vs own group r is writes held in
      let first : leads own.by vs ≡ true = ap (leads own.by) theirs ∙ first_leads writer_of same own group in
      let new : State = with_group s now (entries_of s now) in
      let off : State = record (leave s now) { log = nobody } in (
        new,
        (λ i. log_group s own.by (is i)) ∙ ((λ i. when (first i && not (writes i) && not (alive i)) (logged_group s (sym runs i))) ∙ (λ i. Some (if one i then new else off))),
        record {
          queue = r.queue;
          log = (refl, (own, group, held, ap (map without_answer) runs ∙ (runs_kept s.assigned vs ∙ ap (map without_answer) theirs)), u.2);
          second = r.second;
          owed = rearranged_as (handled a.0.3) waits (handled a.0.3 ++ []) waits (append-nil (handled a.0.3)) refl (owed_plain r (none_handed a.0.1 (is ∙ u.0)));
        },
      )

  -- the group in hand leaves
  leaves_there : (own : QueuedWriter Request) (p : Reply) (gs : List (QueuedWriter Request × Reply)) (now : List Writer) → Stands → IsSettled a.1.1 a.1.2 → group_handed_on s.log ws ≡ [] → IsExit own p gs a b → HasReplies reply_of (all_answers own p gs) now → IsCoreOf writer_of reply_of [] b (left_with s now)
  leaves_there own p gs now r still_there none_on ev has =
      let replies : List (Handling Request Reply) = all_answers own p gs in
      let left : List (ℕ × Answer CoreReply) = answered s.leaving in
      let behind : List (ℕ × Answer CoreReply) = answered (writers_in s.second) in
      let was : IsRearranged (handled a.0.3) (left ++ behind) = rearranged_as (handled a.0.3) waits (handled a.0.3) (left ++ behind) refl (sym (map-append answer_of s.leaving (writers_in s.second))) (owed_plain r none_on) in record {
        queue = r.queue ∙ ap (λ (k : Core Request Reply). core_queue writer_of k.0) (sym ev.0.1);
        log = (ap (λ (k : Core Request Reply). core_log writer_of k.1) (sym ev.0.1), refl, settled a.1.1 b.1.1 a.1.2 b.1.2 (ap (λ (x : SecondList Request Reply). x.1) ev.1) (ap (λ (x : SecondList Request Reply). x.2) ev.1) still_there);
        second = subst (λ gs. HasGroups writer_of gs s.second) (ap (λ (x : SecondList Request Reply). x.0) (sym ev.1)) r.second;
        owed = rearranged_as (handled a.0.3 ++ handled replies) ((left ++ handled replies) ++ behind) (handled b.0.3 ++ []) (answered ((s.leaving ++ now) ++ writers_in s.second)) (append-nil (handled b.0.3) ∙ (ap (λ (k : Core Request Reply). handled k.3) ev.0.1 ∙ map-append (answer_in reply_of) a.0.3 replies))
            (map-append answer_of (s.leaving ++ now) (writers_in s.second) ∙ ap (λ l. l ++ behind) (map-append answer_of s.leaving now ∙ ap (λ l. left ++ l) has))
            (rearranged_within (handled a.0.3) left behind (handled replies) was);
      }

  -- the group in hand leaves, with nothing logged
  unlogged_leaves : (own : QueuedWriter Request) (p : Reply) (gs : List (QueuedWriter Request × Reply)) (vs now : List Writer) → Stands → IsExit own p gs a b → s.log ≡ in_hand vs → is_alone vs ≡ false → HasReplies reply_of (all_answers own p gs) now → IsCoreOf writer_of reply_of [] b (left_with s now)
  unlogged_leaves own p gs vs now r ev is writes has = leaves_there own p gs now r (in_hand_is vs r is writes).2 (ap (λ l. group_handed_on l ws) is) ev has

  -- the leader of a group that leaves is the first of its writers
  first_of_exit : (own : QueuedWriter Request) (p : Reply) (gs : List (QueuedWriter Request × Reply)) (vs : List Writer) → IsSame writer_of → Stands → IsExit own p gs a b → s.log ≡ in_hand vs → is_alone vs ≡ false → leads own.by vs ≡ true
  first_of_exit own p gs vs same r ev is writes =
      let own' : QueuedWriter Request = ev.0.0.0 in
      let group : List (QueuedWriter Request) = ev.0.0.1 in
      let by : own.by ≡ own'.by = ap (λ (l : List (ℕ × Request)). (first_or (was_for (handling own p)) l).0) ev.0.0.3 in
      subst (λ c. leads c vs ≡ true) (sym by) (ap (leads own'.by) (writers_are vs own' group r is writes ev.0.0.2) ∙ first_leads writer_of same own' group)

  pub log_leaves : (now vs : List Writer) (own : QueuedWriter Request) (p : Reply) (gs : List (QueuedWriter Request × Reply)) → IsSame writer_of → Stands → IsExit own p gs a b → s.log ≡ in_hand vs → s.log_failed ≡ false → is_alone vs ≡ false → now ≡ with_runs s.assigned vs → list_any has_run now ≡ false → HasReplies reply_of (all_answers own p gs) now
      → IsTaken writer_of reply_of o (core.Log own.by) s [] b
  log_leaves now vs own p gs same r ev is alive writes runs no_run has =
      let first : leads own.by vs ≡ true = first_of_exit own p gs vs same r ev is writes in
      let on : State = with_group s now (entries_of s now) in
      let new : State = record (leave s now) { log = nobody } in
      (new, (λ i. log_group s own.by (is i)) ∙ ((λ i. when (first i && not (writes i) && not (alive i)) (logged_group s (sym runs i))) ∙ (λ i. Some (if no_run i then on else new))), unlogged_leaves own p gs vs now r ev is writes has)

  -- each member gets the same answer
  given_there : (reply : CoreReply) (own : QueuedWriter Request) (p : Reply) (gs : List (QueuedWriter Request × Reply)) (vs : List Writer) → IsSame writer_of → Stands → IsExit own p gs a b → s.log ≡ in_hand vs → is_alone vs ≡ false → AllHave reply_of reply (all_answers own p gs) → HasReplies reply_of (all_answers own p gs) (all_answered reply vs)
  given_there reply own p gs vs same r ev is writes ok =
      subst (λ w. HasReplies reply_of (all_answers own p gs) (all_answered reply w)) (sym (writers_are vs ev.0.0.0 ev.0.0.1 r is writes ev.0.0.2)) (group_given reply_of writer_of same reply ev.0.0.0 ev.0.0.1 (all_answers own p gs) ev.0.0.3 ok)

  pub fault_leaves : (vs : List Writer) (own : QueuedWriter Request) (p : Reply) (gs : List (QueuedWriter Request × Reply)) → IsSame writer_of → Stands → IsExit own p gs a b → s.log ≡ in_hand vs → is_alone vs ≡ false → AllHave reply_of (refused (no.LogFault 1)) (all_answers own p gs) → IsTaken writer_of reply_of o (core.Fault own.by) s [] b
  fault_leaves vs own p gs same r ev is writes ok =
      let now : List Writer = all_answered (refused (no.LogFault 1)) vs in
      let first : leads own.by vs ≡ true = first_of_exit own p gs vs same r ev is writes in
      let new : State = record (leave s now) { log = nobody; log_failed = true } in
      (new, (λ i. fault s own.by (is i)) ∙ (λ i. when (first i && not (writes i)) new), unlogged_leaves own p gs vs now r ev is writes (given_there (refused (no.LogFault 1)) own p gs vs same r ev is writes ok))

  pub refuse_leaves : (vs : List Writer) (own : QueuedWriter Request) (p : Reply) (gs : List (QueuedWriter Request × Reply)) (stops delays wait : ℕ) → IsSame writer_of → Stands → IsExit own p gs a b → s.log ≡ in_hand vs → is_alone vs ≡ false → is_no_slowdown vs ≡ true → AllHave reply_of (refused (no.Incomplete stops delays wait)) (all_answers own p gs)
      → IsTaken writer_of reply_of o (core.Refuse own.by stops delays wait) s [] b
  refuse_leaves vs own p gs stops delays wait same r ev is writes unslowed ok =
      let reply : CoreReply = refused (no.Incomplete stops delays wait) in
      let now : List Writer = all_answered reply vs in
      let first : leads own.by vs ≡ true = first_of_exit own p gs vs same r ev is writes in
      let new : State = record (leave s now) { log = nobody } in
      (new, (λ i. refuse s own.by (no.Incomplete stops delays wait) (is i)) ∙ (λ i. when (first i && unslowed i) new), unlogged_leaves own p gs vs now r ev is writes (given_there reply own p gs vs same r ev is writes ok))

  -- a client gets its reply
  pub told_core : (e : QueuedWriter Request) (p : Reply) (client : Client) → IsSame writer_of → Stands → IsComplete e p a b → IsNotWith e.by a.0.1 → Absent e.by (flat a.1.0) → client_at s e.by ≡ Some client → HasLeft s e.by (reply_of p) × IsTaken writer_of reply_of o (core.Complete e.by) s ws b
  told_core e p client same r ev unheld out there =
      let c : ℕ = e.by in
      let off : Out c (writers_in s.second) = groups_out writer_of same c a.1.0 s.second out r.second in
      let kept : List Writer = filter (λ (w : Writer). not (eqb w.client c)) s.leaving in
      let mine : List (ℕ × Answer CoreReply) = (c, Some (reply_of p)) ∷ [] in
      let left : List (ℕ × Answer CoreReply) = filter (belongs c) (answered s.leaving) in
      let one : left ≡ mine = rearranged_one (c, Some (reply_of p)) left (rearranged_as (filter (belongs c) was_owed) (filter (belongs c) waits) mine left
      (sym (append-nil mine) ∙ ((λ i. (ap (map (own_answer reply_of c)) (sym ev.0.0) ∙ sym (own_replies reply_of c a.0.3)) i ++ sym (out_own c (group_handed_on s.log ws) (in_hand_out s.log r.log)) i) ∙ sym (filter-append (belongs c) (handled a.0.3) (answered (group_handed_on s.log ws)))))
      (sym (append-nil left) ∙ ((λ i. left ++ sym (out_own c (writers_in s.second) off) i) ∙ (sym (filter-append (belongs c) (answered s.leaving) (answered (writers_in s.second))) ∙ ap (filter (belongs c)) (sym (map-append answer_of s.leaving (writers_in s.second))))))
      (rearranged_filter (belongs c) was_owed waits r.owed)) in
      let found = found_first c s.leaving (c, Some (reply_of p)) [] one in
      let w : Writer = found.0 in
      let reply : w.answer ≡ Some (reply_of p) = ap (λ (x : ℕ × Answer CoreReply). x.1) found.2 in
      let new : State = record (with_client s c (after_completion client w (reply_told s w.since (reply_of p)))) { leaving = kept } in (
        (w, client, there, found.1, reply),
        (
          new,
          (λ i. complete s c (found.1 i)) ∙ (λ i. complete_with s c (there i) w (reply i)),
          record {
            queue = r.queue ∙ ap (λ (k : Core Request Reply). core_queue writer_of k.0) (sym ev.0.1);
            log = same_log writer_of a.0.1 b.0.1 a.1.1 b.1.1 a.1.2 b.1.2 ws s.log (ap (λ (k : Core Request Reply). k.1) ev.0.1) (ap (λ (x : SecondList Request Reply). x.1) ev.1) (ap (λ (x : SecondList Request Reply). x.2) ev.1) r.log;
            second = subst (λ gs. HasGroups writer_of gs s.second) (ap (λ (x : SecondList Request Reply). x.0) (sym ev.1)) r.second;
            owed = rearranged_as (filter (stays c) was_owed) (filter (stays c) waits) (handled b.0.3 ++ answered (group_handed_on s.log ws)) (answered (kept ++ writers_in s.second))
                ((λ i. handled ((ev.0.1 i).3) ++ answered (group_handed_on s.log ws)) ∙ ((λ i. sym (told_handled a.0.3) i ++ sym (out_stays c (group_handed_on s.log ws) (in_hand_out s.log r.log)) i) ∙ sym (filter-append (stays c) (handled a.0.3) (answered (group_handed_on s.log ws)))))
                (map-append answer_of kept (writers_in s.second) ∙ ((λ i. sym (told_writers s.leaving) i ++ sym (out_stays c (writers_in s.second) off) i) ∙ (sym (filter-append (stays c) (answered s.leaving) (answered (writers_in s.second))) ∙ ap (filter (stays c)) (sym (map-append answer_of s.leaving (writers_in s.second))))))
                (rearranged_filter (stays c) was_owed waits r.owed);
          },
        ),
      )
    where
      told_one : {A B : Type 0} (f : A → B) (x : Bool) (y : A) (ys : List A) → map f (cond x (y ∷ ys) ys) ≡ cond x (f y ∷ map f ys) (map f ys)
      told_one f true y ys = refl
      told_one f false y ys = refl

      told_handled : (hs : List (Handling Request Reply)) → filter (stays e.by) (handled hs) ≡ handled (without e.by hs)
      told_handled [] = refl
      told_handled (h ∷ hs) = ap (λ l. cond (not (eqb h.by e.by)) (answer_in reply_of h ∷ l) l) (told_handled hs) ∙ sym (told_one (answer_in reply_of) (not (eqb h.by e.by)) h (without e.by hs))

      told_writers : (vs : List Writer) → filter (stays e.by) (answered vs) ≡ answered (filter (λ (w : Writer). not (eqb w.client e.by)) vs)
      told_writers [] = refl
      told_writers (w ∷ vs) = ap (λ l. cond (not (eqb w.client e.by)) (answer_of w ∷ l) l) (told_writers vs) ∙ sym (told_one answer_of (not (eqb w.client e.by)) w (filter (λ (x : Writer). not (eqb x.client e.by)) vs))

      in_hand_out : (phase : LogPhase) → IsLogOf writer_of a.0.1 a.1.1 a.1.2 ws phase → Out e.by (group_handed_on phase ws)
      in_hand_out nobody log = tt
      in_hand_out (led d) log = tt
      in_hand_out (in_hand vs) log = tt
      in_hand_out (stalled vs) log = tt
      in_hand_out (in_log vs) log = tt
      in_hand_out (marked vs) log = tt
      in_hand_out (handed d) log = group_out writer_of same e.by (log.2.1 ++ log.2.0 ∷ []) ws (let away = subst (IsNotWith e.by) log.2.2 unheld in absent_append e.by log.2.1 (log.2.0 ∷ []) away.1 (away.0, tt)) log.2.4

  -- where there is one stage, a logged group leaves once it is published
  pub exits_core : (own : QueuedWriter Request) (p : Reply) (gs : List (QueuedWriter Request × Reply)) → o.pipelined ≡ false → IsSame writer_of → Stands → s.log ≡ in_log ws → s.table ≡ published → IsExit own p gs a b → HasReplies reply_of (all_answers own p gs) ws → IsTaken writer_of reply_of o (core.Exit own.by) s [] b
  exits_core own p gs one same r is there ev has =
      let log : IsLogOf writer_of a.0.1 a.1.1 a.1.2 ws (in_log ws) = subst (IsLogOf writer_of a.0.1 a.1.1 a.1.2 ws) is r.log in
      let own' : QueuedWriter Request = ev.0.0.0 in
      let group : List (QueuedWriter Request) = ev.0.0.1 in
      let by : own.by ≡ own'.by = ap (λ (l : List (ℕ × Request)). (first_or (was_for (handling own p)) l).0) ev.0.0.3 in
      let theirs : IsGroupOf writer_of (group ++ own' ∷ []) ws = subst (λ es. IsGroupOf writer_of es ws) (ap line_held (sym log.1.2 ∙ ev.0.0.2)) log.1.3 in
      let first : leads own.by ws ≡ true = subst (λ d. leads d ws ≡ true) (sym by) (group_leads writer_of same own' group ws theirs) in
      let group_by : Bool → LogPhase → List Writer = λ x l. if x then first_group s.second else logged l in
      let left_by : Bool → LogPhase → State = λ x l. record (leave (if x then record s { second = drop 1 s.second } else record s { log = nobody }) (group_by x l)) { table = still } in (
        left_by false (in_log ws),
        (λ i. exit o s own.by (there i)) ∙ ((λ i. if leads own.by (group_by (one i) (is i)) then Some (left_by (one i) (is i)) else exit_reader s own.by s.log) ∙ (λ i. if first i then Some (left_by false (in_log ws)) else exit_reader s own.by s.log)),
        leaves_there own p gs ws r log.2 (ap (λ l. group_handed_on l ws) is) ev has,
      )

  -- a client that has read the log leaves with its answer
  pub reader_leaves : (own : QueuedWriter Request) (reply : CoreReply) (p : Reply) (gs : List (QueuedWriter Request × Reply)) → IsSame writer_of → Stands → is_some (writer_of own).since ≡ true → s.log ≡ in_hand (record (writer_of own) { answer = Some reply } ∷ []) → leads own.by (table_group o s) ≡ false
      → IsExit own p gs a b → AllHave reply_of reply (all_answers own p gs) → IsTaken writer_of reply_of o (core.Exit own.by) s [] b
  reader_leaves own reply p gs same r reads is apart ev ok =
      let there = alone_there (subst (IsLogOf writer_of a.0.1 a.1.1 a.1.2 ws) is r.log) in
      let answers : Path (List (ℕ × Answer CoreReply)) (answered (w ∷ [])) (answered (all_answered reply (writer_of own' ∷ []))) = λ i. ((same own ∙ (by ∙ sym (same own'))) i, Some reply) ∷ [] in
      let has : HasReplies reply_of (all_answers own p gs) (w ∷ []) =
      answers ∙ (ap (λ es. answered (all_answered reply (core_queue writer_of (es ++ own' ∷ [])))) (sym there.0) ∙ group_given reply_of writer_of same reply own' group (all_answers own p gs) ev.0.0.3 ok) in
      (new, exits s.table, leaves_there own p gs (w ∷ []) r there.1 (ap (λ l. group_handed_on l ws) is) ev has)
    where
      w : Writer
      w = record (writer_of own) { answer = Some reply }

      own' : QueuedWriter Request
      own' = ev.0.0.0

      group : List (QueuedWriter Request)
      group = ev.0.0.1

      by : own.by ≡ own'.by
      by = ap (λ (l : List (ℕ × Request)). (first_or (was_for (handling own p)) l).0) ev.0.0.3

      -- its group is it alone
      alone_there : IsLogOf writer_of a.0.1 a.1.1 a.1.2 ws (in_hand (w ∷ [])) → (group ≡ []) × IsSettled a.1.1 a.1.2
      alone_there (inl log) = (none_else writer_of w own' group (one_built (w ∷ []) (core_queue writer_of (group ++ own' ∷ [])) (log.0 ∙ ap (core_log writer_of) ev.0.0.2)), log.2)
      alone_there (inr read) = (none_before group own' read.0 (ap line_held (sym ev.0.0.2 ∙ read.2)), read.5)

      new : State
      new = record (leave s (w ∷ [])) { log = nobody }

      leaves_alone : exit_reader s own.by s.log ≡ Some new
      leaves_alone = (λ i. exit_reader s own.by (is i)) ∙ (λ i. when (eq-eqb w.client own.by (same own) i && reads i && true) new)

      exits : (phase : TablePhase) → exit o s own.by phase ≡ Some new
      exits published = (λ i. if apart i then Some (record (leave (without_table_group o s) (table_group o s)) { table = still }) else exit_reader s own.by s.log) ∙ leaves_alone
      exits still = leaves_alone
      exits (launched ins fin) = leaves_alone
