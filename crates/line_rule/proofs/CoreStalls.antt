-- The events of a stall are events of the core.
use Rattle.std.proofs.Common.{◌≡◌, ℕ, eqb, true, false, not, ◌&&◌, List, [], ◌∷◌, ◌++◌, map, Option as Answer, Some, refl, sym, ap, ◌∙◌, subst, append-nil, append_assoc, eq-eqb, ne_eqb, cond, filter, reverse, find, if◌then◌else◌, None, inl}
use Rattle.std.proofs.lemmas.List.{map-append, reverse-append}
use mathlib.Core.Path.{Path}
use Rattle.model_base.specs.Calls.{Reply as CoreReply, refused, commit}
use Rattle.model_base.specs.declared.group.Item.{Item}
use Rattle.model_base.specs.declared.write.Refusal.{Refusal}
use Rattle.model_base.specs.declared.write.WriteOptions.{WriteOptions}
use Rattle.model_core.specs.declared.event.Event.TheVariants as core
use Rattle.model_core.specs.Core.{Options, Writer, built as in_hand, stalled, State, Client, leads, item_of as item_of_writer, stall_refusal, with_client, next_call, after_reply, refusal_in, may_link, is_alone}
use Rattle.model_core.specs.CoreLaw.{writers_in}
use Rattle.model_core.specs.Halves.{list_half_of}
use Rattle.model_core.specs.Step.{step, when, link, link_call, link_or_refuse, link_with, link_read, stall, unstall, left_queue, leave_with, leave_queue, is_no_slowdown}
use Rattle.line_rule.specs.declared.view.QueuedWriter.{QueuedWriter}
use Rattle.line_rule.specs.declared.view.Handling.{Handling}
use Rattle.line_rule.specs.Chain.{Absent, handling}
use Rattle.line_rule.specs.CoreEvents.{IsSame, core_queue, core_log, answer_of, answer_in, HasItems, IsCoreOf, IsRearranged, group_handed_on, HasGroups, IsLogOf, IsTaken, IsCommit, IsUpdates, IsRefusedAtOnce}
use Rattle.line_rule.specs.Events.{Core, LogHolder, grouped, halted, stalls, drops, resumes}
use Rattle.line_rule.specs.Grouping.{item_of}
use Rattle.line_rule.specs.SecondList.{SecondList}
use Rattle.line_rule.specs.Steps.{Lists, HappensAlone, IsStalled}
use Rattle.line_rule.proofs.CoreGroups.{first_leads, rearranged_as, rearranged_within, Out, absent_writers, absent_back_to_front}
use Rattle.line_rule.proofs.CoreSteps.{unlogged, settled, owed_plain, none_handed, in_hand_is, writers_are}
use Rattle.line_rule.proofs.Groups.{absent_front, absent_back}

-- a writer is found behind others, and left out
find_past : (c : ℕ) (a : List Writer) (w : Writer) (b : List Writer) → Out c a → w.client ≡ c → find (λ (x : Writer). eqb x.client c) (a ++ w ∷ b) ≡ Some w
find_past c [] w b out is = ap (λ z. cond z (Some w) (find (λ (x : Writer). eqb x.client c) b)) (eq-eqb w.client c is)
find_past c (v ∷ a) w b out is = ap (λ z. cond z (Some v) (find (λ (x : Writer). eqb x.client c) (a ++ w ∷ b))) (ne_eqb v.client c out.0) ∙ find_past c a w b out.1 is

filter_out : (c : ℕ) (a : List Writer) → Out c a → filter (λ (x : Writer). not (eqb x.client c)) a ≡ a
filter_out c [] out = refl
filter_out c (v ∷ a) out = ap (λ z. cond (not z) (v ∷ filter (λ (x : Writer). not (eqb x.client c)) a) (filter (λ (x : Writer). not (eqb x.client c)) a)) (ne_eqb v.client c out.0) ∙ ap (λ l. v ∷ l) (filter_out c a out.1)

filter_past : (c : ℕ) (a : List Writer) (w : Writer) (b : List Writer) → Out c a → w.client ≡ c → Out c b → filter (λ (x : Writer). not (eqb x.client c)) (a ++ w ∷ b) ≡ a ++ b
filter_past c [] w b out is out_b = ap (λ z. cond (not z) (w ∷ filter (λ (x : Writer). not (eqb x.client c)) b) (filter (λ (x : Writer). not (eqb x.client c)) b)) (eq-eqb w.client c is) ∙ filter_out c b out_b
filter_past c (v ∷ a) w b out is out_b = ap (λ z. cond (not z) (v ∷ filter (λ (x : Writer). not (eqb x.client c)) (a ++ w ∷ b)) (filter (λ (x : Writer). not (eqb x.client c)) (a ++ w ∷ b))) (ne_eqb v.client c out.0) ∙ ap (λ l. v ∷ l) (filter_past c a w b out.1 is out_b)

module _ {Request : Type 0} (writer_of : QueuedWriter Request → Writer) where
  item_at : (a : List (QueuedWriter Request)) (e : QueuedWriter Request) (b : List (QueuedWriter Request)) → HasItems writer_of (a ++ e ∷ b) → item_of_writer (writer_of e) ≡ item_of e.code
  item_at [] e b has = has.0
  item_at (f ∷ a) e b has = item_at a e b has.1

  -- the core's queue, around a writer, and without it
  queue_around : (newer : List (QueuedWriter Request)) (e : QueuedWriter Request) (older : List (QueuedWriter Request)) → core_queue writer_of (newer ++ e ∷ older) ≡ map writer_of (reverse older) ++ writer_of e ∷ map writer_of (reverse newer)
  queue_around newer e older = ap (map writer_of) (reverse-append newer (e ∷ older) ∙ ap (λ l. l ++ reverse newer) (reverse-append (e ∷ []) older))
      ∙ (map-append writer_of (reverse older ++ e ∷ []) (reverse newer) ∙ (ap (λ l. l ++ map writer_of (reverse newer)) (map-append writer_of (reverse older) (e ∷ [])) ∙ append_assoc (map writer_of (reverse older)) (writer_of e ∷ []) (map writer_of (reverse newer))))

  queue_without : (newer older : List (QueuedWriter Request)) → core_queue writer_of (newer ++ older) ≡ map writer_of (reverse older) ++ map writer_of (reverse newer)
  queue_without newer older = ap (map writer_of) (reverse-append newer older) ∙ map-append writer_of (reverse older) (reverse newer)

module _ {Request Reply : Type 0} (writer_of : QueuedWriter Request → Writer) (reply_of : Reply → CoreReply) (o : Options) (s : State) (a b : Lists Request Reply) (ws : List Writer) where
  abbrev answered : List Writer → List (ℕ × Answer CoreReply)
  answered vs = map answer_of vs

  abbrev handled : List (Handling Request Reply) → List (ℕ × Answer CoreReply)
  handled hs = map (answer_in reply_of) hs

  abbrev Stands : Type 0
  Stands = IsCoreOf writer_of reply_of ws a (list_half_of s)

  abbrev waits : List (ℕ × Answer CoreReply)
  waits = answered (s.leaving ++ writers_in s.second)

  -- the leader stalls writes
  pub stalls_core : (vs : List Writer) (own : QueuedWriter Request) (group : List (QueuedWriter Request)) → IsSame writer_of → Stands → s.log ≡ in_hand vs → is_alone vs ≡ false → is_no_slowdown vs ≡ false → HappensAlone (stalls own group) a b → IsTaken writer_of reply_of o (core.Stall own.by) s [] b
  stalls_core vs own group same r is writes slow ev =
      let u = in_hand_is writer_of reply_of o s a b ws vs r is writes in
      let theirs : vs ≡ core_queue writer_of (group ++ own ∷ []) = writers_are writer_of reply_of o s a b ws vs own group r is writes ev.0.0.0 in
      let first : leads own.by vs ≡ true = ap (leads own.by) theirs ∙ first_leads writer_of same own group in
      let new : State = record s { log = stalled vs } in (
        new,
        (λ i. stall s own.by (is i)) ∙ (λ i. when (first i && not (writes i) && not (slow i)) new),
        record {
          queue = r.queue ∙ ap (λ (k : Core Request Reply). core_queue writer_of k.0) (sym ev.0.1);
          log = (ap stalled theirs ∙ ap (λ (k : Core Request Reply). core_log writer_of k.1) (sym ev.0.1), refl, settled writer_of reply_of o s a b ws a.1.1 b.1.1 a.1.2 b.1.2 (ap (λ (x : SecondList Request Reply). x.1) ev.1) (ap (λ (x : SecondList Request Reply). x.2) ev.1) u.2);
          second = subst (λ gs. HasGroups writer_of gs s.second) (ap (λ (x : SecondList Request Reply). x.0) (sym ev.1)) r.second;
          owed = rearranged_as (handled a.0.3) waits (handled b.0.3 ++ []) waits (append-nil (handled b.0.3) ∙ (λ i. handled ((ev.0.1 i).3))) refl (owed_plain writer_of reply_of o s a b ws r (none_handed writer_of reply_of o s a b ws a.0.1 (is ∙ u.0)));
        },
      )

  not_grouped : (own own' : QueuedWriter Request) (group group' : List (QueuedWriter Request)) → Path (LogHolder Request) (halted own group) (grouped own' group') → ⊥
  not_grouped own own' group group' is = absurd (cc)

  -- while writes are stalled, what is left of the core's `link` of a commit is whether it may be slowed down
  abbrev answer_while : List Writer → ℕ → Client → WriteOptions → Answer Refusal → Answer State
  answer_while vs c client how why = when (may_link (stalled vs) why) (link_with o s c client how why)

  links_while : (c : ℕ) (w : Writer) → Stands → IsStalled a → (commits : IsCommit o s c w)
      → (vs : List Writer) × (step o s (core.Link c) ≡ answer_while vs c (next_call commits.0).client commits.1 (if commits.1.no_slowdown then Some (stall_refusal 1 0) else None))
  links_while c w r held commits =
      let client : Client = commits.0 in
      let how : WriteOptions = commits.1 in
      let ready = next_call client in
      let u = unlogged writer_of a.0.1 a.1.1 a.1.2 ws s.log (λ own' group' is. not_grouped held.0 own' held.1 group' (sym held.2 ∙ is)) r.log in
      let vs : List Writer = core_queue writer_of (held.1 ++ held.0 ∷ []) in
      let there : s.log ≡ stalled vs = u.0 ∙ ap (core_log writer_of) held.2 in (
        vs,
        (λ i. link o s c (commits.2 i)) ∙ ((λ i. if commits.3 i then link_call o s c ready.client (commits.4 i) else None) ∙ ((λ i. link_or_refuse o s c ready.client how (refusal_in s.log how (commits.5 i)))
            ∙ (λ i. when (may_link (there i) (refusal_in (there i) how None)) (link_with o s c ready.client how (refusal_in (there i) how None))))),
      )

  -- a commit that may not be slowed down is refused at once
  pub refused_core : (c : ℕ) (w : Writer) → Stands → IsStalled a → IsCommit o s c w → w.options.no_slowdown ≡ true → IsRefusedAtOnce o s c w × IsTaken writer_of reply_of o (core.Link c) s ws a
  refused_core c w r held commits hasty =
      let client : Client = commits.0 in
      let ready = next_call client in
      let x = links_while c w r held commits in
      let same : w.options ≡ commits.1 = ap (λ (v : Writer). v.options) commits.6 in
      let hasty' : commits.1.no_slowdown ≡ true = sym (ap (λ (h : WriteOptions). h.no_slowdown) same) ∙ hasty in
      let new : WriteOptions → State = λ how. with_client s c (after_reply ready.client (commit how) (refused (stall_refusal 1 0))) in
      let steps : step o s (core.Link c) ≡ Some (new commits.1) = x.1 ∙ (λ i. answer_while x.0 c ready.client commits.1 (if hasty' i then Some (stall_refusal 1 0) else None)) in (
        (client, commits.2, steps ∙ ap (λ how. Some (new how)) (sym same)),
        (new commits.1, steps, record { queue = r.queue; log = r.log; second = r.second; owed = r.owed }),
      )

  -- any other one isn't linked
  pub barred_core : (c : ℕ) (w : Writer) → Stands → IsStalled a → IsCommit o s c w → w.options.no_slowdown ≡ false → step o s (core.Link c) ≡ None
  barred_core c w r held commits slow =
      let x = links_while c w r held commits in
      let slow' : commits.1.no_slowdown ≡ false = sym (ap (λ (v : Writer). v.options.no_slowdown) commits.6) ∙ slow in
      x.1 ∙ (λ i. answer_while x.0 c (next_call commits.0).client commits.1 (if slow' i then Some (stall_refusal 1 0) else None))

  -- nor is one that is to read the log
  pub reader_barred : (c : ℕ) (w : Writer) → Stands → IsStalled a → IsUpdates s c w → step o s (core.Link c) ≡ None
  reader_barred c w r held asks =
      let ready = next_call asks.0 in
      let u = unlogged writer_of a.0.1 a.1.1 a.1.2 ws s.log (λ own' group' is. not_grouped held.0 own' held.1 group' (sym held.2 ∙ is)) r.log in
      let there : s.log ≡ stalled (core_queue writer_of (held.1 ++ held.0 ∷ [])) = u.0 ∙ ap (core_log writer_of) held.2 in
      (λ i. link o s c (asks.2 i)) ∙ ((λ i. if asks.3 i then link_call o s c ready.client (asks.4 i) else None) ∙ (λ i. when (may_link (there i) None) (link_read s c ready.client asks.1)))

  -- and ends that
  pub resumes_core : (own : QueuedWriter Request) (group : List (QueuedWriter Request)) → IsSame writer_of → Stands → HappensAlone (resumes own group) a b → IsTaken writer_of reply_of o (core.Unstall own.by) s [] b
  resumes_core own group same r ev =
      let u = unlogged writer_of a.0.1 a.1.1 a.1.2 ws s.log (λ own' group' is. not_grouped own own' group group' (sym ev.0.0 ∙ is)) r.log in
      let vs : List Writer = core_queue writer_of (group ++ own ∷ []) in
      let is : s.log ≡ stalled vs = u.0 ∙ ap (core_log writer_of) ev.0.0 in
      let first : leads own.by vs ≡ true = first_leads writer_of same own group in
      let new : State = record s { log = in_hand vs } in (
        new,
        (λ i. unstall s own.by (is i)) ∙ (λ i. when (first i) new),
        record {
          queue = r.queue ∙ ap (λ (k : Core Request Reply). core_queue writer_of k.0) (sym ev.0.1);
          log = inl ((ap (λ (k : Core Request Reply). core_log writer_of k.1) (sym ev.0.1), refl, settled writer_of reply_of o s a b ws a.1.1 b.1.1 a.1.2 b.1.2 (ap (λ (x : SecondList Request Reply). x.1) ev.1) (ap (λ (x : SecondList Request Reply). x.2) ev.1) u.2));
          second = subst (λ gs. HasGroups writer_of gs s.second) (ap (λ (x : SecondList Request Reply). x.0) (sym ev.1)) r.second;
          owed = rearranged_as (handled a.0.3) waits (handled b.0.3 ++ []) waits (append-nil (handled b.0.3) ∙ (λ i. handled ((ev.0.1 i).3))) refl (owed_plain writer_of reply_of o s a b ws r (none_handed writer_of reply_of o s a b ws a.0.1 u.0));
        },
      )

  -- a writer leaves the queue
  pub drops_core : (newer : List (QueuedWriter Request)) (e : QueuedWriter Request) (older : List (QueuedWriter Request)) (p : Reply) (stops delays : ℕ) → IsSame writer_of → Stands → HasItems writer_of a.0.0 → reply_of p ≡ refused (stall_refusal stops delays) → HappensAlone (drops newer e older p) a b → IsTaken writer_of reply_of o (core.Leave e.by stops delays) s [] b
  drops_core newer e older p stops delays same r has is_reply ev =
      let own : QueuedWriter Request = ev.0.0.0.0 in
      let group : List (QueuedWriter Request) = ev.0.0.0.1 in
      let held : a.0.1 ≡ halted own group = ev.0.0.0.2 in
      let parts : a.0.0 ≡ newer ++ e ∷ older = ev.0.0.1 in
      let out : Absent e.by (newer ++ older) = ev.0.0.2 in
      let u = unlogged writer_of a.0.1 a.1.1 a.1.2 ws s.log (λ own' group' is. not_grouped own own' group group' (sym held ∙ is)) r.log in
      let vs : List Writer = core_queue writer_of (group ++ own ∷ []) in
      let is : s.log ≡ stalled vs = u.0 ∙ ap (core_log writer_of) held in
      let m : ℕ = e.by in
      let why : Refusal = stall_refusal stops delays in
      let w : Writer = writer_of e in
      let front : List Writer = map writer_of (reverse older) in
      let back : List Writer = map writer_of (reverse newer) in
      let out_front : Out m front = absent_writers writer_of same m (reverse older) (absent_back_to_front writer_of same m older (absent_back m newer older out)) in
      let out_back : Out m back = absent_writers writer_of same m (reverse newer) (absent_back_to_front writer_of same m newer (absent_front m newer older out)) in
      let queue_is : s.queue ≡ front ++ w ∷ back = r.queue ∙ (ap (core_queue writer_of) parts ∙ queue_around writer_of newer e older) in
      let found : find (λ (x : Writer). eqb x.client m) s.queue ≡ Some w = ap (find (λ (x : Writer). eqb x.client m)) queue_is ∙ find_past m front w back out_front (same e) in
      let hasty : w.options.no_slowdown ≡ true = ap (λ (z : Item). z.options.no_slowdown) (item_at writer_of newer e older (subst (HasItems writer_of) parts has)) ∙ ev.0.0.3 in
      let replies : List (Handling Request Reply) = handling e p ∷ [] in
      let gone : Writer = record w { answer = Some (refused why) } in
      let left : List (ℕ × Answer CoreReply) = answered s.leaving in
      let behind : List (ℕ × Answer CoreReply) = answered (writers_in s.second) in
      let was : IsRearranged (handled a.0.3) (left ++ behind) = rearranged_as (handled a.0.3) waits (handled a.0.3) (left ++ behind) refl (sym (map-append answer_of s.leaving (writers_in s.second))) (owed_plain writer_of reply_of o s a b ws r (none_handed writer_of reply_of o s a b ws a.0.1 u.0)) in
      let theirs : answered (gone ∷ []) ≡ handled replies = λ i. (same e i, Some (sym is_reply i)) ∷ [] in
      let new : State = left_queue s m why w in (
        new,
        (λ i. leave_queue s m why (is i)) ∙ ((λ i. leave_with s m why (found i)) ∙ (λ i. when (hasty i) new)),
        record {
          queue = ap (filter (λ (x : Writer). not (eqb x.client m))) queue_is ∙ (filter_past m front w back out_front (same e) out_back ∙ (sym (queue_without writer_of newer older) ∙ ap (λ (k : Core Request Reply). core_queue writer_of k.0) (sym ev.0.1)));
          log = subst (IsLogOf writer_of b.0.1 b.1.1 b.1.2 []) (sym is) (sym is ∙ (u.0 ∙ ap (λ (k : Core Request Reply). core_log writer_of k.1) (sym ev.0.1)), refl, settled writer_of reply_of o s a b ws a.1.1 b.1.1 a.1.2 b.1.2 (ap (λ (x : SecondList Request Reply). x.1) ev.1) (ap (λ (x : SecondList Request Reply). x.2) ev.1) u.2);
          second = subst (λ gs. HasGroups writer_of gs s.second) (ap (λ (x : SecondList Request Reply). x.0) (sym ev.1)) r.second;
          owed = rearranged_as (handled a.0.3 ++ handled replies) ((left ++ handled replies) ++ behind) (handled b.0.3 ++ answered (group_handed_on s.log [])) (answered ((s.leaving ++ gone ∷ []) ++ writers_in s.second))
              ((λ i. handled ((ev.0.1 i).3) ++ answered (group_handed_on (is i) [])) ∙ (append-nil (handled (a.0.3 ++ replies)) ∙ map-append (answer_in reply_of) a.0.3 replies))
              (map-append answer_of (s.leaving ++ gone ∷ []) (writers_in s.second) ∙ ap (λ l. l ++ behind) (map-append answer_of s.leaving (gone ∷ []) ∙ ap (λ l. left ++ l) theirs))
              (rearranged_within (handled a.0.3) left behind (handled replies) was);
        },
      )
