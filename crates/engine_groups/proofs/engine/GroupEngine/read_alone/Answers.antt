use Rattle.std.proofs.Common.{◌≡◌, ◌≤◌, ◌<◌, ℕ, Some, List, [], ◌∷◌, ◌++◌, length, refl, sym, ap, ◌∙◌, subst, arith}
use Rattle.std.specs.List.{AllByRecursion}
use Rattle.table_rule.specs.Histories.{last_of}
use Rattle.line_rule.specs.declared.view.QueuedWriter.{QueuedWriter}
use Rattle.line_rule.specs.Chain.{all_answers}
use Rattle.line_rule.specs.Rule.{last_run}
use Rattle.line_writers.specs.Seats.{bound_of, about_of, clients_of, answers_told}
use Rattle.engine_controller.specs.Passes.{seen_by, seen_by_note}
use Rattle.engine_parts.specs.declared.logging.LogPath.{LogPath}
use Rattle.engine_parts.specs.declared.requests.Answer.{Answer}
use Rattle.engine_parts.specs.declared.requests.Delay.{Delay}
use Rattle.engine_parts.specs.declared.requests.Request.{Request}
use Rattle.engine_parts.specs.Handled.{handled_with}
use Rattle.engine_parts.specs.LogLaw.{LogCovers, Past}
use Rattle.engine_parts.specs.Logs.{faults_of}
use Rattle.engine_parts.specs.ReadAnswers.{HasReadTo, IsOneRead}
use Rattle.engine_parts.specs.Runs.{run_of}
use Rattle.engine_parts.proofs.Paying.{pays_length}
use Rattle.engine_parts.proofs.Serves.{reads_shown}
use Rattle.engine_parts.proofs.Whole.{read_of}
use Rattle.engine_groups.specs.declared.leader.Held.{Held}
use Rattle.engine_groups.specs.Clients.{opened_log}
use Rattle.engine_groups.specs.Law.{wanted_in}
use Rattle.engine_groups.proofs.Leads.{asked_read, has_led, of_list, own_now, shown_as}
use Rattle.engine_groups.proofs.ReadsLog.{own_paid, read_given, read_since}
use Rattle.engine_groups.proofs.Stalls.{group_told, leads_again}
use Rattle.engine_groups.proofs.engine.GroupEngine.read_alone.Goals as goal

-- apart from the goals, in which a tactic would read all that is known there
fits_one : (k n room : ℕ) → 0 < k → k ≤ n → n ≤ room → 1 ≤ room
fits_one k n room low high most = omega arith

pub await_end-at-requires : goal.await_end-at-requires
await_end-at-requires g c = let S = c.requires.seated in record { seat = (S.seat, S.ready) }

pub read_phase-requires-clause-at : goal.read_phase-requires-clause-at
read_phase-requires-clause-at g c =
    let path_is = ap (λ (h : Held _ _ _). h.path.last) c.deref.ensures ∙ sym (ap (λ (h : Held _ _ _). h.path.last) c.deref_mut.ensures.value) in
    subst (λ (k : ℕ). c.await_end-at.result ≤ k) path_is c.await_end-at.ensures.low

pub read_phase-requires-clause-stands : goal.read_phase-requires-clause-stands
read_phase-requires-clause-stands g c =
    let L = c.requires.leads in let about = about_of c.args.self.now.list in let st = L.6 in let old = c.args.leadership in
    let past : Past _ = record { opened = about.opened.value; start = about.start; group_bytes = about.group_bytes; asked = seen_by_note old.asked; published = st.published; handled = L.1 } in
    let path_is = ap (λ (h : Held _ _ _). h.path) c.deref_mut.ensures.value in
    (about.clients, past, subst (λ (q : LogPath _ _). LogCovers about.opened.value about.start about.clients about.group_bytes (seen_by_note old.asked) q.log q.places st.published q.last q.made L.1) (sym path_is) st.path)

pub read_phase-requires-clause-read : goal.read_phase-requires-clause-read
read_phase-requires-clause-read g c =
    let L = c.requires.leads in let e = c.args.self.now in let n : ℕ = clients_of e.list in let own : QueuedWriter Request = L.0 in
    let belongs = c.group.ensures.group.0 in let G = c.group.ensures.group.1 L.0 L.1 L.2 in
    let low : 0 < own.by = subst (λ (k : ℕ). 0 < k) (sym G.2.1) belongs.1 in let high : own.by ≤ n = subst (λ (k : ℕ). k ≤ n) (sym G.2.1) belongs.2 in
    (n, subst (IsOneRead n) (sym G.3) (read_of c.codes_stand_for_items.ensures (λ q code h. h.0) (bound_of e.list) n own G.0 G.1 L.3.0 L.3.1 G.2.4 low high))

pub read_phase-requires-clause-replies : goal.read_phase-requires-clause-replies
read_phase-requires-clause-replies g c =
    let S = c.requires.seated in let e = c.args.self.now in let n : ℕ = clients_of e.list in
    let belongs = c.group.ensures.group.0 in let replies = S.can_lead.lists.1 in
    (replies.1, fits_one _ n _ belongs.1 belongs.2 replies.2)

pub returns-clause-leaves : goal.returns-clause-leaves
returns-clause-leaves g c =
    let S = c.requires.seated in let L = c.requires.leads in let e = c.args.self.now in let n : ℕ = clients_of e.list in let v = c.args.client.now in
    let E = S.is_engine in let about = about_of e.list in let own : QueuedWriter Request = L.0 in let st = L.6 in
    let belongs = c.group.ensures.group.0 in let G = c.group.ensures.group.1 L.0 L.1 L.2 in
    let low : 0 < own.by = subst (λ (k : ℕ). 0 < k) (sym G.2.1) belongs.1 in let high : own.by ≤ n = subst (λ (k : ℕ). k ≤ n) (sym G.2.1) belongs.2 in
    let by_number : own.by ≡ v.number = G.2.1 ∙ (c.group.ensures.client ∙ S.number) in
    let at = c.await_end-at in let R = c.read_phase in let H = R.ensures in
    let xs : List (ℕ × Request) = c.group.new.requests.list.items in let ys : List (ℕ × Answer) = R.new.replies.items in
    let one : IsOneRead n xs = subst (IsOneRead n) (sym G.3) (read_of c.codes_stand_for_items.ensures (λ q code h. h.0) (bound_of e.list) n own G.0 G.1 L.3.0 L.3.1 G.2.4 low high) in
    let d : Delay = record { pass = c.of.result; went = c.of-2.result; made = c.deref-2.result.now.path.made } in
    let old = c.args.leadership in let p = R.new.path in
    let leadership = record old { held = record old.held { value = record old.held.value { path = p } } } in
    let past : Past _ = record { opened = about.opened.value; start = about.start; group_bytes = about.group_bytes; asked = seen_by_note old.asked; published = st.published; handled = L.1 } in
    let path_is = ap (λ (h : Held _ _ _). h.path) c.deref_mut.ensures.value in
    let before = subst (λ (q : LogPath _ _). LogCovers about.opened.value about.start about.clients about.group_bytes (seen_by_note old.asked) q.log q.places st.published q.last q.made L.1) (sym path_is) st.path in
    let after = H.path about.clients past (subst (λ (k : ℕ). IsOneRead k xs) (sym E.about_clients) one) before in
    let shown = shown_as e.controller about.controller.value (handled_with xs ys) (sym E.controller) (reads_shown e.controller d xs ys H.replies.2 (subst (AllByRecursion (λ (x : ℕ × Request). (k : ℕ) × (x.1.since ≡ Some k))) (sym one.is) ((one.since, one.reads), tt))) in
    let led = has_led about leadership st.published own G.0 L.1 xs ys G.3 H.replies.0 after (of_list g.Versions.Table e E.controller E.start L.1 L.5) H.replies.1 shown in
    let t = led.is_paid in let all = all_answers own t.own_reply t.gs in
    let mine : answers_told c.group.new.writer ≡ answers_told v.writer = group_told (wanted_in e.list) n (bound_of e.list) own G.0 G.1 L.1 (answers_told v.writer) c.group.new.writer G.2 in
    let start_is = E.start ∙ sym E.start_number in
    let many = pays_length xs ys H.replies.0 in
    let layout = S.can_lead.layout in let lists = S.can_lead.lists in
    let new_is : all ≡ handled_with xs ys = t.answers_are ∙ ap (λ (l : List (ℕ × Request)). handled_with l ys) (sym G.3) in
    let reads = own_paid (λ (y : ℕ × Answer). HasReadTo (faults_of c.deref_mut.result.now.path.log) at.result y.1.read) own t.own_reply t.gs (subst (AllByRecursion (λ (y : ℕ × Answer). HasReadTo (faults_of c.deref_mut.result.now.path.log) at.result y.1.read)) t.pays_are H.told) in
    let ends : at.result ≡ last_of v.start (g.Versions.Table.account at.new.seat).seen = at.ensures.end ∙ ap (λ (k : ℕ). last_of k (g.Versions.Table.account at.new.seat).seen) (sym S.start) in
    let rose = read_since (faults_of (opened_log e)) (faults_of c.deref_mut.result.now.path.log) at.result t.own_reply.read before.counted.later reads in (
      own,
      L.1,
      L.2,
      record {
        led = record {
          seats = record {
            is_engine = E;
            seat = at.ensures.seat.0;
            ready = at.ensures.seat.1;
            seat_number = at.ensures.seat.2 ∙ S.seat_number;
            pass = S.pass;
            pass_number = S.pass_number;
            number = (subst (λ (k : ℕ). 0 < k) by_number low, subst (λ (k : ℕ). k ≤ n) by_number high);
          };
          layout = record { no_numberings = layout.clear.0; no_batches = layout.clear.1; clients_are = layout.clear.3; numberings = layout.numberings; batches = layout.batches; members = layout.members };
          number_is = refl;
          start_is = refl;
          starts = S.start;
          table_is = S.table;
          writer = belongs;
          client = c.group.ensures.client ∙ S.number;
          group = G.0;
          left = G.1;
          gs = t.gs;
          p = t.own_reply;
          has = leads_again (wanted_in e.list) n (bound_of e.list) own G.0 G.1 L.1 (answers_told v.writer) c.group.new.writer G.2;
          told_is = mine;
          heads_are = t.heads_are;
          pays_are = t.pays_are;
          before = of_list g.Versions.Table e E.controller E.start L.1 L.5;
          kept = led.kept;
          last_is = led.number ∙ ap (λ (k : ℕ). last_run run_of k (L.1 ++ all)) start_is;
          own_now = own_now v.number own G.0 ys t L.1 (answers_told v.writer) (L.2.1 ∙ S.number) G.2.4.1 L.4;
          requests = (R.new.requests.ok.0 ∙ ap length H.taken, H.taken, subst (λ (k : ℕ). n ≤ k) (sym (H.room.0 ∙ c.group.ensures.room.1)) lists.0.2);
          replies_few = subst (λ (k : ℕ). k ≤ n) (sym (R.new.replies.ok.0 ∙ many)) c.group.ensures.few;
          replies_room = subst (λ (k : ℕ). n ≤ k) (sym H.room.1) lists.1.2;
          room = c.group.ensures.room.0;
          has_asked = asked_read v.number (answers_told v.writer) (answers_told v.writer ++ (own.asked, t.own_reply) ∷ []) own.asked t.own_reply L.3.0 (seen_by v.pass) L.3.1 refl c.requires.has_asked;
        };
        covers = record { note = st.note; published = st.published; path = led.path; turn = st.turn };
      },
      (λ _. read_given n L.1 all xs ys one new_is H.replies.1),
      subst (λ (k : ℕ). HasReadTo (faults_of (opened_log e)) k t.own_reply.read) ends rose,
    )

pub returns-clause-parts : goal.returns-clause-parts
returns-clause-parts g c = c.requires.seated.can_lead.layout.clear.2

pub returns-clause-seen : goal.returns-clause-seen
returns-clause-seen g c = c.await_end-at.ensures.seat.3
