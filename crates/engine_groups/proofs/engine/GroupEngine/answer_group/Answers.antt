use Rattle.std.proofs.Common.{◌≡◌, ◌≤◌, ◌<◌, ℕ, List, [], ◌∷◌, ◌++◌, length, sym, ap, ◌∙◌, subst, arith, refl}
use Rattle.std.specs.List.{AllByRecursion}
use Rattle.line_rule.specs.declared.view.QueuedWriter.{QueuedWriter}
use Rattle.line_rule.specs.Chain.{all_answers}
use Rattle.line_rule.specs.Rule.{last_run}
use Rattle.line_writers.specs.Seats.{bound_of, about_of, clients_of, answers_told}
use Rattle.engine_controller.specs.Passes.{seen_by}
use Rattle.engine_parts.specs.declared.requests.Request.{Request}
use Rattle.engine_parts.specs.Handled.{seen_for}
use Rattle.engine_parts.specs.Led.{IsLedGroup, LeadsBy}
use Rattle.engine_parts.specs.Handled.{IsReplyAt}
use Rattle.engine_groups.proofs.Leads.{asked_own, has_led, leads_by, noted_as, of_list, own_now, own_reply_at, shown_as}
use Rattle.engine_groups.proofs.Stalls.{group_alike, group_told, leads_again}
use Rattle.engine_parts.proofs.Paying.{pays_length}
use Rattle.engine_parts.proofs.Whole.{led_of}
use Rattle.engine_groups.proofs.engine.GroupEngine.answer_group.Goals as goal
use Rattle.engine_parts.specs.Handled.{handled_with}
use Rattle.engine_groups.specs.Law.{LeadershipIsStaged, wanted_in}
use Rattle.engine_groups.specs.Leaving.{HasAnsweredGroup}
use Rattle.engine_groups.proofs.Publishing.{to_end}
use Rattle.engine_parts.specs.Runs.{run_of}
use Rattle.engine_parts.specs.Staged.{published_with}

-- apart from the goal, in which a tactic would read all that is known there
fits_in : (many n room : ℕ) → many ≤ n → n ≤ room → many ≤ room
fits_in many n room few most = omega arith

pub serve-requires-clause-served : goal.serve-requires-clause-served
serve-requires-clause-served g c =
    let S = c.requires.seated in let L = c.requires.leads in let e = c.args.self.now in let n : ℕ = clients_of e.list in let v = c.args.client.now in
    let belongs = c.group.ensures.group.0 in let G = c.group.ensures.group.1 L.0 L.1 L.2 in let own : QueuedWriter Request = L.0 in
    let low : 0 < own.by = subst (λ (k : ℕ). 0 < k) (sym G.2.1) belongs.1 in let high : own.by ≤ n = subst (λ (k : ℕ). k ≤ n) (sym G.2.1) belongs.2 in
    let few = c.group.ensures.few in
    let by_number : own.by ≡ v.number = G.2.1 ∙ (c.group.ensures.client ∙ S.number) in
    let replies = S.can_lead.lists.1 in
    let led : IsLedGroup (bound_of e.list) n c.group.new.requests.list.items = subst (IsLedGroup (bound_of e.list) n) (sym G.3) (led_of c.codes_stand_for_items.ensures (λ q code h. h.0) (bound_of e.list) n own G.0 G.1 L.3 G.2.4 low high G.2.3) in
    record {
      seats = record {
        is_engine = S.is_engine;
        seat = S.seat;
        ready = S.ready;
        seat_number = S.seat_number;
        pass = S.pass;
        pass_number = S.pass_number;
        number = (subst (λ (k : ℕ). 0 < k) by_number low, subst (λ (k : ℕ). k ≤ n) by_number high);
      };
      layout = S.can_lead.layout;
      led = led;
      leads = subst (λ (z : ℕ × List (ℕ × Request)). LeadsBy z.0 z.1) (λ i. (by_number i, sym G.3 i)) (leads_by own G.0);
      notes = noted_as (about_of e.list).controller.value e.controller c.group.new.requests.list.items S.is_engine.controller c.group.ensures.lawful;
      few = few;
      no_replies = replies.1;
      room = fits_in _ n _ few replies.2;
      walk_room = c.group.ensures.room.0;
      belongs = belongs;
      own = own;
      group = G.0;
      left = G.1;
      seen = L.1;
      leads_group = leads_again (wanted_in e.list) n (bound_of e.list) own G.0 G.1 L.1 (answers_told v.writer) c.group.new.writer G.2;
      asks_are = G.3;
      alike = group_alike c.codes_stand_for_items.ensures {wanted = wanted_in e.list} (λ q code h. h.0) (bound_of e.list) own G.0 G.1 G.2.4 c.group.new.requests.list.items led.rest led.first G.3 led.leads;
    }

pub returns-clause-ends : goal.returns-clause-ends
returns-clause-ends g c =
    let S = c.requires.seated in let L = c.requires.leads in let e = c.args.self.now in let n : ℕ = clients_of e.list in let v = c.args.client.now in
    let E = S.is_engine in let about = about_of e.list in
    let belongs = c.group.ensures.group.0 in let G = c.group.ensures.group.1 L.0 L.1 L.2 in let own : QueuedWriter Request = L.0 in
    let w = c.serve.new.client in let served = c.serve.ensures.served in let leadership = c.serve.result.0 in
    let parts = w.layout.parts.parts in let st = L.6 in
    let hs = c.serve.ensures.leadership L.1 st in
    let pub_now = published_with c.serve.result.1 parts st.published in
    let led = has_led about leadership pub_now own G.0 L.1 c.group.new.requests.list.items w.lists.replies.list.items G.3 served.in_order
    hs.path (of_list g.Versions.Table e E.controller E.start L.1 L.5) served.handed_back (shown_as e.controller about.controller.value (handled_with c.group.new.requests.list.items w.lists.replies.list.items) (sym E.controller) served.shown) in
    let t = led.is_paid in let all = all_answers own t.own_reply t.gs in
    let mine : answers_told c.group.new.writer ≡ answers_told v.writer = group_told (wanted_in e.list) n (bound_of e.list) own G.0 G.1 L.1 (answers_told v.writer) c.group.new.writer G.2 in
    let keeps = served.writer in
    let has = keeps.1 own G.0 G.1 L.1 (leads_again (wanted_in e.list) n (bound_of e.list) own G.0 G.1 L.1 (answers_told v.writer) c.group.new.writer G.2) in
    let told1 : answers_told w.writer ≡ answers_told v.writer = keeps.0.2 ∙ mine in
    let start_is = E.start ∙ sym E.start_number in
    let few = c.group.ensures.few in
    let l = pays_length c.group.new.requests.list.items w.lists.replies.list.items served.in_order in
    let requests_room = served.requests_room ∙ c.group.ensures.room.1 in
    let own_at : seen_for t.own_reply ≡ served.known = own_reply_at served.known own t.own_reply t.gs (subst (AllByRecursion (IsReplyAt served.known)) t.pays_are served.of_delay) in
    let answered : HasAnsweredGroup g.Versions.Table e v.number v.start (answers_told v.writer) own L.1 w leadership.held.value.path.last = record {
      seats = served.seats;
      layout = served.layout;
      number_is = served.number;
      start_is = served.start;
      starts = S.start;
      table_is = ap (λ t. t.value) served.table ∙ S.table;
      writer = keeps.0.0;
      client = keeps.0.1 ∙ (c.group.ensures.client ∙ S.number);
      group = G.0;
      left = G.1;
      gs = t.gs;
      p = t.own_reply;
      has = has;
      told_is = told1;
      heads_are = t.heads_are;
      pays_are = t.pays_are;
      before = of_list g.Versions.Table e E.controller E.start L.1 L.5;
      kept = led.kept;
      last_is = led.number ∙ ap (λ (k : ℕ). last_run run_of k (L.1 ++ all)) start_is;
      own_now = own_now v.number own G.0 w.lists.replies.list.items t L.1 (answers_told v.writer) (L.2.1 ∙ S.number) G.2.4.1 L.4;
      requests = (w.lists.requests.list.ok.0 ∙ ap length served.taken, served.taken, subst (λ (k : ℕ). n ≤ k) (sym requests_room) S.can_lead.lists.0.2);
      replies_few = subst (λ (k : ℕ). k ≤ n) (sym (w.lists.replies.list.ok.0 ∙ l)) few;
      replies_room = subst (λ (k : ℕ). n ≤ k) (sym served.replies_room) S.can_lead.lists.1.2;
      room = served.walk_room;
      has_asked = asked_own v.number (answers_told v.writer) (answers_told v.writer ++ (own.asked, t.own_reply) ∷ []) own.asked t.own_reply (seen_by v.pass) (seen_by w.pass) served.known L.3 refl c.requires.has_asked served.delays own_at;
    } in
    let now : LeadershipIsStaged g.Versions.Table about leadership c.serve.result.1 parts st.published (L.1 ++ all) = record { note = hs.note; path = led.path; turn = hs.turn } in
    (own, L.1, L.2, to_end g.Versions.Table e v.number v.start (answers_told v.writer) own L.1 w leadership answered c.args.leadership st c.serve.ensures.turn G.2.3 c.group.new.requests.list.items G.3 t.answers_are c.serve.result.1 now c.serve.ensures.staged c.serve.ensures.beside)
