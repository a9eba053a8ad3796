use Rattle.std.proofs.Common.{◌≡◌, ◌⊎◌, ℕ, List, [], ◌∷◌, ◌++◌, Some, is_some, inl, inr, ⊎_elim, sym, ap, ◌∙◌, subst}
use mathlib.Core.List.{IsPrefix}
use Rattle.model_base.specs.Batch.{size_of_batch}
use Rattle.line_rule.specs.declared.view.LineStage.TheVariants.{Idle}
use Rattle.line_rule.specs.Chain.{of}
use Rattle.line_rule.specs.Rule.{hold}
use Rattle.line_writers.specs.Roles.{HasLeft, HasReply}
use Rattle.line_writers.specs.Seats.{answers_told, told_in_first, IsIn, IsChosen}
use Rattle.engine_controller.specs.Passes.{seen_by}
use Rattle.engine_rule.specs.Asked.{HasAsked}
use Rattle.engine_rule.specs.Entries.{SeesMore}
use Rattle.engine_parts.specs.declared.requests.Request.{Request}
use Rattle.engine_parts.specs.declared.requests.Answer.{Answer}
use Rattle.engine_parts.specs.Handled.{IsDropped}
use Rattle.engine_groups.specs.Clients.{IsAnsweredInGroup, IsIdle, IsLeftOut, IsSeated, opened_log, own_commits}
use Rattle.engine_groups.specs.Law.{dropped_in, kept_in, law_in}
use Rattle.table_rule.specs.Histories.{Begins}
use Rattle.engine_groups.proofs.Answered.{begins_on, begins_self, sees_on}
use Rattle.engine_groups.proofs.Leads.{as_done, as_leader, asked_more, linked_told, of_engine}
use Rattle.engine_groups.proofs.AtStall.{asked_on, if_err, if_ok, looks_see, seated_on}
use Rattle.engine_groups.proofs.Still.{belongs_still, chosen_still, told_still}
use Rattle.engine_groups.proofs.engine.GroupEngine.submit.Goals as goal

pub enter-requires-clause-item : goal.enter-requires-clause-item
enter-requires-clause-item g c =
    let size = c.size.ensures.value ∙ ap (λ (q : Request). size_of_batch q.batch.records) c.as_request.ensures in
    let options = ap (λ (q : Request). q.options) c.as_request-2.ensures in
    ((λ i. record { size = size i; options = options i; alone = is_some (sym c.requires.write i) }), c.size.ensures.limit)

pub returns-in-Err-clause-fits : goal.returns-in-Err-clause-fits
returns-in-Err-clause-fits g c =
    let v = c.args.client.now in let e = c.args.self.now in let list = e.list in
    let d = c.enter.new.client in let E = c.enter.ensures in
    let S = seated_on g.Versions.Table e v d E.same c.requires.client.seated E.writer.0 E.writer.1 E.pass.0 E.pass.1 in
    let out = if_err _ c.enter.result c.in-Err.answer c.in-Err.is E.away in
    record { seated = S; out = out.0; has_asked = asked_on g.Versions.Table e v d E.same out.1 E.pass.2.delays c.requires.client.has_asked }

pub returns-in-Err-clause-answered : goal.returns-in-Err-clause-answered
returns-in-Err-clause-answered g c =
    let v = c.args.client.now in let e = c.args.self.now in let list = e.list in
    let d = c.enter.new.client in let E = c.enter.ensures in
    let S = seated_on g.Versions.Table e v d E.same c.requires.client.seated E.writer.0 E.writer.1 E.pass.0 E.pass.1 in
    let out = if_err _ c.enter.result c.in-Err.answer c.in-Err.is E.away in
    inr (record {
      told_same = out.1;
      number = ap (λ x. x.number) E.same;
      start_same = ap (λ x. x.start) E.same;
      table_same = ap (λ x. x.table) E.same;
      why = inr out.2;
    })

pub returns-in-Err-clause-seen : goal.returns-in-Err-clause-seen
returns-in-Err-clause-seen g c =
    let v = c.args.client.now in let d = c.enter.new.client in let E = c.enter.ensures in (
      subst (λ seat. Begins (g.Versions.Table.account v.seat).seen (g.Versions.Table.account seat).seen) (sym (ap (λ x. x.seat) E.same)) (begins_self (g.Versions.Table.account v.seat).seen),
      looks_see v.number (seen_by v.pass) (seen_by d.pass) E.pass.2,
    )

pub await_own_role-requires-clause-list : goal.await_own_role-requires-clause-list
await_own_role-requires-clause-list g c =
    let v = c.args.client.now in let e = c.args.self.now in let list = e.list in
    let d = c.enter.new.client in let E = c.enter.ensures in
    let S = seated_on g.Versions.Table e v d E.same c.requires.client.seated E.writer.0 E.writer.1 E.pass.0 E.pass.1 in
    let L = if_ok _ c.enter.result c.in_default.not-Err E.linked in
    let q = record c.args.request { note = Some L.1.0 } in let w0 = v.writer in let w1 = d.writer in
    let told1 : answers_told w1 ≡ answers_told w0 = linked_told (law_in g.Versions.Table list) w1.client w1.task q (answers_told w0) w1.seat.me L.1.2 in
    let linked = subst (λ (mine : List (Request × Answer)). IsIn (law_in g.Versions.Table list) q mine w1) (sym told1) L.1.2 in
    (E.writer.0, (q, linked))

pub await_own_role-requires-clause-seat : goal.await_own_role-requires-clause-seat
await_own_role-requires-clause-seat g c =
    let v = c.args.client.now in let e = c.args.self.now in let list = e.list in
    let d = c.enter.new.client in let E = c.enter.ensures in
    let S = seated_on g.Versions.Table e v d E.same c.requires.client.seated E.writer.0 E.writer.1 E.pass.0 E.pass.1 in
    (S.seat, S.ready)

pub lead-requires-clause-seated : goal.lead-requires-clause-seated
lead-requires-clause-seated g c =
    let v = c.args.client.now in let e = c.args.self.now in let list = e.list in
    let d = c.enter.new.client in let E = c.enter.ensures in
    let S = seated_on g.Versions.Table e v d E.same c.requires.client.seated E.writer.0 E.writer.1 E.pass.0 E.pass.1 in
    let still = c.let_others_link.ensures in
    let w2 = c.await_own_role.new.writer in let w3 = c.let_others_link.new.writer in record {
      is_engine = S.is_engine;
      writer = belongs_still w3 w2 still list c.await_own_role.ensures.role.0;
      number = still.0.1 ∙ (c.await_own_role.ensures.client ∙ S.number);
      seat = c.await_own_role.ensures.seat.0;
      ready = c.await_own_role.ensures.seat.1;
      seat_number = c.await_own_role.ensures.seat.2 ∙ S.seat_number;
      start = S.start;
      table = S.table;
      pass = S.pass;
      pass_number = S.pass_number;
      can_lead = record { lists = S.can_lead.lists; layout = S.can_lead.layout };
    }

pub lead-requires-clause-has_asked : goal.lead-requires-clause-has_asked
lead-requires-clause-has_asked g c =
    let v = c.args.client.now in let e = c.args.self.now in let list = e.list in
    let d = c.enter.new.client in let E = c.enter.ensures in
    let S = seated_on g.Versions.Table e v d E.same c.requires.client.seated E.writer.0 E.writer.1 E.pass.0 E.pass.1 in
    let L = if_ok _ c.enter.result c.in_default.not-Err E.linked in
    let q = record c.args.request { note = Some L.1.0 } in let w0 = v.writer in let w1 = d.writer in
    let told1 : answers_told w1 ≡ answers_told w0 = linked_told (law_in g.Versions.Table list) w1.client w1.task q (answers_told w0) w1.seat.me L.1.2 in
    let linked = subst (λ (mine : List (Request × Answer)). IsIn (law_in g.Versions.Table list) q mine w1) (sym told1) L.1.2 in
    let w2 = c.await_own_role.new.writer in
    let role = c.await_own_role.ensures.role.1 q linked in
    let still = c.let_others_link.ensures in let w3 = c.let_others_link.new.writer in
    let B = as_leader (law_in g.Versions.Table list) (kept_in list) (dropped_in list) w2.client q (answers_told w1) c.await_own_role.result c.in-LogLeader.leadership w2.seat.me c.in-LogLeader.is role in
    let told2 : answers_told w3 ≡ answers_told w1 = told_still w3 w2 still ∙ ap told_in_first B.2.0 in
    let asked = asked_on g.Versions.Table e v d E.same told1 E.pass.2.delays c.requires.client.has_asked in
    subst (λ (mine : List (Request × Answer)). HasAsked d.number (own_commits d.number mine) (seen_by d.pass)) (sym told2) asked

pub lead-requires-clause-leads : goal.lead-requires-clause-leads
lead-requires-clause-leads g c =
    let v = c.args.client.now in let e = c.args.self.now in let list = e.list in
    let d = c.enter.new.client in let E = c.enter.ensures in
    let S = seated_on g.Versions.Table e v d E.same c.requires.client.seated E.writer.0 E.writer.1 E.pass.0 E.pass.1 in
    let L = if_ok _ c.enter.result c.in_default.not-Err E.linked in
    let q = record c.args.request { note = Some L.1.0 } in let w0 = v.writer in let w1 = d.writer in
    let told1 : answers_told w1 ≡ answers_told w0 = linked_told (law_in g.Versions.Table list) w1.client w1.task q (answers_told w0) w1.seat.me L.1.2 in
    let linked = subst (λ (mine : List (Request × Answer)). IsIn (law_in g.Versions.Table list) q mine w1) (sym told1) L.1.2 in
    let w2 = c.await_own_role.new.writer in
    let role = c.await_own_role.ensures.role.1 q linked in
    let still = c.let_others_link.ensures in let w3 = c.let_others_link.new.writer in
    let B = as_leader (law_in g.Versions.Table list) (kept_in list) (dropped_in list) w2.client q (answers_told w1) c.await_own_role.result c.in-LogLeader.leadership w2.seat.me c.in-LogLeader.is role in
    let told2 : answers_told w3 ≡ answers_told w1 = told_still w3 w2 still ∙ ap told_in_first B.2.0 in
    let client2 : w2.client ≡ d.number = c.await_own_role.ensures.client ∙ S.number in (
      B.0,
      B.1,
      subst (λ (mine : List (Request × Answer)). IsChosen B.0 B.1 mine w3) (sym told2) (chosen_still w3 w2 still B.0 B.1 (answers_told w1) B.2),
      ap (λ (r : Request). r.since) B.3 ∙ c.requires.write,
      ap (λ (k : ℕ). of k B.1) (sym client2) ∙ (B.5 ∙ sym told2),
      of_engine g.Versions.Table e S.is_engine.controller S.is_engine.start B.1 B.4.1,
      B.4.0,
    )

pub returns-in-Done-clause-fits : goal.returns-in-Done-clause-fits
returns-in-Done-clause-fits g c =
    let v = c.args.client.now in let e = c.args.self.now in let list = e.list in
    let d = c.enter.new.client in let E = c.enter.ensures in
    let S = seated_on g.Versions.Table e v d E.same c.requires.client.seated E.writer.0 E.writer.1 E.pass.0 E.pass.1 in
    let L = if_ok _ c.enter.result c.in_default.not-Err E.linked in
    let q = record c.args.request { note = Some L.1.0 } in let w0 = v.writer in let w1 = d.writer in
    let told1 : answers_told w1 ≡ answers_told w0 = linked_told (law_in g.Versions.Table list) w1.client w1.task q (answers_told w0) w1.seat.me L.1.2 in
    let linked = subst (λ (mine : List (Request × Answer)). IsIn (law_in g.Versions.Table list) q mine w1) (sym told1) L.1.2 in
    let w2 = c.await_own_role.new.writer in
    let role = c.await_own_role.ensures.role.1 q linked in
    let p = c.in-Done.reply in
    let B = as_done (law_in g.Versions.Table list) (kept_in list) (dropped_in list) w2.client q (answers_told w1) c.await_own_role.result p w2.seat.me c.in-Done.is role in
    let asked = asked_on g.Versions.Table e v d E.same told1 E.pass.2.delays c.requires.client.has_asked in
    let w = record d { writer = w2; seat = c.await_own_role.new.seat } in
    let seated : IsSeated g.Versions.Table e w = record {
      is_engine = S.is_engine;
      writer = c.await_own_role.ensures.role.0;
      number = c.await_own_role.ensures.client ∙ S.number;
      seat = c.await_own_role.ensures.seat.0;
      ready = c.await_own_role.ensures.seat.1;
      seat_number = c.await_own_role.ensures.seat.2 ∙ S.seat_number;
      start = S.start;
      table = S.table;
      pass = S.pass;
      pass_number = S.pass_number;
      can_lead = record { lists = S.can_lead.lists; layout = S.can_lead.layout };
    } in
    let there : HasReply (kept_in list) w2.client q (answers_told w1) p w2.seat.me → IsIdle g.Versions.Table e w = λ h.
    let told2 : answers_told w2 ≡ answers_told w1 ++ (q, p) ∷ [] = ap told_in_first h.0 in
    record { seated = seated; out = (h.0 ∙ (λ i. hold w2.client Idle (sym told2 i) ∷ []), h.1); has_asked = asked_more d.number (answers_told w1) (answers_told w2) q p (seen_by d.pass) c.requires.write told2 asked } in
    let left : HasLeft (dropped_in list) w2.client q (answers_told w1) p w2.seat.me → IsIdle g.Versions.Table e w = λ h.
    let told2 : answers_told w2 ≡ answers_told w1 = ap told_in_first h.0 in
    record {
      seated = seated;
      out = (h.0 ∙ (λ i. hold w2.client Idle (sym told2 i) ∷ []), h.1);
      has_asked = subst (λ (mine : List (Request × Answer)). HasAsked d.number (own_commits d.number mine) (seen_by d.pass)) (sym told2) asked;
    } in
    ⊎_elim there left B

pub returns-in-Done-clause-answered : goal.returns-in-Done-clause-answered
returns-in-Done-clause-answered g c =
    let v = c.args.client.now in let e = c.args.self.now in let list = e.list in
    let d = c.enter.new.client in let E = c.enter.ensures in
    let S = seated_on g.Versions.Table e v d E.same c.requires.client.seated E.writer.0 E.writer.1 E.pass.0 E.pass.1 in
    let L = if_ok _ c.enter.result c.in_default.not-Err E.linked in
    let q = record c.args.request { note = Some L.1.0 } in let w0 = v.writer in let w1 = d.writer in
    let told1 : answers_told w1 ≡ answers_told w0 = linked_told (law_in g.Versions.Table list) w1.client w1.task q (answers_told w0) w1.seat.me L.1.2 in
    let linked = subst (λ (mine : List (Request × Answer)). IsIn (law_in g.Versions.Table list) q mine w1) (sym told1) L.1.2 in
    let w2 = c.await_own_role.new.writer in
    let role = c.await_own_role.ensures.role.1 q linked in
    let p = c.in-Done.reply in
    let B = as_done (law_in g.Versions.Table list) (kept_in list) (dropped_in list) w2.client q (answers_told w1) c.await_own_role.result p w2.seat.me c.in-Done.is role in
    let nu : d.number ≡ v.number = ap (λ x. x.number) E.same in
    let client2 : w2.client ≡ v.number = c.await_own_role.ensures.client ∙ (S.number ∙ nu) in
    let opened = opened_log e in let start = (g.Versions.Table.opening e.table).start in
    let w = record d { writer = w2; seat = c.await_own_role.new.seat } in
    let there : HasReply (kept_in list) w2.client q (answers_told w1) p w2.seat.me → IsAnsweredInGroup e.controller opened start c.args.request p v w ⊎ IsLeftOut e.controller c.args.request p v w = λ h.
    inl (record {
      note = L.1.0;
      shows = subst (λ l. IsPrefix (seen_by v.pass) l) (sym L.1.1) E.pass.2.begins;
      answered = record {
        told_now = ap told_in_first h.0 ∙ (λ i. told1 i ++ (q, p) ∷ []);
        handled = h.2.0;
        are_handled = of_engine g.Versions.Table e S.is_engine.controller S.is_engine.start h.2.0 h.2.1;
        own = ap (λ (k : ℕ). of k h.2.0) (sym client2) ∙ (h.2.2 ∙ (λ i. told1 i ++ (q, p) ∷ []));
        number = nu;
        start_same = ap (λ x. x.start) E.same;
        table_same = ap (λ x. x.table) E.same;
      };
    }) in
    let left : HasLeft (dropped_in list) w2.client q (answers_told w1) p w2.seat.me → IsAnsweredInGroup e.controller opened start c.args.request p v w ⊎ IsLeftOut e.controller c.args.request p v w = λ h.
    inr (record {
      told_same = ap told_in_first h.0 ∙ told1;
      number = nu;
      start_same = ap (λ x. x.start) E.same;
      table_same = ap (λ x. x.table) E.same;
      why = inl (record { note = L.1.0; shows = L.1.1; dropped = subst (λ z. IsDropped z q p) S.is_engine.controller h.2 });
    }) in
    ⊎_elim there left B

pub returns-in-Done-clause-seen : goal.returns-in-Done-clause-seen
returns-in-Done-clause-seen g c =
    let v = c.args.client.now in let d = c.enter.new.client in let E = c.enter.ensures in (
      subst (λ seat. Begins (g.Versions.Table.account seat).seen (g.Versions.Table.account c.await_own_role.new.seat).seen) (ap (λ x. x.seat) E.same) c.await_own_role.ensures.seat.3,
      looks_see v.number (seen_by v.pass) (seen_by d.pass) E.pass.2,
    )

pub returns-in-LogLeader-clause-answered : goal.returns-in-LogLeader-clause-answered
returns-in-LogLeader-clause-answered g c =
    let v = c.args.client.now in let e = c.args.self.now in let list = e.list in
    let d = c.enter.new.client in let E = c.enter.ensures in
    let S = seated_on g.Versions.Table e v d E.same c.requires.client.seated E.writer.0 E.writer.1 E.pass.0 E.pass.1 in
    let L = if_ok _ c.enter.result c.in_default.not-Err E.linked in
    let q = record c.args.request { note = Some L.1.0 } in let w0 = v.writer in let w1 = d.writer in
    let told1 : answers_told w1 ≡ answers_told w0 = linked_told (law_in g.Versions.Table list) w1.client w1.task q (answers_told w0) w1.seat.me L.1.2 in
    let linked = subst (λ (mine : List (Request × Answer)). IsIn (law_in g.Versions.Table list) q mine w1) (sym told1) L.1.2 in
    let w2 = c.await_own_role.new.writer in
    let role = c.await_own_role.ensures.role.1 q linked in
    let still = c.let_others_link.ensures in let w3 = c.let_others_link.new.writer in
    let B = as_leader (law_in g.Versions.Table list) (kept_in list) (dropped_in list) w2.client q (answers_told w1) c.await_own_role.result c.in-LogLeader.leadership w2.seat.me c.in-LogLeader.is role in
    let told2 : answers_told w3 ≡ answers_told w1 = told_still w3 w2 still ∙ ap told_in_first B.2.0 in
    let nu : d.number ≡ v.number = ap (λ x. x.number) E.same in
    let A = c.lead.ensures.answered B.0 B.1 (subst (λ (mine : List (Request × Answer)). IsChosen B.0 B.1 mine w3) (sym told2) (chosen_still w3 w2 still B.0 B.1 (answers_told w1) B.2)) in
    let both : answers_told w3 ++ (B.0.asked, c.lead.result) ∷ [] ≡ answers_told w0 ++ (q, c.lead.result) ∷ [] = (λ i. (told2 ∙ told1) i ++ (B.3 i, c.lead.result) ∷ []) in
    inl (record {
      note = L.1.0;
      shows = subst (λ l. IsPrefix (seen_by v.pass) l) (sym L.1.1) E.pass.2.begins;
      answered = record {
        told_now = A.told_now ∙ both;
        handled = A.handled;
        are_handled = A.are_handled;
        own = ap (λ (k : ℕ). of k A.handled) (sym nu) ∙ (A.own ∙ both);
        number = A.number ∙ nu;
        start_same = A.start_same ∙ ap (λ x. x.start) E.same;
        table_same = A.table_same ∙ ap (λ x. x.table) E.same;
      };
    })

pub returns-in-LogLeader-clause-seen : goal.returns-in-LogLeader-clause-seen
returns-in-LogLeader-clause-seen g c =
    let v = c.args.client.now in let d = c.enter.new.client in let E = c.enter.ensures in
    let account = g.Versions.Table.account in let w = c.lead.new.client in
    let waited = subst (λ seat. Begins (account seat).seen (account c.await_own_role.new.seat).seen) (ap (λ x. x.seat) E.same) c.await_own_role.ensures.seat.3 in
    let led = subst (λ (k : ℕ). SeesMore k (seen_by d.pass) (seen_by w.pass)) (ap (λ x. x.number) E.same) c.lead.ensures.seen.1 in (
      begins_on (account v.seat).seen (account c.await_own_role.new.seat).seen (account w.seat).seen waited c.lead.ensures.seen.0,
      sees_on v.number (seen_by v.pass) (seen_by d.pass) (seen_by w.pass) (looks_see v.number (seen_by v.pass) (seen_by d.pass) E.pass.2) led,
    )
