use Rattle.std.proofs.Common.{◌≡◌, ℕ, List, [], ◌∷◌, ◌++◌, IfSome, is_some, sym, ap, ◌∙◌, subst}
use Rattle.model_base.specs.Batch.{size_of_batch}
use Rattle.line_rule.specs.Chain.{of}
use Rattle.line_writers.specs.Seats.{about_of, answers_told, told_in_first, IsIn, IsChosen}
use Rattle.engine_controller.specs.Passes.{seen_by, IsNoteOf}
use Rattle.engine_rule.specs.Asked.{HasAsked}
use Rattle.engine_parts.specs.declared.requests.Request.{Request}
use Rattle.engine_parts.specs.declared.requests.Answer.{Answer}
use Rattle.engine_groups.specs.Clients.{own_commits}
use Rattle.engine_groups.specs.Law.{law_in}
use Rattle.engine_groups.proofs.Answered.{begins_on}
use Rattle.engine_groups.proofs.Leads.{linked_told, of_engine}
use Rattle.engine_groups.proofs.engine.GroupEngine.ask_log.Goals as goal

pub link-requires-clause-item : goal.link-requires-clause-item
link-requires-clause-item g c =
    let size = c.size.ensures.value ∙ ap (λ (q : Request). size_of_batch q.batch.records) c.as_request.ensures in
    let options = ap (λ (q : Request). q.options) c.as_request-2.ensures in
    ((λ i. record { size = size i; options = options i; alone = sym (ap is_some c.requires.read.1) i }), c.size.ensures.limit)

pub link-requires-clause-lawful : goal.link-requires-clause-lawful
link-requires-clause-lawful g c = subst (λ n. IfSome n (IsNoteOf (about_of c.args.self.now.list).controller.value)) (sym c.requires.note) tt

pub await_lead-leadership-requires-clause-list : goal.await_lead-leadership-requires-clause-list
await_lead-leadership-requires-clause-list g c =
    let v = c.args.client.now in let list = c.args.self.now.list in let q = c.args.request in
    let w0 = v.writer in let w1 = c.link.new.writer in let linked = c.link.ensures.linked in
    let told1 : answers_told w1 ≡ answers_told w0 = linked_told (law_in g.Versions.Table list) w1.client w1.task q (answers_told w0) w1.seat.me linked.1 in
    (linked.0, (q, subst (λ (mine : List (Request × Answer)). IsIn (law_in g.Versions.Table list) q mine w1) (sym told1) linked.1))

pub await_lead-leadership-requires-clause-seat : goal.await_lead-leadership-requires-clause-seat
await_lead-leadership-requires-clause-seat g c = let S = c.requires.client.seated in (S.seat, S.ready)

pub lead_alone-requires-clause-seated : goal.lead_alone-requires-clause-seated
lead_alone-requires-clause-seated g c =
    let S = c.requires.client.seated in let A = c.await_lead-leadership.ensures in record {
      is_engine = S.is_engine;
      writer = A.leads.0;
      number = A.client ∙ (c.link.ensures.client ∙ S.number);
      seat = A.seat.0;
      ready = A.seat.1;
      seat_number = A.seat.2 ∙ S.seat_number;
      start = S.start;
      table = S.table;
      pass = S.pass;
      pass_number = S.pass_number;
      can_lead = record { lists = S.can_lead.lists; layout = S.can_lead.layout };
    }

pub lead_alone-requires-clause-has_asked : goal.lead_alone-requires-clause-has_asked
lead_alone-requires-clause-has_asked g c =
    let v = c.args.client.now in let list = c.args.self.now.list in let q = c.args.request in
    let w0 = v.writer in let w1 = c.link.new.writer in let w2 = c.await_lead-leadership.new.writer in let linked = c.link.ensures.linked in
    let told1 : answers_told w1 ≡ answers_told w0 = linked_told (law_in g.Versions.Table list) w1.client w1.task q (answers_told w0) w1.seat.me linked.1 in
    let is_in = subst (λ (mine : List (Request × Answer)). IsIn (law_in g.Versions.Table list) q mine w1) (sym told1) linked.1 in
    let B = c.await_lead-leadership.ensures.leads.1 q is_in in
    let told2 : answers_told w2 ≡ answers_told w0 = ap told_in_first B.3.0 ∙ told1 in
    subst (λ (mine : List (Request × Answer)). HasAsked v.number (own_commits v.number mine) (seen_by v.pass)) (sym told2) c.requires.client.has_asked

pub lead_alone-requires-clause-leads : goal.lead_alone-requires-clause-leads
lead_alone-requires-clause-leads g c =
    let v = c.args.client.now in let e = c.args.self.now in let list = e.list in let q = c.args.request in let S = c.requires.client.seated in
    let w0 = v.writer in let w1 = c.link.new.writer in let w2 = c.await_lead-leadership.new.writer in let linked = c.link.ensures.linked in
    let told1 : answers_told w1 ≡ answers_told w0 = linked_told (law_in g.Versions.Table list) w1.client w1.task q (answers_told w0) w1.seat.me linked.1 in
    let is_in = subst (λ (mine : List (Request × Answer)). IsIn (law_in g.Versions.Table list) q mine w1) (sym told1) linked.1 in
    let B = c.await_lead-leadership.ensures.leads.1 q is_in in
    let told2 : answers_told w2 ≡ answers_told w1 = ap told_in_first B.3.0 in
    let client1 : w1.client ≡ v.number = c.link.ensures.client ∙ S.number in (
      B.0,
      B.1,
      subst (λ (mine : List (Request × Answer)). IsChosen B.0 B.1 mine w2) (sym told2) B.3,
      (c.requires.read.0, ap (λ (r : Request). r.since) B.2 ∙ c.requires.read.1),
      ap (λ (k : ℕ). of k B.1) (sym client1) ∙ (B.4 ∙ sym told2),
      of_engine g.Versions.Table e S.is_engine.controller S.is_engine.start B.1 B.5.1,
      B.5.0,
    )

pub returns-clause-answered : goal.returns-clause-answered
returns-clause-answered g c =
    let v = c.args.client.now in let list = c.args.self.now.list in let q = c.args.request in let p = c.lead_alone.result in
    let w0 = v.writer in let w1 = c.link.new.writer in let w2 = c.await_lead-leadership.new.writer in let linked = c.link.ensures.linked in
    let told1 : answers_told w1 ≡ answers_told w0 = linked_told (law_in g.Versions.Table list) w1.client w1.task q (answers_told w0) w1.seat.me linked.1 in
    let is_in = subst (λ (mine : List (Request × Answer)). IsIn (law_in g.Versions.Table list) q mine w1) (sym told1) linked.1 in
    let B = c.await_lead-leadership.ensures.leads.1 q is_in in
    let told2 : answers_told w2 ≡ answers_told w1 = ap told_in_first B.3.0 in
    let A = c.lead_alone.ensures.answered B.0 B.1 (subst (λ (mine : List (Request × Answer)). IsChosen B.0 B.1 mine w2) (sym told2) B.3) in
    record {
      told_now = A.told_now ∙ (λ i. (told2 ∙ told1) i ++ (B.2 i, p) ∷ []);
      number = A.number;
      start_same = A.start_same;
      table_same = A.table_same;
      read = A.read;
    }

pub returns-clause-seen : goal.returns-clause-seen
returns-clause-seen g c =
    let v = c.args.client.now in let A = c.await_lead-leadership in let account = g.Versions.Table.account in let led = c.lead_alone.ensures.seen in
    (begins_on (account v.seat).seen (account A.new.seat).seen (account c.lead_alone.new.client.seat).seen A.ensures.seat.3 led.0, led.1)
