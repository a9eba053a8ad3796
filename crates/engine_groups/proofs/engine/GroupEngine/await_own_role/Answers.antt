use Rattle.std.proofs.Common.{◌≡◌, List, inl, refl, sym, ◌∙◌, subst}
use Rattle.line_writers.specs.declared.second.PipelinedRole.TheVariants.{LogLeader, MemLeader, Parallel, Done}
use Rattle.line_writers.specs.Second.{HasPipelinedRole}
use Rattle.line_writers.specs.Seats.{IsIn, answers_told}
use Rattle.engine_parts.specs.declared.requests.Request.{Request}
use Rattle.engine_parts.specs.declared.requests.Answer.{Answer}
use Rattle.engine_groups.specs.Law.{dropped_in, kept_in, law_in}
use Rattle.engine_groups.proofs.Answered.{begins_on, begins_self}
use Rattle.engine_groups.proofs.Leads.{linked_told}
use Rattle.engine_groups.proofs.engine.GroupEngine.await_own_role.Goals as goal

pub loop-init : goal.loop-init
loop-init g c = record {
  next = tt;
  finite = tt;
  client = refl;
  belongs = c.requires.list.0;
  asked = c.requires.list.1.0;
  was_in = c.requires.list.1.1;
  is_in = λ q was. was;
  ours = c.requires.seat.0;
  ready = c.requires.seat.1;
  number = refl;
  seen = begins_self (g.Versions.Table.account c.args.seat.now).seen;
}

pub await_pipelined_role-requires : goal.await_pipelined_role-requires
await_pipelined_role-requires g c =
    let v = c.loop.invariant in let list = c.args.self.now.list in let w0 = c.args.writer.now in let w1 = c.loop.writer in
    let told1 : answers_told w1 ≡ answers_told w0 = linked_told (law_in g.Versions.Table list) w1.client w1.task v.asked (answers_told w0) w1.seat.me (v.is_in v.asked v.was_in) in
    (v.belongs, inl (v.asked, subst (λ (mine : List (Request × Answer)). IsIn (law_in g.Versions.Table list) v.asked mine w1) (sym told1) (v.is_in v.asked v.was_in)))

pub returns-in-LogLeader-clause-role : goal.returns-in-LogLeader-clause-role
returns-in-LogLeader-clause-role g c =
    let v = c.loop.invariant in let list = c.args.self.now.list in let w0 = c.args.writer.now in let w1 = c.loop.writer in
    let told1 : answers_told w1 ≡ answers_told w0 = linked_told (law_in g.Versions.Table list) w1.client w1.task v.asked (answers_told w0) w1.seat.me (v.is_in v.asked v.was_in) in (
      c.await_pipelined_role.ensures.client.1,
      (λ q was. subst (λ (mine : List (Request × Answer)). HasPipelinedRole (law_in g.Versions.Table list) (kept_in list) (dropped_in list) q mine (LogLeader c.in-LogLeader.leadership) c.await_pipelined_role.new.writer) told1
          (subst (λ r. HasPipelinedRole (law_in g.Versions.Table list) (kept_in list) (dropped_in list) q (answers_told w1) r c.await_pipelined_role.new.writer) c.in-LogLeader.is
          (c.await_pipelined_role.ensures.role q (subst (λ (mine : List (Request × Answer)). IsIn (law_in g.Versions.Table list) q mine w1) (sym told1) (v.is_in q was))))),
    )

pub returns-in-Done-clause-role : goal.returns-in-Done-clause-role
returns-in-Done-clause-role g c =
    let v = c.loop.invariant in let list = c.args.self.now.list in let w0 = c.args.writer.now in let w1 = c.loop.writer in
    let told1 : answers_told w1 ≡ answers_told w0 = linked_told (law_in g.Versions.Table list) w1.client w1.task v.asked (answers_told w0) w1.seat.me (v.is_in v.asked v.was_in) in (
      c.await_pipelined_role.ensures.client.1,
      (λ q was. subst (λ (mine : List (Request × Answer)). HasPipelinedRole (law_in g.Versions.Table list) (kept_in list) (dropped_in list) q mine (Done c.in-Done.reply) c.await_pipelined_role.new.writer) told1
          (subst (λ r. HasPipelinedRole (law_in g.Versions.Table list) (kept_in list) (dropped_in list) q (answers_told w1) r c.await_pipelined_role.new.writer) c.in-Done.is
          (c.await_pipelined_role.ensures.role q (subst (λ (mine : List (Request × Answer)). IsIn (law_in g.Versions.Table list) q mine w1) (sym told1) (v.is_in q was))))),
    )

pub loop-preserved : goal.loop-preserved
loop-preserved g c =
    let v = c.loop.invariant in let list = c.args.self.now.list in let w0 = c.args.writer.now in let w1 = c.loop.writer in
    let told1 : answers_told w1 ≡ answers_told w0 = linked_told (law_in g.Versions.Table list) w1.client w1.task v.asked (answers_told w0) w1.seat.me (v.is_in v.asked v.was_in) in
    let account = g.Versions.Table.account in let W = c.work.ensures.works in
    record {
      next = tt;
      finite = tt;
      client = c.await_pipelined_role.ensures.client.0 ∙ v.client;
      belongs = c.await_pipelined_role.ensures.client.1;
      asked = v.asked;
      was_in = v.was_in;
      is_in = λ q was. subst (λ (mine : List (Request × Answer)). HasPipelinedRole (law_in g.Versions.Table list) (kept_in list) (dropped_in list) q mine (Parallel) c.await_pipelined_role.new.writer) told1
          (subst (λ r. HasPipelinedRole (law_in g.Versions.Table list) (kept_in list) (dropped_in list) q (answers_told w1) r c.await_pipelined_role.new.writer) c.in-Parallel.is
          (c.await_pipelined_role.ensures.role q (subst (λ (mine : List (Request × Answer)). IsIn (law_in g.Versions.Table list) q mine w1) (sym told1) (v.is_in q was))));
      ours = c.work.ensures.ours;
      ready = record { idle = W.idle; none_launched = W.same ∙ v.ready.none_launched };
      number = W.number ∙ v.number;
      seen = begins_on (account c.args.seat.now).seen (account c.loop.seat).seen (account c.work.new.seat).seen v.seen W.goes_on;
    }

pub unreachable-requires : goal.unreachable-requires
unreachable-requires g c =
    let v = c.loop.invariant in let list = c.args.self.now.list in let w0 = c.args.writer.now in let w1 = c.loop.writer in
    let told1 : answers_told w1 ≡ answers_told w0 = linked_told (law_in g.Versions.Table list) w1.client w1.task v.asked (answers_told w0) w1.seat.me (v.is_in v.asked v.was_in) in
    let q = v.asked in let was = v.was_in in
    subst (λ (mine : List (Request × Answer)). HasPipelinedRole (law_in g.Versions.Table list) (kept_in list) (dropped_in list) q mine (MemLeader c.in_default.field-0) c.await_pipelined_role.new.writer) told1
    (subst (λ r. HasPipelinedRole (law_in g.Versions.Table list) (kept_in list) (dropped_in list) q (answers_told w1) r c.await_pipelined_role.new.writer) c.in_default.is
    (c.await_pipelined_role.ensures.role q (subst (λ (mine : List (Request × Answer)). IsIn (law_in g.Versions.Table list) q mine w1) (sym told1) (v.is_in q was))))
