use Rattle.std.proofs.Common.{refl}
use Rattle.model_base.specs.declared.write.Refusal.TheVariants.{SelfStop}
use Rattle.model_base.specs.Calls as calls
use Rattle.run_threads.proofs.reading.updates.Goals as goal

pub returns-in-Ok-clause-answers : goal.returns-in-Ok-clause-answers
returns-in-Ok-clause-answers g c = λ pending.
    let settings = g.E.Engine.settings c.args.engine.now in
    let v = g.E.Engine.account c.args.client.now in
    let w = g.E.Engine.account c.updates.new.client in
    let said = c.in-Ok.ensures.ok in
    record {
      reply = calls.updates_found c.in-Ok.field-0.at c.in-Ok.field-0.records;
      shows = refl;
      goes = c.reads_of_the_log_are_steps.ensures.found settings v pending c.args.since c.in-Ok.field-0.at c.in-Ok.field-0.records w said.0 said.1;
    }

pub returns-in-Err-SelfStop-clause-answers : goal.returns-in-Err-SelfStop-clause-answers
returns-in-Err-SelfStop-clause-answers g c = λ pending.
    let settings = g.E.Engine.settings c.args.engine.now in
    let v = g.E.Engine.account c.args.client.now in
    let w = g.E.Engine.account c.updates.new.client in
    let said = rw c.in-Err-SelfStop.field-0-is at c.in-Err-SelfStop.ensures.err in
    record {
      reply = calls.refused SelfStop;
      shows = refl;
      goes = c.reads_of_the_log_are_steps.ensures.refused settings v pending c.args.since w said.0 said.1;
    }

pub returns-in-Err-NoMemory-clause-answers : goal.returns-in-Err-NoMemory-clause-answers
returns-in-Err-NoMemory-clause-answers g c = λ pending.
    let settings = g.E.Engine.settings c.args.engine.now in
    let v = g.E.Engine.account c.args.client.now in
    let w = g.E.Engine.account c.updates.new.client in
    let said = rw c.in-Err-NoMemory.field-0-is at c.in-Err-NoMemory.ensures.err in
    c.reads_of_the_log_are_steps.ensures.out_of_memory settings v pending c.args.since w said.0 said.1

pub returns-in-Err-ReadFault-clause-answers : goal.returns-in-Err-ReadFault-clause-answers
returns-in-Err-ReadFault-clause-answers g c = λ pending.
    let settings = g.E.Engine.settings c.args.engine.now in
    let v = g.E.Engine.account c.args.client.now in
    let w = g.E.Engine.account c.updates.new.client in
    let count = c.in-Err-ReadFault.count in
    let said = rw c.in-Err-ReadFault.field-0-is at c.in-Err-ReadFault.ensures.err in
    record {
      reply = calls.read_failed count;
      shows = refl;
      goes = c.reads_of_the_log_are_steps.ensures.failed settings v pending c.args.since count w said.0 said.1;
    }

pub returns-in-Ok-clause-mine : goal.returns-in-Ok-clause-mine
returns-in-Ok-clause-mine g c = c.in-Ok.ensures.ok.1.mine

pub returns-in-Err-SelfStop-clause-mine : goal.returns-in-Err-SelfStop-clause-mine
returns-in-Err-SelfStop-clause-mine g c = (rw c.in-Err-SelfStop.field-0-is at c.in-Err-SelfStop.ensures.err).1.mine

pub returns-in-Err-NoMemory-clause-mine : goal.returns-in-Err-NoMemory-clause-mine
returns-in-Err-NoMemory-clause-mine g c = (rw c.in-Err-NoMemory.field-0-is at c.in-Err-NoMemory.ensures.err).1.mine

pub returns-in-Err-ReadFault-clause-mine : goal.returns-in-Err-ReadFault-clause-mine
returns-in-Err-ReadFault-clause-mine g c = (rw c.in-Err-ReadFault.field-0-is at c.in-Err-ReadFault.ensures.err).1.mine
