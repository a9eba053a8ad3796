use Rattle.std.proofs.Common.{◌∷◌, [], refl}
use Rattle.model_base.specs.declared.write.Refusal.TheVariants.{NoFamily}
use Rattle.model_base.specs.Calls as calls
use Rattle.base_bytes.specs.declared.answers.Rows.{Rows}
use Rattle.run_threads.proofs.ReadFamilies.{all_there, there_but_no_memory, first_is_missing}
use Rattle.run_threads.proofs.reading.scan.Goals as goal

pub returns-in-Ok-clause-answers : goal.returns-in-Ok-clause-answers
returns-in-Ok-clause-answers g c = λ pending.
    let settings = g.E.Engine.settings c.args.engine.now in
    let v = g.E.Engine.account c.args.client.now in
    let w = g.E.Engine.account c.scan_in.new.client in
    let rows = c.in-Ok.rows in
    let said = c.in-Ok.ensures in
    record {
      reply = calls.rows rows.at rows.rows;
      shows = refl;
      goes = c.reads_are_steps.ensures.scan settings v pending c.args.family c.args.lo.now c.args.hi.now rows.at rows.rows w
          (all_there settings (c.args.family ∷ []) rows said.family) said.keeps said.ok;
    }

pub returns-in-Err-NoMemory-clause-answers : goal.returns-in-Err-NoMemory-clause-answers
returns-in-Err-NoMemory-clause-answers g c = λ pending.
    let settings = g.E.Engine.settings c.args.engine.now in
    record { keeps = c.in-Err-NoMemory.ensures.keeps; may = λ shown. there_but_no_memory Rows settings (c.args.family ∷ []) (rw c.in-Err-NoMemory.field-0-is at c.in-Err-NoMemory.ensures.family) }

pub returns-in-Err-NoFamily-clause-answers : goal.returns-in-Err-NoFamily-clause-answers
returns-in-Err-NoFamily-clause-answers g c = λ pending.
    let settings = g.E.Engine.settings c.args.engine.now in
    let v = g.E.Engine.account c.args.client.now in
    let w = g.E.Engine.account c.scan_in.new.client in
    let family = c.in-Err-NoFamily.family in
    let said = c.in-Err-NoFamily.ensures in
    record {
      reply = calls.refused (NoFamily family);
      shows = refl;
      goes = c.refused_reads_are_steps.ensures.scan settings v pending c.args.family c.args.lo.now c.args.hi.now family w
          (first_is_missing Rows settings (c.args.family ∷ []) family (rw c.in-Err-NoFamily.field-0-is at said.family)) said.keeps;
    }
