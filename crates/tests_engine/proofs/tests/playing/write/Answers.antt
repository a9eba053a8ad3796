use Rattle.engine_groups.specs.Clients.{account_in, settings_of}
use Rattle.table_memory.specs.Meaning.{memory_table}
use Rattle.tests_engine.proofs.Calling.{refused_number}
use Rattle.tests_engine.proofs.tests.playing.write.Goals as goal

pub returns-in-Ok : goal.returns-in-Ok
returns-in-Ok g c = (c.write.ensures.belongs, c.in-Ok.ensures.ok.number)

pub returns-in-Err : goal.returns-in-Err
returns-in-Err g c =
    let s = settings_of memory_table c.args.engine.now in
    let v = account_in memory_table c.args.client.now in
    let w = account_in memory_table c.write.new.client in
    (c.write.ensures.belongs, refused_number s v c.args.batch.records c.args.options c.in-Err.refused.why w c.in-Err.ensures.err)
