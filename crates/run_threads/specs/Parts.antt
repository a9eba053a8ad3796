-- The parts of a client's job.
use Rattle.std.specs.Prelude.{Vec}
use Rattle.std.specs.declared.alloc.Global.{Global}
use Rattle.run_outcome.specs.declared.reply.Reply.{Reply}
use Rattle.run_threads.specs.declared.batches.ClientBatches.{ClientBatches}
use Rattle.run_threads.specs.declared.jobs.Job.{Job}

abbrev pub client_of : {C : Type 0} → Job C → C
client_of job = job.client

abbrev pub replies_of : {C : Type 0} → Job C → Vec Reply Global
replies_of job = job.replies

abbrev pub batches_of : {C : Type 0} → Job C → ClientBatches
batches_of job = job.batches
