use Rattle.std.proofs.Common.{Ok, Err, refl}
use Rattle.log_in_memory.proofs.Skipping.{skipped_read, not_skipped_read, none_skipped}
use Rattle.log_in_memory.proofs.reading.is_skipped.Goals as goal

pub returns-in-Ok-clause-yes : goal.returns-in-Ok-clause-yes
returns-in-Ok-clause-yes c = λ yes. skipped_read c.args.since c.args.bytes.now c.in-Ok.batch c.sequence.result c.count.result c.in-Ok.ensures.ok c.sequence.ensures c.count.ensures (c.ends_before.ensures.yes yes)

pub returns-in-Ok-clause-no : goal.returns-in-Ok-clause-no
returns-in-Ok-clause-no c = λ no skipped. not_skipped_read c.args.since c.args.bytes.now c.in-Ok.batch c.sequence.result c.count.result (Ok c.in-Ok.batch) refl c.in-Ok.ensures.reads c.sequence.ensures c.count.ensures (c.ends_before.ensures.no no) skipped

pub returns-in-Err-clause-no : goal.returns-in-Err-clause-no
returns-in-Err-clause-no c = λ no skipped. none_skipped c.args.since c.args.bytes.now c.in-Err.field-0 (Err c.in-Err.field-0) refl c.in-Err.ensures.reads skipped
