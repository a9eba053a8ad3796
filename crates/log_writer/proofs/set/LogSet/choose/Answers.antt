use Rattle.std.proofs.Common.{refl}
use Rattle.log_writer.specs.ReadLaws.{not_read, none_were_read}
use Rattle.log_writer.proofs.set.LogSet.choose.Goals as goal

pub returns-clause-was_read : goal.returns-clause-was_read
returns-clause-was_read g c =
    let old = c.args.self.now in
    record { full = none_were_read old.full.items; current = not_read old.current; later = refl; limit = refl; fault = refl }
