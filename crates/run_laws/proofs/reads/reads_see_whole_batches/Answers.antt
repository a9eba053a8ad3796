-- The law, by its premises.
use Rattle.run_laws.proofs.WholeBatches as law
use Rattle.run_laws.proofs.reads.reads_see_whole_batches.Goals as goal

pub returns : goal.returns
returns c = record { many = law.many_by; get = law.get_by; scan = law.scan_by; same = law.same_by; kept = law.kept }
