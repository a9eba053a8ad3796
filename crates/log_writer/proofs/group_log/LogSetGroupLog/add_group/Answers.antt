use Rattle.std.proofs.Common.{refl}
use Rattle.log_writer.specs.SetFaultLaws.{came_in_set}
use Rattle.log_writer.specs.Sets.{one_more}
use Rattle.log_writer.specs.TellLaws.{set_files_known}
use Rattle.log_writer.proofs.Growing.{set_goes_on, set_many}
use Rattle.log_writer.proofs.group_log.LogSetGroupLog.add_group.Goals as goal

pub returns-clause-wrote : goal.returns-clause-wrote
returns-clause-wrote g c = λ opened calls wrote. one_more _ wrote c.add_group.ensures

pub returns-clause-cause : goal.returns-clause-cause
returns-clause-cause g c = λ alive. came_in_set _ c.args.self.now c.add_group.new.self alive c.add_group.ensures

pub returns-clause-same : goal.returns-clause-same
returns-clause-same g c = (refl, set_many _ c.args.self.now c.add_group.new.self c.add_group.ensures)

pub returns-clause-grows : goal.returns-clause-grows
returns-clause-grows g c = λ opened kept calls files keeps wrote are.
    let known = set_files_known opened c.add_group.new.self kept _ keeps (one_more _ wrote c.add_group.ensures) in
    (known.0, known.1, set_goes_on g.met.D.Disk.is_disk _ c.args.self.now c.add_group.new.self files known.0 c.add_group.ensures are known.1)
