use Rattle.log_writer.specs.Adding.{count_of_fault}
use Rattle.log_writer.proofs.Counting.{call_counted}
use Rattle.engine_parts.specs.Logs.{faults_of}
use Rattle.engine_parts.proofs.logging.log_group.Goals as goal

pub returns-clause-adds : goal.returns-clause-adds
returns-clause-adds g c = λ to_log. record {
  wrote = λ opened calls before. c.add_group.ensures.wrote opened.log calls before;
  fault = c.add_group.ensures.fault;
  counted = λ before reads alive so_far. call_counted before (faults_of c.args.log.now) _ (count_of_fault c.add_group.result) reads so_far (c.add_group.ensures.cause alive);
  number = c.add_group.ensures.same.0;
  many = c.add_group.ensures.same.1;
  grows = λ opened kept calls files keeps before holds. c.add_group.ensures.grows opened.log kept calls files keeps before holds;
}
