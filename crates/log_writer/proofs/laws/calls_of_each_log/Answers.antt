use Rattle.log_writer.proofs.Splitting.{split_so}
use Rattle.log_writer.proofs.laws.calls_of_each_log.Goals as goal

pub returns : goal.returns
returns g c = record { split = λ old new calls alive wrote. split_so old calls new alive wrote }
