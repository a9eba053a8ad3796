use Rattle.std.proofs.Common.{refl}
use Rattle.std.proofs.Math.Dec.{lit<}
use Rattle.model_base.specs.Varint.{varint_within}
use Rattle.model_rows.proofs.histories.logs_of_histories.Goals as goal

pub returns-clause-one_commit : goal.returns-clause-one_commit
unfolding varint_within
returns-clause-one_commit c = record {
  of_history = record { cut = refl; none_empty = (lit< tt, tt); runs = (tt, tt) };
  content_is = refl;
  length_is = refl;
}
