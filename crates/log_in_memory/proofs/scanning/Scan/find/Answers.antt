use Rattle.std.proofs.Common.{refl}
use Rattle.log_in_memory.proofs.Finding.{no_answer_again}
use Rattle.log_in_memory.proofs.scanning.Scan.find.Goals as goal

pub find_next-answer-requires : goal.find_next-answer-requires
find_next-answer-requires c = record { going = c.args.self.now.going c.requires }

pub returns : goal.returns
returns c = record {
  number = c.find_next-answer.ensures.number;
  goes_on = c.find_next-answer.ensures.goes_on;
  last = refl;
  finds = λ unended is. c.find_next-answer.ensures.found is;
  again = no_answer_again c.args.self.now _ c.find_next-answer.result c.requires;
}
