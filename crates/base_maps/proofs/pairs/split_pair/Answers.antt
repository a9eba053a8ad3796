use Rattle.std.proofs.Common.{rules}
use Rattle.base_maps.specs.Words.{read_pair}
use Rattle.base_maps.proofs.pairs.split_pair.Goals as goal

pub returns-in_err-key : goal.returns-in_err-key
unfolding read_pair
returns-in_err-key c = search rules

pub returns-in_err-value : goal.returns-in_err-value
unfolding read_pair
returns-in_err-value c = search rules

pub returns : goal.returns
unfolding read_pair
returns c = search rules
