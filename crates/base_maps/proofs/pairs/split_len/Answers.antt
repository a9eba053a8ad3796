use Rattle.std.proofs.Common.{arith}
use Rattle.base_maps.proofs.WordSteps.{no_len, a_len}
use Rattle.base_maps.proofs.pairs.split_len.Goals as goal

pub returns-then-bytes-lt-LEN_BYTES : goal.returns-then-bytes-lt-LEN_BYTES
returns-then-bytes-lt-LEN_BYTES c = no_len c.args.bytes.now (omega arith)

pub returns : goal.returns
returns c = a_len c.args.bytes.now c.get_fixed32.result c.split_at.result.1.now (omega arith) c.get_fixed32.ensures.value c.split_at.ensures.back
