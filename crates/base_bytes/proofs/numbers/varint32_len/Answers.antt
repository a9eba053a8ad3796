use Rattle.std.proofs.Common.{sym, arith}
use Rattle.base_bytes.proofs.Spellings.{one_byte, two_bytes, three_bytes, four_bytes, five_bytes}
use Rattle.base_bytes.proofs.numbers.varint32_len.Goals as goal

pub returns-in-0-to-127-clause-value : goal.returns-in-0-to-127-clause-value
returns-in-0-to-127-clause-value c = sym (one_byte c.args.n (omega arith))

pub returns-in-128-to-16383-clause-value : goal.returns-in-128-to-16383-clause-value
returns-in-128-to-16383-clause-value c = sym (two_bytes c.args.n (omega arith) (omega arith))

pub returns-in-16384-to-2097151-clause-value : goal.returns-in-16384-to-2097151-clause-value
returns-in-16384-to-2097151-clause-value c = sym (three_bytes c.args.n (omega arith) (omega arith))

pub returns-in-2097152-to-268435455-clause-value : goal.returns-in-2097152-to-268435455-clause-value
returns-in-2097152-to-268435455-clause-value c = sym (four_bytes c.args.n (omega arith) (omega arith))

pub returns-in_default-clause-value : goal.returns-in_default-clause-value
returns-in_default-clause-value c = sym (five_bytes c.args.n (omega arith))
