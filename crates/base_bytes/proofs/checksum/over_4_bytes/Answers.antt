use Rattle.std.proofs.Common.{arith}
use Rattle.base_bytes.specs.declared.tables.TheConstants.{TABLE_3, TABLE_2, TABLE_1, TABLE_0}
use Rattle.base_bytes.proofs.Crc.Tables.{table_3, table_2, table_1, table_0}
use Rattle.base_bytes.proofs.Crc.Slices.{by_tables}
use Rattle.base_bytes.proofs.checksum.over_4_bytes.Goals as goal

pub returns : goal.returns
returns c = by_tables 0 TABLE_3 TABLE_2 TABLE_1 TABLE_0 table_3 table_2 table_1 table_0 c.args.register (omega arith)
