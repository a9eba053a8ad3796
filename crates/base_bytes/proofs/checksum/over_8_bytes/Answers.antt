use Rattle.std.proofs.Common.{arith}
use Rattle.base_bytes.specs.declared.tables.TheConstants.{TABLE_7, TABLE_6, TABLE_5, TABLE_4}
use Rattle.base_bytes.proofs.Crc.Tables.{table_7, table_6, table_5, table_4}
use Rattle.base_bytes.proofs.Crc.Slices.{by_tables}
use Rattle.base_bytes.proofs.checksum.over_8_bytes.Goals as goal

pub returns : goal.returns
returns c = by_tables 4 TABLE_7 TABLE_6 TABLE_5 TABLE_4 table_7 table_6 table_5 table_4 c.args.register (omega arith)
