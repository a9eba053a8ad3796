use Rattle.std.proofs.Common.{arith}
use Rattle.base_bytes.specs.declared.crc_tables_8_to_15.TheConstants.{TABLE_11, TABLE_10, TABLE_9, TABLE_8}
use Rattle.base_bytes.proofs.Crc.Tables.{table_11, table_10, table_9, table_8}
use Rattle.base_bytes.proofs.Crc.Slices.{by_tables}
use Rattle.base_bytes.proofs.checksum.over_12_bytes.Goals as goal

pub returns : goal.returns
returns c = by_tables 8 TABLE_11 TABLE_10 TABLE_9 TABLE_8 table_11 table_10 table_9 table_8 c.args.register (omega arith)
