use Rattle.std.proofs.Common.{arith}
use Rattle.base_bytes.specs.declared.crc_tables_8_to_15.TheConstants.{TABLE_15, TABLE_14, TABLE_13, TABLE_12}
use Rattle.base_bytes.proofs.Crc.Tables.{table_15, table_14, table_13, table_12}
use Rattle.base_bytes.proofs.Crc.Slices.{by_tables}
use Rattle.base_bytes.proofs.checksum.over_16_bytes.Goals as goal

pub returns : goal.returns
returns c = by_tables 12 TABLE_15 TABLE_14 TABLE_13 TABLE_12 table_15 table_14 table_13 table_12 c.args.register (omega arith)
