-- What a handle holds, of each kind.
use Rattle.std.specs.Prelude.{Option, Some, None}
use Rattle.std.specs.Arc.{arc_value}
use Rattle.log_batch.specs.Contents.{Contents}
use Rattle.model_base.specs.Map.{Pairs}
use Rattle.wolzenn_c.specs.declared.object.Object.{Object}
use Rattle.wolzenn_c.specs.declared.object.Object.TheVariants as object
use Rattle.log_in_memory.specs.declared.reading.Reading.{Reading}
use Rattle.log_in_memory.specs.declared.recovery_pairs.RecoveryPairs.{RecoveryPairs}
use Rattle.log_in_memory.specs.declared.scanning.Scan.{Scan}

-- the reader that it holds, if it holds one
abbrev pub as_reader : Option Object → Option Reading
as_reader None = None
as_reader (Some (object.Reader r)) = Some r
as_reader (Some (object.Scan s)) = None
as_reader (Some (object.Recovery r)) = None
as_reader (Some (object.Batch b)) = None

-- the scan that it holds, if it holds one
abbrev pub as_scan : Option Object → Option Scan
as_scan None = None
as_scan (Some (object.Reader r)) = None
as_scan (Some (object.Scan s)) = Some s
as_scan (Some (object.Recovery r)) = None
as_scan (Some (object.Batch b)) = None

-- the recovery that it holds, if it holds one
abbrev pub as_recovered : Option Object → Option RecoveryPairs
as_recovered None = None
as_recovered (Some (object.Reader r)) = None
as_recovered (Some (object.Scan s)) = None
as_recovered (Some (object.Recovery r)) = Some (arc_value r)
as_recovered (Some (object.Batch b)) = None

-- the pairs of the recovery that it holds, if it holds one
abbrev pub as_recovery : Option Object → Option Pairs
as_recovery None = None
as_recovery (Some (object.Reader r)) = None
as_recovery (Some (object.Scan s)) = None
as_recovery (Some (object.Recovery r)) = Some (arc_value r).pairs.items
as_recovery (Some (object.Batch b)) = None

-- the batch that it holds, if it holds one
abbrev pub as_batch : Option Object → Option Contents
as_batch None = None
as_batch (Some (object.Reader r)) = None
as_batch (Some (object.Scan s)) = None
as_batch (Some (object.Recovery r)) = None
as_batch (Some (object.Batch b)) = Some b
