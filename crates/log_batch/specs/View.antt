-- What contracts see of the parts of a batch's bytes.
use Rattle.model_base.specs.Batch.{Record, value, deletion, single_deletion, log_data}
use Rattle.log_batch.specs.declared.record_view.RecordView.{RecordView}
use Rattle.log_batch.specs.declared.record_view.RecordView.TheVariants as view

-- the record that a view shows
abbrev pub record_of : RecordView → Record
record_of (view.Value family key v) = value family key.now v.now
record_of (view.Deletion family key) = deletion family key.now
record_of (view.SingleDeletion family key) = single_deletion family key.now
record_of (view.LogData blob) = log_data blob.now
