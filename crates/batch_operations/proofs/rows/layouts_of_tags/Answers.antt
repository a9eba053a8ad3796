use Rattle.std.proofs.Common.{refl}
use Rattle.batch_operations.proofs.rows.layouts_of_tags.Goals as goal

pub returns : goal.returns
returns c = record { value = refl; log_data = refl; merge_in_family = refl; single_deletion = refl; begin_prepare = refl; rollback = refl; no_operation = refl; range_in_family = refl; range = refl; blob_in_family = refl; deletion_with_timestamp = refl; commit_with_timestamp = refl; wide_columns = refl; last = refl; after_last = refl; none = refl }
