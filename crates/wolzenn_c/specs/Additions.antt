-- What is added to a batch in one call.
use Rattle.std.specs.Prelude.{List, [], ◌∷◌}
use Rattle.model_base.specs.Batch.{Record}
use Rattle.log_batch.specs.View.{record_of}
use Rattle.wolzenn_c.specs.declared.batch.Addition.{Addition}
use Rattle.wolzenn_c.specs.declared.batch.Addition.TheVariants as addition

-- the records that are added
abbrev pub records_in : Addition → List Record
records_in (addition.Record view) = record_of view ∷ []
records_in (addition.Batch view) = view.records
