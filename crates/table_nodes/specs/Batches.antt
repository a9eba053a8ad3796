-- The versions that a batch makes, as the table defines them.
pub use Rattle.table_rule.specs.Batches.{new_versions, number_from}
