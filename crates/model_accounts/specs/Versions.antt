-- The versions that the entries of a history make in the table.
use Rattle.std.specs.Prelude.{List}
use Rattle.model_base.specs.History.{Entry}
use Rattle.table_rule.specs.declared.content.Version.{Version}
use Rattle.table_rule.specs.Histories.{made_by}
use Rattle.table_rule.specs.Batches.{new_versions, number_from}

-- one version for each record that counts, with the sequences of the entry's run
abbrev pub versions_of_entry : Entry → List Version
versions_of_entry e = number_from e.first (new_versions e.records)

-- the versions of these entries, in order
abbrev pub versions_of_entries : List Entry → List Version
versions_of_entries entries = made_by versions_of_entry entries
