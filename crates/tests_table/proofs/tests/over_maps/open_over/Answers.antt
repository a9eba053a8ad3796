-- All seats that a table is opened with have nothing to do.
use Rattle.tests_table.proofs.tests.over_maps.open_over.Goals as goal

pub taken-requires : goal.taken-requires
taken-requires c = λ seat i. let start = c.in_ok-table.ensures.clients.1 seat i in (start.0, start.1)
