-- What a table knows of its opening at run time.
use Rattle.table_rule.specs.declared.view.Opening.{Opening}
use Rattle.table_steps.specs.declared.sizes.Sizes.{Sizes}

-- all but what it was opened over
abbrev pub sizes_of : Opening → Sizes
sizes_of z = record { clients = z.clients; shards = z.shards; start = z.start }
