use Rattle.std.proofs.Common.{map, sym, ap, ◌∙◌}
use Rattle.base_bytes.specs.declared.answers.Place.{Place}
use Rattle.table_rule.specs.Histories.{value_in}
use Rattle.table_tree.specs.Rows.{at_key}
use Rattle.table_calls.specs.Account.{Account}
use Rattle.table_memory.specs.Meaning.{opening_of}
use Rattle.table_memory.proofs.calls.MemoryTableTableNodesParts.read_many_in.Goals as goal

pub returns-clause-values : goal.returns-clause-values
returns-clause-values g c = c.in_ok-values.ensures.values ∙ ap (λ (a : Account). map (λ (p : Place). value_in (opening_of c.args.self.now).base (at_key p.family p.key) a.seen) c.args.places.now) (sym c.values.ensures.same)
