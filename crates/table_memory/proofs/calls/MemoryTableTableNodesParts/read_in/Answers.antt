use Rattle.std.proofs.Common.{sym, ap, ◌∙◌}
use Rattle.table_rule.specs.Histories.{last_of, value_in}
use Rattle.table_calls.specs.Account.{Account}
use Rattle.table_tree.specs.Rows.{at_key}
use Rattle.table_memory.specs.Meaning.{opening_of}
use Rattle.table_memory.proofs.calls.MemoryTableTableNodesParts.read_in.Goals as goal

pub returns-clause-at : goal.returns-clause-at
returns-clause-at g c = c.last-at.ensures.value ∙ ap (λ (a : Account). last_of (opening_of c.args.self.now).start a.seen) (sym c.value.ensures.same)

pub returns-clause-value : goal.returns-clause-value
returns-clause-value g c = c.in_ok-value.ensures.value ∙ ap (λ (a : Account). value_in (opening_of c.args.self.now).base (at_key c.args.family c.args.key.now) a.seen) (sym c.value.ensures.same)
