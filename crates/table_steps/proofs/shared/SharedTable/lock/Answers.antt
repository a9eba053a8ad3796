use Rattle.std.proofs.Common.{subst}
use Rattle.table_rule.specs.declared.view.Opening.{Opening}
use Rattle.table_rule.specs.declared.view.Lock.TheVariants.{Free}
use Rattle.table_rule.specs.Steps.{IsAt}
use Rattle.table_steps.specs.declared.shared.Client.{Client}
use Rattle.table_steps.specs.Seen.{Locked}
use Rattle.table_steps.proofs.shared.SharedTable.lock.Goals as goal

pub returns-in-Some-try_lock-clause-locked : goal.returns-in-Some-try_lock-clause-locked
returns-in-Some-try_lock-clause-locked g c seen stage =
    let z : Opening = c.args.self.now.table.shared.key in let vs = g.ShardTree.Versioned.versions c.in-Some-try_lock.tree in let after = c.try_lock.new.who.seat.me in
    subst (λ (w : Client g.row.ShardTree.Denot g.row.NodeList.Denot). IsAt w.number z seen Free stage w.seat.me → Locked w.number z c.args.shard seen stage vs w.seat.me after) c.loop.invariant.2 (c.in-Some-try_lock.ensures.locked seen stage)
