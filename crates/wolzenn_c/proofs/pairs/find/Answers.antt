use Rattle.std.proofs.Common.{rules}
use Rattle.model_base.specs.Map.{key_at, key_order}
use Rattle.log_in_memory.proofs.InOrder.{there, key_total}
use Rattle.wolzenn_c.proofs.pairs.find.Goals as goal

-- the pair there has the key
pub returns-in-Some : goal.returns-in-Some
returns-in-Some c = let h = there key_order key_total (key_at c.args.family c.args.key.now) c.args.recovery.now.pairs.items c.args.recovery.now.ordered in search rules

-- the pair there has another key
pub returns-in_default : goal.returns-in_default
returns-in_default c = let h = there key_order key_total (key_at c.args.family c.args.key.now) c.args.recovery.now.pairs.items c.args.recovery.now.ordered in search rules

-- there is no pair
pub returns-in_default-2 : goal.returns-in_default-2
returns-in_default-2 c = let h = there key_order key_total (key_at c.args.family c.args.key.now) c.args.recovery.now.pairs.items c.args.recovery.now.ordered in search rules
