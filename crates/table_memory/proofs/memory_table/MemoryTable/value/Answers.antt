use Rattle.std.proofs.Common.{◌≡◌, ℕ, List, ap, ◌∙◌}
use Rattle.std.proofs.lemmas.Result.{IfOk-weaker}
use Rattle.model_base.specs.Map.{value_at}
use Rattle.base_bytes.specs.Answers.{found_value}
use Rattle.table_rule.specs.declared.content.Version.{Version}
use Rattle.table_rule.specs.Histories.{standing, of_shard, map_of, value_in}
use Rattle.table_tree.specs.Rows.{at_key}
use Rattle.table_memory.specs.Meaning.{opening_of, account_of}
use Rattle.table_memory.proofs.ShardMaps.{own_shard}
use Rattle.table_memory.proofs.memory_table.MemoryTable.value.Goals as goal

pub returns-clause-value : goal.returns-clause-value
returns-clause-value g c =
    let k : ℕ = (opening_of c.args.self.now).shards in
    let z = opening_of c.args.self.now in
    let vs : List Version = standing z.base (account_of c.args.seat.now).seen in
    IfOk-weaker c.find.result (λ found. found_value found ≡ value_at (map_of (of_shard k c.shard_of-shard.result vs)) (at_key c.args.family c.args.key.now)) (λ found. found_value found ≡ value_in z.base (at_key c.args.family c.args.key.now) (account_of c.args.seat.now).seen)
    (λ found h. h ∙ ap (λ (j : ℕ). value_at (map_of (of_shard k j vs)) (at_key c.args.family c.args.key.now)) c.shard_of-shard.ensures.shard ∙ own_shard k (at_key c.args.family c.args.key.now) vs)
    c.find.ensures.value
