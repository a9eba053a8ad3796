use Rattle.std.proofs.Common.{◌≡◌, ℕ, List, sym, ap, ◌∙◌}
use Rattle.std.proofs.lemmas.Result.{IfOk-weaker}
use Rattle.model_base.specs.Map.{rows_within}
use Rattle.table_rule.specs.declared.content.Version.{Version}
use Rattle.table_rule.specs.Histories.{map_after, map_of, of_shard, standing}
use Rattle.table_rule.proofs.Answers.{one_shard}
use Rattle.table_memory.specs.Meaning.{opening_of, account_of}
use Rattle.table_memory.proofs.ShardMaps.{rising_rows}
use Rattle.table_memory.proofs.memory_table.MemoryTable.rows.Goals as goal

-- one shard's versions are all
pub returns-then-shards-eq1-clause-rows : goal.returns-then-shards-eq1-clause-rows
returns-then-shards-eq1-clause-rows g c =
    let vs : List Version = standing (opening_of c.args.self.now).base (account_of c.args.seat.now).seen in
    let one : (opening_of c.args.self.now).shards ≡ 1 = sym c.shards.ensures ∙ c.if-shards-eq1.true in
    let all : of_shard (opening_of c.args.self.now).shards 0 vs ≡ vs = ap (λ (k : ℕ). of_shard k 0 vs) one ∙ one_shard vs in
    IfOk-weaker c.find_rows.result _ _ (λ rows h. h ∙ ap (λ (l : List Version). rows_within c.args.family c.args.lo.now c.args.hi.now (map_of l)) all) c.find_rows.ensures.rows

pub returns-clause-rows : goal.returns-clause-rows
returns-clause-rows g c =
    let base = (opening_of c.args.self.now).base in
    let seen = (account_of c.args.seat.now).seen in
    c.in_byte_order-rows.ensures (rows_within c.args.family c.args.lo.now c.args.hi.now (map_after base seen)) (rising_rows c.args.family c.args.lo.now c.args.hi.now (standing base seen)) c.in_ok-found.ensures.rows
