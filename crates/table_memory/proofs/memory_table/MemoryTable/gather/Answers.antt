use Rattle.std.proofs.Common.{◌≡◌, ℕ, ap, refl, ◌∙◌, subst, arith}
use Rattle.std.specs.List.Sorted.{IsPermutation}
use Rattle.model_base.specs.Map.{Rows, rows_within}
use Rattle.table_rule.specs.Histories.{map_after, map_of, of_shard, standing}
use Rattle.table_calls.specs.Account.{Account}
use Rattle.table_memory.specs.Meaning.{opening_of, account_of}
use Rattle.table_memory.proofs.ShardMaps.{shard_rows}
use Rattle.table_memory.proofs.Splits.{no_rows, more_rows, all_rows}
use Rattle.table_memory.proofs.memory_table.MemoryTable.gather.Goals as goal

pub loop-shard-init : goal.loop-shard-init
loop-shard-init g c =
    (c.requires.ours, refl, no_rows (opening_of c.args.self.now).shards c.args.family (rows_within c.args.family c.args.lo.now c.args.hi.now (map_after (opening_of c.args.self.now).base (account_of c.args.seat.now).seen)) c.new-rows.result.items c.new-rows.ensures.items)

pub loop-shard-preserved : goal.loop-shard-preserved
loop-shard-preserved g c =
    let v = c.loop-shard.invariant in
    let k : ℕ = (opening_of c.args.self.now).shards in let j : ℕ = c.loop-shard.shard in
    let all : Rows = rows_within c.args.family c.args.lo.now c.args.hi.now (map_after (opening_of c.args.self.now).base (account_of c.args.seat.now).seen) in
    let more = c.into_vec-more.ensures ∙ c.in_ok-found.ensures.rows
    ∙ ap (λ (a : Account). rows_within c.args.family c.args.lo.now c.args.hi.now (map_of (of_shard k j (standing (opening_of c.args.self.now).base a.seen)))) v.1
    ∙ shard_rows k j c.args.family c.args.lo.now c.args.hi.now (standing (opening_of c.args.self.now).base (account_of c.args.seat.now).seen) in
    (c.find_rows.ensures.ours, c.find_rows.ensures.same ∙ v.1, more_rows k c.args.family j all c.loop-shard.rows.items c.into_vec-more.result.items c.append.new.self.items v.2 more c.in_ok-append.ensures.items)

pub returns-clause-rows : goal.returns-clause-rows
returns-clause-rows g c =
    let all : Rows = rows_within c.args.family c.args.lo.now c.args.hi.now (map_after (opening_of c.args.self.now).base (account_of c.args.seat.now).seen) in
    let k : ℕ = (opening_of c.args.self.now).shards in
    let stop = c.loop-shard-test.false in let within = c.loop-shard.auto.shard-end in let end = c.shards-shards.ensures in
    let last : c.loop-shard.shard ≡ k = omega (arith, stop, within, end) in
    subst (λ (l : Rows). IsPermutation l c.loop-shard.rows.items) (all_rows k c.args.family c.loop-shard.shard all c.args.self.now.some last) c.loop-shard.invariant.2
