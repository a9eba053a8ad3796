use Rattle.std.proofs.Common.{ℕ, List}
use Rattle.table_rule.specs.declared.content.Version.{Version}
use Rattle.table_nodes.specs.Nodes.{version_of}
use Rattle.table_memory.specs.Meaning.{opening_of}
use Rattle.table_memory.proofs.Runs.{first_of, moved_more, run_more, some_taken}
use Rattle.table_memory.proofs.memory_table.MemoryTable.take_run.Goals as goal

pub loop-nodes-preserved : goal.loop-nodes-preserved
loop-nodes-preserved c =
    let k : ℕ = (opening_of c.args.self.now).shards in
    let v : Version = version_of c.in-Some.node.value in
    let all : List Version = c.args.nodes.now in
    let turned : List Version = c.loop-nodes.turned in
    let after : List Version = c.push_front.new.self in
    let left : List Version = c.loop-nodes.nodes in
    let rest : List Version = c.pop.new.self in
    let of = first_of k c.args.shard c.first_shard.result left rest v c.first_shard.ensures c.loop-nodes-test.ensures c.in-Some.ensures in
    (moved_more v all turned after left rest c.loop-nodes.invariant.0 c.in-Some.ensures c.push_front.ensures, run_more k c.args.shard v turned after c.push_front.ensures of c.loop-nodes.invariant.1)

pub returns-clause-some : goal.returns-clause-some
returns-clause-some c =
    some_taken (opening_of c.args.self.now).shards c.args.shard c.first_shard.result c.args.nodes.now c.loop-nodes.turned c.loop-nodes.nodes c.first_shard.ensures c.loop-nodes-test.ensures c.requires c.loop-nodes.invariant.0
