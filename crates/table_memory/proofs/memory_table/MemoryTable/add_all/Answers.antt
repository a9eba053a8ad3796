use Rattle.std.proofs.Common.{List, ◌++◌, ap, ◌∙◌}
use Rattle.table_rule.specs.declared.content.Version.{Version}
use Rattle.table_rule.specs.declared.view.Stage.TheVariants.{Holding}
use Rattle.table_rule.specs.Steps.{work}
use Rattle.table_memory.specs.Meaning.{account_of}
use Rattle.table_memory.proofs.Runs.{steps_on}
use Rattle.table_memory.proofs.memory_table.MemoryTable.add_all.Goals as goal

pub loop-shard-preserved : goal.loop-shard-preserved
loop-shard-preserved g c =
    let run : List Version = c.take_run-run.result in
    let left : List Version = c.loop-shard.nodes in
    let rest : List Version = c.take_run-run.new.nodes in (
      c.add.ensures.ours,
      λ u at.
          let so_far = c.loop-shard.invariant.1 u at in
          let done = so_far.0 in
          let next = c.add.ensures.added u done rest (so_far.1.stage_is ∙ ap (λ (l : List Version). Holding (work u done l)) c.take_run-run.ensures.cut) in
          (done ++ run, steps_on (account_of c.args.seat.now) (account_of c.loop-shard.seat) (account_of c.add.new.self) (Holding (work u done left)) (Holding (work u (done ++ run) rest)) so_far.1 next),
    )

pub add-requires-clause-shard : goal.add-requires-clause-shard
add-requires-clause-shard g c = (c.in-Some.ensures.0, c.take_run-run.ensures.of_shard)
