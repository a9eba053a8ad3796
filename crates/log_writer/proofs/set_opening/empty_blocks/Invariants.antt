use Rattle.std.proofs.Common.{◌≡◌, ◌≤◌, vec_len, vec_capacity}
use Rattle.std.specs.List.{AllByRecursion}
use Rattle.log_writer.proofs.set_opening.empty_blocks.Given as goal

abbrev pub invariant-loop-made : goal.invariant-loop-made
invariant-loop-made l = record {
  count : vec_len l.blocks ≡ l.made;
  room : l.many ≤ vec_capacity l.blocks;
  whole : AllByRecursion (λ block. vec_len block ≡ 32768) l.blocks.items;
}
