use Rattle.std.proofs.Common.{length, ◌≡◌, ◌-◌, ◌≤◌, ◌++◌, take, drop}
use Rattle.log_writer.specs.Groups.{bodies_of}
use Rattle.log_writer.proofs.group_bytes.GroupBytes.move_to.Given as goal

abbrev pub invariant-loop-self : goal.invariant-loop-self
invariant-loop-self l = record {
  within : l.at ≤ length l.part;
  there : length l.part - l.at ≤ length (l.self-inside.front.now ++ bodies_of l.self-inside.behind.now);
  moved : take l.at l.part ++ take (length l.part - l.at) (l.self-inside.front.now ++ bodies_of l.self-inside.behind.now) ≡ take (length l.fn.part) l.fn.self;
  rest : drop (length l.part - l.at) (l.self-inside.front.now ++ bodies_of l.self-inside.behind.now) ≡ drop (length l.fn.part) l.fn.self;
}

abbrev pub decreases-loop-self : goal.decreases-loop-self
decreases-loop-self l = length l.self-inside.behind.now
