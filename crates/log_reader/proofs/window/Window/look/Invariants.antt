use Rattle.std.proofs.Common.{◌≡◌, ◌-◌, ◌^◌, ◌≤◌, IfSome}
use Rattle.log_reader.specs.Blocks.{SeesSameFrom}
use Rattle.log_reader.specs.Windows.{IsSound, IsOn, offset_of}
use Rattle.log_reader.proofs.window.Window.look.Given as goal

-- from its place now the reader sees the same next as from its place at the call
abbrev pub invariant-loop-self : goal.invariant-loop-self
invariant-loop-self g l = record {
  sound : IsSound l.self;
  on : IfSome (g.R.ReadAt.held l.fn.disk) (λ d. IsOn d l.fn.self → IsOn d l.self × SeesSameFrom l.fn.number d (offset_of l.fn.self) (offset_of l.self));
  forward : offset_of l.fn.self ≤ offset_of l.self;
  worked : g.R.ReadAt.failures l.disk ≡ g.R.ReadAt.failures l.fn.disk;
  disk : g.R.ReadAt.only_reads l.fn.disk l.disk;
}

abbrev pub decreases-loop-self : goal.decreases-loop-self
decreases-loop-self g l = 2 ^ 63 - l.self.start
