-- So far the client only looked, and where the newest look showed no stop, its group may go on. The clock has paused as
-- long as the delay answered.
use Rattle.std.proofs.Common.{◌≡◌, false}
use Rattle.base_devices.specs.Clocks.{HasPaused}
use Rattle.engine_controller.specs.Looks.{look_of}
use Rattle.engine_controller.specs.Passes.{client_of, seen_by, IsPassOf}
use Rattle.engine_rule.specs.Plans.{LetsProceed}
use Rattle.engine_parts.specs.Asking.{OnlyLooks}
use Rattle.engine_parts.proofs.asking.wait_while_held_up.Given as goal

abbrev pub invariant-loop : goal.invariant-loop
invariant-loop g l = record {
  next : (goal.iterator-loop g).can_next l.iterator';
  finite : (goal.iterator-loop g).is_finite l.iterator';
  pass : IsPassOf l.controller l.pass;
  client : client_of l.pass ≡ client_of l.fn.pass;
  looks : OnlyLooks (client_of l.fn.pass) (seen_by l.fn.pass) (seen_by l.pass);
  proceeds : l.stops ≡ 0 → LetsProceed (client_of l.fn.pass) (look_of l.fn.look) (seen_by l.fn.pass) (seen_by l.pass) false;
  waited : HasPaused (g.Time.Clock.paused l.fn.clock) (look_of l.fn.look).wait (g.Time.Clock.paused l.clock);
}
