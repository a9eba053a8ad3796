-- The first replies have their notes, and the pass has seen nothing more.
use Rattle.std.proofs.Common.{◌≡◌, ◌≤◌, ℕ, List, take, drop, length, ◌++◌}
use Rattle.std.specs.List.{AllZip}
use Rattle.engine_controller.specs.Passes.{client_of, seen_by, IsPassOf}
use Rattle.engine_parts.specs.declared.requests.Answer.{Answer}
use Rattle.engine_parts.specs.Handled.{IsNotedAs}
use Rattle.engine_parts.proofs.asking.note_all.Given as goal

abbrev pub invariant-loop-i : goal.invariant-loop-i
invariant-loop-i g l = record {
  in_range : l.i ≤ length l.initial.replies;
  pass : IsPassOf l.controller l.pass;
  client : client_of l.pass ≡ client_of l.initial.pass;
  seen : seen_by l.pass ≡ seen_by l.initial.pass;
  replies : (noted : List (ℕ × Answer)) × (l.replies ≡ noted ++ drop l.i l.initial.replies) × AllZip (IsNotedAs l.controller (seen_by l.initial.pass)) (take l.i l.initial.replies) noted;
}
