-- The sum of the sizes so far.
use Rattle.std.proofs.Common.{◌≡◌, ◌≤◌, map, take, length, ◌*◌}
use Rattle.model_base.specs.declared.limits.TheConstants.{MAX_SIZE}
use Rattle.model_base.specs.Grouping.{size_of}
use Rattle.engine_rule.specs.Plans.{item_of_request}
use Rattle.engine_parts.specs.Handled.{commit_requests_of}
use Rattle.engine_parts.proofs.asking.bytes_of.Given as goal

abbrev pub invariant-loop-i : goal.invariant-loop-i
invariant-loop-i l = record {
  in_range : l.i ≤ length l.requests;
  sum : l.bytes ≡ size_of (map item_of_request (commit_requests_of (take l.i l.requests)));
  low : l.bytes ≤ l.i * MAX_SIZE;
}
