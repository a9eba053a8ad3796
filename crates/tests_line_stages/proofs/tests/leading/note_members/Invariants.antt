use Rattle.std.proofs.Common.{◌≡◌, ℕ, ◌+◌, List, vec_len, vec_capacity}
use Rattle.line_rule.specs.declared.view.QueuedWriter.{QueuedWriter}
use Rattle.line_rule.specs.Chain.{heads, Within}
use Rattle.line_rule.specs.Members.{pays}
use Rattle.line_writers.specs.Roles.{AreMembers}
use Rattle.tests_line.specs.declared.counter.CountRequest.{CountRequest}
use Rattle.tests_line.specs.declared.counter.CountReply.{CountReply}
use Rattle.tests_line_stages.proofs.tests.leading.note_members.Given as goal

abbrev pub invariant-loop-i : goal.invariant-loop-i
invariant-loop-i l = record {
  len : vec_len l.members + 1 ≡ l.i;
  room : vec_capacity l.members ≡ vec_capacity l.fn.members;
  members : (n : ℕ) (own : QueuedWriter CountRequest) (p : CountReply) (gs : List (QueuedWriter CountRequest × CountReply)) → l.replies.list.items ≡ pays own p gs → Within n (heads gs) → AreMembers n l.members.items gs;
}
