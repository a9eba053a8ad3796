use Rattle.std.proofs.Common.{◌≡◌, take, vec_len, vec_capacity}
use Rattle.line_writers.specs.Roles.{firsts}
use Rattle.tests_line.proofs.counter.answer_all.Given as goal

abbrev pub invariant-loop-i : goal.invariant-loop-i
invariant-loop-i l = record {
  so_far : firsts l.replies.list.items ≡ firsts (take l.i l.requests.list.items);
  len : vec_len l.replies.list ≡ l.i;
  same : l.requests.list ≡ l.fn.requests.list;
  room : vec_capacity l.replies.list ≡ vec_capacity l.fn.replies.list;
}
