-- The answers so far, together with those to the rest, are all answers.
use Rattle.std.proofs.Common.{◌≡◌, ◌+◌, ◌++◌, length, vec_capacity}
use Rattle.engine_parts.proofs.numbering.answer_all.Given as goal
use Rattle.engine_parts.specs.Numbering.{AreEnough, answers}

abbrev pub invariant-loop-numbering : goal.invariant-loop-numbering
invariant-loop-numbering l = record {
  enough : AreEnough l.numberings.items l.batches.items;
  replies : l.replies.items ++ answers l.fate l.delay l.numberings.items l.batches.items ≡ answers l.fate l.delay l.initial.numberings.items l.initial.batches.items;
  count : length l.replies.items + length l.numberings.items ≡ length l.initial.numberings.items;
  plans_room : vec_capacity l.numberings ≡ vec_capacity l.initial.numberings;
  batches_room : vec_capacity l.batches ≡ vec_capacity l.initial.batches;
  replies_room : vec_capacity l.replies ≡ vec_capacity l.initial.replies;
}

abbrev pub decreases-loop-numbering : goal.decreases-loop-numbering
decreases-loop-numbering l = length l.numberings.items
