-- Each example breaks a part of the law.
use Rattle.model_core_laws.proofs.examples.wrong_states.Goals as goal
use Rattle.model_core_laws.proofs.WrongStates as wrong

pub returns : goal.returns
returns c = record {
  published_too_early = wrong.published_too_early;
  inserted_too_early = wrong.inserted_too_early;
  twice = wrong.twice;
  with_a_gap = wrong.with_a_gap;
  sent_to_the_back = wrong.sent_to_the_back;
  linked_twice = wrong.linked_twice;
  added_unlinked = wrong.added_unlinked;
}
