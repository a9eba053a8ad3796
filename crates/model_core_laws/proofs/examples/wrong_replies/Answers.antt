-- Each example breaks a part of the definition.
use Rattle.model_core_laws.proofs.examples.wrong_replies.Goals as goal
use Rattle.model_core_laws.proofs.WrongReplies as wrong

pub returns : goal.returns
returns c = record { never_written = wrong.never_written; between = wrong.between; stale = wrong.stale; lost = wrong.lost; never_committed = wrong.never_committed; another_record = wrong.another_record; no_fault = wrong.no_fault; has_room = wrong.has_room }
