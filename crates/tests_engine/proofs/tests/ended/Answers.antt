use Rattle.std.proofs.Common.{length, ap, ◌∙◌}
use Rattle.tests_engine.proofs.Calling.{all_after}
use Rattle.tests_engine.proofs.tests.ended.Goals as goal

pub closed-log-requires : goal.closed-log-requires
closed-log-requires g c =
    let o = c.opened-engine in
    let same = c.play_at_once.ensures.1 ∙ ap length c.as_mut_slice.ensures.value in
    all_after o.result.0 o.result.1 c.play_at_once.new.clients o.ensures.all c.play_at_once.ensures.0 same
