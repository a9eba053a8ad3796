-- The parts one after another.
use Rattle.std.proofs.Common.{◌∙◌}
use Rattle.list_call.proofs.Recovering.{state_shown}
use Rattle.list_call.proofs.state_text.state_text.Goals as goal

pub returns : goal.returns
returns c = λ r shows.
    let all = rw (c.in_ok-put_map.ensures, c.in_ok-put_groups.ensures, c.new-text.ensures, c.deref.ensures.value) at c.in_ok-put_end.ensures in
    all ∙ state_shown c.args.form c.args.recovered.now r shows
