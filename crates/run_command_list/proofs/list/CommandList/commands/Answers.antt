use Rattle.std.proofs.Common.{sym, ◌∙◌}
use Rattle.run_command_list.specs.OneList.{one_body}
use Rattle.run_command_list.proofs.list.CommandList.commands.Goals as goal

pub returns-clause-value : goal.returns-clause-value
returns-clause-value c =
    let are = c.self.inside.holds.are in
    one_body c.of_body.result are.commands c.of_body.ensures.fit are.fit (sym c.of_body.ensures.spelled ∙ c.as_slice.ensures ∙ are.spelled) ∙ c.self.view_is
