use Rattle.list_words.proofs.Additions.{with_made, with_made_at_last}
use Rattle.list_words.proofs.definition.wzlog.Goals as goal

pub returns : goal.returns
returns c =
    let with_list = with_made _ _ _ _ _ c.in_ok-with_list.ensures c.command_of.ensures.local c.program.ensures c.command_of.ensures.app in
    let with_scan = with_made _ _ _ _ _ c.in_ok-with_scan.ensures c.command_of-2.ensures.local with_list c.command_of-2.ensures.app in
    with_made_at_last _ _ _ _ _ c.with_command-3.ensures c.command_of-3.ensures.local with_scan c.command_of-3.ensures.app
