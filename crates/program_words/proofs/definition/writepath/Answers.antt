use Rattle.program_words.proofs.Additions.{with_made, with_made_at_last}
use Rattle.program_words.proofs.definition.writepath.Goals as goal

pub returns : goal.returns
returns c =
    let with_run = with_made _ _ _ _ _ c.in_ok-with_run.ensures c.command_of.ensures.local c.program.ensures c.command_of.ensures.app in
    let with_recover = with_made _ _ _ _ _ c.in_ok-with_recover.ensures c.command_of-2.ensures.local with_run c.command_of-2.ensures.app in
    let with_replay = with_made _ _ _ _ _ c.in_ok-with_replay.ensures c.command_of-3.ensures.local with_recover c.command_of-3.ensures.app in
    with_made_at_last _ _ _ _ _ c.with_command-4.ensures c.command_of-4.ensures.local with_replay c.command_of-4.ensures.app
