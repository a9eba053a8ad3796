use Rattle.std.proofs.Common.{◌≡◌, ◌+◌, ◌≤◌, Ok, fold, length, option_copied}
use Rattle.std.specs.List.{enumerate_from}
use Rattle.model_base.specs.declared.limits.TheConstants.{MAX_CLIENTS}
use Rattle.model_core.specs.Schedule.{after_line, lines_read}
use Rattle.run_scripts.specs.declared.language.Language.TheVariants.{Replay}
use Rattle.run_scripts.specs.Languages.{HasCommandsOf}
use Rattle.run_scripts.specs.Scripts.{script_len}
use Rattle.run_scripts.specs.ScriptWords.{parts_of, len_behind}
use Rattle.run_scripts.specs.Schedules.{draft_of}
use Rattle.run_scripts.proofs.schedule.read_lines.Given as goal
use Rattle.run_scripts.specs.ReplayLanguage.{replay_grammar, event_words}

abbrev pub invariant-loop-rest : goal.invariant-loop-rest
invariant-loop-rest l = record {
  goes_on : fold (after_line replay_grammar event_words) (Ok (draft_of l.draft)) (enumerate_from (l.number + 1) (parts_of 10 (option_copied l.rest))) ≡ lines_read replay_grammar event_words l.text;
  counted : l.number + len_behind (option_copied l.rest) ≤ length l.text + 1;
  few : length l.draft.script.clients.items ≤ MAX_CLIENTS;
  small : script_len l.draft.script + len_behind (option_copied l.rest) ≤ length l.text + 1;
  short : HasCommandsOf Replay l.draft.script;
}

abbrev pub decreases-loop-rest : goal.decreases-loop-rest
decreases-loop-rest l = len_behind (option_copied l.rest)
