use Rattle.std.proofs.Common.{◌≡◌, ◌+◌, ◌≤◌, Ok, fold, length, option_copied}
use Rattle.std.specs.List.{enumerate_from}
use Rattle.model_base.specs.declared.limits.TheConstants.{MAX_CLIENTS}
use Rattle.model_base.specs.Script.{after_line, lines_read}
use Rattle.run_scripts.specs.Languages.{grammar_of, HasCommandsOf}
use Rattle.run_scripts.specs.Scripts.{commands_of, script_len}
use Rattle.run_scripts.specs.ScriptWords.{parts_of, len_behind}
use Rattle.run_scripts.proofs.parser.read_lines.Given as goal

abbrev pub invariant-loop-rest : goal.invariant-loop-rest
invariant-loop-rest l = record {
  goes_on : fold (after_line (grammar_of l.language)) (Ok (commands_of l.script)) (enumerate_from (l.number + 1) (parts_of 10 (option_copied l.rest))) ≡ lines_read (grammar_of l.language) l.text;
  counted : l.number + len_behind (option_copied l.rest) ≤ length l.text + 1;
  few : length l.script.clients.items ≤ MAX_CLIENTS;
  small : script_len l.script + len_behind (option_copied l.rest) ≤ length l.text + 1;
  short : HasCommandsOf l.language l.script;
}

abbrev pub decreases-loop-rest : goal.decreases-loop-rest
decreases-loop-rest l = len_behind (option_copied l.rest)
