use Rattle.std.proofs.Common.{◌≡◌, option_copied}
use Rattle.std.specs.List.{AllByRecursion}
use Rattle.run_scripts.specs.Scripts.{IsShort}
use Rattle.run_scripts.specs.ScriptLines.{default_keys}
use Rattle.run_scripts.specs.ScriptWords.{parts_of, len_behind}
use Rattle.run_scripts.proofs.Families.{with_more}
use Rattle.run_scripts.proofs.lines.read_default_keys.Given as goal

abbrev pub invariant-loop-left : goal.invariant-loop-left
invariant-loop-left l = record {
  goes_on : default_keys (parts_of 32 (option_copied l.fn.rest)) ≡ with_more l.keys (default_keys (parts_of 32 (option_copied l.left)));
  short : AllByRecursion (λ k. IsShort k.bytes) l.keys;
}

abbrev pub decreases-loop-left : goal.decreases-loop-left
decreases-loop-left l = len_behind (option_copied l.left)
