use Rattle.std.proofs.Common.{◌≡◌, ◌++◌, take, flat_map}
use Rattle.list_call.specs.StateTexts.{group_line}
use Rattle.list_call.proofs.state_text.put_groups.Given as goal

-- the lines of the records so far are appended to the text
abbrev pub invariant-loop-group : goal.invariant-loop-group
invariant-loop-group l = l.text ≡ l.initial.text ++ flat_map (group_line l.form) (take l.group-index l.groups)
