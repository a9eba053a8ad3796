use Rattle.std.proofs.Common.{[], refl}
use Rattle.run_command_list.proofs.list.CommandList.new.Goals as goal

pub invariant_of-result : goal.invariant_of-result
invariant_of-result c = (record { are = record { commands = []; fit = tt; spelled = c.new.ensures }; len_is = refl; commits_is = refl }, tt)
