use Rattle.std.proofs.Common.{◌≡◌}
use Rattle.run_command_list.specs.Contents.{AreKeys}
use Rattle.run_command_list.specs.OneList.{same_keys}
use Rattle.run_command_list.proofs.keys.Keys.again.Goals as goal

pub returns : goal.returns
returns c =
    let old = c.self.inside in
    let are : (h : AreKeys old.bytes.now old.count) → h.keys ≡ old.are.keys = λ h. same_keys old.bytes.now old.count h old.are in
    rw are c.self.view_is
