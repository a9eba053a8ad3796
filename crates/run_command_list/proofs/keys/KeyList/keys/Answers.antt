use Rattle.std.proofs.Common.{◌≡◌, ◌∙◌}
use Rattle.run_command_list.specs.Contents.{AreKeys}
use Rattle.run_command_list.proofs.Additions.{keys_are}
use Rattle.run_command_list.proofs.keys.KeyList.keys.Goals as goal

pub returns : goal.returns
returns c =
    let old = c.self.inside in
    let are : (h : AreKeys c.as_slice.result.now old.count) → h.keys ≡ old.are.keys =
    λ h. keys_are c.as_slice.result.now old.count h old.are.keys old.are.small old.are.counted (c.as_slice.ensures ∙ old.are.spelled) in
    rw are c.self.view_is
