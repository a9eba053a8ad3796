use Rattle.std.proofs.Common.{◌≡◌, List, [], ◌∷◌, ◌++◌, length, ◌∙◌, ap, arith, rules, length-append}
use Rattle.std.proofs.lemmas.Grind.{common_steps}
use Rattle.model_base.specs.Calls.{Command}
use Rattle.run_command_list.specs.Layout.{bytes_of}
use Rattle.run_command_list.specs.Contents.{Fits, AreCommands, IsList}
use Rattle.run_command_list.specs.Views.{command_of}
use Rattle.run_command_list.proofs.Additions.{commands_are, some_bytes, small_len, with_command, with_command_are, on_ok}
use Rattle.run_command_list.proofs.list.CommandList.push.Goals as goal

pub invariant_of-self-inside : goal.invariant_of-self-inside
invariant_of-self-inside c =
    let old = c.self.inside in
    let same : c.truncate.new.self ≡ old.bytes = grind (arith, common_steps) in (
      record {
        are = record { commands = old.holds.are.commands; fit = old.holds.are.fit; spelled = same ∙ old.holds.are.spelled };
        len_is = old.holds.len_is;
        commits_is = old.holds.commits_is;
      },
      tt,
    )

pub returns-then-is_err-clause-err : goal.returns-then-is_err-clause-err
returns-then-is_err-clause-err c =
    let old = c.self.inside in
    let same : c.truncate.new.self ≡ old.bytes = grind (arith, common_steps) in
    let are : (h : IsList c.truncate.new.self old.len old.commits) → h.are.commands ≡ old.holds.are.commands =
    λ h. commands_are c.truncate.new.self h.are old.holds.are.commands old.holds.are.fit (same ∙ old.holds.are.spelled) in
    rw are c.self.view_is

pub prove-unreachable-requires : goal.prove-unreachable-requires
prove-unreachable-requires c =
    let old = c.self.inside in
    let v = command_of c.args.command in
    let appended : c.append_command.new.bytes ≡ old.bytes ++ bytes_of v = on_ok c.append_command.result (c.append_command.new.bytes ≡ old.bytes ++ bytes_of v) (search rules) c.append_command.ensures.ok in
    let small = small_len old.bytes old.len old.commits old.holds in
    omega (arith, small.0, some_bytes v, ap length appended, length-append old.bytes (bytes_of v))

pub invariant_of-self-inside-2 : goal.invariant_of-self-inside-2
invariant_of-self-inside-2 c =
    let old = c.self.inside in
    let v = command_of c.args.command in
    let appended : c.append_command.new.bytes ≡ old.bytes ++ bytes_of v = on_ok c.append_command.result (c.append_command.new.bytes ≡ old.bytes ++ bytes_of v) (search rules) c.append_command.ensures.ok in
    let fits : Fits v = on_ok c.append_command.result (Fits v) (search rules) c.append_command.ensures.fits in
    (with_command old.bytes c.append_command.new.bytes old.len old.commits c.commits_of.result old.holds v fits appended c.commits_of.ensures, tt)

pub returns-clause-ok : goal.returns-clause-ok
returns-clause-ok c =
    let old = c.self.inside in
    let v = command_of c.args.command in
    let appended : c.append_command.new.bytes ≡ old.bytes ++ bytes_of v = on_ok c.append_command.result (c.append_command.new.bytes ≡ old.bytes ++ bytes_of v) (search rules) c.append_command.ensures.ok in
    let fits : Fits v = on_ok c.append_command.result (Fits v) (search rules) c.append_command.ensures.fits in
    let are : (k : AreCommands c.append_command.new.bytes) → k.commands ≡ old.holds.are.commands ++ v ∷ [] =
    λ k. with_command_are old.bytes c.append_command.new.bytes old.len old.commits old.holds v fits appended k in
    rw are (ap (λ (l : List Command). l ++ v ∷ []) c.self.view_is)
