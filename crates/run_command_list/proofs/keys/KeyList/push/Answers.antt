use Rattle.std.proofs.Common.{◌≡◌, ◌+◌, List, ℕ, [], ◌∷◌, ◌++◌, sym, ◌∙◌, ap, arith, length-append}
use Rattle.std.proofs.lemmas.Grind.{common_steps}
use Rattle.model_base.specs.declared.key.Key.{Key}
use Rattle.model_base.specs.Map.{key_at}
use Rattle.run_command_list.specs.Layout.{bytes_of_key}
use Rattle.run_command_list.specs.Contents.{AreKeys}
use Rattle.run_command_list.proofs.Steps.{all_small, keys_added}
use Rattle.run_command_list.proofs.Additions.{keys_are}
use Rattle.run_command_list.proofs.keys.KeyList.push.Goals as goal

pub returns-then-is_err-clause-err : goal.returns-then-is_err-clause-err
returns-then-is_err-clause-err c =
    let old = c.self.inside in
    let same : c.truncate.new.self ≡ old.bytes = grind (arith, common_steps) in
    let are : (h : AreKeys c.truncate.new.self old.count) → h.keys ≡ old.are.keys =
    λ h. keys_are c.truncate.new.self old.count h old.are.keys old.are.small old.are.counted (same ∙ old.are.spelled) in
    rw are c.self.view_is

pub invariant_of-self-inside-2 : goal.invariant_of-self-inside-2
invariant_of-self-inside-2 c =
    let old = c.self.inside in
    let w = key_at c.args.family c.args.key.now in
    let appended : c.append_key.new.bytes ≡ old.bytes ++ bytes_of_key w = grind (arith, common_steps) in (
      record {
        keys = old.are.keys ++ w ∷ [];
        small = all_small old.are.keys w old.are.small (omega arith, c.requires);
        counted = omega (arith, old.are.counted, length-append old.are.keys (w ∷ []));
        spelled = appended ∙ ap (λ (l : List ℕ). l ++ bytes_of_key w) old.are.spelled ∙ sym (keys_added old.are.keys w);
      },
      tt,
    )

pub returns-clause-ok : goal.returns-clause-ok
returns-clause-ok c =
    let old = c.self.inside in
    let w = key_at c.args.family c.args.key.now in
    let appended : c.append_key.new.bytes ≡ old.bytes ++ bytes_of_key w = grind (arith, common_steps) in
    let are : (h : AreKeys c.append_key.new.bytes (old.count + 1)) → h.keys ≡ old.are.keys ++ w ∷ [] =
    λ h. keys_are c.append_key.new.bytes (old.count + 1) h (old.are.keys ++ w ∷ []) (all_small old.are.keys w old.are.small (omega arith, c.requires))
    (omega (arith, old.are.counted, length-append old.are.keys (w ∷ [])))
    (appended ∙ ap (λ (l : List ℕ). l ++ bytes_of_key w) old.are.spelled ∙ sym (keys_added old.are.keys w)) in
    rw are (ap (λ (l : List Key). l ++ w ∷ []) c.self.view_is)
