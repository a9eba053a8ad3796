use Rattle.std.proofs.Common.{◌≡◌, Some, option_copied, sym, subst, rules}
use Rattle.std.specs.List.{AllByRecursion}
use Rattle.model_base.specs.declared.key.Key.{Key}
use Rattle.model_base.specs.Map.{key_at}
use Rattle.run_scripts.specs.Scripts.{IsShort}
use Rattle.run_scripts.specs.ScriptLines.{family_keys, key_first, Reads}
use Rattle.run_scripts.specs.ScriptWords.{parts_of}
use Rattle.run_scripts.proofs.Families.{family_read, no_family_read, all_short}
use Rattle.run_scripts.proofs.family_lines.read_family_keys.Goals as goal

pub returns-in_err-family-clause-keys : goal.returns-in_err-family-clause-keys
returns-in_err-family-clause-keys c =
    let goes_on = rw c.in-Some.is at c.loop-left.invariant.goes_on in
    subst (λ r. Reads (λ k. k) r c.from_residual.result) (sym (no_family_read (family_keys (parts_of 32 (option_copied c.args.rest))) c.loop-left.keys c.in-Some.text.now goes_on (search rules))) (search rules)

pub loop-left-preserved : goal.loop-left-preserved
loop-left-preserved c =
    let k = key_at c.in_ok-family.family c.in_ok-family.key.now in
    let goes_on = rw c.in-Some.is at c.loop-left.invariant.goes_on in
    let first : Some (k, parts_of 32 (option_copied c.in_ok-family.behind)) ≡ key_first (parts_of 32 (Some c.in-Some.text.now)) = search rules in
    let short : IsShort c.in_ok-family.key.now = search rules in
    record {
      goes_on = family_read (family_keys (parts_of 32 (option_copied c.args.rest))) c.loop-left.keys c.push.new.self c.in-Some.text.now k (parts_of 32 (option_copied c.in_ok-family.behind)) goes_on first c.in_ok-push.ensures.ok;
      short = subst (AllByRecursion (λ (key : Key). IsShort key.bytes)) (sym c.in_ok-push.ensures.ok) (all_short c.loop-left.keys k c.loop-left.invariant.short short);
    }
