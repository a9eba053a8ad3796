use Rattle.std.proofs.Common.{eqb, Some, None, rules, tests}
use Rattle.std.proofs.lemmas.Iterator.{YieldsList-from_slice}
use Rattle.std.proofs.lemmas.Iterator.Search.{position_from_yields_List}
use Rattle.run_scripts.proofs.ScriptParts.{slice_split-found, slice_split-not_found}
use Rattle.run_scripts.proofs.words.split_once.Goals as goal

pub returns-in-Some-clause-parts : goal.returns-in-Some-clause-parts
returns-in-Some-clause-parts c =
    let found = position_from_yields_List (λ b. eqb b c.args.separator) _ _ (Some c.in-Some.at) c.in-Some.ensures.ran (YieldsList-from_slice c.args.text.now cc) (λ x b q k. search (rules, tests)) in
    slice_split-found (λ b. eqb b c.args.separator) c.args.text.now c.in-Some.at found

pub returns-in-None-clause-parts : goal.returns-in-None-clause-parts
returns-in-None-clause-parts c =
    let found = position_from_yields_List (λ b. eqb b c.args.separator) _ _ None c.in-None.ensures.ran (YieldsList-from_slice c.args.text.now cc) (λ x b q k. search (rules, tests)) in
    slice_split-not_found (λ b. eqb b c.args.separator) c.args.text.now found
