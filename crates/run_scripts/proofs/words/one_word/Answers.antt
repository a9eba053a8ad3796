use Rattle.run_scripts.proofs.ScriptParts.{alone-more}
use Rattle.run_scripts.proofs.words.one_word.Goals as goal

pub returns-then-is_some-clause-word : goal.returns-then-is_some-clause-word
returns-then-is_some-clause-word c = let h = c.in_ok-rest.was in let i = c.in_ok-rest.is in
    rw c.in_ok-rest.was (alone-more c.in_ok-rest.field-0.now _ c.split_once.result.1 (cc) c.split_once.ensures.parts)
