-- The words, joined by spaces.
use Rattle.std.proofs.Common.{◌≡◌, ◌∷◌, length, map, flat_map, take, codes, decimal, ap, ◌∙◌}
use Rattle.std.proofs.lemmas.List.{take_all}
use Rattle.model_base.specs.Text.{found_word}
use Rattle.base_bytes.specs.Answers.{found_value}
use Rattle.program_text.proofs.Words.{counted_words, found_words}
use Rattle.program_text.proofs.reads.put_found_each.Goals as goal

pub returns : goal.returns
returns g c = λ start text is.
    let items = c.as_slice-found-items.result.now in
    let values = c.args.values.now in
    let words : flat_map (λ v. 32 ∷ found_word (found_value v)) (take c.loop-found.found-index items) ≡ flat_map (λ w. 32 ∷ w) (map found_word values) =
    ap (flat_map (λ v. 32 ∷ found_word (found_value v))) (take_all c.loop-found.found-index items c.loop-found-test.false) ∙ found_words items
    ∙ ap (λ vs. flat_map (λ w. 32 ∷ w) (map found_word vs)) c.as_slice-found-items.ensures in
    let all = rw (words, c.len.ensures) at (c.put-2.ensures start _ (c.loop-found.invariant start _ (c.put_numbers.ensures start _ (c.put.ensures start text is)))) in
    rw (← counted_words text (codes "many") (decimal c.args.at) (decimal (length values)) (map found_word values)) all
