-- The words, joined by spaces.
use Rattle.std.proofs.Common.{◌≡◌, ◌∷◌, length, flat_map, take, codes, decimal, ap, ◌∙◌}
use Rattle.std.proofs.lemmas.List.{take_all}
use Rattle.program_text.specs.ShownText.{pair_words}
use Rattle.program_text.proofs.Words.{counted_words, row_words}
use Rattle.program_text.proofs.reads.put_rows.Goals as goal

pub returns : goal.returns
returns g c = λ start text is.
    let items = c.as_slice-key-items.result.now in
    let rows = c.args.rows.now in
    let words : flat_map (λ p. flat_map (λ w. 32 ∷ w) (pair_words p)) (take c.loop-key.key-index items) ≡ flat_map (λ w. 32 ∷ w) (flat_map pair_words rows) =
    ap (flat_map (λ p. flat_map (λ w. 32 ∷ w) (pair_words p))) (take_all c.loop-key.key-index items c.loop-key-test.false) ∙ row_words items
    ∙ ap (λ vs. flat_map (λ w. 32 ∷ w) (flat_map pair_words vs)) c.as_slice-key-items.ensures in
    let all = rw (words, c.len.ensures) at (c.put-2.ensures start _ (c.loop-key.invariant start _ (c.put_numbers.ensures start _ (c.put.ensures start text is)))) in
    rw (← counted_words text (codes "scan") (decimal c.args.at) (decimal (length rows)) (flat_map pair_words rows)) all
