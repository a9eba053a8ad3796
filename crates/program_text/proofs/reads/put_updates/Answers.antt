-- The words, joined by spaces.
use Rattle.std.proofs.Common.{◌≡◌, ◌∷◌, length, map, flat_map, take, codes, decimal, ap, ◌∙◌}
use Rattle.std.proofs.lemmas.List.{take_all}
use Rattle.model_base.specs.Text.{hex}
use Rattle.program_text.proofs.Words.{counted_words, record_words}
use Rattle.program_text.proofs.reads.put_updates.Goals as goal

pub returns : goal.returns
returns g c = λ start text is.
    let items = c.as_slice-record-items.result.now in
    let records = c.args.records.now in
    let words : flat_map (λ r. 32 ∷ hex r) (take c.loop-record.record-index items) ≡ flat_map (λ w. 32 ∷ w) (map hex records) =
    ap (flat_map (λ r. 32 ∷ hex r)) (take_all c.loop-record.record-index items c.loop-record-test.false) ∙ record_words items
    ∙ ap (λ vs. flat_map (λ w. 32 ∷ w) (map hex vs)) c.as_slice-record-items.ensures in
    let all = rw (words, c.len.ensures) at (c.put-2.ensures start _ (c.loop-record.invariant start _ (c.put_numbers.ensures start _ (c.put.ensures start text is)))) in
    rw (← counted_words text (codes "updates") (decimal c.args.at) (decimal (length records)) (map hex records)) all
