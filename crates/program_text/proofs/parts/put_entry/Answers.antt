-- The pieces, joined by spaces.
use Rattle.program_text.proofs.Words.{entry_pieces}
use Rattle.program_text.proofs.parts.put_entry.Goals as goal

pub returns : goal.returns
returns g c = λ start text is.
    let all = rw (c.flag_word.ensures, c.from.ensures) at (c.put-4.ensures start _ (c.put_hex.ensures start _ (c.put-3.ensures start _ (c.put-2.ensures start _ (c.put.ensures start _ (c.put_numbers.ensures start _ (c.put_number.ensures start text is))))))) in
    rw (← entry_pieces text) all
