use Rattle.std.proofs.Common.{◌∙◌, ap, ap₂, get_or}
use Rattle.std.specs.Int.Bits.{bit_xor}
use Rattle.base_bytes.specs.Register.{shift}
use Rattle.base_bytes.proofs.Crc.Slices.{take_in_sixteen, are_bytes}
use Rattle.base_bytes.proofs.checksum.take_in_chunk.Goals as goal

pub returns : goal.returns
returns c =
    let r = c.args.register in
    let bytes = c.args.chunk.now in
    let first = c.over_12_bytes.ensures ∙ ap (λ ws. shift 96 (get_or ws 1 0)) c.words_of-words.ensures in
    let second = c.over_8_bytes.ensures ∙ ap (λ ws. shift 64 (get_or ws 2 0)) c.words_of-words.ensures in
    let third = c.over_4_bytes.ensures ∙ ap (λ ws. shift 32 (get_or ws 3 0)) c.words_of-words.ensures in
    let fourth = c.over_16_bytes.ensures ∙ ap (λ ws. shift 128 (bit_xor r (get_or ws 0 0))) c.words_of-words.ensures in
    ap₂ bit_xor (ap₂ bit_xor (ap₂ bit_xor first second) third) fourth
    ∙ take_in_sixteen r bytes c.told-chunk (are_bytes bytes c.fits-chunk)
