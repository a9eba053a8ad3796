use Rattle.std.proofs.Common.{◌≡◌, ◌/◌, fold, length, sym, ap, ap₂, ◌∙◌, w32}
use Rattle.std.specs.Int.{bit_not}
use Rattle.base_bytes.specs.Register.{take_in_byte}
use Rattle.base_bytes.proofs.Crc.Message.{crc32c-append}
use Rattle.base_bytes.proofs.Crc.Slices.{fold_chunks}
use Rattle.base_bytes.proofs.checksum.extend.Goals as goal

pub returns : goal.returns
returns c = λ front checksum.
    let bytes = c.args.bytes.now in
    let r = bit_not w32 c.args.crc in
    let chunks = c.take_in_chunks-register.ensures ∙ ap (fold (fold take_in_byte) r) c.as_chunks.ensures.front in
    let whole : c.take_in_bytes.result ≡ fold take_in_byte r bytes = c.take_in_bytes.ensures ∙ ap₂ (fold take_in_byte) chunks c.as_chunks.ensures.back ∙ fold_chunks (length bytes / 16) r bytes in
    ap (bit_not w32) whole
    ∙ ap (λ crc. bit_not w32 (fold take_in_byte (bit_not w32 crc) bytes)) (sym checksum)
    ∙ sym (crc32c-append front bytes)
