use Rattle.std.proofs.Common.{◌≡◌, ℕ, ◌+◌, ◌-◌, ◌*◌, ◌%◌, length, ◌∙◌, ap, arith}
use Rattle.std.specs.Int.{div_ceil}
use Rattle.model_base.specs.Log as log
use Rattle.log_text.proofs.TextLengths.{first_room, added_len, text_length}
use Rattle.log_text.proofs.lengths.text_len.Goals as goal

pub returns : goal.returns
returns c = λ bytes same.
    let number = c.args.number in
    let at : ℕ = c.args.offset % 32768 in
    let room : c.saturating_sub.result ≡ c.args.len - first_room number at = omega (arith, c.saturating_sub.ensures, c.max_part_len.ensures, c.zeros_at-zeros.ensures) in
    let count : c.div_ceil-fragments.result ≡ div_ceil (c.args.len - first_room number at) (log.part_len number) =
    c.div_ceil-fragments.ensures ∙ (ap (λ (n : ℕ). div_ceil n c.max_part_len-2.result) room ∙ ap (div_ceil (c.args.len - first_room number at)) c.max_part_len-2.ensures) in
    let headers : (1 + c.div_ceil-fragments.result) * c.header_len.result ≡ (1 + div_ceil (c.args.len - first_room number at) (log.part_len number)) * log.header_len number =
    ap (λ (n : ℕ). (1 + n) * c.header_len.result) count ∙ ap (λ (n : ℕ). (1 + div_ceil (c.args.len - first_room number at) (log.part_len number)) * n) c.header_len.ensures in
    let added : length (log.record_text number c.args.offset bytes) ≡ c.args.len + added_len number at c.args.len = text_length number bytes c.args.offset ∙ ap (λ (n : ℕ). n + added_len number at n) same in
    omega (arith, c.saturating_add.ensures, added, headers, c.zeros_at-zeros.ensures)
