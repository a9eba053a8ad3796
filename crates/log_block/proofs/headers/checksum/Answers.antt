use Rattle.std.proofs.Common.{[], ◌∷◌, ap, sym, ◌∙◌}
use Rattle.std.specs.Int.{w32, to_le_bytes}
use Rattle.model_base.specs.Checksum.{masked, crc32c}
use Rattle.log_block.specs.Headers.{summed}
use Rattle.log_block.proofs.headers.checksum.Goals.{in-None, in-Some}
use Rattle.log_block.proofs.headers.checksum.Goals as goal

pub returns : goal.returns
returns c = c.mask.ensures ∙ ap masked (elim c.match-number.branch [
  | in-None w ↦ c.extend.ensures (c.args.kind ∷ []) (sym w.crc32c-front.ensures ∙ sym w.front-is) ∙ ap (λ n. crc32c (summed n c.args.kind c.args.part.now)) (sym w.in-None.is)
  | in-Some w ↦ c.extend.ensures (c.args.kind ∷ to_le_bytes w32 w.in-Some.number) (sym (rw w.to_le_bytes.ensures at w.crc32c-front-in-Some.ensures) ∙ sym w.front-is) ∙ ap (λ n. crc32c (summed n c.args.kind c.args.part.now)) (sym w.in-Some.is)
])
