-- In another family than the default one, the family's bytes come before the key's.
use Rattle.std.proofs.Common.{ℕ, Bool, List, [], ◌++◌, cond, sym, ap, ◌∙◌, ne_eqb}
use Rattle.std.specs.Int.{w32, to_le_bytes}
use Rattle.model_base.specs.Checksum.{crc32c}
use Rattle.table_memory.proofs.reading.checksum_of.Goals as goal

pub returns-else-family-eq0 : goal.returns-else-family-eq0
returns-else-family-eq0 c =
    let front : List ℕ = to_le_bytes w32 c.args.family in
    let other = ne_eqb c.args.family 0 c.if-family-eq0.false in
    c.extend.ensures front (sym (rw c.to_le_bytes.ensures at c.crc32c-else-family-eq0.ensures))
    ∙ ap (λ (b : Bool). crc32c (cond b [] front ++ c.args.key.now)) (sym other)
