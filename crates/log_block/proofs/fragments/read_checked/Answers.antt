use Rattle.std.proofs.Common.{◌≡◌, ℕ, ◌+◌, ◌-◌, ◌≤◌, List, length, take, drop, slice_range, Option, cond, sym, ◌∙◌, ap, arith, eq-eqb}
use Rattle.std.proofs.lemmas.Bool.{ne_eqb}
use Rattle.std.proofs.lemmas.List.{drop-drop}
use Rattle.model_base.specs.declared.log.Damage.TheVariants.{BadChecksum}
use Rattle.model_base.specs.Checksum.{crc32c, masked}
use Rattle.model_base.specs.Log.{Kind, kind_code, header_len}
use Rattle.model_base.specs.Reading as reading
use Rattle.log_block.specs.Headers.{summed}
use Rattle.log_block.specs.Fragments.{IsFragmentAt}
use Rattle.log_block.proofs.Fields.{checksum_read, rest_is}
use Rattle.log_block.proofs.fragments.read_checked.Goals as goal

-- the checksum that the header should have
abbrev own_sum : Option ℕ → List ℕ → ℕ
own_sum number bytes = masked (crc32c (summed number (reading.type_field bytes) (reading.part_field number bytes)))

-- the part, as the code reads it
part_is : (number : Option ℕ) (bytes : List ℕ) (start end : ℕ) → start ≡ header_len number → end ≡ header_len number + reading.length_field bytes → slice_range bytes start end ≡ reading.part_field number bytes
part_is number bytes start end start_is end_is =
    let len : end - start ≡ reading.length_field bytes = omega (arith, start_is, end_is) in
    ap (λ (n : ℕ). take n (drop start bytes)) len ∙ ap (λ (n : ℕ). take (reading.length_field bytes) (drop n bytes)) start_is

-- the checksum that the code computes is the one that the header should have
own_is : (number : Option ℕ) (bytes : List ℕ) (start end own : ℕ) → start ≡ header_len number → end ≡ header_len number + reading.length_field bytes → own ≡ masked (crc32c (summed number (reading.type_field bytes) (slice_range bytes start end)))
    → own ≡ own_sum number bytes
own_is number bytes start end own start_is end_is is = is ∙ ap (λ part. masked (crc32c (summed number (reading.type_field bytes) part))) (part_is number bytes start end start_is end_is)

-- the part is in the block, right after the header
there_in_block : (number : Option ℕ) (block : List ℕ) (at code start end : ℕ) (kind : Kind) (seen : reading.Seen) → code ≡ kind_code number kind → start ≡ header_len number → end ≡ header_len number + reading.length_field (drop at block) → at + end ≤ length block
    → seen ≡ reading.fragment (record { kind = kind; part = reading.part_field number (drop at block) }) → IsFragmentAt number block at code (at + start) (at + end) seen
there_in_block number block at code start end kind seen code_is start_is end_is there seen_is =
    let len : reading.length_field (drop at block) ≡ at + end - (at + start) = omega (arith, start_is, end_is) in
    record {
      of_kind = kind;
      code = code_is;
      behind_header = ap (λ (n : ℕ). at + n) start_is;
      ordered = omega (arith, start_is, end_is);
      in_block = there;
      is_seen = seen_is ∙ ap (λ (part : List ℕ). reading.fragment (record { kind = kind; part = part }))
          (ap (take (reading.length_field (drop at block))) (drop-drop (header_len number) at block ∙ ap (λ (n : ℕ). drop (at + n) block) (sym start_is)) ∙ ap (λ (n : ℕ). take n (drop (at + start) block)) len);
    }

pub returns-then-read_u32-checksum : goal.returns-then-read_u32-checksum
returns-then-read_u32-checksum c = λ kind code_is.
    let bytes = drop c.args.at c.args.block.now in
    let rest = rest_is c.args.block.now c.args.at in
    let own = own_is c.args.number bytes c.header_len-header.result c.part_end-end.result c.checksum.result c.header_len-header.ensures (rw rest at c.part_end-end.ensures) (rw rest at c.checksum.ensures) in
    let sum : c.read_u32.result ≡ reading.checksum_field bytes = rw rest at c.read_u32.ensures ∙ checksum_read bytes in
    ap (λ b. cond b (reading.fragment (record { kind = kind; part = reading.part_field c.args.number bytes })) (reading.damage BadChecksum))
    (ne_eqb (reading.checksum_field bytes) (own_sum c.args.number bytes) (λ e. c.if-read_u32-checksum.true (sum ∙ (e ∙ sym own))))

pub returns : goal.returns
returns c = λ kind code_is.
    let bytes = drop c.args.at c.args.block.now in
    let rest = rest_is c.args.block.now c.args.at in
    let own = own_is c.args.number bytes c.header_len-header.result c.part_end-end.result c.checksum.result c.header_len-header.ensures (rw rest at c.part_end-end.ensures) (rw rest at c.checksum.ensures) in
    let sum : c.read_u32.result ≡ reading.checksum_field bytes = rw rest at c.read_u32.ensures ∙ checksum_read bytes in
    rw rest (there_in_block c.args.number c.args.block.now c.args.at _ c.header_len-header.result c.part_end-end.result kind _ code_is c.header_len-header.ensures (rw rest at c.part_end-end.ensures) (omega (arith, rw rest at c.part_end-end.ensures, c.requires.there))
    (ap (λ b. cond b (reading.fragment (record { kind = kind; part = reading.part_field c.args.number bytes })) (reading.damage BadChecksum))
    (eq-eqb (reading.checksum_field bytes) (own_sum c.args.number bytes) (sym sum ∙ (c.if-read_u32-checksum.false ∙ own)))))
