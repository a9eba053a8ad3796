use Rattle.std.proofs.Common.{◌≡◌, ◌<◌, ◌≤◌, ◌%◌, get_or, length, ⊎_elim, arith}
use Rattle.base_bytes.proofs.LongVarints.{all_more, number_fits, bits_below, spelled_more, spelled_last}
use Rattle.base_bytes.proofs.reading.long_varint32.Goals as goal

pub returns-then-byte-lt128-clause-ok : goal.returns-then-byte-lt128-clause-ok
returns-then-byte-lt128-clause-ok c =
    let bytes = c.args.bytes.now in
    let i = c.loop-i.i in
    let now = c.loop-i.invariant in
    let inside : i < length bytes = omega arith in
    let last : i ≡ 4 → get_or bytes i 0 < 16 = λ e. ⊎_elim (λ w. omega (arith, w.1)) (λ w. absurd (w e)) c.else-i-eq-LAST_PLACE.either in
    rw c.from.ensures (record {
      spelled = spelled_last bytes i c.loop-i.n inside now.few now.small last (omega arith) c.if-byte-lt128.true now.spelled;
      within = omega arith;
      fits = number_fits i c.loop-i.n (get_or bytes i 0 % 128) now.few now.small (omega arith) (λ e. omega (arith, last e));
    })

pub loop-i-preserved : goal.loop-i-preserved
loop-i-preserved c =
    let bytes = c.args.bytes.now in
    let i = c.loop-i.i in
    let now = c.loop-i.invariant in
    let inside : i < length bytes = omega arith in
    let last : i ≡ 4 → get_or bytes i 0 < 16 = λ e. ⊎_elim (λ w. omega (arith, w.1)) (λ w. absurd (w e)) c.else-i-eq-LAST_PLACE.either in
    let before : i < 4 = omega (arith, last) in
    rw c.from.ensures (record {
      some = omega arith;
      few = omega arith;
      goes_on = (omega arith, all_more (λ b. 128 ≤ b) bytes i inside now.goes_on.1 c.if-byte-lt128.false);
      small = bits_below i c.loop-i.n (get_or bytes i 0 % 128) now.few now.small (omega arith) (λ e. omega (arith, last e));
      spelled = spelled_more bytes i c.loop-i.n inside now.few now.small last c.if-byte-lt128.false (c.type_inv.bytes i).fits now.spelled;
    })
