use Rattle.std.proofs.Common.{◌≡◌, suc, ◌-◌, ◌+◌, ◌^◌, ◌<◌, length-set, arith, ◌∙◌}
use Rattle.model_base.specs.Varint.{varint}
use Rattle.base_bytes.proofs.Spellings.{spelling_goes_on, spelling_ends, rest_fits, more_bytes}
use Rattle.base_bytes.proofs.numbers.put_varint32.Goals as goal

pub loop-rest-preserved : goal.loop-rest-preserved
loop-rest-preserved c =
    let len = c.loop-rest.len in
    let now = c.loop-rest.invariant in
    let before : 5 - len ≡ suc (4 - len) = omega (arith, now.few) in
    let after : 5 - (len + 1) ≡ 4 - len = omega (arith, now.few) in
    let fits : c.loop-rest.rest < 128 ^ suc (4 - len) = rw before at now.small in
    let more : len + 1 < 5 = omega (arith, more_bytes c.loop-rest.rest (4 - len) fits c.loop-rest-test.true) in
    record {
      room = length-set c.loop-rest.spelling len _ ∙ now.room;
      few = more;
      small = rw after (rest_fits c.loop-rest.rest (4 - len) fits);
      spelled = rw after (spelling_goes_on c.loop-rest.spelling (varint c.args.n) len (4 - len) c.loop-rest.rest (omega arith) c.loop-rest-test.true (rw before at now.spelled));
    }

pub returns-clause-ok : goal.returns-clause-ok
returns-clause-ok c =
    let len = c.loop-rest.len in
    let now = c.loop-rest.invariant in
    let before : 5 - len ≡ suc (4 - len) = omega (arith, now.few) in
    rw (← spelling_ends c.loop-rest.spelling (varint c.args.n) len (4 - len) c.loop-rest.rest (omega arith) c.loop-rest-test.false (rw before at now.spelled)) c.append.ensures.ok
