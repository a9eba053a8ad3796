use Rattle.std.proofs.Common.{◌<◌, length, arith}
use Rattle.base_devices.proofs.Turning.{set_out_more, all_set_out}
use Rattle.base_devices.proofs.mem_disk.set_out.Goals as goal

pub loop-era-preserved : goal.loop-era-preserved
loop-era-preserved c =
    let i = c.loop-era.era-index in
    let lt : i < length c.args.eras.now = omega arith in
    set_out_more c.args.eras.now c.loop-era.eras i _ lt c.loop-era.invariant

pub returns-clause-set : goal.returns-clause-set
returns-clause-set c = all_set_out c.args.eras.now c.loop-era.eras c.loop-era.era-index (omega (arith, c.loop-era-test.false, c.loop-era.auto.era-index-end)) c.loop-era.invariant
