use Rattle.std.proofs.Common.{◌+◌, ap, sym, subst, refl, rules, arith}
use Rattle.base_devices.proofs.Contents.{of_content}
use Rattle.log_recovery.specs.Modes.{Accepts, TellsDamage}
use Rattle.log_recovery.specs.Recovering.{HasRecovered}
use Rattle.run_outcome.specs.declared.log_start.LogStart.TheVariants.{Behind}
use Rattle.run_execution.specs.declared.end.RunEnd.{RunEnd}
use Rattle.run_execution.specs.Ends.{IsRefused}
use Rattle.run_execution.proofs.Openings.{leaves_looked}
use Rattle.run_execution.proofs.Resumed.{accepted_end, before_of, few_families, goes_behind, high_family, opened_behind, refused_behind}
use Rattle.run_execution.proofs.opening.open_behind.Goals as goal

pub returns-in-Ok-resume-clause-ok : goal.returns-in-Ok-resume-clause-ok
returns-in-Ok-resume-clause-ok g c =
    let number = c.args.number in
    let shown = c.in-Ok.recovered in
    let told = g.D.Disk.told c.args.disk in
    let found = c.in-Ok.ensures in
    let recovered = of_content (g.D.Disk.told c.args.disk) (λ file. HasRecovered c.args.number file c.in-Ok.recovered) found.recovered in
    let reads = c.recover_mode.ensures.disk in
    record {
      before = before_of number shown told recovered;
      goes_on = goes_behind number shown told recovered;
      is_opened = opened_behind number shown g.D.Disk c.args.disk c.recover_mode.new.disk reads.same reads.time found.worked recovered c.in-Ok-resume.log (g.met.D.Disk.only_now c.args.disk) c.in-Ok-resume.ensures.ok;
      map = refl;
      last = refl;
      none = found.numbered.none;
      families = ap (λ n. n + 1) c.greatest_family-family.ensures;
    }

pub returns-in-Err-Fault-clause-err : goal.returns-in-Err-Fault-clause-err
returns-in-Err-Fault-clause-err g c =
    let reads = c.recover_mode.ensures.disk in
    let crash = leaves_looked g.D.Disk c.args.disk c.recover_mode.new.disk (g.met.D.Disk.only_now c.args.disk) reads.same reads.time in
    search rules

pub returns-in-Err-NoMemory-clause-err : goal.returns-in-Err-NoMemory-clause-err
returns-in-Err-NoMemory-clause-err g c =
    let reads = c.recover_mode.ensures.disk in
    let crash = leaves_looked g.D.Disk c.args.disk c.recover_mode.new.disk (g.met.D.Disk.only_now c.args.disk) reads.same reads.time in
    search rules

pub returns-in-Err-Damage-clause-err : goal.returns-in-Err-Damage-clause-err
returns-in-Err-Damage-clause-err g c =
    let reads = c.recover_mode.ensures.disk in
    let crash = leaves_looked g.D.Disk c.args.disk c.recover_mode.new.disk (g.met.D.Disk.only_now c.args.disk) reads.same reads.time in
    let damage = rw c.in-Err-Damage.field-0-is at (of_content (g.D.Disk.told c.args.disk) (λ file. TellsDamage c.args.number c.args.mode file c.in-Err-Damage.field-0) c.in-Err-Damage.ensures.damage) in
    search rules

pub returns-clause-err : goal.returns-clause-err
returns-clause-err g c =
    let found = c.in-Ok.ensures in
    let recovered = of_content (g.D.Disk.told c.args.disk) (λ file. HasRecovered c.args.number file c.in-Ok.recovered) found.recovered in
    let accept = of_content (g.D.Disk.told c.args.disk) (λ file. Accepts c.args.number c.args.mode file c.in-Ok.recovered.end.at c.in-Ok.recovered.end.why) found.accepted in
    let reads = c.recover_mode.ensures.disk in
    let accepted = accepted_end c.args.number c.args.mode (g.D.Disk.told c.args.disk) c.in-Ok.recovered recovered accept in
    let in_range = few_families c.args.number (g.D.Disk.told c.args.disk) c.in-Ok.recovered recovered c.greatest_family-family.result c.greatest_family-family.ensures (omega (arith, c.if-family-ge-MAX_FAMILIES.false)) in
    subst (λ (end : RunEnd). IsRefused g.D.Disk (Behind c.args.number) c.args.mode c.args.disk c.in-Err.disk end) (sym c.from.ensures)
    (refused_behind c.args.number c.in-Ok.recovered g.D.Disk c.args.disk c.recover_mode.new.disk reads.same reads.time found.worked recovered c.in-Err.disk c.args.mode c.in-Err.why (g.met.D.Disk.only_now c.args.disk) accepted in_range c.in-Err.ensures.err)

pub returns-in-Ok-resume-clause-accepted : goal.returns-in-Ok-resume-clause-accepted
returns-in-Ok-resume-clause-accepted g c =
    let found = c.in-Ok.ensures in
    let recovered = of_content (g.D.Disk.told c.args.disk) (λ file. HasRecovered c.args.number file c.in-Ok.recovered) found.recovered in
    let accept = of_content (g.D.Disk.told c.args.disk) (λ file. Accepts c.args.number c.args.mode file c.in-Ok.recovered.end.at c.in-Ok.recovered.end.why) found.accepted in
    accepted_end c.args.number c.args.mode (g.D.Disk.told c.args.disk) c.in-Ok.recovered recovered accept

-- the greatest family of what is recovered is too high for a run
pub returns-then-family-ge-MAX_FAMILIES-clause-err : goal.returns-then-family-ge-MAX_FAMILIES-clause-err
returns-then-family-ge-MAX_FAMILIES-clause-err g c =
    let found = c.in-Ok.ensures in
    let recovered = of_content (g.D.Disk.told c.args.disk) (λ file. HasRecovered c.args.number file c.in-Ok.recovered) found.recovered in
    let accept = of_content (g.D.Disk.told c.args.disk) (λ file. Accepts c.args.number c.args.mode file c.in-Ok.recovered.end.at c.in-Ok.recovered.end.why) found.accepted in
    let reads = c.recover_mode.ensures.disk in
    let crash = leaves_looked g.D.Disk c.args.disk c.recover_mode.new.disk (g.met.D.Disk.only_now c.args.disk) reads.same reads.time in
    let high = high_family c.args.number c.args.mode (g.D.Disk.told c.args.disk) c.in-Ok.recovered recovered accept c.greatest_family-family.result c.greatest_family-family.ensures (omega (arith, c.if-family-ge-MAX_FAMILIES.true)) in
    (high, reads.same, found.worked, crash)

pub returns-in-Ok-resume-clause-families : goal.returns-in-Ok-resume-clause-families
returns-in-Ok-resume-clause-families g c =
    let found = c.in-Ok.ensures in
    let recovered = of_content (g.D.Disk.told c.args.disk) (λ file. HasRecovered c.args.number file c.in-Ok.recovered) found.recovered in
    few_families c.args.number (g.D.Disk.told c.args.disk) c.in-Ok.recovered recovered c.greatest_family-family.result c.greatest_family-family.ensures (omega (arith, c.if-family-ge-MAX_FAMILIES.false))
