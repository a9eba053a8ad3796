-- What is printed, also where the disk failed, what the devices have counted, and what a crash leaves.
use Rattle.std.proofs.Common.{false, IfOk, IfErr, refl}
use Rattle.base_devices.proofs.Contents.{of_content}
use Rattle.log_recovery.specs.Modes.{Accepts, TellsDamage}
use Rattle.log_recovery.specs.Recovering.{HasRecovered}
use Rattle.program_call.specs.OneLog.{log_to_recover}
use Rattle.program_call.specs.Reports.{IsTextOf}
use Rattle.program_call.proofs.Finding.{fails_one, finds_one}
use Rattle.program_call.proofs.Leaving.{leaves_read}
use Rattle.program_call.proofs.Recoveries.{recovers_so}
use Rattle.program_call.proofs.recovering.recover_log.Goals as goal

pub returns : goal.returns
returns g c =
    let was = c.args.disk in
    let disk = c.recover_mode-found.new.disk in
    let number = c.args.number in
    let mode = c.args.mode in
    let found = c.recover_mode-found.result in
    let does = c.recover_mode-found.ensures in
    let told = g.D.Disk.told was in
    let recovered = of_content told (λ file. IfOk found (HasRecovered number file)) does.recovered in
    let accepted = of_content told (λ file. IfOk found (λ r. Accepts number mode file r.end.at r.end.why)) does.accepted in
    let damage = of_content told (λ file. IfErr found (TellsDamage number mode file)) does.damage in
    rw (c.end_with.ensures.status, c.end_with.ensures.disk) (recovers_so IsTextOf false (log_to_recover g.D.Disk number mode was disk) g.K.Sink c.args.sink.now c.tell_recovery.new.sink _ found c.tell_recovery.result refl
    (does.disk.same, leaves_read g.D.Disk was disk (g.met.D.Disk.only_now was) does.disk.same does.disk.time) does.worked
    (finds_one g.D.Disk number mode was disk found recovered accepted) (fails_one g.D.Disk number mode was disk found does.error damage) c.tell_recovery.ensures)
