-- What recovery of a log, or of several, answers, as what is promised of its text and of its refusal.
use Rattle.std.proofs.Common.{ℕ, false, true, List, Option, Some, None, Result, Ok, Err, IfSome, refl, subst}
use Rattle.std.specs.Prelude.{IfErr, IfOk}
use Rattle.std.specs.List.{AllZip}
use Rattle.base_devices.specs.Disk.{Disk}
use Rattle.base_devices.specs.declared.disk.Disk.{Ghosts}
use Rattle.model_base.specs.declared.log.EndReason.{EndReason}
use Rattle.log_recovery.specs.declared.modes.Mode.{Mode}
use Rattle.log_recovery.specs.Modes.{Accepts, TellsDamage}
use Rattle.log_recovery.specs.Recovering.{HasRecovered, IsRecoverError}
use Rattle.log_recovery.specs.RecoveringLogs.{Holds, AcceptFrom, HaveRecovered, IsErrorOfLogs, TellDamage}
use Rattle.log_recovery.specs.declared.many.RecoveredMany.{RecoveredMany}
use Rattle.log_recovery.specs.declared.recovery.Recovered.{Recovered}
use Rattle.log_recovery.specs.declared.recovery.RecoverError.{RecoverError}
use Rattle.log_recovery.specs.declared.recovery.RecoverError.TheVariants as none
use Rattle.program_call.specs.Logs.{LogsToRecover}
use Rattle.program_call.specs.OneLog.{Recovers, log_to_recover}
use Rattle.program_call.specs.Reports.{IsTextOf, IsTextOfLogs}
use Rattle.program_call.specs.SeveralLogs.{RecoverLogs, logs_to_recover}
use Rattle.program_call.proofs.Recoveries.{FailsTrue, FindsTrue}

-- one log

recovers_one : (number : Option ℕ) (mode : Mode) (file text : List ℕ) (shown : Recovered) → HasRecovered number file shown → Accepts number mode file shown.end.at shown.end.why → IsTextOf shown text → Recovers number mode file text
recovers_one number mode file text shown has accepts is =
    let shows = has.shows in
    let why : Accepts number mode file shown.end.at (has.recovered).why = subst (Accepts number mode file shown.end.at) shows.why accepts in
    record {
      recovered = has.recovered;
      is_recovered = has.is;
      accepted = subst (λ (at : ℕ). Accepts number mode file at (has.recovered).why) shows.at why;
      text_is = is has.recovered shows;
    }

module _ {D : Type 0} (disk : Ghosts D) (number : Option ℕ) (mode : Mode) (opened ended : D) where
  abbrev log : LogsToRecover
  log = log_to_recover disk number mode opened ended

  pub finds_one : (found : Result Recovered RecoverError) → IfSome (disk.told opened) (λ d. IfOk found (HasRecovered number d.content)) → IfSome (disk.told opened) (λ d. IfOk found (λ r. Accepts number mode d.content r.end.at r.end.why))
      → IfOk found (FindsTrue IsTextOf false log)
  finds_one (Ok shown) has accepts = λ text is. by_told (disk.told opened) has accepts text is
    where
      by_told : (told : Option Disk) → IfSome told (λ d. HasRecovered number d.content shown) → IfSome told (λ d. Accepts number mode d.content shown.end.at shown.end.why) → (text : List ℕ) → IsTextOf shown text
          → IfSome told (λ d. Recovers number mode d.content text)
      by_told None has accepts text is = tt
      by_told (Some d) has accepts text is = recovers_one number mode d.content text shown has accepts is
  finds_one (Err why) has accepts = tt

  pub fails_one : (found : Result Recovered RecoverError) → IfErr found (IsRecoverError mode (disk.faults opened) (disk.faults ended)) → IfSome (disk.told opened) (λ d. IfErr found (TellsDamage number mode d.content))
      → IfErr found (FailsTrue IsTextOf false log)
  fails_one (Ok shown) error tells = tt
  fails_one (Err (none.Fault count)) error tells = error
  fails_one (Err none.NoMemory) error tells = error
  fails_one (Err (none.Damage first at why)) error tells = (error.0, (at, why, (error.1, tells), refl))

-- several logs

recovers_several : (mode : Mode) (files : List (List ℕ)) (text : List ℕ) (shown : RecoveredMany) → HaveRecovered files shown → AcceptFrom 1 mode files shown.log shown.end.at shown.end.why → IsTextOfLogs shown text
    → RecoverLogs mode files text
recovers_several mode files text shown has accepts is =
    let shows = has.shows in
    let s = has.recovered in
    let why : AcceptFrom 1 mode files shown.log shown.end.at s.why = subst (λ (x : EndReason). AcceptFrom 1 mode files shown.log shown.end.at x) shows.why accepts in
    let at : AcceptFrom 1 mode files shown.log s.at s.why = subst (λ (x : ℕ). AcceptFrom 1 mode files shown.log x s.why) shows.at why in
    record {
      recovered = s;
      are_recovered = has.is;
      accepted = subst (λ (x : ℕ). AcceptFrom 1 mode files x s.at s.why) shows.log at;
      text_is = is s shows;
    }

module _ {D : Type 0} (disk : Ghosts D) (mode : Mode) (opened ended : List D) where
  abbrev logs : LogsToRecover
  logs = logs_to_recover disk mode opened ended

  pub finds_several : (found : Result RecoveredMany RecoverError) → ((files : List (List ℕ)) → AllZip (Holds disk) opened files → IfOk found (HaveRecovered files))
      → ((files : List (List ℕ)) → AllZip (Holds disk) opened files → IfOk found (λ r. AcceptFrom 1 mode files r.log r.end.at r.end.why)) → IfOk found (FindsTrue IsTextOfLogs true logs)
  finds_several (Ok shown) has accepts = λ text is files hold. recovers_several mode files text shown (has files hold) (accepts files hold) is
  finds_several (Err why) has accepts = tt

  pub fails_several : (found : Result RecoveredMany RecoverError) → IfErr found (IsErrorOfLogs mode disk.faults opened ended)
      → ((files : List (List ℕ)) → AllZip (Holds disk) opened files → IfErr found (TellDamage mode files)) → IfErr found (FailsTrue IsTextOfLogs true logs)
  fails_several (Ok shown) error tells = tt
  fails_several (Err (none.Fault count)) error tells = error
  fails_several (Err none.NoMemory) error tells = error
  fails_several (Err (none.Damage log at why)) error tells = (
    error.0,
    record {
      log = log;
      at = at;
      why = why;
      not_any = error.1;
      damaged = λ files hold. tells files hold;
      text_is = refl;
    },
  )
