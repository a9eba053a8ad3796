use Rattle.std.proofs.Common.{◌∷◌, length, ℕ, Err, sym, ◌∙◌, arith}
use Rattle.std.proofs.lemmas.Bool.{eqb-true}
use Rattle.std.proofs.lemmas.List.{nil_from_length}
use Rattle.log_recovery.specs.declared.modes.Mode.TheVariants.{Point}
use Rattle.log_recovery.specs.RecoveringLogs.{IsErrorFrom}
use Rattle.log_recovery.proofs.Faults.{handed_on, error_in_first, error_later, first_counts_none, none_counted}
use Rattle.log_recovery.proofs.LogByLog.{first_asked, first_empty, more_empty, more_asked}
use Rattle.log_recovery.proofs.Unread.{first_read, more_disks_read}
use Rattle.log_recovery.proofs.many.+first_begun.Goals as goal

-- The first disk failed.

pub returns-in_err-len-clause-asked : goal.returns-in_err-len-clause-asked
returns-in_err-len-clause-asked g t c = λ files holds. first_asked g.D.Disk c.args.disks.now c.in-Some.disk.now c.in-Some.rest.now c.in-Some.ensures.cases.0 c.len_of.new.disk files

pub returns-in_err-len-clause-error : goal.returns-in_err-len-clause-error
returns-in_err-len-clause-error g t c =
    handed_on c.from_residual.result c.in_err-len.field-0.0 (IsErrorFrom Point g.D.Disk.faults c.args.disks.now (c.len_of.new.disk ∷ c.in-Some.rest.now)) c.from_residual.ensures.1
    (error_in_first g.D.Disk.faults c.args.disks.now c.in-Some.disk.now c.len_of.new.disk c.in-Some.rest.now c.in-Some.ensures.cases.0 Point c.in_err-len.field-0.0 c.in_err-len.ensures.error)

pub returns-in_err-len-clause-disks : goal.returns-in_err-len-clause-disks
returns-in_err-len-clause-disks g t c = first_read g.D.Disk c.args.disks.now c.in-Some.disk.now c.len_of.new.disk c.in-Some.rest.now c.in-Some.ensures.cases.0 c.in_err-len.ensures.disk

-- It has bytes.

pub returns-then-len-gt0-clause-asked : goal.returns-then-len-gt0-clause-asked
returns-then-len-gt0-clause-asked g t c = λ files holds. first_asked g.D.Disk c.args.disks.now c.in-Some.disk.now c.in-Some.rest.now c.in-Some.ensures.cases.0 c.len_of.new.disk files

pub returns-then-len-gt0-clause-worked : goal.returns-then-len-gt0-clause-worked
returns-then-len-gt0-clause-worked g t c = first_counts_none g.D.Disk.faults c.args.disks.now c.in-Some.disk.now c.len_of.new.disk c.in-Some.rest.now c.in-Some.ensures.cases.0 c.in_ok-len.ensures.worked

pub returns-then-len-gt0-clause-disks : goal.returns-then-len-gt0-clause-disks
returns-then-len-gt0-clause-disks g t c = first_read g.D.Disk c.args.disks.now c.in-Some.disk.now c.len_of.new.disk c.in-Some.rest.now c.in-Some.ensures.cases.0 c.in_ok-len.ensures.disk

-- It has none, and it is the only one.

pub returns-then-is_empty-clause-empty : goal.returns-then-is_empty-clause-empty
returns-then-is_empty-clause-empty g t c = λ files holds same.
    first_empty g.D.Disk c.args.disks.now c.in-Some.disk.now c.in-Some.rest.now c.in-Some.ensures.cases.0 c.in_ok-len.len (omega (arith, c.if-len-gt0.false)) c.in_ok-len.ensures.len (nil_from_length c.in-Some.rest.now (eqb-true (length c.in-Some.rest.now) 0 (sym c.is_empty.ensures ∙ c.if-is_empty.true))) files holds

pub returns-then-is_empty-clause-asked : goal.returns-then-is_empty-clause-asked
returns-then-is_empty-clause-asked g t c = λ files holds. first_asked g.D.Disk c.args.disks.now c.in-Some.disk.now c.in-Some.rest.now c.in-Some.ensures.cases.0 c.len_of.new.disk files

pub returns-then-is_empty-clause-worked : goal.returns-then-is_empty-clause-worked
returns-then-is_empty-clause-worked g t c = first_counts_none g.D.Disk.faults c.args.disks.now c.in-Some.disk.now c.len_of.new.disk c.in-Some.rest.now c.in-Some.ensures.cases.0 c.in_ok-len.ensures.worked

pub returns-then-is_empty-clause-disks : goal.returns-then-is_empty-clause-disks
returns-then-is_empty-clause-disks g t c = first_read g.D.Disk c.args.disks.now c.in-Some.disk.now c.len_of.new.disk c.in-Some.rest.now c.in-Some.ensures.cases.0 c.in_ok-len.ensures.disk

-- The others aren't asked to the end.

pub returns-in_err-found-clause-asked : goal.returns-in_err-found-clause-asked
returns-in_err-found-clause-asked g t c = more_asked g.D.Disk c.args.disks.now c.in-Some.disk.now c.in-Some.rest.now c.in-Some.ensures.cases.0 c.in_ok-len.len (omega (arith, c.if-len-gt0.false)) c.in_ok-len.ensures.len c.len_of.new.disk c.first_begun.new.disks c.in_err-found.ensures.asked

pub returns-in_err-found-clause-error : goal.returns-in_err-found-clause-error
returns-in_err-found-clause-error g t c =
    handed_on c.from_residual-in_err-found.result c.in_err-found.field-0.0 (IsErrorFrom Point g.D.Disk.faults c.args.disks.now (c.len_of.new.disk ∷ c.first_begun.new.disks)) c.from_residual-in_err-found.ensures.1
    (error_later g.D.Disk.faults c.args.disks.now c.in-Some.disk.now c.len_of.new.disk c.in-Some.rest.now c.in-Some.ensures.cases.0 {T = ℕ} Point c.first_begun.new.disks (Err c.in_err-found.field-0.0) c.in_ok-len.ensures.worked c.in_err-found.ensures.error)

pub returns-in_err-found-clause-disks : goal.returns-in_err-found-clause-disks
returns-in_err-found-clause-disks g t c = more_disks_read g.D.Disk c.args.disks.now c.in-Some.disk.now c.len_of.new.disk c.in-Some.rest.now c.first_begun.new.disks c.in-Some.ensures.cases.0 c.in_ok-len.ensures.disk c.in_err-found.ensures.disks

-- One of the others has bytes.

pub returns-in-Some-found-clause-asked : goal.returns-in-Some-found-clause-asked
returns-in-Some-found-clause-asked g t c = more_asked g.D.Disk c.args.disks.now c.in-Some.disk.now c.in-Some.rest.now c.in-Some.ensures.cases.0 c.in_ok-len.len (omega (arith, c.if-len-gt0.false)) c.in_ok-len.ensures.len c.len_of.new.disk c.first_begun.new.disks c.in_ok-found.ensures.asked

pub returns-in-Some-found-clause-worked : goal.returns-in-Some-found-clause-worked
returns-in-Some-found-clause-worked g t c = none_counted g.D.Disk.faults c.args.disks.now c.in-Some.disk.now c.len_of.new.disk c.in-Some.rest.now c.in-Some.ensures.cases.0 c.first_begun.new.disks c.in_ok-len.ensures.worked c.in_ok-found.ensures.worked

pub returns-in-Some-found-clause-disks : goal.returns-in-Some-found-clause-disks
returns-in-Some-found-clause-disks g t c = more_disks_read g.D.Disk c.args.disks.now c.in-Some.disk.now c.len_of.new.disk c.in-Some.rest.now c.first_begun.new.disks c.in-Some.ensures.cases.0 c.in_ok-len.ensures.disk c.in_ok-found.ensures.disks

-- None of the others has.

pub returns-in-None-clause-asked : goal.returns-in-None-clause-asked
returns-in-None-clause-asked g t c = more_asked g.D.Disk c.args.disks.now c.in-Some.disk.now c.in-Some.rest.now c.in-Some.ensures.cases.0 c.in_ok-len.len (omega (arith, c.if-len-gt0.false)) c.in_ok-len.ensures.len c.len_of.new.disk c.first_begun.new.disks c.in_ok-found.ensures.asked

pub returns-in-None-clause-worked : goal.returns-in-None-clause-worked
returns-in-None-clause-worked g t c = none_counted g.D.Disk.faults c.args.disks.now c.in-Some.disk.now c.len_of.new.disk c.in-Some.rest.now c.in-Some.ensures.cases.0 c.first_begun.new.disks c.in_ok-len.ensures.worked c.in_ok-found.ensures.worked

pub returns-in-None-clause-disks : goal.returns-in-None-clause-disks
returns-in-None-clause-disks g t c = more_disks_read g.D.Disk c.args.disks.now c.in-Some.disk.now c.len_of.new.disk c.in-Some.rest.now c.first_begun.new.disks c.in-Some.ensures.cases.0 c.in_ok-len.ensures.disk c.in_ok-found.ensures.disks

pub returns-in-None-clause-empty : goal.returns-in-None-clause-empty
returns-in-None-clause-empty g t c = λ files holds same. more_empty g.D.Disk c.args.disks.now c.in-Some.disk.now c.in-Some.rest.now c.in-Some.ensures.cases.0 c.in_ok-len.len (omega (arith, c.if-len-gt0.false)) c.in_ok-len.ensures.len (λ later held. c.in_ok-found.ensures.empty later held c.in-None.is) files holds
