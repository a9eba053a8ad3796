use Rattle.run_execution.proofs.Openings.{opened_new, opened_over, refused_new, refused_over}
use Rattle.run_execution.proofs.opening.open_log.Goals as goal

pub returns-in-Ok-clause-ok : goal.returns-in-Ok-clause-ok
returns-in-Ok-clause-ok g c = rw (c.anew.ensures, c.in-New.is) (opened_new c.args.disk c.in-Ok.log c.in-Ok.ensures.ok)

pub returns-in-Ok-reuse-clause-ok : goal.returns-in-Ok-reuse-clause-ok
returns-in-Ok-reuse-clause-ok g c = rw (c.anew-in-Ok-reuse.ensures, c.in-Over.is) (opened_over c.in-Over.number c.args.disk c.in-Ok-reuse.log c.in-Ok-reuse.ensures.ok)

pub returns-in-Err-clause-err : goal.returns-in-Err-clause-err
returns-in-Err-clause-err g c = rw (c.from.ensures, c.in-New.is) (refused_new g.D.Disk c.args.disk c.in-Err.disk c.args.mode c.in-Err.why (g.met.D.Disk.only_now c.args.disk) c.in-Err.ensures.err)

pub returns-in-Err-reuse-clause-err : goal.returns-in-Err-reuse-clause-err
returns-in-Err-reuse-clause-err g c = rw (c.from-in-Err-reuse.ensures, c.in-Over.is) (refused_over g.D.Disk c.args.disk c.in-Err-reuse.disk c.in-Over.number c.args.mode c.in-Err-reuse.why c.in-Err-reuse.ensures.err)
