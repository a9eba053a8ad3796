-- The laws, by their premises.
use Rattle.crash_laws.proofs.Promised.{goes_after}
use Rattle.crash_laws.proofs.Killed.{after_kill, after_opening, at_rest, outlives, is_moment}
use Rattle.crash_laws.proofs.killed_process_keeps_all.Goals as goal

pub returns : goal.returns
returns g c = record {
  kept = λ call n file next killed to. after_kill g.met.D.Disk.is_disk call n file killed next to;
  resumed = λ earlier later n file killed resumes. after_kill g.met.D.Disk.is_disk earlier n file killed later.ran.before (goes_after earlier file later resumes);
  rests = λ call n file killed rest. at_rest g.met.D.Disk.is_disk call n file killed rest;
  opening = λ call file next killed to. after_opening call file next killed to;
  answered = λ call i calls first last records there was. outlives g.met.D.Disk.is_disk call i calls first last records there was;
  moments = λ call n within. is_moment g.met.D.Disk.is_disk call n within;
}
