-- What the handle holds then is what all logs recover.
use Rattle.std.proofs.Common.{ap}
use Rattle.log_in_memory.specs.Readings.{number_of}
use Rattle.wolzenn_c.specs.declared.handle.WzHandle.{WzHandle}
use Rattle.wolzenn_c.specs.Objects.{as_recovered}
use Rattle.wolzenn_c.specs.Recoveries.{mode_of}
use Rattle.wolzenn_c.proofs.LogsInTurn.{no_logs, logs_put_back, logs_put}
use Rattle.wolzenn_c.proofs.more_logs.wz_recover_more.Goals.{in-Some-recovery, in-None}
use Rattle.wolzenn_c.proofs.more_logs.wz_recover_more.Goals as goal

pub returns-then-code-ne-DONE-clause-logs : goal.returns-then-code-ne-DONE-clause-logs
returns-then-code-ne-DONE-clause-logs c = λ logs which holds.
    let object = c.in-Some.object.value in let at = c.deref.result.now in let old = c.args.handle.now.held.object in let there = c.deref.ensures in let old_is = c.in-Some.ensures.object in
    elim c.match-recovery.branch [
      | in-Some-recovery w ↦ let more = w.put_more-code in
          logs_put_back logs object at old there old_is (number_of c.args.number) (mode_of c.args.mode) c.args.log.now w.in-Some-recovery.before.now more.result (as_recovered more.new.handle.held.object) more.new.summary
          w.in-Some-recovery.ensures.all more.ensures.recovers c.put.new.self.held.object c.match-recovery.code c.put.ensures w.code-is c.if-code-ne-DONE.true which holds
      | in-None w ↦ absurd (no_logs logs object at old there old_is w.in-None.ensures.all holds)
    ]

pub returns-else-code-ne-DONE-clause-logs : goal.returns-else-code-ne-DONE-clause-logs
returns-else-code-ne-DONE-clause-logs c = λ logs which holds.
    let object = c.in-Some.object.value in let at = c.deref.result.now in let old = c.args.handle.now.held.object in let there = c.deref.ensures in let old_is = c.in-Some.ensures.object in
    elim c.match-recovery.branch [
      | in-Some-recovery w ↦ let more = w.put_more-code in
          logs_put logs object at old there old_is (number_of c.args.number) (mode_of c.args.mode) c.args.log.now w.in-Some-recovery.before.now more.result (as_recovered more.new.handle.held.object) more.new.summary
          w.in-Some-recovery.ensures.all more.ensures.recovers (as_recovered c.match-recovery.handle.held.object) c.match-recovery.code (ap (λ (h : WzHandle). as_recovered h.held.object) w.handle-is) w.code-is c.if-code-ne-DONE.false holds
      | in-None w ↦ absurd (no_logs logs object at old there old_is w.in-None.ensures.all holds)
    ]
