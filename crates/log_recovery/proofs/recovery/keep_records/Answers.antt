use Rattle.std.proofs.Common.{refl, ◌∙◌}
use Rattle.log_recovery.proofs.Telling.{if_all, kept_adds, kept_refuses, kept_on, refused, ended}
use Rattle.log_recovery.proofs.Numbered.{numbered_more}
use Rattle.log_recovery.proofs.recovery.keep_records.Goals as goal

pub loop-start-init : goal.loop-start-init
loop-start-init g c = record {
  number = refl;
  going = c.requires.going;
  so_far = if_all (g.R.ReadAt.held c.args.disk.now) _ (λ d before read. read);
  numbered = λ first. first;
  worked = refl;
  disk = g.met.R.ReadAt.reads_none c.args.disk.now;
}

pub loop-start-preserved : goal.loop-start-preserved
loop-start-preserved g c =
    let told = g.R.ReadAt.held c.args.disk.now in
    let before = g.R.ReadAt.held c.loop-start.disk in
    let old = c.loop-start.invariant in
    let now = c.in-Record.ensures in
    let bytes = c.record.result.now in
    let adds = kept_adds c.loop-start.kept c.keep.new.self bytes c.in-Record.end c.in_ok-why-in-Record.field-0 (c.in_ok-why-in-Record.ensures {u = tt}) c.in_default.is in
    record {
      number = now.number ∙ old.number;
      going = now.stopped old.going;
      so_far = kept_on told before c.args.kept.now c.loop-start.kept c.keep.new.self c.args.log c.loop-start.log c.next.new.self c.in-Record.start c.in-Record.end bytes
          (g.met.R.ReadAt.reads_keep _ _ old.disk) old.going now.number (now.place old.going) c.record.ensures adds old.so_far now.reads now.follows;
      numbered = λ first. numbered_more c.loop-start.kept c.keep.new.self bytes c.in-Record.end adds (old.numbered first);
      worked = now.fault old.going ∙ old.worked;
      disk = g.met.R.ReadAt.reads_on _ _ _ old.disk now.disk;
    }

pub returns-in-Some-clause-recovered : goal.returns-in-Some-clause-recovered
returns-in-Some-clause-recovered g c =
    let told = g.R.ReadAt.held c.args.disk.now in
    let before = g.R.ReadAt.held c.loop-start.disk in
    let old = c.loop-start.invariant in
    let bytes = c.record.result.now in
    let refuses = kept_refuses c.loop-start.kept c.keep.new.self bytes c.in-Record.end c.in_ok-why-in-Record.field-0 c.in-Some.why (c.in_ok-why-in-Record.ensures {u = tt}) c.in-Some.is in
    refused told before c.args.kept.now c.loop-start.kept c.keep.new.self c.args.log c.loop-start.log c.next.new.self c.in-Record.start c.in-Record.end bytes c.in-Some.why
    (g.met.R.ReadAt.reads_keep _ _ old.disk) old.going old.number c.record.ensures refuses old.so_far c.in-Record.ensures.reads

pub returns-in-End-clause-recovered : goal.returns-in-End-clause-recovered
returns-in-End-clause-recovered g c =
    let told = g.R.ReadAt.held c.args.disk.now in
    let before = g.R.ReadAt.held c.loop-start.disk in
    let old = c.loop-start.invariant in
    ended told before c.args.kept.now c.loop-start.kept c.args.log c.loop-start.log c.next.new.self c.in-End.at c.in-End.why
    (g.met.R.ReadAt.reads_keep _ _ old.disk) old.going old.number old.so_far c.in-End.ensures.reads

pub returns-in-Some-clause-worked : goal.returns-in-Some-clause-worked
returns-in-Some-clause-worked g c = let old = c.loop-start.invariant in c.in-Record.ensures.fault old.going ∙ old.worked

pub returns-in-End-clause-worked : goal.returns-in-End-clause-worked
returns-in-End-clause-worked g c = let old = c.loop-start.invariant in c.in-End.ensures.fault old.going ∙ old.worked

pub returns-in-Some-clause-disk : goal.returns-in-Some-clause-disk
returns-in-Some-clause-disk g c = g.met.R.ReadAt.reads_on _ _ _ c.loop-start.invariant.disk c.in-Record.ensures.disk

pub returns-in-End-clause-disk : goal.returns-in-End-clause-disk
returns-in-End-clause-disk g c = g.met.R.ReadAt.reads_on _ _ _ c.loop-start.invariant.disk c.in-End.ensures.disk

pub returns-in-Fault-clause-disk : goal.returns-in-Fault-clause-disk
returns-in-Fault-clause-disk g c = g.met.R.ReadAt.reads_on _ _ _ c.loop-start.invariant.disk c.in-Fault.ensures.disk

pub returns-in-NoMemory-clause-disk : goal.returns-in-NoMemory-clause-disk
returns-in-NoMemory-clause-disk g c = g.met.R.ReadAt.reads_on _ _ _ c.loop-start.invariant.disk c.in-NoMemory.ensures.disk

pub returns-in_err-why-in-Record-clause-disk : goal.returns-in_err-why-in-Record-clause-disk
returns-in_err-why-in-Record-clause-disk g c = g.met.R.ReadAt.reads_on _ _ _ c.loop-start.invariant.disk c.in-Record.ensures.disk
