use Rattle.std.proofs.Common.{IfSome, ◌≡◌, ◌<◌, ◌^◌, sym, ◌∙◌, ap, subst, arith}
use Rattle.log_recovery.specs.declared.following.MoreUpdates.{MoreUpdates}
use Rattle.log_recovery.specs.declared.picked.Picked.{Picked}
use Rattle.log_recovery.specs.Following.{RisesTo}
use Rattle.log_recovery.proofs.FollowSteps.{SaysMore, more_answer, begins_following, picked_on, stopped_at, rises_on, stops_below, follows_more, stops_there, ends_there}
use Rattle.log_recovery.proofs.following.updates_from.Goals as goal

pub loop-start-init : goal.loop-start-init
loop-start-init g c =
    let log = c.in_ok-log.ensures in
    let told = g.R.ReadAt.held c.args.disk.now in
    record {
      number = log.number;
      going = log.going;
      so_far = begins_following told c.args.number c.args.since c.args.upto c.args.from c.from_place-picked.result c.in_ok-log.log c.from_place-picked.ensures.records c.from_place-picked.ensures.last c.from_place-picked.ensures.end log.there;
      small = subst (λ n. n < 2 ^ 63) (sym c.from_place-picked.ensures.end) c.requires.small;
      last = (omega (arith, c.from_place-picked.ensures.last), λ above. c.from_place-picked.ensures.last);
      worked = log.worked;
      disk = log.disk;
    }

pub loop-start-preserved : goal.loop-start-preserved
loop-start-preserved g c =
    let number = c.args.number in
    let s = c.args.since in
    let upto = c.args.upto in
    let told = g.R.ReadAt.held c.args.disk.now in
    let before = g.R.ReadAt.held c.loop-start.disk in
    let old = c.loop-start.invariant in
    let now = c.in-Record.ensures in
    let log = c.loop-start.log in
    let bytes = c.record.result.now in
    let end = c.in-Record.end in
    let adds = picked_on s upto c.loop-start.picked c.pick.new.self bytes end c.in_ok-stop-in-Record.field-0 (c.in_ok-stop-in-Record.ensures {u = tt}) c.in_default.is in
    record {
      number = now.number ∙ old.number;
      going = now.stopped old.going;
      so_far = follows_more told before number s upto c.args.from c.loop-start.picked c.pick.new.self log c.next.new.self c.in-Record.start end c.next.new.self.in_hand bytes (g.met.R.ReadAt.reads_keep _ _ old.disk) old.number old.going (now.place old.going) c.record.ensures adds old.so_far now.reads now.follows;
      small = subst (λ n. n < 2 ^ 63) (sym adds.picks.end_is) (now.forward old.going).1;
      last = rises_on s upto c.args.from.last c.loop-start.picked c.pick.new.self bytes end adds old.last;
      worked = now.fault old.going ∙ old.worked;
      disk = g.met.R.ReadAt.reads_on _ _ _ old.disk now.disk;
    }

pub returns-in-Some-clause-more : goal.returns-in-Some-clause-more
returns-in-Some-clause-more g c =
    let number = c.args.number in
    let s = c.args.since in
    let upto = c.args.upto in
    let told = g.R.ReadAt.held c.args.disk.now in
    let before = g.R.ReadAt.held c.loop-start.disk in
    let old = c.loop-start.invariant in
    let log = c.loop-start.log in
    let bytes = c.record.result.now in
    let start = c.in-Record.start in
    let stops = stopped_at s upto c.loop-start.picked c.pick.new.self bytes c.in-Record.end c.in_ok-stop-in-Record.field-0 c.in-Some.stop (c.in_ok-stop-in-Record.ensures {u = tt}) c.in-Some.is in
    subst (λ (m : MoreUpdates). IfSome told (SaysMore number s upto c.args.from m)) (sym (subst (λ e. c.more_of.result ≡ more_answer c.pick.new.self e) c.end_at.ensures c.more_of.ensures))
    (stops_there told before number s upto c.args.from c.loop-start.picked c.pick.new.self log start c.in-Record.end c.next.new.self.in_hand bytes c.in-Some.stop (g.met.R.ReadAt.reads_keep _ _ old.disk) old.number old.going c.record.ensures stops old.so_far c.in-Record.ensures.reads)

pub returns-in-End-clause-more : goal.returns-in-End-clause-more
returns-in-End-clause-more g c =
    let number = c.args.number in
    let s = c.args.since in
    let upto = c.args.upto in
    let told = g.R.ReadAt.held c.args.disk.now in
    let before = g.R.ReadAt.held c.loop-start.disk in
    let old = c.loop-start.invariant in
    subst (λ (m : MoreUpdates). IfSome told (SaysMore number s upto c.args.from m)) (sym c.more_of-in-End.ensures)
    (ends_there told before number s upto c.args.from c.loop-start.picked c.loop-start.log c.in-End.at c.in-End.why c.next.new.self.in_hand (g.met.R.ReadAt.reads_keep _ _ old.disk) old.number old.going old.so_far c.in-End.ensures.reads)

-- What is picked ends where it ended, whether reading stops or ends.
pub returns-in-Some-clause-small : goal.returns-in-Some-clause-small
returns-in-Some-clause-small g c =
    let stops = stopped_at c.args.since c.args.upto c.loop-start.picked c.pick.new.self c.record.result.now c.in-Record.end c.in_ok-stop-in-Record.field-0 c.in-Some.stop (c.in_ok-stop-in-Record.ensures {u = tt}) c.in-Some.is in
    subst (λ (m : MoreUpdates). m.place.at < 2 ^ 63) (sym c.more_of.ensures) (subst (λ (p : Picked). p.end < 2 ^ 63) (sym stops.0) c.loop-start.invariant.small)

pub returns-in-End-clause-small : goal.returns-in-End-clause-small
returns-in-End-clause-small g c = subst (λ (m : MoreUpdates). m.place.at < 2 ^ 63) (sym c.more_of-in-End.ensures) c.loop-start.invariant.small

pub returns-in-Some-clause-last : goal.returns-in-Some-clause-last
returns-in-Some-clause-last g c =
    let stops = stopped_at c.args.since c.args.upto c.loop-start.picked c.pick.new.self c.record.result.now c.in-Record.end c.in_ok-stop-in-Record.field-0 c.in-Some.stop (c.in_ok-stop-in-Record.ensures {u = tt}) c.in-Some.is in
    subst (λ (m : MoreUpdates). RisesTo c.args.upto c.args.from.last m.place.last) (sym c.more_of.ensures) (subst (λ (p : Picked). RisesTo c.args.upto c.args.from.last p.last) (sym stops.0) c.loop-start.invariant.last)

pub returns-in-End-clause-last : goal.returns-in-End-clause-last
returns-in-End-clause-last g c = subst (λ (m : MoreUpdates). RisesTo c.args.upto c.args.from.last m.place.last) (sym c.more_of-in-End.ensures) c.loop-start.invariant.last

pub returns-in-Some-clause-stops : goal.returns-in-Some-clause-stops
returns-in-Some-clause-stops g c =
    let stops = stopped_at c.args.since c.args.upto c.loop-start.picked c.pick.new.self c.record.result.now c.in-Record.end c.in_ok-stop-in-Record.field-0 c.in-Some.stop (c.in_ok-stop-in-Record.ensures {u = tt}) c.in-Some.is in
    λ none. stops_below c.args.upto c.loop-start.picked.last c.in-Record.start c.record.result.now c.in-Some.stop stops.1
    (sym c.end_at.ensures ∙ sym (ap (λ (m : MoreUpdates). m.end) c.more_of.ensures) ∙ none)

pub returns-in-Some-clause-worked : goal.returns-in-Some-clause-worked
returns-in-Some-clause-worked g c = let old = c.loop-start.invariant in c.in-Record.ensures.fault old.going ∙ old.worked

pub returns-in-End-clause-worked : goal.returns-in-End-clause-worked
returns-in-End-clause-worked g c = let old = c.loop-start.invariant in c.in-End.ensures.fault old.going ∙ old.worked

pub returns-in-Some-clause-disk : goal.returns-in-Some-clause-disk
returns-in-Some-clause-disk g c = g.met.R.ReadAt.reads_on _ _ _ c.loop-start.invariant.disk c.in-Record.ensures.disk

pub returns-in-End-clause-disk : goal.returns-in-End-clause-disk
returns-in-End-clause-disk g c = g.met.R.ReadAt.reads_on _ _ _ c.loop-start.invariant.disk c.in-End.ensures.disk

pub returns-in-Fault-clause-disk : goal.returns-in-Fault-clause-disk
returns-in-Fault-clause-disk g c = g.met.R.ReadAt.reads_on _ _ _ c.loop-start.invariant.disk c.in-Fault.ensures.disk

pub returns-in-NoMemory-clause-disk : goal.returns-in-NoMemory-clause-disk
returns-in-NoMemory-clause-disk g c = g.met.R.ReadAt.reads_on _ _ _ c.loop-start.invariant.disk c.in-NoMemory.ensures.disk

pub returns-in_err-stop-in-Record-clause-disk : goal.returns-in_err-stop-in-Record-clause-disk
returns-in_err-stop-in-Record-clause-disk g c = g.met.R.ReadAt.reads_on _ _ _ c.loop-start.invariant.disk c.in-Record.ensures.disk
