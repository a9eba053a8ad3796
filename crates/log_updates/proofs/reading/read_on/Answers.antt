use Rattle.std.proofs.Common.{◌-◌, ◌<◌, ◌^◌, inr, slice_get, refl, sym, ◌∙◌, ap, subst, arith}
use Rattle.log_recovery.specs.declared.following.Place.{Place}
use Rattle.log_recovery.specs.declared.modes.Mode.TheVariants.{Point}
use Rattle.log_recovery.specs.declared.recovery.RecoverError.TheVariants.{NoMemory}
use Rattle.log_recovery.specs.Recovering.{IsRecoverError}
use Rattle.log_updates.specs.declared.places.LogPlace.{LogPlace}
use Rattle.log_updates.specs.Places.{IsFixed}
use Rattle.log_updates.proofs.Errors.{handed_on, error_of}
use Rattle.log_updates.proofs.Reached.{says_there, all_answered, reads_further, reads_to_end, further_is, goes_yes}
use Rattle.log_updates.proofs.reading.read_on.Goals as goal

pub turn_to-requires : goal.turn_to-requires
turn_to-requires g c =
    let same = g.met.Log.ReadableLog.stays_many c.args.log.now c.loop-records.log c.loop-records.invariant.stays in
    let many = c.requires.many in
    let there = c.loop-records.invariant.there in
    omega (arith, same, many, there)

pub updates_from-requires : goal.updates_from-requires
updates_from-requires g c = record { small = subst (λ (p : Place). p.at < 2 ^ 63) (sym c.place_of.ensures) c.loop-records.invariant.small }

pub loop-records-init : goal.loop-records-init
loop-records-init g c = record {
  there = c.requires.there;
  small = c.requires.small;
  within = (c.requires.there, c.requires.small);
  fixed = λ fixed. fixed;
  so_far = λ files batches before holds in_turn ordered stands none. (
    record { reached = before; stands = stands; are = c.new-records.ensures.items ∙ sym none },
    record { reached = before; stands = stands; are = c.new-records.ensures.items ∙ sym none },
  );
  worked = refl;
  stays = g.met.Log.ReadableLog.stays_none c.args.log.now;
}

pub loop-records-smaller : goal.loop-records-smaller
loop-records-smaller g c =
    let goes = sym c.goes_on.ensures ∙ c.if-not-goes_on.false in
    let further = goes_yes c.in_ok-more.more.end c.loop-records.place.log c.args.logs goes in
    subst (λ (p : LogPlace). c.args.logs - p.log < c.args.logs - c.loop-records.place.log) (sym c.start_of-place.ensures) (let next = further.1 in omega (arith, next))

pub loop-records-preserved : goal.loop-records-preserved
loop-records-preserved g c =
    let start = c.args.log.now in
    let old = c.loop-records.invariant in
    let place = c.loop-records.place in
    let turned = c.turn_to.new.self in
    let after = c.updates_from.new.disk in
    let more = c.in_ok-more.more in
    let turns = g.met.Log.ReadableLog.stays_on start c.loop-records.log turned old.stays c.turn_to.ensures.stays in
    let goes = sym c.goes_on.ensures ∙ c.if-not-goes_on.false in
    let further = goes_yes c.in_ok-more.more.end c.loop-records.place.log c.args.logs goes in
    let later = c.start_of-place.ensures in
    let end = c.reached_in-reached.ensures in
    record {
      there = subst (λ (p : LogPlace). p.log < c.args.logs) (sym later) further.1;
      small = subst (λ (p : LogPlace). p.at < 2 ^ 63) (sym later) (omega arith);
      within = subst (λ (p : LogPlace). (p.log < c.args.logs) × (p.at < 2 ^ 63)) (sym end)
          (further_is (λ (p : LogPlace). (p.log < c.args.logs) × (p.at < 2 ^ 63)) c.loop-records.reached place more.place (λ stayed. old.within) (λ moved. (old.there, c.in_ok-more.ensures.small)));
      fixed = λ fixed. subst IsFixed (sym end) (further_is IsFixed c.loop-records.reached place more.place (λ stayed. old.fixed fixed) (λ moved. inr (omega (arith, moved))));
      so_far = λ files batches before holds in_turn ordered stands none.
          let many_is = g.met.Log.ReadableLog.stays_many start turned turns in
          let chosen = c.turn_to.ensures.chosen in
          let many = c.requires.many in
          let there = old.there in
          let held = g.met.Log.ReadableLog.holds_chosen turned files (g.met.Log.ReadableLog.stays_held start turned files turns holds) (omega (arith, chosen, many_is, many, there)) ∙ ap (slice_get files) chosen in
          let says = says_there c.args.number c.args.since c.args.upto place more files (g.Log.ReadAt.held turned) c.place_of.result c.place_of.ensures held c.in_ok-more.ensures.more in
          let read = old.so_far files batches before holds in_turn ordered stands none in (
            reads_further c.args.number files c.args.since c.args.upto c.args.logs place c.start_of-place.result more c.loop-records.records.items c.add_all.new.records.items batches
                says read.0 c.in_ok-add_all.ensures in_turn ordered (g.met.Log.ReadableLog.as_many start files holds ∙ sym c.requires.many) goes later,
            reads_to_end c.args.number files c.args.since c.args.upto place c.loop-records.reached c.reached_in-reached.result more c.loop-records.records.items c.add_all.new.records.items says read.0 read.1 c.in_ok-add_all.ensures end,
          );
      worked = sym (g.met.Log.ReadableLog.one_count after) ∙ (c.in_ok-more.ensures.worked ∙ (g.met.Log.ReadableLog.one_count turned ∙ (c.turn_to.ensures.counts_none ∙ old.worked)));
      stays = g.met.Log.ReadableLog.stays_on start turned after turns (g.met.Log.ReadableLog.reads_stay turned after c.in_ok-more.ensures.disk);
    }

pub returns-then-not-goes_on-clause-updates : goal.returns-then-not-goes_on-clause-updates
returns-then-not-goes_on-clause-updates g c = λ files batches before holds in_turn ordered stands none.
    let start = c.args.log.now in
    let old = c.loop-records.invariant in
    let place = c.loop-records.place in
    let turned = c.turn_to.new.self in
    let more = c.in_ok-more.more in
    let turns = g.met.Log.ReadableLog.stays_on start c.loop-records.log turned old.stays c.turn_to.ensures.stays in
    let many_is = g.met.Log.ReadableLog.stays_many start turned turns in
    let chosen = c.turn_to.ensures.chosen in
    let many = c.requires.many in
    let there = old.there in
    let held = g.met.Log.ReadableLog.holds_chosen turned files (g.met.Log.ReadableLog.stays_held start turned files turns holds) (omega (arith, chosen, many_is, many, there)) ∙ ap (slice_get files) chosen in
    let says = says_there c.args.number c.args.since c.args.upto place more files (g.Log.ReadAt.held turned) c.place_of.result c.place_of.ensures held c.in_ok-more.ensures.more in
    let read = old.so_far files batches before holds in_turn ordered stands none in
    all_answered c.args.number files c.args.since c.args.upto c.args.logs place c.loop-records.reached more c.loop-records.records.items c.add_all.new.records.items batches
    (record { records = c.add_all.new.records; place = c.reached_in-reached.result }) says read.0 read.1 c.in_ok-add_all.ensures in_turn ordered
    (g.met.Log.ReadableLog.as_many start files holds ∙ sym c.requires.many) (sym c.goes_on.ensures ∙ c.if-not-goes_on.true) refl c.reached_in-reached.ensures

pub returns-then-not-goes_on-clause-place : goal.returns-then-not-goes_on-clause-place
returns-then-not-goes_on-clause-place g c =
    let old = c.loop-records.invariant in
    subst (λ (p : LogPlace). (p.log < c.args.logs) × (p.at < 2 ^ 63)) (sym c.reached_in-reached.ensures)
    (further_is (λ (p : LogPlace). (p.log < c.args.logs) × (p.at < 2 ^ 63)) c.loop-records.reached c.loop-records.place c.in_ok-more.more.place (λ stayed. old.within) (λ moved. (old.there, c.in_ok-more.ensures.small)))

pub returns-then-not-goes_on-clause-fixed : goal.returns-then-not-goes_on-clause-fixed
returns-then-not-goes_on-clause-fixed g c = λ fixed.
    subst IsFixed (sym c.reached_in-reached.ensures) (further_is IsFixed c.loop-records.reached c.loop-records.place c.in_ok-more.more.place (λ stayed. c.loop-records.invariant.fixed fixed) (λ moved. inr (omega (arith, moved))))

pub returns-then-not-goes_on-clause-worked : goal.returns-then-not-goes_on-clause-worked
returns-then-not-goes_on-clause-worked g c =
    let turned = c.turn_to.new.self in
    let after = c.updates_from.new.disk in
    sym (g.met.Log.ReadableLog.one_count after) ∙ (c.in_ok-more.ensures.worked ∙ (g.met.Log.ReadableLog.one_count turned ∙ (c.turn_to.ensures.counts_none ∙ c.loop-records.invariant.worked)))

pub returns-then-not-goes_on-clause-stays : goal.returns-then-not-goes_on-clause-stays
returns-then-not-goes_on-clause-stays g c =
    let start = c.args.log.now in
    let turned = c.turn_to.new.self in
    let turns = g.met.Log.ReadableLog.stays_on start c.loop-records.log turned c.loop-records.invariant.stays c.turn_to.ensures.stays in
    g.met.Log.ReadableLog.stays_on start turned c.updates_from.new.disk turns (g.met.Log.ReadableLog.reads_stay turned c.updates_from.new.disk c.in_ok-more.ensures.disk)

-- A log wasn't read.

pub returns-in_err-more-clause-error : goal.returns-in_err-more-clause-error
returns-in_err-more-clause-error g c =
    let turned = c.turn_to.new.self in
    let after = c.updates_from.new.disk in
    let older = g.met.Log.ReadableLog.one_count turned ∙ (c.turn_to.ensures.counts_none ∙ c.loop-records.invariant.worked) in
    let newer = g.met.Log.ReadableLog.one_count after in
    handed_on c.from_residual.result c.in_err-more.field-0.0 (IsRecoverError Point (g.Log.GroupLog.faults c.args.log.now) (g.Log.GroupLog.faults after)) c.from_residual.ensures.1
    (error_of (g.Log.ReadAt.failures turned) (g.Log.ReadAt.failures after) (g.Log.GroupLog.faults c.args.log.now) (g.Log.GroupLog.faults after) c.in_err-more.field-0.0 older newer c.in_err-more.ensures.error)

pub returns-in_err-more-clause-stays : goal.returns-in_err-more-clause-stays
returns-in_err-more-clause-stays g c =
    let start = c.args.log.now in
    let turned = c.turn_to.new.self in
    let turns = g.met.Log.ReadableLog.stays_on start c.loop-records.log turned c.loop-records.invariant.stays c.turn_to.ensures.stays in
    g.met.Log.ReadableLog.stays_on start turned c.updates_from.new.disk turns (g.met.Log.ReadableLog.reads_stay turned c.updates_from.new.disk c.in_err-more.ensures.disk)

-- There was no room for its records.

pub returns-in_err-add_all-clause-error : goal.returns-in_err-add_all-clause-error
returns-in_err-add_all-clause-error g c =
    let turned = c.turn_to.new.self in
    let after = c.updates_from.new.disk in
    handed_on c.from_residual-in_err-add_all.result NoMemory (IsRecoverError Point (g.Log.GroupLog.faults c.args.log.now) (g.Log.GroupLog.faults after)) c.from_residual-in_err-add_all.ensures.1
    (sym (g.met.Log.ReadableLog.one_count after) ∙ (c.in_ok-more.ensures.worked ∙ (g.met.Log.ReadableLog.one_count turned ∙ (c.turn_to.ensures.counts_none ∙ c.loop-records.invariant.worked))))

pub returns-in_err-add_all-clause-stays : goal.returns-in_err-add_all-clause-stays
returns-in_err-add_all-clause-stays g c =
    let start = c.args.log.now in
    let turned = c.turn_to.new.self in
    let turns = g.met.Log.ReadableLog.stays_on start c.loop-records.log turned c.loop-records.invariant.stays c.turn_to.ensures.stays in
    g.met.Log.ReadableLog.stays_on start turned c.updates_from.new.disk turns (g.met.Log.ReadableLog.reads_stay turned c.updates_from.new.disk c.in_ok-more.ensures.disk)
