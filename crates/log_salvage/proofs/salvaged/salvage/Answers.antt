-- One step after another, and the step that ends it.
use Rattle.std.proofs.Common.{◌≡◌, None, refl, sym, ◌∙◌}
use Rattle.log_scan.specs.Scanner.{IsAt, IsGoing}
use Rattle.log_salvage.specs.Salvaging.{ended}
use Rattle.log_salvage.proofs.Whole.{at_told, end_told, goes, if_all, no_bytes, no_room_told, none_told, on_told, uncaused, written}
use Rattle.log_salvage.proofs.salvaged.salvage.Goals as goal

pub returns-in_default-clause-salvaged : goal.returns-in_default-clause-salvaged
returns-in_default-clause-salvaged g c =
    let taken = g.K.Sink.taken c.args.sink.now in no_room_told (g.R.ReadAt.held c.args.disk.now) c.args.range c.args.number (written c.args.new_log.now c.args.counts.now taken) (no_bytes taken)

pub loop-salvaged-init : goal.loop-salvaged-init
loop-salvaged-init g c =
    let told = g.R.ReadAt.held c.args.disk.now in
    let made = c.in-Ok.ensures in
    let taken = g.K.Sink.taken c.args.sink.now in
    record {
      range = made.range;
      number = made.number;
      goes_on = made.goes_on;
      going = made.going;
      at = if_all told (λ file. IsAt file c.in-Ok.salvaging.scanner) made.is_at;
      added = none_told told c.args.range c.args.number c.in-Ok.salvaging.scanner.place (written c.args.new_log.now c.args.counts.now taken) made.start (no_bytes taken);
      worked = refl;
      no_sink_fault = refl;
      disk = g.met.R.ReadAt.reads_none c.args.disk.now;
    }

pub loop-salvaged-preserved : goal.loop-salvaged-preserved
loop-salvaged-preserved g c =
    let told = g.R.ReadAt.held c.args.disk.now in
    let now = g.R.ReadAt.held c.loop-salvaged.disk in
    let old = c.loop-salvaged.invariant in
    let state = c.loop-salvaged.salvaging in
    let new = c.next-step.new.self in
    let next = c.next-step.ensures in
    let s = c.next-step.result in
    let on : ended s ≡ None = sym c.ended.ensures ∙ c.in_default-ended.is in
    let same : now ≡ told = g.met.R.ReadAt.reads_keep _ _ old.disk in
    let causes = uncaused s (g.R.ReadAt.failures c.loop-salvaged.disk) (g.R.ReadAt.failures c.next-step.new.disk) (g.K.Sink.faults c.loop-salvaged.sink) (g.K.Sink.faults c.next-step.new.sink) on (next.causes old.going) in
    let first = written c.args.new_log.now c.args.counts.now (g.K.Sink.taken c.args.sink.now) in
    let mid = written c.loop-salvaged.new_log c.loop-salvaged.counts (g.K.Sink.taken c.loop-salvaged.sink) in
    let after = written c.next-step.new.new_log c.add.new.self (g.K.Sink.taken c.next-step.new.sink) in
    record {
      range = next.range ∙ old.range;
      number = next.number ∙ old.number;
      goes_on = next.goes_on ∙ old.goes_on;
      going = goes s (IsGoing new.scanner) on (next.going old.going);
      at = at_told told now state.scanner new.scanner s same old.going on old.at next.is_at;
      added = on_told told now c.args.range state.range c.args.number state.scanner new.scanner first mid after s same old.range old.number old.goes_on old.going on next.found next.written c.add.ensures old.at old.added;
      worked = causes.0 ∙ old.worked;
      no_sink_fault = causes.1 ∙ old.no_sink_fault;
      disk = g.met.R.ReadAt.reads_on _ _ _ old.disk next.disk;
    }

pub returns-in-Some-clause-salvaged : goal.returns-in-Some-clause-salvaged
returns-in-Some-clause-salvaged g c =
    let told = g.R.ReadAt.held c.args.disk.now in
    let now = g.R.ReadAt.held c.loop-salvaged.disk in
    let old = c.loop-salvaged.invariant in
    let state = c.loop-salvaged.salvaging in
    let new = c.next-step.new.self in
    let next = c.next-step.ensures in
    let same : now ≡ told = g.met.R.ReadAt.reads_keep _ _ old.disk in
    let first = written c.args.new_log.now c.args.counts.now (g.K.Sink.taken c.args.sink.now) in
    let mid = written c.loop-salvaged.new_log c.loop-salvaged.counts (g.K.Sink.taken c.loop-salvaged.sink) in
    let after = written c.next-step.new.new_log c.loop-salvaged.counts (g.K.Sink.taken c.next-step.new.sink) in
    end_told told now c.args.range state.range c.args.number state.scanner new.scanner first mid after c.next-step.result c.in-Some.salvaged same old.range old.number old.goes_on old.going (sym c.ended.ensures ∙ c.in-Some.is) next.found
    next.written refl old.at old.added
