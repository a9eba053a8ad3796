-- The first line, one step after another, and the step that ends the listing.
use Rattle.std.proofs.Common.{◌≡◌, None, refl, sym, ◌∙◌, ap, subst}
use Rattle.log_scan.specs.Scanner.{IsAt, IsGoing, ScannerState}
use Rattle.list_log.specs.Showing.{ended}
use Rattle.list_log.specs.Steps.{WritesIfRoom}
use Rattle.list_log.specs.Texts.{front_of}
use Rattle.list_log.specs.declared.listing.Listed.TheVariants as listed
use Rattle.list_log.specs.declared.settings.Settings.{Settings}
use Rattle.list_log.proofs.Whole.{at_told, end_told, front_goes, front_told, goes, if_all, no_front_told, on_told, uncaused}
use Rattle.list_log.proofs.showing.show.Goals as goal

pub returns-in-Some-clause-shown : goal.returns-in-Some-clause-shown
returns-in-Some-clause-shown g c =
    let before = g.K.Sink.taken c.args.sink.now in
    let after = g.K.Sink.taken c.begin.new.sink in
    let failed = g.K.Sink.faults c.args.sink.now in
    let fails = g.K.Sink.faults c.begin.new.sink in
    let made = c.in-Ok.ensures in
    let begun = c.begin.ensures in
    let wrote = subst (λ (s : Settings). WritesIfRoom (front_of s) listed.More before after failed fails c.begin.result) made.settings begun.written in
    no_front_told (g.R.ReadAt.held c.args.disk.now) c.args.settings c.args.number c.begin.new.self before after failed fails c.begin.result c.in-Some.shown
    (ap (λ (s : ScannerState). s.place) begun.scanner ∙ made.start.0) (begun.last ∙ made.start.1) (sym c.ended.ensures ∙ c.in-Some.is) wrote

pub loop-shown-init : goal.loop-shown-init
loop-shown-init g c =
    let told = g.R.ReadAt.held c.args.disk.now in
    let before = g.K.Sink.taken c.args.sink.now in
    let after = g.K.Sink.taken c.begin.new.sink in
    let failed = g.K.Sink.faults c.args.sink.now in
    let fails = g.K.Sink.faults c.begin.new.sink in
    let made = c.in-Ok.ensures in
    let begun = c.begin.ensures in
    let on : ended c.begin.result ≡ None = sym c.ended.ensures ∙ c.in_default-ended.is in
    let wrote = subst (λ (s : Settings). WritesIfRoom (front_of s) listed.More before after failed fails c.begin.result) made.settings begun.written in
    let goes_there = front_goes (front_of c.args.settings) before after failed fails c.begin.result on wrote in
    record {
      of = record {
        settings_are = begun.settings ∙ made.settings;
        number_is = ap (λ (s : ScannerState). s.number) begun.scanner ∙ made.number;
        goes_on = ap (λ (s : ScannerState). s.goes_on) begun.scanner ∙ made.goes_on;
      };
      going = subst IsGoing (sym begun.scanner) made.going;
      at = if_all told (λ file. IsAt file c.begin.new.self.scanner) (λ file. subst (IsAt file) (sym begun.scanner) (made.is_at file));
      written = front_told told c.args.settings c.args.number c.begin.new.self before after failed fails c.begin.result
          (ap (λ (s : ScannerState). s.place) begun.scanner ∙ made.start.0) (begun.last ∙ made.start.1) on wrote;
      worked = refl;
      no_sink_fault = goes_there.1;
      disk = g.met.R.ReadAt.reads_none c.args.disk.now;
    }

pub loop-shown-preserved : goal.loop-shown-preserved
loop-shown-preserved g c =
    let told = g.R.ReadAt.held c.args.disk.now in
    let now = g.R.ReadAt.held c.loop-shown.disk in
    let first = g.K.Sink.taken c.args.sink.now in
    let mid = g.K.Sink.taken c.loop-shown.sink in
    let after = g.K.Sink.taken c.next.new.sink in
    let old = c.loop-shown.invariant in
    let state = c.loop-shown.listing in
    let new = c.next.new.self in
    let step = c.next.ensures in
    let on : ended c.next.result ≡ None = sym c.ended-in-loop-shown.ensures ∙ c.in_default-ended-2.is in
    let same : now ≡ told = g.met.R.ReadAt.reads_keep _ _ old.disk in
    let causes = uncaused c.next.result (g.R.ReadAt.failures c.loop-shown.disk) (g.R.ReadAt.failures c.next.new.disk) (g.K.Sink.faults c.loop-shown.sink) (g.K.Sink.faults c.next.new.sink) on (step.causes old.going) in
    record {
      of = record { settings_are = step.settings ∙ old.of.settings_are; number_is = step.number ∙ old.of.number_is; goes_on = step.goes_on ∙ old.of.goes_on };
      going = goes c.next.result (IsGoing new.scanner) on (step.going old.going);
      at = at_told told now state new c.next.result same old.going on old.at step.is_at;
      written = on_told told now c.args.settings c.args.number state new first mid after c.next.result same old.of old.going on old.at old.written step.shown;
      worked = causes.0 ∙ old.worked;
      no_sink_fault = causes.1 ∙ old.no_sink_fault;
      disk = g.met.R.ReadAt.reads_on _ _ _ old.disk step.disk;
    }

pub returns-in-Some-ended-clause-shown : goal.returns-in-Some-ended-clause-shown
returns-in-Some-ended-clause-shown g c =
    let told = g.R.ReadAt.held c.args.disk.now in
    let now = g.R.ReadAt.held c.loop-shown.disk in
    let old = c.loop-shown.invariant in
    let same : now ≡ told = g.met.R.ReadAt.reads_keep _ _ old.disk in
    end_told told now c.args.settings c.args.number c.loop-shown.listing c.next.new.self (g.K.Sink.taken c.args.sink.now) (g.K.Sink.taken c.loop-shown.sink) (g.K.Sink.taken c.next.new.sink) c.next.result c.in-Some-ended.shown same
    old.of old.going (sym c.ended-in-loop-shown.ensures ∙ c.in-Some-ended.is) old.at old.written c.next.ensures.shown
