use Rattle.std.proofs.Common.{refl, sym, ◌∙◌, ◌≡◌, None}
use Rattle.std.proofs.lemmas.Result.{err_from_is_err_and}
use Rattle.log_scan.specs.Scanner.{IsGoing}
use Rattle.list_log.specs.Totals.{counted_end}
use Rattle.list_log.proofs.Counting.{at_start, at_next, counted_start, counted_next, counted_last, goes, unfailed}
use Rattle.list_log.proofs.summary.count.Goals as goal

pub loop-end-init : goal.loop-end-init
loop-end-init g c =
    let opened = c.in_ok-scanner.ensures in
    let told = g.R.ReadAt.held c.args.disk.now in
    record {
      number = opened.number;
      goes_on = opened.goes_on;
      going = opened.going;
      at = at_start told c.in_ok-scanner.scanner opened.is_at;
      counted = counted_start told c.args.settings.now c.args.number c.args.totals.now c.in_ok-scanner.scanner.place opened.start;
      worked = refl;
      disk = g.met.R.ReadAt.reads_none c.args.disk.now;
    }

pub loop-end-preserved : goal.loop-end-preserved
loop-end-preserved g c =
    let told = g.R.ReadAt.held c.args.disk.now in
    let before = g.R.ReadAt.held c.loop-end.disk in
    let old = c.loop-end.invariant in
    let next = c.next-found.ensures in
    let step = c.next-found.result in
    let same = g.met.R.ReadAt.reads_keep _ _ old.disk in
    let on : counted_end step ≡ None = sym c.ended.ensures ∙ c.in_default.is in
    record {
      number = next.number ∙ old.number;
      goes_on = next.goes_on ∙ old.goes_on;
      going = goes step (IsGoing c.next-found.new.self) on (next.going old.going);
      at = at_next told before c.loop-end.scanner c.next-found.new.self step same old.going on next.is_at old.at;
      counted = counted_next told before c.args.settings.now c.args.number c.loop-end.scanner c.next-found.new.self c.args.totals.now c.loop-end.totals c.add_found.new.self step c.record.result.now same
          old.number old.goes_on old.going on next.found c.record.ensures c.in_ok-add_found.ensures old.at old.counted;
      worked = unfailed step _ _ on (next.fault old.going) ∙ old.worked;
      disk = g.met.R.ReadAt.reads_on _ _ _ old.disk next.disk;
    }

pub returns-in_err-add_found-clause-error : goal.returns-in_err-add_found-clause-error
returns-in_err-add_found-clause-error g c =
    let exit = err_from_is_err_and c.from_residual-in_err-add_found.result c.from_residual-in_err-add_found.ensures.1 in
    let old = c.loop-end.invariant in
    let on : counted_end c.next-found.result ≡ None = sym c.ended.ensures ∙ c.in_default.is in
    rw (exit.1, exit.2) (unfailed c.next-found.result _ _ on (c.next-found.ensures.fault old.going) ∙ old.worked)

pub returns-in-Some-clause-counted : goal.returns-in-Some-clause-counted
returns-in-Some-clause-counted g c =
    let told = g.R.ReadAt.held c.args.disk.now in
    let before = g.R.ReadAt.held c.loop-end.disk in
    let old = c.loop-end.invariant in
    counted_last told before c.args.settings.now c.args.number c.loop-end.scanner c.next-found.new.self c.args.totals.now c.loop-end.totals c.next-found.result c.in-Some.end
    (g.met.R.ReadAt.reads_keep _ _ old.disk) old.number old.goes_on old.going (sym c.ended.ensures ∙ c.in-Some.is) c.next-found.ensures.found old.at old.counted
