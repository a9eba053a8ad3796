use Rattle.std.proofs.Common.{refl, ◌∙◌, arith}
use Rattle.log_in_memory.proofs.Finding.{passed_more, finds_next, ends_scan}
use Rattle.log_in_memory.proofs.scanning.find_next.Goals as goal

pub loop-unread-init : goal.loop-unread-init
loop-unread-init c = record {
  going = c.requires;
  number = refl;
  goes_on = refl;
  passed = λ is. record { is_at = is; place = refl };
}

pub loop-unread-preserved : goal.loop-unread-preserved
loop-unread-preserved c =
    let before = c.loop-unread.invariant in
    record {
      going = c.in-Passed.ensures.going;
      number = c.in-Passed.ensures.number ∙ before.number;
      goes_on = c.in-Passed.ensures.goes_on ∙ before.goes_on;
      passed = passed_more c.args.log.now c.args.scanner.now c.loop-unread.scanner c.step.new.scanner before.passed c.in-Passed.ensures.found c.in-Passed.ensures.is_at;
    }

pub loop-unread-smaller : goal.loop-unread-smaller
loop-unread-smaller c =
    let forward = c.in-Passed.ensures.forward in omega (arith, forward.0, forward.1)

pub returns-in-Record-clause-found : goal.returns-in-Record-clause-found
returns-in-Record-clause-found c =
    let before = c.loop-unread.invariant in
    finds_next c.args.log.now c.args.scanner.now c.loop-unread.scanner c.step.new.scanner c.in-Record.unread c.in-Record.start c.in-Record.end before.number before.goes_on before.passed
    c.in-Record.ensures.found c.in-Record.ensures.is_at

pub returns-in-End-clause-found : goal.returns-in-End-clause-found
returns-in-End-clause-found c =
    let before = c.loop-unread.invariant in
    ends_scan c.args.log.now c.args.scanner.now c.loop-unread.scanner c.step.new.scanner c.in-End.at c.in-End.why before.number before.goes_on before.passed c.in-End.ensures.found
