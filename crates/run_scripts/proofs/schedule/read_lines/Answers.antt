use Rattle.std.proofs.Common.{arith, sym, Ok, [], ◌==◌, option_copied}
use Rattle.std.specs.List.{slice_split}
use Rattle.model_core.specs.Schedule.{in_script}
use Rattle.run_scripts.specs.ScriptWords.{parts_of}
use Rattle.run_scripts.proofs.ScheduleReading.{fold_after_line-without_empty_end, first_fault}
use Rattle.run_scripts.proofs.schedule.read_lines.Goals as goal
use Rattle.run_scripts.specs.ReplayLanguage.{replay_grammar, event_words}

pub loop-rest-init : goal.loop-rest-init
loop-rest-init c = record {
  goes_on = rw c.new.ensures.items (sym (fold_after_line-without_empty_end replay_grammar event_words (Ok (in_script [])) 1 (slice_split (λ b. b == 10) c.args.text.now)));
  counted = omega arith;
  few = rw c.new.ensures.items (omega arith);
  small = rw c.new.ensures.items (omega arith);
  short = rw c.new.ensures.items tt;
}

pub returns-in-Err-clause-fault : goal.returns-in-Err-clause-fault
returns-in-Err-clause-fault c =
    let goes_on = rw c.split_once.ensures.parts at (rw c.in-Some.is at c.loop-rest.invariant.goes_on) in
    rw c.at_line.ensures (first_fault _ _ c.split_once.result.0.now (parts_of 10 (option_copied c.split_once.result.1)) _ c.in-Err.error c.in-Err.ensures.draft goes_on)
