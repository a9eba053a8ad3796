use Rattle.log_writer.specs.Words.{disk_of}
use Rattle.run_outcome.specs.Running.{beginning_of}
use Rattle.run_execution.proofs.Openings.{begins_as}
use Rattle.run_execution.proofs.RunEnds.{is_end, went_on}
use Rattle.run_execution.proofs.laws.runs_leave_safe_logs.Goals as goal

pub returns : goal.returns
returns g c =
    let begin = c.beginnings.ensures in
    let written = c.written_by_calls.ensures in
    let crashes = c.crashes_between_calls.ensures in
    record {
      ends = λ disk opened options start mode before script ran end goes accepted in_range has_opened few bounded families comes told.
          let b = beginning_of start before in
          let begun = begins_as begin.opened begin.reused begin.resumed start before disk opened goes has_opened in
          is_end start before disk opened options script goes has_opened begun few bounded families c.an_image_of_the_file.ensures.recovered (λ calls log by. written.stands b disk calls log by) (λ calls old log has_begun by none. written.content b disk calls old log has_begun by none)
          (λ calls log by. crashes.held b disk calls log by) (λ first later old new by. crashes.begins b first later old new by) mode accepted in_range (g.met.D.Disk.only_now disk) (g.met.D.Disk.counts_now (disk_of opened)) ran comes end told;
      time = λ opened options map script counted kept ran comes. went_on opened options map script counted kept ran comes;
    }
