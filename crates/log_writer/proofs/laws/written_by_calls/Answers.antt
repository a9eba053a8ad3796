use Rattle.log_writer.specs.Written.{no_call, one_more, read}
use Rattle.log_writer.proofs.Standing.{stands_so, text_over}
use Rattle.log_writer.proofs.Surviving.{caused}
use Rattle.log_writer.proofs.laws.written_by_calls.Goals as goal

pub returns : goal.returns
returns g c = record {
  no_call = λ b disk log begun. record { begun = log; has_begun = begun; wrote = no_call };
  one_more = λ b disk calls call now new is adds. record { begun = is.begun; has_begun = is.has_begun; wrote = one_more call is.wrote adds };
  read = λ b disk calls now new is was_read. record { begun = is.begun; has_begun = is.has_begun; wrote = read is.wrote was_read };
  stands = λ b disk calls log is. stands_so g.met.D.Disk.is_disk b disk calls log is;
  content = λ b disk calls begun log has wrote none. text_over g.met.D.Disk.is_disk b disk begun calls log has wrote none;
  cause = λ b disk calls log is. caused (record { is_disk = g.met.D.Disk.is_disk; only_now = g.met.D.Disk.only_now }) b disk calls log is;
}
