use Rattle.std.proofs.Common.{arith, length-take}
use Rattle.std.proofs.lemmas.Bool.{false≢true}
use Rattle.log_reader.specs.Windows.{bytes_of}
use Rattle.log_reader.proofs.InBlocks.{next_in_file}
use Rattle.log_reader.proofs.window.Window.go_on.Goals as goal

pub returns-clause-on : goal.returns-clause-on
returns-clause-on c = λ file on.
    let w = c.args.self.now in
    record {
      in_file = next_in_file file (bytes_of w) w.start (on.block c.requires.read) (omega (arith, length-take w.len w.room.items, c.requires.sound.room, c.requires.full));
      block = λ wrong. absurd (false≢true wrong);
    }
