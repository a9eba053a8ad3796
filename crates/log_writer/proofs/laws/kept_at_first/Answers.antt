use Rattle.std.proofs.Common.{◌≡◌, ◌∙◌, ℕ, List, [], Option, Some, length, take, refl}
use Rattle.base_devices.specs.Disk.{all_safe, rewound}
use Rattle.base_devices.specs.declared.disk.Disk.{Ghosts}
use Rattle.model_base.specs.Log.{Beginning, new_log}
use Rattle.model_base.specs.Recovery.{Logged}
use Rattle.log_writer.specs.declared.writer.LogWriter.{LogWriter}
use Rattle.log_writer.specs.Opening.{HasBegun}
use Rattle.log_writer.specs.ReadableLogs.{AreBatches, IsTextOf, IsTold, KeepsBatches}
use Rattle.log_writer.specs.Sets.{logs_of}
use Rattle.log_writer.specs.TellLaws.{opened_tell, tells_on}
use Rattle.log_writer.specs.Words.{disk_of}
use Rattle.log_writer.proofs.Beginning.{opened_begins, reused_begins, resumed_begins}
use Rattle.log_writer.proofs.Standing.{stands_first}
use Rattle.log_writer.proofs.laws.kept_at_first.Goals as goal

no_text : (number : Option ℕ) → IsTextOf number [] []
no_text number = record { groups = []; whole = tt; same = refl; fit = tt; spelled = refl }

keeps_first : {D : Type 0} {ghosts : Ghosts D} (b : Beginning) (disk : D) (log : LogWriter D ghosts) (batches : List Logged) → HasBegun b disk log → IsTextOf b.number b.kept batches → AreBatches batches → IsTold ghosts (disk_of log) → KeepsBatches log batches
keeps_first b disk log batches begun text are told = record { beginning = b; stands = stands_first b disk log begun; text = text; are_batches = are; told = told }

pub returns : goal.returns
returns g c = record {
  opened = λ disk log told has. keeps_first new_log disk log [] (opened_begins (record { is_disk = g.met.D.Disk.is_disk; only_now = g.met.D.Disk.only_now }) disk log has) (no_text new_log.number) tt (told.0, has.looked_at.same ∙ told.1);
  reused = λ disk n log told has. keeps_first (record { number = Some n; kept = [] }) disk log [] (reused_begins (record { is_disk = g.met.D.Disk.is_disk; only_now = g.met.D.Disk.only_now }) disk n log has) (no_text (Some n)) tt
      (tells_on (g.D.Disk.told disk) (g.D.Disk.told (disk_of log)) (λ before after. after ≡ rewound before) has.told told);
  resumed = λ disk b log batches told has kept text are. keeps_first b disk log batches (resumed_begins (record { is_disk = g.met.D.Disk.is_disk; only_now = g.met.D.Disk.only_now }) disk b log has kept) text are
      (tells_on (g.D.Disk.told disk) (g.D.Disk.told (disk_of log)) (λ before after. after ≡ all_safe (take (length b.kept) before.content)) has.told told);
  set = λ disks opened told has. record { none = refl; disks = disks; opened = has; told = opened_tell disks (logs_of opened) has.opened told };
}
