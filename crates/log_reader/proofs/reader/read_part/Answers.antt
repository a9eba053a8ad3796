use Rattle.std.proofs.Common.{◌+◌, ℕ, length, Option, IfSome, sym, ◌∙◌, ap, subst, List}
use Rattle.model_base.specs.declared.log.EndReason.TheVariants as ends
use Rattle.model_base.specs.Reading.{ReadingEnds}
use Rattle.log_block.specs.declared.fragments.Seen.{Seen}
use Rattle.log_block.specs.declared.fragments.Seen.TheVariants as seen
use Rattle.log_reader.specs.declared.window.Window.{Window}
use Rattle.log_reader.specs.Windows.{IsOn, SeesNext, offset_of, bytes_of}
use Rattle.log_reader.specs.Records.{Reads}
use Rattle.log_reader.specs.Steps.{HasFaultStep, end_of_reading}
use Rattle.log_reader.proofs.FromDisk.{if_one, if_both}
use Rattle.log_reader.proofs.OneMore.{ends_in_damage, ends_with_file}
use Rattle.log_reader.proofs.reader.read_part.Goals as goal

-- what the reader sees next, where the disk tells its content
abbrev Looks : Option ℕ → Window → Window → Seen → List ℕ → Type 0
Looks number old new s d = IsOn d old → SeesNext number d (offset_of old) new s

abbrev StaysOn : Window → Window → List ℕ → Type 0
StaysOn old new d = IsOn d old → IsOn d new

pub returns-in-Ok-Fragment-clause-step : goal.returns-in-Ok-Fragment-clause-step
returns-in-Ok-Fragment-clause-step g c =
    let number = c.args.number in
    let old = c.args.window.now in
    let mid = c.look.new.self in
    let f = c.in-Ok-Fragment in
    let sees : IfSome (g.R.ReadAt.held c.args.disk.now) (Looks number old mid (seen.Fragment f.kind f.start f.end)) = rw c.in-Ok-Fragment.field-0-is at c.in-Ok-Fragment.ensures.seen in
    if_both (g.R.ReadAt.held c.args.disk.now) (Looks number old mid (seen.Fragment f.kind f.start f.end)) (StaysOn old mid) _ sees c.in-Ok-Fragment.ensures.on
    (λ d looks stays place on stood. c.take_part.ensures.step d place (offset_of old) (stays on) stood (looks on))

pub returns-in-Ok-Fragment-clause-fault : goal.returns-in-Ok-Fragment-clause-fault
returns-in-Ok-Fragment-clause-fault g c =
    let before = g.R.ReadAt.failures c.args.disk.now in
    subst (λ (now : ℕ). HasFaultStep before now c.take_part.result) (sym c.in-Ok-Fragment.ensures.worked) (c.take_part.ensures.no_fault before)

pub returns-in-Ok-End-clause-step : goal.returns-in-Ok-End-clause-step
returns-in-Ok-End-clause-step g c =
    let number = c.args.number in
    let old = c.args.window.now in
    let mid = c.look.new.self in
    let sees : IfSome (g.R.ReadAt.held c.args.disk.now) (Looks number old mid seen.End) = rw c.in-Ok-End.field-0-is at c.in-Ok-End.ensures.seen in
    if_one (g.R.ReadAt.held c.args.disk.now) (Looks number old mid seen.End) _ sees
    (λ d looks place on stood. let ends_here = looks on in
    subst (Reads number d place c.args.in_hand.now.items) (sym (c.end_of_file.ensures ∙ ap (end_of_reading c.args.begun) c.end.ensures))
    (ends_with_file number d place (offset_of old) (mid.start + length (bytes_of mid)) c.args.begun c.args.in_hand.now.items c.args.in_hand.now.items stood ends_here.0 ends_here.1))

pub returns-in-Ok-Damage-clause-step : goal.returns-in-Ok-Damage-clause-step
returns-in-Ok-Damage-clause-step g c =
    let number = c.args.number in
    let old = c.args.window.now in
    let mid = c.look.new.self in
    let damage = c.in-Ok-Damage.damage in
    let sees : IfSome (g.R.ReadAt.held c.args.disk.now) (Looks number old mid (seen.Damage damage)) = rw c.in-Ok-Damage.field-0-is at c.in-Ok-Damage.ensures.seen in
    if_one (g.R.ReadAt.held c.args.disk.now) (Looks number old mid (seen.Damage damage)) _ sees
    (λ d looks place on stood. subst (λ (at : ℕ). ReadingEnds number d place at (ends.Broken damage)) (sym c.offset.ensures)
    (ends_in_damage number d place (offset_of old) (offset_of mid) damage c.args.begun c.args.in_hand.now.items stood (looks on)))
