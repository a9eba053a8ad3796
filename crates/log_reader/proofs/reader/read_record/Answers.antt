use Rattle.std.proofs.Common.{ℕ, List, Option, Some, IfSome, ◌∙◌, subst, arith}
use Rattle.log_reader.specs.declared.window.Window.{Window}
use Rattle.log_reader.specs.Windows.{IsOn, offset_of}
use Rattle.log_reader.specs.Steps.{HasReadPart}
use Rattle.log_reader.proofs.FromDisk.{if_both}
use Rattle.log_reader.proofs.reader.read_record.Goals as goal

-- the first fragments of the record are read, from the first window's place up to another one's
abbrev Stood : Option ℕ → Window → Window → Option ℕ → List ℕ → List ℕ → Type 0
Stood number first w begun in_hand file = IsOn file first → IsOn file w × HasReadPart number file (offset_of first) begun in_hand (offset_of w)

-- what reading one more fragment does
abbrev Steps : Option ℕ → Window → Window → Option ℕ → Option ℕ → List ℕ → List ℕ → List ℕ → Type 0
Steps number old new begun begins in_hand now_in_hand file = (place : ℕ) → IsOn file old → HasReadPart number file place begun in_hand (offset_of old) → HasReadPart number file place begins now_in_hand (offset_of new)

abbrev StaysOn : Window → Window → List ℕ → Type 0
StaysOn old new file = IsOn file old → IsOn file new

pub loop-start-preserved : goal.loop-start-preserved
loop-start-preserved g c =
    let number = c.args.number in
    let first = c.args.window.now in
    let mid = c.loop-start.window in
    let new = c.read_part.new.window in
    let begun = c.loop-start.begun in
    let begins : Option ℕ = Some c.in-More.start in
    let had = c.loop-start.in_hand.items in
    let has = c.read_part.new.in_hand.items in
    let held = g.R.ReadAt.held c.args.disk.now in
    let old = c.loop-start.invariant in
    let now = c.in-More.ensures in
    let kept = g.met.R.ReadAt.reads_keep _ _ old.disk in
    let steps : IfSome held (Steps number mid new begun begins had has) = subst (λ (t : Option (List ℕ)). IfSome t (Steps number mid new begun begins had has)) kept now.step in
    let stays : IfSome held (StaysOn mid new) = subst (λ (t : Option (List ℕ)). IfSome t (StaysOn mid new)) kept now.on in
    let both = if_both held (Steps number mid new begun begins had has) (StaysOn mid new) (λ file. Steps number mid new begun begins had has file × StaysOn mid new file) steps stays (λ file s o. (s, o)) in
    record {
      sound = now.sound;
      stood = if_both held (Stood number first mid begun had) (λ file. Steps number mid new begun begins had has file × StaysOn mid new file) (Stood number first new begins has) old.stood both
          (λ file stood goes begin. let there = stood begin in (goes.1 there.0, goes.0 (offset_of first) there.0 there.1));
      forward = omega (arith, old.forward, now.moves);
      worked = now.fault ∙ old.worked;
      disk = g.met.R.ReadAt.reads_on _ _ _ old.disk now.disk;
    }
