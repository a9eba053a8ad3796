use Rattle.std.proofs.Common.{◌≡◌, length, Option, IfSome, subst, ◌∙◌, arith, List, ℕ}
use Rattle.log_block.specs.declared.fragments.Seen.TheVariants as seen
use Rattle.log_reader.specs.Windows.{IsOn, offset_of, SeesNext, bytes_of}
use Rattle.log_reader.proofs.FromDisk.{if_one, if_both}
use Rattle.log_reader.proofs.Looking.{Stands, filled, seen_from, not_end, goes_on, length-bytes, lies}
use Rattle.log_reader.proofs.window.Window.look.Goals as goal

pub loop-self-preserved : goal.loop-self-preserved
loop-self-preserved g c =
    let number = c.args.number in
    let old = c.args.self.now in
    let mid = c.loop-self.self in
    let w = c.fill.new.self in
    let ok = c.in_ok-fill.ensures in
    let told = g.R.ReadAt.held c.args.disk.now in
    let read = ok.read in
    let on = if_both told (Stands number old mid) (λ d. IsOn d mid → IsOn d w) (Stands number old w) c.loop-self.invariant.on
    (subst (λ (t : Option (List ℕ)). IfSome t (λ d. IsOn d mid → IsOn d w)) (g.met.R.ReadAt.reads_keep _ _ c.loop-self.invariant.disk) ok.on)
    (λ d stands fills. filled number d old mid w ok.start ok.at stands fills) in
    let full : length (bytes_of w) ≡ 32768 = omega (arith, length-bytes w ok.sound, ok.sound.in_room, c.if-self-lt-BLOCK_LEN.false) in
    record {
      sound = c.go_on.ensures.sound;
      on = if_one told (Stands number old w) (Stands number old c.go_on.new.self) on
          (λ d stands. goes_on number d old w c.go_on.new.self read full c.go_on.ensures.begins c.go_on.ensures.on stands
          (seen_from number d old w c.deref.result.now seen.End c.deref.ensures.value read stands c.in-End.ensures.seen));
      forward = omega (arith, c.loop-self.invariant.forward, c.go_on.ensures.begins, ok.start, ok.at, ok.sound.inside, ok.sound.in_room);
      worked = ok.worked ∙ c.loop-self.invariant.worked;
      disk = g.met.R.ReadAt.reads_on _ _ _ c.loop-self.invariant.disk ok.disk;
    }

pub returns-in_default : goal.returns-in_default
returns-in_default g c =
    let number = c.args.number in
    let old = c.args.self.now in
    let mid = c.loop-self.self in
    let w = c.fill.new.self in
    let ok = c.in_ok-fill.ensures in
    let told = g.R.ReadAt.held c.args.disk.now in
    let read = ok.read in
    let on = if_both told (Stands number old mid) (λ d. IsOn d mid → IsOn d w) (Stands number old w) c.loop-self.invariant.on
    (subst (λ (t : Option (List ℕ)). IfSome t (λ d. IsOn d mid → IsOn d w)) (g.met.R.ReadAt.reads_keep _ _ c.loop-self.invariant.disk) ok.on)
    (λ d stands fills. filled number d old mid w ok.start ok.at stands fills) in
    record {
      sound = ok.sound;
      seen = if_one told (Stands number old w) (λ d. IsOn d old → SeesNext number d (offset_of old) w c.see.result) on
          (λ d stands begins. not_end number d (offset_of old) w.start (bytes_of w) w.at c.see.result c.in_default.not-End
          (seen_from number d old w c.deref.result.now c.see.result c.deref.ensures.value read stands c.see.ensures.seen begins));
      on = if_one told (Stands number old w) (λ d. IsOn d old → IsOn d w) on (λ d stands begins. (stands begins).0);
      part = lies w c.deref.result.now c.see.result ok.sound c.deref.ensures.value c.see.ensures.lies;
      forward = omega (arith, c.loop-self.invariant.forward, ok.start, ok.at);
      worked = ok.worked ∙ c.loop-self.invariant.worked;
      fault = tt;
      disk = g.met.R.ReadAt.reads_on _ _ _ c.loop-self.invariant.disk ok.disk;
    }
