use Rattle.std.proofs.Common.{◌≡◌, ◌+◌, ℕ, List, [], ◌∷◌, ◌++◌, length, Result, Ok, Err, refl, sym, ◌∙◌, ap, subst, arith, length-append}
use Rattle.log_writer.specs.declared.errors.OpenError.{OpenError}
use Rattle.base_devices.specs.Faults.{count_in_all}
use Rattle.log_writer.specs.SetOpening.{with_count, IsSetOpenError}
use Rattle.log_writer.proofs.SetOpening.{IsSoFar, starts_so, goes_on, all_looked_at, all_found, not_opened}
use Rattle.log_writer.proofs.set_opening.look_at_all.Goals as goal

-- Numbers. A tactic reads all that is known where it is called, so these are apart from the goals that use them.

one_over : {A : Type 0} (all : ℕ) (left rest looked more : List A) (old new : A) → length looked + length left ≡ all → left ≡ old ∷ rest → more ≡ looked ++ new ∷ [] → length more + length rest ≡ all
one_over all left rest looked more old new many is more_is = omega (arith, many, ap length is, ap length more_is, length-append looked (new ∷ []))

pub loop-disk-init : goal.loop-disk-init
loop-disk-init g c = record {
  so_far = starts_so g.D.Disk c.args.disks.items c.args.looked.now.items c.requires.none;
  many = let none = ap length c.requires.none in omega (arith, none);
  fits = c.requires.room;
  room = refl;
}

pub push_reserved-requires : goal.push_reserved-requires
push_reserved-requires g c =
    let v = c.loop-disk.invariant in
    let was = ap length c.in-Some.ensures.first in
    omega (arith, v.many, v.fits, was, c.loop-disk.looked.ok.0)

pub loop-disk-smaller : goal.loop-disk-smaller
loop-disk-smaller g c = let was = ap length c.in-Some.ensures.first in omega (arith, was)

pub loop-disk-preserved : goal.loop-disk-preserved
loop-disk-preserved g c =
    let v = c.loop-disk.invariant in
    let left = c.loop-disk.disks.items in
    let rest = c.take_first.new.items.items in
    let looked = c.loop-disk.looked.items in
    let more = c.push_reserved.new.self.items in
    let old = c.in-Some.disk in
    let new = c.look_on-found.new.disk in
    let e = c.look_on-found.ensures in
    record {
      so_far = goes_on g.D.Disk c.args.disks.items left rest looked more old new c.loop-disk.found c.look_on-found.result v.so_far c.in-Some.ensures.first c.push_reserved.ensures.items e.looked_at e.empty e.no_fault e.found e.kept;
      many = one_over (length c.args.disks.items) left rest looked more old new v.many c.in-Some.ensures.first c.push_reserved.ensures.items;
      fits = omega (arith, v.fits, c.push_reserved.ensures.capacity);
      room = c.push_reserved.ensures.capacity ∙ v.room;
    }

pub returns-in-Ok : goal.returns-in-Ok
returns-in-Ok g c =
    let v = c.loop-disk.invariant in
    let all = c.args.disks.items in
    let left = c.loop-disk.disks.items in
    let looked = c.loop-disk.looked.items in
    let none = c.in_default.ensures.first.0 in
    let so = subst (λ (r : Result (Unit {0}) OpenError). IsSoFar g.D.Disk all left looked r) c.in-Ok.is v.so_far in
    let found = all_found g.D.Disk all left looked (Ok tt) so none in
    record {
      looked_at = all_looked_at g.D.Disk all left looked (Ok tt) so none;
      empty = found.0;
      counts = found.1;
      err = tt;
      len = let n = ap length none in omega (arith, v.many, n);
      room = v.room;
    }

pub returns-in-Err : goal.returns-in-Err
returns-in-Err g c =
    let v = c.loop-disk.invariant in
    let all = c.args.disks.items in
    let left = c.loop-disk.disks.items in
    let looked = c.loop-disk.looked.items in
    let none = c.in_default.ensures.first.0 in
    let why = c.in-Err.why in
    let so = subst (λ (r : Result (Unit {0}) OpenError). IsSoFar g.D.Disk all left looked r) c.in-Err.is v.so_far in
    let at = all_looked_at g.D.Disk all left looked (Err why) so none in
    let found = all_found g.D.Disk all left looked (Err why) so none in
    let count = count_in_all g.D.Disk.faults looked in
    let is = c.counted_in_all.ensures ∙ ap (λ (l : List _). with_count (count_in_all g.D.Disk.faults l) why) c.as_slice.ensures.value in
    record {
      looked_at = at;
      empty = tt;
      counts = tt;
      err = subst (λ (w : OpenError). IsSetOpenError g.D.Disk all looked w) (sym is) (not_opened g.D.Disk all looked why count at found refl);
      len = let n = ap length none in omega (arith, v.many, n);
      room = v.room;
    }
