use Rattle.std.proofs.Common.{◌≡◌, ◌+◌, ◌<◌, ℕ, List, [], ◌∷◌, ◌++◌, map, length, vec_len, refl, sym, ◌∙◌, ap, subst, arith, append_assoc, append-nil, length-append}
use Rattle.std.proofs.lemmas.List.{map-append}
use Rattle.std.specs.List.{AllByRecursion}
use Rattle.log_writer.specs.Words.{disk_of}
use Rattle.log_writer.specs.SetOpening.{IsEmpty, IsNew}
use Rattle.log_writer.proofs.Calls.{all_more}
use Rattle.log_writer.proofs.SetOpening.{first_of, others_of}
use Rattle.log_writer.proofs.set_opening.begin_all.Goals as goal

moved_on : {A B : Type 0} (f : B → A) (all left rest : List A) (x : A) (logs more : List B) (log : B) → map f logs ++ left ≡ all → left ≡ x ∷ rest → more ≡ logs ++ log ∷ [] → f log ≡ x → map f more ++ rest ≡ all
moved_on {A = A} {B = B} f all left rest x logs more log so is more_is on =
    ap (λ (l : List B). map f l ++ rest) more_is ∙ (ap (λ (l : List A). l ++ rest) (map-append f logs (log ∷ [])) ∙ (append_assoc (map f logs) (f log ∷ []) rest
    ∙ (ap (λ (y : A). map f logs ++ y ∷ rest) on ∙ (ap (λ (l : List A). map f logs ++ l) (sym is) ∙ so))))

one_over : {A B : Type 0} (all : ℕ) (left rest : List A) (x : A) (logs more : List B) (log : B) → length logs + length left ≡ all → left ≡ x ∷ rest → more ≡ logs ++ log ∷ [] → length more + length rest ≡ all
one_over all left rest x logs more log many is more_is = omega (arith, many, ap length is, ap length more_is, length-append logs (log ∷ []))

some_left : {A B : Type 0} (left rest : List A) (x : A) (blocks : List B) → length blocks ≡ length left → left ≡ x ∷ rest → 0 < length blocks
some_left left rest x blocks count is = omega (arith, count, ap length is)

pub remove-requires : goal.remove-requires
remove-requires g c =
    let v = c.loop-disk.invariant in
    let some = some_left c.loop-disk.disks.items c.take_first.new.items.items c.in-Some.disk c.loop-disk.blocks.items v.count c.in-Some.ensures.first in
    omega (arith, some, c.loop-disk.blocks.ok.0)

pub on-requires-clause-block : goal.on-requires-clause-block
on-requires-clause-block g c =
    let v = c.loop-disk.invariant in
    let some = some_left c.loop-disk.disks.items c.take_first.new.items.items c.in-Some.disk c.loop-disk.blocks.items v.count c.in-Some.ensures.first in
    first_of (λ block. vec_len block ≡ 32768) c.loop-disk.blocks.items c.remove.result v.whole some c.remove.ensures.value

pub on-requires-clause-empty : goal.on-requires-clause-empty
on-requires-clause-empty g c = (subst (λ (l : List _). AllByRecursion (IsEmpty g.D.Disk) l) c.in-Some.ensures.first c.loop-disk.invariant.empty).0

pub push_reserved-requires : goal.push_reserved-requires
push_reserved-requires g c =
    let v = c.loop-disk.invariant in
    let was = ap length c.in-Some.ensures.first in
    omega (arith, v.many, v.capacity, was, c.requires.room, c.loop-disk.logs.ok.0)

pub loop-disk-init : goal.loop-disk-init
loop-disk-init g c =
    let none = c.requires.none in
    record {
      disks = ap (λ l. map disk_of l ++ c.args.disks.now.items) none;
      new = subst (λ l. AllByRecursion IsNew l) (sym none) tt;
      many = let n = ap length none in omega (arith, n);
      count = c.requires.count;
      whole = c.requires.whole;
      empty = c.requires.empty;
      room = refl;
      capacity = refl;
    }

pub loop-disk-smaller : goal.loop-disk-smaller
loop-disk-smaller g c = let was = ap length c.in-Some.ensures.first in omega (arith, was)

pub loop-disk-preserved : goal.loop-disk-preserved
loop-disk-preserved g c =
    let v = c.loop-disk.invariant in
    let all = c.args.disks.now.items in
    let left = c.loop-disk.disks.items in
    let rest = c.take_first.new.items.items in
    let is = c.in-Some.ensures.first in
    let logs = c.loop-disk.logs.items in
    let more = c.push_reserved.new.self.items in
    let log = c.on.result in
    let put = c.push_reserved.ensures in
    record {
      disks = moved_on disk_of all left rest c.in-Some.disk logs more log v.disks is put.items c.on.ensures.disk;
      new = subst (λ l. AllByRecursion IsNew l) (sym put.items) (all_more IsNew logs log v.new c.on.ensures.new);
      many = one_over (length all) left rest c.in-Some.disk logs more log v.many is put.items;
      count = let was = ap length is in omega (arith, v.count, was, c.remove.ensures.len, c.remove.new.self.ok.0, c.loop-disk.blocks.ok.0);
      whole = others_of (λ block. vec_len block ≡ 32768) c.loop-disk.blocks.items c.remove.new.self.items v.whole c.remove.ensures.items;
      empty = (subst (λ (l : List _). AllByRecursion (IsEmpty g.D.Disk) l) is v.empty).1;
      room = c.take_first.ensures.room ∙ v.room;
      capacity = put.capacity ∙ v.capacity;
    }

pub returns : goal.returns
returns g c =
    let v = c.loop-disk.invariant in
    let none = c.in_default.ensures.first.0 in
    let all = c.args.disks.now.items in
    record {
      disks = sym (append-nil (map disk_of c.loop-disk.logs.items)) ∙ (ap (λ l. map disk_of c.loop-disk.logs.items ++ l) (sym none) ∙ v.disks);
      new = v.new;
      len = let n = ap length none in omega (arith, v.many, n);
      moved = c.in_default.ensures.first.1;
      room = c.take_first.ensures.room ∙ v.room;
      capacity = v.capacity;
    }
