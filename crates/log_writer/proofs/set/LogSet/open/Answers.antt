use Rattle.std.proofs.Common.{◌≡◌, ◌+◌, ◌<◌, ℕ, List, [], ◌∷◌, ◌++◌, length, map, vec_len, refl, sym, ◌∙◌, ap, subst, arith}
use Rattle.std.specs.List.{AllZip}
use Rattle.log_writer.specs.Words.{len_of}
use Rattle.log_writer.specs.Opening.{HasOpened}
use Rattle.log_writer.specs.SetOpening.{IsNew}
use Rattle.log_writer.proofs.SetOpening.{first_of, others_of, taken, no_memory, set_opened, new_fresh}
use Rattle.log_writer.proofs.set.LogSet.open.Goals as goal

pub returns-in_default-clause-err : goal.returns-in_default-clause-err
returns-in_default-clause-err g c = no_memory g.D.Disk c.args.disks.items

pub invariant_of-result : goal.invariant_of-result
invariant_of-result g c =
    let none = c.in-Ok.ensures.none in
    let empty = c.in-Ok.ensures.empty in
    let room = c.in-Ok.ensures.room in
    let logs = c.begin_all.new.logs.items in
    let new = c.begin_all.ensures.new in
    let rest = c.remove-current.new.self.items in
    let current = c.remove-current.result in
    let some : 0 < length logs = omega (arith, c.begin_all.ensures.len, c.look_at_all.ensures.len, c.requires.some) in
    let many : vec_len c.remove-current.new.self + 1 ≡ c.len.result =
    omega (arith, c.remove-current.ensures.len, c.begin_all.new.logs.ok.0, c.begin_all.ensures.len, c.look_at_all.ensures.len, c.args.disks.ok.0, c.len.ensures) in
    let first = first_of IsNew logs current new some c.remove-current.ensures.value in
    record {
      lens_are = c.push_reserved.ensures.items
          ∙ (ap (λ (l : List ℕ). l ++ 0 ∷ []) none.2 ∙ (ap (λ (n : ℕ). n ∷ []) (sym first.1) ∙ ap (λ l. map len_of l ++ len_of current ∷ []) (sym none.0)));
      alive = λ _. first.2;
      fresh = new_fresh rest (others_of IsNew logs rest new c.remove-current.ensures.items);
      full_room = omega (arith, many, empty.0, room.0);
      lens_room = omega (arith, many, empty.2, room.2, c.push_reserved.ensures.len, c.push_reserved.ensures.capacity);
      no_disks = c.begin_all.ensures.moved;
      disks_room = omega (arith, many, empty.0, room.3, c.begin_all.ensures.room, c.look_at_all.ensures.room);
    }

pub returns-clause-ok : goal.returns-clause-ok
returns-clause-ok g c =
    let none = c.in-Ok.ensures.none in
    let disks = c.args.disks.items in
    let looked = c.look_at_all.new.looked.items in
    let logs = c.begin_all.new.logs.items in
    let rest = c.remove-current.new.self.items in
    let current = c.remove-current.result in
    let some : 0 < length logs = omega (arith, c.begin_all.ensures.len, c.look_at_all.ensures.len, c.requires.some) in
    let all = set_opened disks looked logs c.look_at_all.ensures.looked_at c.in_default-look_at_all.ensures.empty c.in_default-look_at_all.ensures.counts c.begin_all.ensures.disks c.begin_all.ensures.new in
    let apart = subst (λ l. AllZip HasOpened disks l) (taken logs rest current some c.remove-current.ensures.value c.remove-current.ensures.items) all in
    record {
      none_full = none.0;
      opened = subst (λ l. AllZip HasOpened disks (l ++ current ∷ rest)) (sym none.0) apart;
      fault = refl;
    }
