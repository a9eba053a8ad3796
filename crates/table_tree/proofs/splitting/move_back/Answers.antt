-- An item goes from the end of what is left to the end of what was moved.
use Rattle.std.proofs.Common.{◌≡◌, ◌-◌, ◌<◌, List, [], ◌∷◌, ◌++◌, length, reverse, take, drop, refl, sym, ap, ◌∙◌, arith, append_assoc, length-append}
use Rattle.std.proofs.Math.Seq.{take-append_seam, drop-append_seam}
use Rattle.std.proofs.lemmas.List.{append-nil, reverse-append, length-reverse}
use Rattle.table_tree.proofs.splitting.move_back.Goals as goal

pub loop-from-init : goal.loop-from-init
loop-from-init g c =
    let keep = c.requires.keep in let ok = c.args.from.now.ok.0 in
    record {
      all = ap (λ (l : List g.row.T.Denot). c.args.from.now.items ++ reverse l) c.requires.empty ∙ append-nil c.args.from.now.items;
      kept = omega (arith, keep, ok);
      room = (refl, refl);
    }

pub push_reserved-requires : goal.push_reserved-requires
push_reserved-requires g c =
    let i = c.loop-from.invariant in
    let all = ap (λ (l : List g.row.T.Denot). length l) i.all in
    let parts = length-append c.loop-from.from.items (reverse c.loop-from.to.items) in
    let moved = length-reverse c.loop-from.to.items in
    let room = i.room.1 in let space = c.requires.room in let more = c.loop-from-test.true in let len = c.len.ensures in
    let a = c.args.from.now.ok.0 in let b = c.loop-from.from.ok.0 in let d = c.loop-from.to.ok.0 in
    omega (arith, all, parts, moved, room, space, more, len, a, b, d)

pub loop-from-smaller : goal.loop-from-smaller
loop-from-smaller g c =
    let popped = ap (λ (l : List g.row.T.Denot). length l) ((c.in-Some.ensures {u = tt}).items) in
    let parts = length-append c.pop.new.self.items (c.in-Some.item ∷ []) in
    let more = c.loop-from-test.true in let len = c.len.ensures in let b = c.loop-from.from.ok.0 in
    let less : length c.pop.new.self.items - c.args.keep < length c.loop-from.from.items - c.args.keep = omega (arith, popped, parts, more, len, b) in
    less

pub loop-from-preserved : goal.loop-from-preserved
loop-from-preserved g c =
    let i = c.loop-from.invariant in
    let left = c.pop.new.self.items in let x = c.in-Some.item in let moved = c.loop-from.to.items in
    let items : c.loop-from.from.items ≡ left ++ x ∷ [] = (c.in-Some.ensures {u = tt}).items in
    let popped = ap (λ (l : List g.row.T.Denot). length l) items in
    let parts = length-append left (x ∷ []) in
    let more = c.loop-from-test.true in let len = c.len.ensures in let b = c.loop-from.from.ok.0 in
    record {
      all =
          ap (λ (l : List g.row.T.Denot). left ++ reverse l) c.push_reserved.ensures.items
          ∙ ap (λ (l : List g.row.T.Denot). left ++ l) (reverse-append moved (x ∷ []))
          ∙ sym (append_assoc left (x ∷ []) (reverse moved))
          ∙ ap (λ (l : List g.row.T.Denot). l ++ reverse moved) (sym items) ∙ i.all;
      kept = omega (arith, popped, parts, more, len, b);
      room = (c.pop.ensures.capacity ∙ i.room.0, c.push_reserved.ensures.capacity ∙ i.room.1);
    }

pub returns-clause-kept : goal.returns-clause-kept
returns-clause-kept g c =
    let i = c.loop-from.invariant in
    let kept = i.kept in let done = c.loop-from-test.false in let len = c.len.ensures in let b = c.loop-from.from.ok.0 in
    let same : length c.loop-from.from.items ≡ c.args.keep = omega (arith, kept, done, len, b) in
    sym (take-append_seam c.loop-from.from.items (reverse c.loop-from.to.items))
    ∙ ap (λ (l : List g.row.T.Denot). take (length c.loop-from.from.items) l) i.all
    ∙ ap (λ n. take n c.args.from.now.items) same

pub returns-clause-moved : goal.returns-clause-moved
returns-clause-moved g c =
    let i = c.loop-from.invariant in
    let kept = i.kept in let done = c.loop-from-test.false in let len = c.len.ensures in let b = c.loop-from.from.ok.0 in
    let same : length c.loop-from.from.items ≡ c.args.keep = omega (arith, kept, done, len, b) in
    c.reverse.ensures.items
    ∙ sym (drop-append_seam c.loop-from.from.items (reverse c.loop-from.to.items))
    ∙ ap (λ (l : List g.row.T.Denot). drop (length c.loop-from.from.items) l) i.all
    ∙ ap (λ n. drop n c.args.from.now.items) same

pub returns-clause-capacity : goal.returns-clause-capacity
returns-clause-capacity g c = let i = c.loop-from.invariant in (i.room.0, c.reverse.ensures.capacity ∙ i.room.1)
