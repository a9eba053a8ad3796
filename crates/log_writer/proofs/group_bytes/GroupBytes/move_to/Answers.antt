use Rattle.std.proofs.Common.{◌≡◌, ◌+◌, ◌-◌, ◌<◌, ◌++◌, ℕ, List, length, take, drop, ◌∙◌, ap, arith, length-append}
use Rattle.log_writer.specs.Groups.{bodies_of}
use Rattle.log_writer.proofs.Members.{next_member, moved_front, left_behind}
use Rattle.log_writer.proofs.group_bytes.GroupBytes.move_to.Goals as goal

pub loop-self-preserved : goal.loop-self-preserved
loop-self-preserved c =
    let front = c.loop-self.self-inside.front.now in
    let behind = c.loop-self.self-inside.behind.now in
    let at = c.loop-self.at in
    let part = c.loop-self.part in
    let left : ℕ = length part - at in
    let new = c.set_at.new.bytes in
    let same_len : length new ≡ length part = c.set_at.auto.bytes in
    let more : length front < left = c.loop-self-test.true in
    let left_is : length new - (at + length front) ≡ left - length front = omega (arith, same_len) in
    let next : List ℕ = c.body_of-self-inside.result.now ++ bodies_of (take (length behind - 1) (drop 1 behind)) in
    let same : next ≡ bodies_of behind =
    ap (λ (l : List ℕ). l ++ bodies_of (take (length behind - 1) (drop 1 behind))) c.body_of-self-inside.ensures ∙ next_member behind c.member-item.result c.in-len1-up.len_at_least c.member-item.is in
    record {
      within = omega (arith, c.loop-self.invariant.within, same_len, more);
      there = omega (arith, left_is, ap length same, length-append front (bodies_of behind), c.loop-self.invariant.there, more);
      moved = ap (λ (n : ℕ). take (at + length front) new ++ take n next) left_is
          ∙ (ap (λ (l : List ℕ). take (at + length front) new ++ take (left - length front) l) same
          ∙ (ap (λ (l : List ℕ). l ++ take (left - length front) (bodies_of behind)) c.set_at.ensures.there ∙ moved_front (take at part) front (bodies_of behind) _ left more c.loop-self.invariant.moved));
      rest = ap (λ (n : ℕ). drop n next) left_is ∙ (ap (drop (left - length front)) same ∙ left_behind front (bodies_of behind) _ left more c.loop-self.invariant.rest);
    }
