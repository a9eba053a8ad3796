use Rattle.std.proofs.Common.{◌≡◌, ◌+◌, ◌-◌, ◌≤◌, length, take, drop, IfSome, ◌∙◌, subst, arith, length-take, length-drop, List, ℕ, Option}
use borrow.Rule.Slice.PartMut.{put_mid}
use Rattle.log_reader.proofs.FromDisk.{if_both, if_one, Gives, read_more, read_none, length-put}
use Rattle.log_scan.proofs.Reading.{front_whole, front_to_end}
use Rattle.log_scan.proofs.front.read_front.Goals as goal

-- what the buffer has so far, where the disk tells its content
abbrev Has : ℕ → ℕ → List ℕ → List ℕ → Type 0
Has at len buffer d = (len ≤ length (drop at d)) × (take len buffer ≡ take len (drop at d))

pub loop-len-preserved : goal.loop-len-preserved
loop-len-preserved g c =
    let len = c.loop-len.len in
    let more = c.in-Ok.more in
    let buffer = c.loop-len.buffer in
    let buf = c.read_at.new.buf in
    let at = c.args.at in
    let inside = c.loop-len.invariant.in_buffer in
    let buf_len : length buf ≡ length buffer - len = omega (arith, c.read_at.auto.buf, length-take (length buffer - len) (drop len buffer), length-drop len buffer) in
    let some : more ≤ length buf = c.in-Ok.ensures.at_most in
    record {
      in_buffer = omega (arith, length-put buffer buf len inside buf_len, some, buf_len);
      bytes = if_both (g.R.ReadAt.held c.args.disk.now) (Has at len buffer) (Gives (at + len) more buf) _
          c.loop-len.invariant.bytes (subst (λ (told : Option (List ℕ)). IfSome told (Gives (at + len) more buf)) (g.met.R.ReadAt.reads_keep _ _ c.loop-len.invariant.disk) c.in-Ok.ensures.bytes)
          (λ d before read. (omega (arith, before.0, read.0, length-drop at d, buf_len), read_more d buffer buf at len more inside buf_len before.1 read));
      small = λ _. omega (arith, c.in-Ok.ensures.small, c.if-more-eq0.false);
      worked = c.in-Ok.ensures.cause.worked ∙ c.loop-len.invariant.worked;
      disk = g.met.R.ReadAt.reads_on _ _ _ c.loop-len.invariant.disk c.in-Ok.ensures.only;
    }

pub returns-after-loop-len-clause-bytes : goal.returns-after-loop-len-clause-bytes
returns-after-loop-len-clause-bytes g c =
    if_one (g.R.ReadAt.held c.args.disk.now) (Has c.args.at c.loop-len.len c.loop-len.buffer) _ c.loop-len.invariant.bytes
    (λ d read. front_whole d c.loop-len.buffer c.args.at c.loop-len.len (omega (arith, c.loop-len-test.false, c.loop-len.invariant.in_buffer)) read.0 read.1)

pub returns-then-more-eq0-clause-bytes : goal.returns-then-more-eq0-clause-bytes
returns-then-more-eq0-clause-bytes g c =
    let len = c.loop-len.len in
    let more = c.in-Ok.more in
    let buffer = c.loop-len.buffer in
    let buf = c.read_at.new.buf in
    let at = c.args.at in
    let inside = c.loop-len.invariant.in_buffer in
    let buf_len : length buf ≡ length buffer - len = omega (arith, c.read_at.auto.buf, length-take (length buffer - len) (drop len buffer), length-drop len buffer) in
    let put_len = length-put buffer buf len inside buf_len in
    if_both (g.R.ReadAt.held c.args.disk.now) (Has at len buffer) (Gives (at + len) more buf) _
    c.loop-len.invariant.bytes (subst (λ (told : Option (List ℕ)). IfSome told (Gives (at + len) more buf)) (g.met.R.ReadAt.reads_keep _ _ c.loop-len.invariant.disk) c.in-Ok.ensures.bytes)
    (λ d before read. front_to_end d (put_mid len (length buffer - len) buffer buf) at len more (length buf) (omega (arith, buf_len, put_len)) (omega (arith, put_len, c.loop-len-test.true)) c.if-more-eq0.true read.0 before.0
    (read_none d buffer buf at len more inside buf_len c.if-more-eq0.true before.1 read))
