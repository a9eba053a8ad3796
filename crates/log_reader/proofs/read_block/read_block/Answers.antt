use Rattle.std.proofs.Common.{◌≡◌, ◌+◌, ◌-◌, ◌≤◌, length, drop, Option, IfSome, ◌∙◌, subst, arith, length-take, length-drop, List, ℕ}
use Rattle.log_reader.proofs.FromDisk.{if_both, if_one, Before, Gives, read_more, read_none, read_whole, read_to_end, length-put}
use borrow.Rule.Slice.PartMut.{put_mid}
use Rattle.log_reader.proofs.read_block.read_block.Goals as goal

pub loop-len-preserved : goal.loop-len-preserved
loop-len-preserved g c =
    let at = c.loop-len.len in
    let more = c.in-Ok.more in
    let block = c.loop-len.block in
    let buf = c.read_at.new.buf in
    let start = c.args.start in
    let inside = c.loop-len.invariant.in_block in
    let buf_len : length buf ≡ length block - at = omega (arith, c.read_at.auto.buf, length-take (length block - at) (drop at block), length-drop at block) in
    let some : more ≤ length buf = c.in-Ok.ensures.at_most in
    record {
      in_block = omega (arith, length-put block buf at inside buf_len, some, buf_len);
      bytes = if_both (g.R.ReadAt.held c.args.disk.now) (Before start at block) (Gives (start + at) more buf) _
          c.loop-len.invariant.bytes (subst (λ (told : Option (List ℕ)). IfSome told (Gives (start + at) more buf)) (g.met.R.ReadAt.reads_keep _ _ c.loop-len.invariant.disk) c.in-Ok.ensures.bytes)
          (λ d before read. read_more d block buf start at more inside buf_len before read);
      small = omega (arith, c.in-Ok.ensures.small, c.if-more-eq0.false);
      worked = c.in-Ok.ensures.cause.worked ∙ c.loop-len.invariant.worked;
      disk = g.met.R.ReadAt.reads_on _ _ _ c.loop-len.invariant.disk
          c.in-Ok.ensures.only;
    }

pub returns-after-loop-len-clause-bytes : goal.returns-after-loop-len-clause-bytes
returns-after-loop-len-clause-bytes g c =
    let block = c.loop-len.block in
    let is : length block ≡ 32768 = c.loop-len.auto.block ∙ c.requires.room in
    if_one (g.R.ReadAt.held c.args.disk.now) (Before c.args.start c.loop-len.len block) _ c.loop-len.invariant.bytes
    (λ d read. read_whole d block c.args.start c.loop-len.len is c.loop-len-test.false c.loop-len.invariant.in_block read)

pub returns-then-more-eq0-clause-bytes : goal.returns-then-more-eq0-clause-bytes
returns-then-more-eq0-clause-bytes g c =
    let at = c.loop-len.len in
    let more = c.in-Ok.more in
    let block = c.loop-len.block in
    let buf = c.read_at.new.buf in
    let start = c.args.start in
    let inside = c.loop-len.invariant.in_block in
    let is : length block ≡ 32768 = c.loop-len.auto.block ∙ c.requires.room in
    let buf_len : length buf ≡ length block - at = omega (arith, c.read_at.auto.buf, length-take (length block - at) (drop at block), length-drop at block) in
    let put_len = length-put block buf at inside buf_len in
    if_both (g.R.ReadAt.held c.args.disk.now) (Before start at block) (Gives (start + at) more buf) _
    c.loop-len.invariant.bytes (subst (λ (told : Option (List ℕ)). IfSome told (Gives (start + at) more buf)) (g.met.R.ReadAt.reads_keep _ _ c.loop-len.invariant.disk) c.in-Ok.ensures.bytes)
    (λ d before read. read_to_end d (put_mid at (length block - at) block buf) start at more (length buf) (omega (arith, buf_len, put_len)) (put_len ∙ is) (omega (arith, put_len, c.loop-len-test.true)) c.if-more-eq0.true read.0
    (read_none d block buf start at more inside buf_len c.if-more-eq0.true before read))
