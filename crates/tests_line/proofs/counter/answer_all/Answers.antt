use Rattle.std.proofs.Common.{ap, ◌∙◌, arith}
use Rattle.line_writers.specs.Roles.{firsts}
use Rattle.tests_line.proofs.Replies.{more_firsts}
use Rattle.tests_line.proofs.counter.answer_all.Goals as goal

pub loop-i-preserved : goal.loop-i-preserved
loop-i-preserved c =
    let v = c.loop-i.invariant in let p = c.push_reserved.ensures in
    record {
      so_far = ap firsts p.items ∙ more_firsts _ _ c.loop-i.i _ _ v.so_far (omega arith) c.index.ensures;
      len = (let a = v.len in let b = p.len in omega arith);
      same = v.same;
      room = p.capacity ∙ v.room;
    }
