use Rattle.std.proofs.Common.{◌≡◌, ◌<◌, length, get_or, sym, ap, ◌∙◌, subst, arith}
use Rattle.line_writers.specs.Roles.{IsMember, AreMembers}
use Rattle.tests_line_stages.proofs.Replies.{are_more}
use Rattle.tests_line_stages.proofs.tests.leading.note_members.Goals as goal

pub loop-i-preserved : goal.loop-i-preserved
loop-i-preserved c =
    let v = c.loop-i.invariant in let put = c.push_reserved.ensures in let got = c.index.result.now in
    record {
      len = (let a = v.len in let b = put.len in omega arith);
      room = put.capacity ∙ v.room;
      members = λ n own p gs is within.
          let small : c.loop-i.i < length c.args.replies.now.list.items = omega arith in
          let lo : 0 < c.loop-i.i = (let a = v.len in omega arith) in
          let at = c.members_in_order.ensures n own p gs c.loop-i.i got within lo (subst (λ l. c.loop-i.i < length l) is small) in
          let same : got ≡ get_or _ c.loop-i.i got = c.index.ensures ∙ ap (λ l. get_or l c.loop-i.i got) is in
          subst (λ l. AreMembers n l gs) (sym put.items) (are_more n c.loop-i.members.items got.0 gs (v.members n own p gs is within) (subst (λ x. IsMember n x.0 gs) (sym same) at));
    }
