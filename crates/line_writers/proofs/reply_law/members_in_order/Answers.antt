use Rattle.line_writers.proofs.Members.{member_by_place}
use Rattle.line_writers.proofs.reply_law.members_in_order.Goals as goal

pub returns : goal.returns
returns g c n own p gs i d within lo small = member_by_place n own p gs i d within lo small
