use Rattle.std.proofs.Common.{◌∷◌}
use Rattle.line_rule.proofs.Handings.{hands_joined, cut_log, joined_newest, served_oldest, told_apart, told_last, told_dropped, own_stage, walked_is, queue_coded}
use Rattle.line_rule.proofs.Owed.{owing_seen}
use Rattle.line_rule.proofs.second_law.handing_on.Goals as goal

pub returns-clause-cut : goal.returns-clause-cut
returns-clause-cut g a z s id c stage lead back r (mine, sees) is = cut_log _ z.clients s r id c stage mine back sees lead is

pub returns-clause-hands : goal.returns-clause-hands
returns-clause-hands g a last back seen now h = hands_joined last back seen now h

pub returns-clause-joined : goal.returns-clause-joined
returns-clause-joined g a z s id c stage back squad r (mine, sees) piped is = joined_newest _ z.clients s r id c stage mine back sees squad piped is

pub returns-clause-served : goal.returns-clause-served
returns-clause-served g a z s id c stage back squad r (mine, sees) is = served_oldest _ z.clients s r id c stage mine back sees squad is

pub returns-clause-told : goal.returns-clause-told
returns-clause-told g a z s id c d member r (mine, sees) (others, owed) =
    let t = told_apart _ z.clients s r id c mine member others d.own d.reply (owing_seen s id d (member ∷ others) owed c mine _ sees) in (t.0, (t.1, t.2))

pub returns-clause-told_last : goal.returns-clause-told_last
returns-clause-told_last g a z s id c own p r (mine, sees) =
    let t = told_last _ z.clients s r id c mine own p sees in (t.0, (t.1, t.2))

pub returns-clause-own : goal.returns-clause-own
returns-clause-own g a z s id c stage back r (mine, sees) = own_stage _ z.clients s r id c stage mine back sees

pub returns-clause-walked : goal.returns-clause-walked
returns-clause-walked g a z s r = walked_is _ z.clients s r

pub returns-clause-coded : goal.returns-clause-coded
returns-clause-coded g a z s r = queue_coded _ z.clients s r

pub returns-clause-dropped : goal.returns-clause-dropped
returns-clause-dropped g a z s id c w lead x p back r (mine, sees) =
    let t = told_dropped _ z.clients s r id c mine w lead x p back sees in (t.0, (t.1, t.2))
