use Rattle.std.proofs.Common.{◌∷◌, ◌++◌, refl}
use mathlib.Core.Option.{none, some}
use Rattle.line_rule.proofs.Settles.{cuts_as_is, wakes_on_is}
use Rattle.line_rule.proofs.Marks.{marks_is, frees_is, cuts_marked_is}
use Rattle.line_rule.proofs.Passes.{peeks_second_is, aims_second_is, joins_second_is, summons_is}
use Rattle.line_rule.proofs.Serves.{leaves_second_is, clears_second_is, calls_next_is, parallels_is}
use Rattle.line_rule.proofs.Owed.{owing}
use Rattle.line_rule.proofs.second_law.second_steps_and_events.Goals as goal

pub returns-clause-read_newest : goal.returns-clause-read_newest
returns-clause-read_newest g a z slots id me = peeks_second_is _ z.clients slots id me

pub returns-clause-cut_away : goal.returns-clause-cut_away
returns-clause-cut_away g a z slots id c me lead x from ((mine, at), all) (newer, walk) = cuts_as_is _ z.clients (some from) slots id me c _ _ lead mine newer x at walk refl refl all

pub returns-clause-mark : goal.returns-clause-mark
returns-clause-mark g a z slots id c member me lead from ((mine, at), all) is = marks_is _ z.clients from slots id me c member lead mine none at is all

pub returns-clause-wake : goal.returns-clause-wake
returns-clause-wake g a z slots id c me lead x back gs p client (mine, at) (more, (l, group, slot, stood, hands, own_group)) = wakes_on_is _ z.clients slots id me c _ lead x mine back gs p l more at group slot refl client stood hands own_group

pub returns-clause-free : goal.returns-clause-free
returns-clause-free g a z slots id c me lead back gs p (mine, at) (more, (l, group, slot, stood, hands, own_group)) = frees_is _ z.clients slots id me c lead mine back gs p l more none at group slot stood hands own_group

pub returns-clause-cut_behind_mark : goal.returns-clause-cut_behind_mark
returns-clause-cut_behind_mark g a z slots id c me lead back x (mine, at) (newer, walk) = cuts_marked_is _ z.clients slots id me c _ _ lead mine back newer x at walk refl refl

pub returns-clause-aim_second : goal.returns-clause-aim_second
returns-clause-aim_second g a z slots id c saw named me stage squad (mine, at) = aims_second_is _ z.clients slots id me c _ saw _ stage mine squad named at refl refl

pub returns-clause-join_second : goal.returns-clause-join_second
returns-clause-join_second g a z slots id c saw me lead squad to piped (stage, (mine, at), is_cut) from_is = joins_second_is _ z.clients to slots id me c saw _ stage lead mine squad none piped at is_cut from_is refl

pub returns-clause-summon : goal.returns-clause-summon
returns-clause-summon g a z slots id c me d squad piped (mine, at) = summons_is _ z.clients slots id me c _ d mine squad piped at refl

pub returns-clause-make_parallel : goal.returns-clause-make_parallel
returns-clause-make_parallel g a z slots id c me member d squad (walk, (mine, at)) (newer, older, owed) small = parallels_is _ z.clients slots id me c _ newer older member d.own d.reply mine squad walk (owing d (newer ++ member ∷ older) owed c mine _ me at) refl small

pub returns-clause-leave_second : goal.returns-clause-leave_second
returns-clause-leave_second g a z slots id c member me d squad piped (walk, (mine, at)) (k, right, (more, slot), is_last, stood) is = leaves_second_is _ z.clients slots id me c member k d mine squad walk right more none piped at slot is_last is stood

pub returns-clause-clear_second : goal.returns-clause-clear_second
returns-clause-clear_second g a z slots id c me d squad x piped (walk, (mine, at), (newer, is_walk)) = clears_second_is _ z.clients slots id me c _ _ d mine squad walk newer x piped at is_walk refl refl

pub returns-clause-call_next : goal.returns-clause-call_next
returns-clause-call_next g a z slots id c me stage squad x (mine, at) (k, right, (more, slot), is_last, stood) = calls_next_is _ z.clients slots id me c _ k stage mine squad x right more at slot is_last refl stood
