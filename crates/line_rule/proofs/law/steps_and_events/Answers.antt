use Rattle.std.proofs.Common.{◌∷◌, refl}
use Rattle.line_rule.proofs.Enters.{begins_is, aims_is, peeks_is, enters_is, rests_is}
use Rattle.line_rule.proofs.Looks.{looks_is, looks_beside_is}
use Rattle.line_rule.proofs.Leads.{reads_is, traces_is, fetches_is}
use Rattle.line_rule.proofs.Leaves.{leaves_is}
use Rattle.line_rule.proofs.Settles.{cuts_is, wakes_is, tells_is, retires_is}
use mathlib.Core.Option.{none}
use Rattle.line_rule.proofs.Owed.{owing}
use Rattle.line_rule.proofs.law.steps_and_events.Goals as goal

pub returns-clause-begin : goal.returns-clause-begin
returns-clause-begin g a z slots id c me (mine, at) nil = begins_is _ z.clients slots id me c _ mine refl at nil

pub returns-clause-read_newest : goal.returns-clause-read_newest
returns-clause-read_newest g a z slots id me = peeks_is _ z.clients slots id me

pub returns-clause-name_older : goal.returns-clause-name_older
returns-clause-name_older g a z slots id c w new me (mine, at) = aims_is _ z.clients slots id me c _ w new mine refl at

pub returns-clause-link : goal.returns-clause-link
returns-clause-link g a z slots id c saw code me q (mine, at) slot asked unmarked = enters_is _ z.clients slots id me c _ saw code q mine none refl at slot asked unmarked

pub returns-clause-read_state : goal.returns-clause-read_state
returns-clause-read_state g a z slots id c me q past (mine, at) nil = looks_is _ z.clients slots id me c _ q past mine refl at nil

pub returns-clause-read_reply : goal.returns-clause-read_reply
returns-clause-read_reply g a z slots id c me q (mine, at) nil = looks_beside_is _ z.clients slots id me c _ q mine refl at nil

pub returns-clause-rest : goal.returns-clause-rest
returns-clause-rest g a z slots id word c me (mine, at) slot = rests_is _ z.clients slots id me c word mine at slot

pub returns-clause-build : goal.returns-clause-build
returns-clause-build g a z slots id c me own seen (mine, at) = reads_is _ z.clients slots id me c own seen mine at

pub returns-clause-read_older : goal.returns-clause-read_older
returns-clause-read_older g a z slots id word me = traces_is _ z.clients slots id me word

pub returns-clause-fetch : goal.returns-clause-fetch
returns-clause-fetch g a z slots id c me lead x (mine, at) (newer, walk) = fetches_is _ z.clients slots id me c _ lead mine newer x at walk refl

pub returns-clause-leave : goal.returns-clause-leave
returns-clause-leave g a z slots id c member me lead gs p ((mine, at), all) (l, group, slot, stood, hands, own_group) is = leaves_is _ z.clients slots id me c member lead mine gs p l none at group slot is all stood hands

pub returns-clause-cut_off : goal.returns-clause-cut_off
returns-clause-cut_off g a z slots id c me lead x ((mine, at), all) (newer, walk) = cuts_is _ z.clients slots id me c _ _ lead mine newer x at walk refl refl all

pub returns-clause-wake : goal.returns-clause-wake
returns-clause-wake g a z slots id c me lead x gs p (mine, at) client (l, group, slot, stood, hands, own_group) = wakes_is _ z.clients slots id me c _ lead x mine gs p l at group slot refl client stood hands

pub returns-clause-complete : goal.returns-clause-complete
returns-clause-complete g a z slots id c me d member (mine, at) (others, owed) (more, slot) client = tells_is _ z.clients slots id me c _ member others d.own d.reply mine more (owing d (member ∷ others) owed c mine _ me at) slot refl client

pub returns-clause-retire : goal.returns-clause-retire
returns-clause-retire g a z slots id c me own p (mine, at) slot = retires_is _ z.clients slots id me c _ own p mine at slot refl
