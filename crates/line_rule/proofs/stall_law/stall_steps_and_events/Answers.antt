use Rattle.std.proofs.Common.{refl}
use mathlib.Core.Option.{none}
use Rattle.line_rule.proofs.Stalls.{shows_is, withdraws_is, aims_stall_is, stalls_is, resumes_is}
use Rattle.line_rule.proofs.Drops.{holds_is, gives_back_is}
use Rattle.line_rule.proofs.Departs.{passes_by_is, passes_first_is, dismisses_is}
use Rattle.line_rule.proofs.stall_law.stall_steps_and_events.Goals as goal

pub returns-clause-read_newest : goal.returns-clause-read_newest
returns-clause-read_newest g a z slots id me = shows_is _ z.clients slots id me

pub returns-clause-withdraw : goal.returns-clause-withdraw
returns-clause-withdraw g a z slots id word c w me (mine, at) slot = withdraws_is _ z.clients slots id me c word w mine at slot

pub returns-clause-aim : goal.returns-clause-aim
returns-clause-aim g a z slots id c new me lead (mine, at) = aims_stall_is _ z.clients slots id me c new lead mine at

pub returns-clause-stall : goal.returns-clause-stall
returns-clause-stall g a z slots id c w me lead (mine, at) all slow = stalls_is _ z.clients slots id me c w lead mine none at all slow

pub returns-clause-hold : goal.returns-clause-hold
returns-clause-hold g a z slots id c w me lead x older (mine, at) (newer, walk) = holds_is _ z.clients slots id me c _ w lead mine newer older x at walk refl

pub returns-clause-give_back : goal.returns-clause-give_back
returns-clause-give_back g a z slots id c w me lead x older (mine, at) (more, slot) (newer, walk) = gives_back_is _ z.clients slots id me c _ w _ lead mine newer older x more at slot walk refl refl

pub returns-clause-pass_by : goal.returns-clause-pass_by
returns-clause-pass_by g a z slots id c w me lead y x older p (mine, at) all (more, slot) drops hasty (newer, walk) = passes_by_is _ z.clients slots id me c _ w _ lead mine newer older y x p more at slot all drops hasty walk refl refl

pub returns-clause-pass_first : goal.returns-clause-pass_first
returns-clause-pass_first g a z slots id c w me lead x older p (mine, at) all (more, slot) drops hasty walk first = passes_first_is _ z.clients slots id me c w _ lead mine older x p more at slot all drops hasty walk first refl

pub returns-clause-dismiss : goal.returns-clause-dismiss
returns-clause-dismiss g a z slots id c w me lead x p (mine, at) (more, slot) client = dismisses_is _ z.clients slots id me c _ w lead mine x p more at slot refl client

pub returns-clause-resume : goal.returns-clause-resume
returns-clause-resume g a z slots id c w me lead (mine, at) all = resumes_is _ z.clients slots id me c w lead mine none at all
