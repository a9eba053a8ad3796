use Rattle.table_rule.proofs.CoreLaws.{launches_core, inserts_core, finishes_core, publishes_core, exits_core, exit_of_read_core, reads_core, stays_core, others_core}
use Rattle.table_rule.proofs.core_events.table_and_core.Goals as goal

pub returns-clause-launch : goal.returns-clause-launch
returns-clause-launch c start o team s a b group client is rest leads there launch = launches_core start o team s a b group client is rest leads there launch

pub returns-clause-insert : goal.returns-clause-insert
returns-clause-insert c start o team s a b m is insert = inserts_core start o team s a b m is insert

pub returns-clause-finish : goal.returns-clause-finish
returns-clause-finish c start o team s a b m found is finish = finishes_core start o team s a b m found is finish

pub returns-clause-publish : goal.returns-clause-publish
returns-clause-publish c start o team s a b m client is publish last = publishes_core start o team s a b m client is publish last

pub returns-clause-exit : goal.returns-clause-exit
returns-clause-exit c start o team s a client is mode published leads = exits_core start o team s a client is mode published leads

pub returns-clause-exit_of_read : goal.returns-clause-exit_of_read
returns-clause-exit_of_read c start o team s t a client is came same = exit_of_read_core start o team s t a client is came same

pub returns-clause-read : goal.returns-clause-read
returns-clause-read c start o team s a b found client is read reads = reads_core start o team s a b found client is read reads

pub returns-clause-stays : goal.returns-clause-stays
returns-clause-stays c start o team s a b is stays = stays_core start o team s a b is stays

pub returns-clause-others : goal.returns-clause-others
returns-clause-others c start o team s t a event is none came = others_core start o team s t a event is none came
