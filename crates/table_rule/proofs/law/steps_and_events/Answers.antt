use Rattle.std.proofs.Common.{refl}
use Rattle.table_rule.proofs.Locks.{learns_is, locks_is, unlocks_is, adds_is}
use Rattle.table_rule.proofs.Handing.{empties_is, gives_nodes_is, takes_nodes_is, settles_is}
use Rattle.table_rule.proofs.Finishing.{counts_is, publishes_is}
use Rattle.table_rule.proofs.Launching.{launches_is, awaits_is}
use Rattle.table_rule.proofs.Seats.{closes_is}
use Rattle.table_rule.proofs.law.steps_and_events.Goals as goal

pub returns-clause-learn : goal.returns-clause-learn
returns-clause-learn g a z slots id word c me seen stage is client at = learns_is g.ShardTree.Versioned.versions g.NodeList.Versioned.versions z slots id me c word seen stage is client at

pub returns-clause-lock_shard : goal.returns-clause-lock_shard
returns-clause-lock_shard g a z slots id word c me seen stage lt at = locks_is g.ShardTree.Versioned.versions g.NodeList.Versioned.versions z slots id me c word seen stage lt at

pub returns-clause-unlock_shard : goal.returns-clause-unlock_shard
returns-clause-unlock_shard g a z slots id word c me seen stage tree more at slot = unlocks_is g.ShardTree.Versioned.versions g.NodeList.Versioned.versions z slots id me c word seen stage (g.ShardTree.Versioned.versions tree) tree more at slot refl

pub returns-clause-add_versions : goal.returns-clause-add_versions
returns-clause-add_versions g a z slots id word c me seen u done new rest vs tree more at slot adds here = adds_is g.ShardTree.Versioned.versions g.NodeList.Versioned.versions z slots id me c word seen u done new rest vs tree more at slot adds here

pub returns-clause-launch : goal.returns-clause-launch
returns-clause-launch g a z slots id word count c me own seen group is count_is low at next = launches_is g.ShardTree.Versioned.versions g.NodeList.Versioned.versions z slots id me c word count own seen group is count_is low at next.0 next.1 next.2

pub returns-clause-empty : goal.returns-clause-empty
returns-clause-empty g a z slots id word me seen group ps p at_word at = empties_is g.ShardTree.Versioned.versions g.NodeList.Versioned.versions z slots id me word seen group p ps at_word.0 at_word.1 at_word.2 at

pub returns-clause-give : goal.returns-clause-give
returns-clause-give g a z slots id word last me seen group ps p nodes more at_word at slot part = gives_nodes_is g.ShardTree.Versioned.versions g.NodeList.Versioned.versions z slots id me word seen group p ps nodes last more at_word.0 at_word.1 at_word.2 at slot part.0 part.1

pub returns-clause-take : goal.returns-clause-take
returns-clause-take g a z slots id word c me seen stage is lo may at = takes_nodes_is g.ShardTree.Versioned.versions g.NodeList.Versioned.versions z slots id me c word seen stage is lo may at

pub returns-clause-settle : goal.returns-clause-settle
returns-clause-settle g a z slots id word c me seen u done more is lo at slot = settles_is g.ShardTree.Versioned.versions g.NodeList.Versioned.versions z slots id me c word seen u done more is lo at slot

pub returns-clause-count : goal.returns-clause-count
returns-clause-count g a z slots id word c me seen u is at = counts_is g.ShardTree.Versioned.versions g.NodeList.Versioned.versions z slots id me c word seen u is at

pub returns-clause-publish : goal.returns-clause-publish
returns-clause-publish g a z slots id word last c me seen u last_is is at = publishes_is g.ShardTree.Versioned.versions g.NodeList.Versioned.versions z slots id me c word seen u last last_is is at

pub returns-clause-await_group : goal.returns-clause-await_group
returns-clause-await_group g a z slots id word me seen group is at = awaits_is g.ShardTree.Versioned.versions g.NodeList.Versioned.versions z slots id me word seen group is at

pub returns-clause-close : goal.returns-clause-close
returns-clause-close g a z slots id word me is = closes_is g.ShardTree.Versioned.versions g.NodeList.Versioned.versions z slots id me word is
