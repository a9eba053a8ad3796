use Rattle.std.proofs.Common.{refl}
use Rattle.line_rule.proofs.CoreLaws.{coded_items}
use Rattle.line_rule.proofs.CoreSteps.{boundary_core, second_core, next_core, next_there, serves_core, comes_core, reader_comes, reads_core, leads_core, groups_core, logs_there, log_leaves, fault_leaves, refuse_leaves, told_core, exits_core, reader_leaves}
use Rattle.line_rule.proofs.CoreStalls.{stalls_core, drops_core, resumes_core, refused_core, barred_core, reader_barred}
use Rattle.line_rule.proofs.core_events.list_and_core.Goals as goal

pub returns-clause-open : goal.returns-clause-open
returns-clause-open g c writer_of reply_of o plans = record { queue = refl; log = (refl, refl, (refl, λ k. refl)); second = tt; owed = refl }

pub returns-clause-link : goal.returns-clause-link
returns-clause-link g c writer_of reply_of o s a b ws e r ev commits = comes_core writer_of reply_of o s a b ws e r ev commits

pub returns-clause-link_read : goal.returns-clause-link_read
returns-clause-link_read g c writer_of reply_of o s a b ws e r ev asks = reader_comes writer_of reply_of o s a b ws e r ev asks

pub returns-clause-read : goal.returns-clause-read
returns-clause-read g c writer_of reply_of o s a ws own n (same, r) held reads none is = reads_core writer_of reply_of o s a a ws own n same r held reads none is

pub returns-clause-elect : goal.returns-clause-elect
returns-clause-elect g c writer_of reply_of o s a b ws e (same, r) ev = leads_core writer_of reply_of o s a b ws e same r ev

pub returns-clause-build : goal.returns-clause-build
returns-clause-build g c writer_of reply_of o s a b ws own (same, r) has (group, left, ev) = groups_core writer_of reply_of o s a b ws own group left same has r ev

pub returns-clause-log : goal.returns-clause-log
returns-clause-log g c writer_of reply_of o s a old ws own group (same, r) held (built, is, alive, writes, runs) one = logs_there writer_of reply_of o s a a old ws built own group same r held is alive writes runs one

pub returns-clause-boundary : goal.returns-clause-boundary
returns-clause-boundary g c writer_of reply_of o s a b ws client squad two (same, r) is ev = boundary_core writer_of reply_of o s a b ws client squad two same r is ev

pub returns-clause-second : goal.returns-clause-second
returns-clause-second g c writer_of reply_of o s a b ws client squad to (same, r) ev = second_core writer_of reply_of o s a b ws client squad to same r ev

pub returns-clause-next : goal.returns-clause-next
returns-clause-next g c writer_of reply_of o s a b ws back squad own p gs there r ev has = next_core writer_of reply_of o s a b ws back squad own p gs r ev there has

pub returns-clause-next_of_handed : goal.returns-clause-next_of_handed
returns-clause-next_of_handed g c writer_of reply_of o s new a ws client r came = next_there writer_of reply_of o s a a ws client new r came

pub returns-clause-exit_second : goal.returns-clause-exit_second
returns-clause-exit_second g c writer_of reply_of o s a b ws client squad two (same, r) is ev = serves_core writer_of reply_of o s a b ws client squad two same r is ev

pub returns-clause-log_refused : goal.returns-clause-log_refused
returns-clause-log_refused g c writer_of reply_of o s a b old ws own (same, r) (built, is, alive, writes, runs) no_run (p, gs, ev, has) = log_leaves writer_of reply_of o s a b old ws built own p gs same r ev is alive writes runs no_run has

pub returns-clause-fault : goal.returns-clause-fault
returns-clause-fault g c writer_of reply_of o s a b old built own (same, r) is writes (p, gs, ev, ok) = fault_leaves writer_of reply_of o s a b old built own p gs same r ev is writes ok

pub returns-clause-refuse : goal.returns-clause-refuse
returns-clause-refuse g c writer_of reply_of o s a b old built own stops delays wait (same, r) is writes unslowed (p, gs, ev, ok) = refuse_leaves writer_of reply_of o s a b old built own p gs stops delays wait same r ev is writes unslowed ok

pub returns-clause-complete : goal.returns-clause-complete
returns-clause-complete g c writer_of reply_of o s a b ws e p client (same, r) ev none there = told_core writer_of reply_of o s a b ws e p client same r ev none.0 none.1 there

pub returns-clause-exit : goal.returns-clause-exit
returns-clause-exit g c writer_of reply_of o s a b ws own one (same, r) is there (p, gs, ev, has) = exits_core writer_of reply_of o s a b ws own p gs one same r is there ev has

pub returns-clause-exit_of_read : goal.returns-clause-exit_of_read
returns-clause-exit_of_read g c writer_of reply_of o s a b ws own reply (same, r) reads is apart (p, gs, ev, ok) = reader_leaves writer_of reply_of o s a b ws own reply p gs same r reads is apart ev ok

pub returns-clause-writers : goal.returns-clause-writers
returns-clause-writers g c items writer is = ((λ e. (is e.by e.asked).0), coded_items c.codes_stand_for_items.ensures items writer is)

pub returns-clause-stall : goal.returns-clause-stall
returns-clause-stall g c writer_of reply_of o s a b old built lead (same, r) is writes slow ev = stalls_core writer_of reply_of o s a b old built lead.own lead.group same r is writes slow ev

pub returns-clause-leave : goal.returns-clause-leave
returns-clause-leave g c writer_of reply_of o s a b ws e p stops delays (same, r) has is (newer, older, ev) = drops_core writer_of reply_of o s a b ws newer e older p stops delays same r has is ev

pub returns-clause-link_refused : goal.returns-clause-link_refused
returns-clause-link_refused g c writer_of reply_of o s a ws client w r held commits hasty = refused_core writer_of reply_of o s a a ws client w r held commits hasty

pub returns-clause-link_barred : goal.returns-clause-link_barred
returns-clause-link_barred g c writer_of reply_of o s a ws client w r held commits slow = barred_core writer_of reply_of o s a a ws client w r held commits slow

pub returns-clause-link_read_barred : goal.returns-clause-link_read_barred
returns-clause-link_read_barred g c writer_of reply_of o s a ws client w r held asks = reader_barred writer_of reply_of o s a a ws client w r held asks

pub returns-clause-unstall : goal.returns-clause-unstall
returns-clause-unstall g c writer_of reply_of o s a b ws lead (same, r) ev = resumes_core writer_of reply_of o s a b ws lead.own lead.group same r ev
