use Rattle.std.proofs.Common.{rules, ℕ, List, map, length, refl, sym, ap, subst, arith}
use Rattle.engine_parts.specs.Logs.{fault_of, faults_of}
use Rattle.engine_parts.specs.Logs.{Wrote}
use Rattle.table_rule.specs.Histories.{In}
use Rattle.table_calls.specs.Account.{IsReady, IsClosing as IsTableClosing}
use Rattle.line_writers.specs.Seats.{bound_of, about_of, piped_of, table_of, clients_of, AllOut, AllThere, Merged}
use Rattle.engine_controller.specs.Passes.{seen_by_note, IsHistoryOf, IsNoteOf}
use Rattle.model_accounts.specs.Closing.{HasOneTrace, all_attempts}
use Rattle.engine_rule.specs.Consistent.{AreAccountsOf, AreReadsRight, Standing}
use Rattle.engine_rule.specs.Reading.{answers_in, reads_in}
use Rattle.engine_groups.specs.declared.leader.Held.{Held}
use Rattle.engine_groups.specs.Clients.{account_in, had_in, opened_log, settings_of}
use Rattle.engine_parts.specs.Handled.{commits_in, reads_handled, sights_in}
use Rattle.engine_groups.proofs.engine.GroupEngine.close.Goals as goal
use Rattle.engine_groups.proofs.Ending.{accounts_number, all_out, all_passes, all_there, are_calls, is_engine, parts, passes_number, right_where, seats_ready, written_by}
use Rattle.engine_groups.proofs.Finally.{ends_at, ends_with, one_place}
use Rattle.engine_parts.proofs.Serves.{stands_by}
use Rattle.table_rule.specs.declared.content.MemberVersions.{MemberVersions}

-- takes the place of a table's `our_turn`, where only the log matters
abbrev our_log : Unit {0} → List (List MemberVersions) → Type 0
our_log t u = Unit {0}

abbrev as_is : List (List MemberVersions) → List (List MemberVersions)
as_is u = u

pub close-leadership-requires : goal.close-leadership-requires
close-leadership-requires g c =
    let e = c.args.self in let cs = c.args.clients.clients.items in let all = c.requires.all in
    let w = c.part_all.ensures.writers in
    let v = c.part_all.auto.writers in
    record {
      out = (
        subst (AllOut (table_of e.list)) (sym w) (all_out g.Versions.Table e cs all),
        subst (AllThere (clients_of e.list)) (sym w) (all_there g.Versions.Table e cs all),
        search rules,
      );
    }

pub end_controller-requires-clause-all : goal.end_controller-requires-clause-all
end_controller-requires-clause-all g c =
    all_passes g.Versions.Table c.args.self c.args.clients.clients.items c.requires.all _ c.part_all.ensures.passes c.requires.room.others

pub end_controller-requires-clause-some : goal.end_controller-requires-clause-some
end_controller-requires-clause-some g c =
    let e = c.args.self in let cs = c.args.clients.clients.items in
    let some = e.list.some in let n = passes_number g.Versions.Table e cs c.requires.all in
    let is = ap length c.part_all.ensures.passes in
    omega (arith, some, n, is)

pub end_controller-requires-clause-note : goal.end_controller-requires-clause-note
end_controller-requires-clause-note g c =
    let set = is_engine g.Versions.Table c.args.self c.args.clients.clients.items c.requires.all in
    subst (λ k. IsNoteOf k c.close-leadership.result.0.asked) set.controller c.close-leadership.ensures.1.0.note

pub one_turn-turn-requires : goal.one_turn-turn-requires
one_turn-turn-requires g c =
    let e = c.args.self in let cs = c.args.clients.clients.items in let set = is_engine g.Versions.Table e cs c.requires.all in
    let L = c.close-leadership.ensures in let leadership = c.close-leadership.result.0 in let right = c.close-leadership.result.1 in let about = about_of e.list in
    let ends = ends_with g.Versions.Table about leadership L.0 right (piped_of e.list) set.pipelined L.1.0 L.1.1 L.2 L.3 in
    one_place g.Versions.Table about leadership L.0 leadership.turn right.turn ends

pub close-requires-clause-turn : goal.close-requires-clause-turn
close-requires-clause-turn g c =
    let e = c.args.self in let cs = c.args.clients.clients.items in let set = is_engine g.Versions.Table e cs c.requires.all in
    let L = c.close-leadership.ensures in let leadership = c.close-leadership.result.0 in let right = c.close-leadership.result.1 in let about = about_of e.list in
    let ends = ends_with g.Versions.Table about leadership L.0 right (piped_of e.list) set.pipelined L.1.0 L.1.1 L.2 L.3 in
    let at = ends_at g.Versions.Table about leadership L.0 leadership.turn right.turn c.one_turn-turn.result ends c.one_turn-turn.ensures in
    subst (λ t. g.Versions.Table.our_turn t c.one_turn-turn.result) set.table at.0

pub close-requires-clause-clients : goal.close-requires-clause-clients
close-requires-clause-clients g c =
    let e = c.args.self in
    subst (λ (ss : List _). (seat : _) → In seat ss → g.Versions.Table.ours e.table seat × IsReady (g.Versions.Table.account seat)) (sym c.part_all.ensures.seats)
    (seats_ready g.Versions.Table e c.args.clients.clients.items c.requires.all)

pub returns : goal.returns
returns g c kept had =
    let meaning = g.Versions.Table in
    let e = c.args.self in let cs = c.args.clients.clients.items in let all = c.requires.all in
    let L = c.close-leadership.ensures in let leadership = c.close-leadership.result.0 in
    let set = is_engine meaning e cs all in
    let settings = settings_of meaning e in let accounts = map (account_in meaning) cs in
    let start : ℕ = (meaning.opening e.table).start in let fault = fault_of leadership.held.value.path.log in let asked = seen_by_note leadership.asked in
    let commits = commits_in L.0 in let published = g.Versions.Table.history c.one_turn-turn.result in let right = c.close-leadership.result.1 in let about = about_of e.list in
    let ends = ends_with g.Versions.Table about leadership L.0 right (piped_of e.list) set.pipelined L.1.0 L.1.1 L.2 L.3 in
    let at = ends_at g.Versions.Table about leadership L.0 leadership.turn right.turn c.one_turn-turn.result ends c.one_turn-turn.ensures in
    let stands = stands_by our_log as_is about.opened.value leadership.held.value.path.log leadership.held.value.path.places published leadership.held.value.path.last leadership.held.value.path.made tt tt about.start start about.clients (clients_of e.list) about.group_bytes (bound_of e.list) asked asked L.0 refl set.start set.about_clients set.group_bytes refl at.1 in
    let merged = subst (Merged L.0) c.part_all.ensures.writers L.4 in
    let seen = subst (λ (ss : List _). IsTableClosing start published (map meaning.account ss)) c.part_all.ensures.seats c.close.ensures in
    let ended = c.end_controller.ensures in let calls = ended.0 in
    let whole = subst (λ (ps : List _). IsHistoryOf ps calls) c.part_all.ensures.passes ended.1 in
    let number = accounts_number meaning e cs all in
    let own = parts meaning e cs all calls whole L.0 published merged seen in
    let standing : Standing = record {
      asked = asked;
      commits = commits;
      reads = reads_handled L.0;
      last = leadership.held.value.path.last;
      fault = fault;
      published = published;
      calls = stands.calls;
    } in
    let theirs : AreAccountsOf settings standing (sights_in L.0) calls accounts = record { all = number; each = own } in
    let right : AreReadsRight settings kept (faults_of leadership.held.value.path.log) standing = record {
      right = right_where (had_in meaning e) kept leadership.held.value.path.last stands.calls (reads_in (answers_in (reads_handled L.0))) had stands.right;
      of_clients = stands.readers;
      rose = stands.counted.rose;
      own = stands.counted.own;
      counted = stands.counted.no_fault;
    } in
    let closed = c.closings.ensures.closing settings kept (faults_of (leadership.held.value.path.log)) standing (sights_in L.0) calls accounts stands.consistent stands.shown theirs whole.legal whole.heard (are_calls meaning e cs all calls whole) ended.2 right in
    subst (λ (h : Held _ _ _). HasOneTrace settings kept (faults_of (h.path.log)) accounts h.path.last (fault_of h.path.log) (λ made. Wrote (opened_log e) made h.path.log)) (sym c.into_inner-path.ensures) (
      closed.0,
      closed.1,
      closed.2,
      written_by (bound_of e.list) (λ made. Wrote (opened_log e) made leadership.held.value.path.log) stands.calls closed.0 (all_attempts accounts) closed.1 fault stands.wrote closed.3,
    )
