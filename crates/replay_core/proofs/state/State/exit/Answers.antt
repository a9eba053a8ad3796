use Rattle.std.proofs.Common.{◌≡◌, ℕ, ◌<◌, Bool, List, drop, Option, Some, true, refl, sym, ap, ◌∙◌, subst}
use Rattle.std.specs.Prelude.{if◌then◌else◌}
use Rattle.model_core.specs.Core as core
use Rattle.model_core.specs.Step as event
use Rattle.replay_core.specs.Mirrors.{Mirrors}
use Rattle.replay_core.specs.declared.state.State.{State}
use Rattle.replay_core.proofs.Events.{first_false, second_false, both_true, as_step, has_come}
use Rattle.replay_core.proofs.TableEvents.{exit_is, after_exit, exit_hand}
use Rattle.replay_core.specs.Leads.{leads_front, table_start, table_len}
use Rattle.replay_core.specs.Phases.{is_published}
use Rattle.replay_core.proofs.LogEvents.{leads_some, hand_of, line_of}
use Rattle.replay_core.proofs.Removing.{first_len_some}
use Rattle.replay_core.proofs.state.State.exit.Goals as goal

abbrev leads_in : ℕ → State → Bool
leads_in c r = leads_front c (table_start r.options.pipelined r.in_second) (table_len r.options.pipelined r.second.items r.log r.in_hand) r.linked.items

-- the exit of a reader, or that of the group in the table
abbrev either : core.State → ℕ → Option core.State → Bool → Option core.State
either s c left b = if b then left else event.exit_reader s c s.log

pub returns-then-not-is_published-clause-steps : goal.returns-then-not-is_published-clause-steps
returns-then-not-is_published-clause-steps c = λ o s is_core m.
    let r = c.args.self.now in
    let none = first_false (is_published r.table) (leads_in c.args.client r) (sym c.is_published.ensures ∙ c.if-not-is_published.true) in
    as_step _ _ o s _ _ (exit_is o r s c.args.client m ∙ ap (either s c.args.client (Some (after_exit s r.options.pipelined))) none) (c.exit_reader.ensures.steps o s is_core m)

pub returns-then-not-leads_table-clause-steps : goal.returns-then-not-leads_table-clause-steps
returns-then-not-leads_table-clause-steps c = λ o s is_core m.
    let r = c.args.self.now in
    let none = second_false (is_published r.table) (leads_in c.args.client r) (sym c.leads_table.ensures ∙ c.if-not-leads_table.true) in
    as_step _ _ o s _ _ (exit_is o r s c.args.client m ∙ ap (either s c.args.client (Some (after_exit s r.options.pipelined))) none) (c.exit_reader-then-not-leads_table.ensures.steps o s is_core m)

pub leave_second-requires : goal.leave_second-requires
leave_second-requires c =
    let r = c.args.self.now in
    let leads = sym c.leads_table.ensures ∙ c.if-not-leads_table.false in
    let some : 0 < table_len r.options.pipelined r.second.items r.log r.in_hand = leads_some c.args.client (table_start r.options.pipelined r.in_second) (table_len r.options.pipelined r.second.items r.log r.in_hand) r.linked.items leads in
    let P : Bool → Type 0 = λ b. 0 < table_len b r.second.items r.log r.in_hand in
    first_len_some r.second.items (subst P c.if-self.true some)

pub returns-then-self-clause-steps : goal.returns-then-self-clause-steps
returns-then-self-clause-steps c = λ o s is_core m.
    let r = c.args.self.now in
    let published : is_published r.table ≡ true = sym c.is_published.ensures ∙ c.if-not-is_published.false in
    let leads = sym c.leads_table.ensures ∙ c.if-not-leads_table.false in
    let mid : Mirrors o c.leave_second.new.self (record (event.leave s (core.first_group s.second)) { second = drop 1 s.second }) = c.leave_second.ensures.left o s m in
    let comes = exit_is o r s c.args.client m ∙ ap (either s c.args.client (Some (after_exit s r.options.pipelined))) (both_true (is_published r.table) (leads_in c.args.client r) published leads) ∙ ap (λ b. Some (after_exit s b)) c.if-self.true in
    has_come _ o _ s _ comes (record {
      options = mid.options;
      clients = mid.clients;
      line = record { second_sum = mid.line.second_sum; second_groups = mid.line.second_groups; hand = mid.line.hand; no_hand = mid.line.no_hand; queue = mid.line.queue };
      writers = mid.writers;
      table = refl;
      leaving = mid.leaving;
      entries = mid.entries;
      groups = mid.groups;
      assigned = mid.assigned;
      log_failed = mid.log_failed;
      last = mid.last;
      room = record { linked = mid.room.linked; items = mid.room.items; second = mid.room.second; entries = mid.room.entries; groups = mid.room.groups; group_room = mid.room.group_room };
    })

pub returns-clause-steps : goal.returns-clause-steps
returns-clause-steps c = λ o s is_core m.
    let r = c.args.self.now in
    let published : is_published r.table ≡ true = sym c.is_published.ensures ∙ c.if-not-is_published.false in
    let leads : leads_front c.args.client (table_start r.options.pipelined r.in_second) (table_len r.options.pipelined r.second.items r.log r.in_hand) r.linked.items ≡ true = sym c.leads_table.ensures ∙ c.if-not-leads_table.false in
    let some : 0 < table_len r.options.pipelined r.second.items r.log r.in_hand = leads_some c.args.client (table_start r.options.pipelined r.in_second) (table_len r.options.pipelined r.second.items r.log r.in_hand) r.linked.items leads in
    let P : Bool → Type 0 = λ b. 0 < table_len b r.second.items r.log r.in_hand in
    let hand : core.in_hand s.log ≡ hand_of r = exit_hand r.log r.in_hand r.in_second s (line_of r) m.line.hand (subst P c.if-self.false some) in
    let mid : Mirrors o c.leave_hand.new.self (record (event.leave s (hand_of r)) { log = core.free }) = c.leave_hand.ensures.left o s m in
    let Q : List core.Writer → Type 0 = λ ws. Mirrors o c.leave_hand.new.self (record (event.leave s ws) { log = core.free }) in
    let mid : Mirrors o c.leave_hand.new.self (record (event.leave s (core.in_hand s.log)) { log = core.free }) = subst Q (sym hand) mid in
    let comes = exit_is o r s c.args.client m ∙ ap (either s c.args.client (Some (after_exit s r.options.pipelined))) (both_true (is_published r.table) (leads_in c.args.client r) published leads) ∙ ap (λ b. Some (after_exit s b)) c.if-self.false in
    has_come _ o _ s _ comes (record {
      options = mid.options;
      clients = mid.clients;
      line = record { second_sum = mid.line.second_sum; second_groups = mid.line.second_groups; hand = mid.line.hand; no_hand = mid.line.no_hand; queue = mid.line.queue };
      writers = mid.writers;
      table = refl;
      leaving = mid.leaving;
      entries = mid.entries;
      groups = mid.groups;
      assigned = mid.assigned;
      log_failed = mid.log_failed;
      last = mid.last;
      room = record { linked = mid.room.linked; items = mid.room.items; second = mid.room.second; entries = mid.room.entries; groups = mid.room.groups; group_room = mid.room.group_room };
    })
