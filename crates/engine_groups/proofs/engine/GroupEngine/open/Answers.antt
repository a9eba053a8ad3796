use Rattle.std.proofs.Common.{rules, ◌≡◌, ℕ, ◌≤◌, ◌<◌, vec_capacity, sym, ◌∙◌, subst, arith}
use Rattle.model_base.specs.declared.limits.TheConstants.{MAX_CLIENTS}
use Rattle.engine_controller.specs.Passes.{AreNew}
use Rattle.engine_parts.specs.Layout.{AreRoomy}
use Rattle.engine_groups.proofs.Seating.{seats_count}
use Rattle.engine_groups.proofs.engine.GroupEngine.open.Goals as goal

-- Numbers. A tactic reads all that is known where it is called, so these are apart from the goals that use them.

low_enough : (n most k : ℕ) → k ≡ n → n ≤ most → k ≤ most
low_enough n most k is few = omega arith

not_none : (n k : ℕ) → k ≡ n → 0 < n → 0 < k
not_none n k is some = omega arith

pub overflow_cast-count : goal.overflow_cast-count
overflow_cast-count g c =
    let n = seats_count g.Versions.Table c.args.table (g.Versions.Table.opening c.args.table).clients c.args.seats.clients c.requires.seats in
    let few = c.requires.clients.1 in let is = c.len-count.ensures in
    let small : c.len-count.result ≤ MAX_CLIENTS = low_enough (g.Versions.Table.opening c.args.table).clients MAX_CLIENTS c.len-count.result (is ∙ n) few in
    search (rules, small)

pub open-requires : goal.open-requires
open-requires g c =
    let n = seats_count g.Versions.Table c.args.table (g.Versions.Table.opening c.args.table).clients c.args.seats.clients c.requires.seats in
    let some = c.requires.clients.0 in let few = c.requires.clients.1 in let is = c.len-count.ensures in
    record { clients = (not_none (g.Versions.Table.opening c.args.table).clients c.len-count.result (is ∙ n) some, low_enough (g.Versions.Table.opening c.args.table).clients MAX_CLIENTS c.len-count.result (is ∙ n) few) }

pub open_with-requires-clause-controller : goal.open_with-requires-clause-controller
open_with-requires-clause-controller g c =
    let n = seats_count g.Versions.Table c.args.table (g.Versions.Table.opening c.args.table).clients c.args.seats.clients c.requires.seats in
    let count : c.len-count.result ≡ (g.Versions.Table.opening c.args.table).clients = c.len-count.ensures ∙ n in
    subst (λ k. AreNew c.in-Ok.controller k c.in-Ok.passes) count c.in-Ok.ensures.new

pub open_with-requires-clause-layouts : goal.open_with-requires-clause-layouts
open_with-requires-clause-layouts g c =
    let n = seats_count g.Versions.Table c.args.table (g.Versions.Table.opening c.args.table).clients c.args.seats.clients c.requires.seats in
    let count : c.len-count.result ≡ (g.Versions.Table.opening c.args.table).clients = c.len-count.ensures ∙ n in
    let layouts = c.in-Ok-for_all.layouts in let all = c.in-Ok-for_all.ensures in
    (subst (λ k. AreRoomy k layouts.items) count all.1, sym layouts.ok.0 ∙ (all.0 ∙ count))

pub open_with-requires-clause-envelopes : goal.open_with-requires-clause-envelopes
open_with-requires-clause-envelopes g c =
    let n = seats_count g.Versions.Table c.args.table (g.Versions.Table.opening c.args.table).clients c.args.seats.clients c.requires.seats in
    let envelopes = c.in-Ok-for_all-2.envelopes in
    sym envelopes.ok.0 ∙ (c.in-Ok-for_all-2.ensures ∙ (c.len-count.ensures ∙ n))

pub open_with-requires-clause-room : goal.open_with-requires-clause-room
open_with-requires-clause-room g c =
    let n = seats_count g.Versions.Table c.args.table (g.Versions.Table.opening c.args.table).clients c.args.seats.clients c.requires.seats in
    let count : c.len-count.result ≡ (g.Versions.Table.opening c.args.table).clients = c.len-count.ensures ∙ n in
    let made = c.in-Ok-with_capacity.ensures in let room = made.capacity in
    (made.items, subst (λ (k : ℕ). k ≤ vec_capacity c.in-Ok-with_capacity.clients) count room)
