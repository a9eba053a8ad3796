use Rattle.std.proofs.Common.{rules, ◌≤◌, ◌+◌, ℕ, List, sym, ap, ◌∙◌, subst}
use Rattle.std.proofs.lemmas.Bool.{true≢false}
use Rattle.model_base.specs.Batch.{count_of}
use Rattle.model_base.specs.History.{max_sequence}
use Rattle.table_nodes.specs.Parts.{group_of}
use Rattle.engine_rule.specs.Parts.{members_of}
use Rattle.engine_rule.specs.Plans.{versions_from}
use Rattle.engine_parts.specs.declared.requests.Request.{Request}
use Rattle.engine_parts.specs.Handled.{commit_requests_of}
use Rattle.engine_parts.specs.Numbering.{others_in, others_than}
use Rattle.engine_parts.proofs.Apart.{apart_parts, leader_within, one_part, run_fits}
use Rattle.engine_parts.proofs.Logged.{head_is}
use Rattle.engine_parts.proofs.Beside.{AreIn, beside_in}
use Rattle.engine_parts.proofs.numbering.lay_out.Goals as goal

pub returns-then-are_worth_waking-clause-parts : goal.returns-then-are_worth_waking-clause-parts
returns-then-are_worth_waking-clause-parts c =
    let xs : List (ℕ × Request) = c.args.requests.now.items in let led = c.requires.group.1 in
    let first = c.index.ensures ∙ head_is xs led.rest led.first c.index.result.now led.leads in
    let from = c.from-count.ensures in let count = c.count.ensures in
    let tested = run_fits c.args.last c.from-count.result c.next_run.result (sym c.is_ok.ensures.value ∙ c.if-is_ok.true) c.next_run.ensures.last c.next_run.ensures.fits in
    let fits : c.args.last + count_of c.index.result.now.1.batch.records ≤ max_sequence = search (rules, tested, from, count) in
    let n = c.number_apart.ensures in (
      apart_parts c.requires.group.0 c.args.parts.now.clients c.args.leader c.args.last xs led (group_of c.number_apart.new.parts.parts) c.number_apart.new.members.items c.requires.leads
          (subst (λ (x : ℕ × Request). c.args.last + count_of x.1.batch.records ≤ max_sequence) first fits) n.parts.0 n.members,
      n.parts.1,
    )

pub returns-then-are_worth_waking-clause-beside : goal.returns-then-are_worth_waking-clause-beside
returns-then-are_worth_waking-clause-beside c =
    let xs : List (ℕ × Request) = c.args.requests.now.items in let n = c.number_apart.ensures in
    let noted = n.members ∙ ap (λ l. others_than c.args.leader (members_of l)) n.parts.0 in
    record {
      of_group = subst (AreIn (others_in xs)) (sym noted) (beside_in c.args.leader c.args.last xs c.requires.leads);
      alone = λ off. absurd (true≢false (sym c.if-apart.true ∙ off));
    }

pub returns-clause-parts : goal.returns-clause-parts
returns-clause-parts c =
    let xs : List (ℕ × Request) = c.args.requests.now.items in
    let within = leader_within c.requires.group.0 c.args.parts.now.clients c.args.leader xs c.requires.group.1 c.requires.leads in
    let n = c.number_all.ensures.parts in
    (one_part c.args.leader c.args.parts.now.clients (versions_from c.args.last (commit_requests_of xs)) c.number_all.new.parts.parts c.clear.new.self.items within.0 within.1 n.0 c.clear.ensures.items, n.1)
