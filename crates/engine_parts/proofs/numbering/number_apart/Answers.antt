use Rattle.std.proofs.Common.{◌≡◌, ℕ, nat_lt, [], ◌∷◌, ◌++◌, length, ap, sym, ◌∙◌, subst, arith, append_assoc, length-append}
use Rattle.engine_parts.specs.declared.requests.Request.{Request}
use Rattle.table_nodes.specs.Parts.{group_of}
use Rattle.engine_parts.specs.Handled.{commit_request_of, commit_requests_of}
use Rattle.engine_parts.specs.Numbering.{batch_at, batches_of, numbering_at, numberings_of}
use Rattle.engine_parts.proofs.Apart.{grew, more_parts, noted_more, noted_most, still_left}
use Rattle.engine_parts.proofs.Replies.{one_batch}
use Rattle.engine_parts.proofs.numbering.number_apart.Goals as goal
use Rattle.engine_rule.specs.Plans.{AreLawful, HaveOwnClients, last_with, last_with_all}
use Rattle.engine_parts.proofs.Apart.{AreLeft}
use Rattle.engine_stage_laws.specs.Served.{part_at, parts_from}

pub loop-client-preserved : goal.loop-client-preserved
loop-client-preserved c =
    let v = c.loop-client.invariant in let n = c.number_one-at.ensures in let f = c.in-Some.ensures.first in
    let q = c.in-Some.request in let rest = c.take_first.new.items.items in let at = c.loop-client.at in
    let x : ℕ × Request = (c.in-Some.client, q) in let a = commit_request_of x in
    let next = last_with at q.batch.records in let numbering = numbering_at at x in
    let numberings = c.loop-client.numberings.items in let batches = c.loop-client.batches.items in
    let lawful = subst (λ l. AreLawful c.args.parts.now.clients (commit_requests_of l)) f v.lawful in
    let own = subst (λ l. HaveOwnClients (commit_requests_of l)) f v.own in
    let left = subst (λ l. AreLeft c.loop-client.parts.parts (commit_requests_of l)) f v.left in
    let parts = group_of c.loop-client.parts.parts in
    let more : group_of c.number_one-at.new.parts.parts ≡ parts ++ part_at at a = ap group_of n.added ∙ more_parts c.loop-client.parts.parts at c.in-Some.client q left.0 in
    let k = c.note_member.ensures in
    let has = (λ i. nat_lt at (n.reached i)) ∙ grew at q.batch.records lawful.0.0 in
    record {
      last = n.below;
      reached = ap (λ m. last_with_all m (commit_requests_of rest)) n.reached ∙ (ap (λ l. last_with_all at (commit_requests_of l)) (sym f) ∙ v.reached);
      numberings = (λ i. n.numberings i ++ numberings_of (n.reached i) rest) ∙ (append_assoc numberings (numbering ∷ []) (numberings_of next rest) ∙ (ap (λ l. numberings ++ numberings_of at l) (sym f) ∙ v.numberings));
      batches = (λ i. n.batches i ++ batches_of (n.reached i) rest) ∙ (append_assoc batches (batch_at at q) (batches_of next rest) ∙ (ap (λ l. batches ++ batches_of at l) (sym f) ∙ v.batches));
      parts = (λ i. more i ++ parts_from (n.reached i) (commit_requests_of rest)) ∙ (append_assoc parts (part_at at a) (parts_from next (commit_requests_of rest)) ∙ (ap (λ l. parts ++ parts_from at (commit_requests_of l)) (sym f) ∙ v.parts));
      lawful = lawful.1;
      own = own.1;
      left = still_left at c.loop-client.parts.parts c.number_one-at.new.parts.parts a (commit_requests_of rest) more own.0 left.1;
      beside = noted_more c.args.leader at parts (group_of c.number_one-at.new.parts.parts) a c.loop-client.members.items c.note_member.new.members.items (nat_lt at c.number_one-at.result) more v.beside has k.noted;
      clients = n.clients ∙ v.clients;
      count = (let p = ap length n.numberings ∙ length-append numberings (numbering ∷ []) in let r = ap length f in let k = v.count in omega (arith, p, r, k));
      fewer = (let p = ap length n.numberings ∙ length-append numberings (numbering ∷ []) in let b = ap length n.batches ∙ length-append batches (batch_at at q) in let one = one_batch at q in let k = v.fewer in omega (arith, p, b, one, k));
      fewer_beside = (let p = ap length n.numberings ∙ length-append numberings (numbering ∷ []) in let m = noted_most c.args.leader a.client c.loop-client.members.items c.note_member.new.members.items (nat_lt at c.number_one-at.result) k.noted in let l = v.fewer_beside in omega (arith, p, m, l));
      plans_room = n.room.0 ∙ v.plans_room;
      batches_room = n.room.1 ∙ v.batches_room;
      members_room = k.room ∙ v.members_room;
      requests_room = c.in-Some.ensures.room ∙ v.requests_room;
    }
