use Rattle.std.proofs.Common.{[], ◌∷◌, ◌++◌, length, ap, sym, ◌∙◌, arith, append_assoc, length-append}
use Rattle.engine_parts.specs.Handled.{commit_requests_of}
use Rattle.engine_parts.specs.Numbering.{batch_at, batches_of, numbering_at, numberings_of}
use Rattle.engine_parts.proofs.Replies.{one_batch}
use Rattle.engine_parts.proofs.numbering.number_all.Goals as goal
use Rattle.engine_rule.specs.Plans.{last_with, last_with_all, versions_at, versions_from}

pub loop-client-preserved : goal.loop-client-preserved
loop-client-preserved c =
    let v = c.loop-client.invariant in let n = c.number_one-at.ensures in let f = c.in-Some.ensures.first in
    let q = c.in-Some.request in let rest = c.take_first.new.items.items in let at = c.loop-client.at in
    let next = last_with at q.batch.records in let numbering = numbering_at at (c.in-Some.client, q) in
    let numberings = c.loop-client.numberings.items in let batches = c.loop-client.batches.items in record {
      last = n.below;
      reached = ap (λ m. last_with_all m (commit_requests_of rest)) n.reached ∙ (ap (λ l. last_with_all at (commit_requests_of l)) (sym f) ∙ v.reached);
      numberings = (λ i. n.numberings i ++ numberings_of (n.reached i) rest) ∙ (append_assoc numberings (numbering ∷ []) (numberings_of next rest) ∙ (ap (λ l. numberings ++ numberings_of at l) (sym f) ∙ v.numberings));
      batches = (λ i. n.batches i ++ batches_of (n.reached i) rest) ∙ (append_assoc batches (batch_at at q) (batches_of next rest) ∙ (ap (λ l. batches ++ batches_of at l) (sym f) ∙ v.batches));
      parts = (
        v.parts.0 ++ versions_at at q.batch.records,
        n.parts v.parts.0 v.parts.1,
        ap (λ m. (v.parts.0 ++ versions_at at q.batch.records) ++ versions_from m (commit_requests_of rest)) n.reached
            ∙ (append_assoc v.parts.0 (versions_at at q.batch.records) (versions_from next (commit_requests_of rest)) ∙ (ap (λ l. v.parts.0 ++ versions_from at (commit_requests_of l)) (sym f) ∙ v.parts.2)),
      );
      clients = n.clients ∙ v.clients;
      count = (let p = ap length n.numberings ∙ length-append numberings (numbering ∷ []) in let r = ap length f in let k = v.count in omega (arith, p, r, k));
      fewer = (let p = ap length n.numberings ∙ length-append numberings (numbering ∷ []) in let b = ap length n.batches ∙ length-append batches (batch_at at q) in let one = one_batch at q in let k = v.fewer in omega (arith, p, b, one, k));
      plans_room = n.room.0 ∙ v.plans_room;
      batches_room = n.room.1 ∙ v.batches_room;
      requests_room = c.in-Some.ensures.room ∙ v.requests_room;
    }
