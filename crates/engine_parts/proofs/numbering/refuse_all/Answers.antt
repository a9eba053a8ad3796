use Rattle.std.proofs.Common.{◌≡◌, ◌++◌, ◌∷◌, [], ℕ, List, Err, length, length-append, append_assoc, sym, ap, ◌∙◌, arith}
use Rattle.model_base.specs.declared.write.Refusal.TheVariants.{LogFault}
use Rattle.log_batch.specs.Contents.{Contents}
use Rattle.engine_parts.specs.declared.requests.Delay.{Delay}
use Rattle.engine_parts.specs.declared.requests.Request.{Request}
use Rattle.engine_parts.specs.declared.requests.Answer.{Answer}
use Rattle.engine_parts.specs.Handled.{failures, reply_with}
use Rattle.engine_parts.proofs.numbering.refuse_all.Goals as goal

failed_more : (d : Delay) (count : ℕ) (all now rest : List (ℕ × Request)) (old new : List (ℕ × Answer)) (x : ℕ × Request) (y : ℕ × Answer) → old ++ failures d count now ≡ failures d count all → now ≡ x ∷ rest
    → new ≡ old ++ y ∷ [] → y ∷ [] ≡ failures d count (x ∷ []) → new ++ failures d count rest ≡ failures d count all
failed_more d count all now rest old new x y so_far was put is =
    ap (λ l. l ++ failures d count rest) put ∙ (append_assoc old (y ∷ []) (failures d count rest) ∙ (ap (λ l. old ++ (l ++ failures d count rest)) is ∙ (ap (λ l. old ++ failures d count l) (sym was) ∙ so_far)))

pub loop-client-preserved : goal.loop-client-preserved
loop-client-preserved c =
    let v = c.loop-client.invariant in let put = c.push_reserved.ensures.items in let d = c.args.delay.now in let count = c.args.count in
    let x : ℕ × Request = (c.in-Some.client, c.in-Some.request) in let y : ℕ × Answer = (c.in-Some.client, c.tell.result) in
    let was : c.loop-client.requests.items ≡ x ∷ c.take_first.new.items.items = c.in-Some.ensures.first in
    let is = c.tell.ensures ∙ (c.refusal-answer.ensures ∙ ap (λ (b : Contents). reply_with d (Err (record { batch = b; why = LogFault count }))) c.batch_of-batch.ensures) in
    record {
      replies = failed_more d count c.args.requests.now.items c.loop-client.requests.items c.take_first.new.items.items c.loop-client.replies.items c.push_reserved.new.self.items x y v.replies was put (λ i. (c.in-Some.client, is i) ∷ []);
      count = (let a = ap length put in let l = length-append c.loop-client.replies.items (y ∷ []) in let b = ap length was in let k = v.count in omega (arith, a, l, b, k));
      requests_room = c.take_first.ensures.room ∙ v.requests_room;
      replies_room = c.push_reserved.ensures.capacity ∙ v.replies_room;
    }
