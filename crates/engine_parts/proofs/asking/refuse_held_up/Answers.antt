use Rattle.std.proofs.Common.{◌≡◌, ◌∙◌, ◌∷◌, [], ℕ, Err, ap, refl, arith, length, length-append}
use Rattle.engine_controller.specs.Looks.{look_of}
use Rattle.engine_parts.specs.declared.requests.Request.{Request}
use Rattle.engine_parts.specs.declared.requests.Answer.{Answer}
use Rattle.engine_parts.specs.Handled.{held_up_with}
use Rattle.engine_parts.proofs.Views.{held_more}
use Rattle.engine_parts.proofs.asking.refuse_held_up.Goals as goal

pub loop-client-preserved : goal.loop-client-preserved
loop-client-preserved c =
    let v = c.loop-client.invariant in let put = c.push_reserved.ensures.items in
    let x : ℕ × Request = (c.in-Some.client, c.in-Some.request) in
    let y : ℕ × Answer = (c.in-Some.client, c.tell.result) in let told = c.tell.ensures in
    let was : c.loop-client.requests.items ≡ x ∷ c.take_first.new.items.items = c.in-Some.ensures.first in
    record {
      replies = held_more c.args.delay.now (look_of c.args.look) c.args.requests.now.items c.loop-client.requests.items c.take_first.new.items.items c.loop-client.replies.items c.push_reserved.new.self.items x y v.replies was put
          (refl, ap (λ (a : Answer). a.answer) told ∙ ap Err (c.refused_by.ensures ∙ ap (held_up_with (look_of c.args.look)) c.batch_of-batch.ensures), ap (λ (a : Answer). a.delay.value) told ∙ c.of.ensures, ap (λ (a : Answer). a.note) told);
      count = (let a = ap length put in let l = length-append c.loop-client.replies.items (y ∷ []) in let b = ap length was in let k = v.count in omega (arith, a, l, b, k));
      requests_room = c.take_first.ensures.room ∙ v.requests_room;
      replies_room = c.push_reserved.ensures.capacity ∙ v.replies_room;
    }
