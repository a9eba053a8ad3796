use Rattle.std.proofs.Common.{◌≡◌, ◌∙◌, ℕ, None, Some, subst}
use Rattle.model_base.specs.Controller.{delay, say}
use Rattle.engine_controller.specs.Looks.{look_of}
use Rattle.engine_controller.specs.Passes.{client_of, seen_by, seen_by_note, EndsWith}
use Rattle.engine_parts.specs.Asking.{HasLearned}
use Rattle.engine_parts.proofs.Views.{asked_for}
use Rattle.engine_parts.proofs.asking.ask.Goals as goal

pub returns-clause-asked : goal.returns-clause-asked
returns-clause-asked g c =
    let was = c.args.pass.now in let k : ℕ = client_of was in let xs = c.args.requests.now in
    let a = c.learn.ensures in let l = c.learn_all.ensures in let s = c.say.ensures in let d = c.delay.ensures.asked in
    let first : client_of c.learn.new.pass ≡ k = a.own.1 in
    let second : client_of c.learn_all.new.pass ≡ k = l.pass.1 ∙ first in
    let third : client_of c.say.new.pass ≡ k = s.own.1 ∙ second in
    asked_for k (seen_by was) (seen_by c.learn.new.pass) (seen_by c.learn_all.new.pass) (seen_by c.say.new.pass) (seen_by c.delay.new.pass) (seen_by_note c.args.before) xs c.learn_all.new.requests (look_of c.delay.result) c.most_shown.result d.0 c.bytes_of-bytes.result a.seen a.noted
    (subst (λ j. HasLearned j (seen_by c.learn.new.pass) xs (seen_by c.learn_all.new.pass)) first l.learned) l.requests c.most_shown.ensures
    (subst (λ j. EndsWith j (seen_by c.learn_all.new.pass) (say c.most_shown.result) None (seen_by c.say.new.pass)) second s.said) c.bytes_of-bytes.ensures
    (subst (λ j. EndsWith j (seen_by c.say.new.pass) (delay d.0 c.bytes_of-bytes.result) (Some (look_of c.delay.result)) (seen_by c.delay.new.pass)) third d.2)
