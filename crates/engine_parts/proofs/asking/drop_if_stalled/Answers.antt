use Rattle.std.proofs.Common.{◌∙◌, ap, subst, sym, ℕ, List, Err, Some}
use Rattle.model_base.specs.Controller.{ControllerCall, ShowTokens, look}
use Rattle.engine_controller.specs.Looks.{look_of}
use Rattle.engine_controller.specs.Passes.{client_of, seen_by, EndsWith}
use Rattle.engine_controller.proofs.Account.{goes_begins}
use Rattle.engine_parts.specs.declared.requests.Answer.{Answer}
use Rattle.engine_parts.specs.declared.requests.Request.{Request}
use Rattle.engine_parts.specs.Asking.{OnlyLooks}
use Rattle.engine_parts.specs.Handled.{held_up_with, noted_in, LookedInStall}
use Rattle.engine_parts.proofs.Stalls.{looked_in_stall, only_one, saw_none}
use Rattle.engine_parts.proofs.asking.drop_if_stalled.Goals as goal

pub returns-then-not-shows_tokens-clause-looks : goal.returns-then-not-shows_tokens-clause-looks
returns-then-not-shows_tokens-clause-looks g c =
    let was = c.args.pass.now in let met = c.learn_of.new.pass in let k : ℕ = client_of was in
    only_one k (seen_by was) (seen_by met) (seen_by c.look-look.new.pass) (look_of c.look-look.result) c.learn_of.ensures.seen
    (subst (λ j. EndsWith j (seen_by met) look (Some (look_of c.look-look.result)) (seen_by c.look-look.new.pass)) c.learn_of.ensures.pass.1 c.look-look.ensures.asked)

pub returns-then-not-shows_tokens-clause-none : goal.returns-then-not-shows_tokens-clause-none
returns-then-not-shows_tokens-clause-none g c =
    let was = c.args.pass.now in let met = c.learn_of.new.pass in let k : ℕ = client_of was in
    saw_none k (seen_by was) (seen_by met) (seen_by c.look-look.new.pass) (look_of c.look-look.result) (goes_begins k (seen_by was) (seen_by met) c.learn_of.ensures.seen)
    (subst (λ j. EndsWith j (seen_by met) look (Some (look_of c.look-look.result)) (seen_by c.look-look.new.pass)) c.learn_of.ensures.pass.1 c.look-look.ensures.asked)
    (λ (shown : ShowTokens (look_of c.look-look.result)). let is = c.shows_tokens.ensures.none shown in absurd (cc))

pub returns-clause-looks : goal.returns-clause-looks
returns-clause-looks g c =
    let was = c.args.pass.now in let met = c.learn_of.new.pass in let k : ℕ = client_of was in
    let looks : OnlyLooks k (seen_by was) (seen_by c.look-look.new.pass) =
    only_one k (seen_by was) (seen_by met) (seen_by c.look-look.new.pass) (look_of c.look-look.result) c.learn_of.ensures.seen
    (subst (λ j. EndsWith j (seen_by met) look (Some (look_of c.look-look.result)) (seen_by c.look-look.new.pass)) c.learn_of.ensures.pass.1 c.look-look.ensures.asked) in
    subst (λ (l : List ControllerCall). OnlyLooks k (seen_by was) l) (sym c.note.ensures.seen) looks

pub returns-clause-dropped : goal.returns-clause-dropped
returns-clause-dropped g c =
    let was = c.args.pass.now in let met = c.learn_of.new.pass in let k : ℕ = client_of was in
    let numbers = look_of c.look-look.result in
    let same = c.learn_of.ensures.same in let told = c.tell.ensures in
    let looked : LookedInStall (noted_in c.args.request.note) (seen_by c.look-look.new.pass) numbers =
    looked_in_stall k (noted_in c.args.request.note) (seen_by was) (seen_by met) (seen_by c.look-look.new.pass) numbers c.requires.stalls c.learn_of.ensures.seen c.learn_of.ensures.noted
    (subst (λ j. EndsWith j (seen_by met) look (Some numbers) (seen_by c.look-look.new.pass)) c.learn_of.ensures.pass.1 c.look-look.ensures.asked) in
    record {
      may_not_wait = c.requires.request.1;
      numbers = numbers;
      answer = ap (λ (a : Answer). a.answer) told ∙ ap Err (c.refused_by.ensures ∙ ap (held_up_with numbers) (c.batch_of-batch.ensures ∙ ap (λ (q : Request). q.batch) same));
      shown = c.shows_tokens.ensures.shown (cc);
      note = c.note.result;
      noted = ap (λ (a : Answer). a.note) told;
      own = c.note.ensures.note.0;
      looked = subst (λ (l : List ControllerCall). LookedInStall (noted_in c.args.request.note) l numbers) (sym c.note.ensures.note.1) looked;
    }
