use Rattle.std.proofs.Common.{◌≡◌, ℕ, ◌+◌, length-set, ◌∙◌, subst}
use Rattle.engine_controller.specs.declared.pass.Pass.{Pass}
use Rattle.engine_controller.specs.Passes.{client_of, seen_by_note, seen_by, GoesOn, IsPassOf}
use Rattle.engine_groups.proofs.FirstPass.{each_after, first_at, history_before, last_seen}
use Rattle.engine_groups.proofs.closing.end_controller.Goals as goal

pub learn-requires-clause-own : goal.learn-requires-clause-own
learn-requires-clause-own g c =
    let xs = c.args.passes.clients.items in let p = c.index_mut.result.now in
    (c.requires.all.each 0 p (first_at xs p c.requires.some c.index_mut.ensures.value)).0

pub close-requires : goal.close-requires
close-requires g c =
    let xs = c.args.passes.clients.items in let p = c.index_mut.result.now in
    let first = c.requires.all.each 0 p (first_at xs p c.requires.some c.index_mut.ensures.value) in
    let controller = c.args.controller in let q = c.learn.new.pass in let own = c.learn.ensures.own in
    record {
      all = record {
        number = length-set xs 0 q ∙ c.requires.all.number;
        each = each_after (λ (i : ℕ) (x : Pass). IsPassOf controller x × (client_of x ≡ i + 1)) xs q (own.0, own.1 ∙ first.1) c.requires.all.each;
        others_are = c.requires.all.others_are;
      };
    }

pub returns : goal.returns
returns g c =
    let xs = c.args.passes.clients.items in let p = c.index_mut.result.now in let at = c.index_mut.ensures.value in
    let first = c.requires.all.each 0 p (first_at xs p c.requires.some at) in
    let q = c.learn.new.pass in
    let goes = subst (λ n. GoesOn n (seen_by p) (seen_by q)) first.1 c.learn.ensures.seen in
    let h = c.close.ensures.history in
    (h.0, history_before xs p q h.0 c.requires.some at goes h.1, last_seen xs q (seen_by_note c.args.note) h.0 c.requires.some c.learn.ensures.noted h.1)
