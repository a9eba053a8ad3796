use Rattle.std.proofs.Common.{◌≡◌, ℕ, ◌≤◌, max, [], sym, ap, ◌∙◌, subst, arith}
use Rattle.std.proofs.lemmas.List.{append-nil}
use Rattle.engine_controller.specs.Passes.{board_of}
use Rattle.engine_controller.proofs.Spoken.{grows_to, own_board}
use Rattle.engine_controller.proofs.controller.Controller.raise.Goals as goal

pub returns-then-shown-pass-clause-raised : goal.returns-then-shown-pass-clause-raised
returns-then-shown-pass-clause-raised g c = subst (λ (n : ℕ). c.args.shown ≤ n) c.requires.own.said c.if-shown-pass.true

pub returns-clause-own : goal.returns-clause-own
returns-clause-own g c =
    let own = c.requires.own in
    let board = board_of c.args.pass.now in
    let told = c.raise.ensures in
    let e = told.raised in
    let most : max board.raised c.args.shown ≡ c.args.shown = let had = own.said in let less = c.if-shown-pass.false in omega (arith, had, less) in
    own_board _ _ _ _ own told.table (ap (λ m. m.1) e) (sym (ap (λ m. m.0.raised) e ∙ most)) (subst (λ (n : ℕ). n ≤ c.args.pass.now.tokens) (sym (ap (λ m. m.0.marked) e)) own.marked)
    (grows_to _ _ [] [] (ap (λ m. m.0.announced) e ∙ sym (append-nil board.announced)) (ap (λ m. m.0.gathered) e ∙ sym (append-nil board.gathered)))

pub returns-clause-raised : goal.returns-clause-raised
returns-clause-raised g c = subst (λ (n : ℕ). c.args.shown ≤ n) (sym (ap (λ m. m.0.raised) c.raise.ensures.raised)) (omega arith)
