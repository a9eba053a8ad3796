use Rattle.std.proofs.Common.{ℕ, ◌≤◌, [], ◌∷◌, inl, refl, sym, ap, ◌∙◌, subst}
use Rattle.std.proofs.lemmas.List.{append-nil}
use Rattle.engine_board.specs.declared.rule.Announced.{Announced}
use Rattle.engine_board.specs.Board.{In}
use Rattle.engine_controller.specs.Passes.{board_of}
use Rattle.engine_controller.proofs.Spoken.{in_right, grows_to, own_board}
use Rattle.engine_controller.proofs.controller.Controller.announce.Goals as goal

pub returns-clause-own : goal.returns-clause-own
returns-clause-own g c =
    let before = c.raise.ensures.own in
    let own = before.0 in
    let pass = c.raise.new.pass in
    let board = board_of pass in
    let told = c.announce.ensures in
    let e = told.announced in
    let after = own_board _ _ _ _ own told.table (ap (λ m. m.1) e) (own.said ∙ sym (ap (λ m. m.0.raised) e)) (subst (λ (n : ℕ). n ≤ pass.tokens) (sym (ap (λ m. m.0.marked) e)) own.marked)
    (grows_to _ _ (record { mark = c.announce.result; said = board.raised } ∷ []) [] (ap (λ m. m.0.announced) e) (ap (λ m. m.0.gathered) e ∙ sym (append-nil board.gathered))) in
    (after.0, after.1 ∙ before.1)

pub returns-clause-announced : goal.returns-clause-announced
returns-clause-announced g c =
    let board = board_of c.raise.new.pass in
    let said : Announced = record { mark = c.announce.result; said = board.raised } in
    (board.raised, subst (In said) (sym (ap (λ m. m.0.announced) c.announce.ensures.announced)) (in_right said board.announced _ (inl refl)), c.raise.ensures.raised)
