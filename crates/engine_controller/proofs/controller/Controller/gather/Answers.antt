use Rattle.std.proofs.Common.{◌≡◌, ◌≤◌, max, [], ◌∷◌, inl, sym, ap, ◌∙◌, subst, arith}
use Rattle.std.proofs.lemmas.List.{append-nil}
use Rattle.engine_board.specs.declared.rule.Gathered.{Gathered}
use Rattle.engine_board.specs.Board.{In}
use Rattle.engine_controller.specs.Passes.{board_of}
use Rattle.engine_controller.proofs.Spoken.{in_right, grows_to, own_board}
use Rattle.engine_controller.proofs.controller.Controller.gather.Goals as goal

pub returns-clause-own : goal.returns-clause-own
returns-clause-own g c =
    let own = c.requires.own in
    let board = board_of c.args.pass.now in
    let told = c.gather.ensures in
    let e = told.gathered in
    let mark : c.gather.new.by.seat.me.0.marked ≤ c.args.pass.now.tokens = let raised = ap (λ m. m.0.marked) e in omega (arith, raised, own.marked) in
    own_board _ _ _ _ own told.table (ap (λ m. m.1) e) (own.said ∙ sym (ap (λ m. m.0.raised) e)) mark
    (grows_to _ _ [] (record { mark = max board.marked c.args.pass.now.tokens; found = c.gather.result } ∷ []) (ap (λ m. m.0.announced) e ∙ sym (append-nil board.announced)) (ap (λ m. m.0.gathered) e))

pub returns-clause-gathered : goal.returns-clause-gathered
returns-clause-gathered g c =
    let board = board_of c.args.pass.now in
    let marked : max board.marked c.args.pass.now.tokens ≡ c.args.pass.now.tokens = omega (arith, c.requires.own.marked) in
    let found : Gathered = record { mark = c.args.pass.now.tokens; found = c.gather.result } in
    subst (In found) (sym (ap (λ m. m.0.gathered) c.gather.ensures.gathered)) (in_right found board.gathered _ (inl (λ i. record { mark = marked i; found = c.gather.result })))
