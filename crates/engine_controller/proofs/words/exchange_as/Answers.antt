use Rattle.std.proofs.Common.{◌≡◌, ◌≢◌, true, false, true≢false, Result, Ok, Err, sym, ◌∙◌, subst, rules}
use Rattle.std.specs.Prelude.{IfOk, IfErr, MatchResult}
use Rattle.crossbeam_utils.specs.Seq.{cell_view}
use Rattle.engine_controller.specs.declared.numbers.Numbers.{Numbers}
use Rattle.engine_controller.proofs.Moves.{eq_numbers, eq_same, eq_here}
use Rattle.engine_controller.proofs.words.exchange_as.Goals as goal

pub compare_exchange_as-requires : goal.compare_exchange_as-requires
compare_exchange_as-requires g c =
    let r = c.requires in
    (search rules, (search rules, (r.cell, r.rule eq_numbers eq_same eq_here)))

-- where the exchange succeeds, it found the numbers that it looked for, and else other numbers
exchanged : (r : Result Numbers Numbers) (found new : Numbers) (then : Numbers → Numbers → Type 0) → MatchResult r (λ x. (eq_numbers x found ≡ true) × then x new) (λ x. (eq_numbers x found ≡ false) × then x x) → IfOk r (λ _. then found new)
exchanged (Ok x) found new then h = subst (λ y. then y new) (eq_same x found h.0) h.1
exchanged (Err x) found new then h = search

other_found : (r : Result Numbers Numbers) (found new : Numbers) (then : Numbers → Numbers → Type 0) → MatchResult r (λ x. (eq_numbers x found ≡ true) × then x new) (λ x. (eq_numbers x found ≡ false) × then x x) → IfErr r (λ x. (x ≢ found) × then x x)
other_found (Ok x) found new then h = search
other_found (Err x) found new then h = (λ e. absurd (true≢false (sym (eq_here x found e) ∙ h.0)), h.1)

pub returns-clause-ok : goal.returns-clause-ok
returns-clause-ok g c = exchanged c.compare_exchange_as.result c.args.found c.args.new (λ x y. g.Picked.Outcome.then (cell_view c.args.seat.now) x y (cell_view c.compare_exchange_as.new.pass)) c.compare_exchange_as.ensures.rule

pub returns-clause-err : goal.returns-clause-err
returns-clause-err g c = other_found c.compare_exchange_as.result c.args.found c.args.new (λ x y. g.Picked.Outcome.then (cell_view c.args.seat.now) x y (cell_view c.compare_exchange_as.new.pass)) c.compare_exchange_as.ensures.rule
