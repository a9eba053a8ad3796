-- The line of one pair more.
use Rattle.std.proofs.Common.{◌≡◌, ℕ, List, [], ◌∷◌, ◌++◌, flat_map, length, codes, decimal, ap, ◌∙◌, rules}
use Rattle.model_base.specs.declared.key.Key.{Key}
use Rattle.model_base.specs.Text.{line}
use Rattle.model_base.specs.Map.{key_at}
use Rattle.program_text.specs.ShownText.{plain, pair_line}
use Rattle.program_printing.proofs.Putting.{none_put, same_put, then_put}
use Rattle.program_text.proofs.Loops.{ended_early, failed_is, next_of, none_left}
use Rattle.program_text.proofs.states.put_map.Goals as goal

pub loop-family-init : goal.loop-family-init
loop-family-init g c =
    ([], ap (flat_map (pair_line plain)) (c.into_iter-family-iterator.ensures.into_iter_gives ∙ c.iter-family-items.ensures), none_put g.K.Sink c.put_line.new.printer c.put_line.new.sink)

pub loop-family-preserved : goal.loop-family-preserved
loop-family-preserved g c =
    let so_far = c.loop-family.invariant in
    let p : Key × List ℕ = (key_at c.in-Some.family c.in-Some.key.now, c.in-Some.value.now) in (
      so_far.0 ++ pair_line plain p,
      next_of (pair_line plain) so_far.0 c.loop-family.family-iterator c.next.new.self p _ c.in-Some.ensures.steps so_far.1,
      then_put g.K.Sink _ _ _ _ _ _ so_far.0 (pair_line plain p) so_far.2 c.put_pair.ensures,
    )

-- once a write has failed, the pairs that are left may be put
pub returns-then-has_failed : goal.returns-then-has_failed
returns-then-has_failed g c =
    let so_far = c.loop-family.invariant in
    let pairs = c.args.map.now in
    let lines : List ℕ = flat_map (pair_line plain) pairs in
    let head : line (codes "state" ∷ decimal c.args.last ∷ decimal c.len.result ∷ []) ≡ line (codes "state" ∷ decimal c.args.last ∷ decimal (length pairs) ∷ []) = search rules in
    then_put g.K.Sink _ _ _ _ _ _ (line (codes "state" ∷ decimal c.args.last ∷ decimal (length pairs) ∷ [])) lines (same_put g.K.Sink _ _ _ _ _ _ head c.put_line.ensures)
    (ended_early g.K.Sink _ _ _ _ so_far.0 (flat_map (pair_line plain) c.loop-family.family-iterator) lines (failed_is c.loop-family.printer c.has_failed.result c.has_failed.ensures c.if-has_failed.true) so_far.1 so_far.2)

-- no pair is left
pub returns : goal.returns
returns g c =
    let so_far = c.loop-family.invariant in
    let pairs = c.args.map.now in
    let lines : List ℕ = flat_map (pair_line plain) pairs in
    let head : line (codes "state" ∷ decimal c.args.last ∷ decimal c.len.result ∷ []) ≡ line (codes "state" ∷ decimal c.args.last ∷ decimal (length pairs) ∷ []) = search rules in
    then_put g.K.Sink _ _ _ _ _ _ (line (codes "state" ∷ decimal c.args.last ∷ decimal (length pairs) ∷ [])) lines (same_put g.K.Sink _ _ _ _ _ _ head c.put_line.ensures)
    (same_put g.K.Sink _ _ _ _ _ _ (none_left (pair_line plain) so_far.0 c.loop-family.family-iterator lines c.in-None.ensures.steps.0 so_far.1) so_far.2)
