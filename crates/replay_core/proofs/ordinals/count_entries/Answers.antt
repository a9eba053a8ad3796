use Rattle.std.proofs.Common.{◌≡◌, ℕ, ◌+◌, ◌<◌, ◌++◌, List, length, take, ap, ◌∙◌, subst, arith}
use Rattle.std.proofs.Math.Seq.{take-length}
use Rattle.std.proofs.lemmas.List.{length-append, length-take-le}
use Rattle.replay_core.specs.Shown.{CoreEntry}
use Rattle.replay_core.specs.Ordinals.{AreCounts}
use Rattle.replay_core.proofs.OrdinalLemmas.{counts_more}
use Rattle.replay_core.proofs.RunLemmas.{append_none}
use Rattle.replay_core.proofs.ordinals.count_entries.Goals as goal

pub loop-entry-init : goal.loop-entry-init
loop-entry-init c = λ front few are.
    let P : List CoreEntry → Type 0 = λ es. AreCounts c.args.counts.now es in
    subst P (append_none front) are

pub loop-entry-preserved : goal.loop-entry-preserved
loop-entry-preserved c = λ front few are.
    let es : List CoreEntry = c.args.entries.now in
    let i : ℕ = c.loop-entry.entry-index in
    let lt : i < length es = omega arith in
    let size : length (front ++ take i es) ≡ length front + i = length-append front (take i es) ∙ ap (λ n. length front + n) (length-take-le i es (omega (arith, lt))) in
    counts_more _ front es i _ lt (c.count_one.ensures (front ++ take i es) (omega (arith, size, lt, few)) (c.loop-entry.invariant front few are))

pub returns : goal.returns
returns c = λ front few are.
    let es : List CoreEntry = c.args.entries.now in
    let end : c.loop-entry.entry-index ≡ length es = omega arith in
    let whole : take c.loop-entry.entry-index es ≡ es = ap (λ n. take n es) end ∙ take-length es in
    let P : List CoreEntry → Type 0 = λ xs. AreCounts c.loop-entry.counts (front ++ xs) in
    subst P whole (c.loop-entry.invariant front few are)
