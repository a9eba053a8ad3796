use Rattle.std.proofs.Common.{◌≡◌, ℕ, ◌<◌, ◌++◌, List, length, map, take, ◌∙◌, ap, subst, arith}
use Rattle.model_base.specs.Calls.{refused}
use Rattle.model_core.specs.Core as core
use Rattle.replay_core.specs.declared.writer.Writer.{Writer}
use Rattle.replay_core.specs.Mirrors.{AreDone}
use Rattle.replay_core.specs.Shown.{shown_writer}
use Rattle.replay_core.proofs.LeavingLemmas.{refused_more, known_at, known_len}
use Rattle.std.proofs.Math.Seq.{take-length}
use Rattle.replay_core.proofs.leaving.note_refused.Goals as goal

pub loop-writer-preserved : goal.loop-writer-preserved
loop-writer-preserved c = (
  omega (arith, c.note_done.ensures.len, c.loop-writer.invariant.0),
  λ plans leaving are known.
      let group = c.args.group.now in
      let i : ℕ = c.loop-writer.writer-index in
      let lt : i < length group = omega arith in
      let same : length c.args.done.now.items ≡ length c.loop-writer.done.items = omega (arith, c.loop-writer.invariant.0, c.loop-writer.done.ok.0, c.args.done.now.ok.0) in
      refused_more plans c.args.why _ leaving group i _ lt (c.note_done.ensures.noted plans (leaving ++ core.all_answered (refused c.args.why) (map (shown_writer plans) (take i group))) (c.loop-writer.invariant.1 plans leaving are known)
      (known_len _ _ _ same (let k = known_at (length c.args.done.now.items) group i _ known lt in record { from_one = k.from_one; few = k.few }))),
)

pub returns-clause-noted : goal.returns-clause-noted
returns-clause-noted c = λ plans leaving are known.
    let group = c.args.group.now in
    let end : c.loop-writer.writer-index ≡ length group = omega arith in
    let whole : take c.loop-writer.writer-index group ≡ group = ap (λ n. take n group) end ∙ take-length group in
    let P : List Writer → Type 0 = λ ws. AreDone plans c.loop-writer.done.items (leaving ++ core.all_answered (refused c.args.why) (map (shown_writer plans) ws)) in
    subst P whole (c.loop-writer.invariant.1 plans leaving are known)
