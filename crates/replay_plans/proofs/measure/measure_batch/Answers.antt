use Rattle.std.proofs.Common.{◌≡◌, ℕ, ◌+◌, ◌<◌, ◌≤◌, ◌^◌, [], ◌++◌, Option, sym, ap, ◌∙◌, arith}
use Rattle.std.specs.List.{cons_option}
use Rattle.std.specs.Option.{option_or}
use Rattle.model_base.specs.Batch.{count_of, size_of_batch}
use Rattle.run_command_list.specs.Kinds.{record_added}
use Rattle.run_command_list.specs.Views.{command_of}
use Rattle.model_base.specs.Progress.{families_in, first_missing}
use Rattle.replay_plans.specs.Small.{record_size, record_count, missing_in}
use Rattle.replay_plans.specs.Plans.{added_between}
use Rattle.replay_plans.proofs.LineLemmas.{added_more}
use Rattle.replay_plans.proofs.SizeLemmas.{size_more, count_more, count_below, missing_more}
use Rattle.replay_plans.proofs.measure.measure_batch.Goals as goal

pub loop-place-preserved : goal.loop-place-preserved
loop-place-preserved c = λ begun within fits.
    let plan = c.args.plan.now in
    let from : ℕ = c.args.batch.from in
    let place : ℕ = c.loop-place.place in
    let families : ℕ = c.args.families in
    let o = record_added (command_of c.line.result.now) in
    let more : added_between from (place + 1) plan ≡ added_between from place plan ++ cons_option o [] = added_more from place plan (command_of c.line.result.now) (omega arith) c.line.ensures in
    let size : size_of_batch (added_between from (place + 1) plan) ≡ size_of_batch (added_between from place plan) + record_size o = ap size_of_batch more ∙ size_more (added_between from place plan) o in
    let count : count_of (added_between from (place + 1) plan) ≡ count_of (added_between from place plan) + record_count o = ap count_of more ∙ count_more (added_between from place plan) o in
    let old = c.loop-place.invariant begun within (omega (arith, size, fits)) in
    let below : record_count o ≤ record_size o = count_below o in
    let room : c.loop-place.measure.size + record_size o < 2 ^ 64 = omega (arith, old.0, size, fits) in
    let count_room : c.loop-place.measure.count + record_count o < 2 ^ 64 = omega (arith, old.2, room, below) in
    let new_size = c.with_line-measure.ensures.size room in
    let new_count = c.with_line-measure.ensures.count count_room in (
      omega (arith, new_size, old.0, size),
      omega (arith, new_count, old.1, count),
      omega (arith, new_size, new_count, old.2, below),
      c.with_line-measure.ensures.missing ∙ ap (λ (m : Option ℕ). option_or m (missing_in families o)) old.3
          ∙ sym (missing_more families (added_between from place plan) o) ∙ ap (λ rs. first_missing families (families_in rs)) (sym more),
    )
