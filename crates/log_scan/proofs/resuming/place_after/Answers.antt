use Rattle.std.proofs.Common.{◌≡◌, ◌≤◌, ℕ, List, length, Option, Some, None, option_and_then, IfOk, IfSome, OnOk, sym, ◌∙◌, ap, subst, arith}
use Rattle.model_base.specs.declared.log.EndReason.{EndReason}
use Rattle.model_base.specs.declared.log.EndReason.TheVariants as ends
use Rattle.model_base.specs.Reading.{ReadingEnds}
use Rattle.log_reader.specs.Opens.{starts_at}
use Rattle.log_reader.specs.Reader.{Follows}
use Rattle.log_reader.proofs.FromDisk.{if_one, if_both}
use Rattle.log_scan.specs.Resuming.{there, after_damage, after_header, resumes_at}
use Rattle.log_scan.proofs.Resumed.{IsRest, misplaced_inside, misplaced_is, broken_inside, broken_ends, broken_goes, if_ok}
use Rattle.log_scan.proofs.resuming.place_after.Goals as goal

pub returns-in_ok-go_to-in-BadOrder-clause-place : goal.returns-in_ok-go_to-in-BadOrder-clause-place
returns-in_ok-go_to-in-BadOrder-clause-place g c =
    let number = c.args.number in
    let at = c.args.at in
    let old = c.args.reader.now in
    let new = c.go_to.new.self in
    let rest = c.rest.result.now in
    let place = c.after_misplaced.result in
    let ok = c.in_ok-go_to-in-BadOrder.ensures in
    if_both (g.R.ReadAt.held c.args.disk.now) (λ file. Follows file old → at ≤ length file → new.place ≡ at) (λ file. Follows file old → starts_at at ≤ length file → Follows file new) _ ok.there ok.follows
    (λ file there_is stays on from ended.
    let end = subst (λ (r : EndReason). ReadingEnds number file from at r) c.in-BadOrder.is ended in
    let inside = misplaced_inside number file from at end in
    let here = there_is on inside in
    let is = subst (λ (n : ℕ). IsRest file n rest) here (c.rest.ensures.bytes file (stays on (omega (arith, inside))) ok.block ok.going) in
    subst (λ (r : EndReason). option_and_then (there file) place ≡ resumes_at number file at r) (sym c.in-BadOrder.is)
    (misplaced_is number file rest from at place end is
    (λ kind code whole. c.after_misplaced.ensures.place kind code whole ∙ ap (λ (n : ℕ). Some (after_header number rest n)) (c.place.ensures ∙ here))))

pub returns-in_ok-go_to-in-BadOrder-clause-follows : goal.returns-in_ok-go_to-in-BadOrder-clause-follows
returns-in_ok-go_to-in-BadOrder-clause-follows g c =
    let number = c.args.number in
    let at = c.args.at in
    if_one (g.R.ReadAt.held c.args.disk.now) (λ file. Follows file c.args.reader.now → starts_at at ≤ length file → Follows file c.go_to.new.self) _ c.in_ok-go_to-in-BadOrder.ensures.follows
    (λ file stays on from ended.
    let inside = misplaced_inside number file from at (subst (λ (r : EndReason). ReadingEnds number file from at r) c.in-BadOrder.is ended) in
    stays on (omega (arith, inside)))

pub returns-then-is_compressed-clause-place : goal.returns-then-is_compressed-clause-place
returns-then-is_compressed-clause-place g c =
    let number = c.args.number in
    let at = c.args.at in
    let d = c.in-Broken.field-0 in
    let old = c.args.reader.now in
    let new = c.go_to-in-Broken.new.self in
    let rest = c.rest-in-Broken.result.now in
    let ok = c.in_ok-go_to-in-Broken.ensures in
    if_both (g.R.ReadAt.held c.args.disk.now) (λ file. Follows file old → at ≤ length file → new.place ≡ at) (λ file. Follows file old → starts_at at ≤ length file → Follows file new) _ ok.there ok.follows
    (λ file there_is stays on from ended.
    let inside = broken_inside number file from at d (subst (λ (r : EndReason). ReadingEnds number file from at r) c.in-Broken.is ended) in
    let is = subst (λ (n : ℕ). IsRest file n rest) (there_is on inside) (c.rest-in-Broken.ensures.bytes file (stays on (omega (arith, inside))) ok.block ok.going) in
    subst (λ (r : EndReason). None ≡ resumes_at number file at r) (sym c.in-Broken.is)
    (broken_ends number file rest at d is (sym c.is_compressed.ensures ∙ c.if-is_compressed.true)))

pub returns-then-is_compressed-clause-follows : goal.returns-then-is_compressed-clause-follows
returns-then-is_compressed-clause-follows g c =
    let number = c.args.number in
    let at = c.args.at in
    if_one (g.R.ReadAt.held c.args.disk.now) (λ file. Follows file c.args.reader.now → starts_at at ≤ length file → Follows file c.go_to-in-Broken.new.self) _ c.in_ok-go_to-in-Broken.ensures.follows
    (λ file stays on from ended.
    let inside = broken_inside number file from at c.in-Broken.field-0 (subst (λ (r : EndReason). ReadingEnds number file from at r) c.in-Broken.is ended) in
    stays on (omega (arith, inside)))

-- where reading goes on after damage at the reader's place
abbrev Goes : Option ℕ → ℕ → Option ℕ → List ℕ → Type 0
Goes number place answer file = option_and_then (there file) answer ≡ there file (after_damage number file place)

pub returns-else-is_compressed-clause-place : goal.returns-else-is_compressed-clause-place
returns-else-is_compressed-clause-place g c =
    let number = c.args.number in
    let at = c.args.at in
    let d = c.in-Broken.field-0 in
    let old = c.args.reader.now in
    let new = c.go_to-in-Broken.new.self in
    let rest = c.rest-in-Broken.result.now in
    let answer = c.after_damage.result in
    let ok = c.in_ok-go_to-in-Broken.ensures in
    let held = g.R.ReadAt.held c.args.disk.now in
    let goes = subst (λ (t : Option (List ℕ)). IfSome t (λ file. Follows file new → IfOk answer (λ place. Goes number new.place place file))) (g.met.R.ReadAt.reads_keep _ _ ok.disk) c.after_damage.ensures.place in
    let both = if_both held (λ file. Follows file old → at ≤ length file → new.place ≡ at) (λ file. Follows file old → starts_at at ≤ length file → Follows file new)
    (λ file. (Follows file old → at ≤ length file → new.place ≡ at) × (Follows file old → starts_at at ≤ length file → Follows file new)) ok.there ok.follows (λ file t f. (t, f)) in
    if_both held (λ file. (Follows file old → at ≤ length file → new.place ≡ at) × (Follows file old → starts_at at ≤ length file → Follows file new))
    (λ file. Follows file new → IfOk answer (λ place. Goes number new.place place file)) _ both goes
    (λ file went after on from ended.
    let inside = broken_inside number file from at d (subst (λ (r : EndReason). ReadingEnds number file from at r) c.in-Broken.is ended) in
    let here = went.0 on inside in
    let follows = went.1 on (omega (arith, inside)) in
    let is = subst (λ (n : ℕ). IsRest file n rest) here (c.rest-in-Broken.ensures.bytes file follows ok.block ok.going) in
    subst (λ (r : EndReason). IfOk answer (λ place. option_and_then (there file) place ≡ resumes_at number file at r)) (sym c.in-Broken.is)
    (if_ok answer (λ place. Goes number new.place place file) (λ place. option_and_then (there file) place ≡ resumes_at number file at (ends.Broken d)) (after follows)
    (λ place goes_there. broken_goes number file rest at d (option_and_then (there file) place) is (sym c.is_compressed.ensures ∙ c.if-is_compressed.false)
    (goes_there ∙ ap (λ (n : ℕ). there file (after_damage number file n)) here))))

pub returns-else-is_compressed-clause-follows : goal.returns-else-is_compressed-clause-follows
returns-else-is_compressed-clause-follows g c =
    let number = c.args.number in
    let at = c.args.at in
    let old = c.args.reader.now in
    let new = c.go_to-in-Broken.new.self in
    let answer = c.after_damage.result in
    let ok = c.in_ok-go_to-in-Broken.ensures in
    let held = g.R.ReadAt.held c.args.disk.now in
    let stays = subst (λ (t : Option (List ℕ)). IfSome t (λ file. Follows file new → OnOk answer (Follows file c.after_damage.new.reader))) (g.met.R.ReadAt.reads_keep _ _ ok.disk) c.after_damage.ensures.follows in
    if_both held (λ file. Follows file old → starts_at at ≤ length file → Follows file new) (λ file. Follows file new → OnOk answer (Follows file c.after_damage.new.reader)) _ ok.follows stays
    (λ file went after on from ended.
    let inside = broken_inside number file from at c.in-Broken.field-0 (subst (λ (r : EndReason). ReadingEnds number file from at r) c.in-Broken.is ended) in
    after (went on (omega (arith, inside))))
