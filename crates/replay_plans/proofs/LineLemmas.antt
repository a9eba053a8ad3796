-- A line of a plan, by its place.
use Rattle.std.proofs.Common.{◌≡◌, ℕ, suc, ◌+◌, ◌-◌, ◌<◌, ◌≤◌, List, [], ◌∷◌, ◌++◌, length, take, drop, get_or, Some, ap, ◌∙◌, arith}
use Rattle.std.specs.Prelude.{filter_map, slice_get}
use Rattle.std.specs.List.{cons_option}
use Rattle.std.proofs.lemmas.List.{take_more, get_or-drop, length-drop}
use Rattle.std.proofs.lemmas.List.Elements.{filter_map-append}
use Rattle.std.proofs.lemmas.Option.{get_or_from_slice_get, slice_get_within}
use Rattle.std.proofs.Math.Seq.{drop-cons}
use Rattle.model_base.specs.Calls.{Command}
use Rattle.run_command_list.specs.Kinds.{record_added}
use Rattle.replay_plans.specs.Plans.{between, added_between}

-- the lines from a place on are the line there and those after it
pub front_line : (plan : List Command) (i : ℕ) (x : Command) → slice_get plan i ≡ Some x → drop i plan ≡ x ∷ drop (i + 1) plan
front_line plan i x here =
    let next : suc i ≡ i + 1 = omega arith in
    drop-cons plan i x (slice_get_within plan i x here) ∙ ap (λ y. y ∷ drop (suc i) plan) (get_or_from_slice_get plan i x x here) ∙ ap (λ k. x ∷ drop k plan) next

-- what a line adds comes after what the lines before it add
pub added_more : (from i : ℕ) (plan : List Command) (x : Command) → from ≤ i → slice_get plan i ≡ Some x
    → added_between from (i + 1) plan ≡ added_between from i plan ++ cons_option (record_added x) []
added_more from i plan x begun here =
    let within : i < length plan = slice_get_within plan i x here in
    let less : i + 1 - from ≡ i - from + 1 = omega arith in
    let lt : i - from < length (drop from plan) = omega (arith, length-drop from plan) in
    let at : get_or (drop from plan) (i - from) x ≡ x =
    get_or-drop from plan (i - from) x ∙ (let e : from + (i - from) ≡ i = omega arith in ap (λ k. get_or plan k x) e) ∙ get_or_from_slice_get plan i x x here in
    ap (λ k. filter_map record_added (take k (drop from plan))) less
    ∙ ap (filter_map record_added) (take_more (drop from plan) (i - from) x lt ∙ ap (λ y. take (i - from) (drop from plan) ++ y ∷ []) at)
    ∙ filter_map-append record_added (between from i plan) (x ∷ [])

pub none_added : (n : ℕ) (plan : List Command) → added_between n n plan ≡ []
none_added n plan = let none : n - n ≡ 0 = omega arith in ap (λ k. filter_map record_added (take k (drop n plan))) none
