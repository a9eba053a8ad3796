-- The entries of a history are of clients that exist.
use Rattle.std.proofs.Common.{◌≡◌, ℕ, zero, suc, ◌-◌, ◌<◌, ◌≤◌, List, [], ◌∷◌, length, map, slice_get, Option, Some, None, refl, arith}
use Rattle.std.specs.Option.{option_map_or}
use Rattle.std.specs.List.{AllByRecursion}
use Rattle.model_base.specs.Batch.{count_of}
use Rattle.model_base.specs.History.{Follows, IsHistory, last_of}
use Rattle.replay_plans.specs.declared.plan.ClientPlan.{ClientPlan}
use Rattle.replay_plans.specs.declared.plan.Lines.{Lines}
use Rattle.replay_plans.specs.Plans.{records_in, records_of}
use Rattle.replay_core.specs.Shown.{CoreEntry, shown_entry}
use Rattle.replay_core.specs.Within.{IsWithinPlans}

get_within : {A : Type 0} (xs : List A) (i : ℕ) (x : A) → slice_get xs i ≡ Some x → i < length xs
get_within [] i x e = cc
get_within (y ∷ xs) zero x e = omega arith
get_within (y ∷ xs) (suc i) x e = omega (arith, get_within xs i x e)

some_lines : (plan : ClientPlan) (batch : Lines) → 1 ≤ count_of (records_in plan batch) → batch.from < batch.to
some_lines plan batch h = by_len (batch.to - batch.from) refl
  where
    by_len : (n : ℕ) → batch.to - batch.from ≡ n → batch.from < batch.to
    by_len zero e = let none = rw e at h in absurd (omega (arith, none))
    by_len (suc n) e = omega arith

client_known : (plans : List ClientPlan) (c : ℕ) (batch : Lines) → 1 ≤ count_of (records_of plans c batch) → (1 ≤ c) × (c ≤ length plans) × (batch.from < batch.to)
client_known plans zero batch h = absurd (omega arith)
client_known plans (suc c) batch h = by_plan (slice_get plans c) refl h
  where
    by_plan : (found : Option ClientPlan) → slice_get plans c ≡ found → 1 ≤ count_of (option_map_or (λ plan. records_in plan batch) found []) → (1 ≤ suc c) × (suc c ≤ length plans) × (batch.from < batch.to)
    by_plan None e h = absurd (omega arith)
    by_plan (Some plan) e h = (omega arith, omega (arith, get_within plans c plan e), some_lines plan batch h)

entry_within : (plans : List ClientPlan) (last : ℕ) (e : CoreEntry) → Follows last (shown_entry plans e) → IsWithinPlans plans e
entry_within plans last e f =
    let counted : 1 ≤ count_of (records_of plans e.client e.batch) = omega (arith, f.counted, f.some) in
    let known : (1 ≤ e.client) × (e.client ≤ length plans) × (e.batch.from < e.batch.to) = client_known plans e.client e.batch counted in
    record { from_one = known.0; few = known.1; some_lines = known.2; some = omega (arith, f.some); fits = omega (arith, f.some, f.fits) }

pub history_within : (plans : List ClientPlan) (last : ℕ) (es : List CoreEntry) → IsHistory last (map (shown_entry plans) es) → AllByRecursion (IsWithinPlans plans) es
history_within plans last [] h = tt
history_within plans last (e ∷ es) h = (entry_within plans last e h.0, history_within plans (last_of (shown_entry plans e)) es h.1)
