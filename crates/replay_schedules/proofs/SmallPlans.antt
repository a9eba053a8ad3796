-- Where all that each client of a script adds fits one batch, the batches are small enough for the core, even if no
-- commit is accepted.
use Rattle.std.proofs.Common.{◌≡◌, ◌+◌, ◌≤◌, List, [], ◌∷◌, ◌++◌, length, ap, sym, ◌∙◌, subst, arith, append-nil, length-append}
use Rattle.std.specs.List.{AllByRecursion}
use Rattle.std.proofs.lemmas.Grind.{flat_map-append}
use Rattle.model_base.specs.declared.limits.TheConstants.{MAX_SIZE}
use Rattle.model_base.specs.Batch.{Record, count_of, header, body, record_bytes, size_of_batch}
use Rattle.model_base.specs.Calls.{Command, add, clear, commit, get, many, scan, updates, stop, unstop, slow, unslow}
use Rattle.run_scripts.specs.declared.script.Script.{Script}
use Rattle.run_scripts.specs.Scripts as scripts
use Rattle.run_scripts.specs.Scripts.{additions_of, FitsBatches}
use Rattle.replay_plans.specs.declared.plan.ClientPlan.{ClientPlan}
use Rattle.replay_plans.specs.Small.{AreSmall, IsSmallPlan}

size_is : (records : List Record) → size_of_batch records ≡ 12 + length (body records)
size_is records = length-append (header 0 (count_of records)) (body records)

body_more : (records : List Record) (r : Record) → length (body (records ++ r ∷ [])) ≡ length (body records) + length (record_bytes r)
body_more records r =
    ap length (flat_map-append record_bytes records (r ∷ []) ∙ ap (λ bytes. body records ++ bytes) (append-nil (record_bytes r))) ∙ length-append (body records) (record_bytes r)

-- the commands that are left are small where what they add still fits the batch
small_commands : (cs : List Command) (added : List Record) → size_of_batch added + length (body (additions_of cs)) ≤ MAX_SIZE → AreSmall added cs
small_commands [] added fits = tt
small_commands (add r ∷ cs) added fits =
    let both = length-append (record_bytes r) (body (additions_of cs)) in
    small_commands cs (added ++ r ∷ []) (omega (arith, fits, both, size_is added, size_is (added ++ r ∷ []), body_more added r))
small_commands (clear ∷ cs) added fits = small_commands cs [] (omega (arith, fits, size_is added, size_is []))
small_commands (commit how ∷ cs) added fits = (omega (arith, fits), small_commands cs added fits)
small_commands (get key ∷ cs) added fits = small_commands cs added fits
small_commands (many keys ∷ cs) added fits = small_commands cs added fits
small_commands (scan family lo hi ∷ cs) added fits = small_commands cs added fits
small_commands (updates n ∷ cs) added fits = small_commands cs added fits
small_commands (stop ∷ cs) added fits = small_commands cs added fits
small_commands (unstop ∷ cs) added fits = small_commands cs added fits
small_commands (slow rate ∷ cs) added fits = small_commands cs added fits
small_commands (unslow ∷ cs) added fits = small_commands cs added fits

-- all that these commands add fits one batch
abbrev Fit : List Command → Type 0
Fit cs = size_of_batch (additions_of cs) ≤ MAX_SIZE

one_small : (cs : List Command) → Fit cs → AreSmall [] cs
one_small cs fits = small_commands cs [] (omega (arith, fits, size_is (additions_of cs), size_is []))

all_small : (plans : List ClientPlan) → AllByRecursion Fit plans → AllByRecursion IsSmallPlan plans
all_small [] fit = tt
all_small (p ∷ plans) fit = (one_small p fit.0, all_small plans fit.1)

-- the plans of a script's clients are small
pub small_plans : (plans : List ClientPlan) (script : Script) → plans ≡ scripts.commands_of script → FitsBatches script → AllByRecursion IsSmallPlan plans
small_plans plans script same fit = all_small plans (subst (AllByRecursion Fit) (sym same) fit)
