-- Versions that are numbered one after another are one run.
use Rattle.std.proofs.Common.{◌≡◌, ℕ, suc, ◌+◌, List, [], ◌∷◌, subst, arith}
use Rattle.table_rule.specs.declared.content.Version.{Version}
use Rattle.table_rule.specs.Histories.{Runs}
use Rattle.table_rule.specs.Batches.{number_from}

pub numbered_runs : (last : ℕ) (vs : List Version) → Runs last (number_from (last + 1) vs)
numbered_runs last [] = tt
numbered_runs last (v ∷ vs) = (omega arith, subst (λ n. Runs n (number_from (last + 1 + 1) vs)) (let e : last + 1 ≡ suc last = omega arith in e) (numbered_runs (last + 1) vs))
