-- The roles of a writer that has no group.
use Rattle.std.proofs.Common.{◌≡◌, ℕ, List, [], refl, subst}
use Rattle.line_rule.specs.declared.view.Handling.{Handling}
use Rattle.line_rule.specs.declared.view.LineStage.TheVariants.{Helping}
use Rattle.line_rule.specs.Plays.{Sat, At}
use Rattle.line_writers.specs.declared.writer.Task.{Task}
use Rattle.line_writers.specs.declared.writer.Task.TheVariants.{Helps}
use Rattle.line_writers.specs.declared.second.PipelinedRole.{PipelinedRole}
use Rattle.line_writers.specs.declared.second.PipelinedRole.TheVariants.{LogLeader, MemLeader, Parallel, Done}
use Rattle.line_writers.specs.Roles.{IsLinked, Turns}

-- a writer that waits in the list gets no role but to lead, to help its leader, or to be done
pub no_other : {Request Reply Log Right : Type 0} (stood : Log → List (Handling Request Reply) → Type 0) (kept : List (Handling Request Reply) → Type 0) (drops : Request → Reply → Type 0) (c : ℕ) (task : Task) (q : Request) (mine : List (Request × Reply)) (m : Sat Request Reply Log Right) (role : PipelinedRole Log Right Reply) → (role ≡ Parallel → ⊥) → ((l : Log) → role ≡ LogLeader l → ⊥) → ((p : Reply) → role ≡ Done p → ⊥)
    → Turns stood kept drops c task q mine role m → ⊥
no_other stood kept drops c task q mine m (LogLeader l) helps leads done t = leads l refl
no_other stood kept drops c task q mine m (MemLeader right) helps leads done t = t
no_other stood kept drops c task q mine m Parallel helps leads done t = helps refl
no_other stood kept drops c task q mine m (Done p) helps leads done t = done p refl

-- a writer with the role `Parallel`, whose task is to help, works in parallel with its leader
pub helps_now : {Request Reply Log Right : Type 0} (stood : Log → List (Handling Request Reply) → Type 0) (kept : List (Handling Request Reply) → Type 0) (drops : Request → Reply → Type 0) (c : ℕ) (task : Task) (q : Request) (mine : List (Request × Reply)) (m : Sat Request Reply Log Right) (role : PipelinedRole Log Right Reply) → role ≡ Parallel → task ≡ Helps
    → Turns stood kept drops c task q mine role m → At c (Helping q) mine m × (m.1 ≡ [])
helps_now stood kept drops c task q mine m role is helps t = subst (λ u. IsLinked stood c u q mine m) helps (subst (λ r. Turns stood kept drops c task q mine r m) is t)
