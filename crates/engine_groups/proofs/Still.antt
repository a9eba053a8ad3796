-- A writer that is where it was.
use Rattle.std.proofs.Common.{◌≡◌, ℕ, ◌<◌, ◌≤◌, List, sym, ap, ◌∙◌, subst}
use Rattle.line_rule.specs.declared.view.QueuedWriter.{QueuedWriter}
use Rattle.line_rule.specs.declared.view.Handling.{Handling}
use Rattle.line_rule.specs.Plays.{Sat}
use Rattle.line_writers.specs.declared.writer.Writer.{Writer}
use Rattle.line_writers.specs.declared.line_writers.WriterList.{WriterList}
use Rattle.line_writers.specs.Roles.{Chosen}
use Rattle.line_writers.specs.Seats.{Belongs, IsChosen, IsUnchanged, clients_of, answers_told, told_in_first}

module _ {Q P L M K : Type 0} (new old : Writer Q P L M) (still : IsUnchanged new old) where
  pub belongs_still : (list : WriterList Q P L M K) → Belongs list old → Belongs list new
  belongs_still list b = (still.0.0 ∙ b.0, subst (λ (n : ℕ). 0 < n) (sym still.0.1) b.1, subst (λ (n : ℕ). n ≤ clients_of list) (sym still.0.1) b.2)

module _ {Q P L M : Type 0} (new old : Writer Q P L M) (still : IsUnchanged new old) where
  pub told_still : answers_told new ≡ answers_told old
  told_still = ap (λ (m : Sat Q P L M). told_in_first m.0) still.2

  pub chosen_still : (own : QueuedWriter Q) (seen : List (Handling Q P)) (mine : List (Q × P)) → IsChosen own seen mine old → IsChosen own seen mine new
  chosen_still own seen mine h = subst (λ (z : ℕ × Sat Q P L M). Chosen z.0 own seen mine z.1) (λ i. (sym still.0.1 i, sym still.2 i)) h

module _ {Q P L M : Type 0} (a b c : Writer Q P L M) where
  pub still_on : IsUnchanged b a → IsUnchanged c b → IsUnchanged c a
  still_on h k = ((k.0.0 ∙ h.0.0, k.0.1 ∙ h.0.1), k.1 ∙ h.1, k.2 ∙ h.2)
