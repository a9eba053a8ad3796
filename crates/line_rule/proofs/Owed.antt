-- What a leader owes, with an equal list of the members that must still get their replies.
use Rattle.std.proofs.Common.{◌≡◌, ℕ, List, subst}
use Rattle.line_rule.specs.declared.view.QueuedWriter.{QueuedWriter}
use Rattle.line_rule.specs.declared.view.Debt.{Debt}
use Rattle.line_rule.specs.declared.view.Back.{Back}
use Rattle.line_rule.specs.declared.view.LineStage.TheVariants.{Settling}
use Rattle.line_rule.specs.Before.{ListState}
use Rattle.line_rule.specs.Handing.{Sees}
use Rattle.line_rule.specs.Plays.{Sat, AtWith, debt}
use Rattle.line_rule.specs.Rule.{hold_at}

module _ {Request Reply Log Right : Type 0} where
  pub owing : (d : Debt Request Reply) (all : List (QueuedWriter Request × Reply)) → d.rest ≡ all → (c : ℕ) (mine : List (Request × Reply)) (b : Back Request Reply) (me : Sat Request Reply Log Right) → AtWith c (Settling d) mine b me
      → AtWith c (Settling (debt all d.own d.reply)) mine b me
  owing d all is c mine b me at = subst (λ r. AtWith c (Settling (debt r d.own d.reply)) mine b me) is at

  pub owing_seen : (s : ListState Request Reply Log Right) (id : ℕ) (d : Debt Request Reply) (all : List (QueuedWriter Request × Reply)) → d.rest ≡ all → (c : ℕ) (mine : List (Request × Reply)) (b : Back Request Reply) → Sees s id (hold_at c (Settling d) mine b)
      → Sees s id (hold_at c (Settling (debt all d.own d.reply)) mine b)
  owing_seen s id d all is c mine b sees = subst (λ r. Sees s id (hold_at c (Settling (debt r d.own d.reply)) mine b)) is sees
