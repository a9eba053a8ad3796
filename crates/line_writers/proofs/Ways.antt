-- Two steps that a leader may make whatever happens to its group, and two that say what its right covers.
use Rattle.std.proofs.Common.{◌≡◌, ℕ, ◌<◌, ◌≤◌, List, ◌∷◌, ◌++◌, ◌==◌, true, subst}
use mathlib.Core.Option.{Option, none}
use prog.Atomic.{either}
use Rattle.atomic_table.specs.Table.{step, Allows}
use Rattle.line_rule.specs.declared.view.Back.{Back}
use Rattle.line_rule.specs.declared.view.QueuedWriter.{QueuedWriter}
use Rattle.line_rule.specs.declared.view.Handling.{Handling}
use Rattle.line_rule.specs.declared.view.Lead.{Lead}
use Rattle.line_rule.specs.declared.view.Debt.{Debt}
use Rattle.line_rule.specs.declared.view.Squad.{Squad}
use Rattle.line_rule.specs.declared.view.LineStage.{LineStage}
use Rattle.line_rule.specs.declared.view.Back.TheVariants.{Parting, Queued}
use Rattle.line_rule.specs.declared.view.LineStage.TheVariants.{Leading, Cutting, Settling}
use Rattle.line_rule.specs.declared.content.LineSlot.{LineSlot}
use Rattle.line_rule.specs.declared.content.LineSlot.TheVariants.{Told, TheLog}
use Rattle.line_rule.specs.Chain.{state_at, older_at, pack, newest, heads, all_answers}
use Rattle.line_rule.specs.Laws.{Laws}
use Rattle.line_rule.specs.Rule.{Listed}
use Rattle.line_rule.specs.Plays.{Sat, At, AtWith, HandsOn, IsOwnGroup, IsCut, in_hand, slots_of, after_cut_as, after_wake, after_join_second, after_summon}
use Rattle.line_rule.specs.Steps.{IsCutAs, IsNext}
use Rattle.line_rule.proofs.Moves.{allows}
use Rattle.line_rule.proofs.Passes.{joins_second, summons}
use Rattle.line_rule.specs.Standing.{line_of}
use Rattle.line_rule.proofs.Settles.{cuts_as_is, wakes_on_is}

module _ {Request Reply Log Right : Type 0} (stands : Laws Request Reply Log Right) (n : ℕ) where
  pub cuts_as : (said : Option (List (Handling Request Reply))) (slots id : ℕ) (me : Sat Request Reply Log Right) (c k new : ℕ) (lead : Lead Request Reply) (mine : List (Request × Reply)) (newer : List (QueuedWriter Request)) (x : QueuedWriter Request) → At c (Leading lead) mine me → lead.walk ≡ newer ++ x ∷ in_hand lead → k ≡ older_at x.by → new ≡ pack 0 x.code → lead.taken ≡ lead.group
      → Allows (Listed stands n) slots id me k (λ _. new) (λ _. after_cut_as said (step slots k new 0 none) me new)
  cuts_as said slots id me c k new lead mine newer x mid is_walk is_word cleared all = allows stands n (λ _. IsCutAs said c lead) slots id me k (λ _. new) (λ _. after_cut_as said (step slots k new 0 none) me new) (cuts_as_is stands n said slots id me c k new lead mine newer x mid is_walk is_word cleared all)

  pub wakes_on : (slots id : ℕ) (me : Sat Request Reply Log Right) (c k : ℕ) (lead : Lead Request Reply) (x : QueuedWriter Request) (mine : List (Request × Reply)) (back : Back Request Reply) (gs : List (QueuedWriter Request × Reply)) (p : Reply) (l : Log) (tail : List (ℕ × LineSlot Request Reply Log Right)) → AtWith c (Cutting lead x) mine back me → heads gs ≡ lead.taken
      → me.1 ≡ (0, TheLog l) ∷ slots_of gs ((c, Told p) ∷ tail) → k ≡ state_at x.by → (0 < x.by) × (x.by ≤ n) → stands.logs l (lead.seen ++ all_answers lead.own p gs) → HandsOn stands.piped stands.given back lead.seen (lead.seen ++ all_answers lead.own p gs) → IsOwnGroup lead.own lead.taken back
      → Allows (Listed stands n) slots id me k (λ _. 2) (λ _. after_wake (step slots k 2 0 none) me 2)
  wakes_on slots id me c k lead x mine back gs p l tail mid group slot is_word range stood unnumbered own_group = allows stands n (λ _. IsNext back lead.own p gs) slots id me k (λ _. 2) (λ _. after_wake (step slots k 2 0 none) me 2) (wakes_on_is stands n slots id me c k lead x mine back gs p l tail mid group slot is_word range stood unnumbered own_group)

  -- this step of the right's law is also allowed where that law is given in another form, which is equal
  pub joins_as : (rights : Right → List (Handling Request Reply) → Type 0) → stands.rights ≡ rights → (to : List (Handling Request Reply)) (slots id : ℕ) (me : Sat Request Reply Log Right) (c b new : ℕ) (st : LineStage Request Reply) (lead : Lead Request Reply) (mine : List (Request × Reply)) (g : Squad Request Reply) (said : Option (LineSlot Request Reply Log Right)) → stands.piped ≡ true → AtWith c st mine (Parting g b) me → IsCut lead st → g.from ≡ stands.given lead.seen
      → new ≡ newest (line_of g) → Allows (Listed stands n) slots id me 1 (λ y. either (y == b) new y) (after_join_second rights to (step slots 1 b new said) me)
  joins_as rights is to slots id me c b new st lead mine g said piped mid is_cut from_is is_new = subst (λ z. Allows (Listed stands n) slots id me 1 (λ y. either (y == b) new y) (after_join_second z to (step slots 1 b new said) me)) is (joins_second stands n to slots id me c b new st lead mine g said piped mid is_cut from_is is_new)

  pub summons_as : (rights : Right → List (Handling Request Reply) → Type 0) → stands.rights ≡ rights → (slots id : ℕ) (me : Sat Request Reply Log Right) (c k : ℕ) (d : Debt Request Reply) (mine : List (Request × Reply)) (g : Squad Request Reply) → stands.piped ≡ true → AtWith c (Settling d) mine (Queued g) me → k ≡ state_at c → Allows (Listed stands n) slots id me k (λ y. y) (after_summon rights (step slots k 0 0 none) me)
  summons_as rights is slots id me c k d mine g piped mid is_word = subst (λ z. Allows (Listed stands n) slots id me k (λ y. y) (after_summon z (step slots k 0 0 none) me)) is (summons stands n slots id me c k d mine g piped mid is_word)
