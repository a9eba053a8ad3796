-- How a leader stalls writes, and which part of what it reads then is the queue.
use Rattle.std.proofs.Common.{◌≡◌, ℕ, List, [], ◌∷◌, ◌++◌, length, reverse, take, refl, sym, ap, ◌∙◌, subst, inl, None, arith, length-append}
use Rattle.std.proofs.lemmas.List.{reverse-append}
use mathlib.Core.Option.{none}
use Rattle.atomic_table.specs.Table.{step, Allows}
use Rattle.line_rule.specs.declared.view.QueuedWriter.{QueuedWriter}
use Rattle.line_rule.specs.declared.view.Lead.{Lead}
use Rattle.line_rule.specs.declared.view.LineStage.TheVariants.{Leading, Stalling}
use Rattle.line_rule.specs.declared.view.Stall.TheVariants.{Stopped}
use Rattle.line_rule.specs.Chain.{newest, pairs}
use Rattle.line_rule.specs.Laws.{Laws}
use Rattle.line_rule.specs.Members.{asks}
use Rattle.line_rule.specs.Rule.{Listed}
use Rattle.line_rule.specs.Plays.{Sat, At, in_hand, lead_with_walk}
use Rattle.line_rule.specs.Stalls.{after_aim_stall, Stops}
use Rattle.line_rule.proofs.Stalls.{aims_stall}
use Rattle.line_writers.specs.Roles.{CodesFit, HasRead}
use Rattle.line_writers.specs.Stalled.{EndsBefore}
use Rattle.line_writers.proofs.Surveys.{some_newest, codes_fit}

module _ {Request Reply Log Right : Type 0} (stands : Laws Request Reply Log Right) (n : ℕ) where
  -- the leader names the newest writer, where the word is known by its number
  pub aims_at : (slots id : ℕ) (me : Sat Request Reply Log Right) (c k new : ℕ) (lead : Lead Request Reply) (mine : List (Request × Reply)) → k ≡ 3 → At c (Leading lead) mine me → Allows (Listed stands n) slots id me k (λ _. new) (λ _. after_aim_stall (step slots k new 0 none) me new)
  aims_at slots id me c k new lead mine is at =
      subst (λ (j : ℕ). Allows (Listed stands n) slots id me j (λ _. new) (λ _. after_aim_stall (step slots j new 0 none) me new)) (sym is) (aims_stall stands n slots id me c new lead mine at)

module _ {Request Reply Log Right : Type 0} where
  -- a leader that has stalled writes may walk over the queue, from the newest writer on
  pub reads_stopped : (slots w c : ℕ) (lead : Lead Request Reply) (mine : List (Request × Reply)) (m m' : Sat Request Reply Log Right) → Stops slots w c lead mine m m' → HasRead 0 slots c w m'
  reads_stopped slots w c lead mine m m' s =
      let f = some_newest s.0 lead.taken lead.own in
      (s.0 ++ in_hand lead, f.0, f.1, inl (refl, (Stalling (lead_with_walk lead (s.0 ++ in_hand lead)) (Stopped w), mine, s.1, refl)), f.2, s.3 ∙ ap newest f.2, s.4, s.5)

module _ {Request : Type 0} where
  pub length-asks : (own : QueuedWriter Request) (group : List (QueuedWriter Request)) → length (asks own group) ≡ length (group ++ own ∷ [])
  length-asks own [] = refl
  length-asks own (e ∷ es) = length-append (asks own es) ((e.by, e.asked) ∷ []) ∙ (let h = length-asks own es in omega arith)

  -- without the members of the group, what was read is the queue
  queue_first : (queue members : List (QueuedWriter Request)) → take (length queue) (pairs (queue ++ members)) ≡ pairs queue
  queue_first [] members = refl
  queue_first (e ∷ es) members = ap (λ l. (e.by, e.code) ∷ l) (queue_first es members)

  pub queue_only : (queue members : List (QueuedWriter Request)) (read : List (ℕ × ℕ)) (kept : ℕ) → read ≡ pairs (queue ++ members) → kept ≡ length queue → take kept read ≡ pairs queue
  queue_only queue members read kept is short = (λ i. take (short i) (is i)) ∙ queue_first queue members

  pub codes_first : (queue members : List (QueuedWriter Request)) → CodesFit (pairs (queue ++ members)) → CodesFit (pairs queue)
  codes_first [] members ok = tt
  codes_first (e ∷ es) members ok = (ok.0, codes_first es members ok.1)

  -- nothing was passed yet
  pub passed_none : (rest : List (QueuedWriter Request)) → EndsBefore rest [] None
  passed_none [] = tt
  passed_none (e ∷ es) = refl

pub codes_back : (l : List (ℕ × ℕ)) → CodesFit l → CodesFit (reverse l)
codes_back [] ok = tt
codes_back (x ∷ xs) ok = subst CodesFit (sym (reverse-append (x ∷ []) xs)) (codes_fit (reverse xs) x.0 x.1 (codes_back xs ok.1) ok.0)
