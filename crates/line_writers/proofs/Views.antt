-- What a leader's view shows of what was handled before its group, and what the view and its replies show of what is
-- handled with the group.
use Rattle.std.proofs.Common.{ℕ, ◌+◌, List, [], ◌∷◌, ◌++◌, length, reverse, ◌≡◌, sym, ap, ◌∙◌, arith, length-append}
use Rattle.line_rule.specs.declared.view.QueuedWriter.{QueuedWriter}
use Rattle.line_rule.specs.declared.view.Handling.{Handling}
use Rattle.line_rule.specs.declared.view.LineHold.{LineHold}
use Rattle.line_rule.specs.declared.view.LineStage.{LineStage}
use Rattle.line_rule.specs.declared.view.LineStage.TheVariants.{Idle, Preparing, Waiting, Helping, Fresh, Leading, Stalling, Cutting, Marking, Settling, Collecting}
use Rattle.line_rule.specs.declared.view.LineEvent.{LineEvent}
use Rattle.line_rule.specs.Chain.{heads, all_answers}
use Rattle.line_rule.specs.Members.{pays}
use Rattle.line_writers.specs.Roles.{bys, lead_with_group}
use Rattle.line_rule.specs.Rule.{hold}
use Rattle.line_writers.proofs.Fills.{handled_by, handled_newest, pays_back}
use Rattle.line_writers.proofs.Tells.{length-bys}

module _ {Request Reply : Type 0} where
  abbrev pub seen_at : LineStage Request Reply → List (Handling Request Reply)
  seen_at Idle = []
  seen_at (Preparing w) = []
  seen_at (Waiting q past) = []
  seen_at (Helping q) = []
  seen_at (Fresh own seen) = seen
  seen_at (Leading lead) = lead.seen
  seen_at (Stalling lead t) = lead.seen
  seen_at (Cutting lead next) = lead.seen
  seen_at (Marking lead) = lead.seen
  seen_at (Settling d) = []
  seen_at Collecting = []

  abbrev pub seen_in_first : List (LineHold Request Reply) → List (Handling Request Reply)
  seen_in_first [] = []
  seen_in_first (h ∷ hs) = seen_at h.stage

  abbrev pub handled_at : LineStage Request Reply → List (ℕ × Reply) → List (Handling Request Reply)
  handled_at Idle replies = []
  handled_at (Preparing w) replies = []
  handled_at (Waiting q past) replies = []
  handled_at (Helping q) replies = []
  handled_at (Fresh own seen) replies = []
  handled_at (Leading lead) replies = lead.seen ++ handled_by lead.taken lead.own (reverse replies)
  handled_at (Stalling lead t) replies = []
  handled_at (Cutting lead next) replies = []
  handled_at (Marking lead) replies = []
  handled_at (Settling d) replies = []
  handled_at Collecting replies = []

  abbrev pub handled_in_first : List (LineHold Request Reply) → List (ℕ × Reply) → List (Handling Request Reply)
  handled_in_first [] replies = []
  handled_in_first (h ∷ hs) replies = handled_at h.stage replies

  -- the leader's view and its replies together show all that is handled once its group is
  pub handled_all : (c : ℕ) (own : QueuedWriter Request) (seen : List (Handling Request Reply)) (past : List (LineEvent Request Reply)) (left group : List (QueuedWriter Request)) (mine : List (Request × Reply)) (gs : List (QueuedWriter Request × Reply)) (p : Reply) (view : List (LineHold Request Reply)) (replies : List (ℕ × Reply)) → view ≡ hold c (Leading (lead_with_group own seen past left group)) mine ∷ [] → heads gs ≡ group → replies ≡ pays own p gs
      → handled_in_first view replies ≡ seen ++ all_answers own p gs
  handled_all c own seen past left group mine gs p view replies is heads_are replies_are =
      ap (λ v. handled_in_first v replies) is ∙ ((λ i. seen ++ handled_by (sym heads_are i) own (reverse (replies_are i))) ∙ ap (λ l. seen ++ l) (ap (handled_by (heads gs) own) (pays_back own p gs) ∙ handled_newest own p gs))

  pub length_heads : (gs : List (QueuedWriter Request × Reply)) → length (heads gs) ≡ length gs
  length_heads [] = omega arith
  length_heads (g ∷ gs) = let r = length_heads gs in omega arith

  -- the number of a group's members, with its leader
  pub long_members : (gs : List (QueuedWriter Request × Reply)) (own : QueuedWriter Request) → length (bys (heads gs ++ own ∷ [])) ≡ length gs + 1
  long_members gs own = let h = length_heads gs in length-bys (heads gs ++ own ∷ []) ∙ length-append (heads gs) (own ∷ []) ∙ omega arith
