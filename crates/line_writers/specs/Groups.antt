-- A leader, its group and their replies, and short names for the lists of them.
use Rattle.std.specs.Prelude.{◌≡◌, ◌≢◌, ℕ, ◌+◌, true, false, List, [], ◌∷◌, ◌++◌, length}
use Rattle.line_rule.specs.declared.view.QueuedWriter.{QueuedWriter}
use Rattle.line_rule.specs.declared.view.Handling.{Handling}
use Rattle.line_rule.specs.declared.view.Lead.{Lead}
use Rattle.line_rule.specs.declared.view.Debt.{Debt}
use Rattle.line_rule.specs.declared.view.Squad.{Squad}
use Rattle.line_rule.specs.declared.view.Back.{Back}
use Rattle.line_rule.specs.declared.view.Back.TheVariants.{Parting, Serving}
use Rattle.line_rule.specs.declared.view.LineStage.{LineStage}
use Rattle.line_rule.specs.declared.view.LineStage.TheVariants.{Leading, Settling}
use Rattle.line_rule.specs.declared.content.LineSlot.{LineSlot}
use Rattle.line_rule.specs.declared.content.LineSlot.TheVariants.{Told, TheLog, TheRight}
use Rattle.line_rule.specs.Chain.{newest, heads, all_answers}
use Rattle.line_rule.specs.Laws.{given_runs}
use Rattle.line_rule.specs.Plays.{Sat, At, AtWith, IsOwnGroup, in_hand, debt, slots_of, squad_at_cut, squad_with_end, back_after_log}
use Rattle.line_rule.specs.Before.{Carried}
use Rattle.line_writers.specs.declared.writer.Writer.{Writer}
use Rattle.line_rule.specs.Members.{pays}
use Rattle.line_writers.specs.Roles.{HasJoined, lead_with_group, past_in}
use Rattle.line_writers.specs.Seats.{HasGroup, answers_told}

-- writers of a list, newest first
abbrev pub Queue : Type 0 → Type 0
Queue Request = List (QueuedWriter Request)

-- requests that were handled, in order
abbrev pub Handled : Type 0 → Type 0 → Type 0
Handled Request Reply = List (Handling Request Reply)

-- what a client asked, each request with its reply, in order
abbrev pub Answers : Type 0 → Type 0 → Type 0
Answers Request Reply = List (Request × Reply)

-- the members of a group without its leader, newest first, each with its reply
abbrev pub Members : Type 0 → Type 0 → Type 0
Members Request Reply = List (QueuedWriter Request × Reply)

module _ {Request Reply : Type 0} where
  -- all that was handled: what was handled before, and then the leader's group with these replies
  abbrev pub all_handled : Lead Request Reply → Debt Request Reply → Handled Request Reply
  all_handled lead d = lead.seen ++ all_answers lead.own d.reply d.rest

  -- the leader's group as it is in the second list, with what was given runs before it (`from`), and with it (`to`)
  abbrev pub squad_sent : Lead Request Reply → Handled Request Reply → Handled Request Reply → Squad Request Reply
  squad_sent lead from to = squad_with_end (squad_at_cut lead from) to

  -- `from` is what was given runs before a group, and `to` is what was given runs with it
  abbrev pub AreGiven : (Reply → ℕ × ℕ) → Handled Request Reply → Handled Request Reply → Handled Request Reply
      → Handled Request Reply → Type 0
  AreGiven run from to seen all = (from ≡ given_runs run seen) × (to ≡ given_runs run all)

module _ {Request Reply Log Right : Type 0} where
  -- the leader owes the members of its group their replies, which are in their slots, and has its own
  abbrev pub Owes : ℕ → Debt Request Reply → Answers Request Reply → Sat Request Reply Log Right → Type 0
  Owes c d mine m = At c (Settling d) mine m × (m.1 ≡ slots_of d.rest ((c, Told d.reply) ∷ []))

  -- the leader owes this (as in Owes), where its group is in this state of the second list, and these slots lie after
  -- the slots of its group
  abbrev pub OwesWith : ℕ → Debt Request Reply → Answers Request Reply → Back Request Reply
      → Carried Request Reply Log Right → Sat Request Reply Log Right → Type 0
  OwesWith c d mine back t m = AtWith c (Settling d) mine back m × (m.1 ≡ slots_of d.rest ((c, Told d.reply) ∷ t))

  -- the leader has the requests of its whole group, which has `count` members, the newest of them `newest_member`
  abbrev pub LeadsWhole : ℕ → ℕ → ℕ → Lead Request Reply → Answers Request Reply → Sat Request Reply Log Right → Type 0
  LeadsWhole c newest_member count lead mine m = At c (Leading lead) mine m × (newest_member ≡ newest (in_hand lead))
      × (lead.taken ≡ lead.group) × (count ≡ length (in_hand lead))

  -- the log's slot is on top, and after it the slots of the group, with the reply to each member
  abbrev pub HasLogAndReplies : ℕ → Lead Request Reply → Members Request Reply → Reply → Log
      → Sat Request Reply Log Right → Type 0
  HasLogAndReplies c lead gs p l m = (heads gs ≡ lead.taken) × (m.1 ≡ (0, TheLog l) ∷ slots_of gs ((c, Told p) ∷ []))

  -- whatever the leader handled, where the log's slot is on top and after it the slots with the reply to each member:
  -- `so` holds of the leader's view, of its answers so far, and of what it owes
  abbrev pub ForHandled : ℕ → Sat Request Reply Log Right
      → (Lead Request Reply → Answers Request Reply → Debt Request Reply → Type 0) → Type 0
  ForHandled c m so = (lead : Lead Request Reply) (mine : Answers Request Reply) (gs : Members Request Reply)
      (p : Reply) (l : Log)
      → At c (Leading lead) mine m → heads gs ≡ lead.taken → m.1 ≡ (0, TheLog l) ∷ slots_of gs ((c, Told p) ∷ [])
      → so lead mine (debt gs lead.own p)

  -- the group is cut off from the first list, and its leader, which is at this stage, still has the log
  abbrev pub CutsOff : List (Handling Request Reply) → ℕ → LineStage Request Reply → Lead Request Reply
      → Answers Request Reply → Sat Request Reply Log Right → Sat Request Reply Log Right → Type 0
  CutsOff from c stage lead mine m m' = AtWith c stage mine (Parting (squad_at_cut lead from) 0) m' × (m'.1 ≡ m.1)

  -- where the exchange found the expected writer (`found` is `older`), the group has come into the second list, as its
  -- only group where there was no older writer; else nothing has happened
  abbrev pub Joins : (Right → Handled Request Reply → Type 0) → ℕ → ℕ → Handled Request Reply → ℕ → ℕ
      → LineStage Request Reply → Answers Request Reply → Squad Request Reply → Sat Request Reply Log Right
      → Sat Request Reply Log Right → Type 0
  Joins serves n c to older found stage mine g m m' =
      (found ≡ older → older ≢ 0 → HasJoined serves n c to false stage mine g m m')
      × (found ≡ older → older ≡ 0 → HasJoined serves n c to true stage mine g m m') × (found ≢ older → m' ≡ m)

  -- the group is the oldest of the second list; its leader has the right, which covers what was given runs before the
  -- group, on top of these slots
  abbrev pub HasRightOver : (Right → Handled Request Reply → Type 0) → ℕ → ℕ → Debt Request Reply
      → Answers Request Reply → Squad Request Reply → Carried Request Reply Log Right → Sat Request Reply Log Right
      → Type 0
  HasRightOver serves n c d mine g t m = (right : Right) × serves right g.from
      × AtWith c (Settling d) mine (Serving g []) m × (m.1 ≡ (n + 1, TheRight right) ∷ t)

  -- the leader of the oldest group of the second list has the right on top, and `so` holds of the group and the right
  abbrev pub ServesWith : ℕ → ℕ → (Squad Request Reply → Right → Type 0) → Sat Request Reply Log Right → Type 0
  ServesWith n c so m = (d : Debt Request Reply) × (mine : Answers Request Reply) × (g : Squad Request Reply)
      × (walk : Queue Request) × (right : Right) × (t : Carried Request Reply Log Right)
      × AtWith c (Settling d) mine (Serving g walk) m × (m.1 ≡ (n + 1, TheRight right) ∷ t) × so g right

  -- whatever group is the oldest of the second list, and whatever slot is on top: `so` holds of what its leader owes,
  -- of its answers so far, of the group, and of the other slots
  abbrev pub ForServing : ℕ → Sat Request Reply Log Right
      → (Debt Request Reply → Answers Request Reply → Squad Request Reply → Carried Request Reply Log Right → Type 0)
      → Type 0
  ForServing c m so = (d : Debt Request Reply) (mine : Answers Request Reply) (g : Squad Request Reply)
      (walk : Queue Request) (y : ℕ × LineSlot Request Reply Log Right) (t : Carried Request Reply Log Right)
      → AtWith c (Settling d) mine (Serving g walk) m → m.1 ≡ y ∷ t → so d mine g t

-- for a leader that has cut its group off from the first list, and is at this stage
module _ {Request Reply Log Right : Type 0}
    (stage : Lead Request Reply → Answers Request Reply → Back Request Reply → Type 0) (c : ℕ) where
  -- whatever group it is, where the log's slot is on top and after it the slots with the reply to each member: `so`
  -- holds of the leader's view, of what it owes, and of the rest
  abbrev pub ForCutOff : Sat Request Reply Log Right
      → (Lead Request Reply → Answers Request Reply → Back Request Reply → Debt Request Reply
      → Carried Request Reply Log Right → Type 0) → Type 0
  ForCutOff m so = (lead : Lead Request Reply) (mine : Answers Request Reply) (b : Back Request Reply)
      (gs : Members Request Reply) (p : Reply) (l : Log) (t : Carried Request Reply Log Right)
      → stage lead mine b → heads gs ≡ lead.taken → m.1 ≡ (0, TheLog l) ∷ slots_of gs ((c, Told p) ∷ t)
      → so lead mine b (debt gs lead.own p) t

  -- the leader has given the log on, and owes the replies
  abbrev pub GivesLogOn : Sat Request Reply Log Right → Sat Request Reply Log Right → Type 0
  GivesLogOn m m' = ForCutOff m (λ lead mine b d t. OwesWith c d mine (back_after_log b) t m')

  -- the log's slot is on top, and after it the slots with the reply to each member; the log covers all that was
  -- handled, with the group, and the second list allows the leader to give the log on; the group that it has there is
  -- this one
  abbrev pub MayGiveLogOn : (Log → Handled Request Reply → Type 0)
      → (Back Request Reply → Handled Request Reply → Handled Request Reply → Type 0) → Sat Request Reply Log Right
      → Type 0
  MayGiveLogOn stood hands m = (lead : Lead Request Reply) × (mine : Answers Request Reply) × (b : Back Request Reply)
      × (gs : Members Request Reply) × (p : Reply) × (l : Log) × (t : Carried Request Reply Log Right)
      × stage lead mine b × (heads gs ≡ lead.taken) × (m.1 ≡ (0, TheLog l) ∷ slots_of gs ((c, Told p) ∷ t))
      × stood l (lead.seen ++ all_answers lead.own p gs) × hands b lead.seen (lead.seen ++ all_answers lead.own p gs)
      × IsOwnGroup lead.own lead.taken b

-- for a writer that leads a group of a list of n clients, where `law` holds of each request
module _ {Request Reply Log Right : Type 0} (law : Request → ℕ → Type 0) (n : ℕ) where
  -- these are the replies to its group, in link order, and `so` holds of the leader's view and of what it owes
  abbrev pub HasReplies : List (ℕ × Reply) → (Lead Request Reply → Debt Request Reply → Type 0)
      → Writer Request Reply Log Right → Type 0
  HasReplies replies so w = (max : ℕ) × (own : QueuedWriter Request) × (group left : Queue Request)
      × (seen : Handled Request Reply) × (gs : Members Request Reply) × (p : Reply)
      × HasGroup law n max own group left seen (answers_told w) w × (heads gs ≡ group) × (replies ≡ pays own p gs)
      × so (lead_with_group own seen (past_in w.seat.me.0) left group) (debt gs own p)

  -- whatever group it is, where these are the replies to it: `so` holds of the leader's view and of what it owes
  abbrev pub ForReplies : List (ℕ × Reply) → Writer Request Reply Log Right
      → (Lead Request Reply → Debt Request Reply → Type 0) → Type 0
  ForReplies replies w so = (max : ℕ) (own : QueuedWriter Request) (group left : Queue Request)
      (seen : Handled Request Reply) (gs : Members Request Reply) (p : Reply)
      → HasGroup law n max own group left seen (answers_told w) w → heads gs ≡ group → replies ≡ pays own p gs
      → so (lead_with_group own seen (past_in w.seat.me.0) left group) (debt gs own p)
