-- What the contracts of the controller's calls say of a pass and of the controller's history.
use Rattle.std.specs.Prelude.{◌≡◌, ◌≢◌, ℕ, ◌+◌, ◌≤◌, Bool, true, false, List, [], ◌∷◌, ◌++◌, length, take, Option, None, Some, slice_get, if◌then◌else◌}
use Rattle.std.specs.List.{AllByRecursion}
use Rattle.crossbeam_utils.specs.Seq.{cell_view}
use Rattle.model_base.specs.Controller.{ControllerCall, Action, Look, IsLegal}
use Rattle.model_base.specs.Tokens.{tokens_of, is_token, holds_stop, holds_slow, shown_by_tokens, AreHeard}
use Rattle.model_base.specs.Replies.{IsLater}
use Rattle.engine_controller.specs.declared.pass.Pass.{Pass}
use Rattle.engine_controller.specs.Noted.{Noted}
use Rattle.engine_controller.specs.declared.pass.Others.{Others}
use Rattle.engine_controller.specs.declared.pass.Passes.{Passes}
use Rattle.engine_controller.specs.declared.controller.Controller.{Controller}
use Rattle.engine_board.specs.declared.rule.BoardView.{BoardView}
use Rattle.engine_board.specs.Board.{In}
use Rattle.engine_controller.specs.declared.rule.Call.{Call}
use Rattle.engine_controller.specs.declared.numbers.Action.TheVariants.{Say, Hear}
use Rattle.engine_controller.specs.Rule.{client_in, seen_in, history_of, held_up_at, IsClientView, others, call, tokens_in, newest_token}

-- the client whose pass it is
abbrev pub client_of : Pass → ℕ
client_of pass = client_in (cell_view pass.seat)

-- the controller's history as far as the pass has seen it
abbrev pub seen_by : Pass → List ControllerCall
seen_by pass = history_of (seen_in (cell_view pass.seat))

-- the client that was the last one, as far as the pass has seen, to learn by its delay that writes are held up; 0 where
-- none did
abbrev pub last_held_up : Pass → ℕ
last_held_up pass = held_up_at (seen_in (cell_view pass.seat))

abbrev pub seen_by_note : Noted → List ControllerCall
seen_by_note note = history_of note.seen

-- the client's own calls that took a token or gave one back
abbrev pub asked_by : Pass → List Action
asked_by pass = tokens_of (client_of pass) (seen_by pass)

-- how many clients it was opened for
abbrev pub clients_of : {C : Type 0} → Controller C → ℕ
clients_of controller = controller.clients

-- the calls that the pass has seen, and what it knows of the board
abbrev pub calls_seen : Pass → List Call
calls_seen pass = seen_in (cell_view pass.seat)

abbrev pub board_of : Pass → BoardView
board_of pass = pass.board.seat.me.0

-- these calls up to the client's newest token call, with it
abbrev pub own_front : ℕ → List Call → List Call
own_front client calls = take (newest_token client calls) calls

-- what a `say` of the client's says was on the board when the client looked at the mark
abbrev pub IsAnnounced : ℕ → BoardView → Call → Type 0
IsAnnounced client board c = c.client ≡ client → (shown marked : ℕ) → c.action ≡ Say shown marked
    → (said : ℕ) × In (record { mark = marked; said = said }) board.announced × (shown ≤ said)

-- each `hear` of the client's is what a look at the board found after the mark of its newest token call before
abbrev pub AreGathered : ℕ → BoardView → List Call → Type 0
AreGathered client board calls = (at most : ℕ) → slice_get calls at ≡ Some (call client (Hear most))
    → In (record { mark = tokens_in (own_front client (take at calls)); found = most }) board.gathered

-- it is a pass of this controller
pub record IsPassOf {C : Type 0} (controller : Controller C) (pass : Pass) : Type 0 where
  pub cell : pass.seat.table_id ≡ controller.cell.table.shared.table_id
  pub view : IsClientView (cell_view pass.seat)
  pub number : pass.number ≡ client_of pass
  pub stopping : pass.stopping ≡ holds_stop (asked_by pass)
  pub slowing : pass.slowing ≡ holds_slow (asked_by pass)
  pub shown : pass.shown ≡ shown_by_tokens (seen_by pass)
  pub board : pass.board.seat.table_id ≡ controller.board.words.shared.table_id
  pub alone : pass.board.seat.me.1 ≡ []
  pub said : pass.said ≡ (board_of pass).raised
  pub marked : (board_of pass).marked ≤ pass.tokens
  pub tokens : pass.tokens ≡ tokens_in (own_front (client_of pass) (calls_seen pass))
  pub announced : AllByRecursion (IsAnnounced (client_of pass) (board_of pass)) (calls_seen pass)
  pub heard : AreGathered (client_of pass) (board_of pass) (calls_seen pass)

-- a look at the mark found this, after the client had said on the board what is here said to be shown, or more
abbrev pub HasAnnounced : Pass → ℕ → ℕ → Type 0
HasAnnounced pass shown marked =
    (said : ℕ) × In (record { mark = marked; said = said }) (board_of pass).announced × (shown ≤ said)

-- a look at the board, after the client's newest token call raised the mark, has found this
abbrev pub HasGathered : Pass → ℕ → Type 0
HasGathered pass most = In (record { mark = pass.tokens; found = most }) (board_of pass).gathered

-- it is a note that this controller gave
abbrev pub IsNoteOf : {C : Type 0} → Controller C → Noted → Type 0
IsNoteOf controller note = note.cell ≡ controller.cell.table.shared.table_id

-- How a history goes on

-- none of these calls is the client's
abbrev pub AreOfOthers : ℕ → List ControllerCall → Type 0
AreOfOthers client calls = AllByRecursion (λ (t : ControllerCall). t.client ≢ client) calls

-- the history goes on by calls of others, and is legal
pub record GoesOn (client : ℕ) (seen after : List ControllerCall) : Type 0 where
  pub between : List ControllerCall
  pub is : after ≡ seen ++ between
  pub others : AreOfOthers client between
  pub legal : IsLegal after

-- the history goes on by calls of others and ends with this call of the client's, and is legal
pub record EndsWith (client : ℕ) (seen : List ControllerCall) (action : Action) (told : Option Look)
    (after : List ControllerCall) : Type 0 where
  pub between : List ControllerCall
  pub is : after ≡ (seen ++ between) ++ record { client = client; action = action; told = told } ∷ []
  pub others : AreOfOthers client between
  pub legal : IsLegal after

-- a client that holds a token gives it back, and one that doesn't makes no call
abbrev pub GivesBack : Bool → ℕ → List ControllerCall → Action → List ControllerCall → Type 0
GivesBack true client seen action after = EndsWith client seen action None after
GivesBack false client seen action after = after ≡ seen

-- a list with the call, where it takes a token or gives one back, and else an empty list
abbrev pub token_in : Action → List Action
token_in action = if is_token action then action ∷ [] else []

-- this call is the last one, after all that was seen
pub record IsLast (client : ℕ) (seen : List ControllerCall) (action : Action) (told : Option Look)
    (after : List ControllerCall) : Type 0 where
  pub place : ℕ
  pub last : length after ≡ place + 1
  pub is_later : IsLater after (length seen) place (record { client = client; action = action; told = told })

-- Opening and closing

-- it is the pass of all who are not this controller's clients
pub record IsOthersOf {C : Type 0} (controller : Controller C) (rest : Others) : Type 0 where
  pub cell : rest.seat.table_id ≡ controller.cell.table.shared.table_id
  pub view : cell_view rest.seat ≡ others (clients_of controller)
  pub board : rest.board.seat.table_id ≡ controller.board.words.shared.table_id

-- these are the passes of a controller that was just opened for this number of clients
pub record AreNew {C : Type 0} (controller : Controller C) (clients : ℕ) (passes : Passes) : Type 0 where
  pub opened_for : clients_of controller ≡ clients
  pub number : length passes.clients.items ≡ clients
  pub each : (i : ℕ) (pass : Pass) → slice_get passes.clients.items i ≡ Some pass
      → IsPassOf controller pass × (client_of pass ≡ i + 1) × (seen_by pass ≡ [])
  pub others_are : IsOthersOf controller passes.others

-- these are all passes of the controller, in the order of the clients
pub record AreAll {C : Type 0} (controller : Controller C) (passes : Passes) : Type 0 where
  pub number : length passes.clients.items ≡ clients_of controller
  pub each : (i : ℕ) (pass : Pass) → slice_get passes.clients.items i ≡ Some pass
      → IsPassOf controller pass × (client_of pass ≡ i + 1)
  pub others_are : IsOthersOf controller passes.others

-- the one history: it is legal, what clients hear in it is right, all its calls are the clients', and each pass has
-- seen a beginning of it, with all calls of its own
pub record IsHistoryOf (passes : List Pass) (history : List ControllerCall) : Type 0 where
  pub legal : IsLegal history
  pub heard : AreHeard history
  pub clients : AllByRecursion (λ (t : ControllerCall). (1 ≤ t.client) × (t.client ≤ length passes)) history
  pub each : (i : ℕ) (pass : Pass) → slice_get passes i ≡ Some pass → GoesOn (i + 1) (seen_by pass) history
