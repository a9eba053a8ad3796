-- What an engine is opened with, and what its clients are then.
use Rattle.std.specs.Prelude.{◌≡◌, ℕ, ◌+◌, List, [], ◌∷◌, map, ⊤}
use Rattle.std.specs.List.{range_with_len}
use Rattle.log_writer.specs.declared.group_log.GroupLog.{Ghosts}
use Rattle.table_rule.specs.Histories.{In}
use Rattle.table_calls.specs.Account.{IsReady}
use Rattle.engine_controller.specs.declared.controller.Controller.{Controller}
use Rattle.engine_controller.specs.declared.pass.Pass.{Pass}
use Rattle.engine_controller.specs.Passes.{client_of, seen_by, IsPassOf}
use Rattle.model_accounts.specs.Accounts.{newcomer}
use Rattle.engine_groups.specs.Meaning.{Meaning}
use Rattle.engine_groups.specs.declared.engine.GroupEngine.{GroupEngine}
use Rattle.engine_groups.specs.declared.engine.EngineClient.{EngineClient}
use Rattle.engine_groups.specs.Clients.{IsClientOf, map_at_opening, account_in}

-- the seats of a table's clients, numbered from 1 on; these clients have seen nothing yet and have nothing to do
pub record AreSeatsAtStart {Versions Seat Turn Part : Type 0} (meaning : Meaning Versions Seat Turn Part)
    (table : Versions) (count : ℕ)
    (seats : List Seat) : Type 0 where
  pub numbers : map (λ (s : Seat). (meaning.account s).number) seats ≡ range_with_len 1 count
  pub each : (s : Seat) → In s seats → meaning.ours table s × IsReady (meaning.account s)
      × ((meaning.account s).seen ≡ [])

-- it is this client's pass at the controller, and has seen nothing of it
pub record IsPassAtStart {Time : Type 0} (controller : Controller Time) (number : ℕ) (pass : Pass) : Type 0 where
  pub own : IsPassOf controller pass
  pub client : client_of pass ≡ number
  pub unseen : seen_by pass ≡ []

-- they are such passes, of the clients from this number on
abbrev pub ArePassesAtStart : {Time : Type 0} → Controller Time → ℕ → List Pass → Type 0
ArePassesAtStart controller number [] = ⊤
ArePassesAtStart controller number (pass ∷ passes) = IsPassAtStart controller number pass
    × ArePassesAtStart controller (number + 1) passes

module _ {Log Versions Time Watch Seat Turn Part : Type 0} {ghosts : Ghosts Log}
    (meaning : Meaning Versions Seat Turn Part) (e : GroupEngine Log Versions Time Watch Seat Turn Part ghosts)
  where
    -- it is the client of the engine with this number, and has done and seen nothing
    pub record IsNewcomer (number : ℕ) (c : EngineClient Log Versions Time Seat Turn Part ghosts) : Type 0 where
      pub is_client : IsClientOf meaning e c
      pub new : account_in meaning c
          ≡ newcomer (meaning.opening e.table).start (map_at_opening meaning e.table) number

    -- they are newcomers with the numbers from this one on
    abbrev pub AreNewcomers : ℕ → List (EngineClient Log Versions Time Seat Turn Part ghosts) → Type 0
    AreNewcomers number [] = ⊤
    AreNewcomers number (c ∷ clients) = IsNewcomer number c × AreNewcomers (number + 1) clients
