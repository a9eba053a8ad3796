-- What the log and the right cover.
use Rattle.std.specs.Prelude.{Bool, true, ◌≡◌, ℕ, ◌+◌, ◌-◌, ◌==◌, cond, List, [], ◌∷◌}
use Rattle.std.specs.Prelude.{Option as Picked, None, Some}
use Rattle.model_base.specs.declared.group.Item.{Item}
use Rattle.line_rule.specs.declared.content.Start.{Start}
use Rattle.line_rule.specs.declared.rule.LogOfGroups.{Ghosts}
use Rattle.line_rule.specs.Grouping.{code_by}
use Rattle.line_rule.specs.declared.view.Handling.{Handling}

-- where there is a second list, nothing that was handled from `seen` to `now` was given a run
abbrev pub Unnumbered : {Request Reply : Type 0} → Bool
    → (List (Handling Request Reply) → List (Handling Request Reply)) → List (Handling Request Reply)
    → List (Handling Request Reply) → Type 0
Unnumbered piped given seen now = piped ≡ true → given now ≡ given seen

-- what the log covers, and what the right covers; which handled requests were given runs, since the right covers only
-- such ones; what the right covers at opening; whether there is a second list
pub record Laws (Request Reply Log Right : Type 0) : Type 1 where
  pub logs : Log → List (Handling Request Reply) → Type 0
  pub rights : Right → List (Handling Request Reply) → Type 0
  pub given : List (Handling Request Reply) → List (Handling Request Reply)
  pub opened : List (Handling Request Reply)
  pub piped : Bool
  -- the bound under which each group is built
  pub bound : ℕ
  -- what holds of what was handled, wherever the log is
  pub kept : List (Handling Request Reply) → Type 0
  pub keeps : (l : Log) (hs : List (Handling Request Reply)) → logs l hs → kept hs
  -- what holds of a request, and of the reply with which its writer leaves the queue
  pub drops : Request → Reply → Type 0
  -- what the list's law asks of a request and its code
  pub asks : Request → ℕ → Type 0

-- the code is that of the request's item, and the request is lawful for what the law is about
abbrev pub asks_for : {Request About : Type 0} → (Request → Item) → (About → Request → Type 0) → About → Request → ℕ
    → Type 0
asks_for item_of lawful about q code = (code ≡ code_by item_of q) × lawful about q

-- the same where the caller picked what the law is about; else only the code is asked for
abbrev pub asks_picked : {Request About : Type 0} → (Request → Item) → (About → Request → Type 0) → Picked About
    → Request → ℕ → Type 0
asks_picked item_of lawful None = λ q code. code ≡ code_by item_of q
asks_picked item_of lawful (Some about) = asks_for item_of lawful about

-- the last number of the runs given, from this one on: a run is its first number and its count, and one with the count
-- 0 is none
abbrev pub last_run : {Request Reply : Type 0} → (Reply → ℕ × ℕ) → ℕ → List (Handling Request Reply) → ℕ
last_run run start [] = start
last_run run start (h ∷ hs) = last_run run
    (cond ((run h.reply).1 == 0) start ((run h.reply).0 + (run h.reply).1 - 1)) hs

-- those of what was handled that were given runs
abbrev pub given_runs : {Request Reply : Type 0} → (Reply → ℕ × ℕ) → List (Handling Request Reply)
    → List (Handling Request Reply)
given_runs run [] = []
given_runs run (h ∷ hs) = cond ((run h.reply).1 == 0) (given_runs run hs) (h ∷ given_runs run hs)

abbrev pub logs_from : {Request Reply Log : Type 0} → (Log → List (Handling Request Reply) → Type 0)
    → (List (Handling Request Reply) → Type 0) → (Log → ℕ)
    → (Reply → ℕ × ℕ) → ℕ → Log → List (Handling Request Reply) → Type 0
logs_from stands kept number run start l hs = stands l hs × kept hs × (number l ≡ last_run run start hs)

-- the same where the caller picked what the law is about, else nothing is said; `log` has the definitions of the log's
-- trait
abbrev pub logs_picked : {Request Reply Log Right About : Type 0} → (Reply → ℕ × ℕ)
    → Ghosts Log Request Reply Right About → ℕ → Picked About → Log → List (Handling Request Reply) → Type 0
logs_picked run log start None = λ l hs. Unit {0}
logs_picked run log start (Some about) = logs_from (log.stands about) (log.kept about) log.number_of run start

abbrev pub serves_picked : {Request Reply Right About : Type 0}
    → (About → Right → List (Handling Request Reply) → Type 0) → Picked About → Right
    → List (Handling Request Reply) → Type 0
serves_picked serves None = λ m hs. Unit {0}
serves_picked serves (Some about) = serves about

abbrev pub kept_picked : {Request Reply About : Type 0} → (About → List (Handling Request Reply) → Type 0)
    → Picked About → List (Handling Request Reply) → Type 0
kept_picked kept None = λ hs. Unit {0}
kept_picked kept (Some about) = kept about

-- the same of a request, and of the reply with which its writer leaves the queue
abbrev pub drops_picked : {Request Reply About : Type 0} → (About → Request → Reply → Type 0) → Picked About
    → Request → Reply → Type 0
drops_picked drops None = λ q p. Unit {0}
drops_picked drops (Some about) = drops about

abbrev pub laws : {Request Reply Log Right : Type 0} → (Request → ℕ → Type 0) → (Request → Reply → Type 0)
    → (Log → List (Handling Request Reply) → Type 0)
    → (List (Handling Request Reply) → Type 0) → (Log → ℕ) → (Reply → ℕ × ℕ)
    → (Right → List (Handling Request Reply) → Type 0) → ℕ → Bool
    → ℕ → Laws Request Reply Log Right
laws asks drops stands kept number run serves start piped bound = record {
  logs = logs_from stands kept number run start;
  rights = serves;
  given = given_runs run;
  opened = [];
  piped = piped;
  bound = bound;
  kept = kept;
  keeps = λ l hs h. h.1;
  drops = drops;
  asks = asks;
}

-- the laws of a list that is opened for k
abbrev pub laws_for : {Request Reply Log Right About : Type 0} → (Request → Item) → (Reply → ℕ × ℕ)
    → Ghosts Log Request Reply Right About → Start About → Laws Request Reply Log Right
laws_for item_of run log k =
    laws (asks_for item_of log.lawful k.about) (log.drops k.about) (log.stands k.about) (log.kept k.about)
    log.number_of run (log.serves k.about) k.log k.pipelined k.group_bytes
