-- The events of the table as events of the write path's core.
use Rattle.std.specs.Prelude.{◌≡◌, ◌⊎◌, ℕ, ◌<◌, ◌≤◌, ◌==◌, true, false, List, [], ◌∷◌, ◌++◌, length, count_by, Option, Some, None}
use Rattle.std.specs.List.{list_all}
use Rattle.model_base.specs.Batch.{Record}
use Rattle.model_base.specs.Calls.{Command, Reply}
use Rattle.model_core.specs.declared.event.Event.{Event as CoreEvent}
use Rattle.model_core.specs.Core.{Options, Writer, Client, still as at_rest, launched, published as is_published, State as CoreState, client_at, next_call, run_of, table_group, among, runners, read_reply}
use Rattle.model_core.specs.Step.{step, is_last, group_last}
use Rattle.table_rule.specs.declared.content.MemberVersions.{MemberVersions}
use Rattle.table_rule.specs.declared.content.Version.{Version}
use Rattle.table_rule.specs.Batches.{new_versions, number_from}
use Rattle.table_rule.specs.Histories.{In, last_of}
use Rattle.table_rule.specs.Rule.{Mode, still, running, ended}
use Rattle.table_rule.specs.Events.{Progress, to_insert, to_finish, is_finished, TableNow}

-- Groups

-- the versions that a batch makes, from the first sequence of its run on
abbrev pub versions_from : Option ℕ → List Record → List Version
versions_from None records = []
versions_from (Some first) records = number_from first (new_versions records)

-- the versions of writers, one after another
abbrev pub versions_by : List Writer → List Version
versions_by [] = []
versions_by (w ∷ ws) = versions_from (run_of w.answer) w.records ++ versions_by ws

-- Each part covers the next few writers: it has their versions, and its member's team are those of them that have
-- runs.
abbrev pub StandFor : (ℕ → List ℕ) → List MemberVersions → List Writer → Type 0
StandFor team [] ws = ws ≡ []
StandFor team (p ∷ parts) ws = (own others : List Writer) × (ws ≡ own ++ others) × (p.versions ≡ versions_by own)
    × (team p.member ≡ runners own) × StandFor team parts others

-- The group g, which will be published after `published`, is the core's group for the table.
pub record IsCoreGroup (start : ℕ) (o : Options) (team : ℕ → List ℕ) (s : CoreState)
    (published : List (List MemberVersions)) (g : List MemberVersions) : Type 0 where
  pub some : 0 < length (table_group o s)
  pub parts : StandFor team g (table_group o s)
  -- no client has two runs in it, and in the core it ends at the same sequence as in the table
  pub once : (c : ℕ) → count_by (λ n. n == c) (runners (table_group o s)) ≤ 1
  pub ends : group_last s.last (table_group o s) ≡ last_of start (published ++ g ∷ [])

-- States of the core that fit the table

-- whether the core has the client among those that have inserted, and among those that have finished, is as the
-- progress says
abbrev pub IsAsFar : List ℕ → List ℕ → ℕ → Progress → Type 0
IsAsFar inserted finished c to_insert = (among c inserted ≡ false) × (among c finished ≡ false)
IsAsFar inserted finished c to_finish = (among c inserted ≡ true) × (among c finished ≡ false)
IsAsFar inserted finished c is_finished = (among c inserted ≡ true) × (among c finished ≡ true)

-- each client of a team is as far as its part
abbrev pub AreAsFar : (ℕ → List ℕ) → List ℕ → List ℕ → List MemberVersions → TableNow → Type 0
AreAsFar team inserted finished g now = (p : MemberVersions) (c : ℕ) → In p g → among c (team p.member) ≡ true
    → IsAsFar inserted finished c (now.progress p.member)

-- all the core's members of the group have finished, and the last of the team finished last
abbrev pub HaveFinished : List ℕ → List Writer → List ℕ → Type 0
HaveFinished team ws finished = (list_all (λ c. among c finished) (runners ws) ≡ true)
    × ((c : ℕ) → is_last c team ≡ true → is_last c finished ≡ true)

-- When a group is published the table is `still`, while the core waits for the exit of the group's leader.
abbrev pub IsPhase : ℕ → Options → (ℕ → List ℕ) → TableNow → CoreState → Mode → Type 0
IsPhase start o team now s still = (s.table ≡ at_rest) ⊎ (s.table ≡ is_published)
IsPhase start o team now s (running g) = IsCoreGroup start o team s now.published g
    × ((inserted finished : List ℕ) × (s.table ≡ launched inserted finished)
    × AreAsFar team inserted finished g now)
IsPhase start o team now s (ended m g) = IsCoreGroup start o team s now.published g
    × ((inserted finished : List ℕ) × (s.table ≡ launched inserted finished)
    × HaveFinished (team m) (table_group o s) finished)

-- the core's state fits the table as it is now; the table was opened after the sequence `start`
abbrev pub IsCoreOf : ℕ → Options → (ℕ → List ℕ) → TableNow → CoreState → Type 0
IsCoreOf start o team now s = (s.last ≡ last_of start now.published) × IsPhase start o team now s now.mode

-- Events

-- these events, one after another, take the core from the state s to the state t
abbrev pub Come : Options → List CoreEvent → CoreState → CoreState → Type 0
Come o [] s t = t ≡ s
Come o (event ∷ events) s t = (next : CoreState) × (step o s event ≡ Some next) × Come o events next t

-- these events may come in the core, and its state then fits the table
abbrev pub AreTaken : ℕ → Options → (ℕ → List ℕ) → List CoreEvent → CoreState → TableNow → Type 0
AreTaken start o team events s now = (t : CoreState) × Come o events s t × IsCoreOf start o team now t

-- the client is idle, and its next call is a read
abbrev pub IsReading : Options → CoreState → ℕ → Type 0
IsReading o s c = (client : Client) × (command : Command) × (reply : Reply) × (client_at s c ≡ Some client)
    × (client.idle ≡ true) × ((next_call client).call ≡ Some command) × (read_reply o s command ≡ Some reply)
