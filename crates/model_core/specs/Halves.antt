-- A state in two halves: where the writers are, and the memtable. Most events move one half and leave the other alone.
use Rattle.std.specs.Prelude.{◌≡◌, ◌≢◌, ◌⊎◌, ℕ, Bool, true, false, not, ◌==◌, List, [], ◌∷◌, ◌++◌, take, drop, filter, find, Some, None, if◌then◌else◌}
use Rattle.std.specs.List.{list_any}
use Rattle.model_core.specs.declared.event.Event.{Event}
use Rattle.model_core.specs.declared.event.Event.TheVariants as e
use Rattle.model_base.specs.declared.write.Refusal.TheVariants as no
use Rattle.model_base.specs.History.{Entry}
use Rattle.model_base.specs.Calls.{refused}
use Rattle.model_core.specs.Core.{Options, Writer, LogPhase, free, led, built, stalled, in_log, marked, handed, TablePhase, still, launched, published, State, read_at, with_runs, has_run, all_answered, table_group}
use Rattle.model_core.specs.Step.{entry_ahead, group_last, group_size, leave, left_queue, without_table_group}

-- where the writers are: in the log's queue, with the log, in the groups that wait for the memtable, or gone with an
-- answer
pub record ListHalf : Type 0 where
  pub queue : List Writer
  pub log : LogPhase
  pub second : List (List Writer)
  pub leaving : List Writer

abbrev pub list_half_of : State → ListHalf
list_half_of s = record { queue = s.queue; log = s.log; second = s.second; leaving = s.leaving }

-- the memtable: its phase, the entries that it has, and the sequence published last
pub record TableHalf : Type 0 where
  pub phase : TablePhase
  pub inserted : List Entry
  pub last : ℕ

abbrev pub table_half_of : State → TableHalf
table_half_of s = record { phase = s.table; inserted = s.inserted; last = s.last }

-- which events may move a writer: those of the log, the exit of a group, and the completion of a write
abbrev pub moves_list : Event → Bool
moves_list (e.Launch c) = false
moves_list (e.Insert m) = false
moves_list (e.Finish m) = false
moves_list (e.Publish m) = false
moves_list (e.Read c) = false
moves_list other = true

-- which events may change the memtable: those from a group's launch to its exit; the exit of a read of the log doesn't
abbrev pub moves_table : Event → Bool
moves_table (e.Launch c) = true
moves_table (e.Insert m) = true
moves_table (e.Finish m) = true
moves_table (e.Publish m) = true
moves_table (e.Exit c) = true
moves_table other = false

-- how an event changes the memtable's half
abbrev pub TableStep : Options → Event → State → TableHalf → Type 0
TableStep o (e.Launch c) s new = (s.table ≡ still) × (new ≡ record (table_half_of s) { phase = launched [] [] })
TableStep o (e.Insert m) s new = (ins fin : List ℕ) × (s.table ≡ launched ins fin)
    × (new ≡ record { phase = launched (ins ++ m ∷ []) fin; inserted = s.inserted ++ entry_ahead s m; last = s.last })
TableStep o (e.Finish m) s new = (ins fin : List ℕ) × (s.table ≡ launched ins fin)
    × (new ≡ record (table_half_of s) { phase = launched ins (fin ++ m ∷ []) })
TableStep o (e.Publish m) s new = (ins fin : List ℕ) × (s.table ≡ launched ins fin)
    × (new ≡ record { phase = published; inserted = s.inserted; last = group_last s.last (table_group o s) })
-- the exit of a group that was published; one that has read the log leaves the memtable alone
TableStep o (e.Exit c) s new = ((s.table ≡ published) × (new ≡ record (table_half_of s) { phase = still }))
    ⊎ (new ≡ table_half_of s)
TableStep o other s new = new ≡ table_half_of s

-- the group in hand has left with its answers, and the log is free
abbrev pub left_with : State → List Writer → ListHalf
left_with s ws = record (list_half_of s) { log = free; leaving = s.leaving ++ ws }

-- the group in hand is in the log if one of its members has a run, and otherwise it has left
abbrev pub logged_with : State → List Writer → ListHalf
logged_with s ws = if list_any has_run ws then record (list_half_of s) { log = in_log ws } else left_with s ws

-- how an event changes the half with the writers
abbrev pub ListStep : Options → Event → State → ListHalf → Type 0
ListStep o (e.Link c) s new = (new ≡ list_half_of s)
    ⊎ ((w : Writer) × (w.client ≡ c) × (new ≡ record (list_half_of s) { queue = s.queue ++ w ∷ [] }))
ListStep o (e.Elect c) s new = (s.log ≡ free) × (new ≡ record (list_half_of s) { log = led c })
ListStep o (e.Build c) s new = (s.log ≡ led c)
    × (new ≡ record (list_half_of s) {
      log = built (take (group_size o s) s.queue);
      queue = drop (group_size o s) s.queue;
    })
ListStep o (e.Log c) s new = (ws : List Writer) × (s.log ≡ built ws)
    × (new ≡ logged_with s (with_runs s.assigned ws))
ListStep o (e.Fault c) s new = (ws : List Writer) × (s.log ≡ built ws)
    × (new ≡ left_with s (all_answered (refused (no.LogFault 1)) ws))
ListStep o (e.Refuse c stops delays wait) s new = (ws : List Writer) × (s.log ≡ built ws)
    × (new ≡ left_with s (all_answered (refused (no.Incomplete stops delays wait)) ws))
ListStep o (e.Stall c) s new = (ws : List Writer) × (s.log ≡ built ws)
    × (new ≡ record (list_half_of s) { log = stalled ws })
ListStep o (e.Leave m stops delays) s new = (ws : List Writer) × (w : Writer) × (s.log ≡ stalled ws)
    × (find (λ (x : Writer). x.client == m) s.queue ≡ Some w) × (w.options.no_slowdown ≡ true)
    × (new ≡ list_half_of (left_queue s m (no.Incomplete stops delays 0) w))
ListStep o (e.Unstall c) s new = (ws : List Writer) × (s.log ≡ stalled ws)
    × (new ≡ record (list_half_of s) { log = built ws })
ListStep o (e.Boundary c) s new = (ws : List Writer) × (s.log ≡ in_log ws)
    × (new ≡ record (list_half_of s) { log = marked ws })
ListStep o (e.Second c) s new = (ws : List Writer) × (s.log ≡ marked ws)
    × (new ≡ record (list_half_of s) { log = handed c; second = s.second ++ ws ∷ [] })
ListStep o (e.Next c) s new = (s.log ≡ handed c) × (new ≡ record (list_half_of s) { log = free })
ListStep o (e.Since c) s new = (w : Writer) × (s.log ≡ built (w ∷ [])) × (w.client ≡ c) × (w.since ≢ None)
    × (new ≡ record (list_half_of s) { log = built (record w { answer = Some (read_at s.last) } ∷ []) })
ListStep o (e.Exit c) s new = (new ≡ list_half_of (leave (without_table_group o s) (table_group o s)))
    ⊎ ((w : Writer) × (s.log ≡ built (w ∷ [])) × (w.client ≡ c) × (w.since ≢ None) × (new ≡ left_with s (w ∷ [])))
ListStep o (e.Complete m) s new =
    new ≡ record (list_half_of s) { leaving = filter (λ (w : Writer). not (w.client == m)) s.leaving }
ListStep o other s new = new ≡ list_half_of s
