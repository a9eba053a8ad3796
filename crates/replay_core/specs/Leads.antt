-- Who leads, and the group in the table.
use Rattle.std.specs.Prelude.{ℕ, suc, Bool, true, false, ◌&&◌, List, [], ◌∷◌, take, drop, Option, Some, None, slice_get, nat_lt, ◌==◌, if◌then◌else◌}
use Rattle.std.specs.Option.{option_map_or}
use Rattle.replay_core.specs.declared.phases.LogPhase.{LogPhase}
use Rattle.replay_core.specs.declared.writer.Answer.{Answer}
use Rattle.replay_core.specs.declared.writer.Answer.TheVariants.{Accepted, Refused, ReadAt}
use Rattle.replay_core.specs.declared.writer.Writer.{Writer}
use Rattle.replay_core.specs.Phases.{is_in_log}

-- the writer at a place is the client's
abbrev pub leads_at : ℕ → ℕ → List Writer → Bool
leads_at c place ws = option_map_or (λ (w : Writer). w.client == c) (slice_get ws place) false

-- the first of `len` writers from a place on is the client's
abbrev pub leads_front : ℕ → ℕ → ℕ → List Writer → Bool
leads_front c place len ws = nat_lt 0 len && leads_at c place ws

-- whether a writer with this answer has a run
abbrev pub has_run : Option Answer → Bool
has_run None = false
has_run (Some (Accepted run)) = true
has_run (Some (Refused why)) = false
has_run (Some (ReadAt at)) = false

-- the last sequence of its run, or `n` if it has none
abbrev pub last_after : ℕ → Option Answer → ℕ
last_after n None = n
last_after n (Some (Accepted run)) = run.last
last_after n (Some (Refused why)) = n
last_after n (Some (ReadAt at)) = n

abbrev pub finished_last : ℕ → Option ℕ → Bool
finished_last c None = false
finished_last c (Some d) = d == c

-- The group in the table, or the one that goes there next: where the path is pipelined the first group of the second
-- queue, else the logged group in hand

abbrev pub first_len : List ℕ → ℕ
first_len [] = 0
first_len (n ∷ ns) = n

abbrev pub table_start : Bool → ℕ → ℕ
table_start pipelined in_second = if pipelined then 0 else in_second

abbrev pub table_len : Bool → List ℕ → LogPhase → ℕ → ℕ
table_len pipelined second log in_hand = if pipelined then first_len second else (if is_in_log log then in_hand else 0)

abbrev pub table_part : {A : Type 0} → Bool → ℕ → List ℕ → LogPhase → ℕ → List A → List A
table_part pipelined in_second second log in_hand xs =
    take (table_len pipelined second log in_hand) (drop (table_start pipelined in_second) xs)

-- how many writers there are before the first one of the client
abbrev pub writers_before : ℕ → List Writer → ℕ
writers_before c [] = 0
writers_before c (w ∷ ws) = if w.client == c then 0 else suc (writers_before c ws)
