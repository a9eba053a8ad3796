-- When a state of the code is a given state of the machine of events.
use Rattle.std.specs.Prelude.{◌≡◌, ℕ, zero, suc, ◌+◌, ◌≤◌, Bool, true, false, List, length, take, drop, map, sum_by, Option, Some, None, find, slice_get, slice_index_or, option_map, ◌==◌, if◌then◌else◌, vec_len, vec_capacity}
use Rattle.std.specs.List.{AllByRecursion}
use Rattle.model_base.specs.declared.group.Item.{Item}
use Rattle.model_base.specs.Batch.{count_of}
use Rattle.model_core.specs.Core as core
use Rattle.model_core.specs.Step.{is_last}
use Rattle.replay_plans.specs.declared.plan.ClientPlan.{ClientPlan}
use Rattle.replay_core.specs.declared.phases.LogPhase.{LogPhase}
use Rattle.replay_core.specs.declared.phases.LogPhase.TheVariants as phase
use Rattle.replay_core.specs.declared.phases.TablePhase.{TablePhase}
use Rattle.replay_core.specs.declared.phases.TablePhase.TheVariants as table
use Rattle.replay_core.specs.declared.phases.Mark.{Mark}
use Rattle.replay_core.specs.declared.phases.Mark.TheVariants.{Out}
use Rattle.replay_core.specs.declared.writer.Writer.{Writer}
use Rattle.replay_plans.specs.Answers.{answers_of}
use Rattle.replay_core.specs.Replies.{AreReplies}
use Rattle.replay_plans.specs.Plans.{records_in, records_of}
use Rattle.replay_core.specs.Shown.{options_of, shown_writer, shown_entry, shown_log, groups_of_lengths, total}
use Rattle.replay_core.specs.declared.state.Seat.{Seat}
use Rattle.replay_core.specs.declared.state.State.{State}
use Rattle.replay_core.specs.Leads.{finished_last}
use Rattle.replay_core.specs.Phases.{has_group, is_inserted, is_finished}
use Rattle.replay_plans.specs.Small.{AreSmall}

-- Clients

-- the code's plan and seat of a client agree with the machine's client
pub record IsClient (plan : ClientPlan) (seat : Seat) (client : core.Client) : Type 0 where
  pub left : client.left ≡ drop seat.next plan
  pub begun : seat.from ≤ seat.next
  pub within : seat.next ≤ length plan
  pub added : client.added ≡ records_in plan (record { from = seat.from; to = seat.next })
  pub small : AreSmall client.added client.left
  pub idle : client.idle ≡ seat.idle
  pub replies : AreReplies seat.replies.items (answers_of client.calls)
  pub room : length seat.replies.items + (if client.idle then 0 else 1) + length client.left ≤ vec_capacity seat.replies

pub record AreClients (plans : List ClientPlan) (seats : List Seat) (clients : List core.Client) : Type 0 where
  pub plan_each : length plans ≡ length clients
  pub seat_each : length seats ≡ length clients
  pub each : (i : ℕ) (plan : ClientPlan) (seat : Seat) (client : core.Client) → slice_get plans i ≡ Some plan
      → slice_get seats i ≡ Some seat → slice_get clients i ≡ Some client → IsClient plan seat client

-- The writers that wait, in order: the groups of the second queue, the group in hand, the queue
pub record IsLine (ws : List core.Writer) (second : List ℕ) (in_second in_hand : ℕ) (log : LogPhase) (s : core.State) :
    Type 0 where
  pub second_sum : in_second ≡ total second
  pub second_groups : s.second ≡ groups_of_lengths second ws
  pub hand : s.log ≡ shown_log log (take in_hand (drop in_second ws))
  pub no_hand : has_group log ≡ false → in_hand ≡ 0
  pub queue : s.queue ≡ drop (in_second + in_hand) ws

-- the writer's client is one of the clients 1 to `plans`
pub record IsClientOf (plans : ℕ) (w : Writer) : Type 0 where
  pub from_one : 1 ≤ w.client
  pub few : w.client ≤ plans

-- what is kept with each waiting writer is right: its item, its count, and its client's number
pub record AreWriters (plans : List ClientPlan) (linked : List Writer) (items : List Item) : Type 0 where
  pub items_are : items ≡ map (λ w. core.item_of (shown_writer plans w)) linked
  pub counts_are : map (λ (w : Writer). w.count) linked
      ≡ map (λ (w : Writer). count_of (records_of plans w.client w.batch)) linked
  pub known : AllByRecursion (IsClientOf (length plans)) linked

-- The table
abbrev pub mark_of : List Mark → ℕ → Mark
mark_of marks zero = Out
mark_of marks (suc c) = slice_index_or marks c Out

pub record IsLaunched (marks : List Mark) (last_finished : Option ℕ) (ins fin : List ℕ) : Type 0 where
  pub inserted : (c : ℕ) → core.among c ins ≡ is_inserted (mark_of marks c)
  pub finished : (c : ℕ) → core.among c fin ≡ is_finished (mark_of marks c)
  pub last : (c : ℕ) → is_last c fin ≡ finished_last c last_finished

abbrev pub IsTable : TablePhase → List Mark → Option ℕ → core.TablePhase → Type 0
IsTable table.Still marks last t = t ≡ core.still
IsTable table.Published marks last t = t ≡ core.published
IsTable table.Launched marks last t = (ins : List ℕ) × (fin : List ℕ) × (t ≡ core.launched ins fin)
    × IsLaunched marks last ins fin

-- a client's writer that has left, by the client's number
abbrev pub done_of : List (Option Writer) → ℕ → Option Writer
done_of left zero = None
done_of left (suc c) = slice_index_or left c None

abbrev pub AreDone : List ClientPlan → List (Option Writer) → List core.Writer → Type 0
AreDone plans left leaving = (c : ℕ)
    → find (λ (w : core.Writer). w.client == c) leaving ≡ option_map (shown_writer plans) (done_of left c)

-- Room: how many items each vector may still get

-- how many writers of the group in hand have their answers
abbrev pub answers_in_hand : LogPhase → ℕ → ℕ
answers_in_hand phase.Free n = 0
answers_in_hand (phase.Led c) n = 0
answers_in_hand phase.Built n = 0
answers_in_hand phase.Stalled n = 0
answers_in_hand phase.InLog n = n
answers_in_hand phase.Marked n = n
answers_in_hand (phase.Handed c) n = 0

abbrev pub lines_left : List core.Client → ℕ
lines_left clients = sum_by (λ (c : core.Client). length c.left) clients

pub record HasRoom (r : State) (left : ℕ) : Type 0 where
  pub linked : vec_len r.linked + left ≤ vec_capacity r.linked
  pub items : vec_len r.linked + left ≤ vec_capacity r.items
  pub second : vec_len r.second + vec_len r.linked + left ≤ vec_capacity r.second + r.in_second
  pub entries : vec_len r.entries + vec_len r.linked + left ≤ vec_capacity r.entries + r.in_second
      + answers_in_hand r.log r.in_hand
  pub groups : vec_len r.groups ≤ vec_len r.entries
  pub group_room : vec_capacity r.entries ≤ vec_capacity r.groups

-- The state of the code is that of the machine with these options.
pub record Mirrors (o : core.Options) (r : State) (s : core.State) : Type 0 where
  pub options : options_of r.options ≡ o
  pub clients : AreClients r.plans.items r.seats.items s.clients
  pub line : IsLine (map (shown_writer r.plans.items) r.linked.items) r.second.items r.in_second r.in_hand r.log s
  pub writers : AreWriters r.plans.items r.linked.items r.items.items
  pub table : IsTable r.table r.marks.items r.last_finished s.table
  pub leaving : AreDone r.plans.items r.done.items s.leaving
  pub entries : s.entries ≡ map (shown_entry r.plans.items) r.entries.items
  pub groups : s.groups ≡ r.groups.items
  pub assigned : s.assigned ≡ r.assigned
  pub log_failed : s.log_failed ≡ r.log_failed
  pub last : s.last ≡ r.last
  pub room : HasRoom r (lines_left s.clients)

-- The result of an event: it could not come and all is as it was, or `t` is the state after it.
abbrev pub MirrorsStep : Option core.State → core.Options → core.State → Bool → State → Type 0
MirrorsStep None o s came new = (came ≡ false) × Mirrors o new s
MirrorsStep (Some t) o s came new = (came ≡ true) × Mirrors o new t
