-- Events that move writers, and change neither clients, entries nor the table.
use Rattle.std.proofs.Common.{◌≡◌, ℕ, Bool, true, false, List, [], ◌++◌, filter, ap, sym, ◌∙◌, subst, ◌==◌}
use Rattle.std.specs.List.{AllByRecursion, AllZip, count_by}
use Rattle.model_core.specs.Core.{Options, Writer, LogPhase, TablePhase, still, launched, published, State, has_run, table_group}
use Rattle.model_core.specs.CoreLaw.{IsCore, IsSubsequence, IsTable, IsUnmarked, LedIsFirst, SameLogFlag, HasWork, ReadAlone, HasInserted, IsEntryOf, hand, hand_with_runs, waiting_clients, in_order, unpublished_writers, group_with_runs, unpublished_groups}
use Rattle.model_core_laws.proofs.Tables.{AddsNobody, parts_same, subsequence_self}

-- the state with its writers in other places
abbrev pub lined : State → List (List Writer) → LogPhase → List Writer → List Writer → Bool → State
lined s second log queue leaving log_failed = record s { second = second; log = log; queue = queue; leaving = leaving; log_failed = log_failed }

-- the same clients wait
pub record SameMembers (xs ys : List ℕ) : Type 1 where
  pub counts : (p : ℕ → Bool) → count_by p ys ≡ count_by p xs
  pub all : (P : ℕ → Type 0) → AllByRecursion P xs → AllByRecursion P ys

pub same_line : (xs ys : List ℕ) → xs ≡ ys → SameMembers xs ys
same_line xs ys e = record { counts = λ p. ap (count_by p) (sym e); all = λ P a. subst (AllByRecursion P) e a }

-- what has to be shown of the writers' new places
pub record AreInPlace (o : Options) (s t : State) : Type 1 where
  pub members : SameMembers (waiting_clients s) (waiting_clients t)
  pub led : LedIsFirst t.log t.queue
  pub single : o.pipelined ≡ false → t.second ≡ []
  pub unmarked : o.pipelined ≡ false → IsUnmarked t.log
  pub counted : AllByRecursion HasWork (hand t.log ++ t.queue)
  pub alone : ReadAlone t.log
  pub one_log_flag : SameLogFlag (hand t.log)
  pub ahead : unpublished_writers o s s.table ≡ unpublished_writers o t s.table
  pub groups_ahead : unpublished_groups o s s.table ≡ unpublished_groups o t s.table
  pub is_table : IsTable o t s.table
  pub has_inserted : AllByRecursion (HasInserted s.inserted s.table) (filter has_run (table_group o t))

pub relined : (o : Options) (s : State) (second : List (List Writer)) (log : LogPhase) (queue leaving : List Writer) (log_failed : Bool)
    → AreInPlace o s (lined s second log queue leaving log_failed) → IsCore o s → IsCore o (lined s second log queue leaving log_failed)
relined o s second log queue leaving log_failed places core = record {
  once = λ c client is. places.members.counts (λ n. n == c) ∙ core.once c client is;
  clients = places.members.all _ core.clients;
  led_is_first = places.led;
  single_stage = places.single;
  unmarked = places.unmarked;
  counted = places.counted;
  alone = places.alone;
  one_log_flag = places.one_log_flag;
  is_history = core.is_history;
  assigned = core.assigned;
  front = core.front;
  is_boundary = core.is_boundary;
  ahead = subst (λ ws. AllZip IsEntryOf (filter has_run ws) core.is_boundary.rest) places.ahead core.ahead;
  in_table = core.in_table;
  from_entries = core.from_entries;
  is_table = places.is_table;
  has_inserted = places.has_inserted;
  parts = core.parts;
  cut = core.cut;
  groups = core.groups;
  none_empty = core.none_empty;
  runs = core.runs;
  at_boundary = parts_same o s (lined s second log queue leaving log_failed) core.front core.is_boundary.rest core.parts places.groups_ahead core.at_boundary;
}

-- what holds of the group in the table still holds, since the group is the same
pub same_table : (o : Options) (s t : State) (table : TablePhase) → table_group o s ≡ table_group o t → IsTable o s table → IsTable o t table
same_table o s t still e is = is
same_table o s t (launched ins fin) e is = rw e at is
same_table o s t published e is = rw e at is

pub same_unpublished : (o : Options) (s t : State) (table : TablePhase) → s.second ≡ t.second → hand_with_runs s.log ≡ hand_with_runs t.log → unpublished_writers o s table ≡ unpublished_writers o t table
same_unpublished o s t still e f = rw (e, f)
same_unpublished o s t (launched ins fin) e f = rw (e, f)
same_unpublished o s t published e f = rw (e, f)

pub same_groups : (o : Options) (s t : State) (table : TablePhase) → s.second ≡ t.second → group_with_runs s.log ≡ group_with_runs t.log → unpublished_groups o s table ≡ unpublished_groups o t table
same_groups o s t still e f = rw (e, f)
same_groups o s t (launched ins fin) e f = rw (e, f)
same_groups o s t published e f = rw (e, f)

-- the line stays as it is, and so nobody is added to it
pub kept_order : (s t : State) → in_order s ≡ in_order t → (s.log_failed ≡ true → (t.entries ≡ s.entries) × (t.log_failed ≡ true)) → AddsNobody s t
kept_order s t e log_failed = record { order = subst (λ xs. IsSubsequence xs (in_order s)) e (subsequence_self (in_order s)); log_failed = log_failed }
