-- What the laws of the clients' events share: a client's place, and its calls.
use Rattle.std.proofs.Common.{◌≡◌, ℕ, zero, suc, ◌-◌, List, [], ◌∷◌, ◌++◌, slice_get, slice_set, filter, Some, is_some, IsSome, if◌then◌else◌, ◌⊎◌, inl, inr, refl, ap, sym, ◌∙◌, subst, arith}
use Rattle.std.specs.List.{AllByRecursion, AllZip}
use Rattle.std.proofs.lemmas.Bool.{cases_eq}
use Rattle.model_base.specs.Batch.{Record}
use Rattle.model_base.specs.Calls.{Command, add, clear, Call}
use Rattle.model_core.specs.Core.{Options, Writer, Client, TablePhase, still, launched, published, State, client_at, with_client, ahead, has_run}
use Rattle.model_core.specs.CoreLaw.{IsCore, HasWork, LedIsFirst, IsTable, IsEntryOf, hand, unpublished_writers, unpublished_groups, waiting_clients}
use Rattle.model_core_laws.proofs.Tables.{times, parts_same}

-- going ahead to the next call leaves a client idle
pub ahead_idle : (calls : List Call) (added : List Record) (left : List Command) (client : Client) → (ahead calls added left client).client.idle ≡ client.idle
ahead_idle calls added [] client = refl
ahead_idle calls added (add r ∷ left) client = ahead_idle _ _ left client
ahead_idle calls added (clear ∷ left) client = ahead_idle _ _ left client
ahead_idle calls added (c ∷ left) client = refl

set_same : {A : Type 0} (xs : List A) (i : ℕ) (a b : A) → slice_get xs i ≡ Some a → slice_get (slice_set xs i b) i ≡ Some b
set_same [] i a b is = absurd (cc)
set_same (x ∷ xs) zero a b is = refl
set_same (x ∷ xs) (suc i) a b is = set_same xs i a b is

set_other : {A : Type 0} (xs : List A) (i j : ℕ) (b : A) → (i ≡ j → ⊥) → slice_get (slice_set xs i b) j ≡ slice_get xs j
set_other [] i j b other = refl
set_other (x ∷ xs) zero zero b other = absurd (other refl)
set_other (x ∷ xs) zero (suc j) b other = refl
set_other (x ∷ xs) (suc i) zero b other = refl
set_other (x ∷ xs) (suc i) (suc j) b other = set_other xs i j b (λ e. other (ap suc e))

-- a client that is there is replaced
pub replaced : (s : State) (c : ℕ) (old new : Client) → client_at s c ≡ Some old → client_at (with_client s c new) c ≡ Some new
replaced s zero old new is = absurd (cc)
replaced s (suc c) old new is =
    let e : suc c - 1 ≡ c = omega arith in
    subst (λ i. slice_get (slice_set s.clients i new) c ≡ Some new) (sym e) (set_same s.clients c old new is)

-- and the other clients stay as they are
pub unchanged : (s : State) (c n : ℕ) (old new : Client) → client_at s c ≡ Some old → (c ≡ n → ⊥) → client_at (with_client s c new) n ≡ client_at s n
unchanged s zero n old new is other = absurd (cc)
unchanged s (suc c) zero old new is other = refl
unchanged s (suc c) (suc n) old new is other =
    let e : suc c - 1 ≡ c = omega arith in
    subst (λ i. slice_get (slice_set s.clients i new) n ≡ slice_get s.clients n) (sym e) (set_other s.clients c n new (λ same. other (ap suc same)))

pub still_there : (s : State) (c : ℕ) (old new : Client) → client_at s c ≡ Some old → (n : ℕ) → IsSome (client_at s n) → IsSome (client_at (with_client s c new) n)
still_there s c old new is n some = by (cases_eq c n)
  where
    by : (c ≡ n) ⊎ (c ≡ n → ⊥) → IsSome (client_at (with_client s c new) n)
    by (inl same) = subst (λ m. IsSome (client_at (with_client s c new) m)) same (ap is_some (replaced s c old new is))
    by (inr other) = ap is_some (unchanged s c n old new is other) ∙ some

-- each client waits just once, if the one that was replaced does and the others do
pub once_after : (s t : State) (c : ℕ) (old new : Client) → client_at s c ≡ Some old → t.clients ≡ (with_client s c new).clients
    → times c (waiting_clients t) ≡ (if new.idle then 0 else 1)
    → ((n : ℕ) (client : Client) → (c ≡ n → ⊥) → client_at s n ≡ Some client → times n (waiting_clients t) ≡ (if client.idle then 0 else 1))
    → (n : ℕ) (client : Client) → client_at (with_client s c new) n ≡ Some client → times n (waiting_clients t) ≡ (if client.idle then 0 else 1)
once_after s t c old new is same here others n client at = by (cases_eq c n)
  where
    by : (c ≡ n) ⊎ (c ≡ n → ⊥) → times n (waiting_clients t) ≡ (if client.idle then 0 else 1)
    by (inl e) =
        let f : client_at (with_client s c new) n ≡ Some new = subst (λ m. client_at (with_client s c new) m ≡ Some new) e (replaced s c old new is) in
        let g : new ≡ client = cc in
        subst (λ (x : Client). times n (waiting_clients t) ≡ (if x.idle then 0 else 1)) g (subst (λ m. times m (waiting_clients t) ≡ (if new.idle then 0 else 1)) e here)
    by (inr other) = others n client other (sym (unchanged s c n old new is other) ∙ at)

-- The clients that wait, and their places

-- the state with other clients, another queue, and others that have left
abbrev pub with_places : State → List Client → List Writer → List Writer → State
with_places s clients queue leaving = record s { clients = clients; queue = queue; leaving = leaving }

same_ahead : (o : Options) (s : State) (clients : List Client) (queue leaving : List Writer) (table : TablePhase) → unpublished_writers o s table ≡ unpublished_writers o (with_places s clients queue leaving) table
same_ahead o s clients queue leaving still = refl
same_ahead o s clients queue leaving (launched ins fin) = refl
same_ahead o s clients queue leaving published = refl

same_table : (o : Options) (s : State) (clients : List Client) (queue leaving : List Writer) (table : TablePhase) → IsTable o s table → IsTable o (with_places s clients queue leaving) table
same_table o s clients queue leaving still is = is
same_table o s clients queue leaving (launched ins fin) is = is
same_table o s clients queue leaving published is = is

same_groups : (o : Options) (s : State) (clients : List Client) (queue leaving : List Writer) (table : TablePhase) → unpublished_groups o s table ≡ unpublished_groups o (with_places s clients queue leaving) table
same_groups o s clients queue leaving still = refl
same_groups o s clients queue leaving (launched ins fin) = refl
same_groups o s clients queue leaving published = refl

-- the law needs no more than who waits where
pub places : (o : Options) (s : State) (clients : List Client) (queue leaving : List Writer)
    → ((c : ℕ) (client : Client) → client_at (with_places s clients queue leaving) c ≡ Some client → times c (waiting_clients (with_places s clients queue leaving)) ≡ (if client.idle then 0 else 1))
    → AllByRecursion (λ c. IsSome (client_at (with_places s clients queue leaving) c)) (waiting_clients (with_places s clients queue leaving))
    → LedIsFirst s.log queue
    → AllByRecursion HasWork (hand s.log ++ queue)
    → IsCore o s → IsCore o (with_places s clients queue leaving)
places o s clients queue leaving once there led counted core = record {
  once = once;
  clients = there;
  led_is_first = led;
  single_stage = core.single_stage;
  unmarked = core.unmarked;
  counted = counted;
  alone = core.alone;
  one_log_flag = core.one_log_flag;
  is_history = core.is_history;
  assigned = core.assigned;
  front = core.front;
  is_boundary = core.is_boundary;
  ahead = subst (λ ws. AllZip IsEntryOf (filter has_run ws) core.is_boundary.rest) (same_ahead o s clients queue leaving s.table) core.ahead;
  in_table = core.in_table;
  from_entries = core.from_entries;
  is_table = same_table o s clients queue leaving s.table core.is_table;
  has_inserted = core.has_inserted;
  parts = core.parts;
  cut = core.cut;
  groups = core.groups;
  none_empty = core.none_empty;
  runs = core.runs;
  at_boundary = parts_same o s (with_places s clients queue leaving) core.front core.is_boundary.rest core.parts (same_groups o s clients queue leaving s.table) core.at_boundary;
}
