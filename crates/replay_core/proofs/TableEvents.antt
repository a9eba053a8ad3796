-- The events of the table, as the code tests for them.
use Rattle.std.proofs.Common.{◌≡◌, ℕ, zero, suc, ◌<◌, ◌≤◌, Bool, true, false, not, ◌&&◌, ◌||◌, ◌==◌, List, [], ◌∷◌, length, take, drop, map, fold, Option, Some, None, refl, sym, ap, ◌∙◌, arith}
use Rattle.std.specs.Prelude.{if◌then◌else◌, filter, is_some}
use Rattle.std.specs.List.{drop-map, take-map, list_any, list_all, AllByRecursion}
use Rattle.std.proofs.lemmas.Bool.Decides.{nat_tests}
use Rattle.model_base.specs.Batch.{Record}
use Rattle.model_core.specs.Core as core
use Rattle.model_core.specs.Step as event
use Rattle.replay_core.specs.declared.phases.LogPhase.{LogPhase}
use Rattle.replay_core.specs.declared.phases.LogPhase.TheVariants.{Free, Led, Built, Stalled, InLog, Marked, Handed}
use Rattle.replay_core.specs.declared.phases.TablePhase.{TablePhase}
use Rattle.replay_core.specs.declared.phases.TablePhase.TheVariants.{Still, Launched, Published}
use Rattle.replay_core.specs.declared.phases.Mark.{Mark}
use Rattle.replay_plans.specs.declared.plan.ClientPlan.{ClientPlan}
use Rattle.replay_core.specs.declared.writer.Answer.{Answer}
use Rattle.replay_core.specs.declared.writer.Answer.TheVariants.{Accepted, Refused, ReadAt}
use Rattle.replay_core.specs.declared.writer.Writer.{Writer}
use Rattle.replay_core.specs.declared.state.State.{State}
use Rattle.replay_core.specs.Phases.{is_in_log, is_still, is_launched, is_published, is_finished}
use Rattle.replay_core.specs.Leads.{leads_front, table_start, table_len, table_part, first_len, has_run, last_after}
use Rattle.replay_core.specs.Shown.{shown_writer, shown_answer, shown_log, groups_of_lengths}
use Rattle.replay_core.specs.Mirrors.{Mirrors, IsTable, IsLaunched, IsClientOf, mark_of}
use Rattle.replay_core.proofs.LogEvents.{line_of, leads_line}

-- the part of a list that is the group in the table
abbrev pub in_table : {A : Type 0} → State → List A → List A
in_table r xs = table_part r.options.pipelined r.in_second r.second.items r.log r.in_hand xs

first_of_cut : (ns : List ℕ) (ws : List core.Writer) → core.first_group (groups_of_lengths ns ws) ≡ take (first_len ns) ws
first_of_cut [] ws = refl
first_of_cut (n ∷ ns) ws = refl

hand_in_log : (log : LogPhase) (n start : ℕ) (ws : List core.Writer) → core.in_hand (shown_log log (take n (drop start ws))) ≡ take (if is_in_log log then n else 0) (drop start ws)
hand_in_log Free n start ws = refl
hand_in_log (Led d) n start ws = refl
hand_in_log Built n start ws = refl
hand_in_log Stalled n start ws = refl
hand_in_log InLog n start ws = refl
hand_in_log Marked n start ws = refl
hand_in_log (Handed d) n start ws = refl

group_by : (pipelined : Bool) (r : State) (s : core.State) (ws : List core.Writer) → s.second ≡ groups_of_lengths r.second.items ws → s.log ≡ shown_log r.log (take r.in_hand (drop r.in_second ws))
    → (if pipelined then core.first_group s.second else core.in_hand s.log) ≡ table_part pipelined r.in_second r.second.items r.log r.in_hand ws
group_by true r s ws e h = ap core.first_group e ∙ first_of_cut r.second.items ws
group_by false r s ws e h = ap core.in_hand h ∙ hand_in_log r.log r.in_hand r.in_second ws

-- the group in the table, as the code has it
pub group_is : (o : core.Options) (r : State) (s : core.State) → Mirrors o r s → core.table_group o s ≡ in_table r (line_of r)
group_is o r s m =
    let same : o.pipelined ≡ r.options.pipelined = ap (λ (p : core.Options). p.pipelined) (sym m.options) in
    ap (λ b. if b then core.first_group s.second else core.in_hand s.log) same
    ∙ group_by r.options.pipelined r s (line_of r) m.line.second_groups m.line.hand

part_of_line : (r : State) → in_table r (line_of r) ≡ map (shown_writer r.plans.items) (in_table r r.linked.items)
part_of_line r =
    let start : ℕ = table_start r.options.pipelined r.in_second in
    let len : ℕ = table_len r.options.pipelined r.second.items r.log r.in_hand in
    ap (take len) (drop-map (shown_writer r.plans.items) start r.linked.items) ∙ take-map (shown_writer r.plans.items) len (drop start r.linked.items)

pub members_are : (o : core.Options) (r : State) (s : core.State) → Mirrors o r s → core.table_group o s ≡ map (shown_writer r.plans.items) (in_table r r.linked.items)
members_are o r s m = group_is o r s m ∙ part_of_line r

pub leads_is : (o : core.Options) (r : State) (s : core.State) (c : ℕ) → Mirrors o r s → core.leads c (core.table_group o s)
    ≡ leads_front c (table_start r.options.pipelined r.in_second) (table_len r.options.pipelined r.second.items r.log r.in_hand) r.linked.items
leads_is o r s c m = ap (core.leads c) (group_is o r s m)
    ∙ leads_line r.plans.items c (table_start r.options.pipelined r.in_second) (table_len r.options.pipelined r.second.items r.log r.in_hand) r.linked.items

run_shown : (records : List Record) (a : Option Answer) → is_some (core.run_of (shown_answer records a)) ≡ has_run a
run_shown records None = refl
run_shown records (Some (Accepted run)) = refl
run_shown records (Some (Refused why)) = refl
run_shown records (Some (ReadAt at)) = refl

runners_more : (c d : ℕ) (b : Bool) (ws : List core.Writer) (w : core.Writer) → core.has_run w ≡ b → w.client ≡ d → core.among c (core.runners (w ∷ ws)) ≡ ((d == c && b) || core.among c (core.runners ws))
runners_more c d b ws w e f = runs_by (core.has_run w) e
  where
    and_true : (x : Bool) → (x && true) ≡ x
    and_true true = refl
    and_true false = refl

    and_false : (x : Bool) → (x && false) ≡ false
    and_false true = refl
    and_false false = refl

    runs_by : (v : Bool) → v ≡ b → core.among c (map (λ (w : core.Writer). w.client) (if v then w ∷ filter core.has_run ws else filter core.has_run ws)) ≡ ((d == c && b) || core.among c (core.runners ws))
    runs_by true e = ap (λ x. x || core.among c (core.runners ws)) (ap (λ n. n == c) f ∙ sym (and_true (d == c)) ∙ ap (λ x. d == c && x) e)
    runs_by false e = ap (λ x. x || core.among c (core.runners ws)) (sym (and_false (d == c)) ∙ ap (λ x. d == c && x) e)

pub runner_is : (plans : List ClientPlan) (c : ℕ) (ws : List Writer) → core.among c (core.runners (map (shown_writer plans) ws)) ≡ list_any (λ (w : Writer). w.client == c && has_run w.answer) ws
runner_is plans c [] = refl
runner_is plans c (w ∷ ws) =
    runners_more c w.client (has_run w.answer) (map (shown_writer plans) ws) (shown_writer plans w) (run_shown _ w.answer) refl
    ∙ ap (λ b. (w.client == c && has_run w.answer) || b) (runner_is plans c ws)

-- Launch

launch_by : (o : core.Options) (s : core.State) (c : ℕ) (phase : TablePhase) (marks : List Mark) (last : Option ℕ) → IsTable phase marks last s.table
    → event.launch o s c s.table ≡ event.when (is_still phase && core.leads c (core.table_group o s)) (record s { table = core.launched [] [] })
launch_by o s c Still marks last e = ap (event.launch o s c) e
launch_by o s c Published marks last e = ap (event.launch o s c) e
launch_by o s c Launched marks last (ins, fin, e, l) = ap (event.launch o s c) e

pub launch_is : (o : core.Options) (r : State) (s : core.State) (c : ℕ) → Mirrors o r s → event.launch o s c s.table
    ≡ event.when (is_still r.table && leads_front c (table_start r.options.pipelined r.in_second) (table_len r.options.pipelined r.second.items r.log r.in_hand) r.linked.items) (record s { table = core.launched [] [] })
launch_is o r s c m = launch_by o s c r.table r.marks.items r.last_finished m.table ∙ ap (λ b. event.when (is_still r.table && b) (record s { table = core.launched [] [] })) (leads_is o r s c m)

-- What the code keeps of a launched group

pub launched_parts : (phase : TablePhase) (marks : List Mark) (last : Option ℕ) (t : core.TablePhase) → is_launched phase ≡ true → IsTable phase marks last t
    → (ins : List ℕ) × (fin : List ℕ) × (t ≡ core.launched ins fin) × IsLaunched marks last ins fin
launched_parts Launched marks last t e h = h
launched_parts Still marks last t e h = cc
launched_parts Published marks last t e h = cc

pub not_launched : (o : core.Options) (s : core.State) (c : ℕ) (phase : TablePhase) (marks : List Mark) (last : Option ℕ) → is_launched phase ≡ false → IsTable phase marks last s.table
    → (event.insert o s c s.table ≡ None) × (event.finish s c s.table ≡ None) × (event.publish o s c s.table ≡ None)
not_launched o s c Still marks last e h = (ap (event.insert o s c) h, ap (event.finish s c) h, ap (event.publish o s c) h)
not_launched o s c Published marks last e h = (ap (event.insert o s c) h, ap (event.finish s c) h, ap (event.publish o s c) h)
not_launched o s c Launched marks last e h = cc

-- Publish

all_more : (p : ℕ → Bool) (d : ℕ) (b : Bool) (ws : List core.Writer) (w : core.Writer) → core.has_run w ≡ b → w.client ≡ d → list_all p (core.runners (w ∷ ws)) ≡ ((not b || p d) && list_all p (core.runners ws))
all_more p d b ws w e f = all_by (core.has_run w) e
  where
    all_by : (v : Bool) → v ≡ b → list_all p (map (λ (w : core.Writer). w.client) (if v then w ∷ filter core.has_run ws else filter core.has_run ws)) ≡ ((not b || p d) && list_all p (core.runners ws))
    all_by true e = ap (λ x. x && list_all p (core.runners ws)) (ap p f ∙ ap (λ x. not x || p d) e)
    all_by false e = ap (λ x. (not x || p d) && list_all p (core.runners ws)) e

pub all_finished_is : (plans : List ClientPlan) (marks : List Mark) (fin : List ℕ) → ((c : ℕ) → core.among c fin ≡ is_finished (mark_of marks c)) → (ws : List Writer)
    → list_all (λ c. core.among c fin) (core.runners (map (shown_writer plans) ws)) ≡ list_all (λ (w : Writer). not (has_run w.answer) || is_finished (mark_of marks w.client)) ws
all_finished_is plans marks fin known [] = refl
all_finished_is plans marks fin known (w ∷ ws) =
    all_more (λ c. core.among c fin) w.client (has_run w.answer) (map (shown_writer plans) ws) (shown_writer plans w) (run_shown _ w.answer) refl
    ∙ ap (λ b. (not (has_run w.answer) || b) && list_all (λ c. core.among c fin) (core.runners (map (shown_writer plans) ws))) (known w.client)
    ∙ ap (λ b. (not (has_run w.answer) || is_finished (mark_of marks w.client)) && b) (all_finished_is plans marks fin known ws)

last_shown : (n : ℕ) (records : List Record) (a : Option Answer) → event.last_of_answer n (shown_answer records a) ≡ last_after n a
last_shown n records None = refl
last_shown n records (Some (Accepted run)) = refl
last_shown n records (Some (Refused why)) = refl
last_shown n records (Some (ReadAt at)) = refl

pub group_last_is : (plans : List ClientPlan) (n : ℕ) (ws : List Writer) → event.group_last n (map (shown_writer plans) ws) ≡ fold (λ n (w : Writer). last_after n w.answer) n ws
group_last_is plans n [] = refl
group_last_is plans n (w ∷ ws) =
    ap (λ k. event.group_last k (map (shown_writer plans) ws)) (last_shown n _ w.answer) ∙ group_last_is plans (last_after n w.answer) ws

-- A writer with a run in the group is of a client that exists

any_known : (plans : ℕ) (c : ℕ) (ws : List Writer) → AllByRecursion (IsClientOf plans) ws → list_any (λ (w : Writer). w.client == c && has_run w.answer) ws ≡ true → (1 ≤ c) × (c ≤ plans)
any_known plans c [] known e = cc
any_known plans c (w ∷ ws) known e = by_first (any_known plans c ws known.1) (w.client == c) refl e
  where
    by_first : (list_any (λ (w : Writer). w.client == c && has_run w.answer) ws ≡ true → (1 ≤ c) × (c ≤ plans)) → (b : Bool) → (w.client == c) ≡ b → ((b && has_run w.answer) || list_any (λ (w : Writer). w.client == c && has_run w.answer) ws) ≡ true → (1 ≤ c) × (c ≤ plans)
    by_first later true t e = let same : w.client ≡ c = grind (arith, nat_tests) in (omega (arith, known.0.from_one), omega (arith, known.0.few))
    by_first later false t e = later e

pub known_take : (P : Writer → Type 0) (n : ℕ) (ws : List Writer) → AllByRecursion P ws → AllByRecursion P (take n ws)
known_take P zero ws h = tt
known_take P (suc n) [] h = tt
known_take P (suc n) (w ∷ ws) h = (h.0, known_take P n ws h.1)

pub known_drop : (P : Writer → Type 0) (n : ℕ) (ws : List Writer) → AllByRecursion P ws → AllByRecursion P (drop n ws)
known_drop P zero ws h = h
known_drop P (suc n) [] h = tt
known_drop P (suc n) (w ∷ ws) h = known_drop P n ws h.1

pub runner_is_client : (o : core.Options) (r : State) (s : core.State) (c : ℕ) → Mirrors o r s → list_any (λ (w : Writer). w.client == c && has_run w.answer) (in_table r r.linked.items) ≡ true → (1 ≤ c) × (c ≤ length r.plans.items)
runner_is_client o r s c m e =
    any_known (length r.plans.items) c (in_table r r.linked.items)
    (known_take (IsClientOf (length r.plans.items)) (table_len r.options.pipelined r.second.items r.log r.in_hand) (drop (table_start r.options.pipelined r.in_second) r.linked.items)
    (known_drop (IsClientOf (length r.plans.items)) (table_start r.options.pipelined r.in_second) r.linked.items m.writers.known)) e

pub launched_table : (phase : TablePhase) (marks : List Mark) (last : Option ℕ) (ins fin : List ℕ) → is_launched phase ≡ true → IsLaunched marks last ins fin → IsTable phase marks last (core.launched ins fin)
launched_table Launched marks last ins fin e l = (ins, fin, refl, l)
launched_table Still marks last ins fin e l = cc
launched_table Published marks last ins fin e l = cc

-- Exit

abbrev pub after_exit : core.State → Bool → core.State
after_exit s b = record (event.leave (if b then record s { second = drop 1 s.second } else record s { log = core.free }) (if b then core.first_group s.second else core.in_hand s.log)) { table = core.still }

exit_by : (o : core.Options) (s : core.State) (c : ℕ) (phase : TablePhase) (marks : List Mark) (last : Option ℕ) → IsTable phase marks last s.table
    → event.exit o s c s.table ≡ (if is_published phase && core.leads c (core.table_group o s) then Some (after_exit s o.pipelined) else event.exit_reader s c s.log)
exit_by o s c Still marks last e = ap (event.exit o s c) e
exit_by o s c Published marks last e = ap (event.exit o s c) e
exit_by o s c Launched marks last (ins, fin, e, l) = ap (event.exit o s c) e

pub exit_is : (o : core.Options) (r : State) (s : core.State) (c : ℕ) → Mirrors o r s → event.exit o s c s.table
    ≡ (if is_published r.table && leads_front c (table_start r.options.pipelined r.in_second) (table_len r.options.pipelined r.second.items r.log r.in_hand) r.linked.items
    then Some (after_exit s r.options.pipelined) else event.exit_reader s c s.log)
exit_is o r s c m = exit_by o s c r.table r.marks.items r.last_finished m.table
    ∙ ap (λ b. if is_published r.table && b then Some (after_exit s o.pipelined) else event.exit_reader s c s.log) (leads_is o r s c m)
    ∙ ap (λ b. if is_published r.table && leads_front c (table_start r.options.pipelined r.in_second) (table_len r.options.pipelined r.second.items r.log r.in_hand) r.linked.items then Some (after_exit s b) else event.exit_reader s c s.log) (ap (λ (p : core.Options). p.pipelined) (sym m.options))

-- the group in hand, where it is the group in the table
pub exit_hand : (log : LogPhase) (n start : ℕ) (s : core.State) (ws : List core.Writer) → s.log ≡ shown_log log (take n (drop start ws)) → 0 < (if is_in_log log then n else 0) → core.in_hand s.log ≡ take n (drop start ws)
exit_hand InLog n start s ws e h = ap core.in_hand e
exit_hand Free n start s ws e h = absurd (omega arith)
exit_hand (Led d) n start s ws e h = absurd (omega arith)
exit_hand Built n start s ws e h = absurd (omega arith)
exit_hand Stalled n start s ws e h = absurd (omega arith)
exit_hand Marked n start s ws e h = absurd (omega arith)
exit_hand (Handed d) n start s ws e h = absurd (omega arith)
