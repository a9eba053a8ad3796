-- The events of the log, as the code tests for them.
use Rattle.std.proofs.Common.{◌≡◌, ℕ, zero, suc, ◌+◌, ◌<◌, Bool, true, false, not, ◌&&◌, nat_lt, List, [], ◌∷◌, ◌++◌, length, take, drop, map, get_or, find, Option, Some, None, refl, sym, ap, ◌∙◌, arith, ◌==◌}
use Rattle.std.specs.Prelude.{if◌then◌else◌, is_some}
use Rattle.std.proofs.lemmas.Bool.Decides.{nat_tests}
use Rattle.model_base.specs.declared.write.WriteOptions.{WriteOptions}
use Rattle.model_base.specs.declared.write.Refusal.{Refusal}
use Rattle.model_base.specs.declared.write.Refusal.TheVariants as no
use Rattle.model_base.specs.Calls.{refused}
use Rattle.model_core.specs.Core as core
use Rattle.model_core.specs.Step as event
use Rattle.replay_core.specs.declared.phases.LogPhase.{LogPhase}
use Rattle.replay_core.specs.declared.phases.LogPhase.TheVariants.{Free, Led, Built, Stalled, InLog, Marked, Handed}
use Rattle.replay_core.specs.declared.state.State.{State}
use Rattle.replay_plans.specs.declared.plan.ClientPlan.{ClientPlan}
use Rattle.replay_core.specs.declared.writer.Writer.{Writer}
use Rattle.replay_core.specs.Leads.{leads_at, leads_front}
use Rattle.replay_core.specs.Phases.{has_group, is_free, is_led_by, is_built, is_stalled, refusal_at, may_link_at, is_in_log, is_marked, is_handed_by}
use Rattle.replay_core.specs.Shown.{shown_writer, shown_log}
use Rattle.replay_core.specs.Mirrors.{Mirrors, answers_in_hand}

-- the writers of a state as the machine has them
abbrev pub line_of : State → List core.Writer
line_of r = map (shown_writer r.plans.items) r.linked.items

abbrev pub hand_of : State → List core.Writer
hand_of r = take r.in_hand (drop r.in_second (line_of r))

next_by_phase : (s : core.State) (c : ℕ) (log : LogPhase) (ws : List core.Writer) → event.next s c (shown_log log ws) ≡ event.when (is_handed_by c log) (record s { log = core.free })
next_by_phase s c Free ws = refl
next_by_phase s c (Led d) ws = refl
next_by_phase s c Built ws = refl
next_by_phase s c Stalled ws = refl
next_by_phase s c InLog ws = refl
next_by_phase s c Marked ws = refl
next_by_phase s c (Handed d) ws = refl

pub next_is : (o : core.Options) (r : State) (s : core.State) (c : ℕ) → Mirrors o r s → event.next s c s.log ≡ event.when (is_handed_by c r.log) (record s { log = core.free })
next_is o r s c m = ap (event.next s c) m.line.hand ∙ next_by_phase s c r.log (hand_of r)

-- Who leads

leads_drop : (plans : List ClientPlan) (c n : ℕ) (ws : List Writer) → core.leads c (drop n (map (shown_writer plans) ws)) ≡ leads_at c n ws
leads_drop plans c zero [] = refl
leads_drop plans c (suc n) [] = refl
leads_drop plans c zero (w ∷ ws) = refl
leads_drop plans c (suc n) (w ∷ ws) = leads_drop plans c n ws

positive : (n : ℕ) → nat_lt 0 (suc n) ≡ true
positive n = grind (arith, nat_tests)

leads_take : (c len : ℕ) (ws : List core.Writer) → core.leads c (take len ws) ≡ (nat_lt 0 len && core.leads c ws)
leads_take c zero [] = refl
leads_take c (suc len) [] = sym (ap (λ b. b && false) (positive len))
leads_take c zero (w ∷ ws) = refl
leads_take c (suc len) (w ∷ ws) = sym (ap (λ b. b && w.client == c) (positive len))

pub leads_line : (plans : List ClientPlan) (c start len : ℕ) (ws : List Writer) → core.leads c (take len (drop start (map (shown_writer plans) ws))) ≡ leads_front c start len ws
leads_line plans c start len ws = leads_take c len (drop start (map (shown_writer plans) ws)) ∙ ap (λ b. nat_lt 0 len && b) (leads_drop plans c start ws)

elect_by_phase : (s : core.State) (c : ℕ) (log : LogPhase) (ws : List core.Writer) → event.elect s c (shown_log log ws) ≡ event.when (is_free log && core.leads c s.queue) (record s { log = core.led c })
elect_by_phase s c Free ws = refl
elect_by_phase s c (Led d) ws = refl
elect_by_phase s c Built ws = refl
elect_by_phase s c Stalled ws = refl
elect_by_phase s c InLog ws = refl
elect_by_phase s c Marked ws = refl
elect_by_phase s c (Handed d) ws = refl

pub elect_is : (o : core.Options) (r : State) (s : core.State) (c : ℕ) → Mirrors o r s
    → event.elect s c s.log ≡ event.when (is_free r.log && leads_at c (r.in_second + r.in_hand) r.linked.items) (record s { log = core.led c })
elect_is o r s c m =
    ap (event.elect s c) m.line.hand ∙ elect_by_phase s c r.log (hand_of r)
    ∙ ap (λ q. event.when (is_free r.log && core.leads c q) (record s { log = core.led c })) m.line.queue
    ∙ ap (λ b. event.when (is_free r.log && b) (record s { log = core.led c })) (leads_drop r.plans.items c (r.in_second + r.in_hand) r.linked.items)

build_by_phase : (o : core.Options) (s : core.State) (c : ℕ) (log : LogPhase) (ws : List core.Writer) → event.build o s c (shown_log log ws)
    ≡ event.when (is_led_by c log) (record s { log = core.built (take (event.group_size o s) s.queue); queue = drop (event.group_size o s) s.queue })
build_by_phase o s c Free ws = refl
build_by_phase o s c (Led d) ws = refl
build_by_phase o s c Built ws = refl
build_by_phase o s c Stalled ws = refl
build_by_phase o s c InLog ws = refl
build_by_phase o s c Marked ws = refl
build_by_phase o s c (Handed d) ws = refl

pub build_is : (o : core.Options) (r : State) (s : core.State) (c : ℕ) → Mirrors o r s → event.build o s c s.log
    ≡ event.when (is_led_by c r.log) (record s { log = core.built (take (event.group_size o s) s.queue); queue = drop (event.group_size o s) s.queue })
build_is o r s c m = ap (event.build o s c) m.line.hand ∙ build_by_phase o s c r.log (hand_of r)

boundary_by_phase : (o : core.Options) (s : core.State) (c : ℕ) (log : LogPhase) (ws : List core.Writer) → event.boundary o s c (shown_log log ws)
    ≡ event.when (is_in_log log && (o.pipelined && core.leads c ws)) (record s { log = core.marked ws })
boundary_by_phase o s c Free ws = refl
boundary_by_phase o s c (Led d) ws = refl
boundary_by_phase o s c Built ws = refl
boundary_by_phase o s c Stalled ws = refl
boundary_by_phase o s c InLog ws = refl
boundary_by_phase o s c Marked ws = refl
boundary_by_phase o s c (Handed d) ws = refl

pub boundary_is : (o : core.Options) (r : State) (s : core.State) (c : ℕ) → Mirrors o r s → event.boundary o s c s.log
    ≡ event.when (is_in_log r.log && (o.pipelined && leads_front c r.in_second r.in_hand r.linked.items)) (record s { log = core.marked (hand_of r) })
boundary_is o r s c m =
    ap (event.boundary o s c) m.line.hand ∙ boundary_by_phase o s c r.log (hand_of r)
    ∙ ap (λ b. event.when (is_in_log r.log && (o.pipelined && b)) (record s { log = core.marked (hand_of r) })) (leads_line r.plans.items c r.in_second r.in_hand r.linked.items)

second_by_phase : (s : core.State) (c : ℕ) (log : LogPhase) (ws : List core.Writer) → event.to_second s c (shown_log log ws)
    ≡ event.when (is_marked log && core.leads c ws) (record s { log = core.handed c; second = s.second ++ ws ∷ [] })
second_by_phase s c Free ws = refl
second_by_phase s c (Led d) ws = refl
second_by_phase s c Built ws = refl
second_by_phase s c Stalled ws = refl
second_by_phase s c InLog ws = refl
second_by_phase s c Marked ws = refl
second_by_phase s c (Handed d) ws = refl

pub second_is : (o : core.Options) (r : State) (s : core.State) (c : ℕ) → Mirrors o r s → event.to_second s c s.log
    ≡ event.when (is_marked r.log && leads_front c r.in_second r.in_hand r.linked.items) (record s { log = core.handed c; second = s.second ++ hand_of r ∷ [] })
second_is o r s c m =
    ap (event.to_second s c) m.line.hand ∙ second_by_phase s c r.log (hand_of r)
    ∙ ap (λ b. event.when (is_marked r.log && b) (record s { log = core.handed c; second = s.second ++ hand_of r ∷ [] })) (leads_line r.plans.items c r.in_second r.in_hand r.linked.items)

-- What a phase says of the group in hand

pub free_has_none : (log : LogPhase) → is_free log ≡ true → has_group log ≡ false
free_has_none Free e = refl
free_has_none (Led d) e = cc
free_has_none Built e = cc
free_has_none Stalled e = cc
free_has_none InLog e = cc
free_has_none Marked e = cc
free_has_none (Handed d) e = cc

pub free_unanswered : (log : LogPhase) (n : ℕ) → is_free log ≡ true → answers_in_hand log n ≡ 0
free_unanswered Free n e = refl
free_unanswered (Led d) n e = cc
free_unanswered Built n e = cc
free_unanswered Stalled n e = cc
free_unanswered InLog n e = cc
free_unanswered Marked n e = cc
free_unanswered (Handed d) n e = cc

pub led_has_none : (c : ℕ) (log : LogPhase) → is_led_by c log ≡ true → has_group log ≡ false
led_has_none c (Led d) e = refl
led_has_none c Free e = cc
led_has_none c Built e = cc
led_has_none c Stalled e = cc
led_has_none c InLog e = cc
led_has_none c Marked e = cc
led_has_none c (Handed d) e = cc

pub led_unanswered : (c : ℕ) (log : LogPhase) (n : ℕ) → is_led_by c log ≡ true → answers_in_hand log n ≡ 0
led_unanswered c (Led d) n e = refl
led_unanswered c Free n e = cc
led_unanswered c Built n e = cc
led_unanswered c Stalled n e = cc
led_unanswered c InLog n e = cc
led_unanswered c Marked n e = cc
led_unanswered c (Handed d) n e = cc

pub logged_answered : (log : LogPhase) (n : ℕ) → is_in_log log ≡ true → answers_in_hand log n ≡ n
logged_answered InLog n e = refl
logged_answered Free n e = cc
logged_answered (Led d) n e = cc
logged_answered Built n e = cc
logged_answered Stalled n e = cc
logged_answered Marked n e = cc
logged_answered (Handed d) n e = cc

pub marked_answered : (log : LogPhase) (n : ℕ) → is_marked log ≡ true → answers_in_hand log n ≡ n
marked_answered Marked n e = refl
marked_answered Free n e = cc
marked_answered (Led d) n e = cc
marked_answered Built n e = cc
marked_answered Stalled n e = cc
marked_answered InLog n e = cc
marked_answered (Handed d) n e = cc

pub leads_some : (c start len : ℕ) (ws : List Writer) → leads_front c start len ws ≡ true → 0 < len
leads_some c start zero ws e = cc
leads_some c start (suc n) ws e = omega arith

fault_by_phase : (s : core.State) (c : ℕ) (log : LogPhase) (ws : List core.Writer) → event.fault s c (shown_log log ws)
    ≡ event.when ((is_built log && core.leads c ws) && not (core.is_alone ws)) (record (event.leave s (core.all_answered (refused (no.LogFault 1)) ws)) { log = core.free; log_failed = true })
fault_by_phase s c Free ws = refl
fault_by_phase s c (Led d) ws = refl
fault_by_phase s c Built ws = refl
fault_by_phase s c Stalled ws = refl
fault_by_phase s c InLog ws = refl
fault_by_phase s c Marked ws = refl
fault_by_phase s c (Handed d) ws = refl

pub fault_is : (o : core.Options) (r : State) (s : core.State) (c : ℕ) → Mirrors o r s → event.fault s c s.log
    ≡ event.when ((is_built r.log && leads_front c r.in_second r.in_hand r.linked.items) && not (core.is_alone (hand_of r))) (record (event.leave s (core.all_answered (refused (no.LogFault 1)) (hand_of r))) { log = core.free; log_failed = true })
fault_is o r s c m =
    ap (event.fault s c) m.line.hand ∙ fault_by_phase s c r.log (hand_of r)
    ∙ ap (λ b. event.when ((is_built r.log && b) && not (core.is_alone (hand_of r))) (record (event.leave s (core.all_answered (refused (no.LogFault 1)) (hand_of r))) { log = core.free; log_failed = true })) (leads_line r.plans.items c r.in_second r.in_hand r.linked.items)

refuse_by_phase : (s : core.State) (c : ℕ) (why : Refusal) (log : LogPhase) (ws : List core.Writer) → event.refuse s c why (shown_log log ws)
    ≡ event.when ((is_built log && core.leads c ws) && event.is_no_slowdown ws) (record (event.leave s (core.all_answered (refused why) ws)) { log = core.free })
refuse_by_phase s c why Free ws = refl
refuse_by_phase s c why (Led d) ws = refl
refuse_by_phase s c why Built ws = refl
refuse_by_phase s c why Stalled ws = refl
refuse_by_phase s c why InLog ws = refl
refuse_by_phase s c why Marked ws = refl
refuse_by_phase s c why (Handed d) ws = refl

pub refuse_is : (o : core.Options) (r : State) (s : core.State) (c : ℕ) (why : Refusal) → Mirrors o r s → event.refuse s c why s.log
    ≡ event.when ((is_built r.log && leads_front c r.in_second r.in_hand r.linked.items) && event.is_no_slowdown (hand_of r)) (record (event.leave s (core.all_answered (refused why) (hand_of r))) { log = core.free })
refuse_is o r s c why m =
    ap (event.refuse s c why) m.line.hand ∙ refuse_by_phase s c why r.log (hand_of r)
    ∙ ap (λ b. event.when ((is_built r.log && b) && event.is_no_slowdown (hand_of r)) (record (event.leave s (core.all_answered (refused why) (hand_of r))) { log = core.free })) (leads_line r.plans.items c r.in_second r.in_hand r.linked.items)

stall_by_phase : (s : core.State) (c : ℕ) (log : LogPhase) (ws : List core.Writer) → event.stall s c (shown_log log ws)
    ≡ event.when (((is_built log && core.leads c ws) && not (core.is_alone ws)) && not (event.is_no_slowdown ws)) (record s { log = core.stalled ws })
stall_by_phase s c Free ws = refl
stall_by_phase s c (Led d) ws = refl
stall_by_phase s c Built ws = refl
stall_by_phase s c Stalled ws = refl
stall_by_phase s c InLog ws = refl
stall_by_phase s c Marked ws = refl
stall_by_phase s c (Handed d) ws = refl

pub stall_is : (o : core.Options) (r : State) (s : core.State) (c : ℕ) → Mirrors o r s → event.stall s c s.log
    ≡ event.when (((is_built r.log && leads_front c r.in_second r.in_hand r.linked.items) && not (core.is_alone (hand_of r))) && not (event.is_no_slowdown (hand_of r))) (record s { log = core.stalled (hand_of r) })
stall_is o r s c m =
    ap (event.stall s c) m.line.hand ∙ stall_by_phase s c r.log (hand_of r)
    ∙ ap (λ b. event.when (((is_built r.log && b) && not (core.is_alone (hand_of r))) && not (event.is_no_slowdown (hand_of r))) (record s { log = core.stalled (hand_of r) })) (leads_line r.plans.items c r.in_second r.in_hand r.linked.items)

unstall_by_phase : (s : core.State) (c : ℕ) (log : LogPhase) (ws : List core.Writer) → event.unstall s c (shown_log log ws) ≡ event.when (is_stalled log && core.leads c ws) (record s { log = core.built ws })
unstall_by_phase s c Free ws = refl
unstall_by_phase s c (Led d) ws = refl
unstall_by_phase s c Built ws = refl
unstall_by_phase s c Stalled ws = refl
unstall_by_phase s c InLog ws = refl
unstall_by_phase s c Marked ws = refl
unstall_by_phase s c (Handed d) ws = refl

pub unstall_is : (o : core.Options) (r : State) (s : core.State) (c : ℕ) → Mirrors o r s → event.unstall s c s.log
    ≡ event.when (is_stalled r.log && leads_front c r.in_second r.in_hand r.linked.items) (record s { log = core.built (hand_of r) })
unstall_is o r s c m =
    ap (event.unstall s c) m.line.hand ∙ unstall_by_phase s c r.log (hand_of r)
    ∙ ap (λ b. event.when (is_stalled r.log && b) (record s { log = core.built (hand_of r) })) (leads_line r.plans.items c r.in_second r.in_hand r.linked.items)

leave_by_phase : (s : core.State) (m : ℕ) (why : Refusal) (log : LogPhase) (ws : List core.Writer) → event.leave_queue s m why (shown_log log ws)
    ≡ (if is_stalled log then event.leave_with s m why (find (λ (w : core.Writer). w.client == m) s.queue) else None)
leave_by_phase s m why Free ws = refl
leave_by_phase s m why (Led d) ws = refl
leave_by_phase s m why Built ws = refl
leave_by_phase s m why Stalled ws = refl
leave_by_phase s m why InLog ws = refl
leave_by_phase s m why Marked ws = refl
leave_by_phase s m why (Handed d) ws = refl

pub leave_is : (o : core.Options) (r : State) (s : core.State) (m : ℕ) (why : Refusal) → Mirrors o r s → event.leave_queue s m why s.log
    ≡ (if is_stalled r.log then event.leave_with s m why (find (λ (w : core.Writer). w.client == m) s.queue) else None)
leave_is o r s m why mirrors = ap (event.leave_queue s m why) mirrors.line.hand ∙ leave_by_phase s m why r.log (hand_of r)

-- whether a batch is refused at once, or may come
pub refusal_by_phase : (log : LogPhase) (ws : List core.Writer) (how : WriteOptions) (early : Option Refusal) → core.refusal_in (shown_log log ws) how early ≡ refusal_at how early log
refusal_by_phase log ws how (Some why) = refl
refusal_by_phase Free ws how None = refl
refusal_by_phase (Led d) ws how None = refl
refusal_by_phase Built ws how None = refl
refusal_by_phase Stalled ws how None = refl
refusal_by_phase InLog ws how None = refl
refusal_by_phase Marked ws how None = refl
refusal_by_phase (Handed d) ws how None = refl

pub may_link_by_phase : (log : LogPhase) (ws : List core.Writer) (why : Option Refusal) → core.may_link (shown_log log ws) why ≡ may_link_at why log
may_link_by_phase log ws (Some why) = refl
may_link_by_phase Free ws None = refl
may_link_by_phase (Led d) ws None = refl
may_link_by_phase Built ws None = refl
may_link_by_phase Stalled ws None = refl
may_link_by_phase InLog ws None = refl
may_link_by_phase Marked ws None = refl
may_link_by_phase (Handed d) ws None = refl

pub linked_as : (o : core.Options) (r : State) (s : core.State) (c : ℕ) (client : core.Client) (how : WriteOptions) (early : Option Refusal) → Mirrors o r s
    → event.link_or_refuse o s c client how (core.refusal_in s.log how early) ≡ event.when (may_link_at (refusal_at how early r.log) r.log) (event.link_with o s c client how (refusal_at how early r.log))
linked_as o r s c client how early m =
    let why : core.refusal_in s.log how early ≡ refusal_at how early r.log = ap (λ l. core.refusal_in l how early) m.line.hand ∙ refusal_by_phase r.log (hand_of r) how early in
    ap (event.link_or_refuse o s c client how) why ∙ ap (λ b. event.when b (event.link_with o s c client how (refusal_at how early r.log))) (ap (λ l. core.may_link l (refusal_at how early r.log)) m.line.hand ∙ may_link_by_phase r.log (hand_of r) (refusal_at how early r.log))

pub built_unanswered : (log : LogPhase) (n : ℕ) → is_built log ≡ true → answers_in_hand log n ≡ 0
built_unanswered Built n e = refl
built_unanswered Free n e = cc
built_unanswered (Led d) n e = cc
built_unanswered Stalled n e = cc
built_unanswered InLog n e = cc
built_unanswered Marked n e = cc
built_unanswered (Handed d) n e = cc

pub stalled_unanswered : (log : LogPhase) (n : ℕ) → is_stalled log ≡ true → answers_in_hand log n ≡ 0
stalled_unanswered Stalled n e = refl
stalled_unanswered Free n e = cc
stalled_unanswered (Led d) n e = cc
stalled_unanswered Built n e = cc
stalled_unanswered InLog n e = cc
stalled_unanswered Marked n e = cc
stalled_unanswered (Handed d) n e = cc

-- The leader of the group in hand

pub first_at : (plans : List ClientPlan) (f : core.Writer → Bool) (g : List core.Writer → Bool) (start len : ℕ) (ws : List Writer) (d : Writer) → ((v : core.Writer) (vs : List core.Writer) → g (v ∷ vs) ≡ f v) → 0 < len → start < length ws
    → g (take len (drop start (map (shown_writer plans) ws))) ≡ f (shown_writer plans (get_or ws start d))
first_at plans f g start len [] d first some lt = absurd (omega arith)
first_at plans f g start zero (w ∷ ws) d first some lt = absurd (omega arith)
first_at plans f g zero (suc len) (w ∷ ws) d first some lt = first (shown_writer plans w) (take len (map (shown_writer plans) ws))
first_at plans f g (suc start) (suc len) (w ∷ ws) d first some lt = first_at plans f g start (suc len) ws d first some (omega arith)

both_parts : (a b : Bool) → (a && b) ≡ true → (a ≡ true) × (b ≡ true)
both_parts true b e = (refl, e)
both_parts false b e = cc

pub leads_within : (c start len : ℕ) (ws : List Writer) → leads_front c start len ws ≡ true → start < length ws
leads_within c start len ws e = at_within c start ws (both_parts (nat_lt 0 len) (leads_at c start ws) e).1
  where
    at_within : (c start : ℕ) (ws : List Writer) → leads_at c start ws ≡ true → start < length ws
    at_within c start [] e = cc
    at_within c zero (w ∷ ws) e = omega arith
    at_within c (suc start) (w ∷ ws) e = let h = at_within c start ws e in omega (arith, h)

pub built_parts : (log : LogPhase) (b : Bool) → (is_built log && b) ≡ true → (is_built log ≡ true) × (b ≡ true)
built_parts log b e = both_parts (is_built log) b e

-- a default for places where no writer is
abbrev pub no_writer : Writer
no_writer = record {
  client = 0;
  options = record { sync = false; no_log = false; no_slowdown = false };
  batch = record { from = 0; to = 0 };
  count = 0;
  since = None;
  answer = None;
}

-- whether the group in hand reads the log, by its leader
pub alone_is : (r : State) (c : ℕ) → leads_front c r.in_second r.in_hand r.linked.items ≡ true → core.is_alone (hand_of r) ≡ is_some (get_or r.linked.items r.in_second no_writer).since
alone_is r c leads =
    first_at r.plans.items (λ (v : core.Writer). is_some v.since) core.is_alone r.in_second r.in_hand r.linked.items no_writer (λ v vs. refl) (leads_some c r.in_second r.in_hand r.linked.items leads) (leads_within c r.in_second r.in_hand r.linked.items leads)
