-- The events of a read of the log, as the code tests for them.
use Rattle.std.proofs.Common.{◌≡◌, ℕ, zero, suc, ◌+◌, ◌<◌, ◌≤◌, Bool, true, false, not, ◌&&◌, ◌==◌, List, [], ◌∷◌, ◌++◌, length, take, drop, map, get_or, slice_set, Option, Some, None, refl, sym, ap, ◌∙◌, arith}
use Rattle.std.specs.Prelude.{if◌then◌else◌, is_some}
use Rattle.std.proofs.lemmas.Bool.Decides.{nat_tests}
use Rattle.model_base.specs.Batch.{Record}
use Rattle.model_base.specs.Calls.{Reply}
use Rattle.model_core.specs.Core as core
use Rattle.model_core.specs.Step as event
use Rattle.replay_core.specs.declared.phases.LogPhase.{LogPhase}
use Rattle.replay_core.specs.declared.phases.LogPhase.TheVariants.{Free, Led, Built, Stalled, InLog, Marked, Handed}
use Rattle.replay_core.specs.declared.state.State.{State}
use Rattle.replay_core.specs.declared.writer.Answer.{Answer}
use Rattle.replay_core.specs.declared.writer.Answer.TheVariants.{Accepted, Refused, ReadAt}
use Rattle.replay_core.specs.declared.writer.Writer.{Writer}
use Rattle.replay_plans.specs.declared.plan.ClientPlan.{ClientPlan}
use Rattle.replay_core.specs.Leads.{leads_front}
use Rattle.replay_core.specs.Phases.{is_built}
use Rattle.replay_core.specs.Shown.{shown_writer, shown_answer, shown_log}
use Rattle.replay_core.specs.Mirrors.{Mirrors}
use Rattle.replay_core.proofs.HandRuns.{with_group_at}
use Rattle.replay_core.proofs.LogEvents.{hand_of, leads_line, first_at}

-- a group of one writer that reads the log, and whether its leader has its answer
abbrev pub reads : List core.Writer → Bool
reads [] = false
reads (w ∷ []) = is_some w.since
reads (w ∷ v ∷ ws) = false

abbrev pub is_told : List core.Writer → Bool
is_told [] = false
is_told (w ∷ ws) = is_some w.answer

-- the state once the group's leader has the answer of its read
abbrev pub told_in : core.State → List core.Writer → core.State
told_in s [] = s
told_in s (w ∷ ws) = record s { log = core.built (record w { answer = Some (core.read_at s.last) } ∷ []) }

abbrev pub left_in : core.State → List core.Writer → core.State
left_in s ws = record (event.leave s ws) { log = core.free }

never : (b : Bool) → (b && false) ≡ false
never true = refl
never false = refl

many : (s : core.State) (b c : Bool) → None ≡ event.when ((b && false) && c) s
many s b c = sym (ap (λ x. event.when (x && c) s) (never b))

read_built : (s : core.State) (c : ℕ) (ws : List core.Writer) → event.read_log s c (core.built ws) ≡ event.when ((core.leads c ws && reads ws) && not (is_told ws)) (told_in s ws)
read_built s c [] = refl
read_built s c (w ∷ v ∷ ws) = many (told_in s (w ∷ v ∷ ws)) (w.client == c) (not (is_some w.answer))
read_built s c (w ∷ []) = by (w.client == c) w.since w.answer
  where
    by : (b : Bool) (since : Option ℕ) (answer : Option Reply) → (if b then event.answer_read s w since answer else None) ≡ event.when ((b && is_some since) && not (is_some answer)) (told_in s (w ∷ []))
    by true (Some n) None = refl
    by true (Some n) (Some reply) = refl
    by true None None = refl
    by true None (Some reply) = refl
    by false (Some n) None = refl
    by false (Some n) (Some reply) = refl
    by false None None = refl
    by false None (Some reply) = refl

exit_built : (s : core.State) (c : ℕ) (ws : List core.Writer) → event.exit_reader s c (core.built ws) ≡ event.when ((core.leads c ws && reads ws) && is_told ws) (left_in s ws)
exit_built s c [] = refl
exit_built s c (w ∷ []) = refl
exit_built s c (w ∷ v ∷ ws) = many (left_in s (w ∷ v ∷ ws)) (w.client == c) (is_some w.answer)

read_by_phase : (s : core.State) (c : ℕ) (log : LogPhase) (ws : List core.Writer) → event.read_log s c (shown_log log ws) ≡ event.when (((is_built log && core.leads c ws) && reads ws) && not (is_told ws)) (told_in s ws)
read_by_phase s c Built ws = read_built s c ws
read_by_phase s c Free ws = refl
read_by_phase s c (Led d) ws = refl
read_by_phase s c Stalled ws = refl
read_by_phase s c InLog ws = refl
read_by_phase s c Marked ws = refl
read_by_phase s c (Handed d) ws = refl

exit_by_phase : (s : core.State) (c : ℕ) (log : LogPhase) (ws : List core.Writer) → event.exit_reader s c (shown_log log ws) ≡ event.when (((is_built log && core.leads c ws) && reads ws) && is_told ws) (left_in s ws)
exit_by_phase s c Built ws = exit_built s c ws
exit_by_phase s c Free ws = refl
exit_by_phase s c (Led d) ws = refl
exit_by_phase s c Stalled ws = refl
exit_by_phase s c InLog ws = refl
exit_by_phase s c Marked ws = refl
exit_by_phase s c (Handed d) ws = refl

pub read_is : (o : core.Options) (r : State) (s : core.State) (c : ℕ) → Mirrors o r s → event.read_log s c s.log
    ≡ event.when (((is_built r.log && leads_front c r.in_second r.in_hand r.linked.items) && reads (hand_of r)) && not (is_told (hand_of r))) (told_in s (hand_of r))
read_is o r s c m =
    ap (event.read_log s c) m.line.hand ∙ read_by_phase s c r.log (hand_of r)
    ∙ ap (λ b. event.when (((is_built r.log && b) && reads (hand_of r)) && not (is_told (hand_of r))) (told_in s (hand_of r))) (leads_line r.plans.items c r.in_second r.in_hand r.linked.items)

pub reader_exit_is : (o : core.Options) (r : State) (s : core.State) (c : ℕ) → Mirrors o r s → event.exit_reader s c s.log
    ≡ event.when (((is_built r.log && leads_front c r.in_second r.in_hand r.linked.items) && reads (hand_of r)) && is_told (hand_of r)) (left_in s (hand_of r))
reader_exit_is o r s c m =
    ap (event.exit_reader s c) m.line.hand ∙ exit_by_phase s c r.log (hand_of r)
    ∙ ap (λ b. event.when (((is_built r.log && b) && reads (hand_of r)) && is_told (hand_of r)) (left_in s (hand_of r))) (leads_line r.plans.items c r.in_second r.in_hand r.linked.items)

-- The group in hand, by its first writer

two : (n : ℕ) → (suc (suc n) == 1) ≡ false
two n = grind (arith, nat_tests)

pub reads_at : (plans : List ClientPlan) (start len : ℕ) (ws : List Writer) (d : Writer) → start < length ws → start + len ≤ length ws
    → reads (take len (drop start (map (shown_writer plans) ws))) ≡ (len == 1 && is_some (get_or ws start d).since)
reads_at plans start len [] d lt within = absurd (omega arith)
reads_at plans zero zero (w ∷ ws) d lt within = refl
reads_at plans zero (suc zero) (w ∷ ws) d lt within = refl
reads_at plans zero (suc (suc n)) (w ∷ []) d lt within = absurd (omega arith)
reads_at plans zero (suc (suc n)) (w ∷ v ∷ ws) d lt within = sym (ap (λ b. b && is_some w.since) (two n))
reads_at plans (suc start) len (w ∷ ws) d lt within = reads_at plans start len ws d (omega arith) (omega arith)

told_shown : (records : List Record) (answer : Option Answer) → is_some (shown_answer records answer) ≡ is_some answer
told_shown records None = refl
told_shown records (Some (Accepted run)) = refl
told_shown records (Some (Refused why)) = refl
told_shown records (Some (ReadAt at)) = refl

pub told_at : (plans : List ClientPlan) (start len : ℕ) (ws : List Writer) (d : Writer) → 0 < len → start < length ws → is_told (take len (drop start (map (shown_writer plans) ws))) ≡ is_some (get_or ws start d).answer
told_at plans start len ws d some lt =
    first_at plans (λ (v : core.Writer). is_some v.answer) is_told start len ws d (λ v vs. refl) some lt ∙ told_shown _ (get_or ws start d).answer

-- the first writer, where it is the only one
pub one_in_hand : (plans : List ClientPlan) (start len : ℕ) (ws : List Writer) (d : Writer) → len ≡ 1 → start < length ws → take len (drop start (map (shown_writer plans) ws)) ≡ shown_writer plans (get_or ws start d) ∷ []
one_in_hand plans start len ws d one lt = let e : len ≡ suc zero = omega arith in ap (λ n. take n (drop start (map (shown_writer plans) ws))) e ∙ first plans start ws lt
  where
    first : (plans : List ClientPlan) (start : ℕ) (ws : List Writer) → start < length ws → take (suc zero) (drop start (map (shown_writer plans) ws)) ≡ shown_writer plans (get_or ws start d) ∷ []
    first plans start [] lt = absurd (omega arith)
    first plans zero (w ∷ ws) lt = refl
    first plans (suc start) (w ∷ ws) lt = first plans start ws (omega arith)

-- a writer that is set is a group of one in the place of the one before
pub set_as_group : (start : ℕ) (w : Writer) (ws : List Writer) → start < length ws → slice_set ws start w ≡ with_group_at start 1 (w ∷ []) ws
set_as_group start w [] lt = absurd (omega arith)
set_as_group zero w (v ∷ ws) lt = refl
set_as_group (suc start) w (v ∷ ws) lt = ap (λ vs. v ∷ vs) (set_as_group start w ws (omega arith))

-- a number that was tested to be one
pub is_one : (n : ℕ) (b : Bool) → (n == 1 && b) ≡ true → n ≡ 1
is_one n b e = by (n == 1) refl e
  where
    by : (t : Bool) → (n == 1) ≡ t → (t && b) ≡ true → n ≡ 1
    by true same e = grind (arith, nat_tests)
    by false other e = absurd (cc)
