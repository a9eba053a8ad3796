-- The group in hand gets its runs.
use Rattle.std.proofs.Common.{◌≡◌, ℕ, zero, suc, ◌+◌, ◌<◌, ◌≤◌, Bool, true, false, not, ◌&&◌, ◌||◌, nat_le, List, [], ◌∷◌, ◌++◌, length, take, drop, map, get_or, Option, Some, None, vec_len, refl, sym, ap, ◌∙◌, subst, arith}
use Rattle.std.specs.Prelude.{if◌then◌else◌, is_some, option_map, vec_capacity}
use Rattle.std.specs.List.{AllByRecursion, list_any, cons_option, drop-map, take-map}
use Rattle.std.proofs.lemmas.List.{map-append, drop-drop, length-map, length-take-le, length-drop}
use Rattle.std.proofs.Math.Seq.{take-length}
use Rattle.model_base.specs.declared.group.Item.{Item}
use Rattle.model_base.specs.Batch.{count_of}
use Rattle.model_base.specs.History.{Entry, max_sequence, last_sequence}
use Rattle.model_core.specs.Core as core
use Rattle.model_core.specs.Step as event
use Rattle.replay_core.specs.declared.phases.LogPhase.{LogPhase}
use Rattle.replay_core.specs.declared.phases.LogPhase.TheVariants.{Free, Led, Built, Stalled, InLog, Marked, Handed}
use Rattle.replay_plans.specs.declared.plan.ClientPlan.{ClientPlan}
use Rattle.replay_core.specs.declared.writer.Writer.{Writer}
use Rattle.replay_plans.specs.Plans.{records_of}
use Rattle.replay_core.specs.Shown.{CoreEntry, shown_writer, shown_entry, shown_log, groups_of_lengths, total}
use Rattle.replay_core.specs.declared.state.State.{State}
use Rattle.replay_core.specs.Leads.{leads_front}
use Rattle.replay_core.specs.Phases.{has_group, is_built}
use Rattle.replay_core.specs.Mirrors.{Mirrors, IsLine, AreWriters, IsClientOf, answers_in_hand}
use Rattle.replay_core.specs.Runs.{GotRuns, IsCounted, without_answer}
use Rattle.replay_core.proofs.LogEvents.{hand_of, leads_line, no_writer}
use Rattle.replay_core.proofs.Removing.{cut_front}
use Rattle.replay_core.proofs.TableEvents.{known_take, known_drop}
use Rattle.replay_core.proofs.RunLemmas.{accepted_writer, refused_writer, take_front, append_none}

log_by_phase : (s : core.State) (c : ℕ) (log : LogPhase) (ws : List core.Writer) → event.log_group s c (shown_log log ws)
    ≡ event.when (((is_built log && core.leads c ws) && not (core.is_alone ws)) && not s.log_failed) (event.logged_group s (core.with_runs s.assigned ws))
log_by_phase s c Free ws = refl
log_by_phase s c (Led d) ws = refl
log_by_phase s c Built ws = refl
log_by_phase s c Stalled ws = refl
log_by_phase s c InLog ws = refl
log_by_phase s c Marked ws = refl
log_by_phase s c (Handed d) ws = refl

pub log_group_is : (o : core.Options) (r : State) (s : core.State) (c : ℕ) → Mirrors o r s → event.log_group s c s.log
    ≡ event.when (((is_built r.log && leads_front c r.in_second r.in_hand r.linked.items) && not (core.is_alone (hand_of r))) && not r.log_failed) (event.logged_group s (core.with_runs s.assigned (hand_of r)))
log_group_is o r s c m =
    ap (event.log_group s c) m.line.hand ∙ log_by_phase s c r.log (hand_of r)
    ∙ ap (λ b. event.when (((is_built r.log && b) && not (core.is_alone (hand_of r))) && not s.log_failed) (event.logged_group s (core.with_runs s.assigned (hand_of r)))) (leads_line r.plans.items c r.in_second r.in_hand r.linked.items)
    ∙ ap (λ b. event.when (((is_built r.log && leads_front c r.in_second r.in_hand r.linked.items) && not (core.is_alone (hand_of r))) && not b) (event.logged_group s (core.with_runs s.assigned (hand_of r)))) m.log_failed

-- Whether any writer has a run

none_has : (s : core.State) (ws : List core.Writer) → core.entries_of s ws ≡ [] → list_any core.has_run ws ≡ false
none_has s [] e = refl
none_has s (w ∷ ws) e = by_run (core.run_of w.answer) (none_has s ws) e
  where
    by_run : (o : Option ℕ) → (core.entries_of s ws ≡ [] → list_any core.has_run ws ≡ false) → cons_option (option_map (core.entry_of s w) o) (core.entries_of s ws) ≡ [] → (is_some o || list_any core.has_run ws) ≡ false
    by_run None h e = h e
    by_run (Some n) h e = cc

some_has : (s : core.State) (ws : List core.Writer) → 0 < length (core.entries_of s ws) → list_any core.has_run ws ≡ true
some_has s [] h = absurd (omega arith)
some_has s (w ∷ ws) h = by_run (core.run_of w.answer) (some_has s ws) h
  where
    by_run : (o : Option ℕ) → (0 < length (core.entries_of s ws) → list_any core.has_run ws ≡ true) → 0 < length (cons_option (option_map (core.entry_of s w) o) (core.entries_of s ws)) → (is_some o || list_any core.has_run ws) ≡ true
    by_run None k h = k h
    by_run (Some n) k h = refl

pub none_logged : (s : core.State) (ws : List core.Writer) → core.entries_of s ws ≡ [] → event.logged_group s ws ≡ record (event.leave s ws) { log = core.free }
none_logged s ws e = ap (λ b. if b then event.with_group s ws (core.entries_of s ws) else record (event.leave s ws) { log = core.free }) (none_has s ws e)

pub some_logged : (s : core.State) (ws : List core.Writer) → 0 < length (core.entries_of s ws) → event.logged_group s ws ≡ event.with_group s ws (core.entries_of s ws)
some_logged s ws h = ap (λ b. if b then event.with_group s ws (core.entries_of s ws) else record (event.leave s ws) { log = core.free }) (some_has s ws h)

-- giving runs doesn't change whether a group stays out of the log
pub unlogged_alike : (last : ℕ) (ws : List core.Writer) → event.is_unlogged (core.with_runs last ws) ≡ event.is_unlogged ws
unlogged_alike last [] = refl
unlogged_alike last (w ∷ ws) = by_fit (nat_le (last + count_of w.records) max_sequence)
  where
    by_fit : (b : Bool) → event.is_unlogged (if b then accepted_writer last w ∷ core.with_runs (last + count_of w.records) ws else refused_writer last w ∷ core.with_runs last ws) ≡ w.options.no_log
    by_fit true = refl
    by_fit false = refl

pub none_more : (xs ys : List Entry) → length (xs ++ ys) ≡ length xs → ys ≡ []
none_more [] [] e = refl
none_more [] (y ∷ ys) e = absurd (omega (arith, e))
none_more (x ∷ xs) ys e = none_more xs ys (omega (arith, e))

-- The line with another group in place of the group in hand

abbrev pub with_group_at : {A : Type 0} → ℕ → ℕ → List A → List A → List A
with_group_at start len group xs = take start xs ++ (group ++ drop len (drop start xs))

drop_front : {A : Type 0} (start : ℕ) (xs back : List A) → start ≤ length xs → drop start (take start xs ++ back) ≡ back
drop_front zero xs back h = refl
drop_front (suc n) [] back h = absurd (omega arith)
drop_front (suc n) (x ∷ xs) back h = drop_front n xs back (omega arith)

drop_all : {A : Type 0} (xs ys : List A) → drop (length xs) (xs ++ ys) ≡ ys
drop_all [] ys = refl
drop_all (x ∷ xs) ys = drop_all xs ys

split_at : {A : Type 0} (n : ℕ) (xs : List A) → take n xs ++ drop n xs ≡ xs
split_at zero xs = refl
split_at (suc n) [] = refl
split_at (suc n) (x ∷ xs) = ap (λ ys. x ∷ ys) (split_at n xs)

map_group_at : {A B : Type 0} (f : A → B) (start len : ℕ) (group xs : List A) → map f (with_group_at start len group xs) ≡ with_group_at start len (map f group) (map f xs)
map_group_at f start len group xs =
    map-append f (take start xs) (group ++ drop len (drop start xs))
    ∙ ap (λ ys. ys ++ map f (group ++ drop len (drop start xs))) (sym (take-map f start xs))
    ∙ ap (λ ys. take start (map f xs) ++ ys) (map-append f group (drop len (drop start xs)) ∙ ap (λ ys. map f group ++ ys) (sym (drop-map f len (drop start xs)) ∙ ap (drop len) (sym (drop-map f start xs))))

hand_at : {A : Type 0} (start len : ℕ) (group xs : List A) → start ≤ length xs → length group ≡ len → take len (drop start (with_group_at start len group xs)) ≡ group
hand_at start len group xs h e =
    ap (take len) (drop_front start xs (group ++ drop len (drop start xs)) h)
    ∙ ap (λ n. take n (group ++ drop len (drop start xs))) (sym e)
    ∙ take_front group (drop len (drop start xs))

queue_at : {A : Type 0} (start len : ℕ) (group xs : List A) → start ≤ length xs → length group ≡ len → drop (start + len) (with_group_at start len group xs) ≡ drop (start + len) xs
queue_at start len group xs h e =
    let rest = drop len (drop start xs) in
    sym (drop-drop len start (with_group_at start len group xs))
    ∙ ap (drop len) (drop_front start xs (group ++ rest) h)
    ∙ ap (λ n. drop n (group ++ rest)) (sym e)
    ∙ drop_all group rest
    ∙ drop-drop len start xs

pub line_at : (plans : List ClientPlan) (s t : core.State) (second : List ℕ) (start len : ℕ) (log log2 : LogPhase) (xs group : List Writer) → IsLine (map (shown_writer plans) xs) second start len log s
    → start ≤ length xs → length group ≡ len → t.second ≡ s.second → t.queue ≡ s.queue → t.log ≡ shown_log log2 (map (shown_writer plans) group) → has_group log2 ≡ true
    → IsLine (map (shown_writer plans) (with_group_at start len group xs)) second start len log2 t
line_at plans s t second start len log log2 xs group line within size seconds queues hand some =
    let f : Writer → core.Writer = shown_writer plans in
    let ws : List core.Writer = map f xs in
    let gs : List core.Writer = map f group in
    let long : start ≤ length ws = omega (arith, within, length-map xs f) in
    let gs_size : length gs ≡ len = length-map group f ∙ size in
    let all : map f (with_group_at start len group xs) ≡ with_group_at start len gs ws = map_group_at f start len group xs in
    let few : total second ≤ start = omega (arith, line.second_sum) in
    record {
      second_sum = line.second_sum;
      second_groups = seconds ∙ line.second_groups ∙ sym (cut_front second start ws (gs ++ drop len (drop start ws)) few long) ∙ ap (groups_of_lengths second) (sym all);
      hand = hand ∙ ap (shown_log log2) (sym (ap (λ zs. take len (drop start zs)) all ∙ hand_at start len gs ws long gs_size));
      no_hand = λ e. cc (e, some);
      queue = queues ∙ line.queue ∙ sym (queue_at start len gs ws long gs_size) ∙ ap (drop (start + len)) (sym all);
    }

pub hand_shown : (plans : List ClientPlan) (start len : ℕ) (group xs : List Writer) → start ≤ length xs → length group ≡ len
    → take len (drop start (map (shown_writer plans) (with_group_at start len group xs))) ≡ map (shown_writer plans) group
hand_shown plans start len group xs h e =
    let f : Writer → core.Writer = shown_writer plans in
    ap (λ zs. take len (drop start zs)) (map_group_at f start len group xs)
    ∙ hand_at start len (map f group) (map f xs) (omega (arith, h, length-map xs f)) (length-map group f ∙ e)

-- the line is as it was, except for answers
pub unanswered_at : (start len : ℕ) (group xs : List Writer) → map without_answer group ≡ map without_answer (take len (drop start xs)) → map without_answer (with_group_at start len group xs) ≡ map without_answer xs
unanswered_at start len group xs e =
    map_group_at without_answer start len group xs
    ∙ ap (λ gs. take start (map without_answer xs) ++ (gs ++ drop len (drop start (map without_answer xs)))) (e ∙ sym (take-map without_answer len (drop start xs)) ∙ ap (take len) (sym (drop-map without_answer start xs)))
    ∙ ap (λ ys. take start (map without_answer xs) ++ ys) (split_at len (drop start (map without_answer xs)))
    ∙ split_at start (map without_answer xs)

known_alike : (n : ℕ) (xs ys : List Writer) → map without_answer ys ≡ map without_answer xs → AllByRecursion (IsClientOf n) xs → AllByRecursion (IsClientOf n) ys
known_alike n xs [] e h = tt
known_alike n [] (y ∷ ys) e h = cc
known_alike n (x ∷ xs) (y ∷ ys) e h =
    let client : y.client ≡ x.client = ap (λ ws. (get_or ws 0 no_writer).client) e in
    (record { from_one = omega (arith, h.0.from_one, client); few = omega (arith, h.0.few, client) }, known_alike n xs ys (ap (drop 1) e) h.1)

map_unanswered : {B : Type 0} (f : Writer → B) → ((w : Writer) → f (without_answer w) ≡ f w) → (xs : List Writer) → map f (map without_answer xs) ≡ map f xs
map_unanswered f e [] = refl
map_unanswered f e (x ∷ xs) = ap (λ y. y ∷ map f (map without_answer xs)) (e x) ∙ ap (λ ys. f x ∷ ys) (map_unanswered f e xs)

map_alike : {B : Type 0} (f : Writer → B) → ((w : Writer) → f (without_answer w) ≡ f w) → (xs ys : List Writer) → map without_answer ys ≡ map without_answer xs → map f ys ≡ map f xs
map_alike f e xs ys h = sym (map_unanswered f e ys) ∙ ap (map f) h ∙ map_unanswered f e xs

pub writers_alike : (plans : List ClientPlan) (xs ys : List Writer) (items : List Item) → map without_answer ys ≡ map without_answer xs → AreWriters plans xs items → AreWriters plans ys items
writers_alike plans xs ys items e are = record {
  items_are = are.items_are ∙ sym (map_alike (λ w. core.item_of (shown_writer plans w)) (λ w. refl) xs ys e);
  counts_are = map_alike (λ (w : Writer). w.count) (λ w. refl) xs ys e ∙ are.counts_are ∙ sym (map_alike (λ (w : Writer). count_of (records_of plans w.client w.batch)) (λ w. refl) xs ys e);
  known = known_alike (length plans) xs ys e are.known;
}

pub all_counted : (plans : List ClientPlan) (ws : List Writer) → map (λ (w : Writer). w.count) ws ≡ map (λ (w : Writer). count_of (records_of plans w.client w.batch)) ws → AllByRecursion (IsCounted plans) ws
all_counted plans [] e = tt
all_counted plans (w ∷ ws) e = (ap (λ ns. get_or ns 0 0) e, all_counted plans ws (ap (drop 1) e))

-- The group in hand of a state, once it has got its runs

abbrev group_of : State → List Writer
group_of r = take r.in_hand (drop r.in_second r.linked.items)

-- the line and the entries after the group in hand has got its runs
pub record HandGot (r : State) (s : core.State) (linked group : List Writer) (es : List CoreEntry) (last : ℕ) : Type 0 where
  pub runs : map (shown_writer r.plans.items) group ≡ core.with_runs s.assigned (hand_of r)
  pub listed : map (shown_entry r.plans.items) es ≡ s.entries ++ core.entries_of s (map (shown_writer r.plans.items) group)
  pub reached : last ≡ last_sequence s.assigned (core.entries_of s (map (shown_writer r.plans.items) group))
  pub shown : take r.in_hand (drop r.in_second (map (shown_writer r.plans.items) linked)) ≡ map (shown_writer r.plans.items) group
  pub writers : AreWriters r.plans.items linked r.items.items
  pub line : (t : core.State) (log2 : LogPhase) → t.second ≡ s.second → t.queue ≡ s.queue → t.log ≡ shown_log log2 (map (shown_writer r.plans.items) group) → has_group log2 ≡ true
      → IsLine (map (shown_writer r.plans.items) linked) r.second.items r.in_second r.in_hand log2 t

abbrev pub Gives : State → core.State → List Writer → List CoreEntry → ℕ → List Writer → Type 0
Gives r s group es last old = AllByRecursion (IsCounted r.plans.items) old → s.entries ≡ map (shown_entry r.plans.items) r.entries.items → vec_len r.entries + length old ≤ vec_capacity r.entries
    → GotRuns r.plans.items s s.entries r.assigned old group es last

pub built_unanswered : (log : LogPhase) (n : ℕ) → is_built log ≡ true → answers_in_hand log n ≡ 0
built_unanswered Built n e = refl
built_unanswered Stalled n e = cc
built_unanswered Free n e = cc
built_unanswered (Led d) n e = cc
built_unanswered InLog n e = cc
built_unanswered Marked n e = cc
built_unanswered (Handed d) n e = cc

pub built_shown : (log : LogPhase) (ws : List core.Writer) → is_built log ≡ true → core.built ws ≡ shown_log log ws
built_shown Built ws e = refl
built_shown Stalled ws e = cc
built_shown Free ws e = cc
built_shown (Led d) ws e = cc
built_shown InLog ws e = cc
built_shown Marked ws e = cc
built_shown (Handed d) ws e = cc

pub built_has_group : (log : LogPhase) → is_built log ≡ true → has_group log ≡ true
built_has_group Built e = refl
built_has_group Stalled e = cc
built_has_group Free e = cc
built_has_group (Led d) e = cc
built_has_group InLog e = cc
built_has_group Marked e = cc
built_has_group (Handed d) e = cc

group_len : (r : State) → length (group_of r) ≡ r.in_hand
group_len r = length-take-le r.in_hand (drop r.in_second r.linked.items) (omega (arith, length-drop r.in_second r.linked.items, r.groups_wait, r.linked.ok.0))

pub size_of_group : (r : State) (all : List Writer) (n : ℕ) → all ≡ r.linked.items → n ≡ r.in_hand → length (take n (drop r.in_second all)) ≡ r.in_hand
size_of_group r all n e k = ap (λ j. length (take j (drop r.in_second all))) k ∙ ap (λ xs. length (take r.in_hand (drop r.in_second xs))) e ∙ group_len r

hand_got_at : (o : core.Options) (r : State) (s : core.State) → Mirrors o r s → is_built r.log ≡ true → (group : List Writer) (es : List CoreEntry) (last : ℕ)
    → map without_answer group ≡ map without_answer (group_of r) → Gives r s group es last (group_of r) → HandGot r s (with_group_at r.in_second r.in_hand group r.linked.items) group es last
hand_got_at o r s m built group es last same gives =
    let plans : List ClientPlan = r.plans.items in
    let f : Writer → core.Writer = shown_writer plans in
    let within : r.in_second ≤ length r.linked.items = omega (arith, r.groups_wait, r.linked.ok.0) in
    let size : length group ≡ r.in_hand = sym (length-map group without_answer) ∙ ap length same ∙ length-map (group_of r) without_answer ∙ group_len r in
    let counted : AllByRecursion (IsCounted plans) (group_of r) =
    known_take (IsCounted plans) r.in_hand (drop r.in_second r.linked.items) (known_drop (IsCounted plans) r.in_second r.linked.items (all_counted plans r.linked.items m.writers.counts_are)) in
    let room : vec_len r.entries + length (group_of r) ≤ vec_capacity r.entries =
    omega (arith, m.room.entries, built_unanswered r.log r.in_hand built, group_len r, r.groups_wait) in
    let got : GotRuns plans s s.entries r.assigned (group_of r) group es last = gives counted m.entries room in
    let hand : map f (group_of r) ≡ hand_of r = sym (take-map f r.in_hand (drop r.in_second r.linked.items)) ∙ ap (take r.in_hand) (sym (drop-map f r.in_second r.linked.items)) in
    record {
      runs = got.runs ∙ ap (λ n. core.with_runs n (map f (group_of r))) (sym m.assigned) ∙ ap (core.with_runs s.assigned) hand;
      listed = got.listed;
      reached = got.reached ∙ ap (λ n. last_sequence n (core.entries_of s (map f group))) (sym m.assigned);
      shown = hand_shown plans r.in_second r.in_hand group r.linked.items within size;
      writers = writers_alike plans r.linked.items (with_group_at r.in_second r.in_hand group r.linked.items) r.items.items (unanswered_at r.in_second r.in_hand group r.linked.items same) m.writers;
      line = λ t log2 seconds queues log some. line_at plans s t r.second.items r.in_second r.in_hand r.log log2 r.linked.items group m.line within size seconds queues log some;
    }

hand_got_in : (o : core.Options) (r : State) (s : core.State) → Mirrors o r s → is_built r.log ≡ true → (all : List Writer) (n : ℕ) (group : List Writer) (es : List CoreEntry) (last : ℕ) → all ≡ r.linked.items → n ≡ r.in_hand
    → map without_answer group ≡ map without_answer (take n (drop r.in_second all)) → Gives r s group es last (take n (drop r.in_second all)) → HandGot r s (take r.in_second all ++ (group ++ drop n (drop r.in_second all))) group es last
hand_got_in o r s m built all n group es last e k =
    let P : List Writer → Type 0 = λ xs. map without_answer group ≡ map without_answer (take n (drop r.in_second xs)) → Gives r s group es last (take n (drop r.in_second xs)) → HandGot r s (with_group_at r.in_second n group xs) group es last in
    let Q : ℕ → Type 0 = λ j. map without_answer group ≡ map without_answer (take j (drop r.in_second r.linked.items)) → Gives r s group es last (take j (drop r.in_second r.linked.items)) → HandGot r s (with_group_at r.in_second j group r.linked.items) group es last in
    subst P (sym e) (subst Q (sym k) (hand_got_at o r s m built group es last))

drop_none : {A : Type 0} (n : ℕ) (xs : List A) → length xs ≡ n → drop n xs ≡ []
drop_none n [] e = let none : n ≡ 0 = omega (arith, e) in ap (λ k. drop k []) none
drop_none zero (x ∷ xs) e = absurd (omega (arith, e))
drop_none (suc n) (x ∷ xs) e = drop_none n xs (omega (arith, e))

-- a vector's items, all written over by the same number of items
pub written_over : {A : Type 0} (n : ℕ) (xs ys : List A) → length xs ≡ n → length ys ≡ n → xs ≡ take n (xs ++ drop (length xs) ys)
written_over n xs ys e k =
    let over : xs ≡ xs ++ drop (length xs) ys = append_none xs ∙ ap (λ zs. xs ++ zs) (sym (drop_none (length xs) ys (k ∙ sym e))) in
    sym (take-length xs) ∙ ap (λ j. take j xs) e ∙ ap (take n) over

pub hand_got : (o : core.Options) (r : State) (s : core.State) → Mirrors o r s → is_built r.log ≡ true → (all : List Writer) (n : ℕ) (group : List Writer) (es : List CoreEntry) (last : ℕ) → all ≡ r.linked.items → n ≡ r.in_hand
    → map without_answer group ≡ map without_answer (take n (drop r.in_second all)) → Gives r s group es last (take n (drop r.in_second all))
    → HandGot r s (take (vec_len r.linked) ((take r.in_second all ++ (group ++ drop n (drop r.in_second all))) ++ drop (length (take r.in_second all ++ (group ++ drop n (drop r.in_second all)))) r.linked.items)) group es last
hand_got o r s m built all n group es last e k same gives =
    let line : List Writer = take r.in_second all ++ (group ++ drop n (drop r.in_second all)) in
    let P : List Writer → Type 0 = λ xs. HandGot r s xs group es last in
    let long : length line ≡ length all = sym (length-map line without_answer) ∙ ap length (unanswered_at r.in_second n group all same) ∙ length-map all without_answer in
    let full : length r.linked.items ≡ vec_len r.linked = sym r.linked.ok.0 in
    subst P (written_over (vec_len r.linked) line r.linked.items (long ∙ ap length e ∙ full) full) (hand_got_in o r s m built all n group es last e k same gives)

-- The state after the event

pub none_shown : (o : core.Options) (r : State) (s : core.State) (zs ws runs : List core.Writer) → zs ≡ ws → ws ≡ runs → core.entries_of s ws ≡ [] → Mirrors o r (record (event.leave s zs) { log = core.free }) → Mirrors o r (event.logged_group s runs)
none_shown o r s zs ws runs e k none m =
    let P : List core.Writer → Type 0 = λ xs. Mirrors o r (record (event.leave s xs) { log = core.free }) in
    let Q : core.State → Type 0 = λ t. Mirrors o r t in
    subst Q (sym (none_logged s runs (ap (core.entries_of s) (sym k) ∙ none))) (subst P (e ∙ k) m)

pub some_shown : (o : core.Options) (r : State) (s : core.State) (ws runs : List core.Writer) → ws ≡ runs → 0 < length (core.entries_of s ws) → Mirrors o r (event.with_group s ws (core.entries_of s ws)) → Mirrors o r (event.logged_group s runs)
some_shown o r s ws runs k some m =
    let P : List core.Writer → Type 0 = λ xs. Mirrors o r (event.with_group s xs (core.entries_of s xs)) in
    let Q : core.State → Type 0 = λ t. Mirrors o r t in
    let there : 0 < length (core.entries_of s runs) = omega (arith, some, ap (λ xs. length (core.entries_of s xs)) k) in
    subst Q (sym (some_logged s runs there)) (subst P k m)
