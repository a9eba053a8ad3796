-- Events that neither change a client nor give a run keep what holds of the clients' replies.
use Rattle.std.proofs.Common.{◌≡◌, ℕ, ◌≤◌, ◌==◌, ◌&&◌, Bool, true, false, not, if◌then◌else◌, List, [], ◌∷◌, ◌++◌, take, drop, Some, refl, ap, sym, ◌∙◌, subst, append_assoc, append-nil, arith}
use Rattle.std.specs.List.{AllByRecursion, list_all}
use Rattle.std.proofs.lemmas.List.{take-append-drop}
use Rattle.std.proofs.lemmas.List.Concat.{flat_map-append}
use Rattle.model_base.specs.History.{IsHistory}
use Rattle.model_base.specs.Calls.{Command}
use Rattle.model_core.specs.Core.{Options, Writer, LogPhase, free, led, built, stalled, in_log, marked, handed, TablePhase, still, launched, published, State, leads, table_group, runners, among, first_group, in_hand}
use Rattle.model_core.specs.Step.{elect, build, group_size, boundary, to_second, next, launch, insert, finish, publish, exit, exit_reader, has_read, is_last, group_last, entry_ahead, leave}
use Rattle.model_core.specs.CoreLaw.{IsCore, hand, writers_in}
use Rattle.model_core_laws.proofs.Groups.{one_slowdown}
use Rattle.model_core_laws.proofs.Histories.{history_right, history_front, history_rises}
use Rattle.model_core_laws.proofs.KeptByPublish.{group_ends}
use Rattle.model_core_laws.proofs.Lists.{all_append, all_front, all_back}
use Rattle.model_core_laws.proofs.Tables.{with_table, cut_ahead, when_some}
use Rattle.model_core_laws.proofs.Told.{HasNoAnswer, Told, writers, unanswered, told_lines}

-- what holds of all writers that wait, place by place
pub record Parts (P : Writer → Type 0) (seconds hands queue leaving : List Writer) : Type 0 where
  pub at_second : AllByRecursion P seconds
  pub at_hand : AllByRecursion P hands
  pub at_queue : AllByRecursion P queue
  pub at_leaving : AllByRecursion P leaving

pub apart : (P : Writer → Type 0) (a b c d : List Writer) → AllByRecursion P (((a ++ b) ++ c) ++ d) → Parts P a b c d
apart P a b c d all =
    let line = all_front P ((a ++ b) ++ c) d all in let groups = all_front P (a ++ b) c line in
    record { at_second = all_front P a b groups; at_hand = all_back P a b groups; at_queue = all_back P (a ++ b) c line; at_leaving = all_back P ((a ++ b) ++ c) d all }

pub together : (P : Writer → Type 0) (a b c d : List Writer) → Parts P a b c d → AllByRecursion P (((a ++ b) ++ c) ++ d)
together P a b c d parts = all_append P ((a ++ b) ++ c) d (all_append P (a ++ b) c (all_append P a b parts.at_second parts.at_hand) parts.at_queue) parts.at_leaving

pub becomes : (o : Options) (plans : List (List Command)) (s t : State) → s ≡ t → IsCore o t → (IsCore o s → Told o plans s) → Told o plans t
becomes o plans s t e core f = subst (λ t. IsCore o t → Told o plans t) e f core

pub told_by_elect : (o : Options) (plans : List (List Command)) (s t : State) (c : ℕ) → Told o plans s → elect s c s.log ≡ Some t → IsCore o t → Told o plans t
told_by_elect o plans s t c told e core = by_phase s.log refl e
  where
    by_phase : (phase : LogPhase) → s.log ≡ phase → elect s c phase ≡ Some t → Told o plans t
    by_phase free is e = let h = when_some (leads c s.queue) (record s { log = led c }) t e in
        becomes o plans (record s { log = led c }) t h.1 core (told_lines o plans s (record s { log = led c }) refl refl refl refl (omega arith) (λ P a. rw is at a) (rw is at told.none) tt told)
    by_phase (led d) is e = absurd (cc)
    by_phase (built ws) is e = absurd (cc)
    by_phase (in_log ws) is e = absurd (cc)
    by_phase (stalled ws) is e = absurd (cc)
    by_phase (marked ws) is e = absurd (cc)
    by_phase (handed d) is e = absurd (cc)

same_built : (s : State) (n d : ℕ) → s.log ≡ led d → writers s ≡ writers (record s { log = built (take n s.queue); queue = drop n s.queue })
same_built s n d is = ap (λ line. line ++ s.leaving) (rw is (rw (append_assoc (writers_in s.second) (take n s.queue) (drop n s.queue), take-append-drop n s.queue, append-nil (writers_in s.second))))

pub told_by_build : (o : Options) (plans : List (List Command)) (s t : State) (c : ℕ) → Told o plans s → build o s c s.log ≡ Some t → IsCore o t → Told o plans t
told_by_build o plans s t c told e core = by_phase s.log refl e
  where
    by_phase : (phase : LogPhase) → s.log ≡ phase → build o s c phase ≡ Some t → Told o plans t
    by_phase (led d) is e =
        let n = group_size o s in let u : State = record s { log = built (take n s.queue); queue = drop n s.queue } in let h = when_some (c == d) u t e in
        let queue : AllByRecursion HasNoAnswer s.queue = rw is at told.none in
        becomes o plans u t h.1 core (told_lines o plans s u refl refl refl refl (omega arith) (λ P a. subst (AllByRecursion P) (same_built s n d is) a)
        (subst (AllByRecursion HasNoAnswer) (sym (take-append-drop n s.queue)) queue) (one_slowdown o.group_bytes s.queue) told)
    by_phase free is e = absurd (cc)
    by_phase (built ws) is e = absurd (cc)
    by_phase (in_log ws) is e = absurd (cc)
    by_phase (stalled ws) is e = absurd (cc)
    by_phase (marked ws) is e = absurd (cc)
    by_phase (handed d) is e = absurd (cc)

pub told_by_boundary : (o : Options) (plans : List (List Command)) (s t : State) (c : ℕ) → Told o plans s → boundary o s c s.log ≡ Some t → IsCore o t → Told o plans t
told_by_boundary o plans s t c told e core = by_phase s.log refl e
  where
    by_phase : (phase : LogPhase) → s.log ≡ phase → boundary o s c phase ≡ Some t → Told o plans t
    by_phase (in_log ws) is e = let u : State = record s { log = marked ws } in let h = when_some (o.pipelined && leads c ws) u t e in
        becomes o plans u t h.1 core (told_lines o plans s u refl refl refl refl (omega arith) (λ P a. rw is at a) (rw is at told.none) tt told)
    by_phase free is e = absurd (cc)
    by_phase (led d) is e = absurd (cc)
    by_phase (built ws) is e = absurd (cc)
    by_phase (stalled ws) is e = absurd (cc)
    by_phase (marked ws) is e = absurd (cc)
    by_phase (handed d) is e = absurd (cc)

same_seconds : (s : State) (c : ℕ) (ws : List Writer) → s.log ≡ marked ws → writers s ≡ writers (record s { log = handed c; second = s.second ++ ws ∷ [] })
same_seconds s c ws is = ap (λ line. (line ++ s.queue) ++ s.leaving)
    (rw is (sym (ap (λ line. line ++ []) (flat_map-append (λ (ws : List Writer). ws) s.second (ws ∷ []) ∙ ap (λ ws. writers_in s.second ++ ws) (append-nil ws)) ∙ append-nil (writers_in s.second ++ ws))))

pub told_by_second : (o : Options) (plans : List (List Command)) (s t : State) (c : ℕ) → Told o plans s → to_second s c s.log ≡ Some t → IsCore o t → Told o plans t
told_by_second o plans s t c told e core = by_phase s.log refl e
  where
    by_phase : (phase : LogPhase) → s.log ≡ phase → to_second s c phase ≡ Some t → Told o plans t
    by_phase (marked ws) is e = let u : State = record s { log = handed c; second = s.second ++ ws ∷ [] } in let h = when_some (leads c ws) u t e in
        becomes o plans u t h.1 core (told_lines o plans s u refl refl refl refl (omega arith) (λ P a. subst (AllByRecursion P) (same_seconds s c ws is) a) (rw is at told.none) tt told)
    by_phase free is e = absurd (cc)
    by_phase (led d) is e = absurd (cc)
    by_phase (built ws) is e = absurd (cc)
    by_phase (in_log ws) is e = absurd (cc)
    by_phase (stalled ws) is e = absurd (cc)
    by_phase (handed d) is e = absurd (cc)

pub told_by_next : (o : Options) (plans : List (List Command)) (s t : State) (c : ℕ) → Told o plans s → next s c s.log ≡ Some t → IsCore o t → Told o plans t
told_by_next o plans s t c told e core = by_phase s.log refl e
  where
    by_phase : (phase : LogPhase) → s.log ≡ phase → next s c phase ≡ Some t → Told o plans t
    by_phase (handed d) is e = let u : State = record s { log = free } in let h = when_some (c == d) u t e in
        becomes o plans u t h.1 core (told_lines o plans s u refl refl refl refl (omega arith) (λ P a. rw is at a) (rw is at told.none) tt told)
    by_phase free is e = absurd (cc)
    by_phase (led d) is e = absurd (cc)
    by_phase (built ws) is e = absurd (cc)
    by_phase (in_log ws) is e = absurd (cc)
    by_phase (stalled ws) is e = absurd (cc)
    by_phase (marked ws) is e = absurd (cc)

-- The memtable's events

pub told_by_launch : (o : Options) (plans : List (List Command)) (s t : State) (c : ℕ) → Told o plans s → launch o s c s.table ≡ Some t → IsCore o t → Told o plans t
told_by_launch o plans s t c told e core = by_phase s.table refl e
  where
    by_phase : (phase : TablePhase) → s.table ≡ phase → launch o s c phase ≡ Some t → Told o plans t
    by_phase still is e = let u : State = record s { table = launched [] [] } in let h = when_some (leads c (table_group o s)) u t e in
        becomes o plans u t h.1 core (told_lines o plans s u refl refl refl refl (omega arith) (λ P a. a) told.none told.one_kind told)
    by_phase (launched ins fin) is e = absurd (cc)
    by_phase published is e = absurd (cc)

pub told_by_insert : (o : Options) (plans : List (List Command)) (s t : State) (m : ℕ) → Told o plans s → insert o s m s.table ≡ Some t → IsCore o t → Told o plans t
told_by_insert o plans s t m told e core = by_phase s.table refl e
  where
    by_phase : (phase : TablePhase) → s.table ≡ phase → insert o s m phase ≡ Some t → Told o plans t
    by_phase (launched ins fin) is e = let u : State = record s { table = launched (ins ++ m ∷ []) fin; inserted = s.inserted ++ entry_ahead s m } in
        let h = when_some (among m (runners (table_group o s)) && not (among m ins)) u t e in
        becomes o plans u t h.1 core (told_lines o plans s u refl refl refl refl (omega arith) (λ P a. a) told.none told.one_kind told)
    by_phase still is e = absurd (cc)
    by_phase published is e = absurd (cc)

pub told_by_finish : (o : Options) (plans : List (List Command)) (s t : State) (m : ℕ) → Told o plans s → finish s m s.table ≡ Some t → IsCore o t → Told o plans t
told_by_finish o plans s t m told e core = by_phase s.table refl e
  where
    by_phase : (phase : TablePhase) → s.table ≡ phase → finish s m phase ≡ Some t → Told o plans t
    by_phase (launched ins fin) is e = let u : State = record s { table = launched ins (fin ++ m ∷ []) } in let h = when_some (among m ins && not (among m fin)) u t e in
        becomes o plans u t h.1 core (told_lines o plans s u refl refl refl refl (omega arith) (λ P a. a) told.none told.one_kind told)
    by_phase still is e = absurd (cc)
    by_phase published is e = absurd (cc)

pub published_rises : (o : Options) (s : State) (ins fin : List ℕ) → IsCore o (with_table s (launched ins fin)) → s.last ≤ group_last s.last (table_group o s)
published_rises o s ins fin core =
    let cut = cut_ahead o s ins fin core in
    let past : IsHistory s.last core.is_boundary.rest = subst (λ n. IsHistory n core.is_boundary.rest) (sym core.is_boundary.ends)
    (history_right o.start core.front core.is_boundary.rest (subst (IsHistory o.start) core.is_boundary.split core.is_history)) in
    let group = history_front s.last cut.front cut.back (subst (IsHistory s.last) cut.whole past) in
    let ends = group_ends s.last (table_group o s) cut.front cut.at_front in let rises = history_rises s.last cut.front group in omega arith

pub told_by_publish : (o : Options) (plans : List (List Command)) (s t : State) (m : ℕ) → Told o plans s → publish o s m s.table ≡ Some t → IsCore o t → Told o plans t
told_by_publish o plans s t m told e core = by_phase s.table refl e
  where
    by_phase : (phase : TablePhase) → s.table ≡ phase → publish o s m phase ≡ Some t → Told o plans t
    by_phase (launched ins fin) is e = let u : State = record s { table = published; last = group_last s.last (table_group o s) } in
        let h = when_some (is_last m fin && list_all (λ c. among c fin) (runners (table_group o s))) u t e in
        let before : IsCore o (with_table s (launched ins fin)) = subst (λ phase. IsCore o (with_table s phase)) is told.core in
        becomes o plans u t h.1 core (told_lines o plans s u refl refl refl refl (published_rises o s ins fin before) (λ P a. a) told.none told.one_kind told)
    by_phase still is e = absurd (cc)
    by_phase published is e = absurd (cc)

-- the first group of the second queue, and those after it
seconds_cut : (P : Writer → Type 0) (wss : List (List Writer)) → AllByRecursion P (writers_in wss) → AllByRecursion P (writers_in (drop 1 wss)) × AllByRecursion P (first_group wss)
seconds_cut P [] a = (tt, tt)
seconds_cut P (ws ∷ wss) a = (all_back P ws (writers_in wss) a, all_front P ws (writers_in wss) a)

hand_in_log : (P : Writer → Type 0) (log : LogPhase) → AllByRecursion P (hand log) → AllByRecursion P (in_hand log)
hand_in_log P (in_log ws) a = a
hand_in_log P free a = tt
hand_in_log P (led c) a = tt
hand_in_log P (built ws) a = tt
hand_in_log P (stalled ws) a = tt
hand_in_log P (marked ws) a = tt
hand_in_log P (handed c) a = tt

pub queue_unanswered : (P : Writer → Type 0) (log : LogPhase) (queue : List Writer) → AllByRecursion P (unanswered log queue) → AllByRecursion P queue
queue_unanswered P (built ws) queue a = all_back P ws queue a
queue_unanswered P (stalled ws) queue a = all_back P ws queue a
queue_unanswered P (in_log ws) queue a = a
queue_unanswered P free queue a = a
queue_unanswered P (led c) queue a = a
queue_unanswered P (marked ws) queue a = a
queue_unanswered P (handed c) queue a = a

-- the state after the table's group has left
abbrev exited : State → Bool → State
exited s pipelined = record (leave (if pipelined then record s { second = drop 1 s.second } else record s { log = free }) (if pipelined then first_group s.second else in_hand s.log)) { table = still }

told_exited : (o : Options) (plans : List (List Command)) (s : State) (pipelined : Bool) → Told o plans s → IsCore o (exited s pipelined) → Told o plans (exited s pipelined)
told_exited o plans s true told = told_lines o plans s (exited s true) refl refl refl refl (omega arith)
    (λ P a. let p = apart P (writers_in s.second) (hand s.log) s.queue s.leaving a in let cut = seconds_cut P s.second p.at_second in
    together P (writers_in (drop 1 s.second)) (hand s.log) s.queue (s.leaving ++ first_group s.second)
    (record { at_second = cut.0; at_hand = p.at_hand; at_queue = p.at_queue; at_leaving = all_append P s.leaving (first_group s.second) p.at_leaving cut.1 }))
    told.none told.one_kind told
told_exited o plans s false told = told_lines o plans s (exited s false) refl refl refl refl (omega arith)
    (λ P a. let p = apart P (writers_in s.second) (hand s.log) s.queue s.leaving a in
    together P (writers_in s.second) [] s.queue (s.leaving ++ in_hand s.log)
    (record { at_second = p.at_second; at_hand = tt; at_queue = p.at_queue; at_leaving = all_append P s.leaving (in_hand s.log) p.at_leaving (hand_in_log P s.log p.at_hand) }))
    (queue_unanswered HasNoAnswer s.log s.queue told.none) tt told

-- who has read the log leaves with its answer
told_by_reader : (o : Options) (plans : List (List Command)) (s t : State) (c : ℕ) (phase : LogPhase) → s.log ≡ phase → Told o plans s → exit_reader s c phase ≡ Some t → IsCore o t → Told o plans t
told_by_reader o plans s t c (built (w ∷ [])) is told e core =
    let u : State = record (leave s (w ∷ [])) { log = free } in
    let h = when_some (has_read c w) u t e in
    becomes o plans u t h.1 core (told_lines o plans s u refl refl refl refl (omega arith)
    (λ P a. let p = apart P (writers_in s.second) (hand s.log) s.queue s.leaving a in
    together P (writers_in s.second) [] s.queue (s.leaving ++ w ∷ [])
    (record { at_second = p.at_second; at_hand = tt; at_queue = p.at_queue; at_leaving = all_append P s.leaving (w ∷ []) p.at_leaving (rw is at p.at_hand) }))
    (queue_unanswered HasNoAnswer s.log s.queue told.none) tt told)
told_by_reader o plans s t c (built []) is told e core = absurd (cc)
told_by_reader o plans s t c (built (w ∷ v ∷ ws)) is told e core = absurd (cc)
told_by_reader o plans s t c free is told e core = absurd (cc)
told_by_reader o plans s t c (led d) is told e core = absurd (cc)
told_by_reader o plans s t c (stalled ws) is told e core = absurd (cc)
told_by_reader o plans s t c (in_log ws) is told e core = absurd (cc)
told_by_reader o plans s t c (marked ws) is told e core = absurd (cc)
told_by_reader o plans s t c (handed d) is told e core = absurd (cc)

pub told_by_exit : (o : Options) (plans : List (List Command)) (s t : State) (c : ℕ) → Told o plans s → exit o s c s.table ≡ Some t → IsCore o t → Told o plans t
told_by_exit o plans s t c told e core = by_phase s.table refl e
  where
    by_phase : (phase : TablePhase) → s.table ≡ phase → exit o s c phase ≡ Some t → Told o plans t
    by_phase published is e = by_leader (leads c (table_group o s)) e
      where
        by_leader : (b : Bool) → (if b then Some (exited s o.pipelined) else exit_reader s c s.log) ≡ Some t → Told o plans t
        by_leader true e = becomes o plans (exited s o.pipelined) t (cc) core (told_exited o plans s o.pipelined told)
        by_leader false e = told_by_reader o plans s t c s.log refl told e core
    by_phase still is e = told_by_reader o plans s t c s.log refl told e core
    by_phase (launched ins fin) is e = told_by_reader o plans s t c s.log refl told e core
