-- Once the log has failed nobody succeeds; and the call that failed was made for the first group that got its fault.
use Rattle.std.proofs.Common.{◌≡◌, inl, inr, ℕ, ◌<◌, Bool, true, false, cond, ◌||◌, map, List, [], ◌∷◌, ◌++◌, Option, Some, None, length, refl, ap, sym, ◌∙◌, subst, arith}
use Rattle.std.specs.Prelude.{find}
use Rattle.std.specs.List.{AllByRecursion, list_any}
use Rattle.model_base.specs.Batch.{count_of}
use Rattle.model_base.specs.Attempts.{Attempt, WriteStatus, is_faulted}
use Rattle.model_base.specs.Groups.{Group}
use Rattle.model_base.specs.LogContents.{GroupCall}
use Rattle.model_runs.specs.Groups as outcome
use Rattle.model_runs.specs.Groups.{IsOfFirstLost, MeetsDeadLog, StaysDead, is_kept_out, is_lost, leader_syncs, statuses_in}
use Rattle.model_runs.specs.Lost.{batches_that_fit}
use Rattle.model_accounts.specs.Led.{Led, Taken, groups_after, members_after}
use Rattle.engine_rule.specs.Commits.{Answer, AreAnswered, Commit, Heard, IsAnswer, accepted, held_up, failed, no_room, fault_after, fault_after_all, last_after, last_after_all}
use Rattle.engine_rule.specs.Asked.{FailTogether, IsLedGroup, LedGroup, commits_in, heard_by, is_failed, place_of}
use Rattle.engine_rule.specs.Entries.{status_of}
use Rattle.engine_rule.specs.LogCalls.{IsLostWrite, led_of, leader_asks_sync, outcome_groups, taken_of}
use Rattle.engine_rule.specs.Plans.{AreLogged, CommitRequest, all_failed, batches_from}
use Rattle.engine_rule.proofs.Chains.{dead_append}
use Rattle.engine_rule.proofs.GroupParts.{answered_cut}
use Rattle.engine_rule.proofs.LoggedGroups.{group_at}

-- what an outcome shows of these commits, and how they ended
abbrev pub attempts_taken_of : List Commit → List Attempt
attempts_taken_of cs = map (λ (t : Taken). t.attempt) (map taken_of cs)

abbrev pub ended : List Commit → List WriteStatus
ended cs = map (λ (h : Attempt). h.status) (attempts_taken_of cs)

abbrev has_fault : Option ℕ → Bool
has_fault None = false
has_fault (Some n) = true

-- Lists and tests

or_false : (a : Bool) → a ≡ a || false
or_false true = refl
or_false false = refl

or_assoc : (a b c : Bool) → (a || b) || c ≡ a || (b || c)
or_assoc true b c = refl
or_assoc false b c = refl

or_none : (a b : Bool) → a || b ≡ false → a ≡ false
or_none true b e = e
or_none false b e = refl

no_fault : (fault : Option ℕ) → has_fault fault ≡ false → fault ≡ None
no_fault None e = refl
no_fault (Some n) e = absurd (cc e)

heads : {A : Type 0} (x y : A) (xs ys : List A) → x ∷ xs ≡ y ∷ ys → x ≡ y
heads x y xs ys e = cc e

tails : {A : Type 0} (x y : A) (xs ys : List A) → x ∷ xs ≡ y ∷ ys → xs ≡ ys
tails x y xs ys e = cc e

-- The log has a fault once a commit was answered it

fault_step : (fault : Option ℕ) (place : ℕ) (v : Answer) → has_fault (fault_after fault v) ≡ has_fault fault || is_faulted (status_of v)
fault_step None place (accepted first end) = refl
fault_step None place (held_up numbers) = refl
fault_step None place (failed n) = refl
fault_step None place (no_room l) = refl
fault_step (Some m) place (accepted first end) = refl
fault_step (Some m) place (held_up numbers) = refl
fault_step (Some m) place (failed n) = refl
fault_step (Some m) place (no_room l) = refl

faults : (fault : Option ℕ) (cs : List Commit) → has_fault (fault_after_all fault cs) ≡ has_fault fault || list_any is_faulted (ended cs)
faults fault [] = or_false (has_fault fault)
faults fault (c ∷ cs) =
    faults (fault_after fault c.answer) cs
    ∙ (ap (λ b. b || list_any is_faulted (ended cs)) (fault_step fault (place_of c) c.answer) ∙ or_assoc (has_fault fault) (is_faulted (status_of c.answer)) (list_any is_faulted (ended cs)))

-- Then nobody succeeds

still : (fault : Option ℕ) (v : Answer) → has_fault fault ≡ true → has_fault (fault_after fault v) ≡ true
still fault (accepted first end) is = is
still fault (held_up numbers) is = is
still fault (failed n) is = refl
still fault (no_room l) is = is

meets_one : (fault : Option ℕ) (last count place : ℕ) (v : Answer) → has_fault fault ≡ true → IsAnswer last fault count v → MeetsDeadLog (status_of v)
meets_one fault last count place (accepted first end) is h = let none : has_fault fault ≡ false = ap has_fault h.0 in absurd (cc (is, none))
meets_one fault last count place (held_up numbers) is h = tt
meets_one fault last count place (failed n) is h = tt
meets_one fault last count place (no_room l) is h = let none : has_fault fault ≡ false = ap has_fault h.0 in absurd (cc (is, none))

meets : (last : ℕ) (fault : Option ℕ) (cs : List Commit) → has_fault fault ≡ true → AreAnswered last fault cs → AllByRecursion MeetsDeadLog (ended cs)
meets last fault [] is h = tt
meets last fault (c ∷ cs) is h = (
  meets_one fault last (count_of c.records) (place_of c) c.answer is h.0,
  meets (last_after last (count_of c.records) c.answer) (fault_after fault c.answer) cs (still fault c.answer is) h.1,
)

failed_meets : (place : ℕ) (v : Answer) → is_failed v ≡ true → MeetsDeadLog (status_of v)
failed_meets place (accepted first end) is = absurd (cc is)
failed_meets place (held_up numbers) is = tt
failed_meets place (failed n) is = tt
failed_meets place (no_room l) is = absurd (cc is)

all_meet : (cs : List Commit) → AllByRecursion (λ (c : Commit). is_failed c.answer ≡ true) cs → AllByRecursion MeetsDeadLog (ended cs)
all_meet [] h = tt
all_meet (c ∷ cs) h = (failed_meets (place_of c) c.answer h.0, all_meet cs h.1)

faulted_as : (place : ℕ) (v : Answer) → is_faulted (status_of v) ≡ is_failed v
faulted_as place (accepted first end) = refl
faulted_as place (held_up numbers) = refl
faulted_as place (failed n) = refl
faulted_as place (no_room l) = refl

none_faulted : (cs : List Commit) → AllByRecursion (λ (c : Commit). is_failed c.answer ≡ false) cs → list_any is_faulted (ended cs) ≡ false
none_faulted [] h = refl
none_faulted (c ∷ cs) h = λ i. (faulted_as (place_of c) c.answer ∙ h.0) i || none_faulted cs h.1 i

group_meets : (last : ℕ) (fault : Option ℕ) (cs : List Commit) → AreAnswered last fault cs → FailTogether cs → (has_fault fault || list_any is_faulted (ended cs)) ≡ true → AllByRecursion MeetsDeadLog (ended cs)
group_meets last (Some n) cs right fail now = meets last (Some n) cs refl right
group_meets last None cs right (inl all) now = all_meet cs all
group_meets last None cs right (inr none) now = let none_is = none_faulted cs none in absurd (cc (now, none_is))

pub stays_dead : (group_bytes last : ℕ) (fault : Option ℕ) (groups : List LedGroup) → AllByRecursion (IsLedGroup group_bytes) groups → AreAnswered last fault (commits_in groups)
    → StaysDead (has_fault fault) (map (λ (g : LedGroup). ended g.commits) groups)
stays_dead group_bytes last fault [] each right = tt
stays_dead group_bytes last fault (g ∷ groups) each right =
    let both = answered_cut last fault g.commits (commits_in groups) right in (
      group_meets last fault g.commits both.0 each.0.fail,
      subst (λ b. StaysDead b (map (λ (h : LedGroup). ended h.commits) groups)) (faults fault g.commits)
          (stays_dead group_bytes (last_after_all last g.commits) (fault_after_all fault g.commits) groups each.1 both.1),
    )

-- The commits of an outcome's groups

module _ (attempts : List (List Attempt)) where
  abbrev pub AreOfGroups : List Group → List LedGroup → Type 0
  AreOfGroups xs groups = map (outcome.commits_in attempts) xs ≡ map (λ (g : Led). map (λ (t : Taken). t.attempt) g.commits) (map led_of groups)

  pub statuses_are : (xs : List Group) (groups : List LedGroup) → AreOfGroups xs groups → map (statuses_in attempts) xs ≡ map (λ (g : LedGroup). ended g.commits) groups
  statuses_are [] [] same = refl
  statuses_are [] (g ∷ groups) same = absurd (cc same)
  statuses_are (x ∷ xs) [] same = absurd (cc same)
  statuses_are (x ∷ xs) (g ∷ groups) same = λ i. map (λ (h : Attempt). h.status) (heads _ _ _ _ same i) ∷ statuses_are xs groups (tails _ _ _ _ same) i

  lost_as : (before : List Taken) (g : LedGroup) → outcome.commits_in attempts (group_at before g) ≡ attempts_taken_of g.commits → is_lost attempts (group_at before g) ≡ list_any is_faulted (ended g.commits)
  lost_as before g same = ap (λ hs. list_any is_faulted (map (λ (h : Attempt). h.status) hs)) same

  -- the first group with a commit that was answered the fault
  first_is : (before : List Taken) (front : List LedGroup) (g : LedGroup) (rest : List LedGroup) → AreOfGroups (groups_after before (map led_of (front ++ g ∷ rest))) (front ++ g ∷ rest) → fault_after_all None (commits_in front) ≡ None
      → list_any is_faulted (ended g.commits) ≡ true
      → (earlier : List Taken) × (find (is_lost attempts) (groups_after before (map led_of (front ++ g ∷ rest))) ≡ Some (group_at earlier g)) × (outcome.commits_in attempts (group_at earlier g) ≡ attempts_taken_of g.commits)
  first_is before [] g rest same none some =
      let here : outcome.commits_in attempts (group_at before g) ≡ attempts_taken_of g.commits = heads _ _ _ _ same in (
        before,
        ap (λ b. cond b (Some (group_at before g)) (find (is_lost attempts) (groups_after (before ++ map taken_of g.commits) (map led_of rest)))) (lost_as before g here ∙ some),
        here,
      )
  first_is before (h ∷ front) g rest same none some =
      let here : outcome.commits_in attempts (group_at before h) ≡ attempts_taken_of h.commits = heads _ _ _ _ same in
      let whole : fault_after_all (fault_after_all None h.commits) (commits_in front) ≡ None = sym (dead_append None h.commits (commits_in front)) ∙ none in
      let until : has_fault (fault_after_all None h.commits) ≡ false =
      or_none (has_fault (fault_after_all None h.commits)) (list_any is_faulted (ended (commits_in front))) (sym (faults (fault_after_all None h.commits) (commits_in front)) ∙ ap has_fault whole) in
      let off : is_lost attempts (group_at before h) ≡ false = lost_as before h here ∙ (sym (faults None h.commits) ∙ until) in
      let more = first_is (before ++ map taken_of h.commits) front g rest (tails _ _ _ _ same) (subst (λ f. fault_after_all f (commits_in front) ≡ None) (no_fault (fault_after_all None h.commits) until) whole) some in (
        more.0,
        ap (λ b. cond b (Some (group_at before h)) (find (is_lost attempts) (groups_after (before ++ map taken_of h.commits) (map led_of (front ++ g ∷ rest))))) off ∙ more.1,
        more.2,
      )

some_failed : (heard : Heard) (n : ℕ) (requests : List CommitRequest) → 0 < length requests → list_any is_faulted (ended (all_failed heard n requests)) ≡ true
some_failed heard n [] some = absurd (omega (arith, some))
some_failed heard n (q ∷ requests) some = refl

batches_failed : (heard : Heard) (n : ℕ) (requests : List CommitRequest) → map (λ (h : Attempt). h.records) (attempts_taken_of (all_failed heard n requests)) ≡ map (λ (q : CommitRequest). q.records) requests
batches_failed heard n [] = refl
batches_failed heard n (q ∷ requests) = ap (λ l. q.records ∷ l) (batches_failed heard n requests)

sync_failed : (before : List Taken) (heard : Heard) (n : ℕ) (requests : List CommitRequest) → leader_asks_sync requests ≡ leader_syncs (members_after before (map taken_of (all_failed heard n requests)))
sync_failed before heard n [] = refl
sync_failed before heard n (q ∷ requests) = refl

kept_failed : (before : List Taken) (heard : Heard) (n : ℕ) (requests : List CommitRequest) → AreLogged requests → is_kept_out (members_after before (map taken_of (all_failed heard n requests))) ≡ false
kept_failed before heard n [] logged = refl
kept_failed before heard n (q ∷ requests) logged = logged.0

pub of_first_lost : (attempts : List (List Attempt)) (group_bytes n last : ℕ) (groups : List LedGroup) (c : GroupCall) → AreOfGroups attempts (outcome_groups groups) groups
    → ((requests : List CommitRequest) → batches_that_fit last (map (λ (q : CommitRequest). q.records) requests) ≡ batches_from last requests) → IsLostWrite group_bytes groups n last c → IsOfFirstLost attempts (outcome_groups groups) last c
of_first_lost attempts group_bytes n last groups c same fitting lost =
    let g = lost.group in
    let failed_some : list_any is_faulted (ended g.commits) ≡ true = ap (λ cs. list_any is_faulted (ended cs)) lost.answers ∙ some_failed (heard_by g) n lost.requests lost.is_group.some in
    let first = first_is attempts [] lost.before g lost.after (subst (λ gs. AreOfGroups attempts (outcome_groups gs) gs) lost.among same) lost.worked failed_some in
    let batches : outcome.batches_in attempts (group_at first.0 g) ≡ map (λ (q : CommitRequest). q.records) lost.requests =
    ap (map (λ (h : Attempt). h.records)) (first.2 ∙ ap attempts_taken_of lost.answers) ∙ batches_failed (heard_by g) n lost.requests in
    record {
      group = group_at first.0 g;
      first = ap (λ gs. find (is_lost attempts) (outcome_groups gs)) lost.among ∙ first.1;
      to_log = ap (λ cs. is_kept_out (members_after first.0 (map taken_of cs))) lost.answers ∙ kept_failed first.0 (heard_by g) n lost.requests lost.writes.to_log;
      batches = lost.writes.batches ∙ (sym (fitting lost.requests) ∙ ap (batches_that_fit last) (sym batches));
      sync = lost.writes.sync ∙ (sync_failed first.0 (heard_by g) n lost.requests ∙ ap (λ cs. leader_syncs (members_after first.0 (map taken_of cs))) (sym lost.answers));
    }
