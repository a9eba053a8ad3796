-- What a client may conclude from its newest answer.
use Rattle.std.proofs.Common.{◌≡◌, ℕ, ◌+◌, ◌<◌, ◌≤◌, Bool, true, false, cond, ◌==◌, filter, fold, map, take, List, [], ◌∷◌, ◌++◌, Option, Some, None, length, refl, ap, sym, ◌∙◌, subst, arith, append_assoc, append-nil}
use Rattle.std.specs.List.{AllByRecursion}
use Rattle.std.proofs.lemmas.Grind.{flat_map-append}
use Rattle.std.proofs.lemmas.Option.{slice_get_within}
use Rattle.std.proofs.lemmas.List.Sums.{fold-append}
use Rattle.model_base.specs.declared.write.Refusal.TheVariants as no
use Rattle.model_base.specs.Batch.{Record, count_of}
use Rattle.model_base.specs.Map.{Pairs}
use Rattle.model_base.specs.declared.write.WriteOptions.{WriteOptions}
use Rattle.model_base.specs.History.{Entry, IsHistory, last_of, last_sequence, max_sequence}
use Rattle.model_base.specs.Attempts.{is_faulted, knows_log_failed, slowed, faulted, full, fate_at}
use Rattle.model_base.specs.Controller.{ControllerCall, HoldUp, Look, delay, look}
use Rattle.model_base.specs.Tokens.{holds_stop, tokens_of, shown_by_tokens, said_in}
use Rattle.model_base.specs.Trace.{Settings}
use Rattle.model_base.specs.Outcomes.{entries_of_client}
use Rattle.model_base.specs.Progress.{early_refusal}
use Rattle.model_base.specs.Replies.{AreFullBelow, AreUpTo, IsFullBelow, IsLater, IsWithinCall, LooksAway, MetStall}
use Rattle.model_base.proofs.Prefixes.{prefix_self}
use Rattle.model_base.proofs.Runs.{not_kept_out}
use Rattle.table_rule.specs.declared.content.MemberVersions.{MemberVersions}
use Rattle.table_rule.specs.Histories.{Begins, last_of as last_of_groups}
use Rattle.model_accounts.specs.Accounts.{Account, IsLogged, IsRefused, Wrote}
use Rattle.model_accounts.specs.Sights.{Sees}
use Rattle.engine_rule.specs.Commits.{Answer, AreAnswered, Commit, IsAnswer, accepted, held_up, commits_of, failed, fault_after, fault_after_all, last_after, last_after_all, no_room}
use Rattle.engine_rule.specs.Asked.{place_of, decided_of}
use Rattle.engine_rule.specs.LogSights.{LogSight, logged_by, batch_with, batches_of}
use Rattle.engine_rule.specs.Reading.{ReadAnswer}
use Rattle.engine_rule.specs.Entries.{SeesMore, ShowsBatch, account_of, attempt_of, end_with, ends_of, entries_of, entry_with, mine_after, status_of}
use Rattle.engine_controller.specs.Passes.{EndsWith}
use Rattle.engine_controller.proofs.Account.{ends_begins, ends_last, ends_tokens}
use Rattle.engine_rule.proofs.Chains.{entries_history, entries_own}

-- the newest of a client's own, found among all
record Parted {A : Type 0} (p : A → Bool) (all old : List A) (x : A) : Type 0 where
  front : List A
  rest : List A
  split : all ≡ front ++ x ∷ rest
  own_front : filter p front ≡ old

part_cons : {A : Type 0} (p : A → Bool) (y : A) (all old : List A) (x : A) → p y ≡ false → Parted p all old x → Parted p (y ∷ all) old x
part_cons p y all old x e t = record { front = y ∷ t.front; rest = t.rest; split = ap (λ l. y ∷ l) t.split; own_front = rw e t.own_front }

part_own : {A : Type 0} (p : A → Bool) (y : A) (all old : List A) (x : A) → p y ≡ true → Parted p all old x → Parted p (y ∷ all) (y ∷ old) x
part_own p y all old x e t = record { front = y ∷ t.front; rest = t.rest; split = ap (λ l. y ∷ l) t.split; own_front = rw e (ap (λ l. y ∷ l) t.own_front) }

head_or : {A : Type 0} → A → List A → A
head_or d [] = d
head_or d (x ∷ xs) = x

tail_of : {A : Type 0} → List A → List A
tail_of [] = []
tail_of (x ∷ xs) = xs

one_cons : {A : Type 0} (x y : A) (xs ys : List A) → x ∷ xs ≡ y ∷ ys → (x ≡ y) × (xs ≡ ys)
unfolding head_or tail_of
one_cons x y xs ys e = (ap (head_or x) e, ap tail_of e)

parts : {A : Type 0} (p : A → Bool) (all old : List A) (x : A) → filter p all ≡ old ++ x ∷ [] → Parted p all old x
parts p [] [] x e = absurd (cc)
parts p [] (o ∷ old) x e = absurd (cc)
parts p (y ∷ all) old x e = by (p y) refl old e (λ o is. parts p all o x is)
  where
    by : (b : Bool) → p y ≡ b → (o : List _) → cond b (y ∷ filter p all) (filter p all) ≡ o ++ x ∷ [] → ((o : List _) → filter p all ≡ o ++ x ∷ [] → Parted p all o x) → Parted p (y ∷ all) o x
    by true t [] is more = let s = one_cons y x (filter p all) [] is in record { front = []; rest = all; split = ap (λ z. z ∷ all) s.0; own_front = refl }
    by true t (z ∷ o) is more = let s = one_cons y z (filter p all) (o ++ x ∷ []) is in subst (λ w. Parted p (y ∷ all) (w ∷ o) x) s.0 (part_own p y all o x t (more o s.1))
    by false f o is more = part_cons p y all o x f (more o is)

answered_at : (last : ℕ) (dead : Option ℕ) (front : List Commit) (c : Commit) (rest : List Commit) → AreAnswered last dead (front ++ c ∷ rest) → AreAnswered last dead front × IsAnswer (last_after_all last front) (fault_after_all dead front) (count_of c.records) c.answer
answered_at last dead [] c rest h = (tt, h.0)
answered_at last dead (x ∷ front) c rest h = let t = answered_at (last_after last (count_of x.records) x.answer) (fault_after dead x.answer) front c rest h.1 in ((h.0, t.0), t.1)

-- where the log has no fault now, no answer gave one
dead_by : (n : ℕ) (cs : List Commit) (v : Answer) → ((m : ℕ) → fault_after_all (Some m) cs ≡ None → ⊥) → fault_after_all (fault_after (Some n) v) cs ≡ None → ⊥
dead_by n cs (accepted first end) more e = more n e
dead_by n cs (held_up numbers) more e = more n e
dead_by n cs (failed m) more e = more m e
dead_by n cs (no_room l) more e = more n e

some_dead : (n : ℕ) (cs : List Commit) → fault_after_all (Some n) cs ≡ None → ⊥
some_dead n [] e = absurd (cc)
some_dead n (c ∷ cs) e = dead_by n cs c.answer (λ m. some_dead m cs) e

live_by : (place : ℕ) (cs : List Commit) (v : Answer) → fault_after_all (fault_after None v) cs ≡ None → (is_faulted (status_of v) ≡ false) × (fault_after_all None cs ≡ None)
live_by place cs (accepted first end) e = (refl, e)
live_by place cs (held_up numbers) e = (refl, e)
live_by place cs (failed m) e = absurd (some_dead m cs e)
live_by place cs (no_room l) e = (refl, e)

all_live : (cs : List Commit) → fault_after_all None cs ≡ None → AllByRecursion (λ (c : Commit). is_faulted (status_of c.answer) ≡ false) cs
all_live [] e = tt
all_live (c ∷ cs) e = let t = live_by (place_of c) cs c.answer e in (t.0, all_live cs t.1)

pub all_filter : {A : Type 0} (P : A → Type 0) (p : A → Bool) (xs : List A) → AllByRecursion P xs → AllByRecursion P (filter p xs)
all_filter P p [] h = tt
all_filter P p (x ∷ xs) h = by (p x) (all_filter P p xs h.1)
  where
    by : (b : Bool) → AllByRecursion P (filter p xs) → AllByRecursion P (cond b (x ∷ filter p xs) (filter p xs))
    by true more = (h.0, more)
    by false more = more

knows_none : (cs : List Commit) → AllByRecursion (λ (c : Commit). is_faulted (status_of c.answer) ≡ false) cs → knows_log_failed (map attempt_of cs) ≡ false
knows_none [] h = refl
knows_none (c ∷ cs) h = rw (h.0) (knows_none cs h.1)

-- no entry ends after the history's end
rises : (start : ℕ) (es : List Entry) → IsHistory start es → start ≤ last_sequence start es
rises start [] h = omega arith
rises start (e ∷ es) h = let a = rises (last_of e) es h.1 in let b = h.0.first in let c = h.0.some in omega (arith, a, b, c)

up_to : (start : ℕ) (es : List Entry) → IsHistory start es → AllByRecursion (λ e. last_of e ≤ last_sequence start es) es
up_to start [] h = tt
up_to start (e ∷ es) h = (rises (last_of e) es h.1, up_to (last_of e) es h.1)

-- the last sequence given never becomes smaller, so no answer can have named a greater one than it is now
rises_with : (last count : ℕ) (v : Answer) → last ≤ last_after last count v
rises_with last count (accepted first end) = omega arith
rises_with last count (held_up numbers) = omega arith
rises_with last count (failed n) = omega arith
rises_with last count (no_room l) = omega arith

all_rise : (last : ℕ) (cs : List Commit) → last ≤ last_after_all last cs
all_rise last [] = omega arith
all_rise last (c ∷ cs) = let a = rises_with last (count_of c.records) c.answer in let b = all_rise (last_after last (count_of c.records) c.answer) cs in omega (arith, a, b)

full_below : (last end : ℕ) (dead : Option ℕ) (count place : ℕ) (v : Answer) → IsAnswer last dead count v → last ≤ end → IsFullBelow (end + 1) (status_of v)
full_below last end dead count place (accepted first group_last) h low = tt
full_below last end dead count place (held_up numbers) h low = tt
full_below last end dead count place (failed n) h low = tt
full_below last end dead count place (no_room l) h low = let a = h.1 in omega (arith, a, low)

abbrev IsFullBefore : ℕ → Commit → Type 0
IsFullBefore end c = IsFullBelow (end + 1) (status_of c.answer)

all_full_below : (last : ℕ) (dead : Option ℕ) (cs : List Commit) → AreAnswered last dead cs → AllByRecursion (IsFullBefore (last_after_all last cs)) cs
all_full_below last dead [] h = tt
all_full_below last dead (c ∷ cs) h = (
  full_below last (last_after_all last (c ∷ cs)) dead (count_of c.records) (place_of c) c.answer h.0 (all_rise last (c ∷ cs)),
  all_full_below (last_after last (count_of c.records) c.answer) (fault_after dead c.answer) cs h.1,
)

attempts_full_below : (end : ℕ) (cs : List Commit) → AllByRecursion (IsFullBefore end) cs → AreFullBelow (end + 1) (map attempt_of cs)
attempts_full_below end [] h = tt
attempts_full_below end (c ∷ cs) h = (h.0, attempts_full_below end cs h.1)

module _ (start k : ℕ) (cs old : List Commit) (c : Commit) (right : AreAnswered start None cs) (is : commits_of k cs ≡ old ++ c ∷ []) where
  at : Parted (λ (c : Commit). c.client == k) cs old c
  at = parts (λ (c : Commit). c.client == k) cs old c is

  answer : AreAnswered start None at.front × IsAnswer (last_after_all start at.front) (fault_after_all None at.front) (count_of c.records) c.answer
  answer = answered_at start None at.front c at.rest (subst (AreAnswered start None) at.split right)

  is_alive : fault_after_all None at.front ≡ None → knows_log_failed (map attempt_of old) ≡ false
  is_alive live = knows_none old (subst (AllByRecursion (λ (c : Commit). is_faulted (status_of c.answer) ≡ false)) at.own_front (all_filter (λ (c : Commit). is_faulted (status_of c.answer) ≡ false) (λ (c : Commit). c.client == k) at.front (all_live at.front live)))

  are_up_to : AreUpTo (mine_after k [] old) (last_after_all start at.front)
  are_up_to =
      let h = entries_history start None [] at.front answer.0 in
      let own_is : entries_of_client k (entries_of at.front) ≡ mine_after k [] old = entries_own k [] [] at.front refl ∙ ap (mine_after k []) at.own_front in
      subst (AllByRecursion (λ (e : Entry). last_of e ≤ last_after_all start at.front)) own_is
      (all_filter (λ (e : Entry). last_of e ≤ last_after_all start at.front) (λ (e : Entry). e.client == k) (entries_of at.front)
      (subst (λ n. AllByRecursion (λ (e : Entry). last_of e ≤ n) (entries_of at.front)) h.1 (up_to start (entries_of at.front) h.0)))

  are_full_below : AreFullBelow (last_after_all start at.front + 1) (map attempt_of old)
  are_full_below = attempts_full_below (last_after_all start at.front) old
      (subst (AllByRecursion (IsFullBefore (last_after_all start at.front))) at.own_front (all_filter (IsFullBefore (last_after_all start at.front)) (λ (c : Commit). c.client == k) at.front (all_full_below start None at.front answer.0)))

-- a client's own entries, with one more commit
mine_more : (k : ℕ) (mine : List Entry) (old : List Commit) (c : Commit) → mine_after k mine (old ++ c ∷ []) ≡ mine_after k mine old ++ entry_with k (mine ++ mine_after k mine old) c c.answer
mine_more k mine [] c = append-nil (entry_with k mine c c.answer) ∙ ap (λ m. entry_with k m c c.answer) (sym (append-nil mine))
mine_more k mine (o ∷ old) c =
    let e = entry_with k mine o o.answer in
    ap (λ l. e ++ l) (mine_more k (mine ++ e) old c ∙ ap (λ m. mine_after k (mine ++ e) old ++ entry_with k m c c.answer) (append_assoc mine e (mine_after k (mine ++ e) old)))
    ∙ sym (append_assoc e (mine_after k (mine ++ e) old) (entry_with k (mine ++ (e ++ mine_after k (mine ++ e) old)) c c.answer))

handled_more : (old : List Commit) (c : Commit) → map attempt_of (old ++ c ∷ []) ≡ map attempt_of old ++ attempt_of c ∷ []
handled_more [] c = refl
handled_more (o ∷ old) c = ap (λ l. attempt_of o ∷ l) (handled_more old c)

-- a client's attempts, with one more commit, which has this answer
handled_as : (old : List Commit) (c : Commit) (v : Answer) → c.answer ≡ v → map attempt_of (old ++ c ∷ []) ≡ map attempt_of old ++ record { records = c.records; options = c.options; status = status_of v; place = place_of c; decided = decided_of c } ∷ []
handled_as old c v is = handled_more old c ∙ ap (λ w. map attempt_of old ++ record { records = c.records; options = c.options; status = status_of w; place = place_of c; decided = decided_of c } ∷ []) is

-- the ends of a client's groups, with one more commit, which has this answer
ends_as : (old : List Commit) (c : Commit) (v : Answer) → c.answer ≡ v → ends_of (old ++ c ∷ []) ≡ ends_of old ++ end_with v
ends_as old c v is = flat_map-append (λ (d : Commit). end_with d.answer) old (c ∷ []) ∙ ap (λ l. ends_of old ++ l) (append-nil (end_with c.answer) ∙ ap end_with is)

ends_same : (old : List Commit) (c : Commit) (v : Answer) → c.answer ≡ v → end_with v ≡ [] → ends_of (old ++ c ∷ []) ≡ ends_of old
ends_same old c v is none = ends_as old c v is ∙ (ap (λ l. ends_of old ++ l) none ∙ append-nil (ends_of old))

-- a client's entries stay the same with one more commit, whose answer gives no run
mine_same : (k : ℕ) (old : List Commit) (c : Commit) (v : Answer) → c.answer ≡ v → entry_with k (mine_after k [] old) c v ≡ [] → mine_after k [] (old ++ c ∷ []) ≡ mine_after k [] old
mine_same k old c v is none = mine_more k [] old c ∙ (ap (λ w. mine_after k [] old ++ entry_with k (mine_after k [] old) c w) is ∙ (ap (λ es. mine_after k [] old ++ es) none ∙ append-nil (mine_after k [] old)))

-- what a client knows of the log after one more answer
pub logged_more : (sights : List LogSight) (s : LogSight) → logged_by (sights ++ s ∷ []) ≡ s.made
logged_more sights s = fold-append (λ knew (t : LogSight). t.made) 0 sights (s ∷ [])

batches_more : (knew : ℕ) (sights : List LogSight) (s : LogSight) → batches_of knew (sights ++ s ∷ []) ≡ batches_of knew sights ++ batch_with (fold (λ n (t : LogSight). t.made) knew sights) s.made s.batch
batches_more knew [] s = append-nil (batch_with knew s.made s.batch)
batches_more knew (t ∷ sights) s =
    ap (λ l. batch_with knew t.made t.batch ++ l) (batches_more t.made sights s) ∙ sym (append_assoc (batch_with knew t.made t.batch) (batches_of t.made sights) (batch_with (fold (λ n (u : LogSight). u.made) t.made sights) s.made s.batch))

module _ (start : ℕ) (opening : Pairs) (k : ℕ) (old : List Commit) (sights : List LogSight) (answers : List ReadAnswer) (c : Commit) (s : LogSight) (before after : List (List MemberVersions)) (sees : Begins before after) (known now : List ControllerCall) (more : SeesMore k known now)
    (free : holds_stop (tokens_of k known) ≡ false) (within : IsWithinCall (length known) (length now) (place_of c) (decided_of c)) (said : last_of_groups start before ≤ said_in (take (place_of c + 1) now)) (logged : logged_by sights ≤ s.made) where
  abbrev was : Account
  was = account_of start opening k old sights answers before known

  abbrev becomes : Account
  becomes = account_of start opening k (old ++ c ∷ []) (sights ++ s ∷ []) answers after now

  saw : Sees was.seen becomes.seen
  saw = record {
    start = refl;
    opening = refl;
    published = sees;
    controller_calls = more.begins;
    log_reads = prefix_self _;
    logged = (let is = logged_more sights s in omega (arith, is, logged));
    batches = (batch_with (logged_by sights) s.made s.batch, sym (batches_more 0 sights s));
  }

  pub refused_held_up : (numbers : Look) (by moment bytes : ℕ) → c.answer ≡ held_up numbers → c.options.no_slowdown ≡ true → HoldUp numbers
      → IsLater now (length known) (place_of c) (record { client = by; action = delay moment bytes; told = Some numbers })
      → IsRefused was c.records c.options (no.Incomplete numbers.stops numbers.delays numbers.wait) becomes
  refused_held_up numbers by moment bytes held_is impatient hold later = record {
    fate = fate_at (place_of c) (decided_of c) slowed;
    may = (impatient, (by, moment, bytes, later, slice_get_within now (place_of c) (record { client = by; action = delay moment bytes; told = Some numbers }) later.there, hold, refl));
    kept_out = not_kept_out (tokens_of k known) _ free;
    in_group = record { asked = within; said = said };
    tokens = refl;
    number = refl;
    mine = mine_same k old c (held_up numbers) held_is refl;
    ends = ends_same old c (held_up numbers) held_is refl;
    asked = more.tokens;
    attempts = handled_as old c (held_up numbers) held_is;
    read_faults = refl;
    seen = saw;
  }

  -- the batch is one more of those that went into the log
  in_log : (first : ℕ) → s.batch ≡ Some (record { first = first; records = c.records; sync = c.options.sync }) → IsLogged was becomes c.records c.options.sync first
  in_log first is =
      batches_more 0 sights s ∙ ap (λ l. batches_of 0 sights ++ l) (ap (batch_with (logged_by sights) s.made) is ∙ ap (λ n. record { knew = logged_by sights; knows = n; first = first; records = c.records; sync = c.options.sync } ∷ []) (sym (logged_more sights s)))

  pub refused_failed : (n : ℕ) → c.answer ≡ failed n → IsRefused was c.records c.options (no.LogFault n) becomes
  refused_failed n failed_is = record {
    fate = fate_at (place_of c) (decided_of c) (faulted n);
    may = refl;
    kept_out = not_kept_out (tokens_of k known) _ free;
    in_group = record { asked = within; said = said };
    tokens = refl;
    number = refl;
    mine = mine_same k old c (failed n) failed_is refl;
    ends = ends_same old c (failed n) failed_is refl;
    asked = more.tokens;
    attempts = handled_as old c (failed n) failed_is;
    read_faults = refl;
    seen = saw;
  }

  module _ (cs : List Commit) (right : AreAnswered start None cs) (is : commits_of k cs ≡ old ++ c ∷ []) where
    pub wrote : (settings : Settings) (first end : ℕ) → c.answer ≡ accepted first end → early_refusal settings.families settings.batch_bytes (holds_stop (tokens_of k known)) c.records c.options ≡ None → last_of_groups start before < first → end ≤ last_of_groups start after
        → ShowsBatch c first s → shown_by_tokens (take (decided_of c) now) < first → Wrote settings was c.records c.options first end becomes
    wrote settings first end given_is passed above reached shows unseen =
        let v = subst (IsAnswer (last_after_all start (at start k cs old c right is).front) (fault_after_all None (at start k cs old c right is).front) (count_of c.records)) given_is (answer start k cs old c right is).1 in
        record {
          number = refl;
          mine = mine_more k [] old c ∙ ap (λ w. mine_after k [] old ++ entry_with k (mine_after k [] old) c w) given_is;
          ends = ends_as old c (accepted first end) given_is;
          asked = more.tokens;
          place = place_of c;
          decided = decided_of c;
          attempts = handled_as old c (accepted first end) given_is;
          within_call = within;
          unseen = unseen;
          said = said;
          logged = λ to_log. in_log first (shows to_log);
          read_faults = refl;
          seen = saw;
          tokens = refl;
          some = v.1;
          passed = passed;
          free = free;
          above = above;
          behind = subst (λ n. AreFullBelow n (map attempt_of old)) (sym v.2) (are_full_below start k cs old c right is);
          alive = is_alive start k cs old c right is v.0;
          within = (let a = v.2 in let b = v.4 in omega (arith, a, b));
          reached = reached;
        }

    pub refused_full : (l : ℕ) → c.answer ≡ no_room l → last_of_groups start before ≤ l → IsRefused was c.records c.options (no.SequenceFull l) becomes
    refused_full l full_is low =
        let v = subst (IsAnswer (last_after_all start (at start k cs old c right is).front) (fault_after_all None (at start k cs old c right is).front) (count_of c.records)) full_is (answer start k cs old c right is).1 in
        record {
          fate = fate_at (place_of c) (decided_of c) (full l);
          may = (
            refl,
            is_alive start k cs old c right is v.0,
            low,
            subst (AreUpTo (mine_after k [] old)) (sym v.1) (are_up_to start k cs old c right is),
            subst (λ m. AreFullBelow (m + 1) (map attempt_of old)) (sym v.1) (are_full_below start k cs old c right is),
            subst (λ m. max_sequence < m + count_of c.records) (sym v.1) v.2,
          );
          kept_out = not_kept_out (tokens_of k known) _ free;
          in_group = record { asked = within; said = said };
          tokens = refl;
          number = refl;
          mine = mine_same k old c (no_room l) full_is refl;
          ends = ends_same old c (no_room l) full_is refl;
          asked = more.tokens;
          attempts = handled_as old c (no_room l) full_is;
          read_faults = refl;
          seen = saw;
        }

-- a client that looked itself made no commit of the batch, and has its refusal from the look
pub refused_looked : (start : ℕ) (opening : Pairs) (k : ℕ) (own : List Commit) (sights : List LogSight) (answers : List ReadAnswer) (records : List Record) (how : WriteOptions) (before after : List (List MemberVersions)) (known now : List ControllerCall) (numbers : Look) → Begins before after
    → holds_stop (tokens_of k known) ≡ true → EndsWith k known look (Some numbers) now → how.no_slowdown ≡ true → HoldUp numbers
    → IsRefused (account_of start opening k own sights answers before known) records how (no.Incomplete numbers.stops numbers.delays numbers.wait) (account_of start opening k own sights answers after now)
refused_looked start opening k own sights answers records how before after known now numbers sees stopping ends impatient hold =
    let last = ends_last k known look (Some numbers) now ends in record {
      fate = None;
      in_group = tt;
      tokens = refl;
      may = (
        impatient,
        (
          k,
          last.place,
          last.is_later,
          slice_get_within now last.place (record { client = k; action = look; told = Some numbers }) last.is_later.there,
          subst (λ b. LooksAway b now k k last.place numbers) (sym stopping) (refl, hold),
        ),
      );
      kept_out = λ held. refl;
      number = refl;
      mine = refl;
      ends = refl;
      asked = ends_tokens k known look (Some numbers) now ends ∙ append-nil (tokens_of k known);
      attempts = refl;
      read_faults = refl;
      seen = record { start = refl; opening = refl; published = sees; controller_calls = ends_begins k known look (Some numbers) now ends; log_reads = prefix_self _; logged = omega arith; batches = prefix_self _ };
    }

-- a client whose commit met a stall made no commit of the batch, and has its refusal from a look, its own or the leader's
pub refused_stalled : (start : ℕ) (opening : Pairs) (k : ℕ) (own : List Commit) (sights : List LogSight) (answers : List ReadAnswer) (records : List Record) (how : WriteOptions) (before after : List (List MemberVersions)) (known now : List ControllerCall) (numbers : Look) (by place : ℕ)
    → Begins before after → SeesMore k known now → holds_stop (tokens_of k known) ≡ false → how.no_slowdown ≡ true → IsLater now (length known) place (record { client = by; action = look; told = Some numbers }) → MetStall now k by place numbers
    → IsRefused (account_of start opening k own sights answers before known) records how (no.Incomplete numbers.stops numbers.delays numbers.wait) (account_of start opening k own sights answers after now)
refused_stalled start opening k own sights answers records how before after known now numbers by place sees more free impatient later met = record {
  fate = None;
  in_group = tt;
  tokens = refl;
  may = (
    impatient,
    (
      by,
      place,
      later,
      slice_get_within now place (record { client = by; action = look; told = Some numbers }) later.there,
      subst (λ b. LooksAway b now k by place numbers) (sym free) met,
    ),
  );
  kept_out = λ held. refl;
  number = refl;
  mine = refl;
  ends = refl;
  asked = more.tokens;
  attempts = refl;
  read_faults = refl;
  seen = record { start = refl; opening = refl; published = sees; controller_calls = more.begins; log_reads = prefix_self _; logged = omega arith; batches = prefix_self _ };
}
