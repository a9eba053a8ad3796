-- Each way in which a leader's work may end keeps the state consistent.
use Rattle.std.proofs.Common.{◌≡◌, ◌≢◌, ◌⊎◌, inl, inr, ℕ, ◌+◌, ◌<◌, ◌≤◌, Bool, true, false, cond, ◌==◌, filter, map, List, [], ◌∷◌, ◌++◌, Option, Some, None, length, refl, ap, sym, ◌∙◌, subst, ⊎_elim, arith, append_assoc, append-nil}
use Rattle.std.specs.Prelude.{flat_map, nat_le, if◌then◌else◌}
use Rattle.std.specs.List.{AllByRecursion, AllZip}
use Rattle.std.proofs.lemmas.List.Elements.{filter-append}
use Rattle.std.proofs.lemmas.Grind.{flat_map-append}
use Rattle.model_base.specs.declared.write.WriteOptions.{WriteOptions}
use Rattle.model_base.specs.Batch.{count_of}
use Rattle.model_base.specs.declared.history.Flag.TheVariants.{Log, NoLog, Sync}
use Rattle.model_base.specs.History.{Entry, IsHistory, RunsFollow, last_sequence, logged_entries, is_logged, flag_of, max_sequence}
use Rattle.model_base.specs.Controller.{ControllerCall, HoldUp, Look}
use Rattle.model_base.specs.LogContents.{GroupCall}
use Rattle.model_base.specs.Groups.{Member}
use Rattle.table_rule.specs.declared.content.MemberVersions.{MemberVersions}
use Rattle.table_rule.specs.Histories.{made_by, versions_in, versions_of, last_of, Begins, Images, In}
use Rattle.table_rule.proofs.Images.{images_more, images_none, images_versions}
use Rattle.engine_rule.specs.Reading.{IsCutAt}
use Rattle.engine_rule.proofs.Reaching.{versions_length}
use Rattle.model_runs.specs.Groups.{has_entries, is_in_log, is_kept_out, leader_syncs}
use Rattle.model_runs.specs.Written.{AreOfOwnClients, WroteEntries, first_of}
use Rattle.model_accounts.specs.Led.{Taken, members_after}
use Rattle.engine_rule.specs.Commits.{Answer, AreAnswered, AreOfClients, Commit, Heard, accepted, held_up, failed, fault_after_all, last_after, last_after_all, no_room}
use Rattle.engine_rule.specs.Asked.{LedGroup, commits_in}
use Rattle.engine_rule.specs.Consistent.{AreConsistent, EndsAreNamed, IsNamed, Publishes}
use Rattle.engine_rule.specs.Entries.{entries_after, entries_of, entry_after, entry_with, versions_made, versions_with}
use Rattle.engine_rule.specs.LogCalls.{AreLostWrites, IsLostWrite, LogsGroup, SyncsFor, WritesBatches, WroteCommits, WroteParts, leader_asks_sync, taken_of}
use Rattle.engine_rule.specs.Plans.{HaveOwnClients, AreLawful, AreLogged, AreUnlogged, ComesAfter, CommitRequest, IsAskedFor, IsWholeGroup, MayNotWait, ProceedsWith, all_failed, all_held_up, answer_with, commit_of_request, batches_from, last_with, last_with_all, commits_of_plan, versions_at, versions_from}
use Rattle.table_rule.specs.Batches.{new_versions, number_from}
use Rattle.engine_rule.proofs.Chains.{answered_append, dead_append, end_append, entries_history, entries_more}
use Rattle.engine_rule.proofs.LoggedGroups.{LogsLed, goes_in, group_at, left_out, made_after, none_made, not_logged, one_logged}
use Rattle.engine_rule.proofs.OneGroup.{OneMoreGroup, all_append, in_groups_failed, in_groups_held_up, in_groups_planned}
use Rattle.engine_rule.proofs.Plans.{planned_answered, planned_batches, planned_clients, planned_dead, planned_end, planned_versions}

zip_append : {A B : Type 0} (R : A → B → Type 0) (xs : List A) (cs : List B) (ys : List A) (ds : List B) → AllZip R xs cs → AllZip R ys ds → AllZip R (xs ++ ys) (cs ++ ds)
zip_append R [] [] ys ds a b = b
zip_append R [] (c ∷ cs) ys ds a b = absurd a
zip_append R (x ∷ xs) [] ys ds a b = absurd a
zip_append R (x ∷ xs) (c ∷ cs) ys ds a b = (a.0, zip_append R xs cs ys ds a.1 b)

none_of : {A B : Type 0} (f : A → B) (xs : List A) → map f xs ≡ [] → xs ≡ []
none_of f [] e = refl
none_of f (x ∷ xs) e = absurd (cc)

some_of : {A B : Type 0} (f : A → B) (xs : List A) → 0 < length (map f xs) → 0 < length xs
some_of f [] h = h
some_of f (x ∷ xs) h = omega arith

-- Flags

logs_flag : (options : WriteOptions) → options.no_log ≡ false → is_logged (flag_of options) ≡ true
logs_flag options e = rw e (by options.sync)
  where
    by : (b : Bool) → is_logged (cond b Sync Log) ≡ true
    by true = refl
    by false = refl

skips_flag : (options : WriteOptions) → options.no_log ≡ true → is_logged (flag_of options) ≡ false
skips_flag options e = rw e refl

syncs_flag : (options : WriteOptions) → flag_of options ≡ Sync → options.sync ≡ true
syncs_flag options e = by options.no_log options.sync e
  where
    by : (n b : Bool) → cond n NoLog (cond b Sync Log) ≡ Sync → b ≡ true
    by true b e = absurd (cc)
    by false true e = refl
    by false false e = absurd (cc)

-- What holds of each request also holds of the entry that it makes
module _ (heard : Heard) (P : WriteOptions → Type 0) where
  entry_at : (mine : List Entry) (a : CommitRequest) (rest : List Entry) (v : Answer) → P a.options → AllByRecursion (λ (e : Entry). (options : WriteOptions) × P options × (e.flag ≡ flag_of options)) rest
      → AllByRecursion (λ (e : Entry). (options : WriteOptions) × P options × (e.flag ≡ flag_of options)) (entry_with a.client mine (commit_of_request heard a v) v ++ rest)
  entry_at mine a rest (accepted first end) h more = ((a.options, h, refl), more)
  entry_at mine a rest (held_up numbers) h more = more
  entry_at mine a rest (failed n) h more = more
  entry_at mine a rest (no_room l) h more = more

  flags_of : (last end : ℕ) (before : List Entry) (requests : List CommitRequest) → AllByRecursion (λ (a : CommitRequest). P a.options) requests → AllByRecursion (λ (e : Entry). (options : WriteOptions) × P options × (e.flag ≡ flag_of options)) (entries_after before (commits_of_plan heard last end requests))
  flags_of last end before [] h = tt
  flags_of last end before (a ∷ requests) h =
      let c = commit_of_request heard a (answer_with last end a.records) in
      entry_at (filter (λ (e : Entry). e.client == a.client) before) a (entries_after (before ++ entry_after before c) (commits_of_plan heard (last_with last a.records) end requests)) (answer_with last end a.records) h.0
      (flags_of (last_with last a.records) end (before ++ entry_after before c) requests h.1)

-- No two entries of a group are of the same client
module _ (heard : Heard) where
  client_at : (P : ℕ → Type 0) (mine : List Entry) (a : CommitRequest) (rest : List Entry) (v : Answer) → P a.client → AllByRecursion (λ (e : Entry). P e.client) rest
      → AllByRecursion (λ (e : Entry). P e.client) (entry_with a.client mine (commit_of_request heard a v) v ++ rest)
  client_at P mine a rest (accepted first end) h more = (h, more)
  client_at P mine a rest (held_up numbers) h more = more
  client_at P mine a rest (failed n) h more = more
  client_at P mine a rest (no_room l) h more = more

  clients_of : (P : ℕ → Type 0) (last end : ℕ) (before : List Entry) (requests : List CommitRequest) → AllByRecursion (λ (a : CommitRequest). P a.client) requests → AllByRecursion (λ (e : Entry). P e.client) (entries_after before (commits_of_plan heard last end requests))
  clients_of P last end before [] h = tt
  clients_of P last end before (a ∷ requests) h =
      let c = commit_of_request heard a (answer_with last end a.records) in
      client_at P (filter (λ (e : Entry). e.client == a.client) before) a (entries_after (before ++ entry_after before c) (commits_of_plan heard (last_with last a.records) end requests)) (answer_with last end a.records) h.0
      (clients_of P (last_with last a.records) end (before ++ entry_after before c) requests h.1)

  own_at : (mine : List Entry) (a : CommitRequest) (rest : List Entry) (v : Answer) → AllByRecursion (λ (e : Entry). a.client ≢ e.client) rest → AreOfOwnClients rest → AreOfOwnClients (entry_with a.client mine (commit_of_request heard a v) v ++ rest)
  own_at mine a rest (accepted first end) others own = (others, own)
  own_at mine a rest (held_up numbers) others own = own
  own_at mine a rest (failed n) others own = own
  own_at mine a rest (no_room l) others own = own

  own_clients : (last end : ℕ) (before : List Entry) (requests : List CommitRequest) → HaveOwnClients requests → AreOfOwnClients (entries_after before (commits_of_plan heard last end requests))
  own_clients last end before [] own = tt
  own_clients last end before (a ∷ requests) own =
      let c = commit_of_request heard a (answer_with last end a.records) in
      let after = before ++ entry_after before c in
      own_at (filter (λ (e : Entry). e.client == a.client) before) a (entries_after after (commits_of_plan heard (last_with last a.records) end requests)) (answer_with last end a.records)
      (clients_of (λ n. a.client ≢ n) (last_with last a.records) end after requests own.0) (own_clients (last_with last a.records) end after requests own.1)

all_logged : (es : List Entry) → AllByRecursion (λ (e : Entry). (options : WriteOptions) × (options.no_log ≡ false) × (e.flag ≡ flag_of options)) es → logged_entries es ≡ es
all_logged [] h = refl
all_logged (e ∷ es) h = let t : is_logged e.flag ≡ true = ap is_logged h.0.2 ∙ logs_flag h.0.0 h.0.1 in rw t (ap (λ l. e ∷ l) (all_logged es h.1))

none_logged : (es : List Entry) → AllByRecursion (λ (e : Entry). (options : WriteOptions) × (options.no_log ≡ true) × (e.flag ≡ flag_of options)) es → logged_entries es ≡ []
none_logged [] h = refl
none_logged (e ∷ es) h = let t : is_logged e.flag ≡ false = ap is_logged h.0.2 ∙ skips_flag h.0.0 h.0.1 in rw t (none_logged es h.1)

all_synced : (sync : Bool) (es : List Entry) → AllByRecursion (λ (e : Entry). (options : WriteOptions) × (options.sync ≡ true → sync ≡ true) × (e.flag ≡ flag_of options)) es → AllByRecursion (λ (e : Entry). e.flag ≡ Sync → sync ≡ true) es
all_synced sync [] h = tt
all_synced sync (e ∷ es) h = ((λ is. h.0.1 (syncs_flag h.0.0 (sym h.0.2 ∙ is))), all_synced sync es h.1)

-- The log's calls

-- the log's parts, which go by the groups, and are cut wherever one of these commits says that its group ends
abbrev CutParts : ℕ → List Commit → List LedGroup → List Entry → List GroupCall → Type 0
CutParts start cs groups es calls = (w : WroteParts es calls) × ((at : ℕ) → IsNamed cs at → IsCutAt start es w.parts at) × LogsLed groups w.parts calls

abbrev WroteCut : ℕ → ℕ → List LedGroup → List Commit → Option ℕ → ℕ → List GroupCall → Type 0
WroteCut start group_bytes groups commits fault last calls =
    (w : WroteCommits group_bytes groups commits fault last calls) × ((at : ℕ) → IsNamed commits at → IsCutAt start (entries_of commits) w.parts.parts at)

-- more entries and parts come behind
cut_more : (start at : ℕ) (es new : List Entry) (parts more : List (List Entry)) → IsCutAt start es parts at → IsCutAt start (es ++ new) (parts ++ more) at
cut_more start at es new parts more c = record {
  front = c.front;
  is_front = record { rest = c.is_front.rest ++ new; split = ap (λ l. l ++ new) c.is_front.split ∙ append_assoc c.front c.is_front.rest new; ends = c.is_front.ends };
  own = c.own;
  more = c.more ++ more;
  parts_are = ap (λ l. l ++ more) c.parts_are ∙ append_assoc c.own c.more more;
  logged = c.logged;
}

-- they are cut behind all
cut_whole : (start at : ℕ) (es : List Entry) (parts : List (List Entry)) → at ≡ last_sequence start es → flat_map (λ part. part) parts ≡ logged_entries es → IsCutAt start es parts at
cut_whole start at es parts ends logged = record {
  front = es;
  is_front = record { rest = []; split = sym (append-nil es); ends = ends };
  own = parts;
  more = [];
  parts_are = sym (append-nil parts);
  logged = logged;
}

-- one more group, which made no call
no_more_calls : (start : ℕ) (cs : List Commit) (groups : List LedGroup) (g : LedGroup) (old : List Entry) (calls : List GroupCall) → commits_in groups ≡ cs → ((before : List Taken) → is_in_log (group_at before g, made_after cs g) ≡ false)
    → logged_entries (made_after cs g) ≡ [] → CutParts start cs groups old calls → CutParts start cs (groups ++ g ∷ []) (old ++ made_after cs g) calls
no_more_calls start cs groups g old calls cut out none k = (
  record {
    parts = k.0.parts;
    cut = k.0.cut ∙ (sym (append-nil (logged_entries old)) ∙ ((λ i. logged_entries old ++ sym none i) ∙ sym (filter-append (λ (e : Entry). is_logged e.flag) old (made_after cs g))));
    runs = k.0.runs;
    each = k.0.each;
  },
  (λ at is. subst (λ (ps : List (List Entry)). IsCutAt start (old ++ made_after cs g) ps at) (append-nil k.0.parts) (cut_more start at old (made_after cs g) k.0.parts [] (k.1 at is))),
  not_logged groups g cs cut k.0.parts calls k.2 out,
)

first_is : (last : ℕ) (es : List Entry) → IsHistory last es → 0 < length es → first_of es ≡ Some (last + 1)
first_is last [] h some = absurd (omega arith)
first_is last (e ∷ es) h some = ap Some h.0.first

runs_follow : (last : ℕ) (es : List Entry) → IsHistory last es → RunsFollow es
runs_follow last [] h = tt
runs_follow last (e ∷ es) h = h.1

-- one more group, which made one call
module _ (start last : ℕ) (cs : List Commit) (groups : List LedGroup) (g : LedGroup) (old : List Entry) (calls : List GroupCall) (c : GroupCall) (cut : commits_in groups ≡ cs) where
  abbrev part : List Entry
  part = made_after cs g

  one_more_call : ((before : List Taken) → is_in_log (group_at before g, part) ≡ true) → ((before : List Taken) → c.sync ≡ leader_syncs (members_after before (map taken_of g.commits)))
      → IsHistory last part → logged_entries part ≡ part → 0 < length part → c.first ≡ last + 1 → c.batches ≡ map (λ (e : Entry). e.records) part
      → AllByRecursion (λ (e : Entry). e.flag ≡ Sync → c.sync ≡ true) part → c.failed ≡ None → AreOfOwnClients part → CutParts start cs groups old calls → CutParts start cs (groups ++ g ∷ []) (old ++ part) (calls ++ c ∷ [])
  one_more_call within by_leader h all some first batches synced ok own k = (
    record {
      parts = k.0.parts ++ part ∷ [];
      cut = flat_map-append (λ part. part) k.0.parts (part ∷ []) ∙ ((λ i. k.0.cut i ++ append-nil part i) ∙ ((λ i. logged_entries old ++ sym all i) ∙ sym (filter-append (λ (e : Entry). is_logged e.flag) old part)));
      runs = all_append RunsFollow k.0.parts (part ∷ []) k.0.runs (runs_follow last part h, tt);
      each = zip_append WroteEntries k.0.parts calls (part ∷ []) (c ∷ []) k.0.each (record { some = first_is last part h some ∙ ap Some (sym first); apart = own; batches = batches; synced = synced; ok = ok }, tt);
    },
    (λ at is. cut_more start at old part k.0.parts (part ∷ []) (k.1 at is)),
    one_logged groups g cs cut k.0.parts calls k.2 c within by_leader,
  )

-- What a group's leader asked for

module _ (heard : Heard) (last end : ℕ) (before : List Taken) where
  abbrev members : List CommitRequest → List Member
  members requests = members_after before (map taken_of (commits_of_plan heard last end requests))

  by_leader : (requests : List CommitRequest) → leader_asks_sync requests ≡ leader_syncs (members requests)
  by_leader [] = refl
  by_leader (q ∷ requests) = refl

  kept_out : (requests : List CommitRequest) → 0 < length requests → AreUnlogged requests → is_kept_out (members requests) ≡ true
  kept_out [] some h = absurd (omega (arith, some))
  kept_out (q ∷ requests) some h = h.0

  kept_in : (requests : List CommitRequest) → AreLogged requests → is_kept_out (members requests) ≡ false
  kept_in [] h = refl
  kept_in (q ∷ requests) h = h.0

some_entries : (es : List Entry) → 0 < length es → has_entries es ≡ true
some_entries [] some = absurd (omega (arith, some))
some_entries (e ∷ es) some = refl

-- Which ends are named

in_front : {A : Type 0} (x : A) (xs ys : List A) → In x xs → In x (xs ++ ys)
in_front x [] ys h = absurd h
in_front x (z ∷ xs) ys h = ⊎_elim (λ (e : z ≡ x). inl e) (λ (t : In x xs). inr (in_front x xs ys t)) h

in_rest : {A : Type 0} (x : A) (xs ys : List A) → In x ys → In x (xs ++ ys)
in_rest x [] ys h = h
in_rest x (z ∷ xs) ys h = inr (in_rest x xs ys h)

in_either : {A : Type 0} (x : A) (xs ys : List A) → In x (xs ++ ys) → In x xs ⊎ In x ys
in_either x [] ys h = inr h
in_either x (z ∷ xs) ys h = ⊎_elim (λ (e : z ≡ x). inl (inl e)) (λ (t : In x (xs ++ ys)). ⊎_elim (λ (a : In x xs). inl (inr a)) (λ (b : In x ys). inr b) (in_either x xs ys t)) h

pub named_more : (cs ds : List Commit) (at : ℕ) → IsNamed cs at → IsNamed (cs ++ ds) at
named_more cs ds at n = (n.0, n.1, in_front n.0 cs ds n.2, n.3)

named_behind : (cs ds : List Commit) (at : ℕ) → IsNamed ds at → IsNamed (cs ++ ds) at
named_behind cs ds at n = (n.0, n.1, in_rest n.0 cs ds n.2, n.3)

named_in : (cs ds : List Commit) (at : ℕ) → IsNamed (cs ++ ds) at → IsNamed cs at ⊎ IsNamed ds at
named_in cs ds at n = ⊎_elim (λ (a : In n.0 cs). inl (n.0, n.1, a, n.3)) (λ (b : In n.0 ds). inr (n.0, n.1, b, n.3)) (in_either n.0 cs ds n.2)

begins_one : {A : Type 0} (y x : A) (shown more : List A) → x ∷ [] ≡ y ∷ (shown ++ more) → y ∷ shown ≡ x ∷ []
begins_one y x [] more e = ap (λ z. z ∷ []) (let head : y ≡ x = cc e in head)
begins_one y x (z ∷ shown) more e = absurd (let tail : [] ≡ z ∷ (shown ++ more) = cc e in cc tail)

-- what begins a list with one more element begins the list, or is all of it
pub begins_snoc : {A : Type 0} (shown xs : List A) (x : A) → Begins shown (xs ++ x ∷ []) → Begins shown xs ⊎ (shown ≡ xs ++ x ∷ [])
begins_snoc [] xs x b = inl (xs, refl)
begins_snoc (y ∷ shown) [] x b = inr (begins_one y x shown b.0 b.1)
begins_snoc (y ∷ shown) (z ∷ xs) x b =
    let head : z ≡ y = cc b.1 in let tail : xs ++ x ∷ [] ≡ shown ++ b.0 = cc b.1 in
    ⊎_elim
    (λ (t : Begins shown xs). inl (t.0, (λ i. head i ∷ t.1 i)))
    (λ (t : shown ≡ xs ++ x ∷ []). inr (λ i. sym head i ∷ t i))
    (begins_snoc shown xs x (b.0, tail))

shown_first : (start : ℕ) (shown : List (List MemberVersions)) → Begins shown [] → last_of start shown ≡ start
shown_first start [] b = omega arith
shown_first start (g ∷ shown) b = absurd (let e : [] ≡ g ∷ (shown ++ b.0) = b.1 in cc)

-- A group got runs
module _ (start clients group_bytes : ℕ) (asked known went : List ControllerCall) (cs : List Commit) (last : ℕ) (published : List (List MemberVersions)) (calls : List GroupCall) (k : AreConsistent start clients group_bytes asked cs last None published calls) (requests : List CommitRequest) (lawful : AreLawful clients requests)
    (numbers : Look) (whole : IsWholeGroup group_bytes requests) (is_asked : IsAskedFor requests numbers known) (comes : ComesAfter asked known) (proceeds : ProceedsWith requests numbers known went) where
  abbrev this_heard : Heard
  this_heard = record { known = known; went = went }

  abbrev end : ℕ
  end = last_with_all last requests

  abbrev new : List Commit
  new = commits_of_plan this_heard last end requests

  new_entries : List Entry
  new_entries = entries_after (entries_of cs) new

  answered_new : AreAnswered last None new
  answered_new = planned_answered this_heard clients last end requests lawful (omega arith)

  history_new : IsHistory last new_entries
  unfolding new_entries
  history_new = (entries_history last None (entries_of cs) new answered_new).0

  batches_are : map (λ (e : Entry). e.records) new_entries ≡ batches_from last requests
  unfolding new_entries
  batches_are = planned_batches this_heard last end (entries_of cs) requests

  -- an answer of the group that names an end names the group's end; and one does, where the group has versions
  named_by : (at l : ℕ) (b : Bool) (first : ℕ) → (if b then accepted (l + 1) end else no_room l) ≡ accepted first at → at ≡ end
  named_by at l true first e = cc
  named_by at l false first e = absurd (cc)

  named_end : (at l : ℕ) (qs : List CommitRequest) → IsNamed (commits_of_plan this_heard l end qs) at → at ≡ end
  named_end at l [] n = absurd n.2
  named_end at l (a ∷ qs) n =
      let c = commit_of_request this_heard a (answer_with l end a.records) in
      ⊎_elim
      (λ (e : c ≡ n.0). named_by at l (nat_le (l + count_of a.records) max_sequence) n.1 (ap (λ (x : Commit). x.answer) e ∙ n.3))
      (λ (t : In n.0 (commits_of_plan this_heard (last_with l a.records) end qs)). named_end at (last_with l a.records) qs (n.0, n.1, t, n.3))
      n.2

  some_named : (l : ℕ) (qs : List CommitRequest) → (versions_from l qs ≡ []) ⊎ IsNamed (commits_of_plan this_heard l end qs) end
  some_named l [] = inl refl
  some_named l (a ∷ qs) = by (nat_le (l + count_of a.records) max_sequence) refl (some_named (last_with l a.records) qs)
    where
      by : (b : Bool) → nat_le (l + count_of a.records) max_sequence ≡ b → (versions_from (last_with l a.records) qs ≡ []) ⊎ IsNamed (commits_of_plan this_heard (last_with l a.records) end qs) end
          → (versions_from l (a ∷ qs) ≡ []) ⊎ IsNamed (commits_of_plan this_heard l end (a ∷ qs)) end
      by true e later = inr (commit_of_request this_heard a (answer_with l end a.records), l + 1, inl refl, ap (λ (b : Bool). if b then accepted (l + 1) end else no_room l) e)
      by false e later =
          let none : versions_at l a.records ≡ [] = ap (λ (b : Bool). if b then number_from (l + 1) (new_versions a.records) else []) e in
          ⊎_elim
          (λ (t : versions_from (last_with l a.records) qs ≡ []). inl (λ i. none i ++ t i))
          (λ (n : IsNamed (commits_of_plan this_heard (last_with l a.records) end qs) end). inr (n.0, n.1, inr n.2, n.3))
          later

  -- the group's end is the last sequence given
  all_end : last_after_all start (cs ++ new) ≡ end
  all_end = end_append start cs new ∙ (ap (λ n. last_after_all n new) (sym k.last_is) ∙ planned_end this_heard last end requests)

  answered_all : AreAnswered start None (cs ++ new)
  answered_all = answered_append start None cs new k.answered (subst (λ (z : ℕ × Option ℕ). AreAnswered z.0 z.1 new) (λ i. (k.last_is i, k.fault_is i)) answered_new)

  -- the log's parts, with the group's own
  abbrev old_groups : List LedGroup
  old_groups = k.in_groups.groups

  abbrev this_group : LedGroup
  this_group = record { known = known; went = went; commits = new }

  no_call : (calls' : List GroupCall) → calls' ≡ calls → AreUnlogged requests ⊎ (batches_from last requests ≡ []) → CutParts start cs old_groups (entries_of cs) calls → CutParts start cs (old_groups ++ this_group ∷ []) (entries_of cs ++ new_entries) calls'
  unfolding new_entries
  no_call calls' same (inl u) old =
      subst (CutParts start cs (old_groups ++ this_group ∷ []) (entries_of cs ++ new_entries)) (sym same) (no_more_calls start cs old_groups this_group (entries_of cs) calls k.in_groups.cut
      (λ before. left_out (group_at before this_group) new_entries (kept_out this_heard last end before requests whole.some u))
      (none_logged new_entries (flags_of this_heard (λ options. options.no_log ≡ true) last end (entries_of cs) requests u)) old)
  no_call calls' same (inr u) old =
      let none : new_entries ≡ [] = none_of (λ (e : Entry). e.records) new_entries (batches_are ∙ u) in
      subst (CutParts start cs (old_groups ++ this_group ∷ []) (entries_of cs ++ new_entries)) (sym same) (no_more_calls start cs old_groups this_group (entries_of cs) calls k.in_groups.cut
      (λ before. none_made (group_at before this_group) new_entries none) (ap logged_entries none) old)

  a_call : (calls' : List GroupCall) (c : GroupCall) → calls' ≡ calls ++ c ∷ [] → WritesBatches last requests c → SyncsFor requests c.sync → c.failed ≡ None → CutParts start cs old_groups (entries_of cs) calls
      → CutParts start cs (old_groups ++ this_group ∷ []) (entries_of cs ++ new_entries) calls'
  unfolding new_entries
  a_call calls' c one writes syncs ok old =
      let same : c.batches ≡ map (λ (e : Entry). e.records) new_entries = writes.batches ∙ sym batches_are in
      let some : 0 < length new_entries = some_of (λ (e : Entry). e.records) new_entries (subst (λ l. 0 < length l) same writes.some) in
      subst (CutParts start cs (old_groups ++ this_group ∷ []) (entries_of cs ++ new_entries)) (sym one) (one_more_call start last cs old_groups this_group (entries_of cs) calls c k.in_groups.cut
      (λ before. goes_in (group_at before this_group) new_entries (kept_in this_heard last end before requests writes.to_log) (some_entries new_entries some))
      (λ before. writes.sync ∙ by_leader this_heard last end before requests)
      history_new (all_logged new_entries (flags_of this_heard (λ options. options.no_log ≡ false) last end (entries_of cs) requests writes.to_log)) some writes.first same
      (all_synced c.sync new_entries (flags_of this_heard (λ options. options.sync ≡ true → c.sync ≡ true) last end (entries_of cs) requests syncs)) ok (own_clients this_heard last end (entries_of cs) requests whole.of_others) old)

  written_new : (calls' : List GroupCall) → LogsGroup last requests calls calls' → WroteCut start group_bytes (old_groups ++ this_group ∷ []) (cs ++ new) None end calls'
  unfolding new_entries
  written_new calls' logs =
      let w = k.written in
      let all_good : calls ≡ w.worked = w.both ∙ ((λ i. w.worked ++ w.are_lost i) ∙ append-nil w.worked) in
      let old : CutParts start cs old_groups (entries_of cs) calls = subst (CutParts start cs old_groups (entries_of cs)) (sym all_good) (w.parts, k.cuts, w.by_groups) in
      let now : CutParts start cs (old_groups ++ this_group ∷ []) (entries_of cs ++ new_entries) calls' = ⊎_elim
      (λ (t : (calls' ≡ calls) × (AreUnlogged requests ⊎ (batches_from last requests ≡ []))). no_call calls' t.0 t.1 old)
      (λ (t : (c : GroupCall) × (calls' ≡ calls ++ c ∷ []) × WritesBatches last requests c × SyncsFor requests c.sync × (c.failed ≡ None)). a_call calls' t.0 t.1 t.2 t.3 t.4 old)
      logs in
      let all : CutParts start cs (old_groups ++ this_group ∷ []) (entries_of (cs ++ new)) calls' = subst (λ es. CutParts start cs (old_groups ++ this_group ∷ []) es calls') (sym (entries_more cs new)) now in
      let whole_history : last_sequence start (entries_of (cs ++ new)) ≡ end = (entries_history start None [] (cs ++ new) answered_all).1 ∙ all_end in (
        record { worked = calls'; lost = []; both = sym (append-nil calls'); parts = all.0; by_groups = all.2; are_lost = refl },
        (λ at is. ⊎_elim
            (λ (a : IsNamed cs at). all.1 at a)
            (λ (b : IsNamed new at). cut_whole start at (entries_of (cs ++ new)) all.0.parts (named_end at last requests b ∙ sym whole_history) all.0.cut)
            (named_in cs new at is)),
      )

  -- what is published then
  named_new : (published' : List (List MemberVersions)) → Publishes (versions_from last requests) published published' → Images versions_made (cs ++ new) published' → EndsAreNamed start (cs ++ new) published'
  named_new published' publishes images shown begins = ⊎_elim
      (λ (t : (versions_from last requests ≡ []) × (published' ≡ published)). was shown (subst (Begins shown) t.1 begins))
      (λ (t : (g : List MemberVersions) × (published' ≡ published ++ g ∷ []) × (versions_in g ≡ versions_from last requests)). ⊎_elim
      (λ (b : Begins shown published). was shown b)
      (λ (all : shown ≡ published ++ t.0 ∷ []).
      let ends : last_of start shown ≡ end = ap (last_of start) (all ∙ sym t.1) ∙ (ap (λ vs. start + length vs) (sym (images_versions versions_made (cs ++ new) published' images)) ∙ (versions_length start None (cs ++ new) answered_all ∙ all_end)) in
      ⊎_elim
      (λ (none : versions_from last requests ≡ []).
      let same : last_of start shown ≡ last_of start published = ap (last_of start) all ∙ (ap (λ vs. start + length vs) (versions_behind published t.0) ∙ ap (λ vs. start + length (versions_of published ++ vs)) (t.2 ∙ none) ∙ ap (λ vs. start + length vs) (append-nil (versions_of published))) in
      subst (λ n. (n ≡ start) ⊎ IsNamed (cs ++ new) n) (sym same) (was published ([], sym (append-nil published))))
      (λ (n : IsNamed new end). inr (subst (IsNamed (cs ++ new)) (sym ends) (named_behind cs new end n)))
      (some_named last requests))
      (begins_snoc shown published t.0 (subst (Begins shown) t.1 begins)))
      publishes
    where
      was : (s : List (List MemberVersions)) → Begins s published → (last_of start s ≡ start) ⊎ IsNamed (cs ++ new) (last_of start s)
      was s b = ⊎_elim (λ (e : last_of start s ≡ start). inl e) (λ (n : IsNamed cs (last_of start s)). inr (named_more cs new (last_of start s) n)) (k.named s b)

      versions_behind : (gs : List (List MemberVersions)) (g : List MemberVersions) → versions_of (gs ++ g ∷ []) ≡ versions_of gs ++ versions_in g
      versions_behind [] g = append-nil (versions_in g)
      versions_behind (x ∷ gs) g = ap (λ l. versions_in x ++ l) (versions_behind gs g) ∙ sym (append_assoc (versions_in x) (versions_of gs) (versions_in g))

  images_new : (published' : List (List MemberVersions)) → Publishes (versions_from last requests) published published' → Images versions_made (cs ++ new) published'
  images_new published' publishes = ⊎_elim
      (λ (t : (versions_from last requests ≡ []) × (published' ≡ published)). subst (Images versions_made (cs ++ new)) (sym t.1) (images_none versions_made cs new published k.images (planned_versions this_heard last end requests ∙ t.0)))
      (λ (t : (g : List MemberVersions) × (published' ≡ published ++ g ∷ []) × (versions_in g ≡ versions_from last requests)). subst (Images versions_made (cs ++ new)) (sym t.1) (images_more versions_made cs new published t.0 k.images (planned_versions this_heard last end requests ∙ sym t.2)))
      publishes

  pub consistent_accepted : (published' : List (List MemberVersions)) (calls' : List GroupCall) → Publishes (versions_from last requests) published published' → LogsGroup last requests calls calls' → AreConsistent start clients group_bytes went (cs ++ new) end None published' calls'
  consistent_accepted published' calls' publishes logs =
      let images = images_new published' publishes in
      let more = in_groups_planned start group_bytes cs asked known numbers k.in_groups requests whole is_asked comes went proceeds last k.last_is in
      let w = subst (λ gs. WroteCut start group_bytes gs (cs ++ new) None end calls') (sym more.1) (written_new calls' logs) in record {
        answered = answered_all;
        of_clients = all_append (λ (c : Commit). (1 ≤ c.client) × (c.client ≤ clients)) cs new k.of_clients (planned_clients this_heard clients last end requests lawful);
        last_is = sym all_end;
        fault_is = sym (dead_append None cs new ∙ (ap (λ d. fault_after_all d new) (sym k.fault_is) ∙ planned_dead this_heard last end None requests));
        in_groups = more.0;
        images = images;
        written = w.0;
        named = named_new published' publishes images;
        cuts = w.1;
      }

-- All members of a group got the same answer, and no runs

abbrev alike : Heard → Answer → List CommitRequest → List Commit
alike heard v requests = map (λ (q : CommitRequest). commit_of_request heard q v) requests

abbrev led_alike : Heard → Answer → List CommitRequest → LedGroup
led_alike heard v requests = record { known = heard.known; went = heard.went; commits = alike heard v requests }

record GivesNoRun (v : Answer) : Type 0 where
  last : (n count : ℕ) → last_after n count v ≡ n
  entries : (client : ℕ) (mine : List Entry) (c : Commit) → entry_with client mine c v ≡ []
  versions : (c : Commit) → versions_with c v ≡ []
  names : (first at : ℕ) → v ≡ accepted first at → ⊥

held_up_no_run : (numbers : Look) → GivesNoRun (held_up numbers)
held_up_no_run numbers = record { last = λ n count. refl; entries = λ client mine c. refl; versions = λ c. refl; names = λ first at e. absurd (cc) }

failed_no_run : (n : ℕ) → GivesNoRun (failed n)
failed_no_run n = record { last = λ m count. refl; entries = λ client mine c. refl; versions = λ c. refl; names = λ first at e. absurd (cc) }

module _ (heard : Heard) (v : Answer) (none : GivesNoRun v) where
  alike_end : (last : ℕ) (requests : List CommitRequest) → last_after_all last (alike heard v requests) ≡ last
  alike_end last [] = refl
  alike_end last (a ∷ requests) = ap (λ n. last_after_all n (alike heard v requests)) (none.last last (count_of a.records)) ∙ alike_end last requests

  alike_clients : (clients : ℕ) (requests : List CommitRequest) → AreLawful clients requests → AreOfClients clients (alike heard v requests)
  alike_clients clients [] h = tt
  alike_clients clients (a ∷ requests) h = ((h.0.1, h.0.2), alike_clients clients requests h.1)

  alike_entries : (before : List Entry) (requests : List CommitRequest) → entries_after before (alike heard v requests) ≡ []
  alike_entries before [] = refl
  alike_entries before (a ∷ requests) =
      let c = commit_of_request heard a v in
      let now : entry_after before c ≡ [] = none.entries a.client (filter (λ (e : Entry). e.client == a.client) before) c in
      λ i. now i ++ alike_entries (before ++ entry_after before c) requests i

  alike_versions : (requests : List CommitRequest) → made_by versions_made (alike heard v requests) ≡ []
  alike_versions [] = refl
  alike_versions (a ∷ requests) = λ i. none.versions (commit_of_request heard a v) i ++ alike_versions requests i

  same_entries : (cs : List Commit) (requests : List CommitRequest) → entries_of (cs ++ alike heard v requests) ≡ entries_of cs
  same_entries cs requests = entries_more cs (alike heard v requests) ∙ ((λ i. entries_of cs ++ alike_entries (entries_of cs) requests i) ∙ append-nil (entries_of cs))

  -- they name no end
  alike_unnamed : (at : ℕ) (requests : List CommitRequest) → IsNamed (alike heard v requests) at → ⊥
  alike_unnamed at [] n = n.2
  alike_unnamed at (a ∷ requests) n = ⊎_elim
      (λ (e : commit_of_request heard a v ≡ n.0). none.names n.1 at (ap (λ (x : Commit). x.answer) e ∙ n.3))
      (λ (t : In n.0 (alike heard v requests)). alike_unnamed at requests (n.0, n.1, t, n.3))
      n.2

  named_alike : (cs : List Commit) (at : ℕ) (requests : List CommitRequest) → IsNamed (cs ++ alike heard v requests) at → IsNamed cs at
  named_alike cs at requests n = ⊎_elim (λ (a : IsNamed cs at). a) (λ (b : IsNamed (alike heard v requests) at). absurd (alike_unnamed at requests b)) (named_in cs (alike heard v requests) at n)

  -- the log's parts stay as they are
  same_parts : (start : ℕ) (cs : List Commit) (groups : List LedGroup) (requests : List CommitRequest) (calls : List GroupCall) → commits_in groups ≡ cs → CutParts start cs groups (entries_of cs) calls
      → CutParts start (cs ++ alike heard v requests) (groups ++ led_alike heard v requests ∷ []) (entries_of (cs ++ alike heard v requests)) calls
  same_parts start cs groups requests calls cut k =
      let t = subst (λ es. CutParts start cs groups es calls) (sym (same_entries cs requests)) k in (
        t.0,
        (λ at is. t.1 at (named_alike cs at requests is)),
        not_logged groups (led_alike heard v requests) cs cut t.0.parts calls t.2 (λ before. none_made (group_at before (led_alike heard v requests)) (made_after cs (led_alike heard v requests)) (alike_entries (entries_of cs) requests)),
      )

  consistent_alike : (start clients group_bytes : ℕ) (asked : List ControllerCall) (cs : List Commit) (last : ℕ) (fault now : Option ℕ) (published : List (List MemberVersions)) (calls more : List GroupCall) (requests : List CommitRequest)
      (k : AreConsistent start clients group_bytes asked cs last fault published calls) → AreLawful clients requests → AreAnswered last fault (alike heard v requests) → fault_after_all fault (alike heard v requests) ≡ now
      → OneMoreGroup start group_bytes cs k.in_groups.groups (led_alike heard v requests)
      → WroteCut start group_bytes (k.in_groups.groups ++ led_alike heard v requests ∷ []) (cs ++ alike heard v requests) now last more
      → AreConsistent start clients group_bytes heard.went (cs ++ alike heard v requests) last now published more
  consistent_alike start clients group_bytes asked cs last fault now published calls more requests k lawful right fault_now in_groups written =
      let w = subst (λ gs. WroteCut start group_bytes gs (cs ++ alike heard v requests) now last more) (sym in_groups.1) written in record {
        answered = answered_append start None cs (alike heard v requests) k.answered (subst (λ (z : ℕ × Option ℕ). AreAnswered z.0 z.1 (alike heard v requests)) (λ i. (k.last_is i, k.fault_is i)) right);
        of_clients = all_append (λ (c : Commit). (1 ≤ c.client) × (c.client ≤ clients)) cs (alike heard v requests) k.of_clients (alike_clients clients requests lawful);
        last_is = k.last_is ∙ sym (end_append start cs (alike heard v requests) ∙ alike_end (last_after_all start cs) requests);
        fault_is = sym (dead_append None cs (alike heard v requests) ∙ (ap (λ d. fault_after_all d (alike heard v requests)) (sym k.fault_is) ∙ fault_now));
        in_groups = in_groups.0;
        images = images_none versions_made cs (alike heard v requests) published k.images (alike_versions requests);
        written = w.0;
        named = λ shown begins. ⊎_elim (λ (e : last_of start shown ≡ start). inl e) (λ (n : IsNamed cs (last_of start shown)). inr (named_more cs (alike heard v requests) (last_of start shown) n)) (k.named shown begins);
        cuts = w.1;
      }

-- the log's fault stays the same after members whose answer is this fault
failed_dead_on : (heard : Heard) (n : ℕ) (requests : List CommitRequest) → fault_after_all (Some n) (all_failed heard n requests) ≡ Some n
failed_dead_on heard n [] = refl
failed_dead_on heard n (a ∷ requests) = failed_dead_on heard n requests

failed_dead : (heard : Heard) (n : ℕ) (dead : Option ℕ) (requests : List CommitRequest) → 0 < length requests → fault_after_all dead (all_failed heard n requests) ≡ Some n
failed_dead heard n dead [] some = absurd (omega arith)
failed_dead heard n dead (a ∷ requests) some = failed_dead_on heard n requests

failed_answered_on : (heard : Heard) (last n : ℕ) (requests : List CommitRequest) → AreAnswered last (Some n) (all_failed heard n requests)
failed_answered_on heard last n [] = tt
failed_answered_on heard last n (a ∷ requests) = (refl, failed_answered_on heard last n requests)

failed_answered : (heard : Heard) (last n : ℕ) (requests : List CommitRequest) → AreAnswered last None (all_failed heard n requests)
failed_answered heard last n [] = tt
failed_answered heard last n (a ∷ requests) = (tt, failed_answered_on heard last n requests)

held_up_dead : (known : List ControllerCall) (numbers : Look) (fault : Option ℕ) (requests : List CommitRequest) → fault_after_all fault (all_held_up known numbers requests) ≡ fault
held_up_dead known numbers fault [] = refl
held_up_dead known numbers fault (a ∷ requests) = held_up_dead known numbers fault requests

held_up_answered : (known : List ControllerCall) (last : ℕ) (numbers : Look) (fault : Option ℕ) (requests : List CommitRequest) → AreAnswered last fault (all_held_up known numbers requests)
held_up_answered known last numbers fault [] = tt
held_up_answered known last numbers fault (a ∷ requests) = (tt, held_up_answered known last numbers fault requests)

-- the call that failed is still the lost write when a later group is added
lost_later : (group_bytes n last : ℕ) (groups : List LedGroup) (g : LedGroup) (c : GroupCall) → IsLostWrite group_bytes groups n last c → IsLostWrite group_bytes (groups ++ g ∷ []) n last c
lost_later group_bytes n last groups g c lost = record {
  before = lost.before;
  group = lost.group;
  after = lost.after ++ g ∷ [];
  among = ap (λ l. l ++ g ∷ []) lost.among ∙ append_assoc lost.before (lost.group ∷ lost.after) (g ∷ []);
  worked = lost.worked;
  requests = lost.requests;
  answers = lost.answers;
  is_group = lost.is_group;
  writes = lost.writes;
  failed = lost.failed;
}

lost_as_before : (group_bytes last : ℕ) (groups : List LedGroup) (g : LedGroup) (fault : Option ℕ) (lost : List GroupCall) → AreLostWrites group_bytes groups fault last lost → AreLostWrites group_bytes (groups ++ g ∷ []) fault last lost
lost_as_before group_bytes last groups g None lost h = h
lost_as_before group_bytes last groups g (Some n) lost h = (h.0, h.1, lost_later group_bytes n last groups g h.0 h.2)

wrote_as_before : (start group_bytes last : ℕ) (cs more : List Commit) (groups : List LedGroup) (g : LedGroup) (fault : Option ℕ) (calls : List GroupCall) (w : WroteCommits group_bytes groups cs fault last calls)
    → CutParts start (cs ++ more) (groups ++ g ∷ []) (entries_of (cs ++ more)) w.worked → WroteCut start group_bytes (groups ++ g ∷ []) (cs ++ more) fault last calls
wrote_as_before start group_bytes last cs more groups g fault calls w parts = (
  record {
    worked = w.worked;
    lost = w.lost;
    both = w.both;
    parts = parts.0;
    by_groups = parts.2;
    are_lost = lost_as_before group_bytes last groups g fault w.lost w.are_lost;
  },
  parts.1,
)

module _ (start clients group_bytes : ℕ) (cs : List Commit) (last : ℕ) (published : List (List MemberVersions)) (calls : List GroupCall) (requests : List CommitRequest) (asked known : List ControllerCall) (numbers : Look)
    (lawful : AreLawful clients requests) (whole : IsWholeGroup group_bytes requests) (is_asked : IsAskedFor requests numbers known) (comes : ComesAfter asked known) where
  abbrev heard_with : List ControllerCall → Heard
  heard_with went = record { known = known; went = went }

  -- the log was written as before, where all members get the same answer and no runs
  as_before : (v : Answer) → GivesNoRun v → (went : List ControllerCall) (fault : Option ℕ) (k : AreConsistent start clients group_bytes asked cs last fault published calls)
      → WroteCut start group_bytes (k.in_groups.groups ++ led_alike (heard_with went) v requests ∷ []) (cs ++ alike (heard_with went) v requests) fault last calls
  as_before v none went fault k =
      let w = k.written in
      wrote_as_before start group_bytes last cs (alike (heard_with went) v requests) k.in_groups.groups (led_alike (heard_with went) v requests) fault calls w
      (same_parts (heard_with went) v none start cs k.in_groups.groups requests w.worked k.in_groups.cut (w.parts, k.cuts, w.by_groups))

  -- writes are held up
  pub consistent_held_up : (fault : Option ℕ) → AreConsistent start clients group_bytes asked cs last fault published calls → HoldUp numbers → MayNotWait requests
      → AreConsistent start clients group_bytes known (cs ++ all_held_up known numbers requests) last fault published calls
  consistent_held_up fault k hold may =
      let none = held_up_no_run numbers in
      consistent_alike (heard_with known) (held_up numbers) none start clients group_bytes asked cs last fault fault published calls calls requests k lawful (held_up_answered known last numbers fault requests) (held_up_dead known numbers fault requests)
      (in_groups_held_up start group_bytes cs asked known numbers k.in_groups requests whole is_asked comes hold may)
      (as_before (held_up numbers) none known fault k)

  module _ (went : List ControllerCall) (proceeds : ProceedsWith requests numbers known went) where
    -- the log had failed before
    pub consistent_after_fault : (n : ℕ) → AreConsistent start clients group_bytes asked cs last (Some n) published calls → AreConsistent start clients group_bytes went (cs ++ all_failed (heard_with went) n requests) last (Some n) published calls
    consistent_after_fault n k =
        let none = failed_no_run n in
        consistent_alike (heard_with went) (failed n) none start clients group_bytes asked cs last (Some n) (Some n) published calls calls requests k lawful (failed_answered_on (heard_with went) last n requests) (failed_dead_on (heard_with went) n requests)
        (in_groups_failed start group_bytes cs asked known numbers k.in_groups requests whole is_asked comes went proceeds n)
        (as_before (failed n) none went (Some n) k)

    -- the log fails with this group
    pub consistent_with_fault : (n : ℕ) → AreConsistent start clients group_bytes asked cs last None published calls → (c : GroupCall) → WritesBatches last requests c → c.failed ≡ Some n
        → AreConsistent start clients group_bytes went (cs ++ all_failed (heard_with went) n requests) last (Some n) published (calls ++ c ∷ [])
    consistent_with_fault n k c writes failed_is =
        let none = failed_no_run n in let w = k.written in
        let groups = k.in_groups.groups in let g = led_alike (heard_with went) (failed n) requests in
        let all_good : calls ≡ w.worked = w.both ∙ ((λ i. w.worked ++ w.are_lost i) ∙ append-nil w.worked) in
        let lost : IsLostWrite group_bytes (groups ++ g ∷ []) n last c = record {
          before = groups;
          group = g;
          after = [];
          among = refl;
          worked = ap (fault_after_all None) k.in_groups.cut ∙ sym k.fault_is;
          requests = requests;
          answers = refl;
          is_group = whole;
          writes = writes;
          failed = failed_is;
        } in
        consistent_alike (heard_with went) (failed n) none start clients group_bytes asked cs last None (Some n) published calls (calls ++ c ∷ []) requests k lawful (failed_answered (heard_with went) last n requests) (failed_dead (heard_with went) n None requests whole.some)
        (in_groups_failed start group_bytes cs asked known numbers k.in_groups requests whole is_asked comes went proceeds n)
        (let parts = same_parts (heard_with went) (failed n) none start cs groups requests w.worked k.in_groups.cut (w.parts, k.cuts, w.by_groups) in (
          record {
            worked = w.worked;
            lost = c ∷ [];
            both = (λ i. all_good i ++ c ∷ []);
            parts = parts.0;
            by_groups = parts.2;
            are_lost = (c, refl, lost);
          },
          parts.1,
        ))

-- at the beginning nothing was handled
pub consistent_first : (start clients group_bytes : ℕ) → AreConsistent start clients group_bytes [] [] start None [] []
consistent_first start clients group_bytes = record {
  answered = tt;
  of_clients = tt;
  last_is = refl;
  fault_is = refl;
  in_groups = record { groups = []; cut = refl; each = tt; seen = tt; rise = tt; name_ends = tt };
  images = refl;
  written = record { worked = []; lost = []; both = refl; parts = record { parts = []; cut = refl; runs = tt; each = tt }; by_groups = record { parts_are = refl; syncs_are = refl }; are_lost = refl };
  named = λ shown begins. inl (shown_first start shown begins);
  cuts = λ at n. absurd n.2;
}
