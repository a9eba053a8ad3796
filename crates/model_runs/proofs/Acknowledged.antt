-- A batch that was to be synced is in a group that was written by one of the calls that its client knew of when it was
-- told `ok`.
use Rattle.std.proofs.Common.{◌≡◌, ℕ, zero, suc, ◌+◌, ◌-◌, ◌<◌, ◌≤◌, Bool, true, false, cond, ◌==◌, ◌||◌, Option, Some, None, List, [], ◌∷◌, ◌++◌, length, map, filter, flat_map, sum_by, take, drop, slice_get, MatchOption, refl, ap, sym, ◌∙◌, subst, arith, append_assoc}
use mathlib.Core.List.{IsPrefix}
use Rattle.std.specs.List.{AllByRecursion, AllZip, list_any}
use Rattle.std.proofs.lemmas.List.Sums.{sum_by-cons}
use Rattle.model_base.specs.declared.history.Flag.{Flag}
use Rattle.model_base.specs.declared.history.Flag.TheVariants.{Log, NoLog, Sync}
use Rattle.model_base.specs.declared.write.WriteOptions.{WriteOptions}
use Rattle.model_base.specs.declared.write.Refusal.{Refusal}
use Rattle.model_base.specs.Batch.{Record, count_of}
use Rattle.model_base.specs.History.{Entry, IsHistory, RunsFollow, last_of, last_sequence, flag_of, is_logged, logged_entries}
use Rattle.model_base.specs.Trace.{Trace, Settings}
use Rattle.model_base.specs.Attempts.{Attempt}
use Rattle.model_base.specs.Groups.{Group}
use Rattle.model_base.specs.Progress.{Progress, next_entry, early_refusal}
use Rattle.model_base.specs.Tokens.{holds_stop}
use Rattle.model_base.specs.Replies.{IsAccepted, IsAttempted, Commits, Stays}
use Rattle.model_base.specs.Calls.{accepted, refused, Call, Outcome}
use Rattle.model_base.specs.Outcomes.{entries_of_client, IsLegalIn}
use Rattle.model_base.specs.LogContents.{GroupCall, WroteBatch}
use Rattle.model_runs.specs.Acknowledged.{IsAcknowledged, HasBatch, KeepAcknowledged}
use Rattle.model_runs.specs.Crashes.{HasSync, is_sync}
use Rattle.model_runs.specs.Written.{WroteEntries, AreLost, WritesLog}

-- A call that worked wrote a part

lost_failed : (group_bytes : ℕ) (attempts : List (List Attempt)) (fault : Option ℕ) (last : ℕ) (lost : List GroupCall) → AreLost group_bytes attempts fault last lost → (c : GroupCall) → c.failed ≡ None → (i : ℕ) → slice_get lost i ≡ Some c → ⊥
lost_failed group_bytes attempts None last lost are c ok i there = cc (subst (λ cs. slice_get cs i ≡ Some c) are there)
lost_failed group_bytes attempts (Some count) last lost are c ok zero there =
    let same : Some (are.0) ≡ Some c = subst (λ cs. slice_get cs 0 ≡ Some c) are.1 there in let failed = are.2.failed in cc (same, failed, ok)
lost_failed group_bytes attempts (Some count) last lost are c ok (suc i) there = cc (subst (λ cs. slice_get cs (suc i) ≡ Some c) are.1 there)

record Part (parts : List (List Entry)) (place : ℕ) (c : GroupCall) : Type 0 where
  part : List Entry
  there : slice_get parts place ≡ Some part
  wrote : WroteEntries part c

part_of : (parts : List (List Entry)) (calls lost : List GroupCall) (c : GroupCall) → AllZip WroteEntries parts calls → ((i : ℕ) → slice_get lost i ≡ Some c → ⊥) → (place : ℕ) → slice_get (calls ++ lost) place ≡ Some c → Part parts place c
part_of [] [] lost c each never place there = absurd (never place there)
part_of [] (d ∷ calls) lost c each never place there = absurd each
part_of (part ∷ parts) [] lost c each never place there = absurd each
part_of (part ∷ parts) (d ∷ calls) lost c each never zero there = let same : d ≡ c = cc there in record { part = part; there = refl; wrote = subst (WroteEntries part) same each.0 }
part_of (part ∷ parts) (d ∷ calls) lost c each never (suc place) there =
    let p = part_of parts calls lost c each.1 never place there in record { part = p.part; there = p.there; wrote = p.wrote }

-- The batch's entry in that part

abbrev IsCounted : Entry → Type 0
IsCounted e = (e.count ≡ count_of e.records) × (1 ≤ e.count)

record At (first : ℕ) (records : List Record) (entries : List Entry) : Type 0 where
  before : List Entry
  entry : Entry
  after : List Entry
  there : entries ≡ before ++ entry ∷ after
  run : entry.first ≡ first
  batch : entry.records ≡ records

-- a list with an element isn't empty
no_end : {A : Type 0} (front : List A) (x : A) (back : List A) → front ++ x ∷ back ≡ [] → ⊥
no_end [] x back none = cc none
no_end (y ∷ front) x back none = cc none

-- the entries follow each other, and the first of them begins at `start`
at_front : (records : List Record) (back : List (List Record)) (start first : ℕ) (front : List (List Record)) (e : Entry) (part : List Entry) → e.first ≡ start → IsHistory (last_of e) part → AllByRecursion IsCounted (e ∷ part)
    → front ++ records ∷ back ≡ map (λ (x : Entry). x.records) (e ∷ part) → first ≡ start + sum_by count_of front → At first records (e ∷ part)
at_front records back start first [] e part begins follow counted same run = record { before = []; entry = e; after = part; there = refl; run = (let a = begins in omega (arith, a, run)); batch = sym (cc same) }
at_front records back start first (r ∷ front) e [] begins follow counted same run = absurd (no_end front records back (cc same))
at_front records back start first (r ∷ front) e (d ∷ part) begins follow counted same run =
    let here : r ≡ e.records = cc same in
    let count : count_of r ≡ count_of e.records = ap count_of here in
    let own = counted.0.0 in let some = counted.0.1 in let next = follow.0.first in
    let sum = sum_by-cons count_of r front in
    let rest = at_front records back d.first first front d part refl follow.1 counted.1 (cc same) (omega (arith, begins, run, count, own, some, next, sum)) in
    record { before = e ∷ rest.before; entry = rest.entry; after = rest.after; there = ap (λ es. e ∷ es) rest.there; run = rest.run; batch = rest.batch }

entry_in : (c : GroupCall) (first : ℕ) (records : List Record) (sync : Bool) (part : List Entry) → WroteBatch first records sync c → WroteEntries part c → RunsFollow part → AllByRecursion IsCounted part → At first records part
entry_in c first records sync [] batch wrote runs counted = absurd (cc wrote.some)
entry_in c first records sync (e ∷ part) batch wrote runs counted =
    let begins : e.first ≡ c.first = cc wrote.some in
    at_front records batch.after c.first first batch.before e part begins runs counted (sym batch.among ∙ wrote.batches) batch.run

-- Lists

all_at : {A : Type 0} (P : A → Type 0) (xs : List A) (i : ℕ) (x : A) → AllByRecursion P xs → slice_get xs i ≡ Some x → P x
all_at P [] i x all there = absurd (cc there)
all_at P (y ∷ xs) zero x all there = let same : y ≡ x = cc there in subst P same all.0
all_at P (y ∷ xs) (suc i) x all there = all_at P xs i x all.1 there

all_left : {A : Type 0} (P : A → Type 0) (xs ys : List A) → AllByRecursion P (xs ++ ys) → AllByRecursion P xs
all_left P [] ys all = tt
all_left P (x ∷ xs) ys all = (all.0, all_left P xs ys all.1)

all_right : {A : Type 0} (P : A → Type 0) (xs ys : List A) → AllByRecursion P (xs ++ ys) → AllByRecursion P ys
all_right P [] ys all = all
all_right P (x ∷ xs) ys all = all_right P xs ys all.1

all_parts : (P : Entry → Type 0) (parts : List (List Entry)) → AllByRecursion P (flat_map (λ part. part) parts) → AllByRecursion (AllByRecursion P) parts
all_parts P [] all = tt
all_parts P (part ∷ parts) all = (all_left P part (flat_map (λ p. p) parts) all, all_parts P parts (all_right P part (flat_map (λ p. p) parts) all))

-- where a part has an entry, the whole list has it
in_flat : (parts : List (List Entry)) (place : ℕ) (part before after : List Entry) (e : Entry) → slice_get parts place ≡ Some part → part ≡ before ++ e ∷ after
    → (front : List Entry) × (back : List Entry) × (flat_map (λ p. p) parts ≡ front ++ e ∷ back)
in_flat [] place part before after e there is = absurd (cc there)
in_flat (p ∷ parts) zero part before after e there is =
    let same : p ≡ part = cc there in
    (before, after ++ flat_map (λ q. q) parts, ap (λ es. es ++ flat_map (λ q. q) parts) (same ∙ is) ∙ append_assoc before (e ∷ after) (flat_map (λ q. q) parts))
in_flat (p ∷ parts) (suc place) part before after e there is =
    let rest = in_flat parts place part before after e there is in
    (p ++ rest.0, rest.1, ap (λ es. p ++ es) rest.2 ∙ sym (append_assoc p rest.0 (e ∷ rest.1)))

-- The entries of a history rise, so two of them with one first sequence are one

abbrev Above : ℕ → List Entry → Type 0
Above last entries = AllByRecursion (λ (e : Entry). last < e.first) entries

abbrev Rise : List Entry → Type 0
Rise [] = Unit {0}
Rise (e ∷ entries) = Above e.first entries × Rise entries

all_weaker : (P Q : Entry → Type 0) → ((e : Entry) → P e → Q e) → (entries : List Entry) → AllByRecursion P entries → AllByRecursion Q entries
all_weaker P Q f [] all = tt
all_weaker P Q f (e ∷ entries) all = (f e all.0, all_weaker P Q f entries all.1)

above_all : (start : ℕ) (entries : List Entry) → IsHistory start entries → Above start entries
above_all start [] is = tt
above_all start (e ∷ entries) is =
    let first = is.0.first in let some = is.0.some in
    (omega (arith, first), all_weaker (λ (x : Entry). last_of e < x.first) (λ (x : Entry). start < x.first) (λ x above. omega (arith, above, first, some)) entries (above_all (last_of e) entries is.1))

all_rise : (start : ℕ) (entries : List Entry) → IsHistory start entries → Rise entries
all_rise start [] is = tt
all_rise start (e ∷ entries) is =
    let some = is.0.some in
    (all_weaker (λ (x : Entry). last_of e < x.first) (λ (x : Entry). e.first < x.first) (λ x above. omega (arith, above, some)) entries (above_all (last_of e) entries is.1), all_rise (last_of e) entries is.1)

all_counted : (start : ℕ) (entries : List Entry) → IsHistory start entries → AllByRecursion IsCounted entries
all_counted start [] is = tt
all_counted start (e ∷ entries) is = ((is.0.counted, is.0.some), all_counted (last_of e) entries is.1)

all_kept : (P : Entry → Type 0) (p : Entry → Bool) (entries : List Entry) → AllByRecursion P entries → AllByRecursion P (filter p entries)
all_kept P p [] all = tt
all_kept P p (e ∷ entries) all = by (p e) all.0 (all_kept P p entries all.1)
  where
    by : (b : Bool) → P e → AllByRecursion P (filter p entries) → AllByRecursion P (cond b (e ∷ filter p entries) (filter p entries))
    by true here rest = (here, rest)
    by false here rest = rest

rise_kept : (p : Entry → Bool) (entries : List Entry) → Rise entries → Rise (filter p entries)
rise_kept p [] rise = tt
rise_kept p (e ∷ entries) rise = by (p e) (all_kept (λ (x : Entry). e.first < x.first) p entries rise.0) (rise_kept p entries rise.1)
  where
    by : (b : Bool) → Above e.first (filter p entries) → Rise (filter p entries) → Rise (cond b (e ∷ filter p entries) (filter p entries))
    by true here rest = (here, rest)
    by false here rest = rest

above_at : (last : ℕ) (before after : List Entry) (e : Entry) → Above last (before ++ e ∷ after) → last < e.first
above_at last [] after e above = above.0
above_at last (x ∷ before) after e above = above_at last before after e above.1

one_entry : (entries a b c d : List Entry) (e x : Entry) → Rise entries → entries ≡ a ++ e ∷ b → entries ≡ c ++ x ∷ d → e.first ≡ x.first → e ≡ x
one_entry [] a b c d e x rise is also same = absurd (no_end a e b (sym is))
one_entry (y ∷ entries) [] b [] d e x rise is also same = cc (is, also)
one_entry (y ∷ entries) [] b (z ∷ c) d e x rise is also same =
    let first : y ≡ e = cc is in let rest : entries ≡ c ++ x ∷ d = cc also in
    let above = above_at y.first c d x (subst (Above y.first) rest rise.0) in let at = ap (λ (w : Entry). w.first) first in absurd (omega (arith, above, at, same))
one_entry (y ∷ entries) (z ∷ a) b [] d e x rise is also same =
    let first : y ≡ x = cc also in let rest : entries ≡ a ++ e ∷ b = cc is in
    let above = above_at y.first a b e (subst (Above y.first) rest rise.0) in let at = ap (λ (w : Entry). w.first) first in absurd (omega (arith, above, at, same))
one_entry (y ∷ entries) (z ∷ a) b (w ∷ c) d e x rise is also same = one_entry entries a b c d e x rise.1 (cc is) (cc also) same

-- what the filtered list has, where the whole list has it
in_kept : (p : Entry → Bool) (entries before after : List Entry) (e : Entry) → entries ≡ before ++ e ∷ after → p e ≡ true → (front : List Entry) × (back : List Entry) × (filter p entries ≡ front ++ e ∷ back)
in_kept p [] before after e is holds = absurd (no_end before e after (sym is))
in_kept p (x ∷ entries) [] after e is holds =
    let same : x ≡ e = cc is in
    ([], filter p entries, ap (λ b. cond b (x ∷ filter p entries) (filter p entries)) (ap p same ∙ holds) ∙ ap (λ y. y ∷ filter p entries) same)
in_kept p (x ∷ entries) (y ∷ before) after e is holds = by (p x) refl (in_kept p entries before after e (cc is) holds)
  where
    by : (b : Bool) → p x ≡ b → (front : List Entry) × (back : List Entry) × (filter p entries ≡ front ++ e ∷ back) → (front : List Entry) × (back : List Entry) × (filter p (x ∷ entries) ≡ front ++ e ∷ back)
    by true kept rest = (x ∷ rest.0, rest.1, ap (λ b. cond b (x ∷ filter p entries) (filter p entries)) kept ∙ ap (λ es. x ∷ es) rest.2)
    by false kept rest = (rest.0, rest.1, ap (λ b. cond b (x ∷ filter p entries) (filter p entries)) kept ∙ rest.2)

-- and the other way round
of_kept : (p : Entry → Bool) (entries front back : List Entry) (e : Entry) → filter p entries ≡ front ++ e ∷ back → (before : List Entry) × (after : List Entry) × (entries ≡ before ++ e ∷ after)
of_kept p [] front back e is = absurd (no_end front e back (sym is))
of_kept p (x ∷ entries) front back e is = by (p x) refl (λ f now. of_kept p entries f back e now)
  where
    first : ((f : List Entry) → filter p entries ≡ f ++ e ∷ back → (before : List Entry) × (after : List Entry) × (entries ≡ before ++ e ∷ after)) → (f : List Entry) → x ∷ filter p entries ≡ f ++ e ∷ back → (before : List Entry) × (after : List Entry) × (x ∷ entries ≡ before ++ e ∷ after)
    first later [] now = ([], entries, ap (λ y. y ∷ entries) (cc now))
    first later (y ∷ f) now = let rest = later f (cc now) in (x ∷ rest.0, rest.1, ap (λ es. x ∷ es) rest.2)

    by : (b : Bool) → p x ≡ b → ((f : List Entry) → filter p entries ≡ f ++ e ∷ back → (before : List Entry) × (after : List Entry) × (entries ≡ before ++ e ∷ after)) → (before : List Entry) × (after : List Entry) × (x ∷ entries ≡ before ++ e ∷ after)
    by true kept later = first later front (ap (λ b. cond b (x ∷ filter p entries) (filter p entries)) (sym kept) ∙ is)
    by false kept later = let rest = later front (ap (λ b. cond b (x ∷ filter p entries) (filter p entries)) (sym kept) ∙ is) in (x ∷ rest.0, rest.1, ap (λ es. x ∷ es) rest.2)

-- The commit

accepted_by : (settings : Settings) (trace : Trace) (client : ℕ) (p : Progress) (how : WriteOptions) (first last : ℕ) (records : List Record) (q : Progress) → Commits settings trace client p how (accepted first last records) q
    → IsAccepted trace.controller_calls trace.log_calls client p how first last records q
accepted_by settings trace client p how first last records q s = by (early_refusal settings.families settings.batch_bytes (holds_stop p.asked) p.pending how) s
  where
    by : (early : Option Refusal) → MatchOption early (IsAttempted trace client p how (accepted first last records) q) (λ why. (accepted first last records ≡ refused why) × Stays p q) → IsAccepted trace.controller_calls trace.log_calls client p how first last records q
    by None s = s
    by (Some why) s = absurd (cc s.0)

to_log : (how : WriteOptions) → flag_of how ≡ Sync → (how.no_log ≡ false) × (how.sync ≡ true)
to_log how is = by how.no_log how.sync is
  where
    by : (a b : Bool) → cond a NoLog (cond b Sync Log) ≡ Sync → (a ≡ false) × (b ≡ true)
    by true b is = absurd (cc is)
    by false true is = (refl, refl)
    by false false is = absurd (cc is)

or_true : (a b : Bool) → b ≡ true → (a || b) ≡ true
or_true true b is = refl
or_true false b is = is

any_sync : (before after : List Entry) (e : Entry) → e.flag ≡ Sync → list_any (λ (x : Entry). is_sync x.flag) (before ++ e ∷ after) ≡ true
any_sync [] after e flag = rw (ap is_sync flag) refl
any_sync (x ∷ before) after e flag = or_true (is_sync x.flag) _ (any_sync before after e flag)

has_sync : (group before after : List Entry) (e : Entry) → group ≡ before ++ e ∷ after → e.flag ≡ Sync → HasSync group
has_sync group before after e is flag = subst HasSync (sym is) (any_sync before after e flag)

-- So what stays of each group that was to be synced, once its call has returned, stays of what was acknowledged
module _ {Image : Type 0} (settings : Settings) (ended : ℕ) (script : _) (trace : Trace) (attempts : List (List Attempt)) (o : Outcome) (legal : IsLegalIn settings ended script trace attempts o) (wrote : List GroupCall → Type 0) (groups : List Group)
    (w : WritesLog settings.group_bytes wrote trace attempts groups o.fault) (since : List GroupCall → List GroupCall → Image → Type 0) (Has : ℕ → Image → Type 0) where
  abbrev made : List GroupCall
  made = w.calls ++ w.lost

  counted : AllByRecursion (AllByRecursion IsCounted) w.parts
  counted = all_parts IsCounted w.parts (subst (AllByRecursion IsCounted) (sym w.cut) (all_kept IsCounted (λ (e : Entry). is_logged e.flag) trace.entries (all_counted trace.start trace.entries legal.is_trace.entries)))

  rise : Rise (logged_entries trace.entries)
  rise = rise_kept (λ (e : Entry). is_logged e.flag) trace.entries (all_rise trace.start trace.entries legal.is_trace.entries)

  pub acknowledged_stay : ((k n : ℕ) (group : List Entry) → slice_get w.parts k ≡ Some group → HasSync group → k < n → (image : Image) → since (take n made) (drop n made) image → Has k image)
      → KeepAcknowledged settings trace o.transcripts w.parts made since Has
  acknowledged_stay stays i calls first knew records at told =
      let a = accepted_by settings trace (i + 1) told.p told.how first told.last records told.q told.step.replies in
      let flags = to_log told.how told.to_sync in
      let logged = a.logged flags.0 in
      let there : slice_get made logged.place ≡ Some logged.call = ap (λ cs. slice_get cs logged.place) w.log ∙ logged.there in
      let part = part_of w.parts w.calls w.lost logged.call w.each (lost_failed settings.group_bytes attempts o.fault _ w.lost w.none_else logged.call logged.wrote.ok) logged.place there in
      let e = entry_in logged.call first told.p.pending told.how.sync part.part logged.wrote part.wrote (all_at RunsFollow w.parts logged.place part.part w.runs part.there) (all_at (AllByRecursion IsCounted) w.parts logged.place part.part counted part.there) in
      let own = next_entry (i + 1) told.p.mine told.how first told.p.pending in
      let mine : entries_of_client (i + 1) trace.entries ≡ told.p.mine ++ own ∷ told.mine.0 =
      sym told.mine.1 ∙ ap (λ es. es ++ told.mine.0) (ap (λ (x : Progress). x.mine) a.after) ∙ append_assoc told.p.mine (own ∷ []) told.mine.0 in
      let among = of_kept (λ (x : Entry). x.client == i + 1) trace.entries told.p.mine told.mine.0 own mine in
      let kept = in_kept (λ (x : Entry). is_logged x.flag) trace.entries among.0 among.1 own among.2 (ap is_logged told.to_sync) in
      let flat = in_flat w.parts logged.place part.part e.before e.after e.entry part.there e.there in
      let same : e.entry ≡ own = one_entry (logged_entries trace.entries) flat.0 flat.1 kept.0 kept.1 e.entry own rise (sym w.cut ∙ flat.2) kept.2 e.run in
      let sync = has_sync part.part e.before e.after e.entry e.there (ap (λ (x : Entry). x.flag) same ∙ told.to_sync) in
      let known : logged.place < knew = subst (λ n. logged.place < n) told.knows logged.known in (
        logged.place,
        part.part,
        part.there,
        record { before = e.before; entry = e.entry; after = e.after; there = e.there; run = e.run; batch = e.batch ∙ sym a.batch },
        λ image left. stays logged.place knew part.part part.there sync known image left,
      )
