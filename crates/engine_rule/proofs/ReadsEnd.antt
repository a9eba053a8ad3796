-- At the end what reads of the log gave is right in the trace: a read that was at the end of published groups gave the
-- records of just these groups, since they are the log's first ones.
use Rattle.std.proofs.Common.{◌≡◌, ◌⊎◌, inl, inr, ℕ, ◌+◌, ◌<◌, ◌≤◌, cond, filter, flat_map, map, sum_by, List, [], ◌∷◌, ◌++◌, Option, Some, None, IfSome, length, refl, ap, sym, ◌∙◌, subst, arith, append_assoc, append-nil}
use Rattle.std.specs.List.{AllByRecursion, AllZip}
use Rattle.std.proofs.lemmas.List.{map-append, append_cancel_left}
use Rattle.std.proofs.lemmas.List.Elements.{filter-append}
use Rattle.std.proofs.lemmas.List.Sums.{sum_by-append, sum_by-cons}
use Rattle.std.proofs.lemmas.Grind.{flat_map-append}
use Rattle.model_base.specs.Batch.{Record, is_counted, count_of}
use Rattle.model_base.specs.History.{Entry, IsHistory, RunsFollow, is_logged, last_of, last_sequence, logged_entries}
use Rattle.model_base.specs.LogContents.{GroupCall, AreGroupsOf}
use Rattle.model_base.specs.Recovery.{Logged}
use Rattle.model_base.specs.Replies.{IsLogRead}
use Rattle.model_base.specs.Since.{LogRead, LogRecord, is_since, record_of_batch, record_of_group}
use Rattle.model_base.specs.Since as log
use Rattle.model_base.specs.Trace.{Trace}
use Rattle.model_runs.specs.Written.{WroteEntries}
use Rattle.table_rule.specs.declared.content.MemberVersions.{MemberVersions}
use Rattle.table_rule.specs.Histories.{Begins, last_of as last_shown}
use Rattle.table_rule.proofs.Histories.{begins_trans}
use Rattle.model_accounts.proofs.Logs.{same_record}
use Rattle.engine_rule.specs.Asked.{LedGroup}
use Rattle.engine_rule.specs.LogCalls.{AreLostWrites, WroteCommits}
use Rattle.engine_rule.specs.Commits.{Commit}
use Rattle.engine_rule.specs.Consistent.{EndsAreNamed, IsNamed}
use Rattle.engine_rule.specs.Entries.{entries_of}
use Rattle.engine_rule.specs.Reading.{IsAtEnd, IsCutAt, IsRight, record_by, records_by, if_worked}
use Rattle.engine_rule.proofs.LogReads.{none_since, records_failed}
use Rattle.engine_rule.proofs.Own.{all_filter}
use Rattle.engine_rule.proofs.OwnFaults.{all_before, all_behind}

-- The records that the calls wrote are those of the log's parts

abbrev IsCounted : Entry → Type 0
IsCounted e = e.count ≡ count_of e.records

all_counted : (start : ℕ) (es : List Entry) → IsHistory start es → AllByRecursion IsCounted es
all_counted start [] h = tt
all_counted start (e ∷ es) h = (h.0.counted, all_counted (last_of e) es h.1)

-- as many sequences as the entries' runs have
counts_are : (es : List Entry) → AllByRecursion IsCounted es → count_of (flat_map (λ (records : List Record). records) (map (λ (e : Entry). e.records) es)) ≡ sum_by (λ (e : Entry). e.count) es
counts_are [] all = refl
counts_are (e ∷ es) all =
    let rest = flat_map (λ (records : List Record). records) (map (λ (x : Entry). x.records) es) in
    sum_by-append (λ (r : Record). cond (is_counted r) 1 0) e.records rest ∙ ((λ i. sym all.0 i + counts_are es all.1 i) ∙ sym (sum_by-cons (λ (x : Entry). x.count) e es))

record_is : (part : List Entry) (c : GroupCall) → WroteEntries part c → AllByRecursion IsCounted part → record_by c ≡ record_of_group part
record_is [] c h all = absurd (cc h.some)
record_is (e ∷ es) c h all =
    let first : c.first ≡ e.first = cc h.some in
    let count = ap (λ bs. count_of (flat_map (λ (records : List Record). records) bs)) h.batches ∙ counts_are (e ∷ es) all in
    let bytes = same_record (e ∷ es) c h in
    λ i. record { first = first i; count = count i; bytes = bytes i }

records_are : (parts : List (List Entry)) (calls : List GroupCall) → AllZip WroteEntries parts calls → AllByRecursion IsCounted (flat_map (λ part. part) parts) → records_by calls ≡ map record_of_group parts
records_are [] [] h all = refl
records_are [] (c ∷ calls) h all = absurd h
records_are (part ∷ parts) [] h all = absurd h
records_are (part ∷ parts) (c ∷ calls) h all =
    let one = record_is part c h.0 (all_before IsCounted part (flat_map (λ p. p) parts) all) in
    let more = records_are parts calls h.1 (all_behind IsCounted part (flat_map (λ p. p) parts) all) in
    ap (λ f. if_worked f (record_by c ∷ records_by calls)) h.0.ok ∙ (λ i. one i ∷ more i)

-- a call that failed has written none
records_of_all : (group_bytes : ℕ) (groups : List LedGroup) (fault : Option ℕ) (last : ℕ) (worked lost : List GroupCall) → AreLostWrites group_bytes groups fault last lost → records_by (worked ++ lost) ≡ records_by worked
records_of_all group_bytes groups None last worked lost is = ap (λ l. records_by (worked ++ l)) is ∙ ap records_by (append-nil worked)
records_of_all group_bytes groups (Some count) last worked lost is = ap (λ l. records_by (worked ++ l)) is.1 ∙ records_failed worked is.0 count is.2.failed

pub records_written : (start group_bytes : ℕ) (groups : List LedGroup) (commits : List Commit) (fault : Option ℕ) (last : ℕ) (calls : List GroupCall) (w : WroteCommits group_bytes groups commits fault last calls) → IsHistory start (entries_of commits) → records_by calls ≡ map record_of_group w.parts.parts
records_written start group_bytes groups commits fault last calls w is_history =
    let counted = all_filter IsCounted (λ (e : Entry). is_logged e.flag) (entries_of commits) (all_counted start (entries_of commits) is_history) in
    ap records_by w.both ∙ (records_of_all group_bytes groups fault last w.worked w.lost w.are_lost ∙ records_are w.parts.parts w.worked w.parts.each (subst (AllByRecursion IsCounted) (sym w.parts.cut) counted))

-- Where the log's parts are cut, the later ones have the later entries
cut_behind : (start at : ℕ) (entries : List Entry) (parts : List (List Entry)) (c : IsCutAt start entries parts at) → flat_map (λ part. part) parts ≡ logged_entries entries → flat_map (λ part. part) c.more ≡ logged_entries c.is_front.rest
cut_behind start at entries parts c whole =
    let front = c.logged in
    let rest = logged_entries c.is_front.rest in
    append_cancel_left (logged_entries c.front) (flat_map (λ part. part) c.more) rest
    ((λ i. sym front i ++ flat_map (λ part. part) c.more)
    ∙ (sym (flat_map-append (λ part. part) c.own c.more)
    ∙ (ap (flat_map (λ part. part)) (sym c.parts_are)
    ∙ (whole ∙ (ap logged_entries c.is_front.split ∙ filter-append (λ (e : Entry). is_logged e.flag) c.front c.is_front.rest)))))

-- they are cut before all
cut_first : (start : ℕ) (entries : List Entry) (parts : List (List Entry)) → IsCutAt start entries parts start
cut_first start entries parts = record { front = []; is_front = record { rest = entries; split = refl; ends = refl }; own = []; more = parts; parts_are = refl; logged = refl }

-- The later parts of the log have later sequences

history_behind : (start : ℕ) (first rest : List Entry) → IsHistory start (first ++ rest) → IsHistory (last_sequence start first) rest
history_behind start [] rest is = is
history_behind start (e ∷ first) rest is = history_behind (last_of e) first rest is.1

all_past : (at last : ℕ) (es : List Entry) → at ≤ last → IsHistory last es → AllByRecursion (λ (e : Entry). at < e.first) es
all_past at last [] low is = tt
all_past at last (e ∷ es) low is =
    let first = is.0.first in
    let some = is.0.some in (
      omega (arith, first, low),
      all_past at (last_of e) es (omega (arith, first, some, low)) is.1,
    )

all_records_past : (at : ℕ) (parts : List (List Entry)) → AllByRecursion (λ (part : List Entry). 0 < length part) parts → AllByRecursion (λ (e : Entry). at < e.first) (flat_map (λ part. part) parts) → AllByRecursion (λ (r : LogRecord). at < r.first) (map record_of_group parts)
all_records_past at [] some past = tt
all_records_past at ([] ∷ parts) some past = absurd (let none = some.0 in omega (arith, none))
all_records_past at ((e ∷ es) ∷ parts) some past = (past.0, all_records_past at parts some.1 (all_behind (λ (x : Entry). at < x.first) es (flat_map (λ part. part) parts) past.1))

-- records past that sequence aren't given
none_due : (n at : ℕ) (rs : List LogRecord) → AllByRecursion (λ (r : LogRecord). at < r.first) rs → filter (is_since n at) rs ≡ []
none_due n at [] past = refl
none_due n at (r ∷ rs) past = ap (λ b. cond b (r ∷ filter (is_since n at) rs) (filter (is_since n at) rs)) (none_since n at r past.0) ∙ none_due n at rs past.1

since_front : (n at : ℕ) (rs more : List LogRecord) → AllByRecursion (λ (r : LogRecord). at < r.first) more → log.since n at (rs ++ more) ≡ log.since n at rs
since_front n at rs more past =
    let none = none_due n at more past in
    ap (map (λ (r : LogRecord). r.bytes)) (filter-append (is_since n at) rs more ∙ ((λ i. filter (is_since n at) rs ++ none i) ∙ append-nil (filter (is_since n at) rs)))

if_known : {A : Type 0} (known : Option A) (P : A → Type 0) → ((a : A) → known ≡ Some a → P a) → IfSome known P
if_known None P is = tt
if_known (Some a) P is = is a refl

module _ (trace : Trace) (is_history : IsHistory trace.start trace.entries) (commits : List Commit) (published : List (List MemberVersions)) (named : EndsAreNamed trace.start commits published) (cuts : (at : ℕ) → IsNamed commits at → IsCutAt trace.start trace.entries trace.logged at)
    (groups : AreGroupsOf trace.entries trace.logged) (last : ℕ) (calls : List GroupCall) (records : records_by calls ≡ map record_of_group trace.logged) (seen : List (List MemberVersions)) (begins : Begins seen published) where
  right_at : (r : LogRead) → IsCutAt trace.start trace.entries trace.logged r.at → IsRight (λ (batches : List Logged). trace.kept ≡ Some batches) last calls r → IsLogRead trace r
  right_at r c right =
      let whole : IsHistory trace.start (c.front ++ c.is_front.rest) = subst (IsHistory trace.start) c.is_front.split is_history in
      let ends = c.is_front.ends in
      let some = subst (AllByRecursion (λ (part : List Entry). 0 < length part)) c.parts_are groups.none_empty in
      let runs = subst (AllByRecursion RunsFollow) c.parts_are groups.runs in
      let behind = cut_behind trace.start r.at trace.entries trace.logged c (sym groups.cut) in
      let past : AllByRecursion (λ (e : Entry). r.at < e.first) (flat_map (λ part. part) c.more) =
      subst (AllByRecursion (λ (e : Entry). r.at < e.first)) (sym behind) (all_filter (λ (e : Entry). r.at < e.first) (λ (e : Entry). is_logged e.flag) c.is_front.rest (all_past r.at (last_sequence trace.start c.front) c.is_front.rest (omega (arith, ends)) (history_behind trace.start c.front c.is_front.rest whole))) in
      let later = all_records_past r.at c.more (all_behind (λ (part : List Entry). 0 < length part) c.own c.more some) past in
      let shown : records_by calls ≡ map record_of_group c.own ++ map record_of_group c.more = records ∙ (ap (map record_of_group) c.parts_are ∙ map-append record_of_group c.own c.more) in
      record {
        front = c.front;
        is_front = c.is_front;
        groups = c.own;
        in_log = (c.more, sym c.parts_are);
        up_to = record { cut = sym c.logged; none_empty = all_before (λ (part : List Entry). 0 < length part) c.own c.more some; runs = all_before RunsFollow c.own c.more runs };
        answer = if_known trace.kept (λ (kept : List Logged). r.records ≡ log.since r.since r.at (log.records_in kept c.own)) (λ batches known.
            right.answer batches known
            ∙ (ap (λ rs. log.since r.since r.at (map record_of_batch batches ++ rs)) shown
            ∙ (ap (log.since r.since r.at) (sym (append_assoc (map record_of_batch batches) (map record_of_group c.own) (map record_of_group c.more)))
            ∙ since_front r.since r.at (map record_of_batch batches ++ map record_of_group c.own) (map record_of_group c.more) later)));
      }

  right_read : (r : LogRead) → IsAtEnd trace.start seen r → IsRight (λ (batches : List Logged). trace.kept ≡ Some batches) last calls r → IsLogRead trace r
  right_read r at right = right_at r (cut (named at.shown (begins_trans at.shown seen published at.begins begins))) right
    where
      cut : (last_shown trace.start at.shown ≡ trace.start) ⊎ IsNamed commits (last_shown trace.start at.shown) → IsCutAt trace.start trace.entries trace.logged r.at
      cut (inl first) = subst (IsCutAt trace.start trace.entries trace.logged) (sym (at.at ∙ first)) (cut_first trace.start trace.entries trace.logged)
      cut (inr is) = subst (IsCutAt trace.start trace.entries trace.logged) (sym at.at) (cuts (last_shown trace.start at.shown) is)

  pub right_reads : (reads : List LogRead) → AllByRecursion (IsAtEnd trace.start seen) reads → AllByRecursion (IsRight (λ (batches : List Logged). trace.kept ≡ Some batches) last calls) reads → AllByRecursion (IsLogRead trace) reads
  right_reads [] at right = tt
  right_reads (r ∷ reads) at right = (right_read r at.0 right.0, right_reads reads at.1 right.1)
