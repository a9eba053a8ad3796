-- What was seen of a trace at some time, and what was seen of it before that.
use Rattle.std.proofs.Common.{◌≡◌, ℕ, ◌≤◌, List, [], ◌∷◌, ◌++◌, length, map, refl, ap, sym, ◌∙◌, subst, arith, append_assoc}
use mathlib.Core.List.{IsPrefix}
use Rattle.std.specs.List.{AllByRecursion}
use Rattle.model_base.specs.History.{Entry, IsHistory, last_of as last_of_entry, last_sequence, map_over}
use Rattle.model_base.specs.Map.{Pairs, after_records}
use Rattle.model_base.specs.Replies.{IsLogRead}
use Rattle.model_base.specs.Trace.{Trace}
use Rattle.model_base.proofs.Prefixes.{prefix_self, prefix_trans}
use Rattle.table_rule.specs.declared.content.MemberVersions.{MemberVersions}
use Rattle.table_rule.specs.declared.content.Version.{Version}
use Rattle.table_rule.specs.Histories.{Begins, Images, versions_of, record_of, map_of as map_of_versions}
use Rattle.table_rule.proofs.Histories.{begins_same, begins_trans, longer}
use Rattle.table_rule.proofs.Images.{images_versions}
use Rattle.model_accounts.specs.Versions.{versions_of_entry, versions_of_entries}
use Rattle.model_accounts.specs.Sights.{Sight, WasLogged, last_seen, map_seen, Sees, Saw}
use Rattle.model_accounts.proofs.Versions.{versions_reach, after_append, after_entries}

-- Earlier and later

pub sees_self : (v : Sight) → Sees v v
sees_self v = record { start = refl; opening = refl; published = begins_same v.published; controller_calls = prefix_self v.controller_calls; log_reads = prefix_self v.log_reads; logged = omega arith; batches = prefix_self v.batches }

pub sees_on : (u v w : Sight) → Sees u v → Sees v w → Sees u w
sees_on u v w a b = record {
  start = b.start ∙ a.start;
  opening = b.opening ∙ a.opening;
  published = begins_trans u.published v.published w.published a.published b.published;
  controller_calls = prefix_trans u.controller_calls v.controller_calls w.controller_calls a.controller_calls b.controller_calls;
  log_reads = prefix_trans u.log_reads v.log_reads w.log_reads a.log_reads b.log_reads;
  logged = (let low = a.logged in let high = b.logged in omega (arith, low, high));
  batches = prefix_trans u.batches v.batches w.batches a.batches b.batches;
}

-- the last sequence that was seen published doesn't fall
pub last_rises : (v w : Sight) → Sees v w → last_seen v ≤ last_seen w
last_rises v w s = let more = longer v.published w.published s.published in let start = s.start in omega (arith, more, start)

-- if each of these groups was made by entries of its own, the first groups were made by the first entries
cut : (entries : List Entry) (some groups : List (List MemberVersions)) → Images versions_of_entry entries groups → Begins some groups
    → (first : List Entry) × IsPrefix first entries × Images versions_of_entry first some
cut entries [] groups are begins = ([], (entries, refl), refl)
cut entries (g ∷ some) groups are begins =
    let all : Images versions_of_entry entries (g ∷ (some ++ begins.0)) = subst (Images versions_of_entry entries) begins.1 are in
    let rest = cut all.1 some (some ++ begins.0) all.4 (begins.0, refl) in (
      all.0 ++ rest.0,
      (rest.1.0, append_assoc all.0 rest.0 rest.1.0 ∙ (ap (λ l. all.0 ++ l) rest.1.1 ∙ sym all.2)),
      (all.0, rest.0, refl, all.3, rest.2),
    )

-- if the groups that were seen published are the first ones of all published groups, they may have been seen of the
-- trace whose entries made all those
pub saw_published : (trace : Trace) (history : List (List MemberVersions)) → Images versions_of_entry trace.entries history → (sight : Sight) → sight.start ≡ trace.start → sight.opening ≡ trace.opening
    → Begins sight.published history → IsPrefix sight.controller_calls trace.controller_calls → AllByRecursion (IsLogRead trace) sight.log_reads → sight.logged ≤ length trace.log_calls → AllByRecursion (WasLogged trace.log_calls) sight.batches → Saw sight trace
saw_published trace history are sight start opening begins calls reads logged own =
    let first = cut trace.entries sight.published history are begins in
    record { start = start; opening = opening; entries = first.0; begins = first.1; groups = first.2; controller_calls = calls; log_reads = reads; logged = logged; batches = own }

-- if some versions made the map before these groups, then these versions and the groups' ones make the map that was
-- seen
pub seen_of_all : (sight : Sight) (before : List Version) → sight.opening ≡ map_of_versions before → map_of_versions (before ++ versions_of sight.published) ≡ map_seen sight
seen_of_all sight before is = after_append [] before (versions_of sight.published) ∙ ap (λ (m : Pairs). after_records m (map record_of (versions_of sight.published))) (sym is)

-- what holds of all elements holds of those of a prefix
all_of_first : {A : Type 0} (P : A → Type 0) (xs rest : List A) → AllByRecursion P (xs ++ rest) → AllByRecursion P xs
all_of_first P [] rest all = tt
all_of_first P (x ∷ xs) rest all = (all.0, all_of_first P xs rest all.1)

all_of_prefix : {A : Type 0} (P : A → Type 0) (xs ys : List A) → IsPrefix xs ys → AllByRecursion P ys → AllByRecursion P xs
all_of_prefix P xs ys p all = all_of_first P xs p.0 (subst (AllByRecursion P) (sym p.1) all)

-- what was seen earlier may have been seen of the same trace
pub saw_earlier : (v w : Sight) → Sees v w → (trace : Trace) → Saw w trace → Saw v trace
saw_earlier v w sees trace saw =
    let first = cut saw.entries v.published w.published saw.groups sees.published in
    record {
      start = sym sees.start ∙ saw.start;
      opening = sym sees.opening ∙ saw.opening;
      entries = first.0;
      begins = prefix_trans first.0 saw.entries trace.entries first.1 saw.begins;
      groups = first.2;
      controller_calls = prefix_trans v.controller_calls w.controller_calls trace.controller_calls sees.controller_calls saw.controller_calls;
      log_reads = all_of_prefix (IsLogRead trace) v.log_reads w.log_reads sees.log_reads saw.log_reads;
      logged = (let low = sees.logged in let high = saw.logged in omega (arith, low, high));
      batches = all_of_prefix (WasLogged trace.log_calls) v.batches w.batches sees.batches saw.batches;
    }

-- What was seen published was made by the trace's first entries

history_before : (start : ℕ) (first rest : List Entry) → IsHistory start (first ++ rest) → IsHistory start first
history_before start [] rest is = tt
history_before start (e ∷ first) rest is = (is.0, history_before (last_of_entry e) first rest is.1)

module _ (sight : Sight) (trace : Trace) (is_history : IsHistory trace.start trace.entries) (saw : Saw sight trace) where
  same_versions : versions_of_entries saw.entries ≡ versions_of sight.published
  same_versions = images_versions versions_of_entry saw.entries sight.published saw.groups

  pub seen_ends : last_seen sight ≡ last_sequence trace.start saw.entries
  seen_ends =
      let is = history_before trace.start saw.entries saw.begins.0 (subst (IsHistory trace.start) (sym saw.begins.1) is_history) in
      let reach = versions_reach trace.start saw.entries is in
      let same = ap length same_versions in
      let start = saw.start in
      omega (arith, reach, same, start)

  pub seen_map : map_seen sight ≡ map_over trace.opening saw.entries
  seen_map =
      ap (λ (m : Pairs). after_records m (map record_of (versions_of sight.published))) saw.opening
      ∙ ap (λ vs. after_records trace.opening (map record_of vs)) (sym same_versions)
      ∙ after_entries trace.opening saw.entries
