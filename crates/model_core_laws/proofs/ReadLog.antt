-- A read of the log at a published sequence is right then, and stays so: the groups that the log gets later have later
-- sequences.
use Rattle.std.proofs.Common.{◌≡◌, ℕ, zero, suc, ◌<◌, ◌&&◌, ◌==◌, nat_le, not, Bool, true, false, List, [], ◌∷◌, ◌++◌, length, map, filter, flat_map, Contains, refl, ap, sym, ◌∙◌, subst, arith, append-nil}
use mathlib.Core.List.{IsPrefix}
use Rattle.std.specs.List.{AllByRecursion}
use Rattle.std.proofs.Math.Seq.{take-append_seam, drop-append_seam}
use Rattle.std.proofs.lemmas.Bool.{leb-true}
use Rattle.std.proofs.lemmas.List.{map-append}
use Rattle.std.proofs.lemmas.List.Concat.{flat_map-append}
use Rattle.std.proofs.lemmas.List.Elements.{filter-append}
use Rattle.model_base.specs.History.{Entry, IsHistory, RunsFollow, IsUpTo, logged_entries, is_logged}
use Rattle.model_base.specs.LogContents.{AreGroupsOf}
use Rattle.model_base.specs.Since as log
use Rattle.model_core.specs.Core.{Options, Client, Writer, State, cut_by, log_groups}
use Rattle.model_core.specs.CoreLaw.{IsCore, is_logged_group}
use Rattle.model_core.specs.Replies.{ReadsLog}
use Rattle.model_core_laws.proofs.Histories.{history_right, history_above}
use Rattle.model_core_laws.proofs.Lists.{all_front, all_back, all_contained, all_weaker, all_filtered, append_parts}
use Rattle.model_core_laws.proofs.Told.{IsReadAnswer}

-- The log's groups are the parts of the law

pub cut_parts : (parts : List (List Entry)) → cut_by (map length parts) (flat_map (λ p. p) parts) ≡ parts
cut_parts [] = refl
cut_parts (p ∷ parts) = rw (take-append_seam p (flat_map (λ p. p) parts), drop-append_seam p (flat_map (λ p. p) parts)) (ap (λ ps. p ∷ ps) (cut_parts parts))

pub groups_are : (s : State) (parts : List (List Entry)) → logged_entries s.entries ≡ flat_map (λ p. p) parts → s.groups ≡ map length parts → log_groups s ≡ parts
groups_are s parts cut groups = rw (cut, groups) (cut_parts parts)

-- A record of later entries isn't given

some_of : (k : ℕ) → (k == 0) ≡ false → 0 < k
some_of zero e = absurd (cc)
some_of (suc k) e = omega arith

none_since : (n at : ℕ) (r : log.LogRecord) → at < r.first → log.is_since n at r ≡ false
none_since n at r later = by (r.count == 0) refl (nat_le n (log.last_of r)) (nat_le (log.last_of r) at) refl
  where
    by : (a : Bool) → (r.count == 0) ≡ a → (b c : Bool) → nat_le (log.last_of r) at ≡ c → (not a && b && c) ≡ false
    by true none b c up = refl
    by false some false c up = refl
    by false some true false up = refl
    by false some true true up = absurd (let last = leb-true (log.last_of r) at up in let counts = some_of r.count some in omega (arith, last, counts, later))

later_group : (n at : ℕ) (g : List Entry) → 0 < length g → AllByRecursion (λ (x : Entry). at < x.first) g → log.is_since n at (log.record_of_group g) ≡ false
later_group n at [] some later = absurd (omega arith)
later_group n at (x ∷ xs) some later = none_since n at (log.record_of_group (x ∷ xs)) later.0

later_groups : (n at : ℕ) (gs : List (List Entry)) → AllByRecursion (λ g. 0 < length g) gs → AllByRecursion (λ (x : Entry). at < x.first) (flat_map (λ g. g) gs) → log.since n at (log.records_in [] gs) ≡ []
later_groups n at [] some later = refl
later_groups n at (g ∷ gs) some later = rw (later_group n at g some.0 (all_front _ g (flat_map (λ g. g) gs) later)) (later_groups n at gs some.1 (all_back _ g (flat_map (λ g. g) gs) later))

pub since_append : (n at : ℕ) (gs hs : List (List Entry)) → log.since n at (log.records_in [] (gs ++ hs)) ≡ log.since n at (log.records_in [] gs) ++ log.since n at (log.records_in [] hs)
since_append n at gs hs =
    ap (λ rs. map (λ (r : log.LogRecord). r.bytes) (filter (log.is_since n at) rs)) (map-append log.record_of_group gs hs)
    ∙ (ap (map (λ (r : log.LogRecord). r.bytes)) (filter-append (log.is_since n at) (map log.record_of_group gs) (map log.record_of_group hs))
    ∙ map-append (λ (r : log.LogRecord). r.bytes) (filter (log.is_since n at) (map log.record_of_group gs)) (filter (log.is_since n at) (map log.record_of_group hs)))

-- The groups up to a sequence give what all groups of the log give: the others have later sequences.
pub same_given : (o : Options) (s : State) (n at : ℕ) (front : List Entry) (groups : List (List Entry)) → IsCore o s → IsUpTo o.start s.entries at front → IsPrefix groups (log_groups s) → AreGroupsOf front groups
    → log.since n at (log.records_in [] (log_groups s)) ≡ log.since n at (log.records_in [] groups)
same_given o s n at front groups core is_front in_log up_to =
    let more = in_log.0 in
    let whole : log_groups s ≡ core.parts = groups_are s core.parts core.cut core.groups in
    let split : core.parts ≡ groups ++ more = sym whole ∙ sym in_log.1 in
    let history : IsHistory at is_front.rest = subst (λ n. IsHistory n is_front.rest) (sym is_front.ends)
    (history_right o.start front is_front.rest (subst (IsHistory o.start) is_front.split core.is_history)) in
    let above : AllByRecursion (λ (x : Entry). at < x.first) is_front.rest = all_weaker (λ x. Contains is_front.rest x) (λ (x : Entry). at < x.first)
    (λ x is. history_above at is_front.rest x history is) is_front.rest (all_contained is_front.rest) in
    let logged : AllByRecursion (λ (x : Entry). at < x.first) (logged_entries is_front.rest) = all_filtered (λ (x : Entry). at < x.first) (λ (x : Entry). is_logged x.flag) is_front.rest
    (all_weaker (λ (x : Entry). at < x.first) (λ (x : Entry). is_logged x.flag ≡ true → at < x.first) (λ x is _. is) is_front.rest above) in
    let joined : logged_entries front ++ logged_entries is_front.rest ≡ flat_map (λ g. g) groups ++ flat_map (λ g. g) more =
    sym (ap logged_entries is_front.split ∙ filter-append (λ (x : Entry). is_logged x.flag) front is_front.rest)
    ∙ (core.cut ∙ (ap (flat_map (λ g. g)) split ∙ flat_map-append (λ (g : List Entry). g) groups more)) in
    let behind = (append_parts (logged_entries front) (flat_map (λ g. g) groups) (logged_entries is_front.rest) (flat_map (λ g. g) more) (ap length up_to.cut) joined).1 in
    let later = later_groups n at more (all_back (λ (g : List Entry). 0 < length g) groups more (subst (AllByRecursion (λ (g : List Entry). 0 < length g)) split core.none_empty)) (subst (AllByRecursion (λ (x : Entry). at < x.first)) behind logged) in
    ap (λ gs. log.since n at (log.records_in [] gs)) (sym in_log.1)
    ∙ (since_append n at groups more
    ∙ (ap (λ rs. log.since n at (log.records_in [] groups) ++ rs) later ∙ append-nil (log.since n at (log.records_in [] groups))))

-- What is told of a read is right in the history so far
pub read_is_right : (o : Options) (s : State) (client : Client) (w : Writer) (at : ℕ) → IsCore o s → (told : IsReadAnswer o s client w at) → ReadsLog o s client.calls told.from at (log.since told.from at (log.records_in [] (log_groups s)))
read_is_right o s client w at core told = record {
  reads = record { front = told.front; is_front = told.is_front; not_below = told.not_below; answer = tt };
  groups = told.groups;
  in_log = told.in_log;
  up_to = told.up_to;
  answer = same_given o s told.from at told.front told.groups core told.is_front told.in_log told.up_to;
}

-- The groups up to the published sequence
pub published_groups : (o : Options) (s : State) (core : IsCore o s) → IsPrefix core.at_boundary.before (log_groups s) × AreGroupsOf core.front core.at_boundary.before
published_groups o s core =
    let before = core.at_boundary.before in
    let ahead = filter is_logged_group core.at_boundary.ahead in
    let split = core.at_boundary.split in (
      (ahead, sym split ∙ sym (groups_are s core.parts core.cut core.groups)),
      record {
        cut = core.at_boundary.cut;
        none_empty = all_front (λ (g : List Entry). 0 < length g) before ahead (subst (AllByRecursion (λ (g : List Entry). 0 < length g)) split core.none_empty);
        runs = all_front RunsFollow before ahead (subst (AllByRecursion RunsFollow) split core.runs);
      },
    )
