-- The records of a log's groups are batches that recovery reads, and their runs rise.
use Rattle.std.proofs.Common.{◌≡◌, ◌≢◌, inl, inr, ℕ, zero, suc, ◌+◌, ◌-◌, ◌*◌, ◌^◌, ◌<◌, ◌≤◌, Bool, true, false, eqb, IsTrue, Some, None, IfSome, List, [], ◌∷◌, ◌++◌, length, take, map, flat_map, cond, ◌==◌, refl, ap, sym, ◌∙◌, subst, arith, length-append}
use Rattle.std.proofs.lemmas.Bool.{eqb-true, ne_eqb, or_cases}
use Rattle.std.proofs.lemmas.Grind.{flat_map-append}
use Rattle.std.proofs.lemmas.List.{length-map, take-map, map-append}
use Rattle.std.proofs.lemmas.List.Sums.{count_by-le-length, sum_by-append}
use Rattle.std.proofs.lemmas.Map.Steps.{length-le_from_distinct_below}
use Rattle.std.specs.List.{AllByRecursion, AllZip, IsDistinct, list_any}
use Rattle.model_base.specs.declared.limits.TheConstants.{MAX_CLIENTS, MAX_SIZE}
use Rattle.model_base.specs.Varint.{varint}
use Rattle.model_base.specs.Batch.{Record, value, deletion, single_deletion, log_data, tag_of, is_tag, named_by, family_bytes, strings_of, is_counted, count_of, varstring, record_bytes, header, body, size_of_batch, IsReadable, IsBatch}
use Rattle.model_base.specs.Progress.{families_in}
use Rattle.model_base.specs.History.{Entry, max_sequence, last_of, IsHistory, RunsFollow, last_sequence, is_logged, logged_entries}
use Rattle.model_base.specs.LogContents.{GroupCall, record_of_entries, records_of}
use Rattle.model_base.specs.Recovery.{Logged, logged_bytes, last_after, AreInOrder, last_sequence as last_kept}
use Rattle.log_writer.specs.Crashes.{AreRisingBatches}
use Rattle.model_runs.specs.Written.{AreOfOwnClients, WroteEntries}
use Rattle.run_outcome.specs.Running.{AreReadable, batch_of_group as as_logged}

-- A small batch can be read

strings_short : (strings : List (List ℕ)) → length (flat_map varstring strings) < 2 ^ 32 → AllByRecursion (λ s. length s < 2 ^ 32) strings
strings_short [] few = tt
strings_short (s ∷ strings) few =
    let all = length-append (varstring s) (flat_map varstring strings) in
    (omega (arith, few, all, length-append (varint (length s)) s), strings_short strings (omega (arith, few, all)))

each_tag : (r : Record) → IsTrue (is_tag (tag_of r))
each_tag (value None key v) = refl
each_tag (value (Some family) key v) = refl
each_tag (deletion None key) = refl
each_tag (deletion (Some family) key) = refl
each_tag (single_deletion None key) = refl
each_tag (single_deletion (Some family) key) = refl
each_tag (log_data blob) = refl

-- the families of records have numbers of 32 bits
abbrev AreSmall : List Record → Type 0
AreSmall records = AllByRecursion (λ (f : ℕ). f < 2 ^ 32) (families_in records)

first_family : (r : Record) (records : List Record) → AreSmall (r ∷ records) → IfSome (named_by r) (λ f. f < 2 ^ 32) × AreSmall records
first_family (value None key v) records small = (tt, small.1)
first_family (value (Some family) key v) records small = small
first_family (deletion None key) records small = (tt, small.1)
first_family (deletion (Some family) key) records small = small
first_family (single_deletion None key) records small = (tt, small.1)
first_family (single_deletion (Some family) key) records small = small
first_family (log_data blob) records small = (tt, small)

all_families : (xs ys : List Record) → AreSmall xs → AreSmall ys → AreSmall (xs ++ ys)
all_families [] ys a b = b
all_families (value family key v ∷ xs) ys a b = (a.0, all_families xs ys a.1 b)
all_families (deletion family key ∷ xs) ys a b = (a.0, all_families xs ys a.1 b)
all_families (single_deletion family key ∷ xs) ys a b = (a.0, all_families xs ys a.1 b)
all_families (log_data blob ∷ xs) ys a b = all_families xs ys a b

readable : (records : List Record) → length (body records) < 2 ^ 32 → AreSmall records → AllByRecursion IsReadable records
readable [] few small = tt
readable (r ∷ records) few small =
    let all = length-append (record_bytes r) (body records) in
    let own = length-append (family_bytes (named_by r)) (flat_map varstring (strings_of r)) in
    let families = first_family r records small in (
      record { tag = each_tag r; family = families.0; lengths = strings_short (strings_of r) (omega (arith, few, all, own)) },
      readable records (omega (arith, few, all)) families.1,
    )

-- each record has at least one byte
few_records : (records : List Record) → length records ≤ length (body records)
few_records [] = omega arith
few_records (r ∷ records) = omega (arith, few_records records, length-append (record_bytes r) (body records))

-- A group is read as one batch of all its records

abbrev joined : List Entry → List Record
joined entries = flat_map (λ (records : List Record). records) (map (λ (e : Entry). e.records) entries)

abbrev HasEntries : List Entry → Type 0
HasEntries group = 0 < length group

same_records : (groups : List (List Entry)) → AllByRecursion HasEntries groups → map logged_bytes (map as_logged groups) ≡ records_of groups
same_records [] some = refl
same_records ([] ∷ groups) some = absurd (omega (arith, some.0))
same_records ((e ∷ entries) ∷ groups) some = ap (λ l. record_of_entries (e ∷ entries) ∷ l) (same_records groups some.1)

-- a batch of at most 16 MiB, whose families have numbers of 32 bits
abbrev pub IsBounded : Entry → Type 0
IsBounded e = (size_of_batch e.records ≤ MAX_SIZE) × AllByRecursion (λ (f : ℕ). f < 2 ^ 32) (families_in e.records)

-- such a batch, of one of 64 clients
abbrev pub Suits : Entry → Type 0
Suits e = IsBounded e × (e.client ≤ MAX_CLIENTS)

body_joined : (entries : List Entry) → AllByRecursion Suits entries → length (body (joined entries)) ≤ MAX_SIZE * length entries
body_joined [] suit = omega arith
body_joined (e ∷ entries) suit =
    let small : size_of_batch e.records ≤ MAX_SIZE = suit.0.0.0 in
    omega (arith, small, length-append (header 0 (count_of e.records)) (body e.records), ap length (flat_map-append record_bytes e.records (joined entries)), length-append (body e.records) (body (joined entries)), body_joined entries suit.1)

families_joined : (entries : List Entry) → AllByRecursion Suits entries → AreSmall (joined entries)
families_joined [] suit = tt
families_joined (e ∷ entries) suit = all_families e.records (joined entries) suit.0.0.1 (families_joined entries suit.1)

-- No client has two entries in a group. So a group has few entries (no more than there are numbers up to the greatest
-- client), and its batches have less than 2 ^ 32 bytes together.

distinct : (entries : List Entry) → AreOfOwnClients entries → IsDistinct eqb (map (λ (e : Entry). e.client) entries)
unfolding IsDistinct
distinct [] apart = tt
distinct (e ∷ entries) apart = (each entries apart.0, distinct entries apart.1)
  where
    each : (others : List Entry) → AllByRecursion (λ (other : Entry). e.client ≢ other.client) others → AllByRecursion (λ (n : ℕ). eqb e.client n ≡ false) (map (λ (x : Entry). x.client) others)
    each [] all = tt
    each (x ∷ others) all = (ne_eqb e.client x.client all.0, each others all.1)

below : (entries : List Entry) → AllByRecursion Suits entries → (q : ℕ) → list_any (eqb q) (map (λ (e : Entry). e.client) entries) ≡ true → q < MAX_CLIENTS + 1
below [] suit q among = absurd (cc among)
below (e ∷ entries) suit q among = elim (or_cases (eqb q e.client) (list_any (eqb q) (map (λ (x : Entry). x.client) entries)) among) [
  | inl here ↦ (let client = suit.0.1 in omega (arith, eqb-true q e.client here, client))
  | inr later ↦ below entries suit.1 q later
]

few_entries : (entries : List Entry) → AreOfOwnClients entries → AllByRecursion Suits entries → length entries ≤ MAX_CLIENTS + 1
few_entries entries apart suit = omega (arith, length-map entries (λ (e : Entry). e.client), length-le_from_distinct_below (map (λ (e : Entry). e.client) entries) (MAX_CLIENTS + 1) (distinct entries apart) (below entries suit))

-- The runs of the logged entries rise, whatever is between them

record Above (low : ℕ) (e : Entry) : Type 0 where
  first : low < e.first
  some : 1 ≤ e.count
  counted : e.count ≡ count_of e.records
  fits : last_of e ≤ max_sequence

Rise : ℕ → List Entry → Type 0
Rise low [] = Unit {0}
Rise low (e ∷ entries) = Above low e × Rise (last_of e) entries

logged_rise : (low start : ℕ) (entries : List Entry) → low ≤ start → IsHistory start entries → Rise low (logged_entries entries)
unfolding Rise
logged_rise low start [] le is = tt
logged_rise low start (e ∷ entries) le is =
    let follows = is.0 in
    by_flag (is_logged e.flag) (record { first = let first = follows.first in omega (arith, first, le); some = follows.some; counted = follows.counted; fits = follows.fits })
    (λ before within. logged_rise before (last_of e) entries within is.1)
  where
    by_flag : (b : Bool) → Above low e → ((before : ℕ) → before ≤ last_of e → Rise before (logged_entries entries)) → Rise low (cond b (e ∷ logged_entries entries) (logged_entries entries))
    by_flag true above later = (above, later (last_of e) (omega arith))
    by_flag false above later = let follows = is.0 in later low (let first = follows.first in let some = follows.some in omega (arith, first, some, le))

rise_parts : (low : ℕ) (xs ys : List Entry) → Rise low (xs ++ ys) → Rise low xs × Rise (last_sequence low xs) ys
unfolding Rise
rise_parts low [] ys rise = (tt, rise)
rise_parts low (e ∷ xs) ys rise = let parts = rise_parts (last_of e) xs ys rise.1 in ((rise.0, parts.0), parts.1)

rise_ends : (low : ℕ) (entries : List Entry) → low ≤ max_sequence → Rise low entries → last_sequence low entries ≤ max_sequence
unfolding Rise
rise_ends low [] within rise = within
rise_ends low (e ∷ entries) within rise = rise_ends (last_of e) entries (rise.0).fits rise.1

-- the counts of entries whose runs follow each other lead from the sequence before the first run to the last sequence
-- of the runs
count_joined : (e : Entry) (entries : List Entry) → count_of (joined (e ∷ entries)) ≡ count_of e.records + count_of (joined entries)
count_joined e entries = sum_by-append (λ r. cond (is_counted r) 1 0) e.records (joined entries)

run_ends : (last : ℕ) (entries : List Entry) → IsHistory last entries → last + count_of (joined entries) ≡ last_sequence last entries
run_ends last [] is = omega arith
run_ends last (e ∷ entries) is =
    let follows = is.0 in
    let first = follows.first in
    let counted = follows.counted in
    omega (arith, first, counted, count_joined e entries, run_ends (last_of e) entries is.1)

-- Each group is a batch, and each comes after the one before it

abbrev pub IsOwnBatch : Logged → Type 0
IsOwnBatch b = IsBatch (logged_bytes b) b.first b.records

-- what is known of a group that a call wrote
record IsSmall (group : List Entry) : Type 0 where
  some : HasEntries group
  suit : AllByRecursion Suits group
  apart : AreOfOwnClients group
  runs : RunsFollow group

is_own : (low : ℕ) (e : Entry) (entries : List Entry) → IsSmall (e ∷ entries) → Above low e → IsOwnBatch (as_logged (e ∷ entries))
is_own low e entries small above =
    let records : List Record = joined (e ∷ entries) in
    let few : length (body records) < 2 ^ 32 = omega (arith, body_joined (e ∷ entries) small.suit, few_entries (e ∷ entries) small.apart small.suit) in
    record {
      spelled = refl;
      readable = readable records few (families_joined (e ∷ entries) small.suit);
      sequence_fits = omega (arith, above.fits, above.some);
      count_fits = omega (arith, few, few_records records, count_by-le-length is_counted records);
    }

last_within : (low last end n : ℕ) → low ≤ end → last ≤ end → cond (n == 0) low last ≤ end
last_within low last end n before after = by_count (n == 0)
  where
    by_count : (b : Bool) → cond b low last ≤ end
    by_count true = before
    by_count false = after

abbrev pub all_of : List (List Entry) → List Entry
all_of groups = flat_map (λ (group : List Entry). group) groups

are_own : (low : ℕ) (groups : List (List Entry)) → AllByRecursion IsSmall groups → Rise low (all_of groups) → AllByRecursion IsOwnBatch (map as_logged groups)
unfolding Rise
are_own low [] small rise = tt
are_own low ([] ∷ groups) small rise = absurd (let some = (small.0).some in omega (arith, some))
are_own low ((e ∷ entries) ∷ groups) small rise =
    (is_own low e entries small.0 rise.0, are_own (last_sequence low (e ∷ entries)) groups small.1 (rise_parts low (e ∷ entries) (all_of groups) rise).1)

in_order : (low start : ℕ) (groups : List (List Entry)) → low ≤ start → AllByRecursion IsSmall groups → Rise start (all_of groups) → AreInOrder low (map as_logged groups)
unfolding Rise
in_order low start [] le small rise = tt
in_order low start ([] ∷ groups) le small rise = absurd (let some = (small.0).some in omega (arith, some))
in_order low start ((e ∷ entries) ∷ groups) le small rise =
    let above = rise.0 in
    let first : start < e.first = above.first in
    let some : 1 ≤ e.count = above.some in
    let counted : e.count ≡ count_of e.records = above.counted in
    let parts = rise_parts start (e ∷ entries) (all_of groups) rise in
    let n : ℕ = count_of (joined (e ∷ entries)) in
    let end : ℕ = last_sequence (last_of e) entries in
    let is_end : e.first + n - 1 ≡ end = omega (arith, counted, some, count_joined e entries, run_ends (last_of e) entries (small.0).runs) in (
      λ counts. (omega (arith, first, le), omega (arith, is_end, rise_ends (last_of e) entries above.fits (parts.0).1)),
      in_order (last_after low (as_logged (e ∷ entries))) end groups
          (last_within low (e.first + n - 1) end n (omega (arith, le, first, is_end, some, counted, count_joined e entries)) (omega (arith, is_end))) small.1 parts.1,
    )

-- What holds of all entries holds of those of the groups

all_logged : (P : Entry → Type 0) (entries : List Entry) → AllByRecursion P entries → AllByRecursion P (logged_entries entries)
all_logged P [] all = tt
all_logged P (e ∷ entries) all = by_flag (is_logged e.flag) (all_logged P entries all.1)
  where
    by_flag : (b : Bool) → AllByRecursion P (logged_entries entries) → AllByRecursion P (cond b (e ∷ logged_entries entries) (logged_entries entries))
    by_flag true later = (all.0, later)
    by_flag false later = later

all_parts : (P : Entry → Type 0) (xs ys : List Entry) → AllByRecursion P (xs ++ ys) → AllByRecursion P xs × AllByRecursion P ys
all_parts P [] ys all = (tt, all)
all_parts P (x ∷ xs) ys all = let parts = all_parts P xs ys all.1 in ((all.0, parts.0), parts.1)

has_entries : (group : List Entry) (c : GroupCall) → WroteEntries group c → HasEntries group
has_entries [] c wrote = absurd (cc wrote.some)
has_entries (e ∷ entries) c wrote = omega arith

pub each_has_entries : (groups : List (List Entry)) (calls : List GroupCall) → AllZip WroteEntries groups calls → AllByRecursion HasEntries groups
each_has_entries [] calls each = tt
each_has_entries (group ∷ groups) [] each = absurd each
each_has_entries (group ∷ groups) (c ∷ calls) each = (has_entries group c each.0, each_has_entries groups calls each.1)

are_small : (groups : List (List Entry)) (calls : List GroupCall) → AllZip WroteEntries groups calls → AllByRecursion RunsFollow groups → AllByRecursion Suits (all_of groups) → AllByRecursion IsSmall groups
are_small [] calls each runs suit = tt
are_small (group ∷ groups) [] each runs suit = absurd each
are_small (group ∷ groups) (c ∷ calls) each runs suit =
    let parts = all_parts Suits group (all_of groups) suit in
    (record { some = has_entries group c each.0; suit = parts.0; apart = (each.0).apart; runs = runs.0 }, are_small groups calls each.1 runs.1 parts.1)

all_take : {A : Type 0} (P : A → Type 0) (n : ℕ) (xs : List A) → AllByRecursion P xs → AllByRecursion P (take n xs)
all_take P zero xs all = tt
all_take P (suc n) [] all = tt
all_take P (suc n) (x ∷ xs) all = (all.0, all_take P n xs all.1)

order_take : (last n : ℕ) (batches : List Logged) → AreInOrder last batches → AreInOrder last (take n batches)
order_take last zero batches ordered = tt
order_take last (suc n) [] ordered = tt
order_take last (suc n) (b ∷ batches) ordered = (ordered.0, order_take (last_after last b) n batches ordered.1)

-- After batches that a log keeps

-- these records are batches whose runs rise, up to a last sequence
pub record AreKept (start : ℕ) (records : List (List ℕ)) : Type 0 where
  pub batches : List Logged
  pub same : map logged_bytes batches ≡ records
  pub each : AllByRecursion IsOwnBatch batches
  pub rising : AreInOrder 0 batches
  pub below : last_kept 0 batches ≤ start

all_joined : {A : Type 0} (P : A → Type 0) (xs ys : List A) → AllByRecursion P xs → AllByRecursion P ys → AllByRecursion P (xs ++ ys)
all_joined P [] ys first later = later
all_joined P (x ∷ xs) ys first later = (first.0, all_joined P xs ys first.1 later)

order_joined : (last : ℕ) (xs ys : List Logged) → AreInOrder last xs → AreInOrder (last_kept last xs) ys → AreInOrder last (xs ++ ys)
order_joined last [] ys first later = later
order_joined last (x ∷ xs) ys first later = (first.0, order_joined (last_after last x) xs ys first.1 later)

-- kept records, and after them the records of the first `n` groups, are batches whose runs rise
pub rising_groups : (start : ℕ) (entries : List Entry) (groups : List (List Entry)) (calls : List GroupCall) (n : ℕ) → IsHistory start entries → AllByRecursion Suits entries
    → all_of groups ≡ logged_entries entries → AllByRecursion RunsFollow groups → AllZip WroteEntries groups calls → (records : List (List ℕ)) → AreKept start records → AreRisingBatches (records ++ take n (records_of groups))
rising_groups start entries groups calls n is suit cut runs each records kept =
    let small = are_small groups calls each runs (subst (AllByRecursion Suits) (sym cut) (all_logged Suits entries suit)) in
    let low : ℕ = last_kept 0 kept.batches in
    let rise = subst (Rise low) (sym cut) (logged_rise low start entries kept.below is) in
    let batches : List Logged = map as_logged groups in
    let more : map logged_bytes (take n batches) ≡ take n (records_of groups) = sym (take-map logged_bytes n batches) ∙ ap (take n) (same_records groups (each_has_entries groups calls each)) in
    record {
      batches = kept.batches ++ take n batches;
      same = map-append logged_bytes kept.batches (take n batches) ∙ ap (λ (l : List (List ℕ)). l ++ map logged_bytes (take n batches)) kept.same ∙ ap (λ (l : List (List ℕ)). records ++ l) more;
      each = all_joined IsOwnBatch kept.batches (take n batches) kept.each (all_take IsOwnBatch n batches (are_own low groups small rise));
      rising = order_joined 0 kept.batches (take n batches) kept.rising (order_take low n batches (in_order low low groups (omega arith) small rise));
    }

-- kept batches, and after them one batch for each group, can be recovered
pub readable_groups : (start : ℕ) (entries : List Entry) (groups : List (List Entry)) (calls : List GroupCall) → IsHistory start entries → AllByRecursion Suits entries
    → all_of groups ≡ logged_entries entries → AllByRecursion RunsFollow groups → AllZip WroteEntries groups calls → (records : List (List ℕ)) (kept : AreKept start records) → AreReadable (kept.batches ++ map as_logged groups)
readable_groups start entries groups calls is suit cut runs each records kept =
    let small = are_small groups calls each runs (subst (AllByRecursion Suits) (sym cut) (all_logged Suits entries suit)) in
    let low : ℕ = last_kept 0 kept.batches in
    let rise = subst (Rise low) (sym cut) (logged_rise low start entries kept.below is) in (
      all_joined IsOwnBatch kept.batches (map as_logged groups) kept.each (are_own low groups small rise),
      order_joined 0 kept.batches (map as_logged groups) kept.rising (in_order low low groups (omega arith) small rise),
    )
