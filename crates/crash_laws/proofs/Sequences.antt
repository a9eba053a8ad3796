-- The last sequence of the batches of groups is that of the groups' entries.
use Rattle.std.proofs.Common.{◌≡◌, ◌≢◌, ℕ, ◌+◌, ◌-◌, ◌≤◌, Bool, true, false, cond, ◌==◌, List, [], ◌∷◌, ◌++◌, map, flat_map, refl, ap, sym, ◌∙◌, arith}
use Rattle.std.proofs.lemmas.Bool.{eqb-true}
use Rattle.std.proofs.lemmas.List.Sums.{fold-append, sum_by-append}
use Rattle.std.specs.List.{AllByRecursion}
use Rattle.model_base.specs.Batch.{Record, is_counted, count_of}
use Rattle.model_base.specs.History.{Entry, last_of, IsHistory, RunsFollow, is_logged, logged_entries, last_sequence as last_of_entries}
use Rattle.model_base.specs.Recovery.{Logged, last_after, last_sequence}
use Rattle.log_laws.proofs.Next.{cases_bool}
use Rattle.run_outcome.specs.Running.{batch_of_group}

-- the entry takes as many sequences as its records, and takes one
abbrev pub IsCounted : Entry → Type 0
IsCounted e = (e.count ≡ count_of e.records) × (1 ≤ e.count)

pub all_counted : (start : ℕ) (entries : List Entry) → IsHistory start entries → AllByRecursion IsCounted entries
all_counted start [] is = tt
all_counted start (e ∷ entries) is = let follows = is.0 in ((follows.counted, follows.some), all_counted (last_of e) entries is.1)

pub all_logged : (P : Entry → Type 0) (entries : List Entry) → AllByRecursion P entries → AllByRecursion P (logged_entries entries)
all_logged P [] all = tt
all_logged P (e ∷ entries) all = by_flag (is_logged e.flag) (all_logged P entries all.1)
  where
    by_flag : (b : Bool) → AllByRecursion P (logged_entries entries) → AllByRecursion P (cond b (e ∷ logged_entries entries) (logged_entries entries))
    by_flag true later = (all.0, later)
    by_flag false later = later

abbrev joined : List Entry → List Record
joined entries = flat_map (λ (records : List Record). records) (map (λ (e : Entry). e.records) entries)

count_joined : (e : Entry) (entries : List Entry) → count_of (joined (e ∷ entries)) ≡ count_of e.records + count_of (joined entries)
count_joined e entries = sum_by-append (λ r. cond (is_counted r) 1 0) e.records (joined entries)

-- entries that follow each other end as many sequences later as they have
run_ends : (last : ℕ) (entries : List Entry) → IsHistory last entries → last + count_of (joined entries) ≡ last_of_entries last entries
run_ends last [] is = omega arith
run_ends last (e ∷ entries) is =
    let follows = is.0 in
    let first = follows.first in
    let counted = follows.counted in
    let some = follows.some in
    omega (arith, first, counted, some, count_joined e entries, run_ends (last_of e) entries is.1)

last_of_group : (low : ℕ) (g : List Entry) → AllByRecursion IsCounted g → RunsFollow g → last_after low (batch_of_group g) ≡ last_of_entries low g
last_of_group low [] counted runs = refl
last_of_group low (e ∷ entries) counted runs =
    let n : ℕ = count_of (joined (e ∷ entries)) in
    let last : ℕ = last_of_entries (last_of e) entries in
    let some : 1 ≤ e.count = counted.0.1 in
    let count : e.count ≡ count_of e.records = counted.0.0 in
    let end : e.first + n - 1 ≡ last = omega (arith, some, count, count_joined e entries, run_ends (last_of e) entries runs) in
    cases_bool (n == 0)
    (λ zero. absurd (omega (arith, eqb-true n 0 zero, some, count, count_joined e entries)))
    (λ more. ap (λ (b : Bool). cond b low (e.first + n - 1)) more ∙ end)

last_joined : (low : ℕ) (xs ys : List Entry) → last_of_entries low (xs ++ ys) ≡ last_of_entries (last_of_entries low xs) ys
last_joined low [] ys = refl
last_joined low (x ∷ xs) ys = last_joined (last_of x) xs ys

all_first : (P : Entry → Type 0) (xs ys : List Entry) → AllByRecursion P (xs ++ ys) → AllByRecursion P xs × AllByRecursion P ys
all_first P [] ys all = (tt, all)
all_first P (x ∷ xs) ys all = let parts = all_first P xs ys all.1 in ((all.0, parts.0), parts.1)

abbrev pub AreCounted : List (List Entry) → Type 0
AreCounted groups = AllByRecursion (λ (g : List Entry). AllByRecursion IsCounted g × RunsFollow g) groups

pub are_counted : (groups : List (List Entry)) → AllByRecursion IsCounted (flat_map (λ (g : List Entry). g) groups) → AllByRecursion RunsFollow groups → AreCounted groups
are_counted [] counted runs = tt
are_counted (g ∷ groups) counted runs = let parts = all_first IsCounted g (flat_map (λ (x : List Entry). x) groups) counted in ((parts.0, runs.0), are_counted groups parts.1 runs.1)

pub last_of_groups : (low : ℕ) (groups : List (List Entry)) → AreCounted groups → last_sequence low (map batch_of_group groups) ≡ last_of_entries low (flat_map (λ (g : List Entry). g) groups)
last_of_groups low [] counted = refl
last_of_groups low (g ∷ groups) counted =
    ap (λ (n : ℕ). last_sequence n (map batch_of_group groups)) (last_of_group low g counted.0.0 counted.0.1) ∙ last_of_groups (last_of_entries low g) groups counted.1
    ∙ sym (last_joined low g (flat_map (λ (x : List Entry). x) groups))

pub last_of_log : (kept : List Logged) (groups : List (List Entry)) → AreCounted groups → last_sequence 0 (kept ++ map batch_of_group groups) ≡ last_of_entries (last_sequence 0 kept) (flat_map (λ (g : List Entry). g) groups)
last_of_log kept groups counted = fold-append last_after 0 kept (map batch_of_group groups) ∙ last_of_groups (last_sequence 0 kept) groups counted

-- where there are entries, their last sequence doesn't hang on what was before them
pub last_of_some : (low start : ℕ) (entries : List Entry) → entries ≢ [] → last_of_entries low entries ≡ last_of_entries start entries
last_of_some low start [] some = absurd (some refl)
last_of_some low start (e ∷ entries) some = refl
