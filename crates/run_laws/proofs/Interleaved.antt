-- Entries of several clients, interleaved in any way, and the same client by client: sums over them.
use Rattle.std.proofs.Common.{◌≡◌, ℕ, zero, suc, ◌+◌, ◌*◌, ◌<◌, ◌≤◌, true, false, ◌==◌, nat_le, List, [], ◌∷◌, length, map, filter, sum_by, Some, slice_get, refl, ap, subst, inl, inr, arith}
use Rattle.std.specs.List.{AllByRecursion}
use Rattle.std.proofs.lemmas.Bool.{cases_lt}
use Rattle.std.proofs.lemmas.Bool.Decides.{nat_tests}
use Rattle.std.proofs.lemmas.List.Sums.{sum_by-cons, sum_by-append}
use Rattle.model_base.specs.Batch.{Record}
use Rattle.model_base.specs.Calls.{Command}
use Rattle.model_base.specs.History.{Entry}
use Rattle.model_base.specs.Script.{Script}
use Rattle.model_base.specs.Outcomes.{entries_of_client}
use Rattle.run_laws.specs.Summaries.{batches_after, batches_of}

-- the entries of the clients whose numbers are at least this one
abbrev pub entries_from : ℕ → List Entry → List Entry
entries_from client entries = filter (λ (e : Entry). nat_le client e.client) entries

-- the clients of these entries have numbers below this one
abbrev pub AreBelow : ℕ → List Entry → Type 0
AreBelow clients entries = AllByRecursion (λ (e : Entry). e.client < clients) entries

-- the sum over these clients' entries is the sum over the first client's entries and the one over the later clients'
-- entries
module _ (f : Entry → ℕ) (client : ℕ) where
  abbrev Splits : List Entry → Type 0
  Splits entries = sum_by f (entries_from client entries) ≡ sum_by f (entries_of_client client entries) + sum_by f (entries_from (client + 1) entries)

  splits_more : (e : Entry) (entries : List Entry) → Splits entries → Splits (e ∷ entries)
  splits_more e entries so_far =
      elim (cases_lt e.client client) [
        | inl below ↦ (
            let none : nat_le client e.client ≡ false = grind (arith, nat_tests) in let other : (e.client == client) ≡ false = grind (arith, nat_tests) in
            let no_later : nat_le (client + 1) e.client ≡ false = grind (arith, nat_tests) in rw (none, other, no_later) so_far)
        | inr not_below ↦ elim (cases_lt client e.client) [
          | inl above ↦ (
              let one : nat_le client e.client ≡ true = grind (arith, nat_tests) in let other : (e.client == client) ≡ false = grind (arith, nat_tests) in
              let later : nat_le (client + 1) e.client ≡ true = grind (arith, nat_tests) in
              rw (one, other, later) (omega (arith, so_far, sum_by-cons f e (entries_from client entries), sum_by-cons f e (entries_from (client + 1) entries))))
          | inr not_above ↦ (
              let one : nat_le client e.client ≡ true = grind (arith, nat_tests) in let here : (e.client == client) ≡ true = grind (arith, nat_tests) in
              let no_later : nat_le (client + 1) e.client ≡ false = grind (arith, nat_tests) in
              rw (one, here, no_later) (omega (arith, so_far, sum_by-cons f e (entries_from client entries), sum_by-cons f e (entries_of_client client entries))))
        ]
      ]

  pub splits : (entries : List Entry) → Splits entries
  splits [] = refl
  splits (e ∷ entries) = splits_more e entries (splits entries)

none_from : (client : ℕ) (entries : List Entry) → AreBelow client entries → entries_from client entries ≡ []
none_from client [] below = refl
none_from client (e ∷ entries) below =
    let first = below.0 in let none : nat_le client e.client ≡ false = grind (arith, nat_tests) in rw none (none_from client entries below.1)

pub all_from_one : (entries : List Entry) → AllByRecursion (λ (e : Entry). 1 ≤ e.client) entries → entries_from 1 entries ≡ entries
all_from_one [] named = refl
all_from_one (e ∷ entries) named =
    let first = named.0 in let there : nat_le 1 e.client ≡ true = grind (arith, nat_tests) in rw there (ap (λ es. e ∷ es) (all_from_one entries named.1))

below_same : (m n : ℕ) (entries : List Entry) → m ≡ n → AreBelow m entries → AreBelow n entries
below_same m n entries e below = subst (λ k. AreBelow k entries) e below

-- if the sum over each of n clients' entries is at most `most`, the whole sum is at most n times that
pub sum_within : (f : Entry → ℕ) (most first n : ℕ) (entries : List Entry) → AreBelow (first + n) entries
    → ((client : ℕ) → first ≤ client → client < first + n → sum_by f (entries_of_client client entries) ≤ most) → sum_by f (entries_from first entries) ≤ n * most
sum_within f most first zero entries below each =
    let none = none_from first entries (below_same (first + 0) first entries (omega arith) below) in let sum : sum_by f (entries_from first entries) ≡ 0 = ap (sum_by f) none in omega (arith, sum)
sum_within f most first (suc n) entries below each =
    let rest = sum_within f most (first + 1) n entries (below_same (first + suc n) (first + 1 + n) entries (omega arith) below) (λ client some few. each client (omega arith) (omega arith)) in
    omega (arith, splits f first entries, rest, each first (omega arith) (omega arith))

-- The batches of clients, from this number on

-- the entries have just the batches of a script's clients
abbrev pub HaveBatches : List Entry → ℕ → Script → Type 0
HaveBatches entries first script =
    (i : ℕ) (commands : List Command) → slice_get script i ≡ Some commands → map (λ (e : Entry). e.records) (entries_of_client (first + i) entries) ≡ batches_after [] commands

pub batches_first : (entries : List Entry) (first : ℕ) (commands : List Command) (script : Script) → HaveBatches entries first (commands ∷ script)
    → map (λ (e : Entry). e.records) (entries_of_client first entries) ≡ batches_after [] commands
batches_first entries first commands script has =
    let number : first + 0 ≡ first = omega arith in
    subst (λ k. map (λ (e : Entry). e.records) (entries_of_client k entries) ≡ batches_after [] commands) number (has 0 commands refl)

pub batches_rest : (entries : List Entry) (first : ℕ) (commands : List Command) (script : Script) → HaveBatches entries first (commands ∷ script) → HaveBatches entries (first + 1) script
batches_rest entries first commands script has i others there =
    let number : first + suc i ≡ first + 1 + i = omega arith in
    subst (λ k. map (λ (e : Entry). e.records) (entries_of_client k entries) ≡ batches_after [] others) number (has (suc i) others there)

sum_by-map : (f : List Record → ℕ) (entries : List Entry) → sum_by f (map (λ (e : Entry). e.records) entries) ≡ sum_by (λ (e : Entry). f e.records) entries
sum_by-map f [] = refl
sum_by-map f (e ∷ entries) =
    omega (arith, sum_by-map f entries, sum_by-cons f e.records (map (λ (e : Entry). e.records) entries), sum_by-cons (λ (e : Entry). f e.records) e entries)

-- a sum over all batches is the one over the entries
pub sums_are : (f : List Record → ℕ) (entries : List Entry) (first : ℕ) (script : Script) → AreBelow (first + length script) entries → HaveBatches entries first script
    → sum_by (λ (e : Entry). f e.records) (entries_from first entries) ≡ sum_by f (batches_of script)
sums_are f entries first [] below has = ap (sum_by (λ (e : Entry). f e.records)) (none_from first entries (below_same (first + 0) first entries (omega arith) below))
sums_are f entries first (commands ∷ script) below has =
    let rest = sums_are f entries (first + 1) script (below_same (first + suc (length script)) (first + 1 + length script) entries (omega arith) below) (batches_rest entries first commands script has) in
    let one = ap (sum_by f) (batches_first entries first commands script has) in
    omega (arith, rest, one, sum_by-map f (entries_of_client first entries), splits (λ (e : Entry). f e.records) first entries, sum_by-append f (batches_after [] commands) (batches_of script))
