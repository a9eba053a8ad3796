-- All that a client adds fits into one batch, since each record is shorter than its line.
use Rattle.std.proofs.Common.{zero, suc, ◌/◌, ◌%◌, ◌*◌, ◌^◌, Bool, true, false, cond, nat_lt, ◌≡◌, ℕ, ◌+◌, ◌<◌, ◌≤◌, List, [], ◌∷◌, ◌++◌, length, sum_by, Option, Some, None, decimal, refl, ap, subst, arith, pow-suc, length-append}
use Rattle.std.specs.List.{AllByRecursion}
use Rattle.std.specs.Str.Parse.{digits_value}
use Rattle.std.proofs.lemmas.Bool.{cond-true, lt-ltb, ltb-false}
use Rattle.std.proofs.lemmas.Fmt.{decimal_is_IsNumeral, decimal_nonempty}
use Rattle.std.proofs.lemmas.Int.Digits.{digits_value-lt}
use Rattle.std.proofs.lemmas.List.{append-nil}
use Rattle.std.proofs.lemmas.List.Sums.{sum_by-cons}
use Rattle.model_base.specs.declared.limits.TheConstants.{MAX_SIZE}
use Rattle.model_base.specs.Varint.{varint, varint_within}
use Rattle.model_base.specs.Batch.{Record, value, deletion, single_deletion, log_data, tag_of, count_of, varstring, family_bytes, record_bytes, header, body, size_of_batch}
use Rattle.model_base.specs.Calls.{Command, add, clear, commit, get, many, scan, updates, stop, unstop, slow, unslow}
use Rattle.run_scripts.specs.declared.script.Script.{Script}
use Rattle.run_scripts.specs.declared.language.Language.{Language}
use Rattle.run_scripts.specs.Languages.{IsCommandOf, HasCommandsOf}
use Rattle.run_scripts.specs.Scripts.{additions_of, FitsBatches, line_len, family_len, lines_len, script_len, IsShort, NamesSmall}

-- the length of a short word is spelled in at most two bytes
one_byte : (k n : ℕ) → n < 128 → length (varint_within (suc k) n) ≡ 1
unfolding varint_within
one_byte k n small = ap length (cond-true (nat_lt n 128) (n ∷ []) ((128 + n % 128) ∷ varint_within k (n / 128)) (lt-ltb n 128 small))

two_bytes : (n : ℕ) → n ≤ 1024 → length (varint n) ≤ 2
unfolding varint_within
two_bytes n short = by_size (nat_lt n 128) (one_byte 3 (n / 128) (omega arith))
  where
    by_size : (b : Bool) → length (varint_within 4 (n / 128)) ≡ 1 → length (cond b (n ∷ []) ((128 + n % 128) ∷ varint_within 4 (n / 128))) ≤ 2
    by_size true one = omega arith
    by_size false one = omega arith

-- a word after its length
word_len : (w : List ℕ) → IsShort w → (length (varstring w) ≤ length w + 2) × (length w ≤ 1024)
word_len w short = (omega (arith, two_bytes (length w) short.1, length-append (varint (length w)) w), short.1)

-- A number is spelled in no more bytes than it has decimal digits

few_bytes : (k d n : ℕ) → n < 10 ^ suc d → length (varint_within k n) ≤ suc d
unfolding varint_within
few_bytes zero d n small = omega arith
few_bytes (suc k) d n small = by_size (nat_lt n 128) refl d small (λ e. few_bytes k e (n / 128))
  where
    by_size : (b : Bool) → nat_lt n 128 ≡ b → (d : ℕ) → n < 10 ^ suc d → ((e : ℕ) → n / 128 < 10 ^ suc e → length (varint_within k (n / 128)) ≤ suc e)
        → length (cond b (n ∷ []) ((128 + n % 128) ∷ varint_within k (n / 128))) ≤ suc d
    by_size true less d small later = omega arith
    by_size false more zero small later = absurd (omega (arith, small, ltb-false n 128 more))
    by_size false more (suc e) small later = omega (arith, later e (tenth (10 ^ suc e) (omega (arith, small, pow-suc 10 (suc e)))))
      where
        tenth : (power : ℕ) → n < 10 * power → n / 128 < power
        tenth power small = omega (arith, small)

value_within : (f : ℕ) → f < 2 ^ 64 → f < 10 ^ length (decimal f)
value_within f fits =
    let numeral = decimal_is_IsNumeral f fits in
    subst (λ (n : ℕ). n < 10 ^ length (decimal f)) numeral.1 (digits_value-lt 10 (decimal f) numeral.0.1)

family_within : (f : ℕ) → f < 2 ^ 32 → length (varint f) ≤ length (decimal f)
family_within f small = by_len (length (decimal f)) (decimal_nonempty f (omega (arith, small))) (value_within f (omega (arith, small)))
  where
    by_len : (d : ℕ) → 0 < d → f < 10 ^ d → length (varint f) ≤ d
    by_len zero some within = absurd (omega (arith, some))
    by_len (suc d) some within = few_bytes 5 d f within

at_most : (k n : ℕ) → length (varint_within k n) ≤ k
unfolding varint_within
at_most zero n = omega arith
at_most (suc k) n = by_size (nat_lt n 128) (at_most k (n / 128))
  where
    by_size : (b : Bool) → length (varint_within k (n / 128)) ≤ k → length (cond b (n ∷ []) ((128 + n % 128) ∷ varint_within k (n / 128))) ≤ suc k
    by_size true rest = omega arith
    by_size false rest = omega (arith, rest)

-- the bytes by which a record names its family
names_len : (family : Option ℕ) → NamesSmall family → (length (family_bytes family) ≤ family_len family) × (length (family_bytes family) ≤ 5)
names_len None small = (omega arith, omega arith)
names_len (Some f) small = (omega (arith, family_within f small), at_most 5 f)

-- a record of one string and of two
one_len : (tag : ℕ) (name w : List ℕ) → length (tag ∷ (name ++ (varstring w ++ []))) ≡ 1 + length name + length (varstring w)
one_len tag name w = omega (arith, length-append name (varstring w ++ []), ap length (append-nil (varstring w)))

two_len : (tag : ℕ) (name w v : List ℕ) → length (tag ∷ (name ++ (varstring w ++ (varstring v ++ [])))) ≡ 1 + length name + length (varstring w) + length (varstring v)
two_len tag name w v = omega (arith, length-append name (varstring w ++ (varstring v ++ [])), length-append (varstring w) (varstring v ++ []), ap length (append-nil (varstring v)))

-- how long records are together, where their lines have this length
record IsWithin (rs : List Record) (len : ℕ) : Type 0 where
  lines : length (body rs) + length rs ≤ len
  words : length (body rs) ≤ 2058 * length rs

-- a command that adds a record, and one that adds none
with_record : (r : Record) (c : Command) (cs : List Command) (rs : List Record) → length (record_bytes r) + 1 ≤ line_len c → length (record_bytes r) ≤ 2058 → IsWithin rs (lines_len cs) → IsWithin (r ∷ rs) (lines_len (c ∷ cs))
with_record r c cs rs line words rest = record {
  lines = omega (arith, line, rest.lines, length-append (record_bytes r) (body rs), sum_by-cons line_len c cs);
  words = omega (arith, words, rest.words, length-append (record_bytes r) (body rs));
}

without_record : (c : Command) (cs : List Command) (rs : List Record) → IsWithin rs (lines_len cs) → IsWithin rs (lines_len (c ∷ cs))
without_record c cs rs rest = record { lines = omega (arith, rest.lines, sum_by-cons line_len c cs); words = rest.words }

within : (language : Language) (cs : List Command) → AllByRecursion (IsCommandOf language) cs → IsWithin (additions_of cs) (lines_len cs)
within language [] short = record { lines = omega arith; words = omega arith }
within language (add (value family key v) ∷ cs) short =
    let f = names_len family short.0.0 in
    let k = word_len key short.0.1 in
    let w = word_len v short.0.2 in
    let len = two_len (tag_of (value family key v)) (family_bytes family) key v in
    with_record (value family key v) (add (value family key v)) cs _ (omega (arith, f, k, w, len)) (omega (arith, f, k, w, len)) (within language cs short.1)
within language (add (deletion family key) ∷ cs) short =
    let f = names_len family short.0.0 in
    let k = word_len key short.0.1 in
    let len = one_len (tag_of (deletion family key)) (family_bytes family) key in
    with_record (deletion family key) (add (deletion family key)) cs _ (omega (arith, f, k, len)) (omega (arith, f, k, len)) (within language cs short.1)
within language (add (single_deletion family key) ∷ cs) short =
    let f = names_len family short.0.0 in
    let k = word_len key short.0.1 in
    let len = one_len (tag_of (single_deletion family key)) (family_bytes family) key in
    with_record (single_deletion family key) (add (single_deletion family key)) cs _ (omega (arith, f, k, len)) (omega (arith, f, k, len)) (within language cs short.1)
within language (add (log_data text) ∷ cs) short =
    let k = word_len text short.0 in
    with_record (log_data text) (add (log_data text)) cs _ (omega (arith, k, one_len 3 [] text)) (omega (arith, k, one_len 3 [] text)) (within language cs short.1)
within language (clear ∷ cs) short = without_record clear cs _ (within language cs short.1)
within language (commit options ∷ cs) short = without_record (commit options) cs _ (within language cs short.1)
within language (get key ∷ cs) short = without_record (get key) cs _ (within language cs short.1)
within language (many keys ∷ cs) short = without_record (many keys) cs _ (within language cs short.1)
within language (scan family lo hi ∷ cs) short = without_record (scan family lo hi) cs _ (within language cs short.1)
within language (updates n ∷ cs) short = without_record (updates n) cs _ (within language cs short.1)
within language (stop ∷ cs) short = without_record stop cs _ (within language cs short.1)
within language (unstop ∷ cs) short = without_record unstop cs _ (within language cs short.1)
within language (slow rate ∷ cs) short = without_record (slow rate) cs _ (within language cs short.1)
within language (unslow ∷ cs) short = without_record unslow cs _ (within language cs short.1)

-- Many records together are shorter than their lines by more than a batch's header; few records are short anyway.
client_fits : (language : Language) (cs : List Command) → AllByRecursion (IsCommandOf language) cs → lines_len cs ≤ 16777217 → size_of_batch (additions_of cs) ≤ MAX_SIZE
client_fits language cs short lines =
    let rs = additions_of cs in
    let small = within language cs short in
    omega (arith, small.lines, small.words, lines, length-append (header 0 (count_of rs)) (body rs))

clients_fit : (language : Language) (clients : List (List Command)) → AllByRecursion (AllByRecursion (IsCommandOf language)) clients → sum_by lines_len clients ≤ 16777217
    → AllByRecursion (λ cs. size_of_batch (additions_of cs) ≤ MAX_SIZE) clients
clients_fit language [] short lines = tt
clients_fit language (cs ∷ rest) short lines =
    let sum = sum_by-cons lines_len cs rest in
    (client_fits language cs short.0 (omega (arith, lines, sum)), clients_fit language rest short.1 (omega (arith, lines, sum)))

-- what is read from a text of 16 MiB
pub fits_batches : (language : Language) (script : Script) → HasCommandsOf language script → script_len script ≤ 16777217 → FitsBatches script
fits_batches language script short lines = clients_fit language script.clients.items short lines
