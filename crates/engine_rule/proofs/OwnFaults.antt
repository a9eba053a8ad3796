-- That each fault of a read is a count of its own holds of the reads in the log's order, and so of them client by client.
use Rattle.std.proofs.Common.{◌≡◌, ◌≢◌, ℕ, zero, suc, ◌+◌, ◌-◌, ◌^◌, ◌<◌, ◌≤◌, ◌==◌, Bool, true, false, cond, filter, slice_get, List, [], ◌∷◌, ◌++◌, flat_map, Option, Some, length, refl, ap, sym, ◌∙◌, subst, arith, append_assoc}
use Rattle.std.specs.List.{AllByRecursion}
use Rattle.std.proofs.lemmas.Bool.{eq-eqb, ne_eqb}
use mathlib.Core.Logic.{dite}
use native.Mathlib.Decide.{ℕ_discrete}
use Rattle.model_base.specs.Outcomes.{AreOwnFaults}
use Rattle.model_accounts.specs.Accounts.{Account}
use Rattle.model_accounts.specs.Closing.{all_read_faults}
use Rattle.engine_rule.specs.Reading.{AnsweredRead, ReadAnswer, gave, broke, lacked, answers_in, answers_of, faults_in, faults_with}
use Rattle.engine_rule.proofs.OneGroup.{all_append}

-- What holds of what all reads were told holds of what each client was told
module _ {A : Type 0} (P : A → Type 0) where
  pub all_before : (xs ys : List A) → AllByRecursion P (xs ++ ys) → AllByRecursion P xs
  all_before [] ys all = tt
  all_before (x ∷ xs) ys all = (all.0, all_before xs ys all.1)

  pub all_behind : (xs ys : List A) → AllByRecursion P (xs ++ ys) → AllByRecursion P ys
  all_behind [] ys all = all
  all_behind (x ∷ xs) ys all = all_behind xs ys all.1

  all_insert : (xs : List A) (x : A) (ys : List A) → P x → AllByRecursion P (xs ++ ys) → AllByRecursion P (xs ++ x ∷ ys)
  all_insert [] x ys here all = (here, all)
  all_insert (y ∷ xs) x ys here all = (all.0, all_insert xs x ys here all.1)

  pub all_of_client : (told : ReadAnswer → List A) (client : ℕ) (reads : List AnsweredRead) → AllByRecursion P (flat_map told (answers_in reads)) → AllByRecursion P (flat_map told (answers_of client reads))
  all_of_client told client [] all = tt
  all_of_client told client (r ∷ reads) all = by (r.client == client) (all_of_client told client reads (all_behind (told r.answer) (flat_map told (answers_in reads)) all))
    where
      own : List AnsweredRead
      own = filter (λ (x : AnsweredRead). x.client == client) reads

      by : (b : Bool) → AllByRecursion P (flat_map told (answers_in own)) → AllByRecursion P (flat_map told (answers_in (cond b (r ∷ own) own)))
      by true more = all_append P (told r.answer) (flat_map told (answers_in own)) (all_before (told r.answer) (flat_map told (answers_in reads)) all) more
      by false more = more

-- the faults of n clients, from this one on, one client after another
abbrev pub by_client : ℕ → ℕ → List AnsweredRead → List ℕ
by_client from zero reads = []
by_client from (suc n) reads = faults_in (answers_of from reads) ++ by_client (from + 1) n reads

none_by_client : (from n : ℕ) → by_client from n [] ≡ []
none_by_client from zero = refl
none_by_client from (suc n) = none_by_client (from + 1) n

all_by_client : (P : ℕ → Type 0) (from n : ℕ) (reads : List AnsweredRead) → AllByRecursion P (faults_in (answers_in reads)) → AllByRecursion P (by_client from n reads)
all_by_client P from zero reads all = tt
all_by_client P from (suc n) reads all = all_append P (faults_in (answers_of from reads)) (by_client (from + 1) n reads) (all_of_client P faults_with from reads all) (all_by_client P (from + 1) n reads all)

-- one more read adds its fault to those of its client alone
abbrev faults_if : ℕ → AnsweredRead → List AnsweredRead → Bool → List ℕ
faults_if client r reads b = faults_in (answers_in (cond b (r ∷ filter (λ (x : AnsweredRead). x.client == client) reads) (filter (λ (x : AnsweredRead). x.client == client) reads)))

other_client : (client : ℕ) (r : AnsweredRead) (reads : List AnsweredRead) → (r.client ≡ client → ⊥) → faults_in (answers_of client (r ∷ reads)) ≡ faults_in (answers_of client reads)
other_client client r reads other = ap (faults_if client r reads) (ne_eqb r.client client other)

own_client : (client : ℕ) (r : AnsweredRead) (reads : List AnsweredRead) → r.client ≡ client → faults_in (answers_of client (r ∷ reads)) ≡ faults_with r.answer ++ faults_in (answers_of client reads)
own_client client r reads same = ap (faults_if client r reads) (eq-eqb r.client client same)

later_clients : (from n : ℕ) (r : AnsweredRead) (reads : List AnsweredRead) → r.client < from → by_client from n (r ∷ reads) ≡ by_client from n reads
later_clients from zero r reads low = refl
later_clients from (suc n) r reads low =
    let other = other_client from r reads (λ same. omega (arith, same, low)) in
    let more = later_clients (from + 1) n r reads (omega (arith, low)) in
    λ i. other i ++ more i

-- the faults with one more read, and without it
abbrev IsAmong : ℕ → ℕ → AnsweredRead → List AnsweredRead → Type 0
IsAmong from n r reads = (xs ys : List ℕ) × (by_client from n reads ≡ xs ++ ys) × (by_client from n (r ∷ reads) ≡ xs ++ (faults_with r.answer ++ ys))

one_among : (from n : ℕ) (r : AnsweredRead) (reads : List AnsweredRead) → from ≤ r.client → r.client < from + n → IsAmong from n r reads
one_among from zero r reads low high = absurd (omega (arith, low, high))
one_among from (suc n) r reads low high =
    let own = faults_in (answers_of from reads) in
    let rest = by_client (from + 1) n reads in
    dite (ℕ_discrete r.client from)
    (λ (same : r.client ≡ from).
    let later = later_clients (from + 1) n r reads (omega (arith, same)) in
    let here = own_client from r reads same in
    ([], own ++ rest, refl, (λ i. here i ++ later i) ∙ append_assoc (faults_with r.answer) own rest))
    (λ (other : r.client ≡ from → ⊥).
    let past : from + 1 ≤ r.client = omega (arith, other, low) in
    let s = one_among (from + 1) n r reads past (omega (arith, high)) in
    let here = other_client from r reads other in
    (own ++ s.0, s.1, ap (λ l. own ++ l) s.2 ∙ sym (append_assoc own s.0 s.1), (λ i. here i ++ s.3 i) ∙ sym (append_assoc own s.0 (faults_with r.answer ++ s.1))))

module _ (ended : ℕ) (fault : Option ℕ) where
  abbrev AreOwn : List ℕ → Type 0
  AreOwn counts = AreOwnFaults ended fault counts

  own_insert : (xs : List ℕ) (x : ℕ) (ys : List ℕ) → x ≤ ended → (x < 2 ^ 64 - 1 → (fault ≢ Some x) × AllByRecursion (λ other. other ≢ x) (xs ++ ys)) → AreOwn (xs ++ ys) → AreOwn (xs ++ x ∷ ys)
  own_insert [] x ys low apart own = (low, apart, own)
  own_insert (y ∷ xs) x ys low apart own = (
    own.0,
    λ small. ((own.1 small).0, all_insert (λ other. other ≢ y) xs x ys (λ same. (apart (subst (λ n. n < 2 ^ 64 - 1) (sym same) small)).1.0 (sym same)) (own.1 small).1),
    own_insert xs x ys low (λ small. ((apart small).0, (apart small).1.1)) own.2,
  )

  pub own_by_client : (clients : ℕ) (reads : List AnsweredRead) → AllByRecursion (λ (r : AnsweredRead). (1 ≤ r.client) × (r.client ≤ clients)) reads → AreOwn (faults_in (answers_in reads)) → AreOwn (by_client 1 clients reads)
  own_by_client clients [] of own = subst AreOwn (sym (none_by_client 1 clients)) tt
  own_by_client clients (r ∷ reads) of own =
      let s = one_among 1 clients r reads of.0.0 (let high = of.0.1 in omega (arith, high)) in
      subst AreOwn (sym s.3) (by s.0 s.1 s.2 r.answer own (own_by_client clients reads of.1))
    where
      by : (xs ys : List ℕ) → by_client 1 clients reads ≡ xs ++ ys → (answer : ReadAnswer) → AreOwn (faults_with answer ++ faults_in (answers_in reads)) → (AreOwn (faults_in (answers_in reads)) → AreOwn (by_client 1 clients reads)) → AreOwn (xs ++ (faults_with answer ++ ys))
      by xs ys split (gave q) now others = subst AreOwn split (others now)
      by xs ys split lacked now others = subst AreOwn split (others now)
      by xs ys split (broke count) now others =
          own_insert xs count ys now.0 (λ small. ((now.1 small).0, subst (AllByRecursion (λ (other : ℕ). other ≢ count)) split (all_by_client (λ other. other ≢ count) 1 clients reads (now.1 small).1))) (subst AreOwn split (others now.2))

-- the faults in the accounts of all clients
pub faults_of_accounts : (from : ℕ) (accounts : List Account) (reads : List AnsweredRead) → ((i : ℕ) (a : Account) → slice_get accounts i ≡ Some a → a.read_faults ≡ faults_in (answers_of (from + i) reads)) → all_read_faults accounts ≡ by_client from (length accounts) reads
faults_of_accounts from [] reads are = refl
faults_of_accounts from (a ∷ accounts) reads are =
    let here : from + 0 ≡ from = omega arith in
    let first = are 0 a refl ∙ ap (λ k. faults_in (answers_of k reads)) here in
    let more = faults_of_accounts (from + 1) accounts reads (λ i b there. are (suc i) b there ∙ ap (λ k. faults_in (answers_of k reads)) (next i)) in
    λ i. first i ++ more i
  where
    next : (i : ℕ) → from + suc i ≡ from + 1 + i
    next i = omega arith

-- all faults, where the reads were of these clients alone, are those of the clients' accounts
pub no_faults : (clients : ℕ) (reads : List AnsweredRead) → AllByRecursion (λ (r : AnsweredRead). (1 ≤ r.client) × (r.client ≤ clients)) reads → by_client 1 clients reads ≡ [] → faults_in (answers_in reads) ≡ []
no_faults clients [] of none = refl
no_faults clients (r ∷ reads) of none =
    let s = one_among 1 clients r reads of.0.0 (let high = of.0.1 in omega (arith, high)) in
    by s.0 s.1 s.2 r.answer (sym s.3 ∙ none) (no_faults clients reads of.1)
  where
    back_empty : (xs ys : List ℕ) → xs ++ ys ≡ [] → ys ≡ []
    back_empty [] ys is = is
    back_empty (x ∷ xs) ys is = absurd (cc)

    by : (xs ys : List ℕ) → by_client 1 clients reads ≡ xs ++ ys → (answer : ReadAnswer) → xs ++ (faults_with answer ++ ys) ≡ [] → (by_client 1 clients reads ≡ [] → faults_in (answers_in reads) ≡ []) → faults_with answer ++ faults_in (answers_in reads) ≡ []
    by xs ys split (gave q) is more = more (split ∙ is)
    by xs ys split lacked is more = more (split ∙ is)
    by xs ys split (broke count) is more = absurd (let empty = back_empty xs (count ∷ ys) is in cc)
