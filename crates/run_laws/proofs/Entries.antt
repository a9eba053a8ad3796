-- A history's entries, taken client by client.
use Rattle.std.proofs.Common.{◌≡◌, ℕ, ◌≤◌, Bool, true, false, cond, ◌==◌, List, [], ◌∷◌, refl, subst, arith}
use Rattle.std.specs.List.{AllByRecursion}
use Rattle.std.proofs.lemmas.Bool.Decides.{nat_tests}
use Rattle.model_base.specs.History.{Entry}
use Rattle.model_base.specs.Outcomes.{entries_of_client}

pub same_number : (a b : ℕ) → a ≡ b → (a == b) ≡ true
same_number a b e = grind (arith, nat_tests)

-- the clients of these entries are among the numbers from 1 to this one
abbrev pub AreOfClients : ℕ → List Entry → Type 0
AreOfClients clients entries = AllByRecursion (λ (e : Entry). (1 ≤ e.client) × (e.client ≤ clients)) entries

-- what holds of the entries of each client holds of all
all_tail : (Q : Entry → Type 0) (b : Bool) (e : Entry) (entries : List Entry) → AllByRecursion Q (cond b (e ∷ entries) entries) → AllByRecursion Q entries
all_tail Q true e entries a = a.1
all_tail Q false e entries a = a

all_head : (Q : Entry → Type 0) (e : Entry) (entries : List Entry) → AllByRecursion Q (entries_of_client e.client (e ∷ entries)) → Q e
all_head Q e entries a = (subst (λ b. AllByRecursion Q (cond b (e ∷ entries_of_client e.client entries) (entries_of_client e.client entries))) (same_number e.client e.client refl) a).0

pub all_of_clients : (Q : Entry → Type 0) (clients : ℕ) (entries : List Entry) → AreOfClients clients entries
    → ((client : ℕ) → 1 ≤ client → client ≤ clients → AllByRecursion Q (entries_of_client client entries)) → AllByRecursion Q entries
all_of_clients Q clients [] named each = tt
all_of_clients Q clients (e ∷ entries) named each = (
  all_head Q e entries (each e.client named.0.0 named.0.1),
  all_of_clients Q clients entries named.1 (λ client some most. all_tail Q (e.client == client) e (entries_of_client client entries) (each client some most)),
)
