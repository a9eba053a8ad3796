-- What is said of those that are refused while a leader stalls writes.
use Rattle.std.specs.Prelude.{◌≡◌, ℕ, not, ◌==◌, List, filter, Some}
use Rattle.model_base.specs.Outcomes.{entries_of_client}
use Rattle.model_core.specs.Core.{Client, State, client_at}
use Rattle.model_core.specs.Replies.{entries_told}

-- a line of clients without one of them: the others keep their order
abbrev pub line_without : ℕ → List ℕ → List ℕ
line_without c line = filter (λ n. not (n == c)) line

-- all that the history has of a client is of commits of which it knows that they were accepted
abbrev pub HasNoMore : State → ℕ → Type 0
HasNoMore s c = (client : Client) → client_at s c ≡ Some client
    → entries_of_client c s.entries ≡ entries_told c client.calls
