-- The replies to a group.
use Rattle.std.proofs.Common.{◌≡◌, ℕ, List, [], ◌∷◌, ◌++◌, refl}
use Rattle.line_rule.specs.declared.view.Handling.{Handling}
use Rattle.line_rule.specs.declared.view.QueuedWriter.{QueuedWriter}
use Rattle.line_rule.specs.Rule.{given_runs}
use Rattle.line_writers.specs.Roles.{IsMember, AreMembers}

-- where no reply gives a run, no handling has one
pub none_numbered : {Q P : Type 0} (hs : List (Handling Q P)) → given_runs (λ (p : P). (0, 0)) hs ≡ []
none_numbered [] = refl
none_numbered (h ∷ hs) = none_numbered hs

-- one more client that is a member
pub are_more : {Q P : Type 0} (n : ℕ) (ks : List ℕ) (k : ℕ) (gs : List (QueuedWriter Q × P)) → AreMembers n ks gs → IsMember n k gs → AreMembers n (ks ++ k ∷ []) gs
are_more n [] k gs all one = (one, tt)
are_more n (j ∷ ks) k gs all one = (all.0, are_more n ks k gs all.1 one)
