-- Clients whose plans are small, as they go through their lines.
use Rattle.std.proofs.Common.{◌≡◌, ◌+◌, ◌≤◌, List, [], ◌∷◌, ◌++◌, Some, arith}
use Rattle.model_base.specs.declared.limits.TheConstants.{MAX_SIZE}
use Rattle.model_base.specs.declared.write.WriteOptions.{WriteOptions}
use Rattle.model_base.specs.Batch.{Record, size_of_batch}
use Rattle.model_base.specs.Calls.{Command, add, clear, commit, get, many, scan, updates, stop, unstop, slow, unslow, quiet, Call}
use Rattle.model_core.specs.Core as core
use Rattle.replay_plans.specs.Small.{AreSmall}
use Rattle.replay_plans.proofs.SizeLemmas.{size_is, size_push}

-- A plan that is small with a batch is small with a smaller one.
small_less : (less more : List Record) (left : List Command) → size_of_batch less ≤ size_of_batch more → AreSmall more left → AreSmall less left
small_less less more [] h small = tt
small_less less more (add r ∷ left) h small = small_less (less ++ r ∷ []) (more ++ r ∷ []) left (omega (arith, h, size_push less r, size_push more r)) small
small_less less more (clear ∷ left) h small = small
small_less less more (commit how ∷ left) h small = (omega (arith, h, small.0), small_less less more left h small.1)
small_less less more (get key ∷ left) h small = small_less less more left h small
small_less less more (many keys ∷ left) h small = small_less less more left h small
small_less less more (scan family lo hi ∷ left) h small = small_less less more left h small
small_less less more (updates n ∷ left) h small = small_less less more left h small
small_less less more (stop ∷ left) h small = small_less less more left h small
small_less less more (unstop ∷ left) h small = small_less less more left h small
small_less less more (slow rate ∷ left) h small = small_less less more left h small
small_less less more (unslow ∷ left) h small = small_less less more left h small

pub small_empty : (added : List Record) (left : List Command) → AreSmall added left → AreSmall [] left
small_empty added left small = small_less [] added left (omega (arith, size_is [], size_is added)) small

-- On the way to its next call a client's plan stays small.
pub small_ahead : (calls : List Call) (added : List Record) (left : List Command) (client : core.Client) → AreSmall added left
    → AreSmall ((core.ahead calls added left client).client.added) ((core.ahead calls added left client).client.left)
small_ahead calls added [] client small = tt
small_ahead calls added (add r ∷ left) client small = small_ahead (calls ++ record { command = add r; reply = quiet } ∷ []) (added ++ r ∷ []) left client small
small_ahead calls added (clear ∷ left) client small = small_ahead (calls ++ record { command = clear; reply = quiet } ∷ []) [] left client small
small_ahead calls added (commit how ∷ left) client small = small.1
small_ahead calls added (get key ∷ left) client small = small
small_ahead calls added (many keys ∷ left) client small = small
small_ahead calls added (scan family lo hi ∷ left) client small = small
small_ahead calls added (updates n ∷ left) client small = small
small_ahead calls added (stop ∷ left) client small = small
small_ahead calls added (unstop ∷ left) client small = small
small_ahead calls added (slow rate ∷ left) client small = small
small_ahead calls added (unslow ∷ left) client small = small

-- A commit that is next has a small batch.
pub commit_small : (calls : List Call) (added : List Record) (left : List Command) (client : core.Client) (how : WriteOptions) → AreSmall added left
    → (core.ahead calls added left client).call ≡ Some (commit how) → size_of_batch ((core.ahead calls added left client).client.added) ≤ MAX_SIZE
commit_small calls added [] client how small e = cc
commit_small calls added (add r ∷ left) client how small e = commit_small (calls ++ record { command = add r; reply = quiet } ∷ []) (added ++ r ∷ []) left client how small e
commit_small calls added (clear ∷ left) client how small e = commit_small (calls ++ record { command = clear; reply = quiet } ∷ []) [] left client how small e
commit_small calls added (commit this ∷ left) client how small e = small.0
commit_small calls added (get key ∷ left) client how small e = cc
commit_small calls added (many keys ∷ left) client how small e = cc
commit_small calls added (scan family lo hi ∷ left) client how small e = cc
commit_small calls added (updates n ∷ left) client how small e = cc
commit_small calls added (stop ∷ left) client how small e = cc
commit_small calls added (unstop ∷ left) client how small e = cc
commit_small calls added (slow rate ∷ left) client how small e = cc
commit_small calls added (unslow ∷ left) client how small e = cc
