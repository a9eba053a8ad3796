-- The group that a leader has in hand.
use Rattle.std.specs.Prelude.{◌≡◌, ℕ, Bool, true, false, None, List, [], ◌∷◌}
use Rattle.std.specs.List.{AllByRecursion}
use Rattle.model_base.specs.Controller.{ControllerCall, Look}
use Rattle.engine_rule.specs.Plans.{CommitRequest, AreLawful, AreLogged, AreUnlogged, ComesAfter, IsAskedFor, IsWholeGroup, ProceedsWith}
use Rattle.engine_rule.specs.LogCalls.{SyncsFor}
use Rattle.engine_parts.specs.declared.requests.Request.{Request}
use Rattle.engine_parts.specs.Handled.{commit_requests_of}

-- none of the requests may wait, or all of them may
abbrev pub AreAlike : Bool → List CommitRequest → Type 0
AreAlike no_slowdown requests = AllByRecursion (λ (q : CommitRequest). q.options.no_slowdown ≡ no_slowdown) requests

-- The requests of a whole group of writes, its leader's first. Either all are logged, or none is. Where one asks for a
-- sync, its leader does too. Either all may wait, or none may.
pub record IsLedGroup (group_bytes clients : ℕ) (requests : List (ℕ × Request)) : Type 0 where
  pub first : ℕ × Request
  pub rest : List (ℕ × Request)
  pub leads : requests ≡ first ∷ rest
  pub lawful : AreLawful clients (commit_requests_of requests)
  pub whole : IsWholeGroup group_bytes (commit_requests_of requests)
  pub logged : first.1.options.no_log ≡ false → AreLogged (commit_requests_of requests)
  pub unlogged : first.1.options.no_log ≡ true → AreUnlogged (commit_requests_of requests)
  pub syncs : SyncsFor (commit_requests_of requests) first.1.options.sync
  pub writes : AllByRecursion (λ (x : ℕ × Request). x.1.since ≡ None) requests
  pub slowdown : AreAlike first.1.options.no_slowdown (commit_requests_of requests)

-- the first request is this client's own
abbrev pub LeadsBy : ℕ → List (ℕ × Request) → Type 0
LeadsBy number [] = ⊥
LeadsBy number (x ∷ requests) = x.0 ≡ number

-- A leader has this group in hand, has asked for its delay after all that the leaders before it had seen (`asked`), and
-- goes on with it. It has seen the controller's history up to the delay (`known`), and up to `went` when it was decided
-- that the group goes on.
pub record GoesOnWith (group_bytes clients : ℕ) (asked : List ControllerCall) (requests : List (ℕ × Request))
    (known went : List ControllerCall) : Type 0 where
  pub led : IsLedGroup group_bytes clients requests
  pub numbers : Look
  pub comes_after : ComesAfter asked known
  pub asked_for : IsAskedFor (commit_requests_of requests) numbers known
  pub proceeds : ProceedsWith (commit_requests_of requests) numbers known went
