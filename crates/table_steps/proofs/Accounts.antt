-- From what the calls say of a seat to its account.
use Rattle.std.proofs.Common.{◌≡◌, ℕ, ◌+◌, ◌<◌, ◌≤◌, List, [], ◌∷◌, ◌++◌, Option, None, Some, Bool, true, false, if◌then◌else◌, refl, sym, ap, ◌∙◌, subst}
use Rattle.atomic_table.specs.Seated.{TableId}
use Rattle.table_rule.specs.declared.content.MemberVersions.{MemberVersions}
use Rattle.table_rule.specs.declared.content.Content.{Content}
use Rattle.table_rule.specs.declared.content.Version.{Version}
use Rattle.table_rule.specs.declared.view.Opening.{Opening}
use Rattle.table_rule.specs.declared.view.Stage.{Stage}
use Rattle.table_rule.specs.declared.view.Stage.TheVariants.{Idle, Waiting, Holding, Stored, Publishing, Resting, Handing, Filling}
use Rattle.table_rule.specs.declared.view.Launched.{Launched}
use Rattle.table_rule.specs.declared.view.Lock.TheVariants.{Free}
use Rattle.table_steps.specs.declared.launching.Turn.{Turn}
use Rattle.table_rule.specs.Histories.{Begins, IsHistory, last_of}
use Rattle.table_rule.specs.Rule.{seat_state}
use Rattle.table_rule.proofs.Histories.{last_snoc}
use Rattle.table_rule.specs.Steps.{SeatNow, IsAt, IsClient, IsPartOf, IsAwaited, MayTake, has_part, stage_after_launch, launched_behind, work}
use Rattle.table_calls.specs.Account.{Learns, Steps, Takes, Publishes}
use Rattle.table_steps.specs.Accounts.{launch_at, first_state, account_of, launch_of, Carries, Sits}

module _ {ShardTree NodeList : Type 0} where
  -- the stage that an account shows is the seat's
  pub staged : (c : ℕ) (z : Opening) (seen : List (List MemberVersions)) (stage st : Stage) (m : SeatNow ShardTree NodeList) → IsAt c z seen Free stage m → (first_state m.0).stage ≡ st → IsAt c z seen Free st m
  staged c z seen stage st m at e = at ∙ (λ i. seat_state c z seen Free ((ap (λ l. (first_state l).stage) (sym at) ∙ e) i) ∷ [])

  pub stage_of : (c : ℕ) (z : Opening) (seen : List (List MemberVersions)) (stage st : Stage) (m : SeatNow ShardTree NodeList) → IsAt c z seen Free stage m → (first_state m.0).stage ≡ st → stage ≡ st
  stage_of c z seen stage st m at e = ap (λ l. (first_state l).stage) (sym at) ∙ e

  pub account_at : (c : ℕ) (z : Opening) (seen : List (List MemberVersions)) (stage : Stage) (m : SeatNow ShardTree NodeList) (t : Option (Turn ShardTree NodeList)) → IsAt c z seen Free stage m → account_of c m t ≡ record { number = c; seen = seen; stage = stage; launched = launch_of t }
  account_at c z seen stage m t at = ap (λ l. record { number = c; seen = (first_state l).seen; stage = (first_state l).stage; launched = launch_of t }) at

  -- the stage of a seat that is between two calls is a client's
  pub client_stage : (k last : ℕ) (l : List (ℕ × Content ShardTree NodeList)) (stage : Stage) → Carries k last stage l → IsClient stage
  client_stage k last l Idle ok = tt
  client_stage k last l (Waiting u) ok = tt
  client_stage k last l (Holding w) ok = tt
  client_stage k last l (Stored u) ok = tt
  client_stage k last l (Publishing u) ok = tt
  client_stage k last l Resting ok = absurd ok
  client_stage k last l (Handing g ps) ok = absurd ok
  client_stage k last l (Filling g p ps) ok = absurd ok

  -- a client that launched carries no slot, with a part of its own or without
  pub launched_sits : (c k last : ℕ) (u : Launched) (l : List (ℕ × Content ShardTree NodeList)) → l ≡ [] → Carries {ShardTree = ShardTree} {NodeList = NodeList} k last (stage_after_launch c u) l
  launched_sits c k last u l nil = by (has_part c u.group)
    where
      by : (b : Bool) → Carries {ShardTree = ShardTree} {NodeList = NodeList} k last (if b then Waiting u else Idle) l
      by true = nil
      by false = nil

  -- a seat whose view is as it was has the same account
  pub same_account : (c d : ℕ) (z : Opening) (seen : List (List MemberVersions)) (stage : Stage) (m m' : SeatNow ShardTree NodeList) (t : Option (Turn ShardTree NodeList)) → d ≡ c → IsAt c z seen Free stage m → IsAt c z seen Free stage m' → account_of d m' t ≡ account_of c m t
  same_account c d z seen stage m m' t same a b = ap (λ (j : ℕ). account_of j m' t) same ∙ account_at c z seen stage m' t b ∙ sym (account_at c z seen stage m t a)

  pub steps_to : (c : ℕ) (z : Opening) (seen : List (List MemberVersions)) (old new : Stage) (m m' : SeatNow ShardTree NodeList) (t : Option (Turn ShardTree NodeList)) → IsAt c z seen Free old m → IsAt c z seen Free new m' → Steps (account_of c m t) new (account_of c m' t)
  steps_to c z seen old new m m' t a b = record {
    number = refl;
    seen = ap (λ l. (first_state l).seen) b ∙ sym (ap (λ l. (first_state l).seen) a);
    stage_is = ap (λ l. (first_state l).stage) b;
    launched = refl;
  }

  pub learns_to : (c : ℕ) (z : Opening) (seen : List (List MemberVersions)) (stage : Stage) (m m' : SeatNow ShardTree NodeList) (t : Option (Turn ShardTree NodeList)) → IsAt c z seen Free stage m → (now : List (List MemberVersions)) → IsAt c z now Free stage m' → Begins seen now → IsHistory z.start now → Learns z.start (account_of c m t) (account_of c m' t)
  learns_to c z seen stage m m' t a now b begins is_history =
      let s = sym (ap (λ l. (first_state l).seen) a) in let n = sym (ap (λ l. (first_state l).seen) b) in record {
        number = refl;
        stage = ap (λ l. (first_state l).stage) b ∙ sym (ap (λ l. (first_state l).stage) a);
        launched = refl;
        seen = subst (λ (y : List (List MemberVersions) × List (List MemberVersions)). Begins y.0 y.1) (λ i. (s i, n i)) begins;
        is_history = subst (IsHistory z.start) n is_history;
      }

  pub stands : (id : TableId) (z : Opening) (c d : ℕ) (table : TableId) (last : ℕ) (m : SeatNow ShardTree NodeList) → table ≡ id → d ≡ c → 0 < c → c ≤ z.clients → (seen : List (List MemberVersions)) (stage : Stage) → IsAt c z seen Free stage m → Carries (z.shards + c) last stage m.1 → Sits id z d table last m
  stands id z c d table last m is same lo hi seen stage at carries = subst (λ (j : ℕ). Sits id z j table last m) (sym same) (is, lo, hi, (seen, stage, at, carries))

  pub carried : (k last : ℕ) (l : List (ℕ × Content ShardTree NodeList)) (stage st : Stage) → stage ≡ st → Carries k last stage l → Carries k last st l
  carried k last l stage st e = subst (λ (s : Stage). Carries k last s l) e

  -- a seat that may take a part carries no slot
  pub empty : (k last : ℕ) (l : List (ℕ × Content ShardTree NodeList)) (stage : Stage) → MayTake stage → Carries k last stage l → l ≡ []
  empty k last l Idle may ok = ok
  empty k last l (Waiting u) may ok = ok
  empty k last l (Holding w) may ok = absurd may
  empty k last l (Stored u) may ok = absurd may
  empty k last l (Publishing u) may ok = absurd may
  empty k last l Resting may ok = absurd may
  empty k last l (Handing g ps) may ok = absurd may
  empty k last l (Filling g p ps) may ok = absurd may

  pub steps_on : (c d : ℕ) (z : Opening) (seen : List (List MemberVersions)) (old new : Stage) (m m' : SeatNow ShardTree NodeList) (t : Option (Turn ShardTree NodeList)) → d ≡ c → IsAt c z seen Free old m → IsAt c z seen Free new m' → Steps (account_of c m t) new (account_of d m' t)
  steps_on c d z seen old new m m' t same a b = subst (λ (j : ℕ). Steps (account_of c m t) new (account_of j m' t)) (sym same) (steps_to c z seen old new m m' t a b)

  pub publishes_to : (c : ℕ) (z : Opening) (seen : List (List MemberVersions)) (u : Launched) (m m' : SeatNow ShardTree NodeList) (t : Option (Turn ShardTree NodeList)) → IsAt c z seen Free (Publishing u) m → IsAt c z (u.before ++ u.group ∷ []) Free Idle m'
      → Begins seen u.before → IsHistory z.start (u.before ++ u.group ∷ []) → Publishes z.start (account_of c m t) u (account_of c m' t)
  publishes_to c z seen u m m' t a b begins is_history =
      let s = ap (λ l. (first_state l).seen) a in let n = ap (λ l. (first_state l).seen) b in record {
        number = refl;
        stage_is = ap (λ l. (first_state l).stage) b;
        launched_is = refl;
        seen_is = n;
        seen_before = subst (λ (y : List (List MemberVersions)). Begins y u.before) (sym s) begins;
        is_history = subst (IsHistory z.start) (sym n) is_history;
      }

  pub takes_to : (c d : ℕ) (z : Opening) (seen : List (List MemberVersions)) (stage : Stage) (u : Launched) (vs : List Version) (m m' : SeatNow ShardTree NodeList) (t : Option (Turn ShardTree NodeList)) → d ≡ c → IsAt c z seen Free stage m → IsAt c z seen Free (Holding (work u [] vs)) m' → IsPartOf z c seen u vs → IsAwaited stage u → Takes z (account_of c m t) vs (account_of d m' t)
  takes_to c d z seen stage u vs m m' t same a b part own = record {
    launched = u;
    steps = steps_on c d z seen stage (Holding (work u [] vs)) m m' t same a b;
    own_part = subst (λ (y : List (List MemberVersions)). IsPartOf z c y u vs) (sym (ap (λ l. (first_state l).seen) a)) part;
    awaited = subst (λ (y : Stage). IsAwaited y u) (sym (ap (λ l. (first_state l).stage) a)) own;
  }

abbrev last_after : Option Launched → ℕ
last_after None = 0
last_after (Some u) = u.last

abbrev history_after : Option Launched → List (List MemberVersions)
history_after None = []
history_after (Some u) = u.before ++ u.group ∷ []

module _ {ShardTree NodeList : Type 0} (z : Opening) where
  -- what a turn has launched
  pub launched_is : (u : Turn ShardTree NodeList) (seen : List (List MemberVersions)) (g : List MemberVersions) → IsAt 0 z seen Free (Handing g []) u.seat.me → launch_of (Some u) ≡ Some (launched_behind z.start seen g)
  launched_is u seen g at = ap (λ l. launch_at (first_state l)) at

  -- the last sequence of the group that a seat launched is that of the history with the group
  pub launched_end : (t : Option (Turn ShardTree NodeList)) (u : Turn ShardTree NodeList) (seen : List (List MemberVersions)) (g : List MemberVersions) (l : Launched) → IsAt 0 z seen Free (Handing g []) u.seat.me → t ≡ Some u → launch_of t ≡ Some l → (l.last ≡ last_of z.start (seen ++ g ∷ [])) × (seen ++ g ∷ [] ≡ l.before ++ l.group ∷ [])
  launched_end t u seen g l at is launch =
      let same : Some l ≡ Some (launched_behind z.start seen g) = sym launch ∙ (ap launch_of is ∙ launched_is u seen g at) in
      (ap last_after same ∙ sym (last_snoc z.start seen g), ap history_after (sym same))
