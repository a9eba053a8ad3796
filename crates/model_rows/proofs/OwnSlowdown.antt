-- A commit of a client that slows writes itself: its group's delay says that writes are held up.
use Rattle.std.proofs.Common.{◌≡◌, ℕ, zero, suc, ◌+◌, ◌-◌, ◌*◌, ◌<◌, ◌≤◌, Bool, true, false, IsTrue, cond, ◌==◌, nat_le, ◌&&◌, None, Some, List, [], ◌∷◌, ◌++◌, length, map, take, slice_get, refl, sym, ap, ◌∙◌, subst, inl, inr, arith}
use Rattle.std.specs.Int.{div_ceil}
use Rattle.std.specs.List.{AllByRecursion}
use Rattle.std.proofs.lemmas.Bool.{cond-false, lt-leb, cases_Bool}
use Rattle.std.proofs.lemmas.Bool.Decides.{nat_tests}
use Rattle.std.proofs.lemmas.List.Sums.{sum_by-cons}
use Rattle.std.proofs.lemmas.Option.{slice_get_within}
use Rattle.model_base.specs.Varint.{varint_within}
use Rattle.model_base.specs.declared.group.Item.{Item}
use Rattle.model_base.specs.Batch.{size_of_batch}
use Rattle.model_base.specs.Calls.{unslow, Call, Outcome}
use Rattle.model_base.specs.Controller as controller
use Rattle.model_base.specs.Controller.{ControllerCall, Action, Numbers, After, Look, HoldUp, opening, at_most_u64, look_with, after_start, after_refill, after_payment, after_debt, after_due_refill, after_delay, numbers_after, answer, IsHistoryFrom}
use Rattle.model_base.specs.Grouping.{size_of}
use Rattle.model_base.specs.Tokens.{is_token, tokens_of}
use Rattle.model_base.specs.Attempts.{Attempt, WriteStatus, succeeded, slowed, fate_at, with_attempt, item_of}
use Rattle.model_base.specs.Groups.{Group, Member, IsCommit, HasOneFate, AreAsked, AreGroups, MayProceed, is_delay, items_of}
use Rattle.model_base.specs.Trace.{Trace}
use Rattle.model_base.specs.Progress.{Progress, fresh}
use Rattle.model_base.specs.Runs.{Run}
use Rattle.model_base.specs.Outcomes.{IsClient, IsLegal, IsLegalIn}
use Rattle.model_rows.specs.Examples.{put_a1, noslow}
use Rattle.model_rows.specs.Runs.{one_client}
use Rattle.model_rows.specs.Ignored.{says_done, slow_commands, slow_calls, slow_script, slow_ignored, kept_slow_ignored}
use Rattle.model_rows.proofs.Alone.{some_same, all_at, zip_at}
use Rattle.model_rows.proofs.Steps.{run_of, is_accepted}

-- The equations: where writes are slowed to a byte a second, and nothing was paid yet, two bytes or more have to wait,
-- whatever the moment

abbrev slow_numbers : Numbers
slow_numbers = record { stops = 0; delays = 1; rate = 1; credit = 0; next = 0 }

debt_waits : (n : Numbers) (now bytes : ℕ) → 0 < (after_debt n now bytes).wait
debt_waits n now bytes = omega arith

refill_waits : (b : Bool) (n : Numbers) (now bytes : ℕ) → (after_refill n now).credit < bytes → 0 < (cond b (after_payment (after_refill n now) now bytes) (after_debt n now bytes)).wait
refill_waits false n now bytes few = debt_waits n now bytes
refill_waits true n now bytes few =
    subst (λ (a : After). 0 < a.wait) (sym (cond-false (nat_le bytes (after_refill n now).credit) _ _ (lt-leb bytes (after_refill n now).credit few))) (debt_waits (after_refill n now) now bytes)

-- the refill at the moment that it is due gives one byte
abbrev credit_for : ℕ → ℕ
credit_for late = at_most_u64 (0 + at_most_u64 (div_ceil (at_most_u64 (late + 1000) * 1) 1000000))

one_byte : (now : ℕ) → (after_refill (after_start slow_numbers now) now).credit ≡ 1
one_byte now = let due : now - now ≡ 0 = omega arith in ap credit_for due

first_waits : (now bytes : ℕ) → 1 < bytes → 0 < (after_delay slow_numbers now bytes).wait
first_waits now bytes many =
    let one = one_byte now in
    subst (λ (a : After). 0 < a.wait) (sym (cond-false (nat_le bytes 0) _ (after_due_refill (after_start slow_numbers now) now bytes) (lt-leb bytes 0 (omega (arith, many)))))
    (refill_waits (nat_le (after_start slow_numbers now).next now) (after_start slow_numbers now) now bytes (omega (arith, one, many)))

-- The history: one call takes a token, and the next delay says that writes are held up

abbrev the_slow : ℕ → ControllerCall
the_slow shown = record { client = 1; action = controller.slow 1 shown; told = None }

abbrev actions_of : List ControllerCall → List Action
actions_of calls = map (λ (t : ControllerCall). t.action) calls

abbrev AreNamed : List ControllerCall → Type 0
AreNamed calls = AllByRecursion (λ (t : ControllerCall). IsTrue (is_token t.action) → IsClient one_client t.client) calls

-- each token call is the client's
is_own : (t : ControllerCall) → (IsTrue (is_token t.action) → IsClient one_client t.client) → is_token t.action ≡ true → ((t.client == 1) && is_token t.action) ≡ true
is_own t named token = let is = named token in let low = is.0 in let high = is.1 in let own : (t.client == 1) ≡ true = grind (arith, nat_tests) in rw (own, token) refl

and_false : (b c : Bool) → c ≡ false → (b && c) ≡ false
and_false true c is = is
and_false false c is = refl

-- the tokens of a call and of the calls behind it
more_than_none : (b : Bool) (t : ControllerCall) (rest : List ControllerCall) → actions_of (cond b (t ∷ rest) rest) ≡ [] → (b ≡ false) × (actions_of rest ≡ [])
more_than_none true t rest none = absurd (cc)
more_than_none false t rest none = (refl, none)

after_one : (shown : ℕ) (b : Bool) (t : ControllerCall) (rest : List ControllerCall) → b ≡ true → actions_of (cond b (t ∷ rest) rest) ≡ controller.slow 1 shown ∷ [] → actions_of rest ≡ []
after_one shown true t rest token is = cc
after_one shown false t rest token is = absurd (cc)

after_another : (shown : ℕ) (b : Bool) (t : ControllerCall) (rest : List ControllerCall) → b ≡ false → actions_of (cond b (t ∷ rest) rest) ≡ controller.slow 1 shown ∷ [] → actions_of rest ≡ controller.slow 1 shown ∷ []
after_another shown true t rest token is = absurd (cc)
after_another shown false t rest token is = is

no_token : (t : ControllerCall) → (IsTrue (is_token t.action) → IsClient one_client t.client) → ((t.client == 1) && is_token t.action) ≡ false → is_token t.action ≡ false
no_token t named none = elim (cases_Bool (is_token t.action)) [
  | inl token ↦ (let own = is_own t named token in absurd (cc (own, none)))
  | inr plain ↦ plain
]

none_is_slow : (shown : ℕ) (calls : List ControllerCall) (n place : ℕ) → tokens_of 1 (take n calls) ≡ [] → place < n → slice_get calls place ≡ Some (the_slow shown) → ⊥
none_is_slow shown [] n place none before there = absurd (cc there)
none_is_slow shown (t ∷ calls) zero place none before there = omega (arith, before)
none_is_slow shown (t ∷ calls) (suc n) zero none before there =
    let gone = (more_than_none ((t.client == 1) && is_token t.action) t _ none).0 in
    let here : (((the_slow shown).client == 1) && is_token (the_slow shown).action) ≡ false = subst (λ (u : ControllerCall). ((u.client == 1) && is_token u.action) ≡ false) (some_same there) gone in
    absurd (cc here)
none_is_slow shown (t ∷ calls) (suc n) (suc place) none before there =
    none_is_slow shown calls n place (more_than_none ((t.client == 1) && is_token t.action) t _ none).1 (omega (arith, before)) there

-- what is no token and no delay changes nothing
looks_on : (n : Numbers) (a : Action) → is_token a ≡ false → is_delay a ≡ false → numbers_after n a ≡ n
looks_on n controller.look plain other = refl
looks_on n (controller.say shown) plain other = refl
looks_on n (controller.hear most) plain other = refl
looks_on n (controller.delay now bytes) plain other = absurd (cc)
looks_on n other plain not_delay = absurd (cc)

-- no delay comes before this place
abbrev NoneBefore : List ControllerCall → ℕ → Type 0
NoneBefore calls place = (at : ℕ) → at < place → (t : ControllerCall) → slice_get calls at ≡ Some t → is_delay t.action ≡ false

later_none : (t : ControllerCall) (calls : List ControllerCall) (place : ℕ) → NoneBefore (t ∷ calls) (suc place) → NoneBefore calls place
later_none t calls place none at before u there = none (suc at) (omega (arith, before)) u there

-- after the token
told_slow : (calls : List ControllerCall) (n place : ℕ) → place < n → IsHistoryFrom slow_numbers calls → AreNamed calls → tokens_of 1 (take n calls) ≡ [] → NoneBefore calls place
    → (by now bytes : ℕ) (numbers : Look) → slice_get calls place ≡ Some (record { client = by; action = controller.delay now bytes; told = Some numbers }) → numbers ≡ look_with slow_numbers (after_delay slow_numbers now bytes).wait
told_slow [] n place before history named none quiet by now bytes numbers there = absurd (cc there)
told_slow (t ∷ calls) zero place before history named none quiet by now bytes numbers there = absurd (omega (arith, before))
told_slow (t ∷ calls) (suc n) zero before history named none quiet by now bytes numbers there =
    let is = some_same there in
    some_same (sym (ap (λ (u : ControllerCall). u.told) is) ∙ history.0 ∙ ap (λ (u : ControllerCall). answer slow_numbers u.action) is)
told_slow (t ∷ calls) (suc n) (suc place) before history named none quiet by now bytes numbers there =
    let gone = more_than_none ((t.client == 1) && is_token t.action) t _ none in
    let same = looks_on slow_numbers t.action (no_token t named.0 gone.0) (quiet 0 (omega arith) t refl) in
    told_slow calls n place (omega (arith, before)) (subst (λ (m : Numbers). IsHistoryFrom m calls) same history.1) named.1 gone.1 (later_none t calls place quiet) by now bytes numbers there

-- up to the token
told_after : (shown : ℕ) (calls : List ControllerCall) (n slow_at place : ℕ) → slow_at < place → place < n → IsHistoryFrom opening calls → AreNamed calls → tokens_of 1 (take n calls) ≡ controller.slow 1 shown ∷ [] → slice_get calls slow_at ≡ Some (the_slow shown)
    → NoneBefore calls place → (by now bytes : ℕ) (numbers : Look) → slice_get calls place ≡ Some (record { client = by; action = controller.delay now bytes; told = Some numbers })
    → numbers ≡ look_with slow_numbers (after_delay slow_numbers now bytes).wait
told_after shown [] n slow_at place later before history named tokens is_slow quiet by now bytes numbers there = absurd (cc there)
told_after shown (t ∷ calls) zero slow_at place later before history named tokens is_slow quiet by now bytes numbers there = absurd (omega (arith, before))
told_after shown (t ∷ calls) (suc n) slow_at zero later before history named tokens is_slow quiet by now bytes numbers there = absurd (omega (arith, later))
told_after shown (t ∷ calls) (suc n) zero (suc place) later before history named tokens is_slow quiet by now bytes numbers there =
    let is = some_same is_slow in
    let own : ((t.client == 1) && is_token t.action) ≡ true = subst (λ (u : ControllerCall). ((u.client == 1) && is_token u.action) ≡ true) (sym is) refl in
    let slow_now : numbers_after opening t.action ≡ slow_numbers = ap (λ (u : ControllerCall). numbers_after opening u.action) is in
    told_slow calls n place (omega (arith, before)) (subst (λ (m : Numbers). IsHistoryFrom m calls) slow_now history.1) named.1 (after_one shown ((t.client == 1) && is_token t.action) t _ own tokens)
    (later_none t calls place quiet) by now bytes numbers there
told_after shown (t ∷ calls) (suc n) (suc slow_at) (suc place) later before history named tokens is_slow quiet by now bytes numbers there =
    elim (cases_Bool (is_token t.action)) [
      | inl token ↦ absurd (none_is_slow shown calls n slow_at (after_one shown ((t.client == 1) && is_token t.action) t _ (is_own t named.0 token) tokens) (omega (arith, later, before)) is_slow)
      | inr plain ↦ (
          let same = looks_on opening t.action plain (quiet 0 (omega arith) t refl) in
          told_after shown calls n slow_at place (omega (arith, later)) (omega (arith, before)) (subst (λ (m : Numbers). IsHistoryFrom m calls) same history.1) named.1
          (after_another shown ((t.client == 1) && is_token t.action) t _ (and_false (t.client == 1) (is_token t.action) plain) tokens) is_slow (later_none t calls place quiet) by now bytes numbers there)
    ]

-- The groups: the one commit has one delay, and goes on only where that says that writes aren't held up

first_there : {A : Type 0} (xs : List A) → 0 < length xs → (x : A) × (slice_get xs 0 ≡ Some x)
first_there [] some = absurd (omega (arith, some))
first_there (x ∷ xs) some = (x, refl)

only_at : {A : Type 0} (x y : A) (i : ℕ) → slice_get (x ∷ []) i ≡ Some y → (i ≡ 0) × (x ≡ y)
only_at x y zero there = (refl, some_same there)
only_at x y (suc i) there = absurd (cc there)

module _ (calls : List ControllerCall) (groups : List Group) (attempts : List (List Attempt)) (are_groups : AreGroups 1048576 calls groups attempts) (own : Attempt) (one : length attempts ≡ 1) (there : slice_get attempts 0 ≡ Some (own ∷ [])) where
  is_own_commit : (m : Member) (c : IsCommit attempts m) → c.attempt ≡ own
  is_own_commit m c =
      let within = slice_get_within attempts c.number c.commits c.of_client in
      let number : c.number ≡ 0 = omega (arith, within, one) in
      let commits : own ∷ [] ≡ c.commits = some_same (sym there ∙ ap (slice_get attempts) (sym number) ∙ c.of_client) in
      sym (only_at own c.attempt m.call (ap (λ cs. slice_get cs m.call) commits ∙ c.there)).1

  -- a group at this place of the list, and its first member
  record First (at : ℕ) (g : Group) : Type 0 where
    member : Member
    status : WriteStatus
    in_group : slice_get g.members 0 ≡ Some member
    commit : IsCommit attempts member
    has : commit.attempt.status ≡ status
    place : commit.attempt.place ≡ g.place
    fate : HasOneFate calls groups attempts g

  first_of : (at : ℕ) (g : Group) → slice_get groups at ≡ Some g → First at g
  first_of at g is =
      let fate = all_at (HasOneFate calls groups attempts) groups at g are_groups.together is in
      let asked = all_at _ groups at g are_groups.each is in
      let m = first_there g.members asked.is_group.some in
      let z = zip_at _ g.members fate.statuses 0 m.0 fate.are m.1 in
      record { member = m.0; status = z.0; in_group = m.1; commit = z.2.0; has = z.2.1; place = z.2.2; fate = fate }

  group_place : (at : ℕ) (g : Group) → slice_get groups at ≡ Some g → g.place ≡ own.place
  group_place at g is = let f = first_of at g is in sym f.place ∙ ap (λ (h : Attempt). h.place) (is_own_commit f.member f.commit)

  asked_only : (place : ℕ) (rest : List ControllerCall) → AreAsked groups place rest → (at : ℕ) (t : ControllerCall) → slice_get rest at ≡ Some t → is_delay t.action ≡ true → place + at ≡ own.place
  asked_only place [] asked at t is delay = absurd (cc is)
  asked_only place (u ∷ rest) asked zero t is delay =
      let has = asked.0 (subst (λ (x : ControllerCall). IsTrue (is_delay x.action)) (sym (some_same is)) delay) in
      let where_is = group_place has.at has.group has.there in let here = has.is in omega (arith, where_is, here)
  asked_only place (u ∷ rest) asked (suc at) t is delay = let later = asked_only (place + 1) rest asked.1 at t is delay in omega (arith, later)

  pub none_before : NoneBefore calls own.place
  none_before at before t is = elim (cases_Bool (is_delay t.action)) [
    | inl delay ↦ (let only = asked_only 0 calls are_groups.all at t is delay in absurd (omega (arith, only, before)))
    | inr other ↦ other
  ]

  -- the delay of the commit's group, which may go on though the commit may not wait
  pub record GoesOn : Type 0 where
    pub by : ℕ
    pub now : ℕ
    pub bytes : ℕ
    pub numbers : Look
    pub at_place : slice_get calls own.place ≡ Some (record { client = by; action = controller.delay now bytes; told = Some numbers })
    pub free : HoldUp numbers → ⊥
    pub many : size_of_batch own.records ≤ bytes

  goes_on : own.status ≡ succeeded → own.options.no_slowdown ≡ true → GoesOn
  goes_on written hasty =
      let h = are_groups.none_else 0 (own ∷ []) 0 own there refl in
      let f = first_of h.at h.group h.of_place in
      let asked = all_at _ groups h.at h.group are_groups.each h.of_place in
      let is = is_own_commit f.member f.commit in
      let item : f.member.item ≡ item_of own = f.commit.item ∙ ap item_of is in
      elim f.fate.together [
        | inl slow ↦ (
            let z = zip_at _ h.group.members f.fate.statuses 0 f.member f.fate.are f.in_group in
            let slow_too : z.0 ≡ slowed = all_at (λ status. status ≡ slowed) f.fate.statuses 0 z.0 slow z.1 in
            let status : z.0 ≡ succeeded = sym z.2.1 ∙ ap (λ (x : Attempt). x.status) (is_own_commit f.member z.2.0) ∙ written in
            absurd (cc (slow_too, status)))
        | inr on ↦ (
            let p = on.1 in
            let here = sym h.place_is in
            let same : Some (record { client = p.by; action = controller.delay p.now p.bytes; told = Some p.numbers }) ≡ Some (record { client = asked.by; action = controller.delay asked.now (size_of (items_of h.group.members)); told = asked.told })
            = sym p.there ∙ asked.there in
            let bytes : p.bytes ≡ size_of (items_of h.group.members) = same_bytes p.now asked.now p.bytes (size_of (items_of h.group.members)) (ap (λ (t : ControllerCall). t.action) (some_same same)) in
            let may : MayProceed calls (map (λ (g : Group). g.place) groups) p.by h.group.place f.fate.decided p.numbers f.member.item.options.no_slowdown = first_may (λ (i : Item). MayProceed calls (map (λ (g : Group). g.place) groups) p.by h.group.place f.fate.decided p.numbers i.options.no_slowdown) h.group.members f.member f.in_group p.each in
            let sure : f.member.item.options.no_slowdown ≡ true = ap (λ (i : Item). i.options.no_slowdown) item ∙ hasty in
            let size = ap (λ (i : Item). i.size) item in
            let large = first_size h.group.members f.member f.in_group in
            record {
              by = p.by;
              now = p.now;
              bytes = p.bytes;
              numbers = p.numbers;
              at_place = ap (slice_get calls) here ∙ p.there;
              free = subst (λ b. MayProceed calls (map (λ (g : Group). g.place) groups) p.by h.group.place f.fate.decided p.numbers b) sure may;
              many = omega (arith, size, large, bytes);
            })
      ]
    where
      same_bytes : (a b x y : ℕ) → controller.delay a x ≡ controller.delay b y → x ≡ y
      same_bytes a b x y e = cc

      first_may : (P : Item → Type 0) (members : List Member) (m : Member) → slice_get members 0 ≡ Some m → AllByRecursion P (items_of members) → P m.item
      first_may P [] m is all = absurd (cc is)
      first_may P (n ∷ members) m is all = subst (λ (x : Member). P x.item) (some_same is) all.0

      first_size : (members : List Member) (m : Member) → slice_get members 0 ≡ Some m → m.item.size ≤ size_of (items_of members)
      first_size [] m is = absurd (cc is)
      first_size (n ∷ members) m is = let same = ap (λ (x : Member). x.item.size) (some_same is) in let sum = sum_by-cons (λ (i : Item). i.size) n.item (items_of members) in omega (arith, same, sum)

-- The client's calls

abbrev the_commit : ℕ → ℕ → Attempt
the_commit place decided = record { records = put_a1 ∷ []; options = noslow; status = succeeded; place = place; decided = decided }

-- after these calls the client may make any others that don't commit
record Slowed (trace : Trace) (q : Progress) : Type 0 where
  slow_at : ℕ
  shown : ℕ
  is_slow : slice_get trace.controller_calls slow_at ≡ Some (the_slow shown)
  place : ℕ
  decided : ℕ
  later : slow_at < place
  before : place < q.known
  tokens : tokens_of 1 (take q.known trace.controller_calls) ≡ controller.slow 1 shown ∷ []
  attempts : q.attempts ≡ the_commit place decided ∷ []

slowed_by : (trace : Trace) (q end : Progress) (more : List Call) (run : Run one_client trace 1 fresh (slow_calls ++ more) end) → q ≡ run.2.2.0 → Slowed trace q
slowed_by trace q end more run is =
    let shown : ℕ = run.1.replies.1 in let taken = run.1.replies.2 in let begun = run.2.0 in let next = run.2.2.0 in
    let slow_asked : run.0.asked ≡ controller.slow 1 shown ∷ [] = ap (λ (x : Progress). x.asked) taken.after in
    let asked : begun.asked ≡ controller.slow 1 shown ∷ [] = ap (λ (x : Progress). x.asked) run.2.1.replies ∙ slow_asked in
    let pending : begun.pending ≡ put_a1 ∷ [] = ap (λ (x : Progress). x.pending) run.2.1.replies ∙ ap (λ (x : Progress). x.pending ++ put_a1 ∷ []) taken.after in
    let none : begun.attempts ≡ [] = ap (λ (x : Progress). x.attempts) run.2.1.replies ∙ ap (λ (x : Progress). x.attempts) taken.after in
    let a = is_accepted one_client trace 1 begun noslow 1 1 (put_a1 ∷ []) next run.2.2.1.replies in
    let knew = taken.known in let rises = run.2.1.rises in let low = a.asked.0 in
    subst (Slowed trace) (sym is) (record {
      slow_at = taken.place;
      shown = shown;
      is_slow = taken.is_later.there;
      place = a.place;
      decided = a.decided;
      later = omega (arith, knew, rises, low);
      before = (let seen = a.asked.1 in let heard = a.asked.2 in omega (arith, seen, heard));
      tokens = run.2.2.1.tokens ∙ ap (λ (x : Progress). x.asked) a.after ∙ asked;
      attempts = ap (λ (x : Progress). x.attempts) a.after ∙ ap (λ records. with_attempt begun.attempts records noslow (fate_at a.place a.decided succeeded)) pending ∙ ap (λ hs. with_attempt hs (put_a1 ∷ []) noslow (fate_at a.place a.decided succeeded)) none;
    })

two_bytes : 1 < size_of_batch (put_a1 ∷ [])
unfolding varint_within
two_bytes = omega arith

never_slowed : (ended : ℕ) (script : _) (trace : Trace) (attempts : List (List Attempt)) (o : Outcome) (l : IsLegalIn one_client ended script trace attempts o) → length script ≡ 1 → (q : Progress) → Slowed trace q
    → slice_get attempts 0 ≡ Some q.attempts → ⊥
never_slowed ended script trace attempts o l one q s mine =
    let own = the_commit s.place s.decided in
    let there : slice_get attempts 0 ≡ Some (own ∷ []) = mine ∙ ap (λ h. Some h) s.attempts in
    let alone : length attempts ≡ 1 = l.count_attempts ∙ one in
    let on = goes_on trace.controller_calls l.groups attempts l.are_groups own alone there refl refl in
    let told = told_after s.shown trace.controller_calls q.known s.slow_at s.place s.later s.before l.is_trace.controller_calls l.is_trace.tokens s.tokens s.is_slow
    (none_before trace.controller_calls l.groups attempts l.are_groups own alone there) on.by on.now on.bytes on.numbers on.at_place in
    let many = on.many in
    on.free (subst HoldUp (sym told) (inr (omega arith, first_waits on.now on.bytes (omega (arith, two_bytes, many)))))

pub not_kept : (ended : ℕ) → IsLegal one_client ended (slow_commands ∷ []) kept_slow_ignored → ⊥
not_kept ended legal =
    let l = legal.legal in let one = l.each 0 _ _ refl refl in let right = one.2 in
    let run = run_of one_client legal.trace 1 _ slow_calls right.end (λ e. cc) right.is_transcript in
    never_slowed ended (slow_commands ∷ []) legal.trace legal.attempts kept_slow_ignored l refl right.end (slowed_by legal.trace right.end right.end [] run run.2.2.2) (one.1 ∙ ap (λ h. Some h) right.commits)

pub not_ignored : (ended : ℕ) → IsLegal one_client ended slow_script slow_ignored → ⊥
not_ignored ended legal =
    let l = legal.legal in let one = l.each 0 _ _ refl refl in let right = one.2 in
    let run = run_of one_client legal.trace 1 _ _ right.end (λ e. cc) right.is_transcript in
    let next = run.2.2.0 in
    let given_back = run.2.2.2.1.replies.2 in
    let same : right.end.attempts ≡ next.attempts = ap (λ (x : Progress). x.attempts) run.2.2.2.2 ∙ ap (λ (x : Progress). x.attempts) given_back.after in
    never_slowed ended slow_script legal.trace legal.attempts slow_ignored l refl next (slowed_by legal.trace next right.end (says_done unslow ∷ []) run refl) (one.1 ∙ ap (λ h. Some h) (right.commits ∙ same))
