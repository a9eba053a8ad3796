-- The groups of an outcome, from what the holder of the log knows.
use Rattle.std.proofs.Common.{◌≡◌, inl, inr, ◌≢◌, ℕ, zero, suc, ◌+◌, ◌-◌, ◌<◌, ◌≤◌, Bool, true, false, cond, Some, List, [], ◌∷◌, ◌++◌, length, map, filter, slice_get, ◌==◌, refl, ap, sym, ◌∙◌, subst, arith, append_assoc, length-append}
use Rattle.std.specs.List.{AllByRecursion, AllZip}
use Rattle.std.proofs.lemmas.Option.{slice_get_cases}
use Rattle.std.proofs.lemmas.List.{append-nil, length-map}
use Rattle.model_base.specs.Controller.{ControllerCall}
use Rattle.model_base.specs.Attempts.{Attempt, WriteStatus, item_of}
use Rattle.model_base.specs.Groups.{Member, Group, IsAskedFor, IsCommit, AreOfOthers, AreApart, AreAllApart, AreGroups, HaveOneFate, HasOneFate, Holds, items_of, members_of}
use Rattle.model_runs.specs.Groups.{CallsRise}
use Rattle.model_accounts.specs.Led.{Taken, Led, HaveOwnClients, items_in, all_taken, is_of, count_of_client, attempts_of, members_after, groups_after, groups_of, IsLed, AreLed}

-- Lists

filter_append : {A : Type 0} (p : A → Bool) (xs ys : List A) → filter p (xs ++ ys) ≡ filter p xs ++ filter p ys
filter_append p [] ys = refl
filter_append {A = A} p (x ∷ xs) ys = by_test (p x) (filter_append p xs ys)
  where
    by_test : (b : Bool) → filter p (xs ++ ys) ≡ filter p xs ++ filter p ys → cond b (x ∷ filter p (xs ++ ys)) (filter p (xs ++ ys)) ≡ (cond b (x ∷ filter p xs) (filter p xs)) ++ filter p ys
    by_test true h = ap (λ zs. x ∷ zs) h
    by_test false h = h

count_append : (client : ℕ) (xs ys : List Taken) → count_of_client client (xs ++ ys) ≡ count_of_client client xs + count_of_client client ys
count_append client xs ys = ap length (filter_append (is_of client) xs ys) ∙ length-append (filter (is_of client) xs) (filter (is_of client) ys)

pub all_left : {A : Type 0} (P : A → Type 0) (xs ys : List A) → AllByRecursion P (xs ++ ys) → AllByRecursion P xs
all_left P [] ys h = tt
all_left P (x ∷ xs) ys h = (h.0, all_left P xs ys h.1)

pub all_right : {A : Type 0} (P : A → Type 0) (xs ys : List A) → AllByRecursion P (xs ++ ys) → AllByRecursion P ys
all_right P [] ys h = h
all_right P (x ∷ xs) ys h = all_right P xs ys h.1

left_of_zip : {A B : Type 0} (P : A → Type 0) (Q : (x : A) → P x → B → Type 0) (xs : List A) (ys : List B) → AllZip (λ x y. (p : P x) × Q x p y) xs ys → AllByRecursion P xs
left_of_zip P Q [] ys h = tt
left_of_zip P Q (x ∷ xs) [] h = absurd h
left_of_zip P Q (x ∷ xs) (y ∷ ys) h = (h.0.0, left_of_zip P Q xs ys h.1)

-- The members of some commits and then of others are the members of all of these
members_append : (before ts us : List Taken) → members_after before (ts ++ us) ≡ members_after before ts ++ members_after (before ++ ts) us
members_append before [] us = ap (λ b. members_after b us) (sym (append-nil before))
members_append before (t ∷ ts) us =
    ap (λ ms. record { client = t.client; call = count_of_client t.client before; item = item_of t.attempt } ∷ ms)
    (members_append (before ++ t ∷ []) ts us ∙ ap (λ b. members_after (before ++ t ∷ []) ts ++ members_after b us) (append_assoc before (t ∷ []) ts))

members_of_groups : (before : List Taken) (led : List Led) → members_of (groups_after before led) ≡ members_after before (all_taken led)
members_of_groups before [] = refl
members_of_groups before (g ∷ led) = ap (λ ms. members_after before g.commits ++ ms) (members_of_groups (before ++ g.commits) led) ∙ sym (members_append before g.commits (all_taken led))

items_after : (before ts : List Taken) → items_of (members_after before ts) ≡ map (λ (t : Taken). item_of t.attempt) ts
items_after before [] = refl
items_after before (t ∷ ts) = ap (λ is. item_of t.attempt ∷ is) (items_after (before ++ t ∷ []) ts)

length_after : (before ts : List Taken) → length (members_after before ts) ≡ length ts
length_after before [] = refl
length_after before (t ∷ ts) = let e = length_after (before ++ t ∷ []) ts in omega arith

-- Commits of other clients make members of other clients
unlike_after : (client : ℕ) (before ts : List Taken) → AllByRecursion (λ (u : Taken). client ≢ u.client) ts → AllByRecursion (λ (n : Member). client ≢ n.client) (members_after before ts)
unlike_after client before [] h = tt
unlike_after client before (t ∷ ts) h = (h.0, unlike_after client (before ++ t ∷ []) ts h.1)

others_after : (before ts : List Taken) → HaveOwnClients ts → AreOfOthers (members_after before ts)
others_after before [] h = tt
others_after before (t ∷ ts) h = (unlike_after t.client (before ++ t ∷ []) ts h.0, others_after (before ++ t ∷ []) ts h.1)

-- A delay was asked for each group
asked_after : (group_bytes : ℕ) (controller_calls : List ControllerCall) (before : List Taken) (led : List Led) → AllByRecursion (IsLed group_bytes controller_calls) led → AllByRecursion (IsAskedFor group_bytes controller_calls) (groups_after before led)
asked_after group_bytes controller_calls before [] h = tt
asked_after group_bytes controller_calls before (g ∷ led) h = (
  record {
    by = h.0.by;
    now = h.0.now;
    told = h.0.told;
    there = rw (items_after before g.commits) h.0.there;
    is_group = record { some = (let n = length_after before g.commits in let m = h.0.some in omega arith); whole = rw (items_after before g.commits, length_after before g.commits) h.0.whole; of_others = others_after before g.commits h.0.of_others };
  },
  asked_after group_bytes controller_calls (before ++ g.commits) led h.1,
)

-- Of two commits of one client the later one has the greater number, so no commit is there twice
pub own_is : (t : Taken) → is_of t.client t ≡ true
own_is t = nat_same t.client
  where
    nat_same : (n : ℕ) → (n == n) ≡ true
    nat_same n = grind arith

earlier_than : (m : Member) (before ts : List Taken) → m.call < count_of_client m.client before → AllByRecursion (λ (n : Member). m.client ≡ n.client → m.call < n.call) (members_after before ts)
earlier_than m before [] h = tt
earlier_than m before (t ∷ ts) h = (
  λ same. subst (λ c. m.call < count_of_client c before) same h,
  earlier_than m (before ++ t ∷ []) ts (let e = count_append m.client before (t ∷ []) in omega (arith, e)),
)

calls_rise : (before ts : List Taken) → CallsRise (members_after before ts)
calls_rise before [] = tt
calls_rise before (t ∷ ts) = (
  earlier_than (record { client = t.client; call = count_of_client t.client before; item = item_of t.attempt }) (before ++ t ∷ []) ts
      (let e = count_append t.client before (t ∷ []) in let one : count_of_client t.client (t ∷ []) ≡ 1 = rw (own_is t) refl in omega (arith, e, one)),
  calls_rise (before ++ t ∷ []) ts,
)

pub led_in_turn : (led : List Led) → CallsRise (members_of (groups_of led))
led_in_turn led = rw (members_of_groups [] led) (calls_rise [] (all_taken led))

all_apart : (members : List Member) → CallsRise members → AreAllApart members
all_apart [] rise = tt
all_apart (m ∷ members) rise = (apart_from m members rise.0, all_apart members rise.1)
  where
    apart_from : (m : Member) (members : List Member) → AllByRecursion (λ (n : Member). m.client ≡ n.client → m.call < n.call) members → AllByRecursion (AreApart m) members
    apart_from m [] h = tt
    apart_from m (n ∷ members) h = ((λ same call. let less = h.0 same in absurd (omega (arith, less, call))), apart_from m members h.1)

-- Each member is a commit of its client, and has its status
pub attempt_at : (before : List Taken) (t : Taken) (after : List Taken) → slice_get (attempts_of t.client (before ++ t ∷ after)) (count_of_client t.client before) ≡ Some t.attempt
attempt_at [] t after = rw (own_is t) refl
attempt_at (u ∷ before) t after = by_test (is_of t.client u) refl (attempt_at before t after)
  where
    by_test : (b : Bool) → is_of t.client u ≡ b → slice_get (attempts_of t.client (before ++ t ∷ after)) (count_of_client t.client before) ≡ Some t.attempt
        → slice_get (attempts_of t.client (u ∷ (before ++ t ∷ after))) (count_of_client t.client (u ∷ before)) ≡ Some t.attempt
    by_test true e h = rw e h
    by_test false e h = rw e h

same_places : (before : List Taken) (led : List Led) → map (λ (h : Group). h.place) (groups_after before led) ≡ map (λ (h : Led). h.place) led
same_places before [] = refl
same_places before (g ∷ led) = ap (λ places. g.place ∷ places) (same_places (before ++ g.commits) led)

module _ (attempts : List (List Attempt)) (all : List Taken) (of_client : (i : ℕ) (own : List Attempt) → slice_get attempts i ≡ Some own → own ≡ attempts_of (i + 1) all) where
  abbrev AreOfClients : List Taken → Type 0
  AreOfClients ts = AllByRecursion (λ (t : Taken). (1 ≤ t.client) × (t.client ≤ length attempts)) ts

  abbrev IsTaken : (m : Member) → IsCommit attempts m → Taken → Type 0
  IsTaken m c t = c.attempt ≡ t.attempt

  commits_after : (before ts after : List Taken) → before ++ (ts ++ after) ≡ all → AreOfClients ts
      → AllZip (λ (m : Member) (t : Taken). (c : IsCommit attempts m) × IsTaken m c t) (members_after before ts) ts
  commits_after before [] after split h = tt
  commits_after before (t ∷ ts) after split h = (
    elim (slice_get_cases attempts (t.client - 1)).1 [
      | inl there ↦ (
          let number : t.client ≡ (t.client - 1) + 1 = (let a = h.0.0 in omega arith) in
          let commits = of_client (t.client - 1) there.0 there.2 in
          let at : slice_get (attempts_of t.client all) (count_of_client t.client before) ≡ Some t.attempt = rw (← split) (attempt_at before t (ts ++ after)) in (
            record {
              number = t.client - 1;
              commits = there.0;
              attempt = t.attempt;
              client = number;
              of_client = there.2;
              there = ap (λ own. slice_get own (count_of_client t.client before)) (commits ∙ ap (λ c. attempts_of c all) (sym number)) ∙ at;
              item = refl;
            },
            refl,
          ))
      | inr gone ↦ (let a = h.0.0 in let b = h.0.1 in let c = gone.0 in absurd (omega arith))
    ],
    commits_after (before ++ t ∷ []) ts after (append_assoc before (t ∷ []) (ts ++ after) ∙ split) h.1,
  )

  -- the members of a group whose delay is at this place, and on which was decided then
  fates_of : (place decided : ℕ) (ms : List Member) (ts : List Taken) → AllZip (λ (m : Member) (t : Taken). (c : IsCommit attempts m) × IsTaken m c t) ms ts → AllByRecursion (λ (t : Taken). t.attempt.place ≡ place) ts → AllByRecursion (λ (t : Taken). t.attempt.decided ≡ decided) ts
      → AllZip (λ (m : Member) status. (c : IsCommit attempts m) × (c.attempt.status ≡ status) × (c.attempt.place ≡ place) × (c.attempt.decided ≡ decided)) ms (map (λ (t : Taken). t.attempt.status) ts)
  fates_of place decided [] [] zip same at_once = tt
  fates_of place decided [] (t ∷ ts) zip same at_once = absurd zip
  fates_of place decided (m ∷ ms) [] zip same at_once = absurd zip
  fates_of place decided (m ∷ ms) (t ∷ ts) zip same at_once = (
    (zip.0.0, ap (λ (h : Attempt). h.status) zip.0.1, ap (λ (h : Attempt). h.place) zip.0.1 ∙ same.0, ap (λ (h : Attempt). h.decided) zip.0.1 ∙ at_once.0),
    fates_of place decided ms ts zip.1 same.1 at_once.1,
  )

  -- each group goes on or is refused as a whole, by the statuses of its commits
  together_after : (controller_calls : List ControllerCall) (groups : List Group) (before : List Taken) (led : List Led) → before ++ all_taken led ≡ all → AreOfClients (all_taken led)
      → AllByRecursion (λ (g : Led). AllByRecursion (λ (t : Taken). t.attempt.place ≡ g.place) g.commits) led → AllByRecursion (λ (g : Led). AllByRecursion (λ (t : Taken). t.attempt.decided ≡ g.decided) g.commits) led
      → AllByRecursion (λ (g : Led). HaveOneFate controller_calls (map (λ (h : Group). h.place) groups) g.place g.decided (items_in g.commits) (map (λ (t : Taken). t.attempt.status) g.commits)) led
      → AllByRecursion (HasOneFate controller_calls groups attempts) (groups_after before led)
  together_after controller_calls groups before [] split clients places at_once h = tt
  together_after controller_calls groups before (g ∷ led) split clients places at_once h = (
    record {
      decided = g.decided;
      statuses = map (λ (t : Taken). t.attempt.status) g.commits;
      are = fates_of g.place g.decided (members_after before g.commits) g.commits (commits_after before g.commits (all_taken led) split (all_left _ g.commits (all_taken led) clients)) places.0 at_once.0;
      together = rw (items_after before g.commits) h.0;
    },
    together_after controller_calls groups (before ++ g.commits) led (append_assoc before g.commits (all_taken led) ∙ split) (all_right _ g.commits (all_taken led) clients) places.1 at_once.1 h.1,
  )

-- A client's commits are in the groups, each in that of its own delay

same_client : (a b : ℕ) → (a == b) ≡ true → a ≡ b
same_client a b h = grind arith

pub attempts_append : (client : ℕ) (xs ys : List Taken) → attempts_of client (xs ++ ys) ≡ attempts_of client xs ++ attempts_of client ys
attempts_append client xs ys = ap (map (λ (t : Taken). t.attempt)) (filter_append (is_of client) xs ys) ∙ map_append (filter (is_of client) xs) (filter (is_of client) ys)
  where
    map_append : (ts us : List Taken) → map (λ (t : Taken). t.attempt) (ts ++ us) ≡ map (λ (t : Taken). t.attempt) ts ++ map (λ (t : Taken). t.attempt) us
    map_append [] us = refl
    map_append (t ∷ ts) us = ap (λ own. t.attempt ∷ own) (map_append ts us)

attempts_length : (client : ℕ) (ts : List Taken) → length (attempts_of client ts) ≡ count_of_client client ts
attempts_length client ts = length-map (filter (is_of client) ts) (λ (t : Taken). t.attempt)

get_left : {A : Type 0} (xs ys : List A) (k : ℕ) → k < length xs → slice_get (xs ++ ys) k ≡ slice_get xs k
get_left [] ys k h = absurd (omega arith)
get_left (x ∷ xs) ys zero h = refl
get_left (x ∷ xs) ys (suc k) h = get_left xs ys k (omega arith)

get_right : {A : Type 0} (xs ys : List A) (k : ℕ) → slice_get (xs ++ ys) (length xs + k) ≡ slice_get ys k
get_right [] ys k = let e : 0 + k ≡ k = omega arith in rw e refl
get_right (x ∷ xs) ys k = let e : length (x ∷ xs) + k ≡ suc (length xs + k) = omega arith in rw e (get_right xs ys k)

all_at : {A : Type 0} (P : A → Type 0) (xs : List A) (k : ℕ) (x : A) → AllByRecursion P xs → slice_get xs k ≡ Some x → P x
all_at P [] k x h e = absurd (cc e)
all_at P (y ∷ xs) zero x h e = let is : y ≡ x = cc e in subst P is h.0
all_at P (y ∷ xs) (suc k) x h e = all_at P xs k x h.1 e

-- a client's k-th commit among these, and the member that it makes
record Stands (client : ℕ) (before ts : List Taken) (k : ℕ) (h : Attempt) : Type 0 where
  at : ℕ
  taken : Taken
  member : Member
  there : slice_get ts at ≡ Some taken
  is : taken.attempt ≡ h
  member_there : slice_get (members_after before ts) at ≡ Some member
  client_is : member.client ≡ client
  call_is : member.call ≡ count_of_client client before + k

stands_later : (client : ℕ) (before : List Taken) (t : Taken) (ts : List Taken) (k j : ℕ) (h : Attempt) → count_of_client client (before ++ t ∷ []) + j ≡ count_of_client client before + k
    → Stands client (before ++ t ∷ []) ts j h → Stands client before (t ∷ ts) k h
stands_later client before t ts k j h e s = record {
  at = suc s.at;
  taken = s.taken;
  member = s.member;
  there = s.there;
  is = s.is;
  member_there = s.member_there;
  client_is = s.client_is;
  call_is = s.call_is ∙ e;
}

stands : (client : ℕ) (before ts : List Taken) (k : ℕ) (h : Attempt) → slice_get (attempts_of client ts) k ≡ Some h → Stands client before ts k h
stands client before [] k h e = absurd (cc e)
stands client before (t ∷ ts) k h e = by_test (is_of client t) refl k e (λ j. stands client (before ++ t ∷ []) ts j h)
  where
    by_test : (b : Bool) → is_of client t ≡ b → (k : ℕ) → slice_get (attempts_of client (t ∷ ts)) k ≡ Some h
        → ((j : ℕ) → slice_get (attempts_of client ts) j ≡ Some h → Stands client (before ++ t ∷ []) ts j h) → Stands client before (t ∷ ts) k h
    by_test true own zero e later =
        let first : Some t.attempt ≡ Some h = rw own at e in
        let same : t.client ≡ client = same_client t.client client own in
        record {
          at = 0;
          taken = t;
          member = record { client = t.client; call = count_of_client t.client before; item = item_of t.attempt };
          there = refl;
          is = cc first;
          member_there = refl;
          client_is = same;
          call_is = ap (λ c. count_of_client c before) same ∙ (let n = count_of_client client before in omega arith);
        }
    by_test true own (suc k) e later =
        let rest : slice_get (attempts_of client ts) k ≡ Some h = rw own at e in
        let more = count_append client before (t ∷ []) in
        let one : count_of_client client (t ∷ []) ≡ 1 = rw own refl in
        stands_later client before t ts (suc k) k h (omega (arith, more, one)) (later k rest)
    by_test false own k e later =
        let rest : slice_get (attempts_of client ts) k ≡ Some h = rw own at e in
        let more = count_append client before (t ∷ []) in
        let one : count_of_client client (t ∷ []) ≡ 0 = rw own refl in
        stands_later client before t ts k k h (omega (arith, more, one)) (later k rest)

-- the group of the commit's own delay has the commit
abbrev HoldsIn : List Group → ℕ → ℕ → Attempt → Type 0
HoldsIn groups client call h = Holds groups h.place client call

holds_later : (g : Group) (groups : List Group) (client k j : ℕ) (h : Attempt) → j ≡ k → HoldsIn groups client j h → HoldsIn (g ∷ groups) client k h
holds_later g groups client k j h e s = record {
  at = suc s.at;
  group = s.group;
  of_place = s.of_place;
  place_is = s.place_is;
  among = s.among;
  member = s.member;
  there = s.there;
  client_is = s.client_is;
  call_is = s.call_is ∙ e;
}

holds_after : (group_bytes : ℕ) (controller_calls : List ControllerCall) (client : ℕ) (h : Attempt) (before : List Taken) (led : List Led) (k : ℕ) → AllByRecursion (IsLed group_bytes controller_calls) led
    → slice_get (attempts_of client (all_taken led)) k ≡ Some h → HoldsIn (groups_after before led) client (count_of_client client before + k) h
holds_after group_bytes controller_calls client h before [] k all e = absurd (cc e)
holds_after group_bytes controller_calls client h before (g ∷ led) k all e = elim (slice_get_cases (attempts_of client g.commits) k).1 [
  | inl here ↦ (
      let at : slice_get (attempts_of client g.commits) k ≡ Some h = sym (get_left (attempts_of client g.commits) (attempts_of client (all_taken led)) k here.1) ∙ joined in
      let s = stands client before g.commits k h at in
      let placed = all_at _ g.commits s.at s.taken all.0.places s.there in
      record {
        at = 0;
        group = record { place = g.place; members = members_after before g.commits };
        of_place = refl;
        place_is = sym placed ∙ ap (λ (x : Attempt). x.place) s.is;
        among = s.at;
        member = s.member;
        there = s.member_there;
        client_is = s.client_is;
        call_is = s.call_is;
      })
  | inr gone ↦ (
      let n = length (attempts_of client g.commits) in
      let past = gone.0 in
      let split : n + (k - n) ≡ k = omega (arith, past) in
      let at : slice_get (attempts_of client (all_taken led)) (k - n) ≡ Some h =
      sym (get_right (attempts_of client g.commits) (attempts_of client (all_taken led)) (k - n)) ∙ (ap (slice_get (attempts_of client g.commits ++ attempts_of client (all_taken led))) split ∙ joined) in
      let many = attempts_length client g.commits in
      let more = count_append client before g.commits in
      holds_later _ _ client _ _ h (omega (arith, split, many, more)) (holds_after group_bytes controller_calls client h (before ++ g.commits) led (k - n) all.1 at))
]
  where
    joined : slice_get (attempts_of client g.commits ++ attempts_of client (all_taken led)) k ≡ Some h
    joined = ap (λ own. slice_get own k) (sym (attempts_append client g.commits (all_taken led))) ∙ e

module _ (group_bytes : ℕ) (controller_calls : List ControllerCall) (led : List Led) (attempts : List (List Attempt)) (a : AreLed group_bytes controller_calls led attempts) where
  holds : (i : ℕ) (own : List Attempt) (k : ℕ) (h : Attempt) → slice_get attempts i ≡ Some own → slice_get own k ≡ Some h → HoldsIn (groups_of led) (i + 1) k h
  holds i own k h of there =
      let e : slice_get (attempts_of (i + 1) (all_taken led)) k ≡ Some h = ap (λ xs. slice_get xs k) (sym (a.of_client i own of)) ∙ there in
      let zero_more : 0 + k ≡ k = omega arith in
      subst (λ n. HoldsIn (groups_of led) (i + 1) n h) zero_more (holds_after group_bytes controller_calls (i + 1) h [] led k a.each e)

  pub groups_from_led : AreGroups group_bytes controller_calls (groups_of led) attempts
  groups_from_led = record {
    each = asked_after group_bytes controller_calls [] led a.each;
    all = a.all;
    places = a.places;
    commits = rw (members_of_groups [] led) (left_of_zip (IsCommit attempts) (IsTaken attempts all a.of_client) _ _ (commits_after attempts all a.of_client [] all [] (append-nil all) a.clients));
    apart = all_apart (members_of (groups_of led)) (led_in_turn led);
    none_else = holds;
    together = together_after attempts all a.of_client controller_calls (groups_of led) [] led refl a.clients (all_places led a.each) (all_at_once led a.each) (rw (same_places [] led) a.together);
  }
    where
      all : List Taken
      all = all_taken led

      all_places : (led : List Led) → AllByRecursion (IsLed group_bytes controller_calls) led → AllByRecursion (λ (g : Led). AllByRecursion (λ (t : Taken). t.attempt.place ≡ g.place) g.commits) led
      all_places [] each = tt
      all_places (g ∷ led) each = (each.0.places, all_places led each.1)

      all_at_once : (led : List Led) → AllByRecursion (IsLed group_bytes controller_calls) led → AllByRecursion (λ (g : Led). AllByRecursion (λ (t : Taken). t.attempt.decided ≡ g.decided) g.commits) led
      all_at_once [] each = tt
      all_at_once (g ∷ led) each = (each.0.at_once, all_at_once led each.1)
