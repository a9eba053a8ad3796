-- The groups of the commits, each with the place of its delay in the controller's history, are all the groups of the
-- closing.
use Rattle.std.proofs.Common.{◌≡◌, ◌≢◌, ◌⊎◌, inl, inr, ℕ, suc, ◌+◌, ◌-◌, ◌<◌, ◌≤◌, Bool, true, false, true≢false, cond, ◌==◌, filter, flat_map, map, slice_get, List, [], ◌∷◌, ◌++◌, Some, length, refl, ap, sym, ◌∙◌, subst, ⊎_elim, arith, append_assoc, length-append}
use Rattle.std.specs.Prelude.{◌&&◌}
use Rattle.std.specs.Bool.{IsTrue}
use Rattle.std.specs.List.{AllByRecursion}
use Rattle.std.proofs.lemmas.List.{length-map, map-append}
use Rattle.std.proofs.lemmas.Option.{slice_get_within}
use mathlib.Core.List.{IsPrefix}
use Rattle.model_base.specs.declared.group.Item.{Item}
use Rattle.model_base.specs.Attempts.{Attempt, WriteStatus, slowed, item_of}
use Rattle.model_base.specs.Controller.{ControllerCall, Look, delay}
use Rattle.model_base.specs.Grouping.{group_len, size_of}
use Rattle.model_base.specs.Groups.{AreAsked, Group, Member, HasPlace, HaveOwnPlaces, MayProceed, SawNoStop, HaveOneFate, is_delay, is_slowed}
use Rattle.model_base.proofs.Prefixes.{prefix_at, prefix_length, prefix_trans}
use Rattle.table_rule.specs.Histories.{In}
use Rattle.model_runs.specs.Groups.{IsAskedByLeader, PlacesRise}
use Rattle.model_accounts.specs.Led as leds
use Rattle.model_accounts.specs.Led.{AreLed, IsLed, Led, Taken, all_taken, attempts_of, groups_after, groups_of, items_in}
use Rattle.engine_controller.specs.Delays.{delays_from, delays_of, place_if}
use Rattle.engine_controller.proofs.Asked.{same_client}
use Rattle.engine_controller.proofs.Totals.{all_back, all_map, get_behind}
use Rattle.engine_rule.specs.Commits.{Answer, AreOfClients, Commit, Heard, accepted, commits_of, failed, held_up, no_room}
use Rattle.engine_rule.specs.Plans.{CommitRequest, HasLooked, HaveOwnClients, LetsProceed, item_of_request}
use Rattle.engine_rule.specs.Asked.{AreInGroups, AreTogether, HasAsked, IsLedGroup, LedGroup, Rise, heard_by, is_held_up, place_of, request_of}
use Rattle.engine_rule.specs.Entries.{attempt_of, status_of}
use Rattle.engine_rule.specs.LogCalls.{led_of, taken_of}

-- a client's commits among the taken ones
pub attempts_taken : (client : ℕ) (ds : List Commit) → attempts_of client (map taken_of ds) ≡ map attempt_of (commits_of client ds)
attempts_taken client [] = refl
attempts_taken client (d ∷ ds) = by (d.client == client) refl (attempts_taken client ds)
  where
    by : (b : Bool) → (d.client == client) ≡ b → attempts_of client (map taken_of ds) ≡ map attempt_of (commits_of client ds) → attempts_of client (map taken_of (d ∷ ds)) ≡ map attempt_of (commits_of client (d ∷ ds))
    by true e h = rw e (ap (λ l. attempt_of d ∷ l) h)
    by false e h = rw e h

-- A delay was asked for each group

items_are : (cs : List Commit) → items_in (map taken_of cs) ≡ map item_of_request (map request_of cs)
items_are [] = refl
items_are (c ∷ cs) = ap (λ is. item_of_request (request_of c) ∷ is) (items_are cs)

as_long : (cs : List Commit) → length (map taken_of cs) ≡ length (map request_of cs)
as_long cs = length-map cs taken_of ∙ sym (length-map cs request_of)

unlike : (client : ℕ) (cs : List Commit) → AllByRecursion (λ (r : CommitRequest). client ≢ r.client) (map request_of cs) → AllByRecursion (λ (t : Taken). client ≢ t.client) (map taken_of cs)
unlike client [] h = tt
unlike client (c ∷ cs) h = (h.0, unlike client cs h.1)

of_others : (cs : List Commit) → HaveOwnClients (map request_of cs) → leds.HaveOwnClients (map taken_of cs)
of_others [] h = tt
of_others (c ∷ cs) h = (unlike c.client cs h.0, of_others cs h.1)

-- the group's delay is that of each of its commits, and its leader decided on all of them at once
places_here : (heard : Heard) (cs : List Commit) → AllByRecursion (λ (c : Commit). c.heard ≡ heard) cs → AllByRecursion (λ (t : Taken). t.attempt.place ≡ length heard.known - 1) (map taken_of cs)
places_here heard [] h = tt
places_here heard (c ∷ cs) h = (ap (λ (x : Heard). length x.known - 1) h.0, places_here heard cs h.1)

decided_here : (heard : Heard) (cs : List Commit) → AllByRecursion (λ (c : Commit). c.heard ≡ heard) cs → AllByRecursion (λ (t : Taken). t.attempt.decided ≡ length heard.went) (map taken_of cs)
decided_here heard [] h = tt
decided_here heard (c ∷ cs) h = (ap (λ (x : Heard). length x.went) h.0, decided_here heard cs h.1)

-- the statuses in a group: all of it is held up, by the answer of its delay, or none of it is
abbrev status_in : Taken → WriteStatus
status_in t = t.attempt.status

slowed_as : (v : Answer) → is_held_up v ≡ true → status_of v ≡ slowed
slowed_as (accepted first group_last) e = absurd (cc)
slowed_as (held_up numbers) e = refl
slowed_as (failed n) e = absurd (cc)
slowed_as (no_room l) e = absurd (cc)

is_slowed_as : (v : Answer) → is_slowed (status_of v) ≡ is_held_up v
is_slowed_as (accepted first group_last) = refl
is_slowed_as (held_up numbers) = refl
is_slowed_as (failed n) = refl
is_slowed_as (no_room l) = refl

all_slowed : (cs : List Commit) → AllByRecursion (λ (c : Commit). is_held_up c.answer ≡ true) cs
    → AllByRecursion (λ (status : WriteStatus). status ≡ slowed) (map status_in (map taken_of cs))
all_slowed [] h = tt
all_slowed (c ∷ cs) h = (slowed_as c.answer h.0, all_slowed cs h.1)

none_slowed : (cs : List Commit) → AllByRecursion (λ (c : Commit). is_held_up c.answer ≡ false) cs → AllByRecursion (λ (status : WriteStatus). is_slowed status ≡ false) (map status_in (map taken_of cs))
none_slowed [] h = tt
none_slowed (c ∷ cs) h = (is_slowed_as c.answer ∙ h.0, none_slowed cs h.1)

-- Each group's delay comes after all that the leaders before it had seen, and before the delays of the later groups

abbrev IsClear : LedGroup → LedGroup → Type 0
IsClear g h = (length h.known ≤ length g.known) ⊎ (length g.went < length h.known)

all_both : {A : Type 0} (P Q R : A → Type 0) → ((x : A) → P x → Q x → R x) → (xs : List A) → AllByRecursion P xs → AllByRecursion Q xs → AllByRecursion R xs
all_both P Q R f [] p q = tt
all_both P Q R f (x ∷ xs) p q = (f x p.0 q.0, all_both P Q R f xs p.1 q.1)

all_clear : (group_bytes : ℕ) (groups : List LedGroup) → AllByRecursion (IsLedGroup group_bytes) groups → Rise groups → AllByRecursion (λ (g : LedGroup). AllByRecursion (IsClear g) groups) groups
all_clear group_bytes [] h r = tt
all_clear group_bytes (g ∷ groups) h r =
    let long = prefix_length g.known g.went h.0.seen_since in (
      (inl (omega arith), all_map (λ (i : LedGroup). length g.went < length i.known) (IsClear g) (λ i later. inr later) groups r.0),
      all_both (λ (i : LedGroup). length g.went < length i.known) (λ (i : LedGroup). AllByRecursion (IsClear i) groups) (λ (i : LedGroup). AllByRecursion (IsClear i) (g ∷ groups))
          (λ i later rest. (inl (omega (arith, later, long)), rest)) groups r.0 (all_clear group_bytes groups h.1 r.1),
    )

before_others : (g : LedGroup) (at : ℕ) → at < length g.went → 1 ≤ length g.known → (groups : List LedGroup) → AllByRecursion (IsClear g) groups
    → AllByRecursion (λ (place : ℕ). length g.known - 1 < place → at < place) (map (λ (h : Led). h.place) (map led_of groups))
before_others g at within some [] clear = tt
before_others g at within some (h ∷ groups) clear = (by clear.0, before_others g at within some groups clear.1)
  where
    by : IsClear g h → length g.known - 1 < length h.known - 1 → at < length h.known - 1
    by (inl low) behind = absurd (omega (arith, low, behind))
    by (inr high) behind = omega (arith, high, within)

-- the last call of a beginning of the history, at its place in the history
last_there : (before : List ControllerCall) (t : ControllerCall) (known history : List ControllerCall) → known ≡ before ++ t ∷ [] → IsPrefix known history → slice_get history (length known - 1) ≡ Some t
last_there before t known history is p =
    let long : length known ≡ length before + 1 = ap length is ∙ length-append before (t ∷ []) in
    let place : length before ≡ length known - 1 = omega (arith, long) in
    let whole : before ++ t ∷ p.0 ≡ history = sym (append_assoc before (t ∷ []) p.0) ∙ (ap (λ l. l ++ p.0) (sym is) ∙ p.1) in
    subst (λ (z : List ControllerCall × ℕ). slice_get z.0 z.1 ≡ Some t) (λ i. (whole i, place i)) (get_behind before p.0 t)

module _ (start group_bytes : ℕ) (asked history : List ControllerCall) (cs : List Commit) (k : AreInGroups start group_bytes asked cs) (within : IsPrefix asked history) where
  abbrev pub led : List Led
  led = map led_of k.groups

  delay_there : (g : LedGroup) (h : IsLedGroup group_bytes g) → IsPrefix g.went asked
      → slice_get history (length g.known - 1) ≡ Some (record { client = h.asked.leader.client; action = delay h.asked.now (size_of (items_in (map taken_of g.commits))); told = Some h.numbers })
  delay_there g h p =
      let a = h.asked in
      subst (λ (is : List Item). slice_get history (length g.known - 1) ≡ Some (record { client = a.leader.client; action = delay a.now (size_of is); told = Some h.numbers })) (sym (items_are g.commits))
      (last_there a.before (record { client = a.leader.client; action = delay a.now (size_of (map item_of_request (map request_of g.commits))); told = Some h.numbers }) g.known history a.is
      (prefix_trans g.known g.went history h.seen_since (prefix_trans g.went asked history p within)))

  is_led : (g : LedGroup) → IsLedGroup group_bytes g → IsPrefix g.went asked → IsLed group_bytes history (led_of g)
  is_led g h p =
      let a = h.asked in
      let n = as_long g.commits in record {
        by = a.leader.client;
        now = a.now;
        told = Some h.numbers;
        there = delay_there g h p;
        some = (let s = h.is_group.some in omega (arith, n, s));
        whole = ap (group_len group_bytes) (items_are g.commits) ∙ (h.is_group.whole ∙ sym n);
        of_others = of_others g.commits h.is_group.of_others;
        places = places_here (heard_by g) g.commits h.same;
        at_once = decided_here (heard_by g) g.commits h.same;
      }

  all_led : (groups : List LedGroup) → AllByRecursion (IsLedGroup group_bytes) groups → AllByRecursion (λ (g : LedGroup). IsPrefix g.went asked) groups → AllByRecursion (IsLed group_bytes history) (map led_of groups)
  all_led [] h p = tt
  all_led (g ∷ groups) h p = (is_led g h.0 p.0, all_led groups h.1 p.1)

  -- no delay is the delay of two groups
  some_known : (g : LedGroup) → IsLedGroup group_bytes g → 1 ≤ length g.known
  some_known g h =
      let a = h.asked in
      let t : ControllerCall = record { client = a.leader.client; action = delay a.now (size_of (map item_of_request (map request_of g.commits))); told = Some h.numbers } in
      let long : length g.known ≡ length a.before + 1 = ap length a.is ∙ length-append a.before (t ∷ []) in
      omega (arith, long)

  above_after : (n : ℕ) (before : List Taken) (groups : List LedGroup) → 1 ≤ n → AllByRecursion (λ (g : LedGroup). n < length g.known) groups
      → AllByRecursion (λ (h : Group). n - 1 < h.place) (groups_after before (map led_of groups))
  above_after n before [] some h = tt
  above_after n before (g ∷ groups) some h = ((let above = h.0 in omega (arith, above, some)), above_after n (before ++ map taken_of g.commits) groups some h.1)

  -- the groups are in the order of their delays
  places_rise : (before : List Taken) (groups : List LedGroup) → AllByRecursion (IsLedGroup group_bytes) groups → Rise groups → PlacesRise (groups_after before (map led_of groups))
  places_rise before [] h r = tt
  places_rise before (g ∷ groups) h r =
      let long = prefix_length g.known g.went h.0.seen_since in
      let later = all_map (λ (i : LedGroup). length g.went < length i.known) (λ (i : LedGroup). length g.known < length i.known) (λ i more. omega (arith, more, long)) groups r.0 in
      (above_after (length g.known) (before ++ map taken_of g.commits) groups (some_known g h.0) later, places_rise (before ++ map taken_of g.commits) groups h.1 r.1)

  pub rising : PlacesRise (groups_of led)
  rising = places_rise [] k.groups k.each k.rise

  -- the delay at each group's place was asked for by the client of its first member
  first_member : (before : List Taken) (ds : List Commit) (leader : CommitRequest) (rest : List CommitRequest) → map request_of ds ≡ leader ∷ rest
      → (m : Member) × (slice_get (leds.members_after before (map taken_of ds)) 0 ≡ Some m) × (leader.client ≡ m.client)
  first_member before [] leader rest are = absurd (cc are)
  first_member before (d ∷ ds) leader rest are =
      let is : request_of d ≡ leader = cc are in
      (record { client = d.client; call = leds.count_of_client d.client before; item = item_of (attempt_of d) }, refl, ap (λ (q : CommitRequest). q.client) (sym is))

  asked_by_leaders : (before : List Taken) (groups : List LedGroup) → AllByRecursion (IsLedGroup group_bytes) groups → AllByRecursion (λ (g : LedGroup). IsPrefix g.went asked) groups → AllByRecursion (IsAskedByLeader history) (groups_after before (map led_of groups))
  asked_by_leaders before [] h p = tt
  asked_by_leaders before (g ∷ groups) h p =
      let first = first_member before g.commits (h.0.asked).leader (h.0.asked).rest (h.0.asked).leads in
      (record { leader = first.0; call = _; leads = first.1; there = delay_there g h.0 p.0; by = first.2 }, asked_by_leaders (before ++ map taken_of g.commits) groups h.1 p.1)

  pub by_leaders : AllByRecursion (IsAskedByLeader history) (groups_of led)
  by_leaders = asked_by_leaders [] k.groups k.each k.seen

  own_places : (groups : List Group) → PlacesRise groups → HaveOwnPlaces groups
  own_places [] r = tt
  own_places (g ∷ groups) r = (all_map (λ (h : Group). g.place < h.place) (λ (h : Group). g.place ≢ h.place) (λ h later same. absurd (omega (arith, later, same))) groups r.0, own_places groups r.1)

  -- Each is held up as a whole, or goes on as a whole

  abbrev places_led : List ℕ
  places_led = map (λ (g : Led). g.place) led

  -- the look that allows its leader to proceed is in the history
  saw_no_stop : (g : LedGroup) → IsLedGroup group_bytes g → IsPrefix g.went asked → AllByRecursion (IsClear g) k.groups → (leader : ℕ) → HasLooked leader g.known g.went → SawNoStop history places_led leader (length g.known - 1) (length g.went)
  saw_no_stop g h p clear leader l =
      let there = l.is_later.there in
      let later = l.is_later.later in
      let some = some_known g h in record {
        at = l.place;
        numbers = l.numbers;
        there = prefix_at g.went history (prefix_trans g.went asked history p within) l.place _ there;
        behind = omega (arith, later, some);
        before = before_others g l.place (slice_get_within g.went l.place _ there) some k.groups clear;
        among = slice_get_within g.went l.place _ there;
        free = l.free;
      }

  may_proceed : (g : LedGroup) → IsLedGroup group_bytes g → IsPrefix g.went asked → AllByRecursion (IsClear g) k.groups → (leader : ℕ) (numbers : Look) (no_slowdown : Bool) → LetsProceed leader numbers g.known g.went no_slowdown
      → MayProceed history places_led leader (length g.known - 1) (length g.went) numbers no_slowdown
  may_proceed g h p clear leader numbers true lets = lets
  may_proceed g h p clear leader numbers false (inl free) = inl free
  may_proceed g h p clear leader numbers false (inr looked) = inr (saw_no_stop g h p clear leader looked)

  all_proceed : (g : LedGroup) → IsLedGroup group_bytes g → IsPrefix g.went asked → AllByRecursion (IsClear g) k.groups → (leader : ℕ) (numbers : Look) (ds : List Commit)
      → AllByRecursion (λ (q : CommitRequest). LetsProceed leader numbers g.known g.went q.options.no_slowdown) (map request_of ds) → AllByRecursion (λ (i : Item). MayProceed history places_led leader (length g.known - 1) (length g.went) numbers i.options.no_slowdown) (items_in (map taken_of ds))
  all_proceed g h p clear leader numbers [] lets = tt
  all_proceed g h p clear leader numbers (d ∷ ds) lets = (may_proceed g h p clear leader numbers d.options.no_slowdown lets.0, all_proceed g h p clear leader numbers ds lets.1)

  abbrev IsTogether : LedGroup → Type 0
  IsTogether g = HaveOneFate history places_led (length g.known - 1) (length g.went) (items_in (map taken_of g.commits)) (map status_in (map taken_of g.commits))

  stands : (g : LedGroup) → IsLedGroup group_bytes g → IsPrefix g.went asked → AllByRecursion (IsClear g) k.groups → IsTogether g
  stands g h p clear = by h.together
    where
      by : AreTogether g h.numbers → IsTogether g
      by (inl held) = inl (all_slowed g.commits held)
      by (inr t) =
          let leader_is : t.1.leader ≡ h.asked.leader = cc (sym t.1.leads ∙ h.asked.leads) in
          inr (
            none_slowed g.commits t.0,
            record {
              by = h.asked.leader.client;
              now = h.asked.now;
              bytes = size_of (items_in (map taken_of g.commits));
              numbers = h.numbers;
              there = delay_there g h p;
              each = subst (λ (q : CommitRequest). AllByRecursion (λ (i : Item). MayProceed history places_led q.client (length g.known - 1) (length g.went) h.numbers i.options.no_slowdown) (items_in (map taken_of g.commits))) leader_is
                  (all_proceed g h p clear t.1.leader.client h.numbers g.commits t.1.each);
            },
          )

  all_stand : (groups : List LedGroup) → AllByRecursion (IsLedGroup group_bytes) groups → AllByRecursion (λ (g : LedGroup). IsPrefix g.went asked) groups → AllByRecursion (λ (g : LedGroup). AllByRecursion (IsClear g) k.groups) groups
      → AllByRecursion (λ (g : Led). HaveOneFate history places_led g.place g.decided (items_in g.commits) (map status_in g.commits)) (map led_of groups)
  all_stand [] h p clear = tt
  all_stand (g ∷ groups) h p clear = (stands g h.0 p.0 clear.0, all_stand groups h.1 p.1 clear.1)

  -- All commits are in the groups

  taken_all : (groups : List LedGroup) → all_taken (map led_of groups) ≡ map taken_of (flat_map (λ (g : LedGroup). g.commits) groups)
  taken_all [] = refl
  taken_all (g ∷ groups) = ap (λ ts. map taken_of g.commits ++ ts) (taken_all groups) ∙ sym (map-append taken_of g.commits (flat_map (λ (h : LedGroup). h.commits) groups))

  taken_is : all_taken led ≡ map taken_of cs
  taken_is = taken_all k.groups ∙ ap (map taken_of) k.cut

  clients_of : (n : ℕ) (ds : List Commit) → AreOfClients n ds → AllByRecursion (λ (t : Taken). (1 ≤ t.client) × (t.client ≤ n)) (map taken_of ds)
  clients_of n [] h = tt
  clients_of n (d ∷ ds) h = (h.0, clients_of n ds h.1)

  -- Each delay was asked for one of the groups

  in_append : (xs ys : List Commit) (c : Commit) → In c (xs ++ ys) → In c xs ⊎ In c ys
  in_append [] ys c h = inr h
  in_append (x ∷ xs) ys c (inl e) = inl (inl e)
  in_append (x ∷ xs) ys c (inr h) = ⊎_elim (λ (p : In c xs). inl (inr p)) (λ (p : In c ys). inr p) (in_append xs ys c h)

  in_filter : (p : Commit → Bool) (xs : List Commit) (c : Commit) → In c (filter p xs) → In c xs
  in_filter p [] c h = h
  in_filter p (x ∷ xs) c h = by (p x) h (λ rest. in_filter p xs c rest)
    where
      by : (b : Bool) → In c (cond b (x ∷ filter p xs) (filter p xs)) → (In c (filter p xs) → In c xs) → In c (x ∷ xs)
      by true (inl e) more = inl e
      by true (inr rest) more = inr (more rest)
      by false rest more = inr (more rest)

  of_in : (P : Commit → Type 0) (xs : List Commit) (c : Commit) → AllByRecursion P xs → In c xs → P c
  of_in P [] c h i = absurd i
  of_in P (x ∷ xs) c h (inl e) = subst P e h.0
  of_in P (x ∷ xs) c h (inr i) = of_in P xs c h.1 i

  place_later : (g : Group) (groups : List Group) (place : ℕ) → HasPlace groups place → HasPlace (g ∷ groups) place
  place_later g groups place h = record { at = suc h.at; group = h.group; there = h.there; is = h.is }

  place_in : (before : List Taken) (groups : List LedGroup) → AllByRecursion (IsLedGroup group_bytes) groups → (c : Commit) → In c (flat_map (λ (g : LedGroup). g.commits) groups) → HasPlace (groups_after before (map led_of groups)) (place_of c)
  place_in before [] h c i = absurd i
  place_in before (g ∷ groups) h c i = ⊎_elim
      (λ (p : In c g.commits). record {
        at = 0;
        group = record { place = length g.known - 1; members = leds.members_after before (map taken_of g.commits) };
        there = refl;
        is = ap (λ (x : Heard). length x.known - 1) (sym (of_in (λ (d : Commit). d.heard ≡ heard_by g) g.commits c h.0.same p));
      })
      (λ (p : In c (flat_map (λ (d : LedGroup). d.commits) groups)). place_later (record { place = length g.known - 1; members = leds.members_after before (map taken_of g.commits) }) (groups_after (before ++ map taken_of g.commits) (map led_of groups)) (place_of c)
      (place_in (before ++ map taken_of g.commits) groups h.1 c p))
      (in_append g.commits (flat_map (λ (d : LedGroup). d.commits) groups) c i)

  has_place : (c : Commit) → In c cs → HasPlace (groups_of led) (place_of c)
  has_place c i = place_in [] k.groups k.each c (subst (In c) (sym k.cut) i)

  head_asked : (groups : List Group) (client p : ℕ) (b : Bool) (rest : List ℕ) → IsTrue b → AllByRecursion (HasPlace groups) (place_if ((client == client) && b) p ++ rest) → HasPlace groups p
  head_asked groups client p true rest d a = (subst (λ x. AllByRecursion (HasPlace groups) (place_if (x && true) p ++ rest)) (same_client client) a).0
  head_asked groups client p false rest d a = absurd (true≢false (sym d))

  asked_from : (groups : List Group) (n p : ℕ) (calls : List ControllerCall) → AllByRecursion (λ (t : ControllerCall). (1 ≤ t.client) × (t.client ≤ n)) calls
      → ((client : ℕ) → 1 ≤ client → client ≤ n → AllByRecursion (HasPlace groups) (delays_from client p calls)) → AreAsked groups p calls
  asked_from groups n p [] of_clients each = tt
  asked_from groups n p (t ∷ calls) of_clients each = (
    λ d. head_asked groups t.client p (is_delay t.action) (delays_from t.client (p + 1) calls) d (each t.client of_clients.0.0 of_clients.0.1),
    asked_from groups n (p + 1) calls of_clients.1
        (λ client low high. all_back (HasPlace groups) (place_if ((t.client == client) && is_delay t.action) p) (delays_from client (p + 1) calls) (each client low high)),
  )

  -- each delay that a client has asked for is the delay of a group
  places_of : (client : ℕ) (known : List ControllerCall) → delays_of client history ≡ delays_of client known → HasAsked client (commits_of client cs) known → AllByRecursion (HasPlace (groups_of led)) (delays_of client history)
  places_of client known same h = subst (AllByRecursion (HasPlace (groups_of led))) (sym same)
      (all_map (λ (place : ℕ). (c : Commit) × In c (commits_of client cs) × (place_of c ≡ place)) (HasPlace (groups_of led))
      (λ place t. subst (HasPlace (groups_of led)) t.2 (has_place t.0 (in_filter (λ (c : Commit). c.client == client) cs t.0 t.1))) (delays_of client known) h)

  pub are_led : (n : ℕ) (attempts : List (List Attempt)) → length attempts ≡ n → AreOfClients n cs → AllByRecursion (λ (t : ControllerCall). (1 ≤ t.client) × (t.client ≤ n)) history
      → ((client : ℕ) → 1 ≤ client → client ≤ n → (known : List ControllerCall) × (delays_of client history ≡ delays_of client known) × HasAsked client (commits_of client cs) known)
      → ((i : ℕ) (own : List Attempt) → slice_get attempts i ≡ Some own → own ≡ map attempt_of (commits_of (i + 1) cs))
      → AreLed group_bytes history led attempts
  are_led n attempts number of_clients calls_of have_asked own_is = record {
    each = all_led k.groups k.each k.seen;
    places = own_places (groups_of led) rising;
    all = asked_from (groups_of led) n 0 history calls_of (λ client low high. let h = have_asked client low high in places_of client h.0 h.1 h.2);
    clients = subst (λ (z : ℕ × List Taken). AllByRecursion (λ (t : Taken). (1 ≤ t.client) × (t.client ≤ z.0)) z.1) (λ i. (sym number i, sym taken_is i)) (clients_of n cs of_clients);
    together = all_stand k.groups k.each k.seen (all_clear group_bytes k.groups k.each k.rise);
    of_client = λ i own e. own_is i own e ∙ (sym (attempts_taken (i + 1) cs) ∙ ap (attempts_of (i + 1)) (sym taken_is));
  }
