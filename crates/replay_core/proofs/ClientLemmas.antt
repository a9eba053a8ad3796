-- Clients, their seats and their replies.
use Rattle.std.proofs.Common.{◌≡◌, ◌≢◌, ◌⊎◌, inl, inr, ℕ, zero, suc, ◌+◌, ◌-◌, ◌<◌, ◌≤◌, Bool, true, false, ◌==◌, List, [], ◌∷◌, ◌++◌, length, map, get_or, slice_get, slice_set, Option, Some, None, refl, sym, ap, ◌∙◌, subst, arith}
use Rattle.std.specs.Prelude.{if◌then◌else◌, not, find, filter, count_by, option_map}
use Rattle.std.proofs.lemmas.Bool.Decides.{nat_tests}
use Rattle.std.proofs.lemmas.List.{length-set, get_or_past}
use Rattle.std.proofs.lemmas.Option.{get_or_from_slice_get, slice_get_past}
use Rattle.std.proofs.lemmas.List.Sums.{sum_by-cons, sum_by-append, sum_by-set}
use Rattle.model_base.specs.Calls.{Command, Reply, Call}
use Rattle.model_core.specs.Core as core
use Rattle.model_core.specs.CoreLaw.{IsCore, in_order, waiting_clients}
use Rattle.replay_plans.specs.declared.plan.ClientPlan.{ClientPlan}
use Rattle.replay_core.specs.declared.writer.CoreReply.{CoreReply}
use Rattle.replay_core.specs.declared.state.Seat.{Seat}
use Rattle.replay_plans.specs.Plans.{records_in}
use Rattle.replay_core.specs.Shown.{shown_writer}
use Rattle.replay_core.specs.declared.writer.Writer.{Writer}
use Rattle.replay_core.specs.Mirrors.{IsClient, AreClients, AreDone, done_of, lines_left}
use Rattle.replay_plans.specs.Answers.{is_answer, answers_of}
use Rattle.replay_core.specs.Replies.{IsReply, AreReplies}

replies_push : (xs : List CoreReply) (rs : List Reply) (x : CoreReply) (r : Reply) → AreReplies xs rs → IsReply x r → AreReplies (xs ++ x ∷ []) (rs ++ r ∷ [])
replies_push [] [] x r h k = (k, tt)
replies_push [] (s ∷ rs) x r h k = absurd h
replies_push (y ∷ xs) [] x r h k = absurd h
replies_push (y ∷ xs) (s ∷ rs) x r h k = (h.0, replies_push xs rs x r h.1 k)

answers_push : (calls : List Call) (c : Call) (r : Reply) → is_answer c.reply ≡ Some r → answers_of (calls ++ c ∷ []) ≡ answers_of calls ++ r ∷ []
answers_push [] c r e = ap (λ o. kept o []) e
  where
    kept : Option Reply → List Reply → List Reply
    kept None rs = rs
    kept (Some x) rs = x ∷ rs
answers_push (d ∷ calls) c r e = by_answer (is_answer d.reply) (answers_push calls c r e)
  where
    kept : Option Reply → List Reply → List Reply
    kept None rs = rs
    kept (Some x) rs = x ∷ rs

    by_answer : (o : Option Reply) → answers_of (calls ++ c ∷ []) ≡ answers_of calls ++ r ∷ [] → kept o (answers_of (calls ++ c ∷ [])) ≡ kept o (answers_of calls) ++ r ∷ []
    by_answer None h = h
    by_answer (Some x) h = ap (λ rs. x ∷ rs) h

pub reply_more : (xs : List CoreReply) (calls : List Call) (x : CoreReply) (command : Command) (r : Reply) → AreReplies xs (answers_of calls) → IsReply x r → is_answer r ≡ Some r
    → AreReplies (xs ++ x ∷ []) (answers_of (calls ++ record { command = command; reply = r } ∷ []))
reply_more xs calls x command r h k e =
    let P : List Reply → Type 0 = λ rs. AreReplies (xs ++ x ∷ []) rs in
    subst P (sym (answers_push calls (record { command = command; reply = r }) r e)) (replies_push xs (answers_of calls) x r h k)

pub set_same : {A : Type 0} (xs : List A) (i : ℕ) (y : A) → i < length xs → slice_get (slice_set xs i y) i ≡ Some y
set_same [] i y h = absurd (omega arith)
set_same (x ∷ xs) zero y h = refl
set_same (x ∷ xs) (suc i) y h = set_same xs i y (omega arith)

pub set_other : {A : Type 0} (xs : List A) (i j : ℕ) (y : A) → j ≢ i → slice_get (slice_set xs i y) j ≡ slice_get xs j
set_other [] i j y h = refl
set_other (x ∷ xs) zero zero y h = absurd (h refl)
set_other (x ∷ xs) zero (suc j) y h = refl
set_other (x ∷ xs) (suc i) zero y h = refl
set_other (x ∷ xs) (suc i) (suc j) y h = set_other xs i j y (λ e. h (ap suc e))

pub get_some : {A : Type 0} (xs : List A) (i : ℕ) → i < length xs → (x : A) × (slice_get xs i ≡ Some x)
get_some [] i h = absurd (omega arith)
get_some (x ∷ xs) zero h = (x, refl)
get_some (x ∷ xs) (suc i) h = get_some xs i (omega arith)

-- one client goes on
pub clients_set : (plans : List ClientPlan) (seats : List Seat) (clients : List core.Client) (i : ℕ) (plan : ClientPlan) (seat : Seat) (client : core.Client)
    → AreClients plans seats clients → i < length clients → slice_get plans i ≡ Some plan → IsClient plan seat client → AreClients plans (slice_set seats i seat) (slice_set clients i client)
clients_set plans seats clients i plan seat client are h p is = record {
  plan_each = are.plan_each ∙ sym (length-set clients i client);
  seat_each = length-set seats i seat ∙ are.seat_each ∙ sym (length-set clients i client);
  each = λ j pj sj cj ep es ec. by_place j pj sj cj ep es ec (j == i) refl;
}
  where
    by_place : (j : ℕ) (pj : ClientPlan) (sj : Seat) (cj : core.Client) → slice_get plans j ≡ Some pj → slice_get (slice_set seats i seat) j ≡ Some sj → slice_get (slice_set clients i client) j ≡ Some cj
        → (b : Bool) → (j == i) ≡ b → IsClient pj sj cj
    by_place j pj sj cj ep es ec true t =
        let same : j ≡ i = grind (arith, nat_tests) in
        let some : i < length seats = omega (arith, are.seat_each) in
        let ep' : slice_get plans i ≡ Some pj = ap (slice_get plans) (sym same) ∙ ep in
        let es' : slice_get (slice_set seats i seat) i ≡ Some sj = ap (slice_get (slice_set seats i seat)) (sym same) ∙ es in
        let ec' : slice_get (slice_set clients i client) i ≡ Some cj = ap (slice_get (slice_set clients i client)) (sym same) ∙ ec in
        let p_is : plan ≡ pj = cc (p, ep') in
        let s_is : seat ≡ sj = cc (set_same seats i seat some, es') in
        let c_is : client ≡ cj = cc (set_same clients i client h, ec') in
        let P : ClientPlan → Type 0 = λ x. IsClient x seat client in
        let Q : Seat → Type 0 = λ x. IsClient pj x client in
        let R : core.Client → Type 0 = λ x. IsClient pj sj x in
        subst R c_is (subst Q s_is (subst P p_is is))
    by_place j pj sj cj ep es ec false t =
        let other : j ≢ i = λ same. grind (arith, nat_tests) in
        are.each j pj sj cj ep (sym (set_other seats i j seat other) ∙ es) (sym (set_other clients i j client other) ∙ ec)

-- a client whose writer has left with an answer isn't idle
found_counts : (c : ℕ) (leaving : List core.Writer) (w : core.Writer) → find (λ (v : core.Writer). v.client == c) leaving ≡ Some w → 1 ≤ count_by (λ n. n == c) (map (λ (v : core.Writer). v.client) leaving)
found_counts c [] w e = cc
found_counts c (v ∷ leaving) w e = by_first (found_counts c leaving w) (v.client == c) refl e
  where
    by_first : (find (λ (v : core.Writer). v.client == c) leaving ≡ Some w → 1 ≤ count_by (λ n. n == c) (map (λ (v : core.Writer). v.client) leaving))
        → (b : Bool) → (v.client == c) ≡ b → (if b then Some v else find (λ (v : core.Writer). v.client == c) leaving) ≡ Some w
        → 1 ≤ count_by (λ n. n == c) (v.client ∷ map (λ (v : core.Writer). v.client) leaving)
    by_first later true t e =
        let one : ◌≡◌ {A = ℕ} (if v.client == c then 1 else 0) 1 = ap (λ b. if b then 1 else 0) t in
        omega (arith, one, sum_by-cons (λ n. if n == c then 1 else 0) v.client (map (λ (v : core.Writer). v.client) leaving))
    by_first later false t e =
        omega (arith, later e, sum_by-cons (λ n. if n == c then 1 else 0) v.client (map (λ (v : core.Writer). v.client) leaving))

pub leaving_is_busy : (o : core.Options) (s : core.State) (c : ℕ) (client : core.Client) (w : core.Writer) → IsCore o s → core.client_at s c ≡ Some client → find (λ (v : core.Writer). v.client == c) s.leaving ≡ Some w → client.idle ≡ false
leaving_is_busy o s c client w is there found = by_idle client.idle (is.once c client there)
  where
    there_are : 1 ≤ count_by (λ n. n == c) (waiting_clients s)
    there_are = omega (arith, sum_by-append (λ n. if n == c then 1 else 0) (in_order s) (map (λ (v : core.Writer). v.client) s.leaving), found_counts c s.leaving w found)

    by_idle : (b : Bool) → count_by (λ n. n == c) (waiting_clients s) ≡ (if b then 0 else 1) → b ≡ false
    by_idle true e = absurd (omega (arith, there_are))
    by_idle false e = refl

pub empty_lines : (plan : ClientPlan) (n : ℕ) → records_in plan (record { from = n; to = n }) ≡ []
empty_lines plan n = let none : n - n ≡ 0 = omega arith in rw none refl

-- a client that gets its answer is no longer among those that have left, and the others still are
pub find_filter : (m c : ℕ) (leaving : List core.Writer) → find (λ (w : core.Writer). w.client == c) (filter (λ (w : core.Writer). not (w.client == m)) leaving)
    ≡ (if c == m then None else find (λ (w : core.Writer). w.client == c) leaving)
find_filter m c [] = none (c == m)
  where
    none : (b : Bool) → (let e : Option core.Writer = None in e) ≡ (if b then None else None)
    none true = refl
    none false = refl
find_filter m c (w ∷ leaving) = by_test (find_filter m c leaving) (w.client == m) (w.client == c) (c == m) refl refl refl
  where
    by_test : find (λ (w : core.Writer). w.client == c) (filter (λ (w : core.Writer). not (w.client == m)) leaving) ≡ (if c == m then None else find (λ (w : core.Writer). w.client == c) leaving)
        → (a b d : Bool) → (w.client == m) ≡ a → (w.client == c) ≡ b → (c == m) ≡ d
        → find (λ (w : core.Writer). w.client == c) (if not a then w ∷ filter (λ (w : core.Writer). not (w.client == m)) leaving else filter (λ (w : core.Writer). not (w.client == m)) leaving)
        ≡ (if d then None else (if b then Some w else find (λ (w : core.Writer). w.client == c) leaving))
    by_test later true true true p q r = later ∙ ap (λ x. if x then None else find (λ (w : core.Writer). w.client == c) leaving) r
    by_test later true false true p q r = later ∙ ap (λ x. if x then None else find (λ (w : core.Writer). w.client == c) leaving) r
    by_test later true false false p q r = later ∙ ap (λ x. if x then None else find (λ (w : core.Writer). w.client == c) leaving) r
    by_test later true true false p q r = let e : w.client ≡ m = grind (arith, nat_tests) in let f : w.client ≡ c = grind (arith, nat_tests) in let g : c ≡ m = sym f ∙ e in let h : (c == m) ≡ true = grind (arith, nat_tests) in cc
    by_test later false true true p q r = let e : w.client ≡ c = grind (arith, nat_tests) in let f : c ≡ m = grind (arith, nat_tests) in let g : w.client ≡ m = e ∙ f in let h : (w.client == m) ≡ true = grind (arith, nat_tests) in cc
    by_test later false true false p q r = ap (λ x. if x then Some w else find (λ (w : core.Writer). w.client == c) (filter (λ (w : core.Writer). not (w.client == m)) leaving)) q
    by_test later false false true p q r = ap (λ x. if x then Some w else find (λ (w : core.Writer). w.client == c) (filter (λ (w : core.Writer). not (w.client == m)) leaving)) q ∙ later ∙ ap (λ x. if x then None else find (λ (w : core.Writer). w.client == c) leaving) r
    by_test later false false false p q r = ap (λ x. if x then Some w else find (λ (w : core.Writer). w.client == c) (filter (λ (w : core.Writer). not (w.client == m)) leaving)) q ∙ later ∙ ap (λ x. if x then None else find (λ (w : core.Writer). w.client == c) leaving) r

pub done_told : (plans : List ClientPlan) (old new : List (Option Writer)) (leaving : List core.Writer) (m : ℕ) → AreDone plans old leaving → ((c : ℕ) → done_of new c ≡ (if c == m then None else done_of old c))
    → AreDone plans new (filter (λ (w : core.Writer). not (w.client == m)) leaving)
done_told plans old new leaving m are set = λ c. find_filter m c leaving ∙ ap (λ x. if c == m then None else x) (are c) ∙ by_test (c == m) c ∙ ap (option_map (shown_writer plans)) (sym (set c))
  where
    by_test : (b : Bool) (c : ℕ) → (if b then None else option_map (shown_writer plans) (done_of old c)) ≡ option_map (shown_writer plans) (if b then None else done_of old c)
    by_test true c = refl
    by_test false c = refl

-- nobody has left under a number that no client has
pub done_past : (done : List (Option Writer)) (n c : ℕ) → length done ≡ n → (c ≡ 0) ⊎ (n < c) → done_of done c ≡ None
done_past done n zero e h = refl
done_past done n (suc c) e (inl z) = absurd (omega arith)
done_past done n (suc c) e (inr lt) = get_or_past done c None (omega arith)

pub client_of : (s : core.State) (c place : ℕ) (client : core.Client) → c ≡ place + 1 → slice_get s.clients place ≡ Some client → core.client_at s c ≡ Some client
client_of s c place client e there = let k : c ≡ suc place = omega arith in ap (core.client_at s) k ∙ there

pub lines_kept : (clients : List core.Client) (i : ℕ) (old new : core.Client) → i < length clients → slice_get clients i ≡ Some old → length new.left ≡ length old.left → lines_left (slice_set clients i new) ≡ lines_left clients
lines_kept clients i old new h there same =
    let read : get_or clients i old ≡ old = get_or_from_slice_get clients i old old there in
    let is : length ((get_or clients i old).left) ≡ length old.left = ap (λ (x : core.Client). length x.left) read in
    omega (arith, sum_by-set (λ (c : core.Client). length c.left) clients i new old h, is, same)

pub lines_fewer : (clients : List core.Client) (i : ℕ) (old new : core.Client) → i < length clients → slice_get clients i ≡ Some old → length new.left ≤ length old.left → lines_left (slice_set clients i new) ≤ lines_left clients
lines_fewer clients i old new h there fewer =
    let read : get_or clients i old ≡ old = get_or_from_slice_get clients i old old there in
    let is : length ((get_or clients i old).left) ≡ length old.left = ap (λ (x : core.Client). length x.left) read in
    omega (arith, sum_by-set (λ (c : core.Client). length c.left) clients i new old h, is, fewer)

pub client_there : (s : core.State) (c place : ℕ) (client : core.Client) → c ≡ place + 1 → core.client_at s c ≡ Some client → slice_get s.clients place ≡ Some client
client_there s c place client e there = let k : suc place ≡ c = omega arith in ap (core.client_at s) k ∙ there

pub client_past : (s : core.State) (n c : ℕ) (client : core.Client) → length s.clients ≡ n → (c ≡ 0) ⊎ (n < c) → core.client_at s c ≡ Some client → ⊥
client_past s n zero client e h there = cc
client_past s n (suc c) client e (inl z) there = omega arith
client_past s n (suc c) client e (inr lt) there = let none : slice_get s.clients c ≡ None = slice_get_past s.clients c (omega arith) in cc
