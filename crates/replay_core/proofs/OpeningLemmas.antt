-- Clients before their first lines.
use Rattle.std.proofs.Common.{◌≡◌, ℕ, zero, suc, ◌+◌, ◌<◌, List, [], ◌∷◌, ◌++◌, length, take, drop, map, sum_by, get_or, replicate, slice_get, Option, Some, None, refl, sym, ap, ◌∙◌, subst, arith}
use Rattle.std.specs.List.{AllByRecursion, AllZip}
use Rattle.std.specs.Prelude.{option_map}
use Rattle.std.proofs.lemmas.List.{length-map, take_more}
use Rattle.std.proofs.lemmas.List.Sums.{sum_by-cons}
use Rattle.model_core.specs.Core as core
use Rattle.replay_plans.specs.declared.plan.ClientPlan.{ClientPlan}
use Rattle.replay_core.specs.declared.writer.CoreReply.{CoreReply}
use Rattle.replay_core.specs.declared.writer.Writer.{Writer}
use Rattle.replay_core.specs.declared.state.Seat.{Seat}
use Rattle.replay_core.specs.Fresh.{IsFresh}
use Rattle.replay_plans.specs.Plans.{records_in}
use Rattle.replay_core.specs.Shown.{shown_writer}
use Rattle.replay_plans.specs.Small.{IsSmallPlan}
use Rattle.replay_core.specs.Mirrors.{IsClient, AreClients, AreDone, done_of, lines_left}
use Rattle.replay_plans.specs.Answers.{answers_of}
use Rattle.replay_core.specs.Replies.{AreReplies}

-- Two lists, place by place

zip_push : {A B : Type 0} (R : A → B → Type 0) (xs : List A) (ys : List B) (x : A) (y : B) → AllZip R xs ys → R x y → AllZip R (xs ++ x ∷ []) (ys ++ y ∷ [])
zip_push R [] [] x y h k = (k, tt)
zip_push R [] (v ∷ ys) x y h k = absurd h
zip_push R (u ∷ xs) [] x y h k = absurd h
zip_push R (u ∷ xs) (v ∷ ys) x y h k = (h.0, zip_push R xs ys x y h.1 k)

pub zip_more : {A B : Type 0} (R : A → B → Type 0) (xs : List A) (ys : List B) (i : ℕ) (x : A) (y : B) → i < length xs → x ≡ get_or xs i x → AllZip R (take i xs) ys → R x y → AllZip R (take (i + 1) xs) (ys ++ y ∷ [])
zip_more {A = A} R xs ys i x y h e z k =
    let P : List A → Type 0 = λ zs. AllZip R zs (ys ++ y ∷ []) in
    subst P (sym (take_more xs i x h ∙ ap (λ v. take i xs ++ v ∷ []) (sym e))) (zip_push R (take i xs) ys x y z k)

zip_length : {A B : Type 0} (R : A → B → Type 0) (xs : List A) (ys : List B) → AllZip R xs ys → length ys ≡ length xs
zip_length R [] [] z = refl
zip_length R [] (y ∷ ys) z = absurd z
zip_length R (x ∷ xs) [] z = absurd z
zip_length R (x ∷ xs) (y ∷ ys) z = omega (arith, zip_length R xs ys z.1)

-- Clients

fresh_client : (plan : ClientPlan) (seat : Seat) → IsSmallPlan plan → IsFresh plan seat → IsClient plan seat (core.idle_client plan)
fresh_client plan seat small f =
    let P : List CoreReply → Type 0 = λ xs. AreReplies xs (answers_of []) in
    record {
      left = sym (ap (λ n. drop n plan) f.next);
      begun = omega (arith, f.from);
      within = omega (arith, f.next);
      added = sym (ap (λ n. records_in plan (record { from = seat.from; to = n })) f.next ∙ ap (λ n. records_in plan (record { from = n; to = 0 })) f.from);
      small = small;
      idle = sym f.idle;
      replies = subst P (sym f.replies) tt;
      room = omega (arith, f.room, ap length f.replies);
    }

each_fresh : (plans : List ClientPlan) (seats : List Seat) → AllByRecursion IsSmallPlan plans → AllZip IsFresh plans seats → (i : ℕ) (plan : ClientPlan) (seat : Seat) (client : core.Client)
    → slice_get plans i ≡ Some plan → slice_get seats i ≡ Some seat → slice_get (map core.idle_client plans) i ≡ Some client → IsClient plan seat client
each_fresh [] seats small z i plan seat client p q r = cc
each_fresh (x ∷ plans) [] small z i plan seat client p q r = absurd z
each_fresh (x ∷ plans) (y ∷ seats) small z zero plan seat client p q r =
    let same_plan : x ≡ plan = cc in
    let same_seat : y ≡ seat = cc in
    let same_client : core.idle_client x ≡ client = cc in
    let P : ClientPlan → Type 0 = λ v. IsClient v y (core.idle_client x) in
    let Q : Seat → Type 0 = λ v. IsClient plan v (core.idle_client x) in
    subst (IsClient plan seat) same_client (subst Q same_seat (subst P same_plan (fresh_client x y small.0 z.0)))
each_fresh (x ∷ plans) (y ∷ seats) small z (suc i) plan seat client p q r = each_fresh plans seats small.1 z.1 i plan seat client p q r

clients_length : (plans : List ClientPlan) → length (map core.idle_client plans) ≡ length plans
clients_length plans = length-map plans core.idle_client

pub fresh_clients : (plans : List ClientPlan) (seats : List Seat) → AllByRecursion IsSmallPlan plans → AllZip IsFresh plans seats → AreClients plans seats (map core.idle_client plans)
fresh_clients plans seats small z = record {
  plan_each = sym (clients_length plans);
  seat_each = zip_length IsFresh plans seats z ∙ sym (clients_length plans);
  each = each_fresh plans seats small z;
}

-- before the first event all lines are left
pub all_left : (plans : List ClientPlan) → lines_left (map core.idle_client plans) ≡ sum_by (λ (p : ClientPlan). length p) plans
all_left [] = refl
all_left (p ∷ plans) =
    sum_by-cons (λ (c : core.Client). length c.left) (core.idle_client p) (map core.idle_client plans)
    ∙ ap (λ n. length p + n) (all_left plans)
    ∙ sym (sum_by-cons (λ (p : ClientPlan). length p) p plans)

-- nobody has left
abbrev no_writer : Option Writer
no_writer = None

none_done : (n c : ℕ) → get_or (replicate n no_writer) c no_writer ≡ no_writer
none_done zero c = refl
none_done (suc n) zero = refl
none_done (suc n) (suc c) = none_done n c

pub nobody_done : (plans : List ClientPlan) (left : List (Option Writer)) (n : ℕ) → left ≡ replicate n None → AreDone plans left []
nobody_done plans left n e =
    let P : List (Option Writer) → Type 0 = λ xs. AreDone plans xs [] in
    subst P (sym e) (by_number n)
  where
    shown_none : (o : Option Writer) → o ≡ None → None ≡ option_map (shown_writer plans) o
    shown_none None e = refl
    shown_none (Some w) e = cc

    by_number : (n c : ℕ) → None ≡ option_map (shown_writer plans) (done_of (replicate n no_writer) c)
    by_number n zero = refl
    by_number n (suc c) = shown_none (get_or (replicate n no_writer) c no_writer) (none_done n c)
