-- Players are made from the writers of an opened list, and give the writers back.
use Rattle.std.proofs.Common.{◌≡◌, ◌≢◌, ℕ, ◌+◌, ◌-◌, ◌<◌, ◌≤◌, ◌⊎◌, inl, inr, suc, List, [], ◌∷◌, ◌++◌, length, get_or, set, refl, sym, ap, ◌∙◌, subst, arith, length-append}
use Rattle.std.proofs.lemmas.List.{get_or_push, get_or_append_left, get_or-set_other, get_or-set_same, length-set}
use Rattle.std.proofs.lemmas.Bool.{cases_lt}
use Rattle.line_rule.specs.declared.view.LineStage.TheVariants.{Idle}
use Rattle.line_rule.specs.Rule.{hold}
use Rattle.line_writers.specs.declared.writer.Writer.{Writer}
use Rattle.line_writers.specs.declared.room.Lists.{Lists}
use Rattle.line_writers.specs.declared.writer.Task.{Task}
use Rattle.line_writers.specs.declared.writer.Task.TheVariants.{Awaits, Leads as Leads_, Helps, Queues, Serves}
use Rattle.line_rule.specs.declared.view.Handling.{Handling}
use Rattle.line_rule.specs.declared.view.QueuedWriter.{QueuedWriter}
use Rattle.line_writers.specs.Roles.{IsNew, AreNew, IsLinked, HasReply, HasLeft}
use Rattle.line_writers.specs.Rooms.{AreReady, AllReady}
use Rattle.line_writers.specs.Seats.{table_of, clients_of, Belongs, IsIn, IsChosen, IsOut, AllOut, AllThere, answers_told, told_in_first}
use Rattle.tests_line.specs.declared.counter.CountRequest.{CountRequest}
use Rattle.tests_line.specs.declared.counter.CountReply.{CountReply}
use Rattle.tests_line.specs.declared.counter.CountLog.{CountLog}
use Rattle.tests_line.specs.declared.counter.Nothing.{Nothing}
use Rattle.tests_line.specs.declared.counter.Player.{Player}
use Rattle.tests_line.specs.Players.{Counted, law, IsAsking, Leads, IsSat, MayWrite, AllMayWrite, AreSat}

pub ready_last : {Q P : Type 0} (n : ℕ) (xs : List (Lists Q P)) (x : Lists Q P) → AllReady n (xs ++ x ∷ []) → AllReady n xs × AreReady n x
ready_last n [] x all = (tt, all.0)
ready_last n (y ∷ ys) x all = let t = ready_last n ys x all.1 in ((all.0, t.0), t.1)

pub below_or_at : (i n : ℕ) → i < n + 1 → (i < n) ⊎ (i ≡ n)
below_or_at i n h = elim (cases_lt i n) [ inl lt ↦ inl lt | inr ge ↦ inr (omega arith) ]

-- An item is set at place i. A property that holds below i, and of the new item at i, then holds below i + 1. One that
-- holds from i on then holds from i + 1 on.
pub set_below : {T : Type 0} (P : ℕ → T → Type 0) (xs : List T) (i : ℕ) (y : T) → ((j : ℕ) (d : T) → j < i → P j (get_or xs j d)) → P i y → i < length xs → (j : ℕ) (d : T) → j < i + 1 → P j (get_or (set xs i y) j d)
set_below P xs i y below at lt j d h = elim (below_or_at j i h) [
  | inl less ↦ (let ne : j ≢ i = omega arith in subst (P j) (sym (get_or-set_other xs i j y d ne)) (below j d less))
  | inr is ↦ subst (λ k. P k (get_or (set xs i y) k d)) (sym is) (subst (P i) (sym (get_or-set_same xs i y d lt)) at)
]

pub set_above : {T : Type 0} (P : ℕ → T → Type 0) (xs : List T) (i : ℕ) (y : T) → ((j : ℕ) (d : T) → i ≤ j → j < length xs → P j (get_or xs j d)) → (j : ℕ) (d : T) → i + 1 ≤ j → j < length (set xs i y) → P j (get_or (set xs i y) j d)
set_above P xs i y above j d le lt = let ne : j ≢ i = omega arith in subst (P j) (sym (get_or-set_other xs i j y d ne)) (above j d (omega arith) (subst (λ n. j < n) (length-set xs i y) lt))

-- what holds from place i on holds at i
pub at_first : {T : Type 0} (P : ℕ → T → Type 0) (xs : List T) (i : ℕ) → ((j : ℕ) (d : T) → i ≤ j → j < length xs → P j (get_or xs j d)) → i < length xs → (d : T) → P i (get_or xs i d)
at_first P xs i from lt d = from i d (omega arith) lt

pub below_end : (i n all end : ℕ) → i < n → n ≡ all → all ≤ end → i < end
below_end i n all end lt is le = omega arith

-- one more of n clients gets its seat: `made` have theirs, and `rest` don't yet
pub record IsNext (n made rest : ℕ) : Type 0 where
  pub number : n - rest ≡ made + 1
  pub left : rest + (made + 1) ≡ n
  pub positive : 0 < made + 1
  pub within : made + 1 ≤ n

pub is_next : (n made rest was : ℕ) → was + made ≡ n → rest + 1 ≡ was → IsNext n made rest
is_next n made rest was all one = record { number = omega arith; left = omega arith; positive = omega arith; within = omega arith }

-- one that is done is out of the list, whether its request was counted or has left the queue
module _ {Right : Type 0} (w : Writer CountRequest CountReply CountLog Right) where
  out : (mine : List (CountRequest × CountReply)) → w.seat.me.0 ≡ hold w.client Idle mine ∷ [] → w.seat.me.1 ≡ [] → IsOut w
  out mine at none = (at ∙ (λ i. hold w.client Idle (sym (ap told_in_first at) i) ∷ []), none)

  pub done : (kept : List (Handling CountRequest CountReply) → Type 0) (drops : CountRequest → CountReply → Type 0) (q : CountRequest) (mine : List (CountRequest × CountReply)) (p : CountReply) → HasReply kept w.client q mine p w.seat.me ⊎ HasLeft drops w.client q mine p w.seat.me → IsOut w
  done kept drops q mine p h = elim h [ inl counted ↦ out (mine ++ (q, p) ∷ []) counted.0 counted.1 | inr left ↦ out mine left.0 left.1 ]

module _ (list : Counted) where
  pub new_last : (m : ℕ) (ws : List (Writer CountRequest CountReply CountLog Nothing)) (w : Writer CountRequest CountReply CountLog Nothing) → AreNew (table_of list) m (ws ++ w ∷ []) → AreNew (table_of list) m ws × IsNew (table_of list) (m - length ws) w
  new_last m [] w new = (tt, subst (λ k. IsNew (table_of list) k w) (let h : m ≡ m - 0 = omega arith in h) new.0)
  new_last m (x ∷ xs) w new = let t = new_last (m - 1) xs w new.1 in ((new.0, t.0), subst (λ k. IsNew (table_of list) k w) (let h : m - 1 - length xs ≡ m - suc (length xs) = omega arith in h) t.1)

  pub new_is_out : (k : ℕ) (w : Writer CountRequest CountReply CountLog Nothing) → IsNew (table_of list) k w → IsOut w
  new_is_out k w new = let view = ap (λ m. m.0) new.3 in let mine : answers_told w ≡ [] = ap told_in_first view in (view ∙ (λ i. hold (sym new.0 i) Idle (sym mine i) ∷ []), ap (λ m. m.1) new.3)

  pub new_sat : (k : ℕ) (w : Writer CountRequest CountReply CountLog Nothing) → IsNew (table_of list) k w → 0 < k → k ≤ clients_of list → IsSat list k w
  new_sat k w new positive within = ((new.2, subst (λ c. 0 < c) (sym new.0) positive, subst (λ c. c ≤ clients_of list) (sym new.0) within), new_is_out k w new, new.0)

  -- a writer that was linked with what it was told is asking
  pub linked : (q : CountRequest) (mine : List (CountRequest × CountReply)) (w : Writer CountRequest CountReply CountLog Nothing) → IsIn (law list) q mine w → IsAsking list w
  linked q mine w is = (q, subst (λ answers_told. IsIn (law list) q answers_told w) (sym (known w.task is)) is)
    where
      known : (task : Task) → IsLinked (law list) w.client task q mine w.seat.me → answers_told w ≡ mine
      known Awaits l = ap told_in_first l.1
      known Leads_ l = ap told_in_first l.3
      known Helps l = ap told_in_first l.0
      known Queues l = absurd l
      known Serves l = absurd l

  -- a writer that was chosen leads
  pub leads : (own : QueuedWriter CountRequest) (seen : List (Handling CountRequest CountReply)) (mine : List (CountRequest × CountReply)) (w : Writer CountRequest CountReply CountLog Nothing) → Belongs list w → IsChosen own seen mine w → Leads list w
  leads own seen mine w ours is = (ours, (own, seen, subst (λ answers_told. IsChosen own seen answers_told w) (sym (ap told_in_first is.0)) is))

  -- one more client may write
  pub seat_more : (ps : List Player) (p : Player) → AllMayWrite list ps → MayWrite list (length ps + 1) p → AllMayWrite list (ps ++ p ∷ [])
  seat_more ps p all may =
      let more = length-append ps (p ∷ []) in
      record {
        each = λ i d h. elim (below_or_at i (length ps) (omega arith)) [
          | inl less ↦ subst (MayWrite list (i + 1)) (sym (get_or_append_left ps (p ∷ []) d i less)) (all.each i d less)
          | inr is ↦ subst (MayWrite list (i + 1)) (sym (get_or_push ps p d i (sym is))) (subst (λ k. MayWrite list (k + 1) p) (sym is) may)
        ];
      }

  -- all clients may write: so may all but the last, and so may the last
  pub seat_last : (ps : List Player) (p : Player) → AllMayWrite list (ps ++ p ∷ []) → AllMayWrite list ps × MayWrite list (length ps + 1) p
  seat_last ps p all =
      let more = length-append ps (p ∷ []) in (
        record { each = λ i d h. subst (MayWrite list (i + 1)) (get_or_append_left ps (p ∷ []) d i h) (all.each i d (omega arith)) },
        subst (MayWrite list (length ps + 1)) (get_or_push ps p p (length ps) refl) (all.each (length ps) p (omega arith)),
      )

  -- the writer of the client with the next lower number
  pub sat_snoc : (m : ℕ) (ws : List (Writer CountRequest CountReply CountLog Nothing)) (w : Writer CountRequest CountReply CountLog Nothing) → AreSat list m ws → IsSat list (m - length ws) w → AreSat list m (ws ++ w ∷ [])
  sat_snoc m [] w all sat = (subst (λ k. IsSat list k w) (let h : m - 0 ≡ m = omega arith in h) sat, tt)
  sat_snoc m (x ∷ xs) w all sat = (all.0, sat_snoc (m - 1) xs w all.1 (subst (λ k. IsSat list k w) (let h : m - suc (length xs) ≡ m - 1 - length xs = omega arith in h) sat))

  pub sat_out : (m : ℕ) (ws : List (Writer CountRequest CountReply CountLog Nothing)) → AreSat list m ws → AllOut (table_of list) ws
  sat_out m [] all = tt
  sat_out m (w ∷ ws) all = (all.0.0.0, all.0.1, sat_out (m - 1) ws all.1)

  pub sat_there : (n : ℕ) (ws : List (Writer CountRequest CountReply CountLog Nothing)) → AreSat list n ws → length ws ≡ n → AllThere n ws
  sat_there n [] all len i lo hi = absurd (omega arith)
  sat_there n (w ∷ ws) all len i lo hi = elim (cases_lt i n) [
    | inl lt ↦ inr (sat_there (n - 1) ws all.1 (omega arith) i lo (omega arith))
    | inr ge ↦ inl (all.0.2 ∙ (let h : n ≡ i = omega arith in h))
  ]
