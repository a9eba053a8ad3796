-- Clients are made from the writers of an opened list, and give the writers back.
use Rattle.std.proofs.Common.{◌≡◌, ℕ, ◌+◌, ◌-◌, ◌<◌, ◌≤◌, inl, inr, suc, List, [], ◌∷◌, ◌++◌, length, get_or, set, refl, sym, ap, ◌∙◌, subst, arith, length-append}
use Rattle.std.proofs.lemmas.List.{get_or_push, get_or_append_left, get_or-set_other, get_or-set_same, length-set}
use Rattle.std.proofs.lemmas.Bool.{cases_lt, cases_eq}
use Rattle.line_rule.specs.declared.view.LineStage.TheVariants.{Idle}
use Rattle.line_rule.specs.Rule.{hold}
use Rattle.line_writers.specs.declared.writer.Writer.{Writer}
use Rattle.line_writers.specs.declared.writer.Task.{Task}
use Rattle.line_writers.specs.declared.writer.Task.TheVariants.{Awaits, Leads, Helps, Queues, Serves}
use Rattle.line_rule.specs.declared.view.Handling.{Handling}
use Rattle.line_rule.specs.declared.view.QueuedWriter.{QueuedWriter}
use Rattle.line_writers.specs.Roles.{IsNew, AreNew, IsLinked, Chosen}
use Rattle.line_writers.specs.Seats.{table_of, clients_of, Belongs, IsIn, IsChosen, IsOut, AllOut, AllThere, IsUnchanged, answers_told, told_in_first}
use Rattle.tests_line.proofs.Seating.{below_or_at}
use Rattle.tests_line.specs.declared.counter.CountRequest.{CountRequest}
use Rattle.tests_line.specs.declared.counter.CountReply.{CountReply}
use Rattle.tests_line.specs.declared.counter.CountLog.{CountLog}
use Rattle.tests_line_stages.specs.declared.counter.CountingRight.{CountingRight}
use Rattle.tests_line_stages.specs.declared.client.StagePlayer.{StagePlayer}
use Rattle.tests_line_stages.specs.Clients.{Counted, law, IsAsking, IsLeader, IsIdle, MayWrite, AllMayWrite, AreIdle, Stands, AllStand}

-- What holds of each client and its number still holds of all, after one client more is added that has it, and after
-- one is replaced by another that has it.
each_more : (P : ℕ → StagePlayer → Type 0) (ps : List StagePlayer) (p : StagePlayer) → ((i : ℕ) (d : StagePlayer) → i < length ps → P (i + 1) (get_or ps i d)) → P (length ps + 1) p → (i : ℕ) (d : StagePlayer) → i < length (ps ++ p ∷ []) → P (i + 1) (get_or (ps ++ p ∷ []) i d)
each_more P ps p each one i d h =
    let more = length-append ps (p ∷ []) in
    elim (below_or_at i (length ps) (omega arith)) [
      | inl less ↦ subst (P (i + 1)) (sym (get_or_append_left ps (p ∷ []) d i less)) (each i d less)
      | inr is ↦ subst (P (i + 1)) (sym (get_or_push ps p d i (sym is))) (subst (λ k. P (k + 1) p) (sym is) one)
    ]

each_set : (P : ℕ → StagePlayer → Type 0) (ps : List StagePlayer) (i : ℕ) (p : StagePlayer) → ((j : ℕ) (d : StagePlayer) → j < length ps → P (j + 1) (get_or ps j d)) → P (i + 1) p → (j : ℕ) (d : StagePlayer) → j < length (set ps i p) → P (j + 1) (get_or (set ps i p) j d)
each_set P ps i p each one j d h =
    let lt : j < length ps = subst (λ n. j < n) (length-set ps i p) h in
    elim (cases_eq j i) [
      | inl is ↦ subst (λ k. P (k + 1) (get_or (set ps i p) k d)) (sym is) (subst (P (i + 1)) (sym (get_or-set_same ps i p d (subst (λ k. k < length ps) is lt))) one)
      | inr ne ↦ subst (P (j + 1)) (sym (get_or-set_other ps i j p d ne)) (each j d lt)
    ]

module _ (list : Counted) where
  pub new_last : (m : ℕ) (ws : List (Writer CountRequest CountReply CountLog CountingRight)) (w : Writer CountRequest CountReply CountLog CountingRight) → AreNew (table_of list) m (ws ++ w ∷ []) → AreNew (table_of list) m ws × IsNew (table_of list) (m - length ws) w
  new_last m [] w new = (tt, subst (λ k. IsNew (table_of list) k w) (let h : m ≡ m - 0 = omega arith in h) new.0)
  new_last m (x ∷ xs) w new = let t = new_last (m - 1) xs w new.1 in ((new.0, t.0), subst (λ k. IsNew (table_of list) k w) (let h : m - 1 - length xs ≡ m - suc (length xs) = omega arith in h) t.1)

  pub new_is_out : (k : ℕ) (w : Writer CountRequest CountReply CountLog CountingRight) → IsNew (table_of list) k w → IsOut w
  new_is_out k w new = let view = ap (λ m. m.0) new.3 in let mine : answers_told w ≡ [] = ap told_in_first view in (view ∙ (λ i. hold (sym new.0 i) Idle (sym mine i) ∷ []), ap (λ m. m.1) new.3)

  pub new_idle : (k : ℕ) (w : Writer CountRequest CountReply CountLog CountingRight) → IsNew (table_of list) k w → 0 < k → k ≤ clients_of list → IsIdle list k w
  new_idle k w new positive within = ((new.2, subst (λ c. 0 < c) (sym new.0) positive, subst (λ c. c ≤ clients_of list) (sym new.0) within), new_is_out k w new, new.0)

  -- a writer that was linked with what it was told is asking
  pub linked : (q : CountRequest) (mine : List (CountRequest × CountReply)) (w : Writer CountRequest CountReply CountLog CountingRight) → IsIn (law list) q mine w → IsAsking list w
  linked q mine w is = (q, subst (λ answers_told. IsIn (law list) q answers_told w) (sym (known w.task is)) is)
    where
      known : (task : Task) → IsLinked (law list) w.client task q mine w.seat.me → answers_told w ≡ mine
      known Awaits l = ap told_in_first l.1
      known Leads l = ap told_in_first l.3
      known Helps l = ap told_in_first l.0
      known Queues l = absurd l
      known Serves l = absurd l

  -- a writer that was chosen leads
  pub leads : (own : QueuedWriter CountRequest) (seen : List (Handling CountRequest CountReply)) (mine : List (CountRequest × CountReply)) (w : Writer CountRequest CountReply CountLog CountingRight) → Belongs list w → IsChosen own seen mine w → IsLeader list w
  leads own seen mine w ours is = (ours, (own, seen, subst (λ answers_told. IsChosen own seen answers_told w) (sym (ap told_in_first is.0)) is))

  -- a leader whose state is unchanged still leads
  pub leads_still : (new old : Writer CountRequest CountReply CountLog CountingRight) → IsUnchanged new old → IsLeader list old → IsLeader list new
  leads_still new old still is =
      let own : QueuedWriter CountRequest = is.1.0 in let seen : List (Handling CountRequest CountReply) = is.1.1 in
      let chosen = subst (λ m. Chosen old.client own seen (told_in_first m.0) m) (sym still.2) is.1.2 in (
        (still.0.0 ∙ is.0.0, subst (λ k. 0 < k) (sym still.0.1) is.0.1, subst (λ k. k ≤ clients_of list) (sym still.0.1) is.0.2),
        (own, seen, subst (λ k. Chosen k own seen (told_in_first new.seat.me.0) new.seat.me) (sym still.0.1) chosen),
      )

  -- one more client may write (`seat_more`), or is in the list where its stage says (`stand_more`)
  pub seat_more : (ps : List StagePlayer) (p : StagePlayer) → AllMayWrite list ps → MayWrite list (length ps + 1) p → AllMayWrite list (ps ++ p ∷ [])
  seat_more ps p all may = record { each = each_more (MayWrite list) ps p all.each may }

  pub stand_more : (ps : List StagePlayer) (p : StagePlayer) → AllStand list ps → Stands list (length ps + 1) p → AllStand list (ps ++ p ∷ [])
  stand_more ps p all stands = record { each = each_more (Stands list) ps p all.each stands }

  -- one of the clients is now elsewhere
  pub stand_elsewhere : (ps : List StagePlayer) (i : ℕ) (p : StagePlayer) → AllStand list ps → Stands list (i + 1) p → AllStand list (set ps i p)
  stand_elsewhere ps i p all stands = record { each = each_set (Stands list) ps i p all.each stands }

  -- all clients may write: so may all but the last, and so may the last
  pub seat_last : (ps : List StagePlayer) (p : StagePlayer) → AllMayWrite list (ps ++ p ∷ []) → AllMayWrite list ps × MayWrite list (length ps + 1) p
  seat_last ps p all =
      let more = length-append ps (p ∷ []) in (
        record { each = λ i d h. subst (MayWrite list (i + 1)) (get_or_append_left ps (p ∷ []) d i h) (all.each i d (omega arith)) },
        subst (MayWrite list (length ps + 1)) (get_or_push ps p p (length ps) refl) (all.each (length ps) p (omega arith)),
      )

  -- the writer of the client with the next lower number
  pub idle_snoc : (m : ℕ) (ws : List (Writer CountRequest CountReply CountLog CountingRight)) (w : Writer CountRequest CountReply CountLog CountingRight) → AreIdle list m ws → IsIdle list (m - length ws) w → AreIdle list m (ws ++ w ∷ [])
  idle_snoc m [] w all sat = (subst (λ k. IsIdle list k w) (let h : m - 0 ≡ m = omega arith in h) sat, tt)
  idle_snoc m (x ∷ xs) w all sat = (all.0, idle_snoc (m - 1) xs w all.1 (subst (λ k. IsIdle list k w) (let h : m - suc (length xs) ≡ m - 1 - length xs = omega arith in h) sat))

  pub idle_out : (m : ℕ) (ws : List (Writer CountRequest CountReply CountLog CountingRight)) → AreIdle list m ws → AllOut (table_of list) ws
  idle_out m [] all = tt
  idle_out m (w ∷ ws) all = (all.0.0.0, all.0.1, idle_out (m - 1) ws all.1)

  pub idle_there : (n : ℕ) (ws : List (Writer CountRequest CountReply CountLog CountingRight)) → AreIdle list n ws → length ws ≡ n → AllThere n ws
  idle_there n [] all len i lo hi = absurd (omega arith)
  idle_there n (w ∷ ws) all len i lo hi = elim (cases_lt i n) [
    | inl lt ↦ inr (idle_there (n - 1) ws all.1 (omega arith) i lo (omega arith))
    | inr ge ↦ inl (all.0.2 ∙ (let h : n ≡ i = omega arith in h))
  ]
