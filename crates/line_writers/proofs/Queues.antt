-- Where a leader that stalls writes stands in the queue.
use Rattle.std.proofs.Common.{◌≡◌, ℕ, ◌<◌, ◌≤◌, true, List, [], ◌∷◌, ◌++◌, sym, ap, ◌∙◌, subst, arith, append_assoc, append-nil}
use Rattle.line_rule.specs.declared.view.QueuedWriter.{QueuedWriter}
use Rattle.line_rule.specs.declared.view.Handling.{Handling}
use Rattle.line_rule.specs.declared.view.Stall.{Stall}
use Rattle.line_rule.specs.declared.view.Stall.TheVariants.{Stopped}
use Rattle.line_rule.specs.declared.view.LineStage.TheVariants.{Stalling}
use Rattle.line_rule.specs.declared.content.LineSlot.TheVariants.{Empty}
use Rattle.line_rule.specs.Before.{Carried}
use Rattle.line_rule.specs.Chain.{newest, Within}
use Rattle.line_rule.specs.Events.{is_hasty}
use Rattle.line_rule.specs.Plays.{At, blanks}
use Rattle.line_rule.proofs.Onward.{within_back}
use Rattle.line_rule.proofs.Squads.{within_append}
use Rattle.line_writers.specs.declared.writer.Writer.{Writer}
use Rattle.line_writers.specs.declared.room.Room.{Room}
use Rattle.line_writers.specs.Roles.{bys, lead_with_group}
use Rattle.line_writers.specs.Stalled.{NoneHasty, ListsRest, EndsWith, IsStalling, HasStalled}

module _ {Request : Type 0} where
  -- a client's number fits into a byte
  pub small_newest : (n : ℕ) (es : List (QueuedWriter Request)) → n < 254 → Within n es → newest es < 256
  small_newest n [] few ok = omega arith
  small_newest n (e ∷ es) few ok = let a = ok.1 in omega arith

module _ {Request Reply Log Right : Type 0} (law : Request → ℕ → Type 0) (n max : ℕ) (own : QueuedWriter Request) (group left : List (QueuedWriter Request)) (seen : List (Handling Request Reply)) (mine : List (Request × Reply)) where
  -- the leader has gone on, to this point of the stall, and has these slots before those of its group
  pub goes_on_to : (stall stall' : Stall Request Reply) (queue queue' : List (QueuedWriter Request)) (more more' : Carried Request Reply Log Right) (w w' : Writer Request Reply Log Right) (s : IsStalling law n max own group left seen mine stall queue more w) → w'.client ≡ w.client
      → At w.client (Stalling (lead_with_group own seen s.past queue' group) stall') mine w'.seat.me → w'.seat.me.1 ≡ more' ++ blanks (bys group) ((w.client, Empty) ∷ (0, Empty) ∷ []) → Within n queue' → IsStalling law n max own group left seen mine stall' queue' more' w'
  goes_on_to stall stall' queue queue' more more' w w' s same at slots queued = record {
    past = s.past;
    at = subst (λ (j : ℕ). At j (Stalling (lead_with_group own seen s.past queue' group) stall') mine w'.seat.me) (sym same) at;
    own_by = s.own_by ∙ sym same;
    is_client = subst (λ (j : ℕ). 0 < j) (sym same) s.is_client;
    members = s.members;
    whole = s.whole;
    slots = slots ∙ (λ i. more' ++ blanks (bys group) ((sym same i, Empty) ∷ (0, Empty) ∷ []));
    built = s.built;
    queued = queued;
  }

  pub within_all : (stall : Stall Request Reply) (queue : List (QueuedWriter Request)) (more : Carried Request Reply Log Right) (w : Writer Request Reply Log Right) → IsStalling law n max own group left seen mine stall queue more w → w.client ≤ n → (rest : List (QueuedWriter Request)) → Within n rest → Within n (rest ++ (group ++ own ∷ []))
  within_all stall queue more w s hi rest ok =
      let by = s.own_by in let lo = s.is_client in within_append n rest (group ++ own ∷ []) ok (within_append n group (own ∷ []) s.members (omega arith, omega arith, tt))

  -- the next writer that may not be slowed down is x
  pub record AtNext (rest : List (QueuedWriter Request)) (room room' : Room) (w : Writer Request Reply Log Right) (k : ℕ) : Type 0 where
    pub newer : List (QueuedWriter Request)
    pub slow : List (QueuedWriter Request)
    pub x : QueuedWriter Request
    pub older : List (QueuedWriter Request)
    pub rest_is : rest ≡ slow ++ x ∷ older
    pub none_hasty : NoneHasty slow
    pub hasty : is_hasty x.code ≡ true
    pub by : x.by ≡ k
    pub lists : ListsRest n older room'
    pub ends : EndsWith newer room'.stall.passed
    pub newest_is : room.stall.newest ≡ newest ((newer ++ x ∷ older) ++ (group ++ own ∷ []))
    pub s : IsStalling law n max own group left seen mine (Stopped room.stall.newest) (newer ++ x ∷ older) [] w
    pub walk_is : (newer ++ x ∷ older) ++ (group ++ own ∷ []) ≡ newer ++ x ∷ (older ++ (group ++ own ∷ []))
    pub small : newest (older ++ (group ++ own ∷ [])) < 256
    pub range : (0 < x.by) × (x.by ≤ n)

  pub at_next : (rest : List (QueuedWriter Request)) (room room' : Room) (w : Writer Request Reply Log Right) (k : ℕ) → n < 254 → w.client ≤ n → (v : HasStalled law n max own group left seen mine rest room w)
      → (slow : List (QueuedWriter Request)) × (x : QueuedWriter Request) × (older : List (QueuedWriter Request)) × (rest ≡ slow ++ x ∷ older) × NoneHasty slow × (is_hasty x.code ≡ true) × (x.by ≡ k) × ListsRest n older room' × EndsWith (v.0 ++ slow) room'.stall.passed
      → AtNext rest room room' w k
  at_next rest room room' w k few hi v f =
      let queue : v.0 ++ rest ≡ (v.0 ++ f.0) ++ f.1 ∷ f.2 = ap (λ z. v.0 ++ z) f.3 ∙ sym (append_assoc v.0 f.0 (f.1 ∷ f.2)) in
      let s = subst (λ z. IsStalling law n max own group left seen mine (Stopped room.stall.newest) z [] w) queue v.2 in
      let older_in : Within n (f.1 ∷ f.2) = within_back n (v.0 ++ f.0) (f.1 ∷ f.2) s.queued in record {
        newer = v.0 ++ f.0;
        slow = f.0;
        x = f.1;
        older = f.2;
        rest_is = f.3;
        none_hasty = f.4;
        hasty = f.5;
        by = f.6;
        lists = f.7;
        ends = f.8;
        newest_is = v.1.2 ∙ ap (λ z. newest (z ++ (group ++ own ∷ []))) queue;
        s = s;
        walk_is = append_assoc (v.0 ++ f.0) (f.1 ∷ f.2) (group ++ own ∷ []);
        small = small_newest n (f.2 ++ (group ++ own ∷ [])) few (within_all (Stopped room.stall.newest) ((v.0 ++ f.0) ++ f.1 ∷ f.2) [] w s hi f.2 older_in.2);
        range = (older_in.0, older_in.1);
      }

  -- nobody is left at whom the leader looks
  pub looks_at_none : (queue : List (QueuedWriter Request)) (room : Room) (w : Writer Request Reply Log Right) → ListsRest {Request = Request} n [] room → room.stall.newest ≡ newest (queue ++ (group ++ own ∷ [])) → IsStalling law n max own group left seen mine (Stopped room.stall.newest) queue [] w → HasStalled law n max own group left seen mine [] room w
  looks_at_none queue room w lists is s =
      let all : queue ≡ queue ++ [] = sym (append-nil queue) in
      (queue, (lists, tt, is ∙ ap (λ z. newest (z ++ (group ++ own ∷ []))) all), subst (λ z. IsStalling law n max own group left seen mine (Stopped room.stall.newest) z [] w) all s)
