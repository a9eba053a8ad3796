-- A leader that stalls writes, and what it lets go.
use Rattle.std.proofs.Common.{◌≡◌, inl, inr, ⊎_elim, ℕ, Bool, true, false, List, [], ◌∷◌, ◌++◌, length, Some, slice_get, refl, ap, sym, ◌∙◌, subst, arith, length-append}
use mathlib.Core.List.{IsPrefix}
use Rattle.model_base.specs.Controller.{ControllerCall, Look, HoldUp, delay}
use Rattle.model_base.specs.Replies.{IsLater, WasHeldUp}
use Rattle.model_base.specs.declared.group.Item.{Item}
use Rattle.model_base.proofs.Prefixes.{prefix_at, prefix_length, prefix_trans}
use Rattle.line_rule.specs.declared.view.QueuedWriter.{QueuedWriter}
use Rattle.line_rule.specs.declared.view.Handling.{Handling}
use Rattle.line_rule.specs.Events.{is_hasty}
use Rattle.line_rule.specs.Chain.{AllCoded}
use Rattle.line_rule.specs.Grouping.{code_of, code_by, item_of, IsWhole}
use Rattle.line_rule.specs.Members.{asks}
use Rattle.line_writers.specs.declared.writer.Writer.{Writer}
use Rattle.line_writers.specs.declared.room.Room.{Room}
use Rattle.line_writers.specs.Seats.{answers_told, told_in_first, HasGroup}
use Rattle.line_writers.specs.Stalled.{NoneHasty, HasStalled, HoldsOne}
use Rattle.engine_controller.specs.declared.controller.Controller.{Controller}
use Rattle.engine_rule.specs.Plans.{LetsProceed, HasLooked}
use Rattle.engine_parts.specs.declared.requests.Request.{Request}
use Rattle.engine_parts.specs.declared.requests.Answer.{Answer}
use Rattle.engine_parts.specs.Asking.{OnlyLooks}
use Rattle.engine_parts.specs.Handled.{EndsInDelay, IsDropped, SawNoTokens}
use Rattle.engine_parts.proofs.Whole.{item_in}
use Rattle.engine_groups.specs.Stalling.{AreLetGo}

-- The answers that the writer has, and its state with them

module _ {Q P L M : Type 0} (law : Q → ℕ → Type 0) (n max : ℕ) (own : QueuedWriter Q) (group left : List (QueuedWriter Q)) (seen : List (Handling Q P)) (mine : List (Q × P)) where
  pub group_told : (w : Writer Q P L M) → HasGroup law n max own group left seen mine w → answers_told w ≡ mine
  group_told w h = ap told_in_first h.0.1

  pub leads_again : (w : Writer Q P L M) → HasGroup law n max own group left seen mine w → HasGroup law n max own group left seen (answers_told w) w
  leads_again w h = subst (λ (m : List (Q × P)). HasGroup law n max own group left seen m w) (sym (group_told w h)) h

  pub stalled_told : (rest : List (QueuedWriter Q)) (room : Room) (w : Writer Q P L M) → HasStalled law n max own group left seen mine rest room w → answers_told w ≡ mine
  stalled_told rest room w h = ap told_in_first h.2.at

  pub stalled_again : (rest : List (QueuedWriter Q)) (room : Room) (w : Writer Q P L M) → HasStalled law n max own group left seen mine rest room w → HasStalled law n max own group left seen (answers_told w) rest room w
  stalled_again rest room w h = subst (λ (m : List (Q × P)). HasStalled law n max own group left seen m rest room w) (sym (stalled_told rest room w h)) h

  pub holds_told : (x : QueuedWriter Q) (rest : List (QueuedWriter Q)) (room : Room) (w : Writer Q P L M) → HoldsOne law n max own group left seen mine x rest room w → answers_told w ≡ mine
  holds_told x rest room w h = ap told_in_first h.2.at

  pub holds_again : (x : QueuedWriter Q) (rest : List (QueuedWriter Q)) (room : Room) (w : Writer Q P L M) → HoldsOne law n max own group left seen mine x rest room w → HoldsOne law n max own group left seen (answers_told w) x rest room w
  holds_again x rest room w h = subst (λ (m : List (Q × P)). HoldsOne law n max own group left seen m x rest room w) (sym (holds_told x rest room w h)) h

-- A code says whether its request may wait.
pub hasty_of : ((item : Item) → item_of (code_of item) ≡ item) → {Q : Type 0} (item : Q → Item) (q : Q) (code : ℕ) → code ≡ code_by item q → is_hasty code ≡ (item q).options.no_slowdown
hasty_of law item q code is = ap (λ (k : ℕ). (item_of k).options.no_slowdown) is ∙ ap (λ (i : Item). i.options.no_slowdown) (law (item q))

-- The leader's own request is the first of its group's.

asks_first : (own : QueuedWriter Request) (group : List (QueuedWriter Request)) → (rest : List (ℕ × Request)) × (asks own group ≡ (own.by, own.asked) ∷ rest)
asks_first own [] = ([], refl)
asks_first own (e ∷ es) = let r = asks_first own es in (r.0 ++ (e.by, e.asked) ∷ [], ap (λ l. l ++ (e.by, e.asked) ∷ []) r.1)

own_coded : (wanted : Request → ℕ → Type 0) (own : QueuedWriter Request) (group : List (QueuedWriter Request)) → AllCoded wanted (group ++ own ∷ []) → wanted own.asked own.code
own_coded wanted own [] h = h.0
own_coded wanted own (e ∷ es) h = own_coded wanted own es h.1

same_first : {A : Type 0} (x y : A) (xs ys : List A) → x ∷ xs ≡ y ∷ ys → x ≡ y
same_first x y xs ys e = cc

-- so its code says whether the group may wait
pub group_alike : ((item : Item) → item_of (code_of item) ≡ item) → {wanted : Request → ℕ → Type 0} → ((q : Request) (code : ℕ) → wanted q code → code ≡ code_by item_in q) → (max : ℕ) (own : QueuedWriter Request) (group left : List (QueuedWriter Request)) → IsWhole wanted max own group left
    → (xs rest : List (ℕ × Request)) (first : ℕ × Request) → xs ≡ asks own group → xs ≡ first ∷ rest → is_hasty own.code ≡ first.1.options.no_slowdown
group_alike law {wanted} coded max own group left whole xs rest first are leads =
    let a = asks_first own group in
    let is : (own.by, own.asked) ≡ first = same_first (own.by, own.asked) first a.0 rest (sym a.1 ∙ (sym are ∙ leads)) in
    hasty_of law item_in own.asked own.code (coded own.asked own.code (own_coded wanted own group whole.2)) ∙ ap (λ (x : ℕ × Request). x.1.options.no_slowdown) is

-- Who is let go

module _ {Time : Type 0} (controller : Controller Time) where
  pub none_to_go : (rest : List (QueuedWriter Request)) → NoneHasty rest → AreLetGo controller rest
  none_to_go [] h = tt
  none_to_go (x ∷ rest) h = ((λ hasty. absurd (let e : true ≡ false = sym hasty ∙ h.0 in cc)), none_to_go rest h.1)

  go_behind : (slow tail : List (QueuedWriter Request)) → NoneHasty slow → AreLetGo controller tail → AreLetGo controller (slow ++ tail)
  go_behind [] tail h t = t
  go_behind (x ∷ slow) tail h t = ((λ hasty. absurd (let e : true ≡ false = sym hasty ∙ h.0 in cc)), go_behind slow tail h.1 t)

  pub one_let_go : (rest slow older : List (QueuedWriter Request)) (x : QueuedWriter Request) (p : Answer) → rest ≡ slow ++ x ∷ older → NoneHasty slow → IsDropped controller x.asked p → AreLetGo controller older → AreLetGo controller rest
  one_let_go rest slow older x p is none dropped more = subst (AreLetGo controller) (sym is) (go_behind slow (x ∷ older) none ((λ hasty. (p, dropped)), more))

-- What the leader has seen

pub looks_on : (client : ℕ) (seen middle after : List ControllerCall) → OnlyLooks client seen middle → OnlyLooks client middle after → OnlyLooks client seen after
looks_on client seen middle after a b = record { begins = prefix_trans seen middle after a.begins b.begins; tokens = b.tokens ∙ a.tokens; delays = b.delays ∙ a.delays }

last_there : {A : Type 0} (xs : List A) (x : A) → slice_get (xs ++ x ∷ []) (length xs) ≡ Some x
last_there [] x = refl
last_there (y ∷ xs) x = last_there xs x

-- a leader whose delay was told that writes are held up
pub held_by_delay : (client : ℕ) (numbers : Look) (seen : List ControllerCall) → EndsInDelay client numbers seen → HoldUp numbers → WasHeldUp seen client (length seen)
held_by_delay client numbers seen e held =
    let t : ControllerCall = record { client = client; action = delay e.1 e.2; told = Some numbers } in
    record {
      at = length e.0;
      now = e.1;
      bytes = e.2;
      told = numbers;
      there = subst (λ (l : List ControllerCall). slice_get l (length e.0) ≡ Some t) (sym e.3) (last_there e.0 t);
      before = (let l = ap length e.3 in let n = length-append e.0 (t ∷ []) in omega (arith, l, n));
      holds_up = held;
    }

-- it is still so once it has seen more
pub held_longer : (client : ℕ) (known now : List ControllerCall) → IsPrefix known now → WasHeldUp known client (length known) → WasHeldUp now client (length now)
held_longer client known now p w = record {
  at = w.at;
  now = w.now;
  bytes = w.bytes;
  told = w.told;
  there = prefix_at known now p w.at _ w.there;
  before = (let b = w.before in let l = prefix_length known now p in omega (arith, b, l));
  holds_up = w.holds_up;
}

later_than : (known middle after : List ControllerCall) (place : ℕ) (t : ControllerCall) → IsPrefix known middle → IsLater after (length middle) place t → IsLater after (length known) place t
later_than known middle after place t p l = record { later = (let a = prefix_length known middle p in let b = l.later in omega (arith, a, b)); there = l.there }

pub saw_none_since : (client : ℕ) (known middle after : List ControllerCall) → IsPrefix known middle → SawNoTokens client middle after → SawNoTokens client known after
saw_none_since client known middle after p s = record { place = s.place; numbers = s.numbers; is_later = later_than known middle after s.place _ p s.is_later; none = s.none }

-- a look that lets a group go on comes after all that was seen earlier
pub proceeds_since : (client : ℕ) (numbers : Look) (known middle went : List ControllerCall) (no_slowdown : Bool) → IsPrefix known middle → LetsProceed client numbers middle went no_slowdown → LetsProceed client numbers known went no_slowdown
proceeds_since client numbers known middle went true p h = h
proceeds_since client numbers known middle went false p h = ⊎_elim (λ free. inl free)
    (λ (l : HasLooked client middle went). inr record { place = l.place; numbers = l.numbers; is_later = later_than known middle went l.place _ p l.is_later; free = l.free }) h
