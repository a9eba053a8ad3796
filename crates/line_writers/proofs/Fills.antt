-- How a leader puts the replies into the slots.
use Rattle.std.proofs.Common.{◌≡◌, ℕ, List, [], ◌∷◌, ◌++◌, reverse, refl, sym, ap, ◌∙◌, append_assoc, append-nil}
use Rattle.std.proofs.lemmas.List.{reverse-append}
use Rattle.line_rule.specs.declared.view.QueuedWriter.{QueuedWriter}
use Rattle.line_rule.specs.declared.content.LineSlot.{LineSlot}
use Rattle.line_rule.specs.declared.content.LineSlot.TheVariants.{Empty, Told}
use Rattle.line_rule.specs.declared.view.Handling.{Handling}
use Rattle.line_rule.specs.Chain.{heads, handling, all_answers}
use Rattle.line_rule.specs.Plays.{blanks, slots_of}
use Rattle.line_rule.specs.Members.{pays}
use Rattle.line_writers.specs.Roles.{bys, firsts, fills}

module _ {Reply : Type 0} where
  pub firsts-append : (a b : List (ℕ × Reply)) → firsts (a ++ b) ≡ firsts a ++ firsts b
  firsts-append [] b = refl
  firsts-append (r ∷ rs) b = ap (λ l. r.0 ∷ l) (firsts-append rs b)

module _ {Request Reply : Type 0} where
  -- the replies to a group, newest first
  pub newest_first : QueuedWriter Request → Reply → List (QueuedWriter Request × Reply) → List (ℕ × Reply)
  newest_first own p [] = (own.by, p) ∷ []
  newest_first own p (g ∷ gs) = (g.0.by, g.1) ∷ newest_first own p gs

  pub pays_back : (own : QueuedWriter Request) (p : Reply) (gs : List (QueuedWriter Request × Reply)) → reverse (pays own p gs) ≡ newest_first own p gs
  unfolding newest_first
  pays_back own p [] = refl
  pays_back own p (g ∷ gs) = reverse-append (pays own p gs) ((g.0.by, g.1) ∷ []) ∙ ap (λ l. (g.0.by, g.1) ∷ l) (pays_back own p gs)

  pub members_of : (own : QueuedWriter Request) (p : Reply) (gs : List (QueuedWriter Request × Reply)) → firsts (newest_first own p gs) ≡ bys (heads gs ++ own ∷ [])
  unfolding newest_first
  members_of own p [] = refl
  members_of own p (g ∷ gs) = ap (λ l. g.0.by ∷ l) (members_of own p gs)

  -- what these replies make of a group: its handlings; replies and writers are given newest first
  abbrev pub handled_by : List (QueuedWriter Request) → QueuedWriter Request → List (ℕ × Reply) → List (Handling Request Reply)
  handled_by es own [] = []
  handled_by [] own (r ∷ rs) = handling own r.1 ∷ []
  handled_by (e ∷ es) own (r ∷ rs) = handled_by es own rs ++ handling e r.1 ∷ []

  pub handled_newest : (own : QueuedWriter Request) (p : Reply) (gs : List (QueuedWriter Request × Reply)) → handled_by (heads gs) own (newest_first own p gs) ≡ all_answers own p gs
  unfolding newest_first
  handled_newest own p [] = refl
  handled_newest own p (g ∷ gs) = ap (λ l. l ++ handling g.0 g.1 ∷ []) (handled_newest own p gs)

module _ {Request Reply Log Right : Type 0} where
  pub fills-append : (a b : List (ℕ × Reply)) → fills {Request = Request} {Reply = Reply} {Log = Log} {Right = Right} (a ++ b) ≡ fills a ++ fills b
  fills-append [] b = refl
  fills-append (r ∷ rs) b = ap (λ l. (r.0, Told r.1) ∷ l) (fills-append rs b)

  pub blanks-append : (ks : List ℕ) (t u : List (ℕ × LineSlot Request Reply Log Right)) → blanks ks t ++ u ≡ blanks ks (t ++ u)
  blanks-append [] t u = refl
  blanks-append (k ∷ ks) t u = ap (λ z. (k, Empty) ∷ z) (blanks-append ks t u)

  -- the replies that are in their slots (done), and those that are left
  pub record Filled (all left : List (ℕ × Reply)) (members : List ℕ) (slots : List (ℕ × LineSlot Request Reply Log Right)) : Type 0 where
    pub done : List (ℕ × Reply)
    pub parts : reverse all ≡ done ++ reverse left
    pub members_are : members ≡ firsts done
    pub holds : slots ≡ blanks (firsts (reverse left)) ((0, Empty) ∷ fills done)

  pub fills_first : (all : List (ℕ × Reply)) (members : List ℕ) (slots : List (ℕ × LineSlot Request Reply Log Right)) → members ≡ [] → slots ≡ blanks (firsts (reverse all)) ((0, Empty) ∷ []) → Filled all all members slots
  fills_first all members slots none is = record { done = []; parts = refl; members_are = none; holds = is }

  module _ (all left : List (ℕ × Reply)) (members : List ℕ) (slots : List (ℕ × LineSlot Request Reply Log Right)) (v : Filled all left members slots) where
    pub fills_last : left ≡ [] → (slots ≡ (0, Empty) ∷ fills (reverse all)) × (members ≡ firsts (reverse all))
    fills_last none =
        let whole : reverse all ≡ v.done = v.parts ∙ (ap (λ l. v.done ++ reverse l) none ∙ append-nil v.done) in
        (v.holds ∙ (λ i. blanks (firsts (reverse (none i))) ((0, Empty) ∷ fills (sym whole i))), v.members_are ∙ ap firsts (sym whole))

    module _ (more : List (ℕ × Reply)) (k : ℕ) (p : Reply) (popped : left ≡ more ++ (k, p) ∷ []) where
      turned_left : reverse left ≡ (k, p) ∷ reverse more
      turned_left = ap reverse popped ∙ reverse-append more ((k, p) ∷ [])

      pub on_top : slots ≡ (k, Empty) ∷ blanks (firsts (reverse more)) ((0, Empty) ∷ fills v.done)
      on_top = v.holds ∙ ap (λ l. blanks (firsts l) ((0, Empty) ∷ fills v.done)) turned_left

      pub fills_more : (slots' : List (ℕ × LineSlot Request Reply Log Right)) → slots' ≡ blanks (firsts (reverse more)) ((0, Empty) ∷ fills v.done) ++ (k, Told p) ∷ [] → Filled all more (members ++ k ∷ []) slots'
      fills_more slots' is = record {
        done = v.done ++ (k, p) ∷ [];
        parts = v.parts ∙ (ap (λ l. v.done ++ l) turned_left ∙ sym (append_assoc v.done ((k, p) ∷ []) (reverse more)));
        members_are = ap (λ l. l ++ k ∷ []) v.members_are ∙ sym (firsts-append v.done ((k, p) ∷ []));
        holds = is ∙ (blanks-append (firsts (reverse more)) ((0, Empty) ∷ fills v.done) ((k, Told p) ∷ []) ∙ ap (λ l. blanks (firsts (reverse more)) ((0, Empty) ∷ l)) (sym (fills-append v.done ((k, p) ∷ []))));
      }

  pub blanks_of : (own : QueuedWriter Request) (p : Reply) (gs : List (QueuedWriter Request × Reply)) (t : List (ℕ × LineSlot Request Reply Log Right)) → blanks (firsts (newest_first own p gs)) t ≡ blanks (bys (heads gs)) ((own.by, Empty) ∷ t)
  unfolding newest_first
  blanks_of own p [] t = refl
  blanks_of own p (g ∷ gs) t = ap (λ l. (g.0.by, Empty) ∷ l) (blanks_of own p gs t)

  pub fills_of : (own : QueuedWriter Request) (p : Reply) (gs : List (QueuedWriter Request × Reply)) → fills {Request = Request} {Reply = Reply} {Log = Log} {Right = Right} (newest_first own p gs) ≡ slots_of gs ((own.by, Told p) ∷ [])
  unfolding newest_first
  fills_of own p [] = refl
  fills_of own p (g ∷ gs) = ap (λ l. (g.0.by, Told g.1) ∷ l) (fills_of own p gs)

abbrev slot_or : {A : Type 0} → A → List (ℕ × A) → A
slot_or d [] = d
slot_or d (x ∷ xs) = x.1

pub same_front : {A : Type 0} (k : ℕ) (x y : A) (s t : List (ℕ × A)) → (k, x) ∷ s ≡ (k, y) ∷ t → x ≡ y
same_front k x y s t e = ap (slot_or x) e

reply_or : {Reply : Type 0} → Reply → List (ℕ × Reply) → Reply
reply_or d [] = d
reply_or d (x ∷ xs) = x.1

module _ {Request Reply : Type 0} where
  own_pay : (own : QueuedWriter Request) (p : Reply) (gs : List (QueuedWriter Request × Reply)) → (t : List (ℕ × Reply)) × (pays own p gs ≡ (own.by, p) ∷ t)
  own_pay own p [] = ([], refl)
  own_pay own p (g ∷ gs) = let r = own_pay own p gs in (r.0 ++ (g.0.by, g.1) ∷ [], ap (λ l. l ++ (g.0.by, g.1) ∷ []) r.1)

  -- the leader's own reply comes first
  pub same_reply : (own own' : QueuedWriter Request) (p p' : Reply) (gs gs' : List (QueuedWriter Request × Reply)) → pays own p gs ≡ pays own' p' gs' → p ≡ p'
  unfolding reply_or
  same_reply own own' p p' gs gs' e = ap (reply_or p) (sym (own_pay own p gs).1 ∙ (e ∙ (own_pay own' p' gs').1))
