-- How a leader that stalls writes passes over the writers of the queue that may be slowed down.
use Rattle.std.proofs.Common.{◌≡◌, ℕ, ◌^◌, ◌<◌, false, List, [], ◌∷◌, ◌++◌, reverse, Some, refl, sym, ap, ◌∙◌, subst, append_assoc, append-nil}
use Rattle.std.proofs.lemmas.List.{append_cancel_right, reverse-append}
use Rattle.line_rule.specs.declared.view.QueuedWriter.{QueuedWriter}
use Rattle.line_rule.specs.Chain.{pairs}
use Rattle.line_rule.specs.Events.{is_hasty}
use Rattle.line_rule.proofs.Leads.{same_last}
use Rattle.line_rule.proofs.Enters.{not_snoc}
use Rattle.line_writers.specs.declared.room.Room.{Room}
use Rattle.line_writers.specs.Roles.{CodesFit}
use Rattle.line_writers.specs.Stalled.{NoneHasty, EndsBefore, ListsRest}

pub codes_start : (l : List (ℕ × ℕ)) (y : ℕ × ℕ) → CodesFit (l ++ y ∷ []) → CodesFit l
codes_start [] y ok = tt
codes_start (x ∷ xs) y ok = (ok.0, codes_start xs y ok.1)

pub code_last : (l : List (ℕ × ℕ)) (y : ℕ × ℕ) → CodesFit (l ++ y ∷ []) → y.1 < 2 ^ 56
code_last [] y ok = ok.0
code_last (x ∷ xs) y ok = code_last xs y ok.1

module _ {Request : Type 0} where
  -- `slow` are the writers of the rest that it has passed over, and `older` those to which it comes next
  pub record Skipped (n : ℕ) (newer rest : List (QueuedWriter Request)) (room : Room) : Type 0 where
    pub slow : List (QueuedWriter Request)
    pub older : List (QueuedWriter Request)
    pub parts : rest ≡ slow ++ older
    pub none_hasty : NoneHasty slow
    pub lists : ListsRest n older room
    pub ends : EndsBefore older (newer ++ slow) room.stall.passed

  -- the last pair of the list is the next writer's
  pub next_writer : (older : List (QueuedWriter Request)) (l : List (ℕ × ℕ)) (y : ℕ × ℕ) → reverse (pairs older) ≡ l ++ y ∷ [] → (x : QueuedWriter Request) × (more : List (QueuedWriter Request)) × (older ≡ x ∷ more) × (l ≡ reverse (pairs more)) × (y ≡ (x.by, x.code))
  next_writer [] l y is = absurd (not_snoc l y is)
  next_writer (e ∷ es) l y is =
      let both : l ++ y ∷ [] ≡ reverse (pairs es) ++ (e.by, e.code) ∷ [] = sym is ∙ reverse-append ((e.by, e.code) ∷ []) (pairs es) in
      let same : y ≡ (e.by, e.code) = same_last l (reverse (pairs es)) y (e.by, e.code) both in
      (e, es, refl, append_cancel_right l (reverse (pairs es)) (y ∷ []) (both ∙ ap (λ z. reverse (pairs es) ++ z ∷ []) (sym same)), same)

  pub none_next : (older : List (QueuedWriter Request)) → reverse (pairs older) ≡ [] → older ≡ []
  none_next [] is = refl
  none_next (e ∷ es) is = absurd (not_snoc (reverse (pairs es)) (e.by, e.code) (sym is ∙ reverse-append ((e.by, e.code) ∷ []) (pairs es)))

  none_hasty_more : (slow : List (QueuedWriter Request)) (x : QueuedWriter Request) → NoneHasty slow → is_hasty x.code ≡ false → NoneHasty (slow ++ x ∷ [])
  none_hasty_more [] x ok is = (is, tt)
  none_hasty_more (e ∷ es) x ok is = (ok.0, none_hasty_more es x ok.1 is)

  ends_at : (older newer slow : List (QueuedWriter Request)) (x : QueuedWriter Request) (y : ℕ × ℕ) → y ≡ (x.by, x.code) → y.1 < 2 ^ 56 → EndsBefore older (newer ++ (slow ++ x ∷ [])) (Some y)
  ends_at [] newer slow x y is fits = tt
  ends_at (e ∷ es) newer slow x y is fits = (newer ++ slow, x, sym (append_assoc newer slow (x ∷ [])), is, subst (λ (z : ℕ × ℕ). z.1 < 2 ^ 56) is fits)

  module _ (n : ℕ) (newer rest : List (QueuedWriter Request)) (room : Room) where
    pub skips_first : ListsRest n rest room → EndsBefore rest newer room.stall.passed → Skipped n newer rest room
    skips_first lists ends = record {
      slow = [];
      older = rest;
      parts = refl;
      none_hasty = tt;
      lists = lists;
      ends = subst (λ z. EndsBefore rest z room.stall.passed) (sym (append-nil newer)) ends;
    }

    module _ (v : Skipped n newer rest room) (l : List (ℕ × ℕ)) (y : ℕ × ℕ) (popped : room.walk.items ≡ l ++ y ∷ []) where
      abbrev pub next : (x : QueuedWriter Request) × (more : List (QueuedWriter Request)) × (v.older ≡ x ∷ more) × (l ≡ reverse (pairs more)) × (y ≡ (x.by, x.code))
      next = next_writer v.older l y (sym v.lists.0 ∙ popped)

      pub codes_left : CodesFit l
      codes_left = codes_start l y (subst CodesFit popped v.lists.1)

      pub ends_before : EndsBefore (next.0 ∷ next.1) (newer ++ v.slow) room.stall.passed
      ends_before = subst (λ z. EndsBefore z (newer ++ v.slow) room.stall.passed) next.2 v.ends

      pub is_code : is_hasty y.1 ≡ is_hasty next.0.code
      is_code = ap (λ (z : ℕ × ℕ). is_hasty z.1) next.4

      -- it passes over that one too
      pub skips_more : is_hasty y.1 ≡ false → (room' : Room) → ListsRest n next.1 room' → room'.stall.passed ≡ Some y → Skipped n newer rest room'
      skips_more slow room' lists passed = record {
        slow = v.slow ++ next.0 ∷ [];
        older = next.1;
        parts = v.parts ∙ (ap (λ z. v.slow ++ z) next.2 ∙ sym (append_assoc v.slow (next.0 ∷ []) next.1));
        none_hasty = none_hasty_more v.slow next.0 v.none_hasty (sym is_code ∙ slow);
        lists = lists;
        ends = subst (EndsBefore next.1 (newer ++ (v.slow ++ next.0 ∷ []))) (sym passed) (ends_at next.1 newer v.slow next.0 y next.4 (code_last l y (subst CodesFit popped v.lists.1)));
      }

    -- nobody is left
    pub skips_all : (v : Skipped n newer rest room) → room.walk.items ≡ [] → NoneHasty rest × ListsRest {Request = Request} n [] room
    skips_all v nil =
        let none = none_next v.older (sym v.lists.0 ∙ nil) in
        (subst NoneHasty (sym (v.parts ∙ (ap (λ z. v.slow ++ z) none ∙ append-nil v.slow))) v.none_hasty, subst (λ z. ListsRest n z room) none v.lists)
