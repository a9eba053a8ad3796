-- What a group leaves with, and which of its replies haven't been given yet.
use Rattle.std.proofs.Common.{◌≡◌, ◌≢◌, ℕ, eqb, not, List, [], ◌∷◌, ◌++◌, cond, map, reverse, refl, sym, ap, ◌∙◌, subst, eq-eqb, ne_eqb}
use Rattle.std.proofs.lemmas.List.{reverse-append, map-append}
use mathlib.Core.Logic.{dite}
use native.Mathlib.Decide.{ℕ_discrete}
use Rattle.line_rule.specs.declared.view.QueuedWriter.{QueuedWriter}
use Rattle.line_rule.specs.declared.view.Handling.{Handling}
use Rattle.line_rule.specs.Chain.{of, heads, handling, answers, all_answers, Absent}
use Rattle.line_rule.specs.Events.{LogHolder, wrote, was_for, IsOfGroup, without, IsNotWith}
use Rattle.line_rule.specs.Standing.{Phase, idle, preparing, linked, chosen, leads, taken, completed, held, dropped, dismissed, collecting, Mode, open_, waits, led, built, cut, marked, Holds}
use Rattle.line_rule.specs.Laws.{Laws}
use Rattle.line_rule.specs.declared.content.LineSlot.{LineSlot}
use mathlib.Core.Option.{Option as Home}
use Rattle.line_rule.specs.Rule.{HasCut, due_untold, Shows, InMode}
use Rattle.line_rule.proofs.Chains.{put, put_at}
use Rattle.line_rule.proofs.Pauses.{not_with}
use Rattle.line_rule.proofs.Groups.{of-append, of_other, taken_absent}

module _ {Request Reply : Type 0} where
  -- the client has been told its reply, or will be told the one with which it left the queue
  abbrev pub IsTold : Phase Request Reply → Type 0
  IsTold idle = ⊥
  IsTold (preparing w) = ⊥
  IsTold (linked e) = ⊥
  IsTold (chosen e) = ⊥
  IsTold (leads e) = ⊥
  IsTold (taken c e) = ⊥
  IsTold (completed q p) = Unit {0}
  IsTold (held c e) = ⊥
  IsTold (dropped c e p) = Unit {0}
  IsTold (dismissed q p) = Unit {0}
  IsTold collecting = ⊥

  answers_of : (gs : List (QueuedWriter Request × Reply)) → map was_for (answers gs) ≡ map wrote (reverse (heads gs))
  answers_of [] = refl
  answers_of (g ∷ gs) = map-append was_for (answers gs) (handling g.0 g.1 ∷ []) ∙ (ap (λ l. l ++ wrote g.0 ∷ []) (answers_of gs)
      ∙ sym (ap (map wrote) (reverse-append (g.0 ∷ []) (heads gs)) ∙ map-append wrote (reverse (heads gs)) (g.0 ∷ [])))

  -- what a group handled is of its leader and its members
  pub group_handled : (own : QueuedWriter Request) (p : Reply) (gs : List (QueuedWriter Request × Reply)) → IsOfGroup own (heads gs) (all_answers own p gs)
  group_handled own p gs = ap (λ l. wrote own ∷ l) (answers_of gs)

  -- where the handlings of a client are left out, none is this client's
  without_none : (c : ℕ) (hs : List (Handling Request Reply)) → of c (without c hs) ≡ []
  without_none c [] = refl
  without_none c (h ∷ hs) = dite (ℕ_discrete h.by c)
      (λ e. subst (λ z. of c (cond (not z) (h ∷ without c hs) (without c hs)) ≡ []) (sym (eq-eqb h.by c e)) (without_none c hs))
      (λ ne. subst (λ z. of c (cond (not z) (h ∷ without c hs) (without c hs)) ≡ []) (sym (ne_eqb h.by c ne)) (of_other c h (without c hs) ne ∙ without_none c hs))

  without_else : (c k : ℕ) → k ≢ c → (hs : List (Handling Request Reply)) → of k (without c hs) ≡ of k hs
  without_else c k ne [] = refl
  without_else c k ne (h ∷ hs) = dite (ℕ_discrete h.by c)
      (λ e. subst (λ z. of k (cond (not z) (h ∷ without c hs) (without c hs)) ≡ of k (h ∷ hs)) (sym (eq-eqb h.by c e)) (without_else c k ne hs ∙ sym (of_other k h hs (λ is. ne (sym is ∙ e)))))
      (λ other. subst (λ z. of k (cond (not z) (h ∷ without c hs) (without c hs)) ≡ of k (h ∷ hs)) (sym (ne_eqb h.by c other)) (ap (λ l. cond (eqb h.by k) ((h.asked, h.reply) ∷ l) l) (without_else c k ne hs)))

  module _ (phase : ℕ → Phase Request Reply) (due : ℕ → List (Request × Reply)) (owing : List (Handling Request Reply)) (ok : (k : ℕ) → of k owing ≡ due_untold (phase k) (due k)) where
    -- one client moves, and what it hasn't been told stays as it was
    pub owing_stays : (owing' : List (Handling Request Reply)) (due' : ℕ → List (Request × Reply)) (m : ℕ) (ph : Phase Request Reply) → owing' ≡ owing → due_untold ph (due' m) ≡ due_untold (phase m) (due m) → ((k : ℕ) → k ≢ m → due' k ≡ due k) → (k : ℕ) → of k owing' ≡ due_untold (put phase m ph k) (due' k)
    owing_stays owing' due' m ph same here else_due k = ap (of k) same
        ∙ put_at phase m ph (λ j f. of j owing ≡ due_untold f (due' j)) k
        (λ is. subst (λ (j : ℕ). of j owing ≡ due_untold ph (due' j)) (sym is) (ok m ∙ sym here))
        (λ ne. ok k ∙ ap (due_untold (phase k)) (sym (else_due k ne)))

    untold_more : (ph : Phase Request Reply) (d x : List (Request × Reply)) → (IsTold ph → x ≡ []) → due_untold ph d ++ x ≡ due_untold ph (d ++ x)
    untold_more idle d x un = refl
    untold_more (preparing w) d x un = refl
    untold_more (linked e) d x un = refl
    untold_more (chosen e) d x un = refl
    untold_more (leads e) d x un = refl
    untold_more (taken c e) d x un = refl
    untold_more (completed q p) d x un = un tt
    untold_more (held c e) d x un = refl
    untold_more (dropped c e p) d x un = ap (λ l. (e.asked, p) ∷ l) (un tt)
    untold_more (dismissed q p) d x un = un tt
    untold_more collecting d x un = refl

    -- a group leaves
    pub owing_grows : (owing' new : List (Handling Request Reply)) (m : ℕ) (ph : Phase Request Reply) → owing' ≡ owing ++ new → ((d : List (Request × Reply)) → due_untold ph d ≡ due_untold (phase m) d) → ((k : ℕ) → IsTold (phase k) → of k new ≡ []) → (k : ℕ) → of k owing' ≡ due_untold (put phase m ph k) (due k ++ of k new)
    owing_grows owing' new m ph same here un k = ap (of k) same ∙ (of-append k owing new ∙ (ap (λ l. l ++ of k new) (ok k) ∙ (untold_more (phase k) (due k) (of k new) (un k)
        ∙ put_at phase m ph (λ j f. due_untold (phase j) (due k ++ of k new) ≡ due_untold f (due k ++ of k new)) k
        (λ is. ap (λ (j : ℕ). due_untold (phase j) (due k ++ of k new)) is ∙ sym (here (due k ++ of k new)))
        (λ _. refl))))

    -- a client gets its reply
    pub owing_told : (owing' : List (Handling Request Reply)) (due' : ℕ → List (Request × Reply)) (m : ℕ) (ph : Phase Request Reply) → owing' ≡ without m owing → due_untold ph (due' m) ≡ [] → ((k : ℕ) → k ≢ m → due' k ≡ due k) → (k : ℕ) → of k owing' ≡ due_untold (put phase m ph k) (due' k)
    owing_told owing' due' m ph same here else_due k = ap (of k) same
        ∙ put_at phase m ph (λ j f. of j (without m owing) ≡ due_untold f (due' j)) k
        (λ is. subst (λ (j : ℕ). of j (without m owing) ≡ due_untold ph (due' j)) (sym is) (without_none m owing ∙ sym here))
        (λ ne. without_else m k ne owing ∙ (ok k ∙ ap (due_untold (phase k)) (sym (else_due k ne))))

  -- what holds of a leader that has cut its group off stays true
  pub cut_stays : (log log' : LogHolder Request) (hand : List (QueuedWriter Request)) (phase : ℕ → Phase Request Reply) (m : ℕ) (ph : Phase Request Reply) → log' ≡ log → (mode : Mode Request) → (Holds m mode → (e : QueuedWriter Request) → phase m ≡ leads e → ph ≡ leads e) → HasCut log hand phase mode → HasCut log' hand (put phase m ph) mode
  cut_stays log log' hand phase m ph same open_ to ok = tt
  cut_stays log log' hand phase m ph same (waits c) to ok = tt
  cut_stays log log' hand phase m ph same (led c) to ok = tt
  cut_stays log log' hand phase m ph same (built c g t) to ok = tt
  cut_stays log log' hand phase m ph same (cut c w) to ok = (ok.0, ok.1, put_at phase m ph (λ k f. phase k ≡ leads ok.0 → f ≡ leads ok.0) c (λ is here. to is ok.0 (ap phase (sym is) ∙ here)) (λ _ here. here) ok.2, same ∙ ok.3)
  cut_stays log log' hand phase m ph same (marked c) to ok = (ok.0, ok.1, put_at phase m ph (λ k f. phase k ≡ leads ok.0 → f ≡ leads ok.0) c (λ is here. to is ok.0 (ap phase (sym is) ∙ here)) (λ _ here. here) ok.2, same ∙ ok.3)

module _ {Request : Type 0} where
  absent_front : (c : ℕ) (a b : List (QueuedWriter Request)) → Absent c (a ++ b) → Absent c a
  absent_front c [] b ok = tt
  absent_front c (e ∷ es) b ok = (ok.0, absent_front c es b ok.1)

  absent_back : (c : ℕ) (a b : List (QueuedWriter Request)) → Absent c (a ++ b) → Absent c b
  absent_back c [] b ok = ok
  absent_back c (e ∷ es) b ok = absent_back c es b ok.1

module _ {Request Reply Log Right : Type 0} (stands : Laws Request Reply Log Right) (n : ℕ) where
  -- a client that is about to link waits nowhere
  pub away_now : (homes : List (Home (LineSlot Request Reply Log Right))) (line hand queue : List (QueuedWriter Request)) (log : LogHolder Request) (handled : List (Handling Request Reply)) (phase : ℕ → Phase Request Reply) (due : ℕ → List (Request × Reply)) (c w : ℕ) → phase c ≡ preparing w → Absent c line
      → (mode : Mode Request) → InMode stands n homes line hand handled phase due mode → Shows line queue log mode → HasCut log hand phase mode → Absent c queue × IsNotWith c log
  away_now homes line hand queue log handled phase due c w now out open_ ok sh has = (subst (Absent c) sh.0 out, subst (IsNotWith c) (sym sh.1) tt)
  away_now homes line hand queue log handled phase due c w now out (waits d) ok sh has = (subst (Absent c) sh.0 out, subst (IsNotWith c) (sym sh.1) tt)
  away_now homes line hand queue log handled phase due c w now out (led d) ok sh has =
      (subst (Absent c) sh.0 out, subst (IsNotWith c) (sym sh.1) (λ e. let bad : phase c ≡ leads ok.0.1 = ap phase (sym e) ∙ ok.0.4 in absurd (cc)))
  away_now homes line hand queue log handled phase due c w now out (built d g t) ok sh has =
      let parts : Absent c (queue ++ (g ++ sh.0.0 ∷ [])) = subst (Absent c) sh.0.1 out in
      let group : Absent c (g ++ sh.0.0 ∷ []) = absent_back c queue (g ++ sh.0.0 ∷ []) parts in
      (absent_front c queue (g ++ sh.0.0 ∷ []) parts, subst (IsNotWith c) (sym sh.1) (not_with c sh.0.0 g t ((absent_back c g (sh.0.0 ∷ []) group).0, absent_front c g (sh.0.0 ∷ []) group)))
  away_now homes line hand queue log handled phase due c w now out (cut d x) ok sh has =
      (subst (Absent c) sh.0 out, subst (IsNotWith c) (sym has.3) ((λ e. let bad : phase c ≡ leads has.0 = ap phase (sym e ∙ has.1) ∙ has.2 in absurd (cc)), taken_absent phase due d c hand (λ e bad _. absurd (cc)) ok.1))
  away_now homes line hand queue log handled phase due c w now out (marked d) ok sh has =
      (subst (Absent c) sh.0 out, subst (IsNotWith c) (sym has.3) ((λ e. let bad : phase c ≡ leads has.0 = ap phase (sym e ∙ has.1) ∙ has.2 in absurd (cc)), taken_absent phase due d c hand (λ e bad _. absurd (cc)) ok.2))
