-- Facts on a group and on what it handled.
use Rattle.std.proofs.Common.{◌≡◌, ◌≢◌, ℕ, zero, suc, ◌<◌, ◌≤◌, eqb, cond, List, [], ◌∷◌, ◌++◌, length, get_or, refl, sym, ap, ◌∙◌, subst, arith, eq-eqb, ne_eqb, append_assoc, append-nil}
use native.Mathlib.Decide.{ℕ_discrete}
use mathlib.Core.Logic.{dite}
use Rattle.line_rule.specs.declared.view.QueuedWriter.{QueuedWriter}
use Rattle.line_rule.specs.declared.view.Handling.{Handling}
use Rattle.line_rule.specs.Chain.{older_at, pack, newest, newest_from, Links, LinksFrom, Absent, Distinct, Within, of, heads, handling, answers, all_answers}
use Rattle.line_rule.specs.Standing.{Phase, linked, taken}
use Rattle.line_rule.specs.Rule.{InChain, Stand, AllLinked, AllTaken, AllOwed}
use Rattle.line_rule.proofs.Chains.{put, put_else, owed_change}

module _ {Request : Type 0} where
  pub links_at : (end : ℕ) (words : List ℕ) (a : List (QueuedWriter Request)) (x : QueuedWriter Request) (b : List (QueuedWriter Request)) → LinksFrom end words (a ++ x ∷ b) → get_or words (older_at x.by) 0 ≡ pack (newest_from end b) x.code
  links_at end words [] x b ok = ok.0
  links_at end words (e ∷ es) x b ok = links_at end words es x b ok.1

  pub distinct_apart : (a : List (QueuedWriter Request)) (x : QueuedWriter Request) (b : List (QueuedWriter Request)) → Distinct (a ++ x ∷ b) → Absent x.by a
  distinct_apart [] x b ok = tt
  distinct_apart (e ∷ es) x b ok = (absent_at e.by es x b ok.0, distinct_apart es x b ok.1)
    where
      absent_at : (k : ℕ) (a : List (QueuedWriter Request)) (x : QueuedWriter Request) (b : List (QueuedWriter Request)) → Absent k (a ++ x ∷ b) → k ≢ x.by
      absent_at k [] x b ok e = ok.0 (sym e)
      absent_at k (f ∷ fs) x b ok e = absent_at k fs x b ok.1 e

  pub absent_front : (k : ℕ) (a b : List (QueuedWriter Request)) → Absent k (a ++ b) → Absent k a
  absent_front k [] b ok = tt
  absent_front k (e ∷ es) b ok = (ok.0, absent_front k es b ok.1)

  pub absent_back : (k : ℕ) (a b : List (QueuedWriter Request)) → Absent k (a ++ b) → Absent k b
  absent_back k [] b ok = ok
  absent_back k (e ∷ es) b ok = absent_back k es b ok.1

  pub distinct_front : (a b : List (QueuedWriter Request)) → Distinct (a ++ b) → Distinct a
  distinct_front [] b ok = tt
  distinct_front (e ∷ es) b ok = (absent_front e.by es b ok.0, distinct_front es b ok.1)

  pub distinct_back : (a b : List (QueuedWriter Request)) → Distinct (a ++ b) → Distinct b
  distinct_back [] b ok = ok
  distinct_back (e ∷ es) b ok = distinct_back es b ok.1

  pub within_front : (n : ℕ) (a b : List (QueuedWriter Request)) → Within n (a ++ b) → Within n a
  within_front n [] b ok = tt
  within_front n (e ∷ es) b ok = (ok.0, ok.1, within_front n es b ok.2)

  pub within_at : (n : ℕ) (a : List (QueuedWriter Request)) (x : QueuedWriter Request) (b : List (QueuedWriter Request)) → Within n (a ++ x ∷ b) → (0 < x.by) × (x.by ≤ n)
  within_at n [] x b ok = (ok.0, ok.1)
  within_at n (e ∷ es) x b ok = within_at n es x b ok.2

  pub absent_append : (k : ℕ) (a b : List (QueuedWriter Request)) → Absent k a → Absent k b → Absent k (a ++ b)
  absent_append k [] b x y = y
  absent_append k (e ∷ es) b x y = (x.0, absent_append k es b x.1 y)

  -- the link of x is cleared
  pub links_cut : (words ws : List ℕ) (q : List (QueuedWriter Request)) (x : QueuedWriter Request) (t : List (QueuedWriter Request)) → ((k : ℕ) → k ≢ x.by → get_or ws (older_at k) 0 ≡ get_or words (older_at k) 0) → get_or ws (older_at x.by) 0 ≡ pack 0 x.code → Absent x.by q → Links words (q ++ x ∷ t) → Links ws (q ++ x ∷ [])
  links_cut words ws [] x t same cleared out ok = (cleared, tt)
  links_cut words ws (e ∷ []) x t same cleared out ok = (same e.by out.0 ∙ ok.0, links_cut words ws [] x t same cleared out.1 ok.1)
  links_cut words ws (e ∷ f ∷ fs) x t same cleared out ok = (same e.by out.0 ∙ ok.0, links_cut words ws (f ∷ fs) x t same cleared out.1 ok.1)

  pub newest_cut : (q : List (QueuedWriter Request)) (x : QueuedWriter Request) (t : List (QueuedWriter Request)) → newest (q ++ x ∷ t) ≡ newest (q ++ x ∷ [])
  newest_cut [] x t = refl
  newest_cut (e ∷ es) x t = refl

  -- if the newest writer of a list is the newest of its older end, nothing comes before that end
  pub none_before : (a : List (QueuedWriter Request)) (x : QueuedWriter Request) (b : List (QueuedWriter Request)) → Distinct (a ++ x ∷ b) → newest (a ++ x ∷ b) ≡ x.by → a ≡ []
  none_before [] x b ok is = refl
  none_before (e ∷ es) x b ok is = let apart = distinct_apart (e ∷ es) x b ok in absurd (apart.0 is)

  pub none_before_group : (a t : List (QueuedWriter Request)) (o : QueuedWriter Request) → Distinct (a ++ (t ++ o ∷ [])) → newest (a ++ (t ++ o ∷ [])) ≡ newest (t ++ o ∷ []) → a ≡ []
  none_before_group a [] o ok is = none_before a o [] ok is
  none_before_group a (t ∷ ts) o ok is = none_before a t (ts ++ o ∷ []) ok is

module _ {Request : Type 0} where
  without : ℕ → List (QueuedWriter Request) → List (QueuedWriter Request)
  without k [] = []
  without k (e ∷ es) = cond (eqb e.by k) (without k es) (e ∷ without k es)

  -- what holds of a list without k's writers, by whether e is k's or not
  without_by : (F : List (QueuedWriter Request) → Type 0) (k : ℕ) (e : QueuedWriter Request) (es : List (QueuedWriter Request)) → (e.by ≡ k → F (without k es)) → (e.by ≢ k → F (e ∷ without k es)) → F (without k (e ∷ es))
  unfolding without
  without_by F k e es yes_ no_ = dite (ℕ_discrete e.by k)
      (λ is. subst (λ z. F (cond z (without k es) (e ∷ without k es))) (sym (eq-eqb e.by k is)) (yes_ is))
      (λ ne. subst (λ z. F (cond z (without k es) (e ∷ without k es))) (sym (ne_eqb e.by k ne)) (no_ ne))

  keeps_all : (k : ℕ) (l : List (QueuedWriter Request)) → Absent k l → length l ≤ length (without k l)
  unfolding without
  keeps_all k [] out = omega arith
  keeps_all k (e ∷ es) out = let h = keeps_all k es out.1 in without_by (λ l. length (e ∷ es) ≤ length l) k e es (λ is. absurd (out.0 is)) (λ _. omega arith)

  loses_one : (k : ℕ) (l : List (QueuedWriter Request)) → Distinct l → length l ≤ suc (length (without k l))
  unfolding without
  loses_one k [] ok = omega arith
  loses_one k (e ∷ es) ok = without_by (λ l. length (e ∷ es) ≤ suc (length l)) k e es
      (λ is. let h = keeps_all k es (subst (λ j. Absent j es) is ok.0) in omega arith) (λ _. let h = loses_one k es ok.1 in omega arith)

  absent_without : (j k : ℕ) (l : List (QueuedWriter Request)) → Absent j l → Absent j (without k l)
  unfolding without
  absent_without j k [] ok = tt
  absent_without j k (e ∷ es) ok = without_by (Absent j) k e es (λ _. absent_without j k es ok.1) (λ _. (ok.0, absent_without j k es ok.1))

  distinct_without : (k : ℕ) (l : List (QueuedWriter Request)) → Distinct l → Distinct (without k l)
  unfolding without
  distinct_without k [] ok = tt
  distinct_without k (e ∷ es) ok = without_by Distinct k e es (λ _. distinct_without k es ok.1) (λ _. (absent_without e.by k es ok.0, distinct_without k es ok.1))

  within_without : (n : ℕ) (l : List (QueuedWriter Request)) → Within (suc n) l → Within n (without (suc n) l)
  unfolding without
  within_without n [] ok = tt
  within_without n (e ∷ es) ok = without_by (Within n) (suc n) e es (λ _. within_without n es ok.2) (λ ne. let h = ok.1 in (ok.0, omega arith, within_without n es ok.2))

  -- a walk has at most as many links as there are clients
  pub walk_bound : (n : ℕ) (l : List (QueuedWriter Request)) → Within n l → Distinct l → length l ≤ n
  walk_bound zero [] ok apart = omega arith
  walk_bound zero (e ∷ es) ok apart = let a = ok.0 in let b = ok.1 in absurd (omega arith)
  walk_bound (suc n) l ok apart = let a = loses_one (suc n) l apart in let b = walk_bound n (without (suc n) l) (within_without n l ok) (distinct_without (suc n) l apart) in omega arith

module _ {Request Reply : Type 0} where
  pub linked_at : (phase : ℕ → Phase Request Reply) (a : List (QueuedWriter Request)) (x : QueuedWriter Request) (b : List (QueuedWriter Request)) → AllLinked phase (a ++ x ∷ b) → phase x.by ≡ linked x
  linked_at phase [] x b ok = ok.0
  linked_at phase (e ∷ es) x b ok = linked_at phase es x b ok.1

  pub linked_front : (phase : ℕ → Phase Request Reply) (a b : List (QueuedWriter Request)) → AllLinked phase (a ++ b) → AllLinked phase a
  linked_front phase [] b ok = tt
  linked_front phase (e ∷ es) b ok = (ok.0, linked_front phase es b ok.1)

  pub linked_absent : (phase : ℕ → Phase Request Reply) (m : ℕ) (ph : Phase Request Reply) (es : List (QueuedWriter Request)) → Absent m es → AllLinked phase es → AllLinked (put phase m ph) es
  linked_absent phase m ph [] out ok = tt
  linked_absent phase m ph (e ∷ es) out ok = (put_else phase m ph e.by out.0 ∙ ok.0, linked_absent phase m ph es out.1 ok.1)

  pub taken_absent : (phase : ℕ → Phase Request Reply) (due : ℕ → List (Request × Reply)) (c k : ℕ) (es : List (QueuedWriter Request)) → ((e : QueuedWriter Request) → phase k ≡ taken c e → due k ≡ [] → ⊥) → AllTaken phase due c es → Absent k es
  taken_absent phase due c k [] out ok = tt
  taken_absent phase due c k (e ∷ es) out ok = ((λ is. out e (ap phase (sym is) ∙ ok.0) (ap due (sym is) ∙ ok.1)), taken_absent phase due c k es out ok.2)

  pub linked_out : (phase : ℕ → Phase Request Reply) (k : ℕ) (es : List (QueuedWriter Request)) → ((e : QueuedWriter Request) → phase k ≡ linked e → ⊥) → AllLinked phase es → Absent k es
  linked_out phase k [] out ok = tt
  linked_out phase k (e ∷ es) out ok = ((λ is. out e (ap phase (sym is) ∙ ok.0)), linked_out phase k es out ok.1)

  pub stand_front : (phase : ℕ → Phase Request Reply) (a b : List (QueuedWriter Request)) → Stand phase (a ++ b) → Stand phase a
  stand_front phase [] b ok = tt
  stand_front phase (e ∷ es) b ok = (ok.0, stand_front phase es b ok.1)

  pub stand_apart : (phase : ℕ → Phase Request Reply) (m : ℕ) (ph : Phase Request Reply) (es : List (QueuedWriter Request)) → Absent m es → Stand phase es → Stand (put phase m ph) es
  stand_apart phase m ph [] out ok = tt
  stand_apart phase m ph (e ∷ es) out ok = (subst (InChain e) (sym (put_else phase m ph e.by out.0)) ok.0, stand_apart phase m ph es out.1 ok.1)

  pub of-append : (k : ℕ) (a b : List (Handling Request Reply)) → of k (a ++ b) ≡ of k a ++ of k b
  of-append k [] b = refl
  of-append k (h ∷ hs) b = dite (ℕ_discrete h.by k)
      (λ e. subst (λ z. cond z ((h.asked, h.reply) ∷ of k (hs ++ b)) (of k (hs ++ b)) ≡ cond z ((h.asked, h.reply) ∷ of k hs) (of k hs) ++ of k b) (sym (eq-eqb h.by k e)) (ap (λ l. (h.asked, h.reply) ∷ l) (of-append k hs b)))
      (λ ne. subst (λ z. cond z ((h.asked, h.reply) ∷ of k (hs ++ b)) (of k (hs ++ b)) ≡ cond z ((h.asked, h.reply) ∷ of k hs) (of k hs) ++ of k b) (sym (ne_eqb h.by k ne)) (of-append k hs b))

  pub of_mine : (k : ℕ) (h : Handling Request Reply) (hs : List (Handling Request Reply)) → h.by ≡ k → of k (h ∷ hs) ≡ (h.asked, h.reply) ∷ of k hs
  of_mine k h hs e = ap (λ z. cond z ((h.asked, h.reply) ∷ of k hs) (of k hs)) (eq-eqb h.by k e)

  pub of_other : (k : ℕ) (h : Handling Request Reply) (hs : List (Handling Request Reply)) → h.by ≢ k → of k (h ∷ hs) ≡ of k hs
  of_other k h hs ne = ap (λ z. cond z ((h.asked, h.reply) ∷ of k hs) (of k hs)) (ne_eqb h.by k ne)

  pub answers_none : (k : ℕ) (gs : List (QueuedWriter Request × Reply)) → Absent k (heads gs) → of k (answers gs) ≡ []
  answers_none k [] out = refl
  answers_none k (g ∷ gs) out = of-append k (answers gs) (handling g.0 g.1 ∷ []) ∙ ((λ i. answers_none k gs out.1 i ++ of_other k (handling g.0 g.1) [] out.0 i))

  pub new_none : (k : ℕ) (own : QueuedWriter Request) (p : Reply) (gs : List (QueuedWriter Request × Reply)) → own.by ≢ k → Absent k (heads gs) → of k (all_answers own p gs) ≡ []
  new_none k own p gs ne out = of_other k (handling own p) (answers gs) ne ∙ answers_none k gs out

  pub new_own : (own : QueuedWriter Request) (p : Reply) (gs : List (QueuedWriter Request × Reply)) → Absent own.by (heads gs) → of own.by (all_answers own p gs) ≡ (own.asked, p) ∷ []
  new_own own p gs out = of_mine own.by (handling own p) (answers gs) refl ∙ ap (λ l. (own.asked, p) ∷ l) (answers_none own.by gs out)

  -- each member of the group is owed its reply: a and b name none of them
  pub owes : (phase : ℕ → Phase Request Reply) (due : ℕ → List (Request × Reply)) (c : ℕ) (gs : List (QueuedWriter Request × Reply)) (a b : List (Handling Request Reply)) → Distinct (heads gs) → ((k : ℕ) → (Absent k (heads gs) → ⊥) → (of k a ≡ []) × (of k b ≡ [])) → AllTaken phase due c (heads gs)
      → AllOwed phase (λ k. due k ++ of k ((a ++ answers gs) ++ b)) c gs
  owes phase due c [] a b apart out ok = tt
  owes phase due c (g ∷ gs) a b apart out ok =
      let k : ℕ = g.0.by in let h : Handling Request Reply = handling g.0 g.1 in
      let away = out k (λ z. z.0 refl) in
      let mine : of k ((a ++ (answers gs ++ h ∷ [])) ++ b) ≡ (g.0.asked, g.1) ∷ [] =
      of-append k (a ++ (answers gs ++ h ∷ [])) b ∙ ((λ i. of-append k a (answers gs ++ h ∷ []) i ++ away.1 i) ∙ (append-nil (of k a ++ of k (answers gs ++ h ∷ [])) ∙ ((λ i. away.0 i ++ of-append k (answers gs) (h ∷ []) i) ∙ (λ i. answers_none k gs apart.0 i ++ of_mine k h [] refl i)))) in
      let next : (j : ℕ) → of j ((a ++ answers gs) ++ h ∷ b) ≡ of j ((a ++ (answers gs ++ h ∷ [])) ++ b) = λ j. ap (of j) (regroup a (answers gs) h b) in (
        ok.0,
        (λ i. ok.1 i ++ mine i),
        owed_change phase phase (λ j. due j ++ of j ((a ++ answers gs) ++ h ∷ b)) (λ j. due j ++ of j ((a ++ (answers gs ++ h ∷ [])) ++ b)) c gs (λ e x here owed. (here, ap (λ l. due e.by ++ l) (sym (next e.by)) ∙ owed))
            (owes phase due c gs a (h ∷ b) apart.1 (λ j there. let o = out j (λ z. there z.1) in (o.0, of_other j h b (λ e. there (subst (λ i. Absent i (heads gs)) e apart.0)) ∙ o.1)) ok.2),
      )
    where
      regroup : {A : Type 0} (a c : List A) (h : A) (b : List A) → (a ++ c) ++ h ∷ b ≡ (a ++ (c ++ h ∷ [])) ++ b
      regroup a c h b = sym (ap (λ l. l ++ b) (sym (append_assoc a c (h ∷ []))) ∙ append_assoc (a ++ c) (h ∷ []) b)
