-- How a leader leaves: it has handled its group, and gives the log back.
use Rattle.std.proofs.Common.{true, ◌≡◌, ◌≢◌, ℕ, ◌+◌, ◌*◌, ◌<◌, eqb, List, [], ◌∷◌, ◌++◌, length, get_or, set, refl, sym, ap, ◌∙◌, subst, inl, arith, length-set, append-nil, append_assoc, get_or-set_other, get_or-set_same}
use mathlib.Core.Path.{Path}
use mathlib.Core.Option.{Option, some}
use lib.ListN.{get_elem?}
use prog.Atomic.{either}
use Rattle.atomic_table.specs.Table.{step, keeps, gives, carried_after, stepped, Allows}
use Rattle.atomic_table.proofs.Lists.{set_here, set_else, exchanged}
use Rattle.line_rule.specs.declared.view.QueuedWriter.{QueuedWriter}
use Rattle.line_rule.specs.declared.view.Handling.{Handling}
use Rattle.line_rule.specs.declared.view.Lead.{Lead}
use Rattle.line_rule.specs.declared.view.Debt.{Debt}
use Rattle.line_rule.specs.declared.view.LineHold.{LineHold}
use Rattle.line_rule.specs.declared.content.LineSlot.{LineSlot}
use Rattle.line_rule.specs.declared.content.LineSlot.TheVariants.{Empty, Asked, Told, TheLog, TheRight}
use Rattle.line_rule.specs.declared.view.LineStage.TheVariants.{Leading, Settling}
use Rattle.line_rule.specs.Chain.{state_at, older_at, newest, newest_from, Absent, Distinct, of, heads, handling, answers, all_answers}
use Rattle.line_rule.specs.Standing.{held, calm, dismissed, dropped, Phase, idle, preparing, linked, chosen, leads, taken, completed, collecting, Mode, open_, waits, built, Holds, ahead}
use Rattle.line_rule.specs.Laws.{Laws}
use Rattle.line_rule.specs.Rule.{InChain, AllTaken, AllOwed, hold, InPhase, Listed, due_untold}
use Rattle.line_rule.specs.Events.{exits, Core, IsOfGroup}
use Rattle.line_rule.specs.SecondList.{second_list_of}
use Rattle.line_rule.specs.Steps.{Lists, HappensWhere, IsExit, IsNow, StepIs}
use Rattle.line_rule.specs.Plays.{Sat, At, in_hand, debt, slots_of, Walks, after_leave}
use Rattle.line_rule.proofs.Chains.{put, put_at, put_here, put_else, owed_change}
use Rattle.line_rule.proofs.Exits.{IsTold, group_handled, owing_grows}
use Rattle.line_rule.proofs.Accounts.{leaves_now}
use Rattle.line_rule.proofs.Moves.{St, row_stays, knows_stays, moved, Goes, allows}
use Rattle.line_rule.proofs.Keeps.{second_same, level_same}
use Rattle.line_rule.proofs.Groups.{distinct_front, distinct_back, taken_absent, of-append, of_other, new_none, new_own, owes, none_before_group}
use Rattle.line_rule.proofs.Enters.{one_hold}
use Rattle.line_rule.proofs.Leads.{leader, one_lead, walks_now}

abbrev pub told_in : {Request Reply Log Right : Type 0} → Reply → LineSlot Request Reply Log Right → Reply
told_in d Empty = d
told_in d (Asked q) = d
told_in d (Told p) = p
told_in d (TheLog l) = d
told_in d (TheRight r) = d

abbrev pub told_at : {Request Reply Log Right : Type 0} → Reply → List (ℕ × LineSlot Request Reply Log Right) → Reply
told_at d [] = d
told_at d (x ∷ xs) = told_in d x.1

abbrev pub first_or : {A : Type 0} → A → List A → A
first_or d [] = d
first_or d (x ∷ xs) = x

abbrev pub others_of : {A : Type 0} → List A → List A
others_of [] = []
others_of (x ∷ xs) = xs

-- the replies are those in the slots
pub same_group : {Request Reply Log Right : Type 0} (c c' : ℕ) (p p' : Reply) (gs gs' : List (QueuedWriter Request × Reply)) (t t' : List (ℕ × LineSlot Request Reply Log Right)) → heads gs ≡ heads gs' → Path (List (ℕ × LineSlot Request Reply Log Right)) (slots_of gs ((c, Told p) ∷ t)) (slots_of gs' ((c', Told p') ∷ t')) → (gs ≡ gs') × (p ≡ p')
same_group {Request} {Reply} {Log} {Right} c c' p p' [] [] t t' hd e = (refl, ap (told_at {Request = Request} {Log = Log} {Right = Right} p) e)
same_group c c' p p' [] (g ∷ gs) t t' hd e = absurd (cc)
same_group c c' p p' (g ∷ gs) [] t t' hd e = absurd (cc)
same_group {Request} {Reply} {Log} {Right} c c' p p' (g ∷ gs) (h ∷ hs) t t' hd e =
    let r = same_group c c' p p' gs hs t t' (ap others_of hd) (ap others_of e) in
    let a : g.0 ≡ h.0 = ap (first_or g.0) hd in
    let b : g.1 ≡ h.1 = ap (told_at {Request = Request} {Log = Log} {Right = Right} g.1) e in
    ((λ i. (a i, b i) ∷ r.0 i), r.1)

module _ {Request Reply Log Right : Type 0} (stands : Laws Request Reply Log Right) (n : ℕ) where
  -- a row where what is due grows; it stays as it was for a client in no group, and where a reply was due already
  pub row_due : (ws : List ℕ) (hs : List (Option (LineSlot Request Reply Log Right))) (k : ℕ) (d d' : List (Request × Reply)) (ph : Phase Request Reply) → (((c : ℕ) (e : QueuedWriter Request) → ph ≡ taken c e → ⊥) → ((e : QueuedWriter Request) → ph ≡ leads e → ⊥) → d' ≡ d) → ((x : Request × Reply) → d ≡ x ∷ [] → d' ≡ x ∷ []) → InPhase stands ws hs k d ph → InPhase stands ws hs k d' ph
  row_due ws hs k d d' idle to keep ok = (ok.0, to (λ c e b. absurd (cc)) (λ e b. absurd (cc)) ∙ ok.1)
  row_due ws hs k d d' (preparing w) to keep ok = (ok.0, ok.1, to (λ c e b. absurd (cc)) (λ e b. absurd (cc)) ∙ ok.2)
  row_due ws hs k d d' (linked f) to keep ok = (ok.0, ok.1, ok.2, to (λ c e b. absurd (cc)) (λ e b. absurd (cc)) ∙ ok.3)
  row_due ws hs k d d' (chosen f) to keep ok = (ok.0, ok.1, ok.2, to (λ c e b. absurd (cc)) (λ e b. absurd (cc)) ∙ ok.3)
  row_due ws hs k d d' (leads f) to keep ok = ok
  row_due ws hs k d d' (taken l f) to keep ok = (ok.0, ok.1, ok.2, (λ eight. let t = ok.3 eight in (t.0, (t.1.0, keep (f.asked, t.1.0) t.1.1))))
  row_due ws hs k d d' (completed q p) to keep ok = (ok.0, ok.1, to (λ c e b. absurd (cc)) (λ e b. absurd (cc)) ∙ ok.2)
  row_due ws hs k d d' (held c e) to keep ok = (ok.0, ok.1, to (λ c e b. absurd (cc)) (λ e b. absurd (cc)) ∙ ok.2)
  row_due ws hs k d d' (dropped c e p) to keep ok = (ok.0, ok.1, to (λ c e b. absurd (cc)) (λ e b. absurd (cc)) ∙ ok.2, ok.3)
  row_due ws hs k d d' (dismissed q p) to keep ok = (ok.0, ok.1, to (λ c e b. absurd (cc)) (λ e b. absurd (cc)) ∙ ok.2, ok.3)
  row_due ws hs k d d' collecting to keep ok = to (λ c e b. absurd (cc)) (λ e b. absurd (cc)) ∙ ok

  -- what follows where the leader c has handled its group
  module _ (s : St stands n) (r : Listed stands n s) (c : ℕ) (o : QueuedWriter Request) (gs : List (QueuedWriter Request × Reply)) (p : Reply) (by_c : o.by ≡ c) (now : r.phase c ≡ leads o) (members : AllTaken r.phase r.due c (heads gs)) (own_due : r.due c ≡ []) (apart : Distinct (heads gs)) where
    abbrev pub new : List (Handling Request Reply)
    new = all_answers o p gs

    abbrev pub due' : ℕ → List (Request × Reply)
    due' k = r.due k ++ of k new

    pub group_out : (k : ℕ) → ((e : QueuedWriter Request) → r.phase k ≡ taken c e → r.due k ≡ [] → ⊥) → Absent k (heads gs)
    group_out k un = taken_absent r.phase r.due c k (heads gs) un members

    pub due_same : (k : ℕ) → k ≢ c → ((e : QueuedWriter Request) → r.phase k ≡ taken c e → r.due k ≡ [] → ⊥) → due' k ≡ r.due k
    due_same k ne un = ap (λ l. r.due k ++ l) (new_none k o p gs (λ e. ne (sym e ∙ by_c)) (group_out k un)) ∙ append-nil (r.due k)

    pub shared_more : (k : ℕ) → of k (r.handled ++ new) ≡ r.told k ++ due' k
    shared_more k = of-append k r.handled new ∙ (ap (λ l. l ++ of k new) (r.shared_out k) ∙ append_assoc (r.told k) (r.due k) (of k new))

    pub own_out : Absent o.by (heads gs)
    own_out = group_out o.by (λ e bad _. let is : r.phase o.by ≡ leads o = ap r.phase by_c ∙ now in absurd (cc))

    pub own_owed : due' c ≡ (o.asked, p) ∷ []
    own_owed = (λ i. own_due i ++ of (sym by_c i) new) ∙ new_own o p gs own_out

    pub all_owed : AllOwed r.phase due' c gs
    all_owed = owed_change r.phase r.phase (λ k. r.due k ++ of k ((handling o p ∷ [] ++ answers gs) ++ [])) due' c gs (λ e x here owed. (here, ap (λ l. r.due e.by ++ of e.by l) (sym (append-nil new)) ∙ owed))
        (owes r.phase r.due c gs (handling o p ∷ []) [] apart (λ k there. (of_other k (handling o p) [] (λ e. there (subst (λ j. Absent j (heads gs)) e own_out)), refl)) members)

    -- what is due to the members of another leader stays as it was
    pub else_owed : (j : ℕ) → j ≢ c → (e : QueuedWriter Request) (x : Request × Reply) → r.phase e.by ≡ taken j e → r.due e.by ≡ x ∷ [] → due' e.by ≡ x ∷ []
    else_owed j ne e x here owed = due_same e.by (λ is. let bad : r.phase e.by ≡ leads o = ap r.phase is ∙ now in absurd (cc)) (λ f _ none_due. absurd (cc)) ∙ owed

    pub else_due : (j : ℕ) → j ≢ c → (x : Request × Reply) → r.due j ≡ x ∷ [] → due' j ≡ x ∷ []
    else_due j ne x owed = due_same j ne (λ f _ none_due. absurd (cc)) ∙ owed

    pub done_none : (k : ℕ) → IsTold (r.phase k) → of k new ≡ []
    done_none k done = new_none k o p gs (λ e. let bad : r.phase k ≡ leads o = ap r.phase (sym e ∙ by_c) ∙ now in subst IsTold bad done) (group_out k (λ e bad _. subst IsTold bad done))

    pub else_row : (ws : List ℕ) (hs : List (Option (LineSlot Request Reply Log Right))) (k : ℕ) → k ≢ c → InPhase stands ws hs k (r.due k) (r.phase k) → InPhase stands ws hs k (due' k) (r.phase k)
    else_row ws hs k ne ok = row_due ws hs k (r.due k) (due' k) (r.phase k) (λ no _. due_same k ne (λ e bad _. no c e bad)) (else_due k ne) ok

  module _ (slots id : ℕ) (me : Sat Request Reply Log Right) (c old : ℕ) (lead : Lead Request Reply) (mine : List (Request × Reply)) (gs : List (QueuedWriter Request × Reply)) (p : Reply) (l : Log) (said : Option (LineSlot Request Reply Log Right)) (mid : At c (Leading lead) mine me) (group : heads gs ≡ lead.taken)
      (slot : me.1 ≡ (0, TheLog l) ∷ slots_of gs ((c, Told p) ∷ [])) (is_old : old ≡ newest (in_hand lead)) (all : lead.taken ≡ lead.group) (stood : stands.logs l (lead.seen ++ all_answers lead.own p gs)) (unnumbered : stands.piped ≡ true → stands.given (lead.seen ++ all_answers lead.own p gs) ≡ stands.given lead.seen)
      (s : St stands n) (r : Listed stands n s) (at : get_elem? s.views id ≡ some me.0) (hit : get_or s.words 0 0 ≡ old) where
    leaves_last : Goes stands n (HappensWhere old (IsExit lead.own p gs)) s r 0 id me (after_leave (step slots 0 old 0 said) me) 0
    leaves_last =
        let h : LineHold Request Reply = hold c (Leading lead) mine in
        let at' : get_elem? s.views id ≡ some (h ∷ []) = at ∙ ap some mid in
        let fit = (r.seats id (h ∷ []) at').0 in
        let f = leader stands n s r c lead fit.1 fit.2 fit.4 in
        let lo : 0 < c = fit.1 in
        let led_c : r.mode ≡ built c lead.group calm = fit.4.0 in
        let now : r.phase c ≡ leads lead.own = fit.4.1 in
        let wide : length s.words ≡ 2 * n + 4 = r.wide in
        let many : length s.homes ≡ n + 2 = r.many in
        let whole : Distinct (f.queue ++ in_hand lead) = subst Distinct f.parts r.distinct in
        let none_newer : f.queue ≡ [] = none_before_group f.queue lead.taken lead.own whole ((λ i. newest_from (sym f.base i) (sym f.parts i)) ∙ (sym f.first ∙ (hit ∙ is_old))) in
        let members : AllTaken r.phase r.due c (heads gs) = subst (AllTaken r.phase r.due c) (sym group) f.members in
        let apart : Distinct (heads gs) = subst Distinct (sym group) (distinct_front lead.taken (lead.own ∷ []) (distinct_back f.queue (in_hand lead) whole)) in
        let ws : List ℕ = set s.words 0 0 in
        let hs = set s.homes 0 (some (TheLog l)) in
        let d : Debt Request Reply = debt gs lead.own p in
        let h' : LineHold Request Reply = hold c (Settling d) mine in
        let same : (j : ℕ) → j ≢ 0 → get_or ws j 0 ≡ get_or s.words j 0 = λ j ne. get_or-set_other s.words 0 j 0 0 (λ e. ne (omega arith)) in
        let ph : Phase Request Reply = leads lead.own in
        let phase' : ℕ → Phase Request Reply = put r.phase c ph in
        let here : phase' c ≡ ph = put_here r.phase c ph in
        let more : List (Handling Request Reply) = all_answers lead.own p gs in
        let owe : ℕ → List (Request × Reply) = λ k. r.due k ++ of k more in
        let acc = leaves_now stands.bound r.line r.handled r.mode r.account c lead.group lead.own more led_c (f.parts ∙ (λ i. none_newer i ++ (all i ++ lead.own ∷ []))) (subst (λ (z : List (QueuedWriter Request)). IsOfGroup lead.own z more) (group ∙ all) (group_handled lead.own p gs)) in
        let now_is : Lists Request Reply = ((acc.0.queue, acc.0.log, r.handled ++ more, acc.0.owing), second_list_of r.two) in
        let moved_to : IsNow stands n now_is (record { words = ws; homes = hs; views = set s.views id (h' ∷ []) }) =
        moved stands n s r c id ws hs h h' [] [] (r.handled ++ more) open_ ph owe r.told r.two record {
          at = at';
          real = fit.1;
          same_client = refl;
          wide = length-set s.words 0 0;
          many = length-set s.homes 0 (some (TheLog l));
          newest_is = get_or-set_same s.words 0 0 0 (omega arith);
          links = tt;
          distinct = tt;
          within = tt;
          stand = tt;
          other_rows = λ j ne lo' _ ok. row_stays stands n s.words ws s.homes hs j (owe j) (same (state_at j) (λ e. omega arith)) (same (older_at j) (λ e. omega arith)) (set_else s.homes 0 j (some (TheLog l)) (λ e. omega arith)) (r.phase j)
              (else_row s r c lead.own gs p f.own_by now members f.own_due apart s.words s.homes j ne ok);
          row = f.own_by;
          log_is = (refl, refl, (l, set_here s.homes 0 (some (TheLog l)) (omega arith), subst (λ z. stands.logs l (z ++ more)) fit.4.3 stood));
          one_chosen = λ j e. put_at r.phase c ph (λ i g. g ≡ chosen e → Path (Mode Request) (open_) (waits i)) j (λ _ bad. absurd (cc)) (λ _ ok. let was : r.mode ≡ waits j = r.one_chosen j e ok in absurd (cc));
          kept = stands.keeps l (r.handled ++ more) (subst (λ z. stands.logs l (z ++ more)) fit.4.3 stood);
          coded = λ e is. r.coded c e (subst (InChain e) (sym now) is);
          account = acc.0;
          goes_on = (exits more ∷ [], acc.2);
          recalls = tt;
          has_cut = tt;
          owing_is = owing_grows r.phase r.due r.account.owing r.owing_is acc.0.owing more c ph (ap (λ (y : Core Request Reply). y.3) acc.1.1) (λ d. ap (λ f. due_untold f d) (sym now)) (done_none s r c lead.own gs p f.own_by now members f.own_due apart);
          second = second_same stands n s.words ws s.homes hs r.phase c ph r.mode open_ (stands.given r.handled) (stands.given (r.handled ++ more)) r.two (inl now) same (set_else s.homes 0 (n + 1) (some (TheLog l)) (λ e. omega arith)) (λ k h. absurd h) (λ k h. absurd h) (λ k is h. absurd (fit.5.1 (is ∙ ap ahead (sym (subst (Holds k) led_c h))))) (level_same stands n stands.piped r.two (stands.given r.handled) (stands.given (r.handled ++ more)) (subst (λ (z : List (Handling Request Reply)). stands.piped ≡ true → stands.given (z ++ more) ≡ stands.given z) fit.4.3 unnumbered)) r.second;
          back = fit.5;
          else_back = λ _ _ _ ok. ok;
          shared_out = shared_more s r c lead.own gs p f.own_by now members f.own_due apart;
          told_else = λ _ _. refl;
          mine = fit.3;
          knows = (
            owed_change r.phase phase' owe owe c gs (λ e x is owed. (put_at r.phase c ph (λ i g. r.phase i ≡ taken c e → g ≡ taken c e) e.by (λ w t. let bad : r.phase e.by ≡ leads lead.own = ap r.phase w ∙ now in absurd (cc)) (λ _ t. t) is, owed))
                (all_owed s r c lead.own gs p f.own_by now members f.own_due apart),
            here,
            own_owed s r c lead.own gs p f.own_by now members f.own_due apart,
            apart,
          );
          others = λ j ne. knows_stays stands n r.line [] r.hand [] r.handled (r.handled ++ more) r.mode open_ r.phase phase' r.due owe j (put_else r.phase c ph j ne)
              (λ h. absurd (ne (sym (subst (Holds j) led_c h))))
              (λ e x is owed. (put_at r.phase c ph (λ i g. r.phase i ≡ taken j e → g ≡ taken j e) e.by (λ w t. let bad : r.phase e.by ≡ leads lead.own = ap r.phase w ∙ now in absurd (cc)) (λ _ t. t) is, else_owed s r c lead.own gs p f.own_by now members f.own_due apart j ne e x is owed))
              (else_due s r c lead.own gs p f.own_by now members f.own_due apart j ne)
              (λ e x is. put_at r.phase c ph (λ i g. r.phase i ≡ dropped j e x → g ≡ dropped j e x) e.by (λ w t. let bad : r.phase e.by ≡ leads lead.own = ap r.phase w ∙ now in absurd (cc)) (λ _ t. t) is);
        } in (
          h' ∷ [],
          gives,
          tt,
          (now_is, ((λ _. (acc.1, refl)), λ miss. absurd (miss hit)), subst (λ (t : List (ℕ × LineSlot Request Reply Log Right)). IsNow stands n now_is (stepped s 0 0 id t (h' ∷ []) gives)) (sym slot) moved_to),
          λ c' lead' mine' gs' p' l' mid' group' slot'.
              let e = one_hold c c' (Leading lead) (Leading lead') mine mine' me.0 mid mid' in
              let le : lead ≡ lead' = one_lead lead lead' e.1 in
              let t = same_group c c' p p' gs gs' [] [] (group ∙ (ap (λ (z : Lead Request Reply). z.taken) le ∙ sym group')) (ap others_of (sym slot ∙ slot')) in (
                (λ _. ((λ i. hold (e.0 i) (Settling (debt (t.0 i) (le i).own (t.1 i))) (e.2 i) ∷ []), ap (λ z. carried_after z gives) slot')),
                λ miss. absurd (miss hit),
              ),
        )

  pub leaves_is : (slots id : ℕ) (me : Sat Request Reply Log Right) (c old : ℕ) (lead : Lead Request Reply) (mine : List (Request × Reply)) (gs : List (QueuedWriter Request × Reply)) (p : Reply) (l : Log) (said : Option (LineSlot Request Reply Log Right)) → At c (Leading lead) mine me → heads gs ≡ lead.taken
      → me.1 ≡ (0, TheLog l) ∷ slots_of gs ((c, Told p) ∷ []) → old ≡ newest (in_hand lead) → lead.taken ≡ lead.group → stands.logs l (lead.seen ++ all_answers lead.own p gs) → (stands.piped ≡ true → stands.given (lead.seen ++ all_answers lead.own p gs) ≡ stands.given lead.seen)
      → StepIs stands n (HappensWhere old (IsExit lead.own p gs)) slots id me 0 (λ y. either (eqb y old) 0 y) (after_leave (step slots 0 old 0 said) me)
  leaves_is slots id me c old lead mine gs p l said mid group slot is_old all stood unnumbered s r long at fits = exchanged (get_or s.words 0 0) old 0 (Goes stands n (HappensWhere old (IsExit lead.own p gs)) s r 0 id me (after_leave (step slots 0 old 0 said) me))
      (λ hit. leaves_last slots id me c old lead mine gs p l said mid group slot is_old all stood unnumbered s r at hit)
      (λ miss.
      let t = walks_now stands n slots id me c lead mine mid s r at long in (
        t.0,
        keeps,
        tt,
        (t.1.0, ((λ hit. absurd (miss hit)), λ _. t.1.1), t.1.2),
        λ c' lead' mine' gs' p' l' mid' group' slot'. let e = one_hold c c' (Leading lead) (Leading lead') mine mine' me.0 mid mid' in (
          (λ hit. absurd (miss hit)),
          λ _. subst (λ (z : ℕ × Lead Request Reply × List (Request × Reply)). Walks slots z.0 z.1 z.2 (get_or s.words 0 0) me (t.0, me.1)) (λ i. (e.0 i, one_lead lead lead' e.1 i, e.2 i)) t.2,
        ),
      ))

  pub leaves : (slots id : ℕ) (me : Sat Request Reply Log Right) (c old : ℕ) (lead : Lead Request Reply) (mine : List (Request × Reply)) (gs : List (QueuedWriter Request × Reply)) (p : Reply) (l : Log) (said : Option (LineSlot Request Reply Log Right)) → At c (Leading lead) mine me → heads gs ≡ lead.taken
      → me.1 ≡ (0, TheLog l) ∷ slots_of gs ((c, Told p) ∷ []) → old ≡ newest (in_hand lead) → lead.taken ≡ lead.group → stands.logs l (lead.seen ++ all_answers lead.own p gs) → (stands.piped ≡ true → stands.given (lead.seen ++ all_answers lead.own p gs) ≡ stands.given lead.seen)
      → Allows (Listed stands n) slots id me 0 (λ y. either (eqb y old) 0 y) (after_leave (step slots 0 old 0 said) me)
  leaves slots id me c old lead mine gs p l said mid group slot is_old all stood unnumbered = allows stands n (HappensWhere old (IsExit lead.own p gs)) slots id me 0 (λ y. either (eqb y old) 0 y) (after_leave (step slots 0 old 0 said) me) (leaves_is slots id me c old lead mine gs p l said mid group slot is_old all stood unnumbered)
