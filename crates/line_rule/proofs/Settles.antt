-- The steps of a leader that has handled its group: that each keeps the rule, and which event it is.
use Rattle.std.proofs.Common.{true, ◌≡◌, ◌≢◌, ℕ, ◌+◌, ◌*◌, ◌<◌, ◌≤◌, List, [], ◌∷◌, ◌++◌, length, get_or, set, refl, sym, ap, ◌∙◌, subst, inl, arith, length-set, append-nil, get_or-set_other, get_or-set_same}
use mathlib.Core.Logic.{dite}
use mathlib.Core.Path.{Path}
use mathlib.Core.Option.{Option, none, some}
use native.Mathlib.Decide.{ℕ_discrete}
use lib.ListN.{get_elem?}
use Rattle.atomic_table.specs.Table.{step, keeps, gives, carried_after, stepped, Allows}
use Rattle.atomic_table.proofs.Lists.{set_here, set_else}
use Rattle.line_rule.specs.declared.view.QueuedWriter.{QueuedWriter}
use Rattle.line_rule.specs.declared.view.Handling.{Handling}
use Rattle.line_rule.specs.declared.view.Lead.{Lead}
use Rattle.line_rule.specs.declared.view.Debt.{Debt}
use Rattle.line_rule.specs.declared.view.LineHold.{LineHold}
use Rattle.line_rule.specs.declared.view.Back.{Back}
use Rattle.line_rule.specs.declared.view.Back.TheVariants.{Away}
use Rattle.line_rule.proofs.Onward.{one_hold_at, taken_with, links_back, within_back, cut_two, cut_back, cut_else, cut_second, Hands, onward_two, second_onward, onward_free, onward_back, onward_else, is_cut_as, onward_second, is_ahead}
use Rattle.line_rule.specs.declared.content.LineSlot.{LineSlot}
use Rattle.line_rule.specs.declared.content.LineSlot.TheVariants.{Empty, Told, TheLog}
use Rattle.line_rule.specs.declared.view.LineStage.{LineStage}
use Rattle.line_rule.specs.declared.view.LineStage.TheVariants.{Stalling, Idle, Preparing, Waiting, Helping, Fresh, Leading, Cutting, Marking, Settling, Collecting}
use Rattle.line_rule.specs.Chain.{state_at, older_at, pack, newest_from, Links, LinksFrom, Absent, Distinct, Within, of, heads, all_answers, handling}
use Rattle.line_rule.specs.Standing.{pause_of, calm, dropped, Phase, idle, linked, chosen, leads, taken, completed, Mode, open_, waits, led, built, cut, marked, base_of, Holds, ahead}
use Rattle.line_rule.specs.Laws.{Laws}
use Rattle.line_rule.specs.Rule.{InChain, Stand, Waits, AllLinked, AllTaken, AllOwed, Knows, hold, InPhase, InMode, Listed, InSecond, hold_at, HasCut, due_untold}
use Rattle.line_rule.specs.Events.{exits, completes, Core, IsOfGroup, grouped, without}
use Rattle.line_rule.specs.SecondList.{second_list_of}
use Rattle.line_rule.specs.Steps.{Lists, Stays, IsExit, IsNext, IsCutAs, IsNow, StepIs, IsComplete}
use Rattle.line_rule.specs.Plays.{Sat, At, in_hand, debt, slots_of, after_complete, after_retire, after_cut_as, after_cut_off, after_wake, AtWith, IsOwnGroup, back_after_cut, back_after_log}
use Rattle.line_rule.proofs.Chains.{put, put_at, put_here, put_else, links_stay, links_same, ends_same, stand_change, linked_change, taken_change, taken_apart, owed_change}
use Rattle.line_rule.proofs.Exits.{group_handled, owing_stays, owing_grows, owing_told, cut_stays}
use Rattle.line_rule.proofs.Accounts.{cuts_now, wakes_now, completes_now}
use Rattle.line_rule.proofs.Moves.{row_stays, mode_stays, knows_stays, knows_else, moved, allows}
use Rattle.line_rule.proofs.Keeps.{second_stays, second_row, put_same, kept_else}
use Rattle.std.proofs.lemmas.List.{append_cancel_right}
use Rattle.line_rule.proofs.Pauses.{queued_out, names_stay, first_calm}
use Rattle.line_rule.proofs.Groups.{distinct_apart, distinct_front, distinct_back, within_front, within_at, linked_at, linked_front, linked_absent, taken_absent, linked_out, absent_append, stand_front, stand_apart, links_cut, newest_cut}
use Rattle.line_rule.proofs.Enters.{one_hold}
use Rattle.line_rule.proofs.Leads.{still_waits, one_lead, lead_in, leader, same_last, middle, snoc, one_leads}
use Rattle.line_rule.proofs.Leaves.{same_group, others_of, due_same, shared_more, own_owed, all_owed, else_owed, else_due, else_row, done_none}

one_linked : {Request Reply : Type 0} (e f : QueuedWriter Request) → Path (Phase Request Reply) (linked e) (linked f) → e ≡ f
one_linked e f is = cc

pub one_taker : {Request Reply : Type 0} (a b : ℕ) (e f : QueuedWriter Request) → Path (Phase Request Reply) (taken a e) (taken b f) → a ≡ b
one_taker a b e f is = cc

module _ {Request Reply : Type 0} where
  abbrev pub debt_in : Debt Request Reply → LineStage Request Reply → Debt Request Reply
  debt_in d Idle = d
  debt_in d (Preparing w) = d
  debt_in d (Waiting q past) = d
  debt_in d (Helping q) = d
  debt_in d (Fresh o n) = d
  debt_in d (Leading l) = d
  debt_in d (Stalling l t) = d
  debt_in d (Cutting l e) = d
  debt_in d (Marking l) = d
  debt_in d (Settling b) = b
  debt_in d Collecting = d

  pub one_debt : (a b : Debt Request Reply) → Path (LineStage Request Reply) (Settling a) (Settling b) → a ≡ b
  one_debt a b e = ap (debt_in a) e

  owed_apart : (phase : ℕ → Phase Request Reply) (due : ℕ → List (Request × Reply)) (m : ℕ) (ph : Phase Request Reply) (c : ℕ) (gs : List (QueuedWriter Request × Reply)) → Absent m (heads gs) → AllOwed phase due c gs → AllOwed (put phase m ph) due c gs
  owed_apart phase due m ph c [] out ok = tt
  owed_apart phase due m ph c (g ∷ gs) out ok = (put_else phase m ph g.0.by out.0 ∙ ok.0, ok.1, owed_apart phase due m ph c gs out.1 ok.2)

module _ {Request Reply Log Right : Type 0} (stands : Laws Request Reply Log Right) (n : ℕ) where
  -- a client whose request is handled is not in the list
  pub handled_out : (homes : List (Option (LineSlot Request Reply Log Right))) (line hand : List (QueuedWriter Request)) (handled : List (Handling Request Reply)) (phase : ℕ → Phase Request Reply) (due : ℕ → List (Request × Reply)) (k : ℕ) (x : Request × Reply)
      → due k ≡ x ∷ [] → ((e : QueuedWriter Request) → phase k ≡ linked e → ⊥) → ((e : QueuedWriter Request) → phase k ≡ chosen e → ⊥) → (mode : Mode Request) → InMode stands n homes line hand handled phase due mode → Absent k line
  handled_out homes line hand handled phase due k x owed no_l no_c open_ ok = subst (Absent k) (sym ok.0) tt
  handled_out homes line hand handled phase due k x owed no_l no_c (waits c) ok =
      subst (Absent k) (sym ok.0.2) (absent_append k ok.0.0 (ok.0.1 ∷ []) (linked_out phase k ok.0.0 no_l ok.0.3) ((λ e. no_c ok.0.1 (ap phase (sym e ∙ ok.0.5) ∙ ok.0.4)), tt))
  handled_out homes line hand handled phase due k x owed no_l no_c (led c) ok =
      subst (Absent k) (sym ok.0.2) (absent_append k ok.0.0 (ok.0.1 ∷ []) (linked_out phase k ok.0.0 no_l ok.0.3) ((λ e. let bad : due k ≡ [] = ap due (sym e ∙ ok.0.5) ∙ ok.2 in absurd (cc)), tt))
  handled_out homes line hand handled phase due k x owed no_l no_c (built c g t) ok =
      subst (Absent k) (sym ok.0.2) (absent_append k ok.0.0 (hand ++ ok.0.1 ∷ []) (queued_out phase due c k ok.0.0 t no_l (λ e _ none_due. absurd (cc)) ok.0.3)
      (absent_append k hand (ok.0.1 ∷ []) (taken_absent phase due c k hand (λ e _ none_due. absurd (cc)) ok.1) ((λ e. let bad : due k ≡ [] = ap due (sym e ∙ ok.0.5) ∙ ok.2 in absurd (cc)), tt)))
  handled_out homes line hand handled phase due k x owed no_l no_c (cut c w) ok =
      subst (Absent k) (sym ok.0.2) (absent_append k ok.0.0 (ok.0.1 ∷ []) (linked_out phase k ok.0.0 no_l ok.0.3) ((λ e. no_l ok.0.1 (ap phase (sym e ∙ ok.0.5) ∙ ok.0.4)), tt))
  handled_out homes line hand handled phase due k x owed no_l no_c (marked c) ok = linked_out phase k line no_l ok.0

  -- a client to which a reply is due doesn't have the log
  pub no_log : (homes : List (Option (LineSlot Request Reply Log Right))) (line hand : List (QueuedWriter Request)) (handled : List (Handling Request Reply)) (phase : ℕ → Phase Request Reply) (due : ℕ → List (Request × Reply)) (k : ℕ) (y : Request × Reply) → due k ≡ y ∷ [] → (mode : Mode Request) → InMode stands n homes line hand handled phase due mode → Holds k mode → ⊥
  no_log homes line hand handled phase due k y owed open_ ok h = h
  no_log homes line hand handled phase due k y owed (waits c) ok h = h
  no_log homes line hand handled phase due k y owed (led c) ok h = let nil : due k ≡ [] = ap due (sym h) ∙ ok.2 in absurd (cc)
  no_log homes line hand handled phase due k y owed (built c g t) ok h = let nil : due k ≡ [] = ap due (sym h) ∙ ok.2 in absurd (cc)
  no_log homes line hand handled phase due k y owed (cut c w) ok h = let nil : due k ≡ [] = ap due (sym h) ∙ ok.2 in absurd (cc)
  no_log homes line hand handled phase due k y owed (marked c) ok h = let nil : due k ≡ [] = ap due (sym h) ∙ ok.3 in absurd (cc)

  pub tells_is : (slots id : ℕ) (me : Sat Request Reply Log Right) (c k : ℕ) (g : QueuedWriter Request × Reply) (gs : List (QueuedWriter Request × Reply)) (o : QueuedWriter Request) (p : Reply) (mine : List (Request × Reply)) (t : List (ℕ × LineSlot Request Reply Log Right)) → At c (Settling (debt (g ∷ gs) o p)) mine me → me.1 ≡ (g.0.by, Told g.1) ∷ t → k ≡ state_at g.0.by
      → (0 < g.0.by) × (g.0.by ≤ n) → StepIs stands n (λ _. IsComplete g.0 g.1) slots id me k (λ _. 16) (λ _. after_complete (step slots k 16 0 none) me 16)
  tells_is slots id me c k g gs o p mine t mid slot is range s r long at fits =
      let h : LineHold Request Reply = hold c (Settling (debt (g ∷ gs) o p)) mine in
      let at' : get_elem? s.views id ≡ some (h ∷ []) = at ∙ ap some mid in
      let fit = (r.seats id (h ∷ []) at').0 in
      let m : ℕ = g.0.by in
      let lo : 0 < m = range.0 in
      let hi : m ≤ n = range.1 in
      let now : r.phase m ≡ taken c g.0 = fit.4.0.0 in
      let owed : r.due m ≡ (g.0.asked, g.1) ∷ [] = fit.4.0.1 in
      let leads_c : r.phase c ≡ leads o = fit.4.1 in
      let wide : length s.words ≡ 2 * n + 4 = r.wide in
      let many : length s.homes ≡ n + 2 = r.many in
      let ws : List ℕ = set s.words k 16 in
      let hs = set s.homes m (some (Told g.1)) in
      let h' : LineHold Request Reply = hold c (Settling (debt gs o p)) mine in
      let same : (j : ℕ) → j ≢ k → get_or ws j 0 ≡ get_or s.words j 0 = λ j ne. get_or-set_other s.words k j 16 0 (λ e. ne (omega arith)) in
      let ph : Phase Request Reply = completed g.0.asked g.1 in
      let phase' : ℕ → Phase Request Reply = put r.phase m ph in
      let here : phase' m ≡ ph = put_here r.phase m ph in
      let out : Absent m r.line = handled_out s.homes r.line r.hand r.handled r.phase r.due m (g.0.asked, g.1) owed (λ e bad. absurd (cc)) (λ e bad. absurd (cc)) r.mode r.log_is in
      let other : c ≢ m = λ e. let bad : r.phase m ≡ leads o = ap r.phase (sym e) ∙ leads_c in absurd (cc) in
      let acc = completes_now stands.bound r.line r.handled r.mode r.account (handling g.0 g.1) (r.owing_is m ∙ (ap (λ f. due_untold f (r.due m)) now ∙ owed)) in
      let now_is : Lists Request Reply = ((acc.0.queue, acc.0.log, r.handled, acc.0.owing), second_list_of r.two) in
      let after : IsNow stands n now_is (record { words = ws; homes = hs; views = set s.views id (h' ∷ []) }) =
      moved stands n s r m id ws hs h h' r.line r.hand r.handled r.mode ph r.due r.told r.two record {
        at = at';
        real = lo;
        same_client = refl;
        wide = length-set s.words k 16;
        many = length-set s.homes m (some (Told g.1));
        newest_is = names_stay s.words ws (newest_from (base_of r.mode) r.line) (pause_of r.mode) (same 0 (λ e. omega arith)) (same 3 (λ e. omega arith)) r.newest_is;
        links = links_same (base_of r.mode) s.words ws r.line (λ j. same (older_at j) (λ e. omega arith)) r.links;
        distinct = r.distinct;
        within = r.within;
        stand = stand_apart r.phase m ph r.line out r.stand;
        other_rows = λ j ne lo' _. row_stays stands n s.words ws s.homes hs j (r.due j) (same (state_at j) (λ e. ne (omega arith))) (same (older_at j) (λ e. omega arith)) (set_else s.homes m j (some (Told g.1)) ne) (r.phase j);
        row = (ap (λ (i : ℕ). get_or ws i 0) (sym is) ∙ get_or-set_same s.words k 16 0 (omega arith), set_here s.homes m (some (Told g.1)) (omega arith), owed);
        log_is = mode_stays stands n s.homes hs r.line r.hand r.handled r.phase r.due r.due m ph (set_else s.homes m 0 (some (Told g.1)) (λ e. omega arith)) (λ e bad. absurd (cc)) (λ j e _ bad _. absurd (cc)) (λ e bad. absurd (cc))
            (λ l ok. taken_apart r.phase r.due r.due m ph l r.hand (taken_absent r.phase r.due l m r.hand (λ e _ none_due. absurd (cc)) ok) (λ _ _. refl) ok) (λ l e bad. absurd (cc)) (λ _ e. e) r.mode r.log_is;
        one_chosen = λ j e. put_at r.phase m ph (λ i f. f ≡ chosen e → r.mode ≡ waits i) j (λ _ bad. absurd (cc)) (λ _ ok. r.one_chosen j e ok);
        kept = r.kept;
        coded = λ e is. absurd is;
        account = acc.0;
        goes_on = (completes (handling g.0 g.1) ∷ [], acc.2);
        recalls = tt;
        has_cut = cut_stays r.account.log acc.0.log r.hand r.phase m ph (ap (λ (y : Core Request Reply). y.1) acc.1.1) r.mode (λ _ e bad. absurd (cc)) r.has_cut;
        owing_is = owing_told r.phase r.due r.account.owing r.owing_is acc.0.owing r.due m ph (ap (λ (y : Core Request Reply). y.3) acc.1.1) refl (λ _ _. refl);
        second = second_row stands n s.words ws s.homes hs r.phase m ph r.mode (stands.given r.handled) r.two (λ there. subst (InSecond r.two.place m) now there fit.5.0) (same 1 (λ e. omega arith)) (λ j _. same (older_at j) (λ e. omega arith)) (λ j ne. same (state_at j) (λ e. ne (omega arith))) (λ four. let told16 : get_or ws (state_at m) 0 ≡ 16 = ap (λ (i : ℕ). get_or ws i 0) (sym is) ∙ get_or-set_same s.words k 16 0 (omega arith) in absurd (omega arith)) (set_else s.homes m (n + 1) (some (Told g.1)) (λ e. omega arith)) r.second;
        back = fit.5;
        else_back = λ _ _ _ ok. ok;
        shared_out = r.shared_out;
        told_else = λ _ _. refl;
        mine = fit.3;
        knows = (owed_apart r.phase r.due m ph c gs fit.4.3.0 fit.4.0.2, put_else r.phase m ph c other ∙ leads_c, fit.4.2, fit.4.3.1);
        others = λ j ne. dite (ℕ_discrete j m)
            (λ e. subst (λ (i : ℕ). (st : LineStage Request Reply) → Knows r.line r.hand r.handled r.mode r.phase r.due i st → Knows r.line r.hand r.handled r.mode phase' r.due i st) (sym e)
            (still_waits r.line r.line r.hand r.hand r.handled r.handled r.mode r.mode r.phase phase' r.due r.due m (taken c g.0) now tt (λ u w. subst (Waits u) (sym here) w) (λ _ o. o)))
            (λ away. knows_else stands n r.line r.line r.hand r.handled r.mode r.mode r.phase r.due r.due m ph j away (ends_same r.line) (λ _. refl) (λ e bad. absurd (cc))
            (λ e bad. let two : Path (Phase Request Reply) (taken j e) (taken c g.0) = sym bad ∙ now in absurd (ne (one_taker j c e g.0 two))) (λ _ _. refl) (λ e x bad. absurd (cc)));
      } in (
        h' ∷ [],
        gives,
        tt,
        (now_is, (acc.1, refl), subst (λ (l : List (ℕ × LineSlot Request Reply Log Right)). IsNow stands n now_is (stepped s k 16 id l (h' ∷ []) gives)) (sym slot) after),
        λ c' g' gs' o' p' mine' mid'.
            let e = one_hold c c' (Settling (debt (g ∷ gs) o p)) (Settling (debt (g' ∷ gs') o' p')) mine mine' me.0 mid mid' in
            let d = one_debt (debt (g ∷ gs) o p) (debt (g' ∷ gs') o' p') e.1 in
            ((λ i. hold (e.0 i) (Settling (debt (others_of (d i).rest) (d i).own (d i).reply)) (e.2 i) ∷ []), refl),
      )

  pub tells : (slots id : ℕ) (me : Sat Request Reply Log Right) (c k : ℕ) (g : QueuedWriter Request × Reply) (gs : List (QueuedWriter Request × Reply)) (o : QueuedWriter Request) (p : Reply) (mine : List (Request × Reply)) (t : List (ℕ × LineSlot Request Reply Log Right)) → At c (Settling (debt (g ∷ gs) o p)) mine me → me.1 ≡ (g.0.by, Told g.1) ∷ t → k ≡ state_at g.0.by
      → (0 < g.0.by) × (g.0.by ≤ n) → Allows (Listed stands n) slots id me k (λ _. 16) (λ _. after_complete (step slots k 16 0 none) me 16)
  tells slots id me c k g gs o p mine t mid slot is range = allows stands n (λ _. IsComplete g.0 g.1) slots id me k (λ _. 16) (λ _. after_complete (step slots k 16 0 none) me 16) (tells_is slots id me c k g gs o p mine t mid slot is range)

  pub retires_is : (slots id : ℕ) (me : Sat Request Reply Log Right) (c k : ℕ) (o : QueuedWriter Request) (p : Reply) (mine : List (Request × Reply)) → At c (Settling (debt [] o p)) mine me → me.1 ≡ (c, Empty) ∷ [] → k ≡ state_at c
      → StepIs stands n (λ _. IsComplete o p) slots id me k (λ _. 16) (λ _. after_retire (step slots k 16 0 none) me 16)
  retires_is slots id me c k o p mine mid slot is s r long at fits =
      let h : LineHold Request Reply = hold c (Settling (debt [] o p)) mine in
      let at' : get_elem? s.views id ≡ some (h ∷ []) = at ∙ ap some mid in
      let fit = (r.seats id (h ∷ []) at').0 in
      let lo : 0 < c = fit.1 in
      let hi : c ≤ n = fit.2 in
      let now : r.phase c ≡ leads o = fit.4.1 in
      let owed : r.due c ≡ (o.asked, p) ∷ [] = fit.4.2 in
      let wide : length s.words ≡ 2 * n + 4 = r.wide in
      let many : length s.homes ≡ n + 2 = r.many in
      let got : List (Request × Reply) = mine ++ (o.asked, p) ∷ [] in
      let ws : List ℕ = set s.words k 16 in
      let hs = set s.homes c (some Empty) in
      let h' : LineHold Request Reply = hold c Idle got in
      let same : (j : ℕ) → j ≢ k → get_or ws j 0 ≡ get_or s.words j 0 = λ j ne. get_or-set_other s.words k j 16 0 (λ e. ne (omega arith)) in
      let ph : Phase Request Reply = idle in
      let phase' : ℕ → Phase Request Reply = put r.phase c ph in
      let here : phase' c ≡ ph = put_here r.phase c ph in
      let due : ℕ → List (Request × Reply) = put r.due c [] in
      let told : ℕ → List (Request × Reply) = put r.told c got in
      let none_due : due c ≡ [] = put_here r.due c [] in
      let told_is : told c ≡ got = put_here r.told c got in
      let due_else : (j : ℕ) → j ≢ c → due j ≡ r.due j = λ j ne. put_else r.due c [] j ne in
      let out : Absent c r.line = handled_out s.homes r.line r.hand r.handled r.phase r.due c (o.asked, p) owed (λ e bad. absurd (cc)) (λ e bad. absurd (cc)) r.mode r.log_is in
      let shares : r.told c ++ r.due c ≡ told c ++ due c = (λ i. sym fit.3 i ++ owed i) ∙ (sym (append-nil got) ∙ (λ i. sym told_is i ++ sym none_due i)) in
      let by_c : o.by ≡ c = subst (InPhase stands s.words s.homes c (r.due c)) now (r.rows c lo hi) in
      let acc = completes_now stands.bound r.line r.handled r.mode r.account (handling o p) (ap (λ (j : ℕ). of j r.account.owing) by_c ∙ (r.owing_is c ∙ (ap (λ f. due_untold f (r.due c)) now ∙ owed))) in
      let now_is : Lists Request Reply = ((acc.0.queue, acc.0.log, r.handled, acc.0.owing), second_list_of r.two) in
      let after : IsNow stands n now_is (record { words = ws; homes = hs; views = set s.views id (h' ∷ []) }) =
      moved stands n s r c id ws hs h h' r.line r.hand r.handled r.mode ph due told r.two record {
        at = at';
        real = fit.1;
        same_client = refl;
        wide = length-set s.words k 16;
        many = length-set s.homes c (some Empty);
        newest_is = names_stay s.words ws (newest_from (base_of r.mode) r.line) (pause_of r.mode) (same 0 (λ e. omega arith)) (same 3 (λ e. omega arith)) r.newest_is;
        links = links_same (base_of r.mode) s.words ws r.line (λ j. same (older_at j) (λ e. omega arith)) r.links;
        distinct = r.distinct;
        within = r.within;
        stand = stand_apart r.phase c ph r.line out r.stand;
        other_rows = λ j ne lo' _ ok. row_stays stands n s.words ws s.homes hs j (due j) (same (state_at j) (λ e. ne (omega arith))) (same (older_at j) (λ e. omega arith)) (set_else s.homes c j (some Empty) ne) (r.phase j)
            (subst (λ (d : List (Request × Reply)). InPhase stands s.words s.homes j d (r.phase j)) (sym (due_else j ne)) ok);
        row = (set_here s.homes c (some Empty) (omega arith), none_due);
        log_is = mode_stays stands n s.homes hs r.line r.hand r.handled r.phase r.due due c ph (set_else s.homes c 0 (some Empty) (λ e. omega arith)) (λ e bad. absurd (cc)) (λ j e is_c bad nil. let two : r.due c ≡ [] = ap r.due (sym is_c) ∙ nil in absurd (cc)) (λ e bad. absurd (cc))
            (λ l ok. taken_apart r.phase r.due due c ph l r.hand (taken_absent r.phase r.due l c r.hand (λ e _ nil. absurd (cc)) ok) due_else ok) (λ l e bad. absurd (cc))
            (λ j e. put_at r.due c [] (λ i d. r.due i ≡ [] → d ≡ []) j (λ _ _. refl) (λ _ z. z) e) r.mode r.log_is;
        one_chosen = λ j e. put_at r.phase c ph (λ i f. f ≡ chosen e → r.mode ≡ waits i) j (λ _ bad. absurd (cc)) (λ _ ok. r.one_chosen j e ok);
        kept = r.kept;
        coded = λ e is. absurd is;
        account = acc.0;
        goes_on = (completes (handling o p) ∷ [], acc.2);
        recalls = tt;
        has_cut = cut_stays r.account.log acc.0.log r.hand r.phase c ph (ap (λ (y : Core Request Reply). y.1) acc.1.1) r.mode (λ held e bad. absurd (no_log s.homes r.line r.hand r.handled r.phase r.due c (o.asked, p) owed r.mode r.log_is held)) r.has_cut;
        owing_is = owing_told r.phase r.due r.account.owing r.owing_is acc.0.owing due c ph (ap (λ (y : Core Request Reply). y.3) acc.1.1 ∙ ap (λ (j : ℕ). without j r.account.owing) by_c) none_due due_else;
        second = second_row stands n s.words ws s.homes hs r.phase c ph r.mode (stands.given r.handled) r.two (λ there. subst (InSecond r.two.place c) now there fit.5.0) (same 1 (λ e. omega arith)) (λ j _. same (older_at j) (λ e. omega arith)) (λ j ne. same (state_at j) (λ e. ne (omega arith))) (λ four. let told16 : get_or ws (state_at c) 0 ≡ 16 = ap (λ (i : ℕ). get_or ws i 0) (sym is) ∙ get_or-set_same s.words k 16 0 (omega arith) in absurd (omega arith)) (set_else s.homes c (n + 1) (some Empty) (λ e. omega arith)) r.second;
        back = fit.5;
        else_back = λ _ _ _ ok. ok;
        shared_out = λ j. dite (ℕ_discrete j c)
            (λ e. subst (λ (i : ℕ). of i r.handled ≡ told i ++ due i) (sym e) (r.shared_out c ∙ shares))
            (λ ne. r.shared_out j ∙ (ap (λ (l : List (Request × Reply)). l ++ r.due j) (sym (put_else r.told c got j ne)) ∙ ap (λ (l : List (Request × Reply)). told j ++ l) (sym (due_else j ne))));
        told_else = λ j ne. put_else r.told c got j ne;
        mine = sym told_is;
        knows = here;
        others = λ j ne. knows_else stands n r.line r.line r.hand r.handled r.mode r.mode r.phase r.due due c ph j ne (ends_same r.line) (λ _. refl) (λ e bad. absurd (cc)) (λ e bad. absurd (cc)) due_else (λ e x bad. absurd (cc));
      } in (
        h' ∷ [],
        gives,
        tt,
        (now_is, (acc.1, refl), subst (λ (l : List (ℕ × LineSlot Request Reply Log Right)). IsNow stands n now_is (stepped s k 16 id l (h' ∷ []) gives)) (sym slot) after),
        λ c' o' p' mine' mid'.
            let e = one_hold c c' (Settling (debt [] o p)) (Settling (debt [] o' p')) mine mine' me.0 mid mid' in
            let d = one_debt (debt [] o p) (debt [] o' p') e.1 in
            ((λ i. hold (e.0 i) Idle (e.2 i ++ ((d i).own.asked, (d i).reply) ∷ []) ∷ []), refl),
      )

  pub retires : (slots id : ℕ) (me : Sat Request Reply Log Right) (c k : ℕ) (o : QueuedWriter Request) (p : Reply) (mine : List (Request × Reply)) → At c (Settling (debt [] o p)) mine me → me.1 ≡ (c, Empty) ∷ [] → k ≡ state_at c
      → Allows (Listed stands n) slots id me k (λ _. 16) (λ _. after_retire (step slots k 16 0 none) me 16)
  retires slots id me c k o p mine mid slot is = allows stands n (λ _. IsComplete o p) slots id me k (λ _. 16) (λ _. after_retire (step slots k 16 0 none) me 16) (retires_is slots id me c k o p mine mid slot is)

  pub cuts_as_is : (ch : Option (List (Handling Request Reply))) (slots id : ℕ) (me : Sat Request Reply Log Right) (c k new : ℕ) (lead : Lead Request Reply) (mine : List (Request × Reply)) (pre : List (QueuedWriter Request)) (x : QueuedWriter Request) → At c (Leading lead) mine me → lead.walk ≡ pre ++ x ∷ in_hand lead → k ≡ older_at x.by → new ≡ pack 0 x.code → lead.taken ≡ lead.group
      → StepIs stands n (λ _. IsCutAs ch c lead) slots id me k (λ _. new) (λ _. after_cut_as ch (step slots k new 0 none) me new)
  cuts_as_is ch slots id me c k new lead mine pre x mid is_walk is_word cleared all s r long at fits =
      let h : LineHold Request Reply = hold c (Leading lead) mine in
      let at' : get_elem? s.views id ≡ some (h ∷ []) = at ∙ ap some mid in
      let fit = (r.seats id (h ∷ []) at').0 in
      let f = leader stands n s r c lead fit.1 fit.2 fit.4 in
      let H : List (QueuedWriter Request) = in_hand lead in
      let ends = fit.4.2 in
      let q : List (QueuedWriter Request) = ends.0 ++ pre in
      let parts : r.line ≡ q ++ x ∷ H = ends.1 ∙ (ap (λ l. ends.0 ++ l) is_walk ∙ sym (middle ends.0 pre x H)) in
      let split : r.line ≡ (q ++ x ∷ []) ++ H = parts ∙ sym (snoc q x H) in
      let is_queue : f.queue ≡ q ++ x ∷ [] = append_cancel_right f.queue (q ++ x ∷ []) H (sym f.parts ∙ split) in
      let queued : AllLinked r.phase (q ++ x ∷ []) = subst (AllLinked r.phase) is_queue f.queued in
      let now_x : r.phase x.by ≡ linked x = linked_at r.phase q x [] queued in
      let range = within_at n q x H (subst (Within n) parts r.within) in
      let lo : 0 < x.by = range.0 in
      let hi : x.by ≤ n = range.1 in
      let whole : Distinct (q ++ x ∷ H) = subst Distinct parts r.distinct in
      let apart : Absent x.by q = distinct_apart q x H whole in
      let led_c : r.mode ≡ built c lead.group calm = fit.4.0 in
      let now : r.phase c ≡ leads lead.own = fit.4.1 in
      let other : x.by ≢ c = λ e. let bad : r.phase x.by ≡ leads lead.own = ap r.phase e ∙ now in absurd (cc) in
      let wide : length s.words ≡ 2 * n + 4 = r.wide in
      let ws : List ℕ = set s.words k new in
      let same : (j : ℕ) → j ≢ k → get_or ws j 0 ≡ get_or s.words j 0 = λ j ne. get_or-set_other s.words k j new 0 (λ e. ne (omega arith)) in
      let ph : Phase Request Reply = leads lead.own in
      let phase' : ℕ → Phase Request Reply = put r.phase c ph in
      let here : phase' c ≡ ph = put_here r.phase c ph in
      let line : List (QueuedWriter Request) = q ++ x ∷ [] in
      let h' : LineHold Request Reply = hold_at c (Cutting lead x) mine (back_after_cut ch lead) in
      let hand_apart : Distinct r.hand = subst Distinct fit.4.4 (distinct_front lead.taken (lead.own ∷ []) (distinct_back (q ++ x ∷ []) H (subst Distinct split r.distinct))) in
      let out_x : Absent x.by H = absent_append x.by lead.taken (lead.own ∷ []) (taken_absent r.phase r.due c x.by lead.taken (λ e bad _. absurd (cc)) f.members) ((λ e. other (sym e ∙ f.own_by)), tt) in
      let same_older : (j : ℕ) → j ≢ x.by → get_or ws (older_at j) 0 ≡ get_or s.words (older_at j) 0 = λ j ne. same (older_at j) (λ e. ne (omega arith)) in
      let row_x : InPhase stands ws s.homes x.by (r.due x.by) (r.phase x.by) =
      let w = subst (InPhase stands s.words s.homes x.by (r.due x.by)) now_x (r.rows x.by lo hi) in
      subst (InPhase stands ws s.homes x.by (r.due x.by)) (sym now_x) (w.0, same (state_at x.by) (λ e. omega arith) ∙ w.1, w.2, w.3) in
      let acc = cuts_now stands.bound r.line r.handled r.mode r.account c x.by lead.group lead.own (q ++ x ∷ []) led_c (split ∙ (λ i. (q ++ x ∷ []) ++ (all i ++ lead.own ∷ []))) in (
        h' ∷ [],
        keeps,
        tt,
        (
          ((acc.0.queue, acc.0.log, r.handled, acc.0.owing), second_list_of (cut_two ch r.two c lead)),
          is_cut_as ch r.two c lead _ _ acc.1 (sym (ap (λ (y : Core Request Reply). y.1) acc.1) ∙ (acc.2 ∙ ap (grouped lead.own) (sym all))) fit.5.0 f.own_by,
          moved stands n s r c id ws s.homes h h' line r.hand r.handled (cut c x.by) ph r.due r.told (cut_two ch r.two c lead) record {
            at = at';
            real = fit.1;
            same_client = refl;
            wide = length-set s.words k new;
            many = refl;
            newest_is = same 0 (λ e. omega arith) ∙ (f.first ∙ ((λ i. newest_from (f.base i) (parts i)) ∙ newest_cut q x H));
            links = links_cut s.words ws q x H same_older (ap (λ (j : ℕ). get_or ws j 0) (sym is_word) ∙ (get_or-set_same s.words k new 0 (omega arith) ∙ cleared)) apart (subst (Links s.words) parts (subst (λ b. LinksFrom b s.words r.line) f.base r.links));
            distinct = distinct_front (q ++ x ∷ []) H (subst Distinct split r.distinct);
            within = within_front n (q ++ x ∷ []) H (subst (Within n) split r.within);
            stand = stand_change r.phase c ph line (λ e is_in. subst (InChain e) now is_in) (stand_front r.phase line H (subst (Stand r.phase) split r.stand));
            other_rows = λ j ne lo' hi' ok. dite (ℕ_discrete j x.by)
                (λ e. subst (λ (i : ℕ). InPhase stands ws s.homes i (r.due i) (r.phase i)) (sym e) row_x)
                (λ away. row_stays stands n s.words ws s.homes s.homes j (r.due j) (same (state_at j) (λ e. omega arith)) (same_older j away) refl (r.phase j) ok);
            row = f.own_by;
            log_is = (
              (q, x, refl, linked_change r.phase c ph q (λ e bad. absurd (cc)) (linked_front r.phase q (x ∷ []) queued), put_else r.phase c ph x.by other ∙ now_x, refl),
              taken_change r.phase r.due r.due c ph c r.hand (λ e bad. absurd (cc)) (λ _ _. refl) (subst (AllTaken r.phase r.due c) fit.4.4 f.members),
              f.own_due,
              hand_apart,
            );
            one_chosen = λ j e. put_at r.phase c ph (λ i g. g ≡ chosen e → Path (Mode Request) (cut c x.by) (waits i)) j (λ _ bad. absurd (cc)) (λ _ ok. let was : r.mode ≡ waits j = r.one_chosen j e ok in absurd (cc));
            kept = r.kept;
            coded = λ e is. r.coded c e (subst (InChain e) (sym now) is);
            account = acc.0;
            goes_on = ([], acc.3);
            recalls = tt;
            has_cut = (lead.own, f.own_by, here, acc.2 ∙ ap (grouped lead.own) (sym all ∙ fit.4.4));
            owing_is = owing_stays r.phase r.due r.account.owing r.owing_is acc.0.owing r.due c ph (ap (λ (y : Core Request Reply). y.3) acc.1) (ap (λ f. due_untold f (r.due c)) (sym now)) (λ _ _. refl);
            second = cut_second stands n ch ws s.homes phase' (cut c x.by) (stands.given r.handled) r.two c lead (
                second_stays stands n s.words ws s.homes s.homes r.phase phase' r.mode (cut c x.by) (stands.given r.handled) (stands.given r.handled) r.two (same 1 (λ e. omega arith)) (λ j there. (same_older j (λ e. subst (InSecond r.two.place x.by) now_x (subst (λ (i : ℕ). InSecond r.two.place i (r.phase i)) e there)), (λ _ _. same (state_at j) (λ e. omega arith)), put_same r.phase c ph now j)) (λ j e. sym (same (state_at j) (λ e. omega arith)) ∙ e) refl (λ j h. absurd h) (λ j h. inl (subst (Holds j) (sym led_c) h)) (λ j _ h. subst (Holds j) led_c h) (λ v. v) r.second
                ) fit.5.0 f.own_by here (taken_with phase' r.due c lead.taken (taken_change r.phase r.due r.due c ph c lead.taken (λ e bad. absurd (cc)) (λ _ _. refl) f.members))
                (links_stay 0 s.words ws x.by H same_older out_x (links_back s.words (q ++ x ∷ []) H (subst (Links s.words) split (subst (λ b. LinksFrom b s.words r.line) f.base r.links))))
                (distinct_back (q ++ x ∷ []) H (subst Distinct split r.distinct)) (within_back n (q ++ x ∷ []) H (subst (Within n) split r.within)) (λ h. h);
            back = cut_back ch r.two c lead fit.5;
            else_back = cut_else ch r.two c lead;
            shared_out = r.shared_out;
            told_else = λ _ _. refl;
            mine = fit.3;
            knows = (refl, here, put_else r.phase c ph x.by other ∙ now_x, fit.4.3, fit.4.4);
            others = λ j ne. knows_stays stands n r.line line r.hand r.hand r.handled r.handled r.mode (cut c x.by) r.phase phase' r.due r.due j (put_else r.phase c ph j ne)
                (λ h. absurd (ne (sym (subst (Holds j) led_c h))))
                (λ e y is owed. (put_at r.phase c ph (λ i g. r.phase i ≡ taken j e → g ≡ taken j e) e.by (λ w t. let bad : r.phase e.by ≡ leads lead.own = ap r.phase w ∙ now in absurd (cc)) (λ _ t. t) is, owed))
                (λ y owed. owed)
                (λ e y is. put_at r.phase c ph (λ i g. r.phase i ≡ dropped j e y → g ≡ dropped j e y) e.by (λ w t. let bad : r.phase e.by ≡ leads lead.own = ap r.phase w ∙ now in absurd (cc)) (λ _ t. t) is);
          },
        ),
        λ c' lead' mine' pre' x' mid' is_walk' is_word'.
            let e = one_hold c c' (Leading lead) (Leading lead') mine mine' me.0 mid mid' in
            let le : lead ≡ lead' = one_lead lead lead' e.1 in
            let two : pre ++ x ∷ H ≡ pre' ++ x' ∷ H = sym is_walk ∙ (ap (λ (l : Lead Request Reply). l.walk) le ∙ (is_walk' ∙ ap (λ (l : Lead Request Reply). pre' ++ x' ∷ in_hand l) (sym le))) in
            let same_x : x ≡ x' = same_last pre pre' x x' (append_cancel_right (pre ++ x ∷ []) (pre' ++ x' ∷ []) H (snoc pre x H ∙ (two ∙ sym (snoc pre' x' H)))) in
            ((λ i. hold_at (e.0 i) (Cutting (le i) (same_x i)) (e.2 i) (back_after_cut ch (le i)) ∷ []), refl),
      )

  pub cuts_is : (slots id : ℕ) (me : Sat Request Reply Log Right) (c k new : ℕ) (lead : Lead Request Reply) (mine : List (Request × Reply)) (pre : List (QueuedWriter Request)) (x : QueuedWriter Request) → At c (Leading lead) mine me → lead.walk ≡ pre ++ x ∷ in_hand lead → k ≡ older_at x.by → new ≡ pack 0 x.code → lead.taken ≡ lead.group
      → StepIs stands n (λ _. Stays) slots id me k (λ _. new) (λ _. after_cut_off (step slots k new 0 none) me new)
  cuts_is = cuts_as_is none

  pub cuts : (slots id : ℕ) (me : Sat Request Reply Log Right) (c k new : ℕ) (lead : Lead Request Reply) (mine : List (Request × Reply)) (pre : List (QueuedWriter Request)) (x : QueuedWriter Request) → At c (Leading lead) mine me → lead.walk ≡ pre ++ x ∷ in_hand lead → k ≡ older_at x.by → new ≡ pack 0 x.code → lead.taken ≡ lead.group
      → Allows (Listed stands n) slots id me k (λ _. new) (λ _. after_cut_off (step slots k new 0 none) me new)
  cuts slots id me c k new lead mine pre x mid is_walk is_word cleared all = allows stands n (λ _. Stays) slots id me k (λ _. new) (λ _. after_cut_off (step slots k new 0 none) me new) (cuts_is slots id me c k new lead mine pre x mid is_walk is_word cleared all)

  pub wakes_on_is : (slots id : ℕ) (me : Sat Request Reply Log Right) (c k : ℕ) (lead : Lead Request Reply) (x : QueuedWriter Request) (mine : List (Request × Reply)) (b : Back Request Reply) (gs : List (QueuedWriter Request × Reply)) (p : Reply) (l : Log) (tail : List (ℕ × LineSlot Request Reply Log Right)) → AtWith c (Cutting lead x) mine b me → heads gs ≡ lead.taken
      → me.1 ≡ (0, TheLog l) ∷ slots_of gs ((c, Told p) ∷ tail) → k ≡ state_at x.by → (0 < x.by) × (x.by ≤ n) → stands.logs l (lead.seen ++ all_answers lead.own p gs) → Hands stands n b lead.seen (lead.seen ++ all_answers lead.own p gs) → IsOwnGroup lead.own lead.taken b
      → StepIs stands n (λ _. IsNext b lead.own p gs) slots id me k (λ _. 2) (λ _. after_wake (step slots k 2 0 none) me 2)
  wakes_on_is slots id me c k lead x mine b gs p l tail mid group slot is_word range stood unnumbered own_group s r long at fits =
      let h : LineHold Request Reply = hold_at c (Cutting lead x) mine b in
      let at' : get_elem? s.views id ≡ some (h ∷ []) = at ∙ ap some mid in
      let fit = (r.seats id (h ∷ []) at').0 in
      let lo : 0 < x.by = range.0 in
      let hi : x.by ≤ n = range.1 in
      let cut_c : r.mode ≡ cut c x.by = fit.4.0 in
      let now : r.phase c ≡ leads lead.own = fit.4.1 in
      let now_x : r.phase x.by ≡ linked x = fit.4.2 in
      let m = subst (InMode stands n s.homes r.line r.hand r.handled r.phase r.due) cut_c r.log_is in
      let by_c : lead.own.by ≡ c = subst (InPhase stands s.words s.homes c (r.due c)) now (r.rows c fit.1 fit.2) in
      let hand_is : r.hand ≡ heads gs = sym (group ∙ fit.4.4) in
      let members : AllTaken r.phase r.due c (heads gs) = subst (AllTaken r.phase r.due c) hand_is m.1 in
      let apart : Distinct (heads gs) = subst Distinct hand_is m.3 in
      let same_e : m.0.1 ≡ x = one_linked m.0.1 x (sym m.0.4 ∙ now_x) in
      let row = subst (InPhase stands s.words s.homes x.by (r.due x.by)) now_x (r.rows x.by lo hi) in
      let other : c ≢ x.by = λ e. let bad : r.phase x.by ≡ leads lead.own = ap r.phase (sym e) ∙ now in absurd (cc) in
      let wide : length s.words ≡ 2 * n + 4 = r.wide in
      let many : length s.homes ≡ n + 2 = r.many in
      let ws : List ℕ = set s.words k 2 in
      let hs = set s.homes 0 (some (TheLog l)) in
      let same : (j : ℕ) → j ≢ k → get_or ws j 0 ≡ get_or s.words j 0 = λ j ne. get_or-set_other s.words k j 2 0 (λ e. ne (omega arith)) in
      let ph : Phase Request Reply = chosen x in
      let phase' : ℕ → Phase Request Reply = put r.phase x.by ph in
      let here : phase' x.by ≡ ph = put_here r.phase x.by ph in
      let more : List (Handling Request Reply) = all_answers lead.own p gs in
      let owe : ℕ → List (Request × Reply) = λ j. r.due j ++ of j more in
      let d : Debt Request Reply = debt gs lead.own p in
      let h' : LineHold Request Reply = hold_at c (Settling d) mine (back_after_log b) in
      let theirs : IsOfGroup lead.own lead.taken more = subst (λ (z : List (QueuedWriter Request)). IsOfGroup lead.own z more) group (group_handled lead.own p gs) in
      let hands : Hands stands n b r.handled (r.handled ++ more) = subst (λ (z : List (Handling Request Reply)). Hands stands n b z (z ++ more)) fit.4.3 unnumbered in
      let two' = onward_two stands n b r.two in
      let no_x : (j : ℕ) (e : QueuedWriter Request) → e.by ≡ x.by → r.phase e.by ≡ taken j e → ⊥ = λ j e is t. let bad : r.phase e.by ≡ linked x = ap r.phase is ∙ now_x in absurd (cc) in
      let owe_x : owe x.by ≡ r.due x.by = due_same stands n s r c lead.own gs p by_c now members m.2 apart x.by (λ e. other (sym e)) (λ e bad _. absurd (cc)) in
      let out_x : Absent x.by m.0.0 = distinct_apart m.0.0 x [] (subst Distinct (m.0.2 ∙ (λ i. m.0.0 ++ same_e i ∷ [])) r.distinct) in
      let was_cut = subst (HasCut r.account.log r.hand r.phase) cut_c r.has_cut in
      let same_lead : was_cut.0 ≡ lead.own = one_leads was_cut.0 lead.own (sym was_cut.2 ∙ now) in
      let acc = wakes_now stands.bound r.line r.handled r.mode r.account c x.by lead.own (heads gs) more cut_c (was_cut.3 ∙ (λ i. grouped (same_lead i) (hand_is i))) (group_handled lead.own p gs) in
      let now_is : Lists Request Reply = ((acc.0.queue, acc.0.log, r.handled ++ more, acc.0.owing), second_list_of two') in
      let after : IsNow stands n now_is (record { words = ws; homes = hs; views = set s.views id (h' ∷ []) }) =
      moved stands n s r x.by id ws hs h h' r.line [] (r.handled ++ more) (waits x.by) ph owe r.told two' record {
        at = at';
        real = lo;
        same_client = refl;
        wide = length-set s.words k 2;
        many = length-set s.homes 0 (some (TheLog l));
        newest_is = same 0 (λ e. omega arith) ∙ (first_calm s.words r.line r.mode (cut c x.by) cut_c refl r.newest_is ∙ ap (λ b. newest_from b r.line) (ap base_of cut_c));
        links = links_same 0 s.words ws r.line (λ j. same (older_at j) (λ e. omega arith)) (subst (λ b. LinksFrom b s.words r.line) (ap base_of cut_c) r.links);
        distinct = r.distinct;
        within = r.within;
        stand = stand_change r.phase x.by ph r.line (λ e is_in. subst (InChain e) now_x is_in) r.stand;
        other_rows = λ j ne lo' hi' ok. row_stays stands n s.words ws s.homes hs j (owe j) (same (state_at j) (λ e. ne (omega arith))) (same (older_at j) (λ e. omega arith)) (set_else s.homes 0 j (some (TheLog l)) (λ e. omega arith)) (r.phase j)
            (dite (ℕ_discrete j c)
            (λ e. subst (λ (i : ℕ). InPhase stands s.words s.homes i (owe i) (r.phase i)) (sym e) (subst (InPhase stands s.words s.homes c (owe c)) (sym now) by_c))
            (λ away. else_row stands n s r c lead.own gs p by_c now members m.2 apart s.words s.homes j away ok));
        row = (row.0, ap (λ (j : ℕ). get_or ws j 0) (sym is_word) ∙ get_or-set_same s.words k 2 0 (omega arith), set_else s.homes 0 x.by (some (TheLog l)) (λ e. omega arith) ∙ row.2, owe_x ∙ row.3);
        log_is = (
          (m.0.0, x, m.0.2 ∙ (λ i. m.0.0 ++ same_e i ∷ []), linked_absent r.phase x.by ph m.0.0 out_x m.0.3, here, refl),
          refl,
          (l, set_here s.homes 0 (some (TheLog l)) (omega arith), subst (λ z. stands.logs l (z ++ more)) fit.4.3 stood),
        );
        one_chosen = λ j e. put_at r.phase x.by ph (λ i g. g ≡ chosen e → Path (Mode Request) (waits x.by) (waits i)) j (λ is _. ap waits (sym is)) (λ _ ok. let was : r.mode ≡ waits j = r.one_chosen j e ok in absurd (cc));
        kept = stands.keeps l (r.handled ++ more) (subst (λ z. stands.logs l (z ++ more)) fit.4.3 stood);
        coded = λ e is. r.coded x.by e (subst (InChain e) (sym now_x) is);
        account = acc.0;
        goes_on = (exits more ∷ [], acc.2);
        recalls = tt;
        has_cut = tt;
        owing_is = owing_grows r.phase r.due r.account.owing r.owing_is acc.0.owing more x.by ph (ap (λ (y : Core Request Reply). y.3) acc.1.1) (λ d. ap (λ f. due_untold f d) (sym now_x)) (done_none stands n s r c lead.own gs p by_c now members m.2 apart);
        second = second_stays stands n s.words ws s.homes hs r.phase phase' r.mode (waits x.by) (stands.given (r.handled ++ more)) (stands.given (r.handled ++ more)) two' (same 1 (λ e. omega arith)) (kept_else r.phase two'.place x.by ph s.words ws (λ there. subst (InSecond two'.place x.by) now_x there) (λ j _. same (older_at j) (λ e. omega arith)) (λ j ne. same (state_at j) (λ e. ne (omega arith)))) (λ j four. dite (ℕ_discrete j x.by) (λ e. let two2 : get_or ws (state_at x.by) 0 ≡ 2 = ap (λ (i : ℕ). get_or ws i 0) (sym is_word) ∙ get_or-set_same s.words k 2 0 (omega arith) in let two3 : get_or ws (state_at j) 0 ≡ 2 = ap (λ (i : ℕ). get_or ws (state_at i) 0) e ∙ two2 in absurd (omega arith)) (λ ne. sym (same (state_at j) (λ e. ne (omega arith))) ∙ four)) (set_else s.homes 0 (n + 1) (some (TheLog l)) (λ e. omega arith)) (λ j h. absurd h) (λ j h. absurd h) (λ j is h. absurd (onward_free stands n b r.two c r.handled (r.handled ++ more) fit.5 hands (is ∙ ap ahead (sym (subst (Holds j) cut_c h))))) (λ v. v) (second_onward stands n b s.words s.homes r.phase r.mode r.two c lead.own lead.taken r.handled more fit.5 hands own_group theirs r.second);
        back = onward_back stands n b r.two c r.handled (r.handled ++ more) fit.5 hands;
        else_back = onward_else stands n b r.two c fit.5;
        shared_out = shared_more stands n s r c lead.own gs p by_c now members m.2 apart;
        told_else = λ _ _. refl;
        mine = fit.3;
        knows = (
          owed_change r.phase phase' owe owe c gs (λ e y is owed. (put_at r.phase x.by ph (λ i g. i ≡ e.by → r.phase i ≡ taken c e → g ≡ taken c e) e.by (λ w _ t. absurd (no_x c e w t)) (λ _ _ t. t) refl is, owed))
              (all_owed stands n s r c lead.own gs p by_c now members m.2 apart),
          put_else r.phase x.by ph c other ∙ now,
          own_owed stands n s r c lead.own gs p by_c now members m.2 apart,
          apart,
        );
        others = λ j ne. dite (ℕ_discrete j x.by)
            (λ e. subst (λ (i : ℕ). (st : LineStage Request Reply) → Knows r.line r.hand r.handled r.mode r.phase r.due i st → Knows r.line [] (r.handled ++ more) (waits x.by) phase' owe i st) (sym e)
            (still_waits r.line r.line r.hand [] r.handled (r.handled ++ more) r.mode (waits x.by) r.phase phase' r.due owe x.by (linked x) now_x tt (λ u w. subst (Waits u) (sym here) w) (else_due stands n s r c lead.own gs p by_c now members m.2 apart x.by (λ z. other (sym z)))))
            (λ away. knows_stays stands n r.line r.line r.hand [] r.handled (r.handled ++ more) r.mode (waits x.by) r.phase phase' r.due owe j (put_else r.phase x.by ph j away)
            (λ h. absurd (ne (sym (subst (Holds j) cut_c h))))
            (λ e y is owed. (put_at r.phase x.by ph (λ i g. i ≡ e.by → r.phase i ≡ taken j e → g ≡ taken j e) e.by (λ w _ t. absurd (no_x j e w t)) (λ _ _ t. t) refl is, else_owed stands n s r c lead.own gs p by_c now members m.2 apart j ne e y is owed))
            (else_due stands n s r c lead.own gs p by_c now members m.2 apart j ne)
            (λ e y is. put_at r.phase x.by ph (λ i g. i ≡ e.by → r.phase i ≡ dropped j e y → g ≡ dropped j e y) e.by (λ w _ t. let bad : r.phase e.by ≡ linked x = ap r.phase w ∙ now_x in absurd (cc)) (λ _ _ t. t) refl is));
      } in (
        h' ∷ [],
        gives,
        tt,
        (now_is, (acc.1, onward_second stands n b r.two, is_ahead stands n b r.two c lead.own.by by_c fit.5), subst (λ (t : List (ℕ × LineSlot Request Reply Log Right)). IsNow stands n now_is (stepped s k 2 id t (h' ∷ []) gives)) (sym slot) after),
        λ c' lead' x' mine' b' gs' p' l' tail' mid' group' slot'.
            let e = one_hold_at c c' (Cutting lead x) (Cutting lead' x') mine mine' b b' me.0 mid mid' in
            let le : lead ≡ lead' = ap (lead_in lead) e.1 in
            let t = same_group c c' p p' gs gs' tail tail' (group ∙ (ap (λ (z : Lead Request Reply). z.taken) le ∙ sym group')) (ap others_of (sym slot ∙ slot')) in
            ((λ i. hold_at (e.0 i) (Settling (debt (t.0 i) (le i).own (t.1 i))) (e.2 i) (back_after_log (e.3 i)) ∷ []), ap (λ z. carried_after z gives) slot'),
      )

  pub wakes_is : (slots id : ℕ) (me : Sat Request Reply Log Right) (c k : ℕ) (lead : Lead Request Reply) (x : QueuedWriter Request) (mine : List (Request × Reply)) (gs : List (QueuedWriter Request × Reply)) (p : Reply) (l : Log) → At c (Cutting lead x) mine me → heads gs ≡ lead.taken
      → me.1 ≡ (0, TheLog l) ∷ slots_of gs ((c, Told p) ∷ []) → k ≡ state_at x.by → (0 < x.by) × (x.by ≤ n) → stands.logs l (lead.seen ++ all_answers lead.own p gs) → (stands.piped ≡ true → stands.given (lead.seen ++ all_answers lead.own p gs) ≡ stands.given lead.seen)
      → StepIs stands n (λ _. IsExit lead.own p gs) slots id me k (λ _. 2) (λ _. after_wake (step slots k 2 0 none) me 2)
  wakes_is slots id me c k lead x mine gs p l mid group slot is_word range stood unnumbered s r long at fits =
      let t = wakes_on_is slots id me c k lead x mine Away gs p l [] mid group slot is_word range stood unnumbered tt s r long at fits in
      (t.0, t.1, t.2, (t.3.0, (t.3.1.0, t.3.1.1), t.3.2), t.4)

  pub wakes : (slots id : ℕ) (me : Sat Request Reply Log Right) (c k : ℕ) (lead : Lead Request Reply) (x : QueuedWriter Request) (mine : List (Request × Reply)) (gs : List (QueuedWriter Request × Reply)) (p : Reply) (l : Log) → At c (Cutting lead x) mine me → heads gs ≡ lead.taken
      → me.1 ≡ (0, TheLog l) ∷ slots_of gs ((c, Told p) ∷ []) → k ≡ state_at x.by → (0 < x.by) × (x.by ≤ n) → stands.logs l (lead.seen ++ all_answers lead.own p gs) → (stands.piped ≡ true → stands.given (lead.seen ++ all_answers lead.own p gs) ≡ stands.given lead.seen)
      → Allows (Listed stands n) slots id me k (λ _. 2) (λ _. after_wake (step slots k 2 0 none) me 2)
  wakes slots id me c k lead x mine gs p l mid group slot is_word range stood unnumbered = allows stands n (λ _. IsExit lead.own p gs) slots id me k (λ _. 2) (λ _. after_wake (step slots k 2 0 none) me 2) (wakes_is slots id me c k lead x mine gs p l mid group slot is_word range stood unnumbered)
