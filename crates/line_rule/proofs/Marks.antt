-- The steps with the mark: that each keeps the rule, and which event it is.
use Rattle.std.proofs.Common.{◌≡◌, ◌≢◌, ℕ, ◌+◌, ◌*◌, ◌<◌, ◌≤◌, eqb, List, [], ◌∷◌, ◌++◌, length, get_or, set, refl, sym, ap, ◌∙◌, subst, inl, arith, length-set, get_or-set_other, get_or-set_same}
use mathlib.Core.Logic.{dite}
use mathlib.Core.Path.{Path}
use mathlib.Core.Option.{Option, none, some}
use native.Mathlib.Decide.{ℕ_discrete}
use lib.ListN.{get_elem?}
use lib.Seq.{set-get_or}
use prog.Atomic.{either}
use Rattle.atomic_table.specs.Table.{step, keeps, gives, carried_after, stepped, Allows}
use Rattle.atomic_table.proofs.Lists.{set_here, set_else, exchanged}
use Rattle.line_rule.specs.declared.view.QueuedWriter.{QueuedWriter}
use Rattle.line_rule.specs.declared.view.Handling.{Handling}
use Rattle.line_rule.specs.declared.view.Lead.{Lead}
use Rattle.line_rule.specs.declared.view.Debt.{Debt}
use Rattle.line_rule.specs.declared.view.Squad.{Squad}
use Rattle.line_rule.specs.declared.view.LineHold.{LineHold}
use Rattle.line_rule.specs.declared.view.Back.{Back}
use Rattle.line_rule.specs.declared.view.Back.TheVariants.{Parting}
use Rattle.line_rule.proofs.Onward.{one_hold_at, taken_with, links_back, within_back, parts_two, parts_else, Hands, onward_two, second_onward, onward_free, onward_back, onward_else, is_boundary, onward_second, is_ahead}
use Rattle.line_rule.proofs.Seconds.{second_parts}
use Rattle.line_rule.proofs.Squads.{aim_links}
use Rattle.line_rule.specs.declared.content.LineSlot.{LineSlot}
use Rattle.line_rule.specs.declared.content.LineSlot.TheVariants.{Told, TheLog}
use Rattle.line_rule.specs.declared.view.LineStage.TheVariants.{Leading, Cutting, Marking, Settling}
use Rattle.line_rule.specs.Chain.{state_at, older_at, pack, newest, newest_from, Links, LinksFrom, Absent, Distinct, Within, of, heads, all_answers}
use Rattle.line_rule.specs.Standing.{calm, dropped, Phase, linked, chosen, leads, taken, Mode, open_, waits, built, cut, marked, base_of, Holds, parted, ahead}
use Rattle.line_rule.specs.Laws.{Laws}
use Rattle.line_rule.specs.Rule.{InChain, AllLinked, AllTaken, hold, InPhase, InMode, Listed, InSecond, hold_at, HasCut, due_untold}
use Rattle.line_rule.specs.Events.{exits, Core, IsOfGroup, grouped}
use Rattle.line_rule.specs.SecondList.{second_list_of}
use Rattle.line_rule.specs.Steps.{Lists, Stays, HappensWhere, IsBoundary, IsNext, now_of, IsNow, StepIs}
use Rattle.line_rule.specs.Plays.{Sat, At, lead_with_walk, in_hand, debt, slots_of, Walks, AtWith, IsOwnGroup, squad_at_cut, back_after_log, after_mark, after_free, WalksMarked, after_cut_behind_mark}
use Rattle.line_rule.proofs.Chains.{put, put_at, put_here, put_else, links_same, stand_change, linked_change, taken_change, owed_change}
use Rattle.line_rule.proofs.Exits.{group_handled, owing_stays, owing_grows}
use Rattle.line_rule.proofs.Accounts.{marks_now, frees_now, recuts_now}
use Rattle.line_rule.proofs.Moves.{St, row_stays, knows_stays, reviewed, moved, Goes, allows}
use Rattle.line_rule.proofs.Keeps.{second_stays, second_same, put_same}
use Rattle.line_rule.proofs.Groups.{walk_bound, distinct_apart, distinct_front, distinct_back, within_at, linked_at, linked_front, none_before_group}
use Rattle.line_rule.proofs.Enters.{one_hold}
use Rattle.line_rule.proofs.Leads.{all_below, one_lead, lead_in, leader, walks_now, same_last, middle, one_leads}
use Rattle.line_rule.proofs.Leaves.{same_group, others_of, shared_more, own_owed, all_owed, else_owed, else_due, else_row, done_none}
use Rattle.line_rule.proofs.Pauses.{first_calm}
use Rattle.line_rule.specs.declared.words.TheConstants.{MARK}

module _ {Request Reply Log Right : Type 0} (stands : Laws Request Reply Log Right) (n : ℕ) where
  module _ (from : List (Handling Request Reply)) (slots id : ℕ) (me : Sat Request Reply Log Right) (c old : ℕ) (lead : Lead Request Reply) (mine : List (Request × Reply)) (said : Option (LineSlot Request Reply Log Right)) (mid : At c (Leading lead) mine me) (is_old : old ≡ newest (in_hand lead)) (all : lead.taken ≡ lead.group)
      (s : St stands n) (r : Listed stands n s) (at : get_elem? s.views id ≡ some me.0) (hit : get_or s.words 0 0 ≡ old) where
    marks_last : Goes stands n (HappensWhere old (IsBoundary c (squad_at_cut lead from))) s r 0 id me (after_mark from (step slots 0 old MARK said) me) MARK
    marks_last =
        let h : LineHold Request Reply = hold c (Leading lead) mine in
        let at' : get_elem? s.views id ≡ some (h ∷ []) = at ∙ ap some mid in
        let fit = (r.seats id (h ∷ []) at').0 in
        let f = leader stands n s r c lead fit.1 fit.2 fit.4 in
        let led_c : r.mode ≡ built c lead.group calm = fit.4.0 in
        let now : r.phase c ≡ leads lead.own = fit.4.1 in
        let wide : length s.words ≡ 2 * n + 4 = r.wide in
        let whole : Distinct (f.queue ++ in_hand lead) = subst Distinct f.parts r.distinct in
        let hand_apart : Distinct r.hand = subst Distinct fit.4.4 (distinct_front lead.taken (lead.own ∷ []) (distinct_back f.queue (in_hand lead) whole)) in
        let none_newer : f.queue ≡ [] = none_before_group f.queue lead.taken lead.own whole ((λ i. newest_from (sym f.base i) (sym f.parts i)) ∙ (sym f.first ∙ (hit ∙ is_old))) in
        let ws : List ℕ = set s.words 0 MARK in
        let g : Squad Request Reply = squad_at_cut lead from in
        let h' : LineHold Request Reply = hold_at c (Marking (lead_with_walk lead [])) mine (Parting g 0) in
        let same : (j : ℕ) → j ≢ 0 → get_or ws j 0 ≡ get_or s.words j 0 = λ j ne. get_or-set_other s.words 0 j MARK 0 (λ e. ne (omega arith)) in
        let ph : Phase Request Reply = leads lead.own in
        let phase' : ℕ → Phase Request Reply = put r.phase c ph in
        let here : phase' c ≡ ph = put_here r.phase c ph in
        let acc = marks_now stands.bound r.line r.handled r.mode r.account c lead.group lead.own led_c (f.parts ∙ (λ i. none_newer i ++ (all i ++ lead.own ∷ []))) in (
          h' ∷ [],
          keeps,
          tt,
          (
            ((acc.0.queue, acc.0.log, r.handled, acc.0.owing), second_list_of (parts_two r.two c g 0)),
            ((λ _. is_boundary r.two c g _ _ acc.1 (sym (ap (λ (y : Core Request Reply). y.1) acc.1) ∙ (acc.2 ∙ ap (grouped lead.own) (sym all))) fit.5.0 f.own_by), λ miss. absurd (miss hit)),
            moved stands n s r c id ws s.homes h h' [] r.hand r.handled (marked c) ph r.due r.told (parts_two r.two c g 0) record {
              at = at';
              real = fit.1;
              same_client = refl;
              wide = length-set s.words 0 MARK;
              many = refl;
              newest_is = get_or-set_same s.words 0 MARK 0 (omega arith);
              links = tt;
              distinct = tt;
              within = tt;
              stand = tt;
              other_rows = λ j ne lo' _ ok. row_stays stands n s.words ws s.homes s.homes j (r.due j) (same (state_at j) (λ e. omega arith)) (same (older_at j) (λ e. omega arith)) refl (r.phase j) ok;
              row = f.own_by;
              log_is = (tt, (lead.own, here, f.own_by, fit.1, fit.2), taken_change r.phase r.due r.due c ph c r.hand (λ e bad. absurd (cc)) (λ _ _. refl) (subst (AllTaken r.phase r.due c) fit.4.4 f.members), f.own_due, hand_apart);
              one_chosen = λ j e. put_at r.phase c ph (λ i g. g ≡ chosen e → Path (Mode Request) (marked c) (waits i)) j (λ _ bad. absurd (cc)) (λ _ ok. let was : r.mode ≡ waits j = r.one_chosen j e ok in absurd (cc));
              shared_out = r.shared_out;
              kept = r.kept;
              coded = λ e is. r.coded c e (subst (InChain e) (sym now) is);
              account = acc.0;
              goes_on = ([], acc.3);
              recalls = tt;
              has_cut = (lead.own, f.own_by, here, acc.2 ∙ ap (grouped lead.own) (sym all ∙ fit.4.4));
              owing_is = owing_stays r.phase r.due r.account.owing r.owing_is acc.0.owing r.due c ph (ap (λ (y : Core Request Reply). y.3) acc.1) (ap (λ f. due_untold f (r.due c)) (sym now)) (λ _ _. refl);
              second = second_parts stands n ws s.homes phase' (marked c) (stands.given r.handled) r.two (
                  second_same stands n s.words ws s.homes s.homes r.phase c ph r.mode (marked c) (stands.given r.handled) (stands.given r.handled) r.two (inl now) same refl (λ j h. absurd h) (λ j h. inl (subst (Holds j) (sym led_c) h)) (λ j _ h. subst (Holds j) led_c h) (λ v. v) r.second
                  ) c g fit.5.0 f.own_by here (taken_with phase' r.due c lead.taken (taken_change r.phase r.due r.due c ph c lead.taken (λ e bad. absurd (cc)) (λ _ _. refl) f.members))
                  (links_same 0 s.words ws (in_hand lead) (λ j. same (older_at j) (λ e. omega arith)) (links_back s.words f.queue (in_hand lead) (subst (Links s.words) f.parts (subst (λ b. LinksFrom b s.words r.line) f.base r.links))))
                  (distinct_back f.queue (in_hand lead) whole) (within_back n f.queue (in_hand lead) (subst (Within n) f.parts r.within)) (λ h. h);
              back = (put_here r.two.place c (parted g 0), fit.5.1);
              else_back = parts_else r.two c g 0;
              told_else = λ _ _. refl;
              mine = fit.3;
              knows = (refl, here, ([], refl), fit.4.3, fit.4.4);
              others = λ j ne. knows_stays stands n r.line [] r.hand r.hand r.handled r.handled r.mode (marked c) r.phase phase' r.due r.due j (put_else r.phase c ph j ne)
                  (λ h. absurd (ne (sym (subst (Holds j) led_c h))))
                  (λ e y is owed. (put_at r.phase c ph (λ i g. r.phase i ≡ taken j e → g ≡ taken j e) e.by (λ w t. let bad : r.phase e.by ≡ leads lead.own = ap r.phase w ∙ now in absurd (cc)) (λ _ t. t) is, owed))
                  (λ y owed. owed)
                  (λ e y is. put_at r.phase c ph (λ i g. r.phase i ≡ dropped j e y → g ≡ dropped j e y) e.by (λ w t. let bad : r.phase e.by ≡ leads lead.own = ap r.phase w ∙ now in absurd (cc)) (λ _ t. t) is);
            },
          ),
          λ c' lead' mine' mid'.
              let e = one_hold c c' (Leading lead) (Leading lead') mine mine' me.0 mid mid' in
              ((λ _. ((λ i. hold_at (e.0 i) (Marking (lead_with_walk (one_lead lead lead' e.1 i) [])) (e.2 i) (Parting (squad_at_cut (one_lead lead lead' e.1 i) from) 0) ∷ []), refl)), λ miss. absurd (miss hit)),
        )

  pub marks_is : (from : List (Handling Request Reply)) (slots id : ℕ) (me : Sat Request Reply Log Right) (c old : ℕ) (lead : Lead Request Reply) (mine : List (Request × Reply)) (said : Option (LineSlot Request Reply Log Right)) → At c (Leading lead) mine me → old ≡ newest (in_hand lead) → lead.taken ≡ lead.group
      → StepIs stands n (HappensWhere old (IsBoundary c (squad_at_cut lead from))) slots id me 0 (λ y. either (eqb y old) MARK y) (after_mark from (step slots 0 old MARK said) me)
  marks_is from slots id me c old lead mine said mid is_old all s r long at fits = exchanged (get_or s.words 0 0) old MARK (Goes stands n (HappensWhere old (IsBoundary c (squad_at_cut lead from))) s r 0 id me (after_mark from (step slots 0 old MARK said) me))
      (λ hit. marks_last from slots id me c old lead mine said mid is_old all s r at hit)
      (λ miss.
      let t = walks_now stands n slots id me c lead mine mid s r at long in (
        t.0,
        keeps,
        tt,
        (t.1.0, ((λ hit. absurd (miss hit)), λ _. t.1.1), t.1.2),
        λ c' lead' mine' mid'. let e = one_hold c c' (Leading lead) (Leading lead') mine mine' me.0 mid mid' in (
          (λ hit. absurd (miss hit)),
          λ _. subst (λ (z : ℕ × Lead Request Reply × List (Request × Reply)). Walks slots z.0 z.1 z.2 (get_or s.words 0 0) me (t.0, me.1)) (λ i. (e.0 i, one_lead lead lead' e.1 i, e.2 i)) t.2,
        ),
      ))

  pub marks : (from : List (Handling Request Reply)) (slots id : ℕ) (me : Sat Request Reply Log Right) (c old : ℕ) (lead : Lead Request Reply) (mine : List (Request × Reply)) (said : Option (LineSlot Request Reply Log Right)) → At c (Leading lead) mine me → old ≡ newest (in_hand lead) → lead.taken ≡ lead.group
      → Allows (Listed stands n) slots id me 0 (λ y. either (eqb y old) MARK y) (after_mark from (step slots 0 old MARK said) me)
  marks from slots id me c old lead mine said mid is_old all = allows stands n (HappensWhere old (IsBoundary c (squad_at_cut lead from))) slots id me 0 (λ y. either (eqb y old) MARK y) (after_mark from (step slots 0 old MARK said) me) (marks_is from slots id me c old lead mine said mid is_old all)

  none_behind : (n b : ℕ) (line : List (QueuedWriter Request)) → n < MARK → Within n line → newest_from b line ≡ MARK → line ≡ []
  none_behind m b [] few ok is = refl
  none_behind m b (e ∷ es) few ok is = let h = ok.1 in absurd (omega arith)

  pub frees_is : (slots id : ℕ) (me : Sat Request Reply Log Right) (c : ℕ) (lead : Lead Request Reply) (mine : List (Request × Reply)) (b : Back Request Reply) (gs : List (QueuedWriter Request × Reply)) (p : Reply) (l : Log) (tail : List (ℕ × LineSlot Request Reply Log Right)) (said : Option (LineSlot Request Reply Log Right)) → AtWith c (Marking lead) mine b me → heads gs ≡ lead.taken
      → me.1 ≡ (0, TheLog l) ∷ slots_of gs ((c, Told p) ∷ tail) → stands.logs l (lead.seen ++ all_answers lead.own p gs) → Hands stands n b lead.seen (lead.seen ++ all_answers lead.own p gs) → IsOwnGroup lead.own lead.taken b
      → StepIs stands n (HappensWhere MARK (IsNext b lead.own p gs)) slots id me 0 (λ y. either (eqb y MARK) 0 y) (after_free (step slots 0 MARK 0 said) me)
  frees_is slots id me c lead mine b gs p l tail said mid group slot stood unnumbered own_group s r long at fits = exchanged (get_or s.words 0 0) MARK 0 (Goes stands n (HappensWhere MARK (IsNext b lead.own p gs)) s r 0 id me (after_free (step slots 0 MARK 0 said) me))
      (λ hit.
      let h : LineHold Request Reply = hold_at c (Marking lead) mine b in
      let at' : get_elem? s.views id ≡ some (h ∷ []) = at ∙ ap some mid in
      let fit = (r.seats id (h ∷ []) at').0 in
      let is_marked : r.mode ≡ marked c = fit.4.0 in
      let now : r.phase c ≡ leads lead.own = fit.4.1 in
      let m = subst (InMode stands n s.homes r.line r.hand r.handled r.phase r.due) is_marked r.log_is in
      let by_c : lead.own.by ≡ c = subst (InPhase stands s.words s.homes c (r.due c)) now (r.rows c fit.1 fit.2) in
      let hand_is : r.hand ≡ heads gs = sym (group ∙ fit.4.4) in
      let members : AllTaken r.phase r.due c (heads gs) = subst (AllTaken r.phase r.due c) hand_is m.2 in
      let apart : Distinct (heads gs) = subst Distinct hand_is m.4 in
      let wide : length s.words ≡ 2 * n + 4 = r.wide in
      let many : length s.homes ≡ n + 2 = r.many in
      let ws : List ℕ = set s.words 0 0 in
      let hs = set s.homes 0 (some (TheLog l)) in
      let d : Debt Request Reply = debt gs lead.own p in
      let h' : LineHold Request Reply = hold_at c (Settling d) mine (back_after_log b) in
      let same : (j : ℕ) → j ≢ 0 → get_or ws j 0 ≡ get_or s.words j 0 = λ j ne. get_or-set_other s.words 0 j 0 0 (λ e. ne (omega arith)) in
      let ph : Phase Request Reply = leads lead.own in
      let phase' : ℕ → Phase Request Reply = put r.phase c ph in
      let here : phase' c ≡ ph = put_here r.phase c ph in
      let more : List (Handling Request Reply) = all_answers lead.own p gs in
      let owe : ℕ → List (Request × Reply) = λ k. r.due k ++ of k more in
      let theirs : IsOfGroup lead.own lead.taken more = subst (λ (z : List (QueuedWriter Request)). IsOfGroup lead.own z more) group (group_handled lead.own p gs) in
      let hands : Hands stands n b r.handled (r.handled ++ more) = subst (λ (z : List (Handling Request Reply)). Hands stands n b z (z ++ more)) fit.4.3 unnumbered in
      let two' = onward_two stands n b r.two in
      let was_cut = subst (HasCut r.account.log r.hand r.phase) is_marked r.has_cut in
      let same_lead : was_cut.0 ≡ lead.own = one_leads was_cut.0 lead.own (sym was_cut.2 ∙ now) in
      let acc = frees_now stands.bound r.line r.handled r.mode r.account c lead.own (heads gs) more is_marked (none_behind n (base_of r.mode) r.line (let few = r.few in omega arith) r.within (sym (first_calm s.words r.line r.mode (marked c) is_marked refl r.newest_is) ∙ hit)) (was_cut.3 ∙ (λ i. grouped (same_lead i) (hand_is i))) (group_handled lead.own p gs) in
      let now_is : Lists Request Reply = ((acc.0.queue, acc.0.log, r.handled ++ more, acc.0.owing), second_list_of two') in
      let moved_to : IsNow stands n now_is (record { words = ws; homes = hs; views = set s.views id (h' ∷ []) }) =
      moved stands n s r c id ws hs h h' [] [] (r.handled ++ more) open_ ph owe r.told two' record {
        at = at';
        real = fit.1;
        same_client = refl;
        wide = length-set s.words 0 0;
        many = length-set s.homes 0 (some (TheLog l));
        newest_is = get_or-set_same s.words 0 0 0 (omega arith);
        links = tt;
        distinct = tt;
        within = tt;
        stand = tt;
        other_rows = λ j ne lo' _ ok. row_stays stands n s.words ws s.homes hs j (owe j) (same (state_at j) (λ e. omega arith)) (same (older_at j) (λ e. omega arith)) (set_else s.homes 0 j (some (TheLog l)) (λ e. omega arith)) (r.phase j)
            (else_row stands n s r c lead.own gs p by_c now members m.3 apart s.words s.homes j ne ok);
        row = by_c;
        log_is = (refl, refl, (l, set_here s.homes 0 (some (TheLog l)) (omega arith), subst (λ z. stands.logs l (z ++ more)) fit.4.3 stood));
        one_chosen = λ j e. put_at r.phase c ph (λ i g. g ≡ chosen e → Path (Mode Request) (open_) (waits i)) j (λ _ bad. absurd (cc)) (λ _ ok. let was : r.mode ≡ waits j = r.one_chosen j e ok in absurd (cc));
        shared_out = shared_more stands n s r c lead.own gs p by_c now members m.3 apart;
        kept = stands.keeps l (r.handled ++ more) (subst (λ z. stands.logs l (z ++ more)) fit.4.3 stood);
        coded = λ e is. r.coded c e (subst (InChain e) (sym now) is);
        account = acc.0;
        goes_on = (exits more ∷ [], acc.2);
        recalls = tt;
        has_cut = tt;
        owing_is = owing_grows r.phase r.due r.account.owing r.owing_is acc.0.owing more c ph (ap (λ (y : Core Request Reply). y.3) acc.1.1) (λ d. ap (λ f. due_untold f d) (sym now)) (done_none stands n s r c lead.own gs p by_c now members m.3 apart);
        second = second_same stands n s.words ws s.homes hs r.phase c ph r.mode open_ (stands.given (r.handled ++ more)) (stands.given (r.handled ++ more)) two' (inl now) same (set_else s.homes 0 (n + 1) (some (TheLog l)) (λ e. omega arith)) (λ k h. absurd h) (λ k h. absurd h) (λ k is h. absurd (onward_free stands n b r.two c r.handled (r.handled ++ more) fit.5 hands (is ∙ ap ahead (sym (subst (Holds k) is_marked h))))) (λ v. v) (second_onward stands n b s.words s.homes r.phase r.mode r.two c lead.own lead.taken r.handled more fit.5 hands own_group theirs r.second);
        back = onward_back stands n b r.two c r.handled (r.handled ++ more) fit.5 hands;
        else_back = onward_else stands n b r.two c fit.5;
        told_else = λ _ _. refl;
        mine = fit.3;
        knows = (
          owed_change r.phase phase' owe owe c gs (λ e x is owed. (put_at r.phase c ph (λ i g. r.phase i ≡ taken c e → g ≡ taken c e) e.by (λ w t. let bad : r.phase e.by ≡ leads lead.own = ap r.phase w ∙ now in absurd (cc)) (λ _ t. t) is, owed))
              (all_owed stands n s r c lead.own gs p by_c now members m.3 apart),
          here,
          own_owed stands n s r c lead.own gs p by_c now members m.3 apart,
          apart,
        );
        others = λ j ne. knows_stays stands n r.line [] r.hand [] r.handled (r.handled ++ more) r.mode open_ r.phase phase' r.due owe j (put_else r.phase c ph j ne)
            (λ h. absurd (ne (sym (subst (Holds j) is_marked h))))
            (λ e x is owed. (put_at r.phase c ph (λ i g. r.phase i ≡ taken j e → g ≡ taken j e) e.by (λ w t. let bad : r.phase e.by ≡ leads lead.own = ap r.phase w ∙ now in absurd (cc)) (λ _ t. t) is, else_owed stands n s r c lead.own gs p by_c now members m.3 apart j ne e x is owed))
            (else_due stands n s r c lead.own gs p by_c now members m.3 apart j ne)
            (λ e y is. put_at r.phase c ph (λ i g. r.phase i ≡ dropped j e y → g ≡ dropped j e y) e.by (λ w t. let bad : r.phase e.by ≡ leads lead.own = ap r.phase w ∙ now in absurd (cc)) (λ _ t. t) is);
      } in (
        h' ∷ [],
        gives,
        tt,
        (now_is, ((λ _. (acc.1, onward_second stands n b r.two, is_ahead stands n b r.two c lead.own.by by_c fit.5)), λ miss. absurd (miss hit)), subst (λ (t : List (ℕ × LineSlot Request Reply Log Right)). IsNow stands n now_is (stepped s 0 0 id t (h' ∷ []) gives)) (sym slot) moved_to),
        λ c' lead' mine' b' gs' p' l' tail' mid' group' slot'.
            let e = one_hold_at c c' (Marking lead) (Marking lead') mine mine' b b' me.0 mid mid' in
            let le : lead ≡ lead' = ap (lead_in lead) e.1 in
            let t = same_group c c' p p' gs gs' tail tail' (group ∙ (ap (λ (z : Lead Request Reply). z.taken) le ∙ sym group')) (ap others_of (sym slot ∙ slot')) in (
              (λ _. ((λ i. hold_at (e.0 i) (Settling (debt (t.0 i) (le i).own (t.1 i))) (e.2 i) (back_after_log (e.3 i)) ∷ []), ap (λ z. carried_after z gives) slot')),
              λ miss. absurd (miss hit),
            ),
      ))
      (λ miss.
      let h : LineHold Request Reply = hold_at c (Marking lead) mine b in
      let at' : get_elem? s.views id ≡ some (h ∷ []) = at ∙ ap some mid in
      let fit = (r.seats id (h ∷ []) at').0 in
      let base : base_of r.mode ≡ MARK = ap base_of fit.4.0 in
      let w : List (LineHold Request Reply) = hold_at c (Marking (lead_with_walk lead r.line)) mine b ∷ [] in (
        w,
        keeps,
        tt,
        (
          now_of stands n s r,
          ((λ hit. absurd (miss hit)), λ _. refl),
          subst (λ (z : List ℕ). IsNow stands n (now_of stands n s r) (record { words = z; homes = s.homes; views = set s.views id w })) (sym (set-get_or s.words 0 0))
              (reviewed stands n s r id h (Marking (lead_with_walk lead r.line)) at' (fit.4.0, fit.4.1, ([], refl), fit.4.3, fit.4.4) tt),
        ),
        λ c' lead' mine' b' gs' p' l' tail' mid' group' slot'. let e = one_hold_at c c' (Marking lead) (Marking lead') mine mine' b b' me.0 mid mid' in (
          (λ hit. absurd (miss hit)),
          λ _. subst (λ (z : ℕ × Lead Request Reply × List (Request × Reply) × Back Request Reply). WalksMarked slots z.0 z.1 z.2 z.3 (get_or s.words 0 0) me (w, me.1)) (λ i. (e.0 i, ap (lead_in lead) e.1 i, e.2 i, e.3 i)) (
            r.line,
            refl,
            refl,
            first_calm s.words r.line r.mode (marked c) fit.4.0 refl r.newest_is ∙ ap (λ (k : ℕ). newest_from k r.line) base,
            (let k = walk_bound n r.line r.within r.distinct in let m = r.many in omega arith),
            all_below stands n slots r.line (let m = r.many in omega arith) r.within,
          ),
        ),
      ))

  pub frees : (slots id : ℕ) (me : Sat Request Reply Log Right) (c : ℕ) (lead : Lead Request Reply) (mine : List (Request × Reply)) (b : Back Request Reply) (gs : List (QueuedWriter Request × Reply)) (p : Reply) (l : Log) (tail : List (ℕ × LineSlot Request Reply Log Right)) (said : Option (LineSlot Request Reply Log Right)) → AtWith c (Marking lead) mine b me → heads gs ≡ lead.taken
      → me.1 ≡ (0, TheLog l) ∷ slots_of gs ((c, Told p) ∷ tail) → stands.logs l (lead.seen ++ all_answers lead.own p gs) → Hands stands n b lead.seen (lead.seen ++ all_answers lead.own p gs) → IsOwnGroup lead.own lead.taken b
      → Allows (Listed stands n) slots id me 0 (λ y. either (eqb y MARK) 0 y) (after_free (step slots 0 MARK 0 said) me)
  frees slots id me c lead mine b gs p l tail said mid group slot stood unnumbered own_group = allows stands n (HappensWhere MARK (IsNext b lead.own p gs)) slots id me 0 (λ y. either (eqb y MARK) 0 y) (after_free (step slots 0 MARK 0 said) me) (frees_is slots id me c lead mine b gs p l tail said mid group slot stood unnumbered own_group)

  newest_snoc : (b d : ℕ) (q : List (QueuedWriter Request)) (x : QueuedWriter Request) → newest_from b (q ++ x ∷ []) ≡ newest_from d (q ++ x ∷ [])
  newest_snoc b d [] x = refl
  newest_snoc b d (e ∷ es) x = refl

  -- the link of the oldest writer after the mark is cleared
  pub cuts_marked_is : (slots id : ℕ) (me : Sat Request Reply Log Right) (c k new : ℕ) (lead : Lead Request Reply) (mine : List (Request × Reply)) (b : Back Request Reply) (pre : List (QueuedWriter Request)) (x : QueuedWriter Request) → AtWith c (Marking lead) mine b me → lead.walk ≡ pre ++ x ∷ [] → k ≡ older_at x.by → new ≡ pack 0 x.code
      → StepIs stands n (λ _. Stays) slots id me k (λ _. new) (λ _. after_cut_behind_mark (step slots k new 0 none) me new)
  cuts_marked_is slots id me c k new lead mine b pre x mid is_walk is_word cleared s r long at fits =
      let h : LineHold Request Reply = hold_at c (Marking lead) mine b in
      let at' : get_elem? s.views id ≡ some (h ∷ []) = at ∙ ap some mid in
      let fit = (r.seats id (h ∷ []) at').0 in
      let is_marked : r.mode ≡ marked c = fit.4.0 in
      let now : r.phase c ≡ leads lead.own = fit.4.1 in
      let m = subst (InMode stands n s.homes r.line r.hand r.handled r.phase r.due) is_marked r.log_is in
      let by_c : lead.own.by ≡ c = subst (InPhase stands s.words s.homes c (r.due c)) now (r.rows c fit.1 fit.2) in
      let ends = fit.4.2 in
      let q : List (QueuedWriter Request) = ends.0 ++ pre in
      let parts : r.line ≡ q ++ x ∷ [] = ends.1 ∙ (ap (λ l. ends.0 ++ l) is_walk ∙ sym (middle ends.0 pre x [])) in
      let queued : AllLinked r.phase (q ++ x ∷ []) = subst (AllLinked r.phase) parts m.0 in
      let now_x : r.phase x.by ≡ linked x = linked_at r.phase q x [] queued in
      let range = within_at n q x [] (subst (Within n) parts r.within) in
      let lo : 0 < x.by = range.0 in
      let hi : x.by ≤ n = range.1 in
      let apart : Absent x.by q = distinct_apart q x [] (subst Distinct parts r.distinct) in
      let other : x.by ≢ c = λ e. let bad : r.phase x.by ≡ leads lead.own = ap r.phase e ∙ now in absurd (cc) in
      let wide : length s.words ≡ 2 * n + 4 = r.wide in
      let ws : List ℕ = set s.words k new in
      let same : (j : ℕ) → j ≢ k → get_or ws j 0 ≡ get_or s.words j 0 = λ j ne. get_or-set_other s.words k j new 0 (λ e. ne (omega arith)) in
      let same_older : (j : ℕ) → j ≢ x.by → get_or ws (older_at j) 0 ≡ get_or s.words (older_at j) 0 = λ j ne. same (older_at j) (λ e. ne (omega arith)) in
      let ph : Phase Request Reply = leads lead.own in
      let phase' : ℕ → Phase Request Reply = put r.phase c ph in
      let here : phase' c ≡ ph = put_here r.phase c ph in
      let h' : LineHold Request Reply = hold_at c (Cutting lead x) mine b in
      let row_x : InPhase stands ws s.homes x.by (r.due x.by) (r.phase x.by) =
      let w = subst (InPhase stands s.words s.homes x.by (r.due x.by)) now_x (r.rows x.by lo hi) in
      subst (InPhase stands ws s.homes x.by (r.due x.by)) (sym now_x) (w.0, same (state_at x.by) (λ e. omega arith) ∙ w.1, w.2, w.3) in
      let was_cut = subst (HasCut r.account.log r.hand r.phase) is_marked r.has_cut in
      let acc = recuts_now stands.bound r.line r.handled r.mode r.account c x.by is_marked in (
        h' ∷ [],
        keeps,
        tt,
        (
          ((acc.0.queue, acc.0.log, r.handled, acc.0.owing), second_list_of r.two),
          (λ i. (acc.1 i, second_list_of r.two)),
          moved stands n s r c id ws s.homes h h' r.line r.hand r.handled (cut c x.by) ph r.due r.told r.two record {
            at = at';
            real = fit.1;
            same_client = refl;
            wide = length-set s.words k new;
            many = refl;
            newest_is = same 0 (λ e. omega arith) ∙ (first_calm s.words r.line r.mode (marked c) is_marked refl r.newest_is ∙ (ap (newest_from (base_of r.mode)) parts ∙ (newest_snoc (base_of r.mode) 0 q x ∙ ap (newest_from 0) (sym parts))));
            links = subst (LinksFrom 0 ws) (sym parts) (aim_links s.words ws x.by q x MARK 0 same_older apart (ap (λ (j : ℕ). get_or ws j 0) (sym is_word) ∙ (get_or-set_same s.words k new 0 (omega arith) ∙ cleared)) (subst (LinksFrom MARK s.words) parts (subst (λ d. LinksFrom d s.words r.line) (ap base_of is_marked) r.links)));
            distinct = r.distinct;
            within = r.within;
            stand = stand_change r.phase c ph r.line (λ e is_in. subst (InChain e) now is_in) r.stand;
            other_rows = λ j ne lo' hi' ok. dite (ℕ_discrete j x.by)
                (λ e. subst (λ (i : ℕ). InPhase stands ws s.homes i (r.due i) (r.phase i)) (sym e) row_x)
                (λ away_x. row_stays stands n s.words ws s.homes s.homes j (r.due j) (same (state_at j) (λ e. omega arith)) (same_older j away_x) refl (r.phase j) ok);
            row = by_c;
            log_is = (
              (q, x, parts, linked_change r.phase c ph q (λ e bad. absurd (cc)) (linked_front r.phase q (x ∷ []) queued), put_else r.phase c ph x.by other ∙ now_x, refl),
              taken_change r.phase r.due r.due c ph c r.hand (λ e bad. absurd (cc)) (λ _ _. refl) m.2,
              m.3,
              m.4,
            );
            one_chosen = λ j e. put_at r.phase c ph (λ i g. g ≡ chosen e → Path (Mode Request) (cut c x.by) (waits i)) j (λ _ bad. absurd (cc)) (λ _ ok. let was : r.mode ≡ waits j = r.one_chosen j e ok in absurd (cc));
            kept = r.kept;
            coded = λ e is. r.coded c e (subst (InChain e) (sym now) is);
            account = acc.0;
            goes_on = ([], acc.2);
            recalls = tt;
            has_cut = (was_cut.0, was_cut.1, here ∙ (sym now ∙ was_cut.2), ap (λ (y : Core Request Reply). y.1) acc.1 ∙ was_cut.3);
            owing_is = owing_stays r.phase r.due r.account.owing r.owing_is acc.0.owing r.due c ph (ap (λ (y : Core Request Reply). y.3) acc.1) (ap (λ f. due_untold f (r.due c)) (sym now)) (λ _ _. refl);
            second = second_stays stands n s.words ws s.homes s.homes r.phase phase' r.mode (cut c x.by) (stands.given r.handled) (stands.given r.handled) r.two (same 1 (λ e. omega arith)) (λ j there. (same_older j (λ e. subst (InSecond r.two.place x.by) now_x (subst (λ (i : ℕ). InSecond r.two.place i (r.phase i)) e there)), (λ _ _. same (state_at j) (λ e. omega arith)), put_same r.phase c ph now j)) (λ j e. sym (same (state_at j) (λ e. omega arith)) ∙ e) refl (λ j h. absurd h) (λ j h. inl (subst (Holds j) (sym is_marked) h)) (λ j _ h. subst (Holds j) is_marked h) (λ v. v) r.second;
            back = fit.5;
            else_back = λ _ _ _ ok. ok;
            shared_out = r.shared_out;
            told_else = λ _ _. refl;
            mine = fit.3;
            knows = (refl, here, put_else r.phase c ph x.by other ∙ now_x, fit.4.3, fit.4.4);
            others = λ j ne. knows_stays stands n r.line r.line r.hand r.hand r.handled r.handled r.mode (cut c x.by) r.phase phase' r.due r.due j (put_else r.phase c ph j ne)
                (λ h. absurd (ne (sym (subst (Holds j) is_marked h))))
                (λ e y is owed. (put_at r.phase c ph (λ i g. r.phase i ≡ taken j e → g ≡ taken j e) e.by (λ w t. let bad : r.phase e.by ≡ leads lead.own = ap r.phase w ∙ now in absurd (cc)) (λ _ t. t) is, owed))
                (λ y owed. owed)
                (λ e y is. put_at r.phase c ph (λ i g. r.phase i ≡ dropped j e y → g ≡ dropped j e y) e.by (λ w t. let bad : r.phase e.by ≡ leads lead.own = ap r.phase w ∙ now in absurd (cc)) (λ _ t. t) is);
          },
        ),
        λ c' lead' mine' b' pre' x' mid' is_walk' is_word'.
            let e = one_hold_at c c' (Marking lead) (Marking lead') mine mine' b b' me.0 mid mid' in
            let le : lead ≡ lead' = ap (lead_in lead) e.1 in
            let same_x : x ≡ x' = same_last pre pre' x x' (sym is_walk ∙ (ap (λ (l : Lead Request Reply). l.walk) le ∙ is_walk')) in
            ((λ i. hold_at (e.0 i) (Cutting (le i) (same_x i)) (e.2 i) (e.3 i) ∷ []), refl),
      )

  pub cuts_marked : (slots id : ℕ) (me : Sat Request Reply Log Right) (c k new : ℕ) (lead : Lead Request Reply) (mine : List (Request × Reply)) (b : Back Request Reply) (pre : List (QueuedWriter Request)) (x : QueuedWriter Request) → AtWith c (Marking lead) mine b me → lead.walk ≡ pre ++ x ∷ [] → k ≡ older_at x.by → new ≡ pack 0 x.code
      → Allows (Listed stands n) slots id me k (λ _. new) (λ _. after_cut_behind_mark (step slots k new 0 none) me new)
  cuts_marked slots id me c k new lead mine b pre x mid is_walk is_word cleared = allows stands n (λ _. Stays) slots id me k (λ _. new) (λ _. after_cut_behind_mark (step slots k new 0 none) me new) (cuts_marked_is slots id me c k new lead mine b pre x mid is_walk is_word cleared)
