-- The steps of a leader in the second list, most with the right, keep the rule.
use Rattle.std.proofs.Common.{Bool, true, false, ◌≡◌, ◌≢◌, ℕ, ◌+◌, ◌*◌, ◌<◌, ◌≤◌, eqb, List, [], ◌∷◌, ◌++◌, length, get_or, set, refl, sym, ap, ◌∙◌, subst, inl, arith, length-set, get_or-set_other, get_or-set_same}
use mathlib.Core.Logic.{dite}
use mathlib.Core.Option.{Option, none, some}
use native.Mathlib.Decide.{ℕ_discrete}
use lib.ListN.{get_elem?}
use lib.Seq.{set-get_or}
use prog.Atomic.{either}
use Rattle.atomic_table.specs.Table.{step, keeps, gives, stepped, Allows}
use Rattle.atomic_table.proofs.Lists.{set_else, exchanged}
use Rattle.line_rule.specs.declared.view.QueuedWriter.{QueuedWriter}
use Rattle.line_rule.specs.declared.view.Debt.{Debt}
use Rattle.line_rule.specs.declared.view.LineHold.{LineHold}
use Rattle.line_rule.specs.declared.view.Squad.{Squad}
use Rattle.line_rule.specs.declared.view.Back.{Back}
use Rattle.line_rule.specs.declared.view.Back.TheVariants.{Away, Parting, Joining, Holding, Queued, Serving, Passing}
use Rattle.line_rule.specs.declared.content.LineSlot.{LineSlot}
use Rattle.line_rule.specs.declared.content.LineSlot.TheVariants.{TheRight}
use Rattle.line_rule.specs.declared.view.LineStage.{LineStage}
use Rattle.line_rule.specs.declared.view.LineStage.TheVariants.{Settling}
use Rattle.line_rule.specs.Chain.{state_at, older_at, pack, newest, Absent, Distinct, Within}
use Rattle.line_rule.specs.Standing.{Phase, leads, taken, base_of, away, called, Turn, still, calls, serves, served, held_by, passes, Two, line_of, flat, In, Behind, KnowsBack}
use Rattle.line_rule.specs.Laws.{Laws}
use Rattle.line_rule.specs.Rule.{AllOwed, hold_at, InPhase, Level, Listed, InTurn, Second}
use Rattle.line_rule.specs.declared.view.Handling.{Handling}
use Rattle.line_rule.proofs.Enters.{not_snoc}
use Rattle.line_rule.specs.Steps.{Lists, Stays, HappensWhere, IsServedOut, now_of, IsNow, StepIs}
use Rattle.line_rule.specs.SecondList.{SecondList, apart_in, served_in, last_served, second_list_of}
use Rattle.line_rule.specs.Plays.{Sat, AtWith, debt, WalksSecond, after_leave_second, after_clear_second, after_call_next, after_make_parallel}
use Rattle.line_rule.proofs.Chains.{put, put_here, put_else, links_stay, links_same}
use Rattle.line_rule.proofs.Groups.{walk_bound}
use Rattle.line_rule.proofs.Leads.{all_below, middle, same_last, snoc}
use Rattle.std.proofs.lemmas.List.{append_cancel_right, append-nil}
use Rattle.line_rule.proofs.Moves.{St, row_stays, Goes, allows}
use Rattle.line_rule.proofs.Seconds.{second_stops, second_clears, second_ends, second_calls, one_group}
use Rattle.line_rule.proofs.Squads.{one_serves, flat_snoc, in_one, behind_in}
use Rattle.line_rule.proofs.Keeps.{in_not_away, second_stays}
use Rattle.line_rule.proofs.Onward.{back_map, one_hold_at, apart_same, in_apart}
use Rattle.line_rule.proofs.Settles.{debt_in, no_log}
use Rattle.line_rule.proofs.Passes.{squad_of, out_of_line, rows_else, passed, passed_to}

module _ {Request Reply : Type 0} where
  abbrev pub walk_of : List (QueuedWriter Request) → Back Request Reply → List (QueuedWriter Request)
  walk_of d Away = d
  walk_of d (Parting g k) = d
  walk_of d (Joining g) = d
  walk_of d (Holding g) = d
  walk_of d (Queued g) = d
  walk_of d (Serving g walk) = walk
  walk_of d (Passing g x) = d

  -- what a client knows stays true when its group is called
  call_back : (two z : Two Request Reply) (c w : ℕ) (g : Squad Request Reply) → In g (two.place w) → two.turn ≡ passes c w → z.place w ≡ called g → z.lead ≡ two.lead → (y : Back Request Reply) → KnowsBack two w y → KnowsBack z w y
  call_back two z c w g is_in turn_c here same Away ok = absurd (in_not_away g (two.place w) is_in ok.0)
  call_back two z c w g is_in turn_c here same (Parting f d) ok = absurd (subst (In g) ok.0 is_in)
  call_back two z c w g is_in turn_c here same (Joining f) ok = (subst (Behind f) (sym here) (in_one g f (two.place w) is_in (behind_in f (two.place w) ok.0)), same ∙ ok.1)
  call_back two z c w g is_in turn_c here same (Holding f) ok = let bad : passes c w ≡ held_by w = sym turn_c ∙ ok.0 in absurd (cc)
  call_back two z c w g is_in turn_c here same (Queued f) ok = (subst (Behind f) (sym here) (in_one g f (two.place w) is_in (behind_in f (two.place w) ok.0)), λ e. ok.1 (sym same ∙ e))
  call_back two z c w g is_in turn_c here same (Serving f walk) ok = let bad : passes c w ≡ held_by w = sym turn_c ∙ ok.0 in absurd (cc)
  call_back two z c w g is_in turn_c here same (Passing f x) ok = absurd (subst (In g) ok.1 is_in)

abbrev passes_of : ℕ → Turn → ℕ
passes_of d still = d
passes_of d (calls k) = d
passes_of d (held_by k) = k
passes_of d (passes k w) = k

same_turn : (a b : ℕ) → held_by a ≡ held_by b → a ≡ b
same_turn a b e = ap (passes_of a) e

same_pass : (a b v w : ℕ) → passes a v ≡ passes b w → a ≡ b
same_pass a b v w e = ap (passes_of a) e

module _ {Request Reply : Type 0} where
  owed_at : (phase : ℕ → Phase Request Reply) (due : ℕ → List (Request × Reply)) (c : ℕ) (pre : List (QueuedWriter Request × Reply)) (y : QueuedWriter Request × Reply) (post : List (QueuedWriter Request × Reply)) → AllOwed phase due c (pre ++ y ∷ post) → (phase y.0.by ≡ taken c y.0) × (due y.0.by ≡ (y.0.asked, y.1) ∷ [])
  owed_at phase due c [] y post ok = (ok.0, ok.1)
  owed_at phase due c (g ∷ gs) y post ok = owed_at phase due c gs y post ok.2

module _ {Request Reply Log Right : Type 0} (stands : Laws Request Reply Log Right) (n : ℕ) where
  -- the last slot
  last_slot : (slots k : ℕ) (s : St stands n) → Listed stands n s → length s.homes ≡ slots → k + 1 ≡ slots → k ≡ n + 1
  last_slot slots k s r long is = let many : length s.homes ≡ n + 2 = r.many in omega (arith, long, is)

  -- the client that has the right leads the oldest group
  served_by : (s : St stands n) (r : Listed stands n s) (c : ℕ) (g : Squad Request Reply) → r.two.turn ≡ held_by c → r.two.place c ≡ serves g → g.own.by ≡ c
  served_by s r c g turn place =
      let t = subst (InTurn stands n s.words s.homes r.phase r.two) turn r.second.turn_is in
      ap (λ (f : Squad Request Reply). f.own.by) (sym (one_serves t.1 g (sym t.3 ∙ place))) ∙ t.4

  -- the right is given back, if no group came
  pub leaves_second_is : (slots id : ℕ) (me : Sat Request Reply Log Right) (c old k : ℕ) (d : Debt Request Reply) (mine : List (Request × Reply)) (g : Squad Request Reply) (walk : List (QueuedWriter Request)) (right : Right) (t : List (ℕ × LineSlot Request Reply Log Right)) (said : Option (LineSlot Request Reply Log Right)) → stands.piped ≡ true → AtWith c (Settling d) mine (Serving g walk) me
      → me.1 ≡ (k, TheRight right) ∷ t → k + 1 ≡ slots → old ≡ newest (line_of g) → stands.rights right g.to → StepIs stands n (HappensWhere old (IsServedOut c g)) slots id me 1 (λ y. either (eqb y old) 0 y) (after_leave_second (step slots 1 old 0 said) me)
  leaves_second_is slots id me c old k d mine g walk right t said piped mid slot is_last is_old stood s r long at fits =
      let st : LineStage Request Reply = Settling d in
      let at' : get_elem? s.views id ≡ some (hold_at c st mine (Serving g walk) ∷ []) = at ∙ ap some mid in
      let fit = (r.seats id (hold_at c st mine (Serving g walk) ∷ []) at').0 in
      exchanged (get_or s.words 1 0) old 0 (Goes stands n (HappensWhere old (IsServedOut c g)) s r 1 id me (after_leave_second (step slots 1 old 0 said) me))
      (λ hit.
      let many : length s.homes ≡ n + 2 = r.many in
      let k_is : k ≡ n + 1 = last_slot slots k s r long is_last in
      let ws : List ℕ = set s.words 1 0 in
      let hs = set s.homes (n + 1) (some (TheRight right)) in
      let same : (j : ℕ) → j ≢ 1 → get_or ws j 0 ≡ get_or s.words j 0 = λ j ne. get_or-set_other s.words 1 j 0 0 (λ e. ne (omega arith)) in
      let home_else : (j : ℕ) → j ≤ n → get_elem? hs j ≡ get_elem? s.homes j = λ j small. set_else s.homes (n + 1) j (some (TheRight right)) (λ e. omega arith) in
      let two' : Two Request Reply = record { groups = []; place = put r.two.place c away; turn = still; lead = r.two.lead; done = g.to } in
      let after : IsNow stands n ((now_of stands n s r).0, second_list_of two') (record { words = ws; homes = hs; views = set s.views id (hold_at c st mine Away ∷ []) }) = passed_to stands n s r id ws hs c st mine (Serving g walk) Away two' record {
        at = at';
        wide = length-set s.words 1 0;
        many = length-set s.homes (n + 1) (some (TheRight right));
        first = same 0 (λ e. omega arith);
        third = same 3 (λ e. omega arith);
        links = links_same (base_of r.mode) s.words ws r.line (λ j. same (older_at j) (λ e. omega arith)) r.links;
        rows = λ j lo hi. row_stays stands n s.words ws s.homes hs j (r.due j) (same (state_at j) (λ e. omega arith)) (same (older_at j) (λ e. omega arith)) (home_else j hi) (r.phase j) (r.rows j lo hi);
        home = home_else 0 (omega arith);
        second = second_stops stands n s.words s.homes r.phase r.mode (stands.given r.handled) r.two r.second piped c g right fit.5.0 fit.5.1 fit.5.2 (no_log stands n s.homes r.line r.hand r.handled r.phase r.due c (d.own.asked, d.reply) fit.4.2 r.mode r.log_is) (hit ∙ is_old) stood r.wide many;
        back = (put_here r.two.place c away, fit.5.2);
        else_back = λ j ne. back_map r.two two' j (put_else r.two.place c away j ne) (λ e. absurd (ne (same_turn j c (sym e ∙ fit.5.0)))) (λ w e. let bad : held_by c ≡ passes j w = sym fit.5.0 ∙ e in absurd (cc)) (λ e. e) (λ e. e);
      } in (
        hold_at c st mine Away ∷ [],
        gives,
        tt,
        (((now_of stands n s r).0, second_list_of two'), ((λ _. (served_by s r c g fit.5.0 fit.5.1, ap (λ t. r.two.groups ++ last_served r.two.place t) fit.5.0 ∙ (append-nil r.two.groups ∙ one_group stands n s.words s.homes r.phase r.mode (stands.given r.handled) r.two r.second piped c g fit.5.0 fit.5.1 (hit ∙ is_old)), refl, refl, apart_same r.two.place c away (sym (ap apart_in fit.5.1)))), λ miss. absurd (miss hit)), subst (λ (z : List (ℕ × LineSlot Request Reply Log Right)). IsNow stands n ((now_of stands n s r).0, second_list_of two') (stepped s 1 0 id z (hold_at c st mine Away ∷ []) gives)) (sym slot) (subst (λ (j : ℕ). IsNow stands n ((now_of stands n s r).0, second_list_of two') (record { words = ws; homes = set s.homes j (some (TheRight right)); views = set s.views id (hold_at c st mine Away ∷ []) })) (sym k_is) after)),
        λ c' d' mine' f walk' mid'.
            let e = one_hold_at c c' st (Settling d') mine mine' (Serving g walk) (Serving f walk') me.0 mid mid' in
            ((λ _. ((λ i. hold_at (e.0 i) (e.1 i) (e.2 i) Away ∷ []), refl)), λ miss. absurd (miss hit)),
      ))
      (λ miss.
      let tn = subst (InTurn stands n s.words s.homes r.phase r.two) fit.5.0 r.second.turn_is in
      let same_g : tn.1 ≡ g = one_serves tn.1 g (sym tn.3 ∙ fit.5.1) in
      let newer : List (QueuedWriter Request) = flat tn.0 in
      let now : List (QueuedWriter Request) = newer ++ line_of g in
      let split : flat r.two.groups ≡ now = ap flat tn.2 ∙ (flat_snoc tn.0 tn.1 ∙ ap (λ (f : Squad Request Reply). newer ++ line_of f) same_g) in
      let w : List (LineHold Request Reply) = hold_at c st mine (Serving g now) ∷ [] in
      let after : IsNow stands n (now_of stands n s r) (record { words = s.words; homes = s.homes; views = set s.views id w }) = passed stands n s r id s.words s.homes c st mine (Serving g walk) (Serving g now) r.two refl record {
        at = at';
        wide = refl;
        many = refl;
        first = refl;
        third = refl;
        links = r.links;
        rows = r.rows;
        home = refl;
        second = r.second;
        back = (fit.5.0, fit.5.1, fit.5.2, ([], split));
        else_back = λ j ne y ok. ok;
      } in (
        w,
        keeps,
        tt,
        (now_of stands n s r, ((λ h. absurd (miss h)), λ _. refl), subst (λ (z : List ℕ). IsNow stands n (now_of stands n s r) (record { words = z; homes = s.homes; views = set s.views id w })) (sym (set-get_or s.words 1 0)) after),
        λ c' d' mine' f walk' mid'.
            let e = one_hold_at c c' st (Settling d') mine mine' (Serving g walk) (Serving f walk') me.0 mid mid' in
            let gf : g ≡ f = ap (squad_of g) e.3 in
            let df : d ≡ d' = ap (debt_in d) e.1 in (
              (λ hit. absurd (miss hit)),
              λ _. subst (λ (z : ℕ × Debt Request Reply × List (Request × Reply) × Squad Request Reply). WalksSecond slots z.0 z.1 z.2 z.3 (get_or s.words 1 0) me (w, me.1)) (λ i. (e.0 i, df i, e.2 i, gf i)) (
                newer,
                refl,
                refl,
                r.second.newest_is ∙ ap newest split,
                (let b = walk_bound n now (subst (Within n) split r.second.within) (subst Distinct split r.second.distinct) in let m = r.many in omega arith),
                all_below stands n slots now (let m = r.many in omega arith) (subst (Within n) split r.second.within),
              ),
            ),
      ))

  pub leaves_second : (slots id : ℕ) (me : Sat Request Reply Log Right) (c old k : ℕ) (d : Debt Request Reply) (mine : List (Request × Reply)) (g : Squad Request Reply) (walk : List (QueuedWriter Request)) (right : Right) (t : List (ℕ × LineSlot Request Reply Log Right)) (said : Option (LineSlot Request Reply Log Right)) → stands.piped ≡ true → AtWith c (Settling d) mine (Serving g walk) me
      → me.1 ≡ (k, TheRight right) ∷ t → k + 1 ≡ slots → old ≡ newest (line_of g) → stands.rights right g.to → Allows (Listed stands n) slots id me 1 (λ y. either (eqb y old) 0 y) (after_leave_second (step slots 1 old 0 said) me)
  leaves_second slots id me c old k d mine g walk right t said piped mid slot is_last is_old stood = allows stands n (HappensWhere old (IsServedOut c g)) slots id me 1 (λ y. either (eqb y old) 0 y) (after_leave_second (step slots 1 old 0 said) me) (leaves_second_is slots id me c old k d mine g walk right t said piped mid slot is_last is_old stood)

  -- the link of the next group's leader is cleared
  pub clears_second_is : (slots id : ℕ) (me : Sat Request Reply Log Right) (c k new : ℕ) (d : Debt Request Reply) (mine : List (Request × Reply)) (g : Squad Request Reply) (walk pre : List (QueuedWriter Request)) (x : QueuedWriter Request) → stands.piped ≡ true → AtWith c (Settling d) mine (Serving g walk) me → walk ≡ pre ++ x ∷ line_of g → k ≡ older_at x.by → new ≡ pack 0 x.code
      → StepIs stands n (λ _. Stays) slots id me k (λ _. new) (λ _. after_clear_second (step slots k new 0 none) me new)
  clears_second_is slots id me c k new d mine g walk pre x piped mid is_walk is_word is_new s r long at fits =
      let st : LineStage Request Reply = Settling d in
      let at' : get_elem? s.views id ≡ some (hold_at c st mine (Serving g walk) ∷ []) = at ∙ ap some mid in
      let fit = (r.seats id (hold_at c st mine (Serving g walk) ∷ []) at').0 in
      let ends = fit.5.3 in
      let q : List (QueuedWriter Request) = ends.0 ++ pre in
      let parts : flat r.two.groups ≡ q ++ x ∷ line_of g = ends.1 ∙ (ap (λ l. ends.0 ++ l) is_walk ∙ sym (middle ends.0 pre x (line_of g))) in
      let cl = second_clears stands n s.words s.homes r.phase r.mode (stands.given r.handled) r.two r.second piped c new g q x fit.5.0 fit.5.1 fit.5.2 (no_log stands n s.homes r.line r.hand r.handled r.phase r.due c (d.own.asked, d.reply) fit.4.2 r.mode r.log_is) parts is_new r.wide in
      let lo : 0 < x.by = cl.1 in
      let hi : x.by ≤ n = cl.2 in
      let wide : length s.words ≡ 2 * n + 4 = r.wide in
      let ws : List ℕ = set s.words k new in
      let same : (j : ℕ) → j ≢ k → get_or ws j 0 ≡ get_or s.words j 0 = λ j ne. get_or-set_other s.words k j new 0 (λ e. ne (omega arith)) in
      let older : (j : ℕ) → j ≢ x.by → get_or ws (older_at j) 0 ≡ get_or s.words (older_at j) 0 = λ j ne. same (older_at j) (λ e. ne (omega arith)) in
      let out : Absent x.by r.line = out_of_line stands n s.homes r.line r.hand r.handled r.phase r.due x.by x cl.3 r.mode (λ h. cl.4 (r.second.in_front x.by h)) r.log_is in
      let two' : Two Request Reply = record { groups = cl.0; place = put r.two.place c (served g); turn = passes c x.by; lead = r.two.lead; done = g.to } in
      let as_was : Path (SecondList Request Reply) (second_list_of two') (second_list_of r.two) = λ i. ((ap (λ l. cl.0 ++ l) (ap served_in (put_here r.two.place c (served g))) ∙ (sym cl.6 ∙ (sym (append-nil r.two.groups) ∙ ap (λ t. r.two.groups ++ last_served r.two.place t) (sym fit.5.0)))) i, r.two.lead, apart_same r.two.place c (served g) (sym (ap apart_in fit.5.1)) i) in (
        hold_at c st mine (Passing g x) ∷ [],
        keeps,
        tt,
        (
          now_of stands n s r,
          refl,
          passed stands n s r id ws s.homes c st mine (Serving g walk) (Passing g x) two' as_was record {
            at = at';
            wide = length-set s.words k new;
            many = refl;
            first = same 0 (λ e. omega arith);
            third = same 3 (λ e. omega arith);
            links = links_stay (base_of r.mode) s.words ws x.by r.line older out r.links;
            rows = rows_else stands n s.words ws s.homes s.homes r.due r.phase x.by x cl.3 (λ j _. same (state_at j) (λ e. omega arith)) older (λ _ _. refl) r.rows;
            home = refl;
            second = subst (λ (j : ℕ). Second stands n (set s.words j new) s.homes r.phase r.mode (stands.given r.handled) two') (sym is_word) cl.5;
            back = (refl, put_here r.two.place c (served g), fit.5.2, refl);
            else_back = λ j ne. back_map r.two two' j (put_else r.two.place c (served g) j ne) (λ e. absurd (ne (same_turn j c (sym e ∙ fit.5.0)))) (λ w e. let bad : held_by c ≡ passes j w = sym fit.5.0 ∙ e in absurd (cc)) (λ e. e) (λ e. e);
          },
        ),
        λ c' d' mine' f walk' pre' x' mid' is_walk' is_word'.
            let e = one_hold_at c c' st (Settling d') mine mine' (Serving g walk) (Serving f walk') me.0 mid mid' in
            let gf : g ≡ f = ap (squad_of g) e.3 in
            let wf : walk ≡ walk' = ap (walk_of walk) e.3 in
            let both : pre ++ x ∷ line_of g ≡ pre' ++ x' ∷ line_of g = sym is_walk ∙ (wf ∙ (is_walk' ∙ ap (λ (y : Squad Request Reply). pre' ++ x' ∷ line_of y) (sym gf))) in
            let same_x : x ≡ x' = same_last pre pre' x x' (append_cancel_right (pre ++ x ∷ []) (pre' ++ x' ∷ []) (line_of g) (snoc pre x (line_of g) ∙ (both ∙ sym (snoc pre' x' (line_of g))))) in
            ((λ i. hold_at (e.0 i) (e.1 i) (e.2 i) (Passing (gf i) (same_x i)) ∷ []), refl),
      )

  pub clears_second : (slots id : ℕ) (me : Sat Request Reply Log Right) (c k new : ℕ) (d : Debt Request Reply) (mine : List (Request × Reply)) (g : Squad Request Reply) (walk pre : List (QueuedWriter Request)) (x : QueuedWriter Request) → stands.piped ≡ true → AtWith c (Settling d) mine (Serving g walk) me → walk ≡ pre ++ x ∷ line_of g → k ≡ older_at x.by → new ≡ pack 0 x.code
      → Allows (Listed stands n) slots id me k (λ _. new) (λ _. after_clear_second (step slots k new 0 none) me new)
  clears_second slots id me c k new d mine g walk pre x piped mid is_walk is_word is_new = allows stands n (λ _. Stays) slots id me k (λ _. new) (λ _. after_clear_second (step slots k new 0 none) me new) (clears_second_is slots id me c k new d mine g walk pre x piped mid is_walk is_word is_new)

  -- that leader is called, and the right goes on to it
  pub calls_next_is : (slots id : ℕ) (me : Sat Request Reply Log Right) (c k j0 : ℕ) (st : LineStage Request Reply) (mine : List (Request × Reply)) (g : Squad Request Reply) (x : QueuedWriter Request) (right : Right) (t : List (ℕ × LineSlot Request Reply Log Right)) → AtWith c st mine (Passing g x) me → me.1 ≡ (j0, TheRight right) ∷ t → j0 + 1 ≡ slots → k ≡ state_at x.by → stands.rights right g.to
      → StepIs stands n (λ _. IsServedOut c g) slots id me k (λ _. 4) (λ _. after_call_next (step slots k 4 0 none) me 4)
  calls_next_is slots id me c k j0 st mine g x right t mid slot is_last is_word stood s r long at fits =
      let at' : get_elem? s.views id ≡ some (hold_at c st mine (Passing g x) ∷ []) = at ∙ ap some mid in
      let fit = (r.seats id (hold_at c st mine (Passing g x) ∷ []) at').0 in
      let many : length s.homes ≡ n + 2 = r.many in
      let j_is : j0 ≡ n + 1 = last_slot slots j0 s r long is_last in
      let w : ℕ = x.by in
      let gone : Two Request Reply = record { groups = r.two.groups; place = put r.two.place c away; turn = r.two.turn; lead = r.two.lead; done = r.two.done } in
      let cl = second_calls stands n s.words s.homes r.phase r.mode (stands.given r.handled) gone (second_ends stands n s.words s.homes r.phase r.mode (stands.given r.handled) r.two r.second c g fit.5.1) c w right fit.5.0 (subst (stands.rights right) (sym fit.5.3) stood) r.wide many in
      let lo : 0 < w = cl.2 in
      let hi : w ≤ n = cl.3 in
      let wide : length s.words ≡ 2 * n + 4 = r.wide in
      let ws : List ℕ = set s.words k 4 in
      let hs = set s.homes (n + 1) (some (TheRight right)) in
      let same : (j : ℕ) → j ≢ k → get_or ws j 0 ≡ get_or s.words j 0 = λ j ne. get_or-set_other s.words k j 4 0 (λ e. ne (omega arith)) in
      let home_else : (j : ℕ) → j ≤ n → get_elem? hs j ≡ get_elem? s.homes j = λ j small. set_else s.homes (n + 1) j (some (TheRight right)) (λ e. omega arith) in
      let two' : Two Request Reply = record { groups = r.two.groups; place = put gone.place w (called cl.0); turn = calls w; lead = r.two.lead; done = r.two.done } in
      let other : c ≢ w = λ e. in_not_away cl.0 (gone.place w) cl.1 (ap gone.place (sym e) ∙ put_here r.two.place c away) in
      let now' : Lists Request Reply = ((now_of stands n s r).0, second_list_of two') in
      let after : IsNow stands n now' (record { words = ws; homes = hs; views = set s.views id (hold_at c st mine Away ∷ []) }) = passed_to stands n s r id ws hs c st mine (Passing g x) Away two' record {
        at = at';
        wide = length-set s.words k 4;
        many = length-set s.homes (n + 1) (some (TheRight right));
        first = same 0 (λ e. omega arith);
        third = same 3 (λ e. omega arith);
        links = links_same (base_of r.mode) s.words ws r.line (λ j. same (older_at j) (λ e. omega arith)) r.links;
        rows = rows_else stands n s.words ws s.homes hs r.due r.phase w cl.0.own cl.4 (λ j ne. same (state_at j) (λ e. ne (omega arith))) (λ j _. same (older_at j) (λ e. omega arith)) home_else r.rows;
        home = home_else 0 (omega arith);
        second = subst (λ (j : ℕ). Second stands n (set s.words j 4) hs r.phase r.mode (stands.given r.handled) two') (sym is_word) cl.5;
        back = (put_else gone.place w (called cl.0) c other ∙ put_here r.two.place c away, fit.5.2);
        else_back = λ j ne y knows.
            let later : KnowsBack gone j y = back_map r.two gone j (put_else r.two.place c away j ne) (λ e. (e, ([], refl))) (λ v e. (e, refl)) (λ e. e) (λ e. e) y knows in
            dite (ℕ_discrete j w)
            (λ e. subst (λ (i : ℕ). (y : Back Request Reply) → KnowsBack gone i y → KnowsBack two' i y) (sym e) (call_back gone two' c w cl.0 cl.1 fit.5.0 (put_here gone.place w (called cl.0)) refl) y later)
            (λ away_w. back_map gone two' j (put_else gone.place w (called cl.0) j away_w) (λ e. let bad : passes c w ≡ held_by j = sym fit.5.0 ∙ e in absurd (cc)) (λ v e. absurd (ne (same_pass j c v w (sym e ∙ fit.5.0)))) (λ e. e) (λ e. e) y later);
      } in (
        hold_at c st mine Away ∷ [],
        gives,
        tt,
        (
          now',
          (
            (r.second.outgoing c g fit.5.1).0,
            ap (λ t. r.two.groups ++ last_served r.two.place t) fit.5.0 ∙ (ap (λ p. r.two.groups ++ served_in p) fit.5.1 ∙ ap (λ l. l ++ g ∷ []) (sym (append-nil r.two.groups))),
            refl,
            refl,
            apart_same gone.place w (called cl.0) (sym (in_apart cl.0 (gone.place w) cl.1)) ∙ apart_same r.two.place c away (sym (ap apart_in fit.5.1)),
          ),
          subst (λ (z : List (ℕ × LineSlot Request Reply Log Right)). IsNow stands n now' (stepped s k 4 id z (hold_at c st mine Away ∷ []) gives)) (sym slot) (subst (λ (j : ℕ). IsNow stands n now' (record { words = ws; homes = set s.homes j (some (TheRight right)); views = set s.views id (hold_at c st mine Away ∷ []) })) (sym j_is) after),
        ),
        λ c' st' mine' f x' mid'.
            let e = one_hold_at c c' st st' mine mine' (Passing g x) (Passing f x') me.0 mid mid' in
            ((λ i. hold_at (e.0 i) (e.1 i) (e.2 i) Away ∷ []), refl),
      )

  pub calls_next : (slots id : ℕ) (me : Sat Request Reply Log Right) (c k j0 : ℕ) (st : LineStage Request Reply) (mine : List (Request × Reply)) (g : Squad Request Reply) (x : QueuedWriter Request) (right : Right) (t : List (ℕ × LineSlot Request Reply Log Right)) → AtWith c st mine (Passing g x) me → me.1 ≡ (j0, TheRight right) ∷ t → j0 + 1 ≡ slots → k ≡ state_at x.by → stands.rights right g.to
      → Allows (Listed stands n) slots id me k (λ _. 4) (λ _. after_call_next (step slots k 4 0 none) me 4)
  calls_next slots id me c k j0 st mine g x right t mid slot is_last is_word stood = allows stands n (λ _. IsServedOut c g) slots id me k (λ _. 4) (λ _. after_call_next (step slots k 4 0 none) me 4) (calls_next_is slots id me c k j0 st mine g x right t mid slot is_last is_word stood)

  -- only a list with a second one has a leader that serves
  only_piped : (piped : Bool) (two : Two Request Reply) (last : List (Handling Request Reply)) (newer : List (Squad Request Reply)) (g : Squad Request Reply) → two.groups ≡ newer ++ g ∷ [] → Level stands piped two last → piped ≡ true
  only_piped true two last newer g is ok = refl
  only_piped false two last newer g is ok = absurd (not_snoc newer g (sym ok.0 ∙ is))

  serving_piped : (s : St stands n) (r : Listed stands n s) (c : ℕ) → r.two.turn ≡ held_by c → stands.piped ≡ true
  serving_piped s r c turn =
      let t = subst (InTurn stands n s.words s.homes r.phase r.two) turn r.second.turn_is in only_piped stands.piped r.two (stands.given r.handled) t.0 t.1 t.2 r.second.in_level

  -- a member may now work in parallel with its leader
  pub parallels_is : (slots id : ℕ) (me : Sat Request Reply Log Right) (c k : ℕ) (pre post : List (QueuedWriter Request × Reply)) (y : QueuedWriter Request × Reply) (o : QueuedWriter Request) (p : Reply) (mine : List (Request × Reply)) (g : Squad Request Reply) (walk : List (QueuedWriter Request)) → AtWith c (Settling (debt (pre ++ y ∷ post) o p)) mine (Serving g walk) me → k ≡ state_at y.0.by → y.0.by ≤ n
      → StepIs stands n (λ _. Stays) slots id me k (λ _. 8) (λ _. after_make_parallel (step slots k 8 0 none) me 8)
  parallels_is slots id me c k pre post y o p mine g walk mid is_word small s r long at fits =
      let st : LineStage Request Reply = Settling (debt (pre ++ y ∷ post) o p) in
      let b : Back Request Reply = Serving g walk in
      let at' : get_elem? s.views id ≡ some (hold_at c st mine b ∷ []) = at ∙ ap some mid in
      let fit = (r.seats id (hold_at c st mine b ∷ []) at').0 in
      let m : ℕ = y.0.by in
      let owed = owed_at r.phase r.due c pre y post fit.4.0 in
      let piped : stands.piped ≡ true = serving_piped s r c fit.5.0 in
      let now : r.phase m ≡ taken c y.0 = owed.0 in
      let wide : length s.words ≡ 2 * n + 4 = r.wide in
      let ws : List ℕ = set s.words k 8 in
      let same : (j : ℕ) → j ≢ k → get_or ws j 0 ≡ get_or s.words j 0 = λ j ne. get_or-set_other s.words k j 8 0 (λ e. ne (omega arith)) in
      let older : (j : ℕ) → get_or ws (older_at j) 0 ≡ get_or s.words (older_at j) 0 = λ j. same (older_at j) (λ e. omega arith) in
      let state : (j : ℕ) → j ≢ m → get_or ws (state_at j) 0 ≡ get_or s.words (state_at j) 0 = λ j ne. same (state_at j) (λ e. ne (omega arith)) in
      let is8 : get_or ws (state_at m) 0 ≡ 8 = ap (λ (j : ℕ). get_or ws j 0) (sym is_word) ∙ get_or-set_same s.words k 8 0 (omega arith) in
      let back_is : hold_at c st mine b ∷ [] ≡ me.0 = sym mid in
      let after : IsNow stands n (now_of stands n s r) (record { words = ws; homes = s.homes; views = set s.views id (hold_at c st mine b ∷ []) }) = passed stands n s r id ws s.homes c st mine b b r.two refl record {
        at = at';
        wide = length-set s.words k 8;
        many = refl;
        first = same 0 (λ e. omega arith);
        third = same 3 (λ e. omega arith);
        links = links_same (base_of r.mode) s.words ws r.line older r.links;
        rows = λ j lo hi. dite (ℕ_discrete j m)
            (λ e. let here : r.phase j ≡ taken c y.0 = ap r.phase e ∙ now in let at8 : get_or ws (state_at j) 0 ≡ 8 = ap (λ (i : ℕ). get_or ws (state_at i) 0) e ∙ is8 in
            subst (InPhase stands ws s.homes j (r.due j)) (sym here) ((subst (InPhase stands s.words s.homes j (r.due j)) here (r.rows j lo hi)).0, (λ two_. absurd (omega arith)), (λ sixteen. absurd (omega arith)), (λ _. (piped, (y.1, ap r.due e ∙ owed.1)))))
            (λ ne. row_stays stands n s.words ws s.homes s.homes j (r.due j) (state j ne) (older j) refl (r.phase j) (r.rows j lo hi));
        home = refl;
        second = second_stays stands n s.words ws s.homes s.homes r.phase r.phase r.mode r.mode (stands.given r.handled) (stands.given r.handled) r.two (same 1 (λ e. omega arith))
            (λ j _. (older j, (λ e is_lead. state j (λ eq. let bad : r.phase m ≡ leads e = ap r.phase (sym eq) ∙ is_lead in absurd (cc))), refl))
            (λ j four. dite (ℕ_discrete j m) (λ e. let at8 : get_or ws (state_at j) 0 ≡ 8 = ap (λ (i : ℕ). get_or ws (state_at i) 0) e ∙ is8 in absurd (omega arith)) (λ ne. sym (state j ne) ∙ four)) refl (λ j h. inl h) (λ j h. inl h) (λ j _ h. h) (λ v. v) r.second;
        back = fit.5;
        else_back = λ j ne z ok. ok;
      } in (
        me.0,
        keeps,
        tt,
        (now_of stands n s r, refl, subst (λ (v : List (LineHold Request Reply)). IsNow stands n (now_of stands n s r) (record { words = ws; homes = s.homes; views = set s.views id v })) back_is after),
        refl,
      )

  pub parallels : (slots id : ℕ) (me : Sat Request Reply Log Right) (c k : ℕ) (pre post : List (QueuedWriter Request × Reply)) (y : QueuedWriter Request × Reply) (o : QueuedWriter Request) (p : Reply) (mine : List (Request × Reply)) (g : Squad Request Reply) (walk : List (QueuedWriter Request)) → AtWith c (Settling (debt (pre ++ y ∷ post) o p)) mine (Serving g walk) me → k ≡ state_at y.0.by → y.0.by ≤ n
      → Allows (Listed stands n) slots id me k (λ _. 8) (λ _. after_make_parallel (step slots k 8 0 none) me 8)
  parallels slots id me c k pre post y o p mine g walk mid is_word small = allows stands n (λ _. Stays) slots id me k (λ _. 8) (λ _. after_make_parallel (step slots k 8 0 none) me 8) (parallels_is slots id me c k pre post y o p mine g walk mid is_word small)
