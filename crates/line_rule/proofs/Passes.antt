-- The steps with which a group comes into the second list, and to the right, keep the rule.
use Rattle.std.proofs.Common.{true, ◌≡◌, ◌≢◌, ℕ, ◌+◌, ◌*◌, ◌<◌, ◌≤◌, eqb, List, [], ◌∷◌, ◌++◌, length, get_or, set, refl, sym, ap, ◌∙◌, subst, ⊎_elim, arith, length-set, append-nil, get_or-set_other}
use mathlib.Core.Logic.{dite}
use mathlib.Core.Path.{Path}
use mathlib.Core.Option.{Option, none, some}
use native.Mathlib.Decide.{ℕ_discrete}
use lib.ListN.{get_elem?}
use lib.Seq.{set-get_or}
use prog.Atomic.{either}
use Rattle.atomic_table.specs.Table.{step, keeps, takes, Allows}
use Rattle.atomic_table.proofs.Lists.{at_set, set_else, exchanged}
use Rattle.line_rule.specs.declared.view.QueuedWriter.{QueuedWriter}
use Rattle.line_rule.specs.declared.view.Handling.{Handling}
use Rattle.line_rule.specs.declared.view.Lead.{Lead}
use Rattle.line_rule.specs.declared.view.Debt.{Debt}
use Rattle.line_rule.specs.declared.view.LineHold.{LineHold}
use Rattle.line_rule.specs.declared.view.Squad.{Squad}
use Rattle.line_rule.specs.declared.view.Back.{Back}
use Rattle.line_rule.specs.declared.view.Back.TheVariants.{Away, Parting, Joining, Holding, Queued, Serving, Passing}
use Rattle.line_rule.specs.declared.content.LineSlot.{LineSlot}
use Rattle.line_rule.specs.declared.content.LineSlot.TheVariants.{TheRight}
use Rattle.line_rule.specs.declared.view.LineStage.{LineStage}
use Rattle.line_rule.specs.declared.view.LineStage.TheVariants.{Stalling, Idle, Preparing, Waiting, Helping, Fresh, Leading, Cutting, Marking, Settling, Collecting}
use Rattle.line_rule.specs.Chain.{newest_from, state_at, older_at, pack, newest, LinksFrom, Absent}
use Rattle.line_rule.specs.Standing.{pause_of, Phase, linked, chosen, leads, Mode, open_, waits, led, built, cut, marked, base_of, Holds, InFront, Place, away, parted, queued, called, serves, served, calls, held_by, passes, ahead, Two, line_of, flat, Behind, KnowsBack}
use Rattle.line_rule.specs.Laws.{Laws}
use Rattle.line_rule.specs.Rule.{Knows, AllFit, hold_at, InPhase, InMode, Listed, InTurn, Second}
use Rattle.line_rule.specs.Steps.{Stays, HappensWhere, IsSecond, now_of, IsNow, StepIs}
use Rattle.line_rule.specs.SecondList.{apart_in, served_in, last_served, second_list_of}
use Rattle.line_rule.specs.Plays.{Sat, AtWith, squad_with_end, after_aim_second, after_join_second, after_summon, after_read_newest, IsCut}
use Rattle.line_rule.proofs.Chains.{put, put_here, put_else, links_stay, links_same, newest_small}
use Rattle.line_rule.proofs.Groups.{absent_append, linked_out, taken_absent}
use Rattle.line_rule.proofs.Moves.{St, Homes, row_stays, Goes, allows, unmoved}
use Rattle.line_rule.proofs.Seconds.{second_aims, second_behind, second_alone, second_serves, none_first}
use Rattle.line_rule.proofs.Squads.{is_level, one_ahead, one_holder, snoc_some}
use Rattle.line_rule.proofs.Onward.{back_map, parts_two, parts_else, one_hold_at, second_put, served_put, none_served, apart_put, behind_apart}
use Rattle.line_rule.proofs.Pauses.{queued_out, names_stay}

module _ {Request Reply : Type 0} where
  abbrev pub squad_of : Squad Request Reply → Back Request Reply → Squad Request Reply
  squad_of d Away = d
  squad_of d (Parting g k) = g
  squad_of d (Joining g) = g
  squad_of d (Holding g) = g
  squad_of d (Queued g) = g
  squad_of d (Serving g walk) = g
  squad_of d (Passing g x) = g

module _ {Request Reply : Type 0} where
  cut_knows : (line hand : List (QueuedWriter Request)) (handled : List (Handling Request Reply)) (mode : Mode Request) (phase : ℕ → Phase Request Reply) (due : ℕ → List (Request × Reply)) (c : ℕ) (lead : Lead Request Reply) (st : LineStage Request Reply) → IsCut lead st → Knows line hand handled mode phase due c st → Holds c mode × (lead.seen ≡ handled)
  cut_knows line hand handled mode phase due c lead Idle is ok = absurd is
  cut_knows line hand handled mode phase due c lead (Preparing w) is ok = absurd is
  cut_knows line hand handled mode phase due c lead (Waiting q past) is ok = absurd is
  cut_knows line hand handled mode phase due c lead (Helping q) is ok = absurd is
  cut_knows line hand handled mode phase due c lead (Fresh o n) is ok = absurd is
  cut_knows line hand handled mode phase due c lead (Leading l) is ok = absurd is
  cut_knows line hand handled mode phase due c lead (Stalling l t) is ok = absurd is
  cut_knows line hand handled mode phase due c lead (Cutting l e) is ok = (subst (Holds c) (sym ok.0) refl, ap (λ (z : Lead Request Reply). z.seen) (sym is) ∙ ok.3)
  cut_knows line hand handled mode phase due c lead (Marking l) is ok = (subst (Holds c) (sym ok.0) refl, ap (λ (z : Lead Request Reply). z.seen) (sym is) ∙ ok.3)
  cut_knows line hand handled mode phase due c lead (Settling b) is ok = absurd is
  cut_knows line hand handled mode phase due c lead Collecting is ok = absurd is

module _ {Request Reply : Type 0} where
  behind_called : (g : Squad Request Reply) (p : Place Request Reply) → Behind g p → ((f : Squad Request Reply) → p ≡ queued f → ⊥) → p ≡ called g
  behind_called g away ok un = absurd ok
  behind_called g (parted f k) ok un = absurd ok
  behind_called g (queued f) ok un = absurd (un f refl)
  behind_called g (called f) ok un = ap called ok
  behind_called g (serves f) ok un = absurd ok
  behind_called g (served f) ok un = absurd ok

module _ {Request Reply Log Right : Type 0} (stands : Laws Request Reply Log Right) (n : ℕ) where
  -- only the log's slot matters to the mode
  pub home_stays : (homes hs : Homes stands n) (line hand : List (QueuedWriter Request)) (handled : List (Handling Request Reply)) (phase : ℕ → Phase Request Reply) (due : ℕ → List (Request × Reply)) → get_elem? hs 0 ≡ get_elem? homes 0 → (mode : Mode Request) → InMode stands n homes line hand handled phase due mode → InMode stands n hs line hand handled phase due mode
  home_stays homes hs line hand handled phase due same open_ ok = (ok.0, ok.1, (ok.2.0, same ∙ ok.2.1, ok.2.2))
  home_stays homes hs line hand handled phase due same (waits c) ok = (ok.0, ok.1, (ok.2.0, same ∙ ok.2.1, ok.2.2))
  home_stays homes hs line hand handled phase due same (led c) ok = ok
  home_stays homes hs line hand handled phase due same (built c g t) ok = ok
  home_stays homes hs line hand handled phase due same (cut c w) ok = ok
  home_stays homes hs line hand handled phase due same (marked c) ok = ok

  -- a leader whose entry is not in front is not in the first list
  pub out_of_line : (homes : Homes stands n) (line hand : List (QueuedWriter Request)) (handled : List (Handling Request Reply)) (phase : ℕ → Phase Request Reply) (due : ℕ → List (Request × Reply)) (k : ℕ) (x : QueuedWriter Request) → phase k ≡ leads x → (mode : Mode Request) → (InFront k mode → ⊥) → InMode stands n homes line hand handled phase due mode → Absent k line
  out_of_line homes line hand handled phase due k x now open_ un ok = subst (Absent k) (sym ok.0) tt
  out_of_line homes line hand handled phase due k x now (waits c) un ok =
      subst (Absent k) (sym ok.0.2) (absent_append k ok.0.0 (ok.0.1 ∷ []) (linked_out phase k ok.0.0 (λ e bad. absurd (cc)) ok.0.3) ((λ e. let bad : phase k ≡ chosen ok.0.1 = ap phase (sym e ∙ ok.0.5) ∙ ok.0.4 in absurd (cc)), tt))
  out_of_line homes line hand handled phase due k x now (led c) un ok =
      subst (Absent k) (sym ok.0.2) (absent_append k ok.0.0 (ok.0.1 ∷ []) (linked_out phase k ok.0.0 (λ e bad. absurd (cc)) ok.0.3) ((λ e. un (sym ok.0.5 ∙ e)), tt))
  out_of_line homes line hand handled phase due k x now (built c g t) un ok =
      subst (Absent k) (sym ok.0.2) (absent_append k ok.0.0 (hand ++ ok.0.1 ∷ []) (queued_out phase due c k ok.0.0 t (λ e bad. absurd (cc)) (λ e bad _. absurd (cc)) ok.0.3)
      (absent_append k hand (ok.0.1 ∷ []) (taken_absent phase due c k hand (λ e bad _. absurd (cc)) ok.1) ((λ e. un (sym ok.0.5 ∙ e)), tt)))
  out_of_line homes line hand handled phase due k x now (cut c w) un ok =
      subst (Absent k) (sym ok.0.2) (absent_append k ok.0.0 (ok.0.1 ∷ []) (linked_out phase k ok.0.0 (λ e bad. absurd (cc)) ok.0.3) ((λ e. let bad : phase k ≡ linked ok.0.1 = ap phase (sym e ∙ ok.0.5) ∙ ok.0.4 in absurd (cc)), tt))
  out_of_line homes line hand handled phase due k x now (marked c) un ok = linked_out phase k line (λ e bad. absurd (cc)) ok.0

  -- the seat id, of one client, makes a step in the second list alone
  pub record Pass (s : St stands n) (r : Listed stands n s) (id : ℕ) (ws : List ℕ) (hs : Homes stands n) (c : ℕ) (st : LineStage Request Reply) (mine : List (Request × Reply)) (b z : Back Request Reply) (two : Two Request Reply) : Type 0 where
    pub at : get_elem? s.views id ≡ some (hold_at c st mine b ∷ [])
    pub wide : length ws ≡ length s.words
    pub many : length hs ≡ length s.homes
    pub first : get_or ws 0 0 ≡ get_or s.words 0 0
    pub third : get_or ws 3 0 ≡ get_or s.words 3 0
    pub links : LinksFrom (base_of r.mode) ws r.line
    pub rows : (k : ℕ) → 0 < k → k ≤ n → InPhase stands ws hs k (r.due k) (r.phase k)
    pub home : get_elem? hs 0 ≡ get_elem? s.homes 0
    pub second : Second stands n ws hs r.phase r.mode (stands.given r.handled) two
    pub back : KnowsBack two c z
    pub else_back : (k : ℕ) → k ≢ c → (y : Back Request Reply) → KnowsBack r.two k y → KnowsBack two k y

  module _ (s : St stands n) (r : Listed stands n s) (id : ℕ) (ws : List ℕ) (hs : Homes stands n) (c : ℕ) (st : LineStage Request Reply) (mine : List (Request × Reply)) (b z : Back Request Reply) (two : Two Request Reply) where
    pass_fit : (v : Pass s r id ws hs c st mine b z two) (j : ℕ) → j ≢ id → (xs : List (LineHold Request Reply)) → AllFit n r.line r.hand r.handled r.mode r.phase r.due r.told r.two r.account.events r.seat j xs → AllFit n r.line r.hand r.handled r.mode r.phase r.due r.told two r.account.events r.seat j xs
    pass_fit v j other [] ok = tt
    pass_fit v j other (x ∷ xs) ok =
        let fit = (r.seats id (hold_at c st mine b ∷ []) v.at).0 in
        let ne : x.client ≢ c = λ e. other (sym ok.0.0 ∙ (ap r.seat e ∙ fit.0)) in
        ((ok.0.0, ok.0.1, ok.0.2, ok.0.3, ok.0.4, v.else_back x.client ne x.back ok.0.5, ok.0.6), pass_fit v j other xs ok.1)

    pub passed_to : Pass s r id ws hs c st mine b z two → IsNow stands n ((now_of stands n s r).0, second_list_of two) (record { words = ws; homes = hs; views = set s.views id (hold_at c st mine z ∷ []) })
    passed_to v =
        let fit = (r.seats id (hold_at c st mine b ∷ []) v.at).0 in (
          record {
            line = r.line;
            hand = r.hand;
            handled = r.handled;
            mode = r.mode;
            phase = r.phase;
            due = r.due;
            told = r.told;
            two = two;
            seat = r.seat;
            few = r.few;
            nobody = r.nobody;
            wide = v.wide ∙ r.wide;
            many = v.many ∙ r.many;
            newest_is = names_stay s.words ws (newest_from (base_of r.mode) r.line) (pause_of r.mode) v.first v.third r.newest_is;
            links = v.links;
            distinct = r.distinct;
            within = r.within;
            stand = r.stand;
            rows = v.rows;
            log_is = home_stays s.homes hs r.line r.hand r.handled r.phase r.due v.home r.mode r.log_is;
            one_chosen = r.one_chosen;
            shared_out = r.shared_out;
            account = r.account;
            has_cut = r.has_cut;
            owing_is = r.owing_is;
            kept = r.kept;
            coded = r.coded;
            second = v.second;
            seats = λ j x e. ⊎_elim
                (λ (t : (j ≡ id) × (hold_at c st mine z ∷ [] ≡ x)). subst (λ (y : ℕ × List (LineHold Request Reply)). AllFit n r.line r.hand r.handled r.mode r.phase r.due r.told two r.account.events r.seat y.0 y.1) (λ i. (sym t.0 i, t.1 i)) ((fit.0, fit.1, fit.2, fit.3, fit.4, v.back, fit.6), tt))
                (λ (t : (j ≢ id) × (get_elem? s.views j ≡ some x)). pass_fit v j t.0 x (r.seats j x t.1))
                (at_set s.views id j (hold_at c st mine z ∷ []) x e);
          },
          refl,
        )

    -- and the second list is as it was
    pub passed : second_list_of two ≡ second_list_of r.two → Pass s r id ws hs c st mine b z two → IsNow stands n (now_of stands n s r) (record { words = ws; homes = hs; views = set s.views id (hold_at c st mine z ∷ []) })
    passed same v = let t = passed_to v in (t.0, t.1 ∙ (λ i. ((now_of stands n s r).0, same i)))

  -- rows where one leader's words change
  pub rows_else : (words ws : List ℕ) (homes hs : Homes stands n) (due : ℕ → List (Request × Reply)) (phase : ℕ → Phase Request Reply) (m : ℕ) (x : QueuedWriter Request) → phase m ≡ leads x → ((k : ℕ) → k ≢ m → get_or ws (state_at k) 0 ≡ get_or words (state_at k) 0) → ((k : ℕ) → k ≢ m → get_or ws (older_at k) 0 ≡ get_or words (older_at k) 0)
      → ((k : ℕ) → k ≤ n → get_elem? hs k ≡ get_elem? homes k) → ((k : ℕ) → 0 < k → k ≤ n → InPhase stands words homes k (due k) (phase k)) → (k : ℕ) → 0 < k → k ≤ n → InPhase stands ws hs k (due k) (phase k)
  rows_else words ws homes hs due phase m x now state older home ok k lo hi = dite (ℕ_discrete k m)
      (λ e. let here : phase k ≡ leads x = ap phase e ∙ now in subst (InPhase stands ws hs k (due k)) (sym here) (subst (InPhase stands words homes k (due k)) here (ok k lo hi)))
      (λ ne. row_stays stands n words ws homes hs k (due k) (state k ne) (older k ne) (home k hi) (phase k) (ok k lo hi))

  -- the store of the leader's link
  pub aims_second_is : (slots id : ℕ) (me : Sat Request Reply Log Right) (c k b new : ℕ) (st : LineStage Request Reply) (mine : List (Request × Reply)) (g : Squad Request Reply) (b0 : ℕ) → AtWith c st mine (Parting g b0) me → k ≡ older_at c → new ≡ pack b g.own.code
      → StepIs stands n (λ _. Stays) slots id me k (λ _. new) (λ _. after_aim_second (step slots k new 0 none) me new)
  aims_second_is slots id me c k b new st mine g b0 mid is_word is_new s r long at fits =
      let at' : get_elem? s.views id ≡ some (hold_at c st mine (Parting g b0) ∷ []) = at ∙ ap some mid in
      let fit = (r.seats id (hold_at c st mine (Parting g b0) ∷ []) at').0 in
      let lo : 0 < c = fit.1 in
      let hi : c ≤ n = fit.2 in
      let old = r.second.parts c g b0 fit.5.0 in
      let now : r.phase c ≡ leads g.own = old.1 in
      let wide : length s.words ≡ 2 * n + 4 = r.wide in
      let ws : List ℕ = set s.words k new in
      let same : (j : ℕ) → j ≢ k → get_or ws j 0 ≡ get_or s.words j 0 = λ j ne. get_or-set_other s.words k j new 0 (λ e. ne (omega arith)) in
      let older : (j : ℕ) → j ≢ c → get_or ws (older_at j) 0 ≡ get_or s.words (older_at j) 0 = λ j ne. same (older_at j) (λ e. ne (omega arith)) in
      let out : Absent c r.line = out_of_line s.homes r.line r.hand r.handled r.phase r.due c g.own now r.mode (λ h. let bad : Path (Place Request Reply) (parted g b0) away = sym fit.5.0 ∙ r.second.in_front c h in absurd (cc)) r.log_is in
      let two' : Two Request Reply = parts_two r.two c g b in (
        hold_at c st mine (Parting g b) ∷ [],
        keeps,
        tt,
        (
          now_of stands n s r,
          refl,
          passed s r id ws s.homes c st mine (Parting g b0) (Parting g b) two' (second_put r.two c (parted g b) r.two.turn (sym (ap apart_in fit.5.0)) (served_put r.two.place c (parted g b) (sym (ap served_in fit.5.0)) r.two.turn)) record {
            at = at';
            wide = length-set s.words k new;
            many = refl;
            first = same 0 (λ e. omega arith);
            third = same 3 (λ e. omega arith);
            links = links_stay (base_of r.mode) s.words ws c r.line older out r.links;
            rows = rows_else s.words ws s.homes s.homes r.due r.phase c g.own now (λ j _. same (state_at j) (λ e. omega arith)) older (λ _ _. refl) r.rows;
            home = refl;
            second = subst (λ (j : ℕ). Second stands n (set s.words j new) s.homes r.phase r.mode (stands.given r.handled) two') (sym is_word) (second_aims stands n s.words s.homes r.phase r.mode (stands.given r.handled) r.two r.second c g b0 b new fit.5.0 lo hi is_new r.wide);
            back = (put_here r.two.place c (parted g b), fit.5.1);
            else_back = parts_else r.two c g b;
          },
        ),
        λ c' st' mine' g' b0' b' mid' is_new'.
            let e = one_hold_at c c' st st' mine mine' (Parting g b0) (Parting g' b0') me.0 mid mid' in
            let same_g : g ≡ g' = ap (squad_of g) e.3 in
            let same_b : b ≡ b' = let code : g.own.code ≡ g'.own.code = ap (λ (y : Squad Request Reply). y.own.code) same_g in omega (arith, code, is_new, is_new') in
            ((λ i. hold_at (e.0 i) (e.1 i) (e.2 i) (Parting (same_g i) (same_b i)) ∷ []), refl),
      )

  pub aims_second : (slots id : ℕ) (me : Sat Request Reply Log Right) (c k b new : ℕ) (st : LineStage Request Reply) (mine : List (Request × Reply)) (g : Squad Request Reply) (b0 : ℕ) → AtWith c st mine (Parting g b0) me → k ≡ older_at c → new ≡ pack b g.own.code
      → Allows (Listed stands n) slots id me k (λ _. new) (λ _. after_aim_second (step slots k new 0 none) me new)
  aims_second slots id me c k b new st mine g b0 mid is_word is_new = allows stands n (λ _. Stays) slots id me k (λ _. new) (λ _. after_aim_second (step slots k new 0 none) me new) (aims_second_is slots id me c k b new st mine g b0 mid is_word is_new)

  -- a load of the newest writer of the second list, by anyone
  pub peeks_second_is : (slots id : ℕ) (me : Sat Request Reply Log Right) → StepIs stands n (λ _. Stays) slots id me 1 (λ y. y) (after_read_newest (step slots 1 0 0 none) me)
  peeks_second_is slots id me s r long at fits = (
    me.0,
    keeps,
    tt,
    unmoved stands n Stays s 1 id me.1 me.0 at r refl,
    (refl, subst (λ (k : ℕ). k < 256) (sym r.second.newest_is) (newest_small n 0 (flat r.two.groups) (let f = r.few in omega arith) (omega arith) r.second.within)),
  )

  pub peeks_second : (slots id : ℕ) (me : Sat Request Reply Log Right) → Allows (Listed stands n) slots id me 1 (λ y. y) (after_read_newest (step slots 1 0 0 none) me)
  peeks_second slots id me = allows stands n (λ _. Stays) slots id me 1 (λ y. y) (after_read_newest (step slots 1 0 0 none) me) (peeks_second_is slots id me)

  module _ (to : List (Handling Request Reply)) (slots id : ℕ) (me : Sat Request Reply Log Right) (c b new : ℕ) (st : LineStage Request Reply) (lead : Lead Request Reply) (mine : List (Request × Reply)) (g : Squad Request Reply) (said : Option (LineSlot Request Reply Log Right)) (piped : stands.piped ≡ true) (mid : AtWith c st mine (Parting g b) me) (is_cut : IsCut lead st) (from_is : g.from ≡ stands.given lead.seen) (is_new : new ≡ newest (line_of g))
      (s : St stands n) (r : Listed stands n s) (long : length s.homes ≡ slots) (at : get_elem? s.views id ≡ some me.0) (hit : get_or s.words 1 0 ≡ b) where
    abbrev saw : ℕ → Sat Request Reply Log Right → Type 0
    saw = after_join_second stands.rights to (step slots 1 b new said) me

    abbrev g' : Squad Request Reply
    g' = squad_with_end g to

    abbrev h : LineHold Request Reply
    h = hold_at c st mine (Parting g b)

    at' : get_elem? s.views id ≡ some (h ∷ [])
    at' = at ∙ ap some mid

    abbrev ws : List ℕ
    ws = set s.words 1 new

    same : (j : ℕ) → j ≢ 1 → get_or ws j 0 ≡ get_or s.words j 0
    same j ne = get_or-set_other s.words 1 j new 0 (λ e. ne (omega arith))

    joins_behind : b ≢ 0 → Goes stands n (HappensWhere b (IsSecond c g to)) s r 1 id me saw new
    joins_behind nonzero =
        let fit = (r.seats id (h ∷ []) at').0 in
        let kn = cut_knows r.line r.hand r.handled r.mode r.phase r.due c lead st is_cut fit.4 in
        let two' : Two Request Reply = record { groups = g' ∷ r.two.groups; place = put r.two.place c (queued g'); turn = r.two.turn; lead = ahead c; done = r.two.done } in (
          hold_at c st mine (Joining g') ∷ [],
          keeps,
          tt,
          (
            ((now_of stands n s r).0, second_list_of two'),
            ((λ _. (ap apart_in fit.5.0, is_level r.two.lead (λ k t. fit.5.1 (t ∙ ap ahead (one_holder r.mode k c (r.second.ahead_holds k t) kn.0))), refl, ap (λ l. (g' ∷ r.two.groups) ++ l) (served_put r.two.place c (queued g') (sym (ap served_in fit.5.0)) r.two.turn), refl, apart_put r.two.place c (queued g'))), λ miss. absurd (miss hit)),
            passed_to s r id ws s.homes c st mine (Parting g b) (Joining g') two' record {
              at = at';
              wide = length-set s.words 1 new;
              many = refl;
              first = same 0 (λ e. omega arith);
              third = same 3 (λ e. omega arith);
              links = links_same (base_of r.mode) s.words ws r.line (λ j. same (older_at j) (λ e. omega arith)) r.links;
              rows = λ k lo hi. row_stays stands n s.words ws s.homes s.homes k (r.due k) (same (state_at k) (λ e. omega arith)) (same (older_at k) (λ e. omega arith)) refl (r.phase k) (r.rows k lo hi);
              home = refl;
              second = second_behind stands n s.words s.homes r.phase r.mode (stands.given r.handled) r.two r.second piped c g' g b new fit.5.0 refl refl (from_is ∙ ap stands.given kn.1) fit.5.1 kn.0 is_new hit r.wide nonzero;
              back = (subst (Behind g') (sym (put_here r.two.place c (queued g'))) refl, refl);
              else_back = λ k ne. back_map r.two two' k (put_else r.two.place c (queued g') k ne) (λ t. (t, (line_of g', refl))) (λ w t. (t, refl)) (λ t. absurd (ne (one_holder r.mode k c (r.second.ahead_holds k t) kn.0))) (λ t. absurd (ne (sym (one_ahead c k t))));
            },
          ),
          λ c' st' mine' f b' mid'.
              let e = one_hold_at c c' st st' mine mine' (Parting g b) (Parting f b') me.0 mid mid' in
              let same_g : g ≡ f = ap (squad_of g) e.3 in (
                (λ _ _. ((λ i. hold_at (e.0 i) (e.1 i) (e.2 i) (Joining (squad_with_end (same_g i) to)) ∷ []), refl)),
                (λ _ z. absurd (nonzero (sym hit ∙ z))),
                λ miss. absurd (miss hit),
              ),
        )

    joins_alone : b ≡ 0 → Goes stands n (HappensWhere b (IsSecond c g to)) s r 1 id me saw new
    joins_alone zero_b =
        let fit = (r.seats id (h ∷ []) at').0 in
        let kn = cut_knows r.line r.hand r.handled r.mode r.phase r.due c lead st is_cut fit.4 in
        let hs = set s.homes (n + 1) none in
        let many : length s.homes ≡ n + 2 = r.many in
        let home_else : (k : ℕ) → k ≤ n → get_elem? hs k ≡ get_elem? s.homes k = λ k small. set_else s.homes (n + 1) k none (λ e. omega arith) in
        let two' : Two Request Reply = record { groups = g' ∷ r.two.groups; place = put r.two.place c (serves g'); turn = held_by c; lead = ahead c; done = r.two.done } in
        let al = second_alone stands n s.words s.homes r.phase r.mode (stands.given r.handled) r.two r.second piped c g' g b new fit.5.0 refl refl (from_is ∙ ap stands.given kn.1) fit.5.1 kn.0 is_new hit r.wide zero_b in
        let right : Right = al.0.0 in
        let nil : r.two.groups ≡ [] = none_first stands n r.two.groups r.second.within (sym r.second.newest_is ∙ (hit ∙ zero_b)) in
        let nobody_holds : (k : ℕ) → r.two.turn ≡ held_by k → ⊥ = λ k t. let z = subst (InTurn stands n s.words s.homes r.phase r.two) t r.second.turn_is in snoc_some z.0 z.1 (sym z.2 ∙ nil) in
        let nobody_passes : (k w : ℕ) → r.two.turn ≡ passes k w → ⊥ = λ k w t. let z = subst (InTurn stands n s.words s.homes r.phase r.two) t r.second.turn_is in snoc_some z.0 z.1 (sym z.2 ∙ nil) in (
          hold_at c st mine (Holding g') ∷ [],
          takes (n + 1) (TheRight right),
          al.0.1,
          (
            ((now_of stands n s r).0, second_list_of two'),
            ((λ _. (ap apart_in fit.5.0, is_level r.two.lead (λ k t. fit.5.1 (t ∙ ap ahead (one_holder r.mode k c (r.second.ahead_holds k t) kn.0))), refl, ap (λ l. (g' ∷ r.two.groups) ++ l) (sym (none_served r.two.place r.two.turn nobody_passes)), refl, apart_put r.two.place c (serves g'))), λ miss. absurd (miss hit)),
            passed_to s r id ws hs c st mine (Parting g b) (Holding g') two' record {
              at = at';
              wide = length-set s.words 1 new;
              many = length-set s.homes (n + 1) none;
              first = same 0 (λ e. omega arith);
              third = same 3 (λ e. omega arith);
              links = links_same (base_of r.mode) s.words ws r.line (λ j. same (older_at j) (λ e. omega arith)) r.links;
              rows = λ k lo hi. row_stays stands n s.words ws s.homes hs k (r.due k) (same (state_at k) (λ e. omega arith)) (same (older_at k) (λ e. omega arith)) (home_else k hi) (r.phase k) (r.rows k lo hi);
              home = home_else 0 (omega arith);
              second = al.1;
              back = (refl, put_here r.two.place c (serves g'), refl);
              else_back = λ k ne. back_map r.two two' k (put_else r.two.place c (serves g') k ne) (λ t. absurd (nobody_holds k t)) (λ w t. absurd (nobody_passes k w t)) (λ t. absurd (ne (one_holder r.mode k c (r.second.ahead_holds k t) kn.0))) (λ t. absurd (ne (sym (one_ahead c k t))));
            },
          ),
          λ c' st' mine' f b' mid'.
              let e = one_hold_at c c' st st' mine mine' (Parting g b) (Parting f b') me.0 mid mid' in
              let same_g : g ≡ f = ap (squad_of g) e.3 in (
                (λ _ nz. absurd (nz (hit ∙ zero_b))),
                (λ _ _. (right, n + 1, subst (λ (y : Squad Request Reply). stands.rights right y.from) same_g al.0.2, (λ i. hold_at (e.0 i) (e.1 i) (e.2 i) (Holding (squad_with_end (same_g i) to)) ∷ []), refl, omega (arith, long))),
                λ miss. absurd (miss hit),
              ),
        )

  -- the compare-exchange of the newest writer of the second list
  pub joins_second_is : (to : List (Handling Request Reply)) (slots id : ℕ) (me : Sat Request Reply Log Right) (c b new : ℕ) (st : LineStage Request Reply) (lead : Lead Request Reply) (mine : List (Request × Reply)) (g : Squad Request Reply) (said : Option (LineSlot Request Reply Log Right)) → stands.piped ≡ true → AtWith c st mine (Parting g b) me → IsCut lead st → g.from ≡ stands.given lead.seen → new ≡ newest (line_of g)
      → StepIs stands n (HappensWhere b (IsSecond c g to)) slots id me 1 (λ y. either (eqb y b) new y) (after_join_second stands.rights to (step slots 1 b new said) me)
  joins_second_is to slots id me c b new st lead mine g said piped mid is_cut from_is is_new s r long at fits = exchanged (get_or s.words 1 0) b new (Goes stands n (HappensWhere b (IsSecond c g to)) s r 1 id me (after_join_second stands.rights to (step slots 1 b new said) me))
      (λ hit. dite (ℕ_discrete b 0)
      (λ z. joins_alone to slots id me c b new st lead mine g said piped mid is_cut from_is is_new s r long at hit z)
      (λ nz. joins_behind to slots id me c b new st lead mine g said piped mid is_cut from_is is_new s r long at hit nz))
      (λ miss. (me.0, keeps, tt, unmoved stands n (HappensWhere b (IsSecond c g to) (get_or s.words 1 0)) s 1 id me.1 me.0 at r ((λ hit. absurd (miss hit)), λ _. refl), λ c' st' mine' f b' mid'. ((λ hit. absurd (miss hit)), (λ hit. absurd (miss hit)), λ _. refl)))

  pub joins_second : (to : List (Handling Request Reply)) (slots id : ℕ) (me : Sat Request Reply Log Right) (c b new : ℕ) (st : LineStage Request Reply) (lead : Lead Request Reply) (mine : List (Request × Reply)) (g : Squad Request Reply) (said : Option (LineSlot Request Reply Log Right)) → stands.piped ≡ true → AtWith c st mine (Parting g b) me → IsCut lead st → g.from ≡ stands.given lead.seen → new ≡ newest (line_of g)
      → Allows (Listed stands n) slots id me 1 (λ y. either (eqb y b) new y) (after_join_second stands.rights to (step slots 1 b new said) me)
  joins_second to slots id me c b new st lead mine g said piped mid is_cut from_is is_new = allows stands n (HappensWhere b (IsSecond c g to)) slots id me 1 (λ y. either (eqb y b) new y) (after_join_second stands.rights to (step slots 1 b new said) me) (joins_second_is to slots id me c b new st lead mine g said piped mid is_cut from_is is_new)

  -- a load of the client's own state: 4, that is STATE_LEADS_TABLE, gives the right
  pub summons_is : (slots id : ℕ) (me : Sat Request Reply Log Right) (c k : ℕ) (d : Debt Request Reply) (mine : List (Request × Reply)) (g : Squad Request Reply) → stands.piped ≡ true → AtWith c (Settling d) mine (Queued g) me → k ≡ state_at c → StepIs stands n (λ _. Stays) slots id me k (λ y. y) (after_summon stands.rights (step slots k 0 0 none) me)
  summons_is slots id me c k d mine g piped mid is_word s r long at fits =
      let st : LineStage Request Reply = Settling d in
      let at' : get_elem? s.views id ≡ some (hold_at c st mine (Queued g) ∷ []) = at ∙ ap some mid in
      let fit = (r.seats id (hold_at c st mine (Queued g) ∷ []) at').0 in
      let x : ℕ = get_or s.words k 0 in
      let many : length s.homes ≡ n + 2 = r.many in
      dite (ℕ_discrete x 4)
      (λ four.
      let is_called : r.two.place c ≡ called g = behind_called g (r.two.place c) fit.5.0 (λ f e. r.second.quiet_queued c f e (ap (λ (j : ℕ). get_or s.words j 0) (sym is_word) ∙ four)) in
      let turn_c : r.two.turn ≡ calls c = r.second.called_turn c g is_called in
      let sv = second_serves stands n s.words s.homes r.phase r.mode (stands.given r.handled) r.two r.second piped c g is_called fit.5.1 in
      let right : Right = sv.0.0 in
      let hs = set s.homes (n + 1) none in
      let home_else : (j : ℕ) → j ≤ n → get_elem? hs j ≡ get_elem? s.homes j = λ j small. set_else s.homes (n + 1) j none (λ e. omega arith) in
      let two' : Two Request Reply = record { groups = r.two.groups; place = put r.two.place c (serves g); turn = held_by c; lead = r.two.lead; done = r.two.done } in
      let after : IsNow stands n (now_of stands n s r) (record { words = s.words; homes = hs; views = set s.views id (hold_at c st mine (Serving g []) ∷ []) }) = passed s r id s.words hs c st mine (Queued g) (Serving g []) two' (second_put r.two c (serves g) (held_by c) (sym (behind_apart g (r.two.place c) fit.5.0)) (sym (ap (last_served r.two.place) turn_c))) record {
        at = at';
        wide = refl;
        many = length-set s.homes (n + 1) none;
        first = refl;
        third = refl;
        links = r.links;
        rows = λ j lo hi. row_stays stands n s.words s.words s.homes hs j (r.due j) refl refl (home_else j hi) (r.phase j) (r.rows j lo hi);
        home = home_else 0 (omega arith);
        second = sv.1;
        back = (refl, put_here r.two.place c (serves g), fit.5.1, (flat r.two.groups, sym (append-nil (flat r.two.groups))));
        else_back = λ j ne. back_map r.two two' j (put_else r.two.place c (serves g) j ne) (λ t. let bad : calls c ≡ held_by j = sym turn_c ∙ t in absurd (cc)) (λ w t. let bad : calls c ≡ passes j w = sym turn_c ∙ t in absurd (cc)) (λ t. t) (λ t. t);
      } in (
        hold_at c st mine (Serving g []) ∷ [],
        takes (n + 1) (TheRight right),
        sv.0.1,
        (now_of stands n s r, refl, subst (λ (z : List ℕ). IsNow stands n (now_of stands n s r) (record { words = z; homes = hs; views = set s.views id (hold_at c st mine (Serving g []) ∷ []) })) (sym (set-get_or s.words k 0)) after),
        λ c' d' mine' f mid'.
            let e = one_hold_at c c' st (Settling d') mine mine' (Queued g) (Queued f) me.0 mid mid' in
            let same_g : g ≡ f = ap (squad_of g) e.3 in (
              (λ _. (right, n + 1, subst (λ (y : Squad Request Reply). stands.rights right y.from) same_g sv.0.2, (λ i. hold_at (e.0 i) (e.1 i) (e.2 i) (Serving (same_g i) []) ∷ []), refl, omega (arith, long))),
              λ no. absurd (no four),
            ),
      ))
      (λ other. (me.0, keeps, tt, unmoved stands n Stays s k id me.1 me.0 at r refl, λ c' d' mine' f mid'. ((λ four. absurd (other four)), λ _. refl)))

  pub summons : (slots id : ℕ) (me : Sat Request Reply Log Right) (c k : ℕ) (d : Debt Request Reply) (mine : List (Request × Reply)) (g : Squad Request Reply) → stands.piped ≡ true → AtWith c (Settling d) mine (Queued g) me → k ≡ state_at c → Allows (Listed stands n) slots id me k (λ y. y) (after_summon stands.rights (step slots k 0 0 none) me)
  summons slots id me c k d mine g piped mid is_word = allows stands n (λ _. Stays) slots id me k (λ y. y) (after_summon stands.rights (step slots k 0 0 none) me) (summons_is slots id me c k d mine g piped mid is_word)
