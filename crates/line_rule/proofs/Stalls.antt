-- A leader begins a stall and ends it: that each of these steps keeps the rule, and which event it is.
use Rattle.std.proofs.Common.{◌≡◌, ◌≢◌, ℕ, ◌+◌, ◌*◌, ◌<◌, ◌≤◌, eqb, false, List, [], ◌∷◌, ◌++◌, length, get_or, set, refl, sym, ap, ◌∙◌, subst, inl, arith, length-set, get_or-set_other, get_or-set_same}
use mathlib.Core.Logic.{dite}
use mathlib.Core.Path.{Path}
use mathlib.Core.Option.{Option, none, some}
use native.Mathlib.Decide.{ℕ_discrete}
use lib.ListN.{get_elem?}
use lib.Seq.{set-get_or}
use prog.Atomic.{either}
use Rattle.atomic_table.specs.Table.{step, keeps, gives, stepped, carried_after, Allows}
use Rattle.atomic_table.proofs.Lists.{set_else, set_here, exchanged}
use Rattle.line_rule.specs.declared.view.QueuedWriter.{QueuedWriter}
use Rattle.line_rule.specs.declared.view.LineHold.{LineHold}
use Rattle.line_rule.specs.declared.view.Lead.{Lead}
use Rattle.line_rule.specs.declared.view.Stall.{Stall}
use Rattle.line_rule.specs.declared.view.Stall.TheVariants.{Aimed, Stopped}
use Rattle.line_rule.specs.declared.content.LineSlot.{LineSlot}
use Rattle.line_rule.specs.declared.content.LineSlot.TheVariants.{Empty}
use Rattle.line_rule.specs.declared.view.LineStage.{LineStage}
use Rattle.line_rule.specs.declared.view.LineStage.TheVariants.{Idle, Preparing, Leading, Stalling}
use Rattle.line_rule.specs.Chain.{state_at, older_at, newest_from, LinksFrom, Absent, Distinct, Within}
use Rattle.line_rule.specs.Events.{Core, GoesOn, is_hasty, stalls, resumes}
use Rattle.line_rule.specs.Laws.{Laws}
use Rattle.line_rule.specs.Standing.{Phase, idle, preparing, linked, chosen, leads, Pause, calm, aimed, stopped, holding, owing, Names, Mode, waits, built, base_of, pause_of, Holds, InFront}
use Rattle.line_rule.specs.Rule.{InChain, hold, InPhase, InMode, InSecond, AllTaken, AllQueued, due_untold, Account, Knows, Recalls, Listed}
use Rattle.line_rule.specs.SecondList.{second_list_of}
use Rattle.line_rule.specs.Steps.{Stays, ShowsStall, HappensWhere, IsStall, IsResume, now_of, IsNow, StepIs}
use Rattle.line_rule.specs.Plays.{Sat, At, in_hand, lead_with_walk, after_read_newest}
use Rattle.line_rule.specs.Stalls.{after_withdraw, after_aim_stall, Stops, after_stall, after_resume}
use Rattle.line_rule.proofs.Chains.{put, put_at, put_here, links_stay, ends_same, stand_change, taken_change}
use Rattle.line_rule.proofs.Exits.{owing_stays}
use Rattle.line_rule.proofs.Accounts.{restays_now, stalls_now, resumes_now}
use Rattle.line_rule.proofs.Pauses.{queued_change, newest_unmarked, halting}
use Rattle.line_rule.proofs.Moves.{St, row_stays, knows_else, recalls_more, moved, Goes, allows}
use Rattle.line_rule.proofs.Keeps.{put_same, second_stays}
use Rattle.line_rule.proofs.Groups.{walk_bound}
use Rattle.line_rule.proofs.Leads.{one_leads, lead_in, all_below}
use Rattle.line_rule.proofs.Enters.{aside, one_hold, peeks_is}
use Rattle.line_rule.specs.declared.words.TheConstants.{STALL}

module _ {Request : Type 0} where
  -- nobody has the number 0
  pub none_zero : (n : ℕ) (es : List (QueuedWriter Request)) → Within n es → Absent 0 es
  none_zero n [] ok = tt
  none_zero n (e ∷ es) ok = ((λ is. let lo : 0 < e.by = ok.0 in omega arith), none_zero n es ok.2)

  -- which writers of the queue wait doesn't depend on how far the stall is, as long as the leader holds no request
  abbrev pub IsPlain : Pause Request → Type 0
  IsPlain calm = Unit {0}
  IsPlain (aimed w) = Unit {0}
  IsPlain (stopped w) = Unit {0}
  IsPlain (holding w x) = ⊥
  IsPlain (owing w x) = Unit {0}

module _ {Request Reply : Type 0} where
  pub plain_queued : (phase : ℕ → Phase Request Reply) (due : ℕ → List (Request × Reply)) (c : ℕ) (queue : List (QueuedWriter Request)) (t t' : Pause Request) → IsPlain t → IsPlain t' → AllQueued phase due c queue t → AllQueued phase due c queue t'
  plain_queued phase due c queue t t' a b ok = to t' b (from t a ok)
    where
      from : (t : Pause Request) → IsPlain t → AllQueued phase due c queue t → AllQueued phase due c queue calm
      from calm a ok = ok
      from (aimed w) a ok = ok
      from (stopped w) a ok = ok
      from (holding w x) a ok = absurd a
      from (owing w x) a ok = ok

      to : (t : Pause Request) → IsPlain t → AllQueued phase due c queue calm → AllQueued phase due c queue t
      to calm b ok = ok
      to (aimed w) b ok = ok
      to (stopped w) b ok = ok
      to (holding w x) b ok = absurd b
      to (owing w x) b ok = ok

  abbrev pub stall_in : Stall Request Reply → LineStage Request Reply → Stall Request Reply
  stall_in d (Stalling l t) = t
  stall_in d other = d

module _ {Request Reply Log Right : Type 0} (stands : Laws Request Reply Log Right) (n : ℕ) where
  -- what the rule says of a leader that stalls writes, or may
  pub record Halts (s : St stands n) (r : Listed stands n s) (c : ℕ) (lead : Lead Request Reply) (t : Pause Request) : Type 0 where
    pub queue : List (QueuedWriter Request)
    pub parts : r.line ≡ queue ++ in_hand lead
    pub queued : AllQueued r.phase r.due c queue t
    pub members : AllTaken r.phase r.due c lead.taken
    pub own_due : r.due c ≡ []
    pub own_by : lead.own.by ≡ c
    pub base : base_of r.mode ≡ 0
    pub names : Names s.words (newest_from 0 r.line) t

  pub staller : (s : St stands n) (r : Listed stands n s) (c : ℕ) (lead : Lead Request Reply) (t : Pause Request) → 0 < c → c ≤ n → r.mode ≡ built c lead.group t → r.phase c ≡ leads lead.own → lead.taken ≡ r.hand → Halts s r c lead t
  staller s r c lead t lo hi is now hand =
      let m = subst (InMode stands n s.homes r.line r.hand r.handled r.phase r.due) is r.log_is in
      let same : m.0.1 ≡ lead.own = one_leads m.0.1 lead.own (sym m.0.4 ∙ now) in
      record {
        queue = m.0.0;
        parts = m.0.2 ∙ (λ i. m.0.0 ++ (sym hand i ++ same i ∷ []));
        queued = m.0.3;
        members = subst (AllTaken r.phase r.due c) (sym hand) m.1;
        own_due = m.2;
        own_by = subst (InPhase stands s.words s.homes c (r.due c)) now (r.rows c lo hi);
        base = ap base_of is;
        names = subst (λ (z : ℕ × Pause Request). Names s.words (newest_from z.0 r.line) z.1) (λ i. (base_of (is i), pause_of (is i))) r.newest_is;
      }

  -- only the words of the newest writer change, and how far the stall is
  pub repaused : (s : St stands n) (r : Listed stands n s) (c id : ℕ) (lead : Lead Request Reply) (mine : List (Request × Reply)) (st st' : LineStage Request Reply) (t t' : Pause Request) (ws : List ℕ) (k : Account stands.bound r.line r.handled (built c lead.group t'))
      → get_elem? s.views id ≡ some (hold c st mine ∷ []) → r.mode ≡ built c lead.group t → r.phase c ≡ leads lead.own → lead.taken ≡ r.hand → IsPlain t → IsPlain t'
      → length ws ≡ length s.words → ((j : ℕ) → j ≢ 0 → j ≢ 3 → get_or ws j 0 ≡ get_or s.words j 0) → Names ws (newest_from 0 r.line) t'
      → k.owing ≡ r.account.owing → GoesOn k.events r.account.events → Recalls k.events st' → ((phase : ℕ → Phase Request Reply) → phase c ≡ leads lead.own → Knows r.line r.hand r.handled (built c lead.group t') phase r.due c st')
      → IsNow stands n ((k.queue, k.log, r.handled, k.owing), second_list_of r.two) (record { words = ws; homes = s.homes; views = set s.views id (hold c st' mine ∷ []) })
  repaused s r c id lead mine st st' t t' ws k at' is now hand plain plain' wide same names owes goes_on recalls knows =
      let h : LineHold Request Reply = hold c st mine in
      let fit = (r.seats id (h ∷ []) at').0 in
      let f = staller s r c lead t fit.1 fit.2 is now hand in
      let ph : Phase Request Reply = leads lead.own in
      let here : put r.phase c ph c ≡ ph = put_here r.phase c ph in
      let to_linked : (e : QueuedWriter Request) → r.phase c ≡ linked e → ph ≡ linked e = λ e bad. absurd (let two : Path (Phase Request Reply) (leads lead.own) (linked e) = sym now ∙ bad in cc) in
      moved stands n s r c id ws s.homes h (hold c st' mine) r.line r.hand r.handled (built c lead.group t') ph r.due r.told r.two record {
        at = at';
        real = fit.1;
        same_client = refl;
        wide = wide;
        many = refl;
        newest_is = names;
        links = links_stay 0 s.words ws 0 r.line (λ j ne. same (older_at j) (λ e. omega arith) (λ e. ne (omega arith))) (none_zero n r.line r.within) (subst (λ b. LinksFrom b s.words r.line) f.base r.links);
        distinct = r.distinct;
        within = r.within;
        stand = stand_change r.phase c ph r.line (λ e is_in. subst (InChain e) now is_in) r.stand;
        other_rows = λ j ne lo _. row_stays stands n s.words ws s.homes s.homes j (r.due j) (same (state_at j) (λ e. omega arith) (λ e. omega arith)) (same (older_at j) (λ e. omega arith) (λ e. omega arith)) refl (r.phase j);
        row = f.own_by;
        log_is = (
          (f.queue, lead.own, f.parts ∙ (λ i. f.queue ++ (hand i ++ lead.own ∷ [])), queued_change r.phase r.due r.due c ph c f.queue t' to_linked (λ e bad. absurd (cc)) (λ _ z. z) (plain_queued r.phase r.due c f.queue t t' plain plain' f.queued), here, f.own_by),
          taken_change r.phase r.due r.due c ph c r.hand (λ e bad. absurd (cc)) (λ _ _. refl) (subst (AllTaken r.phase r.due c) hand f.members),
          f.own_due,
        );
        one_chosen = λ j e. put_at r.phase c ph (λ i g. g ≡ chosen e → Path (Mode Request) (built c lead.group t') (waits i)) j (λ _ bad. absurd (cc)) (λ _ ok. let was : r.mode ≡ waits j = r.one_chosen j e ok in absurd (cc));
        kept = r.kept;
        coded = λ e in_chain. r.coded c e (subst (InChain e) (sym now) in_chain);
        account = k;
        goes_on = goes_on;
        recalls = recalls;
        has_cut = tt;
        owing_is = owing_stays r.phase r.due r.account.owing r.owing_is k.owing r.due c ph owes (ap (λ f. due_untold f (r.due c)) (sym now)) (λ _ _. refl);
        second = second_stays stands n s.words ws s.homes s.homes r.phase (put r.phase c ph) r.mode (built c lead.group t') (stands.given r.handled) (stands.given r.handled) r.two (same 1 (λ e. omega arith) (λ e. omega arith))
            (λ j there. dite (ℕ_discrete j 0)
            (λ e. absurd (subst (InSecond r.two.place 0) r.nobody (subst (λ (i : ℕ). InSecond r.two.place i (r.phase i)) e there)))
            (λ ne. (same (older_at j) (λ e. omega arith) (λ e. ne (omega arith)), (λ _ _. same (state_at j) (λ e. omega arith) (λ e. omega arith)), put_same r.phase c ph now j)))
            (λ j four. sym (same (state_at j) (λ e. omega arith) (λ e. omega arith)) ∙ four) refl
            (λ j h. inl (subst (InFront j) (sym is) h)) (λ j h. inl (subst (Holds j) (sym is) h)) (λ j _ h. subst (Holds j) is h) (λ v. v) r.second;
        back = fit.5;
        else_back = λ _ _ _ ok. ok;
        shared_out = r.shared_out;
        told_else = λ _ _. refl;
        mine = fit.3;
        knows = knows (put r.phase c ph) here;
        others = λ j ne. knows_else stands n r.line r.line r.hand r.handled r.mode (built c lead.group t') r.phase r.due r.due c ph j ne (ends_same r.line) (λ h. absurd (ne (sym (subst (Holds j) is h)))) to_linked (λ e bad. absurd (cc)) (λ _ _. refl) (λ e x bad. absurd (cc));
      }

  -- a writer that is about to link goes back
  -- a load of the word 0 shows whether a leader stalls writes
  pub shows_is : (slots id : ℕ) (me : Sat Request Reply Log Right) → StepIs stands n ShowsStall slots id me 0 (λ y. y) (after_read_newest (step slots 0 0 0 none) me)
  shows_is slots id me s r long at fits =
      let seen = peeks_is stands n slots id me s r long at fits in
      let k : ℕ = newest_from (base_of r.mode) r.line in
      let unmarked : k ≢ STALL = newest_unmarked n r.mode r.line r.few r.within in (
        seen.0,
        seen.1,
        seen.2,
        (
          seen.3.0,
          (seen.3.1, λ is. halting s.words k r.line r.account.queue r.account.log unmarked is r.mode r.newest_is r.account.shows),
          seen.3.2,
        ),
        seen.4,
      )

  pub withdraws_is : (slots id : ℕ) (me : Sat Request Reply Log Right) (c k w : ℕ) (mine : List (Request × Reply)) → At c (Preparing w) mine me → me.1 ≡ (c, Empty) ∷ [] → StepIs stands n (λ _. Stays) slots id me k (λ y. y) (after_withdraw (step slots k 0 0 none) me)
  withdraws_is slots id me c k w mine mid mine_out s r long at fits =
      let h : LineHold Request Reply = hold c (Preparing w) mine in
      let at' : get_elem? s.views id ≡ some (h ∷ []) = at ∙ ap some mid in
      let fit = (r.seats id (h ∷ []) at').0 in
      let h' : LineHold Request Reply = hold c Idle mine in
      let row = subst (InPhase stands s.words s.homes c (r.due c)) fit.4 (r.rows c fit.1 fit.2) in
      let ws : List ℕ = set s.words k (get_or s.words k 0) in
      let hi : c ≤ n = fit.2 in
      let many : length s.homes ≡ n + 2 = r.many in
      let hs = set s.homes c (some Empty) in
      let same : (j : ℕ) → get_or ws j 0 ≡ get_or s.words j 0 = λ j. ap (λ (l : List ℕ). get_or l j 0) (set-get_or s.words k 0) in
      let after : IsNow stands n (now_of stands n s r) (record { words = ws; homes = hs; views = set s.views id (h' ∷ []) }) =
      aside stands n s r c id ws hs h Idle mine (preparing w) idle r.due r.told at' refl fit.4 tt tt (length-set s.words k (get_or s.words k 0)) (length-set s.homes c (some Empty))
      (λ j _ _. same j) (λ j ne. set_else s.homes c j (some Empty) ne) refl (λ four. sym (same (state_at c)) ∙ four)
      (set_here s.homes c (some Empty) (omega arith), row.2)
      (λ _ _. refl) (λ _ _. refl) refl fit.3 (λ _ e. e) (λ phase here. here) refl tt in (
        h' ∷ [],
        gives,
        tt,
        (now_of stands n s r, refl, subst (λ (l : List (ℕ × LineSlot Request Reply Log Right)). IsNow stands n (now_of stands n s r) (stepped s k (get_or s.words k 0) id l (h' ∷ []) gives)) (sym mine_out) after),
        λ c' w' mine' mid'. let e = one_hold c c' (Preparing w) (Preparing w') mine mine' me.0 mid mid' in
            ((λ i. hold (e.0 i) Idle (e.2 i) ∷ []), ap (λ l. carried_after l gives) mine_out),
      )

  -- the leader names the newest writer that it saw
  pub aims_stall_is : (slots id : ℕ) (me : Sat Request Reply Log Right) (c new : ℕ) (lead : Lead Request Reply) (mine : List (Request × Reply)) → At c (Leading lead) mine me → StepIs stands n (λ _. Stays) slots id me 3 (λ _. new) (λ _. after_aim_stall (step slots 3 new 0 none) me new)
  aims_stall_is slots id me c new lead mine mid s r long at fits =
      let h : LineHold Request Reply = hold c (Leading lead) mine in
      let at' : get_elem? s.views id ≡ some (h ∷ []) = at ∙ ap some mid in
      let fit = (r.seats id (h ∷ []) at').0 in
      let f = staller s r c lead calm fit.1 fit.2 fit.4.0 fit.4.1 fit.4.4 in
      let st' : LineStage Request Reply = Stalling lead (Aimed new) in
      let wide : length s.words ≡ 2 * n + 4 = r.wide in
      let lo : 0 < c = fit.1 in
      let hi : c ≤ n = fit.2 in
      let ws : List ℕ = set s.words 3 new in
      let same : (j : ℕ) → j ≢ 3 → get_or ws j 0 ≡ get_or s.words j 0 = λ j ne. get_or-set_other s.words 3 j new 0 (λ e. ne (omega arith)) in
      let acc = restays_now stands.bound r.line r.handled r.mode r.account c lead.group calm (aimed new) fit.4.0 (λ _ _. refl) in (
        hold c st' mine ∷ [],
        keeps,
        tt,
        (
          ((acc.0.queue, acc.0.log, r.handled, acc.0.owing), second_list_of r.two),
          (λ i. (acc.1 i, second_list_of r.two)),
          repaused s r c id lead mine (Leading lead) st' calm (aimed new) ws acc.0 at' fit.4.0 fit.4.1 fit.4.4 tt tt (length-set s.words 3 new) (λ j _ ne. same j ne) (same 0 (λ e. omega arith) ∙ f.names, get_or-set_same s.words 3 new 0 (omega arith))
              (ap (λ (y : Core Request Reply). y.3) acc.1) ([], acc.2) (recalls_more r.account.events acc.0.events ([], acc.2) (Leading lead) fit.6)
              (λ phase here. (refl, here, fit.4.2, fit.4.3, fit.4.4, tt)),
        ),
        λ c' lead' mine' mid'. let e = one_hold c c' (Leading lead) (Leading lead') mine mine' me.0 mid mid' in
            ((λ i. hold (e.0 i) (Stalling (lead_in lead (e.1 i)) (Aimed new)) (e.2 i) ∷ []), refl),
      )

  module _ (slots id : ℕ) (me : Sat Request Reply Log Right) (c w : ℕ) (lead : Lead Request Reply) (mine : List (Request × Reply)) (said : Option (LineSlot Request Reply Log Right)) (mid : At c (Stalling lead (Aimed w)) mine me) (all : lead.taken ≡ lead.group) (slow : is_hasty lead.own.code ≡ false)
      (s : St stands n) (r : Listed stands n s) (long : length s.homes ≡ slots) (at : get_elem? s.views id ≡ some me.0) where
    abbrev stalled_as : ℕ → Sat Request Reply Log Right → Type 0
    stalled_as = after_stall (step slots 0 w STALL said) me

    -- nobody came since, so the marker is put
    stalls_hit : get_or s.words 0 0 ≡ w → Goes stands n (HappensWhere w (IsStall lead)) s r 0 id me stalled_as STALL
    stalls_hit hit =
        let h : LineHold Request Reply = hold c (Stalling lead (Aimed w)) mine in
        let at' : get_elem? s.views id ≡ some (h ∷ []) = at ∙ ap some mid in
        let fit = (r.seats id (h ∷ []) at').0 in
        let f = staller s r c lead (aimed w) fit.1 fit.2 fit.4.0 fit.4.1 fit.4.4 in
        let now : List (QueuedWriter Request) = f.queue ++ in_hand lead in
        let lead' : Lead Request Reply = lead_with_walk lead now in
        let st' : LineStage Request Reply = Stalling lead' (Stopped w) in
        let wide : length s.words ≡ 2 * n + 4 = r.wide in
        let ws : List ℕ = set s.words 0 STALL in
        let same : (j : ℕ) → j ≢ 0 → get_or ws j 0 ≡ get_or s.words j 0 = λ j ne. get_or-set_other s.words 0 j STALL 0 (λ e. ne (omega arith)) in
        let w_is : w ≡ newest_from 0 r.line = sym hit ∙ f.names.0 in
        let acc = stalls_now stands.bound r.line r.handled r.mode r.account c w lead.group lead.own f.queue fit.4.0 (f.parts ∙ (λ i. f.queue ++ (all i ++ lead.own ∷ []))) slow in (
          hold c st' mine ∷ [],
          keeps,
          tt,
          (
            ((acc.0.queue, acc.0.log, r.handled, acc.0.owing), second_list_of r.two),
            ((λ _. (acc.1, refl)), λ miss. absurd (miss hit)),
            repaused s r c id lead mine (Stalling lead (Aimed w)) st' (aimed w) (stopped w) ws acc.0 at' fit.4.0 fit.4.1 fit.4.4 tt tt (length-set s.words 0 STALL) (λ j ne _. same j ne) (get_or-set_same s.words 0 STALL 0 (omega arith), same 3 (λ e. omega arith) ∙ f.names.1, w_is)
                (ap (λ (y : Core Request Reply). y.3) acc.1.1) (stalls lead.own lead.group ∷ [], acc.2) (recalls_more r.account.events acc.0.events (stalls lead.own lead.group ∷ [], acc.2) (Leading lead) fit.6)
                (λ phase here. (refl, here, ([], f.parts), fit.4.3, fit.4.4, tt)),
          ),
          λ c' l' mine' mid'. let e = one_hold c c' (Stalling lead (Aimed w)) (Stalling l' (Aimed w)) mine mine' me.0 mid mid' in (
            (λ _. subst (λ (z : ℕ × Lead Request Reply × List (Request × Reply)). Stops slots w z.0 z.1 z.2 me (hold c st' mine ∷ [], me.1)) (λ i. (e.0 i, lead_in lead (e.1 i), e.2 i)) (
              f.queue,
              refl,
              refl,
              w_is ∙ ap (newest_from 0) f.parts,
              (let b = walk_bound n now (subst (Within n) f.parts r.within) (subst Distinct f.parts r.distinct) in let m = r.many in omega arith),
              all_below stands n slots now (let m = r.many in omega arith) (subst (Within n) f.parts r.within),
            )),
            λ miss. absurd (miss hit),
          ),
        )

    -- somebody came, so the leader names the newest one anew
    stalls_miss : (get_or s.words 0 0 ≢ w) → Goes stands n (HappensWhere w (IsStall lead)) s r 0 id me stalled_as (get_or s.words 0 0)
    stalls_miss miss =
        let h : LineHold Request Reply = hold c (Stalling lead (Aimed w)) mine in
        let at' : get_elem? s.views id ≡ some (h ∷ []) = at ∙ ap some mid in
        let fit = (r.seats id (h ∷ []) at').0 in
        let f = staller s r c lead (aimed w) fit.1 fit.2 fit.4.0 fit.4.1 fit.4.4 in
        let ws : List ℕ = set s.words 0 (get_or s.words 0 0) in
        let same : (j : ℕ) → get_or ws j 0 ≡ get_or s.words j 0 = λ j. ap (λ (l : List ℕ). get_or l j 0) (set-get_or s.words 0 0) in
        let acc = restays_now stands.bound r.line r.handled r.mode r.account c lead.group (aimed w) calm fit.4.0 (λ _ _. refl) in (
          hold c (Leading lead) mine ∷ [],
          keeps,
          tt,
          (
            ((acc.0.queue, acc.0.log, r.handled, acc.0.owing), second_list_of r.two),
            ((λ hit. absurd (miss hit)), λ _. (λ i. (acc.1 i, second_list_of r.two))),
            repaused s r c id lead mine (Stalling lead (Aimed w)) (Leading lead) (aimed w) calm ws acc.0 at' fit.4.0 fit.4.1 fit.4.4 tt tt (length-set s.words 0 (get_or s.words 0 0)) (λ j _ _. same j) (same 0 ∙ f.names.0)
                (ap (λ (y : Core Request Reply). y.3) acc.1) ([], acc.2) (recalls_more r.account.events acc.0.events ([], acc.2) (Leading lead) fit.6)
                (λ phase here. (refl, here, fit.4.2, fit.4.3, fit.4.4)),
          ),
          λ c' l' mine' mid'. let e = one_hold c c' (Stalling lead (Aimed w)) (Stalling l' (Aimed w)) mine mine' me.0 mid mid' in (
            (λ hit. absurd (miss hit)),
            λ _. ((λ i. hold (e.0 i) (Leading (lead_in lead (e.1 i))) (e.2 i) ∷ []), refl),
          ),
        )

  pub stalls_is : (slots id : ℕ) (me : Sat Request Reply Log Right) (c w : ℕ) (lead : Lead Request Reply) (mine : List (Request × Reply)) (said : Option (LineSlot Request Reply Log Right)) → At c (Stalling lead (Aimed w)) mine me → lead.taken ≡ lead.group → is_hasty lead.own.code ≡ false
      → StepIs stands n (HappensWhere w (IsStall lead)) slots id me 0 (λ y. either (eqb y w) STALL y) (after_stall (step slots 0 w STALL said) me)
  stalls_is slots id me c w lead mine said mid all slow s r long at fits = exchanged (get_or s.words 0 0) w STALL (Goes stands n (HappensWhere w (IsStall lead)) s r 0 id me (after_stall (step slots 0 w STALL said) me))
      (λ hit. stalls_hit slots id me c w lead mine said mid all slow s r long at hit)
      (λ miss. stalls_miss slots id me c w lead mine said mid all slow s r long at miss)

  -- the stall ends: the marker is there, since only this leader takes it away
  pub resumes_is : (slots id : ℕ) (me : Sat Request Reply Log Right) (c w : ℕ) (lead : Lead Request Reply) (mine : List (Request × Reply)) (said : Option (LineSlot Request Reply Log Right)) → At c (Stalling lead (Stopped w)) mine me → lead.taken ≡ lead.group
      → StepIs stands n (λ _. IsResume lead) slots id me 0 (λ y. either (eqb y STALL) w y) (after_resume (step slots 0 STALL w said) me)
  resumes_is slots id me c w lead mine said mid all s r long at fits = exchanged (get_or s.words 0 0) STALL w (Goes stands n (λ _. IsResume lead) s r 0 id me (after_resume (step slots 0 STALL w said) me))
      (λ hit.
      let h : LineHold Request Reply = hold c (Stalling lead (Stopped w)) mine in
      let at' : get_elem? s.views id ≡ some (h ∷ []) = at ∙ ap some mid in
      let fit = (r.seats id (h ∷ []) at').0 in
      let f = staller s r c lead (stopped w) fit.1 fit.2 fit.4.0 fit.4.1 fit.4.4 in
      let wide : length s.words ≡ 2 * n + 4 = r.wide in
      let ws : List ℕ = set s.words 0 w in
      let same : (j : ℕ) → j ≢ 0 → get_or ws j 0 ≡ get_or s.words j 0 = λ j ne. get_or-set_other s.words 0 j w 0 (λ e. ne (omega arith)) in
      let acc = resumes_now stands.bound r.line r.handled r.mode r.account c w lead.group lead.own f.queue fit.4.0 (f.parts ∙ (λ i. f.queue ++ (all i ++ lead.own ∷ []))) in (
        hold c (Leading lead) mine ∷ [],
        keeps,
        tt,
        (
          ((acc.0.queue, acc.0.log, r.handled, acc.0.owing), second_list_of r.two),
          (acc.1, refl),
          repaused s r c id lead mine (Stalling lead (Stopped w)) (Leading lead) (stopped w) calm ws acc.0 at' fit.4.0 fit.4.1 fit.4.4 tt tt (length-set s.words 0 w) (λ j ne _. same j ne) (get_or-set_same s.words 0 w 0 (omega arith) ∙ f.names.2)
              (ap (λ (y : Core Request Reply). y.3) acc.1.1) (resumes lead.own lead.group ∷ [], acc.2) (recalls_more r.account.events acc.0.events (resumes lead.own lead.group ∷ [], acc.2) (Leading lead) fit.6)
              (λ phase here. (refl, here, fit.4.2, fit.4.3, fit.4.4)),
        ),
        λ c' w' l' mine' mid'. let e = one_hold c c' (Stalling lead (Stopped w)) (Stalling l' (Stopped w')) mine mine' me.0 mid mid' in
            (hit, (λ i. hold (e.0 i) (Leading (lead_in lead (e.1 i))) (e.2 i) ∷ []), refl),
      ))
      (λ miss.
      let h : LineHold Request Reply = hold c (Stalling lead (Stopped w)) mine in
      let fit = (r.seats id (h ∷ []) (at ∙ ap some mid)).0 in
      let f = staller s r c lead (stopped w) fit.1 fit.2 fit.4.0 fit.4.1 fit.4.4 in absurd (miss f.names.0))

  -- the same, whatever event each step is
  pub withdraws : (slots id : ℕ) (me : Sat Request Reply Log Right) (c k w : ℕ) (mine : List (Request × Reply)) → At c (Preparing w) mine me → me.1 ≡ (c, Empty) ∷ [] → Allows (Listed stands n) slots id me k (λ y. y) (after_withdraw (step slots k 0 0 none) me)
  withdraws slots id me c k w mine mid out = allows stands n (λ _. Stays) slots id me k (λ y. y) (after_withdraw (step slots k 0 0 none) me) (withdraws_is slots id me c k w mine mid out)

  pub aims_stall : (slots id : ℕ) (me : Sat Request Reply Log Right) (c new : ℕ) (lead : Lead Request Reply) (mine : List (Request × Reply)) → At c (Leading lead) mine me → Allows (Listed stands n) slots id me 3 (λ _. new) (λ _. after_aim_stall (step slots 3 new 0 none) me new)
  aims_stall slots id me c new lead mine mid = allows stands n (λ _. Stays) slots id me 3 (λ _. new) (λ _. after_aim_stall (step slots 3 new 0 none) me new) (aims_stall_is slots id me c new lead mine mid)

  pub puts_stall : (slots id : ℕ) (me : Sat Request Reply Log Right) (c w : ℕ) (lead : Lead Request Reply) (mine : List (Request × Reply)) (said : Option (LineSlot Request Reply Log Right)) → At c (Stalling lead (Aimed w)) mine me → lead.taken ≡ lead.group → is_hasty lead.own.code ≡ false
      → Allows (Listed stands n) slots id me 0 (λ y. either (eqb y w) STALL y) (after_stall (step slots 0 w STALL said) me)
  puts_stall slots id me c w lead mine said mid all slow = allows stands n (HappensWhere w (IsStall lead)) slots id me 0 (λ y. either (eqb y w) STALL y) (after_stall (step slots 0 w STALL said) me) (stalls_is slots id me c w lead mine said mid all slow)

  pub ends_stall : (slots id : ℕ) (me : Sat Request Reply Log Right) (c w : ℕ) (lead : Lead Request Reply) (mine : List (Request × Reply)) (said : Option (LineSlot Request Reply Log Right)) → At c (Stalling lead (Stopped w)) mine me → lead.taken ≡ lead.group
      → Allows (Listed stands n) slots id me 0 (λ y. either (eqb y STALL) w y) (after_resume (step slots 0 STALL w said) me)
  ends_stall slots id me c w lead mine said mid all = allows stands n (λ _. IsResume lead) slots id me 0 (λ y. either (eqb y STALL) w y) (after_resume (step slots 0 STALL w said) me) (resumes_is slots id me c w lead mine said mid all)
