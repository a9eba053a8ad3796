-- The looks of a writer that waits for its role, or for its reply: that each keeps the rule, and which event it is.
use Rattle.std.proofs.Common.{◌≡◌, ◌≢◌, ℕ, ◌+◌, ◌<◌, ◌≤◌, List, [], ◌∷◌, ◌++◌, get_or, set, refl, sym, ap, ◌∙◌, subst, inl, inr, arith, length-set, append-nil}
use mathlib.Core.Logic.{dite}
use mathlib.Core.Path.{Path}
use mathlib.Core.Option.{none, some}
use native.Mathlib.Decide.{ℕ_discrete}
use lib.ListN.{get_elem?}
use lib.Seq.{set-get_or}
use Rattle.atomic_table.specs.Table.{step, keeps, takes, chain as both_acts, stepped, Allows}
use Rattle.atomic_table.proofs.Lists.{set_else}
use Rattle.line_rule.specs.declared.view.QueuedWriter.{QueuedWriter}
use Rattle.line_rule.specs.declared.view.Handling.{Handling}
use Rattle.line_rule.specs.declared.view.LineHold.{LineHold}
use Rattle.line_rule.specs.declared.content.LineSlot.TheVariants.{Asked, Told, TheLog}
use Rattle.line_rule.specs.declared.view.LineStage.{LineStage}
use Rattle.line_rule.specs.declared.view.LineStage.TheVariants.{Waiting, Helping, Fresh, Collecting}
use Rattle.line_rule.specs.Chain.{state_at, older_at, newest_from, LinksFrom}
use Rattle.line_rule.specs.Standing.{held, dismissed, dropped, Phase, idle, preparing, linked, chosen, leads, taken, completed, collecting, Mode, waits, led, base_of, Holds}
use Rattle.line_rule.specs.Laws.{Laws}
use Rattle.line_rule.specs.Rule.{InChain, Waits, hold, InPhase, InMode, Listed, InSecond, due_untold}
use Rattle.line_rule.specs.Events.{LineEvent, elects, Core}
use Rattle.line_rule.specs.SecondList.{second_list_of}
use Rattle.line_rule.specs.Steps.{Stays, HappensWhere, IsElect, now_of, IsNow, StepIs}
use Rattle.line_rule.specs.Plays.{Dismissed, Sat, At, Elected, Replied, after_read_state, after_read_reply}
use Rattle.line_rule.proofs.Chains.{put, put_at, put_here, put_else, links_same, ends_same, stand_change, linked_change}
use Rattle.line_rule.proofs.Exits.{owing_stays}
use Rattle.line_rule.proofs.Accounts.{leads_now}
use Rattle.line_rule.proofs.Moves.{St, row_stays, knows_else, reviewed, moved, Goes, allows, unmoved}
use Rattle.line_rule.proofs.Keeps.{second_same}
use Rattle.line_rule.proofs.Enters.{aside, one_chosen_entry, one_helps, one_hold, one_waits, waits_one}
use Rattle.line_rule.proofs.Pauses.{first_calm}

module _ {Request Reply Log Right : Type 0} (stands : Laws Request Reply Log Right) (n : ℕ) where
  -- the client finds its reply, and takes it
  replies_now : (slots id : ℕ) (me : Sat Request Reply Log Right) (c k : ℕ) (q : Request) (mine : List (Request × Reply)) (is : k ≡ state_at c) (empty : me.1 ≡ []) (s : St stands n) (r : Listed stands n s) (st : LineStage Request Reply) → get_elem? s.views id ≡ some (hold c st mine ∷ [])
      → (q0 : Request) (p : Reply) → r.phase c ≡ completed q0 p → q0 ≡ q
      → (w : List (LineHold Request Reply)) × (get_elem? s.homes c ≡ some (some (Told p))) × (get_or s.words k 0 ≡ 16) × IsNow stands n (now_of stands n s r) (stepped s k (get_or s.words k 0) id me.1 w (takes c (Told p))) × Replied stands.kept c q mine (w, (c, Told p) ∷ me.1)
  replies_now slots id me c k q mine is empty s r st at' q0 p now asks =
      let hw : LineHold Request Reply = hold c st mine in
      let x : ℕ = get_or s.words k 0 in
      let fit = (r.seats id (hw ∷ []) at').0 in
      let row = subst (InPhase stands s.words s.homes c (r.due c)) now (r.rows c fit.1 fit.2) in
      let ws : List ℕ = set s.words k x in
      let hs = set s.homes c none in
      let got : List (Request × Reply) = mine ++ (q, p) ∷ [] in
      let h' : LineHold Request Reply = hold c Collecting got in
      let same : (j : ℕ) → get_or ws j 0 ≡ get_or s.words j 0 = λ j. ap (λ (t : List ℕ). get_or t j 0) (set-get_or s.words k 0) in
      let due : ℕ → List (Request × Reply) = put r.due c [] in
      let told : ℕ → List (Request × Reply) = put r.told c got in
      let none_due : due c ≡ [] = put_here r.due c [] in
      let told_is : told c ≡ got = put_here r.told c got in
      let sixteen : x ≡ 16 = ap (λ (j : ℕ). get_or s.words j 0) is ∙ row.0 in
      let shares : r.told c ++ r.due c ≡ told c ++ due c =
      (λ i. sym fit.3 i ++ row.2 i) ∙ ((λ i. mine ++ (asks i, p) ∷ []) ∙ (sym (append-nil got) ∙ (λ i. sym told_is i ++ sym none_due i))) in (
        h' ∷ [],
        row.1,
        sixteen,
        aside stands n s r c id ws hs hw Collecting got (completed q0 p) collecting due told at' refl now tt tt (length-set s.words k x) (length-set s.homes c none)
            (λ j _ _. same j) (λ j ne. set_else s.homes c j none ne) refl (λ four. sym (same (state_at c)) ∙ four) none_due (λ j ne. put_else r.due c [] j ne) (λ j ne. put_else r.told c got j ne) shares (sym told_is) (λ j e. put_at r.due c [] (λ i d. r.due i ≡ [] → d ≡ []) j (λ _ _. refl) (λ _ here. here) e) (λ phase here. here) none_due tt,
        (p, refl, ap (λ t. (c, Told p) ∷ t) empty, (r.handled, r.kept, r.shared_out c ∙ (λ i. sym fit.3 i ++ (row.2 ∙ (λ j. (asks j, p) ∷ [])) i))),
      )

  module _ (slots id : ℕ) (me : Sat Request Reply Log Right) (c k : ℕ) (q : Request) (past : List (LineEvent Request Reply)) (mine : List (Request × Reply)) (is : k ≡ state_at c) (mid : At c (Waiting q past) mine me) (empty : me.1 ≡ [])
      (s : St stands n) (r : Listed stands n s) (at : get_elem? s.views id ≡ some me.0) where
    abbrev saw : ℕ → Sat Request Reply Log Right → Type 0
    saw = after_read_state stands.logs stands.kept stands.drops (step slots k 0 0 none) me

    abbrev hw : LineHold Request Reply
    hw = hold c (Waiting q past) mine

    abbrev x : ℕ
    x = get_or s.words k 0

    looks_on : x ≢ 2 → x ≢ 16 → x ≢ 8 → Goes stands n (HappensWhere 2 (IsElect c q)) s r k id me saw x
    looks_on n2 n16 n8 = (me.0, keeps, tt, unmoved stands n (HappensWhere 2 (IsElect c q) x) s k id me.1 me.0 at r ((λ y. absurd (n2 y)), λ _. refl), λ _ _ _ _ _. ((λ y. absurd (n2 y)), (λ y. absurd (n16 y)), (λ y. absurd (n8 y)), λ _ _ _. refl))

    looks_elected : (e : QueuedWriter Request) → r.phase c ≡ chosen e → e.asked ≡ q → Goes stands n (HappensWhere 2 (IsElect c q)) s r k id me saw x
    looks_elected e now asks =
        let at' : get_elem? s.views id ≡ some (hw ∷ []) = at ∙ ap some mid in
        let fit = (r.seats id (hw ∷ []) at').0 in
        let row = subst (InPhase stands s.words s.homes c (r.due c)) now (r.rows c fit.1 fit.2) in
        let lo : 0 < c = fit.1 in
        let hi : c ≤ n = fit.2 in
        let mode_was : r.mode ≡ waits c = r.one_chosen c e now in
        let log = subst (InMode stands n s.homes r.line r.hand r.handled r.phase r.due) mode_was r.log_is in
        let l : Log = log.2.0 in
        let e1 : QueuedWriter Request = log.0.1 in
        let e1_now : r.phase c ≡ chosen e1 = log.0.4 in
        let same_e : e1 ≡ e = one_chosen_entry e1 e (sym e1_now ∙ now) in
        let parts : r.line ≡ log.0.0 ++ e ∷ [] = log.0.2 ∙ (λ i. log.0.0 ++ same_e i ∷ []) in
        let ws : List ℕ = set s.words k x in
        let hs = set (set s.homes c none) 0 none in
        let h' : LineHold Request Reply = hold c (Fresh e r.handled) mine in
        let same : (j : ℕ) → get_or ws j 0 ≡ get_or s.words j 0 = λ j. ap (λ (t : List ℕ). get_or t j 0) (set-get_or s.words k 0) in
        let ph : Phase Request Reply = leads e in
        let here : put r.phase c ph c ≡ ph = put_here r.phase c ph in
        let m' : Sat Request Reply Log Right = (h' ∷ [], (0, TheLog l) ∷ (c, Asked e.asked) ∷ me.1) in
        let acc = leads_now stands.bound r.line r.handled r.mode r.account c e log.0.0 mode_was row.0 parts in
        let two : x ≡ 2 = ap (λ (j : ℕ). get_or s.words j 0) is ∙ row.1 in (
          h' ∷ [],
          both_acts (takes c (Asked e.asked)) (takes 0 (TheLog l)),
          (row.2, set_else s.homes c 0 none (λ e. omega arith) ∙ log.2.1),
          (
            ((acc.0.queue, acc.0.log, r.handled, acc.0.owing), second_list_of r.two),
            ((λ _. (e, row.0, asks, (acc.1, refl))), λ y. absurd (y two)),
            moved stands n s r c id ws hs hw h' r.line r.hand r.handled (led c) ph r.due r.told r.two record {
              at = at';
              real = fit.1;
              same_client = refl;
              wide = length-set s.words k x;
              many = length-set (set s.homes c none) 0 none ∙ length-set s.homes c none;
              newest_is = same 0 ∙ (first_calm s.words r.line r.mode (waits c) mode_was refl r.newest_is ∙ ap (λ b. newest_from b r.line) (ap base_of mode_was));
              links = links_same 0 s.words ws r.line (λ j. same (older_at j)) (subst (λ b. LinksFrom b s.words r.line) (ap base_of mode_was) r.links);
              distinct = r.distinct;
              within = r.within;
              stand = stand_change r.phase c ph r.line (λ f is_in. subst (InChain f) now is_in) r.stand;
              other_rows = λ j ne lo' _. row_stays stands n s.words ws s.homes hs j (r.due j) (same (state_at j)) (same (older_at j)) (set_else (set s.homes c none) 0 j none (λ e. omega arith) ∙ set_else s.homes c j none ne) (r.phase j);
              row = row.0;
              log_is = ((log.0.0, e, parts, linked_change r.phase c ph log.0.0 (λ f bad. absurd (cc)) log.0.3, here, row.0), log.1, row.3);
              one_chosen = λ j f. put_at r.phase c ph (λ i g. g ≡ chosen f → Path (Mode Request) (led c) (waits i)) j (λ _ bad. absurd (cc)) (λ ne ok. let was : r.mode ≡ waits j = r.one_chosen j f ok in absurd (ne (waits_one j c (sym was ∙ mode_was))));
              kept = r.kept;
              coded = λ f is. r.coded c f (subst (InChain f) (sym now) is);
              account = acc.0;
              goes_on = (elects e ∷ [], acc.2);
              recalls = tt;
              has_cut = tt;
              owing_is = owing_stays r.phase r.due r.account.owing r.owing_is acc.0.owing r.due c ph (ap (λ (y : Core Request Reply). y.3) acc.1.1) (ap (λ f. due_untold f (r.due c)) (sym now)) (λ _ _. refl);
              shared_out = r.shared_out;
              told_else = λ _ _. refl;
              mine = fit.3;
              second = second_same stands n s.words ws s.homes hs r.phase c ph r.mode (led c) (stands.given r.handled) (stands.given r.handled) r.two (inr (λ there. subst (InSecond r.two.place c) now there)) (λ j _. same j) (set_else (set s.homes c none) 0 (n + 1) none (λ e. omega arith) ∙ set_else s.homes c (n + 1) none (λ e. omega arith)) (λ k h. inr (ap r.two.place (sym h) ∙ fit.5.0)) (λ k h. inr (λ four. let here2 : get_or s.words (state_at k) 0 ≡ 2 = ap (λ (j : ℕ). get_or s.words (state_at j) 0) (sym h) ∙ row.1 in let four' = sym (same (state_at k)) ∙ four in absurd (omega arith))) (λ k _ h. absurd (subst (Holds k) mode_was h)) (λ v. v) r.second;
              back = fit.5;
              else_back = λ _ _ _ ok. ok;
              knows = (refl, here, refl);
              others = λ j ne. knows_else stands n r.line r.line r.hand r.handled r.mode (led c) r.phase r.due r.due c ph j ne (ends_same r.line) (λ h. absurd (subst (Holds j) mode_was h)) (λ f bad. absurd (cc)) (λ f bad. absurd (cc)) (λ _ _. refl) (λ f x bad. absurd (cc));
            },
          ),
          λ c' q' past' mine' mid'.
              let o = one_hold c c' (Waiting q past) (Waiting q' past') mine mine' me.0 mid mid' in
              let same_q : q ≡ q' = one_waits q q' past past' o.1 in
              let told : Elected stands.logs c q mine m' = (e, r.handled, l, refl, row.0, asks, log.2.2, (λ i. (0, TheLog l) ∷ (c, Asked (asks i)) ∷ empty i), r.shared_out c ∙ ((λ i. sym fit.3 i ++ row.3 i) ∙ append-nil mine)) in (
                (λ _. subst (λ (t : ℕ × Request × List (Request × Reply)). Elected stands.logs t.0 t.1 t.2 m') (λ i. (o.0 i, same_q i, o.2 i)) told),
                (λ y. absurd (omega arith)),
                (λ y. absurd (omega arith)),
                λ y. absurd (y two),
              ),
        )

    looks_helps : x ≡ 8 → Waits q (r.phase c) → ((p : Reply) × (r.due c ≡ (q, p) ∷ [])) → Goes stands n (HappensWhere 2 (IsElect c q)) s r k id me saw x
    looks_helps eight waits_now owed =
        let at' : get_elem? s.views id ≡ some (hw ∷ []) = at ∙ ap some mid in
        let w : List (LineHold Request Reply) = hold c (Helping q) mine ∷ [] in (
          w,
          keeps,
          tt,
          (
            now_of stands n s r,
            ((λ y. absurd (omega arith)), λ _. refl),
            subst (λ (z : List ℕ). IsNow stands n (now_of stands n s r) (record { words = z; homes = s.homes; views = set s.views id w })) (sym (set-get_or s.words k 0)) (reviewed stands n s r id hw (Helping q) at' (waits_now, owed) tt),
          ),
          λ c' q' past' mine' mid'.
              let o = one_hold c c' (Waiting q past) (Waiting q' past') mine mine' me.0 mid mid' in
              let same_q : q ≡ q' = one_waits q q' past past' o.1 in (
                (λ y. absurd (omega arith)),
                (λ y. absurd (omega arith)),
                (λ _. ((λ i. hold (o.0 i) (Helping (same_q i)) (o.2 i) ∷ []), refl)),
                λ _ _ n8. absurd (n8 eight),
              ),
        )

    looks_done : (q0 : Request) (p : Reply) → r.phase c ≡ completed q0 p → q0 ≡ q → Goes stands n (HappensWhere 2 (IsElect c q)) s r k id me saw x
    looks_done q0 p now asks =
        let t = replies_now slots id me c k q mine is empty s r (Waiting q past) (at ∙ ap some mid) q0 p now asks in (
          t.0,
          takes c (Told p),
          t.1,
          (now_of stands n s r, ((λ y. absurd (omega (arith, t.2))), λ _. refl), t.3),
          λ c' q' past' mine' mid'.
              let o = one_hold c c' (Waiting q past) (Waiting q' past') mine mine' me.0 mid mid' in
              let same_q : q ≡ q' = one_waits q q' past past' o.1 in (
                (λ y. absurd (omega (arith, t.2))),
                (λ _. inl (subst (λ (u : ℕ × Request × List (Request × Reply)). Replied stands.kept u.0 u.1 u.2 (t.0, (c, Told p) ∷ me.1)) (λ i. (o.0 i, same_q i, o.2 i)) t.4)),
                (λ y. absurd (omega (arith, t.2))),
                λ _ y. absurd (y t.2),
              ),
        )

    -- the client finds the reply with which it left the queue, and takes it
    looks_dismissed : (q0 : Request) (p : Reply) → r.phase c ≡ dismissed q0 p → q0 ≡ q → Goes stands n (HappensWhere 2 (IsElect c q)) s r k id me saw x
    looks_dismissed q0 p now asks =
        let at' : get_elem? s.views id ≡ some (hw ∷ []) = at ∙ ap some mid in
        let fit = (r.seats id (hw ∷ []) at').0 in
        let row = subst (InPhase stands s.words s.homes c (r.due c)) now (r.rows c fit.1 fit.2) in
        let ws : List ℕ = set s.words k x in
        let hs = set s.homes c none in
        let h' : LineHold Request Reply = hold c Collecting mine in
        let same : (j : ℕ) → get_or ws j 0 ≡ get_or s.words j 0 = λ j. ap (λ (t : List ℕ). get_or t j 0) (set-get_or s.words k 0) in
        let sixteen : x ≡ 16 = ap (λ (j : ℕ). get_or s.words j 0) is ∙ row.0 in (
          h' ∷ [],
          takes c (Told p),
          row.1,
          (
            now_of stands n s r,
            ((λ y. absurd (omega (arith, sixteen))), λ _. refl),
            aside stands n s r c id ws hs hw Collecting mine (dismissed q0 p) collecting r.due r.told at' refl now tt tt (length-set s.words k x) (length-set s.homes c none)
                (λ j _ _. same j) (λ j ne. set_else s.homes c j none ne) refl (λ four. sym (same (state_at c)) ∙ four) row.2 (λ _ _. refl) (λ _ _. refl) refl fit.3 (λ _ e. e) (λ phase here. here) row.2 tt,
          ),
          λ c' q' past' mine' mid'.
              let o = one_hold c c' (Waiting q past) (Waiting q' past') mine mine' me.0 mid mid' in
              let same_q : q ≡ q' = one_waits q q' past past' o.1 in (
                (λ y. absurd (omega (arith, sixteen))),
                (λ _. inr (subst (λ (u : ℕ × Request × List (Request × Reply)). Dismissed stands.drops u.0 u.1 u.2 (h' ∷ [], (c, Told p) ∷ me.1)) (λ i. (o.0 i, same_q i, o.2 i)) (p, refl, ap (λ t. (c, Told p) ∷ t) empty, subst (λ z. stands.drops z p) asks row.3))),
                (λ y. absurd (omega (arith, sixteen))),
                λ _ y. absurd (y sixteen),
              ),
        )

    looks_at : (ph : Phase Request Reply) → r.phase c ≡ ph → Waits q ph → InPhase stands s.words s.homes c (r.due c) ph → Goes stands n (HappensWhere 2 (IsElect c q)) s r k id me saw x
    looks_at idle now w ok = absurd w
    looks_at (preparing v) now w ok = absurd w
    looks_at (linked e) now w ok = let one : x ≡ 1 = ap (λ (j : ℕ). get_or s.words j 0) is ∙ ok.1 in looks_on (λ y. omega arith) (λ y. omega arith) (λ y. omega arith)
    looks_at (chosen e) now w ok = looks_elected e now w
    looks_at (leads e) now w ok = absurd w
    looks_at (taken l e) now w ok = let at_c : x ≡ get_or s.words (state_at c) 0 = ap (λ (j : ℕ). get_or s.words j 0) is in dite (ℕ_discrete x 8)
        (λ eight. let t = ok.3 (sym at_c ∙ eight) in looks_helps eight (subst (Waits q) (sym now) w) (t.1.0, t.1.1 ∙ ap (λ (u : Request). (u, t.1.0) ∷ []) w))
        (λ other. looks_on (λ y. ok.1 (sym at_c ∙ y)) (λ y. ok.2 (sym at_c ∙ y)) other)
    looks_at (completed q0 p) now w ok = looks_done q0 p now w
    looks_at (held l e) now w ok = let one : x ≡ 1 = ap (λ (j : ℕ). get_or s.words j 0) is ∙ ok.1 in looks_on (λ y. omega arith) (λ y. omega arith) (λ y. omega arith)
    looks_at (dropped l e p) now w ok = let one : x ≡ 1 = ap (λ (j : ℕ). get_or s.words j 0) is ∙ ok.1 in looks_on (λ y. omega arith) (λ y. omega arith) (λ y. omega arith)
    looks_at (dismissed q0 p) now w ok = looks_dismissed q0 p now w
    looks_at collecting now w ok = absurd w

    looks_all : Goes stands n (HappensWhere 2 (IsElect c q)) s r k id me saw x
    looks_all = let fit = (r.seats id (hw ∷ []) (at ∙ ap some mid)).0 in looks_at (r.phase c) refl fit.4 (r.rows c fit.1 fit.2)

  pub looks_is : (slots id : ℕ) (me : Sat Request Reply Log Right) (c k : ℕ) (q : Request) (past : List (LineEvent Request Reply)) (mine : List (Request × Reply)) → k ≡ state_at c → At c (Waiting q past) mine me → me.1 ≡ [] → StepIs stands n (HappensWhere 2 (IsElect c q)) slots id me k (λ y. y) (after_read_state stands.logs stands.kept stands.drops (step slots k 0 0 none) me)
  looks_is slots id me c k q past mine is mid empty s r long at fits = looks_all slots id me c k q past mine is mid empty s r at

  pub looks : (slots id : ℕ) (me : Sat Request Reply Log Right) (c k : ℕ) (q : Request) (past : List (LineEvent Request Reply)) (mine : List (Request × Reply)) → k ≡ state_at c → At c (Waiting q past) mine me → me.1 ≡ [] → Allows (Listed stands n) slots id me k (λ y. y) (after_read_state stands.logs stands.kept stands.drops (step slots k 0 0 none) me)
  looks slots id me c k q past mine is mid empty = allows stands n (HappensWhere 2 (IsElect c q)) slots id me k (λ y. y) (after_read_state stands.logs stands.kept stands.drops (step slots k 0 0 none) me) (looks_is slots id me c k q past mine is mid empty)

  -- the same of a client that works in parallel with its leader
  module _ (slots id : ℕ) (me : Sat Request Reply Log Right) (c k : ℕ) (q : Request) (mine : List (Request × Reply)) (is : k ≡ state_at c) (mid : At c (Helping q) mine me) (empty : me.1 ≡ [])
      (s : St stands n) (r : Listed stands n s) (at : get_elem? s.views id ≡ some me.0) where
    abbrev pub saw_beside : ℕ → Sat Request Reply Log Right → Type 0
    saw_beside = after_read_reply stands.kept (step slots k 0 0 none) me

    abbrev found : ℕ
    found = get_or s.words k 0

    beside_on : found ≢ 16 → Goes stands n (λ _. Stays) s r k id me saw_beside found
    beside_on n16 = (me.0, keeps, tt, unmoved stands n Stays s k id me.1 me.0 at r refl, λ _ _ _ _. ((λ y. absurd (n16 y)), λ _. refl))

    beside_done : (q0 : Request) (p : Reply) → r.phase c ≡ completed q0 p → q0 ≡ q → Goes stands n (λ _. Stays) s r k id me saw_beside found
    beside_done q0 p now asks =
        let t = replies_now slots id me c k q mine is empty s r (Helping q) (at ∙ ap some mid) q0 p now asks in (
          t.0,
          takes c (Told p),
          t.1,
          (now_of stands n s r, refl, t.3),
          λ c' q' mine' mid'.
              let o = one_hold c c' (Helping q) (Helping q') mine mine' me.0 mid mid' in
              let same_q : q ≡ q' = one_helps q q' o.1 in (
                (λ _. subst (λ (u : ℕ × Request × List (Request × Reply)). Replied stands.kept u.0 u.1 u.2 (t.0, (c, Told p) ∷ me.1)) (λ i. (o.0 i, same_q i, o.2 i)) t.4),
                λ y. absurd (y t.2),
              ),
        )

    beside_at : (ph : Phase Request Reply) → r.phase c ≡ ph → Waits q ph → InPhase stands s.words s.homes c (r.due c) ph → ((p : Reply) × (r.due c ≡ (q, p) ∷ [])) → Goes stands n (λ _. Stays) s r k id me saw_beside found
    beside_at idle now w ok owed = absurd w
    beside_at (preparing v) now w ok owed = absurd w
    beside_at (linked e) now w ok owed = let one : found ≡ 1 = ap (λ (j : ℕ). get_or s.words j 0) is ∙ ok.1 in beside_on (λ y. omega arith)
    beside_at (chosen e) now w ok owed = let two : found ≡ 2 = ap (λ (j : ℕ). get_or s.words j 0) is ∙ ok.1 in beside_on (λ y. omega arith)
    beside_at (leads e) now w ok owed = absurd w
    beside_at (taken l e) now w ok owed = let at_c : found ≡ get_or s.words (state_at c) 0 = ap (λ (j : ℕ). get_or s.words j 0) is in beside_on (λ y. ok.2 (sym at_c ∙ y))
    beside_at (completed q0 p) now w ok owed = beside_done q0 p now w
    beside_at (held l e) now w ok owed = let one : found ≡ 1 = ap (λ (j : ℕ). get_or s.words j 0) is ∙ ok.1 in beside_on (λ y. omega arith)
    beside_at (dropped l e p) now w ok owed = let one : found ≡ 1 = ap (λ (j : ℕ). get_or s.words j 0) is ∙ ok.1 in beside_on (λ y. omega arith)
    beside_at (dismissed q0 p) now w ok owed = let bad : Path (List (Request × Reply)) [] ((q, owed.0) ∷ []) = sym ok.2 ∙ owed.1 in absurd (cc)
    beside_at collecting now w ok owed = absurd w

    beside_all : Goes stands n (λ _. Stays) s r k id me saw_beside found
    beside_all = let fit = (r.seats id (hold c (Helping q) mine ∷ []) (at ∙ ap some mid)).0 in beside_at (r.phase c) refl fit.4.0 (r.rows c fit.1 fit.2) fit.4.1

  pub looks_beside_is : (slots id : ℕ) (me : Sat Request Reply Log Right) (c k : ℕ) (q : Request) (mine : List (Request × Reply)) → k ≡ state_at c → At c (Helping q) mine me → me.1 ≡ [] → StepIs stands n (λ _. Stays) slots id me k (λ y. y) (after_read_reply stands.kept (step slots k 0 0 none) me)
  looks_beside_is slots id me c k q mine is mid empty s r long at fits = beside_all slots id me c k q mine is mid empty s r at

  pub looks_beside_as : (kept : List (Handling Request Reply) → Type 0) → stands.kept ≡ kept → (slots id : ℕ) (me : Sat Request Reply Log Right) (c k : ℕ) (q : Request) (mine : List (Request × Reply)) → k ≡ state_at c → At c (Helping q) mine me → me.1 ≡ []
      → Allows (Listed stands n) slots id me k (λ y. y) (after_read_reply kept (step slots k 0 0 none) me)
  looks_beside_as kept is_kept slots id me c k q mine at mid empty =
      subst (λ z. Allows (Listed stands n) slots id me k (λ y. y) (after_read_reply z (step slots k 0 0 none) me)) is_kept (allows stands n (λ _. Stays) slots id me k (λ y. y) (after_read_reply stands.kept (step slots k 0 0 none) me) (looks_beside_is slots id me c k q mine at mid empty))

  pub looks_as : (stood : Log → List (Handling Request Reply) → Type 0) (kept : List (Handling Request Reply) → Type 0) (drops : Request → Reply → Type 0) → stands.logs ≡ stood → stands.kept ≡ kept → stands.drops ≡ drops → (slots id : ℕ) (me : Sat Request Reply Log Right) (c k : ℕ) (q : Request) (past : List (LineEvent Request Reply)) (mine : List (Request × Reply)) → k ≡ state_at c → At c (Waiting q past) mine me → me.1 ≡ []
      → Allows (Listed stands n) slots id me k (λ y. y) (after_read_state stood kept drops (step slots k 0 0 none) me)
  looks_as stood kept drops is is_kept is_drops slots id me c k q past mine at mid empty =
      subst (λ z. Allows (Listed stands n) slots id me k (λ y. y) (after_read_state z kept drops (step slots k 0 0 none) me)) is
      (subst (λ z. Allows (Listed stands n) slots id me k (λ y. y) (after_read_state stands.logs z drops (step slots k 0 0 none) me)) is_kept
      (subst (λ z. Allows (Listed stands n) slots id me k (λ y. y) (after_read_state stands.logs stands.kept z (step slots k 0 0 none) me)) is_drops (looks slots id me c k q past mine at mid empty)))
