-- The steps of `link` and of `await_role`: that each keeps the rule, and which event it is.
use Rattle.std.proofs.Common.{◌≡◌, ◌≢◌, ℕ, ◌+◌, ◌*◌, ◌<◌, ◌≤◌, ◌⊎◌, inl, eqb, List, [], ◌∷◌, ◌++◌, length, get_or, set, refl, sym, ap, ◌∙◌, subst, inr, arith, length-set, append-nil, append_assoc, get_or-set_other, get_or-set_same}
use mathlib.Core.Logic.{dite}
use mathlib.Core.Path.{Path}
use mathlib.Core.Option.{Option, none, some}
use native.Mathlib.Decide.{ℕ_discrete}
use lib.ListN.{get_elem?}
use lib.Seq.{set-get_or}
use prog.Atomic.{either}
use Rattle.atomic_table.specs.Table.{step, keeps, takes, gives, carried_after, stepped, Allows}
use Rattle.atomic_table.proofs.Lists.{set_here, set_else, exchanged}
use Rattle.line_rule.specs.declared.view.QueuedWriter.{QueuedWriter}
use Rattle.line_rule.specs.declared.view.Handling.{Handling}
use Rattle.line_rule.specs.declared.view.LineHold.{LineHold}
use Rattle.line_rule.specs.declared.view.Back.TheVariants.{Away}
use Rattle.line_rule.specs.declared.content.LineSlot.{LineSlot}
use Rattle.line_rule.specs.declared.content.LineSlot.TheVariants.{Empty, Asked, Told, TheLog, TheRight}
use Rattle.line_rule.specs.declared.view.LineStage.{LineStage}
use Rattle.line_rule.specs.declared.view.LineStage.TheVariants.{Stalling, Idle, Preparing, Waiting, Helping, Fresh, Leading, Cutting, Marking, Settling, Collecting}
use Rattle.line_rule.specs.Chain.{state_at, older_at, pack, newest_from, of}
use Rattle.line_rule.specs.Standing.{held, pause_of, dismissed, dropped, Phase, idle, preparing, linked, chosen, leads, taken, completed, collecting, Mode, open_, waits, led, built, cut, marked, base_of, Holds, KnowsBack, Place}
use Rattle.line_rule.specs.Laws.{Laws}
use Rattle.line_rule.specs.Rule.{InChain, Waits, Knows, Recalls, hold, InPhase, LogHome, InMode, Listed, InSecond, due_untold}
use Rattle.line_rule.specs.Events.{LineEvent, comes, elects, Core, HasCome}
use Rattle.line_rule.specs.SecondList.{second_list_of}
use Rattle.line_rule.specs.Steps.{Lists, Stays, IsLink, now_of, IsNow, StepIs}
use Rattle.line_rule.specs.Plays.{Sat, queued_writer, At, after_begin, after_read_newest, after_name_older, Elected, after_link, after_return_slot}
use Rattle.line_rule.proofs.Chains.{put, put_at, put_here, links_stay, links_same, ends_same, nobody, newest_small, stand_absent, stand_change, taken_change}
use Rattle.line_rule.proofs.Exits.{owing_stays, cut_stays, away_now}
use Rattle.line_rule.proofs.Accounts.{comes_more, comes_first}
use Rattle.line_rule.proofs.Moves.{St, row_stays, mode_stays, knows_else, moved, Goes, allows, unmoved}
use Rattle.line_rule.proofs.Keeps.{second_row, second_same}
use Rattle.line_rule.proofs.Pauses.{running, queued_grows, names_small, names_grow, names_free, names_stay}
use Rattle.line_rule.specs.declared.words.TheConstants.{STALL}

module _ {Request Reply : Type 0} where
  abbrev pub own : List (LineHold Request Reply) → LineHold Request Reply
  own [] = hold 0 Idle []
  own (h ∷ hs) = h

  pub one_hold : (c c' : ℕ) (st st' : LineStage Request Reply) (a b : List (Request × Reply)) (v : List (LineHold Request Reply)) → v ≡ hold c st a ∷ [] → v ≡ hold c' st' b ∷ [] → (c ≡ c') × (st ≡ st') × (a ≡ b)
  one_hold c c' st st' a b v x y = let e = sym x ∙ y in (ap (λ l. (own l).client) e, ap (λ l. (own l).stage) e, ap (λ l. (own l).mine) e)

abbrev asked_in : {Request Reply Log Right : Type 0} → Request → LineSlot Request Reply Log Right → Request
asked_in d Empty = d
asked_in d (Asked q) = q
asked_in d (Told p) = d
asked_in d (TheLog l) = d
asked_in d (TheRight r) = d

abbrev asked_of : {Request Reply Log Right : Type 0} → Request → List (ℕ × LineSlot Request Reply Log Right) → Request
asked_of d [] = d
asked_of d (x ∷ xs) = asked_in d x.1

one_asked : {Request Reply Log Right : Type 0} (c c' : ℕ) (q q' : Request) (v : List (ℕ × LineSlot Request Reply Log Right)) → v ≡ (c, Asked q) ∷ [] → v ≡ (c', Asked q') ∷ [] → q ≡ q'
one_asked c c' q q' v x y = ap (asked_of q) (sym x ∙ y)

abbrev waits_in : {Request Reply : Type 0} → Request → LineStage Request Reply → Request
waits_in d Idle = d
waits_in d (Preparing w) = d
waits_in d (Waiting q past) = q
waits_in d (Helping q) = q
waits_in d (Fresh o s) = d
waits_in d (Leading l) = d
waits_in d (Stalling l t) = d
waits_in d (Cutting l e) = d
waits_in d (Marking l) = d
waits_in d (Settling b) = d
waits_in d Collecting = d

pub one_waits : {Request Reply : Type 0} (q q' : Request) (a b : List (LineEvent Request Reply)) → Path (LineStage Request Reply) (Waiting q a) (Waiting q' b) → q ≡ q'
one_waits {Reply = Reply} q q' a b e = ap (waits_in {Reply = Reply} q) e

pub one_helps : {Request Reply : Type 0} (q q' : Request) → Path (LineStage Request Reply) (Helping q) (Helping q') → q ≡ q'
one_helps {Reply = Reply} q q' e = ap (waits_in {Reply = Reply} q) e

pub one_chosen_entry : {Request Reply : Type 0} (e f : QueuedWriter Request) → Path (Phase Request Reply) (chosen e) (chosen f) → e ≡ f
one_chosen_entry e f is = cc

pub waits_one : {Request : Type 0} (a b : ℕ) → Path (Mode Request) (waits a) (waits b) → a ≡ b
waits_one a b is = cc

pub not_snoc : {A : Type 0} (l : List A) (x : A) → [] ≡ l ++ x ∷ [] → ⊥
not_snoc [] x e = absurd (cc)
not_snoc (y ∷ ys) x e = absurd (cc)

-- the client is not in the list
abbrev IsOut : {Request Reply : Type 0} → Phase Request Reply → Type 0
IsOut idle = Unit {0}
IsOut (preparing w) = Unit {0}
IsOut (linked e) = ⊥
IsOut (chosen e) = ⊥
IsOut (leads e) = ⊥
IsOut (taken l e) = ⊥
IsOut (completed q p) = Unit {0}
IsOut (held c e) = ⊥
IsOut (dropped c e p) = ⊥
IsOut (dismissed q p) = Unit {0}
IsOut collecting = Unit {0}

out_chain : {Request Reply : Type 0} (e : QueuedWriter Request) (ph : Phase Request Reply) → IsOut ph → InChain e ph → ⊥
out_chain e idle a b = b
out_chain e (preparing w) a b = b
out_chain e (linked f) a b = a
out_chain e (chosen f) a b = a
out_chain e (leads f) a b = a
out_chain e (taken l f) a b = a
out_chain e (completed q p) a b = b
out_chain e (held c f) a b = a
out_chain e (dropped c f p) a b = b
out_chain e (dismissed q p) a b = b
out_chain e collecting a b = b

out_second : {Request Reply : Type 0} (place : ℕ → Place Request Reply) (k : ℕ) (ph : Phase Request Reply) → IsOut ph → InSecond place k ph → ⊥
out_second place k idle a b = b
out_second place k (preparing w) a b = b
out_second place k (linked f) a b = a
out_second place k (chosen f) a b = a
out_second place k (leads f) a b = a
out_second place k (taken l f) a b = a
out_second place k (completed q p) a b = b
out_second place k (held c e) a b = a
out_second place k (dropped c e p) a b = b
out_second place k (dismissed q p) a b = b
out_second place k collecting a b = b

module _ {Request Reply Log Right : Type 0} (stands : Laws Request Reply Log Right) (n : ℕ) where
  -- a step of a client that is not in the list and does not come into it
  pub aside : (s : St stands n) (r : Listed stands n s) (c id : ℕ) (ws : List ℕ) (hs : List (Option (LineSlot Request Reply Log Right))) (h : LineHold Request Reply) (st : LineStage Request Reply) (mine : List (Request × Reply)) (ph ph' : Phase Request Reply) (due told : ℕ → List (Request × Reply))
      → get_elem? s.views id ≡ some (h ∷ []) → h.client ≡ c → r.phase c ≡ ph → IsOut ph → IsOut ph'
      → length ws ≡ length s.words → length hs ≡ length s.homes
      → ((j : ℕ) → j ≢ state_at c → j ≢ older_at c → get_or ws j 0 ≡ get_or s.words j 0) → ((j : ℕ) → j ≢ c → get_elem? hs j ≡ get_elem? s.homes j)
      → h.back ≡ Away → (get_or ws (state_at c) 0 ≡ 4 → get_or s.words (state_at c) 0 ≡ 4) → InPhase stands ws hs c (due c) ph' → ((j : ℕ) → j ≢ c → due j ≡ r.due j) → ((j : ℕ) → j ≢ c → told j ≡ r.told j) → r.told c ++ r.due c ≡ told c ++ due c
      → mine ≡ told c → ((j : ℕ) → r.due j ≡ [] → due j ≡ []) → ((phase : ℕ → Phase Request Reply) → phase c ≡ ph' → Knows r.line r.hand r.handled r.mode phase due c st) → due_untold ph' (due c) ≡ due_untold ph (r.due c) → Recalls r.account.events st
      → IsNow stands n (now_of stands n s r) (record { words = ws; homes = hs; views = set s.views id (hold c st mine ∷ []) })
  aside s r c id ws hs h st mine ph ph' due told at client now out out' long_w long_h same_w same_h is_away to4 row due_else told_else shares is_mine nil knows owes recalls =
      let fit = (r.seats id (h ∷ []) at).0 in
      let lo : 0 < c = subst (λ (k : ℕ). 0 < k) client fit.1 in
      let left : (e : QueuedWriter Request) → InChain e (r.phase c) → ⊥ = λ e here. out_chain e ph out (subst (InChain e) now here) in
      let absent = stand_absent r.phase c r.line left r.stand in
      let no_chosen : (e : QueuedWriter Request) → ph' ≡ chosen e → ⊥ = λ e bad. subst IsOut bad out' in
      let was_chosen : (e : QueuedWriter Request) → r.phase c ≡ chosen e → ph' ≡ chosen e = λ e bad. absurd (subst IsOut (sym now ∙ bad) out) in
      let was_leads : (j : ℕ) (e : QueuedWriter Request) → j ≡ c → r.phase c ≡ leads e → r.due j ≡ [] → ph' ≡ leads e = λ j e _ bad _. absurd (subst IsOut (sym now ∙ bad) out) in
      let was_linked : (e : QueuedWriter Request) → r.phase c ≡ linked e → ph' ≡ linked e = λ e bad. absurd (subst IsOut (sym now ∙ bad) out) in
      let was_taken : (l : ℕ) (e : QueuedWriter Request) → r.phase c ≡ taken l e → (ph' ≡ taken l e) × (due c ≡ r.due c) = λ l e bad. absurd (subst IsOut (sym now ∙ bad) out) in
      moved stands n s r c id ws hs h (hold c st mine) r.line r.hand r.handled r.mode ph' due told r.two record {
        at = at;
        real = lo;
        same_client = sym client;
        wide = long_w;
        many = long_h;
        newest_is = names_stay s.words ws (newest_from (base_of r.mode) r.line) (pause_of r.mode) (same_w 0 (λ e. omega arith) (λ e. omega arith)) (same_w 3 (λ e. omega arith) (λ e. omega arith)) r.newest_is;
        links = links_stay (base_of r.mode) s.words ws c r.line (λ j ne. same_w (older_at j) (λ e. omega arith) (λ e. ne (omega arith))) absent r.links;
        distinct = r.distinct;
        within = r.within;
        stand = stand_change r.phase c ph' r.line (λ e here. absurd (left e here)) r.stand;
        other_rows = λ j ne _ _ ok. row_stays stands n s.words ws s.homes hs j (due j) (same_w (state_at j) (λ e. ne (omega arith)) (λ e. omega arith)) (same_w (older_at j) (λ e. omega arith) (λ e. ne (omega arith))) (same_h j ne) (r.phase j)
            (subst (λ (d : List (Request × Reply)). InPhase stands s.words s.homes j d (r.phase j)) (sym (due_else j ne)) ok);
        row = row;
        log_is = mode_stays stands n s.homes hs r.line r.hand r.handled r.phase r.due due c ph' (same_h 0 (λ e. omega arith)) was_chosen was_leads was_linked (λ l. taken_change r.phase r.due due c ph' l r.hand (was_taken l) due_else) (λ l e bad. absurd (subst IsOut (sym now ∙ bad) out)) nil r.mode r.log_is;
        one_chosen = λ j e. put_at r.phase c ph' (λ i f. f ≡ chosen e → r.mode ≡ waits i) j (λ _ bad. absurd (no_chosen e bad)) (λ _ ok. r.one_chosen j e ok);
        account = r.account;
        goes_on = ([], refl);
        recalls = recalls;
        has_cut = cut_stays r.account.log r.account.log r.hand r.phase c ph' refl r.mode (λ _ e bad. absurd (subst IsOut (sym now ∙ bad) out)) r.has_cut;
        owing_is = owing_stays r.phase r.due r.account.owing r.owing_is r.account.owing due c ph' refl (owes ∙ ap (λ f. due_untold f (r.due c)) (sym now)) due_else;
        second = second_row stands n s.words ws s.homes hs r.phase c ph' r.mode (stands.given r.handled) r.two (λ there. out_second r.two.place c ph out (subst (InSecond r.two.place c) now there)) (same_w 1 (λ e. omega arith) (λ e. omega arith)) (λ j ne. same_w (older_at j) (λ e. omega arith) (λ e. ne (omega arith))) (λ j ne. same_w (state_at j) (λ e. ne (omega arith)) (λ e. omega arith)) to4 (same_h (n + 1) (λ e. let small = fit.2 in omega (arith, client))) r.second;
        back = subst (KnowsBack r.two h.client) is_away fit.5;
        else_back = λ _ _ _ ok. ok;
        kept = r.kept;
        coded = λ e is. absurd (out_chain e ph' out' is);
        shared_out = λ j. dite (ℕ_discrete j c)
            (λ e. subst (λ (i : ℕ). of i r.handled ≡ told i ++ due i) (sym e) (r.shared_out c ∙ shares))
            (λ ne. r.shared_out j ∙ (ap (λ (l : List (Request × Reply)). l ++ r.due j) (sym (told_else j ne)) ∙ ap (λ (l : List (Request × Reply)). told j ++ l) (sym (due_else j ne))));
        told_else = λ j ne. told_else j (λ e. ne (e ∙ sym client));
        mine = is_mine ∙ ap told (sym client);
        knows = subst (λ (i : ℕ). Knows r.line r.hand r.handled r.mode (put r.phase c ph') due i st) (sym client) (knows (put r.phase c ph') (put_here r.phase c ph'));
        others = λ j ne. knows_else stands n r.line r.line r.hand r.handled r.mode r.mode r.phase r.due due c ph' j (λ e. ne (e ∙ sym client)) (ends_same r.line) (λ _. refl) was_linked (was_taken j) due_else (λ e x bad. absurd (subst IsOut (sym now ∙ bad) out));
      }

  pub begins_is : (slots id : ℕ) (me : Sat Request Reply Log Right) (c k : ℕ) (mine : List (Request × Reply)) → k ≡ state_at c → At c Idle mine me → me.1 ≡ [] → StepIs stands n (λ _. Stays) slots id me k (λ _. 1) (λ _. after_begin (step slots k 1 0 none) me 1)
  begins_is slots id me c k mine is mid empty s r long at fits =
      let h : LineHold Request Reply = hold c Idle mine in
      let at' : get_elem? s.views id ≡ some (h ∷ []) = at ∙ ap some mid in
      let fit = (r.seats id (h ∷ []) at').0 in
      let w : ℕ = get_or s.words (older_at c) 0 in
      let h' : LineHold Request Reply = hold c (Preparing w) mine in
      let row = subst (InPhase stands s.words s.homes c (r.due c)) fit.4 (r.rows c fit.1 fit.2) in
      let ws : List ℕ = set s.words k 1 in
      let hi : c ≤ n = fit.2 in
      let wide : length s.words ≡ 2 * n + 4 = r.wide in
      let same : (j : ℕ) → j ≢ k → get_or ws j 0 ≡ get_or s.words j 0 = λ j ne. get_or-set_other s.words k j 1 0 (λ e. ne (omega arith)) in (
        h' ∷ [],
        takes c Empty,
        row.0,
        (
          now_of stands n s r,
          refl,
          aside s r c id ws (set s.homes c none) h (Preparing w) mine idle (preparing w) r.due r.told at' refl fit.4 tt tt (length-set s.words k 1) (length-set s.homes c none)
              (λ j a b. same j (λ e. a (e ∙ is))) (λ j ne. set_else s.homes c j none ne) refl
              (λ four. let one : get_or ws (state_at c) 0 ≡ 1 = ap (λ (i : ℕ). get_or ws i 0) (sym is) ∙ get_or-set_same s.words k 1 0 (omega arith) in absurd (omega arith))
              (ap (λ (i : ℕ). get_or ws i 0) (sym is) ∙ get_or-set_same s.words k 1 0 (omega arith), same (older_at c) (λ e. omega arith), row.1)
              (λ _ _. refl) (λ _ _. refl) refl fit.3 (λ _ e. e) (λ phase here. here) refl tt,
        ),
        λ c' mine' mid'. let e = one_hold c c' Idle Idle mine mine' me.0 mid mid' in
            subst (λ (z : ℕ × List (Request × Reply)). (v : ℕ) × At z.0 (Preparing v) z.1 (h' ∷ [], (c, Empty) ∷ me.1) × ((c, Empty) ∷ me.1 ≡ (z.0, Empty) ∷ [])) (λ i. (e.0 i, e.2 i)) (w, refl, ap (λ l. (c, Empty) ∷ l) empty),
      )

  pub begins : (slots id : ℕ) (me : Sat Request Reply Log Right) (c k : ℕ) (mine : List (Request × Reply)) → k ≡ state_at c → At c Idle mine me → me.1 ≡ [] → Allows (Listed stands n) slots id me k (λ _. 1) (λ _. after_begin (step slots k 1 0 none) me 1)
  begins slots id me c k mine is mid empty = allows stands n (λ _. Stays) slots id me k (λ _. 1) (λ _. after_begin (step slots k 1 0 none) me 1) (begins_is slots id me c k mine is mid empty)

  pub aims_is : (slots id : ℕ) (me : Sat Request Reply Log Right) (c k w new : ℕ) (mine : List (Request × Reply)) → k ≡ older_at c → At c (Preparing w) mine me → StepIs stands n (λ _. Stays) slots id me k (λ _. new) (λ _. after_name_older (step slots k new 0 none) me new)
  aims_is slots id me c k w new mine is mid s r long at fits =
      let h : LineHold Request Reply = hold c (Preparing w) mine in
      let at' : get_elem? s.views id ≡ some (h ∷ []) = at ∙ ap some mid in
      let fit = (r.seats id (h ∷ []) at').0 in
      let h' : LineHold Request Reply = hold c (Preparing new) mine in
      let row = subst (InPhase stands s.words s.homes c (r.due c)) fit.4 (r.rows c fit.1 fit.2) in
      let ws : List ℕ = set s.words k new in
      let hi : c ≤ n = fit.2 in
      let wide : length s.words ≡ 2 * n + 4 = r.wide in
      let same : (j : ℕ) → j ≢ k → get_or ws j 0 ≡ get_or s.words j 0 = λ j ne. get_or-set_other s.words k j new 0 (λ e. ne (omega arith)) in (
        h' ∷ [],
        keeps,
        tt,
        (
          now_of stands n s r,
          refl,
          aside s r c id ws s.homes h (Preparing new) mine (preparing w) (preparing new) r.due r.told at' refl fit.4 tt tt (length-set s.words k new) refl
              (λ j a b. same j (λ e. b (e ∙ is))) (λ j ne. refl) refl (λ four. sym (same (state_at c) (λ e. omega arith)) ∙ four)
              (same (state_at c) (λ e. omega arith) ∙ row.0, ap (λ (i : ℕ). get_or ws i 0) (sym is) ∙ get_or-set_same s.words k new 0 (omega arith), row.2)
              (λ _ _. refl) (λ _ _. refl) refl fit.3 (λ _ e. e) (λ phase here. here) refl tt,
        ),
        λ c' w' mine' mid'. let e = one_hold c c' (Preparing w) (Preparing w') mine mine' me.0 mid mid' in
            (λ i. hold (e.0 i) (Preparing new) (e.2 i) ∷ [], refl),
      )

  pub aims : (slots id : ℕ) (me : Sat Request Reply Log Right) (c k w new : ℕ) (mine : List (Request × Reply)) → k ≡ older_at c → At c (Preparing w) mine me → Allows (Listed stands n) slots id me k (λ _. new) (λ _. after_name_older (step slots k new 0 none) me new)
  aims slots id me c k w new mine is mid = allows stands n (λ _. Stays) slots id me k (λ _. new) (λ _. after_name_older (step slots k new 0 none) me new) (aims_is slots id me c k w new mine is mid)

  pub rests_is : (slots id : ℕ) (me : Sat Request Reply Log Right) (c k : ℕ) (mine : List (Request × Reply)) → At c Collecting mine me → me.1 ≡ (c, Empty) ∷ [] → StepIs stands n (λ _. Stays) slots id me k (λ y. y) (after_return_slot (step slots k 0 0 none) me)
  rests_is slots id me c k mine mid mine_out s r long at fits =
      let h : LineHold Request Reply = hold c Collecting mine in
      let at' : get_elem? s.views id ≡ some (h ∷ []) = at ∙ ap some mid in
      let fit = (r.seats id (h ∷ []) at').0 in
      let h' : LineHold Request Reply = hold c Idle mine in
      let row = subst (InPhase stands s.words s.homes c (r.due c)) fit.4 (r.rows c fit.1 fit.2) in
      let ws : List ℕ = set s.words k (get_or s.words k 0) in
      let hi : c ≤ n = fit.2 in
      let many : length s.homes ≡ n + 2 = r.many in
      let hs = set s.homes c (some Empty) in
      let same : (j : ℕ) → get_or ws j 0 ≡ get_or s.words j 0 = λ j. ap (λ (l : List ℕ). get_or l j 0) (set-get_or s.words k 0) in
      let after : IsNow stands n (now_of stands n s r) (record { words = ws; homes = hs; views = set s.views id (h' ∷ []) }) =
      aside s r c id ws hs h Idle mine collecting idle r.due r.told at' refl fit.4 tt tt (length-set s.words k (get_or s.words k 0)) (length-set s.homes c (some Empty))
      (λ j _ _. same j) (λ j ne. set_else s.homes c j (some Empty) ne) refl (λ four. sym (same (state_at c)) ∙ four)
      (set_here s.homes c (some Empty) (omega arith), row)
      (λ _ _. refl) (λ _ _. refl) refl fit.3 (λ _ e. e) (λ phase here. here) refl tt in (
        h' ∷ [],
        gives,
        tt,
        (now_of stands n s r, refl, subst (λ (l : List (ℕ × LineSlot Request Reply Log Right)). IsNow stands n (now_of stands n s r) (stepped s k (get_or s.words k 0) id l (h' ∷ []) gives)) (sym mine_out) after),
        λ c' mine' mid'. let e = one_hold c c' Collecting Collecting mine mine' me.0 mid mid' in
            ((λ i. hold (e.0 i) Idle (e.2 i) ∷ []), ap (λ l. carried_after l gives) mine_out),
      )

  pub rests : (slots id : ℕ) (me : Sat Request Reply Log Right) (c k : ℕ) (mine : List (Request × Reply)) → At c Collecting mine me → me.1 ≡ (c, Empty) ∷ [] → Allows (Listed stands n) slots id me k (λ y. y) (after_return_slot (step slots k 0 0 none) me)
  rests slots id me c k mine mid mine_out = allows stands n (λ _. Stays) slots id me k (λ y. y) (after_return_slot (step slots k 0 0 none) me) (rests_is slots id me c k mine mid mine_out)

  base_small : (m : Mode Request) → base_of m < 256
  base_small open_ = omega arith
  base_small (waits c) = omega arith
  base_small (led c) = omega arith
  base_small (built c g t) = omega arith
  base_small (cut c w) = omega arith
  base_small (marked c) = omega arith

  pub peeks_is : (slots id : ℕ) (me : Sat Request Reply Log Right) → StepIs stands n (λ _. Stays) slots id me 0 (λ y. y) (after_read_newest (step slots 0 0 0 none) me)
  peeks_is slots id me s r long at fits = let few = r.few in let small = newest_small n (base_of r.mode) r.line (omega arith) (base_small r.mode) r.within in (me.0, keeps, tt, unmoved stands n Stays s 0 id me.1 me.0 at r refl, (refl, below (names_small s.words (newest_from (base_of r.mode) r.line) (pause_of r.mode) r.newest_is)))
    where
      below : (get_or s.words 0 0 ≡ newest_from (base_of r.mode) r.line) ⊎ (get_or s.words 0 0 ≡ STALL) → get_or s.words 0 0 < 256
      below (inl is) = let few = r.few in let small = newest_small n (base_of r.mode) r.line (omega arith) (base_small r.mode) r.within in omega arith
      below (inr is) = omega arith

  pub peeks : (slots id : ℕ) (me : Sat Request Reply Log Right) → Allows (Listed stands n) slots id me 0 (λ y. y) (after_read_newest (step slots 0 0 0 none) me)
  peeks slots id me = allows stands n (λ _. Stays) slots id me 0 (λ y. y) (after_read_newest (step slots 0 0 0 none) me) (peeks_is slots id me)

  log_free : (homes : List (Option (LineSlot Request Reply Log Right))) (line hand : List (QueuedWriter Request)) (handled : List (Handling Request Reply)) (phase : ℕ → Phase Request Reply) (due : ℕ → List (Request × Reply)) → line ≡ [] → (mode : Mode Request) → base_of mode ≡ 0 → InMode stands n homes line hand handled phase due mode → (mode ≡ open_) × (hand ≡ []) × LogHome stands homes handled
  log_free homes line hand handled phase due nil open_ zero_base ok = (refl, ok.1, ok.2)
  log_free homes line hand handled phase due nil (waits c) zero_base ok = absurd (not_snoc ok.0.0 ok.0.1 (sym nil ∙ ok.0.2))
  log_free homes line hand handled phase due nil (led c) zero_base ok = absurd (not_snoc ok.0.0 ok.0.1 (sym nil ∙ ok.0.2))
  log_free homes line hand handled phase due nil (built c g t) zero_base ok = absurd (not_snoc (ok.0.0 ++ hand) ok.0.1 (sym nil ∙ (ok.0.2 ∙ sym (append_assoc ok.0.0 hand (ok.0.1 ∷ [])))))
  log_free homes line hand handled phase due nil (cut c w) zero_base ok = absurd (not_snoc ok.0.0 ok.0.1 (sym nil ∙ ok.0.2))
  log_free homes line hand handled phase due nil (marked c) zero_base ok = absurd (omega arith)

  -- a writer is added at the newer end
  grown : (homes : List (Option (LineSlot Request Reply Log Right))) (line hand : List (QueuedWriter Request)) (handled : List (Handling Request Reply)) (phase : ℕ → Phase Request Reply) (due : ℕ → List (Request × Reply)) (e0 : QueuedWriter Request) → phase e0.by ≡ linked e0 → (mode : Mode Request) → (mode ≡ open_ → ⊥)
      → InMode stands n homes line hand handled phase due mode → InMode stands n homes (e0 ∷ line) hand handled phase due mode
  grown homes line hand handled phase due e0 here open_ ne ok = absurd (ne refl)
  grown homes line hand handled phase due e0 here (waits c) ne ok = ((e0 ∷ ok.0.0, ok.0.1, ap (λ l. e0 ∷ l) ok.0.2, (here, ok.0.3), ok.0.4, ok.0.5), ok.1, ok.2)
  grown homes line hand handled phase due e0 here (led c) ne ok = ((e0 ∷ ok.0.0, ok.0.1, ap (λ l. e0 ∷ l) ok.0.2, (here, ok.0.3), ok.0.4, ok.0.5), ok.1, ok.2)
  grown homes line hand handled phase due e0 here (built c g t) ne ok = ((e0 ∷ ok.0.0, ok.0.1, ap (λ l. e0 ∷ l) ok.0.2, queued_grows phase due c e0 ok.0.0 t here ok.0.3, ok.0.4, ok.0.5), ok.1, ok.2)
  grown homes line hand handled phase due e0 here (marked c) ne ok = ((here, ok.0), ok.1, ok.2, ok.3, ok.4)
  grown homes line hand handled phase due e0 here (cut c w) ne ok = ((e0 ∷ ok.0.0, ok.0.1, ap (λ l. e0 ∷ l) ok.0.2, (here, ok.0.3), ok.0.4, ok.0.5), ok.1, ok.2, ok.3)

  module _ (slots id : ℕ) (me : Sat Request Reply Log Right) (c w old code : ℕ) (q : Request) (mine : List (Request × Reply)) (said : Option (LineSlot Request Reply Log Right)) (packs : w ≡ pack old code) (mid : At c (Preparing w) mine me) (slot : me.1 ≡ (c, Asked q) ∷ []) (is_asked : stands.asks q code) (unmarked : old ≢ STALL)
      (s : St stands n) (r : Listed stands n s) (at : get_elem? s.views id ≡ some me.0) (hit : get_or s.words 0 0 ≡ old) where
    abbrev e0 : QueuedWriter Request
    e0 = queued_writer c code q

    abbrev told_of : ℕ → Sat Request Reply Log Right → Type 0
    told_of = after_link stands.logs (step slots 0 old c said) me

    abbrev h : LineHold Request Reply
    h = hold c (Preparing w) mine

    not_stopped : get_or s.words 0 0 ≢ STALL
    not_stopped e = unmarked (sym hit ∙ e)

    first_is : get_or s.words 0 0 ≡ newest_from (base_of r.mode) r.line
    first_is = names_free s.words (newest_from (base_of r.mode) r.line) (pause_of r.mode) not_stopped r.newest_is

    enters_first : old ≡ 0 → Goes stands n (IsLink old e0) s r 0 id me told_of c
    enters_first z =
        let at' : get_elem? s.views id ≡ some (h ∷ []) = at ∙ ap some mid in
        let fit = (r.seats id (h ∷ []) at').0 in
        let now : r.phase c ≡ preparing w = fit.4 in
        let row = subst (InPhase stands s.words s.homes c (r.due c)) now (r.rows c fit.1 fit.2) in
        let lo : 0 < c = fit.1 in
        let hi : c ≤ n = fit.2 in
        let wide : length s.words ≡ 2 * n + 4 = r.wide in
        let none_there = nobody n (base_of r.mode) r.line r.within (sym first_is ∙ (hit ∙ z)) in
        let empty : r.line ≡ [] = none_there.0 in
        let free = log_free s.homes r.line r.hand r.handled r.phase r.due empty r.mode none_there.1 r.log_is in
        let l : Log = free.2.0 in
        let opened : r.mode ≡ open_ = free.0 in
        let ws : List ℕ = set s.words 0 c in
        let hs = set s.homes 0 none in
        let h' : LineHold Request Reply = hold c (Fresh e0 r.handled) mine in
        let same : (j : ℕ) → j ≢ 0 → get_or ws j 0 ≡ get_or s.words j 0 = λ j ne. get_or-set_other s.words 0 j c 0 (λ e. ne (omega arith)) in
        let ph : Phase Request Reply = leads e0 in
        let here : put r.phase c ph c ≡ ph = put_here r.phase c ph in
        let acc = comes_first stands.bound r.line r.handled r.mode r.account e0 empty opened (r.owing_is c ∙ (ap (λ f. due_untold f (r.due c)) now ∙ row.2)) in
        let m' : Sat Request Reply Log Right = (h' ∷ [], (0, TheLog l) ∷ me.1) in (
          h' ∷ [],
          takes 0 (TheLog l),
          free.2.1,
          (
            ((acc.0.queue, acc.0.log, r.handled, acc.0.owing), second_list_of r.two),
            ((λ _ _. ((acc.1.0, second_list_of r.two), (acc.1.1, refl), (acc.1.2, refl))), (λ _ nz. absurd (nz (hit ∙ z))), λ miss. absurd (miss hit)),
            moved stands n s r c id ws hs h h' (e0 ∷ []) r.hand r.handled (led c) ph r.due r.told r.two record {
              at = at';
              real = lo;
              same_client = refl;
              wide = length-set s.words 0 c;
              many = length-set s.homes 0 none;
              newest_is = get_or-set_same s.words 0 c 0 (omega arith);
              links = (same (older_at c) (λ e. omega arith) ∙ (row.1 ∙ (packs ∙ ap (λ (o : ℕ). pack o code) z)), tt);
              distinct = (tt, tt);
              within = (lo, hi, tt);
              stand = (subst (InChain e0) (sym here) refl, tt);
              other_rows = λ j ne lo' _. row_stays stands n s.words ws s.homes hs j (r.due j) (same (state_at j) (λ e. omega arith)) (same (older_at j) (λ e. omega arith)) (set_else s.homes 0 j none (λ e. omega arith)) (r.phase j);
              row = refl;
              log_is = (([], e0, refl, tt, here, refl), free.1, row.2);
              one_chosen = λ j e. put_at r.phase c ph (λ i f. f ≡ chosen e → Path (Mode Request) (led c) (waits i)) j (λ _ bad. absurd (cc)) (λ _ ok. let was : r.mode ≡ waits j = r.one_chosen j e ok in absurd (cc));
              second = second_same stands n s.words ws s.homes hs r.phase c ph r.mode (led c) (stands.given r.handled) (stands.given r.handled) r.two (inr (λ there. subst (InSecond r.two.place c) now there)) same (set_else s.homes 0 (n + 1) none (λ e. omega arith)) (λ k h. inr (ap r.two.place (sym h) ∙ fit.5.0)) (λ k h. inr (λ four. let one : get_or s.words (state_at k) 0 ≡ 1 = ap (λ (j : ℕ). get_or s.words (state_at j) 0) (sym h) ∙ row.0 in let four' = sym (same (state_at k) (λ e. omega arith)) ∙ four in absurd (omega arith))) (λ k _ h. absurd (subst (Holds k) opened h)) (λ v. v) r.second;
              back = fit.5;
              else_back = λ _ _ _ ok. ok;
              kept = r.kept;
              coded = λ e is. subst (λ (z : QueuedWriter Request). stands.asks z.asked z.code) is is_asked;
              account = acc.0;
              goes_on = (elects e0 ∷ comes e0 ∷ [], acc.2);
              recalls = tt;
              has_cut = tt;
              owing_is = owing_stays r.phase r.due r.account.owing r.owing_is acc.0.owing r.due c ph (ap (λ (x : Core Request Reply). x.3) acc.1.2.1 ∙ ap (λ (x : Core Request Reply). x.3) acc.1.1.1) (ap (λ f. due_untold f (r.due c)) (sym now)) (λ _ _. refl);
              shared_out = r.shared_out;
              told_else = λ _ _. refl;
              mine = fit.3;
              knows = (refl, here, refl);
              others = λ j ne. knows_else stands n r.line (e0 ∷ []) r.hand r.handled r.mode (led c) r.phase r.due r.due c ph j ne (e0 ∷ [], ap (λ t. e0 ∷ t) (sym empty)) (λ h. absurd (subst (Holds j) opened h)) (λ e bad. absurd (cc)) (λ e bad. absurd (cc)) (λ _ _. refl) (λ e x bad. absurd (cc));
            },
          ),
          λ c' w' q' mine' mid' slot'.
              let e = one_hold c c' (Preparing w) (Preparing w') mine mine' me.0 mid mid' in
              let same_q : q ≡ q' = one_asked c c' q q' me.1 slot slot' in
              let told : Elected stands.logs c q mine m' = (e0, r.handled, l, refl, refl, refl, free.2.2, ap (λ t. (0, TheLog l) ∷ t) slot, r.shared_out c ∙ ((λ i. sym fit.3 i ++ row.2 i) ∙ append-nil mine)) in (
                (λ _ _. subst (λ (t : ℕ × Request × List (Request × Reply)). Elected stands.logs t.0 t.1 t.2 m') (λ i. (e.0 i, same_q i, e.2 i)) told),
                (λ _ nz. absurd (nz (hit ∙ z))),
                λ miss. absurd (miss hit),
              ),
        )

    enters_later : old ≢ 0 → Goes stands n (IsLink old e0) s r 0 id me told_of c
    enters_later nz =
        let at' : get_elem? s.views id ≡ some (h ∷ []) = at ∙ ap some mid in
        let fit = (r.seats id (h ∷ []) at').0 in
        let now : r.phase c ≡ preparing w = fit.4 in
        let row = subst (InPhase stands s.words s.homes c (r.due c)) now (r.rows c fit.1 fit.2) in
        let lo : 0 < c = fit.1 in
        let hi : c ≤ n = fit.2 in
        let wide : length s.words ≡ 2 * n + 4 = r.wide in
        let many : length s.homes ≡ n + 2 = r.many in
        let some_one : r.mode ≡ open_ → ⊥ = λ is_open. let none_there = (subst (InMode stands n s.homes r.line r.hand r.handled r.phase r.due) is_open r.log_is).0 in nz (sym hit ∙ (first_is ∙ (λ i. newest_from (base_of (is_open i)) (none_there i)))) in
        let ws : List ℕ = set s.words 0 c in
        let hs = set s.homes c (some (Asked q)) in
        let past : List (LineEvent Request Reply) = comes e0 ∷ r.account.events in
        let h' : LineHold Request Reply = hold c (Waiting q past) mine in
        let same : (j : ℕ) → j ≢ 0 → get_or ws j 0 ≡ get_or s.words j 0 = λ j ne. get_or-set_other s.words 0 j c 0 (λ e. ne (omega arith)) in
        let ph : Phase Request Reply = linked e0 in
        let here : put r.phase c ph c ≡ ph = put_here r.phase c ph in
        let away : (e : QueuedWriter Request) → InChain e (r.phase c) → ⊥ = λ e is. subst (InChain e) now is in
        let out = away_now stands n s.homes r.line r.hand r.account.queue r.account.log r.handled r.phase r.due c w now (stand_absent r.phase c r.line away r.stand) r.mode r.log_is r.account.shows r.has_cut in
        let acc = comes_more stands.bound r.line r.handled r.mode r.account e0 some_one (out.0, out.1, r.owing_is c ∙ (ap (λ f. due_untold f (r.due c)) now ∙ row.2)) (running s.words (newest_from (base_of r.mode) r.line) r.line r.account.queue r.account.log not_stopped r.mode r.newest_is r.account.shows) in
        let came : HasCome c q mine past = (e0, r.account.events, refl, refl, refl, ap (λ (y : Core Request Reply). of c y.2) r.account.ran ∙ (r.shared_out c ∙ ((λ i. sym fit.3 i ++ row.2 i) ∙ append-nil mine))) in
        let now_is : Lists Request Reply = ((acc.0.queue, acc.0.log, r.handled, acc.0.owing), second_list_of r.two) in
        let after : IsNow stands n now_is (record { words = ws; homes = hs; views = set s.views id (h' ∷ []) }) =
        moved stands n s r c id ws hs h h' (e0 ∷ r.line) r.hand r.handled r.mode ph r.due r.told r.two record {
          at = at';
          real = lo;
          same_client = refl;
          wide = length-set s.words 0 c;
          many = length-set s.homes c (some (Asked q));
          newest_is = names_grow s.words ws (newest_from (base_of r.mode) r.line) c (pause_of r.mode) not_stopped (get_or-set_same s.words 0 c 0 (omega arith)) (same 3 (λ e. omega arith)) r.newest_is;
          links = (same (older_at c) (λ e. omega arith) ∙ (row.1 ∙ (packs ∙ ap (λ (o : ℕ). pack o code) (sym hit ∙ first_is))), links_same (base_of r.mode) s.words ws r.line (λ j. same (older_at j) (λ e. omega arith)) r.links);
          distinct = (stand_absent r.phase c r.line away r.stand, r.distinct);
          within = (lo, hi, r.within);
          stand = (subst (InChain e0) (sym here) refl, stand_change r.phase c ph r.line (λ e is. absurd (away e is)) r.stand);
          other_rows = λ j ne lo' _. row_stays stands n s.words ws s.homes hs j (r.due j) (same (state_at j) (λ e. omega arith)) (same (older_at j) (λ e. omega arith)) (set_else s.homes c j (some (Asked q)) ne) (r.phase j);
          row = (refl, same (state_at c) (λ e. omega arith) ∙ row.0, set_here s.homes c (some (Asked q)) (omega arith), row.2);
          log_is = grown hs r.line r.hand r.handled (put r.phase c ph) r.due e0 here r.mode some_one (mode_stays stands n s.homes hs r.line r.hand r.handled r.phase r.due r.due c ph (set_else s.homes c 0 (some (Asked q)) (λ e. omega arith)) (λ e bad. absurd (cc)) (λ j e _ bad _. absurd (cc)) (λ e bad. absurd (cc)) (λ l. taken_change r.phase r.due r.due c ph l r.hand (λ e bad. absurd (cc)) (λ _ _. refl)) (λ l e bad. absurd (cc)) (λ _ e. e) r.mode r.log_is);
          one_chosen = λ j e. put_at r.phase c ph (λ i f. f ≡ chosen e → r.mode ≡ waits i) j (λ _ bad. absurd (cc)) (λ _ ok. r.one_chosen j e ok);
          kept = r.kept;
          coded = λ e is. subst (λ (z : QueuedWriter Request). stands.asks z.asked z.code) is is_asked;
          account = acc.0;
          goes_on = (comes e0 ∷ [], acc.2);
          recalls = ([], acc.2);
          has_cut = cut_stays r.account.log acc.0.log r.hand r.phase c ph (ap (λ (x : Core Request Reply). x.1) acc.1.1) r.mode (λ _ e bad. absurd (cc)) r.has_cut;
          owing_is = owing_stays r.phase r.due r.account.owing r.owing_is acc.0.owing r.due c ph (ap (λ (x : Core Request Reply). x.3) acc.1.1) (ap (λ f. due_untold f (r.due c)) (sym now)) (λ _ _. refl);
          second = second_row stands n s.words ws s.homes hs r.phase c ph r.mode (stands.given r.handled) r.two (λ there. subst (InSecond r.two.place c) now there) (same 1 (λ e. omega arith)) (λ j _. same (older_at j) (λ e. omega arith)) (λ j _. same (state_at j) (λ e. omega arith)) (λ four. sym (same (state_at c) (λ e. omega arith)) ∙ four) (set_else s.homes c (n + 1) (some (Asked q)) (λ e. omega arith)) r.second;
          back = fit.5;
          else_back = λ _ _ _ ok. ok;
          shared_out = r.shared_out;
          told_else = λ _ _. refl;
          mine = fit.3;
          knows = subst (Waits q) (sym here) refl;
          others = λ j ne. knows_else stands n r.line (e0 ∷ r.line) r.hand r.handled r.mode r.mode r.phase r.due r.due c ph j ne (e0 ∷ [], refl) (λ _. refl) (λ e bad. absurd (cc)) (λ e bad. absurd (cc)) (λ _ _. refl) (λ e x bad. absurd (cc));
        } in (
          h' ∷ [],
          gives,
          tt,
          (now_is, ((λ _ z. absurd (nz (sym hit ∙ z))), (λ _ _. (acc.1, refl)), λ miss. absurd (miss hit)), subst (λ (l : List (ℕ × LineSlot Request Reply Log Right)). IsNow stands n now_is (stepped s 0 c id l (h' ∷ []) gives)) (sym slot) after),
          λ c' w' q' mine' mid' slot'.
              let e = one_hold c c' (Preparing w) (Preparing w') mine mine' me.0 mid mid' in
              let same_q : q ≡ q' = one_asked c c' q q' me.1 slot slot' in (
                (λ _ zero_now. absurd (nz (sym hit ∙ zero_now))),
                (λ _ _. (past, (λ i. hold (e.0 i) (Waiting (same_q i) past) (e.2 i) ∷ []), subst (λ (z : ℕ × Request × List (Request × Reply)). HasCome z.0 z.1 z.2 past) (λ i. (e.0 i, same_q i, e.2 i)) came, ap (λ l. carried_after l gives) slot)),
                λ miss. absurd (miss hit),
              ),
        )

  pub enters_is : (slots id : ℕ) (me : Sat Request Reply Log Right) (c w old code : ℕ) (q : Request) (mine : List (Request × Reply)) (said : Option (LineSlot Request Reply Log Right)) → w ≡ pack old code → At c (Preparing w) mine me → me.1 ≡ (c, Asked q) ∷ [] → stands.asks q code → old ≢ STALL
      → StepIs stands n (IsLink old (queued_writer c code q)) slots id me 0 (λ y. either (eqb y old) c y) (after_link stands.logs (step slots 0 old c said) me)
  enters_is slots id me c w old code q mine said packs mid slot is_asked unmarked s r long at fits = exchanged (get_or s.words 0 0) old c (Goes stands n (IsLink old (queued_writer c code q)) s r 0 id me (after_link stands.logs (step slots 0 old c said) me))
      (λ hit. dite (ℕ_discrete old 0) (enters_first slots id me c w old code q mine said packs mid slot is_asked unmarked s r at hit) (enters_later slots id me c w old code q mine said packs mid slot is_asked unmarked s r at hit))
      (λ miss. (me.0, keeps, tt, unmoved stands n (IsLink old (queued_writer c code q) (get_or s.words 0 0)) s 0 id me.1 me.0 at r ((λ hit _. absurd (miss hit)), (λ hit _. absurd (miss hit)), λ _. refl), λ _ _ _ _ _ _. ((λ hit _. absurd (miss hit)), (λ hit _. absurd (miss hit)), λ _. refl)))

  pub enters : (slots id : ℕ) (me : Sat Request Reply Log Right) (c w old code : ℕ) (q : Request) (mine : List (Request × Reply)) (said : Option (LineSlot Request Reply Log Right)) → w ≡ pack old code → At c (Preparing w) mine me → me.1 ≡ (c, Asked q) ∷ [] → stands.asks q code → old ≢ STALL
      → Allows (Listed stands n) slots id me 0 (λ y. either (eqb y old) c y) (after_link stands.logs (step slots 0 old c said) me)
  enters slots id me c w old code q mine said packs mid slot is_asked unmarked = allows stands n (IsLink old (queued_writer c code q)) slots id me 0 (λ y. either (eqb y old) c y) (after_link stands.logs (step slots 0 old c said) me) (enters_is slots id me c w old code q mine said packs mid slot is_asked unmarked)

  pub enters_as : (stood : Log → List (Handling Request Reply) → Type 0) → stands.logs ≡ stood → (slots id : ℕ) (me : Sat Request Reply Log Right) (c w old code : ℕ) (q : Request) (mine : List (Request × Reply)) (said : Option (LineSlot Request Reply Log Right)) → w ≡ pack old code → At c (Preparing w) mine me → me.1 ≡ (c, Asked q) ∷ [] → stands.asks q code → old ≢ STALL
      → Allows (Listed stands n) slots id me 0 (λ y. either (eqb y old) c y) (after_link stood (step slots 0 old c said) me)
  enters_as stood is slots id me c w old code q mine said packs mid slot is_asked unmarked = subst (λ z. Allows (Listed stands n) slots id me 0 (λ y. either (eqb y old) c y) (after_link z (step slots 0 old c said) me)) is (enters slots id me c w old code q mine said packs mid slot is_asked unmarked)
