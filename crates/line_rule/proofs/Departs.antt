-- A leader that stalls writes lets a writer of the queue go: that each of these steps keeps the rule, and which event it
-- is.
use Rattle.std.proofs.Common.{◌≡◌, ◌≢◌, ℕ, ◌+◌, ◌*◌, ◌<◌, ◌≤◌, ◌⊎◌, true, List, [], ◌∷◌, ◌++◌, length, get_or, set, refl, sym, ap, ◌∙◌, subst, inl, inr, ⊎_elim, arith, length-set, append_assoc, append-nil, get_or-set_other, get_or-set_same}
use mathlib.Core.Logic.{dite}
use mathlib.Core.Path.{Path}
use mathlib.Core.Option.{none, some}
use native.Mathlib.Decide.{ℕ_discrete}
use lib.ListN.{get_elem?}
use Rattle.atomic_table.specs.Table.{step, keeps, gives, stepped, Allows}
use Rattle.atomic_table.proofs.Lists.{set_else, set_here}
use Rattle.line_rule.specs.declared.view.QueuedWriter.{QueuedWriter}
use Rattle.line_rule.specs.declared.view.LineHold.{LineHold}
use Rattle.line_rule.specs.declared.view.Lead.{Lead}
use Rattle.line_rule.specs.declared.view.Stall.TheVariants.{Stopped, Holds as Held, Owes}
use Rattle.line_rule.specs.declared.content.LineSlot.{LineSlot}
use Rattle.line_rule.specs.declared.content.LineSlot.TheVariants.{Empty, Asked, Told, TheLog, TheRight}
use Rattle.line_rule.specs.declared.view.LineStage.{LineStage}
use Rattle.line_rule.specs.declared.view.LineStage.TheVariants.{Stalling, Leading}
use Rattle.line_rule.specs.Chain.{state_at, older_at, pack, newest, newest_from, LinksFrom, Absent, Distinct, Within, EndsWith, of, handling}
use Rattle.line_rule.specs.Events.{Core, is_hasty, drops, completes}
use Rattle.line_rule.specs.Laws.{Laws}
use Rattle.line_rule.specs.Standing.{Phase, linked, chosen, leads, taken, held, dropped, dismissed, stopped, holding, owing, Names, Mode, waits, built, Holds, InFront}
use Rattle.line_rule.specs.Rule.{InChain, Stand, Waits, hold, InPhase, InSecond, AllLinked, AllTaken, Knows, Listed, due_untold}
use Rattle.line_rule.specs.SecondList.{second_list_of}
use Rattle.line_rule.specs.Steps.{Lists, IsDrop, IsComplete, now_of, IsNow, StepIs}
use Rattle.line_rule.specs.Plays.{Sat, At, lead_with_walk}
use Rattle.line_rule.specs.Stalls.{after_pass_by, after_pass_first, after_dismiss}
use Rattle.line_rule.proofs.Chains.{put, put_at, put_here, put_else, links_same, links_stay, stand_change, taken_change}
use Rattle.line_rule.proofs.Exits.{owing_told}
use Rattle.line_rule.proofs.Accounts.{restays_now, drops_now, completes_now}
use Rattle.line_rule.proofs.Pauses.{queued_change}
use Rattle.line_rule.proofs.Moves.{St, row_stays, knows_stays, recalls_more, moved, allows}
use Rattle.line_rule.proofs.Keeps.{second_stays, kept_else}
use Rattle.line_rule.proofs.Groups.{distinct_apart, distinct_back, within_at, linked_at, linked_absent, stand_apart, absent_front, of-append, of_mine, of_other, newest_cut, none_before}
use Rattle.line_rule.proofs.Leads.{lead_in, still_waits, middle, snoc}
use Rattle.line_rule.proofs.Enters.{one_hold}
use Rattle.line_rule.proofs.Stalls.{none_zero, staller, stall_in, plain_queued}
use Rattle.line_rule.proofs.Drops.{one_place, links_past, distinct_without, within_without, out_of_rest, stand_without, linked_two, number_in, writer_in}

module _ {Request Reply Log Right : Type 0} where
  abbrev told_in : Reply → List (ℕ × LineSlot Request Reply Log Right) → Reply
  told_in d [] = d
  told_in d ((j, Empty) ∷ t) = d
  told_in d ((j, Asked q) ∷ t) = d
  told_in d ((j, Told p) ∷ t) = p
  told_in d ((j, TheLog l) ∷ t) = d
  told_in d ((j, TheRight x) ∷ t) = d

module _ {Request Reply : Type 0} where
  one_dropper : (a b : ℕ) (e f : QueuedWriter Request) (p q : Reply) → Path (Phase Request Reply) (dropped a e p) (dropped b f q) → a ≡ b
  one_dropper a b e f p q is = cc

module _ {Request Reply Log Right : Type 0} (stands : Laws Request Reply Log Right) (n : ℕ) where
  -- the writer whose request the leader has, in the queue
  record Leaver (s : St stands n) (r : Listed stands n s) (c : ℕ) (lead : Lead Request Reply) (x : QueuedWriter Request) : Type 0 where
    pub newer : List (QueuedWriter Request)
    pub older : List (QueuedWriter Request)
    pub parts : r.line ≡ newer ++ x ∷ (older ++ (lead.group ++ lead.own ∷ []))
    pub newer_linked : AllLinked r.phase newer
    pub older_linked : AllLinked r.phase older
    pub now : r.phase x.by ≡ held c x
    pub due : r.due x.by ≡ []
    pub apart : Absent x.by (newer ++ (older ++ (lead.group ++ lead.own ∷ [])))

  leaver : (s : St stands n) (r : Listed stands n s) (c w : ℕ) (lead : Lead Request Reply) (x : QueuedWriter Request) → 0 < c → c ≤ n → r.mode ≡ built c lead.group (holding w x) → r.phase c ≡ leads lead.own → lead.taken ≡ r.hand → lead.taken ≡ lead.group → Leaver s r c lead x
  leaver s r c w lead x lo hi is leads_c hand all =
      let f = staller stands n s r c lead (holding w x) lo hi is leads_c hand in
      let nq : List (QueuedWriter Request) = f.queued.0 in
      let oq : List (QueuedWriter Request) = f.queued.1 in
      let G : List (QueuedWriter Request) = lead.group ++ lead.own ∷ [] in
      let parts : r.line ≡ nq ++ x ∷ (oq ++ G) = f.parts ∙ ((λ i. f.queued.2 i ++ (all i ++ lead.own ∷ [])) ∙ append_assoc nq (x ∷ oq) G) in
      record {
        newer = nq;
        older = oq;
        parts = parts;
        newer_linked = f.queued.3;
        older_linked = f.queued.4;
        now = f.queued.5;
        due = f.queued.6;
        apart = out_of_rest nq x (oq ++ G) (subst Distinct parts r.distinct);
      }

  module _ (s : St stands n) (r : Listed stands n s) (c id w w' : ℕ) (lead : Lead Request Reply) (mine : List (Request × Reply)) (x : QueuedWriter Request) (p : Reply) (ws : List ℕ) (walk : List (QueuedWriter Request)) where
    -- the writer leaves, whichever word lets it go
    departs : (v : Leaver s r c lead x) → get_elem? s.views id ≡ some (hold c (Stalling lead (Held w x)) mine ∷ []) → lead.taken ≡ lead.group → stands.drops x.asked p → is_hasty x.code ≡ true → length ws ≡ length s.words
        → get_or ws 1 0 ≡ get_or s.words 1 0 → ((j : ℕ) → get_or ws (state_at j) 0 ≡ get_or s.words (state_at j) 0) → ((j : ℕ) → (get_or ws (older_at j) 0 ≡ get_or s.words (older_at j) 0) ⊎ ((j ≡ 0) ⊎ ((y : QueuedWriter Request) × (r.phase j ≡ linked y))))
        → Names ws (newest_from 0 (v.newer ++ (v.older ++ (lead.group ++ lead.own ∷ [])))) (owing w' x) → LinksFrom 0 ws (v.newer ++ (v.older ++ (lead.group ++ lead.own ∷ []))) → EndsWith (v.newer ++ (v.older ++ (lead.group ++ lead.own ∷ []))) walk
        → (now : Lists Request Reply) × IsDrop x p (now_of stands n s r) now × IsNow stands n now (record { words = ws; homes = s.homes; views = set s.views id (hold c (Stalling (lead_with_walk lead walk) (Owes w' x p)) mine ∷ []) })
    departs v at' all dropped_ok hasty wide first states olders names links ends =
        let h : LineHold Request Reply = hold c (Stalling lead (Held w x)) mine in
        let fit = (r.seats id (h ∷ []) at').0 in
        let is : r.mode ≡ built c lead.group (holding w x) = fit.4.0 in
        let leads_c : r.phase c ≡ leads lead.own = fit.4.1 in
        let hand : lead.taken ≡ r.hand = fit.4.4 in
        let f = staller stands n s r c lead (holding w x) fit.1 fit.2 is leads_c hand in
        let G : List (QueuedWriter Request) = lead.group ++ lead.own ∷ [] in
        let line' : List (QueuedWriter Request) = (v.newer ++ v.older) ++ G in
        let flat_is : v.newer ++ (v.older ++ G) ≡ line' = sym (append_assoc v.newer v.older G) in
        let m : ℕ = x.by in
        let range = within_at n v.newer x (v.older ++ G) (subst (Within n) v.parts r.within) in
        let lo : 0 < m = range.0 in
        let row = subst (InPhase stands s.words s.homes m (r.due m)) v.now (r.rows m lo range.1) in
        let other : c ≢ m = λ e. let bad : leads lead.own ≡ held c x = sym leads_c ∙ (ap r.phase e ∙ v.now) in absurd (cc) in
        let out : Absent m line' = subst (Absent m) flat_is v.apart in
        let ph : Phase Request Reply = dropped c x p in
        let phase' : ℕ → Phase Request Reply = put r.phase m ph in
        let here : phase' m ≡ ph = put_here r.phase m ph in
        let mode' : Mode Request = built c lead.group (owing w' x) in
        let st' : LineStage Request Reply = Stalling (lead_with_walk lead walk) (Owes w' x p) in
        let h' : LineHold Request Reply = hold c st' mine in
        let un : InSecond r.two.place m (r.phase m) → ⊥ = λ there. subst (InSecond r.two.place m) v.now there in
        let out_queue : Absent m (v.newer ++ v.older) = absent_front m (v.newer ++ v.older) G out in
        let acc = drops_now stands.bound r.line r.handled r.mode r.account c w w' x lead.group v.newer v.older lead.own p is (v.parts ∙ sym (append_assoc v.newer (x ∷ v.older) G)) out_queue hasty in
        let linked_queue : AllLinked phase' (v.newer ++ v.older) = linked_absent r.phase m ph (v.newer ++ v.older) out_queue (linked_two r.phase v.newer v.older v.newer_linked v.older_linked) in (
          ((acc.0.queue, acc.0.log, r.handled, acc.0.owing), second_list_of r.two),
          (v.newer, v.older, (acc.1, refl)),
          moved stands n s r x.by id ws s.homes h h' line' r.hand r.handled mode' ph r.due r.told r.two record {
            at = at';
            real = lo;
            same_client = refl;
            wide = wide;
            many = refl;
            newest_is = subst (λ (l : List (QueuedWriter Request)). Names ws (newest_from 0 l) (owing w' x)) flat_is names;
            links = subst (LinksFrom 0 ws) flat_is links;
            distinct = subst Distinct flat_is (distinct_without v.newer x (v.older ++ G) (subst Distinct v.parts r.distinct));
            within = subst (Within n) flat_is (within_without n v.newer x (v.older ++ G) (subst (Within n) v.parts r.within));
            stand = stand_apart r.phase m ph line' out (subst (Stand r.phase) flat_is (stand_without r.phase v.newer x (v.older ++ G) (subst (Stand r.phase) v.parts r.stand)));
            other_rows = λ j ne lo2 _ old. ⊎_elim
                (λ (same : get_or ws (older_at j) 0 ≡ get_or s.words (older_at j) 0). row_stays stands n s.words ws s.homes s.homes j (r.due j) (states j) same refl (r.phase j) old)
                (λ (u : (j ≡ 0) ⊎ ((y : QueuedWriter Request) × (r.phase j ≡ linked y))). ⊎_elim
                (λ (zero : j ≡ 0). absurd (omega arith))
                (λ (l : (y : QueuedWriter Request) × (r.phase j ≡ linked y)).
                let was = subst (InPhase stands s.words s.homes j (r.due j)) l.1 old in
                subst (InPhase stands ws s.homes j (r.due j)) (sym l.1) (was.0, states j ∙ was.1, was.2, was.3))
                u)
                (olders j);
            row = (row.0, states m ∙ row.1, row.2, dropped_ok);
            log_is = (
              (v.newer ++ v.older, lead.own, (λ i. (v.newer ++ v.older) ++ ((sym all ∙ hand) i ++ lead.own ∷ [])), linked_queue, put_else r.phase m ph c other ∙ leads_c, f.own_by),
              taken_change r.phase r.due r.due m ph c r.hand (λ e bad. absurd (let two : Path (Phase Request Reply) (held c x) (taken c e) = sym v.now ∙ bad in cc)) (λ _ _. refl) (subst (AllTaken r.phase r.due c) hand f.members),
              f.own_due,
            );
            one_chosen = λ j e. put_at r.phase m ph (λ i g. g ≡ chosen e → Path (Mode Request) mode' (waits i)) j (λ _ bad. absurd (cc)) (λ _ ok. let was : r.mode ≡ waits j = r.one_chosen j e ok in absurd (cc));
            kept = r.kept;
            coded = λ e in_chain. absurd in_chain;
            account = acc.0;
            goes_on = (drops v.newer x v.older p ∷ [], acc.2);
            recalls = recalls_more r.account.events acc.0.events (drops v.newer x v.older p ∷ [], acc.2) (Leading lead) fit.6;
            has_cut = tt;
            owing_is = λ k. ap (λ (y : Core Request Reply). of k y.3) acc.1.1 ∙ (of-append k r.account.owing (handling x p ∷ [])
                ∙ put_at r.phase m ph (λ j g. of j r.account.owing ++ of j (handling x p ∷ []) ≡ due_untold g (r.due j)) k
                (λ e. subst (λ (j : ℕ). of j r.account.owing ++ of j (handling x p ∷ []) ≡ (x.asked, p) ∷ []) (sym e) (λ i. (r.owing_is m ∙ (ap (λ g. due_untold g (r.due m)) v.now ∙ v.due)) i ++ of_mine m (handling x p) [] refl i))
                (λ ne. (λ i. of k r.account.owing ++ of_other k (handling x p) [] (λ e. ne (sym e)) i) ∙ (append-nil (of k r.account.owing) ∙ r.owing_is k)));
            second = second_stays stands n s.words ws s.homes s.homes r.phase phase' r.mode mode' (stands.given r.handled) (stands.given r.handled) r.two first
                (λ j there. dite (ℕ_discrete j m)
                (λ e. absurd (un (subst (λ (i : ℕ). InSecond r.two.place i (r.phase i)) e there)))
                (λ ne. ⊎_elim
                (λ (same : get_or ws (older_at j) 0 ≡ get_or s.words (older_at j) 0). (same, (λ _ _. states j), put_else r.phase m ph j ne))
                (λ (u : (j ≡ 0) ⊎ ((y : QueuedWriter Request) × (r.phase j ≡ linked y))). absurd (⊎_elim
                (λ (zero : j ≡ 0). subst (InSecond r.two.place 0) r.nobody (subst (λ (i : ℕ). InSecond r.two.place i (r.phase i)) zero there))
                (λ (l : (y : QueuedWriter Request) × (r.phase j ≡ linked y)). subst (InSecond r.two.place j) l.1 there)
                u))
                (olders j)))
                (λ j four. sym (states j) ∙ four) refl
                (λ j g. inl (subst (InFront j) (sym is) g)) (λ j g. inl (subst (Holds j) (sym is) g)) (λ j _ g. subst (Holds j) is g) (λ z. z) r.second;
            back = fit.5;
            else_back = λ _ _ _ ok. ok;
            shared_out = r.shared_out;
            told_else = λ _ _. refl;
            mine = fit.3;
            knows = (refl, put_else r.phase m ph c other ∙ leads_c, subst (λ (l : List (QueuedWriter Request)). EndsWith l walk) flat_is ends, fit.4.3, fit.4.4, here);
            others = λ j ne. dite (ℕ_discrete j m)
                (λ e. subst (λ (i : ℕ). (st : LineStage Request Reply) → Knows r.line r.hand r.handled r.mode r.phase r.due i st → Knows line' r.hand r.handled mode' phase' r.due i st) (sym e)
                (still_waits r.line line' r.hand r.hand r.handled r.handled r.mode mode' r.phase phase' r.due r.due m (held c x) v.now tt (λ u here_is. subst (Waits u) (sym here) here_is) (λ _ owed. owed)))
                (λ away. knows_stays stands n r.line line' r.hand r.hand r.handled r.handled r.mode mode' r.phase phase' r.due r.due j (put_else r.phase m ph j away)
                (λ g. absurd (ne (sym (subst (Holds j) is g))))
                (λ e y is_taken owed. (put_at r.phase m ph (λ i g. r.phase i ≡ taken j e → g ≡ taken j e) e.by (λ at_m t. let bad : Path (Phase Request Reply) (held c x) (taken j e) = sym v.now ∙ (ap r.phase (sym at_m) ∙ t) in absurd (cc)) (λ _ t. t) is_taken, owed))
                (λ y owed. owed)
                (λ e y is_dropped. put_at r.phase m ph (λ i g. r.phase i ≡ dropped j e y → g ≡ dropped j e y) e.by (λ at_m t. let bad : Path (Phase Request Reply) (held c x) (dropped j e y) = sym v.now ∙ (ap r.phase (sym at_m) ∙ t) in absurd (cc)) (λ _ t. t) is_dropped));
          },
        )

  -- the link of the next newer writer goes past it
  pub passes_by_is : (slots id : ℕ) (me : Sat Request Reply Log Right) (c k w value : ℕ) (lead : Lead Request Reply) (mine : List (Request × Reply)) (newer older : List (QueuedWriter Request)) (y x : QueuedWriter Request) (p : Reply) (t : List (ℕ × LineSlot Request Reply Log Right))
      → At c (Stalling lead (Held w x)) mine me → me.1 ≡ (x.by, Told p) ∷ t → lead.taken ≡ lead.group → stands.drops x.asked p → is_hasty x.code ≡ true → lead.walk ≡ newer ++ y ∷ x ∷ older → k ≡ older_at y.by → value ≡ pack (newest older) y.code
      → StepIs stands n (λ _. IsDrop x p) slots id me k (λ _. value) (λ _. after_pass_by (step slots k value 0 none) me value)
  passes_by_is slots id me c k w value lead mine newer older y x p t mid slot all dropped_ok hasty is_walk is_word is_value s r long at fits =
      let h : LineHold Request Reply = hold c (Stalling lead (Held w x)) mine in
      let at' : get_elem? s.views id ≡ some (h ∷ []) = at ∙ ap some mid in
      let fit = (r.seats id (h ∷ []) at').0 in
      let v = leaver s r c w lead x fit.1 fit.2 fit.4.0 fit.4.1 fit.4.4 all in
      let f = staller stands n s r c lead (holding w x) fit.1 fit.2 fit.4.0 fit.4.1 fit.4.4 in
      let G : List (QueuedWriter Request) = lead.group ++ lead.own ∷ [] in
      let wide : length s.words ≡ 2 * n + 4 = r.wide in
      let e0 : List (QueuedWriter Request) = fit.4.2.0 in
      let q : List (QueuedWriter Request) = e0 ++ newer in
      let line_is : r.line ≡ q ++ y ∷ x ∷ older = fit.4.2.1 ∙ (ap (λ l. e0 ++ l) is_walk ∙ sym (middle e0 newer y (x ∷ older))) in
      let whole : Distinct (q ++ y ∷ x ∷ older) = subst Distinct line_is r.distinct in
      let same_place = one_place (q ++ y ∷ []) older v.newer (v.older ++ G) x x (subst Distinct (sym (snoc q y (x ∷ older))) whole) (snoc q y (x ∷ older) ∙ (sym line_is ∙ v.parts)) refl in
      let y_linked : r.phase y.by ≡ linked y = linked_at r.phase q y [] (subst (AllLinked r.phase) (sym same_place.0) v.newer_linked) in
      let y_range = within_at n q y (x ∷ older) (subst (Within n) line_is r.within) in
      let y_lo : 0 < y.by = y_range.0 in
      let y_hi : y.by ≤ n = y_range.1 in
      let ws : List ℕ = set s.words k value in
      let same : (j : ℕ) → j ≢ k → get_or ws j 0 ≡ get_or s.words j 0 = λ j ne. get_or-set_other s.words k j value 0 (λ e. ne (omega arith)) in
      let links0 : LinksFrom 0 s.words (q ++ y ∷ x ∷ older) = subst (LinksFrom 0 s.words) line_is (subst (λ b. LinksFrom b s.words r.line) f.base r.links) in
      let line_was : q ++ y ∷ older ≡ v.newer ++ (v.older ++ G) = sym (snoc q y older) ∙ (λ i. same_place.0 i ++ same_place.2 i) in
      let y_apart : Absent y.by (x ∷ older) = (distinct_back q (y ∷ x ∷ older) whole).0 in
      let new_links : LinksFrom 0 ws (q ++ y ∷ older) = links_past s.words ws q y x older (λ j ne. same (older_at j) (λ e. ne (omega arith))) (ap (λ (j : ℕ). get_or ws j 0) (sym is_word) ∙ (get_or-set_same s.words k value 0 (omega arith) ∙ is_value)) (distinct_apart q y (x ∷ older) whole) y_apart.1 links0 in
      let newest_same : newest (q ++ y ∷ x ∷ older) ≡ newest (q ++ y ∷ older) = newest_cut q y (x ∷ older) ∙ sym (newest_cut q y older) in
      let went = departs s r c id w w lead mine x p ws (newer ++ y ∷ older) v at' all dropped_ok hasty (length-set s.words k value) (same 1 (λ e. omega arith)) (λ j. same (state_at j) (λ e. omega arith))
      (λ j. dite (ℕ_discrete j y.by) (λ e. inr (inr (y, ap r.phase e ∙ y_linked))) (λ ne. inl (same (older_at j) (λ e. ne (omega arith)))))
      (same 0 (λ e. omega arith) ∙ f.names.0, same 3 (λ e. omega arith) ∙ f.names.1, f.names.2 ∙ (ap (newest_from 0) line_is ∙ (newest_same ∙ ap (newest_from 0) line_was)))
      (subst (LinksFrom 0 ws) line_was new_links)
      (e0, sym line_was ∙ middle e0 newer y older) in (
        hold c (Stalling (lead_with_walk lead (newer ++ y ∷ older)) (Owes w x p)) mine ∷ [],
        keeps,
        tt,
        went,
        λ c' w' lead' mine' newer' older' y' x' p' t' mid' is_walk' is_word' slot'.
            let e = one_hold c c' (Stalling lead (Held w x)) (Stalling lead' (Held w' x')) mine mine' me.0 mid mid' in
            let le : lead ≡ lead' = ap (lead_in lead) e.1 in
            let same_w : w ≡ w' = ap (λ (st : LineStage Request Reply). number_in (stall_in (Stopped w) st)) e.1 in
            let same_x : x ≡ x' = ap (λ (st : LineStage Request Reply). writer_in x (stall_in (Stopped w) st)) e.1 in
            let same_p : p ≡ p' = ap (told_in p) (sym slot ∙ slot') in
            let two : newer ++ y ∷ x ∷ older ≡ newer' ++ y' ∷ x' ∷ older' = sym is_walk ∙ (ap (λ (l : Lead Request Reply). l.walk) le ∙ is_walk') in
            let walk_apart : Distinct (newer ++ y ∷ x ∷ older) = subst Distinct is_walk (distinct_back e0 lead.walk (subst Distinct fit.4.2.1 r.distinct)) in
            let d = one_place (newer ++ y ∷ []) older (newer' ++ y' ∷ []) older' x x' (subst Distinct (sym (snoc newer y (x ∷ older))) walk_apart) (snoc newer y (x ∷ older) ∙ (two ∙ sym (snoc newer' y' (x' ∷ older')))) (ap (λ (z : QueuedWriter Request). z.by) same_x) in
            let walks : newer ++ y ∷ older ≡ newer' ++ y' ∷ older' = sym (snoc newer y older) ∙ ((λ i. d.0 i ++ d.2 i) ∙ snoc newer' y' older') in
            ((λ i. hold (e.0 i) (Stalling (lead_with_walk (le i) (walks i)) (Owes (same_w i) (same_x i) (same_p i))) (e.2 i) ∷ []), refl),
      )

  -- the newest writer of the queue is left out: the word of the newest one names the next older one
  pub passes_first_is : (slots id : ℕ) (me : Sat Request Reply Log Right) (c w value : ℕ) (lead : Lead Request Reply) (mine : List (Request × Reply)) (older : List (QueuedWriter Request)) (x : QueuedWriter Request) (p : Reply) (t : List (ℕ × LineSlot Request Reply Log Right))
      → At c (Stalling lead (Held w x)) mine me → me.1 ≡ (x.by, Told p) ∷ t → lead.taken ≡ lead.group → stands.drops x.asked p → is_hasty x.code ≡ true → lead.walk ≡ x ∷ older → x.by ≡ w → value ≡ newest older
      → StepIs stands n (λ _. IsDrop x p) slots id me 3 (λ _. value) (λ _. after_pass_first (step slots 3 value 0 none) me value)
  passes_first_is slots id me c w value lead mine older x p t mid slot all dropped_ok hasty is_walk is_first is_value s r long at fits =
      let h : LineHold Request Reply = hold c (Stalling lead (Held w x)) mine in
      let at' : get_elem? s.views id ≡ some (h ∷ []) = at ∙ ap some mid in
      let fit = (r.seats id (h ∷ []) at').0 in
      let v = leaver s r c w lead x fit.1 fit.2 fit.4.0 fit.4.1 fit.4.4 all in
      let f = staller stands n s r c lead (holding w x) fit.1 fit.2 fit.4.0 fit.4.1 fit.4.4 in
      let G : List (QueuedWriter Request) = lead.group ++ lead.own ∷ [] in
      let wide : length s.words ≡ 2 * n + 4 = r.wide in
      let whole : Distinct (v.newer ++ x ∷ (v.older ++ G)) = subst Distinct v.parts r.distinct in
      let none_newer : v.newer ≡ [] = none_before v.newer x (v.older ++ G) whole (ap (newest_from 0) (sym v.parts) ∙ (sym f.names.2 ∙ sym is_first)) in
      let e0 : List (QueuedWriter Request) = fit.4.2.0 in
      let line_is : r.line ≡ e0 ++ x ∷ older = fit.4.2.1 ∙ ap (λ l. e0 ++ l) is_walk in
      let same_place = one_place e0 older v.newer (v.older ++ G) x x (subst Distinct line_is r.distinct) (sym line_is ∙ v.parts) refl in
      let line_was : older ≡ v.newer ++ (v.older ++ G) = same_place.2 ∙ (λ i. sym none_newer i ++ (v.older ++ G)) in
      let ws : List ℕ = set s.words 3 value in
      let same : (j : ℕ) → j ≢ 3 → get_or ws j 0 ≡ get_or s.words j 0 = λ j ne. get_or-set_other s.words 3 j value 0 (λ e. ne (omega arith)) in
      let all_within : Within n (x ∷ (v.older ++ G)) = subst (Within n) (v.parts ∙ (λ i. none_newer i ++ x ∷ (v.older ++ G))) r.within in
      let links0 : LinksFrom 0 s.words (x ∷ (v.older ++ G)) = subst (LinksFrom 0 s.words) (v.parts ∙ (λ i. none_newer i ++ x ∷ (v.older ++ G))) (subst (λ b. LinksFrom b s.words r.line) f.base r.links) in
      let new_links : LinksFrom 0 ws (v.older ++ G) = links_stay 0 s.words ws 0 (v.older ++ G) (λ j ne. same (older_at j) (λ e. ne (omega arith))) (none_zero n (v.older ++ G) all_within.2) links0.1 in
      let went = departs s r c id w value lead mine x p ws older v at' all dropped_ok hasty (length-set s.words 3 value) (same 1 (λ e. omega arith)) (λ j. same (state_at j) (λ e. omega arith))
      (λ j. dite (ℕ_discrete j 0) (λ e. inr (inl e)) (λ ne. inl (same (older_at j) (λ e. ne (omega arith)))))
      (same 0 (λ e. omega arith) ∙ f.names.0, get_or-set_same s.words 3 value 0 (omega arith), is_value ∙ ap (newest_from 0) line_was)
      (subst (λ (l : List (QueuedWriter Request)). LinksFrom 0 ws (l ++ (v.older ++ G))) (sym none_newer) new_links)
      ([], sym line_was) in (
        hold c (Stalling (lead_with_walk lead older) (Owes value x p)) mine ∷ [],
        keeps,
        tt,
        went,
        λ c' w' lead' mine' older' x' p' t' mid' is_walk' slot'.
            let e = one_hold c c' (Stalling lead (Held w x)) (Stalling lead' (Held w' x')) mine mine' me.0 mid mid' in
            let le : lead ≡ lead' = ap (lead_in lead) e.1 in
            let same_x : x ≡ x' = ap (λ (st : LineStage Request Reply). writer_in x (stall_in (Stopped w) st)) e.1 in
            let same_p : p ≡ p' = ap (told_in p) (sym slot ∙ slot') in
            let two : x ∷ older ≡ x' ∷ older' = sym is_walk ∙ (ap (λ (l : Lead Request Reply). l.walk) le ∙ is_walk') in
            let walks : older ≡ older' = cc in
            ((λ i. hold (e.0 i) (Stalling (lead_with_walk (le i) (walks i)) (Owes value (same_x i) (same_p i))) (e.2 i) ∷ []), refl),
      )

  -- the writer that left gets its reply
  pub dismisses_is : (slots id : ℕ) (me : Sat Request Reply Log Right) (c k w : ℕ) (lead : Lead Request Reply) (mine : List (Request × Reply)) (x : QueuedWriter Request) (p : Reply) (t : List (ℕ × LineSlot Request Reply Log Right))
      → At c (Stalling lead (Owes w x p)) mine me → me.1 ≡ (x.by, Told p) ∷ t → k ≡ state_at x.by → (0 < x.by) × (x.by ≤ n)
      → StepIs stands n (λ _. IsComplete x p) slots id me k (λ _. 16) (λ _. after_dismiss (step slots k 16 0 none) me 16)
  dismisses_is slots id me c k w lead mine x p t mid slot is_word range s r long at fits =
      let h : LineHold Request Reply = hold c (Stalling lead (Owes w x p)) mine in
      let at' : get_elem? s.views id ≡ some (h ∷ []) = at ∙ ap some mid in
      let fit = (r.seats id (h ∷ []) at').0 in
      let is : r.mode ≡ built c lead.group (owing w x) = fit.4.0 in
      let leads_c : r.phase c ≡ leads lead.own = fit.4.1 in
      let hand : lead.taken ≡ r.hand = fit.4.4 in
      let f = staller stands n s r c lead (owing w x) fit.1 fit.2 is leads_c hand in
      let m : ℕ = x.by in
      let lo : 0 < m = range.0 in
      let hi : m ≤ n = range.1 in
      let now : r.phase m ≡ dropped c x p = fit.4.5 in
      let row = subst (InPhase stands s.words s.homes m (r.due m)) now (r.rows m lo hi) in
      let wide : length s.words ≡ 2 * n + 4 = r.wide in
      let many : length s.homes ≡ n + 2 = r.many in
      let ws : List ℕ = set s.words k 16 in
      let hs = set s.homes m (some (Told p)) in
      let same : (j : ℕ) → j ≢ k → get_or ws j 0 ≡ get_or s.words j 0 = λ j ne. get_or-set_other s.words k j 16 0 (λ e. ne (omega arith)) in
      let told16 : get_or ws (state_at m) 0 ≡ 16 = ap (λ (i : ℕ). get_or ws i 0) (sym is_word) ∙ get_or-set_same s.words k 16 0 (omega arith) in
      let other : c ≢ m = λ e. let bad : leads lead.own ≡ dropped c x p = sym leads_c ∙ (ap r.phase e ∙ now) in absurd (cc) in
      let ph : Phase Request Reply = dismissed x.asked p in
      let phase' : ℕ → Phase Request Reply = put r.phase m ph in
      let here : phase' m ≡ ph = put_here r.phase m ph in
      let mode' : Mode Request = built c lead.group (stopped w) in
      let st' : LineStage Request Reply = Stalling lead (Stopped w) in
      let h' : LineHold Request Reply = hold c st' mine in
      let un : InSecond r.two.place m (r.phase m) → ⊥ = λ there. subst (InSecond r.two.place m) now there in
      let told = completes_now stands.bound r.line r.handled r.mode r.account (handling x p) (r.owing_is m ∙ ap (λ g. due_untold g (r.due m)) now) in
      let acc = restays_now stands.bound r.line r.handled r.mode told.0 c lead.group (owing w x) (stopped w) is (λ _ _. refl) in
      let now_is : Lists Request Reply = ((acc.0.queue, acc.0.log, r.handled, acc.0.owing), second_list_of r.two) in
      let grown : acc.0.events ≡ completes (handling x p) ∷ r.account.events = acc.2 ∙ told.2 in
      let after : IsNow stands n now_is (record { words = ws; homes = hs; views = set s.views id (h' ∷ []) }) =
      moved stands n s r x.by id ws hs h h' r.line r.hand r.handled mode' ph r.due r.told r.two record {
        at = at';
        real = lo;
        same_client = refl;
        wide = length-set s.words k 16;
        many = length-set s.homes m (some (Told p));
        newest_is = (same 0 (λ e. omega arith) ∙ f.names.0, same 3 (λ e. omega arith) ∙ f.names.1, f.names.2);
        links = links_same 0 s.words ws r.line (λ j. same (older_at j) (λ e. omega arith)) (subst (λ b. LinksFrom b s.words r.line) f.base r.links);
        distinct = r.distinct;
        within = r.within;
        stand = stand_change r.phase m ph r.line (λ e is_in. absurd (subst (InChain e) now is_in)) r.stand;
        other_rows = λ j ne lo2 _. row_stays stands n s.words ws s.homes hs j (r.due j) (same (state_at j) (λ e. ne (omega arith))) (same (older_at j) (λ e. omega arith)) (set_else s.homes m j (some (Told p)) ne) (r.phase j);
        row = (told16, set_here s.homes m (some (Told p)) (omega arith), row.2, row.3);
        log_is = (
          (f.queue, lead.own, f.parts ∙ (λ i. f.queue ++ (hand i ++ lead.own ∷ [])), queued_change r.phase r.due r.due m ph c f.queue (stopped w) (λ e bad. absurd (let two : Path (Phase Request Reply) (dropped c x p) (linked e) = sym now ∙ bad in cc)) (λ e bad. absurd (let two : Path (Phase Request Reply) (dropped c x p) (held c e) = sym now ∙ bad in cc)) (λ _ z. z) (plain_queued r.phase r.due c f.queue (owing w x) (stopped w) tt tt f.queued), put_else r.phase m ph c other ∙ leads_c, f.own_by),
          taken_change r.phase r.due r.due m ph c r.hand (λ e bad. absurd (let two : Path (Phase Request Reply) (dropped c x p) (taken c e) = sym now ∙ bad in cc)) (λ _ _. refl) (subst (AllTaken r.phase r.due c) hand f.members),
          f.own_due,
        );
        one_chosen = λ j e. put_at r.phase m ph (λ i g. g ≡ chosen e → Path (Mode Request) mode' (waits i)) j (λ _ bad. absurd (cc)) (λ _ ok. let was : r.mode ≡ waits j = r.one_chosen j e ok in absurd (cc));
        kept = r.kept;
        coded = λ e in_chain. absurd in_chain;
        account = acc.0;
        goes_on = (completes (handling x p) ∷ [], grown);
        recalls = recalls_more r.account.events acc.0.events (completes (handling x p) ∷ [], grown) (Leading lead) fit.6;
        has_cut = tt;
        owing_is = owing_told r.phase r.due r.account.owing r.owing_is acc.0.owing r.due m ph (ap (λ (y : Core Request Reply). y.3) acc.1 ∙ ap (λ (y : Core Request Reply). y.3) told.1.1) refl (λ _ _. refl);
        second = second_stays stands n s.words ws s.homes hs r.phase phase' r.mode mode' (stands.given r.handled) (stands.given r.handled) r.two (same 1 (λ e. omega arith))
            (kept_else r.phase r.two.place m ph s.words ws un (λ j _. same (older_at j) (λ e. omega arith)) (λ j ne. same (state_at j) (λ e. ne (omega arith))))
            (λ j. dite (ℕ_discrete j m) (λ e four. let bad : get_or ws (state_at m) 0 ≡ 4 = ap (λ (i : ℕ). get_or ws (state_at i) 0) (sym e) ∙ four in absurd (omega arith)) (λ ne four. sym (same (state_at j) (λ e. ne (omega arith))) ∙ four))
            (set_else s.homes m (n + 1) (some (Told p)) (λ e. omega arith))
            (λ j g. inl (subst (InFront j) (sym is) g)) (λ j g. inl (subst (Holds j) (sym is) g)) (λ j _ g. subst (Holds j) is g) (λ z. z) r.second;
        back = fit.5;
        else_back = λ _ _ _ ok. ok;
        shared_out = r.shared_out;
        told_else = λ _ _. refl;
        mine = fit.3;
        knows = (refl, put_else r.phase m ph c other ∙ leads_c, fit.4.2, fit.4.3, fit.4.4, tt);
        others = λ j ne. dite (ℕ_discrete j m)
            (λ e. subst (λ (i : ℕ). (st : LineStage Request Reply) → Knows r.line r.hand r.handled r.mode r.phase r.due i st → Knows r.line r.hand r.handled mode' phase' r.due i st) (sym e)
            (still_waits r.line r.line r.hand r.hand r.handled r.handled r.mode mode' r.phase phase' r.due r.due m (dropped c x p) now tt (λ u here_is. subst (Waits u) (sym here) here_is) (λ _ owed. owed)))
            (λ away. knows_stays stands n r.line r.line r.hand r.hand r.handled r.handled r.mode mode' r.phase phase' r.due r.due j (put_else r.phase m ph j away)
            (λ g. absurd (ne (sym (subst (Holds j) is g))))
            (λ e y is_taken owed. (put_at r.phase m ph (λ i g. r.phase i ≡ taken j e → g ≡ taken j e) e.by (λ at_m t. let bad : Path (Phase Request Reply) (dropped c x p) (taken j e) = sym now ∙ (ap r.phase (sym at_m) ∙ t) in absurd (cc)) (λ _ t. t) is_taken, owed))
            (λ y owed. owed)
            (λ e y is_dropped. put_at r.phase m ph (λ i g. r.phase i ≡ dropped j e y → g ≡ dropped j e y) e.by (λ at_m t. let bad : c ≡ j = one_dropper c j x e p y (sym now ∙ (ap r.phase (sym at_m) ∙ t)) in absurd (ne (sym bad))) (λ _ t. t) is_dropped));
      } in (
        h' ∷ [],
        gives,
        tt,
        (now_is, ((told.1.0, acc.1 ∙ told.1.1), refl), subst (λ (l : List (ℕ × LineSlot Request Reply Log Right)). IsNow stands n now_is (stepped s k 16 id l (h' ∷ []) gives)) (sym slot) after),
        λ c' w' lead' x' p' mine' mid'.
            let e = one_hold c c' (Stalling lead (Owes w x p)) (Stalling lead' (Owes w' x' p')) mine mine' me.0 mid mid' in
            ((λ i. hold (e.0 i) (Stalling (lead_in lead (e.1 i)) (Stopped (number_in (stall_in (Stopped w) (e.1 i))))) (e.2 i) ∷ []), refl),
      )

  -- the same, whatever event each step is
  pub passes_by : (slots id : ℕ) (me : Sat Request Reply Log Right) (c k w value : ℕ) (lead : Lead Request Reply) (mine : List (Request × Reply)) (newer older : List (QueuedWriter Request)) (y x : QueuedWriter Request) (p : Reply) (t : List (ℕ × LineSlot Request Reply Log Right))
      → At c (Stalling lead (Held w x)) mine me → me.1 ≡ (x.by, Told p) ∷ t → lead.taken ≡ lead.group → stands.drops x.asked p → is_hasty x.code ≡ true → lead.walk ≡ newer ++ y ∷ x ∷ older → k ≡ older_at y.by → value ≡ pack (newest older) y.code
      → Allows (Listed stands n) slots id me k (λ _. value) (λ _. after_pass_by (step slots k value 0 none) me value)
  passes_by slots id me c k w value lead mine newer older y x p t mid slot all dropped_ok hasty is_walk is_word is_value = allows stands n (λ _. IsDrop x p) slots id me k (λ _. value) (λ _. after_pass_by (step slots k value 0 none) me value) (passes_by_is slots id me c k w value lead mine newer older y x p t mid slot all dropped_ok hasty is_walk is_word is_value)

  pub passes_first : (slots id : ℕ) (me : Sat Request Reply Log Right) (c w value : ℕ) (lead : Lead Request Reply) (mine : List (Request × Reply)) (older : List (QueuedWriter Request)) (x : QueuedWriter Request) (p : Reply) (t : List (ℕ × LineSlot Request Reply Log Right))
      → At c (Stalling lead (Held w x)) mine me → me.1 ≡ (x.by, Told p) ∷ t → lead.taken ≡ lead.group → stands.drops x.asked p → is_hasty x.code ≡ true → lead.walk ≡ x ∷ older → x.by ≡ w → value ≡ newest older
      → Allows (Listed stands n) slots id me 3 (λ _. value) (λ _. after_pass_first (step slots 3 value 0 none) me value)
  passes_first slots id me c w value lead mine older x p t mid slot all dropped_ok hasty is_walk is_first is_value = allows stands n (λ _. IsDrop x p) slots id me 3 (λ _. value) (λ _. after_pass_first (step slots 3 value 0 none) me value) (passes_first_is slots id me c w value lead mine older x p t mid slot all dropped_ok hasty is_walk is_first is_value)

  pub dismisses : (slots id : ℕ) (me : Sat Request Reply Log Right) (c k w : ℕ) (lead : Lead Request Reply) (mine : List (Request × Reply)) (x : QueuedWriter Request) (p : Reply) (t : List (ℕ × LineSlot Request Reply Log Right))
      → At c (Stalling lead (Owes w x p)) mine me → me.1 ≡ (x.by, Told p) ∷ t → k ≡ state_at x.by → (0 < x.by) × (x.by ≤ n)
      → Allows (Listed stands n) slots id me k (λ _. 16) (λ _. after_dismiss (step slots k 16 0 none) me 16)
  dismisses slots id me c k w lead mine x p t mid slot is_word range = allows stands n (λ _. IsComplete x p) slots id me k (λ _. 16) (λ _. after_dismiss (step slots k 16 0 none) me 16) (dismisses_is slots id me c k w lead mine x p t mid slot is_word range)
