-- What a leader that stalls writes does with a writer of the queue: that each of these steps keeps the rule, and which
-- event it is.
use Rattle.std.proofs.Common.{◌≡◌, ◌≢◌, ℕ, ◌+◌, ◌*◌, ◌<◌, ◌≤◌, List, [], ◌∷◌, ◌++◌, length, get_or, set, refl, sym, ap, ◌∙◌, subst, inl, inr, arith, length-set, append_assoc, get_or-set_other, get_or-set_same}
use Rattle.std.proofs.lemmas.List.{append_cancel_right}
use mathlib.Core.Logic.{dite}
use mathlib.Core.Path.{Path}
use mathlib.Core.Option.{none, some}
use native.Mathlib.Decide.{ℕ_discrete}
use lib.ListN.{get_elem?}
use lib.Seq.{set-get_or}
use Rattle.atomic_table.specs.Table.{step, gives, takes, stepped, Allows}
use Rattle.atomic_table.proofs.Lists.{set_else, set_here}
use Rattle.line_rule.specs.declared.view.QueuedWriter.{QueuedWriter}
use Rattle.line_rule.specs.declared.view.LineHold.{LineHold}
use Rattle.line_rule.specs.declared.view.Lead.{Lead}
use Rattle.line_rule.specs.declared.view.Stall.{Stall}
use Rattle.line_rule.specs.declared.view.Stall.TheVariants.{Aimed, Stopped, Holds as Held, Owes}
use Rattle.line_rule.specs.declared.content.LineSlot.{LineSlot}
use Rattle.line_rule.specs.declared.content.LineSlot.TheVariants.{Asked}
use Rattle.line_rule.specs.declared.view.LineStage.{LineStage}
use Rattle.line_rule.specs.declared.view.LineStage.TheVariants.{Leading, Stalling}
use Rattle.line_rule.specs.Chain.{state_at, older_at, pack, newest, LinksFrom, Links, Absent, Distinct, Within}
use Rattle.line_rule.specs.Events.{Core}
use Rattle.line_rule.specs.Laws.{Laws}
use Rattle.line_rule.specs.Standing.{Phase, linked, chosen, leads, taken, held, dropped, stopped, holding, Mode, waits, built, Holds, InFront}
use Rattle.line_rule.specs.Rule.{InChain, Listed, Stand, Waits, hold, InPhase, InSecond, AllLinked, AllTaken, Knows, due_untold}
use Rattle.line_rule.specs.SecondList.{second_list_of}
use Rattle.line_rule.specs.Steps.{Lists, Stays, IsNow, StepIs}
use Rattle.line_rule.specs.Plays.{Sat, At, in_hand}
use Rattle.line_rule.specs.Stalls.{after_hold, after_give_back}
use Rattle.line_rule.proofs.Chains.{put, put_at, put_here, put_else, links_same, links_stay, stand_change, taken_change}
use Rattle.line_rule.proofs.Exits.{owing_stays}
use Rattle.line_rule.proofs.Accounts.{restays_now}
use Rattle.line_rule.proofs.Moves.{row_stays, knows_stays, recalls_more, moved, allows}
use Rattle.line_rule.proofs.Keeps.{second_same}
use Rattle.line_rule.proofs.Groups.{links_at, distinct_apart, distinct_back, within_at, linked_at, linked_front, linked_absent, absent_append, absent_front}
use Rattle.line_rule.proofs.Leads.{lead_in, still_waits, middle}
use Rattle.line_rule.proofs.Enters.{one_hold}
use Rattle.line_rule.proofs.Stalls.{staller, stall_in}

module _ {Request : Type 0} where
  not_there : (k : ℕ) (a : List (QueuedWriter Request)) (x : QueuedWriter Request) (b : List (QueuedWriter Request)) → Absent k (a ++ x ∷ b) → x.by ≢ k
  not_there k [] x b out = out.0
  not_there k (y ∷ a) x b out = not_there k a x b out.1

  -- a client is in one place of a list of writers of different clients
  pub one_place : (a b a' b' : List (QueuedWriter Request)) (x x' : QueuedWriter Request) → Distinct (a ++ x ∷ b) → a ++ x ∷ b ≡ a' ++ x' ∷ b' → x.by ≡ x'.by → (a ≡ a') × (x ≡ x') × (b ≡ b')
  one_place [] b [] b' x x' apart e is = (refl, cc, cc)
  one_place [] b (y ∷ a') b' x x' apart e is =
      let tail : b ≡ a' ++ x' ∷ b' = cc in
      absurd (not_there x.by a' x' b' (subst (Absent x.by) tail apart.0) (sym is))
  one_place (y ∷ a) b [] b' x x' apart e is =
      let head : y ≡ x' = cc in
      absurd (not_there y.by a x b apart.0 (is ∙ ap (λ (z : QueuedWriter Request). z.by) (sym head)))
  one_place (y ∷ a) b (z ∷ a') b' x x' apart e is =
      let head : y ≡ z = cc in
      let tail : a ++ x ∷ b ≡ a' ++ x' ∷ b' = cc in
      let t = one_place a b a' b' x x' apart.1 tail is in
      ((λ i. head i ∷ t.0 i), t.1, t.2)

  -- a link goes past the next older writer
  pub links_past : (words ws : List ℕ) (a : List (QueuedWriter Request)) (y x : QueuedWriter Request) (b : List (QueuedWriter Request)) → ((k : ℕ) → k ≢ y.by → get_or ws (older_at k) 0 ≡ get_or words (older_at k) 0) → get_or ws (older_at y.by) 0 ≡ pack (newest b) y.code → Absent y.by a → Absent y.by b → Links words (a ++ y ∷ x ∷ b) → Links ws (a ++ y ∷ b)
  links_past words ws [] y x b same past out_a out_b ok = (past, links_stay 0 words ws y.by b same out_b ok.1.1)
  links_past words ws (e ∷ []) y x b same past out_a out_b ok = (same e.by out_a.0 ∙ ok.0, links_past words ws [] y x b same past out_a.1 out_b ok.1)
  links_past words ws (e ∷ f ∷ a) y x b same past out_a out_b ok = (same e.by out_a.0 ∙ ok.0, links_past words ws (f ∷ a) y x b same past out_a.1 out_b ok.1)

  -- a writer is taken out of a list
  absent_both : (k : ℕ) (a : List (QueuedWriter Request)) (x : QueuedWriter Request) (b : List (QueuedWriter Request)) → Absent k (a ++ x ∷ b) → Absent k (a ++ b)
  absent_both k [] x b out = out.1
  absent_both k (y ∷ a) x b out = (out.0, absent_both k a x b out.1)

  pub distinct_without : (a : List (QueuedWriter Request)) (x : QueuedWriter Request) (b : List (QueuedWriter Request)) → Distinct (a ++ x ∷ b) → Distinct (a ++ b)
  distinct_without [] x b ok = ok.1
  distinct_without (y ∷ a) x b ok = (absent_both y.by a x b ok.0, distinct_without a x b ok.1)

  pub within_without : (n : ℕ) (a : List (QueuedWriter Request)) (x : QueuedWriter Request) (b : List (QueuedWriter Request)) → Within n (a ++ x ∷ b) → Within n (a ++ b)
  within_without n [] x b ok = ok.2
  within_without n (y ∷ a) x b ok = (ok.0, ok.1, within_without n a x b ok.2)

  pub out_of_rest : (a : List (QueuedWriter Request)) (x : QueuedWriter Request) (b : List (QueuedWriter Request)) → Distinct (a ++ x ∷ b) → Absent x.by (a ++ b)
  out_of_rest a x b ok = absent_append x.by a b (distinct_apart a x b ok) (distinct_back a (x ∷ b) ok).0

module _ {Request Reply : Type 0} where
  pub stand_without : (phase : ℕ → Phase Request Reply) (a : List (QueuedWriter Request)) (x : QueuedWriter Request) (b : List (QueuedWriter Request)) → Stand phase (a ++ x ∷ b) → Stand phase (a ++ b)
  stand_without phase [] x b ok = ok.1
  stand_without phase (y ∷ a) x b ok = (ok.0, stand_without phase a x b ok.1)

  linked_back : (phase : ℕ → Phase Request Reply) (a : List (QueuedWriter Request)) (x : QueuedWriter Request) (b : List (QueuedWriter Request)) → AllLinked phase (a ++ x ∷ b) → AllLinked phase b
  linked_back phase [] x b ok = ok.1
  linked_back phase (y ∷ a) x b ok = linked_back phase a x b ok.1

  linked_all : (phase : ℕ → Phase Request Reply) (a : List (QueuedWriter Request)) (x : QueuedWriter Request) (b : List (QueuedWriter Request)) → AllLinked phase a → phase x.by ≡ linked x → AllLinked phase b → AllLinked phase (a ++ x ∷ b)
  linked_all phase [] x b a_ok here b_ok = (here, b_ok)
  linked_all phase (y ∷ a) x b a_ok here b_ok = (a_ok.0, linked_all phase a x b a_ok.1 here b_ok)

  pub linked_two : (phase : ℕ → Phase Request Reply) (a b : List (QueuedWriter Request)) → AllLinked phase a → AllLinked phase b → AllLinked phase (a ++ b)
  linked_two phase [] b a_ok b_ok = b_ok
  linked_two phase (y ∷ a) b a_ok b_ok = (a_ok.0, linked_two phase a b a_ok.1 b_ok)

  abbrev pub number_in : Stall Request Reply → ℕ
  number_in (Aimed w) = w
  number_in (Stopped w) = w
  number_in (Held w x) = w
  number_in (Owes w x p) = w

  abbrev pub writer_in : QueuedWriter Request → Stall Request Reply → QueuedWriter Request
  writer_in d (Aimed w) = d
  writer_in d (Stopped w) = d
  writer_in d (Held w x) = x
  writer_in d (Owes w x p) = x

  pub one_held : (a b : ℕ) (e f : QueuedWriter Request) → Path (Phase Request Reply) (held a e) (held b f) → a ≡ b
  one_held a b e f is = cc

module _ {Request Reply Log Right : Type 0} (stands : Laws Request Reply Log Right) (n : ℕ) where
  -- it takes the request of a writer of the queue
  pub holds_is : (slots id : ℕ) (me : Sat Request Reply Log Right) (c k w : ℕ) (lead : Lead Request Reply) (mine : List (Request × Reply)) (newer older : List (QueuedWriter Request)) (x : QueuedWriter Request) → At c (Stalling lead (Stopped w)) mine me → lead.walk ≡ newer ++ x ∷ (older ++ in_hand lead) → k ≡ older_at x.by
      → StepIs stands n (λ _. Stays) slots id me k (λ y. y) (after_hold stands.asks (step slots k 0 0 none) me)
  holds_is slots id me c k w lead mine newer older x mid is_walk is_word s r long at fits =
      let h : LineHold Request Reply = hold c (Stalling lead (Stopped w)) mine in
      let at' : get_elem? s.views id ≡ some (h ∷ []) = at ∙ ap some mid in
      let fit = (r.seats id (h ∷ []) at').0 in
      let is : r.mode ≡ built c lead.group (stopped w) = fit.4.0 in
      let leads_c : r.phase c ≡ leads lead.own = fit.4.1 in
      let hand : lead.taken ≡ r.hand = fit.4.4 in
      let f = staller stands n s r c lead (stopped w) fit.1 fit.2 is leads_c hand in
      let H : List (QueuedWriter Request) = in_hand lead in
      let wide : length s.words ≡ 2 * n + 4 = r.wide in
      let many : length s.homes ≡ n + 2 = r.many in
      let ends = fit.4.2 in
      let q : List (QueuedWriter Request) = ends.0 ++ newer in
      let parts : r.line ≡ q ++ x ∷ (older ++ H) = ends.1 ∙ (ap (λ l. ends.0 ++ l) is_walk ∙ sym (middle ends.0 newer x (older ++ H))) in
      let is_queue : f.queue ≡ q ++ x ∷ older = append_cancel_right f.queue (q ++ x ∷ older) H (sym f.parts ∙ (parts ∙ sym (append_assoc q (x ∷ older) H))) in
      let queued : AllLinked r.phase (q ++ x ∷ older) = subst (AllLinked r.phase) is_queue f.queued in
      let now : r.phase x.by ≡ linked x = linked_at r.phase q x older queued in
      let m : ℕ = x.by in
      let range = within_at n q x (older ++ H) (subst (Within n) parts r.within) in
      let lo : 0 < m = range.0 in
      let hi : m ≤ n = range.1 in
      let row = subst (InPhase stands s.words s.homes m (r.due m)) now (r.rows m lo hi) in
      let whole : Distinct (q ++ x ∷ (older ++ H)) = subst Distinct parts r.distinct in
      let apart : Absent m q = distinct_apart q x (older ++ H) whole in
      let behind : Absent m (older ++ H) = (distinct_back q (x ∷ (older ++ H)) whole).0 in
      let other : c ≢ m = λ e. let bad : leads lead.own ≡ linked x = sym leads_c ∙ (ap r.phase e ∙ now) in absurd (cc) in
      let ws : List ℕ = set s.words k (get_or s.words k 0) in
      let hs = set s.homes m none in
      let same : (j : ℕ) → get_or ws j 0 ≡ get_or s.words j 0 = λ j. ap (λ (l : List ℕ). get_or l j 0) (set-get_or s.words k 0) in
      let ph : Phase Request Reply = held c x in
      let phase' : ℕ → Phase Request Reply = put r.phase m ph in
      let here : phase' m ≡ ph = put_here r.phase m ph in
      let st' : LineStage Request Reply = Stalling lead (Held w x) in
      let h' : LineHold Request Reply = hold c st' mine in
      let acc = restays_now stands.bound r.line r.handled r.mode r.account c lead.group (stopped w) (holding w x) is (λ _ _. refl) in
      let after = moved stands n s r x.by id ws hs h h' r.line r.hand r.handled (built c lead.group (holding w x)) ph r.due r.told r.two record {
        at = at';
        real = lo;
        same_client = refl;
        wide = length-set s.words k (get_or s.words k 0);
        many = length-set s.homes m none;
        newest_is = (same 0 ∙ f.names.0, same 3 ∙ f.names.1, f.names.2);
        links = links_same 0 s.words ws r.line (λ j. same (older_at j)) (subst (λ b. LinksFrom b s.words r.line) f.base r.links);
        distinct = r.distinct;
        within = r.within;
        stand = stand_change r.phase m ph r.line (λ e is_in. subst (InChain e) now is_in) r.stand;
        other_rows = λ j ne lo2 _. row_stays stands n s.words ws s.homes hs j (r.due j) (same (state_at j)) (same (older_at j)) (set_else s.homes m j none ne) (r.phase j);
        row = (row.0, same (state_at m) ∙ row.1, row.3);
        log_is = (
          (f.queue, lead.own, f.parts ∙ (λ i. f.queue ++ (hand i ++ lead.own ∷ [])), (q, older, is_queue, linked_absent r.phase m ph q apart (linked_front r.phase q (x ∷ older) queued), linked_absent r.phase m ph older (absent_front m older H behind) (linked_back r.phase q x older queued), here, row.3), put_else r.phase m ph c other ∙ leads_c, f.own_by),
          taken_change r.phase r.due r.due m ph c r.hand (λ e bad. absurd (cc)) (λ _ _. refl) (subst (AllTaken r.phase r.due c) hand f.members),
          f.own_due,
        );
        one_chosen = λ j e. put_at r.phase m ph (λ i g. g ≡ chosen e → Path (Mode Request) (built c lead.group (holding w x)) (waits i)) j (λ _ bad. absurd (cc)) (λ _ ok. let was : r.mode ≡ waits j = r.one_chosen j e ok in absurd (cc));
        kept = r.kept;
        coded = λ e in_chain. r.coded m e (subst (InChain e) (sym now) in_chain);
        account = acc.0;
        goes_on = ([], acc.2);
        recalls = recalls_more r.account.events acc.0.events ([], acc.2) (Leading lead) fit.6;
        has_cut = tt;
        owing_is = owing_stays r.phase r.due r.account.owing r.owing_is acc.0.owing r.due m ph (ap (λ (y : Core Request Reply). y.3) acc.1) (ap (λ f. due_untold f (r.due m)) (sym now)) (λ _ _. refl);
        second = second_same stands n s.words ws s.homes hs r.phase m ph r.mode (built c lead.group (holding w x)) (stands.given r.handled) (stands.given r.handled) r.two (inr (λ there. subst (InSecond r.two.place m) now there)) (λ j _. same j) (set_else s.homes m (n + 1) none (λ e. omega arith)) (λ j h. inl (subst (InFront j) (sym is) h)) (λ j h. inl (subst (Holds j) (sym is) h)) (λ j _ h. subst (Holds j) is h) (λ v. v) r.second;
        back = fit.5;
        else_back = λ _ _ _ ok. ok;
        shared_out = r.shared_out;
        told_else = λ _ _. refl;
        mine = fit.3;
        knows = (refl, put_else r.phase m ph c other ∙ leads_c, ends, fit.4.3, fit.4.4, tt);
        others = λ j ne. dite (ℕ_discrete j m)
            (λ e. subst (λ (i : ℕ). (st : LineStage Request Reply) → Knows r.line r.hand r.handled r.mode r.phase r.due i st → Knows r.line r.hand r.handled (built c lead.group (holding w x)) phase' r.due i st) (sym e)
            (still_waits r.line r.line r.hand r.hand r.handled r.handled r.mode (built c lead.group (holding w x)) r.phase phase' r.due r.due m (linked x) now tt (λ u here_is. subst (Waits u) (sym here) here_is) (λ _ owed. owed)))
            (λ away. knows_stays stands n r.line r.line r.hand r.hand r.handled r.handled r.mode (built c lead.group (holding w x)) r.phase phase' r.due r.due j (put_else r.phase m ph j away)
            (λ h. absurd (ne (sym (subst (Holds j) is h))))
            (λ e y is_taken owed. (put_at r.phase m ph (λ i g. r.phase i ≡ taken j e → g ≡ taken j e) e.by (λ at_m t. let bad : Path (Phase Request Reply) (linked x) (taken j e) = sym now ∙ (ap r.phase (sym at_m) ∙ t) in absurd (cc)) (λ _ t. t) is_taken, owed))
            (λ y owed. owed)
            (λ e y is_dropped. put_at r.phase m ph (λ i g. r.phase i ≡ dropped j e y → g ≡ dropped j e y) e.by (λ at_m t. let bad : Path (Phase Request Reply) (linked x) (dropped j e y) = sym now ∙ (ap r.phase (sym at_m) ∙ t) in absurd (cc)) (λ _ t. t) is_dropped));
      } in (
        h' ∷ [],
        takes m (Asked x.asked),
        row.2,
        (((acc.0.queue, acc.0.log, r.handled, acc.0.owing), second_list_of r.two), (λ i. (acc.1 i, second_list_of r.two)), after),
        λ c' w' lead' mine' newer' older' x' mid' is_walk' is_word'.
            let e = one_hold c c' (Stalling lead (Stopped w)) (Stalling lead' (Stopped w')) mine mine' me.0 mid mid' in
            let le : lead ≡ lead' = ap (lead_in lead) e.1 in
            let same_w : w ≡ w' = ap (λ (st : LineStage Request Reply). number_in (stall_in (Stopped w) st)) e.1 in
            let walk_apart : Distinct lead.walk = distinct_back ends.0 lead.walk (subst Distinct ends.1 r.distinct) in
            let two : newer ++ x ∷ (older ++ H) ≡ newer' ++ x' ∷ (older' ++ in_hand lead') = sym is_walk ∙ (ap (λ (l : Lead Request Reply). l.walk) le ∙ is_walk') in
            let by_same : x.by ≡ x'.by = (let older_same : older_at x.by ≡ older_at x'.by = sym is_word ∙ is_word' in omega arith) in
            let t = one_place newer (older ++ H) newer' (older' ++ in_hand lead') x x' (subst Distinct is_walk walk_apart) two by_same in (
              (λ i. hold (e.0 i) (Stalling (le i) (Held (same_w i) (t.1 i))) (e.2 i) ∷ []),
              (λ i. ((t.1 i).by, Asked (t.1 i).asked) ∷ me.1),
              ap (λ (j : ℕ). get_or s.words j 0) is_word ∙ (links_at 0 s.words q x (older ++ H) (subst (LinksFrom 0 s.words) parts (subst (λ b. LinksFrom b s.words r.line) f.base r.links)) ∙ (λ i. pack (newest (t.2 i)) (t.1 i).code)),
              subst (λ (y : QueuedWriter Request). stands.asks y.asked y.code) t.1 (r.coded m x (subst (InChain x) (sym now) refl)),
            ),
      )

  -- it gives the request back
  pub gives_back_is : (slots id : ℕ) (me : Sat Request Reply Log Right) (c k w value : ℕ) (lead : Lead Request Reply) (mine : List (Request × Reply)) (newer older : List (QueuedWriter Request)) (x : QueuedWriter Request) (t : List (ℕ × LineSlot Request Reply Log Right)) → At c (Stalling lead (Held w x)) mine me → me.1 ≡ (x.by, Asked x.asked) ∷ t
      → lead.walk ≡ newer ++ x ∷ older → k ≡ older_at x.by → value ≡ pack (newest older) x.code → StepIs stands n (λ _. Stays) slots id me k (λ _. value) (λ _. after_give_back (step slots k value 0 none) me value)
  gives_back_is slots id me c k w value lead mine newer older x t mid slot is_walk is_word is_value s r long at fits =
      let h : LineHold Request Reply = hold c (Stalling lead (Held w x)) mine in
      let at' : get_elem? s.views id ≡ some (h ∷ []) = at ∙ ap some mid in
      let fit = (r.seats id (h ∷ []) at').0 in
      let is : r.mode ≡ built c lead.group (holding w x) = fit.4.0 in
      let leads_c : r.phase c ≡ leads lead.own = fit.4.1 in
      let hand : lead.taken ≡ r.hand = fit.4.4 in
      let f = staller stands n s r c lead (holding w x) fit.1 fit.2 is leads_c hand in
      let H : List (QueuedWriter Request) = in_hand lead in
      let wide : length s.words ≡ 2 * n + 4 = r.wide in
      let many : length s.homes ≡ n + 2 = r.many in
      let ends = fit.4.2 in
      let q : List (QueuedWriter Request) = ends.0 ++ newer in
      let parts : r.line ≡ q ++ x ∷ older = ends.1 ∙ (ap (λ l. ends.0 ++ l) is_walk ∙ sym (middle ends.0 newer x older)) in
      let now : r.phase x.by ≡ held c x = f.queued.5 in
      let m : ℕ = x.by in
      let range = within_at n q x older (subst (Within n) parts r.within) in
      let lo : 0 < m = range.0 in
      let hi : m ≤ n = range.1 in
      let row = subst (InPhase stands s.words s.homes m (r.due m)) now (r.rows m lo hi) in
      let other : c ≢ m = λ e. let bad : leads lead.own ≡ held c x = sym leads_c ∙ (ap r.phase e ∙ now) in absurd (cc) in
      let ws : List ℕ = set s.words k value in
      let hs = set s.homes m (some (Asked x.asked)) in
      let at_word : get_or s.words k 0 ≡ value = ap (λ (j : ℕ). get_or s.words j 0) is_word ∙ (links_at 0 s.words q x older (subst (LinksFrom 0 s.words) parts (subst (λ b. LinksFrom b s.words r.line) f.base r.links)) ∙ sym is_value) in
      let same : (j : ℕ) → get_or ws j 0 ≡ get_or s.words j 0 = λ j. dite (ℕ_discrete j k)
      (λ e. ap (λ (i : ℕ). get_or ws i 0) e ∙ (get_or-set_same s.words k value 0 (omega arith) ∙ (sym at_word ∙ ap (λ (i : ℕ). get_or s.words i 0) (sym e))))
      (λ ne. get_or-set_other s.words k j value 0 (λ e. ne (omega arith))) in
      let ph : Phase Request Reply = linked x in
      let phase' : ℕ → Phase Request Reply = put r.phase m ph in
      let here : phase' m ≡ ph = put_here r.phase m ph in
      let st' : LineStage Request Reply = Stalling lead (Stopped w) in
      let h' : LineHold Request Reply = hold c st' mine in
      let nq : List (QueuedWriter Request) = f.queued.0 in
      let oq : List (QueuedWriter Request) = f.queued.1 in
      let queue_apart : Distinct (nq ++ x ∷ (oq ++ H)) = subst Distinct (f.parts ∙ (ap (λ l. l ++ H) f.queued.2 ∙ append_assoc nq (x ∷ oq) H)) r.distinct in
      let behind : Absent m (oq ++ H) = (distinct_back nq (x ∷ (oq ++ H)) queue_apart).0 in
      let acc = restays_now stands.bound r.line r.handled r.mode r.account c lead.group (holding w x) (stopped w) is (λ _ _. refl) in
      let now_is : Lists Request Reply = ((acc.0.queue, acc.0.log, r.handled, acc.0.owing), second_list_of r.two) in
      let after : IsNow stands n now_is (record { words = ws; homes = hs; views = set s.views id (h' ∷ []) }) =
      moved stands n s r x.by id ws hs h h' r.line r.hand r.handled (built c lead.group (stopped w)) ph r.due r.told r.two record {
        at = at';
        real = lo;
        same_client = refl;
        wide = length-set s.words k value;
        many = length-set s.homes m (some (Asked x.asked));
        newest_is = (same 0 ∙ f.names.0, same 3 ∙ f.names.1, f.names.2);
        links = links_same 0 s.words ws r.line (λ j. same (older_at j)) (subst (λ b. LinksFrom b s.words r.line) f.base r.links);
        distinct = r.distinct;
        within = r.within;
        stand = stand_change r.phase m ph r.line (λ e is_in. subst (InChain e) now is_in) r.stand;
        other_rows = λ j ne lo2 _. row_stays stands n s.words ws s.homes hs j (r.due j) (same (state_at j)) (same (older_at j)) (set_else s.homes m j (some (Asked x.asked)) ne) (r.phase j);
        row = (row.0, same (state_at m) ∙ row.1, set_here s.homes m (some (Asked x.asked)) (omega arith), row.2);
        log_is = (
          (f.queue, lead.own, f.parts ∙ (λ i. f.queue ++ (hand i ++ lead.own ∷ [])), subst (AllLinked phase') (sym f.queued.2) (linked_all phase' nq x oq (linked_absent r.phase m ph nq (distinct_apart nq x (oq ++ H) queue_apart) f.queued.3) here (linked_absent r.phase m ph oq (absent_front m oq H behind) f.queued.4)), put_else r.phase m ph c other ∙ leads_c, f.own_by),
          taken_change r.phase r.due r.due m ph c r.hand (λ e bad. absurd (cc)) (λ _ _. refl) (subst (AllTaken r.phase r.due c) hand f.members),
          f.own_due,
        );
        one_chosen = λ j e. put_at r.phase m ph (λ i g. g ≡ chosen e → Path (Mode Request) (built c lead.group (stopped w)) (waits i)) j (λ _ bad. absurd (cc)) (λ _ ok. let was : r.mode ≡ waits j = r.one_chosen j e ok in absurd (cc));
        kept = r.kept;
        coded = λ e in_chain. r.coded m e (subst (InChain e) (sym now) in_chain);
        account = acc.0;
        goes_on = ([], acc.2);
        recalls = recalls_more r.account.events acc.0.events ([], acc.2) (Leading lead) fit.6;
        has_cut = tt;
        owing_is = owing_stays r.phase r.due r.account.owing r.owing_is acc.0.owing r.due m ph (ap (λ (y : Core Request Reply). y.3) acc.1) (ap (λ f. due_untold f (r.due m)) (sym now)) (λ _ _. refl);
        second = second_same stands n s.words ws s.homes hs r.phase m ph r.mode (built c lead.group (stopped w)) (stands.given r.handled) (stands.given r.handled) r.two (inr (λ there. subst (InSecond r.two.place m) now there)) (λ j _. same j) (set_else s.homes m (n + 1) (some (Asked x.asked)) (λ e. omega arith)) (λ j h. inl (subst (InFront j) (sym is) h)) (λ j h. inl (subst (Holds j) (sym is) h)) (λ j _ h. subst (Holds j) is h) (λ v. v) r.second;
        back = fit.5;
        else_back = λ _ _ _ ok. ok;
        shared_out = r.shared_out;
        told_else = λ _ _. refl;
        mine = fit.3;
        knows = (refl, put_else r.phase m ph c other ∙ leads_c, ends, fit.4.3, fit.4.4, tt);
        others = λ j ne. dite (ℕ_discrete j m)
            (λ e. subst (λ (i : ℕ). (st : LineStage Request Reply) → Knows r.line r.hand r.handled r.mode r.phase r.due i st → Knows r.line r.hand r.handled (built c lead.group (stopped w)) phase' r.due i st) (sym e)
            (still_waits r.line r.line r.hand r.hand r.handled r.handled r.mode (built c lead.group (stopped w)) r.phase phase' r.due r.due m (held c x) now tt (λ u here_is. subst (Waits u) (sym here) here_is) (λ _ owed. owed)))
            (λ away. knows_stays stands n r.line r.line r.hand r.hand r.handled r.handled r.mode (built c lead.group (stopped w)) r.phase phase' r.due r.due j (put_else r.phase m ph j away)
            (λ h. absurd (ne (sym (subst (Holds j) is h))))
            (λ e y is_taken owed. (put_at r.phase m ph (λ i g. r.phase i ≡ taken j e → g ≡ taken j e) e.by (λ at_m t. let bad : Path (Phase Request Reply) (held c x) (taken j e) = sym now ∙ (ap r.phase (sym at_m) ∙ t) in absurd (cc)) (λ _ t. t) is_taken, owed))
            (λ y owed. owed)
            (λ e y is_dropped. put_at r.phase m ph (λ i g. r.phase i ≡ dropped j e y → g ≡ dropped j e y) e.by (λ at_m t. let bad : Path (Phase Request Reply) (held c x) (dropped j e y) = sym now ∙ (ap r.phase (sym at_m) ∙ t) in absurd (cc)) (λ _ t. t) is_dropped));
      } in (
        h' ∷ [],
        gives,
        tt,
        (now_is, (λ i. (acc.1 i, second_list_of r.two)), subst (λ (l : List (ℕ × LineSlot Request Reply Log Right)). IsNow stands n now_is (stepped s k value id l (h' ∷ []) gives)) (sym slot) after),
        λ c' w' lead' x' mine' mid'.
            let e = one_hold c c' (Stalling lead (Held w x)) (Stalling lead' (Held w' x')) mine mine' me.0 mid mid' in
            ((λ i. hold (e.0 i) (Stalling (lead_in lead (e.1 i)) (Stopped (number_in (stall_in (Stopped w) (e.1 i))))) (e.2 i) ∷ []), refl),
      )

  -- the same, whatever event each step is
  pub holds : (slots id : ℕ) (me : Sat Request Reply Log Right) (c k w : ℕ) (lead : Lead Request Reply) (mine : List (Request × Reply)) (newer older : List (QueuedWriter Request)) (x : QueuedWriter Request) → At c (Stalling lead (Stopped w)) mine me → lead.walk ≡ newer ++ x ∷ (older ++ in_hand lead) → k ≡ older_at x.by
      → Allows (Listed stands n) slots id me k (λ y. y) (after_hold stands.asks (step slots k 0 0 none) me)
  holds slots id me c k w lead mine newer older x mid is_walk is_word = allows stands n (λ _. Stays) slots id me k (λ y. y) (after_hold stands.asks (step slots k 0 0 none) me) (holds_is slots id me c k w lead mine newer older x mid is_walk is_word)

  pub holds_as : (asked : Request → ℕ → Type 0) → stands.asks ≡ asked → (slots id : ℕ) (me : Sat Request Reply Log Right) (c k w : ℕ) (lead : Lead Request Reply) (mine : List (Request × Reply)) (newer older : List (QueuedWriter Request)) (x : QueuedWriter Request) → At c (Stalling lead (Stopped w)) mine me → lead.walk ≡ newer ++ x ∷ (older ++ in_hand lead) → k ≡ older_at x.by
      → Allows (Listed stands n) slots id me k (λ y. y) (after_hold asked (step slots k 0 0 none) me)
  holds_as asked is slots id me c k w lead mine newer older x mid is_walk is_word =
      subst (λ z. Allows (Listed stands n) slots id me k (λ y. y) (after_hold z (step slots k 0 0 none) me)) is (holds slots id me c k w lead mine newer older x mid is_walk is_word)

  pub gives_back : (slots id : ℕ) (me : Sat Request Reply Log Right) (c k w value : ℕ) (lead : Lead Request Reply) (mine : List (Request × Reply)) (newer older : List (QueuedWriter Request)) (x : QueuedWriter Request) (t : List (ℕ × LineSlot Request Reply Log Right)) → At c (Stalling lead (Held w x)) mine me → me.1 ≡ (x.by, Asked x.asked) ∷ t
      → lead.walk ≡ newer ++ x ∷ older → k ≡ older_at x.by → value ≡ pack (newest older) x.code → Allows (Listed stands n) slots id me k (λ _. value) (λ _. after_give_back (step slots k value 0 none) me value)
  gives_back slots id me c k w value lead mine newer older x t mid slot is_walk is_word is_value = allows stands n (λ _. Stays) slots id me k (λ _. value) (λ _. after_give_back (step slots k value 0 none) me value) (gives_back_is slots id me c k w value lead mine newer older x t mid slot is_walk is_word is_value)
