-- What of the rule stays true when one row and one seat move, and what the list is then.
use Rattle.std.proofs.Common.{◌≡◌, ◌≢◌, ℕ, ◌<◌, ◌≤◌, List, [], ◌∷◌, ◌++◌, length, get_or, set, refl, sym, ap, ◌∙◌, subst, ⊎_elim, append_assoc, arith}
use mathlib.Core.Option.{Option, some}
use lib.ListN.{get_elem?}
use lib.Seq.{set-get_or}
use Rattle.atomic_table.specs.Table.{State, Act, keeps, Valid, carried_after, stepped, Allows}
use Rattle.atomic_table.proofs.Lists.{at_set, set_again}
use Rattle.line_rule.specs.declared.view.QueuedWriter.{QueuedWriter}
use Rattle.line_rule.specs.declared.view.Handling.{Handling}
use Rattle.line_rule.specs.declared.view.LineHold.{LineHold}
use Rattle.line_rule.specs.declared.view.Back.{Back}
use Rattle.line_rule.specs.declared.content.LineSlot.{LineSlot}
use Rattle.line_rule.specs.declared.view.LineStage.{LineStage}
use Rattle.line_rule.specs.declared.view.LineStage.TheVariants.{Idle, Preparing, Waiting, Helping, Fresh, Leading, Stalling, Cutting, Marking, Settling, Collecting}
use Rattle.line_rule.specs.Chain.{state_at, older_at, newest_from, LinksFrom, Distinct, Within, EndsWith, of}
use Rattle.line_rule.specs.Standing.{Phase, idle, preparing, linked, chosen, leads, taken, completed, held, dropped, dismissed, collecting, calm, Names, pause_in, pause_of, Mode, open_, waits, led, built, cut, marked, base_of, Holds, Two, KnowsBack}
use Rattle.line_rule.specs.Laws.{Laws}
use Rattle.line_rule.specs.Events.{LineEvent, GoesOn}
use Rattle.line_rule.specs.Rule.{InChain, Stand, Waits, AllTaken, Knows, Recalls, AllFit, InPhase, InMode, Account, Listed, Second, HasCut, due_untold, hold_at}
use Rattle.line_rule.specs.Plays.{Sat}
use Rattle.line_rule.specs.Steps.{Lists, now_of, IsNow, Becomes, StepIs}
use Rattle.line_rule.specs.SecondList.{second_list_of}
use Rattle.line_rule.proofs.Chains.{put, put_at, put_else, linked_change, owed_change, ends_trans}
use Rattle.line_rule.proofs.Pauses.{queued_change, owes_stay}

module _ {Request Reply : Type 0} where
  pub goes_further : (a b c : List (LineEvent Request Reply)) → GoesOn b a → GoesOn c b → GoesOn c a
  goes_further a b c x y = (y.0 ++ x.0, y.1 ∙ (ap (λ l. y.0 ++ l) x.1 ∙ sym (append_assoc y.0 x.0 a)))

  pub recalls_more : (was now : List (LineEvent Request Reply)) → GoesOn now was → (st : LineStage Request Reply) → Recalls was st → Recalls now st
  recalls_more was now on Idle ok = tt
  recalls_more was now on (Preparing w) ok = tt
  recalls_more was now on (Waiting q past) ok = goes_further past was now ok on
  recalls_more was now on (Helping q) ok = tt
  recalls_more was now on (Fresh own seen) ok = tt
  recalls_more was now on (Leading lead) ok = goes_further lead.past was now ok on
  recalls_more was now on (Stalling lead t) ok = goes_further lead.past was now ok on
  recalls_more was now on (Cutting lead e) ok = tt
  recalls_more was now on (Marking lead) ok = tt
  recalls_more was now on (Settling debt) ok = tt
  recalls_more was now on Collecting ok = tt

module _ {Request Reply Log Right : Type 0} (stands : Laws Request Reply Log Right) (n : ℕ) where
  abbrev pub St : Type 0
  St = State (LineSlot Request Reply Log Right) (List (LineHold Request Reply))

  abbrev pub Homes : Type 0
  Homes = List (Option (LineSlot Request Reply Log Right))

  pub row_stays : (words ws : List ℕ) (homes hs : Homes) (k : ℕ) (due : List (Request × Reply)) → get_or ws (state_at k) 0 ≡ get_or words (state_at k) 0 → get_or ws (older_at k) 0 ≡ get_or words (older_at k) 0
      → get_elem? hs k ≡ get_elem? homes k → (ph : Phase Request Reply) → InPhase stands words homes k due ph → InPhase stands ws hs k due ph
  row_stays words ws homes hs k due a b c idle ok = (c ∙ ok.0, ok.1)
  row_stays words ws homes hs k due a b c (preparing w) ok = (a ∙ ok.0, b ∙ ok.1, ok.2)
  row_stays words ws homes hs k due a b c (linked e) ok = (ok.0, a ∙ ok.1, c ∙ ok.2, ok.3)
  row_stays words ws homes hs k due a b c (chosen e) ok = (ok.0, a ∙ ok.1, c ∙ ok.2, ok.3)
  row_stays words ws homes hs k due a b c (leads e) ok = ok
  row_stays words ws homes hs k due a b c (taken l e) ok = (ok.0, (λ e. ok.1 (sym a ∙ e)), (λ e. ok.2 (sym a ∙ e)), (λ e. ok.3 (sym a ∙ e)))
  row_stays words ws homes hs k due a b c (completed q p) ok = (a ∙ ok.0, c ∙ ok.1, ok.2)
  row_stays words ws homes hs k due a b c (held l e) ok = (ok.0, a ∙ ok.1, ok.2)
  row_stays words ws homes hs k due a b c (dropped l e p) ok = (ok.0, a ∙ ok.1, ok.2, ok.3)
  row_stays words ws homes hs k due a b c (dismissed q p) ok = (a ∙ ok.0, c ∙ ok.1, ok.2, ok.3)
  row_stays words ws homes hs k due a b c collecting ok = ok

  pub mode_stays : (homes hs : Homes) (line hand : List (QueuedWriter Request)) (handled : List (Handling Request Reply)) (phase : ℕ → Phase Request Reply) (due due' : ℕ → List (Request × Reply)) (m : ℕ) (ph : Phase Request Reply) → get_elem? hs 0 ≡ get_elem? homes 0
      → ((e : QueuedWriter Request) → phase m ≡ chosen e → ph ≡ chosen e) → ((c : ℕ) (e : QueuedWriter Request) → c ≡ m → phase m ≡ leads e → due c ≡ [] → ph ≡ leads e) → ((e : QueuedWriter Request) → phase m ≡ linked e → ph ≡ linked e)
      → ((c : ℕ) → AllTaken phase due c hand → AllTaken (put phase m ph) due' c hand) → ((c : ℕ) (e : QueuedWriter Request) → phase m ≡ held c e → ph ≡ held c e) → ((c : ℕ) → due c ≡ [] → due' c ≡ [])
      → (mode : Mode Request) → InMode stands n homes line hand handled phase due mode → InMode stands n hs line hand handled (put phase m ph) due' mode
  mode_stays homes hs line hand handled phase due due' m ph same to_c to_l to_k to_t to_g nil open_ ok = (ok.0, ok.1, (ok.2.0, same ∙ ok.2.1, ok.2.2))
  mode_stays homes hs line hand handled phase due due' m ph same to_c to_l to_k to_t to_g nil (waits c) ok = (
    (ok.0.0, ok.0.1, ok.0.2, linked_change phase m ph ok.0.0 to_k ok.0.3, put_at phase m ph (λ k f. phase k ≡ chosen ok.0.1 → f ≡ chosen ok.0.1) c (λ is here. to_c ok.0.1 (ap phase (sym is) ∙ here)) (λ _ here. here) ok.0.4, ok.0.5),
    ok.1,
    (ok.2.0, same ∙ ok.2.1, ok.2.2),
  )
  mode_stays homes hs line hand handled phase due due' m ph same to_c to_l to_k to_t to_g nil (led c) ok = (
    (ok.0.0, ok.0.1, ok.0.2, linked_change phase m ph ok.0.0 to_k ok.0.3, put_at phase m ph (λ k f. phase k ≡ leads ok.0.1 → due k ≡ [] → f ≡ leads ok.0.1) c (λ is here owes. to_l c ok.0.1 is (ap phase (sym is) ∙ here) owes) (λ _ here _. here) ok.0.4 ok.2, ok.0.5),
    ok.1,
    nil c ok.2,
  )
  mode_stays homes hs line hand handled phase due due' m ph same to_c to_l to_k to_t to_g nil (built c g t) ok = (
    (ok.0.0, ok.0.1, ok.0.2, queued_change phase due due' m ph c ok.0.0 t to_k (to_g c) nil ok.0.3, put_at phase m ph (λ k f. phase k ≡ leads ok.0.1 → due k ≡ [] → f ≡ leads ok.0.1) c (λ is here owes. to_l c ok.0.1 is (ap phase (sym is) ∙ here) owes) (λ _ here _. here) ok.0.4 ok.2, ok.0.5),
    to_t c ok.1,
    nil c ok.2,
  )
  mode_stays homes hs line hand handled phase due due' m ph same to_c to_l to_k to_t to_g nil (cut c w) ok = (
    (ok.0.0, ok.0.1, ok.0.2, linked_change phase m ph ok.0.0 to_k ok.0.3, put_at phase m ph (λ k f. phase k ≡ linked ok.0.1 → f ≡ linked ok.0.1) w (λ is here. to_k ok.0.1 (ap phase (sym is) ∙ here)) (λ _ here. here) ok.0.4, ok.0.5),
    to_t c ok.1,
    nil c ok.2,
    ok.3,
  )
  mode_stays homes hs line hand handled phase due due' m ph same to_c to_l to_k to_t to_g nil (marked c) ok = (
    linked_change phase m ph line to_k ok.0,
    (ok.1.0, put_at phase m ph (λ k f. phase k ≡ leads ok.1.0 → due k ≡ [] → f ≡ leads ok.1.0) c (λ is here owes. to_l c ok.1.0 is (ap phase (sym is) ∙ here) owes) (λ _ here _. here) ok.1.1 ok.3, ok.1.2, ok.1.3, ok.1.4),
    to_t c ok.2,
    nil c ok.3,
    ok.4,
  )

  holds_by : (k : ℕ) (mode now : Mode Request) → mode ≡ now → Holds k now → Holds k mode
  holds_by k mode now is ok = subst (Holds k) (sym is) ok

  -- what another client knows stays true
  pub knows_stays : (line line' hand hand' : List (QueuedWriter Request)) (handled handled' : List (Handling Request Reply)) (mode mode' : Mode Request) (phase phase' : ℕ → Phase Request Reply) (due due' : ℕ → List (Request × Reply)) (k : ℕ) → phase' k ≡ phase k
      → (Holds k mode → (mode' ≡ mode) × EndsWith line' line × (handled' ≡ handled) × (hand' ≡ hand) × ((e : QueuedWriter Request) → mode ≡ cut k e.by → phase e.by ≡ linked e → phase' e.by ≡ linked e))
      → ((e : QueuedWriter Request) (x : Request × Reply) → phase e.by ≡ taken k e → due e.by ≡ x ∷ [] → (phase' e.by ≡ taken k e) × (due' e.by ≡ x ∷ []))
      → ((x : Request × Reply) → due k ≡ x ∷ [] → due' k ≡ x ∷ []) → ((x : QueuedWriter Request) (p : Reply) → phase x.by ≡ dropped k x p → phase' x.by ≡ dropped k x p)
      → (st : LineStage Request Reply) → Knows line hand handled mode phase due k st → Knows line' hand' handled' mode' phase' due' k st
  knows_stays line line' hand hand' handled handled' mode mode' phase phase' due due' k same to_h to_o to_d to_x Idle ok = same ∙ ok
  knows_stays line line' hand hand' handled handled' mode mode' phase phase' due due' k same to_h to_o to_d to_x (Preparing w) ok = same ∙ ok
  knows_stays line line' hand hand' handled handled' mode mode' phase phase' due due' k same to_h to_o to_d to_x (Waiting q past) ok = subst (Waits q) (sym same) ok
  knows_stays line line' hand hand' handled handled' mode mode' phase phase' due due' k same to_h to_o to_d to_x (Helping q) ok = (subst (Waits q) (sym same) ok.0, (ok.1.0, to_d (q, ok.1.0) ok.1.1))
  knows_stays line line' hand hand' handled handled' mode mode' phase phase' due due' k same to_h to_o to_d to_x (Fresh own seen) ok = let t = to_h (holds_by k mode (led k) ok.0 refl) in (t.0 ∙ ok.0, same ∙ ok.1, ok.2 ∙ sym t.2)
  knows_stays line line' hand hand' handled handled' mode mode' phase phase' due due' k same to_h to_o to_d to_x (Leading lead) ok = let t = to_h (holds_by k mode (built k lead.group calm) ok.0 refl) in (t.0 ∙ ok.0, same ∙ ok.1, ends_trans line' line lead.walk t.1 ok.2, ok.3 ∙ sym t.2, ok.4 ∙ sym t.3)
  knows_stays line line' hand hand' handled handled' mode mode' phase phase' due due' k same to_h to_o to_d to_x (Stalling lead t) ok =
      let u = to_h (holds_by k mode (built k lead.group (pause_in t)) ok.0 refl) in (u.0 ∙ ok.0, same ∙ ok.1, ends_trans line' line lead.walk u.1 ok.2, ok.3 ∙ sym u.2, ok.4 ∙ sym u.3, owes_stay phase phase' k t to_x ok.5)
  knows_stays line line' hand hand' handled handled' mode mode' phase phase' due due' k same to_h to_o to_d to_x (Cutting lead e) ok = let t = to_h (holds_by k mode (cut k e.by) ok.0 refl) in (t.0 ∙ ok.0, same ∙ ok.1, t.4 e ok.0 ok.2, ok.3 ∙ sym t.2, ok.4 ∙ sym t.3)
  knows_stays line line' hand hand' handled handled' mode mode' phase phase' due due' k same to_h to_o to_d to_x (Marking lead) ok = let t = to_h (holds_by k mode (marked k) ok.0 refl) in (t.0 ∙ ok.0, same ∙ ok.1, ends_trans line' line lead.walk t.1 ok.2, ok.3 ∙ sym t.2, ok.4 ∙ sym t.3)
  knows_stays line line' hand hand' handled handled' mode mode' phase phase' due due' k same to_h to_o to_d to_x (Settling debt) ok =
      (owed_change phase phase' due due' k debt.rest to_o ok.0, same ∙ ok.1, to_d (debt.own.asked, debt.reply) ok.2, ok.3)
  knows_stays line line' hand hand' handled handled' mode mode' phase phase' due due' k same to_h to_o to_d to_x Collecting ok = same ∙ ok

  -- the same where the row m alone changes, and the list only grows at its newer end
  pub knows_else : (line line' hand : List (QueuedWriter Request)) (handled : List (Handling Request Reply)) (mode mode' : Mode Request) (phase : ℕ → Phase Request Reply) (due due' : ℕ → List (Request × Reply)) (m : ℕ) (ph : Phase Request Reply) (k : ℕ) → k ≢ m → EndsWith line' line
      → (Holds k mode → mode' ≡ mode) → ((e : QueuedWriter Request) → phase m ≡ linked e → ph ≡ linked e) → ((e : QueuedWriter Request) → phase m ≡ taken k e → (ph ≡ taken k e) × (due' m ≡ due m)) → ((j : ℕ) → j ≢ m → due' j ≡ due j) → ((e : QueuedWriter Request) (p : Reply) → phase m ≡ dropped k e p → ph ≡ dropped k e p)
      → (st : LineStage Request Reply) → Knows line hand handled mode phase due k st → Knows line' hand handled mode' (put phase m ph) due' k st
  knows_else line line' hand handled mode mode' phase due due' m ph k ne ends to_h to_k to_t due_else to_x =
      knows_stays line line' hand hand handled handled mode mode' phase (put phase m ph) due due' k (put_else phase m ph k ne)
      (λ h. (to_h h, ends, refl, refl, λ e cu here. put_at phase m ph (λ j f. phase j ≡ linked e → f ≡ linked e) e.by (λ is now. to_k e (ap phase (sym is) ∙ now)) (λ _ now. now) here))
      (λ e x here owed. put_at phase m ph (λ j f. phase j ≡ taken k e → due j ≡ x ∷ [] → (f ≡ taken k e) × (due' j ≡ x ∷ [])) e.by
      (λ is now d. let t = to_t e (ap phase (sym is) ∙ now) in (t.0, ap due' is ∙ (t.1 ∙ (ap due (sym is) ∙ d)))) (λ ne now d. (now, due_else e.by ne ∙ d)) here owed)
      (λ x owed. due_else k ne ∙ owed)
      (λ e p here. put_at phase m ph (λ j f. phase j ≡ dropped k e p → f ≡ dropped k e p) e.by (λ is now. to_x e p (ap phase (sym is) ∙ now)) (λ _ now. now) here)

  -- the row m becomes ph, and the seat id goes from h to h'
  pub record Move (s : St) (r : Listed stands n s) (m id : ℕ) (ws : List ℕ) (hs : Homes) (h h' : LineHold Request Reply) (line hand : List (QueuedWriter Request)) (handled : List (Handling Request Reply)) (mode : Mode Request) (ph : Phase Request Reply) (due told : ℕ → List (Request × Reply)) (two : Two Request Reply) : Type 0 where
    pub at : get_elem? s.views id ≡ some (h ∷ [])
    pub real : 0 < m
    pub same_client : h'.client ≡ h.client
    pub wide : length ws ≡ length s.words
    pub many : length hs ≡ length s.homes
    pub newest_is : Names ws (newest_from (base_of mode) line) (pause_of mode)
    pub links : LinksFrom (base_of mode) ws line
    pub distinct : Distinct line
    pub within : Within n line
    pub stand : Stand (put r.phase m ph) line
    pub other_rows : (k : ℕ) → k ≢ m → 0 < k → k ≤ n → InPhase stands s.words s.homes k (r.due k) (r.phase k) → InPhase stands ws hs k (due k) (r.phase k)
    pub row : InPhase stands ws hs m (due m) ph
    pub log_is : InMode stands n hs line hand handled (put r.phase m ph) due mode
    pub one_chosen : (k : ℕ) (e : QueuedWriter Request) → put r.phase m ph k ≡ chosen e → mode ≡ waits k
    pub shared_out : (k : ℕ) → of k handled ≡ told k ++ due k
    pub account : Account stands.bound line handled mode
    pub goes_on : GoesOn account.events r.account.events
    pub recalls : Recalls account.events h'.stage
    pub has_cut : HasCut account.log hand (put r.phase m ph) mode
    pub owing_is : (k : ℕ) → of k account.owing ≡ due_untold (put r.phase m ph k) (due k)
    pub second : Second stands n ws hs (put r.phase m ph) mode (stands.given handled) two
    pub back : KnowsBack two h.client h'.back
    pub else_back : (k : ℕ) → k ≢ h.client → (b : Back Request Reply) → KnowsBack r.two k b → KnowsBack two k b
    pub kept : stands.kept handled
    pub coded : (e : QueuedWriter Request) → InChain e ph → stands.asks e.asked e.code
    pub told_else : (k : ℕ) → k ≢ h.client → told k ≡ r.told k
    pub mine : h'.mine ≡ told h.client
    pub knows : Knows line hand handled mode (put r.phase m ph) due h.client h'.stage
    pub others : (k : ℕ) → k ≢ h.client → (st : LineStage Request Reply) → Knows r.line r.hand r.handled r.mode r.phase r.due k st → Knows line hand handled mode (put r.phase m ph) due k st

  module _ (s : St) (r : Listed stands n s) (m id : ℕ) (ws : List ℕ) (hs : Homes) (h h' : LineHold Request Reply) (line hand : List (QueuedWriter Request)) (handled : List (Handling Request Reply)) (mode : Mode Request) (ph : Phase Request Reply) (due told : ℕ → List (Request × Reply)) (two : Two Request Reply) where
    fit_stays : (v : Move s r m id ws hs h h' line hand handled mode ph due told two) (j : ℕ) → j ≢ id → (xs : List (LineHold Request Reply)) → AllFit n r.line r.hand r.handled r.mode r.phase r.due r.told r.two r.account.events r.seat j xs → AllFit n line hand handled mode (put r.phase m ph) due told two v.account.events r.seat j xs
    fit_stays v j other [] ok = tt
    fit_stays v j other (x ∷ xs) ok =
        let mine = (r.seats id (h ∷ []) v.at).0 in
        let ne : x.client ≢ h.client = λ e. other (sym ok.0.0 ∙ (ap r.seat e ∙ mine.0)) in (
          (ok.0.0, ok.0.1, ok.0.2, ok.0.3 ∙ sym (v.told_else x.client ne), v.others x.client ne x.stage ok.0.4, v.else_back x.client ne x.back ok.0.5, recalls_more r.account.events v.account.events v.goes_on x.stage ok.0.6),
          fit_stays v j other xs ok.1,
        )

    listed : Move s r m id ws hs h h' line hand handled mode ph due told two → Listed stands n (record { words = ws; homes = hs; views = set s.views id (h' ∷ []) })
    listed v =
        let mine = (r.seats id (h ∷ []) v.at).0 in
        record {
          line = line;
          hand = hand;
          handled = handled;
          mode = mode;
          phase = put r.phase m ph;
          due = due;
          told = told;
          seat = r.seat;
          few = r.few;
          nobody = put_else r.phase m ph 0 (λ e. let lo = v.real in omega arith) ∙ r.nobody;
          wide = v.wide ∙ r.wide;
          many = v.many ∙ r.many;
          newest_is = v.newest_is;
          links = v.links;
          distinct = v.distinct;
          within = v.within;
          stand = v.stand;
          rows = λ i lo hi. put_at r.phase m ph (λ k f. 0 < k → k ≤ n → InPhase stands ws hs k (due k) f) i (λ is _ _. subst (λ (k : ℕ). InPhase stands ws hs k (due k) ph) (sym is) v.row) (λ ne lo hi. v.other_rows i ne lo hi (r.rows i lo hi)) lo hi;
          log_is = v.log_is;
          one_chosen = v.one_chosen;
          shared_out = v.shared_out;
          account = v.account;
          has_cut = v.has_cut;
          owing_is = v.owing_is;
          second = v.second;
          two = two;
          kept = v.kept;
          coded = λ i e. put_at r.phase m ph (λ k f. InChain e f → stands.asks e.asked e.code) i (λ _ is. v.coded e is) (λ _ is. r.coded i e is);
          seats = λ j x e. ⊎_elim
              (λ (t : (j ≡ id) × (h' ∷ [] ≡ x)). subst (λ (z : ℕ × List (LineHold Request Reply)). AllFit n line hand handled mode (put r.phase m ph) due told two v.account.events r.seat z.0 z.1) (λ i. (sym t.0 i, t.1 i)) (
                (ap r.seat v.same_client ∙ mine.0, subst (λ (k : ℕ). 0 < k) (sym v.same_client) mine.1, subst (λ (k : ℕ). k ≤ n) (sym v.same_client) mine.2, v.mine ∙ ap told (sym v.same_client), subst (λ (k : ℕ). Knows line hand handled mode (put r.phase m ph) due k h'.stage) (sym v.same_client) v.knows, subst (λ (k : ℕ). KnowsBack two k h'.back) (sym v.same_client) v.back, v.recalls),
                tt,
              ))
              (λ (t : (j ≢ id) × (get_elem? s.views j ≡ some x)). fit_stays v j t.0 x (r.seats j x t.1))
              (at_set s.views id j (h' ∷ []) x e);
        }

    -- the state after it, and what the list is then
    pub moved : (v : Move s r m id ws hs h h' line hand handled mode ph due told two) → IsNow stands n ((v.account.queue, v.account.log, handled, v.account.owing), second_list_of two) (record { words = ws; homes = hs; views = set s.views id (h' ∷ []) })
    unfolding listed
    moved v = (listed v, refl)

  -- what a step makes of the list, and what its seat knows then
  abbrev pub Goes : (ℕ → Lists Request Reply → Lists Request Reply → Type 0) → (s : St) → Listed stands n s → ℕ → ℕ → Sat Request Reply Log Right → (ℕ → Sat Request Reply Log Right → Type 0) → ℕ → Type 0
  Goes event s r k id me then x = (w : List (LineHold Request Reply)) × (a : Act (LineSlot Request Reply Log Right)) × Valid s.homes me.1 a × Becomes stands n (event (get_or s.words k 0)) (now_of stands n s r) (stepped s k x id me.1 w a) × then (get_or s.words k 0) (w, carried_after me.1 a)

  -- what a step allows, whatever event it is
  pub allows : (event : ℕ → Lists Request Reply → Lists Request Reply → Type 0) (slots id : ℕ) (me : Sat Request Reply Log Right) (k : ℕ) (f : ℕ → ℕ) (then : ℕ → Sat Request Reply Log Right → Type 0) → StepIs stands n event slots id me k f then → Allows (Listed stands n) slots id me k f then
  allows event slots id me k f then all s r long at fits = let t = all s r long at fits in (t.0, t.1, t.2, t.3.2.0, t.4)

  -- the words and slots are as they were
  pub unmoved : (event : Lists Request Reply → Lists Request Reply → Type 0) (s : St) (k id : ℕ) (cs : List (ℕ × LineSlot Request Reply Log Right)) (v : List (LineHold Request Reply)) → get_elem? s.views id ≡ some v → (r : Listed stands n s) → event (now_of stands n s r) (now_of stands n s r) → Becomes stands n event (now_of stands n s r) (stepped s k (get_or s.words k 0) id cs v keeps)
  unmoved event s k id cs v at r none_moved = (
    now_of stands n s r,
    none_moved,
    subst (λ (z : List ℕ × List (List (LineHold Request Reply))). IsNow stands n (now_of stands n s r) (record { words = z.0; homes = s.homes; views = z.1 })) (λ i. (sym (set-get_or s.words k 0) i, sym (set_again s.views id v at) i)) (r, refl),
  )

  -- the seat alone moves
  pub reviewed : (s : St) (r : Listed stands n s) (id : ℕ) (h : LineHold Request Reply) (st : LineStage Request Reply) → get_elem? s.views id ≡ some (h ∷ []) → Knows r.line r.hand r.handled r.mode r.phase r.due h.client st → Recalls r.account.events st
      → IsNow stands n (now_of stands n s r) (record { words = s.words; homes = s.homes; views = set s.views id (hold_at h.client st h.mine h.back ∷ []) })
  reviewed s r id h st at knows recalls =
      let mine = (r.seats id (h ∷ []) at).0 in (
        record {
          line = r.line;
          hand = r.hand;
          handled = r.handled;
          mode = r.mode;
          phase = r.phase;
          due = r.due;
          told = r.told;
          seat = r.seat;
          few = r.few;
          nobody = r.nobody;
          wide = r.wide;
          many = r.many;
          newest_is = r.newest_is;
          links = r.links;
          distinct = r.distinct;
          within = r.within;
          stand = r.stand;
          rows = r.rows;
          log_is = r.log_is;
          one_chosen = r.one_chosen;
          account = r.account;
          has_cut = r.has_cut;
          owing_is = r.owing_is;
          second = r.second;
          two = r.two;
          kept = r.kept;
          coded = r.coded;
          shared_out = r.shared_out;
          seats = λ j x e. ⊎_elim
              (λ (t : (j ≡ id) × (hold_at h.client st h.mine h.back ∷ [] ≡ x)). subst (λ (z : ℕ × List (LineHold Request Reply)). AllFit n r.line r.hand r.handled r.mode r.phase r.due r.told r.two r.account.events r.seat z.0 z.1) (λ i. (sym t.0 i, t.1 i)) ((mine.0, mine.1, mine.2, mine.3, knows, mine.5, recalls), tt))
              (λ (t : (j ≢ id) × (get_elem? s.views j ≡ some x)). r.seats j x t.1)
              (at_set s.views id j (hold_at h.client st h.mine h.back ∷ []) x e);
        },
        refl,
      )
