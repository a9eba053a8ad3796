-- The steps of a leader: that each keeps the rule, and which event it is.
use Rattle.std.proofs.Common.{◌≡◌, ◌≢◌, ℕ, suc, ◌+◌, ◌<◌, ◌≤◌, List, [], ◌∷◌, ◌++◌, length, get_or, set, refl, sym, ap, ◌∙◌, subst, inl, inr, arith, length-set, append_assoc}
use mathlib.Core.Logic.{dite}
use mathlib.Core.Path.{Path}
use mathlib.Core.Option.{none, some}
use native.Mathlib.Decide.{ℕ_discrete}
use lib.ListN.{get_elem?}
use lib.Seq.{set-get_or}
use Rattle.atomic_table.specs.Table.{step, keeps, takes, stepped, Allows}
use Rattle.atomic_table.proofs.Lists.{set_else}
use Rattle.line_rule.specs.declared.view.QueuedWriter.{QueuedWriter}
use Rattle.line_rule.specs.declared.view.Handling.{Handling}
use Rattle.line_rule.specs.declared.view.Lead.{Lead}
use Rattle.line_rule.specs.declared.view.LineHold.{LineHold}
use Rattle.line_rule.specs.declared.content.LineSlot.TheVariants.{Asked}
use Rattle.line_rule.specs.declared.view.Back.TheVariants.{Serving}
use Rattle.line_rule.specs.declared.view.LineStage.{LineStage}
use Rattle.line_rule.specs.declared.view.LineStage.TheVariants.{Stalling, Idle, Preparing, Waiting, Helping, Fresh, Leading, Cutting, Marking, Settling, Collecting}
use Rattle.line_rule.specs.Chain.{AllCoded, state_at, older_at, newest_from, LinksFrom, Absent, Distinct, Within, EndsWith}
use Rattle.line_rule.specs.Standing.{held, calm, dismissed, dropped, Phase, idle, preparing, linked, chosen, leads, taken, completed, collecting, Mode, waits, led, built, base_of, Holds, flat}
use Rattle.line_rule.specs.Laws.{Laws}
use Rattle.line_rule.specs.Rule.{InChain, Stand, Waits, AllLinked, AllTaken, Knows, hold, hold_at, InPhase, InMode, Listed, InSecond, due_untold}
use Rattle.line_rule.proofs.Fitting.{split_group}
use Rattle.line_rule.specs.Events.{LineEvent, builds, Core, Legal}
use Rattle.line_rule.specs.SecondList.{second_list_of}
use Rattle.line_rule.specs.Steps.{Stays, IsBuild, now_of, IsNow, Becomes, StepIs}
use Rattle.line_rule.specs.Plays.{Sat, lead_at_build, At, lead_with_walk, lead_with_one_more, in_hand, AllBelow, Walks, Builds, ReadsQueue, SeesTo, after_build, after_read_older, after_fetch}
use Rattle.line_rule.proofs.Chains.{put, put_at, put_here, put_else, links_same, ends_same, stand_change, linked_change, taken_change}
use Rattle.line_rule.proofs.Exits.{owing_stays}
use Rattle.line_rule.proofs.Accounts.{builds_now, stays_now}
use Rattle.line_rule.proofs.Moves.{St, row_stays, knows_stays, knows_else, recalls_more, reviewed, moved, allows, unmoved}
use Rattle.line_rule.proofs.Keeps.{second_same}
use Rattle.std.proofs.lemmas.List.{append_cancel_right}
use Rattle.line_rule.proofs.Groups.{links_at, walk_bound, distinct_apart, distinct_back, within_at, linked_at, linked_front, linked_absent}
use Rattle.line_rule.proofs.Enters.{one_hold}
use Rattle.line_rule.proofs.Pauses.{first_calm}

last_or : {A : Type 0} → A → List A → A
last_or d [] = d
last_or d (x ∷ xs) = last_or x xs

last_or-snoc : {A : Type 0} (d : A) (xs : List A) (x : A) → last_or d (xs ++ x ∷ []) ≡ x
unfolding last_or
last_or-snoc d [] x = refl
last_or-snoc d (y ∷ ys) x = last_or-snoc y ys x

pub same_last : {A : Type 0} (a b : List A) (x y : A) → a ++ x ∷ [] ≡ b ++ y ∷ [] → x ≡ y
same_last a b x y e = sym (last_or-snoc x a x) ∙ (ap (last_or x) e ∙ last_or-snoc x b y)

pub middle : {A : Type 0} (a b : List A) (x : A) (c : List A) → (a ++ b) ++ x ∷ c ≡ a ++ (b ++ x ∷ c)
middle a b x c = append_assoc a b (x ∷ c)

pub snoc : {A : Type 0} (a : List A) (x : A) (c : List A) → (a ++ x ∷ []) ++ c ≡ a ++ x ∷ c
snoc a x c = append_assoc a (x ∷ []) c

pub one_leads : {Request Reply : Type 0} (e f : QueuedWriter Request) → Path (Phase Request Reply) (leads e) (leads f) → e ≡ f
one_leads e f is = cc

module _ {Request Reply : Type 0} where
  -- a client whose request is in the list or in hand waits
  abbrev pub IsQueued : Phase Request Reply → Type 0
  IsQueued idle = ⊥
  IsQueued (preparing w) = ⊥
  IsQueued (linked e) = Unit {0}
  IsQueued (chosen e) = ⊥
  IsQueued (leads e) = ⊥
  IsQueued (taken l e) = Unit {0}
  IsQueued (completed q p) = ⊥
  IsQueued (held c e) = Unit {0}
  IsQueued (dropped c e p) = Unit {0}
  IsQueued (dismissed q p) = ⊥
  IsQueued collecting = ⊥

  pub still_waits : (line line' hand hand' : List (QueuedWriter Request)) (handled handled' : List (Handling Request Reply)) (mode mode' : Mode Request) (phase phase' : ℕ → Phase Request Reply) (due due' : ℕ → List (Request × Reply)) (k : ℕ) (ph : Phase Request Reply) → phase k ≡ ph → IsQueued ph
      → ((q : Request) → Waits q ph → Waits q (phase' k)) → ((x : Request × Reply) → due k ≡ x ∷ [] → due' k ≡ x ∷ []) → (st : LineStage Request Reply) → Knows line hand handled mode phase due k st → Knows line' hand' handled' mode' phase' due' k st
  still_waits line line' hand hand' handled handled' mode mode' phase phase' due due' k ph now queued to keep Idle ok = absurd (subst IsQueued (sym now ∙ ok) queued)
  still_waits line line' hand hand' handled handled' mode mode' phase phase' due due' k ph now queued to keep (Preparing w) ok = absurd (subst IsQueued (sym now ∙ ok) queued)
  still_waits line line' hand hand' handled handled' mode mode' phase phase' due due' k ph now queued to keep (Waiting q past) ok = to q (subst (Waits q) now ok)
  still_waits line line' hand hand' handled handled' mode mode' phase phase' due due' k ph now queued to keep (Helping q) ok = (to q (subst (Waits q) now ok.0), (ok.1.0, keep (q, ok.1.0) ok.1.1))
  still_waits line line' hand hand' handled handled' mode mode' phase phase' due due' k ph now queued to keep (Fresh o n) ok = absurd (subst IsQueued (sym now ∙ ok.1) queued)
  still_waits line line' hand hand' handled handled' mode mode' phase phase' due due' k ph now queued to keep (Leading lead) ok = absurd (subst IsQueued (sym now ∙ ok.1) queued)
  still_waits line line' hand hand' handled handled' mode mode' phase phase' due due' k ph now queued to keep (Stalling lead t) ok = absurd (subst IsQueued (sym now ∙ ok.1) queued)
  still_waits line line' hand hand' handled handled' mode mode' phase phase' due due' k ph now queued to keep (Cutting lead e) ok = absurd (subst IsQueued (sym now ∙ ok.1) queued)
  still_waits line line' hand hand' handled handled' mode mode' phase phase' due due' k ph now queued to keep (Marking lead) ok = absurd (subst IsQueued (sym now ∙ ok.1) queued)
  still_waits line line' hand hand' handled handled' mode mode' phase phase' due due' k ph now queued to keep (Settling d) ok = absurd (subst IsQueued (sym now ∙ ok.1) queued)
  still_waits line line' hand hand' handled handled' mode mode' phase phase' due due' k ph now queued to keep Collecting ok = absurd (subst IsQueued (sym now ∙ ok) queued)

  abbrev pub lead_in : Lead Request Reply → LineStage Request Reply → Lead Request Reply
  lead_in d Idle = d
  lead_in d (Preparing w) = d
  lead_in d (Waiting q past) = d
  lead_in d (Helping q) = d
  lead_in d (Fresh o n) = d
  lead_in d (Leading l) = l
  lead_in d (Stalling l t) = l
  lead_in d (Cutting l e) = l
  lead_in d (Marking l) = l
  lead_in d (Settling b) = d
  lead_in d Collecting = d

  pub one_lead : (a b : Lead Request Reply) → Path (LineStage Request Reply) (Leading a) (Leading b) → a ≡ b
  one_lead a b e = ap (lead_in a) e

module _ {Request Reply : Type 0} where
  abbrev fresh_entry : QueuedWriter Request → LineStage Request Reply → QueuedWriter Request
  fresh_entry d Idle = d
  fresh_entry d (Preparing w) = d
  fresh_entry d (Waiting q past) = d
  fresh_entry d (Helping q) = d
  fresh_entry d (Fresh o s) = o
  fresh_entry d (Leading l) = d
  fresh_entry d (Stalling l t) = d
  fresh_entry d (Cutting l e) = d
  fresh_entry d (Marking l) = d
  fresh_entry d (Settling b) = d
  fresh_entry d Collecting = d

  abbrev fresh_seen : List (Handling Request Reply) → LineStage Request Reply → List (Handling Request Reply)
  fresh_seen d Idle = d
  fresh_seen d (Preparing w) = d
  fresh_seen d (Waiting q past) = d
  fresh_seen d (Helping q) = d
  fresh_seen d (Fresh o s) = s
  fresh_seen d (Leading l) = d
  fresh_seen d (Stalling l t) = d
  fresh_seen d (Cutting l e) = d
  fresh_seen d (Marking l) = d
  fresh_seen d (Settling b) = d
  fresh_seen d Collecting = d

  pub one_fresh : (a b : QueuedWriter Request) (s t : List (Handling Request Reply)) → Path (LineStage Request Reply) (Fresh a s) (Fresh b t) → (a ≡ b) × (s ≡ t)
  one_fresh a b s t e = (ap (fresh_entry a) e, ap (fresh_seen s) e)

module _ {Request Reply Log Right : Type 0} (stands : Laws Request Reply Log Right) (n : ℕ) where
  -- what the rule says of a leader
  pub record Leads (s : St stands n) (r : Listed stands n s) (c : ℕ) (lead : Lead Request Reply) : Type 0 where
    pub queue : List (QueuedWriter Request)
    pub parts : r.line ≡ queue ++ in_hand lead
    pub queued : AllLinked r.phase queue
    pub members : AllTaken r.phase r.due c lead.taken
    pub own_due : r.due c ≡ []
    pub own_by : lead.own.by ≡ c
    pub base : base_of r.mode ≡ 0
    pub first : get_or s.words 0 0 ≡ newest_from (base_of r.mode) r.line

  pub leader : (s : St stands n) (r : Listed stands n s) (c : ℕ) (lead : Lead Request Reply) → 0 < c → c ≤ n → Knows r.line r.hand r.handled r.mode r.phase r.due c (Leading lead) → Leads s r c lead
  leader s r c lead lo hi ok =
      let m = subst (InMode stands n s.homes r.line r.hand r.handled r.phase r.due) ok.0 r.log_is in
      let same : m.0.1 ≡ lead.own = one_leads m.0.1 lead.own (sym m.0.4 ∙ ok.1) in
      record {
        queue = m.0.0;
        parts = m.0.2 ∙ (λ i. m.0.0 ++ (sym ok.4 i ++ same i ∷ []));
        queued = m.0.3;
        members = subst (AllTaken r.phase r.due c) (sym ok.4) m.1;
        own_due = m.2;
        base = ap base_of ok.0;
        first = first_calm s.words r.line r.mode (built c lead.group calm) ok.0 refl r.newest_is;
        own_by = subst (InPhase stands s.words s.homes c (r.due c)) ok.1 (r.rows c lo hi);
      }

  pub all_below : (slots : ℕ) (es : List (QueuedWriter Request)) → suc n < slots → Within n es → AllBelow slots es
  all_below slots [] h ok = tt
  all_below slots (e ∷ es) h ok = let a = ok.1 in (ok.0, omega arith, all_below slots es h ok.2)

  -- a load by a leader that reads the list anew
  pub walks_now : (slots id : ℕ) (me : Sat Request Reply Log Right) (c : ℕ) (lead : Lead Request Reply) (mine : List (Request × Reply)) → At c (Leading lead) mine me → (s : St stands n) (r : Listed stands n s) → get_elem? s.views id ≡ some me.0
      → length s.homes ≡ slots → (w : List (LineHold Request Reply)) × Becomes stands n Stays (now_of stands n s r) (stepped s 0 (get_or s.words 0 0) id me.1 w keeps) × Walks slots c lead mine (get_or s.words 0 0) me (w, me.1)
  walks_now slots id me c lead mine mid s r at long =
      let h : LineHold Request Reply = hold c (Leading lead) mine in
      let at' : get_elem? s.views id ≡ some (h ∷ []) = at ∙ ap some mid in
      let fit = (r.seats id (h ∷ []) at').0 in
      let k = leader s r c lead fit.1 fit.2 fit.4 in
      let now : List (QueuedWriter Request) = k.queue ++ in_hand lead in
      let w : List (LineHold Request Reply) = hold c (Leading (lead_with_walk lead now)) mine ∷ [] in (
        w,
        (
          now_of stands n s r,
          refl,
          subst (λ (z : List ℕ). IsNow stands n (now_of stands n s r) (record { words = z; homes = s.homes; views = set s.views id w })) (sym (set-get_or s.words 0 0))
              (reviewed stands n s r id h (Leading (lead_with_walk lead now)) at' (fit.4.0, fit.4.1, ([], k.parts), fit.4.3, fit.4.4) fit.6),
        ),
        (
          k.queue,
          refl,
          refl,
          k.first ∙ (λ i. newest_from (k.base i) (k.parts i)),
          (let b = walk_bound n now (subst (Within n) k.parts r.within) (subst Distinct k.parts r.distinct) in let m = r.many in omega arith),
          all_below slots now (let m = r.many in omega arith) (subst (Within n) k.parts r.within),
        ),
      )

  pub coded_in : (s : St stands n) (r : Listed stands n s) (es : List (QueuedWriter Request)) → Stand r.phase es → AllCoded stands.asks es
  coded_in s r [] ok = tt
  coded_in s r (e ∷ es) ok = (r.coded e.by e ok.0, coded_in s r es ok.1)

  all_coded : (s : St stands n) (r : Listed stands n s) (front es : List (QueuedWriter Request)) → Stand r.phase (front ++ es) → AllCoded stands.asks es
  all_coded s r [] es ok = coded_in s r es ok
  all_coded s r (f ∷ front) es ok = all_coded s r front es ok.1

  -- the leader reads the queue, and so builds its group
  pub reads_is : (slots id : ℕ) (me : Sat Request Reply Log Right) (c : ℕ) (own0 : QueuedWriter Request) (seen : List (Handling Request Reply)) (mine : List (Request × Reply)) → At c (Fresh own0 seen) mine me → StepIs stands n (λ _. IsBuild stands.bound own0) slots id me 0 (λ y. y) (after_build stands.asks stands.bound (step slots 0 0 0 none) me)
  reads_is slots id me c o seen mine mid s r long at fits =
      let h : LineHold Request Reply = hold c (Fresh o seen) mine in
      let at' : get_elem? s.views id ≡ some (h ∷ []) = at ∙ ap some mid in
      let fit = (r.seats id (h ∷ []) at').0 in
      let led_c : r.mode ≡ led c = fit.4.0 in
      let m = subst (InMode stands n s.homes r.line r.hand r.handled r.phase r.due) led_c r.log_is in
      let same_o : m.0.1 ≡ o = one_leads m.0.1 o (sym m.0.4 ∙ fit.4.1) in
      let queue : List (QueuedWriter Request) = m.0.0 in
      let cuts = split_group stands.bound o queue in
      let left : List (QueuedWriter Request) = cuts.0 in
      let group : List (QueuedWriter Request) = cuts.1 in
      let now : List (QueuedWriter Request) = left ++ (group ++ o ∷ []) in
      let parts : r.line ≡ now = m.0.2 ∙ ((λ i. cuts.2 i ++ same_o i ∷ []) ∙ append_assoc left group (o ∷ [])) in
      let past : List (LineEvent Request Reply) = builds stands.bound o group left ∷ r.account.events in
      let lead : Lead Request Reply = lead_at_build o seen past now group in
      let w : List (LineHold Request Reply) = hold c (Leading lead) mine ∷ [] in
      let by_c : o.by ≡ c = ap (λ (e : QueuedWriter Request). e.by) (sym same_o) ∙ m.0.5 in
      let base : base_of r.mode ≡ 0 = ap base_of led_c in
      let ph : Phase Request Reply = leads o in
      let here : put r.phase c ph c ≡ ph = put_here r.phase c ph in
      let ws : List ℕ = set s.words 0 (get_or s.words 0 0) in
      let acc = builds_now stands.bound r.line r.handled r.mode r.account c o group left led_c by_c parts cuts.3 in
      let same : (j : ℕ) → get_or ws j 0 ≡ get_or s.words j 0 = λ j. ap (λ (l : List ℕ). get_or l j 0) (set-get_or s.words 0 0) in (
        w,
        keeps,
        tt,
        (
          ((acc.0.queue, acc.0.log, r.handled, acc.0.owing), second_list_of r.two),
          (group, left, (acc.1, refl)),
          moved stands n s r c id ws s.homes h (hold c (Leading lead) mine) r.line r.hand r.handled (built c group calm) ph r.due r.told r.two record {
            at = at';
            real = fit.1;
            same_client = refl;
            wide = length-set s.words 0 (get_or s.words 0 0);
            many = refl;
            newest_is = same 0 ∙ (first_calm s.words r.line r.mode (led c) led_c refl r.newest_is ∙ ap (λ b. newest_from b r.line) base);
            links = links_same 0 s.words ws r.line (λ j. same (older_at j)) (subst (λ b. LinksFrom b s.words r.line) base r.links);
            distinct = r.distinct;
            within = r.within;
            stand = stand_change r.phase c ph r.line (λ e is_in. subst (InChain e) fit.4.1 is_in) r.stand;
            other_rows = λ j ne _ _. row_stays stands n s.words ws s.homes s.homes j (r.due j) (same (state_at j)) (same (older_at j)) refl (r.phase j);
            row = by_c;
            log_is = (
              (queue, o, m.0.2 ∙ (λ i. queue ++ (sym m.1 i ++ same_o i ∷ [])), linked_change r.phase c ph queue (λ e bad. absurd (cc)) m.0.3, here, by_c),
              subst (AllTaken (put r.phase c ph) r.due c) (sym m.1) tt,
              m.2,
            );
            one_chosen = λ j e. put_at r.phase c ph (λ i g. g ≡ chosen e → Path (Mode Request) (built c group calm) (waits i)) j (λ _ bad. absurd (cc)) (λ _ ok. let was : r.mode ≡ waits j = r.one_chosen j e ok in absurd (cc));
            kept = r.kept;
            coded = λ e is. r.coded c e (subst (InChain e) (sym fit.4.1) is);
            account = acc.0;
            goes_on = (builds stands.bound o group left ∷ [], acc.2);
            recalls = ([], acc.2);
            has_cut = tt;
            owing_is = owing_stays r.phase r.due r.account.owing r.owing_is acc.0.owing r.due c ph (ap (λ (y : Core Request Reply). y.3) acc.1.1) (ap (λ f. due_untold f (r.due c)) (sym fit.4.1)) (λ _ _. refl);
            second = second_same stands n s.words ws s.homes s.homes r.phase c ph r.mode (built c group calm) (stands.given r.handled) (stands.given r.handled) r.two (inl fit.4.1) (λ j _. same j) refl (λ k h. inr (ap r.two.place (sym h) ∙ fit.5.0)) (λ k h. inl (subst (Holds k) (sym led_c) h)) (λ k _ h. subst (Holds k) led_c h) (λ v. v) r.second;
            back = fit.5;
            else_back = λ _ _ _ ok. ok;
            shared_out = r.shared_out;
            told_else = λ _ _. refl;
            mine = fit.3;
            knows = (refl, here, ([], parts), fit.4.2, sym m.1);
            others = λ j ne. knows_else stands n r.line r.line r.hand r.handled r.mode (built c group calm) r.phase r.due r.due c ph j ne (ends_same r.line) (λ h. absurd (ne (sym (subst (Holds j) led_c h)))) (λ e bad. absurd (cc)) (λ e bad. absurd (cc)) (λ _ _. refl) (λ e x bad. absurd (cc));
          },
        ),
        λ c' o' seen' mine' mid'. let e = one_hold c c' (Fresh o seen) (Fresh o' seen') mine mine' me.0 mid mid' in
            let f = one_fresh o o' seen seen' e.1 in
            subst (λ (z : ℕ × QueuedWriter Request × List (Handling Request Reply) × List (Request × Reply)). Builds stands.asks slots stands.bound z.0 z.1 z.2 z.3 (get_or s.words 0 0) me (w, me.1)) (λ i. (e.0 i, f.0 i, f.1 i, e.2 i)) (
              left,
              group,
              past,
              refl,
              refl,
              (cuts.3, distinct_back left (group ++ o ∷ []) (subst Distinct parts r.distinct), all_coded s r left (group ++ o ∷ []) (subst (Stand r.phase) parts r.stand)),
              (r.account.events, r.account.owing, refl, subst (Legal stands.bound) acc.2 acc.0.legal, r.account.ran ∙ (λ i. (acc.1.0.1 i, acc.1.0.0 i, sym fit.4.2 i, r.account.owing))),
              first_calm s.words r.line r.mode (led c) led_c refl r.newest_is ∙ (λ i. newest_from (base i) (parts i)),
              (let b = walk_bound n now (subst (Within n) parts r.within) (subst Distinct parts r.distinct) in let m = r.many in omega arith),
              all_below slots now (let m = r.many in omega arith) (subst (Within n) parts r.within),
            ),
      )

  pub reads : (slots id : ℕ) (me : Sat Request Reply Log Right) (c : ℕ) (own0 : QueuedWriter Request) (seen : List (Handling Request Reply)) (mine : List (Request × Reply)) → At c (Fresh own0 seen) mine me → Allows (Listed stands n) slots id me 0 (λ y. y) (after_build stands.asks stands.bound (step slots 0 0 0 none) me)
  reads slots id me c o seen mine mid = allows stands n (λ _. IsBuild stands.bound o) slots id me 0 (λ y. y) (after_build stands.asks stands.bound (step slots 0 0 0 none) me) (reads_is slots id me c o seen mine mid)

  pub reads_as : (asked : Request → ℕ → Type 0) → stands.asks ≡ asked → (max : ℕ) → stands.bound ≡ max → (slots id : ℕ) (me : Sat Request Reply Log Right) (c : ℕ) (own0 : QueuedWriter Request) (seen : List (Handling Request Reply)) (mine : List (Request × Reply)) → At c (Fresh own0 seen) mine me → Allows (Listed stands n) slots id me 0 (λ y. y) (after_build asked max (step slots 0 0 0 none) me)
  reads_as asked is max is_max slots id me c o seen mine mid =
      subst (λ z. Allows (Listed stands n) slots id me 0 (λ y. y) (after_build asked z (step slots 0 0 0 none) me)) is_max (subst (λ z. Allows (Listed stands n) slots id me 0 (λ y. y) (after_build z stands.bound (step slots 0 0 0 none) me)) is (reads slots id me c o seen mine mid))

  -- what a leader has read of the queue is its older end
  sees_queue : (s : St stands n) (r : Listed stands n s) (id c : ℕ) (stage : LineStage Request Reply) (mine : List (Request × Reply)) (walk : List (QueuedWriter Request)) → get_elem? s.views id ≡ some (hold c stage mine ∷ []) → ReadsQueue stage walk → (base_of r.mode ≡ 0) × EndsWith r.line walk
  sees_queue s r id c Idle mine walk at is = absurd is
  sees_queue s r id c (Preparing w) mine walk at is = absurd is
  sees_queue s r id c (Waiting q past) mine walk at is = absurd is
  sees_queue s r id c (Helping q) mine walk at is = absurd is
  sees_queue s r id c (Fresh own seen) mine walk at is = absurd is
  sees_queue s r id c (Leading lead) mine walk at is = let fit = (r.seats id (hold c (Leading lead) mine ∷ []) at).0 in (ap base_of fit.4.0, subst (EndsWith r.line) is fit.4.2)
  sees_queue s r id c (Stalling lead t) mine walk at is = let fit = (r.seats id (hold c (Stalling lead t) mine ∷ []) at).0 in (ap base_of fit.4.0, subst (EndsWith r.line) is fit.4.2)
  sees_queue s r id c (Cutting lead e) mine walk at is = absurd is
  sees_queue s r id c (Marking lead) mine walk at is = absurd is
  sees_queue s r id c (Settling debt) mine walk at is = absurd is
  sees_queue s r id c Collecting mine walk at is = absurd is

  -- the walk is the older end of a chain of links
  sees_chain : (s : St stands n) (r : Listed stands n s) (id : ℕ) (me : Sat Request Reply Log Right) → get_elem? s.views id ≡ some me.0 → (end c : ℕ) (walk : List (QueuedWriter Request)) → SeesTo end c me walk → (chain : List (QueuedWriter Request)) × LinksFrom end s.words chain × EndsWith chain walk
  sees_chain s r id me at end c walk (inl h) =
      let q = sees_queue s r id c h.1.0 h.1.1 walk (at ∙ ap some h.1.2) h.1.3 in
      (r.line, subst (λ b. LinksFrom b s.words r.line) (q.0 ∙ sym h.0) r.links, q.1)
  sees_chain s r id me at end c walk (inr (inl h)) =
      let fit = (r.seats id (hold_at c (Marking h.1.0) h.1.1 h.1.2 ∷ []) (at ∙ ap some h.1.3)).0 in
      (r.line, subst (λ b. LinksFrom b s.words r.line) (ap base_of fit.4.0 ∙ sym h.0) r.links, subst (EndsWith r.line) h.1.4 fit.4.2)
  sees_chain s r id me at end c walk (inr (inr h)) =
      let fit = (r.seats id (hold_at c h.1.0 h.1.1 (Serving h.1.2 walk) ∷ []) (at ∙ ap some h.1.3)).0 in
      (flat r.two.groups, subst (λ b. LinksFrom b s.words (flat r.two.groups)) (sym h.0) r.second.links, fit.5.3)

  pub traces_is : (slots id : ℕ) (me : Sat Request Reply Log Right) (k : ℕ) → StepIs stands n (λ _. Stays) slots id me k (λ y. y) (after_read_older (step slots k 0 0 none) me)
  traces_is slots id me k s r long at fits = (
    me.0,
    keeps,
    tt,
    unmoved stands n Stays s k id me.1 me.0 at r refl,
    (
      refl,
      λ end c walk pre x post sees is_walk is_word.
          let at_end = sees_chain s r id me at end c walk sees in
          let ends = at_end.2 in
          let parts : at_end.0 ≡ (ends.0 ++ pre) ++ x ∷ post = ends.1 ∙ (ap (λ l. ends.0 ++ l) is_walk ∙ sym (middle ends.0 pre x post)) in
          ap (λ (j : ℕ). get_or s.words j 0) is_word ∙ links_at end s.words (ends.0 ++ pre) x post (subst (LinksFrom end s.words) parts at_end.1),
    ),
  )

  pub traces : (slots id : ℕ) (me : Sat Request Reply Log Right) (k : ℕ) → Allows (Listed stands n) slots id me k (λ y. y) (after_read_older (step slots k 0 0 none) me)
  traces slots id me k = allows stands n (λ _. Stays) slots id me k (λ y. y) (after_read_older (step slots k 0 0 none) me) (traces_is slots id me k)

  pub fetches_is : (slots id : ℕ) (me : Sat Request Reply Log Right) (c k : ℕ) (lead : Lead Request Reply) (mine : List (Request × Reply)) (pre : List (QueuedWriter Request)) (x : QueuedWriter Request) → At c (Leading lead) mine me → lead.walk ≡ pre ++ x ∷ in_hand lead → k ≡ older_at x.by
      → StepIs stands n (λ _. Stays) slots id me k (λ y. y) (after_fetch (step slots k 0 0 none) me)
  fetches_is slots id me c k lead mine pre x mid is_walk is_word s r long at fits =
      let h : LineHold Request Reply = hold c (Leading lead) mine in
      let at' : get_elem? s.views id ≡ some (h ∷ []) = at ∙ ap some mid in
      let fit = (r.seats id (h ∷ []) at').0 in
      let f = leader s r c lead fit.1 fit.2 fit.4 in
      let H : List (QueuedWriter Request) = in_hand lead in
      let ends = fit.4.2 in
      let q : List (QueuedWriter Request) = ends.0 ++ pre in
      let parts : r.line ≡ q ++ x ∷ H = ends.1 ∙ (ap (λ l. ends.0 ++ l) is_walk ∙ sym (middle ends.0 pre x H)) in
      let is_queue : f.queue ≡ q ++ x ∷ [] = append_cancel_right f.queue (q ++ x ∷ []) H (sym f.parts ∙ (parts ∙ sym (snoc q x H))) in
      let queued : AllLinked r.phase (q ++ x ∷ []) = subst (AllLinked r.phase) is_queue f.queued in
      let now : r.phase x.by ≡ linked x = linked_at r.phase q x [] queued in
      let range = within_at n q x H (subst (Within n) parts r.within) in
      let lo : 0 < x.by = range.0 in
      let hi : x.by ≤ n = range.1 in
      let row = subst (InPhase stands s.words s.homes x.by (r.due x.by)) now (r.rows x.by lo hi) in
      let apart : Absent x.by q = distinct_apart q x H (subst Distinct parts r.distinct) in
      let led_c : r.mode ≡ built c lead.group calm = fit.4.0 in
      let mine_now : r.phase c ≡ leads lead.own = fit.4.1 in
      let other : c ≢ x.by = λ e. let bad : leads lead.own ≡ linked x = sym mine_now ∙ (ap r.phase e ∙ now) in absurd (cc) in
      let ws : List ℕ = set s.words k (get_or s.words k 0) in
      let hs = set s.homes x.by none in
      let same : (j : ℕ) → get_or ws j 0 ≡ get_or s.words j 0 = λ j. ap (λ (l : List ℕ). get_or l j 0) (set-get_or s.words k 0) in
      let ph : Phase Request Reply = taken c x in
      let here : put r.phase x.by ph x.by ≡ ph = put_here r.phase x.by ph in
      let h' : LineHold Request Reply = hold c (Leading (lead_with_one_more lead x)) mine in
      let no_taken : (l : ℕ) (e : QueuedWriter Request) → r.phase x.by ≡ taken l e → ⊥ = λ l e bad. absurd (cc) in
      let acc = stays_now stands.bound r.line r.handled r.mode r.account (built c lead.group calm) led_c in (
        h' ∷ [],
        takes x.by (Asked x.asked),
        row.2,
        (
          ((acc.0.queue, acc.0.log, r.handled, acc.0.owing), second_list_of r.two),
          (λ i. (acc.1 i, second_list_of r.two)),
          moved stands n s r x.by id ws hs h h' r.line (x ∷ r.hand) r.handled (built c lead.group calm) ph r.due r.told r.two record {
            at = at';
            real = lo;
            same_client = refl;
            wide = length-set s.words k (get_or s.words k 0);
            many = length-set s.homes x.by none;
            newest_is = same 0 ∙ (f.first ∙ ap (λ b. newest_from b r.line) f.base);
            links = links_same 0 s.words ws r.line (λ j. same (older_at j)) (subst (λ b. LinksFrom b s.words r.line) f.base r.links);
            distinct = r.distinct;
            within = r.within;
            stand = stand_change r.phase x.by ph r.line (λ e is_in. subst (InChain e) now is_in) r.stand;
            other_rows = λ j ne lo' _. row_stays stands n s.words ws s.homes hs j (r.due j) (same (state_at j)) (same (older_at j)) (set_else s.homes x.by j none ne) (r.phase j);
            row = (row.0, (λ e. let one : get_or s.words (state_at x.by) 0 ≡ 1 = row.1 in let e' = sym (same (state_at x.by)) ∙ e in absurd (omega arith)), (λ e. let one : get_or s.words (state_at x.by) 0 ≡ 1 = row.1 in let e' = sym (same (state_at x.by)) ∙ e in absurd (omega arith)), (λ e. let one : get_or s.words (state_at x.by) 0 ≡ 1 = row.1 in let e' = sym (same (state_at x.by)) ∙ e in absurd (omega arith)));
            log_is = (
              (q, lead.own, parts ∙ (λ i. q ++ x ∷ (fit.4.4 i ++ lead.own ∷ [])), linked_absent r.phase x.by ph q apart (linked_front r.phase q (x ∷ []) queued), put_else r.phase x.by ph c other ∙ mine_now, f.own_by),
              (here, row.3, taken_change r.phase r.due r.due x.by ph c r.hand (λ e bad. absurd (no_taken c e bad)) (λ _ _. refl) (subst (AllTaken r.phase r.due c) fit.4.4 f.members)),
              f.own_due,
            );
            one_chosen = λ j e. put_at r.phase x.by ph (λ i g. g ≡ chosen e → Path (Mode Request) (built c lead.group calm) (waits i)) j (λ _ bad. absurd (cc)) (λ _ ok. sym led_c ∙ r.one_chosen j e ok);
            kept = r.kept;
            coded = λ e is. r.coded x.by e (subst (InChain e) (sym now) is);
            account = acc.0;
            goes_on = ([], acc.2);
            recalls = recalls_more r.account.events acc.0.events ([], acc.2) (Leading lead) fit.6;
            has_cut = tt;
            owing_is = owing_stays r.phase r.due r.account.owing r.owing_is acc.0.owing r.due x.by ph (ap (λ (y : Core Request Reply). y.3) acc.1) (ap (λ f. due_untold f (r.due x.by)) (sym now)) (λ _ _. refl);
            second = second_same stands n s.words ws s.homes hs r.phase x.by ph r.mode (built c lead.group calm) (stands.given r.handled) (stands.given r.handled) r.two (inr (λ there. subst (InSecond r.two.place x.by) now there)) (λ j _. same j) (set_else s.homes x.by (n + 1) none (λ e. omega arith)) (λ k h. inr (ap r.two.place (sym h) ∙ fit.5.0)) (λ k h. inl (subst (Holds k) (sym led_c) h)) (λ k _ h. subst (Holds k) led_c h) (λ v. v) r.second;
            back = fit.5;
            else_back = λ _ _ _ ok. ok;
            shared_out = r.shared_out;
            told_else = λ _ _. refl;
            mine = fit.3;
            knows = (refl, put_else r.phase x.by ph c other ∙ mine_now, ends, fit.4.3, ap (λ l. x ∷ l) fit.4.4);
            others = λ j ne. dite (ℕ_discrete j x.by)
                (λ e. subst (λ (i : ℕ). (st : LineStage Request Reply) → Knows r.line r.hand r.handled r.mode r.phase r.due i st → Knows r.line (x ∷ r.hand) r.handled (built c lead.group calm) (put r.phase x.by ph) r.due i st) (sym e)
                (still_waits r.line r.line r.hand (x ∷ r.hand) r.handled r.handled r.mode (built c lead.group calm) r.phase (put r.phase x.by ph) r.due r.due x.by (linked x) now tt (λ u is. subst (Waits u) (sym here) is) (λ _ owed. owed)))
                (λ away. knows_stays stands n r.line r.line r.hand (x ∷ r.hand) r.handled r.handled r.mode (built c lead.group calm) r.phase (put r.phase x.by ph) r.due r.due j (put_else r.phase x.by ph j away)
                (λ h. absurd (ne (sym (subst (Holds j) led_c h))))
                (λ e y is_taken owed. (put_at r.phase x.by ph (λ i g. r.phase i ≡ taken j e → g ≡ taken j e) e.by (λ is t. absurd (no_taken j e (ap r.phase (sym is) ∙ t))) (λ _ t. t) is_taken, owed))
                (λ y owed. owed)
                (λ e y is. put_at r.phase x.by ph (λ i g. r.phase i ≡ dropped j e y → g ≡ dropped j e y) e.by (λ is t. let bad : Path (Phase Request Reply) (linked x) (dropped j e y) = sym now ∙ (ap r.phase (sym is) ∙ t) in absurd (cc)) (λ _ t. t) is));
          },
        ),
        λ c' lead' mine' pre' x' mid' is_walk' is_word'.
            let e = one_hold c c' (Leading lead) (Leading lead') mine mine' me.0 mid mid' in
            let le : lead ≡ lead' = one_lead lead lead' e.1 in
            let two : pre ++ x ∷ H ≡ pre' ++ x' ∷ H = sym is_walk ∙ (ap (λ (l : Lead Request Reply). l.walk) le ∙ (is_walk' ∙ ap (λ (l : Lead Request Reply). pre' ++ x' ∷ in_hand l) (sym le))) in
            let same_x : x ≡ x' = same_last pre pre' x x' (append_cancel_right (pre ++ x ∷ []) (pre' ++ x' ∷ []) H (snoc pre x H ∙ (two ∙ sym (snoc pre' x' H)))) in
            ((λ i. hold (e.0 i) (Leading (lead_with_one_more (le i) (same_x i))) (e.2 i) ∷ []), (λ i. ((same_x i).by, Asked (same_x i).asked) ∷ me.1)),
      )

  pub fetches : (slots id : ℕ) (me : Sat Request Reply Log Right) (c k : ℕ) (lead : Lead Request Reply) (mine : List (Request × Reply)) (pre : List (QueuedWriter Request)) (x : QueuedWriter Request) → At c (Leading lead) mine me → lead.walk ≡ pre ++ x ∷ in_hand lead → k ≡ older_at x.by
      → Allows (Listed stands n) slots id me k (λ y. y) (after_fetch (step slots k 0 0 none) me)
  fetches slots id me c k lead mine pre x mid is_walk is_word = allows stands n (λ _. Stays) slots id me k (λ y. y) (after_fetch (step slots k 0 0 none) me) (fetches_is slots id me c k lead mine pre x mid is_walk is_word)
