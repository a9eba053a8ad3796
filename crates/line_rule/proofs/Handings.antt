-- What a leader's view shows of the lists, in each state in which the rule holds.
use Rattle.std.proofs.Common.{◌≡◌, ◌⊎◌, inl, inr, ℕ, Bool, true, List, [], ◌∷◌, ◌++◌, refl, sym, ap, ◌∙◌, subst}
use Rattle.atomic_table.specs.Table.{State}
use Rattle.line_rule.specs.declared.view.QueuedWriter.{QueuedWriter}
use Rattle.line_rule.specs.declared.view.Handling.{Handling}
use Rattle.line_rule.specs.declared.view.LineHold.{LineHold}
use Rattle.line_rule.specs.declared.view.Lead.{Lead}
use Rattle.line_rule.specs.declared.view.Squad.{Squad}
use Rattle.line_rule.specs.declared.view.Back.{Back}
use Rattle.line_rule.specs.declared.view.Back.TheVariants.{Away, Parting, Joining, Holding, Queued, Serving, Passing}
use Rattle.line_rule.specs.declared.view.LineStage.{LineStage}
use Rattle.line_rule.specs.declared.view.LineStage.TheVariants.{Stalling, Idle, Preparing, Waiting, Helping, Fresh, Leading, Cutting, Marking, Settling, Collecting}
use Rattle.line_rule.specs.declared.content.LineSlot.{LineSlot}
use Rattle.line_rule.specs.Chain.{AllCoded, Absent, newest, Links}
use Rattle.line_rule.specs.Events.{LogHolder, grouped, IsNotWith}
use Rattle.line_rule.specs.Standing.{Phase, linked, chosen, leads, taken, dropped, Mode, open_, waits, led, built, cut, marked, Place, away, parted, queued, called, serves, served, Turn, still, calls, held_by, passes, Two, ahead, line_of, flat, In, InStep, KnowsBack}
use Rattle.line_rule.specs.Laws.{Laws}
use Rattle.line_rule.specs.Rule.{hold_at, InChain, AllGroups, AllTaken, Knows, HasCut, InMode, InPhase, InTurn, Level, Listed, Shows}
use Rattle.line_rule.specs.Plays.{HandsOn, IsCut, debt}
use Rattle.line_rule.specs.SecondList.{served_in, last_served}
use Rattle.line_rule.specs.Steps.{now_of}
use Rattle.line_rule.specs.Handing.{Sees, IsWalked, IsOwn, IsJoined, IsServed, IsNewestGroup, IsOldestGroup}
use Rattle.line_rule.specs.declared.view.Stall.TheVariants.{Owes}
use Rattle.line_rule.proofs.Chains.{stand_absent}
use Rattle.line_rule.proofs.Holding.{few_served}
use Rattle.line_rule.proofs.Groups.{absent_append, absent_front, absent_back, taken_absent}
use Rattle.line_rule.proofs.Leads.{one_leads, coded_in}
use Rattle.line_rule.proofs.Squads.{in_one, behind_in, flat_snoc, with_absent, absent_groups, member_absent, out_of_groups}
use Rattle.line_rule.proofs.Settles.{handled_out, one_taker}
use Rattle.line_rule.proofs.Pauses.{not_with}

module _ {Request Reply : Type 0} where
  -- a leader that gives the log on, in a list with a second one, has its group there, or nothing more was given a run
  pub hands_joined : (last : List (Handling Request Reply) → List (Handling Request Reply)) (b : Back Request Reply) (seen now : List (Handling Request Reply)) → HandsOn true last b seen now → (last now ≡ last seen) ⊎ ((g : Squad Request Reply) × IsJoined g b × (g.to ≡ last now))
  hands_joined last Away seen now h = inl (h refl)
  hands_joined last (Parting g k) seen now h = absurd h
  hands_joined last (Joining g) seen now h = inr (g, refl, h.1)
  hands_joined last (Holding g) seen now h = inr (g, refl, h.1)
  hands_joined last (Queued g) seen now h = absurd h
  hands_joined last (Serving g walk) seen now h = absurd h
  hands_joined last (Passing g x) seen now h = absurd h

  own_cut : (log : LogHolder Request) (line hand : List (QueuedWriter Request)) (handled : List (Handling Request Reply)) (mode : Mode Request) (phase : ℕ → Phase Request Reply) (due : ℕ → List (Request × Reply)) (c : ℕ) (lead : Lead Request Reply) (st : LineStage Request Reply) → IsCut lead st → Knows line hand handled mode phase due c st → HasCut log hand phase mode → log ≡ grouped lead.own lead.taken
  own_cut log line hand handled mode phase due c lead Idle is ok has = absurd is
  own_cut log line hand handled mode phase due c lead (Preparing w) is ok has = absurd is
  own_cut log line hand handled mode phase due c lead (Waiting q past) is ok has = absurd is
  own_cut log line hand handled mode phase due c lead (Helping q) is ok has = absurd is
  own_cut log line hand handled mode phase due c lead (Fresh o n) is ok has = absurd is
  own_cut log line hand handled mode phase due c lead (Leading l) is ok has = absurd is
  own_cut log line hand handled mode phase due c lead (Stalling l t) is ok has = absurd is
  own_cut log line hand handled mode phase due c lead (Cutting l e) is ok has =
      let t = subst (HasCut log hand phase) ok.0 has in
      let same : t.0 ≡ l.own = one_leads t.0 l.own (sym t.2 ∙ ok.1) in
      t.3 ∙ ((λ i. grouped (same i) (sym ok.4 i)) ∙ ap (λ (z : Lead Request Reply). grouped z.own z.taken) is)
  own_cut log line hand handled mode phase due c lead (Marking l) is ok has =
      let t = subst (HasCut log hand phase) ok.0 has in
      let same : t.0 ≡ l.own = one_leads t.0 l.own (sym t.2 ∙ ok.1) in
      t.3 ∙ ((λ i. grouped (same i) (sym ok.4 i)) ∙ ap (λ (z : Lead Request Reply). grouped z.own z.taken) is)
  own_cut log line hand handled mode phase due c lead (Settling b) is ok has = absurd is
  own_cut log line hand handled mode phase due c lead Collecting is ok has = absurd is

module _ {Request Reply : Type 0} where
  -- the place of a leader whose group has joined names the group
  joined_place : (two : Two Request Reply) (c : ℕ) (g : Squad Request Reply) (b : Back Request Reply) → IsJoined g b → KnowsBack two c b → In g (two.place c) × (two.lead ≡ ahead c)
  joined_place two c g Away is ok = absurd is
  joined_place two c g (Parting f k) is ok = absurd is
  joined_place two c g (Joining f) is ok = (subst (λ z. In z (two.place c)) is (behind_in f (two.place c) ok.0), ok.1)
  joined_place two c g (Holding f) is ok = (subst (In g) (sym ok.1) is, ok.2)
  joined_place two c g (Queued f) is ok = absurd is
  joined_place two c g (Serving f walk) is ok = absurd is
  joined_place two c g (Passing f x) is ok = absurd is

  served_place : (two : Two Request Reply) (c : ℕ) (g : Squad Request Reply) (b : Back Request Reply) → IsServed g b → KnowsBack two c b → (two.turn ≡ held_by c) × (two.place c ≡ serves g)
  served_place two c g Away is ok = absurd is
  served_place two c g (Parting f k) is ok = absurd is
  served_place two c g (Joining f) is ok = absurd is
  served_place two c g (Holding f) is ok = (ok.0, ok.1 ∙ ap serves is)
  served_place two c g (Queued f) is ok = absurd is
  served_place two c g (Serving f walk) is ok = (ok.0, ok.1 ∙ ap serves is)
  served_place two c g (Passing f x) is ok = absurd is

module _ {Request Reply Log Right : Type 0} (stands : Laws Request Reply Log Right) (n : ℕ) (s : State (LineSlot Request Reply Log Right) (List (LineHold Request Reply))) (r : Listed stands n s) (id c : ℕ) (st : LineStage Request Reply) (mine : List (Request × Reply)) (b : Back Request Reply) (sees : Sees s id (hold_at c st mine b)) where
  -- the leader that the stage names is the client
  pub own_stage : IsOwn c st
  own_stage = let fit = (r.seats id (hold_at c st mine b ∷ []) sees).0 in by_stage st fit.4 (λ own is. subst (InPhase stands s.words s.homes c (r.due c)) is (r.rows c fit.1 fit.2))
    where
      by_stage : (st : LineStage Request Reply) → Knows r.line r.hand r.handled r.mode r.phase r.due c st → ((own : QueuedWriter Request) → r.phase c ≡ leads own → own.by ≡ c) → IsOwn c st
      by_stage Idle ok own = tt
      by_stage (Preparing w) ok own = tt
      by_stage (Waiting q past) ok own = tt
      by_stage (Helping q) ok own = tt
      by_stage (Fresh o seen) ok own = own o ok.1
      by_stage (Leading l) ok own = own l.own ok.1
      by_stage (Stalling l t) ok own = own l.own ok.1
      by_stage (Cutting l e) ok own = own l.own ok.1
      by_stage (Marking l) ok own = own l.own ok.1
      by_stage (Settling d) ok own = own d.own ok.1
      by_stage Collecting ok own = tt

  -- the log is that group's until it is given on
  pub cut_log : (lead : Lead Request Reply) → IsCut lead st → (now_of stands n s r).0.1 ≡ grouped lead.own lead.taken
  cut_log lead is = let fit = (r.seats id (hold_at c st mine b ∷ []) sees).0 in own_cut r.account.log r.line r.hand r.handled r.mode r.phase r.due c lead st is fit.4 r.has_cut

  level_true : (piped : Bool) → piped ≡ true → Level stands piped r.two (stands.given r.handled) → InStep r.two.done r.two.groups (stands.given r.handled) r.two.lead
  level_true piped is ok = subst (λ p. Level stands p r.two (stands.given r.handled)) is ok

  pub joined_newest : (g : Squad Request Reply) → stands.piped ≡ true → IsJoined g b → IsNewestGroup g s.words
  joined_newest g piped is =
      let fit = (r.seats id (hold_at c st mine b ∷ []) sees).0 in
      let at = joined_place r.two c g b is fit.5 in
      let step = subst (InStep r.two.done r.two.groups (stands.given r.handled)) at.1 (level_true stands.piped piped r.second.in_level) in
      let all = subst (λ gs. AllGroups r.phase r.two.place gs) step.2 r.second.members in
      let same : step.0 ≡ g = in_one step.0 g (r.two.place c) (subst (λ k. In step.0 (r.two.place k)) step.4 all.1) at.0 in
      let whole : flat r.two.groups ≡ line_of g ++ flat step.1 = ap flat step.2 ∙ ap (λ f. line_of f ++ flat step.1) same in
      (step.1, r.second.newest_is ∙ ap newest whole, subst (Links s.words) whole r.second.links)

  pub served_oldest : (g : Squad Request Reply) → IsServed g b → IsOldestGroup g s.words
  served_oldest g is =
      let fit = (r.seats id (hold_at c st mine b ∷ []) sees).0 in
      let at = served_place r.two c g b is fit.5 in
      let turn = subst (InTurn stands n s.words s.homes r.phase r.two) at.0 r.second.turn_is in
      let same : turn.1 ≡ g = in_one turn.1 g (r.two.place c) (subst (In turn.1) (sym turn.3) refl) (subst (In g) (sym at.1) refl) in
      let whole : flat r.two.groups ≡ flat turn.0 ++ line_of g = ap flat turn.2 ∙ (flat_snoc turn.0 turn.1 ∙ ap (λ f. flat turn.0 ++ line_of f) same) in
      (turn.0, r.second.newest_is ∙ ap newest whole, subst (Links s.words) whole r.second.links)

module _ {Request Reply Log Right : Type 0} (stands : Laws Request Reply Log Right) (n : ℕ) (s : State (LineSlot Request Reply Log Right) (List (LineHold Request Reply))) (r : Listed stands n s) (k : ℕ) (y : Request × Reply) (owed : r.due k ≡ y ∷ []) where
  -- a client to which a reply is due isn't of the group in hand
  not_led : (c : ℕ) → r.due c ≡ [] → c ≡ k → ⊥
  not_led c none is = let bad : r.due k ≡ [] = ap r.due (sym is) ∙ none in absurd (cc)

  in_hand_out : (c : ℕ) (own : QueuedWriter Request) → own.by ≡ c → r.due c ≡ [] → AllTaken r.phase r.due c r.hand → r.account.log ≡ grouped own r.hand → IsNotWith k r.account.log
  in_hand_out c own by none members held =
      subst (IsNotWith k) (sym held) ((λ is. not_led c none (sym by ∙ is)), taken_absent r.phase r.due c k r.hand (λ e _ nil. let bad : Path (List (Request × Reply)) (y ∷ []) [] = sym owed ∙ nil in absurd (cc)) members)

  out_of_line : ((e : QueuedWriter Request) → r.phase k ≡ linked e → ⊥) → ((e : QueuedWriter Request) → r.phase k ≡ chosen e → ⊥) → (mode : Mode Request) → InMode stands n s.homes r.line r.hand r.handled r.phase r.due mode → Absent k r.line
  out_of_line no_l no_c mode ok = handled_out stands n s.homes r.line r.hand r.handled r.phase r.due k y owed no_l no_c mode ok

  -- nor is it in the queue
  pub not_queued : ((e : QueuedWriter Request) → r.phase k ≡ linked e → ⊥) → ((e : QueuedWriter Request) → r.phase k ≡ chosen e → ⊥) → Absent k r.account.queue
  not_queued no_l no_c = by_mode r.mode r.account.shows (out_of_line no_l no_c r.mode r.log_is)
    where
      by_mode : (mode : Mode Request) → Shows r.line r.account.queue r.account.log mode → Absent k r.line → Absent k r.account.queue
      by_mode open_ shows out = subst (Absent k) shows.0 out
      by_mode (waits c) shows out = subst (Absent k) shows.0 out
      by_mode (led c) shows out = subst (Absent k) shows.0 out
      by_mode (built c g t) shows out = absent_front k r.account.queue (g ++ shows.0.0 ∷ []) (subst (Absent k) shows.0.1 out)
      by_mode (cut c w) shows out = subst (Absent k) shows.0 out
      by_mode (marked c) shows out = subst (Absent k) shows.0 out

  pub not_held : ((e : QueuedWriter Request) → r.phase k ≡ linked e → ⊥) → ((e : QueuedWriter Request) → r.phase k ≡ chosen e → ⊥) → IsNotWith k r.account.log
  not_held no_l no_c = by_mode r.mode r.log_is r.account.shows r.has_cut
    where
      by_mode : (mode : Mode Request) → InMode stands n s.homes r.line r.hand r.handled r.phase r.due mode → Shows r.line r.account.queue r.account.log mode → HasCut r.account.log r.hand r.phase mode → IsNotWith k r.account.log
      by_mode open_ ok shows has = subst (IsNotWith k) (sym shows.1) tt
      by_mode (waits c) ok shows has = subst (IsNotWith k) (sym shows.1) tt
      by_mode (led c) ok shows has = subst (IsNotWith k) (sym shows.1) (not_led c ok.2)
      by_mode (built c g t) ok shows has =
          let out : Absent k (r.account.queue ++ (g ++ shows.0.0 ∷ [])) = subst (Absent k) shows.0.1 (out_of_line no_l no_c (built c g t) ok) in
          let group : Absent k (g ++ shows.0.0 ∷ []) = absent_back k r.account.queue (g ++ shows.0.0 ∷ []) out in
          subst (IsNotWith k) (sym shows.1) (not_with k shows.0.0 g t ((absent_back k g (shows.0.0 ∷ []) group).0, absent_front k g (shows.0.0 ∷ []) group))
      by_mode (cut c w) ok shows has = in_hand_out c has.0 has.1 ok.2 ok.1 has.3
      by_mode (marked c) ok shows has = in_hand_out c has.0 has.1 ok.3 ok.2 has.3

module _ {Request Reply Log Right : Type 0} (stands : Laws Request Reply Log Right) (n : ℕ) (s : State (LineSlot Request Reply Log Right) (List (LineHold Request Reply))) (r : Listed stands n s) where
  -- the codes of the queue are those of its requests
  pub queue_coded : AllCoded stands.asks (now_of stands n s r).0.0
  queue_coded = by_mode r.mode r.account.shows
    where
      front : (es rest : List (QueuedWriter Request)) → AllCoded stands.asks (es ++ rest) → AllCoded stands.asks es
      front [] rest ok = tt
      front (e ∷ es) rest ok = (ok.0, front es rest ok.1)

      whole : AllCoded stands.asks r.line
      whole = coded_in stands n s r r.line r.stand

      by_mode : (mode : Mode Request) → Shows r.line r.account.queue r.account.log mode → AllCoded stands.asks r.account.queue
      by_mode open_ shows = subst (AllCoded stands.asks) shows.0 whole
      by_mode (waits c) shows = subst (AllCoded stands.asks) shows.0 whole
      by_mode (led c) shows = subst (AllCoded stands.asks) shows.0 whole
      by_mode (built c g t) shows = front r.account.queue (g ++ shows.0.0 ∷ []) (subst (AllCoded stands.asks) shows.0.1 whole)
      by_mode (cut c w) shows = subst (AllCoded stands.asks) shows.0 whole
      by_mode (marked c) shows = subst (AllCoded stands.asks) shows.0 whole

  -- the walk of the second list
  pub walked_is : IsWalked (now_of stands n s r) s.words
  walked_is = (r.two.groups, last_served r.two.place r.two.turn, refl, few_served stands n r.two.place r.two.turn, r.second.newest_is, r.second.links)

module _ {Request Reply Log Right : Type 0} (stands : Laws Request Reply Log Right) (n : ℕ) (s : State (LineSlot Request Reply Log Right) (List (LineHold Request Reply))) (r : Listed stands n s) (id c : ℕ) (mine : List (Request × Reply)) where
  no_place : r.two.place c ≡ away → (g : Squad Request Reply) → In g (r.two.place c) → ⊥
  no_place there g is = subst (In g) there is

  -- a client that is in none of the groups, and not in the one that is served last
  in_neither : (m : ℕ) → Absent m (flat r.two.groups) → ((d : ℕ) (f : Squad Request Reply) → r.two.place d ≡ served f → Absent m (line_of f)) → Absent m (flat (now_of stands n s r).1.0)
  in_neither m out un = absent_both r.two.groups out
    where
      of_place : (p : Place Request Reply) → ((f : Squad Request Reply) → p ≡ served f → Absent m (line_of f)) → Absent m (flat (served_in p))
      of_place away un = tt
      of_place (parted f b) un = tt
      of_place (queued f) un = tt
      of_place (called f) un = tt
      of_place (serves f) un = tt
      of_place (served f) un = absent_append m (line_of f) [] (un f refl) tt

      of_turn : (turn : Turn) → Absent m (flat (last_served r.two.place turn))
      of_turn still = tt
      of_turn (calls k) = tt
      of_turn (held_by k) = tt
      of_turn (passes k w) = of_place (r.two.place k) (un k)

      absent_both : (gs : List (Squad Request Reply)) → Absent m (flat gs) → Absent m (flat (gs ++ last_served r.two.place r.two.turn))
      absent_both [] gone = of_turn r.two.turn
      absent_both (g ∷ gs) gone = absent_append m (line_of g) (flat (gs ++ last_served r.two.place r.two.turn)) (absent_front m (line_of g) (flat gs) gone) (absent_both gs (absent_back m (line_of g) (flat gs) gone))

  -- a client that gets its reply from a leader that is in no list is neither in the queue, nor of the group in hand, nor
  -- in the second list
  pub told_apart : (g : QueuedWriter Request × Reply) (gs : List (QueuedWriter Request × Reply)) (own : QueuedWriter Request) (p : Reply) → Sees s id (hold_at c (Settling (debt (g ∷ gs) own p)) mine Away)
      → Absent g.0.by (now_of stands n s r).0.0 × IsNotWith g.0.by (now_of stands n s r).0.1 × Absent g.0.by (flat (now_of stands n s r).1.0)
  told_apart g gs own p sees =
      let fit = (r.seats id (hold_at c (Settling (debt (g ∷ gs) own p)) mine Away ∷ []) sees).0 in
      let now : r.phase g.0.by ≡ taken c g.0 = fit.4.0.0 in (
        not_queued stands n s r g.0.by (g.0.asked, g.1) fit.4.0.1 (λ e bad. let no : Path (Phase Request Reply) (taken c g.0) (linked e) = sym now ∙ bad in absurd (cc)) (λ e bad. let no : Path (Phase Request Reply) (taken c g.0) (chosen e) = sym now ∙ bad in absurd (cc)),
        not_held stands n s r g.0.by (g.0.asked, g.1) fit.4.0.1 (λ e bad. let no : Path (Phase Request Reply) (taken c g.0) (linked e) = sym now ∙ bad in absurd (cc)) (λ e bad. let no : Path (Phase Request Reply) (taken c g.0) (chosen e) = sym now ∙ bad in absurd (cc)),
        in_neither g.0.by (member_absent r.phase r.two.place g.0.by c g.0 r.two.groups now (no_place fit.5.0) r.second.members)
            (λ d f is.
            let led_d = r.second.outgoing d f is in
            absent_append g.0.by f.rest (f.own ∷ [])
            (with_absent r.phase g.0.by d f.rest (λ e bad. let who : c ≡ d = one_taker c d g.0 e (sym now ∙ bad) in let no : Path (Place Request Reply) (served f) away = sym is ∙ (ap r.two.place (sym who) ∙ fit.5.0) in absurd (cc)) led_d.2)
            ((λ own_is. let no : Path (Phase Request Reply) (taken c g.0) (leads f.own) = sym now ∙ (ap r.phase (sym own_is ∙ led_d.0) ∙ led_d.1) in absurd (cc)), tt)),
      )

  -- nor is such a leader
  pub told_last : (own : QueuedWriter Request) (p : Reply) → Sees s id (hold_at c (Settling (debt [] own p)) mine Away) → Absent own.by (now_of stands n s r).0.0 × IsNotWith own.by (now_of stands n s r).0.1 × Absent own.by (flat (now_of stands n s r).1.0)
  told_last own p sees =
      let fit = (r.seats id (hold_at c (Settling (debt [] own p)) mine Away ∷ []) sees).0 in
      let now : r.phase c ≡ leads own = fit.4.1 in
      let by : own.by ≡ c = subst (InPhase stands s.words s.homes c (r.due c)) now (r.rows c fit.1 fit.2) in (
        subst (λ k. Absent k r.account.queue) (sym by)
            (not_queued stands n s r c (own.asked, p) fit.4.2 (λ e bad. let no : Path (Phase Request Reply) (leads own) (linked e) = sym now ∙ bad in absurd (cc)) (λ e bad. let no : Path (Phase Request Reply) (leads own) (chosen e) = sym now ∙ bad in absurd (cc))),
        subst (λ k. IsNotWith k r.account.log) (sym by)
            (not_held stands n s r c (own.asked, p) fit.4.2 (λ e bad. let no : Path (Phase Request Reply) (leads own) (linked e) = sym now ∙ bad in absurd (cc)) (λ e bad. let no : Path (Phase Request Reply) (leads own) (chosen e) = sym now ∙ bad in absurd (cc))),
        subst (λ k. Absent k (flat (now_of stands n s r).1.0)) (sym by)
            (in_neither c (absent_groups r.phase r.two.place c r.two.groups (no_place fit.5.0) (λ k e bad. let no : Path (Phase Request Reply) (leads own) (taken k e) = sym now ∙ bad in absurd (cc)) r.second.members)
            (λ d f is.
            let led_d = r.second.outgoing d f is in
            absent_append c f.rest (f.own ∷ [])
            (with_absent r.phase c d f.rest (λ e bad. let no : Path (Phase Request Reply) (leads own) (taken d e) = sym now ∙ bad in absurd (cc)) led_d.2)
            ((λ own_is. let no : Path (Place Request Reply) (served f) away = sym is ∙ (ap r.two.place (sym led_d.0 ∙ own_is) ∙ fit.5.0) in absurd (cc)), tt))),
      )

  -- nor is a writer that left the queue while writes are stalled
  pub told_dropped : (w : ℕ) (lead : Lead Request Reply) (x : QueuedWriter Request) (p : Reply) (b : Back Request Reply) → Sees s id (hold_at c (Stalling lead (Owes w x p)) mine b)
      → Absent x.by (now_of stands n s r).0.0 × IsNotWith x.by (now_of stands n s r).0.1 × Absent x.by (flat (now_of stands n s r).1.0)
  told_dropped w lead x p b sees =
      let fit = (r.seats id (hold_at c (Stalling lead (Owes w x p)) mine b ∷ []) sees).0 in
      let now : r.phase x.by ≡ dropped c x p = fit.4.5 in
      let shows = subst (Shows r.line r.account.queue r.account.log) fit.4.0 r.account.shows in
      let out : Absent x.by (r.account.queue ++ (lead.group ++ shows.0.0 ∷ [])) = subst (Absent x.by) shows.0.1 (stand_absent r.phase x.by r.line (λ e is_in. subst (InChain e) now is_in) r.stand) in
      let group : Absent x.by (lead.group ++ shows.0.0 ∷ []) = absent_back x.by r.account.queue (lead.group ++ shows.0.0 ∷ []) out in
      let no_leads : (e : QueuedWriter Request) → r.phase x.by ≡ leads e → ⊥ = λ e bad. let no : Path (Phase Request Reply) (dropped c x p) (leads e) = sym now ∙ bad in absurd (cc) in
      let no_taken : (d : ℕ) (e : QueuedWriter Request) → r.phase x.by ≡ taken d e → ⊥ = λ d e bad. let no : Path (Phase Request Reply) (dropped c x p) (taken d e) = sym now ∙ bad in absurd (cc) in (
        absent_front x.by r.account.queue (lead.group ++ shows.0.0 ∷ []) out,
        subst (IsNotWith x.by) (sym shows.1) ((absent_back x.by lead.group (shows.0.0 ∷ []) group).0, absent_front x.by lead.group (shows.0.0 ∷ []) group),
        in_neither x.by (out_of_groups r.phase r.two.place x.by no_leads no_taken r.two.groups r.second.members)
            (λ d f is. let led_d = r.second.outgoing d f is in
            absent_append x.by f.rest (f.own ∷ []) (with_absent r.phase x.by d f.rest (no_taken d) led_d.2) ((λ own_is. no_leads f.own (ap r.phase (sym own_is ∙ led_d.0) ∙ led_d.1)), tt)),
      )
