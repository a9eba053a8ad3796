-- The second list, where a step of the first leaves it as it is.
use Rattle.std.proofs.Common.{Bool, true, false, ◌≡◌, ◌≢◌, ℕ, ◌+◌, ◌⊎◌, List, [], ◌∷◌, ◌++◌, get_or, refl, sym, ap, ◌∙◌, subst, inl, ⊎_elim, arith, append_assoc}
use mathlib.Core.Logic.{dite}
use mathlib.Core.Path.{Path}
use mathlib.Core.Option.{Option}
use native.Mathlib.Decide.{ℕ_discrete}
use lib.ListN.{get_elem?}
use Rattle.line_rule.specs.declared.view.QueuedWriter.{QueuedWriter}
use Rattle.line_rule.specs.declared.view.Handling.{Handling}
use Rattle.line_rule.specs.declared.view.Squad.{Squad}
use Rattle.line_rule.specs.declared.content.LineSlot.{LineSlot}
use Rattle.line_rule.specs.Chain.{state_at, older_at, Links, LinksFrom}
use Rattle.line_rule.specs.Standing.{Phase, leads, Mode, Holds, InFront, Place, away, parted, queued, called, serves, served, Turn, still, calls, held_by, passes, ahead, Two, flat, In, InStep}
use Rattle.line_rule.specs.Laws.{Laws}
use Rattle.line_rule.specs.Rule.{InSecond, AllWith, AllGroups, IsLed, Level, InTurn, Parts, Second}
use Rattle.line_rule.proofs.Chains.{put, put_at, put_else}

module _ {Request Reply : Type 0} where
  pub in_not_away : (g : Squad Request Reply) (p : Place Request Reply) → In g p → p ≢ away
  in_not_away g away ok e = ok
  in_not_away g (parted f b) ok e = ok
  in_not_away g (queued f) ok e = absurd (cc)
  in_not_away g (called f) ok e = absurd (cc)
  in_not_away g (serves f) ok e = absurd (cc)
  in_not_away g (served f) ok e = ok

module _ {Request Reply : Type 0} where
  -- nothing changes for the clients in the second list
  abbrev pub Kept : (ℕ → Phase Request Reply) → (ℕ → Phase Request Reply) → (ℕ → Place Request Reply) → List ℕ → List ℕ → Type 0
  Kept phase phase' place words ws = (k : ℕ) → InSecond place k (phase k) → (get_or ws (older_at k) 0 ≡ get_or words (older_at k) 0) × ((e : QueuedWriter Request) → phase k ≡ leads e → get_or ws (state_at k) 0 ≡ get_or words (state_at k) 0) × (phase' k ≡ phase k)

  -- a client moves that isn't in the second list
  pub kept_else : (phase : ℕ → Phase Request Reply) (place : ℕ → Place Request Reply) (m : ℕ) (ph : Phase Request Reply) (words ws : List ℕ) → (InSecond place m (phase m) → ⊥)
      → ((k : ℕ) → k ≢ m → get_or ws (older_at k) 0 ≡ get_or words (older_at k) 0) → ((k : ℕ) → k ≢ m → get_or ws (state_at k) 0 ≡ get_or words (state_at k) 0) → Kept phase (put phase m ph) place words ws
  kept_else phase place m ph words ws un older state k there = dite (ℕ_discrete k m)
      (λ e. absurd (un (subst (λ (j : ℕ). InSecond place j (phase j)) e there)))
      (λ ne. (older k ne, (λ _ _. state k ne), put_else phase m ph k ne))

  -- a row stays as it is
  pub put_same : (phase : ℕ → Phase Request Reply) (m : ℕ) (ph : Phase Request Reply) → phase m ≡ ph → (k : ℕ) → put phase m ph k ≡ phase k
  put_same phase m ph now k = put_at phase m ph (λ j f. f ≡ phase j) k (λ e. sym now ∙ ap phase (sym e)) (λ _. refl)

  lead_in_second : (place : ℕ → Place Request Reply) (phase : ℕ → Phase Request Reply) (g : Squad Request Reply) → phase g.own.by ≡ leads g.own → In g (place g.own.by) → InSecond place g.own.by (phase g.own.by)
  lead_in_second place phase g now is_in = subst (InSecond place g.own.by) (sym now) (in_not_away g (place g.own.by) is_in)

  with_kept : (phase phase' : ℕ → Phase Request Reply) (place : ℕ → Place Request Reply) (words ws : List ℕ) (c : ℕ) (es : List (QueuedWriter Request)) → place c ≢ away → Kept phase phase' place words ws → AllWith phase c es → AllWith phase' c es
  with_kept phase phase' place words ws c [] un keep ok = tt
  with_kept phase phase' place words ws c (e ∷ es) un keep ok = ((keep e.by (subst (InSecond place e.by) (sym ok.0) un)).2 ∙ ok.0, with_kept phase phase' place words ws c es un keep ok.1)

  groups_kept : (phase phase' : ℕ → Phase Request Reply) (place : ℕ → Place Request Reply) (words ws : List ℕ) (gs : List (Squad Request Reply)) → Kept phase phase' place words ws → AllGroups phase place gs → AllGroups phase' place gs
  groups_kept phase phase' place words ws [] keep ok = tt
  groups_kept phase phase' place words ws (g ∷ gs) keep ok = (
    (keep g.own.by (lead_in_second place phase g ok.0 ok.1)).2 ∙ ok.0,
    ok.1,
    with_kept phase phase' place words ws g.own.by g.rest (in_not_away g (place g.own.by) ok.1) keep ok.2,
    groups_kept phase phase' place words ws gs keep ok.3,
  )

  -- the links of some members, and then those of others
  rest_links : (phase phase' : ℕ → Phase Request Reply) (place : ℕ → Place Request Reply) (words ws : List ℕ) (b c : ℕ) (es t : List (QueuedWriter Request)) → place c ≢ away → Kept phase phase' place words ws → AllWith phase c es → (LinksFrom b words t → LinksFrom b ws t) → LinksFrom b words (es ++ t) → LinksFrom b ws (es ++ t)
  rest_links phase phase' place words ws b c [] t un keep ok more l = more l
  rest_links phase phase' place words ws b c (e ∷ es) t un keep ok more l = ((keep e.by (subst (InSecond place e.by) (sym ok.0) un)).0 ∙ l.0, rest_links phase phase' place words ws b c es t un keep ok.1 more l.1)

  groups_links : (phase phase' : ℕ → Phase Request Reply) (place : ℕ → Place Request Reply) (words ws : List ℕ) (gs : List (Squad Request Reply)) → Kept phase phase' place words ws → AllGroups phase place gs → Links words (flat gs) → Links ws (flat gs)
  groups_links phase phase' place words ws [] keep ok l = tt
  groups_links phase phase' place words ws (g ∷ gs) keep ok l =
      subst (Links ws) (sym (append_assoc g.rest (g.own ∷ []) (flat gs))) (rest_links phase phase' place words ws 0 g.own.by g.rest (g.own ∷ flat gs) (in_not_away g (place g.own.by) ok.1) keep ok.2
      (λ t. ((keep g.own.by (lead_in_second place phase g ok.0 ok.1)).0 ∙ t.0, groups_links phase phase' place words ws gs keep ok.3 t.1))
      (subst (Links words) (append_assoc g.rest (g.own ∷ []) (flat gs)) l))

  -- what the rule says of the oldest group
  pub groups_at : (phase : ℕ → Phase Request Reply) (place : ℕ → Place Request Reply) (newer : List (Squad Request Reply)) (g : Squad Request Reply) → AllGroups phase place (newer ++ g ∷ []) → (phase g.own.by ≡ leads g.own) × In g (place g.own.by) × AllWith phase g.own.by g.rest
  groups_at phase place [] g ok = (ok.0, ok.1, ok.2)
  groups_at phase place (x ∷ xs) g ok = groups_at phase place xs g ok.3

module _ {Request Reply Log Right : Type 0} (stands : Laws Request Reply Log Right) (n : ℕ) where
  turn_kept : (words ws : List ℕ) (homes hs : List (Option (LineSlot Request Reply Log Right))) (phase phase' : ℕ → Phase Request Reply) (two : Two Request Reply) → AllGroups phase two.place two.groups → Kept phase phase' two.place words ws → get_elem? hs (n + 1) ≡ get_elem? homes (n + 1)
      → (turn : Turn) → InTurn stands n words homes phase two turn → InTurn stands n ws hs phase' two turn
  turn_kept words ws homes hs phase phase' two members keep home still ok = (ok.0, (ok.1.0, home ∙ ok.1.1, ok.1.2))
  turn_kept words ws homes hs phase phase' two members keep home (calls c) ok =
      let at = groups_at phase two.place ok.0.0 ok.0.1 (subst (AllGroups phase two.place) ok.0.2 members) in
      let there : InSecond two.place c (phase c) = subst (λ (j : ℕ). InSecond two.place j (phase j)) ok.0.4 (lead_in_second two.place phase ok.0.1 at.0 at.1) in
      ((ok.0.0, ok.0.1, ok.0.2, ok.0.3, ok.0.4, (keep c there).1 ok.0.1.own (subst (λ (j : ℕ). phase j ≡ leads ok.0.1.own) ok.0.4 at.0) ∙ ok.0.5), (ok.1.0, home ∙ ok.1.1, ok.1.2))
  turn_kept words ws homes hs phase phase' two members keep home (held_by c) ok = ok
  turn_kept words ws homes hs phase phase' two members keep home (passes c w) ok = ok

  pub parts_kept : (words ws : List ℕ) (homes hs : List (Option (LineSlot Request Reply Log Right))) (phase phase' : ℕ → Phase Request Reply) (place : ℕ → Place Request Reply) (c : ℕ) (g : Squad Request Reply) (b : ℕ) → Kept phase phase' place words ws → place c ≡ parted g b → Parts stands n words homes phase c g b → Parts stands n ws hs phase' c g b
  parts_kept words ws homes hs phase phase' place c g b keep is ok =
      let un : place c ≢ away = λ e. let bad : Path (Place Request Reply) (parted g b) away = sym is ∙ e in absurd (cc) in
      let own_there : InSecond place g.own.by (phase g.own.by) = subst (λ (j : ℕ). InSecond place j (phase j)) (sym ok.0) (subst (InSecond place c) (sym ok.1) un) in (
        ok.0,
        (keep c (subst (InSecond place c) (sym ok.1) un)).2 ∙ ok.1,
        with_kept phase phase' place words ws c g.rest un keep ok.2,
        rest_links phase phase' place words ws b c g.rest (g.own ∷ []) un keep ok.2 (λ t. ((keep g.own.by own_there).0 ∙ t.0, tt)) ok.3,
        ok.4,
        ok.5,
      )

  led_kept : (words ws : List ℕ) (phase phase' : ℕ → Phase Request Reply) (place : ℕ → Place Request Reply) (c : ℕ) (g : Squad Request Reply) → Kept phase phase' place words ws → place c ≡ served g → IsLed phase c g → IsLed phase' c g
  led_kept words ws phase phase' place c g keep is ok =
      let un : place c ≢ away = λ e. let bad : Path (Place Request Reply) (served g) away = sym is ∙ e in absurd (cc) in
      (ok.0, (keep c (subst (InSecond place c) (sym ok.1) un)).2 ∙ ok.1, with_kept phase phase' place words ws c g.rest un keep ok.2)

  -- a step that moves nothing of the second list
  pub second_stays : (words ws : List ℕ) (homes hs : List (Option (LineSlot Request Reply Log Right))) (phase phase' : ℕ → Phase Request Reply) (mode mode' : Mode Request) (last last' : List (Handling Request Reply)) (two : Two Request Reply) → get_or ws 1 0 ≡ get_or words 1 0 → Kept phase phase' two.place words ws
      → ((k : ℕ) → get_or ws (state_at k) 0 ≡ 4 → get_or words (state_at k) 0 ≡ 4) → get_elem? hs (n + 1) ≡ get_elem? homes (n + 1) → ((k : ℕ) → InFront k mode' → InFront k mode ⊎ (two.place k ≡ away)) → ((k : ℕ) → Holds k mode' → Holds k mode ⊎ (get_or ws (state_at k) 0 ≢ 4))
      → ((k : ℕ) → two.lead ≡ ahead k → Holds k mode → Holds k mode') → (Level stands stands.piped two last → Level stands stands.piped two last') → Second stands n words homes phase mode last two → Second stands n ws hs phase' mode' last' two
  second_stays words ws homes hs phase phase' mode mode' last last' two first keep to4 home fronts holds leads_on in_step r = record {
    newest_is = first ∙ r.newest_is;
    links = groups_links phase phase' two.place words ws two.groups keep r.members r.links;
    distinct = r.distinct;
    within = r.within;
    members = groups_kept phase phase' two.place words ws two.groups keep r.members;
    parts = λ c g b is. parts_kept words ws homes hs phase phase' two.place c g b keep is (r.parts c g b is);
    outgoing = λ c g is. led_kept words ws phase phase' two.place c g keep is (r.outgoing c g is);
    turn_is = turn_kept words ws homes hs phase phase' two r.members keep home two.turn r.turn_is;
    in_front = λ c h. ⊎_elim (λ (t : InFront c mode). r.in_front c t) (λ (t : two.place c ≡ away). t) (fronts c h);
    quiet = λ c h apart. ⊎_elim (λ (t : Holds c mode). (λ e. r.quiet c t apart (to4 c e))) (λ (t : get_or ws (state_at c) 0 ≢ 4). t) (holds c h);
    quiet_queued = λ c g is e. r.quiet_queued c g is (to4 c e);
    called_turn = r.called_turn;
    ahead_holds = λ c is. leads_on c is (r.ahead_holds c is);
    in_level = in_step r.in_level;
    made = r.made;
  }

  -- a client moves that isn't in the second list
  pub second_row : (words ws : List ℕ) (homes hs : List (Option (LineSlot Request Reply Log Right))) (phase : ℕ → Phase Request Reply) (m : ℕ) (ph : Phase Request Reply) (mode : Mode Request) (last : List (Handling Request Reply)) (two : Two Request Reply) → (InSecond two.place m (phase m) → ⊥) → get_or ws 1 0 ≡ get_or words 1 0
      → ((k : ℕ) → k ≢ m → get_or ws (older_at k) 0 ≡ get_or words (older_at k) 0) → ((k : ℕ) → k ≢ m → get_or ws (state_at k) 0 ≡ get_or words (state_at k) 0) → (get_or ws (state_at m) 0 ≡ 4 → get_or words (state_at m) 0 ≡ 4) → get_elem? hs (n + 1) ≡ get_elem? homes (n + 1)
      → Second stands n words homes phase mode last two → Second stands n ws hs (put phase m ph) mode last two
  second_row words ws homes hs phase m ph mode last two un first older state to4 home r =
      second_stays words ws homes hs phase (put phase m ph) mode mode last last two first (kept_else phase two.place m ph words ws un older state)
      (λ k. dite (ℕ_discrete k m) (λ e. subst (λ (j : ℕ). get_or ws (state_at j) 0 ≡ 4 → get_or words (state_at j) 0 ≡ 4) (sym e) to4) (λ ne is. sym (state k ne) ∙ is))
      home (λ k h. inl h) (λ k h. inl h) (λ k _ h. h) (λ v. v) r

  -- the words of clients stay
  pub second_same : (words ws : List ℕ) (homes hs : List (Option (LineSlot Request Reply Log Right))) (phase : ℕ → Phase Request Reply) (m : ℕ) (ph : Phase Request Reply) (mode mode' : Mode Request) (last last' : List (Handling Request Reply)) (two : Two Request Reply) → (phase m ≡ ph) ⊎ (InSecond two.place m (phase m) → ⊥) → ((j : ℕ) → j ≢ 0 → get_or ws j 0 ≡ get_or words j 0) → get_elem? hs (n + 1) ≡ get_elem? homes (n + 1)
      → ((k : ℕ) → InFront k mode' → InFront k mode ⊎ (two.place k ≡ away)) → ((k : ℕ) → Holds k mode' → Holds k mode ⊎ (get_or ws (state_at k) 0 ≢ 4)) → ((k : ℕ) → two.lead ≡ ahead k → Holds k mode → Holds k mode') → (Level stands stands.piped two last → Level stands stands.piped two last')
      → Second stands n words homes phase mode last two → Second stands n ws hs (put phase m ph) mode' last' two
  second_same words ws homes hs phase m ph mode mode' last last' two which same home fronts holds leads_on in_step r =
      let older : (k : ℕ) → get_or ws (older_at k) 0 ≡ get_or words (older_at k) 0 = λ k. same (older_at k) (λ e. omega arith) in
      let state : (k : ℕ) → get_or ws (state_at k) 0 ≡ get_or words (state_at k) 0 = λ k. same (state_at k) (λ e. omega arith) in
      second_stays words ws homes hs phase (put phase m ph) mode mode' last last' two (same 1 (λ e. omega arith))
      (⊎_elim (λ (now : phase m ≡ ph). (λ k _. (older k, (λ _ _. state k), put_same phase m ph now k))) (λ (un : InSecond two.place m (phase m) → ⊥). kept_else phase two.place m ph words ws un (λ k _. older k) (λ k _. state k)) which)
      (λ k e. sym (state k) ∙ e) home fronts holds leads_on in_step r

  -- what was given runs stays as it was
  pub level_same : (piped : Bool) (two : Two Request Reply) (last last' : List (Handling Request Reply)) → (piped ≡ true → last' ≡ last) → Level stands piped two last → Level stands piped two last'
  level_same true two last last' same v = subst (λ (k : List (Handling Request Reply)). InStep two.done two.groups k two.lead) (sym (same refl)) v
  level_same false two last last' same v = v
