-- The moves of the second list, on plain data.
use Rattle.std.proofs.Common.{Bool, true, false, ◌≡◌, ◌≢◌, ℕ, ◌+◌, ◌*◌, ◌<◌, ◌≤◌, List, [], ◌∷◌, ◌++◌, length, get_or, set, refl, sym, ap, ◌∙◌, subst, ⊎_elim, arith, append_assoc, get_or-set_other, get_or-set_same}
use mathlib.Core.Path.{Path}
use mathlib.Core.Option.{Option, none, some}
use Rattle.atomic_table.proofs.Lists.{set_here}
use Rattle.std.proofs.lemmas.List.{append_cancel_right}
use Rattle.line_rule.specs.declared.view.QueuedWriter.{QueuedWriter}
use Rattle.line_rule.specs.declared.view.Handling.{Handling}
use Rattle.line_rule.specs.declared.view.Squad.{Squad}
use Rattle.line_rule.specs.declared.content.LineSlot.{LineSlot}
use Rattle.line_rule.specs.declared.content.LineSlot.TheVariants.{TheRight}
use Rattle.line_rule.specs.Chain.{state_at, older_at, pack, newest, Links, LinksFrom, Absent, Distinct, Within}
use Rattle.line_rule.specs.Standing.{Phase, leads, taken, Mode, Holds, InFront, Place, away, parted, queued, called, serves, served, Turn, still, calls, held_by, passes, Lead2, level, ahead, Two, line_of, flat, handed_on, In, Apart, Chained, InStep}
use Rattle.line_rule.specs.Made.{IsMade, AreMade}
use Rattle.line_rule.specs.Laws.{Laws}
use Rattle.line_rule.specs.Rule.{AllWith, AllGroups, IsLed, RightHome, Level, InTurn, Parts, Second}
use Rattle.line_rule.proofs.Chains.{put, put_at, put_here, put_else, links_stay, links_same, nobody}
use Rattle.line_rule.proofs.Groups.{distinct_apart, distinct_front, absent_front, absent_append, within_front, within_at, links_cut, newest_cut, none_before_group}
use Rattle.line_rule.proofs.Keeps.{in_not_away, groups_at}
use Rattle.line_rule.proofs.Leads.{same_last}
use Rattle.line_rule.proofs.Made.{made_newer, none_made}
use Rattle.line_rule.proofs.Squads.{absent_groups, aim_links, distinct_group, ends_or, flat_nil, flat_snoc, groups_newer, groups_put, groups_turn, in_one, is_level, links_join, newest_front, not_snoc, one_ahead, one_called, one_calls, one_holder, one_parted, one_served, one_serves, snoc_some, step_first, with_absent, within_append}

module _ {Request Reply Log Right : Type 0} (stands : Laws Request Reply Log Right) (n : ℕ) where
  -- the turn stays true when another place changes
  pub turn_put : (words : List ℕ) (homes : List (Option (LineSlot Request Reply Log Right))) (phase : ℕ → Phase Request Reply) (groups : List (Squad Request Reply)) (place : ℕ → Place Request Reply) (t : Turn) (lead lead' : Lead2) (done : List (Handling Request Reply)) (c : ℕ) (p : Place Request Reply) → ((g : Squad Request Reply) → place c ≡ called g → ⊥) → ((g : Squad Request Reply) → place c ≡ serves g → ⊥) → (turn : Turn)
      → InTurn stands n words homes phase (record { groups = groups; place = place; turn = t; lead = lead; done = done }) turn → InTurn stands n words homes phase (record { groups = groups; place = put place c p; turn = t; lead = lead'; done = done }) turn
  turn_put words homes phase groups place t lead lead' done c p un_c un_s still ok = ok
  turn_put words homes phase groups place t lead lead' done c p un_c un_s (calls k) ok = ((ok.0.0, ok.0.1, ok.0.2, put_else place c p k (λ e. un_c ok.0.1 (ap place (sym e) ∙ ok.0.3)) ∙ ok.0.3, ok.0.4, ok.0.5), ok.1)
  turn_put words homes phase groups place t lead lead' done c p un_c un_s (held_by k) ok = (ok.0, ok.1, ok.2, put_else place c p k (λ e. un_s ok.1 (ap place (sym e) ∙ ok.3)) ∙ ok.3, ok.4)
  turn_put words homes phase groups place t lead lead' done c p un_c un_s (passes k w) ok = ok

  -- and when a newer group comes
  pub turn_grows : (words ws : List ℕ) (homes : List (Option (LineSlot Request Reply Log Right))) (phase : ℕ → Phase Request Reply) (groups : List (Squad Request Reply)) (place : ℕ → Place Request Reply) (t : Turn) (lead lead' : Lead2) (done : List (Handling Request Reply)) (g0 : Squad Request Reply) → ((k : ℕ) → get_or ws (state_at k) 0 ≡ get_or words (state_at k) 0) → (turn : Turn) → (turn ≡ still → ⊥)
      → InTurn stands n words homes phase (record { groups = groups; place = place; turn = t; lead = lead; done = done }) turn → InTurn stands n ws homes phase (record { groups = g0 ∷ groups; place = place; turn = t; lead = lead'; done = done }) turn
  turn_grows words ws homes phase groups place t lead lead' done g0 state still un ok = absurd (un refl)
  turn_grows words ws homes phase groups place t lead lead' done g0 state (calls k) un ok = ((g0 ∷ ok.0.0, ok.0.1, ap (λ l. g0 ∷ l) ok.0.2, ok.0.3, ok.0.4, state k ∙ ok.0.5), ok.1)
  turn_grows words ws homes phase groups place t lead lead' done g0 state (held_by k) un ok = (g0 ∷ ok.0, ok.1, ap (λ l. g0 ∷ l) ok.2, ok.3, ok.4)
  turn_grows words ws homes phase groups place t lead lead' done g0 state (passes k w) un ok = (g0 ∷ ok.0, ok.1, ap (λ l. g0 ∷ l) ok.2, ok.3)

  pub turn_same : (words ws : List ℕ) (homes : List (Option (LineSlot Request Reply Log Right))) (phase : ℕ → Phase Request Reply) (two : Two Request Reply) → ((k : ℕ) → get_or ws (state_at k) 0 ≡ get_or words (state_at k) 0) → (turn : Turn) → InTurn stands n words homes phase two turn → InTurn stands n ws homes phase two turn
  turn_same words ws homes phase two state still ok = ok
  turn_same words ws homes phase two state (calls k) ok = ((ok.0.0, ok.0.1, ok.0.2, ok.0.3, ok.0.4, state k ∙ ok.0.5), ok.1)
  turn_same words ws homes phase two state (held_by k) ok = ok
  turn_same words ws homes phase two state (passes k w) ok = ok

  pub level_put : (groups : List (Squad Request Reply)) (place place' : ℕ → Place Request Reply) (turn turn' : Turn) (lead : Lead2) (done last : List (Handling Request Reply)) (piped : Bool)
      → Level stands piped (record { groups = groups; place = place; turn = turn; lead = lead; done = done }) last → Level stands piped (record { groups = groups; place = place'; turn = turn'; lead = lead; done = done }) last
  level_put groups place place' turn turn' lead done last true v = v
  level_put groups place place' turn turn' lead done last false v = v

  pub turn_lead : (words : List ℕ) (homes : List (Option (LineSlot Request Reply Log Right))) (phase : ℕ → Phase Request Reply) (groups : List (Squad Request Reply)) (place : ℕ → Place Request Reply) (t : Turn) (lead lead' : Lead2) (done : List (Handling Request Reply)) (turn : Turn)
      → InTurn stands n words homes phase (record { groups = groups; place = place; turn = t; lead = lead; done = done }) turn → InTurn stands n words homes phase (record { groups = groups; place = place; turn = t; lead = lead'; done = done }) turn
  turn_lead words homes phase groups place t lead lead' done still ok = ok
  turn_lead words homes phase groups place t lead lead' done (calls k) ok = ok
  turn_lead words homes phase groups place t lead lead' done (held_by k) ok = ok
  turn_lead words homes phase groups place t lead lead' done (passes k w) ok = ok

  pub none_first : (gs : List (Squad Request Reply)) → Within n (flat gs) → newest (flat gs) ≡ 0 → gs ≡ []
  none_first gs inside is = flat_nil gs (nobody n 0 (flat gs) inside is).0

  turn_nil : (words : List ℕ) (homes : List (Option (LineSlot Request Reply Log Right))) (phase : ℕ → Phase Request Reply) (two : Two Request Reply) → two.groups ≡ [] → (turn : Turn) → InTurn stands n words homes phase two turn → RightHome stands n homes two.done
  turn_nil words homes phase two nil still ok = ok.1
  turn_nil words homes phase two nil (calls k) ok = ok.1
  turn_nil words homes phase two nil (held_by k) ok = absurd (snoc_some ok.0 ok.1 (sym ok.2 ∙ nil))
  turn_nil words homes phase two nil (passes k w) ok = absurd (snoc_some ok.0 ok.1 (sym ok.2 ∙ nil))

  turn_called : (words : List ℕ) (homes : List (Option (LineSlot Request Reply Log Right))) (phase : ℕ → Phase Request Reply) (two : Two Request Reply) → two.groups ≡ [] → (k : ℕ) → InTurn stands n words homes phase two (calls k) → ⊥
  turn_called words homes phase two nil k ok = snoc_some ok.0.0 ok.0.1 (sym ok.0.2 ∙ nil)

  module _ (words : List ℕ) (homes : List (Option (LineSlot Request Reply Log Right))) (phase : ℕ → Phase Request Reply) (mode : Mode Request) (last : List (Handling Request Reply)) (two : Two Request Reply) (r : Second stands n words homes phase mode last two) where
    -- a group is cut off from the first list
    abbrev pub two_parts : ℕ → Squad Request Reply → ℕ → Two Request Reply
    two_parts c g b = record { groups = two.groups; place = put two.place c (parted g b); turn = two.turn; lead = two.lead; done = two.done }

    pub second_parts : (c : ℕ) (g : Squad Request Reply) → two.place c ≡ away → g.own.by ≡ c → phase c ≡ leads g.own → AllWith phase c g.rest → Links words (line_of g) → Distinct (line_of g) → Within n (line_of g) → (InFront c mode → ⊥) → Second stands n words homes phase mode last (two_parts c g 0)
    second_parts c g is_away by_c now with linked apart inside un_front =
        let out : Absent c (flat two.groups) = absent_groups phase two.place c two.groups (λ f t. subst (In f) is_away t) (λ k e bad. absurd (cc)) r.members in
        let p : Place Request Reply = parted g 0 in
        record {
          newest_is = r.newest_is;
          links = r.links;
          distinct = r.distinct;
          within = r.within;
          members = groups_put phase two.place c p two.groups out r.members;
          parts = λ k f b. put_at two.place c p (λ j q. q ≡ parted f b → Parts stands n words homes phase j f b) k
              (λ is e. let o = one_parted g f 0 b e in subst (λ (z : ℕ × Squad Request Reply × ℕ). Parts stands n words homes phase z.0 z.1 z.2) (λ i. (sym is i, o.0 i, o.1 i)) (by_c, now, with, linked, apart, inside)) (λ ne e. r.parts k f b e);
          outgoing = λ k f. put_at two.place c p (λ j q. q ≡ served f → IsLed phase j f) k (λ _ e. absurd (cc)) (λ _ e. r.outgoing k f e);
          turn_is = turn_put words homes phase two.groups two.place two.turn two.lead two.lead two.done c p (λ f e. absurd (cc)) (λ f e. absurd (cc)) two.turn r.turn_is;
          in_front = λ k h. put_at two.place c p (λ j q. InFront j mode → q ≡ away) k (λ is h'. let hh : InFront c mode = subst (λ (j : ℕ). InFront j mode) is h' in absurd (un_front hh)) (λ _ h'. r.in_front k h') h;
          quiet = λ k h. put_at two.place c p (λ j q. Holds j mode → Apart q → get_or words (state_at j) 0 ≢ 4) k (λ is h' _. subst (λ (j : ℕ). Holds j mode → get_or words (state_at j) 0 ≢ 4) (sym is) (λ hc. r.quiet c hc (subst Apart (sym is_away) tt)) h') (λ ne h' a. r.quiet k h' a) h;
          quiet_queued = λ k f. put_at two.place c p (λ j q. q ≡ queued f → get_or words (state_at j) 0 ≢ 4) k (λ _ e. absurd (cc)) (λ _ e. r.quiet_queued k f e);
          called_turn = λ k f. put_at two.place c p (λ j q. q ≡ called f → two.turn ≡ calls j) k (λ _ e. absurd (cc)) (λ _ e. r.called_turn k f e);
          ahead_holds = r.ahead_holds;
          in_level = level_put two.groups two.place (put two.place c p) two.turn two.turn two.lead two.done last stands.piped r.in_level;
          made = r.made;
        }

    -- its leader names the newest writer of the second list
    pub second_aims : (c : ℕ) (g : Squad Request Reply) (b0 b v : ℕ) → two.place c ≡ parted g b0 → 0 < c → c ≤ n → v ≡ pack b g.own.code → length words ≡ 2 * n + 4 → Second stands n (set words (older_at c) v) homes phase mode last (two_parts c g b)
    second_aims c g b0 b v is_parted lo hi is wide =
        let old = r.parts c g b0 is_parted in
        let no_taken : (k : ℕ) (e : QueuedWriter Request) → phase c ≡ taken k e → ⊥ = λ k e bad. let was : phase c ≡ leads g.own = old.1 in absurd (cc) in
        let out : Absent c (flat two.groups) = absent_groups phase two.place c two.groups (λ f t. subst (In f) is_parted t) no_taken r.members in
        let p : Place Request Reply = parted g b in
        let ws : List ℕ = set words (older_at c) v in
        let same : (j : ℕ) → j ≢ older_at c → get_or ws j 0 ≡ get_or words j 0 = λ j ne. get_or-set_other words (older_at c) j v 0 (λ e. ne (omega arith)) in
        let state : (j : ℕ) → get_or ws (state_at j) 0 ≡ get_or words (state_at j) 0 = λ j. same (state_at j) (λ e. omega arith) in
        let older : (j : ℕ) → j ≢ c → get_or ws (older_at j) 0 ≡ get_or words (older_at j) 0 = λ j ne. same (older_at j) (λ e. ne (omega arith)) in
        let new_link : get_or ws (older_at c) 0 ≡ pack b g.own.code = get_or-set_same words (older_at c) v 0 (omega arith) ∙ is in
        record {
          newest_is = same 1 (λ e. omega arith) ∙ r.newest_is;
          links = links_stay 0 words ws c (flat two.groups) older out r.links;
          distinct = r.distinct;
          within = r.within;
          members = groups_put phase two.place c p two.groups out r.members;
          parts = λ k f d. put_at two.place c p (λ j q. q ≡ parted f d → Parts stands n ws homes phase j f d) k
              (λ is_c e. let o = one_parted g f b d e in subst (λ (z : ℕ × Squad Request Reply × ℕ). Parts stands n ws homes phase z.0 z.1 z.2) (λ i. (sym is_c i, o.0 i, o.1 i))
              (old.0, old.1, old.2, aim_links words ws c g.rest g.own b0 b older (with_absent phase c c g.rest (no_taken c) old.2) (ap (λ (j : ℕ). get_or ws (older_at j) 0) old.0 ∙ new_link) old.3, old.4, old.5))
              (λ ne e. let q = r.parts k f d e in
              (q.0, q.1, q.2, links_stay d words ws c (line_of f) older (absent_append c f.rest (f.own ∷ []) (with_absent phase c k f.rest (no_taken k) q.2) ((λ e'. ne (sym q.0 ∙ e')), tt)) q.3, q.4, q.5));
          outgoing = λ k f. put_at two.place c p (λ j q. q ≡ served f → IsLed phase j f) k (λ _ e. absurd (cc)) (λ _ e. r.outgoing k f e);
          turn_is = turn_same words ws homes phase (two_parts c g b) state two.turn (turn_put words homes phase two.groups two.place two.turn two.lead two.lead two.done c p (λ f e. absurd (cc)) (λ f e. absurd (cc)) two.turn r.turn_is);
          in_front = λ k h. put_at two.place c p (λ j q. InFront j mode → q ≡ away) k (λ is h'. let hh : InFront c mode = subst (λ (j : ℕ). InFront j mode) is h' in (let bad : Path (Place Request Reply) (parted g b0) away = sym is_parted ∙ r.in_front c hh in absurd (cc))) (λ _ h'. r.in_front k h') h;
          quiet = λ k h. put_at two.place c p (λ j q. Holds j mode → Apart q → get_or ws (state_at j) 0 ≢ 4) k (λ is_c h' _. subst (λ (j : ℕ). Holds j mode → get_or ws (state_at j) 0 ≢ 4) (sym is_c) (λ hc e. r.quiet c hc (subst Apart (sym is_parted) tt) (sym (state c) ∙ e)) h') (λ ne h' a e. r.quiet k h' a (sym (state k) ∙ e)) h;
          quiet_queued = λ k f. put_at two.place c p (λ j q. q ≡ queued f → get_or ws (state_at j) 0 ≢ 4) k (λ _ e. absurd (cc)) (λ _ e e'. r.quiet_queued k f e (sym (state k) ∙ e'));
          called_turn = λ k f. put_at two.place c p (λ j q. q ≡ called f → two.turn ≡ calls j) k (λ _ e. absurd (cc)) (λ _ e. r.called_turn k f e);
          ahead_holds = r.ahead_holds;
          in_level = level_put two.groups two.place (put two.place c p) two.turn two.turn two.lead two.done last stands.piped r.in_level;
          made = r.made;
        }

    module _ (piped : stands.piped ≡ true) where
      step_of : InStep two.done two.groups last two.lead
      step_of = subst (λ (b : Bool). Level stands b two last) piped r.in_level

      -- the group is added at the newer end
      module _ (c : ℕ) (g f : Squad Request Reply) (b v : ℕ) (is_parted : two.place c ≡ parted f b) (own_is : f.own ≡ g.own) (rest_is : f.rest ≡ g.rest) (from_is : g.from ≡ last) (not_ahead : two.lead ≢ ahead c) (holds : Holds c mode) (is_v : v ≡ newest (line_of g)) (hit : get_or words 1 0 ≡ b) (wide : length words ≡ 2 * n + 4) where
        old_parts : Parts stands n words homes phase c g b
        old_parts = let o = r.parts c f b is_parted in (ap (λ (e : QueuedWriter Request). e.by) (sym own_is) ∙ o.0, o.1 ∙ ap leads own_is, subst (AllWith phase c) rest_is o.2, subst (LinksFrom b words) (λ i. rest_is i ++ own_is i ∷ []) o.3, subst Distinct (λ i. rest_is i ++ own_is i ∷ []) o.4, subst (Within n) (λ i. rest_is i ++ own_is i ∷ []) o.5)

        abbrev ws1 : List ℕ
        ws1 = set words 1 v

        same1 : (j : ℕ) → j ≢ 1 → get_or ws1 j 0 ≡ get_or words j 0
        same1 j ne = get_or-set_other words 1 j v 0 (λ e. ne (omega arith))

        out_of : (h : Squad Request Reply) → In h (two.place c) → ⊥
        out_of h t = subst (In h) is_parted t

        out1 : Absent c (flat two.groups)
        out1 = absent_groups phase two.place c two.groups out_of (λ k e bad. let was : phase c ≡ leads g.own = old_parts.1 in absurd (cc)) r.members

        level1 : two.lead ≡ level
        level1 = is_level two.lead (λ k e. not_ahead (e ∙ ap ahead (one_holder mode k c (r.ahead_holds k e) holds)))

        chained1 : Chained two.done two.groups last
        chained1 = subst (InStep two.done two.groups last) level1 step_of

        -- the facts on the words, whatever the place and the turn are now
        second_joins : (p : Place Request Reply) (turn' : Turn) (hs : List (Option (LineSlot Request Reply Log Right))) → In g p → (Apart p → ⊥) → ((h : Squad Request Reply) → p ≡ called h → ⊥)
            → InTurn stands n ws1 hs phase (record { groups = g ∷ two.groups; place = put two.place c p; turn = turn'; lead = ahead c; done = two.done }) turn' → ((k : ℕ) (h : Squad Request Reply) → two.place k ≡ called h → turn' ≡ calls k)
            → Second stands n ws1 hs phase mode last (record { groups = g ∷ two.groups; place = put two.place c p; turn = turn'; lead = ahead c; done = two.done })
        second_joins p turn' hs is_in un_a un_c turn_ok called_ok =
            let state : (j : ℕ) → get_or ws1 (state_at j) 0 ≡ get_or words (state_at j) 0 = λ j. same1 (state_at j) (λ e. omega arith) in
            let older : (j : ℕ) → get_or ws1 (older_at j) 0 ≡ get_or words (older_at j) 0 = λ j. same1 (older_at j) (λ e. omega arith) in
            let by_c : g.own.by ≡ c = old_parts.0 in
            record {
              newest_is = get_or-set_same words 1 v 0 (omega arith) ∙ (is_v ∙ newest_front g.rest g.own (flat two.groups));
              links = links_same 0 words ws1 (line_of g ++ flat two.groups) older (links_join words (line_of g) (flat two.groups) (subst (λ (k : ℕ). LinksFrom k words (line_of g)) (sym hit ∙ r.newest_is) old_parts.3) r.links);
              distinct = distinct_group phase two.place c g.own g.rest two.groups out_of r.members old_parts.2 old_parts.4 (subst (λ (j : ℕ). Absent j (flat two.groups)) (sym by_c) out1) r.distinct;
              within = within_append n (line_of g) (flat two.groups) old_parts.5 r.within;
              members = (subst (λ (j : ℕ). phase j ≡ leads g.own) (sym by_c) old_parts.1, subst (λ (j : ℕ). In g (put two.place c p j)) (sym by_c) (subst (In g) (sym (put_here two.place c p)) is_in), subst (λ (j : ℕ). AllWith phase j g.rest) (sym by_c) old_parts.2, groups_put phase two.place c p two.groups out1 r.members);
              parts = λ k h d. put_at two.place c p (λ j q. q ≡ parted h d → Parts stands n ws1 hs phase j h d) k (λ _ e. absurd (un_a (subst Apart (sym e) tt))) (λ _ e. let q = r.parts k h d e in (q.0, q.1, q.2, links_same d words ws1 (line_of h) older q.3, q.4, q.5));
              outgoing = λ k f. put_at two.place c p (λ j q. q ≡ served f → IsLed phase j f) k (λ _ e. absurd (un_a (subst Apart (sym e) tt))) (λ _ e. r.outgoing k f e);
              turn_is = turn_ok;
              in_front = λ k h. put_at two.place c p (λ j q. InFront j mode → q ≡ away) k (λ is h'. let hh : InFront c mode = subst (λ (j : ℕ). InFront j mode) is h' in (let bad : Path (Place Request Reply) (parted f b) away = sym is_parted ∙ r.in_front c hh in absurd (cc))) (λ _ h'. r.in_front k h') h;
              quiet = λ k h. put_at two.place c p (λ j q. Apart q → get_or ws1 (state_at j) 0 ≢ 4) k (λ _ a. absurd (un_a a)) (λ _ a e. r.quiet k h a (sym (state k) ∙ e));
              quiet_queued = λ k h. put_at two.place c p (λ j q. q ≡ queued h → get_or ws1 (state_at j) 0 ≢ 4) k (λ is_c _ e. r.quiet c holds (subst Apart (sym is_parted) tt) (sym (state c) ∙ (ap (λ (j : ℕ). get_or ws1 (state_at j) 0) (sym is_c) ∙ e))) (λ _ e e'. r.quiet_queued k h e (sym (state k) ∙ e'));
              called_turn = λ k h. put_at two.place c p (λ j q. q ≡ called h → turn' ≡ calls j) k (λ _ e. absurd (un_c h e)) (λ _ e. called_ok k h e);
              ahead_holds = λ k e. subst (λ (j : ℕ). Holds j mode) (one_ahead c k e) holds;
              in_level = subst (λ (z : Bool). Level stands z (record { groups = g ∷ two.groups; place = put two.place c p; turn = turn'; lead = ahead c; done = two.done }) last) (sym piped) (g, two.groups, refl, from_is, by_c, chained1);
              made = subst (λ (l : Lead2). AreMade stands.given (handed_on two.groups l)) level1 r.made;
            }

        abbrev pub two_joins : Two Request Reply
        two_joins = record { groups = g ∷ two.groups; place = put two.place c (queued g); turn = two.turn; lead = ahead c; done = two.done }

        abbrev pub two_alone : Two Request Reply
        two_alone = record { groups = g ∷ two.groups; place = put two.place c (serves g); turn = held_by c; lead = ahead c; done = two.done }

        -- after other groups
        pub second_behind : b ≢ 0 → Second stands n ws1 homes phase mode last two_joins
        second_behind nonzero =
            let un : two.turn ≡ still → ⊥ = λ e. let t = subst (InTurn stands n words homes phase two) e r.turn_is in nonzero (sym hit ∙ (r.newest_is ∙ ap (λ l. newest (flat l)) t.0)) in
            second_joins (queued g) two.turn homes refl (λ a. a) (λ h e. absurd (cc))
            (turn_put ws1 homes phase (g ∷ two.groups) two.place two.turn (ahead c) (ahead c) two.done c (queued g) (λ h e. let bad : Path (Place Request Reply) (parted f b) (called h) = sym is_parted ∙ e in absurd (cc)) (λ h e. let bad : Path (Place Request Reply) (parted f b) (serves h) = sym is_parted ∙ e in absurd (cc)) two.turn
            (turn_grows words ws1 homes phase two.groups two.place two.turn two.lead (ahead c) two.done g (λ j. same1 (state_at j) (λ e. omega arith)) two.turn un r.turn_is))
            r.called_turn

        -- or alone: the leader takes the right
        pub second_alone : b ≡ 0 → RightHome stands n homes g.from × Second stands n ws1 (set homes (n + 1) none) phase mode last two_alone
        second_alone z =
            let nil : two.groups ≡ [] = none_first two.groups r.within (sym r.newest_is ∙ (hit ∙ z)) in
            let home : RightHome stands n homes two.done = turn_nil words homes phase two nil two.turn r.turn_is in
            let no_called : (k : ℕ) (h : Squad Request Reply) → two.place k ≡ called h → ⊥ = λ k h e. turn_called words homes phase two nil k (subst (InTurn stands n words homes phase two) (r.called_turn k h e) r.turn_is) in (
              subst (RightHome stands n homes) (subst (λ (l : List (Squad Request Reply)). Chained two.done l last) nil chained1 ∙ sym from_is) home,
              second_joins (serves g) (held_by c) (set homes (n + 1) none) refl (λ a. a) (λ h e. absurd (cc)) ([], g, ap (λ l. g ∷ l) nil, put_here two.place c (serves g), old_parts.0) (λ k h e. absurd (no_called k h e)),
            )

      -- the oldest group's leader is called, and takes the right
      abbrev pub two_serves : ℕ → Squad Request Reply → Two Request Reply
      two_serves c g = record { groups = two.groups; place = put two.place c (serves g); turn = held_by c; lead = two.lead; done = two.done }

      pub second_serves : (c : ℕ) (g : Squad Request Reply) → two.place c ≡ called g → two.lead ≢ ahead c → RightHome stands n homes g.from × Second stands n words (set homes (n + 1) none) phase mode last (two_serves c g)
      second_serves c g is_called un =
          let turn_c : two.turn ≡ calls c = r.called_turn c g is_called in
          let t = subst (InTurn stands n words homes phase two) turn_c r.turn_is in
          let same : t.0.1 ≡ g = one_called t.0.1 g (sym t.0.3 ∙ is_called) in
          let first = step_first two.lead two.done last c t.0.0 t.0.1 t.0.4 un (subst (λ (l : List (Squad Request Reply)). InStep two.done l last two.lead) t.0.2 step_of) in
          let p : Place Request Reply = serves g in (
            subst (RightHome stands n homes) (first.0 ∙ ap (λ (f : Squad Request Reply). f.from) same) t.1,
            record {
              newest_is = r.newest_is;
              links = r.links;
              distinct = r.distinct;
              within = r.within;
              members = groups_turn phase two.place c p two.groups (λ f ok. subst (In f) is_called ok) r.members;
              parts = λ k f d. put_at two.place c p (λ j q. q ≡ parted f d → Parts stands n words homes phase j f d) k (λ _ e. absurd (cc)) (λ _ e. r.parts k f d e);
              outgoing = λ k f. put_at two.place c p (λ j q. q ≡ served f → IsLed phase j f) k (λ _ e. absurd (cc)) (λ _ e. r.outgoing k f e);
              turn_is = (t.0.0, t.0.1, t.0.2, put_here two.place c p ∙ ap serves (sym same), t.0.4);
              in_front = λ k h. put_at two.place c p (λ j q. InFront j mode → q ≡ away) k (λ is h'. let hh : InFront c mode = subst (λ (j : ℕ). InFront j mode) is h' in (let bad : Path (Place Request Reply) (called g) away = sym is_called ∙ r.in_front c hh in absurd (cc))) (λ _ h'. r.in_front k h') h;
              quiet = λ k h. put_at two.place c p (λ j q. Apart q → get_or words (state_at j) 0 ≢ 4) k (λ _ a. absurd a) (λ _ a. r.quiet k h a);
              quiet_queued = λ k f. put_at two.place c p (λ j q. q ≡ queued f → get_or words (state_at j) 0 ≢ 4) k (λ _ e. absurd (cc)) (λ _ e. r.quiet_queued k f e);
              called_turn = λ k f. put_at two.place c p (λ j q. q ≡ called f → held_by c ≡ calls j) k (λ _ e. absurd (cc)) (λ ne e. absurd (ne (one_calls k c (sym (r.called_turn k f e) ∙ turn_c))));
              ahead_holds = r.ahead_holds;
              in_level = level_put two.groups two.place (put two.place c p) two.turn (held_by c) two.lead two.done last stands.piped r.in_level;
              made = r.made;
            },
          )

      -- no group came after this one: its leader gives the right back
      abbrev pub two_stops : ℕ → Squad Request Reply → Two Request Reply
      two_stops c g = record { groups = []; place = put two.place c away; turn = still; lead = two.lead; done = g.to }

      pub one_group : (c : ℕ) (g : Squad Request Reply) → two.turn ≡ held_by c → two.place c ≡ serves g → get_or words 1 0 ≡ newest (line_of g) → two.groups ≡ g ∷ []
      one_group c g turn_c is_serves hit =
          let t = subst (InTurn stands n words homes phase two) turn_c r.turn_is in
          let same : t.1 ≡ g = one_serves t.1 g (sym t.3 ∙ is_serves) in
          let split : flat two.groups ≡ flat t.0 ++ line_of g = ap flat t.2 ∙ (flat_snoc t.0 t.1 ∙ ap (λ (f : Squad Request Reply). flat t.0 ++ line_of f) same) in
          let nil : t.0 ≡ [] = flat_nil t.0 (none_before_group (flat t.0) g.rest g.own (subst Distinct split r.distinct) (ap newest (sym split) ∙ (sym r.newest_is ∙ hit))) in
          t.2 ∙ (λ i. nil i ++ same i ∷ [])

      pub second_stops : (c : ℕ) (g : Squad Request Reply) (m : Right) → two.turn ≡ held_by c → two.place c ≡ serves g → two.lead ≢ ahead c → (Holds c mode → ⊥) → get_or words 1 0 ≡ newest (line_of g) → stands.rights m g.to → length words ≡ 2 * n + 4 → length homes ≡ n + 2
          → Second stands n (set words 1 0) (set homes (n + 1) (some (TheRight m))) phase mode last (two_stops c g)
      second_stops c g m turn_c is_serves un un_holds hit stood wide many =
          let t = subst (InTurn stands n words homes phase two) turn_c r.turn_is in
          let same : t.1 ≡ g = one_serves t.1 g (sym t.3 ∙ is_serves) in
          let split : flat two.groups ≡ flat t.0 ++ line_of g = ap flat t.2 ∙ (flat_snoc t.0 t.1 ∙ ap (λ (f : Squad Request Reply). flat t.0 ++ line_of f) same) in
          let nil : t.0 ≡ [] = flat_nil t.0 (none_before_group (flat t.0) g.rest g.own (subst Distinct split r.distinct) (ap newest (sym split) ∙ (sym r.newest_is ∙ hit))) in
          let first = step_first two.lead two.done last c t.0 t.1 t.4 un (subst (λ (l : List (Squad Request Reply)). InStep two.done l last two.lead) t.2 step_of) in
          let ws : List ℕ = set words 1 0 in
          let same1 : (j : ℕ) → j ≢ 1 → get_or ws j 0 ≡ get_or words j 0 = λ j ne. get_or-set_other words 1 j 0 0 (λ e. ne (omega arith)) in
          let state : (j : ℕ) → get_or ws (state_at j) 0 ≡ get_or words (state_at j) 0 = λ j. same1 (state_at j) (λ e. omega arith) in
          let p : Place Request Reply = away in
          record {
            newest_is = get_or-set_same words 1 0 0 (omega arith);
            links = tt;
            distinct = tt;
            within = tt;
            members = tt;
            parts = λ k f d. put_at two.place c p (λ j q. q ≡ parted f d → Parts stands n ws homes phase j f d) k (λ _ e. absurd (cc)) (λ _ e. let q = r.parts k f d e in (q.0, q.1, q.2, links_same d words ws (line_of f) (λ j. same1 (older_at j) (λ e'. omega arith)) q.3, q.4, q.5));
            outgoing = λ k f. put_at two.place c p (λ j q. q ≡ served f → IsLed phase j f) k (λ _ e. absurd (cc)) (λ _ e. r.outgoing k f e);
            turn_is = (refl, (m, set_here homes (n + 1) (some (TheRight m)) (omega arith), stood));
            in_front = λ k h. put_at two.place c p (λ j q. InFront j mode → q ≡ away) k (λ is h'. let hh : InFront c mode = subst (λ (j : ℕ). InFront j mode) is h' in (let bad : Path (Place Request Reply) (serves g) away = sym is_serves ∙ r.in_front c hh in absurd (cc))) (λ _ h'. r.in_front k h') h;
            quiet = λ k h. put_at two.place c p (λ j q. Holds j mode → Apart q → get_or ws (state_at j) 0 ≢ 4) k (λ is h' _. absurd (un_holds (subst (λ (j : ℕ). Holds j mode) is h'))) (λ _ h' a e. r.quiet k h' a (sym (state k) ∙ e)) h;
            quiet_queued = λ k f. put_at two.place c p (λ j q. q ≡ queued f → get_or ws (state_at j) 0 ≢ 4) k (λ _ e. absurd (cc)) (λ _ e e'. r.quiet_queued k f e (sym (state k) ∙ e'));
            called_turn = λ k f. put_at two.place c p (λ j q. q ≡ called f → still ≡ calls j) k (λ _ e. absurd (cc)) (λ _ e. let bad : held_by c ≡ calls k = sym turn_c ∙ r.called_turn k f e in absurd (cc));
            ahead_holds = r.ahead_holds;
            in_level = subst (λ (z : Bool). Level stands z (two_stops c g) last) (sym piped) (subst (λ (z : List (Handling Request Reply) × List (Squad Request Reply)). InStep z.0 z.1 last two.lead) (λ i. ((same i).to, nil i)) first.1);
            made = none_made stands.given two.lead;
          }

      -- a group came after this one: the link of the next group's leader is cleared
      abbrev pub two_clears : ℕ → Squad Request Reply → ℕ → List (Squad Request Reply) → Two Request Reply
      two_clears c g w newer = record { groups = newer; place = put two.place c (served g); turn = passes c w; lead = two.lead; done = g.to }

      pub second_clears : (c v : ℕ) (g : Squad Request Reply) (q : List (QueuedWriter Request)) (x : QueuedWriter Request) → two.turn ≡ held_by c → two.place c ≡ serves g → two.lead ≢ ahead c → (Holds c mode → ⊥) → flat two.groups ≡ q ++ x ∷ line_of g → v ≡ pack 0 x.code → length words ≡ 2 * n + 4
          → (newer : List (Squad Request Reply)) × (0 < x.by) × (x.by ≤ n) × (phase x.by ≡ leads x) × (two.place x.by ≢ away) × Second stands n (set words (older_at x.by) v) homes phase mode last (two_clears c g x.by newer) × (two.groups ≡ newer ++ g ∷ [])
      second_clears c v g q x turn_c is_serves un un_holds walk is_v wide =
          let t = subst (InTurn stands n words homes phase two) turn_c r.turn_is in
          let newer : List (Squad Request Reply) = t.0 in
          let same : t.1 ≡ g = one_serves t.1 g (sym t.3 ∙ is_serves) in
          let split : flat two.groups ≡ flat newer ++ line_of g = ap flat t.2 ∙ (flat_snoc newer t.1 ∙ ap (λ (f : Squad Request Reply). flat newer ++ line_of f) same) in
          let flat_is : flat newer ≡ q ++ x ∷ [] = append_cancel_right (flat newer) (q ++ x ∷ []) (line_of g) (sym split ∙ (walk ∙ sym (append_assoc q (x ∷ []) (line_of g)))) in
          let next : (nw : List (Squad Request Reply)) × (g2 : Squad Request Reply) × (newer ≡ nw ++ g2 ∷ []) = ⊎_elim (λ (e : newer ≡ []). absurd (not_snoc q x (sym flat_is ∙ ap flat e))) (λ (k : (nw : List (Squad Request Reply)) × (g2 : Squad Request Reply) × (newer ≡ nw ++ g2 ∷ [])). k) (ends_or newer) in
          let g2 : Squad Request Reply = next.1 in
          let own_x : g2.own ≡ x = same_last (flat next.0 ++ g2.rest) q g2.own x (append_assoc (flat next.0) g2.rest (g2.own ∷ []) ∙ (sym (flat_snoc next.0 g2) ∙ (ap flat (sym next.2) ∙ flat_is))) in
          let members_newer : AllGroups phase two.place newer = groups_newer phase two.place newer t.1 (subst (AllGroups phase two.place) t.2 r.members) in
          let at2 = groups_at phase two.place next.0 g2 (subst (AllGroups phase two.place) next.2 members_newer) in
          let now_x : phase x.by ≡ leads x = subst (λ (e : QueuedWriter Request). phase e.by ≡ leads e) own_x at2.0 in
          let whole : Distinct (flat newer ++ line_of g) = subst Distinct split r.distinct in
          let out_c : Absent c (flat newer) = subst (λ (j : ℕ). Absent j (flat newer)) (ap (λ (f : Squad Request Reply). f.own.by) (sym same) ∙ t.4) (absent_front g.own.by (flat newer) g.rest (distinct_apart (flat newer ++ g.rest) g.own [] (subst Distinct (sym (append_assoc (flat newer) g.rest (g.own ∷ []))) whole))) in
          let out_x : Absent x.by q = distinct_apart q x (line_of g) (subst Distinct walk r.distinct) in
          let range = within_at n q x (line_of g) (subst (Within n) walk r.within) in
          let first = step_first two.lead two.done last c newer t.1 t.4 un (subst (λ (l : List (Squad Request Reply)). InStep two.done l last two.lead) t.2 step_of) in
          let lo : 0 < x.by = range.0 in
          let hi : x.by ≤ n = range.1 in
          let ws : List ℕ = set words (older_at x.by) v in
          let samew : (j : ℕ) → j ≢ older_at x.by → get_or ws j 0 ≡ get_or words j 0 = λ j ne. get_or-set_other words (older_at x.by) j v 0 (λ e. ne (omega arith)) in
          let older : (j : ℕ) → j ≢ x.by → get_or ws (older_at j) 0 ≡ get_or words (older_at j) 0 = λ j ne. samew (older_at j) (λ e. ne (omega arith)) in
          let state : (j : ℕ) → get_or ws (state_at j) 0 ≡ get_or words (state_at j) 0 = λ j. samew (state_at j) (λ e. omega arith) in
          let own_at = groups_at phase two.place newer t.1 (subst (AllGroups phase two.place) t.2 r.members) in
          let led_c : IsLed phase c g = subst (IsLed phase c) same (t.4, subst (λ (j : ℕ). phase j ≡ leads t.1.own) t.4 own_at.0, subst (λ (j : ℕ). AllWith phase j t.1.rest) t.4 own_at.2) in
          let p : Place Request Reply = served g in (
            newer,
            lo,
            hi,
            now_x,
            in_not_away g2 (two.place x.by) (subst (λ (y : QueuedWriter Request). In g2 (two.place y.by)) own_x at2.1),
            record {
              newest_is = samew 1 (λ e. omega arith) ∙ (r.newest_is ∙ (ap newest walk ∙ (newest_cut q x (line_of g) ∙ ap newest (sym flat_is))));
              links = subst (Links ws) (sym flat_is) (links_cut words ws q x (line_of g) older (get_or-set_same words (older_at x.by) v 0 (omega arith) ∙ is_v) out_x (subst (Links words) walk r.links));
              distinct = distinct_front (flat newer) (line_of g) whole;
              within = within_front n (flat newer) (line_of g) (subst (Within n) split r.within);
              members = groups_put phase two.place c p newer out_c members_newer;
              parts = λ k f d. put_at two.place c p (λ j z. z ≡ parted f d → Parts stands n ws homes phase j f d) k (λ _ e. absurd (cc)) (λ _ e. let z = r.parts k f d e in (
                z.0,
                z.1,
                z.2,
                links_stay d words ws x.by (line_of f) older (absent_append x.by f.rest (f.own ∷ []) (with_absent phase x.by k f.rest (λ y bad. absurd (cc)) z.2)
                    ((λ is. subst (In g2) (ap two.place (ap (λ (y : QueuedWriter Request). y.by) own_x ∙ (sym is ∙ z.0)) ∙ e) at2.1), tt)) z.3,
                z.4,
                z.5,
              ));
              outgoing = λ k f. put_at two.place c p (λ j q. q ≡ served f → IsLed phase j f) k (λ is e. subst (λ (z : ℕ × Squad Request Reply). IsLed phase z.0 z.1) (λ i. (sym is i, one_served g f e i)) led_c) (λ _ e. r.outgoing k f e);
              turn_is = (next.0, g2, next.2, ap (λ (y : QueuedWriter Request). y.by) own_x);
              in_front = λ k h. put_at two.place c p (λ j q. InFront j mode → q ≡ away) k (λ is h'. let hh : InFront c mode = subst (λ (j : ℕ). InFront j mode) is h' in (let bad : Path (Place Request Reply) (serves g) away = sym is_serves ∙ r.in_front c hh in absurd (cc))) (λ _ h'. r.in_front k h') h;
              quiet = λ k h. put_at two.place c p (λ j z. Holds j mode → Apart z → get_or ws (state_at j) 0 ≢ 4) k (λ is h' _. absurd (un_holds (subst (λ (j : ℕ). Holds j mode) is h'))) (λ _ h' a e. r.quiet k h' a (sym (state k) ∙ e)) h;
              quiet_queued = λ k f. put_at two.place c p (λ j z. z ≡ queued f → get_or ws (state_at j) 0 ≢ 4) k (λ _ e. absurd (cc)) (λ _ e e'. r.quiet_queued k f e (sym (state k) ∙ e'));
              called_turn = λ k f. put_at two.place c p (λ j z. z ≡ called f → passes c x.by ≡ calls j) k (λ _ e. absurd (cc)) (λ _ e. let bad : held_by c ≡ calls k = sym turn_c ∙ r.called_turn k f e in absurd (cc));
              ahead_holds = r.ahead_holds;
              in_level = subst (λ (z : Bool). Level stands z (two_clears c g x.by newer) last) (sym piped) (subst (λ (z : List (Handling Request Reply)). InStep z newer last two.lead) (ap (λ (f : Squad Request Reply). f.to) same) first.1);
              made = made_newer stands.given two.lead newer (t.1 ∷ []) (subst (λ (l : List (Squad Request Reply)). AreMade stands.given (handed_on l two.lead)) t.2 r.made);
            },
            t.2 ∙ ap (λ (f : Squad Request Reply). newer ++ f ∷ []) same,
          )

    -- the leader that gives the right on is in no list any more
    abbrev pub two_ends : ℕ → Two Request Reply
    two_ends c = record { groups = two.groups; place = put two.place c away; turn = two.turn; lead = two.lead; done = two.done }

    pub second_ends : (c : ℕ) (g : Squad Request Reply) → two.place c ≡ served g → Second stands n words homes phase mode last (two_ends c)
    second_ends c g is_served =
        let led_c : IsLed phase c g = r.outgoing c g is_served in
        let out : Absent c (flat two.groups) = absent_groups phase two.place c two.groups (λ f t. subst (In f) is_served t) (λ k e bad. let was : phase c ≡ leads g.own = led_c.1 in absurd (cc)) r.members in
        let p : Place Request Reply = away in
        record {
          newest_is = r.newest_is;
          links = r.links;
          distinct = r.distinct;
          within = r.within;
          members = groups_put phase two.place c p two.groups out r.members;
          parts = λ k f b. put_at two.place c p (λ j q. q ≡ parted f b → Parts stands n words homes phase j f b) k (λ _ e. absurd (cc)) (λ _ e. r.parts k f b e);
          outgoing = λ k f. put_at two.place c p (λ j q. q ≡ served f → IsLed phase j f) k (λ _ e. absurd (cc)) (λ _ e. r.outgoing k f e);
          turn_is = turn_put words homes phase two.groups two.place two.turn two.lead two.lead two.done c p
              (λ f e. let bad : Path (Place Request Reply) (served g) (called f) = sym is_served ∙ e in absurd (cc)) (λ f e. let bad : Path (Place Request Reply) (served g) (serves f) = sym is_served ∙ e in absurd (cc)) two.turn r.turn_is;
          in_front = λ k h. put_at two.place c p (λ j q. InFront j mode → q ≡ away) k (λ _ _. refl) (λ _ h'. r.in_front k h') h;
          quiet = λ k h. put_at two.place c p (λ j q. Holds j mode → Apart q → get_or words (state_at j) 0 ≢ 4) k (λ is h' _. subst (λ (j : ℕ). Holds j mode → get_or words (state_at j) 0 ≢ 4) (sym is) (λ hc. r.quiet c hc (subst Apart (sym is_served) tt)) h') (λ ne h' a. r.quiet k h' a) h;
          quiet_queued = λ k f. put_at two.place c p (λ j q. q ≡ queued f → get_or words (state_at j) 0 ≢ 4) k (λ _ e. absurd (cc)) (λ _ e. r.quiet_queued k f e);
          called_turn = λ k f. put_at two.place c p (λ j q. q ≡ called f → two.turn ≡ calls j) k (λ _ e. absurd (cc)) (λ _ e. r.called_turn k f e);
          ahead_holds = r.ahead_holds;
          in_level = level_put two.groups two.place (put two.place c p) two.turn two.turn two.lead two.done last stands.piped r.in_level;
          made = r.made;
        }

    -- the next leader is called, and the right goes home for it
    abbrev pub two_calls : ℕ → Squad Request Reply → Two Request Reply
    two_calls w g = record { groups = two.groups; place = put two.place w (called g); turn = calls w; lead = two.lead; done = two.done }

    pub second_calls : (c w : ℕ) (m : Right) → two.turn ≡ passes c w → stands.rights m two.done → length words ≡ 2 * n + 4 → length homes ≡ n + 2
        → (g : Squad Request Reply) × In g (two.place w) × (0 < w) × (w ≤ n) × (phase w ≡ leads g.own) × Second stands n (set words (state_at w) 4) (set homes (n + 1) (some (TheRight m))) phase mode last (two_calls w g)
    second_calls c w m turn_c stood wide many =
        let t = subst (InTurn stands n words homes phase two) turn_c r.turn_is in
        let g : Squad Request Reply = t.1 in
        let at = groups_at phase two.place t.0 g (subst (AllGroups phase two.place) t.2 r.members) in
        let is_in : In g (two.place w) = subst (λ (j : ℕ). In g (two.place j)) t.3 at.1 in
        let parts_flat : flat two.groups ≡ (flat t.0 ++ g.rest) ++ g.own ∷ [] = ap flat t.2 ∙ (flat_snoc t.0 g ∙ sym (append_assoc (flat t.0) g.rest (g.own ∷ []))) in
        let range = within_at n (flat t.0 ++ g.rest) g.own [] (subst (Within n) parts_flat r.within) in
        let lo : 0 < w = subst (λ (j : ℕ). 0 < j) t.3 range.0 in
        let hi : w ≤ n = subst (λ (j : ℕ). j ≤ n) t.3 range.1 in
        let ws : List ℕ = set words (state_at w) 4 in
        let same : (j : ℕ) → j ≢ state_at w → get_or ws j 0 ≡ get_or words j 0 = λ j ne. get_or-set_other words (state_at w) j 4 0 (λ e. ne (omega arith)) in
        let older : (j : ℕ) → get_or ws (older_at j) 0 ≡ get_or words (older_at j) 0 = λ j. same (older_at j) (λ e. omega arith) in
        let state : (j : ℕ) → j ≢ w → get_or ws (state_at j) 0 ≡ get_or words (state_at j) 0 = λ j ne. same (state_at j) (λ e. ne (omega arith)) in
        let p : Place Request Reply = called g in (
          g,
          is_in,
          lo,
          hi,
          subst (λ (j : ℕ). phase j ≡ leads g.own) t.3 at.0,
          record {
            newest_is = same 1 (λ e. omega arith) ∙ r.newest_is;
            links = links_same 0 words ws (flat two.groups) older r.links;
            distinct = r.distinct;
            within = r.within;
            members = groups_turn phase two.place w p two.groups (λ f ok. in_one g f (two.place w) is_in ok) r.members;
            parts = λ k f d. put_at two.place w p (λ j q. q ≡ parted f d → Parts stands n ws homes phase j f d) k (λ _ e. absurd (cc)) (λ _ e. let q = r.parts k f d e in (q.0, q.1, q.2, links_same d words ws (line_of f) older q.3, q.4, q.5));
            outgoing = λ k f. put_at two.place w p (λ j q. q ≡ served f → IsLed phase j f) k (λ _ e. absurd (cc)) (λ _ e. r.outgoing k f e);
            turn_is = ((t.0, g, t.2, put_here two.place w p, t.3, get_or-set_same words (state_at w) 4 0 (omega arith)), (m, set_here homes (n + 1) (some (TheRight m)) (omega arith), stood));
            in_front = λ k h. put_at two.place w p (λ j q. InFront j mode → q ≡ away) k (λ is h'. let hh : InFront w mode = subst (λ (j : ℕ). InFront j mode) is h' in absurd (in_not_away g (two.place w) is_in (r.in_front w hh))) (λ _ h'. r.in_front k h') h;
            quiet = λ k h. put_at two.place w p (λ j q. Apart q → get_or ws (state_at j) 0 ≢ 4) k (λ _ a. absurd a) (λ ne a e. r.quiet k h a (sym (state k ne) ∙ e));
            quiet_queued = λ k f. put_at two.place w p (λ j q. q ≡ queued f → get_or ws (state_at j) 0 ≢ 4) k (λ _ e. absurd (cc)) (λ ne e e'. r.quiet_queued k f e (sym (state k ne) ∙ e'));
            called_turn = λ k f. put_at two.place w p (λ j q. q ≡ called f → calls w ≡ calls j) k (λ is _. ap calls (sym is)) (λ _ e. let bad : passes c w ≡ calls k = sym turn_c ∙ r.called_turn k f e in absurd (cc));
            ahead_holds = r.ahead_holds;
            in_level = level_put two.groups two.place (put two.place w p) two.turn (calls w) two.lead two.done last stands.piped r.in_level;
            made = r.made;
          },
        )

    -- the log is given on, and covers the group
    abbrev pub two_level : Two Request Reply
    two_level = record { groups = two.groups; place = two.place; turn = two.turn; lead = level; done = two.done }

    pub second_hands : (c : ℕ) (last' : List (Handling Request Reply)) (g : Squad Request Reply) → stands.piped ≡ true → two.lead ≡ ahead c → In g (two.place c) → g.to ≡ last' → (g.from ≡ last → IsMade stands.given g) → Second stands n words homes phase mode last' two_level
    second_hands c last' g piped is_ahead is_in to_is is_made =
        let s : InStep two.done two.groups last (ahead c) = subst (InStep two.done two.groups last) is_ahead (subst (λ (b : Bool). Level stands b two last) piped r.in_level) in
        let head : AllGroups phase two.place (s.0 ∷ s.1) = subst (AllGroups phase two.place) s.2 r.members in
        let same : s.0 ≡ g = in_one s.0 g (two.place c) (subst (λ (j : ℕ). In s.0 (two.place j)) s.4 head.1) is_in in
        let chain : Chained two.done (s.0 ∷ s.1) last' = (ap (λ (f : Squad Request Reply). f.to) same ∙ to_is, subst (λ (k : List (Handling Request Reply)). Chained two.done s.1 k) (sym s.3) s.5) in
        record {
          newest_is = r.newest_is;
          links = r.links;
          distinct = r.distinct;
          within = r.within;
          members = r.members;
          parts = r.parts;
          outgoing = r.outgoing;
          turn_is = turn_lead words homes phase two.groups two.place two.turn two.lead level two.done two.turn r.turn_is;
          in_front = r.in_front;
          quiet = r.quiet;
          quiet_queued = r.quiet_queued;
          called_turn = r.called_turn;
          ahead_holds = λ k e. absurd (cc);
          in_level = subst (λ (z : Bool). Level stands z two_level last') (sym piped) (subst (λ (l : List (Squad Request Reply)). Chained two.done l last') (sym s.2) chain);
          made = subst (AreMade stands.given) (sym s.2) (
            subst (IsMade stands.given) (sym same) (is_made (sym (ap (λ (f : Squad Request Reply). f.from) same) ∙ s.3)),
            subst (λ (z : List (Squad Request Reply) × Lead2). AreMade stands.given (handed_on z.0 z.1)) (λ i. (s.2 i, is_ahead i)) r.made,
          );
        }
