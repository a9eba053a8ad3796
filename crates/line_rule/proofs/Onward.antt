-- How a group leaves the first list for the second, and what others know meanwhile.
use Rattle.std.proofs.Common.{◌≡◌, ◌≢◌, ℕ, List, [], ◌∷◌, ◌++◌, refl, sym, ap, ◌∙◌, subst, inl, append-nil}
use mathlib.Core.Option.{Option, none, some}
use Rattle.line_rule.specs.declared.view.QueuedWriter.{QueuedWriter}
use Rattle.line_rule.specs.declared.view.Handling.{Handling}
use Rattle.line_rule.specs.declared.view.LineHold.{LineHold}
use Rattle.line_rule.specs.declared.view.Lead.{Lead}
use Rattle.line_rule.specs.declared.view.Squad.{Squad}
use Rattle.line_rule.specs.declared.view.Back.{Back}
use Rattle.line_rule.specs.declared.view.Back.TheVariants.{Away, Parting, Joining, Holding, Queued, Serving, Passing}
use Rattle.line_rule.specs.declared.view.LineStage.{LineStage}
use Rattle.line_rule.specs.declared.content.LineSlot.{LineSlot}
use Rattle.line_rule.specs.Chain.{Links, Distinct, Within, EndsWith}
use Rattle.line_rule.specs.Standing.{Phase, leads, Mode, InFront, Place, away, parted, queued, called, serves, served, Turn, still, calls, held_by, passes, level, ahead, Two, flat, In, Behind, KnowsBack}
use Rattle.line_rule.specs.Laws.{Laws}
use Rattle.line_rule.specs.Rule.{AllTaken, AllWith, Second, hold_at}
use Rattle.line_rule.specs.Made.{IsMade}
use Rattle.line_rule.specs.Plays.{in_hand, squad_at_cut, back_after_cut, back_after_log, HandsOn, IsOwnGroup}
use Rattle.line_rule.specs.Events.{Core, IsOfGroup, grouped}
use Rattle.line_rule.specs.SecondList.{SecondList, apart_in, served_in, last_served, second_list_of, IsPut, IsAhead, after_handing_on}
use Rattle.line_rule.specs.Steps.{IsBoundary, IsCutAs}
use Rattle.line_rule.proofs.Chains.{put, put_at, put_here, put_else, ends_trans}
use Rattle.line_rule.proofs.Enters.{own}
use Rattle.line_rule.proofs.Keeps.{second_stays, level_same}
use Rattle.line_rule.proofs.Seconds.{second_parts, second_hands}
use Rattle.line_rule.proofs.Squads.{behind_in, one_ahead}

module _ {Request Reply : Type 0} where
  -- what a client knows stays true, where its place and its turn stay
  pub back_map : (a z : Two Request Reply) (k : ℕ) → z.place k ≡ a.place k → (a.turn ≡ held_by k → (z.turn ≡ held_by k) × EndsWith (flat z.groups) (flat a.groups)) → ((w : ℕ) → a.turn ≡ passes k w → (z.turn ≡ passes k w) × (z.done ≡ a.done))
      → (a.lead ≡ ahead k → z.lead ≡ ahead k) → (z.lead ≡ ahead k → a.lead ≡ ahead k) → (b : Back Request Reply) → KnowsBack a k b → KnowsBack z k b
  back_map a z k same to_h to_p to_l of_l Away ok = (same ∙ ok.0, λ e. ok.1 (of_l e))
  back_map a z k same to_h to_p to_l of_l (Parting g d) ok = (same ∙ ok.0, λ e. ok.1 (of_l e))
  back_map a z k same to_h to_p to_l of_l (Joining g) ok = (subst (Behind g) (sym same) ok.0, to_l ok.1)
  back_map a z k same to_h to_p to_l of_l (Holding g) ok = ((to_h ok.0).0, same ∙ ok.1, to_l ok.2)
  back_map a z k same to_h to_p to_l of_l (Queued g) ok = (subst (Behind g) (sym same) ok.0, λ e. ok.1 (of_l e))
  back_map a z k same to_h to_p to_l of_l (Serving g walk) ok = ((to_h ok.0).0, same ∙ ok.1, (λ e. ok.2 (of_l e)), ends_trans (flat z.groups) (flat a.groups) walk (to_h ok.0).1 ok.3)
  back_map a z k same to_h to_p to_l of_l (Passing g x) ok = let t = to_p x.by ok.0 in (t.0, same ∙ ok.1, (λ e. ok.2 (of_l e)), t.1 ∙ ok.3)

  abbrev pub parts_two : Two Request Reply → ℕ → Squad Request Reply → ℕ → Two Request Reply
  parts_two two c g b = record { groups = two.groups; place = put two.place c (parted g b); turn = two.turn; lead = two.lead; done = two.done }

  abbrev pub level_two : Two Request Reply → Two Request Reply
  level_two two = record { groups = two.groups; place = two.place; turn = two.turn; lead = level; done = two.done }

  -- the second list is as it was if c's place changes, but neither the group that c has apart nor the one that is
  -- served last
  pub second_put : (two : Two Request Reply) (c : ℕ) (p : Place Request Reply) (turn : Turn) → apart_in p ≡ apart_in (two.place c) → last_served (put two.place c p) turn ≡ last_served two.place two.turn → Path (SecondList Request Reply) (two.groups ++ last_served (put two.place c p) turn, two.lead, λ k. apart_in (put two.place c p k)) (second_list_of two)
  second_put two c p turn is same i = (two.groups ++ same i, two.lead, λ k. put_at two.place c p (λ j x. apart_in x ≡ apart_in (two.place j)) k (λ e. is ∙ ap (λ j. apart_in (two.place j)) (sym e)) (λ _. refl) i)

  pub apart_same : (place : ℕ → Place Request Reply) (c : ℕ) (p : Place Request Reply) → apart_in p ≡ apart_in (place c) → Path (ℕ → Option (Squad Request Reply)) (λ k. apart_in (put place c p k)) (λ k. apart_in (place k))
  apart_same place c p is i = λ k. put_at place c p (λ j x. apart_in x ≡ apart_in (place j)) k (λ e. is ∙ ap (λ j. apart_in (place j)) (sym e)) (λ _. refl) i

  -- the group that is served last stays the same
  pub served_put : (place : ℕ → Place Request Reply) (c : ℕ) (p : Place Request Reply) → served_in p ≡ served_in (place c) → (turn : Turn) → last_served (put place c p) turn ≡ last_served place turn
  served_put place c p is still = refl
  served_put place c p is (calls k) = refl
  served_put place c p is (held_by k) = refl
  served_put place c p is (passes k w) = put_at place c p (λ j x. served_in x ≡ served_in (place j)) k (λ e. is ∙ ap (λ j. served_in (place j)) (sym e)) (λ _. refl)

  pub none_served : (place : ℕ → Place Request Reply) (turn : Turn) → ((k w : ℕ) → turn ≡ passes k w → ⊥) → last_served place turn ≡ []
  none_served place still un = refl
  none_served place (calls k) un = refl
  none_served place (held_by k) un = refl
  none_served place (passes k w) un = absurd (un k w refl)

  pub apart_put : (place : ℕ → Place Request Reply) (c : ℕ) (p : Place Request Reply) → IsPut c (apart_in p) (λ k. apart_in (place k)) (λ k. apart_in (put place c p k))
  apart_put place c p = (ap apart_in (put_here place c p), λ k ne. ap apart_in (put_else place c p k ne))

  -- a client whose group is in the second list has no group apart
  pub behind_apart : (g : Squad Request Reply) (p : Place Request Reply) → Behind g p → apart_in p ≡ none
  behind_apart g away ok = absurd ok
  behind_apart g (parted f k) ok = absurd ok
  behind_apart g (queued f) ok = refl
  behind_apart g (called f) ok = refl
  behind_apart g (serves f) ok = absurd ok
  behind_apart g (served f) ok = absurd ok

  pub in_apart : (g : Squad Request Reply) (p : Place Request Reply) → In g p → apart_in p ≡ none
  in_apart g away ok = absurd ok
  in_apart g (parted f k) ok = absurd ok
  in_apart g (queued f) ok = refl
  in_apart g (called f) ok = refl
  in_apart g (serves f) ok = refl
  in_apart g (served f) ok = absurd ok

  -- a group is cut off for the second list
  pub is_boundary : (two : Two Request Reply) (c : ℕ) (g : Squad Request Reply) (k k' : Core Request Reply) → k' ≡ k → k.1 ≡ grouped g.own g.rest → two.place c ≡ away → g.own.by ≡ c → IsBoundary c g (k, second_list_of two) (k', second_list_of (parts_two two c g 0))
  is_boundary two c g k k' same is there own = (own, is, ap apart_in there, same, ap (λ l. two.groups ++ l) (served_put two.place c (parted g 0) (sym (ap served_in there)) two.turn), refl, apart_put two.place c (parted g 0))

  pub parts_else : (two : Two Request Reply) (c : ℕ) (g : Squad Request Reply) (d k : ℕ) → k ≢ c → (b : Back Request Reply) → KnowsBack two k b → KnowsBack (parts_two two c g d) k b
  parts_else two c g d k ne = back_map two (parts_two two c g d) k (put_else two.place c (parted g d) k ne) (λ h. (h, ([], refl))) (λ w h. (h, refl)) (λ h. h) (λ h. h)

module _ {Request : Type 0} where
  pub links_back : (words : List ℕ) (a b : List (QueuedWriter Request)) → Links words (a ++ b) → Links words b
  links_back words [] b ok = ok
  links_back words (e ∷ es) b ok = links_back words es b ok.1

  pub within_back : (n : ℕ) (a b : List (QueuedWriter Request)) → Within n (a ++ b) → Within n b
  within_back n [] b ok = ok
  within_back n (e ∷ es) b ok = within_back n es b ok.2

module _ {Request Reply : Type 0} where
  pub one_hold_at : (c c' : ℕ) (st st' : LineStage Request Reply) (a b : List (Request × Reply)) (y z : Back Request Reply) (v : List (LineHold Request Reply)) → v ≡ hold_at c st a y ∷ [] → v ≡ hold_at c' st' b z ∷ [] → (c ≡ c') × (st ≡ st') × (a ≡ b) × (y ≡ z)
  one_hold_at c c' st st' a b y z v p q = let e = sym p ∙ q in (ap (λ l. (own l).client) e, ap (λ l. (own l).stage) e, ap (λ l. (own l).mine) e, ap (λ l. (own l).back) e)

  pub taken_with : (phase : ℕ → Phase Request Reply) (due : ℕ → List (Request × Reply)) (c : ℕ) (es : List (QueuedWriter Request)) → AllTaken phase due c es → AllWith phase c es
  taken_with phase due c [] ok = tt
  taken_with phase due c (e ∷ es) ok = (ok.0, taken_with phase due c es ok.2)

  abbrev pub cut_two : Option (List (Handling Request Reply)) → Two Request Reply → ℕ → Lead Request Reply → Two Request Reply
  cut_two none two c lead = two
  cut_two (some k) two c lead = parts_two two c (squad_at_cut lead k) 0

  pub is_cut_as : (ch : Option (List (Handling Request Reply))) (two : Two Request Reply) (c : ℕ) (lead : Lead Request Reply) (k k' : Core Request Reply) → k' ≡ k → k.1 ≡ grouped lead.own lead.taken → two.place c ≡ away → lead.own.by ≡ c → IsCutAs ch c lead (k, second_list_of two) (k', second_list_of (cut_two ch two c lead))
  is_cut_as none two c lead k k' same is there own = λ i. (same i, second_list_of two)
  is_cut_as (some from) two c lead k k' same is there own = is_boundary two c (squad_at_cut lead from) k k' same is there own

  pub cut_back : (ch : Option (List (Handling Request Reply))) (two : Two Request Reply) (c : ℕ) (lead : Lead Request Reply) → KnowsBack two c Away → KnowsBack (cut_two ch two c lead) c (back_after_cut ch lead)
  cut_back none two c lead ok = ok
  cut_back (some k) two c lead ok = (put_here two.place c (parted (squad_at_cut lead k) 0), ok.1)

  pub cut_else : (ch : Option (List (Handling Request Reply))) (two : Two Request Reply) (c : ℕ) (lead : Lead Request Reply) (k : ℕ) → k ≢ c → (b : Back Request Reply) → KnowsBack two k b → KnowsBack (cut_two ch two c lead) k b
  cut_else none two c lead k ne b ok = ok
  cut_else (some j) two c lead k ne b ok = parts_else two c (squad_at_cut lead j) 0 k ne b ok

module _ {Request Reply Log Right : Type 0} (stands : Laws Request Reply Log Right) (n : ℕ) where
  pub cut_second : (ch : Option (List (Handling Request Reply))) (words : List ℕ) (homes : List (Option (LineSlot Request Reply Log Right))) (phase : ℕ → Phase Request Reply) (mode : Mode Request) (last : List (Handling Request Reply)) (two : Two Request Reply) (c : ℕ) (lead : Lead Request Reply) → Second stands n words homes phase mode last two → two.place c ≡ away → lead.own.by ≡ c → phase c ≡ leads lead.own
      → AllWith phase c lead.taken → Links words (in_hand lead) → Distinct (in_hand lead) → Within n (in_hand lead) → (InFront c mode → ⊥) → Second stands n words homes phase mode last (cut_two ch two c lead)
  cut_second none words homes phase mode last two c lead r is_away by_c now with linked apart inside un = r
  cut_second (some k) words homes phase mode last two c lead r is_away by_c now with linked apart inside un = second_parts stands n words homes phase mode last two r c (squad_at_cut lead k) is_away by_c now with linked apart inside un

  abbrev pub Hands : Back Request Reply → List (Handling Request Reply) → List (Handling Request Reply) → Type 0
  Hands b seen now = HandsOn stands.piped stands.given b seen now

  abbrev pub onward_two : Back Request Reply → Two Request Reply → Two Request Reply
  onward_two Away two = two
  onward_two (Parting g d) two = two
  onward_two (Joining g) two = level_two two
  onward_two (Holding g) two = level_two two
  onward_two (Queued g) two = two
  onward_two (Serving g walk) two = two
  onward_two (Passing g x) two = two

  pub is_ahead : (b : Back Request Reply) (two : Two Request Reply) (c j : ℕ) → j ≡ c → KnowsBack two c b → IsAhead b j two.lead
  is_ahead b two c j same ok = subst (λ k. IsAhead b k two.lead) (sym same) (known b ok)
    where
      known : (y : Back Request Reply) → KnowsBack two c y → IsAhead y c two.lead
      known Away k = k.1
      known (Parting g d) k = k.1
      known (Joining g) k = k.1
      known (Holding g) k = k.2
      known (Queued g) k = k.1
      known (Serving g walk) k = k.2
      known (Passing g x) k = k.2

  pub onward_second : (b : Back Request Reply) (two : Two Request Reply) → second_list_of (onward_two b two) ≡ after_handing_on b (second_list_of two)
  onward_second Away two = refl
  onward_second (Parting g d) two = refl
  onward_second (Joining g) two = refl
  onward_second (Holding g) two = refl
  onward_second (Queued g) two = refl
  onward_second (Serving g walk) two = refl
  onward_second (Passing g x) two = refl

  -- a group that its leader has handled
  made_by : (g : Squad Request Reply) (own : QueuedWriter Request) (rest : List (QueuedWriter Request)) (seen more : List (Handling Request Reply)) → (g.own ≡ own) × (g.rest ≡ rest) → IsOfGroup own rest more → g.to ≡ stands.given (seen ++ more) → g.from ≡ stands.given seen → IsMade stands.given g
  made_by g own rest seen more group theirs to_is from_is = record {
    seen = seen;
    made = more;
    theirs = subst (λ (z : QueuedWriter Request × List (QueuedWriter Request)). IsOfGroup z.0 z.1 more) (λ i. (sym group.0 i, sym group.1 i)) theirs;
    from = from_is;
    to = to_is;
  }

  pub second_onward : (b : Back Request Reply) (words : List ℕ) (homes : List (Option (LineSlot Request Reply Log Right))) (phase : ℕ → Phase Request Reply) (mode : Mode Request) (two : Two Request Reply) (c : ℕ) (own : QueuedWriter Request) (rest : List (QueuedWriter Request)) (seen more : List (Handling Request Reply)) → KnowsBack two c b → Hands b seen (seen ++ more) → IsOwnGroup own rest b → IsOfGroup own rest more
      → Second stands n words homes phase mode (stands.given seen) two → Second stands n words homes phase mode (stands.given (seen ++ more)) (onward_two b two)
  second_onward Away words homes phase mode two c own rest seen more ok hands group theirs r = second_stays stands n words words homes homes phase phase mode mode (stands.given seen) (stands.given (seen ++ more)) two refl (λ k _. (refl, (λ _ _. refl), refl)) (λ k e. e) refl (λ k h. inl h) (λ k h. inl h) (λ k _ h. h)
      (level_same stands n stands.piped two (stands.given seen) (stands.given (seen ++ more)) hands) r
  second_onward (Parting g d) words homes phase mode two c own rest seen more ok hands group theirs r = absurd hands
  second_onward (Joining g) words homes phase mode two c own rest seen more ok hands group theirs r =
      second_hands stands n words homes phase mode (stands.given seen) two r c (stands.given (seen ++ more)) g hands.0 ok.1 (behind_in g (two.place c) ok.0) hands.1 (made_by g own rest seen more group theirs hands.1)
  second_onward (Holding g) words homes phase mode two c own rest seen more ok hands group theirs r =
      second_hands stands n words homes phase mode (stands.given seen) two r c (stands.given (seen ++ more)) g hands.0 ok.2 (subst (In g) (sym ok.1) refl) hands.1 (made_by g own rest seen more group theirs hands.1)
  second_onward (Queued g) words homes phase mode two c own rest seen more ok hands group theirs r = absurd hands
  second_onward (Serving g walk) words homes phase mode two c own rest seen more ok hands group theirs r = absurd hands
  second_onward (Passing g x) words homes phase mode two c own rest seen more ok hands group theirs r = absurd hands

  pub onward_free : (b : Back Request Reply) (two : Two Request Reply) (c : ℕ) (seen now : List (Handling Request Reply)) → KnowsBack two c b → Hands b seen now → (onward_two b two).lead ≡ ahead c → ⊥
  onward_free Away two c seen now ok hands e = ok.1 e
  onward_free (Parting g d) two c seen now ok hands e = hands
  onward_free (Joining g) two c seen now ok hands e = absurd (cc)
  onward_free (Holding g) two c seen now ok hands e = absurd (cc)
  onward_free (Queued g) two c seen now ok hands e = hands
  onward_free (Serving g walk) two c seen now ok hands e = hands
  onward_free (Passing g x) two c seen now ok hands e = hands

  pub onward_back : (b : Back Request Reply) (two : Two Request Reply) (c : ℕ) (seen now : List (Handling Request Reply)) → KnowsBack two c b → Hands b seen now → KnowsBack (onward_two b two) c (back_after_log b)
  onward_back Away two c seen now ok hands = ok
  onward_back (Parting g d) two c seen now ok hands = absurd hands
  onward_back (Joining g) two c seen now ok hands = (ok.0, λ e. absurd (cc))
  onward_back (Holding g) two c seen now ok hands = (ok.0, ok.1, (λ e. absurd (cc)), (flat two.groups, sym (append-nil (flat two.groups))))
  onward_back (Queued g) two c seen now ok hands = absurd hands
  onward_back (Serving g walk) two c seen now ok hands = absurd hands
  onward_back (Passing g x) two c seen now ok hands = absurd hands

  level_else : (two : Two Request Reply) (c k : ℕ) → two.lead ≡ ahead c → k ≢ c → (b : Back Request Reply) → KnowsBack two k b → KnowsBack (level_two two) k b
  level_else two c k is ne = back_map two (level_two two) k refl (λ h. (h, ([], refl))) (λ w h. (h, refl)) (λ h. absurd (ne (one_ahead k c (sym h ∙ is)))) (λ h. absurd (cc))

  pub onward_else : (b : Back Request Reply) (two : Two Request Reply) (c : ℕ) → KnowsBack two c b → (k : ℕ) → k ≢ c → (y : Back Request Reply) → KnowsBack two k y → KnowsBack (onward_two b two) k y
  onward_else Away two c is k ne y ok = ok
  onward_else (Parting g d) two c is k ne y ok = ok
  onward_else (Joining g) two c is k ne y ok = level_else two c k is.1 ne y ok
  onward_else (Holding g) two c is k ne y ok = level_else two c k is.2 ne y ok
  onward_else (Queued g) two c is k ne y ok = ok
  onward_else (Serving g walk) two c is k ne y ok = ok
  onward_else (Passing g x) two c is k ne y ok = ok
