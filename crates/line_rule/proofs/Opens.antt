-- The list at the start, and the seats that are made of the first one.
use Rattle.std.proofs.Common.{Bool, true, false, ◌≡◌, ◌≢◌, ℕ, zero, suc, ◌+◌, ◌-◌, ◌*◌, ◌<◌, ◌≤◌, ◌⊎◌, List, [], ◌∷◌, ◌++◌, length, get_or, set, refl, sym, ap, ◌∙◌, subst, inl, inr, ⊎_elim, arith, map, replicate, length-set, append-nil, append_assoc}
use mathlib.Core.Path.{Path}
use mathlib.Core.Option.{Option, some, some-injective, some-ne-none, none}
use native.Mathlib.Decide.{ℕ_discrete}
use lib.ListN.{get_elem?}
use Rattle.atomic_table.specs.Table.{opening, Splits, Joins}
use Rattle.atomic_table.proofs.Lists.{at_set, set_else}
use Rattle.line_rule.specs.declared.view.QueuedWriter.{QueuedWriter}
use Rattle.line_rule.specs.declared.view.Handling.{Handling}
use Rattle.line_rule.specs.declared.view.LineHold.{LineHold}
use Rattle.line_rule.specs.declared.view.Squad.{Squad}
use Rattle.line_rule.specs.declared.content.LineSlot.{LineSlot}
use Rattle.line_rule.specs.declared.content.LineSlot.TheVariants.{Empty, TheLog, TheRight}
use Rattle.line_rule.specs.declared.view.LineStage.TheVariants.{Idle}
use Rattle.line_rule.specs.Chain.{Within}
use Rattle.line_rule.specs.Standing.{Phase, idle, linked, leads, Mode, open_, waits, led, built, cut, marked, Holds, Two, Place, away, Turn, Lead2, level, ahead, InStep, still, Chained, calls, held_by, passes, flat}
use Rattle.line_rule.specs.Laws.{Laws}
use Rattle.model_base.specs.Halves.{all_but_first, first_only}
use Rattle.line_rule.specs.Rule.{Fits, AllFit, hold, newcomers, Has, AllIdle, Merges, InPhase, LogHome, InMode, Listed, Level, RightHome, AllGroups, InTurn}
use Rattle.line_rule.specs.Events.{free}
use Rattle.line_rule.specs.Steps.{Lists, IsNow}
use Rattle.line_rule.proofs.Chains.{put, put_here, put_else, nobody}
use Rattle.line_rule.proofs.Accounts.{opens_now}
use Rattle.line_rule.proofs.Moves.{St}
use Rattle.line_rule.proofs.Groups.{within_at}
use Rattle.line_rule.specs.declared.words.TheConstants.{STALL}

module _ {A : Type 0} where
  pub at_end : (l : List A) (a b : A) (j : ℕ) → get_elem? (l ++ a ∷ []) j ≡ some b → (get_elem? l j ≡ some b) ⊎ ((j ≡ length l) × (a ≡ b))
  at_end [] a b zero e = inr (refl, some-injective a b e)
  at_end [] a b (suc j) e = absurd (some-ne-none b (sym e))
  at_end (x ∷ xs) a b zero e = inl e
  at_end (x ∷ xs) a b (suc j) e = ⊎_elim (λ t. inl t) (λ t. inr (ap suc t.0, t.1)) (at_end xs a b j e)

  pub at_below : (l : List A) (j : ℕ) (a : A) → get_elem? l j ≡ some a → j < length l
  at_below [] j a e = absurd (some-ne-none a (sym e))
  at_below (x ∷ xs) zero a e = omega arith
  at_below (x ∷ xs) (suc j) a e = let h = at_below xs j a e in omega arith

  replicate_to : (n i : ℕ) (a b : A) → i < n → get_elem? (map some (replicate n a ++ b ∷ [])) i ≡ some (some a)
  replicate_to zero i a b h = absurd (omega arith)
  replicate_to (suc n) zero a b h = refl
  replicate_to (suc n) (suc i) a b h = replicate_to n i a b (omega arith)

  replicate_last : (n : ℕ) (a b : A) → get_elem? (map some (replicate n a ++ b ∷ [])) n ≡ some (some b)
  replicate_last zero a b = refl
  replicate_last (suc n) a b = replicate_last n a b

  length-same : (n : ℕ) (a b : A) → length (map some (replicate n a ++ b ∷ [])) ≡ suc n
  length-same zero a b = refl
  length-same (suc n) a b = ap suc (length-same n a b)

module _ {Request Reply Log Right : Type 0} (stands : Laws Request Reply Log Right) (n : ℕ) where
  -- nobody is in the second list
  abbrev fresh_two : List (Handling Request Reply) → Two Request Reply
  fresh_two k = record { groups = []; place = λ _. away; turn = still; lead = level; done = k }

  new_fit : (m : ℕ) (k : List (Handling Request Reply)) → m ≤ n → AllFit {Request = Request} {Reply = Reply} n [] [] [] open_ (λ _. idle) (λ _. []) (λ _. []) (fresh_two k) [] (λ _. 0) 0 (newcomers m)
  new_fit zero k h = tt
  new_fit (suc m) k h = ((refl, omega arith, h, refl, refl, (refl, (λ e. absurd (cc))), tt), new_fit m k (omega arith))

  even_level : (piped : Bool) → (piped ≡ true → stands.opened ≡ stands.given []) → Level stands piped (fresh_two stands.opened) (stands.given [])
  even_level true even = even refl
  even_level false even = (refl, refl)

  pub opens : (words : List ℕ) (slots : List (LineSlot Request Reply Log Right)) (l : Log) (rt : Right) → n < STALL → length words ≡ 2 * n + 4 → (get_or words 0 0 ≡ 0) × (get_or words 1 0 ≡ 0) → slots ≡ TheLog l ∷ (replicate n Empty ++ TheRight rt ∷ []) → stands.logs l [] → stands.rights rt stands.opened → (stands.piped ≡ true → stands.opened ≡ stands.given []) → Listed stands n (opening words slots (newcomers n))
  opens words slots l rt few wide zero_first are stood right_stood even =
      let at_slot : (i : ℕ) → 0 < i → i ≤ n → get_elem? (map some slots) i ≡ some (some Empty) = λ i lo hi. ap (λ z. get_elem? (map some z) i) are ∙ past i lo hi in
      record {
        line = [];
        hand = [];
        handled = [];
        mode = open_;
        phase = λ _. idle;
        due = λ _. [];
        told = λ _. [];
        seat = λ _. 0;
        few = few;
        nobody = refl;
        wide = wide;
        many = ap (λ z. length (map some z)) are ∙ (ap suc (length-same n Empty (TheRight rt)) ∙ (omega arith));
        newest_is = zero_first.0;
        links = tt;
        distinct = tt;
        within = tt;
        stand = tt;
        rows = λ i lo hi. (at_slot i lo hi, refl);
        log_is = (refl, refl, (l, ap (λ z. get_elem? (map some z) 0) are, stood));
        one_chosen = λ i e bad. absurd (cc);
        account = opens_now stands.bound;
        has_cut = tt;
        owing_is = λ _. refl;
        two = fresh_two stands.opened;
        second = record {
          newest_is = zero_first.1;
          links = tt;
          distinct = tt;
          within = tt;
          members = tt;
          parts = λ c g b bad. absurd (cc);
          outgoing = λ c g bad. absurd (cc);
          turn_is = (refl, (rt, ap (λ z. get_elem? (map some z) (n + 1)) are ∙ (ap (λ j. get_elem? (map some (TheLog l ∷ (replicate n Empty ++ TheRight rt ∷ []))) j) (let e : n + 1 ≡ suc n = omega arith in e) ∙ replicate_last n Empty (TheRight rt)), right_stood));
          in_front = λ c h. absurd h;
          quiet = λ c h _. absurd h;
          quiet_queued = λ c g bad. absurd (cc);
          called_turn = λ c g bad. absurd (cc);
          ahead_holds = λ c bad. absurd (cc);
          in_level = even_level stands.piped even;
          made = tt;
        };
        kept = stands.keeps l [] stood;
        coded = λ i e is. absurd is;
        shared_out = λ i. refl;
        seats = λ j v e. first j v e;
      }
    where
      past : (i : ℕ) → 0 < i → i ≤ n → get_elem? {A = Option (LineSlot Request Reply Log Right)} (map {A = LineSlot Request Reply Log Right} some (TheLog l ∷ (replicate n Empty ++ TheRight rt ∷ []))) i ≡ some (some Empty)
      past zero lo hi = absurd (omega arith)
      past (suc i) lo hi = replicate_to n i Empty (TheRight rt) (omega arith)

      first : (j : ℕ) (v : List (LineHold Request Reply)) → get_elem? (newcomers n ∷ []) j ≡ some v → AllFit n [] [] [] open_ (λ _. idle) (λ _. []) (λ _. []) (fresh_two stands.opened) [] (λ _. 0) j v
      first zero v e = subst (AllFit n [] [] [] open_ (λ _. idle) (λ _. []) (λ _. []) (fresh_two stands.opened) [] (λ _. 0) 0) (some-injective (newcomers n) v e) (new_fit n stands.opened (omega arith))
      first (suc j) v e = absurd (some-ne-none v (sym e))

  -- nobody has come yet
  pub opens_is : (words : List ℕ) (slots : List (LineSlot Request Reply Log Right)) (l : Log) (rt : Right) → n < STALL → length words ≡ 2 * n + 4 → (get_or words 0 0 ≡ 0) × (get_or words 1 0 ≡ 0) → slots ≡ TheLog l ∷ (replicate n Empty ++ TheRight rt ∷ []) → stands.logs l [] → stands.rights rt stands.opened → (stands.piped ≡ true → stands.opened ≡ stands.given []) → IsNow stands n (([], free, [], []), ([], level, λ _. none)) (opening words slots (newcomers n))
  unfolding opens
  opens_is words slots l rt few wide zero_first are stood right_stood even = (opens words slots l rt few wide zero_first are stood right_stood even, refl)

  module _ (s : St stands n) (r : Listed stands n s) (c k : ℕ) where
    seat' : ℕ → ℕ
    seat' = put r.seat c k

    -- clients other than c keep their seats
    seats_stay : (j : ℕ) (v : List (LineHold Request Reply)) → ((h : LineHold Request Reply) → r.seat h.client ≡ j → h.client ≤ n → h.client ≢ c) → AllFit n r.line r.hand r.handled r.mode r.phase r.due r.told r.two r.account.events r.seat j v → AllFit n r.line r.hand r.handled r.mode r.phase r.due r.told r.two r.account.events (put r.seat c k) j v
    seats_stay j [] elsewhere ok = tt
    seats_stay j (h ∷ hs) elsewhere ok = ((put_else r.seat c k h.client (elsewhere h ok.0.0 ok.0.2) ∙ ok.0.0, ok.0.1, ok.0.2, ok.0.3, ok.0.4, ok.0.5, ok.0.6), seats_stay j hs elsewhere ok.1)

    -- so do the newcomers below c
    below_stay : (j m : ℕ) → m < c → AllFit n r.line r.hand r.handled r.mode r.phase r.due r.told r.two r.account.events r.seat j (newcomers m) → AllFit n r.line r.hand r.handled r.mode r.phase r.due r.told r.two r.account.events (put r.seat c k) j (newcomers m)
    below_stay j zero h ok = tt
    below_stay j (suc m) h ok = ((put_else r.seat c k (suc m) (λ e. omega arith) ∙ ok.0.0, ok.0.1, ok.0.2, ok.0.3, ok.0.4, ok.0.5, ok.0.6), below_stay j m (omega arith) ok.1)

  pub splits : (id m : ℕ) → Splits (Listed stands n) id (newcomers (suc m)) (newcomers m) (hold (suc m) Idle [] ∷ [])
  splits id m s r at =
      let c : ℕ = suc m in
      let k : ℕ = length (set s.views id (newcomers m)) in
      let ok = r.seats id (newcomers (suc m)) at in
      let same_k : k ≡ length s.views = length-set s.views id (newcomers m) in
      record {
        line = r.line;
        hand = r.hand;
        handled = r.handled;
        mode = r.mode;
        phase = r.phase;
        due = r.due;
        told = r.told;
        seat = put r.seat c k;
        few = r.few;
        nobody = r.nobody;
        wide = r.wide;
        many = r.many;
        newest_is = r.newest_is;
        links = r.links;
        distinct = r.distinct;
        within = r.within;
        stand = r.stand;
        rows = r.rows;
        log_is = r.log_is;
        one_chosen = r.one_chosen;
        account = r.account;
        has_cut = r.has_cut;
        owing_is = r.owing_is;
        second = r.second;
        two = r.two;
        kept = r.kept;
        coded = r.coded;
        shared_out = r.shared_out;
        seats = λ j v e. ⊎_elim
            (λ (t : get_elem? (set s.views id (newcomers m)) j ≡ some v). ⊎_elim
            (λ (u : (j ≡ id) × (newcomers m ≡ v)). subst (λ (z : ℕ × List (LineHold Request Reply)). AllFit n r.line r.hand r.handled r.mode r.phase r.due r.told r.two r.account.events (put r.seat c k) z.0 z.1) (λ i. (sym u.0 i, u.1 i)) (below_stay s r c k id m (omega arith) ok.1))
            (λ (u : (j ≢ id) × (get_elem? s.views j ≡ some v)). seats_stay s r c k j v (λ h there _ e. u.0 (sym there ∙ (ap r.seat e ∙ ok.0.0))) (r.seats j v u.1))
            (at_set s.views id j (newcomers m) v t))
            (λ (t : (j ≡ k) × (hold c Idle [] ∷ [] ≡ v)). subst (λ (z : ℕ × List (LineHold Request Reply)). AllFit n r.line r.hand r.handled r.mode r.phase r.due r.told r.two r.account.events (put r.seat c k) z.0 z.1) (λ i. (sym t.0 i, t.1 i))
            ((put_here r.seat c k, ok.0.1, ok.0.2, ok.0.3, ok.0.4, ok.0.5, ok.0.6), tt))
            (at_end (set s.views id (newcomers m)) (hold c Idle [] ∷ []) v j e);
      }

module _ {Request Reply Log Right : Type 0} (stands : Laws Request Reply Log Right) (n : ℕ) where
  -- making a seat leaves the list as it is
  pub splits_is : (now : Lists Request Reply) (id m : ℕ) → Splits (IsNow stands n now) id (newcomers (suc m)) (newcomers m) (hold (suc m) Idle [] ∷ [])
  unfolding splits
  splits_is now id m s is at = (splits stands n id m s is.0 at, is.1)

abbrev pick_seat : {A D : Type 0} → Dec D → A → A → A
pick_seat (yes _) a b = a
pick_seat (no _) a b = b

-- a client that sat at a sits at b from now on
reseat : (ℕ → ℕ) → ℕ → ℕ → ℕ → ℕ
reseat f a b c = pick_seat (ℕ_discrete (f c) a) b (f c)

reseat_at : (f : ℕ → ℕ) (a b c : ℕ) (F : ℕ → Type 0) → (f c ≡ a → F b) → (f c ≢ a → F (f c)) → F (reseat f a b c)
unfolding reseat
reseat_at f a b c F here other = go (ℕ_discrete (f c) a)
  where
    go : (d : Dec (f c ≡ a)) → F (pick_seat d b (f c))
    go (yes e) = here e
    go (no ne) = other ne

module _ {Request Reply Log Right : Type 0} (stands : Laws Request Reply Log Right) (n : ℕ) where
  module _ (s : St stands n) (r : Listed stands n s) (f : ℕ → ℕ) where
    fit_at : (j j' : ℕ) (v : List (LineHold Request Reply)) → ((c : ℕ) → r.seat c ≡ j → f c ≡ j') → AllFit n r.line r.hand r.handled r.mode r.phase r.due r.told r.two r.account.events r.seat j v → AllFit n r.line r.hand r.handled r.mode r.phase r.due r.told r.two r.account.events f j' v
    fit_at j j' [] to ok = tt
    fit_at j j' (h ∷ hs) to ok = ((to h.client ok.0.0, ok.0.1, ok.0.2, ok.0.3, ok.0.4, ok.0.5, ok.0.6), fit_at j j' hs to ok.1)

    fit_both : (j : ℕ) (v w : List (LineHold Request Reply)) → AllFit n r.line r.hand r.handled r.mode r.phase r.due r.told r.two r.account.events f j v → AllFit n r.line r.hand r.handled r.mode r.phase r.due r.told r.two r.account.events f j w → AllFit n r.line r.hand r.handled r.mode r.phase r.due r.told r.two r.account.events f j (v ++ w)
    fit_both j [] w a b = b
    fit_both j (h ∷ hs) w a b = (a.0, fit_both j hs w a.1 b)

  pub joins : (id other : ℕ) (v w : List (LineHold Request Reply)) → Joins (Listed stands n) id v other w (v ++ w) []
  joins id other v w s r at apart at_other =
      let f : ℕ → ℕ = reseat r.seat other id in
      let was_other : get_elem? s.views other ≡ some w = sym (set_else s.views id other (v ++ w) apart) ∙ at_other in
      record {
        line = r.line;
        hand = r.hand;
        handled = r.handled;
        mode = r.mode;
        phase = r.phase;
        due = r.due;
        told = r.told;
        seat = f;
        few = r.few;
        nobody = r.nobody;
        wide = r.wide;
        many = r.many;
        newest_is = r.newest_is;
        links = r.links;
        distinct = r.distinct;
        within = r.within;
        stand = r.stand;
        rows = r.rows;
        log_is = r.log_is;
        one_chosen = r.one_chosen;
        account = r.account;
        has_cut = r.has_cut;
        owing_is = r.owing_is;
        second = r.second;
        two = r.two;
        kept = r.kept;
        coded = r.coded;
        shared_out = r.shared_out;
        seats = λ j x e. ⊎_elim
            (λ (t : (j ≡ other) × ([] ≡ x)). subst (AllFit n r.line r.hand r.handled r.mode r.phase r.due r.told r.two r.account.events f j) t.1 tt)
            (λ (t : (j ≢ other) × (get_elem? (set s.views id (v ++ w)) j ≡ some x)). ⊎_elim
            (λ (u : (j ≡ id) × (v ++ w ≡ x)). subst (λ (z : ℕ × List (LineHold Request Reply)). AllFit n r.line r.hand r.handled r.mode r.phase r.due r.told r.two r.account.events f z.0 z.1) (λ i. (sym u.0 i, u.1 i))
            (fit_both s r f id v w (fit_at s r f id id v (λ c e. reseat_at r.seat other id c (λ z. z ≡ id) (λ _. refl) (λ _. e)) (r.seats id v at))
            (fit_at s r f other id w (λ c e. reseat_at r.seat other id c (λ z. z ≡ id) (λ _. refl) (λ ne. absurd (ne e))) (r.seats other w was_other))))
            (λ (u : (j ≢ id) × (get_elem? s.views j ≡ some x)). fit_at s r f j j x (λ c e. reseat_at r.seat other id c (λ z. z ≡ j) (λ here. absurd (t.0 (sym e ∙ here))) (λ _. e)) (r.seats j x u.1))
            (at_set s.views id j (v ++ w) x t.1))
            (at_set (set s.views id (v ++ w)) other j [] x e);
      }

  -- joining two seats leaves the list as it is
  pub joins_is : (now : Lists Request Reply) (id other : ℕ) (v w : List (LineHold Request Reply)) → Joins (IsNow stands n now) id v other w (v ++ w) []
  unfolding joins
  joins_is now id other v w s is at apart at_other = (joins id other v w s is.0 at apart at_other, is.1)

  fit_has : (s : St stands n) (r : Listed stands n s) (id : ℕ) (h : LineHold Request Reply) (v : List (LineHold Request Reply)) → Has h v → AllFit n r.line r.hand r.handled r.mode r.phase r.due r.told r.two r.account.events r.seat id v → Fits n r.line r.hand r.handled r.mode r.phase r.due r.told r.two r.account.events r.seat id h
  fit_has s r id h [] has ok = absurd has
  fit_has s r id h (x ∷ xs) has ok = ⊎_elim (λ (e : x ≡ h). subst (Fits n r.line r.hand r.handled r.mode r.phase r.due r.told r.two r.account.events r.seat id) e ok.0) (λ (t : Has h xs). fit_has s r id h xs t ok.1) has

  all_home : (homes : List (Option (LineSlot Request Reply Log Right))) (line hand : List (QueuedWriter Request)) (handled : List (Handling Request Reply)) (phase : ℕ → Phase Request Reply) (due : ℕ → List (Request × Reply)) → Within n line → ((i : ℕ) → 0 < i → i ≤ n → phase i ≡ idle)
      → (mode : Mode Request) → InMode stands n homes line hand handled phase due mode → LogHome stands homes handled
  all_home homes line hand handled phase due within nobody open_ ok = ok.2
  all_home homes line hand handled phase due within nobody (waits c) ok = ok.2
  all_home homes line hand handled phase due within nobody (led c) ok =
      let i = within_at n ok.0.0 ok.0.1 [] (subst (Within n) ok.0.2 within) in
      let bad : Path (Phase Request Reply) (leads ok.0.1) idle = sym ok.0.4 ∙ (ap phase (sym ok.0.5) ∙ nobody ok.0.1.by i.0 i.1) in absurd (cc)
  all_home homes line hand handled phase due within nobody (marked c) ok =
      let bad : Path (Phase Request Reply) (leads ok.1.0) idle = sym ok.1.1 ∙ nobody c ok.1.3 ok.1.4 in absurd (cc)
  all_home homes line hand handled phase due within nobody (built c g t) ok =
      let i = within_at n (ok.0.0 ++ hand) ok.0.1 [] (subst (Within n) (ok.0.2 ∙ sym (append_assoc ok.0.0 hand (ok.0.1 ∷ []))) within) in
      let bad : Path (Phase Request Reply) (leads ok.0.1) idle = sym ok.0.4 ∙ (ap phase (sym ok.0.5) ∙ nobody ok.0.1.by i.0 i.1) in absurd (cc)
  all_home homes line hand handled phase due within nobody (cut c w) ok =
      let i = within_at n ok.0.0 ok.0.1 [] (subst (Within n) ok.0.2 within) in
      let bad : Path (Phase Request Reply) (linked ok.0.1) idle = sym ok.0.4 ∙ (ap phase (sym ok.0.5) ∙ nobody ok.0.1.by i.0 i.1) in absurd (cc)

  all_held : (homes : List (Option (LineSlot Request Reply Log Right))) (line hand : List (QueuedWriter Request)) (handled : List (Handling Request Reply)) (phase : ℕ → Phase Request Reply) (due : ℕ → List (Request × Reply)) → Within n line → ((i : ℕ) → 0 < i → i ≤ n → phase i ≡ idle)
      → (mode : Mode Request) → InMode stands n homes line hand handled phase due mode → (k : ℕ) → Holds k mode → ⊥
  all_held homes line hand handled phase due within nobody open_ ok k h = h
  all_held homes line hand handled phase due within nobody (waits c) ok k h = h
  all_held homes line hand handled phase due within nobody (led c) ok k h =
      let i = within_at n ok.0.0 ok.0.1 [] (subst (Within n) ok.0.2 within) in
      let bad : Path (Phase Request Reply) (leads ok.0.1) idle = sym ok.0.4 ∙ (ap phase (sym ok.0.5) ∙ nobody ok.0.1.by i.0 i.1) in absurd (cc)
  all_held homes line hand handled phase due within nobody (marked c) ok k h =
      let bad : Path (Phase Request Reply) (leads ok.1.0) idle = sym ok.1.1 ∙ nobody c ok.1.3 ok.1.4 in absurd (cc)
  all_held homes line hand handled phase due within nobody (built c g t) ok k h =
      let i = within_at n (ok.0.0 ++ hand) ok.0.1 [] (subst (Within n) (ok.0.2 ∙ sym (append_assoc ok.0.0 hand (ok.0.1 ∷ []))) within) in
      let bad : Path (Phase Request Reply) (leads ok.0.1) idle = sym ok.0.4 ∙ (ap phase (sym ok.0.5) ∙ nobody ok.0.1.by i.0 i.1) in absurd (cc)
  all_held homes line hand handled phase due within nobody (cut c w) ok k h =
      let i = within_at n ok.0.0 ok.0.1 [] (subst (Within n) ok.0.2 within) in
      let bad : Path (Phase Request Reply) (linked ok.0.1) idle = sym ok.0.4 ∙ (ap phase (sym ok.0.5) ∙ nobody ok.0.1.by i.0 i.1) in absurd (cc)

  no_group : (phase : ℕ → Phase Request Reply) (place : ℕ → Place Request Reply) (gs : List (Squad Request Reply)) → Within n (flat gs) → ((i : ℕ) → 0 < i → i ≤ n → phase i ≡ idle) → AllGroups phase place gs → gs ≡ []
  no_group phase place [] within nobody ok = refl
  no_group phase place (g ∷ gs) within nobody ok =
      let i = within_at n g.rest g.own (flat gs) (subst (Within n) (append_assoc g.rest (g.own ∷ []) (flat gs)) within) in
      let bad : Path (Phase Request Reply) (leads g.own) idle = sym ok.0 ∙ nobody g.own.by i.0 i.1 in absurd (cc)

  no_last : (gs newer : List (Squad Request Reply)) (g : Squad Request Reply) → gs ≡ [] → gs ≡ newer ++ g ∷ [] → ⊥
  no_last gs [] g nil is = let bad : Path (List (Squad Request Reply)) [] (g ∷ []) = sym nil ∙ is in absurd (cc)
  no_last gs (x ∷ xs) g nil is = let bad : Path (List (Squad Request Reply)) [] (x ∷ (xs ++ g ∷ [])) = sym nil ∙ is in absurd (cc)

  turn_home : (words : List ℕ) (homes : List (Option (LineSlot Request Reply Log Right))) (phase : ℕ → Phase Request Reply) (two : Two Request Reply) → two.groups ≡ [] → (turn : Turn) → InTurn stands n words homes phase two turn → RightHome stands n homes two.done
  turn_home words homes phase two nil still ok = ok.1
  turn_home words homes phase two nil (calls c) ok = ok.1
  turn_home words homes phase two nil (held_by c) ok = absurd (no_last two.groups ok.0 ok.1 nil ok.2)
  turn_home words homes phase two nil (passes c w) ok = absurd (no_last two.groups ok.0 ok.1 nil ok.2)

  chain_ends : (lead : Lead2) (done last : List (Handling Request Reply)) (gs : List (Squad Request Reply)) → gs ≡ [] → ((c : ℕ) → lead ≢ ahead c) → InStep done gs last lead → done ≡ last
  chain_ends level done last gs nil un ok = subst (λ (l : List (Squad Request Reply)). Chained done l last) nil ok
  chain_ends (ahead c) done last gs nil un ok = absurd (un c refl)

  level_ends : (piped : Bool) (two : Two Request Reply) (last : List (Handling Request Reply)) → two.groups ≡ [] → ((c : ℕ) → two.lead ≢ ahead c) → Level stands piped two last → (piped ≡ false → two.done ≡ stands.opened) × (piped ≡ true → two.done ≡ last)
  level_ends true two last nil un v = ((λ e. absurd (cc)), (λ _. chain_ends two.lead two.done last two.groups nil un v))
  level_ends false two last nil un v = ((λ _. v.1), (λ e. absurd (cc)))

  -- where all clients are idle, the log and the right are at home, the other slots are empty, and the log covers all
  -- that the clients were told
  pub record Closes (s : St stands n) (v : List (LineHold Request Reply)) : Type 0 where
    pub log : Log
    pub handled : List (Handling Request Reply)
    pub log_home : get_elem? s.homes 0 ≡ some (some (TheLog log))
    pub stood : stands.logs log handled
    pub merges : Merges handled v
    pub right : Right
    pub right_home : get_elem? s.homes (n + 1) ≡ some (some (TheRight right))
    pub right_number : List (Handling Request Reply)
    pub right_stood : stands.rights right right_number
    pub even : (stands.piped ≡ false → right_number ≡ stands.opened) × (stands.piped ≡ true → right_number ≡ stands.given handled)
    pub others : (i : ℕ) → 0 < i → i ≤ n → get_elem? s.homes i ≡ some (some Empty)

  pub closes : (s : St stands n) (id : ℕ) (v : List (LineHold Request Reply)) → Listed stands n s → get_elem? s.views id ≡ some v → AllIdle n v → Closes s v
  closes s id v r at all =
      let ok = r.seats id v at in
      let nobody : (i : ℕ) → 0 < i → i ≤ n → r.phase i ≡ idle = λ i lo hi. let a = all i lo hi in (fit_has s r id (hold i Idle a.0) v a.1 ok).4 in
      let home = all_home s.homes r.line r.hand r.handled r.phase r.due r.within nobody r.mode r.log_is in
      let nobody_leads : (c : ℕ) → Holds c r.mode → ⊥ = all_held s.homes r.line r.hand r.handled r.phase r.due r.within nobody r.mode r.log_is in
      let not_ahead : (c : ℕ) → r.two.lead ≢ ahead c = λ c e. nobody_leads c (r.second.ahead_holds c e) in
      let no_groups : r.two.groups ≡ [] = no_group r.phase r.two.place r.two.groups r.second.within nobody r.second.members in
      let right_in : RightHome stands n s.homes r.two.done = turn_home s.words s.homes r.phase r.two no_groups r.two.turn r.second.turn_is in
      record {
        log = home.0;
        handled = r.handled;
        log_home = home.1;
        stood = home.2;
        merges = λ h has.
            let f = fit_has s r id h v has ok in
            let none_due : r.due h.client ≡ [] = (subst (InPhase stands s.words s.homes h.client (r.due h.client)) (nobody h.client f.1 f.2) (r.rows h.client f.1 f.2)).1 in
            r.shared_out h.client ∙ ((λ i. sym f.3 i ++ none_due i) ∙ append-nil h.mine);
        right = right_in.0;
        right_home = right_in.1;
        right_number = r.two.done;
        right_stood = right_in.2;
        even = level_ends stands.piped r.two (stands.given r.handled) no_groups not_ahead r.second.in_level;
        others = λ i lo hi. (subst (InPhase stands s.words s.homes i (r.due i)) (nobody i lo hi) (r.rows i lo hi)).0;
      }

module _ {Request Reply : Type 0} where
  pub left_is : (k : ℕ) (v : List (LineHold Request Reply)) → 0 < k → v ≡ newcomers k → (all_but_first v ≡ newcomers (k - 1)) × (first_only v ≡ hold k Idle [] ∷ [])
  left_is zero v lo e = absurd (omega arith)
  left_is (suc m) v lo e = (ap all_but_first e ∙ ap newcomers (let h : m ≡ suc m - 1 = omega arith in h), ap first_only e)

module _ {Request Reply Log Right : Type 0} (stands : Laws Request Reply Log Right) (n : ℕ) where
  pub splits_first : (id k : ℕ) (v : List (LineHold Request Reply)) → 0 < k → v ≡ newcomers k → Splits (Listed stands n) id v (all_but_first v) (first_only v)
  splits_first id zero v lo e = absurd (omega arith)
  splits_first id (suc m) v lo e = subst (λ z. Splits (Listed stands n) id z (all_but_first z) (first_only z)) (sym e) (splits stands n id m)

  pub splits_first_is : (now : Lists Request Reply) (id k : ℕ) (v : List (LineHold Request Reply)) → 0 < k → v ≡ newcomers k → Splits (IsNow stands n now) id v (all_but_first v) (first_only v)
  splits_first_is now id zero v lo e = absurd (omega arith)
  splits_first_is now id (suc m) v lo e = subst (λ z. Splits (IsNow stands n now) id z (all_but_first z) (first_only z)) (sym e) (splits_is stands n now id m)
