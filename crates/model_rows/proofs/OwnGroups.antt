-- Groups of one commit each, of the one client that commits.
use Rattle.std.proofs.Common.{◌≡◌, ℕ, zero, suc, ◌+◌, false, Some, None, List, [], ◌∷◌, map, slice_get, refl, ap, sym, ◌∙◌, subst, inl, inr, arith}
use Rattle.std.specs.List.{AllByRecursion}
use Rattle.model_base.specs.Grouping.{size_of}
use Rattle.model_base.specs.Controller.{ControllerCall, delay, say, Look}
use Rattle.model_base.specs.Attempts.{Attempt, item_of}
use Rattle.model_base.specs.Groups.{Group, Member, Holds, HasPlace, IsAskedFor, IsCommit, MayProceed, is_slowed, HasOneFate, AreGroups}
use Rattle.model_rows.proofs.Alone.{some_same, all_at}

-- no stop and no slowdown
abbrev pub calm : Look
calm = record { stops = 0; delays = 0; wait = 0 }

-- a group's member: the client's commit with this number (from 0)
abbrev pub own_member : ℕ → Attempt → Member
own_member call h = record { client = 1; call = call; item = item_of h }

abbrev pub own : ℕ → ℕ → Attempt → Group
own place call h = record { place = place; members = own_member call h ∷ [] }

-- the delay for this commit, and what it answered
abbrev pub delay_of : Attempt → Look → ControllerCall
delay_of h numbers = record { client = 1; action = delay 0 (size_of (item_of h ∷ [])); told = Some numbers }

module _ (controller_calls : List ControllerCall) (groups : List Group) (place call : ℕ) (h : Attempt) where
  pub asked_for : (group_bytes : ℕ) (numbers : Look) → slice_get controller_calls place ≡ Some (delay_of h numbers) → IsAskedFor group_bytes controller_calls (own place call h)
  asked_for group_bytes numbers there = record {
    by = 1;
    now = 0;
    told = Some numbers;
    there = there;
    is_group = record { some = omega arith; whole = refl; of_others = (tt, tt) };
  }

  pub has_place : (at : ℕ) → slice_get groups at ≡ Some (own place call h) → HasPlace groups place
  has_place at there = record { at = at; group = own place call h; there = there; is = refl }

  pub holds : (at : ℕ) → slice_get groups at ≡ Some (own place call h) → Holds groups place 1 call
  holds at there = record {
    at = at;
    group = own place call h;
    of_place = there;
    place_is = refl;
    among = 0;
    member = own_member call h;
    there = refl;
    client_is = refl;
    call_is = refl;
  }

  module _ (commits : List Attempt) (others : List (List Attempt)) (is : slice_get commits call ≡ Some h) where
    pub is_commit : IsCommit (commits ∷ others) (own_member call h)
    is_commit = record { number = 0; commits = commits; attempt = h; client = refl; of_client = refl; there = is; item = refl }

    -- it wasn't refused because writes were held up, and may go on
    pub stands_together : (numbers : Look) → h.place ≡ place → slice_get controller_calls place ≡ Some (delay_of h numbers) → is_slowed h.status ≡ false
        → MayProceed controller_calls (map (λ (g : Group). g.place) groups) 1 place h.decided numbers h.options.no_slowdown
        → HasOneFate controller_calls groups (commits ∷ others) (own place call h)
    unfolding is_commit
    stands_together numbers at there written may = record {
      decided = h.decided;
      statuses = h.status ∷ [];
      are = ((is_commit, refl, at, refl), tt);
      together = inr ((written, tt), record { by = 1; now = 0; bytes = size_of (item_of h ∷ []); numbers = numbers; there = there; each = (may, tt) });
    }

-- if the other clients have no commits, each commit is the one client's
pub none_else_by : (groups : List Group) (commits : List Attempt) (others : List (List Attempt)) → AllByRecursion (λ (cs : List Attempt). cs ≡ []) others → ((call : ℕ) (h : Attempt) → slice_get commits call ≡ Some h → Holds groups h.place 1 call)
    → (number : ℕ) (cs : List Attempt) (call : ℕ) (h : Attempt) → slice_get (commits ∷ others) number ≡ Some cs → slice_get cs call ≡ Some h → Holds groups h.place (number + 1) call
none_else_by groups commits others empty each zero cs call h is there = each call h (rw (some_same is) there)
none_else_by groups commits others empty each (suc number) cs call h is there =
    let none = all_at (λ (cs : List Attempt). cs ≡ []) others number cs empty is in absurd (subst (λ (cs : List Attempt). slice_get cs call ≡ Some h → ⊥) (sym none) (λ e. cc) there)

-- the delay of a client's one commit, which reported no stop and no slowdown
abbrev pub delays_of : Attempt → List ControllerCall
delays_of h = delay_of h calm ∷ []

abbrev pub groups_of : Attempt → List Group
groups_of h = own 0 0 h ∷ []

-- the commit that is at this place of a list has its group's place, since the commit there has it
placed : (groups : List Group) (client call place : ℕ) (g h : Attempt) → Some g ≡ Some h → g.place ≡ place → Holds groups place client call → Holds groups h.place client call
placed groups client call place g h same at held = subst (λ n. Holds groups n client call) (sym at ∙ ap (λ (x : Attempt). x.place) (some_same same)) held

module _ (h : Attempt) (waits : h.options.no_slowdown ≡ false) (written : is_slowed h.status ≡ false) (at : h.place ≡ 0) where
  held_alone : (call : ℕ) (g : Attempt) → slice_get (h ∷ []) call ≡ Some g → Holds (groups_of h) g.place 1 call
  held_alone zero g there = placed (groups_of h) 1 0 0 h g there at (holds (delays_of h) (groups_of h) 0 0 h 0 refl)
  held_alone (suc call) g there = absurd (cc)

  pub one_alone : AreGroups 1048576 (delays_of h) (groups_of h) ((h ∷ []) ∷ [])
  one_alone = record {
    each = (asked_for (delays_of h) (groups_of h) 0 0 h 1048576 calm refl, tt);
    all = ((λ is. has_place (delays_of h) (groups_of h) 0 0 h 0 refl), tt);
    places = (tt, tt);
    commits = (is_commit (delays_of h) (groups_of h) 0 0 h (h ∷ []) [] refl, tt);
    apart = (tt, tt);
    none_else = none_else_by (groups_of h) (h ∷ []) [] tt held_alone;
    together = (stands_together (delays_of h) (groups_of h) 0 0 h (h ∷ []) [] refl calm at refl written (rw waits (inl refl)), tt);
  }

-- such a delay, before which the client says what it had been shown
abbrev pub said_delays_of : ℕ → Attempt → List ControllerCall
said_delays_of shown h = record { client = 1; action = say shown; told = None } ∷ delay_of h calm ∷ []

module _ (shown : ℕ) (h : Attempt) (waits : h.options.no_slowdown ≡ false) (written : is_slowed h.status ≡ false) (at : h.place ≡ 1) where
  abbrev said_group : List Group
  said_group = own 1 0 h ∷ []

  held_said : (call : ℕ) (g : Attempt) → slice_get (h ∷ []) call ≡ Some g → Holds said_group g.place 1 call
  held_said zero g there = placed said_group 1 0 1 h g there at (holds (said_delays_of shown h) said_group 1 0 h 0 refl)
  held_said (suc call) g there = absurd (cc)

  pub said_alone : AreGroups 1048576 (said_delays_of shown h) said_group ((h ∷ []) ∷ [])
  said_alone = record {
    each = (asked_for (said_delays_of shown h) said_group 1 0 h 1048576 calm refl, tt);
    all = ((λ is. cc), ((λ is. has_place (said_delays_of shown h) said_group 1 0 h 0 refl), tt));
    places = (tt, tt);
    commits = (is_commit (said_delays_of shown h) said_group 1 0 h (h ∷ []) [] refl, tt);
    apart = (tt, tt);
    none_else = none_else_by said_group (h ∷ []) [] tt held_said;
    together = (stands_together (said_delays_of shown h) said_group 1 0 h (h ∷ []) [] refl calm at refl written (rw waits (inl refl)), tt);
  }

-- three such delays, after the first of which the client says what it has been shown
abbrev pub three_delays : ℕ → Attempt → Attempt → Attempt → List ControllerCall
three_delays shown a b c = delay_of a calm ∷ record { client = 1; action = say shown; told = None } ∷ delay_of b calm ∷ delay_of c calm ∷ []

abbrev pub three_groups : Attempt → Attempt → Attempt → List Group
three_groups a b c = own 0 0 a ∷ own 2 1 b ∷ own 3 2 c ∷ []

module _ (shown : ℕ) (a b c : Attempt) (wait : AllByRecursion (λ (h : Attempt). h.options.no_slowdown ≡ false) (a ∷ b ∷ c ∷ [])) (written : AllByRecursion (λ (h : Attempt). is_slowed h.status ≡ false) (a ∷ b ∷ c ∷ []))
    (at_a : a.place ≡ 0) (at_b : b.place ≡ 2) (at_c : c.place ≡ 3) where
  abbrev delays : List ControllerCall
  delays = three_delays shown a b c

  abbrev groups : List Group
  groups = three_groups a b c

  abbrev commits : List Attempt
  commits = a ∷ b ∷ c ∷ []

  held_each : (call : ℕ) (g : Attempt) → slice_get commits call ≡ Some g → Holds groups g.place 1 call
  held_each zero g there = placed groups 1 0 0 a g there at_a (holds delays groups 0 0 a 0 refl)
  held_each (suc zero) g there = placed groups 1 1 2 b g there at_b (holds delays groups 2 1 b 1 refl)
  held_each (suc (suc zero)) g there = placed groups 1 2 3 c g there at_c (holds delays groups 3 2 c 2 refl)
  held_each (suc (suc (suc call))) g there = absurd (cc)

  pub three_alone : AreGroups 1048576 delays groups (commits ∷ [])
  three_alone = record {
    each = (asked_for delays groups 0 0 a 1048576 calm refl, (asked_for delays groups 2 1 b 1048576 calm refl, (asked_for delays groups 3 2 c 1048576 calm refl, tt)));
    all = ((λ is. has_place delays groups 0 0 a 0 refl), ((λ is. cc), ((λ is. has_place delays groups 2 1 b 1 refl), ((λ is. has_place delays groups 3 2 c 2 refl), tt))));
    places = (((λ e. cc), ((λ e. cc), tt)), (((λ e. cc), tt), (tt, tt)));
    commits = (is_commit delays groups 0 0 a commits [] refl, (is_commit delays groups 2 1 b commits [] refl, (is_commit delays groups 3 2 c commits [] refl, tt)));
    apart = (((λ same e. cc), ((λ same e. cc), tt)), (((λ same e. cc), tt), (tt, tt)));
    none_else = none_else_by groups commits [] tt held_each;
    together = (
      stands_together delays groups 0 0 a commits [] refl calm at_a refl written.0 (rw wait.0 (inl refl)),
      (
        stands_together delays groups 2 1 b commits [] refl calm at_b refl written.1.0 (rw wait.1.0 (inl refl)),
        (stands_together delays groups 3 2 c commits [] refl calm at_c refl written.1.1.0 (rw wait.1.1.0 (inl refl)), tt),
      ),
    );
  }
