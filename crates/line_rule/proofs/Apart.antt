-- No client is in both lists; the client that has the log leads by the events; and whose turn it is.
use Rattle.std.proofs.Common.{◌≡◌, ℕ, List, [], ◌∷◌, ◌++◌, refl, sym, ap, ◌∙◌, subst, append_assoc}
use mathlib.Core.Option.{Option}
use Rattle.line_rule.specs.declared.content.LineSlot.{LineSlot}
use Rattle.line_rule.specs.declared.view.QueuedWriter.{QueuedWriter}
use Rattle.line_rule.specs.declared.view.Handling.{Handling}
use Rattle.line_rule.specs.declared.view.Squad.{Squad}
use Rattle.line_rule.specs.Chain.{Absent, AllAbsent}
use Rattle.line_rule.specs.Events.{LogHolder, IsHolder}
use Rattle.line_rule.specs.Standing.{Phase, linked, chosen, leads, held, Pause, calm, aimed, stopped, holding, owing, Mode, open_, waits, led, built, cut, marked, Holds, InFront, Place, away, Two, flat, In}
use Rattle.line_rule.specs.Laws.{Laws}
use Rattle.line_rule.specs.Rule.{AllGroups, AllLinked, AllQueued, AllTaken, HasCut, InMode, Shows, held_in}
use Rattle.line_rule.specs.Between.{IsInTurn}
use Rattle.line_rule.proofs.Leads.{same_last}
use Rattle.line_rule.proofs.Squads.{absent_groups, member_absent, out_of_groups}

module _ {Request : Type 0} where
  all_absent_append : (a b others : List (QueuedWriter Request)) → AllAbsent a others → AllAbsent b others → AllAbsent (a ++ b) others
  all_absent_append [] b others x y = y
  all_absent_append (e ∷ es) b others x y = (x.0, all_absent_append es b others x.1 y)

  -- the leader of a group has the log, whether it stalls writes or not
  held_by_own : (c : ℕ) (own : QueuedWriter Request) (g : List (QueuedWriter Request)) (t : Pause Request) → own.by ≡ c → IsHolder c (held_in t own g)
  held_by_own c own g calm is = is
  held_by_own c own g (aimed w) is = is
  held_by_own c own g (stopped w) is = is
  held_by_own c own g (holding w x) is = is
  held_by_own c own g (owing w x) is = is

module _ {Request Reply : Type 0} (phase : ℕ → Phase Request Reply) (place : ℕ → Place Request Reply) (gs : List (Squad Request Reply)) (members : AllGroups phase place gs) where
  -- a client that waits to be woken is in no group of the second list
  linked_out : (e : QueuedWriter Request) → phase e.by ≡ linked e → Absent e.by (flat gs)
  linked_out e now = out_of_groups phase place e.by (λ f bad. let no : phase e.by ≡ linked e = now in absurd (cc)) (λ d f bad. let no : phase e.by ≡ linked e = now in absurd (cc)) gs members

  chosen_out : (e : QueuedWriter Request) → phase e.by ≡ chosen e → Absent e.by (flat gs)
  chosen_out e now = out_of_groups phase place e.by (λ f bad. let no : phase e.by ≡ chosen e = now in absurd (cc)) (λ d f bad. let no : phase e.by ≡ chosen e = now in absurd (cc)) gs members

  -- nor is one whose request a leader has that stalls writes
  held_out : (c : ℕ) (e : QueuedWriter Request) → phase e.by ≡ held c e → Absent e.by (flat gs)
  held_out c e now = out_of_groups phase place e.by (λ f bad. let no : phase e.by ≡ held c e = now in absurd (cc)) (λ d f bad. let no : phase e.by ≡ held c e = now in absurd (cc)) gs members

  all_linked_out : (es : List (QueuedWriter Request)) → AllLinked phase es → AllAbsent es (flat gs)
  all_linked_out [] ok = tt
  all_linked_out (e ∷ es) ok = (linked_out e ok.0, all_linked_out es ok.1)

  all_queued_out : (due : ℕ → List (Request × Reply)) (c : ℕ) (queue : List (QueuedWriter Request)) (t : Pause Request) → AllQueued phase due c queue t → AllAbsent queue (flat gs)
  all_queued_out due c queue calm ok = all_linked_out queue ok
  all_queued_out due c queue (aimed w) ok = all_linked_out queue ok
  all_queued_out due c queue (stopped w) ok = all_linked_out queue ok
  all_queued_out due c queue (holding w x) ok =
      subst (λ (l : List (QueuedWriter Request)). AllAbsent l (flat gs)) (sym ok.2) (all_absent_append ok.0 (x ∷ ok.1) (flat gs) (all_linked_out ok.0 ok.3) (held_out c x ok.5, all_linked_out ok.1 ok.4))
  all_queued_out due c queue (owing w x) ok = all_linked_out queue ok

  -- a leader whose group isn't in the second list yet, and its members
  module _ (c : ℕ) (there : place c ≡ away) where
    none_in : (g : Squad Request Reply) → In g (place c) → ⊥
    none_in g is = subst (In g) there is

    own_out : (own : QueuedWriter Request) → phase c ≡ leads own → own.by ≡ c → Absent own.by (flat gs)
    own_out own now by_c = subst (λ (k : ℕ). Absent k (flat gs)) (sym by_c) (absent_groups phase place c gs none_in (λ k e bad. let no : phase c ≡ leads own = now in absurd (cc)) members)

    all_taken_out : (due : ℕ → List (Request × Reply)) (es : List (QueuedWriter Request)) → AllTaken phase due c es → AllAbsent es (flat gs)
    all_taken_out due [] ok = tt
    all_taken_out due (e ∷ es) ok = (member_absent phase place e.by c e gs ok.0 none_in members, all_taken_out due es ok.2)

module _ {Request Reply Log Right : Type 0} (stands : Laws Request Reply Log Right) (n : ℕ) (homes : List (Option (LineSlot Request Reply Log Right))) (line hand : List (QueuedWriter Request)) (handled : List (Handling Request Reply)) (phase : ℕ → Phase Request Reply) (due : ℕ → List (Request × Reply)) where
  -- no writer of the walk is in the second list
  pub walk_apart : (two : Two Request Reply) → AllGroups phase two.place two.groups → (mode : Mode Request) → ((c : ℕ) → InFront c mode → two.place c ≡ away) → InMode stands n homes line hand handled phase due mode → AllAbsent line (flat two.groups)
  walk_apart two members mode front ok = by_mode mode front ok
    where
      others : List (QueuedWriter Request)
      others = flat two.groups

      as_line : (l : List (QueuedWriter Request)) → line ≡ l → AllAbsent l others → AllAbsent line others
      as_line l is out = subst (λ (z : List (QueuedWriter Request)). AllAbsent z others) (sym is) out

      by_mode : (mode : Mode Request) → ((c : ℕ) → InFront c mode → two.place c ≡ away) → InMode stands n homes line hand handled phase due mode → AllAbsent line others
      by_mode open_ front ok = as_line [] ok.0 tt
      by_mode (waits c) front ok =
          as_line (ok.0.0 ++ ok.0.1 ∷ []) ok.0.2 (all_absent_append ok.0.0 (ok.0.1 ∷ []) others (all_linked_out phase two.place two.groups members ok.0.0 ok.0.3) (chosen_out phase two.place two.groups members ok.0.1 (ap phase ok.0.5 ∙ ok.0.4), tt))
      by_mode (led c) front ok =
          as_line (ok.0.0 ++ ok.0.1 ∷ []) ok.0.2 (all_absent_append ok.0.0 (ok.0.1 ∷ []) others (all_linked_out phase two.place two.groups members ok.0.0 ok.0.3) (own_out phase two.place two.groups members c (front c refl) ok.0.1 ok.0.4 ok.0.5, tt))
      by_mode (built c g t) front ok =
          as_line (ok.0.0 ++ (hand ++ ok.0.1 ∷ [])) ok.0.2 (all_absent_append ok.0.0 (hand ++ ok.0.1 ∷ []) others (all_queued_out phase two.place two.groups members due c ok.0.0 t ok.0.3)
          (all_absent_append hand (ok.0.1 ∷ []) others (all_taken_out phase two.place two.groups members c (front c refl) due hand ok.1) (own_out phase two.place two.groups members c (front c refl) ok.0.1 ok.0.4 ok.0.5, tt)))
      by_mode (cut c w) front ok =
          as_line (ok.0.0 ++ ok.0.1 ∷ []) ok.0.2 (all_absent_append ok.0.0 (ok.0.1 ∷ []) others (all_linked_out phase two.place two.groups members ok.0.0 ok.0.3) (linked_out phase two.place two.groups members ok.0.1 (ap phase ok.0.5 ∙ ok.0.4), tt))
      by_mode (marked c) front ok = all_linked_out phase two.place two.groups members line ok.0

  module _ (queue : List (QueuedWriter Request)) (log : LogHolder Request) where
    -- the client that has the log is the leader that the events name
    pub owner_in : (c : ℕ) (mode : Mode Request) → InMode stands n homes line hand handled phase due mode → Shows line queue log mode → HasCut log hand phase mode → Holds c mode → IsHolder c log
    owner_in c open_ ok shows has holds = absurd holds
    owner_in c (waits d) ok shows has holds = absurd holds
    owner_in c (led d) ok shows has holds = subst (IsHolder c) (sym shows.1) holds
    owner_in c (built d g t) ok shows has holds =
        let own : QueuedWriter Request = shows.0.0 in
        let same : own ≡ ok.0.1 = same_last (queue ++ g) (ok.0.0 ++ hand) own ok.0.1 (append_assoc queue g (own ∷ []) ∙ (sym shows.0.1 ∙ (ok.0.2 ∙ sym (append_assoc ok.0.0 hand (ok.0.1 ∷ []))))) in
        subst (IsHolder c) (sym shows.1) (held_by_own c own g t (ap (λ (e : QueuedWriter Request). e.by) same ∙ (ok.0.5 ∙ holds)))
    owner_in c (cut d w) ok shows has holds = subst (IsHolder c) (sym has.3) (has.1 ∙ holds)
    owner_in c (marked d) ok shows has holds = subst (IsHolder c) (sym has.3) (has.1 ∙ holds)

    -- the writer that is woken is the oldest of the queue
    pub turn_in : (mode : Mode Request) → InMode stands n homes line hand handled phase due mode → Shows line queue log mode → IsInTurn queue mode
    turn_in open_ ok shows = sym shows.0 ∙ ok.0
    turn_in (waits c) ok shows = (ok.0.0, ok.0.1, sym shows.0 ∙ ok.0.2, ok.0.5)
    turn_in (led c) ok shows = (ok.0.0, ok.0.1, sym shows.0 ∙ ok.0.2, ok.0.5)
    turn_in (built c g t) ok shows = tt
    turn_in (cut c w) ok shows = (ok.0.0, ok.0.1, sym shows.0 ∙ ok.0.2, ok.0.5)
    turn_in (marked c) ok shows = tt
