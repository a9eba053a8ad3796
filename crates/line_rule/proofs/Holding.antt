-- What the rule says of the list between two steps.
use Rattle.std.proofs.Common.{◌≡◌, Bool, true, false, ℕ, ◌≤◌, List, [], ◌∷◌, length, refl, arith}
use Rattle.atomic_table.specs.Table.{State}
use mathlib.Core.Option.{Option}
use Rattle.line_rule.specs.declared.content.LineSlot.{LineSlot}
use Rattle.line_rule.specs.declared.view.QueuedWriter.{QueuedWriter}
use Rattle.line_rule.specs.declared.view.Handling.{Handling}
use Rattle.line_rule.specs.declared.view.LineHold.{LineHold}
use Rattle.line_rule.specs.Standing.{Phase, Mode, open_, waits, led, built, cut, marked, Two, Turn, still, calls, held_by, passes, Place, away, parted, queued, called, serves, served, flat, InStep}
use Rattle.line_rule.specs.Laws.{Laws}
use Rattle.line_rule.specs.Rule.{Listed, InMode, InTurn, Level, AllFit}
use Rattle.line_rule.specs.SecondList.{last_served, served_in}
use Rattle.line_rule.specs.Steps.{now_of}
use Rattle.line_rule.specs.Between.{LogAtHome, RightAt, AllRecall, Between, AreLists}
use Rattle.line_rule.proofs.Apart.{owner_in, turn_in, walk_apart}
use Rattle.line_rule.proofs.Groups.{walk_bound}

module _ {Request Reply Log Right : Type 0} (stands : Laws Request Reply Log Right) (n : ℕ) where
  home_in : (homes : List (Option (LineSlot Request Reply Log Right))) (line hand : List (QueuedWriter Request)) (handled : List (Handling Request Reply)) (phase : ℕ → Phase Request Reply) (due : ℕ → List (Request × Reply)) (mode : Mode Request)
      → InMode stands n homes line hand handled phase due mode → LogAtHome stands homes handled mode
  home_in homes line hand handled phase due open_ ok = ok.2
  home_in homes line hand handled phase due (waits c) ok = ok.2
  home_in homes line hand handled phase due (led c) ok = tt
  home_in homes line hand handled phase due (built c group t) ok = tt
  home_in homes line hand handled phase due (cut c next) ok = tt
  home_in homes line hand handled phase due (marked c) ok = tt

  right_in : (words : List ℕ) (homes : List (Option (LineSlot Request Reply Log Right))) (phase : ℕ → Phase Request Reply) (two : Two Request Reply) (turn : Turn)
      → InTurn stands n words homes phase two turn → RightAt stands n homes two.groups two.done turn
  right_in words homes phase two still ok = ok
  right_in words homes phase two (calls c) ok = ((ok.0.0, ok.0.1, ok.0.2, ok.0.4), ok.1)
  right_in words homes phase two (held_by c) ok = (ok.0, ok.1, ok.2, ok.4)
  right_in words homes phase two (passes c next) ok = ok

  level_in : (two : Two Request Reply) (last : List (Handling Request Reply)) (piped : Bool) → piped ≡ true → Level stands piped two last → InStep two.done two.groups last two.lead
  level_in two last true is ok = ok
  level_in two last false is ok = absurd (cc)

  none_in : (two : Two Request Reply) (last : List (Handling Request Reply)) (piped : Bool) → piped ≡ false → Level stands piped two last → two.groups ≡ []
  none_in two last true is ok = absurd (cc)
  none_in two last false is ok = ok.0

  pub few_served : (place : ℕ → Place Request Reply) (turn : Turn) → length (last_served place turn) ≤ 1
  few_served place still = omega arith
  few_served place (calls c) = omega arith
  few_served place (held_by c) = omega arith
  few_served place (passes c next) = few (place c)
    where
      few : (p : Place Request Reply) → length (served_in p) ≤ 1
      few away = omega arith
      few (parted g b) = omega arith
      few (queued g) = omega arith
      few (called g) = omega arith
      few (serves g) = omega arith
      few (served g) = omega arith

  pub between : (s : State (LineSlot Request Reply Log Right) (List (LineHold Request Reply))) → Listed stands n s → Between stands n s
  between s r = record {
    walk = r.line;
    queue = r.account.queue;
    log = r.account.log;
    handled = r.handled;
    owing = r.account.owing;
    mode = r.mode;
    events = r.account.events;
    newest = r.newest_is;
    links = r.links;
    short = walk_bound n r.line r.within r.distinct;
    distinct = r.distinct;
    within = r.within;
    legal = r.account.legal;
    recalled = λ id v at. all_recall id v (r.seats id v at);
    ran = r.account.ran;
    shows = r.account.shows;
    owner = λ c holds. owner_in stands n s.homes r.line r.hand r.handled r.phase r.due r.account.queue r.account.log c r.mode r.log_is r.account.shows r.has_cut holds;
    in_turn = turn_in stands n s.homes r.line r.hand r.handled r.phase r.due r.account.queue r.account.log r.mode r.log_is r.account.shows;
    home = home_in s.homes r.line r.hand r.handled r.phase r.due r.mode r.log_is;
    groups = r.two.groups;
    turn = r.two.turn;
    lead = r.two.lead;
    done = r.two.done;
    second_newest = r.second.newest_is;
    second_links = r.second.links;
    second_short = walk_bound n (flat r.two.groups) r.second.within r.second.distinct;
    second_distinct = r.second.distinct;
    second_within = r.second.within;
    apart_lists = walk_apart stands n s.homes r.line r.hand r.handled r.phase r.due r.two r.second.members r.mode r.second.in_front r.log_is;
    right = right_in s.words s.homes r.phase r.two r.two.turn r.second.turn_is;
    handed = r.second.ahead_holds;
    none_second = λ is. none_in r.two (stands.given r.handled) stands.piped is r.second.in_level;
    in_order = λ is. level_in r.two (stands.given r.handled) stands.piped is r.second.in_level;
    made = r.second.made;
  }
    where
      all_recall : (id : ℕ) (v : List (LineHold Request Reply)) → AllFit n r.line r.hand r.handled r.mode r.phase r.due r.told r.two r.account.events r.seat id v → AllRecall r.account.events v
      all_recall id [] ok = tt
      all_recall id (h ∷ hs) ok = (ok.0.6, all_recall id hs ok.1)

  pub shown : (s : State (LineSlot Request Reply Log Right) (List (LineHold Request Reply))) (r : Listed stands n s) → (b : Between stands n s) × AreLists stands b (now_of stands n s r)
  unfolding between
  shown s r = (between s r, (refl, refl, (last_served r.two.place r.two.turn, refl, few_served r.two.place r.two.turn)))
