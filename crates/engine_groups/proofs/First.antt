-- What is true of the log, the note and the right of a leader when an engine is opened.
use Rattle.std.proofs.Common.{◌≡◌, ◌⊎◌, inl, inr, ⊎_elim, ℕ, Bool, true, false, List, [], ◌∷◌, Option, None, Some, refl, sym, ap, ◌∙◌, subst}
use Rattle.std.specs.List.{AllByRecursion}
use Rattle.log_writer.specs.declared.group_log.GroupLog.{Ghosts}
use Rattle.model_base.specs.Controller.{ControllerCall}
use Rattle.engine_parts.specs.declared.log.OpenLog.{OpenLog}
use Rattle.engine_parts.specs.Logs.{fault_of, faults_of}
use Rattle.log_writer.specs.CountedFaults.{AreCounted}
use Rattle.log_writer.proofs.Counting.{none_counted}
use Rattle.engine_parts.specs.Logs.{Wrote}
use Rattle.table_rule.specs.declared.content.MemberVersions.{MemberVersions}
use Rattle.engine_controller.specs.declared.controller.Controller.{Controller}
use Rattle.engine_rule.specs.Consistent.{AreConsistent, EndsAreNamed}
use Rattle.engine_rule.proofs.LogSights.{shown_first}
use Rattle.engine_groups.specs.Meaning.{Meaning}
use Rattle.engine_parts.specs.Handled.{AreHandled}
use Rattle.engine_stage_laws.specs.Served.{AreServed}
use Rattle.engine_parts.specs.LogLaw.{Covers}
use Rattle.engine_parts.specs.Places.{MayBegin}
use Rattle.log_updates.specs.declared.places.LogPlace.{LogPlace}
use Rattle.log_updates.specs.Places.{first_place}
use Rattle.engine_groups.specs.Law.{ServesIs, TurnIs}

-- reads may begin at the start
begin_first : {D : Type 0} {ghosts : Ghosts D} (opened : OpenLog D ghosts) (start : ℕ) (log : OpenLog D ghosts) (places : List LogPlace) → AllByRecursion (λ (p : LogPlace). p ≡ first_place) places → AllByRecursion (MayBegin opened start log) places
begin_first opened start log [] firsts = tt
begin_first opened start log (p ∷ places) firsts = (inl firsts.0, begin_first opened start log places firsts.1)

-- an opened log, a table where nothing is published, its turn, and a controller that nobody has asked
pub stands_first : {D : Type 0} {ghosts : Ghosts D} {T U : Type 0} (our_turn : T → U → Type 0) (history : U → List (List MemberVersions)) (table : T) (log : OpenLog D ghosts) (places : List LogPlace) (start clients group_bytes : ℕ) (turn : U) (asked : List ControllerCall)
    → AreConsistent start clients group_bytes [] [] start None [] [] → our_turn table turn → history turn ≡ [] → fault_of log ≡ None → asked ≡ [] → Wrote log [] log → AllByRecursion (λ (p : LogPlace). p ≡ first_place) places
    → Covers our_turn history table log start clients group_bytes asked log places turn start 0 []
stands_first our_turn history table log places start clients group_bytes turn asked first our none alive unasked begun firsts = record {
  our = our;
  calls = [];
  wrote = begun;
  consistent = subst (λ (z : List ControllerCall × Option ℕ × List (List MemberVersions)). AreConsistent start clients group_bytes z.0 [] start z.1 z.2 []) (λ i. (sym unasked i, sym alive i, sym none i)) first;
  made_is = refl;
  shown = shown_first;
  right = tt;
  readers = tt;
  counted = subst (λ (f : Option ℕ). AreCounted (faults_of log) (faults_of log) f []) (sym alive) (none_counted (faults_of log));
  begins = begin_first log start log places firsts;
}

-- nothing was handled yet
pub kept_first : {C D : Type 0} {ghosts : Ghosts D} (controller : Controller C) (opened : OpenLog D ghosts) (start clients group_bytes : ℕ)
    → AreConsistent start clients group_bytes [] [] start None [] [] → Wrote opened [] opened → AreHandled controller opened start []
kept_first controller opened start clients group_bytes first begun = record {
  answered = tt;
  handed_back = tt;
  shown = tt;
  written = record {
    calls = [];
    log = opened;
    wrote = begun;
    worked = first.written.worked;
    lost = first.written.lost;
    both = first.written.both;
    parts = first.written.parts;
    shown = record { each = tt; order = tt };
  };
}

some_or : {U : Type 0} → U → Option U → U
some_or d None = d
some_or d (Some u) = u

some_same : {U : Type 0} (a b : U) → Some a ≡ Some b → a ≡ b
unfolding some_or
some_same a b e = ap (some_or a) e

-- Where the right to launch is at the beginning
module _ {T S U P : Type 0} (meaning : Meaning T S U P) (table : T) (start : ℕ) (turn : U) (our : meaning.our_turn table turn) (none : meaning.history turn ≡ []) (named : EndsAreNamed start [] []) (with_log apart : Option U) where
  pub turn_first : (b : Bool) → (b ≡ false → (with_log ≡ Some turn) × (apart ≡ None)) → (b ≡ true → (with_log ≡ None) × (apart ≡ Some turn)) → TurnIs meaning table b [] with_log × ServesIs meaning table start b [] apart
  turn_first false one two = let t = one refl in ((turn, t.0, our, none), t.1)
  turn_first true one two = let t = two refl in (t.0, (turn, t.1, our, subst (λ h. AreServed [] h) (sym none) refl, subst (λ (h : List (List MemberVersions)). EndsAreNamed start [] h) (sym none) named))

module _ {U : Type 0} (turn : U) (with_log apart : Option U) where
  pub place_first : (b : Bool) → (b ≡ false → (with_log ≡ Some turn) × (apart ≡ None)) → (b ≡ true → (with_log ≡ None) × (apart ≡ Some turn)) → ((u : U) × (with_log ≡ Some u) × (apart ≡ None)) ⊎ ((u : U) × (with_log ≡ None) × (apart ≡ Some u))
  place_first false one two = let t = one refl in inl (turn, t.0, t.1)
  place_first true one two = let t = two refl in inr (turn, t.0, t.1)

  same_first : (u : U) → ((with_log ≡ Some turn) × (apart ≡ None)) ⊎ ((with_log ≡ None) × (apart ≡ Some turn)) → ((with_log ≡ Some u) × (apart ≡ None)) ⊎ ((with_log ≡ None) × (apart ≡ Some u)) → u ≡ turn
  same_first u a b = ⊎_elim {C = u ≡ turn}
      (λ (x : (with_log ≡ Some turn) × (apart ≡ None)). ⊎_elim {C = u ≡ turn} (λ (y : (with_log ≡ Some u) × (apart ≡ None)). some_same u turn (sym y.0 ∙ x.0)) (λ (y : (with_log ≡ None) × (apart ≡ Some u)). absurd (let z : Some turn ≡ None = sym x.0 ∙ y.0 in cc)) b)
      (λ (x : (with_log ≡ None) × (apart ≡ Some turn)). ⊎_elim {C = u ≡ turn} (λ (y : (with_log ≡ Some u) × (apart ≡ None)). absurd (let z : Some turn ≡ None = sym x.1 ∙ y.1 in cc)) (λ (y : (with_log ≡ None) × (apart ≡ Some u)). some_same u turn (sym y.1 ∙ x.1)) b)
      a

  pub back_first : (u : U) (b : Bool) → (b ≡ false → (with_log ≡ Some turn) × (apart ≡ None)) → (b ≡ true → (with_log ≡ None) × (apart ≡ Some turn)) → ((with_log ≡ Some u) × (apart ≡ None)) ⊎ ((with_log ≡ None) × (apart ≡ Some u)) → u ≡ turn
  back_first u false one two at = same_first u (inl (one refl)) at
  back_first u true one two at = same_first u (inr (two refl)) at
