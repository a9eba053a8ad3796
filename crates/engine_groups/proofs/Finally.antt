-- At the end the right to launch is in one place, and what is published is what was handled.
use Rattle.std.proofs.Common.{◌≡◌, ◌⊎◌, inl, inr, ⊎_elim, Bool, true, false, List, [], Option, Some, None, refl, sym, ap, ◌∙◌, subst}
use Rattle.log_writer.specs.declared.group_log.GroupLog.{Ghosts}
use Rattle.table_rule.specs.declared.content.MemberVersions.{MemberVersions}
use Rattle.line_rule.specs.declared.view.Handling.{Handling}
use Rattle.line_rule.specs.Laws.{given_runs}
use Rattle.engine_parts.specs.Logs.{fault_of}
use Rattle.engine_controller.specs.Passes.{seen_by_note}
use Rattle.engine_stage_laws.specs.Served.{AreServed}
use Rattle.engine_stage_laws.proofs.Serving.{consistent_served}
use Rattle.engine_groups.specs.Meaning.{Meaning}
use Rattle.engine_groups.specs.declared.leader.EngineAtOpening.{EngineAtOpening}
use Rattle.engine_groups.specs.declared.leader.Leadership.{Leadership}
use Rattle.engine_groups.specs.declared.leader.Right.{Right}
use Rattle.engine_parts.specs.declared.requests.Request.{Request}
use Rattle.engine_parts.specs.declared.requests.Answer.{Answer}
use Rattle.engine_parts.specs.Handled.{AreHandled, commits_in}
use Rattle.engine_groups.specs.Law.{LeadershipCovers, RightStandsFor, ServesIs, TurnIs}
use Rattle.engine_parts.specs.Runs.{run_of}
use Rattle.engine_groups.proofs.Leads.{LogIn}
use Rattle.engine_groups.proofs.Onto.{ends_of_all, given_accepted}

some_or : {U : Type 0} → U → Option U → U
some_or d None = d
some_or d (Some u) = u

some_same : {U : Type 0} (a b : U) → Some a ≡ Some b → a ≡ b
unfolding some_or
some_same a b e = ap (some_or a) e

module _ {D T C S U P : Type 0} {ghosts : Ghosts D} (meaning : Meaning T S U P) (about : EngineAtOpening D T C ghosts) (leadership : Leadership D T C S U P ghosts) (handled : List (Handling Request Answer)) where
  pub record Ends (with_log apart : Option U) : Type 0 where
    pub turn : U
    pub place : ((with_log ≡ Some turn) × (apart ≡ None)) ⊎ ((with_log ≡ None) × (apart ≡ Some turn))
    pub our : meaning.our_turn about.table.value turn
    pub path : LogIn about leadership (meaning.history turn) handled

  ends_by : (b : Bool) (apart : Option U) (published : List (List MemberVersions)) → LogIn about leadership published handled → AreHandled about.controller.value about.opened.value about.start handled → TurnIs meaning about.table.value b published leadership.turn
      → (b ≡ false → ServesIs meaning about.table.value about.start b [] apart) → (b ≡ true → ServesIs meaning about.table.value about.start b (given_runs run_of handled) apart) → Ends leadership.turn apart
  ends_by false apart published path kept turn none served = record {
    turn = turn.0;
    place = inl (turn.1, none refl);
    our = turn.2;
    path = subst (λ h. LogIn about leadership h handled) (sym turn.3) path;
  }
  ends_by true apart published path kept turn none served =
      let s = served refl in
      let accepted = subst (λ cs. AreServed cs (meaning.history s.0)) (given_accepted about.start None handled kept.handed_back path.consistent.answered) s.3 in
      let named = ends_of_all about.start handled (meaning.history s.0) kept.handed_back path.consistent.answered s.4 in
      record {
        turn = s.0;
        place = inr (turn, s.1);
        our = s.2;
        path = record {
          our = tt;
          calls = path.calls;
          wrote = path.wrote;
          consistent = consistent_served about.start about.clients about.group_bytes (seen_by_note leadership.asked) (commits_in handled) leadership.held.value.path.last (fault_of leadership.held.value.path.log) published (meaning.history s.0) path.calls path.consistent accepted named;
          made_is = path.made_is;
          shown = path.shown;
          right = path.right;
          readers = path.readers;
          counted = path.counted;
          begins = path.begins;
        };
      }

  pub ends_with : (right : Right T S U P) (piped : Bool) → about.pipelined ≡ piped → LeadershipCovers meaning about leadership handled → AreHandled about.controller.value about.opened.value about.start handled
      → (piped ≡ false → RightStandsFor meaning about right []) → (piped ≡ true → RightStandsFor meaning about right (given_runs run_of handled)) → Ends leadership.turn right.turn
  ends_with right piped same st kept none served = ends_by about.pipelined right.turn st.published st.path kept st.turn (λ is. none (sym same ∙ is)) (λ is. served (sym same ∙ is))

  pub one_place : (with_log apart : Option U) → Ends with_log apart → ((u : U) × (with_log ≡ Some u) × (apart ≡ None)) ⊎ ((u : U) × (with_log ≡ None) × (apart ≡ Some u))
  one_place with_log apart e = ⊎_elim (λ t. inl (e.turn, t.0, t.1)) (λ t. inr (e.turn, t.0, t.1)) e.place

  turn_same : (with_log apart : Option U) (u : U) (e : Ends with_log apart) → ((with_log ≡ Some u) × (apart ≡ None)) ⊎ ((with_log ≡ None) × (apart ≡ Some u)) → e.turn ≡ u
  turn_same with_log apart u e at = ⊎_elim {C = e.turn ≡ u}
      (λ (a : (with_log ≡ Some e.turn) × (apart ≡ None)). ⊎_elim {C = e.turn ≡ u} (λ (b : (with_log ≡ Some u) × (apart ≡ None)). some_same e.turn u (sym a.0 ∙ b.0)) (λ (b : (with_log ≡ None) × (apart ≡ Some u)). absurd (let x : None ≡ Some u = sym a.1 ∙ b.1 in cc)) at)
      (λ (a : (with_log ≡ None) × (apart ≡ Some e.turn)). ⊎_elim {C = e.turn ≡ u} (λ (b : (with_log ≡ Some u) × (apart ≡ None)). absurd (let x : None ≡ Some u = sym a.0 ∙ b.0 in cc)) (λ (b : (with_log ≡ None) × (apart ≡ Some u)). some_same e.turn u (sym a.1 ∙ b.1)) at)
      e.place

  pub ends_at : (with_log apart : Option U) (u : U) (e : Ends with_log apart) → ((with_log ≡ Some u) × (apart ≡ None)) ⊎ ((with_log ≡ None) × (apart ≡ Some u)) → meaning.our_turn about.table.value u × LogIn about leadership (meaning.history u) handled
  ends_at with_log apart u e at = subst (λ (x : U). meaning.our_turn about.table.value x × LogIn about leadership (meaning.history x) handled) (turn_same with_log apart u e at) (e.our, e.path)
