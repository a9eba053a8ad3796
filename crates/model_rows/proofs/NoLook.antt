-- A commit that was accepted though its group's delay reported a stop and nobody looked again.
use Rattle.std.proofs.Common.{◌≡◌, ℕ, zero, suc, Bool, true, false, Some, List, [], ◌∷◌, map, slice_get, refl, sym, arith, ap, ◌∙◌, subst, inl, inr}
use Rattle.std.specs.Prelude.{option_map}
use Rattle.std.proofs.lemmas.Option.{slice_get-map}
use Rattle.model_base.specs.declared.group.Item.{Item}
use Rattle.model_base.specs.Controller as controller
use Rattle.model_base.specs.Controller.{ControllerCall, Look}
use Rattle.model_base.specs.Trace.{Trace}
use Rattle.model_base.specs.Attempts.{Attempt, succeeded, slowed, fate_at, with_attempt}
use Rattle.model_base.specs.Groups.{Group, Member, IsCommit, MayProceed, HasOneFate, AreGroups}
use Rattle.model_base.specs.Progress.{Progress, fresh}
use Rattle.model_base.specs.Runs.{Run}
use Rattle.model_base.specs.Outcomes.{IsLegalIn}
use Rattle.model_rows.specs.Examples.{put_a1, plain}
use Rattle.model_rows.specs.Runs.{two_clients, waiting_script, waiting_calls, waited_out, told_of_a_stop}
use Rattle.model_rows.proofs.Alone.{some_same, all_at, zip_at}
use Rattle.model_rows.proofs.Steps.{run_of, is_accepted}

action_same : {t u : ControllerCall} → Some t ≡ Some u → t.action ≡ u.action
action_same e = ap (λ (t : ControllerCall). t.action) (some_same e)

-- the one delay reported a stop, and there is no look
one_stop : (place by now bytes : ℕ) (numbers : Look) → slice_get told_of_a_stop place ≡ Some (record { client = by; action = controller.delay now bytes; told = Some numbers }) → numbers.stops ≡ 1
one_stop zero by now bytes numbers there = let other = action_same there in absurd (cc)
one_stop (suc zero) by now bytes numbers there = let other = action_same there in absurd (cc)
one_stop (suc (suc zero)) by now bytes numbers there = sym (ap (λ (l : Look). l.stops) (some_same (ap (λ (t : ControllerCall). t.told) (some_same there))))
one_stop (suc (suc (suc zero))) by now bytes numbers there = let other = action_same there in absurd (cc)
one_stop (suc (suc (suc (suc zero)))) by now bytes numbers there = let other = action_same there in absurd (cc)
one_stop (suc (suc (suc (suc (suc place))))) by now bytes numbers there = absurd (cc)

no_look : (at by : ℕ) (numbers : Look) → slice_get told_of_a_stop at ≡ Some (record { client = by; action = controller.look; told = Some numbers }) → ⊥
no_look zero by numbers there = let other = action_same there in cc
no_look (suc zero) by numbers there = let other = action_same there in cc
no_look (suc (suc zero)) by numbers there = let other = action_same there in cc
no_look (suc (suc (suc zero))) by numbers there = let other = action_same there in cc
no_look (suc (suc (suc (suc zero)))) by numbers there = let other = action_same there in cc
no_look (suc (suc (suc (suc (suc at))))) by numbers there = cc

-- so a commit that may wait can't go on
may_not : (delays : List ℕ) (by place decided now bytes : ℕ) (numbers : Look) (no_slowdown : Bool) → no_slowdown ≡ false → slice_get told_of_a_stop place ≡ Some (record { client = by; action = controller.delay now bytes; told = Some numbers })
    → MayProceed told_of_a_stop delays by place decided numbers no_slowdown → ⊥
may_not delays by place decided now bytes numbers true waits there may = cc
may_not delays by place decided now bytes numbers false waits there (inl none) = let one = one_stop place by now bytes numbers there in omega (arith, none, one)
may_not delays by place decided now bytes numbers false waits there (inr saw) = no_look saw.at by saw.numbers saw.there

module _ (groups : List Group) (attempts : List (List Attempt)) (are_groups : AreGroups 1048576 told_of_a_stop groups attempts) (own : Attempt) (there : slice_get attempts 0 ≡ Some (own ∷ [])) (waits : own.options.no_slowdown ≡ false) (written : own.status ≡ succeeded) where
  -- the commit that is a member of the group
  is_own : (m : Member) → m.client ≡ 1 → m.call ≡ 0 → (c : IsCommit attempts m) → c.attempt ≡ own
  is_own m client call c =
      let number : c.number ≡ 0 = (let is = c.client in omega (arith, client, is)) in
      let commits : c.commits ≡ own ∷ [] = some_same (sym c.of_client ∙ ap (slice_get attempts) number ∙ there) in
      some_same (sym c.there ∙ ap (slice_get c.commits) call ∙ ap (λ cs. slice_get cs 0) commits)

  stands : (g : Group) (m : Member) (among : ℕ) → slice_get g.members among ≡ Some m → m.client ≡ 1 → m.call ≡ 0 → HasOneFate told_of_a_stop groups attempts g → ⊥
  stands g m among at client call s =
      let one = zip_at _ g.members s.statuses among m s.are at in
      let is = is_own m client call one.2.0 in
      let status : one.0 ≡ succeeded = sym one.2.1 ∙ ap (λ (h : Attempt). h.status) is ∙ written in
      elim s.together [
        | inl slow ↦ (let slow_too : one.0 ≡ slowed = all_at (λ status. status ≡ slowed) s.statuses among one.0 slow one.1 in cc)
        | inr on ↦ (
            let p = on.1 in
            let item = slice_get-map (λ (n : Member). n.item) g.members among ∙ ap (option_map (λ (n : Member). n.item)) at in
            let no_wait : m.item.options.no_slowdown ≡ false = ap (λ (i : Item). i.options.no_slowdown) one.2.0.item ∙ ap (λ (h : Attempt). h.options.no_slowdown) is ∙ waits in
            may_not (map (λ (h : Group). h.place) groups) p.by g.place s.decided p.now p.bytes p.numbers m.item.options.no_slowdown no_wait p.there (all_at _ _ among m.item p.each item))
      ]

  pub never_written : ⊥
  never_written =
      let h = are_groups.none_else 0 (own ∷ []) 0 own there refl in
      stands h.group h.member h.among h.there h.client_is h.call_is (all_at (HasOneFate told_of_a_stop groups attempts) groups h.at h.group are_groups.together h.of_place)

-- the commit was written
attempted : (trace : Trace) (end : Progress) → Run two_clients trace 1 fresh waiting_calls end → (records : _) × (place : ℕ) × (decided : ℕ) × (end.attempts ≡ record { records = records; options = plain; status = succeeded; place = place; decided = decided } ∷ [])
attempted trace end run =
    let first = ap (λ (x : Progress). x.attempts) run.1.replies in let begun = run.0 in
    let a = is_accepted two_clients trace 1 begun plain 1 1 (put_a1 ∷ []) run.2.0 run.2.1.replies in
    (begun.pending, a.place, a.decided, ap (λ (x : Progress). x.attempts) run.2.2 ∙ ap (λ (x : Progress). x.attempts) a.after ∙ ap (λ attempts. with_attempt attempts begun.pending plain (fate_at a.place a.decided succeeded)) first)

pub not_written : (ended : ℕ) (trace : Trace) (attempts : List (List Attempt)) → trace.controller_calls ≡ told_of_a_stop → IsLegalIn two_clients ended waiting_script trace attempts waited_out → ⊥
not_written ended trace attempts same l =
    let one = l.each 0 _ _ refl refl in let right = one.2 in
    let own = attempted trace right.end (run_of two_clients trace 1 _ waiting_calls right.end (λ e. cc) right.is_transcript) in
    never_written l.groups attempts (subst (λ calls. AreGroups 1048576 calls l.groups attempts) same l.are_groups) (record { records = own.0; options = plain; status = succeeded; place = own.1; decided = own.2 })
    (one.1 ∙ ap (λ h. Some h) (right.commits ∙ own.3)) refl refl
