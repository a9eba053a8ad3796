-- Refusals at a stall: the calls that explain one, and where none does.
use Rattle.std.proofs.Common.{◌≡◌, ℕ, zero, suc, None, Some, slice_get, refl, sym, ap, subst, arith, inl, inr, ⊎_elim}
use Rattle.std.proofs.Math.Dec.{lit≤}
use Rattle.model_base.specs.declared.write.Refusal.TheVariants.{Incomplete}
use Rattle.model_base.specs.Controller as controller
use Rattle.model_base.specs.Controller.{ControllerCall, Look, HoldUp, IsLegal}
use Rattle.model_base.specs.Replies.{MayRefuse}
use Rattle.model_rows.specs.Examples.{noslow, plain}
use Rattle.model_rows.specs.Stalls.{begun, no_tokens, one_stop, one_slow, looking, looked_by, asked_before, waited_by}
use Rattle.model_rows.proofs.Alone.{some_same}

-- parts of a call that is at a place
action_same : {t u : ControllerCall} → Some t ≡ Some u → t.action ≡ u.action
action_same e = ap (λ (c : ControllerCall). c.action) (some_same e)

client_same : {t u : ControllerCall} → Some t ≡ Some u → t.client ≡ u.client
client_same e = ap (λ (c : ControllerCall). c.client) (some_same e)

told_same : {t u : ControllerCall} → Some t ≡ Some u → t.told ≡ u.told
told_same e = ap (λ (c : ControllerCall). c.told) (some_same e)

-- these are legal histories
pub stopped : (by : ℕ) → IsLegal (looked_by by)
stopped by = (refl, (refl, (refl, tt)))

pub before : (by : ℕ) → IsLegal (asked_before by)
before by = (refl, (refl, (refl, tt)))

pub slowed : (by : ℕ) → IsLegal (waited_by by)
slowed by = (refl, (refl, (refl, tt)))

-- Where writes are stopped: the last call is the only look, and client 1's the only delay

look_at : (by place client : ℕ) (numbers : Look) → slice_get (looked_by by) place ≡ Some (looking client numbers) → (by ≡ client) × (one_stop ≡ numbers)
look_at by zero client numbers there = let other = action_same there in absurd (cc)
look_at by (suc zero) client numbers there = let other = action_same there in absurd (cc)
look_at by (suc (suc zero)) client numbers there = (client_same there, some_same (told_same there))
look_at by (suc (suc (suc place))) client numbers there = absurd (cc)

delay_at : (by at client now bytes : ℕ) (told : Look) → slice_get (looked_by by) at ≡ Some (record { client = client; action = controller.delay now bytes; told = Some told }) → 1 ≡ client
delay_at by zero client now bytes told there = let other = action_same there in absurd (cc)
delay_at by (suc zero) client now bytes told there = client_same there
delay_at by (suc (suc zero)) client now bytes told there = let other = action_same there in absurd (cc)
delay_at by (suc (suc (suc at))) client now bytes told there = absurd (cc)

pub by_the_leader : MayRefuse (looked_by 1) 3 begun 3 noslow (Incomplete 1 0 0) None
by_the_leader = (
  refl,
  (
    1,
    2,
    record { later = lit≤ tt; there = refl },
    lit≤ tt,
    record {
      leader = 1;
      other = λ same. absurd (omega (arith, same));
      stalled = record { at = 1; now = 0; bytes = 17; told = one_stop; there = refl; before = lit≤ tt; holds_up = inl (lit≤ tt) };
      looked = inr refl;
      shown = inl (lit≤ tt);
    },
  ),
)

pub by_itself : MayRefuse (looked_by 3) 3 begun 3 noslow (Incomplete 1 0 0) None
by_itself = (
  refl,
  (
    3,
    2,
    record { later = lit≤ tt; there = refl },
    lit≤ tt,
    record {
      leader = 1;
      other = λ same. absurd (omega (arith, same));
      stalled = record { at = 1; now = 0; bytes = 17; told = one_stop; there = refl; before = lit≤ tt; holds_up = inl (lit≤ tt) };
      looked = inl refl;
      shown = inl (lit≤ tt);
    },
  ),
)

pub not_by_another : MayRefuse (looked_by 2) 3 begun 3 noslow (Incomplete 1 0 0) None → ⊥
not_by_another may =
    let told = may.1 in let met = told.4 in
    let who : 2 ≡ told.0 = (look_at 2 told.1 told.0 _ told.2.there).0 in
    let leads : 1 ≡ met.leader = delay_at 2 met.stalled.at met.leader met.stalled.now met.stalled.bytes met.stalled.told met.stalled.there in
    ⊎_elim (λ own. absurd (omega (arith, who, own))) (λ its. absurd (omega (arith, who, leads, its))) met.looked

pub not_other_numbers : (by : ℕ) → MayRefuse (looked_by by) 3 begun 3 noslow (Incomplete 0 1 0) None → ⊥
not_other_numbers by may =
    let told = may.1 in let shown = ap (λ (l : Look). l.stops) (look_at by told.1 told.0 _ told.2.there).1 in absurd (omega (arith, shown))

pub not_known_before : (by : ℕ) → MayRefuse (looked_by by) 3 (record begun { known = 3 }) 3 noslow (Incomplete 1 0 0) None → ⊥
not_known_before by may = let told = may.1 in let late = told.2.later in let early = told.3 in absurd (omega (arith, late, early))

pub not_plain : (by : ℕ) → MayRefuse (looked_by by) 3 begun 3 plain (Incomplete 1 0 0) None → ⊥
not_plain by may = let flag = may.0 in absurd (cc)

-- Where the delay came before the stop, it was told of no token

told_none : (by at client now bytes : ℕ) (told : Look) → slice_get (asked_before by) at ≡ Some (record { client = client; action = controller.delay now bytes; told = Some told }) → no_tokens ≡ told
told_none by zero client now bytes told there = some_same (told_same there)
told_none by (suc zero) client now bytes told there = let other = action_same there in absurd (cc)
told_none by (suc (suc zero)) client now bytes told there = let other = action_same there in absurd (cc)
told_none by (suc (suc (suc at))) client now bytes told there = absurd (cc)

none_up : HoldUp no_tokens → ⊥
none_up (inl stopped) = omega arith
none_up (inr slow) = let some = slow.0 in omega arith

pub not_without_a_stall : (by : ℕ) → MayRefuse (asked_before by) 3 begun 3 noslow (Incomplete 1 0 0) None → ⊥
not_without_a_stall by may =
    let s = may.1.4.stalled in none_up (subst HoldUp (sym (told_none by s.at may.1.4.leader s.now s.bytes s.told s.there)) s.holds_up)

-- Where writes are slowed down, the one delay is this client's

waits_at : (by at client now bytes : ℕ) (told : Look) → slice_get (waited_by by) at ≡ Some (record { client = client; action = controller.delay now bytes; told = Some told }) → by ≡ client
waits_at by zero client now bytes told there = let other = action_same there in absurd (cc)
waits_at by (suc zero) client now bytes told there = client_same there
waits_at by (suc (suc zero)) client now bytes told there = let other = action_same there in absurd (cc)
waits_at by (suc (suc (suc at))) client now bytes told there = absurd (cc)

pub behind_a_wait : MayRefuse (waited_by 1) 3 begun 3 noslow (Incomplete 0 1 0) None
behind_a_wait = (
  refl,
  (
    3,
    2,
    record { later = lit≤ tt; there = refl },
    lit≤ tt,
    record {
      leader = 1;
      other = λ same. absurd (omega (arith, same));
      stalled = record { at = 1; now = 1000; bytes = 17; told = record one_slow { wait = 16001000 }; there = refl; before = lit≤ tt; holds_up = inr (lit≤ tt, lit≤ tt) };
      looked = inl refl;
      shown = inr (lit≤ tt);
    },
  ),
)

pub not_its_own : MayRefuse (waited_by 3) 3 begun 3 noslow (Incomplete 0 1 0) None → ⊥
not_its_own may = let met = may.1.4 in met.other (sym (waits_at 3 met.stalled.at met.leader met.stalled.now met.stalled.bytes met.stalled.told met.stalled.there))
