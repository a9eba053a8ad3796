-- What a delay leaves as it was, how a slow token changes the counts, and that a rate stays at least 1.
use Rattle.std.proofs.Common.{◌≡◌, ℕ, ◌+◌, ◌≤◌, Bool, true, false, true≢false, sym, ap, ◌∙◌, refl, subst, arith}
use Rattle.std.proofs.lemmas.Bool.Decides.{nat_tests}
use Rattle.std.specs.Prelude.{if◌then◌else◌, ◌==◌, nat_le, nat_lt, ◌||◌, ◌&&◌}
use Rattle.model_base.specs.Controller.{Numbers, Action, stop, unstop, slow, unslow, delay, look, say, hear, numbers_after, after_delay, after_slow, After, after_refill, after_payment, after_start, after_due_refill}
use Rattle.engine_controller.specs.Numbers.{held_up_after}

on_if : {A : Type 0} (P : A → Type 0) (b : Bool) (x y : A) → P x → P y → P (if b then x else y)
on_if P true x y p q = p
on_if P false x y p q = q

-- the stops, the delays and the rate are the same as before
abbrev pub Leaves : Numbers → Numbers → Type 0
Leaves n m = (m.stops ≡ n.stops) × (m.delays ≡ n.delays) × (m.rate ≡ n.rate)

abbrev LeavesAfter : Numbers → After → Type 0
LeavesAfter n a = Leaves n a.numbers

leaves_spending : (n m : Numbers) (now bytes : ℕ) → Leaves n m → LeavesAfter n (after_payment m now bytes)
leaves_spending n m now bytes l = on_if (LeavesAfter n) (nat_le bytes m.credit) _ _ l l

leaves_begun : (n : Numbers) (now : ℕ) → Leaves n (after_start n now)
leaves_begun n now = on_if (Leaves n) (n.next == 0) (record n { next = now }) n (refl, refl, refl) (refl, refl, refl)

leaves_refilling : (n m : Numbers) (now bytes : ℕ) → Leaves n m → LeavesAfter n (after_due_refill m now bytes)
leaves_refilling n m now bytes l = on_if (LeavesAfter n) (nat_le m.next now) _ _ (leaves_spending n (after_refill m now) now bytes l) l

pub leaves_delayed : (n : Numbers) (now bytes : ℕ) → Leaves n (after_delay n now bytes).numbers
leaves_delayed n now bytes =
    on_if (LeavesAfter n) (nat_lt 0 n.stops || (n.delays == 0)) _ _ (refl, refl, refl)
    (on_if (LeavesAfter n) (nat_le bytes n.credit) _ _ (refl, refl, refl) (leaves_refilling n (after_start n now) now bytes (leaves_begun n now)))

if_either : {A : Type 0} (a b : Bool) (x y : A) → b ≡ true → (if a || b then x else y) ≡ x
if_either true b x y e = refl
if_either false true x y e = refl
if_either false false x y e = absurd (true≢false (sym e))

-- where no client slows writes, asking for a delay changes nothing, and there is no wait
pub unslowed : (n : Numbers) (now bytes : ℕ) → n.delays ≡ 0 → after_delay n now bytes ≡ record { numbers = n; wait = 0 }
unslowed n now bytes none =
    let is : (n.delays == 0) ≡ true = grind (arith, nat_tests) in
    if_either (nat_lt 0 n.stops) (n.delays == 0) _ _ is

-- where no client stops or slows writes, a delay isn't told that writes are held up
pub freely_told : (client held_up : ℕ) (n : Numbers) (now bytes : ℕ) → n.stops ≡ 0 → n.delays ≡ 0
    → held_up_after client held_up n (delay now bytes) ≡ held_up
freely_told client held_up n now bytes stops delays =
    ap (λ b. if b then client else held_up) (neither (nat_lt 0 n.stops) (nat_lt 0 n.delays) _ (grind (arith, nat_tests)) (grind (arith, nat_tests)))
  where
    neither : (a b c : Bool) → a ≡ false → b ≡ false → (a || (b && c)) ≡ false
    neither true b c p q = p
    neither false true c p q = absurd (true≢false q)
    neither false false c p q = refl

-- what is noted of a call depends on the number of its client alone
pub noted_by : (client other held_up after : ℕ) (n : Numbers) (a : Action) → after ≡ held_up_after client held_up n a
    → client ≡ other → after ≡ held_up_after other held_up n a
noted_by client other held_up after n a is same = is ∙ ap (λ (c : ℕ). held_up_after c held_up n a) same

pub slowed_stops : (n : Numbers) (rate : ℕ) → (after_slow n rate).stops ≡ n.stops
slowed_stops n rate = on_if (λ (m : Numbers). m.stops ≡ n.stops) (n.delays == 0) (record n { credit = 0; next = 0 }) n refl refl

pub slowed_delays : (n : Numbers) (rate : ℕ) → (after_slow n rate).delays ≡ n.delays + 1
slowed_delays n rate = refl

-- a rate that is at least 1 stays so after a call
pub rate_after : (n : Numbers) (a : Action) → 1 ≤ n.rate → 1 ≤ (numbers_after n a).rate
rate_after n (stop shown) h = h
rate_after n (unstop shown) h = h
rate_after n (slow rate shown) h = omega arith
rate_after n (unslow shown) h = h
rate_after n (delay now bytes) h = subst (λ r. 1 ≤ r) (sym (leaves_delayed n now bytes).2) h
rate_after n look h = h
rate_after n (say shown) h = h
rate_after n (hear most) h = h
