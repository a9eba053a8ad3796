use Rattle.std.proofs.Common.{◌≡◌, ℕ, zero, suc, ◌+◌, ◌<◌, Bool, false, List, [], ◌∷◌, get_or, set, refl, sym, ap, ◌∙◌, arith}
use Rattle.std.proofs.lemmas.List.{get_or-set_other}
use Rattle.std.specs.Slots.{slots_filled, slots_len}
use Rattle.std.specs.Slots.Ownership.{Filled}
use mathlib.Core.Logic.{dite}
use mathlib.Core.Option.{some, some-injective}
use native.Mathlib.Decide.{ℕ_discrete}
use lib.ListN.{get_elem?}
use Rattle.line_writers.proofs.closing.take_all.Goals as goal

same_at : {A : Type 0} (l m : List A) (i : ℕ) (a b : A) → l ≡ m → get_elem? l i ≡ some a → get_elem? m i ≡ some b → a ≡ b
same_at l m i a b is here there = some-injective a b (sym here ∙ ap (λ s. get_elem? s i) is ∙ there)

cleared : (l : List Bool) (i : ℕ) → get_or (set l i false) i false ≡ false
cleared [] i = refl
cleared (x ∷ xs) zero = refl
cleared (x ∷ xs) (suc i) = cleared xs i

full_above : (was now : List Bool) (i high : ℕ) → now ≡ set was i false → Filled was i high → Filled now (i + 1) high
full_above was now i high is full k lo hi = ap (λ l. get_or l k false) is ∙ get_or-set_other was i k false false (λ e. absurd (omega (arith, lo, e))) ∙ full k (omega (arith, lo)) hi

none_below : (was now : List Bool) (i : ℕ) → now ≡ set was i false → ((k : ℕ) → k < i → get_or was k false ≡ false) → (k : ℕ) → k < i + 1 → get_or now k false ≡ false
none_below was now i is none k lo =
    ap (λ l. get_or l k false) is ∙ dite (ℕ_discrete k i)
    (λ e. ap (λ (j : ℕ). get_or (set was i false) j false) e ∙ cleared was i)
    (λ ne. get_or-set_other was i k false false ne ∙ none k (omega (arith, lo, ne)))

pub take-requires : goal.take-requires
take-requires g c = let f = c.requires.full in (omega arith, f.1 0 (omega arith) (omega arith))

pub log_of-log-requires : goal.log_of-log-requires
log_of-log-requires g c = let h = c.requires.held in (h.0, some-injective _ _ (sym c.take.ensures.value ∙ h.2))

pub loop-i-init : goal.loop-i-init
loop-i-init g c =
    let o = c.take.ensures.others in let was = slots_filled c.args.closed.slots in let now = slots_filled c.take.new.self.slots in record {
      filled = full_above was now 0 (slots_len c.take.new.self.slots) o.1 (λ k lo hi. c.requires.full.1 k lo (let same = o.2 in omega arith));
      taken = none_below was now 0 o.1 (λ k lo. absurd (omega (arith, lo)));
      items = o.0;
      len = o.2;
    }

pub overflow_cast-i : goal.overflow_cast-i
overflow_cast-i g c = let f = c.requires.full in let t = c.loop-i-test.true in omega arith

pub overflow_add-i : goal.overflow_add-i
overflow_add-i g c = let f = c.requires.full in let t = c.loop-i-test.true in omega arith

pub take-requires-in-loop-i : goal.take-requires-in-loop-i
take-requires-in-loop-i g c =
    let f = c.requires.full in let v = c.loop-i.invariant in let t = c.loop-i-test.true in let len = v.len in
    (omega arith, v.filled (c.loop-i.i + 1) (omega arith) (omega arith))

pub nothing_of-requires : goal.nothing_of-requires
nothing_of-requires g c =
    let h = c.requires.held in let t = c.loop-i-test.true in
    same_at _ _ (c.loop-i.i + 1) _ _ c.loop-i.invariant.items c.take-in-loop-i.ensures.value (h.4 (c.loop-i.i + 1) (omega arith) (omega arith))

pub loop-i-smaller : goal.loop-i-smaller
loop-i-smaller g c = let t = c.loop-i-test.true in omega arith

pub loop-i-preserved : goal.loop-i-preserved
loop-i-preserved g c =
    let v = c.loop-i.invariant in let o = c.take-in-loop-i.ensures.others in let i = c.loop-i.i + 1 in
    let was = slots_filled c.loop-i.closed.slots in let now = slots_filled c.take-in-loop-i.new.self.slots in record {
      filled = full_above was now i (slots_len c.take-in-loop-i.new.self.slots) o.1 (λ k lo hi. v.filled k lo (let same = o.2 in omega (arith, hi)));
      taken = none_below was now i o.1 v.taken;
      items = o.0 ∙ v.items;
      len = o.2 ∙ v.len;
    }

pub overflow_add-clients : goal.overflow_add-clients
overflow_add-clients g c = let f = c.requires.full in omega arith

pub take-requires-2 : goal.take-requires-2
take-requires-2 g c =
    let f = c.requires.full in let v = c.loop-i.invariant in let len = v.len in
    (omega arith, v.filled (c.args.clients + 1) (omega arith) (omega arith))

pub right_of-right-requires : goal.right_of-right-requires
right_of-right-requires g c =
    let h = c.requires.held in (h.1, same_at _ _ (c.args.clients + 1) _ _ c.loop-i.invariant.items c.take-2.ensures.value h.3)

pub free-requires : goal.free-requires
free-requires g c k hi =
    let f = c.requires.full in let v = c.loop-i.invariant in let o = c.take-2.ensures.others in let t = c.loop-i-test.false in
    let len = v.len in let same = o.2 in
    none_below (slots_filled c.loop-i.closed.slots) (slots_filled c.take-2.new.self.slots) (c.args.clients + 1) o.1 (λ j lo. v.taken j (omega (arith, lo))) k (omega (arith, hi))

pub returns : goal.returns
returns g c = (
  c.take.ensures.value ∙ ap some c.log_of-log.ensures,
  ap (λ l. get_elem? l (c.args.clients + 1)) (sym c.loop-i.invariant.items) ∙ c.take-2.ensures.value ∙ ap some c.right_of-right.ensures,
)
