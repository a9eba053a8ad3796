-- The result of an event, from the test that the code makes.
use Rattle.std.proofs.Common.{◌≡◌, Bool, true, false, ◌&&◌, Option, Some, None, refl, sym, ap, ◌∙◌, subst}
use Rattle.model_core.specs.Core as core
use Rattle.model_core.specs.Step.{when}
use Rattle.replay_core.specs.declared.state.State.{State}
use Rattle.replay_core.specs.Mirrors.{Mirrors, MirrorsStep}

-- the test fails, and nothing changes
pub passed_over : (v : Option core.State) (b : Bool) (o : core.Options) (t s : core.State) (r : State) → v ≡ when b t → b ≡ false → Mirrors o r s → MirrorsStep v o s false r
passed_over v b o t s r e fails m =
    let none : v ≡ None = e ∙ ap (λ b. when b t) fails in
    let P : Option core.State → Type 0 = λ x. MirrorsStep x o s false r in
    subst P (sym none) (refl, m)

-- the test holds, and this is the state after the event
pub taken : (v : Option core.State) (b : Bool) (o : core.Options) (t s : core.State) (r : State) → v ≡ when b t → b ≡ true → Mirrors o r t → MirrorsStep v o s true r
taken v b o t s r e holds m =
    let some : v ≡ Some t = e ∙ ap (λ b. when b t) holds in
    let P : Option core.State → Type 0 = λ x. MirrorsStep x o s true r in
    subst P (sym some) (refl, m)

pub first_false : (a b : Bool) → a ≡ false → (a && b) ≡ false
first_false a b e = ap (λ v. v && b) e

pub second_false : (a b : Bool) → b ≡ false → (a && b) ≡ false
second_false true b e = e
second_false false b e = refl

pub both_true : (a b : Bool) → a ≡ true → b ≡ true → (a && b) ≡ true
both_true a b p q = ap (λ v. v && b) p ∙ q

pub first_fails : (v : Option core.State) (a b : Bool) (o : core.Options) (t s : core.State) (r : State) → v ≡ when (a && b) t → a ≡ false → Mirrors o r s → MirrorsStep v o s false r
first_fails v a b o t s r e fails m = passed_over v (a && b) o t s r e (first_false a b fails) m

pub second_fails : (v : Option core.State) (a b : Bool) (o : core.Options) (t s : core.State) (r : State) → v ≡ when (a && b) t → b ≡ false → Mirrors o r s → MirrorsStep v o s false r
second_fails v a b o t s r e fails m = passed_over v (a && b) o t s r e (second_false a b fails) m

pub both_hold : (v : Option core.State) (a b : Bool) (o : core.Options) (t s : core.State) (r : State) → v ≡ when (a && b) t → a ≡ true → b ≡ true → Mirrors o r t → MirrorsStep v o s true r
both_hold v a b o t s r e p q m = taken v (a && b) o t s r e (both_true a b p q) m

-- the event may not come
pub cannot_come : (v : Option core.State) (o : core.Options) (s : core.State) (r : State) → v ≡ None → Mirrors o r s → MirrorsStep v o s false r
cannot_come v o s r e m =
    let P : Option core.State → Type 0 = λ x. MirrorsStep x o s false r in
    subst P (sym e) (refl, m)

-- the event comes
pub has_come : (v : Option core.State) (o : core.Options) (t s : core.State) (r : State) → v ≡ Some t → Mirrors o r t → MirrorsStep v o s true r
has_come v o t s r e m =
    let P : Option core.State → Type 0 = λ x. MirrorsStep x o s true r in
    subst P (sym e) m2
  where
    m2 : (true ≡ true) × Mirrors o r t
    m2 = (refl, m)

-- another event that does the same
pub as_step : (v u : Option core.State) (o : core.Options) (s : core.State) (came : Bool) (r : State) → v ≡ u → MirrorsStep u o s came r → MirrorsStep v o s came r
as_step v u o s came r e m = let P : Option core.State → Type 0 = λ x. MirrorsStep x o s came r in subst P (sym e) m
