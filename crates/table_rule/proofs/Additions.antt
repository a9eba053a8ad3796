-- Versions that are put into a tree one after another.
use Rattle.std.proofs.Common.{◌≡◌, ◌≢◌, ℕ, List, [], ◌∷◌, ◌++◌, refl, sym, subst, inl, inr, ⊎_elim, arith}
use Rattle.table_rule.specs.declared.content.Version.{Version}
use Rattle.table_rule.specs.Histories.{In, Runs}
use Rattle.table_rule.specs.Steps.{Adds, AddsAll}
use Rattle.table_rule.proofs.Histories.{in_left, in_right, in_split, runs_left}
use Rattle.table_rule.proofs.Fresh.{run_apart}

pub adds_none : (vs : List Version) → AddsAll vs [] vs
adds_none vs = ((λ x h. absurd h), (λ x h. h), λ x h. inr h)

-- one more
pub adds_more : (vs put : List Version) (v : Version) (ws us : List Version) → AddsAll vs put ws → Adds ws v us → AddsAll vs (put ++ v ∷ []) us
adds_more vs put v ws us all one = (
  (λ x h. ⊎_elim (λ (a : In x put). one.1 x (all.0 x a)) (λ (b : In x (v ∷ [])). ⊎_elim (λ (e : v ≡ x). subst (λ (y : Version). In y us) e one.0) (λ (bad : ⊥). absurd bad) b) (in_split x put (v ∷ []) h)),
  (λ x h. one.1 x (all.1 x h)),
  λ x h. ⊎_elim
      (λ (e : x ≡ v). inl (in_right x put (v ∷ []) (inl (sym e))))
      (λ (w : In x ws). ⊎_elim (λ (a : In x put). inl (in_left x put (v ∷ []) a)) (λ (b : In x vs). inr b) (all.2 x w))
      (one.2 x h),
)

-- the next one isn't there yet
pub stays_fresh : (vs put : List Version) (v : Version) (left more ws : List Version) (last : ℕ) → AddsAll vs put ws → Runs last ((put ++ v ∷ left) ++ more) → ((x : Version) → In x vs → x.sequence ≢ v.sequence) → (x : Version) → In x ws → x.sequence ≢ v.sequence
stays_fresh vs put v left more ws last all runs apart x h e = ⊎_elim
    (λ (a : In x put). let lt = run_apart last put (v ∷ left) x v (runs_left last (put ++ v ∷ left) more runs) a (inl refl) in absurd (omega arith))
    (λ (b : In x vs). apart x b e)
    (all.2 x h)
