-- No version of the part in hand that is still to be inserted is in a tree, and the sequences of these versions are a
-- run.
use Rattle.std.proofs.Common.{◌≡◌, ◌≢◌, ℕ, ◌+◌, ◌<◌, List, [], ◌∷◌, ◌++◌, length, sym, ap, ◌∙◌, subst, ⊎_elim, arith}
use native.Mathlib.Decide.{ℕ_discrete}
use mathlib.Core.Logic.{dite}
use Rattle.table_rule.specs.declared.content.Version.{Version}
use Rattle.table_rule.specs.declared.content.MemberVersions.{MemberVersions}
use Rattle.table_rule.specs.Histories.{In, versions_in, Runs, Apart}
use Rattle.table_rule.specs.Rule.{Place, busy, Mode, still, running, ended, stored_in, InPart, AllParts, end_of, IsLaunched, InMode}
use Rattle.table_rule.proofs.Histories.{in_right, in_run, runs_left, runs_right, member_or, part_in}
use Rattle.table_rule.proofs.Parts.{stored_part, part_at, IsOpen, finished_parts}

pub run_apart : (last : ℕ) (xs ys : List Version) (x y : Version) → Runs last (xs ++ ys) → In x xs → In y ys → x.sequence < y.sequence
run_apart last xs ys x y runs a b = let p = (in_run last xs x (runs_left last xs ys runs) a).1 in let q = (in_run (last + length xs) ys y (runs_right last xs ys runs) b).0 in omega arith

-- a part's versions are a run of their own
part_runs : (last : ℕ) (g : List MemberVersions) (p : MemberVersions) → Runs last (versions_in g) → In p g → (low : ℕ) × Runs low p.versions
part_runs last [] p runs h = absurd h
part_runs last (q ∷ qs) p runs h = ⊎_elim
    (λ (e : q ≡ p). subst (λ (x : MemberVersions). (low : ℕ) × Runs low x.versions) e (last, runs_left last q.versions (versions_in qs) runs))
    (λ (t : In p qs). part_runs (last + length q.versions) qs p (runs_right last q.versions (versions_in qs) runs) t)
    h

parts_apart : (last : ℕ) (g : List MemberVersions) (p q : MemberVersions) (x y : Version) → Runs last (versions_in g) → In p g → In q g → p.member ≢ q.member → In x p.versions → In y q.versions → x.sequence ≢ y.sequence
parts_apart last [] p q x y runs hp hq ne hx hy e = hp
parts_apart last (t ∷ ts) p q x y runs hp hq ne hx hy e = ⊎_elim
    (λ (a : t ≡ p). ⊎_elim
    (λ (b : t ≡ q). ne (ap (λ (w : MemberVersions). w.member) (sym a ∙ b)))
    (λ (b : In q ts). let lt = run_apart last t.versions (versions_in ts) x y runs (subst (λ (w : MemberVersions). In x w.versions) (sym a) hx) (part_in q ts y b hy) in absurd (omega arith)) hq)
    (λ (a : In p ts). ⊎_elim
    (λ (b : t ≡ q). let lt = run_apart last t.versions (versions_in ts) y x runs (subst (λ (w : MemberVersions). In y w.versions) (sym b) hy) (part_in p ts x a hx) in absurd (omega arith))
    (λ (b : In q ts). parts_apart (last + length t.versions) ts p q x y (runs_right last t.versions (versions_in ts) runs) a b ne hx hy e) hq)
    hp

module _ (n word : ℕ) (place : ℕ → Place) (last : ℕ) (c l : ℕ) (done more : List Version) (now : place c ≡ busy l done more) where
  fresh_in : (g : List MemberVersions) → AllParts place (end_of last g) g → IsLaunched n word place last g → (v : Version) → In v more → (last < v.sequence) × ((i : ℕ) (x : Version) → In x (stored_in (place i)) → x.sequence ≢ v.sequence)
  fresh_in g parts fit v h =
      ⊎_elim
      (λ (t : (p : MemberVersions) × In p g × (p.member ≡ c)).
      let part : InPart (end_of last g) t.0.versions (busy l done more) = subst (InPart (end_of last g) t.0.versions) (ap place t.2 ∙ now) (part_at place (end_of last g) g t.0 parts t.1) in
      let in_p : In v t.0.versions = subst (In v) part.1 (in_right v done more h) in (
        (in_run last (versions_in g) v fit.0 (part_in t.0 g v t.1 in_p)).0,
        λ i x hx e. dite (ℕ_discrete i c)
            (λ (is : i ≡ c).
            let in_done : In x done = subst (λ (p : Place). In x (stored_in p)) (ap place is ∙ now) hx in
            let low = part_runs last g t.0 fit.0 t.1 in
            let lt = run_apart low.0 done more x v (subst (Runs low.0) (sym part.1) low.1) in_done h in absurd (omega arith))
            (λ (ne : i ≢ c). ⊎_elim
            (λ (u : (q : MemberVersions) × In q g × (q.member ≡ i)).
            let in_q : In x u.0.versions = stored_part (end_of last g) u.0.versions (place i) x (subst (λ (j : ℕ). InPart (end_of last g) u.0.versions (place j)) u.2 (part_at place (end_of last g) g u.0 parts u.1)) hx in
            parts_apart last g u.0 t.0 x v fit.0 u.1 t.1 (λ f. ne (sym u.2 ∙ (f ∙ t.2))) in_q in_p e)
            (λ (u : Apart i g). subst (λ (p : Place). In x (stored_in p)) (fit.3 i u) hx)
            (member_or i g)),
      ))
      (λ (t : Apart c g). absurd (subst IsOpen (sym now ∙ fit.3 c t) tt))
      (member_or c g)

  rest_runs_in : (g : List MemberVersions) → AllParts place (end_of last g) g → IsLaunched n word place last g → (low : ℕ) × Runs low more
  rest_runs_in g parts fit =
      ⊎_elim
      (λ (t : (p : MemberVersions) × In p g × (p.member ≡ c)).
      let part : InPart (end_of last g) t.0.versions (busy l done more) = subst (InPart (end_of last g) t.0.versions) (ap place t.2 ∙ now) (part_at place (end_of last g) g t.0 parts t.1) in
      let low = part_runs last g t.0 fit.0 t.1 in
      (low.0 + length done, runs_right low.0 done more (subst (Runs low.0) (sym part.1) low.1)))
      (λ (t : Apart c g). absurd (subst IsOpen (sym now ∙ fit.3 c t) tt))
      (member_or c g)

  pub rest_runs : (mode : Mode) → InMode n word place last mode → (low : ℕ) × Runs low more
  rest_runs still ok = absurd (subst IsOpen (sym now ∙ ok.1 c) tt)
  rest_runs (running g) ok = rest_runs_in g ok.2 ok.3
  rest_runs (ended m g) ok = rest_runs_in g (finished_parts place (end_of last g) g ok.1) ok.2

  pub fresh : (mode : Mode) → InMode n word place last mode → (v : Version) → In v more → (last < v.sequence) × ((i : ℕ) (x : Version) → In x (stored_in (place i)) → x.sequence ≢ v.sequence)
  fresh still ok v h = absurd (subst IsOpen (sym now ∙ ok.1 c) tt)
  fresh (running g) ok v h = fresh_in g ok.2 ok.3 v h
  fresh (ended m g) ok v h = fresh_in g (finished_parts place (end_of last g) g ok.1) ok.2 v h
