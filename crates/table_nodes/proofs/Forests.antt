-- A search in a list of versions that falls in sequence, where it is made of trees: a version, those of its children,
-- and the others.
use Rattle.std.proofs.Common.{◌≡◌, ℕ, ◌<◌, ◌≤◌, true, false, cond, leb, List, [], ◌∷◌, ◌++◌, Option, Some, None, refl, sym, ap, ◌∙◌, arith}
use Rattle.std.proofs.lemmas.Bool.Decides.{nat_tests}
use Rattle.std.specs.List.{AllByRecursion}
use Rattle.table_rule.specs.declared.content.Version.{Version}
use Rattle.table_nodes.specs.Chains.{Falls}
use Rattle.table_nodes.specs.Newest.{first_up_to}

-- what is found in the rest of a list, or else what was found before
abbrev pub or_else : Option Version → Option Version → Option Version
or_else None best = best
or_else (Some v) best = Some v

falls_front : (l m : List Version) → Falls (l ++ m) → Falls l
falls_front [] m f = tt
falls_front (v ∷ l) m f = (front l f.0, falls_front l m f.1)
  where
    front : (k : List Version) → AllByRecursion (λ (w : Version). w.sequence < v.sequence) (k ++ m) → AllByRecursion (λ (w : Version). w.sequence < v.sequence) k
    front [] a = tt
    front (x ∷ k) a = (a.0, front k a.1)

falls_back : (l m : List Version) → Falls (l ++ m) → Falls m
falls_back [] m f = f
falls_back (v ∷ l) m f = falls_back l m f.1

-- the children of a version, and what is after them
pub falls_below : (v : Version) (children next : List Version) → Falls (v ∷ (children ++ next)) → Falls children
falls_below v children next f = falls_front children next f.1

pub falls_after : (v : Version) (children next : List Version) → Falls (v ∷ (children ++ next)) → Falls next
falls_after v children next f = falls_back children next f.1

module _ (at : ℕ) where
  above : (l : List Version) (w : Version) (r : List Version) → Falls (l ++ w ∷ r) → at < w.sequence → AllByRecursion (λ (v : Version). at < v.sequence) l
  above [] w r f less = tt
  above (v ∷ l) w r f less = (let p = later l f.0 in omega (arith, p, less), above l w r f.1 less)
    where
      later : (k : List Version) → AllByRecursion (λ (u : Version). u.sequence < v.sequence) (k ++ w ∷ r) → w.sequence < v.sequence
      later [] a = a.0
      later (x ∷ k) a = later k a.1

  test_above : (v : Version) → at < v.sequence → leb v.sequence at ≡ false
  test_above v less = grind (arith, nat_tests)

  test_up_to : (v : Version) → v.sequence ≤ at → leb v.sequence at ≡ true
  test_up_to v less = grind (arith, nat_tests)

  past : (l m : List Version) → AllByRecursion (λ (v : Version). at < v.sequence) l → first_up_to at (l ++ m) ≡ first_up_to at m
  past [] m a = refl
  past (v ∷ l) m a = ap (λ b. cond b (Some v) (first_up_to at (l ++ m))) (test_above v a.0) ∙ past l m a.1

  first_append : (l m : List Version) → first_up_to at (l ++ m) ≡ or_else (first_up_to at l) (first_up_to at m)
  first_append [] m = refl
  first_append (v ∷ l) m =
      elim (leb v.sequence at) as (λ b. cond b (Some v) (first_up_to at (l ++ m)) ≡ or_else (cond b (Some v) (first_up_to at l)) (first_up_to at m)) [
        | true ↦ refl
        | false ↦ first_append l m
      ]

  or_twice : (a : Option Version) (w : Version) (best : Option Version) → or_else a (Some w) ≡ or_else (or_else a (Some w)) best
  or_twice None w best = refl
  or_twice (Some v) w best = refl

  module _ (v : Version) (children : List Version) (best : Option Version) where
    passed_first : (next : List Version) → at < v.sequence → first_up_to at (v ∷ (children ++ next)) ≡ first_up_to at (children ++ next)
    passed_first next high = ap (λ b. cond b (Some v) (first_up_to at (children ++ next))) (test_above v high)

    module _ (w : Version) (more : List Version) where
      -- the version after the children is above the sequence, so that they all are
      pub went_after : Falls (v ∷ (children ++ w ∷ more)) → at < v.sequence → at < w.sequence
          → or_else (first_up_to at (w ∷ more)) best ≡ or_else (first_up_to at (v ∷ (children ++ w ∷ more))) best
      went_after falls high higher =
          ap (λ (o : Option Version). or_else o best) (sym (past children (w ∷ more) (above children w more falls.1 higher)) ∙ sym (passed_first (w ∷ more) high))

      -- it isn't, so that it is the answer where there is none among the children
      pub kept_best : at < v.sequence → w.sequence ≤ at
          → or_else (first_up_to at children) (Some w) ≡ or_else (first_up_to at (v ∷ (children ++ w ∷ more))) best
      kept_best high low =
          or_twice (first_up_to at children) w best
          ∙ ap (λ (o : Option Version). or_else (or_else (first_up_to at children) o) best) (sym (ap (λ b. cond b (Some w) (first_up_to at more)) (test_up_to w low)))
          ∙ ap (λ (o : Option Version). or_else o best) (sym (first_append children (w ∷ more)) ∙ sym (passed_first (w ∷ more) high))
