-- A page has many chains for its height.
use Rattle.std.proofs.Common.{◌≡◌, ℕ, suc, ◌+◌, ◌*◌, ◌^◌, ◌≤◌, List, [], ◌∷◌, length, sym, ap, ◌∙◌, subst, arith, length-append}
use Rattle.std.proofs.Math.Nat.{pow-suc}
use Rattle.std.proofs.lemmas.Nat.{mul-le}
use Rattle.std.specs.List.{AllByRecursion}
use Rattle.table_nodes.specs.Chains.{Chain}
use Rattle.table_tree.specs.Pages.{Branch, woven, height_of, IsSide, AreBelow}

pub height_level : (h : ℕ) (b : Branch) (below : List Branch) → AllByRecursion (IsSide h) (b ∷ below) → height_of (b ∷ below) ≡ suc h
height_level h b [] a = let e = a.0.height in omega (arith, e)
height_level h b (c ∷ below) a = let e = a.0.height in let rest = height_level h c below a.1 in omega (arith, e, rest)

-- one page that is at least half full
dense_one : (h : ℕ) (b : Branch) → IsSide h b → 16 ^ suc h ≤ length b.chains + 1
dense_one h b s =
    let wide : 16 ^ b.height * 16 ≤ 16 ^ b.height * (b.own + 1) = mul-le (16 ^ b.height) 16 (16 ^ b.height) (b.own + 1) (omega arith) (let own = s.own in omega arith) in
    let dense = s.dense in
    let power : 16 ^ suc h ≡ 16 ^ b.height * 16 = pow-suc 16 h ∙ ap (λ (n : ℕ). 16 ^ n * 16) (sym s.height) in
    omega (arith, wide, dense, power)

dense_level : (h : ℕ) (b : Branch) (below : List Branch) (entries : List Chain) → AllByRecursion (IsSide h) (b ∷ below) → length below ≡ length entries
    → 16 ^ suc h * (length entries + 1) ≤ length (woven (b ∷ below) entries) + 1
dense_level h b [] [] a same = let one = dense_one h b a.0 in omega (arith, one)
dense_level h b [] (e ∷ entries) a same = absurd (omega (arith, same))
dense_level h b (c ∷ below) [] a same = absurd (omega (arith, same))
dense_level h b (c ∷ below) (e ∷ entries) a same =
    let one = dense_one h b a.0 in
    let others = dense_level h c below entries a.1 (omega (arith, same)) in
    let all = length-append b.chains (e ∷ woven (c ∷ below) entries) in
    omega (arith, one, others, all)

pub dense_page : (entries : List Chain) (below : List Branch) → AreBelow (length entries) below
    → 16 ^ height_of below * (length entries + 1) ≤ length (woven below entries) + 1
dense_page entries [] a = omega arith
dense_page entries (b ∷ below) a =
    subst (λ n. 16 ^ n * (length entries + 1) ≤ length (woven (b ∷ below) entries) + 1) (sym (height_level b.height b below a.1))
    (dense_level b.height b below entries a.1 a.0)
