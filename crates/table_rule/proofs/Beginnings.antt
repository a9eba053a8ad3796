-- When one history is a beginning of another.
use Rattle.std.proofs.Common.{◌≡◌, ℕ, suc, ◌+◌, ◌<◌, ◌≤◌, List, [], ◌∷◌, ◌++◌, length, refl, sym, ap, ◌∙◌, subst, inl, inr, ⊎_elim, arith, append-nil, length-append}
use Rattle.table_rule.specs.declared.content.Version.{Version}
use Rattle.table_rule.specs.declared.content.MemberVersions.{MemberVersions}
use Rattle.table_rule.specs.Histories.{In, versions_in, versions_of, Runs, last_of, Begins, AreSome, IsHistory}
use Rattle.table_rule.proofs.Histories.{in_left, in_right, in_run, runs_right, longer}

first_version : (start : ℕ) (vs ws : List Version) → 0 < length vs → Runs start (vs ++ ws) → (v : Version) × In v vs × (v.sequence ≡ suc start)
first_version start [] ws lo runs = absurd (omega arith)
first_version start (v ∷ vs) ws lo runs = (v, inl refl, runs.0)

group_in : (g : List MemberVersions) (gs : List (List MemberVersions)) (v : Version) → In g gs → In v (versions_in g) → In v (versions_of gs)
group_in g [] v h i = absurd h
group_in g (x ∷ xs) v h i = ⊎_elim (λ (e : x ≡ g). in_left v (versions_in x) (versions_of xs) (subst (λ (y : List MemberVersions). In v (versions_in y)) (sym e) i)) (λ (t : In g xs). in_right v (versions_in x) (versions_of xs) (group_in g xs v t i)) h

-- a history whose groups are all in another is a beginning of it
pub is_beginning : (start : ℕ) (ls ts : List (List MemberVersions)) → IsHistory start ls → IsHistory start ts → ((g : List MemberVersions) → In g ls → In g ts) → Begins ls ts
is_beginning start [] ts a b all = (ts, refl)
is_beginning start (g ∷ ls) [] a b all = absurd (all g (inl refl))
is_beginning start (g ∷ ls) (t ∷ ts) a b all =
    let v = first_version start (versions_in g) (versions_of ls) a.1.0 a.0 in
    let tail_ls : Runs (start + length (versions_in g)) (versions_of ls) = runs_right start (versions_in g) (versions_of ls) a.0 in
    let tail_ts : Runs (start + length (versions_in t)) (versions_of ts) = runs_right start (versions_in t) (versions_of ts) b.0 in
    let head : t ≡ g = ⊎_elim (λ (e : t ≡ g). e) (λ (i : In g ts). let low = (in_run (start + length (versions_in t)) (versions_of ts) v.0 tail_ts (group_in g ts v.0 i v.1)).0 in let e = v.2 in let s = b.1.0 in absurd (omega arith)) (all g (inl refl)) in
    let tail_ts' : Runs (start + length (versions_in g)) (versions_of ts) = subst (λ (y : List MemberVersions). Runs (start + length (versions_in y)) (versions_of ts)) head tail_ts in
    let others : (h : List MemberVersions) → In h ls → In h ts = λ h i. ⊎_elim
    (λ (e : t ≡ h). let back : v.0.sequence ≤ v.0.sequence = omega arith in let low = (in_run (start + length (versions_in g)) (versions_of ls) v.0 tail_ls (group_in h ls v.0 i (subst (λ (y : List MemberVersions). In v.0 (versions_in y)) (sym head ∙ e) v.1))).0 in let f = v.2 in let s = a.1.0 in absurd (omega arith))
    (λ (j : In h ts). j)
    (all h (inr i)) in
    let more = is_beginning (start + length (versions_in g)) ls ts (tail_ls, a.1.1) (tail_ts', b.1.1) others in
    (more.0, λ i. head i ∷ more.1 i)

none_left : (gs : List (List MemberVersions)) → AreSome gs → length (versions_of gs) ≡ 0 → gs ≡ []
none_left [] a e = refl
none_left (g ∷ gs) a e = let l = length-append (versions_in g) (versions_of gs) in let s = a.0 in absurd (omega arith)

some_back : (xs ys : List (List MemberVersions)) → AreSome (xs ++ ys) → AreSome ys
some_back [] ys a = a
some_back (x ∷ xs) ys a = some_back xs ys a.1

-- and where it reaches as far as the other, the two are equal
pub one_history : (start : ℕ) (ls ts : List (List MemberVersions)) → IsHistory start ls → IsHistory start ts → ((g : List MemberVersions) → In g ls → In g ts) → last_of start ts ≤ last_of start ls → ls ≡ ts
one_history start ls ts a b all far =
    let more = is_beginning start ls ts a b all in
    let len = longer ls ts more in
    let nil : more.0 ≡ [] = none_left more.0 (some_back ls more.0 (subst AreSome more.1 b.1)) (omega arith) in
    sym (more.1 ∙ (ap (λ l. ls ++ l) nil ∙ append-nil ls))
