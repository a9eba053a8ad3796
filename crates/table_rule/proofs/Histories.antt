-- Facts on versions, groups and histories.
use Rattle.std.proofs.Common.{◌≡◌, ℕ, suc, ◌+◌, ◌<◌, ◌≤◌, ◌⊎◌, List, [], ◌∷◌, ◌++◌, length, refl, sym, ap, ◌∙◌, subst, inl, inr, ⊎_elim, arith, append_assoc, append-nil, length-append}
use native.Mathlib.Decide.{ℕ_discrete}
use mathlib.Core.Logic.{dite}
use Rattle.table_rule.specs.declared.content.Version.{Version}
use Rattle.table_rule.specs.declared.content.MemberVersions.{MemberVersions}
use Rattle.table_rule.specs.Histories.{In, versions_in, versions_of, standing, Runs, last_of, Begins, Apart, AreSome, IsBase}

module _ {A : Type 0} where
  pub in_left : (a : A) (xs ys : List A) → In a xs → In a (xs ++ ys)
  in_left a [] ys h = absurd h
  in_left a (x ∷ xs) ys h = ⊎_elim (λ (e : x ≡ a). inl e) (λ (t : In a xs). inr (in_left a xs ys t)) h

  pub in_right : (a : A) (xs ys : List A) → In a ys → In a (xs ++ ys)
  in_right a [] ys h = h
  in_right a (x ∷ xs) ys h = inr (in_right a xs ys h)

  pub in_split : (a : A) (xs ys : List A) → In a (xs ++ ys) → In a xs ⊎ In a ys
  in_split a [] ys h = inr h
  in_split a (x ∷ xs) ys h = ⊎_elim (λ (e : x ≡ a). inl (inl e)) (λ (t : In a (xs ++ ys)). ⊎_elim (λ u. inl (inr u)) (λ u. inr u) (in_split a xs ys t)) h

  pub begins_same : (xs : List A) → Begins xs xs
  begins_same xs = ([], sym (append-nil xs))

  pub begins_trans : (xs ys zs : List A) → Begins xs ys → Begins ys zs → Begins xs zs
  begins_trans xs ys zs a b = (a.0 ++ b.0, b.1 ∙ (ap (λ l. l ++ b.0) a.1 ∙ append_assoc xs a.0 b.0))

  pub begins_more : (xs ys zs : List A) → Begins xs ys → Begins xs (ys ++ zs)
  begins_more xs ys zs a = begins_trans xs ys (ys ++ zs) a (zs, refl)

pub versions_append : (gs hs : List (List MemberVersions)) → versions_of (gs ++ hs) ≡ versions_of gs ++ versions_of hs
versions_append [] hs = refl
versions_append (g ∷ gs) hs = ap (λ l. versions_in g ++ l) (versions_append gs hs) ∙ sym (append_assoc (versions_in g) (versions_of gs) (versions_of hs))

pub versions_snoc : (gs : List (List MemberVersions)) (g : List MemberVersions) → versions_of (gs ++ g ∷ []) ≡ versions_of gs ++ versions_in g
versions_snoc gs g = versions_append gs (g ∷ []) ∙ ap (λ l. versions_of gs ++ l) (append-nil (versions_in g))

pub last_snoc : (start : ℕ) (gs : List (List MemberVersions)) (g : List MemberVersions) → last_of start (gs ++ g ∷ []) ≡ last_of start gs + length (versions_in g)
last_snoc start gs g = let e = ap length (versions_snoc gs g) ∙ length-append (versions_of gs) (versions_in g) in omega arith

pub runs_append : (last : ℕ) (xs ys : List Version) → Runs last xs → Runs (last + length xs) ys → Runs last (xs ++ ys)
runs_append last [] ys a b = subst (λ (k : ℕ). Runs k ys) (let e : last + 0 ≡ last = omega arith in e) b
runs_append last (x ∷ xs) ys a b = (a.0, runs_append (suc last) xs ys a.1 (subst (λ (k : ℕ). Runs k ys) (let e : last + suc (length xs) ≡ suc last + length xs = omega arith in e) b))

pub runs_left : (last : ℕ) (xs ys : List Version) → Runs last (xs ++ ys) → Runs last xs
runs_left last [] ys r = tt
runs_left last (x ∷ xs) ys r = (r.0, runs_left (suc last) xs ys r.1)

pub runs_right : (last : ℕ) (xs ys : List Version) → Runs last (xs ++ ys) → Runs (last + length xs) ys
runs_right last [] ys r = subst (λ (k : ℕ). Runs k ys) (let e : last ≡ last + 0 = omega arith in e) r
runs_right last (x ∷ xs) ys r = subst (λ (k : ℕ). Runs k ys) (let e : suc last + length xs ≡ last + suc (length xs) = omega arith in e) (runs_right (suc last) xs ys r.1)

-- the sequence of a version of a run is one of the run's
pub in_run : (last : ℕ) (vs : List Version) (v : Version) → Runs last vs → In v vs → (last < v.sequence) × (v.sequence ≤ last + length vs)
in_run last [] v r h = absurd h
in_run last (x ∷ xs) v r h = ⊎_elim
    (λ (e : x ≡ v). let f : v.sequence ≡ suc last = sym (ap (λ (w : Version). w.sequence) e) ∙ r.0 in (omega arith, omega arith))
    (λ (t : In v xs). let k = in_run (suc last) xs v r.1 t in let a = k.0 in let b = k.1 in (omega arith, omega arith))
    h

-- what a history has up to the end of one of its beginnings is in that beginning
pub up_to : (start : ℕ) (seen all : List (List MemberVersions)) (v : Version) → Runs start (versions_of all) → Begins seen all → In v (versions_of all) → v.sequence ≤ last_of start seen → In v (versions_of seen)
up_to start seen all v runs begins h low =
    let parts : versions_of all ≡ versions_of seen ++ versions_of begins.0 = ap versions_of begins.1 ∙ versions_append seen begins.0 in
    let r = runs_right start (versions_of seen) (versions_of begins.0) (subst (Runs start) parts runs) in
    ⊎_elim (λ t. t) (λ (t : In v (versions_of begins.0)). let k = in_run (last_of start seen) (versions_of begins.0) v r t in let a = k.0 in absurd (omega arith))
    (in_split v (versions_of seen) (versions_of begins.0) (subst (In v) parts h))

pub begins_in : (seen all : List (List MemberVersions)) (v : Version) → Begins seen all → In v (versions_of seen) → In v (versions_of all)
begins_in seen all v b h = subst (In v) (sym (ap versions_of b.1 ∙ versions_append seen b.0)) (in_left v (versions_of seen) (versions_of b.0) h)

-- facts like these on all versions after a history over a base, where no version of the base is past the start
module _ (base : List Version) where
  pub standing_more : (seen all : List (List MemberVersions)) (v : Version) → Begins seen all → In v (standing base seen) → In v (standing base all)
  standing_more seen all v b h = ⊎_elim
      (λ (t : In v base). in_left v base (versions_of all) t)
      (λ (t : In v (versions_of seen)). in_right v base (versions_of all) (begins_in seen all v b t))
      (in_split v base (versions_of seen) h)

  pub standing_up_to : (start : ℕ) (seen all : List (List MemberVersions)) (v : Version) → Runs start (versions_of all) → Begins seen all → In v (standing base all) → v.sequence ≤ last_of start seen → In v (standing base seen)
  standing_up_to start seen all v runs b h low = ⊎_elim
      (λ (t : In v base). in_left v base (versions_of seen) t)
      (λ (t : In v (versions_of all)). in_right v base (versions_of seen) (up_to start seen all v runs b t low))
      (in_split v base (versions_of all) h)

  pub standing_below : (start : ℕ) (gs : List (List MemberVersions)) (v : Version) → IsBase start base → Runs start (versions_of gs) → In v (standing base gs) → v.sequence ≤ last_of start gs
  standing_below start gs v is runs h = ⊎_elim
      (λ (t : In v base). let low = is.below v t in omega arith)
      (λ (t : In v (versions_of gs)). (in_run start (versions_of gs) v runs t).1)
      (in_split v base (versions_of gs) h)

pub some_snoc : (gs : List (List MemberVersions)) (g : List MemberVersions) → AreSome gs → 0 < length (versions_in g) → AreSome (gs ++ g ∷ [])
some_snoc [] g a b = (b, tt)
some_snoc (h ∷ gs) g a b = (a.0, some_snoc gs g a.1 b)

-- a member is of the group, or apart from it
pub member_or : (i : ℕ) (g : List MemberVersions) → ((p : MemberVersions) × In p g × (p.member ≡ i)) ⊎ Apart i g
member_or i [] = inr tt
member_or i (p ∷ ps) = dite (ℕ_discrete p.member i)
    (λ e. inl (p, inl refl, e))
    (λ ne. ⊎_elim (λ (t : (q : MemberVersions) × In q ps × (q.member ≡ i)). inl (t.0, inr t.1, t.2)) (λ (t : Apart i ps). inr (ne, t)) (member_or i ps))

pub part_in : (p : MemberVersions) (g : List MemberVersions) (v : Version) → In p g → In v p.versions → In v (versions_in g)
part_in p [] v h i = absurd h
part_in p (q ∷ qs) v h i = ⊎_elim
    (λ (e : q ≡ p). in_left v q.versions (versions_in qs) (subst (λ (w : MemberVersions). In v w.versions) (sym e) i))
    (λ (t : In p qs). in_right v q.versions (versions_in qs) (part_in p qs v t i))
    h

pub longer : (xs ys : List (List MemberVersions)) (b : Begins xs ys) → length (versions_of ys) ≡ length (versions_of xs) + length (versions_of b.0)
longer xs ys b = ap (λ l. length (versions_of l)) b.1 ∙ (ap length (versions_append xs b.0) ∙ length-append (versions_of xs) (versions_of b.0))
