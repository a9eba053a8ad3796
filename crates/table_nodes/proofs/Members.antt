-- With one more part each member is still there once, and there is room for it.
use Rattle.std.proofs.Common.{◌≡◌, ℕ, suc, ◌+◌, ◌<◌, ◌≤◌, Bool, true, false, cond, ◌||◌, eqb, List, [], ◌∷◌, ◌++◌, length, get_or, set, remove, Some, None, Vec, vec_capacity, nat_eq, refl, sym, ap, ◌∙◌, subst, arith}
use Rattle.std.proofs.lemmas.Bool.{ne_eqb, eqb-true}
use Rattle.std.proofs.lemmas.Bool.Decides.{nat_tests}
use Rattle.std.proofs.lemmas.Map.Steps.{length-le_from_distinct_below}
use Rattle.std.specs.declared.alloc.Global.{Global}
use Rattle.std.specs.List.{AllByRecursion, IsDistinct, position_from, list_any}
use Rattle.table_rule.specs.declared.content.Version.{Version}
use Rattle.table_nodes.specs.Parts.{with_part, members_of, HasRoom}
use Rattle.table_nodes.specs.declared.parts.MemberNodes.{MemberNodes}

module _ (m : ℕ) (vs : List Version) where
  abbrev is_of : MemberNodes → Bool
  is_of p = eqb p.member m

  all_with : (P : ℕ → Type 0) (ps : List MemberNodes) → P m → AllByRecursion P (members_of ps) → AllByRecursion P (members_of (with_part ps m vs))
  all_with P [] one a = (one, tt)
  all_with P (p ∷ ps) one a =
      elim (eqb p.member m) as (λ b. AllByRecursion P (members_of (cond b (record p { nodes = p.nodes ++ vs } ∷ ps) (p ∷ with_part ps m vs)))) [
        | true ↦ a
        | false ↦ (a.0, all_with P ps one a.1)
      ]

  once_with : (ps : List MemberNodes) → IsDistinct nat_eq (members_of ps) → IsDistinct nat_eq (members_of (with_part ps m vs))
  unfolding IsDistinct
  once_with [] d = (tt, tt)
  once_with (p ∷ ps) d = go (eqb p.member m) refl (once_with ps d.1)
    where
      go : (b : Bool) → eqb p.member m ≡ b → IsDistinct nat_eq (members_of (with_part ps m vs)) → IsDistinct nat_eq (members_of (cond b (record p { nodes = p.nodes ++ vs } ∷ ps) (p ∷ with_part ps m vs)))
      go true e rest = d
      go false e rest = (all_with (λ k. nat_eq p.member k ≡ false) ps e d.0, rest)

  -- where the member is
  pub record IsFound (ps : List MemberNodes) (i : ℕ) : Type 0 where
    pub within : i < length ps
    pub changed : (p : MemberNodes) → p ≡ get_or ps i p → with_part ps m vs ≡ set ps i (record p { nodes = p.nodes ++ vs })

  pub found_from : (ps : List MemberNodes) (k i : ℕ) → position_from (λ (p : MemberNodes). eqb p.member m) k ps ≡ Some i → (j : ℕ) × (i ≡ k + j) × IsFound ps j
  found_from [] k i e = absurd (cc)
  found_from (p ∷ ps) k i e = go (eqb p.member m) refl e (λ f. found_from ps (k + 1) i f)
    where
      go : (b : Bool) → eqb p.member m ≡ b → cond b (Some k) (position_from (λ (p : MemberNodes). eqb p.member m) (k + 1) ps) ≡ Some i
          → (position_from (λ (p : MemberNodes). eqb p.member m) (k + 1) ps ≡ Some i → (j : ℕ) × (i ≡ k + 1 + j) × IsFound ps j) → (j : ℕ) × (i ≡ k + j) × IsFound (p ∷ ps) j
      go true y e later = (
        0,
        (let same : k ≡ i = cc in omega arith),
        record {
          within = omega arith;
          changed = λ q is. ap (λ b. cond b (record p { nodes = p.nodes ++ vs } ∷ ps) (p ∷ with_part ps m vs)) y ∙ ap (λ (x : MemberNodes). record x { nodes = x.nodes ++ vs } ∷ ps) (sym is);
        },
      )
      go false y e later =
          let rest = later e in (
            suc rest.0,
            omega (arith, rest.1),
            record {
              within = omega (arith, rest.2.within);
              changed = λ q is. ap (λ b. cond b (record p { nodes = p.nodes ++ vs } ∷ ps) (p ∷ with_part ps m vs)) y ∙ ap (λ (l : List MemberNodes). p ∷ l) (rest.2.changed q is);
            },
          )

  pub record IsAbsent (ps : List MemberNodes) : Type 0 where
    pub others : AllByRecursion (λ k. eqb m k ≡ false) (members_of ps)
    pub behind : with_part ps m vs ≡ ps ++ record { member = m; nodes = vs } ∷ []

  pub absent_from : (ps : List MemberNodes) (k : ℕ) → position_from (λ (p : MemberNodes). eqb p.member m) k ps ≡ None → IsAbsent ps
  absent_from [] k e = record { others = tt; behind = refl }
  absent_from (p ∷ ps) k e = go (eqb p.member m) refl e (λ f. absent_from ps (k + 1) f)
    where
      go : (b : Bool) → eqb p.member m ≡ b → cond b (Some k) (position_from (λ (p : MemberNodes). eqb p.member m) (k + 1) ps) ≡ None
          → (position_from (λ (p : MemberNodes). eqb p.member m) (k + 1) ps ≡ None → IsAbsent ps) → IsAbsent (p ∷ ps)
      go true y e later = absurd (cc)
      go false y e later =
          let rest = later e in
          record {
            others = (grind (arith, nat_tests), rest.others);
            behind = ap (λ b. cond b (record p { nodes = p.nodes ++ vs } ∷ ps) (p ∷ with_part ps m vs)) y ∙ ap (λ (l : List MemberNodes). p ∷ l) rest.behind;
          }

all_any : (P : ℕ → Type 0) (xs : List ℕ) (q : ℕ) → AllByRecursion P xs → list_any (eqb q) xs ≡ true → P q
all_any P [] q a e = absurd (cc)
all_any P (x ∷ xs) q a e = go (eqb q x) refl e (λ f. all_any P xs q a.1 f)
  where
    go : (b : Bool) → eqb q x ≡ b → (b || list_any (eqb q) xs) ≡ true → (list_any (eqb q) xs ≡ true → P q) → P q
    go true y e later = subst P (sym (eqb-true q x y)) a.0
    go false y e later = later e

all_mapped : (P Q : ℕ → Type 0) → ((x : ℕ) → P x → Q x) → (l : List ℕ) → AllByRecursion P l → AllByRecursion Q l
all_mapped P Q f [] a = tt
all_mapped P Q f (x ∷ l) a = (f x a.0, all_mapped P Q f l a.1)

length_members : (ps : List MemberNodes) → length (members_of ps) ≡ length ps
length_members [] = refl
length_members (p ∷ ps) = ap suc (length_members ps)

module _ (clients m : ℕ) (vs : List Version) (v : Vec MemberNodes Global) (h : HasRoom clients v) (low : 1 ≤ m) (high : m ≤ clients) where
  -- there is room for a member that isn't there
  pub room_left : IsAbsent m vs v.items → length v.items < vec_capacity v
  unfolding IsDistinct
  room_left absent =
      let ms = members_of v.items in
      let none_zero : AllByRecursion (λ k. eqb 0 k ≡ false) ms =
      all_mapped (λ k. (1 ≤ k) × (k ≤ clients)) (λ k. eqb 0 k ≡ false) (λ k p. let b = p.0 in ne_eqb 0 k (λ e. omega arith)) ms h.numbers in
      let distinct : IsDistinct eqb (0 ∷ m ∷ ms) = ((ne_eqb 0 m (λ e. omega arith), none_zero), (absent.others, h.once)) in
      let all : AllByRecursion (λ k. k < clients + 1) (0 ∷ m ∷ ms) =
      (omega arith, (omega arith, all_mapped (λ k. (1 ≤ k) × (k ≤ clients)) (λ k. k < clients + 1) (λ k p. let b = p.1 in omega arith) ms h.numbers)) in
      let few = length-le_from_distinct_below (0 ∷ m ∷ ms) (clients + 1) distinct (λ q y. all_any (λ k. k < clients + 1) (0 ∷ m ∷ ms) q all y) in
      omega (arith, few, length_members v.items, h.room)

  pub room_kept : (w : Vec MemberNodes Global) → w.items ≡ with_part v.items m vs → vec_capacity v ≤ vec_capacity w → HasRoom clients w
  room_kept w is wide = record {
    once = subst (λ (l : List MemberNodes). IsDistinct nat_eq (members_of l)) (sym is) (once_with m vs v.items h.once);
    numbers = subst (λ (l : List MemberNodes). AllByRecursion (λ k. (1 ≤ k) × (k ≤ clients)) (members_of l)) (sym is) (all_with m vs (λ k. (1 ≤ k) × (k ≤ clients)) v.items (low, high) h.numbers);
    room = omega (arith, h.room);
  }

-- the first part and the others
pub first_and_rest : (ps qs : List MemberNodes) (p : MemberNodes) → 0 < length ps → p ≡ get_or ps 0 p → qs ≡ remove ps 0 → ps ≡ p ∷ qs
first_and_rest [] qs p some is rest = absurd (omega (arith, some))
first_and_rest (x ∷ ps) qs p some is rest = λ i. sym is i ∷ sym rest i

-- without the first part each member is still there once, with the same room
pub room_without : (clients : ℕ) (v w : Vec MemberNodes Global) (p : MemberNodes) → HasRoom clients v → v.items ≡ p ∷ w.items → vec_capacity w ≡ vec_capacity v → HasRoom clients w
unfolding IsDistinct
room_without clients v w p h is same =
    let once : IsDistinct nat_eq (members_of (p ∷ w.items)) = subst (λ (l : List MemberNodes). IsDistinct nat_eq (members_of l)) is h.once in
    let numbers : AllByRecursion (λ k. (1 ≤ k) × (k ≤ clients)) (members_of (p ∷ w.items)) = subst (λ (l : List MemberNodes). AllByRecursion (λ k. (1 ≤ k) × (k ≤ clients)) (members_of l)) is h.numbers in
    record { once = once.1; numbers = numbers.1; room = omega (arith, h.room) }

-- where the member is, by what the search answered
pub found_at : (ps : List MemberNodes) (m i : ℕ) (vs : List Version) → position_from (λ (p : MemberNodes). eqb p.member m) 0 ps ≡ Some i → IsFound m vs ps i
found_at ps m i vs e = let f = found_from m vs ps 0 i e in let same : f.0 ≡ i = omega (arith, f.1) in subst (λ j. IsFound m vs ps j) same f.2

pub room_none : (clients : ℕ) (v : Vec MemberNodes Global) → v.items ≡ [] → clients ≤ vec_capacity v → HasRoom clients v
unfolding IsDistinct
room_none clients v is wide = record {
  once = subst (λ (l : List MemberNodes). IsDistinct nat_eq (members_of l)) (sym is) tt;
  numbers = subst (λ (l : List MemberNodes). AllByRecursion (λ k. (1 ≤ k) × (k ≤ clients)) (members_of l)) (sym is) tt;
  room = wide;
}
