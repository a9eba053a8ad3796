-- No group is published in two pieces.
use Rattle.std.proofs.Common.{◌≡◌, ◌⊎◌, inl, inr, ⊎_elim, ℕ, ◌+◌, ◌≤◌, flat_map, take, List, [], ◌∷◌, ◌++◌, Option, length, refl, ap, sym, ◌∙◌, subst, arith, append_assoc, append-nil, length-append}
use Rattle.std.specs.List.{AllByRecursion}
use Rattle.std.proofs.Math.Seq.{take-append_seam}
use Rattle.std.proofs.lemmas.List.{append_cancel_left}
use Rattle.std.proofs.lemmas.Grind.{flat_map-append}
use Rattle.model_base.specs.Batch.{count_of}
use Rattle.table_rule.specs.declared.content.MemberVersions.{MemberVersions}
use Rattle.table_rule.specs.declared.content.Version.{Version}
use Rattle.table_rule.specs.Histories.{In, last_of, made_by, versions_in, versions_of}
use Rattle.engine_rule.specs.Asked.{LedGroup, NameEnds}
use Rattle.engine_rule.specs.Commits.{Answer, AreAnswered, Commit, NamesEnd, accepted, failed, fault_after, fault_after_all, held_up, last_after, last_after_all, no_room}
use Rattle.engine_rule.specs.Consistent.{EndsAreNamed, IsNamed}
use Rattle.engine_rule.specs.Entries.{versions_made}
use Rattle.engine_rule.proofs.Chains.{end_append}
use Rattle.engine_rule.proofs.Reaching.{versions_length}
use Rattle.engine_stage_laws.specs.Served.{ArePublishedAtOnce}

-- the commits of all groups, and what the groups made
abbrev all : List LedGroup → List Commit
all groups = flat_map (λ (g : LedGroup). g.commits) groups

abbrev made : List Commit → List Version
made commits = made_by versions_made commits

abbrev made_in : List LedGroup → List Version
made_in groups = made_by (λ (g : LedGroup). made g.commits) groups

made_append : (cs ds : List Commit) → made (cs ++ ds) ≡ made cs ++ made ds
made_append [] ds = refl
made_append (c ∷ cs) ds = ap (λ l. versions_made c ++ l) (made_append cs ds) ∙ sym (append_assoc (versions_made c) (made cs) (made ds))

made_by_groups : (groups : List LedGroup) → made (all groups) ≡ made_in groups
made_by_groups [] = refl
made_by_groups (g ∷ groups) = made_append g.commits (all groups) ∙ ap (λ l. made g.commits ++ l) (made_by_groups groups)

-- The sequence that is given last never falls

rises_by : (last count : ℕ) (v : Answer) → last ≤ last_after last count v
rises_by last count (accepted first end) = omega arith
rises_by last count (held_up numbers) = omega arith
rises_by last count (failed n) = omega arith
rises_by last count (no_room l) = omega arith

rises : (last : ℕ) (cs : List Commit) → last ≤ last_after_all last cs
rises last [] = omega arith
rises last (c ∷ cs) =
    let now = rises_by last (count_of c.records) c.answer in
    let more = rises (last_after last (count_of c.records) c.answer) cs in
    omega (arith, now, more)

-- What holds of all groups holds of the first of them and of the others

answered_front : (last : ℕ) (dead : Option ℕ) (xs ys : List Commit) → AreAnswered last dead (xs ++ ys) → AreAnswered last dead xs
answered_front last dead [] ys h = tt
answered_front last dead (x ∷ xs) ys h = (h.0, answered_front (last_after last (count_of x.records) x.answer) (fault_after dead x.answer) xs ys h.1)

answered_rest : (last : ℕ) (dead : Option ℕ) (xs ys : List Commit) → AreAnswered last dead (xs ++ ys) → AreAnswered (last_after_all last xs) (fault_after_all dead xs) ys
answered_rest last dead [] ys h = h
answered_rest last dead (x ∷ xs) ys h = answered_rest (last_after last (count_of x.records) x.answer) (fault_after dead x.answer) xs ys h.1

names_front : (start : ℕ) (gs hs : List LedGroup) → NameEnds start (gs ++ hs) → NameEnds start gs
names_front start [] hs h = tt
names_front start (g ∷ gs) hs h = (h.0, names_front (last_after_all start g.commits) gs hs h.1)

names_rest : (start : ℕ) (gs hs : List LedGroup) → NameEnds start (gs ++ hs) → NameEnds (last_after_all start (all gs)) hs
names_rest start [] hs h = h
names_rest start (g ∷ gs) hs h = subst (λ (n : ℕ). NameEnds n hs) (sym (end_append start g.commits (all gs))) (names_rest (last_after_all start g.commits) gs hs h.1)

-- Where an answer names an end, a group ends

record IsEnd (start : ℕ) (groups : List LedGroup) (at : ℕ) : Type 0 where
  pub front : List LedGroup
  pub rest : List LedGroup
  pub split : groups ≡ front ++ rest
  pub ends : at ≡ last_after_all start (all front)

in_one : (c : Commit) (xs ys : List Commit) → In c (xs ++ ys) → In c xs ⊎ In c ys
in_one c [] ys h = inr h
in_one c (x ∷ xs) ys h = ⊎_elim
    (λ (e : x ≡ c). inl (inl e))
    (λ (t : In c (xs ++ ys)). ⊎_elim (λ (a : In c xs). inl (inr a)) (λ (b : In c ys). inr b) (in_one c xs ys t))
    h

named_in : (end : ℕ) (cs : List Commit) (c : Commit) (first at : ℕ) → AllByRecursion (λ (x : Commit). NamesEnd end x.answer) cs → In c cs → c.answer ≡ accepted first at → at ≡ end
named_in end [] c first at names there is = absurd there
named_in end (x ∷ cs) c first at names there is = ⊎_elim
    (λ (e : x ≡ c). subst (NamesEnd end) (ap (λ (y : Commit). y.answer) e ∙ is) names.0)
    (λ (t : In c cs). named_in end cs c first at names.1 t is)
    there

end_of : (start : ℕ) (groups : List LedGroup) (c : Commit) (first at : ℕ) → NameEnds start groups → In c (all groups) → c.answer ≡ accepted first at → IsEnd start groups at
end_of start [] c first at names there is = absurd there
end_of start (g ∷ groups) c first at names there is = ⊎_elim
    (λ (t : In c g.commits). record {
      front = g ∷ [];
      rest = groups;
      split = refl;
      ends = named_in (last_after_all start g.commits) g.commits c first at names.0 t is ∙ ap (last_after_all start) (sym (append-nil g.commits));
    })
    (λ (t : In c (all groups)).
    let e = end_of (last_after_all start g.commits) groups c first at names.1 t is in
    record {
      front = g ∷ e.front;
      rest = e.rest;
      split = ap (λ l. g ∷ l) e.split;
      ends = e.ends ∙ sym (end_append start g.commits (all e.front));
    })
    (in_one c g.commits (all groups) there)

-- no answer of the first groups names an end above theirs
end_low : (start : ℕ) (groups : List LedGroup) (c : Commit) (first at : ℕ) → NameEnds start groups → In c (all groups) → c.answer ≡ accepted first at → at ≤ last_after_all start (all groups)
end_low start groups c first at names there is =
    let e = end_of start groups c first at names there is in
    let all_are = ap (last_after_all start) (ap all e.split ∙ flat_map-append (λ (g : LedGroup). g.commits) e.front e.rest) ∙ end_append start (all e.front) (all e.rest) in
    let ends = e.ends in
    let more = rises (last_after_all start (all e.front)) (all e.rest) in
    omega (arith, all_are, ends, more)

-- Two lists that begin with as many elements

front_same : {A : Type 0} (xs ys us vs : List A) → xs ++ us ≡ ys ++ vs → length xs ≡ length ys → xs ≡ ys
front_same xs ys us vs e many = sym (take-append_seam xs us) ∙ ((λ i. take (many i) (e i)) ∙ take-append_seam ys vs)

none_made : (start : ℕ) (vs : List Version) → start + length (vs ++ []) ≡ start → vs ≡ []
none_made start [] e = refl
none_made start (v ∷ vs) e = absurd (omega (arith, e))

as_many : (start end n m : ℕ) (vs : List Version) → start + n ≡ end → start + length (vs ++ []) ≡ end → length (vs ++ []) ≡ length vs + m → m ≡ 0 → n ≡ length vs
as_many start end n m vs a b c d = omega arith

ends_so : (start end : ℕ) (xs ys : List Version) → start + length xs ≡ end → start + length (xs ++ ys) ≡ end + length ys
ends_so start end xs ys e = let l = length-append xs ys in omega (arith, e, l)

back_at : (start end n : ℕ) → start ≤ end → end + n ≤ end → end + n ≡ end
back_at start end n low high = omega arith

back_at_start : (start end n : ℕ) → start ≤ end → end + n ≡ start → end + n ≡ end
back_at_start start end n low high = omega arith

-- Each published group was made by whole groups
pub at_once : (start : ℕ) (dead : Option ℕ) (groups : List LedGroup) (published : List (List MemberVersions)) → AreAnswered start dead (all groups) → NameEnds start groups → made (all groups) ≡ versions_of published → EndsAreNamed start (all groups) published
    → ArePublishedAtOnce groups published
at_once start dead groups [] answered names same named = sym (made_by_groups groups) ∙ same
at_once start dead groups (p ∷ ps) answered names same named = ⊎_elim
    -- nothing is in it
    (λ (e : last_of start (p ∷ []) ≡ start).
    let none = none_made start (versions_in p) e in
    let past : EndsAreNamed start (all groups) ps = λ shown b. subst (λ (n : ℕ). (n ≡ start) ⊎ IsNamed (all groups) n) (ap (λ l. start + length (l ++ versions_of shown)) none) (named (p ∷ shown) (b.0, ap (λ l. p ∷ l) b.1)) in
    ([], groups, refl, sym none, at_once start dead groups ps answered names (same ∙ ap (λ l. l ++ versions_of ps) none) past))
    -- an answer names its end
    (λ (n : IsNamed (all groups) (last_of start (p ∷ []))).
    let e = end_of start groups n.0 n.1 (last_of start (p ∷ [])) names n.2 n.3 in
    let end = last_after_all start (all e.front) in
    let low = rises start (all e.front) in
    let all_are : all groups ≡ all e.front ++ all e.rest = ap all e.split ∙ flat_map-append (λ (g : LedGroup). g.commits) e.front e.rest in
    let right = subst (AreAnswered start dead) all_are answered in
    let whole = subst (NameEnds start) e.split names in
    let both : made (all e.front) ++ made (all e.rest) ≡ versions_in p ++ versions_of ps = sym (made_append (all e.front) (all e.rest)) ∙ (ap made (sym all_are) ∙ same) in
    let reach = versions_length start dead (all e.front) (answered_front start dead (all e.front) (all e.rest) right) in
    let many : length (made (all e.front)) ≡ length (versions_in p) = as_many start end (length (made (all e.front))) 0 (versions_in p) reach e.ends (length-append (versions_in p) []) refl in
    let front = front_same (made (all e.front)) (versions_in p) (made (all e.rest)) (versions_of ps) both many in
    let rest = append_cancel_left (versions_in p) (made (all e.rest)) (versions_of ps) (ap (λ l. l ++ made (all e.rest)) (sym front) ∙ both) in
    let here : start + length (versions_in p) ≡ end = ap (λ k. start + k) (sym many) ∙ reach in
    let past : EndsAreNamed end (all e.rest) ps = λ shown b.
    let there : last_of start (p ∷ shown) ≡ last_of end shown = ends_so start end (versions_in p) (versions_of shown) here in
    ⊎_elim
    (λ (s : last_of start (p ∷ shown) ≡ start). inl (back_at_start start end (length (versions_of shown)) low (sym there ∙ s)))
    (λ (m : IsNamed (all groups) (last_of start (p ∷ shown))). ⊎_elim
    (λ (a : In m.0 (all e.front)). inl (back_at start end (length (versions_of shown)) low (subst (λ (k : ℕ). k ≤ end) there (end_low start e.front m.0 m.1 (last_of start (p ∷ shown)) (names_front start e.front e.rest whole) a m.3))))
    (λ (b : In m.0 (all e.rest)). inr (m.0, m.1, b, m.3 ∙ ap (accepted m.1) there))
    (in_one m.0 (all e.front) (all e.rest) (subst (In m.0) all_are m.2)))
    (named (p ∷ shown) (b.0, ap (λ l. p ∷ l) b.1)) in
    (e.front, e.rest, e.split, sym (made_by_groups e.front) ∙ front, at_once end (fault_after_all dead (all e.front)) e.rest ps (answered_rest start dead (all e.front) (all e.rest) right) (names_rest start e.front e.rest whole) rest past))
    (named (p ∷ []) (ps, refl))
