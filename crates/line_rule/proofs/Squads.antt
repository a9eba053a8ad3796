-- Facts on the groups of the second list, and where they are.
use Rattle.std.proofs.Common.{◌≡◌, ◌≢◌, ℕ, ◌⊎◌, List, [], ◌∷◌, ◌++◌, get_or, refl, sym, ap, ◌∙◌, subst, inl, inr, ⊎_elim, append_assoc, append-nil}
use mathlib.Core.Path.{Path}
use Rattle.line_rule.specs.declared.view.QueuedWriter.{QueuedWriter}
use Rattle.line_rule.specs.declared.view.Handling.{Handling}
use Rattle.line_rule.specs.declared.view.Squad.{Squad}
use Rattle.line_rule.specs.Chain.{older_at, pack, newest, Links, LinksFrom, Absent, Distinct, Within}
use Rattle.line_rule.specs.Standing.{Phase, leads, taken, Mode, Holds, open_, waits, led, built, cut, marked, Place, away, parted, queued, called, serves, served, Turn, still, calls, held_by, passes, Lead2, level, ahead, line_of, flat, In, Behind, Chained, InStep}
use Rattle.line_rule.specs.Rule.{AllWith, AllGroups}
use Rattle.line_rule.proofs.Chains.{put, put_at, put_else}
use Rattle.line_rule.proofs.Groups.{absent_front, absent_back, absent_append}

abbrev pub who : ℕ → Lead2 → ℕ
who d level = d
who d (ahead c) = c

pub is_level : (lead : Lead2) → ((c : ℕ) → lead ≡ ahead c → ⊥) → lead ≡ level
is_level level un = refl
is_level (ahead c) un = absurd (un c refl)

pub one_ahead : (a b : ℕ) → ahead a ≡ ahead b → a ≡ b
one_ahead a b e = ap (who a) e

abbrev called_of : ℕ → Turn → ℕ
called_of d still = d
called_of d (calls k) = k
called_of d (held_by k) = d
called_of d (passes k w) = d

pub one_calls : (a b : ℕ) → calls a ≡ calls b → a ≡ b
one_calls a b e = ap (called_of a) e

module _ {Request Reply : Type 0} where
  abbrev squad_in : Squad Request Reply → Place Request Reply → Squad Request Reply
  squad_in d away = d
  squad_in d (parted f k) = f
  squad_in d (queued f) = f
  squad_in d (called f) = f
  squad_in d (serves f) = f
  squad_in d (served f) = f

  abbrev base_in : ℕ → Place Request Reply → ℕ
  base_in d away = d
  base_in d (parted f k) = k
  base_in d (queued f) = d
  base_in d (called f) = d
  base_in d (serves f) = d
  base_in d (served f) = d

  abbrev head_or : Squad Request Reply → List (Squad Request Reply) → Squad Request Reply
  head_or d [] = d
  head_or d (x ∷ xs) = x

  abbrev tail_of : List (Squad Request Reply) → List (Squad Request Reply)
  tail_of [] = []
  tail_of (x ∷ xs) = xs

  pub in_one : (g h : Squad Request Reply) (p : Place Request Reply) → In g p → In h p → g ≡ h
  in_one g h away a b = absurd a
  in_one g h (parted f k) a b = absurd a
  in_one g h (queued f) a b = sym a ∙ b
  in_one g h (called f) a b = sym a ∙ b
  in_one g h (serves f) a b = sym a ∙ b
  in_one g h (served f) a b = absurd a

  pub behind_in : (g : Squad Request Reply) (p : Place Request Reply) → Behind g p → In g p
  behind_in g away a = a
  behind_in g (parted f k) a = a
  behind_in g (queued f) a = a
  behind_in g (called f) a = a
  behind_in g (serves f) a = absurd a
  behind_in g (served f) a = absurd a

  pub one_parted : (g h : Squad Request Reply) (a b : ℕ) → Path (Place Request Reply) (parted g a) (parted h b) → (g ≡ h) × (a ≡ b)
  one_parted g h a b e = (ap (squad_in g) e, ap (base_in a) e)

  pub one_called : (g h : Squad Request Reply) → Path (Place Request Reply) (called g) (called h) → g ≡ h
  one_called g h e = ap (squad_in g) e

  pub one_served : (g h : Squad Request Reply) → Path (Place Request Reply) (served g) (served h) → g ≡ h
  one_served g h e = ap (squad_in g) e

  pub one_serves : (g h : Squad Request Reply) → Path (Place Request Reply) (serves g) (serves h) → g ≡ h
  one_serves g h e = ap (squad_in g) e

module _ {Request : Type 0} where
  -- the newest writer of a list stays the newest, whatever comes after the list
  pub newest_front : (a : List (QueuedWriter Request)) (x : QueuedWriter Request) (b : List (QueuedWriter Request)) → newest (a ++ x ∷ []) ≡ newest ((a ++ x ∷ []) ++ b)
  newest_front [] x b = refl
  newest_front (e ∷ es) x b = refl

  pub links_join : (words : List ℕ) (a b : List (QueuedWriter Request)) → LinksFrom (newest b) words a → Links words b → Links words (a ++ b)
  links_join words [] b x y = y
  links_join words (e ∷ []) b x y = (x.0, y)
  links_join words (e ∷ f ∷ es) b x y = (x.0, links_join words (f ∷ es) b x.1 y)

module _ {Request Reply : Type 0} where
  pub flat_snoc : (newer : List (Squad Request Reply)) (g : Squad Request Reply) → flat (newer ++ g ∷ []) ≡ flat newer ++ line_of g
  flat_snoc [] g = append-nil (line_of g)
  flat_snoc (x ∷ xs) g = ap (λ l. line_of x ++ l) (flat_snoc xs g) ∙ sym (append_assoc (line_of x) (flat xs) (line_of g))

  pub snoc_some : (newer : List (Squad Request Reply)) (g : Squad Request Reply) → newer ++ g ∷ [] ≡ [] → ⊥
  snoc_some [] g e = absurd (cc)
  snoc_some (x ∷ xs) g e = absurd (cc)

  -- a list of groups is empty, or ends with one
  pub ends_or : (gs : List (Squad Request Reply)) → (gs ≡ []) ⊎ ((newer : List (Squad Request Reply)) × (g : Squad Request Reply) × (gs ≡ newer ++ g ∷ []))
  ends_or [] = inl refl
  ends_or (x ∷ xs) = inr (⊎_elim (λ (e : xs ≡ []). ([], x, ap (λ l. x ∷ l) e)) (λ (t : (newer : List (Squad Request Reply)) × (g : Squad Request Reply) × (xs ≡ newer ++ g ∷ [])). (x ∷ t.0, t.1, ap (λ l. x ∷ l) t.2)) (ends_or xs))

  pub chain_first : (done last : List (Handling Request Reply)) (newer : List (Squad Request Reply)) (g : Squad Request Reply) → Chained done (newer ++ g ∷ []) last → (done ≡ g.from) × Chained g.to newer last
  chain_first done last [] g ok = (ok.1, ok.0)
  chain_first done last (x ∷ xs) g ok = let t = chain_first done x.from xs g ok.1 in (t.0, (ok.0, t.1))

module _ {Request : Type 0} where
  -- only one client has the log
  pub one_holder : (mode : Mode Request) (a b : ℕ) → Holds a mode → Holds b mode → a ≡ b
  one_holder open_ a b x y = absurd x
  one_holder (waits c) a b x y = absurd x
  one_holder (led c) a b x y = sym x ∙ y
  one_holder (built c g t) a b x y = sym x ∙ y
  one_holder (cut c w) a b x y = sym x ∙ y
  one_holder (marked c) a b x y = sym x ∙ y

pub not_snoc : {A : Type 0} (l : List A) (x : A) → l ++ x ∷ [] ≡ [] → ⊥
not_snoc [] x e = absurd (cc)
not_snoc (y ∷ ys) x e = absurd (cc)

pub one_taker : {Request Reply : Type 0} (a b : ℕ) (e f : QueuedWriter Request) → Path (Phase Request Reply) (taken a e) (taken b f) → a ≡ b
one_taker a b e f is = cc

module _ {Request : Type 0} where
  pub within_append : (n : ℕ) (a b : List (QueuedWriter Request)) → Within n a → Within n b → Within n (a ++ b)
  within_append n [] b x y = y
  within_append n (e ∷ es) b x y = (x.0, x.1, within_append n es b x.2 y)

  -- the links of a group, with another link of its oldest writer
  pub aim_links : (words ws : List ℕ) (c : ℕ) (es : List (QueuedWriter Request)) (own : QueuedWriter Request) (b0 b : ℕ) → ((j : ℕ) → j ≢ c → get_or ws (older_at j) 0 ≡ get_or words (older_at j) 0) → Absent c es → get_or ws (older_at own.by) 0 ≡ pack b own.code
      → LinksFrom b0 words (es ++ own ∷ []) → LinksFrom b ws (es ++ own ∷ [])
  aim_links words ws c [] own b0 b older out new ok = (new, tt)
  aim_links words ws c (e ∷ []) own b0 b older out new ok = (older e.by out.0 ∙ ok.0, aim_links words ws c [] own b0 b older out.1 new ok.1)
  aim_links words ws c (e ∷ f ∷ fs) own b0 b older out new ok = (older e.by out.0 ∙ ok.0, aim_links words ws c (f ∷ fs) own b0 b older out.1 new ok.1)

module _ {Request Reply : Type 0} where
  pub flat_nil : (gs : List (Squad Request Reply)) → flat gs ≡ [] → gs ≡ []
  flat_nil [] e = refl
  flat_nil (g ∷ gs) e = absurd (line_some g.rest g.own (flat gs) e)
    where
      line_some : (es : List (QueuedWriter Request)) (x : QueuedWriter Request) (t : List (QueuedWriter Request)) → (es ++ x ∷ []) ++ t ≡ [] → ⊥
      line_some [] x t e = absurd (cc)
      line_some (y ∷ ys) x t e = absurd (cc)

  -- the oldest group leaves, which isn't that of a client that still has the log
  pub step_first : (lead : Lead2) (done last : List (Handling Request Reply)) (c : ℕ) (newer : List (Squad Request Reply)) (g : Squad Request Reply) → g.own.by ≡ c → lead ≢ ahead c → InStep done (newer ++ g ∷ []) last lead → (done ≡ g.from) × InStep g.to newer last lead
  step_first level done last c newer g by_c un ok = chain_first done last newer g ok
  step_first (ahead k) done last c [] g by_c un ok =
      let same : g ≡ ok.0 = ap (head_or g) ok.2 in absurd (un (ap ahead (sym ok.4 ∙ (ap (λ (f : Squad Request Reply). f.own.by) (sym same) ∙ by_c))))
  step_first (ahead k) done last c (x ∷ xs) g by_c un ok =
      let same : x ≡ ok.0 = ap (head_or x) ok.2 in
      let tails : xs ++ g ∷ [] ≡ ok.1 = ap tail_of ok.2 in
      let t = chain_first done last xs g (subst (λ (l : List (Squad Request Reply)). Chained done l last) (sym tails) ok.5) in
      (t.0, (x, xs, refl, ap (λ (f : Squad Request Reply). f.from) same ∙ ok.3, ap (λ (f : Squad Request Reply). f.own.by) same ∙ ok.4, t.1))

module _ {Request Reply : Type 0} where
  pub with_absent : (phase : ℕ → Phase Request Reply) (m c : ℕ) (es : List (QueuedWriter Request)) → ((e : QueuedWriter Request) → phase m ≡ taken c e → ⊥) → AllWith phase c es → Absent m es
  with_absent phase m c [] un ok = tt
  with_absent phase m c (e ∷ es) un ok = ((λ is. un e (ap phase (sym is) ∙ ok.0)), with_absent phase m c es un ok.1)

  -- a client that doesn't lead, and is no member of a group, is in none of the groups
  pub out_of_groups : (phase : ℕ → Phase Request Reply) (place : ℕ → Place Request Reply) (m : ℕ) → ((e : QueuedWriter Request) → phase m ≡ leads e → ⊥) → ((d : ℕ) (e : QueuedWriter Request) → phase m ≡ taken d e → ⊥) → (gs : List (Squad Request Reply)) → AllGroups phase place gs → Absent m (flat gs)
  out_of_groups phase place m no_l no_t [] ok = tt
  out_of_groups phase place m no_l no_t (g ∷ gs) ok =
      absent_append m (line_of g) (flat gs)
      (absent_append m g.rest (g.own ∷ []) (with_absent phase m g.own.by g.rest (no_t g.own.by) ok.2) ((λ is. no_l g.own (ap phase (sym is) ∙ ok.0)), tt))
      (out_of_groups phase place m no_l no_t gs ok.3)

  -- a client that has no group in the second list, and is no member of a group, is in none of its groups
  pub absent_groups : (phase : ℕ → Phase Request Reply) (place : ℕ → Place Request Reply) (m : ℕ) (gs : List (Squad Request Reply)) → ((g : Squad Request Reply) → In g (place m) → ⊥) → ((k : ℕ) (e : QueuedWriter Request) → phase m ≡ taken k e → ⊥) → AllGroups phase place gs → Absent m (flat gs)
  absent_groups phase place m [] un_l un_t ok = tt
  absent_groups phase place m (g ∷ gs) un_l un_t ok =
      absent_append m (line_of g) (flat gs) (absent_append m g.rest (g.own ∷ []) (with_absent phase m g.own.by g.rest (un_t g.own.by) ok.2) ((λ is. un_l g (subst (λ (j : ℕ). In g (place j)) is ok.1)), tt)) (absent_groups phase place m gs un_l un_t ok.3)

  -- nor is a member of a group that isn't in the second list
  pub member_absent : (phase : ℕ → Phase Request Reply) (place : ℕ → Place Request Reply) (m c : ℕ) (x : QueuedWriter Request) (gs : List (Squad Request Reply)) → phase m ≡ taken c x → ((g : Squad Request Reply) → In g (place c) → ⊥) → AllGroups phase place gs → Absent m (flat gs)
  member_absent phase place m c x [] now un ok = tt
  member_absent phase place m c x (g ∷ gs) now un ok =
      absent_append m (line_of g) (flat gs)
      (absent_append m g.rest (g.own ∷ []) (with_absent phase m g.own.by g.rest (λ e bad. un g (subst (λ (j : ℕ). In g (place j)) (sym (one_taker c g.own.by x e (sym now ∙ bad))) ok.1)) ok.2)
      ((λ is. let bad : phase m ≡ leads g.own = ap phase (sym is) ∙ ok.0 in absurd (cc)), tt))
      (member_absent phase place m c x gs now un ok.3)

  pub distinct_group : (phase : ℕ → Phase Request Reply) (place : ℕ → Place Request Reply) (c : ℕ) (own : QueuedWriter Request) (es : List (QueuedWriter Request)) (gs : List (Squad Request Reply)) → ((g : Squad Request Reply) → In g (place c) → ⊥) → AllGroups phase place gs → AllWith phase c es → Distinct (es ++ own ∷ []) → Absent own.by (flat gs) → Distinct (flat gs)
      → Distinct ((es ++ own ∷ []) ++ flat gs)
  distinct_group phase place c own [] gs un all with apart out rest = (out, rest)
  distinct_group phase place c own (e ∷ es) gs un all with apart out rest =
      (absent_append e.by (es ++ own ∷ []) (flat gs) apart.0 (member_absent phase place e.by c e gs with.0 un all), distinct_group phase place c own es gs un all with.1 apart.1 out rest)

  -- the groups stay true when the place of a client changes that is in none of them
  pub groups_put : (phase : ℕ → Phase Request Reply) (place : ℕ → Place Request Reply) (c : ℕ) (p : Place Request Reply) (gs : List (Squad Request Reply)) → Absent c (flat gs) → AllGroups phase place gs → AllGroups phase (put place c p) gs
  groups_put phase place c p [] out ok = tt
  groups_put phase place c p (g ∷ gs) out ok =
      let ne = (absent_back c g.rest (g.own ∷ []) (absent_front c (line_of g) (flat gs) out)).0 in
      (ok.0, subst (In g) (sym (put_else place c p g.own.by ne)) ok.1, ok.2, groups_put phase place c p gs (absent_back c (line_of g) (flat gs) out) ok.3)

  -- a group's leader changes its place, and stays in its group
  pub groups_turn : (phase : ℕ → Phase Request Reply) (place : ℕ → Place Request Reply) (c : ℕ) (p : Place Request Reply) (gs : List (Squad Request Reply)) → ((g : Squad Request Reply) → In g (place c) → In g p) → AllGroups phase place gs → AllGroups phase (put place c p) gs
  groups_turn phase place c p [] to ok = tt
  groups_turn phase place c p (g ∷ gs) to ok = (ok.0, put_at place c p (λ j q. In g (place j) → In g q) g.own.by (λ is t. to g (subst (λ (j : ℕ). In g (place j)) is t)) (λ _ t. t) ok.1, ok.2, groups_turn phase place c p gs to ok.3)

  pub groups_newer : (phase : ℕ → Phase Request Reply) (place : ℕ → Place Request Reply) (newer : List (Squad Request Reply)) (g : Squad Request Reply) → AllGroups phase place (newer ++ g ∷ []) → AllGroups phase place newer
  groups_newer phase place [] g ok = tt
  groups_newer phase place (x ∷ xs) g ok = (ok.0, ok.1, ok.2, groups_newer phase place xs g ok.3)
