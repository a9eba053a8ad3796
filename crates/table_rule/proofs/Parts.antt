-- Facts on the parts of the launched group.
use Rattle.std.proofs.Common.{◌≡◌, ◌≢◌, ℕ, suc, ◌<◌, ◌≤◌, ◌⊎◌, List, [], ◌∷◌, length, refl, sym, ap, ◌∙◌, subst, inl, inr, ⊎_elim, arith}
use native.Mathlib.Decide.{ℕ_discrete}
use mathlib.Core.Logic.{dite}
use Rattle.table_rule.specs.declared.content.Version.{Version}
use Rattle.table_rule.specs.declared.content.MemberVersions.{MemberVersions}
use Rattle.table_rule.specs.Histories.{In, versions_in, Apart, Members}
use Rattle.table_rule.specs.Rule.{Place, out, coming, filling, handed, busy, inserted, finished, Mode, still, running, ended, stored_in, open_part, InPart, unfinished, AllParts, AllFinished, AllComing, end_of, IsLaunched, InMode}
use Rattle.table_rule.proofs.Puts.{put, put_at, put_here, put_else}
use Rattle.table_rule.proofs.Histories.{in_left, in_split, in_run, member_or, part_in}

pub stored_part : (end : ℕ) (vs : List Version) (p : Place) (v : Version) → InPart end vs p → In v (stored_in p) → In v vs
stored_part end vs out v ok h = absurd ok
stored_part end vs (coming l ws) v ok h = absurd h
stored_part end vs (filling l ws) v ok h = absurd h
stored_part end vs (handed l ws) v ok h = absurd h
stored_part end vs (busy l d m) v ok h = subst (In v) ok.1 (in_left v d m h)
stored_part end vs (inserted l ws) v ok h = subst (In v) ok.1 h
stored_part end vs (finished l ws) v ok h = subst (In v) ok.1 h

pub apart_not : (i : ℕ) (g : List MemberVersions) (p : MemberVersions) → Apart i g → In p g → p.member ≡ i → ⊥
apart_not i [] p a h e = h
apart_not i (q ∷ qs) p a h e = ⊎_elim (λ (t : q ≡ p). a.0 (ap (λ (x : MemberVersions). x.member) t ∙ e)) (λ (t : In p qs). apart_not i qs p a.1 t e) h

pub member_low : (n : ℕ) (g : List MemberVersions) (p : MemberVersions) → Members n g → In p g → (0 < p.member) × (p.member ≤ n)
member_low n [] p a h = absurd h
member_low n (q ∷ qs) p a h = ⊎_elim (λ (t : q ≡ p). subst (λ (x : MemberVersions). (0 < x.member) × (x.member ≤ n)) t (a.0, a.1)) (λ (t : In p qs). member_low n qs p a.3 t) h

module _ (place : ℕ → Place) (end : ℕ) where
  pub part_at : (g : List MemberVersions) (p : MemberVersions) → AllParts place end g → In p g → InPart end p.versions (place p.member)
  part_at [] p a h = absurd h
  part_at (q ∷ qs) p a h = ⊎_elim (λ (t : q ≡ p). subst (λ (x : MemberVersions). InPart end x.versions (place x.member)) t a.0) (λ (t : In p qs). part_at qs p a.1 t) h

  pub finished_at : (g : List MemberVersions) (p : MemberVersions) → AllFinished place end g → In p g → place p.member ≡ finished end p.versions
  finished_at [] p a h = absurd h
  finished_at (q ∷ qs) p a h = ⊎_elim (λ (t : q ≡ p). subst (λ (x : MemberVersions). place x.member ≡ finished end x.versions) t a.0) (λ (t : In p qs). finished_at qs p a.1 t) h

  pub finished_parts : (g : List MemberVersions) → AllFinished place end g → AllParts place end g
  finished_parts [] a = tt
  finished_parts (q ∷ qs) a = (subst (InPart end q.versions) (sym a.0) (refl, refl), finished_parts qs a.1)

-- what is in a tree beyond what is published belongs to the launched group
module _ (n word : ℕ) (place : ℕ → Place) (last : ℕ) where
  pub stored_group : (g : List MemberVersions) → AllParts place (end_of last g) g → IsLaunched n word place last g → (i : ℕ) (v : Version) → In v (stored_in (place i)) → In v (versions_in g)
  stored_group g parts fit i v h = ⊎_elim
      (λ (t : (p : MemberVersions) × In p g × (p.member ≡ i)). part_in t.0 g v t.1 (stored_part (end_of last g) t.0.versions (place i) v (subst (λ (j : ℕ). InPart (end_of last g) t.0.versions (place j)) t.2 (part_at place (end_of last g) g t.0 parts t.1)) h))
      (λ (t : Apart i g). absurd (subst (λ (p : Place). In v (stored_in p)) (fit.3 i t) h))
      (member_or i g)

  pub later : (mode : Mode) → InMode n word place last mode → (i : ℕ) (v : Version) → In v (stored_in (place i)) → last < v.sequence
  later still ok i v h = absurd (subst (λ (p : Place). In v (stored_in p)) (ok.1 i) h)
  later (running g) ok i v h = (in_run last (versions_in g) v ok.3.0 (stored_group g ok.2 ok.3 i v h)).0
  later (ended m g) ok i v h = (in_run last (versions_in g) v ok.2.0 (stored_group g (finished_parts place (end_of last g) g ok.1) ok.2 i v h)).0

-- a part that is under way
abbrev pub IsOpen : Place → Type 0
IsOpen out = ⊥
IsOpen (coming l vs) = Unit {0}
IsOpen (filling l vs) = Unit {0}
IsOpen (handed l vs) = Unit {0}
IsOpen (busy l d m) = Unit {0}
IsOpen (inserted l vs) = Unit {0}
IsOpen (finished l vs) = ⊥

pub open_one : (p : Place) → IsOpen p → open_part p ≡ 1
open_one out ok = absurd ok
open_one (coming l vs) ok = refl
open_one (filling l vs) ok = refl
open_one (handed l vs) ok = refl
open_one (busy l d m) ok = refl
open_one (inserted l vs) ok = refl
open_one (finished l vs) ok = absurd ok

-- with all parts finished, no part is under way
pub all_done : (n word : ℕ) (place : ℕ → Place) (last : ℕ) (g : List MemberVersions) → AllFinished place (end_of last g) g → IsLaunched n word place last g → (i : ℕ) → (place i ≡ out) ⊎ ((l : ℕ) × (vs : List Version) × (place i ≡ finished l vs))
all_done n word place last g all fit i = ⊎_elim
    (λ (t : (p : MemberVersions) × In p g × (p.member ≡ i)). inr (end_of last g, t.0.versions, ap place (sym t.2) ∙ finished_at place (end_of last g) g t.0 all t.1))
    (λ (t : Apart i g). inl (fit.3 i t))
    (member_or i g)

pub open_mode : (n word : ℕ) (place : ℕ → Place) (last m : ℕ) (mode : Mode) → InMode n word place last mode → IsOpen (place m) → (g : List MemberVersions) × (mode ≡ running g)
open_mode n word place last m still ok is = absurd (subst IsOpen (ok.1 m) is)
open_mode n word place last m (running g) ok is = (g, refl)
open_mode n word place last m (ended c g) ok is = ⊎_elim
    (λ (t : place m ≡ out). absurd (subst IsOpen t is))
    (λ (t : (l : ℕ) × (vs : List Version) × (place m ≡ finished l vs)). absurd (subst IsOpen t.2 is))
    (all_done n word place last g ok.1 ok.2 m)

module _ (place : ℕ → Place) (m : ℕ) (new : Place) where
  pub parts_put : (end : ℕ) (g : List MemberVersions) → ((vs : List Version) → InPart end vs (place m) → InPart end vs new) → AllParts place end g → AllParts (put place m new) end g
  parts_put end [] to ok = tt
  parts_put end (p ∷ ps) to ok = (put_at place m new (λ i x. InPart end p.versions (place i) → InPart end p.versions x) p.member (λ is was. to p.versions (subst (λ (i : ℕ). InPart end p.versions (place i)) is was)) (λ _ was. was) ok.0, parts_put end ps to ok.1)

  pub unfinished_put : (g : List MemberVersions) → open_part new ≡ open_part (place m) → unfinished (put place m new) g ≡ unfinished place g
  unfinished_put [] e = refl
  unfinished_put (p ∷ ps) e =
      let a : open_part (put place m new p.member) ≡ open_part (place p.member) = put_at place m new (λ i x. open_part x ≡ open_part (place i)) p.member (λ is. e ∙ ap (λ i. open_part (place i)) (sym is)) (λ _. refl) in
      let b = unfinished_put ps e in omega arith

  pub fit_put : (n word word' last : ℕ) (g : List MemberVersions) → (place m ≡ out → ⊥) → IsLaunched n word place last g → IsLaunched n word' (put place m new) last g
  fit_put n word word' last g not_out fit = (fit.0, fit.1, fit.2, λ i a. put_at place m new (λ i x. place i ≡ out → x ≡ out) i (λ is was. absurd (not_out (ap place (sym is) ∙ was))) (λ _ was. was) (fit.3 i a))

  pub mode_put : (n word last : ℕ) (mode : Mode) → IsOpen (place m) → IsOpen new → ((end : ℕ) (vs : List Version) → InPart end vs (place m) → InPart end vs new) → InMode n word place last mode → InMode n word (put place m new) last mode
  mode_put n word last still is is' to ok = absurd (subst IsOpen (ok.1 m) is)
  mode_put n word last (running g) is is' to ok = (ok.0 ∙ sym (unfinished_put g (open_one new is' ∙ sym (open_one (place m) is))), ok.1, parts_put (end_of last g) g (to (end_of last g)) ok.2, fit_put n word word last g (λ e. subst IsOpen e is) ok.3)
  mode_put n word last (ended c g) is is' to ok = let t = open_mode n word place last m (ended c g) ok is in let bad : ended c g ≡ running t.0 = t.1 in absurd (cc)

  pub coming_put : (end : ℕ) (ps : List MemberVersions) → ((l : ℕ) (vs : List Version) → place m ≡ coming l vs → ⊥) → AllComing place end ps → AllComing (put place m new) end ps
  coming_put end [] away ok = tt
  coming_put end (p ∷ ps) away ok = (put_at place m new (λ i x. place i ≡ coming end p.versions → x ≡ coming end p.versions) p.member (λ is was. absurd (away end p.versions (ap place (sym is) ∙ was))) (λ _ was. was) ok.0, ok.1, coming_put end ps away ok.2)

  pub coming_apart : (end : ℕ) (ps : List MemberVersions) → Apart m ps → AllComing place end ps → AllComing (put place m new) end ps
  coming_apart end [] away ok = tt
  coming_apart end (p ∷ ps) away ok = (put_else place m new p.member away.0 ∙ ok.0, ok.1, coming_apart end ps away.1 ok.2)

-- the member m finishes
module _ (place : ℕ → Place) (m l : ℕ) (vs : List Version) where
  pub one_less : (n : ℕ) (g : List MemberVersions) (p : MemberVersions) → In p g → p.member ≡ m → IsOpen (place m) → Members n g → suc (unfinished (put place m (finished l vs)) g) ≡ unfinished place g
  one_less n [] p h is ok a = absurd h
  one_less n (q ∷ qs) p h is ok a = dite (ℕ_discrete q.member m)
      (λ (e : q.member ≡ m).
      let now : open_part (put place m (finished l vs) q.member) ≡ 0 = ap (λ i. open_part (put place m (finished l vs) i)) e ∙ ap open_part (put_here place m (finished l vs)) in
      let was : open_part (place q.member) ≡ 1 = ap (λ i. open_part (place i)) e ∙ open_one (place m) ok in
      let tail : unfinished (put place m (finished l vs)) qs ≡ unfinished place qs = apart_same qs (subst (λ (i : ℕ). Apart i qs) e a.2) in omega arith)
      (λ (ne : q.member ≢ m).
      let same : open_part (put place m (finished l vs) q.member) ≡ open_part (place q.member) = ap open_part (put_else place m (finished l vs) q.member ne) in
      let tail = ⊎_elim (λ (t : q ≡ p). absurd (ne (ap (λ (x : MemberVersions). x.member) t ∙ is))) (λ (t : In p qs). one_less n qs p t is ok a.3) h in omega arith)
    where
      apart_same : (qs : List MemberVersions) → Apart m qs → unfinished (put place m (finished l vs)) qs ≡ unfinished place qs
      apart_same [] a = refl
      apart_same (q ∷ qs) a = let e : open_part (put place m (finished l vs) q.member) ≡ open_part (place q.member) = ap open_part (put_else place m (finished l vs) q.member a.0) in let t = apart_same qs a.1 in omega arith

pub none_open : (place : ℕ → Place) (end : ℕ) (g : List MemberVersions) → unfinished place g ≡ 0 → AllParts place end g → AllFinished place end g
none_open place end [] e ok = tt
none_open place end (p ∷ ps) e ok = (closed (place p.member) (omega arith) ok.0, none_open place end ps (omega arith) ok.1)
  where
    closed : (x : Place) → open_part x ≡ 0 → InPart end p.versions x → x ≡ finished end p.versions
    closed out e ok = absurd ok
    closed (coming l vs) e ok = absurd (omega arith)
    closed (filling l vs) e ok = absurd (omega arith)
    closed (handed l vs) e ok = absurd (omega arith)
    closed (busy l d m) e ok = absurd (omega arith)
    closed (inserted l vs) e ok = absurd (omega arith)
    closed (finished l vs) e ok = λ i. finished (ok.0 i) (ok.1 i)

pub in_group : (g : List MemberVersions) (v : Version) → In v (versions_in g) → (p : MemberVersions) × In p g × In v p.versions
in_group [] v h = absurd h
in_group (p ∷ ps) v h = ⊎_elim (λ (t : In v p.versions). (p, inl refl, t)) (λ (t : In v (versions_in ps)). let k = in_group ps v t in (k.0, inr k.1, k.2)) (in_split v p.versions (versions_in ps) h)

-- each part is still to be handed over, and the other places are `out`
pub placed : ℕ → List MemberVersions → ℕ → Place
placed end [] = λ _. out
placed end (p ∷ ps) = put (placed end ps) p.member (coming end p.versions)

pub placed_out : (end : ℕ) (g : List MemberVersions) (i : ℕ) → Apart i g → placed end g i ≡ out
unfolding placed
placed_out end [] i a = refl
placed_out end (p ∷ ps) i a = put_else (placed end ps) p.member (coming end p.versions) i (λ e. a.0 (sym e)) ∙ placed_out end ps i a.1

pub placed_is : (end : ℕ) (g : List MemberVersions) (i : ℕ) → (placed end g i ≡ out) ⊎ ((vs : List Version) × (placed end g i ≡ coming end vs))
unfolding placed
placed_is end [] i = inl refl
placed_is end (p ∷ ps) i = put_at (placed end ps) p.member (coming end p.versions) (λ i x. (x ≡ out) ⊎ ((vs : List Version) × (x ≡ coming end vs))) i (λ _. inr (p.versions, refl)) (λ _. placed_is end ps i)

pub placed_coming : (n end : ℕ) (g : List MemberVersions) → Members n g → AllComing (placed end g) end g
unfolding placed
placed_coming n end [] a = tt
placed_coming n end (p ∷ ps) a = (put_here (placed end ps) p.member (coming end p.versions), a.2, coming_apart (placed end ps) p.member (coming end p.versions) end ps a.2 (placed_coming n end ps a.3))

pub coming_parts : (place : ℕ → Place) (end : ℕ) (g : List MemberVersions) → AllComing place end g → AllParts place end g
coming_parts place end [] ok = tt
coming_parts place end (p ∷ ps) ok = (subst (InPart end p.versions) (sym ok.0) (refl, refl), coming_parts place end ps ok.2)

pub coming_at : (place : ℕ → Place) (end : ℕ) (g : List MemberVersions) (p : MemberVersions) → AllComing place end g → In p g → place p.member ≡ coming end p.versions
coming_at place end [] p ok h = absurd h
coming_at place end (q ∷ qs) p ok h = ⊎_elim (λ (t : q ≡ p). subst (λ (x : MemberVersions). place x.member ≡ coming end x.versions) t ok.0) (λ (t : In p qs). coming_at place end qs p ok.2 t) h

pub coming_open : (place : ℕ → Place) (end : ℕ) (g : List MemberVersions) → AllComing place end g → unfinished place g ≡ length g
coming_open place end [] ok = refl
coming_open place end (p ∷ ps) ok = let a : open_part (place p.member) ≡ 1 = ap open_part ok.0 in let b = coming_open place end ps ok.2 in omega arith
