-- A client that inserts in parallel with a leader is another member of its group.
use Rattle.std.proofs.Common.{◌≡◌, ◌⊎◌, inl, inr, ⊎_elim, ℕ, ◌<◌, ◌≤◌, Bool, false, map, Option, Some, None, IfSome, List, [], ◌∷◌, ◌++◌, refl, ap, subst}
use Rattle.table_rule.specs.Histories.{In}
use Rattle.line_rule.specs.declared.view.QueuedWriter.{QueuedWriter}
use Rattle.line_rule.specs.Chain.{heads, Within}
use Rattle.line_rule.specs.Members.{asks}
use Rattle.line_writers.specs.Roles.{IsMember, AreMembers}
use Rattle.engine_parts.specs.declared.requests.Request.{Request}
use Rattle.engine_parts.specs.Asking.{all_seen}
use Rattle.engine_parts.specs.Led.{LeadsBy}
use Rattle.engine_parts.specs.Numbering.{AreHelpers, others_in}
use Rattle.engine_groups.proofs.Leads.{leads_by}
use Rattle.engine_parts.proofs.Beside.{AreIn}
use Rattle.engine_parts.proofs.Replies.{map_append}

in_parts : (k : ℕ) (xs ys : List ℕ) → In k (xs ++ ys) → In k xs ⊎ In k ys
in_parts k [] ys i = inr i
in_parts k (x ∷ xs) ys i = ⊎_elim (λ (e : x ≡ k). inl (inl e)) (λ (t : In k (xs ++ ys)). ⊎_elim (λ (a : In k xs). inl (inr a)) (λ (b : In k ys). inr b) (in_parts k xs ys t)) i

others_more : (leader : ℕ) (xs : List (ℕ × Request)) (y : ℕ × Request) → LeadsBy leader xs → others_in (xs ++ y ∷ []) ≡ others_in xs ++ y.0 ∷ []
others_more leader [] y leads = absurd leads
others_more leader (x ∷ xs) y leads = map_append (λ (z : ℕ × Request). z.0) xs (y ∷ [])

module _ {P : Type 0} (n : ℕ) (own : QueuedWriter Request) where
  is_other : (gs : List (QueuedWriter Request × P)) (k : ℕ) → Within n (heads gs) → In k (others_in (asks own (heads gs))) → IsMember n k gs
  is_other [] k within i = absurd i
  is_other (g ∷ gs) k within i = ⊎_elim
      (λ (t : In k (others_in (asks own (heads gs)))). let m = is_other gs k within.2 t in (g ∷ m.0, m.1, m.2, ap (λ l. g ∷ l) m.3, m.4, m.5, m.6))
      (λ (t : In k (g.0.by ∷ [])). ⊎_elim (λ (e : g.0.by ≡ k). ([], g, gs, refl, e, subst (λ (j : ℕ). 0 < j) e within.0, subst (λ (j : ℕ). j ≤ n) e within.1)) (λ (f : ⊥). absurd f) t)
      (in_parts k (others_in (asks own (heads gs))) (g.0.by ∷ []) (subst (In k) (others_more own.by (asks own (heads gs)) (g.0.by, g.0.asked) (leads_by own (heads gs))) i))

  pub are_members : (gs : List (QueuedWriter Request × P)) (ks : List ℕ) → Within n (heads gs) → AreIn (others_in (asks own (heads gs))) ks → AreMembers n ks gs
  are_members gs [] within all = tt
  are_members gs (k ∷ ks) within all = (is_other gs k within all.0, are_members gs ks within all.1)

-- The leader takes the notes out of the requests, and takes out no client.
names_unnoted : (xs : List (ℕ × Request)) → map (λ (z : ℕ × Request). z.0) (all_seen xs) ≡ map (λ (z : ℕ × Request). z.0) xs
names_unnoted [] = refl
names_unnoted (x ∷ xs) = ap (λ l. x.0 ∷ l) (names_unnoted xs)

pub others_unnoted : (xs : List (ℕ × Request)) → others_in (all_seen xs) ≡ others_in xs
others_unnoted [] = refl
others_unnoted (x ∷ xs) = names_unnoted xs

-- the helpers allowed by `apart` are also allowed by `staged`, since parts may be apart only where there are two stages
pub beside_where : {A : Type 0} (apart staged : Bool) (others members : List ℕ) (end : Option A) → (staged ≡ false → apart ≡ false) → IfSome end (λ _. AreHelpers apart others members) → IfSome end (λ _. AreHelpers staged others members)
beside_where apart staged others members None only h = tt
beside_where apart staged others members (Some x) only h = record { of_group = h.of_group; alone = λ alone. h.alone (only alone) }
