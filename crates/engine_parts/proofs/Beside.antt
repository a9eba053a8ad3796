-- The members that should work in parallel with a leader are clients of its group.
use Rattle.std.proofs.Common.{◌≡◌, inl, inr, ⊎_elim, ℕ, ◌+◌, Bool, true, false, nat_le, map, List, [], ◌∷◌, ◌++◌, refl, sym, ap, subst}
use mathlib.Core.Logic.{dite}
use native.Mathlib.Decide.{ℕ_discrete}
use Rattle.std.specs.List.{AllByRecursion}
use Rattle.std.proofs.lemmas.Bool.{ne_eqb, eq-eqb}
use Rattle.table_rule.specs.declared.content.MemberVersions.{MemberVersions}
use Rattle.table_rule.specs.Histories.{In}
use Rattle.engine_rule.specs.Parts.{members_of}
use Rattle.model_base.specs.Batch.{count_of}
use Rattle.model_base.specs.History.{max_sequence}
use Rattle.engine_rule.specs.Plans.{last_with}
use Rattle.engine_stage_laws.specs.Served.{part_at, parts_from}
use Rattle.engine_parts.specs.declared.requests.Request.{Request}
use Rattle.engine_parts.specs.Handled.{commit_request_of, commit_requests_of}
use Rattle.engine_parts.specs.Led.{LeadsBy}
use Rattle.engine_parts.specs.Numbering.{others_in, others_than}

-- each of these clients is in the list `names`
abbrev pub AreIn : List ℕ → List ℕ → Type 0
AreIn names ks = AllByRecursion (λ (k : ℕ). In k names) ks

also_in : (k : ℕ) (names ks : List ℕ) → AreIn names ks → AreIn (k ∷ names) ks
also_in k names [] all = tt
also_in k names (j ∷ ks) all = (inr all.0, also_in k names ks all.1)

also_first : (last : ℕ) (x : ℕ × Request) (names : List ℕ) (more : List MemberVersions) → AreIn (x.0 ∷ names) (members_of more) → AreIn (x.0 ∷ names) (members_of (part_at last (commit_request_of x) ++ more))
also_first last x names more all = by (nat_le (last + count_of x.1.batch.records) max_sequence) refl
  where
    by : (b : Bool) → nat_le (last + count_of x.1.batch.records) max_sequence ≡ b → AreIn (x.0 ∷ names) (members_of (part_at last (commit_request_of x) ++ more))
    by true e = rw e (inl refl, all)
    by false e = rw e all

have_names : (last : ℕ) (xs : List (ℕ × Request)) → AreIn (map (λ (z : ℕ × Request). z.0) xs) (members_of (parts_from last (commit_requests_of xs)))
have_names last [] = tt
have_names last (x ∷ xs) =
    let next = last_with last x.1.batch.records in let names = map (λ (z : ℕ × Request). z.0) xs in let more = parts_from next (commit_requests_of xs) in
    also_first last x names more (also_in x.0 names (members_of more) (have_names next xs))

others_among : (leader : ℕ) (names ks : List ℕ) → AreIn (leader ∷ names) ks → AreIn names (others_than leader ks)
others_among leader names [] all = tt
others_among leader names (k ∷ ks) all = dite (ℕ_discrete k leader)
    (λ same. rw (eq-eqb k leader same) (others_among leader names ks all.1))
    (λ other. rw (ne_eqb k leader other) (⊎_elim (λ (e : leader ≡ k). absurd (other (sym e))) (λ (i : In k names). i) all.0, others_among leader names ks all.1))

names_are : (leader : ℕ) (xs : List (ℕ × Request)) → LeadsBy leader xs → map (λ (z : ℕ × Request). z.0) xs ≡ leader ∷ others_in xs
names_are leader [] leads = absurd leads
names_are leader (x ∷ xs) leads = ap (λ k. k ∷ map (λ (z : ℕ × Request). z.0) xs) leads

pub beside_in : (leader last : ℕ) (xs : List (ℕ × Request)) → LeadsBy leader xs → AreIn (others_in xs) (others_than leader (members_of (parts_from last (commit_requests_of xs))))
beside_in leader last xs leads = others_among leader (others_in xs) (members_of (parts_from last (commit_requests_of xs))) (subst (λ names. AreIn names (members_of (parts_from last (commit_requests_of xs)))) (names_are leader xs leads) (have_names last xs))
