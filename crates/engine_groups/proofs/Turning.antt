-- Where the right to launch is, and what a group adds to what is published.
use Rattle.std.proofs.Common.{◌≡◌, ℕ, Bool, true, false, cond, ◌==◌, List, [], ◌∷◌, ◌++◌, Option, Some, None, is_some, is_none, not, Result, Ok, Err, refl, sym, ap, ◌∙◌, subst, append_assoc, append-nil}
use Rattle.std.proofs.lemmas.List.{append_cancel_left}
use Rattle.table_rule.specs.declared.content.MemberVersions.{MemberVersions}
use Rattle.table_rule.specs.Histories.{Images, made_by, versions_in, versions_of}
use Rattle.table_rule.proofs.Images.{images_versions}
use Rattle.line_rule.specs.declared.view.Handling.{Handling}
use Rattle.line_rule.specs.Laws.{given_runs}
use Rattle.engine_calls.specs.declared.answers.Receipt.{Receipt}
use Rattle.engine_calls.specs.declared.answers.Refused.{Refused}
use Rattle.engine_rule.specs.Commits.{Commit}
use Rattle.engine_rule.specs.Entries.{versions_made}
use Rattle.engine_groups.specs.Meaning.{Meaning}
use Rattle.engine_parts.specs.declared.requests.Request.{Request}
use Rattle.engine_parts.specs.declared.requests.Answer.{Answer}
use Rattle.engine_parts.specs.Handled.{answer_in, handled_with, commits_in}
use Rattle.engine_parts.specs.Items.{run_in}
use Rattle.engine_groups.specs.Law.{TurnIs}
use Rattle.engine_parts.specs.Runs.{run_of}
use Rattle.engine_parts.specs.Staged.{HasNoRun}
use Rattle.engine_parts.proofs.Staging.{HaveNoRuns}
use Rattle.engine_parts.proofs.Commits.{commits_append}

some_or : {U : Type 0} → U → Option U → U
some_or d None = d
some_or d (Some u) = u

some_same : {U : Type 0} (a b : U) → Some a ≡ Some b → a ≡ b
unfolding some_or
some_same a b e = ap (some_or a) e

module _ {T S U P : Type 0} (meaning : Meaning T S U P) (table : T) where
  pub is_piped : (b : Bool) (published : List (List MemberVersions)) (turn : Option U) → TurnIs meaning table b published turn → turn ≡ None → b ≡ true
  is_piped true published turn h none = refl
  is_piped false published turn h none = absurd (let e : Some h.0 ≡ None = sym h.1 ∙ none in cc)

  pub stays_none : (b : Bool) (published : List (List MemberVersions)) → b ≡ true → TurnIs meaning table b published None
  stays_none true published is = refl
  stays_none false published is = absurd (cc)

  pub single : (b : Bool) (published : List (List MemberVersions)) (turn : Option U) (u : U) → TurnIs meaning table b published turn → turn ≡ Some u → (b ≡ false) × meaning.our_turn table u × (meaning.history u ≡ published)
  single true published turn u h some = absurd (let e : None ≡ Some u = sym h ∙ some in cc)
  single false published turn u h some = let same : h.0 ≡ u = some_same h.0 u (sym h.1 ∙ some) in (refl, subst (meaning.our_turn table) same h.2, ap meaning.history (sym same) ∙ h.3)

  pub stays_some : (b : Bool) (published : List (List MemberVersions)) (u : U) → b ≡ false → meaning.our_turn table u → meaning.history u ≡ published → TurnIs meaning table b published (Some u)
  stays_some false published u is our same = (u, refl, our, same)
  stays_some true published u is our same = absurd (cc)

made_append : (cs ds : List Commit) → made_by versions_made (cs ++ ds) ≡ made_by versions_made cs ++ made_by versions_made ds
made_append [] ds = refl
made_append (c ∷ cs) ds = ap (λ l. versions_made c ++ l) (made_append cs ds) ∙ sym (append_assoc (versions_made c) (made_by versions_made cs) (made_by versions_made ds))

versions_snoc : (gs : List (List MemberVersions)) (g : List MemberVersions) → versions_of (gs ++ g ∷ []) ≡ versions_of gs ++ versions_in g
versions_snoc [] g = append-nil (versions_in g)
versions_snoc (x ∷ gs) g = ap (λ l. versions_in x ++ l) (versions_snoc gs g) ∙ sym (append_assoc (versions_in x) (versions_of gs) (versions_in g))

-- the group's versions are those that its commits made
pub group_made : (seen new : List (Handling Request Answer)) (published : List (List MemberVersions)) (g : List MemberVersions) → Images versions_made (commits_in seen) published → Images versions_made (commits_in (seen ++ new)) (published ++ g ∷ [])
    → versions_in g ≡ made_by versions_made (commits_in new)
group_made seen new published g before after =
    let cs = commits_in seen in let ds = commits_in new in
    let was = images_versions versions_made cs published before in
    let now = sym (made_append cs ds) ∙ (ap (made_by versions_made) (sym (commits_append seen new)) ∙ (images_versions versions_made (commits_in (seen ++ new)) (published ++ g ∷ []) after ∙ versions_snoc published g)) in
    append_cancel_left (versions_of published) (versions_in g) (made_by versions_made ds) (sym now ∙ ap (λ l. l ++ made_by versions_made ds) was)

-- a request without a run isn't among those that got runs
none_by : (h : Handling Request Answer) (gs : List (Handling Request Answer)) (r : Result Receipt Refused) → HasNoRun (answer_in r) → cond ((run_in r).1 == 0) gs (h ∷ gs) ≡ gs
none_by h gs (Ok r) none = absurd none
none_by h gs (Err e) none = refl

given_none : (xs : List (ℕ × Request)) (ys : List (ℕ × Answer)) → HaveNoRuns ys → given_runs run_of (handled_with xs ys) ≡ []
given_none [] ys none = refl
given_none (x ∷ xs) [] none = refl
given_none (x ∷ xs) (y ∷ ys) none = none_by (record { by = x.0; asked = x.1; reply = y.1 }) (given_runs run_of (handled_with xs ys)) y.1.answer none.0 ∙ given_none xs ys none.1

pub given_append : (a b : List (Handling Request Answer)) → given_runs run_of (a ++ b) ≡ given_runs run_of a ++ given_runs run_of b
given_append [] b = refl
given_append (h ∷ a) b = by ((run_of h.reply).1 == 0) (given_append a b)
  where
    by : (t : Bool) → given_runs run_of (a ++ b) ≡ given_runs run_of a ++ given_runs run_of b → cond t (given_runs run_of (a ++ b)) (h ∷ given_runs run_of (a ++ b)) ≡ cond t (given_runs run_of a) (h ∷ given_runs run_of a) ++ given_runs run_of b
    by true e = e
    by false e = ap (λ l. h ∷ l) e

pub given_same : (seen new : List (Handling Request Answer)) (xs : List (ℕ × Request)) (ys : List (ℕ × Answer)) → new ≡ handled_with xs ys → HaveNoRuns ys → given_runs run_of (seen ++ new) ≡ given_runs run_of seen
given_same seen new xs ys is none = given_append seen new ∙ (ap (λ l. given_runs run_of seen ++ l) (ap (given_runs run_of) is ∙ given_none xs ys none) ∙ append-nil (given_runs run_of seen))

pub is_none_by : {U : Type 0} (b : Bool) (turn : Option U) → is_some turn ≡ not b → b ≡ is_none turn
is_none_by true turn h = sym (ap not h)
is_none_by false turn h = sym (ap not h)
