-- What was served is that part of what was handled that has runs.
use Rattle.std.proofs.Common.{◌≡◌, ℕ, ◌+◌, List, [], ◌∷◌, ◌++◌, Option, length, refl, ap, sym, ◌∙◌, subst, ⊎_elim, append_assoc}
use Rattle.model_base.specs.Controller.{ControllerCall, Look}
use Rattle.model_base.specs.LogContents.{GroupCall}
use Rattle.table_rule.specs.declared.content.MemberVersions.{MemberVersions}
use Rattle.table_rule.specs.Histories.{last_of, made_by, versions_in}
use Rattle.table_rule.proofs.Images.{images_more, images_none, images_versions}
use Rattle.engine_rule.specs.Commits.{Answer, AreAnswered, Commit, Heard, accepted, failed, held_up, last_after_all, no_room}
use Rattle.engine_rule.specs.Consistent.{AreConsistent, EndsAreNamed, Publishes}
use Rattle.engine_rule.specs.Entries.{versions_made, versions_with}
use Rattle.engine_rule.specs.Plans.{CommitRequest, all_failed, all_held_up, commit_of_request, commits_of_plan, versions_from}
use Rattle.engine_rule.proofs.Plans.{planned_versions}
use Rattle.engine_rule.proofs.Reaching.{versions_length}
use Rattle.engine_stage_laws.specs.Served.{AreServed, accepted_of, if_accepted}

made_if : (c : Commit) (v : Answer) (more : List Commit) → c.answer ≡ v → made_by versions_made (if_accepted c v ++ more) ≡ versions_with c v ++ made_by versions_made more
made_if c (accepted first end) more is = ap (λ w. versions_with c w ++ made_by versions_made more) is
made_if c (held_up numbers) more is = refl
made_if c (failed count) more is = refl
made_if c (no_room at) more is = refl

-- a commit without a run makes no versions
pub made_accepted : (cs : List Commit) → made_by versions_made (accepted_of cs) ≡ made_by versions_made cs
made_accepted [] = refl
made_accepted (c ∷ cs) = made_if c c.answer (accepted_of cs) refl ∙ ap (λ l. versions_made c ++ l) (made_accepted cs)

pub accepted_append : (cs ds : List Commit) → accepted_of (cs ++ ds) ≡ accepted_of cs ++ accepted_of ds
accepted_append [] ds = refl
accepted_append (c ∷ cs) ds = ap (λ l. if_accepted c c.answer ++ l) (accepted_append cs ds) ∙ sym (append_assoc (if_accepted c c.answer) (accepted_of cs) (accepted_of ds))

-- where the list of the commits with runs is cut in two, the list of all commits can be cut to match
split_if : (c : Commit) (v : Answer) (cs front rest : List Commit) → if_accepted c v ++ accepted_of cs ≡ front ++ rest
    → ((f r : List Commit) → accepted_of cs ≡ f ++ r → (a b : List Commit) × (cs ≡ a ++ b) × (accepted_of a ≡ f) × (accepted_of b ≡ r))
    → c.answer ≡ v → (a b : List Commit) × (c ∷ cs ≡ a ++ b) × (accepted_of a ≡ front) × (accepted_of b ≡ rest)
split_if c (accepted first end) cs [] rest e more is = ([], c ∷ cs, refl, refl, ap (λ w. if_accepted c w ++ accepted_of cs) is ∙ e)
split_if c (accepted first end) cs (x ∷ front) rest e more is =
    let t = more front rest (cc) in
    (c ∷ t.0, t.1, ap (λ l. c ∷ l) t.2, ap (λ w. if_accepted c w ++ accepted_of t.0) is ∙ (ap (λ l. c ∷ l) t.3 ∙ (cc)), t.4)
split_if c (held_up numbers) cs front rest e more is = let t = more front rest e in (c ∷ t.0, t.1, ap (λ l. c ∷ l) t.2, ap (λ w. if_accepted c w ++ accepted_of t.0) is ∙ t.3, t.4)
split_if c (failed count) cs front rest e more is = let t = more front rest e in (c ∷ t.0, t.1, ap (λ l. c ∷ l) t.2, ap (λ w. if_accepted c w ++ accepted_of t.0) is ∙ t.3, t.4)
split_if c (no_room at) cs front rest e more is = let t = more front rest e in (c ∷ t.0, t.1, ap (λ l. c ∷ l) t.2, ap (λ w. if_accepted c w ++ accepted_of t.0) is ∙ t.3, t.4)

pub accepted_split : (cs front rest : List Commit) → accepted_of cs ≡ front ++ rest → (a b : List Commit) × (cs ≡ a ++ b) × (accepted_of a ≡ front) × (accepted_of b ≡ rest)
accepted_split [] [] rest e = ([], [], refl, refl, e)
accepted_split [] (x ∷ front) rest e = absurd (cc)
accepted_split (c ∷ cs) front rest e = split_if c c.answer cs front rest e (λ f r is. accepted_split cs f r is) refl

-- what the commits with runs made is what all commits made
pub served_all : (cs : List Commit) (published : List (List MemberVersions)) → AreServed (accepted_of cs) published → AreServed cs published
served_all cs [] ok = sym (made_accepted cs) ∙ ok
served_all cs (g ∷ gs) ok =
    let t = accepted_split cs ok.0 ok.1 ok.2 in
    (t.0, t.1, t.2, sym (made_accepted t.0) ∙ (ap (made_by versions_made) t.3 ∙ ok.3), served_all t.1 gs (subst (λ l. AreServed l gs) (sym t.4) ok.4))

-- the published history ends with the last sequence given
pub served_end : (start : ℕ) (fault : Option ℕ) (cs : List Commit) (published : List (List MemberVersions)) → AreAnswered start fault cs → AreServed (accepted_of cs) published → last_of start published ≡ last_after_all start cs
served_end start fault cs published commit_of_request ok = ap (λ vs. start + length vs) (sym (images_versions versions_made cs published (served_all cs published ok))) ∙ versions_length start fault cs commit_of_request

-- a group that has runs was published
pub served_more : (heard : Heard) (last end : ℕ) (requests : List CommitRequest) (served : List Commit) (published now : List (List MemberVersions)) → AreServed served published → Publishes (versions_from last requests) published now
    → AreServed (served ++ accepted_of (commits_of_plan heard last end requests)) now
served_more heard last end requests served published now ok publishes =
    let new = accepted_of (commits_of_plan heard last end requests) in
    let made_new : made_by versions_made new ≡ versions_from last requests = made_accepted (commits_of_plan heard last end requests) ∙ planned_versions heard last end requests in
    ⊎_elim
    (λ (t : (versions_from last requests ≡ []) × (now ≡ published)). subst (AreServed (served ++ new)) (sym t.1) (images_none versions_made served new published ok (made_new ∙ t.0)))
    (λ (t : (g : List MemberVersions) × (now ≡ published ++ g ∷ []) × (versions_in g ≡ versions_from last requests)). subst (AreServed (served ++ new)) (sym t.1) (images_more versions_made served new published t.0 ok (made_new ∙ sym t.2)))
    publishes

-- no refused commit has a run
pub none_failed : (heard : Heard) (count : ℕ) (requests : List CommitRequest) → accepted_of (all_failed heard count requests) ≡ []
none_failed heard count [] = refl
none_failed heard count (q ∷ requests) = none_failed heard count requests

pub none_held_up : (known : List ControllerCall) (numbers : Look) (requests : List CommitRequest) → accepted_of (all_held_up known numbers requests) ≡ []
none_held_up known numbers [] = refl
none_held_up known numbers (q ∷ requests) = none_held_up known numbers requests

-- what the log's law says of its own history also holds of the table's history
pub consistent_served : (start clients group_bytes : ℕ) (asked : List ControllerCall) (cs : List Commit) (last : ℕ) (fault : Option ℕ) (logged published : List (List MemberVersions)) (calls : List GroupCall)
    → AreConsistent start clients group_bytes asked cs last fault logged calls → AreServed (accepted_of cs) published → EndsAreNamed start cs published → AreConsistent start clients group_bytes asked cs last fault published calls
consistent_served start clients group_bytes asked cs last fault logged published calls k ok named = record {
  answered = k.answered;
  of_clients = k.of_clients;
  last_is = k.last_is;
  fault_is = k.fault_is;
  in_groups = k.in_groups;
  images = served_all cs published ok;
  written = k.written;
  named = named;
  cuts = k.cuts;
}
