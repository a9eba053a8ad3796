-- A group that has runs may be launched, and one that has none has no parts.
use Rattle.std.proofs.Common.{◌≡◌, ℕ, ◌+◌, ◌<◌, Bool, true, false, nat_le, List, [], ◌∷◌, Result, length, refl, ap, sym, ◌∙◌, subst, arith}
use Rattle.std.specs.List.{AllByRecursion, AllZip}
use Rattle.model_base.specs.Controller.{Look}
use Rattle.engine_calls.specs.declared.answers.Receipt.{Receipt}
use Rattle.engine_calls.specs.declared.answers.Refused.{Refused}
use Rattle.engine_parts.specs.declared.layout.Layout.{Layout}
use Rattle.engine_parts.specs.Layout.{IsLaid, IsRoomy}
use Rattle.model_base.specs.Batch.{count_of}
use Rattle.model_base.specs.History.{max_sequence}
use Rattle.table_rule.specs.declared.content.MemberVersions.{MemberVersions}
use Rattle.table_rule.specs.Histories.{Runs}
use Rattle.engine_rule.specs.Plans.{CommitRequest, batches_from, last_with, last_with_all, versions_from}
use Rattle.engine_rule.proofs.Plans.{versions_runs}
use Rattle.engine_parts.specs.declared.requests.Delay.{Delay}
use Rattle.engine_parts.specs.declared.requests.Request.{Request}
use Rattle.engine_parts.specs.declared.requests.Answer.{Answer}
use Rattle.engine_parts.specs.Handled.{IsHeldUp, answer_in, commit_requests_of, failures, replies_of, reply_at}
use Rattle.engine_parts.specs.Numbering.{AreParts}
use Rattle.engine_parts.specs.Staged.{HasNoRun, MayLaunch}

abbrev pub HaveNoRuns : List (ℕ × Answer) → Type 0
HaveNoRuns replies = AllByRecursion (λ (y : ℕ × Answer). HasNoRun (answer_in y.1.answer)) replies

pub no_runs_failed : (delay : Delay) (n : ℕ) (xs : List (ℕ × Request)) → HaveNoRuns (failures delay n xs)
no_runs_failed delay n [] = tt
no_runs_failed delay n (x ∷ xs) = (tt, no_runs_failed delay n xs)

pub no_runs : (delay : Delay) (last end : ℕ) (xs : List (ℕ × Request)) → batches_from last (commit_requests_of xs) ≡ [] → HaveNoRuns (replies_of delay last end xs)
no_runs delay last end [] none = tt
no_runs delay last end (x ∷ xs) none = by (nat_le (last + count_of x.1.batch.records) max_sequence) refl (λ n e. no_runs delay n end xs e)
  where
    by : (b : Bool) → nat_le (last + count_of x.1.batch.records) max_sequence ≡ b → ((n : ℕ) → batches_from n (commit_requests_of xs) ≡ [] → HaveNoRuns (replies_of delay n end xs)) → HasNoRun (answer_in (reply_at delay last end x.1).answer) × HaveNoRuns (replies_of delay (last_with last x.1.batch.records) end xs)
    by true e more = absurd (let some : x.1.batch.records ∷ batches_from (last_with last x.1.batch.records) (commit_requests_of xs) ≡ [] = subst (λ l. l ≡ []) (rw e refl) none in cc)
    by false e more =
        let rest : batches_from (last_with last x.1.batch.records) (commit_requests_of xs) ≡ [] = subst (λ l. l ≡ []) (rw e refl) none in
        (rw e tt, more (last_with last x.1.batch.records) rest)

pub stays : (last : ℕ) (asks : List CommitRequest) → versions_from last asks ≡ [] → last_with_all last asks ≡ last
stays last asks none = let r = (versions_runs last asks).1 in let l : length (versions_from last asks) ≡ 0 = ap length none in omega (arith, r, l)

pub may_launch : (leader clients last end : ℕ) (asks : List CommitRequest) (beside : List ℕ) (parts : List MemberVersions) → AreParts leader clients beside (versions_from last asks) parts → 0 < length (versions_from last asks) → end ≡ last_with_all last asks → MayLaunch leader clients last end beside parts
may_launch leader clients last end asks beside parts are some is = let r = versions_runs last asks in record {
  runs = subst (Runs last) (sym are.versions_are) r.0;
  some = subst (λ vs. 0 < length vs) (sym are.versions_are) some;
  members = are.members;
  each = are.each some;
  ends = is ∙ (sym r.1 ∙ ap (λ vs. last + length vs) (sym are.versions_are));
}

pub no_runs_held : (delay : Delay) (numbers : Look) (xs : List (ℕ × Request)) (ys : List (ℕ × Answer)) → AllZip (IsHeldUp delay numbers) xs ys → HaveNoRuns ys
no_runs_held delay numbers [] [] h = tt
no_runs_held delay numbers [] (y ∷ ys) h = absurd h
no_runs_held delay numbers (x ∷ xs) [] h = absurd h
no_runs_held delay numbers (x ∷ xs) (y ∷ ys) h = (subst (λ (r : Result Receipt Refused). HasNoRun (answer_in r)) (sym h.0.1) tt, no_runs_held delay numbers xs ys h.1)

pub laid : (n : ℕ) (layout : Layout) → IsRoomy n layout → IsLaid n layout
laid n layout r = record { no_numberings = r.clear.0; no_batches = r.clear.1; clients_are = r.clear.3; numberings = r.numberings; batches = r.batches; members = r.members }
