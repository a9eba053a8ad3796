-- A client's commits, what their answers show of the log, and its reads of the log, among all, are those that its own
-- answers give.
use Rattle.std.proofs.Common.{◌≡◌, ◌≢◌, ℕ, map, List, [], ◌∷◌, ◌++◌, Option, Some, None, refl, ap, sym, ◌∙◌, append_assoc}
use mathlib.Core.Logic.{dite}
use native.Mathlib.Decide.{ℕ_discrete}
use Rattle.std.proofs.lemmas.Bool.{ne_eqb, eq-eqb}
use Rattle.line_rule.specs.declared.view.Handling.{Handling}
use Rattle.line_rule.specs.Chain.{of}
use Rattle.engine_parts.specs.declared.requests.Request.{Request}
use Rattle.engine_parts.specs.declared.requests.Answer.{Answer}
use Rattle.engine_groups.specs.Clients.{own_answers, own_commits, own_sights}
use Rattle.engine_parts.specs.Handled.{answer_if, commit_if, commit_of, commits_in, read_answer, read_by, reads_handled, sight_if, sight_of, sights_in}
use Rattle.engine_rule.specs.Commits.{Commit, commits_of}
use Rattle.engine_rule.specs.LogSights.{LogSight, sights_of}
use Rattle.engine_rule.specs.Reading.{AnsweredRead, ReadAnswer, answers_of}

abbrev pub commit : ℕ → Request → Answer → Commit
commit k q p = commit_of (record { by = k; asked = q; reply = p })

commits_kept : (k : ℕ) (since : Option ℕ) (c : Commit) (more : List Commit) → c.client ≡ k → commits_of k (commit_if since c ++ more) ≡ commit_if since c ++ commits_of k more
commits_kept k None c more same = rw (eq-eqb c.client k same) refl
commits_kept k (Some n) c more same = refl

commits_left : (k : ℕ) (since : Option ℕ) (c : Commit) (more : List Commit) → c.client ≢ k → commits_of k (commit_if since c ++ more) ≡ commits_of k more
commits_left k None c more other = rw (ne_eqb c.client k other) refl
commits_left k (Some n) c more other = refl

pub commits_told : (k : ℕ) (hs : List (Handling Request Answer)) → commits_of k (commits_in hs) ≡ own_commits k (of k hs)
commits_told k [] = refl
commits_told k (h ∷ hs) = dite (ℕ_discrete h.by k)
    (λ same. rw (eq-eqb h.by k same) (commits_kept k h.asked.since (commit_of h) (commits_in hs) same ∙ (λ i. commit_if h.asked.since (commit (same i) h.asked h.reply) ++ commits_told k hs i)))
    (λ other. rw (ne_eqb h.by k other) (commits_left k h.asked.since (commit_of h) (commits_in hs) other ∙ commits_told k hs))

abbrev pub sight : ℕ → Request → Answer → LogSight
sight k q p = sight_of (record { by = k; asked = q; reply = p })

sights_kept : (k : ℕ) (since : Option ℕ) (s : LogSight) (more : List LogSight) → s.client ≡ k → sights_of k (sight_if since s ++ more) ≡ sight_if since s ++ sights_of k more
sights_kept k None s more same = rw (eq-eqb s.client k same) refl
sights_kept k (Some n) s more same = refl

sights_left : (k : ℕ) (since : Option ℕ) (s : LogSight) (more : List LogSight) → s.client ≢ k → sights_of k (sight_if since s ++ more) ≡ sights_of k more
sights_left k None s more other = rw (ne_eqb s.client k other) refl
sights_left k (Some n) s more other = refl

pub sights_told : (k : ℕ) (hs : List (Handling Request Answer)) → sights_of k (sights_in hs) ≡ own_sights k (of k hs)
sights_told k [] = refl
sights_told k (h ∷ hs) = dite (ℕ_discrete h.by k)
    (λ same. rw (eq-eqb h.by k same) (sights_kept k h.asked.since (sight_of h) (sights_in hs) same ∙ (λ i. sight_if h.asked.since (sight (same i) h.asked h.reply) ++ sights_told k hs i)))
    (λ other. rw (ne_eqb h.by k other) (sights_left k h.asked.since (sight_of h) (sights_in hs) other ∙ sights_told k hs))

reads_kept : (k by : ℕ) (answers : List ReadAnswer) (more : List AnsweredRead) → by ≡ k → answers_of k (map (read_by by) answers ++ more) ≡ answers ++ answers_of k more
reads_kept k by [] more same = refl
reads_kept k by (a ∷ answers) more same = rw (eq-eqb by k same) (ap (λ l. a ∷ l) (reads_kept k by answers more same))

reads_left : (k by : ℕ) (answers : List ReadAnswer) (more : List AnsweredRead) → by ≢ k → answers_of k (map (read_by by) answers ++ more) ≡ answers_of k more
reads_left k by [] more other = refl
reads_left k by (a ∷ answers) more other = rw (ne_eqb by k other) (reads_left k by answers more other)

pub reads_told : (k : ℕ) (hs : List (Handling Request Answer)) → answers_of k (reads_handled hs) ≡ own_answers (of k hs)
reads_told k [] = refl
reads_told k (h ∷ hs) = dite (ℕ_discrete h.by k)
    (λ same. rw (eq-eqb h.by k same) (reads_kept k h.by (answer_if h.asked.since h.reply) (reads_handled hs) same ∙ ap (λ l. answer_if h.asked.since h.reply ++ l) (reads_told k hs)))
    (λ other. rw (ne_eqb h.by k other) (reads_left k h.by (answer_if h.asked.since h.reply) (reads_handled hs) other ∙ reads_told k hs))

-- One more answer of a client

-- the answer to a write is a commit
pub own_more : (k : ℕ) (mine : List (Request × Answer)) (q : Request) (p : Answer) → q.since ≡ None → own_commits k (mine ++ (q, p) ∷ []) ≡ own_commits k mine ++ commit k q p ∷ []
own_more k [] q p writes = ap (λ since. commit_if since (commit k q p) ++ []) writes
own_more k (t ∷ mine) q p writes = ap (λ l. commit_if t.0.since (commit k t.0 t.1) ++ l) (own_more k mine q p writes) ∙ sym (append_assoc (commit_if t.0.since (commit k t.0 t.1)) (own_commits k mine) (commit k q p ∷ []))

pub sights_more : (k : ℕ) (mine : List (Request × Answer)) (q : Request) (p : Answer) → q.since ≡ None → own_sights k (mine ++ (q, p) ∷ []) ≡ own_sights k mine ++ sight k q p ∷ []
sights_more k [] q p writes = ap (λ since. sight_if since (sight k q p) ++ []) writes
sights_more k (t ∷ mine) q p writes = ap (λ l. sight_if t.0.since (sight k t.0 t.1) ++ l) (sights_more k mine q p writes) ∙ sym (append_assoc (sight_if t.0.since (sight k t.0 t.1)) (own_sights k mine) (sight k q p ∷ []))

pub answers_same : (mine : List (Request × Answer)) (q : Request) (p : Answer) → q.since ≡ None → own_answers (mine ++ (q, p) ∷ []) ≡ own_answers mine
answers_same [] q p writes = ap (λ since. answer_if since p ++ []) writes
answers_same (t ∷ mine) q p writes = ap (λ l. answer_if t.0.since t.1 ++ l) (answers_same mine q p writes)

-- the answer to a read of the log is none
pub commits_same : (k : ℕ) (mine : List (Request × Answer)) (q : Request) (p : Answer) (n : ℕ) → q.since ≡ Some n → own_commits k (mine ++ (q, p) ∷ []) ≡ own_commits k mine
commits_same k [] q p n reads = ap (λ since. commit_if since (commit k q p) ++ []) reads
commits_same k (t ∷ mine) q p n reads = ap (λ l. commit_if t.0.since (commit k t.0 t.1) ++ l) (commits_same k mine q p n reads)

pub sights_same : (k : ℕ) (mine : List (Request × Answer)) (q : Request) (p : Answer) (n : ℕ) → q.since ≡ Some n → own_sights k (mine ++ (q, p) ∷ []) ≡ own_sights k mine
sights_same k [] q p n reads = ap (λ since. sight_if since (sight k q p) ++ []) reads
sights_same k (t ∷ mine) q p n reads = ap (λ l. sight_if t.0.since (sight k t.0 t.1) ++ l) (sights_same k mine q p n reads)

pub answers_more : (mine : List (Request × Answer)) (q : Request) (p : Answer) (n : ℕ) → q.since ≡ Some n → own_answers (mine ++ (q, p) ∷ []) ≡ own_answers mine ++ read_answer n p.read ∷ []
answers_more [] q p n reads = ap (λ since. answer_if since p ++ []) reads
answers_more (t ∷ mine) q p n reads = ap (λ l. answer_if t.0.since t.1 ++ l) (answers_more mine q p n reads) ∙ sym (append_assoc (answer_if t.0.since t.1) (own_answers mine) (read_answer n p.read ∷ []))
