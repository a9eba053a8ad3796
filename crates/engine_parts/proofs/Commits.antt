-- What was handled, as commits and as reads of the log: a write is a commit, and shows something of the log; a read is
-- none, and shows nothing.
use Rattle.std.proofs.Common.{◌≡◌, ℕ, List, [], ◌∷◌, ◌++◌, map, Option, Some, None, refl, ap, ◌∙◌, append-nil}
use Rattle.std.specs.List.{AllByRecursion}
use Rattle.std.proofs.lemmas.Grind.{flat_map-append}
use Rattle.std.proofs.lemmas.List.{map-append}
use Rattle.line_rule.specs.declared.view.Handling.{Handling}
use Rattle.engine_rule.specs.Commits.{Commit}
use Rattle.engine_rule.specs.Reading.{AnsweredRead, answers_in, reads_with, faults_with, reads_in, faults_in}
use Rattle.engine_parts.specs.declared.requests.Request.{Request}
use Rattle.engine_parts.specs.declared.requests.Answer.{Answer}
use Rattle.engine_parts.specs.Handled.{answer_if, commit_if, commit_of, commits_in, handled_with, read_answer, read_by, reads_handled, reads_of, sight_if, sight_of, sights_in}

pub commits_append : (hs ks : List (Handling Request Answer)) → commits_in (hs ++ ks) ≡ commits_in hs ++ commits_in ks
commits_append hs ks = flat_map-append (λ (h : Handling Request Answer). commit_if h.asked.since (commit_of h)) hs ks

pub reads_append : (hs ks : List (Handling Request Answer)) → reads_handled (hs ++ ks) ≡ reads_handled hs ++ reads_handled ks
reads_append hs ks = flat_map-append reads_of hs ks

pub answers_append : (rs qs : List AnsweredRead) → answers_in (rs ++ qs) ≡ answers_in rs ++ answers_in qs
answers_append rs qs = map-append (λ (r : AnsweredRead). r.answer) rs qs

pub sights_append : (hs ks : List (Handling Request Answer)) → sights_in (hs ++ ks) ≡ sights_in hs ++ sights_in ks
sights_append hs ks = flat_map-append (λ (h : Handling Request Answer). sight_if h.asked.since (sight_of h)) hs ks

-- one more read gave this, and failed with these counts
pub reads_more : (rs : List AnsweredRead) (r : AnsweredRead) → reads_in (answers_in (rs ++ r ∷ [])) ≡ reads_in (answers_in rs) ++ reads_with r.answer
reads_more rs r = ap reads_in (answers_append rs (r ∷ [])) ∙ (flat_map-append reads_with (answers_in rs) (r.answer ∷ []) ∙ ap (λ l. reads_in (answers_in rs) ++ l) (append-nil (reads_with r.answer)))

pub faults_more : (rs : List AnsweredRead) (r : AnsweredRead) → faults_in (answers_in (rs ++ r ∷ [])) ≡ faults_in (answers_in rs) ++ faults_with r.answer
faults_more rs r = ap faults_in (answers_append rs (r ∷ [])) ∙ (flat_map-append faults_with (answers_in rs) (r.answer ∷ []) ∙ ap (λ l. faults_in (answers_in rs) ++ l) (append-nil (faults_with r.answer)))

-- a request that writes
abbrev pub Writes : ℕ × Request → Type 0
Writes x = x.1.since ≡ None

-- one that was handled
pub one_commit_in : (h : Handling Request Answer) (hs : List (Handling Request Answer)) → h.asked.since ≡ None → commits_in (h ∷ hs) ≡ commit_of h ∷ commits_in hs
one_commit_in h hs is = ap (λ (since : Option ℕ). commit_if since (commit_of h) ++ commits_in hs) is

pub one_sight_in : (h : Handling Request Answer) (hs : List (Handling Request Answer)) → h.asked.since ≡ None → sights_in (h ∷ hs) ≡ sight_of h ∷ sights_in hs
one_sight_in h hs is = ap (λ (since : Option ℕ). sight_if since (sight_of h) ++ sights_in hs) is

-- a group of writes is handled as a commit each, and has no reads
pub writes_commit : (requests : List (ℕ × Request)) (replies : List (ℕ × Answer)) → AllByRecursion Writes requests → commits_in (handled_with requests replies) ≡ map commit_of (handled_with requests replies)
writes_commit [] replies all = refl
writes_commit (x ∷ requests) [] all = refl
writes_commit (x ∷ requests) (y ∷ replies) all =
    one_commit_in (record { by = x.0; asked = x.1; reply = y.1 }) (handled_with requests replies) all.0
    ∙ ap (λ (cs : List Commit). commit_of (record { by = x.0; asked = x.1; reply = y.1 }) ∷ cs) (writes_commit requests replies all.1)

pub writes_read_nothing : (requests : List (ℕ × Request)) (replies : List (ℕ × Answer)) → AllByRecursion Writes requests → reads_handled (handled_with requests replies) ≡ []
writes_read_nothing [] replies all = refl
writes_read_nothing (x ∷ requests) [] all = refl
writes_read_nothing (x ∷ requests) (y ∷ replies) all =
    ap (λ (since : Option ℕ). map (read_by x.0) (answer_if since y.1) ++ reads_handled (handled_with requests replies)) all.0 ∙ writes_read_nothing requests replies all.1

-- so after such a group the reads are as before
pub same_reads : (hs : List (Handling Request Answer)) (requests : List (ℕ × Request)) (replies : List (ℕ × Answer)) → AllByRecursion Writes requests → reads_handled (hs ++ handled_with requests replies) ≡ reads_handled hs
same_reads hs requests replies all =
    reads_append hs (handled_with requests replies) ∙ (ap (λ (l : List AnsweredRead). reads_handled hs ++ l) (writes_read_nothing requests replies all) ∙ append-nil (reads_handled hs))

-- a read is no commit, and adds its answer
pub no_commit : (hs : List (Handling Request Answer)) (h : Handling Request Answer) (since : ℕ) → h.asked.since ≡ Some since → commits_in (hs ++ h ∷ []) ≡ commits_in hs
no_commit hs h since is =
    commits_append hs (h ∷ []) ∙ (ap (λ (o : Option ℕ). commits_in hs ++ (commit_if o (commit_of h) ++ [])) is ∙ append-nil (commits_in hs))

pub no_sight : (hs : List (Handling Request Answer)) (h : Handling Request Answer) (since : ℕ) → h.asked.since ≡ Some since → sights_in (hs ++ h ∷ []) ≡ sights_in hs
no_sight hs h since is =
    sights_append hs (h ∷ []) ∙ (ap (λ (o : Option ℕ). sights_in hs ++ (sight_if o (sight_of h) ++ [])) is ∙ append-nil (sights_in hs))

pub one_read : (hs : List (Handling Request Answer)) (h : Handling Request Answer) (since : ℕ) → h.asked.since ≡ Some since
    → reads_handled (hs ++ h ∷ []) ≡ reads_handled hs ++ read_by h.by (read_answer since h.reply.read) ∷ []
one_read hs h since is =
    reads_append hs (h ∷ []) ∙ ap (λ (o : Option ℕ). reads_handled hs ++ (map (read_by h.by) (answer_if o h.reply) ++ [])) is
