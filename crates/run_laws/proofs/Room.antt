-- The clients take no more sequences than their calls commit records.
use Rattle.std.proofs.Common.{◌≡◌, ℕ, zero, suc, ◌+◌, ◌≤◌, List, [], ◌∷◌, ◌++◌, length, fold, sum_by, Some, slice_get, refl, ap, ◌∙◌, subst, arith}
use Rattle.std.proofs.lemmas.List.Sums.{sum_by-cons, sum_by_push}
use Rattle.model_base.specs.declared.write.WriteOptions.{WriteOptions}
use Rattle.model_base.specs.Batch.{Record, count_of}
use Rattle.model_base.specs.History.{Entry}
use Rattle.model_base.specs.Trace.{Trace, Settings}
use Rattle.model_base.specs.Progress.{Progress, fresh, next_entry, added_by}
use Rattle.model_base.specs.Runs.{Run, IsTranscript, whole, cut_off}
use Rattle.model_base.specs.Outcomes.{entries_of_client}
use Rattle.model_base.specs.Calls.{Command, commit, Reply, accepted, no_memory, Call}
use Rattle.run_laws.proofs.Lists.{some_same}
use Rattle.run_laws.proofs.Counts.{sequences_of}
use Rattle.run_laws.proofs.Interleaved.{entries_from, AreBelow, splits, sum_within}
use Rattle.run_laws.specs.Accepting.{count_committed, count_of_commits}
use Rattle.run_laws.proofs.Follows.{mine_with, follows, add_call, batch_by}
use Rattle.run_laws.proofs.Splits.{Comes}

-- how many records the calls of two lists commit, one list after the other
commits_append : (batch : List Record) (calls more : List Call) → count_of_commits batch (calls ++ more) ≡ count_of_commits batch calls + count_of_commits (fold add_call batch calls) more
commits_append batch [] more = omega arith
commits_append batch (c ∷ calls) more = omega (arith, commits_append (added_by batch c.command c.reply) calls more)

-- how many sequences a client takes by one call, and by all its calls

by_commit : (client : ℕ) (p : Progress) (how : WriteOptions) (reply : Reply) → sequences_of (mine_with client p (commit how) reply) ≤ sequences_of p.mine + count_of p.pending
by_commit client p how (accepted first last records) = omega (arith, sum_by_push (λ (e : Entry). e.count) p.mine (next_entry client p.mine how first p.pending))
by_commit client p how other = omega arith

by_command : (client : ℕ) (p : Progress) (command : Command) (reply : Reply) → sequences_of (mine_with client p command reply) ≤ sequences_of p.mine + count_committed p.pending command
by_command client p (commit how) reply = by_commit client p how reply
by_command client p other reply = omega arith

takes_run : (settings : Settings) (trace : Trace) (client : ℕ) (p : Progress) (calls : List Call) (q : Progress) → Run settings trace client p calls q
    → sequences_of q.mine ≤ sequences_of p.mine + count_of_commits p.pending calls
takes_run settings trace client p [] q run = let same = ap (λ (x : Progress). sequences_of x.mine) run in omega arith
takes_run settings trace client p (c ∷ calls) q run =
    let f = follows settings trace client p c.command c.reply run.0 run.1.replies in
    let mine = ap sequences_of f.mine in let batch = ap (λ records. count_of_commits records calls) f.batch in
    omega (arith, mine, batch, by_command client p c.command c.reply, takes_run settings trace client run.0 calls q run.2)

-- a client takes no more sequences than its calls commit records
pub takes : (settings : Settings) (trace : Trace) (client : ℕ) (commands : List Command) (calls : List Call) (end : Progress) → IsTranscript settings trace client commands calls end
    → sequences_of end.mine ≤ count_of_commits [] calls
takes settings trace client commands calls end (whole is run) = omega (arith, takes_run settings trace client fresh calls end run)
takes settings trace client commands calls end (cut_off front last rest cut is run lacks) =
    let all = ap (count_of_commits []) cut in
    omega (arith, all, takes_run settings trace client fresh front end run, commits_append [] front (record { command = last; reply = no_memory } ∷ []))

-- if a commit wasn't accepted, the client takes fewer, by the number of that batch's records
pub takes_less : (settings : Settings) (trace : Trace) (client : ℕ) (calls before : List Call) (how : WriteOptions) (reply : Reply) (after : List Call) (end : Progress)
    → calls ≡ before ++ record { command = commit how; reply = reply } ∷ after → (c : Comes settings trace client fresh before (record { command = commit how; reply = reply }) after end) → c.next.mine ≡ c.at.mine
    → sequences_of end.mine + count_of c.at.pending ≤ count_of_commits [] calls
takes_less settings trace client calls before how reply after end split c same =
    let all = ap (count_of_commits []) split in let mine = ap sequences_of same in
    let at = ap count_of (batch_by settings trace client fresh before c.at c.run) in
    let next_batch : c.next.pending ≡ added_by (fold add_call [] before) (commit how) reply =
    (follows settings trace client c.at (commit how) reply c.next c.step.replies).batch
    ∙ ap (λ records. added_by records (commit how) reply) (batch_by settings trace client fresh before c.at c.run) in
    let next = ap (λ records. count_of_commits records c.kept) next_batch in
    let later = ap (count_of_commits (added_by (fold add_call [] before) (commit how) reply)) c.split in
    omega (
      arith,
      all,
      mine,
      at,
      next,
      later,
      takes_run settings trace client fresh before c.at c.run,
      takes_run settings trace client c.next c.kept end c.rest,
      commits_append [] before (record { command = commit how; reply = reply } ∷ after),
      commits_append (added_by (fold add_call [] before) (commit how) reply) c.kept c.lost,
    )

-- each of these clients, numbered from `first` on, takes no more sequences than its calls commit records
abbrev pub TakeWithin : ℕ → List (List Call) → List Entry → Type 0
TakeWithin first transcripts entries =
    (i : ℕ) (calls : List Call) → slice_get transcripts i ≡ Some calls → sequences_of (entries_of_client (first + i) entries) ≤ count_of_commits [] calls

below_same : (m n : ℕ) (entries : List Entry) → m ≡ n → AreBelow m entries → AreBelow n entries
below_same m n entries e below = subst (λ k. AreBelow k entries) e below

first_takes : (first : ℕ) (calls : List Call) (transcripts : List (List Call)) (entries : List Entry) → TakeWithin first (calls ∷ transcripts) entries
    → sequences_of (entries_of_client first entries) ≤ count_of_commits [] calls
first_takes first calls transcripts entries each =
    let number : first + 0 ≡ first = omega arith in
    subst (λ k. sequences_of (entries_of_client k entries) ≤ count_of_commits [] calls) number (each 0 calls refl)

rest_take : (first : ℕ) (calls : List Call) (transcripts : List (List Call)) (entries : List Entry) → TakeWithin first (calls ∷ transcripts) entries → TakeWithin (first + 1) transcripts entries
rest_take first calls transcripts entries each i others there =
    let number : first + suc i ≡ first + 1 + i = omega arith in
    subst (λ k. sequences_of (entries_of_client k entries) ≤ count_of_commits [] others) number (each (suc i) others there)

-- so all clients together take no more sequences than all commits have records
all_take : (first : ℕ) (transcripts : List (List Call)) (entries : List Entry) → AreBelow (first + length transcripts) entries → TakeWithin first transcripts entries
    → sequences_of (entries_from first entries) ≤ sum_by (count_of_commits []) transcripts
all_take first [] entries below each = sum_within (λ (e : Entry). e.count) 0 first 0 entries below (λ client some few. absurd (omega arith))
all_take first (calls ∷ transcripts) entries below each =
    let rest = all_take (first + 1) transcripts entries (below_same (first + suc (length transcripts)) (first + 1 + length transcripts) entries (omega arith) below) (rest_take first calls transcripts entries each) in
    omega (arith, rest, first_takes first calls transcripts entries each, splits (λ (e : Entry). e.count) first entries, sum_by-cons (count_of_commits []) calls transcripts)

-- and if one client takes fewer, so do all together, by the same number
pub all_take_less : (first : ℕ) (transcripts : List (List Call)) (entries : List Entry) (place : ℕ) (calls : List Call) (less : ℕ) → AreBelow (first + length transcripts) entries → TakeWithin first transcripts entries
    → slice_get transcripts place ≡ Some calls → sequences_of (entries_of_client (first + place) entries) + less ≤ count_of_commits [] calls
    → sequences_of (entries_from first entries) + less ≤ sum_by (count_of_commits []) transcripts
all_take_less first [] entries place calls less below each there one = absurd (cc)
all_take_less first (own ∷ transcripts) entries zero calls less below each there one =
    let number : first + 0 ≡ first = omega arith in
    let here : sequences_of (entries_of_client first entries) + less ≤ count_of_commits [] calls = subst (λ k. sequences_of (entries_of_client k entries) + less ≤ count_of_commits [] calls) number one in
    let same = ap (count_of_commits []) (some_same there) in
    let rest = all_take (first + 1) transcripts entries (below_same (first + suc (length transcripts)) (first + 1 + length transcripts) entries (omega arith) below) (rest_take first own transcripts entries each) in
    omega (arith, rest, here, same, splits (λ (e : Entry). e.count) first entries, sum_by-cons (count_of_commits []) own transcripts)
all_take_less first (own ∷ transcripts) entries (suc place) calls less below each there one =
    let number : first + suc place ≡ first + 1 + place = omega arith in
    let here = subst (λ k. sequences_of (entries_of_client k entries) + less ≤ count_of_commits [] calls) number one in
    let rest = all_take_less (first + 1) transcripts entries place calls less (below_same (first + suc (length transcripts)) (first + 1 + length transcripts) entries (omega arith) below) (rest_take first own transcripts entries each) there here in
    omega (arith, rest, first_takes first own transcripts entries each, splits (λ (e : Entry). e.count) first entries, sum_by-cons (count_of_commits []) own transcripts)
