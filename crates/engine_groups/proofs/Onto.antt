-- A leader that puts its group into the table in a stage of its own.
use Rattle.std.proofs.Common.{◌≡◌, ◌⊎◌, inl, inr, ⊎_elim, ℕ, ◌+◌, ◌-◌, ◌≤◌, Bool, true, false, cond, ◌==◌, List, [], ◌∷◌, ◌++◌, Option, Some, None, Result, Ok, Err, refl, sym, ap, ◌∙◌, subst, arith, append-nil}
use Rattle.std.specs.List.{AllByRecursion}
use Rattle.std.proofs.lemmas.Bool.{ne_eqb}
use Rattle.log_writer.specs.declared.group_log.GroupLog.{Ghosts}
use Rattle.model_base.specs.declared.write.Refusal.{Refusal}
use Rattle.model_base.specs.declared.write.Refusal.TheVariants.{Empty, TooLarge, SyncWithoutLog, SelfStop, NoFamily, NoMemory, Incomplete, LogFault, SequenceFull}
use Rattle.model_base.specs.Batch.{count_of}
use Rattle.log_batch.specs.Contents.{Contents}
use Rattle.table_rule.specs.declared.content.MemberVersions.{MemberVersions}
use Rattle.table_rule.specs.Histories.{Begins, In, last_of, made_by, versions_in}
use Rattle.table_rule.proofs.Images.{images_more}
use Rattle.line_rule.specs.declared.view.Debt.{Debt}
use Rattle.line_rule.specs.declared.view.Handling.{Handling}
use Rattle.line_rule.specs.Laws.{given_runs}
use Rattle.line_writers.specs.declared.second.PipelinedRole.{PipelinedRole}
use Rattle.line_writers.specs.declared.second.PipelinedRole.TheVariants.{LogLeader, MemLeader, Parallel, Done}
use Rattle.line_writers.specs.declared.writer.Writer.{Writer}
use Rattle.line_writers.specs.Second.{GetsRight, HasRight}
use Rattle.engine_calls.specs.declared.answers.Receipt.{Receipt}
use Rattle.engine_calls.specs.declared.answers.Refused.{Refused}
use Rattle.engine_rule.specs.Commits.{Answer as CommitAnswer, AreAnswered, Commit, IsAnswer, accepted, failed, fault_after, held_up, last_after, last_after_all, no_room}
use Rattle.engine_rule.specs.Consistent.{EndsAreNamed, IsNamed}
use Rattle.engine_rule.proofs.Steps.{begins_snoc}
use Rattle.engine_rule.specs.Entries.{versions_made}
use Rattle.engine_stage_laws.specs.Served.{AreServed, accepted_of, if_accepted}
use Rattle.engine_stage_laws.proofs.Serving.{accepted_append, made_accepted, served_end}
use Rattle.engine_groups.specs.Meaning.{Meaning}
use Rattle.engine_groups.specs.declared.leader.EngineAtOpening.{EngineAtOpening}
use Rattle.engine_groups.specs.declared.leader.Right.{Right}
use Rattle.engine_parts.specs.declared.requests.Request.{Request}
use Rattle.engine_parts.specs.declared.requests.Answer.{Answer}
use Rattle.engine_parts.specs.Handled.{ComesBack, HandsBack, answer_in, answer_of_refusal, commit_if, commit_of, commits_in}
use Rattle.engine_parts.specs.Items.{run_in}
use Rattle.engine_groups.specs.Law.{RightStandsFor, ServesIs}
use Rattle.engine_parts.specs.Runs.{run_of}
use Rattle.engine_groups.specs.Turns.{turn_of}
use Rattle.engine_parts.proofs.Commits.{commits_append, one_commit_in}
use Rattle.engine_groups.proofs.Turning.{given_append}

refused_has_none : (c : Commit) (why : Refusal) (more : List Commit) → more ≡ if_accepted c (answer_of_refusal why) ++ more
refused_has_none c Empty more = refl
refused_has_none c (TooLarge size) more = refl
refused_has_none c SyncWithoutLog more = refl
refused_has_none c SelfStop more = refl
refused_has_none c (NoFamily family) more = refl
refused_has_none c NoMemory more = refl
refused_has_none c (Incomplete s d w) more = refl
refused_has_none c (LogFault n) more = refl
refused_has_none c (SequenceFull l) more = refl

given_write : (h : Handling Request Answer) (gs : List (Handling Request Answer)) (more : List Commit) (last : ℕ) (dead : Option ℕ) (batch : Contents) (r : Result Receipt Refused) → h.asked.since ≡ None → commits_in gs ≡ more → ComesBack batch r → IsAnswer last dead (count_of batch.records) (answer_in r)
    → commits_in (cond ((run_in r).1 == 0) gs (h ∷ gs)) ≡ if_accepted (commit_of h) (answer_in r) ++ more
given_write h gs more last dead batch (Ok r) writes same back ok =
    let end : r.run.last + 1 ≡ r.run.first + count_of batch.records = back.1 in let some : 1 ≤ count_of batch.records = ok.1 in
    ap (λ b. commits_in (cond b gs (h ∷ gs))) (ne_eqb (r.run.last + 1 - r.run.first) 0 (λ e. omega (arith, e, end, some))) ∙ (one_commit_in h gs writes ∙ ap (λ l. commit_of h ∷ l) same)
given_write h gs more last dead batch (Err e) writes same back ok = same ∙ refused_has_none (commit_of h) e.why more

-- a read of the log is no commit, whether it has a run or none
given_read : (h : Handling Request Answer) (gs : List (Handling Request Answer)) (n : ℕ) (b : Bool) → h.asked.since ≡ Some n → commits_in (cond b gs (h ∷ gs)) ≡ commits_in gs
given_read h gs n true reads = refl
given_read h gs n false reads = ap (λ (since : Option ℕ). commit_if since (commit_of h) ++ commits_in gs) reads

-- the handled requests that got runs are those that were accepted
pub given_accepted : (last : ℕ) (dead : Option ℕ) (hs : List (Handling Request Answer)) → AllByRecursion HandsBack hs → AreAnswered last dead (commits_in hs) → commits_in (given_runs run_of hs) ≡ accepted_of (commits_in hs)
given_accepted last dead [] back answered = refl
given_accepted last dead (h ∷ hs) back answered = by h.asked.since refl answered (λ l d right. given_accepted l d hs back.1 right)
  where
    by : (since : Option ℕ) → h.asked.since ≡ since → AreAnswered last dead (commit_if since (commit_of h) ++ commits_in hs) → ((l : ℕ) (d : Option ℕ) → AreAnswered l d (commits_in hs) → commits_in (given_runs run_of hs) ≡ accepted_of (commits_in hs))
        → commits_in (given_runs run_of (h ∷ hs)) ≡ accepted_of (commit_if since (commit_of h) ++ commits_in hs)
    by None writes right more =
        given_write h (given_runs run_of hs) (accepted_of (commits_in hs)) last dead h.asked.batch h.reply.answer writes
        (more (last_after last (count_of h.asked.batch.records) (answer_in h.reply.answer)) (fault_after dead (answer_in h.reply.answer)) right.1) back.0 right.0
    by (Some n) reads right more = given_read h (given_runs run_of hs) n ((run_of h.reply).1 == 0) reads ∙ more last dead right

-- what is published ends with the last sequence that was given before the group
pub served_last : (start : ℕ) (seen : List (Handling Request Answer)) (published : List (List MemberVersions)) → AllByRecursion HandsBack seen → AreAnswered start None (commits_in seen) → AreServed (commits_in (given_runs run_of seen)) published
    → last_of start published ≡ last_after_all start (commits_in seen)
served_last start seen published back answered served = served_end start None (commits_in seen) published answered (subst (λ cs. AreServed cs published) (given_accepted start None seen back answered) served)

-- once the group is published, what is published was made by all that got runs, with those of the group
pub served_now : (start : ℕ) (seen new : List (Handling Request Answer)) (published : List (List MemberVersions)) (g : List MemberVersions) → AllByRecursion HandsBack seen → AreAnswered start None (commits_in seen) → AllByRecursion HandsBack (seen ++ new) → AreAnswered start None (commits_in (seen ++ new))
    → versions_in g ≡ made_by versions_made (commits_in new) → AreServed (commits_in (given_runs run_of seen)) published → AreServed (commits_in (given_runs run_of (seen ++ new))) (published ++ g ∷ [])
served_now start seen new published g back answered back' answered' made served =
    let before = subst (λ cs. AreServed cs published) (given_accepted start None seen back answered) served in
    let all = given_accepted start None (seen ++ new) back' answered' ∙ (ap accepted_of (commits_append seen new) ∙ accepted_append (commits_in seen) (commits_in new)) in
    subst (λ cs. AreServed cs (published ++ g ∷ [])) (sym all) (images_more versions_made (accepted_of (commits_in seen)) (accepted_of (commits_in new)) published g before (made_accepted (commits_in new) ∙ sym made))

-- Which ends are named by the commits that got runs

in_front : {A : Type 0} (x : A) (xs ys : List A) → In x xs → In x (xs ++ ys)
in_front x [] ys h = absurd h
in_front x (z ∷ xs) ys h = ⊎_elim (λ (e : z ≡ x). inl e) (λ (t : In x xs). inr (in_front x xs ys t)) h

in_rest : {A : Type 0} (x : A) (xs ys : List A) → In x ys → In x (xs ++ ys)
in_rest x [] ys h = h
in_rest x (z ∷ xs) ys h = inr (in_rest x xs ys h)

accepted_there : (c : Commit) (first at : ℕ) (cs : List Commit) → In c cs → c.answer ≡ accepted first at → In c (accepted_of cs)
accepted_there c first at [] h is = absurd h
accepted_there c first at (x ∷ cs) h is = ⊎_elim
    (λ (e : x ≡ c). subst (λ (v : CommitAnswer). In c (if_accepted x v ++ accepted_of cs)) (sym (ap (λ (y : Commit). y.answer) e ∙ is)) (inl e))
    (λ (t : In c cs). in_rest c (if_accepted x x.answer) (accepted_of cs) (accepted_there c first at cs t is))
    h

all_there : (c : Commit) (cs : List Commit) → In c (accepted_of cs) → In c cs
all_there c [] h = absurd h
all_there c (x ∷ cs) h = by x.answer h (all_there c cs)
  where
    by : (v : CommitAnswer) → In c (if_accepted x v ++ accepted_of cs) → (In c (accepted_of cs) → In c cs) → (x ≡ c) ⊎ In c cs
    by (accepted first end) i more = ⊎_elim (λ (e : x ≡ c). inl e) (λ (t : In c (accepted_of cs)). inr (more t)) i
    by (held_up numbers) i more = inr (more i)
    by (failed count) i more = inr (more i)
    by (no_room last) i more = inr (more i)

-- the same ends are named by all that was handled and by what of it got runs
named_given : (last : ℕ) (dead : Option ℕ) (hs : List (Handling Request Answer)) (at : ℕ) → AllByRecursion HandsBack hs → AreAnswered last dead (commits_in hs) → IsNamed (commits_in hs) at → IsNamed (commits_in (given_runs run_of hs)) at
named_given last dead hs at back answered n = subst (λ (cs : List Commit). IsNamed cs at) (sym (given_accepted last dead hs back answered)) (n.0, n.1, accepted_there n.0 n.1 at (commits_in hs) n.2 n.3, n.3)

pub ends_of_all : (start : ℕ) (hs : List (Handling Request Answer)) (published : List (List MemberVersions)) → AllByRecursion HandsBack hs → AreAnswered start None (commits_in hs) → EndsAreNamed start (commits_in (given_runs run_of hs)) published → EndsAreNamed start (commits_in hs) published
ends_of_all start hs published back answered named shown begins = ⊎_elim
    (λ (e : last_of start shown ≡ start). inl e)
    (λ (n : IsNamed (commits_in (given_runs run_of hs)) (last_of start shown)).
    let m = subst (λ (cs : List Commit). IsNamed cs (last_of start shown)) (given_accepted start None hs back answered) n in inr (m.0, m.1, all_there m.0 (commits_in hs) m.2, m.3))
    (named shown begins)

-- once the group is published, its end is named too: the log's law says so of the groups that it knows (`logged`)
pub named_now : (start : ℕ) (seen new : List (Handling Request Answer)) (published logged : List (List MemberVersions)) (g : List MemberVersions) → AllByRecursion HandsBack (seen ++ new) → AreAnswered start None (commits_in (seen ++ new)) → AreServed (commits_in (given_runs run_of (seen ++ new))) (published ++ g ∷ [])
    → last_of start logged ≡ last_after_all start (commits_in (seen ++ new)) → EndsAreNamed start (commits_in (seen ++ new)) logged → EndsAreNamed start (commits_in (given_runs run_of seen)) published → EndsAreNamed start (commits_in (given_runs run_of (seen ++ new))) (published ++ g ∷ [])
named_now start seen new published logged g back answered served ends named before shown begins = ⊎_elim
    (λ (b : Begins shown published). ⊎_elim
    (λ (e : last_of start shown ≡ start). inl e)
    (λ (n : IsNamed (commits_in (given_runs run_of seen)) (last_of start shown)). inr (more (last_of start shown) n))
    (before shown b))
    (λ (all : shown ≡ published ++ g ∷ []).
    let same : last_of start shown ≡ last_of start logged = ap (last_of start) all ∙ (served_last start (seen ++ new) (published ++ g ∷ []) back answered served ∙ sym ends) in
    subst (λ (n : ℕ). (n ≡ start) ⊎ IsNamed (commits_in (given_runs run_of (seen ++ new))) n) (sym same) (⊎_elim
    (λ (e : last_of start logged ≡ start). inl e)
    (λ (n : IsNamed (commits_in (seen ++ new)) (last_of start logged)). inr (named_given start None (seen ++ new) (last_of start logged) back answered n))
    (named logged ([], sym (append-nil logged)))))
    (begins_snoc shown published g begins)
  where
    more : (at : ℕ) → IsNamed (commits_in (given_runs run_of seen)) at → IsNamed (commits_in (given_runs run_of (seen ++ new))) at
    more at n = subst (λ (cs : List Commit). IsNamed cs at) (sym (ap commits_in (given_append seen new) ∙ commits_append (given_runs run_of seen) (given_runs run_of new))) (n.0, n.1, in_front n.0 (commits_in (given_runs run_of seen)) (commits_in (given_runs run_of new)) n.2, n.3)

some_or : {U : Type 0} → U → Option U → U
some_or d None = d
some_or d (Some u) = u

some_same : {U : Type 0} (a b : U) → Some a ≡ Some b → a ≡ b
unfolding some_or
some_same a b e = ap (some_or a) e

-- What a leader has that was given the right to launch
module _ {D T C S U P L : Type 0} {ghosts : Ghosts D} (meaning : Meaning T S U P) (about : EngineAtOpening D T C ghosts) (n : ℕ) (d : Debt Request Answer) (from to : List (Handling Request Answer)) (mine : List (Request × Answer)) (w : Writer Request Answer L (Right T S U P)) where
  pub record HasTurn (role : PipelinedRole L (Right T S U P) Answer) : Type 0 where
    pub turn : U
    pub turn_is : turn_of role ≡ Some turn
    pub our : meaning.our_turn about.table.value turn
    pub served : AreServed (commits_in from) (meaning.history turn)
    pub named : EndsAreNamed about.start (commits_in from) (meaning.history turn)
    pub has_right : HasRight n d from to mine w

  serves_true : (piped : Bool) (turn : Option U) → piped ≡ true → ServesIs meaning about.table.value about.start piped from turn → (u : U) × (turn ≡ Some u) × meaning.our_turn about.table.value u × AreServed (commits_in from) (meaning.history u) × EndsAreNamed about.start (commits_in from) (meaning.history u)
  serves_true true turn is h = h
  serves_true false turn is h = absurd (cc)

  pub has_turn : about.pipelined ≡ true → (role : PipelinedRole L (Right T S U P) Answer) → GetsRight (λ right served. RightStandsFor meaning about right served) n d from to mine role w → HasTurn role
  has_turn piped (LogLeader l) h = absurd h
  has_turn piped (MemLeader right) h = let s = serves_true about.pipelined right.turn piped h.0 in record { turn = s.0; turn_is = s.1; our = s.2; served = s.3; named = s.4; has_right = h.1 }
  has_turn piped Parallel h = absurd h
  has_turn piped (Done p) h = absurd h

  -- the turn that was taken out of the role is that one
  pub turn_out : (role : PipelinedRole L (Right T S U P) Answer) (u : U) → turn_of role ≡ Some u → HasTurn role → meaning.our_turn about.table.value u × AreServed (commits_in from) (meaning.history u) × EndsAreNamed about.start (commits_in from) (meaning.history u)
  turn_out role u is t = let same : t.turn ≡ u = some_same t.turn u (sym t.turn_is ∙ is) in subst (λ (x : U). meaning.our_turn about.table.value x × AreServed (commits_in from) (meaning.history x) × EndsAreNamed about.start (commits_in from) (meaning.history x)) same (t.our, t.served, t.named)

pub serves_again : {T S U P : Type 0} (meaning : Meaning T S U P) (table : T) (start : ℕ) (piped : Bool) (served : List (Handling Request Answer)) (u : U) → piped ≡ true → meaning.our_turn table u → AreServed (commits_in served) (meaning.history u) → EndsAreNamed start (commits_in served) (meaning.history u)
    → ServesIs meaning table start piped served (Some u)
serves_again meaning table start true served u is our ok named = (u, refl, our, ok, named)
serves_again meaning table start false served u is our ok named = absurd (cc)
