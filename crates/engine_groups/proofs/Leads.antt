-- The law of the list, in the engine's own words.
use Rattle.std.proofs.Common.{◌≡◌, ◌⊎◌, inl, inr, ⊎_elim, ℕ, ◌-◌, Bool, true, false, cond, ◌==◌, List, [], ◌∷◌, ◌++◌, Some, None, length, refl, ap, sym, ◌∙◌, subst}
use Rattle.std.specs.List.{AllByRecursion}
use Rattle.std.proofs.lemmas.Bool.{ne_eqb, eq-eqb}
use Rattle.log_writer.specs.declared.group_log.GroupLog.{Ghosts}
use Rattle.model_base.specs.Controller.{ControllerCall}
use Rattle.table_rule.specs.declared.content.MemberVersions.{MemberVersions}
use Rattle.table_rule.specs.Histories.{In}
use Rattle.line_rule.specs.declared.view.QueuedWriter.{QueuedWriter}
use Rattle.line_rule.specs.declared.view.Handling.{Handling}
use Rattle.line_rule.specs.Chain.{Absent, Distinct, heads, handling, answers, all_answers, of}
use Rattle.line_rule.specs.declared.view.LineStage.TheVariants.{Fresh}
use Rattle.line_rule.specs.Rule.{hold, last_run}
use Rattle.line_rule.specs.Plays.{Sat}
use Rattle.line_writers.specs.declared.writer.Role.{Role}
use Rattle.line_writers.specs.declared.writer.Role.TheVariants.{LogLeader, Done}
use Rattle.line_writers.specs.Seats.{about_of, told_in_first}
use Rattle.line_writers.specs.declared.writer.Task.{Task}
use Rattle.line_writers.specs.declared.writer.Task.TheVariants.{Awaits, Leads as Leads_, Helps, Queues, Serves}
use Rattle.line_rule.specs.Members.{asks, pays}
use Rattle.line_writers.specs.Roles.{IsLinked, Becomes, HasReply, HasLeft}
use Rattle.engine_controller.specs.declared.controller.Controller.{Controller}
use Rattle.engine_controller.specs.Delays.{delays_of}
use Rattle.engine_rule.specs.Asked.{HasAsked, place_of}
use Rattle.engine_rule.specs.Commits.{Commit}
use Rattle.engine_groups.specs.Meaning.{Meaning}
use Rattle.engine_parts.specs.declared.requests.Request.{Request}
use Rattle.engine_parts.specs.declared.requests.Answer.{Answer}
use Rattle.engine_groups.specs.declared.engine.GroupEngine.{GroupEngine}
use Rattle.engine_groups.specs.declared.leader.EngineAtOpening.{EngineAtOpening}
use Rattle.engine_groups.specs.declared.leader.Leadership.{Leadership}
use Rattle.engine_groups.specs.Clients.{opened_log, own_commits}
use Rattle.engine_parts.specs.Handled.{AreHandled, HandsBack, InOrder, IsNoted, ShowsDelay, commits_in, handled_with, seen_for, sights_in}
use Rattle.engine_parts.specs.Logs.{fault_of}
use Rattle.model_base.specs.LogContents.{GroupCall}
use Rattle.engine_rule.specs.LogSights.{ShowTheLog}
use Rattle.engine_rule.proofs.LogSights.{worked_are}
use Rattle.engine_parts.specs.LogLaw.{LogCovers}
use Rattle.engine_groups.specs.Law.{kept_in}
use Rattle.engine_controller.specs.Passes.{seen_by_note}
use Rattle.engine_parts.specs.Led.{LeadsBy}
use Rattle.engine_parts.specs.Handled.{IsReplyAt}
use Rattle.engine_groups.proofs.Told.{commit, commits_same, own_more}
use Rattle.engine_parts.proofs.Paying.{Paid, number_is, paid, run}

all_append : {A : Type 0} (P : A → Type 0) (xs ys : List A) → AllByRecursion P xs → AllByRecursion P ys → AllByRecursion P (xs ++ ys)
all_append P [] ys a b = b
all_append P (x ∷ xs) ys a b = (a.0, all_append P xs ys a.1 b)

all_front : {A : Type 0} (P : A → Type 0) (xs ys : List A) → AllByRecursion P (xs ++ ys) → AllByRecursion P xs
all_front P [] ys h = tt
all_front P (x ∷ xs) ys h = (h.0, all_front P xs ys h.1)

-- What the list's law is about
module _ {D T C S U P : Type 0} {ghosts : Ghosts D} where
  -- what the leadership's log says of what was handled, with its note
  abbrev pub LogIn : EngineAtOpening D T C ghosts → Leadership D T C S U P ghosts → List (List MemberVersions) → List (Handling Request Answer) → Type 0
  LogIn about leadership published handled = LogCovers about.opened.value about.start about.clients about.group_bytes (seen_by_note leadership.asked) leadership.held.value.path.log leadership.held.value.path.places published leadership.held.value.path.last leadership.held.value.path.made handled

  module _ (about : EngineAtOpening D T C ghosts) (leadership : Leadership D T C S U P ghosts) (published : List (List MemberVersions)) where
    -- what holds once a leader has answered its group
    pub record HasLed (own : QueuedWriter Request) (group : List (QueuedWriter Request)) (seen : List (Handling Request Answer)) (ys : List (ℕ × Answer)) : Type 0 where
      pub is_paid : Paid own group ys
      pub path : LogIn about leadership published (seen ++ all_answers own is_paid.own_reply is_paid.gs)
      pub kept : AreHandled about.controller.value about.opened.value about.start (seen ++ all_answers own is_paid.own_reply is_paid.gs)
      pub number : leadership.held.value.path.last ≡ last_run run about.start (seen ++ all_answers own is_paid.own_reply is_paid.gs)

    kept_now : (seen new : List (Handling Request Answer)) → LogIn about leadership published (seen ++ new) → AreHandled about.controller.value about.opened.value about.start seen
        → AllByRecursion HandsBack new → AllByRecursion (ShowsDelay about.controller.value) new → AreHandled about.controller.value about.opened.value about.start (seen ++ new)
    kept_now seen new path old handed_back shown = let w = path.consistent.written in record {
      answered = path.consistent.answered;
      handed_back = all_append HandsBack seen new old.handed_back handed_back;
      shown = all_append (ShowsDelay about.controller.value) seen new old.shown shown;
      written = record { calls = path.calls; log = leadership.held.value.path.log; wrote = path.wrote; worked = w.worked; lost = w.lost; both = w.both; parts = w.parts; shown = subst (λ (worked : List GroupCall). ShowTheLog worked (sights_in (seen ++ new))) (worked_are about.group_bytes path.consistent.in_groups.groups (commits_in (seen ++ new)) (fault_of leadership.held.value.path.log) leadership.held.value.path.last path.calls w) path.shown };
    }

    pub has_led : (own : QueuedWriter Request) (group : List (QueuedWriter Request)) (seen : List (Handling Request Answer)) (xs : List (ℕ × Request)) (ys : List (ℕ × Answer)) → xs ≡ asks own group → InOrder xs ys
        → LogIn about leadership published (seen ++ handled_with xs ys) → AreHandled about.controller.value about.opened.value about.start seen
        → AllByRecursion HandsBack (handled_with xs ys) → AllByRecursion (ShowsDelay about.controller.value) (handled_with xs ys) → HasLed own group seen ys
    has_led own group seen xs ys are pays path old handed_back shown =
        let t = paid own group ys (subst (λ (l : List (ℕ × Request)). InOrder l ys) are pays) in
        let new = all_answers own t.own_reply t.gs in
        let new_is : handled_with xs ys ≡ new = ap (λ (l : List (ℕ × Request)). handled_with l ys) are ∙ sym t.answers_are in
        let path1 = subst (λ (hs : List (Handling Request Answer)). LogIn about leadership published (seen ++ hs)) new_is path in
        let kept = kept_now seen new path1 old (subst (AllByRecursion HandsBack) new_is handed_back) (subst (AllByRecursion (ShowsDelay about.controller.value)) new_is shown) in
        record {
          is_paid = t;
          path = path1;
          kept = kept;
          number = path1.consistent.last_is ∙ sym (number_is about.start None (seen ++ new) kept.handed_back kept.answered);
        }

-- the engine's numbers are those that the list's law is about
module _ {D T C G S U P : Type 0} {ghosts : Ghosts D} (meaning : Meaning T S U P) (e : GroupEngine D T C G S U P ghosts) (controller_is : (about_of e.list).controller.value ≡ e.controller) (start_is : (about_of e.list).start ≡ (meaning.opening e.table).start) (hs : List (Handling Request Answer)) where
  pub of_engine : kept_in e.list hs → AreHandled e.controller (opened_log e) (meaning.opening e.table).start hs
  of_engine h = subst (λ (z : Controller C × ℕ). AreHandled z.0 (opened_log e) z.1 hs) (λ i. (controller_is i, start_is i)) h

  pub of_list : AreHandled e.controller (opened_log e) (meaning.opening e.table).start hs → kept_in e.list hs
  of_list h = subst (λ (z : Controller C × ℕ). AreHandled z.0 (opened_log e) z.1 hs) (λ i. (sym controller_is i, sym start_is i)) h

-- The delays that a client asked for

in_front : {A : Type 0} (a : A) (xs : List A) (x : A) → In a xs → In a (xs ++ x ∷ [])
in_front a [] x h = absurd h
in_front a (y ∷ ys) x h = ⊎_elim (λ (e : y ≡ a). inl e) (λ (t : In a ys). inr (in_front a ys x t)) h

in_last : {A : Type 0} (xs : List A) (x : A) → In x (xs ++ x ∷ [])
in_last [] x = inl refl
in_last (y ∷ ys) x = inr (in_last ys x)

asked_front : (own : List Commit) (c : Commit) (places : List ℕ) → AllByRecursion (λ (place : ℕ). (x : Commit) × In x own × (place_of x ≡ place)) places
    → AllByRecursion (λ (place : ℕ). (x : Commit) × In x (own ++ c ∷ []) × (place_of x ≡ place)) places
asked_front own c [] h = tt
asked_front own c (p ∷ places) h = ((h.0.0, in_front h.0.0 own c h.0.1, h.0.2), asked_front own c places h.1)

-- a client that has one more answer, and asked for no delay
pub asked_more : (k : ℕ) (mine now : List (Request × Answer)) (q : Request) (p : Answer) (known : List ControllerCall) → q.since ≡ None → now ≡ mine ++ (q, p) ∷ [] → HasAsked k (own_commits k mine) known → HasAsked k (own_commits k now) known
asked_more k mine now q p known writes is h =
    subst (λ (own : List Commit). HasAsked k own known) (sym (ap (own_commits k) is ∙ own_more k mine q p writes)) (asked_front (own_commits k mine) (commit k q p) (delays_of k known) h)

-- the answer to a read of the log is no commit
pub asked_read : (k : ℕ) (mine now : List (Request × Answer)) (q : Request) (p : Answer) (since : ℕ) (known : List ControllerCall) → q.since ≡ Some since → now ≡ mine ++ (q, p) ∷ [] → HasAsked k (own_commits k mine) known → HasAsked k (own_commits k now) known
asked_read k mine now q p since known reads is h = subst (λ (own : List Commit). HasAsked k own known) (sym (ap (own_commits k) is ∙ commits_same k mine q p since reads)) h

-- a leader that asked for one more delay, and has its own answer
pub asked_own : (k : ℕ) (mine now : List (Request × Answer)) (q : Request) (p : Answer) (known after at : List ControllerCall) → q.since ≡ None → now ≡ mine ++ (q, p) ∷ [] → HasAsked k (own_commits k mine) known
    → delays_of k after ≡ delays_of k known ++ (length at - 1) ∷ [] → seen_for p ≡ at → HasAsked k (own_commits k now) after
asked_own k mine now q p known after at writes is h delays own =
    let Has : List Commit → ℕ → Type 0 = λ (own : List Commit) (place : ℕ). (x : Commit) × In x own × (place_of x ≡ place) in
    let more = own_commits k mine ++ commit k q p ∷ [] in
    subst (λ (cs : List Commit). HasAsked k cs after) (sym (ap (own_commits k) is ∙ own_more k mine q p writes))
    (subst (AllByRecursion (Has more)) (sym delays) (all_append (Has more) (delays_of k known) ((length at - 1) ∷ []) (asked_front (own_commits k mine) (commit k q p) (delays_of k known) h)
    ((commit k q p, in_last (own_commits k mine) (commit k q p), ap (λ (l : List ControllerCall). length l - 1) own), tt)))

-- the leader's own reply is one of its group's
pub own_reply_at : (known : List ControllerCall) (own : QueuedWriter Request) (p : Answer) (gs : List (QueuedWriter Request × Answer)) → AllByRecursion (IsReplyAt known) (pays own p gs) → seen_for p ≡ known
own_reply_at known own p [] h = h.0
own_reply_at known own p (g ∷ gs) h = own_reply_at known own p gs (all_front (IsReplyAt known) (pays own p gs) ((g.0.by, g.1) ∷ []) h)

pub noted_as : {C : Type 0} (a b : Controller C) (xs : List (ℕ × Request)) → a ≡ b → AllByRecursion (λ (x : ℕ × Request). IsNoted a x.1) xs → AllByRecursion (λ (x : ℕ × Request). IsNoted b x.1) xs
noted_as {C} a b xs is h = subst (λ (z : Controller C). AllByRecursion (λ (x : ℕ × Request). IsNoted z x.1) xs) is h

pub shown_as : {C : Type 0} (a b : Controller C) (hs : List (Handling Request Answer)) → a ≡ b → AllByRecursion (ShowsDelay a) hs → AllByRecursion (ShowsDelay b) hs
shown_as {C} a b hs is h = subst (λ (z : Controller C). AllByRecursion (ShowsDelay z) hs) is h

-- the leader's own request comes first
pub leads_by : (own : QueuedWriter Request) (group : List (QueuedWriter Request)) → LeadsBy own.by (asks own group)
leads_by own [] = refl
leads_by own (e ∷ es) = still (asks own es) (e.by, e.asked) (leads_by own es)
  where
    still : (xs : List (ℕ × Request)) (x : ℕ × Request) → LeadsBy own.by xs → LeadsBy own.by (xs ++ x ∷ [])
    still [] x h = absurd h
    still (y ∷ ys) x h = h

-- what was handled for one client
of_append : (k : ℕ) (a b : List (Handling Request Answer)) → of k (a ++ b) ≡ of k a ++ of k b
of_append k [] b = refl
of_append k (h ∷ a) b = by (h.by == k) (of_append k a b)
  where
    by : (t : Bool) → of k (a ++ b) ≡ of k a ++ of k b → cond t ((h.asked, h.reply) ∷ of k (a ++ b)) (of k (a ++ b)) ≡ cond t ((h.asked, h.reply) ∷ of k a) (of k a) ++ of k b
    by true e = ap (λ l. (h.asked, h.reply) ∷ l) e
    by false e = e

of_none : (k : ℕ) (gs : List (QueuedWriter Request × Answer)) → Absent k (heads gs) → of k (answers gs) ≡ []
of_none k [] out = refl
of_none k (g ∷ gs) out = of_append k (answers gs) (handling g.0 g.1 ∷ []) ∙ ((λ i. of_none k gs out.1 i ++ of k (handling g.0 g.1 ∷ [])) ∙ rw (ne_eqb g.0.by k out.0) refl)

of_own : (own : QueuedWriter Request) (p : Answer) (gs : List (QueuedWriter Request × Answer)) → Absent own.by (heads gs) → of own.by (all_answers own p gs) ≡ (own.asked, p) ∷ []
of_own own p gs out = rw (eq-eqb own.by own.by refl) (ap (λ l. (own.asked, p) ∷ l) (of_none own.by gs out))

distinct_last : (group : List (QueuedWriter Request)) (own : QueuedWriter Request) → Distinct (group ++ own ∷ []) → Absent own.by group
distinct_last [] own h = tt
distinct_last (e ∷ es) own h = ((λ is. last_absent e.by es own h.0 (sym is)), distinct_last es own h.1)
  where
    last_absent : (k : ℕ) (fs : List (QueuedWriter Request)) (o : QueuedWriter Request) → Absent k (fs ++ o ∷ []) → o.by ≡ k → ⊥
    last_absent k [] o a = a.0
    last_absent k (f ∷ fs) o a = last_absent k fs o a.1

-- the leader's own request among those that its group handled
pub own_now : (k : ℕ) (own : QueuedWriter Request) (group : List (QueuedWriter Request)) (ys : List (ℕ × Answer)) (t : Paid own group ys) (seen : List (Handling Request Answer)) (mine : List (Request × Answer)) → own.by ≡ k → Distinct (group ++ own ∷ []) → of k seen ≡ mine
    → of k (seen ++ all_answers own t.own_reply t.gs) ≡ mine ++ (own.asked, t.own_reply) ∷ []
own_now k own group ys t seen mine is apart before =
    let new = all_answers own t.own_reply t.gs in
    of_append k seen new ∙ (λ i. before i ++ ((λ j. of (sym is j) new) ∙ of_own own t.own_reply t.gs (subst (Absent own.by) (sym t.heads_are) (distinct_last group own apart))) i)

-- a leader leads as one writer only
pub fresh_same : {Q P : Type 0} (c c' : ℕ) (own own' : QueuedWriter Q) (seen seen' : List (Handling Q P)) (mine mine' : List (Q × P)) → hold c (Fresh own seen) mine ∷ [] ≡ hold c' (Fresh own' seen') mine' ∷ [] → own ≡ own'
fresh_same c c' own own' seen seen' mine mine' e =
    let h : hold c (Fresh own seen) mine ≡ hold c' (Fresh own' seen') mine' = cc in
    let s : Fresh own seen ≡ Fresh own' seen' = ap (λ x. x.stage) h in
    cc

-- Where a writer is in the line
module _ {Q P L M : Type 0} where
  pub linked_told : (stood : L → List (Handling Q P) → Type 0) (c : ℕ) (task : Task) (q : Q) (mine : List (Q × P)) (m : Sat Q P L M) → IsLinked stood c task q mine m → told_in_first m.0 ≡ mine
  linked_told stood c Awaits q mine m h = ap told_in_first h.1
  linked_told stood c Leads_ q mine m h = ap told_in_first h.3
  linked_told stood c Helps q mine m h = ap told_in_first h.0
  linked_told stood c Queues q mine m h = absurd h
  linked_told stood c Serves q mine m h = absurd h

  pub as_leader : (stood : L → List (Handling Q P) → Type 0) (kept : List (Handling Q P) → Type 0) (drops : Q → P → Type 0) (c : ℕ) (q : Q) (mine : List (Q × P)) (r : Role L P) (l : L) (m : Sat Q P L M) → r ≡ LogLeader l → Becomes stood kept drops c q mine r m → Becomes stood kept drops c q mine (LogLeader l) m
  as_leader stood kept drops c q mine r l m e h = subst (λ (z : Role L P). Becomes stood kept drops c q mine z m) e h

  -- one that is done has its reply, or has left the queue
  pub as_done : (stood : L → List (Handling Q P) → Type 0) (kept : List (Handling Q P) → Type 0) (drops : Q → P → Type 0) (c : ℕ) (q : Q) (mine : List (Q × P)) (r : Role L P) (p : P) (m : Sat Q P L M) → r ≡ Done p → Becomes stood kept drops c q mine r m → HasReply kept c q mine p m ⊎ HasLeft drops c q mine p m
  as_done stood kept drops c q mine r p m e h = subst (λ (z : Role L P). Becomes stood kept drops c q mine z m) e h
