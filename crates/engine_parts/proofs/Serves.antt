-- What holds once the group of a leader that has asked for its delay is refused or written.
use Rattle.std.proofs.Common.{◌≡◌, ◌≢◌, ◌≤◌, ℕ, ◌+◌, ◌-◌, Bool, true, get_or, take, drop, map, slice_get, Option, Some, None, List, [], ◌∷◌, ◌++◌, length, refl, sym, ap, ◌∙◌, subst, arith, append_assoc, append-nil, length-append}
use Rattle.std.specs.List.{AllByRecursion, AllZip}
use Rattle.std.proofs.lemmas.List.{length-map, drop_all, take_all}
use mathlib.Core.List.{IsPrefix}
use Rattle.log_writer.specs.declared.group_log.GroupLog.{Ghosts}
use Rattle.model_base.specs.Controller.{ControllerCall, Look, HoldUp, delay, say}
use Rattle.model_base.specs.Grouping.{size_of}
use Rattle.model_base.specs.Tokens.{tokens_of, said_in}
use Rattle.engine_parts.specs.declared.log.OpenLog.{OpenLog}
use Rattle.engine_parts.specs.Logs.{fault_of}
use Rattle.table_rule.specs.declared.content.MemberVersions.{MemberVersions}
use Rattle.line_rule.specs.declared.view.Handling.{Handling}
use Rattle.engine_controller.specs.Delays.{delays_of}
use Rattle.engine_controller.specs.Passes.{EndsWith}
use Rattle.engine_controller.specs.declared.controller.Controller.{Controller}
use Rattle.engine_controller.proofs.Account.{ends_begins, ends_tokens}
use Rattle.engine_controller.proofs.Places.{ends_delays}
use Rattle.engine_controller.proofs.Totals.{get_behind}
use Rattle.engine_rule.specs.Commits.{Commit, held_up}
use Rattle.engine_rule.specs.Consistent.{AreConsistent}
use Rattle.engine_rule.specs.Entries.{SeesMore}
use Rattle.engine_rule.specs.LogCalls.{SyncsFor}
use Rattle.engine_rule.specs.Plans.{CommitRequest, item_of_request, up_to_delay, all_held_up, AreLawful, AreLogged, AreUnlogged, ComesAfter, IsAskedFor, IsWholeGroup, LetsProceed, MayNotWait, ProceedsWith}
use Rattle.engine_rule.proofs.OneGroup.{all_append, prefix_trans}
use Rattle.engine_rule.proofs.Steps.{consistent_held_up}
use Rattle.engine_parts.specs.declared.requests.Delay.{Delay}
use Rattle.engine_parts.specs.declared.requests.Request.{Request}
use Rattle.engine_parts.specs.declared.requests.Answer.{Answer}
use Rattle.engine_parts.specs.Asking.{HasAskedFor, OnlyLooks, all_seen, greatest_shown}
use Rattle.engine_parts.specs.Handled.{ComesBack, EndsInDelay, HandsBack, InOrder, IsDelayed, IsHeldUp, IsNotHeldUp, IsNotedAs, IsReplyOf, ShowsDelay, answer_in, commit_if, commit_of, commit_request_of, commit_requests_of, handled_with, noted_in, reads_handled, reads_of, seen_at, seen_for, went_at, went_for, heard_at, commits_in, first_of, has_run, sight_if, sight_of, sights_in}
use Rattle.engine_parts.specs.LogLaw.{Covers}
use Rattle.log_updates.specs.declared.places.LogPlace.{LogPlace}
use Rattle.engine_parts.specs.Led.{AreAlike, IsLedGroup, LeadsBy}
use Rattle.engine_parts.specs.Handled.{IsReplyAt}
use Rattle.engine_parts.proofs.Views.{HadAtMost, Saw, WasAsked, shown_by_all, unnoted, unseen_commits}
use Rattle.engine_parts.proofs.Saying.{said_in_prefix, said_last}
use Rattle.engine_rule.specs.Reading.{AnsweredRead}
use Rattle.engine_rule.specs.LogSights.{LogSight, worked_in, written_if, sights_without, ShowTheLog}
use Rattle.engine_rule.proofs.LogSights.{shown_without}
use Rattle.engine_parts.proofs.Commits.{Writes, commits_append, one_commit_in, one_sight_in, reads_append, sights_append}
use Rattle.engine_parts.proofs.Noting.{notes_all}
use Rattle.engine_parts.proofs.Replies.{none_if}
use Rattle.engine_parts.proofs.ReadsLaw.{ReadsStand, with_writes}

-- The delay that was asked for

module _ (k : ℕ) (seen asked after : List ControllerCall) (requests : List (ℕ × Request)) (numbers : Look) (h : HasAskedFor k seen asked requests numbers after) where
  abbrev bytes : ℕ
  bytes = size_of (map item_of_request (commit_requests_of requests))

  abbrev call : ControllerCall
  call = record { client = k; action = delay h.now bytes; told = Some numbers }

  abbrev most : ℕ
  most = greatest_shown requests

  -- all that the leader has seen before the delay
  abbrev before : List ControllerCall
  before = h.said ++ h.asks.between

  learned_begins : IsPrefix h.learned before
  learned_begins = prefix_trans h.learned h.said before (ends_begins k h.learned (say most) None h.said h.says) (h.asks.between, refl)

  -- what the leader said is its own first call
  said_first : EndsWith k seen (say most) None h.said
  said_first = record {
    between = h.goes_on.between ++ h.says.between;
    is = h.says.is ∙ ap (λ (l : List ControllerCall). l ++ record { client = k; action = say most; told = None } ∷ [])
        (ap (λ (l : List ControllerCall). l ++ h.says.between) h.goes_on.is ∙ append_assoc seen h.goes_on.between h.says.between);
    others = all_append (λ (t : ControllerCall). t.client ≢ k) h.goes_on.between h.says.between h.goes_on.others h.says.others;
    legal = h.says.legal;
  }

  -- neither what it said nor the delay is a token call
  pub asked_sees : SeesMore k seen after
  asked_sees = record {
    begins = prefix_trans seen h.said after (ends_begins k seen (say most) None h.said said_first) (ends_begins k h.said (delay h.now bytes) (Some numbers) after h.asks);
    tokens = ends_tokens k h.said (delay h.now bytes) (Some numbers) after h.asks ∙ append-nil (tokens_of k h.said)
        ∙ (ends_tokens k seen (say most) None h.said said_first ∙ append-nil (tokens_of k seen));
  }

  pub asked_delays : delays_of k after ≡ delays_of k seen ++ (length after - 1) ∷ []
  asked_delays = ends_delays k h.said (delay h.now bytes) (Some numbers) after h.asks
      ∙ ap (λ (l : List ℕ). l ++ (length after - 1) ∷ []) (ends_delays k seen (say most) None h.said said_first ∙ append-nil (delays_of k seen))

  pub asked_after : ComesAfter asked after
  asked_after =
      let leaders : IsPrefix asked before = prefix_trans asked h.learned before h.leaders learned_begins in
      record { more = leaders.0; call = call; is = h.asks.is ∙ ap (λ (l : List ControllerCall). l ++ call ∷ []) (sym leaders.1) }

  pub asked_ends : EndsInDelay k numbers after
  asked_ends = (before, h.now, bytes, h.asks.is)

  pub asked_is : (group_bytes clients : ℕ) → IsLedGroup group_bytes clients requests → LeadsBy k requests → IsAskedFor (commit_requests_of requests) numbers after
  asked_is group_bytes clients led leads =
      let own : led.first.0 ≡ k = subst (LeadsBy k) led.leads leads in
      record {
        leader = commit_request_of led.first;
        rest = commit_requests_of led.rest;
        leads = ap commit_requests_of led.leads;
        before = before;
        now = h.now;
        is = h.asks.is ∙ ap (λ (c : ℕ). before ++ record { client = c; action = delay h.now bytes; told = Some numbers } ∷ []) (sym own);
      }

  size_after : length after ≡ length before + 1
  size_after = ap length h.asks.is ∙ length-append before (call ∷ [])

  there : slice_get after (length after - 1) ≡ Some call
  there =
      let n : length after - 1 ≡ length before = (let s = size_after in omega (arith, s)) in
      subst (λ (z : List ControllerCall × ℕ). slice_get z.0 z.1 ≡ Some call) (λ i. (sym h.asks.is i, sym n i)) (get_behind before [] call)

  one_asked : (x : ℕ × Request) → Saw h.learned x → HadAtMost most x → WasAsked after numbers x
  one_asked x saw shown =
      let met : IsPrefix (noted_in x.1.note) before = prefix_trans (noted_in x.1.note) h.learned before saw learned_begins in
      let own : most ≤ said_in h.said = said_last k most h.learned h.said h.says in
      let more : said_in h.said ≤ said_in after = said_in_prefix h.said after (ends_begins k h.said (delay h.now bytes) (Some numbers) after h.asks) in (
        record {
          by = k;
          now = h.now;
          bytes = bytes;
          is_later = record {
            later = (let l = ap length met.1 in let m = length-append (noted_in x.1.note) met.0 in let s = size_after in omega (arith, l, m, s));
            there = there;
          };
        },
        omega (arith, shown, own, more),
      )

  all_asked : (xs : List (ℕ × Request)) → AllByRecursion (Saw h.learned) xs → AllByRecursion (HadAtMost most) xs → AllByRecursion (WasAsked after numbers) xs
  all_asked [] saw shown = tt
  all_asked (x ∷ xs) saw shown = (one_asked x saw.0 shown.0, all_asked xs saw.1 shown.1)

  -- the delay comes after all that the members had seen, and no member had been shown more than what was said up to it
  pub asked_shown : AllByRecursion (WasAsked after numbers) requests
  asked_shown = all_asked requests h.members (shown_by_all 0 requests)

-- what a client has seen also goes on where only looks follow
pub looks_sees : (k : ℕ) (seen middle after : List ControllerCall) → SeesMore k seen middle → OnlyLooks k middle after → SeesMore k seen after
looks_sees k seen middle after s o = record { begins = prefix_trans seen middle after s.begins o.begins; tokens = o.tokens ∙ s.tokens }

-- What allows the leader to go on

lets_all : (k : ℕ) (numbers : Look) (known went : List ControllerCall) (b : Bool) (asks : List CommitRequest) → LetsProceed k numbers known went b → AreAlike b asks
    → AllByRecursion (λ (a : CommitRequest). LetsProceed k numbers known went a.options.no_slowdown) asks
lets_all k numbers known went b [] lets same = tt
lets_all k numbers known went b (a ∷ asks) lets same = (subst (LetsProceed k numbers known went) (sym same.0) lets, lets_all k numbers known went b asks lets same.1)

-- what allows the leader to go on allows all of its group
pub proceeds : (k : ℕ) (numbers : Look) (known went : List ControllerCall) (group_bytes clients : ℕ) (requests : List (ℕ × Request)) (led : IsLedGroup group_bytes clients requests) → LeadsBy k requests → IsPrefix known went
    → LetsProceed k numbers known went led.first.1.options.no_slowdown → ProceedsWith (commit_requests_of requests) numbers known went
proceeds k numbers known went group_bytes clients requests led leads begins lets =
    let own : led.first.0 ≡ k = subst (LeadsBy k) led.leads leads in
    record {
      leader = commit_request_of led.first;
      rest = commit_requests_of led.rest;
      leads = ap commit_requests_of led.leads;
      begins = begins;
      each = lets_all led.first.0 numbers known went led.first.1.options.no_slowdown (commit_requests_of requests) (subst (λ (j : ℕ). LetsProceed j numbers known went led.first.1.options.no_slowdown) (sym own) lets) led.slowdown;
    }

-- Requests whose notes were taken

writes_unnoted : (requests : List (ℕ × Request)) → AllByRecursion Writes requests → AllByRecursion Writes (all_seen requests)
writes_unnoted [] all = tt
writes_unnoted (x ∷ requests) all = (all.0, writes_unnoted requests all.1)

pub led_unnoted : (group_bytes clients : ℕ) (requests : List (ℕ × Request)) → IsLedGroup group_bytes clients requests → IsLedGroup group_bytes clients (all_seen requests)
led_unnoted group_bytes clients requests led =
    let same : commit_requests_of requests ≡ commit_requests_of (all_seen requests) = sym (unseen_commits requests) in
    record {
      first = unnoted led.first;
      rest = all_seen led.rest;
      leads = ap all_seen led.leads;
      lawful = subst (AreLawful clients) same led.lawful;
      whole = subst (IsWholeGroup group_bytes) same led.whole;
      logged = λ e. subst AreLogged same (led.logged e);
      unlogged = λ e. subst AreUnlogged same (led.unlogged e);
      syncs = subst (λ cs. SyncsFor cs led.first.1.options.sync) same led.syncs;
      writes = writes_unnoted requests led.writes;
      slowdown = subst (AreAlike led.first.1.options.no_slowdown) same led.slowdown;
    }

-- the options of the first request, as it is read, are the leader's
pub first_flag : (group_bytes clients : ℕ) (requests : List (ℕ × Request)) (led : IsLedGroup group_bytes clients requests) (new : List (ℕ × Request)) (x : ℕ × Request) → new ≡ all_seen requests → x ≡ get_or new 0 x
    → led.first.1.options ≡ x.1.options
first_flag group_bytes clients requests led new x is at =
    let one : x ≡ unnoted led.first = at ∙ ap (λ (l : List (ℕ × Request)). get_or l 0 x) (is ∙ ap all_seen led.leads) in
    sym (ap (λ (y : ℕ × Request). y.1.options) one)

-- once the requests without their notes are put back, the list is all of them
pub put_back : (xs new : List (ℕ × Request)) (len : ℕ) → len ≡ length xs → new ≡ all_seen xs → take len (new ++ drop (length new) xs) ≡ all_seen xs
put_back xs new len l is =
    let n : length (all_seen xs) ≡ length xs = length-map xs unnoted in
    let none : drop (length (all_seen xs)) xs ≡ [] = drop_all (length (all_seen xs)) xs (omega (arith, n)) in
    ap (λ (ys : List (ℕ × Request)). take len (ys ++ drop (length ys) xs)) is
    ∙ (ap (λ (t : List (ℕ × Request)). take len (all_seen xs ++ t)) none ∙ (ap (take len) (append-nil (all_seen xs)) ∙ take_all len (all_seen xs) (omega (arith, n, l))))

pub as_many : (xs left : List (ℕ × Request)) → left ≡ all_seen xs → length left ≡ length xs
as_many xs left is = ap length is ∙ length-map xs unnoted

pub order_unnoted : (requests : List (ℕ × Request)) (replies : List (ℕ × Answer)) → InOrder (all_seen requests) replies → InOrder requests replies
order_unnoted [] [] h = tt
order_unnoted [] (y ∷ replies) h = absurd h
order_unnoted (x ∷ requests) [] h = absurd h
order_unnoted (x ∷ requests) (y ∷ replies) h = (h.0, order_unnoted requests replies h.1)

pub back_unnoted : (requests : List (ℕ × Request)) (replies : List (ℕ × Answer)) → AllByRecursion HandsBack (handled_with (all_seen requests) replies) → AllByRecursion HandsBack (handled_with requests replies)
back_unnoted [] replies h = tt
back_unnoted (x ∷ requests) [] h = tt
back_unnoted (x ∷ requests) (y ∷ replies) h = (h.0, back_unnoted requests replies h.1)

commits_unnoted : (requests : List (ℕ × Request)) (replies : List (ℕ × Answer)) → commits_in (handled_with (all_seen requests) replies) ≡ commits_in (handled_with requests replies)
commits_unnoted [] replies = refl
commits_unnoted (x ∷ requests) [] = refl
commits_unnoted (x ∷ requests) (y ∷ replies) = ap (λ (l : List Commit). commit_if x.1.since (commit_of (record { by = x.0; asked = x.1; reply = y.1 })) ++ l) (commits_unnoted requests replies)

reads_unnoted : (requests : List (ℕ × Request)) (replies : List (ℕ × Answer)) → reads_handled (handled_with (all_seen requests) replies) ≡ reads_handled (handled_with requests replies)
reads_unnoted [] replies = refl
reads_unnoted (x ∷ requests) [] = refl
reads_unnoted (x ∷ requests) (y ∷ replies) = ap (λ (l : List AnsweredRead). reads_of (record { by = x.0; asked = x.1; reply = y.1 }) ++ l) (reads_unnoted requests replies)

sights_unnoted : (requests : List (ℕ × Request)) (replies : List (ℕ × Answer)) → sights_in (handled_with (all_seen requests) replies) ≡ sights_in (handled_with requests replies)
sights_unnoted [] replies = refl
sights_unnoted (x ∷ requests) [] = refl
sights_unnoted (x ∷ requests) (y ∷ replies) = ap (λ (l : List LogSight). sight_if x.1.since (sight_of (record { by = x.0; asked = x.1; reply = y.1 })) ++ l) (sights_unnoted requests replies)

-- A written group

module _ {C : Type 0} (controller : Controller C) (d : Delay) (seen : List ControllerCall) (begins : IsPrefix (seen_at d) (went_at d)) (shows : IsPrefix (went_at d) seen) where
  reply_shown : (x : ℕ × Request) (y z : ℕ × Answer) → IsReplyOf d y → IsNotedAs controller seen y z → (x.1.since ≡ None → (numbers : Look) × WasAsked (seen_at d) numbers x)
      → ShowsDelay controller (record { by = x.0; asked = x.1; reply = z.1 })
  reply_shown x y z r n was =
      let calls : seen_for z.1 ≡ seen_at d = ap seen_for n.2 ∙ ap seen_at r.0 in
      let went : went_for z.1 ≡ went_at d = ap went_for n.2 ∙ ap went_at r.0 in
      record {
        noted = λ writes. notes_all controller seen y z n (subst (λ (l : List ControllerCall). IsPrefix l seen) (sym (ap went_at r.0)) shows);
        begins = λ writes. subst (λ (w : List ControllerCall × List ControllerCall). IsPrefix w.0 w.1) (λ i. (sym calls i, sym went i)) begins;
        delayed = λ writes. (let t = was writes in (t.0, subst (λ (l : List ControllerCall). IsDelayed (noted_in x.1.note) l t.0) (sym calls) t.1.0));
        said = λ writes. subst (λ (l : List ControllerCall). x.1.shown ≤ said_in l) (sym calls) (was writes).1.1;
        held_up = λ numbers e. absurd (subst IsNotHeldUp (sym (ap (λ (p : Answer). answer_in p.answer) n.2) ∙ e) r.2);
      }

  pub replies_shown : (requests : List (ℕ × Request)) (ys zs : List (ℕ × Answer)) → AllByRecursion (IsReplyOf d) ys → AllZip (IsNotedAs controller seen) ys zs
      → AllByRecursion (λ (x : ℕ × Request). x.1.since ≡ None → (numbers : Look) × WasAsked (seen_at d) numbers x) requests → AllByRecursion (ShowsDelay controller) (handled_with requests zs)
  replies_shown [] ys zs h zip was = tt
  replies_shown (x ∷ requests) ys [] h zip was = tt
  replies_shown (x ∷ requests) [] (z ∷ zs) h zip was = absurd zip
  replies_shown (x ∷ requests) (y ∷ ys) (z ∷ zs) h zip was = (reply_shown x y z h.0 zip.0 was.0, replies_shown requests ys zs h.1 zip.1 was.1)

-- the replies to reads of the log need no notes
pub reads_shown : {C : Type 0} (controller : Controller C) (d : Delay) (requests : List (ℕ × Request)) (replies : List (ℕ × Answer)) → AllByRecursion (IsReplyOf d) replies
    → AllByRecursion (λ (x : ℕ × Request). (n : ℕ) × (x.1.since ≡ Some n)) requests → AllByRecursion (ShowsDelay controller) (handled_with requests replies)
reads_shown controller d [] replies h reads = tt
reads_shown controller d (x ∷ requests) [] h reads = tt
reads_shown controller d (x ∷ requests) (y ∷ replies) h reads = (
  record {
    noted = λ writes. absurd (none_read x.1.since reads.0.0 reads.0.1 writes);
    begins = λ writes. absurd (none_read x.1.since reads.0.0 reads.0.1 writes);
    delayed = λ writes. absurd (none_read x.1.since reads.0.0 reads.0.1 writes);
    said = λ writes. absurd (none_read x.1.since reads.0.0 reads.0.1 writes);
    held_up = λ numbers e. absurd (subst IsNotHeldUp e h.0.2);
  },
  reads_shown controller d requests replies h.1 reads.1,
)
  where
    none_read : (since : Option ℕ) (n : ℕ) → since ≡ Some n → since ≡ None → ⊥
    none_read since n some none = let e : ◌≡◌ {A = Option ℕ} (Some n) None = sym some ∙ none in cc (e)

pub replies_at : (d : Delay) (known : List ControllerCall) → seen_at d ≡ known → (replies : List (ℕ × Answer)) → AllByRecursion (IsReplyOf d) replies → AllByRecursion (IsReplyAt known) replies
replies_at d known is [] h = tt
replies_at d known is (y ∷ replies) h = (ap seen_at h.0.0 ∙ is, replies_at d known is replies h.1)

-- what the leader asked for is what each write of its group was asked for
pub delayed_all : (known : List ControllerCall) (numbers : Look) (requests : List (ℕ × Request)) → AllByRecursion (WasAsked known numbers) requests
    → AllByRecursion (λ (x : ℕ × Request). x.1.since ≡ None → (n : Look) × WasAsked known n x) requests
delayed_all known numbers [] was = tt
delayed_all known numbers (x ∷ requests) was = ((λ writes. (numbers, was.0)), delayed_all known numbers requests was.1)

-- A refused group

module _ (d : Delay) (numbers : Look) where
  pub held_order : (requests : List (ℕ × Request)) (replies : List (ℕ × Answer)) → AllZip (IsHeldUp d numbers) (all_seen requests) replies → InOrder requests replies
  held_order [] [] h = tt
  held_order [] (y ∷ replies) h = absurd h
  held_order (x ∷ requests) [] h = absurd h
  held_order (x ∷ requests) (y ∷ replies) h = (h.0.0, held_order requests replies h.1)

  pub held_back : (requests : List (ℕ × Request)) (replies : List (ℕ × Answer)) → AllZip (IsHeldUp d numbers) (all_seen requests) replies → AllByRecursion HandsBack (handled_with requests replies)
  held_back [] replies h = tt
  held_back (x ∷ requests) [] h = tt
  held_back (x ∷ requests) (y ∷ replies) h = (subst (ComesBack x.1.batch) (sym h.0.1) (refl, tt), held_back requests replies h.1)

  pub held_at : (known : List ControllerCall) → seen_at d ≡ known → (requests : List (ℕ × Request)) (replies : List (ℕ × Answer)) → AllZip (IsHeldUp d numbers) (all_seen requests) replies → AllByRecursion (IsReplyAt known) replies
  held_at known is [] [] h = tt
  held_at known is [] (y ∷ replies) h = absurd h
  held_at known is (x ∷ requests) [] h = tt
  held_at known is (x ∷ requests) (y ∷ replies) h = (ap seen_at h.0.2 ∙ is, held_at known is requests replies h.1)

  one_commit : (x : ℕ × Request) (y : ℕ × Answer) (known : List ControllerCall) → heard_at d ≡ up_to_delay known → IsHeldUp d numbers (unnoted x) y
      → commit_of (record { by = x.0; asked = x.1; reply = y.1 }) ≡ record { client = x.0; records = x.1.batch.records; options = x.1.options; answer = held_up numbers; heard = up_to_delay known }
  one_commit x y known is h =
      let answer : answer_in y.1.answer ≡ held_up numbers = ap answer_in h.1 in
      let heard : heard_at y.1.delay.value ≡ up_to_delay known = ap heard_at h.2 ∙ is in
      (λ i. record { client = x.0; records = x.1.batch.records; options = x.1.options; answer = answer i; heard = heard i })

  pub held_commits : (known : List ControllerCall) → heard_at d ≡ up_to_delay known → (requests : List (ℕ × Request)) (replies : List (ℕ × Answer)) → AllByRecursion Writes requests → AllZip (IsHeldUp d numbers) (all_seen requests) replies
      → commits_in (handled_with requests replies) ≡ all_held_up known numbers (commit_requests_of requests)
  held_commits known is [] replies w h = refl
  held_commits known is (x ∷ requests) [] w h = absurd h
  held_commits known is (x ∷ requests) (y ∷ replies) w h =
      one_commit_in (record { by = x.0; asked = x.1; reply = y.1 }) (handled_with requests replies) w.0
      ∙ (λ i. one_commit x y known is h.0 i ∷ held_commits known is requests replies w.1 h.1 i)

  pub held_sights : (requests : List (ℕ × Request)) (replies : List (ℕ × Answer)) → AllByRecursion Writes requests → AllZip (IsHeldUp d numbers) (all_seen requests) replies
      → sights_in (handled_with requests replies) ≡ sights_without d.made (commit_requests_of requests)
  held_sights [] replies w h = refl
  held_sights (x ∷ requests) [] w h = absurd h
  held_sights (x ∷ requests) (y ∷ replies) w h =
      let answer : answer_in y.1.answer ≡ held_up numbers = ap answer_in h.0.1 in
      let one : sight_of (record { by = x.0; asked = x.1; reply = y.1 }) ≡ record { client = x.0; made = d.made; batch = None } =
      (λ i. record {
        client = x.0;
        made = (h.0.2 i).made;
        batch = written_if x.1.options.no_log (has_run (answer i)) (record { first = first_of (answer i); records = x.1.batch.records; sync = x.1.options.sync });
      }) ∙ (λ i. record { client = x.0; made = d.made; batch = none_if x.1.options.no_log (record { first = 0; records = x.1.batch.records; sync = x.1.options.sync }) i }) in
      one_sight_in (record { by = x.0; asked = x.1; reply = y.1 }) (handled_with requests replies) w.0
      ∙ (λ i. one i ∷ held_sights requests replies w.1 h.1 i)

-- once the replies have their notes
module _ {C : Type 0} (controller : Controller C) (d : Delay) (numbers : Look) (seen : List ControllerCall) (begins : IsPrefix (seen_at d) (went_at d)) (shows : IsPrefix (went_at d) seen) (hold : HoldUp numbers) where
  one_shown : (x : ℕ × Request) (y z : ℕ × Answer) → IsHeldUp d numbers (unnoted x) y → IsNotedAs controller seen y z → x.1.options.no_slowdown ≡ true → WasAsked (seen_at d) numbers x
      → ShowsDelay controller (record { by = x.0; asked = x.1; reply = z.1 })
  one_shown x y z h n may_not asked =
      let was : seen_for y.1 ≡ seen_at d = ap seen_at h.2 in
      let calls : seen_for z.1 ≡ seen_at d = ap seen_for n.2 ∙ was in
      let went : went_for z.1 ≡ went_at d = ap went_for n.2 ∙ ap went_at h.2 in
      let told : answer_in z.1.answer ≡ held_up numbers = ap (λ (p : Answer). answer_in p.answer) n.2 ∙ ap answer_in h.1 in
      let late : IsDelayed (noted_in x.1.note) (seen_for z.1) numbers = subst (λ (l : List ControllerCall). IsDelayed (noted_in x.1.note) l numbers) (sym calls) asked.0 in
      record {
        noted = λ writes. notes_all controller seen y z n (subst (λ (l : List ControllerCall). IsPrefix l seen) (sym (ap went_at h.2)) shows);
        begins = λ writes. subst (λ (w : List ControllerCall × List ControllerCall). IsPrefix w.0 w.1) (λ i. (sym calls i, sym went i)) begins;
        delayed = λ writes. (numbers, late);
        said = λ writes. subst (λ (l : List ControllerCall). x.1.shown ≤ said_in l) (sym calls) asked.1;
        held_up = λ other e.
            let same : numbers ≡ other = told_same numbers other (sym told ∙ e) in
            (may_not, subst HoldUp same hold, subst (IsDelayed (noted_in x.1.note) (seen_for z.1)) same late);
      }
    where
      told_same : (a b : Look) → held_up a ≡ held_up b → a ≡ b
      told_same a b e = cc

  pub held_shown : (requests : List (ℕ × Request)) (ys zs : List (ℕ × Answer))
      → AllZip (IsHeldUp d numbers) (all_seen requests) ys → AllZip (IsNotedAs controller seen) ys zs → MayNotWait (commit_requests_of requests) → AllByRecursion (WasAsked (seen_at d) numbers) requests
      → AllByRecursion (ShowsDelay controller) (handled_with requests zs)
  held_shown [] ys zs h zip may asked = tt
  held_shown (x ∷ requests) [] zs h zip may asked = absurd h
  held_shown (x ∷ requests) (y ∷ ys) [] h zip may asked = absurd zip
  held_shown (x ∷ requests) (y ∷ ys) (z ∷ zs) h zip may asked = (one_shown x y z h.0 zip.0 may.0 asked.0, held_shown requests ys zs h.1 zip.1 may.1 asked.1)

-- The law of log and table

module _ {D : Type 0} {ghosts : Ghosts D} {T U : Type 0} (our_turn : T → U → Type 0) (history : U → List (List MemberVersions)) (opened : OpenLog D ghosts) (log : OpenLog D ghosts) (places : List LogPlace) (turn : U) (last made : ℕ) where
  -- the law holds for equal numbers under other names
  pub stands_by : (table table' : T) (start start' clients clients' group_bytes group_bytes' : ℕ) (asked asked' : List ControllerCall) (hs : List (Handling Request Answer))
      → table ≡ table' → start ≡ start' → clients ≡ clients' → group_bytes ≡ group_bytes' → asked ≡ asked'
      → Covers our_turn history table opened start clients group_bytes asked log places turn last made hs → Covers our_turn history table' opened start' clients' group_bytes' asked' log places turn last made hs
  stands_by table table' start start' clients clients' group_bytes group_bytes' asked asked' hs a b c d e s =
      subst (λ (z : T × ℕ × ℕ × ℕ × List ControllerCall). Covers our_turn history z.0 opened z.1 z.2 z.3 z.4 log places turn last made hs) (λ i. (a i, b i, c i, d i, e i)) s

  -- the law holds for the requests as they were, with their notes
  pub stands_noted : (table : T) (start clients group_bytes : ℕ) (asked : List ControllerCall) (hs : List (Handling Request Answer)) (requests : List (ℕ × Request)) (replies : List (ℕ × Answer))
      → Covers our_turn history table opened start clients group_bytes asked log places turn last made (hs ++ handled_with (all_seen requests) replies)
      → Covers our_turn history table opened start clients group_bytes asked log places turn last made (hs ++ handled_with requests replies)
  stands_noted table start clients group_bytes asked hs requests replies s =
      let same : commits_in (hs ++ handled_with (all_seen requests) replies) ≡ commits_in (hs ++ handled_with requests replies) =
      commits_append hs (handled_with (all_seen requests) replies) ∙ (ap (λ (l : List Commit). commits_in hs ++ l) (commits_unnoted requests replies) ∙ sym (commits_append hs (handled_with requests replies))) in
      let as_read : reads_handled (hs ++ handled_with (all_seen requests) replies) ≡ reads_handled (hs ++ handled_with requests replies) =
      reads_append hs (handled_with (all_seen requests) replies) ∙ (ap (λ (l : List AnsweredRead). reads_handled hs ++ l) (reads_unnoted requests replies) ∙ sym (reads_append hs (handled_with requests replies))) in
      let same_sights : sights_in (hs ++ handled_with (all_seen requests) replies) ≡ sights_in (hs ++ handled_with requests replies) =
      sights_append hs (handled_with (all_seen requests) replies) ∙ (ap (λ (l : List LogSight). sights_in hs ++ l) (sights_unnoted requests replies) ∙ sym (sights_append hs (handled_with requests replies))) in
      let were : ReadsStand opened start clients s.calls log last (reads_handled (hs ++ handled_with (all_seen requests) replies)) = record { right = s.right; readers = s.readers; counted = s.counted } in
      let reads = subst (ReadsStand opened start clients s.calls log last) as_read were in
      record {
        our = s.our;
        calls = s.calls;
        wrote = s.wrote;
        consistent = subst (λ (cs : List Commit). AreConsistent start clients group_bytes asked cs last (fault_of log) (history turn) s.calls) same s.consistent;
        made_is = s.made_is;
        shown = subst (ShowTheLog (worked_in s.calls)) same_sights s.shown;
        right = reads.right;
        readers = reads.readers;
        counted = reads.counted;
        begins = s.begins;
      }

  -- the law holds after the group is refused
  pub stands_held_up : (d : Delay) (numbers : Look) (table : T) (start clients group_bytes : ℕ) (asked known : List ControllerCall) (hs : List (Handling Request Answer)) (requests : List (ℕ × Request)) (replies : List (ℕ × Answer))
      → AllZip (IsHeldUp d numbers) (all_seen requests) replies → heard_at d ≡ up_to_delay known → d.made ≡ made → IsLedGroup group_bytes clients requests → IsAskedFor (commit_requests_of requests) numbers known → ComesAfter asked known → HoldUp numbers
      → MayNotWait (commit_requests_of requests) → Covers our_turn history table opened start clients group_bytes asked log places turn last made hs
      → Covers our_turn history table opened start clients group_bytes known log places turn last made (hs ++ handled_with requests replies)
  stands_held_up d numbers table start clients group_bytes asked known hs requests replies zip is counts led is_asked comes hold may s =
      let same : commits_in hs ++ all_held_up known numbers (commit_requests_of requests) ≡ commits_in (hs ++ handled_with requests replies) =
      ap (λ (l : List Commit). commits_in hs ++ l) (sym (held_commits d numbers known is requests replies led.writes zip)) ∙ sym (commits_append hs (handled_with requests replies)) in
      let none : d.made ≡ length (worked_in s.calls) = counts ∙ s.made_is in
      let shows : sights_in hs ++ sights_without (length (worked_in s.calls)) (commit_requests_of requests) ≡ sights_in (hs ++ handled_with requests replies) =
      ap (λ (l : List LogSight). sights_in hs ++ l) (sym (held_sights d numbers requests replies led.writes zip ∙ ap (λ (m : ℕ). sights_without m (commit_requests_of requests)) none)) ∙ sym (sights_append hs (handled_with requests replies)) in
      let reads = with_writes opened start clients s.calls log last hs requests replies led.writes (record { right = s.right; readers = s.readers; counted = s.counted }) in
      record {
        our = s.our;
        calls = s.calls;
        wrote = s.wrote;
        consistent = subst (λ (cs : List Commit). AreConsistent start clients group_bytes known cs last (fault_of log) (history turn) s.calls) same
            (consistent_held_up start clients group_bytes (commits_in hs) last (history turn) s.calls (commit_requests_of requests) asked known numbers led.lawful led.whole is_asked comes (fault_of log) s.consistent hold may);
        made_is = s.made_is;
        shown = subst (ShowTheLog (worked_in s.calls)) shows (shown_without s.calls (sights_in hs) (commit_requests_of requests) led.whole.of_others s.shown);
        right = reads.right;
        readers = reads.readers;
        counted = reads.counted;
        begins = s.begins;
      }
