use Rattle.std.proofs.Common.{◌≡◌, ◌≤◌, ◌<◌, ◌-◌, ℕ, Bool, false, true≢false, IfSome, List, [], ◌∷◌, ◌++◌, length, refl, sym, ap, ◌∙◌, subst, take, drop, vec_capacity, arith}
use Rattle.std.specs.List.{AllByRecursion, AllZip}
use Rattle.std.specs.declared.snapshot.Snapshot.{Snapshot}
use mathlib.Core.List.{IsPrefix}
use Rattle.base_devices.specs.Clocks.{HasPaused}
use Rattle.engine_controller.specs.declared.pass.Pass.{Pass}
use Rattle.model_base.specs.Controller.{ControllerCall, Look}
use Rattle.model_base.specs.History.{max_sequence}
use Rattle.line_rule.specs.declared.words.TheConstants.{STALL}
use Rattle.line_writers.specs.Seats.{bound_of, about_of, clients_of}
use Rattle.engine_controller.specs.Delays.{delays_of}
use Rattle.engine_controller.specs.Looks.{look_of}
use Rattle.engine_controller.specs.Passes.{client_of, seen_by, seen_by_note, IsNoteOf}
use Rattle.table_rule.specs.declared.content.MemberVersions.{MemberVersions}
use Rattle.engine_rule.specs.Entries.{SeesMore}
use Rattle.engine_rule.specs.Plans.{CommitRequest, ComesAfter, up_to_delay, IsAskedFor, LetsProceed, MayNotWait, ProceedsWith}
use Rattle.engine_parts.specs.declared.requests.Delay.{Delay}
use Rattle.engine_parts.specs.declared.requests.Request.{Request}
use Rattle.engine_parts.specs.declared.requests.Answer.{Answer}
use Rattle.engine_parts.specs.Asking.{HasAskedFor, OnlyLooks, all_seen}
use Rattle.engine_parts.specs.Handled.{EndsInDelay, HandsBack, InOrder, IsHeldUp, IsNoted, IsNotedAs, commit_requests_of, handled_with, seen_at, went_at, heard_at}
use Rattle.engine_parts.specs.LogLaw.{LogCovers, Past}
use Rattle.engine_parts.specs.Led.{AreAlike, GoesOnWith, IsLedGroup, LeadsBy}
use Rattle.engine_parts.specs.Numbering.{AreHelpers, others_in}
use Rattle.engine_parts.specs.Staged.{IsStaged, published_with}
use Rattle.engine_parts.specs.declared.logging.LogPath.{LogPath}
use Rattle.engine_groups.specs.declared.leader.Held.{Held}
use Rattle.engine_groups.proofs.Members.{beside_where, others_unnoted}
use Rattle.engine_parts.proofs.Serves.{as_many, asked_after, asked_delays, asked_ends, asked_is, asked_sees, asked_shown, back_unnoted, delayed_all, first_flag, held_at, held_back, held_order, held_shown, led_unnoted, looks_sees, order_unnoted, proceeds, put_back, replies_at, replies_shown, stands_by, stands_held_up, stands_noted}
use Rattle.engine_parts.proofs.Noting.{noted_at, noted_back, noted_order, noted_runs, noted_staged, noted_stands, put_noted}
use Rattle.engine_parts.proofs.Staging.{laid, no_runs_held}
use Rattle.engine_parts.proofs.Standing.{last_low}
use Rattle.engine_groups.proofs.Turning.{is_none_by}
use Rattle.engine_parts.proofs.Views.{WasAsked, prefix_same, unseen_commits}
use Rattle.engine_groups.proofs.engine.GroupEngine.serve.Goals as goal

-- takes the place of a table's `our_turn`, where only the log matters
abbrev our_log : Unit {0} → List (List MemberVersions) → Type 0
our_log t u = Unit {0}

abbrev as_is : List (List MemberVersions) → List (List MemberVersions)
as_is u = u

-- Numbers, and who leads. A tactic reads all that is known where it is called, so these are apart from the goals that
-- use them.

few_enough : (k m n : ℕ) → k ≡ m → m ≤ n → n < STALL → k < 255
few_enough k m n is low few = omega arith

low_enough : (k m n room : ℕ) → k ≡ m → m ≤ n → n ≤ room → k ≤ room
low_enough k m n room is low fits = omega arith

some_there : {A : Type 0} (xs rest : List A) (x : A) (len : ℕ) → len ≡ length xs → xs ≡ x ∷ rest → 0 < len
some_there xs rest x len l is = let more = ap length is in omega (arith, l, more)

leads_unnoted : (k : ℕ) (xs : List (ℕ × Request)) → LeadsBy k xs → LeadsBy k (all_seen xs)
leads_unnoted k [] h = h
leads_unnoted k (x ∷ xs) h = h

pub ask-look-requires-clause-pass : goal.ask-look-requires-clause-pass
ask-look-requires-clause-pass g c = c.requires.served.seats.pass

pub ask-look-requires-clause-notes : goal.ask-look-requires-clause-notes
ask-look-requires-clause-notes g c =
    let S = c.requires.served in let e = c.args.self.now in (
      subst (λ ctl. IsNoteOf ctl c.args.leadership.asked) S.seats.is_engine.controller c.requires.leadership.1.note,
      subst (AllByRecursion (λ (x : ℕ × Request). IsNoted e.controller x.1)) (sym c.deref_mut-2.ensures.value) S.notes,
    )

pub ask-look-requires-clause-few : goal.ask-look-requires-clause-few
ask-look-requires-clause-few g c =
    let S = c.requires.served in
    few_enough (length c.deref_mut-2.result.now) (length c.args.client.now.lists.requests.list.items) (clients_of c.args.self.now.list) (ap length c.deref_mut-2.ensures.value) S.few S.seats.is_engine.few

pub index-requires : goal.index-requires
index-requires g c =
    let L = c.args.client.now.lists.requests.list in let led = c.requires.served.led in
    some_there L.items led.rest led.first L.len L.ok.0 led.leads

pub may_go_on-proceeds-requires-clause-engine : goal.may_go_on-proceeds-requires-clause-engine
may_go_on-proceeds-requires-clause-engine g c = c.requires.served.seats.is_engine.controller

pub may_go_on-proceeds-requires-clause-pass : goal.may_go_on-proceeds-requires-clause-pass
may_go_on-proceeds-requires-clause-pass g c =
    let A = c.ask-look.ensures in let n : Look = look_of c.ask-look.result in let known : List ControllerCall = seen_by c.ask-look.new.pass in let h = A.asked in
    (A.pass.0, subst (λ (k : ℕ). EndsInDelay k n known) (sym A.pass.1) (asked_ends _ _ _ _ _ _ h))

pub may_go_on-proceeds-requires-clause-leads : goal.may_go_on-proceeds-requires-clause-leads
may_go_on-proceeds-requires-clause-leads g c =
    let S = c.requires.served in let e = c.args.self.now in let v = c.args.client.now in
    let xs : List (ℕ × Request) = v.lists.requests.list.items in
    let L = v.lists.requests.list in let new : List (ℕ × Request) = c.ask-look.new.requests in
    let left : List (ℕ × Request) = take L.len (new ++ drop (length new) L.items) in
    let left_is : left ≡ all_seen xs = put_back xs new L.len L.ok.0 (c.ask-look.ensures.requests ∙ ap all_seen c.deref_mut-2.ensures.value) in
    let flag = ap (λ o. o.no_slowdown) (first_flag (bound_of e.list) (clients_of e.list) xs S.led left c.index.result.now left_is c.index.ensures ∙ ap (λ (r : Request). r.options) (sym c.as_request.ensures)) in
    ((S.belongs, (S.own, S.group, S.left, S.seen, S.leads_group, as_many xs left left_is ∙ ap length S.asks_are, S.alike ∙ flag)), S.walk_room)

pub note-requires : goal.note-requires
note-requires g c = record { own = c.may_go_on-proceeds.ensures.pass.0 }

pub note_all-requires : goal.note_all-requires
note_all-requires g c = record { pass = c.note.ensures.own.0 }

pub note_all-requires-2 : goal.note_all-requires-2
note_all-requires-2 g c = record { pass = c.note.ensures.own.0 }

pub refuse_held_up-requires-clause-empty : goal.refuse_held_up-requires-clause-empty
refuse_held_up-requires-clause-empty g c = c.requires.served.no_replies

pub returns-then-not-proceeds-clause-turn : goal.returns-then-not-proceeds-clause-turn
returns-then-not-proceeds-clause-turn g c = refl

pub log_phase-end-requires-clause-few : goal.log_phase-end-requires-clause-few
log_phase-end-requires-clause-few g c =
    let S = c.requires.served in let v = c.args.client.now in
    let xs : List (ℕ × Request) = v.lists.requests.list.items in
    let L = v.lists.requests.list in let new : List (ℕ × Request) = c.ask-look.new.requests in
    let left : List (ℕ × Request) = take L.len (new ++ drop (length new) L.items) in
    let left_is : left ≡ all_seen xs = put_back xs new L.len L.ok.0 (c.ask-look.ensures.requests ∙ ap all_seen c.deref_mut-2.ensures.value) in
    few_enough (length left) (length xs) (clients_of c.args.self.now.list) (as_many xs left left_is) S.few S.seats.is_engine.few

pub log_phase-end-requires-clause-leads : goal.log_phase-end-requires-clause-leads
log_phase-end-requires-clause-leads g c =
    let v = c.args.client.now in
    let xs : List (ℕ × Request) = v.lists.requests.list.items in
    let L = v.lists.requests.list in let new : List (ℕ × Request) = c.ask-look.new.requests in
    let left : List (ℕ × Request) = take L.len (new ++ drop (length new) L.items) in
    let left_is : left ≡ all_seen xs = put_back xs new L.len L.ok.0 (c.ask-look.ensures.requests ∙ ap all_seen c.deref_mut-2.ensures.value) in
    subst (LeadsBy v.number) (sym left_is) (leads_unnoted v.number xs c.requires.served.leads)

pub log_phase-end-requires-clause-layout : goal.log_phase-end-requires-clause-layout
log_phase-end-requires-clause-layout g c =
    let S = c.requires.served in let v = c.args.client.now in let n : ℕ = clients_of c.args.self.now.list in
    let xs : List (ℕ × Request) = v.lists.requests.list.items in
    let L = v.lists.requests.list in let new : List (ℕ × Request) = c.ask-look.new.requests in
    let left : List (ℕ × Request) = take L.len (new ++ drop (length new) L.items) in
    let left_is : left ≡ all_seen xs = put_back xs new L.len L.ok.0 (c.ask-look.ensures.requests ∙ ap all_seen c.deref_mut-2.ensures.value) in
    let many = as_many xs left left_is in let Y = S.layout in (
      (Y.clear.0, Y.clear.1, Y.clear.2, refl),
      low_enough (length left) (length xs) n (vec_capacity v.layout.numberings) many S.few Y.numberings,
      low_enough (length left) (length xs) n (vec_capacity v.layout.batches) many S.few Y.batches,
      low_enough (length left) (length xs) n (vec_capacity v.layout.members) many S.few Y.members,
    )

pub log_phase-end-requires-clause-replies : goal.log_phase-end-requires-clause-replies
log_phase-end-requires-clause-replies g c =
    let S = c.requires.served in let v = c.args.client.now in
    let xs : List (ℕ × Request) = v.lists.requests.list.items in
    let L = v.lists.requests.list in let new : List (ℕ × Request) = c.ask-look.new.requests in
    let left : List (ℕ × Request) = take L.len (new ++ drop (length new) L.items) in
    let left_is : left ≡ all_seen xs = put_back xs new L.len L.ok.0 (c.ask-look.ensures.requests ∙ ap all_seen c.deref_mut-2.ensures.value) in
    (S.no_replies, subst (λ (n : ℕ). n ≤ vec_capacity v.lists.replies.list) (sym (as_many xs left left_is)) S.room)

pub returns-clause-turn : goal.returns-clause-turn
returns-clause-turn g c = refl

pub returns-clause-staged : goal.returns-clause-staged
returns-clause-staged g c =
    let e = c.args.self.now in let v = c.args.client.now in let H = c.log_phase-end in
    let went : List ControllerCall = seen_by c.note.new.pass in let ys : List (ℕ × Answer) = c.log_phase-end.new.replies.items in let room = c.log_phase-end.new.replies in
    let noted : AllZip (IsNotedAs e.controller went) ys c.note_all-2.new.replies = subst (λ l. AllZip (IsNotedAs e.controller went) l c.note_all-2.new.replies) c.deref_mut-4.ensures.value c.note_all-2.ensures.replies in
    let zs : List (ℕ × Answer) = take room.len (c.note_all-2.new.replies ++ drop (length c.note_all-2.new.replies) ys) in
    let with_notes : AllZip (IsNotedAs e.controller went) ys zs = subst (AllZip (IsNotedAs e.controller went) ys) (sym (put_noted e.controller went ys c.note_all-2.new.replies room.len room.ok.0 noted)) noted in
    let path_is = ap (λ (h : Held _ _ _). h.path) c.deref_mut-3.ensures.value ∙ ap (λ (h : Held _ _ _). h.path) c.deref_mut.ensures.value in
    subst (λ (z : ℕ × ℕ). IsStaged v.number z.0 z.1 H.new.path.last H.result H.new.layout.members.items H.new.layout.parts.parts zs)
    (λ i. (c.requires.served.layout.clear.3 i, (path_is i).last)) (noted_staged e.controller went v.number _ _ H.new.path.last H.result H.new.layout.members.items H.new.layout.parts.parts ys zs with_notes H.ensures.staged)

pub returns-then-not-proceeds-clause-served : goal.returns-then-not-proceeds-clause-served
returns-then-not-proceeds-clause-served g c =
    let S = c.requires.served in let q = S.seats in let e = c.args.self.now in let v = c.args.client.now in
    let xs : List (ℕ × Request) = v.lists.requests.list.items in let k : ℕ = v.number in let was : List ControllerCall = seen_by v.pass in
    let asked : List ControllerCall = seen_by_note c.args.leadership.asked in
    let A = c.ask-look.ensures in let N = c.note.ensures in let R = c.refuse_held_up.ensures in let no = c.may_go_on-proceeds.ensures.refused c.if-not-proceeds.true in
    let n : Look = look_of c.ask-look.result in let known : List ControllerCall = seen_by c.ask-look.new.pass in
    let L = v.lists.requests.list in let new : List (ℕ × Request) = c.ask-look.new.requests in let same = c.deref_mut-2.ensures.value in
    let h : HasAskedFor k was asked xs n known = subst (λ (z : ℕ × List (ℕ × Request)). HasAskedFor z.0 was asked z.1 n known) (λ i. (q.pass_number i, same i)) A.asked in
    let left : List (ℕ × Request) = take L.len (new ++ drop (length new) L.items) in
    let left_is : left ≡ all_seen xs = put_back xs new L.len L.ok.0 (A.requests ∙ ap all_seen same) in
    let d : Delay = record { pass = c.of.result; went = c.of-2.result; made = c.deref.result.now.path.made } in
    let is : seen_at d ≡ known = ap seen_by c.of.ensures in
    let went_is : went_at d ≡ known = ap seen_by c.of-2.ensures in
    let ys : List (ℕ × Answer) = c.refuse_held_up.new.replies.items in
    let zip : AllZip (IsHeldUp d n) (all_seen xs) ys = subst (λ l. AllZip (IsHeldUp d n) l ys) left_is R.replies in
    let may : MayNotWait (commit_requests_of xs) = subst (λ (b : Bool). AreAlike b (commit_requests_of xs)) (ap (λ o. o.no_slowdown) (first_flag (bound_of e.list) (clients_of e.list) xs S.led left c.index.result.now left_is c.index.ensures ∙ ap (λ (r : Request). r.options) (sym c.as_request.ensures)) ∙ no.0) S.led.slowdown in
    let still : seen_by c.note.new.pass ≡ known = N.seen ∙ no.2 in
    let went : List ControllerCall = seen_by c.note.new.pass in let room = c.refuse_held_up.new.replies in
    let noted : AllZip (IsNotedAs e.controller went) ys c.note_all.new.replies = subst (λ l. AllZip (IsNotedAs e.controller went) l c.note_all.new.replies) c.deref_mut-then-not-proceeds.ensures.value c.note_all.ensures.replies in
    let zs : List (ℕ × Answer) = take room.len (c.note_all.new.replies ++ drop (length c.note_all.new.replies) ys) in
    let with_notes : AllZip (IsNotedAs e.controller went) ys zs = subst (AllZip (IsNotedAs e.controller went) ys) (sym (put_noted e.controller went ys c.note_all.new.replies room.len room.ok.0 noted)) noted in
    let same_now : seen_by c.note_all.new.pass ≡ known = c.note_all.ensures.pass.2 ∙ still in
    let begins : IsPrefix (seen_at d) (went_at d) = subst (IsPrefix (seen_at d)) (is ∙ sym went_is) (prefix_same (seen_at d)) in
    let shows : IsPrefix (went_at d) went = subst (IsPrefix (went_at d)) (went_is ∙ sym still) (prefix_same (went_at d)) in
    let late : AllByRecursion (WasAsked (seen_at d) n) xs = subst (λ (l : List ControllerCall). AllByRecursion (WasAsked l n) xs) (sym is) (asked_shown k was asked known xs n h) in
    record {
      seats = record {
        is_engine = q.is_engine;
        seat = q.seat;
        ready = q.ready;
        seat_number = q.seat_number;
        pass = c.note_all.ensures.pass.0;
        pass_number = c.note_all.ensures.pass.1 ∙ (N.own.1 ∙ (c.may_go_on-proceeds.ensures.pass.1 ∙ (A.pass.1 ∙ q.pass_number)));
        number = q.number;
      };
      layout = laid (clients_of e.list) v.layout S.layout;
      seat = refl;
      number = refl;
      start = refl;
      table = refl;
      writer = c.may_go_on-proceeds.ensures.leads.0;
      walk_room = c.may_go_on-proceeds.ensures.leads.1;
      in_order = noted_order e.controller went xs ys zs with_notes (held_order d n xs ys zip);
      handed_back = noted_back e.controller went xs ys zs with_notes (held_back d n xs ys zip);
      shown = held_shown e.controller d n went begins shows no.1 xs ys zs zip with_notes may late;
      taken = R.taken;
      requests_room = R.room.0;
      replies_room = R.room.1;
      sees_more = subst (SeesMore k was) (sym same_now) (asked_sees k was asked known xs n h);
      known = known;
      delays = subst (λ (l : List ControllerCall). delays_of k l ≡ delays_of k was ++ (length known - 1) ∷ []) (sym same_now) (asked_delays k was asked known xs n h);
      of_delay = noted_at e.controller went known ys zs with_notes (held_at d n known is xs ys zip);
    }

pub returns-then-not-proceeds-clause-leadership : goal.returns-then-not-proceeds-clause-leadership
returns-then-not-proceeds-clause-leadership g c hs st =
    let S = c.requires.served in let q = S.seats in let e = c.args.self.now in let v = c.args.client.now in let about = about_of e.list in let path = c.args.leadership.held.value.path in
    let xs : List (ℕ × Request) = v.lists.requests.list.items in let k : ℕ = v.number in let was : List ControllerCall = seen_by v.pass in
    let asked : List ControllerCall = seen_by_note c.args.leadership.asked in
    let A = c.ask-look.ensures in let N = c.note.ensures in let R = c.refuse_held_up.ensures in let no = c.may_go_on-proceeds.ensures.refused c.if-not-proceeds.true in
    let n : Look = look_of c.ask-look.result in let known : List ControllerCall = seen_by c.ask-look.new.pass in
    let L = v.lists.requests.list in let new : List (ℕ × Request) = c.ask-look.new.requests in let same = c.deref_mut-2.ensures.value in
    let h : HasAskedFor k was asked xs n known = subst (λ (z : ℕ × List (ℕ × Request)). HasAskedFor z.0 was asked z.1 n known) (λ i. (q.pass_number i, same i)) A.asked in
    let left : List (ℕ × Request) = take L.len (new ++ drop (length new) L.items) in
    let left_is : left ≡ all_seen xs = put_back xs new L.len L.ok.0 (A.requests ∙ ap all_seen same) in
    let d : Delay = record { pass = c.of.result; went = c.of-2.result; made = c.deref.result.now.path.made } in
    let is : seen_at d ≡ known = ap seen_by c.of.ensures in
    let went_is : went_at d ≡ known = ap seen_by c.of-2.ensures in
    let heard_is : heard_at d ≡ up_to_delay known = λ i. record { known = is i; went = went_is i } in
    let ys : List (ℕ × Answer) = c.refuse_held_up.new.replies.items in
    let zip : AllZip (IsHeldUp d n) (all_seen xs) ys = subst (λ l. AllZip (IsHeldUp d n) l ys) left_is R.replies in
    let may : MayNotWait (commit_requests_of xs) = subst (λ (b : Bool). AreAlike b (commit_requests_of xs)) (ap (λ o. o.no_slowdown) (first_flag (bound_of e.list) (clients_of e.list) xs S.led left c.index.result.now left_is c.index.ensures ∙ ap (λ (r : Request). r.options) (sym c.as_request.ensures)) ∙ no.0) S.led.slowdown in
    let still : seen_by c.note.new.pass ≡ known = N.seen ∙ no.2 in
    let went : List ControllerCall = seen_by c.note.new.pass in let room = c.refuse_held_up.new.replies in
    let noted : AllZip (IsNotedAs e.controller went) ys c.note_all.new.replies = subst (λ l. AllZip (IsNotedAs e.controller went) l c.note_all.new.replies) c.deref_mut-then-not-proceeds.ensures.value c.note_all.ensures.replies in
    let zs : List (ℕ × Answer) = take room.len (c.note_all.new.replies ++ drop (length c.note_all.new.replies) ys) in
    let with_notes : AllZip (IsNotedAs e.controller went) ys zs = subst (AllZip (IsNotedAs e.controller went) ys) (sym (put_noted e.controller went ys c.note_all.new.replies room.len room.ok.0 noted)) noted in
    let led : IsLedGroup about.group_bytes about.clients xs = subst (λ (z : ℕ × ℕ). IsLedGroup z.0 z.1 xs) (λ i. (sym q.is_engine.group_bytes i, sym q.is_engine.about_clients i)) S.led in
    record {
      turn = st.turn;
      note = subst (λ ctl. IsNoteOf ctl c.note.result) (sym q.is_engine.controller) N.note.0;
      path = subst (λ (h : Held _ _ _). LogCovers about.opened.value about.start about.clients about.group_bytes (seen_by_note c.note.result) h.path.log h.path.places st.published h.path.last h.path.made (hs ++ handled_with xs zs)) (sym c.deref_mut.ensures.value)
          (stands_by our_log as_is about.opened.value path.log path.places st.published path.last path.made tt tt about.start about.start about.clients about.clients about.group_bytes about.group_bytes known (seen_by_note c.note.result) (hs ++ handled_with xs zs) refl refl refl refl (sym (N.note.1 ∙ no.2))
          (noted_stands e.controller went our_log as_is about.opened.value path.log path.places st.published path.last path.made tt about.start about.clients about.group_bytes known hs xs ys zs with_notes
          (stands_held_up our_log as_is about.opened.value path.log path.places st.published path.last path.made d n tt about.start about.clients about.group_bytes asked known hs xs ys zip heard_is (ap (λ (h : Held _ _ _). h.path.made) c.deref.ensures) led (asked_is k was asked known xs n h about.group_bytes about.clients led S.leads) (asked_after k was asked known xs n h) no.1 may st.path)));
    }

pub refuse_held_up-requires-clause-room : goal.refuse_held_up-requires-clause-room
refuse_held_up-requires-clause-room g c =
    let S = c.requires.served in let q = S.seats in let e = c.args.self.now in let v = c.args.client.now in
    let xs : List (ℕ × Request) = v.lists.requests.list.items in
    let L = v.lists.requests.list in let new : List (ℕ × Request) = c.ask-look.new.requests in
    let left : List (ℕ × Request) = take L.len (new ++ drop (length new) L.items) in
    let left_is : left ≡ all_seen xs = put_back xs new L.len L.ok.0 (c.ask-look.ensures.requests ∙ ap all_seen c.deref_mut-2.ensures.value) in
    let many = as_many xs left left_is in
    subst (λ (n : ℕ). n ≤ vec_capacity v.lists.replies.list) (sym many) S.room

pub returns-then-not-proceeds-clause-staged : goal.returns-then-not-proceeds-clause-staged
returns-then-not-proceeds-clause-staged g c =
    let S = c.requires.served in let q = S.seats in let e = c.args.self.now in let v = c.args.client.now in
    let xs : List (ℕ × Request) = v.lists.requests.list.items in
    let n : Look = look_of c.ask-look.result in let same = c.deref_mut-2.ensures.value in
    let L = v.lists.requests.list in let new : List (ℕ × Request) = c.ask-look.new.requests in
    let left : List (ℕ × Request) = take L.len (new ++ drop (length new) L.items) in
    let left_is : left ≡ all_seen xs = put_back xs new L.len L.ok.0 (c.ask-look.ensures.requests ∙ ap all_seen same) in
    let d : Delay = record { pass = c.of.result; went = c.of-2.result; made = c.deref.result.now.path.made } in
    let ys : List (ℕ × Answer) = c.refuse_held_up.new.replies.items in
    let zip : AllZip (IsHeldUp d n) (all_seen xs) ys = subst (λ l. AllZip (IsHeldUp d n) l ys) left_is c.refuse_held_up.ensures.replies in
    let went : List ControllerCall = seen_by c.note.new.pass in let room = c.refuse_held_up.new.replies in
    let noted : AllZip (IsNotedAs e.controller went) ys c.note_all.new.replies = subst (λ l. AllZip (IsNotedAs e.controller went) l c.note_all.new.replies) c.deref_mut-then-not-proceeds.ensures.value c.note_all.ensures.replies in
    let zs : List (ℕ × Answer) = take room.len (c.note_all.new.replies ++ drop (length c.note_all.new.replies) ys) in
    let with_notes : AllZip (IsNotedAs e.controller went) ys zs = subst (AllZip (IsNotedAs e.controller went) ys) (sym (put_noted e.controller went ys c.note_all.new.replies room.len room.ok.0 noted)) noted in
    (S.layout.clear.2, ap (λ (h : Held _ _ _). h.path.last) c.deref_mut.ensures.value, noted_runs e.controller went ys zs with_notes (no_runs_held d n (all_seen xs) ys zip))

pub log_phase-end-requires-clause-last : goal.log_phase-end-requires-clause-last
log_phase-end-requires-clause-last g c =
    let q = c.requires.served.seats in let e = c.args.self.now in let about = about_of e.list in let path = c.args.leadership.held.value.path in let st = c.requires.leadership.1 in
    let path_is = ap (λ (h : Held _ _ _). h.path) c.deref_mut-3.ensures.value ∙ ap (λ (h : Held _ _ _). h.path) c.deref_mut.ensures.value in
    subst (λ (p : LogPath _ _). p.last ≤ max_sequence) (sym path_is)
    (last_low our_log as_is tt about.opened.value about.start about.clients about.group_bytes (seen_by_note c.args.leadership.asked) path.log path.places st.published path.last path.made c.requires.leadership.0 st.path
    (subst (λ (k : ℕ). k ≤ max_sequence) (sym q.is_engine.start) q.is_engine.low))

pub log_phase-end-requires-clause-group : goal.log_phase-end-requires-clause-group
log_phase-end-requires-clause-group g c =
    let S = c.requires.served in let q = S.seats in let e = c.args.self.now in let v = c.args.client.now in
    let xs : List (ℕ × Request) = v.lists.requests.list.items in
    let L = v.lists.requests.list in let new : List (ℕ × Request) = c.ask-look.new.requests in
    let left : List (ℕ × Request) = take L.len (new ++ drop (length new) L.items) in
    let left_is : left ≡ all_seen xs = put_back xs new L.len L.ok.0 (c.ask-look.ensures.requests ∙ ap all_seen c.deref_mut-2.ensures.value) in
    let led = subst (λ (z : ℕ × List (ℕ × Request)). IsLedGroup (bound_of e.list) z.0 z.1) (λ i. (sym S.layout.clear.3 i, sym left_is i)) (led_unnoted (bound_of e.list) (clients_of e.list) xs S.led) in
    ((bound_of e.list), led)

pub returns-clause-served : goal.returns-clause-served
returns-clause-served g c =
    let S = c.requires.served in let q = S.seats in let e = c.args.self.now in let v = c.args.client.now in
    let xs : List (ℕ × Request) = v.lists.requests.list.items in let k : ℕ = v.number in let was : List ControllerCall = seen_by v.pass in
    let asked : List ControllerCall = seen_by_note c.args.leadership.asked in
    let A = c.ask-look.ensures in let P = c.may_go_on-proceeds.ensures in let N = c.note.ensures in let H = c.log_phase-end.ensures in
    let n : Look = look_of c.ask-look.result in let known : List ControllerCall = seen_by c.ask-look.new.pass in
    let L = v.lists.requests.list in let new : List (ℕ × Request) = c.ask-look.new.requests in let same = c.deref_mut-2.ensures.value in
    let h : HasAskedFor k was asked xs n known = subst (λ (z : ℕ × List (ℕ × Request)). HasAskedFor z.0 was asked z.1 n known) (λ i. (q.pass_number i, same i)) A.asked in
    let left : List (ℕ × Request) = take L.len (new ++ drop (length new) L.items) in
    let left_is : left ≡ all_seen xs = put_back xs new L.len L.ok.0 (A.requests ∙ ap all_seen same) in
    let d : Delay = record { pass = c.of.result; went = c.of-3.result; made = c.deref.result.now.path.made } in
    let is : seen_at d ≡ known = ap seen_by c.of.ensures in
    let went : List ControllerCall = seen_by c.note.new.pass in let ys : List (ℕ × Answer) = c.log_phase-end.new.replies.items in let room = c.log_phase-end.new.replies in
    let noted : AllZip (IsNotedAs e.controller went) ys c.note_all-2.new.replies = subst (λ l. AllZip (IsNotedAs e.controller went) l c.note_all-2.new.replies) c.deref_mut-4.ensures.value c.note_all-2.ensures.replies in
    let zs : List (ℕ × Answer) = take room.len (c.note_all-2.new.replies ++ drop (length c.note_all-2.new.replies) ys) in
    let with_notes : AllZip (IsNotedAs e.controller went) ys zs = subst (AllZip (IsNotedAs e.controller went) ys) (sym (put_noted e.controller went ys c.note_all-2.new.replies room.len room.ok.0 noted)) noted in
    let later : Delay = c.log_phase-end.new.delay in
    let later_is : seen_at later ≡ known = ap (λ (p : Snapshot Pass). seen_by p.value) H.delay.0 ∙ is in
    let later_went : went_at later ≡ went = ap (λ (p : Snapshot Pass). seen_by p.value) H.delay.1 ∙ ap seen_by c.of-3.ensures in
    let own : client_of c.ask-look.new.pass ≡ k = A.pass.1 ∙ q.pass_number in
    let looks : OnlyLooks k known (seen_by c.note.new.pass) = subst (λ (z : ℕ × List ControllerCall). OnlyLooks z.0 known z.1) (λ i. (own i, sym N.seen i)) P.looks in
    let same_now : seen_by c.note_all-2.new.pass ≡ seen_by c.note.new.pass = c.note_all-2.ensures.pass.2 in
    let begins : IsPrefix (seen_at later) (went_at later) = subst (λ (z : List ControllerCall × List ControllerCall). IsPrefix z.0 z.1) (λ i. (sym later_is i, sym later_went i)) looks.begins in
    let shows : IsPrefix (went_at later) went = subst (IsPrefix (went_at later)) later_went (prefix_same (went_at later)) in
    let late : AllByRecursion (WasAsked (seen_at later) n) xs = subst (λ (l : List ControllerCall). AllByRecursion (WasAsked l n) xs) (sym later_is) (asked_shown k was asked known xs n h) in
    record {
      seats = record {
        is_engine = q.is_engine;
        seat = q.seat;
        ready = q.ready;
        seat_number = q.seat_number;
        pass = c.note_all-2.ensures.pass.0;
        pass_number = c.note_all-2.ensures.pass.1 ∙ (N.own.1 ∙ (P.pass.1 ∙ own));
        number = q.number;
      };
      layout = record {
        no_numberings = H.taken.1;
        no_batches = H.taken.2;
        clients_are = H.taken.3 ∙ S.layout.clear.3;
        numberings = subst (λ m. clients_of e.list ≤ m) (sym H.room.1) S.layout.numberings;
        batches = subst (λ m. clients_of e.list ≤ m) (sym H.room.2) S.layout.batches;
        members = subst (λ m. clients_of e.list ≤ m) (sym H.room.4) S.layout.members;
      };
      seat = refl;
      number = refl;
      start = refl;
      table = refl;
      writer = c.may_go_on-proceeds.ensures.leads.0;
      walk_room = c.may_go_on-proceeds.ensures.leads.1;
      in_order = noted_order e.controller went xs ys zs with_notes (order_unnoted xs ys (subst (λ l. InOrder l ys) left_is H.replies.0));
      handed_back = noted_back e.controller went xs ys zs with_notes (back_unnoted xs ys (subst (λ l. AllByRecursion HandsBack (handled_with l ys)) left_is H.replies.1));
      shown = replies_shown e.controller later went begins shows xs ys zs H.replies.2 with_notes (delayed_all (seen_at later) n xs late);
      taken = H.taken.0;
      requests_room = H.room.0;
      replies_room = H.room.3;
      sees_more = subst (SeesMore k was) (sym same_now) (looks_sees k was known (seen_by c.note.new.pass) (asked_sees k was asked known xs n h) looks);
      known = known;
      delays = ap (delays_of k) same_now ∙ (looks.delays ∙ asked_delays k was asked known xs n h);
      of_delay = noted_at e.controller went known ys zs with_notes (replies_at later known later_is ys H.replies.2);
    }

pub returns-clause-leadership : goal.returns-clause-leadership
returns-clause-leadership g c hs st =
    let S = c.requires.served in let q = S.seats in let E = q.is_engine in let e = c.args.self.now in let v = c.args.client.now in let about = about_of e.list in let path = c.args.leadership.held.value.path in
    let xs : List (ℕ × Request) = v.lists.requests.list.items in let k : ℕ = v.number in let was : List ControllerCall = seen_by v.pass in
    let asked : List ControllerCall = seen_by_note c.args.leadership.asked in
    let A = c.ask-look.ensures in let P = c.may_go_on-proceeds.ensures in let N = c.note.ensures in let H = c.log_phase-end.ensures in
    let n : Look = look_of c.ask-look.result in let known : List ControllerCall = seen_by c.ask-look.new.pass in
    let L = v.lists.requests.list in let new : List (ℕ × Request) = c.ask-look.new.requests in let same = c.deref_mut-2.ensures.value in
    let h : HasAskedFor k was asked xs n known = subst (λ (z : ℕ × List (ℕ × Request)). HasAskedFor z.0 was asked z.1 n known) (λ i. (q.pass_number i, same i)) A.asked in
    let left : List (ℕ × Request) = take L.len (new ++ drop (length new) L.items) in
    let left_is : left ≡ all_seen xs = put_back xs new L.len L.ok.0 (A.requests ∙ ap all_seen same) in
    let d : Delay = record { pass = c.of.result; went = c.of-3.result; made = c.deref.result.now.path.made } in
    let is : seen_at d ≡ known = ap seen_by c.of.ensures in
    let told : List ControllerCall = seen_by c.note.new.pass in let ys : List (ℕ × Answer) = c.log_phase-end.new.replies.items in let room = c.log_phase-end.new.replies in
    let noted : AllZip (IsNotedAs e.controller told) ys c.note_all-2.new.replies = subst (λ l. AllZip (IsNotedAs e.controller told) l c.note_all-2.new.replies) c.deref_mut-4.ensures.value c.note_all-2.ensures.replies in
    let zs : List (ℕ × Answer) = take room.len (c.note_all-2.new.replies ++ drop (length c.note_all-2.new.replies) ys) in
    let with_notes : AllZip (IsNotedAs e.controller told) ys zs = subst (AllZip (IsNotedAs e.controller told) ys) (sym (put_noted e.controller told ys c.note_all-2.new.replies room.len room.ok.0 noted)) noted in
    let many : ℕ = v.layout.parts.clients in
    let led : IsLedGroup about.group_bytes many left = subst (λ (z : ℕ × ℕ × List (ℕ × Request)). IsLedGroup z.0 z.1 z.2) (λ i. (sym E.group_bytes i, sym S.layout.clear.3 i, sym left_is i)) (led_unnoted (bound_of e.list) (clients_of e.list) xs S.led) in
    let comes : ComesAfter asked (seen_at d) = subst (ComesAfter asked) (sym is) (asked_after k was asked known xs n h) in
    let alike : commit_requests_of left ≡ commit_requests_of xs = ap commit_requests_of left_is ∙ unseen_commits xs in
    let is_for : IsAskedFor (commit_requests_of left) n (seen_at d) = subst (λ (z : List CommitRequest × List ControllerCall). IsAskedFor z.0 n z.1) (λ i. (sym alike i, sym is i)) (asked_is k was asked known xs n h (bound_of e.list) (clients_of e.list) S.led S.leads) in
    let saw : List ControllerCall = seen_by c.may_go_on-proceeds.new.pass in
    let went : List ControllerCall = went_at d in
    let went_is : went ≡ saw = ap seen_by c.of-3.ensures ∙ N.seen in
    let own : client_of c.ask-look.new.pass ≡ k = A.pass.1 ∙ q.pass_number in
    let flag = ap (λ o. o.no_slowdown) (first_flag (bound_of e.list) (clients_of e.list) xs S.led left c.index.result.now left_is c.index.ensures ∙ ap (λ (r : Request). r.options) (sym c.as_request.ensures)) in
    let lets : LetsProceed k n known saw S.led.first.1.options.no_slowdown = subst (λ (z : ℕ × Bool). LetsProceed z.0 n known saw z.1) (λ i. (own i, sym flag i)) (P.proceeds c.if-not-proceeds.false) in
    let on : ProceedsWith (commit_requests_of left) n (seen_at d) went = subst (λ (z : List CommitRequest × List ControllerCall × List ControllerCall). ProceedsWith z.0 n z.1 z.2) (λ i. (sym alike i, sym is i, sym went_is i)) (proceeds k n known saw (bound_of e.list) (clients_of e.list) xs S.led S.leads P.looks.begins lets) in
    let clients_are : about.clients ≡ many = E.about_clients ∙ sym S.layout.clear.3 in
    let before : LogCovers about.opened.value about.start many about.group_bytes asked path.log path.places st.published path.last path.made hs = stands_by our_log as_is about.opened.value path.log path.places st.published path.last path.made tt tt about.start about.start about.clients many about.group_bytes about.group_bytes asked asked hs refl refl clients_are refl refl st.path in
    let p = c.log_phase-end.new.path in
    let now = published_with c.log_phase-end.result c.log_phase-end.new.layout.parts.parts st.published in
    let past : Past _ = record {
      opened = about.opened.value;
      start = about.start;
      group_bytes = about.group_bytes;
      asked = asked;
      published = st.published;
      handled = hs;
    } in
    let goes_on : GoesOnWith about.group_bytes many asked left (seen_at d) went = record { led = led; numbers = n; comes_after = comes; asked_for = is_for; proceeds = on } in
    let path_is = ap (λ (h : Held _ _ _). h.path) c.deref_mut-3.ensures.value ∙ ap (λ (h : Held _ _ _). h.path) c.deref_mut.ensures.value in
    let after = H.path past goes_on (subst (λ (p : LogPath _ _). LogCovers about.opened.value about.start many about.group_bytes asked p.log p.places st.published p.last p.made hs) (sym path_is) before) in
    let unnoted = subst (λ l. LogCovers about.opened.value about.start many about.group_bytes went p.log p.places now p.last p.made (hs ++ handled_with l ys)) left_is after in
    let as_was = noted_stands e.controller told our_log as_is about.opened.value p.log p.places now p.last p.made tt about.start many about.group_bytes went hs xs ys zs with_notes
    (stands_noted our_log as_is about.opened.value p.log p.places now p.last p.made tt about.start many about.group_bytes went hs xs ys unnoted) in
    record {
      note = subst (λ ctl. IsNoteOf ctl c.note.result) (sym E.controller) N.note.0;
      path = stands_by our_log as_is about.opened.value p.log p.places now p.last p.made tt tt about.start about.start many about.clients about.group_bytes about.group_bytes went (seen_by_note c.note.result) (hs ++ handled_with xs zs) refl refl (sym clients_are) refl (went_is ∙ sym N.note.1) as_was;
      turn = st.turn;
    }

pub returns-clause-waited : goal.returns-clause-waited
returns-clause-waited g c =
    let S = c.requires.served in let q = S.seats in let e = c.args.self.now in let v = c.args.client.now in
    let xs : List (ℕ × Request) = v.lists.requests.list.items in let k : ℕ = v.number in let was : List ControllerCall = seen_by v.pass in
    let asked : List ControllerCall = seen_by_note c.args.leadership.asked in
    let A = c.ask-look.ensures in let P = c.may_go_on-proceeds.ensures in let N = c.note.ensures in
    let n : Look = look_of c.ask-look.result in let known : List ControllerCall = seen_by c.ask-look.new.pass in
    let L = v.lists.requests.list in let new : List (ℕ × Request) = c.ask-look.new.requests in let same = c.deref_mut-2.ensures.value in
    let h : HasAskedFor k was asked xs n known = subst (λ (z : ℕ × List (ℕ × Request)). HasAskedFor z.0 was asked z.1 n known) (λ i. (q.pass_number i, same i)) A.asked in
    let left : List (ℕ × Request) = take L.len (new ++ drop (length new) L.items) in
    let left_is : left ≡ all_seen xs = put_back xs new L.len L.ok.0 (A.requests ∙ ap all_seen same) in
    let flag = ap (λ o. o.no_slowdown) (first_flag (bound_of e.list) (clients_of e.list) xs S.led left c.index.result.now left_is c.index.ensures ∙ ap (λ (r : Request). r.options) (sym c.as_request.ensures)) in
    let first_alike : AreAlike false (commit_requests_of xs) → S.led.first.1.options.no_slowdown ≡ false = λ alike. (subst (λ (l : List (ℕ × Request)). AreAlike false (commit_requests_of l)) S.led.leads alike).0 in
    let own : client_of c.ask-look.new.pass ≡ k = A.pass.1 ∙ q.pass_number in
    let looks : OnlyLooks k known (seen_by c.note.new.pass) = subst (λ (z : ℕ × List ControllerCall). OnlyLooks z.0 known z.1) (λ i. (own i, sym N.seen i)) P.looks in
    let same_now : seen_by c.note_all-2.new.pass ≡ seen_by c.note.new.pass = c.note_all-2.ensures.pass.2 in
    let clock_was : g.Time.Clock.paused c.ask-look.new.clock ≡ g.Time.Clock.paused c.args.leadership.held.value.clock = A.pauses_none ∙ ap (λ (h : Held _ _ _). g.Time.Clock.paused h.clock) c.deref_mut.ensures.value in
    let clock_is : g.Time.Clock.paused c.may_go_on-proceeds.new.clock ≡ g.Time.Clock.paused c.deref_mut-3.result.now.clock = sym (ap (λ (h : Held _ _ _). g.Time.Clock.paused h.clock) c.deref_mut-3.ensures.value) in
    record {
      known = known;
      numbers = n;
      begins = subst (IsPrefix known) (sym same_now) looks.begins;
      delayed = asked_ends k was asked known xs n h;
      earlier = delays_of k was;
      newest = ap (delays_of k) same_now ∙ (looks.delays ∙ asked_delays k was asked known xs n h);
      waited = λ alike. subst (λ (z : ℕ × ℕ). HasPaused z.0 n.wait z.1) (λ i. (clock_was i, clock_is i)) (P.waited (sym flag ∙ first_alike alike));
    }

pub returns-then-not-proceeds-clause-waited : goal.returns-then-not-proceeds-clause-waited
returns-then-not-proceeds-clause-waited g c =
    let S = c.requires.served in let q = S.seats in let e = c.args.self.now in let v = c.args.client.now in
    let xs : List (ℕ × Request) = v.lists.requests.list.items in let k : ℕ = v.number in let was : List ControllerCall = seen_by v.pass in
    let asked : List ControllerCall = seen_by_note c.args.leadership.asked in
    let A = c.ask-look.ensures in let P = c.may_go_on-proceeds.ensures in let N = c.note.ensures in
    let n : Look = look_of c.ask-look.result in let known : List ControllerCall = seen_by c.ask-look.new.pass in
    let L = v.lists.requests.list in let new : List (ℕ × Request) = c.ask-look.new.requests in let same = c.deref_mut-2.ensures.value in
    let h : HasAskedFor k was asked xs n known = subst (λ (z : ℕ × List (ℕ × Request)). HasAskedFor z.0 was asked z.1 n known) (λ i. (q.pass_number i, same i)) A.asked in
    let left : List (ℕ × Request) = take L.len (new ++ drop (length new) L.items) in
    let left_is : left ≡ all_seen xs = put_back xs new L.len L.ok.0 (A.requests ∙ ap all_seen same) in
    let flag = ap (λ o. o.no_slowdown) (first_flag (bound_of e.list) (clients_of e.list) xs S.led left c.index.result.now left_is c.index.ensures ∙ ap (λ (r : Request). r.options) (sym c.as_request.ensures)) in
    let first_alike : AreAlike false (commit_requests_of xs) → S.led.first.1.options.no_slowdown ≡ false = λ alike. (subst (λ (l : List (ℕ × Request)). AreAlike false (commit_requests_of l)) S.led.leads alike).0 in
    let no = P.refused c.if-not-proceeds.true in
    let same_now : seen_by c.note_all.new.pass ≡ known = c.note_all.ensures.pass.2 ∙ (N.seen ∙ no.2) in
    record {
      known = known;
      numbers = n;
      begins = subst (IsPrefix known) (sym same_now) (prefix_same known);
      delayed = asked_ends k was asked known xs n h;
      earlier = delays_of k was;
      newest = ap (delays_of k) same_now ∙ asked_delays k was asked known xs n h;
      waited = λ alike. absurd (true≢false (sym no.0 ∙ (sym flag ∙ first_alike alike)));
    }

pub returns-clause-beside : goal.returns-clause-beside
returns-clause-beside g c =
    let v = c.args.client.now in
    let xs : List (ℕ × Request) = v.lists.requests.list.items in
    let L = v.lists.requests.list in let new : List (ℕ × Request) = c.ask-look.new.requests in
    let left : List (ℕ × Request) = take L.len (new ++ drop (length new) L.items) in
    let left_is : left ≡ all_seen xs = put_back xs new L.len L.ok.0 (c.ask-look.ensures.requests ∙ ap all_seen c.deref_mut-2.ensures.value) in
    let others = ap others_in left_is ∙ others_unnoted xs in
    let staged = is_none_by c.is_none.result c.args.leadership.turn c.is_none.ensures in
    let told = beside_where c.may_be_apart-apart.result c.is_none.result (others_in left) c.log_phase-end.new.layout.members.items c.log_phase-end.result c.may_be_apart-apart.ensures c.log_phase-end.ensures.beside in
    subst (λ (z : Bool × List ℕ). IfSome c.log_phase-end.result (λ _. AreHelpers z.0 z.1 c.log_phase-end.new.layout.members.items)) (λ i. (staged i, others i)) told
