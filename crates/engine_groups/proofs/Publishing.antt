-- A leader that has answered its group, and what it does with the group's parts.
use Rattle.std.proofs.Common.{◌≡◌, ℕ, true, false, List, [], ◌∷◌, ◌++◌, Option, Some, None, IfSome, is_none, sym, ap, ◌∙◌, subst}
use Rattle.std.proofs.lemmas.Bool.{false≢true}
use Rattle.log_writer.specs.declared.group_log.GroupLog.{Ghosts}
use Rattle.table_calls.specs.Account.{IsReady}
use Rattle.table_rule.specs.declared.content.MemberVersions.{MemberVersions}
use Rattle.table_rule.specs.Histories.{last_of}
use Rattle.table_nodes.specs.Parts.{group_of}
use Rattle.line_rule.specs.declared.view.QueuedWriter.{QueuedWriter}
use Rattle.line_rule.specs.declared.view.Handling.{Handling}
use Rattle.line_rule.specs.Chain.{Within, all_answers}
use Rattle.line_rule.specs.Members.{asks}
use Rattle.line_writers.specs.Seats.{about_of, clients_of, piped_of, IsChosen}
use Rattle.engine_controller.specs.Passes.{seen_by_note}
use Rattle.engine_rule.specs.Commits.{last_after_all}
use Rattle.engine_groups.specs.Clients.{IsAnswered, opened_log, told_of}
use Rattle.engine_groups.specs.Meaning.{Meaning}
use Rattle.engine_groups.specs.declared.engine.GroupEngine.{GroupEngine}
use Rattle.engine_groups.specs.declared.engine.EngineClient.{EngineClient}
use Rattle.engine_groups.specs.declared.leader.EngineAtOpening.{EngineAtOpening}
use Rattle.engine_groups.specs.declared.leader.Leadership.{Leadership}
use Rattle.engine_groups.specs.Law.{LeadershipCovers, LeadershipIsStaged}
use Rattle.engine_groups.specs.Leaving.{HasAnswered, HasAnsweredGroup, IsFlat, IsToEnd, IsToHandOn, IsToLeave, IsToPublish}
use Rattle.engine_parts.specs.declared.layout.Layout.{Layout}
use Rattle.engine_parts.specs.declared.requests.Request.{Request}
use Rattle.engine_parts.specs.declared.requests.Answer.{Answer}
use Rattle.engine_parts.specs.Handled.{handled_with, commits_in}
use Rattle.engine_parts.specs.Layout.{IsLaid}
use Rattle.engine_parts.specs.Numbering.{AreHelpers, others_in}
use Rattle.engine_parts.specs.Staged.{IsStaged, MayLaunch}
use Rattle.engine_parts.proofs.Beside.{AreIn}
use Rattle.engine_parts.proofs.Standing.{history_end}
use Rattle.engine_groups.proofs.Leads.{fresh_same}
use Rattle.engine_groups.proofs.Members.{are_members}
use Rattle.engine_groups.proofs.Turning.{given_same, group_made, is_piped, single, stays_none, stays_some}

-- takes the place of a table's `our_turn`, where only the log matters
abbrev our_log : Unit {0} → List (List MemberVersions) → Type 0
our_log t u = Unit {0}

abbrev as_is : List (List MemberVersions) → List (List MemberVersions)
as_is u = u

module _ {D T C G S U P : Type 0} {ghosts : Ghosts D} (meaning : Meaning T S U P) (e : GroupEngine D T C G S U P ghosts)
    (number start : ℕ) (mine : List (Request × Answer)) (own : QueuedWriter Request) (seen : List (Handling Request Answer)) (w : EngineClient D T C S U P ghosts) (leadership : Leadership D T C S U P ghosts) where
  abbrev about : EngineAtOpening D T C ghosts
  about = about_of e.list

  abbrev parts : List MemberVersions
  parts = group_of w.layout.parts.parts

  -- what a leader does whose leadership was `old` before its group was answered
  module _ (led : HasAnsweredGroup meaning e number start mine own seen w leadership.held.value.path.last) (old : Leadership D T C S U P ghosts) (was : LeadershipCovers meaning (about_of e.list) old seen) (same_turn : leadership.turn ≡ old.turn)
      (within : Within (clients_of e.list) led.group) (xs : List (ℕ × Request)) (asked : xs ≡ asks own led.group) (answers : all_answers own led.p led.gs ≡ handled_with (asks own led.group) w.lists.replies.list.items) where
    pub to_end : (end : Option ℕ) → LeadershipIsStaged meaning (about_of e.list) leadership end w.layout.parts.parts was.published (seen ++ all_answers own led.p led.gs)
        → IsStaged number (clients_of e.list) old.held.value.path.last leadership.held.value.path.last end w.layout.members.items w.layout.parts.parts w.lists.replies.list.items
        → IfSome end (λ _. AreHelpers (is_none old.turn) (others_in xs) w.layout.members.items) → IsToEnd meaning e number start mine own seen w leadership end
    to_end None now staged beside = (
      record { led = led; covers = record { note = now.note; published = was.published; path = now.path; turn = now.turn } },
      (λ _. given_same seen (all_answers own led.p led.gs) (asks own led.group) w.lists.replies.list.items answers staged.2),
      staged.0,
    )
    to_end (Some end) now staged beside =
        let E = led.seats.is_engine in
        let seat_number : number ≡ (meaning.account w.seat).number = sym led.number_is ∙ sym led.seats.seat_number in
        let last_is : old.held.value.path.last ≡ last_after_all (meaning.opening e.table).start (commits_in seen) = was.path.consistent.last_is ∙ ap (λ (k : ℕ). last_after_all k (commits_in seen)) E.start in
        let ends : last_of about.start was.published ≡ old.held.value.path.last = history_end our_log as_is tt about.opened.value about.start about.clients about.group_bytes (seen_by_note old.asked) old.held.value.path.log old.held.value.path.places was.published old.held.value.path.last old.held.value.path.made seen was.path in
        record {
          led = led;
          published = was.published;
          last = ends ∙ last_is;
          staged = now;
          parts = record {
            may = subst (λ (z : ℕ × ℕ × ℕ). MayLaunch z.0 z.1 z.2 end w.layout.members.items parts) (λ i. (seat_number i, sym E.clients i, last_is i)) staged.1;
            beside = are_members (clients_of e.list) own led.gs w.layout.members.items (subst (Within (clients_of e.list)) (sym led.heads_are) within) (subst (λ (ys : List (ℕ × Request)). AreIn (others_in ys) w.layout.members.items) (asked ∙ ap (asks own) (sym led.heads_are)) beside.of_group);
            made = group_made seen (all_answers own led.p led.gs) was.published parts was.path.consistent.images now.path.consistent.images;
          };
          alone = λ here. beside.alone (ap is_none (sym same_turn) ∙ here);
        }

  module _ (end : ℕ) (h : IsToPublish meaning e number start mine own seen w leadership end) where
    -- the right to launch is apart, so the log goes on first
    pub apart_piped : leadership.turn ≡ None → piped_of e.list ≡ true
    apart_piped apart = sym h.led.seats.is_engine.pipelined ∙ is_piped meaning about.table.value about.pipelined h.published leadership.turn h.staged.turn apart

    pub to_hand_on : leadership.turn ≡ None → IsToHandOn meaning e number start mine own seen w (record { held = leadership.held; turn = None; asked = leadership.asked }) end
    to_hand_on apart =
        let piped = is_piped meaning about.table.value about.pipelined h.published leadership.turn h.staged.turn apart in
        record {
          leaves = record {
            led = h.led;
            covers = record { note = h.staged.note; published = h.published ++ parts ∷ []; path = h.staged.path; turn = stays_none meaning about.table.value about.pipelined (h.published ++ parts ∷ []) piped };
          };
          parts = h.parts;
        }

    -- the right is with the log
    module _ (turn : U) (here : leadership.turn ≡ Some turn) where
      is_single : (about.pipelined ≡ false) × meaning.our_turn about.table.value turn × (meaning.history turn ≡ h.published)
      is_single = single meaning about.table.value about.pipelined h.published leadership.turn turn h.staged.turn here

      pub has_right : meaning.ours e.table w.seat × meaning.our_turn e.table turn × IsReady (meaning.account w.seat)
      has_right = (h.led.seats.seat, subst (λ (k : T). meaning.our_turn k turn) h.led.seats.is_engine.table is_single.1, h.led.seats.ready)

      pub may_publish : MayLaunch (meaning.account w.seat).number (meaning.opening e.table).clients (last_of (meaning.opening e.table).start (meaning.history turn)) end [] parts
      may_publish =
          let start_is = h.led.seats.is_engine.start in
          let last_is : last_after_all (meaning.opening e.table).start (commits_in seen) ≡ last_of (meaning.opening e.table).start (meaning.history turn) = sym h.last ∙ (λ i. last_of (start_is i) (sym is_single.2 i)) in
          subst (λ (z : ℕ × List ℕ). MayLaunch (meaning.account w.seat).number (meaning.opening e.table).clients z.0 end z.1 parts) (λ i. (last_is i, h.alone (ap is_none here) i)) h.parts.may

      -- it has published them, and has the right again
      module _ (seat : S) (layout : Layout) (back : U) (ours : meaning.ours e.table seat) (our_turn : meaning.our_turn e.table back) (ready : IsReady (meaning.account seat)) (same : (meaning.account seat).number ≡ (meaning.account w.seat).number) (laid : IsLaid (clients_of e.list) layout)
          (history : meaning.history back ≡ meaning.history turn ++ parts ∷ []) where
        abbrev now : EngineClient D T C S U P ghosts
        now = record { number = w.number; start = w.start; table = w.table; writer = w.writer; seat = seat; pass = w.pass; lists = w.lists; layout = layout; envelope = w.envelope }

        abbrev holds : Leadership D T C S U P ghosts
        holds = record { held = leadership.held; turn = Some back; asked = leadership.asked }

        leaves : IsToLeave meaning e number start mine own seen now holds
        leaves = let l = h.led in record {
          led = record {
            seats = record { is_engine = l.seats.is_engine; seat = ours; ready = ready; seat_number = same ∙ l.seats.seat_number; pass = l.seats.pass; pass_number = l.seats.pass_number; number = l.seats.number };
            layout = laid;
            number_is = l.number_is;
            start_is = l.start_is;
            starts = l.starts;
            table_is = l.table_is;
            writer = l.writer;
            client = l.client;
            group = l.group;
            left = l.left;
            gs = l.gs;
            p = l.p;
            has = l.has;
            told_is = l.told_is;
            heads_are = l.heads_are;
            pays_are = l.pays_are;
            before = l.before;
            kept = l.kept;
            last_is = l.last_is;
            own_now = l.own_now;
            requests = l.requests;
            replies_few = l.replies_few;
            replies_room = l.replies_room;
            room = l.room;
            has_asked = l.has_asked;
          };
          covers = record {
            note = h.staged.note;
            published = h.published ++ parts ∷ [];
            path = h.staged.path;
            turn = stays_some meaning about.table.value about.pipelined (h.published ++ parts ∷ []) back is_single.0 (subst (λ (k : T). meaning.our_turn k back) (sym l.seats.is_engine.table) our_turn) (history ∙ ap (λ (gs : List (List MemberVersions)). gs ++ parts ∷ []) is_single.2);
          };
        }

        pub to_leave : (l : IsToLeave meaning e number start mine own seen now holds) × IsFlat meaning e number start mine own seen now holds l
        to_leave = (leaves, (λ piped. let no = sym is_single.0 ∙ (h.led.seats.is_engine.pipelined ∙ piped) in absurd (false≢true no)))

-- It doesn't matter by which name the leader knows its own request.
module _ {D T C G S U P : Type 0} {ghosts : Ghosts D} (meaning : Meaning T S U P) (e : GroupEngine D T C G S U P ghosts) (v w : EngineClient D T C S U P ghosts)
    (own own' : QueuedWriter Request) (seen seen' : List (Handling Request Answer)) (p : Answer) where
  pub is_answered : IsChosen own seen (told_of v) v.writer → IsChosen own' seen' (told_of v) v.writer → HasAnswered e.controller (opened_log e) (meaning.opening e.table).start v.number (told_of v) own.asked p (told_of w)
      → w.number ≡ v.number → w.start ≡ v.start → w.table ≡ v.table → IsAnswered e.controller (opened_log e) (meaning.opening e.table).start own'.asked p v w
  is_answered chosen chosen' A number_same start_same table_same =
      let fresh = fresh_same v.writer.client v.writer.client own own' seen seen' (told_of v) (told_of v) (sym chosen.0 ∙ chosen'.0) in
      record {
        told_now = A.told_now ∙ (λ i. told_of v ++ ((fresh i).asked, p) ∷ []);
        handled = A.handled;
        are_handled = A.are_handled;
        own = A.own ∙ (λ i. told_of v ++ ((fresh i).asked, p) ∷ []);
        number = number_same;
        start_same = start_same;
        table_same = table_same;
      }
