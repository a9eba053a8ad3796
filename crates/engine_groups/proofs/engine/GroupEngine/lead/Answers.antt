use Rattle.std.proofs.Common.{sym, ◌∙◌, subst}
use Rattle.line_writers.specs.Seats.{clients_of}
use Rattle.table_rule.specs.Histories.{Begins}
use Rattle.engine_controller.specs.declared.pass.Pass.{Pass}
use Rattle.engine_controller.specs.Passes.{seen_by}
use Rattle.engine_rule.specs.Entries.{SeesMore}
use Rattle.engine_parts.specs.declared.layout.Layout.{Layout}
use Rattle.engine_parts.specs.Layout.{IsLaid}
use Rattle.engine_parts.proofs.Logged.{none_is}
use Rattle.engine_groups.specs.Clients.{told_of}
use Rattle.engine_groups.specs.Leaving.{IsToEnd, IsToPublish}
use Rattle.engine_groups.proofs.Answered.{begins_self}
use Rattle.engine_groups.proofs.Publishing.{apart_piped, has_right, is_answered, may_publish, to_hand_on, to_leave}
use Rattle.engine_groups.proofs.engine.GroupEngine.lead.Goals as goal

-- the group's members got no runs

pub leave-requires-clause-leaves : goal.leave-requires-clause-leaves
leave-requires-clause-leaves g c =
    let e = c.args.self.now in let v = c.args.client.now in let A = c.answer_group-leadership in let G = A.ensures.ends in
    let h = subst (IsToEnd g.Versions.Table e v.number v.start (told_of v) G.0 G.1 A.new.client A.result.0) (none_is A.result.1 c.in_default.not-Some) G.3 in
    (v.number, v.start, told_of v, G.0, G.1, h.0, h.1)

pub leave-requires-clause-parts : goal.leave-requires-clause-parts
leave-requires-clause-parts g c =
    let e = c.args.self.now in let v = c.args.client.now in let A = c.answer_group-leadership in let G = A.ensures.ends in
    (subst (IsToEnd g.Versions.Table e v.number v.start (told_of v) G.0 G.1 A.new.client A.result.0) (none_is A.result.1 c.in_default.not-Some) G.3).2

pub returns-in_default-clause-answered : goal.returns-in_default-clause-answered
returns-in_default-clause-answered g c own' seen' chosen =
    let e = c.args.self.now in let v = c.args.client.now in let A = c.answer_group-leadership in let G = A.ensures.ends in
    let h = subst (IsToEnd g.Versions.Table e v.number v.start (told_of v) G.0 G.1 A.new.client A.result.0) (none_is A.result.1 c.in_default.not-Some) G.3 in
    let same = c.leave.ensures.same in
    is_answered g.Versions.Table e v c.leave.new.client G.0 own' G.1 seen' c.leave.result G.2 chosen (c.leave.ensures.answered v.number v.start (told_of v) G.0 G.1 h.0)
    (same.0 ∙ A.ensures.same.0) (same.1 ∙ A.ensures.same.1) (same.4 ∙ A.ensures.same.3)

pub returns-in_default-clause-seen : goal.returns-in_default-clause-seen
returns-in_default-clause-seen g c =
    let v = c.args.client.now in let A = c.answer_group-leadership.ensures in let same = c.leave.ensures.same in
    (subst (λ s. Begins (g.Versions.Table.account v.seat).seen (g.Versions.Table.account s).seen) (sym (same.2 ∙ A.same.2)) (begins_self (g.Versions.Table.account v.seat).seen), subst (λ (p : Pass). SeesMore v.number (seen_by v.pass) (seen_by p)) (sym same.3) A.seen)

-- the log goes on first

pub hand_on-requires-clause-piped : goal.hand_on-requires-clause-piped
hand_on-requires-clause-piped g c =
    let e = c.args.self.now in let v = c.args.client.now in let A = c.answer_group-leadership in let G = A.ensures.ends in
    let h = subst (IsToEnd g.Versions.Table e v.number v.start (told_of v) G.0 G.1 A.new.client A.result.0) c.in-Some.is G.3 in
    apart_piped g.Versions.Table e v.number v.start (told_of v) G.0 G.1 A.new.client A.result.0 c.in-Some.end h c.in-None.is

pub hand_on-requires-clause-leaves : goal.hand_on-requires-clause-leaves
hand_on-requires-clause-leaves g c =
    let e = c.args.self.now in let v = c.args.client.now in let A = c.answer_group-leadership in let G = A.ensures.ends in
    let h = subst (IsToEnd g.Versions.Table e v.number v.start (told_of v) G.0 G.1 A.new.client A.result.0) c.in-Some.is G.3 in
    (v.number, v.start, told_of v, G.0, G.1, to_hand_on g.Versions.Table e v.number v.start (told_of v) G.0 G.1 A.new.client A.result.0 c.in-Some.end h c.in-None.is)

pub returns-in-None-clause-answered : goal.returns-in-None-clause-answered
returns-in-None-clause-answered g c own' seen' chosen =
    let e = c.args.self.now in let v = c.args.client.now in let A = c.answer_group-leadership in let G = A.ensures.ends in
    let h = subst (IsToEnd g.Versions.Table e v.number v.start (told_of v) G.0 G.1 A.new.client A.result.0) c.in-Some.is G.3 in
    let hands = to_hand_on g.Versions.Table e v.number v.start (told_of v) G.0 G.1 A.new.client A.result.0 c.in-Some.end h c.in-None.is in
    let same = c.hand_on.ensures.same in
    is_answered g.Versions.Table e v c.hand_on.new.client G.0 own' G.1 seen' c.hand_on.result G.2 chosen (c.hand_on.ensures.answered v.number v.start (told_of v) G.0 G.1 hands)
    (same.0 ∙ A.ensures.same.0) (same.1 ∙ A.ensures.same.1) (same.3 ∙ A.ensures.same.3)

-- the group goes into the table first

pub publish_alone-turn-requires-clause-ours : goal.publish_alone-turn-requires-clause-ours
publish_alone-turn-requires-clause-ours g c =
    let e = c.args.self.now in let v = c.args.client.now in let A = c.answer_group-leadership in let G = A.ensures.ends in
    let h = subst (IsToEnd g.Versions.Table e v.number v.start (told_of v) G.0 G.1 A.new.client A.result.0) c.in-Some.is G.3 in
    has_right g.Versions.Table e v.number v.start (told_of v) G.0 G.1 A.new.client A.result.0 c.in-Some.end h c.in-Some-turn.turn c.in-Some-turn.is

pub publish_alone-turn-requires-clause-may : goal.publish_alone-turn-requires-clause-may
publish_alone-turn-requires-clause-may g c =
    let e = c.args.self.now in let v = c.args.client.now in let A = c.answer_group-leadership in let G = A.ensures.ends in
    let h = subst (IsToEnd g.Versions.Table e v.number v.start (told_of v) G.0 G.1 A.new.client A.result.0) c.in-Some.is G.3 in
    may_publish g.Versions.Table e v.number v.start (told_of v) G.0 G.1 A.new.client A.result.0 c.in-Some.end h c.in-Some-turn.turn c.in-Some-turn.is

pub leave-requires-in-Some-turn-clause-leaves : goal.leave-requires-in-Some-turn-clause-leaves
leave-requires-in-Some-turn-clause-leaves g c =
    let e = c.args.self.now in let v = c.args.client.now in let A = c.answer_group-leadership in let G = A.ensures.ends in
    let h : IsToPublish g.Versions.Table e v.number v.start (told_of v) G.0 G.1 A.new.client A.result.0 c.in-Some.end = subst (IsToEnd g.Versions.Table e v.number v.start (told_of v) G.0 G.1 A.new.client A.result.0) c.in-Some.is G.3 in
    let P = c.publish_alone-turn.ensures in let old = A.new.client.layout in let l = h.led.layout in
    let layout : Layout = record { numberings = old.numberings; batches = old.batches; members = old.members; parts = c.publish_alone-turn.new.parts } in
    let laid : IsLaid (clients_of e.list) layout = record { no_numberings = l.no_numberings; no_batches = l.no_batches; clients_are = P.emptied.1 ∙ l.clients_are; numberings = l.numberings; batches = l.batches; members = l.members } in
    let left = to_leave g.Versions.Table e v.number v.start (told_of v) G.0 G.1 A.new.client A.result.0 c.in-Some.end h c.in-Some-turn.turn c.in-Some-turn.is c.publish_alone-turn.new.seat layout c.publish_alone-turn.result P.ours.0 P.ours.1 P.ours.2 P.seen.0 laid P.history in
    (v.number, v.start, told_of v, G.0, G.1, left.0, left.1)

pub returns-in-Some-turn-clause-answered : goal.returns-in-Some-turn-clause-answered
returns-in-Some-turn-clause-answered g c own' seen' chosen =
    let e = c.args.self.now in let v = c.args.client.now in let A = c.answer_group-leadership in let G = A.ensures.ends in
    let h : IsToPublish g.Versions.Table e v.number v.start (told_of v) G.0 G.1 A.new.client A.result.0 c.in-Some.end = subst (IsToEnd g.Versions.Table e v.number v.start (told_of v) G.0 G.1 A.new.client A.result.0) c.in-Some.is G.3 in
    let P = c.publish_alone-turn.ensures in let old = A.new.client.layout in let l = h.led.layout in
    let layout : Layout = record { numberings = old.numberings; batches = old.batches; members = old.members; parts = c.publish_alone-turn.new.parts } in
    let laid : IsLaid (clients_of e.list) layout = record { no_numberings = l.no_numberings; no_batches = l.no_batches; clients_are = P.emptied.1 ∙ l.clients_are; numberings = l.numberings; batches = l.batches; members = l.members } in
    let left = to_leave g.Versions.Table e v.number v.start (told_of v) G.0 G.1 A.new.client A.result.0 c.in-Some.end h c.in-Some-turn.turn c.in-Some-turn.is c.publish_alone-turn.new.seat layout c.publish_alone-turn.result P.ours.0 P.ours.1 P.ours.2 P.seen.0 laid P.history in
    let same = c.leave-in-Some-turn.ensures.same in
    is_answered g.Versions.Table e v c.leave-in-Some-turn.new.client G.0 own' G.1 seen' c.leave-in-Some-turn.result G.2 chosen (c.leave-in-Some-turn.ensures.answered v.number v.start (told_of v) G.0 G.1 left.0)
    (same.0 ∙ A.ensures.same.0) (same.1 ∙ A.ensures.same.1) (same.4 ∙ A.ensures.same.3)
