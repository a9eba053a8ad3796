use Rattle.std.proofs.Common.{◌≡◌, ◌⊎◌, max, arith, Bool, true, false, None, Some, IfSome, inl, inr, refl, sym, ap, ◌∙◌, subst}
use Rattle.model_base.specs.Controller.{look}
use Rattle.model_base.specs.Progress.{early_refusal}
use Rattle.model_base.specs.Tokens.{holds_stop, tokens_of}
use Rattle.line_writers.specs.Seats.{answers_told}
use Rattle.engine_controller.specs.Looks.{look_of}
use Rattle.engine_controller.specs.Passes.{seen_by, EndsWith, IsNoteOf}
use Rattle.engine_calls.specs.declared.answers.Refused.{Refused}
use Rattle.model_accounts.specs.Accounts.{Refuses}
use Rattle.engine_rule.specs.Entries.{account_of}
use Rattle.engine_rule.proofs.Own.{refused_looked}
use Rattle.engine_groups.specs.Clients.{IsAnsweredInGroup, IsLeftOut, map_at_opening, account_in, opened_log, own_answers, own_commits, own_sights, settings_of}
use Rattle.engine_parts.specs.declared.requests.Request.{Request}
use Rattle.engine_parts.specs.declared.requests.Answer.{Answer}
use Rattle.engine_groups.proofs.Answered.{above_all, above_note, above_seen, begins_on, begins_self, impatient_if, none_is, refuses_early, refuses_late}
use Rattle.engine_groups.proofs.ClientMoves.{call_moved, envelope_moved, same_tokens, seat_moved, seen_before}
use Rattle.engine_groups.proofs.Concluding.{concludes_either, ends_joined, note_is}
use Rattle.engine_groups.proofs.engine.GroupEngine.write.Goals as goal

pub returns-in-Some-clause-err : goal.returns-in-Some-clause-err
returns-in-Some-clause-err g c =
    let v = c.args.client.now in let e = c.args.self.now in let settings = settings_of g.Versions.Table e in
    let how = c.args.options in let records = c.args.batch.records in
    let stops = c.is_stopping-stopping.ensures ∙ ap holds_stop (same_tokens g.Versions.Table e v c.requires) in
    let at_once = sym (ap (λ (b : Bool). early_refusal settings.families settings.batch_bytes b records how) stops) ∙ sym (c.refusal_at_once.ensures e.families records c.of-measure.ensures.value) in
    refuses_early settings (account_in g.Versions.Table v) records how c.in-Some.why (at_once ∙ c.in-Some.is) refl

pub returns-then-stopping-clause-belongs : goal.returns-then-stopping-clause-belongs
returns-then-stopping-clause-belongs g c =
    let L = c.look-look.ensures in
    call_moved g.Versions.Table c.args.self.now c.args.client.now c.requires c.look-look.new.pass look (Some (look_of c.look-look.result)) L.own.0 L.own.1 L.asked refl

pub returns-then-stopping-clause-err : goal.returns-then-stopping-clause-err
returns-then-stopping-clause-err g c =
    let S = c.requires.idle.seated in let v = c.args.client.now in let e = c.args.self.now in
    let settings = settings_of g.Versions.Table e in
    let how = c.args.options in let records = c.args.batch.records in
    let stops = c.is_stopping-stopping.ensures ∙ ap holds_stop (same_tokens g.Versions.Table e v c.requires) in
    let at_once = sym (ap (λ (b : Bool). early_refusal settings.families settings.batch_bytes b records how) stops) ∙ sym (c.refusal_at_once.ensures e.families records c.of-measure.ensures.value) in
    let passed = at_once ∙ none_is c.refusal_at_once.result c.in_default.not-Some in
    let stopping : c.is_stopping-stopping.result ≡ true = c.if-stopping.true in
    let held : holds_stop (tokens_of v.number (seen_by v.pass)) ≡ true = sym stops ∙ stopping in
    let L = c.look-look.ensures in let some = L.stopped (sym c.is_stopping-stopping.ensures ∙ stopping) in
    let ends = subst (λ k. EndsWith k (seen_by v.pass) look (Some (look_of c.look-look.result)) (seen_by c.look-look.new.pass)) S.pass_number L.asked in
    let impatient = impatient_if settings.families settings.batch_bytes records how (subst (λ (b : Bool). early_refusal settings.families settings.batch_bytes b records how ≡ None) held passed) in
    let seen = (g.Versions.Table.account v.seat).seen in
    let refused = refused_looked v.start (map_at_opening g.Versions.Table v.table.value) v.number (own_commits v.number (answers_told v.writer)) (own_sights v.number (answers_told v.writer)) (own_answers (answers_told v.writer)) records how seen seen (seen_by v.pass) (seen_by c.look-look.new.pass) (look_of c.look-look.result) (begins_self seen) held ends impatient (inl some) in
    subst (λ (r : Refused). Refuses settings (account_in g.Versions.Table v) records how r.why (account_of v.start (map_at_opening g.Versions.Table v.table.value) v.number (own_commits v.number (answers_told v.writer)) (own_sights v.number (answers_told v.writer)) (own_answers (answers_told v.writer)) seen (seen_by c.look-look.new.pass))) (sym c.refused_by.ensures)
    (refuses_late settings (account_in g.Versions.Table v) records how _ _ passed (inr refused))

pub submit-requires-clause-client : goal.submit-requires-clause-client
submit-requires-clause-client g c =
    let v = c.args.client.now in let L = c.last-shown in
    let loaded = seat_moved g.Versions.Table c.args.self.now v c.requires L.new.seat L.ensures.ours L.ensures.seen in
    envelope_moved g.Versions.Table c.args.self.now (record v { seat = L.new.seat }) c.take.new.self loaded.idle

pub see-requires-clause-client : goal.see-requires-clause-client
see-requires-clause-client g c =
    let v = c.args.client.now in let e = c.args.self.now in let L = c.last-shown in
    let loaded = seat_moved g.Versions.Table e v c.requires L.new.seat L.ensures.ours L.ensures.seen in
    let v1 = record v { seat = L.new.seat; envelope = c.take.new.self } in
    record {
      idle = envelope_moved g.Versions.Table e c.submit.new.client (Some tt) c.submit.ensures.fits;
      at_ends = ends_joined g.Versions.Table e.controller (opened_log e) (g.Versions.Table.opening e.table).start c.ask.result c.submit.result v1 c.submit.new.client c.submit.ensures.answered (ap (λ (q : Request). q.since) c.ask.ensures) c.submit.ensures.seen.0 loaded.at_ends;
      envelope = refl;
    }

pub see-requires-clause-note : goal.see-requires-clause-note
see-requires-clause-note g c =
    let e = c.args.self.now in
    let v = record c.args.client.now { seat = c.last-shown.new.seat; envelope = c.take.new.self } in
    subst (λ (a : Answer). IfSome a.note (IsNoteOf e.controller)) (sym c.open-told.ensures)
    (note_is e.controller (opened_log e) (g.Versions.Table.opening e.table).start c.ask.result c.submit.result v c.submit.new.client c.submit.ensures.answered (ap (λ (q : Request). q.since) c.ask.ensures))

pub returns : goal.returns
returns g c =
    let S = c.requires.idle.seated in let v = c.args.client.now in let e = c.args.self.now in
    let batch_bytes = e.batch_bytes in let how = c.args.options in let records = c.args.batch.records in
    let stops = c.is_stopping-stopping.ensures ∙ ap holds_stop (same_tokens g.Versions.Table e v c.requires) in
    let at_once = sym (ap (λ (b : Bool). early_refusal e.families batch_bytes b records how) stops) ∙ sym (c.refusal_at_once.ensures e.families records c.of-measure.ensures.value) in
    let passed = at_once ∙ none_is c.refusal_at_once.result c.in_default.not-Some in
    let free : holds_stop (tokens_of v.number (seen_by v.pass)) ≡ false = sym stops ∙ c.if-stopping.false in
    let p = c.open-told.result.0 in let L = c.last-shown in
    let v1 = record v { seat = L.new.seat; envelope = c.take.new.self } in
    let w1 = c.submit.new.client in let w2 = c.see.new.client in let E = c.see.ensures in
    let opened = opened_log e in let start = (g.Versions.Table.opening e.table).start in
    let A = subst (λ (z : Request × Answer). IsAnsweredInGroup e.controller opened start z.0 z.1 v1 w1 ⊎ IsLeftOut e.controller z.0 z.1 v1 w1) (λ i. (c.ask.ensures i, sym c.open-told.ensures i)) c.submit.ensures.answered in
    let loaded = (g.Versions.Table.account L.new.seat).seen in
    let before = (g.Versions.Table.account v.seat).seen in let between = (g.Versions.Table.account w1.seat).seen in let now = (g.Versions.Table.account w2.seat).seen in
    let sees = begins_on before between now (begins_on before loaded between L.ensures.seen.seen c.submit.ensures.seen.0) E.seen.0 in
    let most : c.max-most.result ≡ max L.result c.shown_by.result = c.max-most.ensures in
    let above = above_seen v.start start L.result before loaded p.answer S.start L.ensures.seen.seen L.ensures.value (above_all L.result c.max-most.result p.answer (omega (arith, most)) c.await_above.ensures) in
    let unseen = above_note p.note c.shown_by.result c.max-most.result p.answer c.shown_by.ensures (omega (arith, most)) c.await_above.ensures in
    let had = seen_before g.Versions.Table e v c.requires L.new.seat L.result L.ensures.seen.seen L.ensures.value in
    let all = concludes_either g.Versions.Table e v L.new.seat c.take.new.self w1 w2 _ p S.start E.same.0 E.same.1 E.same.2 E.same.3 sees c.submit.ensures.seen.1 E.seen.1 E.noted E.published passed free above unseen had A refl in
    record { belongs = E.fits; ok = all.accepted; back = all.back; logged = all.logged; err = all.refused; unchanged = all.unchanged }

pub submit-requires-clause-write : goal.submit-requires-clause-write
submit-requires-clause-write g c = ap (λ (q : Request). q.since) c.ask.ensures
