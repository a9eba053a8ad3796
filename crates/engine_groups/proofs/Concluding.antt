-- What a client concludes from the answer to its request, whether that was answered in a group or met a stall.
use Rattle.std.proofs.Common.{◌≡◌, ◌⊎◌, ℕ, false, ◌≤◌, List, [], ◌∷◌, ◌++◌, Option, None, Some, IfOk, IfSome, Result, ⊎_elim, length, refl, sym, ap, ◌∙◌, subst}
use Rattle.std.specs.List.{AllByRecursion}
use mathlib.Core.List.{IsPrefix}
use Rattle.log_writer.specs.declared.group_log.GroupLog.{Ghosts}
use Rattle.model_base.specs.Controller.{look}
use Rattle.model_base.specs.Progress.{early_refusal}
use Rattle.model_base.specs.Tokens.{holds_stop, tokens_of, shown_by_tokens}
use Rattle.model_base.proofs.Runs.{later_in}
use Rattle.table_rule.specs.Histories.{Begins, last_of}
use Rattle.line_writers.specs.Seats.{answers_told}
use Rattle.engine_controller.specs.Noted.{Noted}
use Rattle.engine_controller.specs.Passes.{seen_by, seen_by_note, GoesOn, IsNoteOf}
use Rattle.engine_controller.specs.declared.controller.Controller.{Controller}
use Rattle.engine_controller.proofs.Account.{goes_begins, goes_tokens}
use Rattle.engine_parts.specs.declared.log.OpenLog.{OpenLog}
use Rattle.model_accounts.specs.Accounts.{Account}
use Rattle.engine_calls.specs.declared.answers.Receipt.{Receipt}
use Rattle.engine_calls.specs.declared.answers.Refused.{Refused}
use Rattle.engine_rule.specs.Entries.{account_of, SeesMore}
use Rattle.engine_rule.specs.Reading.{IsAtEnd, ReadAnswer, reads_in}
use Rattle.engine_parts.specs.declared.requests.Request.{Request}
use Rattle.engine_parts.specs.declared.requests.Answer.{Answer}
use Rattle.engine_parts.specs.Handled.{AreHandled, IsTurnedAway, ShowsDelay}
use Rattle.engine_parts.specs.Runs.{IsAbove}
use Rattle.engine_groups.specs.Meaning.{Meaning}
use Rattle.engine_groups.specs.declared.engine.GroupEngine.{GroupEngine}
use Rattle.engine_groups.specs.declared.engine.EngineClient.{EngineClient}
use Rattle.engine_groups.specs.Clients.{HasLeftQueue, IsAnsweredInGroup, IsLeftOut, account_in, map_at_opening, opened_log, own_answers, own_commits, own_sights, settings_of}
use Rattle.engine_groups.proofs.Answered.{Concludes, concludes, concludes_met, newest, sees_on}
use Rattle.engine_groups.proofs.AtEnds.{ends_on}
use Rattle.engine_groups.proofs.Told.{answers_same}
use Rattle.engine_groups.proofs.AtStall.{leader_later, met_leader, met_self}

-- the note of an answer is the controller's
pub note_is : {C D T S U P : Type 0} {ghosts : Ghosts D} (controller : Controller C) (opened : OpenLog D ghosts) (start : ℕ) (q : Request) (p : Answer) (v w : EngineClient D T C S U P ghosts)
    → IsAnsweredInGroup controller opened start q p v w ⊎ IsLeftOut controller q p v w → q.since ≡ None → IfSome p.note (IsNoteOf controller)
note_is {C} {D} {T} {S} {U} {P} {ghosts} controller opened start q p v w answered writes =
    let there : IsAnsweredInGroup controller opened start q p v w → IfSome p.note (IsNoteOf controller) = λ h.
    let n = (newest (ShowsDelay controller) v.number h.answered.handled (answers_told v.writer) _ p h.answered.own h.answered.are_handled.shown).1.noted writes in
    subst (λ (o : Option Noted). IfSome o (IsNoteOf controller)) (sym n.1) n.2 in
    let left : IsLeftOut controller q p v w → IfSome p.note (IsNoteOf controller) = λ h.
    let dropped : HasLeftQueue controller q p w → IfSome p.note (IsNoteOf controller) = λ d. subst (λ n. IfSome n (IsNoteOf controller)) (sym d.dropped.noted) d.dropped.own in
    let away : IsTurnedAway v.number (seen_by v.pass) (seen_by w.pass) q p → IfSome p.note (IsNoteOf controller) = λ t. subst (λ n. IfSome n (IsNoteOf controller)) (sym t.no_note) tt in
    ⊎_elim dropped away h.why in
    ⊎_elim there left answered

-- its reads of the log were at ends of what it has seen
pub ends_joined : {C D T S U P : Type 0} {ghosts : Ghosts D} (meaning : Meaning T S U P) (controller : Controller C) (opened : OpenLog D ghosts) (start : ℕ) (q : Request) (p : Answer) (v w : EngineClient D T C S U P ghosts)
    → IsAnsweredInGroup controller opened start q p v w ⊎ IsLeftOut controller q p v w → q.since ≡ None → Begins (meaning.account v.seat).seen (meaning.account w.seat).seen
    → AllByRecursion (IsAtEnd start (meaning.account v.seat).seen) (reads_in (own_answers (answers_told v.writer))) → AllByRecursion (IsAtEnd start (meaning.account w.seat).seen) (reads_in (own_answers (answers_told w.writer)))
ends_joined {C} {D} {T} {S} {U} {P} {ghosts} meaning controller opened start q p v w answered writes sees ends =
    let now = (meaning.account w.seat).seen in
    let mine = answers_told v.writer in
    let more = ends_on start (meaning.account v.seat).seen now (reads_in (own_answers mine)) sees ends in
    let there : IsAnsweredInGroup controller opened start q p v w → AllByRecursion (IsAtEnd start now) (reads_in (own_answers (answers_told w.writer))) = λ h.
    subst (λ (l : List ReadAnswer). AllByRecursion (IsAtEnd start now) (reads_in l)) (sym (ap own_answers h.answered.told_now ∙ answers_same mine (record q { note = Some h.note }) p writes)) more in
    let left : IsLeftOut controller q p v w → AllByRecursion (IsAtEnd start now) (reads_in (own_answers (answers_told w.writer))) = λ h.
    subst (λ (l : List (Request × Answer)). AllByRecursion (IsAtEnd start now) (reads_in (own_answers l))) (sym h.told_same) more in
    ⊎_elim there left answered

-- The client is `v` before the call. It joins the line with another seat and without its envelope; it is `w` once it
-- has the answer, and `x` once it has seen what the answer speaks of.
module _ {D T C G S U P : Type 0} {ghosts : Ghosts D} (meaning : Meaning T S U P) (e : GroupEngine D T C G S U P ghosts) (v : EngineClient D T C S U P ghosts) (seat : S) (envelope : Option (Unit {0})) (w x : EngineClient D T C S U P ghosts) (q : Request) (p : Answer) (starts : v.start ≡ (meaning.opening e.table).start)
    (number : x.number ≡ w.number) (start : x.start ≡ w.start) (writer : x.writer ≡ w.writer) (table : x.table ≡ w.table) (sees : Begins (meaning.account v.seat).seen (meaning.account x.seat).seen) (first : SeesMore v.number (seen_by v.pass) (seen_by w.pass)) (goes : GoesOn w.number (seen_by w.pass) (seen_by x.pass))
    (noted : IfSome p.note (λ (n : Noted). IsPrefix (seen_by_note n) (seen_by x.pass))) (published : IfOk p.answer (λ (r : Receipt). r.group_last ≤ last_of (meaning.opening e.table).start (meaning.account x.seat).seen))
    (passed : early_refusal e.families e.batch_bytes (holds_stop (tokens_of v.number (seen_by v.pass))) q.batch.records q.options ≡ None) (free : holds_stop (tokens_of v.number (seen_by v.pass)) ≡ false) (above : IsAbove (last_of v.start (meaning.account v.seat).seen) p.answer)
    (unseen : IfSome p.note (λ (n : Noted). IsAbove (shown_by_tokens (seen_by_note n)) p.answer)) (had : last_of v.start (meaning.account v.seat).seen ≤ q.shown) where
  abbrev joining : EngineClient D T C S U P ghosts
  joining = record v { seat = seat; envelope = envelope }

  abbrev Ends : Account → Type 0
  Ends a = Concludes (opened_log e) (settings_of meaning e) (account_in meaning v) q.batch q.options p.answer a

  goes_own : w.number ≡ v.number → GoesOn v.number (seen_by w.pass) (seen_by x.pass)
  goes_own same = subst (λ (k : ℕ). GoesOn k (seen_by w.pass) (seen_by x.pass)) same goes

  sees_more : w.number ≡ v.number → SeesMore v.number (seen_by v.pass) (seen_by x.pass)
  sees_more same =
      let on = goes_own same in
      sees_on v.number (seen_by v.pass) (seen_by w.pass) (seen_by x.pass) first (record { begins = goes_begins v.number (seen_by w.pass) (seen_by x.pass) on; tokens = goes_tokens v.number (seen_by w.pass) (seen_by x.pass) on })

  -- its account, by its numbers before the call
  as_account : w.number ≡ v.number → w.start ≡ v.start → w.table ≡ v.table → (mine : List (Request × Answer)) → answers_told w.writer ≡ mine
      → Ends (account_of v.start (map_at_opening meaning v.table.value) v.number (own_commits v.number mine) (own_sights v.number mine) (own_answers mine) (meaning.account x.seat).seen (seen_by x.pass)) → Ends (account_in meaning x)
  as_account nu st tb mine told h =
      let st2 : v.start ≡ x.start = sym (start ∙ st) in let tb2 : v.table ≡ x.table = sym (table ∙ tb) in let nu2 : v.number ≡ x.number = sym (number ∙ nu) in
      let told2 : mine ≡ answers_told x.writer = sym told ∙ ap answers_told (sym writer) in
      subst Ends (λ i. account_of (st2 i) (map_at_opening meaning (tb2 i).value) (nu2 i) (own_commits (nu2 i) (told2 i)) (own_sights (nu2 i) (told2 i)) (own_answers (told2 i)) (meaning.account x.seat).seen (seen_by x.pass)) h

  in_group : IsAnsweredInGroup e.controller (opened_log e) (meaning.opening e.table).start q p joining w → q.since ≡ None → Ends (account_in meaning x)
  in_group h writes =
      let A = h.answered in let r = record q { note = Some h.note } in
      let kept = subst (λ (n : ℕ). AreHandled e.controller (opened_log e) n A.handled) (sym starts) A.are_handled in
      let reached = subst (λ (n : ℕ). IfOk p.answer (λ (r : Receipt). r.group_last ≤ last_of n (meaning.account x.seat).seen)) (sym starts) published in
      as_account A.number A.start_same A.table_same (answers_told v.writer ++ (r, p) ∷ []) A.told_now
      (concludes e.controller (opened_log e) v.start (map_at_opening meaning v.table.value) v.number (settings_of meaning e) r p (answers_told v.writer) A.handled kept A.own (meaning.account v.seat).seen (meaning.account x.seat).seen sees (seen_by v.pass) (seen_by x.pass) (sees_more A.number) h.shows noted passed free above unseen had writes p.answer refl reached)

  module _ (A : IsLeftOut e.controller q p joining w) where
    abbrev own : Account
    own = account_of v.start (map_at_opening meaning v.table.value) v.number (own_commits v.number (answers_told v.writer)) (own_sights v.number (answers_told v.writer)) (own_answers (answers_told v.writer)) (meaning.account x.seat).seen (seen_by x.pass)

    left_queue : HasLeftQueue e.controller q p w → Ends own
    left_queue h =
        let d = h.dropped in let told = seen_by_note d.note in let noted_now = seen_by_note h.note in
        let front : IsPrefix told (seen_by x.pass) = subst (λ n. IfSome n (λ (m : Noted). IsPrefix (seen_by_note m) (seen_by x.pass))) d.noted noted in
        let met = met_leader v.number noted_now (seen_by w.pass) (seen_by x.pass) told d.numbers h.shows (goes_own A.number) front d.looked d.shown in
        let later = leader_later (seen_by v.pass) noted_now (seen_by w.pass) (seen_by x.pass) told d.numbers h.shows first.begins front d.looked in
        subst (λ (a : Result Receipt Refused). Concludes (opened_log e) (settings_of meaning e) (account_in meaning v) q.batch q.options a own) (sym d.answer)
        (concludes_met (opened_log e) (settings_of meaning e) v.start (map_at_opening meaning v.table.value) v.number (own_commits v.number (answers_told v.writer)) (own_sights v.number (answers_told v.writer)) (own_answers (answers_told v.writer)) q.batch q.options (meaning.account v.seat).seen (meaning.account x.seat).seen (seen_by v.pass) (seen_by x.pass) d.numbers d.looked.by d.looked.place
        sees (sees_more A.number) passed free d.may_not_wait later met)

    turned_away : IsTurnedAway v.number (seen_by v.pass) (seen_by w.pass) q p → Ends own
    turned_away t =
        let front = goes_begins v.number (seen_by w.pass) (seen_by x.pass) (goes_own A.number) in
        let met = met_self v.number (seen_by w.pass) (seen_by x.pass) t.place t.numbers front t.met in
        let later = later_in (seen_by w.pass) (seen_by x.pass) front (length (seen_by v.pass)) t.place (record { client = v.number; action = look; told = Some t.numbers }) t.is_later in
        subst (λ (a : Result Receipt Refused). Concludes (opened_log e) (settings_of meaning e) (account_in meaning v) q.batch q.options a own) (sym t.answer)
        (concludes_met (opened_log e) (settings_of meaning e) v.start (map_at_opening meaning v.table.value) v.number (own_commits v.number (answers_told v.writer)) (own_sights v.number (answers_told v.writer)) (own_answers (answers_told v.writer)) q.batch q.options (meaning.account v.seat).seen (meaning.account x.seat).seen (seen_by v.pass) (seen_by x.pass) t.numbers v.number t.place
        sees (sees_more A.number) passed free t.may_not_wait later met)

    left_out : Ends (account_in meaning x)
    left_out = as_account A.number A.start_same A.table_same (answers_told v.writer) A.told_same (⊎_elim left_queue turned_away A.why)

  pub concludes_either : IsAnsweredInGroup e.controller (opened_log e) (meaning.opening e.table).start q p joining w ⊎ IsLeftOut e.controller q p joining w → q.since ≡ None → Ends (account_in meaning x)
  concludes_either answered writes = ⊎_elim (λ h. in_group h writes) left_out answered
