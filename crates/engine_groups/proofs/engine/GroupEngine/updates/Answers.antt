use Rattle.std.proofs.Common.{◌≡◌, ℕ, List, false, Some, Result, Ok, Err, IfOk, IfErr, refl, sym, ap, ◌∙◌, subst}
use Rattle.std.specs.List.{AllByRecursion}
use Rattle.std.specs.Result.{IsErrAnd}
use Rattle.model_base.specs.Tokens.{holds_stop, tokens_of}
use Rattle.model_base.proofs.Prefixes.{prefix_self}
use Rattle.model_accounts.specs.Accounts.{Account, ReadsLog}
use Rattle.table_rule.specs.Histories.{last_of}
use Rattle.engine_controller.specs.Passes.{seen_by}
use Rattle.engine_controller.specs.declared.pass.Pass.{Pass}
use Rattle.engine_calls.specs.Reading.{FailsFor}
use Rattle.engine_calls.specs.declared.answers.SinceRefused.TheVariants.{NoMemory}
use Rattle.engine_rule.specs.Entries.{ClientCall, HasSeenMore, SeesMore, account_told}
use Rattle.engine_rule.specs.Reading.{IsAtEnd, ReadAnswer, reads_in}
use Rattle.engine_parts.specs.declared.requests.Answer.{Answer}
use Rattle.engine_parts.specs.declared.requests.Request.{Request}
use Rattle.engine_parts.specs.Handled.{read_answer}
use Rattle.engine_parts.specs.Logs.{faults_of}
use Rattle.engine_parts.specs.ReadAnswers.{HasReadTo}
use Rattle.engine_groups.specs.Clients.{IsReadBy, account_in, map_at_opening, opened_log, own_answers, own_commits, own_sights, settings_of, told_of}
use Rattle.engine_groups.proofs.Answered.{keeps_self}
use Rattle.engine_groups.proofs.AtEnds.{ends_more, ends_on, ends_read}
use Rattle.engine_groups.proofs.ClientMoves.{envelope_moved, same_tokens}
use Rattle.engine_groups.proofs.ReadsLog.{concludes_read, told_account}
use Rattle.engine_groups.proofs.Told.{answers_more}
use Rattle.engine_groups.proofs.engine.GroupEngine.updates.Goals as goal

-- the client holds a stop token

pub returns-then-is_stopping-clause-err : goal.returns-then-is_stopping-clause-err
returns-then-is_stopping-clause-err g c =
    let v = c.args.client.now in
    let held = sym (c.is_stopping.ensures ∙ ap holds_stop (same_tokens g.Versions.Table c.args.self.now v c.requires)) ∙ c.if-is_stopping.true in
    (held, keeps_self (account_in g.Versions.Table v) refl)

-- there was no memory

err_as : {A E : Type 0} (r : Result A E) (P : E → Type 0) (w : E) → IsErrAnd r (λ e. e ≡ w) → P w → IfErr r P
err_as (Ok x) P w h p = tt
err_as (Err e) P w h p = subst P (sym h) p

pub returns-in_err-batch-clause-err : goal.returns-in_err-batch-clause-err
returns-in_err-batch-clause-err g c =
    let v = c.args.client.now in let e = c.args.self.now in let account = account_in g.Versions.Table v in
    let free = sym (c.is_stopping.ensures ∙ ap holds_stop (same_tokens g.Versions.Table e v c.requires)) ∙ c.if-is_stopping.false in
    err_as c.from_residual.result (λ why. FailsFor (settings_of g.Versions.Table e) account why account) NoMemory c.from_residual.ensures.1 (free, keeps_self account refl)

pub ask_log-requires-clause-client : goal.ask_log-requires-clause-client
ask_log-requires-clause-client g c = envelope_moved g.Versions.Table c.args.self.now c.args.client.now c.take.new.self c.requires.idle

pub ask_log-requires-clause-read : goal.ask_log-requires-clause-read
ask_log-requires-clause-read g c = (c.args.since, ap (λ (q : Request). q.since) c.ask.ensures)

pub ask_log-requires-clause-note : goal.ask_log-requires-clause-note
ask_log-requires-clause-note g c = ap (λ (q : Request). q.note) c.ask.ensures

pub returns : goal.returns
returns g c =
    let meaning = g.Versions.Table in let e = c.args.self.now in let v = c.args.client.now in let settings = settings_of meaning e in
    let opened = opened_log e in let start = (meaning.opening e.table).start in
    let free : holds_stop (tokens_of v.number (seen_by v.pass)) ≡ false = sym (c.is_stopping.ensures ∙ ap holds_stop (same_tokens meaning e v c.requires)) ∙ c.if-is_stopping.false in
    let v1 = record v { envelope = c.take.new.self } in let w1 = c.ask_log.new.client in let w = record w1 { envelope = Some tt } in
    let reads : c.ask.result.since ≡ Some c.args.since = ap (λ (q : Request). q.since) c.ask.ensures in
    let A : IsReadBy meaning opened c.ask.result c.ask_log.result v1 w1 = c.ask_log.ensures.answered in
    let p = c.ask_log.result in let read = c.in-Some-read.read in
    let is : p.read ≡ Some read = ap (λ (a : Answer). a.read) (sym c.open-told.ensures) ∙ c.in-Some-read.is in
    let known = seen_by v.pass in let now = (meaning.account w1.seat).seen in
    let pass = c.ask_log.ensures.seen.1 in
    let k : ClientCall = record {
      start = v.start;
      opening = map_at_opening meaning v.table.value;
      client = v.number;
      own = own_commits v.number (told_of v);
      sights = own_sights v.number (told_of v);
      answers = own_answers (told_of v);
      before = (meaning.account v.seat).seen;
      after = now;
      known = known;
      now = seen_by w1.pass;
    } in
    let more : HasSeenMore k = (c.ask_log.ensures.seen.0, subst (λ (x : Pass). SeesMore v.number known (seen_by x)) (sym pass) (record { begins = prefix_self known; tokens = refl })) in
    let laws = c.accounts_of_the_reads.ensures in
    let reached = subst (HasReadTo (faults_of opened) (last_of v.start now)) is A.read in
    let all = concludes_read settings k c.args.since (λ r at. laws.gave k r more at) (λ count rose. laws.broke settings k count more rose) (laws.lacked k more) free read reached in
    let account : account_told k (read_answer c.args.since (Some read)) ≡ account_in meaning w = ap (λ o. account_told k (read_answer c.args.since o)) (sym is) ∙ told_account meaning opened v1 w1 c.ask.result p c.args.since reads A pass in
    let given = subst (λ (a : Account). IfOk read (λ r. (holds_stop (account_in meaning v).asked ≡ false) × ReadsLog (account_in meaning v) c.args.since r.at r.records a) × IfErr read (λ why. FailsFor settings (account_in meaning v) why a)) account all in
    record {
      belongs = record {
        idle = envelope_moved meaning e w1 (Some tt) c.ask_log.ensures.fits;
        at_ends = subst (λ (l : List ReadAnswer). AllByRecursion (IsAtEnd start now) (reads_in l)) (sym (ap own_answers A.told_now ∙ answers_more (told_of v) c.ask.result p c.args.since reads))
            (ends_more start now (own_answers (told_of v)) (read_answer c.args.since p.read) (ends_on start (meaning.account v.seat).seen now (reads_in (own_answers (told_of v))) c.ask_log.ensures.seen.0 c.requires.at_ends)
            (ends_read (faults_of opened) start c.args.since now p.read (subst (λ (n : ℕ). HasReadTo (faults_of opened) (last_of n now) p.read) c.requires.idle.seated.start A.read)));
        envelope = refl;
      };
      ok = given.0;
      err = given.1;
    }
