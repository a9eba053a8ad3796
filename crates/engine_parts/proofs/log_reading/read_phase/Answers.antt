use Rattle.std.proofs.Common.{◌≡◌, ◌++◌, ◌∷◌, [], ℕ, IfOk, ap, sym, ◌∙◌, subst}
use Rattle.engine_rule.specs.Reading.{IsRight}
use Rattle.engine_parts.specs.declared.requests.Answer.{Answer}
use Rattle.engine_parts.specs.LogLaw.{StandsForPast, with_read}
use Rattle.engine_parts.specs.Logs.{Had}
use Rattle.engine_parts.proofs.LogReading.{same_since, stands_with_read}
use Rattle.engine_parts.proofs.log_reading.read_phase.Goals as goal

pub returns-clause-path : goal.returns-clause-path
returns-clause-path g c = λ clients past one is.
    let path = c.args.path.now in
    let now = c.read_log-read.new.path in
    let e = c.read_log-read.ensures in
    let r = c.read_log-read.result in
    let requests = c.args.requests.now.items in
    let replies = c.push_reserved.new.self.items in
    let y : ℕ × Answer = (c.in-Some.client, c.tell.result) in
    let told : replies ≡ y ∷ [] = c.push_reserved.ensures.items ∙ ap (λ l. l ++ y ∷ []) c.requires.replies.0 in
    let since : c.in-Some-since.since ≡ one.since =
    same_since clients requests one (c.in-Some.client, c.in-Some.request) c.take_first.new.items.items c.in-Some.ensures.first c.in-Some-since.since (ap (λ q. q.since) (sym c.open-request.ensures) ∙ c.in-Some-since.is) in
    let right = subst (λ (s : ℕ). IfOk r (λ t. IsRight (Had past.opened past.start) path.last is.calls (record { since = s; at = c.args.at; records = t.records }))) since (e.right clients past is c.requires.at) in
    subst (λ (z : ℕ × ℕ). StandsForPast clients (with_read past requests replies) now.log now.places z.0 z.1) (λ i. (sym e.stays.1 i, sym e.stays.2 i))
    (stands_with_read clients past path.log now.log path.places now.places path.last path.made is
    (g.met.Log.ReadableLog.stays_written past.opened.log path.log.log now.log.log is.calls is.wrote e.stays.0)
    (g.met.Log.ReadableLog.stays_failed path.log.log now.log.log e.stays.0)
    (g.met.Log.ReadableLog.stays_counted path.log.log now.log.log e.stays.0)
    (e.begins clients past is)
    requests replies one y told c.args.at r (ap (λ (a : Answer). a.read) c.tell.ensures) e.counted e.at right)
