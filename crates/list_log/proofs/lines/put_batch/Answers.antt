use Rattle.std.proofs.Common.{ℕ, take, sym, ◌∙◌, ap, subst, arith}
use Rattle.log_reader.proofs.NextSeen.{are_bytes}
use Rattle.list_log.specs.Texts.{TellsBatch}
use Rattle.list_log.proofs.Records.{batch_shown, batch_left_out, batch_out_of_range, something}
use Rattle.list_log.proofs.lines.put_batch.Goals as goal

pub returns-then-not-is_in_range : goal.returns-then-not-is_in_range
returns-then-not-is_in_range c =
    let body = c.args.body.now in
    batch_out_of_range c.args.settings.now c.args.last c.args.place c.args.head body c.args.text.now
    (something c.a_record_shows_one_thing.ensures.some body (are_bytes body (λ k. omega (arith, c.type_inv.body k))))
    (sym c.is_in_range.ensures ∙ c.if-not-is_in_range.true)

pub returns-then-is_left_out : goal.returns-then-is_left_out
returns-then-is_left_out c =
    let settings = c.args.settings.now in
    let old = c.args.text.now in
    let cut = c.truncate.ensures ∙ ap (λ (n : ℕ). take n c.put_whole.new.text) c.len-before.ensures in
    subst (TellsBatch settings c.args.last c.args.place c.args.head c.args.body.now old) (sym cut)
    (batch_left_out settings c.args.last c.args.place c.args.head c.args.body.now old c.put_whole.new.text c.in_ok-any.any c.in_ok-any.ensures (sym c.is_left_out.ensures ∙ c.if-is_left_out.true))

pub returns : goal.returns
returns c =
    batch_shown c.args.settings.now c.args.last c.args.place c.args.head c.args.body.now c.args.text.now c.put_whole.new.text c.in_ok-any.any (sym c.is_in_range.ensures ∙ c.if-not-is_in_range.false) c.in_ok-any.ensures
    (sym c.is_left_out.ensures ∙ c.if-is_left_out.false)
