use Rattle.std.proofs.Common.{sym, ◌∙◌, arith}
use Rattle.log_reader.proofs.NextSeen.{are_bytes}
use Rattle.list_log.proofs.Counted.{batch_left_out, batch_out_of_range}
use Rattle.list_log.proofs.Records.{something}
use Rattle.list_log.proofs.totals.Totals.add_batch.Goals as goal

pub returns-then-not-is_in_range : goal.returns-then-not-is_in_range
returns-then-not-is_in_range c =
    let body = c.args.body.now in
    batch_out_of_range c.args.settings.now c.args.head body c.args.self.now (something c.a_record_shows_one_thing.ensures.some body (are_bytes body (λ k. omega (arith, c.type_inv.body k))))
    (sym c.is_in_range.ensures ∙ c.if-not-is_in_range.true)

pub returns-then-is_left_out : goal.returns-then-is_left_out
returns-then-is_left_out c =
    batch_left_out c.args.settings.now c.args.head c.args.body.now c.args.self.now c.add_operations.new.self c.in_ok-any.any c.in_ok-any.ensures (sym c.is_left_out.ensures ∙ c.if-is_left_out.true)
