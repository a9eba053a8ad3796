use Rattle.std.proofs.Common.{◌+◌, ◌-◌, ℕ, ◌++◌, List, take, replicate, false, ◌∙◌, ap, subst}
use Rattle.model_base.specs.Log as log
use Rattle.log_writer.specs.Puts.{Puts}
use Rattle.log_writer.proofs.Putting.{puts_more, puts_cut}
use Rattle.log_writer.proofs.puts.put_piece.Goals as goal

pub returns-in_err-append_zeros-clause-put : goal.returns-in_err-append_zeros-clause-put
returns-in_err-append_zeros-clause-put g c =
    puts_cut g.D.Disk c.args.disk.now c.append_zeros.new.disk (replicate c.args.piece.zeros 0) _ false c.in_err-append_zeros.field-0.0 c.from_residual.result c.from_residual.ensures.0 c.in_err-append_zeros.ensures

pub returns-clause-put : goal.returns-clause-put
returns-clause-put g c =
    let part : List ℕ = take (c.args.piece.end - c.args.piece.start) c.args.rest.now in
    let text : List ℕ = log.header c.args.number c.args.piece.kind part ++ part in
    puts_more g.D.Disk c.args.disk.now c.append_zeros.new.disk c.append.new.disk (replicate c.args.piece.zeros 0) text false c.in_ok-append_zeros.field-0 c.append.result (g.met.D.Disk.is_disk c.args.disk.now) c.in_ok-append_zeros.ensures
    (subst (λ (bytes : List ℕ). Puts g.D.Disk c.append_zeros.new.disk c.append.new.disk bytes false c.append.result)
    (ap (λ (n : ℕ). take (n + (c.args.piece.end - c.args.piece.start)) c.fill.new.block) c.header_len.ensures ∙ c.fill.ensures.filled) c.append.ensures)
