use Rattle.std.proofs.Common.{◌≡◌, ◌<◌, ℕ, List, true, length, take, Option, IfSome, sym, ◌∙◌, subst, arith}
use Rattle.model_base.specs.Reading.{are_zeros}
use Rattle.log_reader.proofs.FromDisk.{if_both, Gives}
use Rattle.log_recovery.proofs.Zeros.{more_zeros, other_byte, all_zeros}
use Rattle.log_recovery.proofs.modes.are_zeros_from.Goals as goal

pub loop-len-preserved : goal.loop-len-preserved
loop-len-preserved g c =
    let from = c.args.from in
    let at = c.loop-len.at in
    let len = c.in-Ok.len in
    let piece = c.read_at.new.buf in
    let old = c.loop-len.invariant in
    let told = g.R.ReadAt.held c.args.disk.now in
    let after = old.after in
    let zeros : are_zeros (take len piece) ≡ true = sym c.are_all_zeros.ensures ∙ c.if-not-are_all_zeros.false in
    let gives = subst (λ (t : Option (List ℕ)). IfSome t (Gives at len piece)) (g.met.R.ReadAt.reads_keep _ _ old.disk) c.in-Ok.ensures.bytes in
    record {
      after = omega (arith, after);
      zeros = if_both told _ (Gives at len piece) _ old.zeros gives (λ d before read. more_zeros d piece from at len after before read.1 zeros);
      worked = c.in-Ok.ensures.cause.worked ∙ old.worked;
      disk = g.met.R.ReadAt.reads_on _ _ _ old.disk
          c.in-Ok.ensures.only;
    }

pub returns-then-not-are_all_zeros-clause-decided : goal.returns-then-not-are_all_zeros-clause-decided
returns-then-not-are_all_zeros-clause-decided g c =
    let from = c.args.from in
    let at = c.loop-len.at in
    let len = c.in-Ok.len in
    let piece = c.read_at.new.buf in
    let old = c.loop-len.invariant in
    let told = g.R.ReadAt.held c.args.disk.now in
    let other = sym c.are_all_zeros.ensures ∙ c.if-not-are_all_zeros.true in
    let gives = subst (λ (t : Option (List ℕ)). IfSome t (Gives at len piece)) (g.met.R.ReadAt.reads_keep _ _ old.disk) c.in-Ok.ensures.bytes in
    if_both told _ (Gives at len piece) _ old.zeros gives (λ d before read. other_byte d piece from at len old.after before read.1 other)

pub returns-then-len-eq0-clause-decided : goal.returns-then-len-eq0-clause-decided
returns-then-len-eq0-clause-decided g c =
    let from = c.args.from in
    let at = c.loop-len.at in
    let len = c.in-Ok.len in
    let piece = c.read_at.new.buf in
    let old = c.loop-len.invariant in
    let told = g.R.ReadAt.held c.args.disk.now in
    let room : 0 < length piece = omega (arith, c.read_at.auto.buf) in
    let gives = subst (λ (t : Option (List ℕ)). IfSome t (Gives at len piece)) (g.met.R.ReadAt.reads_keep _ _ old.disk) c.in-Ok.ensures.bytes in
    if_both told _ (Gives at len piece) _ old.zeros gives (λ d before read. all_zeros d piece from at len old.after before read.0 c.if-len-eq0.true room)
