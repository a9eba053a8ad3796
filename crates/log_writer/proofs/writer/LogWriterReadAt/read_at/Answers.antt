use Rattle.std.proofs.Common.{◌≡◌, ◌-◌, min, length, drop, ap, refl, arith, length-take}
use Rattle.log_writer.proofs.ReadFront.{read_front, read_nothing, rest_of_buffer, within_buffer}
use Rattle.log_writer.specs.Reads.{front_of}
use Rattle.log_writer.specs.ReadLaws.{not_read}
use Rattle.log_writer.proofs.writer.LogWriterReadAt.read_at.Goals as goal

pub returns-then-at-self-clause-bytes : goal.returns-then-at-self-clause-bytes
returns-then-at-self-clause-bytes g c =
    let old = c.args.self.now in
    read_nothing (g.D.Disk.told old.disk) old.len c.args.at c.args.buf.now c.if-at-self.true

pub returns-then-at-self-clause-only : goal.returns-then-at-self-clause-only
returns-then-at-self-clause-only g c = not_read c.args.self.now

pub returns-clause-bytes : goal.returns-clause-bytes
returns-clause-bytes g c =
    let old = c.args.self.now in
    let some = c.min-some.result in
    let some_is : some ≡ min (old.len - c.args.at) (length c.args.buf.now) = omega (arith, c.min-some.ensures) in
    let long : length c.read.new.buf ≡ some = omega (arith, c.read.auto.buf, length-take some c.args.buf.now, some_is) in
    read_front (g.D.Disk.told old.disk) old.len c.args.at some c.args.buf.now c.read.new.buf c.read.result (omega (arith, c.if-at-self.false)) some_is long c.read.ensures.bytes

pub returns-clause-at_most : goal.returns-clause-at_most
returns-clause-at_most g c = within_buffer c.read.new.buf (drop c.min-some.result c.args.buf.now) c.read.result c.read.ensures.at_most

pub returns-clause-rest : goal.returns-clause-rest
returns-clause-rest g c =
    let some = c.min-some.result in
    let some_is : some ≡ min (c.args.self.now.len - c.args.at) (length c.args.buf.now) = omega (arith, c.min-some.ensures) in
    let long : length c.read.new.buf ≡ some = omega (arith, c.read.auto.buf, length-take some c.args.buf.now, some_is) in
    rest_of_buffer some c.args.buf.now c.read.new.buf c.read.result (omega (arith, some_is)) long c.read.ensures.at_most c.read.ensures.rest

pub returns-clause-same : goal.returns-clause-same
returns-clause-same g c = ap (front_of c.args.self.now.len) c.read.ensures.same

pub returns-clause-only : goal.returns-clause-only
returns-clause-only g c = record {
  number = refl;
  len = refl;
  fault = refl;
  room = refl;
  disk = record { later = c.read.ensures.cause.later; same = c.read.ensures.same; adds_none = c.read.ensures.adds_none; time = c.read.ensures.time };
}
