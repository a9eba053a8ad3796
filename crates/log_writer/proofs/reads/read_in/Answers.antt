use Rattle.std.proofs.Common.{◌≡◌, get_or, ap}
use Rattle.log_writer.proofs.ReadsIn.{full_bytes, full_were_read, full_lens, full_cause, current_bytes, current_cause}
use Rattle.log_writer.specs.ReadLaws.{not_read, none_were_read}
use Rattle.log_writer.proofs.reads.read_in.Goals as goal

-- One of those that are full is read.

pub returns-then-which-full-clause-bytes : goal.returns-then-which-full-clause-bytes
returns-then-which-full-clause-bytes g c =
    let full = c.args.full.now in
    let which = c.args.which in
    let log = get_or full which c.index-full-which.result in
    let is : log ≡ get_or full which log = ap (λ x. get_or full which x) c.index-full-which.is in
    full_bytes full c.args.current.now which log c.args.at c.read_at.new.buf c.read_at.result c.if-which-full.true is c.read_at.ensures.bytes

pub returns-then-which-full-clause-full : goal.returns-then-which-full-clause-full
returns-then-which-full-clause-full g c =
    let full = c.args.full.now in
    let which = c.args.which in
    let log = get_or full which c.index-full-which.result in
    let is : log ≡ get_or full which log = ap (λ x. get_or full which x) c.index-full-which.is in
    full_were_read full which log c.read_at.new.self c.if-which-full.true is c.read_at.ensures.only

pub returns-then-which-full-clause-current : goal.returns-then-which-full-clause-current
returns-then-which-full-clause-current g c = not_read c.args.current.now

pub returns-then-which-full-clause-lens : goal.returns-then-which-full-clause-lens
returns-then-which-full-clause-lens g c =
    let full = c.args.full.now in
    let which = c.args.which in
    let log = get_or full which c.index-full-which.result in
    let is : log ≡ get_or full which log = ap (λ x. get_or full which x) c.index-full-which.is in
    full_lens full which log c.read_at.new.self c.if-which-full.true is c.read_at.ensures.only

pub returns-then-which-full-clause-cause : goal.returns-then-which-full-clause-cause
returns-then-which-full-clause-cause g c =
    let full = c.args.full.now in
    let which = c.args.which in
    let log = get_or full which c.index-full-which.result in
    let is : log ≡ get_or full which log = ap (λ x. get_or full which x) c.index-full-which.is in
    full_cause full c.args.current.now which log c.read_at.new.self c.read_at.result c.if-which-full.true is c.read_at.ensures.cause

-- What comes after them is read.

pub returns-else-which-full-clause-bytes : goal.returns-else-which-full-clause-bytes
returns-else-which-full-clause-bytes g c =
    current_bytes c.args.full.now c.args.current.now c.args.which c.args.at c.read_current.new.buf c.read_current.result c.if-which-full.false c.read_current.ensures.bytes

pub returns-else-which-full-clause-full : goal.returns-else-which-full-clause-full
returns-else-which-full-clause-full g c = none_were_read c.args.full.now

pub returns-else-which-full-clause-cause : goal.returns-else-which-full-clause-cause
returns-else-which-full-clause-cause g c =
    current_cause c.args.full.now c.args.current.now c.read_current.new.current c.read_current.result c.read_current.ensures.cause
