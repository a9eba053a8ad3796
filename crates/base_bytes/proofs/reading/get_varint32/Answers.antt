use Rattle.std.proofs.Common.{◌≡◌, ◌+◌, ◌-◌, ℕ, List, length, take, drop, length-drop, ap, ◌∙◌, sym, arith}
use Rattle.std.proofs.Math.Seq.{take-length}
use Rattle.base_bytes.proofs.Spellings.{spelled_as}
use Rattle.base_bytes.proofs.OneAnswer.{one_front, no_error, one_error}
use Rattle.base_bytes.proofs.reading.get_varint32.Goals as goal

-- taking as many bytes from a place on as there are takes all of them
from : (at : ℕ) (bytes : List ℕ) → take (length bytes - at) (drop at bytes) ≡ drop at bytes
from at bytes = ap (λ (n : ℕ). take n (drop at bytes)) (sym (length-drop at bytes)) ∙ take-length (drop at bytes)

pub returns-in-Ok-clause-spelled : goal.returns-in-Ok-clause-spelled
returns-in-Ok-clause-spelled c =
    let read = rw (from c.args.at c.args.bytes.now) at c.in-Ok.ensures.ok in
    let used : c.args.at + c.in-Ok.used - c.args.at ≡ c.in-Ok.used = omega arith in
    rw used (spelled_as (take c.in-Ok.used (drop c.args.at c.args.bytes.now)) c.in-Ok.n read.fits read.spelled)

pub returns-in-Ok-clause-reads : goal.returns-in-Ok-clause-reads
returns-in-Ok-clause-reads c = λ n used front.
    let read = rw (from c.args.at c.args.bytes.now) at c.in-Ok.ensures.ok in
    let same = one_front (drop c.args.at c.args.bytes.now) c.in-Ok.n c.in-Ok.used n used read front in
    rw (same.0, same.1)

pub returns-in-Ok-clause-refuses : goal.returns-in-Ok-clause-refuses
returns-in-Ok-clause-refuses c = λ e is.
    let read = rw (from c.args.at c.args.bytes.now) at c.in-Ok.ensures.ok in
    absurd (no_error (drop c.args.at c.args.bytes.now) c.in-Ok.n c.in-Ok.used e read is)

pub returns-in-Err-clause-reads : goal.returns-in-Err-clause-reads
returns-in-Err-clause-reads c = λ n used front.
    let wrong = rw (from c.args.at c.args.bytes.now) at c.in-Err.ensures.err in
    absurd (no_error (drop c.args.at c.args.bytes.now) n used c.in-Err.error front wrong)

pub returns-in-Err-clause-refuses : goal.returns-in-Err-clause-refuses
returns-in-Err-clause-refuses c = λ e is.
    let wrong = rw (from c.args.at c.args.bytes.now) at c.in-Err.ensures.err in
    rw (one_error (drop c.args.at c.args.bytes.now) c.in-Err.error e wrong is)
