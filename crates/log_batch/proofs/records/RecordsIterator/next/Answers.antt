use Rattle.std.proofs.Common.{◌≡◌, ◌∷◌, sym, ◌∙◌, arith, rules}
use Rattle.log_batch.specs.Body.{IsBody}
use Rattle.log_batch.specs.OneBody.{same_records}
use Rattle.log_batch.specs.View.{record_of}
use Rattle.log_batch.proofs.OneReading.{no_bytes, behind_first, no_error_inside}
use Rattle.log_batch.proofs.records.RecordsIterator.next.Goals as goal

pub returns-then-is_empty-clause-steps : goal.returns-then-is_empty-clause-steps
returns-then-is_empty-clause-steps c =
    let old = c.self.inside in
    let none = sym c.self.view_is ∙ no_bytes old.rest.now old.holds (search rules) in
    (none, none)

pub invariant_of-self-inside : goal.invariant_of-self-inside
invariant_of-self-inside c =
    let old = c.self.inside in
    ((behind_first old.rest.now old.holds (record_of c.in-Ok.record) c.in-Ok.rest.now c.in-Ok.ensures.readable c.in-Ok.ensures.spelled).0, tt)

pub unreachable-requires : goal.unreachable-requires
unreachable-requires c =
    let old = c.self.inside in
    no_error_inside old.rest.now old.holds.records c.in-Err.field-0 old.holds.readable old.holds.spelled (search rules) c.in-Err.ensures.err

pub returns-clause-steps : goal.returns-clause-steps
returns-clause-steps c =
    let old = c.self.inside in
    let behind = behind_first old.rest.now old.holds (record_of c.in-Ok.record) c.in-Ok.rest.now c.in-Ok.ensures.readable c.in-Ok.ensures.spelled in
    let are : (h : IsBody c.in-Ok.rest.now) → h.records ≡ behind.0.records = λ h. same_records c.in-Ok.rest.now h behind.0 in
    rw are (sym c.self.view_is ∙ behind.1)

pub returns-clause-goes : goal.returns-clause-goes
returns-clause-goes c =
    let old = c.self.inside in
    let behind = behind_first old.rest.now old.holds (record_of c.in-Ok.record) c.in-Ok.rest.now c.in-Ok.ensures.readable c.in-Ok.ensures.spelled in
    let are : (h : IsBody c.in-Ok.rest.now) → h.records ≡ behind.0.records = λ h. same_records c.in-Ok.rest.now h behind.0 in
    let first : c.args.self.now ≡ record_of c.in-Ok.record ∷ behind.0.records = sym c.self.view_is ∙ behind.1 in
    rw (are, first) (record { on = λ _. (tt, tt, omega arith); keeps = tt; rests = λ _. tt })
