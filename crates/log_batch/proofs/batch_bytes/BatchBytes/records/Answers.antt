-- The bytes after the header are those of the batch's records.
use Rattle.std.proofs.Common.{◌≡◌, ◌-◌, List, ℕ, length, take, drop, sym, ap, ◌∙◌, subst, arith}
use Rattle.std.proofs.lemmas.Grind.{common_steps}
use Rattle.std.specs.List.{AllByRecursion}
use Rattle.model_base.specs.Batch.{IsReadable}
use Rattle.log_batch.specs.Body.{IsBody}
use Rattle.log_batch.specs.Contents.{Contents}
use Rattle.log_batch.proofs.OwnRecords.{own_readable, own_body, own_records}
use Rattle.log_batch.proofs.batch_bytes.BatchBytes.records.Goals as goal

all_behind : (bytes : List ℕ) → take (length bytes - 12) (drop 12 bytes) ≡ drop 12 bytes
all_behind bytes = grind (arith, common_steps)

pub of_body-requires : goal.of_body-requires
of_body-requires c =
    let b = c.self.inside in
    let is : drop 12 b.bytes ≡ take (length c.as_slice.result.now - 12) (drop 12 c.as_slice.result.now) = ap (drop 12) (sym c.as_slice.ensures) ∙ sym (all_behind c.as_slice.result.now) in
    subst IsBody is (own_body b.bytes b.sequence b.count b.holds)

pub returns-clause-value : goal.returns-clause-value
returns-clause-value c =
    let b = c.self.inside in
    let is : drop 12 b.bytes ≡ take (length c.as_slice.result.now - 12) (drop 12 c.as_slice.result.now) = ap (drop 12) (sym c.as_slice.ensures) ∙ sym (all_behind c.as_slice.result.now) in
    own_records b.bytes b.sequence b.count b.holds c.of_body.result c.of_body.ensures.readable (is ∙ c.of_body.ensures.spelled) ∙ ap (λ (x : Contents). x.records) c.self.view_is

pub returns-clause-readable : goal.returns-clause-readable
returns-clause-readable c =
    let b = c.self.inside in
    subst (λ (x : Contents). AllByRecursion IsReadable x.records) c.self.view_is (own_readable b.bytes b.sequence b.count b.holds)
