-- Why a record is left out: its operations, one after another, and its head.
use Rattle.std.proofs.Common.{◌≡◌, ℕ, ◌+◌, ◌<◌, ◌≤◌, cond, List, [], ◌∷◌, ◌++◌, length, drop, Option, Some, None, refl, ◌∙◌, ap, arith}
use Rattle.std.specs.List.{AllByRecursion}
use Rattle.std.proofs.lemmas.List.Sums.{sum_by-append}
use Rattle.model_base.specs.declared.batch.BatchError.{BatchError}
use Rattle.model_base.specs.declared.batch.BatchError.TheVariants.{Short}
use Rattle.batch_operations.specs.Operations.{Operation, body, count_of, is_counted, IsOperation, NoOperation, operation_bytes}
use Rattle.batch_operations.specs.Shown.{short, shown_short, sequence_in, count_in}
use Rattle.batch_operations.specs.declared.head.Head.{Head}
use Rattle.list_log.specs.Texts.{count_fault, shown_of}
use Rattle.list_log.proofs.Bodies.{all_more, body_more}
use Rattle.list_log.proofs.Records.{shows_whole}
use Rattle.log_salvage.specs.Keeping.{HasFault, HasVerdict, verdict_by}
use Rattle.log_salvage.specs.declared.keeping.LeftOut.{LeftOut}
use Rattle.log_salvage.specs.declared.keeping.LeftOut.TheVariants as left_out
use Rattle.log_salvage.specs.declared.keeping.Range.{Range}

-- The bytes are operations, of which `found` count, and then the rest.
pub record GoesOn (bytes rest : List ℕ) (found : ℕ) : Type 0 where
  pub operations : List Operation
  pub are : AllByRecursion IsOperation operations
  pub spelled : bytes ≡ body operations ++ rest
  pub counted : found ≡ count_of operations

-- none so far
pub goes_none : (bytes : List ℕ) → GoesOn bytes bytes 0
goes_none bytes = record { operations = []; are = tt; spelled = refl; counted = refl }

-- one more operation
pub goes_more : (bytes rest behind : List ℕ) (found plus : ℕ) (o : Operation) → GoesOn bytes rest found → rest ≡ operation_bytes o ++ behind → IsOperation o → plus ≡ cond (is_counted o) 1 0
    → GoesOn bytes behind (found + plus)
goes_more bytes rest behind found plus o so_far split is plus_is = record {
  operations = so_far.operations ++ o ∷ [];
  are = all_more IsOperation so_far.operations o so_far.are is;
  spelled = so_far.spelled ∙ (ap (λ (l : List ℕ). body so_far.operations ++ l) split ∙ body_more so_far.operations o behind);
  counted = let sum = sum_by-append (λ (p : Operation). cond (is_counted p) 1 0) so_far.operations (o ∷ []) in omega (arith, sum, so_far.counted, plus_is);
}

-- something that is no operation comes
pub fault_some : (said : ℕ) (bytes rest : List ℕ) (found : ℕ) (e : BatchError) → GoesOn bytes rest found → NoOperation rest e → HasFault said bytes (Some e)
fault_some said bytes rest found e so_far wrong = (so_far.operations, Some e, record { rest = rest; are = so_far.are; spelled = so_far.spelled; ends = wrong }, refl)

-- the bytes end there
pub fault_at_end : (said : ℕ) (bytes rest : List ℕ) (found : ℕ) (fault : Option BatchError) → GoesOn bytes rest found → length rest ≡ 0 → fault ≡ count_fault said found → HasFault said bytes fault
fault_at_end said bytes [] found fault so_far empty is =
    (so_far.operations, None, record { rest = []; are = so_far.are; spelled = so_far.spelled; ends = refl }, is ∙ ap (count_fault said) so_far.counted)
fault_at_end said bytes (b ∷ rest) found fault so_far empty is = absurd (omega (arith, empty))

-- a record of fewer bytes than a head
pub verdict_short : (range : Range) (bytes : List ℕ) → length bytes < 12 → HasVerdict range bytes (Some (left_out.NoBatch Short))
verdict_short range bytes few = (shown_short, short few, refl)

-- one with a head
pub verdict_whole : (range : Range) (bytes rest : List ℕ) (head : Head) (fault : Option BatchError) (answer : Option LeftOut) → head.sequence ≡ sequence_in bytes → head.count ≡ count_in bytes → rest ≡ drop 12 bytes
    → 12 ≤ length bytes → HasFault head.count rest fault → answer ≡ verdict_by range (Some head) fault → HasVerdict range bytes answer
verdict_whole range bytes rest head fault answer sequence count rest_is long has is = (
  shown_of head has.0 has.1,
  shows_whole bytes rest head has.0 has.1 sequence count rest_is long has.2,
  is ∙ ap (verdict_by range (Some head)) has.3,
)
