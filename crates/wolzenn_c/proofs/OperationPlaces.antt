-- Where an operation's strings are in the bytes around it.
use Rattle.std.proofs.Common.{◌≡◌, ℕ, ◌+◌, ◌-◌, ◌≤◌, List, [], ◌∷◌, ◌++◌, length, take, drop, sym, ◌∙◌, ap, subst, arith, append_assoc, length-append, length-drop}
use Rattle.std.proofs.Math.Seq.{drop-append_seam}
use Rattle.std.proofs.lemmas.List.{take-append-drop}
use Rattle.model_base.specs.Varint.{varint}
use Rattle.model_base.specs.declared.batch.BatchError.{BatchError}
use Rattle.model_base.specs.Batch.{varstring}
use Rattle.log_batch.proofs.OneAnswer.{from_place}
use Rattle.batch_operations.specs.Operations.{Operation, IsOperation, NoOperation, operation_bytes}
use Rattle.wolzenn_c.specs.declared.operations.WzOperation.{WzOperation}
use Rattle.wolzenn_c.specs.BatchBytes.{IsAt}
use Rattle.wolzenn_c.specs.Operations.{ShowsOperation, IsOperationBetween}
use Rattle.wolzenn_c.proofs.Places.{key_alone}

-- the only string, counted back from the operation's end
pub only_string : (front family s rest : List ℕ) (tag end place : ℕ) → end ≡ length (front ++ (tag ∷ (family ++ (varstring s ++ [])))) → place ≡ end - length s
    → IsAt (front ++ (tag ∷ (family ++ (varstring s ++ []))) ++ rest) (length front + 1 + length family) place (length s) s
only_string front family s rest tag end place is at =
    key_alone front family s rest tag end place is (omega (
      arith,
      is,
      at,
      length-append front (tag ∷ (family ++ (varstring s ++ []))),
      length-append family (varstring s ++ []),
      length-append (varstring s) [],
      length-append (varint (length s)) s,
    ))

-- The operation that the bytes begin with, from a place on, is the next one, and this is what is told of it.
pub operation_is : (bytes : List ℕ) (place : ℕ) (o : Operation) (rest : List ℕ) (op : WzOperation) → place ≤ length bytes → IsOperation o
    → take (length bytes - place) (drop place bytes) ≡ operation_bytes o ++ rest
    → ((front behind : List ℕ) → length bytes - length rest ≡ length (front ++ operation_bytes o)
    → ShowsOperation (front ++ operation_bytes o ++ behind) (length front) op o)
    → IsOperationBetween bytes place (length bytes - length rest) op
operation_is bytes place o rest op inside operation is shown =
    let front = take place bytes ++ operation_bytes o in
    let from : drop place bytes ≡ operation_bytes o ++ rest = sym (from_place place bytes) ∙ is in
    let all : bytes ≡ front ++ rest = sym (take-append-drop place bytes) ∙ ap (λ (l : List ℕ). take place bytes ++ l) from ∙ sym (append_assoc (take place bytes) (operation_bytes o) rest) in
    let end : length bytes - length rest ≡ length front = omega (arith, ap length all, length-append front rest) in
    let behind : drop (length bytes - length rest) bytes ≡ rest = ap (λ (n : ℕ). drop n bytes) end ∙ ap (λ (l : List ℕ). drop (length front) l) all ∙ drop-append_seam front rest in
    record {
      found = o;
      is = operation;
      spelled = from ∙ ap (λ (l : List ℕ). operation_bytes o ++ l) (sym behind);
      within = omega arith;
      shown = let at : length (take place bytes) ≡ place = omega (arith, inside, ap length (take-append-drop place bytes), length-append (take place bytes) (drop place bytes), length-drop place bytes) in
          let P : List ℕ → Type 0 = λ l. ShowsOperation l place op o in
          let Q : ℕ → Type 0 = λ n. ShowsOperation (front ++ rest) n op o in
          subst P (sym all) (subst Q at (shown (take place bytes) rest end));
    }

-- An error at the start of the bytes from a place on, which are all that is left.
pub no_operation_from : (bytes : List ℕ) (place : ℕ) (e : BatchError) → NoOperation (take (length bytes - place) (drop place bytes)) e → NoOperation (drop place bytes) e
no_operation_from bytes place e wrong = let P : List ℕ → Type 0 = λ l. NoOperation l e in subst P (from_place place bytes) wrong
