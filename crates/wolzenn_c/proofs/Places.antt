-- Where a record's strings are in the bytes around it.
use Rattle.std.proofs.Common.{◌≡◌, ℕ, ◌+◌, ◌-◌, ◌≤◌, List, [], ◌∷◌, ◌++◌, length, take, drop, refl, sym, ◌∙◌, ap, subst, arith, append_assoc, append-nil, length-append, length-drop}
use Rattle.std.proofs.Math.Seq.{take-append_seam, drop-append_seam}
use Rattle.std.proofs.lemmas.List.{take-append-drop}
use Rattle.model_base.specs.Varint.{varint}
use Rattle.model_base.specs.declared.batch.BatchError.{BatchError}
use Rattle.model_base.specs.Batch.{Record, IsReadable, NoRecord, record_bytes, varstring}
use Rattle.log_batch.proofs.OneAnswer.{from_place}
use Rattle.wolzenn_c.specs.declared.batch_bytes.WzOp.{WzOp}
use Rattle.wolzenn_c.specs.BatchBytes.{IsAt, Shows, IsRecordBetween}

-- a string after a front, which ends with the string's length, and before a rest
is_after : (front s rest : List ℕ) (start : ℕ) → length front ≡ start + length (varint (length s))
    → IsAt (front ++ (s ++ rest)) start (length front) (length s) s
is_after front s rest start after =
    let as_long : length front + length s - length front ≡ length s = omega arith in
    record {
      len_is = refl;
      after_length = after;
      there = ap (λ (n : ℕ). take n (drop (length front) (front ++ (s ++ rest)))) as_long
          ∙ ap (λ (l : List ℕ). take (length s) l) (drop-append_seam front (s ++ rest)) ∙ take-append_seam s rest;
    }

is_at : (bytes front s rest : List ℕ) (start place : ℕ) → bytes ≡ front ++ (s ++ rest) → place ≡ length front
    → place ≡ start + length (varint (length s)) → IsAt bytes start place (length s) s
is_at bytes front s rest start place is at after = rw (is, at) (is_after front s rest start (sym at ∙ after))

-- the key of a record of one string, which ends where the record ends; the bytes of the family's number come after the
-- tag, if there is one
pub key_alone : (front family key rest : List ℕ) (tag end place : ℕ) → end ≡ length (front ++ (tag ∷ (family ++ (varstring key ++ []))))
    → place + length key ≡ end
    → IsAt (front ++ (tag ∷ (family ++ (varstring key ++ []))) ++ rest) (length front + 1 + length family) place (length key) key
key_alone front family key rest tag end place is at =
    let v = varint (length key) in
    let before = front ++ (tag ∷ (family ++ v)) in
    let bytes = front ++ (tag ∷ (family ++ (varstring key ++ []))) ++ rest in
    let split : bytes ≡ before ++ (key ++ rest) = simp (append_assoc, append-nil) refl in
    let before_long = length-append front (tag ∷ (family ++ v)) in
    let place_is : place ≡ length before =
    omega (
      arith,
      is,
      before_long,
      length-append family v,
      length-append front (tag ∷ (family ++ (varstring key ++ []))),
      length-append family (varstring key ++ []),
      length-append (varstring key) [],
      length-append v key,
    ) in
    is_at bytes before key rest (length front + 1 + length family) place split place_is (omega (arith, place_is, before_long, length-append family v))

-- how far a record of two strings reaches
pair_end : (front family key s : List ℕ) (tag end : ℕ) → end ≡ length (front ++ (tag ∷ (family ++ (varstring key ++ (varstring s ++ [])))))
    → end ≡ length front + 1 + length family + length (varint (length key)) + length key + length (varint (length s)) + length s
pair_end front family key s tag end is =
    omega (
      arith,
      is,
      length-append front (tag ∷ (family ++ (varstring key ++ (varstring s ++ [])))),
      length-append family (varstring key ++ (varstring s ++ [])),
      length-append (varstring key) (varstring s ++ []),
      length-append (varstring s) [],
      length-append (varint (length key)) key,
      length-append (varint (length s)) s,
    )

-- the key of a record of two strings
pub key_before : (front family key s rest : List ℕ) (tag end place : ℕ) → end ≡ length (front ++ (tag ∷ (family ++ (varstring key ++ (varstring s ++ [])))))
    → place ≡ end - length s - length (varint (length s)) - length key
    → IsAt (front ++ (tag ∷ (family ++ (varstring key ++ (varstring s ++ [])))) ++ rest) (length front + 1 + length family) place (length key) key
key_before front family key s rest tag end place is at =
    let v = varint (length key) in
    let before = front ++ (tag ∷ (family ++ v)) in
    let bytes = front ++ (tag ∷ (family ++ (varstring key ++ (varstring s ++ [])))) ++ rest in
    let all = pair_end front family key s tag end is in
    let split : bytes ≡ before ++ (key ++ ((varstring s ++ []) ++ rest)) = simp (append_assoc, append-nil) refl in
    let place_is : place ≡ length before = omega (arith, all, at, length-append front (tag ∷ (family ++ v)), length-append family v) in
    is_at bytes before key ((varstring s ++ []) ++ rest) (length front + 1 + length family) place split place_is (omega (arith, all, at))

-- and its value
pub value_behind : (front family key s rest : List ℕ) (tag end start place : ℕ) → end ≡ length (front ++ (tag ∷ (family ++ (varstring key ++ (varstring s ++ [])))))
    → place ≡ end - length s → start ≡ end - length s - length (varint (length s)) - length key + length key
    → IsAt (front ++ (tag ∷ (family ++ (varstring key ++ (varstring s ++ [])))) ++ rest) start place (length s) s
value_behind front family key s rest tag end start place is at begins =
    let before = front ++ (tag ∷ (family ++ (varstring key ++ varint (length s)))) in
    let bytes = front ++ (tag ∷ (family ++ (varstring key ++ (varstring s ++ [])))) ++ rest in
    let all = pair_end front family key s tag end is in
    let split : bytes ≡ before ++ (s ++ rest) = simp (append_assoc, append-nil) refl in
    let place_is : place ≡ length before =
    omega (
      arith,
      all,
      at,
      length-append front (tag ∷ (family ++ (varstring key ++ varint (length s)))),
      length-append family (varstring key ++ varint (length s)),
      length-append (varstring key) (varint (length s)),
      length-append (varint (length key)) key,
    ) in
    is_at bytes before s rest start place split place_is (omega (arith, all, at, begins))

-- The record that the bytes begin with, from a place on, is the next one, and its operation shows it.
pub next_is : (bytes : List ℕ) (place : ℕ) (r : Record) (rest : List ℕ) (op : WzOp) → place ≤ length bytes → IsReadable r
    → take (length bytes - place) (drop place bytes) ≡ record_bytes r ++ rest
    → ((front behind : List ℕ) → length bytes - length rest ≡ length (front ++ record_bytes r)
    → Shows (front ++ record_bytes r ++ behind) (length front) op r)
    → IsRecordBetween bytes place (length bytes - length rest) op
next_is bytes place r rest op inside readable is shown =
    let front = take place bytes ++ record_bytes r in
    let from : drop place bytes ≡ record_bytes r ++ rest = sym (from_place place bytes) ∙ is in
    let all : bytes ≡ front ++ rest = sym (take-append-drop place bytes) ∙ ap (λ (l : List ℕ). take place bytes ++ l) from ∙ sym (append_assoc (take place bytes) (record_bytes r) rest) in
    let end : length bytes - length rest ≡ length front = omega (arith, ap length all, length-append front rest) in
    let behind : drop (length bytes - length rest) bytes ≡ rest = ap (λ (n : ℕ). drop n bytes) end ∙ ap (λ (l : List ℕ). drop (length front) l) all ∙ drop-append_seam front rest in
    record {
      found = r;
      readable = readable;
      spelled = from ∙ ap (λ (l : List ℕ). record_bytes r ++ l) (sym behind);
      within = omega arith;
      shown = let at : length (take place bytes) ≡ place = omega (arith, inside, ap length (take-append-drop place bytes), length-append (take place bytes) (drop place bytes), length-drop place bytes) in
          let P : List ℕ → Type 0 = λ l. Shows l place op r in
          let Q : ℕ → Type 0 = λ n. Shows (front ++ rest) n op r in
          subst P (sym all) (subst Q at (shown (take place bytes) rest end));
    }

-- An error at the start of the bytes from a place on, which are all that is left.
pub error_from : (bytes : List ℕ) (place : ℕ) (e : BatchError) → NoRecord (take (length bytes - place) (drop place bytes)) e → NoRecord (drop place bytes) e
error_from bytes place e wrong = let P : List ℕ → Type 0 = λ l. NoRecord l e in subst P (from_place place bytes) wrong
