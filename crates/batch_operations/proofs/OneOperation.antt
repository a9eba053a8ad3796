-- The operation with which bytes begin, by the parts that are split off, one after another. The forms are those of
-- `log_batch/proofs/OneRecord`, over the layout of a tag in place of tests of it.
use Rattle.std.proofs.Common.{◌≡◌, ℕ, ◌-◌, ◌<◌, Bool, true, Option, Some, None, List, [], ◌∷◌, ◌++◌, length, take, drop, get_or, flat_map, refl, sym, ◌∙◌, ap, subst, arith, inl}
use Rattle.std.specs.Prelude.{is_some}
use Rattle.std.proofs.Math.Seq.{take-length}
use Rattle.model_base.specs.declared.batch.BatchError.{BatchError}
use Rattle.model_base.specs.declared.batch.BatchError.TheVariants.{Tag}
use Rattle.model_base.specs.Batch.{family_bytes, varstring, NoFamily, RestBreaks, StringsBreak}
use Rattle.base_bytes.proofs.Records.{IsSmall}
use Rattle.log_batch.proofs.OneRecord.{rest_breaks, parts_in_front}
use Rattle.batch_operations.specs.Operations.{Operation, NoOperation, layout_of, operation_bytes}
use Rattle.batch_operations.specs.declared.layout.Layout.{Layout}

-- the bytes after the first one
abbrev behind : List ℕ → List ℕ
behind bytes = take (length bytes - 1) (drop 1 bytes)

behind_is : (u : ℕ) (bytes : List ℕ) → behind (u ∷ bytes) ≡ bytes
behind_is u bytes = let left : length (u ∷ bytes) - 1 ≡ length bytes = omega arith in ap (λ (n : ℕ). take n bytes) left ∙ take-length bytes

-- a tag that isn't known
pub unknown_tag : (bytes : List ℕ) (t : ℕ) → 0 < length bytes → get_or bytes 0 0 ≡ t → layout_of t ≡ None → NoOperation bytes (Tag t)
unknown_tag [] t some tag unknown = absurd (omega (arith, some))
unknown_tag (u ∷ bytes) t some tag unknown = rw (tag, unknown) refl

-- a tag that is known, and what should follow it breaks off
pub rest_missing : (bytes : List ℕ) (t : ℕ) (layout : Layout) (e : BatchError) → 0 < length bytes → get_or bytes 0 0 ≡ t → layout_of t ≡ Some layout
    → RestBreaks layout.names_family layout.strings (behind bytes) e → NoOperation bytes e
rest_missing [] t layout e some tag known broken = absurd (omega (arith, some))
rest_missing (u ∷ bytes) t layout e some tag known broken =
    let broken_there : RestBreaks layout.names_family layout.strings bytes e = subst (λ (l : List ℕ). RestBreaks layout.names_family layout.strings l e) (behind_is u bytes) broken in
    rw (tag, known) broken_there

-- its family can't be read
pub family_missing : (bytes : List ℕ) (t : ℕ) (layout : Layout) (e : BatchError) → 0 < length bytes → get_or bytes 0 0 ≡ t → layout_of t ≡ Some layout
    → layout.names_family ≡ true → NoFamily (behind bytes) e → NoOperation bytes e
family_missing bytes t layout e some tag known named wrong =
    rest_missing bytes t layout e some tag known (subst (λ (b : Bool). RestBreaks b layout.strings (behind bytes) e) (sym named) (inl wrong))

-- its strings break off
pub strings_missing : (bytes strings : List ℕ) (t : ℕ) (layout : Layout) (named : Option ℕ) (e : BatchError) → 0 < length bytes → get_or bytes 0 0 ≡ t → layout_of t ≡ Some layout
    → is_some named ≡ layout.names_family → IsSmall named → behind bytes ≡ family_bytes named ++ strings → StringsBreak layout.strings strings e → NoOperation bytes e
strings_missing bytes strings t layout named e some tag known is small split broken =
    rest_missing bytes t layout e some tag known (rest_breaks named layout.names_family layout.strings (behind bytes) strings e is small split broken)

-- and where all is there, the operation is spelled
pub spelled_in_front : (bytes strings : List ℕ) (o : Operation) (rest : List ℕ) → 0 < length bytes → get_or bytes 0 0 ≡ o.tag → behind bytes ≡ family_bytes o.family ++ strings
    → strings ≡ flat_map varstring o.strings ++ rest → bytes ≡ operation_bytes o ++ rest
spelled_in_front bytes strings o rest some tag split are = parts_in_front bytes strings o.tag o.family o.strings rest some tag split are
