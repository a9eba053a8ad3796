-- The records of a set are cut into logs in one way only: the lengths of the logs fix it, since a record's text isn't
-- empty.
use Rattle.std.proofs.Common.{◌≡◌, ℕ, ◌+◌, ◌<◌, List, [], ◌∷◌, ◌++◌, length, map, replicate, Option, None, Some, refl, sym, ◌∙◌, ap, arith, append-nil, length-append}
use Rattle.std.proofs.lemmas.Grind.{flat_map-append}
use Rattle.std.proofs.lemmas.List.{append_cancel_left, same_from_push}
use Rattle.base_devices.specs.declared.disk.Disk.{Ghosts}
use Rattle.model_base.specs.Log.{plain_log, header_len, Fragment, fragment_bytes, trailer, next_place, fragments_text, AreOneRecord, kinds_of, parts_of, as_fragments, record_text, text_from}
use Rattle.model_base.specs.LogContents.{GroupCall}
use Rattle.log_laws.specs.Fronts.{plain_text, records_in}
use Rattle.log_laws.proofs.Next.{fragment_len}
use Rattle.log_laws.proofs.Written.{parts_are}
use Rattle.log_writer.specs.declared.writer.LogWriter.{LogWriter}
use Rattle.log_writer.specs.declared.set.LogSet.{LogSet}
use Rattle.log_writer.specs.Sets.{later_of}
use Rattle.log_writer.specs.SetContents.{HoldLogs}
use Rattle.log_writer.specs.SetWritten.{begun_logs}

header_some : (number : Option ℕ) → 0 < header_len number
header_some None = omega arith
header_some (Some n) = omega arith

some_bytes : (number : Option ℕ) (offset : ℕ) (fs : List Fragment) → AreOneRecord (kinds_of fs) → 0 < length (fragments_text number offset fs)
some_bytes number offset [] one = absurd one
some_bytes number offset (f ∷ fs) one =
    let zeros : List ℕ = replicate (trailer number offset) 0 in
    let more : List ℕ = fragments_text number (next_place number offset + header_len number + length f.part) fs in
    omega (arith, length-append (zeros ++ fragment_bytes number f) more, length-append zeros (fragment_bytes number f), fragment_len number f, header_some number)

-- a record's text has bytes
pub record_some : (number : Option ℕ) (offset : ℕ) (r : List ℕ) → 0 < length (record_text number offset r)
record_some number offset r = some_bytes number offset (as_fragments (parts_of number offset r)) (parts_are number offset r).whole

-- two fronts of the same records, whose texts are as long, are the same
same_front : (offset : ℕ) (xs ys more others : List (List ℕ)) → xs ++ more ≡ ys ++ others → length (text_from plain_log offset xs) ≡ length (text_from plain_log offset ys) → (xs ≡ ys) × (more ≡ others)
same_front offset [] [] more others same len = (refl, same)
same_front offset [] (y ∷ ys) more others same len =
    let one : List ℕ = record_text plain_log offset y in
    absurd (omega (arith, len, length-append one (text_from plain_log (offset + length one) ys), record_some plain_log offset y))
same_front offset (x ∷ xs) [] more others same len =
    let one : List ℕ = record_text plain_log offset x in
    absurd (omega (arith, len, length-append one (text_from plain_log (offset + length one) xs), record_some plain_log offset x))
same_front offset (x ∷ xs) (y ∷ ys) more others same len =
    let head : y ≡ x = cc in
    let tail : xs ++ more ≡ ys ++ others = cc in
    let one : List ℕ = record_text plain_log offset x in
    let end : ℕ = offset + length one in
    let as_long : length (text_from plain_log offset (y ∷ ys)) ≡ length (text_from plain_log offset (x ∷ ys)) = ap (λ (r : List ℕ). length (text_from plain_log offset (r ∷ ys))) head in
    let rest : length (text_from plain_log end xs) ≡ length (text_from plain_log end ys) = omega (arith, len, as_long, length-append one (text_from plain_log end xs), length-append one (text_from plain_log end ys)) in
    let both = same_front end xs ys more others tail rest in
    (λ i. sym head i ∷ both.0 i, both.1)

-- the records and the lengths of the texts fix the cut
pub same_cut : (xs ys : List (List (List ℕ))) → map (λ (records : List (List ℕ)). length (plain_text records)) xs ≡ map (λ (records : List (List ℕ)). length (plain_text records)) ys → records_in xs ≡ records_in ys → xs ≡ ys
same_cut [] [] lens same = refl
same_cut [] (y ∷ ys) lens same = absurd (cc)
same_cut (x ∷ xs) [] lens same = absurd (cc)
same_cut (x ∷ xs) (y ∷ ys) lens same =
    let first : length (plain_text x) ≡ length (plain_text y) = cc in
    let rest : map (λ (records : List (List ℕ)). length (plain_text records)) xs ≡ map (λ (records : List (List ℕ)). length (plain_text records)) ys = cc in
    let both = same_front 0 x y (records_in xs) (records_in ys) same first in
    let others = same_cut xs ys rest both.1 in
    λ i. both.0 i ∷ others i

records_push : (logs : List (List (List ℕ))) (records : List (List ℕ)) → records_in (logs ++ records ∷ []) ≡ records_in logs ++ records
records_push logs records = flat_map-append (λ (r : List (List ℕ)). r) logs (records ∷ []) ∙ ap (λ (l : List (List ℕ)). records_in logs ++ l) (append-nil records)

module _ {D : Type 0} {ghosts : Ghosts D} (set : LogSet D ghosts) (calls : List GroupCall) (some other : HoldLogs set calls) where
  pub one_cut : some.full ++ some.written ∷ [] ≡ other.full ++ other.written ∷ []
  one_cut =
      same_cut (some.full ++ some.written ∷ []) (other.full ++ other.written ∷ []) (sym some.lens ∙ other.lens)
      (records_push some.full some.written ∙ (some.all_written ∙ (sym other.all_written ∙ sym (records_push other.full other.written))))

  pub one_begun : begun_logs some ≡ begun_logs other
  one_begun =
      let both = same_from_push some.full other.full some.written other.written one_cut in
      let begun : some.begun ≡ other.begun =
      append_cancel_left (records_in other.full) some.begun other.begun (ap (λ (l : List (List (List ℕ))). records_in l ++ some.begun) (sym both.0) ∙ (some.all_begun ∙ sym other.all_begun)) in
      λ i. both.0 i ++ begun i ∷ map (λ (log : LogWriter D ghosts). []) (later_of set)
