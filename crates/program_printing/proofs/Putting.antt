-- Bytes of a text that are put one after another.
use Rattle.std.proofs.Common.{◌≡◌, ℕ, Bool, cond, List, [], ◌++◌, length, take, drop, Option, Some, None, Result, Ok, Err, refl, sym, ap, ◌∙◌, subst, append_assoc, append-nil, take-append-drop}
use Rattle.std.proofs.KnownBytes.{Appends-nil, Appends-trans}
use Rattle.std.proofs.Math.Seq.{take-append_seam}
use Rattle.std.specs.Prelude.{IfSome, is_err}
use Rattle.std.specs.Io.KnownBytes.{Appends}
use Rattle.base_devices.specs.declared.sink.Sink.{Ghosts}
use Rattle.base_devices.specs.Faults.{HasCause}
use Rattle.base_devices.specs.Streams.{WritesAll}
use Rattle.model_base.specs.Counts.{Rose}
use Rattle.program_printing.specs.declared.error.PrintError.{PrintError}
use Rattle.program_printing.specs.Printing.{IsPrinted, Puts, Prints}

-- what waits after all that waited was written
abbrev pub after : {T E : Type 0} → Result T E → Option (List ℕ)
after (Ok t) = Some []
after (Err e) = None

-- a printer's bytes after such a write
pub after_is : {T E : Type 0} (result : Result T E) (failed : Bool) (waiting : List ℕ) → failed ≡ is_err result → waiting ≡ [] → cond failed None (Some waiting) ≡ after result
after_is result failed waiting is none = ap (λ b. cond b None (Some waiting)) is ∙ by_result result
  where
    by_result : {T E : Type 0} (r : Result T E) → cond (is_err r) None (Some waiting) ≡ after r
    by_result (Ok t) = ap (λ w. Some w) none
    by_result (Err e) = refl

-- what waits is nothing, where something may
pub nothing_waits : (p : Option (List ℕ)) (waiting : List ℕ) → Some waiting ≡ p → IfSome p (λ w. w ≡ []) → p ≡ Some []
nothing_waits p waiting is none = sym is ∙ ap (λ w. Some w) (subst (λ q. IfSome q (λ w. w ≡ [])) (sym is) none)

module _ {K : Type 0} (sink : Ghosts K) where
  -- nothing was put
  pub none_put : (p : Option (List ℕ)) (now : K) → Puts sink p now p now []
  none_put p now start text is = subst (IsPrinted sink start p now) (sym (append-nil text)) is

  -- once a write has failed, nothing changes
  pub failed_put : (now : K) (bytes : List ℕ) → Puts sink None now None now bytes
  failed_put now bytes start text is = record {
    front = is.front;
    rest = is.rest ++ bytes;
    parts = ap (λ t. t ++ bytes) is.parts ∙ append_assoc is.front is.rest bytes;
    taken = is.taken;
    rose = is.rose;
  }

  -- bytes and then others
  pub then_put : (p q r : Option (List ℕ)) (a b c : K) (xs ys : List ℕ) → Puts sink p a q b xs → Puts sink q b r c ys → Puts sink p a r c (xs ++ ys)
  then_put p q r a b c xs ys first second start text is = subst (IsPrinted sink start r c) (append_assoc text xs ys) (second start (text ++ xs) (first start text is))

  -- the text with nothing after it
  pub with_nothing : (start now : K) (p : Option (List ℕ)) (text : List ℕ) → IsPrinted sink start p now (text ++ []) → IsPrinted sink start p now text
  with_nothing start now p text is = subst (IsPrinted sink start p now) (append-nil text) is

  -- nothing was put, and then bytes
  pub nothing_then : (p q r : Option (List ℕ)) (a b c : K) (bytes : List ℕ) → Puts sink p a q b [] → Puts sink q b r c bytes → Puts sink p a r c bytes
  nothing_then p q r a b c bytes first second start text is = second start text (with_nothing start b q text (first start text is))

  -- the same bytes
  pub same_put : (p q : Option (List ℕ)) (a b : K) (xs ys : List ℕ) → xs ≡ ys → Puts sink p a q b xs → Puts sink p a q b ys
  same_put p q a b xs ys is puts = subst (Puts sink p a q b) is puts

  -- bytes wait after those that waited
  pub held : (now : K) (waiting bytes : List ℕ) → Puts sink (Some waiting) now (Some (waiting ++ bytes)) now bytes
  held now waiting bytes start text is = record {
    front = is.front;
    parts = ap (λ t. t ++ bytes) is.parts ∙ append_assoc is.front waiting bytes;
    taken = is.taken;
    counted = is.counted;
  }

  -- what waited was written, and then the bytes, if they were put by the same write
  pub wrote : {T E : Type 0} (old new : K) (waiting bytes all : List ℕ) (result : Result T E) → waiting ++ bytes ≡ all → WritesAll (sink.taken old) (sink.taken new) result all → HasCause (sink.faults old) (sink.faults new) result
      → Puts sink (Some waiting) old (after result) new bytes
  wrote old new waiting bytes all (Ok t) is writes cause start text has =
      let parts : text ++ bytes ≡ has.front ++ all = ap (λ t. t ++ bytes) has.parts ∙ append_assoc has.front waiting bytes ∙ ap (λ t. has.front ++ t) is in
      record {
        front = has.front ++ all;
        parts = parts ∙ sym (append-nil (has.front ++ all));
        taken = Appends-trans (sink.taken start) (sink.taken old) (sink.taken new) has.front all has.taken writes.bytes;
        counted = cause.worked ∙ has.counted;
      }
  wrote old new waiting bytes all (Err e) is writes cause start text has =
      let n : ℕ = writes.bytes.0 in
      let parts : text ++ bytes ≡ has.front ++ all = ap (λ t. t ++ bytes) has.parts ∙ append_assoc has.front waiting bytes ∙ ap (λ t. has.front ++ t) is in
      record {
        front = has.front ++ take n all;
        rest = drop n all;
        parts = parts ∙ ap (λ t. has.front ++ t) (sym (take-append-drop n all)) ∙ sym (append_assoc has.front (take n all) (drop n all));
        taken = Appends-trans (sink.taken start) (sink.taken old) (sink.taken new) has.front (take n all) has.taken writes.bytes.2;
        rose = subst (λ f. Rose f (sink.faults new)) has.counted cause.failed;
      }

  -- the sink failed at it
  pub only_front : (start now : K) (text : List ℕ) → IsPrinted sink start None now text → Rose (sink.faults start) (sink.faults now) × ((n : ℕ) × Appends (sink.taken start) (sink.taken now) (take n text))
  only_front start now text has =
      let front : take (length has.front) text ≡ has.front = ap (take (length has.front)) has.parts ∙ take-append_seam has.front has.rest in
      (has.rose, (length has.front, subst (Appends (sink.taken start) (sink.taken now)) (sym front) has.taken))

  -- nothing of a text is printed yet
  pub nothing_yet : (start : K) → IsPrinted sink start (Some []) start []
  nothing_yet start = record { front = []; parts = refl; taken = Appends-nil (sink.taken start); counted = refl }

  -- a text from its start on, printed to its end
  pub printed : {T : Type 0} (start end now : K) (p : Option (List ℕ)) (result : Result T PrintError) (text : List ℕ) → Puts sink (Some []) start p end text
      → (IsPrinted sink start p end text → Prints sink start now result text) → Prints sink start now result text
  printed start end now p result text puts finish = finish (puts start [] (nothing_yet start))
