-- A read of a log, which ends where the log does.
use Rattle.std.proofs.Common.{◌≡◌, ℕ, ◌+◌, ◌-◌, ◌<◌, ◌≤◌, min, List, ◌++◌, length, take, drop, Option, Some, None, Result, Ok, Err, IfSome, IfOk, refl, sym, ◌∙◌, ap, arith, length-append, length-take, length-drop}
use Rattle.std.proofs.Math.Seq.{take-take}
use Rattle.std.proofs.lemmas.List.{take-append-le, take-append-drop, drop-append-le, drop-take}
use Rattle.base_devices.specs.Disk.{Disk, BytesAt, ReadsAt}
use Rattle.log_writer.specs.Reads.{front_of}

-- what is read of the disk into the front of a buffer, which goes no further than the log's end
pub read_front : {E : Type 0} (told : Option Disk) (len at some : ℕ) (buf part : List ℕ) (r : Result ℕ E) → at < len → some ≡ min (len - at) (length buf) → length part ≡ some → IfSome told (λ d. ReadsAt d at part r)
    → IfSome (front_of len told) (λ content. BytesAt content at (part ++ drop some buf) r)
read_front None len at some buf part r within few long reads = tt
read_front (Some d) len at some buf part (Err e) within few long reads = tt
read_front (Some d) len at some buf part (Ok n) within few long reads =
    let whole : length (part ++ drop some buf) ≡ length buf = omega (arith, length-append part (drop some buf), length-drop some buf, few, long) in
    let in_part : n ≤ length part = omega (arith, reads.0) in
    let in_log : n ≤ len - at = omega (arith, in_part, few, long) in
    let in_two : len ≡ at + (len - at) = omega (arith, within) in
    let there : drop at (take len d.content) ≡ take (len - at) (drop at d.content) = ap (λ (k : ℕ). drop at (take k d.content)) in_two ∙ drop-take at (len - at) d.content in (
      omega (arith, reads.0, whole, few, long, length-take len d.content, within),
      take-append-le n part (drop some buf) in_part ∙ (reads.1 ∙ (sym (take-take n (len - at) (drop at d.content) in_log) ∙ ap (take n) (sym there))),
    )

-- after the log's end nothing is read
pub read_nothing : (told : Option Disk) (len at : ℕ) (buf : List ℕ) → len ≤ at → IfSome (front_of len told) (λ content. BytesAt {E = Unit {0}} content at buf (Ok 0))
read_nothing None len at buf past = tt
read_nothing (Some d) len at buf past = (omega (arith, past, length-take len d.content), refl)

-- what was read is no more than the buffer holds
pub within_buffer : {E : Type 0} (part others : List ℕ) (r : Result ℕ E) → IfOk r (λ n. n ≤ length part) → IfOk r (λ n. n ≤ length (part ++ others))
within_buffer part others (Ok n) few = omega (arith, few, length-append part others)
within_buffer part others (Err e) few = tt

-- what the buffer has after what was read into its front is as it was
pub rest_of_buffer : {E : Type 0} (some : ℕ) (buf part : List ℕ) (r : Result ℕ E) → some ≤ length buf → length part ≡ some → IfOk r (λ n. n ≤ length part) → IfOk r (λ n. drop n part ≡ drop n (take some buf))
    → IfOk r (λ n. drop n (part ++ drop some buf) ≡ drop n buf)
rest_of_buffer some buf part (Err e) within long few rest = tt
rest_of_buffer some buf part (Ok n) within long few rest =
    let in_front : n ≤ length (take some buf) = omega (arith, few, long, within, length-take some buf) in
    drop-append-le n part (drop some buf) few
    ∙ (ap (λ (l : List ℕ). l ++ drop some buf) rest
    ∙ (sym (drop-append-le n (take some buf) (drop some buf) in_front) ∙ ap (λ (l : List ℕ). drop n l) (take-append-drop some buf)))
