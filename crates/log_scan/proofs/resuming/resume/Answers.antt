use Rattle.std.proofs.Common.{◌≡◌, ℕ, List, Option, option_and_then, IfOk, IfSome, ◌∙◌, subst}
use Rattle.model_base.specs.Reading.{ReadingEnds}
use Rattle.log_reader.specs.Reader.{Follows}
use Rattle.log_reader.proofs.FromDisk.{if_both}
use Rattle.log_scan.specs.Resuming.{there, resumes_at}
use Rattle.log_scan.proofs.Resumed.{if_ok}
use Rattle.log_scan.proofs.resuming.resume.Goals as goal

pub returns-clause-place : goal.returns-clause-place
returns-clause-place g c =
    let number = c.args.number in
    let at = c.args.at in
    let why = c.args.why in
    let old = c.args.reader.now in
    let mid = c.place_after.new.reader in
    let place = c.in_ok-place.place in
    let answer = c.go_if_there.result in
    let held = g.R.ReadAt.held c.args.disk.now in
    let goes = subst (λ (t : Option (List ℕ)). IfSome t (λ file. Follows file mid → IfOk answer (λ some. some ≡ option_and_then (there file) place))) (g.met.R.ReadAt.reads_keep _ _ c.in_ok-place.ensures.disk) c.go_if_there.ensures.place in
    let both = if_both held (λ file. Follows file old → (from : ℕ) → ReadingEnds number file from at why → option_and_then (there file) place ≡ resumes_at number file at why)
    (λ file. Follows file old → (from : ℕ) → ReadingEnds number file from at why → Follows file mid)
    (λ file. Follows file old → (from : ℕ) → ReadingEnds number file from at why → (option_and_then (there file) place ≡ resumes_at number file at why) × Follows file mid)
    c.in_ok-place.ensures.place c.in_ok-place.ensures.follows (λ file is on follows from ended. (is follows from ended, on follows from ended)) in
    if_both held (λ file. Follows file old → (from : ℕ) → ReadingEnds number file from at why → (option_and_then (there file) place ≡ resumes_at number file at why) × Follows file mid)
    (λ file. Follows file mid → IfOk answer (λ some. some ≡ option_and_then (there file) place)) _ both goes
    (λ file is after follows from ended.
    let place_is = is follows from ended in
    if_ok answer (λ some. some ≡ option_and_then (there file) place) (λ some. some ≡ resumes_at number file at why) (after place_is.1) (λ some e. e ∙ place_is.0))
