use Rattle.std.proofs.Common.{◌≡◌, ℕ, List, Option, sym, ◌∙◌, ap, arith}
use Rattle.std.specs.Option.{unwrap_or}
use Rattle.model_base.specs.Reading.{ReadingEnds}
use Rattle.log_reader.specs.Reader.{Follows}
use Rattle.log_reader.proofs.FromDisk.{if_one}
use Rattle.log_scan.specs.Scanner.{ScannerState}
use Rattle.log_scan.specs.Scanning.{later_place}
use Rattle.log_scan.specs.declared.scanner.Lost.{Lost}
use Rattle.log_scan.proofs.Later.{is_later}
use Rattle.log_scan.proofs.Scanned.{first_is}
use Rattle.log_scan.proofs.scanner.Scanner.pass.Goals as goal

-- where reading is tried again
abbrev Later : ScannerState → Lost → Option ℕ → List ℕ → Type 0
Later s end answer file = Follows file s.reader → (from : ℕ) → ReadingEnds s.number file from end.at end.why → answer ≡ later_place s.number s.goes_on file end.at end.why

pub returns-in-Ok-Some-2-clause-found : goal.returns-in-Ok-Some-2-clause-found
returns-in-Ok-Some-2-clause-found g c =
    let old = c.args.self.now in
    let end = c.args.end in
    let place = c.in-Ok-Some.place in
    if_one (g.R.ReadAt.held c.args.disk.now) (Later old end c.in-Ok-Some.field-0) _ c.in-Ok-Some.ensures.place
    (λ file later follows ended.
    let on = is_later old.number old.goes_on file old.here end.at place end.why ended (sym (later follows old.here ended) ∙ c.in-Ok-Some.field-0-is) in
    absurd (omega (arith, on.0, c.if-place-self.false, ap (λ (s : ScannerState). s.here) c.self-2.view_is, ap (λ (s : ScannerState). s.here) c.in-Ok-Some.ensures.rest)))

pub returns-in-Ok-None-clause-found : goal.returns-in-Ok-None-clause-found
returns-in-Ok-None-clause-found g c =
    let old = c.args.self.now in
    let end = c.args.end in
    let first = c.unwrap_or-first.result in
    if_one (g.R.ReadAt.held c.args.disk.now) (Later old end c.in-Ok-None.field-0) _ c.in-Ok-None.ensures.place
    (λ file later follows ended. (
      sym (later follows old.here ended) ∙ c.in-Ok-None.field-0-is,
      sym (first_is old.lost end first (c.unwrap_or-first.ensures ∙ ap (λ (s : ScannerState). unwrap_or s.lost end) c.self.view_is)),
    ))
