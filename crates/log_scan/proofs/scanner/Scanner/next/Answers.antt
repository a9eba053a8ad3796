use Rattle.std.proofs.Common.{◌≡◌, ℕ, List, Option, IfSome, None, sym, ◌∙◌, ap, subst}
use Rattle.model_base.specs.Reading.{ReadingEnds}
use Rattle.log_reader.specs.Reader.{Reader, Follows}
use Rattle.log_reader.specs.Records.{Reads}
use Rattle.log_reader.specs.declared.reader.Next.{Next}
use Rattle.log_reader.specs.declared.reader.Next.TheVariants as next
use Rattle.log_reader.proofs.FromDisk.{if_one, if_both}
use Rattle.log_scan.specs.Scanner.{ScannerState, Passes, unread_before}
use Rattle.log_scan.specs.declared.scanner.Found.{Found}
use Rattle.log_scan.specs.declared.scanner.Found.TheVariants as found
use Rattle.log_scan.specs.declared.scanner.Lost.{Lost}
use Rattle.log_scan.proofs.Scanned.{reads_here, after_record, finds_record, is_after, passes_on, passes_at}
use Rattle.log_scan.proofs.scanner.Scanner.next.Goals as goal

-- what the reader answers
abbrev ReadsOn : Reader → List ℕ → Next → List ℕ → Type 0
ReadsOn reader in_hand answer file = Follows file reader → reader.stopped ≡ None → Reads reader.number file reader.place in_hand answer

-- what follows from an end of reading
abbrev PassesAt : ScannerState → ScannerState → Reader → Lost → Found → List ℕ → Type 0
PassesAt s new reader end result file = Follows file reader → ReadingEnds s.number file s.here end.at end.why → Passes file (record s { reader = reader }) new end result

-- what the reader answers, and the file that it follows
abbrev Read : Reader → Reader → List ℕ → Next → List ℕ → Type 0
Read old new in_hand answer file = ReadsOn old in_hand answer file × (Follows file old → Follows file new)

pub returns-in-Record-clause-found : goal.returns-in-Record-clause-found
returns-in-Record-clause-found g c =
    let old = c.args.self.now in
    let reader = c.next.new.self in
    let start = c.in-Record.start in
    let end = c.in-Record.end in
    let now = c.find.ensures.now ∙ ap (λ (s : ScannerState). after_record s reader end) c.self.view_is in
    if_one (g.R.ReadAt.held c.args.disk.now) (ReadsOn c.self.inside.reader reader.in_hand (next.Record start end)) _ c.in-Record.ensures.reads
    (λ file reads at going.
    finds_record file old c.find.new.self reader start end c.find.result now
    (subst (λ (s : ScannerState). c.find.result ≡ found.Record (unread_before s.lost s.place start) start end) c.self.view_is c.find.ensures.found)
    (reads_here file _ old reader.in_hand (next.Record start end) c.self.view_is going at c.self.inside.numbered reads))

pub returns-in-Record-clause-is_at : goal.returns-in-Record-clause-is_at
returns-in-Record-clause-is_at g c =
    let old = c.args.self.now in
    let reader = c.next.new.self in
    let start = c.in-Record.start in
    let end = c.in-Record.end in
    let now = c.find.ensures.now ∙ ap (λ (s : ScannerState). after_record s reader end) c.self.view_is in
    if_one (g.R.ReadAt.held c.args.disk.now) (λ file. Follows file c.self.inside.reader → Follows file reader) _ c.in-Record.ensures.follows
    (λ file follows at going.
    is_after file old c.find.new.self reader start end _ c.find.result now c.find.ensures.found
    (follows (subst (λ (s : ScannerState). Follows file s.reader) (sym c.self.view_is) at.follows))
    (c.in-Record.ensures.place (ap (λ (s : ScannerState). s.reader.stopped) c.self.view_is ∙ going.going)))

pub returns-in-End-clause-found : goal.returns-in-End-clause-found
returns-in-End-clause-found g c =
    let old = c.args.self.now in
    let new = c.pass.new.self in
    let reader = c.next.new.self in
    let end : Lost = record { at = c.in-End.at; why = c.in-End.why } in
    let passed = subst (λ (s : ScannerState). IfSome (g.R.ReadAt.held c.next.new.disk) (PassesAt s new reader end c.pass.result)) c.self.view_is c.pass.ensures.found in
    let read = if_both (g.R.ReadAt.held c.args.disk.now) (ReadsOn c.self.inside.reader reader.in_hand (next.End end.at end.why)) (λ file. Follows file c.self.inside.reader → Follows file reader)
    (Read c.self.inside.reader reader reader.in_hand (next.End end.at end.why)) c.in-End.ensures.reads c.in-End.ensures.follows (λ file r f. (r, f)) in
    if_both (g.R.ReadAt.held c.args.disk.now) (Read c.self.inside.reader reader reader.in_hand (next.End end.at end.why)) (PassesAt old new reader end c.pass.result) _ read
    (subst (λ (t : Option (List ℕ)). IfSome t (PassesAt old new reader end c.pass.result)) (g.met.R.ReadAt.reads_keep _ _ c.in-End.ensures.disk) passed)
    (λ file reads passes at going.
    let ends = reads_here file _ old reader.in_hand (next.End end.at end.why) c.self.view_is going at c.self.inside.numbered reads.0 in
    let follows = reads.1 (subst (λ (s : ScannerState). Follows file s.reader) (sym c.self.view_is) at.follows) in
    passes_on file old new reader end c.pass.result at ends (passes follows ends))

pub returns-in-End-clause-is_at : goal.returns-in-End-clause-is_at
returns-in-End-clause-is_at g c =
    let old = c.args.self.now in
    let new = c.pass.new.self in
    let reader = c.next.new.self in
    let end : Lost = record { at = c.in-End.at; why = c.in-End.why } in
    let passed = subst (λ (s : ScannerState). IfSome (g.R.ReadAt.held c.next.new.disk) (PassesAt s new reader end c.pass.result)) c.self.view_is c.pass.ensures.found in
    let read = if_both (g.R.ReadAt.held c.args.disk.now) (ReadsOn c.self.inside.reader reader.in_hand (next.End end.at end.why)) (λ file. Follows file c.self.inside.reader → Follows file reader)
    (Read c.self.inside.reader reader reader.in_hand (next.End end.at end.why)) c.in-End.ensures.reads c.in-End.ensures.follows (λ file r f. (r, f)) in
    if_both (g.R.ReadAt.held c.args.disk.now) (Read c.self.inside.reader reader reader.in_hand (next.End end.at end.why)) (PassesAt old new reader end c.pass.result) _ read
    (subst (λ (t : Option (List ℕ)). IfSome t (PassesAt old new reader end c.pass.result)) (g.met.R.ReadAt.reads_keep _ _ c.in-End.ensures.disk) passed)
    (λ file reads passes at going.
    let ends = reads_here file _ old reader.in_hand (next.End end.at end.why) c.self.view_is going at c.self.inside.numbered reads.0 in
    let follows = reads.1 (subst (λ (s : ScannerState). Follows file s.reader) (sym c.self.view_is) at.follows) in
    passes_at file old new reader end c.pass.result (c.pass.ensures.number ∙ ap (λ (s : ScannerState). s.number) c.self.view_is) (c.pass.ensures.goes_on ∙ ap (λ (s : ScannerState). s.goes_on) c.self.view_is) at ends (passes follows ends))
