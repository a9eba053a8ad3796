-- The calls of a scan make the scan of the definition.
use Rattle.std.proofs.Common.{◌≡◌, ℕ, Bool, List, ◌++◌, Option, Some, None, refl, sym, ◌∙◌, ap, subst}
use Rattle.model_base.specs.declared.log.EndReason.{EndReason}
use Rattle.model_base.specs.Reading.{IsRecord}
use Rattle.log_scan.specs.Scanner.{IsAt, unread_before}
use Rattle.log_scan.specs.Scanning.{Item, Finds, found_none, found_more, Skips, Ends, IsScan, items_with}
use Rattle.log_scan.specs.declared.scanner.Lost.{Lost}
use Rattle.log_scan.specs.declared.scanner.Unread.{Unread}
use Rattle.log_in_memory.specs.ScanAnswers.{FindsNext, IsUnended, ended_by}
use Rattle.log_in_memory.specs.ScanRuns.{HasShown, not_asked, one_more, ScansAll, items_shown}
use Rattle.log_in_memory.specs.declared.scanning.Scan.{Scan}

-- an answer shows what the definition has
shown_as : (lost : Option Lost) (stretch : Option Unread) (place start end : ℕ) (bytes : List ℕ) → stretch ≡ unread_before lost place start → items_with lost place start end bytes ≡ items_shown stretch start end bytes
shown_as None stretch place start end bytes is = rw is refl
shown_as (Some lost) stretch place start end bytes is = rw is refl

-- where a scan is after some calls
record Reached (file : List ℕ) (first now : Scan) (items : List Item) : Type 0 where
  is_at : IsAt file now.scanner
  unended : IsUnended now.last
  number : now.scanner.number ≡ first.scanner.number
  goes_on : now.scanner.goes_on ≡ first.scanner.goes_on
  finds : Finds first.scanner.number first.scanner.goes_on file first.scanner.place items now.scanner.place

one_found : (file : List ℕ) (first old new : Scan) (items : List Item) (stretch : Option Unread) (start end : ℕ) → Reached file first old items → FindsNext file old.scanner new.scanner stretch start end
    → Finds first.scanner.number first.scanner.goes_on file first.scanner.place (items ++ items_shown stretch start end new.scanner.reader.in_hand) new.scanner.place
one_found file first old new items stretch start end before next =
    let bytes = new.scanner.reader.in_hand in
    let skips : Skips first.scanner.number first.scanner.goes_on file old.scanner.place next.here next.lost =
    subst (λ (g : Bool). Skips first.scanner.number g file old.scanner.place next.here next.lost) before.goes_on
    (subst (λ (n : Option ℕ). Skips n old.scanner.goes_on file old.scanner.place next.here next.lost) before.number next.skips) in
    let is : IsRecord first.scanner.number file next.here start end bytes = subst (λ (n : Option ℕ). IsRecord n file next.here start end bytes) before.number next.is in
    let more = found_more before.finds skips is in
    subst (λ (p : ℕ). Finds first.scanner.number first.scanner.goes_on file first.scanner.place (items ++ items_shown stretch start end bytes) p) (sym next.place)
    (subst (λ (l : List Item). Finds first.scanner.number first.scanner.goes_on file first.scanner.place (items ++ l) end) (shown_as next.lost stretch old.scanner.place start end bytes next.stretch) more)

reached : (file : List ℕ) (first now : Scan) (items : List Item) → first.last ≡ None → IsAt file first.scanner → HasShown file first items now → Reached file first now items
reached file first now items new is not_asked = record { is_at = is; unended = ap ended_by new; number = refl; goes_on = refl; finds = found_none }
reached file first now items new is (one_more {items = earlier} {old = old} {stretch = stretch} {start = start} {end = end} shown scans) =
    let before = reached file first old earlier new is shown in
    let next : FindsNext file old.scanner now.scanner stretch start end = scans.finds before.unended before.is_at in
    record {
      is_at = next.is_at;
      unended = ap ended_by scans.last;
      number = scans.number ∙ before.number;
      goes_on = scans.goes_on ∙ before.goes_on;
      finds = one_found file first old now earlier stretch start end before next;
    }

module _ (file : List ℕ) (first : Scan) (items : List Item) (at : ℕ) (why : EndReason) (all : ScansAll file first items at why) where
  there : Reached file first all.last items
  there = reached file first all.last items all.new all.is_at all.shown

  pub all_found : Finds first.scanner.number first.scanner.goes_on file first.scanner.place items all.last.scanner.place
  all_found = there.finds

  pub all_ended : Ends first.scanner.number first.scanner.goes_on file all.last.scanner.place at why
  all_ended =
      subst (λ (g : Bool). Ends first.scanner.number g file all.last.scanner.place at why) there.goes_on
      (subst (λ (n : Option ℕ). Ends n all.last.scanner.goes_on file all.last.scanner.place at why) there.number (all.ends.finds there.unended there.is_at))

  -- from the start on they are the whole scan
  pub whole_scan : first.scanner.place ≡ 0 → IsScan first.scanner.number first.scanner.goes_on file (record { items = items; at = at; why = why })
  whole_scan start = record {
    place = all.last.scanner.place;
    finds = subst (λ (p : ℕ). Finds first.scanner.number first.scanner.goes_on file p items all.last.scanner.place) start all_found;
    ends = all_ended;
  }
