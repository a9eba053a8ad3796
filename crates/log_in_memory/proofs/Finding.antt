-- What a scan of bytes in memory finds, from the steps of its scanner.
use Rattle.std.proofs.Common.{◌≡◌, ℕ, Bool, List, Option, Some, None, IfSome, refl, sym, ◌∙◌, ap, subst}
use Rattle.log_scan.specs.Scanner.{ScannerState, AnswersScan, IsAt, IsGoing, unread_before}
use Rattle.log_scan.specs.Scanning.{Skips, Ends}
use Rattle.log_scan.specs.declared.scanner.Found.TheVariants as found
use Rattle.log_scan.specs.declared.scanner.Unread.{Unread}
use Rattle.model_base.specs.declared.log.EndReason.{EndReason}
use Rattle.model_base.specs.Reading.{IsRecord}
use Rattle.log_in_memory.specs.ScanAnswers.{FindsNext, IsUnended, WhereItScansOn, ended_by}
use Rattle.log_in_memory.specs.Scans.{ScansOn}
use Rattle.log_in_memory.specs.declared.scanning.Scan.{Scan}
use Rattle.log_in_memory.specs.declared.scanning.Scanned.{Scanned}
use Rattle.log_in_memory.specs.declared.scanning.Scanned.TheVariants as scanned

-- The scanner has come from one state to another, and found no record.
pub record Passed (file : List ℕ) (first now : ScannerState) : Type 0 where
  pub is_at : IsAt file now
  pub place : now.place ≡ first.place

-- one more step of it
pub passed_more : (file : List ℕ) (first old new : ScannerState) → (IsAt file first → Passed file first old) → (IsAt file old → new.place ≡ old.place) → (IsAt file old → IsAt file new)
    → IsAt file first → Passed file first new
passed_more file first old new before place after is =
    let passed = before is in record { is_at = after passed.is_at; place = place passed.is_at ∙ passed.place }

-- what lies between the two places is the same by the numbers of the first state
skips_from : (file : List ℕ) (first old : ScannerState) → old.number ≡ first.number → old.goes_on ≡ first.goes_on → old.place ≡ first.place → IsAt file old
    → Skips first.number first.goes_on file first.place old.here old.lost
skips_from file first old number goes_on place is =
    subst (λ (p : ℕ). Skips first.number first.goes_on file p old.here old.lost) place
    (subst (λ (g : Bool). Skips first.number g file old.place old.here old.lost) goes_on
    (subst (λ (n : Option ℕ). Skips n old.goes_on file old.place old.here old.lost) number is.skips))

pub finds_next : (file : List ℕ) (first old new : ScannerState) (unread : Option Unread) (start end : ℕ) → old.number ≡ first.number → old.goes_on ≡ first.goes_on → (IsAt file first → Passed file first old)
    → (IsAt file old → AnswersScan file old new (found.Record unread start end)) → (IsAt file old → IsAt file new) → IsAt file first → FindsNext file first new unread start end
finds_next file first old new unread start end number goes_on before finds after is =
    let passed = before is in
    let there = finds passed.is_at in
    record {
      here = old.here;
      lost = old.lost;
      skips = skips_from file first old number goes_on passed.place passed.is_at;
      is = subst (λ (n : Option ℕ). IsRecord n file old.here start end new.reader.in_hand) number there.is;
      stretch = there.stretch ∙ ap (λ (p : ℕ). unread_before old.lost p start) passed.place;
      place = there.place;
      is_at = after passed.is_at;
    }

pub ends_scan : (file : List ℕ) (first old new : ScannerState) (at : ℕ) (why : EndReason) → old.number ≡ first.number → old.goes_on ≡ first.goes_on → (IsAt file first → Passed file first old)
    → (IsAt file old → AnswersScan file old new (found.End at why)) → IsAt file first → Ends first.number first.goes_on file first.place at why
ends_scan file first old new at why number goes_on before ends is =
    let passed = before is in
    subst (λ (p : ℕ). Ends first.number first.goes_on file p at why) passed.place
    (subst (λ (g : Bool). Ends first.number g file old.place at why) goes_on
    (subst (λ (n : Option ℕ). Ends n old.goes_on file old.place at why) number (ends passed.is_at)))

-- ---- whether a scan has ended

none_some : {a : Scanned} → ◌≡◌ {A = Option Scanned} None (Some a) → ⊥
none_some {a} is = subst (λ (o : Option Scanned). IfSome o (λ _. ⊥)) is tt

-- until then its reader hasn't stopped
pub still_going : (a : Scanned) (s : ScannerState) → WhereItScansOn a (IsGoing s) → IsUnended (Some a) → s.reader.stopped ≡ None
still_going (scanned.Record unread start end) s going unended = going.going
still_going (scanned.End at why) s going unended = absurd (none_some (sym unended))
still_going scanned.NoMemory s going unended = absurd (none_some (sym unended))

-- its last answer is the one with which it ended
last_is : (o : Option Scanned) (a : Scanned) → ended_by o ≡ Some a → o ≡ Some a
last_is None a is = absurd (none_some is)
last_is (Some (scanned.Record unread start end)) a is = absurd (none_some is)
last_is (Some (scanned.End at why)) a is = is
last_is (Some scanned.NoMemory) a is = is

-- no answer comes again of one that hasn't
pub no_answer_again : (old new : Scan) (a : Scanned) → IsUnended old.last → IfSome (ended_by old.last) (λ told. (a ≡ told) × (new ≡ old))
no_answer_again old new a unended = subst (λ (o : Option Scanned). IfSome o (λ told. (a ≡ told) × (new ≡ old))) (sym unended) tt

-- the answer comes again
pub answers_again : (file : List ℕ) (s : Scan) (a : Scanned) → ended_by s.last ≡ Some a → ScansOn file s s a
answers_again file s a ended = record {
  number = refl;
  goes_on = refl;
  last = last_is s.last a ended;
  finds = λ unended is. absurd (none_some (sym unended ∙ ended));
  again = subst (λ (o : Option Scanned). IfSome o (λ told. (a ≡ told) × (s ≡ s))) (sym ended) (refl, refl);
}
