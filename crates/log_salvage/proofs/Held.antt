-- What a sink has taken of a new log.
use Rattle.std.proofs.Common.{◌≡◌, ℕ, ◌+◌, List, [], ◌++◌, length, Option, Some, None, unwrap_or, refl, sym, ◌∙◌, ap, subst, length-append, arith}
use Rattle.std.specs.Io.KnownBytes.{Appends}
use Rattle.model_base.specs.Log.{SpellsWhole, text_from}
use Rattle.log_laws.proofs.Written.{spells_on, text_spells}
use Rattle.log_scan.specs.Scanning.{Item}
use Rattle.log_salvage.specs.NewLogs.{NewLogState}
use Rattle.log_salvage.specs.Salvaging.{AddsAll, HoldsLog, Source, Written, text_of_all}
use Rattle.log_salvage.specs.declared.counts.Counts.{Counts}
use Rattle.log_salvage.specs.declared.keeping.Range.{Range}
use Rattle.log_salvage.proofs.Whole.{log_with, written}

pub holds_none : (number : Option ℕ) (counts : Counts) → HoldsLog (written (log_with number 0) counts (Some [])) []
holds_none number counts = record { text = []; taken = refl; len = refl; spelled = text_spells number [] }

appended : (before after : Option (List ℕ)) (text more : List ℕ) → before ≡ Some text → Appends before after more → after ≡ Some (text ++ more)
appended None after text more is appends = absurd (cc is)
appended (Some xs) None text more is appends = absurd appends
appended (Some xs) (Some ys) text more is appends = ap (λ (l : List ℕ). Some l) (appends ∙ ap (λ (o : Option (List ℕ)). unwrap_or o [] ++ more) is)

pub holds_on : (range : Range) (source : Source) (place : ℕ) (items : List Item) (old new : Written) (records : List (List ℕ)) → HoldsLog old records → (adds : AddsAll range source place items old new)
    → HoldsLog new (records ++ adds.records)
holds_on range source place items old new records held adds =
    let number = old.log.number in
    let more = text_from number (length held.text) adds.records in
    let same : text_of_all old.log adds.records ≡ more = ap (λ (n : ℕ). text_from number n adds.records) held.len in
    let number_is : new.log.number ≡ number = ap (λ (l : NewLogState). l.number) adds.log_is in
    let len : new.log.len ≡ old.log.len + length (text_of_all old.log adds.records) = ap (λ (l : NewLogState). l.len) adds.log_is in
    record {
      text = held.text ++ more;
      taken = appended old.taken new.taken held.text more held.taken (subst (Appends old.taken new.taken) same adds.taken);
      len = omega (arith, len, held.len, ap length same, length-append held.text more);
      spelled = subst (λ (n : Option ℕ). SpellsWhole n (held.text ++ more) (records ++ adds.records)) (sym number_is) (spells_on number held.text records adds.records held.spelled);
    }
