-- What is written of a log's records, by how showing them ended.
use Rattle.std.proofs.Common.{inl, inr, ◌≡◌, ⊎_elim, ℕ, Bool, true, false, List, Option, None, Some, IfSome, refl, sym, subst}
use Rattle.std.specs.Prelude.{is_some}
use Rattle.log_scan.specs.Resuming.{own_number}
use Rattle.list_log.specs.Showing.{AnswersShowing}
use Rattle.list_log.specs.Texts.{IsListing, IsListingFront}
use Rattle.list_log.specs.Totals.{AnswersSummary, IsSummary}
use Rattle.list_log.specs.declared.settings.Settings.{Settings}
use Rattle.list_log.specs.declared.showing.Shown.{Shown}
use Rattle.list_log.specs.declared.showing.Shown.TheVariants as shown
use Rattle.list_words.specs.declared.invocation.ListWords.{ListWords}
use Rattle.list_call.specs.Calls.{AreAsked, IsPart, IsTextOf, IsWhole, WritesBy, WritesList, number_for, status_of}
use Rattle.list_call.specs.declared.status.Status.{Status}
use Rattle.list_call.proofs.Told.{if_both, if_one}

-- ---- the number

-- a number that is said is the one with which the log is read
pub said_number : (said : Option ℕ) (told : Option (List ℕ)) → is_some said ≡ true → IfSome told (λ file. said ≡ number_for said file)
said_number None told e = absurd (cc)
said_number (Some n) None e = tt
said_number (Some n) (Some file) e = refl

-- if none is said, it is the log's own
pub own_as_number : (said : Option ℕ) (told : Option (List ℕ)) (number : Option ℕ) → is_some said ≡ false → IfSome told (λ file. number ≡ own_number file) → IfSome told (λ file. number ≡ number_for said file)
own_as_number (Some n) told number e own = absurd (cc)
own_as_number None told number e own = own

-- ---- how showing ended

module _ (words : ListWords) (number : Option ℕ) (before after : Option (List ℕ)) (settings : Settings) (are : AreAsked words settings) where
  -- counts
  counts_whole : (file text : List ℕ) → words.summary ≡ true → IsSummary settings number file text → IsWhole words number file text
  counts_whole file text summary is = record { settings = settings; are = are; is = subst (λ (b : Bool). IsTextOf b settings number file text) (sym summary) is }

  counts_by : (file : List ℕ) (ended : Shown) → words.summary ≡ true → AnswersSummary settings number file before after ended → WritesBy words number file before after ended
  counts_by file (shown.All at why) summary a = record { text = a.0; is = counts_whole file a.0 summary a.1; written = a.4 }
  counts_by file shown.SinkFailed summary a = record { text = a.0; is = inl (counts_whole file a.0 summary a.2); n = a.1; written = a.3 }
  counts_by file (shown.Fault count) summary a = inl a
  counts_by file shown.NoMemory summary a = inl a

  pub counts_written : (told : Option (List ℕ)) (ended : Shown) → words.summary ≡ true → IfSome told (λ file. AnswersSummary settings number file before after ended) → IfSome told (λ file. WritesBy words number file before after ended)
  counts_written told ended summary answers = if_one told _ _ answers (λ file a. counts_by file ended summary a)

  -- records
  records_whole : (file text : List ℕ) → words.summary ≡ false → IsListing settings number file text → IsWhole words number file text
  records_whole file text records is = record { settings = settings; are = are; is = subst (λ (b : Bool). IsTextOf b settings number file text) (sym records) is }

  records_part : (file text : List ℕ) → words.summary ≡ false → IsListingFront settings number file text → IsPart words number file text
  records_part file text records is = record { settings = settings; are = are; of_records = records; is = is }

  records_by : (file : List ℕ) (ended : Shown) → words.summary ≡ false → AnswersShowing settings number file before after ended → WritesBy words number file before after ended
  records_by file (shown.All at why) records a = record { text = a.0; is = records_whole file a.0 records a.1; written = a.4 }
  records_by file (shown.Fault count) records a = inr (record { text = a.0; is = records_part file a.0 records a.1; written = a.2 })
  records_by file shown.SinkFailed records a = record { text = a.0; is = ⊎_elim (λ whole. inl (records_whole file a.0 records whole)) (λ part. inr (records_part file a.0 records part)) a.2; n = a.1; written = a.3 }
  records_by file shown.NoMemory records (inl same) = inl same
  records_by file shown.NoMemory records (inr a) = inr (record { text = a.0; is = records_part file a.0 records a.1; written = a.2 })

  pub records_written : (told : Option (List ℕ)) (ended : Shown) → words.summary ≡ false → IfSome told (λ file. AnswersShowing settings number file before after ended) → IfSome told (λ file. WritesBy words number file before after ended)
  records_written told ended records answers = if_one told _ _ answers (λ file a. records_by file ended records a)

-- ---- the status

by_end : (words : ListWords) (file : List ℕ) (before after : Option (List ℕ)) (ended : Shown) → WritesBy words (number_for words.number file) file before after ended → WritesList words file before after (status_of ended)
by_end words file before after (shown.All at why) writes = writes
by_end words file before after (shown.Fault count) writes = writes
by_end words file before after shown.SinkFailed writes = writes
by_end words file before after shown.NoMemory writes = writes

-- what was written by the status, where the file tells the same bytes as before
pub list_written : (words : ListWords) (number : Option ℕ) (told held before after : Option (List ℕ)) (ended : Shown) (given : Status) → held ≡ told → IfSome told (λ file. number ≡ number_for words.number file)
    → IfSome held (λ file. WritesBy words number file before after ended) → given ≡ status_of ended → IfSome told (λ file. WritesList words file before after given)
list_written words number told held before after ended given same numbered writes is =
    if_both told _ _ _ numbered (subst (λ (t : Option (List ℕ)). IfSome t (λ file. WritesBy words number file before after ended)) same writes)
    (λ file number_is w. subst (WritesList words file before after) (sym is)
    (by_end words file before after ended (subst (λ (n : Option ℕ). WritesBy words n file before after ended) number_is w)))
