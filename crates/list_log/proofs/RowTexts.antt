-- What is shown of a small log with a changed byte, line by line.
use Rattle.std.proofs.Common.{◌≡◌, ℕ, List, [], ◌∷◌, ◌++◌, codes, Some, None, refl, ◌∙◌, ap₂, subst}
use Rattle.std.specs.Fmt.{digits}
use Rattle.model_base.specs.declared.log.Damage.TheVariants.{BadChecksum}
use Rattle.model_base.specs.declared.log.EndReason.TheVariants.{Clean, Broken}
use Rattle.model_base.specs.Log.{plain_log}
use Rattle.model_base.specs.Varint.{varint_within}
use Rattle.log_scan.specs.Scanning.{whole, unread}
use Rattle.list_text.specs.Lines.{unread_line, end_line, records_line, sequences_line}
use Rattle.list_log.specs.Rows.{as_list, as_scan, damaged_log, first_record, third_record}
use Rattle.list_log.specs.Texts.{IsListing, front_of, place_of, record_lines}
use Rattle.list_log.specs.Totals.{IsSummary, all_stretches, both, count_lines, no_totals, nothing, totals_text, with_record, with_stretch}
use Rattle.list_log.specs.declared.totals.Totals.{Totals}
use Rattle.list_log.proofs.ChangedByte.{first_shown, first_shows, found_before, found_in_all, list, scan, stretch, third_shown, third_shows}
use Rattle.list_log.proofs.Parts.{five_parts, front_apart, last_record, listing, record_before, record_counted, stretch_before, stretch_counted, summary}

-- ---- the lines

abbrev front : List ℕ
front = codes "shown, not recovered: what follows damage may be of another history\n"

abbrev first_lines : List ℕ
first_lines = codes "record 0 24 size 17 sequence 1 count 1\n  put \"a\" \"1\"\n"

abbrev unread_text : List ℕ
unread_text = codes "unread 24 48 24 badchecksum\n"

abbrev third_lines : List ℕ
third_lines = codes "gap 2 2\nrecord 48 72 size 17 sequence 3 count 1\n  put \"c\" \"3\"\n"

abbrev end_before : List ℕ
end_before = codes "end 24 badchecksum\n"

abbrev end_in_all : List ℕ
end_in_all = codes "end 72 clean\n"

front_is : front_of as_scan ≡ front
front_is = refl

first_in_list : record_lines as_list None (place_of 0 24 first_record) first_shown ≡ first_lines
unfolding varint_within digits
first_in_list = refl

first_in_scan : record_lines as_scan None (place_of 0 24 first_record) first_shown ≡ first_lines
unfolding varint_within digits
first_in_scan = refl

unread_is : unread_line as_scan.form stretch ≡ unread_text
unfolding digits
unread_is = refl

third_in_scan : record_lines as_scan (Some 1) (place_of 48 72 third_record) third_shown ≡ third_lines
unfolding varint_within digits
third_in_scan = refl

end_before_is : end_line as_list.form 24 (Broken BadChecksum) ≡ end_before
unfolding digits
end_before_is = refl

end_in_all_is : end_line as_scan.form 72 Clean ≡ end_in_all
unfolding digits
end_in_all_is = refl

-- ---- the whole texts

pub shown_list : IsListing as_list plain_log damaged_log (first_lines ++ end_before)
shown_list = listing as_list plain_log damaged_log found_before (Some 1) [] first_lines end_before list (last_record as_list None 0 24 first_record first_lines first_shown first_shows first_in_list) refl end_before_is

pub shown_scan : IsListing as_scan plain_log damaged_log (front ++ first_lines ++ unread_text ++ third_lines ++ end_in_all)
shown_scan =
    let third = last_record as_scan (Some 1) 48 72 third_record third_lines third_shown third_shows third_in_scan in
    let later = stretch_before as_scan (Some 1) (Some 3) stretch unread_text third_lines (whole 48 72 third_record ∷ []) unread_is third in
    let all = record_before as_scan None (Some 3) 0 24 first_record first_lines (unread_text ++ third_lines) (unread stretch ∷ whole 48 72 third_record ∷ []) first_shown first_shows first_in_scan later in
    subst (λ (t : List ℕ). IsListing as_scan plain_log damaged_log t) (five_parts front first_lines unread_text third_lines end_in_all)
    (listing as_scan plain_log damaged_log found_in_all (Some 3) front (first_lines ++ (unread_text ++ third_lines)) end_in_all scan all front_is end_in_all_is)

-- ---- the counts

abbrev one_counted : Totals
one_counted = record { records = 1; first = Some 1; last = Some 1; tallies = record { tag = 1; family = None; count = 1 } ∷ []; stretches = 0; bytes = 0 }

abbrev stretch_too : Totals
stretch_too = record { records = 1; first = Some 1; last = Some 1; tallies = record { tag = 1; family = None; count = 1 } ∷ []; stretches = 1; bytes = 24 }

abbrev both_counted : Totals
both_counted = record { records = 2; first = Some 1; last = Some 3; tallies = record { tag = 1; family = None; count = 2 } ∷ []; stretches = 1; bytes = 24 }

first_of_list : with_record as_list first_shown nothing ≡ one_counted
first_of_list = refl

first_of_scan : with_record as_scan first_shown nothing ≡ one_counted
first_of_scan = refl

then_stretch : with_stretch stretch one_counted ≡ stretch_too
then_stretch = refl

then_third : with_record as_scan third_shown stretch_too ≡ both_counted
then_third = refl

abbrev counts_of_list : List ℕ
counts_of_list = codes "records 1\nsequences 1 1\nput 1\nend 24 badchecksum\n"

abbrev counts_of_scan : List ℕ
counts_of_scan = codes "records 2\nsequences 1 3\nput 2\nunread 1 24\nend 72 clean\n"

list_counts : totals_text as_list one_counted 24 (Broken BadChecksum) ≡ counts_of_list
unfolding digits
list_counts = refl

scan_lines : records_line as_scan.form 2 ++ sequences_line as_scan.form (both (Some 1) (Some 3)) ++ count_lines as_scan.form both_counted.tallies ++ all_stretches as_scan both_counted ++ end_line as_scan.form 72 Clean ≡ counts_of_scan
unfolding digits
scan_lines = refl

scan_counts : totals_text as_scan both_counted 72 Clean ≡ front ++ counts_of_scan
scan_counts =
    front_apart (front_of as_scan) (records_line as_scan.form 2) (sequences_line as_scan.form (both (Some 1) (Some 3))) (count_lines as_scan.form both_counted.tallies) (all_stretches as_scan both_counted) (end_line as_scan.form 72 Clean)
    ∙ ap₂ (λ (f g : List ℕ). f ++ g) front_is scan_lines

pub counted_list : IsSummary as_list plain_log damaged_log counts_of_list
counted_list = summary as_list plain_log damaged_log found_before one_counted counts_of_list list (record_counted as_list nothing one_counted one_counted 0 24 first_record [] first_shown first_shows first_of_list no_totals) list_counts

pub counted_scan : IsSummary as_scan plain_log damaged_log (front ++ counts_of_scan)
counted_scan =
    let third = record_counted as_scan stretch_too both_counted both_counted 48 72 third_record [] third_shown third_shows then_third no_totals in
    let later = stretch_counted as_scan one_counted stretch_too both_counted stretch (whole 48 72 third_record ∷ []) then_stretch third in
    let all = record_counted as_scan nothing one_counted both_counted 0 24 first_record (unread stretch ∷ whole 48 72 third_record ∷ []) first_shown first_shows first_of_scan later in
    summary as_scan plain_log damaged_log found_in_all both_counted (front ++ counts_of_scan) scan all scan_counts
