-- Two batches of one client, the first of which was to be synced, in one log or in two; and calls that may have written
-- a log.
use Rattle.std.specs.Prelude.{◌≡◌, ℕ, Bool, true, false, List, [], ◌∷◌, length, codes, replicate, Option, Some, None}
use Rattle.model_base.specs.declared.history.Flag.{Flag}
use Rattle.model_base.specs.declared.history.Flag.TheVariants.{Log, Sync}
use Rattle.model_base.specs.Batch.{Record, value}
use Rattle.model_base.specs.Log.{Beginning, text, plain_log, new_log}
use Rattle.model_base.specs.History.{Entry}
use Rattle.model_base.specs.LogContents.{GroupCall, records_of}
use Rattle.model_runs.specs.Crashes.{text_through}
use Rattle.model_runs.specs.SeveralLogs.{Held}

-- batches of one record: `put a 1` and `put b 2`
abbrev pub put_a : List Record
put_a = value None (codes "a") (codes "1") ∷ []

abbrev pub put_b : List Record
put_b = value None (codes "b") (codes "2") ∷ []

-- the client numbered 1 committed such a batch
abbrev pub entry_of : ℕ → Flag → List Record → Entry
entry_of n flag records =
    record { client = 1; ordinal = n; first = n; count = 1; flag = flag; records = records }

-- `put a 1` with `commit sync`, and then `put b 2` with `commit`, each in a group of its own
abbrev pub two_groups : List (List Entry)
two_groups = (entry_of 1 Sync put_a ∷ []) ∷ (entry_of 2 Log put_b ∷ []) ∷ []

abbrev pub two_entries : List Entry
two_entries = entry_of 1 Sync put_a ∷ entry_of 2 Log put_b ∷ []

-- the text of both, and of the first, which has 24 bytes
abbrev pub text_of_both : List ℕ
text_of_both = text plain_log (records_of two_groups)

abbrev pub text_of_first : List ℕ
text_of_first = text_through new_log two_groups 0

-- n zeros
abbrev pub zeros : ℕ → List ℕ
zeros n = replicate n 0

-- a call of the log writer, and the count of the fault that it was answered, if it failed
abbrev pub call_of : ℕ → List (List Record) → Bool → Option ℕ → GroupCall
call_of first batches sync failed = record { first = first; batches = batches; sync = sync; failed = failed }

-- the write of one batch failed, and after it that of another worked
abbrev pub failed_then_worked : List GroupCall
failed_then_worked = call_of 1 (put_a ∷ []) false (Some 1) ∷ call_of 1 (put_b ∷ []) false None ∷ []

-- both batches in one record, and each in one of its own
abbrev pub in_one_record : List GroupCall
in_one_record = call_of 1 (put_a ∷ put_b ∷ []) true None ∷ []

abbrev pub in_two_records : List GroupCall
in_two_records = call_of 1 (put_a ∷ []) true None ∷ call_of 2 (put_b ∷ []) false None ∷ []

-- a log with the number 7, that is written over the old bytes of its disk
abbrev pub over_old_bytes : Beginning
over_old_bytes = record { number = Some 7; kept = [] }

-- whichever calls have returned, the image has only the old bytes: these are zeros
abbrev pub nothing_written : List GroupCall → List GroupCall → List ℕ → Type 0
nothing_written before after image = image ≡ zeros 56

-- the groups in two logs, each in one of its own: where the first was to be synced, and where none was
abbrev pub in_two_logs : List (List (List Entry))
in_two_logs = ((entry_of 1 Sync put_a ∷ []) ∷ []) ∷ ((entry_of 2 Log put_b ∷ []) ∷ []) ∷ []

abbrev pub unsynced_in_two_logs : List (List (List Entry))
unsynced_in_two_logs = ((entry_of 1 Log put_a ∷ []) ∷ []) ∷ ((entry_of 2 Log put_b ∷ []) ∷ []) ∷ []

-- the text of the second, where it is the first of its log; it has 24 bytes too
abbrev pub text_in_second_log : List ℕ
text_in_second_log = text plain_log (records_of ((entry_of 2 Log put_b ∷ []) ∷ []))

-- whichever calls have returned, only the second log has bytes
abbrev pub only_in_second_log : List GroupCall → List GroupCall → List (List ℕ) → Type 0
only_in_second_log before after images = images ≡ [] ∷ text_in_second_log ∷ []

-- once all calls have returned, no log has bytes
abbrev pub none_at_the_end : List GroupCall → List GroupCall → List (List ℕ) → Type 0
none_at_the_end before after images = (after ≡ []) × (images ≡ [] ∷ [] ∷ [])

-- a disk with these bytes, and its place after them
abbrev pub held_up_to_its_end : List ℕ → Held
held_up_to_its_end content = record { content = content; place = length content }
