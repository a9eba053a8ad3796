-- A log of three records, of which the second one is damaged, and what is asked of it. The rows of `log_scan_laws`
-- are about the same bytes.
use Rattle.std.specs.Prelude.{ℕ, ◌-◌, ◌^◌, Bool, true, false, List, [], ◌∷◌, ◌++◌, codes, take, drop, None}
use Rattle.model_base.specs.Batch.{batch, value}
use Rattle.model_base.specs.Log.{text, plain_log}
use Rattle.list_log.specs.declared.settings.Settings.{Settings}

-- the batches of `put a 1`, `put b 2` and `put c 3`, with the sequences 1 to 3
abbrev pub first_record : List ℕ
first_record = batch 1 (value None (codes "a") (codes "1") ∷ [])

abbrev pub second_record : List ℕ
second_record = batch 2 (value None (codes "b") (codes "2") ∷ [])

abbrev pub third_record : List ℕ
third_record = batch 3 (value None (codes "c") (codes "3") ∷ [])

abbrev pub whole_log : List ℕ
whole_log = text plain_log (first_record ∷ second_record ∷ third_record ∷ [])

-- the byte at the offset 45, the key of the second record, is an `x`
abbrev pub damaged_log : List ℕ
damaged_log = take 45 whole_log ++ codes "x" ++ drop 46 whole_log

-- what `--text` asks for, and no other option: all sequences and all keys, in words, with printable bytes as they are
abbrev shown_as : Bool → Settings
shown_as scan = record {
  form = record { json = false; text = true };
  from = 0;
  to = 2 ^ 64 - 1;
  key = None;
  scan = scan;
}

-- by `list`, up to the damage
abbrev pub as_list : Settings
as_list = shown_as false

-- by `scan`, also after it
abbrev pub as_scan : Settings
as_scan = shown_as true
