-- Where reading is tried again after it has ended. Where a definition takes `number` first, that is the log's number,
-- if it has one.
--
-- RocksDB's db/log_reader.cc drops the rest of a block at damage, and goes on in the next one. Here a fragment in the
-- rest of the block is looked at too: it is one if its own checksum is right.
use Rattle.std.specs.Prelude.{ℕ, ◌+◌, ◌&&◌, ◌==◌, Bool, true, false, not, List, length, take, drop, nat_le, nat_lt, bytes_eq, Option, Some, None, option_and_then, if◌then◌else◌}
use Rattle.model_base.specs.declared.log.EndReason.{EndReason}
use Rattle.model_base.specs.declared.log.EndReason.TheVariants as ends
use Rattle.model_base.specs.Log.{Kind, full, first, header, header_len, room, plain_log}
use Rattle.model_base.specs.Reading.{kind_of_code, length_field, type_field, part_field}
use Rattle.log_reader.specs.Damaged.{is_damaged}
use Rattle.log_scan.specs.Fronts.{first_number}

-- how long a fragment is, as the header in front of these bytes says
abbrev pub fragment_len : Option ℕ → List ℕ → ℕ
fragment_len number bytes = header_len number + length_field bytes

-- this number, if a fragment reads with it at the file's start
abbrev pub if_it_reads : List ℕ → ℕ → Option ℕ
if_it_reads file number = if is_damaged (Some number) file 0 then None else Some number

-- the number in the first header of the file, if it has one and a fragment reads there with it
abbrev pub own_number : List ℕ → Option ℕ
own_number file = option_and_then (if_it_reads file) (first_number file)

abbrev pub begins_record : Option Kind → Bool
begins_record (Some full) = true
begins_record (Some first) = true
begins_record _ = false

-- After a fragment in a wrong place: with it, if it begins a record. Otherwise it continues a record whose beginning
-- isn't there, and reading goes on after it.
abbrev pub after_header : Option ℕ → List ℕ → ℕ → ℕ
after_header number header at =
    if begins_record (kind_of_code number (type_field header)) then at else at + fragment_len number header

abbrev pub after_misplaced : Option ℕ → List ℕ → ℕ → ℕ
after_misplaced number file at = after_header number (drop at file) at

-- where the next block begins
abbrev pub next_block : ℕ → ℕ
next_block at = at + room at

-- the damaged fragment's end, as its header says, is in the same block, and there is no damage there
abbrev may_go_on : Option ℕ → List ℕ → ℕ → Bool
may_go_on number file at = nat_le (at + header_len number) (length file)
    && nat_lt (fragment_len number (drop at file)) (room at)
    && not (is_damaged number file (at + fragment_len number (drop at file)))

abbrev pub after_damage : Option ℕ → List ℕ → ℕ → ℕ
after_damage number file at =
    if may_go_on number file at then at + fragment_len number (drop at file) else next_block at

-- only a place that the file has
abbrev pub there : List ℕ → ℕ → Option ℕ
there file place = if nat_lt place (length file) then Some place else None

-- A log whose records are compressed begins with a fragment of type 9, kSetCompressionType of RocksDB's
-- db/log_format.h. Its header has 7 bytes, also in a log with a number. These bytes begin with one: the header is right
-- for the part after it. So neither a damaged type nor a part that is cut off is taken for it.
abbrev pub sets_compression : List ℕ → Bool
sets_compression bytes = bytes_eq (take 7 bytes) (header plain_log 9 (part_field plain_log bytes))

-- the file's first block begins with such a fragment
abbrev pub is_compressed : List ℕ → Bool
is_compressed file = sets_compression (take 32768 file)

-- where reading of the file is tried again after it has ended at this place for this reason, if it is; never after the
-- first fragment of a compressed log, since what follows may look like fragments, and is none of a record as written
abbrev pub resumes_at : Option ℕ → List ℕ → ℕ → EndReason → Option ℕ
resumes_at number file at ends.BadOrder = there file (after_misplaced number file at)
resumes_at number file at (ends.Broken d) =
    if at == 0 && is_compressed file then None else there file (after_damage number file at)
resumes_at number file at _ = None
