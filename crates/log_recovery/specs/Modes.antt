-- Which ends of recovery a mode accepts, compared with RocksDB's WALRecoveryMode (its include/rocksdb/options.h, the
-- wiki's "WAL Recovery Modes", and db/log_reader.cc). `Point` is kPointInTimeRecovery, `Tail` is
-- kTolerateCorruptedTailRecords, and `Absolute` is kAbsoluteConsistency. There is no kSkipAnyCorruptedRecords: what
-- follows a gap is another history. Each mode that accepts the end recovers the same as `Point`. Other differences from
-- RocksDB:
--
-- - Zeros. RocksDB passes over them in each mode, reports nothing, and reads on in the next block. Here they end the
--   log. `Tail` accepts them only where nothing else follows, and `Absolute` never.
-- - A length that is greater than what the file's last block has. RocksDB's kTolerateCorruptedTailRecords accepts any
--   such length. Here `Tail` accepts none that passes the block, since no writer makes such a fragment.
-- - A wrong checksum in a file that several logs were written to. RocksDB's kTolerateCorruptedTailRecords ends the log
--   there and accepts that. Here only `Point` accepts it.
-- - An older log's fragment inside a record. RocksDB's kAbsoluteConsistency refuses it. Here each mode accepts an older
--   log's fragment, wherever the log ends at it.
-- - Bytes at a block's end that aren't zeros. RocksDB doesn't look at them. Here only `Point` accepts them.
use Rattle.std.specs.Prelude.{◌≡◌, ◌⊎◌, ℕ, ◌+◌, ◌<◌, ◌≤◌, List, length, drop, Option, true, ⊤}
use Rattle.model_base.specs.declared.log.Damage.TheVariants.{ShortHeader, Zeros, BadLength, OldLog}
use Rattle.model_base.specs.declared.log.EndReason.{EndReason}
use Rattle.model_base.specs.declared.log.EndReason.TheVariants as ends
use Rattle.model_base.specs.Log.{header_len, room}
use Rattle.model_base.specs.Reading.{are_zeros, length_field}
use Rattle.model_base.specs.Recovery as recovery
use Rattle.log_recovery.specs.declared.modes.Mode.{Mode}
use Rattle.log_recovery.specs.declared.modes.Mode.TheVariants.{Point, Tail, Absolute}
use Rattle.log_recovery.specs.declared.recovery.RecoverError.{RecoverError}
use Rattle.log_recovery.specs.declared.recovery.RecoverError.TheVariants.{Fault, NoMemory, Damage}

-- how long a fragment is, as the header in front of these bytes says
abbrev pub fragment_len : Option ℕ → List ℕ → ℕ
fragment_len number bytes = header_len number + length_field bytes

-- The fragment at this place goes on past the end of the file. Its header is in the file, and it doesn't pass its
-- block.
pub record PassesFile (number : Option ℕ) (file : List ℕ) (at : ℕ) : Type 0 where
  pub header : at + header_len number ≤ length file
  pub past : length file < at + fragment_len number (drop at file)
  pub in_block : fragment_len number (drop at file) ≤ room at

-- the log ends as a whole one does
pub data IsWholeEnd : EndReason → Type 0 where
  -- the file ends after its last record
  clean : IsWholeEnd ends.Clean
  -- a fragment follows that an older log left in the file
  old_log : {number : ℕ} → IsWholeEnd (ends.Broken (OldLog number))

-- The log's last write was cut off at this place: some of it is there, or zeros, and nothing else follows.
pub data IsCutOff (number : Option ℕ) (file : List ℕ) (at : ℕ) : EndReason → Type 0 where
  -- within a header
  in_header : IsCutOff number file at (ends.Broken ShortHeader)
  -- within the part after a header
  in_part : PassesFile number file at → IsCutOff number file at (ends.Broken BadLength)
  -- between two fragments of a record
  in_record : IsCutOff number file at ends.Unfinished
  -- the file has room for more, to which nothing was written
  zeros : are_zeros (drop at file) ≡ true → IsCutOff number file at (ends.Broken Zeros)

-- the mode accepts that recovery of the file, a log with this number, if it has one, ends at this place for this
-- reason
abbrev pub Accepts : Option ℕ → Mode → List ℕ → ℕ → EndReason → Type 0
Accepts number Point file at why = ⊤
Accepts number Tail file at why = IsWholeEnd why ⊎ IsCutOff number file at why
Accepts number Absolute file at why = IsWholeEnd why

-- recovery of the file ends at this place, for this reason, and the mode doesn't accept that
pub record IsDamage (number : Option ℕ) (mode : Mode) (file : List ℕ) (at : ℕ) (why : EndReason) : Type 0 where
  pub recovered : recovery.Recovered
  pub is : recovery.IsRecovered number file recovered
  pub at_is : recovered.at ≡ at
  pub why_is : recovered.why ≡ why
  pub refused : Accepts number mode file at why → ⊥

-- what an error says of the file
abbrev pub TellsDamage : Option ℕ → Mode → List ℕ → RecoverError → Type 0
TellsDamage number mode file (Damage log at why) = IsDamage number mode file at why
TellsDamage number mode file (Fault count) = ⊤
TellsDamage number mode file NoMemory = ⊤
