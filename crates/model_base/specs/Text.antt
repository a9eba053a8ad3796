-- What the program prints.
use Rattle.std.specs.Prelude.{ℕ, ◌/◌, ◌%◌, List, [], ◌∷◌, ◌++◌, length, map, flat_map, codes, decimal, ◌==◌, if◌then◌else◌, Option, Some, None}
use Rattle.std.specs.List.{join_with_byte, enumerate_from}
use Rattle.std.specs.Fmt.{digit_glyph}
use Rattle.std.specs.Prelude.{false}
use Rattle.model_base.specs.declared.history.Flag.{Flag}
use Rattle.model_base.specs.declared.history.Flag.TheVariants.{Log, NoLog, Sync}
use Rattle.model_base.specs.declared.write.Refusal.{Refusal}
use Rattle.model_base.specs.declared.write.Refusal.TheVariants as no
use Rattle.model_base.specs.declared.log.Damage.{Damage}
use Rattle.model_base.specs.declared.log.Damage.TheVariants.{ShortHeader, Zeros, BadLength, BadType, BadChecksum, BadTrailer, OldLog}
use Rattle.model_base.specs.declared.log.EndReason.{EndReason}
use Rattle.model_base.specs.declared.log.EndReason.TheVariants as ends
use Rattle.model_base.specs.Batch.{count_of, batch}
use Rattle.model_base.specs.Map.{Key, Pairs}
use Rattle.model_base.specs.History.{Entry, last_of}
use Rattle.model_base.specs.Calls.{Reply, quiet, accepted, refused, found, found_each, rows, updates_found, read_failed, done, held, not_held, no_memory, Call, Outcome}
use Rattle.model_base.specs.Recovery.{Logged, logged_bytes, Recovered, recovered_last, recovered_map}
use Rattle.model_base.specs.RecoveredLogs.{RecoveredLogs, map_of_logs, last_of_logs}

-- words with one space between them, and a line feed
abbrev pub line : List (List ℕ) → List ℕ
line words = join_with_byte 32 words ++ 10 ∷ []

-- two lower-case hex digits for each byte
abbrev pub hex : List ℕ → List ℕ
hex bytes = flat_map (λ b. digit_glyph false (b / 16) ∷ digit_glyph false (b % 16) ∷ []) bytes

abbrev pub refusal_words : Refusal → List (List ℕ)
refusal_words no.Empty = codes "empty" ∷ []
refusal_words (no.TooLarge size) = codes "large" ∷ decimal size ∷ []
refusal_words no.SyncWithoutLog = codes "syncwithoutlog" ∷ []
refusal_words no.SelfStop = codes "selfstop" ∷ []
refusal_words no.NoMemory = codes "memory" ∷ []
refusal_words (no.Incomplete stops delays wait) =
    codes "incomplete" ∷ decimal stops ∷ decimal delays ∷ decimal wait ∷ []
refusal_words (no.LogFault count) = codes "logfault" ∷ decimal count ∷ []
refusal_words (no.SequenceFull last) = codes "full" ∷ decimal last ∷ []
refusal_words (no.NoFamily family) = codes "family" ∷ decimal family ∷ []

-- `=V` for a value, and `-` for none
abbrev pub found_word : Option (List ℕ) → List ℕ
found_word (Some v) = codes "=" ++ v
found_word None = codes "-"

abbrev pub reply_text : Reply → List ℕ
reply_text quiet = []
reply_text (accepted first last records) = line (codes "ok" ∷ decimal first ∷ decimal last ∷ [])
reply_text (refused why) = line (codes "no" ∷ refusal_words why)
reply_text (found at (Some v)) = line (codes "val" ∷ decimal at ∷ v ∷ [])
reply_text (found at None) = line (codes "nil" ∷ decimal at ∷ [])
reply_text (found_each at values) = line (codes "many" ∷ decimal at ∷ decimal (length values) ∷ map found_word values)
reply_text (rows at pairs) =
    line (codes "scan" ∷ decimal at ∷ decimal (length pairs) ∷ flat_map (λ p. p.0 ∷ p.1 ∷ []) pairs)
reply_text (updates_found at records) =
    line (codes "updates" ∷ decimal at ∷ decimal (length records) ∷ map hex records)
reply_text (read_failed count) = line (codes "no" ∷ codes "readfault" ∷ decimal count ∷ [])
reply_text done = line (codes "done" ∷ [])
reply_text held = line (codes "held" ∷ [])
reply_text not_held = line (codes "notheld" ∷ [])
reply_text no_memory = line (codes "no" ∷ codes "memory" ∷ [])

-- a client's section: its number, and then its replies
abbrev pub client_text : ℕ × List Call → List ℕ
client_text p = line (codes "client" ∷ decimal p.0 ∷ []) ++ flat_map (λ c. reply_text c.reply) p.1

abbrev pub clients_text : List (List Call) → List ℕ
clients_text transcripts = flat_map client_text (enumerate_from 1 transcripts)

abbrev pub flag_word : Flag → List ℕ
flag_word Log = codes "log"
flag_word NoLog = codes "nolog"
flag_word Sync = codes "sync"

abbrev pub entry_text : Entry → List ℕ
entry_text e =
    line (decimal e.first ∷ decimal (last_of e) ∷ decimal e.client ∷ decimal e.ordinal ∷ flag_word e.flag
    ∷ hex (batch e.first e.records) ∷ [])

abbrev pub history_text : List Entry → List ℕ
history_text entries = line (codes "history" ∷ decimal (length entries) ∷ []) ++ flat_map entry_text entries

-- a key, after its family's number unless that is 0, where `word` says how it is printed
abbrev pub key_words : (List ℕ → List ℕ) → Key → List (List ℕ)
key_words word key = (if key.family == 0 then [] else decimal key.family ∷ []) ++ word key.bytes ∷ []

-- the sequence, the number of keys, and the pairs, where `word` says how a key or a value is printed
abbrev pub state_text : (List ℕ → List ℕ) → ℕ → Pairs → List ℕ
state_text word last pairs = line (codes "state" ∷ decimal last ∷ decimal (length pairs) ∷ [])
    ++ flat_map (λ p. line (key_words word p.0 ++ word p.1 ∷ [])) pairs

-- the lengths of the logs that were begun, and the count of the fault
abbrev pub log_text : List ℕ → Option ℕ → List ℕ
log_text lens None = line (codes "log" ∷ map decimal lens)
log_text lens (Some count) = line (codes "log" ∷ map decimal lens ++ codes "fault" ∷ decimal count ∷ [])

-- what `run` prints
abbrev pub outcome_text : Outcome → List ℕ
outcome_text o = clients_text o.transcripts ++ history_text o.history ++ state_text (λ w. w) o.last o.state
    ++ log_text o.log_lens o.fault

abbrev pub damage_words : Damage → List (List ℕ)
damage_words ShortHeader = codes "shortheader" ∷ []
damage_words Zeros = codes "zeros" ∷ []
damage_words BadLength = codes "badlength" ∷ []
damage_words (BadType t) = codes "badtype" ∷ decimal t ∷ []
damage_words BadChecksum = codes "badchecksum" ∷ []
damage_words BadTrailer = codes "badtrailer" ∷ []
damage_words (OldLog n) = codes "oldlog" ∷ decimal n ∷ []

abbrev pub end_words : EndReason → List (List ℕ)
end_words ends.Clean = codes "clean" ∷ []
end_words (ends.Broken d) = damage_words d
end_words ends.BadOrder = codes "badorder" ∷ []
end_words ends.Unfinished = codes "unfinished" ∷ []
end_words ends.Short = codes "short" ∷ []
end_words ends.BadVarint = codes "badvarint" ∷ []
end_words (ends.Tag t) = codes "tag" ∷ decimal t ∷ []
end_words (ends.Count said n) = codes "count" ∷ decimal said ∷ decimal n ∷ []
end_words (ends.Order first last) = codes "order" ∷ decimal first ∷ decimal last ∷ []
end_words (ends.High first count) = codes "high" ∷ decimal first ∷ decimal count ∷ []

-- bytes as hex digits, and `-` where there are none
abbrev pub hex_word : List ℕ → List ℕ
hex_word [] = codes "-"
hex_word (b ∷ bytes) = hex (b ∷ bytes)

abbrev pub group_text : Logged → List ℕ
group_text b = line (decimal b.first ∷ decimal (count_of b.records) ∷ decimal (length (logged_bytes b)) ∷ [])

-- what `recover` prints
abbrev pub recovered_text : Recovered → List ℕ
recovered_text r = line (codes "groups" ∷ decimal (length r.batches) ∷ []) ++ flat_map group_text r.batches
    ++ state_text hex_word (recovered_last r) (recovered_map r) ++ line (codes "end" ∷ decimal r.at ∷ end_words r.why)

-- what `recover` prints of several logs: the end names the log in which it is, counted from 1
abbrev pub recovered_logs_text : RecoveredLogs → List ℕ
recovered_logs_text r = line (codes "groups" ∷ decimal (length r.batches) ∷ []) ++ flat_map group_text r.batches
    ++ state_text hex_word (last_of_logs r) (map_of_logs r)
    ++ line (codes "end" ∷ decimal r.log ∷ decimal r.at ∷ end_words r.why)
