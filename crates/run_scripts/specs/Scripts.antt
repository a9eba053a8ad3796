-- The commands that a parsed script holds.
use Rattle.std.specs.Prelude.{◌≡◌, ℕ, ◌+◌, ◌<◌, ◌≤◌, ◌^◌, List, [], ◌∷◌, length, sum_by, Option, Some, None, IfSome, Result, Err, decimal}
use Rattle.std.specs.List.{AllByRecursion}
use Rattle.model_base.specs.declared.limits.TheConstants.{MAX_SIZE}
use Rattle.model_base.specs.Batch.{Record, value, deletion, single_deletion, log_data, size_of_batch}
use Rattle.model_base.specs.Calls.{Command, add, clear, commit, get, many, scan, updates, stop, unstop, slow, unslow}
use Rattle.model_base.specs.Script as model
use Rattle.run_scripts.specs.declared.script.Script.{Script}
use Rattle.run_scripts.specs.declared.script.ScriptError.{ScriptError}
use Rattle.run_scripts.specs.declared.script.ScriptError.TheVariants.{Fault, NoMemory}

abbrev pub commands_of : Script → List (List Command)
commands_of script = script.clients.items

-- all records that commands add, whatever clears and commits there are
abbrev pub additions_of : List Command → List Record
additions_of [] = []
additions_of (add r ∷ cs) = r ∷ additions_of cs
additions_of (other ∷ cs) = additions_of cs

-- all that a client adds fits into one batch of 16 MiB, even if no commit is accepted
abbrev pub FitsBatches : Script → Type 0
FitsBatches script = AllByRecursion (λ cs. size_of_batch (additions_of cs) ≤ MAX_SIZE) (commands_of script)

-- how much longer a line is that names a family: a letter, the number and a space
abbrev pub family_len : Option ℕ → ℕ
family_len None = 0
family_len (Some family) = length (decimal family) + 2

-- the length of the shortest line that adds a record, with its line feed; 0 for other lines
abbrev pub line_len : Command → ℕ
line_len (add (value family key v)) = family_len family + length key + length v + 6
line_len (add (deletion family key)) = family_len family + length key + 5
line_len (add (single_deletion family key)) = family_len family + length key + 6
line_len (add (log_data text)) = length text + 6
line_len clear = 0
line_len (commit options) = 0
line_len (get key) = 0
line_len (many keys) = 0
line_len (scan family lo hi) = 0
line_len (updates n) = 0
line_len stop = 0
line_len unstop = 0
line_len (slow rate) = 0
line_len unslow = 0

-- a word of a script has at least one byte, and at most 1024
abbrev pub IsShort : List ℕ → Type 0
IsShort word = (1 ≤ length word) × (length word ≤ 1024)

-- a family that a record names has a number of 32 bits
abbrev pub NamesSmall : Option ℕ → Type 0
NamesSmall family = IfSome family (λ f. f < 2 ^ 32)

-- the words of a record are short
abbrev pub AddsShort : Record → Type 0
AddsShort (value family key v) = NamesSmall family × IsShort key × IsShort v
AddsShort (deletion family key) = NamesSmall family × IsShort key
AddsShort (single_deletion family key) = NamesSmall family × IsShort key
AddsShort (log_data text) = IsShort text

-- a command that adds to the batch, empties it or commits it, or reads one key, with short words
abbrev pub IsScriptCommand : Command → Type 0
IsScriptCommand (add r) = AddsShort r
IsScriptCommand clear = Unit {0}
IsScriptCommand (commit options) = Unit {0}
IsScriptCommand (get key) = IsShort key.bytes
IsScriptCommand (many keys) = ⊥
IsScriptCommand (scan family lo hi) = ⊥
IsScriptCommand (updates n) = ⊥
IsScriptCommand stop = ⊥
IsScriptCommand unstop = ⊥
IsScriptCommand (slow rate) = ⊥
IsScriptCommand unslow = ⊥

-- such a command, or one that reads several keys or a range of keys, with short words, or the log
abbrev pub IsClientsCommand : Command → Type 0
IsClientsCommand (many keys) = AllByRecursion (λ k. IsShort k.bytes) keys
IsClientsCommand (scan family lo hi) = IsShort lo × IsShort hi
IsClientsCommand (updates n) = Unit {0}
IsClientsCommand other = IsScriptCommand other

-- the length of all lines of a client that add records
abbrev pub lines_len : List Command → ℕ
lines_len cs = sum_by line_len cs

-- the length of all such lines of all clients
abbrev pub script_len : Script → ℕ
script_len script = sum_by lines_len (commands_of script)

-- each command is one of `IsScriptCommand`
abbrev pub HasScriptCommands : Script → Type 0
HasScriptCommands script = AllByRecursion (AllByRecursion IsScriptCommand) (commands_of script)

-- each command is one of `IsClientsCommand`
abbrev pub HasClientsCommands : Script → Type 0
HasClientsCommands script = AllByRecursion (AllByRecursion IsClientsCommand) (commands_of script)

-- The fault and its line are those in `given`. That there was no memory says nothing of the text.
abbrev pub IsFaultOf : Result model.Script model.Fault → ScriptError → Type 0
IsFaultOf given (Fault line kind) = given ≡ Err (record { line = line; kind = kind })
IsFaultOf given NoMemory = Unit {0}
