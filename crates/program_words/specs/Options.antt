-- The options of the commands, and the numbers that have places of their own behind them: the name of each, what it
-- takes, and what stands for it unless it is given.
use Rattle.std.specs.Prelude.{ℕ, ◌-◌, ◌^◌, List, [], ◌∷◌, Option, Some, None, codes}
use Rattle.model_base.specs.declared.limits.TheConstants.{MAX_CLIENTS, MAX_FAMILIES, MAX_SIZE}

-- the bytes of a word
abbrev pub Word : Type 0
Word = List ℕ

-- what an option takes
pub data Kind : Type 0 where
  -- nothing: it is a flag
  no_value : Kind
  -- a whole number from the first to the second; these digits stand for it unless it is given, if there are any
  number_within : ℕ → ℕ → Option Word → Kind
  -- one of these words; the last stands for it unless it is given
  word_among : List Word → Word → Kind

-- an option `--name`
pub record Known : Type 0 where
  pub name : Word
  pub kind : Kind

-- a whole number from `least` to `most` in a place of its own, which may not be left out
pub record Place : Type 0 where
  pub name : Word
  pub least : ℕ
  pub most : ℕ

-- ---- the options

-- whether the log is handed on before a group is inserted
abbrev pub pipelined : Known
pipelined = record { name = codes "pipelined"; kind = no_value }

-- what the table is made of: one tree, or trees in shards
abbrev pub table : Known
table = record { name = codes "table"; kind = word_among (codes "one" ∷ codes "shards" ∷ []) (codes "one") }

-- how many shards the table has, if it is in shards
abbrev pub shards : Known
shards = record { name = codes "shards"; kind = number_within 1 64 (Some (codes "16")) }

-- the most bytes of a write group
abbrev pub group_bytes : Known
group_bytes = record { name = codes "group-bytes"; kind = number_within 1 16777216 (Some (codes "1048576")) }

-- the most bytes of a batch
abbrev pub batch_bytes : Known
batch_bytes = record { name = codes "batch-bytes"; kind = number_within 12 MAX_SIZE (Some (codes "16777216")) }

-- the sequence number before that of the first batch
abbrev pub last : Known
last = record { name = codes "last"; kind = number_within 0 (2 ^ 56 - 1) (Some (codes "0")) }

-- the number of the log, if it has one
abbrev pub number : Known
number = record { name = codes "number"; kind = number_within 1 (2 ^ 32 - 1) None }

-- whether the log goes on after what it recovers
abbrev pub resume : Known
resume = record { name = codes "resume"; kind = no_value }

-- which ends of the log its recovery accepts
abbrev pub mode : Known
mode = record {
  name = codes "mode";
  kind = word_among (codes "point" ∷ codes "tail" ∷ codes "absolute" ∷ []) (codes "point");
}

-- over how many logs a run goes, or recovery, if that is said; it is one otherwise
abbrev pub logs : Known
logs = record { name = codes "logs"; kind = number_within 1 16 None }

-- from which length on a log is full, if the run has several
abbrev pub log_bytes : Known
log_bytes = record { name = codes "log-bytes"; kind = number_within 1 (2 ^ 40) (Some (codes "67108864")) }

-- how many column families there are: those with the numbers below this one
abbrev pub families : Known
families = record { name = codes "families"; kind = number_within 1 MAX_FAMILIES (Some (codes "1")) }

-- ---- the numbers of `gen`

-- the seed from which a script's numbers are drawn
abbrev pub seed : Place
seed = record { name = codes "SEED"; least = 0; most = 2 ^ 31 - 1 }

-- how many clients it has
abbrev pub clients : Place
clients = record { name = codes "CLIENTS"; least = 1; most = MAX_CLIENTS }

-- how many batches each client commits
abbrev pub batches : Place
batches = record { name = codes "BATCHES"; least = 1; most = 100000 }
