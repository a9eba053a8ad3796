-- The limits of what words ask for.
use Rattle.std.specs.Prelude.{ℕ, ◌^◌, ◌<◌, ◌≤◌, Option, IfSome}
use Rattle.model_base.specs.declared.limits.TheConstants.{MAX_CLIENTS, MAX_FAMILIES, MAX_SIZE}
use Rattle.program_words.specs.declared.invocation.Invocation.{Invocation}
use Rattle.program_words.specs.declared.invocation.Invocation.TheVariants.{Run, Recover, Replay, Generate}

-- a table in shards has from 1 to 64 of them
abbrev pub KeepsShards : Option ℕ → Type 0
KeepsShards shards = IfSome shards (λ n. (1 ≤ n) × (n ≤ 64))

-- a log's number, if it has one, is from 1 to 2^32 - 1
abbrev pub KeepsNumber : Option ℕ → Type 0
KeepsNumber number = IfSome number (λ n. (1 ≤ n) × (n < 2 ^ 32))

-- there are from 1 to 16 logs, where their number is given
abbrev pub KeepsLogs : Option ℕ → Type 0
KeepsLogs logs = IfSome logs (λ n. (1 ≤ n) × (n ≤ 16))

-- there are from 1 to 16 column families
abbrev pub KeepsFamilies : ℕ → Type 0
KeepsFamilies families = (1 ≤ families) × (families ≤ MAX_FAMILIES)

-- a batch's limit has room for its header at least, a write group's for one byte, and the sequence number is below
-- 2^56; a script made from a seed has from 1 to 64 clients, each with from 1 to 100000 batches
abbrev pub KeepsLimits : Invocation → Type 0
KeepsLimits (Run pipelined shards group_bytes batch_bytes last number resume mode logs log_bytes families) =
    KeepsShards shards × (1 ≤ group_bytes) × (group_bytes ≤ 16777216) × (12 ≤ batch_bytes) × (batch_bytes ≤ MAX_SIZE)
    × (last < 2 ^ 56) × KeepsNumber number × KeepsLogs logs × (1 ≤ log_bytes) × (log_bytes ≤ 2 ^ 40)
    × KeepsFamilies families
KeepsLimits (Recover number mode logs) = KeepsNumber number × KeepsLogs logs
KeepsLimits (Replay pipelined group_bytes batch_bytes last families) = (1 ≤ group_bytes) × (group_bytes ≤ 16777216)
    × (12 ≤ batch_bytes) × (batch_bytes ≤ MAX_SIZE) × (last < 2 ^ 56) × KeepsFamilies families
KeepsLimits (Generate pipelined shards seed clients batches families) = KeepsShards shards × (seed < 2 ^ 31)
    × (1 ≤ clients) × (clients ≤ MAX_CLIENTS) × (1 ≤ batches) × (batches ≤ 100000) × KeepsFamilies families
