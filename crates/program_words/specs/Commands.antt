-- The commands: which options and numbers each takes, and what it asks for by the texts that are read for them.
use Rattle.std.specs.Prelude.{ℕ, ◌^◌, ◌&&◌, Bool, true, false, List, [], ◌∷◌, Option, Some, None, codes, bytes_eq, nat_lt, if◌then◌else◌, option_and_then, option_map}
use Rattle.std.specs.Str.Parse.{digits_value, without_leading_plus}
use Rattle.clap.specs.ValueTests.{is_numeral}
use Rattle.log_recovery.specs.declared.modes.Mode.{Mode}
use Rattle.log_recovery.specs.declared.modes.Mode.TheVariants.{Point, Tail, Absolute}
use Rattle.program_words.specs.Options.{Known, Place, Word, batch_bytes, batches, clients, families, group_bytes, last, log_bytes, logs, mode, number, pipelined, resume, seed, shards, table}
use Rattle.program_words.specs.declared.invocation.Invocation.{Invocation}
use Rattle.program_words.specs.declared.invocation.Invocation.TheVariants.{Run, Recover, Replay, Generate}

-- ---- the values of options

-- the text that was read for each name, as it was written and as a typed reading takes it
pub record Texts : Type 0 where
  pub written : Word → Option Word
  pub typed : Word → Option Word

-- the number that `u64` reads from a text
abbrev pub whole_number : Word → Option ℕ
whole_number text =
    let ds = without_leading_plus text in
    if is_numeral ds && nat_lt (digits_value 10 ds) (2 ^ 64) then Some (digits_value 10 ds) else None

-- the number of an option, or of a word in its place
abbrev pub number_in : Word → Texts → Option ℕ
number_in name texts = option_and_then whole_number (texts.typed name)

-- what `bool` reads from a text
abbrev pub bool_of : Word → Option Bool
bool_of text = if bytes_eq text (codes "true") then Some true
    else if bytes_eq text (codes "false") then Some false else None

-- whether a flag is given
abbrev pub flag_in : Word → Texts → Option Bool
flag_in name texts = option_and_then bool_of (texts.typed name)

-- how many shards a table of this kind has, where `shards` is the number that was read for them; `Some None` if it is
-- one tree
abbrev pub shards_of : Word → Option ℕ → Option (Option ℕ)
shards_of kind shards = if bytes_eq kind (codes "one") then Some None
    else if bytes_eq kind (codes "shards") then option_map (λ n. Some n) shards else None

abbrev pub shards_in : Texts → Option (Option ℕ)
shards_in texts =
    option_and_then (λ kind. shards_of kind (number_in (codes "shards") texts)) (texts.written (codes "table"))

-- the mode of this name
abbrev pub mode_of : Word → Option Mode
mode_of name = if bytes_eq name (codes "point") then Some Point
    else if bytes_eq name (codes "tail") then Some Tail
    else if bytes_eq name (codes "absolute") then Some Absolute else None

abbrev pub mode_in : Texts → Option Mode
mode_in texts = option_and_then mode_of (texts.written (codes "mode"))

-- ---- what a command asks for

-- how a command makes what it asks for: it takes one value after another, each by its option's name
pub data Asks : Type 0 where
  -- of a flag, whether it is given
  with_flag : Word → (Bool → Asks) → Asks
  -- a number that is there
  with_number : Word → (ℕ → Asks) → Asks
  -- a number, if there is one
  with_optional : Word → (Option ℕ → Asks) → Asks
  -- how many shards the table has, if it isn't one tree
  with_shards : (Option ℕ → Asks) → Asks
  -- which ends of the log its recovery accepts
  with_mode : (Mode → Asks) → Asks
  -- that is what it asks for
  asks : Invocation → Asks

-- what is asked for by these texts
abbrev pub asked_by : Texts → Asks → Option Invocation
asked_by texts (with_flag name next) =
    option_and_then (λ given. asked_by texts (next given)) (flag_in name texts)
asked_by texts (with_number name next) = option_and_then (λ n. asked_by texts (next n)) (number_in name texts)
asked_by texts (with_optional name next) = asked_by texts (next (number_in name texts))
asked_by texts (with_shards next) = option_and_then (λ in_shards. asked_by texts (next in_shards)) (shards_in texts)
asked_by texts (with_mode next) = option_and_then (λ accepting. asked_by texts (next accepting)) (mode_in texts)
asked_by texts (asks invocation) = Some invocation

-- ---- the commands

pub record Command : Type 0 where
  pub name : Word
  pub options : List Known
  pub places : List Place
  pub made : Asks

abbrev pub run : Command
run = record {
  name = codes "run";
  options = pipelined ∷ table ∷ shards ∷ group_bytes ∷ batch_bytes ∷ last ∷ number ∷ resume ∷ mode ∷ logs ∷ log_bytes
      ∷ families ∷ [];
  places = [];
  made =
      with_flag pipelined.name λ in_stages.
      with_shards λ in_shards.
      with_number group_bytes.name λ most_of_group.
      with_number batch_bytes.name λ most_of_batch.
      with_number last.name λ before.
      with_optional number.name λ its_number.
      with_flag resume.name λ goes_on.
      with_mode λ accepting.
      with_optional logs.name λ of_logs.
      with_number log_bytes.name λ full_at.
      with_number families.name λ of_families.
      asks (Run in_stages in_shards most_of_group most_of_batch before its_number goes_on accepting of_logs full_at
      of_families);
}

abbrev pub recover : Command
recover = record {
  name = codes "recover";
  options = number ∷ mode ∷ logs ∷ [];
  places = [];
  made =
      with_optional number.name λ its_number.
      with_mode λ accepting.
      with_optional logs.name λ of_logs.
      asks (Recover its_number accepting of_logs);
}

abbrev pub replay : Command
replay = record {
  name = codes "replay";
  options = pipelined ∷ group_bytes ∷ batch_bytes ∷ last ∷ families ∷ [];
  places = [];
  made =
      with_flag pipelined.name λ in_stages.
      with_number group_bytes.name λ most_of_group.
      with_number batch_bytes.name λ most_of_batch.
      with_number last.name λ before.
      with_number families.name λ of_families.
      asks (Replay in_stages most_of_group most_of_batch before of_families);
}

abbrev pub generate : Command
generate = record {
  name = codes "gen";
  options = pipelined ∷ table ∷ shards ∷ families ∷ [];
  places = seed ∷ clients ∷ batches ∷ [];
  made =
      with_flag pipelined.name λ in_stages.
      with_shards λ in_shards.
      with_number seed.name λ from.
      with_number clients.name λ of_clients.
      with_number batches.name λ of_batches.
      with_number families.name λ of_families.
      asks (Generate in_stages in_shards from of_clients of_batches of_families);
}

abbrev pub commands : List Command
commands = run ∷ recover ∷ replay ∷ generate ∷ []
