-- A client's progress: what holds of it between two of its calls.
use Rattle.std.specs.Prelude.{ℕ, ◌+◌, Bool, not, ◌&&◌, List, [], ◌∷◌, ◌++◌, length, fold, filter_map, find, Option, Some, None, nat_lt, nat_le, ◌==◌, if◌then◌else◌}
use Rattle.std.specs.Option.{option_map_or}
use Rattle.model_base.specs.declared.write.WriteOptions.{WriteOptions}
use Rattle.model_base.specs.declared.write.Refusal.{Refusal}
use Rattle.model_base.specs.declared.write.Refusal.TheVariants as no
use Rattle.model_base.specs.Batch.{Record, value, deletion, single_deletion, log_data, count_of, size_of_batch}
use Rattle.model_base.specs.Map.{family_of}
use Rattle.model_base.specs.History.{Entry, flag_of}
use Rattle.model_base.specs.Controller.{Action}
use Rattle.model_base.specs.Attempts.{Attempt}
use Rattle.model_base.specs.Calls.{Command, add, clear, commit, Reply, accepted, Call}

pub record Progress : Type 0 where
  -- the records of its batch: what was added since the last `ok` or `clear`
  pub pending : List Record
  -- its accepted batches, in order
  pub mine : List Entry
  -- its calls of the controller that were answered `done`
  pub asked : List Action
  -- its commits that leaders took into their groups
  pub attempts : List Attempt
  -- the greatest sequence that it was shown, by a read, by an accepted batch of its own, or by a token call of its own,
  -- up to which others had been shown what is published
  pub seen_up_to : ℕ
  -- how many calls of the controller's history it knows of, from the first one on
  pub known : ℕ
  -- how many calls of the log writer it knows to have returned, from the first one on
  pub logged : ℕ

abbrev pub fresh : Progress
fresh = record { pending = []; mine = []; asked = []; attempts = []; seen_up_to = 0; known = 0; logged = 0 }

-- a client's next entry in the history
abbrev pub next_entry : ℕ → List Entry → WriteOptions → ℕ → List Record → Entry
next_entry client mine how first records =
    record {
      client = client;
      ordinal = 1 + length mine;
      first = first;
      count = count_of records;
      flag = flag_of how;
      records = records;
    }

-- the family of a record's key, if it has a key
abbrev pub family_about : Record → Option ℕ
family_about (value family key v) = Some (family_of family)
family_about (deletion family key) = Some (family_of family)
family_about (single_deletion family key) = Some (family_of family)
family_about (log_data blob) = None

-- the families whose keys these records are about, in order
abbrev pub families_in : List Record → List ℕ
families_in records = filter_map family_about records

-- the first of these families that there isn't, if there is one: there are those with the numbers below `families`
abbrev pub first_missing : ℕ → List ℕ → Option ℕ
first_missing families named = find (λ family. nat_le families family) named

-- The refusal that a commit gets before it is linked, if there is one: the checks in their order. `stopping` says that
-- the client holds a stop token.
abbrev pub early_refusal : ℕ → ℕ → Bool → List Record → WriteOptions → Option Refusal
early_refusal families batch_bytes stopping records how =
    if count_of records == 0 then Some no.Empty
    else if nat_lt batch_bytes (size_of_batch records) then Some (no.TooLarge (size_of_batch records))
    else if how.sync && how.no_log then Some no.SyncWithoutLog
    else option_map_or (λ family. Some (no.NoFamily family)) (first_missing families (families_in records))
    (if stopping && not how.no_slowdown then Some no.SelfStop else None)

-- the records of a client's batch after one call, and after all its calls
abbrev pub added_by : List Record → Command → Reply → List Record
added_by records (add r) reply = records ++ r ∷ []
added_by records clear reply = []
added_by records (commit how) (accepted first last own) = []
added_by records other reply = records

abbrev pub batch_after : List Call → List Record
batch_after calls = fold (λ records c. added_by records c.command c.reply) [] calls
