-- What a run leaves in the log.
use Rattle.std.specs.Prelude.{◌≡◌, ℕ, ◌+◌, ◌<◌, ◌≤◌, Bool, true, Option, Some, None, List, [], ◌∷◌, ◌++◌, length, take, map, flat_map, sum_by, slice_get}
use Rattle.std.specs.List.{AllByRecursion}
use Rattle.model_base.specs.Batch.{Record, count_of, group_record}
use Rattle.model_base.specs.Log.{Beginning, text_after}
use Rattle.model_base.specs.History.{Entry, RunsFollow, logged_entries}
use Rattle.model_base.specs.Calls.{Outcome}

-- the one record of the log that holds these entries
abbrev pub record_of_entries : List Entry → List ℕ
record_of_entries [] = []
record_of_entries (e ∷ es) = group_record e.first (map (λ (x : Entry). x.records) (e ∷ es))

-- the logged entries of a history, cut into consecutive groups
pub record AreGroupsOf (entries : List Entry) (groups : List (List Entry)) : Type 0 where
  pub cut : logged_entries entries ≡ flat_map (λ g. g) groups
  pub none_empty : AllByRecursion (λ g. 0 < length g) groups
  pub runs : AllByRecursion RunsFollow groups

abbrev pub records_of : List (List Entry) → List (List ℕ)
records_of groups = map record_of_entries groups

-- The one log holds these groups after the bytes that it kept: its content, up to the printed length, is those bytes
-- and the text of the groups' records.
pub record IsLogOf (b : Beginning) (o : Outcome) (content : List ℕ) (groups : List (List Entry)) : Type 0 where
  pub of_history : AreGroupsOf o.history groups
  pub content_is : take (length (text_after b (records_of groups))) content ≡ text_after b (records_of groups)
  pub length_is : o.log_lens ≡ length (text_after b (records_of groups)) ∷ []

-- a call of `add_group`: its arguments, and the count of faults that it was answered if it failed
pub record GroupCall : Type 0 where
  pub first : ℕ
  pub batches : List (List Record)
  pub sync : Bool
  pub failed : Option ℕ

-- the one record that the call writes for its group
abbrev pub record_of_call : GroupCall → List ℕ
record_of_call c = group_record c.first c.batches

-- The call wrote this batch, under the run that begins with this sequence. It worked, and it synced if that was asked.
pub record WroteBatch (first : ℕ) (records : List Record) (sync : Bool) (c : GroupCall) : Type 0 where
  pub before : List (List Record)
  pub after : List (List Record)
  pub among : c.batches ≡ before ++ records ∷ after
  pub run : first ≡ c.first + sum_by count_of before
  pub synced : sync ≡ true → c.sync ≡ true
  pub ok : c.failed ≡ None

-- One of these calls wrote this batch so. It is among the first `knows` of them, and not among the first `knew`.
pub record IsLoggedBy (calls : List GroupCall) (knew knows first : ℕ) (records : List Record) (sync : Bool)
    : Type 0 where
  pub place : ℕ
  pub call : GroupCall
  pub there : slice_get calls place ≡ Some call
  pub later : knew ≤ place
  pub known : place < knows
  pub wrote : WroteBatch first records sync call

-- If an image is longer than this text, and longer than any image could be before the text was written (`reached`), it
-- begins with the text.
abbrev pub HoldsUpTo : ℕ → List ℕ → List ℕ → Type 0
HoldsUpTo reached t image = length t < length image → reached < length image → take (length t) image ≡ t
