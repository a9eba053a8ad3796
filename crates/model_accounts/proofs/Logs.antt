-- What a write path says at its closing about the calls that wrote its log is what the claims about crashes need.
use Rattle.std.proofs.Common.{◌≡◌, ℕ, ◌<◌, true, IsTrue, ◌||◌, List, [], ◌∷◌, length, map, flat_map, Some, refl, ap, sym, ◌∙◌, ◌+◌, arith}
use Rattle.std.specs.List.{AllByRecursion, AllZip, list_any}
use Rattle.model_base.specs.declared.history.Flag.{Flag}
use Rattle.model_base.specs.declared.history.Flag.TheVariants.{Log, NoLog, Sync}
use Rattle.model_base.specs.Batch.{group_record}
use Rattle.model_base.specs.History.{Entry, RunsFollow, logged_entries}
use Rattle.model_base.specs.Attempts.{Attempt}
use Rattle.model_base.specs.LogContents.{GroupCall, AreGroupsOf, records_of, record_of_entries, record_of_call}
use Rattle.model_runs.specs.Lost.{IsLostGroup}
use Rattle.model_runs.specs.Crashes.{HasSync, is_sync}
use Rattle.model_runs.specs.Written.{WroteEntries, AreLost}

none_empty : (parts : List (List Entry)) (calls : List GroupCall) → AllZip WroteEntries parts calls → AllByRecursion (λ (g : List Entry). 0 < length g) parts
none_empty [] calls h = tt
none_empty (part ∷ parts) [] h = absurd h
none_empty ([] ∷ parts) (c ∷ calls) h = absurd (cc h.0.some)
none_empty ((e ∷ es) ∷ parts) (c ∷ calls) h = (omega arith, none_empty parts calls h.1)

-- a call's record is that of its entries
pub same_record : (part : List Entry) (c : GroupCall) → WroteEntries part c → record_of_call c ≡ record_of_entries part
same_record [] c h = absurd (cc h.some)
same_record (e ∷ es) c h = let first : e.first ≡ c.first = cc h.some in ap (group_record c.first) h.batches ∙ ap (λ n. group_record n (map (λ (x : Entry). x.records) (e ∷ es))) (sym first)

pub same_records : (parts : List (List Entry)) (calls : List GroupCall) → AllZip WroteEntries parts calls → map record_of_call calls ≡ records_of parts
same_records [] [] h = refl
same_records [] (c ∷ calls) h = absurd h
same_records (part ∷ parts) [] h = absurd h
same_records (part ∷ parts) (c ∷ calls) h = ap (λ r. r ∷ map record_of_call calls) (same_record part c h.0) ∙ ap (λ rs. record_of_entries part ∷ rs) (same_records parts calls h.1)

-- a call that wrote these entries synced if one of them was to be synced
pub has_synced : (part : List Entry) (c : GroupCall) → WroteEntries part c → HasSync part → c.sync ≡ true
has_synced part c h some = by_entries part h.synced some
  where
    by_flag : (e : Entry) (es : List Entry) (f : Flag) → e.flag ≡ f → (e.flag ≡ Sync → c.sync ≡ true) → (HasSync es → c.sync ≡ true) → IsTrue (is_sync f || list_any (λ (x : Entry). is_sync x.flag) es) → c.sync ≡ true
    by_flag e es Sync is here later some = here is
    by_flag e es Log is here later some = later some
    by_flag e es NoLog is here later some = later some

    by_entries : (es : List Entry) → AllByRecursion (λ (e : Entry). e.flag ≡ Sync → c.sync ≡ true) es → HasSync es → c.sync ≡ true
    by_entries [] all some = absurd (cc some)
    by_entries (e ∷ es) all some = by_flag e es e.flag refl all.0 (by_entries es all.1) some

-- the calls' parts are the groups of the history
pub parts_are_groups : (entries : List Entry) (parts : List (List Entry)) (calls : List GroupCall) → flat_map (λ part. part) parts ≡ logged_entries entries → AllByRecursion RunsFollow parts
    → AllZip WroteEntries parts calls → AreGroupsOf entries parts
parts_are_groups entries parts calls cut runs each = record { cut = sym cut; none_empty = none_empty parts calls each; runs = runs }

-- if the log has a fault, the call that failed was to write the record of a lost group
pub lost_record : (group_bytes : ℕ) (attempts : List (List Attempt)) (count last : ℕ) (lost : List GroupCall) → AreLost group_bytes attempts (Some count) last lost
    → (c : GroupCall) × (lost ≡ c ∷ []) × (c.failed ≡ Some count) × IsLostGroup group_bytes attempts count last c.batches × (record_of_call c ≡ group_record (last + 1) c.batches)
lost_record group_bytes attempts count last lost l = (l.0, l.1, l.2.failed, l.2.batches, ap (λ n. group_record n (l.0).batches) l.2.first)
