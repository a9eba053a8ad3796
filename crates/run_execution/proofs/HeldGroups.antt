-- The groups of each log of a set are there as far as an image goes past them.
use Rattle.std.proofs.Common.{◌≡◌, ℕ, zero, suc, ◌+◌, ◌≤◌, true, List, [], ◌∷◌, ◌++◌, length, take, map, flat_map, Option, None, Some, slice_get, refl, sym, ◌∙◌, ap, subst, arith, append_assoc, append-nil}
use Rattle.std.proofs.lemmas.List.{take-map, length-map}
use Rattle.std.specs.List.{AllByRecursion, AllZip}
use Rattle.model_base.specs.Log.{new_log, text_after}
use Rattle.model_base.specs.History.{Entry}
use Rattle.model_base.specs.LogContents.{GroupCall, HoldsUpTo, record_of_call, record_of_entries, records_of}
use Rattle.log_writer.specs.Written.{if_worked, first_fault, written_by, HoldsSynced as HoldsCallsSynced}
use Rattle.log_writer.specs.Sets.{counted}
use Rattle.log_writer.specs.SetSplits.{IsSameCall, until_fault}
use Rattle.log_writer.specs.SetWritten.{HoldEach}
use Rattle.log_writer.proofs.Calls.{written_len}
use Rattle.model_runs.specs.Crashes.{HasSync, HoldsSynced}
use Rattle.model_runs.specs.SeveralLogs.{HoldEachSynced}
use Rattle.model_runs.specs.Written.{WroteEntries}
use Rattle.model_accounts.proofs.Logs.{has_synced}
use Rattle.run_execution.proofs.GroupCalls.{IsSyncCall}

-- the call worked, and synced if the group had to be synced
pub record IsCallOf (group : List Entry) (c : GroupCall) : Type 0 where
  pub worked : c.failed ≡ None
  pub synced : HasSync group → c.sync ≡ true

-- the first of these calls are those of the groups
abbrev pub AreFirst : List (List Entry) → List GroupCall → Type 0
AreFirst [] calls = Unit {0}
AreFirst (group ∷ groups) [] = ⊥
AreFirst (group ∷ groups) (c ∷ calls) = IsCallOf group c × AreFirst groups calls

-- whatever count of faults a call is answered with
call_counted : (group : List Entry) (c d : GroupCall) → WroteEntries group c → IsSameCall c d → IsCallOf group d
call_counted group c d wrote same =
    let n : ℕ = same.0 in
    record {
      worked = ap (λ (x : GroupCall). x.failed) same.1 ∙ ap (λ (f : Option ℕ). (counted n (record c { failed = f })).failed) wrote.ok;
      synced = λ to_sync. ap (λ (x : GroupCall). x.sync) same.1 ∙ has_synced group c wrote to_sync;
    }

pub are_first : (groups : List (List Entry)) (calls more others : List GroupCall) → AllZip WroteEntries groups calls → AllZip IsSameCall (until_fault (calls ++ more)) others → AreFirst groups others
are_first [] calls more others each same = tt
are_first (group ∷ groups) [] more others each same = absurd each
are_first (group ∷ groups) (c ∷ calls) more [] each same = absurd same
are_first (group ∷ groups) (c ∷ calls) more (d ∷ others) each same =
    let later = subst (λ (f : Option ℕ). AllZip IsSameCall (if_worked f (until_fault (calls ++ more)) []) others) (each.0).ok same.1 in
    (call_counted group c d each.0 same.0, are_first groups calls more others each.1 later)

first_groups : (groups more : List (List Entry)) (calls others : List GroupCall) → length groups ≤ length calls → AreFirst (groups ++ more) (calls ++ others) → AreFirst groups calls
first_groups [] more calls others few are = tt
first_groups (group ∷ groups) more [] others few are = absurd (omega (arith, few))
first_groups (group ∷ groups) more (c ∷ calls) others few are = (are.0, first_groups groups more calls others (omega (arith, few)) are.1)

later_groups : (groups more : List (List Entry)) (calls others : List GroupCall) → length groups ≡ length calls → AreFirst (groups ++ more) (calls ++ others) → AreFirst more others
later_groups [] more [] others same are = are
later_groups [] more (c ∷ calls) others same are = absurd (omega (arith, same))
later_groups (group ∷ groups) more [] others same are = absurd (omega (arith, same))
later_groups (group ∷ groups) more (c ∷ calls) others same are = later_groups groups more calls others (omega (arith, same)) are.1

-- a group that had to be synced has its call
call_at : (groups : List (List Entry)) (calls : List GroupCall) (k : ℕ) (group : List Entry) → AreFirst groups calls → slice_get groups k ≡ Some group → HasSync group → IsSyncCall calls k
call_at [] calls k group are at has = absurd (cc at)
call_at (g ∷ groups) [] k group are at has = absurd are
call_at (g ∷ groups) (c ∷ calls) zero group are at has =
    let same : g ≡ group = cc at in
    record { call = c; there = refl; worked = (are.0).worked; to_sync = (are.0).synced (subst HasSync (sym same) has) }
call_at (g ∷ groups) (c ∷ calls) (suc k) group are at has =
    let later = call_at groups calls k group are.1 at has in
    record { call = later.call; there = later.there; worked = later.worked; to_sync = later.to_sync }

-- an image that holds the calls' groups holds those of the log
held_log : (groups : List (List Entry)) (calls : List GroupCall) (reached : ℕ) (image : List ℕ) → records_of groups ≡ written_by calls → AreFirst groups calls → HoldsCallsSynced new_log reached calls image → HoldsSynced new_log groups reached image
held_log groups calls reached image same are holds = λ k group at has.
    let call = call_at groups calls k group are at has in
    let through : take (k + 1) (written_by calls) ≡ records_of (take (k + 1) groups) = ap (take (k + 1)) (sym same) ∙ take-map record_of_entries (k + 1) groups in
    subst (λ (l : List (List ℕ)). HoldsUpTo reached (text_after new_log l) image) through (holds k call.call call.there call.worked call.to_sync)

-- no call writes more than one record
few_written : (calls : List GroupCall) → length (written_by calls) ≤ length calls
few_written [] = omega arith
few_written (c ∷ calls) = by_failed c.failed (few_written calls)
  where
    by_failed : (f : Option ℕ) → length (written_by calls) ≤ length calls → length (if_worked f (record_of_call c ∷ written_by calls) []) ≤ length (c ∷ calls)
    by_failed None few = omega (arith, few)
    by_failed (Some n) few = omega arith

abbrev pub HaveWorked : List (List GroupCall) → Type 0
HaveWorked parts = AllByRecursion (λ (part : List GroupCall). first_fault part ≡ None) parts

pub held_each : (logs : List (List (List Entry))) (parts : List (List GroupCall)) (own : List GroupCall) (reached : List ℕ) (images : List (List ℕ)) → map records_of logs ≡ map written_by parts ++ written_by own ∷ []
    → HaveWorked parts → AreFirst (flat_map (λ (log : List (List Entry)). log) logs) (flat_map (λ (part : List GroupCall). part) parts ++ own) → HoldEach reached (parts ++ own ∷ []) images → HoldEachSynced reached logs images
held_each [] parts own reached images same worked are holds = tt
held_each (log ∷ logs) parts own [] images same worked are holds = absurd (no_reach parts own images holds)
  where
    no_reach : (parts : List (List GroupCall)) (own : List GroupCall) (images : List (List ℕ)) → HoldEach [] (parts ++ own ∷ []) images → ⊥
    no_reach [] own images holds = holds
    no_reach (p ∷ parts) own images holds = holds
held_each (log ∷ logs) parts own (reach ∷ reached) [] same worked are holds = absurd (no_image parts own reach reached holds)
  where
    no_image : (parts : List (List GroupCall)) (own : List GroupCall) (reach : ℕ) (reached : List ℕ) → HoldEach (reach ∷ reached) (parts ++ own ∷ []) [] → ⊥
    no_image [] own reach reached holds = holds
    no_image (p ∷ parts) own reach reached holds = holds
held_each (log ∷ []) [] own (reach ∷ reached) (image ∷ images) same worked are holds =
    let head : records_of log ≡ written_by own = cc in
    let few : length log ≤ length own = omega (arith, length-map log record_of_entries, ap length head, few_written own) in
    (held_log log own reach image head (first_groups log [] own [] few (subst (λ (l : List GroupCall). AreFirst (log ++ []) l) (sym (append-nil own)) are)) holds.0, tt)
held_each (log ∷ next ∷ logs) [] own (reach ∷ reached) (image ∷ images) same worked are holds = absurd (cc)
held_each (log ∷ logs) (p ∷ parts) own (reach ∷ reached) (image ∷ images) same worked are holds =
    let head : records_of log ≡ written_by p = cc in
    let tail : map records_of logs ≡ map written_by parts ++ written_by own ∷ [] = cc in
    let long : length log ≡ length p = sym (length-map log record_of_entries) ∙ (ap length head ∙ written_len p worked.0) in
    let all : List (List Entry) = flat_map (λ (l : List (List Entry)). l) logs in
    let rest : List GroupCall = flat_map (λ (part : List GroupCall). part) parts ++ own in
    let both : AreFirst (log ++ all) (p ++ rest) = subst (AreFirst (log ++ all)) (append_assoc p (flat_map (λ (part : List GroupCall). part) parts) own) are in
    (held_log log p reach image head (first_groups log all p rest (omega (arith, long)) both) holds.0, held_each logs parts own reached images tail worked.1 (later_groups log all p rest long both) holds.1)
