-- What the calls for a history's groups wrote, with one more call where the log has a fault.
use Rattle.std.proofs.Common.{◌≡◌, ℕ, zero, suc, ◌+◌, ◌-◌, ◌<◌, ◌≤◌, min, true, List, [], ◌∷◌, ◌++◌, length, take, map, Option, Some, None, MatchOption, slice_get, refl, ap, sym, ◌∙◌, subst, arith}
use Rattle.std.proofs.Math.Seq.{take-take}
use Rattle.std.proofs.lemmas.List.{take-map, append-nil}
use Rattle.std.specs.List.{AllZip}
use Rattle.base_devices.specs.Disk.{Disk, IsImage}
use Rattle.model_base.specs.Batch.{group_record}
use Rattle.model_base.specs.Log.{Beginning, text_after}
use Rattle.model_base.specs.History.{Entry}
use Rattle.model_base.specs.Attempts.{Attempt}
use Rattle.model_base.specs.Calls.{Outcome}
use Rattle.model_base.specs.LogContents.{GroupCall, record_of_call, record_of_entries, records_of}
use Rattle.log_laws.specs.Prefixes.{BeginsWith, HoldsFront}
use Rattle.log_writer.specs.Written.{if_worked, first_fault, written_by, begun_by, HaveSynced as HaveCallsSynced, HoldsSynced as HoldsCallsSynced, HoldsCalls}
use Rattle.log_writer.proofs.Calls.{begun_written}
use Rattle.log_writer.proofs.Keeping.{after_front, after_shorter}
use Rattle.model_runs.specs.Lost.{IsLostGroup}
use Rattle.model_runs.specs.Crashes.{HasSync, HaveSynced, HoldsSynced, text_through, over, failed_record, with_failed_record, IsFailedWrite, HoldsFailedWrite}
use Rattle.model_runs.specs.Written.{WroteEntries, AreLost}
use Rattle.model_accounts.proofs.Logs.{same_records, has_synced}

-- Each of these calls worked, whatever calls come after them

written_for : (groups : List (List Entry)) (calls more : List GroupCall) → AllZip WroteEntries groups calls → written_by (calls ++ more) ≡ map record_of_call calls ++ written_by more
written_for [] [] more each = refl
written_for [] (c ∷ calls) more each = absurd each
written_for (group ∷ groups) [] more each = absurd each
written_for (group ∷ groups) (c ∷ calls) more each =
    ap (λ f. if_worked f (record_of_call c ∷ written_by (calls ++ more)) []) (each.0).ok ∙ ap (λ l. record_of_call c ∷ l) (written_for groups calls more each.1)

-- and so was begun
begun_for : (groups : List (List Entry)) (calls more : List GroupCall) → AllZip WroteEntries groups calls → begun_by (calls ++ more) ≡ map record_of_call calls ++ begun_by more
begun_for [] [] more each = refl
begun_for [] (c ∷ calls) more each = absurd each
begun_for (group ∷ groups) [] more each = absurd each
begun_for (group ∷ groups) (c ∷ calls) more each =
    ap (λ f. record_of_call c ∷ if_worked f (begun_by (calls ++ more)) []) (each.0).ok ∙ ap (λ l. record_of_call c ∷ l) (begun_for groups calls more each.1)

first_for : (groups : List (List Entry)) (calls more : List GroupCall) → AllZip WroteEntries groups calls → first_fault (calls ++ more) ≡ first_fault more
first_for [] [] more each = refl
first_for [] (c ∷ calls) more each = absurd each
first_for (group ∷ groups) [] more each = absurd each
first_for (group ∷ groups) (c ∷ calls) more each = ap (λ f. if_worked f (first_fault (calls ++ more)) f) (each.0).ok ∙ first_for groups calls more each.1

-- the groups that had to be synced are those whose calls had to sync
synced_for : (groups : List (List Entry)) (calls more : List GroupCall) (n : ℕ) → AllZip WroteEntries groups calls → HaveCallsSynced (calls ++ more) n → HaveSynced groups n
synced_for [] calls more zero each have = tt
synced_for [] calls more (suc n) each have = tt
synced_for (group ∷ groups) [] more n each have = absurd each
synced_for (group ∷ groups) (c ∷ calls) more zero each have = ((λ to_sync. have.0 (each.0).ok (has_synced group c each.0 to_sync)), synced_for groups calls more zero each.1 have.1)
synced_for (group ∷ groups) (c ∷ calls) more (suc n) each have = synced_for groups calls more n each.1 have

-- and so it is of the first of them
pub synced_first : (n : ℕ) (groups : List (List Entry)) (calls more : List GroupCall) (safe : ℕ) → AllZip WroteEntries groups calls → HaveCallsSynced (take n (calls ++ more)) safe → HaveSynced (take n groups) safe
synced_first zero groups calls more zero each have = tt
synced_first zero groups calls more (suc safe) each have = tt
synced_first (suc n) [] calls more zero each have = tt
synced_first (suc n) [] calls more (suc safe) each have = tt
synced_first (suc n) (group ∷ groups) [] more safe each have = absurd each
synced_first (suc n) (group ∷ groups) (c ∷ calls) more zero each have = ((λ to_sync. have.0 (each.0).ok (has_synced group c each.0 to_sync)), synced_first n groups calls more zero each.1 have.1)
synced_first (suc n) (group ∷ groups) (c ∷ calls) more (suc safe) each have = synced_first n groups calls more safe each.1 have

-- where those of the first n that had to be synced are among the first `safe`, one of them that had to be is
pub synced_in : (groups : List (List Entry)) (n safe k : ℕ) (group : List Entry) → slice_get groups k ≡ Some group → HasSync group → k < n → HaveSynced (take n groups) safe → k < safe
synced_in [] n safe k group there has less have = absurd (cc there)
synced_in (g ∷ groups) zero safe k group there has less have = absurd (omega (arith, less))
synced_in (g ∷ groups) (suc n) zero zero group there has less have = let same : g ≡ group = cc there in absurd (have.0 (subst HasSync (sym same) has))
synced_in (g ∷ groups) (suc n) zero (suc k) group there has less have = let among = synced_in groups n zero k group there has (omega (arith, less)) have.1 in absurd (omega (arith, among))
synced_in (g ∷ groups) (suc n) (suc safe) zero group there has less have = omega arith
synced_in (g ∷ groups) (suc n) (suc safe) (suc k) group there has less have = let among = synced_in groups n safe k group there has (omega (arith, less)) have in omega (arith, among)

-- where those that had to be synced are among the first m, they are among the first n, if that is no less, or all
pub synced_on : (groups : List (List Entry)) (m n all : ℕ) → length groups ≤ all → min m all ≤ n → HaveSynced groups m → HaveSynced groups n
synced_on [] m zero all few less have = tt
synced_on [] m (suc n) all few less have = tt
synced_on (group ∷ groups) zero zero all few less have = have
synced_on (group ∷ groups) (suc m) zero all few less have = absurd (omega (arith, few, less))
synced_on (group ∷ groups) zero (suc n) all few less have = synced_on groups zero n (all - 1) (omega (arith, few)) (omega arith) have.1
synced_on (group ∷ groups) (suc m) (suc n) all few less have = synced_on groups m n (all - 1) (omega (arith, few)) (omega (arith, few, less)) have

-- a group that had to be synced has its call
pub record IsSyncCall (calls : List GroupCall) (k : ℕ) : Type 0 where
  pub call : GroupCall
  pub there : slice_get calls k ≡ Some call
  pub worked : call.failed ≡ None
  pub to_sync : call.sync ≡ true

sync_call : (groups : List (List Entry)) (calls more : List GroupCall) (k : ℕ) (group : List Entry) → AllZip WroteEntries groups calls → slice_get groups k ≡ Some group → HasSync group → IsSyncCall (calls ++ more) k
sync_call [] calls more k group each at has = absurd (cc at)
sync_call (g ∷ groups) [] more k group each at has = absurd each
sync_call (g ∷ groups) (c ∷ calls) more zero group each at has =
    let same : g ≡ group = cc at in
    record { call = c; there = refl; worked = (each.0).ok; to_sync = has_synced g c each.0 (subst HasSync (sym same) has) }
sync_call (g ∷ groups) (c ∷ calls) more (suc k) group each at has =
    let later = sync_call groups calls more k group each.1 at has in
    record { call = later.call; there = later.there; worked = later.worked; to_sync = later.to_sync }

-- the call that failed wrote nothing whole
none_written : (group_bytes : ℕ) (attempts : List (List Attempt)) (fault : Option ℕ) (last : ℕ) (lost : List GroupCall) → AreLost group_bytes attempts fault last lost → written_by lost ≡ []
none_written group_bytes attempts None last lost are = ap written_by are
none_written group_bytes attempts (Some count) last lost are = let c = are.0 in ap written_by are.1 ∙ ap (λ f. if_worked f (record_of_call c ∷ []) []) (are.2).failed

-- What holds of the first calls

written_first : (n : ℕ) (calls : List GroupCall) → written_by (take n calls) ≡ take n (written_by calls)
written_first zero calls = refl
written_first (suc n) [] = refl
written_first (suc n) (c ∷ calls) = by_answer c.failed (written_first n calls)
  where
    by_answer : (f : Option ℕ) → written_by (take n calls) ≡ take n (written_by calls) → if_worked f (record_of_call c ∷ written_by (take n calls)) [] ≡ take (suc n) (if_worked f (record_of_call c ∷ written_by calls) [])
    by_answer None same = ap (λ l. record_of_call c ∷ l) same
    by_answer (Some count) same = refl

call_first : (n k : ℕ) (calls : List GroupCall) (c : GroupCall) → k < n → slice_get calls k ≡ Some c → slice_get (take n calls) k ≡ Some c
call_first zero k calls c within at = absurd (omega (arith, within))
call_first (suc n) k [] c within at = absurd (cc at)
call_first (suc n) zero (d ∷ calls) c within at = at
call_first (suc n) (suc k) (d ∷ calls) c within at = call_first n k calls c (omega (arith, within)) at

-- a call that worked and had to sync is among the first `safe` calls, if all such calls are
among_synced : (calls : List GroupCall) (safe k : ℕ) (c : GroupCall) → HaveCallsSynced calls safe → slice_get calls k ≡ Some c → c.failed ≡ None → c.sync ≡ true → k < safe
among_synced [] safe k c have at worked to_sync = absurd (cc at)
among_synced (d ∷ calls) zero zero c have at worked to_sync =
    let same : d ≡ c = cc at in
    absurd (have.0 (ap (λ (g : GroupCall). g.failed) same ∙ worked) (ap (λ (g : GroupCall). g.sync) same ∙ to_sync))
among_synced (d ∷ calls) zero (suc k) c have at worked to_sync = let none = among_synced calls zero k c have.1 at worked to_sync in absurd (omega (arith, none))
among_synced (d ∷ calls) (suc safe) zero c have at worked to_sync = omega arith
among_synced (d ∷ calls) (suc safe) (suc k) c have at worked to_sync = let less = among_synced calls safe k c have at worked to_sync in omega (arith, less)

-- A log's content, however it began
module _ (b : Beginning) where
  -- what begins with the text of records begins with the text of the first of them
  pub begins_first : (records : List (List ℕ)) (n : ℕ) (image : List ℕ) → BeginsWith (text_after b records) image → BeginsWith (text_after b (take n records)) image
  begins_first records n image begins =
      let shorter = after_shorter b records n in
      let front : ℕ = length (text_after b (take n records)) in
      (omega (arith, shorter, begins.0), sym (take-take front (length (text_after b records)) image shorter) ∙ ap (take front) begins.1 ∙ after_front b records n)

  -- the text of what was written is at the front of the content
  pub written_front : (d : Disk) (calls : List GroupCall) (safe : ℕ) → HoldsCalls b d calls safe → take (length (text_after b (written_by calls))) d.content ≡ text_after b (written_by calls)
  written_front d calls safe holds = (holds.content).1

  -- so what was safe of it is at the front of each image
  pub safe_front : (d : Disk) (calls : List GroupCall) (safe : ℕ) (image : List ℕ) → HoldsCalls b d calls safe → IsImage d image → BeginsWith (text_after b (take safe (written_by calls))) image
  safe_front d calls safe image holds is =
      let n : ℕ = length (text_after b (take safe (written_by calls))) in
      let front = begins_first (written_by calls) safe d.content holds.content in
      (omega (arith, holds.synced, is.no_shorter), sym (take-take n d.synced image holds.synced) ∙ ap (take n) is.synced ∙ take-take n d.synced d.content holds.synced ∙ front.1)

-- The calls that wrote groups, and after them those that failed
module _ (b : Beginning) (group_bytes : ℕ) (attempts : List (List Attempt)) (last : ℕ) (groups : List (List Entry)) (calls lost : List GroupCall) (each : AllZip WroteEntries groups calls) where
  abbrev pub records : List (List ℕ)
  records = records_of groups

  pub written_is : (fault : Option ℕ) → AreLost group_bytes attempts fault last lost → written_by (calls ++ lost) ≡ records
  written_is fault are =
      written_for groups calls lost each ∙ ap (λ l. map record_of_call calls ++ l) (none_written group_bytes attempts fault last lost are) ∙ append-nil (map record_of_call calls) ∙ same_records groups calls each

  pub synced_is : (n : ℕ) → HaveCallsSynced (calls ++ lost) n → HaveSynced groups n
  synced_is n have = synced_for groups calls lost n each have

  -- what was written up to the end of a group
  through_is : (fault : Option ℕ) → AreLost group_bytes attempts fault last lost → (k : ℕ) → take (k + 1) (written_by (calls ++ lost)) ≡ records_of (take (k + 1) groups)
  through_is fault are k = ap (take (k + 1)) (written_is fault are) ∙ take-map record_of_entries (k + 1) groups

  -- an image that holds the calls' groups holds those of the history
  pub held_is : (fault : Option ℕ) → AreLost group_bytes attempts fault last lost → (reached : ℕ) (image : List ℕ) → HoldsCallsSynced b reached (calls ++ lost) image → HoldsSynced b groups reached image
  held_is fault are reached image holds = λ k group at has.
      let call = sync_call groups calls lost k group each at has in
      subst (λ (l : List (List ℕ)). length (text_after b l) < length image → reached < length image → take (length (text_after b l)) image ≡ text_after b l) (through_is fault are k) (holds k call.call call.there call.worked call.to_sync)

  -- Of the first calls, those that had to sync have synced. So an image that begins with the text of what was synced
  -- begins with the text up to each synced group among them.
  pub kept_is : (fault : Option ℕ) → AreLost group_bytes attempts fault last lost → (k n : ℕ) (group : List Entry) → slice_get groups k ≡ Some group → HasSync group → k < n
      → (safe : ℕ) → HaveCallsSynced (take n (calls ++ lost)) safe → (image : List ℕ) → BeginsWith (text_after b (take safe (written_by (take n (calls ++ lost))))) image → BeginsWith (text_through b groups k) image
  kept_is fault are k n group at has within safe have image begins =
      let all : List GroupCall = calls ++ lost in
      let call = sync_call groups calls lost k group each at has in
      let among : k < safe = among_synced (take n all) safe k call.call have (call_first n k all call.call within call.there) call.worked call.to_sync in
      let first : take (k + 1) (take safe (written_by (take n all))) ≡ records_of (take (k + 1) groups) =
      take-take (k + 1) safe (written_by (take n all)) (omega (arith, among)) ∙ ap (take (k + 1)) (written_first n all) ∙ take-take (k + 1) n (written_by all) (omega (arith, within)) ∙ through_is fault are k in
      subst (λ (l : List (List ℕ)). BeginsWith (text_after b l) image) first (begins_first b (take safe (written_by (take n all))) (k + 1) image begins)

  -- no call failed, where the log has no fault
  pub none_failed : AreLost group_bytes attempts None last lost → first_fault (calls ++ lost) ≡ None
  none_failed are = first_for groups calls lost each ∙ ap first_fault are

  -- where a call failed, its record was begun after the groups'
  begun_is : (count : ℕ) (are : AreLost group_bytes attempts (Some count) last lost) → begun_by (calls ++ lost) ≡ records ++ record_of_call are.0 ∷ []
  begun_is count are =
      let c = are.0 in
      let one : begun_by lost ≡ record_of_call c ∷ [] = ap begun_by are.1 ∙ ap (λ f. record_of_call c ∷ if_worked f [] []) (are.2).failed in
      begun_for groups calls lost each ∙ ap (λ l. map record_of_call calls ++ l) one ∙ ap (λ l. l ++ record_of_call c ∷ []) (same_records groups calls each)

  -- all that was begun is what was written, and the record of the call that failed, if one did
  pub with_lost : (fault : Option ℕ) → AreLost group_bytes attempts fault last lost → begun_by (calls ++ lost) ≡ with_failed_record (written_by (calls ++ lost)) (failed_record lost)
  with_lost None are = begun_written (calls ++ lost) (none_failed are) ∙ ap (with_failed_record (written_by (calls ++ lost))) (sym (ap failed_record are))
  with_lost (Some count) are = begun_is count are ∙ sym (λ i. with_failed_record (written_is (Some count) are i) (ap failed_record are.1 i))

  -- whether a call failed is the log's fault
  pub fault_is : (fault : Option ℕ) → AreLost group_bytes attempts fault last lost → first_fault (calls ++ lost) ≡ fault
  fault_is None are = none_failed are
  fault_is (Some count) are = first_for groups calls lost each ∙ (ap first_fault are.1 ∙ (ap (λ f. if_worked f None f) (are.2).failed))

  -- the record of the call that failed is that of the one group whose write failed
  pub is_failed : (count : ℕ) (are : AreLost group_bytes attempts (Some count) last lost) (o : Outcome) → o.last ≡ last → o.fault ≡ Some count → IsFailedWrite group_bytes attempts o (record_of_call are.0)
  is_failed count are o end e =
      let c = are.0 in
      let call = are.2 in
      record {
        count = count;
        fault = e;
        batches = c.batches;
        lost = subst (λ (n : ℕ). IsLostGroup group_bytes attempts count n c.batches) (sym end) call.batches;
        same = ap (λ (n : ℕ). group_record n c.batches) (call.first ∙ ap (λ (n : ℕ). n + 1) (sym end));
      }

  -- Where no write failed, the groups' text is over what was there. Else one more record was tried, and a front of it
  -- may be after them.
  pub failed_write : (begun : List ℕ) (d : Disk) (safe : ℕ) → HoldsCalls b d (calls ++ lost) safe → (first_fault (calls ++ lost) ≡ None → d.content ≡ over (text_after b (written_by (calls ++ lost))) begun)
      → (o : Outcome) → o.last ≡ last → o.log_lens ≡ length (text_after b records) ∷ [] → (fault : Option ℕ) → o.fault ≡ fault
      → AreLost group_bytes attempts fault last lost → MatchOption fault (d.content ≡ over (text_after b records) begun) (λ count. (x : List ℕ) × (failed_record lost ≡ Some x) × HoldsFailedWrite group_bytes attempts o b groups x d.place d.content)
  failed_write begun d safe holds whole o end len None e are = whole (none_failed are) ∙ ap (λ (l : List (List ℕ)). over (text_after b l) begun) (written_is None are)
  failed_write begun d safe holds whole o end len (Some count) e are =
      let c = are.0 in (
        record_of_call c,
        ap failed_record are.1,
        record {
          failed = is_failed count are o end e;
          behind = omega (arith, holds.behind, ap (λ (l : List (List ℕ)). length (text_after b l)) (written_is (Some count) are));
          front = subst (λ (l : List (List ℕ)). HoldsFront (text_after b l) d.place d.content) (begun_is count are) holds.front;
        },
      )
