-- How many batches the next call finds at least.
use Rattle.std.proofs.Common.{◌≡◌, ℕ, zero, suc, ◌+◌, ◌-◌, ◌<◌, ◌≤◌, min, List, [], ◌∷◌, ◌++◌, length, take, map, Option, Some, None, slice_get, refl, ap, sym, ◌∙◌, subst, arith, append_assoc, append-nil, length-append, length-take}
use Rattle.std.proofs.Math.Seq.{take-take}
use Rattle.std.proofs.lemmas.List.{take-append-le, take-map}
use Rattle.base_devices.specs.Disk.{Disk, IsImage}
use Rattle.base_devices.specs.declared.disk.Disk.{Ghosts}
use Rattle.model_base.specs.Batch.{Record}
use Rattle.model_base.specs.Calls.{Call as Answered}
use Rattle.model_base.specs.Log.{SpellsWhole, text_after}
use Rattle.model_base.specs.History.{Entry}
use Rattle.model_base.specs.LogContents.{records_of}
use Rattle.model_base.specs.Recovery.{Logged, logged_bytes}
use Rattle.log_laws.specs.Prefixes.{IsPrefix, BeginsWith}
use Rattle.log_laws.proofs.Placed.{length_map}
use Rattle.log_laws.proofs.Written.{spells_on}
use Rattle.model_runs.specs.Acknowledged.{IsAcknowledged, HasBatch}
use Rattle.model_runs.specs.Crashes.{with_failed_record, HasSync, HaveSynced, HasAllSafe}
use Rattle.run_outcome.specs.declared.log_start.LogStart.{LogStart}
use Rattle.run_outcome.specs.declared.log_start.LogStart.TheVariants.{New, Over, Behind}
use Rattle.run_outcome.specs.Running.{Before, RecoversTo, GoesOnFrom, IfGoesOn, SafeStays, beginning_of, batch_of_group}
use Rattle.crash_laws.specs.Restarts.{Call, execution_of, number_of, HaveGroups, ShouldSync, NoneByChance, WereSafe, IsLeftAfter}
use Rattle.crash_laws.proofs.Promised.{is_run, goes_on, leaves}
use Rattle.crash_laws.proofs.Lists.{take_past, all_take}
use Rattle.crash_laws.proofs.Front.{kept, groups, all, some_entries, spelled, bytes_of_log, bytes_of_all, may_fail, first_by_bytes, at_least}

-- Bytes that were safe, of those that the log keeps, are in front of each image.
safe_front : (start : LogStart) (before : Before) (opened : Disk) (images : List ℕ → Type 0) (image : List ℕ) (bytes : ℕ) → GoesOnFrom start (Some opened) before → IfGoesOn start (SafeStays before opened images) → images image
    → bytes ≤ length before.kept → bytes ≤ opened.synced → BeginsWith (take bytes before.kept) image
safe_front New before opened images image bytes goes stays left within safe = none_kept image before.kept bytes (ap (λ (b : Before). b.kept) goes)
  where
    none_kept : (image kept : List ℕ) (bytes : ℕ) → kept ≡ [] → BeginsWith (take bytes kept) image
    none_kept image kept zero none = (omega arith, refl)
    none_kept image kept (suc n) none = subst (λ (l : List ℕ). BeginsWith (take (suc n) l) image) (sym none) (omega arith, refl)
safe_front (Over number) before opened images image bytes goes stays left within safe = none_kept image before.kept bytes (ap (λ (b : Before). b.kept) goes)
  where
    none_kept : (image kept : List ℕ) (bytes : ℕ) → kept ≡ [] → BeginsWith (take bytes kept) image
    none_kept image kept zero none = (omega arith, refl)
    none_kept image kept (suc n) none = subst (λ (l : List ℕ). BeginsWith (take (suc n) l) image) (sym none) (omega arith, refl)
safe_front (Behind number) before opened images image bytes goes stays left within safe =
    let to : RecoversTo number opened.content before = goes in
    let sure : ℕ = min opened.synced (length before.kept) in
    let has = stays image left in
    let few : bytes ≤ sure = omega (arith, within, safe) in
    let all_there : bytes ≤ (to.recovered).kept = omega (arith, within, ap length to.kept, length-take (to.recovered).kept opened.content) in
    let len : length (take bytes before.kept) ≡ bytes = omega (arith, length-take bytes before.kept, within) in
    let same : take bytes image ≡ take bytes before.kept =
    sym (take-take bytes sure image few) ∙ ap (take bytes) has.1 ∙ take-take bytes sure opened.content few ∙ sym (take-take bytes (to.recovered).kept opened.content all_there) ∙ ap (take bytes) (sym to.kept) in
    (omega (arith, len, few, has.0), ap (λ (n : ℕ). take n image) len ∙ same)

-- a group that should be synced is among the first m, if each such group is
synced_within : (groups : List (List Entry)) (m k : ℕ) (group : List Entry) → slice_get groups k ≡ Some group → HasSync group → HaveSynced groups m → k < m
synced_within [] m k group at has have = absurd (cc at)
synced_within (g ∷ groups) zero zero group at has have = let one : g ≡ group = cc at in absurd (have.0 (subst HasSync (sym one) has))
synced_within (g ∷ groups) zero (suc k) group at has have = let within = synced_within groups zero k group at has have.1 in absurd (omega (arith, within))
synced_within (g ∷ groups) (suc m) zero group at has have = omega arith
synced_within (g ∷ groups) (suc m) (suc k) group at has have = let within = synced_within groups m k group at has have in omega (arith, within)

-- a place in a list is within it, and within a front that reaches past it
pub within_list : {A : Type 0} (xs : List A) (k : ℕ) (x : A) → slice_get xs k ≡ Some x → k < length xs
within_list [] k x at = absurd (cc at)
within_list (y ∷ xs) zero x at = omega arith
within_list (y ∷ xs) (suc k) x at = let within = within_list xs k x at in omega (arith, within)

-- records with one that may have failed begin with the records
begins_with : (records : List (List ℕ)) (x : Option (List ℕ)) → (more : List (List ℕ)) × (with_failed_record records x ≡ records ++ more)
begins_with records None = ([], sym (append-nil records))
begins_with records (Some x) = (x ∷ [], refl)

module _ {D : Type 0} {disk : Ghosts D} (call : Call disk) (image : List ℕ) (next : Before) (to : RecoversTo (number_of call) image next) where
  abbrev few : ℕ
  few = length (kept call)

  kept_first : (n : ℕ) → n ≤ few → take n (all call) ≡ take n (kept call)
  kept_first n within = take-append-le n (kept call) (map batch_of_group (groups call)) within

  longer : few ≤ length (all call)
  longer = omega (arith, length-append (kept call) (map batch_of_group (groups call)))

  pub safe_found : (many : ℕ) → (execution_of call).images image → WereSafe call many → take many next.batches ≡ take many (kept call)
  safe_found many left were =
      let some = were.some in
      at_least call image next to many (take were.bytes call.ran.before.kept) (omega (arith, some, longer))
      (subst (λ (bs : List Logged). SpellsWhole (number_of call) (take were.bytes call.ran.before.kept) (map logged_bytes bs)) (sym (kept_first many some)) were.spelled)
      (safe_front call.start call.ran.before call.found (execution_of call).images image were.bytes (goes_on call) (leaves call).stays left were.kept were.safe) ∙ kept_first many some

  -- the batches of the first groups, after all kept ones
  with_groups : (k : ℕ) → take (few + k) (all call) ≡ kept call ++ map batch_of_group (take k (groups call))
  with_groups k =
      take_past (few + k) (kept call) (map batch_of_group (groups call)) (omega arith) ∙ ap (λ (m : ℕ). kept call ++ take m (map batch_of_group (groups call))) (omega arith)
      ∙ ap (λ (l : List Logged). kept call ++ l) (take-map batch_of_group k (groups call))

  -- an image that begins with the text of what the log kept and the first groups
  pub through_found : (k : ℕ) → k ≤ length (groups call) → BeginsWith (text_after (beginning_of call.start call.ran.before) (records_of (take k (groups call)))) image → HaveGroups call k next.batches
  through_found k within begins =
      let some : List (List Entry) = take k (groups call) in
      let bytes : map logged_bytes (take (few + k) (all call)) ≡ map logged_bytes (kept call) ++ records_of some = ap (map logged_bytes) (with_groups k) ∙ bytes_of_log call some (all_take _ k (groups call) (some_entries call)) in
      at_least call image next to (few + k) (text_after (beginning_of call.start call.ran.before) (records_of some))
      (omega (arith, within, length-append (kept call) (map batch_of_group (groups call)), length_map batch_of_group (groups call)))
      (subst (SpellsWhole (number_of call) (text_after (beginning_of call.start call.ran.before) (records_of some))) (sym bytes) (spells_on (number_of call) call.ran.before.kept (map logged_bytes (kept call)) (records_of some) (spelled call)))
      begins ∙ with_groups k

  pub begun_found : IsLeftAfter call 0 image → HaveGroups call 0 next.batches
  begun_found left =
      let crash = ((leaves call).safe).crash in
      through_found 0 (omega arith) (subst (λ (l : List ℕ). BeginsWith l image) (sym (append-nil call.ran.before.kept)) (crash.kept image left))

  pub synced_found : (n k : ℕ) → IsLeftAfter call n image → k < n → ShouldSync call k → HaveGroups call (k + 1) next.batches
  synced_found n k left within should =
      let crash = ((leaves call).safe).crash in
      let short = within_list (groups call) k should.0 should.1 in
      through_found (k + 1) (omega (arith, short)) (crash.kept_since k n should.0 should.1 should.2 within image left)

  -- a batch that was acknowledged as synced
  pub acknowledged_found : (i : ℕ) (calls : List Answered) (first knew : ℕ) (records : List Record) → slice_get call.outcome.transcripts i ≡ Some calls
      → IsAcknowledged (execution_of call).settings (is_run call).trace (i + 1) calls first knew records → IsLeftAfter call knew image
      → (k : ℕ) × (group : List Entry) × (slice_get (groups call) k ≡ Some group) × HasBatch first records group × HaveGroups call (k + 1) next.batches
  acknowledged_found i calls first knew records there is left =
      let kept_safe = ((leaves call).safe).acknowledged i calls first knew records there is in
      let short = within_list (groups call) kept_safe.0 kept_safe.1 kept_safe.2 in
      (kept_safe.0, kept_safe.1, kept_safe.2, kept_safe.3, through_found (kept_safe.0 + 1) (omega (arith, short)) (kept_safe.4 image left))

  module _ (left : IsImage call.left image) (by : NoneByChance call image) where
    abbrev found_prefix : IsPrefix (map logged_bytes (to.recovered).batches) (map logged_bytes (kept call) ++ with_failed_record (records_of (groups call)) by.failed) (HasAllSafe (groups call) (length (map logged_bytes (kept call))))
    found_prefix =
        let crash = ((leaves call).safe).crash in
        crash.at_end by.failed (may_fail call by.failed by.may_be) image left by.none (map logged_bytes (kept call)) (spelled call) to.recovered to.is

    -- as many as there are for certain are the log's first
    first_found : (k : ℕ) → k ≤ length (groups call) → few + k ≤ found_prefix.many → HaveGroups call k next.batches
    first_found k within enough =
        let m : ℕ = few + k in
        let records : List (List ℕ) = map logged_bytes (kept call) ++ with_failed_record (records_of (groups call)) by.failed in
        let more = begins_with (records_of (groups call)) by.failed in
        let joined : records ≡ map logged_bytes (all call) ++ more.0 =
        ap (λ (l : List (List ℕ)). map logged_bytes (kept call) ++ l) more.1 ∙ sym (append_assoc (map logged_bytes (kept call)) (records_of (groups call)) more.0) ∙ ap (λ (l : List (List ℕ)). l ++ more.0) (sym (bytes_of_all call)) in
        let short : m ≤ length (map logged_bytes (all call)) = omega (arith, within, length_map logged_bytes (all call), length-append (kept call) (map batch_of_group (groups call)), length_map batch_of_group (groups call)) in
        let bytes : take m (map logged_bytes next.batches) ≡ take m (map logged_bytes (all call)) =
        ap (λ (l : List (List ℕ)). take m l) (ap (map logged_bytes) to.batches ∙ found_prefix.same) ∙ take-take m found_prefix.many records enough ∙ ap (take m) joined ∙ take-append-le m (map logged_bytes (all call)) more.0 short in
        first_by_bytes call image next to m bytes ∙ with_groups k

    pub kept_at_end : HaveGroups call 0 next.batches
    kept_at_end = first_found 0 (omega arith) (omega (arith, (found_prefix.enough).0, length_map logged_bytes (kept call)))

    pub synced_at_end : (k : ℕ) → ShouldSync call k → HaveGroups call (k + 1) next.batches
    synced_at_end k should =
        let among = synced_within (groups call) (found_prefix.many - length (map logged_bytes (kept call))) k should.0 should.1 should.2 (found_prefix.enough).1 in
        let short = within_list (groups call) k should.0 should.1 in
        first_found (k + 1) (omega (arith, short)) (omega (arith, among, length_map logged_bytes (kept call)))
