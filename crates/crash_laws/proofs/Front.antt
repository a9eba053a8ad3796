-- What the next call goes on from is the first of the batches that the log was to have.
use Rattle.std.proofs.Common.{◌≡◌, ℕ, ◌-◌, ◌<◌, ◌≤◌, List, [], ◌∷◌, ◌++◌, length, take, map, Option, Some, None, IfSome, nat_lt, refl, ap, sym, ◌∙◌, subst, arith, append_assoc, length-append, length-take, drop}
use Rattle.std.proofs.lemmas.Bool.{ltb-true, ltb-false}
use Rattle.std.proofs.lemmas.List.{map-append, take-map, take-append-le, take_all, take-append-drop}
use Rattle.std.proofs.Math.Seq.{take-append_seam, take-take}
use Rattle.base_devices.specs.Disk.{Disk}
use Rattle.base_devices.specs.declared.disk.Disk.{Ghosts}
use Rattle.model_base.specs.Log.{plain_log, SpellsWhole}
use Rattle.model_base.specs.History.{Entry}
use Rattle.model_base.specs.LogContents.{records_of}
use Rattle.model_base.specs.Recovery.{Logged, logged_bytes, AreInOrder, last_sequence}
use Rattle.log_laws.specs.Prefixes.{BeginsWith}
use Rattle.log_laws.proofs.Next.{cases_bool}
use Rattle.log_laws.proofs.Placed.{length_map}
use Rattle.log_laws.proofs.Written.{text_spells}
use Rattle.log_laws.proofs.Synced.{spells_front}
use Rattle.log_recovery_laws.proofs.Kept.{AreBatches, same_logged}
use Rattle.model_runs.specs.Crashes.{with_failed_record}
use Rattle.run_outcome.specs.declared.log_start.LogStart.{LogStart}
use Rattle.run_outcome.specs.declared.log_start.LogStart.TheVariants.{New, Over, Behind}
use Rattle.run_outcome.specs.Running.{Before, RecoversTo, RecoversKept, GoesOnFrom, IfGoesOn, number_in, batch_of_group, batches_of_log}
use Rattle.crash_laws.specs.Restarts.{Call, execution_of, number_of, kept_in, groups_in, IsFailedRecord, map_of_batches, AreFirst, of_kept, and_added, of_groups, and_failed, NoneByChance, IsLeftInOpening}
use Rattle.crash_laws.proofs.Promised.{goes_on, leaves, IsTried, failed_write}
use Rattle.crash_laws.proofs.Lists.{take_past, all_first}
use Rattle.crash_laws.proofs.Batches.{own_take, order_take, first_batches, one_more, HaveEntries, bytes_of_groups}

-- What a call went on from

pub kept_spelled : (start : LogStart) (before : Before) (d : Disk) → GoesOnFrom start (Some d) before → SpellsWhole (number_in start) before.kept (map logged_bytes before.batches)
kept_spelled New before d goes = subst (λ (b : Before). SpellsWhole plain_log b.kept (map logged_bytes b.batches)) (sym goes) (text_spells plain_log [])
kept_spelled (Over number) before d goes = subst (λ (b : Before). SpellsWhole (Some number) b.kept (map logged_bytes b.batches)) (sym goes) (text_spells (Some number) [])
kept_spelled (Behind number) before d goes =
    let to : RecoversTo number d.content before = goes in
    let keeps = (to.is).keeps in
    subst (λ (l : List ℕ). SpellsWhole number l (map logged_bytes before.batches)) (sym to.kept)
    (subst (λ (bs : List Logged). SpellsWhole number (take (to.recovered).kept d.content) (map logged_bytes bs)) (sym to.batches) keeps.spelled)

pub map_before : (start : LogStart) (before : Before) (d : Disk) → GoesOnFrom start (Some d) before → before.map ≡ map_of_batches before.batches
map_before New before d goes = subst (λ (b : Before). b.map ≡ map_of_batches b.batches) (sym goes) refl
map_before (Over number) before d goes = subst (λ (b : Before). b.map ≡ map_of_batches b.batches) (sym goes) refl
map_before (Behind number) before d goes = let to : RecoversTo number d.content before = goes in to.map ∙ ap map_of_batches (sym to.batches)

pub last_before : (start : LogStart) (before : Before) (d : Disk) → GoesOnFrom start (Some d) before → before.last ≡ last_sequence 0 before.batches
last_before New before d goes = subst (λ (b : Before). b.last ≡ last_sequence 0 b.batches) (sym goes) refl
last_before (Over number) before d goes = subst (λ (b : Before). b.last ≡ last_sequence 0 b.batches) (sym goes) refl
last_before (Behind number) before d goes = let to : RecoversTo number d.content before = goes in to.last ∙ ap (last_sequence 0) (sym to.batches)

-- the record that was tried is one that may be the failed one
pub may_fail : {D : Type 0} {disk : Ghosts D} (call : Call disk) (x : Option (List ℕ)) → IfSome x (IsFailedRecord call) → IfSome x (IsTried call)
may_fail call None may = tt
may_fail call (Some x) may = failed_write call x may

module _ {D : Type 0} {disk : Ghosts D} (call : Call disk) where
  abbrev pub kept : List Logged
  kept = kept_in call

  abbrev pub groups : List (List Entry)
  groups = groups_in call

  -- the batches that the log holds in the end
  abbrev pub all : List Logged
  all = batches_of_log call.ran.before groups

  pub some_entries : HaveEntries groups
  some_entries = let log = ((leaves call).safe).log in (log.of_history).none_empty

  pub own_all : AreBatches all
  own_all = ((leaves call).readable).0

  pub rise_all : AreInOrder 0 all
  rise_all = ((leaves call).readable).1

  pub spelled : SpellsWhole (number_of call) call.ran.before.kept (map logged_bytes kept)
  spelled = kept_spelled call.start call.ran.before call.found (goes_on call)

  pub bytes_of_log : (some : List (List Entry)) → HaveEntries some → map logged_bytes (kept ++ map batch_of_group some) ≡ map logged_bytes kept ++ records_of some
  bytes_of_log some have = map-append logged_bytes kept (map batch_of_group some) ∙ ap (λ (l : List (List ℕ)). map logged_bytes kept ++ l) (bytes_of_groups some have)

  pub bytes_of_all : map logged_bytes all ≡ map logged_bytes kept ++ records_of groups
  bytes_of_all = bytes_of_log groups some_entries

  module _ (image : List ℕ) (next : Before) (to : RecoversTo (number_of call) image next) where
    pub own_next : AreBatches next.batches
    own_next = let keeps = (to.is).keeps in subst AreBatches (sym to.batches) keeps.are_batches

    -- first batches of those that the log holds in the end
    first_of_all : (n : ℕ) → next.batches ≡ take n all → AreFirst call next.batches
    first_of_all n same = cases_bool (nat_lt n (length kept))
        (λ before. of_kept n (same ∙ take-append-le n kept (map batch_of_group groups) (let within = ltb-true n (length kept) before in omega (arith, within))))
        (λ past.
        let more : ℕ = n - length kept in
        let added : List Logged = map batch_of_group (take more groups) in
        let are : next.batches ≡ kept ++ added = same ∙ take_past n kept (map batch_of_group groups) (ltb-false n (length kept) past) ∙ ap (λ (l : List Logged). kept ++ l) (take-map batch_of_group more groups) in
        and_added added (of_groups more refl) are)

    -- the first records of the log are the first batches
    by_failed : (x : Option (List ℕ)) → IfSome x (IsFailedRecord call) → (n : ℕ) → n ≤ length (map logged_bytes kept ++ with_failed_record (records_of groups) x)
        → map logged_bytes next.batches ≡ take n (map logged_bytes kept ++ with_failed_record (records_of groups) x) → AreFirst call next.batches
    by_failed None may n some same = first_of_all n (first_batches next.batches all n own_next own_all (same ∙ ap (take n) (sym bytes_of_all)))
    by_failed (Some x) may n some same = cases_bool (nat_lt (length all) n)
        (λ past. with_failed (ltb-true (length all) n past))
        (λ within. first_of_all n (first_batches next.batches all n own_next own_all
        (bytes ∙ take-append-le n (map logged_bytes all) (x ∷ []) (omega (arith, ltb-false (length all) n within, length_map logged_bytes all)))))
      where
        joined : map logged_bytes kept ++ (records_of groups ++ x ∷ []) ≡ map logged_bytes all ++ x ∷ []
        joined = sym (append_assoc (map logged_bytes kept) (records_of groups) (x ∷ [])) ∙ ap (λ (l : List (List ℕ)). l ++ x ∷ []) (sym bytes_of_all)

        bytes : map logged_bytes next.batches ≡ take n (map logged_bytes all ++ x ∷ [])
        bytes = same ∙ ap (take n) joined

        with_failed : length all < n → AreFirst call next.batches
        with_failed past =
            let whole : take n (map logged_bytes all ++ x ∷ []) ≡ map logged_bytes all ++ x ∷ [] =
            take_all n (map logged_bytes all ++ x ∷ []) (omega (arith, past, length-append (map logged_bytes all) (x ∷ []), length_map logged_bytes all)) in
            let one = one_more next.batches all x own_next own_all (bytes ∙ whole) in
            let are : next.batches ≡ kept ++ (map batch_of_group groups ++ one.more ∷ []) = one.are ∙ append_assoc kept (map batch_of_group groups) (one.more ∷ []) in
            and_added (map batch_of_group groups ++ one.more ∷ []) (and_failed one.more (subst (IsFailedRecord call) (sym one.bytes) may) refl) are

    pub found_by_none : NoneByChance call image → AreFirst call next.batches
    found_by_none by =
        let crash = ((leaves call).safe).crash in
        let prefix = crash.any_moment by.failed (may_fail call by.failed by.may_be) image tt by.none (map logged_bytes kept) spelled to.recovered to.is in
        by_failed by.failed by.may_be prefix.many prefix.some (ap (map logged_bytes) to.batches ∙ prefix.same)

    pub found_in_opening : IsLeftInOpening call image → AreFirst call next.batches
    found_in_opening left =
        let Images : List ℕ → Type 0 = (execution_of call).images in
        let went : RecoversKept call.start call.ran.before call.found.content Images = subst (λ (s : LogStart). IfGoesOn s (RecoversKept call.start call.ran.before call.found.content Images)) left.resumed (leaves call).went_on in
        let prefix = went image left.left left.no_other (map logged_bytes kept) spelled to.recovered to.is in
        of_kept prefix.many (first_batches next.batches kept prefix.many own_next (all_first _ kept (map batch_of_group groups) own_all) (ap (map logged_bytes) to.batches ∙ prefix.same))

    pub map_found : next.map ≡ map_of_batches next.batches
    map_found = to.map ∙ ap map_of_batches (sym to.batches)

    pub last_found : next.last ≡ last_sequence 0 next.batches
    last_found = to.last ∙ ap (last_sequence 0) (sym to.batches)

    -- what is found begins with the first batches of the log, if the records do
    pub first_by_bytes : (m : ℕ) → take m (map logged_bytes next.batches) ≡ take m (map logged_bytes all) → take m next.batches ≡ take m all
    first_by_bytes m same =
        same_logged (take m next.batches) (take m all) (own_take m next.batches own_next) (own_take m all own_all) (sym (take-map logged_bytes m next.batches) ∙ same ∙ take-map logged_bytes m all)

    -- an image that begins with the text of the first batches recovers these first
    pub at_least : (m : ℕ) (whole : List ℕ) → m ≤ length all → SpellsWhole (number_of call) whole (map logged_bytes (take m all)) → BeginsWith whole image → take m next.batches ≡ take m all
    at_least m whole within spells begins =
        let kept_to = (to.recovered).kept in
        let s : ℕ = length whole in
        let front : SpellsWhole (number_of call) (take s image) (map logged_bytes (take m all)) = subst (λ (l : List ℕ). SpellsWhole (number_of call) l (map logged_bytes (take m all))) (sym begins.1) spells in
        let keeps = (to.is).keeps in
        let below : s ≤ kept_to = (to.is).most s (take m all) (record { within = begins.0; spelled = front; are_batches = own_take m all own_all; in_order = order_take 0 m all rise_all }) in
        let parts : take kept_to image ≡ take s image ++ drop s (take kept_to image) =
        sym (take-append-drop s (take kept_to image)) ∙ ap (λ (l : List ℕ). l ++ drop s (take kept_to image)) (take-take s kept_to image below) in
        let more = spells_front (number_of call) (take kept_to image) (take s image) (drop s (take kept_to image)) (map logged_bytes (to.recovered).batches) (map logged_bytes (take m all)) parts keeps.spelled front in
        let bytes : map logged_bytes next.batches ≡ take m (map logged_bytes all) ++ more.0 = ap (map logged_bytes) to.batches ∙ more.1 ∙ ap (λ (l : List (List ℕ)). l ++ more.0) (sym (take-map logged_bytes m all)) in
        let len : m ≡ length (take m (map logged_bytes all)) = omega (arith, within, length-take m (map logged_bytes all), length_map logged_bytes all) in
        first_by_bytes m (ap (take m) bytes ∙ ap (λ (n : ℕ). take n (take m (map logged_bytes all) ++ more.0)) len ∙ take-append_seam (take m (map logged_bytes all)) more.0)
