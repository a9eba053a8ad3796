-- One log as the only one of several.
use Rattle.std.proofs.Common.{◌≡◌, ℕ, zero, suc, ◌+◌, ◌-◌, ◌<◌, ◌≤◌, List, [], ◌∷◌, ◌++◌, length, take, drop, map, flat_map, Option, Some, None, slice_get, refl, sym, ap, subst, ◌∙◌, arith, length-append, length-take, add-zero, zero-add, append_assoc}
use Rattle.std.specs.Prelude.{MatchOption}
use Rattle.std.proofs.Math.Seq.{drop-nil, take-append_seam, take-take}
use Rattle.std.proofs.lemmas.Option.{slice_get_within}
use Rattle.std.proofs.lemmas.List.{append-nil, take-append-drop, take-append-le, take-map, length-map}
use Rattle.model_base.specs.Log.{new_log, plain_log, record_text, text_from, text_after}
use Rattle.model_base.specs.History.{Entry}
use Rattle.model_base.specs.Attempts.{Attempt}
use Rattle.model_base.specs.Calls.{Command, Outcome}
use Rattle.model_base.specs.LogContents.{GroupCall, records_of, record_of_entries}
use Rattle.model_base.specs.Recovery.{logged_bytes, Recovered, IsRecovered}
use Rattle.model_base.specs.RecoveredLogs.{IsRecoveredAfter, ends_here, in_first}
use Rattle.model_base.specs.Trace.{Settings}
use Rattle.log_laws.specs.Prefixes.{RecoversPrefix, BeginsWith, HoldsFront}
use Rattle.log_laws.specs.Fronts.{plain_text, AreFront, HaveFront, within, whole, RecoverPrefix}
use Rattle.log_laws.proofs.Placed.{length_map}
use Rattle.log_laws.proofs.Recovers.{recovers_front}
use Rattle.log_laws.proofs.Synced.{spells_one}
use Rattle.log_laws.proofs.Written.{text_spells, spells_on}
use Rattle.model_runs.specs.Crashes.{text_through, with_failed_record, failed_record, HasSync, HaveSynced, HasAllSafe, IsFailedWrite, HoldsFailedWrite, IsCrashSafe, IsRun, IsSafe, over}
use Rattle.model_runs.specs.SeveralLogs.{begun_records, Held, HoldLogs, last_one, IsRunOverLogs, AreCrashSafe, AreSafe}

-- the text of records and of more after them
text_append : (offset : ℕ) (xs ys : List (List ℕ)) → text_from plain_log offset (xs ++ ys) ≡ text_from plain_log offset xs ++ text_from plain_log (offset + length (text_from plain_log offset xs)) ys
text_append offset [] ys = ap (λ (n : ℕ). text_from plain_log n ys) (sym (add-zero offset))
text_append offset (x ∷ xs) ys =
    let one : List ℕ = record_text plain_log offset x in
    let later : List ℕ = text_from plain_log (offset + length one) xs in
    ap (λ (l : List ℕ). one ++ l) (text_append (offset + length one) xs ys)
    ∙ (sym (append_assoc one later (text_from plain_log ((offset + length one) + length later) ys))
    ∙ ap (λ (n : ℕ). (one ++ later) ++ text_from plain_log n ys) (omega (arith, length-append one later)))

-- what begins with a text begins with each front of it
begins_front : (s t image : List ℕ) → BeginsWith (s ++ t) image → BeginsWith s image
begins_front s t image begins =
    let both = length-append s t in
    let few : length s ≤ length (s ++ t) = omega (arith, both) in (
      omega (arith, both, begins.0),
      sym (take-take (length s) (length (s ++ t)) image few) ∙ ap (take (length s)) begins.1 ∙ take-append_seam s t,
    )

-- fewer records have a front of the text
begins_with_fewer : (few many : ℕ) (records : List (List ℕ)) (image : List ℕ) → few ≤ many → BeginsWith (plain_text (take many records)) image → BeginsWith (plain_text (take few records)) image
begins_with_fewer few many records image le begins =
    let kept = take many records in
    let cut : kept ≡ take few records ++ drop few kept = sym (take-append-drop few kept) ∙ ap (λ l. l ++ drop few kept) (take-take few many records le) in
    let parts : plain_text kept ≡ plain_text (take few records) ++ text_from plain_log (length (plain_text (take few records))) (drop few kept) =
    ap plain_text cut ∙ text_append 0 (take few records) (drop few kept) ∙ ap (λ (n : ℕ). plain_text (take few records) ++ text_from plain_log n (drop few kept)) (zero-add (length (plain_text (take few records)))) in
    begins_front _ _ image (subst (λ t. BeginsWith t image) parts begins)

-- the records with the failed one begin with the others
pub begun_text : (records : List (List ℕ)) (x : Option (List ℕ)) → (more : List ℕ) × (plain_text (with_failed_record records x) ≡ plain_text records ++ more)
begun_text records None = ([], sym (append-nil (plain_text records)))
begun_text records (Some x) = (_, text_append 0 records (x ∷ []))

first_of_begun : (n : ℕ) (records : List (List ℕ)) (x : Option (List ℕ)) → n ≤ length records → take n (with_failed_record records x) ≡ take n records
first_of_begun n records None few = refl
first_of_begun n records (Some x) few = take-append-le n records (x ∷ []) few

-- what a disk holds of a front of the text, of the records alone
holds_text : (records : List (List ℕ)) (x : Option (List ℕ)) (place : ℕ) (content : List ℕ) → length (plain_text records) ≤ place → HoldsFront (plain_text (with_failed_record records x)) place content
    → take (length (plain_text records)) content ≡ plain_text records
holds_text records x place content behind front =
    let t = plain_text records in
    let begun = plain_text (with_failed_record records x) in
    let more = begun_text records x in
    sym (take-take (length t) place content behind) ∙ ap (take (length t)) front.same ∙ take-take (length t) place begun behind
    ∙ ap (take (length t)) more.1 ∙ take-append_seam t more.0

-- a front of one log
no_front : (safe : ℕ) → AreFront safe [] [] → ⊥
no_front safe front = elim front [ ]

one_front : (safe : ℕ) (records : List (List ℕ)) (image : List ℕ) → AreFront safe (records ∷ []) (image ∷ []) → BeginsWith (plain_text (take safe records)) image
one_front safe records image (within some begins none) = begins
one_front safe records image (whole same front) = absurd (no_front _ front)

-- what one file recovers
is_first : (file : List ℕ) (r : Recovered) → IsRecovered plain_log file r → IsRecoveredAfter 0 plain_log file r
is_first file r is = record {
  keeps = record { within = is.keeps.within; spelled = is.keeps.spelled; are_batches = is.keeps.are_batches; in_order = is.keeps.in_order };
  most = λ kept bs k. is.most kept bs (record { within = k.within; spelled = k.spelled; are_batches = k.are_batches; in_order = k.in_order });
  ends = is.ends;
}

one_prefix : (P : ℕ → Type 0) (records : List (List ℕ)) (file : List ℕ) → RecoverPrefix records (file ∷ []) P → RecoversPrefix plain_log records file P
one_prefix P records file prefix r is = prefix (in_first r) (ends_here r (is_first file r is) (λ clean. refl))

-- a group that was to be synced, and whose call has returned, is among the safe ones
pub among_safe : (groups : List (List Entry)) (n safe k : ℕ) (group : List Entry) → HaveSynced (take n groups) safe → slice_get groups k ≡ Some group → HasSync group → k < n → k < safe
among_safe [] n safe k group have there some lt = absurd (cc there)
among_safe (g ∷ groups) zero safe k group have there some lt = absurd (omega (arith, lt))
among_safe (g ∷ groups) (suc n) zero zero group have there some lt =
    let is : g ≡ group = cc there in
    absurd (have.0 (subst HasSync (sym is) some))
among_safe (g ∷ groups) (suc n) zero (suc k) group have there some lt =
    let none = among_safe groups n zero k group have.1 there some (omega (arith, lt)) in
    absurd (omega (arith, none))
among_safe (g ∷ groups) (suc n) (suc safe) zero group have there some lt = omega arith
among_safe (g ∷ groups) (suc n) (suc safe) (suc k) group have there some lt =
    let more = among_safe groups n safe k group have there some (omega (arith, lt)) in
    omega (arith, more)

one_held : (x : Option (List ℕ)) (groups : List (List Entry)) (held : Held) → HoldLogs x (groups ∷ []) (held ∷ [])
    → (x ≡ None → held.content ≡ plain_text (records_of groups)) × (length (plain_text (records_of groups)) ≤ held.place)
    × HoldsFront (plain_text (with_failed_record (records_of groups) x)) held.place held.content
one_held x groups held (last_one text behind front none) = (text, behind, front)

module _ (group_bytes : ℕ) (attempts : List (List Attempt)) (o : Outcome) (groups : List (List Entry)) (held : Held) (lost : List GroupCall) where
  abbrev Fails : ℕ → Type 0
  Fails count = (x : List ℕ) × (failed_record lost ≡ Some x) × IsFailedWrite group_bytes attempts o x × HoldLogs (Some x) (groups ∷ []) (held ∷ [])

  abbrev FailsAlone : ℕ → Type 0
  FailsAlone count = (x : List ℕ) × (failed_record lost ≡ Some x) × HoldsFailedWrite group_bytes attempts o new_log groups x held.place held.content

  one_failed : (fault : Option ℕ) → MatchOption fault (HoldLogs None (groups ∷ []) (held ∷ [])) Fails
      → MatchOption fault (held.content ≡ over (text_after new_log (records_of groups)) []) FailsAlone
  one_failed None hold =
      let text = plain_text (records_of groups) in
      (one_held None groups held hold).0 refl ∙ sym (append-nil text) ∙ ap (λ rest. text ++ rest) (sym (drop-nil (length text)))
  one_failed (Some count) failed =
      let hold = one_held (Some failed.0) groups held failed.3 in
      (failed.0, failed.1, record { failed = failed.2; behind = hold.1; front = hold.2 })

  one_content : (fault : Option ℕ) → MatchOption fault (HoldLogs None (groups ∷ []) (held ∷ [])) Fails → take (length (plain_text (records_of groups))) held.content ≡ plain_text (records_of groups)
  one_content None hold =
      let is = one_held None groups held hold in
      holds_text (records_of groups) None held.place held.content is.1 is.2
  one_content (Some count) failed =
      let is = one_held (Some failed.0) groups held failed.3 in
      holds_text (records_of groups) (Some failed.0) held.place held.content is.1 is.2

-- the records of all logs are those of the only one
alone : (groups : List (List Entry)) → groups ++ [] ≡ groups
alone groups = append-nil groups

-- where the first `safe` records are there for certain, the image begins with the text up to the end of each group among them
begins_by_front : (groups : List (List Entry)) (lost : List GroupCall) (k : ℕ) (group : List Entry) (image : List ℕ) (safe : ℕ) → slice_get groups k ≡ Some group → k < safe
    → HaveFront safe (begun_records (groups ∷ []) (failed_record lost) 0) (image ∷ []) → BeginsWith (text_through new_log groups k) image
begins_by_front groups lost k group image safe there inside have =
    let records = with_failed_record (records_of groups) (failed_record lost) in
    let begins : BeginsWith (plain_text (take have.certain records)) image = one_front have.certain records image have.front in
    let fewer = begins_with_fewer (k + 1) have.certain records image (omega (arith, inside, have.enough)) begins in
    let there_is = slice_get_within groups k group there in
    let own : take (k + 1) records ≡ records_of (take (k + 1) groups) =
    first_of_begun (k + 1) (records_of groups) (failed_record lost) (omega (arith, there_is, length-map groups record_of_entries)) ∙ take-map record_of_entries (k + 1) groups in
    subst (λ rs. BeginsWith (plain_text rs) image) own fewer

one_crash : (group_bytes : ℕ) (attempts : List (List Attempt)) (o : Outcome) (groups : List (List Entry)) (held : Held) (reach : ℕ) (made lost : List GroupCall) (a c : List ℕ)
    (b : List GroupCall → List GroupCall → List ℕ)
    → AreCrashSafe group_bytes attempts o (groups ∷ []) 0 (held ∷ []) (reach ∷ []) made lost (λ images. images ≡ a ∷ []) (λ before after images. images ≡ b before after ∷ []) (λ images. images ≡ c ∷ [])
    → IsCrashSafe group_bytes attempts o new_log groups [] held.content held.place made lost reach (λ image. image ≡ a) (λ before after image. image ≡ b before after) (λ image. image ≡ c)
one_crash group_bytes attempts o groups held reach made lost a c b safe = record {
  failed = one_failed group_bytes attempts o groups held lost o.fault safe.failed;
  any_moment = λ x some image left none kept spelled r is.
      let records = with_failed_record (records_of groups) x in
      let front : map logged_bytes r.batches ≡ take (length r.batches) (kept ++ records) = recovers_front plain_log image (text_after new_log records) (kept ++ records) r (spells_on plain_log [] kept records spelled) is none in
      record {
        many = length r.batches;
        some = omega (arith, ap length front, length_map logged_bytes r.batches, length-take (length r.batches) (kept ++ records));
        same = front;
        enough = tt;
      };
  held = λ image left. (safe.held (image ∷ []) (ap (λ i. i ∷ []) left)).0;
  kept = λ image left. (omega arith, refl);
  kept_since = λ k n group there some lt image left.
      let found = safe.fronts n (image ∷ []) (ap (λ i. i ∷ []) left) in
      let in_all : HaveSynced (take n groups) found.0 = subst (λ all. HaveSynced (take n all) found.0) (alone groups) found.1 in
      begins_by_front groups lost k group image found.0 there (among_safe groups n found.0 k group in_all there some lt) found.2;
  at_end = λ x some image left none kept spelled.
      let no_kept : kept ≡ [] = spells_one plain_log [] kept [] spelled (text_spells plain_log []) in
      let prefix = safe.at_end x some (image ∷ []) (ap (λ i. i ∷ []) left) (none, tt) in
      let own = subst (λ all. RecoverPrefix (with_failed_record (records_of all) x) (image ∷ []) (HaveSynced all)) (alone groups) prefix in
      at_end_of kept no_kept (with_failed_record (records_of groups) x) image (one_prefix (HaveSynced groups) (with_failed_record (records_of groups) x) image own);
}
  where
    at_end_of : (kept : List (List ℕ)) → kept ≡ [] → (records : List (List ℕ)) (image : List ℕ) → RecoversPrefix plain_log records image (HaveSynced groups)
        → RecoversPrefix plain_log (kept ++ records) image (HasAllSafe groups (length kept))
    at_end_of [] none records image prefix r is =
        let p = prefix r is in
        record { many = p.many; some = p.some; same = p.same; enough = (omega arith, subst (HaveSynced groups) (omega arith) p.enough) }
    at_end_of (k ∷ kept) none records image prefix r is = absurd (cc none)

-- the only log of at most one
only : (logs : List (List (List Entry))) → 0 < length logs → length logs ≤ 1 → (groups : List (List Entry)) × (logs ≡ groups ∷ [])
only [] some few = absurd (omega (arith, some))
only (groups ∷ []) some few = (groups, refl)
only (groups ∷ next ∷ logs) some few = absurd (omega (arith, few))

one_length : (logs : List (List (List Entry))) (parts : List (List Entry)) → 0 < length logs → length logs ≤ 1 → flat_map (λ groups. groups) logs ≡ parts
    → map (λ groups. length (plain_text (records_of groups))) logs ≡ length (text_after new_log (records_of parts)) ∷ []
one_length [] parts some few cut = absurd (omega (arith, some))
one_length (groups ∷ []) parts some few cut = ap (λ all. length (plain_text (records_of all)) ∷ []) (sym (alone groups) ∙ cut)
one_length (groups ∷ next ∷ logs) parts some few cut = absurd (omega (arith, few))

pub one_run : (settings : Settings) (ended : ℕ) (script : List (List Command)) (limit : ℕ) (calls : List GroupCall) (o : Outcome)
    → IsRunOverLogs settings ended script limit 1 (λ made lens. made ≡ calls) o → IsRun settings ended script new_log (λ made. made ≡ calls) o
one_run settings ended script limit calls o run = record {
  trace = run.trace;
  attempts = run.attempts;
  legal = run.legal;
  writes = run.writes;
  length_is = run.lens_are ∙ one_length run.logs run.writes.parts run.some run.within run.cut;
}

-- what holds of the only log holds of all groups
one_logs : (group_bytes : ℕ) (attempts : List (List Attempt)) (o : Outcome) (logs : List (List (List Entry))) (parts : List (List Entry)) (held : Held) (reach : ℕ) (made lost : List GroupCall) (a c : List ℕ)
    (b : List GroupCall → List GroupCall → List ℕ) → 0 < length logs → length logs ≤ 1 → flat_map (λ groups. groups) logs ≡ parts
    → AreCrashSafe group_bytes attempts o logs (1 - length logs) (held ∷ []) (reach ∷ []) made lost (λ images. images ≡ a ∷ []) (λ before after images. images ≡ b before after ∷ []) (λ images. images ≡ c ∷ [])
    → (take (length (plain_text (records_of parts))) held.content ≡ plain_text (records_of parts))
    × IsCrashSafe group_bytes attempts o new_log parts [] held.content held.place made lost reach (λ image. image ≡ a) (λ before after image. image ≡ b before after) (λ image. image ≡ c)
one_logs group_bytes attempts o [] parts held reach made lost a c b some few cut safe = absurd (omega (arith, some))
one_logs group_bytes attempts o (groups ∷ []) parts held reach made lost a c b some few cut safe =
    let is : groups ≡ parts = sym (alone groups) ∙ cut in (
      subst (λ all. take (length (plain_text (records_of all))) held.content ≡ plain_text (records_of all)) is (one_content group_bytes attempts o groups held lost o.fault safe.failed),
      subst (λ all. IsCrashSafe group_bytes attempts o new_log all [] held.content held.place made lost reach (λ image. image ≡ a) (λ before after image. image ≡ b before after) (λ image. image ≡ c)) is
          (one_crash group_bytes attempts o groups held reach made lost a c b safe),
    )
one_logs group_bytes attempts o (groups ∷ next ∷ logs) parts held reach made lost a c b some few cut safe = absurd (omega (arith, few))

-- so does what was acknowledged
one_begins : (logs : List (List (List Entry))) (parts : List (List Entry)) (lost : List GroupCall) (k : ℕ) (group : List Entry) (image : List ℕ) → 0 < length logs → length logs ≤ 1 → flat_map (λ groups. groups) logs ≡ parts
    → slice_get parts k ≡ Some group → (safe : ℕ) × (k < safe) × HaveFront safe (begun_records logs (failed_record lost) (1 - length logs)) (image ∷ []) → BeginsWith (text_through new_log parts k) image
one_begins [] parts lost k group image some few cut there is = absurd (omega (arith, some))
one_begins (groups ∷ []) parts lost k group image some few cut there is =
    let same : groups ≡ parts = sym (alone groups) ∙ cut in
    subst (λ all. BeginsWith (text_through new_log all k) image) same (begins_by_front groups lost k group image is.0 (ap (λ all. slice_get all k) same ∙ there) is.1 is.2)
one_begins (groups ∷ next ∷ logs) parts lost k group image some few cut there is = absurd (omega (arith, few))

pub one_safe : (settings : Settings) (ended : ℕ) (script : List (List Command)) (limit : ℕ) (calls : List GroupCall) (o : Outcome) (run : IsRunOverLogs settings ended script limit 1 (λ made lens. made ≡ calls) o)
    (held : Held) (reach : ℕ) (a c : List ℕ) (b : List GroupCall → List GroupCall → List ℕ)
    → AreSafe run (held ∷ []) (reach ∷ []) (λ images. images ≡ a ∷ []) (λ before after images. images ≡ b before after ∷ []) (λ images. images ≡ c ∷ [])
    → IsSafe (one_run settings ended script limit calls o run) [] held.content held.place reach (λ image. image ≡ a) (λ before after image. image ≡ b before after) (λ image. image ≡ c)
unfolding one_run
one_safe settings ended script limit calls o run held reach a c b safe =
    let made = run.writes.calls ++ run.writes.lost in
    let one = one_logs settings.group_bytes run.attempts o run.logs run.writes.parts held reach made run.writes.lost a c b run.some run.within run.cut safe.crash in
    record {
      log = record {
        of_history = safe.of_history;
        content_is = one.0;
        length_is = run.lens_are ∙ one_length run.logs run.writes.parts run.some run.within run.cut;
      };
      crash = one.1;
      acknowledged = λ i calls first knew records at told.
          let s = safe.acknowledged i calls first knew records at told in (
            s.0,
            s.1,
            s.2,
            s.3,
            λ image left. one_begins run.logs run.writes.parts run.writes.lost s.0 s.1 image run.some run.within run.cut s.2 (s.4 (image ∷ []) (ap (λ i. i ∷ []) left)),
          );
    }
