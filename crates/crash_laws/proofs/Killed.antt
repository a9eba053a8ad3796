-- What is left of a call's log where its process was killed, and what the next call finds of it.
use Rattle.std.proofs.Common.{◌≡◌, ◌⊎◌, inl, inr, ⊎_elim, ℕ, ◌+◌, ◌<◌, ◌≤◌, min, List, [], ◌∷◌, ◌++◌, length, take, drop, map, Option, Some, None, IfSome, slice_get, refl, ap, sym, ◌∙◌, subst, arith, append-nil, length-append, length-take}
use Rattle.std.proofs.lemmas.List.{take-map, take-take, take_all, take_min}
use Rattle.base_devices.specs.Disk.{Disk, IsDisk, Told}
use Rattle.base_devices.specs.declared.disk.Disk.{Ghosts}
use Rattle.model_base.specs.Batch.{Record}
use Rattle.model_base.specs.Calls.{Call as Answered}
use Rattle.model_base.specs.Log.{Beginning, Fragment, SpellsWhole, text_from, text_after}
use Rattle.model_base.specs.Reading.{Seen, Next, fragment, nothing, damage, seen_at, next_seen, behind_zeros}
use Rattle.model_base.specs.History.{Entry}
use Rattle.model_base.specs.LogContents.{GroupCall, record_of_entries, records_of}
use Rattle.model_base.specs.Recovery.{Logged, logged_bytes, NoChance, Recovered}
use Rattle.log_laws.specs.Prefixes.{BeginsWith}
use Rattle.log_laws.proofs.Placed.{length_map}
use Rattle.log_laws.proofs.Written.{spells_on}
use Rattle.log_laws.proofs.Recovers.{recovers_front}
use Rattle.log_recovery_laws.proofs.OneRecovery.{recovers_one}
use Rattle.log_writer.specs.Words.{disk_of}
use Rattle.log_writer.specs.Written.{written_by, HoldsCalls, IsTextOver}
use Rattle.log_writer.proofs.Standing.{stands_so, text_over}
use Rattle.model_runs.specs.Crashes.{over}
use Rattle.run_outcome.specs.Running.{Before, RecoversTo, GoesOnFrom, HasFirst, number_in, beginning_of, begun_on, batch_of_group, batches_of_log}
use Rattle.run_outcome.specs.declared.log_start.LogStart.{LogStart}
use Rattle.run_outcome.specs.declared.log_start.LogStart.TheVariants.{New, Over, Behind}
use Rattle.crash_laws.specs.Restarts.{Call, execution_of, number_of, kept_in, groups_in, calls_in, HaveGroups, IsAlone}
use Rattle.crash_laws.specs.Killed.{WasAccepted, KnewThen, IsKilledAfter, IsKilledInOpening, IsAfterOpening, text_of_first, HasNoMore, IsAtRest, FindsBatch, IsAfterKill, OutlivesProcess}
use Rattle.crash_laws.proofs.Promised.{is_run, goes_on, leaves}
use Rattle.crash_laws.proofs.Front.{spelled, found_by_none}
use Rattle.crash_laws.proofs.Certain.{within_list, through_found}
use Rattle.crash_laws.proofs.Whole.{after_groups, text_alone}
use Rattle.crash_laws.proofs.Written.{written_first, written_all, begins_first, none_failed_first, split_wrote, tells_before, begun_content}
use Rattle.crash_laws.proofs.Logged.{in_group, knows_by_then}

-- A text that nothing comes after

-- what the log began with, and a text over it
over_begun : (start : LogStart) (before : Before) (t : List ℕ) (a b c : Option Disk) (x z : Disk) → a ≡ Some x → c ≡ Some z → Told a b (λ u v. v.content ≡ begun_on start before u.content) → Told b c (IsTextOver t)
    → z.content ≡ over t (begun_on start before x.content)
over_begun start before t None b c x z at_first at_last begun text = absurd (cc at_first)
over_begun start before t (Some u) None c x z at_first at_last begun text = absurd begun
over_begun start before t (Some u) (Some v) None x z at_first at_last begun text = absurd text
over_begun start before t (Some u) (Some v) (Some w) x z at_first at_last begun text =
    let first : u ≡ x = cc at_first in
    let last : w ≡ z = cc at_last in
    sym (ap (λ (d : Disk). d.content) last) ∙ text ∙ ap (over t) (begun ∙ ap (λ (d : Disk). begun_on start before d.content) first)

-- what is seen of a file next is in the file
own_fragment : (number : Option ℕ) (file : List ℕ) (offset place : ℕ) (f : Fragment) → record { at = place; seen = fragment f } ≡ next_seen number file offset → seen_at number file place ≡ fragment f
own_fragment number file offset place f e = by_seen (seen_at number file offset) refl e
  where
    by_seen : (s : Seen) → seen_at number file offset ≡ s → record { at = place; seen = fragment f } ≡ behind_zeros number file offset s → seen_at number file place ≡ fragment f
    by_seen nothing seen h = ap (λ (n : Next). seen_at number file n.at) h ∙ sym (ap (λ (n : Next). n.seen) h)
    by_seen (damage d) seen h = let wrong : fragment f ≡ damage d = ap (λ (n : Next). n.seen) h in absurd (cc)
    by_seen (fragment g) seen h = ap (λ (n : Next). seen_at number file n.at) h ∙ seen ∙ sym (ap (λ (n : Next). n.seen) h)

no_chance_in : (number : Option ℕ) (file : List ℕ) → NoChance number file file
no_chance_in number file place f met = own_fragment number file _ place f (met.comes).is_next

-- batches that have some first groups are as many
too_few : {D : Type 0} {disk : Ghosts D} (call : Call disk) (batches : List Logged) (k : ℕ) → HaveGroups call k batches → k ≤ length (groups_in call) → length batches < length (kept_in call) + k → ⊥
too_few call batches k have within few =
    let some : List (List Entry) = take k (groups_in call) in
    omega (arith, few, within, ap length have, length-take (length (kept_in call) + k) batches, length-append (kept_in call) (map batch_of_group some), length_map batch_of_group some, length-take k (groups_in call))

-- A log that is resumed again before it has begun finds what it found, unless nothing was there.
same_file : (start : LogStart) → IsAlone start → (before : Before) (found : Disk) → GoesOnFrom start (Some found) before → (start ≡ New → found.content ≡ []) → (next : Before) → RecoversTo (number_in start) found.content next
    → (found.content ≡ before.kept) ⊎ (next.batches ≡ before.batches)
same_file New alone before found goes empty next to = inl (empty refl ∙ sym (ap (λ (x : Before). x.kept) goes))
same_file (Over number) alone before found goes empty next to = absurd alone
same_file (Behind number) alone before found goes empty next to =
    let there : RecoversTo number found.content before = goes in
    let one = recovers_one number found.content to.recovered there.recovered to.is there.is in
    inr (to.batches ∙ ap (λ (r : Recovered). r.batches) one ∙ sym there.batches)

-- A file that begins with the text of the first groups

module _ {D : Type 0} {disk : Ghosts D} (call : Call disk) where
  abbrev b : Beginning
  b = beginning_of call.start call.ran.before

  abbrev groups : List (List Entry)
  groups = groups_in call

  module _ (n : ℕ) (file : List ℕ) (begins : BeginsWith (text_of_first call n) file) (next : Before) (to : RecoversTo (number_of call) file next) where
    abbrev many : ℕ
    many = min n (length groups)

    -- these groups are found
    pub found_first : (m : ℕ) → m ≤ n → m ≤ length groups → HaveGroups call m next.batches
    found_first m within short =
        let some : List (List ℕ) = records_of (take n groups) in
        let same : take m some ≡ records_of (take m groups) = take-map record_of_entries m (take n groups) ∙ ap records_of (take-take m n groups within) in
        through_found call file next to m short (subst (λ (l : List (List ℕ)). BeginsWith (text_after b l) file) same (begins_first b some m file begins))

    pub all_found : HaveGroups call many next.batches
    all_found = found_first many (omega arith) (omega arith)

    -- and no others, where nothing more is there
    pub none_else : HasNoMore call n file → next.batches ≡ batches_of_log call.ran.before (take n groups)
    none_else no_more =
        let kept : List (List ℕ) = map logged_bytes (kept_in call) in
        let records : List (List ℕ) = records_of (take n groups) in
        let spells : SpellsWhole (number_of call) (text_of_first call n) (kept ++ records) = spells_on (number_of call) call.ran.before.kept kept records (spelled call) in
        let front = recovers_front (number_of call) file (text_of_first call n) (kept ++ records) to.recovered spells to.is no_more in
        let found : List Logged = (to.recovered).batches in
        let short : length next.batches ≤ length (kept_in call) + many =
        omega (arith, ap length to.batches, ap length front, length_map logged_bytes found, length-take (length found) (kept ++ records), length-append kept records, length_map logged_bytes (kept_in call), length_map record_of_entries (take n groups), length-take n groups) in
        sym (take_all (length (kept_in call) + many) next.batches short) ∙ all_found ∙ ap (batches_of_log call.ran.before) (take_min n groups)

  -- a file that is the text has no more
  no_more : (n : ℕ) (file : List ℕ) → file ≡ text_of_first call n → HasNoMore call n file
  no_more n file text = subst (λ (l : List ℕ). NoChance (number_of call) file l) text (no_chance_in (number_of call) file)

  -- While the log is being opened

  kept_only : (file : List ℕ) (next : Before) → file ≡ call.ran.before.kept → RecoversTo (number_of call) file next → next.batches ≡ kept_in call
  kept_only file next same to =
      let text : file ≡ text_of_first call 0 = same ∙ sym (append-nil call.ran.before.kept) in
      let begins : BeginsWith (text_of_first call 0) file = subst (λ (l : List ℕ). BeginsWith l file) text (omega arith, take_all (length file) file (omega arith)) in
      none_else 0 file begins next to (no_more 0 file text) ∙ append-nil (kept_in call)

  pub after_opening : (file : List ℕ) (next : Before) → IsKilledInOpening call file → RecoversTo (number_of call) file next → IsAfterOpening call next
  after_opening file next killed to = record { all = all; state = after_groups call file next 0 to (all ∙ sym (append-nil (kept_in call))) }
    where
      as_found : file ≡ call.found.content → next.batches ≡ kept_in call
      as_found same = ⊎_elim
          (λ kept. kept_only file next (same ∙ kept) to)
          (λ batches. batches)
          (same_file call.start killed.0 call.ran.before call.found (goes_on call) (leaves call).found_empty next (subst (λ (l : List ℕ). RecoversTo (number_of call) l next) same to))

      all : next.batches ≡ kept_in call
      all = ⊎_elim as_found (λ kept. kept_only file next kept to) killed.1

-- a file as the disk held it has each byte in front of the place
all_in_front : (d : Disk) → IsDisk d → HasFirst d.place d.content d.content
all_in_front d is = (is.placed, refl)

-- The log of a call whose process was killed

module _ {D : Type 0} {disk : Ghosts D} (is_disk : (d : D) → IfSome (disk.told d) IsDisk) (call : Call disk) where
  -- each call wrote the record of its group
  written_of : (n : ℕ) → written_by (take n (calls_in call)) ≡ records_of (take n (groups call))
  written_of n =
      let run = is_run call in
      let writes = run.writes in
      written_first n (calls_in call) ∙ ap (take n) (written_all _ run.attempts call.outcome.fault _ writes.parts writes.calls writes.lost writes.each writes.none_else) ∙ take-map record_of_entries n (groups call)

  module _ (n : ℕ) (file : List ℕ) (killed : IsKilledAfter call n file) where
    abbrev made : List GroupCall
    made = take n (calls_in call)

    holds : (safe : ℕ) × HoldsCalls (b call) killed.held made safe
    holds =
        let stands = stands_so is_disk (b call) call.opened made killed.between killed.written in
        subst (λ (t : Option Disk). IfSome t (λ d. (safe : ℕ) × HoldsCalls (b call) d made safe)) killed.tells stands.told

    -- the file begins with what they wrote
    pub begins : BeginsWith (text_of_first call n) file
    begins =
        let t : List ℕ = text_after (b call) (written_by made) in
        let held = holds.1 in
        let there : BeginsWith t killed.held.content = held.content in
        let within : length t ≤ killed.held.place = held.behind in
        let front = killed.in_front in
        let same : take (length t) file ≡ t = sym (take-take (length t) killed.held.place file within) ∙ ap (take (length t)) front.1 ∙ take-take (length t) killed.held.place killed.held.content within ∙ there.1 in
        let is : BeginsWith t file = (omega (arith, within, front.0), same) in
        subst (λ (l : List (List ℕ)). BeginsWith (text_after (b call) l) file) (written_of n) is

    module _ (next : Before) (to : RecoversTo (number_of call) file next) where
      pub batch_found : (i : ℕ) (calls : List Answered) (first knew : ℕ) (records : List Record) → KnewThen (execution_of call).settings (is_run call).trace (i + 1) calls first knew records → knew ≤ n → FindsBatch call first records next.batches
      batch_found i calls first knew records known within =
          let among = in_group call (i + 1) calls first knew records known in
          let short = within_list (groups call) among.k among.group among.there in
          let written = among.written in
          record { k = among.k; group = among.group; there = among.there; has = among.has; have = found_first call n file begins next to (among.k + 1) (omega (arith, within, written)) (omega (arith, short)) }

      pub after_kill : IsAfterKill call n file next
      after_kill = record {
        all = all_found call n file begins next to;
        none_else = λ no_more. let are = none_else call n file begins next to no_more in (are, after_groups call file next n to are);
        first = found_by_none call file next to;
        acknowledged = λ i calls first knew records there. batch_found i calls first knew records;
      }

    -- where no call was under way, the file is the text
    pub only_text : IsAtRest killed → file ≡ text_of_first call n
    only_text rest =
        let run = is_run call in
        let writes = run.writes in
        let worked = none_failed_first n writes.parts writes.calls writes.lost writes.each rest.worked in
        let written = killed.written in
        let text = text_over is_disk (b call) call.opened written.begun made killed.between written.has_begun written.wrote worked in
        let begun = begun_content call.start call.ran.before call.opened written.begun rest.is_opened in
        let is = over_begun call.start call.ran.before (text_after (b call) (written_by made)) (disk.told call.opened) (disk.told (disk_of written.begun)) (disk.told (disk_of killed.between)) call.found killed.held call.told_found killed.tells begun text in
        rest.rests ∙ is ∙ ap (λ (l : List (List ℕ)). over (text_after (b call) l) (begun_on call.start call.ran.before call.found.content)) (written_of n)
        ∙ text_alone call.start call.ran.before call.found (text_from (number_of call) (length call.ran.before.kept) (records_of (take n (groups call)))) rest.alone (leaves call).found_empty

    pub at_rest : IsAtRest killed → (file ≡ text_of_first call n) × HasNoMore call n file
    at_rest rest = let text = only_text rest in (text, no_more call n file text)

  -- So a batch that a client was answered `ok` for outlives the process.
  pub outlives : (i : ℕ) (calls : List Answered) (first last : ℕ) (records : List Record) → slice_get call.outcome.transcripts i ≡ Some calls → WasAccepted calls first last records → OutlivesProcess call i calls first records
  outlives i calls first last records there was =
      let knows = knows_by_then call i calls first last records there was in
      let among = in_group call (i + 1) calls first knows.knew records knows.known in
      let written = among.written in
      let short = within_list (groups call) among.k among.group among.there in
      record {
        knew = knows.knew;
        within = knows.within;
        known = knows.known;
        k = among.k;
        group = among.group;
        there = among.there;
        has = among.has;
        written = written;
        found = λ n file next later killed to. found_first call n file (begins n file killed) next to (among.k + 1) (omega (arith, later, written)) (omega (arith, short));
      }

  -- There is such a moment between any calls.
  pub is_moment : (n : ℕ) → n ≤ length (calls_in call) → (file : List ℕ) × (killed : IsKilledAfter call n file) × (file ≡ killed.held.content)
  is_moment n within =
      let by = ((is_run call).writes).by in
      let log = by.0 in
      let written = by.1 in
      let parts = split_wrote written.begun (calls_in call) log written.wrote n within in
      let told_last : disk.told (disk_of log) ≡ Some call.left = ap disk.told by.2 ∙ call.told_left in
      let held = tells_before parts.between (drop n (calls_in call)) log parts.after call.left told_last in
      let is : IsDisk held.0 = subst (λ (t : Option Disk). IfSome t IsDisk) held.1 (is_disk (disk_of parts.between)) in (
        (held.0).content,
        record {
          between = parts.between;
          written = record { begun = written.begun; has_begun = written.has_begun; wrote = parts.before };
          last = log;
          wrote = parts.after;
          is_ended = by.2;
          held = held.0;
          tells = held.1;
          in_front = all_in_front held.0 is;
        },
        refl,
      )

  -- Next calls that aren't right after that

  pub not_lost : (i : ℕ) (calls : List Answered) (first knew : ℕ) (records : List Record) (file : List ℕ) (next : Before) → KnewThen (execution_of call).settings (is_run call).trace (i + 1) calls first knew records → IsKilledAfter call knew file
      → RecoversTo (number_of call) file next → next.batches ≡ kept_in call → ⊥
  not_lost i calls first knew records file next known killed to same =
      let found = batch_found knew file killed next to i calls first knew records known (omega arith) in
      let short = within_list (groups call) found.k found.group found.there in
      too_few call next.batches (found.k + 1) found.have (omega (arith, short)) (omega (arith, ap length same))

  pub not_one_of_two : (n : ℕ) (file : List ℕ) (next : Before) (first second : List Entry) (more : List (List Entry)) → groups call ≡ first ∷ second ∷ more → 2 ≤ n → IsKilledAfter call n file → RecoversTo (number_of call) file next
      → next.batches ≡ batches_of_log call.ran.before (first ∷ []) → ⊥
  not_one_of_two n file next first second more are some killed to same =
      let short : 2 ≤ length (groups call) = omega (arith, ap length are) in
      let found = found_first call n file (begins n file killed) next to 2 some short in
      too_few call next.batches 2 found short (omega (arith, ap length same, length-append (kept_in call) (batch_of_group first ∷ [])))
