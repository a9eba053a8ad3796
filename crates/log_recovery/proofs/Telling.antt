-- What the steps of recovery give where the disk tells its content.
use Rattle.std.proofs.Common.{◌≡◌, ◌↔◌, IsTrue, ℕ, Bool, true, false, List, [], length, Option, Some, None, MatchOption, IfSome, Result, Ok, Err, IfOk, ◌<◌, refl, sym, ◌∙◌, subst, arith}
use Rattle.std.proofs.lemmas.List.{nil_from_length}
use Rattle.model_base.specs.declared.log.EndReason.{EndReason}
use Rattle.model_base.specs.declared.log.EndReason.TheVariants as ends
use Rattle.model_base.specs.Log.{plain_log, record_of}
use Rattle.model_base.specs.Reading.{seen_within, ReadingEnds, clean, broken, bad_order, unfinished}
use Rattle.model_base.specs.Recovery.{last_sequence, RecordEnds, short, bad_varint, tag, count, order, high, RecoveryEnds, reading, record_read}
use Rattle.log_reader.specs.declared.reader.Next.{Next}
use Rattle.log_reader.specs.declared.reader.Next.TheVariants as next
use Rattle.log_reader.specs.Reader.{Reader, Follows}
use Rattle.log_reader.specs.Records.{Reads}
use Rattle.log_recovery.specs.declared.kept.Kept.{Kept}
use Rattle.log_recovery.specs.declared.modes.Mode.{Mode}
use Rattle.log_recovery.specs.declared.recovery.End.{End}
use Rattle.log_recovery.specs.declared.recovery.Recovered.{Recovered}
use Rattle.log_recovery.specs.Keeping.{KeepsFront, Adds, Refuses}
use Rattle.log_recovery.specs.Modes.{Accepts, IsDamage}
use Rattle.log_recovery.specs.Reading.{KeepsRead, KeepsAllRead}
use Rattle.log_recovery.specs.Recovering.{HasKept, HasRecovered, StillHasKept}
use Rattle.log_recovery.proofs.Recovers.{keeps_read, refuses_read, ends_reading, begins, first_recovered}

if_both : (told : Option (List ℕ)) (P Q R : List ℕ → Type 0) → IfSome told P → IfSome told Q → ((d : List ℕ) → P d → Q d → R d) → IfSome told R
if_both None P Q R p q f = tt
if_both (Some d) P Q R p q f = f d p q

pub if_all : (told : Option (List ℕ)) (P : List ℕ → Type 0) → ((d : List ℕ) → P d) → IfSome told P
if_all None P f = tt
if_all (Some d) P f = f d

-- what keeping a record did: it is kept, or it can't be kept and nothing has changed
abbrev pub KeptOrNot : Kept → Kept → List ℕ → ℕ → Option EndReason → Type 0
KeptOrNot old new bytes end r = MatchOption r (Adds old new bytes end) (λ why. (new ≡ old) × Refuses old.last bytes why)

pub kept_adds : (old new : Kept) (bytes : List ℕ) (end : ℕ) (r : Option EndReason) → KeptOrNot old new bytes end r → r ≡ None → Adds old new bytes end
kept_adds old new bytes end None m e = m
kept_adds old new bytes end (Some why) m e = absurd (cc)

pub kept_refuses : (old new : Kept) (bytes : List ℕ) (end : ℕ) (r : Option EndReason) (why : EndReason) → KeptOrNot old new bytes end r → r ≡ Some why → (new ≡ old) × Refuses old.last bytes why
kept_refuses old new bytes end None why m e = absurd (cc)
kept_refuses old new bytes end (Some w) why m e = let same : w ≡ why = cc in (m.0, subst (Refuses old.last bytes) same m.1)

-- what the reader has read is kept, if what it had read at first was
abbrev pub SoFar : Kept → Reader → Kept → Reader → List ℕ → Type 0
SoFar first from kept log d = (before : Kept) → KeepsRead d before first from → KeepsRead d before kept log

-- what the reader says of a file that it follows
abbrev pub Says : Reader → Reader → Next → List ℕ → Type 0
Says log after answer d = Follows d log → log.stopped ≡ None → Reads log.number d log.place after.in_hand answer

module _ (told before : Option (List ℕ)) (first old new : Kept) (from log after : Reader) (start end : ℕ) (bytes : List ℕ) where
  -- one more record is kept
  pub kept_on : before ≡ told → log.stopped ≡ None → after.number ≡ log.number → after.place ≡ end → bytes ≡ after.in_hand → Adds old new bytes end → IfSome told (SoFar first from old log)
      → IfSome before (Says log after (next.Record start end)) → IfSome before (λ d. Follows d log → Follows d after) → IfSome told (SoFar first from new after)
  kept_on same going number place bytes_are adds so_far says follows =
      by_told told so_far (subst (λ (t : Option (List ℕ)). IfSome t (Says log after (next.Record start end))) same says) (subst (λ (t : Option (List ℕ)). IfSome t (λ d. Follows d log → Follows d after)) same follows)
    where
      by_told : (t : Option (List ℕ)) → IfSome t (SoFar first from old log) → IfSome t (Says log after (next.Record start end)) → IfSome t (λ d. Follows d log → Follows d after) → IfSome t (SoFar first from new after)
      by_told None so_far says follows = tt
      by_told (Some d) so_far says follows = λ b read.
          let k = so_far b read in
          let one = says k.follows going in
          record {
            place = adds.end_is ∙ sym place;
            follows = follows k.follows;
            front = subst (λ (n : Option ℕ). KeepsFront n d b new) (sym number) (keeps_read log.number d b old new log.place start end after.in_hand bytes k.place bytes_are k.front one adds);
          }

  -- a record that isn't kept ends recovery
  pub refused : (why : EndReason) → before ≡ told → log.stopped ≡ None → log.number ≡ from.number → bytes ≡ after.in_hand → (new ≡ old) × Refuses old.last bytes why → IfSome told (SoFar first from old log)
      → IfSome before (Says log after (next.Record start end)) → IfSome told (λ d. KeepsAllRead d first from new (record { at = start; why = why }))
  refused why same going number bytes_are refuses so_far says =
      by_told told so_far (subst (λ (t : Option (List ℕ)). IfSome t (Says log after (next.Record start end))) same says)
    where
      ended_there : End
      ended_there = record { at = start; why = why }

      by_told : (t : Option (List ℕ)) → IfSome t (SoFar first from old log) → IfSome t (Says log after (next.Record start end)) → IfSome t (λ d. KeepsAllRead d first from new ended_there)
      by_told None so_far says = tt
      by_told (Some d) so_far says = λ b read.
          let k = so_far b read in
          let one = says k.follows going in
          let has = refuses_read log.number d b old log.place start end after.in_hand bytes why k.place bytes_are k.front one refuses.1 in
          subst (λ (kept : Kept). HasKept from.number d b kept ended_there) (sym refuses.0) (subst (λ (n : Option ℕ). HasKept n d b old ended_there) number has)

-- so does anything that can't be read
pub ended : (told before : Option (List ℕ)) (first kept : Kept) (from log after : Reader) (at : ℕ) (why : EndReason) → before ≡ told → log.stopped ≡ None → log.number ≡ from.number → IfSome told (SoFar first from kept log)
    → IfSome before (Says log after (next.End at why)) → IfSome told (λ d. KeepsAllRead d first from kept (record { at = at; why = why }))
ended told before first kept from log after at why same going number so_far says =
    by_told told so_far (subst (λ (t : Option (List ℕ)). IfSome t (Says log after (next.End at why))) same says)
  where
    end : End
    end = record { at = at; why = why }

    by_told : (t : Option (List ℕ)) → IfSome t (SoFar first from kept log) → IfSome t (Says log after (next.End at why)) → IfSome t (λ d. KeepsAllRead d first from kept end)
    by_told None so_far says = tt
    by_told (Some d) so_far says = λ b read.
        let k = so_far b read in
        let ends = subst (λ n. ReadingEnds log.number d n at why) (sym k.place) (says k.follows going) in
        subst (λ (n : Option ℕ). HasKept n d b kept end) number (ends_reading log.number d b kept end k.front ends)

-- from the log's start on, all that is kept is what the reader has read
pub from_start : {E : Type 0} (told : Option (List ℕ)) (number : Option ℕ) (log : Reader) (before first kept : Kept) (r : Result End E) → log.number ≡ number → log.place ≡ 0 → ((d : List ℕ) → Follows d log)
    → first.groups.items ≡ before.groups.items → first.map ≡ before.map → first.last ≡ before.last → first.end ≡ 0 → IfSome told (λ d. IfOk r (KeepsAllRead d first log kept)) → IfSome told (λ d. IfOk r (HasKept number d before kept))
from_start None number log before first kept r is start follows groups map_is last end says = tt
from_start (Some d) number log before first kept (Err e) is start follows groups map_is last end says = tt
from_start (Some d) number log before first kept (Ok found) is start follows groups map_is last end says =
    subst (λ (n : Option ℕ). HasKept n d before kept found) is (says before (record {
      place = end ∙ sym start;
      follows = follows d;
      front = begins log.number d before first groups map_is last end;
    }))

-- at first nothing of the disk is kept
pub begun : (number : Option ℕ) (told : Option (List ℕ)) (before kept : Kept) → kept.groups.items ≡ before.groups.items → kept.map ≡ before.map → kept.last ≡ before.last → kept.end ≡ 0 → IfSome told (λ d. KeepsFront number d before kept)
begun number told before kept groups map_is last end = if_all told (λ d. KeepsFront number d before kept) (λ d. begins number d before kept groups map_is last end)

-- of a log without bytes nothing is read, and so nothing is kept
pub no_bytes : ReadingEnds plain_log [] 0 0 ends.Clean
unfolding seen_within
no_bytes = clean {at = 0} (record { begun = tt; stand = record { rest = []; there = refl; fit = tt }; is_next = refl })

pub nothing_kept : (told : Option (List ℕ)) (len : ℕ) (before kept : Kept) → len ≡ 0 → IfSome told (λ d. len ≡ length d) → kept.groups.items ≡ before.groups.items → kept.map ≡ before.map → kept.last ≡ before.last → kept.end ≡ 0
    → IfSome told (λ d. HasKept plain_log d before kept (record { at = 0; why = ends.Clean }))
nothing_kept told len before kept none long groups map_is last end =
    let ended : End = record { at = 0; why = ends.Clean } in
    if_both told (λ d. len ≡ length d) (λ d. KeepsFront plain_log d before kept) (λ d. HasKept plain_log d before kept ended) long (begun plain_log told before kept groups map_is last end)
    (λ d is front.
    let no_content : d ≡ [] = nil_from_length d (sym is ∙ none) in
    ends_reading plain_log d before kept ended front
    (subst (λ n. ReadingEnds plain_log d n 0 ends.Clean) (sym end) (subst (λ l. ReadingEnds plain_log l 0 0 ends.Clean) (sym no_content) no_bytes)))

-- recovery that ends clean ends at the end of the file
unread_at : (number : Option ℕ) (file : List ℕ) (kept at : ℕ) (why : EndReason) → ReadingEnds number file kept at why → why ≡ ends.Clean → at ≡ length file
unread_at number file kept at why (clean sees) e = refl
unread_at number file kept at why (broken fs sees) e = absurd (cc)
unread_at number file kept at why (bad_order fs sees begun one) e = absurd (cc)
unread_at number file kept at why (unfinished f fs sees) e = absurd (cc)

not_clean : (last : ℕ) (bytes : List ℕ) (why : EndReason) → RecordEnds last bytes why → why ≡ ends.Clean → ⊥
not_clean last bytes why (short is) e = cc
not_clean last bytes why (bad_varint is) e = cc
not_clean last bytes why (tag is) e = cc
not_clean last bytes why (count is) e = cc
not_clean last bytes why (order records is some low) e = cc
not_clean last bytes why (high records is n_is some above past) e = cc

clean_at : (number : Option ℕ) (file : List ℕ) (kept last at : ℕ) (why : EndReason) → RecoveryEnds number file kept last at why → why ≡ ends.Clean → at ≡ length file
clean_at number file kept last at why (reading ends) e = unread_at number file kept at why ends e
clean_at number file kept last at why (record_read fs one stands ends) e = absurd (not_clean last (record_of fs) why ends e)

-- so nothing comes after it to a file that stays as it is
pub none_comes : {E : Type 0} (told : Option (List ℕ)) (len : ℕ) (old new : Kept) (end : End) (r : Result End E) → end.why ≡ ends.Clean → end.at < len → IfSome told (λ d. len ≡ length d) → IfSome told (λ d. IfOk r (StillHasKept plain_log d old end new))
none_comes None len old new end r is_clean longer long = tt
none_comes (Some d) len old new end (Err e) is_clean longer long = tt
none_comes (Some d) len old new end (Ok found) is_clean longer long = λ before has.
    let s = has.recovered in
    let at_end : s.at ≡ length d = clean_at plain_log d s.kept (last_sequence before.last s.batches) s.at s.why has.is.ends (sym has.why ∙ is_clean) in
    absurd (omega (arith, at_end, has.at, longer, long))

-- recovery that has gone on keeps what recovery keeps
pub still_kept : (told mid : Option (List ℕ)) (first old new : Kept) (end now : End) → mid ≡ told → IfSome told (λ d. HasKept plain_log d first old end) → IfSome mid (λ d. StillHasKept plain_log d old end new now)
    → IfSome told (λ d. HasKept plain_log d first new now)
still_kept told mid first old new end now same has on =
    if_both told (λ d. HasKept plain_log d first old end) (λ d. StillHasKept plain_log d old end new now) (λ d. HasKept plain_log d first new now) has
    (subst (λ (t : Option (List ℕ)). IfSome t (λ d. StillHasKept plain_log d old end new now)) same on) (λ d kept still. still first kept)

-- what is kept of the first log is what is recovered from it
pub recovered_first : (number : Option ℕ) (told : Option (List ℕ)) (before kept : Kept) (end : End) → before.groups.items ≡ [] → before.map ≡ [] → before.last ≡ 0 → IfSome told (λ d. HasKept number d before kept end)
    → IfSome told (λ d. HasRecovered number d (record { groups = kept.groups; map = kept.map; last = kept.last; kept = kept.end; end = end }))
recovered_first number None before kept end groups map_is last has = tt
recovered_first number (Some d) before kept end groups map_is last has = first_recovered number d before kept end groups map_is last has

-- whether the mode accepts the end, where the content is the same as before
pub accepted_there : (before told : Option (List ℕ)) (is : Bool) (P : List ℕ → Type 0) → before ≡ told → is ≡ true → IfSome before (λ file. IsTrue is ↔ P file) → IfSome told P
accepted_there before told is P same so decided = by_told told (subst (λ (t : Option (List ℕ)). IfSome t (λ file. IsTrue is ↔ P file)) same decided)
  where
    by_told : (t : Option (List ℕ)) → IfSome t (λ file. IsTrue is ↔ P file) → IfSome t P
    by_told None says = tt
    by_told (Some file) says = says.0 so

pub refused_there : (before told : Option (List ℕ)) (is : Bool) (P : List ℕ → Type 0) → before ≡ told → is ≡ false → IfSome before (λ file. IsTrue is ↔ P file) → IfSome told (λ file. P file → ⊥)
refused_there before told is P same not_so decided = by_told told (subst (λ (t : Option (List ℕ)). IfSome t (λ file. IsTrue is ↔ P file)) same decided)
  where
    by_told : (t : Option (List ℕ)) → IfSome t (λ file. IsTrue is ↔ P file) → IfSome t (λ file. P file → ⊥)
    by_told None says = tt
    by_told (Some file) says = λ accepts. let so : is ≡ true = says.1 accepts in cc

-- an end that the mode doesn't accept is damage
pub damaged_there : (told : Option (List ℕ)) (number : Option ℕ) (mode : Mode) (shown : Recovered) → IfSome told (λ file. HasRecovered number file shown) → IfSome told (λ file. Accepts number mode file shown.end.at shown.end.why → ⊥)
    → IfSome told (λ file. IsDamage number mode file shown.end.at shown.end.why)
damaged_there told number mode shown has refuses =
    if_both told (λ file. HasRecovered number file shown) (λ file. Accepts number mode file shown.end.at shown.end.why → ⊥) (λ file. IsDamage number mode file shown.end.at shown.end.why) has refuses
    (λ file is refused. record { recovered = is.recovered; is = is.is; at_is = sym is.shows.at; why_is = sym is.shows.why; refused = refused })
