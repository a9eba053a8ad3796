-- What several logs recover of which a crash left a front.
use Rattle.std.proofs.Common.{◌≡◌, ℕ, ◌+◌, ◌≤◌, Bool, true, false, cond, nat_lt, ◌==◌, List, [], ◌∷◌, ◌++◌, length, take, drop, map, Option, refl, sym, ◌∙◌, ap, subst, arith, length-append, length-take, append-nil}
use Rattle.std.proofs.Math.Seq.{take-append-add, take-take}
use Rattle.std.proofs.lemmas.Bool.{ltb-true, ltb-false}
use Rattle.std.proofs.lemmas.List.{map-append, take-append-le, take-append-drop, take_all}
use Rattle.std.specs.List.{AllByRecursion}
use Rattle.model_base.specs.declared.log.EndReason.{EndReason}
use Rattle.model_base.specs.declared.log.EndReason.TheVariants as ends
use Rattle.model_base.specs.Batch.{count_of}
use Rattle.model_base.specs.Log.{plain_log, Fragment, AreOneRecord, kinds_of, record_of, next_place, all_fragments, fragments_text, SpellsWhole}
use Rattle.model_base.specs.Reading.{fragment, nothing, Seen, Next, next_seen, behind_zeros, end_of, HasFragments, ReadingEnds, clean, broken, bad_order, unfinished}
use Rattle.model_base.specs.Recovery.{Logged, logged_bytes, last_of, last_after, last_sequence, AreInOrder, Keeps, RecordEnds, short, bad_varint, tag, count, order, high, RecoveryEnds, reading, record_read, Recovered, NoChance}
use Rattle.model_base.specs.RecoveredLogs.{KeepsAfter, IsRecoveredAfter, RecoveredLogs, AreRecoveredAfter, ends_here, goes_on}
use Rattle.log_laws.specs.Prefixes.{BeginsWith}
use Rattle.log_laws.specs.Fronts.{plain_text, AreFront, within, whole, NoChances, records_in}
use Rattle.log_laws.proofs.Next.{cases_bool, seen_past}
use Rattle.log_laws.proofs.Placed.{length_map}
use Rattle.log_laws.proofs.Written.{text_spells}
use Rattle.log_laws.proofs.ReadSynced.{sees_first}
use Rattle.log_laws.proofs.Recovers.{keeps_front}
use Rattle.log_laws.proofs.Synced.{spells_front, spells_one, groups_spelled}
use Rattle.log_recovery_laws.proofs.OneReading.{no_end}
use Rattle.log_recovery_laws.proofs.Spelled.{Begins, NextRecord, next_record}
use Rattle.log_recovery_laws.proofs.Kept.{AreBatches, same_logged}

-- Runs that rise above a sequence rise above a lower one.

lower_after : (low last : ℕ) (b : Logged) → low ≤ last → last_after low b ≤ last_after last b
lower_after low last b below = by_count (count_of b.records == 0)
  where
    by_count : (z : Bool) → cond z low (last_of b) ≤ cond z last (last_of b)
    by_count true = below
    by_count false = omega arith

in_order_lower : (low last : ℕ) (bs : List Logged) → low ≤ last → AreInOrder last bs → AreInOrder low bs
in_order_lower low last [] below ordered = tt
in_order_lower low last (b ∷ bs) below ordered = (
  λ some. let may = ordered.0 some in (omega (arith, may.0, below), may.1),
  in_order_lower (last_after low b) (last_after last b) bs (lower_after low last b below) ordered.1,
)

pub keeps_lower : (last : ℕ) (number : Option ℕ) (file : List ℕ) (kept : ℕ) (bs : List Logged) → KeepsAfter last number file kept bs → Keeps number file kept bs
keeps_lower last number file kept bs keeps = record { within = keeps.within; spelled = keeps.spelled; are_batches = keeps.are_batches; in_order = in_order_lower 0 last bs (omega arith) keeps.in_order }

in_order_parts : (last : ℕ) (xs bs : List Logged) → AreInOrder last (xs ++ bs) → AreInOrder last xs × AreInOrder (last_sequence last xs) bs
in_order_parts last [] bs ordered = (tt, ordered)
in_order_parts last (a ∷ xs) bs ordered = let t = in_order_parts (last_after last a) xs bs ordered.1 in ((ordered.0, t.0), t.1)

batches_parts : (xs bs : List Logged) → AreBatches (xs ++ bs) → AreBatches xs × AreBatches bs
batches_parts [] bs are = (tt, are)
batches_parts (a ∷ xs) bs are = let t = batches_parts xs bs are.1 in ((are.0, t.0), t.1)

-- where the bytes of batches are two lists, one after the other, so are the batches
record Split (bs : List Logged) (xs ys : List (List ℕ)) : Type 0 where
  pub front : List Logged
  pub back : List Logged
  pub parts : bs ≡ front ++ back
  pub front_is : map logged_bytes front ≡ xs
  pub back_is : map logged_bytes back ≡ ys

split_batches : (bs : List Logged) (xs ys : List (List ℕ)) → map logged_bytes bs ≡ xs ++ ys → Split bs xs ys
split_batches bs [] ys e = record { front = []; back = bs; parts = refl; front_is = refl; back_is = e }
split_batches [] (x ∷ xs) ys e = absurd (cc)
split_batches (b ∷ bs) (x ∷ xs) ys e =
    let head : logged_bytes b ≡ x = cc in
    let tail : map logged_bytes bs ≡ xs ++ ys = cc in
    let s = split_batches bs xs ys tail in
    record {
      front = b ∷ s.front;
      back = s.back;
      parts = ap (λ (l : List Logged). b ∷ l) s.parts;
      front_is = ap (λ (l : List ℕ). l ∷ map logged_bytes s.front) head ∙ ap (λ (l : List (List ℕ)). x ∷ l) s.front_is;
      back_is = s.back_is;
    }

-- Where the file has no more bytes, recovery ends clean.

next_past : (number : Option ℕ) (file : List ℕ) (offset : ℕ) → length file ≤ offset → (next_seen number file offset).seen ≡ nothing
next_past number file offset past =
    ap (λ (s : Seen). (behind_zeros number file offset s).seen) (seen_past number file offset past) ∙ seen_past number file (next_place number offset) (omega (arith, past))

no_first : (number : Option ℕ) (file : List ℕ) (offset : ℕ) (f : Fragment) (fs : List Fragment) → length file ≤ offset → HasFragments number file offset (f ∷ fs) → ⊥
no_first number file offset f fs past stand =
    let both : fragment f ≡ nothing = sym (sees_first number file offset f fs stand) ∙ seen_past number file (next_place number offset) (omega (arith, past)) in cc

module _ (number : Option ℕ) (file : List ℕ) (offset : ℕ) (past : length file ≤ offset) where
  reading_clean : (at : ℕ) (why : EndReason) → ReadingEnds number file offset at why → why ≡ ends.Clean
  reading_clean at why (clean c) = refl
  reading_clean at why (broken {d = d} fs c) =
      let wrong : Seen.damage d ≡ nothing = ap (λ (n : Next). n.seen) c.is_next ∙ next_past number file (end_of number offset fs) (omega (arith, past)) in absurd (cc)
  reading_clean at why (bad_order {f = f} fs c not_begun not_one) =
      let wrong : fragment f ≡ nothing = ap (λ (n : Next). n.seen) c.is_next ∙ next_past number file (end_of number offset fs) (omega (arith, past)) in absurd (cc)
  reading_clean at why (unfinished f fs c) = absurd (no_first number file offset f fs past c.stand)

  no_record : (fs : List Fragment) → AreOneRecord (kinds_of fs) → HasFragments number file offset fs → ⊥
  no_record [] one stand = one
  no_record (f ∷ fs) one stand = no_first number file offset f fs past stand

  end_clean : (last at : ℕ) (why : EndReason) → RecoveryEnds number file offset last at why → why ≡ ends.Clean
  end_clean last at why (reading e) = reading_clean _ _ e
  end_clean last at why (record_read fs one stand e) = absurd (no_record fs one stand)

-- a record that is read isn't a clean end
not_clean : (last : ℕ) (bytes : List ℕ) (why : EndReason) → RecordEnds last bytes why → why ≡ ends.Clean → ⊥
not_clean last bytes why (short e) same = cc
not_clean last bytes why (bad_varint e) same = cc
not_clean last bytes why (tag e) same = cc
not_clean last bytes why (count e) same = cc
not_clean last bytes why (order rs is some le) same = cc
not_clean last bytes why (high rs is n some lt le) same = cc

-- The file is the text of these records.
module _ (last : ℕ) (number : Option ℕ) (file : List ℕ) (records : List (List ℕ)) (r : Recovered) (spells : SpellsWhole number file records) (is : IsRecoveredAfter last number file r) where
  all_begins : Begins number file (length file) records
  all_begins = record { within = omega arith; spelled = subst (λ (l : List ℕ). SpellsWhole number l records) (sym (take_all (length file) file (omega arith))) spells }

  kept_begins : Begins number file r.kept (map logged_bytes r.batches)
  kept_begins = record { within = is.keeps.within; spelled = is.keeps.spelled }

  no_next : (at : ℕ) (why : EndReason) → RecoveryEnds number file r.kept (last_sequence last r.batches) at why → why ≡ ends.Clean → NextRecord number file r.kept (map logged_bytes r.batches) records → ⊥
  no_next at why (reading e) same next = no_end number file r.kept _ _ next.fs next.one next.stands e
  no_next at why (record_read fs one stand e) same next = not_clean _ _ _ e same

  -- Where recovery ends clean, all records are kept.
  pub clean_whole : r.why ≡ ends.Clean → map logged_bytes r.batches ≡ records
  clean_whole same =
      cases_bool (nat_lt r.kept (length file))
      (λ less. absurd (no_next r.at r.why is.ends same (next_record number file r.kept (length file) (map logged_bytes r.batches) records kept_begins all_begins (ltb-true r.kept (length file) less))))
      (λ not_less.
      let all : take r.kept file ≡ file = take_all r.kept file (ltb-false r.kept (length file) not_less) in
      spells_one number file (map logged_bytes r.batches) records (subst (λ (l : List ℕ). SpellsWhole number l (map logged_bytes r.batches)) all is.keeps.spelled) spells)

  -- Where all records are kept, recovery ends clean.
  pub whole_clean : map logged_bytes r.batches ≡ records → r.why ≡ ends.Clean
  whole_clean all =
      let part : SpellsWhole number (take r.kept file) records = subst (λ (rs : List (List ℕ)). SpellsWhole number (take r.kept file) rs) all is.keeps.spelled in
      let groups = groups_spelled number file (take r.kept file) (drop r.kept file) records records (sym (take-append-drop r.kept file)) spells part in
      let none : groups.0 ≡ [] = no_length groups.0 (omega (arith, ap length groups.1, length-append part.groups groups.0, ap length spells.same, ap length part.same, length_map record_of spells.groups, length_map record_of part.groups)) in
      let same : spells.groups ≡ part.groups = groups.1 ∙ (ap (λ (l : List (List Fragment)). part.groups ++ l) none ∙ append-nil part.groups) in
      let text : file ≡ take r.kept file = spells.spelled ∙ (ap (λ (gs : List (List Fragment)). fragments_text number 0 (all_fragments gs)) same ∙ sym part.spelled) in
      end_clean number file r.kept (omega (arith, ap length text, length-take r.kept file, is.keeps.within)) (last_sequence last r.batches) r.at r.why is.ends
    where
      no_length : (l : List (List Fragment)) → length l ≡ 0 → l ≡ []
      no_length [] e = refl
      no_length (x ∷ l) e = absurd (omega (arith, e))

-- The batches in the synced bytes are recovered.
synced_after : (last : ℕ) (number : Option ℕ) (image front : List ℕ) (synced : List (List ℕ)) (batches : List Logged) (r : Recovered) → SpellsWhole number front synced → IsRecoveredAfter last number image r → BeginsWith front image
    → map logged_bytes batches ≡ synced → AreBatches batches → AreInOrder last batches → length batches ≤ length r.batches
synced_after last number image front synced batches r spells is begins same are ordered =
    let s = length front in
    let spelled : SpellsWhole number (take s image) (map logged_bytes batches) = subst (λ bytes. SpellsWhole number bytes (map logged_bytes batches)) (sym begins.1) (subst (λ rs. SpellsWhole number front rs) (sym same) spells) in
    let below : s ≤ r.kept = is.most s batches (record { within = begins.0; spelled = spelled; are_batches = are; in_order = ordered }) in
    let parts : take r.kept image ≡ take s image ++ drop s (take r.kept image) = sym (take-append-drop s (take r.kept image)) ∙ ap (λ (l : List ℕ). l ++ drop s (take r.kept image)) (take-take s r.kept image below) in
    let more = spells_front number (take r.kept image) (take s image) (drop s (take r.kept image)) (map logged_bytes r.batches) (map logged_bytes batches) parts is.keeps.spelled spelled in
    omega (arith, ap length more.1, length-append (map logged_bytes batches) more.0, length_map logged_bytes batches, length_map logged_bytes r.batches)

-- No bytes recover nothing.

no_batches : (bs : List Logged) → map logged_bytes bs ≡ [] → bs ≡ []
no_batches [] e = refl
no_batches (b ∷ bs) e = absurd (cc)

none_kept : (last : ℕ) (file : List ℕ) (r : Recovered) → file ≡ [] → IsRecoveredAfter last plain_log file r → r.batches ≡ []
none_kept last file r empty is =
    let taken : take r.kept file ≡ [] = no_bytes (take r.kept file) (omega (arith, length-take r.kept file, ap length empty)) in
    no_batches r.batches (spells_one plain_log [] (map logged_bytes r.batches) [] (subst (λ (l : List ℕ). SpellsWhole plain_log l (map logged_bytes r.batches)) taken is.keeps.spelled)
    (record { groups = []; whole = tt; same = refl; fit = tt; spelled = refl }))
  where
    no_bytes : (l : List ℕ) → length l ≡ 0 → l ≡ []
    no_bytes [] e = refl
    no_bytes (x ∷ l) e = absurd (omega (arith, e))

none_recovered : (last : ℕ) (files : List (List ℕ)) (s : RecoveredLogs) → AllByRecursion (λ file. file ≡ []) files → AreRecoveredAfter plain_log last files s → s.batches ≡ []
none_recovered last files s none (ends_here r is stop) = none_kept last _ r none.0 is
none_recovered last files s none (goes_on r more is same on) =
    let first : r.batches ≡ [] = none_kept last _ r none.0 is in
    let later : more.batches ≡ [] = none_recovered (last_sequence last r.batches) _ more none.1 on in
    ap (λ (l : List Logged). l ++ more.batches) first ∙ later

-- These batches, which come after the sequence `last`, are the first of these records, with those that are there for
-- certain.
pub record AreFirst (last safe : ℕ) (records : List (List ℕ)) (found : List Logged) : Type 0 where
  pub prefix : map logged_bytes found ≡ take (length found) records
  pub enough : (batches : List Logged) → map logged_bytes batches ≡ take safe records → AreBatches batches → AreInOrder last batches → safe ≤ length found

-- of one log's records, and more records after them
few_of : (found : List Logged) (records more : List (List ℕ)) → map logged_bytes found ≡ take (length found) records → map logged_bytes found ≡ take (length found) (records ++ more)
few_of found records more prefix =
    prefix ∙ sym (take-append-le (length found) records more (omega (arith, ap length prefix, length_map logged_bytes found, length-take (length found) records)))

no_front : (safe : ℕ) (logs : List (List (List ℕ))) (images : List (List ℕ)) → AreFront safe logs images → images ≡ [] → ⊥
no_front safe logs images (within some begins none) e = cc
no_front safe logs images (whole same front) e = cc

-- the log in which the crash came: recovery ends in it
in_this : (last safe : ℕ) (records more : List (List ℕ)) (image : List ℕ) (r : Recovered) → safe ≤ length records → BeginsWith (plain_text (take safe records)) image → NoChance plain_log image (plain_text records) → IsRecoveredAfter last plain_log image r
    → AreFirst last safe (records ++ more) r.batches
in_this last safe records more image r some begins chance is = record {
  prefix = few_of r.batches records more (keeps_front plain_log image (plain_text records) r.kept r.batches records (text_spells plain_log records) (keeps_lower last plain_log image r.kept r.batches is.keeps) chance);
  enough = λ batches same are ordered.
      let these : map logged_bytes batches ≡ take safe records = same ∙ take-append-le safe records more some in
      let all = synced_after last plain_log image (plain_text (take safe records)) (take safe records) batches r (text_spells plain_log (take safe records)) is begins these are ordered in
      omega (arith, all, ap length these, length_map logged_bytes batches, length-take safe records, some);
}

-- a whole log, in which recovery ends all the same, since its batches don't rise
in_whole : (last safe : ℕ) (records more : List (List ℕ)) (image : List ℕ) (r : Recovered) → image ≡ plain_text records → NoChance plain_log image (plain_text records) → IsRecoveredAfter last plain_log image r → (r.why ≡ ends.Clean → ⊥)
    → AreFirst last (length records + safe) (records ++ more) r.batches
in_whole last safe records more image r same_image chance is stops =
    let spells : SpellsWhole plain_log image records = subst (λ (l : List ℕ). SpellsWhole plain_log l records) (sym same_image) (text_spells plain_log records) in
    let prefix : map logged_bytes r.batches ≡ take (length r.batches) records =
    keeps_front plain_log image (plain_text records) r.kept r.batches records (text_spells plain_log records) (keeps_lower last plain_log image r.kept r.batches is.keeps) chance in
    record {
      prefix = few_of r.batches records more prefix;
      enough = λ batches same are ordered.
          let s = split_batches batches records (take safe more) (same ∙ take-append-add records more safe) in
          let in_parts = in_order_parts last s.front s.back (subst (AreInOrder last) s.parts ordered) in
          let are_parts = batches_parts s.front s.back (subst AreBatches s.parts are) in
          let begins : BeginsWith image image = (omega arith, take_all (length image) image (omega arith)) in
          let all = synced_after last plain_log image image records s.front r spells is begins s.front_is are_parts.0 in_parts.0 in
          let many : length records ≤ length r.batches = omega (arith, all, ap length s.front_is, length_map logged_bytes s.front) in
          absurd (stops (whole_clean last plain_log image records r spells is (prefix ∙ take_all (length r.batches) records many)));
    }

-- a whole log, after which recovery goes on
in_later : (last safe : ℕ) (records more : List (List ℕ)) (image : List ℕ) (r : Recovered) (found : List Logged) → image ≡ plain_text records → IsRecoveredAfter last plain_log image r → r.why ≡ ends.Clean → AreFirst (last_sequence last r.batches) safe more found
    → AreFirst last (length records + safe) (records ++ more) (r.batches ++ found)
in_later last safe records more image r found same_image is same later =
    let spells : SpellsWhole plain_log image records = subst (λ (l : List ℕ). SpellsWhole plain_log l records) (sym same_image) (text_spells plain_log records) in
    let all : map logged_bytes r.batches ≡ records = clean_whole last plain_log image records r spells is same in
    let many : length records ≡ length r.batches = sym (ap length all) ∙ length_map logged_bytes r.batches in
    record {
      prefix =
          map-append logged_bytes r.batches found ∙ (ap (λ (l : List (List ℕ)). l ++ map logged_bytes found) all ∙ (ap (λ (l : List (List ℕ)). records ++ l) later.prefix ∙ (sym (take-append-add records more (length found))
          ∙ ap (λ (n : ℕ). take n (records ++ more)) (omega (arith, many, length-append r.batches found)))));
      enough = λ batches e are ordered.
          let s = split_batches batches records (take safe more) (e ∙ take-append-add records more safe) in
          let in_parts = in_order_parts last s.front s.back (subst (AreInOrder last) s.parts ordered) in
          let are_parts = batches_parts s.front s.back (subst AreBatches s.parts are) in
          let front : s.front ≡ r.batches = same_logged s.front r.batches are_parts.0 is.keeps.are_batches (s.front_is ∙ sym all) in
          let enough = later.enough s.back s.back_is are_parts.1 (subst (λ (l : List Logged). AreInOrder (last_sequence last l) s.back) front in_parts.1) in
          omega (arith, enough, many, length-append r.batches found);
    }

pub front_is : (last safe : ℕ) (logs : List (List (List ℕ))) (images : List (List ℕ)) (s : RecoveredLogs) → AreFront safe logs images → NoChances logs images → AreRecoveredAfter plain_log last images s → AreFirst last safe (records_in logs) s.batches
front_is last safe logs images s (within {records = records} {logs = later} {image = image} some begins none) chance (ends_here r is stop) = in_this last safe records (records_in later) image r some begins chance.0 is
front_is last safe logs images s (within {records = records} {logs = later} {image = image} some begins none) chance (goes_on r more is same on) =
    let nothing_more : more.batches ≡ [] = none_recovered (last_sequence last r.batches) _ more none on in
    subst (AreFirst last safe (records ++ records_in later)) (sym (ap (λ (l : List Logged). r.batches ++ l) nothing_more ∙ append-nil r.batches)) (in_this last safe records (records_in later) image r some begins chance.0 is)
front_is last safe logs images s (whole {safe = rest} {records = records} {logs = later} {image = image} same_image front) chance (ends_here r is stop) =
    in_whole last rest records (records_in later) image r same_image chance.0 is (λ e. no_front _ _ _ front (stop e))
front_is last safe logs images s (whole {safe = rest} {records = records} {logs = later} {image = image} same_image front) chance (goes_on r more is same on) =
    in_later last rest records (records_in later) image r more.batches same_image is same (front_is (last_sequence last r.batches) rest later _ more front chance.1 on)
