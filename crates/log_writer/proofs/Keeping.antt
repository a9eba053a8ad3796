-- What a crash leaves: first of bytes, and from that of records.
use Rattle.std.proofs.Common.{◌≡◌, ℕ, ◌+◌, ◌≤◌, Bool, true, false, IsTrue, List, [], ◌∷◌, ◌++◌, length, take, drop, map, Option, Some, None, IfSome, sym, ◌∙◌, ap, subst, arith, append_assoc, length-append, length-take, add-zero}
use Rattle.std.proofs.Math.Seq.{take-take, take-append_seam}
use Rattle.std.proofs.lemmas.List.{take-append-le, take-append-drop, take_all, append-nil}
use Rattle.base_devices.specs.Disk.{Disk, IsDisk, IsImage, IsAllSafe, Told, LeavesOnly}
use Rattle.base_devices.specs.declared.disk.Disk.{Ghosts}
use Rattle.model_base.specs.Log.{record_text, text_from, Beginning, text_after, SpellsWhole}
use Rattle.model_base.specs.Recovery.{logged_bytes}
use Rattle.log_laws.specs.Prefixes.{BeginsWith}
use Rattle.log_laws.proofs.Placed.{length_map}
use Rattle.log_laws.proofs.Written.{spells_on}
use Rattle.log_laws.proofs.Crash.{reads_front}
use Rattle.log_laws.proofs.Recovers.{recovers_front}
use Rattle.log_laws.proofs.Synced.{holds_synced}
use Rattle.log_laws.proofs.ReadSynced.{reads_synced}
use Rattle.log_writer.specs.Crashes.{safe_len, KeepsSafe, KeepsWhatWasSafe, MayBeLeft, HoldsRecords, KeepsPrefix}
use Rattle.log_writer.specs.Puts.{IsSynced, StandPut}
use Rattle.log_writer.proofs.Putting.{leaves_so, leaves_now, put_there, keeps_image}

-- the text of records, and of more records after them
pub text_append : (number : Option ℕ) (offset : ℕ) (xs ys : List (List ℕ)) → text_from number offset (xs ++ ys) ≡ text_from number offset xs ++ text_from number (offset + length (text_from number offset xs)) ys
text_append number offset [] ys = ap (λ (n : ℕ). text_from number n ys) (sym (add-zero offset))
text_append number offset (x ∷ xs) ys =
    let one : List ℕ = record_text number offset x in
    let later : List ℕ = text_from number (offset + length one) xs in
    ap (λ (l : List ℕ). one ++ l) (text_append number (offset + length one) xs ys)
    ∙ (sym (append_assoc one later (text_from number (offset + length one + length later) ys))
    ∙ ap (λ (n : ℕ). (one ++ later) ++ text_from number n ys) (omega (arith, length-append one later)))

-- the same after what a log keeps
pub after_append : (b : Beginning) (xs ys : List (List ℕ)) → text_after b (xs ++ ys) ≡ text_after b xs ++ text_from b.number (length (text_after b xs)) ys
after_append b xs ys =
    let first : List ℕ = text_from b.number (length b.kept) xs in
    let later : List ℕ = text_from b.number (length b.kept + length first) ys in
    ap (λ (l : List ℕ). b.kept ++ l) (text_append b.number (length b.kept) xs ys)
    ∙ (sym (append_assoc b.kept first later) ∙ ap (λ (n : ℕ). (b.kept ++ first) ++ text_from b.number n ys) (sym (length-append b.kept first)))

pub after_more : (b : Beginning) (records : List (List ℕ)) (r : List ℕ) → text_after b (records ++ r ∷ []) ≡ text_after b records ++ record_text b.number (length (text_after b records)) r
after_more b records r = after_append b records (r ∷ []) ∙ ap (λ (l : List ℕ). text_after b records ++ l) (append-nil (record_text b.number (length (text_after b records)) r))

pub after_none : (b : Beginning) → text_after b [] ≡ b.kept
after_none b = append-nil b.kept

-- the text of all records begins with the text of the first ones
pub after_front : (b : Beginning) (records : List (List ℕ)) (n : ℕ) → take (length (text_after b (take n records))) (text_after b records) ≡ text_after b (take n records)
after_front b records n =
    let front : List ℕ = text_after b (take n records) in
    ap (take (length front)) (ap (text_after b) (sym (take-append-drop n records)) ∙ after_append b (take n records) (drop n records))
    ∙ take-append_seam front (text_from b.number (length front) (drop n records))

pub after_shorter : (b : Beginning) (records : List (List ℕ)) (n : ℕ) → length (text_after b (take n records)) ≤ length (text_after b records)
after_shorter b records n = omega (arith, ap length (after_front b records n), length-take (length (text_after b (take n records))) (text_after b records))

-- An image that begins with the text of the first records keeps them.
pub keeps_prefix : (b : Beginning) (records : List (List ℕ)) (safe : ℕ) (image : List ℕ) → safe ≤ length records → BeginsWith (text_after b (take safe records)) image → KeepsPrefix b records safe image
keeps_prefix b records safe image some begins =
    let whole : (kept : List (List ℕ)) → SpellsWhole b.number b.kept kept → SpellsWhole b.number (text_after b records) (kept ++ records) = λ kept spells. spells_on b.number b.kept kept records spells in
    let front : (kept : List (List ℕ)) → SpellsWhole b.number b.kept kept → SpellsWhole b.number (text_after b (take safe records)) (kept ++ take safe records) = λ kept spells. spells_on b.number b.kept kept (take safe records) spells in
    record {
      recovered = λ kept spells are none r is.
          let prefix : map logged_bytes r.batches ≡ take (length r.batches) (kept ++ records) = recovers_front b.number image (text_after b records) (kept ++ records) r (whole kept spells) is none in
          let all_safe = holds_synced b.number image (text_after b (take safe records)) (kept ++ take safe records) are.batches r (front kept spells) is begins.0 begins.1 are.same are.each are.rising in
          record {
            many = length r.batches;
            some = omega (arith, ap length prefix, length_map logged_bytes r.batches, length-take (length r.batches) (kept ++ records));
            same = prefix;
            enough = omega (arith, all_safe, ap length are.same, length_map logged_bytes are.batches, length-append kept (take safe records), length-take safe records, some);
          };
      read = λ kept spells none found is.
          let prefix : found ≡ take (length found) (kept ++ records) = reads_front b.number image (text_after b records) is.kept found (kept ++ records) (whole kept spells) is.within is.spelled none in
          let all_safe = reads_synced b.number image (text_after b (take safe records)) (kept ++ take safe records) found (front kept spells) is begins.0 begins.1 in
          record {
            many = length found;
            some = omega (arith, ap length prefix, length-take (length found) (kept ++ records));
            same = prefix;
            enough = omega (arith, all_safe, length-append kept (take safe records), length-take safe records, some);
          };
    }

-- an image that keeps the safe bytes has each prefix of them
pub front_kept : (d : Disk) (image : List ℕ) (n : ℕ) → n ≤ safe_len d → KeepsSafe d image → take n image ≡ take n d.content
front_kept d image n le keeps = sym (take-take n (safe_len d) image le) ∙ (ap (take n) keeps.front ∙ take-take n (safe_len d) d.content le)

-- an image that has the bytes which were safe keeps the records which were safe, whatever was to be written after them
pub holds_keeps : (b : Beginning) (d : Disk) (records more : List (List ℕ)) (safe : ℕ) (image : List ℕ) → HoldsRecords b d records safe → KeepsSafe d image → KeepsPrefix b (records ++ more) safe image
holds_keeps b d records more safe image holds keeps =
    let t : List ℕ = text_after b (take safe records) in
    let n : ℕ = length t in
    let same : take safe (records ++ more) ≡ take safe records = take-append-le safe records more holds.some in
    let below : n ≤ d.place = omega (arith, after_shorter b records safe, ap length holds.content, length-take d.place d.content) in
    let within : n ≤ safe_len d = omega (arith, below, holds.synced) in
    let front : take n image ≡ t = front_kept d image n within keeps ∙ (sym (take-take n d.place d.content below) ∙ (ap (take n) holds.content ∙ after_front b records safe)) in
    keeps_prefix b (records ++ more) safe image (omega (arith, holds.some, length-append records more))
    (subst (λ (l : List (List ℕ)). BeginsWith (text_after b l) image) (sym same) (omega (arith, within, keeps.no_shorter), front))

-- where all the content is safe, it is the only image
pub only_image : (d : Disk) (image : List ℕ) → IsAllSafe d → IsImage d image → image ≡ d.content
only_image d image all is =
    sym (take_all d.synced image (omega (arith, is.no_longer, all.reach, all.synced)))
    ∙ (is.synced ∙ take_all d.synced d.content (omega (arith, all.synced)))

pub all_safe_of : (sync : Bool) (before after : Disk) → IsTrue sync → IsSynced sync before after → IsAllSafe after
all_safe_of true before after asked synced = synced
all_safe_of false before after asked synced = absurd (cc)

-- An image that begins with the whole text keeps each record. So does every image once a record was put after others
-- and synced.
pub durable : (told now : Option Disk) (number : Option ℕ) (len : ℕ) (r : List ℕ) (sync : Bool) → IfSome told IsDisk → IsTrue sync → IfSome told (λ d. d.place ≡ len) → Told told now (λ x y. StandPut x y (record_text number len r) sync)
    → IfSome told (λ d. (b : Beginning) (records : List (List ℕ)) → b.number ≡ number → take d.place d.content ≡ text_after b records
    → IfSome now (λ e. (image : List ℕ) → IsImage e image → KeepsPrefix b (records ++ r ∷ []) (length records + 1) image))
durable None now number len r sync is asked len_is put = tt
durable (Some x) None number len r sync is asked len_is put = absurd put
durable (Some x) (Some y) number len r sync is asked len_is put = λ b records same whole image left.
    let bytes : List ℕ = record_text number len r in
    let all : List (List ℕ) = records ++ r ∷ [] in
    let at : len ≡ length (text_after b records) = omega (arith, len_is, ap length whole, length-take x.place x.content, is.placed) in
    let text_is : text_after b all ≡ take x.place x.content ++ bytes =
    after_more b records r ∙ (ap (λ (n : ℕ). text_after b records ++ record_text b.number n r) (sym at) ∙ (ap (λ (m : Option ℕ). text_after b records ++ record_text m len r) same ∙ ap (λ (l : List ℕ). l ++ bytes) (sym whole))) in
    let there : take (x.place + length bytes) y.content ≡ text_after b all = ap (take (x.place + length bytes)) put.content ∙ (put_there x.place bytes x.content is.placed ∙ sym text_is) in
    let len_of_text : length (text_after b all) ≡ x.place + length bytes = omega (arith, ap length text_is, length-append (take x.place x.content) bytes, length-take x.place x.content, is.placed) in
    let image_is : image ≡ y.content = only_image y image (all_safe_of sync x y asked put.synced) left in
    let every : take (length records + 1) all ≡ all = take_all (length records + 1) all (omega (arith, length-append records (r ∷ []))) in
    keeps_prefix b all (length records + 1) image (omega (arith, length-append records (r ∷ [])))
    (subst (λ (l : List (List ℕ)). BeginsWith (text_after b l) image) (sym every) (
      omega (arith, len_of_text, ap length image_is, ap length there, length-take (x.place + length bytes) y.content),
      ap (λ (n : ℕ). take n image) len_of_text ∙ (ap (take (x.place + length bytes)) image_is ∙ there),
    ))

-- once bytes are put, the log's length is still the disk's place
pub len_more : (told now : Option Disk) (len end : ℕ) (bytes : List ℕ) (sync : Bool) → IfSome told (λ d. d.place ≡ len) → Told told now (λ x y. StandPut x y bytes sync) → end ≡ len + length bytes → IfSome now (λ d. d.place ≡ end)
len_more None None len end bytes sync len_is put end_is = tt
len_more None (Some y) len end bytes sync len_is put end_is = absurd put
len_more (Some x) None len end bytes sync len_is put end_is = tt
len_more (Some x) (Some y) len end bytes sync len_is put end_is = omega (arith, len_is, put.place, end_is)

-- what a crash may leave during a call has what was safe
pub left_safe : (told : Option Disk) (more : ℕ) (image : List ℕ) → MayBeLeft told more image → KeepsWhatWasSafe told image
left_safe None more image left = tt
left_safe (Some d) more image left = left.safe

pub leaves_safe : {D : Type 0} (moment from : D → ℕ) (since : D → ℕ → List ℕ → Type 0) (told : Option Disk) (more : ℕ) (a b : D) → LeavesOnly moment from since a b (MayBeLeft told more) → LeavesOnly moment from since a b (KeepsWhatWasSafe told)
leaves_safe moment from since told more a b leaves = leaves_so moment from since (MayBeLeft told more) (KeepsWhatWasSafe told) a b leaves (left_safe told more)

pub crash_keeps : {D : Type 0} (moment from : D → ℕ) (since : D → ℕ → List ℕ → Type 0) (told : Option Disk) (old new : D) (more : List (List ℕ)) → LeavesOnly moment from since old new (KeepsWhatWasSafe told)
    → IfSome told (λ d. (b : Beginning) (records : List (List ℕ)) (safe : ℕ) → HoldsRecords b d records safe → LeavesOnly moment from since old new (KeepsPrefix b (records ++ more) safe))
crash_keeps moment from since None old new more leaves = tt
crash_keeps moment from since (Some d) old new more leaves = λ b records safe holds.
    leaves_so moment from since (KeepsSafe d) (KeepsPrefix b (records ++ more) safe) old new leaves (λ image keeps. holds_keeps b d records more safe image holds keeps)

-- where nothing is done, what a crash may leave has what was safe
pub image_keeps : (told : Option Disk) (image : List ℕ) → IfSome told (λ d. IsImage d image) → KeepsWhatWasSafe told image
image_keeps None image is = tt
image_keeps (Some d) image is = keeps_image d image is

pub leaves_same : {D : Type 0} (ghosts : Ghosts D) (a : D) → ((image : List ℕ) → ghosts.from a ≤ ghosts.moment a → ghosts.since a (ghosts.moment a) image → IfSome (ghosts.told a) (λ d. IsImage d image))
    → LeavesOnly ghosts.moment ghosts.from ghosts.since a a (KeepsWhatWasSafe (ghosts.told a))
leaves_same ghosts a only =
    leaves_so ghosts.moment ghosts.from ghosts.since (λ image. IfSome (ghosts.told a) (λ d. IsImage d image)) (KeepsWhatWasSafe (ghosts.told a)) a a (leaves_now ghosts a only) (image_keeps (ghosts.told a))
