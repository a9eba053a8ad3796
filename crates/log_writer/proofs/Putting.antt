-- Bytes put at the place of a disk, and more bytes after them.
use Rattle.std.proofs.Common.{◌≡◌, inl, inr, ⊎_elim, ℕ, ◌+◌, ◌≤◌, Bool, true, false, List, [], ◌++◌, length, take, drop, Option, Some, None, Result, Ok, Err, MatchResult, IfSome, refl, sym, ◌∙◌, ap, subst, arith, append_assoc, length-append, length-take, add-zero}
use Rattle.std.proofs.Math.Seq.{take-take, take-append_seam, drop-append-add}
use lib.Seq.{take-append-add}
use Rattle.std.proofs.lemmas.List.{take-append-le, take-append-drop, drop-drop, append-nil}
use Rattle.std.specs.Result.{IsErr}
use Rattle.base_devices.specs.Disk.{Disk, IsDisk, IsImage, put_at, Appended, GrowsBy, Synced, Told, TimePasses, LeavesOnly}
use Rattle.base_devices.specs.Faults.{HasCause}
use Rattle.base_devices.specs.declared.disk.Disk.{Ghosts}
use Rattle.log_writer.specs.Crashes.{safe_len, KeepsSafe, reach_with, MayBeLeft}
use Rattle.log_writer.specs.Puts.{IsSynced, StandPut, StaysInFront, IsPutInPart, ArePut, Puts}

-- what relates the first of three disks to the last, from what relates the first to the second, and that to the last
pub told_more : {R S Q : Disk → Disk → Type 0} (a b c : Option Disk) → Told a b R → Told b c S → ((x y z : Disk) → R x y → S y z → Q x z) → Told a c Q
told_more None None None r s f = tt
told_more None None (Some z) r s f = absurd s
told_more None (Some y) c r s f = absurd r
told_more (Some x) None c r s f = absurd r
told_more (Some x) (Some y) None r s f = absurd s
told_more (Some x) (Some y) (Some z) r s f = f x y z r s

pub told_so : {R Q : Disk → Disk → Type 0} (a b : Option Disk) → Told a b R → ((x y : Disk) → R x y → Q x y) → Told a b Q
told_so None None r f = tt
told_so None (Some y) r f = absurd r
told_so (Some x) None r f = absurd r
told_so (Some x) (Some y) r f = f x y r

-- what a crash leaves during two steps
pub leaves_more : {D : Type 0} (moment from : D → ℕ) (since : D → ℕ → List ℕ → Type 0) (P Q : List ℕ → Type 0) (a b c : D) → LeavesOnly moment from since a b P → LeavesOnly moment from since b c Q
    → ((image : List ℕ) → Q image → P image) → LeavesOnly moment from since a c P
leaves_more moment from since P Q a b c first second to =
    let in_order : (moment a ≤ moment c) × (from a ≤ from c) = (omega (arith, first.later, second.later), omega (arith, first.forgets, second.forgets)) in
    record {
      later = in_order.0;
      forgets = in_order.1;
      each = λ image told s. ⊎_elim (λ earlier. first.each image (omega (arith, told, second.forgets)) earlier) (to image) (second.before (moment a) image told first.later s);
      before = λ t image told le s. ⊎_elim (λ earlier. first.before t image (omega (arith, told, second.forgets)) le earlier) (λ q. inr (to image q)) (second.before t image told (omega (arith, le, first.later)) s);
    }

-- what a crash leaves, with a weaker claim about its images
pub leaves_so : {D : Type 0} (moment from : D → ℕ) (since : D → ℕ → List ℕ → Type 0) (P Q : List ℕ → Type 0) (a b : D) → LeavesOnly moment from since a b P → ((image : List ℕ) → P image → Q image) → LeavesOnly moment from since a b Q
leaves_so moment from since P Q a b leaves to = record {
  later = leaves.later;
  forgets = leaves.forgets;
  each = λ image told s. to image (leaves.each image told s);
  before = λ t image told le s. ⊎_elim (λ earlier. inl earlier) (λ p. inr (to image p)) (leaves.before t image told le s);
}

-- where nothing is done, a crash leaves an image of the disk as it is now
pub leaves_now : {D : Type 0} (ghosts : Ghosts D) (a : D) → ((image : List ℕ) → ghosts.from a ≤ ghosts.moment a → ghosts.since a (ghosts.moment a) image → IfSome (ghosts.told a) (λ d. IsImage d image))
    → LeavesOnly ghosts.moment ghosts.from ghosts.since a a (λ image. IfSome (ghosts.told a) (λ d. IsImage d image))
leaves_now ghosts a only = record { later = omega arith; forgets = omega arith; each = λ image known s. only image known s; before = λ t image known le s. inl s }

-- what a crash leaves during one call, from what the disk tells of its time
pub leaves_time : {D : Type 0} (ghosts : Ghosts D) (a b : D) (P : List ℕ → Type 0) → ((image : List ℕ) → ghosts.from a ≤ ghosts.moment a → ghosts.since a (ghosts.moment a) image → IfSome (ghosts.told a) (λ d. IsImage d image))
    → TimePasses ghosts.told ghosts.moment ghosts.from ghosts.since a b → ((image : List ℕ) → IfSome (ghosts.told a) (λ d. IsImage d image) → P image)
    → ((image : List ℕ) → IfSome (ghosts.told b) (λ d. IsImage d image) → P image) → LeavesOnly ghosts.moment ghosts.from ghosts.since a b P
leaves_time ghosts a b P only time of_old of_new = record {
  later = time.later;
  forgets = time.forgets;
  each = λ image known s. ⊎_elim (λ past. of_old image (only image (omega (arith, known, time.forgets)) past)) (λ is. of_new image is) (time.nothing_else (ghosts.moment a) image known (omega arith) s);
  before = λ t image known le s. ⊎_elim (λ past. inl past) (λ is. inr (of_new image is)) (time.nothing_else t image known le s);
}

-- Bytes put over other bytes.

-- what is in front of the place stays
pub put_front : (n place : ℕ) (bytes content : List ℕ) → n ≤ place → place ≤ length content → take n (put_at place bytes content) ≡ take n content
put_front n place bytes content le within =
    let front : List ℕ = take place content in
    let there : n ≤ length front = omega (arith, length-take place content, le, within) in
    take-append-le n (front ++ bytes) (drop (place + length bytes) content) (omega (arith, there, length-append front bytes)) ∙ (take-append-le n front bytes there ∙ take-take n place content le)

pub put_len : (place : ℕ) (bytes content : List ℕ) → place ≤ length content → place + length bytes ≤ length (put_at place bytes content)
put_len place bytes content within =
    omega (arith, length-append (take place content ++ bytes) (drop (place + length bytes) content), length-append (take place content) bytes, length-take place content, within)

-- up to their end the content is what was in front of the place, and then the bytes
pub put_there : (place : ℕ) (bytes content : List ℕ) → place ≤ length content → take (place + length bytes) (put_at place bytes content) ≡ take place content ++ bytes
put_there place bytes content within =
    let front : List ℕ = take place content in
    let len : place + length bytes ≡ length (front ++ bytes) = omega (arith, length-append front bytes, length-take place content, within) in
    ap (λ (n : ℕ). take n (put_at place bytes content)) len ∙ take-append_seam (front ++ bytes) (drop (place + length bytes) content)

-- and after them is what was there
pub put_behind : (place more : ℕ) (bytes content : List ℕ) → place ≤ length content → drop (place + length bytes + more) (put_at place bytes content) ≡ drop (place + length bytes + more) content
put_behind place more bytes content within =
    let front : List ℕ = take place content in
    let rest : List ℕ = drop (place + length bytes) content in
    let len : place + length bytes + more ≡ length (front ++ bytes) + more = omega (arith, length-append front bytes, length-take place content, within) in
    ap (λ (n : ℕ). drop n (put_at place bytes content)) len ∙ (drop-append-add (front ++ bytes) rest more ∙ drop-drop more (place + length bytes) content)

pub put_more : (place : ℕ) (xs ys content : List ℕ) → place ≤ length content → put_at (place + length xs) ys (put_at place xs content) ≡ put_at place (xs ++ ys) content
put_more place xs ys content within =
    let front : List ℕ = take place content in
    let later : List ℕ = drop (place + length (xs ++ ys)) content in
    let behind : drop (place + length xs + length ys) (put_at place xs content) ≡ later = put_behind place (length ys) xs content within ∙ ap (λ (n : ℕ). drop n content) (omega (arith, length-append xs ys)) in
    ap (λ (l : List ℕ). (l ++ ys) ++ drop (place + length xs + length ys) (put_at place xs content)) (put_there place xs content within)
    ∙ (ap (λ (l : List ℕ). ((front ++ xs) ++ ys) ++ l) behind ∙ ap (λ (l : List ℕ). l ++ later) (append_assoc front xs ys))

put_nothing : (place : ℕ) (content : List ℕ) → put_at place [] content ≡ content
put_nothing place content =
    ap (λ (l : List ℕ). l ++ drop (place + 0) content) (append-nil (take place content)) ∙ (ap (λ (n : ℕ). take place content ++ drop n content) (add-zero place) ∙ take-append-drop place content)

-- Where two steps leave what is in front of the place, and as much of it safe, both together do.
pub stays_more : (x y z : Disk) → StaysInFront x y → StaysInFront y z → StaysInFront x z
stays_more x y z first second =
    let le : x.place ≤ y.place = first.place in
    record {
      content = sym (take-take x.place y.place z.content le) ∙ (ap (take x.place) second.content ∙ (take-take x.place y.place y.content le ∙ first.content));
      place = omega (arith, first.place, second.place);
      synced = omega (arith, first.place, first.synced, second.synced);
    }

pub stays_self : (x : Disk) → StaysInFront x x
stays_self x = record { content = refl; place = omega arith; synced = omega arith }

pub put_stays : (x y : Disk) (bytes : List ℕ) (sync : Bool) → IsDisk x → StandPut x y bytes sync → StaysInFront x y
put_stays x y bytes sync is put = record {
  content = ap (take x.place) put.content ∙ put_front x.place x.place bytes x.content (omega arith) is.placed;
  place = omega (arith, put.place);
  synced = by_sync sync put.synced;
}
  where
    by_sync : (sync : Bool) → IsSynced sync x y → safe_len x ≤ y.synced
    by_sync true all = omega (arith, all.synced, ap length put.content, put_len x.place bytes x.content is.placed)
    by_sync false safe = safe

-- so an image that keeps what is safe after a step keeps what was safe before it
pub keeps_before : (x y : Disk) (image : List ℕ) → StaysInFront x y → KeepsSafe y image → KeepsSafe x image
keeps_before x y image stays keeps =
    let n : ℕ = safe_len x in
    let m : ℕ = safe_len y in
    let le : n ≤ m = omega (arith, stays.place, stays.synced) in
    let below : n ≤ x.place = omega arith in
    record {
      front = sym (take-take n m image le) ∙ (ap (take n) keeps.front ∙ (take-take n m y.content le ∙ (sym (take-take n x.place y.content below) ∙ (ap (take n) stays.content ∙ take-take n x.place x.content below))));
      no_shorter = omega (arith, le, keeps.no_shorter);
    }

pub keeps_image : (d : Disk) (image : List ℕ) → IsImage d image → KeepsSafe d image
keeps_image d image is =
    let le : safe_len d ≤ d.synced = omega arith in
    record {
      front = sym (take-take (safe_len d) d.synced image le) ∙ (ap (take (safe_len d)) is.synced ∙ take-take (safe_len d) d.synced d.content le);
      no_shorter = omega (arith, is.no_shorter);
    }

-- Bytes put after other bytes.

-- the reach grows by the bytes that are put after the others
reach_more : (x y : Disk) (xs ys : List ℕ) → y.place ≡ x.place + length xs → y.reach ≤ reach_with x (length xs) → reach_with y (length ys) ≤ reach_with x (length (xs ++ ys))
reach_more x y xs ys place reached = omega (arith, reached, place, length-append xs ys)

left_more : (a b : Option Disk) (xs ys image : List ℕ) → IfSome a IsDisk → Told a b (λ x y. StandPut x y xs false) → Told a b (λ x y. y.reach ≤ reach_with x (length xs))
    → MayBeLeft b (length ys) image → MayBeLeft a (length (xs ++ ys)) image
left_more None b xs ys image is told reached left = tt
left_more (Some x) None xs ys image is told reached left = absurd told
left_more (Some x) (Some y) xs ys image is told reached left = record {
  safe = keeps_before x y image (put_stays x y xs false is told) left.safe;
  no_longer = omega (arith, left.no_longer, reach_more x y xs ys told.place reached);
}

-- what may be left while some bytes are put may be left while more are put
left_of_more : (a : Option Disk) (few many : ℕ) (image : List ℕ) → few ≤ many → MayBeLeft a few image → MayBeLeft a many image
left_of_more None few many image le left = tt
left_of_more (Some x) few many image le left = record { safe = left.safe; no_longer = omega (arith, left.no_longer, le) }

both_told : {R S Q : Disk → Disk → Type 0} (a b : Option Disk) → Told a b R → Told a b S → ((x y : Disk) → R x y → S x y → Q x y) → Told a b Q
both_told None None r s f = tt
both_told None (Some y) r s f = absurd r
both_told (Some x) None r s f = absurd r
both_told (Some x) (Some y) r s f = f x y r s

-- what relates two disks, where it is known of the first that it is a disk
pub told_is : {R Q : Disk → Disk → Type 0} (a b : Option Disk) → IfSome a IsDisk → Told a b R → ((x y : Disk) → IsDisk x → R x y → Q x y) → Told a b Q
told_is None None is r f = tt
told_is None (Some y) is r f = absurd r
told_is (Some x) None is r f = absurd r
told_is (Some x) (Some y) is r f = f x y is r

reached_more : (a b c : Option Disk) (xs ys : List ℕ) → Told a b (λ x y. StandPut x y xs false) → Told a b (λ x y. y.reach ≤ reach_with x (length xs))
    → Told b c (λ y z. z.reach ≤ reach_with y (length ys)) → Told a c (λ x z. z.reach ≤ reach_with x (length (xs ++ ys)))
reached_more a b c xs ys put first second =
    let R : Disk → Disk → Type 0 = λ x y. (y.place ≡ x.place + length xs) × (y.reach ≤ reach_with x (length xs)) in
    told_more {R = R} a b c (both_told {Q = R} a b put first (λ x y p r. (p.place, r))) second (λ x y z p r. let more = reach_more x y xs ys p.0 p.1 in omega (arith, r, more))

-- two pieces put one after the other are put as one
more_put : {T E : Type 0} (x y z : Disk) (xs ys : List ℕ) (sync : Bool) (r : Result T E) → IsDisk x → StandPut x y xs false → ArePut y z ys sync r → ArePut x z (xs ++ ys) sync r
more_put x y z xs ys sync (Ok t) is first second = record {
  content = second.content
      ∙ (ap (λ (n : ℕ). put_at n ys y.content) first.place ∙ (ap (put_at (x.place + length xs) ys) first.content ∙ put_more x.place xs ys x.content is.placed));
  place = omega (arith, first.place, second.place, length-append xs ys);
  synced = by_sync sync second.synced;
}
  where
    by_sync : (sync : Bool) → IsSynced sync y z → IsSynced sync x z
    by_sync true all = all
    by_sync false safe = omega (arith, safe, first.place, first.synced)
more_put x y z xs ys sync (Err e) is first second = record {
  stays = stays_more x y z (put_stays x y xs false is first) second.stays;
  some = length xs + second.some;
  few = omega (arith, second.few, length-append xs ys);
  moved = omega (arith, first.place, second.moved);
  part =
      let front : List ℕ = take x.place x.content in
      let there : take y.place y.content ≡ front ++ xs = ap (take y.place) first.content ∙ (ap (λ (n : ℕ). take n (put_at x.place xs x.content)) first.place ∙ put_there x.place xs x.content is.placed) in
      second.part ∙ (ap (λ (l : List ℕ). l ++ take second.some ys) there ∙ (append_assoc front xs (take second.some ys) ∙ ap (λ (l : List ℕ). front ++ l) (sym (take-append-add xs ys second.some))));
}

-- so is some of the bytes and more
more_part : (x y : Disk) (xs ys : List ℕ) → IsPutInPart x y xs → IsPutInPart x y (xs ++ ys)
more_part x y xs ys put = record {
  stays = put.stays;
  some = put.some;
  few = omega (arith, put.few, length-append xs ys);
  moved = put.moved;
  part = put.part ∙ ap (λ (l : List ℕ). take x.place x.content ++ l) (sym (take-append-le put.some xs ys put.few));
}

-- where nothing is put, and the place stays
none_put : (x y : Disk) (bytes : List ℕ) → StaysInFront x y → y.place ≡ x.place → IsPutInPart x y bytes
none_put x y bytes stays same = record {
  stays = stays;
  some = 0;
  few = omega arith;
  moved = omega (arith, same);
  part = ap (λ (n : ℕ). take n y.content) same ∙ (stays.content ∙ sym (append-nil (take x.place x.content)));
}

more_counted : {T E : Type 0} (added_a added_b added_c : ℕ) (xs ys : List ℕ) (r : Result T E) → added_b ≡ added_a + length xs
    → MatchResult r (λ _. added_c ≡ added_b + length ys) (λ _. added_b ≤ added_c) → MatchResult r (λ _. added_c ≡ added_a + length (xs ++ ys)) (λ _. added_a ≤ added_c)
more_counted added_a added_b added_c xs ys (Ok t) first second = omega (arith, first, second, length-append xs ys)
more_counted added_a added_b added_c xs ys (Err e) first second = omega (arith, first, second)

pub more_cause : {S T E : Type 0} (a b c : ℕ) (s : S) (r : Result T E) → HasCause {T = S} {E = E} a b (Ok s) → HasCause b c r → HasCause a c r
more_cause a b c s (Ok t) first second = record { later = omega (arith, first.later, second.later); once = omega (arith, first.worked, second.worked); failed = tt; worked = second.worked ∙ first.worked }
more_cause a b c s (Err e) first second = record { later = omega (arith, first.later, second.later); once = omega (arith, first.worked, second.once); failed = omega (arith, first.later, second.failed); worked = tt }

pub puts_more : {D S T E : Type 0} (ghosts : Ghosts D) (a b c : D) (xs ys : List ℕ) (sync : Bool) (s : S) (r : Result T E) → IfSome (ghosts.told a) IsDisk
    → Puts {T = S} {E = E} ghosts a b xs false (Ok s) → Puts ghosts b c ys sync r → Puts ghosts a c (xs ++ ys) sync r
puts_more ghosts a b c xs ys sync s r is first second = record {
  are_put =
      let R : Disk → Disk → Type 0 = λ x y. IsDisk x × StandPut x y xs false in
      told_more {R = R} (ghosts.told a) (ghosts.told b) (ghosts.told c) (told_is {Q = R} (ghosts.told a) (ghosts.told b) is first.are_put (λ x y d p. (d, p))) second.are_put (λ x y z p q. more_put x y z xs ys sync r p.0 p.1 q);
  counted = more_counted (ghosts.added a) (ghosts.added b) (ghosts.added c) xs ys r first.counted second.counted;
  cause = more_cause (ghosts.faults a) (ghosts.faults b) (ghosts.faults c) s r first.cause second.cause;
  reached = reached_more (ghosts.told a) (ghosts.told b) (ghosts.told c) xs ys first.are_put first.reached second.reached;
  crash =
      let P : List ℕ → Type 0 = MayBeLeft (ghosts.told a) (length (xs ++ ys)) in
      leaves_more ghosts.moment ghosts.from ghosts.since P (MayBeLeft (ghosts.told b) (length ys)) a b c
      (leaves_so ghosts.moment ghosts.from ghosts.since (MayBeLeft (ghosts.told a) (length xs)) P a b first.crash (λ image left. left_of_more (ghosts.told a) (length xs) (length (xs ++ ys)) image (omega (arith, length-append xs ys)) left))
      second.crash
      (λ image left. left_more (ghosts.told a) (ghosts.told b) xs ys image is first.are_put first.reached left);
}

-- where putting some bytes failed, putting these and more has failed too
pub puts_cut : {D T U E F : Type 0} (ghosts : Ghosts D) (a b : D) (xs ys : List ℕ) (sync : Bool) (e : E) (r : Result U F) → IsErr r → Puts {T = T} ghosts a b xs false (Err e) → Puts ghosts a b (xs ++ ys) sync r
puts_cut ghosts a b xs ys sync e (Ok t) failed first = absurd (cc)
puts_cut ghosts a b xs ys sync e (Err f) failed first = record {
  are_put = told_so (ghosts.told a) (ghosts.told b) first.are_put (λ x y p. more_part x y xs ys p);
  counted = first.counted;
  cause = record { later = (first.cause).later; once = (first.cause).once; failed = (first.cause).failed; worked = tt };
  reached = told_so (ghosts.told a) (ghosts.told b) first.reached (λ x y r. omega (arith, r, length-append xs ys));
  crash = leaves_so ghosts.moment ghosts.from ghosts.since (MayBeLeft (ghosts.told a) (length xs)) (MayBeLeft (ghosts.told a) (length (xs ++ ys))) a b first.crash
      (λ image left. left_of_more (ghosts.told a) (length xs) (length (xs ++ ys)) image (omega (arith, length-append xs ys)) left);
}

told_self : (a : Option Disk) (R : Disk → Disk → Type 0) → ((x : Disk) → R x x) → Told a a R
told_self None R r = tt
told_self (Some x) R r = r x

left_now : (told : Option Disk) (image : List ℕ) → IfSome told (λ d. IsImage d image) → MayBeLeft told 0 image
left_now None image is = tt
left_now (Some d) image is = record { safe = keeps_image d image is; no_longer = omega (arith, is.no_longer) }

-- where nothing is done, no bytes are put
pub puts_none : {D E : Type 0} (ghosts : Ghosts D) (a : D) → ((image : List ℕ) → ghosts.from a ≤ ghosts.moment a → ghosts.since a (ghosts.moment a) image → IfSome (ghosts.told a) (λ d. IsImage d image))
    → Puts {T = Unit {0}} {E = E} ghosts a a [] false (Ok tt)
puts_none {E = E} ghosts a only = record {
  are_put = told_self (ghosts.told a) (λ x y. ArePut {T = Unit {0}} {E = E} x y [] false (Ok tt)) (λ x. record { content = sym (put_nothing x.place x.content); place = sym (add-zero x.place); synced = omega arith });
  counted = omega arith;
  cause = record { later = omega arith; once = omega arith; failed = tt; worked = refl };
  reached = told_self (ghosts.told a) (λ x y. y.reach ≤ reach_with x 0) (λ x. omega arith);
  crash = leaves_so ghosts.moment ghosts.from ghosts.since (λ image. IfSome (ghosts.told a) (λ d. IsImage d image)) (MayBeLeft (ghosts.told a) 0) a a (leaves_now ghosts a only) (left_now (ghosts.told a));
}

-- another answer of the same kind says the same
pub puts_ok : {D T U E F : Type 0} (ghosts : Ghosts D) (a b : D) (xs : List ℕ) (sync : Bool) (t : T) (u : U) → Puts {E = E} ghosts a b xs sync (Ok t) → Puts {E = F} ghosts a b xs sync (Ok u)
puts_ok ghosts a b xs sync t u first = record { are_put = first.are_put; counted = first.counted; cause = record { later = (first.cause).later; once = (first.cause).once; failed = tt; worked = (first.cause).worked }; reached = first.reached; crash = first.crash }

pub puts_err : {D T U E F : Type 0} (ghosts : Ghosts D) (a b : D) (xs : List ℕ) (some all : Bool) (e : E) (r : Result U F) → IsErr r → Puts {T = T} ghosts a b xs some (Err e) → Puts ghosts a b xs all r
puts_err ghosts a b xs some all e (Ok t) failed first = absurd (cc)
puts_err ghosts a b xs some all e (Err f) failed first = record { are_put = first.are_put; counted = first.counted; cause = record { later = (first.cause).later; once = (first.cause).once; failed = (first.cause).failed; worked = tt }; reached = first.reached; crash = first.crash }

-- a sync after the bytes
pub puts_synced : {D S T E : Type 0} (ghosts : Ghosts D) (a b c : D) (xs : List ℕ) (sync : Bool) (s : S) (r : Result T E) → IfSome (ghosts.told a) IsDisk
    → Puts {T = S} {E = E} ghosts a b xs false (Ok s) → Puts ghosts b c [] sync r → Puts ghosts a c xs sync r
puts_synced ghosts a b c xs sync s r is first second = subst (λ (l : List ℕ). Puts ghosts a c l sync r) (append-nil xs) (puts_more ghosts a b c xs [] sync s r is first second)

-- One call of the disk.

-- an append puts its bytes
appended_put : {T E : Type 0} (x y : Disk) (bytes : List ℕ) (r : Result T E) → Appended x y bytes r → ArePut x y bytes false r
appended_put x y bytes (Ok t) app = record { content = app.content; place = app.place; synced = omega (arith, app.synced) }
appended_put x y bytes (Err e) app = let same : y.place ≡ x.place = app.place in none_put x y bytes (record { content = app.content; place = omega (arith, same); synced = omega (arith, app.synced) }) same

appended_stays : {T E : Type 0} (x y : Disk) (bytes : List ℕ) (r : Result T E) → IsDisk x → Appended x y bytes r → StaysInFront x y
appended_stays {E = E} x y bytes (Ok t) is app = put_stays x y bytes false is (appended_put {E = E} x y bytes (Ok t) app)
appended_stays {T = T} x y bytes (Err e) is app = let put : IsPutInPart x y bytes = appended_put {T = T} x y bytes (Err e) app in put.stays

appended_left : {T E : Type 0} (a b : Option Disk) (bytes : List ℕ) (r : Result T E) (image : List ℕ) → IfSome a IsDisk → Told a b (λ x y. Appended x y bytes r) → IfSome b (λ d. IsImage d image) → MayBeLeft a (length bytes) image
appended_left None b bytes r image is app of_new = tt
appended_left (Some x) None bytes r image is app of_new = absurd app
appended_left (Some x) (Some y) bytes r image is app of_new = record {
  safe = keeps_before x y image (appended_stays x y bytes r is app) (keeps_image y image of_new);
  no_longer = omega (arith, of_new.no_longer, app.reach);
}

appended_counted : {T E : Type 0} (before now more : ℕ) (r : Result T E) → GrowsBy before now more r → MatchResult r (λ _. now ≡ before + more) (λ _. before ≤ now)
appended_counted before now more (Ok t) grows = grows
appended_counted before now more (Err e) grows = let same : now ≡ before = grows in omega (arith, same)

pub append_puts : {D T E : Type 0} (ghosts : Ghosts D) (a b : D) (bytes : List ℕ) (r : Result T E) → IfSome (ghosts.told a) IsDisk
    → ((image : List ℕ) → ghosts.from a ≤ ghosts.moment a → ghosts.since a (ghosts.moment a) image → IfSome (ghosts.told a) (λ d. IsImage d image))
    → Told (ghosts.told a) (ghosts.told b) (λ x y. Appended x y bytes r) → GrowsBy (ghosts.added a) (ghosts.added b) (length bytes) r → TimePasses ghosts.told ghosts.moment ghosts.from ghosts.since a b
    → HasCause (ghosts.faults a) (ghosts.faults b) r → Puts ghosts a b bytes false r
append_puts ghosts a b bytes r is only app grows time cause = record {
  are_put = told_so (ghosts.told a) (ghosts.told b) app (λ x y p. appended_put x y bytes r p);
  counted = appended_counted (ghosts.added a) (ghosts.added b) (length bytes) r grows;
  cause = cause;
  reached = told_so (ghosts.told a) (ghosts.told b) app (λ x y p. omega (arith, p.reach));
  crash = leaves_time ghosts a b (MayBeLeft (ghosts.told a) (length bytes)) only time
      (λ image of_old. left_of_more (ghosts.told a) 0 (length bytes) image (omega arith) (left_now (ghosts.told a) image of_old))
      (λ image of_new. appended_left (ghosts.told a) (ghosts.told b) bytes r image is app of_new);
}

-- a sync puts nothing, and makes all safe
synced_put : {T E : Type 0} (x y : Disk) (r : Result T E) → Synced x y r → ArePut x y [] true r
synced_put x y (Ok t) e = subst (λ (d : Disk). StandPut x d [] true) (sym e) (record {
  content = sym (put_nothing x.place x.content);
  place = sym (add-zero x.place);
  synced = record { synced = refl; reach = refl };
})
synced_put x y (Err f) e = subst (λ (d : Disk). IsPutInPart x d []) (sym e) (none_put x x [] (stays_self x) refl)

synced_stays : {T E : Type 0} (x y : Disk) (r : Result T E) → IsDisk x → Synced x y r → StaysInFront x y
synced_stays {E = E} x y (Ok t) is e = put_stays x y [] true is (synced_put {E = E} x y (Ok t) e)
synced_stays {T = T} x y (Err f) is e = let put : IsPutInPart x y [] = synced_put {T = T} x y (Err f) e in put.stays

synced_reach : {T E : Type 0} (x y : Disk) (r : Result T E) → IsDisk x → Synced x y r → y.reach ≤ reach_with x 0
synced_reach x y (Ok t) is e = let reach : y.reach ≡ length x.content = ap (λ (d : Disk). d.reach) e in omega (arith, reach, is.within)
synced_reach x y (Err f) is e = let reach : y.reach ≡ x.reach = ap (λ (d : Disk). d.reach) e in omega (arith, reach)

synced_left : {T E : Type 0} (a b : Option Disk) (r : Result T E) (image : List ℕ) → IfSome a IsDisk → Told a b (λ x y. Synced x y r) → IfSome b (λ d. IsImage d image) → MayBeLeft a 0 image
synced_left None b r image is e of_new = tt
synced_left (Some x) None r image is e of_new = absurd e
synced_left (Some x) (Some y) r image is e of_new = record {
  safe = keeps_before x y image (synced_stays x y r is e) (keeps_image y image of_new);
  no_longer = omega (arith, of_new.no_longer, synced_reach x y r is e);
}

synced_counted : {T E : Type 0} (before now : ℕ) (r : Result T E) → now ≡ before → MatchResult r (λ _. now ≡ before + 0) (λ _. before ≤ now)
synced_counted before now (Ok t) same = omega (arith, same)
synced_counted before now (Err e) same = omega (arith, same)

pub sync_puts : {D T E : Type 0} (ghosts : Ghosts D) (a b : D) (r : Result T E) → IfSome (ghosts.told a) IsDisk
    → ((image : List ℕ) → ghosts.from a ≤ ghosts.moment a → ghosts.since a (ghosts.moment a) image → IfSome (ghosts.told a) (λ d. IsImage d image))
    → Told (ghosts.told a) (ghosts.told b) (λ x y. Synced x y r) → ghosts.added b ≡ ghosts.added a → TimePasses ghosts.told ghosts.moment ghosts.from ghosts.since a b
    → HasCause (ghosts.faults a) (ghosts.faults b) r → Puts ghosts a b [] true r
sync_puts ghosts a b r is only sync same time cause = record {
  are_put = told_so (ghosts.told a) (ghosts.told b) sync (λ x y p. synced_put x y r p);
  counted = synced_counted (ghosts.added a) (ghosts.added b) r same;
  cause = cause;
  reached = told_is (ghosts.told a) (ghosts.told b) is sync (λ x y d p. synced_reach x y r d p);
  crash = leaves_time ghosts a b (MayBeLeft (ghosts.told a) 0) only time (λ image of_old. left_now (ghosts.told a) image of_old) (λ image of_new. synced_left (ghosts.told a) (ghosts.told b) r image is sync of_new);
}
