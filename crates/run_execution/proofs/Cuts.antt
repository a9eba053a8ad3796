-- Records and groups that are cut into logs, and images that are a front of these.
use Rattle.std.proofs.Common.{◌≡◌, ◌⊎◌, inl, inr, ℕ, zero, suc, ◌+◌, ◌<◌, ◌≤◌, min, List, [], ◌∷◌, ◌++◌, length, take, drop, map, flat_map, replicate, Option, Some, None, refl, sym, ◌∙◌, ap, subst, arith, length-append, append_assoc}
use Rattle.std.proofs.Math.Seq.{take-take, take-length, take-append_seam}
use Rattle.std.proofs.lemmas.Grind.{flat_map-append}
use Rattle.std.proofs.lemmas.List.{append-nil, take-append-le}
use Rattle.std.specs.List.{AllByRecursion}
use Rattle.model_base.specs.Log.{new_log}
use Rattle.model_base.specs.History.{Entry}
use Rattle.model_base.specs.LogContents.{record_of_entries, records_of}
use Rattle.log_laws.specs.Prefixes.{BeginsWith}
use Rattle.log_laws.specs.Fronts.{plain_text, records_in, AreFront, within, whole}
use Rattle.model_runs.specs.Crashes.{with_failed_record}
use Rattle.model_runs.specs.SeveralLogs.{begun_records}
use Rattle.run_execution.proofs.GroupCalls.{begins_first}

-- the length of a plain log with these records
abbrev pub text_len : List (List ℕ) → ℕ
text_len records = length (plain_text records)

pub records_push : (logs : List (List (List ℕ))) (records : List (List ℕ)) → records_in (logs ++ records ∷ []) ≡ records_in logs ++ records
records_push logs records = flat_map-append (λ (r : List (List ℕ)). r) logs (records ∷ []) ∙ ap (λ (l : List (List ℕ)). records_in logs ++ l) (append-nil records)

-- Groups are cut as their records are.

record IsParted (groups : List (List Entry)) (xs ys : List (List ℕ)) : Type 0 where
  front : List (List Entry)
  back : List (List Entry)
  parts : groups ≡ front ++ back
  front_is : records_of front ≡ xs
  back_is : records_of back ≡ ys

part_groups : (xs ys : List (List ℕ)) (groups : List (List Entry)) → records_of groups ≡ xs ++ ys → IsParted groups xs ys
part_groups [] ys groups e = record { front = []; back = groups; parts = refl; front_is = refl; back_is = e }
part_groups (x ∷ xs) ys [] e = absurd (cc)
part_groups (x ∷ xs) ys (g ∷ groups) e =
    let head : record_of_entries g ≡ x = cc in
    let tail : records_of groups ≡ xs ++ ys = cc in
    let p = part_groups xs ys groups tail in
    record {
      front = g ∷ p.front;
      back = p.back;
      parts = λ i. g ∷ p.parts i;
      front_is = λ i. head i ∷ p.front_is i;
      back_is = p.back_is;
    }

-- these groups, log by log, and their records
pub record AreCut (groups : List (List Entry)) (cut : List (List (List ℕ))) : Type 0 where
  pub logs : List (List (List Entry))
  pub all : flat_map (λ (log : List (List Entry)). log) logs ≡ groups
  pub records : map records_of logs ≡ cut

pub cut_groups : (cut : List (List (List ℕ))) (groups : List (List Entry)) → records_of groups ≡ records_in cut → AreCut groups cut
cut_groups [] [] e = record { logs = []; all = refl; records = refl }
cut_groups [] (g ∷ groups) e = absurd (cc)
cut_groups (r ∷ cut) groups e =
    let p = part_groups r (records_in cut) groups e in
    let rest = cut_groups cut p.back p.back_is in
    record {
      logs = p.front ∷ rest.logs;
      all = ap (λ (l : List (List Entry)). p.front ++ l) rest.all ∙ sym p.parts;
      records = λ i. p.front_is i ∷ rest.records i;
    }

-- Logs of which the last one has one more record, which may have failed

abbrev pub begun_of : List (List (List ℕ)) → Option (List ℕ) → ℕ → List (List (List ℕ))
begun_of [] x unused = replicate unused []
begun_of (r ∷ []) x unused = with_failed_record r x ∷ replicate unused []
begun_of (r ∷ next ∷ cut) x unused = r ∷ begun_of (next ∷ cut) x unused

pub begun_is : (logs : List (List (List Entry))) (x : Option (List ℕ)) (unused : ℕ) → begun_records logs x unused ≡ begun_of (map records_of logs) x unused
begun_is [] x unused = refl
begun_is (log ∷ []) x unused = refl
begun_is (log ∷ next ∷ logs) x unused = ap (λ (l : List (List (List ℕ))). records_of log ∷ l) (begun_is (next ∷ logs) x unused)

pub begun_last : (full : List (List (List ℕ))) (own : List (List ℕ)) (x : Option (List ℕ)) (unused : ℕ) → begun_of (full ++ own ∷ []) x unused ≡ full ++ with_failed_record own x ∷ replicate unused []
begun_last [] own x unused = refl
begun_last (r ∷ []) own x unused = refl
begun_last (r ∷ next ∷ full) own x unused = ap (λ (l : List (List (List ℕ))). r ∷ l) (begun_last (next ∷ full) own x unused)

no_records : (unused : ℕ) → records_in (replicate unused []) ≡ []
no_records zero = refl
no_records (suc unused) = no_records unused

pub with_append : (r records : List (List ℕ)) (x : Option (List ℕ)) → r ++ with_failed_record records x ≡ with_failed_record (r ++ records) x
with_append r records None = refl
with_append r records (Some x) = sym (append_assoc r records (x ∷ []))

pub begun_all : (cut : List (List (List ℕ))) (x : Option (List ℕ)) (unused : ℕ) → 0 < length cut → records_in (begun_of cut x unused) ≡ with_failed_record (records_in cut) x
begun_all [] x unused some = absurd (omega (arith, some))
begun_all (r ∷ []) x unused some =
    ap (λ (l : List (List ℕ)). with_failed_record r x ++ l) (no_records unused) ∙ (append-nil (with_failed_record r x) ∙ ap (λ (l : List (List ℕ)). with_failed_record l x) (sym (append-nil r)))
begun_all (r ∷ next ∷ cut) x unused some = ap (λ (l : List (List ℕ)). r ++ l) (begun_all (next ∷ cut) x unused (omega arith)) ∙ with_append r (records_in (next ∷ cut)) x

pub with_first : (n : ℕ) (records : List (List ℕ)) (x : Option (List ℕ)) → n ≤ length records → take n (with_failed_record records x) ≡ take n records
with_first n records None few = refl
with_first n records (Some x) few = take-append-le n records (x ∷ []) few

with_longer : (records : List (List ℕ)) (x : Option (List ℕ)) → length records ≤ length (with_failed_record records x)
with_longer records None = omega arith
with_longer records (Some x) = omega (arith, length-append records (x ∷ []))

with_front : (records : List (List ℕ)) (x : Option (List ℕ)) → take (length records) (with_failed_record records x) ≡ records
with_front records None = take-length records
with_front records (Some x) = take-append_seam records (x ∷ [])

-- Images that are a front of such logs are one too with another record in the place of the last one.

record IsWithin (certain : ℕ) (records : List (List ℕ)) (image : List ℕ) (others : List (List ℕ)) : Type 0 where
  some : certain ≤ length records
  begins : BeginsWith (plain_text (take certain records)) image
  none : AllByRecursion (λ other. other ≡ []) others

record IsWhole (certain : ℕ) (records : List (List ℕ)) (logs : List (List (List ℕ))) (image : List ℕ) (others : List (List ℕ)) : Type 0 where
  more : ℕ
  count : certain ≡ length records + more
  same : image ≡ plain_text records
  front : AreFront more logs others

by_first : (certain : ℕ) (records : List (List ℕ)) (logs : List (List (List ℕ))) (image : List ℕ) (others : List (List ℕ)) → AreFront certain (records ∷ logs) (image ∷ others)
    → IsWithin certain records image others ⊎ IsWhole certain records logs image others
by_first certain records logs image others (within some begins none) = inl (record { some = some; begins = begins; none = none })
by_first certain records logs image others (whole {safe = more} same front) = inr (record { more = more; count = refl; same = same; front = front })

no_image : (certain : ℕ) (logs : List (List (List ℕ))) → AreFront certain logs [] → ⊥
no_image certain logs front = elim front [ ]

pub record IsFrontToo (certain all : ℕ) (logs : List (List (List ℕ))) (images : List (List ℕ)) : Type 0 where
  pub many : ℕ
  pub front : AreFront many logs images
  pub enough : min certain all ≤ many
  pub most : many ≤ all

first_same : (n m : ℕ) (r w : List (List ℕ)) → take n w ≡ r → m ≤ n → take m w ≡ take m r
first_same n m r w front few = sym (take-take m n w few) ∙ ap (take m) front

begins_itself : (t : List ℕ) → BeginsWith t t
begins_itself t = (omega arith, take-length t)

module _ (r w v : List (List ℕ)) (pad pads : List (List (List ℕ))) (certain : ℕ) (image : List ℕ) (others : List (List ℕ)) (w_front : take (length r) w ≡ r) (v_front : take (length r) v ≡ r) (v_longer : length r ≤ length v) (none : AllByRecursion (λ other. other ≡ []) others) where
  last_other : IsWithin certain w image others ⊎ IsWhole certain w pad image others → IsFrontToo certain (length r) (v ∷ pads) (image ∷ others)
  last_other (inl is) =
      let m : ℕ = min certain (length r) in
      let few : m ≤ length r = omega arith in
      let less : m ≤ certain = omega arith in
      let same : take m (take certain w) ≡ take m v = take-take m certain w less ∙ (first_same (length r) m r w w_front few ∙ sym (first_same (length r) m r v v_front few)) in
      let begins = subst (λ (l : List (List ℕ)). BeginsWith (plain_text l) image) same (begins_first new_log (take certain w) m image is.begins) in
      record { many = m; front = within (omega (arith, few, v_longer)) begins none; enough = omega arith; most = few }
  last_other (inr is) =
      let whole_text : BeginsWith (plain_text w) image = subst (λ (t : List ℕ). BeginsWith (plain_text w) t) (sym is.same) (begins_itself (plain_text w)) in
      let begins = subst (λ (l : List (List ℕ)). BeginsWith (plain_text l) image) (w_front ∙ sym v_front) (begins_first new_log w (length r) image whole_text) in
      record { many = length r; front = within v_longer begins none; enough = omega arith; most = omega arith }

pub front_other : (cut : List (List (List ℕ))) (x y : Option (List ℕ)) (unused certain : ℕ) (images : List (List ℕ)) → 0 < length cut → AllByRecursion (λ other. other ≡ []) (drop (length cut) images)
    → AreFront certain (begun_of cut x unused) images → IsFrontToo certain (length (records_in cut)) (begun_of cut y unused) images
front_other [] x y unused certain images some none front = absurd (omega (arith, some))
front_other (r ∷ cut) x y unused certain [] some none front = absurd (no_image certain (begun_of (r ∷ cut) x unused) front)
front_other (r ∷ []) x y unused certain (image ∷ others) some none front =
    subst (λ (n : ℕ). IsFrontToo certain n (begun_of (r ∷ []) y unused) (image ∷ others)) (ap length (sym (append-nil r)))
    (last_other r (with_failed_record r x) (with_failed_record r y) (replicate unused []) (replicate unused []) certain image others (with_front r x) (with_front r y) (with_longer r y) none
    (by_first certain (with_failed_record r x) (replicate unused []) image others front))
front_other (r ∷ next ∷ cut) x y unused certain (image ∷ others) some none front =
    by_case (by_first certain r (begun_of (next ∷ cut) x unused) image others front) (λ more rest. front_other (next ∷ cut) x y unused more others (omega arith) none rest)
  where
    by_case : IsWithin certain r image others ⊎ IsWhole certain r (begun_of (next ∷ cut) x unused) image others
        → ((more : ℕ) → AreFront more (begun_of (next ∷ cut) x unused) others → IsFrontToo more (length (records_in (next ∷ cut))) (begun_of (next ∷ cut) y unused) others)
        → IsFrontToo certain (length (r ++ records_in (next ∷ cut))) (r ∷ begun_of (next ∷ cut) y unused) (image ∷ others)
    by_case (inl is) later =
        let few : certain ≤ length r = is.some in
        record { many = certain; front = within is.some is.begins is.none; enough = omega arith; most = omega (arith, few, length-append r (records_in (next ∷ cut))) }
    by_case (inr is) later =
        let t = later is.more is.front in
        let count : certain ≡ length r + is.more = is.count in
        let enough : min is.more (length (records_in (next ∷ cut))) ≤ t.many = t.enough in
        let most : t.many ≤ length (records_in (next ∷ cut)) = t.most in
        record {
          many = length r + t.many;
          front = whole is.same t.front;
          enough = omega (arith, count, enough, length-append r (records_in (next ∷ cut)));
          most = omega (arith, most, length-append r (records_in (next ∷ cut)));
        }
