-- Files that are the text of batches: what the bytes of a batch determine, and the parts of the files.
use Rattle.std.proofs.Common.{◌≡◌, ◌≢◌, ℕ, ◌+◌, ◌-◌, ◌<◌, ◌≤◌, ◌==◌, cond, List, [], ◌∷◌, ◌++◌, length, map, flat_map, slice_get, Option, Some, refl, sym, ◌∙◌, ap, subst, append-nil}
use Rattle.std.proofs.lemmas.List.{map-append}
use Rattle.std.proofs.lemmas.Grind.{flat_map-append}
use Rattle.std.specs.List.{AllZip}
use Rattle.model_base.specs.Batch.{count_of, IsBatch}
use Rattle.model_base.specs.History.{max_sequence}
use Rattle.model_base.specs.Recovery.{Logged, logged_bytes, last_after, last_sequence, AreInOrder}
use Rattle.model_base.specs.Since.{LogRecord, record_of_batch, since}
use Rattle.log_laws.proofs.Synced.{spells_one}
use Rattle.log_recovery.specs.Updating.{updates_in}
use Rattle.log_recovery.proofs.MoreKept.{one_header}
use Rattle.log_writer.specs.ReadableLogs.{AreBatches, IsTextOf, HoldInTurn}
use Rattle.log_writer.proofs.Reading.{zip_cut}

abbrev pub joined : List (List Logged) → List Logged
joined parts = flat_map (λ (p : List Logged). p) parts

pub batches_parts : (xs ys : List Logged) → AreBatches (xs ++ ys) → AreBatches xs × AreBatches ys
batches_parts [] ys are = (tt, are)
batches_parts (x ∷ xs) ys are = let t = batches_parts xs ys are.1 in ((are.0, t.0), t.1)

pub batches_joined : (xs ys : List Logged) → AreBatches xs → AreBatches ys → AreBatches (xs ++ ys)
batches_joined [] ys a b = b
batches_joined (x ∷ xs) ys a b = (a.0, batches_joined xs ys a.1 b)

pub in_order_parts : (last : ℕ) (xs ys : List Logged) → AreInOrder last (xs ++ ys) → AreInOrder last xs × AreInOrder (last_sequence last xs) ys
in_order_parts last [] ys ordered = (tt, ordered)
in_order_parts last (x ∷ xs) ys ordered = let t = in_order_parts (last_after last x) xs ys ordered.1 in ((ordered.0, t.0), t.1)

pub in_order_joined : (last : ℕ) (xs ys : List Logged) → AreInOrder last xs → AreInOrder (last_sequence last xs) ys → AreInOrder last (xs ++ ys)
in_order_joined last [] ys first second = second
in_order_joined last (x ∷ xs) ys first second = (first.0, in_order_joined (last_after last x) xs ys first.1 second)

pub get_behind : {A : Type 0} (xs ys : List A) (x : A) → slice_get (xs ++ x ∷ ys) (length xs) ≡ Some x
get_behind [] ys x = refl
get_behind (y ∷ xs) ys x = get_behind xs ys x

abbrev with_header : ℕ → ℕ → List ℕ → LogRecord
with_header first count bytes = record { first = first; count = count; bytes = bytes }

-- The bytes of a batch determine what is asked of it.
pub same_record : (a b : Logged) → logged_bytes a ≡ logged_bytes b → IsBatch (logged_bytes a) a.first a.records → IsBatch (logged_bytes b) b.first b.records → record_of_batch a ≡ record_of_batch b
same_record a b same is_a is_b =
    let one = one_header (logged_bytes a) a.first b.first a.records b.records is_a (subst (λ bytes. IsBatch bytes b.first b.records) (sym same) is_b) in
    ap (λ (f : ℕ). with_header f (count_of a.records) (logged_bytes a)) one.0
    ∙ (ap (λ (n : ℕ). with_header b.first n (logged_bytes a)) one.1
    ∙ ap (λ (l : List ℕ). with_header b.first (count_of b.records) l) same)

pub same_records : (xs ys : List Logged) → map logged_bytes xs ≡ map logged_bytes ys → AreBatches xs → AreBatches ys → map record_of_batch xs ≡ map record_of_batch ys
same_records [] [] e a b = refl
same_records [] (y ∷ ys) e a b = absurd (cc)
same_records (x ∷ xs) [] e a b = absurd (cc)
same_records (x ∷ xs) (y ∷ ys) e a b =
    let head : logged_bytes x ≡ logged_bytes y = cc in
    let tail : map logged_bytes xs ≡ map logged_bytes ys = cc in
    ap (λ (r : LogRecord). r ∷ map record_of_batch xs) (same_record x y head a.0 b.0) ∙ ap (λ (l : List LogRecord). record_of_batch y ∷ l) (same_records xs ys tail a.1 b.1)

pub both_same : (xs ys zs ws : List Logged) → map record_of_batch xs ≡ map record_of_batch zs → map record_of_batch ys ≡ map record_of_batch ws → map record_of_batch (xs ++ ys) ≡ map record_of_batch (zs ++ ws)
both_same xs ys zs ws first second =
    map-append record_of_batch xs ys
    ∙ (ap (λ (l : List LogRecord). l ++ map record_of_batch ys) first
    ∙ (ap (λ (l : List LogRecord). map record_of_batch zs ++ l) second ∙ sym (map-append record_of_batch zs ws)))

zip_same : (number : Option ℕ) (files : List (List ℕ)) (ps qs : List (List Logged)) → AllZip (IsTextOf number) files ps → AllZip (IsTextOf number) files qs → AreBatches (joined ps) → AreBatches (joined qs) → map record_of_batch (joined ps) ≡ map record_of_batch (joined qs)
zip_same number [] [] [] a b x y = refl
zip_same number [] [] (q ∷ qs) a b x y = absurd b
zip_same number [] (p ∷ ps) qs a b x y = absurd a
zip_same number (f ∷ fs) [] qs a b x y = absurd a
zip_same number (f ∷ fs) (p ∷ ps) [] a b x y = absurd b
zip_same number (f ∷ fs) (p ∷ ps) (q ∷ qs) a b x y =
    let px = batches_parts p (joined ps) x in
    let qy = batches_parts q (joined qs) y in
    both_same p (joined ps) q (joined qs) (same_records p q (spells_one number f (map logged_bytes p) (map logged_bytes q) a.0 b.0) px.0 qy.0) (zip_same number fs ps qs a.1 b.1 px.1 qy.1)

-- The same files are the text of the same batches, as far as it is asked.
pub hold_same : (number : Option ℕ) (files : List (List ℕ)) (xs ys : List Logged) → HoldInTurn number files xs → HoldInTurn number files ys → map record_of_batch xs ≡ map record_of_batch ys
hold_same number files xs ys a b =
    ap (map record_of_batch) (sym a.all)
    ∙ (zip_same number files a.parts b.parts a.each b.each (subst (λ l. AreBatches l) (sym a.all) a.are_batches) (subst (λ l. AreBatches l) (sym b.all) b.are_batches)
    ∙ ap (map record_of_batch) b.all)

-- So do the last sequence and the order.
one_after : (last : ℕ) (a b : Logged) → record_of_batch a ≡ record_of_batch b → last_after last a ≡ last_after last b
one_after last a b e = ap (λ (r : LogRecord). cond (r.count == 0) last (r.first + r.count - 1)) e

pub last_same : (last : ℕ) (xs ys : List Logged) → map record_of_batch xs ≡ map record_of_batch ys → last_sequence last xs ≡ last_sequence last ys
last_same last [] [] e = refl
last_same last [] (y ∷ ys) e = absurd (cc)
last_same last (x ∷ xs) [] e = absurd (cc)
last_same last (x ∷ xs) (y ∷ ys) e =
    let head : record_of_batch x ≡ record_of_batch y = cc in
    let tail : map record_of_batch xs ≡ map record_of_batch ys = cc in
    ap (λ (n : ℕ). last_sequence n xs) (one_after last x y head) ∙ last_same (last_after last y) xs ys tail

pub order_same : (last : ℕ) (xs ys : List Logged) → map record_of_batch xs ≡ map record_of_batch ys → AreInOrder last ys → AreInOrder last xs
order_same last [] [] e ordered = tt
order_same last [] (y ∷ ys) e ordered = absurd (cc)
order_same last (x ∷ xs) [] e ordered = absurd (cc)
order_same last (x ∷ xs) (y ∷ ys) e ordered =
    let head : record_of_batch x ≡ record_of_batch y = cc in
    let tail : map record_of_batch xs ≡ map record_of_batch ys = cc in (
      subst (λ (r : LogRecord). r.count ≢ 0 → (last < r.first) × (r.first + r.count - 1 ≤ max_sequence)) (sym head) ordered.0,
      order_same (last_after last x) xs ys tail (subst (λ n. AreInOrder n ys) (sym (one_after last x y head)) ordered.1),
    )

pub updates_same : (s upto : ℕ) (xs ys : List Logged) → map record_of_batch xs ≡ map record_of_batch ys → updates_in s upto xs ≡ updates_in s upto ys
updates_same s upto xs ys e = ap (since s upto) e

-- No file is the text of nothing.
pub hold_none : (number : Option ℕ) (batches : List Logged) → HoldInTurn number [] batches → batches ≡ []
hold_none number batches h = by_parts h.parts h.all h.each
  where
    by_parts : (parts : List (List Logged)) → joined parts ≡ batches → AllZip (IsTextOf number) [] parts → batches ≡ []
    by_parts [] all each = sym all
    by_parts (p ∷ parts) all each = absurd each

-- One file more.
zip_more : (number : Option ℕ) (files : List (List ℕ)) (parts : List (List Logged)) (file : List ℕ) (part : List Logged) → AllZip (IsTextOf number) files parts → IsTextOf number file part → AllZip (IsTextOf number) (files ++ file ∷ []) (parts ++ part ∷ [])
zip_more number [] [] file part all one = (one, tt)
zip_more number [] (p ∷ parts) file part all one = absurd all
zip_more number (f ∷ files) [] file part all one = absurd all
zip_more number (f ∷ files) (p ∷ parts) file part all one = (all.0, zip_more number files parts file part all.1 one)

pub hold_more : (number : Option ℕ) (files : List (List ℕ)) (batches : List Logged) (file : List ℕ) (part : List Logged) → HoldInTurn number files batches → IsTextOf number file part → AreBatches part → HoldInTurn number (files ++ file ∷ []) (batches ++ part)
hold_more number files batches file part h one are = record {
  parts = h.parts ++ part ∷ [];
  all = flat_map-append (λ (p : List Logged). p) h.parts (part ∷ []) ∙ (ap (λ (l : List Logged). joined h.parts ++ l) (append-nil part) ∙ ap (λ (l : List Logged). l ++ part) h.all);
  each = zip_more number files h.parts file part h.each one;
  are_batches = batches_joined batches part h.are_batches are;
}

-- The batches of the files before one, of that one, and of those after it.
pub record Parted (number : Option ℕ) (firsts : List (List ℕ)) (file : List ℕ) (others : List (List ℕ)) (batches : List Logged) : Type 0 where
  pub earlier : List Logged
  pub mine : List Logged
  pub later : List Logged
  pub all : batches ≡ earlier ++ (mine ++ later)
  pub before : HoldInTurn number firsts earlier
  pub text : IsTextOf number file mine
  pub are : AreBatches mine
  pub behind : HoldInTurn number others later

pub parted : (number : Option ℕ) (firsts : List (List ℕ)) (file : List ℕ) (others : List (List ℕ)) (batches : List Logged) → HoldInTurn number (firsts ++ file ∷ others) batches → Parted number firsts file others batches
parted number firsts file others batches h =
    let cut = zip_cut (IsTextOf number) firsts (file ∷ others) h.parts h.each in
    by_back cut.first cut.others cut.cut cut.of_front cut.of_back
  where
    by_back : (first back : List (List Logged)) → h.parts ≡ first ++ back → AllZip (IsTextOf number) firsts first → AllZip (IsTextOf number) (file ∷ others) back → Parted number firsts file others batches
    by_back first [] e front all = absurd all
    by_back first (mine ∷ rest) e front all =
        let flat : batches ≡ joined first ++ (mine ++ joined rest) = sym h.all ∙ (ap joined e ∙ flat_map-append (λ (p : List Logged). p) first (mine ∷ rest)) in
        let are = batches_parts (joined first) (mine ++ joined rest) (subst (λ l. AreBatches l) flat h.are_batches) in
        let own = batches_parts mine (joined rest) are.1 in
        record {
          earlier = joined first;
          mine = mine;
          later = joined rest;
          all = flat;
          before = record { parts = first; all = refl; each = front; are_batches = are.0 };
          text = all.0;
          are = own.0;
          behind = record { parts = rest; all = refl; each = all.1; are_batches = own.1 };
        }

-- Where the bytes of batches are two lists, one after the other, so are the batches.
pub record Split (bs : List Logged) (xs ys : List (List ℕ)) : Type 0 where
  pub front : List Logged
  pub back : List Logged
  pub parts : bs ≡ front ++ back
  pub front_is : map logged_bytes front ≡ xs
  pub back_is : map logged_bytes back ≡ ys

pub split_batches : (bs : List Logged) (xs ys : List (List ℕ)) → map logged_bytes bs ≡ xs ++ ys → Split bs xs ys
split_batches bs [] ys e = record { front = []; back = bs; parts = refl; front_is = refl; back_is = e }
split_batches [] (x ∷ xs) ys e = absurd (cc)
split_batches (b ∷ bs) (x ∷ xs) ys e =
    let head : logged_bytes b ≡ x = cc in
    let tail : map logged_bytes bs ≡ xs ++ ys = cc in
    let s = split_batches bs xs ys tail in
    record {
      front = b ∷ s.front;
      back = s.back;
      parts = ap (λ (l : List Logged). b ∷ l) s.parts;
      front_is = ap (λ (l : List ℕ). l ∷ map logged_bytes s.front) head ∙ ap (λ (l : List (List ℕ)). x ∷ l) s.front_is;
      back_is = s.back_is;
    }
