-- What is found in a file stays found when more bytes come after it.
use Rattle.std.proofs.Common.{◌≡◌, ⊎_elim, ℕ, ◌+◌, ◌-◌, ◌<◌, ◌≤◌, Bool, true, false, not, ◌&&◌, cond, List, [], ◌∷◌, ◌++◌, length, take, drop, bytes_eq, Option, Some, None, nat_lt, nat_le, ◌==◌, refl, sym, ◌∙◌, ap, subst, arith, append_assoc, length-append, length-take, length-drop}
use Rattle.std.proofs.Math.Seq.{take-append-add}
use Rattle.std.proofs.lemmas.Bool.{ltb-true, leb-true, lt-ltb, le-ltb, le-leb, ne_eqb, eqb-true, cases_lt}
use Rattle.std.proofs.lemmas.List.{take_all, take-append-le, drop-append-le}
use Rattle.std.specs.Int.{w16, w32, to_le_bytes, from_le_bytes}
use Rattle.model_base.specs.declared.log.Damage.TheVariants.{Zeros, BadLength, BadType, BadChecksum, OldLog}
use Rattle.model_base.specs.declared.log.EndReason.{EndReason}
use Rattle.model_base.specs.Checksum.{crc32c, masked}
use Rattle.model_base.specs.Log.{Kind, Fragment, AreOneRecord, kinds_of, header, header_len, fragments_text, room, trailer, next_place, plain_log}
use Rattle.model_base.specs.Reading.{Seen, Next, fragment, nothing, damage, seen_within, seen_at, next_seen, behind_zeros, are_zeros, checksum_field, length_field, type_field, part_field, kind_of_code, seen_of_kind, seen_of_kind_numbered, HasFragments, end_of, IsRecord, ReadingEnds, clean, broken, bad_order, unfinished}
use Rattle.log_laws.proofs.Next.{seen_past}
use Rattle.log_laws.proofs.Placed.{end_none}
use Rattle.log_laws.proofs.ReadSynced.{next_first}
use Rattle.log_scan.specs.declared.scanner.Lost.{Lost}
use Rattle.log_reader.specs.Damaged.{is_damage, is_damaged}
use Rattle.log_scan.specs.Resuming.{fragment_len, begins_record, next_block, there, after_damage, after_misplaced, sets_compression, is_compressed}
use Rattle.log_scan.specs.Scanning.{Item, Finds, found_none, found_more, Skips, not_skipped, skipped_first, skipped_again, later_place}
use Rattle.log_scan.proofs.Places.{some_header, place_there, resumes_there, type_in_front, length_in_front, fragment_there}
use Rattle.log_scan.proofs.Later.{end_later}

-- bytes within a list are the same when more come after it
piece : (start len : ℕ) (bytes more : List ℕ) → start + len ≤ length bytes → take len (drop start (bytes ++ more)) ≡ take len (drop start bytes)
piece start len bytes more within =
    ap (take len) (drop-append-le start bytes more (omega (arith, within))) ∙ take-append-le len (drop start bytes) more (omega (arith, within, length-drop start bytes))

-- Bytes that have a fragment whole, as the header in front of them says: what is seen there doesn't depend on what
-- follows them.
module _ (number : Option ℕ) (bytes more : List ℕ) (has : header_len number + length_field bytes ≤ length bytes) where
  type_same : type_field (bytes ++ more) ≡ type_field bytes
  type_same =
      sym (type_in_front 7 (bytes ++ more) (omega arith))
      ∙ (ap type_field (take-append-le 7 bytes more (omega (arith, has, some_header number))) ∙ type_in_front 7 bytes (omega arith))

  length_same : length_field (bytes ++ more) ≡ length_field bytes
  length_same = ap (from_le_bytes w16) (piece 4 2 bytes more (omega (arith, has, some_header number)))

  sum_same : checksum_field (bytes ++ more) ≡ checksum_field bytes
  sum_same = ap (from_le_bytes w32) (take-append-le 4 bytes more (omega (arith, has, some_header number)))

  part_same : part_field number (bytes ++ more) ≡ part_field number bytes
  part_same = ap (λ (n : ℕ). take n (drop (header_len number) (bytes ++ more))) length_same ∙ piece (header_len number) (length_field bytes) bytes more has

abbrev plain_of : Kind → ℕ → ℕ → List ℕ → Seen
plain_of k code sum part = cond (sum == masked (crc32c (code ∷ part))) (fragment (record { kind = k; part = part })) (damage BadChecksum)

plain_same : (bytes more : List ℕ) → 7 + length_field bytes ≤ length bytes → (o : Option Kind) → seen_of_kind (bytes ++ more) o ≡ seen_of_kind bytes o
plain_same bytes more has None = ap (λ (t : ℕ). damage (BadType t)) (type_same None bytes more has)
plain_same bytes more has (Some k) =
    ap (λ (t : ℕ). plain_of k t (checksum_field (bytes ++ more)) (part_field plain_log (bytes ++ more))) (type_same None bytes more has)
    ∙ (ap (λ (s : ℕ). plain_of k (type_field bytes) s (part_field plain_log (bytes ++ more))) (sum_same None bytes more has)
    ∙ ap (λ (p : List ℕ). plain_of k (type_field bytes) (checksum_field bytes) p) (part_same None bytes more has))

abbrev numbered_of : ℕ → Kind → List ℕ → Bool → ℕ → ℕ → List ℕ → Seen
numbered_of n k four short code sum part =
    cond (not (bytes_eq four (to_le_bytes w32 n))) (damage (OldLog (from_le_bytes w32 four)))
    (cond short (damage BadLength) (cond (sum == masked (crc32c (code ∷ to_le_bytes w32 n ++ part))) (fragment (record { kind = k; part = part })) (damage BadChecksum)))

numbered_same : (n : ℕ) (bytes more : List ℕ) → 11 + length_field bytes ≤ length bytes → (o : Option Kind) → seen_of_kind_numbered n (bytes ++ more) o ≡ seen_of_kind_numbered n bytes o
numbered_same n bytes more has None = ap (λ (t : ℕ). damage (BadType t)) (type_same (Some n) bytes more has)
numbered_same n bytes more has (Some k) =
    let all : List ℕ = bytes ++ more in
    let four : take 4 (drop 7 all) ≡ take 4 (drop 7 bytes) = piece 7 4 bytes more (omega (arith, has)) in
    let short : nat_lt (length all) (11 + length_field all) ≡ nat_lt (length bytes) (11 + length_field bytes) =
    le-ltb (length all) (11 + length_field all) (omega (arith, has, length_same (Some n) bytes more has, length-append bytes more)) ∙ sym (le-ltb (length bytes) (11 + length_field bytes) has) in
    ap (λ (l : List ℕ). numbered_of n k l (nat_lt (length all) (11 + length_field all)) (type_field all) (checksum_field all) (part_field (Some n) all)) four
    ∙ (ap (λ (b : Bool). numbered_of n k (take 4 (drop 7 bytes)) b (type_field all) (checksum_field all) (part_field (Some n) all)) short
    ∙ (ap (λ (t : ℕ). numbered_of n k (take 4 (drop 7 bytes)) (nat_lt (length bytes) (11 + length_field bytes)) t (checksum_field all) (part_field (Some n) all)) (type_same (Some n) bytes more has)
    ∙ (ap (λ (s : ℕ). numbered_of n k (take 4 (drop 7 bytes)) (nat_lt (length bytes) (11 + length_field bytes)) (type_field bytes) s (part_field (Some n) all)) (sum_same (Some n) bytes more has)
    ∙ ap (λ (p : List ℕ). numbered_of n k (take 4 (drop 7 bytes)) (nat_lt (length bytes) (11 + length_field bytes)) (type_field bytes) (checksum_field bytes) p) (part_same (Some n) bytes more has))))

-- what is seen there, after the tests that such bytes pass
plain_is : (space : ℕ) (bytes : List ℕ) → 7 + length_field bytes ≤ length bytes → 7 ≤ space
    → seen_within None space bytes ≡ cond (are_zeros (take 7 bytes)) (damage Zeros) (seen_of_kind bytes (kind_of_code plain_log (type_field bytes)))
unfolding seen_within
plain_is space bytes has fits =
    let e1 : nat_lt space 7 ≡ false = le-ltb space 7 fits in
    let e2 : (length bytes == 0) ≡ false = ne_eqb (length bytes) 0 (λ e. omega (arith, has, e)) in
    let e3 : nat_lt (length bytes) 7 ≡ false = le-ltb (length bytes) 7 (omega (arith, has)) in
    let e5 : nat_lt (length bytes) (7 + length_field bytes) ≡ false = le-ltb (length bytes) (7 + length_field bytes) has in
    rw (e1, e2, e3, e5) refl

numbered_is : (n space : ℕ) (bytes : List ℕ) → 11 + length_field bytes ≤ length bytes → 11 ≤ space
    → seen_within (Some n) space bytes ≡ cond (are_zeros (take 11 bytes)) (damage Zeros) (seen_of_kind_numbered n bytes (kind_of_code (Some n) (type_field bytes)))
unfolding seen_within
numbered_is n space bytes has fits =
    let e1 : nat_lt space 11 ≡ false = le-ltb space 11 fits in
    let e2 : (length bytes == 0) ≡ false = ne_eqb (length bytes) 0 (λ e. omega (arith, has, e)) in
    let e3 : nat_lt (length bytes) 11 ≡ false = le-ltb (length bytes) 11 (omega (arith, has)) in
    rw (e1, e2, e3) refl

within_same : (number : Option ℕ) (space : ℕ) (bytes more : List ℕ) → header_len number + length_field bytes ≤ length bytes → header_len number ≤ space
    → seen_within number space (bytes ++ more) ≡ seen_within number space bytes
within_same None space bytes more has fits =
    let all : List ℕ = bytes ++ more in
    plain_is space all (omega (arith, has, length_same None bytes more has, length-append bytes more)) fits
    ∙ (ap (λ (l : List ℕ). cond (are_zeros l) (damage Zeros) (seen_of_kind all (kind_of_code plain_log (type_field all)))) (take-append-le 7 bytes more (omega (arith, has)))
    ∙ (ap (λ (s : Seen). cond (are_zeros (take 7 bytes)) (damage Zeros) s)
    (plain_same bytes more has (kind_of_code plain_log (type_field all)) ∙ ap (λ (t : ℕ). seen_of_kind bytes (kind_of_code plain_log t)) (type_same None bytes more has))
    ∙ sym (plain_is space bytes has fits)))
within_same (Some n) space bytes more has fits =
    let all : List ℕ = bytes ++ more in
    numbered_is n space all (omega (arith, has, length_same (Some n) bytes more has, length-append bytes more)) fits
    ∙ (ap (λ (l : List ℕ). cond (are_zeros l) (damage Zeros) (seen_of_kind_numbered n all (kind_of_code (Some n) (type_field all)))) (take-append-le 11 bytes more (omega (arith, has)))
    ∙ (ap (λ (s : Seen). cond (are_zeros (take 11 bytes)) (damage Zeros) s)
    (numbered_same n bytes more has (kind_of_code (Some n) (type_field all)) ∙ ap (λ (t : ℕ). seen_of_kind_numbered n bytes (kind_of_code (Some n) t)) (type_same (Some n) bytes more has))
    ∙ sym (numbered_is n space bytes has fits)))

-- after damage, by the three tests
abbrev form : ℕ → Bool → Bool → Bool → ℕ → ℕ
form at a b d n = cond (a && b && not d) (at + n) (next_block at)

goes : (at : ℕ) (a b d : Bool) (n : ℕ) → a ≡ true → b ≡ true → d ≡ false → form at a b d n ≡ at + n
goes at a b d n x y z = rw (x, y, z) refl

stops : (at : ℕ) (a b d : Bool) (n : ℕ) → b ≡ false → form at a b d n ≡ next_block at
stops at true b d n y = rw y refl
stops at false b d n y = refl

-- where reading goes on in the same block, they were met
met : (at : ℕ) (a b d : Bool) (n next : ℕ) → form at a b d n ≡ next → next < next_block at → (a ≡ true) × (b ≡ true) × (d ≡ false)
met at true true false n next e less = (refl, refl, refl)
met at true true true n next e less = absurd (omega (arith, e, less))
met at true false d n next e less = absurd (omega (arith, e, less))
met at false b d n next e less = absurd (omega (arith, e, less))

module _ (number : Option ℕ) (file more : List ℕ) where
  abbrev grown : List ℕ
  grown = file ++ more

  abbrev len_at : ℕ → ℕ
  len_at at = fragment_len number (drop at file)

  -- What is seen stays the same in a block that the file has whole, and where it has a fragment whole.
  seen_whole : (at : ℕ) → at + room at ≤ length file → seen_at number grown at ≡ seen_at number file at
  seen_whole at whole = ap (seen_within number (room at)) (piece at (room at) file more whole)

  seen_same : (at : ℕ) → at + len_at at ≤ length file → len_at at ≤ room at → seen_at number grown at ≡ seen_at number file at
  seen_same at has fits = ⊎_elim short (seen_whole at) (cases_lt (length file) (at + room at))
    where
      short : length file < at + room at → seen_at number grown at ≡ seen_at number file at
      short less =
          let bytes : List ℕ = drop at file in
          let left : ℕ = room at - length bytes in
          let len : length bytes ≡ length file - at = length-drop at file in
          let split : room at ≡ length bytes + left = omega (arith, less, has, len) in
          let old : take (room at) bytes ≡ bytes = take_all (room at) bytes (omega (arith, less, len)) in
          let new : take (room at) (drop at grown) ≡ bytes ++ take left more =
          ap (take (room at)) (drop-append-le at file more (omega (arith, has))) ∙ (ap (λ (n : ℕ). take n (bytes ++ more)) split ∙ take-append-add bytes more left) in
          ap (seen_within number (room at)) new
          ∙ (within_same number (room at) bytes (take left more) (omega (arith, has, len, some_header number)) (omega (arith, fits)) ∙ ap (seen_within number (room at)) (sym old))

  -- the file has a fragment whole where it is seen
  has_whole : (at : ℕ) (f : Fragment) → seen_at number file at ≡ fragment f → (at + len_at at ≤ length file) × (len_at at ≤ room at)
  has_whole at f seen =
      let is = fragment_there number file at f seen in
      let field : length_field (take (room at) (drop at file)) ≡ length_field (drop at file) = length_in_front (room at) (drop at file) (omega (arith, is.room, some_header number)) in (
        omega (arith, is.there, field, some_header number, length-take (room at) (drop at file), length-drop at file),
        omega (arith, is.there, field, length-take (room at) (drop at file)),
      )

  fragment_stays : (at : ℕ) (f : Fragment) → seen_at number file at ≡ fragment f → seen_at number grown at ≡ fragment f
  fragment_stays at f seen = let has = has_whole at f seen in seen_same at has.0 has.1 ∙ seen

  -- a fragment or damage is what the reader sees next
  record Sees (e : ℕ) : Type 0 where
    at : ℕ
    seen : Seen
    is : record { at = at; seen = seen } ≡ next_seen number file e
    some : seen ≡ nothing → ⊥

  sees_there : (e : ℕ) (s : Sees e) → seen_at number file s.at ≡ s.seen
  sees_there e s = by_seen (seen_at number file e) refl
    where
      by_seen : (t : Seen) → seen_at number file e ≡ t → seen_at number file s.at ≡ s.seen
      by_seen nothing seen = let is = s.is ∙ ap (behind_zeros number file e) seen in
          ap (seen_at number file) (ap (λ (n : Next). n.at) is) ∙ sym (ap (λ (n : Next). n.seen) is)
      by_seen (damage d) seen = let is = s.is ∙ ap (behind_zeros number file e) seen in
          ap (seen_at number file) (ap (λ (n : Next). n.at) is) ∙ (seen ∙ sym (ap (λ (n : Next). n.seen) is))
      by_seen (fragment f) seen = let is = s.is ∙ ap (behind_zeros number file e) seen in
          ap (seen_at number file) (ap (λ (n : Next). n.at) is) ∙ (seen ∙ sym (ap (λ (n : Next). n.seen) is))

  -- if zeros come first, the file has this block whole
  block_whole : (e : ℕ) → Sees e → seen_at number file e ≡ nothing → e + room e ≤ length file
  block_whole e s none = ⊎_elim few many (cases_lt (room e) (header_len number))
    where
      behind : s.seen ≡ seen_at number file (next_place number e)
      behind = ap (λ (n : Next). n.seen) (s.is ∙ ap (behind_zeros number file e) none)

      few : room e < header_len number → e + room e ≤ length file
      few less =
          let due : trailer number e ≡ room e = ap (λ (b : Bool). cond b (room e) 0) (lt-ltb (room e) (header_len number) less) in
          ⊎_elim (λ past. absurd (s.some (behind ∙ seen_past number file (next_place number e) (omega (arith, past, due))))) (λ whole. whole) (cases_lt (length file) (e + room e))

      many : header_len number ≤ room e → e + room e ≤ length file
      many enough =
          let same : next_place number e ≡ e = omega (arith, ap (λ (b : Bool). cond b (room e) 0) (le-ltb (room e) (header_len number) enough)) in
          absurd (s.some (behind ∙ (ap (seen_at number file) same ∙ none)))

  -- so it stays what the reader sees next, if it is still seen there
  next_stays : (e : ℕ) (s : Sees e) → seen_at number grown s.at ≡ s.seen → record { at = s.at; seen = s.seen } ≡ next_seen number grown e
  next_stays e s stays = by_seen (seen_at number file e) refl
    where
      by_seen : (t : Seen) → seen_at number file e ≡ t → record { at = s.at; seen = s.seen } ≡ behind_zeros number grown e (seen_at number grown e)
      by_seen nothing seen =
          let is = s.is ∙ ap (behind_zeros number file e) seen in
          let now : seen_at number grown e ≡ nothing = seen_whole e (block_whole e s seen) ∙ seen in
          ap (λ (x : Seen). record { at = s.at; seen = x }) (sym stays)
          ∙ (ap (λ (n : ℕ). record { at = n; seen = seen_at number grown n }) (ap (λ (n : Next). n.at) is) ∙ ap (behind_zeros number grown e) (sym now))
      by_seen (damage d) seen =
          let is = s.is ∙ ap (behind_zeros number file e) seen in
          let now : seen_at number grown e ≡ damage d = ap (seen_at number grown) (sym (ap (λ (n : Next). n.at) is)) ∙ (stays ∙ ap (λ (n : Next). n.seen) is) in
          is ∙ ap (behind_zeros number grown e) (sym now)
      by_seen (fragment f) seen =
          let is = s.is ∙ ap (behind_zeros number file e) seen in
          let now : seen_at number grown e ≡ fragment f = ap (seen_at number grown) (sym (ap (λ (n : Next). n.at) is)) ∙ (stays ∙ ap (λ (n : Next). n.seen) is) in
          is ∙ ap (behind_zeros number grown e) (sym now)

  -- no damage comes to a place from which something is seen
  abbrev StaysWhole : ℕ → Type 0
  StaysWhole place = is_damaged number file place ≡ false → is_damaged number grown place ≡ false

  stays_whole : (e : ℕ) → Sees e → StaysWhole e
  stays_whole e s whole = by_seen (seen_at number file e) refl
    where
      by_seen : (t : Seen) → seen_at number file e ≡ t → is_damaged number grown e ≡ false
      by_seen nothing seen = ap is_damage (seen_whole e (block_whole e s seen) ∙ seen)
      by_seen (damage d) seen = let wrong : true ≡ false = sym (ap is_damage seen) ∙ whole in absurd (cc)
      by_seen (fragment f) seen = ap is_damage (fragment_stays e f seen)

  -- the length that a header says
  len_same : (at : ℕ) → at + header_len number ≤ length file → fragment_len number (drop at grown) ≡ len_at at
  len_same at header =
      ap (λ (n : ℕ). header_len number + n)
      (ap length_field (drop-append-le at file more (omega (arith, header)))
      ∙ ap (from_le_bytes w16) (piece 4 2 (drop at file) more (omega (arith, header, some_header number, length-drop at file))))

  -- Damage after which reading is tried again stays the same, and so does the place where it is.
  record Stays (at next : ℕ) : Type 0 where
    seen : seen_at number grown at ≡ seen_at number file at
    after : after_damage number grown at ≡ next

  module _ (at next : ℕ) (is : after_damage number file at ≡ next) (inside : next < length file) where
    tests : length file < at + room at → (nat_le (at + header_len number) (length file) ≡ true) × (nat_lt (len_at at) (room at) ≡ true) × (is_damaged number file (at + len_at at) ≡ false)
    tests short =
        met at (nat_le (at + header_len number) (length file)) (nat_lt (len_at at) (room at)) (is_damaged number file (at + len_at at)) (len_at at) next is (omega (arith, short, inside))

    in_last_block : length file < at + room at → StaysWhole next → Stays at next
    in_last_block short fine =
        let t = tests short in
        let less : len_at at < room at = ltb-true (len_at at) (room at) t.1 in
        let header : at + header_len number ≤ length file = leb-true (at + header_len number) (length file) t.0 in
        let place : at + len_at at ≡ next = sym (goes at _ _ _ (len_at at) t.0 t.1 t.2) ∙ is in
        let same = len_same at header in
        let whole : is_damaged number grown (at + len_at at) ≡ false = subst StaysWhole (sym place) fine t.2 in
        record {
          seen = seen_same at (omega (arith, place, inside)) (omega (arith, less));
          after = goes at _ _ _ (fragment_len number (drop at grown))
              (le-leb (at + header_len number) (length grown) (omega (arith, header, length-append file more)))
              (ap (λ (n : ℕ). nat_lt n (room at)) same ∙ t.1)
              (ap (λ (n : ℕ). is_damaged number grown (at + n)) same ∙ whole)
              ∙ (ap (λ (n : ℕ). at + n) same ∙ place);
        }

    -- where reading is tried again after the first fragment, it stays the same whether that is one of a compressed log
    first_same : at ≡ 0 → is_compressed grown ≡ is_compressed file
    first_same first = ⊎_elim in_short in_whole (cases_lt (length file) (at + room at))
      where
        in_whole : at + room at ≤ length file → is_compressed grown ≡ is_compressed file
        in_whole whole = ap sets_compression (take-append-le 32768 file more (omega (arith, first, whole)))

        in_short : length file < at + room at → is_compressed grown ≡ is_compressed file
        in_short short =
            let t = tests short in
            let place : at + len_at at ≡ next = sym (goes at _ _ _ (len_at at) t.0 t.1 t.2) ∙ is in
            let own : len_at at ≡ fragment_len number file = ap (λ (n : ℕ). fragment_len number (drop n file)) first in
            let has : 7 + length_field file ≤ length file = omega (arith, first, place, own, inside, some_header number) in
            let left : ℕ = 32768 - length file in
            let split : 32768 ≡ length file + left = omega (arith, first, short) in
            let old : take 32768 file ≡ file = take_all 32768 file (omega (arith, first, short)) in
            let new : take 32768 grown ≡ file ++ take left more = ap (λ (n : ℕ). take n grown) split ∙ take-append-add file more left in
            ap sets_compression new
            ∙ (ap (λ (l : List ℕ). bytes_eq l (header plain_log 9 (part_field plain_log (file ++ take left more)))) (take-append-le 7 file (take left more) (omega (arith, has)))
            ∙ (ap (λ (p : List ℕ). bytes_eq (take 7 file) (header plain_log 9 p)) (part_same None file (take left more) has) ∙ ap sets_compression (sym old)))

    begins_same : (at == 0 && is_compressed grown) ≡ (at == 0 && is_compressed file)
    begins_same = by_test (at == 0) refl
      where
        by_test : (b : Bool) → (at == 0) ≡ b → (b && is_compressed grown) ≡ (b && is_compressed file)
        by_test true e = first_same (eqb-true at 0 e)
        by_test false e = refl

    in_whole_block : at + room at ≤ length file → Stays at next
    in_whole_block whole = record { seen = seen_whole at whole; after = ⊎_elim short long (cases_lt (len_at at) (room at)) ∙ is }
      where
        len : ℕ
        len = fragment_len number (drop at grown)

        short : len_at at < room at → after_damage number grown at ≡ after_damage number file at
        short less =
            let header : at + header_len number ≤ length file = omega (arith, less, whole) in
            let same = len_same at header in
            let first : nat_le (at + header_len number) (length grown) ≡ nat_le (at + header_len number) (length file) =
            le-leb (at + header_len number) (length grown) (omega (arith, header, length-append file more)) ∙ sym (le-leb (at + header_len number) (length file) header) in
            let third : is_damaged number grown (at + len_at at) ≡ is_damaged number file (at + len_at at) = ap is_damage (seen_whole (at + len_at at) (omega (arith, less, whole))) in
            ap (λ (n : ℕ). form at (nat_le (at + header_len number) (length grown)) (nat_lt n (room at)) (is_damaged number grown (at + n)) n) same
            ∙ (ap (λ (b : Bool). form at b (nat_lt (len_at at) (room at)) (is_damaged number grown (at + len_at at)) (len_at at)) first
            ∙ ap (λ (b : Bool). form at (nat_le (at + header_len number) (length file)) (nat_lt (len_at at) (room at)) b (len_at at)) third)

        long : room at ≤ len_at at → after_damage number grown at ≡ after_damage number file at
        long many =
            let longer : room at ≤ fragment_len number (drop at grown) =
            ⊎_elim (λ few. omega (arith, few)) (λ header. omega (arith, many, len_same at (omega (arith, header, whole)))) (cases_lt (room at) (header_len number)) in
            stops at (nat_le (at + header_len number) (length grown)) (nat_lt (fragment_len number (drop at grown)) (room at)) (is_damaged number grown (at + fragment_len number (drop at grown))) (fragment_len number (drop at grown))
            (le-ltb (fragment_len number (drop at grown)) (room at) longer)
            ∙ sym (stops at (nat_le (at + header_len number) (length file)) (nat_lt (len_at at) (room at)) (is_damaged number file (at + len_at at)) (len_at at) (le-ltb (len_at at) (room at) many))

    damage_stays : StaysWhole next → Stays at next
    damage_stays fine = ⊎_elim (λ short. in_last_block short fine) in_whole_block (cases_lt (length file) (at + room at))

  -- so does the place after a fragment in a wrong place
  misplaced_same : (at : ℕ) (f : Fragment) → seen_at number file at ≡ fragment f → after_misplaced number grown at ≡ after_misplaced number file at
  misplaced_same at f seen =
      let has = (has_whole at f seen).0 in
      let long : header_len number + length_field (drop at file) ≤ length (drop at file) = omega (arith, has, some_header number, length-drop at file) in
      let all : drop at grown ≡ drop at file ++ more = drop-append-le at file more (omega (arith, has)) in
      let code : type_field (drop at grown) ≡ type_field (drop at file) = ap type_field all ∙ type_same number (drop at file) more long in
      let len : length_field (drop at grown) ≡ length_field (drop at file) = ap length_field all ∙ length_same number (drop at file) more long in
      ap (λ (t : ℕ). cond (begins_record (kind_of_code number t)) at (at + (header_len number + length_field (drop at grown)))) code
      ∙ ap (λ (n : ℕ). cond (begins_record (kind_of_code number (type_field (drop at file)))) at (at + (header_len number + n))) len

  there_stays : (next : ℕ) → next < length file → there grown next ≡ Some next
  there_stays next inside = ap (λ (b : Bool). cond b (Some next) None) (lt-ltb next (length grown) (omega (arith, inside, length-append file more)))

  stand_stays : (offset : ℕ) (fs : List Fragment) → HasFragments number file offset fs → HasFragments number grown offset fs
  stand_stays offset [] has = record { rest = drop offset grown; there = refl; fit = tt }
  stand_stays offset (f ∷ fs) has =
      let inside : offset ≤ length file = omega (arith, ap length has.there, length-drop offset file, length-append (fragments_text number offset (f ∷ fs)) has.rest, end_later number offset f fs) in
      record {
        rest = has.rest ++ more;
        there = drop-append-le offset file more inside ∙ (ap (λ (l : List ℕ). l ++ more) has.there ∙ append_assoc (fragments_text number offset (f ∷ fs)) has.rest more);
        fit = has.fit;
      }

  record_stays : (here start end : ℕ) (bytes : List ℕ) → IsRecord number file here start end bytes → IsRecord number grown here start end bytes
  record_stays here start end bytes is = record {
    fragments = is.fragments;
    one = is.one;
    stand = stand_stays here is.fragments is.stand;
    starts = is.starts;
    ends = is.ends;
    bytes_are = is.bytes_are;
    in_file = let within = is.in_file in omega (arith, within, length-append file more);
  }

  -- an end of reading after which it is tried again
  record Again (here at next : ℕ) (why : EndReason) : Type 0 where
    ends : ReadingEnds number grown here at why
    again : later_place number true grown at why ≡ Some next

  end_stays : (here at next : ℕ) (why : EndReason) → ReadingEnds number file here at why → later_place number true file at why ≡ Some next → StaysWhole next → Again here at next why
  end_stays here at next why (clean c) again fine = absurd (cc)
  end_stays here at next why (unfinished f fs c) again fine = absurd (cc)
  end_stays here at next why (broken {d = d} fs c) again fine =
      let goes_on = resumes_there number file at next d again in
      let is = place_there file (after_damage number file at) next goes_on.1 in
      let s : Sees (end_of number here fs) = record { at = at; seen = damage d; is = c.is_next; some = λ e. cc } in
      let stays = damage_stays at next is.0 is.1 fine in
      record {
        ends = broken fs (record { begun = c.begun; stand = stand_stays here fs c.stand; is_next = next_stays (end_of number here fs) s (stays.seen ∙ sees_there (end_of number here fs) s) });
        again = ap (λ (b : Bool). cond b None (there grown (after_damage number grown at))) (begins_same at next is.0 is.1 ∙ goes_on.0)
            ∙ (ap (there grown) stays.after ∙ there_stays next is.1);
      }
  end_stays here at next why (bad_order {f = f} fs c not_begun not_one) again fine =
      let is = place_there file (after_misplaced number file at) next again in
      let s : Sees (end_of number here fs) = record { at = at; seen = fragment f; is = c.is_next; some = λ e. cc } in
      let seen : seen_at number file at ≡ fragment f = sees_there (end_of number here fs) s in
      record {
        ends = bad_order fs (record { begun = c.begun; stand = stand_stays here fs c.stand; is_next = next_stays (end_of number here fs) s (fragment_stays at f seen) }) not_begun not_one;
        again = ap (there grown) (misplaced_same at f seen ∙ is.0) ∙ there_stays next is.1;
      }

  -- From where a record begins, and from where reading ends and is tried again, something is seen.
  sees_first : (here : ℕ) (f : Fragment) (fs : List Fragment) → HasFragments number file here (f ∷ fs) → Sees here
  sees_first here f fs has = record { at = next_place number here; seen = fragment f; is = sym (next_first number file here f fs has); some = λ e. cc }

  sees_record : (here start end : ℕ) (bytes : List ℕ) → IsRecord number file here start end bytes → Sees here
  sees_record here start end bytes is = by_fragments is.fragments is.one is.stand
    where
      by_fragments : (fs : List Fragment) → AreOneRecord (kinds_of fs) → HasFragments number file here fs → Sees here
      by_fragments [] one has = absurd one
      by_fragments (f ∷ fs) one has = sees_first here f fs has

  sees_these : (here at : ℕ) (fs : List Fragment) (t : Seen) → (t ≡ nothing → ⊥) → HasFragments number file here fs → record { at = at; seen = t } ≡ next_seen number file (end_of number here fs) → Sees here
  sees_these here at [] t some has is = record { at = at; seen = t; is = is ∙ ap (next_seen number file) (end_none number here); some = some }
  sees_these here at (f ∷ fs) t some has is = sees_first here f fs has

  sees_end : (here at next : ℕ) (why : EndReason) → ReadingEnds number file here at why → later_place number true file at why ≡ Some next → Sees here
  sees_end here at next why (clean c) again = absurd (cc)
  sees_end here at next why (unfinished f fs c) again = absurd (cc)
  sees_end here at next why (broken {d = d} fs c) again = sees_these here at fs (damage d) (λ h. cc) c.stand c.is_next
  sees_end here at next why (bad_order {f = f} fs c not_begun not_one) again = sees_these here at fs (fragment f) (λ h. cc) c.stand c.is_next

  skips_stay : (place here : ℕ) (lost : Option Lost) → Skips number true file place here lost → Sees here → Skips number true grown place here lost
  skips_stay place here lost not_skipped s = not_skipped
  skips_stay place here lost (skipped_first {at = at} {why = why} x again) s =
      let stays = end_stays place at here why x again (stays_whole here s) in
      skipped_first stays.ends stays.again
  skips_stay place here lost (skipped_again {before = b} {at = at} {why = why} {lost = first} before x again) s =
      let stays = end_stays b at here why x again (stays_whole here s) in
      skipped_again (skips_stay place b (Some first) before (sees_end b at here why x again)) stays.ends stays.again

  -- without going on after damage nothing is skipped
  skips_none : (place here : ℕ) (lost : Option Lost) → Skips number false file place here lost → Skips number false grown place here lost
  skips_none place here lost not_skipped = not_skipped
  skips_none place here lost (skipped_first x again) = absurd (cc)
  skips_none place here lost (skipped_again before x again) = absurd (cc)

  any_skips : (goes_on : Bool) (place here start end : ℕ) (bytes : List ℕ) (lost : Option Lost) → Skips number goes_on file place here lost → IsRecord number file here start end bytes → Skips number goes_on grown place here lost
  any_skips true place here start end bytes lost skips is = skips_stay place here lost skips (sees_record here start end bytes is)
  any_skips false place here start end bytes lost skips is = skips_none place here lost skips

pub found_stays : (number : Option ℕ) (goes_on : Bool) (file more : List ℕ) (from place : ℕ) (items : List Item) → Finds number goes_on file from items place → Finds number goes_on (file ++ more) from items place
found_stays number goes_on file more from place items found_none = found_none
found_stays number goes_on file more from place items (found_more {items = earlier} {place = p} {here = h} {start = s} {end = e} {lost = lost} {bytes = bytes} before skipped is) =
    found_more (found_stays number goes_on file more from p earlier before) (any_skips number file more goes_on p h s e bytes lost skipped is) (record_stays number file more h s e bytes is)
