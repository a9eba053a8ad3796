-- The way of a reader through a file: over fragments, whether a record is begun or not, and over damage. It depends on
-- the place alone, and so it is the same from wherever reading began anew.
use Rattle.std.proofs.Common.{◌≡◌, ℕ, zero, suc, ◌+◌, ◌-◌, ◌*◌, ◌<◌, ◌≤◌, Bool, true, false, cond, List, [], ◌∷◌, ◌++◌, length, take, drop, Option, Some, None, nat_le, nat_lt, not, bytes_eq, ◌==◌, ◌&&◌, refl, sym, ◌∙◌, ap, subst, arith, length-take, length-drop}
use Rattle.std.proofs.lemmas.Bool.{ltb-true, ltb-false, lt-ltb, eqb-true}
use Rattle.std.proofs.lemmas.Nat.{mod_below}
use Rattle.model_base.specs.declared.log.Damage.{Damage}
use Rattle.model_base.specs.declared.log.Damage.TheVariants.{ShortHeader, Zeros, BadLength, BadChecksum, BadTrailer, OldLog}
use Rattle.std.specs.Int.{w32, to_le_bytes}
use Rattle.model_base.specs.Checksum.{crc32c, masked}
use Rattle.model_base.specs.Log.{Kind, Fragment, header_len, room, trailer, next_place}
use Rattle.model_base.specs.Reading.{Seen, Next, fragment, nothing, damage, seen_within, seen_at, next_seen, behind_zeros, are_zeros, checksum_field, length_field, number_field, part_field, kind_of_code, type_field, seen_of_kind, seen_of_kind_numbered, HasFragments, end_of}
use Rattle.log_laws.proofs.Next.{cases_bool}
use Rattle.log_laws.proofs.Placed.{behind, end_none, end_more}
use Rattle.log_laws.proofs.ReadSynced.{next_first, stand_rest}
use Rattle.log_recovery_laws.proofs.NextFragment.{next_begins}
use Rattle.log_recovery_laws.proofs.SeenFragment.{fragment_is}
use Rattle.log_reader.specs.Damaged.{is_damaged}
use Rattle.log_scan.specs.Resuming.{fragment_len, next_block, after_damage}
use Rattle.log_scan.proofs.Places.{some_header, after_damage_later, next_after}

-- from this place the reader comes to where it sees `target`
pub data Leads (number : Option ℕ) (file : List ℕ) (target : Next) : ℕ → Type 0 where
  arrives : {v : ℕ} → next_seen number file v ≡ target → Leads number file target v
  past_fragment : {v at : ℕ} (f : Fragment) → record { at = at; seen = fragment f } ≡ next_seen number file v → Leads number file target (behind number v f) → Leads number file target v
  past_damage : {v at : ℕ} (d : Damage) → record { at = at; seen = damage d } ≡ next_seen number file v → Leads number file target (after_damage number file at) → Leads number file target v

-- the way goes forward
pub leads_up : (number : Option ℕ) (file : List ℕ) (target : Next) (v : ℕ) → Leads number file target v → v ≤ target.at
leads_up number file target v (arrives e) = next_after number file v target.at target.seen (sym e)
leads_up number file target v (past_fragment f e more) = omega (arith, leads_up number file target (behind number v f) more)
leads_up number file target v (past_damage {at = at} d e more) =
    omega (arith, next_after number file v at (damage d) e, after_damage_later number file at, leads_up number file target (after_damage number file at) more)

-- one way after another
pub lead_on : (number : Option ℕ) (file : List ℕ) (between target : Next) (v : ℕ) → Leads number file between v → ((w : ℕ) → next_seen number file w ≡ between → Leads number file target w) → Leads number file target v
lead_on number file between target v (arrives e) on = on v e
lead_on number file between target v (past_fragment f e more) on = past_fragment f e (lead_on number file between target (behind number v f) more on)
lead_on number file between target v (past_damage {at = at} d e more) on = past_damage d e (lead_on number file between target (after_damage number file at) more on)

-- it depends only on what the reader sees next
pub same_way : (number : Option ℕ) (file : List ℕ) (target : Next) (v w : ℕ) → next_seen number file w ≡ next_seen number file v → Leads number file target v → Leads number file target w
same_way number file target v w same (arrives e) = arrives (same ∙ e)
same_way number file target v w same (past_fragment {at = at} f e more) =
    let is : record { at = at; seen = fragment f } ≡ next_seen number file w = e ∙ sym same in
    let place : next_place number v ≡ next_place number w = sym (next_begins number file v at f e) ∙ next_begins number file w at f is in
    past_fragment f is (subst (λ (n : ℕ). Leads number file target (n + header_len number + length f.part)) place more)
same_way number file target v w same (past_damage d e more) = past_damage d (e ∙ sym same) more

-- over the first fragments of those that follow one another
pub lead_over : (number : Option ℕ) (file : List ℕ) (target : Next) (v : ℕ) (fs gs : List Fragment) → HasFragments number file v (fs ++ gs) → Leads number file target (end_of number v fs) → Leads number file target v
lead_over number file target v [] gs stand leads = subst (Leads number file target) (end_none number v) leads
lead_over number file target v (f ∷ fs) gs stand leads =
    past_fragment f (sym (next_first number file v f (fs ++ gs) stand))
    (lead_over number file target (behind number v f) fs gs (stand_rest number file v f (fs ++ gs) stand) (subst (Leads number file target) (end_more number v f fs) leads))

-- Where the file goes on and nothing is seen, the block has no room for a header.
never_kind : (bytes : List ℕ) (o : Option Kind) → seen_of_kind bytes o ≡ nothing → ⊥
never_kind bytes None e = cc
never_kind bytes (Some k) e = by_test _ _ _ e
  where
    by_test : (b : Bool) (f : Fragment) (d : Damage) → cond b (fragment f) (damage d) ≡ nothing → ⊥
    by_test true f d h = cc
    by_test false f d h = cc

never_numbered : (n : ℕ) (bytes : List ℕ) (o : Option Kind) → seen_of_kind_numbered n bytes o ≡ nothing → ⊥
never_numbered n bytes None e = cc
never_numbered n bytes (Some k) e =
    by_tests (not (bytes_eq (take 4 (drop 7 bytes)) (to_le_bytes w32 n))) (nat_lt (length bytes) (11 + length_field bytes))
    (checksum_field bytes == masked (crc32c (type_field bytes ∷ to_le_bytes w32 n ++ part_field (Some n) bytes))) (record { kind = k; part = part_field (Some n) bytes }) (OldLog (number_field bytes)) BadLength BadChecksum e
  where
    by_tests : (a b c : Bool) (f : Fragment) (d p q : Damage) → cond a (damage d) (cond b (damage p) (cond c (fragment f) (damage q))) ≡ nothing → ⊥
    by_tests true b c f d p q h = cc
    by_tests false true c f d p q h = cc
    by_tests false false true f d p q h = cc
    by_tests false false false f d p q h = cc

no_room : (number : Option ℕ) (space : ℕ) (bytes : List ℕ) → 0 < length bytes → seen_within number space bytes ≡ nothing → space < header_len number
unfolding seen_within
no_room None space bytes some e = cases_bool (nat_lt space 7) (λ few. ltb-true space 7 few)
    (λ many. absurd (by_tests (nat_lt space 7) (length bytes == 0) (nat_lt (length bytes) 7) (are_zeros (take 7 bytes)) (nat_lt (length bytes) (7 + length_field bytes)) many
    (λ none. omega (arith, some, eqb-true (length bytes) 0 none)) e))
  where
    by_tests : (a b c d l : Bool) → a ≡ false → (b ≡ true → ⊥) → cond a (cond (are_zeros bytes) nothing (damage BadTrailer)) (cond b nothing (cond c (damage ShortHeader) (cond d (damage Zeros) (cond l (damage BadLength) (seen_of_kind bytes (kind_of_code None (type_field bytes))))))) ≡ nothing → ⊥
    by_tests true b c d l many not_none h = cc
    by_tests false true c d l many not_none h = not_none refl
    by_tests false false true d l many not_none h = cc
    by_tests false false false true l many not_none h = cc
    by_tests false false false false true many not_none h = cc
    by_tests false false false false false many not_none h = never_kind bytes (kind_of_code None (type_field bytes)) h
no_room (Some n) space bytes some e = cases_bool (nat_lt space 11) (λ few. ltb-true space 11 few)
    (λ many. absurd (by_tests (nat_lt space 11) (length bytes == 0) (nat_lt (length bytes) 11) (are_zeros (take 11 bytes)) many
    (λ none. omega (arith, some, eqb-true (length bytes) 0 none)) e))
  where
    by_tests : (a b c d : Bool) → a ≡ false → (b ≡ true → ⊥) → cond a (cond (are_zeros bytes) nothing (damage BadTrailer)) (cond b nothing (cond c (damage ShortHeader) (cond d (damage Zeros) (seen_of_kind_numbered n bytes (kind_of_code (Some n) (type_field bytes)))))) ≡ nothing → ⊥
    by_tests true b c d many not_none h = cc
    by_tests false true c d many not_none h = not_none refl
    by_tests false false true d many not_none h = cc
    by_tests false false false true many not_none h = cc
    by_tests false false false false many not_none h = never_numbered n bytes (kind_of_code (Some n) (type_field bytes)) h

room_there : (number : Option ℕ) (file : List ℕ) (v : ℕ) → v < length file → seen_at number file v ≡ nothing → room v < header_len number
room_there number file v inside e =
    no_room number (room v) (take (room v) (drop v file)) (omega (arith, inside, length-take (room v) (drop v file), length-drop v file, mod_below v 32768 (omega arith))) e

-- no zeros are due at a block's start
abbrev pub start_of : ℕ → ℕ
start_of block = 32768 * block

few : (number : Option ℕ) (block : ℕ) → nat_lt (room (start_of block)) (header_len number) ≡ false
few None block = cases_bool (nat_lt (room (start_of block)) 7) (λ less. absurd (omega (arith, ltb-true (room (start_of block)) 7 less))) (λ many. many)
few (Some n) block = cases_bool (nat_lt (room (start_of block)) 11) (λ less. absurd (omega (arith, ltb-true (room (start_of block)) 11 less))) (λ many. many)

pub at_start : (number : Option ℕ) (block : ℕ) → next_place number (start_of block) ≡ start_of block
at_start None block = omega (arith, ap (λ (b : Bool). cond b (room (start_of block)) 0) (few None block))
at_start (Some n) block = omega (arith, ap (λ (b : Bool). cond b (room (start_of block)) 0) (few (Some n) block))

abbrev pub first_of : Option ℕ → List ℕ → ℕ → Next
first_of number file block = record { at = start_of block; seen = seen_at number file (start_of block) }

-- at a block's start the reader sees what is there
pub seen_first : (number : Option ℕ) (file : List ℕ) (block : ℕ) → start_of block < length file → next_seen number file (start_of block) ≡ first_of number file block
seen_first number file block inside = by_seen (seen_at number file (start_of block)) refl
  where
    by_seen : (s : Seen) → seen_at number file (start_of block) ≡ s → behind_zeros number file (start_of block) (seen_at number file (start_of block)) ≡ record { at = start_of block; seen = seen_at number file (start_of block) }
    by_seen nothing seen = absurd (by_number number (room_there number file (start_of block) inside seen))
      where
        by_number : (m : Option ℕ) → room (start_of block) < header_len m → ⊥
        by_number None less = omega (arith, less)
        by_number (Some n) less = omega (arith, less)
    by_seen (damage d) seen = rw seen refl
    by_seen (fragment f) seen = rw seen refl

-- after damage the way goes on in the same block, or at its end
damage_within : (number : Option ℕ) (file : List ℕ) (at : ℕ) → after_damage number file at ≤ at + room at
damage_within number file at =
    by_tests (nat_le (at + header_len number) (length file)) (nat_lt (fragment_len number (drop at file)) (room at)) (not (is_damaged number file (at + fragment_len number (drop at file)))) refl
  where
    by_tests : (a l c : Bool) → nat_lt (fragment_len number (drop at file)) (room at) ≡ l
        → cond (a && l && c) (at + fragment_len number (drop at file)) (next_block at) ≤ at + room at
    by_tests true true true e = omega (arith, ltb-true (fragment_len number (drop at file)) (room at) e)
    by_tests true true false e = omega arith
    by_tests true false c e = omega arith
    by_tests false l c e = omega arith

-- Within a block the way leads to the next one's start.
module _ (number : Option ℕ) (file : List ℕ) (block : ℕ) (inside : start_of (suc block) < length file) where
  LeadsNext : ℕ → Type 0
  LeadsNext v = Leads number file (first_of number file (suc block)) v

  Within : ℕ → Type 0
  Within v = (start_of block < v) × (v ≤ start_of (suc block))

  -- from a fragment that is seen at a place of the block
  after_fragment : (v : ℕ) (f : Fragment) → start_of block ≤ v → v < start_of (suc block) → seen_at number file v ≡ fragment f → Within (v + header_len number + length f.part)
  unfolding Within
  after_fragment v f low high seen =
      let bytes = take (room v) (drop v file) in
      let is = fragment_is number (room v) bytes f seen in
      let part : length f.part ≤ length_field bytes = omega (arith, ap length is.part_is, length-take (length_field bytes) (drop (header_len number) bytes)) in
      (omega (arith, low, some_header number), omega (arith, low, high, is.there, part, length-take (room v) (drop v file)))

  after_broken : (v : ℕ) → start_of block ≤ v → v < start_of (suc block) → Within (after_damage number file v)
  unfolding Within
  after_broken v low high = (omega (arith, low, after_damage_later number file v), omega (arith, low, high, damage_within number file v))

  walk : (fuel v : ℕ) → Within v → start_of (suc block) - v < fuel → LeadsNext v
  unfolding Within LeadsNext
  walk zero v in_block enough = absurd (omega (arith, enough))
  walk (suc fuel) v in_block enough = cases_bool (nat_lt v (start_of (suc block)))
      (λ less. by_seen (walk fuel) (ltb-true v (start_of (suc block)) less) (seen_at number file v) refl)
      (λ not_less. let there : start_of (suc block) ≡ v = omega (arith, in_block.1, ltb-false v (start_of (suc block)) not_less) in subst LeadsNext there (arrives (seen_first number file (suc block) inside)))
    where
      by_seen : ((w : ℕ) → Within w → start_of (suc block) - w < fuel → LeadsNext w) → v < start_of (suc block) → (s : Seen) → seen_at number file v ≡ s → LeadsNext v
      by_seen on less nothing seen =
          let tight : room v < header_len number = room_there number file v (omega (arith, less, inside)) seen in
          let due : trailer number v ≡ room v = ap (λ (b : Bool). cond b (room v) 0) (lt-ltb (room v) (header_len number) tight) in
          let next : next_place number v ≡ start_of (suc block) = omega (arith, due, in_block.0, less) in
          arrives (ap (behind_zeros number file v) seen ∙ ap (λ (n : ℕ). record { at = n; seen = seen_at number file n }) next)
      by_seen on less (damage d) seen =
          let in_next = after_broken v (omega (arith, in_block.0)) less in
          past_damage d (sym (ap (behind_zeros number file v) seen)) (on (after_damage number file v) in_next (omega (arith, enough, in_next.1, after_damage_later number file v)))
      by_seen on less (fragment f) seen =
          let e : record { at = v; seen = fragment f } ≡ next_seen number file v = sym (ap (behind_zeros number file v) seen) in
          let here : v ≡ next_place number v = next_begins number file v v f e in
          let in_next : Within (behind number v f) = subst (λ (n : ℕ). Within (n + header_len number + length f.part)) here (after_fragment v f (omega (arith, in_block.0)) less seen) in
          past_fragment f e (on (behind number v f) in_next (omega (arith, enough, in_next.1, some_header number)))

  -- from where the reader sees what is at the block's start
  next_block_comes : (w : ℕ) → next_seen number file w ≡ first_of number file block → LeadsNext w
  unfolding LeadsNext Within
  next_block_comes w e = by_seen (seen_at number file (start_of block)) refl
    where
      by_seen : (s : Seen) → seen_at number file (start_of block) ≡ s → LeadsNext w
      by_seen nothing seen = absurd (by_number number (room_there number file (start_of block) (omega (arith, inside)) seen))
        where
          by_number : (m : Option ℕ) → room (start_of block) < header_len m → ⊥
          by_number None less = omega (arith, less)
          by_number (Some n) less = omega (arith, less)
      by_seen (damage d) seen =
          past_damage d (sym (e ∙ ap (λ (s : Seen). record { at = start_of block; seen = s }) seen))
          (walk (suc (start_of (suc block))) (after_damage number file (start_of block)) (after_broken (start_of block) (omega arith) (omega arith)) (omega arith))
      by_seen (fragment f) seen =
          let is : record { at = start_of block; seen = fragment f } ≡ next_seen number file w = sym (e ∙ ap (λ (s : Seen). record { at = start_of block; seen = s }) seen) in
          let in_next : Within (behind number w f) = subst (λ (n : ℕ). Within (n + header_len number + length f.part)) (next_begins number file w (start_of block) f is) (after_fragment (start_of block) f (omega arith) (omega arith) seen) in
          past_fragment f is (walk (suc (start_of (suc block))) (behind number w f) in_next (omega arith))

-- So the way leads from any place to the start of each block after it.
pub leads_to_block : (number : Option ℕ) (file : List ℕ) (block from : ℕ) → from ≤ start_of block → start_of block < length file → Leads number file (first_of number file block) from
unfolding LeadsNext Within
leads_to_block number file zero from up inside =
    let here : 0 ≡ from = omega (arith, up) in
    subst (Leads number file (first_of number file 0)) here (arrives (seen_first number file 0 inside))
leads_to_block number file (suc block) from up inside = cases_bool (nat_lt (start_of block) from)
    (λ less. walk number file block inside (suc (start_of (suc block))) from (ltb-true (start_of block) from less, up) (omega arith))
    (λ not_less. lead_on number file (first_of number file block) (first_of number file (suc block)) from
    (leads_to_block number file block from (ltb-false (start_of block) from not_less) (omega (arith, inside))) (next_block_comes number file block inside))
