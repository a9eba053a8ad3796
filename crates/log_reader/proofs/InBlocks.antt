-- What is seen in a block is what a reader of the file sees next.
use Rattle.std.proofs.Common.{◌≡◌, ℕ, ◌+◌, ◌-◌, ◌%◌, ◌<◌, ◌≤◌, List, [], length, take, drop, slice_range, Option, refl, sym, ◌∙◌, ap, subst, arith, nat_lt, length-take, length-drop}
use Rattle.std.proofs.Math.ListN.{drop_of_length-le}
use Rattle.std.proofs.lemmas.List.{drop-take, drop-drop}
use Rattle.std.proofs.lemmas.Bool.{ltb-true, ltb-false}
use Rattle.model_base.specs.declared.log.Damage.{Damage}
use Rattle.model_base.specs.Log.{Fragment, header_len, room, next_place}
use Rattle.model_base.specs.Reading.{Seen, Next, fragment, nothing, damage, seen_within, seen_at, seen_in_block, next_seen, behind_zeros}
use Rattle.log_block.specs.declared.fragments.Seen.{Seen as Answer}
use Rattle.log_block.specs.declared.fragments.Seen.TheVariants as answers
use Rattle.log_block.specs.Fragments.{IsFragmentAt, Tells}
use Rattle.log_reader.specs.Blocks.{IsBlock, SeesSameFrom, IsNext, SeenThere, PartIn}
use Rattle.log_laws.proofs.Seen.{header_small}
use Rattle.log_laws.proofs.Next.{cases_bool, seen_past}
use Rattle.log_laws.proofs.Placed.{behind, end_none, end_more}
use Rattle.log_recovery_laws.specs.Reads.{AreBytes}
use Rattle.log_recovery_laws.proofs.Bytes.{bytes_drop}
use Rattle.log_recovery_laws.proofs.SeenFragment.{fragment_is}
use Rattle.log_reader.proofs.NextSeen.{header_some, none_due, some_due, seen_none, IsNothing, nothing_is, zeros_left, none_left, next_stands}

-- how many bytes of the block are left at a place of it, computed from the offset in the file
pub room_in_block : (start at : ℕ) → start % 32768 ≡ 0 → at < 32768 → room (start + at) ≡ 32768 - at
room_in_block start at aligned less = omega arith

-- the block's bytes from that place on, as bytes of the file
pub there_in_block : (file : List ℕ) (start at : ℕ) → at ≤ 32768 → drop at (take 32768 (drop start file)) ≡ take (32768 - at) (drop (start + at) file)
there_in_block file start at le =
    let whole : 32768 ≡ at + (32768 - at) = omega arith in
    ap (λ (n : ℕ). drop at (take n (drop start file))) whole ∙ (drop-take at (32768 - at) (drop start file) ∙ ap (take (32768 - at)) (drop-drop at start file))

-- what is seen in the bytes of a block is what the file has there
pub seen_in_bytes : (number : Option ℕ) (file block : List ℕ) (start at : ℕ) → start % 32768 ≡ 0 → block ≡ take 32768 (drop start file) → at < 32768 → seen_at number file (start + at) ≡ seen_in_block number block at
seen_in_bytes number file block start at aligned bytes less =
    ap (λ (n : ℕ). seen_within number n (take n (drop (start + at) file))) (room_in_block start at aligned less)
    ∙ ap (seen_within number (32768 - at)) (sym (ap (drop at) bytes ∙ there_in_block file start at (omega arith)))

seen_as_block : (number : Option ℕ) (file block : List ℕ) (start at : ℕ) → IsBlock file start block → at < 32768 → seen_at number file (start + at) ≡ seen_in_block number block at
seen_as_block number file block start at is less = seen_in_bytes number file block start at is.aligned is.bytes less

-- where the elements of the block are bytes, so are those of the file from that place to the end of the block
bytes_there : (file block : List ℕ) (start at : ℕ) → IsBlock file start block → at < 32768 → AreBytes block → AreBytes (take (room (start + at)) (drop (start + at) file))
bytes_there file block start at is less are =
    subst AreBytes
    (ap (drop at) is.bytes ∙ (there_in_block file start at (omega arith) ∙ ap (λ (n : ℕ). take n (drop (start + at) file)) (sym (room_in_block start at is.aligned less))))
    (bytes_drop at block are)

block_len : (file block : List ℕ) (start : ℕ) → IsBlock file start block → length block ≤ 32768
block_len file block start is = omega (arith, ap length is.bytes, length-take 32768 (drop start file))

-- after the block's last byte nothing is seen in it
pub seen_behind : (number : Option ℕ) (block : List ℕ) (at : ℕ) → length block ≤ at → seen_in_block number block at ≡ nothing
seen_behind number block at past = ap (seen_within number (32768 - at)) (drop_of_length-le block past) ∙ seen_none number (32768 - at)

-- a fragment in the block is what the reader of the file sees next
pub sees_fragment : (number : Option ℕ) (file block : List ℕ) (start at kept : ℕ) (f : Fragment) → IsBlock file start block → SeesSameFrom number file kept (start + at) → seen_in_block number block at ≡ fragment f
    → (at < 32768) × (next_seen number file kept ≡ record { at = start + at; seen = fragment f })
sees_fragment number file block start at kept f is reaches seen =
    let room = (fragment_is number (32768 - at) (drop at block) f seen).room in
    let less : at < 32768 = omega (arith, room, header_some number) in
    (less, reaches ∙ ap (behind_zeros number file (start + at)) (seen_as_block number file block start at is less ∙ seen))

-- and so is damage
pub sees_damage : (number : Option ℕ) (file block : List ℕ) (start at kept : ℕ) (d : Damage) → IsBlock file start block → SeesSameFrom number file kept (start + at) → seen_in_block number block at ≡ damage d
    → next_seen number file kept ≡ record { at = start + at; seen = damage d }
sees_damage number file block start at kept d is reaches seen = cases_bool (nat_lt at 32768)
    (λ less. reaches ∙ ap (behind_zeros number file (start + at)) (seen_as_block number file block start at is (ltb-true at 32768 less) ∙ seen))
    (λ past. absurd (let past_end : length block ≤ at = omega (arith, block_len file block start is, ltb-false at 32768 past) in
    let wrong : nothing ≡ damage d = sym (seen_behind number block at past_end) ∙ seen in cc))

-- at the start of a block the reader sees what is there
next_at_start : (number : Option ℕ) (file : List ℕ) (start : ℕ) → start % 32768 ≡ 0 → next_seen number file start ≡ record { at = start; seen = seen_at number file start }
next_at_start number file start aligned = by_seen (seen_at number file start) refl
  where
    by_seen : (s : Seen) → seen_at number file start ≡ s → behind_zeros number file start s ≡ record { at = start; seen = s }
    by_seen (fragment f) e = refl
    by_seen (damage d) e = refl
    by_seen nothing e =
        let here : next_place number start ≡ start = none_due number start (omega (arith, header_small number)) in
        ap (λ (n : ℕ). record { at = n; seen = seen_at number file n }) here ∙ ap (λ (s : Seen). record { at = start; seen = s }) e

-- where nothing more is seen in a whole block, the reader goes on in the next one
pub goes_on : (number : Option ℕ) (file block : List ℕ) (start at kept : ℕ) → IsBlock file start block → length block ≡ 32768 → at ≤ length block → SeesSameFrom number file kept (start + at) → seen_in_block number block at ≡ nothing
    → SeesSameFrom number file kept (start + 32768)
goes_on number file block start at kept is full in_block reaches seen = cases_bool (nat_lt at 32768)
    (λ less. by_nothing (ltb-true at 32768 less) (nothing_is number (32768 - at) (drop at block) seen))
    (λ past. let at_end : at ≡ 32768 = omega (arith, ltb-false at 32768 past, full, in_block) in reaches ∙ ap (λ (n : ℕ). next_seen number file (start + n)) at_end)
  where
    by_nothing : at < 32768 → IsNothing number (32768 - at) (drop at block) → SeesSameFrom number file kept (start + 32768)
    by_nothing less (none_left many none) = absurd (omega (arith, length-drop at block, none, full, less))
    by_nothing less (zeros_left few zeros) =
        let room_is = room_in_block start at is.aligned less in
        let aligned = is.aligned in
        let due : next_place number (start + at) ≡ start + 32768 = some_due number (start + at) (omega (arith, room_is, few)) ∙ omega (arith, room_is, less) in
        let next : (start + 32768) % 32768 ≡ 0 = omega arith in
        reaches ∙ (ap (behind_zeros number file (start + at)) (seen_as_block number file block start at is less ∙ seen)
        ∙ (ap (λ (n : ℕ). record { at = n; seen = seen_at number file n }) due ∙ sym (next_at_start number file (start + 32768) next)))

-- where nothing more is seen in a block that the file ends in, the reader sees nothing more
ends_there : (number : Option ℕ) (file block : List ℕ) (start at kept : ℕ) → IsBlock file start block → length block < 32768 → at ≤ length block → SeesSameFrom number file kept (start + at) → seen_in_block number block at ≡ nothing
    → ((next_seen number file kept).seen ≡ nothing) × (length file ≡ start + length block)
ends_there number file block start at kept is short in_block reaches seen =
    let less : at < 32768 = omega (arith, short, in_block) in
    let file_len : length file ≡ start + length block = omega (arith, ap length is.bytes, length-take 32768 (drop start file), length-drop start file, is.in_file, short) in
    let seen_here : seen_at number file (start + at) ≡ nothing = seen_as_block number file block start at is less ∙ seen in
    let room_is = room_in_block start at is.aligned less in
    let seen_next : seen_at number file (next_place number (start + at)) ≡ nothing = cases_bool (nat_lt (room (start + at)) (header_len number))
    (λ few. let due = some_due number (start + at) (ltb-true (room (start + at)) (header_len number) few) in seen_past number file (next_place number (start + at)) (omega (arith, due, room_is, file_len, short)))
    (λ many. ap (seen_at number file) (none_due number (start + at) (ltb-false (room (start + at)) (header_len number) many)) ∙ seen_here) in
    (ap (λ (n : Next). n.seen) reaches ∙ (ap (λ (s : Seen). (behind_zeros number file (start + at) s).seen) seen_here ∙ seen_next), file_len)

-- the fragment that is seen in the block is what the reader sees next
comes_there : (number : Option ℕ) (file block : List ℕ) (start at code from to offset : ℕ) → AreBytes block → IsBlock file start block → SeesSameFrom number file offset (start + at)
    → IsFragmentAt number block at code from to (seen_in_block number block at) → IsNext number file offset start block at code from to
comes_there number file block start at code from to offset are is reaches s =
    let f : Fragment = record { kind = s.of_kind; part = slice_range block from to } in
    let sees = sees_fragment number file block start at offset f is reaches s.is_seen in
    let comes = next_stands number file offset (start + at) f (bytes_there file block start at is sees.0 are) sees.1 in
    let place = comes.place_is in
    let ends : behind number offset f ≡ start + to = omega (arith, length-take (to - from) (drop from block), length-drop from block, s.behind_header, s.ordered, s.in_block, place) in
    let within = comes.within in
    record {
      kind = s.of_kind;
      code_is = s.code;
      seen = sees.1;
      place = place;
      stands = comes.stand;
      end = end_more number offset f [] ∙ (end_none number (behind number offset f) ∙ ends);
      in_file = omega (arith, within, ends);
    }

-- a whole block ends within the file, which may go on after it
pub next_in_file : (file block : List ℕ) (start : ℕ) → IsBlock file start block → length block ≡ 32768 → start + 32768 ≤ length file
next_in_file file block start is full = omega (arith, ap length is.bytes, length-take 32768 (drop start file), length-drop start file, is.in_file)

-- what is seen at a place of a block is what the reader sees next, except at the end of a whole block
pub seen_there : (number : Option ℕ) (file block : List ℕ) (start at offset : ℕ) (answer : Answer) → length block ≤ 32768 → at ≤ length block → AreBytes block → IsBlock file start block → SeesSameFrom number file offset (start + at)
    → Tells number block at answer (seen_in_block number block at) → SeenThere number file offset start block at answer
seen_there number file block start at offset (answers.Fragment code from to) in_block inside are is reaches tells = comes_there number file block start at code from to offset are is reaches tells
seen_there number file block start at offset answers.End in_block inside are is reaches tells = (
  (λ full. goes_on number file block start at offset is full inside reaches tells),
  (λ short. ends_there number file block start at offset is short inside reaches tells),
)
seen_there number file block start at offset (answers.Damage d) in_block inside are is reaches tells = sees_damage number file block start at offset d is reaches tells

-- the part of a fragment that is seen there lies in the block
pub part_in : (number : Option ℕ) (block : List ℕ) (at : ℕ) (answer : Answer) (seen : Seen) → Tells number block at answer seen → PartIn (length block) at answer
part_in number block at (answers.Fragment code from to) seen tells = let behind_header = tells.behind_header in (omega (arith, behind_header, header_some number), tells.ordered, tells.in_block)
part_in number block at answers.End seen tells = tt
part_in number block at (answers.Damage d) seen tells = tt
