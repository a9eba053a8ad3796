-- What a reader sees in its window.
use Rattle.std.proofs.Common.{◌≡◌, ◌⊎◌, inl, inr, ℕ, ◌+◌, ◌-◌, ◌<◌, ◌≤◌, min, List, length, take, drop, slice_range, nat_lt, Option, true, refl, sym, ◌∙◌, ap, subst, arith, length-take, length-drop}
use Rattle.std.proofs.lemmas.Bool.{lt-ltb, le-ltb, cases_lt}
use Rattle.std.proofs.lemmas.List.{take_all}
use Rattle.model_base.specs.Log.{room}
use Rattle.model_base.specs.Reading.{next_seen, seen_at, seen_in_block}
use Rattle.log_laws.proofs.Next.{seen_past}
use Rattle.log_block.specs.declared.fragments.Seen.{Seen}
use Rattle.log_block.specs.declared.fragments.Seen.TheVariants as seen
use Rattle.log_reader.specs.declared.window.Window.{Window}
use Rattle.log_reader.specs.Blocks.{IsBlock, SeesSameFrom, SeenNext, SeenThere, PartIn}
use Rattle.log_reader.specs.Opens.{starts_at}
use Rattle.log_reader.specs.Windows.{IsSound, IsOn, IsMovedTo, HasBytes, offset_of, bytes_of}
use Rattle.log_reader.proofs.InBlocks.{room_in_block, there_in_block, seen_in_bytes, seen_behind}

-- A reader of a log of this format that was at the old window is at the new one: if the old one is on the file, so is
-- the new one, and from both the same is seen next.
abbrev pub Stands : Option ℕ → Window → Window → List ℕ → Type 0
Stands number old new d = IsOn d old → IsOn d new × SeesSameFrom number d (offset_of old) (offset_of new)

-- reading the block doesn't move the reader
pub filled : (number : Option ℕ) (d : List ℕ) (old mid new : Window) → new.start ≡ mid.start → new.at ≡ mid.at → Stands number old mid d → (IsOn d mid → IsOn d new) → Stands number old new d
filled number d old mid new start at stands on = λ begins.
    let h = stands begins in
    let same : offset_of mid ≡ offset_of new = omega (arith, start, at) in
    (on h.0, h.1 ∙ ap (next_seen number d) same)

-- what is seen in its block is what it sees next, except at the end of a whole block
pub seen_from : (number : Option ℕ) (d : List ℕ) (old w : Window) (slice : List ℕ) (s : Seen) → slice ≡ w.room.items → w.is_read ≡ true → Stands number old w d
    → ((file : List ℕ) (start offset : ℕ) → IsBlock file start (take w.len slice) → SeesSameFrom number file offset (start + w.at) → SeenThere number file offset start (take w.len slice) w.at s)
    → IsOn d old → SeenThere number d (offset_of old) w.start (bytes_of w) w.at s
seen_from number d old w slice s same read stands sees begins =
    let h = stands begins in
    subst (λ (l : List ℕ). SeenThere number d (offset_of old) w.start (take w.len l) w.at s) same
    (sees d w.start (offset_of old) (subst (λ (l : List ℕ). IsBlock d w.start (take w.len l)) (sym same) (h.0.block read)) h.1)

-- anything but the end of a block is what it sees next
pub not_end : (number : Option ℕ) (file : List ℕ) (offset start : ℕ) (block : List ℕ) (at : ℕ) (s : Seen) → (s ≡ seen.End → ⊥) → SeenThere number file offset start block at s → SeenNext number file offset start block at s
not_end number file offset start block at (seen.Fragment code from to) other there = there
not_end number file offset start block at seen.End other there = absurd (other refl)
not_end number file offset start block at (seen.Damage d) other there = there

-- at the end of a whole block it goes on in the next one
pub goes_on : (number : Option ℕ) (d : List ℕ) (old w new : Window) → w.is_read ≡ true → length (bytes_of w) ≡ 32768 → offset_of new ≡ w.start + 32768 → ((file : List ℕ) → IsOn file w → IsOn file new) → Stands number old w d
    → (IsOn d old → SeenThere number d (offset_of old) w.start (bytes_of w) w.at seen.End) → Stands number old new d
goes_on number d old w new read full there on stands sees = λ begins. (
  on d (stands begins).0,
  (sees begins).0 full ∙ ap (next_seen number d) (sym there),
)

-- the block has `len` bytes
pub length-bytes : (w : Window) → IsSound w → length (bytes_of w) ≡ w.len
length-bytes w sound = omega (arith, length-take w.len w.room.items, sound.room, sound.in_room)

pub lies : (w : Window) (slice : List ℕ) (s : Seen) → IsSound w → slice ≡ w.room.items → PartIn (length (take w.len slice)) w.at s → PartIn w.len w.at s
lies w slice s sound same is = subst (λ (n : ℕ). PartIn n w.at s) (ap (λ (l : List ℕ). length (take w.len l)) same ∙ length-bytes w sound) is

-- A window that was moved to a place is there, if the file has the place.
pub is_there : (file : List ℕ) (w : Window) (place : ℕ) → IsSound w → IsMovedTo place w → HasBytes file w → place ≤ length file → offset_of w ≡ place
is_there file w place sound moved bytes inside =
    omega (arith, length-bytes w sound, ap length (bytes moved.read), length-take 32768 (drop w.start file), length-drop w.start file, moved.start, moved.at, inside)

-- the file has a byte there where the block has one
pub has_there : (file : List ℕ) (w : Window) (place : ℕ) → IsSound w → IsMovedTo place w → HasBytes file w → nat_lt place (w.start + length (bytes_of w)) ≡ nat_lt place (length file)
has_there file w place sound moved bytes = by_cases (cases_lt place (length file))
  where
    whole : length (bytes_of w) ≡ min 32768 (length file - w.start)
    whole = omega (arith, ap length (bytes moved.read), length-take 32768 (drop w.start file), length-drop w.start file)

    by_cases : (place < length file) ⊎ (length file ≤ place) → nat_lt place (w.start + length (bytes_of w)) ≡ nat_lt place (length file)
    by_cases (inl less) = lt-ltb place (w.start + length (bytes_of w)) (omega (arith, whole, moved.start, less)) ∙ sym (lt-ltb place (length file) less)
    by_cases (inr past) = le-ltb place (w.start + length (bytes_of w)) (omega (arith, whole, moved.start, past)) ∙ sym (le-ltb place (length file) past)

-- what is seen in the block is what the file has at the place
pub seen_here : (number : Option ℕ) (file : List ℕ) (w : Window) (place : ℕ) → IsSound w → IsMovedTo place w → HasBytes file w → seen_in_block number (bytes_of w) w.at ≡ seen_at number file place
seen_here number file w place sound moved bytes = by_cases (cases_lt w.len (place - w.start))
  where
    same : bytes_of w ≡ take 32768 (drop w.start file)
    same = bytes moved.read

    by_cases : (w.len < place - w.start) ⊎ (place - w.start ≤ w.len) → seen_in_block number (bytes_of w) w.at ≡ seen_at number file place
    by_cases (inl past) =
        seen_behind number (bytes_of w) w.at (omega (arith, length-bytes w sound, moved.at, past))
        ∙ sym (seen_past number file place (omega (arith, length-bytes w sound, ap length same, length-take 32768 (drop w.start file), length-drop w.start file, moved.start, past)))
    by_cases (inr within) =
        let there : w.start + w.at ≡ place = omega (arith, moved.start, moved.at, within) in
        sym (seen_in_bytes number file (bytes_of w) w.start w.at sound.aligned same (omega (arith, moved.start, moved.at, within))) ∙ ap (seen_at number file) there

-- its block has the place where it is
pub in_its_block : (w : Window) (place : ℕ) → IsSound w → IsMovedTo place w → w.start ≡ starts_at (offset_of w)
in_its_block w place sound moved = omega (arith, sound.aligned, moved.start, moved.at)

-- the rest of the block, as bytes of the file
pub rest_is : (file : List ℕ) (w : Window) (place : ℕ) → IsSound w → IsOn file w → w.is_read ≡ true → w.start ≡ starts_at place → offset_of w ≡ place → slice_range (bytes_of w) w.at w.len ≡ take (room place) (drop place file)
rest_is file w place sound on read start there =
    let less : w.at < 32768 = omega (arith, start, there) in
    let len : length (drop w.at (bytes_of w)) ≡ w.len - w.at = omega (arith, length-drop w.at (bytes_of w), length-bytes w sound) in
    take_all (w.len - w.at) (drop w.at (bytes_of w)) (omega (arith, len))
    ∙ (ap (drop w.at) (on.block read).bytes
    ∙ (there_in_block file w.start w.at (omega (arith, less))
    ∙ (ap (λ (n : ℕ). take n (drop (w.start + w.at) file)) (sym (room_in_block w.start w.at sound.aligned less))
    ∙ ap (λ (n : ℕ). take (room n) (drop n file)) there)))
