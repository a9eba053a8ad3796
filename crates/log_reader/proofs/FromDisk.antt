-- Reading a block from a disk, piece by piece.
use Rattle.std.proofs.Common.{◌≡◌, ℕ, ◌+◌, ◌-◌, ◌<◌, ◌≤◌, min, List, ◌++◌, length, take, drop, Option, Some, None, IfSome, sym, ◌∙◌, ap, subst, arith, length-append, length-take, length-drop}
use Rattle.std.proofs.Math.Seq.{take-add, take-append-add}
use Rattle.std.proofs.lemmas.List.{drop-drop, take-append-le, take_all}
use Rattle.log_reader.specs.Blocks.{ReadsBlock}
use borrow.Rule.Slice.PartMut.{put_mid}

-- a fact about a disk that tells its content, from two others about it
pub if_both : (told : Option (List ℕ)) (P Q R : List ℕ → Type 0) → IfSome told P → IfSome told Q → ((d : List ℕ) → P d → Q d → R d) → IfSome told R
if_both None P Q R p q f = tt
if_both (Some d) P Q R p q f = f d p q

pub if_one : (told : Option (List ℕ)) (P R : List ℕ → Type 0) → IfSome told P → ((d : List ℕ) → P d → R d) → IfSome told R
if_one None P R p f = tt
if_one (Some d) P R p f = f d p

-- The block's bytes that were read so far are those of the disk from `start` on; and, below, what one read gives.
abbrev pub Before : ℕ → ℕ → List ℕ → List ℕ → Type 0
Before start at block d = take at block ≡ take at (drop start d)

abbrev pub Gives : ℕ → ℕ → List ℕ → List ℕ → Type 0
Gives place more buf d = (more ≡ min (length buf) (length d - place)) × (take more buf ≡ take more (drop place d))

-- after one more read the block's first bytes, with the new ones, are still those of the disk
pub read_more : (content block buf : List ℕ) (start at more : ℕ) → at ≤ length block → length buf ≡ length block - at → take at block ≡ take at (drop start content)
    → (more ≡ min (length buf) (length content - (start + at))) × (take more buf ≡ take more (drop (start + at) content))
    → take (at + more) (put_mid at (length block - at) block buf) ≡ take (at + more) (drop start content)
read_more content block buf start at more in_block len before read =
    let front : length (take at block) ≡ at = omega (arith, length-take at block) in
    let behind : List ℕ = drop (length block - at) (drop at block) in
    let some : more ≤ length buf = omega (arith, read.0) in
    ap (λ (n : ℕ). take (n + more) (take at block ++ (buf ++ behind))) (sym front)
    ∙ (take-append-add (take at block) (buf ++ behind) more
    ∙ (ap (λ (l : List ℕ). take at block ++ l) (take-append-le more buf behind some ∙ read.1)
    ∙ (ap (λ (l : List ℕ). l ++ take more (drop (start + at) content)) before
    ∙ (ap (λ (l : List ℕ). take at (drop start content) ++ take more l) (sym (drop-drop at start content)) ∙ sym (take-add at more (drop start content))))))

-- a read that gives no bytes leaves the block's first bytes as they were
pub read_none : (content block buf : List ℕ) (start at more : ℕ) → at ≤ length block → length buf ≡ length block - at → more ≡ 0 → take at block ≡ take at (drop start content)
    → (more ≡ min (length buf) (length content - (start + at))) × (take more buf ≡ take more (drop (start + at) content))
    → take at (put_mid at (length block - at) block buf) ≡ take at (drop start content)
read_none content block buf start at more in_block len none before read =
    let same : at + more ≡ at = omega arith in
    subst (λ n. take n (put_mid at (length block - at) block buf) ≡ take n (drop start content)) same (read_more content block buf start at more in_block len before read)

-- where all bytes of the block were read, it is the block of the content
pub read_whole : (content block : List ℕ) (start len : ℕ) → length block ≡ 32768 → length block ≤ len → len ≤ length block → take len block ≡ take len (drop start content) → ReadsBlock content start block len
read_whole content block start len is past within read =
    let full : len ≡ 32768 = omega arith in
    read ∙ ap (λ (n : ℕ). take n (drop start content)) full

-- and so it is, as far as the content has it, where the content ends before
pub read_to_end : (content block : List ℕ) (start len more room : ℕ) → room ≡ length block - len → length block ≡ 32768 → len < length block → more ≡ 0 → more ≡ min room (length content - (start + len))
    → take len block ≡ take len (drop start content) → ReadsBlock content start block len
read_to_end content block start len more room room_is is less none more_is read =
    let ends : length (drop start content) ≤ len = omega (arith, length-drop start content) in
    let small : length (drop start content) ≤ 32768 = omega arith in
    read ∙ (take_all len (drop start content) ends ∙ sym (take_all 32768 (drop start content) small))

-- a block keeps its length when a read puts bytes into it
pub length-put : (block buf : List ℕ) (at : ℕ) → at ≤ length block → length buf ≡ length block - at → length (put_mid at (length block - at) block buf) ≡ length block
length-put block buf at inside len =
    let behind : List ℕ = drop (length block - at) (drop at block) in
    omega (arith, length-append (take at block) (buf ++ behind), length-append buf behind, length-take at block, length-drop (length block - at) (drop at block), length-drop at block)
