-- Looking for zeros, piece by piece.
use Rattle.std.proofs.Common.{◌≡◌, ℕ, ◌+◌, ◌-◌, ◌<◌, ◌≤◌, ◌==◌, ◌&&◌, min, Bool, true, false, List, length, take, drop, sym, ◌∙◌, ap, arith, length-drop}
use Rattle.std.proofs.Math.Seq.{take-add}
use Rattle.std.proofs.lemmas.List.{drop-drop, take-append-drop, take_all}
use Rattle.std.proofs.lemmas.List.Folds.{list_all-append}
use Rattle.model_base.specs.Reading.{are_zeros}

-- one more piece, after what was looked at
piece_behind : (content : List ℕ) (from at len : ℕ) → from ≤ at → are_zeros (take (at - from + len) (drop from content)) ≡ (are_zeros (take (at - from) (drop from content)) && are_zeros (take len (drop at content)))
piece_behind content from at len after =
    let rest = drop from content in
    let there : from + (at - from) ≡ at = omega (arith, after) in
    ap are_zeros (take-add (at - from) len rest)
    ∙ (list_all-append (λ b. b == 0) (take (at - from) rest) (take len (drop (at - from) rest))
    ∙ ap (λ (l : List ℕ). are_zeros (take (at - from) rest) && are_zeros (take len l)) (drop-drop (at - from) from content ∙ ap (λ (n : ℕ). drop n content) there))

-- one more piece of zeros
pub more_zeros : (content piece : List ℕ) (from at len : ℕ) → from ≤ at → are_zeros (take (at - from) (drop from content)) ≡ true → take len piece ≡ take len (drop at content) → are_zeros (take len piece) ≡ true
    → are_zeros (take (at + len - from) (drop from content)) ≡ true
more_zeros content piece from at len after before same zeros =
    let so_far : at + len - from ≡ at - from + len = omega (arith, after) in
    let these : are_zeros (take len (drop at content)) ≡ true = ap are_zeros (sym same) ∙ zeros in
    ap (λ (n : ℕ). are_zeros (take n (drop from content))) so_far
    ∙ (piece_behind content from at len after ∙ (ap (λ (b : Bool). b && are_zeros (take len (drop at content))) before ∙ these))

-- if the first n bytes aren't all zeros, neither are all bytes
front_has : (n : ℕ) (bytes : List ℕ) → are_zeros (take n bytes) ≡ false → are_zeros bytes ≡ false
front_has n bytes other =
    ap are_zeros (sym (take-append-drop n bytes)) ∙ (list_all-append (λ b. b == 0) (take n bytes) (drop n bytes) ∙ ap (λ (b : Bool). b && are_zeros (drop n bytes)) other)

-- a piece that has a byte other than zero
pub other_byte : (content piece : List ℕ) (from at len : ℕ) → from ≤ at → are_zeros (take (at - from) (drop from content)) ≡ true → take len piece ≡ take len (drop at content) → are_zeros (take len piece) ≡ false → false ≡ are_zeros (drop from content)
other_byte content piece from at len after before same other =
    let these : are_zeros (take len (drop at content)) ≡ false = ap are_zeros (sym same) ∙ other in
    sym (front_has (at - from + len) (drop from content) (piece_behind content from at len after ∙ (ap (λ (b : Bool). b && are_zeros (take len (drop at content))) before ∙ these)))

-- where a piece that has room gets no byte, all bytes were looked at
pub all_zeros : (content piece : List ℕ) (from at len : ℕ) → from ≤ at → are_zeros (take (at - from) (drop from content)) ≡ true → len ≡ min (length piece) (length content - at) → len ≡ 0 → 0 < length piece → true ≡ are_zeros (drop from content)
all_zeros content piece from at len after before many none room =
    let past : length (drop from content) ≤ at - from = omega (arith, length-drop from content, many, none, room, after) in
    sym (ap are_zeros (sym (take_all (at - from) (drop from content) past)) ∙ before)
