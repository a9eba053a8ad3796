-- What a reader sees in a log that was written fragment by fragment.
use Rattle.std.proofs.Common.{Option, Some, None, ◌≡◌, ℕ, zero, suc, ◌+◌, ◌-◌, ◌<◌, ◌≤◌, Bool, true, false, List, [], ◌++◌, length, take, drop, replicate, refl, sym, ◌∙◌, ap, arith, cond, nat_lt, length-append, append_assoc, add-zero}
use Rattle.std.proofs.Math.ListN.{length-replicate}
use Rattle.std.proofs.Math.Seq.{take-append_seam, drop-append_seam, take-append-add}
use Rattle.std.proofs.Math.ListN.{drop_of_length-le}
use Rattle.std.proofs.lemmas.Bool.{ltb-true, lt-ltb}
use Rattle.model_base.specs.Log.{header_len, Fragment, fragment_bytes, room, trailer, next_place}
use Rattle.model_base.specs.Reading.{Seen, fragment, nothing, seen_within, seen_at, are_zeros, next_seen, behind_zeros}
use Rattle.log_laws.proofs.Seen.{seen_written}

pub cases_bool : {A : Type 0} (b : Bool) → (b ≡ true → A) → (b ≡ false → A) → A
cases_bool true at_true at_false = at_true refl
cases_bool false at_true at_false = at_false refl

pub room_small : (offset : ℕ) → room offset ≤ 32768
room_small offset = omega arith

pub fragment_len : (number : Option ℕ) → (f : Fragment) → length (fragment_bytes number f) ≡ (header_len number) + length f.part
fragment_len None f = omega arith
fragment_len (Some n) f = omega arith

-- a fragment that fits is seen at its place
pub seen_at_written : (number : Option ℕ) → (front more : List ℕ) (f : Fragment) (place : ℕ) → length front ≡ place → (header_len number) + length f.part ≤ room place → seen_at number (front ++ (fragment_bytes number f ++ more)) place ≡ fragment f
seen_at_written number front more f place at fits =
    let behind : List ℕ = take (room place - length (fragment_bytes number f)) more in
    let there : drop place (front ++ (fragment_bytes number f ++ more)) ≡ fragment_bytes number f ++ more = ap (λ (n : ℕ). drop n (front ++ (fragment_bytes number f ++ more))) (sym at) ∙ drop-append_seam front (fragment_bytes number f ++ more) in
    let space : room place ≡ length (fragment_bytes number f) + (room place - length (fragment_bytes number f)) = omega (arith, fragment_len number f, fits) in
    let in_block : take (room place) (fragment_bytes number f ++ more) ≡ fragment_bytes number f ++ behind =
    ap (λ (n : ℕ). take n (fragment_bytes number f ++ more)) space ∙ take-append-add (fragment_bytes number f) more (room place - length (fragment_bytes number f)) in
    ap (λ (bytes : List ℕ). seen_within number (room place) (take (room place) bytes)) there ∙ ap (seen_within number (room place)) in_block ∙ seen_written number (room place) f behind fits (room_small place)

zeros_are_zeros : (n : ℕ) → are_zeros (replicate n 0) ≡ true
zeros_are_zeros zero = refl
zeros_are_zeros (suc n) = zeros_are_zeros n

-- the zeros that end a block are skipped
seen_zeros : (number : Option ℕ) → (space : ℕ) (n : ℕ) → space < (header_len number) → seen_within number space (replicate n 0) ≡ nothing
unfolding seen_within
seen_zeros None space n few =
    let e : nat_lt space 7 ≡ true = lt-ltb space 7 few in
    rw (e, zeros_are_zeros n) refl
seen_zeros (Some m) space n few =
    let e : nat_lt space 11 ≡ true = lt-ltb space 11 few in
    rw (e, zeros_are_zeros n) refl

-- where there are no bytes, nothing is seen
seen_none : (number : Option ℕ) → (space : ℕ) → seen_within number space [] ≡ nothing
unfolding seen_within
seen_none None space = elim (nat_lt space 7) as (λ b. cond b nothing nothing ≡ nothing) [ true ↦ refl | false ↦ refl ]
seen_none (Some m) space = elim (nat_lt space 11) as (λ b. cond b nothing nothing ≡ nothing) [ true ↦ refl | false ↦ refl ]

pub seen_past : (number : Option ℕ) → (file : List ℕ) (place : ℕ) → length file ≤ place → seen_at number file place ≡ nothing
seen_past number file place past = ap (λ (bytes : List ℕ). seen_within number (room place) (take (room place) bytes)) (drop_of_length-le file past) ∙ ap (seen_within number (room place)) (take_none (room place)) ∙ seen_none number (room place)
  where
    take_none : (n : ℕ) → ◌≡◌ {A = List ℕ} (take n []) []
    take_none zero = refl
    take_none (suc n) = refl

-- the reader goes on to the next fragment, whether zeros come before it or not
module _ (number : Option ℕ) (front more : List ℕ) (f : Fragment) (offset : ℕ) (at : length front ≡ offset) (fits : (header_len number) + length f.part ≤ room (next_place number offset)) where
  pub laid : List ℕ
  laid = front ++ ((replicate (trailer number offset) 0 ++ fragment_bytes number f) ++ more)

  zeros_front : laid ≡ (front ++ replicate (trailer number offset) 0) ++ (fragment_bytes number f ++ more)
  unfolding laid
  zeros_front = ap (λ (l : List ℕ). front ++ l) (append_assoc (replicate (trailer number offset) 0) (fragment_bytes number f) more) ∙ sym (append_assoc front (replicate (trailer number offset) 0) (fragment_bytes number f ++ more))

  zeros_len : length (front ++ replicate (trailer number offset) 0) ≡ next_place number offset
  zeros_len = omega (arith, length-append front (replicate (trailer number offset) 0), length-replicate {A = ℕ} (trailer number offset) 0, at)

  pub seen_there : seen_at number laid (next_place number offset) ≡ fragment f
  seen_there = ap (λ (file : List ℕ). seen_at number file (next_place number offset)) zeros_front ∙ seen_at_written number (front ++ replicate (trailer number offset) 0) more f (next_place number offset) zeros_len fits

  -- no zeros come before it
  at_once : nat_lt (room offset) (header_len number) ≡ false → next_seen number laid offset ≡ record { at = next_place number offset; seen = fragment f }
  at_once none =
      let here : next_place number offset ≡ offset = ap (λ (b : Bool). offset + cond b (room offset) 0) none ∙ add-zero offset in
      let seen : seen_at number laid offset ≡ fragment f = ap (seen_at number laid) (sym here) ∙ seen_there in
      ap (behind_zeros number laid offset) seen ∙ ap (λ (n : ℕ). record { at = n; seen = fragment f }) (sym here)

  -- zeros come before it
  few_left : nat_lt (room offset) (header_len number) ≡ true → seen_at number laid offset ≡ nothing
  unfolding laid
  few_left few =
      let due : trailer number offset ≡ room offset = ap (λ (b : Bool). cond b (room offset) 0) few in
      let tail : List ℕ = fragment_bytes number f ++ more in
      let behind : drop offset laid ≡ (replicate (trailer number offset) 0 ++ fragment_bytes number f) ++ more = ap (λ (n : ℕ). drop n laid) (sym at) ∙ drop-append_seam front ((replicate (trailer number offset) 0 ++ fragment_bytes number f) ++ more) in
      let zeros : take (room offset) (replicate (trailer number offset) 0 ++ tail) ≡ replicate (trailer number offset) 0 =
      ap (λ (n : ℕ). take n (replicate (trailer number offset) 0 ++ tail)) (sym due ∙ sym (length-replicate {A = ℕ} (trailer number offset) 0)) ∙ take-append_seam (replicate (trailer number offset) 0) tail in
      ap (λ (bytes : List ℕ). seen_within number (room offset) (take (room offset) bytes)) (behind ∙ append_assoc (replicate (trailer number offset) 0) (fragment_bytes number f) more)
      ∙ ap (seen_within number (room offset)) zeros ∙ seen_zeros number (room offset) (trailer number offset) (ltb-true (room offset) (header_len number) few)

  pub next_is : next_seen number laid offset ≡ record { at = next_place number offset; seen = fragment f }
  next_is = cases_bool (nat_lt (room offset) (header_len number)) (λ few. ap (behind_zeros number laid offset) (few_left few) ∙ ap (λ (s : Seen). record { at = next_place number offset; seen = s }) seen_there) at_once

-- the same, with the log written out
pub seen_laid : (number : Option ℕ) → (front more : List ℕ) (f : Fragment) (offset : ℕ) → length front ≡ offset → (header_len number) + length f.part ≤ room (next_place number offset)
    → seen_at number (front ++ ((replicate (trailer number offset) 0 ++ fragment_bytes number f) ++ more)) (next_place number offset) ≡ fragment f
unfolding laid
seen_laid number front more f offset at fits = seen_there number front more f offset at fits

pub next_laid : (number : Option ℕ) → (front more : List ℕ) (f : Fragment) (offset : ℕ) → length front ≡ offset → (header_len number) + length f.part ≤ room (next_place number offset)
    → next_seen number (front ++ ((replicate (trailer number offset) 0 ++ fragment_bytes number f) ++ more)) offset ≡ record { at = next_place number offset; seen = fragment f }
unfolding laid
next_laid number front more f offset at fits = next_is number front more f offset at fits
