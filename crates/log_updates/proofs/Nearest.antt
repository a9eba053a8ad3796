-- The last of the places that are before a sequence.
use Rattle.std.proofs.Common.{ℕ, ◌+◌, ◌<◌, ◌≤◌, List, [], ◌∷◌, length, take, get_or, sym, arith}
use Rattle.std.proofs.lemmas.List.{get_or_default}
use Rattle.std.specs.List.{AllByRecursion}
use Rattle.log_writer.proofs.Members.{all_take_more}
use Rattle.log_updates.specs.declared.places.LogPlace.{LogPlace}

-- if the place is before the sequence `since`, its last sequence is at most this one
abbrev pub IsNoLater : ℕ → ℕ → LogPlace → Type 0
IsNoLater since last place = place.last < since → place.last ≤ last

pub none_later : (since low high : ℕ) (places : List LogPlace) → low ≤ high → AllByRecursion (IsNoLater since low) places → AllByRecursion (IsNoLater since high) places
none_later since low high [] le all = tt
none_later since low high (place ∷ places) le all = ((λ below. let first = all.0 below in omega (arith, first, le)), none_later since low high places le all.1)

-- one element more
pub one_more : {A : Type 0} (P : A → Type 0) (xs : List A) (i : ℕ) (d : A) → AllByRecursion P (take i xs) → i < length xs → P (get_or xs i d) → AllByRecursion P (take (i + 1) xs)
one_more P xs i d all within one = all_take_more P xs i (get_or xs i d) all within (sym (get_or_default xs i (get_or xs i d) d within)) one
