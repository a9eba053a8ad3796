-- What may follow a tag that is known, by the table of layouts.
use Rattle.std.proofs.Common.{◌≡◌, ℕ, zero, suc, ◌≤◌, Bool, true, false, Option, Some, None, List, [], ◌∷◌, subst, arith}
use Rattle.std.specs.Prelude.{slice_index_or, IfSome}
use Rattle.std.specs.List.{AllByRecursion}
use Rattle.batch_operations.specs.Operations.{layouts, layout_of}
use Rattle.batch_operations.specs.declared.layout.Layout.{Layout}

-- what may follow a tag: a family or none, and this number of strings
pub data AFew : Bool → ℕ → Type 0 where
  mark : AFew false 0
  plain_one : AFew false 1
  plain_two : AFew false 2
  named_one : AFew true 1
  named_two : AFew true 2

abbrev FewOf : Option Layout → Type 0
FewOf layout = IfSome layout (λ l. AFew l.names_family l.strings)

all_few : AllByRecursion FewOf layouts
all_few = (plain_one, (plain_two, (plain_two, (plain_one, (named_one, (named_two, (named_two, (plain_one, (named_one, (mark, (plain_one, (plain_one, (plain_one, (mark, (named_two, (plain_two, (named_two, (plain_two, (mark, (mark, (tt, (plain_two, (plain_two, (named_two, (plain_two, (named_two, tt))))))))))))))))))))))))))

few_at : (ls : List (Option Layout)) (i : ℕ) → AllByRecursion FewOf ls → FewOf (slice_index_or ls i None)
few_at [] i all = tt
few_at (l ∷ ls) zero all = all.0
few_at (l ∷ ls) (suc i) all = few_at ls i all.1

pub known_few : (t : ℕ) (l : Layout) → layout_of t ≡ Some l → AFew l.names_family l.strings
known_few t l known = subst FewOf known (few_at layouts t all_few)

two_at_most : (named : Bool) (n : ℕ) → AFew named n → n ≤ 2
two_at_most _ _ mark = omega arith
two_at_most _ _ plain_one = omega arith
two_at_most _ _ plain_two = omega arith
two_at_most _ _ named_one = omega arith
two_at_most _ _ named_two = omega arith

-- Two strings follow a tag at most.
pub at_most_two : (t : ℕ) (l : Layout) → layout_of t ≡ Some l → l.strings ≤ 2
at_most_two t l known = two_at_most l.names_family l.strings (known_few t l known)

-- a tag of recovery's after which as much follows
abbrev pub like_tag : Bool → ℕ → ℕ
like_tag false zero = 0
like_tag false (suc zero) = 0
like_tag false (suc (suc n)) = 1
like_tag true zero = 4
like_tag true (suc zero) = 4
like_tag true (suc (suc n)) = 5
