-- What is taken off a list's end was in the list, and so was what is left.
use Rattle.std.proofs.Common.{◌≡◌, List, ◌++◌, Option, Some, refl, sym, subst, inl}
use Rattle.std.specs.Option.{option_to_list}
use Rattle.table_rule.specs.Histories.{In}
use Rattle.table_rule.proofs.Histories.{in_left, in_right}

module _ {A : Type 0} (items rest : List A) (taken : Option A) (x : A) (is : items ≡ rest ++ option_to_list taken) where
  pub popped_in : taken ≡ Some x → In x items
  popped_in e = subst (In x) (sym is) (in_right x rest (option_to_list taken) (subst (λ o. In x (option_to_list o)) (sym e) (inl refl)))

  pub rest_in : In x rest → In x items
  rest_in i = subst (In x) (sym is) (in_left x rest (option_to_list taken) i)
