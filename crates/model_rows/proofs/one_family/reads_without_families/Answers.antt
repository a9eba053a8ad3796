use Rattle.std.proofs.Common.{[], refl}
use Rattle.model_rows.proofs.OneFamily.{answered, as_answered, default_keys, first_there}
use Rattle.model_rows.proofs.one_family.reads_without_families.Goals as goal

pub returns : goal.returns
returns c = record {
  got = λ settings trace client p q key reply some.
      let none = first_there settings.families [] some refl in
      (λ says. answered _ _ none says, λ says. as_answered _ _ none says);
  got_many = λ settings trace client p q keys reply some.
      let none = default_keys settings.families keys some in
      (λ says. answered _ _ none says, λ says. as_answered _ _ none says);
  scanned = λ settings trace client p q lo hi reply some.
      let none = first_there settings.families [] some refl in
      (λ says. answered _ _ none says, λ says. as_answered _ _ none says);
}
