-- For each reason for which a log may end: whether its last write was cut off.
use Rattle.std.proofs.Common.{◌≡◌, ◌↔◌, IsTrue, ℕ, Bool, true, List, drop, Option, Some, None, Result, Ok, Err, IfOk, IfSome, refl, sym, ◌∙◌, subst}
use Rattle.model_base.specs.declared.log.Damage.TheVariants.{ShortHeader, Zeros, BadLength}
use Rattle.model_base.specs.declared.log.EndReason.{EndReason}
use Rattle.model_base.specs.declared.log.EndReason.TheVariants.{Broken, Unfinished}
use Rattle.model_base.specs.Reading.{are_zeros}
use Rattle.log_recovery.specs.Modes.{PassesFile, IsCutOff, in_header, in_part, in_record, zeros}

pub by_header : (number : Option ℕ) (file : List ℕ) (at : ℕ) (why : EndReason) → why ≡ Broken ShortHeader → IsTrue true ↔ IsCutOff number file at why
by_header number file at why is = (λ _. subst (IsCutOff number file at) (sym is) in_header, λ _. refl)

pub by_record : (number : Option ℕ) (file : List ℕ) (at : ℕ) (why : EndReason) → why ≡ Unfinished → IsTrue true ↔ IsCutOff number file at why
by_record number file at why is = (λ _. subst (IsCutOff number file at) (sym is) in_record, λ _. refl)

part_of : (number : Option ℕ) (file : List ℕ) (at : ℕ) (why : EndReason) → IsCutOff number file at why → why ≡ Broken BadLength → PassesFile number file at
part_of number file at why in_header is = absurd (cc)
part_of number file at why (in_part passes) is = passes
part_of number file at why in_record is = absurd (cc)
part_of number file at why (zeros all) is = absurd (cc)

zeros_of : (number : Option ℕ) (file : List ℕ) (at : ℕ) (why : EndReason) → IsCutOff number file at why → why ≡ Broken Zeros → are_zeros (drop at file) ≡ true
zeros_of number file at why in_header is = absurd (cc)
zeros_of number file at why (in_part passes) is = absurd (cc)
zeros_of number file at why in_record is = absurd (cc)
zeros_of number file at why (zeros all) is = all

-- where an answer has one meaning for the file and this implies another one, it has the other one too
told_by : (told : Option (List ℕ)) (answer : Result Bool ℕ) (P Q : List ℕ → Bool → Type 0) → ((d : List ℕ) (b : Bool) → P d b → Q d b) → IfSome told (λ d. IfOk answer (P d)) → IfSome told (λ d. IfOk answer (Q d))
told_by None answer P Q says p = tt
told_by (Some d) (Ok b) P Q says p = says d b p
told_by (Some d) (Err e) P Q says p = tt

pub by_part : (told : Option (List ℕ)) (answer : Result Bool ℕ) (number : Option ℕ) (at : ℕ) (why : EndReason) → why ≡ Broken BadLength → IfSome told (λ d. IfOk answer (λ b. IsTrue b ↔ PassesFile number d at))
    → IfSome told (λ d. IfOk answer (λ b. IsTrue b ↔ IsCutOff number d at why))
by_part told answer number at why is =
    told_by told answer (λ d b. IsTrue b ↔ PassesFile number d at) (λ d b. IsTrue b ↔ IsCutOff number d at why)
    (λ d b says. (λ yes. subst (IsCutOff number d at) (sym is) (in_part (says.0 yes)), λ cut. says.1 (part_of number d at why cut is)))

pub by_zeros : (told : Option (List ℕ)) (answer : Result Bool ℕ) (number : Option ℕ) (at : ℕ) (why : EndReason) → why ≡ Broken Zeros → IfSome told (λ d. IfOk answer (λ b. b ≡ are_zeros (drop at d)))
    → IfSome told (λ d. IfOk answer (λ b. IsTrue b ↔ IsCutOff number d at why))
by_zeros told answer number at why is =
    told_by told answer (λ d b. b ≡ are_zeros (drop at d)) (λ d b. IsTrue b ↔ IsCutOff number d at why)
    (λ d b says. (λ yes. subst (IsCutOff number d at) (sym is) (zeros (sym says ∙ yes)), λ cut. says ∙ zeros_of number d at why cut is))
