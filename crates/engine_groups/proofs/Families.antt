-- Reads of keys in column families: refused where there isn't one of them, or answered.
use Rattle.std.proofs.Common.{◌≡◌, ℕ, List, Option, Some, None, Result, Err, MatchOption, IsOkUnless, refl, sym, subst}
use Rattle.model_base.specs.declared.write.ReadRefused.{ReadRefused}
use Rattle.model_base.specs.declared.write.ReadRefused.TheVariants as no
use Rattle.model_base.specs.Progress.{first_missing}
use Rattle.model_base.specs.Trace.{Settings}
use Rattle.engine_calls.specs.Reading.{IsOfFamilies}

pub refused_family : (A : Type 0) (settings : Settings) (named : List ℕ) (family : ℕ) → first_missing settings.families named ≡ Some family → IsOfFamilies {A = A} settings named (Err (no.NoFamily family))
refused_family A settings named family missing =
    subst (λ (o : Option ℕ). MatchOption o (IsOkUnless {T = A} (Err (no.NoFamily family)) no.NoMemory) (λ other. ◌≡◌ {A = Result A ReadRefused} (Err (no.NoFamily family)) (Err (no.NoFamily other)))) (sym missing) refl

pub all_there : {A : Type 0} (settings : Settings) (named : List ℕ) (result : Result A ReadRefused) → first_missing settings.families named ≡ None → IsOkUnless result no.NoMemory → IsOfFamilies settings named result
all_there settings named result there answered = subst (λ (o : Option ℕ). MatchOption o (IsOkUnless result no.NoMemory) (λ family. result ≡ Err (no.NoFamily family))) (sym there) answered
