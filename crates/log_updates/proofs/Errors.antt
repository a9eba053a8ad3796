-- Answers and errors of calls that only read.
use Rattle.std.proofs.Common.{◌≡◌, ℕ, Result, Ok, Err, IfOk, IfErr, IsErrAnd, sym, subst}
use Rattle.log_recovery.specs.declared.modes.Mode.TheVariants.{Point}
use Rattle.log_recovery.specs.declared.recovery.RecoverError.{RecoverError}
use Rattle.log_recovery.specs.Recovering.{IsRecoverError}

pub if_ok : {A E : Type 0} (P Q : A → Type 0) (r : Result A E) → IfOk r P → ((x : A) → P x → Q x) → IfOk r Q
if_ok P Q (Ok x) p f = f x p
if_ok P Q (Err e) p f = tt

-- what holds of an error holds of an answer that hands it on
pub handed_on : {A E : Type 0} (r : Result A E) (e : E) (P : E → Type 0) → IsErrAnd r (λ f. f ≡ e) → P e → IfErr r P
handed_on (Ok x) e P same p = tt
handed_on (Err f) e P same p = subst P (sym same) p

-- The counts before and after are others, which are the same.
pub error_of : (before now older newer : ℕ) (e : RecoverError) → before ≡ older → now ≡ newer → IsRecoverError Point before now e → IsRecoverError Point older newer e
error_of before now older newer e first second is = subst (λ n. IsRecoverError Point older n e) second (subst (λ n. IsRecoverError Point n now e) first is)
