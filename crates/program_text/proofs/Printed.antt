-- The start of a text, and a text for which there was no memory.
use Rattle.std.proofs.Common.{◌≡◌, List, [], ℕ, Option, Some, Result, Ok, Err, refl, sym, subst}
use Rattle.std.specs.Result.{IsErrAnd}
use Rattle.base_devices.specs.declared.sink.Sink.{Ghosts}
use Rattle.program_printing.specs.declared.error.PrintError.{PrintError}
use Rattle.program_printing.specs.declared.error.PrintError.TheVariants.{NoMemory}
use Rattle.program_printing.specs.Printing.{IsPrinted, Prints}
use Rattle.program_printing.proofs.Putting.{nothing_yet}

module _ {K : Type 0} (sink : Ghosts K) where
  -- nothing of the text is printed
  pub at_start : (now : K) (p : Option (List ℕ)) → p ≡ Some [] → IsPrinted sink now p now []
  at_start now p is = subst (λ q. IsPrinted sink now q now []) (sym is) (nothing_yet sink now)

  -- there was no memory for the bytes that wait, and nothing is printed
  pub none_printed : {T : Type 0} (now : K) (result : Result T PrintError) (text : List ℕ) → IsErrAnd result (λ e. e ≡ NoMemory) → Prints sink now now result text
  none_printed now (Ok t) text is = absurd is
  none_printed now (Err e) text is = rw is (refl, refl)
