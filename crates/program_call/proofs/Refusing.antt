-- A refusal's text was printed, or there was no memory for it.
use Rattle.std.proofs.Common.{◌≡◌, ◌⊎◌, inl, inr, ℕ, List, take, Option, Some, None, Result, Ok, Err, ap, sym, ◌∙◌, subst}
use Rattle.std.specs.Io.KnownBytes.{Appends}
use Rattle.base_devices.specs.declared.sink.Sink.{Ghosts}
use Rattle.model_base.specs.Counts.{Rose}
use Rattle.program_printing.specs.declared.error.PrintError.{PrintError}
use Rattle.program_printing.specs.declared.error.PrintError.TheVariants as print
use Rattle.program_printing.specs.Printing.{Prints}
use Rattle.program_call.specs.declared.report.Status.{Status}
use Rattle.program_call.specs.Texts.{SaysTo}
use Rattle.program_call.specs.Reports.{EndsWithText, Refuses, code, print_status, refusal_status}

-- the whole text was printed, or a prefix of it where the sink failed
says_whole : (old new : Option (List ℕ)) (text : List ℕ) (failed fails : ℕ) → Appends old new text → SaysTo old new text failed fails
says_whole None new text failed fails is = tt
says_whole (Some xs) None text failed fails is = is
says_whole (Some xs) (Some ys) text failed fails is = inl is

says_front : (old new : Option (List ℕ)) (text : List ℕ) (failed fails n : ℕ) → Rose failed fails → Appends old new (take n text) → SaysTo old new text failed fails
says_front None new text failed fails n rose is = tt
says_front (Some xs) None text failed fails n rose is = is
says_front (Some xs) (Some ys) text failed fails n rose is = inr (rose, (n, is))

module _ {K : Type 0} (sink : Ghosts K) where
  pub refuses : {T : Type 0} (before after : K) (printed : Result T PrintError) (text : List ℕ) (wanted given : Status) → given ≡ refusal_status wanted printed → Prints sink before after printed text
      → Refuses (sink.taken before) (sink.taken after) (sink.faults before) (sink.faults after) text wanted given
  refuses before after (Ok t) text wanted given is prints = inl (is, says_whole (sink.taken before) (sink.taken after) text (sink.faults before) (sink.faults after) prints.0)
  refuses before after (Err print.Failed) text wanted given is prints =
      inl (is, says_front (sink.taken before) (sink.taken after) text (sink.faults before) (sink.faults after) prints.1.0 prints.0 prints.1.1)
  refuses before after (Err print.NoMemory) text wanted given is prints = inr (is, prints.0, prints.1)

  -- the text of a result was printed, or the sink took a prefix of it, or there was no memory for it
  pub tells_text : {T : Type 0} (before after : K) (printed : Result T PrintError) (Is : List ℕ → Type 0) (given : Status) → given ≡ print_status printed
      → (text : List ℕ) × Is text × Prints sink before after printed text → EndsWithText (sink.taken before) (sink.taken after) (sink.faults before) (sink.faults after) Is given
  tells_text before after printed Is given is made =
      subst (EndsWithText (sink.taken before) (sink.taken after) (sink.faults before) (sink.faults after) Is) (sym is) (by_result printed made)
    where
      by_result : {T : Type 0} (r : Result T PrintError) → (text : List ℕ) × Is text × Prints sink before after r text
          → EndsWithText (sink.taken before) (sink.taken after) (sink.faults before) (sink.faults after) Is (print_status r)
      by_result (Ok t) (text, told, prints) = (text, told, prints.0, prints.1)
      by_result (Err print.Failed) (text, told, prints) = (prints.0, text, told, prints.1.0, prints.1.1)
      by_result (Err print.NoMemory) (text, told, prints) = (prints.0, prints.1)

-- the status is that of the refusal, or the one for no memory, where the sink has counted no fault
pub refused_as : (sold snew : Option (List ℕ)) (kf kfs : ℕ) (text : List ℕ) (wanted given : Status) (n : ℕ) → n ≡ code given → Refuses sold snew kf kfs text wanted given
    → ((n ≡ code wanted) × SaysTo sold snew text kf kfs) ⊎ ((n ≡ 6) × (snew ≡ sold) × (kfs ≡ kf))
refused_as sold snew kf kfs text wanted given n is (inl said) = inl (is ∙ ap code said.0, said.1)
refused_as sold snew kf kfs text wanted given n is (inr none) = inr (is ∙ ap code none.0, none.1, none.2)
