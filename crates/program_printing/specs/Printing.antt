-- How a text is printed piece by piece.
use Rattle.std.specs.Prelude.{◌≡◌, ℕ, List, ◌++◌, take, Option, Some, None, Result, Ok, Err}
use Rattle.std.specs.Io.KnownBytes.{Appends}
use Rattle.base_devices.specs.declared.sink.Sink.{Ghosts}
use Rattle.model_base.specs.Counts.{Rose}
use Rattle.program_printing.specs.declared.error.PrintError.{PrintError}
use Rattle.program_printing.specs.declared.error.PrintError.TheVariants.{Failed, NoMemory}

module _ {K : Type 0} (sink : Ghosts K) where
  -- since `start` the sink took the text except its last bytes, which wait, and counted no fault
  pub record AllButWaiting (start now : K) (waiting text : List ℕ) : Type 0 where
    pub front : List ℕ
    pub parts : text ≡ front ++ waiting
    pub taken : Appends (sink.taken start) (sink.taken now) front
    pub counted : sink.faults now ≡ sink.faults start

  -- since `start` a write failed, and the sink took a prefix of the text
  pub record OnlyFront (start now : K) (text : List ℕ) : Type 0 where
    pub front : List ℕ
    pub rest : List ℕ
    pub parts : text ≡ front ++ rest
    pub taken : Appends (sink.taken start) (sink.taken now) front
    pub rose : Rose (sink.faults start) (sink.faults now)

  -- what was printed of a text since `start`, by the bytes that wait; `None` where a write failed
  abbrev pub IsPrinted : K → Option (List ℕ) → K → List ℕ → Type 0
  IsPrinted start (Some waiting) now text = AllButWaiting start now waiting text
  IsPrinted start None now text = OnlyFront start now text

  -- from a printer and a sink to the next ones these bytes were put after whatever text was printed so far
  abbrev pub Puts : Option (List ℕ) → K → Option (List ℕ) → K → List ℕ → Type 0
  Puts old before new after bytes = (start : K) (text : List ℕ) → IsPrinted start old before text
      → IsPrinted start new after (text ++ bytes)

  -- The text was printed whole. Or the sink failed, and took a prefix of it; or there was no memory, and the sink took
  -- nothing. Only where the sink failed its count of faults rose.
  abbrev pub Prints : {T : Type 0} → K → K → Result T PrintError → List ℕ → Type 0
  Prints before after (Ok _) text = Appends (sink.taken before) (sink.taken after) text
      × (sink.faults after ≡ sink.faults before)
  Prints before after (Err Failed) text = Rose (sink.faults before) (sink.faults after)
      × ((n : ℕ) × Appends (sink.taken before) (sink.taken after) (take n text))
  Prints before after (Err NoMemory) text = (sink.taken after ≡ sink.taken before)
      × (sink.faults after ≡ sink.faults before)
