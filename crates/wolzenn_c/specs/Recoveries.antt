-- What recovering a log gives to C.
use Rattle.std.specs.Prelude.{◌≡◌, ◌⊎◌, ℕ, ◌==◌, List, length, Option, Some, None, MatchOption, if◌then◌else◌}
use Rattle.model_base.specs.declared.log.EndReason.{EndReason}
use Rattle.model_base.specs.Map.{Pairs}
use Rattle.model_base.specs.Recovery.{Recovered, IsRecovered, recovered_last, recovered_map}
use Rattle.log_recovery.specs.declared.modes.Mode.{Mode}
use Rattle.log_recovery.specs.declared.modes.Mode.TheVariants.{Point, Tail, Absolute}
use Rattle.log_recovery.specs.Modes.{Accepts, IsDamage}
use Rattle.wolzenn_c.specs.declared.codes.TheConstants.{DONE, NO_MEMORY, DAMAGE}
use Rattle.wolzenn_c.specs.declared.recovery.WzRecovered.{WzRecovered}
use Rattle.wolzenn_c.specs.Reasons.{end_of}

-- the mode with this number, if there is one
abbrev pub mode_of : ℕ → Option Mode
mode_of mode =
    if mode == 0 then Some Point else (if mode == 1 then Some Tail else (if mode == 2 then Some Absolute else None))

-- a recovery in numbers
abbrev pub summary_of : Recovered → WzRecovered
summary_of r = record {
  groups = length r.batches;
  pairs = length (recovered_map r);
  last = recovered_last r;
  kept = r.kept;
  end = end_of r.at r.why;
}

-- an end that the mode doesn't accept, in numbers
abbrev pub damage_of : ℕ → EndReason → WzRecovered
damage_of at why = record { groups = 0; pairs = 0; last = 0; kept = 0; end = end_of at why }

-- these pairs and this summary are what is recovered from the file, and the mode accepts the end of this recovery
pub record IsRecovery (number : Option ℕ) (mode : Mode) (file : List ℕ) (pairs : Pairs) (summary : WzRecovered) :
    Type 0 where
  pub recovered : Recovered
  pub is : IsRecovered number file recovered
  pub accepted : Accepts number mode file recovered.at recovered.why
  pub pairs_are : pairs ≡ recovered_map recovered
  pub summary_is : summary ≡ summary_of recovered

-- the mode doesn't accept the end that the summary says
pub record IsRefused (number : Option ℕ) (mode : Mode) (file : List ℕ) (summary : WzRecovered) : Type 0 where
  pub at : ℕ
  pub why : EndReason
  pub damage : IsDamage number mode file at why
  pub summary_is : summary ≡ damage_of at why

-- what recovery of the file answers, with the pairs that the handle holds then
pub record Recovers (number : Option ℕ) (mode : Mode) (file : List ℕ) (code : ℕ) (pairs : Option Pairs)
    (summary : WzRecovered) : Type 0 where
  pub codes : (code ≡ DONE) ⊎ (code ≡ NO_MEMORY) ⊎ (code ≡ DAMAGE)
  pub done : code ≡ DONE → MatchOption pairs ⊥ (λ ps. IsRecovery number mode file ps summary)
  pub damage : code ≡ DAMAGE → IsRefused number mode file summary
