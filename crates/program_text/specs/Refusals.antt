-- The texts of refusals: one line each.
use Rattle.std.specs.Prelude.{ℕ, List, [], ◌∷◌, codes, decimal}
use Rattle.model_base.specs.declared.log.EndReason.{EndReason}
use Rattle.model_base.specs.Text.{end_words, line}
use Rattle.model_base.specs.Script.{Fault, fault_word}

abbrev pub usage : List ℕ
usage = line (codes "usage" ∷ [])

abbrev pub script_fault : Fault → List ℕ
script_fault f = line (codes "script" ∷ decimal f.line ∷ fault_word f.kind ∷ [])

abbrev pub source_fault : ℕ → List ℕ
source_fault count = line (codes "source" ∷ codes "fault" ∷ decimal count ∷ [])

abbrev pub disk_fault : ℕ → List ℕ
disk_fault count = line (codes "disk" ∷ codes "fault" ∷ decimal count ∷ [])

abbrev pub not_empty : ℕ → List ℕ
not_empty len = line (codes "log" ∷ codes "not" ∷ codes "empty" ∷ decimal len ∷ [])

-- a key that the log recovers is in this family, and no run is set up for it
abbrev pub high_family : ℕ → List ℕ
high_family family = line (codes "family" ∷ decimal family ∷ [])

-- the log's recovery ends at this place for this reason, which isn't accepted
abbrev pub damage : ℕ → EndReason → List ℕ
damage at why = line (codes "damage" ∷ decimal at ∷ end_words why)

-- the same of several logs, with the number of the log in which recovery ends
abbrev pub logs_damage : ℕ → ℕ → EndReason → List ℕ
logs_damage log at why = line (codes "damage" ∷ decimal log ∷ decimal at ∷ end_words why)
