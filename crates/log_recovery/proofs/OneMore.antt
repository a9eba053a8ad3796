-- What is kept of one more log, after those before it.
use Rattle.std.proofs.Common.{◌≡◌, ℕ, List, [], ◌++◌, map, Option, Some, None, IfSome, sym, ◌∙◌, ap}
use Rattle.log_recovery.specs.declared.kept.GroupNote.{GroupNote}
use Rattle.log_recovery.specs.declared.kept.Kept.{Kept}
use Rattle.log_recovery.specs.declared.modes.Mode.{Mode}
use Rattle.log_recovery.specs.declared.recovery.End.{End}
use Rattle.log_recovery.specs.declared.recovery.Recovered.{Recovered}
use Rattle.log_recovery.specs.Keeping.{note_of}
use Rattle.log_recovery.specs.Modes.{Accepts}
use Rattle.log_recovery.specs.Recovering.{HasKept}
use Rattle.log_recovery.specs.RecoveringMore.{HasRecoveredMore, IsDamageAfter}
use Rattle.model_base.specs.Map.{Pairs}

-- before it no note was kept, and these pairs and this sequence were
pub more_recovered : (number : Option ℕ) (told : Option (List ℕ)) (before kept : Kept) (end : End) → before.groups.items ≡ [] → IfSome told (λ d. HasKept number d before kept end)
    → IfSome told (λ d. HasRecoveredMore number d before.map before.last (record { groups = kept.groups; map = kept.map; last = kept.last; kept = kept.end; end = end }))
more_recovered number None before kept end none has = tt
more_recovered number (Some d) before kept end none has = record {
  recovered = has.recovered;
  is = has.is;
  groups = has.shows.groups ∙ ap (λ (l : List GroupNote). l ++ map note_of has.recovered.batches) none;
  map_is = has.shows.map_is;
  last_is = has.shows.last;
  kept = has.kept_is;
  at = has.at;
  why = has.why;
}

-- an end that the mode doesn't accept is damage
pub damaged_after : (told : Option (List ℕ)) (number : Option ℕ) (mode : Mode) (pairs : Pairs) (last : ℕ) (shown : Recovered) → IfSome told (λ file. HasRecoveredMore number file pairs last shown)
    → IfSome told (λ file. Accepts number mode file shown.end.at shown.end.why → ⊥) → IfSome told (λ file. IsDamageAfter last number mode file shown.end.at shown.end.why)
damaged_after None number mode pairs last shown has refuses = tt
damaged_after (Some file) number mode pairs last shown has refuses = record { recovered = has.recovered; is = has.is; at_is = sym has.at; why_is = sym has.why; refused = refuses }
