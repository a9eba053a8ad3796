-- Threads may share a closure with five captures where they may share each of the five.
use mathlib.Core.List.{[], ◌∷◌}
use denote.RattleType.{RattleType}
use denote.Struct.Declared.{shape, fields}
use denote.Struct.Tuple.{Tuple, tuple_type, tuple_field}
use denote.Param.Send.{IsSync, AllSync, struct_sync, recorded_sync}

pub closure_sync : (A B C D E : RattleType) → IsSync A → IsSync B → IsSync C → IsSync D → IsSync E → IsSync (Tuple (A ∷ B ∷ C ∷ D ∷ E ∷ []))
closure_sync A B C D E a b c d e =
    let T = tuple_type (A ∷ B ∷ C ∷ D ∷ E ∷ []) in
    let all : AllSync (fields T) = (a, (b, (c, (d, (e, tt))))) in
    recorded_sync (tuple_field (A ∷ B ∷ C ∷ D ∷ E ∷ [])).row T.D T.to T.to_one (struct_sync (shape T) all)
