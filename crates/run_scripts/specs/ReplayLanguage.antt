-- The language of a script with a schedule.
use Rattle.std.specs.Prelude.{ℕ, List, [], ◌∷◌, ◌++◌, codes}
use Rattle.model_base.specs.Script.{Grammar, client_forms, whole_grammar}
use Rattle.model_core.specs.Schedule.{EventWord, first_event_words}
use Rattle.model_core.specs.declared.event.Event.TheVariants.{Boundary, Second, Next, Stall, Leave, Unstall, Since}

-- all lines but those of the write controller's tokens
abbrev pub replay_grammar : Grammar
replay_grammar = record whole_grammar { forms = client_forms }

-- all events but the write controller's have a word; `boundary`, `second` and `next` may come only in a pipelined path,
-- and a writer that leaves is told of one stop
abbrev pub event_words : List EventWord
event_words =
    first_event_words ++ (codes "boundary", Boundary) ∷ (codes "second", Second) ∷ (codes "next", Next)
    ∷ (codes "stall", Stall) ∷ (codes "leave", λ c. Leave c 1 0) ∷ (codes "unstall", Unstall)
    ∷ (codes "since", Since) ∷ []
