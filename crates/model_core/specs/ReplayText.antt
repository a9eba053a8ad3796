-- What is printed of a schedule that was run on the core.
use Rattle.std.specs.Prelude.{ℕ, List, [], ◌∷◌, ◌++◌, length, map, codes, decimal}
use Rattle.model_base.specs.Text.{line, clients_text, history_text, state_text}
use Rattle.model_core.specs.Core.{published_map}
use Rattle.model_core.specs.Step.{Replayed}

abbrev pub replay_text : Replayed → List ℕ
replay_text r = line (codes "events" ∷ decimal r.taken ∷ codes "skipped" ∷ decimal r.skipped ∷ [])
    ++ clients_text (map (λ c. c.calls) r.state.clients)
    ++ history_text r.state.entries
    ++ state_text (λ w. w) r.state.last (published_map r.state)
    ++ line (codes "groups" ∷ decimal (length r.state.groups) ∷ [])
