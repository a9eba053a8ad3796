use Rattle.std.proofs.Common.{◌≡◌, ℕ, subst}
use Rattle.std.specs.Prelude.{IfOk}
use Rattle.model_base.specs.Map.{Pairs}
use Rattle.replay_schedules.specs.Maps.{map_up_to}
use Rattle.replay_schedules.proofs.maps.map.Goals as goal

pub returns : goal.returns
returns c = λ o s is_core m.
    let P : ℕ → Type 0 = λ n. IfOk c.map_at.result (λ (k : Pairs). k ≡ map_up_to n s.entries) in
    subst P (c.last.ensures o s m) (c.map_at.ensures o s is_core m)
