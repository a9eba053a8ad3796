-- The places are those of the keys in the default family.
use Rattle.std.proofs.Common.{◌≡◌, refl, ℕ, List, Option, map, None, ap, ◌∙◌}
use Rattle.std.proofs.lemmas.Result.{IfOk-weaker}
use Rattle.std.proofs.lemmas.Simd.{map-map}
use Rattle.base_bytes.specs.declared.answers.Place.{Place}
use Rattle.model_base.specs.Map.{key_in, value_at}
use Rattle.table_rule.specs.Histories.{value_in}
use Rattle.engine_groups.proofs.Answered.{keeps_self}
use Rattle.engine_groups.proofs.ClientMoves.{seat_keeps, seat_moved, seat_reads}
use Rattle.engine_groups.specs.Clients.{account_in}
use Rattle.engine_groups.proofs.engine.GroupEngine.get_many.Goals as goal

-- there was no memory for the places, and nothing has changed
pub returns-in_err-places-clause-keeps : goal.returns-in_err-places-clause-keeps
returns-in_err-places-clause-keeps g c = keeps_self (account_in g.Versions.Table c.args.client.now) refl

pub returns-clause-belongs : goal.returns-clause-belongs
returns-clause-belongs g c = seat_moved g.Versions.Table c.args.self.now c.args.client.now c.requires c.read_many_in.new.seat c.read_many_in.ensures.ours c.read_many_in.ensures.seen

pub returns-clause-keeps : goal.returns-clause-keeps
returns-clause-keeps g c = seat_keeps g.Versions.Table c.args.self.now c.args.client.now c.requires c.read_many_in.new.seat c.read_many_in.ensures.seen.seen

pub returns-clause-ok : goal.returns-clause-ok
returns-clause-ok g c =
    let z = g.Versions.Table.opening c.args.self.now.table in
    let seen = (g.Versions.Table.account c.read_many_in.new.seat).seen in
    let of_place : Place → Option (List ℕ) = λ p. value_in z.base (record { family = p.family; bytes = p.key }) seen in
    let places = c.as_slice.ensures.value ∙ c.in_ok-places.ensures in
    let of_keys = ap (map of_place) places ∙ map-map of_place (λ (key : List ℕ). record { family = 0; key = key }) c.args.keys.now in
    seat_reads g.Versions.Table c.args.self.now c.args.client.now c.requires c.read_many_in.result (λ reads. reads.at) (λ reads m. reads.values ≡ map (λ key. value_at m (key_in None key)) c.args.keys.now) c.read_many_in.new.seat c.read_many_in.ensures.at
    (IfOk-weaker c.read_many_in.result _ _ (λ reads h. h ∙ of_keys) c.read_many_in.ensures.values)
