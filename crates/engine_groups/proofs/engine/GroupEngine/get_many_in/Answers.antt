use Rattle.std.proofs.Common.{◌≡◌, refl, map, Ok, sym, ◌∙◌}
use Rattle.base_bytes.specs.declared.answers.Place.{Place}
use Rattle.base_bytes.specs.declared.answers.Reads.{Reads}
use Rattle.model_base.specs.Map.{key_at, value_at}
use Rattle.model_base.specs.declared.write.ReadRefused.{ReadRefused}
use Rattle.engine_groups.proofs.Answered.{keeps_self, none_is}
use Rattle.engine_groups.proofs.ClientMoves.{seat_keeps, seat_moved, seat_reads}
use Rattle.engine_groups.proofs.Families.{refused_family, all_there}
use Rattle.engine_groups.specs.Clients.{account_in, settings_of}
use Rattle.engine_groups.proofs.engine.GroupEngine.get_many_in.Goals as goal

-- there isn't one of the families, and nothing has changed
pub returns-in-Some-clause-keeps : goal.returns-in-Some-clause-keeps
returns-in-Some-clause-keeps g c = keeps_self (account_in g.Versions.Table c.args.client.now) refl

pub returns-in-Some-clause-family : goal.returns-in-Some-clause-family
returns-in-Some-clause-family g c = refused_family Reads (settings_of g.Versions.Table c.args.self.now) (map (λ (p : Place). p.family) c.args.places.now) c.in-Some.family (sym c.first_missing.ensures ∙ c.in-Some.is)

-- there was no memory
pub returns-in_err-reads-clause-belongs : goal.returns-in_err-reads-clause-belongs
returns-in_err-reads-clause-belongs g c = seat_moved g.Versions.Table c.args.self.now c.args.client.now c.requires c.read_many_in.new.seat c.read_many_in.ensures.ours c.read_many_in.ensures.seen

pub returns-in_err-reads-clause-keeps : goal.returns-in_err-reads-clause-keeps
returns-in_err-reads-clause-keeps g c = seat_keeps g.Versions.Table c.args.self.now c.args.client.now c.requires c.read_many_in.new.seat c.read_many_in.ensures.seen.seen

pub returns-clause-belongs : goal.returns-clause-belongs
returns-clause-belongs g c = seat_moved g.Versions.Table c.args.self.now c.args.client.now c.requires c.read_many_in.new.seat c.read_many_in.ensures.ours c.read_many_in.ensures.seen

pub returns-clause-keeps : goal.returns-clause-keeps
returns-clause-keeps g c = seat_keeps g.Versions.Table c.args.self.now c.args.client.now c.requires c.read_many_in.new.seat c.read_many_in.ensures.seen.seen

pub returns-clause-ok : goal.returns-clause-ok
returns-clause-ok g c = seat_reads g.Versions.Table c.args.self.now c.args.client.now c.requires {B = ReadRefused} (Ok c.in_ok-reads.reads) (λ x. x.at) (λ x m. x.values ≡ map (λ (p : Place). value_at m (key_at p.family p.key)) c.args.places.now) c.read_many_in.new.seat c.in_ok-reads.ensures.at c.in_ok-reads.ensures.values

pub returns-clause-family : goal.returns-clause-family
returns-clause-family g c = all_there (settings_of g.Versions.Table c.args.self.now) (map (λ (p : Place). p.family) c.args.places.now) (Ok c.in_ok-reads.reads) (sym c.first_missing.ensures ∙ none_is c.first_missing.result c.in_default.not-Some) tt
