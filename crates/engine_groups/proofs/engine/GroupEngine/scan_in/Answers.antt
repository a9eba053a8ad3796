use Rattle.std.proofs.Common.{◌≡◌, refl, [], ◌∷◌, Ok, sym, ◌∙◌}
use Rattle.base_bytes.specs.declared.answers.Rows.{Rows}
use Rattle.model_base.specs.Map.{rows_within}
use Rattle.model_base.specs.declared.write.ReadRefused.{ReadRefused}
use Rattle.engine_groups.proofs.Answered.{keeps_self, none_is}
use Rattle.engine_groups.proofs.ClientMoves.{seat_keeps, seat_moved, seat_reads}
use Rattle.engine_groups.proofs.Families.{refused_family, all_there}
use Rattle.engine_groups.specs.Clients.{account_in, settings_of}
use Rattle.engine_groups.proofs.engine.GroupEngine.scan_in.Goals as goal

-- there isn't one of the families, and nothing has changed
pub returns-in-Some-clause-keeps : goal.returns-in-Some-clause-keeps
returns-in-Some-clause-keeps g c = keeps_self (account_in g.Versions.Table c.args.client.now) refl

pub returns-in-Some-clause-family : goal.returns-in-Some-clause-family
returns-in-Some-clause-family g c = refused_family Rows (settings_of g.Versions.Table c.args.self.now) (c.args.family ∷ []) c.in-Some.family (sym c.missing.ensures ∙ c.in-Some.is)

-- there was no memory
pub returns-in_err-rows-clause-belongs : goal.returns-in_err-rows-clause-belongs
returns-in_err-rows-clause-belongs g c = seat_moved g.Versions.Table c.args.self.now c.args.client.now c.requires c.scan_in.new.seat c.scan_in.ensures.ours c.scan_in.ensures.seen

pub returns-in_err-rows-clause-keeps : goal.returns-in_err-rows-clause-keeps
returns-in_err-rows-clause-keeps g c = seat_keeps g.Versions.Table c.args.self.now c.args.client.now c.requires c.scan_in.new.seat c.scan_in.ensures.seen.seen

pub returns-clause-belongs : goal.returns-clause-belongs
returns-clause-belongs g c = seat_moved g.Versions.Table c.args.self.now c.args.client.now c.requires c.scan_in.new.seat c.scan_in.ensures.ours c.scan_in.ensures.seen

pub returns-clause-keeps : goal.returns-clause-keeps
returns-clause-keeps g c = seat_keeps g.Versions.Table c.args.self.now c.args.client.now c.requires c.scan_in.new.seat c.scan_in.ensures.seen.seen

pub returns-clause-ok : goal.returns-clause-ok
returns-clause-ok g c = seat_reads g.Versions.Table c.args.self.now c.args.client.now c.requires {B = ReadRefused} (Ok c.in_ok-rows.rows) (λ x. x.at) (λ x m. x.rows ≡ rows_within c.args.family c.args.lo.now c.args.hi.now m) c.scan_in.new.seat c.in_ok-rows.ensures.at c.in_ok-rows.ensures.rows

pub returns-clause-family : goal.returns-clause-family
returns-clause-family g c = all_there (settings_of g.Versions.Table c.args.self.now) (c.args.family ∷ []) (Ok c.in_ok-rows.rows) (sym c.missing.ensures ∙ none_is c.missing.result c.in_default.not-Some) tt
