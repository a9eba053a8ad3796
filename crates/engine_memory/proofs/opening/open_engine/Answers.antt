use Rattle.std.proofs.Common.{◌≡◌, ◌+◌, List, [], sym, ap, ◌∙◌, append-nil}
use Rattle.model_base.specs.Map.{Pairs}
use Rattle.model_base.specs.Settings.{settings_of as settings_with}
use Rattle.model_accounts.specs.Accounts.{newcomer}
use Rattle.table_rule.specs.declared.view.Opening.{Opening}
use Rattle.table_rule.specs.declared.content.Version.{Version}
use Rattle.table_rule.specs.Histories.{map_of, map_after, versions_at}
use Rattle.table_memory.specs.Meaning.{opening_of}
use Rattle.engine_memory.proofs.opening.open_engine.Goals as goal

-- a table that was opened over the versions of a map has that map
over : (opening : Opening) (base : List Version) (pairs : Pairs) → opening.base ≡ base → map_after base [] ≡ pairs → map_of opening.base ≡ pairs
over opening base pairs is made = ap map_of (is ∙ sym (append-nil base)) ∙ made

pub open-requires-clause-options : goal.open-requires-clause-options
open-requires-clause-options g c =
    let opened = c.in-Ok.ensures.table in let options = c.requires.options in
    (sym (ap (λ (o : Opening). o.start) opened), options.0, options.1)

pub returns-in-Ok-open-clause-engine : goal.returns-in-Ok-open-clause-engine
returns-in-Ok-open-clause-engine g c =
    let opened = c.in-Ok.ensures.table in let made = c.in-Ok-open.ensures.engine in
    let n = c.args.base_last in let map = c.args.map.now in
    let same = over (opening_of c.in-Ok.table) (versions_at n map) map (ap (λ (o : Opening). o.base) opened) (c.maps_as_bases.ensures.map n map c.in_order.ensures) in
    (made.1, made.2 ∙ (λ i. settings_with c.args.options (same i) (opened i).clients (g.Log.GroupLog.faults c.args.log.log)))

pub returns-in-Ok-open-clause-new : goal.returns-in-Ok-open-clause-new
returns-in-Ok-open-clause-new g c i client at =
    let opened = c.in-Ok.ensures.table in
    let n = c.args.base_last in let map = c.args.map.now in
    let same = over (opening_of c.in-Ok.table) (versions_at n map) map (ap (λ (o : Opening). o.base) opened) (c.maps_as_bases.ensures.map n map c.in_order.ensures) in
    c.in-Ok-open.ensures.new i client at ∙ ap (λ m. newcomer c.args.options.last m (i + 1)) same
