use Rattle.std.proofs.Common.{◌∙◌, true, ap}
use Rattle.clap.specs.Simple.{Shape, app_of_fields, on_top}
use Rattle.list_words.proofs.definition.program.Goals as goal

pub returns : goal.returns
returns c =
    ap app_of_fields c.disable_help_subcommand.ensures ∙ ap (on_top (λ (s : Shape). record s { disable_help_subcommand = true }))
    (ap app_of_fields c.subcommand_required.ensures ∙ ap (on_top (λ (s : Shape). record s { subcommand_required = true }))
    (ap app_of_fields c.version.ensures ∙ ap (on_top (λ (s : Shape). record s { has_version = true }))
    (ap app_of_fields c.about.ensures ∙ c.new.ensures.app)))
