use Rattle.std.proofs.Common.{sym, ◌∙◌, ap, subst, None}
use Rattle.table_rule.proofs.Images.{images_versions}
use Rattle.table_rule.specs.Histories.{made_by}
use Rattle.engine_rule.specs.Commits.{AreAnswered}
use Rattle.engine_rule.specs.Consistent.{EndsAreNamed}
use Rattle.engine_rule.specs.Entries.{versions_made}
use Rattle.engine_stage_laws.proofs.AtOnce.{at_once}
use Rattle.engine_stage_laws.proofs.served.groups_are_published_at_once.Goals as goal

pub returns : goal.returns
returns c = record {
  whole = λ start clients group_bytes asked commits last fault published calls is.
      let g = is.in_groups in
      at_once start None g.groups published (subst (AreAnswered start None) (sym g.cut) is.answered) g.name_ends
      (ap (made_by versions_made) g.cut ∙ images_versions versions_made commits published is.images)
      (subst (λ cs. EndsAreNamed start cs published) (sym g.cut) is.named);
}
