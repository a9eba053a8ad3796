use Rattle.std.proofs.Common.{◌++◌, refl, sym, ap, ◌∙◌, subst, append-nil}
use Rattle.engine_rule.specs.Plans.{all_failed, all_held_up, commits_of_plan}
use Rattle.engine_stage_laws.specs.Served.{AreServed, accepted_of}
use Rattle.engine_stage_laws.proofs.Serving.{accepted_append, consistent_served, none_failed, none_held_up, served_end, served_more}
use Rattle.engine_stage_laws.proofs.served.groups_are_served.Goals as goal

pub returns : goal.returns
returns c = record {
  first = refl;
  ends = served_end;
  written = λ heard last end requests commits old new ok publishes. subst (λ l. AreServed l new) (sym (accepted_append commits (commits_of_plan heard last end requests))) (served_more heard last end requests (accepted_of commits) old new ok publishes);
  failed = λ heard count requests commits. accepted_append commits (all_failed heard count requests) ∙ (ap (λ l. accepted_of commits ++ l) (none_failed heard count requests) ∙ append-nil (accepted_of commits));
  held_up = λ known numbers requests commits. accepted_append commits (all_held_up known numbers requests) ∙ (ap (λ l. accepted_of commits ++ l) (none_held_up known numbers requests) ∙ append-nil (accepted_of commits));
  closing = consistent_served;
}
