use Rattle.std.proofs.Common.{◌≡◌, List, Option, Some, ⊎_elim, inl, inr, arith}
use Rattle.model_base.specs.Recovery.{Logged}
use Rattle.engine_rule.proofs.LogReads.{right_more, right_after_fault, all_right}
use Rattle.engine_rule.proofs.OneGroup.{all_append}
use Rattle.engine_rule.proofs.Plans.{versions_runs}
use Rattle.engine_rule.specs.Plans.{last_with_all}
use Rattle.engine_rule.specs.Reading.{IsRight}
use Rattle.engine_rule.proofs.groups.reads_stay_right.Goals as goal

abbrev Is : Option (List Logged) → List Logged → Type 0
Is kept batches = kept ≡ Some batches

pub returns : goal.returns
returns c = record {
  first = λ kept start. tt;
  written = λ kept last requests calls more reads logs are. let end = (versions_runs last requests).1 in
      all_right (Is kept) last (last_with_all last requests) calls more reads
      (right_more (Is kept) last (last_with_all last requests) calls more (omega (arith, end)) (⊎_elim (λ t. inr t.0) (λ t. inl (t.0, t.1, t.2.first)) logs)) are;
  failed = λ kept last count calls x reads failed are. all_right (Is kept) last last calls _ reads (right_after_fault (Is kept) last count calls x failed) are;
  one_more = λ kept last calls reads r are is. all_append (IsRight (Is kept) last calls) reads _ are (is, tt);
}
