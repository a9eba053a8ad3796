use Rattle.std.proofs.Common.{◌≡◌, length, take, sym, subst}
use Rattle.model_base.specs.Log.{text_after}
use Rattle.model_base.specs.LogContents.{records_of}
use Rattle.model_rows.proofs.histories.log_up_to_its_length.Goals as goal

pub returns : goal.returns
returns c = record {
  content = λ b o content groups len one is.
      let text = text_after b (records_of groups) in
      let same : len ≡ length text = cc (one, is.length_is) in
      (subst (λ n. take n content ≡ text) (sym same) is.content_is, same);
}
