use Rattle.std.proofs.Common.{◌%◌, length, refl, sym, ◌∙◌}
use Rattle.model_base.specs.Log.{parts_of, as_fragments}
use Rattle.log_block.proofs.Counting.{all_pieces}
use Rattle.log_block.proofs.Cuts.{whole_are}
use Rattle.log_block.proofs.Texts.{text_is}
use Rattle.log_block.proofs.laws.text_by_place.Goals as goal

pub returns : goal.returns
returns c = λ number m n bytes e.
    sym (text_is number bytes m 0 (all_pieces number (m % 32768) (length bytes)) (as_fragments (parts_of number m bytes)) (whole_are number bytes m (m % 32768) refl))
    ∙ text_is number bytes n 0 (all_pieces number (m % 32768) (length bytes)) (as_fragments (parts_of number n bytes)) (whole_are number bytes n (m % 32768) (sym e))
