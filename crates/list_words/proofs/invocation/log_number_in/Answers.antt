use Rattle.std.proofs.Common.{◌∙◌, ap, codes}
use Rattle.std.specs.Option.{option_and_then}
use Rattle.std.specs.Str.Parse.{ExplainsUnsignedError, HasUnsignedDigitsIfOk, ParsesUnsigned}
use Rattle.clap.specs.Words.{found_of, one_text}
use Rattle.clap.proofs.WalkLemmas.{one_text-rows}
use Rattle.list_words.specs.Texts.{whole_number}
use Rattle.list_words.proofs.Numbers.{got, read_number}
use Rattle.list_words.proofs.invocation.log_number_in.Goals as goal

pub returns : goal.returns
returns c =
    got (λ bs q. ParsesUnsigned 32 10 bs q × ExplainsUnsignedError 10 bs q × HasUnsignedDigitsIfOk bs q) (whole_number 32) (read_number 32) (one_text (found_of c.args.options.now) (codes "number")) c.get_one.result c.get_one.ensures.none c.get_one.ensures.value
    ∙ ap (option_and_then (whole_number 32)) (one_text-rows (found_of c.args.options.now) (codes "number"))
