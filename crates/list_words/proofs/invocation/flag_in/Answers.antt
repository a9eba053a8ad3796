use Rattle.std.proofs.Common.{◌∙◌, ap}
use Rattle.std.specs.Option.{option_and_then}
use Rattle.std.specs.Str.Parse.{ParsesBool}
use Rattle.std.specs.declared.str.ParseBoolError.{ParseBoolError}
use Rattle.clap.specs.Words.{found_of, one_text}
use Rattle.clap.proofs.WalkLemmas.{one_text-rows}
use Rattle.list_words.specs.Texts.{bool_of}
use Rattle.list_words.proofs.Numbers.{got, read_flag}
use Rattle.list_words.proofs.invocation.flag_in.Goals as goal

pub returns : goal.returns
returns c =
    got (ParsesBool {E = ParseBoolError}) bool_of read_flag (one_text (found_of c.args.options.now) c.args.id.now) c.get_one.result c.get_one.ensures.none c.get_one.ensures.value
    ∙ ap (option_and_then bool_of) (one_text-rows (found_of c.args.options.now) c.args.id.now)
