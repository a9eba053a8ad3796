use Rattle.std.proofs.Common.{◌≡◌, ◌∙◌, Some, None, ap, subst, sym}
use Rattle.std.specs.Option.{ok_or, option_map}
use Rattle.std.specs.Result.{result_ok}
use Rattle.clap.specs.Words.{app_of, fault_of, found_of, kind_of, is_simple, is_simple_and_free, rows_of}
use Rattle.list_words.specs.Asked.{IsRefusedFor, shown_asked, texts_of}
use Rattle.list_words.specs.declared.invocation.WordsError.TheVariants.{NoMode}
use Rattle.list_words.proofs.Reading.{answer_is, asked_met, asked_without, clap_refuses, error_refuses, mode_refuses, no_answer_is, no_mode_refuses, nothing_asked, refused_answer, simple, simple_and_free}
use Rattle.list_words.proofs.Taken.{no_mode_named}
use Rattle.list_words.proofs.invocation.read_words.Goals as goal

pub returns-in_err-matches-clause-refused : goal.returns-in_err-matches-clause-refused
returns-in_err-matches-clause-refused c =
    let app_is = c.in_ok-wzlog.ensures in
    let kinds = c.in_err-matches.ensures.kinds (ap is_simple_and_free app_is ∙ simple_and_free) in
    refused_answer _ _ (kind_of c.in_err-matches.field-0.0) c.in_err-matches.field-0.0 c.from_residual-in_err-matches.result app_is kinds c.from_residual-in_err-matches.ensures.1

pub returns-clause-ok : goal.returns-clause-ok
returns-clause-ok c =
    let app_is = c.in_ok-wzlog.ensures in
    let taken = c.in_ok-matches.ensures.kinds (ap is_simple_and_free app_is ∙ simple_and_free) in
    let matches = c.in_ok-matches.ensures.matches (ap is_simple app_is ∙ simple) in
    let has : c.subcommand.result ≡ Some (c.in_ok-command.command, c.in_ok-command.options) = c.ok_or.ensures.ok_part ∙ ap result_ok c.in_ok-command.was in
    let asked = asked_met (app_of c.in_ok-wzlog.field-0) _ c.in_ok-matches.matches (λ p. p.0.now) (λ p. rows_of (found_of p.1.now)) c.subcommand.result _ app_is taken matches.1 c.subcommand.ensures.name c.subcommand.ensures.rows has in
    answer_is shown_asked _ _ c.invocation_by.result c.ok_or-2.result (asked ∙ sym c.invocation_by.ensures) c.ok_or-2.ensures.value

pub returns-clause-refused : goal.returns-clause-refused
returns-clause-refused c =
    let app_is = c.in_ok-wzlog.ensures in
    let taken = c.in_ok-matches.ensures.kinds (ap is_simple_and_free app_is ∙ simple_and_free) in
    let matches = c.in_ok-matches.ensures.matches (ap is_simple app_is ∙ simple) in
    let has : c.subcommand.result ≡ Some (c.in_ok-command.command, c.in_ok-command.options) = c.ok_or.ensures.ok_part ∙ ap result_ok c.in_ok-command.was in
    let asked = asked_met (app_of c.in_ok-wzlog.field-0) _ c.in_ok-matches.matches (λ p. p.0.now) (λ p. rows_of (found_of p.1.now)) c.subcommand.result _ app_is taken matches.1 c.subcommand.ensures.name c.subcommand.ensures.rows has in
    no_answer_is shown_asked _ _ c.invocation_by.result c.ok_or-2.result (asked ∙ sym c.invocation_by.ensures) c.ok_or-2.ensures.value

pub returns-in_err-command-clause-refused : goal.returns-in_err-command-clause-refused
returns-in_err-command-clause-refused c =
    let app_is = c.in_ok-wzlog.ensures in
    let taken = c.in_ok-matches.ensures.kinds (ap is_simple_and_free app_is ∙ simple_and_free) in
    let matches = c.in_ok-matches.ensures.matches (ap is_simple app_is ∙ simple) in
    let none : c.subcommand.result ≡ None = c.ok_or.ensures.ok_part ∙ ap result_ok c.in_err-command.was in
    nothing_asked c.from_residual-in_err-command.result _
    (asked_without (app_of c.in_ok-wzlog.field-0) _ c.in_ok-matches.matches (λ p. p.0.now) (λ p. rows_of (found_of p.1.now)) c.subcommand.result app_is taken matches.1 c.subcommand.ensures.name c.subcommand.ensures.rows none)

pub returns-in_err-matches-clause-why : goal.returns-in_err-matches-clause-why
returns-in_err-matches-clause-why c =
    let app_is = c.in_ok-wzlog.ensures in
    let kinds = c.in_err-matches.ensures.kinds (ap is_simple_and_free app_is ∙ simple_and_free) in
    clap_refuses (texts_of c.args.words.now) _ c.in_err-matches.field-0.0 c.from_residual-in_err-matches.result app_is kinds c.from_residual-in_err-matches.ensures.1

pub returns-clause-why : goal.returns-clause-why
returns-clause-why c =
    let words = texts_of c.args.words.now in
    let app_is = c.in_ok-wzlog.ensures in
    let taken = c.in_ok-matches.ensures.kinds (ap is_simple_and_free app_is ∙ simple_and_free) in
    let matches = c.in_ok-matches.ensures.matches (ap is_simple app_is ∙ simple) in
    let has : c.subcommand.result ≡ Some (c.in_ok-command.command, c.in_ok-command.options) = c.ok_or.ensures.ok_part ∙ ap result_ok c.in_ok-command.was in
    let asked = asked_met (app_of c.in_ok-wzlog.field-0) words c.in_ok-matches.matches (λ p. p.0.now) (λ p. rows_of (found_of p.1.now)) c.subcommand.result _ app_is taken matches.1 c.subcommand.ensures.name c.subcommand.ensures.rows has in
    let here = ap (λ b. fault_of b words) (sym app_is) ∙ taken in
    mode_refuses words c.invocation_by.result c.ok_or-2.result c.ok_or-2.ensures.value
    (λ none. no_mode_refuses words here (no_mode_named words here (asked ∙ sym c.invocation_by.ensures ∙ ap (option_map shown_asked) none)))

pub returns-in_err-command-clause-why : goal.returns-in_err-command-clause-why
returns-in_err-command-clause-why c =
    let words = texts_of c.args.words.now in
    let app_is = c.in_ok-wzlog.ensures in
    let taken = c.in_ok-matches.ensures.kinds (ap is_simple_and_free app_is ∙ simple_and_free) in
    let matches = c.in_ok-matches.ensures.matches (ap is_simple app_is ∙ simple) in
    let none : c.subcommand.result ≡ None = c.ok_or.ensures.ok_part ∙ ap result_ok c.in_err-command.was in
    let nothing = asked_without (app_of c.in_ok-wzlog.field-0) words c.in_ok-matches.matches (λ p. p.0.now) (λ p. rows_of (found_of p.1.now)) c.subcommand.result app_is taken matches.1 c.subcommand.ensures.name c.subcommand.ensures.rows none in
    let here = ap (λ b. fault_of b words) (sym app_is) ∙ taken in
    let is = sym c.in_err-command.was ∙ c.ok_or.ensures.value ∙ ap (λ o. ok_or o NoMode) none in
    let same : NoMode ≡ c.in_err-command.field-0.0 = cc in
    error_refuses words _ _ c.from_residual-in_err-command.ensures.1 (subst (λ e. IsRefusedFor e words) same (no_mode_refuses words here (no_mode_named words here nothing)))
