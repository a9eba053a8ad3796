-- What a command is after arguments and commands are added to it, and what an argument is with a parser.
use Rattle.std.proofs.Common.{◌≡◌, ◌∙◌, ℕ, Option, Some, Result, Ok, Err, IfOk, IsOkAnd, false, refl, ap}
use Rattle.clap.specs.Words.{AddsArg, AddsSubcommand, App, Rule, app_of, rule_of, with_rule, with_subcommand}
use Rattle.clap.specs.Simple.{shape_of}
use Rattle.clap.specs.declared.builder.arg.Arg.{Arg}
use Rattle.clap.specs.declared.builder.command.Command.{Command}
use Rattle.clap.specs.declared.builder.command.Command.TheViews.{out-Command}
use Rattle.clap.specs.declared.builder.value_parser.ValueParser.{ValueParser}
use Rattle.clap.specs.declared.builder.value_parser.ValueParser.TheVariants.{Unsigned}

-- the command has this form, and no argument that its own commands inherit
pub record IsApp (command : Command) (a : App) : Type 0 where
  pub app : app_of command ≡ a
  pub local : (out-Command command).has_globals ≡ false

pub with_argument : (old new : Command) (arg : Arg) (a : App) (r : Rule) → AddsArg old arg new → arg.global ≡ false → rule_of arg ≡ r → IsApp old a → IsApp new (with_rule a r)
with_argument old new arg a r adds local rule_is is = record {
  app = adds.shape local ∙ ap (λ (x : App). with_rule x (rule_of arg)) is.app ∙ ap (λ (x : Rule). with_rule a x) rule_is;
  local = adds.globals ∙ rw (is.local, local) refl;
}

with_command : (old sub new : Command) (a b : App) → AddsSubcommand old sub new → (out-Command sub).has_globals ≡ false
    → app_of old ≡ a → app_of sub ≡ b → app_of new ≡ with_subcommand a b.top
with_command old sub new a b adds local old_is sub_is =
    adds.shape local ∙ ap (λ (x : App). with_subcommand x (shape_of sub)) old_is ∙ ap (λ (x : App). with_subcommand a x.top) sub_is

-- adds a command, if there was memory to make it
module _ {E : Type 0} where
  pub with_made : (old new : Command) (made : Result Command E) (a b : App) → IsOkAnd made (λ sub. AddsSubcommand old sub new) → IfOk made (λ sub. (out-Command sub).has_globals ≡ false)
      → app_of old ≡ a → IfOk made (λ sub. app_of sub ≡ b) → app_of new ≡ with_subcommand a b.top
  with_made old new (Ok sub) a b adds local old_is sub_is = with_command old sub new a b adds local old_is sub_is
  with_made old new (Err e) a b adds local old_is sub_is = absurd adds

  pub with_made_at_last : (old : Command) (new made : Result Command E) (a b : App) → IfOk new (λ r. IsOkAnd made (λ sub. AddsSubcommand old sub r)) → IfOk made (λ sub. (out-Command sub).has_globals ≡ false)
      → app_of old ≡ a → IfOk made (λ sub. app_of sub ≡ b) → IfOk new (λ r. app_of r ≡ with_subcommand a b.top)
  with_made_at_last old (Ok new) made a b adds local old_is sub_is = with_made old new made a b adds local old_is sub_is
  with_made_at_last old (Err e) made a b adds local old_is sub_is = tt

-- the argument reads a number within its range
pub with_parser : (old new : Arg) (p parser : ValueParser) (least most : ℕ) (r : Rule) → new ≡ record old { value_parser = new.value_parser } → new.value_parser ≡ Some p → p ≡ parser
    → parser ≡ Unsigned least most → rule_of old ≡ r → rule_of new ≡ record r { parser = Some (Unsigned least most) }
with_parser old new p parser least most r is has same parser_is old_is =
    ap rule_of is ∙ ap (λ (o : Option ValueParser). record (rule_of old) { parser = o }) (has ∙ ap Some (same ∙ parser_is))
    ∙ ap (λ (x : Rule). record x { parser = Some (Unsigned least most) }) old_is
