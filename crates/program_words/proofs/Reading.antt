-- From what clap promises of a parse to what the words ask for.
use Rattle.std.proofs.Common.{inl, inr, ◌≡◌, ◌∙◌, true, false, List, [], ◌∷◌, Option, Some, None, Result, Err, IfOk, refl, sym, ap, subst}
use Rattle.std.specs.Prelude.{Box, ◌⊎◌}
use Rattle.std.specs.Option.{ok_or, option_and_then, option_map}
use Rattle.std.specs.Box.{box_value}
use Rattle.clap.specs.Words.{App, IsAmong, Kinds, Row, Text, fault_of, is_simple, is_simple_and_free, subcommand_of, subcommand_rows, subcommand_name_of, subcommand_rows_of}
use Rattle.clap.specs.declared.error.kind.ErrorKind.{ErrorKind}
use Rattle.clap.specs.declared.error.kind.ErrorKind.TheVariants.{OutOfMemory}
use Rattle.clap.specs.declared.parser.matches.SubCommand.{SubCommand}
use Rattle.clap.specs.declared.parser.matches.ArgMatches.{ArgMatches}
use Rattle.clap.specs.declared.parser.matches.ArgMatches.TheViews.{out-ArgMatches, out-SubCommand}
use Rattle.clap.proofs.OnLiterals.{clap_on_literals}
use Rattle.program_words.specs.Definition.{writepath}
use Rattle.program_words.specs.Meaning.{invocation_by, invocation_in, is_taken, refusal_of}
use Rattle.program_words.specs.declared.invocation.Invocation.{Invocation}
use Rattle.program_words.specs.declared.invocation.WordsError.{WordsError}
use Rattle.program_words.specs.declared.invocation.WordsError.TheVariants.{Usage, NoMemory}

pub simple_and_free : is_simple_and_free writepath ≡ true
unfolding clap_on_literals
simple_and_free = refl

pub simple : is_simple writepath ≡ true
unfolding clap_on_literals
simple = refl

-- words that clap takes ask for what the matches say
asked_taken : (words : List Text) → fault_of writepath words ≡ [] → invocation_in words ≡ option_and_then (λ p. invocation_by p.0 p.1) (subcommand_of writepath words)
unfolding invocation_in
asked_taken words e = rw e refl

asked_refused : (words : List Text) (kinds : Kinds) → fault_of writepath words ≡ kinds → is_taken kinds ≡ false → invocation_in words ≡ None
unfolding invocation_in
asked_refused words kinds e f = rw (e, f) refl

refused_here : (words : List Text) (k : ErrorKind) (kinds : Kinds) → fault_of writepath words ≡ kinds → (k ≡ OutOfMemory) ⊎ IsAmong k kinds → refusal_of k ≡ Usage → invocation_in words ≡ None
refused_here words k kinds e (inl memory) is = let bad : NoMemory ≡ Usage = rw memory at is in cc
refused_here words k [] e (inr h) is = absurd h
refused_here words k (x ∷ xs) e (inr h) is = asked_refused words (x ∷ xs) e refl

-- where clap refuses the words, they ask for nothing
pub refused_words : (a : App) (words : List Text) (k : ErrorKind) → a ≡ writepath → (k ≡ OutOfMemory) ⊎ IsAmong k (fault_of a words) → refusal_of k ≡ Usage → invocation_in words ≡ None
refused_words a words k is among usage = refused_here words k (fault_of a words) (ap (λ b. fault_of b words) (sym is)) among usage

paired : {X : Type 0} (f : X → Text) (g : X → List Row) (o : Option X) (s : Option (Text × List Row))
    → option_map f o ≡ option_map (λ p. p.0) s → option_map g o ≡ option_map (λ p. p.1) s → option_map (λ x. (f x, g x)) o ≡ s
paired f g None None a b = refl
paired f g None (Some p) a b = cc
paired f g (Some x) None a b = cc
paired f g (Some x) (Some p) a b =
    let e : f x ≡ p.0 = cc in
    let h : g x ≡ p.1 = cc in
    rw (e, h) refl

module _ {Z : Type 0} where
  name_of_rows : (s : Option (Box SubCommand Z)) → option_map (λ b. (out-SubCommand (box_value b)).name.now) s ≡ option_map (λ p. p.0) (subcommand_rows s)
  name_of_rows None = refl
  name_of_rows (Some b) = refl

-- the subcommand that the matches show, as one option
met : {X : Type 0} (m : ArgMatches) (f : X → Text) (g : X → List Row) (o : Option X)
    → option_map f o ≡ subcommand_name_of m → option_map g o ≡ option_map (λ p. p.1) (subcommand_rows_of m)
    → option_map (λ x. (f x, g x)) o ≡ subcommand_rows_of m
met m f g o names rows = paired f g o (subcommand_rows_of m) (names ∙ name_of_rows (out-ArgMatches m).subcommand) rows

-- words that clap takes, with a command and without
pub asked_met : {X : Type 0} (a : App) (words : List Text) (m : ArgMatches) (f : X → Text) (g : X → List Row) (o : Option X) (x : X)
    → a ≡ writepath → fault_of a words ≡ [] → subcommand_rows_of m ≡ subcommand_of a words
    → option_map f o ≡ subcommand_name_of m → option_map g o ≡ option_map (λ p. p.1) (subcommand_rows_of m)
    → o ≡ Some x → invocation_in words ≡ invocation_by (f x) (g x)
asked_met a words m f g o x is taken sub names rows has =
    asked_taken words (ap (λ b. fault_of b words) (sym is) ∙ taken)
    ∙ ap (option_and_then (λ p. invocation_by p.0 p.1)) (ap (λ b. subcommand_of b words) (sym is) ∙ sym sub ∙ sym (met m f g o names rows) ∙ ap (option_map (λ x. (f x, g x))) has)

pub asked_without : {X : Type 0} (a : App) (words : List Text) (m : ArgMatches) (f : X → Text) (g : X → List Row) (o : Option X)
    → a ≡ writepath → fault_of a words ≡ [] → subcommand_rows_of m ≡ subcommand_of a words
    → option_map f o ≡ subcommand_name_of m → option_map g o ≡ option_map (λ p. p.1) (subcommand_rows_of m)
    → o ≡ None → invocation_in words ≡ None
asked_without a words m f g o is taken sub names rows has =
    asked_taken words (ap (λ b. fault_of b words) (sym is) ∙ taken)
    ∙ ap (option_and_then (λ p. invocation_by p.0 p.1)) (ap (λ b. subcommand_of b words) (sym is) ∙ sym sub ∙ sym (met m f g o names rows) ∙ ap (option_map (λ x. (f x, g x))) has)

-- the answer says what the words ask for
pub answer_is : (o asked : Option Invocation) (r : Result Invocation WordsError) → asked ≡ o → r ≡ ok_or o Usage → IfOk r (λ x. asked ≡ Some x)
answer_is None asked r e h = subst (λ q. IfOk q (λ x. asked ≡ Some x)) (sym h) tt
answer_is (Some x) asked r e h = subst (λ q. IfOk q (λ x. asked ≡ Some x)) (sym h) e

pub no_answer_is : (o asked : Option Invocation) (r : Result Invocation WordsError) → asked ≡ o → r ≡ ok_or o Usage → r ≡ Err Usage → asked ≡ None
no_answer_is None asked r e h u = e
no_answer_is (Some x) asked r e h u = cc
