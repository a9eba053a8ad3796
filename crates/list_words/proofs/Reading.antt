-- From what clap promises of a parse to what the words ask for.
use Rattle.std.proofs.Common.{inl, inr, ◌≡◌, ◌≢◌, ◌∙◌, true, false, List, [], ◌∷◌, Option, Some, None, Result, Ok, Err, IfOk, IfErr, IsErrAnd, refl, sym, ap, subst}
use Rattle.std.specs.Prelude.{Box, IsSomeAnd, ◌⊎◌}
use Rattle.std.specs.Option.{ok_or, option_and_then, option_map}
use Rattle.std.specs.Box.{box_value}
use Rattle.clap.specs.Words.{App, IsAmong, Kinds, Row, Text, fault_of, is_simple, is_simple_and_free, kind_of, subcommand_of, subcommand_rows, subcommand_name_of, subcommand_rows_of}
use Rattle.clap.specs.declared.error.Error.{Error}
use Rattle.clap.specs.declared.error.kind.ErrorKind.{ErrorKind}
use Rattle.clap.specs.declared.error.kind.ErrorKind.TheVariants.{OutOfMemory}
use Rattle.clap.specs.declared.parser.matches.SubCommand.{SubCommand}
use Rattle.clap.specs.declared.parser.matches.ArgMatches.{ArgMatches}
use Rattle.clap.specs.declared.parser.matches.ArgMatches.TheViews.{out-ArgMatches, out-SubCommand}
use Rattle.clap.proofs.OnLiterals.{clap_on_literals}
use Rattle.list_words.specs.Definition.{wzlog}
use Rattle.list_words.specs.Texts.{is_taken, mode_of, texts_in}
use Rattle.list_words.specs.Asked.{Asked, IsRefusedFor, asked_by, asked_in, mode_word, refusal_of}
use Rattle.list_words.specs.declared.invocation.WordsError.{WordsError}
use Rattle.list_words.specs.declared.invocation.WordsError.TheVariants.{NoMemory, NoMode, Refused}

pub simple_and_free : is_simple_and_free wzlog ≡ true
unfolding clap_on_literals
simple_and_free = refl

pub simple : is_simple wzlog ≡ true
unfolding clap_on_literals
simple = refl

-- words that clap takes ask for what the matches say
pub asked_taken : (words : List Text) → fault_of wzlog words ≡ [] → asked_in words ≡ option_and_then (λ p. asked_by p.0 (texts_in p.1)) (subcommand_of wzlog words)
unfolding asked_in
asked_taken words e = rw e refl

asked_refused : (words : List Text) (kinds : Kinds) → fault_of wzlog words ≡ kinds → is_taken kinds ≡ false → asked_in words ≡ None
unfolding asked_in
asked_refused words kinds e f = rw (e, f) refl

refused_here : (words : List Text) (k : ErrorKind) (why : Error) (e : WordsError) (kinds : Kinds) → fault_of wzlog words ≡ kinds → (k ≡ OutOfMemory) ⊎ IsAmong k kinds → e ≡ refusal_of k why → e ≢ NoMemory
    → asked_in words ≡ None
refused_here words k why e kinds at (inl memory) is other = absurd (other (is ∙ ap (λ (x : ErrorKind). refusal_of x why) memory))
refused_here words k why e [] at (inr h) is other = absurd h
refused_here words k why e (x ∷ xs) at (inr h) is other = asked_refused words (x ∷ xs) at refl

-- where clap refuses the words, they ask for nothing
refused_words : (a : App) (words : List Text) (k : ErrorKind) (why : Error) (e : WordsError) → a ≡ wzlog → (k ≡ OutOfMemory) ⊎ IsAmong k (fault_of a words) → e ≡ refusal_of k why → e ≢ NoMemory
    → asked_in words ≡ None
refused_words a words k why e app among is other = refused_here words k why e (fault_of a words) (ap (λ b. fault_of b words) (sym app)) among is other

paired : {X : Type 0} (f : X → Text) (g : X → List Row) (o : Option X) (s : Option (Text × List Row))
    → option_map f o ≡ option_map (λ p. p.0) s → option_map g o ≡ option_map (λ p. p.1) s → option_map (λ x. (f x, g x)) o ≡ s
paired f g None None a b = refl
paired f g None (Some p) a b = cc
paired f g (Some x) None a b = cc
paired f g (Some x) (Some p) a b =
    let e : f x ≡ p.0 = cc in
    let h : g x ≡ p.1 = cc in
    rw (e, h) refl

module _ {Z : Type 0} where
  name_of_rows : (s : Option (Box SubCommand Z)) → option_map (λ b. (out-SubCommand (box_value b)).name.now) s ≡ option_map (λ p. p.0) (subcommand_rows s)
  name_of_rows None = refl
  name_of_rows (Some b) = refl

-- the subcommand that the matches show, as one option
met : {X : Type 0} (m : ArgMatches) (f : X → Text) (g : X → List Row) (o : Option X)
    → option_map f o ≡ subcommand_name_of m → option_map g o ≡ option_map (λ p. p.1) (subcommand_rows_of m)
    → option_map (λ x. (f x, g x)) o ≡ subcommand_rows_of m
met m f g o names rows = paired f g o (subcommand_rows_of m) (names ∙ name_of_rows (out-ArgMatches m).subcommand) rows

-- words that clap takes, with a command and without
pub asked_met : {X : Type 0} (a : App) (words : List Text) (m : ArgMatches) (f : X → Text) (g : X → List Row) (o : Option X) (x : X)
    → a ≡ wzlog → fault_of a words ≡ [] → subcommand_rows_of m ≡ subcommand_of a words
    → option_map f o ≡ subcommand_name_of m → option_map g o ≡ option_map (λ p. p.1) (subcommand_rows_of m)
    → o ≡ Some x → asked_in words ≡ asked_by (f x) (texts_in (g x))
asked_met a words m f g o x is taken sub names rows has =
    asked_taken words (ap (λ b. fault_of b words) (sym is) ∙ taken)
    ∙ ap (option_and_then (λ p. asked_by p.0 (texts_in p.1))) (ap (λ b. subcommand_of b words) (sym is) ∙ sym sub ∙ sym (met m f g o names rows) ∙ ap (option_map (λ x. (f x, g x))) has)

pub asked_without : {X : Type 0} (a : App) (words : List Text) (m : ArgMatches) (f : X → Text) (g : X → List Row) (o : Option X)
    → a ≡ wzlog → fault_of a words ≡ [] → subcommand_rows_of m ≡ subcommand_of a words
    → option_map f o ≡ subcommand_name_of m → option_map g o ≡ option_map (λ p. p.1) (subcommand_rows_of m)
    → o ≡ None → asked_in words ≡ None
asked_without a words m f g o is taken sub names rows has =
    asked_taken words (ap (λ b. fault_of b words) (sym is) ∙ taken)
    ∙ ap (option_and_then (λ p. asked_by p.0 (texts_in p.1))) (ap (λ b. subcommand_of b words) (sym is) ∙ sym sub ∙ sym (met m f g o names rows) ∙ ap (option_map (λ x. (f x, g x))) has)

-- the answer says what the words ask for, and where it is an error that nothing is asked for
module _ {X : Type 0} (shown : X → Asked) (asked : Option Asked) (e : WordsError) where
  pub answer_is : (o : Option X) (r : Result X WordsError) → asked ≡ option_map shown o → r ≡ ok_or o e → IfOk r (λ x. asked ≡ Some (shown x))
  answer_is None r is h = subst (λ q. IfOk q (λ x. asked ≡ Some (shown x))) (sym h) tt
  answer_is (Some x) r is h = subst (λ q. IfOk q (λ x. asked ≡ Some (shown x))) (sym h) is

  pub no_answer_is : (o : Option X) (r : Result X WordsError) → asked ≡ option_map shown o → r ≡ ok_or o e → IfErr r (λ y. y ≢ NoMemory → asked ≡ None)
  no_answer_is None r is h = subst (λ q. IfErr q (λ y. y ≢ NoMemory → asked ≡ None)) (sym h) (λ other. is)
  no_answer_is (Some x) r is h = subst (λ q. IfErr q (λ y. y ≢ NoMemory → asked ≡ None)) (sym h) tt

module _ {X : Type 0} where
  -- the same of an answer that hands clap's error on
  pub refused_answer : (a : App) (words : List Text) (k : ErrorKind) (why : Error) (r : Result X WordsError) → a ≡ wzlog → (k ≡ OutOfMemory) ⊎ IsAmong k (fault_of a words)
      → IsErrAnd r (λ e. e ≡ refusal_of k why) → IfErr r (λ y. y ≢ NoMemory → asked_in words ≡ None)
  refused_answer a words k why (Ok x) app among is = absurd is
  refused_answer a words k why (Err e) app among is = λ other. refused_words a words k why e app among is other

  pub nothing_asked : (r : Result X WordsError) (asked : Option Asked) → asked ≡ None → IfErr r (λ y. y ≢ NoMemory → asked ≡ None)
  nothing_asked (Ok x) asked is = tt
  nothing_asked (Err e) asked is = λ other. is

-- ---- why words are refused

-- an error of clap's is handed on as it is, unless there was no memory
handed_on : (k : ErrorKind) (why : Error) (P : WordsError → Type 0) → P NoMemory → P (Refused why) → P (refusal_of k why)
handed_on OutOfMemory why P memory other = memory
handed_on _ why P memory other = other

-- clap's error is of a kind that its definition gives for the words, or there was no memory
refused_for : (words : List Text) (why : Error) (k : ErrorKind) → k ≡ kind_of why → (k ≡ OutOfMemory) ⊎ IsAmong k (fault_of wzlog words) → IsRefusedFor (refusal_of k why) words
refused_for words why k is (inl memory) = subst (λ (x : ErrorKind). IsRefusedFor (refusal_of x why) words) (sym memory) tt
refused_for words why k is (inr among) = handed_on k why (λ (e : WordsError). IsRefusedFor e words) tt (subst (λ (x : ErrorKind). IsAmong x (fault_of wzlog words)) is among)

pub no_mode_refuses : (words : List Text) → fault_of wzlog words ≡ [] → IsSomeAnd (mode_word words) (λ word. mode_of word ≡ None) → IsRefusedFor NoMode words
no_mode_refuses words taken named = (ap is_taken taken, named)

module _ {X : Type 0} (words : List Text) where
  -- an answer that hands clap's error on has its cause
  pub clap_refuses : (a : App) (why : Error) (r : Result X WordsError) → a ≡ wzlog → (kind_of why ≡ OutOfMemory) ⊎ IsAmong (kind_of why) (fault_of a words)
      → IsErrAnd r (λ e. e ≡ refusal_of (kind_of why) why) → IfErr r (λ e. IsRefusedFor e words)
  clap_refuses a why (Ok x) app among is = absurd is
  clap_refuses a why (Err e) app among is =
      let here = subst (λ (b : App). (kind_of why ≡ OutOfMemory) ⊎ IsAmong (kind_of why) (fault_of b words)) app among in
      subst (λ (y : WordsError). IsRefusedFor y words) (sym is) (refused_for words why (kind_of why) refl here)

  -- and so has one that misses a mode
  pub mode_refuses : (o : Option X) (r : Result X WordsError) → r ≡ ok_or o NoMode → (o ≡ None → IsRefusedFor NoMode words) → IfErr r (λ e. IsRefusedFor e words)
  mode_refuses None r is cause = subst (λ (q : Result X WordsError). IfErr q (λ e. IsRefusedFor e words)) (sym is) (cause refl)
  mode_refuses (Some x) r is cause = subst (λ (q : Result X WordsError). IfErr q (λ e. IsRefusedFor e words)) (sym is) tt

  pub error_refuses : (r : Result X WordsError) (e : WordsError) → IsErrAnd r (λ y. y ≡ e) → IsRefusedFor e words → IfErr r (λ y. IsRefusedFor y words)
  error_refuses (Ok x) e is cause = tt
  error_refuses (Err y) e is cause = subst (λ (z : WordsError). IsRefusedFor z words) (sym is) cause
