-- Words that clap takes name a command, and ask for something unless the word of `--mode` is the name of no mode.
use Rattle.std.proofs.Common.{◌≡◌, ◌∙◌, ◌&&◌, ◌||◌, ◌==◌, ◌^◌, ℕ, Bool, true, false, not, List, [], ◌∷◌, Option, Some, None, cond, codes, refl, sym, ap, subst}
use Rattle.std.proofs.lemmas.Slice.Eq.{bytes_eq-Decides}
use Rattle.std.specs.Prelude.{IsSomeAnd, bytes_eq, find, is_some, nat_le, nat_lt, option_and_then, option_map, slice_get}
use Rattle.std.specs.List.{list_all, list_any}
use Rattle.std.specs.Option.{option_map_or, option_or}
use Rattle.std.specs.Str.Parse.{digits_value, without_leading_plus}
use Rattle.clap.specs.Facts.{explicit_source, parser_of_value}
use Rattle.clap.specs.Faults.{check_fault, defaults_fault, entered_fault, level_fault, react_fault, settle_fault, short_fault, walk_fault}
use Rattle.clap.specs.Kinds.{Kinds, check_kinds, or_else}
use Rattle.clap.specs.Simple.{argument_words, built_leaf, entered, filled, help_rule, inherited, label_of, marked_built, names_of, rows_at, with_leaf_noted}
use Rattle.clap.specs.Takes.{is_given, value_passes}
use Rattle.clap.specs.Values.{read_as, reading_of}
use Rattle.clap.specs.ValueTests.{accepts, is_numeral, is_unsigned_in}
use Rattle.clap.specs.Words.{Row, Rule, Shape, Text, built as built_app, fault_of, first_of, one_of}
use Rattle.clap.specs.Walk.{Held, answers_to, arg_by_id, finished, nothing_held, reacted, reading_by, row_text, rows_after, settled, walk, walk_from}
use Rattle.clap.specs.declared.builder.value_parser.Reading.{Reading}
use Rattle.clap.specs.declared.builder.value_parser.Reading.TheVariants.{AsWritten}
use Rattle.clap.specs.declared.builder.value_parser.ValueParser.{ValueParser}
use Rattle.clap.specs.declared.builder.value_parser.ValueParser.TheVariants.{Unsigned, Bool as Flag}
use Rattle.clap.specs.declared.error.kind.ErrorKind.TheVariants.{DisplayHelp, MissingSubcommand}
use Rattle.clap.specs.declared.parser.matches.ValueSource.TheVariants.{DefaultValue}
use Rattle.clap.proofs.OnLiterals.{clap_on_literals}
use Rattle.clap.proofs.WalkLemmas.{both}
use Rattle.log_recovery.specs.declared.modes.Mode.{Mode}
use Rattle.list_words.specs.Asked.{asked_by, asked_in, list, list_by, mode_word, state, state_by}
use Rattle.list_words.specs.Definition.{list_rules, shape, state_rules, wzlog}
use Rattle.list_words.specs.Texts.{Texts, bool_of, flag_in, mode_of, number_in, texts_in, whole_number}
use Rattle.list_words.proofs.Lists.{Each, find_holds, find_passes, first_empty, first_passes, is_filled, none_passes}
use Rattle.list_words.proofs.Reading.{asked_taken}
use Rattle.list_words.proofs.Rows.{default_row, made, row_after, row_in}
use Rattle.list_words.proofs.Walks.{FitsRow, IsLeaf, Pass, RowPasses, arguments_are, settled_passes, walk_passes}

-- ---- the value of an argument that always has one

-- the argument is required, or has a default
abbrev is_there : Rule → Bool
is_there a = a.required || is_filled a.defaults

required_told : (b : Bool) → (b || false) ≡ true → b ≡ true
required_told true e = refl
required_told false e = cc

given_told : (b : Bool) → not b ≡ false → b ≡ true
given_told true e = refl
given_told false e = cc

-- no argument is wanted where the last check passes
check_told : (help subcommand argument : Bool) → check_kinds help subcommand argument ≡ [] → argument ≡ false
check_told true subcommand argument e = cc
check_told false true argument e = cc
check_told false false true e = cc
check_told false false false e = refl

wanted_told : (b wanted : Bool) → (not (b && false) && wanted) ≡ false → wanted ≡ false
wanted_told true wanted e = e
wanted_told false wanted e = e

module _ (s : Shape) (leaf : IsLeaf s) (words : List Text) (none : level_fault s [] nothing_held words false [] ≡ []) where
  abbrev end : Held
  end = (walk s.rules [] nothing_held words).held

  abbrev rows : List Row
  rows = (settled s.rules end).rows

  abbrev ended : List Row
  ended = finished s.rules end

  steps : (walk_fault s [] (walk_from nothing_held) words ≡ []) × (settle_fault s.rules s.args_override_self end ≡ []) × (check_fault s ended false ≡ [])
  steps =
      let checks = or_else (defaults_fault rows s.rules) (check_fault s ended false) in
      let walks = first_empty (walk_fault s [] (walk_from nothing_held) words) (or_else (settle_fault s.rules s.args_override_self end) checks) none in
      let settles = first_empty (settle_fault s.rules s.args_override_self end) checks walks.1 in
      (walks.0, settles.0, (first_empty (defaults_fault rows s.rules) (check_fault s ended false) settles.1).1)

  pass : Pass s.rules rows
  pass = settled_passes s leaf end (subst (λ (again : Bool). settle_fault s.rules again end ≡ []) leaf.once steps.1) (walk_passes s leaf words (walk_from nothing_held) steps.0 tt)

  -- a required argument is given
  required_given : (id : Text) (a : Rule) → arg_by_id s.rules id ≡ Some a → a.required ≡ true → is_given a.id ended ≡ true
  required_given id a found required =
      let is_missing = λ (x : Rule). x.required && not (is_given x.id ended) in
      let any : list_any is_missing s.rules ≡ false = wanted_told s.subcommand_negates_reqs (list_any is_missing s.rules) (check_told _ _ _ steps.2) in
      let there = find_holds (λ (x : Rule). is_missing x ≡ false) (λ (x : Rule). bytes_eq x.id id) s.rules (none_passes is_missing s.rules any) a found in
      given_told (is_given a.id ended) (subst (λ (b : Bool). (b && not (is_given a.id ended)) ≡ false) required there)

  row_there : (id : Text) (a : Rule) → arg_by_id s.rules id ≡ Some a → is_there a ≡ true → (r : Row) × (row_in id ended ≡ Some r) × FitsRow a r
  row_there id a found there = go (row_in id rows) refl a.defaults refl
    where
      after : (o : Option Row) → row_in id rows ≡ o → row_in id ended ≡ option_or o (default_row a)
      after o e =
          row_after id s.rules leaf.distinct rows
          ∙ ap (λ (found : Option Rule). option_or (row_in id rows) (option_and_then default_row found)) found
          ∙ ap (λ (first : Option Row). option_or first (default_row a)) e

      go : (o : Option Row) → row_in id rows ≡ o → (values : List Text) → a.defaults ≡ values → (r : Row) × (row_in id ended ≡ Some r) × FitsRow a r
      go (Some r) e values d =
          let same : r.id ≡ id = (bytes_eq-Decides _ _).0 (find_passes (λ (x : Row). bytes_eq x.id id) rows r e) in
          (r, after (Some r) e, find_holds (RowPasses s.rules) (λ (x : Row). bytes_eq x.id id) rows pass r e a (ap (arg_by_id s.rules) same ∙ found))
      go None e (v ∷ values) d =
          let row : Row = record { id = a.id; values = v ∷ values; count = None; source = Some DefaultValue; reading = reading_by a } in
          let sound = (both _ _ (arguments_are s leaf (λ (x : Rule). bytes_eq x.id id) a found).sound).0 in
          let fits : FitsRow a row = (refl, subst (λ (values : List Text). list_all (value_passes a) values ≡ true) d sound, refl) in
          (row, after None e ∙ ap (made a) d, fits)
      go None e [] d =
          let same : a.id ≡ id = (bytes_eq-Decides _ _).0 (find_passes (λ (x : Rule). bytes_eq x.id id) s.rules a found) in
          let required : a.required ≡ true = required_told a.required (subst (λ (values : List Text). (a.required || is_filled values) ≡ true) d there) in
          let given : is_given id ended ≡ true = subst (λ (i : Text). is_given i ended ≡ true) same (required_given id a found required) in
          let lost : is_given id ended ≡ false = ap (λ (o : Option Row). option_map_or (λ (r : Row). explicit_source r.source) o false) (after None e ∙ ap (made a) d) in
          let bad : true ≡ false = sym given ∙ lost in
          cc

  text_there : (id : Text) (a : Rule) → arg_by_id s.rules id ≡ Some a → is_there a ≡ true
      → (v : Text) × (first_of id ended ≡ Some v) × (one_of id ended ≡ Some (read_as (reading_by a) v)) × (value_passes a v ≡ true)
  text_there id a found there =
      let r = row_there id a found there in
      let first = first_passes (value_passes a) r.0.values r.2.0 r.2.1 in (
        first.0,
        ap (option_and_then (λ (x : Row). slice_get x.values 0)) r.1 ∙ first.1,
        ap (option_and_then row_text) r.1 ∙ ap (λ (how : Reading). option_map (read_as how) (slice_get r.0.values 0)) r.2.2 ∙ ap (option_map (read_as (reading_by a))) first.1,
        first.2,
      )

  number_there : (id : Text) (a : Rule) (least most : ℕ) → arg_by_id s.rules id ≡ Some a → is_there a ≡ true → a.parser ≡ Some (Unsigned least most)
      → (n : ℕ) × (number_in id (texts_in ended) ≡ Some n)
  number_there id a least most found there parser =
      let t = text_there id a found there in
      let passed : is_unsigned_in least most t.0 ≡ true = subst (λ (p : Option ValueParser). accepts a.ignore_case (parser_of_value p) t.0 ≡ true) parser t.3 in
      let how : reading_by a ≡ AsWritten = ap (λ (p : Option ValueParser). reading_of (parser_of_value p)) parser in
      let says = number_says least most t.0 passed in
      (says.0, ap (option_and_then (whole_number 64)) (t.2 ∙ ap (λ (r : Reading). Some (read_as r t.0)) how) ∙ says.1)
    where
      number_says : (least most : ℕ) (text : Text) → is_unsigned_in least most text ≡ true → (n : ℕ) × (whole_number 64 text ≡ Some n)
      number_says least most text passed =
          let n = digits_value 10 (without_leading_plus text) in
          let tests = both (is_numeral (without_leading_plus text)) (nat_lt n (2 ^ 64) && (nat_le least n && nat_le n most)) passed in
          let fits = both (nat_lt n (2 ^ 64)) (nat_le least n && nat_le n most) tests.1 in
          (n, rw (tests.0, fits.0) refl)

  flag_there : (id : Text) (a : Rule) → arg_by_id s.rules id ≡ Some a → is_there a ≡ true → a.parser ≡ Some Flag → (b : Bool) × (flag_in id (texts_in ended) ≡ Some b)
  flag_there id a found there parser =
      let t = text_there id a found there in
      let passed : accepts a.ignore_case Flag t.0 ≡ true = subst (λ (p : Option ValueParser). accepts a.ignore_case (parser_of_value p) t.0 ≡ true) parser t.3 in
      let how : reading_by a ≡ AsWritten = ap (λ (p : Option ValueParser). reading_of (parser_of_value p)) parser in
      let says = go (bytes_eq t.0 (codes "true")) (bytes_eq t.0 (codes "false")) passed in
      (says.0, ap (option_and_then bool_of) (t.2 ∙ ap (λ (r : Reading). Some (read_as r t.0)) how) ∙ says.1)
    where
      go : (x y : Bool) → (x || y) ≡ true → (b : Bool) × (cond x (Some true) (cond y (Some false) None) ≡ Some b)
      go true y e = (true, refl)
      go false true e = (false, refl)
      go false false e = cc

-- ---- the commands as clap builds them

abbrev leaf_of : Text → List Rule → Shape
leaf_of name rules = built_leaf (inherited (with_leaf_noted (marked_built wzlog.top)) (shape name rules))

abbrev help : Rule
help = filled help_rule

-- a short option is that of the help, or unknown
help_fails : (rules : List Rule) (again is_help : Bool) (rest : Text) (h : Held) (next : Held → Kinds) → short_fault rules again (cond is_help (Some help) None) rest h next ≡ [] → ⊥
help_fails rules again false rest h next none = cc
help_fails rules again true rest h next none =
    let reacts = first_empty (react_fault rules again help [] h) (next (reacted rules help [] h)) none in
    let asks : DisplayHelp ∷ [] ≡ [] = (first_empty (settle_fault rules again h) (DisplayHelp ∷ []) reacts.0).1 in
    cc

list_is : (name : Text) → IsLeaf (leaf_of name list_rules)
unfolding clap_on_literals
list_is name = record {
  once = refl;
  distinct = refl;
  sound = refl;
  by_short = λ again x rest h next none. help_fails (leaf_of name list_rules).rules again ((104 == x) || false) rest h next none;
}

state_is : IsLeaf (leaf_of (codes "state") state_rules)
unfolding clap_on_literals
state_is = record {
  once = refl;
  distinct = refl;
  sound = refl;
  by_short = λ again x rest h next none. help_fails (leaf_of (codes "state") state_rules).rules again ((104 == x) || false) rest h next none;
}

-- ---- what they ask for

list_some : (scan : Bool) (texts : Texts) (log : Text) (from to : ℕ) (text json summary : Bool) → texts.written (codes "LOG") ≡ Some log
    → number_in (codes "from") texts ≡ Some from → number_in (codes "to") texts ≡ Some to
    → flag_in (codes "text") texts ≡ Some text → flag_in (codes "json") texts ≡ Some json → flag_in (codes "summary") texts ≡ Some summary
    → is_some (list_by scan texts) ≡ true
list_some scan texts log from to text json summary a b c d e f = rw (a, b, c, d, e, f) refl

state_some : (texts : Texts) (log : Text) (mode : Mode) (text json : Bool) → texts.written (codes "LOG") ≡ Some log → option_and_then mode_of (texts.written (codes "mode")) ≡ Some mode
    → flag_in (codes "text") texts ≡ Some text → flag_in (codes "json") texts ≡ Some json → is_some (state_by texts) ≡ true
state_some texts log mode text json a b c d = rw (a, b, c, d) refl

none_of : {X Y : Type 0} (f : X → Y) (o : Option X) → option_map f o ≡ None → is_some o ≡ false
none_of f None e = refl
none_of f (Some x) e = cc

-- where clap takes the words of a command, they ask for something unless the word of `--mode` is the name of no mode
abbrev LevelTells : Shape → Type 0
LevelTells s = (words : List Text) → level_fault s [] nothing_held words false [] ≡ [] → asked_by s.name (texts_in (rows_after s.rules [] words)) ≡ None
    → IsSomeAnd (first_of (codes "mode") (rows_after s.rules [] words)) (λ word. mode_of word ≡ None)

list_tells : (name : Text) (scan : Bool) → ((texts : Texts) → asked_by name texts ≡ option_map list (list_by scan texts)) → LevelTells (leaf_of name list_rules)
unfolding clap_on_literals
list_tells name scan asks words none nothing =
    let s = leaf_of name list_rules in
    let is = list_is name in
    let texts = texts_in (rows_after s.rules [] words) in
    let log = text_there s is words none (codes "LOG") _ refl refl in
    let from = number_there s is words none (codes "from") _ _ _ refl refl refl in
    let to = number_there s is words none (codes "to") _ _ _ refl refl refl in
    let text = flag_there s is words none (codes "text") _ refl refl refl in
    let json = flag_there s is words none (codes "json") _ refl refl refl in
    let summary = flag_there s is words none (codes "summary") _ refl refl refl in
    let some = list_some scan texts log.0 from.0 to.0 text.0 json.0 summary.0 log.1 from.1 to.1 text.1 json.1 summary.1 in
    let bad : true ≡ false = sym some ∙ none_of list (list_by scan texts) (sym (asks texts) ∙ nothing) in
    cc

state_tells : LevelTells (leaf_of (codes "state") state_rules)
unfolding clap_on_literals
state_tells words none nothing =
    let s = leaf_of (codes "state") state_rules in
    let texts = texts_in (rows_after s.rules [] words) in
    let log = text_there s state_is words none (codes "LOG") _ refl refl in
    let mode = text_there s state_is words none (codes "mode") _ refl refl in
    let text = flag_there s state_is words none (codes "text") _ refl refl refl in
    let json = flag_there s state_is words none (codes "json") _ refl refl refl in
    subst (λ (o : Option Text). IsSomeAnd o (λ word. mode_of word ≡ None)) (sym mode.1)
    (told (mode_of mode.0) (λ (m : Mode) e. state_some texts log.0 m text.0 json.0 log.1 (ap (option_and_then mode_of) mode.1 ∙ e) text.1 json.1) (none_of state (state_by texts) nothing))
  where
    told : {asks : Bool} (m : Option Mode) → ((mode : Mode) → m ≡ Some mode → asks ≡ true) → asks ≡ false → m ≡ None
    told None some none = refl
    told (Some mode) some none = let bad : true ≡ false = sym (some mode refl) ∙ none in cc

-- ---- all words

leaves_tell : Each LevelTells (built_app wzlog).subs
unfolding clap_on_literals
leaves_tell = (list_tells (codes "list") false (λ texts. refl), (list_tells (codes "scan") true (λ texts. refl), (state_tells, tt)))

abbrev top : Shape
top = (built_app wzlog).top

-- the words name a command
needs_command : (rows : List Row) → check_fault top rows false ≡ [] → ⊥
needs_command rows check = let bad : MissingSubcommand ∷ [] ≡ [] = check in cc

entered_tells : (rows : List Row) (stop : Option (Text × List Text)) → entered_fault (built_app wzlog) stop ≡ [] → check_fault top rows (is_some (entered (built_app wzlog) stop)) ≡ []
    → option_and_then (λ (p : Text × List Row). asked_by p.0 (texts_in p.1)) (entered (built_app wzlog) stop) ≡ None
    → IsSomeAnd (option_and_then (λ (p : Text × List Row). first_of (codes "mode") p.1) (entered (built_app wzlog) stop)) (λ word. mode_of word ≡ None)
entered_tells rows None none check nothing = absurd (needs_command rows check)
entered_tells rows (Some q) none check nothing = go (find (λ x. answers_to q.0 (label_of x)) (built_app wzlog).subs) refl none check nothing
  where
    go : (found : Option Shape) → find (λ x. answers_to q.0 (label_of x)) (built_app wzlog).subs ≡ found
        → option_map_or (λ (s : Shape). level_fault s [] nothing_held q.1 false []) found [] ≡ []
        → check_fault top rows (is_some (option_map (λ (s : Shape). rows_at s q.1) found)) ≡ []
        → option_and_then (λ (p : Text × List Row). asked_by p.0 (texts_in p.1)) (option_map (λ (s : Shape). rows_at s q.1) found) ≡ None
        → IsSomeAnd (option_and_then (λ (p : Text × List Row). first_of (codes "mode") p.1) (option_map (λ (s : Shape). rows_at s q.1) found)) (λ word. mode_of word ≡ None)
    go None e nothing checks asks = absurd (needs_command rows checks)
    go (Some s) e nothing checks asks = find_holds LevelTells (λ x. answers_to q.0 (label_of x)) (built_app wzlog).subs leaves_tell s e q.1 nothing asks

-- where clap takes words that ask for nothing, the word of `--mode` is the name of no mode
pub no_mode_named : (words : List Text) → fault_of wzlog words ≡ [] → asked_in words ≡ None → IsSomeAnd (mode_word words) (λ word. mode_of word ≡ None)
no_mode_named words taken nothing =
    let names = names_of (built_app wzlog) in
    let rest = argument_words wzlog words in
    let end = walk top.rules names nothing_held rest in
    let is_met = is_some (entered (built_app wzlog) end.stopped) in
    let ended = finished top.rules end.held in
    let checks = or_else (defaults_fault (settled top.rules end.held).rows top.rules) (check_fault top ended is_met) in
    let settles = or_else (settle_fault top.rules top.args_override_self end.held) checks in
    let walks = first_empty (walk_fault top names (walk_from nothing_held) rest) (or_else (entered_fault (built_app wzlog) end.stopped) settles) taken in
    let enters = first_empty (entered_fault (built_app wzlog) end.stopped) settles walks.1 in
    let settled_at = first_empty (settle_fault top.rules top.args_override_self end.held) checks enters.1 in
    let checked = first_empty (defaults_fault (settled top.rules end.held).rows top.rules) (check_fault top ended is_met) settled_at.1 in
    entered_tells ended end.stopped enters.0 checked.1 (sym (asked_taken words taken) ∙ nothing)
