-- The whole parse takes what the level of a command takes; and lawful words are taken, and ask for what they say.
use Rattle.std.proofs.Common.{◌≡◌, ◌∙◌, ◌&&◌, ◌||◌, ◌-◌, ℕ, Bool, true, false, List, [], ◌∷◌, ◌++◌, append_assoc, append-nil, length, take, drop, Option, Some, None, cond, fold, refl, sym, ap, subst}
use Rattle.std.proofs.lemmas.List.{take-append-drop}
use Rattle.std.proofs.lemmas.Option.{option_and_then_some}
use Rattle.std.proofs.lemmas.Slice.Eq.{bytes_eq-Decides}
use Rattle.std.specs.List.{list_all, list_any}
use Rattle.std.specs.Option.{option_map_or}
use Rattle.std.specs.Prelude.{bytes_eq, find, is_some, option_and_then, option_map}
use Rattle.clap.specs.Faults.{check_fault, defaults_fault, entered_fault, given_default_fault, level_fault, settle_fault, turn_fault, walk_fault}
use Rattle.clap.specs.Kinds.{Kinds, check_kinds, or_else}
use Rattle.clap.specs.Simple.{built_leaf, entered, inherited, label_of, marked_built, names_of, rows_at, with_leaf_noted}
use Rattle.clap.specs.Words.{Row, Rule, Shape, Text, built as built_app, fault_of, subcommand_of}
use Rattle.clap.specs.Walk.{Names, Walk, action_of, answers_to, arg_by_short, finished, has_row, is_empty, nothing_held, rows_after, settled, walk, walk_from, walked, with_default}
use Rattle.clap.specs.declared.builder.action.ArgAction.{ArgAction}
use Rattle.clap.specs.declared.builder.action.ArgAction.TheVariants.{Set, SetTrue}
use Rattle.clap.proofs.FaultLemmas.{stopped_fault}
use Rattle.clap.proofs.OnLiterals.{clap_on_literals}
use Rattle.clap.proofs.WalkLemmas.{both}
use Rattle.program_words.specs.Commands.{Command, Texts, asked_by, commands}
use Rattle.program_words.specs.Definition.{shape, writepath}
use Rattle.program_words.specs.Lawful.{Given, command_asked, given_by, lawful_in, texts_of, value_of, with_options, with_places}
use Rattle.program_words.specs.Meaning.{invocation_by, invocation_in, is_taken, texts_in}
use Rattle.program_words.specs.Options.{Known, Place, Word}
use Rattle.program_words.specs.declared.invocation.Invocation.{Invocation}
use Rattle.program_words.proofs.Lists.{Each, each_passes, find_holds, find_passes}
use Rattle.program_words.proofs.Rows.{are_distinct, is_missing, none_missing, rows_given, rules_of, texts_ended}
use Rattle.program_words.proofs.Walks.{Ends, HasPlaces, Stands, before, has_plain_words, held, is_name, options_pass, places_given, places_pass, takes_options, walks_on}

-- ---- what holds of each command

-- a command as clap builds it
abbrev pub leaf : Command → Shape
leaf c = built_leaf (inherited (with_leaf_noted (marked_built writepath.top)) (shape c))

-- the argument is set by its last use, and its default, if it has one, passes
abbrev pub is_set : ArgAction → Bool
is_set Set = true
is_set SetTrue = true
is_set _ = false

abbrev pub is_sound : Rule → Bool
is_sound a = is_set (action_of a) && is_taken (given_default_fault a a.defaults)

abbrev pub top : Shape
top = (built_app writepath).top

abbrev pub names : Names
names = names_of (built_app writepath)

abbrev start : Walk
start = walk_from nothing_held

pub record IsCommand (c : Command) : Type 0 where
  -- its word leads to it
  pub met : walked top.rules names start c.name ≡ record start { stopped = Some (c.name, []) }
  pub passes : turn_fault top names start c.name ≡ []
  pub found : find (λ x. answers_to c.name (label_of x)) (built_app writepath).subs ≡ Some (leaf c)
  pub asks : (rows : List Row) → invocation_by c.name rows ≡ asked_by (texts_in rows) c.made
  -- its options and places are such that clap takes them as they are meant
  pub rules : (leaf c).rules ≡ rules_of c.options c.places
  pub options : list_all (λ (o : Known). is_name o.name && has_plain_words o.kind) c.options ≡ true
  pub places : HasPlaces (leaf c) 1 c.places
  pub distinct : are_distinct (rules_of c.options c.places) ≡ true
  pub sound : list_all is_sound (leaf c).rules ≡ true
  pub by_short : (x : ℕ) → arg_by_short (leaf c).rules x ≡ None

pub commands_are : Each IsCommand commands
unfolding clap_on_literals
commands_are = (
  record { met = refl; passes = refl; found = refl; asks = λ rows. refl; rules = refl; options = refl; places = tt; distinct = refl; sound = refl; by_short = λ x. refl },
  (
    record { met = refl; passes = refl; found = refl; asks = λ rows. refl; rules = refl; options = refl; places = tt; distinct = refl; sound = refl; by_short = λ x. refl },
    (
      record { met = refl; passes = refl; found = refl; asks = λ rows. refl; rules = refl; options = refl; places = tt; distinct = refl; sound = refl; by_short = λ x. refl },
      (
        record { met = refl; passes = refl; found = refl; asks = λ rows. refl; rules = refl; options = refl; places = (refl, refl, (refl, refl, (refl, refl, tt))); distinct = refl; sound = refl; by_short = λ x. refl },
        tt,
      ),
    ),
  ),
)

-- ---- the walk over the command and the words after it

stopped_walk : (c : List Rule) (ns : Names) (w : Walk) (name : Text) (seen words : List Text)
    → fold (walked c ns) (record w { stopped = Some (name, seen) }) words ≡ record w { stopped = Some (name, seen ++ words) }
unfolding walked
stopped_walk c ns w name seen [] = ap (λ (ws : List Text). record w { stopped = Some (name, ws) }) (sym (append-nil seen))
stopped_walk c ns w name seen (word ∷ words) =
    stopped_walk c ns w name (seen ++ word ∷ []) words
    ∙ ap (λ (ws : List Text). record w { stopped = Some (name, ws) }) (append_assoc seen (word ∷ []) words)

or_nothing : (kinds : Kinds) → or_else kinds [] ≡ kinds
or_nothing [] = refl
or_nothing (k ∷ kinds) = refl

-- the faults of the top level: `kinds`, or else those after its walk
abbrev behind_walk : Walk → Kinds → Kinds
behind_walk w kinds = or_else kinds (or_else (entered_fault (built_app writepath) w.stopped)
    (or_else (settle_fault top.rules top.args_override_self w.held)
    (or_else (defaults_fault (settled top.rules w.held).rows top.rules)
    (check_fault top (finished top.rules w.held) (is_some (entered (built_app writepath) w.stopped))))))

module _ (c : Command) (is : IsCommand c) (name : Text) (words : List Text) where
  walk_stops : walk top.rules names nothing_held (c.name ∷ words) ≡ record start { stopped = Some (c.name, words) }
  walk_stops = ap (λ (w : Walk). fold (walked top.rules names) w words) is.met ∙ stopped_walk top.rules names start c.name [] words

  no_walk_fault : walk_fault top names start (c.name ∷ words) ≡ []
  unfolding walk_fault
  no_walk_fault =
      ap (λ (kinds : Kinds). or_else kinds (walk_fault top names (walked top.rules names start c.name) words)) is.passes
      ∙ ap (λ (w : Walk). walk_fault top names w words) is.met
      ∙ stopped_fault top names start (c.name, []) words

  command_fault : fault_of writepath (name ∷ c.name ∷ words) ≡ level_fault (leaf c) [] nothing_held words false []
  unfolding defaults_fault
  command_fault =
      let with_leaf = λ (found : Option Shape). or_else (option_map_or (λ (x : Shape). level_fault x [] nothing_held words false []) found [])
      (or_else (settle_fault top.rules top.args_override_self nothing_held)
      (or_else (defaults_fault (settled top.rules nothing_held).rows top.rules)
      (check_fault top (finished top.rules nothing_held) (is_some (option_map (λ (x : Shape). rows_at x words) found))))) in
      ap (λ (w : Walk). behind_walk w (walk_fault top names start (c.name ∷ words))) walk_stops
      ∙ ap (behind_walk (record start { stopped = Some (c.name, words) })) no_walk_fault
      ∙ ap with_leaf is.found
      ∙ or_nothing (level_fault (leaf c) [] nothing_held words false [])

  command_found : subcommand_of writepath (name ∷ c.name ∷ words) ≡ Some (c.name, rows_after (leaf c).rules [] words)
  command_found = ap (λ (w : Walk). entered (built_app writepath) w.stopped) walk_stops ∙ ap (option_map (λ (x : Shape). rows_at x words)) is.found

  -- what a command asks for by its own level
  command_asks : (asked : Invocation) → level_fault (leaf c) [] nothing_held words false [] ≡ []
      → asked_by (texts_in (rows_after (leaf c).rules [] words)) c.made ≡ Some asked → invocation_in (name ∷ c.name ∷ words) ≡ Some asked
  unfolding invocation_in
  command_asks asked taken asks =
      ap (λ (kinds : Kinds). cond (is_taken kinds) (option_and_then (λ p. invocation_by p.0 p.1) (subcommand_of writepath (name ∷ c.name ∷ words))) None) (command_fault ∙ taken)
      ∙ ap (option_and_then (λ (p : Text × List Row). invocation_by p.0 p.1)) command_found
      ∙ is.asks (rows_after (leaf c).rules [] words)
      ∙ asks

-- ---- the level of a command

pub taken_told : (kinds : Kinds) → is_taken kinds ≡ true → kinds ≡ []
taken_told [] e = refl
taken_told (k ∷ kinds) e = cc

either_way : (b : Bool) (kinds : Kinds) → kinds ≡ [] → cond b [] kinds ≡ []
either_way true kinds e = refl
either_way false kinds e = e

defaults_pass : (rules : List Rule) → Each (λ (a : Rule). is_sound a ≡ true) rules → (rows : List Row) → defaults_fault rows rules ≡ []
unfolding defaults_fault
defaults_pass [] all rows = refl
defaults_pass (a ∷ rules) all rows =
    let parts = both (is_set (action_of a)) (is_taken (given_default_fault a a.defaults)) all.0 in
    ap (λ (kinds : Kinds). or_else kinds (defaults_fault (with_default rows a) rules))
    (either_way (has_row a.id rows || is_empty a.defaults) (given_default_fault a a.defaults) (taken_told (given_default_fault a a.defaults) parts.1))
    ∙ defaults_pass rules all.1 (with_default rows a)

four_empty : (a b c d : Kinds) → a ≡ [] → b ≡ [] → c ≡ [] → d ≡ [] → or_else a (or_else b (or_else c d)) ≡ []
four_empty a b c d p q r t = rw (p, q, r, t) refl

-- the level passes, and its rows are what was given
level_done : (c : Command) → IsCommand c → (place : ℕ) (given : Given) (words : List Text) → Ends (leaf c) place given (before 1 (held [] None)) words
    → Each (λ (place : Place). is_some (value_of place.name given) ≡ true) c.places
    → (level_fault (leaf c) [] nothing_held words false [] ≡ []) × (texts_in (rows_after (leaf c).rules [] words) ≡ texts_of c.options given)
level_done c is place given words ends all =
    let s = leaf c in
    let walks : walk s.rules [] nothing_held words ≡ before place (held ends.stands.rows ends.stands.pending) = ends.walks.1 ∙ ends.stands.at in
    let rows : rows_after s.rules [] words ≡ fold with_default (rows_given given) (rules_of c.options c.places) =
    ap (λ (w : Walk). finished s.rules w.held) walks ∙ ap (λ (r : List Row). fold with_default r s.rules) ends.stands.rows_are ∙ ap (fold with_default (rows_given given)) is.rules in
    let last = (walk s.rules [] nothing_held words).held in
    let required : list_any (is_missing (fold with_default (rows_given given) (rules_of c.options c.places))) s.rules ≡ false =
    ap (list_any (is_missing (fold with_default (rows_given given) (rules_of c.options c.places)))) is.rules ∙ none_missing c.options c.places is.distinct given c.options all in (
      four_empty (walk_fault s [] (walk_from nothing_held) words) (settle_fault s.rules false last) (defaults_fault (settled s.rules last).rows s.rules) (check_fault s (finished s.rules last) false)
          ends.walks.0 (ap (λ (w : Walk). settle_fault s.rules false w.held) walks ∙ ends.stands.settles)
          (defaults_pass s.rules (each_passes is_sound s.rules is.sound) (settled s.rules last).rows)
          (ap (λ (r : List Row). check_fault s r false) rows ∙ ap (check_kinds false false) required),
      ap texts_in rows ∙ texts_ended c.options c.places is.distinct given,
    )

-- ---- lawful words

command_lawful : (name : Text) (c : Command) → IsCommand c → (words : List Text) (asked : Invocation) → command_asked c words ≡ Some asked → invocation_in (name ∷ c.name ∷ words) ≡ Some asked
command_lawful name c is words asked e =
    let s = leaf c in
    let cut = length words - length c.places in
    let begin = before 1 (held [] None) in
    option_and_then_some (λ (given : Given). asked_by (texts_of c.options given) c.made) (given_by c words) asked e
    (λ given by asks. option_and_then_some (with_places c.places (drop cut words)) (with_options c.options None (take cut words) []) given by
    (λ first options places.
    let stands : Stands s 1 [] begin = record { rows = []; pending = None; at = refl; settles = refl; rows_are = refl } in
    let takes = takes_options s c.options c.places is.rules refl (each_passes (λ (o : Known). is_name o.name && has_plain_words o.kind) c.options is.options) in
    let ends = options_pass s c.options takes (take cut words) None [] first options begin stands in
    let rest = places_pass s refl c.places (drop cut words) 1 first given is.places places ends.last ends.stands in
    let all : Ends s rest.0 given begin words =
    subst (λ (ws : List Text). Ends s rest.0 given begin ws) (take-append-drop cut words)
    (record { last = rest.1.last; walks = walks_on s (take cut words) (drop cut words) begin ends.last rest.1.last ends.walks rest.1.walks; stands = rest.1.stands }) in
    let done = level_done c is rest.0 given words all (places_given c.places (drop cut words) first given places).1 in
    command_asks c is name words asked done.0 (ap (λ (texts : Texts). asked_by texts c.made) done.1 ∙ asks)))

-- lawful words ask for what they say
pub lawful_asks : (words : List Text) (asked : Invocation) → lawful_in words ≡ Some asked → invocation_in words ≡ Some asked
lawful_asks [] asked e = cc
lawful_asks (name ∷ []) asked e = cc
lawful_asks (name ∷ word ∷ words) asked e =
    option_and_then_some (λ (c : Command). command_asked c words) (find (λ (c : Command). bytes_eq word c.name) commands) asked e
    (λ c found asks.
    let same : word ≡ c.name = (bytes_eq-Decides _ _).0 (find_passes (λ (x : Command). bytes_eq word x.name) commands c found) in
    let is = find_holds IsCommand (λ (x : Command). bytes_eq word x.name) commands commands_are c found in
    subst (λ (w : Text). invocation_in (name ∷ w ∷ words) ≡ Some asked) (sym same) (command_lawful name c is words asked asks))
