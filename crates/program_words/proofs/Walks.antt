-- Clap's walk over lawful words passes, and its rows are what was given: for any list of options, and of places.
use Rattle.std.proofs.Common.{◌≡◌, ◌∙◌, ◌+◌, ◌&&◌, ℕ, Bool, true, false, not, min, List, [], ◌∷◌, ◌++◌, Option, Some, None, cond, fold, codes, refl, sym, ap, subst}
use Rattle.std.proofs.Math.Bool.{and-false}
use Rattle.std.proofs.lemmas.List.Folds.{find-append}
use Rattle.std.proofs.lemmas.Option.{option_and_then_some}
use Rattle.std.proofs.lemmas.Slice.Eq.{bytes_eq-Decides}
use Rattle.std.specs.Prelude.{bytes_eq, find, is_some, option_and_then, option_map}
use Rattle.std.specs.List.{list_all, list_any}
use Rattle.std.specs.Option.{option_map_or, option_or}
use Rattle.clap.specs.Faults.{repeat_fault, settle_fault, turn_fault, use_fault, values_fault, walk_fault}
use Rattle.clap.specs.Kinds.{Kinds, or_else}
use Rattle.clap.specs.Lexer.{long_of, long_of_rest, name_and_value, short_of, usize_max}
use Rattle.clap.specs.Takes.{value_passes}
use Rattle.clap.specs.Words.{Row, Rule, Shape, Text}
use Rattle.clap.specs.Walk.{Held, Walk, arg_by_id, arg_by_index, arg_by_long, has_row, idle, is_pending, option, settled_rows, used, used_by_id, walked, with_values, without}
use Rattle.clap.specs.declared.builder.value_parser.Reading.TheVariants.{AsWritten}
use Rattle.clap.specs.declared.parser.matches.ValueSource.TheVariants.{CommandLine}
use Rattle.clap.proofs.WalkLemmas.{both}
use Rattle.program_words.specs.Lawful.{Given, is_flag, takes, value_of, with_options, with_places, with_value, within, word_of}
use Rattle.program_words.specs.Options.{Kind, Known, Place, Word, no_value, number_within, word_among}
use Rattle.program_words.proofs.Lists.{Each, any_found, cond_cases, each_passes, find_holds, find_passes, none_some, none_told, not_told, some_told}
use Rattle.program_words.proofs.Numbers.{IsPlain, number_passes}
use Rattle.program_words.proofs.Rows.{built, first_use, found_by_long, given_row, numbered, one_given, option_by_id, row_in, rows_given, rules_of, value_row}

-- ---- names and values

-- clap reads the name whole from the option's word
abbrev pub is_name : Word → Bool
is_name name = option_map_or (λ p. bytes_eq p.0 name && not (is_some p.1)) (long_of_rest name) false

-- clap takes the word for no flag
abbrev pub is_plain : Word → Bool
is_plain word = not (bytes_eq word (45 ∷ 45 ∷ [])) && (not (is_some (long_of word)) && not (is_some (short_of word)))

abbrev pub has_plain_words : Kind → Bool
has_plain_words (word_among words word) = list_all is_plain words
has_plain_words _ = true

name_told : (name : Word) → is_name name ≡ true → (bytes_eq (codes "--" ++ name) (45 ∷ 45 ∷ []) ≡ false) × (long_of (codes "--" ++ name) ≡ Some (name, None))
name_told [] e = cc
name_told (x ∷ xs) e =
    let p = name_and_value (x ∷ xs) in
    let parts = both (bytes_eq p.0 (x ∷ xs)) (not (is_some p.1)) e in
    let whole : p.0 ≡ x ∷ xs = (bytes_eq-Decides _ _).0 parts.0 in
    let alone : p.1 ≡ None = none_told p.1 (not_told (is_some p.1) parts.1) in
    (refl, λ i. Some (whole i, alone i))

plain_told : (word : Word) → is_plain word ≡ true → IsPlain word
plain_told word e =
    let first = both (not (bytes_eq word (45 ∷ 45 ∷ []))) (not (is_some (long_of word)) && not (is_some (short_of word))) e in
    let others = both (not (is_some (long_of word))) (not (is_some (short_of word))) first.1 in
    record { not_escape = not_told _ first.0; not_long = none_told _ (not_told _ others.0); not_short = none_told _ (not_told _ others.1) }

among_plain : (words : List Word) (value : Word) → list_all is_plain words ≡ true → list_any (λ (w : Word). bytes_eq value w) words ≡ true → IsPlain value
among_plain words value plain e =
    let same = λ (w : Word). bytes_eq value w in
    let found = some_told (find same words) (sym (any_found same words) ∙ e) in
    let is : value ≡ found.0 = (bytes_eq-Decides _ _).0 (find_passes same words found.0 found.1) in
    subst IsPlain (sym is) (plain_told found.0 (find_holds (λ (w : Word). is_plain w ≡ true) same words (each_passes is_plain words plain) found.0 found.1))

-- ---- where the walk stands

abbrev pub Pending : Type 0
Pending = Option (Text × List Text)

abbrev pub held : List Row → Pending → Held
held rows pending = record { rows = rows; pending = pending; skip = 0 }

-- before a word that may go to this place
abbrev pub before : ℕ → Held → Walk
before place h = record { held = h; waiting = idle; position = place; is_trailing = false; stopped = None }

-- after the word of an option, before its value
abbrev pub behind : Text → List Row → Walk
behind name rows = record { held = held rows (Some (name, [])); waiting = option name; position = 1; is_trailing = false; stopped = None }

-- before a word that may go to this place, and these values were given
pub record Stands (s : Shape) (place : ℕ) (given : Given) (w : Walk) : Type 0 where
  pub rows : List Row
  pub pending : Pending
  pub at : w ≡ before place (held rows pending)
  pub settles : settle_fault s.rules false (held rows pending) ≡ []
  pub rows_are : settled_rows s.rules pending rows ≡ rows_given given

-- the command finds the option by its word
pub record Finds (s : Shape) (o : Known) : Type 0 where
  pub named : is_name o.name ≡ true
  pub plain : has_plain_words o.kind ≡ true
  pub by_long : arg_by_long s.rules o.name ≡ Some (built o)
  pub by_id : arg_by_id s.rules o.name ≡ Some (built o)

-- the option waits for its value
pub record Waits (s : Shape) (o : Known) (given : Given) (w : Walk) : Type 0 where
  pub finds : Finds s o
  pub valued : is_flag o.kind ≡ false
  pub at : w ≡ behind o.name (rows_given given)

-- the walk takes a word, or words, without a fault
abbrev pub Steps : Shape → Walk → Text → Walk → Type 0
Steps s w word v = (turn_fault s [] w word ≡ []) × (walked s.rules [] w word ≡ v)

abbrev pub Walks : Shape → Walk → List Text → Walk → Type 0
Walks s w words v = (walk_fault s [] w words ≡ []) × (fold (walked s.rules []) w words ≡ v)

no_row_yet : (name : Word) (given : Given) (rows : List Row) → rows ≡ rows_given given → value_of name given ≡ None → row_in name rows ≡ None
no_row_yet name given rows are fresh = ap (row_in name) are ∙ given_row name given ∙ ap (option_map (λ (v : Text). value_row name CommandLine v)) fresh

one_more : (name value : Word) (given : Given) (rows : List Row) → rows ≡ rows_given given → rows ++ value_row name CommandLine value ∷ [] ≡ rows_given (given ++ (name, value) ∷ [])
one_more name value given rows are = ap (λ (r : List Row). r ++ value_row name CommandLine value ∷ []) are ∙ one_given given name value

-- ---- a value

-- the argument has one value, which no second use may replace
record HasValue (id : Text) (a : Rule) : Type 0 where
  use_is : (rows : List Row) (value : Text) → used a (value ∷ []) rows ≡ with_values id AsWritten CommandLine (value ∷ []) (without id rows)
  fault_is : (rows : List Row) (value : Text) → use_fault false a (value ∷ []) rows ≡ or_else (repeat_fault false id rows) (values_fault a (value ∷ []))

-- its first use passes, and adds one row
value_settles : (s : Shape) (place : ℕ) (id : Text) (a : Rule) → arg_by_id s.rules id ≡ Some a → HasValue id a → (value : Text) → value_passes a value ≡ true
    → (given : Given) (rows : List Row) → rows ≡ rows_given given → value_of id given ≡ None → Stands s place (given ++ (id, value) ∷ []) (before place (held rows (Some (id, value ∷ []))))
value_settles s place id a by_id has value accepted given rows are fresh =
    let unused = no_row_yet id given rows are fresh in
    let no_row : has_row id rows ≡ false = any_found (λ (r : Row). bytes_eq r.id id) rows ∙ ap is_some unused in
    record {
      rows = rows;
      pending = Some (id, value ∷ []);
      at = refl;
      settles = ap (λ (found : Option Rule). option_map_or (λ b. use_fault false b (value ∷ []) rows) found []) by_id ∙ has.fault_is rows value ∙ rw (no_row, accepted) refl;
      rows_are =
          ap (λ (found : Option Rule). used_by_id found (value ∷ []) rows) by_id ∙ has.use_is rows value ∙ first_use id value rows unused ∙ one_more id value given rows are;
    }

option_value : (name : Word) (kind : Kind) → is_flag kind ≡ false → HasValue name (built (record { name = name; kind = kind }))
option_value name no_value valued = cc
option_value name (number_within least most digits) valued = record { use_is = λ rows value. refl; fault_is = λ rows value. refl }
option_value name (word_among words word) valued = record { use_is = λ rows value. refl; fault_is = λ rows value. refl }

place_value : (i : ℕ) (place : Place) → HasValue place.name (numbered i place)
place_value i place = record { use_is = λ rows value. refl; fault_is = λ rows value. refl }

-- clap takes a lawful value
value_taken : (name : Word) (kind : Kind) (value : Word) → has_plain_words kind ≡ true → takes kind value ≡ true
    → IsPlain value × (value_passes (built (record { name = name; kind = kind })) value ≡ true)
value_taken name no_value value plain e = cc
value_taken name (number_within least most digits) value plain e = number_passes value least most e
value_taken name (word_among words word) value plain e = (among_plain words value plain e, refl)

-- ---- steps

module _ (s : Shape) (once : s.args_override_self ≡ false) where
  -- a flag is used at once
  flag_step : (name : Word) (kind : Kind) → is_flag kind ≡ true → Finds s (record { name = name; kind = kind }) → (rows : List Row) (pending : Pending)
      → settle_fault s.rules false (held rows pending) ≡ [] → row_in name (settled_rows s.rules pending rows) ≡ None
      → Steps s (before 1 (held rows pending)) (codes "--" ++ name) (before 1 (held (settled_rows s.rules pending rows ++ value_row name CommandLine (codes "true") ∷ []) None))
  unfolding walked
  flag_step name no_value flag finds rows pending settles unused =
      let now = settled_rows s.rules pending rows in
      let word = name_told name finds.named in
      let no_row : has_row name now ≡ false = any_found (λ (r : Row). bytes_eq r.id name) now ∙ ap is_some unused in (
        rw (word.0, word.1, finds.by_long, once, settles, no_row) refl,
        rw (word.0, word.1, finds.by_long) (ap (λ (r : List Row). before 1 (held r None)) (first_use name (codes "true") now unused)),
      )
  flag_step name (number_within least most digits) flag finds rows pending settles unused = cc
  flag_step name (word_among words word) flag finds rows pending settles unused = cc

  -- another option waits for its value
  name_step : (name : Word) (kind : Kind) → is_flag kind ≡ false → Finds s (record { name = name; kind = kind }) → (rows : List Row) (pending : Pending)
      → settle_fault s.rules false (held rows pending) ≡ [] → Steps s (before 1 (held rows pending)) (codes "--" ++ name) (behind name (settled_rows s.rules pending rows))
  unfolding walked
  name_step name no_value valued finds rows pending settles = cc
  name_step name (number_within least most digits) valued finds rows pending settles =
      let word = name_told name finds.named in (rw (word.0, word.1, finds.by_long, once, settles) refl, rw (word.0, word.1, finds.by_long) refl)
  name_step name (word_among words default) valued finds rows pending settles =
      let word = name_told name finds.named in (rw (word.0, word.1, finds.by_long, once, settles) refl, rw (word.0, word.1, finds.by_long) refl)

  value_step : (name : Word) (kind : Kind) → is_flag kind ≡ false → arg_by_id s.rules name ≡ Some (built (record { name = name; kind = kind })) → (value : Word) → IsPlain value
      → (rows : List Row) → Steps s (behind name rows) value (before 1 (held rows (Some (name, value ∷ []))))
  unfolding walked
  value_step name no_value valued by_id value plain rows = cc
  value_step name (number_within least most digits) valued by_id value plain rows =
      (rw (plain.not_escape, plain.not_long, plain.not_short) refl, rw (plain.not_escape, plain.not_long, plain.not_short, by_id, (bytes_eq-Decides name name).1 refl) refl)
  value_step name (word_among words word) valued by_id value plain rows =
      (rw (plain.not_escape, plain.not_long, plain.not_short) refl, rw (plain.not_escape, plain.not_long, plain.not_short, by_id, (bytes_eq-Decides name name).1 refl) refl)

  -- a number in its place ends what was pending
  place_step : (i : ℕ) (place : Place) → arg_by_index s.rules i ≡ Some (numbered i place) → (value : Word) → IsPlain value → (rows : List Row) (pending : Pending)
      → settle_fault s.rules false (held rows pending) ≡ []
      → Steps s (before i (held rows pending)) value (before (min (i + 1) usize_max) (held (settled_rows s.rules pending rows) (Some (place.name, value ∷ []))))
  unfolding walked
  place_step i place by_index value plain rows pending settles =
      let none_more = and-false (is_pending (numbered i place) pending) in (
        rw (plain.not_escape, plain.not_long, plain.not_short, by_index, none_more, once, settles) refl,
        rw (plain.not_escape, plain.not_long, plain.not_short, by_index, none_more) refl,
      )

-- ---- many steps

pub first_empty : (x y : Kinds) → or_else x y ≡ [] → (x ≡ []) × (y ≡ [])
first_empty [] y e = (refl, e)
first_empty (k ∷ x) y e = cc

step_then : (s : Shape) (w u v : Walk) (word : Text) (words : List Text) → Steps s w word u → Walks s u words v → Walks s w (word ∷ words) v
unfolding walk_fault
step_then s w u v word words step rest = (
  ap (λ (kinds : Kinds). or_else kinds (walk_fault s [] (walked s.rules [] w word) words)) step.0 ∙ ap (λ (x : Walk). walk_fault s [] x words) step.1 ∙ rest.0,
  ap (λ (x : Walk). fold (walked s.rules []) x words) step.1 ∙ rest.1,
)

pub walks_on : (s : Shape) (xs ys : List Text) (w u v : Walk) → Walks s w xs u → Walks s u ys v → Walks s w (xs ++ ys) v
unfolding walk_fault
walks_on s [] ys w u v first rest = subst (λ (x : Walk). Walks s x ys v) (sym first.1) rest
walks_on s (x ∷ xs) ys w u v first rest =
    let parts = first_empty (turn_fault s [] w x) (walk_fault s [] (walked s.rules [] w x) xs) first.0 in
    step_then s w (walked s.rules [] w x) v x (xs ++ ys) (parts.0, refl) (walks_on s xs ys (walked s.rules [] w x) u v (parts.1, first.1) rest)

-- the walk takes these words and then stands there
pub record Ends (s : Shape) (place : ℕ) (given : Given) (w : Walk) (words : List Text) : Type 0 where
  pub last : Walk
  pub walks : Walks s w words last
  pub stands : Stands s place given last

ends_here : (s : Shape) (place : ℕ) (given after : Given) (w : Walk) → Some given ≡ Some after → Stands s place given w → Ends s place after w []
unfolding walk_fault
ends_here s place given after w e stands = let same : given ≡ after = cc in record { last = w; walks = (refl, refl); stands = subst (λ (g : Given). Stands s place g w) same stands }

ends_after : (s : Shape) (place : ℕ) (given : Given) (v w u : Walk) (word : Text) (words : List Text) → v ≡ w → Steps s w word u → Ends s place given u words → Ends s place given v (word ∷ words)
ends_after s place given v w u word words at step ends =
    subst (λ (x : Walk). Ends s place given x (word ∷ words)) (sym at)
    (record { last = ends.last; walks = step_then s w u ends.last word words step ends.walks; stands = ends.stands })

-- a value is given, if it passes the test and wasn't given before
value_given : {R : Type 0} (test : Bool) (next : Given → Option Given) (name value : Word) (given after : Given)
    → cond test (option_and_then next (with_value name value given)) None ≡ Some after
    → (test ≡ true → value_of name given ≡ None → next (given ++ (name, value) ∷ []) ≡ Some after → R) → R
value_given false next name value given after e goes = absurd (none_some e)
value_given {R} true next name value given after e goes = go (value_of name given) refl e
  where
    go : (o : Option Word) → value_of name given ≡ o → option_and_then next (cond (is_some o) None (Some (given ++ (name, value) ∷ []))) ≡ Some after → R
    go None fresh is = goes refl fresh is
    go (Some v) old is = absurd (none_some is)

-- ---- any list of options

-- the command finds each of these options
pub record TakesOptions (s : Shape) (known : List Known) : Type 0 where
  pub once : s.args_override_self ≡ false
  pub finds : (o : Known) → find (λ (x : Known). bytes_eq x.name o.name) known ≡ Some o → Finds s o

abbrev pub Holds : Shape → Option Known → Given → Walk → Type 0
Holds s None given w = Stands s 1 given w
Holds s (Some o) given w = Waits s o given w

pub options_pass : (s : Shape) (known : List Known) → TakesOptions s known → (words : List Word) (waiting : Option Known) (given after : Given)
    → with_options known waiting words given ≡ Some after → (w : Walk) → Holds s waiting given w → Ends s 1 after w words
options_pass s known are [] None given after e w stands = ends_here s 1 given after w e stands
options_pass s known are [] (Some o) given after e w waits = absurd (none_some e)
options_pass s known are (word ∷ words) None given after e w stands =
    let flag_given = λ (o : Known). option_and_then (with_options known None words) (with_value o.name (codes "true") given) in
    option_and_then_some (λ (o : Known). cond (is_flag o.kind) (flag_given o) (with_options known (Some o) words given)) (find (λ (o : Known). bytes_eq (word_of o) word) known) after e
    (λ o found is.
    let same : word_of o ≡ word = (bytes_eq-Decides _ _).0 (find_passes (λ (x : Known). bytes_eq (word_of x) word) known o found) in
    let here : find (λ (x : Known). bytes_eq x.name o.name) known ≡ Some o = subst (λ (t : Word). find (λ (x : Known). bytes_eq (word_of x) t) known ≡ Some o) (sym same) found in
    let finds = are.finds o here in
    let now = settled_rows s.rules stands.pending stands.rows in
    let goes = λ (u : Walk) (step : Steps s (before 1 (held stands.rows stands.pending)) (word_of o) u) (ends : Ends s 1 after u words).
    ends_after s 1 after w (before 1 (held stands.rows stands.pending)) u word words stands.at (subst (λ (t : Word). Steps s (before 1 (held stands.rows stands.pending)) t u) same step) ends in
    cond_cases (is_flag o.kind) (flag_given o) (with_options known (Some o) words given) (Some after) is
    (λ flag more. value_given true (with_options known None words) o.name (codes "true") given after more
    (λ _ fresh left.
    let rows = now ++ value_row o.name CommandLine (codes "true") ∷ [] in
    goes (before 1 (held rows None)) (flag_step s are.once o.name o.kind flag finds stands.rows stands.pending stands.settles (no_row_yet o.name given now stands.rows_are fresh))
    (options_pass s known are words None (given ++ (o.name, codes "true") ∷ []) after left (before 1 (held rows None))
    (record { rows = rows; pending = None; at = refl; settles = refl; rows_are = one_more o.name (codes "true") given now stands.rows_are }))))
    (λ valued left.
    goes (behind o.name now) (name_step s are.once o.name o.kind valued finds stands.rows stands.pending stands.settles)
    (options_pass s known are words (Some o) given after left (behind o.name now) (record { finds = finds; valued = valued; at = ap (behind o.name) stands.rows_are }))))
options_pass s known are (value ∷ words) (Some o) given after e w waits =
    value_given (takes o.kind value) (with_options known None words) o.name value given after e
    (λ fits fresh left.
    let taken = value_taken o.name o.kind value waits.finds.plain fits in
    let rows = rows_given given in
    let next = before 1 (held rows (Some (o.name, value ∷ []))) in
    ends_after s 1 after w (behind o.name rows) next value words waits.at (value_step s are.once o.name o.kind waits.valued waits.finds.by_id value taken.0 rows)
    (options_pass s known are words None (given ++ (o.name, value) ∷ []) after left next
    (value_settles s 1 o.name (built o) waits.finds.by_id (option_value o.name o.kind waits.valued) value taken.1 given rows refl fresh)))

-- the options of a command, and then its places
pub takes_options : (s : Shape) (options : List Known) (places : List Place) → s.rules ≡ rules_of options places → s.args_override_self ≡ false
    → Each (λ (o : Known). (is_name o.name && has_plain_words o.kind) ≡ true) options → TakesOptions s options
takes_options s options places rules once all = record {
  once = once;
  finds = λ o found.
      let fine = both (is_name o.name) (has_plain_words o.kind)
      (find_holds (λ (x : Known). (is_name x.name && has_plain_words x.kind) ≡ true) (λ (x : Known). bytes_eq x.name o.name) options all o found) in record {
        named = fine.0;
        plain = fine.1;
        by_long = ap (λ (c : List Rule). arg_by_long c o.name) rules ∙ found_by_long options places o.name o found;
        by_id = ap (λ (c : List Rule). arg_by_id c o.name) rules ∙ option_by_id options places o.name o found;
      };
}

-- ---- any list of places

-- the command finds these places, which are numbered from i on
abbrev pub HasPlaces : Shape → ℕ → List Place → Type 0
HasPlaces s i [] = Unit {0}
HasPlaces s i (place ∷ places) = (arg_by_index s.rules i ≡ Some (numbered i place)) × (arg_by_id s.rules place.name ≡ Some (numbered i place))
    × HasPlaces s (min (i + 1) usize_max) places

pub places_pass : (s : Shape) → s.args_override_self ≡ false → (places : List Place) (words : List Word) (i : ℕ) (given after : Given) → HasPlaces s i places
    → with_places places words given ≡ Some after → (w : Walk) → Stands s i given w → (last : ℕ) × Ends s last after w words
places_pass s once [] [] i given after has e w stands = (i, ends_here s i given after w e stands)
places_pass s once [] (word ∷ words) i given after has e w stands = absurd (none_some e)
places_pass s once (place ∷ places) [] i given after has e w stands = absurd (none_some e)
places_pass s once (place ∷ places) (word ∷ words) i given after has e w stands =
    value_given (is_some (within place.least place.most word)) (with_places places words) place.name word given after e
    (λ fits fresh left.
    let taken = number_passes word place.least place.most fits in
    let now = settled_rows s.rules stands.pending stands.rows in
    let next = before (min (i + 1) usize_max) (held now (Some (place.name, word ∷ []))) in
    let rest = places_pass s once places words (min (i + 1) usize_max) (given ++ (place.name, word) ∷ []) after has.2 left next
    (value_settles s (min (i + 1) usize_max) place.name (numbered i place) has.1 (place_value i place) word taken.1 given now stands.rows_are fresh) in (
      rest.0,
      ends_after s rest.0 after w (before i (held stands.rows stands.pending)) next word words stands.at
          (place_step s once i place has.0 word taken.0 stands.rows stands.pending stands.settles) rest.1,
    ))

-- each place has a value then

abbrev IsGiven : Given → Word → Type 0
IsGiven given name = is_some (value_of name given) ≡ true

given_still : (name : Word) (given : Given) (g : Word × Word) → IsGiven given name → IsGiven (given ++ g ∷ []) name
given_still name given g has =
    let same = λ (x : Word × Word). bytes_eq x.0 name in
    ap (λ (o : Option (Word × Word)). is_some (option_map (λ (x : Word × Word). x.1) o)) (find-append same given (g ∷ [])) ∙ go (find same given) has
  where
    go : (o : Option (Word × Word)) → is_some (option_map (λ (x : Word × Word). x.1) o) ≡ true
        → is_some (option_map (λ (x : Word × Word). x.1) (option_or o (find (λ (x : Word × Word). bytes_eq x.0 name) (g ∷ [])))) ≡ true
    go None e = cc
    go (Some x) e = refl

given_now : (name value : Word) (given : Given) → IsGiven (given ++ (name, value) ∷ []) name
given_now name value given =
    let same = λ (x : Word × Word). bytes_eq x.0 name in
    ap (λ (o : Option (Word × Word)). is_some (option_map (λ (x : Word × Word). x.1) o)) (find-append same given ((name, value) ∷ [])) ∙ go (find same given)
  where
    go : (o : Option (Word × Word)) → is_some (option_map (λ (x : Word × Word). x.1) (option_or o (find (λ (x : Word × Word). bytes_eq x.0 name) ((name, value) ∷ [])))) ≡ true
    go None = rw ((bytes_eq-Decides name name).1 refl) refl
    go (Some x) = refl

pub places_given : (places : List Place) (words : List Word) (given after : Given) → with_places places words given ≡ Some after
    → ((name : Word) → IsGiven given name → IsGiven after name) × Each (λ (place : Place). IsGiven after place.name) places
places_given [] [] given after e = let same : given ≡ after = cc in (λ name has. subst (λ (g : Given). IsGiven g name) same has, tt)
places_given [] (word ∷ words) given after e = absurd (none_some e)
places_given (place ∷ places) [] given after e = absurd (none_some e)
places_given (place ∷ places) (word ∷ words) given after e =
    value_given (is_some (within place.least place.most word)) (with_places places words) place.name word given after e
    (λ fits fresh left.
    let rest = places_given places words (given ++ (place.name, word) ∷ []) after left in
    (λ name has. rest.0 name (given_still name given (place.name, word) has), (rest.0 place.name (given_now place.name word given), rest.1)))
