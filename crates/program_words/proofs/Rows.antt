-- The rows of a parse, over any lists of options and places: what uses and defaults add, and the texts that rows have.
use Rattle.std.proofs.Common.{◌≡◌, ◌∙◌, ◌+◌, ◌&&◌, ◌||◌, ℕ, Bool, true, false, not, min, List, [], ◌∷◌, ◌++◌, append-nil, Option, Some, None, cond, fold, map, refl, sym, ap}
use Rattle.std.proofs.Math.Bool.{or-false}
use Rattle.std.proofs.Math.Path.{fun_ext}
use Rattle.std.proofs.lemmas.List.{map-append}
use Rattle.std.proofs.lemmas.List.Folds.{find-append}
use Rattle.std.proofs.lemmas.Slice.Eq.{bytes_eq-Decides}
use Rattle.std.specs.Prelude.{bytes_eq, find, is_some, option_and_then, option_map, slice_get}
use Rattle.std.specs.List.{list_any}
use Rattle.std.specs.Option.{option_map_or, option_or}
use Rattle.clap.specs.Facts.{explicit_source}
use Rattle.clap.specs.Lexer.{usize_max}
use Rattle.clap.specs.Simple.{filled, with_index}
use Rattle.clap.specs.Takes.{is_given}
use Rattle.clap.specs.Words.{Row, Rule, Text}
use Rattle.clap.specs.Walk.{arg_by_id, at_row, default_rows, has_long, has_row, more_values, reading_by, row_text, with_default, with_values, without}
use Rattle.clap.specs.declared.builder.value_parser.Reading.TheVariants.{AsWritten}
use Rattle.clap.specs.declared.parser.matches.ValueSource.{ValueSource}
use Rattle.clap.specs.declared.parser.matches.ValueSource.TheVariants.{CommandLine, DefaultValue}
use Rattle.clap.proofs.WalkLemmas.{both}
use Rattle.program_words.specs.Definition.{option_rule, place_rule}
use Rattle.program_words.specs.Lawful.{Given, texts_of, unless_given, value_of}
use Rattle.program_words.specs.Meaning.{texts_in}
use Rattle.program_words.specs.Options.{Kind, Known, Place, Word, no_value, number_within, word_among}
use Rattle.program_words.proofs.Lists.{Each, any_found, find_map, find_passes, none_told, not_told, or_none, some_or}

-- the row of an argument with one value, or of a flag with the value that it means
abbrev pub value_row : Text → ValueSource → Text → Row
value_row id source value = record { id = id; values = value ∷ []; count = None; source = Some source; reading = AsWritten }

-- the row of an id
abbrev pub row_in : Text → List Row → Option Row
row_in id = find (λ (r : Row). bytes_eq r.id id)

-- a change of an id that has no row is added after the rows
at_row-absent : (id : Text) (change : Row → List Row) (missing : List Row) (rows : List Row) → row_in id rows ≡ None → at_row id change missing rows ≡ rows ++ missing
at_row-absent id change missing [] unused = refl
at_row-absent id change missing (r ∷ rows) unused = go (bytes_eq r.id id) unused (at_row-absent id change missing rows)
  where
    go : (b : Bool) → cond b (Some r) (row_in id rows) ≡ None → (row_in id rows ≡ None → at_row id change missing rows ≡ rows ++ missing)
        → cond b (change r ++ rows) (r ∷ at_row id change missing rows) ≡ r ∷ (rows ++ missing)
    go true is rest = cc
    go false is rest = ap (λ (left : List Row). r ∷ left) (rest is)

-- a first use is added after the rows
pub first_use : (id value : Text) (rows : List Row) → row_in id rows ≡ None
    → with_values id AsWritten CommandLine (value ∷ []) (without id rows) ≡ rows ++ value_row id CommandLine value ∷ []
first_use id value rows unused =
    ap (with_values id AsWritten CommandLine (value ∷ [])) (at_row-absent id (λ _. []) [] rows unused ∙ append-nil rows)
    ∙ at_row-absent id (more_values CommandLine (value ∷ [])) (value_row id CommandLine value ∷ []) rows unused

-- ---- what was given

abbrev pub row_given : Word × Word → Row
row_given g = value_row g.0 CommandLine g.1

abbrev pub rows_given : Given → List Row
rows_given given = map row_given given

pub one_given : (given : Given) (name value : Word) → rows_given given ++ value_row name CommandLine value ∷ [] ≡ rows_given (given ++ (name, value) ∷ [])
one_given given name value = sym (map-append row_given given ((name, value) ∷ []))

-- an id has the row of what was given for it
pub given_row : (id : Text) (given : Given) → row_in id (rows_given given) ≡ option_map (λ (v : Text). value_row id CommandLine v) (value_of id given)
given_row id given = find_map (λ (r : Row). bytes_eq r.id id) row_given given ∙ go (find (λ (g : Word × Word). bytes_eq g.0 id) given) refl
  where
    go : (found : Option (Word × Word)) → find (λ (g : Word × Word). bytes_eq g.0 id) given ≡ found
        → option_map row_given found ≡ option_map (λ (v : Text). value_row id CommandLine v) (option_map (λ (g : Word × Word). g.1) found)
    go None e = refl
    go (Some g) e = ap (λ (i : Text). Some (value_row i CommandLine g.1)) ((bytes_eq-Decides _ _).0 (find_passes (λ (x : Word × Word). bytes_eq x.0 id) given g e))

-- ---- defaults

-- no two arguments have one id
abbrev pub are_distinct : List Rule → Bool
are_distinct [] = true
are_distinct (a ∷ c) = not (is_some (arg_by_id c a.id)) && are_distinct c

-- the row that an argument has unless it is used, with these defaults
abbrev pub made : Rule → List Text → Option Row
made a [] = None
made a (v ∷ values) = Some (record { id = a.id; values = v ∷ values; count = None; source = Some DefaultValue; reading = reading_by a })

abbrev pub default_row : Rule → Option Row
default_row a = made a a.defaults

one_default : (id : Text) (rows : List Row) (a : Rule) → row_in id (with_default rows a) ≡ option_or (row_in id rows) (cond (bytes_eq a.id id) (default_row a) None)
one_default id rows a = go (has_row a.id rows) (any_found (λ (r : Row). bytes_eq r.id a.id) rows) a.defaults (bytes_eq a.id id) refl
  where
    go : (used : Bool) → used ≡ is_some (row_in a.id rows) → (values : List Text) (b : Bool) → bytes_eq a.id id ≡ b
        → row_in id (cond used rows (default_rows a.id (reading_by a) values rows)) ≡ option_or (row_in id rows) (cond b (made a values) None)
    go true u values true e = sym (some_or (row_in id rows) (made a values) (ap (λ (i : Text). is_some (row_in i rows)) (sym ((bytes_eq-Decides _ _).0 e)) ∙ sym u))
    go true u values false e = sym (or_none (row_in id rows))
    go false u [] true e = sym (or_none (row_in id rows))
    go false u [] false e = sym (or_none (row_in id rows))
    go false u (v ∷ values) b e =
        let row : Row = record { id = a.id; values = v ∷ values; count = None; source = Some DefaultValue; reading = reading_by a } in
        ap (row_in id) (at_row-absent a.id (more_values DefaultValue (v ∷ values)) (row ∷ []) rows (none_told _ (sym u)))
        ∙ find-append (λ (r : Row). bytes_eq r.id id) rows (row ∷ [])
        ∙ ap (λ (here : Bool). option_or (row_in id rows) (cond here (Some row) None)) e

-- an id has its row, or else that of its default
pub row_after : (id : Text) (c : List Rule) → are_distinct c ≡ true → (rows : List Row)
    → row_in id (fold with_default rows c) ≡ option_or (row_in id rows) (option_and_then default_row (arg_by_id c id))
row_after id [] distinct rows = sym (or_none (row_in id rows))
row_after id (a ∷ c) distinct rows =
    let parts = both (not (is_some (arg_by_id c a.id))) (are_distinct c) distinct in
    row_after id c parts.1 (with_default rows a)
    ∙ ap (λ (o : Option Row). option_or o (option_and_then default_row (arg_by_id c id))) (one_default id rows a)
    ∙ go (bytes_eq a.id id) refl (not_told (is_some (arg_by_id c a.id)) parts.0)
  where
    go : (b : Bool) → bytes_eq a.id id ≡ b → is_some (arg_by_id c a.id) ≡ false
        → option_or (option_or (row_in id rows) (cond b (default_row a) None)) (option_and_then default_row (arg_by_id c id))
        ≡ option_or (row_in id rows) (option_and_then default_row (cond b (Some a) (arg_by_id c id)))
    go true e alone =
        ap (λ (o : Option Rule). option_or (option_or (row_in id rows) (default_row a)) (option_and_then default_row o))
        (none_told (arg_by_id c id) (ap (λ (i : Text). is_some (arg_by_id c i)) (sym ((bytes_eq-Decides _ _).0 e)) ∙ alone))
        ∙ or_none (option_or (row_in id rows) (default_row a))
    go false e alone = ap (λ (o : Option Row). option_or o (option_and_then default_row (arg_by_id c id))) (or_none (row_in id rows))

-- ---- options and places

-- an option as clap builds it, and places with their numbers, from i on
abbrev pub built : Known → Rule
built o = filled (option_rule o)

abbrev pub numbered : ℕ → Place → Rule
numbered i place = with_index i (filled (place_rule place))

abbrev pub numbered_from : ℕ → List Place → List Rule
numbered_from i [] = []
numbered_from i (place ∷ places) = numbered i place ∷ numbered_from (min (i + 1) usize_max) places

abbrev pub rules_of : List Known → List Place → List Rule
rules_of options places = map built options ++ numbered_from 1 places

-- clap finds by the name what is found by the name
built_found : (options : List Known) (more : List Rule) (p : Rule → Bool) (q : Known → Bool) → ((o : Known) → p (built o) ≡ q o)
    → find p (map built options ++ more) ≡ option_or (option_map built (find q options)) (find p more)
built_found options more p q same =
    find-append p (map built options) more
    ∙ ap (λ (o : Option Rule). option_or o (find p more)) (find_map p built options ∙ ap (λ (test : Known → Bool). option_map built (find test options)) (fun_ext same))

module _ (options : List Known) (places : List Place) (name : Word) where
  pub found_by_long : (o : Known) → find (λ (x : Known). bytes_eq x.name name) options ≡ Some o
      → find (λ (a : Rule). not (is_some a.index) && has_long a name) (rules_of options places) ≡ Some (built o)
  found_by_long o found =
      let by_long = λ (a : Rule). not (is_some a.index) && has_long a name in
      built_found options (numbered_from 1 places) by_long (λ (x : Known). bytes_eq x.name name) (λ x. or-false (bytes_eq x.name name))
      ∙ ap (λ (x : Option Known). option_or (option_map built x) (find by_long (numbered_from 1 places))) found

  found_by_id : arg_by_id (rules_of options places) name ≡ option_or (option_map built (find (λ (x : Known). bytes_eq x.name name) options)) (arg_by_id (numbered_from 1 places) name)
  found_by_id = built_found options (numbered_from 1 places) (λ (a : Rule). bytes_eq a.id name) (λ (x : Known). bytes_eq x.name name) (λ x. refl)

  pub option_by_id : (o : Known) → find (λ (x : Known). bytes_eq x.name name) options ≡ Some o → arg_by_id (rules_of options places) name ≡ Some (built o)
  option_by_id o found = found_by_id ∙ ap (λ (x : Option Known). option_or (option_map built x) (arg_by_id (numbered_from 1 places) name)) found

-- what an option has by default is what stands for it unless it is given; a place has no default
option_default : (name : Word) (kind : Kind) → default_row (built (record { name = name; kind = kind })) ≡ option_map (λ (t : Text). value_row name DefaultValue t) (unless_given kind)
option_default name no_value = refl
option_default name (number_within least most None) = refl
option_default name (number_within least most (Some digits)) = refl
option_default name (word_among words word) = refl

place_default : (id : Text) (i : ℕ) (places : List Place) → option_and_then default_row (arg_by_id (numbered_from i places) id) ≡ None
place_default id i [] = refl
place_default id i (place ∷ places) = go (bytes_eq place.name id) (place_default id (min (i + 1) usize_max) places)
  where
    go : (b : Bool) → option_and_then default_row (arg_by_id (numbered_from (min (i + 1) usize_max) places) id) ≡ None
        → option_and_then default_row (cond b (Some (numbered i place)) (arg_by_id (numbered_from (min (i + 1) usize_max) places) id)) ≡ None
    go true rest = refl
    go false rest = rest

abbrev otherwise : List Known → Text → Option Text
otherwise options id = option_and_then (λ (o : Known). unless_given o.kind) (find (λ (o : Known). bytes_eq o.name id) options)

default_found : (id : Text) (options : List Known) (places : List Place)
    → option_and_then default_row (arg_by_id (rules_of options places) id) ≡ option_map (λ (t : Text). value_row id DefaultValue t) (otherwise options id)
default_found id options places = ap (option_and_then default_row) (found_by_id options places id) ∙ go (find (λ (o : Known). bytes_eq o.name id) options) refl
  where
    go : (found : Option Known) → find (λ (o : Known). bytes_eq o.name id) options ≡ found
        → option_and_then default_row (option_or (option_map built found) (arg_by_id (numbered_from 1 places) id))
        ≡ option_map (λ (t : Text). value_row id DefaultValue t) (option_and_then (λ (o : Known). unless_given o.kind) found)
    go None e = place_default id 1 places
    go (Some o) e =
        option_default o.name o.kind
        ∙ ap (λ (i : Text). option_map (λ (t : Text). value_row i DefaultValue t) (unless_given o.kind)) ((bytes_eq-Decides _ _).0 (find_passes (λ (x : Known). bytes_eq x.name id) options o e))

-- ---- the rows at the end of a parse

-- the texts of a row that was given, or of a default
texts_of_row : (id : Text) (value default : Option Text)
    → let row = option_or (option_map (λ (v : Text). value_row id CommandLine v) value) (option_map (λ (v : Text). value_row id DefaultValue v) default) in
    (option_and_then (λ (r : Row). slice_get r.values 0) row ≡ option_or value default) × (option_and_then row_text row ≡ option_or value default)
texts_of_row id (Some v) default = (refl, refl)
texts_of_row id None (Some v) = (refl, refl)
texts_of_row id None None = (refl, refl)

-- a required argument that was not given
abbrev pub is_missing : List Row → Rule → Bool
is_missing rows a = a.required && not (is_given a.id rows)

module _ (options : List Known) (places : List Place) (distinct : are_distinct (rules_of options places) ≡ true) (given : Given) where
  abbrev ended : List Row
  ended = fold with_default (rows_given given) (rules_of options places)

  row_ended : (id : Text)
      → row_in id ended ≡ option_or (option_map (λ (v : Text). value_row id CommandLine v) (value_of id given)) (option_map (λ (v : Text). value_row id DefaultValue v) (otherwise options id))
  row_ended id =
      row_after id (rules_of options places) distinct (rows_given given)
      ∙ ap (λ (o : Option Row). option_or o (option_and_then default_row (arg_by_id (rules_of options places) id))) (given_row id given)
      ∙ ap (option_or (option_map (λ (v : Text). value_row id CommandLine v) (value_of id given))) (default_found id options places)

  pub texts_ended : texts_in ended ≡ texts_of options given
  texts_ended =
      let texts = λ (id : Text). texts_of_row id (value_of id given) (otherwise options id) in
      let written = λ (id : Text). ap (option_and_then (λ (r : Row). slice_get r.values 0)) (row_ended id) ∙ (texts id).0 in
      let typed = λ (id : Text). ap (option_and_then row_text) (row_ended id) ∙ (texts id).1 in
      λ i. record { written = λ id. written id i; typed = λ id. typed id i }

  given_ended : (name : Word) → is_some (value_of name given) ≡ true → is_given name ended ≡ true
  given_ended name has = ap (λ (o : Option Row). option_map_or (λ (r : Row). explicit_source r.source) o false) (row_ended name) ∙ go (value_of name given) has
    where
      go : (o : Option Word) → is_some o ≡ true
          → option_map_or (λ (r : Row). explicit_source r.source)
          (option_or (option_map (λ (v : Text). value_row name CommandLine v) o) (option_map (λ (v : Text). value_row name DefaultValue v) (otherwise options name))) false ≡ true
      go None e = cc
      go (Some v) e = refl

  places_ended : (i : ℕ) (some : List Place) → Each (λ (place : Place). is_some (value_of place.name given) ≡ true) some → list_any (is_missing ended) (numbered_from i some) ≡ false
  places_ended i [] all = refl
  places_ended i (place ∷ some) all =
      ap (λ (b : Bool). not b || list_any (is_missing ended) (numbered_from (min (i + 1) usize_max) some)) (given_ended place.name all.0) ∙ places_ended (min (i + 1) usize_max) some all.1

  pub none_missing : (some : List Known) → Each (λ (place : Place). is_some (value_of place.name given) ≡ true) places → list_any (is_missing ended) (map built some ++ numbered_from 1 places) ≡ false
  none_missing [] all = places_ended 1 places all
  none_missing (o ∷ some) all = none_missing some all
