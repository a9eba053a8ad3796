-- The rows of a parse: which one an id has after a use of an argument, and after the defaults.
use Rattle.std.proofs.Common.{◌≡◌, ◌∙◌, ◌&&◌, Bool, true, false, not, List, [], ◌∷◌, ◌++◌, Option, Some, None, cond, fold, refl, sym, ap}
use Rattle.std.proofs.lemmas.List.Folds.{find-append}
use Rattle.std.proofs.lemmas.Slice.Eq.{bytes_eq-Decides}
use Rattle.std.specs.Prelude.{bytes_eq, find, is_some, option_and_then}
use Rattle.std.specs.Option.{option_or}
use Rattle.clap.specs.Words.{Row, Rule, Text}
use Rattle.clap.specs.Walk.{arg_by_id, at_row, default_rows, has_row, more_values, reading_by, with_default}
use Rattle.clap.specs.declared.parser.matches.ValueSource.TheVariants.{DefaultValue}
use Rattle.clap.proofs.WalkLemmas.{both}
use Rattle.list_words.proofs.Lists.{Each, any_found, each_weaker, none_told, not_told, or_none, some_or}

-- the row of an id
abbrev pub row_in : Text → List Row → Option Row
row_in id = find (λ (r : Row). bytes_eq r.id id)

-- a change of an id that has no row is added after the rows
at_row-absent : (id : Text) (change : Row → List Row) (missing : List Row) (rows : List Row) → row_in id rows ≡ None → at_row id change missing rows ≡ rows ++ missing
at_row-absent id change missing [] unused = refl
at_row-absent id change missing (r ∷ rows) unused = go (bytes_eq r.id id) unused (at_row-absent id change missing rows)
  where
    go : (b : Bool) → cond b (Some r) (row_in id rows) ≡ None → (row_in id rows ≡ None → at_row id change missing rows ≡ rows ++ missing)
        → cond b (change r ++ rows) (r ∷ at_row id change missing rows) ≡ r ∷ (rows ++ missing)
    go true is rest = cc
    go false is rest = ap (λ (left : List Row). r ∷ left) (rest is)

-- no two arguments have one id
abbrev pub are_distinct : List Rule → Bool
are_distinct [] = true
are_distinct (a ∷ c) = not (is_some (arg_by_id c a.id)) && are_distinct c

-- where ids are distinct, each argument is the one with its id
pub itself : (c : List Rule) → are_distinct c ≡ true → Each (λ (a : Rule). arg_by_id c a.id ≡ Some a) c
itself [] distinct = tt
itself (x ∷ c) distinct =
    let parts = both (not (is_some (arg_by_id c x.id))) (are_distinct c) distinct in (
      rw ((bytes_eq-Decides x.id x.id).1 refl) refl,
      each_weaker (λ (a : Rule). arg_by_id c a.id ≡ Some a) (λ (a : Rule). arg_by_id (x ∷ c) a.id ≡ Some a) (λ a is. there a (not_told (is_some (arg_by_id c x.id)) parts.0) is (bytes_eq x.id a.id) refl) c (itself c parts.1),
    )
  where
    there : (a : Rule) → is_some (arg_by_id c x.id) ≡ false → arg_by_id c a.id ≡ Some a → (b : Bool) → bytes_eq x.id a.id ≡ b → cond b (Some x) (arg_by_id c a.id) ≡ Some a
    there a alone is true same = let found : is_some (arg_by_id c x.id) ≡ true = ap (λ (i : Text). is_some (arg_by_id c i)) ((bytes_eq-Decides x.id a.id).0 same) ∙ ap is_some is in cc
    there a alone is false other = is

-- the row that an argument has unless it is used, with these defaults
abbrev pub made : Rule → List Text → Option Row
made a [] = None
made a (v ∷ values) = Some (record { id = a.id; values = v ∷ values; count = None; source = Some DefaultValue; reading = reading_by a })

abbrev pub default_row : Rule → Option Row
default_row a = made a a.defaults

one_default : (id : Text) (rows : List Row) (a : Rule) → row_in id (with_default rows a) ≡ option_or (row_in id rows) (cond (bytes_eq a.id id) (default_row a) None)
one_default id rows a = go (has_row a.id rows) (any_found (λ (r : Row). bytes_eq r.id a.id) rows) a.defaults (bytes_eq a.id id) refl
  where
    go : (used : Bool) → used ≡ is_some (row_in a.id rows) → (values : List Text) (b : Bool) → bytes_eq a.id id ≡ b
        → row_in id (cond used rows (default_rows a.id (reading_by a) values rows)) ≡ option_or (row_in id rows) (cond b (made a values) None)
    go true u values true e = sym (some_or (row_in id rows) (made a values) (ap (λ (i : Text). is_some (row_in i rows)) (sym ((bytes_eq-Decides _ _).0 e)) ∙ sym u))
    go true u values false e = sym (or_none (row_in id rows))
    go false u [] true e = sym (or_none (row_in id rows))
    go false u [] false e = sym (or_none (row_in id rows))
    go false u (v ∷ values) b e =
        let row : Row = record { id = a.id; values = v ∷ values; count = None; source = Some DefaultValue; reading = reading_by a } in
        ap (row_in id) (at_row-absent a.id (more_values DefaultValue (v ∷ values)) (row ∷ []) rows (none_told _ (sym u)))
        ∙ find-append (λ (r : Row). bytes_eq r.id id) rows (row ∷ [])
        ∙ ap (λ (here : Bool). option_or (row_in id rows) (cond here (Some row) None)) e

-- an id has its row, or else that of its default
pub row_after : (id : Text) (c : List Rule) → are_distinct c ≡ true → (rows : List Row)
    → row_in id (fold with_default rows c) ≡ option_or (row_in id rows) (option_and_then default_row (arg_by_id c id))
row_after id [] distinct rows = sym (or_none (row_in id rows))
row_after id (a ∷ c) distinct rows =
    let parts = both (not (is_some (arg_by_id c a.id))) (are_distinct c) distinct in
    row_after id c parts.1 (with_default rows a)
    ∙ ap (λ (o : Option Row). option_or o (option_and_then default_row (arg_by_id c id))) (one_default id rows a)
    ∙ go (bytes_eq a.id id) refl (not_told (is_some (arg_by_id c a.id)) parts.0)
  where
    go : (b : Bool) → bytes_eq a.id id ≡ b → is_some (arg_by_id c a.id) ≡ false
        → option_or (option_or (row_in id rows) (cond b (default_row a) None)) (option_and_then default_row (arg_by_id c id))
        ≡ option_or (row_in id rows) (option_and_then default_row (cond b (Some a) (arg_by_id c id)))
    go true e alone =
        ap (λ (o : Option Rule). option_or (option_or (row_in id rows) (default_row a)) (option_and_then default_row o))
        (none_told (arg_by_id c id) (ap (λ (i : Text). is_some (arg_by_id c i)) (sym ((bytes_eq-Decides _ _).0 e)) ∙ alone))
        ∙ or_none (option_or (row_in id rows) (default_row a))
    go false e alone = ap (λ (o : Option Row). option_or o (option_and_then default_row (arg_by_id c id))) (or_none (row_in id rows))
