-- Clap's walk over the words of a command: where no step of it fails, each row has values, all of which passed the parser of its argument.
use Rattle.std.proofs.Common.{◌≡◌, ◌∙◌, ◌&&◌, ◌||◌, ℕ, Bool, true, false, not, zero, suc, List, [], ◌∷◌, ◌++◌, Option, Some, None, cond, fold, length, drop, refl, sym, ap, subst}
use Rattle.std.proofs.lemmas.List.Folds.{list_all-append}
use Rattle.std.proofs.lemmas.Slice.Eq.{bytes_eq-Decides}
use Rattle.std.specs.Prelude.{bytes_eq, encode_utf8, find, is_some, nat_lt, slice_get}
use Rattle.std.specs.List.{list_all}
use Rattle.std.specs.Option.{option_map_or}
use Rattle.std.specs.Str.{chars}
use Rattle.clap.specs.Facts.{parser_of_value, unwrap_or_range}
use Rattle.clap.specs.Faults.{action_fault, bundle_fault, bundle_step_fault, flag_word_fault, flags_fault, long_fault, option_fault, other_fault, positional_fault, react_fault, repeat_fault, settle_fault, short_fault, step_fault, stray_fault, turn_fault, use_fault, values_fault, walk_fault, word_fault}
use Rattle.clap.specs.Kinds.{Kinds, or_else, range_kinds, value_kinds, values_kinds}
use Rattle.clap.specs.Lexer.{long_of, short_of}
use Rattle.clap.specs.Takes.{value_passes}
use Rattle.clap.specs.Values.{is_request, refused_kind}
use Rattle.clap.specs.ValueTests.{accepts}
use Rattle.clap.specs.Words.{Row, Rule, Shape, Text}
use Rattle.clap.specs.Walk.{Held, Outcome, Step, Waiting, Walk, action_of, after_flag, after_step, arg_by_id, arg_by_index, arg_by_long, arg_by_short, at_row, bundle, bundle_met, bundle_step, done, flag_met, has_long, idle, is_pending, long_met, long_or_other, more_values, most_values, next, option, option_met, option_word, plain, plain_word, positional, pushed, reading_by, refused, settled, settled_rows, short_or_plain, subcommand, subcommand_met, subcommand_or_other, takes_several, takes_values, to_positional, trailing, used, used_as, used_by_id, value, values_or_missing, waits, walked, walked_from, with_values, without, word_met}
use Rattle.clap.specs.declared.builder.action.ArgAction.{ArgAction}
use Rattle.clap.specs.declared.builder.action.ArgAction.TheVariants.{Set, SetTrue}
use Rattle.clap.specs.declared.builder.value_parser.ValueParser.{ValueParser}
use Rattle.clap.specs.declared.error.kind.ErrorKind.TheVariants.{InvalidValue, TooManyValues}
use Rattle.clap.specs.declared.parser.matches.ValueSource.TheVariants.{CommandLine}
use Rattle.clap.proofs.WalkLemmas.{both}
use Rattle.list_words.proofs.Lists.{Each, and_true, each_append, each_passes, filled_more, find_holds, first_empty, is_filled}
use Rattle.list_words.proofs.Rows.{are_distinct, itself}

-- ---- rows

-- the row has values, all of which passed the parser of the argument, and they are read as it says
abbrev pub FitsRow : Rule → Row → Type 0
FitsRow a r = (is_filled r.values ≡ true) × (list_all (value_passes a) r.values ≡ true) × (r.reading ≡ reading_by a)

abbrev pub RowPasses : List Rule → Row → Type 0
RowPasses c r = (a : Rule) → arg_by_id c r.id ≡ Some a → FitsRow a r

abbrev pub Pass : List Rule → List Row → Type 0
Pass c rows = Each (RowPasses c) rows

at_row_passes : (c : List Rule) (id : Text) (change : Row → List Row) (missing : List Row) → ((r : Row) → bytes_eq r.id id ≡ true → RowPasses c r → Pass c (change r)) → Pass c missing
    → (rows : List Row) → Pass c rows → Pass c (at_row id change missing rows)
at_row_passes c id change missing changes miss [] p = miss
at_row_passes c id change missing changes miss (r ∷ rows) p = go (bytes_eq r.id id) refl (at_row_passes c id change missing changes miss rows p.1)
  where
    go : (b : Bool) → bytes_eq r.id id ≡ b → Pass c (at_row id change missing rows) → Pass c (cond b (change r ++ rows) (r ∷ at_row id change missing rows))
    go true e rest = each_append (RowPasses c) (change r) rows (changes r e p.0) p.1
    go false e rest = (p.0, rest)

-- ---- arguments

abbrev is_set : ArgAction → Bool
is_set Set = true
is_set SetTrue = true
is_set _ = false

-- a use of the argument has a value
abbrev has_value : Rule → Bool
has_value a = nat_lt 0 (unwrap_or_range a.range).start_inclusive || is_filled a.missing

-- the argument's defaults pass its parser; and it asks for help, or is set by its last use, which has a value
abbrev pub is_sound : Rule → Bool
is_sound a = list_all (value_passes a) a.defaults && (is_request (action_of a) || (is_set (action_of a) && has_value a))

-- the command's options are its own, and set by one use each; its short options are requests
pub record IsLeaf (s : Shape) : Type 0 where
  pub once : s.args_override_self ≡ false
  pub distinct : are_distinct s.rules ≡ true
  pub sound : list_all is_sound s.rules ≡ true
  pub by_short : (again : Bool) (x : ℕ) (rest : Text) (h : Held) (next : Held → Kinds) → short_fault s.rules again (arg_by_short s.rules x) rest h next ≡ [] → ⊥

-- the argument is the one with its id, and sound
pub record IsArgument (c : List Rule) (a : Rule) : Type 0 where
  pub itself : arg_by_id c a.id ≡ Some a
  pub sound : is_sound a ≡ true

pub arguments_are : (s : Shape) → IsLeaf s → (p : Rule → Bool) (a : Rule) → find p s.rules ≡ Some a → IsArgument s.rules a
arguments_are s is p a e = record {
  itself = find_holds (λ (x : Rule). arg_by_id s.rules x.id ≡ Some x) p s.rules (itself s.rules is.distinct) a e;
  sound = find_holds (λ (x : Rule). is_sound x ≡ true) p s.rules (each_passes is_sound s.rules is.sound) a e;
}

-- ---- uses

values_told : (ignore_case : Bool) (parser : ValueParser) (values : List Text) → values_kinds ignore_case parser values ≡ [] → list_all (accepts ignore_case parser) values ≡ true
values_told ignore_case parser [] e = refl
values_told ignore_case parser (v ∷ values) e =
    let parts = first_empty (value_kinds ignore_case parser v) (values_kinds ignore_case parser values) e in
    and_true (accepts ignore_case parser v) (list_all (accepts ignore_case parser) values) (go (accepts ignore_case parser v) parts.0) (values_told ignore_case parser values parts.1)
  where
    go : (b : Bool) → cond b [] (refused_kind parser ∷ []) ≡ [] → b ≡ true
    go true none = refl
    go false none = cc

-- a use that the range lets pass has a value, or means one
filled_use : (a : Rule) → has_value a ≡ true → (values : List Text) → range_kinds (unwrap_or_range a.range).start_inclusive (most_values a) (length values) ≡ []
    → is_filled (values_or_missing a values) ≡ true
filled_use a has (v ∷ values) none = refl
filled_use a has [] none = go (nat_lt 0 (unwrap_or_range a.range).start_inclusive) _ has none
  where
    go : (b : Bool) (rest : Kinds) → (b || is_filled a.missing) ≡ true → cond (b && true) (InvalidValue ∷ []) rest ≡ [] → is_filled a.missing ≡ true
    go true rest some nothing = cc
    go false rest some nothing = some

set_passes : (c : List Rule) (a : Rule) → arg_by_id c a.id ≡ Some a → (values : List Text) (rows : List Row) → is_filled values ≡ true → or_else (repeat_fault false a.id rows) (values_fault a values) ≡ []
    → Pass c rows → Pass c (with_values a.id (reading_by a) CommandLine values (without a.id rows))
set_passes c a itself values rows filled none p =
    let pass = values_told a.ignore_case (parser_of_value a.parser) values (first_empty (repeat_fault false a.id rows) (values_fault a values) none).1 in
    let here : (b : Rule) → arg_by_id c a.id ≡ Some b → (a ≡ b) × (list_all (value_passes b) values ≡ true) = λ b e.
    (let found : Some a ≡ Some b = sym itself ∙ e in let same : a ≡ b = cc in (same, subst (λ (x : Rule). list_all (value_passes x) values ≡ true) same pass)) in
    at_row_passes c a.id (more_values CommandLine values) (record { id = a.id; values = values; count = None; source = Some CommandLine; reading = reading_by a } ∷ [])
    (λ r e q. (
      λ b found.
          let all = (here b (ap (arg_by_id c) (sym ((bytes_eq-Decides _ _).0 e)) ∙ found)).1 in
          let old = q b found in
          (filled_more r.values values old.0, list_all-append (value_passes b) r.values values ∙ and_true _ _ old.1 all, old.2),
      tt,
    ))
    (λ b found. (filled, (here b found).1, ap reading_by (here b found).0), tt)
    (without a.id rows) (at_row_passes c a.id (λ _. []) [] (λ r e q. tt) tt rows p)

used_passes : (c : List Rule) (a : Rule) → IsArgument c a → (values : List Text) (rows : List Row) → use_fault false a values rows ≡ [] → Pass c rows → Pass c (used a values rows)
used_passes c a is values rows none p =
    let parts = first_empty (range_kinds (unwrap_or_range a.range).start_inclusive (most_values a) (length values)) (action_fault (action_of a) false a (values_or_missing a values) rows) none in
    go (action_of a) (both (list_all (value_passes a) a.defaults) (is_request (action_of a) || (is_set (action_of a) && has_value a)) is.sound).1 parts.0 parts.1
  where
    go : (x : ArgAction) → (is_request x || (is_set x && has_value a)) ≡ true → range_kinds (unwrap_or_range a.range).start_inclusive (most_values a) (length values) ≡ []
        → action_fault x false a (values_or_missing a values) rows ≡ [] → Pass c (used_as x a.id (reading_by a) (values_or_missing a values) rows)
    go Set sets fits nothing = set_passes c a is.itself (values_or_missing a values) rows (filled_use a sets values fits) nothing p
    go SetTrue sets fits nothing = set_passes c a is.itself (values_or_missing a values) rows (filled_use a sets values fits) nothing p
    go _ sets fits nothing = cc

-- ---- words

plain_same : (c : List Rule) (waiting : Waiting) (word : Text) (h : Held) → (plain_word c waiting word h).0.rows ≡ h.rows
plain_same c idle word h = refl
plain_same c positional word h = refl
plain_same c (option id) word h = go (arg_by_id c id)
  where
    go : (found : Option Rule) → (option_word found id word h).0.rows ≡ h.rows
    go None = refl
    go (Some a) = refl

flag_same : (c : List Rule) (waiting : Waiting) (word : Text) (h : Held) (outcome : Outcome) → (after_flag c waiting word h outcome).0.rows ≡ h.rows
flag_same c waiting word h done = refl
flag_same c waiting word h (waits id) = refl
flag_same c waiting word h plain = plain_same c waiting word h
flag_same c waiting word h refused = plain_same c waiting word h

module _ (s : Shape) (leaf : IsLeaf s) where
  are : (p : Rule → Bool) (a : Rule) → find p s.rules ≡ Some a → IsArgument s.rules a
  are = arguments_are s leaf

  pub settled_passes : (h : Held) → settle_fault s.rules false h ≡ [] → Pass s.rules h.rows → Pass s.rules (settled_rows s.rules h.pending h.rows)
  settled_passes h none p = go h.pending none
    where
      at : (id : Text) (values : List Text) (found : Option Rule) → arg_by_id s.rules id ≡ found → option_map_or (λ (a : Rule). use_fault false a values h.rows) found [] ≡ []
          → Pass s.rules (used_by_id found values h.rows)
      at id values None e nothing = p
      at id values (Some a) e nothing = used_passes s.rules a (are (λ (x : Rule). bytes_eq x.id id) a e) values h.rows nothing p

      go : (pending : Option (Text × List Text)) → option_map_or (λ (q : Text × List Text). option_map_or (λ (a : Rule). use_fault false a q.1 h.rows) (arg_by_id s.rules q.0) []) pending [] ≡ []
          → Pass s.rules (settled_rows s.rules pending h.rows)
      go None nothing = p
      go (Some q) nothing = at q.0 q.1 (arg_by_id s.rules q.0) refl nothing

  reacted_passes : (a : Rule) → IsArgument s.rules a → (values : List Text) (h : Held) → or_else (settle_fault s.rules false h) (use_fault false a values (settled s.rules h).rows) ≡ []
      → Pass s.rules h.rows → Pass s.rules (used a values (settled s.rules h).rows)
  reacted_passes a is values h none p =
      let parts = first_empty (settle_fault s.rules false h) (use_fault false a values (settled s.rules h).rows) none in
      used_passes s.rules a is values (settled s.rules h).rows parts.1 (settled_passes h parts.0 p)

  long_passes : (name : Text) (found : Option Rule) → arg_by_long s.rules name ≡ found → (v : Option Text) (h : Held) → long_fault s.rules false found v h ≡ []
      → Pass s.rules h.rows → Pass s.rules (long_met s.rules found v h).0.rows
  long_passes name None e v h none p = p
  long_passes name (Some a) e v h none p = go (takes_values a) v none
    where
      is : IsArgument s.rules a
      is = are (λ (x : Rule). not (is_some x.index) && has_long x name) a e

      go : (takes : Bool) (w : Option Text) → cond takes (option_fault s.rules false a w h) (cond (is_some w) (TooManyValues ∷ []) (react_fault s.rules false a [] h)) ≡ []
          → Pass s.rules (cond takes (option_met s.rules a w h) (flag_met s.rules a w h)).0.rows
      go true None nothing = settled_passes h nothing p
      go true (Some x) nothing = reacted_passes a is (x ∷ []) h nothing p
      go false None nothing = reacted_passes a is [] h nothing p
      go false (Some x) nothing = p

  -- a word of short options fails at its first one
  bundle_next : (again : Bool) (k : ℕ) (flags : Text) (skip : ℕ) (so_far : Outcome) (h : Held) (x : Option ℕ)
      → ((rest : Text) (n : ℕ) (outcome : Outcome) (g : Held) → flags_fault s.rules again k rest n g ≡ [] → (bundle_met s.rules k rest n outcome g).0.rows ≡ g.rows)
      → bundle_step_fault s.rules again x flags skip h (flags_fault s.rules again k) ≡ []
      → (bundle_step s.rules x flags skip so_far h (bundle_met s.rules k)).0.rows ≡ h.rows
  bundle_next again k flags skip so_far h None rest none = refl
  bundle_next again k flags zero so_far h (Some x) rest none =
      absurd (leaf.by_short again x (drop (length (encode_utf8 x)) flags) h (flags_fault s.rules again k (drop (length (encode_utf8 x)) flags) 0) none)
  bundle_next again k flags (suc n) so_far h (Some x) rest none = rest (drop (length (encode_utf8 x)) flags) n so_far h none

  bundle_same : (again : Bool) (k : ℕ) (flags : Text) (skip : ℕ) (so_far : Outcome) (h : Held) → flags_fault s.rules again k flags skip h ≡ [] → (bundle_met s.rules k flags skip so_far h).0.rows ≡ h.rows
  unfolding bundle_met flags_fault
  bundle_same again zero flags skip so_far h none = refl
  bundle_same again (suc k) flags skip so_far h none =
      bundle_next again k flags skip so_far h (slice_get (chars flags) 0) (λ rest n outcome g nothing. bundle_same again k rest n outcome g nothing) none

  word_passes : (is_trailing : Bool) (waiting : Waiting) (place : ℕ) (word : Text) (h : Held) → word_fault s [] is_trailing waiting word h ≡ []
      → Pass s.rules h.rows → Pass s.rules (word_met s.rules [] is_trailing waiting place word h).0.rows
  word_passes true waiting place word h none p = p
  word_passes false waiting place word h none p = go (subcommand_met [] waiting word) none
    where
      short : (flags : Option Text) → option_map_or (λ (f : Text). bundle_fault s.rules s.args_override_self f h) flags [] ≡ [] → Pass s.rules (short_or_plain s.rules waiting word flags h).0.rows
      short None nothing = subst (Pass s.rules) (sym (plain_same s.rules waiting word h)) p
      short (Some flags) nothing =
          let met = bundle s.rules flags h in
          subst (Pass s.rules) (sym (flag_same s.rules waiting word met.0 met.1 ∙ bundle_same s.args_override_self (length flags) flags h.skip plain (record h { skip = 0 }) nothing)) p

      long : (l : Option (Text × Option Text)) → flag_word_fault s.rules s.args_override_self l word h ≡ [] → Pass s.rules (long_or_other s.rules waiting word l h).0.rows
      long None nothing = short (short_of word) nothing
      long (Some l) nothing =
          let met = long_met s.rules (arg_by_long s.rules l.0) l.1 h in
          subst (Pass s.rules) (sym (flag_same s.rules waiting word met.0 met.1))
          (long_passes l.0 (arg_by_long s.rules l.0) refl l.1 h (subst (λ (again : Bool). long_fault s.rules again (arg_by_long s.rules l.0) l.1 h ≡ []) leaf.once nothing) p)

      other : (escape : Bool) → cond escape [] (flag_word_fault s.rules s.args_override_self (long_of word) word h) ≡ []
          → Pass s.rules (cond escape (h, trailing place) (long_or_other s.rules waiting word (long_of word) h)).0.rows
      other true nothing = p
      other false nothing = long (long_of word) nothing

      go : (met : Option Text) → other_fault s met word h ≡ [] → Pass s.rules (subcommand_or_other s.rules met waiting place word h).0.rows
      go (Some name) nothing = p
      go None nothing = other (bytes_eq word (45 ∷ 45 ∷ [])) nothing

  -- a word in a place of its own ends the argument that is pending, unless it is one more value of it
  step_passes : (word : Text) (w : Walk) (h : Held) (step : Step) → step_fault s w.position h step ≡ [] → Pass s.rules h.rows → Pass s.rules (after_step s.rules word w h step).held.rows
  step_passes word w h (next waiting) none p = p
  step_passes word w h (trailing place) none p = p
  step_passes word w h (subcommand name) none p = p
  step_passes word w h value none p = go (arg_by_index s.rules w.position) none
    where
      pushes : (a : Rule) (more : Bool) → cond more [] (settle_fault s.rules s.args_override_self h) ≡ [] → Pass s.rules (pushed a.id word (cond more h (settled s.rules h))).rows
      pushes a true nothing = p
      pushes a false nothing = settled_passes h (subst (λ (again : Bool). settle_fault s.rules again h ≡ []) leaf.once nothing) p

      go : (found : Option Rule) → option_map_or (λ (a : Rule). positional_fault s.rules s.args_override_self a h) found (stray_fault s) ≡ [] → Pass s.rules (to_positional s.rules found word w h).held.rows
      go None nothing = p
      go (Some a) nothing = pushes a (is_pending a h.pending && takes_several a) nothing

  turn_passes : (w : Walk) (word : Text) → turn_fault s [] w word ≡ [] → Pass s.rules w.held.rows → Pass s.rules (walked s.rules [] w word).held.rows
  unfolding walked
  turn_passes w word none p = go w.stopped none
    where
      go : (stopped : Option (Text × List Text))
          → cond (is_some stopped) [] (or_else (word_fault s [] w.is_trailing w.waiting word w.held) (step_fault s w.position (word_met s.rules [] w.is_trailing w.waiting w.position word w.held).0 (word_met s.rules [] w.is_trailing w.waiting w.position word w.held).1)) ≡ []
          → Pass s.rules (walked_from s.rules [] stopped w word).held.rows
      go (Some q) nothing = p
      go None nothing =
          let met = word_met s.rules [] w.is_trailing w.waiting w.position word w.held in
          let parts = first_empty (word_fault s [] w.is_trailing w.waiting word w.held) (step_fault s w.position met.0 met.1) nothing in
          step_passes word w met.0 met.1 parts.1 (word_passes w.is_trailing w.waiting w.position word w.held parts.0 p)

  -- where no step of a walk fails, the rows at its end pass
  pub walk_passes : (words : List Text) (w : Walk) → walk_fault s [] w words ≡ [] → Pass s.rules w.held.rows → Pass s.rules (fold (walked s.rules []) w words).held.rows
  unfolding walk_fault
  walk_passes [] w none p = p
  walk_passes (word ∷ words) w none p =
      let parts = first_empty (turn_fault s [] w word) (walk_fault s [] (walked s.rules [] w word) words) none in
      walk_passes words (walked s.rules [] w word) parts.1 (turn_passes w word parts.0 p)
