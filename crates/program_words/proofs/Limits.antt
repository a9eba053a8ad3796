-- What words ask for keeps the limits: where no step of a parse fails, the values of each row passed their parser.
use Rattle.std.proofs.Common.{◌≡◌, ◌∙◌, ◌&&◌, ◌≤◌, ℕ, Bool, true, false, not, zero, suc, List, [], ◌∷◌, ◌++◌, Option, Some, None, cond, fold, length, drop, map, refl, sym, ap, subst, arith, codes}
use Rattle.std.proofs.lemmas.List.Folds.{list_all-append}
use Rattle.std.proofs.lemmas.Option.{option_and_then_some}
use Rattle.std.proofs.lemmas.Slice.Eq.{bytes_eq-Decides}
use Rattle.std.specs.Prelude.{bytes_eq, encode_utf8, find, is_some, option_and_then, option_map, slice_get}
use Rattle.std.specs.List.{list_all}
use Rattle.std.specs.Option.{option_map_or, option_or}
use Rattle.std.specs.Str.{chars}
use Rattle.clap.specs.Facts.{parser_of_value, unwrap_or_range}
use Rattle.clap.specs.Faults.{action_fault, check_fault, defaults_fault, entered_fault, flag_word_fault, given_default_fault, level_fault, long_fault, option_fault, other_fault, positional_fault, react_fault, repeat_fault, settle_fault, step_fault, stray_fault, turn_fault, use_fault, values_fault, walk_fault, word_fault}
use Rattle.clap.specs.Kinds.{Kinds, or_else, range_kinds, request_kinds, value_kinds, values_kinds}
use Rattle.clap.specs.Lexer.{long_of, short_of}
use Rattle.clap.specs.Simple.{argument_words, entered, label_of, rows_at}
use Rattle.clap.specs.Takes.{value_passes}
use Rattle.clap.specs.Values.{reading_of, refused_kind}
use Rattle.clap.specs.ValueTests.{accepts}
use Rattle.clap.specs.Words.{Row, Rule, Shape, Text, built as built_app, fault_of, read_as, subcommand_of}
use Rattle.clap.specs.Walk.{Held, Outcome, Step, Waiting, Walk, action_of, after_flag, after_step, answers_to, arg_by_id, arg_by_index, arg_by_long, arg_by_short, at_row, bundle, bundle_met, bundle_step, done, finished, flag_met, has_long, idle, is_pending, long_met, long_or_other, more_values, most_values, next, nothing_held, option, option_met, option_word, plain, plain_word, positional, pushed, reading_by, refused, row_text, rows_after, settled, settled_rows, short_met, short_or_plain, subcommand, subcommand_met, subcommand_or_other, takes_several, takes_values, to_positional, trailing, used, used_as, used_by_id, value, values_or_missing, waits, walk, walk_from, walked, walked_from, with_default, with_values, without, word_met}
use Rattle.clap.specs.declared.builder.action.ArgAction.{ArgAction}
use Rattle.clap.specs.declared.builder.action.ArgAction.TheVariants.{Set, SetTrue}
use Rattle.clap.specs.declared.builder.value_parser.Reading.{Reading}
use Rattle.clap.specs.declared.builder.value_parser.ValueParser.{ValueParser}
use Rattle.clap.specs.declared.builder.value_parser.ValueParser.TheVariants.{Unsigned}
use Rattle.clap.specs.declared.error.kind.ErrorKind.TheVariants.{TooManyValues}
use Rattle.clap.specs.declared.parser.matches.ValueSource.TheVariants.{CommandLine}
use Rattle.clap.proofs.OnLiterals.{clap_on_literals}
use Rattle.clap.proofs.WalkLemmas.{both}
use Rattle.log_recovery.specs.declared.modes.Mode.{Mode}
use Rattle.program_words.specs.Commands.{Asks, Command, Texts, asked_by, asks, commands, flag_in, mode_in, number_in, shards_in, shards_of, whole_number, with_flag, with_mode, with_number, with_optional, with_shards}
use Rattle.program_words.specs.Definition.{writepath}
use Rattle.program_words.specs.Limits.{KeepsLimits}
use Rattle.program_words.specs.Meaning.{invocation_by, invocation_in, is_taken, texts_in}
use Rattle.program_words.specs.declared.invocation.Invocation.{Invocation}
use Rattle.program_words.proofs.Levels.{IsCommand, commands_are, is_set, is_sound, leaf, names, taken_told, top}
use Rattle.program_words.proofs.Lists.{Each, each_append, each_passes, each_weaker, find_holds, find_passes, not_told}
use Rattle.program_words.proofs.Numbers.{taken_in_range}
use Rattle.program_words.proofs.Rows.{are_distinct, default_row, made, row_after, row_in, rules_of}
use Rattle.program_words.proofs.Walks.{first_empty}

-- ---- rows

-- the values of the row passed the parser of its argument, and are read as it says
abbrev RowPasses : List Rule → Row → Type 0
RowPasses c r = (a : Rule) → arg_by_id c r.id ≡ Some a → (list_all (value_passes a) r.values ≡ true) × (r.reading ≡ reading_by a)

abbrev Pass : List Rule → List Row → Type 0
Pass c rows = Each (RowPasses c) rows

and_true : (x y : Bool) → x ≡ true → y ≡ true → (x && y) ≡ true
and_true true y p q = q
and_true false y p q = cc

at_row_passes : (c : List Rule) (id : Text) (change : Row → List Row) (missing : List Row) → ((r : Row) → bytes_eq r.id id ≡ true → RowPasses c r → Pass c (change r)) → Pass c missing
    → (rows : List Row) → Pass c rows → Pass c (at_row id change missing rows)
at_row_passes c id change missing changes miss [] p = miss
at_row_passes c id change missing changes miss (r ∷ rows) p = go (bytes_eq r.id id) refl (at_row_passes c id change missing changes miss rows p.1)
  where
    go : (b : Bool) → bytes_eq r.id id ≡ b → Pass c (at_row id change missing rows) → Pass c (cond b (change r ++ rows) (r ∷ at_row id change missing rows))
    go true e rest = each_append (RowPasses c) (change r) rows (changes r e p.0) p.1
    go false e rest = (p.0, rest)

-- the argument is the one with its id, and is set by its last use, with a value or as a flag
record IsArgument (c : List Rule) (a : Rule) : Type 0 where
  itself : arg_by_id c a.id ≡ Some a
  sets : is_set (action_of a) ≡ true

-- where ids are distinct, each argument is the one with its id
itself : (c : List Rule) → are_distinct c ≡ true → Each (λ (a : Rule). arg_by_id c a.id ≡ Some a) c
itself [] distinct = tt
itself (x ∷ c) distinct =
    let parts = both (not (is_some (arg_by_id c x.id))) (are_distinct c) distinct in (
      rw ((bytes_eq-Decides x.id x.id).1 refl) refl,
      each_weaker (λ (a : Rule). arg_by_id c a.id ≡ Some a) (λ (a : Rule). arg_by_id (x ∷ c) a.id ≡ Some a) (λ a is. there a (not_told (is_some (arg_by_id c x.id)) parts.0) is (bytes_eq x.id a.id) refl) c (itself c parts.1),
    )
  where
    there : (a : Rule) → is_some (arg_by_id c x.id) ≡ false → arg_by_id c a.id ≡ Some a → (b : Bool) → bytes_eq x.id a.id ≡ b → cond b (Some x) (arg_by_id c a.id) ≡ Some a
    there a alone is true same = let found : is_some (arg_by_id c x.id) ≡ true = ap (λ (i : Text). is_some (arg_by_id c i)) ((bytes_eq-Decides x.id a.id).0 same) ∙ ap is_some is in cc
    there a alone is false other = is

values_told : (ignore_case : Bool) (parser : ValueParser) (values : List Text) → values_kinds ignore_case parser values ≡ [] → list_all (accepts ignore_case parser) values ≡ true
values_told ignore_case parser [] e = refl
values_told ignore_case parser (v ∷ values) e =
    let parts = first_empty (value_kinds ignore_case parser v) (values_kinds ignore_case parser values) e in
    and_true (accepts ignore_case parser v) (list_all (accepts ignore_case parser) values) (go (accepts ignore_case parser v) parts.0) (values_told ignore_case parser values parts.1)
  where
    go : (b : Bool) → cond b [] (refused_kind parser ∷ []) ≡ [] → b ≡ true
    go true none = refl
    go false none = cc

set_passes : (c : List Rule) (a : Rule) → arg_by_id c a.id ≡ Some a → (values : List Text) (rows : List Row) → or_else (repeat_fault false a.id rows) (values_fault a values) ≡ []
    → Pass c rows → Pass c (with_values a.id (reading_by a) CommandLine values (without a.id rows))
set_passes c a itself values rows none p =
    let pass = values_told a.ignore_case (parser_of_value a.parser) values (first_empty (repeat_fault false a.id rows) (values_fault a values) none).1 in
    let here : (b : Rule) → arg_by_id c a.id ≡ Some b → (a ≡ b) × (list_all (value_passes b) values ≡ true) = λ b e.
    (let found : Some a ≡ Some b = sym itself ∙ e in let same : a ≡ b = cc in (same, subst (λ (x : Rule). list_all (value_passes x) values ≡ true) same pass)) in
    at_row_passes c a.id (more_values CommandLine values) (record { id = a.id; values = values; count = None; source = Some CommandLine; reading = reading_by a } ∷ [])
    (λ r e q. (
      λ b found.
          let all = (here b (ap (arg_by_id c) (sym ((bytes_eq-Decides _ _).0 e)) ∙ found)).1 in
          (list_all-append (value_passes b) r.values values ∙ and_true _ _ (q b found).0 all, (q b found).1),
      tt,
    ))
    (λ b found. ((here b found).1, ap reading_by (here b found).0), tt)
    (without a.id rows) (at_row_passes c a.id (λ _. []) [] (λ r e q. tt) tt rows p)

used_passes : (c : List Rule) (a : Rule) → IsArgument c a → (values : List Text) (rows : List Row) → use_fault false a values rows ≡ [] → Pass c rows → Pass c (used a values rows)
used_passes c a is values rows none p =
    go (action_of a) is.sets (first_empty (range_kinds (unwrap_or_range a.range).start_inclusive (most_values a) (length values)) (action_fault (action_of a) false a (values_or_missing a values) rows) none).1
  where
    go : (x : ArgAction) → is_set x ≡ true → action_fault x false a (values_or_missing a values) rows ≡ [] → Pass c (used_as x a.id (reading_by a) (values_or_missing a values) rows)
    go Set e sets = set_passes c a is.itself (values_or_missing a values) rows sets p
    go SetTrue e sets = set_passes c a is.itself (values_or_missing a values) rows sets p
    go _ e sets = cc

-- ---- words

plain_same : (c : List Rule) (waiting : Waiting) (word : Text) (h : Held) → (plain_word c waiting word h).0.rows ≡ h.rows
plain_same c idle word h = refl
plain_same c positional word h = refl
plain_same c (option id) word h = go (arg_by_id c id)
  where
    go : (found : Option Rule) → (option_word found id word h).0.rows ≡ h.rows
    go None = refl
    go (Some a) = refl

flag_same : (c : List Rule) (waiting : Waiting) (word : Text) (h : Held) (outcome : Outcome) → (after_flag c waiting word h outcome).0.rows ≡ h.rows
flag_same c waiting word h done = refl
flag_same c waiting word h (waits id) = refl
flag_same c waiting word h plain = plain_same c waiting word h
flag_same c waiting word h refused = plain_same c waiting word h

-- the command's arguments have no short names, and no second use replaces a first one
module _ (s : Shape) (once : s.args_override_self ≡ false) (by_short : (x : ℕ) → arg_by_short s.rules x ≡ None)
    (are : (p : Rule → Bool) (a : Rule) → find p s.rules ≡ Some a → IsArgument s.rules a) where
  settled_passes : (h : Held) → settle_fault s.rules false h ≡ [] → Pass s.rules h.rows → Pass s.rules (settled_rows s.rules h.pending h.rows)
  settled_passes h none p = go h.pending none
    where
      at : (id : Text) (values : List Text) (found : Option Rule) → arg_by_id s.rules id ≡ found → option_map_or (λ (a : Rule). use_fault false a values h.rows) found [] ≡ []
          → Pass s.rules (used_by_id found values h.rows)
      at id values None e nothing = p
      at id values (Some a) e nothing = used_passes s.rules a (are (λ (x : Rule). bytes_eq x.id id) a e) values h.rows nothing p

      go : (pending : Option (Text × List Text)) → option_map_or (λ (q : Text × List Text). option_map_or (λ (a : Rule). use_fault false a q.1 h.rows) (arg_by_id s.rules q.0) []) pending [] ≡ []
          → Pass s.rules (settled_rows s.rules pending h.rows)
      go None nothing = p
      go (Some q) nothing = at q.0 q.1 (arg_by_id s.rules q.0) refl nothing

  reacted_passes : (a : Rule) → IsArgument s.rules a → (values : List Text) (h : Held) → or_else (settle_fault s.rules false h) (use_fault false a values (settled s.rules h).rows) ≡ []
      → Pass s.rules h.rows → Pass s.rules (used a values (settled s.rules h).rows)
  reacted_passes a is values h none p =
      let parts = first_empty (settle_fault s.rules false h) (use_fault false a values (settled s.rules h).rows) none in
      used_passes s.rules a is values (settled s.rules h).rows parts.1 (settled_passes h parts.0 p)

  long_passes : (name : Text) (found : Option Rule) → arg_by_long s.rules name ≡ found → (v : Option Text) (h : Held) → long_fault s.rules false found v h ≡ []
      → Pass s.rules h.rows → Pass s.rules (long_met s.rules found v h).0.rows
  long_passes name None e v h none p = p
  long_passes name (Some a) e v h none p = go (takes_values a) v none
    where
      is : IsArgument s.rules a
      is = are (λ (x : Rule). not (is_some x.index) && has_long x name) a e

      go : (takes : Bool) (w : Option Text) → cond takes (option_fault s.rules false a w h) (cond (is_some w) (TooManyValues ∷ []) (react_fault s.rules false a [] h)) ≡ []
          → Pass s.rules (cond takes (option_met s.rules a w h) (flag_met s.rules a w h)).0.rows
      go true None nothing = settled_passes h nothing p
      go true (Some x) nothing = reacted_passes a is (x ∷ []) h nothing p
      go false None nothing = reacted_passes a is [] h nothing p
      go false (Some x) nothing = p

  bundle_next : (k : ℕ) (flags : Text) (skip : ℕ) (so_far : Outcome) (h : Held) (x : Option ℕ)
      → ((rest : Text) (n : ℕ) (outcome : Outcome) (g : Held) → (bundle_met s.rules k rest n outcome g).0.rows ≡ g.rows)
      → (bundle_step s.rules x flags skip so_far h (bundle_met s.rules k)).0.rows ≡ h.rows
  bundle_next k flags skip so_far h None rest = refl
  bundle_next k flags zero so_far h (Some x) rest = go (arg_by_short s.rules x) (by_short x)
    where
      go : (found : Option Rule) → found ≡ None
          → (short_met s.rules found (drop (length (encode_utf8 x)) flags) h (bundle_met s.rules k (drop (length (encode_utf8 x)) flags) 0 done)).0.rows ≡ h.rows
      go None e = refl
      go (Some a) e = cc
  bundle_next k flags (suc n) so_far h (Some x) rest = rest (drop (length (encode_utf8 x)) flags) n so_far h

  bundle_same : (k : ℕ) (flags : Text) (skip : ℕ) (so_far : Outcome) (h : Held) → (bundle_met s.rules k flags skip so_far h).0.rows ≡ h.rows
  unfolding bundle_met
  bundle_same zero flags skip so_far h = refl
  bundle_same (suc k) flags skip so_far h = bundle_next k flags skip so_far h (slice_get (chars flags) 0) (λ rest n outcome g. bundle_same k rest n outcome g)

  word_passes : (is_trailing : Bool) (waiting : Waiting) (place : ℕ) (word : Text) (h : Held) → word_fault s [] is_trailing waiting word h ≡ []
      → Pass s.rules h.rows → Pass s.rules (word_met s.rules [] is_trailing waiting place word h).0.rows
  word_passes true waiting place word h none p = p
  word_passes false waiting place word h none p = go (subcommand_met [] waiting word) none
    where
      short : (flags : Option Text) → Pass s.rules (short_or_plain s.rules waiting word flags h).0.rows
      short None = subst (Pass s.rules) (sym (plain_same s.rules waiting word h)) p
      short (Some flags) =
          let met = bundle s.rules flags h in
          subst (Pass s.rules) (sym (flag_same s.rules waiting word met.0 met.1 ∙ bundle_same (length flags) flags h.skip plain (record h { skip = 0 }))) p

      long : (l : Option (Text × Option Text)) → flag_word_fault s.rules s.args_override_self l word h ≡ [] → Pass s.rules (long_or_other s.rules waiting word l h).0.rows
      long None nothing = short (short_of word)
      long (Some l) nothing =
          let met = long_met s.rules (arg_by_long s.rules l.0) l.1 h in
          subst (Pass s.rules) (sym (flag_same s.rules waiting word met.0 met.1))
          (long_passes l.0 (arg_by_long s.rules l.0) refl l.1 h (subst (λ (again : Bool). long_fault s.rules again (arg_by_long s.rules l.0) l.1 h ≡ []) once nothing) p)

      other : (escape : Bool) → cond escape [] (flag_word_fault s.rules s.args_override_self (long_of word) word h) ≡ []
          → Pass s.rules (cond escape (h, trailing place) (long_or_other s.rules waiting word (long_of word) h)).0.rows
      other true nothing = p
      other false nothing = long (long_of word) nothing

      go : (met : Option Text) → other_fault s met word h ≡ [] → Pass s.rules (subcommand_or_other s.rules met waiting place word h).0.rows
      go (Some name) nothing = p
      go None nothing = other (bytes_eq word (45 ∷ 45 ∷ [])) nothing

  -- a word in a place of its own ends the argument that is pending, unless it is one more value of it
  step_passes : (word : Text) (w : Walk) (h : Held) (step : Step) → step_fault s w.position h step ≡ [] → Pass s.rules h.rows → Pass s.rules (after_step s.rules word w h step).held.rows
  step_passes word w h (next waiting) none p = p
  step_passes word w h (trailing place) none p = p
  step_passes word w h (subcommand name) none p = p
  step_passes word w h value none p = go (arg_by_index s.rules w.position) none
    where
      pushes : (a : Rule) (more : Bool) → cond more [] (settle_fault s.rules s.args_override_self h) ≡ [] → Pass s.rules (pushed a.id word (cond more h (settled s.rules h))).rows
      pushes a true nothing = p
      pushes a false nothing = settled_passes h (subst (λ (again : Bool). settle_fault s.rules again h ≡ []) once nothing) p

      go : (found : Option Rule) → option_map_or (λ (a : Rule). positional_fault s.rules s.args_override_self a h) found (stray_fault s) ≡ [] → Pass s.rules (to_positional s.rules found word w h).held.rows
      go None nothing = p
      go (Some a) nothing = pushes a (is_pending a h.pending && takes_several a) nothing

  turn_passes : (w : Walk) (word : Text) → turn_fault s [] w word ≡ [] → Pass s.rules w.held.rows → Pass s.rules (walked s.rules [] w word).held.rows
  unfolding walked
  turn_passes w word none p = go w.stopped none
    where
      go : (stopped : Option (Text × List Text))
          → cond (is_some stopped) [] (or_else (word_fault s [] w.is_trailing w.waiting word w.held) (step_fault s w.position (word_met s.rules [] w.is_trailing w.waiting w.position word w.held).0 (word_met s.rules [] w.is_trailing w.waiting w.position word w.held).1)) ≡ []
          → Pass s.rules (walked_from s.rules [] stopped w word).held.rows
      go (Some q) nothing = p
      go None nothing =
          let met = word_met s.rules [] w.is_trailing w.waiting w.position word w.held in
          let parts = first_empty (word_fault s [] w.is_trailing w.waiting word w.held) (step_fault s w.position met.0 met.1) nothing in
          step_passes word w met.0 met.1 parts.1 (word_passes w.is_trailing w.waiting w.position word w.held parts.0 p)

  -- where no step of a walk fails, the rows at its end pass
  walk_passes : (words : List Text) (w : Walk) → walk_fault s [] w words ≡ [] → Pass s.rules w.held.rows → Pass s.rules (fold (walked s.rules []) w words).held.rows
  unfolding walk_fault
  walk_passes [] w none p = p
  walk_passes (word ∷ words) w none p =
      let parts = first_empty (turn_fault s [] w word) (walk_fault s [] (walked s.rules [] w word) words) none in
      walk_passes words (walked s.rules [] w word) parts.1 (turn_passes w word parts.0 p)

-- ---- numbers

-- a number that a parser lets pass is within its range
abbrev InParser : ValueParser → ℕ → Type 0
InParser (Unsigned least most) n = (least ≤ n) × (n ≤ most)
InParser _ n = Unit {0}

abbrev InRange : Option Rule → ℕ → Type 0
InRange None n = Unit {0}
InRange (Some a) n = InParser (parser_of_value a.parser) n

text_in_range : (ignore_case : Bool) (parser : ValueParser) (text : Text) (n : ℕ) → accepts ignore_case parser text ≡ true → whole_number (read_as (reading_of parser) text) ≡ Some n → InParser parser n
text_in_range ignore_case (Unsigned least most) text n pass whole = taken_in_range text least most n pass whole
text_in_range ignore_case _ text n pass whole = tt

values_in_range : (a : Rule) (values : List Text) (how : Reading) (n : ℕ) → list_all (value_passes a) values ≡ true → how ≡ reading_by a
    → option_and_then whole_number (option_map (read_as how) (slice_get values 0)) ≡ Some n → InParser (parser_of_value a.parser) n
values_in_range a [] how n pass same says = cc
values_in_range a (v ∷ values) how n pass same says =
    text_in_range a.ignore_case (parser_of_value a.parser) v n (both _ _ pass).0 (subst (λ (h : Reading). whole_number (read_as h v) ≡ Some n) same says)

module _ (c : Command) (is : IsCommand c) where
  abbrev rules : List Rule
  rules = (leaf c).rules

  sound : (p : Rule → Bool) (a : Rule) → find p rules ≡ Some a → (is_set (action_of a) ≡ true) × (is_taken (given_default_fault a a.defaults) ≡ true)
  sound p a e = both (is_set (action_of a)) (is_taken (given_default_fault a a.defaults)) (find_holds (λ (x : Rule). is_sound x ≡ true) p rules (each_passes is_sound rules is.sound) a e)

  -- the number of an id is within the range of its argument
  number_in_range : (words : List Text) → level_fault (leaf c) [] nothing_held words false [] ≡ [] → (id : Text) (n : ℕ) → number_in id (texts_in (rows_after rules [] words)) ≡ Some n → InRange (arg_by_id rules id) n
  number_in_range words none id n says =
      let distinct : are_distinct rules ≡ true = ap are_distinct is.rules ∙ is.distinct in
      let are : (p : Rule → Bool) (a : Rule) → find p rules ≡ Some a → IsArgument rules a = λ p a e.
      record { itself = find_holds (λ (x : Rule). arg_by_id rules x.id ≡ Some x) p rules (itself rules distinct) a e; sets = (sound p a e).0 } in
      let end = (walk rules [] nothing_held words).held in
      let behind = or_else (defaults_fault (settled rules end).rows rules) (check_fault (leaf c) (finished rules end) false) in
      let walks = first_empty (walk_fault (leaf c) [] (walk_from nothing_held) words) (or_else (settle_fault rules false end) behind) none in
      let settles = first_empty (settle_fault rules false end) behind walks.1 in
      let rows = (settled rules end).rows in
      let pass = settled_passes (leaf c) refl is.by_short are end settles.0 (walk_passes (leaf c) refl is.by_short are words (walk_from nothing_held) walks.0 tt) in
      go rows pass (row_in id rows) refl (arg_by_id rules id) refl
      (ap (λ (o : Option Row). option_and_then whole_number (option_and_then row_text o)) (sym (row_after id rules distinct rows)) ∙ says)
    where
      at_default : (a : Rule) → is_taken (given_default_fault a a.defaults) ≡ true → option_and_then whole_number (option_and_then row_text (default_row a)) ≡ Some n → InParser (parser_of_value a.parser) n
      at_default a taken is_n =
          let told = first_empty (request_kinds (action_of a)) (values_fault a a.defaults) (taken_told (given_default_fault a a.defaults) taken) in
          at a.defaults (values_told a.ignore_case (parser_of_value a.parser) a.defaults told.1) is_n
        where
          at : (values : List Text) → list_all (value_passes a) values ≡ true → option_and_then whole_number (option_and_then row_text (made a values)) ≡ Some n → InParser (parser_of_value a.parser) n
          at [] pass e = cc
          at (v ∷ values) pass e = values_in_range a (v ∷ values) (reading_by a) n pass refl e

      go : (rows : List Row) → Pass rules rows → (r : Option Row) → row_in id rows ≡ r → (a : Option Rule) → arg_by_id rules id ≡ a
          → option_and_then whole_number (option_and_then row_text (option_or r (option_and_then default_row a))) ≡ Some n → InRange a n
      go rows pass r e None f is_n = tt
      go rows pass None e (Some a) f is_n = at_default a (sound (λ (x : Rule). bytes_eq x.id id) a f).1 is_n
      go rows pass (Some r) e (Some a) f is_n =
          let same : r.id ≡ id = (bytes_eq-Decides _ _).0 (find_passes (λ (x : Row). bytes_eq x.id id) rows r e) in
          let passes = find_holds (RowPasses rules) (λ (x : Row). bytes_eq x.id id) rows pass r e a (ap (arg_by_id rules) same ∙ f) in
          values_in_range a r.values r.reading n passes.0 passes.1 is_n

shards_are : (texts : Texts) (shards : Option ℕ) → shards_in texts ≡ Some shards → (n : ℕ) → shards ≡ Some n → number_in (codes "shards") texts ≡ Some n
shards_are texts shards is n some =
    option_and_then_some (λ (kind : Text). shards_of kind (number_in (codes "shards") texts)) (texts.written (codes "table")) shards is
    (λ kind here says. go (bytes_eq kind (codes "one")) (bytes_eq kind (codes "shards")) (number_in (codes "shards") texts) says)
  where
    go : (a b : Bool) (number : Option ℕ) → cond a (Some None) (cond b (option_map (λ (m : ℕ). Some m) number) None) ≡ Some shards → number ≡ Some n
    go true b number e = cc
    go false true (Some m) e = cc
    go false true None e = cc
    go false false number e = cc

-- ---- what a command asks for

-- where all numbers are within their ranges, what is asked for keeps the limits
abbrev Keeps : List Rule → Asks → Type 0
Keeps c (with_flag name further) = (given : Bool) → Keeps c (further given)
Keeps c (with_number name further) = (n : ℕ) → InRange (arg_by_id c name) n → Keeps c (further n)
Keeps c (with_optional name further) = Keeps c (further None) × ((n : ℕ) → InRange (arg_by_id c name) n → Keeps c (further (Some n)))
Keeps c (with_shards further) = Keeps c (further None) × ((n : ℕ) → InRange (arg_by_id c (codes "shards")) n → Keeps c (further (Some n)))
Keeps c (with_mode further) = (mode : Mode) → Keeps c (further mode)
Keeps c (asks invocation) = KeepsLimits invocation

commands_keep : Each (λ (c : Command). Keeps (leaf c).rules c.made) commands
commands_keep = (omega arith, (omega arith, (omega arith, (omega arith, tt))))

-- a number, if there is one
if_any : (P : Option ℕ → Type 0) (R : ℕ → Type 0) (o : Option ℕ) → ((n : ℕ) → o ≡ Some n → R n) → P None × ((n : ℕ) → R n → P (Some n)) → P o
if_any P R None in_range keeps = keeps.0
if_any P R (Some n) in_range keeps = keeps.1 n (in_range n refl)

module _ (c : List Rule) (texts : Texts) (in_range : (id : Text) (n : ℕ) → number_in id texts ≡ Some n → InRange (arg_by_id c id) n) where
  made_keeps : (made : Asks) → Keeps c made → (asked : Invocation) → asked_by texts made ≡ Some asked → KeepsLimits asked
  made_keeps (with_flag name further) keeps asked e =
      option_and_then_some (λ (given : Bool). asked_by texts (further given)) (flag_in name texts) asked e (λ given is more. made_keeps (further given) (keeps given) asked more)
  made_keeps (with_number name further) keeps asked e =
      option_and_then_some (λ (n : ℕ). asked_by texts (further n)) (number_in name texts) asked e (λ n is more. made_keeps (further n) (keeps n (in_range name n is)) asked more)
  made_keeps (with_optional name further) keeps asked e =
      made_keeps (further (number_in name texts)) (if_any (λ (o : Option ℕ). Keeps c (further o)) (InRange (arg_by_id c name)) (number_in name texts) (in_range name) keeps) asked e
  made_keeps (with_shards further) keeps asked e =
      option_and_then_some (λ (shards : Option ℕ). asked_by texts (further shards)) (shards_in texts) asked e
      (λ shards is more. made_keeps (further shards)
      (if_any (λ (o : Option ℕ). Keeps c (further o)) (InRange (arg_by_id c (codes "shards"))) shards (λ n some. in_range (codes "shards") n (shards_are texts shards is n some)) keeps) asked more)
  made_keeps (with_mode further) keeps asked e =
      option_and_then_some (λ (mode : Mode). asked_by texts (further mode)) (mode_in texts) asked e (λ mode is more. made_keeps (further mode) (keeps mode) asked more)
  made_keeps (asks invocation) keeps asked e = let same : invocation ≡ asked = cc in subst KeepsLimits same keeps

-- what a command asks for keeps the limits, if its level takes the words
abbrev LevelKeeps : Shape → Type 0
LevelKeeps s = (words : List Text) (asked : Invocation) → level_fault s [] nothing_held words false [] ≡ [] → invocation_by s.name (rows_after s.rules [] words) ≡ Some asked → KeepsLimits asked

levels_keep : (cs : List Command) → Each IsCommand cs → Each (λ (c : Command). Keeps (leaf c).rules c.made) cs → Each LevelKeeps (map leaf cs)
levels_keep [] are keep = tt
levels_keep (c ∷ cs) are keep = (
  λ words asked none says. made_keeps (leaf c).rules (texts_in (rows_after (leaf c).rules [] words)) (number_in_range c are.0 words none) c.made keep.0 asked (sym (are.0.asks (rows_after (leaf c).rules [] words)) ∙ says),
  levels_keep cs are.1 keep.1,
)

-- ---- all words

taken : {X : Type 0} (kinds : Kinds) (o : Option X) (x : X) → cond (is_taken kinds) o None ≡ Some x → (kinds ≡ []) × (o ≡ Some x)
taken [] o x e = (refl, e)
taken (k ∷ kinds) o x e = cc

entered_keeps : (stop : Option (Text × List Text)) (asked : Invocation) → entered_fault (built_app writepath) stop ≡ []
    → option_and_then (λ (p : Text × List Row). invocation_by p.0 p.1) (entered (built_app writepath) stop) ≡ Some asked → KeepsLimits asked
entered_keeps None asked none is = cc
entered_keeps (Some q) asked none is = go (find (λ x. answers_to q.0 (label_of x)) (built_app writepath).subs) refl none is
  where
    go : (found : Option Shape) → find (λ x. answers_to q.0 (label_of x)) (built_app writepath).subs ≡ found
        → option_map_or (λ (s : Shape). level_fault s [] nothing_held q.1 false []) found [] ≡ []
        → option_and_then (λ (p : Text × List Row). invocation_by p.0 p.1) (option_map (λ (s : Shape). rows_at s q.1) found) ≡ Some asked → KeepsLimits asked
    go None e nothing says = cc
    go (Some s) e nothing says =
        find_holds LevelKeeps (λ x. answers_to q.0 (label_of x)) (built_app writepath).subs (levels_keep commands commands_are commands_keep) s e q.1 asked nothing says

-- what words ask for keeps the limits
pub asked_keeps : (words : List Text) (asked : Invocation) → invocation_in words ≡ Some asked → KeepsLimits asked
unfolding invocation_in
asked_keeps words asked is =
    let told = taken (fault_of writepath words) (option_and_then (λ (p : Text × List Row). invocation_by p.0 p.1) (subcommand_of writepath words)) asked is in
    let rest = argument_words writepath words in
    let end = walk top.rules names nothing_held rest in
    let behind = or_else (settle_fault top.rules top.args_override_self end.held)
    (or_else (defaults_fault (settled top.rules end.held).rows top.rules) (check_fault top (finished top.rules end.held) (is_some (entered (built_app writepath) end.stopped)))) in
    let walks = first_empty (walk_fault top names (walk_from nothing_held) rest) (or_else (entered_fault (built_app writepath) end.stopped) behind) told.0 in
    let enters = first_empty (entered_fault (built_app writepath) end.stopped) behind walks.1 in
    entered_keeps end.stopped asked enters.0 told.1
