-- The lines of a record.
use Rattle.std.proofs.Common.{◌≡◌, ℕ, ◌<◌, ◌≤◌, Bool, true, false, not, ◌&&◌, cond, List, [], ◌∷◌, ◌++◌, length, take, drop, Option, Some, None, is_some, option_map, refl, sym, ◌∙◌, ap, subst, append_assoc, append-nil, filter, arith, Bor, Result, Ok, Err, OnOk}
use Rattle.std.specs.List.{AllByRecursion, list_any}
use Rattle.std.specs.Option.{option_map_or}
use Rattle.std.proofs.Math.Seq.{take-append_seam}
use Rattle.model_base.specs.declared.batch.BatchError.{BatchError}
use Rattle.model_base.specs.declared.batch.BatchError.TheVariants.{Short}
use Rattle.batch_operations.specs.Operations.{Operation}
use Rattle.batch_operations.specs.Shown.{Have, ShownRecord, Shows, short, whole, shown_short, sequence_in, count_in}
use Rattle.batch_operations.specs.declared.head.Head.{Head}
use Rattle.list_text.specs.Lines.{record_front, record_back, operations_text}
use Rattle.list_text.specs.declared.form.RecordPlace.{RecordPlace}
use Rattle.list_log.specs.Texts.{TellsBody, TellsWhole, TellsBatch, all_lines, gap_lines, last_after, record_lines, short_lines, shown_of}
use Rattle.list_log.specs.Wanted.{is_about, is_in_range, is_wanted, key_in}
use Rattle.list_log.specs.declared.settings.Settings.{Settings}

-- what a call ensures where it works, from what it ensured
pub if_ok : {T E : Type 0} (r : Result T E) (A B : Type 0) → OnOk r A → (A → B) → OnOk r B
if_ok (Ok x) A B a f = f a
if_ok (Err e) A B a f = tt

four : (old g f o b : List ℕ) → (((old ++ g) ++ f) ++ o) ++ b ≡ old ++ (g ++ ((f ++ o) ++ b))
four old g f o b =
    ap (λ (t : List ℕ). t ++ b) (append_assoc (old ++ g) f o) ∙ (append_assoc (old ++ g) (f ++ o) b ∙ append_assoc old g ((f ++ o) ++ b))

-- what is before, the front, the operations and the back are all lines
pub tells_whole : (settings : Settings) (last : Option ℕ) (place : RecordPlace) (head : Head) (body old first second third new : List ℕ) (any : Bool) (fault : Option BatchError)
    → first ≡ old ++ gap_lines settings last (Some head) → second ≡ first ++ record_front settings.form place (Some head) → TellsBody settings head.count body second third any fault
    → new ≡ third ++ record_back settings.form fault → TellsWhole settings last place head body old new any
tells_whole settings last place head body old first second third new any fault gap front told back =
    let form = settings.form in
    let g = gap_lines settings last (Some head) in
    let f = record_front form place (Some head) in
    let o = operations_text form (filter (is_wanted (key_in settings)) told.operations) in
    let so_far : third ≡ ((old ++ g) ++ f) ++ o = told.text ∙ ap (λ (t : List ℕ). t ++ o) (front ∙ ap (λ (t : List ℕ). t ++ f) gap) in
    record {
      operations = told.operations;
      broken = told.broken;
      have = told.have;
      any_is = told.any_is;
      text = back ∙ (ap (λ (t : List ℕ). t ++ record_back form fault) so_far
          ∙ (four old g f o (record_back form fault) ∙ ap (λ (e : Option BatchError). old ++ (g ++ ((f ++ o) ++ record_back form e))) told.fault_is));
    }

pub pick : {T : Type 0} (a b : Bool) (p q : T) → a ≡ true → b ≡ true → cond (a && b) p q ≡ p
pick true true p q x y = refl
pick true false p q x y = absurd (cc y)
pick false b p q x y = absurd (cc x)

pub not_first : {T : Type 0} (a b : Bool) (p q : T) → a ≡ false → cond (a && b) p q ≡ q
not_first true b p q x = absurd (cc x)
not_first false b p q x = refl

pub not_second : {T : Type 0} (a b : Bool) (p q : T) → b ≡ false → cond (a && b) p q ≡ q
not_second true true p q x = absurd (cc x)
not_second true false p q x = refl
not_second false b p q x = refl

abbrev pub Keys : Type 0
Keys = Option (Bor (List ℕ))

abbrev pub key_of : Keys → Option (List ℕ)
key_of key = option_map (λ k. k.now) key

abbrev pub asks : Keys → List Operation → Bool
asks key operations = option_map_or (λ k. list_any (is_about k) operations) (key_of key) true

-- a record is shown as far as its key goes, unless it is left out
pub asks_all : (key : Keys) (operations : List Operation) (any : Bool) → any ≡ list_any (is_wanted (key_of key)) operations → (is_some key && not any) ≡ false → asks key operations ≡ true
asks_all None operations any is kept = refl
asks_all (Some k) operations true is kept = sym is
asks_all (Some k) operations false is kept = absurd (cc kept)

pub asks_none : (key : Keys) (operations : List Operation) (any : Bool) → any ≡ list_any (is_wanted (key_of key)) operations → (is_some key && not any) ≡ true → asks key operations ≡ false
asks_none None operations any is out = absurd (cc out)
asks_none (Some k) operations true is out = absurd (cc out)
asks_none (Some k) operations false is out = sym is

-- a record that is shown
pub batch_shown : (settings : Settings) (last : Option ℕ) (place : RecordPlace) (head : Head) (body old new : List ℕ) (any : Bool) → is_in_range settings.from settings.to (Some head) ≡ true
    → TellsWhole settings last place head body old new any → (is_some settings.key && not any) ≡ false → TellsBatch settings last place head body old new
batch_shown settings last place head body old new any in_range told kept =
    let lines = all_lines settings last place (shown_of head told.operations told.broken) in
    record {
      operations = told.operations;
      broken = told.broken;
      have = told.have;
      text = told.text ∙ ap (λ (t : List ℕ). old ++ t) (sym (pick _ _ lines [] in_range (asks_all settings.key told.operations any told.any_is kept)));
    }

-- one that has no operation about the key
pub batch_left_out : (settings : Settings) (last : Option ℕ) (place : RecordPlace) (head : Head) (body old new : List ℕ) (any : Bool)
    → TellsWhole settings last place head body old new any → (is_some settings.key && not any) ≡ true → TellsBatch settings last place head body old (take (length old) new)
batch_left_out settings last place head body old new any told out =
    let lines = all_lines settings last place (shown_of head told.operations told.broken) in
    record {
      operations = told.operations;
      broken = told.broken;
      have = told.have;
      text = ap (take (length old)) told.text
          ∙ (take-append_seam old lines ∙ (sym (append-nil old) ∙ ap (λ (t : List ℕ). old ++ t) (sym (not_second (is_in_range settings.from settings.to (Some head)) _ lines [] (asks_none settings.key told.operations any told.any_is out)))));
    }

abbrev pub Somewhat : List ℕ → Type 0
Somewhat body = (operations : List Operation) × (broken : Option BatchError) × Have body operations broken

-- one that isn't in the range
pub batch_out_of_range : (settings : Settings) (last : Option ℕ) (place : RecordPlace) (head : Head) (body old : List ℕ) → Somewhat body → is_in_range settings.from settings.to (Some head) ≡ false
    → TellsBatch settings last place head body old old
batch_out_of_range settings last place head body old have out =
    let lines = all_lines settings last place (shown_of head have.0 have.1) in
    record {
      operations = have.0;
      broken = have.1;
      have = have.2;
      text = sym (append-nil old) ∙ ap (λ (t : List ℕ). old ++ t) (sym (not_first (is_in_range settings.from settings.to (Some head)) _ lines [] out));
    }

-- any bytes have some operations, since a record with them shows something
pub something : ((bytes : List ℕ) → AllByRecursion (λ b. b < 256) bytes → (shown : ShownRecord) × Shows bytes shown) → (body : List ℕ) → AllByRecursion (λ b. b < 256) body → Somewhat body
something law body small = of _ (law (0 ∷ 0 ∷ 0 ∷ 0 ∷ 0 ∷ 0 ∷ 0 ∷ 0 ∷ 0 ∷ 0 ∷ 0 ∷ 0 ∷ body) all).1
  where
    z : 0 < 256
    z = omega arith

    all : AllByRecursion (λ b. b < 256) (0 ∷ 0 ∷ 0 ∷ 0 ∷ 0 ∷ 0 ∷ 0 ∷ 0 ∷ 0 ∷ 0 ∷ 0 ∷ 0 ∷ body)
    all = (z, (z, (z, (z, (z, (z, (z, (z, (z, (z, (z, (z, small))))))))))))

    of : (shown : ShownRecord) → Shows (0 ∷ 0 ∷ 0 ∷ 0 ∷ 0 ∷ 0 ∷ 0 ∷ 0 ∷ 0 ∷ 0 ∷ 0 ∷ 0 ∷ body) shown → Somewhat body
    of shown (short few) = absurd (omega (arith, few))
    of shown (whole {operations = operations} {fault = fault} long have) = (operations, fault, have)

abbrev pub head_with : ℕ → ℕ → Head
head_with sequence count = record { sequence = sequence; count = count }

pub head_is : (bytes : List ℕ) (head : Head) → head.sequence ≡ sequence_in bytes → head.count ≡ count_in bytes → head ≡ head_with (sequence_in bytes) (count_in bytes)
head_is bytes head sequence count = ap (λ (s : ℕ). head_with s head.count) sequence ∙ ap (head_with (sequence_in bytes)) count

-- what a record with this head and these operations shows is what its bytes show
pub shows_whole : (bytes body : List ℕ) (head : Head) (operations : List Operation) (broken : Option BatchError) → head.sequence ≡ sequence_in bytes → head.count ≡ count_in bytes → body ≡ drop 12 bytes → 12 ≤ length bytes
    → Have body operations broken → Shows bytes (shown_of head operations broken)
shows_whole bytes body head operations broken sequence count body_is long have =
    subst (λ (h : Head). Shows bytes (shown_of h operations broken)) (sym (head_is bytes head sequence count)) (whole long (subst (λ (b : List ℕ). Have b operations broken) body_is have))

-- a record with a head
abbrev Tells : Settings → Option ℕ → RecordPlace → List ℕ → List ℕ → List ℕ → Option ℕ → Type 0
Tells settings last place bytes old new now = (shown : ShownRecord) × Shows bytes shown × (now ≡ last_after last shown.head) × (new ≡ old ++ record_lines settings last place shown)

pub tells_head : (settings : Settings) (last : Option ℕ) (place : RecordPlace) (bytes body old new : List ℕ) (head : Head) (now : Option ℕ) → head.sequence ≡ sequence_in bytes → head.count ≡ count_in bytes
    → body ≡ drop 12 bytes → 12 ≤ length bytes → TellsBatch settings last place head body old new → now ≡ last_after last (Some head) → Tells settings last place bytes old new now
tells_head settings last place bytes body old new head now sequence count body_is long told now_is =
    (shown_of head told.operations told.broken, shows_whole bytes body head told.operations told.broken sequence count body_is long told.have, now_is, told.text)

-- one without
pub tells_short : (settings : Settings) (last : Option ℕ) (place : RecordPlace) (bytes old new : List ℕ) (now : Option ℕ) → length bytes < 12 → new ≡ old ++ short_lines settings place → now ≡ last
    → Tells settings last place bytes old new now
tells_short settings last place bytes old new now few text now_is = (shown_short, short few, now_is, text)

-- it is left out where only operations about a key are shown
pub short_left_out : (settings : Settings) (place : RecordPlace) (old : List ℕ) → is_some settings.key ≡ true → old ≡ old ++ short_lines settings place
short_left_out settings place old some =
    sym (append-nil old) ∙ ap (λ (t : List ℕ). old ++ t) (sym (not_second true _ (all_lines settings None place shown_short) [] (asks_none settings.key [] false (no_wanted settings.key) (asked settings.key some))))
  where
    no_wanted : (key : Keys) → false ≡ list_any (is_wanted (key_of key)) []
    no_wanted key = refl

    asked : (key : Keys) → is_some key ≡ true → (is_some key && not false) ≡ true
    asked None is = is
    asked (Some k) is = refl

short_pieces : (scan : Bool) (old f b : List ℕ) → (old ++ f) ++ b ≡ old ++ (cond scan [] [] ++ ((f ++ []) ++ b))
short_pieces true old f b = append_assoc old f b ∙ ap (λ (t : List ℕ). old ++ (t ++ b)) (sym (append-nil f))
short_pieces false old f b = append_assoc old f b ∙ ap (λ (t : List ℕ). old ++ (t ++ b)) (sym (append-nil f))

pub short_shown : (settings : Settings) (place : RecordPlace) (old mid new : List ℕ) → is_some settings.key ≡ false → mid ≡ old ++ record_front settings.form place None
    → new ≡ mid ++ record_back settings.form (Some Short) → new ≡ old ++ short_lines settings place
short_shown settings place old mid new none front back =
    let form = settings.form in
    back ∙ (ap (λ (t : List ℕ). t ++ record_back form (Some Short)) front
    ∙ (short_pieces settings.scan old (record_front form place None) (record_back form (Some Short))
    ∙ ap (λ (t : List ℕ). old ++ t) (sym (pick true _ (all_lines settings None place shown_short) [] refl (asks_all settings.key [] false refl (unasked settings.key none))))))
  where
    unasked : (key : Keys) → is_some key ≡ false → (is_some key && not false) ≡ false
    unasked None is = refl
    unasked (Some k) is = is
