-- Reading logs one after another: what is read of one of them, and whether that was all.
use Rattle.std.proofs.Common.{◌≡◌, ◌≢◌, ℕ, ◌+◌, ◌-◌, ◌<◌, ◌≤◌, List, [], ◌∷◌, ◌++◌, length, take, drop, map, slice_get, Option, Some, None, MatchOption, IfSome, is_some, Bool, true, false, ◌&&◌, nat_lt, if◌then◌else◌, refl, sym, ◌∙◌, ap, subst, arith, append_assoc, append-nil, length-append}
use Rattle.std.proofs.lemmas.Bool.{and_parts, ltb-true, ltb-false, false≢true}
use Rattle.std.proofs.Math.Seq.{take-take}
use Rattle.std.proofs.lemmas.List.{map-append, length-map, take-append-drop, take_all}
use Rattle.std.proofs.lemmas.List.Sums.{fold-append}
use Rattle.model_base.specs.declared.log.EndReason.{EndReason}
use Rattle.model_base.specs.declared.log.EndReason.TheVariants as ends
use Rattle.model_base.specs.Batch.{IsBatch}
use Rattle.model_base.specs.Log.{SpellsWhole}
use Rattle.model_base.specs.Recovery.{Logged, logged_bytes, last_after, last_sequence, AreInOrder}
use Rattle.model_base.specs.RecoveredLogs.{KeepsAfter, IsRecoveredAfter}
use Rattle.model_base.specs.Since.{LogRecord, record_of_batch}
use Rattle.log_laws.proofs.Synced.{spells_front, spells_one}
use Rattle.log_recovery_laws.proofs.Fronts.{whole_clean}
use Rattle.log_recovery.specs.declared.following.MoreUpdates.{MoreUpdates}
use Rattle.log_recovery.specs.declared.following.Place.{Place}
use Rattle.log_recovery.specs.declared.recovery.End.{End}
use Rattle.log_recovery.specs.Updating.{updates_in}
use Rattle.log_recovery.specs.Following.{StandsAt, GoesPast, OneIsPast, HasMore}
use Rattle.log_recovery.proofs.MoreKept.{keeps_none}
use Rattle.log_recovery.proofs.Picking.{updates_append}
use Rattle.log_recovery.proofs.NotDue.{none_before, none_from_past}
use Rattle.log_updates.specs.declared.places.LogPlace.{LogPlace}
use Rattle.log_updates.specs.declared.reading.LogUpdates.{LogUpdates}
use Rattle.log_updates.specs.Places.{StandsIn, IsReadTo, HasAll, is_clean}
use Rattle.log_updates.specs.Places as places
use Rattle.log_updates.proofs.Texts.{in_order_parts, in_order_joined, batches_parts, get_behind, same_record, same_records, both_same, hold_same, last_same, order_same, updates_same, hold_none, hold_more, Parted, parted, split_batches}
use Rattle.log_writer.specs.ReadableLogs.{AreBatches, IsTextOf, HoldInTurn}

-- Before all records.
pub starts_there : (number : Option ℕ) (files : List (List ℕ)) (place : LogPlace) → place ≡ record { log = 0; at = 0; last = 0 } → 0 < length files → StandsIn number files place []
starts_there number [] place is some = absurd (omega (arith, some))
starts_there number (file ∷ files) place is some = subst (λ (p : LogPlace). StandsIn number (file ∷ files) p []) (sym is) (record {
  firsts = [];
  file = file;
  others = files;
  cut = refl;
  which = refl;
  earlier = [];
  here = [];
  all = refl;
  whole = record { parts = []; all = refl; each = tt; are_batches = tt };
  stands = record { keeps = keeps_none 0 number file; last = refl };
})

no_length : {A : Type 0} (l : List A) → length l ≡ 0 → l ≡ []
no_length [] e = refl
no_length (x ∷ l) e = absurd (omega (arith, e))

-- what reading one log says of its file
abbrev pub SaysOf : Option ℕ → ℕ → ℕ → LogPlace → MoreUpdates → List ℕ → Type 0
SaysOf number s upto place more file = (start : ℕ) (before : List Logged) → StandsAt start number file (record { at = place.at; last = place.last }) before → HasMore start number file s upto before more

-- of the log that is read
pub says_there : (number : Option ℕ) (s upto : ℕ) (place : LogPlace) (more : MoreUpdates) (files : List (List ℕ)) (held : Option (List ℕ)) (from : Place) → from ≡ record { at = place.at; last = place.last } → held ≡ slice_get files place.log
    → IfSome held (λ file. (start : ℕ) (before : List Logged) → StandsAt start number file from before → HasMore start number file s upto before more) → IfSome (slice_get files place.log) (SaysOf number s upto place more)
says_there number s upto place more files held from from_is held_is says =
    subst (λ (o : Option (List ℕ)). IfSome o (SaysOf number s upto place more)) held_is
    (subst (λ (p : Place). IfSome held (λ file. (start : ℕ) (before : List Logged) → StandsAt start number file p before → HasMore start number file s upto before more)) from_is says)

-- what was read of the log of a place
own_more : (number : Option ℕ) (files : List (List ℕ)) (s upto : ℕ) (place : LogPlace) (more : MoreUpdates) (old : List (List ℕ)) → IfSome (slice_get files place.log) (SaysOf number s upto place more) → (read : IsReadTo number files s upto place old)
    → HasMore (last_sequence 0 read.stands.earlier) number read.stands.file s upto read.stands.here more
own_more number files s upto place more old says read =
    let st = read.stands in
    let there : slice_get files place.log ≡ Some st.file =
    ap (λ (l : List (List ℕ)). slice_get l place.log) st.cut ∙ (ap (slice_get (st.firsts ++ st.file ∷ st.others)) st.which ∙ get_behind st.firsts st.others st.file) in
    let here : SaysOf number s upto place more st.file = subst (λ (o : Option (List ℕ)). IfSome o (SaysOf number s upto place more)) there says in
    here (last_sequence 0 st.earlier) st.here st.stands

-- What is read after one log more: the batches of the logs before it are `earlier`, those that are read of it `front`.
pub record OneLog (number : Option ℕ) (files : List (List ℕ)) (s upto : ℕ) (place : LogPlace) (more : MoreUpdates) (records : List (List ℕ)) : Type 0 where
  pub firsts : List (List ℕ)
  pub file : List ℕ
  pub others : List (List ℕ)
  pub cut : files ≡ firsts ++ file ∷ others
  pub which : place.log ≡ length firsts
  pub earlier : List Logged
  pub front : List Logged
  pub whole : HoldInTurn number firsts earlier
  pub stands : StandsAt (last_sequence 0 earlier) number file more.place front
  pub are : records ≡ updates_in s upto (earlier ++ front)
  pub rest : MatchOption more.end (OneIsPast (last_sequence 0 earlier) number file upto front)
      (λ end. IsRecoveredAfter (last_sequence 0 earlier) number file (record { batches = front; kept = more.place.at; at = end.at; why = end.why }))

pub one_log : (number : Option ℕ) (files : List (List ℕ)) (s upto : ℕ) (place : LogPlace) (more : MoreUpdates) (old new : List (List ℕ)) → IfSome (slice_get files place.log) (SaysOf number s upto place more) → IsReadTo number files s upto place old → new ≡ old ++ more.records.items
    → OneLog number files s upto place more new
one_log number files s upto place more old new says read new_is =
    let st = read.stands in
    let m = own_more number files s upto place more old says read in
    let before : List Logged = st.earlier ++ st.here in
    record {
      firsts = st.firsts;
      file = st.file;
      others = st.others;
      cut = st.cut;
      which = st.which;
      earlier = st.earlier;
      front = st.here ++ m.read;
      whole = st.whole;
      stands = m.stands;
      are = new_is ∙ (ap (λ (l : List (List ℕ)). l ++ more.records.items) (read.are ∙ ap (updates_in s upto) st.all)
          ∙ (ap (λ (l : List (List ℕ)). updates_in s upto before ++ l) m.records
          ∙ (sym (updates_append s upto before m.read) ∙ ap (updates_in s upto) (append_assoc st.earlier st.here m.read))));
      rest = m.rest;
    }

-- the parts of the batches: those of the logs before, of this one, and of those after it
own_parts : (number : Option ℕ) (files : List (List ℕ)) (s upto : ℕ) (place : LogPlace) (more : MoreUpdates) (records : List (List ℕ)) (batches : List Logged) (o : OneLog number files s upto place more records) → HoldInTurn number files batches → Parted number o.firsts o.file o.others batches
own_parts number files s upto place more records batches o holds = parted number o.firsts o.file o.others batches (subst (λ (l : List (List ℕ)). HoldInTurn number l batches) o.cut holds)

-- Where reading a log ended, it was read whole, and ended clean.
pub record IsWhole (number : Option ℕ) (file : List ℕ) (end : End) (front mine : List Logged) : Type 0 where
  pub clean : end.why ≡ ends.Clean
  pub text : IsTextOf number file front
  pub same : map logged_bytes mine ≡ map logged_bytes front

ended : (start : ℕ) (number : Option ℕ) (file : List ℕ) (kept : ℕ) (end : End) (front mine : List Logged) → IsRecoveredAfter start number file (record { batches = front; kept = kept; at = end.at; why = end.why }) → IsTextOf number file mine → AreBatches mine → AreInOrder start mine
    → IsWhole number file end front mine
ended start number file kept end front mine is text are ordered =
    let all : take (length file) file ≡ file = take_all (length file) file (omega arith) in
    let keeps : KeepsAfter start number file (length file) mine = record { within = omega arith; spelled = subst (λ (l : List ℕ). SpellsWhole number l (map logged_bytes mine)) (sym all) text; are_batches = are; in_order = ordered } in
    let at_end : length file ≤ kept = is.most (length file) mine keeps in
    let front_text : SpellsWhole number file (map logged_bytes front) = subst (λ (l : List ℕ). SpellsWhole number l (map logged_bytes front)) (take_all kept file at_end) is.keeps.spelled in
    let same : map logged_bytes front ≡ map logged_bytes mine = spells_one number file (map logged_bytes front) (map logged_bytes mine) front_text text in
    record {
      clean = whole_clean start number file (map logged_bytes mine) (record { batches = front; kept = kept; at = end.at; why = end.why }) text is same;
      text = front_text;
      same = sym same;
    }

-- So was the one that was read last.
own_end : (number : Option ℕ) (files : List (List ℕ)) (s upto : ℕ) (place : LogPlace) (more : MoreUpdates) (records : List (List ℕ)) (batches : List Logged) (end : End) (o : OneLog number files s upto place more records) (holds : HoldInTurn number files batches) → AreInOrder 0 batches → more.end ≡ Some end
    → IsWhole number o.file end o.front (own_parts number files s upto place more records batches o holds).mine
own_end number files s upto place more records batches end o holds ordered is =
    let p = own_parts number files s upto place more records batches o holds in
    let start_is : last_sequence 0 p.earlier ≡ last_sequence 0 o.earlier = last_same 0 p.earlier o.earlier (hold_same number o.firsts p.earlier o.earlier p.before o.whole) in
    let behind = (in_order_parts 0 p.earlier (p.mine ++ p.later) (subst (λ (l : List Logged). AreInOrder 0 l) p.all ordered)).1 in
    let own : AreInOrder (last_sequence 0 o.earlier) p.mine = subst (λ n. AreInOrder n p.mine) start_is (in_order_parts (last_sequence 0 p.earlier) p.mine p.later behind).0 in
    let recovered = subst (λ (e : Option End). MatchOption e (OneIsPast (last_sequence 0 o.earlier) number o.file upto o.front)
    (λ x. IsRecoveredAfter (last_sequence 0 o.earlier) number o.file (record { batches = o.front; kept = more.place.at; at = x.at; why = x.why }))) is o.rest in
    ended (last_sequence 0 o.earlier) number o.file more.place.at end o.front p.mine recovered p.text p.are own

-- All batches are those that were read, as far as it is asked, and others that aren't asked for.
pub record AllRead (s upto : ℕ) (batches read : List Logged) : Type 0 where
  pub first : List Logged
  pub others : List Logged
  pub all : batches ≡ first ++ others
  pub same : map record_of_batch first ≡ map record_of_batch read
  pub none : updates_in s upto others ≡ []

-- There is no log after this one.
read_last : (number : Option ℕ) (files : List (List ℕ)) (s upto : ℕ) (place : LogPlace) (more : MoreUpdates) (records : List (List ℕ)) (batches : List Logged) (end : End) (o : OneLog number files s upto place more records) → HoldInTurn number files batches → AreInOrder 0 batches → more.end ≡ Some end
    → length files ≤ place.log + 1 → AllRead s upto batches (o.earlier ++ o.front)
read_last number files s upto place more records batches end o holds ordered is last =
    let p = own_parts number files s upto place more records batches o holds in
    let w = own_end number files s upto place more records batches end o holds ordered is in
    let many : length files ≡ length o.firsts + length (o.file ∷ o.others) = ap length o.cut ∙ length-append o.firsts (o.file ∷ o.others) in
    let no_others : o.others ≡ [] = no_length o.others (let which = o.which in omega (arith, many, which, last)) in
    let no_later : p.later ≡ [] = hold_none number p.later (subst (λ (l : List (List ℕ)). HoldInTurn number l p.later) no_others p.behind) in
    record {
      first = p.earlier ++ p.mine;
      others = p.later;
      all = p.all ∙ sym (append_assoc p.earlier p.mine p.later);
      same = both_same p.earlier p.mine o.earlier o.front (hold_same number o.firsts p.earlier o.earlier p.before o.whole) (same_records p.mine o.front w.same p.are o.stands.keeps.are_batches);
      none = ap (updates_in s upto) no_later;
    }

-- Or the next record goes past `upto`.
read_past : (number : Option ℕ) (files : List (List ℕ)) (s upto : ℕ) (place : LogPlace) (more : MoreUpdates) (records : List (List ℕ)) (batches : List Logged) (o : OneLog number files s upto place more records) → HoldInTurn number files batches → AreInOrder 0 batches → more.end ≡ None
    → AllRead s upto batches (o.earlier ++ o.front)
read_past number files s upto place more records batches o holds ordered is =
    let p = own_parts number files s upto place more records batches o holds in
    let past = subst (λ (e : Option End). MatchOption e (OneIsPast (last_sequence 0 o.earlier) number o.file upto o.front)
    (λ x. IsRecoveredAfter (last_sequence 0 o.earlier) number o.file (record { batches = o.front; kept = more.place.at; at = x.at; why = x.why }))) is o.rest in
    let text = map logged_bytes (o.front ++ past.next ∷ []) in
    let more_of = spells_front number o.file (take past.end o.file) (drop past.end o.file) (map logged_bytes p.mine) text (sym (take-append-drop past.end o.file)) p.text past.keeps.spelled in
    let begins : map logged_bytes p.mine ≡ map logged_bytes o.front ++ logged_bytes past.next ∷ more_of.0 =
    more_of.1 ∙ (ap (λ (l : List (List ℕ)). l ++ more_of.0) (map-append logged_bytes o.front (past.next ∷ [])) ∙ append_assoc (map logged_bytes o.front) (logged_bytes past.next ∷ []) more_of.0) in
    let cut = split_batches p.mine (map logged_bytes o.front) (logged_bytes past.next ∷ more_of.0) begins in
    let are = batches_parts cut.front cut.back (subst (λ l. AreBatches l) cut.parts p.are) in
    let next_is = (batches_parts o.front (past.next ∷ []) past.keeps.are_batches).1.0 in
    let behind = (in_order_parts 0 p.earlier (p.mine ++ p.later) (subst (λ (l : List Logged). AreInOrder 0 l) p.all ordered)).1 in
    by_back p past.next more_of.0 past.past next_is cut.front cut.back cut.parts cut.front_is cut.back_is are behind
  where
    by_back : (p : Parted number o.firsts o.file o.others batches) (next : Logged) (rest : List (List ℕ)) → GoesPast upto next → IsBatch (logged_bytes next) next.first next.records → (front back : List Logged) → p.mine ≡ front ++ back → map logged_bytes front ≡ map logged_bytes o.front
        → map logged_bytes back ≡ logged_bytes next ∷ rest → AreBatches front × AreBatches back → AreInOrder (last_sequence 0 p.earlier) (p.mine ++ p.later) → AllRead s upto batches (o.earlier ++ o.front)
    by_back p next rest past next_is front [] parts front_is back_is are behind = absurd (cc)
    by_back p next rest past next_is front (t ∷ ts) parts front_is back_is are behind =
        let head : logged_bytes t ≡ logged_bytes next = cc in
        let same : record_of_batch t ≡ record_of_batch next = same_record t next head are.1.0 next_is in
        let goes : GoesPast upto t = subst (λ (r : LogRecord). (r.count ≢ 0) × (upto < r.first + r.count - 1)) (sym same) past in
        let flat : p.mine ++ p.later ≡ front ++ (t ∷ (ts ++ p.later)) = ap (λ (l : List Logged). l ++ p.later) parts ∙ append_assoc front (t ∷ ts) p.later in
        let low : ℕ = last_sequence (last_sequence 0 p.earlier) front in
        let order : AreInOrder low (t ∷ (ts ++ p.later)) = (in_order_parts (last_sequence 0 p.earlier) front (t ∷ (ts ++ p.later)) (subst (λ (l : List Logged). AreInOrder (last_sequence 0 p.earlier) l) flat behind)).1 in
        record {
          first = p.earlier ++ front;
          others = t ∷ (ts ++ p.later);
          all = p.all ∙ (ap (λ (l : List Logged). p.earlier ++ l) flat ∙ sym (append_assoc p.earlier front (t ∷ (ts ++ p.later))));
          same = both_same p.earlier front o.earlier o.front (hold_same number o.firsts p.earlier o.earlier p.before o.whole) (same_records front o.front front_is are.0 o.stands.keeps.are_batches);
          none = none_from_past s upto low t (ts ++ p.later) order goes;
        }

-- So all is answered.
all_records : (number : Option ℕ) (files : List (List ℕ)) (s upto : ℕ) (place : LogPlace) (more : MoreUpdates) (records : List (List ℕ)) (batches : List Logged) (o : OneLog number files s upto place more records) → AllRead s upto batches (o.earlier ++ o.front) → records ≡ updates_in s upto batches
all_records number files s upto place more records batches o a =
    o.are
    ∙ sym (ap (updates_in s upto) a.all
    ∙ (updates_append s upto a.first a.others
    ∙ (ap (λ (l : List (List ℕ)). updates_in s upto a.first ++ l) a.none ∙ (append-nil (updates_in s upto a.first) ∙ updates_same s upto a.first (o.earlier ++ o.front) a.same))))

-- The batches before a place are in order, and it has the last sequence of them.
ordered_to : (number : Option ℕ) (files : List (List ℕ)) (place : LogPlace) (before batches : List Logged) → HoldInTurn number files batches → AreInOrder 0 batches → StandsIn number files place before → AreInOrder 0 before
ordered_to number files place before batches holds ordered st =
    let p = parted number st.firsts st.file st.others batches (subst (λ (l : List (List ℕ)). HoldInTurn number l batches) st.cut holds) in
    let first : AreInOrder 0 p.earlier = (in_order_parts 0 p.earlier (p.mine ++ p.later) (subst (λ (l : List Logged). AreInOrder 0 l) p.all ordered)).0 in
    let earlier : AreInOrder 0 st.earlier = order_same 0 st.earlier p.earlier (hold_same number st.firsts st.earlier p.earlier st.whole p.before) first in
    subst (λ (l : List Logged). AreInOrder 0 l) (sym st.all) (in_order_joined 0 st.earlier st.here earlier st.stands.keeps.in_order)

last_to : (number : Option ℕ) (files : List (List ℕ)) (place : LogPlace) (before : List Logged) → StandsIn number files place before → place.last ≡ last_sequence 0 before
last_to number files place before st = st.stands.last ∙ (sym (fold-append last_after 0 st.earlier st.here) ∙ ap (last_sequence 0) (sym st.all))

has_all : (number : Option ℕ) (files : List (List ℕ)) (s upto : ℕ) (batches : List Logged) (r : LogUpdates) → HoldInTurn number files batches → AreInOrder 0 batches → r.records.items ≡ updates_in s upto batches → IsReadTo number files s upto r.place r.records.items
    → HasAll number files s upto batches r
has_all number files s upto batches r holds ordered records end = record {
  records = records;
  before = end.reached;
  stands = end.stands;
  are_before = end.are;
  none_before = λ t u below.
      none_before t u 0 end.reached (ordered_to number files r.place end.reached batches holds ordered end.stands) (subst (λ n. n < t) (last_to number files r.place end.reached end.stands) below);
}

-- How far the last record that was read reaches.

-- the end of the last record is where it was, if no record was read; or it is where reading ended
pub further_is : (P : LogPlace → Type 0) (reached from : LogPlace) (more : Place) → (more.at ≤ from.at → P reached) → (from.at < more.at → P (record { log = from.log; at = more.at; last = more.last })) → P (places.further reached from more)
further_is P reached from more stayed moved = by_test (nat_lt from.at more.at) refl
  where
    by_test : (b : Bool) → nat_lt from.at more.at ≡ b → P (if b then record { log = from.log; at = more.at; last = more.last } else reached)
    by_test true e = moved (let less = ltb-true from.at more.at e in omega (arith, less))
    by_test false e = stayed (let most = ltb-false from.at more.at e in omega (arith, most))

-- Where reading ends no later than it began, no batch was read.
none_read : (start : ℕ) (number : Option ℕ) (file : List ℕ) (at end : ℕ) (before read : List Logged) → KeepsAfter start number file at before → KeepsAfter start number file end (before ++ read) → end ≤ at → read ≡ []
none_read start number file at end before read keeps keeps_more le =
    let front : List ℕ = take at file in
    let cut : front ≡ take end file ++ drop end front = sym (take-append-drop end front) ∙ ap (λ (l : List ℕ). l ++ drop end front) (take-take end at file le) in
    let rest = spells_front number front (take end file) (drop end front) (map logged_bytes before) (map logged_bytes (before ++ read)) cut keeps.spelled keeps_more.spelled in
    no_length read (
    omega (
      arith,
      ap length rest.1,
      length-append (map logged_bytes (before ++ read)) rest.0,
      length-map (before ++ read) logged_bytes,
      length-map before logged_bytes,
      length-append before read,
    )
    )

-- All that was read is before the end of the last record.
pub reads_to_end : (number : Option ℕ) (files : List (List ℕ)) (s upto : ℕ) (place reached later : LogPlace) (more : MoreUpdates) (old new : List (List ℕ)) → IfSome (slice_get files place.log) (SaysOf number s upto place more) → IsReadTo number files s upto place old → IsReadTo number files s upto reached old
    → new ≡ old ++ more.records.items → later ≡ places.further reached place more.place → IsReadTo number files s upto later new
reads_to_end number files s upto place reached later more old new says read end new_is later_is =
    subst (λ (p : LogPlace). IsReadTo number files s upto p new) (sym later_is) (further_is (λ (p : LogPlace). IsReadTo number files s upto p new) reached place more.place stayed moved)
  where
    stayed : more.place.at ≤ place.at → IsReadTo number files s upto reached new
    stayed le =
        let st = read.stands in
        let m = own_more number files s upto place more old says read in
        let none : m.read ≡ [] = none_read (last_sequence 0 st.earlier) number st.file place.at more.place.at st.here m.read st.stands.keeps m.stands.keeps le in
        record {
          reached = end.reached;
          stands = end.stands;
          are = new_is ∙ (ap (λ (l : List (List ℕ)). l ++ more.records.items) end.are ∙ (ap (λ (l : List (List ℕ)). updates_in s upto end.reached ++ l) (m.records ∙ ap (updates_in s upto) none) ∙ append-nil (updates_in s upto end.reached)));
        }

    moved : place.at < more.place.at → IsReadTo number files s upto (record { log = place.log; at = more.place.at; last = more.place.last }) new
    moved past =
        let o = one_log number files s upto place more old new says read new_is in
        record {
          reached = o.earlier ++ o.front;
          stands = record {
            firsts = o.firsts;
            file = o.file;
            others = o.others;
            cut = o.cut;
            which = o.which;
            earlier = o.earlier;
            here = o.front;
            all = refl;
            whole = o.whole;
            stands = record { keeps = o.stands.keeps; last = o.stands.last };
          };
          are = o.are;
        }

-- whether reading goes on
pub goes_yes : (end : Option End) (which logs : ℕ) → places.goes_further end which logs ≡ true → (is_some end ≡ true) × (which + 1 < logs)
goes_yes None which logs goes = absurd (false≢true goes)
goes_yes (Some end) which logs goes = (refl, (let less = ltb-true (which + 1) logs (and_parts (is_clean end.why) (nat_lt (which + 1) logs) goes).1 in omega (arith, less)))

goes_no : (end : Option End) (which logs : ℕ) → places.goes_further end which logs ≡ false → IfSome end (λ e. e.why ≡ ends.Clean → logs ≤ which + 1)
goes_no None which logs stops = tt
goes_no (Some end) which logs stops = λ clean.
    let most = ltb-false (which + 1) logs (ap (λ (w : EndReason). is_clean w && nat_lt (which + 1) logs) (sym clean) ∙ stops) in omega (arith, most)

-- The answer where reading doesn't go on.
pub all_answered : (number : Option ℕ) (files : List (List ℕ)) (s upto logs : ℕ) (place reached : LogPlace) (more : MoreUpdates) (old new : List (List ℕ)) (batches : List Logged) (r : LogUpdates) → IfSome (slice_get files place.log) (SaysOf number s upto place more) → IsReadTo number files s upto place old
    → IsReadTo number files s upto reached old → new ≡ old ++ more.records.items → HoldInTurn number files batches → AreInOrder 0 batches → length files ≡ logs → places.goes_further more.end place.log logs ≡ false → r.records.items ≡ new → r.place ≡ places.further reached place more.place
    → HasAll number files s upto batches r
all_answered number files s upto logs place reached more old new batches r says read end new_is holds ordered many stops records_are place_is =
    let o = one_log number files s upto place more old new says read new_is in
    let all = all_records number files s upto place more new batches o (by_end o more.end refl) in
    let to_end = reads_to_end number files s upto place reached r.place more old new says read end new_is place_is in
    has_all number files s upto batches r holds ordered (records_are ∙ all) (subst (λ (l : List (List ℕ)). IsReadTo number files s upto r.place l) (sym records_are) to_end)
  where
    by_end : (o : OneLog number files s upto place more new) (end : Option End) → more.end ≡ end → AllRead s upto batches (o.earlier ++ o.front)
    by_end o None is = read_past number files s upto place more new batches o holds ordered is
    by_end o (Some end) is =
        let w = own_end number files s upto place more new batches end o holds ordered is in
        let last = (subst (λ (e : Option End). IfSome e (λ x. x.why ≡ ends.Clean → logs ≤ place.log + 1)) is (goes_no more.end place.log logs stops)) w.clean in
        read_last number files s upto place more new batches end o holds ordered is (omega (arith, many, last))

-- What is read where it goes on: it is read to the start of the next log.
pub reads_further : (number : Option ℕ) (files : List (List ℕ)) (s upto logs : ℕ) (place later : LogPlace) (more : MoreUpdates) (old new : List (List ℕ)) (batches : List Logged) → IfSome (slice_get files place.log) (SaysOf number s upto place more) → IsReadTo number files s upto place old
    → new ≡ old ++ more.records.items → HoldInTurn number files batches → AreInOrder 0 batches → length files ≡ logs → places.goes_further more.end place.log logs ≡ true → later ≡ record { log = place.log + 1; at = 0; last = more.place.last } → IsReadTo number files s upto later new
reads_further number files s upto logs place later more old new batches says read new_is holds ordered many goes later_is =
    let o = one_log number files s upto place more old new says read new_is in
    by_end o more.end refl
  where
    to_next : (o : OneLog number files s upto place more new) → IsTextOf number o.file o.front → (others : List (List ℕ)) → o.others ≡ others → IsReadTo number files s upto later new
    to_next o text [] others_are =
        let whole : length files ≡ length o.firsts + length (o.file ∷ o.others) = ap length o.cut ∙ length-append o.firsts (o.file ∷ o.others) in
        let none = ap length others_are in
        let which = o.which in
        let further = (goes_yes more.end place.log logs goes).1 in
        absurd (omega (arith, whole, none, which, many, further))
    to_next o text (f ∷ fs) others_are =
        let reached : List Logged = o.earlier ++ o.front in
        record {
          reached = reached;
          stands = subst (λ (p : LogPlace). StandsIn number files p reached) (sym later_is) (record {
            firsts = o.firsts ++ o.file ∷ [];
            file = f;
            others = fs;
            cut = o.cut ∙ (ap (λ (l : List (List ℕ)). o.firsts ++ o.file ∷ l) others_are ∙ sym (append_assoc o.firsts (o.file ∷ []) (f ∷ fs)));
            which = let which = o.which in let long = length-append o.firsts (o.file ∷ []) in omega (arith, which, long);
            earlier = reached;
            here = [];
            all = sym (append-nil reached);
            whole = hold_more number o.firsts o.earlier o.file o.front o.whole text o.stands.keeps.are_batches;
            stands = record { keeps = keeps_none (last_sequence 0 reached) number f; last = o.stands.last ∙ sym (fold-append last_after 0 o.earlier o.front) };
          });
          are = o.are;
        }

    by_end : (o : OneLog number files s upto place more new) (end : Option End) → more.end ≡ end → IsReadTo number files s upto later new
    by_end o None is = absurd (false≢true (sym (ap (λ (e : Option End). is_some e) is) ∙ (goes_yes more.end place.log logs goes).0))
    by_end o (Some end) is = to_next o (own_end number files s upto place more new batches end o holds ordered is).text o.others refl
