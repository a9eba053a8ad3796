-- What holds once a leader has read the log and answered its own request.
use Rattle.std.proofs.Common.{◌≡◌, ◌⊎◌, ℕ, ◌-◌, ◌^◌, ◌<◌, ◌≤◌, length, slice_set, Contains, arith, List, [], ◌∷◌, ◌++◌, Option, Some, Result, Ok, Err, IfOk, get_or, sym, ap, ◌∙◌, subst}
use Rattle.std.proofs.lemmas.Option.{same_Some}
use Rattle.log_writer.specs.declared.group_log.GroupLog.{Ghosts}
use Rattle.engine_calls.specs.declared.answers.Since.{Since}
use Rattle.engine_calls.specs.declared.answers.SinceRefused.{SinceRefused}
use Rattle.engine_calls.specs.declared.answers.SinceRefused.TheVariants as unread
use Rattle.line_rule.specs.declared.view.Handling.{Handling}
use Rattle.engine_rule.specs.Commits.{Commit}
use Rattle.engine_rule.specs.Consistent.{AreConsistent}
use Rattle.engine_rule.specs.Reading.{ReadAnswer, IsRight}
use Rattle.engine_parts.specs.declared.log.OpenLog.{OpenLog}
use Rattle.engine_parts.specs.declared.requests.Request.{Request}
use Rattle.engine_parts.specs.declared.requests.Answer.{Answer}
use Rattle.engine_parts.specs.Handled.{commits_in, handled_with, read_answer, read_by, reads_handled}
use Rattle.engine_parts.specs.LogLaw.{Past, StandsForPast, with_read}
use Rattle.engine_parts.specs.Logs.{Had, Wrote, fault_of, faults_of}
use Rattle.engine_parts.specs.ReadAnswers.{HasCounted, HasReadTo, IsOneRead}
use Rattle.model_base.specs.LogContents.{GroupCall}
use Rattle.model_base.specs.Recovery.{AreInOrder, Logged}
use Rattle.log_updates.specs.declared.places.LogPlace.{LogPlace}
use Rattle.log_updates.specs.Places.{HasAll, IsFixed, StandsIn, first_place}
use Rattle.log_updates.specs.declared.reading.LogUpdates.{LogUpdates}
use Rattle.log_recovery.specs.Updating.{updates_in}
use Rattle.log_writer.specs.ReadableLogs.{batches_by}
use Rattle.engine_parts.proofs.Places.{BeginsFirst, BeginsWell, KeepPlaces, MayBeginAt, begin_all_on, begins_well, place_reached, places_read, places_with}
use Rattle.engine_parts.proofs.LogOrder.{all_in_order}
use Rattle.engine_rule.specs.LogSights.{worked_in, ShowTheLog}
use Rattle.engine_parts.proofs.Commits.{no_commit, no_sight, one_read}
use Rattle.engine_parts.proofs.ReadsLaw.{Explains, ReadsStand, with_answer}

-- the answer tells what the client wants to know
pub has_read : (before now at : ℕ) (r : Result Since SinceRefused) → HasCounted before now r → IfOk r (λ s. s.at ≡ at) → HasReadTo before at (Some r)
has_read before now at (Ok s) counted is = is
has_read before now at (Err unread.SelfStop) counted is = counted
has_read before now at (Err unread.NoMemory) counted is = tt
has_read before now at (Err (unread.ReadFault count)) counted is = counted.0

-- one request, with its answer
pub one_handled : (requests : List (ℕ × Request)) (replies : List (ℕ × Answer)) (x : ℕ × Request) (y : ℕ × Answer) → requests ≡ x ∷ [] → replies ≡ y ∷ [] → handled_with requests replies ≡ record { by = x.0; asked = x.1; reply = y.1 } ∷ []
one_handled requests replies x y asked told = λ i. handled_with (asked i) (told i)

-- the first of the requests, which is the only one, asks for this
pub same_since : (clients : ℕ) (requests : List (ℕ × Request)) (one : IsOneRead clients requests) (x : ℕ × Request) (rest : List (ℕ × Request)) → requests ≡ x ∷ rest → (since : ℕ) → x.1.since ≡ Some since → since ≡ one.since
same_since clients requests one x rest first since reads =
    let same : x ≡ (one.client, one.request) = ap (λ l. get_or l 0 x) (sym first ∙ one.is) in
    same_Some since one.since (sym reads ∙ (ap (λ (z : ℕ × Request). z.1.since) same ∙ one.reads))

-- the place that is chosen for a read is one from which on it gives all that is asked for
pub reads_well : {Log : Type 0} {ghosts : Ghosts Log} (clients : ℕ) (past : Past (OpenLog Log ghosts)) (log : OpenLog Log ghosts) (places : List LogPlace) (last made : ℕ) → StandsForPast clients past log places last made → 0 < ghosts.many log.log
    → ((opened now : Log) (kept : List Logged) (calls : List GroupCall) → ghosts.keeps opened kept → ghosts.wrote opened calls now → (files : List (List ℕ)) × ghosts.holds now files) → ((now : Log) (files : List (List ℕ)) → ghosts.holds now files → length files ≡ ghosts.many now)
    → BeginsFirst → (since : ℕ) (place : LogPlace) → (place ≡ first_place) ⊎ (Contains places place × (place.last < since)) → BeginsWell past.opened past.start log since place
reads_well clients past log places last made is some known many first since place from =
    begins_well past.opened past.start log some
    (λ batches had. let k = known past.opened.log log.log batches is.calls had.keeps is.wrote in (k.0, k.1, (let n = many log.log k.0 k.1 in omega (arith, n, some)))) first since places is.begins place from

-- The places once the log was read: they stay as they were, and the client's is the one that the read came to, if it did
-- not fail.
module _ {Log : Type 0} {ghosts : Ghosts Log} (clients : ℕ) (past : Past (OpenLog Log ghosts)) (old new : OpenLog Log ghosts) (places : List LogPlace) (last made : ℕ) (is : StandsForPast clients past old places last made)
    (many : ghosts.many new.log ≡ ghosts.many old.log) (number : ghosts.number new.log ≡ ghosts.number old.log) (held : (files : List (List ℕ)) → ghosts.holds old.log files → ghosts.holds new.log files) where
  keep : KeepPlaces past.opened past.start old new
  keep = places_read past.opened past.start old new many number held

  pub read_not : MayBeginAt past.opened past.start new places
  read_not = begin_all_on past.opened past.start old new keep places is.begins

  pub read_on : (since at : ℕ) (from : LogPlace) → BeginsWell past.opened past.start old since from → (r : LogUpdates) → r.place.log < ghosts.many new.log → r.place.at < 2 ^ 63 → IsFixed r.place
      → ((batches : List Logged) → Had past.opened past.start batches → (files : List (List ℕ)) (before : List Logged) → ghosts.holds old.log files → AreInOrder 0 (batches ++ batches_by is.calls) → StandsIn (ghosts.number old.log) files from before → updates_in since at before ≡ []
      → HasAll (ghosts.number old.log) files since at (batches ++ batches_by is.calls) r)
      → (client : ℕ) (after : List LogPlace) → (0 < client → after ≡ slice_set places (client - 1) r.place) → (client ≡ 0 → after ≡ places) → MayBeginAt past.opened past.start new after
  read_on since at from well r there small fixed reads client after set none =
      places_with past.opened past.start new places after client r.place read_not
      (place_reached past.opened past.start old new keep since at from well r is.calls there small fixed
      (λ batches had files before holds stands nothing.
      reads batches had files before holds
      (all_in_order past.start clients past.group_bytes past.asked (commits_in past.handled) last (fault_of old) past.published is.calls is.consistent batches had.in_order had.up_to) stands nothing))
      set none

module _ {Log : Type 0} {ghosts : Ghosts Log} (clients : ℕ) (past : Past (OpenLog Log ghosts)) (old new : OpenLog Log ghosts) (places later_places : List LogPlace) (last made : ℕ) (is : StandsForPast clients past old places last made) where
  explained : (since at : ℕ) (r : Result Since SinceRefused) → HasCounted (faults_of old) (faults_of new) r → IfOk r (λ s. s.at ≡ at)
      → IfOk r (λ s. IsRight (Had past.opened past.start) last is.calls (record { since = since; at = at; records = s.records }))
      → Explains past.opened past.start clients is.calls old new last (read_answer since (Some r))
  explained since at (Ok s) counted reached right = (subst (λ (n : ℕ). IsRight (Had past.opened past.start) last is.calls (record { since = since; at = n; records = s.records })) (sym reached) right, counted)
  explained since at (Err unread.SelfStop) counted reached right = absurd counted
  explained since at (Err unread.NoMemory) counted reached right = counted
  explained since at (Err (unread.ReadFault count)) counted reached right = (counted.0, omega (arith, counted.1))

  -- the log's law holds with the read, which is the client's
  pub stands_with_read : Wrote past.opened is.calls new → fault_of new ≡ fault_of old → faults_of old ≤ faults_of new → MayBeginAt past.opened past.start new later_places → (requests : List (ℕ × Request)) (replies : List (ℕ × Answer)) (one : IsOneRead clients requests) (y : ℕ × Answer) → replies ≡ y ∷ []
      → (at : ℕ) (r : Result Since SinceRefused) → y.1.read ≡ Some r → HasCounted (faults_of old) (faults_of new) r → IfOk r (λ s. s.at ≡ at)
      → IfOk r (λ s. IsRight (Had past.opened past.start) last is.calls (record { since = one.since; at = at; records = s.records }))
      → StandsForPast clients (with_read past requests replies) new later_places last made
  stands_with_read wrote alive later begins requests replies one y told at r gave counted reached right =
      let hs = past.handled in
      let h : Handling Request Answer = record { by = one.client; asked = one.request; reply = y.1 } in
      let all : hs ++ h ∷ [] ≡ hs ++ handled_with requests replies = ap (λ l. hs ++ l) (sym (one_handled requests replies (one.client, one.request) y one.is told)) in
      let commits : commits_in (hs ++ h ∷ []) ≡ commits_in hs = no_commit hs h one.since one.reads in
      let a : ReadAnswer = read_answer one.since y.1.read in
      let why : Explains past.opened past.start clients is.calls old new last a =
      subst (λ (o : Option (Result Since SinceRefused)). Explains past.opened past.start clients is.calls old new last (read_answer one.since o)) (sym gave) (explained one.since at r counted reached right) in
      let were : ReadsStand past.opened past.start clients is.calls old last (reads_handled hs) = record { right = is.right; readers = is.readers; counted = is.counted } in
      let more : ReadsStand past.opened past.start clients is.calls new last (reads_handled hs ++ read_by one.client a ∷ []) = with_answer past.opened past.start clients is.calls old new last (reads_handled hs) one.client a alive later one.low one.high why were in
      let reads = subst (ReadsStand past.opened past.start clients is.calls new last) (sym (one_read hs h one.since one.reads)) more in
      let now : StandsForPast clients (record past { handled = hs ++ h ∷ [] }) new later_places last made = record {
        our = is.our;
        calls = is.calls;
        wrote = wrote;
        consistent = subst (λ (z : List Commit × Option ℕ). AreConsistent past.start clients past.group_bytes past.asked z.0 last z.1 past.published is.calls) (λ i. (sym commits i, sym alive i)) is.consistent;
        made_is = is.made_is;
        shown = subst (ShowTheLog (worked_in is.calls)) (sym (no_sight hs h one.since one.reads)) is.shown;
        right = reads.right;
        readers = reads.readers;
        counted = reads.counted;
        begins = begins;
      } in
      subst (λ l. StandsForPast clients (record past { handled = l }) new later_places last made) all now
