-- The steps of following a log from a place on: one more record, or the end, or one that goes past `upto`.
use Rattle.std.proofs.Common.{Option, ◌≡◌, ◌≢◌, ℕ, ◌<◌, ◌≤◌, ◌==◌, Bool, true, false, cond, List, [], ◌∷◌, ◌++◌, length, refl, sym, ◌∙◌, ap, subst, append_assoc, append-nil, arith, MatchOption, IfSome, Some, None}
use Rattle.std.specs.List.{AllByRecursion}
use Rattle.std.proofs.lemmas.Bool.{false≢true}
use Rattle.std.proofs.lemmas.List.Sums.{fold-append}
use Rattle.model_base.specs.Batch.{count_of}
use Rattle.model_base.specs.declared.log.EndReason.{EndReason}
use Rattle.model_base.specs.History.{max_sequence}
use Rattle.model_base.specs.Log.{record_of, next_place}
use Rattle.model_base.specs.Reading.{end_of, HasFragments, ReadingEnds, IsRecord}
use Rattle.model_base.specs.Recovery.{Logged, last_of, last_after, last_sequence, MayFollow, AreInOrder}
use Rattle.model_base.specs.RecoveredLogs.{KeepsAfter, IsRecoveredAfter}
use Rattle.log_reader.specs.declared.reader.Next.TheVariants as next
use Rattle.log_reader.specs.Reader.{Reader, Follows}
use Rattle.log_reader.specs.Records.{Reads}
use Rattle.log_recovery.specs.declared.following.Place.{Place}
use Rattle.log_recovery.specs.declared.following.MoreUpdates.{MoreUpdates}
use Rattle.log_recovery.specs.declared.picked.Picked.{Picked}
use Rattle.log_recovery.specs.declared.picked.Stop.{Stop}
use Rattle.log_recovery.specs.declared.picked.Stop.TheVariants.{Past, Refused}
use Rattle.log_recovery.specs.declared.recovery.End.{End}
use Rattle.log_recovery.specs.Keeping.{Refuses}
use Rattle.log_recovery.specs.Updating.{updates_in}
use Rattle.log_recovery.specs.Following.{StandsAt, IsWithin, RisesTo, PicksWithin, Stops, end_of_stop, OneIsPast, HasMore, PicksFrom}
use Rattle.log_recovery.proofs.MoreKept.{keeps_more}
use Rattle.log_recovery.proofs.Ending.{recovered_unread, recovered_unkept}
use Rattle.log_recovery.proofs.Picking.{updates_more}
use Rattle.log_recovery.proofs.NotDue.{none_before}

all_append : {X : Type 0} (P : X → Type 0) (xs ys : List X) → AllByRecursion P xs → AllByRecursion P ys → AllByRecursion P (xs ++ ys)
all_append P [] ys a b = b
all_append P (x ∷ xs) ys a b = (a.0, all_append P xs ys a.1 b)

in_order_front : (last : ℕ) (xs ys : List Logged) → AreInOrder last (xs ++ ys) → AreInOrder last xs
in_order_front last [] ys ordered = tt
in_order_front last (x ∷ xs) ys ordered = (ordered.0, in_order_front (last_after last x) xs ys ordered.1)

-- the answer, from what is picked and from the end of reading
abbrev pub more_answer : Picked → Option End → MoreUpdates
more_answer picked end = record { records = picked.records; place = record { at = picked.end; last = picked.last }; end = end }

-- What is picked of a file from a place on, while a reader reads it. If the file ends before the place, nothing is said.
pub record SoFar (number : Option ℕ) (s upto : ℕ) (from : Place) (picked : Picked) (log : Reader) (file : List ℕ) : Type 0 where
  pub place : picked.end ≡ log.place
  pub follows : Follows file log
  pub front : (start : ℕ) (before : List Logged) → StandsAt start number file from before → PicksFrom start number file s upto before picked

-- the same, for files that are long enough
abbrev pub IsSoFar : Option ℕ → ℕ → ℕ → Place → Picked → Reader → List ℕ → Type 0
IsSoFar number s upto from picked log file = from.at ≤ length file → SoFar number s upto from picked log file

-- what an answer says then
abbrev pub SaysMore : Option ℕ → ℕ → ℕ → Place → MoreUpdates → List ℕ → Type 0
SaysMore number s upto from more file = (start : ℕ) (before : List Logged) → StandsAt start number file from before → HasMore start number file s upto before more

-- At first nothing is read.
begins_front : (number : Option ℕ) (s upto : ℕ) (from : Place) (picked : Picked) (file : List ℕ) → picked.records.items ≡ [] → picked.last ≡ from.last → picked.end ≡ from.at
    → (start : ℕ) (before : List Logged) → StandsAt start number file from before → PicksFrom start number file s upto before picked
begins_front number s upto from picked file records last end start before stands =
    let none = append-nil before in
    record {
      read = [];
      keeps = subst (λ l. KeepsAfter start number file picked.end l) (sym none) (subst (λ n. KeepsAfter start number file n before) (sym end) stands.keeps);
      records = records;
      last = last ∙ (stands.last ∙ ap (last_sequence start) (sym none));
      within = tt;
    }

pub begins_following : (told : Option (List ℕ)) (number : Option ℕ) (s upto : ℕ) (from : Place) (picked : Picked) (log : Reader) → picked.records.items ≡ [] → picked.last ≡ from.last → picked.end ≡ from.at
    → IfSome told (λ file. from.at ≤ length file → (log.place ≡ from.at) × Follows file log) → IfSome told (IsSoFar number s upto from picked log)
begins_following None number s upto from picked log records last end there = tt
begins_following (Some file) number s upto from picked log records last end there = λ long. record {
  place = end ∙ sym (there long).0;
  follows = (there long).1;
  front = begins_front number s upto from picked file records last end;
}

-- A record that would be kept is read, and doesn't go past `upto`.
reads_one : (start : ℕ) (number : Option ℕ) (file : List ℕ) (s upto : ℕ) (before : List Logged) (old new : Picked) (place starts end : ℕ) (in_hand bytes : List ℕ) → old.end ≡ place → bytes ≡ in_hand → PicksFrom start number file s upto before old
    → IsRecord number file place starts end in_hand → PicksWithin s upto old new bytes end → PicksFrom start number file s upto before new
reads_one start number file s upto before old new place starts end in_hand bytes there bytes_are front r w =
    let a = w.picks in
    let b = a.kept.batch in
    let bs : List Logged = before ++ front.read in
    let may : MayFollow (last_sequence start bs) b = subst (λ n. MayFollow n b) front.last a.kept.may in
    let stands = subst (λ n. HasFragments number file n r.fragments) (sym there) r.stand in
    let end_is : end ≡ end_of number old.end r.fragments = r.ends ∙ ap (λ (n : ℕ). end_of number n r.fragments) (sym there) in
    let more = keeps_more start number file old.end bs b r.fragments front.keeps r.one stands (sym (bytes_are ∙ r.bytes_are) ∙ sym a.kept.same) a.kept.is may in
    let all : bs ++ b ∷ [] ≡ before ++ (front.read ++ b ∷ []) = append_assoc before front.read (b ∷ []) in
    record {
      read = front.read ++ b ∷ [];
      keeps = subst (λ l. KeepsAfter start number file new.end l) all (subst (λ n. KeepsAfter start number file n (bs ++ b ∷ [])) (sym end_is ∙ sym a.end_is) more);
      records = a.records ∙ (ap (λ (l : List (List ℕ)). l ++ updates_in s upto (b ∷ [])) front.records ∙ sym (updates_more s upto front.read b));
      last = a.last ∙ (ap (λ (n : ℕ). last_after n b) front.last ∙ (sym (fold-append last_after start bs (b ∷ [])) ∙ ap (last_sequence start) all));
      within = all_append (IsWithin upto) front.read (b ∷ []) front.within (w.within, tt);
    }

has_more : (start : ℕ) (number : Option ℕ) (file : List ℕ) (s upto : ℕ) (before : List Logged) (picked : Picked) (end : Option End) (front : PicksFrom start number file s upto before picked)
    → MatchOption end (OneIsPast start number file upto (before ++ front.read)) (λ e. IsRecoveredAfter start number file (record { batches = before ++ front.read; kept = picked.end; at = e.at; why = e.why }))
    → HasMore start number file s upto before (more_answer picked end)
has_more start number file s upto before picked end front rest = record {
  read = front.read;
  stands = record { keeps = front.keeps; last = front.last };
  records = front.records;
  within = front.within;
  rest = rest;
  none_before = λ below. none_before s upto start before (in_order_front start before front.read front.keeps.in_order) below;
}

-- Anything that can't be read ends it.
ends_unread : (start : ℕ) (number : Option ℕ) (file : List ℕ) (s upto : ℕ) (before : List Logged) (picked : Picked) (at : ℕ) (why : EndReason) → PicksFrom start number file s upto before picked → ReadingEnds number file picked.end at why
    → HasMore start number file s upto before (more_answer picked (Some (record { at = at; why = why })))
ends_unread start number file s upto before picked at why front ends =
    has_more start number file s upto before picked (Some (record { at = at; why = why })) front (recovered_unread start number file picked.end at why (before ++ front.read) front.keeps ends)

-- A record stops it that wouldn't be kept, or that goes past `upto`.
stops_at : (start : ℕ) (number : Option ℕ) (file : List ℕ) (s upto : ℕ) (before : List Logged) (picked : Picked) (place starts end : ℕ) (in_hand bytes : List ℕ) (stop : Stop) → picked.end ≡ place → bytes ≡ in_hand → PicksFrom start number file s upto before picked
    → IsRecord number file place starts end in_hand → Stops upto picked.last bytes stop → HasMore start number file s upto before (more_answer picked (end_of_stop starts stop))
stops_at start number file s upto before picked place starts end in_hand bytes Past there bytes_are front r past =
    let b = past.kept.batch in
    let bs : List Logged = before ++ front.read in
    let may : MayFollow (last_sequence start bs) b = subst (λ n. MayFollow n b) front.last past.kept.may in
    let stands = subst (λ n. HasFragments number file n r.fragments) (sym there) r.stand in
    let more = keeps_more start number file picked.end bs b r.fragments front.keeps r.one stands (sym (bytes_are ∙ r.bytes_are) ∙ sym past.kept.same) past.kept.is may in
    has_more start number file s upto before picked None front (record { next = b; end = end_of number picked.end r.fragments; keeps = more; past = past.past })
stops_at start number file s upto before picked place starts end in_hand bytes (Refused why) there bytes_are front r refuses =
    let bs : List Logged = before ++ front.read in
    let stands = subst (λ n. HasFragments number file n r.fragments) (sym there) r.stand in
    let known = subst (λ n. Refuses n (record_of r.fragments) why) front.last (subst (λ l. Refuses picked.last l why) (bytes_are ∙ r.bytes_are) refuses) in
    let after = recovered_unkept start number file picked.end why bs r.fragments front.keeps r.one stands known.ends known.not_kept in
    let at_is : starts ≡ next_place number picked.end = r.starts ∙ ap (next_place number) (sym there) in
    has_more start number file s upto before picked (Some (record { at = starts; why = why })) front
    (subst (λ n. IsRecoveredAfter start number file (record { batches = bs; kept = picked.end; at = n; why = why })) (sym at_is) after)

-- The same where the disk tells its content.
abbrev pub PickedOrStops : ℕ → ℕ → Picked → Picked → List ℕ → ℕ → Option Stop → Type 0
PickedOrStops s upto old new bytes end r = MatchOption r (PicksWithin s upto old new bytes end) (λ stop. (new ≡ old) × Stops upto old.last bytes stop)

pub picked_on : (s upto : ℕ) (old new : Picked) (bytes : List ℕ) (end : ℕ) (r : Option Stop) → PickedOrStops s upto old new bytes end r → r ≡ None → PicksWithin s upto old new bytes end
picked_on s upto old new bytes end None m e = m
picked_on s upto old new bytes end (Some stop) m e = absurd (cc)

pub stopped_at : (s upto : ℕ) (old new : Picked) (bytes : List ℕ) (end : ℕ) (r : Option Stop) (stop : Stop) → PickedOrStops s upto old new bytes end r → r ≡ Some stop → (new ≡ old) × Stops upto old.last bytes stop
stopped_at s upto old new bytes end None stop m e = absurd (cc)
stopped_at s upto old new bytes end (Some w) stop m e = let same : w ≡ stop = cc in (m.0, subst (Stops upto old.last bytes) same m.1)

-- a record that is picked doesn't lower the last sequence, and doesn't raise it above `upto`
pub rises_on : (s upto from : ℕ) (old new : Picked) (bytes : List ℕ) (end : ℕ) → PicksWithin s upto old new bytes end → RisesTo upto from old.last → RisesTo upto from new.last
rises_on s upto from old new bytes end adds so_far = by_count (count_of b.records == 0) refl (adds.picks).last
  where
    b : Logged
    b = ((adds.picks).kept).batch

    by_count : (z : Bool) → (count_of b.records == 0) ≡ z → new.last ≡ cond z old.last (last_of b) → RisesTo upto from new.last
    by_count true e is = (omega (arith, is, so_far.0), λ above. is ∙ so_far.1 (omega (arith, is, above)))
    by_count false e is =
        let some : count_of b.records ≢ 0 = λ none. false≢true (sym e ∙ ap (λ (n : ℕ). n == 0) none) in
        let may = ((adds.picks).kept).may some in
        let within = adds.within some in
        (omega (arith, is, may.0, so_far.0), λ above. omega (arith, is, within, above))

-- a record stops reading without an end only where it goes past `upto`, and it is at or below the greatest sequence
pub stops_below : (upto last start : ℕ) (bytes : List ℕ) (stop : Stop) → Stops upto last bytes stop → end_of_stop start stop ≡ None → upto < max_sequence
stops_below upto last start bytes Past past none = let fits = (past.kept).may (past.past).0 in omega (arith, fits.1, (past.past).1)
stops_below upto last start bytes (Refused why) refuses none = absurd (cc)

pub follows_more : (told before : Option (List ℕ)) (number : Option ℕ) (s upto : ℕ) (from : Place) (old new : Picked) (log after : Reader) (starts end : ℕ) (in_hand bytes : List ℕ) → before ≡ told → log.number ≡ number → log.stopped ≡ None → after.place ≡ end → bytes ≡ in_hand
    → PicksWithin s upto old new bytes end → IfSome told (IsSoFar number s upto from old log) → IfSome before (λ file. Follows file log → log.stopped ≡ None → Reads log.number file log.place in_hand (next.Record starts end))
    → IfSome before (λ file. Follows file log → Follows file after) → IfSome told (IsSoFar number s upto from new after)
follows_more None before number s upto from old new log after starts end in_hand bytes same format going there bytes_are adds so says follows = tt
follows_more (Some file) before number s upto from old new log after starts end in_hand bytes same format going there bytes_are adds so says follows =
    let read : Follows file log → log.stopped ≡ None → Reads number file log.place in_hand (next.Record starts end) =
    subst (λ (n : Option ℕ). Follows file log → log.stopped ≡ None → Reads n file log.place in_hand (next.Record starts end)) format
    (subst (λ (t : Option (List ℕ)). IfSome t (λ f. Follows f log → log.stopped ≡ None → Reads log.number f log.place in_hand (next.Record starts end))) same says) in
    let on : Follows file log → Follows file after = subst (λ (t : Option (List ℕ)). IfSome t (λ f. Follows f log → Follows f after)) same follows in
    λ long. let o = so long in record {
      place = adds.picks.end_is ∙ sym there;
      follows = on o.follows;
      front = λ start batches stands. reads_one start number file s upto batches old new log.place starts end in_hand bytes o.place bytes_are (o.front start batches stands) (read o.follows going) adds;
    }

pub stops_there : (told before : Option (List ℕ)) (number : Option ℕ) (s upto : ℕ) (from : Place) (old new : Picked) (log : Reader) (starts end : ℕ) (in_hand bytes : List ℕ) (stop : Stop) → before ≡ told → log.number ≡ number → log.stopped ≡ None → bytes ≡ in_hand
    → (new ≡ old) × Stops upto old.last bytes stop → IfSome told (IsSoFar number s upto from old log) → IfSome before (λ file. Follows file log → log.stopped ≡ None → Reads log.number file log.place in_hand (next.Record starts end))
    → IfSome told (SaysMore number s upto from (more_answer new (end_of_stop starts stop)))
stops_there None before number s upto from old new log starts end in_hand bytes stop same format going bytes_are stops so says = tt
stops_there (Some file) before number s upto from old new log starts end in_hand bytes stop same format going bytes_are stops so says =
    let read : Follows file log → log.stopped ≡ None → Reads number file log.place in_hand (next.Record starts end) =
    subst (λ (n : Option ℕ). Follows file log → log.stopped ≡ None → Reads n file log.place in_hand (next.Record starts end)) format
    (subst (λ (t : Option (List ℕ)). IfSome t (λ f. Follows f log → log.stopped ≡ None → Reads log.number f log.place in_hand (next.Record starts end))) same says) in
    λ start batches stands. let o = so stands.keeps.within in
    subst (λ (k : Picked). HasMore start number file s upto batches (more_answer k (end_of_stop starts stop))) (sym stops.0)
    (stops_at start number file s upto batches old log.place starts end in_hand bytes stop o.place bytes_are (o.front start batches stands) (read o.follows going) stops.1)

pub ends_there : (told before : Option (List ℕ)) (number : Option ℕ) (s upto : ℕ) (from : Place) (picked : Picked) (log : Reader) (at : ℕ) (why : EndReason) (in_hand : List ℕ) → before ≡ told → log.number ≡ number → log.stopped ≡ None
    → IfSome told (IsSoFar number s upto from picked log) → IfSome before (λ file. Follows file log → log.stopped ≡ None → Reads log.number file log.place in_hand (next.End at why))
    → IfSome told (SaysMore number s upto from (more_answer picked (Some (record { at = at; why = why }))))
ends_there None before number s upto from picked log at why in_hand same format going so says = tt
ends_there (Some file) before number s upto from picked log at why in_hand same format going so says =
    let read : Follows file log → log.stopped ≡ None → Reads number file log.place in_hand (next.End at why) =
    subst (λ (n : Option ℕ). Follows file log → log.stopped ≡ None → Reads n file log.place in_hand (next.End at why)) format
    (subst (λ (t : Option (List ℕ)). IfSome t (λ f. Follows f log → log.stopped ≡ None → Reads log.number f log.place in_hand (next.End at why))) same says) in
    λ start batches stands. let o = so stands.keeps.within in
    ends_unread start number file s upto batches picked at why (o.front start batches stands)
    (subst (λ n. ReadingEnds number file n at why) (sym o.place) (read o.follows going))
