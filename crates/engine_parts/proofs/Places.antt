-- Where reads of a log may begin, once it was read or written on.
use Rattle.std.proofs.Common.{◌≡◌, ◌⊎◌, inl, inr, ⊎_elim, ℕ, zero, suc, ◌-◌, ◌<◌, ◌^◌, List, [], ◌∷◌, ◌++◌, Option, length, slice_set, Contains, refl, sym, subst, arith}
use Rattle.std.proofs.lemmas.List.Elements.{All-contains, All-from_recursion, All-set, recursion_from_All}
use Rattle.std.specs.List.{AllByRecursion}
use Rattle.log_writer.specs.declared.group_log.GroupLog.{Ghosts}
use Rattle.log_writer.specs.GoOn.{GoOn}
use Rattle.log_writer.specs.ReadableLogs.{batches_by}
use Rattle.model_base.specs.LogContents.{GroupCall}
use Rattle.model_base.specs.Recovery.{Logged}
use Rattle.log_recovery.specs.Updating.{updates_in}
use Rattle.log_updates.specs.declared.places.LogPlace.{LogPlace}
use Rattle.log_updates.specs.declared.reading.LogUpdates.{LogUpdates}
use Rattle.log_updates.specs.Places.{HasAll, IsFixed, StandsIn, first_place}
use Rattle.engine_parts.specs.declared.log.OpenLog.{OpenLog}
use Rattle.engine_parts.specs.Logs.{Adds, Had, Wrote}
use Rattle.engine_parts.specs.Places.{IsReached, MayBegin}

-- The law of places: they stay when the logs are written on, and the first one is before all records.
abbrev pub PlacesStay : Type 0
PlacesStay = (number : Option ℕ) (files later : List (List ℕ)) (place : LogPlace) (before : List Logged) → GoOn files later → IsFixed place → StandsIn number files place before → StandsIn number later place before

abbrev pub BeginsFirst : Type 0
BeginsFirst = (number : Option ℕ) (files : List (List ℕ)) → 0 < length files → StandsIn number files first_place []

module _ {Log : Type 0} {ghosts : Ghosts Log} (opened : OpenLog Log ghosts) (start : ℕ) where
  -- reads may begin at these places
  abbrev pub MayBeginAt : OpenLog Log ghosts → List LogPlace → Type 0
  MayBeginAt log places = AllByRecursion (MayBegin opened start log) places

  -- the places of the first log are places of the second one, and the same batches are before them
  pub record KeepPlaces (old new : OpenLog Log ghosts) : Type 0 where
    pub many : ghosts.many new.log ≡ ghosts.many old.log
    pub ends : (batches : List Logged) → Had opened start batches → (files : List (List ℕ)) → ghosts.holds old.log files
        → (later : List (List ℕ)) × ghosts.holds new.log later × ((place : LogPlace) (before : List Logged) → IsFixed place → StandsIn (ghosts.number old.log) files place before → StandsIn (ghosts.number new.log) later place before)

  module _ (old new : OpenLog Log ghosts) (keep : KeepPlaces old new) where
    reached_on : (place : LogPlace) → IsReached opened start old place → IsReached opened start new place
    reached_on place r = record {
      there = subst (λ (n : ℕ). place.log < n) (sym keep.many) r.there;
      small = r.small;
      fixed = r.fixed;
      is_end = λ batches had.
          let e = r.is_end batches had in
          let on = keep.ends batches had e.0 e.1 in
          (on.0, on.1, record { before = e.2.before; stands = on.2 place e.2.before r.fixed e.2.stands; none_before = e.2.none_before });
    }

    begin_on : (place : LogPlace) → MayBegin opened start old place → MayBegin opened start new place
    begin_on place may = ⊎_elim (λ (first : place ≡ first_place). inl first) (λ (r : IsReached opened start old place). inr (reached_on place r)) may

    pub begin_all_on : (places : List LogPlace) → MayBeginAt old places → MayBeginAt new places
    begin_all_on [] may = tt
    begin_all_on (place ∷ places) may = (begin_on place may.0, begin_all_on places may.1)

  -- a call has written the log on
  pub places_added : PlacesStay → (calls : List GroupCall) (c : GroupCall) (old new : OpenLog Log ghosts) → Wrote opened calls old → Adds c old new → KeepPlaces old new
  places_added stay calls c old new wrote adds = record {
    many = adds.many;
    ends = λ batches had files holds.
        let on = adds.grows opened batches calls files had.keeps wrote holds in (
          on.0,
          on.1,
          λ place before fixed stands. subst (λ (n : Option ℕ). StandsIn n on.0 place before) (sym adds.number) (stay (ghosts.number old.log) files on.0 place before on.2 fixed stands),
        );
  }

  -- it was only read
  pub places_read : (old new : OpenLog Log ghosts) → ghosts.many new.log ≡ ghosts.many old.log → ghosts.number new.log ≡ ghosts.number old.log → ((files : List (List ℕ)) → ghosts.holds old.log files → ghosts.holds new.log files) → KeepPlaces old new
  places_read old new many number held = record {
    many = many;
    ends = λ batches had files holds. (files, held files holds, λ place before fixed stands. subst (λ (n : Option ℕ). StandsIn n files place before) (sym number) stands);
  }

  -- A read for the records from `since` on may begin at the place: it is there, and no record before it is asked for.
  pub record BeginsWell (log : OpenLog Log ghosts) (since : ℕ) (place : LogPlace) : Type 0 where
    pub there : place.log < ghosts.many log.log
    pub small : place.at < 2 ^ 63
    pub fixed : IsFixed place
    pub ends : (batches : List Logged) → Had opened start batches
        → (files : List (List ℕ)) × ghosts.holds log.log files × (before : List Logged) × StandsIn (ghosts.number log.log) files place before × ((upto : ℕ) → updates_in since upto before ≡ [])

  module _ (log : OpenLog Log ghosts) (some : 0 < ghosts.many log.log) (known : (batches : List Logged) → Had opened start batches → (files : List (List ℕ)) × ghosts.holds log.log files × (0 < length files)) (first : BeginsFirst) (since : ℕ) where
    well_first : (place : LogPlace) → place ≡ first_place → BeginsWell log since place
    well_first place is = subst (BeginsWell log since) (sym is) (record {
      there = some;
      small = omega arith;
      fixed = inl refl;
      ends = λ batches had. let k = known batches had in (k.0, k.1, [], first (ghosts.number log.log) k.0 k.2, λ upto. refl);
    })

    well_reached : (place : LogPlace) → place.last < since → IsReached opened start log place → BeginsWell log since place
    well_reached place lower r = record {
      there = r.there;
      small = r.small;
      fixed = r.fixed;
      ends = λ batches had. let e = r.is_end batches had in (e.0, e.1, e.2.before, e.2.stands, λ upto. e.2.none_before since upto lower);
    }

    well_begun : (place : LogPlace) → place.last < since → MayBegin opened start log place → BeginsWell log since place
    well_begun place lower may = ⊎_elim (well_first place) (well_reached place lower) may

    -- a read begins well at the place that the places give for it
    pub begins_well : (places : List LogPlace) → MayBeginAt log places → (place : LogPlace) → (place ≡ first_place) ⊎ (Contains places place × (place.last < since)) → BeginsWell log since place
    begins_well places may place from = ⊎_elim (well_first place)
        (λ (t : Contains places place × (place.last < since)). well_begun place t.1 (All-contains (MayBegin opened start log) places place (All-from_recursion (MayBegin opened start log) places may) t.0)) from

  -- and another one may begin where it ended
  pub place_reached : (old new : OpenLog Log ghosts) → KeepPlaces old new → (since at : ℕ) (from : LogPlace) → BeginsWell old since from → (r : LogUpdates) (calls : List GroupCall) → r.place.log < ghosts.many new.log → r.place.at < 2 ^ 63 → IsFixed r.place
      → ((batches : List Logged) → Had opened start batches → (files : List (List ℕ)) (before : List Logged) → ghosts.holds old.log files → StandsIn (ghosts.number old.log) files from before → updates_in since at before ≡ []
      → HasAll (ghosts.number old.log) files since at (batches ++ batches_by calls) r)
      → MayBegin opened start new r.place
  place_reached old new keep since at from well r calls there small fixed reads = inr (record {
    there = there;
    small = small;
    fixed = fixed;
    is_end = λ batches had.
        let e = well.ends batches had in
        let all = reads batches had e.0 e.2 e.1 e.3 (e.4 at) in
        let on = keep.ends batches had e.0 e.1 in
        (on.0, on.1, record { before = all.before; stands = on.2 r.place all.before fixed all.stands; none_before = all.none_before });
  })

  -- the places, once a client's is this one
  pub places_with : (log : OpenLog Log ghosts) (old new : List LogPlace) (client : ℕ) (place : LogPlace) → MayBeginAt log old → MayBegin opened start log place → (0 < client → new ≡ slice_set old (client - 1) place) → (client ≡ 0 → new ≡ old) → MayBeginAt log new
  places_with log old new zero place may now at none = subst (MayBeginAt log) (sym (none refl)) may
  places_with log old new (suc n) place may now at none =
      subst (MayBeginAt log) (sym (at (omega arith))) (recursion_from_All (MayBegin opened start log) (slice_set old (suc n - 1) place) (All-set (MayBegin opened start log) old (suc n - 1) place now (All-from_recursion (MayBegin opened start log) old may)))
