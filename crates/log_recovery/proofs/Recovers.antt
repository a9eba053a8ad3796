-- The steps of recovery: one more record, or the end.
use Rattle.std.proofs.Common.{Option, ◌≡◌, ℕ, List, [], ◌∷◌, ◌++◌, map, fold, refl, sym, ◌∙◌, ap, subst, append_assoc, append-nil}
use Rattle.std.proofs.lemmas.List.{map-append}
use Rattle.std.proofs.lemmas.List.Sums.{fold-append}
use Rattle.model_base.specs.declared.log.EndReason.{EndReason}
use Rattle.model_base.specs.Log.{Fragment, AreOneRecord, kinds_of, record_of, next_place}
use Rattle.model_base.specs.Map.{Pairs, after_records}
use Rattle.model_base.specs.Reading.{end_of, HasFragments, ReadingEnds, IsRecord}
use Rattle.model_base.specs.Recovery.{Logged, last_after, last_sequence, MayFollow, Recovered, IsRecovered}
use Rattle.model_base.specs.RecoveredLogs.{KeepsAfter, IsRecoveredAfter}
use Rattle.log_recovery.specs.declared.kept.Kept.{Kept}
use Rattle.log_recovery.specs.declared.recovery.End.{End}
use Rattle.log_recovery.specs.Keeping.{note_of, ShowsAfter, KeepsFront, Adds, Refuses}
use Rattle.log_recovery.specs.Recovering.{HasKept, HasRecovered}
use Rattle.log_recovery.proofs.MoreKept.{keeps_none, keeps_more}
use Rattle.log_recovery.proofs.Ending.{recovered_unread, recovered_unkept}

-- what is kept shows one batch more
shows_more : (before old new : Kept) (bytes : List ℕ) (end : ℕ) (bs : List Logged) (a : Adds old new bytes end) → ShowsAfter before old bs → ShowsAfter before new (bs ++ a.kept.batch ∷ [])
shows_more before old new bytes end bs a shows = record {
  groups = a.groups ∙ (ap (λ notes. notes ++ note_of a.kept.batch ∷ []) shows.groups ∙ (append_assoc before.groups.items (map note_of bs) (note_of a.kept.batch ∷ []) ∙ ap (λ notes. before.groups.items ++ notes) (sym (map-append note_of bs (a.kept.batch ∷ [])))));
  map_is = a.map ∙ (ap (λ (m : Pairs). after_records m a.kept.batch.records) shows.map_is ∙ sym (fold-append (λ (m : Pairs) (b : Logged). after_records m b.records) before.map bs (a.kept.batch ∷ [])));
  last = a.last ∙ (ap (λ (n : ℕ). last_after n a.kept.batch) shows.last ∙ sym (fold-append last_after before.last bs (a.kept.batch ∷ [])));
}

-- At first nothing of the file is kept.
pub begins : (number : Option ℕ) (file : List ℕ) (before kept : Kept) → kept.groups.items ≡ before.groups.items → kept.map ≡ before.map → kept.last ≡ before.last → kept.end ≡ 0 → KeepsFront number file before kept
begins number file before kept groups map_is last end = record {
  batches = [];
  shows = record { groups = groups ∙ sym (append-nil before.groups.items); map_is = map_is; last = last };
  keeps = subst (λ n. KeepsAfter before.last number file n []) (sym end) (keeps_none before.last number file);
}

-- A record that may be kept is kept.
pub keeps_record : (number : Option ℕ) (file : List ℕ) (before old new : Kept) (fs : List Fragment) (bytes : List ℕ) (end : ℕ) → KeepsFront number file before old → AreOneRecord (kinds_of fs) → HasFragments number file old.end fs → bytes ≡ record_of fs → end ≡ end_of number old.end fs
    → Adds old new bytes end → KeepsFront number file before new
keeps_record number file before old new fs bytes end front one stands bytes_are end_is a =
    let b = a.kept.batch in
    let may : MayFollow (last_sequence before.last front.batches) b = subst (λ n. MayFollow n b) front.shows.last a.kept.may in
    let more = keeps_more before.last number file old.end front.batches b fs front.keeps one stands (sym bytes_are ∙ sym a.kept.same) a.kept.is may in
    record {
      batches = front.batches ++ b ∷ [];
      shows = shows_more before old new bytes end front.batches a front.shows;
      keeps = subst (λ n. KeepsAfter before.last number file n (front.batches ++ b ∷ [])) (sym end_is ∙ sym a.end_is) more;
    }

-- what is kept is what is recovered from the file
has_kept : (number : Option ℕ) (file : List ℕ) (before kept : Kept) (end : End) (bs : List Logged) → ShowsAfter before kept bs → IsRecoveredAfter before.last number file (record { batches = bs; kept = kept.end; at = end.at; why = end.why })
    → HasKept number file before kept end
has_kept number file before kept end bs shows is = record {
  recovered = record { batches = bs; kept = kept.end; at = end.at; why = end.why };
  is = is;
  shows = shows;
  kept_is = refl;
  at = refl;
  why = refl;
}

-- A record that can't be kept ends recovery.
pub refuses_record : (number : Option ℕ) (file : List ℕ) (before kept : Kept) (fs : List Fragment) (bytes : List ℕ) (end : End) → KeepsFront number file before kept → AreOneRecord (kinds_of fs) → HasFragments number file kept.end fs → bytes ≡ record_of fs → end.at ≡ next_place number kept.end
    → Refuses kept.last bytes end.why → HasKept number file before kept end
refuses_record number file before kept fs bytes end front one stands bytes_are at_is refuses =
    let r = subst (λ n. Refuses n (record_of fs) end.why) front.shows.last (subst (λ l. Refuses kept.last l end.why) bytes_are refuses) in
    let is = recovered_unkept before.last number file kept.end end.why front.batches fs front.keeps one stands r.ends r.not_kept in
    has_kept number file before kept end front.batches front.shows (subst (λ n. IsRecoveredAfter before.last number file (record { batches = front.batches; kept = kept.end; at = n; why = end.why })) (sym at_is) is)

-- So does anything that can't be read.
pub ends_reading : (number : Option ℕ) (file : List ℕ) (before kept : Kept) (end : End) → KeepsFront number file before kept → ReadingEnds number file kept.end end.at end.why → HasKept number file before kept end
ends_reading number file before kept end front ends =
    has_kept number file before kept end front.batches front.shows (recovered_unread before.last number file kept.end end.at end.why front.batches front.keeps ends)

-- A record that was read and kept.
pub keeps_read : (number : Option ℕ) (file : List ℕ) (before old new : Kept) (place start end : ℕ) (in_hand bytes : List ℕ) → old.end ≡ place → bytes ≡ in_hand → KeepsFront number file before old → IsRecord number file place start end in_hand → Adds old new bytes end → KeepsFront number file before new
keeps_read number file before old new place start end in_hand bytes there bytes_are front r a =
    keeps_record number file before old new r.fragments bytes end front r.one (subst (λ n. HasFragments number file n r.fragments) (sym there) r.stand) (bytes_are ∙ r.bytes_are) (r.ends ∙ ap (λ (n : ℕ). end_of number n r.fragments) (sym there)) a

-- A record that was read and not kept.
pub refuses_read : (number : Option ℕ) (file : List ℕ) (before kept : Kept) (place start end : ℕ) (in_hand bytes : List ℕ) (why : EndReason) → kept.end ≡ place → bytes ≡ in_hand → KeepsFront number file before kept → IsRecord number file place start end in_hand → Refuses kept.last bytes why
    → HasKept number file before kept (record { at = start; why = why })
refuses_read number file before kept place start end in_hand bytes why there bytes_are front r refuses =
    refuses_record number file before kept r.fragments bytes (record { at = start; why = why }) front r.one (subst (λ n. HasFragments number file n r.fragments) (sym there) r.stand) (bytes_are ∙ r.bytes_are) (r.starts ∙ ap (next_place number) (sym there)) refuses

-- What is kept of a log before which nothing was kept is what is recovered from it.
pub is_recovered : (number : Option ℕ) (file : List ℕ) (r : Recovered) → IsRecoveredAfter 0 number file r → IsRecovered number file r
is_recovered number file r is = record {
  keeps = record { within = is.keeps.within; spelled = is.keeps.spelled; are_batches = is.keeps.are_batches; in_order = is.keeps.in_order };
  most = λ kept bs k. is.most kept bs (record { within = k.within; spelled = k.spelled; are_batches = k.are_batches; in_order = k.in_order });
  ends = is.ends;
}

pub first_recovered : (number : Option ℕ) (file : List ℕ) (before kept : Kept) (end : End) → before.groups.items ≡ [] → before.map ≡ [] → before.last ≡ 0 → HasKept number file before kept end
    → HasRecovered number file (record { groups = kept.groups; map = kept.map; last = kept.last; kept = kept.end; end = end })
first_recovered number file before kept end groups map_is last has = record {
  recovered = has.recovered;
  is = is_recovered number file has.recovered (subst (λ n. IsRecoveredAfter n number file has.recovered) last has.is);
  shows = record {
    groups = has.shows.groups ∙ ap (λ l. l ++ map note_of has.recovered.batches) groups;
    map_is = has.shows.map_is ∙ ap (λ (m : Pairs). fold (λ (p : Pairs) (b : Logged). after_records p b.records) m has.recovered.batches) map_is;
    last = has.shows.last ∙ ap (λ (n : ℕ). last_sequence n has.recovered.batches) last;
    kept = has.kept_is;
    at = has.at;
    why = has.why;
  };
}
