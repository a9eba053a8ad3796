-- All records of a log without damage are found, one after another.
use Rattle.std.proofs.Common.{◌≡◌, ℕ, ◌≤◌, true, List, [], ◌∷◌, ◌++◌, length, drop, map, Option, None, refl, sym, ◌∙◌, ap, subst, append-nil, length-append, arith}
use Rattle.std.specs.List.{AllByRecursion}
use Rattle.model_base.specs.declared.log.EndReason.TheVariants as ends
use Rattle.model_base.specs.Log.{AreOneRecord, Fragment, SpellsWhole, all_fragments, fragments_text, kinds_of, next_place, record_of}
use Rattle.model_base.specs.Reading.{HasFragments, Next, ReadingEnds, Seen, behind_zeros, clean, end_of, next_seen, nothing}
use Rattle.log_laws.proofs.Placed.{end_none, placed_append}
use Rattle.log_laws.proofs.ReadSynced.{stand_behind}
use Rattle.log_recovery_laws.proofs.Spelled.{stand_front}
use Rattle.log_laws.proofs.Next.{seen_past}
use Rattle.log_scan.specs.Scanning.{Ends, Finds, Item, found_more, found_none, not_skipped, whole}
use Rattle.list_log.proofs.Joined.{finds_join}
use Rattle.log_salvage.specs.Keeping.{AreKept, HasVerdict, no_records, with_kept}
use Rattle.log_salvage.specs.declared.keeping.Range.{Range}
use Rattle.log_salvage_laws.specs.Kept.{Keeps}

-- from this offset on the records of these fragments are found and kept
record Gives (range : Range) (number : Option ℕ) (file : List ℕ) (offset : ℕ) (groups : List (List Fragment)) : Type 0 where
  items : List Item
  finds : Finds number true file offset items (end_of number offset (all_fragments groups))
  kept : AreKept range items (map record_of groups)

end_joined : (number : Option ℕ) (offset : ℕ) (xs ys : List Fragment) → end_of number offset (xs ++ ys) ≡ end_of number (end_of number offset xs) ys
end_joined number offset xs ys =
    omega (arith, ap length (placed_append number offset xs ys), length-append (fragments_text number offset xs) (fragments_text number (end_of number offset xs) ys))

-- one record, at this offset
one_found : (number : Option ℕ) (file : List ℕ) (offset : ℕ) (fs : List Fragment) → AreOneRecord (kinds_of fs) → HasFragments number file offset fs → end_of number offset fs ≤ length file
    → Finds number true file offset (whole (next_place number offset) (end_of number offset fs) (record_of fs) ∷ []) (end_of number offset fs)
one_found number file offset fs one stand within =
    found_more {lost = None} found_none not_skipped (record { fragments = fs; one = one; stand = stand; starts = refl; ends = refl; bytes_are = refl; in_file = within })

gives : (range : Range) (number : Option ℕ) (file : List ℕ) (offset : ℕ) (groups : List (List Fragment)) → AllByRecursion (λ fs. AreOneRecord (kinds_of fs)) groups → HasFragments number file offset (all_fragments groups)
    → end_of number offset (all_fragments groups) ≤ length file → AllByRecursion (λ bytes. HasVerdict range bytes None) (map record_of groups) → Gives range number file offset groups
gives range number file offset [] whole_ones stand within verdicts =
    record { items = []; finds = subst (λ (p : ℕ). Finds number true file offset [] p) (sym (end_none number offset)) found_none; kept = no_records }
gives range number file offset (fs ∷ groups) whole_ones stand within verdicts =
    let later = all_fragments groups in
    let mid = end_of number offset fs in
    let joined : end_of number offset (fs ++ later) ≡ end_of number mid later = end_joined number offset fs later in
    let rest = gives range number file mid groups whole_ones.1 (stand_behind number file offset fs later stand) (subst (λ (p : ℕ). p ≤ length file) joined within) verdicts.1 in
    let one = one_found number file offset fs whole_ones.0 (stand_front number file offset fs later stand) (omega (arith, joined, within)) in
    let first : Item = whole (next_place number offset) mid (record_of fs) in
    record {
      items = first ∷ rest.items;
      finds = subst (λ (p : ℕ). Finds number true file offset (first ∷ rest.items) p) (sym joined) (finds_join number true file offset mid (end_of number mid later) (first ∷ []) rest.items one rest.finds);
      kept = with_kept verdicts.0 rest.kept;
    }

-- at the file's end nothing is seen
next_past : (number : Option ℕ) (file : List ℕ) (offset : ℕ) → length file ≤ offset → (next_seen number file offset).seen ≡ nothing
next_past number file offset past =
    ap (λ (s : Seen). (behind_zeros number file offset s).seen) (seen_past number file offset past) ∙ seen_past number file (next_place number offset) (omega (arith, past))

clean_end : (number : Option ℕ) (file : List ℕ) (offset : ℕ) → length file ≤ offset → ReadingEnds number file offset (length file) ends.Clean
clean_end number file offset past =
    let next = next_seen number file (end_of number offset []) in
    let sees : next.seen ≡ nothing = next_past number file (end_of number offset []) (omega (arith, past, end_none number offset)) in
    clean {at = next.at} (record { begun = tt; stand = record { rest = drop offset file; there = refl; fit = tt }; is_next = ap (λ (s : Seen). with_seen next.at s) (sym sees) })
  where
    with_seen : ℕ → Seen → Next
    with_seen at seen = record { at = at; seen = seen }

ends_clean : (number : Option ℕ) (file : List ℕ) (offset : ℕ) → length file ≤ offset → Ends number true file offset (length file) ends.Clean
ends_clean number file offset past = record {
  here = offset;
  lost = None;
  skips = not_skipped;
  last = record { at = length file; why = ends.Clean };
  ends = clean_end number file offset past;
  no_more = refl;
  first_is = refl;
}

pub gives_itself : (range : Range) (number : Option ℕ) (file : List ℕ) (records : List (List ℕ)) → SpellsWhole number file records → AllByRecursion (λ bytes. HasVerdict range bytes None) records
    → Keeps range number file records
gives_itself range number file records spells verdicts =
    let fragments = all_fragments spells.groups in
    let text = fragments_text number 0 fragments in
    let len : length file ≡ length text = ap length spells.spelled in
    let stand : HasFragments number file 0 fragments = record { rest = []; there = spells.spelled ∙ sym (append-nil text); fit = spells.fit } in
    let all = gives range number file 0 spells.groups spells.whole stand (omega (arith, len)) (subst (AllByRecursion (λ bytes. HasVerdict range bytes None)) spells.same verdicts) in
    record {
      scan = record { items = all.items; at = length file; why = ends.Clean };
      is = record { place = end_of number 0 fragments; finds = all.finds; ends = ends_clean number file (end_of number 0 fragments) (omega (arith, len)) };
      are = subst (AreKept range all.items) (sym spells.same) all.kept;
    }
