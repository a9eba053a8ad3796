-- Images of two logs, and what their disks hold.
use Rattle.std.proofs.Common.{◌≡◌, inl, inr, ◌⊎◌, ℕ, ◌<◌, ◌≤◌, List, [], ◌∷◌, ◌++◌, length, take, map, Option, Some, None, refl, ap, sym, ◌∙◌, arith, length-append}
use Rattle.std.proofs.Math.Dec.{lit≤, lit<}
use Rattle.std.proofs.Math.Seq.{take-append_seam, take-length}
use Rattle.std.proofs.lemmas.List.{take_all}
use Rattle.model_base.specs.Varint.{varint_within}
use Rattle.model_base.specs.declared.history.Flag.TheVariants.{Sync}
use Rattle.model_base.specs.History.{Entry}
use Rattle.model_base.specs.Attempts.{Attempt}
use Rattle.model_base.specs.Calls.{Outcome}
use Rattle.model_base.specs.LogContents.{records_of}
use Rattle.log_laws.specs.Prefixes.{BeginsWith}
use Rattle.log_laws.specs.Fronts.{plain_text, AreFront, within, whole, HaveFront, HadRoom, AreFilledTo}
use Rattle.model_runs.specs.Crashes.{with_failed_record}
use Rattle.model_runs.specs.SeveralLogs.{Held, HoldLogs, AreCrashSafe, begun_records}
use Rattle.model_runs.specs.Examples.{put_a, entry_of, two_groups, in_two_logs, unsynced_in_two_logs, text_of_first, text_in_second_log, zeros, in_two_records, only_in_second_log, none_at_the_end, held_up_to_its_end}
use Rattle.model_runs.proofs.OneLog.{begun_text, among_safe}

abbrev first_group : List Entry
first_group = entry_of 1 Sync put_a ∷ []

first_len : length text_of_first ≡ 24
unfolding varint_within
first_len = refl

second_len : length text_in_second_log ≡ 24
unfolding varint_within
second_len = refl

-- of a front of two logs, the second one has nothing, or the first one is whole
two_front : (certain : ℕ) (r s : List (List ℕ)) (a b : List ℕ) → AreFront certain (r ∷ s ∷ []) (a ∷ b ∷ []) → ((b ≡ []) × BeginsWith (plain_text (take certain r)) a) ⊎ (a ≡ plain_text r)
two_front certain r s a b (within some begins none) = inl (none.0, begins)
two_front certain r s a b (whole same front) = inr same

pub torn_first : HaveFront 0 (begun_records in_two_logs None 0) (zeros 9 ∷ [] ∷ [])
torn_first = record { certain = 0; enough = lit≤ tt; front = within (lit≤ tt) (lit≤ tt, refl) (refl, tt) }

pub torn_second : HaveFront 1 (begun_records in_two_logs None 0) (text_of_first ∷ zeros 9 ∷ [])
torn_second = record { certain = 1; enough = lit≤ tt; front = whole {safe = 0} refl (within (lit≤ tt) (lit≤ tt, refl) tt) }

not_in_second : (certain : ℕ) (a b : List ℕ) → AreFront certain (begun_records in_two_logs None 0) (a ∷ b ∷ []) → 0 < length b → length a < 24 → ⊥
not_in_second certain a b front some few = elim (two_front certain _ _ a b front) [
  | inl empty ↦ absurd (omega (arith, ap length empty.0, some))
  | inr same ↦ absurd (omega (arith, ap length same, first_len, few))
]

pub old_first : HaveFront 0 (begun_records in_two_logs None 0) ([] ∷ text_in_second_log ∷ []) → ⊥
old_first found = not_in_second found.certain [] text_in_second_log found.front (omega (arith, second_len)) (lit< tt)

pub part_of_first : HaveFront 0 (begun_records in_two_logs None 0) (zeros 9 ∷ zeros 1 ∷ []) → ⊥
part_of_first found = not_in_second found.certain (zeros 9) (zeros 1) found.front (lit< tt) (lit< tt)

pub begun_before_the_sync : (group_bytes : ℕ) (attempts : List (List Attempt)) (o : Outcome) (ended : List Held) (reached : List ℕ)
    → AreCrashSafe group_bytes attempts o unsynced_in_two_logs 0 ended reached in_two_records [] (λ images. images ≡ text_of_first ∷ text_in_second_log ∷ []) only_in_second_log (λ images. images ≡ text_of_first ∷ text_in_second_log ∷ []) → ⊥
begun_before_the_sync group_bytes attempts o ended reached safe =
    let found = safe.fronts 0 ([] ∷ text_in_second_log ∷ []) refl in
    not_in_second (found.2).certain [] text_in_second_log (found.2).front (omega (arith, second_len)) (lit< tt)

pub synced_group_lost : (group_bytes : ℕ) (attempts : List (List Attempt)) (o : Outcome) (ended : List Held) (reached : List ℕ)
    → AreCrashSafe group_bytes attempts o in_two_logs 0 ended reached in_two_records [] (λ images. ⊥) none_at_the_end (λ images. ⊥) → ⊥
synced_group_lost group_bytes attempts o ended reached safe =
    let found = safe.fronts 2 ([] ∷ [] ∷ []) (refl, refl) in
    let some : 0 < found.0 = among_safe two_groups 2 found.0 0 first_group found.1 refl refl (lit< tt) in
    let certain = (found.2).certain in
    let first : List (List ℕ) = records_of (first_group ∷ []) in
    elim (two_front certain _ _ [] [] (found.2).front) [
      | inl begins ↦ absurd (omega (arith, (begins.1).0, ap (λ rs. length (plain_text rs)) (take_all certain first (omega (arith, some, (found.2).enough))), first_len))
      | inr same ↦ absurd (omega (arith, ap length same, first_len))
    ]

-- what the disks hold
two_held : (x : Option (List ℕ)) (g h : List (List Entry)) (a b : Held) → HoldLogs x (g ∷ h ∷ []) (a ∷ b ∷ []) → a.content ≡ plain_text (records_of g)
two_held x g h a b (HoldLogs.full text hold) = text

none_held : (x : Option (List ℕ)) (g : List (List Entry)) (a b : Held) → HoldLogs x (g ∷ []) (a ∷ b ∷ []) → b.content ≡ []
none_held x g a b (HoldLogs.last_one text behind front none) = none.0

pub both : HoldLogs None in_two_logs (held_up_to_its_end text_of_first ∷ held_up_to_its_end text_in_second_log ∷ [])
both = HoldLogs.full refl (HoldLogs.last_one (λ none. refl) (omega arith) (record { within = omega arith; same = refl }) tt)

pub more_in_a_full_log : HoldLogs None in_two_logs (held_up_to_its_end (text_of_first ++ zeros 1) ∷ held_up_to_its_end text_in_second_log ∷ []) → ⊥
unfolding varint_within
more_in_a_full_log hold =
    let same : length (text_of_first ++ zeros 1) ≡ length text_of_first = ap length (two_held None _ _ _ _ hold) in
    absurd (omega (arith, same))

pub sync_failed : (x : List ℕ) → HoldLogs (Some x) ((first_group ∷ []) ∷ []) (held_up_to_its_end text_of_first ∷ held_up_to_its_end [] ∷ [])
sync_failed x =
    HoldLogs.last_one (λ none. refl) (omega arith) (record { within = longer x; same = front x }) (refl, tt)
  where
    longer : (x : List ℕ) → length text_of_first ≤ length (plain_text (with_failed_record (records_of (first_group ∷ [])) (Some x)))
    longer x =
        let more = begun_text (records_of (first_group ∷ [])) (Some x) in
        omega (arith, ap length more.1, length-append text_of_first more.0)

    front : (x : List ℕ) → take (length text_of_first) text_of_first ≡ take (length text_of_first) (plain_text (with_failed_record (records_of (first_group ∷ [])) (Some x)))
    front x =
        let more = begun_text (records_of (first_group ∷ [])) (Some x) in
        take-length text_of_first ∙ sym (take-append_seam text_of_first more.0) ∙ sym (ap (take (length text_of_first)) more.1)

pub written_before_the_sync : (x : List ℕ) → HoldLogs (Some x) ((first_group ∷ []) ∷ []) (held_up_to_its_end text_of_first ∷ held_up_to_its_end (zeros 1) ∷ []) → ⊥
written_before_the_sync x hold =
    let none : 0 ∷ [] ≡ [] = none_held (Some x) _ _ _ hold in
    absurd (cc none)

-- when a log is left
none_filled : (limit left : ℕ) → AreFilledTo limit left [] → ⊥
none_filled limit left filled = elim filled [ ]

last_had_room : (limit left : ℕ) (r : List (List ℕ)) → AreFilledTo limit left (r ∷ []) → 0 < left → HadRoom limit r
last_had_room limit left r (AreFilledTo.last_one room) = room
last_had_room limit left r (AreFilledTo.full enough room rest) = absurd (none_filled limit left rest)

first_is_full : (limit left : ℕ) (r s : List (List ℕ)) → AreFilledTo limit left (r ∷ s ∷ []) → limit ≤ length (plain_text r)
first_is_full limit left r s (AreFilledTo.full enough room rest) = enough

pub in_two : (left : ℕ) → AreFilledTo 24 left (map records_of in_two_logs)
in_two left = AreFilledTo.full (omega (arith, first_len)) (λ some. lit< tt) (AreFilledTo.last_one (λ more some. lit< tt))

pub in_the_last : AreFilledTo 24 0 (records_of two_groups ∷ [])
in_the_last = AreFilledTo.last_one (λ none. absurd (omega (arith, none)))

pub left_late : AreFilledTo 24 1 (records_of two_groups ∷ []) → ⊥
left_late filled =
    let few : length text_of_first < 24 = last_had_room 24 1 (records_of two_groups) filled (lit< tt) (lit< tt) in
    absurd (omega (arith, few, first_len))

pub left_early : AreFilledTo 25 0 (map records_of in_two_logs) → ⊥
left_early filled =
    let enough : 25 ≤ length text_of_first = first_is_full 25 0 _ _ filled in
    absurd (omega (arith, enough, first_len))
