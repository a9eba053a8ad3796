-- Publishing a group keeps the core's law.
use Rattle.std.proofs.Common.{◌≡◌, ℕ, ◌≤◌, Bool, true, false, if◌then◌else◌, ◌&&◌, length, List, [], ◌∷◌, ◌++◌, map, filter, Contains, Option, Some, None, ◌⊎◌, inl, inr, refl, ap, sym, ◌∙◌, subst, arith, append_assoc}
use Rattle.std.specs.List.{AllByRecursion, AllZip, flat_map, list_all}
use Rattle.std.proofs.lemmas.Bool.{and_parts}
use Rattle.std.proofs.lemmas.List.Elements.{filter-append, Contains-append_left, Contains-append_right, Contains-append_cases}
use Rattle.std.proofs.lemmas.List.{append-nil}
use Rattle.std.proofs.lemmas.List.Concat.{flat_map-append}
use Rattle.model_base.specs.Calls.{Reply, accepted}
use Rattle.model_base.specs.History.{Entry, IsHistory, last_sequence, last_of, logged_entries, is_logged}
use Rattle.model_core.specs.Core.{Options, Writer, TablePhase, still, launched, published, State, has_run, table_group, among, runners}
use Rattle.model_core.specs.Step.{publish, is_last, group_last}
use Rattle.model_core.specs.CoreLaw.{IsCore, HasInserted, IsInsertedAhead, IsLoggedAsOne, AreParts, IsEntryOf, is_logged_group, writers_in, hand_with_runs, unpublished_writers, unpublished_groups}
use Rattle.model_core_laws.proofs.Histories.{last_sequence_append, same_entry}
use Rattle.model_core_laws.proofs.Lists.{all_weaker, all_append, append_parts, zip_length, all_contained, all_at, contains_cases, zip_left, all_weaker_at}
use Rattle.model_core_laws.proofs.Tables.{AddsNobody, when_some, among_from_all, among_from_times, cut_ahead, times_among, times_here, times_cons, in_hand_once, with_table, keeps_with_table, groups_split, groups_cut, members, there, there_append, there_filtered, waiting_parts, waits_once}

-- a group ends where the last of its runs does
pub group_ends : (last : ℕ) (ws : List Writer) (xs : List Entry) → AllZip IsEntryOf (filter has_run ws) xs → group_last last ws ≡ last_sequence last xs
group_ends last [] [] z = refl
group_ends last [] (x ∷ xs) z = absurd z
group_ends last (w ∷ ws) xs z = by w.answer xs z (λ n ys. group_ends n ws ys)
  where
    by : (answer : Option Reply) (xs : List Entry) → AllZip IsEntryOf (filter has_run (record w { answer = answer } ∷ ws)) xs
        → ((n : ℕ) (ys : List Entry) → AllZip IsEntryOf (filter has_run ws) ys → group_last n ws ≡ last_sequence n ys)
        → group_last last (record w { answer = answer } ∷ ws) ≡ last_sequence last xs
    by (Some (accepted a b records)) [] z later = absurd z
    by (Some (accepted a b records)) (x ∷ xs) z later = let e : b ≡ last_of x = ends z.0.run in ap (λ n. group_last n ws) e ∙ later (last_of x) xs z.1
      where
        ends : Some (accepted a b records) ≡ Some (accepted x.first (last_of x) x.records) → b ≡ last_of x
        ends e = cc
    by (Some other) xs z later = later last xs z
    by None xs z later = later last xs z

-- a member's entry that was inserted is the member's in the history
gathered : (start : ℕ) (entries inserted : List Entry) → IsHistory start entries → AllByRecursion (λ x. Contains entries x) inserted
    → (ws : List Writer) (xs : List Entry) → AllZip IsEntryOf ws xs → AllByRecursion (λ w. (x : Entry) × IsEntryOf w x × Contains inserted x) ws → AllByRecursion (λ x. Contains entries x) xs
    → AllByRecursion (λ x. Contains inserted x) xs
gathered start entries inserted h from [] [] z has within = tt
gathered start entries inserted h from [] (x ∷ xs) z has within = absurd z
gathered start entries inserted h from (w ∷ ws) [] z has within = absurd z
gathered start entries inserted h from (w ∷ ws) (x ∷ xs) z has within = (
  subst (λ y. Contains inserted y) (same_entry start entries has.0.0 x h (all_at _ inserted has.0.0 from has.0.2) within.0 (begins has.0.0 has.0.1.run z.0.run)) has.0.2,
  gathered start entries inserted h from ws xs z.1 has.1 within.1,
)
  where
    begins : (y : Entry) → w.answer ≡ Some (accepted y.first (last_of y) y.records) → w.answer ≡ Some (accepted x.first (last_of x) x.records) → y.first ≡ x.first
    begins y a b = cc

-- a member's client is among the group's members at least once
pub member_there : (ws : List Writer) (w : Writer) → Contains ws w → 1 ≤ there w.client ws
member_there [] w (k, l, e) = absurd (omega arith)
member_there (v ∷ ws) w is = by (contains_cases v ws w is) (member_there ws w)
  where
    by : (v ≡ w) ⊎ Contains ws w → (Contains ws w → 1 ≤ there w.client ws) → 1 ≤ there w.client (v ∷ ws)
    by (inl here) later = subst (λ (u : Writer). 1 ≤ there u.client (v ∷ ws)) here (let e = times_here v.client (map (λ (u : Writer). u.client) ws) in omega arith)
    by (inr behind) later = let e = times_cons w.client v.client (map (λ (u : Writer). u.client) ws) in let f = later behind in omega arith

-- a client that has an entry after the group isn't in the group
no_member : (o : Options) (s : State) (x : Entry) (ws back : List Writer) (entries : List Entry) → IsCore o s
    → writers_in s.second ++ hand_with_runs s.log ≡ ws ++ back → 1 ≤ there x.client ws → AllZip IsEntryOf (filter has_run back) entries → Contains entries x → ⊥
no_member o s x ws back entries core split some zip is =
    let p = zip_left IsEntryOf (filter has_run back) entries x zip is in
    let behind : 1 ≤ there x.client (filter has_run back) = subst (λ n. 1 ≤ there n (filter has_run back)) (sym p.1.client) (member_there (filter has_run back) p.0 p.2) in
    let a = there_filtered x.client has_run back in
    let b = there_append x.client ws back in
    let d = ap (there x.client) split in
    let f = there_append x.client (writers_in s.second) (hand_with_runs s.log) in
    let g = in_hand_once x.client s.log in
    let e = waiting_parts x.client s in
    let n = waits_once o s x.client core in
    omega arith

all_passing : (p : ℕ → Bool) (cs : List ℕ) → list_all p cs ≡ true → AllByRecursion (λ c. p c ≡ true) cs
all_passing p [] h = tt
all_passing p (c ∷ cs) h = let a = and_parts (p c) (list_all p cs) h in (a.0, all_passing p cs a.1)

module _ (o : Options) (s : State) (ins fin : List ℕ) (done : list_all (λ c. among c fin) (runners (table_group o s)) ≡ true) (core : IsCore o (with_table s (launched ins fin))) where
  abbrev own : List Entry
  own = (cut_ahead o s ins fin core).front

  abbrev behind : List Entry
  behind = (cut_ahead o s ins fin core).back

  split : s.entries ≡ (core.front ++ own) ++ behind
  split = core.is_boundary.split ∙ (ap (λ xs. core.front ++ xs) (cut_ahead o s ins fin core).whole ∙ sym (append_assoc core.front own behind))

  -- each member has inserted its entry
  all_inserted : AllByRecursion (λ w. (x : Entry) × IsEntryOf w x × Contains s.inserted x) (members o s)
  all_inserted = all_weaker_at _ _ (members o s) inserted core.has_inserted
    where
      inserted : (w : Writer) → Contains (members o s) w → HasInserted s.inserted (launched ins fin) w → (x : Entry) × IsEntryOf w x × Contains s.inserted x
      inserted w is has =
          let runs = among_from_times w.client (runners (table_group o s)) (member_there (members o s) w is) in
          let finished = among_from_all (λ c. among c fin ≡ true) w.client (runners (table_group o s)) (all_passing (λ c. among c fin) (runners (table_group o s)) done) runs in
          has (among_from_all (λ c. among c ins ≡ true) w.client fin core.is_table.2 finished)

  own_in_entries : AllByRecursion (λ x. Contains s.entries x) own
  own_in_entries = all_weaker _ _ in_entries own (all_contained own)
    where
      in_entries : (x : Entry) → Contains own x → Contains s.entries x
      in_entries x is = subst (λ xs. Contains xs x) (sym split) (Contains-append_left (core.front ++ own) behind x (Contains-append_right core.front own x is))

  own_in_table : AllByRecursion (λ x. Contains s.inserted x) own
  own_in_table = gathered o.start s.entries s.inserted core.is_history (all_weaker _ _ (λ (x : Entry) h. h.0) s.inserted core.from_entries) (members o s) own (cut_ahead o s ins fin core).at_front all_inserted own_in_entries

  -- what is in the table is published
  now_published : (x : Entry) → Contains s.entries x × (Contains core.front x ⊎ IsInsertedAhead (launched ins fin) x) → Contains s.entries x × (Contains (core.front ++ own) x ⊎ IsInsertedAhead published x)
  now_published x (is, inl before) = (is, inl (Contains-append_left core.front own x before))
  now_published x (is, inr now) = (is, by (Contains-append_cases (core.front ++ own) behind x (subst (λ xs. Contains xs x) split is)))
    where
      member : 1 ≤ there x.client (table_group o s)
      member =
          let a = times_among x.client (runners (table_group o s)) (among_from_all (λ c. among c (runners (table_group o s)) ≡ true) x.client ins core.is_table.1 now) in
          let b = there_filtered x.client has_run (table_group o s) in
          omega arith

      by : Contains (core.front ++ own) x ⊎ Contains behind x → Contains (core.front ++ own) x ⊎ IsInsertedAhead published x
      by (inl front) = inl front
      by (inr back) = absurd (no_member o (with_table s (launched ins fin)) x (table_group o s) (unpublished_writers o s published) behind core (groups_split o s core.single_stage core.is_table.0) member (cut_ahead o s ins fin core).at_back back)

  -- the law at a state with a launched group
  publishing : IsCore o (record (with_table s published) { last = group_last s.last (table_group o s) })
  publishing = record {
    once = core.once;
    clients = core.clients;
    led_is_first = core.led_is_first;
    single_stage = core.single_stage;
    unmarked = core.unmarked;
    counted = core.counted;
    alone = core.alone;
    one_log_flag = core.one_log_flag;
    is_history = core.is_history;
    assigned = core.assigned;
    front = core.front ++ own;
    is_boundary = record {
      rest = behind;
      split = split;
      ends = (
          group_ends s.last (table_group o s) own (cut_ahead o s ins fin core).at_front
          ∙ (ap (λ n. last_sequence n own) core.is_boundary.ends ∙ sym (last_sequence_append o.start core.front own)));
    };
    ahead = (cut_ahead o s ins fin core).at_back;
    in_table = all_append _ core.front own core.in_table own_in_table;
    from_entries = all_weaker _ _ now_published s.inserted core.from_entries;
    is_table = core.is_table.0;
    has_inserted = all_weaker _ _ (λ (w : Writer) h. tt) (members o s) core.has_inserted;
    parts = core.parts;
    cut = core.cut;
    groups = core.groups;
    none_empty = core.none_empty;
    runs = core.runs;
    at_boundary = published_parts core.at_boundary.ahead core.at_boundary.all core.at_boundary.as_one core.at_boundary.split
        (subst (λ wss. AllZip (λ (ws : List Writer) (xs : List Entry). AllZip IsEntryOf (filter has_run ws) xs) wss core.at_boundary.ahead) (groups_cut o s core.single_stage core.is_table.0) core.at_boundary.each);
  }
    where
      -- the first group ahead is the published one
      published_parts : (ahead : List (List Entry)) → core.is_boundary.rest ≡ flat_map (λ p. p) ahead → AllByRecursion IsLoggedAsOne ahead → core.parts ≡ core.at_boundary.before ++ filter is_logged_group ahead
          → AllZip (λ (ws : List Writer) (xs : List Entry). AllZip IsEntryOf (filter has_run ws) xs) (table_group o s ∷ unpublished_groups o s published) ahead
          → AreParts o (record (with_table s published) { last = group_last s.last (table_group o s) }) (core.front ++ own) behind core.parts
      published_parts [] all as_one parts each = absurd each
      published_parts (x ∷ xs) all as_one parts each =
          let same_length : length own ≡ length x = sym (zip_length IsEntryOf (members o s) own (cut_ahead o s ins fin core).at_front) ∙ zip_length IsEntryOf (members o s) x each.0 in
          let same = append_parts own x behind (flat_map (λ p. p) xs) same_length (sym (cut_ahead o s ins fin core).whole ∙ all) in record {
            before = core.at_boundary.before ++ filter is_logged_group (x ∷ []);
            cut = filter-append (λ (e : Entry). is_logged e.flag) core.front own ∙ (ap (λ ys. ys ++ logged_entries own) core.at_boundary.cut
                ∙ (ap (λ ys. flat_map (λ p. p) core.at_boundary.before ++ ys) (ap logged_entries same.0 ∙ (as_one.0 ∙ one (is_logged_group x) refl))
                ∙ sym (flat_map-append (λ (p : List Entry). p) core.at_boundary.before (filter is_logged_group (x ∷ [])))));
            ahead = xs;
            each = each.1;
            all = same.1;
            as_one = as_one.1;
            split = parts ∙ (ap (λ ps. core.at_boundary.before ++ ps) (filter-append is_logged_group (x ∷ []) xs) ∙ sym (append_assoc core.at_boundary.before (filter is_logged_group (x ∷ [])) (filter is_logged_group xs)));
          }
        where
          one : (b : Bool) → is_logged_group x ≡ b → (if is_logged_group x then x else []) ≡ flat_map (λ p. p) (filter is_logged_group (x ∷ []))
          one true is = rw is (sym (append-nil x))
          one false is = rw is refl

pub kept_by_publish : (o : Options) (s t : State) (m : ℕ) → IsCore o s → publish o s m s.table ≡ Some t → IsCore o t × AddsNobody s t
kept_by_publish o s t m core e = by_phase s.table refl e
  where
    by_phase : (phase : TablePhase) → s.table ≡ phase → publish o s m phase ≡ Some t → IsCore o t × AddsNobody s t
    by_phase (launched ins fin) is e =
        let after = record (with_table s published) { last = group_last s.last (table_group o s) } in
        let h = when_some (is_last m fin && list_all (λ c. among c fin) (runners (table_group o s))) after t e in
        subst (λ (x : State). IsCore o x × AddsNobody s x) h.1
        (publishing o s ins fin (and_parts _ _ h.0).1 (subst (IsCore o) (ap (with_table s) is) core), keeps_with_table s s.table published s.inserted (group_last s.last (table_group o s)))
    by_phase still is e = absurd (cc)
    by_phase published is e = absurd (cc)
