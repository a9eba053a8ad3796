-- Inserting a member's entry keeps the core's law.
use Rattle.std.proofs.Common.{◌≡◌, ℕ, ◌<◌, true, not, ◌&&◌, ◌==◌, nat_lt, List, [], ◌∷◌, ◌++◌, Contains, Some, ◌⊎◌, inl, inr, refl, ap, sym, ◌∙◌, subst}
use Rattle.std.proofs.lemmas.Bool.{and_parts, and_from, eqb-true, eq-eqb, lt-ltb}
use Rattle.std.proofs.lemmas.List.Elements.{Contains-append_left, Contains-append_right}
use Rattle.model_base.specs.History.{Entry, IsHistory, last_sequence}
use Rattle.model_core.specs.Core.{Options, Writer, TablePhase, still, launched, published, State, table_group, among, runners}
use Rattle.model_core.specs.Step.{insert, entry_ahead}
use Rattle.model_core.specs.CoreLaw.{IsCore, HasInserted, IsInsertedAhead, IsEntryOf}
use Rattle.model_core_laws.proofs.Histories.{history_above, history_right}
use Rattle.model_core_laws.proofs.Lists.{all_weaker, all_append, all_contained, zip_right, all_weaker_at, all_filtered, contains_filtered}
use Rattle.model_core_laws.proofs.Tables.{AddsNobody, when_some, among_push, among_last, among_cases, with_table, keeps_with_table, cut_ahead, members, parts_same}

-- a member's entry is above the published sequence
entry_of_member : (o : Options) (s : State) (ins fin : List ℕ) (w : Writer) → IsCore o (with_table s (launched ins fin)) → Contains (members o s) w → (x : Entry) × IsEntryOf w x × Contains s.entries x × (s.last < x.first)
entry_of_member o s ins fin w core is =
    let rest = core.is_boundary.rest in
    let parts = cut_ahead o s ins fin core in
    let found = zip_right IsEntryOf (members o s) parts.front w parts.at_front is in
    let there : Contains rest found.0 = subst (λ xs. Contains xs found.0) (sym parts.whole) (Contains-append_left parts.front parts.back found.0 found.2) in
    let behind = history_right o.start core.front rest (subst (IsHistory o.start) core.is_boundary.split core.is_history) in
    let past = history_above (last_sequence o.start core.front) rest found.0 behind there in (
      found.0,
      found.1,
      subst (λ xs. Contains xs found.0) (sym core.is_boundary.split) (Contains-append_right core.front rest found.0 there),
      subst (λ n. n < found.0.first) (sym core.is_boundary.ends) past,
    )

module _ (o : Options) (s : State) (m : ℕ) (ins fin : List ℕ) (is : among m (runners (table_group o s)) ≡ true) (core : IsCore o (with_table s (launched ins fin))) where
  older : (x : Entry) → Contains core.front x ⊎ IsInsertedAhead (launched ins fin) x → Contains core.front x ⊎ IsInsertedAhead (launched (ins ++ m ∷ []) fin) x
  older x (inl old) = inl old
  older x (inr old) = inr (among_push x.client m ins old)

  newer : (x : Entry) → Contains s.entries x → ((x.client == m) && nat_lt s.last x.first) ≡ true → Contains s.entries x × (Contains core.front x ⊎ IsInsertedAhead (launched (ins ++ m ∷ []) fin) x)
  newer x there passes = (there, inr (subst (λ n. among n (ins ++ m ∷ []) ≡ true) (sym (eqb-true x.client m (and_parts _ _ passes).0)) (among_last m ins)))

  -- a member that has inserted did so before, or does so now
  has : (w : Writer) → Contains (members o s) w → HasInserted s.inserted (launched ins fin) w → HasInserted (s.inserted ++ entry_ahead s m) (launched (ins ++ m ∷ []) fin) w
  has w member had now = by (among_cases w.client m ins now)
    where
      by : (among w.client ins ≡ true) ⊎ (m ≡ w.client) → (x : Entry) × IsEntryOf w x × Contains (s.inserted ++ entry_ahead s m) x
      by (inl before) = let p = had before in (p.0, p.1, Contains-append_left s.inserted (entry_ahead s m) p.0 p.2)
      by (inr same) =
          let p = entry_of_member o s ins fin w core member in
          let passes = and_from (p.0.client == m) (nat_lt s.last p.0.first) (eq-eqb p.0.client m (p.1.client ∙ sym same)) (lt-ltb s.last p.0.first p.3) in
          (p.0, p.1, Contains-append_right s.inserted (entry_ahead s m) p.0 (contains_filtered _ s.entries p.0 p.2 passes))

  -- the law at a state with a launched group
  inserting : IsCore o (record (with_table s (launched (ins ++ m ∷ []) fin)) { inserted = s.inserted ++ entry_ahead s m })
  inserting = record {
    once = core.once;
    clients = core.clients;
    led_is_first = core.led_is_first;
    single_stage = core.single_stage;
    unmarked = core.unmarked;
    counted = core.counted;
    alone = core.alone;
    one_log_flag = core.one_log_flag;
    is_history = core.is_history;
    assigned = core.assigned;
    front = core.front;
    is_boundary = core.is_boundary;
    ahead = core.ahead;
    in_table = all_weaker _ _ (λ (x : Entry) h. Contains-append_left s.inserted (entry_ahead s m) x h) core.front core.in_table;
    from_entries = (
        all_append _ s.inserted (entry_ahead s m)
        (all_weaker _ _ (λ (x : Entry) h. (h.0, older x h.1)) s.inserted core.from_entries)
        (all_filtered _ _ s.entries (all_weaker _ _ newer s.entries (all_contained s.entries))));
    is_table = (
      core.is_table.0,
      all_append _ ins (m ∷ []) core.is_table.1 (is, tt),
      all_weaker _ _ (λ (c : ℕ) h. among_push c m ins h) fin core.is_table.2,
    );
    has_inserted = all_weaker_at _ _ (members o s) has core.has_inserted;
    parts = core.parts;
    cut = core.cut;
    groups = core.groups;
    none_empty = core.none_empty;
    runs = core.runs;
    at_boundary = parts_same o _ _ _ _ _ refl core.at_boundary;
  }

pub kept_by_insert : (o : Options) (s t : State) (m : ℕ) → IsCore o s → insert o s m s.table ≡ Some t → IsCore o t × AddsNobody s t
kept_by_insert o s t m core e = by_phase s.table refl e
  where
    by_phase : (phase : TablePhase) → s.table ≡ phase → insert o s m phase ≡ Some t → IsCore o t × AddsNobody s t
    by_phase (launched ins fin) is e =
        let after = record (with_table s (launched (ins ++ m ∷ []) fin)) { inserted = s.inserted ++ entry_ahead s m } in
        let h = when_some (among m (runners (table_group o s)) && not (among m ins)) after t e in
        subst (λ (x : State). IsCore o x × AddsNobody s x) h.1
        (inserting o s m ins fin (and_parts _ _ h.0).0 (subst (IsCore o) (ap (with_table s) is) core), keeps_with_table s s.table (launched (ins ++ m ∷ []) fin) (s.inserted ++ entry_ahead s m) s.last)
    by_phase still is e = absurd (cc)
    by_phase published is e = absurd (cc)
