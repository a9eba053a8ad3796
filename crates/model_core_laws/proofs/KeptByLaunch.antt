-- Launching a group keeps the core's law.
use Rattle.std.proofs.Common.{◌≡◌, ℕ, true, List, [], ◌∷◌, filter, Contains, Some, ◌⊎◌, inl, inr, refl, ap, subst}
use Rattle.std.specs.List.{AllByRecursion}
use Rattle.model_base.specs.History.{Entry}
use Rattle.model_core.specs.Core.{Options, Writer, TablePhase, still, launched, published, State, leads, has_run, table_group}
use Rattle.model_core.specs.Step.{launch}
use Rattle.model_core.specs.CoreLaw.{IsCore, HasInserted, IsInsertedAhead}
use Rattle.model_core_laws.proofs.Lists.{all_weaker}
use Rattle.model_core_laws.proofs.Tables.{AddsNobody, when_some, some_led, with_table, keeps_with_table, parts_same}

-- nobody has inserted yet
none_inserted : (inserted : List Entry) (ws : List Writer) → AllByRecursion (HasInserted inserted (launched [] [])) ws
none_inserted inserted [] = tt
none_inserted inserted (w ∷ ws) = ((λ is. absurd (cc)), none_inserted inserted ws)

-- the law at a state whose table is still
launching : (o : Options) (s : State) (c : ℕ) → leads c (table_group o s) ≡ true → IsCore o (with_table s still) → IsCore o (with_table s (launched [] []))
launching o s c first core = record {
  once = core.once;
  clients = core.clients;
  led_is_first = core.led_is_first;
  single_stage = core.single_stage;
  unmarked = core.unmarked;
  counted = core.counted;
  alone = core.alone;
  one_log_flag = core.one_log_flag;
  is_history = core.is_history;
  assigned = core.assigned;
  front = core.front;
  is_boundary = core.is_boundary;
  ahead = core.ahead;
  in_table = core.in_table;
  from_entries = all_weaker _ _ (λ (x : Entry) h. (h.0, ahead_of x h.1)) s.inserted core.from_entries;
  is_table = (some_led c (table_group o s) first, tt, tt);
  has_inserted = none_inserted s.inserted (filter has_run (table_group o s));
  parts = core.parts;
  cut = core.cut;
  groups = core.groups;
  none_empty = core.none_empty;
  runs = core.runs;
  at_boundary = parts_same o _ _ _ _ _ refl core.at_boundary;
}
  where
    ahead_of : (x : Entry) → Contains core.front x ⊎ IsInsertedAhead still x → Contains core.front x ⊎ IsInsertedAhead (launched [] []) x
    ahead_of x (inl is) = inl is
    ahead_of x (inr never) = absurd never

pub kept_by_launch : (o : Options) (s t : State) (c : ℕ) → IsCore o s → launch o s c s.table ≡ Some t → IsCore o t × AddsNobody s t
kept_by_launch o s t c core e = by_phase s.table refl e
  where
    by_phase : (phase : TablePhase) → s.table ≡ phase → launch o s c phase ≡ Some t → IsCore o t × AddsNobody s t
    by_phase still is e =
        let h = when_some (leads c (table_group o s)) (with_table s (launched [] [])) t e in
        subst (λ (x : State). IsCore o x × AddsNobody s x) h.1
        (launching o s c h.0 (subst (IsCore o) (ap (with_table s) is) core), keeps_with_table s s.table (launched [] []) s.inserted s.last)
    by_phase (launched ins fin) is e = absurd (cc)
    by_phase published is e = absurd (cc)
