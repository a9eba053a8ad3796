-- Finishing a member's part keeps the core's law.
use Rattle.std.proofs.Common.{◌≡◌, ℕ, true, not, ◌&&◌, List, [], ◌∷◌, ◌++◌, Some, refl, ap, subst}
use Rattle.std.proofs.lemmas.Bool.{and_parts}
use Rattle.model_core.specs.Core.{Options, TablePhase, still, launched, published, State, among}
use Rattle.model_core.specs.Step.{finish}
use Rattle.model_core.specs.CoreLaw.{IsCore}
use Rattle.model_core_laws.proofs.Lists.{all_append}
use Rattle.model_core_laws.proofs.Tables.{AddsNobody, when_some, with_table, keeps_with_table, parts_same}

-- the law at a state with a launched group
finishing : (o : Options) (s : State) (m : ℕ) (ins fin : List ℕ) → among m ins ≡ true → IsCore o (with_table s (launched ins fin)) → IsCore o (with_table s (launched ins (fin ++ m ∷ [])))
finishing o s m ins fin is core = record {
  once = core.once;
  clients = core.clients;
  led_is_first = core.led_is_first;
  single_stage = core.single_stage;
  unmarked = core.unmarked;
  counted = core.counted;
  alone = core.alone;
  one_log_flag = core.one_log_flag;
  is_history = core.is_history;
  assigned = core.assigned;
  front = core.front;
  is_boundary = core.is_boundary;
  ahead = core.ahead;
  in_table = core.in_table;
  from_entries = core.from_entries;
  is_table = (core.is_table.0, core.is_table.1, all_append (λ c. among c ins ≡ true) fin (m ∷ []) core.is_table.2 (is, tt));
  has_inserted = core.has_inserted;
  parts = core.parts;
  cut = core.cut;
  groups = core.groups;
  none_empty = core.none_empty;
  runs = core.runs;
  at_boundary = parts_same o _ _ _ _ _ refl core.at_boundary;
}

pub kept_by_finish : (o : Options) (s t : State) (m : ℕ) → IsCore o s → finish s m s.table ≡ Some t → IsCore o t × AddsNobody s t
kept_by_finish o s t m core e = by_phase s.table refl e
  where
    by_phase : (phase : TablePhase) → s.table ≡ phase → finish s m phase ≡ Some t → IsCore o t × AddsNobody s t
    by_phase (launched ins fin) is e =
        let h = when_some (among m ins && not (among m fin)) (with_table s (launched ins (fin ++ m ∷ []))) t e in
        subst (λ (x : State). IsCore o x × AddsNobody s x) h.1
        (finishing o s m ins fin (and_parts _ _ h.0).0 (subst (IsCore o) (ap (with_table s) is) core), keeps_with_table s s.table (launched ins (fin ++ m ∷ [])) s.inserted s.last)
    by_phase still is e = absurd (cc)
    by_phase published is e = absurd (cc)
