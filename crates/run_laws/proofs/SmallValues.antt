-- Each value of the map that a legal outcome of a generated script has is a number below 1000.
use Rattle.std.proofs.Common.{ℕ, ◌<◌, Bool, true, false, cond, List, [], ◌∷◌, sym, subst, arith}
use Rattle.std.specs.declared.cmp.Ordering.TheVariants.{Less, Equal, Greater}
use Rattle.std.specs.List.{AllByRecursion}
use Rattle.std.specs.Map.{remove_entry}
use Rattle.std.specs.BTreeMap.{insert_entry, is_at}
use Rattle.std.specs.Ordering.{match_ordering}
use Rattle.model_base.specs.Batch.{Record, value, deletion, single_deletion, log_data}
use Rattle.model_base.specs.declared.key.Key.{Key}
use Rattle.model_base.specs.Map.{Pairs, key_order, key_in, after_record, after_records}
use Rattle.model_base.specs.History.{Entry, map_over}
use Rattle.model_base.specs.Calls.{Outcome}
use Rattle.model_base.specs.Script.{value_of_digits}
use Rattle.model_base.specs.Trace.{Settings}
use Rattle.model_base.specs.Outcomes.{IsLegal}
use Rattle.model_base.specs.Generator.{script_of_seed}
use Rattle.run_laws.proofs.Progresses.{HasOnly}
use Rattle.run_laws.proofs.Drawn.{HoldsOfDrawn, value_of_digits-decimal}
use Rattle.run_laws.proofs.DrawnTranscripts.{all_drawn}

-- If each value that some records set has a property, a map whose values have it still does after these records

module _ (P : Key × List ℕ → Type 0) where
  inserted : (m : Pairs) (key : Key) (v : List ℕ) → AllByRecursion P m → ((k : Key) → P (k, v)) → AllByRecursion P (insert_entry key_order m key v)
  inserted [] key v a p = (p key, tt)
  inserted (e ∷ m) key v a p =
      elim (key_order key e.0) as (λ o. AllByRecursion P (match_ordering o ((key, v) ∷ e ∷ m) ((e.0, v) ∷ m) (e ∷ insert_entry key_order m key v))) [
        | Less ↦ (p key, a)
        | Equal ↦ (p e.0, a.1)
        | Greater ↦ (a.0, inserted m key v a.1 p)
      ]

  removed : (test : Key → Bool) (m : Pairs) → AllByRecursion P m → AllByRecursion P (remove_entry test m)
  removed test [] a = tt
  removed test (e ∷ m) a = elim (test e.0) as (λ b. AllByRecursion P (cond b m (e ∷ remove_entry test m))) [ true ↦ a.1 | false ↦ (a.0, removed test m a.1) ]

-- a value is a number below 1000
abbrev IsSmall : Key × List ℕ → Type 0
IsSmall p = value_of_digits p.1 < 1000

abbrev HasSmallValue : ℕ → Record → Type 0
HasSmallValue client (value family key v) = value_of_digits v < 1000
HasSmallValue client other = Unit {0}

small_record : (client : ℕ) (m : Pairs) (r : Record) → HasSmallValue client r → AllByRecursion IsSmall m → AllByRecursion IsSmall (after_record m r)
small_record client m (value family key v) small a = inserted IsSmall m (key_in family key) v a (λ k. small)
small_record client m (deletion family key) small a = removed IsSmall (is_at (key_order (key_in family key))) m a
small_record client m (single_deletion family key) small a = removed IsSmall (is_at (key_order (key_in family key))) m a
small_record client m (log_data blob) small a = a

small_records : (client : ℕ) (m : Pairs) (records : List Record) → AllByRecursion (HasSmallValue client) records → AllByRecursion IsSmall m → AllByRecursion IsSmall (after_records m records)
small_records client m [] small a = a
small_records client m (r ∷ records) small a = small_records client (after_record m r) records small.1 (small_record client m r small.0 a)

small_map : (m : Pairs) (entries : List Entry) → AllByRecursion (HasOnly HasSmallValue) entries → AllByRecursion IsSmall m → AllByRecursion IsSmall (map_over m entries)
small_map m [] small a = a
small_map m (e ∷ entries) small a = small_map (after_records m e.records) entries small.1 (small_records e.client m e.records small.0 a)

small_drawn : (client : ℕ) → HoldsOfDrawn HasSmallValue client
small_drawn client = record { deletions = λ n small. tt; values = λ n v small below. omega (arith, below, value_of_digits-decimal v (omega arith)) }

pub small_values : (seed clients batches ended : ℕ) (settings : Settings) (o : Outcome) → AllByRecursion IsSmall settings.opening → IsLegal settings ended (script_of_seed seed clients batches) o → AllByRecursion IsSmall o.state
small_values seed clients batches ended settings o small legal =
    let all = all_drawn seed clients batches ended settings o legal HasSmallValue (λ client some most. small_drawn client) in
    let before = subst (AllByRecursion IsSmall) (sym legal.legal.is_trace.opening) small in
    subst (AllByRecursion IsSmall) (sym legal.legal.state) (small_map legal.trace.opening legal.trace.entries all before)
