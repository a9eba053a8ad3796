-- The maps that commands and entries make.
use Rattle.std.proofs.Common.{◌≡◌, ℕ, zero, suc, ◌+◌, ◌-◌, ◌<◌, ◌≤◌, Bool, true, false, nat_le, cond, List, [], ◌∷◌, length, min, take, drop, take_while, map, fold, get_or, Some, refl, sym, ap, ◌∙◌, subst, arith}
use Rattle.std.specs.Prelude.{filter_map, slice_get}
use Rattle.std.specs.List.{AllByRecursion, prefix_len, take-map, drop-map}
use Rattle.std.specs.Option.{option_map_or}
use Rattle.std.proofs.lemmas.Option.{slice_get_read}
use Rattle.std.proofs.lemmas.Bool.{le-leb, leb-true}
use Rattle.std.proofs.lemmas.List.Folds.{fold-map, length-prefix_len}
use Rattle.std.proofs.lemmas.List.Sums.{fold-append, prefix_len-le-length}
use Rattle.std.proofs.Math.Seq.{take-add}
use Rattle.model_base.specs.Map.{Pairs, after_records}
use Rattle.model_base.specs.History.{Entry, last_of, map_of, map_over}
use Rattle.model_base.specs.Calls.{Command, add}
use Rattle.run_command_list.specs.declared.command_view.CommandView.{CommandView}
use Rattle.run_command_list.specs.Kinds.{record_added}
use Rattle.run_command_list.specs.Views.{command_of}
use Rattle.replay_plans.specs.declared.plan.ClientPlan.{ClientPlan}
use Rattle.replay_core.specs.Within.{IsWithinPlans}
use Rattle.replay_plans.specs.declared.plan.Lines.{Lines}
use Rattle.replay_plans.specs.Plans.{between, records_in, records_of}
use Rattle.replay_core.specs.Shown.{CoreEntry, shown_entry}
use Rattle.replay_schedules.specs.Maps.{records_added, IsMapOf, after_entries, after_line, map_up_to}
use Rattle.replay_schedules.specs.declared.reading.MapUpTo.{MapUpTo}

commands_written : (m : Pairs) (commands : List Command) → fold after_line m commands ≡ after_records m (filter_map record_added commands)
commands_written m [] = refl
commands_written m (add r ∷ commands) = commands_written (after_line m (add r)) commands
commands_written m (other ∷ commands) = commands_written m commands

pub lines_written : (m : Pairs) (lines : List CommandView) → fold (λ (p : Pairs) (v : CommandView). after_line p (command_of v)) m lines ≡ after_records m (records_added lines)
lines_written m lines = sym (fold-map after_line command_of m lines) ∙ commands_written m (map command_of lines)

-- a part of the code's lines has the commands of the same part of the plan
part_of : (lines : List CommandView) (plan : ClientPlan) (from to : ℕ) → map command_of lines ≡ plan → map command_of (between from to lines) ≡ between from to plan
part_of lines plan from to are =
    sym (take-map command_of (to - from) (drop from lines)) ∙ ap (take (to - from)) (sym (drop-map command_of from lines)) ∙ ap (between from to) are

-- what these lines add is the batch
pub batch_of : (plans : List ClientPlan) (client place : ℕ) (plan : ClientPlan) (lines : List CommandView) (batch : Lines) → client ≡ place + 1 → place < length plans → plan ≡ get_or plans place plan
    → map command_of lines ≡ plan → records_added (between batch.from batch.to lines) ≡ records_of plans client batch
batch_of plans client place plan lines batch number there is are =
    let k : client ≡ suc place = omega (arith, number) in
    let found : slice_get plans place ≡ Some plan = slice_get_read plans (length plans) place plan refl there is in
    ap (filter_map record_added) (part_of lines plan batch.from batch.to are)
    ∙ sym (ap (λ n. records_of plans n batch) k ∙ ap (λ o. option_map_or (λ p. records_in p batch) o []) found)

-- The entries up to a sequence

-- the last sequence of a run that isn't empty
run_end : (first last : ℕ) → first ≤ last → first + (last + 1 - first) - 1 ≡ last
run_end first last h = omega (arith, h)

prefix_shown : (plans : List ClientPlan) (at : ℕ) (es : List CoreEntry) → AllByRecursion (IsWithinPlans plans) es
    → prefix_len (λ (x : Entry). nat_le (last_of x) at) (map (shown_entry plans) es) ≡ prefix_len (λ (e : CoreEntry). nat_le e.run.last at) es
prefix_shown plans at [] within = refl
prefix_shown plans at (e ∷ es) within =
    ap (λ n. cond (nat_le n at) (1 + prefix_len (λ (x : Entry). nat_le (last_of x) at) (map (shown_entry plans) es)) 0) (run_end e.run.first e.run.last within.0.some)
    ∙ ap (λ n. cond (nat_le e.run.last at) (1 + n) 0) (prefix_shown plans at es within.1)

-- More entries

-- how many elements from the first on pass a test, counted on after `n` that pass it
prefix_past : {A : Type 0} (p : A → Bool) (xs : List A) (n : ℕ) → n ≤ prefix_len p xs → n + prefix_len p (drop n xs) ≡ prefix_len p xs
prefix_past p xs zero h = omega arith
prefix_past p [] (suc n) h = absurd (omega (arith, h))
prefix_past p (x ∷ xs) (suc n) h = by_case (p x) refl (prefix_past p xs n)
  where
    by_case : (b : Bool) → p x ≡ b → (n ≤ prefix_len p xs → n + prefix_len p (drop n xs) ≡ prefix_len p xs) → suc n + prefix_len p (drop n xs) ≡ prefix_len p (x ∷ xs)
    by_case true e others = let len : prefix_len p (x ∷ xs) ≡ 1 + prefix_len p xs = rw e refl in let past = others (omega (arith, h, len)) in omega (arith, past, len)
    by_case false e others = let len : prefix_len p (x ∷ xs) ≡ 0 = rw e refl in absurd (omega (arith, h, len))

-- at a later sequence the prefix isn't shorter
prefix_later : (a b : ℕ) (es : List CoreEntry) → a ≤ b → prefix_len (λ (e : CoreEntry). nat_le e.run.last a) es ≤ prefix_len (λ (e : CoreEntry). nat_le e.run.last b) es
prefix_later a b [] h = omega arith
prefix_later a b (e ∷ es) h = by_case (nat_le e.run.last a) refl (prefix_later a b es h)
  where
    by_case : (t : Bool) → nat_le e.run.last a ≡ t → prefix_len (λ (x : CoreEntry). nat_le x.run.last a) es ≤ prefix_len (λ (x : CoreEntry). nat_le x.run.last b) es → prefix_len (λ (x : CoreEntry). nat_le x.run.last a) (e ∷ es) ≤ prefix_len (λ (x : CoreEntry). nat_le x.run.last b) (e ∷ es)
    by_case true is others =
        let up_to = leb-true e.run.last a is in
        let len : prefix_len (λ (x : CoreEntry). nat_le x.run.last a) (e ∷ es) ≡ 1 + prefix_len (λ (x : CoreEntry). nat_le x.run.last a) es = rw is refl in
        let later : nat_le e.run.last b ≡ true = le-leb e.run.last b (omega (arith, up_to, h)) in
        let len_later : prefix_len (λ (x : CoreEntry). nat_le x.run.last b) (e ∷ es) ≡ 1 + prefix_len (λ (x : CoreEntry). nat_le x.run.last b) es = rw later refl in
        omega (arith, len, len_later, others)
    by_case false is others = let len : prefix_len (λ (x : CoreEntry). nat_le x.run.last a) (e ∷ es) ≡ 0 = rw is refl in omega (arith, len)

-- writing the first `n` entries makes their map
first_written : (plans : List ClientPlan) (es : List CoreEntry) (n : ℕ) → after_entries plans [] (take n es) ≡ map_of (take n (map (shown_entry plans) es))
first_written plans es n =
    sym (ap (map_over []) (take-map (shown_entry plans) n es) ∙ fold-map (λ (m : Pairs) (x : Entry). after_records m x.records) (shown_entry plans) [] (take n es))

-- The map has some entries up to a sequence, and those that it doesn't have up to a later sequence are written.
pub moved_on : (plans : List ClientPlan) (es : List CoreEntry) (entries : List Entry) (old new : MapUpTo) (at count : ℕ) (more : List CoreEntry) → AllByRecursion (IsWithinPlans plans) es → map (shown_entry plans) es ≡ entries
    → IsMapOf entries old → old.at ≤ at → count ≡ min old.count (length es) → more ≡ take_while (λ (e : CoreEntry). nat_le e.run.last at) (drop count es)
    → new.map ≡ after_entries plans old.map more → new.at ≡ at → new.count ≡ count + length more
    → (new.map ≡ map_up_to at entries) × IsMapOf entries new
moved_on plans es entries old new at count more within are is later count_was more_is written at_is count_is =
    let k : ℕ = prefix_len (λ (e : CoreEntry). nat_le e.run.last at) (drop count es) in
    let counted : length more ≡ k = ap length more_is ∙ length-prefix_len (λ (e : CoreEntry). nat_le e.run.last at) (drop count es) in
    let up_to : ℕ → ℕ = λ n. prefix_len (λ (e : CoreEntry). nat_le e.run.last n) es in
    let shown : (n : ℕ) → prefix_len (λ (x : Entry). nat_le (last_of x) n) entries ≡ up_to n = λ n. sym (ap (prefix_len (λ (x : Entry). nat_le (last_of x) n)) are) ∙ prefix_shown plans n es within in
    let some : old.count ≤ up_to at = let a = is.some in let b = shown old.at in let c = prefix_later old.at at es later in omega (arith, a, b, c) in
    let same : count ≡ old.count = let few = prefix_len-le-length (λ (e : CoreEntry). nat_le e.run.last at) es in omega (arith, count_was, some, few) in
    let within_count : count ≤ up_to at = omega (arith, some, same) in
    let whole : new.count ≡ up_to at = let past = prefix_past (λ (e : CoreEntry). nat_le e.run.last at) es count within_count in omega (arith, count_is, counted, past) in
    let before : old.map ≡ after_entries plans [] (take count es) =
    is.map ∙ ap (λ xs. map_of (take old.count xs)) (sym are) ∙ sym (first_written plans es old.count) ∙ ap (λ n. after_entries plans [] (take n es)) (sym same) in
    let all : new.map ≡ after_entries plans [] (take new.count es) =
    written ∙ ap (after_entries plans old.map) more_is ∙ ap (λ m. after_entries plans m (take k (drop count es))) before
    ∙ sym (fold-append (λ (m : Pairs) (e : CoreEntry). after_records m (records_of plans e.client e.batch)) [] (take count es) (take k (drop count es)))
    ∙ ap (after_entries plans []) (sym (take-add count k es)) ∙ ap (λ n. after_entries plans [] (take n es)) (omega (arith, count_is, counted)) in
    let map_is : new.map ≡ map_of (take new.count entries) = all ∙ first_written plans es new.count ∙ ap (λ xs. map_of (take new.count xs)) are in
    (map_is ∙ ap (λ n. map_of (take n entries)) (whole ∙ sym (shown at)), record { some = subst (λ n. new.count ≤ prefix_len (λ (x : Entry). nat_le (last_of x) n) entries) (sym at_is) (let s = shown at in omega (arith, whole, s)); map = map_is })
