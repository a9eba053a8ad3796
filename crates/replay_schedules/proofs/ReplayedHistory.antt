-- The history of the core is that of the machine.
use Rattle.std.proofs.Common.{◌≡◌, ℕ, ◌+◌, ◌-◌, ◌<◌, ◌≤◌, List, [], ◌∷◌, ◌++◌, length, map, take, get_or, refl, ap, sym, ◌∙◌, subst, arith, append_assoc, append-nil}
use Rattle.std.specs.Prelude.{filter_map}
use Rattle.std.specs.List.{AllByRecursion, AllZip}
use Rattle.std.specs.Option.{option_map_or}
use Rattle.std.proofs.lemmas.List.{take_more, map-append}
use Rattle.std.proofs.lemmas.List.Elements.{filter_map-append}
use Rattle.model_base.specs.Batch.{Record}
use Rattle.model_base.specs.History as history
use Rattle.log_batch.specs.Contents.{Contents, with_addition, with_additions}
use Rattle.model_base.specs.Calls.{Command, add}
use Rattle.run_command_list.specs.declared.command_view.CommandView.{CommandView}
use Rattle.run_command_list.specs.Kinds.{record_added}
use Rattle.run_command_list.specs.Views.{command_of}
use Rattle.replay_plans.specs.declared.plan.ClientPlan.{ClientPlan}
use Rattle.replay_core.specs.Shown.{CoreEntry, shown_entry}
use Rattle.replay_core.specs.Within.{IsWithinPlans}
use Rattle.replay_schedules.specs.Maps.{records_added}
use Rattle.run_outcome.specs.Shows.{ShowsEntry}
use Rattle.replay_schedules.specs.Replaying.{entry_by}

-- the last sequence of a run that isn't empty
run_end : (first last : ℕ) → first ≤ last → first + (last + 1 - first) - 1 ≡ last
run_end first last some = omega (arith, some)

entries_shown : (plans : List ClientPlan) (es : List CoreEntry) → AllByRecursion (IsWithinPlans plans) es → AllZip ShowsEntry (map (entry_by plans) es) (map (shown_entry plans) es)
entries_shown plans [] within = tt
entries_shown plans (e ∷ es) within = (record { client = refl; ordinal = refl; first = refl; last = run_end e.run.first e.run.last within.0.some; flag = refl; batch = refl }, entries_shown plans es within.1)

pub history_shown : (plans : List ClientPlan) (es : List CoreEntry) (entries : List history.Entry) → AllByRecursion (IsWithinPlans plans) es → map (shown_entry plans) es ≡ entries
    → AllZip ShowsEntry (map (entry_by plans) es) entries
history_shown plans es entries within are = subst (AllZip ShowsEntry (map (entry_by plans) es)) are (entries_shown plans es within)

-- what a line adds comes after the other records
line_added : (begin : Contents) (rs : List Record) (x : Command) → option_map_or (with_addition (with_additions begin rs)) (record_added x) (with_additions begin rs) ≡ with_additions begin (rs ++ filter_map record_added (x ∷ []))
line_added begin rs (add r) = ap (λ (all : List Record). record begin { records = all }) (append_assoc begin.records rs (r ∷ []))
line_added begin rs other = ap (with_additions begin) (sym (append-nil rs))

-- one line more
pub line_more : (lines : List CommandView) (i : ℕ) (x : CommandView) (begin old new : Contents) → i < length lines → x ≡ get_or lines i x → old ≡ with_additions begin (records_added (take i lines))
    → new ≡ option_map_or (with_addition old) (record_added (command_of x)) old → new ≡ with_additions begin (records_added (take (i + 1) lines))
line_more lines i x begin old new here is so_far e =
    let more : records_added (take (i + 1) lines) ≡ records_added (take i lines) ++ filter_map record_added (command_of x ∷ []) =
    ap records_added (take_more lines i x here ∙ ap (λ y. take i lines ++ y ∷ []) (sym is)) ∙ ap (filter_map record_added) (map-append command_of (take i lines) (x ∷ []))
    ∙ filter_map-append record_added (map command_of (take i lines)) (command_of x ∷ []) in
    e ∙ ap (λ (b : Contents). option_map_or (with_addition b) (record_added (command_of x)) b) so_far ∙ line_added begin (records_added (take i lines)) (command_of x) ∙ ap (with_additions begin) (sym more)
