use Rattle.std.proofs.Common.{List, map, sym, ap, ◌∙◌, subst}
use Rattle.std.specs.List.{AllByRecursion}
use Rattle.model_base.specs.History.{IsHistory}
use Rattle.replay_core.specs.Shown.{CoreEntry, shown_entry}
use Rattle.replay_core.specs.Within.{IsWithinPlans}
use Rattle.replay_core.proofs.WithinLemmas.{history_within}
use Rattle.replay_core.proofs.ShowsLemmas.{mirrors}
use Rattle.replay_core.proofs.state.State.entries.Goals as goal

pub returns-clause-within : goal.returns-clause-within
returns-clause-within c = λ o s is_core shown.
    let m = mirrors c.args.self.now o s shown in
    let plans = c.args.self.now.plans.items in
    let P : List CoreEntry → Type 0 = λ xs. AllByRecursion (IsWithinPlans plans) xs in
    subst P (sym c.deref.ensures.value) (history_within plans o.start c.args.self.now.entries.items (subst (IsHistory o.start) m.entries is_core.is_history))

pub returns-clause-shown : goal.returns-clause-shown
returns-clause-shown c = λ o s shown.
    ap (map (shown_entry c.args.self.now.plans.items)) c.deref.ensures.value ∙ sym (mirrors c.args.self.now o s shown).entries
