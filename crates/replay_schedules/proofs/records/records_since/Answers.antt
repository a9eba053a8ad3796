use Rattle.std.proofs.Common.{◌≡◌, ℕ, ◌≤◌, ◌++◌, length, get_or, refl, ap, ◌∙◌, sym, subst, arith}
use Rattle.std.specs.List.{AllByRecursion}
use Rattle.model_base.specs.History.{RunsFollow}
use Rattle.model_core.specs.Core.{State, Options, log_groups}
use Rattle.model_core.specs.CoreLaw.{IsCore}
use Rattle.model_core_laws.proofs.ReadLog.{groups_are}
use Rattle.replay_core.specs.Shown.{plans_in}
use Rattle.replay_core.specs.Shows.{Shows}
use Rattle.replay_schedules.proofs.RecordLemmas.{left_at_first, next_group, records_more, records_all, given}
use Rattle.replay_schedules.proofs.records.records_since.Goals as goal

-- the groups of the log have runs that follow one another
runs_of : (o : Options) (s : State) → IsCore o s → AllByRecursion RunsFollow (log_groups s)
runs_of o s core = subst (AllByRecursion RunsFollow) (sym (groups_are s core.parts core.cut core.groups)) core.runs

pub loop-count-init : goal.loop-count-init
loop-count-init c = record {
  left = λ o s is_core shows. left_at_first (plans_in c.args.core.now) s.groups (log_groups s) c.entries-rest.result.now s.entries (c.entries-rest.ensures.shown o s shows) refl (c.entries-rest.ensures.within o s is_core shows);
  records_are = λ o s is_core shows. c.new-records.ensures;
}

pub loop-count-preserved : goal.loop-count-preserved
loop-count-preserved c =
    let i : ℕ = c.loop-count.count-index in
    let counts = c.logged-counts.result.now in
    let plans = plans_in c.args.core.now in
    let group = c.split_group.result.0.now in
    let behind = c.split_group.result.1.now in
    let next = λ (o : Options) (s : State) (is_core : IsCore o s) (shows : Shows c.args.core.now o s).
    (let same : counts ≡ s.groups = c.logged-counts.ensures o s shows in
    next_group plans s.groups (log_groups s) i c.loop-count.rest.now group behind (get_or counts i 0) (runs_of o s is_core)
    (omega (arith, ap length same)) (ap (λ ns. get_or ns i 0) same)
    (c.loop-count.invariant.left o s is_core shows) c.split_group.ensures.whole c.split_group.ensures.counted) in
    record {
      left = λ o s is_core shows. (next o s is_core shows).left;
      records_are = λ o s is_core shows.
          let n = next o s is_core shows in
          records_more plans c.args.since c.args.at (log_groups s) i group c.loop-count.records c.add_record.new.records n.taken (c.loop-count.invariant.records_are o s is_core shows) (c.in_ok-add_record.ensures n.within n.runs);
    }

pub returns : goal.returns
returns c = λ o s is_core shows.
    let counts = c.logged-counts.result.now in
    let same : counts ≡ s.groups = c.logged-counts.ensures o s shows in
    let past : length s.groups ≤ c.loop-count.count-index = omega (arith, ap length same) in
    c.loop-count.invariant.records_are o s is_core shows ∙ ap (given c.args.since c.args.at) (records_all (plans_in c.args.core.now) s.groups (log_groups s) c.loop-count.count-index c.loop-count.rest.now past (c.loop-count.invariant.left o s is_core shows))
