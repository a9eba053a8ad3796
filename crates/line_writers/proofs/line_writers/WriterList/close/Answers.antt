use Rattle.line_rule.specs.Laws.{given_runs}
use Rattle.std.proofs.Common.{◌≡◌, ℕ, ◌+◌, ◌≤◌, [], ◌∷◌, ◌++◌, length, reverse, sym, ap, ◌∙◌, subst, arith, length-append}
use mathlib.Core.Option.{some, some-injective}
use lib.ListN.{get_elem?}
use Rattle.std.specs.Slots.{slots_items}
use Rattle.line_rule.specs.declared.content.LineSlot.TheVariants.{Empty, TheLog, TheRight}
use Rattle.line_rule.specs.Rule.{logs_from, Merges}
use Rattle.line_rule.proofs.Opens.{closes}
use Rattle.line_writers.specs.Seats.{AllOut, AllThere, holds_of}
use Rattle.line_writers.proofs.Contents.{one_log, one_right}
use Rattle.line_writers.proofs.Closes.{holds_back, out_last, all_idle, merged}
use Rattle.line_writers.proofs.line_writers.WriterList.close.Goals as goal

pub join_all-requires-clause-first : goal.join_all-requires-clause-first
join_all-requires-clause-first g c =
    let table = c.args.self.table.shared.table_id in let x = out_last table c.pop.new.self.items c.in-Some.field-0 (subst (AllOut table) c.in-Some.ensures.items c.requires.out.0) in (x.0, x.1.1)

pub join_all-requires-clause-writers : goal.join_all-requires-clause-writers
join_all-requires-clause-writers g c =
    let table = c.args.self.table.shared.table_id in let x = out_last table c.pop.new.self.items c.in-Some.field-0 (subst (AllOut table) c.in-Some.ensures.items c.requires.out.0) in
    (x.2, (let l = c.pop.ensures.len in let k = c.requires.out.2 in omega (arith, ap length c.in-Some.ensures.items, length-append c.pop.new.self.items (c.in-Some.field-0 ∷ []))))

pub close_with-requires : goal.close_with-requires
close_with-requires g c = c.join_all.ensures.0 ∙ (out_last c.args.self.table.shared.table_id c.pop.new.self.items c.in-Some.field-0 (subst (AllOut c.args.self.table.shared.table_id) c.in-Some.ensures.items c.requires.out.0)).0

pub take_all-requires-clause-held : goal.take_all-requires-clause-held
take_all-requires-clause-held g c =
    let o = c.requires.out in let w = c.in-Some.field-0 in let rest = c.pop.new.self.items in let shared = c.args.self.table.shared in let all = c.args.writers.items in
    let key : ℕ = shared.key.clients in let same : key ≡ c.args.self.clients = c.args.self.sized.2 in
    let x = out_last shared.table_id rest w (subst (AllOut shared.table_id) c.in-Some.ensures.items o.0) in
    let view : c.join_all.new.first.me.0 ≡ reverse (holds_of all) = ap (λ m. m.0) c.join_all.ensures.1 ∙ (ap (λ l. l ++ reverse (holds_of rest)) x.1.0 ∙ (sym (holds_back rest w) ∙ ap (λ l. reverse (holds_of l)) (sym c.in-Some.ensures.items))) in
    let fin = c.close_with.ensures.values.2 in
    let k = closes _ _ fin.0 c.join_all.new.first.id c.join_all.new.first.me.0 fin.1.0 fin.1.1 (all_idle key all c.join_all.new.first.me.0 view (subst (λ (j : ℕ). AllThere j all) (sym same) o.1)) in
    let items = slots_items c.close_with.result.slots in
    let log_there : get_elem? items 0 ≡ some (TheLog k.log) = fin.4 0 (TheLog k.log) k.log_home in
    let right_there : get_elem? items (c.args.self.clients + 1) ≡ some (TheRight k.right) = subst (λ (j : ℕ). get_elem? items (j + 1) ≡ some (TheRight k.right)) same (fin.4 (key + 1) (TheRight k.right) k.right_home) in
    (k.log, k.right, log_there, right_there, λ i lo hi. fin.4 i Empty (k.others i lo (subst (λ (j : ℕ). i ≤ j) (sym same) hi)))

pub returns : goal.returns
returns g c =
    let o = c.requires.out in let w = c.in-Some.field-0 in let rest = c.pop.new.self.items in let shared = c.args.self.table.shared in let all = c.args.writers.items in
    let key : ℕ = shared.key.clients in let same : key ≡ c.args.self.clients = c.args.self.sized.2 in
    let x = out_last shared.table_id rest w (subst (AllOut shared.table_id) c.in-Some.ensures.items o.0) in
    let view : c.join_all.new.first.me.0 ≡ reverse (holds_of all) = ap (λ m. m.0) c.join_all.ensures.1 ∙ (ap (λ l. l ++ reverse (holds_of rest)) x.1.0 ∙ (sym (holds_back rest w) ∙ ap (λ l. reverse (holds_of l)) (sym c.in-Some.ensures.items))) in
    let fin = c.close_with.ensures.values.2 in
    let k = closes _ _ fin.0 c.join_all.new.first.id c.join_all.new.first.me.0 fin.1.0 fin.1.1 (all_idle key all c.join_all.new.first.me.0 view (subst (λ (j : ℕ). AllThere j all) (sym same) o.1)) in
    let items = slots_items c.close_with.result.slots in
    let log_there : get_elem? items 0 ≡ some (TheLog k.log) = fin.4 0 (TheLog k.log) k.log_home in
    let right_there : get_elem? items (c.args.self.clients + 1) ≡ some (TheRight k.right) = subst (λ (j : ℕ). get_elem? items (j + 1) ≡ some (TheRight k.right)) same (fin.4 (key + 1) (TheRight k.right) k.right_home) in
    let log_is : k.log ≡ c.take_all.result.0 = one_log k.log c.take_all.result.0 (some-injective (TheLog k.log) (TheLog c.take_all.result.0) (sym log_there ∙ c.take_all.ensures.0)) in
    let right_is : k.right ≡ c.take_all.result.1 = one_right k.right c.take_all.result.1 (some-injective (TheRight k.right) (TheRight c.take_all.result.1) (sym right_there ∙ c.take_all.ensures.1)) in
    (k.handled, subst (λ l. logs_from (g.Log.LogOfGroups.stands shared.key.about) (g.Log.LogOfGroups.kept shared.key.about) g.Log.LogOfGroups.number_of g.Reply.GivesRun.run_of shared.key.log l k.handled) log_is k.stood, (λ e. subst (λ r. g.Log.LogOfGroups.serves shared.key.about r []) right_is (subst (g.Log.LogOfGroups.serves shared.key.about k.right) (k.even.0 e) k.right_stood)), (λ e. subst (λ r. g.Log.LogOfGroups.serves shared.key.about r (given_runs g.Reply.GivesRun.run_of k.handled)) right_is (subst (g.Log.LogOfGroups.serves shared.key.about k.right) (k.even.1 e) k.right_stood)), merged k.handled all all (λ h has. has) (subst (Merges k.handled) view k.merges))
