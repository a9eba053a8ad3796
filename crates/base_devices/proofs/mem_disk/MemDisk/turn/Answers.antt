use Rattle.std.proofs.Common.{◌≡◌, ◌-◌, ◌≤◌, ℕ, Bool, true, false, not, IsTrue, List, length, take, drop, map, refl, sym, ◌∙◌, ap, subst, arith}
use Rattle.std.specs.Prelude.{All}
use Rattle.std.proofs.lemmas.List.{take_rest, length-map, with_items_is}
use Rattle.base_devices.specs.declared.mem_disk.Era.{Era}
use Rattle.base_devices.specs.Eras.{set_out_era}
use Rattle.base_devices.proofs.Turning.{placed_out}
use Rattle.base_devices.proofs.mem_disk.MemDisk.turn.Goals as goal
use Rattle.base_devices.proofs.mem_disk.MemDisk.turn.Goals.{then-self, else-self}

pub invariant_of-self-clause-past_placed : goal.invariant_of-self-clause-past_placed
invariant_of-self-clause-past_placed c =
    let past = c.args.self.now.past in
    let eras : List Era = c.set_out-kept.new.eras in
    let set : eras ≡ map set_out_era past.items = c.set_out-kept.ensures.set ∙ ap (map set_out_era) c.deref_mut.ensures.value in
    let same : length eras ≡ past.len = omega (arith, ap length set, length-map past.items set_out_era, past.ok.0) in
    placed_out past.items _ (with_items_is past eras same ∙ set)

pub invariant_of-self-clause-behind : goal.invariant_of-self-clause-behind
invariant_of-self-clause-behind c =
    let content : List ℕ = c.args.self.now.content.items in
    let is : c.copy_over.new.to.items ≡ content = c.copy_over.ensures.bytes ∙ c.deref.ensures.value in
    sym (ap (λ (l : List ℕ). take (length content - 0) (drop 0 l)) is ∙ take_rest content 0)

kept_by : (kept forgot : Bool) → forgot ≡ not kept → forgot ≡ false → IsTrue kept
kept_by true forgot is told = refl
kept_by false forgot is told = absurd (cc)

forgot_by : (kept forgot : Bool) → forgot ≡ not kept → IsTrue kept → forgot ≡ false
forgot_by true forgot is all = is
forgot_by false forgot is all = absurd (cc)

pub returns-clause-turned : goal.returns-clause-turned
returns-clause-turned c =
    let past = c.args.self.now.past in
    let eras : List Era = c.set_out-kept.new.eras in
    let set : eras ≡ map set_out_era past.items = c.set_out-kept.ensures.set ∙ ap (map set_out_era) c.deref_mut.ensures.value in
    let same : length eras ≡ past.len = omega (arith, ap length set, length-map past.items set_out_era, past.ok.0) in
    record {
      before = c.copy_over.ensures.bytes ∙ c.deref.ensures.value;
      past = with_items_is past eras same ∙ set;
      forgot = λ told. elim c.if-self.branch [
        | then-self w ↦ absurd (cc)
        | else-self w ↦ (w.if-self.false, subst (All (λ (era : Era). era.synced ≤ era.place)) c.deref_mut.ensures.value (c.set_out-kept.ensures.kept (kept_by _ _ w.self-is told)))
      ];
      remembers = λ all. elim c.if-self.branch [
        | then-self w ↦ w.self-is
        | else-self w ↦ forgot_by _ _ w.self-is (c.set_out-kept.ensures.all_kept (subst (All (λ (era : Era). era.synced ≤ era.place)) (sym c.deref_mut.ensures.value) all)) ∙ sym w.if-self.false
      ];
    }
