-- What a log has as it is opened for a run, where that is known.
use Rattle.std.proofs.Common.{◌≡◌, ℕ, ◌≤◌, List, [], ◌∷◌, length, take, map, IfSome, Option, Some, None, refl, ap, sym, ◌∙◌, subst, arith}
use Rattle.std.specs.Prelude.{option_and_then}
use Rattle.std.specs.List.{AllByRecursion}
use Rattle.base_devices.specs.Disk.{Disk}
use Rattle.base_devices.specs.declared.disk.Disk.{Ghosts}
use Rattle.model_base.specs.Batch.{IsBatch}
use Rattle.model_base.specs.Log.{Beginning, SpellsWhole}
use Rattle.model_base.specs.Recovery.{AreInOrder, Logged, Recovered, last_sequence, logged_bytes}
use Rattle.log_writer.specs.declared.writer.LogWriter.{LogWriter}
use Rattle.log_writer.specs.declared.set.LogSet.{LogSet}
use Rattle.log_writer.specs.Opening.{HasOpened, HasReused, HasResumed}
use Rattle.log_writer.specs.ReadableLogs.{AreBatches, IsTextOf, IsTold, KeepsBatches, SetKeepsNone}
use Rattle.log_writer.specs.SetCrashes.{HasOpenedSet}
use Rattle.run_outcome.specs.declared.log_start.LogStart.{LogStart}
use Rattle.run_outcome.specs.declared.log_start.LogStart.TheVariants.{New, Over, Behind}
use Rattle.run_outcome.specs.Running.{Before, GoesOnFrom, RecoversTo, batches_told}
use Rattle.run_execution.specs.Ends.{HasOpenedAs}
use Rattle.run_execution.specs.SetEnds.{nothing_told}

-- what holds of batches that are known gives something else of them
pub if_known : (known : Option (List Logged)) (P Q : List Logged → Type 0) → ((batches : List Logged) → P batches → Q batches) → IfSome known P → IfSome known Q
if_known None P Q to p = tt
if_known (Some batches) P Q to p = to batches p

module _ {D : Type 0} {ghosts : Ghosts D} where
  -- the log had these batches and no others, in order and up to this sequence
  pub record HasThese (log : LogWriter D ghosts) (last : ℕ) (batches : List Logged) : Type 0 where
    pub keeps : KeepsBatches log batches
    pub are_batches : AllByRecursion (λ (b : Logged). IsBatch (logged_bytes b) b.first b.records) batches
    pub in_order : AreInOrder 0 batches
    pub up_to : last_sequence 0 batches ≤ last

  -- a log that begins anew has none
  has_none : (log : LogWriter D ghosts) (last : ℕ) → KeepsBatches log [] → HasThese log last []
  has_none log last keeps = record { keeps = keeps; are_batches = tt; in_order = tt; up_to = omega arith }

  module _ (opened_has : (disk : D) (log : LogWriter D ghosts) → IsTold ghosts disk → HasOpened disk log → KeepsBatches log []) (reused_has : (disk : D) (n : ℕ) (log : LogWriter D ghosts) → IsTold ghosts disk → HasReused disk n log → KeepsBatches log [])
      (resumed_has : (disk : D) (b : Beginning) (log : LogWriter D ghosts) (batches : List Logged) → IsTold ghosts disk → HasResumed disk (length b.kept) b.number log → IfSome (ghosts.told disk) (λ d. take (length b.kept) d.content ≡ b.kept) → IsTextOf b.number b.kept batches → AreBatches batches → KeepsBatches log batches) where
    recovered_has : (number : Option ℕ) (before : Before) (disk : D) (log : LogWriter D ghosts) (last : ℕ) (d : Disk) → ghosts.told disk ≡ Some d → RecoversTo number d.content before → HasOpenedAs (Behind number) before disk log → before.last ≤ last → HasThese log last before.batches
    recovered_has number before disk log last d told to has below =
        let r : Recovered = to.recovered in
        let keeps = (to.is).keeps in
        let spelled : SpellsWhole number before.kept (map logged_bytes r.batches) = subst (λ (l : List ℕ). SpellsWhole number l (map logged_bytes r.batches)) (sym to.kept) keeps.spelled in
        let text : IsTextOf number before.kept before.batches = subst (IsTextOf number before.kept) (sym to.batches) spelled in
        let are : AreBatches before.batches = subst AreBatches (sym to.batches) keeps.are_batches in
        let ends : last_sequence 0 before.batches ≡ before.last = ap (last_sequence 0) to.batches ∙ sym to.last in
        record {
          keeps = resumed_has disk (record { number = number; kept = before.kept }) log before.batches (d, told) has.0 has.1 text are;
          are_batches = are;
          in_order = subst (AreInOrder 0) (sym to.batches) keeps.in_order;
          up_to = omega (arith, ends, below);
        }

    pub has_these : (start : LogStart) (before : Before) (disk : D) (log : LogWriter D ghosts) (last : ℕ) → GoesOnFrom start (ghosts.told disk) before → HasOpenedAs start before disk log → before.last ≤ last
        → IfSome (batches_told (ghosts.told disk) before) (HasThese log last)
    has_these start before disk log last goes has below = by (ghosts.told disk) refl
      where
        these : (d : Disk) → ghosts.told disk ≡ Some d → (start : LogStart) → GoesOnFrom start (ghosts.told disk) before → HasOpenedAs start before disk log → HasThese log last before.batches
        these d told New goes has = subst (λ (b : Before). HasThese log last b.batches) (sym goes) (has_none log last (opened_has disk log (d, told) has))
        these d told (Over n) goes has = subst (λ (b : Before). HasThese log last b.batches) (sym goes) (has_none log last (reused_has disk n log (d, told) has))
        these d told (Behind number) goes has = recovered_has number before disk log last d told (subst (λ (t : Option Disk). IfSome t (λ e. RecoversTo number e.content before)) told goes) has below

        by : (told : Option Disk) → ghosts.told disk ≡ told → IfSome (batches_told told before) (HasThese log last)
        by None is = tt
        by (Some d) is = these d is start goes has

-- New logs have none, where their disks tell what they hold
module _ {D : Type 0} (ghosts : Ghosts D) where
  all_told : (disks : List D) (batches : List Logged) → nothing_told ghosts disks ≡ Some batches → AllByRecursion (IsTold ghosts) disks × (batches ≡ [])
  all_told [] batches is = (tt, cc is)
  all_told (disk ∷ disks) batches is = by (ghosts.told disk) refl (all_told disks batches) is
    where
      by : (told : Option Disk) → ghosts.told disk ≡ told → (nothing_told ghosts disks ≡ Some batches → AllByRecursion (IsTold ghosts) disks × (batches ≡ [])) → option_and_then (λ (d : Disk). nothing_told ghosts disks) told ≡ Some batches → AllByRecursion (IsTold ghosts) (disk ∷ disks) × (batches ≡ [])
      by None tells others none = absurd (cc none)
      by (Some d) tells others more = let rest = others more in (((d, tells), rest.0), rest.1)

  pub set_has_none : ((disks : List D) (set : LogSet D ghosts) → AllByRecursion (IsTold ghosts) disks → HasOpenedSet disks set → SetKeepsNone set []) → (disks : List D) (set : LogSet D ghosts) → HasOpenedSet disks set
      → IfSome (nothing_told ghosts disks) (λ batches. SetKeepsNone set batches × (batches ≡ []))
  set_has_none law disks set has = by (nothing_told ghosts disks) refl
    where
      by : (known : Option (List Logged)) → nothing_told ghosts disks ≡ known → IfSome known (λ batches. SetKeepsNone set batches × (batches ≡ []))
      by None is = tt
      by (Some batches) is = let t = all_told disks batches is in (subst (SetKeepsNone set) (sym t.1) (law disks set t.0 has), t.1)
