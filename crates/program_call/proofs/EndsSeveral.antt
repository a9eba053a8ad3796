-- How a run over several logs ended, said of what is known of its logs.
use Rattle.std.proofs.Common.{◌≡◌, ℕ, ◌+◌, ◌-◌, ◌^◌, List, [], ◌∷◌, ◌++◌, length, Option, Some, None, IfSome, fold, min, refl, ap, sym, ◌∙◌, subst, arith}
use Rattle.std.specs.Prelude.{IsSome}
use Rattle.std.specs.List.{AllByRecursion, AllZip}
use Rattle.base_devices.specs.Disk.{Disk}
use Rattle.base_devices.specs.Faults.{count_in_all}
use Rattle.base_devices.specs.declared.disk.Disk.{Ghosts}
use Rattle.model_base.specs.Calls as calls
use Rattle.model_base.specs.History.{IsHistory}
use Rattle.model_base.specs.Outcomes.{IsLegal}
use Rattle.model_base.specs.Script.{Script}
use Rattle.model_base.specs.declared.options.Options.{Options}
use Rattle.log_writer.specs.SetOpening.{HasFirstBytes, IsEmpty}
use Rattle.run_execution.specs.declared.end.RunEnd.{RunEnd}
use Rattle.run_execution.specs.declared.end.RunEnd.TheVariants as end
use Rattle.run_execution.specs.SetEnds.{EndsOnSet, HasSetOutcome, SetExecution, set_execution_on}
use Rattle.program_call.specs.Logs.{LogsOfRun}
use Rattle.program_call.specs.SeveralLogs.{HaveBytes, logs_of_run}
use Rattle.program_call.specs.Outcomes.{AcceptsCommits, GivesUpdates}
use Rattle.program_call.proofs.Endings.{EndsOver, RanSo}
use Rattle.program_call.proofs.ReadFaults.{rose_in_run}

-- disks that have each counted none have counted none in all

sums : {D : Type 0} (faults : D → ℕ) (n : ℕ) (olds news : List D) → AllZip (λ old new. faults new ≡ faults old) olds news → fold (λ (a : ℕ) (x : D). a + faults x) n news ≡ fold (λ (a : ℕ) (x : D). a + faults x) n olds
sums faults n [] [] same = refl
sums faults n [] (new ∷ news) same = absurd same
sums faults n (old ∷ olds) [] same = absurd same
sums {D} faults n (old ∷ olds) (new ∷ news) same =
    ap (λ (m : ℕ). fold (λ (a : ℕ) (x : D). a + faults x) (n + m) news) same.0 ∙ sums faults (n + faults old) olds news same.1

pub same_count : {D : Type 0} (faults : D → ℕ) (olds news : List D) → AllZip (λ old new. faults new ≡ faults old) olds news → count_in_all faults news ≡ count_in_all faults olds
same_count faults olds news same = ap (λ n. min n (2 ^ 64 - 1)) (sums faults 0 olds news same)

-- what holds of all holds of one in the middle
in_middle : {D : Type 0} (P : D → Type 0) (front : List D) (x : D) (back : List D) → AllByRecursion P (front ++ x ∷ back) → P x
in_middle P [] x back all = all.0
in_middle P (y ∷ front) x back all = in_middle P front x back all.1

unfit : (told : Option Disk) (len : ℕ) → IsSome told → IfSome told (λ d. length d.content ≡ len) → IfSome told (λ d. d.content ≡ []) → len ≡ 0
unfit None len some is empty = absurd (cc some)
unfit (Some d) len some is empty = sym is ∙ ap length empty

module _ {D : Type 0} (disk : Ghosts D) (options : Options) (limit : ℕ) (opened ended : List D) where
  abbrev logs : LogsOfRun
  logs = logs_of_run disk options limit opened ended

  first_fits : (len : ℕ) (found : HasFirstBytes disk opened len) → logs.told → logs.fit → ⊥
  first_fits len found told fit =
      let one = in_middle (λ d. IsSome (disk.told d)) found.empty found.first found.later (subst (AllByRecursion (λ d. IsSome (disk.told d))) found.cut told) in
      let none = in_middle (IsEmpty disk) found.empty found.first found.later (subst (AllByRecursion (IsEmpty disk)) found.cut fit) in
      let zero = unfit (disk.told found.first) len one found.len_is none in
      let some = found.some in
      omega (arith, zero, some)

  pub no_bytes : (len : ℕ) → HaveBytes disk options limit opened ended len → logs.told → logs.fit → ⊥
  no_bytes len have told fit = first_fits len have.first told fit

  -- the call should run this script
  module _ (script : Script) where
    abbrev execution : SetExecution
    execution = set_execution_on disk options limit script opened ended

    -- the laws by which commits are accepted, and reads of the log give its records
    abbrev pub Law : Type 0
    Law = (o : calls.Outcome) → IsLegal execution.settings (count_in_all disk.faults ended) script o → AcceptsCommits execution.settings script o × GivesUpdates o

    ran_so : Law → (o : calls.Outcome) → HasSetOutcome disk opened ended execution o → RanSo logs script o
    ran_so law o has =
        let run = has.run in
        let legal = run.legal in
        let begun = run.trace.start in
        let holds = law o (record { trace = run.trace; attempts = run.attempts; legal = legal }) in
        record {
          ran = record {
            is_outcome = has;
            accepts = holds.0;
            gives = holds.1;
          };
          begun = begun;
          history = subst (λ entries. IsHistory begun entries) (sym legal.history) legal.is_trace.entries;
          fit = has.logs.found_empty;
          counted = λ none. has.counted none.0 none.1;
          rose = rose_in_run execution.settings (count_in_all disk.faults ended) script run.trace run.attempts o legal;
        }

    pub set_ends : Law → (e : RunEnd) → EndsOnSet disk options limit script opened ended e → EndsOver logs script e
    set_ends law (end.DiskFault count) ends = (ends.0, (ends.1, ends.2))
    set_ends law (end.NotEmpty len) ends = (record { first = ends.0; alone = ends.1 }, ends.1, same_count disk.faults opened ended ends.2)
    set_ends law (end.Damage at why) ends = absurd ends
    set_ends law (end.Family family) ends = absurd ends
    set_ends law end.NoMemory ends = ends
    set_ends law end.NoOutcome (o, has) = (o, ran_so law o has)
    set_ends law (end.Ran shown) (o, has, shows) = (o, ran_so law o has, shows)
