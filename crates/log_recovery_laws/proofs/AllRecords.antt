-- A reader gets all records before the first damage, and each file gives exactly one list of them.
use Rattle.std.proofs.Common.{◌≡◌, ℕ, zero, suc, ◌+◌, ◌<◌, ◌≤◌, List, [], ◌∷◌, ◌++◌, length, take, Option, nat_lt, sym, subst, arith}
use Rattle.std.proofs.lemmas.Bool.{ltb-true, ltb-false}
use Rattle.model_base.specs.Log.{SpellsWhole, record_of}
use Rattle.model_base.specs.Reading.{end_of}
use Rattle.model_base.specs.Recovery.{IsRead}
use Rattle.log_laws.proofs.Next.{cases_bool}
use Rattle.log_laws.proofs.Synced.{spells_one}
use Rattle.log_recovery_laws.specs.Reads.{AreBytes, found, ended}
use Rattle.log_recovery_laws.proofs.Reading.{Result, reads_some, record_long}
use Rattle.log_recovery_laws.proofs.OneReading.{no_end}
use Rattle.log_recovery_laws.proofs.Spelled.{Begins, begins_none, begins_more, next_record}

abbrev pub AllRead : Option ℕ → List ℕ → Type 0
AllRead number file = (records : List (List ℕ)) × IsRead number file records

-- The next answer: with one more record the reader goes on, and at the end of reading it has all.
one_more : (number : Option ℕ) (file : List ℕ) (kept : ℕ) (records : List (List ℕ)) → Begins number file kept records
    → ((further : ℕ) (more : List (List ℕ)) → Begins number file further more → kept < further → AllRead number file) → Result number file kept → AllRead number file
one_more number file kept records b go_on (found start end bytes, is) =
    go_on (end_of number kept is.fragments) (records ++ record_of is.fragments ∷ []) (begins_more number file kept records is.fragments b is.one is.stand) (record_long number kept is.fragments is.one)
one_more number file kept records b go_on (ended at why, is) = (records, record { kept = kept; within = b.within; spelled = b.spelled; at = at; why = why; ends = is })

read_from : (number : Option ℕ) (file : List ℕ) → AreBytes file → (fuel kept : ℕ) (records : List (List ℕ)) → Begins number file kept records → length file < fuel + kept → AllRead number file
read_from number file are zero kept records b enough = absurd (omega (arith, enough, b.within))
read_from number file are (suc fuel) kept records b enough =
    one_more number file kept records b (λ further more begins less. read_from number file are fuel further more begins (omega (arith, enough, less))) (reads_some number file kept are)

pub all_read_some : (number : Option ℕ) (file : List ℕ) → AreBytes file → AllRead number file
all_read_some number file are = read_from number file are (suc (length file)) 0 [] (begins_none number file) (omega arith)

-- no other reading of the same file reaches further
no_further : (number : Option ℕ) (file : List ℕ) (records others : List (List ℕ)) (x : IsRead number file records) (y : IsRead number file others) → y.kept ≤ x.kept
no_further number file records others x y = cases_bool (nat_lt x.kept y.kept)
    (λ less.
    let next = next_record number file x.kept y.kept records others (record { within = x.within; spelled = x.spelled }) (record { within = y.within; spelled = y.spelled }) (ltb-true x.kept y.kept less) in
    absurd (no_end number file x.kept x.at x.why next.fs next.one next.stands x.ends))
    (λ not_less. ltb-false x.kept y.kept not_less)

pub all_read_one : (number : Option ℕ) (file : List ℕ) (records others : List (List ℕ)) → IsRead number file records → IsRead number file others → records ≡ others
all_read_one number file records others x y =
    let kept : x.kept ≡ y.kept = omega (arith, no_further number file records others x y, no_further number file others records y x) in
    spells_one number (take x.kept file) records others x.spelled (subst (λ n. SpellsWhole number (take n file) others) (sym kept) y.spelled)
