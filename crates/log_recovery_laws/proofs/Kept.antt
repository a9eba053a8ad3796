-- What is kept of a file: when one more record is kept, and when no more is.
use Rattle.std.proofs.Common.{Option, ◌≡◌, ℕ, ◌<◌, ◌≤◌, List, [], ◌∷◌, ◌++◌, map, nat_lt, refl, sym, ◌∙◌, ap, subst}
use Rattle.std.proofs.lemmas.Bool.{ltb-true, ltb-false}
use Rattle.std.proofs.lemmas.List.{map-append}
use Rattle.std.specs.List.{AllByRecursion}
use Rattle.model_base.specs.Batch.{Record, IsBatch}
use Rattle.model_base.specs.Log.{Fragment, AreOneRecord, kinds_of, record_of, SpellsWhole}
use Rattle.model_base.specs.Reading.{end_of, HasFragments}
use Rattle.model_base.specs.Recovery.{Logged, logged_bytes, last_after, MayFollow, AreInOrder, last_sequence, Keeps}
use Rattle.log_batch.proofs.OneAnswer.{one_batch}
use Rattle.log_laws.proofs.Next.{cases_bool}
use Rattle.log_recovery_laws.proofs.Spelled.{Begins, begins_none, all_more, begins_more, next_record}

abbrev pub AreBatches : List Logged → Type 0
AreBatches bs = AllByRecursion (λ b. IsBatch (logged_bytes b) b.first b.records) bs

in_order_more : (last : ℕ) (bs : List Logged) (b : Logged) → AreInOrder last bs → MayFollow (last_sequence last bs) b → AreInOrder last (bs ++ b ∷ [])
in_order_more last [] b ordered may = (may, tt)
in_order_more last (c ∷ cs) b ordered may = (ordered.0, in_order_more (last_after last c) cs b ordered.1 may)

-- With no records, nothing is kept.
pub keeps_none : (number : Option ℕ) (file : List ℕ) → Keeps number file 0 []
keeps_none number file = let b = begins_none number file in record { within = b.within; spelled = b.spelled; are_batches = tt; in_order = tt }

pub kept_begins : (number : Option ℕ) (file : List ℕ) (kept : ℕ) (bs : List Logged) → Keeps number file kept bs → Begins number file kept (map logged_bytes bs)
kept_begins number file kept bs keeps = record { within = keeps.within; spelled = keeps.spelled }

-- A batch that comes next in the file and may follow is kept too.
pub keeps_more : (number : Option ℕ) (file : List ℕ) (kept : ℕ) (bs : List Logged) (b : Logged) (fs : List Fragment) → Keeps number file kept bs → AreOneRecord (kinds_of fs) → HasFragments number file kept fs
    → record_of fs ≡ logged_bytes b → IsBatch (logged_bytes b) b.first b.records → MayFollow (last_sequence 0 bs) b → Keeps number file (end_of number kept fs) (bs ++ b ∷ [])
keeps_more number file kept bs b fs keeps one stands bytes is may =
    let more = begins_more number file kept (map logged_bytes bs) fs (kept_begins number file kept bs keeps) one stands in
    let records : map logged_bytes bs ++ record_of fs ∷ [] ≡ map logged_bytes (bs ++ b ∷ []) = ap (λ (l : List ℕ). map logged_bytes bs ++ l ∷ []) bytes ∙ sym (map-append logged_bytes bs (b ∷ [])) in
    record {
      within = more.within;
      spelled = subst (SpellsWhole number _) records more.spelled;
      are_batches = all_more (λ c. IsBatch (logged_bytes c) c.first c.records) bs b keeps.are_batches is;
      in_order = in_order_more 0 bs b keeps.in_order may;
    }

-- The bytes of a logged batch determine the batch.
one_logged : (b c : Logged) → IsBatch (logged_bytes b) b.first b.records → IsBatch (logged_bytes c) c.first c.records → logged_bytes b ≡ logged_bytes c → b ≡ c
one_logged b c is_b is_c same =
    let one = one_batch (logged_bytes b) b.first c.first b.records c.records is_b (subst (λ (bytes : List ℕ). IsBatch bytes c.first c.records) (sym same) is_c) in
    ap (λ (n : ℕ). record { first = n; records = b.records }) one.0 ∙ ap (λ (rs : List Record). record { first = c.first; records = rs }) one.1

-- So the bytes of several batches determine the batches.
pub same_logged : (bs cs : List Logged) → AreBatches bs → AreBatches cs → map logged_bytes bs ≡ map logged_bytes cs → bs ≡ cs
same_logged [] [] is_b is_c e = refl
same_logged [] (c ∷ cs) is_b is_c e = absurd (cc)
same_logged (b ∷ bs) [] is_b is_c e = absurd (cc)
same_logged (b ∷ bs) (c ∷ cs) is_b is_c e =
    let head : logged_bytes b ≡ logged_bytes c = cc in
    let tail : map logged_bytes bs ≡ map logged_bytes cs = cc in
    ap (λ (x : Logged). x ∷ bs) (one_logged b c is_b.0 is_c.0 head) ∙ ap (λ (l : List Logged). c ∷ l) (same_logged bs cs is_b.1 is_c.1 tail)

-- these bytes are a batch that may follow the last sequence
pub record MayBeKept (last : ℕ) (bytes : List ℕ) : Type 0 where
  pub batch : Logged
  pub same : logged_bytes batch ≡ bytes
  pub is : IsBatch (logged_bytes batch) batch.first batch.records
  pub may : MayFollow last batch

-- If batches in order begin with these, the one after these may follow them.
next_may : (last : ℕ) (bs cs : List Logged) (bytes : List ℕ) (more : List (List ℕ)) → map logged_bytes cs ≡ map logged_bytes bs ++ bytes ∷ more → AreBatches bs → AreBatches cs → AreInOrder last cs → MayBeKept (last_sequence last bs) bytes
next_may last bs [] bytes more e is_b is_c ordered = absurd (no_more bs e)
  where
    no_more : (bs : List Logged) → [] ≡ map logged_bytes bs ++ bytes ∷ more → ⊥
    no_more [] e = cc
    no_more (b ∷ bs) e = cc
next_may last [] (c ∷ cs) bytes more e is_b is_c ordered =
    let head : logged_bytes c ≡ bytes = cc in
    record { batch = c; same = head; is = is_c.0; may = ordered.0 }
next_may last (b ∷ bs) (c ∷ cs) bytes more e is_b is_c ordered =
    let head : logged_bytes c ≡ logged_bytes b = cc in
    let tail : map logged_bytes cs ≡ map logged_bytes bs ++ bytes ∷ more = cc in
    let same : c ≡ b = one_logged c b is_c.0 is_b.0 head in
    next_may (last_after last b) bs cs bytes more tail is_b.1 is_c.1 (subst (λ (x : Logged). AreInOrder (last_after last x) cs) same ordered.1)

-- what would be kept after the kept records: a record that comes next in the file, and is a batch that may follow
pub record KeptNext (number : Option ℕ) (file : List ℕ) (kept last : ℕ) : Type 0 where
  pub fs : List Fragment
  pub one : AreOneRecord (kinds_of fs)
  pub stands : HasFragments number file kept fs
  pub may : MayBeKept last (record_of fs)

-- where more than this is kept, there is such a record
pub more_kept : (number : Option ℕ) (file : List ℕ) (kept further : ℕ) (bs cs : List Logged) → Keeps number file kept bs → Keeps number file further cs → kept < further → KeptNext number file kept (last_sequence 0 bs)
more_kept number file kept further bs cs a b less =
    let next = next_record number file kept further (map logged_bytes bs) (map logged_bytes cs) (kept_begins number file kept bs a) (kept_begins number file further cs b) less in
    record { fs = next.fs; one = next.one; stands = next.stands; may = next_may 0 bs cs (record_of next.fs) next.more next.others_are a.are_batches b.are_batches b.in_order }

-- Where no record that may be kept comes next, no more is kept.
pub no_more_kept : (number : Option ℕ) (file : List ℕ) (kept : ℕ) (bs : List Logged) → Keeps number file kept bs → (KeptNext number file kept (last_sequence 0 bs) → ⊥)
    → (further : ℕ) (cs : List Logged) → Keeps number file further cs → further ≤ kept
no_more_kept number file kept bs keeps none further cs more =
    cases_bool (nat_lt kept further)
    (λ less. absurd (none (more_kept number file kept further bs cs keeps more (ltb-true kept further less))))
    (λ not_less. ltb-false kept further not_less)
