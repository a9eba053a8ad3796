-- What calls wrote, when there is one call more.
use Rattle.std.proofs.Common.{◌≡◌, ℕ, zero, suc, ◌-◌, ◌≤◌, true, List, [], ◌∷◌, ◌++◌, length, drop, Option, Some, None, refl, sym, ◌∙◌, ap, subst, arith}
use Rattle.std.proofs.Math.ListN.{drop_of_length-le}
use Rattle.std.proofs.lemmas.List.{drop-drop}
use Rattle.std.specs.List.{AllByRecursion}
use Rattle.log_writer.specs.Adding.{GroupCall, record_of_call}
use Rattle.log_writer.specs.Written.{if_worked, first_fault, written_by, begun_by, HaveSynced}

-- Where no call failed, the first fault of all is that of the next call, if it has one.
pub first_more : (calls : List GroupCall) (c : GroupCall) → first_fault calls ≡ None → first_fault (calls ++ c ∷ []) ≡ c.failed
first_more [] c none = alone c.failed
  where
    alone : (f : Option ℕ) → if_worked f None f ≡ f
    alone None = refl
    alone (Some n) = refl
first_more (d ∷ calls) c none = with_failed d.failed none (first_more calls c)
  where
    with_failed : (f : Option ℕ) → if_worked f (first_fault calls) f ≡ None → (first_fault calls ≡ None → first_fault (calls ++ c ∷ []) ≡ c.failed) → if_worked f (first_fault (calls ++ c ∷ [])) f ≡ c.failed
    with_failed None none more = more none
    with_failed (Some n) none more = absurd (cc)

pub written_more : (calls : List GroupCall) (c : GroupCall) → first_fault calls ≡ None → written_by (calls ++ c ∷ []) ≡ written_by calls ++ if_worked c.failed (record_of_call c ∷ []) []
written_more [] c none = refl
written_more (d ∷ calls) c none = with_failed d.failed none (written_more calls c)
  where
    with_failed : (f : Option ℕ) → if_worked f (first_fault calls) f ≡ None → (first_fault calls ≡ None → written_by (calls ++ c ∷ []) ≡ written_by calls ++ if_worked c.failed (record_of_call c ∷ []) [])
        → if_worked f (record_of_call d ∷ written_by (calls ++ c ∷ [])) [] ≡ if_worked f (record_of_call d ∷ written_by calls) [] ++ if_worked c.failed (record_of_call c ∷ []) []
    with_failed None none more = ap (λ (l : List (List ℕ)). record_of_call d ∷ l) (more none)
    with_failed (Some n) none more = absurd (cc)

pub begun_more : (calls : List GroupCall) (c : GroupCall) → first_fault calls ≡ None → begun_by (calls ++ c ∷ []) ≡ written_by calls ++ record_of_call c ∷ []
begun_more [] c none = alone c.failed
  where
    alone : (f : Option ℕ) → record_of_call c ∷ if_worked f [] [] ≡ record_of_call c ∷ []
    alone None = refl
    alone (Some n) = refl
begun_more (d ∷ calls) c none = with_failed d.failed none (begun_more calls c)
  where
    with_failed : (f : Option ℕ) → if_worked f (first_fault calls) f ≡ None → (first_fault calls ≡ None → begun_by (calls ++ c ∷ []) ≡ written_by calls ++ record_of_call c ∷ [])
        → record_of_call d ∷ if_worked f (begun_by (calls ++ c ∷ [])) [] ≡ if_worked f (record_of_call d ∷ written_by calls) [] ++ record_of_call c ∷ []
    with_failed None none more = ap (λ (l : List (List ℕ)). record_of_call d ∷ l) (more none)
    with_failed (Some n) none more = absurd (cc)

-- and all that the calls began is written
pub begun_written : (calls : List GroupCall) → first_fault calls ≡ None → begun_by calls ≡ written_by calls
begun_written [] none = refl
begun_written (d ∷ calls) none = with_failed d.failed none (begun_written calls)
  where
    with_failed : (f : Option ℕ) → if_worked f (first_fault calls) f ≡ None → (first_fault calls ≡ None → begun_by calls ≡ written_by calls) → record_of_call d ∷ if_worked f (begun_by calls) [] ≡ if_worked f (record_of_call d ∷ written_by calls) []
    with_failed None none more = ap (λ (l : List (List ℕ)). record_of_call d ∷ l) (more none)
    with_failed (Some n) none more = absurd (cc)

pub written_len : (calls : List GroupCall) → first_fault calls ≡ None → length (written_by calls) ≡ length calls
written_len [] none = refl
written_len (d ∷ calls) none = with_failed d.failed none (written_len calls)
  where
    with_failed : (f : Option ℕ) → if_worked f (first_fault calls) f ≡ None → (first_fault calls ≡ None → length (written_by calls) ≡ length calls) → length (if_worked f (record_of_call d ∷ written_by calls) []) ≡ suc (length calls)
    with_failed None none more = ap (λ (n : ℕ). suc n) (more none)
    with_failed (Some n) none more = absurd (cc)

-- Where a call failed, later ones change nothing.
pub record AreSame (calls more : List GroupCall) : Type 0 where
  pub fault : first_fault (calls ++ more) ≡ first_fault calls
  pub written : written_by (calls ++ more) ≡ written_by calls
  pub begun : begun_by (calls ++ more) ≡ begun_by calls

-- the same for calls that follow one with this answer
record AreSameBehind (d : GroupCall) (calls more : List GroupCall) (f : Option ℕ) : Type 0 where
  fault : if_worked f (first_fault (calls ++ more)) f ≡ if_worked f (first_fault calls) f
  written : if_worked f (record_of_call d ∷ written_by (calls ++ more)) [] ≡ if_worked f (record_of_call d ∷ written_by calls) []
  begun : record_of_call d ∷ if_worked f (begun_by (calls ++ more)) [] ≡ record_of_call d ∷ if_worked f (begun_by calls) []

pub none_more : (calls more : List GroupCall) (n : ℕ) → first_fault calls ≡ Some n → AreSame calls more
none_more [] more n failed = absurd (cc)
none_more (d ∷ calls) more n failed = let same = with_failed d.failed failed (none_more calls more n) in record { fault = same.fault; written = same.written; begun = same.begun }
  where
    with_failed : (f : Option ℕ) → if_worked f (first_fault calls) f ≡ Some n → (first_fault calls ≡ Some n → AreSame calls more) → AreSameBehind d calls more f
    with_failed None e later = let same = later e in record {
      fault = same.fault;
      written = ap (λ (l : List (List ℕ)). record_of_call d ∷ l) same.written;
      begun = ap (λ (l : List (List ℕ)). record_of_call d ∷ l) same.begun;
    }
    with_failed (Some k) e later = record { fault = refl; written = refl; begun = refl }

-- What is written is a prefix of what is begun, whatever calls come later.
pub begun_front : (calls more : List GroupCall) → (rest : List (List ℕ)) × (begun_by (calls ++ more) ≡ written_by calls ++ rest)
begun_front [] more = (begun_by more, refl)
begun_front (d ∷ calls) more = with_failed d.failed (begun_front calls more)
  where
    with_failed : (f : Option ℕ) → ((rest : List (List ℕ)) × (begun_by (calls ++ more) ≡ written_by calls ++ rest))
        → (rest : List (List ℕ)) × (record_of_call d ∷ if_worked f (begun_by (calls ++ more)) [] ≡ if_worked f (record_of_call d ∷ written_by calls) [] ++ rest)
    with_failed None front = (front.0, ap (λ (l : List (List ℕ)). record_of_call d ∷ l) front.1)
    with_failed (Some n) front = (record_of_call d ∷ [], refl)

-- Among which calls those that have synced are, when there is one call more.
pub all_more : {A : Type 0} (P : A → Type 0) (xs : List A) (x : A) → AllByRecursion P xs → P x → AllByRecursion P (xs ++ x ∷ [])
all_more P [] x all one = (one, tt)
all_more P (y ∷ ys) x all one = (all.0, all_more P ys x all.1 one)

pub synced_more : (calls : List GroupCall) (c : GroupCall) (n : ℕ) → HaveSynced calls n → (c.failed ≡ None → c.sync ≡ true → ⊥) → HaveSynced (calls ++ c ∷ []) n
synced_more calls c zero have one = all_more (λ (x : GroupCall). x.failed ≡ None → x.sync ≡ true → ⊥) calls c have one
synced_more [] c (suc n) have one = subst (λ (l : List GroupCall). AllByRecursion (λ (x : GroupCall). x.failed ≡ None → x.sync ≡ true → ⊥) l) (sym (drop_of_length-le [] (omega arith))) tt
synced_more (d ∷ calls) c (suc n) have one = synced_more calls c n have one

pub synced_all : (calls : List GroupCall) (n : ℕ) → length calls ≤ n → HaveSynced calls n
synced_all calls n le = subst (λ (l : List GroupCall). AllByRecursion (λ (x : GroupCall). x.failed ≡ None → x.sync ≡ true → ⊥) l) (sym (drop_of_length-le calls le)) tt

all_drop : {A : Type 0} (P : A → Type 0) (n : ℕ) (xs : List A) → AllByRecursion P xs → AllByRecursion P (drop n xs)
all_drop P zero xs all = all
all_drop P (suc n) [] all = all
all_drop P (suc n) (x ∷ xs) all = all_drop P n xs all.1

-- calls that are among the first m are among the first n, if that is more
pub synced_later : (calls : List GroupCall) (m n : ℕ) → HaveSynced calls m → m ≤ n → HaveSynced calls n
synced_later calls m n have le =
    let P : GroupCall → Type 0 = λ x. x.failed ≡ None → x.sync ≡ true → ⊥ in
    subst (λ (l : List GroupCall). AllByRecursion P l) (drop-drop (n - m) m calls ∙ ap (λ (k : ℕ). drop k calls) (omega arith)) (all_drop P (n - m) (drop m calls) have)
