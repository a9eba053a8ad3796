-- What is kept of a file: when one more record is kept, and when no more is.
use Rattle.std.proofs.Common.{Option, ◌≡◌, ⊎_elim, ℕ, ◌+◌, ◌-◌, ◌<◌, ◌≤◌, List, [], ◌∷◌, ◌++◌, length, take, drop, map, refl, sym, ◌∙◌, ap, subst, arith, cond, ◌==◌, length-append, length-take, length-drop, append_assoc, zero-add}
use Rattle.std.proofs.Math.Seq.{take-append_seam, take-add}
use Rattle.std.proofs.lemmas.Grind.{flat_map-append}
use Rattle.std.proofs.lemmas.List.{take-append-drop, append-nil, map-append, append_cancel_left}
use Rattle.std.proofs.lemmas.Nat.{from_le_bytes-to_le_bytes_4, from_le_bytes-to_le_bytes_8}
use Rattle.std.specs.Int.{w32, w64, from_le_bytes}
use Rattle.std.specs.List.{AllByRecursion}
use Rattle.model_base.specs.Batch.{Record, count_of, IsBatch}
use Rattle.model_base.specs.Log.{Fragment, fragments_text, FitFrom, AreOneRecord, kinds_of, record_of, all_fragments}
use Rattle.model_base.specs.Reading.{end_of, HasFragments}
use Rattle.model_base.specs.Recovery.{Logged, logged_bytes, last_after, MayFollow, AreInOrder, last_sequence}
use Rattle.model_base.specs.RecoveredLogs.{KeepsAfter}
use Rattle.log_recovery.specs.Keeping.{MayBeKept}
use Rattle.log_laws.proofs.Placed.{placed_append}
use Rattle.log_reader.proofs.OneMore.{fit_joined}
use Rattle.log_recovery.proofs.Standing.{stand_front, stand_back, one_front, one_record}

abbrev pub Whole : List (List Fragment) → Type 0
Whole groups = AllByRecursion (λ fs. AreOneRecord (kinds_of fs)) groups

AreBatches : List Logged → Type 0
AreBatches bs = AllByRecursion (λ b. IsBatch (logged_bytes b) b.first b.records) bs

-- what holds for all of a list and for one more element holds for the longer list
all_more : {A : Type 0} (P : A → Type 0) (xs : List A) (x : A) → AllByRecursion P xs → P x → AllByRecursion P (xs ++ x ∷ [])
all_more P [] x all one = (one, tt)
all_more P (y ∷ ys) x all one = (all.0, all_more P ys x all.1 one)

in_order_more : (last : ℕ) (bs : List Logged) (b : Logged) → AreInOrder last bs → MayFollow (last_sequence last bs) b → AreInOrder last (bs ++ b ∷ [])
in_order_more last [] b ordered may = (may, tt)
in_order_more last (c ∷ cs) b ordered may = (ordered.0, in_order_more (last_after last c) cs b ordered.1 may)

-- With no records, nothing is kept.
pub keeps_none : (last : ℕ) (number : Option ℕ) (file : List ℕ) → KeepsAfter last number file 0 []
keeps_none last number file = record { within = omega arith; spelled = record { groups = []; whole = tt; same = refl; fit = tt; spelled = refl }; are_batches = tt; in_order = tt }

-- the fragments before the offset up to which records are kept
module _ (last : ℕ) (number : Option ℕ) (file : List ℕ) (kept : ℕ) (bs : List Logged) (keeps : KeepsAfter last number file kept bs) where
  pub fragments : List Fragment
  fragments = all_fragments keeps.spelled.groups

  pub end_is : end_of number 0 fragments ≡ kept
  unfolding fragments
  end_is = zero-add (length (fragments_text number 0 fragments)) ∙ sym (ap length keeps.spelled.spelled) ∙ omega (arith, length-take kept file, keeps.within)

  pub all_stand : HasFragments number file 0 fragments
  unfolding fragments
  all_stand = record {
    rest = drop kept file;
    there = sym (take-append-drop kept file) ∙ ap (λ (l : List ℕ). l ++ drop kept file) keeps.spelled.spelled;
    fit = keeps.spelled.fit;
  }

-- A batch that comes next in the file and may follow is kept too.
pub keeps_more : (last : ℕ) (number : Option ℕ) (file : List ℕ) (kept : ℕ) (bs : List Logged) (b : Logged) (fs : List Fragment) → KeepsAfter last number file kept bs → AreOneRecord (kinds_of fs) → HasFragments number file kept fs
    → record_of fs ≡ logged_bytes b → IsBatch (logged_bytes b) b.first b.records → MayFollow (last_sequence last bs) b → KeepsAfter last number file (end_of number kept fs) (bs ++ b ∷ [])
unfolding fragments
keeps_more last number file kept bs b fs keeps one stands bytes is may =
    let groups = keeps.spelled.groups in
    let flat : List Fragment = all_fragments groups in
    let piece : List ℕ = fragments_text number kept fs in
    let end : end_of number 0 flat ≡ kept = end_is last number file kept bs keeps in
    let joined : all_fragments (groups ++ fs ∷ []) ≡ flat ++ fs = flat_map-append (λ (l : List Fragment). l) groups (fs ∷ []) ∙ ap (λ (l : List Fragment). flat ++ l) (append-nil fs) in
    let taken : take (kept + length piece) file ≡ take kept file ++ piece =
    take-add kept (length piece) file ∙ ap (λ (l : List ℕ). take kept file ++ take (length piece) l) stands.there ∙ ap (λ (l : List ℕ). take kept file ++ l) (take-append_seam piece stands.rest) in
    let laid : fragments_text number 0 (flat ++ fs) ≡ fragments_text number 0 flat ++ piece = placed_append number 0 flat fs ∙ ap (λ (n : ℕ). fragments_text number 0 flat ++ fragments_text number n fs) end in
    record {
      within = omega (arith, keeps.within, length-drop kept file, ap length stands.there, length-append piece stands.rest);
      spelled = record {
        groups = groups ++ fs ∷ [];
        whole = all_more (λ l. AreOneRecord (kinds_of l)) groups fs keeps.spelled.whole one;
        same = map-append logged_bytes bs (b ∷ []) ∙ ap (λ (l : List (List ℕ)). l ++ logged_bytes b ∷ []) keeps.spelled.same ∙ ap (λ (l : List ℕ). map record_of groups ++ l ∷ []) (sym bytes) ∙ sym (map-append record_of groups (fs ∷ []));
        fit = subst (FitFrom number 0) (sym joined) (fit_joined number 0 flat fs keeps.spelled.fit (subst (λ n. FitFrom number n fs) (sym end) stands.fit));
        spelled = taken ∙ ap (λ (l : List ℕ). l ++ piece) keeps.spelled.spelled ∙ sym laid ∙ ap (fragments_text number 0) (sym joined);
      };
      are_batches = all_more (λ c. IsBatch (logged_bytes c) c.first c.records) bs b keeps.are_batches is;
      in_order = in_order_more last bs b keeps.in_order may;
    }

-- the bytes of a batch determine its sequence and its count
pub one_header : (bytes : List ℕ) (first other : ℕ) (records others : List Record) → IsBatch bytes first records → IsBatch bytes other others → (first ≡ other) × (count_of records ≡ count_of others)
one_header bytes first other records others a b = (
  sym (sequence_read first records a) ∙ sequence_read other others b,
  sym (count_read first records a) ∙ count_read other others b,
)
  where
    sequence_read : (s : ℕ) (rs : List Record) → IsBatch bytes s rs → from_le_bytes w64 (take 8 bytes) ≡ s
    sequence_read s rs is = ap (λ (l : List ℕ). from_le_bytes w64 (take 8 l)) is.spelled ∙ from_le_bytes-to_le_bytes_8 s is.sequence_fits

    count_read : (s : ℕ) (rs : List Record) → IsBatch bytes s rs → from_le_bytes w32 (take 4 (drop 8 bytes)) ≡ count_of rs
    count_read s rs is = ap (λ (l : List ℕ). from_le_bytes w32 (take 4 (drop 8 l))) is.spelled ∙ from_le_bytes-to_le_bytes_4 (count_of rs) is.count_fits

-- the last sequence after a batch, computed from its header alone
after : ℕ → ℕ → ℕ → ℕ
after last first count = cond (count == 0) last (first + count - 1)

same_after : (last : ℕ) (b c : Logged) → IsBatch (logged_bytes b) b.first b.records → IsBatch (logged_bytes c) c.first c.records → logged_bytes b ≡ logged_bytes c → last_after last b ≡ last_after last c
unfolding after
same_after last b c is_b is_c same =
    let one = one_header (logged_bytes b) b.first c.first b.records c.records is_b (subst (λ bytes. IsBatch bytes c.first c.records) (sym same) is_c) in
    ap (λ (f : ℕ). after last f (count_of b.records)) one.0 ∙ ap (λ (n : ℕ). after last c.first n) one.1

-- if batches in order begin with these, the one after these may follow them
next_may : (last last' : ℕ) (bs cs : List Logged) (bytes : List ℕ) (more : List (List ℕ)) → last' ≡ last → map logged_bytes cs ≡ map logged_bytes bs ++ bytes ∷ more
    → AreBatches bs → AreBatches cs → AreInOrder last' cs → MayBeKept (last_sequence last bs) bytes
unfolding AreBatches
next_may last last' bs [] bytes more same e is_b is_c ordered = absurd (no_more bs e)
  where
    no_more : (bs : List Logged) → [] ≡ map logged_bytes bs ++ bytes ∷ more → ⊥
    no_more [] e = cc
    no_more (b ∷ bs) e = cc
next_may last last' [] (c ∷ cs) bytes more same e is_b is_c ordered =
    let head : logged_bytes c ≡ bytes = cc in
    record { batch = c; same = head; is = is_c.0; may = subst (λ n. MayFollow n c) same ordered.0 }
next_may last last' (b ∷ bs) (c ∷ cs) bytes more same e is_b is_c ordered =
    let head : logged_bytes c ≡ logged_bytes b = cc in
    let tail : map logged_bytes cs ≡ map logged_bytes bs ++ bytes ∷ more = cc in
    next_may (last_after last b) (last_after last' c) bs cs bytes more (ap (λ (n : ℕ). last_after n c) same ∙ same_after last c b is_c.0 is_b.0 head) tail is_b.1 is_c.1 ordered.1

-- If the fragments of some records begin with the fragments of other whole records, the records begin with these
-- records.
pub groups_front : (number : Option ℕ) (file : List ℕ) (offset : ℕ) (gs hs : List (List Fragment)) (rest : List Fragment) → Whole gs → Whole hs → HasFragments number file offset (all_fragments hs) → all_fragments hs ≡ all_fragments gs ++ rest
    → (more : List (List Fragment)) × (hs ≡ gs ++ more)
groups_front number file offset [] hs rest whole_g whole_h stands e = (hs, refl)
groups_front number file offset ([] ∷ gs) [] rest whole_g whole_h stands e = absurd whole_g.0
groups_front number file offset ((f ∷ g) ∷ gs) [] rest whole_g whole_h stands e = absurd (cc)
groups_front number file offset (g ∷ gs) (h ∷ hs) rest whole_g whole_h stands e =
    let joined : h ++ all_fragments hs ≡ g ++ (all_fragments gs ++ rest) = e ∙ append_assoc g (all_fragments gs) rest in
    let stands_h = stand_front number file offset h (all_fragments hs) stands in
    let stands_g = stand_front number file offset g (all_fragments gs ++ rest) (subst (HasFragments number file offset) joined stands) in
    let same : h ≡ g = one_record number file offset h g whole_h.0 whole_g.0 stands_h stands_g in
    let later : all_fragments hs ≡ all_fragments gs ++ rest = append_cancel_left g (all_fragments hs) (all_fragments gs ++ rest) (ap (λ (l : List Fragment). l ++ all_fragments hs) (sym same) ∙ joined) in
    let more = groups_front number file (end_of number offset h) gs hs rest whole_g.1 whole_h.1 (stand_back number file offset h (all_fragments hs) stands) later in
    (more.0, ap (λ (l : List Fragment). l ∷ hs) same ∙ ap (λ (l : List (List Fragment)). g ∷ l) more.1)

-- what would be kept after the kept records: a record that comes next in the file, and is a batch that may follow
pub record KeptNext (number : Option ℕ) (file : List ℕ) (kept last : ℕ) : Type 0 where
  pub fs : List Fragment
  pub one : AreOneRecord (kinds_of fs)
  pub stands : HasFragments number file kept fs
  pub may : MayBeKept last (record_of fs)

no_shorter : (number : Option ℕ) (xs ys rest : List Fragment) → xs ≡ ys ++ rest → end_of number 0 ys ≤ end_of number 0 xs
no_shorter number xs ys rest e =
    omega (arith, ap length (ap (fragments_text number 0) e ∙ placed_append number 0 ys rest), length-append (fragments_text number 0 ys) (fragments_text number (end_of number 0 ys) rest))

-- Where more than this is kept, there is such a record.
pub more_kept : (last : ℕ) (number : Option ℕ) (file : List ℕ) (kept kept' : ℕ) (bs cs : List Logged) → KeepsAfter last number file kept bs → KeepsAfter last number file kept' cs → kept < kept' → KeptNext number file kept (last_sequence last bs)
unfolding AreBatches fragments
more_kept last number file kept kept' bs cs a b less =
    ⊎_elim
    (λ h. absurd (omega (arith, no_shorter number _ _ h.0 h.1, end_is last number file kept bs a, end_is last number file kept' cs b, less)))
    (λ h. let more = groups_front number file 0 a.spelled.groups b.spelled.groups h.0 a.spelled.whole b.spelled.whole (all_stand last number file kept' cs b) h.1 in by_more more.0 more.1)
    (one_front number file 0 (fragments last number file kept bs a) (fragments last number file kept' cs b) (all_stand last number file kept bs a) (all_stand last number file kept' cs b))
  where
    by_more : (more : List (List Fragment)) → b.spelled.groups ≡ a.spelled.groups ++ more → KeptNext number file kept (last_sequence last bs)
    by_more [] e =
        let same : b.spelled.groups ≡ a.spelled.groups = e ∙ append-nil a.spelled.groups in
        absurd (omega (arith, ap (λ (gs : List (List Fragment)). end_of number 0 (all_fragments gs)) same, end_is last number file kept bs a, end_is last number file kept' cs b, less))
    by_more (g ∷ more) e =
        let front : List Fragment = all_fragments a.spelled.groups in
        let flat : all_fragments b.spelled.groups ≡ front ++ (g ++ all_fragments more) = ap all_fragments e ∙ flat_map-append (λ (l : List Fragment). l) a.spelled.groups (g ∷ more) in
        let behind_kept : HasFragments number file kept (g ++ all_fragments more) =
        subst (λ n. HasFragments number file n (g ++ all_fragments more)) (end_is last number file kept bs a) (stand_back number file 0 front (g ++ all_fragments more) (subst (HasFragments number file 0) flat (all_stand last number file kept' cs b))) in
        let names : map logged_bytes cs ≡ map logged_bytes bs ++ record_of g ∷ map record_of more =
        b.spelled.same ∙ ap (map record_of) e ∙ map-append record_of a.spelled.groups (g ∷ more) ∙ ap (λ (l : List (List ℕ)). l ++ record_of g ∷ map record_of more) (sym a.spelled.same) in
        record {
          fs = g;
          one = whole_at a.spelled.groups (subst Whole e b.spelled.whole);
          stands = stand_front number file kept g (all_fragments more) behind_kept;
          may = next_may last last bs cs (record_of g) (map record_of more) refl names a.are_batches b.are_batches b.in_order;
        }
      where
        whole_at : (gs : List (List Fragment)) → Whole (gs ++ g ∷ more) → AreOneRecord (kinds_of g)
        whole_at [] whole = whole.0
        whole_at (h ∷ gs) whole = whole_at gs whole.1
