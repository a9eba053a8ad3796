-- Entries that are counted for their clients.
use Rattle.std.proofs.Common.{◌≡◌, ◌≢◌, ℕ, zero, suc, ◌+◌, ◌-◌, ◌^◌, ◌<◌, ◌≤◌, Bool, true, false, ◌==◌, nat_lt, cond, List, [], ◌∷◌, ◌++◌, length, take, drop, get_or, replicate, slice_set, Some, refl, sym, ap, ◌∙◌, subst, arith, append_assoc}
use Rattle.std.specs.Prelude.{count_by, fold}
use Rattle.std.proofs.Math.Seq.{take-length}
use Rattle.std.proofs.lemmas.Bool.Decides.{nat_tests}
use Rattle.std.proofs.lemmas.List.{get_or-set_same, get_or-set_other, length-append, length-drop, length-set, take_more, take-append-drop, take-append-le}
use Rattle.std.proofs.lemmas.List.Sums.{count_by-le-length}
use Rattle.std.proofs.lemmas.Option.{slice_get_within, slice_get-get_or, get_or_from_slice_get}
use Rattle.replay_core.specs.Shown.{CoreEntry}
use Rattle.replay_core.specs.Ordinals.{AreCounts, count_for}
use Rattle.replay_core.proofs.HandRuns.{written_over}

pushed_on : (c n : ℕ) (xs : List CoreEntry) (e : CoreEntry) → fold (λ n (x : CoreEntry). n + cond (x.client == c) 1 0) n (xs ++ e ∷ []) ≡ fold (λ n (x : CoreEntry). n + cond (x.client == c) 1 0) n xs + cond (e.client == c) 1 0
pushed_on c n [] e = refl
pushed_on c n (x ∷ xs) e = pushed_on c (n + cond (x.client == c) 1 0) xs e

count_push : (c : ℕ) (xs : List CoreEntry) (e : CoreEntry) → count_by (λ (x : CoreEntry). x.client == c) (xs ++ e ∷ []) ≡ count_by (λ (x : CoreEntry). x.client == c) xs + cond (e.client == c) 1 0
count_push c xs e = pushed_on c 0 xs e

-- one more entry is counted for its client
pub counts_one : (counts : List ℕ) (place client v : ℕ) (front : List CoreEntry) (e : CoreEntry) → e.client ≡ client → client ≡ place + 1 → place < length counts → length front < 2 ^ 64 - 1
    → (get_or counts place 0 < 2 ^ 64 - 1 → v ≡ get_or counts place 0 + 1) → AreCounts counts front
    → (c n : ℕ) → count_for (slice_set counts place v) c ≡ Some n → n ≡ count_by (λ (x : CoreEntry). x.client == c) (front ++ e ∷ [])
counts_one counts place client v front e own number within few more are zero n h = cc
counts_one counts place client v front e own number within few more are (suc k) n h = by_test (e.client == suc k) refl
  where
    by_test : (b : Bool) → (e.client == suc k) ≡ b → n ≡ count_by (λ (x : CoreEntry). x.client == suc k) (front ++ e ∷ [])
    by_test true t =
        let one : e.client ≡ suc k = grind (arith, nat_tests) in
        let same : k ≡ place = omega (arith, own, number, one) in
        let old : get_or counts place 0 ≡ count_by (λ (x : CoreEntry). x.client == suc place) front = are (suc place) (get_or counts place 0) (slice_get-get_or counts place 0 within) in
        let small : count_by (λ (x : CoreEntry). x.client == suc place) front ≤ length front = count_by-le-length (λ (x : CoreEntry). x.client == suc place) front in
        let next : v ≡ get_or counts place 0 + 1 = more (omega (arith, old, small, few)) in
        let now : n ≡ v = sym (get_or_from_slice_get (slice_set counts place v) k n 0 h) ∙ ap (λ j. get_or (slice_set counts place v) j 0) same ∙ get_or-set_same counts place v 0 within in
        now ∙ next ∙ ap (λ m. m + 1) old
        ∙ ap (λ j. count_by (λ (x : CoreEntry). x.client == suc j) front + 1) (sym same)
        ∙ ap (λ b. count_by (λ (x : CoreEntry). x.client == suc k) front + cond b 1 0) (sym t)
        ∙ sym (count_push (suc k) front e)
    by_test false t =
        let other : k ≢ place = λ same. let yes : e.client ≡ suc k = omega (arith, own, number, same) in grind (arith, nat_tests) in
        let there : k < length counts = omega (arith, slice_get_within (slice_set counts place v) k n h, length-set counts place v) in
        let kept : get_or counts k 0 ≡ n = sym (get_or-set_other counts place k v 0 other) ∙ get_or_from_slice_get (slice_set counts place v) k n 0 h in
        let old : get_or counts k 0 ≡ count_by (λ (x : CoreEntry). x.client == suc k) front = are (suc k) (get_or counts k 0) (slice_get-get_or counts k 0 there) in
        let pushed : count_by (λ (x : CoreEntry). x.client == suc k) (front ++ e ∷ []) ≡ count_by (λ (x : CoreEntry). x.client == suc k) front + 0 =
        count_push (suc k) front e ∙ ap (λ b. count_by (λ (x : CoreEntry). x.client == suc k) front + cond b 1 0) t in
        omega (arith, kept, old, pushed)

-- an entry of a client that has no count
pub counts_other : (counts : List ℕ) (front : List CoreEntry) (e : CoreEntry) → ((k : ℕ) → k < length counts → e.client ≢ suc k) → AreCounts counts front
    → (c n : ℕ) → count_for counts c ≡ Some n → n ≡ count_by (λ (x : CoreEntry). x.client == c) (front ++ e ∷ [])
counts_other counts front e out are zero n h = cc
counts_other counts front e out are (suc k) n h =
    let other : e.client ≢ suc k = out k (slice_get_within counts k n h) in
    let no : (e.client == suc k) ≡ false = grind (arith, nat_tests) in
    let pushed : count_by (λ (x : CoreEntry). x.client == suc k) (front ++ e ∷ []) ≡ count_by (λ (x : CoreEntry). x.client == suc k) front + 0 =
    count_push (suc k) front e ∙ ap (λ b. count_by (λ (x : CoreEntry). x.client == suc k) front + cond b 1 0) no in
    omega (arith, are (suc k) n h, pushed)

pub counts_more : (counts : List ℕ) (front es : List CoreEntry) (i : ℕ) (d : CoreEntry) → i < length es → AreCounts counts ((front ++ take i es) ++ get_or es i d ∷ []) → AreCounts counts (front ++ take (i + 1) es)
counts_more counts front es i d h are =
    let P : List CoreEntry → Type 0 = λ xs. AreCounts counts xs in
    subst P (append_assoc front (take i es) (get_or es i d ∷ []) ∙ ap (λ xs. front ++ xs) (sym (take_more es i d h))) are

same_at : (len k d : ℕ) → get_or (replicate len d) k d ≡ d
same_at zero k d = refl
same_at (suc len) zero d = refl
same_at (suc len) (suc k) d = same_at len k d

-- nothing is counted yet
pub counts_none : (counts : List ℕ) (es : List CoreEntry) (len : ℕ) → counts ≡ replicate len 0 → es ≡ [] → AreCounts counts es
counts_none counts es len zeros none =
    let P : List CoreEntry → Type 0 = λ xs. AreCounts counts xs in
    let Q : List ℕ → Type 0 = λ ns. AreCounts ns [] in
    subst P (sym none) (subst Q (sym zeros) (all_zero len))
  where
    all_zero : (len : ℕ) (c n : ℕ) → count_for (replicate len 0) c ≡ Some n → n ≡ count_by (λ (x : CoreEntry). x.client == c) []
    all_zero len zero n h = cc
    all_zero len (suc k) n h =
        let within : k < length (replicate len 0) = slice_get_within (replicate len 0) k n h in
        sym (get_or_from_slice_get (replicate len 0) k n 0 h) ∙ same_at len k 0

-- an item put after a list leaves the list's prefixes as they were
pub prefix_push : {A : Type 0} (n len capacity : ℕ) (xs ys : List A) (x : A) → n ≤ length xs → (len < capacity → ys ≡ xs ++ x ∷ []) → (capacity ≤ len → ys ≡ xs) → take n ys ≡ take n xs
prefix_push n len capacity xs ys x h pushed full = by_test (nat_lt len capacity) refl
  where
    by_test : (b : Bool) → nat_lt len capacity ≡ b → take n ys ≡ take n xs
    by_test true t = ap (take n) (pushed (grind (arith, nat_tests))) ∙ take-append-le n xs (x ∷ []) h
    by_test false t = let no : capacity ≤ len = grind (arith, nat_tests) in ap (take n) (full no)

-- the entries after the first ones are counted
pub counts_rest : (counts : List ℕ) (first es rest : List CoreEntry) (n : ℕ) → take n es ≡ first → rest ≡ drop n es → AreCounts counts (first ++ rest) → AreCounts counts es
counts_rest counts first es rest n e k are =
    let P : List CoreEntry → Type 0 = λ xs. AreCounts counts xs in
    subst P (ap (λ xs. first ++ xs) k ∙ ap (λ xs. xs ++ drop n es) (sym e) ∙ take-append-drop n es) are

pub rest_is : (xs es : List CoreEntry) (j : ℕ) → xs ≡ es → take (length xs - j) (drop j xs) ≡ drop j es
rest_is xs es j e =
    let len : length xs - j ≡ length (drop j xs) = omega (arith, length-drop j xs) in
    ap (λ n. take n (drop j xs)) len ∙ take-length (drop j xs) ∙ ap (drop j) e

-- the counts of a state once the entries after the first ones are counted
pub counts_after : (accepted : List ℕ) (n : ℕ) (new now : List ℕ) (first es rest : List CoreEntry) (k j : ℕ) → n ≡ length accepted → now ≡ accepted → length new ≡ length now
    → take k es ≡ first → rest ≡ drop j es → j ≡ k → AreCounts accepted first → length es < 2 ^ 64
    → ((front : List CoreEntry) → length front + length rest < 2 ^ 64 → AreCounts now front → AreCounts new (front ++ rest))
    → AreCounts (take n (new ++ drop (length new) accepted)) es
counts_after accepted n new now first es rest k j len is same e after before are few counts =
    let P : List ℕ → Type 0 = λ ns. AreCounts ns es in
    let Q : List ℕ → Type 0 = λ ns. AreCounts ns first in
    let rest_at : rest ≡ drop k es = after ∙ ap (λ i. drop i es) before in
    let whole : first ++ rest ≡ es = ap (λ xs. first ++ xs) rest_at ∙ ap (λ xs. xs ++ drop k es) (sym e) ∙ take-append-drop k es in
    let sum : length first + length rest ≡ length es = sym (length-append first rest) ∙ ap length whole in
    let size : length accepted ≡ n = sym len in
    let new_size : length new ≡ n = same ∙ ap length is ∙ size in
    subst P (written_over n new accepted new_size size)
    (counts_rest new first es rest k e rest_at (counts first (omega (arith, sum, few)) (subst Q (sym is) are)))
