-- The words and slots that a table is made of.
use Rattle.std.proofs.Common.{◌≡◌, ◌≢◌, ℕ, zero, suc, ◌+◌, ◌-◌, ◌<◌, ◌⊎◌, List, [], ◌∷◌, ◌++◌, length, map, replicate, get_or, refl, sym, ap, ◌∙◌, subst, inl, inr, ⊎_elim, arith, length-append}
use Rattle.std.specs.List.{range_with_len}
use Rattle.table_steps.specs.declared.seat.TableSeat.{TableSeat}
use Rattle.std.proofs.lemmas.List.{length-map, map-append, get_or_append_left, get_or-append_right, length-replicate}
use Rattle.std.proofs.lemmas.Bool.{cases_order}
use mathlib.Core.Option.{Option, none, some}
use lib.ListN.{get_elem?}
use Rattle.atomic_table.specs.Table.{opening}
use Rattle.table_rule.specs.declared.content.Content.{Content}
use Rattle.table_rule.specs.declared.content.Content.TheVariants.{Blank, Tree}
use Rattle.table_rule.specs.declared.content.Version.{Version}
use Rattle.table_rule.specs.declared.view.Opening.{Opening}
use native.Mathlib.Nat.{mod-lt}
use Rattle.model_base.specs.Checksum.{crc32c}
use Rattle.table_rule.specs.Histories.{In, shard_of, IsBase, shard_bytes}
use Rattle.table_rule.specs.Rule.{IsConsistent, newcomers}
use Rattle.table_rule.proofs.Seats.{Bears, opens}
use Rattle.table_steps.specs.Ends.{BearBase}

module _ {A : Type 0} where
  found_same : (n i : ℕ) (b : A) → i < n → get_elem? (map some (replicate n b)) i ≡ some (some b)
  found_same zero i b lt = absurd (omega arith)
  found_same (suc n) zero b lt = refl
  found_same (suc n) (suc i) b lt = found_same n i b (omega arith)

  found_right : (xs : List A) (n i j : ℕ) (b : A) → j ≡ length xs + i → i < n → get_elem? (map some (xs ++ replicate n b)) j ≡ some (some b)
  found_right [] n i j b e lt = subst (λ (k : ℕ). get_elem? (map some (replicate n b)) k ≡ some (some b)) (let same : i ≡ j = omega arith in same) (found_same n i b lt)
  found_right (x ∷ xs) n i zero b e lt = absurd (omega arith)
  found_right (x ∷ xs) n i (suc j) b e lt = found_right xs n i j b (omega arith) lt

abbrev zeros : ℕ → List ℕ
zeros n = replicate n 0

zero_at : (n i : ℕ) → get_or {A = ℕ} (zeros n) i 0 ≡ zero
zero_at zero i = refl
zero_at (suc n) zero = refl
zero_at (suc n) (suc i) = zero_at n i

-- the words of a table where nothing is launched
module _ (k start n : ℕ) where
  abbrev words : List ℕ
  words = zeros k ++ start ∷ zeros (n + 1)

  behind : (i m : ℕ) → i ≡ suc m → get_or (start ∷ zeros (n + 1)) i 0 ≡ 0
  behind i m e = ap (λ (j : ℕ). get_or (start ∷ zeros (n + 1)) j 0) e ∙ zero_at (n + 1) m

  words_zero : (i : ℕ) → i ≢ k → get_or words i 0 ≡ 0
  words_zero i ne =
      let len : length (zeros k) ≡ k = length-replicate k 0 in
      ⊎_elim (λ (same : i ≡ k). absurd (ne same)) (λ (apart : (i < k) ⊎ (k < i)). ⊎_elim
      (λ (lt : i < k). get_or_append_left (zeros k) (start ∷ zeros (n + 1)) 0 i (omega arith) ∙ zero_at k i)
      (λ (gt : k < i). get_or-append_right (zeros k) (start ∷ zeros (n + 1)) k i 0 len (omega arith) ∙ behind (i - k) (i - (k + 1)) (omega arith))
      apart) (cases_order i k)

  words_start : get_or words k 0 ≡ start
  words_start =
      let len : length (zeros k) ≡ k = length-replicate k 0 in
      get_or-append_right (zeros k) (start ∷ zeros (n + 1)) k k 0 len (omega arith) ∙ ap (λ (j : ℕ). get_or (start ∷ zeros (n + 1)) j 0) (let e : k - k ≡ 0 = omega arith in e)

  words_length : length words ≡ k + 2 + n
  words_length =
      let a = length-append (zeros k) (start ∷ zeros (n + 1)) in
      let b : length (zeros k) ≡ k = length-replicate k 0 in
      let c : length (zeros (n + 1)) ≡ n + 1 = length-replicate (n + 1) 0 in omega arith

pub first_words_length : (k start n : ℕ) → length (replicate k 0 ++ start ∷ replicate (n + 1) 0) ≡ k + 2 + n
first_words_length k start n = words_length k start n

pub first_slots_length : {A : Type 0} (trees : List A) (k n : ℕ) (blank : A) → length trees ≡ k → length (trees ++ replicate (n + 1) blank) ≡ k + 1 + n
first_slots_length trees k n blank count = omega (arith, count, length-append trees (replicate (n + 1) blank), length-replicate (n + 1) blank)

module _ {ShardTree NodeList : Type 0} (held_by : ShardTree → List Version) (nodes_of : NodeList → List Version) (z : Opening) where
  -- what the tree of a shard has
  abbrev in_tree : Option ShardTree → List Version
  in_tree none = []
  in_tree (some t) = held_by t

  abbrev put_in : List ShardTree → List (Content ShardTree NodeList)
  put_in trees = map (λ (t : ShardTree). Tree t) trees

  tree_at : (trees : List ShardTree) (others : List (Content ShardTree NodeList)) (j : ℕ) → j < length trees → (t : ShardTree) × (get_elem? trees j ≡ some t) × (get_elem? (map some (put_in trees ++ others)) j ≡ some (some (Tree t)))
  tree_at [] others j lt = absurd (omega arith)
  tree_at (t ∷ trees) others zero lt = (t, refl, refl)
  tree_at (t ∷ trees) others (suc j) lt = tree_at trees others j (omega arith)

  bears : (trees : List ShardTree) → 0 < z.shards → length trees ≡ z.shards → BearBase held_by z.base trees → Bears held_by nodes_of z (λ j. in_tree (get_elem? trees j))
  bears trees lo count bear = (
    (λ j v lt h.
        let t = tree_at trees [] j (omega arith) in
        let o = (bear j t.0 v t.1).0 (subst (λ (x : Option ShardTree). In v (in_tree x)) t.1 h) in
        (subst (λ (k : ℕ). shard_of k v ≡ j) count o.1, o.0)),
    (λ v h.
        let low : shard_of z.shards v < z.shards = mod-lt (crc32c (shard_bytes v.key)) lo in
        let t = tree_at trees [] (shard_of z.shards v) (omega arith) in
        subst (λ (x : Option ShardTree). In v (in_tree x)) (sym t.1) ((bear (shard_of z.shards v) t.0 v t.1).1 (h, ap (λ (k : ℕ). shard_of k v) count))),
  )

  -- a table of such trees with nothing launched keeps the rule
  pub opens_first : (ws : List ℕ) (slots : List (Content ShardTree NodeList)) (trees : List ShardTree) → ws ≡ zeros z.shards ++ z.start ∷ zeros (z.clients + 1) → slots ≡ put_in trees ++ replicate (z.clients + 1) Blank → 0 < z.shards → length trees ≡ z.shards → IsBase z.start z.base → BearBase held_by z.base trees
      → IsConsistent held_by nodes_of z (opening ws slots (newcomers z 1 z.clients))
  opens_first ws slots trees ws_are slots_are lo count base bear =
      let blanks : List (Content ShardTree NodeList) = replicate (z.clients + 1) Blank in
      let many : length (put_in trees) ≡ z.shards = length-map trees (λ (t : ShardTree). Tree t) ∙ count in
      opens held_by nodes_of z ws slots (λ j. in_tree (get_elem? trees j)) base (bears trees lo count bear) lo
      (ap length ws_are ∙ words_length z.shards z.start z.clients)
      (ap length slots_are ∙ first_slots_length (put_in trees) z.shards z.clients Blank many)
      (ap (λ (l : List ℕ). get_or l z.shards 0) ws_are ∙ words_start z.shards z.start z.clients)
      (λ i ne. ap (λ (l : List ℕ). get_or l i 0) ws_are ∙ words_zero z.shards z.start z.clients i ne)
      (λ j lt.
      let t = tree_at trees blanks j (omega arith) in
      (t.0, ap (λ (l : List (Content ShardTree NodeList)). get_elem? (map some l) j) slots_are ∙ t.2, sym (ap in_tree t.1)))
      (λ i low hi. ap (λ (l : List (Content ShardTree NodeList)). get_elem? (map some l) (z.shards + i)) slots_are ∙ found_right (put_in trees) (z.clients + 1) i (z.shards + i) Blank (omega arith) (omega arith))

range_snoc : (a n : ℕ) → range_with_len a (suc n) ≡ range_with_len a n ++ (a + n) ∷ []
range_snoc a zero = ap (λ (k : ℕ). k ∷ []) (let e : a ≡ a + 0 = omega arith in e)
range_snoc a (suc n) = ap (λ (l : List ℕ). a ∷ l) (range_snoc (a + 1) n ∙ ap (λ (k : ℕ). range_with_len (a + 1) n ++ k ∷ []) (let e : a + 1 + n ≡ a + suc n = omega arith in e))

module _ {ShardTree NodeList : Type 0} where
  -- one more client's seat
  pub numbers_more : (clients : List (TableSeat ShardTree NodeList)) (client : TableSeat ShardTree NodeList) (more : List (TableSeat ShardTree NodeList)) (n : ℕ) → more ≡ clients ++ client ∷ [] → map (λ (c : TableSeat ShardTree NodeList). c.client.number) clients ≡ range_with_len 1 n → client.client.number ≡ n + 1 → map (λ (c : TableSeat ShardTree NodeList). c.client.number) more ≡ range_with_len 1 (n + 1)
  numbers_more clients client more n is before number =
      ap (map (λ (c : TableSeat ShardTree NodeList). c.client.number)) is
      ∙ (map-append (λ (c : TableSeat ShardTree NodeList). c.client.number) clients (client ∷ [])
      ∙ (λ i. before i ++ number i ∷ [])
      ∙ (ap (λ (k : ℕ). range_with_len 1 n ++ k ∷ []) (let e : n + 1 ≡ 1 + n = omega arith in e) ∙ sym (range_snoc 1 n) ∙ ap (range_with_len 1) (let e : suc n ≡ n + 1 = omega arith in e)))
