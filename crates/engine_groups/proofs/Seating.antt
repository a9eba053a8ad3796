-- How the clients of an opened engine are made of their writers and seats.
use Rattle.std.proofs.Common.{◌≡◌, inl, inr, ℕ, zero, suc, ◌+◌, ◌-◌, map, slice_get, List, [], ◌∷◌, ◌++◌, Some, length, length-append, reverse, vec_len, Vec, refl, ap, sym, ◌∙◌, subst, ⊎_elim, arith}
use Rattle.std.proofs.lemmas.List.{reverse-append}
use Rattle.std.specs.List.{range_with_len}
use Rattle.log_writer.specs.declared.group_log.GroupLog.{Ghosts}
use Rattle.table_rule.specs.Histories.{In}
use Rattle.table_calls.specs.Account.{IsReady}
use Rattle.atomic_table.specs.Seated.{TableId}
use Rattle.line_writers.specs.declared.writer.Writer.{Writer}
use Rattle.line_writers.specs.Roles.{IsNew, AreNew}
use Rattle.line_writers.specs.Seats.{clients_of}
use Rattle.engine_controller.specs.declared.controller.Controller.{Controller}
use Rattle.engine_controller.specs.declared.pass.Pass.{Pass}
use Rattle.engine_controller.specs.Passes.{seen_by, IsPassOf, client_of as pass_client}
use Rattle.model_accounts.specs.Closing.{AreOurs}
use Rattle.engine_groups.specs.Meaning.{Meaning}
use Rattle.engine_groups.specs.declared.engine.GroupEngine.{GroupEngine}
use Rattle.engine_groups.specs.declared.engine.EngineClient.{EngineClient}
use Rattle.engine_groups.specs.Clients.{IsClientOf, account_in}
use Rattle.engine_groups.specs.AtStart.{AreSeatsAtStart, ArePassesAtStart, IsPassAtStart, IsNewcomer, AreNewcomers}

-- a list whose last item is taken

pub reverse_last : {A : Type 0} (xs : List A) (x : A) → reverse (xs ++ x ∷ []) ≡ x ∷ reverse xs
reverse_last xs x = reverse-append xs (x ∷ [])

pub length_last : {A : Type 0} (xs ys : List A) (x : A) → ys ≡ xs ++ x ∷ [] → length ys ≡ suc (length xs)
length_last xs ys x is = let a = ap length is in let b = length-append xs (x ∷ []) in omega (arith, a, b)

-- what holds of all holds of the last, and of the others
pub all_last : {A : Type 0} (P : A → Type 0) (All : List A → Type 0) → All [] → ((x : A) (xs : List A) → All (x ∷ xs) → P x × All xs) → ((x : A) (xs : List A) → P x → All xs → All (x ∷ xs))
    → (xs : List A) (x : A) → All (xs ++ x ∷ []) → All xs × P x
all_last P All none part join [] x all = (none, (part x [] all).0)
all_last P All none part join (y ∷ xs) x all =
    let t = part y (xs ++ x ∷ []) all in let rest = all_last P All none part join xs x t.1 in
    (join y xs t.0 rest.0, rest.1)

-- the last of the writers is the first of them in reverse order
pub writers_split : {Request Reply Log Right : Type 0} (table : TableId) (all front : List (Writer Request Reply Log Right)) (w : Writer Request Reply Log Right)
    → all ≡ front ++ w ∷ [] → AreNew table (length all) (reverse all)
    → AreNew table (length front) (reverse front) × IsNew table (suc (length front)) w
writers_split {Request} {Reply} {Log} {Right} table all front w is new =
    let r : ℕ = length front in
    let turned : reverse all ≡ w ∷ reverse front = ap reverse is ∙ reverse_last front w in
    let all_new : AreNew table (suc r) (reverse all) = subst (λ k. AreNew table k (reverse all)) (length_last front all w is) new in
    let parts : IsNew table (suc r) w × AreNew table (suc r - 1) (reverse front) = subst (λ (l : List (Writer Request Reply Log Right)). AreNew table (suc r) l) turned all_new in
    (subst (λ k. AreNew table k (reverse front)) (let k : suc r - 1 ≡ r = omega arith in k) parts.1, parts.0)

-- the numbers of the seats

range_last : (a n : ℕ) → range_with_len a (suc n) ≡ range_with_len a n ++ (a + n) ∷ []
range_last a zero = ap (λ k. k ∷ []) (let e : a ≡ a + 0 = omega arith in e)
range_last a (suc n) = ap (λ l. a ∷ l) (range_last (a + 1) n ∙ ap (λ k. range_with_len (a + 1) n ++ k ∷ []) (let e : a + 1 + n ≡ a + suc n = omega arith in e))

range_size : (a n : ℕ) → length (range_with_len a n) ≡ n
range_size a zero = refl
range_size a (suc n) = ap suc (range_size (a + 1) n)

map_size : {A B : Type 0} (f : A → B) (xs : List A) → length (map f xs) ≡ length xs
map_size f [] = refl
map_size f (x ∷ xs) = ap suc (map_size f xs)

last_same : (xs ys : List ℕ) (x y : ℕ) → xs ++ x ∷ [] ≡ ys ++ y ∷ [] → (xs ≡ ys) × (x ≡ y)
last_same [] [] x y e = (refl, cc)
last_same [] (z ∷ []) x y e = absurd (cc)
last_same [] (z ∷ w ∷ ys) x y e = absurd (cc)
last_same (z ∷ []) [] x y e = absurd (cc)
last_same (z ∷ w ∷ xs) [] x y e = absurd (cc)
last_same (z ∷ xs) (w ∷ ys) x y e = let rest : xs ++ x ∷ [] ≡ ys ++ y ∷ [] = cc in let first : z ≡ w = cc in let t = last_same xs ys x y rest in ((λ i. first i ∷ t.0 i), t.1)

map_last : {A B : Type 0} (f : A → B) (xs : List A) (x : A) → map f (xs ++ x ∷ []) ≡ map f xs ++ f x ∷ []
map_last f [] x = refl
map_last f (y ∷ ys) x = ap (λ l. f y ∷ l) (map_last f ys x)

in_front : {A : Type 0} (a : A) (xs : List A) (x : A) → In a xs → In a (xs ++ x ∷ [])
in_front a [] x h = absurd h
in_front a (y ∷ ys) x h = ⊎_elim (λ (e : y ≡ a). inl e) (λ (t : In a ys). inr (in_front a ys x t)) h

in_last : {A : Type 0} (xs : List A) (x : A) → In x (xs ++ x ∷ [])
in_last [] x = inl refl
in_last (y ∷ ys) x = inr (in_last ys x)

module _ {T S U P : Type 0} (meaning : Meaning T S U P) (table : T) where
  -- the last of the seats is that of the last client
  pub seats_split : (count : ℕ) (front : List S) (s : S) → AreSeatsAtStart meaning table (suc count) (front ++ s ∷ [])
      → AreSeatsAtStart meaning table count front × (meaning.ours table s × IsReady (meaning.account s) × ((meaning.account s).seen ≡ []) × ((meaning.account s).number ≡ suc count))
  seats_split count front s h =
      let f : S → ℕ = λ (x : S). (meaning.account x).number in
      let t = last_same (map f front) (range_with_len 1 count) (f s) (1 + count) (sym (map_last f front s) ∙ (h.numbers ∙ range_last 1 count)) in
      let own = h.each s (in_last front s) in (
        record { numbers = t.0; each = λ x is. h.each x (in_front x front s is) },
        (own.0, own.1, own.2, t.1 ∙ (let e : 1 + count ≡ suc count = omega arith in e)),
      )

  pub seats_count : {Z : Type 0} (count : ℕ) (seats : Vec S Z) → AreSeatsAtStart meaning table count seats.items → vec_len seats ≡ count
  seats_count count seats h = seats.ok.0 ∙ (sym (map_size (λ (x : S). (meaning.account x).number) seats.items) ∙ (ap length h.numbers ∙ range_size 1 count))

module _ {C : Type 0} (controller : Controller C) where
  -- the last of the passes is that of the last client
  pub passes_split : (number : ℕ) (front : List Pass) (p : Pass) → ArePassesAtStart controller number (front ++ p ∷ [])
      → ArePassesAtStart controller number front × IsPassAtStart controller (number + length front) p
  passes_split number [] p h = (tt, subst (λ n. IsPassAtStart controller n p) (let e : number ≡ number + 0 = omega arith in e) h.0)
  passes_split number (x ∷ front) p h =
      let t = passes_split (number + 1) front p h.1 in
      ((h.0, t.0), subst (λ n. IsPassAtStart controller n p) (let e : number + 1 + length front ≡ number + suc (length front) = omega arith in e) t.1)

  pub passes_at_start : (number : ℕ) (ps : List Pass)
      → ((i : ℕ) (p : Pass) → slice_get ps i ≡ Some p → IsPassOf controller p × (pass_client p ≡ i + number) × (seen_by p ≡ []))
      → ArePassesAtStart controller number ps
  passes_at_start number [] h = tt
  passes_at_start number (p ∷ ps) h =
      let own = h 0 p refl in (
        record { own = own.0; client = own.1 ∙ (let e : 0 + number ≡ number = omega arith in e); unseen = own.2 },
        passes_at_start (number + 1) ps (λ i x e. let t = h (suc i) x e in
            (t.0, t.1 ∙ (let n : suc i + number ≡ i + (number + 1) = omega arith in n), t.2)),
      )

module _ {D T C G S U P : Type 0} {ghosts : Ghosts D} (meaning : Meaning T S U P) (e : GroupEngine D T C G S U P ghosts) where
  pub newcomer_at : (k i : ℕ) (cs : List (EngineClient D T C S U P ghosts)) (c : EngineClient D T C S U P ghosts) → AreNewcomers meaning e k cs → slice_get cs i ≡ Some c → IsNewcomer meaning e (k + i) c
  newcomer_at k i [] c h at = absurd (cc)
  newcomer_at k zero (x ∷ cs) c h at = let is : x ≡ c = cc in subst (λ (z : ℕ × EngineClient D T C S U P ghosts). IsNewcomer meaning e z.0 z.1) (λ j. ((let n : k ≡ k + 0 = omega arith in n) j, is j)) h.0
  newcomer_at k (suc i) (x ∷ cs) c h at = subst (λ n. IsNewcomer meaning e n c) (let n : k + 1 + i ≡ k + suc i = omega arith in n) (newcomer_at (k + 1) i cs c h.1 at)

  pub are_ours : (cs : List (EngineClient D T C S U P ghosts)) → AreNewcomers meaning e 1 cs → length cs ≡ clients_of e.list → AreOurs (IsClientOf meaning e) (account_in meaning) (clients_of e.list) cs
  are_ours cs h count = record {
    number_of = count;
    each = λ i c at. let one = newcomer_at 1 i cs c h at in (one.is_client, ap (λ a. a.number) one.new ∙ (let n : 1 + i ≡ i + 1 = omega arith in n));
  }
