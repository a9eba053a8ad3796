-- Replies to a group.
use Rattle.std.proofs.Common.{◌≡◌, ℕ, ◌+◌, ◌<◌, ◌≤◌, List, [], ◌∷◌, ◌++◌, length, refl, ap, ◌∙◌, arith, length-append}
use Rattle.line_rule.specs.declared.view.QueuedWriter.{QueuedWriter}
use Rattle.std.specs.List.{AllByRecursion}
use Rattle.model_base.specs.declared.group.Item.{Item}
use Rattle.line_rule.specs.Chain.{Distinct, Within, AllCoded, heads}
use Rattle.line_rule.specs.Rule.{asks_for}
use Rattle.line_rule.proofs.Groups.{walk_bound}
use Rattle.line_rule.specs.Members.{asks, pays}
use Rattle.line_writers.specs.Roles.{firsts}

head_or : ℕ → List ℕ → ℕ
head_or d [] = d
head_or d (x ∷ xs) = x

tail_of : List ℕ → List ℕ
tail_of [] = []
tail_of (x ∷ xs) = xs

firsts-append : {A : Type 0} (a b : List (ℕ × A)) → firsts (a ++ b) ≡ firsts a ++ firsts b
firsts-append [] b = refl
firsts-append (r ∷ rs) b = ap (λ l. r.0 ∷ l) (firsts-append rs b)

-- the last of some replies, where it is known to which clients they go
last_of : {A : Type 0} (rs : List (ℕ × A)) (ks : List ℕ) (k : ℕ) → firsts rs ≡ ks ++ k ∷ [] → (init : List (ℕ × A)) × (r : A) × (rs ≡ init ++ (k, r) ∷ []) × (firsts init ≡ ks)
unfolding head_or tail_of
last_of [] [] k e = absurd (cc)
last_of [] (j ∷ ks) k e = absurd (cc)
last_of (r ∷ []) [] k e = ([], r.1, (λ i. (ap (head_or k) e i, r.1) ∷ []), refl)
last_of (r ∷ s ∷ rs) [] k e = absurd (let t = ap length e in omega arith)
last_of (r ∷ rs) (j ∷ ks) k e = let t = last_of rs ks k (ap tail_of e) in (r ∷ t.0, t.1, ap (λ l. r ∷ l) t.2, (λ i. ap (head_or k) e i ∷ t.3 i))

module _ {Request Reply : Type 0} where
  -- replies to the clients of the group in order, the leader first, are the replies of its members and its own
  pub pays_from : (own : QueuedWriter Request) (group : List (QueuedWriter Request)) (replies : List (ℕ × Reply)) → firsts replies ≡ firsts (asks own group) → (gs : List (QueuedWriter Request × Reply)) × (p : Reply) × (heads gs ≡ group) × (replies ≡ pays own p gs)
  unfolding head_or
  pays_from own [] replies e = let t = last_of replies [] own.by e in
      let none : t.0 ≡ [] = no_firsts t.0 t.3 in ([], t.1, refl, t.2 ∙ ap (λ l. l ++ (own.by, t.1) ∷ []) none)
    where
      no_firsts : (rs : List (ℕ × Reply)) → firsts rs ≡ [] → rs ≡ []
      no_firsts [] is = refl
      no_firsts (r ∷ rs) is = absurd (cc)
  pays_from own (x ∷ xs) replies e =
      let t = last_of replies (firsts (asks own xs)) x.by (e ∙ firsts-append (asks own xs) ((x.by, x.asked) ∷ [])) in
      let u = pays_from own xs t.0 t.3 in
      ((x, t.1) ∷ u.0, u.1, ap (λ l. x ∷ l) u.2, t.2 ∙ ap (λ l. l ++ (x.by, t.1) ∷ []) u.3)

module _ {Request : Type 0} where
  length-asks : (own : QueuedWriter Request) (group : List (QueuedWriter Request)) → length (asks own group) ≡ length group + 1
  length-asks own [] = refl
  length-asks own (x ∷ xs) = let e = length-asks own xs in let l = length-append (asks own xs) ((x.by, x.asked) ∷ []) in omega arith

  within_both : (n : ℕ) (a : List (QueuedWriter Request)) (o : QueuedWriter Request) → Within n a → 0 < o.by → o.by ≤ n → Within n (a ++ o ∷ [])
  within_both n [] o ok lo hi = (lo, hi, tt)
  within_both n (x ∷ xs) o ok lo hi = (ok.0, ok.1, within_both n xs o ok.2 lo hi)

  -- there are at most as many requests in a group as there are clients
  pub few_ask : (n : ℕ) (own : QueuedWriter Request) (group : List (QueuedWriter Request)) → Within n group → 0 < own.by → own.by ≤ n → Distinct (group ++ own ∷ []) → length (asks own group) ≤ n
  few_ask n own group ok lo hi apart =
      let b = walk_bound n (group ++ own ∷ []) (within_both n group own ok lo hi) apart in let l = length-append group (own ∷ []) in let e = length-asks own group in omega arith

lawful_both : {A : Type 0} (Reply : A → Type 0) (xs ys : List A) → AllByRecursion Reply xs → AllByRecursion Reply ys → AllByRecursion Reply (xs ++ ys)
lawful_both Reply [] ys ok more = more
lawful_both Reply (x ∷ xs) ys ok more = (ok.0, lawful_both Reply xs ys ok.1 more)

-- where each writer of a group has a lawful request, all requests of the group are lawful
pub lawful_asks : {Request About : Type 0} (item_of : Request → Item) (lawful : About → Request → Type 0) (about : About) (own : QueuedWriter Request) (group : List (QueuedWriter Request)) → AllCoded (asks_for item_of lawful about) (group ++ own ∷ []) → AllByRecursion (λ (x : ℕ × Request). lawful about x.1) (asks own group)
lawful_asks item_of lawful about own [] ok = (ok.0.1, tt)
lawful_asks {Request} item_of lawful about own (e ∷ es) ok = lawful_both (λ (x : ℕ × Request). lawful about x.1) (asks own es) ((e.by, e.asked) ∷ []) (lawful_asks item_of lawful about own es ok.1) (ok.0.1, tt)
