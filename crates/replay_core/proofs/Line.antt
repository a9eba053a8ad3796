-- The line of writers that wait.
use Rattle.std.proofs.Common.{◌≡◌, ℕ, zero, suc, ◌+◌, ◌<◌, List, [], ◌∷◌, ◌++◌, length, take, drop, map, refl, sym, ap, ◌∙◌, arith}
use Rattle.std.specs.List.{drop-map}
use Rattle.std.proofs.lemmas.List.{drop-drop}
use Rattle.model_base.specs.declared.group.Item.{Item}
use Rattle.model_base.specs.Grouping.{group_len}
use Rattle.model_core.specs.Core as core
use Rattle.replay_plans.specs.declared.plan.ClientPlan.{ClientPlan}
use Rattle.replay_core.specs.declared.writer.Writer.{Writer}
use Rattle.replay_core.specs.Shown.{shown_writer, groups_of_lengths, total}

pub cut_push : {A : Type 0} (ns : List ℕ) (n : ℕ) (xs : List A) → groups_of_lengths (ns ++ n ∷ []) xs ≡ groups_of_lengths ns xs ++ take n (drop (total ns) xs) ∷ []
cut_push [] n xs = refl
cut_push (k ∷ ns) n xs =
    let later : drop (total ns) (drop k xs) ≡ drop (total (k ∷ ns)) xs = drop-drop (total ns) k xs in
    ap (λ gs. take k xs ∷ gs) (cut_push ns n (drop k xs)) ∙ ap (λ ys. (take k xs ∷ groups_of_lengths ns (drop k xs)) ++ take n ys ∷ []) later

pub sum_push : (ns : List ℕ) (n : ℕ) → total (ns ++ n ∷ []) ≡ total ns + n
sum_push [] n = grind arith
sum_push (k ∷ ns) n = omega (arith, sum_push ns n)

-- what grouping sees of the queue
items_shown : (plans : List ClientPlan) (ws : List Writer) → map core.item_of (map (shown_writer plans) ws) ≡ map (λ w. core.item_of (shown_writer plans w)) ws
items_shown plans [] = refl
items_shown plans (w ∷ ws) = ap (λ is. core.item_of (shown_writer plans w) ∷ is) (items_shown plans ws)

pub items_queue : (plans : List ClientPlan) (ws : List Writer) (items : List Item) (n : ℕ) → items ≡ map (λ w. core.item_of (shown_writer plans w)) ws
    → map core.item_of (drop n (map (shown_writer plans) ws)) ≡ drop n items
items_queue plans ws items n e =
    sym (drop-map core.item_of n (map (shown_writer plans) ws)) ∙ ap (drop n) (items_shown plans ws ∙ sym e)

-- the group that is taken out of the queue, also where the queue is empty
pub group_taken : (max n : ℕ) (queue : List core.Writer) (items : List Item) → map core.item_of queue ≡ items → (0 < length items → n ≡ group_len max items)
    → (take n queue ≡ take (group_len max (map core.item_of queue)) queue) × (drop n queue ≡ drop (group_len max (map core.item_of queue)) queue)
group_taken max zero [] items e is = (refl, refl)
group_taken max (suc n) [] items e is = (refl, refl)
group_taken max n (w ∷ ws) items e is =
    let some : 0 < length items = omega (arith, ap length e) in
    let same : n ≡ group_len max (map core.item_of (w ∷ ws)) = is some ∙ ap (group_len max) (sym e) in
    (ap (λ k. take k (w ∷ ws)) same, ap (λ k. drop k (w ∷ ws)) same)
