-- Small facts for the calls.
use Rattle.std.proofs.Common.{◌≡◌, ℕ, ◌++◌, inl, ⊎_elim, List, [], ◌∷◌, refl, sym, ap, ◌∙◌, subst}
use Rattle.atomic_table.specs.Table.{rest}
use Rattle.atomic_table.specs.declared.shared.Seat.{Seat}
use Rattle.table_rule.specs.declared.view.Opening.{Opening}
use Rattle.table_rule.specs.declared.content.Content.{Content}
use Rattle.table_rule.specs.declared.content.Content.TheVariants.{Blank, Tree, Nodes}
use Rattle.table_rule.specs.declared.content.MemberVersions.{MemberVersions}
use Rattle.table_rule.specs.declared.view.Lock.{Lock}
use Rattle.table_rule.specs.declared.view.Stage.{Stage}
use Rattle.table_rule.specs.declared.view.SeatState.{SeatState}
use Rattle.table_rule.specs.declared.view.Lock.TheVariants.{Free}
use Rattle.table_rule.specs.declared.view.Stage.TheVariants.{Idle, Waiting, Holding, Stored, Publishing, Resting, Handing, Filling}
use Rattle.table_rule.specs.Rule.{seat_state, end_of}
use Rattle.table_rule.specs.Histories.{last_of}
use Rattle.table_steps.specs.declared.seat.TableSeat.{TableSeat}
use Rattle.table_rule.specs.Histories.{In}
use Rattle.table_rule.proofs.Histories.{in_left, in_right}
use Rattle.table_rule.proofs.Locks.{own}
use Rattle.table_steps.specs.declared.sizes.Sizes.{Sizes}
use Rattle.table_steps.specs.Sizes.{sizes_of}
use Rattle.table_steps.specs.Ends.{AreJoined}
use Rattle.table_rule.specs.Steps.{SeatNow, IsAt}

pub fronted : {A : Type 0} (l : List (ℕ × A)) (i : ℕ) (a : A) (more : List (ℕ × A)) → l ≡ (i, a) ∷ more → l ≡ (i, a) ∷ rest l
fronted l i a more e = e ∙ ap (λ t. (i, a) ∷ rest t) (sym e)

abbrev slot_or : {A : Type 0} → A → List (ℕ × A) → A
slot_or d [] = d
slot_or d (x ∷ xs) = x.1

-- what was taken out of a slot is what was in it
pub same_slot : {A : Type 0} (x y : A) (i j : ℕ) (l m m' : List (ℕ × A)) → l ≡ (i, x) ∷ m → l ≡ (j, y) ∷ m' → x ≡ y
same_slot x y i j l m m' a b = ap (slot_or x) (sym a ∙ b)

abbrev tree_or : {ShardTree NodeList : Type 0} → ShardTree → Content ShardTree NodeList → ShardTree
tree_or d Blank = d
tree_or d (Tree t) = t
tree_or d (Nodes x l) = d

abbrev top_or : {ShardTree NodeList : Type 0} → ShardTree → List (ℕ × Content ShardTree NodeList) → ShardTree
top_or d [] = d
top_or d (x ∷ xs) = tree_or d x.1

-- what was taken out of a slot that holds a tree is that tree
pub same_tree : {ShardTree NodeList : Type 0} (t u : ShardTree) (i j : ℕ) (l m m' : List (ℕ × Content ShardTree NodeList)) → l ≡ (i, Tree t) ∷ m → l ≡ (j, Tree u) ∷ m' → t ≡ u
same_tree t u i j l m m' a b = ap (top_or t) (sym a ∙ b)

-- a seat is as it was where a step has left what it sees
pub same_seat : {S V : Type 0} (a b : Seat S V) → a.table_id ≡ b.table_id → a.id ≡ b.id → a.me ≡ b.me → a ≡ b
same_seat a b t n m = λ i. record { marker = a.marker; table_id = t i; id = n i; me = m i }

pub shards_of : (z : Opening) (s : Sizes) → sizes_of z ≡ s → s.shards ≡ z.shards
shards_of z s e = ap (λ (x : Sizes). x.shards) (sym e)

pub renamed : {ShardTree NodeList : Type 0} (c d : ℕ) (z : Opening) (seen : List (List MemberVersions)) (lock : Lock) (stage : Stage) (m : SeatNow ShardTree NodeList) → d ≡ c → IsAt c z seen lock stage m → IsAt d z seen lock stage m
renamed c d z seen lock stage m e ok = ok ∙ (λ i. seat_state (sym e i) z seen lock stage ∷ [])

abbrev group_in : Stage → List MemberVersions
group_in Idle = []
group_in (Waiting u) = []
group_in (Holding w) = []
group_in (Stored l) = []
group_in (Publishing l) = []
group_in Resting = []
group_in (Handing g ps) = g
group_in (Filling g p ps) = g

pub same_goal : {ShardTree NodeList : Type 0} (z : Opening) (seen seen' : List (List MemberVersions)) (g g' : List MemberVersions) (m : SeatNow ShardTree NodeList) → IsAt 0 z seen Free (Handing g []) m → IsAt 0 z seen' Free (Handing g' []) m → end_of (last_of z.start seen) g ≡ end_of (last_of z.start seen') g'
same_goal z seen seen' g g' m a b = let e = sym a ∙ b in (λ i. end_of (last_of z.start (own (e i)).seen) (group_in (own (e i)).stage))

abbrev nodes_or : {ShardTree NodeList : Type 0} → NodeList × ℕ → Content ShardTree NodeList → NodeList × ℕ
nodes_or d Blank = d
nodes_or d (Tree t) = d
nodes_or d (Nodes x l) = (x, l)

abbrev first_or : {ShardTree NodeList : Type 0} → NodeList × ℕ → List (ℕ × Content ShardTree NodeList) → NodeList × ℕ
first_or d [] = d
first_or d (x ∷ xs) = nodes_or d x.1

pub same_nodes : {ShardTree NodeList : Type 0} (x y : NodeList) (k l i j : ℕ) (c m m' : List (ℕ × Content ShardTree NodeList)) → c ≡ (i, Nodes x k) ∷ m → c ≡ (j, Nodes y l) ∷ m' → (x ≡ y) × (k ≡ l)
same_nodes x y k l i j c m m' a b = let e = ap (first_or (x, k)) (sym a ∙ b) in (ap (λ p. p.0) e, ap (λ p. p.1) e)

pub joined_more : {ShardTree NodeList : Type 0} (z : Opening) (w : TableSeat ShardTree NodeList) (ws : List (TableSeat ShardTree NodeList)) (v : List SeatState) → AreJoined z ws v → AreJoined z (w ∷ ws) (v ++ w.client.seat.me.0)
joined_more {ShardTree = ShardTree} {NodeList = NodeList} z w ws v ok x seen has at = ⊎_elim
    (λ (e : w ≡ x). in_right (seat_state x.client.number z seen Free Idle) v w.client.seat.me.0 (subst (λ (l : List SeatState). In (seat_state x.client.number z seen Free Idle) l) (sym (ap (λ (y : TableSeat ShardTree NodeList). y.client.seat.me.0) e ∙ at)) (inl refl)))
    (λ (t : In x ws). in_left (seat_state x.client.number z seen Free Idle) v w.client.seat.me.0 (ok x seen t at))
    has
