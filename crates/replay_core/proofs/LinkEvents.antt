-- A batch that goes to the end of the queue.
use Rattle.std.proofs.Common.{◌≡◌, ℕ, zero, suc, ◌+◌, ◌<◌, ◌≤◌, false, List, [], ◌∷◌, ◌++◌, length, take, drop, map, slice_get, slice_set, Option, Some, None, refl, sym, ap, ◌∙◌, arith}
use Rattle.std.specs.Prelude.{if◌then◌else◌}
use Rattle.std.specs.List.{AllByRecursion}
use Rattle.std.specs.Option.{option_map_or, option_and_then}
use Rattle.std.proofs.lemmas.List.{length-drop, drop-append-le, take-append-le}
use Rattle.std.proofs.lemmas.List.Sums.{sum_by-cons}
use Rattle.model_base.specs.declared.group.Item.{Item}
use Rattle.model_base.specs.declared.write.WriteOptions.{WriteOptions}
use Rattle.model_base.specs.Batch.{count_of}
use Rattle.model_base.specs.Calls.{Command, commit, updates}
use Rattle.model_core.specs.Core as core
use Rattle.model_core.specs.Step as event
use Rattle.replay_plans.specs.declared.plan.ClientPlan.{ClientPlan}
use Rattle.replay_core.specs.declared.phases.LogPhase.{LogPhase}
use Rattle.replay_plans.specs.declared.plan.Lines.{Lines}
use Rattle.replay_core.specs.declared.writer.Writer.{Writer}
use Rattle.replay_plans.specs.Plans.{records_in, records_of}
use Rattle.replay_core.specs.Shown.{shown_writer, shown_log, groups_of_lengths, total}
use Rattle.replay_core.specs.Mirrors.{IsLine, IsClientOf, AreWriters, lines_left}
use Rattle.replay_plans.specs.Ahead.{commit_of, updates_of}

pub commit_is : (o : Option Command) (how : WriteOptions) → option_and_then commit_of o ≡ Some how → o ≡ Some (commit how)
commit_is None how e = cc
commit_is (Some (commit options)) how e = let same : options ≡ how = cc in ap (λ x. Some (commit x)) same
commit_is (Some other) how e = absurd (cc e)

-- a client that waits links nothing
pub link_waits : (o : core.Options) (s : core.State) (c : ℕ) (client : core.Client) → core.client_at s c ≡ Some client → client.idle ≡ false → event.link o s c (core.client_at s c) ≡ None
link_waits o s c client there busy =
    ap (event.link o s c) there ∙ ap (λ b. if b then event.link_call o s c (core.next_call client).client (core.next_call client).call else None) busy

-- neither a commit nor a read of the log
pub not_linked : (o : core.Options) (s : core.State) (c : ℕ) (client : core.Client) (line : Option Command) → option_and_then commit_of line ≡ None → option_and_then updates_of line ≡ None → event.link_call o s c client line ≡ None
not_linked o s c client None e f = refl
not_linked o s c client (Some (commit options)) e f = absurd (cc e)
not_linked o s c client (Some (updates n)) e f = absurd (cc f)
not_linked o s c client (Some other) e f = refl

pub updates_is : (o : Option Command) (n : ℕ) → option_and_then updates_of o ≡ Some n → o ≡ Some (updates n)
updates_is None n e = cc
updates_is (Some (updates k)) n e = let same : k ≡ n = cc in ap (λ x. Some (updates x)) same
updates_is (Some other) n e = absurd (cc e)

pub records_at : (plans : List ClientPlan) (c place : ℕ) (plan : ClientPlan) (lines : Lines) → c ≡ place + 1 → slice_get plans place ≡ Some plan → records_of plans c lines ≡ records_in plan lines
records_at plans c place plan lines e there =
    let k : c ≡ suc place = omega arith in
    ap (λ n. records_of plans n lines) k ∙ ap (λ o. option_map_or (λ p. records_in p lines) o []) there

-- A client has passed a line, so the clients have fewer lines left.
pub lines_less : (clients : List core.Client) (i : ℕ) (old new : core.Client) → i < length clients → slice_get clients i ≡ Some old → length new.left + 1 ≤ length old.left → lines_left (slice_set clients i new) + 1 ≤ lines_left clients
lines_less [] i old new h there fewer = absurd (omega arith)
lines_less (x ∷ clients) zero old new h there fewer =
    let same : x ≡ old = cc in
    let len : length x.left ≡ length old.left = ap (λ (c : core.Client). length c.left) same in
    omega (arith, fewer, len, sum_by-cons (λ (c : core.Client). length c.left) new clients, sum_by-cons (λ (c : core.Client). length c.left) x clients)
lines_less (x ∷ clients) (suc i) old new h there fewer =
    omega (arith, lines_less clients i old new (omega arith) there fewer, sum_by-cons (λ (c : core.Client). length c.left) x clients, sum_by-cons (λ (c : core.Client). length c.left) x (slice_set clients i new))

pub map_push : {A B : Type 0} (f : A → B) (xs : List A) (x : A) → map f (xs ++ x ∷ []) ≡ map f xs ++ f x ∷ []
map_push f [] x = refl
map_push f (y ∷ xs) x = ap (λ ys. f y ∷ ys) (map_push f xs x)

all_push : {A : Type 0} (P : A → Type 0) (xs : List A) (x : A) → AllByRecursion P xs → P x → AllByRecursion P (xs ++ x ∷ [])
all_push P [] x h k = (k, tt)
all_push P (y ∷ xs) x h k = (h.0, all_push P xs x h.1 k)

cut_longer : {A : Type 0} (ns : List ℕ) (xs ys : List A) → total ns ≤ length xs → groups_of_lengths ns (xs ++ ys) ≡ groups_of_lengths ns xs
cut_longer [] xs ys h = refl
cut_longer (n ∷ ns) xs ys h =
    let front : take n (xs ++ ys) ≡ take n xs = take-append-le n xs ys (omega (arith, h)) in
    let back : drop n (xs ++ ys) ≡ drop n xs ++ ys = drop-append-le n xs ys (omega (arith, h)) in
    let rest : groups_of_lengths ns (drop n xs ++ ys) ≡ groups_of_lengths ns (drop n xs) = cut_longer ns (drop n xs) ys (omega (arith, h, length-drop n xs)) in
    ap (λ zs. zs ∷ groups_of_lengths ns (drop n (xs ++ ys))) front ∙ ap (λ zs. take n xs ∷ groups_of_lengths ns zs) back ∙ ap (λ gs. take n xs ∷ gs) rest

pub line_push : (ws : List core.Writer) (w : core.Writer) (second : List ℕ) (in_second in_hand : ℕ) (log : LogPhase) (s : core.State) (clients : List core.Client) → in_second + in_hand ≤ length ws
    → IsLine ws second in_second in_hand log s → IsLine (ws ++ w ∷ []) second in_second in_hand log (record s { clients = clients; queue = s.queue ++ w ∷ [] })
line_push ws w second in_second in_hand log s clients h line =
    let front : drop in_second (ws ++ w ∷ []) ≡ drop in_second ws ++ w ∷ [] = drop-append-le in_second ws (w ∷ []) (omega (arith, h)) in
    let hand : take in_hand (drop in_second ws ++ w ∷ []) ≡ take in_hand (drop in_second ws) = take-append-le in_hand (drop in_second ws) (w ∷ []) (omega (arith, h, length-drop in_second ws)) in
    let groups : groups_of_lengths second (ws ++ w ∷ []) ≡ groups_of_lengths second ws = cut_longer second ws (w ∷ []) (omega (arith, h, line.second_sum)) in
    record {
      second_sum = line.second_sum;
      second_groups = line.second_groups ∙ sym groups;
      hand = line.hand ∙ sym (ap (λ zs. shown_log log (take in_hand zs)) front ∙ ap (shown_log log) hand);
      no_hand = line.no_hand;
      queue = ap (λ q. q ++ w ∷ []) line.queue ∙ sym (drop-append-le (in_second + in_hand) ws (w ∷ []) h);
    }

pub writers_push : (plans : List ClientPlan) (ws : List Writer) (items : List Item) (w : Writer) (item : Item) → AreWriters plans ws items → item ≡ core.item_of (shown_writer plans w)
    → w.count ≡ count_of (records_of plans w.client w.batch) → IsClientOf (length plans) w → AreWriters plans (ws ++ w ∷ []) (items ++ item ∷ [])
writers_push plans ws items w item are is counted known = record {
  items_are = ap (λ is. is ++ item ∷ []) are.items_are ∙ ap (λ i. map (λ w. core.item_of (shown_writer plans w)) ws ++ i ∷ []) is ∙ sym (map_push (λ w. core.item_of (shown_writer plans w)) ws w);
  counts_are = map_push (λ (w : Writer). w.count) ws w ∙ ap (λ ns. ns ++ w.count ∷ []) are.counts_are
      ∙ ap (λ n. map (λ (w : Writer). count_of (records_of plans w.client w.batch)) ws ++ n ∷ []) counted ∙ sym (map_push (λ (w : Writer). count_of (records_of plans w.client w.batch)) ws w);
  known = all_push (IsClientOf (length plans)) ws w are.known known;
}
