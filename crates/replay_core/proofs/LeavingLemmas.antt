-- Writers that leave, by their clients' numbers.
use Rattle.std.proofs.Common.{◌≡◌, ◌≢◌, ℕ, zero, suc, ◌+◌, ◌<◌, Bool, true, false, ◌==◌, List, [], ◌∷◌, ◌++◌, length, take, drop, map, get_or, slice_set, Option, Some, None, refl, sym, ap, ◌∙◌, subst, arith, append_assoc}
use Rattle.std.specs.Prelude.{if◌then◌else◌, option_map}
use Rattle.std.specs.List.{AllByRecursion}
use Rattle.std.specs.Option.{option_or}
use Rattle.std.proofs.lemmas.List.{get_or-set_same, get_or-set_other, take-append-le, length-take-le, drop-drop, map-append, take_more}
use Rattle.std.proofs.lemmas.List.Folds.{find-append}
use Rattle.std.proofs.lemmas.Bool.Decides.{nat_tests}
use Rattle.std.proofs.Math.Seq.{drop-append-add}
use Rattle.model_base.specs.declared.write.Refusal.{Refusal}
use Rattle.model_base.specs.Calls.{refused}
use Rattle.model_core.specs.Core as core
use Rattle.replay_plans.specs.declared.plan.ClientPlan.{ClientPlan}
use Rattle.replay_core.specs.declared.writer.Answer.TheVariants.{Refused}
use Rattle.replay_core.specs.declared.writer.Writer.{Writer}
use Rattle.replay_core.specs.Shown.{shown_writer}
use Rattle.replay_core.proofs.MarkLemmas.{same_either_way}
use Rattle.replay_core.specs.Mirrors.{AreDone, IsClientOf, done_of}

pub done_set : (done : List (Option Writer)) (place client c : ℕ) (x : Option Writer) → place < length done → client ≡ place + 1 → done_of (slice_set done place x) c ≡ (if c == client then x else done_of done c)
done_set done place client zero x h e =
    let no : (0 == client) ≡ false = grind (arith, nat_tests) in
    sym (ap (λ b. if b then x else None) no)
done_set done place client (suc c) x h e = by_test (suc c == client) refl
  where
    by_test : (b : Bool) → (suc c == client) ≡ b → get_or (slice_set done place x) c None ≡ (if b then x else get_or done c None)
    by_test true t =
        let same : c ≡ place = grind (arith, nat_tests) in
        ap (λ k. get_or (slice_set done place x) k None) same ∙ get_or-set_same done place x None h
    by_test false t =
        let other : c ≢ place = λ same. let yes : suc c ≡ client = omega arith in grind (arith, nat_tests) in
        get_or-set_other done place c x None other

-- one more writer has left
pub done_more : (plans : List ClientPlan) (old new : List (Option Writer)) (leaving : List core.Writer) (w : Writer) → AreDone plans old leaving
    → ((c : ℕ) → done_of new c ≡ option_or (done_of old c) (if w.client == c then Some w else None)) → AreDone plans new (leaving ++ shown_writer plans w ∷ [])
done_more plans old new leaving w are set = λ c.
    find-append (λ (v : core.Writer). v.client == c) leaving (shown_writer plans w ∷ [])
    ∙ ap (λ o. option_or o (if w.client == c then Some (shown_writer plans w) else None)) (are c)
    ∙ both (done_of old c) (w.client == c)
    ∙ ap (option_map (shown_writer plans)) (sym (set c))
  where
    both : (o : Option Writer) (b : Bool) → option_or (option_map (shown_writer plans) o) (if b then Some (shown_writer plans w) else None) ≡ option_map (shown_writer plans) (option_or o (if b then Some w else None))
    both None true = refl
    both None false = refl
    both (Some x) true = refl
    both (Some x) false = refl

-- one more item is taken out at a place
pub removed_more : {A : Type 0} (xs : List A) (start i : ℕ) → start + i < length xs
    → take start (take start xs ++ drop (start + i) xs) ++ drop (start + 1) (take start xs ++ drop (start + i) xs) ≡ take start xs ++ drop (start + (i + 1)) xs
removed_more xs start i h =
    let len : length (take start xs) ≡ start = length-take-le start xs (omega arith) in
    let front : take start (take start xs ++ drop (start + i) xs) ≡ take start (take start xs) = take-append-le start (take start xs) (drop (start + i) xs) (omega (arith, len)) in
    let front_same : take start (take start xs) ≡ take start xs = ap (λ n. take n (take start xs)) (sym len) ∙ all (take start xs) in
    let back : drop (start + 1) (take start xs ++ drop (start + i) xs) ≡ drop 1 (drop (start + i) xs) =
    ap (λ n. drop (n + 1) (take start xs ++ drop (start + i) xs)) (sym len) ∙ drop-append-add (take start xs) (drop (start + i) xs) 1 in
    let back_same : drop 1 (drop (start + i) xs) ≡ drop (start + i + 1) xs = drop-drop 1 (start + i) xs in
    let place : start + i + 1 ≡ start + (i + 1) = omega arith in
    ap (λ ys. ys ++ drop (start + 1) (take start xs ++ drop (start + i) xs)) (front ∙ front_same)
    ∙ ap (λ ys. take start xs ++ ys) (back ∙ back_same ∙ ap (λ n. drop n xs) place)
  where
    all : {A : Type 0} (ys : List A) → take (length ys) ys ≡ ys
    all [] = refl
    all (y ∷ ys) = ap (λ zs. y ∷ zs) (all ys)

or_none : {A : Type 0} (o : Option A) → o ≡ option_or o None
or_none None = refl
or_none (Some x) = refl

pub note_none : (old new : List (Option Writer)) (w : Writer) → done_of old w.client ≡ None → ((c : ℕ) → done_of new c ≡ (if c == w.client then Some w else done_of old c))
    → (c : ℕ) → done_of new c ≡ option_or (done_of old c) (if w.client == c then Some w else None)
note_none old new w none set c = set c ∙ by_test (c == w.client) refl
  where
    by_test : (b : Bool) → (c == w.client) ≡ b → (if b then Some w else done_of old c) ≡ option_or (done_of old c) (if w.client == c then Some w else None)
    by_test true t =
        let same : c ≡ w.client = grind (arith, nat_tests) in
        let yes : (w.client == c) ≡ true = same_either_way w.client c ∙ t in
        let here : done_of old c ≡ None = ap (done_of old) same ∙ none in
        sym (ap (λ b. option_or (done_of old c) (if b then Some w else None)) yes ∙ ap (λ o. option_or o (Some w)) here)
    by_test false t =
        let no : (w.client == c) ≡ false = same_either_way w.client c ∙ t in
        or_none (done_of old c) ∙ sym (ap (λ b. option_or (done_of old c) (if b then Some w else None)) no)

pub note_some : (old : List (Option Writer)) (w x : Writer) → done_of old w.client ≡ Some x → (c : ℕ) → done_of old c ≡ option_or (done_of old c) (if w.client == c then Some w else None)
note_some old w x some c = by_test (w.client == c) refl
  where
    by_test : (b : Bool) → (w.client == c) ≡ b → done_of old c ≡ option_or (done_of old c) (if b then Some w else None)
    by_test true t =
        let same : w.client ≡ c = grind (arith, nat_tests) in
        let here : done_of old c ≡ Some x = ap (done_of old) (sym same) ∙ some in
        here ∙ sym (ap (λ o. option_or o (Some w)) here)
    by_test false t = or_none (done_of old c)

-- one more writer of a group has left
pub group_more : (plans : List ClientPlan) (new : List (Option Writer)) (leaving : List core.Writer) (ws : List Writer) (i : ℕ) (d : Writer) → i < length ws
    → AreDone plans new ((leaving ++ map (shown_writer plans) (take i ws)) ++ shown_writer plans (get_or ws i d) ∷ []) → AreDone plans new (leaving ++ map (shown_writer plans) (take (i + 1) ws))
group_more plans new leaving ws i d h are =
    let P : List core.Writer → Type 0 = λ xs. AreDone plans new xs in
    let e : (leaving ++ map (shown_writer plans) (take i ws)) ++ shown_writer plans (get_or ws i d) ∷ [] ≡ leaving ++ map (shown_writer plans) (take (i + 1) ws) =
    append_assoc leaving (map (shown_writer plans) (take i ws)) (shown_writer plans (get_or ws i d) ∷ [])
    ∙ ap (λ xs. leaving ++ xs) (sym (map-append (shown_writer plans) (take i ws) (get_or ws i d ∷ [])) ∙ ap (map (shown_writer plans)) (sym (take_more ws i d h)))
    in subst P e are

pub known_at : (n : ℕ) (ws : List Writer) (i : ℕ) (d : Writer) → AllByRecursion (IsClientOf n) ws → i < length ws → IsClientOf n (get_or ws i d)
known_at n [] i d all h = absurd (omega arith)
known_at n (w ∷ ws) zero d all h = all.0
known_at n (w ∷ ws) (suc i) d all h = known_at n ws i d all.1 (omega arith)

pub known_len : (m n : ℕ) (w : Writer) → m ≡ n → IsClientOf m w → IsClientOf n w
known_len m n w e k = let P : ℕ → Type 0 = λ x. IsClientOf x w in subst P e k

pub all_known_len : (m n : ℕ) (ws : List Writer) → m ≡ n → AllByRecursion (IsClientOf m) ws → AllByRecursion (IsClientOf n) ws
all_known_len m n ws e k = let P : ℕ → Type 0 = λ x. AllByRecursion (IsClientOf x) ws in subst P e k

-- a writer with a refusal
abbrev pub with_refusal : Refusal → Writer → Writer
with_refusal why w = record { client = w.client; options = w.options; batch = w.batch; count = w.count; since = w.since; answer = Some (Refused why) }

abbrev refused_shown : Refusal → List ClientPlan → List Writer → List core.Writer
refused_shown why plans ws = core.all_answered (refused why) (map (shown_writer plans) ws)

pub refused_more : (plans : List ClientPlan) (why : Refusal) (new : List (Option Writer)) (leaving : List core.Writer) (ws : List Writer) (i : ℕ) (d : Writer) → i < length ws
    → AreDone plans new ((leaving ++ core.all_answered (refused why) (map (shown_writer plans) (take i ws))) ++ shown_writer plans (with_refusal why (get_or ws i d)) ∷ [])
    → AreDone plans new (leaving ++ core.all_answered (refused why) (map (shown_writer plans) (take (i + 1) ws)))
refused_more plans why new leaving ws i d h are =
    let P : List core.Writer → Type 0 = λ xs. AreDone plans new xs in
    let one : core.Writer = shown_writer plans (with_refusal why (get_or ws i d)) in
    let more : refused_shown why plans (take (i + 1) ws) ≡ refused_shown why plans (take i ws) ++ one ∷ [] =
    ap (refused_shown why plans) (take_more ws i d h)
    ∙ ap (core.all_answered (refused why)) (map-append (shown_writer plans) (take i ws) (get_or ws i d ∷ []))
    ∙ map-append (λ (w : core.Writer). record w { answer = Some (refused why) }) (map (shown_writer plans) (take i ws)) (shown_writer plans (get_or ws i d) ∷ []) in
    let e : (leaving ++ refused_shown why plans (take i ws)) ++ one ∷ [] ≡ leaving ++ refused_shown why plans (take (i + 1) ws) =
    append_assoc leaving (refused_shown why plans (take i ws)) (one ∷ []) ∙ ap (λ xs. leaving ++ xs) (sym more)
    in subst P e are
