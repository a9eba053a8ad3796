-- A client's replies, by its number.
use Rattle.std.proofs.Common.{◌≡◌, ◌⊎◌, inl, inr, ℕ, zero, suc, ◌+◌, ◌<◌, List, [], ◌∷◌, length, get_or, slice_get, Option, Some, None, refl, sym, ap, ◌∙◌, subst, arith}
use Rattle.std.specs.Prelude.{MatchOption}
use Rattle.std.proofs.lemmas.Option.{slice_get_past}
use Rattle.model_core.specs.Core as core
use Rattle.replay_plans.specs.declared.plan.ClientPlan.{ClientPlan}
use Rattle.replay_core.specs.declared.writer.CoreReply.{CoreReply}
use Rattle.replay_core.specs.declared.state.Seat.{Seat}
use Rattle.replay_core.specs.Mirrors.{AreClients}
use Rattle.replay_plans.specs.Answers.{answers_of}
use Rattle.replay_core.specs.Replies.{AreReplies}

found_at : {A : Type 0} (xs : List A) (i : ℕ) (x : A) → i < length xs → x ≡ get_or xs i x → slice_get xs i ≡ Some x
found_at [] i x h e = absurd (omega arith)
found_at (y ∷ xs) zero x h e = ap Some (sym e)
found_at (y ∷ xs) (suc i) x h e = found_at xs i x (omega arith) e

some_at : {A : Type 0} (xs : List A) (i : ℕ) → i < length xs → (x : A) × (slice_get xs i ≡ Some x)
some_at [] i h = absurd (omega arith)
some_at (x ∷ xs) zero h = (x, refl)
some_at (x ∷ xs) (suc i) h = some_at xs i (omega arith)

pub replies_are : (plans : List ClientPlan) (seats : List Seat) (s : core.State) (client place : ℕ) (seat : Seat) (items : List CoreReply) → AreClients plans seats s.clients → client ≡ place + 1 → place < length plans
    → seat ≡ get_or seats place seat → items ≡ seat.replies.items → MatchOption (core.client_at s client) (items ≡ []) (λ (c : core.Client). AreReplies items (answers_of c.calls))
replies_are plans seats s client place seat items are is within found same =
    let next : client ≡ suc place = omega arith in
    let P : ℕ → Type 0 = λ n. MatchOption (core.client_at s n) (items ≡ []) (λ (c : core.Client). AreReplies items (answers_of c.calls)) in
    subst P (sym next) (by_client (slice_get s.clients place) refl)
  where
    by_client : (o : Option core.Client) → slice_get s.clients place ≡ o → MatchOption o (items ≡ []) (λ (c : core.Client). AreReplies items (answers_of c.calls))
    by_client None e =
        let there : (c : core.Client) × (slice_get s.clients place ≡ Some c) = some_at s.clients place (omega (arith, are.plan_each)) in
        let none : Some there.0 ≡ None = sym there.1 ∙ e in
        cc
    by_client (Some c) e =
        let plan : (p : ClientPlan) × (slice_get plans place ≡ Some p) = some_at plans place within in
        let found_seat : slice_get seats place ≡ Some seat = found_at seats place seat (omega (arith, are.plan_each, are.seat_each)) found in
        let Q : List CoreReply → Type 0 = λ xs. AreReplies xs (answers_of c.calls) in
        subst Q (sym same) (are.each place plan.0 seat c plan.1 found_seat e).replies

-- a number that no client has
pub no_replies : (plans : List ClientPlan) (seats : List Seat) (s : core.State) (client : ℕ) → AreClients plans seats s.clients → (client ≡ 0) ⊎ (length plans < client)
    → MatchOption (core.client_at s client) (◌≡◌ {A = List CoreReply} [] []) (λ (c : core.Client). AreReplies [] (answers_of c.calls))
no_replies plans seats s zero are past = refl
no_replies plans seats s (suc c) are (inl e) = absurd (omega (arith, e))
no_replies plans seats s (suc c) are (inr h) =
    let none : slice_get s.clients c ≡ None = slice_get_past s.clients c (omega (arith, h, are.plan_each)) in
    let P : Option core.Client → Type 0 = λ x. MatchOption x (◌≡◌ {A = List CoreReply} [] []) (λ (c : core.Client). AreReplies [] (answers_of c.calls)) in
    subst P (sym none) refl
