use Rattle.std.proofs.Common.{◌≡◌, ℕ, ◌+◌, zero, suc, Some, [], ◌∷◌, refl, sym, ap, ◌∙◌}
use Rattle.std.specs.Prelude.{slice_get}
use Rattle.model_accounts.specs.Accounts.{newcomer}
use Rattle.tests_clients.specs.declared.mute.MuteClient.{MuteClient}
use Rattle.tests_clients.proofs.no_memory.two_clients.Goals as goal

numbered : (i : ℕ) (a b x : MuteClient) → slice_get (a ∷ b ∷ []) i ≡ Some x → a.number ≡ 1 → b.number ≡ 2 → x.number ≡ i + 1
numbered zero a b x at one two = let is : a ≡ x = cc in ap (λ (c : MuteClient). c.number) (sym is) ∙ one
numbered (suc zero) a b x at one two = let is : b ≡ x = cc in ap (λ (c : MuteClient). c.number) (sym is) ∙ two
numbered (suc (suc i)) a b x at one two = absurd (cc)

pub returns-clause-ours : goal.returns-clause-ours
returns-clause-ours c = rw c.in_ok-clients.ensures.items (record { number_of = refl; each = λ i x at. (tt, numbered i _ _ x at refl refl) })

pub returns-clause-new : goal.returns-clause-new
returns-clause-new c = rw c.in_ok-clients.ensures.items (record { each = λ i x at. ap (newcomer 0 []) (numbered i _ _ x at refl refl) })
