-- Drawn bytes that overwrite a list, from its first byte on.
use Rattle.std.proofs.Common.{◌≡◌, ℕ, suc, ◌+◌, ◌-◌, ◌%◌, ◌<◌, List, [], ◌∷◌, ◌++◌, length, take, map, set, sym, ◌∙◌, ap, arith, append_assoc}
use Rattle.std.proofs.lemmas.List.{take_more_set}
use Rattle.model_base.specs.Generator.{next_state, number_at, numbers_from}

-- n bytes that are drawn from a state on
abbrev pub drawn_from : ℕ → ℕ → List ℕ
drawn_from n state = map (λ number. number % 256) (numbers_from n state)

-- After one more draw, the bytes so far and those still to be drawn are still the whole.
pub drawn_further : (bytes whole : List ℕ) (i n state next byte : ℕ) → i < length bytes → i < n → next ≡ next_state state → byte ≡ number_at next % 256
    → take i bytes ++ drawn_from (n - i) state ≡ whole → take (i + 1) (set bytes i byte) ++ drawn_from (n - (i + 1)) next ≡ whole
drawn_further bytes whole i n state next byte lt more goes_on is so_far =
    let rest : ℕ = n - (i + 1) in
    let left : n - i ≡ suc rest = omega arith in
    let drawn : byte ≡ number_at (next_state state) % 256 = is ∙ ap (λ s. number_at s % 256) goes_on in
    ap (λ s. take (i + 1) (set bytes i byte) ++ drawn_from rest s) goes_on
    ∙ ap (λ (l : List ℕ). l ++ drawn_from rest (next_state state)) (take_more_set bytes i byte lt)
    ∙ append_assoc (take i bytes) (byte ∷ []) (drawn_from rest (next_state state))
    ∙ ap (λ b. take i bytes ++ b ∷ drawn_from rest (next_state state)) drawn
    ∙ sym (ap (λ k. take i bytes ++ drawn_from k state) left)
    ∙ so_far
