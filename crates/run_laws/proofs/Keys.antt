-- Which client a generated key belongs to: the number after the key's first letter, up to the letter `k`.
use Rattle.std.proofs.Common.{◌≡◌, ℕ, ◌+◌, ◌-◌, ◌*◌, ◌/◌, ◌%◌, ◌^◌, ◌<◌, false, cond, ◌==◌, List, [], ◌∷◌, ◌++◌, codes, decimal, ap, ◌∙◌, append_assoc, arith}
use Rattle.std.proofs.lemmas.Bool.Decides.{nat_tests}
use Rattle.std.proofs.lemmas.Fmt.{decimal_by_steps}
use Rattle.std.proofs.lemmas.Nat.{mod_below}
use Rattle.model_base.specs.Generator.{key_of}

-- a number's digits, read on up to a `k`
abbrev number_before_k : ℕ → List ℕ → ℕ
number_before_k n [] = n
number_before_k n (b ∷ bytes) = cond (b == 107) n (number_before_k (10 * n + (b - 48)) bytes)

abbrev pub owner : List ℕ → ℕ
owner [] = 0
owner (b ∷ bytes) = number_before_k 0 bytes

one_digit : (n d : ℕ) (more : List ℕ) → d < 10 → number_before_k n ((48 + d) ∷ more) ≡ number_before_k (10 * n + d) more
one_digit n d more small =
    let no_k : ((48 + d) == 107) ≡ false = grind (arith, nat_tests) in let digit : 10 * n + (48 + d - 48) ≡ 10 * n + d = omega arith in
    rw no_k (ap (λ m. number_before_k m more) digit)

digits_read : (n : ℕ) → n < 2 ^ 64 → (more : List ℕ) → number_before_k 0 (decimal n ++ more) ≡ number_before_k n more
digits_read n fits =
    decimal_by_steps (λ m digits. (more : List ℕ) → number_before_k 0 (digits ++ more) ≡ number_before_k m more)
    (λ m digit more. one_digit 0 m more digit ∙ ap (λ k. number_before_k k more) (omega arith))
    (λ m digits large so_far more.
    let last = m % 10 in let small : last < 10 = mod_below m 10 (omega arith) in
    ap (number_before_k 0) (append_assoc digits ((48 + last) ∷ []) more) ∙ so_far ((48 + last) ∷ more) ∙ one_digit (m / 10) last more small ∙ ap (λ k. number_before_k k more) (omega arith))
    n fits

pub owner-key_of : (client n : ℕ) → client < 2 ^ 64 → owner (key_of client n) ≡ client
owner-key_of client n fits = ap (number_before_k 0) (append_assoc (decimal client) (codes "k") (decimal n)) ∙ digits_read client fits (codes "k" ++ decimal n)
