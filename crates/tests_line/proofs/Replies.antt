-- The replies to a group.
use Rattle.std.proofs.Common.{◌≡◌, ℕ, ◌+◌, ◌<◌, List, [], ◌∷◌, ◌++◌, length, take, get_or, refl, sym, ap, ◌∙◌}
use Rattle.std.proofs.lemmas.Grind.{take_at_read}
use Rattle.line_rule.specs.declared.view.Handling.{Handling}
use Rattle.line_rule.specs.Rule.{last_run}
use Rattle.line_writers.specs.Roles.{firsts}

-- where no reply gives a run, the last run's end stays at the start, which is 0
pub none_given : {Q P : Type 0} (start : ℕ) (hs : List (Handling Q P)) → start ≡ 0 → last_run (λ (p : P). (0, 0)) start hs ≡ 0
none_given start [] is = is
none_given start (h ∷ hs) is = none_given start hs is

firsts-append : {A : Type 0} (a b : List (ℕ × A)) → firsts (a ++ b) ≡ firsts a ++ firsts b
firsts-append [] b = refl
firsts-append (r ∷ rs) b = ap (λ l. r.0 ∷ l) (firsts-append rs b)

-- the replies so far and one more, to the client of the next request
pub more_firsts : {A B : Type 0} (rs : List (ℕ × A)) (qs : List (ℕ × B)) (i : ℕ) (a : A) (x : ℕ × B) → firsts rs ≡ firsts (take i qs) → i < length qs → x ≡ get_or qs i x
    → firsts (rs ++ (x.0, a) ∷ []) ≡ firsts (take (i + 1) qs)
more_firsts rs qs i a x is lt at =
    let cut : take (i + 1) qs ≡ take i qs ++ x ∷ [] = (take_at_read qs i x lt).1 ∙ ap (λ y. take i qs ++ y ∷ []) (sym at) in
    firsts-append rs ((x.0, a) ∷ []) ∙ (ap (λ l. l ++ x.0 ∷ []) is ∙ sym (ap firsts cut ∙ firsts-append (take i qs) (x ∷ [])))
