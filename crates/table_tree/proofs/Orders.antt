-- Versions up to a sequence in the order of their sequences.
use Rattle.std.proofs.Common.{◌≡◌, ◌↔◌, ◌⊎◌, ℕ, ◌<◌, ◌≤◌, List, [], ◌∷◌, ap, inl, inr, ⊎_elim, arith}
use Rattle.std.proofs.lemmas.Bool.{cases_lt}
use Rattle.table_rule.specs.declared.content.Version.{Version}
use Rattle.table_rule.specs.Histories.{In, AreRising, IsOrderUpTo}

-- m is l with v at a place where none before it is above it, and none after it is below it
record IsPut (v : Version) (l m : List Version) : Type 0 where
  same : (x : Version) → In x m ↔ ((v ≡ x) ⊎ In x l)
  rising : AreRising m

put : (v : Version) (l : List Version) → AreRising l → (m : List Version) × IsPut v l m
put v [] rising = (v ∷ [], record { same = λ x. (λ i. i, λ i. i); rising = (λ w i. absurd i, tt) })
put v (w ∷ l) rising = ⊎_elim (later (put v l rising.1)) first (cases_lt w.sequence v.sequence)
  where
    first : v.sequence ≤ w.sequence → (m : List Version) × IsPut v (w ∷ l) m
    first le = (
      v ∷ w ∷ l,
      record {
        same = λ x. (λ i. i, λ i. i);
        rising = (
          λ x i. elim i [
            | inl e ↦ let s = ap (λ (y : Version). y.sequence) e in omega arith
            | inr j ↦ let s = rising.0 x j in omega arith
          ],
          rising,
        );
      },
    )

    later : (m : List Version) × IsPut v l m → w.sequence < v.sequence → (m : List Version) × IsPut v (w ∷ l) m
    later rest less = (
      w ∷ rest.0,
      record {
        same = λ x. (
          λ i. elim i [
            | inl e ↦ inr (inl e)
            | inr j ↦ elim ((rest.1.same x).0 j) [ inl e ↦ inl e | inr k ↦ inr (inr k) ]
          ],
          λ i. elim i [
            | inl e ↦ inr ((rest.1.same x).1 (inl e))
            | inr j ↦ elim j [ inl e ↦ inl e | inr k ↦ inr ((rest.1.same x).1 (inr k)) ]
          ],
        );
        rising = (
          λ x i. elim ((rest.1.same x).0 i) [
            | inl e ↦ let s = ap (λ (y : Version). y.sequence) e in omega arith
            | inr k ↦ rising.0 x k
          ],
          rest.1.rising,
        );
      },
    )

pub order_up_to : (at : ℕ) (versions : List Version) → (order : List Version) × IsOrderUpTo at versions order
order_up_to at [] = ([], record { same = λ v. (λ i. absurd i, λ i. absurd i.0); rising = tt })
order_up_to at (v ∷ versions) = ⊎_elim (above (order_up_to at versions)) (within (order_up_to at versions)) (cases_lt at v.sequence)
  where
    within : (order : List Version) × IsOrderUpTo at versions order → v.sequence ≤ at → (order : List Version) × IsOrderUpTo at (v ∷ versions) order
    within rest le =
        let more = put v rest.0 rest.1.rising in (
          more.0,
          record {
            same = λ x. (
              λ i. elim ((more.1.same x).0 i) [
                | inl e ↦ (inl e, let s = ap (λ (y : Version). y.sequence) e in omega arith)
                | inr j ↦ let there = (rest.1.same x).0 j in (inr there.0, there.1)
              ],
              λ i. elim i.0 [
                | inl e ↦ (more.1.same x).1 (inl e)
                | inr j ↦ (more.1.same x).1 (inr ((rest.1.same x).1 (j, i.1)))
              ],
            );
            rising = more.1.rising;
          },
        )

    above : (order : List Version) × IsOrderUpTo at versions order → at < v.sequence → (order : List Version) × IsOrderUpTo at (v ∷ versions) order
    above rest less = (
      rest.0,
      record {
        same = λ x. (
          λ i. let there = (rest.1.same x).0 i in (inr there.0, there.1),
          λ i. elim i.0 [
            | inl e ↦ let s = ap (λ (y : Version). y.sequence) e in let le = i.1 in absurd (omega arith)
            | inr j ↦ (rest.1.same x).1 (j, i.1)
          ],
        );
        rising = rest.1.rising;
      },
    )
