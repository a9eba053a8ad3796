-- One more record, one more batch and one more client.
use Rattle.std.proofs.Common.{◌≡◌, ℕ, ◌+◌, ◌-◌, ◌<◌, zero, suc, List, [], ◌∷◌, ◌++◌, map, ap, sym, ◌∙◌, arith, append_assoc}
use Rattle.std.specs.List.{range_with_len}
use Rattle.std.proofs.lemmas.List.FromFn.{map-range_with_len_more}
use Rattle.model_base.specs.Calls.{Command, add}
use Rattle.model_base.specs.Generator.{first_state, record_drawn, with_rest, records_drawn, batch_drawn, batches_drawn}

records_more : (left client state : ℕ) → 0 < left → records_drawn left client state ≡ with_rest (record_drawn client state) (records_drawn (left - 1) client (record_drawn client state).state)
records_more zero client state some = absurd (omega arith)
records_more (suc n) client state some =
    let r = record_drawn client state in
    let same : n ≡ suc n - 1 = omega arith in
    ap (λ m. with_rest r (records_drawn m client r.state)) same

batches_more : (left client state : ℕ) → 0 < left → batches_drawn left client state ≡ (batch_drawn client state).made ++ batches_drawn (left - 1) client (batch_drawn client state).state
batches_more zero client state some = absurd (omega arith)
batches_more (suc n) client state some =
    let b = batch_drawn client state in
    let same : n ≡ suc n - 1 = omega arith in
    ap (λ m. b.made ++ batches_drawn m client b.state) same

-- with one more record, one less of them is left
pub records_go_on : (left client state after : ℕ) (cs ds : List Command) → 0 < left
    → ds ≡ cs ++ add (record_drawn client state).made ∷ [] → after ≡ (record_drawn client state).state
    → ds ++ (records_drawn (left - 1) client after).made ≡ cs ++ (records_drawn left client state).made
records_go_on left client state after cs ds some said is =
    ap (λ (b : List Command). b ++ (records_drawn (left - 1) client after).made) said
    ∙ append_assoc cs (add (record_drawn client state).made ∷ []) (records_drawn (left - 1) client after).made
    ∙ ap (λ (s : ℕ). cs ++ (add (record_drawn client state).made ∷ (records_drawn (left - 1) client s).made)) is
    ∙ ap (λ d. cs ++ d.made) (sym (records_more left client state some))

pub records_end_at : (left client state after : ℕ) → 0 < left → after ≡ (record_drawn client state).state
    → (records_drawn (left - 1) client after).state ≡ (records_drawn left client state).state
records_end_at left client state after some is =
    ap (λ (s : ℕ). (records_drawn (left - 1) client s).state) is ∙ ap (λ d. d.state) (sym (records_more left client state some))

-- with one more batch, one less of them is left
pub batches_go_on : (left client state after : ℕ) (cs ds : List Command) → 0 < left
    → ds ≡ cs ++ (batch_drawn client state).made → after ≡ (batch_drawn client state).state
    → ds ++ batches_drawn (left - 1) client after ≡ cs ++ batches_drawn left client state
batches_go_on left client state after cs ds some said is =
    ap (λ (b : List Command). b ++ batches_drawn (left - 1) client after) said
    ∙ append_assoc cs (batch_drawn client state).made (batches_drawn (left - 1) client after)
    ∙ ap (λ (s : ℕ). cs ++ ((batch_drawn client state).made ++ batches_drawn (left - 1) client s)) is
    ∙ ap (λ (b : List Command). cs ++ b) (sym (batches_more left client state some))

-- the clients so far, and one more
pub clients_more : (seed batches before : ℕ) (clients : List (List Command)) (more : List Command)
    → more ≡ batches_drawn batches (before + 1) (first_state seed (before + 1))
    → clients ≡ map (λ client. batches_drawn batches client (first_state seed client)) (range_with_len 1 before)
    → clients ++ more ∷ [] ≡ map (λ client. batches_drawn batches client (first_state seed client)) (range_with_len 1 (before + 1))
clients_more seed batches before clients more said so_far =
    let drawn = λ (client : ℕ). batches_drawn batches client (first_state seed client) in
    ap (λ (b : List (List Command)). b ++ more ∷ []) so_far
    ∙ ap (λ (b : List Command). map drawn (range_with_len 1 before) ++ b ∷ []) said
    ∙ sym (map-range_with_len_more drawn 1 before (before + 1) (omega arith))
