-- Replies that are not those of a map: each breaks a part of the definition.
use Rattle.std.proofs.Common.{◌≡◌, ℕ, ◌≤◌, ◌⊎◌, inl, inr, true, false, List, [], ◌∷◌, ◌++◌, Some, None, codes, refl, subst, arith, ◌<◌, ◌+◌}
use Rattle.model_base.specs.declared.write.Refusal.TheVariants as no
use Rattle.model_base.specs.Varint.{varint_within}
use Rattle.model_base.specs.Map.{value_at}
use Rattle.model_base.specs.History.{Entry, last_sequence, map_of, max_sequence}
use Rattle.model_base.specs.Runs.{commands_of}
use Rattle.model_base.specs.Calls.{add, commit, get, quiet, accepted, found, Call, refused}
use Rattle.model_core.specs.Core.{Client}
use Rattle.model_core.specs.Replies.{ReadsAt, IsAnswered, IsOnItsWay}
use Rattle.model_core_laws.specs.Examples.{refused_for, single_stage, plain, key_a, put_a1, put_a2, first_entry, wrote, reading, told_in, AreRightIn}

pub no_entry : (front rest : List Entry) → [] ≡ front ++ rest → front ≡ []
no_entry [] rest e = refl
no_entry (x ∷ front) rest e = absurd (cc)

pub one_entry : (y : Entry) (front rest : List Entry) → y ∷ [] ≡ front ++ rest → (front ≡ []) ⊎ (front ≡ y ∷ [])
one_entry y [] rest e = inl refl
one_entry y (x ∷ front) rest e = let f : y ≡ x = cc in let g : [] ≡ front ++ rest = cc in let h = no_entry front rest g in inr (cc (f, h))

-- the client's part
abbrev the_client : List Call → Client
the_client calls = record { left = []; added = []; calls = calls; idle = true }

part : (entries : List Entry) (last : ℕ) (calls : List Call) → AreRightIn entries last calls → IsAnswered single_stage (told_in entries last calls) 1 (commands_of calls) (the_client calls)
part entries last calls is = is.each 1 (commands_of calls) (the_client calls) refl refl

pub never_written : AreRightIn [] 0 (reading (found 0 (Some (codes "1")))) → ⊥
never_written is =
    let read : ReadsAt single_stage (told_in [] 0 (reading (found 0 (Some (codes "1"))))) [] 0 (λ m. Some (codes "1") ≡ value_at m key_a) =
    (part [] 0 (reading (found 0 (Some (codes "1")))) is).right [] (record { command = get key_a; reply = found 0 (Some (codes "1")) }) [] refl in
    let none = no_entry read.front read.is_front.rest read.is_front.split in
    let answer : Some (codes "1") ≡ None = subst (λ front. Some (codes "1") ≡ value_at (map_of front) key_a) none read.answer in cc

not_five : (n : ℕ) → n ≤ 1 → 5 ≡ n → ⊥
not_five n small e = omega arith

pub between : AreRightIn (first_entry put_a1 ∷ []) 1 (reading (found 5 None)) → ⊥
between is =
    let read : ReadsAt single_stage (told_in (first_entry put_a1 ∷ []) 1 (reading (found 5 None))) [] 5 (λ m. None ≡ value_at m key_a) =
    (part (first_entry put_a1 ∷ []) 1 (reading (found 5 None)) is).right [] (record { command = get key_a; reply = found 5 None }) [] refl in
    elim (one_entry (first_entry put_a1) read.front read.is_front.rest read.is_front.split) as (λ _. ⊥) [
      | inl e ↦ not_five 0 (omega arith) (subst (λ front. 5 ≡ last_sequence 0 front) e read.is_front.ends)
      | inr e ↦ not_five 1 (omega arith) (subst (λ front. 5 ≡ last_sequence 0 front) e read.is_front.ends)
    ]

pub stale : AreRightIn (first_entry put_a1 ∷ []) 1 (wrote put_a1 ++ reading (found 0 None)) → ⊥
stale is =
    let read : ReadsAt single_stage (told_in (first_entry put_a1 ∷ []) 1 (wrote put_a1 ++ reading (found 0 None))) (wrote put_a1) 0 (λ m. None ≡ value_at m key_a) =
    (part (first_entry put_a1 ∷ []) 1 (wrote put_a1 ++ reading (found 0 None)) is).right (wrote put_a1) (record { command = get key_a; reply = found 0 None }) [] refl in
    let below : 1 ≤ 0 = read.not_below in omega arith

pub lost : AreRightIn [] 0 (wrote put_a1) → ⊥
lost is = by (part [] 0 (wrote put_a1) is).entries
  where
    by : ([] ≡ first_entry put_a1 ∷ []) ⊎ IsOnItsWay (told_in [] 0 (wrote put_a1)) 1 (the_client (wrote put_a1)) (part [] 0 (wrote put_a1) is).rest → ⊥
    by (inl e) = cc
    by (inr e) = let idle : true ≡ false = e.waits in cc

pub never_committed : AreRightIn (first_entry put_a1 ∷ []) 1 [] → ⊥
never_committed is = by (part (first_entry put_a1 ∷ []) 1 [] is).entries
  where
    by : (first_entry put_a1 ∷ [] ≡ []) ⊎ IsOnItsWay (told_in (first_entry put_a1 ∷ []) 1 []) 1 (the_client []) (part (first_entry put_a1 ∷ []) 1 [] is).rest → ⊥
    by (inl e) = cc
    by (inr e) = let idle : true ≡ false = e.waits in cc

records_differ : put_a2 ∷ [] ≡ put_a1 ∷ [] → ⊥
records_differ e = let digit : ◌≡◌ {A = ℕ} 50 49 = cc in omega arith

pub another_record : AreRightIn (first_entry put_a2 ∷ []) 1 (wrote put_a2) → ⊥
unfolding varint_within
another_record is = records_differ
    ((part (first_entry put_a2 ∷ []) 1 (wrote put_a2) is).right (record { command = add put_a1; reply = quiet } ∷ []) (record { command = commit plain; reply = accepted 1 1 (put_a2 ∷ []) }) [] refl).batch

pub no_fault : AreRightIn [] 0 (refused_for (no.LogFault 1)) → ⊥
unfolding varint_within
no_fault is =
    let log_failed : false ≡ true = ((part [] 0 (refused_for (no.LogFault 1)) is).right (record { command = add put_a1; reply = quiet } ∷ []) (record { command = commit plain; reply = refused (no.LogFault 1) }) [] refl).1 in cc

pub has_room : AreRightIn [] 0 (refused_for (no.SequenceFull 0)) → ⊥
unfolding varint_within
has_room is =
    let past : max_sequence < 0 + 1 = ((part [] 0 (refused_for (no.SequenceFull 0)) is).right (record { command = add put_a1; reply = quiet } ∷ []) (record { command = commit plain; reply = refused (no.SequenceFull 0) }) [] refl).3 in
    omega (arith, past)
