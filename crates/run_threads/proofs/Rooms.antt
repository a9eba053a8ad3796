-- There is room for what a client adds: all of it fits into one batch.
use Rattle.std.proofs.Common.{◌≡◌, ℕ, ◌+◌, ◌≤◌, inl, inr, List, [], ◌∷◌, ◌++◌, length, ap, sym, ◌∙◌, subst, refl, arith, length-append, append_assoc}
use Rattle.std.proofs.lemmas.Grind.{flat_map-append}
use Rattle.model_base.specs.declared.limits.TheConstants.{MAX_SIZE}
use Rattle.model_base.specs.Batch.{Record, count_of, record_bytes, header, body, batch, size_of_batch}
use Rattle.model_base.specs.Calls as calls
use Rattle.run_scripts.specs.Scripts.{additions_of}
use Rattle.run_threads.specs.Answers.{HasRoom, IsLeft}

-- the length of a batch doesn't depend on its sequence
size_is : (sequence : ℕ) (records : List Record) → length (batch sequence records) ≡ 12 + length (body records)
size_is sequence records = length-append (header sequence (count_of records)) (body records)

size_both : (xs ys : List Record) → size_of_batch (xs ++ ys) ≡ size_of_batch xs + length (body ys)
size_both xs ys = omega (arith, size_is 0 (xs ++ ys), size_is 0 xs, ap length (flat_map-append record_bytes xs ys), length-append (body xs) (body ys))

-- the first records of a batch are no larger than the batch, and neither is what comes after them
front_small : (xs ys : List Record) (limit : ℕ) → size_of_batch (xs ++ ys) ≤ limit → size_of_batch xs ≤ limit
front_small xs ys limit fits = omega (arith, fits, size_both xs ys)

rest_small : (xs ys : List Record) (limit : ℕ) → size_of_batch (xs ++ ys) ≤ limit → size_of_batch ys ≤ limit
rest_small xs ys limit fits = omega (arith, fits, size_both xs ys, size_is 0 xs, size_is 0 ys)

additions_split : (c : calls.Command) (rest : List calls.Command) → additions_of (c ∷ rest) ≡ additions_of (c ∷ []) ++ additions_of rest
additions_split (calls.add r) rest = refl
additions_split calls.clear rest = refl
additions_split (calls.commit how) rest = refl
additions_split (calls.get key) rest = refl
additions_split (calls.many keys) rest = refl
additions_split (calls.scan family lo hi) rest = refl
additions_split (calls.updates n) rest = refl
additions_split calls.stop rest = refl
additions_split calls.unstop rest = refl
additions_split (calls.slow rate) rest = refl
additions_split calls.unslow rest = refl

module _ (records : List Record) (c : calls.Command) (rest : List calls.Command) (fits : HasRoom records (c ∷ rest)) where
  both_fit : size_of_batch ((records ++ additions_of (c ∷ [])) ++ additions_of rest) ≤ MAX_SIZE
  both_fit = subst (λ (l : List Record). size_of_batch l ≤ MAX_SIZE) (ap (λ (l : List Record). records ++ l) (additions_split c rest) ∙ sym (append_assoc records (additions_of (c ∷ [])) (additions_of rest))) fits

  -- there is room for the next command
  pub has_room : HasRoom records (c ∷ [])
  has_room = front_small (records ++ additions_of (c ∷ [])) (additions_of rest) MAX_SIZE both_fit

  -- and then there is room for the others
  pub fits_still : (after : List Record) → IsLeft records c after → HasRoom after rest
  fits_still after (inl none) = subst (λ (l : List Record). HasRoom l rest) (sym none) (rest_small (records ++ additions_of (c ∷ [])) (additions_of rest) MAX_SIZE both_fit)
  fits_still after (inr more) = subst (λ (l : List Record). HasRoom l rest) (sym more) both_fit
