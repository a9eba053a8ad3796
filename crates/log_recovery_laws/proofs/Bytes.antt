-- Parts of lists of bytes, and such lists joined, are lists of bytes.
use Rattle.std.proofs.Common.{ℕ, zero, suc, ◌<◌, List, [], ◌∷◌, ◌++◌, take, drop, get_or, sym, subst, arith}
use Rattle.std.proofs.Math.Dec.{lit<}
use Rattle.std.proofs.lemmas.List.{get_or_past}
use Rattle.log_recovery_laws.specs.Reads.{AreBytes}

pub bytes_take : (n : ℕ) (bytes : List ℕ) → AreBytes bytes → AreBytes (take n bytes)
bytes_take zero bytes are = tt
bytes_take (suc n) [] are = tt
bytes_take (suc n) (b ∷ bytes) are = (are.0, bytes_take n bytes are.1)

pub bytes_drop : (n : ℕ) (bytes : List ℕ) → AreBytes bytes → AreBytes (drop n bytes)
bytes_drop zero bytes are = are
bytes_drop (suc n) [] are = tt
bytes_drop (suc n) (b ∷ bytes) are = bytes_drop n bytes are.1

pub bytes_at : (bytes : List ℕ) → AreBytes bytes → (k : ℕ) → get_or bytes k 0 < 256
bytes_at [] are k = subst (λ x. x < 256) (sym (get_or_past [] k 0 (omega arith))) (lit< tt)
bytes_at (b ∷ bytes) are zero = are.0
bytes_at (b ∷ bytes) are (suc k) = bytes_at bytes are.1 k

pub bytes_front : (xs ys : List ℕ) → AreBytes (xs ++ ys) → AreBytes xs
bytes_front [] ys are = tt
bytes_front (x ∷ xs) ys are = (are.0, bytes_front xs ys are.1)

pub bytes_back : (xs ys : List ℕ) → AreBytes (xs ++ ys) → AreBytes ys
bytes_back [] ys are = are
bytes_back (x ∷ xs) ys are = bytes_back xs ys are.1

pub bytes_joined : (xs ys : List ℕ) → AreBytes xs → AreBytes ys → AreBytes (xs ++ ys)
bytes_joined [] ys are_x are_y = are_y
bytes_joined (x ∷ xs) ys are_x are_y = (are_x.0, bytes_joined xs ys are_x.1 are_y)
